-- The incarnations to which editions may be due, and the editions that are still due to one of them.
use Rattle.std.specs.Prelude.{ℕ, Bool, true, List, [], ◌∷◌, Option, Some, None, ◌==◌, ◌&&◌, ◌||◌, not, nat_lt, nat_le, if◌then◌else◌, filter}
use Rattle.std.specs.List.{list_any}
use Rattle.std.specs.Arc.{arc_value}
use Rattle.okws_base.specs.Past.{last_by, is_just}
use Rattle.okws_base.specs.declared.journal.Entry.{Entry}
use Rattle.okws_plan.specs.Configuration.{reads, template_name}
use Rattle.okws_plan.specs.declared.configuration.Config.{Config}
use Rattle.okws_plan.specs.declared.event.PubdEvent.{PubdEvent}
use Rattle.monitor_model.specs.Standing.{pubd_grant, live_at_pubd}
use Rattle.monitor_model.specs.declared.verdict.Push.{Push}
use Rattle.pubd_core.specs.declared.kept.Publication.{Publication}
use Rattle.pubd_core.specs.declared.readers.Reader.{Reader}

-- Incarnation k of s is live, or none of s that was installed is above it: it is live or may yet be.
abbrev pub may_stand : List (Entry PubdEvent) → ℕ → ℕ → Bool
may_stand J s k = nat_lt (last_by pubd_grant J s) k || live_at_pubd J s k

-- The reader is incarnation k of s.
abbrev pub is_reader : ℕ → ℕ → Reader → Bool
is_reader s k r = (r.service == s) && (r.incarnation == k)

-- How many editions had been published at the last Drain of (s, k), as kept.
abbrev pub heard_in : List Reader → ℕ → ℕ → Option ℕ
heard_in [] s k = None
heard_in (r ∷ R) s k = if is_reader s k r then Some r.heard else heard_in R s k

-- A reader that isn't of s, or is above the last incarnation, or stands.
abbrev pub is_kept : ℕ → ℕ → Option ℕ → Reader → Bool
is_kept s last standing r = not (r.service == s) || (nat_lt last r.incarnation || is_just r.incarnation standing)

-- The readers but those of s that can't stand any more.
abbrev pub kept_readers : ℕ → ℕ → Option ℕ → List Reader → List Reader
kept_readers s last standing R = filter (is_kept s last standing) R

-- The readers but incarnation k of s.
abbrev pub other_readers : ℕ → ℕ → List Reader → List Reader
other_readers s k R = filter (λ (r : Reader). not (is_reader s k r)) R

-- An edition is due to a service that reads its template and had heard of the first `heard` publications.
abbrev pub is_due : Config → ℕ → ℕ → Publication → Bool
is_due C s heard p = reads C s p.template && nat_le heard p.place

-- An edition is due to one of the readers.
abbrev pub is_wanted : Config → List Reader → Publication → Bool
is_wanted C R p = list_any (λ (r : Reader). is_due C r.service r.heard p) R

-- The editions that are due to one of the readers.
abbrev pub wanted : Config → List Reader → List Publication → List Publication
wanted C R P = filter (is_wanted C R) P

-- The push that tells of an edition of template t.
abbrev pub push_of : Config → Publication → Push
push_of C p = record { template = template_name C p.template; edition = p.edition.number; content = arc_value p.edition.content }

-- The pushes that are due to a service that had heard of the first `heard` publications, in order.
abbrev pub news_in : Config → ℕ → ℕ → List Publication → List Push
news_in C s heard [] = []
news_in C s heard (p ∷ P) = if is_due C s heard p then push_of C p ∷ news_in C s heard P else news_in C s heard P
