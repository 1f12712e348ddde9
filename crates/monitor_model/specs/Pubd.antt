-- The verdicts of pubd, looking back along its past J.
use Rattle.std.specs.Prelude.{ℕ, ◌+◌, Bool, true, false, List, [], ◌∷◌, ◌++◌, Option, Some, None, ◌==◌, ◌&&◌, nat_lt, nat_le, not, if◌then◌else◌, length, zero, suc}
use Rattle.okws_base.specs.declared.journal.Entry.{Entry}
use Rattle.okws_base.specs.declared.denial.Rule.TheVariants as rule
use Rattle.okws_base.specs.declared.limit.TheConstants.{MOST_EDITIONS, LONGEST_TEMPLATE}
use Rattle.okws_plan.specs.Configuration.{in_force, reads, template_named, template_name}
use Rattle.okws_plan.specs.declared.configuration.Config.{Config}
use Rattle.okws_plan.specs.declared.event.PubdEvent.{PubdEvent}
use Rattle.okws_plan.specs.declared.event.PubdEvent.TheVariants as event
use Rattle.monitor_model.specs.declared.verdict.Push.{Push}
use Rattle.monitor_model.specs.declared.verdict.Got.{Got}
use Rattle.monitor_model.specs.declared.verdict.Got.TheVariants.{Template, Denied}
use Rattle.monitor_model.specs.declared.verdict.Published.{Published}
use Rattle.monitor_model.specs.declared.verdict.Published.TheVariants.{Edition, NoSuchTemplate, TooLong, EditionsSpent}
use Rattle.monitor_model.specs.Standing.{live_at_pubd}

-- The edition of template u after an event.
abbrev pub edition_after : PubdEvent → ℕ → ℕ → ℕ
edition_after (event.Publish t content) u before = if t == u then before + 1 else before
edition_after (event.Install s k) u before = before
edition_after (event.Revoke s k) u before = before
edition_after (event.Drain s k) u before = before
edition_after (event.Get s k name) u before = before

-- The edition of template t is the number of its publications.
abbrev pub edition : List (Entry PubdEvent) → ℕ → ℕ
edition [] t = 0
edition (e ∷ J) t = edition_after e.event t (edition J t)

-- The text of template u after an event.
abbrev pub text_after : PubdEvent → ℕ → List ℕ → List ℕ
text_after (event.Publish t content) u before = if t == u then content else before
text_after (event.Install s k) u before = before
text_after (event.Revoke s k) u before = before
text_after (event.Drain s k) u before = before
text_after (event.Get s k name) u before = before

-- The text of template t is that of its last publication.
abbrev pub text : List (Entry PubdEvent) → ℕ → List ℕ
text [] t = []
text (e ∷ J) t = text_after e.event t (text J t)

-- Whether a Drain of (s, k) was entered after an event.
abbrev pub drained_after : PubdEvent → ℕ → ℕ → Bool → Bool
drained_after (event.Drain t j) s k before = if (t == s) && (j == k) then true else before
drained_after (event.Install t j) s k before = before
drained_after (event.Revoke t j) s k before = before
drained_after (event.Publish t content) s k before = before
drained_after (event.Get t j name) s k before = before

-- A Drain of (s, k) was entered, live or not.
abbrev pub drained : List (Entry PubdEvent) → ℕ → ℕ → Bool
drained [] s k = false
drained (e ∷ J) s k = drained_after e.event s k (drained J s k)

-- The current edition of template t, by its name.
abbrev pub current : Config → List (Entry PubdEvent) → ℕ → Push
current C J t = record { template = template_name C t; edition = edition J t; content = text J t }

-- The current edition of each of n templates, from t on, that s reads and that has one, in configuration order.
abbrev pub current_from : Config → List (Entry PubdEvent) → ℕ → ℕ → ℕ → List Push
current_from C J s t zero = []
current_from C J s t (suc n) =
    if reads C s t && nat_lt 0 (edition J t) then current C J t ∷ current_from C J s (t + 1) n
    else current_from C J s (t + 1) n

-- What is due to (s, k) after an event, on the entries J before it, from what was due before it.
abbrev pub news_after : Config → List (Entry PubdEvent) → PubdEvent → ℕ → ℕ → List Push → List Push
news_after C J (event.Publish t content) s k before =
    if reads C s t then before ++ record { template = template_name C t; edition = edition J t + 1; content = content } ∷ [] else before
news_after C J (event.Drain t j) s k before = if (t == s) && (j == k) then [] else before
news_after C J (event.Install t j) s k before = before
news_after C J (event.Revoke t j) s k before = before
news_after C J (event.Get t j name) s k before = before

-- Each publication of a template that s reads since the last Drain of (s, k), with its edition, in order.
abbrev pub news : Config → List (Entry PubdEvent) → ℕ → ℕ → List Push
news C [] s k = []
news C (e ∷ J) s k = news_after C J e.event s k (news C J s k)

-- A Drain gives no pushes where the incarnation isn't live; at its first Drain the current editions; else the publications since the last.
abbrev pub drain_verdict : Config → List (Entry PubdEvent) → ℕ → ℕ → List Push
drain_verdict C J s k =
    if not (live_at_pubd J s k) then []
    else if drained J s k then news (in_force C J) J s k
    else current_from (in_force C J) J s 0 (length (in_force C J).templates)

-- A template's edition and text, or that it has none.
abbrev pub get_of : List (Entry PubdEvent) → ℕ → Got
get_of J t = if edition J t == 0 then Denied rule.TemplateUnpublished else Template (edition J t) (text J t)

-- What a Get of a template is answered where its name is that of number t, or of none.
abbrev pub get_named : Config → List (Entry PubdEvent) → ℕ → Option ℕ → Got
get_named C J s None = Denied rule.TemplateNotGranted
get_named C J s (Some t) = if reads C s t then get_of J t else Denied rule.TemplateNotGranted

-- A Get is denied by the first rule that it breaks, stale, not granted (or not declared), unpublished; else it is the edition and the text.
abbrev pub get_verdict : Config → List (Entry PubdEvent) → ℕ → ℕ → List ℕ → Got
get_verdict C J s k name =
    if not (live_at_pubd J s k) then Denied rule.StaleAtPubd
    else get_named (in_force C J) J s (template_named (in_force C J) name)

-- Template t may have one edition more, or all are spent.
abbrev pub next_edition : List (Entry PubdEvent) → ℕ → Published
next_edition J t = if nat_lt (edition J t) MOST_EDITIONS then Edition (edition J t + 1) else EditionsSpent

-- A publication, whose template has number t, or none where no template has the name, is refused where there is none, where it is over 262,144 bytes, or where the template has had
-- 1,000,000 editions; else its edition is one more than before.
abbrev pub publish_at : List (Entry PubdEvent) → Option ℕ → List ℕ → Published
publish_at J None content = NoSuchTemplate
publish_at J (Some t) content = if nat_le (length content) LONGEST_TEMPLATE then next_edition J t else TooLong
