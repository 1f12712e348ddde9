-- What a worker's hands answer, by what its number has seen.
use Rattle.std.specs.Prelude.{◌≡◌, ℕ, List, Some}
use Rattle.okws_base.specs.Turns.{Behind}
use Rattle.okws_base.specs.declared.journal.Entry.{Entry}
use Rattle.okws_plan.specs.declared.configuration.Config.{Config}
use Rattle.okws_plan.specs.declared.event.OkdEvent.{OkdEvent}
use Rattle.okws_plan.specs.declared.event.PubdEvent.{PubdEvent}
use Rattle.okws_plan.specs.declared.event.PubdEvent.TheVariants.{Publish}
use Rattle.monitor_model.specs.Pubd.{publish_at}
use Rattle.monitor_model.specs.Seen.{AtPubd}
use Rattle.monitor_model.specs.declared.verdict.Published.{Published}
use Rattle.monitor_model.specs.declared.verdict.Published.TheVariants.{Edition, NoSuchTemplate, TooLong, EditionsSpent}
use Rattle.named_columns.specs.Counts.{accepts, capped, logged, publications, ups}
use Rattle.site_locks.specs.Heard.{ColumnsBehind, columns_of}
use Rattle.site_locks.specs.Sat.{Sat, seen_of}
use Rattle.site_worker.specs.declared.hands.Counted.{Counted}

-- A publication of template t by what the number has seen: an edition is entered, on what it had seen at its own last entry there and what others entered since; where there is none, that is said of all that it then has seen of pubd, and nothing is entered.
abbrev pub PublishesAt : ℕ → List ℕ → Published → Sat → Sat → Type 0
PublishesAt t content (Edition n) s now =
    (before : List (Entry PubdEvent)) × (Edition n ≡ publish_at before (Some t) content) × AtPubd s.number (Publish t content) (seen_of s) before (seen_of now)
PublishesAt t content NoSuchTemplate s now = (NoSuchTemplate ≡ publish_at now.pubd (Some t) content) × (seen_of now ≡ seen_of s)
PublishesAt t content TooLong s now = (TooLong ≡ publish_at now.pubd (Some t) content) × (seen_of now ≡ seen_of s)
PublishesAt t content EditionsSpent s now = (EditionsSpent ≡ publish_at now.pubd (Some t) content) × (seen_of now ≡ seen_of s)

-- The number is the same, what it has seen and drawn on the board, and how many items it may note without memory; what it had seen of the proxies, of pubd and of oklogd it has seen still.
pub record SameBoard (s now : Sat) : Type 0 where
  pub number_is : now.number ≡ s.number
  pub board_is : now.board ≡ s.board
  pub drawn_is : now.drawn ≡ s.drawn
  pub spare_is : now.spare ≡ s.spare
  pub behind : ColumnsBehind (columns_of s) (columns_of now)

-- Each past of a journal is a past of it still: nothing went away.
abbrev pub KeepsPasts : {E : Type 0} → List E → List E → Type 0
KeepsPasts {E} old new = (past : List E) → Behind past old → Behind past new

-- What is counted of the journals of okd, pubd and oklogd, each as the number has seen it then; at okd it has seen what it was shown of what another number had seen. Nothing was entered.
pub record CountsAt (C : Config) (shown : List (Entry OkdEvent)) (t : Counted) (s now : Sat) : Type 0 where
  pub accepts_are : t.accepts ≡ capped (accepts now.okd)
  pub launches_are : t.launches ≡ capped (ups now.okd)
  pub publications_are : t.publications ≡ capped (publications now.pubd)
  pub logged_are : t.logged ≡ capped (logged C now.oklogd)
  pub met : Behind shown now.okd
  pub seen_is : seen_of now ≡ seen_of s
  pub okd : KeepsPasts s.okd now.okd
  pub pubd : KeepsPasts s.pubd now.pubd
  pub oklogd : KeepsPasts s.oklogd now.oklogd
  pub same : SameBoard s now
