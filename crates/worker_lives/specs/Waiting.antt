-- That what a worker entered at the launcher leads on: by what it entered there next, what it noted next, and what was begun.
use Rattle.std.specs.Prelude.{◌≡◌, ℕ, Bool, true, false, List, [], ◌∷◌, ◌++◌, ◌==◌, ◌&&◌, ◌||◌, Option, Some, None, if◌then◌else◌, length, map, nat_le, not, IsTrue}
use Rattle.okws_base.specs.Past.{Grows}
use Rattle.okws_base.specs.declared.journal.Entry.{Entry}
use Rattle.okws_base.specs.declared.limit.TheConstants.{MOST_INCARNATIONS}
use Rattle.okws_plan.specs.declared.configuration.Config.{Config}
use Rattle.okws_plan.specs.declared.event.LauncherEvent.{LauncherEvent}
use Rattle.okws_plan.specs.declared.event.LauncherEvent.TheVariants.{Begun, Failed, Crashed, Dead, Asked}
use Rattle.monitor_model.specs.declared.record.Own.{Own}
use Rattle.monitor_model.specs.declared.record.Record.{Record}
use Rattle.monitor_model.specs.Causes.{all_lead_on, is_launcher_item, item_after_nth, launcher_count, settles}
use Rattle.monitor_model.specs.Launcher.{begun}
use Rattle.monitor_model.specs.Launches.{is_want}
use Rattle.monitor_model.specs.Pieces.{worker_list}
use Rattle.monitor_model.specs.Placed.{count_of}
use Rattle.monitor_model.specs.Worker.{IsWorker, Piece}
use Rattle.worker_lives.specs.Going.{entries_by}
use Rattle.worker_lives.specs.Listing.{first_item}

-- The worker's next event at the launcher, if there is one, settles what s waits for.
abbrev pub settled_by : ℕ → Option LauncherEvent → Bool
settled_by s None = false
settled_by s (Some e) = settles s e

-- s waits no longer, where `most` tells the greatest incarnations begun: the next event settles it, or it is known that it is given an end, or the last incarnation of s was begun.
abbrev pub is_served : (ℕ → ℕ) → Bool → Option LauncherEvent → ℕ → Bool
is_served most ended next s = settled_by s next || (ended || nat_le MOST_INCARNATIONS (most s))

-- What waits for an event at the launcher, behind these entries, waits no longer so.
abbrev pub leads_to : (ℕ → ℕ) → Bool → Option LauncherEvent → List (Entry LauncherEvent) → LauncherEvent → Bool
leads_to most ended next J (Asked s) = is_served most ended next s
leads_to most ended next J (Failed s k) = not (k == begun J s) || is_served most ended next s
leads_to most ended next J (Crashed s k) = not (k == begun J s) || is_served most ended next s
leads_to most ended next J (Begun s k) = true
leads_to most ended next J (Dead s n) = true

-- The same of each event that worker w entered, whose list has these items, where `next` is its event behind them. Where something is owed, the last one need not lead on yet.
abbrev pub own_lead : ℕ → (ℕ → ℕ) → Bool → List Own → Option LauncherEvent → List (Entry LauncherEvent) → Bool
own_lead w most owed items next [] = true
own_lead w most owed items next (e ∷ J) =
    if e.worker == w
    then leads_to most (owed || is_want (item_after_nth (count_of w J) None items)) next J e.event && own_lead w most false items (Some e.event) J
    else own_lead w most owed items next J

-- The same of the events of one turn of worker w, the newest first, on these entries.
abbrev pub turn_leads : ℕ → (ℕ → ℕ) → Bool → Option LauncherEvent → List LauncherEvent → List (Entry LauncherEvent) → Bool
turn_leads w most owed next [] J = true
turn_leads w most owed next (e ∷ events) J = leads_to most owed next (entries_by w events ++ J) e && turn_leads w most false (Some e) events J

-- The last of these events is owed an end where memory was refused.
abbrev pub owes : Bool → List LauncherEvent → Bool
owes starved [] = false
owes starved (e ∷ events) = starved

-- The newest item is an event at the launcher.
abbrev pub ends_in_launch : List Own → Bool
ends_in_launch [] = false
ends_in_launch (item ∷ items) = is_launcher_item item == 1

-- What worker w entered in what it has seen of the launcher's journal leads on by these items; where something is owed, all but the newest item.
pub record LeadsSo (w : ℕ) (owed : Bool) (items : List Own) (seen : List (Entry LauncherEvent)) : Type 0 where
  pub counted : launcher_count items ≡ count_of w seen
  pub lead : own_lead w (begun seen) owed items None seen ≡ true
  pub last : owed ≡ true → ends_in_launch items ≡ true

-- What worker w, whose list has these items, entered in a record leads on.
abbrev pub leads_in : Record → ℕ → List Own → Bool
leads_in R w items = own_lead w (begun R.launcher) false items None R.launcher

-- Where the first items of a worker's pieces lead on by what it had seen, and the record went on from that by others' entries, its list leads on in the record.
abbrev pub PiecesLead : Type 0
PiecesLead = (C : Config) (R : Record) (w : ℕ) (pieces : List Piece) (items : List Own) (seen : List (Entry LauncherEvent)) → length R.proxies ≡ length C.proxies → IsWorker C R w pieces items
    → LeadsSo w false (map first_item pieces) seen → Grows w seen R.launcher → IsTrue (leads_in R w items)

-- Where what each worker entered in a record leads on by its list, all entries of the launcher's journal lead on.
abbrev pub WorkersLead : Type 0
WorkersLead = (R : Record) → ((w : ℕ) → IsTrue (leads_in R w (worker_list R w))) → IsTrue (all_lead_on R [] R.launcher)
