-- How what a number has seen is tied to its own items, and to the record that is left: laws by which what is known beside a worker's seats becomes a fact of the record.
use Rattle.std.specs.Prelude.{◌≡◌, ℕ, suc, List, [], ◌∷◌, ◌++◌, filter_map, length, IsTrue, None}
use Rattle.okws_base.specs.Past.{Grows, events_of}
use Rattle.okws_base.specs.Runs.{Each}
use Rattle.okws_base.specs.declared.journal.Entry.{Entry}
use Rattle.okws_plan.specs.declared.configuration.Config.{Config}
use Rattle.okws_plan.specs.declared.event.ProxyEvent.{ProxyEvent}
use Rattle.monitor_model.specs.declared.record.CellEvent.{CellEvent}
use Rattle.monitor_model.specs.declared.record.CellEvent.TheVariants.{Boot, Retired, Missed, Dialog, Speaking}
use Rattle.monitor_model.specs.declared.record.End.{End}
use Rattle.monitor_model.specs.declared.record.Item.{Item}
use Rattle.monitor_model.specs.declared.record.Own.{Own}
use Rattle.monitor_model.specs.declared.record.Record.{Record}
use Rattle.monitor_model.specs.Cell.{CellLaw}
use Rattle.monitor_model.specs.Connections.{Visit, Carries, visits_to}
use Rattle.monitor_model.specs.Connections as visit
use Rattle.monitor_model.specs.Course.{Speaker, IsDialog}
use Rattle.monitor_model.specs.Lawful.{AllStandThere, IsFitting}
use Rattle.monitor_model.specs.Merged.{okd_item, proxy_item, pubd_item, log_item, launcher_item}
use Rattle.monitor_model.specs.Missing.{AreTrulyMissed}
use Rattle.monitor_model.specs.Pieces.{mode, is_whole}
use Rattle.monitor_model.specs.Placed.{seen_after}
use Rattle.monitor_model.specs.Seen.{Seen, proxy_past}
use Rattle.monitor_model.specs.Talks.{talks}
use Rattle.monitor_model.specs.Worker.{Piece, Accepted, Published, Launched, Wants, IsWorker}

-- In what number w has seen of each of so many proxies, of the other columns and of the launcher's journal, the entries that name it are exactly its own items there, in order.
pub record OwnsEntries (proxies w : ℕ) (J : Seen) : Type 0 where
  pub many : length J.proxies ≡ proxies
  pub okd : events_of w J.okd ≡ filter_map okd_item J.own
  pub proxies_are : (p : ℕ) → events_of w (proxy_past J.proxies p) ≡ filter_map (proxy_item p) J.own
  pub pubd : events_of w J.pubd ≡ filter_map pubd_item J.own
  pub oklogd : events_of w J.oklogd ≡ filter_map log_item J.own
  pub launcher : events_of w J.launcher ≡ filter_map launcher_item J.own

-- What holds of a worker's entries and items before a dialog holds behind it.
abbrev pub DialogsKeepEntries : Type 0
DialogsKeepEntries = (C : Config) (who : Speaker) (since left due head content : List ℕ) (J now : Seen) (items : List Item) (how : End)
    → IsDialog C who since left due head content J items how now → OwnsEntries (length C.proxies) who.worker J → OwnsEntries (length C.proxies) who.worker now

-- The last of these entries, if there is one, is w's own.
abbrev pub EndsInOwn : {E : Type 0} → ℕ → List (Entry E) → Type 0
EndsInOwn w [] = Unit {0}
EndsInOwn w (e ∷ J) = e.worker ≡ w

-- A journal K went on from J, whose last entry is w's own, and whose entries of w are these events.
pub record GoesOnFrom {E : Type 0} (w : ℕ) (events : List E) (J K : List (Entry E)) : Type 0 where
  pub more : List (Entry E)
  pub is : K ≡ more ++ J
  pub ends : EndsInOwn w J
  pub own : events_of w J ≡ events

-- The same at each proxy, where the first has number p and w made these items.
abbrev pub RowGoesOn : ℕ → List Own → ℕ → List (List (Entry ProxyEvent)) → List (List (Entry ProxyEvent)) → Type 0
RowGoesOn w items p [] [] = Unit {0}
RowGoesOn w items p [] (K ∷ Ks) = ⊥
RowGoesOn w items p (J ∷ Js) [] = ⊥
RowGoesOn w items p (J ∷ Js) (K ∷ Ks) = GoesOnFrom w (filter_map (proxy_item p) items) J K × RowGoesOn w items (suc p) Js Ks

-- The record went on from what number w had seen once.
pub record WentOn (R : Record) (w : ℕ) (J : Seen) : Type 0 where
  pub okd : GoesOnFrom w (filter_map okd_item J.own) J.okd R.okd
  pub proxies : RowGoesOn w J.own 0 J.proxies R.proxies
  pub pubd : GoesOnFrom w (filter_map pubd_item J.own) J.pubd R.pubd
  pub oklogd : GoesOnFrom w (filter_map log_item J.own) J.oklogd R.oklogd
  pub launcher : GoesOnFrom w (filter_map launcher_item J.own) J.launcher R.launcher

-- What a number had seen once, and from where the record went on, is what the record says that it had seen when it had just made its items.
abbrev pub SeenIsPlaced : Type 0
SeenIsPlaced = (R : Record) (w : ℕ) (J : Seen) → WentOn R w J → seen_after R w J.own ≡ J

-- The record's journals went on by others' entries alone from what number w had seen at last.
pub record EndsIn (R : Record) (w : ℕ) (J : Seen) : Type 0 where
  pub okd : Grows w J.okd R.okd
  pub proxies : (p : ℕ) → Grows w (proxy_past J.proxies p) (proxy_past R.proxies p)
  pub pubd : Grows w J.pubd R.pubd
  pub oklogd : Grows w J.oklogd R.oklogd

-- In each column's journal the entries that name w are exactly these items there, in order.
pub record OwnsColumns (R : Record) (w : ℕ) (items : List Own) : Type 0 where
  pub okd : events_of w R.okd ≡ filter_map okd_item items
  pub proxies : (p : ℕ) → events_of w (proxy_past R.proxies p) ≡ filter_map (proxy_item p) items
  pub pubd : events_of w R.pubd ≡ filter_map pubd_item items
  pub oklogd : events_of w R.oklogd ≡ filter_map log_item items

-- Whose entries are its items in what it had seen at last, and from where the record went on by others' entries alone, its entries in the record are its items.
abbrev pub EndsAreOwn : Type 0
EndsAreOwn = (R : Record) (proxies w : ℕ) (J : Seen) → OwnsEntries proxies w J → EndsIn R w J → OwnsColumns R w J.own

-- Of whom a record says that it lived so, piece by piece, its list is made of whole pieces, and each of its dialogs fits the entries that follow it.
abbrev pub LivesArePieces : Type 0
LivesArePieces = (C : Config) (R : Record) (w : ℕ) (pieces : List Piece) (items : List Own) → length R.proxies ≡ length C.proxies → IsWorker C R w pieces items
    → IsTrue (is_whole (mode C R w items)) × Each (IsFitting C R w) (talks items)

-- The visit that a piece of a worker's list is, if it is one.
abbrev pub piece_visit : Piece → List Visit
piece_visit (Accepted path head content outcome) = visit.Accepted path outcome ∷ []
piece_visit (Published t content) = []
piece_visit (Launched event) = []
piece_visit Wants = visit.Starved ∷ []

-- The visits that the pieces are, the newest first.
abbrev pub piece_visits : List Piece → List Visit
piece_visits [] = []
piece_visits (piece ∷ pieces) = piece_visit piece ++ piece_visits pieces

-- Of whom a record says that it lived so, piece by piece, the visits of its list are those of the pieces.
abbrev pub LivesAreVisits : Type 0
LivesAreVisits = (C : Config) (R : Record) (w : ℕ) (pieces : List Piece) (items : List Own) → length R.proxies ≡ length C.proxies → IsWorker C R w pieces items
    → visits_to C R w None items ≡ piece_visits pieces

-- The Request of a dialog, where it was put, carries the head and the content with which the dialog was begun.
abbrev pub DialogsCarryRequests : Type 0
DialogsCarryRequests = (C : Config) (who : Speaker) (since left due head content : List ℕ) (J now : Seen) (items : List Item) (how : End)
    → IsDialog C who since left due head content J items how now → Each (Carries head content) items

-- The event is no dialog that lacks its end.
abbrev pub IsEnded : CellEvent → Type 0
IsEnded (Speaking worker items) = ⊥
IsEnded (Boot k) = Unit {0}
IsEnded Retired = Unit {0}
IsEnded (Missed worker wanted is) = Unit {0}
IsEnded (Dialog d) = Unit {0}

-- No dialog of the cell lacks its end.
abbrev pub AllEnded : List CellEvent → Type 0
AllEnded [] = Unit {0}
AllEnded (e ∷ J) = AllEnded J × IsEnded e

-- A cell's law says of a cell whose dialogs all have their ends that what is missed there is true, and that all else stands where it may.
abbrev pub CellLawsArePart : Type 0
CellLawsArePart = (J : List CellEvent) → CellLaw J → AllEnded J → AreTrulyMissed J × AllStandThere J
