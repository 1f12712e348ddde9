-- What a door's connections had of its worker, and what was written on them.
use Rattle.std.specs.Prelude.{◌≡◌, ◌⊎◌, ℕ, Bool, true, false, List, [], ◌∷◌, ◌++◌, Option, Some, None, filter_map, count_by}
use Rattle.okws_base.specs.Runs.{Each}
use Rattle.okws_plan.specs.declared.configuration.Config.{Config}
use Rattle.okws_plan.specs.declared.event.OkdEvent.{OkdEvent}
use Rattle.okws_plan.specs.declared.event.OkdEvent.TheVariants as okd
use Rattle.http_text.specs.Reading.{Reading, Asks, Refuses, IsReading, IsInterim, IsMethod, at_end}
use Rattle.http_text.specs.Response.{own_response}
use Rattle.frame_codec.specs.declared.frame.ServerFrame.TheVariants as frame
use Rattle.monitor_model.specs.declared.verdict.Way.{Way}
use Rattle.monitor_model.specs.declared.verdict.Way.TheVariants as way
use Rattle.monitor_model.specs.declared.record.Connection.{Connection}
use Rattle.monitor_model.specs.declared.record.Dialog.{Dialog}
use Rattle.monitor_model.specs.declared.record.Item.{Item}
use Rattle.monitor_model.specs.declared.record.Item.TheVariants.{Heard}
use Rattle.monitor_model.specs.declared.record.Own.{Own}
use Rattle.monitor_model.specs.declared.record.Own.TheVariants as own
use Rattle.monitor_model.specs.declared.record.Record.{Record}
use Rattle.monitor_model.specs.Answering.{end_response}
use Rattle.monitor_model.specs.Columns.{WithinCount}
use Rattle.monitor_model.specs.Outside.{Outside}
use Rattle.monitor_model.specs.Pieces.{Mode, Free, Due, Speaking, Broken, mode, way_at, worker_list}
use Rattle.monitor_model.specs.Placed.{EachFrom}
use Rattle.monitor_model.specs.Worker.{Outcome, Unowned, IsDown, IsMissed, WantsMemory, Spoke, next_dialog}

-- What a worker did for a connection: an Accept of this path, and what became of it; or memory was refused.
pub data Visit : Type 0 where
  Accepted : (path : List ℕ) → (outcome : Outcome) → Visit
  Starved : Visit

-- The outcome of a dialog that was begun, by the dialog that it is.
abbrev pub spoke : ℕ → Option (ℕ × Dialog) → Outcome
spoke s None = WantsMemory
spoke s (Some at) = Spoke s at.0 at.1

-- What became of an Accept that was answered To s, by the item that follows it, where these stand before that.
abbrev pub went_to : Record → ℕ → ℕ → List Own → Option Own → Outcome
went_to R w s items (Some (own.Missed t wanted is)) = IsMissed
went_to R w s items (Some (own.Dialog t)) = spoke s (next_dialog R w s items)
went_to R w s items _ = WantsMemory

-- What became of an Accept that was answered so.
abbrev pub outcome_of : Record → ℕ → List Own → Option Own → Way → Outcome
outcome_of R w items next way.NotOwned = Unowned
outcome_of R w items next (way.Down s) = IsDown
outcome_of R w items next (way.To s k) = went_to R w s items next

-- Want of memory belongs to an Accept that was answered To, where it follows it; else it stands alone.
abbrev pub starved_after : Mode → List Visit
starved_after (Due s k) = []
starved_after Free = Starved ∷ []
starved_after (Speaking s) = Starved ∷ []
starved_after Broken = Starved ∷ []

-- An event of okd's is a visit where it is an Accept.
abbrev pub okd_visit : Config → Record → ℕ → List Own → OkdEvent → Option Own → List Visit
okd_visit C R w items (okd.Accept path) next = Accepted path (outcome_of R w (own.Okd (okd.Accept path) ∷ items) next (way_at C R w items path)) ∷ []
okd_visit C R w items (okd.Up s k) next = []
okd_visit C R w items (okd.Down s k) next = []

-- The visit that an item of worker w's list begins, if it does, where these stand before it, and the next one behind it.
abbrev pub visit_of : Config → Record → ℕ → List Own → Own → Option Own → List Visit
visit_of C R w items (own.Okd e) next = okd_visit C R w items e next
visit_of C R w items own.NoMemory next = starved_after (mode C R w items)
visit_of C R w items _ next = []

-- The visits of worker w's list, the newest first. `next` is the item behind the list.
abbrev pub visits_to : Config → Record → ℕ → Option Own → List Own → List Visit
visits_to C R w next [] = []
visits_to C R w next (item ∷ items) = visit_of C R w items item next ++ visits_to C R w (Some item) items

-- The response that is due to a request of which this became: 404, 503, 507, or that of its dialog.
abbrev pub outcome_text : Outcome → List ℕ → List ℕ
outcome_text Unowned method = own_response 404 method
outcome_text IsDown method = own_response 503 method
outcome_text IsMissed method = own_response 503 method
outcome_text WantsMemory method = own_response 507 method
outcome_text (Spoke s k d) method = end_response d.end d.items method

-- A Request frame carries this head and content.
abbrev pub Carries : List ℕ → List ℕ → Item → Type 0
Carries head content (Heard (frame.Request h c)) = (h ≡ head) × (c ≡ content)
Carries head content _ = Unit {0}

-- The Request of the dialog, where it was put, carries this head and content.
abbrev pub OutcomeCarries : List ℕ → List ℕ → Outcome → Type 0
OutcomeCarries head content (Spoke s k d) = Each (Carries head content) d.items
OutcomeCarries head content Unowned = Unit {0}
OutcomeCarries head content IsDown = Unit {0}
OutcomeCarries head content IsMissed = Unit {0}
OutcomeCarries head content WantsMemory = Unit {0}

-- The bytes read as this status, where no more of them come.
abbrev pub IsRefusedBy : List ℕ → ℕ → Type 0
IsRefusedBy read status = (reading : Reading) × IsReading read reading × (at_end reading ≡ Refuses status)

-- To bytes that read as a status its response is due, and before it the interim response where that is.
pub record DueToStatus (read text : List ℕ) : Type 0 where
  pub status : ℕ
  pub interim : List ℕ
  pub method : List ℕ
  pub is : IsRefusedBy read status
  pub interim_is : IsInterim read interim
  pub method_is : IsMethod read method
  pub text_is : text ≡ interim ++ own_response status method

-- Where memory was refused 507 is due; the interim response may be missing then.
pub record DueToWant (read text : List ℕ) : Type 0 where
  pub interim : List ℕ
  pub method : List ℕ
  pub interim_is : IsInterim read interim ⊎ (interim ≡ [])
  pub method_is : IsMethod read method
  pub text_is : text ≡ interim ++ own_response 507 method

-- To bytes that read as a request, whose path was accepted and whose head and content its dialog carries, the response is due to what became of it.
pub record DueToRequest (read path : List ℕ) (outcome : Outcome) (text : List ℕ) : Type 0 where
  pub asked : List ℕ
  pub head : List ℕ
  pub content : List ℕ
  pub interim : List ℕ
  pub method : List ℕ
  pub is : IsReading read (Asks asked path head content)
  pub carries : OutcomeCarries head content outcome
  pub interim_is : IsInterim read interim
  pub method_is : IsMethod read method
  pub text_is : text ≡ interim ++ outcome_text outcome method

-- What is due to a connection of which these bytes were read, by what its worker did for it: where that is nothing, the bytes read as a status.
abbrev pub IsDue : List ℕ → Option Visit → List ℕ → Type 0
IsDue read None text = DueToStatus read text
IsDue read (Some Starved) text = DueToWant read text
IsDue read (Some (Accepted path outcome)) text = DueToRequest read path outcome text

-- A front of a text.
abbrev pub IsFrontOf : List ℕ → List ℕ → Type 0
IsFrontOf front text = (rest : List ℕ) × (text ≡ front ++ rest)

-- A front of what is due; where nothing was done for it, a front of the interim response will do.
abbrev pub IsCutShort : List ℕ → Option Visit → List ℕ → Type 0
IsCutShort read (Some visit) written = (text : List ℕ) × IsDue read (Some visit) text × IsFrontOf written text
IsCutShort read None written =
    ((text : List ℕ) × DueToStatus read text × IsFrontOf written text) ⊎ ((interim : List ℕ) × IsInterim read interim × IsFrontOf written interim)

-- What a connection had of its worker, if anything, and whether it was cut.
pub record Share : Type 0 where
  pub visit : Option Visit
  pub is_cut : Bool

-- What was due was written on the connection; on a cut one a front of it.
abbrev pub IsServed : Connection → Bool → Option Visit → Type 0
IsServed c false visit = IsDue c.read visit c.written
IsServed c true visit = IsCutShort c.read visit c.written

-- The same of each connection, with its share.
abbrev pub AllServed : List Connection → List Share → Type 0
AllServed [] [] = Unit {0}
AllServed [] (share ∷ shares) = ⊥
AllServed (c ∷ cs) [] = ⊥
AllServed (c ∷ cs) (share ∷ shares) = IsServed c share.is_cut share.visit × AllServed cs shares

-- These are the worker's visits, in order, but for want of memory that no connection had.
abbrev pub AreVisits : List Visit → List Visit → Type 0
AreVisits given [] = given ≡ []
AreVisits given (Starved ∷ visits) = AreVisits given visits ⊎ ((rest : List Visit) × (given ≡ Starved ∷ rest) × AreVisits rest visits)
AreVisits given (Accepted path outcome ∷ visits) = (rest : List Visit) × (given ≡ Accepted path outcome ∷ rest) × AreVisits rest visits

-- The connections of a door were taken in order, each with the visit of the door's worker that belongs to it. What was due was written on each that wasn't cut, and a front of it on each that was; at most as many were cut as the door's count rose.
pub record DoorIsServed (C : Config) (R : Record) (rose : Option ℕ) (w : ℕ) (connections : List Connection) : Type 0 where
  pub shares : List Share
  pub served : AllServed connections shares
  pub visits : AreVisits (filter_map (λ (share : Share). share.visit) shares) (visits_to C R w None (worker_list R w))
  pub cut : WithinCount rose (count_by (λ (share : Share). share.is_cut) shares)

-- The same of each door.
abbrev pub ConnectionsAreServed : Config → Outside → Record → Type 0
ConnectionsAreServed C T R = EachFrom (λ w connections. DoorIsServed C R (T.doors w) w connections) 0 R.doors
