-- A cell as contracts see it, and what comes and goes over its link.
use Rattle.std.specs.Prelude.{◌≡◌, ◌≢◌, ◌≤◌, ℕ, Bool, true, false, List, [], ◌∷◌, ◌++◌, Option, Some, None, IfSome, IsFalse, ◌⊎◌}
use Rattle.std.specs.Io.KnownBytes.{Appends, Consumes}
use Rattle.okws_outer.specs.Streams.{Rose}
use Rattle.frame_codec.specs.Stream.{Begins, IsBad}
use Rattle.frame_codec.specs.declared.frame.ServiceFrame.{ServiceFrame}
use Rattle.okws_outer.specs.Wire.{Wire}
use Rattle.okws_plan.specs.declared.configuration.Config.{Config}
use Rattle.monitor_model.specs.declared.record.Item.{Item}
use Rattle.monitor_model.specs.declared.record.End.{End}
use Rattle.monitor_model.specs.declared.record.CellEvent.{CellEvent}
use Rattle.monitor_model.specs.declared.record.CellEvent.TheVariants as cell
use Rattle.monitor_model.specs.declared.sent.Sent.{Sent}
use Rattle.monitor_model.specs.Cell.{incarnation}
use Rattle.monitor_model.specs.Course.{Speaker}

-- A dialog that is open: the number that its caller gave its request, its worker, its items, and those of its last step, the newest first.
pub record Open : Type 0 where
  pub request : ℕ
  pub worker : ℕ
  pub items : List Item
  pub newest : List Item

-- The items of the last step are the newest of all, and there are some.
pub record AreNewest (newest items : List Item) : Type 0 where
  pub some : newest ≢ []
  pub before : List Item
  pub whole : items ≡ newest ++ before

-- A cell: the site and the seed of its run, its service, its finished events, the newest first, its open dialog, if there is one, its link, if it has one, what the links that it had before were given, the last one first, and whether its events stay in memory.
pub record Standing : Type 0 where
  pub config : Config
  pub seed : List ℕ
  pub service : ℕ
  pub past : List CellEvent
  pub open_dialog : Option Open
  pub link : Option Wire
  pub sent : List Sent
  pub keeps : Bool

-- What the link of incarnation k, if it is there, and those before it were given.
abbrev pub all_sent : ℕ → Option Wire → List Sent → List Sent
all_sent k None sent = sent
all_sent k (Some wire) sent = record { incarnation = k; given = wire.given } ∷ sent

-- Where the link tells, nothing was put on it.
abbrev pub IsFresh : Wire → Type 0
IsFresh wire = IfSome wire.given (λ given. given ≡ [])

-- Who speaks at the cell with a worker.
abbrev pub speaker : Standing → ℕ → Speaker
speaker c w = record { worker = w; service = c.service; incarnation = incarnation c.past }

-- The dialog of request n is open with these items, of which the newest are those of its last step, and the link is as it is now.
abbrev pub going : Standing → ℕ → ℕ → List Item → List Item → Option Wire → Standing
going c n w items newest link = record c { open_dialog = Some (record { request = n; worker = w; items = items; newest = newest }); link = link }

-- The dialog of a worker stands finished on top, with these items, this end, and what was due as its link failed; and the link is as it is now.
abbrev pub finished : Standing → ℕ → List Item → End → List ℕ → Option Wire → Standing
finished c w items how due link = record c { past = cell.Dialog (record { worker = w; items = items; end = how; due = due }) ∷ c.past; open_dialog = None; link = link }

-- The events, with the open dialog, if any, as the last.
abbrev pub with_open : Option Open → List CellEvent → List CellEvent
with_open None J = J
with_open (Some o) J = cell.Speaking o.worker o.items ∷ J

-- The same link, from which some bytes were taken and on which some were put; no call of it failed.
pub record Moves (old new : Wire) (taken put : List ℕ) : Type 0 where
  pub whose : new.whose ≡ old.whose
  pub came : new.came ≡ old.came
  pub takes : Consumes old.left new.left taken
  pub puts : Appends old.given new.given put
  pub untold : old.given ≡ None → new.given ≡ None
  pub faults : new.faults ≡ old.faults
  pub steady : new.steady ≡ old.steady
  pub ended : new.ended ≡ old.ended

-- The same link, of which a call failed: it isn't steady, and its count of faults rose. Of what was due after the bytes that were put, a prefix was put.
pub record Breaks (old new : Wire) (taken put due : List ℕ) : Type 0 where
  pub whose : new.whose ≡ old.whose
  pub came : new.came ≡ old.came
  pub takes : Consumes old.left new.left taken
  pub front : List ℕ
  pub rest : List ℕ
  pub cut : front ++ rest ≡ due
  pub puts : Appends old.given new.given (put ++ front)
  pub untold : old.given ≡ None → new.given ≡ None
  pub faults : Rose old.faults new.faults
  pub steady : new.steady ≡ old.steady
  pub unsteady : IsFalse old.steady
  pub ended : new.ended ≡ old.ended

-- A cell's link moved so.
abbrev pub Passes : Option Wire → Option Wire → List ℕ → List ℕ → Type 0
Passes None new taken put = ⊥
Passes (Some old) None taken put = ⊥
Passes (Some old) (Some new) taken put = Moves old new taken put

-- A cell's link failed so.
abbrev pub Fails : Option Wire → Option Wire → List ℕ → List ℕ → List ℕ → Type 0
Fails None new taken put due = ⊥
Fails (Some old) None taken put due = ⊥
Fails (Some old) (Some new) taken put due = Breaks old new taken put due

-- Whether the end was fed to a cell's link.
abbrev pub ended_of : Option Wire → Bool
ended_of None = false
ended_of (Some wire) = wire.ended

-- What is left to come in on a cell's link, where it tells.
abbrev pub left_of : Option Wire → Option (List ℕ)
left_of None = None
left_of (Some wire) = wire.left

-- What is left begins with a whole frame, or is bad, or nothing comes behind it.
abbrev pub IsReadyLink : Option Wire → List ℕ → Type 0
IsReadyLink None left = ⊥
IsReadyLink (Some wire) left = ((said : ServiceFrame) × (rest : List ℕ) × Begins left said rest) ⊎ (IsBad left ⊎ (wire.ended ≡ true))
