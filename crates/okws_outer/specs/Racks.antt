-- Sinks by their paths, as contracts see them.
use Rattle.std.specs.Prelude.{◌≡◌, ◌≤◌, ℕ, Bool, false, List, [], ◌∷◌, IfSome}
use Rattle.std.specs.declared.option.Option.{Option}
use Rattle.okws_outer.specs.declared.sinks.SinkStart.{SinkStart}
use Rattle.okws_outer.specs.declared.sinks.SinkEnd.{SinkEnd}
use Rattle.okws_outer.specs.Streams.{Rose, counted}

-- Sinks as contracts see them: the openings and the sinks that were closed, the last one first; how many calls failed, those of closed sinks included.
pub record Rack : Type 0 where
  pub opened : List SinkStart
  pub closed : List SinkEnd
  pub faults : ℕ

-- This sink was given nothing, where it tells, and no put to it failed.
pub record IsNewSink (told : Option (List ℕ)) (count : ℕ) : Type 0 where
  pub given : IfSome told (λ given. given ≡ [])
  pub faults : count ≡ 0

-- A sink was to be opened at a path.
abbrev pub with_opened : List ℕ → Bool → Rack → Rack
with_opened path is_open rack = record rack { opened = record { path = path; is_open = is_open } ∷ rack.opened }

-- None could be, which was counted.
pub record Misses (old new : Rack) (path : List ℕ) : Type 0 where
  pub opened : new ≡ record (with_opened path false old) { faults = new.faults }
  pub later : old.faults ≤ new.faults
  pub rose : Rose old.faults new.faults

-- The sink that was opened at a path was closed, and stands so.
abbrev pub with_closed : List ℕ → Option (List ℕ) → ℕ → Rack → Rack
with_closed path given faults rack = record rack {
  closed = record { path = path; given = given; faults = faults } ∷ rack.closed;
  faults = counted rack.faults faults;
}
