-- What the connections of a run's doors had of their workers, by the record.
use Rattle.std.specs.Prelude.{ℕ, ◌-◌, ◌^◌, List, [], ◌∷◌, Some, None, nat_le, if◌then◌else◌}
use Rattle.std.specs.declared.option.Option.{Option}
use Rattle.okws_outer.specs.Conns.{ConnWire}
use Rattle.okws_outer.specs.Doors.{Entrance}
use Rattle.monitor_model.specs.declared.record.Connection.{Connection}
use Rattle.round_lives.specs.Serving.{Finishes}

-- How much a count rose; none where it stands at its last value.
abbrev pub rise : ℕ → ℕ → Option ℕ
rise before now = if nat_le (2 ^ 64 - 1) now then None else Some (now - before)

-- These are the connections that each door finished, the last one first.
abbrev pub AllFinish : {X : Type 0} → (X → ConnWire) → List Entrance → List Entrance → List (List Connection) → Type 0
AllFinish wire [] [] [] = Unit {0}
AllFinish wire [] [] (cs ∷ more) = ⊥
AllFinish wire [] (f ∷ fs) more = ⊥
AllFinish wire (e ∷ es) [] more = ⊥
AllFinish wire (e ∷ es) (f ∷ fs) [] = ⊥
AllFinish wire (e ∷ es) (f ∷ fs) (cs ∷ more) = Finishes wire e f cs × AllFinish wire es fs more
