-- What a run's objects tell of how often their calls failed.
use Rattle.std.specs.Prelude.{ℕ, suc, List, [], ◌∷◌, ◌==◌, None, if◌then◌else◌}
use Rattle.std.specs.declared.option.Option.{Option}
use Rattle.okws_outer.specs.Doors.{Entrance}
use Rattle.site_making.specs.Keepers.{KeeperIs}
use Rattle.okws_serve.specs.Connected.{rise}

-- How much the count of door w rose, where the first of these has number n; none where it stands at its last value.
abbrev pub door_rise : ℕ → List Entrance → List Entrance → ℕ → Option ℕ
door_rise n [] now w = None
door_rise n (e ∷ old) [] w = None
door_rise n (e ∷ old) (f ∷ now) w = if w == n then rise e.faults f.faults else door_rise (suc n) old now w

-- How much the count of the keeper of proxy p rose, by what the counts were when the run began, where the first of these is the keeper of proxy n; none where it stands at its last value.
abbrev pub keeper_rise : (ℕ → ℕ) → ℕ → List KeeperIs → ℕ → Option ℕ
keeper_rise first n [] p = None
keeper_rise first n (k ∷ keepers) p = if p == n then rise (first n) k.faults else keeper_rise first (suc n) keepers p
