-- A child that was stopped is finished as one that wasn't.
use Rattle.std.proofs.Common.{◌≡◌, ◌∙◌, ℕ, zero, suc, Bool, true, false, List, [], ◌∷◌, Option, Some, None, refl, sym, ap, subst}
use Rattle.std.specs.Prelude.{slice_set}
use Rattle.okws_outer.specs.Families.{Family}
use Rattle.okws_outer.specs.Lives.{Life, stopped_life}
use Rattle.okws_outer.specs.Wire.{Wire}
use Rattle.launch_crew.specs.Crews.{StaffIs, running_at}
use Rattle.launch_crew.specs.Steps.{HasStopped, StopsChild, StopsLife}
use Rattle.launch_crew.specs.Told.{with_end_of}
use Rattle.launch_crew.proofs.Ended.{some_here}

set_again : (lives : List (Option Life)) (s : ℕ) (x y : Option Life) → slice_set (slice_set lives s x) s y ≡ slice_set lives s y
set_again [] s x y = refl
set_again (z ∷ lives) zero x y = refl
set_again (z ∷ lives) (suc s) x y = ap (λ (l : List (Option Life)). z ∷ l) (set_again lives s x y)

-- the child of s after it was stopped
stopped_here : (s : ℕ) (a b : StaffIs) (h : StopsLife s a b) → running_at b.running s ≡ Some h.after
stopped_here s a b h = ap (λ (t : StaffIs). running_at t.running s) h.is ∙ some_here a.running s h.before h.after h.was

pub has_stopped : (s : ℕ) (a : StaffIs) (runs : Bool) (b : StaffIs) → StopsChild s a runs b → HasStopped (running_at b.running s)
has_stopped s a false b h = subst HasStopped (sym (ap (λ (t : StaffIs). running_at t.running s) h.1 ∙ h.0)) tt
has_stopped s a true b h = subst HasStopped (sym (stopped_here s a b h)) (ap (λ (life : Life). life.stopped) h.stops)

-- which children run without that of s
pub emptied_alike : (s : ℕ) (a : StaffIs) (runs : Bool) (b : StaffIs) → StopsChild s a runs b → slice_set b.running s None ≡ slice_set a.running s None
emptied_alike s a false b h = ap (λ (t : StaffIs). slice_set t.running s None) h.1
emptied_alike s a true b h = ap (λ (t : StaffIs). slice_set t.running s None) h.is ∙ set_again a.running s (Some h.after) None

end_alike : (life : Life) (link : Option Wire) (f : Family) → with_end_of (Some (stopped_life life)) link f ≡ with_end_of (Some life) link f
end_alike life None f = refl
end_alike life (Some wire) f = refl

-- what is told of the children when that of s is finished
pub ended_alike : (s : ℕ) (a : StaffIs) (runs : Bool) (b : StaffIs) (link : Option Wire) → StopsChild s a runs b → with_end_of (running_at b.running s) link b.family ≡ with_end_of (running_at a.running s) link a.family
ended_alike s a false b link h = ap (λ (t : StaffIs). with_end_of (running_at t.running s) link t.family) h.1
ended_alike s a true b link h =
    ap (λ (x : Option Life). with_end_of x link b.family) (stopped_here s a b h)
    ∙ (ap (λ (life : Life). with_end_of (Some life) link b.family) h.stops
    ∙ (end_alike h.before link b.family
    ∙ (ap (λ (t : StaffIs). with_end_of (Some h.before) link t.family) h.is
    ∙ ap (λ (x : Option Life). with_end_of x link a.family) (sym h.was))))
