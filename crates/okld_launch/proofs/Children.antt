-- What each step leaves of what is known of the children.
use Rattle.std.proofs.Common.{◌≡◌, ◌∙◌, ℕ, Bool, true, Option, Some, None, sym, ap, subst, eq-eqb}
use Rattle.std.specs.Prelude.{◌==◌, ◌||◌, not}
use Rattle.std.proofs.lemmas.Bool.{and_from, or_left}
use Rattle.okws_outer.specs.Lives.{Asks, Life}
use Rattle.okws_outer.specs.declared.child.Ended.{Ended}
use Rattle.okws_outer.specs.declared.child.Ended.TheVariants.{Yes}
use Rattle.monitor_model.specs.Cell.{last_booted}
use Rattle.site_cells.specs.Row.{OnlyAt, link_at, seen_at}
use Rattle.launch_crew.specs.Crews.{CrewIs, RunsAs, StaffIs, child_of, crew_of}
use Rattle.launch_crew.specs.Ended.{family_ended, life_ended, tells_ended}
use Rattle.launch_crew.specs.Recorded.{Recorded}
use Rattle.launch_crew.specs.Steps.{AsksLife, Empties, Misses, SameHands, Starts}
use Rattle.launch_crew.proofs.Ended.{attended_asked, attended_emptied, attended_met, attended_missed, attended_same, attended_started, stays_asked as ended_asked, stays_emptied as ended_emptied, stays_missed as ended_missed, stays_on as ended_on, stays_same as ended_same, stays_started as ended_started}
use Rattle.okld_launch.specs.Children.{StaysAttended}

pub stays_same : (c d : CrewIs) → d.running ≡ c.running → d.watch ≡ c.watch → d.family ≡ c.family → StaysAttended c d
stays_same c d running watch family = record { attended = attended_same c d watch running; ended = λ at. ended_same c d running family }

pub hands_stay : (c d : CrewIs) → SameHands c d → StaysAttended c d
hands_stay c d h = stays_same c d h.running_is h.watch_is h.family_is

pub stays_on : (a b c : CrewIs) → StaysAttended a b → StaysAttended b c → StaysAttended a c
stays_on a b c x y = record { attended = λ at. y.attended (x.attended at); ended = λ at. ended_on a b c (x.ended at) (y.ended (x.attended at)) }

pub stays_emptied : (s : ℕ) (c d : CrewIs) → Empties s c d → StaysAttended c d
stays_emptied s c d h = record { attended = attended_emptied s c d h; ended = λ at. ended_emptied s c d at h }

pub stays_started : (s k : ℕ) (c d : CrewIs) → child_of c s ≡ None → Starts s k c d → StaysAttended c d
stays_started s k c d none h = record { attended = attended_started s k c d h; ended = λ at. ended_started s k c d none h }

pub stays_missed : (s k : ℕ) (c d : CrewIs) → child_of c s ≡ None → Misses s k c d → StaysAttended c d
stays_missed s k c d none h = record { attended = attended_missed s k c d none h; ended = λ at. ended_missed s k c d h }

pub stays_met : (s : ℕ) (c d : CrewIs) → d.running ≡ c.running → d.family ≡ c.family → OnlyAt s c.watch d.watch → link_at d.watch s ≡ link_at c.watch s → last_booted (seen_at d.watch s) ≡ last_booted (seen_at c.watch s) → StaysAttended c d
stays_met s c d running family only link last = record { attended = attended_met s c d only link last running; ended = λ at. ended_same c d running family }

pub stays_asked : (s : ℕ) (answer : Ended) (r : Recorded) (a b : StaffIs) → AsksLife s a answer b → StaysAttended (crew_of r a) (crew_of r b)
stays_asked s answer r a b h = record { attended = attended_asked s r a answer b h; ended = λ at. ended_asked s r a answer b h }

-- a child that runs as incarnation k said that it has ended
pub asked_yes : (s k : ℕ) (c d : CrewIs) (before after : Life) → child_of c s ≡ Some before → child_of d s ≡ Some after → Asks before after Yes → RunsAs k (child_of c s) → (old : ℕ) → tells_ended old d s k ≡ true
asked_yes s k c d before after was is asks runs old =
    let runs_so : RunsAs k (Some before) = subst (RunsAs k) was runs in
    or_left (life_ended (child_of d s) k) (family_ended old d.family s k)
    (subst (λ (child : Option Life). life_ended child k ≡ true) (sym is)
    (and_from (after.incarnation == k) after.ended (eq-eqb after.incarnation k (ap (λ (life : Life). life.incarnation) asks.life ∙ runs_so.0))
    (ap (λ (life : Life). life.ended) asks.life ∙ ap (λ (stopped : Bool). not stopped || before.ended) runs_so.1)))
