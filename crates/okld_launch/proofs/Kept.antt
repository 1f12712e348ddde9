-- What is told of the children where the journal goes on, and where the crew moves.
use Rattle.std.proofs.Common.{◌≡◌, ◌∙◌, ℕ, ◌+◌, ◌≤◌, Bool, true, false, List, ◌∷◌, Option, Some, None, refl, sym, ap, subst, arith}
use Rattle.std.specs.Prelude.{◌==◌, if◌then◌else◌, max}
use Rattle.okws_base.specs.declared.journal.Entry.{Entry}
use Rattle.okws_plan.specs.declared.configuration.Config.{Config}
use Rattle.okws_plan.specs.declared.event.LauncherEvent.{LauncherEvent}
use Rattle.okws_plan.specs.declared.event.LauncherEvent.TheVariants as event
use Rattle.okws_outer.specs.Families.{Family}
use Rattle.okws_outer.specs.Lives.{Life}
use Rattle.okws_outer.specs.Wire.{Wire}
use Rattle.monitor_model.specs.Launcher.{begun}
use Rattle.site_cells.specs.Row.{CellsSeen}
use Rattle.launch_journal.specs.Launches.{Launches, entered}
use Rattle.launch_crew.specs.Crews.{CrewIs, child_of}
use Rattle.launch_crew.specs.Listed.{CellsGo}
use Rattle.launch_crew.specs.Steps.{Empties}
use Rattle.launch_crew.specs.Told.{with_end_of}
use Rattle.launch_crew.proofs.Retiring.{go_same}
use Rattle.okld_launch.specs.Kin.{AreKin, Unstarted}
use Rattle.okld_launch.proofs.Boots.{BootsSame}
use Rattle.okld_launch.proofs.Kin.{kin_entered, kin_stays, unstarted_next}

module _ (C : Config) (seed : List ℕ) (first : Family) where
  pub kin_past : (J K : List (Entry LauncherEvent)) (c : CrewIs) → K ≡ J → AreKin C seed first J c → AreKin C seed first K c
  kin_past J K c is kin = subst (λ (I : List (Entry LauncherEvent)). AreKin C seed first I c) (sym is) kin

  -- an event that begins none
  pub kin_noted : (j k : Launches) (e : LauncherEvent) (c : CrewIs) → ((t : ℕ) → begun j.past t ≤ begun (record { worker = j.holder; event = e } ∷ j.past) t) → k ≡ entered j e → AreKin C seed first j.past c → AreKin C seed first k.past c
  kin_noted j k e c more is kin = subst (λ (x : Launches). AreKin C seed first x.past c) (sym is) (kin_entered C seed first j.past (record { worker = j.holder; event = e } ∷ j.past) c more kin)

  more_begun : (b : Bool) (k n : ℕ) → n ≤ (if b then max k n else n)
  more_begun true k n = omega arith
  more_begun false k n = omega arith

  pub kin_begun : (s k : ℕ) (j m : Launches) (c : CrewIs) → m ≡ entered j (event.Begun s k) → AreKin C seed first j.past c → AreKin C seed first m.past c
  kin_begun s k j m c is kin = kin_noted j m (event.Begun s k) c (λ t. more_begun (s == t) k (begun j.past t)) is kin

  -- the next incarnation was not started
  pub unstarted_begun : (s k : ℕ) (j : Launches) (c : CrewIs) → k ≡ begun j.past s + 1 → AreKin C seed first j.past c → Unstarted s k first c.family
  unstarted_begun s k j c next kin = unstarted_next C seed first j.past s k c (omega (arith, next)) kin

  -- the crew did something else
  pub kin_moved : (J : List (Entry LauncherEvent)) (c d : CrewIs) → d.running ≡ c.running → d.family ≡ c.family → d.watch ≡ c.watch → BootsSame c.own d.own → AreKin C seed first J c → AreKin C seed first J d
  kin_moved J c d running family watch boots kin = kin_stays C seed first J c d running family (subst (λ (w : CellsSeen). CellsGo c.watch w) (sym watch) (go_same c.watch)) boots kin

started_end : (child : Option Life) (link : Option Wire) (f : Family) → (with_end_of child link f).started ≡ f.started
started_end None link f = refl
started_end (Some life) None f = refl
started_end (Some life) (Some wire) f = refl

-- no child is started where a cell is emptied
pub started_emptied : (s : ℕ) (c d : CrewIs) → Empties s c d → d.family.started ≡ c.family.started
started_emptied s c d h = ap (λ (f : Family). f.started) h.family_is ∙ started_end (child_of c s) h.link c.family
