use Rattle.std.proofs.Common.{◌≤◌, ◌∙◌, sym, ap, subst, List}
use Rattle.std.specs.Prelude.{slice_index}
use Rattle.okws_base.specs.declared.journal.Entry.{Entry}
use Rattle.okws_plan.specs.declared.event.LauncherEvent.{LauncherEvent}
use Rattle.monitor_model.specs.Launcher.{begun}
use Rattle.okld_launch.specs.Launchers.{LauncherIs}
use Rattle.launch_turns.specs.Deeds.{entries}
use Rattle.launch_turns.specs.Resting.{Rests}
use Rattle.launch_turns.proofs.resting.Resting.into_parts_for.Goals as goal

pub returns-clause-rests : goal.returns-clause-rests
returns-clause-rests g c = subst (λ (l : LauncherIs). Rests g.N.Numbered.site g.N.Numbered.run_seed g.N.Staffed.children c.into_parts-launcher.result.1.past l) (sym c.compare.ensures.same.0) c.into_parts-launcher.ensures.rests

pub returns-clause-begun : goal.returns-clause-begun
returns-clause-begun g c s within =
    let same = sym c.into_parts-launcher.ensures.rests.entries_are ∙ ap entries c.into_parts-launcher.ensures.deeds in
    subst (λ (J : List (Entry LauncherEvent)). slice_index c.args.other.now.board s ≤ begun J s) same (c.compare.ensures.begun s within)
