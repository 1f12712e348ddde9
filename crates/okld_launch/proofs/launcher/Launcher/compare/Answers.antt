use Rattle.std.proofs.Common.{◌≤◌, ℕ, subst}
use Rattle.std.specs.Prelude.{slice_index}
use Rattle.monitor_model.specs.Launcher.{begun}
use Rattle.okld_launch.specs.Launchers.{LauncherIs}
use Rattle.okld_launch.proofs.launcher.Launcher.compare.Goals as goal

pub returns-clause-begun : goal.returns-clause-begun
returns-clause-begun g c s within =
    subst (λ (l : LauncherIs). slice_index c.args.other.now.board s ≤ begun l.journal.past s) c.self.view_is
    (subst (λ (n : ℕ). slice_index c.args.other.now.board s ≤ n) ((c.self.invariant.keeps.each s).shown within) (c.compare.ensures.least s))
