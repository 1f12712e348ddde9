use Rattle.std.proofs.Common.{◌≡◌, ◌≤◌, ℕ, Bool, ◌+◌, ◌-◌}
use Rattle.okws_base.specs.declared.limit.TheConstants.{MOST_INCARNATIONS}
use Rattle.monitor_model.specs.Launcher.{begun}
use Rattle.launch_journal.specs.Launches.{Allows}
use Rattle.okld_launch.specs.Going.{Fell}
use Rattle.okld_launch.specs.Launchers.{MayLaunch}
use Rattle.okld_launch.specs.Pieces.{IsClosed}
use Rattle.okld_launch.proofs.launcher.Launcher.go_on.Given as goal

abbrev pub invariant-loop-what : goal.invariant-loop-what
invariant-loop-what g l =
    Fell g.N.Numbered.site l.fn.self.journal.holder l.service l.failed l.fn.self.journal.past l.fn.self.crew.family l.launcher.journal.past l.launcher.crew.family
    × (l.launcher.journal.holder ≡ l.fn.self.journal.holder) × Allows g.N.Numbered.site l.launcher.journal.past l.service l.what
    × (begun l.fn.self.journal.past l.service + 1 + l.failed ≤ MOST_INCARNATIONS + 1)
    × MayLaunch l.service l.launcher
    × ((up ended : ℕ → ℕ → Bool) → IsClosed g.N.Numbered.site g.N.Numbered.run_seed g.N.Staffed.children up ended l.fn.self → IsClosed g.N.Numbered.site g.N.Numbered.run_seed g.N.Staffed.children up ended l.launcher)

abbrev pub decreases-loop-what : goal.decreases-loop-what
decreases-loop-what g l = MOST_INCARNATIONS - begun l.launcher.journal.past l.service
