use Rattle.std.proofs.Common.{rules, ◌≡◌, ℕ, subst}
use Rattle.monitor_model.specs.Cell.{incarnation}
use Rattle.service_cell.proofs.cell.Cell.begin.Goals as goal

pub open-requires-clause-may : goal.open-requires-clause-may
open-requires-clause-may g c =
    let same : c.args.wanted ≡ incarnation c.args.self.now.past = search rules in
    subst (λ (k : ℕ). g.C.Columns.may_ask c.current-shown.new.self c.args.self.now.service k) same (c.current-shown.ensures.board.allowed c.args.self.now.service c.args.wanted (c.requires.may same))
