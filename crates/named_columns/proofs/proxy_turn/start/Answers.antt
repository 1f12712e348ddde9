use Rattle.std.proofs.Common.{ℕ, sym, subst}
use Rattle.named_columns.specs.Asked.{IsInstalledAt}
use Rattle.named_columns.proofs.Asked.{installed_grown}
use Rattle.named_columns.proofs.proxy_turn.start.Goals as goal

pub start-started-requires-clause-installed : goal.start-started-requires-clause-installed
start-started-requires-clause-installed g c =
    let past = c.take-column.result.past in
    subst (λ (l : ℕ). IsInstalledAt g.N.Numbered.site l past c.args.call.service c.args.call.incarnation) (sym c.take-column.ensures.label)
    (installed_grown g.N.Numbered.site c.args.seat.now.label c.args.call.service c.args.call.incarnation c.args.seat.now.number c.args.seat.now.seen past c.take-column.ensures.grows c.requires.installed)
