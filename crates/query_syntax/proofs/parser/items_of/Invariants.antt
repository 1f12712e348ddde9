use Rattle.std.proofs.Common.{◌≡◌, ◌-◌}
use Rattle.query_syntax.specs.Grammar.{with_front, more_at, items_at}
use Rattle.query_syntax.proofs.parser.items_of.Given as goal

abbrev pub invariant-loop : goal.invariant-loop
invariant-loop g l = with_front l.items.items (more_at l.separator g.T.Item.reading (l.most - l.counter) l.rest) ≡ items_at l.separator g.T.Item.reading l.fn.tokens
