use Rattle.std.proofs.Common.{◌≡◌, Ok, inr, rules}
use Rattle.sqlite_keeper.specs.Making.{Steps, IsSettled}
use Rattle.sqlite_keeper.proofs.Turns.{follows}
use Rattle.sqlite_keeper.proofs.making.prepare_table.Goals as goal

pub returns-clause-steps : goal.returns-clause-steps
returns-clause-steps g c =
    let old = c.args.tx.now.conn.now in
    let mid = c.ask.new.tx.conn.now in
    let new = c.settle.new.tx.conn.now in
    let all : c.as_slice.result.now ≡ c.in_ok-shown.shown.items = search rules in
    let settled : Steps g.S.Store {T = Unit {0}} mid new c.settle.result (IsSettled g.S.Store c.args.at c.args.table.now c.in_ok-shown.shown.items mid new c.settle.result) = rw all at c.settle.ensures.steps in
    follows g.S.Store old mid new (Ok c.in_ok-shown.shown) c.settle.result _ _ _ c.in_ok-shown.ensures.shown settled (λ did rest. inr (inr (mid, c.in_ok-shown.shown.items, did, rest)))
