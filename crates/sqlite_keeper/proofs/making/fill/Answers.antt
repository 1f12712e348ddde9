use Rattle.std.proofs.Common.{◌≡◌, Err, rules, arith}
use Rattle.sqlite_keeper.specs.Making.{Inserts}
use Rattle.sqlite_keeper.proofs.Turns.{here, next_turn, last_turn}
use Rattle.sqlite_keeper.proofs.making.fill.Goals as goal

pub returns-in_err-insert-clause-steps : goal.returns-in_err-insert-clause-steps
returns-in_err-insert-clause-steps g c =
    let why = c.in_err-insert.field-0.0 in
    let same : c.from_residual.result ≡ Err why = search rules in
    let item = c.index-rows-at.result in
    let there = here c.args.rows.now c.loop-at.at item (omega arith) c.index-rows-at.is in
    rw same
    (last_turn g.S.Store (Inserts g.S.Store c.args.sql.now) c.args.rows.now c.args.tx.now.conn.now c.loop-at.tx.conn.now c.insert.new.tx.conn.now why c.loop-at.at item there c.loop-at.invariant.1 (c.in_err-insert.ensures.steps c.loop-at.at))

pub loop-at-preserved : goal.loop-at-preserved
loop-at-preserved g c =
    let item = c.index-rows-at.result in
    let there = here c.args.rows.now c.loop-at.at item (omega arith) c.index-rows-at.is in
    (search rules, next_turn g.S.Store (Inserts g.S.Store c.args.sql.now) c.args.rows.now c.args.tx.now.conn.now c.loop-at.tx.conn.now c.insert.new.tx.conn.now c.loop-at.at item there c.loop-at.invariant.1 (c.in_ok-insert.ensures.steps c.loop-at.at))
