use Rattle.std.proofs.Common.{◌≡◌, Err, rules, arith}
use Rattle.sqlite_keeper.specs.Making.{Prepares}
use Rattle.sqlite_keeper.proofs.Turns.{here, next_turn, last_turn}
use Rattle.sqlite_keeper.proofs.making.prepare_all.Goals as goal

pub returns-in_err-prepare_table-clause-steps : goal.returns-in_err-prepare_table-clause-steps
returns-in_err-prepare_table-clause-steps g c =
    let why = c.in_err-prepare_table.field-0.0 in
    let same : c.from_residual.result ≡ Err why = search rules in
    let item = c.index-tables-at.result in
    let there = here c.args.tables.now c.loop-at.at item (omega arith) c.index-tables-at.is in
    rw same
    (last_turn g.S.Store (Prepares g.S.Store) c.args.tables.now c.args.tx.now.conn.now c.loop-at.tx.conn.now c.prepare_table.new.tx.conn.now why c.loop-at.at item there c.loop-at.invariant.1 c.in_err-prepare_table.ensures.steps)

pub loop-at-preserved : goal.loop-at-preserved
loop-at-preserved g c =
    let item = c.index-tables-at.result in
    let there = here c.args.tables.now c.loop-at.at item (omega arith) c.index-tables-at.is in
    (search rules, next_turn g.S.Store (Prepares g.S.Store) c.args.tables.now c.args.tx.now.conn.now c.loop-at.tx.conn.now c.prepare_table.new.tx.conn.now c.loop-at.at item there c.loop-at.invariant.1 c.in_ok-prepare_table.ensures.steps)
