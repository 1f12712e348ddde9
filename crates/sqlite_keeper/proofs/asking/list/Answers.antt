use Rattle.std.proofs.Common.{inl}
use Rattle.sqlite.specs.Held.{state}
use Rattle.sqlite.specs.Values.{bound}
use Rattle.sqlite_keeper.proofs.Refused.{query_keeps}
use Rattle.sqlite_keeper.proofs.asking.list.Goals as goal

pub returns-in-Err-clause-err : goal.returns-in-Err-clause-err
returns-in-Err-clause-err g c clean =
    let refused = c.in-Err.ensures.err clean in
    let keeps = query_keeps (state g.S.Store c.args.conn.now) (state g.S.Store c.query_all.new.self) c.requires.settled c.args.sql.now (bound c.args.values.now) c.in-Err.error refused in
    inl (c.in-Err.error, refused, keeps, c.reason.ensures)
