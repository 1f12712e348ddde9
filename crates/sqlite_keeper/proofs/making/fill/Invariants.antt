use Rattle.std.proofs.Common.{◌≡◌}
use Rattle.sqlite_keeper.specs.Making.{Inserts}
use Rattle.sqlite_keeper.proofs.Turns.{GoesThrough}
use Rattle.sqlite_keeper.proofs.making.fill.Given as goal

abbrev pub invariant-loop-at : goal.invariant-loop-at
invariant-loop-at g l =
    (l.tx.conn.ghost_name ≡ l.initial.tx.conn.ghost_name) × GoesThrough g.S.Store (Inserts g.S.Store l.sql) l.rows l.initial.tx.conn.now l.at l.tx.conn.now
