use Rattle.std.proofs.Common.{◌≡◌, [], Ok, Err, inl, inr, refl, length, rules}
use Rattle.sqlite_keeper.specs.Texts.{create_sql, insert_sql}
use Rattle.sqlite_keeper.specs.Making.{Steps, Hands, Inserts, InTurn}
use Rattle.sqlite_keeper.proofs.Turns.{done, follows, fails}
use Rattle.sqlite_keeper.proofs.making.create.Goals as goal

pub returns-in_err-hand-clause-steps : goal.returns-in_err-hand-clause-steps
returns-in_err-hand-clause-steps g c =
    let old = c.args.tx.now.conn.now in
    let new = c.hand.new.tx.conn.now in
    let why = c.in_err-hand.field-0.0 in
    let same : c.from_residual-in_err-hand.result ≡ Err why = search rules in
    let text : c.deref.result.now ≡ create_sql c.args.at c.args.table.now = search rules in
    let step : Steps g.S.Store {T = Unit {0}} old new (Err why) (Hands g.S.Store (create_sql c.args.at c.args.table.now) [] old new (Err why)) = rw text at c.in_err-hand.ensures.steps in
    rw same (fails g.S.Store old new (Err why) why _ _ step (λ did. inr (inl (why, refl, did))))

pub returns-clause-steps : goal.returns-clause-steps
returns-clause-steps g c =
    let old = c.args.tx.now.conn.now in
    let mid = c.hand.new.tx.conn.now in
    let new = c.fill.new.tx.conn.now in
    let table = c.args.table.now in
    let text : c.deref.result.now ≡ create_sql c.args.at table = search rules in
    let row_text : c.deref-2.result.now ≡ insert_sql c.args.at (length table.columns) = search rules in
    let first : c.as_slice-2.result.now ≡ table.first = search rules in
    let made : Steps g.S.Store {T = Unit {0}} old mid done (Hands g.S.Store (create_sql c.args.at table) [] old mid done) = rw text at c.in_ok-hand.ensures.steps in
    let filled : Steps g.S.Store {T = Unit {0}} mid new c.fill.result (InTurn (Inserts g.S.Store (insert_sql c.args.at (length table.columns))) 0 table.first mid new c.fill.result) =
    rw (row_text, first) at c.fill.ensures.steps in
    follows g.S.Store old mid new done c.fill.result _ _ _ made filled (λ did rest. inr (inr (mid, did, rest)))
