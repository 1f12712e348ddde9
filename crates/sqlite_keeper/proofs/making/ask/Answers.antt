use Rattle.std.proofs.Common.{◌∷◌, [], ◌⊎◌, arith}
use Rattle.sqlite.specs.declared.types.Value.TheVariants as sql
use Rattle.sqlite.specs.Held.{state}
use Rattle.sqlite.specs.State.{HasCleanDisk, Shown, FailsToQuery, IsTooLate}
use Rattle.sqlite_keeper.specs.Texts.{schema_sql, table_name}
use Rattle.sqlite_keeper.proofs.Inside.{shown_inside, refused_commits}
use Rattle.sqlite_keeper.proofs.making.ask.Goals as goal

pub returns-in-Ok-clause-shown : goal.returns-in-Ok-clause-shown
returns-in-Ok-clause-shown g c =
    let old = state g.S.Store c.args.tx.now.conn.now in
    let new = state g.S.Store c.query_all.new.self.conn.now in
    let values = sql.Text (table_name c.args.at) ∷ [] in
    let asked : HasCleanDisk new → Shown schema_sql values old new c.in-Ok.shown.items = λ clean. rw (c.params-to_sql.ensures, c.requires.name) at (c.in-Ok.ensures.ok clean) in
    let both = λ (clean : HasCleanDisk new). shown_inside old new schema_sql values c.in-Ok.shown.items (c.requires.inside (omega (arith, c.query_all.ensures.survives.clean))) (asked clean) in
    record { clean = c.query_all.ensures.survives.clean; limit = c.query_all.ensures.survives.limit; did = asked; inside = λ clean. (both clean).0; kept = λ clean. (both clean).1 }

pub returns-in-Err-clause-refused : goal.returns-in-Err-clause-refused
returns-in-Err-clause-refused g c =
    let old = state g.S.Store c.args.tx.now.conn.now in
    let new = state g.S.Store c.query_all.new.self.conn.now in
    let values = sql.Text (table_name c.args.at) ∷ [] in
    let refused : HasCleanDisk new → FailsToQuery schema_sql values old new c.in-Err.error ⊎ IsTooLate schema_sql values old new c.in-Err.error =
    λ clean. rw (c.params-to_sql.ensures, c.requires.name) at (c.in-Err.ensures.err clean) in
    record {
      clean = c.query_all.ensures.survives.clean;
      limit = c.query_all.ensures.survives.limit;
      did = λ clean. (c.in-Err.error, refused clean, c.make_reason.ensures);
      inside = λ clean. tt;
      kept = λ clean. refused_commits old new schema_sql values c.in-Err.error (refused clean);
    }
