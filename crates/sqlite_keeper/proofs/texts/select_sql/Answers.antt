use Rattle.std.proofs.Common.{◌≡◌, rules, sym, append_assoc}
use Rattle.std.specs.Prelude.{string_bytes, codes}
use Rattle.std.specs.List.{join_by}
use Rattle.sqlite_keeper.specs.Texts.{column_name, where_sql}
use Rattle.sqlite_keeper.proofs.texts.select_sql.Goals as goal

pub returns : goal.returns
returns c =
    let s = c.args.selection.now in
    let listed : string_bytes c.in_ok-listed.listed ≡ join_by column_name (codes ", ") s.columns = search rules in
    let met : string_bytes c.in_ok-met.met ≡ where_sql s.conditions = search rules in
    simp append_assoc (rw (sym listed, sym met, sym c.in_ok-order.ensures, sym c.in_ok-limit.ensures) c.format.ensures.ok)
