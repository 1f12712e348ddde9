use Rattle.std.proofs.Common.{◌≡◌, ◌∙◌, sym, ap, rules}
use Rattle.std.specs.Cmp.Lexicographic.{bytes_decides}
use Rattle.sqlite.specs.Order.{column}
use Rattle.sqlite.specs.declared.types.Value.TheVariants as sql
use Rattle.sqlite_keeper.proofs.Alone.{alone}
use Rattle.sqlite_keeper.proofs.making.is_text.Goals as goal

pub returns-then-column_count-eq1-clause-yes : goal.returns-then-column_count-eq1-clause-yes
returns-then-column_count-eq1-clause-yes c is =
    let same : c.in-Ok-Text.found.now ≡ c.args.text.now = (bytes_decides c.in-Ok-Text.found.now c.as_bytes.result.now).0 (sym c.eq.ensures ∙ is) ∙ c.as_bytes.ensures.value in
    let held : column c.args.row.now 0 ≡ sql.Text c.in-Ok-Text.found.now = search rules in
    alone c.args.row.now _ (sym c.column_count.ensures ∙ c.if-column_count-eq1.true) (held ∙ ap sql.Text same)
