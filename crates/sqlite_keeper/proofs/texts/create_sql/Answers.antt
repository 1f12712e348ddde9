use Rattle.std.proofs.Common.{◌≡◌, ◌∙◌, ◌++◌, ℕ, List, ap, append_assoc}
use Rattle.std.specs.Prelude.{codes, decimal, string_bytes}
use Rattle.okws_plan.specs.declared.configuration.Table.{Table}
use Rattle.sqlite_keeper.proofs.Joined.{ok_then}
use Rattle.sqlite_keeper.specs.Texts.{create_sql, columns_sql, label_sql}
use Rattle.sqlite_keeper.proofs.texts.create_sql.Goals as goal

-- the text of a table, of its name's and its columns'
created : (t : ℕ) (table : Table) (x label all : List ℕ) → label ≡ label_sql table.name → all ≡ columns_sql 0 table.columns
    → x ≡ codes "CREATE TABLE t" ++ decimal t ++ label ++ codes " (id INTEGER PRIMARY KEY AUTOINCREMENT" ++ all ++ codes ") STRICT" → x ≡ create_sql t table
created t table x label all l a e = e ∙ (ap (λ (y : List ℕ). codes "CREATE TABLE t" ++ decimal t ++ y ++ codes " (id INTEGER PRIMARY KEY AUTOINCREMENT" ++ all ++ codes ") STRICT") l
    ∙ ap (λ (y : List ℕ). codes "CREATE TABLE t" ++ decimal t ++ label_sql table.name ++ codes " (id INTEGER PRIMARY KEY AUTOINCREMENT" ++ y ++ codes ") STRICT") a)

pub returns : goal.returns
returns c = ok_then c.format.result (λ t e. created c.args.at c.args.table.now (string_bytes t) _ _
    (c.in_ok-label.ensures ∙ ap label_sql c.as_slice.ensures.bytes) (c.in_ok-all.ensures ∙ ap (columns_sql 0) c.as_slice-2.ensures) (simp append_assoc e)) c.format.ensures.ok
