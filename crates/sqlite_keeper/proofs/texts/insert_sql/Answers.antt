use Rattle.std.proofs.Common.{rules, append_assoc}
use Rattle.sqlite_keeper.proofs.texts.insert_sql.Goals as goal

pub returns : goal.returns
returns c = simp append_assoc (search rules)
