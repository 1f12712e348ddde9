-- What a text is compiled to.
use Rattle.std.specs.Prelude.{ℕ, List, length, Result}
use Rattle.okws_plan.specs.declared.configuration.Table.{Table}
use Rattle.okws_plan.specs.declared.statement.Statement.{Statement}
use Rattle.query_syntax.specs.declared.error.Refusal.{Refusal}
use Rattle.query_syntax.specs.Answers.{◌>>=◌}
use Rattle.query_syntax.specs.Tokens.{tokens}
use Rattle.query_syntax.specs.Grammar.{parsed}
use Rattle.statement_core.specs.Joining.{resolved}

-- The statement that a text stands for at these tables, or the rule that it breaks: rule 1 is tested over the whole text first, then rule 2, each at its leftmost place; then rules 3 to 14 at the leftmost place, and there the lowest; a gap of rule 7 comes last.
abbrev pub compiled : List Table → List ℕ → Result Statement Refusal
compiled tables text = tokens text >>= λ found. parsed found >>= λ query. resolved tables (length text) query
