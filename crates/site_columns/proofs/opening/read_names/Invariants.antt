use Rattle.std.proofs.Common.{ℕ, ◌<◌, length, get_or, []}
use Rattle.site_columns.proofs.opening.read_names.Given as goal

abbrev pub invariant-loop-name : goal.invariant-loop-name
invariant-loop-name l = (k : ℕ) → k < l.name-index → length (get_or l.config.templates k []) < 256
