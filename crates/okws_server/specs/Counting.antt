-- What is printed of the counts of a server's run.
use Rattle.std.specs.Prelude.{ℕ, List, [], ◌∷◌, ◌++◌, codes, decimal}
use Rattle.site_run.specs.declared.ended.Counts.{Counts}

-- A name that ends in a space, a number, and LF.
abbrev pub count_line : List ℕ → ℕ → List ℕ
count_line name count = (name ++ decimal count) ++ 10 ∷ []

-- `connections C`, `accepts A`, `launches L`, `publications P` and `logged G`, a line each.
abbrev pub counts_text : Counts → List ℕ
counts_text c = (((count_line (codes "connections ") c.connections ++ count_line (codes "accepts ") c.accepts) ++ count_line (codes "launches ") c.launches)
    ++ count_line (codes "publications ") c.publications) ++ count_line (codes "logged ") c.logged
