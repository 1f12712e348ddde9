-- The texts of joined rows, of their parts.
use Rattle.std.proofs.Common.{◌≡◌, ◌++◌, ◌∷◌, ◌<◌, ◌≤◌, ◌-◌, ◌∙◌, ℕ, Bool, List, refl, sym, ap, subst, append_assoc, codes, lt-ltb, le-ltb}
use Rattle.std.specs.Prelude.{Some, decimal, if◌then◌else◌}
use Rattle.std.specs.List.{join_by}
use Rattle.okws_plan.specs.declared.statement.Join.{Join}
use Rattle.okws_plan.specs.declared.statement.Selection.{Selection}
use Rattle.sqlite_keeper.specs.Texts.{table_name, column_name, side_name, side_where_sql, pair_order_sql, side_order_sql, pair_sql, join_sql, limit_sql}

-- A dot and a column's first letter, apart and together.
apart : (d : List ℕ) → codes "." ++ (codes "c" ++ d) ≡ 46 ∷ 99 ∷ d
apart d = refl

together : (d : List ℕ) → codes ".c" ++ d ≡ 46 ∷ 99 ∷ d
together d = refl

dotted : (t c : ℕ) → codes "t" ++ decimal t ++ codes ".c" ++ decimal c ≡ table_name t ++ codes "." ++ column_name c
dotted t c =
    append_assoc (table_name t) (codes ".c") (decimal c)
    ∙ (ap (λ (y : List ℕ). table_name t ++ y) (together (decimal c) ∙ sym (apart (decimal c))) ∙ sym (append_assoc (table_name t) (codes ".") (column_name c)))

-- A column of the first table.
pub first_named : (n t u c : ℕ) (x : List ℕ) → c < n → x ≡ codes "t" ++ decimal t ++ codes ".c" ++ decimal c → x ≡ side_name n t u c
first_named n t u c x less e =
    let same : x ≡ table_name t ++ codes "." ++ column_name c = e ∙ dotted t c in
    subst (λ (b : Bool). x ≡ if b then table_name t ++ codes "." ++ column_name c else table_name u ++ codes "." ++ column_name (c - n)) (sym (lt-ltb c n less)) same

-- A column of the second table.
pub second_named : (n t u c : ℕ) (x : List ℕ) → n ≤ c → x ≡ codes "t" ++ decimal u ++ codes ".c" ++ decimal (c - n) → x ≡ side_name n t u c
second_named n t u c x most e =
    let same : x ≡ table_name u ++ codes "." ++ column_name (c - n) = e ∙ dotted u (c - n) in
    subst (λ (b : Bool). x ≡ if b then table_name t ++ codes "." ++ column_name c else table_name u ++ codes "." ++ column_name (c - n)) (sym (le-ltb c n most)) same

-- The order by a column.
pub column_first : (n t u c : ℕ) (x first pairs : List ℕ) → first ≡ side_name n t u c → pairs ≡ pair_order_sql t u → x ≡ codes " ORDER BY " ++ first ++ codes ", " ++ pairs → x ≡ side_order_sql n t u (Some c)
column_first n t u c x first pairs a b e =
    e ∙ (ap (λ (y : List ℕ). codes " ORDER BY " ++ y ++ codes ", " ++ pairs) a ∙ ap (λ (y : List ℕ). codes " ORDER BY " ++ side_name n t u c ++ codes ", " ++ y) b)

-- The two tables and ON.
pub paired : (n t u l r : ℕ) (x left right : List ℕ) → left ≡ side_name n t u l → right ≡ side_name n t u r
    → x ≡ codes " FROM t" ++ decimal t ++ codes " JOIN t" ++ decimal u ++ codes " ON " ++ left ++ codes " = " ++ right → x ≡ pair_sql n t u l r
paired n t u l r x left right a b e =
    e ∙ (ap (λ (y : List ℕ). codes " FROM t" ++ decimal t ++ codes " JOIN t" ++ decimal u ++ codes " ON " ++ y ++ codes " = " ++ right) a
    ∙ ap (λ (y : List ℕ). codes " FROM t" ++ decimal t ++ codes " JOIN t" ++ decimal u ++ codes " ON " ++ side_name n t u l ++ codes " = " ++ y) b)

-- The whole SELECT.
pub all_told : (n t : ℕ) (s : Selection) (join : Join) (x listed pair met order limit : List ℕ) → listed ≡ join_by (side_name n t join.table) (codes ", ") s.columns → pair ≡ pair_sql n t join.table join.left join.right
    → met ≡ side_where_sql n t join.table s.conditions → order ≡ side_order_sql n t join.table s.order → limit ≡ limit_sql s.limit → x ≡ codes "SELECT " ++ listed ++ pair ++ met ++ order ++ limit → x ≡ join_sql n t s join
all_told n t s join x listed pair met order limit a b c d f e =
    e ∙ (ap (λ (y : List ℕ). codes "SELECT " ++ y ++ pair ++ met ++ order ++ limit) a
    ∙ (ap (λ (y : List ℕ). codes "SELECT " ++ join_by (side_name n t join.table) (codes ", ") s.columns ++ y ++ met ++ order ++ limit) b
    ∙ (ap (λ (y : List ℕ). codes "SELECT " ++ join_by (side_name n t join.table) (codes ", ") s.columns ++ pair_sql n t join.table join.left join.right ++ y ++ order ++ limit) c
    ∙ (ap (λ (y : List ℕ). codes "SELECT " ++ join_by (side_name n t join.table) (codes ", ") s.columns ++ pair_sql n t join.table join.left join.right ++ side_where_sql n t join.table s.conditions ++ y ++ limit) d
    ∙ ap (λ (y : List ℕ). codes "SELECT " ++ join_by (side_name n t join.table) (codes ", ") s.columns ++ pair_sql n t join.table join.left join.right ++ side_where_sql n t join.table s.conditions ++ side_order_sql n t join.table s.order ++ y) f))))
