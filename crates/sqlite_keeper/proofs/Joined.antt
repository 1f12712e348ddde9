-- Texts that are joined by a separator.
use Rattle.std.proofs.Common.{◌≡◌, ◌++◌, ◌<◌, ◌∷◌, [], List, ℕ, length, refl, ap, codes, arith, append_assoc, ◌∙◌, Result, Ok, Err}
use Rattle.std.specs.Prelude.{map, IfOk, decimal}
use Rattle.std.specs.List.{join_by, flat_map}
use Rattle.okws_plan.specs.declared.statement.Condition.{Condition}
use Rattle.okws_plan.specs.declared.configuration.Column.{Column}
use Rattle.okws_plan.specs.declared.statement.Selection.{Selection}
use Rattle.sqlite_keeper.specs.Texts.{column_name, condition_sql, where_sql, side_condition_sql, side_where_sql, order_sql, limit_sql, select_sql, columns_sql, create_sql}

behind : {X Y A : Type 0} (f : X → List A) (g : Y → List A) (sep : List A) (xs : List X) (ys : List Y) → map f xs ≡ map g ys → flat_map (λ x. sep ++ f x) xs ≡ flat_map (λ y. sep ++ g y) ys
behind f g sep [] [] same = refl
behind f g sep [] (y ∷ ys) same = absurd cc
behind f g sep (x ∷ xs) [] same = absurd cc
behind f g sep (x ∷ xs) (y ∷ ys) same =
    let first : f x ≡ g y = cc in
    let more : map f xs ≡ map g ys = cc in
    rw (first, behind f g sep xs ys more) refl

-- Parts that are the same texts are joined to the same.
pub joined : {X Y A : Type 0} (f : X → List A) (g : Y → List A) (sep : List A) (xs : List X) (ys : List Y) → map f xs ≡ map g ys → join_by f sep xs ≡ join_by g sep ys
joined f g sep [] [] same = refl
joined f g sep [] (y ∷ ys) same = absurd cc
joined f g sep (x ∷ xs) [] same = absurd cc
joined f g sep (x ∷ xs) (y ∷ ys) same =
    let first : f x ≡ g y = cc in
    let more : map f xs ≡ map g ys = cc in
    rw (first, behind f g sep xs ys more) refl

-- Where there is a condition, the text of all has its first word.
pub where_met : (conditions : List Condition) → 0 < length conditions → where_sql conditions ≡ codes " WHERE " ++ join_by condition_sql (codes " AND ") conditions
where_met [] some = absurd (omega arith)
where_met (c ∷ more) some = refl

-- The same on joined rows.
pub side_where_met : (n t u : ℕ) (conditions : List Condition) → 0 < length conditions → side_where_sql n t u conditions ≡ codes " WHERE " ++ join_by (side_condition_sql n t u) (codes " AND ") conditions
side_where_met n t u [] some = absurd (omega arith)
side_where_met n t u (c ∷ more) some = refl

-- What joins parts joins what they are the texts of.
pub joins : {X Y A T E : Type 0} (r : Result T E) (bytes : T → List A) (f : X → List A) (g : Y → List A) (sep : List A) (xs : List X) (ys : List Y)
    → IfOk r (λ t. bytes t ≡ join_by f sep xs) → map f xs ≡ map g ys → IfOk r (λ t. bytes t ≡ join_by g sep ys)
joins (Ok t) bytes f g sep xs ys is same = is ∙ joined f g sep xs ys same
joins (Err e) bytes f g sep xs ys is same = tt

-- What holds of a text that was made gives what holds of it too.
pub ok_then : {A E : Type 0} {P Q : A → Type 0} (r : Result A E) → ((x : A) → P x → Q x) → IfOk r P → IfOk r Q
ok_then (Ok x) f h = f x h
ok_then (Err e) f h = tt
