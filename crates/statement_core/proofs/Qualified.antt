-- Columns by their qualified names, and by their places among those of joined rows.
use Rattle.std.proofs.Common.{◌≡◌, ℕ, suc, zero, ◌-◌, ◌+◌, ◌≤◌, ◌<◌, Bool, true, false, ◌&&◌, cond, List, [], ◌∷◌, ◌++◌, length, map, take, drop, position, Option, Some, None, option_map, refl, sym, ap, ◌∙◌, arith}
use Rattle.std.specs.Prelude.{nat_eq}
use Rattle.std.specs.List.{position_from}
use Rattle.std.specs.Cmp.Lexicographic.{pointwise}
use Rattle.std.proofs.lemmas.Bool.{true≢false, false≢true, and_parts, eqb-true, eq-eqb}
use Rattle.std.proofs.lemmas.List.{length-map, length-append}
use Rattle.std.proofs.lemmas.Iterator.Adapters.{position_from-zero}
use Rattle.okws_base.specs.Value.{same_bytes}
use Rattle.okws_plan.specs.declared.configuration.Column.{Column}
use Rattle.statement_core.specs.Joining.{qualified_name, qualified_columns, joined_columns, scope_columns, is_dotted}
use Rattle.statement_core.specs.Resolving.{kind_at}
use Rattle.statement_core.proofs.Renamed.{kinds_joined, kind_like, front_at, behind_at}

turned : (a b : ℕ) → nat_eq a b ≡ nat_eq b a
turned a b = by (nat_eq a b) (nat_eq b a) refl refl
  where
    by : (x y : Bool) → nat_eq a b ≡ x → nat_eq b a ≡ y → x ≡ y
    by true true e f = refl
    by false false e f = refl
    by true false e f = absurd (true≢false (sym (eq-eqb b a (sym (eqb-true a b e))) ∙ f))
    by false true e f = absurd (true≢false (sym (eq-eqb a b (sym (eqb-true b a f))) ∙ e))

-- Where the bytes don't begin with the table, they are no name of its column.
pub unqualified : (table column name : List ℕ) → pointwise nat_eq (take (length table) name) table ≡ false → same_bytes (qualified_name table column) name ≡ false
unqualified [] column name h = absurd (true≢false h)
unqualified (p ∷ table) column [] h = refl
unqualified (p ∷ table) column (q ∷ name) h = rw (turned p q) (by (nat_eq q p) (unqualified table column name) h)
  where
    by : (s : Bool) → (pointwise nat_eq (take (length table) name) table ≡ false → same_bytes (qualified_name table column) name ≡ false)
        → (s && pointwise nat_eq (take (length table) name) table) ≡ false → (s && same_bytes (qualified_name table column) name) ≡ false
    by true more k = more k
    by false more k = refl

-- Where they do, what follows tells.
pub qualified : (table column name : List ℕ) → pointwise nat_eq (take (length table) name) table ≡ true → same_bytes (qualified_name table column) name ≡ is_dotted column (drop (length table) name)
qualified [] column [] h = refl
qualified [] column (b ∷ rest) h = rw (turned 46 b) refl
qualified (p ∷ table) column [] h = absurd (false≢true h)
qualified (p ∷ table) column (q ∷ name) h =
    let parts = and_parts (nat_eq q p) (pointwise nat_eq (take (length table) name) table) h in
    rw (turned p q, parts.0) (qualified table column name parts.1)

-- the first place in two lists

module _ {A : Type 0} (p : A → Bool) where
  front_from : (i : ℕ) (xs ys : List A) (k : ℕ) → position_from p i xs ≡ Some k → position_from p i (xs ++ ys) ≡ Some k
  front_from i [] ys k e = absurd (let none : None ≡ Some k = e in cc)
  front_from i (x ∷ xs) ys k e = by (p x) (front_from (i + 1) xs ys k) e
    where
      by : (s : Bool) → (position_from p (i + 1) xs ≡ Some k → position_from p (i + 1) (xs ++ ys) ≡ Some k)
          → cond s (Some i) (position_from p (i + 1) xs) ≡ Some k → cond s (Some i) (position_from p (i + 1) (xs ++ ys)) ≡ Some k
      by true more e = e
      by false more e = more e

  behind_from : (i : ℕ) (xs ys : List A) → position_from p i xs ≡ None → position_from p i (xs ++ ys) ≡ position_from p (i + length xs) ys
  behind_from i [] ys e = ap (λ (n : ℕ). position_from p n ys) (let same : i ≡ i + 0 = omega arith in same)
  behind_from i (x ∷ xs) ys e = by (p x) (behind_from (i + 1) xs ys) e
    where
      by : (s : Bool) → (position_from p (i + 1) xs ≡ None → position_from p (i + 1) (xs ++ ys) ≡ position_from p (i + 1 + length xs) ys)
          → cond s (Some i) (position_from p (i + 1) xs) ≡ None → cond s (Some i) (position_from p (i + 1) (xs ++ ys)) ≡ position_from p (i + suc (length xs)) ys
      by true more e = absurd (let some : Some i ≡ None = e in cc)
      by false more e = more e ∙ ap (λ (n : ℕ). position_from p n ys) (let same : i + 1 + length xs ≡ i + suc (length xs) = omega arith in same)

  shift_from : (i n : ℕ) (ys : List A) → position_from p (i + n) ys ≡ option_map (λ (k : ℕ). n + k) (position_from p i ys)
  shift_from i n [] = refl
  shift_from i n (y ∷ ys) = by (p y) (shift_from (i + 1) n ys)
    where
      by : (s : Bool) → position_from p (i + 1 + n) ys ≡ option_map (λ (k : ℕ). n + k) (position_from p (i + 1) ys)
          → cond s (Some (i + n)) (position_from p (i + n + 1) ys) ≡ option_map (λ (k : ℕ). n + k) (cond s (Some i) (position_from p (i + 1) ys))
      by true more = ap (λ (k : ℕ). Some k) (let same : i + n ≡ n + i = omega arith in same)
      by false more = ap (λ (k : ℕ). position_from p k ys) (let same : i + n + 1 ≡ i + 1 + n = omega arith in same) ∙ more

mapped_from : {A B : Type 0} (p : B → Bool) (f : A → B) (i : ℕ) (xs : List A) → position_from p i (map f xs) ≡ position_from (λ (x : A). p (f x)) i xs
mapped_from p f i [] = refl
mapped_from p f i (x ∷ xs) = rw (mapped_from p f (i + 1) xs) refl

-- the places of a table's columns by qualified names
places : (table name : List ℕ) (columns : List Column)
    → position_from (λ (c : Column). same_bytes c.name name) 0 (qualified_columns table columns) ≡ position (λ (c : Column). same_bytes (qualified_name table c.name) name) columns
places table name columns =
    mapped_from (λ (c : Column). same_bytes c.name name) (λ (c : Column). record c { name = qualified_name table c.name }) 0 columns
    ∙ sym (position_from-zero (λ (c : Column). same_bytes (qualified_name table c.name) name) columns)

-- A column of the first table, by its place.
pub place_first : (table : List ℕ) (columns : List Column) (second : List ℕ) (others : List Column) (name : List ℕ) (n : ℕ)
    → position (λ (c : Column). same_bytes (qualified_name table c.name) name) columns ≡ Some n
    → position (λ (c : Column). same_bytes c.name name) (joined_columns table columns second others) ≡ Some n
place_first table columns second others name n h =
    let p : Column → Bool = λ c. same_bytes c.name name in
    position_from-zero p (joined_columns table columns second others)
    ∙ front_from p 0 (qualified_columns table columns) (qualified_columns second others) n (places table name columns ∙ h)

-- A column of the second, by its place there.
pub place_second : (table : List ℕ) (columns : List Column) (second : List ℕ) (others : List Column) (name : List ℕ)
    → position (λ (c : Column). same_bytes (qualified_name table c.name) name) columns ≡ None
    → position (λ (c : Column). same_bytes c.name name) (joined_columns table columns second others) ≡ option_map (λ (k : ℕ). length columns + k) (position (λ (c : Column). same_bytes (qualified_name second c.name) name) others)
place_second table columns second others name h =
    let p : Column → Bool = λ c. same_bytes c.name name in
    let long : length (qualified_columns table columns) ≡ length columns = length-map columns (λ (c : Column). record c { name = qualified_name table c.name }) in
    position_from-zero p (joined_columns table columns second others)
    ∙ behind_from p 0 (qualified_columns table columns) (qualified_columns second others) (places table name columns ∙ h)
    ∙ ap (λ (n : ℕ). position_from p n (qualified_columns second others)) (let same : 0 + length (qualified_columns table columns) ≡ 0 + length columns = omega (arith, long) in same)
    ∙ shift_from p 0 (length columns) (qualified_columns second others)
    ∙ ap (option_map (λ (k : ℕ). length columns + k)) (places second name others)

-- What is said of a name by its place, where the columns are those of joined rows: a column of the first table,
pub seen_first : (b : Bool) (table : List ℕ) (columns : List Column) (second : List ℕ) (others : List Column) (name : List ℕ) (n : ℕ) (now : List Column) → b ≡ true → now ≡ scope_columns b table columns second others
    → position (λ (c : Column). same_bytes (qualified_name table c.name) name) columns ≡ Some n → Some n ≡ position (λ (c : Column). same_bytes c.name name) now
seen_first true table columns second others name n now h is e = sym (ap (position (λ (c : Column). same_bytes c.name name)) is ∙ place_first table columns second others name n e)
seen_first false table columns second others name n now h is e = absurd (false≢true h)

-- or one of the second, if any.
pub seen_second : (b : Bool) (table : List ℕ) (columns : List Column) (second : List ℕ) (others : List Column) (name : List ℕ) (o : Option ℕ) (now : List Column) → b ≡ true → now ≡ scope_columns b table columns second others
    → position (λ (c : Column). same_bytes (qualified_name table c.name) name) columns ≡ None → position (λ (c : Column). same_bytes (qualified_name second c.name) name) others ≡ o
    → option_map (λ (k : ℕ). length columns + k) o ≡ position (λ (c : Column). same_bytes c.name name) now
seen_second true table columns second others name o now h is none e =
    sym (ap (position (λ (c : Column). same_bytes c.name name)) is ∙ place_second table columns second others name none ∙ ap (option_map (λ (k : ℕ). length columns + k)) e)
seen_second false table columns second others name o now h is none e = absurd (false≢true h)

-- There are so many of both.
pub long_joined : (table : List ℕ) (columns : List Column) (second : List ℕ) (others : List Column) → length (joined_columns table columns second others) ≡ length columns + length others
long_joined table columns second others =
    let one = length-map columns (λ (c : Column). record c { name = qualified_name table c.name }) in
    let two = length-map others (λ (c : Column). record c { name = qualified_name second c.name }) in
    omega (arith, length-append (qualified_columns table columns) (qualified_columns second others), one, two)

-- Their kinds.
pub kind_first : (table : List ℕ) (columns : List Column) (second : List ℕ) (others : List Column) (c : ℕ) → c < length columns → kind_at (joined_columns table columns second others) c ≡ kind_at columns c
kind_first table columns second others c h =
    kind_like (joined_columns table columns second others) (columns ++ others) c (kinds_joined table columns second others) ∙ ap (option_map (λ (x : Column). x.kind)) (front_at columns others c h)

pub kind_second : (table : List ℕ) (columns : List Column) (second : List ℕ) (others : List Column) (c : ℕ) → length columns ≤ c → kind_at (joined_columns table columns second others) c ≡ kind_at others (c - length columns)
kind_second table columns second others c h =
    kind_like (joined_columns table columns second others) (columns ++ others) c (kinds_joined table columns second others) ∙ ap (option_map (λ (x : Column). x.kind)) (behind_at columns others c (c - length columns) h refl)
