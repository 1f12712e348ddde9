-- Columns of other names: what fits the ones fits the others.
use Rattle.std.proofs.Common.{◌≡◌, ℕ, suc, zero, ◌-◌, ◌≤◌, ◌<◌, ◌&&◌, List, [], ◌∷◌, ◌++◌, map, Option, Some, None, option_map, refl, ap, arith, length}
use Rattle.std.specs.Prelude.{nat_le, nat_lt, slice_get}
use Rattle.std.specs.List.{list_all}
use Rattle.okws_base.specs.declared.limit.TheConstants.{MOST_COLUMNS, MOST_CONDITIONS}
use Rattle.okws_base.specs.declared.value.Kind.{Kind}
use Rattle.okws_plan.specs.Rules.{fits_column, condition_fits, order_fits, limit_fits, selection_fits}
use Rattle.okws_plan.specs.declared.configuration.Column.{Column}
use Rattle.okws_plan.specs.declared.statement.Operand.{Operand}
use Rattle.okws_plan.specs.declared.statement.Condition.{Condition}
use Rattle.okws_plan.specs.declared.statement.Selection.{Selection}
use Rattle.statement_core.specs.Joining.{qualified_columns, joined_columns}

-- as many columns, of the same kinds
abbrev pub SameKinds : List Column → List Column → Type 0
SameKinds [] [] = Unit {0}
SameKinds [] (y ∷ ys) = ⊥
SameKinds (x ∷ xs) [] = ⊥
SameKinds (x ∷ xs) (y ∷ ys) = (x.kind ≡ y.kind) × SameKinds xs ys

kinds_again : (columns : List Column) → SameKinds columns columns
kinds_again [] = tt
kinds_again (c ∷ more) = (refl, kinds_again more)

kinds_qualified : (table : List ℕ) (columns more others : List Column) → SameKinds more others → SameKinds (qualified_columns table columns ++ more) (columns ++ others)
kinds_qualified table [] more others h = h
kinds_qualified table (c ∷ columns) more others h = (refl, kinds_qualified table columns more others h)

kinds_renamed : (table : List ℕ) (columns : List Column) → SameKinds (qualified_columns table columns) columns
kinds_renamed table [] = tt
kinds_renamed table (c ∷ columns) = (refl, kinds_renamed table columns)

pub kinds_joined : (table : List ℕ) (columns : List Column) (second : List ℕ) (others : List Column) → SameKinds (joined_columns table columns second others) (columns ++ others)
kinds_joined table columns second others = kinds_qualified table columns (qualified_columns second others) others (kinds_renamed second others)

pub as_long : (xs ys : List Column) → SameKinds xs ys → length xs ≡ length ys
as_long [] [] h = refl
as_long [] (y ∷ ys) h = absurd h
as_long (x ∷ xs) [] h = absurd h
as_long (x ∷ xs) (y ∷ ys) h = ap suc (as_long xs ys h.1)

-- the kinds of columns that may not be there are the same
pub fits_like : (kinds : List Kind) (o : Operand) (xs ys : List Column) (c : ℕ) → SameKinds xs ys → fits_column kinds (slice_get xs c) o ≡ fits_column kinds (slice_get ys c) o
fits_like kinds o [] [] c h = refl
fits_like kinds o [] (y ∷ ys) c h = absurd h
fits_like kinds o (x ∷ xs) [] c h = absurd h
fits_like kinds o (x ∷ xs) (y ∷ ys) zero h = rw h.0 refl
fits_like kinds o (x ∷ xs) (y ∷ ys) (suc c) h = fits_like kinds o xs ys c h.1

pub kind_like : (xs ys : List Column) (c : ℕ) → SameKinds xs ys → option_map (λ (x : Column). x.kind) (slice_get xs c) ≡ option_map (λ (x : Column). x.kind) (slice_get ys c)
kind_like [] [] c h = refl
kind_like [] (y ∷ ys) c h = absurd h
kind_like (x ∷ xs) [] c h = absurd h
kind_like (x ∷ xs) (y ∷ ys) zero h = ap (λ (k : Kind). Some k) h.0
kind_like (x ∷ xs) (y ∷ ys) (suc c) h = kind_like xs ys c h.1

conditions_like : (kinds : List Kind) (conditions : List Condition) (xs ys : List Column) → SameKinds xs ys → list_all (λ (c : Condition). condition_fits xs kinds c) conditions ≡ list_all (λ (c : Condition). condition_fits ys kinds c) conditions
conditions_like kinds [] xs ys h = refl
conditions_like kinds (c ∷ more) xs ys h = rw (fits_like kinds c.operand xs ys c.column h, conditions_like kinds more xs ys h) refl

order_like : (order : Option ℕ) (xs ys : List Column) → length xs ≡ length ys → order_fits xs order ≡ order_fits ys order
order_like None xs ys h = refl
order_like (Some c) xs ys h = ap (nat_lt c) h

-- a selection that fits the ones fits the others
pub selection_like : (kinds : List Kind) (s : Selection) (xs ys : List Column) → SameKinds xs ys → selection_fits xs kinds s ≡ selection_fits ys kinds s
selection_like kinds s xs ys h =
    let long : length xs ≡ length ys = as_long xs ys h in
    let listed : list_all (λ (c : ℕ). nat_lt c (length xs)) s.columns ≡ list_all (λ (c : ℕ). nat_lt c (length ys)) s.columns = ap (λ (n : ℕ). list_all (λ (c : ℕ). nat_lt c n) s.columns) long in
    let tested = conditions_like kinds s.conditions xs ys h in
    let ordered = order_like s.order xs ys long in
    λ i. nat_le 1 (length s.columns) && (nat_le (length s.columns) MOST_COLUMNS && (listed i && ((nat_le (length s.conditions) MOST_CONDITIONS && tested i) && (ordered i && limit_fits s.limit))))

-- a column of a front, and one behind it
pub front_at : {A : Type 0} (xs ys : List A) (c : ℕ) → c < length xs → slice_get (xs ++ ys) c ≡ slice_get xs c
front_at [] ys c h = absurd (omega arith)
front_at (x ∷ xs) ys zero h = refl
front_at (x ∷ xs) ys (suc c) h = front_at xs ys c (omega arith)

pub behind_at : {A : Type 0} (xs ys : List A) (c d : ℕ) → length xs ≤ c → c - length xs ≡ d → slice_get (xs ++ ys) c ≡ slice_get ys d
behind_at [] ys c d h e = ap (slice_get ys) (let n : c ≡ d = omega (arith, e) in n)
behind_at (x ∷ xs) ys zero d h e = absurd (omega arith)
behind_at (x ∷ xs) ys (suc c) d h e = behind_at xs ys c d (omega arith) (omega (arith, e))

pub mapped_at : {A B : Type 0} (f : A → B) (xs : List A) (c : ℕ) (x : A) → slice_get xs c ≡ Some x → slice_get (map f xs) c ≡ Some (f x)
mapped_at f [] c x e = absurd (let none : None ≡ Some x = e in cc)
mapped_at {A} f (y ∷ ys) zero x e = let same : y ≡ x = cc in ap (λ (z : A). Some (f z)) same
mapped_at f (y ∷ ys) (suc c) x e = mapped_at f ys c x e
