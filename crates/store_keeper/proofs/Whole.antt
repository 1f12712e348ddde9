-- The SELECT of a whole table keeps the rules of the query language.
use Rattle.std.proofs.Common.{◌≡◌, ◌∙◌, ℕ, zero, suc, ◌+◌, ◌-◌, ◌<◌, ◌≤◌, true, List, [], ◌∷◌, ◌++◌, length, refl, sym, ap, subst, arith}
use Rattle.std.specs.Prelude.{nat_lt}
use Rattle.std.specs.List.{list_all}
use Rattle.std.proofs.lemmas.Bool.{and_from, lt-ltb, le-leb}
use Rattle.std.proofs.lemmas.List.{append_assoc}
use Rattle.okws_base.specs.declared.limit.TheConstants.{MOST_COLUMNS}
use Rattle.okws_plan.specs.Configuration.{numbered_from}
use Rattle.okws_plan.specs.Meaning.{columns_of}
use Rattle.okws_plan.specs.Rules.{is_column, keeps_rules}
use Rattle.okws_plan.specs.declared.configuration.Column.{Column}
use Rattle.okws_plan.specs.declared.configuration.Table.{Table}
use Rattle.store_keeper.specs.Loading.{whole_of}

-- one number more
pub numbers_next : (before now : List ℕ) (at count : ℕ) → at < count → now ≡ before ++ at ∷ [] → before ++ numbered_from at (count - at) ≡ numbered_from 0 count
    → now ++ numbered_from (at + 1) (count - (at + 1)) ≡ numbered_from 0 count
numbers_next before now at count below is all =
    let one : count - at ≡ suc (count - (at + 1)) = omega (arith, below) in
    subst (λ (ns : List ℕ). ns ++ numbered_from (at + 1) (count - (at + 1)) ≡ numbered_from 0 count) (sym is)
    (append_assoc before (at ∷ []) (numbered_from (at + 1) (count - (at + 1)))
    ∙ ap (λ (n : ℕ). before ++ numbered_from at n) (sym one) ∙ all)

pub length_numbered : (i n : ℕ) → length (numbered_from i n) ≡ n
length_numbered i zero = refl
length_numbered i (suc n) = ap suc (length_numbered (i + 1) n)

all_columns : (columns : List Column) (i n : ℕ) → i + n ≤ length columns → list_all (λ (c : ℕ). is_column columns c) (numbered_from i n) ≡ true
all_columns columns i zero h = refl
all_columns columns i (suc n) h = and_from (nat_lt i (length columns)) _ (lt-ltb i (length columns) (omega (arith, h))) (all_columns columns (i + 1) n (omega (arith, h)))

pub whole_keeps : (ts : List Table) (t count : ℕ) → t < length ts → count ≡ length (columns_of ts t) → 0 < count → count ≤ MOST_COLUMNS → keeps_rules ts (whole_of t count) ≡ true
whole_keeps ts t count there is some few =
    let many : length (numbered_from 0 count) ≡ count = length_numbered 0 count in
    and_from _ _ (lt-ltb t (length ts) there)
    (and_from _ _ (and_from _ _ (le-leb 1 (length (numbered_from 0 count)) (omega (arith, many, some)))
    (and_from _ _ (le-leb (length (numbered_from 0 count)) MOST_COLUMNS (omega (arith, many, few)))
    (and_from _ _ (all_columns (columns_of ts t) 0 count (omega (arith, is))) refl))) refl)
