-- What was done on one table is what the statement means on all.
use Rattle.std.proofs.Common.{◌≡◌, ◌∙◌, ℕ, zero, suc, ◌<◌, List, [], ◌∷◌, length, get_or, refl, sym, ap, subst, Option, Some, None, true, not, arith}
use Rattle.std.proofs.lemmas.Grind.{common_steps}
use Rattle.std.proofs.lemmas.List.{map-set, length-map}
use Rattle.std.proofs.lemmas.Bool.{and_parts, ltb-true}
use Rattle.std.specs.Prelude.{◌==◌, nat_lt, nat_le, All, map, slice_set, slice_index_or}
use Rattle.okws_base.specs.declared.limit.TheConstants.{MOST_PARAMETERS}
use Rattle.okws_base.specs.declared.value.Value.{Value}
use Rattle.okws_plan.specs.declared.configuration.Column.{Column}
use Rattle.okws_plan.specs.declared.configuration.Table.{Table}
use Rattle.okws_plan.specs.declared.statement.Join.{Join}
use Rattle.okws_plan.specs.declared.statement.Selection.{Selection}
use Rattle.okws_plan.specs.declared.statement.Action.{Action}
use Rattle.okws_plan.specs.declared.statement.Action.TheVariants as acts
use Rattle.okws_plan.specs.declared.statement.Answer.{Answer}
use Rattle.okws_plan.specs.declared.statement.Answer.TheVariants as answers
use Rattle.okws_plan.specs.declared.statement.Statement.{Statement}
use Rattle.okws_plan.specs.Meaning.{mean_on, mean, columns_of, ordered, limited}
use Rattle.okws_outer.proofs.Widths.{cut_rows_wide}
use Rattle.okws_plan.specs.Rules.{keeps_rules, join_of, join_fits, are_apart}
use Rattle.row_search.specs.Places.{Indexed, rows_of}
use Rattle.index_keeper.specs.Joining.{join_rows, joined_hits}

-- The rows of each table.
abbrev pub told_rows : List Indexed → List (List (List Value))
told_rows items = map (λ (r : Indexed). rows_of r.entries) items

-- A table that is read is one of those that are told.
pub row_kept : (items : List Indexed) (t : ℕ) (x : Indexed) → t < length items → x ≡ get_or items t x → rows_of x.entries ≡ slice_index_or (told_rows items) t []
row_kept [] t x h at = absurd (omega arith)
row_kept (y ∷ ys) zero x h at = ap (λ (r : Indexed). rows_of r.entries) at
row_kept (y ∷ ys) (suc t) x h at = row_kept ys t x (omega arith) at

-- What an action that joins no table means goes by its own table alone.
single : (columns : List Column) (T U : List (List (List Value))) (action : Action) (args : List Value) (rows : List (List Value)) → join_of action ≡ None → mean_on columns T action args rows ≡ mean_on columns U action args rows
single columns T U (acts.Select s) args rows h = let none : s.join ≡ None = h in rw none refl
single columns T U (acts.Insert values) args rows h = refl
single columns T U (acts.Update assignments conditions) args rows h = refl
single columns T U (acts.Delete conditions) args rows h = refl

pub ran : (columns own : List Column) (action : Action) (args : List Value) (before now : Indexed) (answer : Answer) (items : List Indexed) (t : ℕ) → join_of action ≡ None
    → (answer, rows_of now.entries) ≡ mean_on columns [] action args (rows_of before.entries) → columns ≡ own → rows_of before.entries ≡ slice_index_or (told_rows items) t []
    → (answer ≡ (mean_on own (told_rows items) action args (slice_index_or (told_rows items) t [])).0)
    × (Some (told_rows (slice_set items t now)) ≡ Some (slice_set (told_rows items) t (mean_on own (told_rows items) action args (slice_index_or (told_rows items) t [])).1))
ran columns own action args before now answer items t none done same whole =
    let e : (answer, rows_of now.entries) ≡ mean_on own (told_rows items) action args (slice_index_or (told_rows items) t []) =
    done
    ∙ ap (λ (cs : List Column). mean_on cs [] action args (rows_of before.entries)) same
    ∙ ap (λ (rows : List (List Value)). mean_on own [] action args rows) whole
    ∙ single own [] (told_rows items) action args (slice_index_or (told_rows items) t []) none in (
      ap (λ (p : Answer × List (List Value)). p.0) e,
      ap (λ (T : List (List (List Value))). Some T) (map-set (λ (r : Indexed). rows_of r.entries) items t now ∙ ap (λ (p : Answer × List (List Value)). slice_set (told_rows items) t p.1) e),
    )

set_itself : {A : Type 0} (xs : List A) (t : ℕ) (d : A) → t < length xs → slice_set xs t (slice_index_or xs t d) ≡ xs
set_itself [] t d h = absurd (omega arith)
set_itself (x ∷ xs) zero d h = refl
set_itself (x ∷ xs) (suc t) d h = ap (λ more. x ∷ more) (set_itself xs t d (omega arith))

-- The rows of a SELECT from two tables are what it means, and all rows stay.
pub joined_ran : (tables : List Table) (statement : Statement) (s : Selection) (join : Join) (args : List Value) (items : List Indexed) (found : List (List Value))
    → statement.action ≡ acts.Select s → s.join ≡ Some join → statement.table < length items → found ≡ join_rows tables (told_rows items) statement.table s join args
    → (answers.Rows (length s.columns) found ≡ (mean tables statement args (told_rows items)).0) × (Some (told_rows items) ≡ Some (mean tables statement args (told_rows items)).1)
joined_ran tables statement s join args items found selects joins there is =
    let T : List (List (List Value)) = told_rows items in
    let t : ℕ = statement.table in
    let meant : mean_on (columns_of tables t) T statement.action args (slice_index_or T t []) ≡ (answers.Rows (length s.columns) (join_rows tables T t s join args), slice_index_or T t []) = rw (selects, joins) refl in
    let long : length T ≡ length items = length-map items (λ (r : Indexed). rows_of r.entries) in (
      ap (λ (rows : List (List Value)). answers.Rows (length s.columns) rows) is ∙ sym (ap (λ (p : Answer × List (List Value)). p.0) meant),
      ap (λ (U : List (List (List Value))). Some U) (sym (set_itself T t [] (omega (arith, there, long))) ∙ sym (ap (λ (p : Answer × List (List Value)). slice_set T t p.1) meant)),
    )

same_set : (items : List Indexed) (t : ℕ) (x : Indexed) → t < length items → x ≡ get_or items t x → slice_set items t x ≡ items
same_set [] t x h at = absurd (omega arith)
same_set (y ∷ ys) zero x h at = ap (λ (r : Indexed). r ∷ ys) at
same_set (y ∷ ys) (suc t) x h at = ap (λ (more : List Indexed). y ∷ more) (same_set ys t x (omega arith) at)

-- A table that is put back as it was changes nothing.
pub put_back : (items : List Indexed) (t : ℕ) (x now : Indexed) → t < length items → x ≡ get_or items t x → now ≡ x → Some (told_rows (slice_set items t now)) ≡ Some (told_rows items)
put_back items t x now h at same = ap (λ (r : Indexed). Some (told_rows (slice_set items t r))) same ∙ ap (λ (all : List Indexed). Some (told_rows all)) (same_set items t x h at)

-- A statement that keeps the rules is of a table that is there.
pub has_table : (tables : List Table) (statement : Statement) → keeps_rules tables statement ≡ true → statement.table < length tables
has_table tables statement h = grind (arith, common_steps)

-- What is known of a join that keeps the rules: both tables are there, and one of its columns is of each.
pub record JoinThere (tables : List Table) (st : Statement) (join : Join) : Type 0 where
  pub apart : are_apart (length (columns_of tables st.table)) join.left join.right ≡ true
  pub first : st.table < length tables
  pub second : join.table < length tables

pub join_there : (tables : List Table) (st : Statement) (join : Join) → keeps_rules tables st ≡ true → join_of st.action ≡ Some join → JoinThere tables st join
join_there tables st join h is =
    let one = and_parts (nat_lt st.table (length tables)) _ h in
    let two = and_parts (nat_le (length st.parameters) MOST_PARAMETERS) _ one.1 in
    let three = and_parts (join_fits tables st.table (join_of st.action)) _ two.1 in
    let fit : join_fits tables st.table (Some join) ≡ true = subst (λ (o : Option Join). join_fits tables st.table o ≡ true) is three.0 in
    let four = and_parts (nat_lt join.table (length tables)) _ fit in
    let five = and_parts (not (join.table == st.table)) _ four.1 in
    let six = and_parts (are_apart (length (columns_of tables st.table)) join.left join.right) _ five.1 in
    record { apart = six.0; first = ltb-true st.table (length tables) one.0; second = ltb-true join.table (length tables) four.0 }

-- The rows that a join answers are as wide as its list of columns.
pub join_wide : (tables : List Table) (T : List (List (List Value))) (t : ℕ) (s : Selection) (join : Join) (args : List Value) (columns : List ℕ) (all : List (List Value)) → all ≡ join_rows tables T t s join args → columns ≡ s.columns
    → All (λ (row : List Value). length row ≡ length columns) all
join_wide tables T t s join args columns all is same =
    subst (λ (rows : List (List Value)). All (λ (row : List Value). length row ≡ length columns) rows) (sym is)
    (subst (λ (cs : List ℕ). All (λ (row : List Value). length row ≡ length cs) (join_rows tables T t s join args)) (sym same)
    (cut_rows_wide s.columns (limited s.limit (ordered s.order (joined_hits args (length (columns_of tables t)) join s (slice_index_or T t []) (slice_index_or T join.table []))))))
