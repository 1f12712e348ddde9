-- Tables that differ in their first rows alone have the same columns.
use Rattle.std.proofs.Common.{◌≡◌, ◌∙◌, ℕ, zero, suc, true, false, List, [], ◌∷◌, ◌++◌, length, map, refl, sym, ap}
use Rattle.std.specs.Prelude.{Bool, nat_lt, nat_le, ◌&&◌, ◌==◌, slice_get, Option, Some, None, Ok, Err, Result, IfErr, not, slice_index_or}
use Rattle.okws_base.specs.declared.value.Value.{Value}
use Rattle.std.specs.List.{list_all}
use Rattle.std.proofs.lemmas.List.{length-map}
use Rattle.std.proofs.lemmas.Bool.{not-false}
use Rattle.std.proofs.lemmas.Option.{none-some}
use Rattle.okws_base.specs.declared.limit.TheConstants.{MOST_PARAMETERS}
use Rattle.okws_plan.specs.Configuration.{numbered_from}
use Rattle.okws_plan.specs.Meaning.{columns_of, mean, mean_on, on_table}
use Rattle.okws_plan.specs.Rules.{action_fits, keeps_rules, stands_in, join_of, join_fits, read_columns, are_apart, are_of_kind}
use Rattle.okws_plan.specs.declared.statement.Join.{Join}
use Rattle.okws_plan.specs.declared.configuration.Column.{Column}
use Rattle.okws_plan.specs.declared.configuration.Table.{Table}
use Rattle.okws_plan.specs.declared.statement.Answer.{Answer}
use Rattle.okws_plan.specs.declared.statement.Statement.{Statement}
use Rattle.okws_outer.specs.Keeping.{Runs}
use Rattle.okws_outer.specs.declared.keeper.RunError.{RunError}
use Rattle.store_keeper.specs.Alike.{bare, AreAlike, HasRows}

unsome_or : Option (List (List (List Value))) → List (List (List Value)) → List (List (List Value))
unsome_or None d = d
unsome_or (Some R) d = R

unsome : (R T : List (List (List Value))) → Some R ≡ Some T → R ≡ T
unfolding unsome_or
unsome R T e = ap (λ (o : Option (List (List (List Value)))). unsome_or o R) e

columns_bare : (ts : List Table) (n : ℕ) → columns_of (map bare ts) n ≡ columns_of ts n
columns_bare [] n = refl
columns_bare (t ∷ ts) zero = refl
columns_bare (t ∷ ts) (suc n) = columns_bare ts n

columns_alike : (some others : List Table) (n : ℕ) → AreAlike some others → columns_of some n ≡ columns_of others n
columns_alike some others n alike = sym (columns_bare some n) ∙ ap (λ (ts : List Table). columns_of ts n) alike ∙ columns_bare others n

-- a statement means the same at both
mean_alike : (some others : List Table) (st : Statement) (args : List Value) (T : List (List (List Value))) → AreAlike some others → mean some st args T ≡ mean others st args T
mean_alike some others st args T alike =
    ap (λ (cs : List Column). on_table T st.table (mean_on cs T st.action args (slice_index_or T st.table []))) (columns_alike some others st.table alike)

-- where the store and the rows both answered, the store has the rows again
pub same_after : (some others : List Table) (st : Statement) (args : List Value) (told now : Option (List (List (List Value)))) (R : List (List (List Value))) (left : Option (List (List (List Value)))) (a b : Answer)
    → AreAlike some others → HasRows told (Some R) → Runs some st args told now (Ok a) → Runs others st args (Some R) left (Ok b) → HasRows now left
same_after some others st args None now R left a b alike has first second = λ T e. absurd (none-some T (sym first.1 ∙ e))
same_after some others st args (Some T) now R left a b alike has first second = λ U e.
    second.1 ∙ ap (λ (m : Answer × List (List (List Value))). Some m.1) (sym (mean_alike some others st args R alike))
    ∙ ap (λ (rows : List (List (List Value))). Some (mean some st args rows).1) (unsome R T (has T refl)) ∙ sym first.1 ∙ e

-- where the store failed, it has them still
pub same_failed : (some : List Table) (st : Statement) (args : List Value) (told now left : Option (List (List (List Value)))) (why : RunError) → HasRows told left → Runs some st args told now (Err why) → HasRows now left
same_failed some st args None now left why has first = λ T e. absurd (none-some T (sym first ∙ e))
same_failed some st args (Some T) now left why has first = λ U e. has U (sym first ∙ e)

-- the same of an answer in memory with which the store's agrees
pub same_ok : (some others : List Table) (st : Statement) (args : List Value) (told now : Option (List (List (List Value)))) (R : List (List (List Value))) (left : Option (List (List (List Value)))) (a : Answer) (r : Result Answer RunError)
    (agreed : Bool) → not agreed ≡ false → (agreed ≡ true → IfErr r (λ _. ⊥)) → AreAlike some others → HasRows told (Some R) → Runs some st args told now (Ok a) → Runs others st args (Some R) left r → HasRows now left
same_ok some others st args told now R left a (Ok b) agreed off ok alike has first second = same_after some others st args told now R left a b alike has first second
same_ok some others st args told now R left a (Err e) agreed off ok alike has first second = absurd (ok (not-false agreed off))

-- a call leaves the tables of both
pub still_alike : (store kept rows left : List Table) → kept ≡ store → left ≡ rows → AreAlike store rows → AreAlike kept left
still_alike store kept rows left e f h = ap (map bare) e ∙ h ∙ ap (map bare) (sym f)

-- the rules of the query language, by what they ask of the tables
abbrev rules_at : ℕ → (ℕ → List Column) → Statement → Option Join → Bool
rules_at many columns st None =
    nat_lt st.table many && (nat_le (length st.parameters) MOST_PARAMETERS
    && (action_fits (columns st.table) st.parameters st.action && list_all (λ (n : ℕ). stands_in n st.action) (numbered_from 1 (length st.parameters))))
rules_at many columns st (Some join) =
    nat_lt st.table many && (nat_le (length st.parameters) MOST_PARAMETERS
    && ((nat_lt join.table many && (not (join.table == st.table) && (are_apart (length (columns st.table)) join.left join.right
    && are_of_kind (slice_get (columns st.table ++ columns join.table) join.left) (slice_get (columns st.table ++ columns join.table) join.right))))
    && (action_fits (columns st.table ++ columns join.table) st.parameters st.action && list_all (λ (n : ℕ). stands_in n st.action) (numbered_from 1 (length st.parameters)))))

rules_are : (tables : List Table) (st : Statement) → keeps_rules tables st ≡ rules_at (length tables) (columns_of tables) st (join_of st.action)
rules_are tables st = by (join_of st.action)
  where
    by : (o : Option Join) → (nat_lt st.table (length tables) && (nat_le (length st.parameters) MOST_PARAMETERS && (join_fits tables st.table o && (action_fits (read_columns tables st.table o) st.parameters st.action
        && list_all (λ (n : ℕ). stands_in n st.action) (numbered_from 1 (length st.parameters)))))) ≡ rules_at (length tables) (columns_of tables) st o
    by None = refl
    by (Some join) = refl

-- a statement that keeps the rules for the one keeps them for the other
pub rules_alike : (some others : List Table) (st : Statement) → AreAlike some others → keeps_rules others st ≡ true → keeps_rules some st ≡ true
rules_alike some others st alike h =
    let many : length others ≡ length some = sym (length-map others bare) ∙ ap length (sym alike) ∙ length-map some bare in
    let same : (n : ℕ) → columns_of others n ≡ columns_of some n = λ n. sym (columns_alike some others n alike) in
    rules_are some st ∙ (λ i. rules_at (sym many i) (λ n. sym (same n) i) st (join_of st.action)) ∙ sym (rules_are others st) ∙ h
