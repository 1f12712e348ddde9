-- What a keeper answers to the SELECT of a whole table, and that it leaves the rows.
use Rattle.std.proofs.Common.{◌≡◌, ◌≢◌, ◌∙◌, ℕ, zero, suc, ◌+◌, ◌<◌, ◌≤◌, true, List, [], ◌∷◌, ◌++◌, length, get_or, map, take, refl, sym, ap, subst, arith, Result, Option, Some, None}
use Rattle.std.specs.Prelude.{Ok, Err, nat_le, slice_get, slice_set, slice_index_or}
use Rattle.std.specs.List.{list_all}
use Rattle.std.proofs.lemmas.Bool.{and_parts, leb-true}
use Rattle.std.proofs.lemmas.List.{set-get_or, map-append}
use Rattle.std.proofs.Math.Seq.{take-suc}
use Rattle.okws_base.specs.declared.value.Value.{Value}
use Rattle.okws_base.specs.declared.limit.TheConstants.{MOST_COLUMNS}
use Rattle.okws_plan.specs.Configuration.{numbered_from}
use Rattle.okws_plan.specs.Sound.{is_sound_table}
use Rattle.okws_plan.specs.Meaning.{columns_of, mean, selection_answer}
use Rattle.okws_plan.specs.declared.configuration.Table.{Table}
use Rattle.okws_plan.specs.declared.statement.Answer.{Answer}
use Rattle.okws_plan.specs.declared.statement.Answer.TheVariants.{Rows}
use Rattle.okws_plan.specs.declared.statement.Answer.TheVariants as answer
use Rattle.okws_plan.specs.declared.statement.Selection.{Selection}
use Rattle.okws_plan.specs.declared.statement.Statement.{Statement}
use Rattle.okws_outer.specs.Keeping.{Runs}
use Rattle.okws_outer.specs.declared.keeper.RunError.{RunError}
use Rattle.store_keeper.specs.Alike.{bare, AreAlike}
use Rattle.store_keeper.specs.Loading.{first_in, whole_of, IsReadAt, AreRead}
use Rattle.store_keeper.proofs.Whole.{length_numbered}

abbrev width_of : Answer → ℕ
width_of (answer.Rows columns rows) = columns
width_of (answer.Changed n) = 0
width_of answer.Duplicate = 0

abbrev whole_selection : ℕ → Selection
whole_selection count = record { join = None; columns = numbered_from 0 count; conditions = []; order = None; limit = None }

leaves : (ts : List Table) (t count : ℕ) (T : List (List (List Value))) → (mean ts (whole_of t count) [] T).1 ≡ T
leaves ts t count T = set-get_or T t []

-- the rows stay, and what was answered is as wide as the table
pub whole_read : (ts : List Table) (t count columns : ℕ) (rows : List (List Value)) (told now : Option (List (List (List Value)))) → Runs ts (whole_of t count) [] told now (Ok (Rows columns rows))
    → (now ≡ told) × Runs ts (whole_of t count) [] told told (Ok (Rows count rows))
whole_read ts t count columns rows None now runs = (runs.1, (sym (length_numbered 0 count), refl))
whole_read ts t count columns rows (Some T) now runs =
    let wide : columns ≡ count = ap width_of runs.0 ∙ length_numbered 0 count in
    let stay : Some T ≡ Some (mean ts (whole_of t count) [] T).1 = ap Some (sym (leaves ts t count T)) in
    (runs.1 ∙ sym stay, (subst (λ (k : ℕ). Rows k rows ≡ selection_answer [] (whole_selection count) (slice_index_or T t [])) wide runs.0, stay))

-- the same of what a statement answered
pub rows_read : (ts : List Table) (t count columns : ℕ) (rows : List (List Value)) (st : Statement) (r : Result Answer RunError) (told now : Option (List (List (List Value)))) → st ≡ whole_of t count
    → r ≡ Ok (Rows columns rows) → Runs ts st [] told now r → (now ≡ told) × Runs ts (whole_of t count) [] told told (Ok (Rows count rows))
rows_read ts t count columns rows st r told now s e runs =
    whole_read ts t count columns rows told now (subst (λ (x : Result Answer RunError). Runs ts (whole_of t count) [] told now x) e (subst (λ (x : Statement). Runs ts x [] told now r) s runs))

-- one table more
read_next : (ts : List Table) (told : Option (List (List (List Value)))) (n : ℕ) (read : List Table) (t : Table) → AreRead ts told n read → IsReadAt ts told (n + length read) t → AreRead ts told n (read ++ t ∷ [])
read_next ts told n [] t are is = (subst (λ (m : ℕ). IsReadAt ts told m t) (let e : n + length {A = Table} [] ≡ n = omega arith in e) is, tt)
read_next ts told n (r ∷ read) t are is = (are.0, read_next ts told (suc n) read t are.1 (subst (λ (m : ℕ). IsReadAt ts told m t) (let e : n + suc (length read) ≡ suc n + length read = omega arith in e) is))

pub read_more : (ts made : List Table) (told now : Option (List (List (List Value)))) (read more : List Table) (t : Table) (at : ℕ) → more ≡ read ++ t ∷ [] → at ≡ length read → made ≡ ts → now ≡ told
    → IsReadAt made now at t → AreRead ts told 0 read → AreRead ts told 0 more
read_more ts made told now read more t at is many of same one are =
    let here : IsReadAt ts told (0 + length read) t =
    subst (λ (n : ℕ). IsReadAt ts told n t) (let e : at ≡ 0 + length read = omega (arith, many) in e)
    (subst (λ (o : Option (List (List (List Value)))). IsReadAt ts o at t) same (subst (λ (xs : List Table). IsReadAt xs now at t) of one)) in
    subst (AreRead ts told 0) (sym is) (read_next ts told 0 read t are here)

pub alike_take : (read more ts : List Table) (at : ℕ) (t u : Table) → at < length ts → more ≡ read ++ t ∷ [] → u ≡ get_or ts at u → bare t ≡ bare u → AreAlike read (take at ts) → AreAlike more (take (at + 1) ts)
alike_take read more ts at t u below is index one alike =
    let next : take (at + 1) ts ≡ take at ts ++ u ∷ [] =
    ap (λ (n : ℕ). take n ts) (let e : at + 1 ≡ suc at = omega arith in e) ∙ take-suc ts at u below ∙ ap (λ (x : Table). take at ts ++ x ∷ []) (sym index) in
    ap (map bare) is ∙ map-append bare read (t ∷ []) ∙ ap (λ (xs : List Table). xs ++ map bare (t ∷ [])) alike ∙ ap (λ (x : Table). map bare (take at ts) ++ x ∷ []) one
    ∙ sym (map-append bare (take at ts) (u ∷ [])) ∙ ap (map bare) (sym next)

-- a table's rows were asked for
pub read_asked : (ts : List Table) (told : Option (List (List (List Value)))) (at count : ℕ) (t u : Table) (rows : List (List Value)) → u ≡ t → count ≡ length t.columns → count ≢ 0
    → Runs ts (whole_of at count) [] told told (Ok (Rows count rows)) → IsReadAt ts told at (record u { first = rows })
read_asked ts told at count t u rows same many some runs =
    let width : count ≡ length u.columns = many ∙ ap (λ x. length x.columns) (sym same) in
    record {
      asked = λ _. subst (λ n. Runs ts (whole_of at n) [] told told (Ok (Rows n rows))) width runs;
      unasked = λ none. absurd (some (width ∙ none));
    }

-- they were not, since it has no columns
pub read_unasked : (ts : List Table) (told : Option (List (List (List Value)))) (at count : ℕ) (t u : Table) → slice_get ts at ≡ Some t → u ≡ t → count ≡ length t.columns → count ≡ 0 → IsReadAt ts told at u
read_unasked ts told at count t u there same many none =
    let width : length u.columns ≡ 0 = ap (λ x. length x.columns) same ∙ sym many ∙ none in
    record { asked = λ some. absurd (omega (arith, some, width)); unasked = λ _. ap (λ x. x.first) same ∙ sym (ap first_in there) }

-- a table has no more columns than it may
pub few_columns : (t : Table) → is_sound_table t ≡ true → length t.columns ≤ MOST_COLUMNS
few_columns t h = leb-true (length t.columns) MOST_COLUMNS (and_parts (nat_le (length t.columns) MOST_COLUMNS) _ h).0

pub sound_at : (ts : List Table) (at : ℕ) (t : Table) → list_all is_sound_table ts ≡ true → at < length ts → t ≡ get_or ts at t → is_sound_table t ≡ true
sound_at [] at t all below e = absurd (omega (arith, below))
sound_at (u ∷ ts) zero t all below e = subst (λ x. is_sound_table x ≡ true) (sym e) (and_parts (is_sound_table u) _ all).0
sound_at (u ∷ ts) (suc at) t all below e = sound_at ts at t (and_parts (is_sound_table u) _ all).1 (omega (arith, below)) e
