-- The rows that are read from a keeper which tells its tables' first ones are these.
use Rattle.std.proofs.Common.{◌≡◌, ◌∙◌, ℕ, zero, suc, ◌+◌, ◌<◌, true, false, List, [], ◌∷◌, length, map, refl, sym, ap, subst, arith, Option, Some, None}
use Rattle.std.specs.Prelude.{Bool, ◌&&◌, IfSome, nat_le, slice_get, slice_index_or}
use Rattle.std.specs.List.{list_all, count_by}
use Rattle.std.proofs.lemmas.Bool.{and_parts, false≢true}
use Rattle.std.proofs.lemmas.List.{length-map}
use Rattle.std.proofs.lemmas.Option.{none-some}
use Rattle.okws_base.specs.declared.value.Kind.{Kind}
use Rattle.okws_base.specs.declared.value.Value.{Value}
use Rattle.okws_base.specs.declared.limit.TheConstants.{MOST_COLUMNS}
use Rattle.okws_base.specs.Value.{same_bytes, same_kind, kind_of}
use Rattle.okws_plan.specs.Configuration.{numbered_from}
use Rattle.okws_plan.specs.Fits.{fits}
use Rattle.okws_plan.specs.Meaning.{at_column, cut, cut_all, hits}
use Rattle.okws_plan.specs.Sound.{are_distinct, column_kinds, has_sound_rows, is_sound_table, same_key}
use Rattle.okws_plan.specs.declared.configuration.Column.{Column}
use Rattle.okws_plan.specs.declared.configuration.Table.{Table}
use Rattle.okws_plan.specs.declared.statement.Answer.{Answer}
use Rattle.okws_plan.specs.declared.statement.Answer.TheVariants as answer
use Rattle.store_keeper.specs.Alike.{bare, AreAlike, HasRows}
use Rattle.store_keeper.specs.Loading.{first_in, IsReadAt, AreRead}

fit_length : (ks : List Kind) (vs : List Value) → fits ks vs ≡ true → length vs ≡ length ks
fit_length [] [] h = refl
fit_length [] (v ∷ vs) h = absurd (false≢true h)
fit_length (k ∷ ks) [] h = absurd (false≢true h)
fit_length (k ∷ ks) (v ∷ vs) h = ap suc (fit_length ks vs (and_parts (same_kind k (kind_of v)) (fits ks vs) h).1)

-- a row, cut to all of its columns
cut_behind : (v : Value) (vs : List Value) (i n : ℕ) → cut (numbered_from (suc i) n) (v ∷ vs) ≡ cut (numbered_from i n) vs
cut_behind v vs i zero = refl
cut_behind v vs i (suc n) =
    ap (λ (xs : List Value). at_column vs i ∷ xs) (ap (λ (m : ℕ). cut (numbered_from m n) (v ∷ vs)) (let e : suc i + 1 ≡ suc (i + 1) = omega arith in e) ∙ cut_behind v vs (i + 1) n)

cut_whole : (row : List Value) → cut (numbered_from 0 (length row)) row ≡ row
cut_whole [] = refl
cut_whole (v ∷ vs) = ap (λ (xs : List Value). v ∷ xs) (cut_behind v vs 0 (length vs) ∙ cut_whole vs)

hits_all : (rows : List (List Value)) → hits [] [] rows ≡ rows
hits_all [] = refl
hits_all (row ∷ rows) = ap (λ (xs : List (List Value)). row ∷ xs) (hits_all rows)

rows_whole : (ks : List Kind) (n : ℕ) (rows : List (List Value)) → n ≡ length ks → list_all (λ (row : List Value). fits ks row) rows ≡ true → cut_all (numbered_from 0 n) rows ≡ rows
rows_whole ks n [] e h = refl
rows_whole ks n (row ∷ rows) e h =
    let both = and_parts (fits ks row) (list_all (λ (r : List Value). fits ks r) rows) h in
    let one : cut (numbered_from 0 n) row ≡ row = ap (λ (m : ℕ). cut (numbered_from 0 m) row) (e ∙ sym (fit_length ks row both.0)) ∙ cut_whole row in
    ap (λ (x : List Value). x ∷ cut_all (numbered_from 0 n) rows) one ∙ ap (λ (xs : List (List Value)). row ∷ xs) (rows_whole ks n rows e both.1)

abbrev rows_in : Answer → List (List Value)
rows_in (answer.Rows columns rows) = rows
rows_in (answer.Changed n) = []
rows_in answer.Duplicate = []

sound_rows : (t : Table) → is_sound_table t ≡ true → list_all (λ (row : List Value). fits (column_kinds t.columns) row) t.first ≡ true
sound_rows t h =
    let names : Bool = are_distinct same_bytes (map (λ (c : Column). c.name) t.columns) in
    let keys : Bool = nat_le (count_by (λ (c : Column). c.key) t.columns) 1 in
    let one = and_parts (nat_le (length t.columns) MOST_COLUMNS) (names && (keys && has_sound_rows t)) h in
    let two = and_parts names (keys && has_sound_rows t) one.1 in
    let three = and_parts keys (has_sound_rows t) two.1 in
    (and_parts (list_all (λ (row : List Value). fits (column_kinds t.columns) row) t.first) (are_distinct (same_key t.columns) t.first) three.1).0

-- one table
read_first : (ts : List Table) (T : List (List (List Value))) (n m : ℕ) (t r : Table) → m ≡ length r.columns → slice_index_or T n [] ≡ t.first → first_in (slice_get ts n) ≡ t.first → bare r ≡ bare t
    → is_sound_table t ≡ true → IsReadAt ts (Some T) n r → r.first ≡ t.first
read_first ts T n zero t r many held first alike sound is = is.unasked (sym many) ∙ first
read_first ts T n (suc m) t r many held first alike sound is =
    let width : length r.columns ≡ length (column_kinds t.columns) = ap (λ (x : Table). length x.columns) alike ∙ sym (length-map t.columns (λ (c : Column). c.kind)) in
    ap rows_in (is.asked (omega (arith, many))).0 ∙ ap (cut_all (numbered_from 0 (length r.columns))) (hits_all (slice_index_or T n []) ∙ held)
    ∙ rows_whole (column_kinds t.columns) (length r.columns) t.first width (sound_rows t sound)

tail_of : List Table → List Table
tail_of [] = []
tail_of (t ∷ ts) = ts

head_or : List Table → Table → Table
head_or [] d = d
head_or (t ∷ ts) d = t

-- the tables from number n on
same_from : (ts : List Table) (T : List (List (List Value))) (n : ℕ) (rest read : List Table) → ((i : ℕ) → slice_index_or T (n + i) [] ≡ slice_index_or (map (λ (t : Table). t.first) rest) i [])
    → ((i : ℕ) → first_in (slice_get ts (n + i)) ≡ slice_index_or (map (λ (t : Table). t.first) rest) i []) → AreRead ts (Some T) n read → map bare read ≡ map bare rest → list_all is_sound_table rest ≡ true
    → map (λ (t : Table). t.first) read ≡ map (λ (t : Table). t.first) rest
unfolding head_or tail_of
same_from ts T n [] [] held first are alike sound = refl
same_from ts T n [] (r ∷ read) held first are alike sound = cc
same_from ts T n (t ∷ rest) [] held first are alike sound = cc
same_from ts T n (t ∷ rest) (r ∷ read) held first are alike sound =
    let both = and_parts (is_sound_table t) (list_all is_sound_table rest) sound in
    let here : n ≡ n + 0 = omega arith in
    let next : (i : ℕ) → suc n + i ≡ n + suc i = λ i. omega arith in
    ap (λ (x : List (List Value)). x ∷ map (λ (u : Table). u.first) read)
    (read_first ts T n (length r.columns) t r refl (ap (λ (m : ℕ). slice_index_or T m []) here ∙ held 0) (ap (λ (m : ℕ). first_in (slice_get ts m)) here ∙ first 0) (ap (λ (xs : List Table). head_or xs (bare r)) alike) both.0 are.0)
    ∙ ap (λ (xs : List (List (List Value))). t.first ∷ xs)
    (same_from ts T (suc n) rest read (λ i. ap (λ (m : ℕ). slice_index_or T m []) (next i) ∙ held (suc i)) (λ i. ap (λ (m : ℕ). first_in (slice_get ts m)) (next i) ∙ first (suc i)) are.1 (ap tail_of alike) both.1)

first_at : (ts : List Table) (i : ℕ) → first_in (slice_get ts i) ≡ slice_index_or (map (λ (t : Table). t.first) ts) i []
first_at [] i = refl
first_at (t ∷ ts) zero = refl
first_at (t ∷ ts) (suc i) = first_at ts i

-- what was read of a new keeper is what it has, where it tells
pub has_read : (ts read : List Table) (told : Option (List (List (List Value)))) → IfSome told (λ rows. rows ≡ map (λ (t : Table). t.first) ts) → AreRead ts told 0 read → AreAlike read ts → list_all is_sound_table ts ≡ true
    → HasRows told (Some (map (λ (t : Table). t.first) read))
has_read ts read None new are alike sound = λ U e. absurd (none-some U e)
has_read ts read (Some T) new are alike sound = λ U e.
    let start : (i : ℕ) → 0 + i ≡ i = λ i. omega arith in
    ap Some (same_from ts T 0 ts read (λ i. ap (λ (m : ℕ). slice_index_or T m []) (start i) ∙ ap (λ (X : List (List (List Value))). slice_index_or X i []) new)
    (λ i. ap (λ (m : ℕ). first_in (slice_get ts m)) (start i) ∙ first_at ts i) are alike sound)
    ∙ ap Some (sym new) ∙ e
