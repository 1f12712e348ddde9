-- A form that spells a statement that keeps the rules breaks none, and is that statement.
use Rattle.std.proofs.Common.{◌≡◌, ℕ, suc, zero, ◌-◌, ◌+◌, ◌≤◌, ◌<◌, Bool, true, false, not, ◌||◌, cond, List, [], ◌∷◌, map, replicate, get_or, set, position, Option, Some, None, option_map, option_and_then, refl, sym, ap, subst, ◌∙◌, arith, length}
use Rattle.std.specs.Prelude.{nat_le, ◌==◌, slice_get}
use Rattle.std.specs.List.{list_all, list_any, position_or_len}
use Rattle.std.proofs.lemmas.Bool.{false≢true, and_parts, or_parts, lt-ltb, leb-true, le-leb, eq-eqb, ne_eqb, eqb-false, not-true}
use Rattle.std.proofs.Math.Bool.{or_assoc}
use Rattle.std.proofs.lemmas.Cmp.{nat_list_eq_equiv}
use Rattle.std.proofs.lemmas.List.{get_or-set_other, length-map}
use Rattle.std.proofs.lemmas.Option.{slice_get_past}
use Rattle.okws_base.specs.Value.{same_bytes, same_kind}
use Rattle.okws_base.specs.declared.value.Kind.{Kind}
use Rattle.okws_base.specs.declared.value.Kind.TheVariants as kind
use Rattle.okws_plan.specs.Rules.{operand_fits, operands_fit, is_of_kind, fits_column, condition_fits, is_column, may_be_set, assignment_fits, sets_each_once, is_parameter, stands_in_conditions}
use Rattle.okws_plan.specs.declared.configuration.Column.{Column}
use Rattle.okws_plan.specs.declared.statement.Operand.{Operand}
use Rattle.okws_plan.specs.declared.statement.Operand.TheVariants as operand
use Rattle.okws_plan.specs.declared.statement.Condition.{Condition}
use Rattle.okws_plan.specs.declared.statement.Assignment.{Assignment}
use Rattle.query_syntax.specs.declared.syntax.Named.{Named}
use Rattle.query_syntax.specs.declared.syntax.Given.{Given}
use Rattle.query_syntax.specs.declared.syntax.Setting.{Setting}
use Rattle.query_syntax.specs.declared.syntax.Test.{Test}
use Rattle.query_syntax.specs.declared.syntax.Form.{Form}
use Rattle.statement_core.specs.Canonical.{name_of_column}
use Rattle.query_syntax.specs.Forms.{bare_name, bare_value, bare_setting, bare_test}
use Rattle.statement_core.specs.Recompiled.{names_differ}
use Rattle.statement_core.specs.Resolving.{Judged, short, column_number, column_in, kind_in, word_judged, words_judged, is_numbered, is_other, first_kind, parameter_judged, written_judged, value_judged, test_judged, tests_judged, target_judged, setting_judged, settings_judged, are_columns, list_judged, kind_at, values_judged, list_excess, tests_excess, parts_excess, parts_judged}
use Rattle.statement_core.proofs.Stated.{bare_word, name_at, written_of, given_of, names_of, test_of, setting_of, fitting, column_there, parameter_within}

-- the place of a name among names that differ

inside : {A : Type 0} (xs : List A) (i : ℕ) (x : A) → slice_get xs i ≡ Some x → i < length xs
inside [] i x e = absurd (let none : None ≡ Some x = e in cc)
inside (y ∷ more) zero x e = omega arith
inside (y ∷ more) (suc i) x e = let below = inside more i x e in omega arith

fails_at : {A : Type 0} (p : A → Bool) (xs : List A) (i : ℕ) (x : A) → list_any p xs ≡ false → slice_get xs i ≡ Some x → p x ≡ false
fails_at p [] i x h e = absurd (let none : None ≡ Some x = e in cc)
fails_at {A} p (y ∷ more) zero x h e =
    let same : y ≡ x = cc in
    let P : A → Type 0 = λ (z : A). p z ≡ false in
    subst P same (or_parts (p y) (list_any p more) h).0
fails_at p (y ∷ more) (suc i) x h e = fails_at p more i x (or_parts (p y) (list_any p more) h).1 e

same_itself : (w : List ℕ) → same_bytes w w ≡ true
same_itself w = nat_list_eq_equiv.refl w

pub first_place : {A : Type 0} (name : A → List ℕ) (xs : List A) (i : ℕ) (x : A) → names_differ name xs ≡ true → slice_get xs i ≡ Some x → position_or_len (λ (y : A). same_bytes (name y) (name x)) xs ≡ i
first_place name [] i x h e = absurd (let none : None ≡ Some x = e in cc)
first_place name (y ∷ more) zero x h e =
    let same : y ≡ x = cc in
    rw (same, same_itself (name x)) refl
first_place {A} name (y ∷ more) (suc i) x h e =
    let both = and_parts (not (list_any (λ (other : A). same_bytes (name y) (name other)) more)) (names_differ name more) h in
    let differs : same_bytes (name y) (name x) ≡ false = fails_at (λ (other : A). same_bytes (name y) (name other)) more i x (not-true (list_any (λ (other : A). same_bytes (name y) (name other)) more) both.0) e in
    rw (differs, first_place name more i x both.1 e) (omega arith)

pub number_is : {A : Type 0} (name : A → List ℕ) (xs : List A) (i : ℕ) (x : A) → names_differ name xs ≡ true → length xs ≤ 256 → slice_get xs i ≡ Some x
    → option_and_then short (position (λ (y : A). same_bytes (name y) (name x)) xs) ≡ Some i
number_is name xs i x h few e =
    let below : i < length xs = inside xs i x e in
    rw (first_place name xs i x h e, lt-ltb i (length xs) below, lt-ltb i 256 (omega arith)) refl

-- what is known of a table's columns
pub record Sound (columns : List Column) : Type 0 where
  pub differ : names_differ (λ (c : Column). c.name) columns ≡ true
  pub few : length columns ≤ 256

pub column_number_is : (columns : List Column) (i : ℕ) (c : Column) → Sound columns → slice_get columns i ≡ Some c → column_number columns c.name ≡ Some i
column_number_is columns i c s e = number_is (λ (c : Column). c.name) columns i c s.differ s.few e

or_none : (b : Bool) → (b || false) ≡ b
or_none true = refl
or_none false = refl

or_any : (b : Bool) → (b || true) ≡ true
or_any true = refl
or_any false = refl

-- what parameters have met: of those that stand to the left, the kinds

abbrev pub wanted : List Kind → ℕ → List (Option Kind)
wanted [] rest = replicate rest None
wanted (kind ∷ more) rest = Some kind ∷ wanted more rest

abbrev pub shown : (ℕ → Bool) → ℕ → List (Option Kind) → List (Option Kind)
shown S i [] = []
shown S i (w ∷ ws) = cond (S i) w None ∷ shown S (i + 1) ws

pub shown_agree : (S T : ℕ → Bool) (i : ℕ) (ws : List (Option Kind)) → ((k : ℕ) → i ≤ k → S k ≡ T k) → shown S i ws ≡ shown T i ws
shown_agree S T i [] h = refl
shown_agree S T i (w ∷ ws) h = rw (h i (omega arith), shown_agree S T (i + 1) ws (λ k le. h k (omega arith))) refl

shown_at : (S : ℕ → Bool) (i : ℕ) (ws : List (Option Kind)) (d n : ℕ) (w : Option Kind) → i + d ≡ n → slice_get ws d ≡ Some w → get_or (shown S i ws) d None ≡ cond (S n) w None
shown_at S i [] d n w e h = absurd (let none : None ≡ Some w = h in cc)
shown_at S i (v ∷ ws) zero n w e h =
    let here : i ≡ n = omega arith in
    let same : v ≡ w = cc in
    rw (here, same) refl
shown_at S i (v ∷ ws) (suc d) n w e h = shown_at S (i + 1) ws d n w (omega arith) h

shown_set : (S : ℕ → Bool) (i : ℕ) (ws : List (Option Kind)) (d n : ℕ) (w : Option Kind) → i + d ≡ n → slice_get ws d ≡ Some w → set (shown S i ws) d w ≡ shown (λ (k : ℕ). S k || (n == k)) i ws
shown_set S i [] d n w e h = absurd (let none : None ≡ Some w = h in cc)
shown_set S i (v ∷ ws) zero n w e h =
    let same : v ≡ w = cc in
    let here : (n == i) ≡ true = eq-eqb n i (omega arith) in
    let tail : shown S (i + 1) ws ≡ shown (λ (k : ℕ). S k || (n == k)) (i + 1) ws =
    shown_agree S (λ (k : ℕ). S k || (n == k)) (i + 1) ws (λ k le. sym (rw (ne_eqb n k (λ (q : n ≡ k). omega arith)) (or_none (S k)))) in
    rw (here, or_any (S i), same, tail) refl
shown_set S i (v ∷ ws) (suc d) n w e h =
    let here : (n == i) ≡ false = ne_eqb n i (λ (q : n ≡ i). omega arith) in
    rw (here, or_none (S i), shown_set S (i + 1) ws d n w (omega arith) h) refl

wanted_at : (kinds : List Kind) (rest i : ℕ) (kind : Kind) → slice_get kinds i ≡ Some kind → slice_get (wanted kinds rest) i ≡ Some (Some kind)
wanted_at [] rest i kind e = absurd (let none : None ≡ Some kind = e in cc)
wanted_at (k ∷ more) rest zero kind e = let same : k ≡ kind = cc in rw same refl
wanted_at (k ∷ more) rest (suc i) kind e = wanted_at more rest i kind e

pub kinds_same : (a b : Kind) → same_kind a b ≡ true → a ≡ b
kinds_same kind.Int kind.Int h = refl
kinds_same kind.Text kind.Text h = refl
kinds_same kind.Bytes kind.Bytes h = refl
kinds_same kind.Int kind.Text h = absurd (false≢true h)
kinds_same kind.Int kind.Bytes h = absurd (false≢true h)
kinds_same kind.Text kind.Int h = absurd (false≢true h)
kinds_same kind.Text kind.Bytes h = absurd (false≢true h)
kinds_same kind.Bytes kind.Int h = absurd (false≢true h)
kinds_same kind.Bytes kind.Text h = absurd (false≢true h)

pub kind_itself : (a : Kind) → same_kind a a ≡ true
kind_itself kind.Int = refl
kind_itself kind.Text = refl
kind_itself kind.Bytes = refl

kind_found : (kinds : List Kind) (i : ℕ) (kind : Kind) → is_of_kind kind (slice_get kinds i) ≡ true → slice_get kinds i ≡ Some kind
kind_found kinds i kind h = by_kind (slice_get kinds i) h
  where
    by_kind : (found : Option Kind) → is_of_kind kind found ≡ true → found ≡ Some kind
    by_kind None h = absurd (false≢true h)
    by_kind (Some k) h = ap (λ (x : Kind). Some x) (kinds_same k kind h)

-- no rule is broken so far
abbrev pub state : List (Option Kind) → List Bool → Judged
state met taken = record { met = met; taken = taken; fault = None }

first_stays : (b : Bool) (kind : Kind) → first_kind kind (cond b (Some kind) None) ≡ Some kind
first_stays true kind = refl
first_stays false kind = refl

no_other : (b : Bool) (kind : Kind) → is_other kind (cond b (Some kind) None) ≡ false
no_other true kind = rw (kind_itself kind) refl
no_other false kind = refl

-- what the parameters have met behind a value
abbrev pub after_operand : (ℕ → Bool) → Operand → ℕ → Bool
after_operand S o k = S k || is_parameter k o

parameter_kept : (S : ℕ → Bool) (taken : List Bool) (kinds : List Kind) (rest : ℕ) (kind : Kind) (at n : ℕ) → length kinds ≤ 16 → operand_fits kinds kind (operand.Parameter n) ≡ true
    → parameter_judged (state (shown S 1 (wanted kinds rest)) taken) kind at n ≡ state (shown (after_operand S (operand.Parameter n)) 1 (wanted kinds rest)) taken
parameter_kept S taken kinds rest kind at n few h =
    let both = and_parts (nat_le 1 n) (is_of_kind kind (slice_get kinds (n - 1))) h in
    let low : 1 ≤ n = leb-true 1 n both.0 in
    let below : n - 1 < length kinds = parameter_within kinds (n - 1) kind both.1 in
    let place : 1 + (n - 1) ≡ n = omega arith in
    let there : slice_get (wanted kinds rest) (n - 1) ≡ Some (Some kind) = wanted_at kinds rest (n - 1) kind (kind_found kinds (n - 1) kind both.1) in
    let numbered : is_numbered n ≡ true = rw (both.0, le-leb n 16 (omega arith)) refl in
    let met : get_or (shown S 1 (wanted kinds rest)) (n - 1) None ≡ cond (S n) (Some kind) None = shown_at S 1 (wanted kinds rest) (n - 1) n (Some kind) place there in
    let now : set (shown S 1 (wanted kinds rest)) (n - 1) (Some kind) ≡ shown (after_operand S (operand.Parameter n)) 1 (wanted kinds rest) = shown_set S 1 (wanted kinds rest) (n - 1) n (Some kind) place there in
    rw (numbered, met, no_other (S n) kind, first_stays (S n) kind, now) refl

written_kept : (S : ℕ → Bool) (taken : List Bool) (kinds : List Kind) (rest : ℕ) (kind : Kind) (at : ℕ) (o : Operand) → length kinds ≤ 16 → operand_fits kinds kind o ≡ true
    → written_judged (state (shown S 1 (wanted kinds rest)) taken) kind at (written_of o) ≡ state (shown (after_operand S o) 1 (wanted kinds rest)) taken
written_kept S taken kinds rest kind at (operand.Literal v) few h =
    let now : shown S 1 (wanted kinds rest) ≡ shown (after_operand S (operand.Literal v)) 1 (wanted kinds rest) = shown_agree S (after_operand S (operand.Literal v)) 1 (wanted kinds rest) (λ k le. sym (or_none (S k))) in
    rw (h, now) refl
written_kept S taken kinds rest kind at (operand.Parameter n) few h = parameter_kept S taken kinds rest kind at n few h

pub value_kept : (S : ℕ → Bool) (taken : List Bool) (kinds : List Kind) (rest : ℕ) (kind : Kind) (g : Given) (o : Operand) → length kinds ≤ 16 → operand_fits kinds kind o ≡ true → bare_value g ≡ given_of o
    → value_judged (state (shown S 1 (wanted kinds rest)) taken) (Some kind) g ≡ state (shown (after_operand S o) 1 (wanted kinds rest)) taken
value_kept S taken kinds rest kind g o few h e =
    let same : g.value ≡ written_of o = ap (λ (v : Given). v.value) e in
    rw same (written_kept S taken kinds rest kind g.at o few h)

-- words

word_kept : (columns : List Column) (i : ℕ) (c : Column) (w : Named) (met : List (Option Kind)) (taken : List Bool) → Sound columns → slice_get columns i ≡ Some c → w.name ≡ c.name
    → word_judged columns (state met taken) w ≡ state met taken
word_kept columns i c w met taken s e h = rw (h, column_number_is columns i c s e) refl

column_is : (columns : List Column) (i : ℕ) (c : Column) → Sound columns → slice_get columns i ≡ Some c → column_in columns c.name ≡ Some c
column_is columns i c s e = rw (column_number_is columns i c s e) e

pub kind_is : (columns : List Column) (i : ℕ) (c : Column) → Sound columns → slice_get columns i ≡ Some c → kind_in columns c.name ≡ Some c.kind
kind_is columns i c s e = ap (option_map (λ (x : Column). x.kind)) (column_is columns i c s e)

-- a word that stands for a column has its name
pub name_is : (columns : List Column) (i : ℕ) (c : Column) (w : Named) → bare_name w ≡ name_at columns i → slice_get columns i ≡ Some c → w.name ≡ c.name
name_is columns i c w h e = ap (λ (n : Named). n.name) h ∙ ap name_of_column e

pub words_kept : (columns : List Column) (met : List (Option Kind)) (taken : List Bool) (cs : List ℕ) (ws : List Named) → Sound columns → list_all (is_column columns) cs ≡ true → map bare_name ws ≡ map (name_at columns) cs
    → words_judged columns (state met taken) ws ≡ state met taken
words_kept columns met taken [] [] s h e = refl
words_kept columns met taken [] (w ∷ ws) s h e = absurd (let some : bare_name w ∷ map bare_name ws ≡ [] = e in cc)
words_kept columns met taken (c ∷ cs) [] s h e = absurd (let some : [] ≡ name_at columns c ∷ map (name_at columns) cs = e in cc)
words_kept columns met taken (c ∷ cs) (w ∷ ws) s h e =
    let both = and_parts (is_column columns c) (list_all (is_column columns) cs) h in
    let there = column_there columns c both.0 in
    let head : bare_name w ≡ name_at columns c = cc in
    let tail : map bare_name ws ≡ map (name_at columns) cs = cc in
    rw (word_kept columns c there.0 w met taken s there.1 (name_is columns c there.0 w head there.1)) (words_kept columns met taken cs ws s both.1 tail)

-- from column number i on the columns are those of a list: `slice_get columns (i + d) ≡ slice_get rest d` for each d

pub suffix_more : (columns : List Column) (i : ℕ) (c : Column) (more : List Column) → ((d : ℕ) → slice_get columns (i + d) ≡ slice_get (c ∷ more) d) → (d : ℕ) → slice_get columns (i + 1 + d) ≡ slice_get more d
suffix_more columns i c more h d = let n : i + 1 + d ≡ i + suc d = omega arith in rw n (h (suc d))

pub suffix_first : (columns : List Column) (i : ℕ) (c : Column) (more : List Column) → ((d : ℕ) → slice_get columns (i + d) ≡ slice_get (c ∷ more) d) → slice_get columns i ≡ Some c
suffix_first columns i c more h = let n : i + 0 ≡ i = omega arith in subst (λ (k : ℕ). slice_get columns k ≡ Some c) n (h 0)

pub all_words_kept : (columns : List Column) (met : List (Option Kind)) (taken : List Bool) (i : ℕ) (rest : List Column) (ws : List Named) → Sound columns → ((d : ℕ) → slice_get columns (i + d) ≡ slice_get rest d) → map bare_name ws ≡ names_of rest
    → words_judged columns (state met taken) ws ≡ state met taken
all_words_kept columns met taken i [] [] s h e = refl
all_words_kept columns met taken i [] (w ∷ ws) s h e = absurd (let some : bare_name w ∷ map bare_name ws ≡ [] = e in cc)
all_words_kept columns met taken i (c ∷ more) [] s h e = absurd (let some : [] ≡ bare_word c.name ∷ names_of more = e in cc)
all_words_kept columns met taken i (c ∷ more) (w ∷ ws) s h e =
    let head : bare_name w ≡ bare_word c.name = cc in
    let tail : map bare_name ws ≡ names_of more = cc in
    rw (word_kept columns i c w met taken s (suffix_first columns i c more h) (ap (λ (n : Named). n.name) head)) (all_words_kept columns met taken (i + 1) more ws s (suffix_more columns i c more h) tail)

-- conditions

-- what the parameters have met behind conditions
abbrev pub after_conditions : (ℕ → Bool) → List Condition → ℕ → Bool
after_conditions S cs k = S k || stands_in_conditions k cs

test_kept : (columns : List Column) (kinds : List Kind) (rest : ℕ) (S : ℕ → Bool) (taken : List Bool) (c : Condition) (t : Test) → Sound columns → length kinds ≤ 16 → condition_fits columns kinds c ≡ true → bare_test t ≡ test_of columns c
    → test_judged columns (state (shown S 1 (wanted kinds rest)) taken) t ≡ state (shown (after_operand S c.operand) 1 (wanted kinds rest)) taken
test_kept columns kinds rest S taken c t s few h e =
    let fits = fitting kinds columns c.column c.operand h in
    let name : t.column.name ≡ fits.0.name = name_is columns c.column fits.0 t.column (ap (λ (x : Test). x.column) e) fits.1 in
    rw (word_kept columns c.column fits.0 t.column (shown S 1 (wanted kinds rest)) taken s fits.1 name, name, kind_is columns c.column fits.0 s fits.1)
    (value_kept S taken kinds rest fits.0.kind t.value c.operand few fits.2 (ap (λ (x : Test). x.value) e))

pub tests_kept : (columns : List Column) (kinds : List Kind) (rest : ℕ) (S : ℕ → Bool) (taken : List Bool) (cs : List Condition) (ts : List Test) → Sound columns → length kinds ≤ 16
    → list_all (λ (c : Condition). condition_fits columns kinds c) cs ≡ true → map bare_test ts ≡ map (test_of columns) cs
    → tests_judged columns (state (shown S 1 (wanted kinds rest)) taken) ts ≡ state (shown (after_conditions S cs) 1 (wanted kinds rest)) taken
tests_kept columns kinds rest S taken [] [] s few h e =
    ap (λ (met : List (Option Kind)). state met taken) (shown_agree S (after_conditions S []) 1 (wanted kinds rest) (λ k le. sym (or_none (S k))))
tests_kept columns kinds rest S taken [] (t ∷ ts) s few h e = absurd (let some : bare_test t ∷ map bare_test ts ≡ [] = e in cc)
tests_kept columns kinds rest S taken (c ∷ cs) [] s few h e = absurd (let some : [] ≡ test_of columns c ∷ map (test_of columns) cs = e in cc)
tests_kept columns kinds rest S taken (c ∷ cs) (t ∷ ts) s few h e =
    let both = and_parts (condition_fits columns kinds c) (list_all (λ (c : Condition). condition_fits columns kinds c) cs) h in
    let head : bare_test t ≡ test_of columns c = cc in
    let tail : map bare_test ts ≡ map (test_of columns) cs = cc in
    let one = test_kept columns kinds rest S taken c t s few both.0 head in
    let more = tests_kept columns kinds rest (after_operand S c.operand) taken cs ts s few both.1 tail in
    let last : shown (after_conditions (after_operand S c.operand) cs) 1 (wanted kinds rest) ≡ shown (after_conditions S (c ∷ cs)) 1 (wanted kinds rest) =
    shown_agree (after_conditions (after_operand S c.operand) cs) (after_conditions S (c ∷ cs)) 1 (wanted kinds rest) (λ k le. or_assoc (S k) (is_parameter k c.operand) (stands_in_conditions k cs)) in
    ap (λ (j : Judged). tests_judged columns j ts) one ∙ more ∙ ap (λ (met : List (Option Kind)). state met taken) last

-- settings

-- which columns are set behind settings
abbrev pub taken_behind : List Bool → List Assignment → List Bool
taken_behind taken [] = taken
taken_behind taken (a ∷ more) = taken_behind (set taken a.column true) more

-- what the parameters have met behind settings
abbrev pub after_settings : (ℕ → Bool) → List Assignment → ℕ → Bool
after_settings S xs k = S k || list_any (λ (a : Assignment). is_parameter k a.operand) xs

-- none of the columns is set yet
abbrev pub are_free : List Bool → List Assignment → Bool
are_free taken xs = list_all (λ (a : Assignment). not (get_or taken a.column false)) xs

free_more : (taken : List Bool) (c : ℕ) (xs : List Assignment) → list_any (λ (other : Assignment). other.column == c) xs ≡ false → are_free taken xs ≡ true → are_free (set taken c true) xs ≡ true
free_more taken c [] h k = refl
free_more taken c (a ∷ more) h k =
    let one = or_parts (a.column == c) (list_any (λ (other : Assignment). other.column == c) more) h in
    let two = and_parts (not (get_or taken a.column false)) (are_free taken more) k in
    rw (get_or-set_other taken c a.column true false (eqb-false a.column c one.0), two.0, free_more taken c more one.1 two.1) refl

target_kept : (columns : List Column) (i : ℕ) (c : Column) (w : Named) (met : List (Option Kind)) (taken : List Bool) → Sound columns → slice_get columns i ≡ Some c → w.name ≡ c.name → c.key ≡ false
    → get_or taken i false ≡ false → target_judged columns (state met taken) w ≡ state met (set taken i true)
target_kept columns i c w met taken s e h no_key free = rw (h, column_number_is columns i c s e, e, no_key, free) refl

setting_kept : (columns : List Column) (kinds : List Kind) (rest : ℕ) (S : ℕ → Bool) (taken : List Bool) (a : Assignment) (t : Setting) → Sound columns → length kinds ≤ 16 → assignment_fits columns kinds a ≡ true
    → get_or taken a.column false ≡ false → bare_setting t ≡ setting_of columns a
    → setting_judged columns (state (shown S 1 (wanted kinds rest)) taken) t ≡ state (shown (after_operand S a.operand) 1 (wanted kinds rest)) (set taken a.column true)
setting_kept columns kinds rest S taken a t s few h free e =
    let both = and_parts (may_be_set (slice_get columns a.column)) (fits_column kinds (slice_get columns a.column) a.operand) h in
    let fits = fitting kinds columns a.column a.operand both.1 in
    let column : Column = fits.0 in
    let no_key : column.key ≡ false = not-true column.key (subst (λ (o : Option Column). may_be_set o ≡ true) fits.1 both.0) in
    let name : t.column.name ≡ column.name = name_is columns a.column column t.column (ap (λ (x : Setting). x.column) e) fits.1 in
    let met : List (Option Kind) = shown S 1 (wanted kinds rest) in
    let target : target_judged columns (state met taken) t.column ≡ state met (set taken a.column true) =
    target_kept columns a.column column t.column met taken s fits.1 name no_key free in
    ap (λ (j : Judged). value_judged j (kind_in columns t.column.name) t.value) target
    ∙ rw (name, kind_is columns a.column column s fits.1) (value_kept S (set taken a.column true) kinds rest column.kind t.value a.operand few fits.2 (ap (λ (x : Setting). x.value) e))

pub settings_kept : (columns : List Column) (kinds : List Kind) (rest : ℕ) (S : ℕ → Bool) (taken : List Bool) (xs : List Assignment) (ts : List Setting) → Sound columns → length kinds ≤ 16
    → list_all (λ (a : Assignment). assignment_fits columns kinds a) xs ≡ true → sets_each_once xs ≡ true → are_free taken xs ≡ true → map bare_setting ts ≡ map (setting_of columns) xs
    → settings_judged columns (state (shown S 1 (wanted kinds rest)) taken) ts ≡ state (shown (after_settings S xs) 1 (wanted kinds rest)) (taken_behind taken xs)
settings_kept columns kinds rest S taken [] [] s few h once free e =
    ap (λ (met : List (Option Kind)). state met taken) (shown_agree S (after_settings S []) 1 (wanted kinds rest) (λ k le. sym (or_none (S k))))
settings_kept columns kinds rest S taken [] (t ∷ ts) s few h once free e = absurd (let some : bare_setting t ∷ map bare_setting ts ≡ [] = e in cc)
settings_kept columns kinds rest S taken (a ∷ xs) [] s few h once free e = absurd (let some : [] ≡ setting_of columns a ∷ map (setting_of columns) xs = e in cc)
settings_kept columns kinds rest S taken (a ∷ xs) (t ∷ ts) s few h once free e =
    let both = and_parts (assignment_fits columns kinds a) (list_all (λ (a : Assignment). assignment_fits columns kinds a) xs) h in
    let alone = and_parts (not (list_any (λ (other : Assignment). other.column == a.column) xs)) (sets_each_once xs) once in
    let open' = and_parts (not (get_or taken a.column false)) (are_free taken xs) free in
    let head : bare_setting t ≡ setting_of columns a = cc in
    let tail : map bare_setting ts ≡ map (setting_of columns) xs = cc in
    let one = setting_kept columns kinds rest S taken a t s few both.0 (not-true (get_or taken a.column false) open'.0) head in
    let free' = free_more taken a.column xs (not-true (list_any (λ (other : Assignment). other.column == a.column) xs) alone.0) open'.1 in
    let more = settings_kept columns kinds rest (after_operand S a.operand) (set taken a.column true) xs ts s few both.1 alone.1 free' tail in
    let last : shown (after_settings (after_operand S a.operand) xs) 1 (wanted kinds rest) ≡ shown (after_settings S (a ∷ xs)) 1 (wanted kinds rest) =
    shown_agree (after_settings (after_operand S a.operand) xs) (after_settings S (a ∷ xs)) 1 (wanted kinds rest)
    (λ k le. or_assoc (S k) (is_parameter k a.operand) (list_any (λ (a : Assignment). is_parameter k a.operand) xs)) in
    ap (λ (j : Judged). settings_judged columns j ts) one ∙ more ∙ ap (λ (met : List (Option Kind)). state met (taken_behind (set taken a.column true) xs)) last

-- the values of an INSERT

-- what the parameters have met behind values
abbrev pub after_values : (ℕ → Bool) → List Operand → ℕ → Bool
after_values S os k = S k || list_any (λ (o : Operand). is_parameter k o) os

pub values_kept : (columns : List Column) (kinds : List Kind) (rest : ℕ) (S : ℕ → Bool) (taken : List Bool) (i : ℕ) (cs : List Column) (os : List Operand) (vs : List Given) → length kinds ≤ 16
    → ((d : ℕ) → slice_get columns (i + d) ≡ slice_get cs d) → operands_fit cs kinds os ≡ true → map bare_value vs ≡ map given_of os
    → values_judged columns i (state (shown S 1 (wanted kinds rest)) taken) vs ≡ state (shown (after_values S os) 1 (wanted kinds rest)) taken
values_kept columns kinds rest S taken i [] [] [] few at h e =
    ap (λ (met : List (Option Kind)). state met taken) (shown_agree S (after_values S []) 1 (wanted kinds rest) (λ k le. sym (or_none (S k))))
values_kept columns kinds rest S taken i [] [] (v ∷ vs) few at h e = absurd (let some : bare_value v ∷ map bare_value vs ≡ [] = e in cc)
values_kept columns kinds rest S taken i [] (o ∷ os) vs few at h e = absurd (false≢true h)
values_kept columns kinds rest S taken i (c ∷ cs) [] vs few at h e = absurd (false≢true h)
values_kept columns kinds rest S taken i (c ∷ cs) (o ∷ os) [] few at h e = absurd (let some : [] ≡ given_of o ∷ map given_of os = e in cc)
values_kept columns kinds rest S taken i (c ∷ cs) (o ∷ os) (v ∷ vs) few at h e =
    let both = and_parts (operand_fits kinds c.kind o) (operands_fit cs kinds os) h in
    let head : bare_value v ≡ given_of o = cc in
    let tail : map bare_value vs ≡ map given_of os = cc in
    let kind : kind_at columns i ≡ Some c.kind = ap (option_map (λ (x : Column). x.kind)) (suffix_first columns i c cs at) in
    let one = value_kept S taken kinds rest c.kind v o few both.0 head in
    let more = values_kept columns kinds rest (after_operand S o) taken (i + 1) cs os vs few (suffix_more columns i c cs at) both.1 tail in
    let last : shown (after_values (after_operand S o) os) 1 (wanted kinds rest) ≡ shown (after_values S (o ∷ os)) 1 (wanted kinds rest) =
    shown_agree (after_values (after_operand S o) os) (after_values S (o ∷ os)) 1 (wanted kinds rest) (λ k le. or_assoc (S k) (is_parameter k o) (list_any (λ (o : Operand). is_parameter k o) os)) in
    ap (λ (k : Option Kind). values_judged columns (i + 1) (value_judged (state (shown S 1 (wanted kinds rest)) taken) k v) vs) kind
    ∙ ap (λ (j : Judged). values_judged columns (i + 1) j vs) one ∙ more ∙ ap (λ (met : List (Option Kind)). state met taken) last

-- the list of an INSERT is the table's

are_its_columns : (columns : List Column) (ws : List Named) → map bare_name ws ≡ names_of columns → are_columns columns ws ≡ true
are_its_columns [] [] e = refl
are_its_columns [] (w ∷ ws) e = absurd (let some : bare_name w ∷ map bare_name ws ≡ [] = e in cc)
are_its_columns (c ∷ more) [] e = absurd (let some : [] ≡ bare_word c.name ∷ names_of more = e in cc)
are_its_columns (c ∷ more) (w ∷ ws) e =
    let head : bare_name w ≡ bare_word c.name = cc in
    let tail : map bare_name ws ≡ names_of more = cc in
    let name : w.name ≡ c.name = ap (λ (n : Named). n.name) head in
    rw (name, same_itself c.name) (are_its_columns more ws tail)

pub as_many : (columns : List Column) (kinds : List Kind) (os : List Operand) → operands_fit columns kinds os ≡ true → length os ≡ length columns
as_many [] kinds [] h = refl
as_many [] kinds (o ∷ os) h = absurd (false≢true h)
as_many (c ∷ columns) kinds [] h = absurd (false≢true h)
as_many (c ∷ columns) kinds (o ∷ os) h = ap suc (as_many columns kinds os (and_parts (operand_fits kinds c.kind o) (operands_fit columns kinds os) h).1)

pub list_kept : (columns : List Column) (kinds : List Kind) (met : List (Option Kind)) (taken : List Bool) (at : ℕ) (ws : List Named) (os : List Operand) (vs : List Given) → operands_fit columns kinds os ≡ true
    → map bare_name ws ≡ names_of columns → map bare_value vs ≡ map given_of os → list_judged columns (state met taken) at ws vs ≡ state met taken
list_kept columns kinds met taken at ws os vs h e g =
    let size : length vs ≡ length columns = sym (length-map vs bare_value) ∙ ap length g ∙ length-map os given_of ∙ as_many columns kinds os h in
    rw (are_its_columns columns ws e, eq-eqb (length vs) (length columns) size) refl

-- the limits on parts

pub list_within : (ws : List Named) → length ws ≤ 16 → list_excess ws ≡ None
list_within ws few = rw (slice_get_past ws 16 few) refl

pub tests_within : (ts : List Test) → length ts ≤ 16 → tests_excess ts ≡ None
tests_within ts few = rw (slice_get_past ts 16 few) refl

pub parts_kept : (met : List (Option Kind)) (taken : List Bool) (g : Form) → parts_excess g ≡ None → parts_judged (state met taken) g ≡ state met taken
parts_kept met taken g h = rw h refl
