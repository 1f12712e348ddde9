-- Each statement that keeps the rules is compiled from its canonical text.
use Rattle.std.proofs.Common.{◌≡◌, ℕ, suc, zero, ◌-◌, ◌+◌, ◌≤◌, ◌<◌, Bool, true, false, cond, List, [], ◌∷◌, map, replicate, get_or, Option, Some, None, option_map, is_some, zero-add, refl, sym, ap, ◌∙◌, arith, length}
use Rattle.std.specs.Prelude.{nat_le, slice_get}
use Rattle.std.specs.List.{list_all, list_any}
use Rattle.std.proofs.lemmas.Bool.{false≢true, and_parts, leb-true, lt-ltb}
use Rattle.std.proofs.lemmas.List.{length-map, length-replicate}
use Rattle.okws_base.specs.declared.limit.TheConstants.{MOST_CONDITIONS}
use Rattle.okws_base.specs.declared.value.Kind.{Kind}
use Rattle.okws_plan.specs.Configuration.{numbered_from}
use Rattle.okws_plan.specs.Rules.{operand_fits, operands_fit, is_of_kind, fits_column, condition_fits, conditions_fit, is_column, may_be_set, assignment_fits, order_fits}
use Rattle.okws_plan.specs.declared.configuration.Column.{Column}
use Rattle.okws_plan.specs.declared.statement.Operand.{Operand}
use Rattle.okws_plan.specs.declared.statement.Operand.TheVariants as operand
use Rattle.okws_plan.specs.declared.statement.Condition.{Condition}
use Rattle.okws_plan.specs.declared.statement.Assignment.{Assignment}
use Rattle.okws_plan.specs.declared.statement.Action.{Action}
use Rattle.query_syntax.specs.declared.syntax.Named.{Named}
use Rattle.query_syntax.specs.declared.syntax.Given.{Given}
use Rattle.query_syntax.specs.declared.syntax.Setting.{Setting}
use Rattle.query_syntax.specs.declared.syntax.Test.{Test}
use Rattle.query_syntax.specs.declared.syntax.Form.{Form}
use Rattle.query_syntax.specs.Forms.{bare_name, bare_value, bare_setting, bare_test}
use Rattle.statement_core.specs.Resolving.{table_word, has_gap, parameters, number, operand_of, condition_of, assignment_of, action_of, judged_on, order_judged}
use Rattle.statement_core.proofs.Stated.{name_at, written_of, given_of, test_of, setting_of, column_there, fitting, parameter_within}
use Rattle.statement_core.proofs.Judged.{Sound, column_number_is, wanted, shown, state, words_kept, name_is, are_free}

-- what is met where nothing is, and where each parameter is

length_wanted : (kinds : List Kind) (rest : ℕ) → length (wanted kinds rest) ≡ length kinds + rest
length_wanted [] rest = length-replicate rest None ∙ sym (zero-add rest)
length_wanted (k ∷ more) rest = let n = length_wanted more rest in omega arith

shown_none : (i : ℕ) (ws : List (Option Kind)) → shown (λ (k : ℕ). false) i ws ≡ replicate (length ws) None
shown_none i [] = refl
shown_none i (w ∷ ws) = ap (λ (xs : List (Option Kind)). None ∷ xs) (shown_none (i + 1) ws)

-- the parameters' kinds, and None for each number above
abbrev pub all_met : List Kind → List (Option Kind)
all_met kinds = wanted kinds (16 - length kinds)

pub at_first : (kinds : List Kind) → length kinds ≤ 16 → replicate 16 None ≡ shown (λ (k : ℕ). false) 1 (all_met kinds)
at_first kinds few =
    let n : length (all_met kinds) ≡ 16 = length_wanted kinds (16 - length kinds) ∙ omega arith in
    sym (shown_none 1 (all_met kinds) ∙ ap (λ (k : ℕ). replicate k None) n)

either_none : (b : Bool) → cond {A = Option Kind} b None None ≡ None
either_none true = refl
either_none false = refl

shown_rest : (S : ℕ → Bool) (i rest : ℕ) → shown S i (replicate rest None) ≡ replicate rest None
shown_rest S i zero = refl
shown_rest S i (suc rest) = rw (either_none (S i), shown_rest S (i + 1) rest) refl

pub at_last : (S : ℕ → Bool) (i : ℕ) (kinds : List Kind) (rest : ℕ) → list_all S (numbered_from i (length kinds)) ≡ true → shown S i (wanted kinds rest) ≡ wanted kinds rest
at_last S i [] rest h = shown_rest S i rest
at_last S i (k ∷ more) rest h =
    let both = and_parts (S i) (list_all S (numbered_from (i + 1) (length more))) h in
    rw (both.0, at_last S (i + 1) more rest both.1) refl

none_met : (rest : ℕ) → list_any (λ (kind : Option Kind). is_some kind) (replicate rest None) ≡ false
none_met zero = refl
none_met (suc rest) = none_met rest

no_gap_above : (rest : ℕ) → has_gap (replicate rest None) ≡ false
no_gap_above zero = refl
no_gap_above (suc rest) = none_met rest

pub no_gap : (kinds : List Kind) (rest : ℕ) → has_gap (wanted kinds rest) ≡ false
no_gap [] rest = no_gap_above rest
no_gap (k ∷ more) rest = no_gap more rest

no_kinds : (rest : ℕ) → parameters (replicate rest None) ≡ []
no_kinds zero = refl
no_kinds (suc rest) = refl

pub their_kinds : (kinds : List Kind) (rest : ℕ) → parameters (wanted kinds rest) ≡ kinds
their_kinds [] rest = no_kinds rest
their_kinds (k ∷ more) rest = ap (λ (ks : List Kind). k ∷ ks) (their_kinds more rest)

-- the action is the statement's

number_again : (columns : List Column) (i : ℕ) (c : Column) (w : Named) → Sound columns → slice_get columns i ≡ Some c → w.name ≡ c.name → number columns w ≡ i
number_again columns i c w s e h = rw (h, column_number_is columns i c s e) refl

pub numbers_again : (columns : List Column) (cs : List ℕ) (ws : List Named) → Sound columns → list_all (is_column columns) cs ≡ true → map bare_name ws ≡ map (name_at columns) cs → map (number columns) ws ≡ cs
numbers_again columns [] [] s h e = refl
numbers_again columns [] (w ∷ ws) s h e = absurd (let some : bare_name w ∷ map bare_name ws ≡ [] = e in cc)
numbers_again columns (c ∷ cs) [] s h e = absurd (let some : [] ≡ name_at columns c ∷ map (name_at columns) cs = e in cc)
numbers_again columns (c ∷ cs) (w ∷ ws) s h e =
    let both = and_parts (is_column columns c) (list_all (is_column columns) cs) h in
    let there = column_there columns c both.0 in
    let head : bare_name w ≡ name_at columns c = cc in
    let tail : map bare_name ws ≡ map (name_at columns) cs = cc in
    rw (number_again columns c there.0 w s there.1 (name_is columns c there.0 w head there.1), numbers_again columns cs ws s both.1 tail) refl

operand_again : (kinds : List Kind) (kind : Kind) (o : Operand) → length kinds ≤ 16 → operand_fits kinds kind o ≡ true → operand_of (written_of o) ≡ o
operand_again kinds kind (operand.Literal v) few h = refl
operand_again kinds kind (operand.Parameter n) few h =
    let both = and_parts (nat_le 1 n) (is_of_kind kind (slice_get kinds (n - 1))) h in
    let below : n - 1 < length kinds = parameter_within kinds (n - 1) kind both.1 in
    rw (lt-ltb n 256 (omega arith)) refl

condition_again : (columns : List Column) (kinds : List Kind) (c : Condition) (t : Test) → Sound columns → length kinds ≤ 16 → condition_fits columns kinds c ≡ true → bare_test t ≡ test_of columns c → condition_of columns t ≡ c
condition_again columns kinds c t s few h e =
    let fits = fitting kinds columns c.column c.operand h in
    let name : t.column.name ≡ fits.0.name = name_is columns c.column fits.0 t.column (ap (λ (x : Test). x.column) e) fits.1 in
    let sign : t.comparison ≡ c.comparison = ap (λ (x : Test). x.comparison) e in
    let given : t.value.value ≡ written_of c.operand = ap (λ (x : Test). x.value.value) e in
    rw (number_again columns c.column fits.0 t.column s fits.1 name, sign, given, operand_again kinds fits.0.kind c.operand few fits.2) refl

pub conditions_again : (columns : List Column) (kinds : List Kind) (cs : List Condition) (ts : List Test) → Sound columns → length kinds ≤ 16 → list_all (λ (c : Condition). condition_fits columns kinds c) cs ≡ true
    → map bare_test ts ≡ map (test_of columns) cs → map (condition_of columns) ts ≡ cs
conditions_again columns kinds [] [] s few h e = refl
conditions_again columns kinds [] (t ∷ ts) s few h e = absurd (let some : bare_test t ∷ map bare_test ts ≡ [] = e in cc)
conditions_again columns kinds (c ∷ cs) [] s few h e = absurd (let some : [] ≡ test_of columns c ∷ map (test_of columns) cs = e in cc)
conditions_again columns kinds (c ∷ cs) (t ∷ ts) s few h e =
    let both = and_parts (condition_fits columns kinds c) (list_all (λ (c : Condition). condition_fits columns kinds c) cs) h in
    let head : bare_test t ≡ test_of columns c = cc in
    let tail : map bare_test ts ≡ map (test_of columns) cs = cc in
    rw (condition_again columns kinds c t s few both.0 head, conditions_again columns kinds cs ts s few both.1 tail) refl

assignment_again : (columns : List Column) (kinds : List Kind) (a : Assignment) (t : Setting) → Sound columns → length kinds ≤ 16 → assignment_fits columns kinds a ≡ true → bare_setting t ≡ setting_of columns a → assignment_of columns t ≡ a
assignment_again columns kinds a t s few h e =
    let fits = fitting kinds columns a.column a.operand (and_parts (may_be_set (slice_get columns a.column)) (fits_column kinds (slice_get columns a.column) a.operand) h).1 in
    let name : t.column.name ≡ fits.0.name = name_is columns a.column fits.0 t.column (ap (λ (x : Setting). x.column) e) fits.1 in
    let given : t.value.value ≡ written_of a.operand = ap (λ (x : Setting). x.value.value) e in
    rw (number_again columns a.column fits.0 t.column s fits.1 name, given, operand_again kinds fits.0.kind a.operand few fits.2) refl

pub assignments_again : (columns : List Column) (kinds : List Kind) (xs : List Assignment) (ts : List Setting) → Sound columns → length kinds ≤ 16 → list_all (λ (a : Assignment). assignment_fits columns kinds a) xs ≡ true
    → map bare_setting ts ≡ map (setting_of columns) xs → map (assignment_of columns) ts ≡ xs
assignments_again columns kinds [] [] s few h e = refl
assignments_again columns kinds [] (t ∷ ts) s few h e = absurd (let some : bare_setting t ∷ map bare_setting ts ≡ [] = e in cc)
assignments_again columns kinds (a ∷ xs) [] s few h e = absurd (let some : [] ≡ setting_of columns a ∷ map (setting_of columns) xs = e in cc)
assignments_again columns kinds (a ∷ xs) (t ∷ ts) s few h e =
    let both = and_parts (assignment_fits columns kinds a) (list_all (λ (a : Assignment). assignment_fits columns kinds a) xs) h in
    let head : bare_setting t ≡ setting_of columns a = cc in
    let tail : map bare_setting ts ≡ map (setting_of columns) xs = cc in
    rw (assignment_again columns kinds a t s few both.0 head, assignments_again columns kinds xs ts s few both.1 tail) refl

pub operands_again : (columns : List Column) (kinds : List Kind) (os : List Operand) (vs : List Given) → length kinds ≤ 16 → operands_fit columns kinds os ≡ true → map bare_value vs ≡ map given_of os
    → map (λ (g : Given). operand_of g.value) vs ≡ os
operands_again [] kinds [] [] few h e = refl
operands_again [] kinds [] (v ∷ vs) few h e = absurd (let some : bare_value v ∷ map bare_value vs ≡ [] = e in cc)
operands_again [] kinds (o ∷ os) vs few h e = absurd (false≢true h)
operands_again (c ∷ columns) kinds [] vs few h e = absurd (false≢true h)
operands_again (c ∷ columns) kinds (o ∷ os) [] few h e = absurd (let some : [] ≡ given_of o ∷ map given_of os = e in cc)
operands_again (c ∷ columns) kinds (o ∷ os) (v ∷ vs) few h e =
    let both = and_parts (operand_fits kinds c.kind o) (operands_fit columns kinds os) h in
    let head : bare_value v ≡ given_of o = cc in
    let tail : map bare_value vs ≡ map given_of os = cc in
    rw (ap (λ (g : Given). g.value) head, operand_again kinds c.kind o few both.0, operands_again columns kinds os vs few both.1 tail) refl

pub order_again : (columns : List Column) (order : Option ℕ) (w : Option Named) → Sound columns → order_fits columns order ≡ true → option_map bare_name w ≡ option_map (name_at columns) order → option_map (number columns) w ≡ order
order_again columns None None s h e = refl
order_again columns None (Some w) s h e = absurd (let some : Some (bare_name w) ≡ None = e in cc)
order_again columns (Some c) None s h e = absurd (let some : None ≡ Some (name_at columns c) = e in cc)
order_again columns (Some c) (Some w) s h e =
    let there = column_there columns c h in
    let head : bare_name w ≡ name_at columns c = cc in
    ap (λ (n : ℕ). Some n) (number_again columns c there.0 w s there.1 (name_is columns c there.0 w head there.1))

pub order_kept : (columns : List Column) (met : List (Option Kind)) (taken : List Bool) (order : Option ℕ) (w : Option Named) → Sound columns → order_fits columns order ≡ true
    → option_map bare_name w ≡ option_map (name_at columns) order → order_judged columns (state met taken) w ≡ state met taken
order_kept columns met taken None None s h e = refl
order_kept columns met taken None (Some w) s h e = absurd (let some : Some (bare_name w) ≡ None = e in cc)
order_kept columns met taken (Some c) None s h e = absurd (let some : None ≡ Some (name_at columns c) = e in cc)
order_kept columns met taken (Some c) (Some w) s h e =
    let head : bare_name w ≡ name_at columns c = cc in
    words_kept columns met taken (c ∷ []) (w ∷ []) s (rw h refl) (ap (λ (n : Named). n ∷ []) head)

-- the form of a statement that keeps the rules

pub record IsFine (columns : List Column) (kinds : List Kind) (table : List ℕ) (a : Action) (g : Form) : Type 0 where
  pub taken : List Bool
  pub judged : judged_on columns g ≡ state (all_met kinds) taken
  pub action : action_of columns g ≡ a
  pub word : (table_word g).name ≡ table

none_taken : (n i : ℕ) → get_or (replicate n false) i false ≡ false
none_taken zero i = refl
none_taken (suc n) zero = refl
none_taken (suc n) (suc i) = none_taken n i

pub all_free : (n : ℕ) (xs : List Assignment) → are_free (replicate n false) xs ≡ true
all_free n [] = refl
all_free n (a ∷ more) = rw (none_taken n a.column, all_free n more) refl

pub same_length : {A B C : Type 0} (f : A → C) (g : B → C) (xs : List A) (ys : List B) → map f xs ≡ map g ys → length xs ≡ length ys
same_length f g xs ys e = sym (length-map xs f) ∙ ap length e ∙ length-map ys g

pub few_conditions : (columns : List Column) (kinds : List Kind) (cs : List Condition) → conditions_fit columns kinds cs ≡ true → (length cs ≤ 16) × (list_all (λ (c : Condition). condition_fits columns kinds c) cs ≡ true)
few_conditions columns kinds cs h =
    let both = and_parts (nat_le (length cs) MOST_CONDITIONS) (list_all (λ (c : Condition). condition_fits columns kinds c) cs) h in
    (leb-true (length cs) MOST_CONDITIONS both.0, both.1)
