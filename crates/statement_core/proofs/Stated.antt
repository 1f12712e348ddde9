-- The form that spells a statement.
use Rattle.std.proofs.Common.{◌≡◌, ℕ, suc, zero, ◌-◌, ◌^◌, ◌≤◌, ◌<◌, Bool, true, false, not, ◌&&◌, List, [], ◌∷◌, ◌++◌, map, Option, Some, None, option_map, refl, ap, subst, append_assoc, arith, length}
use Rattle.std.specs.Prelude.{nat_le, slice_get}
use Rattle.std.specs.List.{list_all}
use Rattle.std.proofs.lemmas.Bool.{false≢true, and_parts, lt-ltb, ltb-true, leb-true}
use Rattle.okws_base.specs.Names.{is_identifier, is_word, is_keyword}
use Rattle.okws_base.specs.declared.limit.TheConstants.{GREATEST_LIMIT, MOST_COLUMNS, MOST_CONDITIONS}
use Rattle.okws_base.specs.declared.value.Kind.{Kind}
use Rattle.okws_plan.specs.Rules.{operand_fits, is_of_kind, fits_column, condition_fits, is_column, may_be_set, assignment_fits, operands_fit, conditions_fit, order_fits, limit_fits, selection_fits, action_fits, sets_each_once}
use Rattle.okws_plan.specs.declared.configuration.Column.{Column}
use Rattle.okws_plan.specs.declared.statement.Operand.{Operand}
use Rattle.okws_plan.specs.declared.statement.Operand.TheVariants as operand
use Rattle.okws_plan.specs.declared.statement.Comparison.{Comparison}
use Rattle.okws_plan.specs.declared.statement.Comparison.TheVariants as comparison
use Rattle.okws_plan.specs.declared.statement.Condition.{Condition}
use Rattle.okws_plan.specs.declared.statement.Assignment.{Assignment}
use Rattle.okws_plan.specs.declared.statement.Selection.{Selection}
use Rattle.okws_plan.specs.declared.statement.Action.{Action}
use Rattle.okws_plan.specs.declared.statement.Action.TheVariants as action
use Rattle.query_syntax.specs.declared.token.Fixed.{Fixed}
use Rattle.query_syntax.specs.declared.token.Fixed.TheVariants as fixed
use Rattle.query_syntax.specs.declared.token.Token.{Token}
use Rattle.query_syntax.specs.declared.token.Token.TheVariants as token
use Rattle.query_syntax.specs.declared.syntax.Named.{Named}
use Rattle.query_syntax.specs.declared.syntax.Written.{Written}
use Rattle.query_syntax.specs.declared.syntax.Written.TheVariants as written
use Rattle.query_syntax.specs.declared.syntax.Given.{Given}
use Rattle.query_syntax.specs.declared.syntax.Setting.{Setting}
use Rattle.query_syntax.specs.declared.syntax.Test.{Test}
use Rattle.query_syntax.specs.declared.syntax.Form.{Form}
use Rattle.query_syntax.specs.declared.syntax.Form.TheVariants as form
use Rattle.query_syntax.specs.Tokens.{same_fixed}
use Rattle.query_syntax.specs.Spelling.{comparison_sign, limit_tokens}
use Rattle.statement_core.specs.Canonical.{name_of_column, operand_token, column_tokens, all_column_tokens, operand_tokens, assignment_tokens, condition_tokens, order_tokens, action_tokens}
use Rattle.query_syntax.specs.Forms.{named_tokens, written_token, given_tokens, setting_tokens, test_tokens, behind_separators, separated, where_tokens, order_by_tokens, form_tokens}
use Rattle.query_syntax.specs.ReadAgain.{is_spelled}
use Rattle.statement_core.specs.Recompiled.{holds_literal, conditions_hold, holds_literals}

abbrev pub bare_word : List ℕ → Named
bare_word w = record { at = 0; name = w }

-- a column by its number
abbrev pub name_at : List Column → ℕ → Named
name_at columns c = bare_word (name_of_column (slice_get columns c))

abbrev pub written_of : Operand → Written
written_of (operand.Parameter n) = written.Parameter n
written_of (operand.Literal v) = written.Literal v

abbrev pub given_of : Operand → Given
given_of o = record { at = 0; value = written_of o }

abbrev pub test_of : List Column → Condition → Test
test_of columns c = record { column = name_at columns c.column; comparison = c.comparison; value = given_of c.operand }

abbrev pub setting_of : List Column → Assignment → Setting
setting_of columns a = record { column = name_at columns a.column; value = given_of a.operand }

abbrev pub names_of : List Column → List Named
names_of columns = map (λ (c : Column). bare_word c.name) columns

-- the form of an action on the table of this name
abbrev pub form_on : List Column → List ℕ → Action → Form
form_on columns table (action.Select s) = form.Select (map (name_at columns) s.columns) (bare_word table) (map (test_of columns) s.conditions) (option_map (name_at columns) s.order) s.limit
form_on columns table (action.Insert values) = form.Insert (bare_word table) 0 (names_of columns) (map given_of values)
form_on columns table (action.Update assignments conditions) = form.Update (bare_word table) (map (setting_of columns) assignments) (map (test_of columns) conditions)
form_on columns table (action.Delete conditions) = form.Delete (bare_word table) (map (test_of columns) conditions)

-- its tokens are the statement's

pub operand_same : (o : Operand) → operand_token o ≡ written_token (written_of o)
operand_same (operand.Parameter n) = refl
operand_same (operand.Literal v) = refl

columns_behind : (columns : List Column) (cs : List ℕ) → column_tokens columns false cs ≡ behind_separators fixed.Comma named_tokens (map (name_at columns) cs)
columns_behind columns [] = refl
columns_behind columns (c ∷ more) = ap (λ (ts : List Token). token.Fixed fixed.Comma ∷ token.Word (name_of_column (slice_get columns c)) ∷ ts) (columns_behind columns more)

columns_same : (columns : List Column) (cs : List ℕ) → column_tokens columns true cs ≡ separated fixed.Comma named_tokens (map (name_at columns) cs)
columns_same columns [] = refl
columns_same columns (c ∷ more) = ap (λ (ts : List Token). token.Word (name_of_column (slice_get columns c)) ∷ ts) (columns_behind columns more)

all_behind : (columns : List Column) → all_column_tokens false columns ≡ behind_separators fixed.Comma named_tokens (names_of columns)
all_behind [] = refl
all_behind (c ∷ more) = ap (λ (ts : List Token). token.Fixed fixed.Comma ∷ token.Word c.name ∷ ts) (all_behind more)

all_same : (columns : List Column) → all_column_tokens true columns ≡ separated fixed.Comma named_tokens (names_of columns)
all_same [] = refl
all_same (c ∷ more) = ap (λ (ts : List Token). token.Word c.name ∷ ts) (all_behind more)

operands_behind : (os : List Operand) → operand_tokens false os ≡ behind_separators fixed.Comma given_tokens (map given_of os)
operands_behind [] = refl
operands_behind (o ∷ more) = rw (operand_same o, operands_behind more) refl

operands_same : (os : List Operand) → operand_tokens true os ≡ separated fixed.Comma given_tokens (map given_of os)
operands_same [] = refl
operands_same (o ∷ more) = rw (operand_same o, operands_behind more) refl

settings_behind : (columns : List Column) (xs : List Assignment) → assignment_tokens columns false xs ≡ behind_separators fixed.Comma setting_tokens (map (setting_of columns) xs)
settings_behind columns [] = refl
settings_behind columns (a ∷ more) = rw (operand_same a.operand, settings_behind columns more) refl

settings_same : (columns : List Column) (xs : List Assignment) → assignment_tokens columns true xs ≡ separated fixed.Comma setting_tokens (map (setting_of columns) xs)
settings_same columns [] = refl
settings_same columns (a ∷ more) = rw (operand_same a.operand, settings_behind columns more) refl

tests_behind : (columns : List Column) (xs : List Condition) → condition_tokens columns false xs ≡ behind_separators fixed.And test_tokens (map (test_of columns) xs)
tests_behind columns [] = refl
tests_behind columns (c ∷ more) = rw (operand_same c.operand, tests_behind columns more) refl

tests_same : (columns : List Column) (xs : List Condition) → condition_tokens columns true xs ≡ where_tokens (map (test_of columns) xs)
tests_same columns [] = refl
tests_same columns (c ∷ more) = rw (operand_same c.operand, tests_behind columns more) refl

order_same : (columns : List Column) (order : Option ℕ) → order_tokens columns order ≡ order_by_tokens (option_map (name_at columns) order)
order_same columns None = refl
order_same columns (Some c) = refl

pub regroup_five : (a b c d e : List Token) → (((a ++ b) ++ c) ++ d) ++ e ≡ a ++ (b ++ (c ++ (d ++ e)))
regroup_five a b c d e = simp append_assoc

regroup_four : (a b c d : List Token) → ((a ++ b) ++ c) ++ d ≡ a ++ (b ++ (c ++ d))
regroup_four a b c d = simp append_assoc

pub tokens_same : (columns : List Column) (table : List ℕ) (a : Action) → action_tokens columns (token.Word table) a ≡ form_tokens (form_on columns table a)
tokens_same columns table (action.Select s) =
    rw (columns_same columns s.columns, tests_same columns s.conditions, order_same columns s.order)
    (ap (λ (ts : List Token). token.Fixed fixed.Select ∷ ts)
    (regroup_five (separated fixed.Comma named_tokens (map (name_at columns) s.columns)) (token.Fixed fixed.From ∷ token.Word table ∷ []) (where_tokens (map (test_of columns) s.conditions))
    (order_by_tokens (option_map (name_at columns) s.order)) (limit_tokens s.limit)))
tokens_same columns table (action.Insert values) =
    rw (all_same columns, operands_same values)
    (ap (λ (ts : List Token). token.Fixed fixed.Insert ∷ token.Fixed fixed.Into ∷ token.Word table ∷ token.Fixed fixed.Open ∷ ts)
    (regroup_four (separated fixed.Comma named_tokens (names_of columns)) (token.Fixed fixed.Close ∷ token.Fixed fixed.Values ∷ token.Fixed fixed.Open ∷ [])
    (separated fixed.Comma given_tokens (map given_of values)) (token.Fixed fixed.Close ∷ [])))
tokens_same columns table (action.Update assignments conditions) = rw (settings_same columns assignments, tests_same columns conditions) refl
tokens_same columns table (action.Delete conditions) = rw (tests_same columns conditions) refl

-- each token can be spelled

abbrev pub spelled : List Token → Type 0
spelled ts = list_all is_spelled ts ≡ true

pub spelled_both : (xs ys : List Token) → spelled xs → spelled ys → spelled (xs ++ ys)
spelled_both [] ys h k = k
spelled_both (x ∷ xs) ys h k =
    let both = and_parts (is_spelled x) (list_all is_spelled xs) h in
    rw (both.0, spelled_both xs ys both.1 k) refl

pub spelled_cons : (x : Token) (xs : List Token) → is_spelled x ≡ true → spelled xs → spelled (x ∷ xs)
spelled_cons x xs h k = rw (h, k) refl

spelled_behind : {A B : Type 0} (s : Fixed) (good : A → Bool) (f : A → B) (spell : B → List Token) → not (same_fixed s fixed.End) ≡ true → ((a : A) → good a ≡ true → spelled (spell (f a)))
    → (xs : List A) → list_all good xs ≡ true → spelled (behind_separators s spell (map f xs))
spelled_behind s good f spell sign each [] h = refl
spelled_behind s good f spell sign each (x ∷ more) h =
    let both = and_parts (good x) (list_all good more) h in
    spelled_cons (token.Fixed s) (spell (f x) ++ behind_separators s spell (map f more)) sign
    (spelled_both (spell (f x)) (behind_separators s spell (map f more)) (each x both.0) (spelled_behind s good f spell sign each more both.1))

pub spelled_separated : {A B : Type 0} (s : Fixed) (good : A → Bool) (f : A → B) (spell : B → List Token) → not (same_fixed s fixed.End) ≡ true → ((a : A) → good a ≡ true → spelled (spell (f a)))
    → (xs : List A) → list_all good xs ≡ true → spelled (separated s spell (map f xs))
spelled_separated s good f spell sign each [] h = refl
spelled_separated s good f spell sign each (x ∷ more) h =
    let both = and_parts (good x) (list_all good more) h in
    spelled_both (spell (f x)) (behind_separators s spell (map f more)) (each x both.0) (spelled_behind s good f spell sign each more both.1)

pub spelled_name : (w : List ℕ) → is_identifier w ≡ true → is_spelled (token.Word w) ≡ true
spelled_name w h = (and_parts (nat_le (length w) 64) (is_word w && not (is_keyword w)) h).1

-- the columns have identifiers
abbrev pub all_named : List Column → Bool
all_named columns = list_all (λ (c : Column). is_identifier c.name) columns

named_at : (columns : List Column) (c : ℕ) (column : Column) → all_named columns ≡ true → slice_get columns c ≡ Some column → is_identifier column.name ≡ true
named_at [] c column h e = absurd (let none : None ≡ Some column = e in cc)
named_at (x ∷ more) zero column h e =
    let same : x ≡ column = cc in
    let P : Column → Type 0 = λ (y : Column). is_identifier y.name ≡ true in
    subst P same (and_parts (is_identifier x.name) (all_named more) h).0
named_at (x ∷ more) (suc c) column h e = named_at more c column (and_parts (is_identifier x.name) (all_named more) h).1 e

-- a column's number is that of a column
pub column_there : (columns : List Column) (c : ℕ) → is_column columns c ≡ true → (column : Column) × (slice_get columns c ≡ Some column)
column_there [] c h = absurd (omega (arith, ltb-true c 0 h))
column_there (x ∷ more) zero h = (x, refl)
column_there (x ∷ more) (suc c) h =
    let below : suc c < suc (length more) = ltb-true (suc c) (suc (length more)) h in
    column_there more c (lt-ltb c (length more) (omega arith))

pub spelled_column : (columns : List Column) → all_named columns ≡ true → (c : ℕ) → is_column columns c ≡ true → is_spelled (token.Word (name_at columns c).name) ≡ true
spelled_column columns named c h =
    let there = column_there columns c h in
    rw there.1 (spelled_name there.0.name (named_at columns c there.0 named there.1))

-- a parameter that meets a kind has a number of at most as many as there are
pub parameter_within : (parameters : List Kind) (i : ℕ) (kind : Kind) → is_of_kind kind (slice_get parameters i) ≡ true → i < length parameters
parameter_within [] i kind h = absurd (false≢true h)
parameter_within (k ∷ more) zero kind h = omega arith
parameter_within (k ∷ more) (suc i) kind h = let below = parameter_within more i kind h in omega arith

pub spelled_operand : (parameters : List Kind) (kind : Kind) (o : Operand) → length parameters ≤ 16 → operand_fits parameters kind o ≡ true → holds_literal o ≡ true → is_spelled (written_token (written_of o)) ≡ true
spelled_operand parameters kind (operand.Literal v) few h k = k
spelled_operand parameters kind (operand.Parameter n) few h k =
    let both = and_parts (nat_le 1 n) (is_of_kind kind (slice_get parameters (n - 1))) h in
    let below : n - 1 < length parameters = parameter_within parameters (n - 1) kind both.1 in
    lt-ltb n (2 ^ 64) (omega arith)

-- a column that an operand fits is there
pub fitting : (parameters : List Kind) (columns : List Column) (c : ℕ) (o : Operand) → fits_column parameters (slice_get columns c) o ≡ true
    → (column : Column) × (slice_get columns c ≡ Some column) × (operand_fits parameters column.kind o ≡ true)
fitting parameters columns c o h = by_column (slice_get columns c) refl h
  where
    by_column : (found : Option Column) → slice_get columns c ≡ found → fits_column parameters found o ≡ true → (column : Column) × (slice_get columns c ≡ Some column) × (operand_fits parameters column.kind o ≡ true)
    by_column None e h = absurd (false≢true h)
    by_column (Some column) e h = (column, e, h)

spelled_pair : (columns : List Column) (parameters : List Kind) (c : ℕ) (o : Operand) → all_named columns ≡ true → length parameters ≤ 16 → fits_column parameters (slice_get columns c) o ≡ true → holds_literal o ≡ true
    → (is_spelled (token.Word (name_at columns c).name) ≡ true) × (is_spelled (written_token (written_of o)) ≡ true)
spelled_pair columns parameters c o named few h k =
    let fits = fitting parameters columns c o h in
    (rw fits.1 (spelled_name fits.0.name (named_at columns c fits.0 named fits.1)), spelled_operand parameters fits.0.kind o few fits.2 k)

-- two tests of each item
pub all_both : {A : Type 0} (p q : A → Bool) (xs : List A) → list_all p xs ≡ true → list_all q xs ≡ true → list_all (λ (x : A). p x && q x) xs ≡ true
all_both p q [] h k = refl
all_both p q (x ∷ more) h k =
    let one = and_parts (p x) (list_all p more) h in
    let two = and_parts (q x) (list_all q more) k in
    rw (one.0, two.0, all_both p q more one.1 two.1) refl

abbrev good_condition : List Column → List Kind → Condition → Bool
good_condition columns parameters c = condition_fits columns parameters c && holds_literal c.operand

pub sign_spelled : (c : Comparison) → is_spelled (token.Fixed (comparison_sign c)) ≡ true
sign_spelled comparison.Equal = refl
sign_spelled comparison.Differs = refl
sign_spelled comparison.Below = refl
sign_spelled comparison.AtMost = refl
sign_spelled comparison.Above = refl
sign_spelled comparison.AtLeast = refl

spelled_test : (columns : List Column) (parameters : List Kind) → all_named columns ≡ true → length parameters ≤ 16 → (c : Condition) → good_condition columns parameters c ≡ true → spelled (test_tokens (test_of columns c))
spelled_test columns parameters named few c h =
    let both = and_parts (condition_fits columns parameters c) (holds_literal c.operand) h in
    let pair = spelled_pair columns parameters c.column c.operand named few both.0 both.1 in
    rw (pair.0, sign_spelled c.comparison, pair.1) refl

spelled_tests : (columns : List Column) (parameters : List Kind) → all_named columns ≡ true → length parameters ≤ 16 → (cs : List Condition) → conditions_fit columns parameters cs ≡ true → conditions_hold cs ≡ true
    → spelled (where_tokens (map (test_of columns) cs))
spelled_tests columns parameters named few [] h k = refl
spelled_tests columns parameters named few (c ∷ more) h k =
    let fit = (and_parts (nat_le (length (c ∷ more)) MOST_CONDITIONS) (list_all (λ (c : Condition). condition_fits columns parameters c) (c ∷ more)) h).1 in
    spelled_separated fixed.And (good_condition columns parameters) (test_of columns) test_tokens refl (spelled_test columns parameters named few) (c ∷ more)
    (all_both (λ (c : Condition). condition_fits columns parameters c) (λ (c : Condition). holds_literal c.operand) (c ∷ more) fit k)

abbrev good_assignment : List Column → List Kind → Assignment → Bool
good_assignment columns parameters a = assignment_fits columns parameters a && holds_literal a.operand

spelled_setting : (columns : List Column) (parameters : List Kind) → all_named columns ≡ true → length parameters ≤ 16 → (a : Assignment) → good_assignment columns parameters a ≡ true → spelled (setting_tokens (setting_of columns a))
spelled_setting columns parameters named few a h =
    let both = and_parts (assignment_fits columns parameters a) (holds_literal a.operand) h in
    let fit = (and_parts (may_be_set (slice_get columns a.column)) (fits_column parameters (slice_get columns a.column) a.operand) both.0).1 in
    let pair = spelled_pair columns parameters a.column a.operand named few fit both.1 in
    rw (pair.0, pair.1) refl

spelled_order : (columns : List Column) → all_named columns ≡ true → (order : Option ℕ) → order_fits columns order ≡ true → spelled (order_by_tokens (option_map (name_at columns) order))
spelled_order columns named None h = refl
spelled_order columns named (Some c) h = rw (spelled_column columns named c h) refl

pub spelled_limit : (limit : Option ℕ) → limit_fits limit ≡ true → spelled (limit_tokens limit)
spelled_limit None h = refl
spelled_limit (Some n) h =
    let low : n ≤ GREATEST_LIMIT = leb-true n GREATEST_LIMIT h in
    rw (lt-ltb n (2 ^ 63) (omega arith)) refl

spelled_name_tokens : (w : Named) → is_spelled (token.Word w.name) ≡ true → spelled (named_tokens w)
spelled_name_tokens w h = rw h refl

-- the operands of an INSERT
spelled_values : (parameters : List Kind) (columns : List Column) (os : List Operand) → length parameters ≤ 16 → operands_fit columns parameters os ≡ true → list_all holds_literal os ≡ true
    → list_all (λ (o : Operand). is_spelled (written_token (written_of o))) os ≡ true
spelled_values parameters [] [] few h k = refl
spelled_values parameters [] (o ∷ os) few h k = absurd (false≢true h)
spelled_values parameters (c ∷ columns) [] few h k = absurd (false≢true h)
spelled_values parameters (c ∷ columns) (o ∷ os) few h k =
    let one = and_parts (operand_fits parameters c.kind o) (operands_fit columns parameters os) h in
    let two = and_parts (holds_literal o) (list_all holds_literal os) k in
    rw (spelled_operand parameters c.kind o few one.0 two.0, spelled_values parameters columns os few one.1 two.1) refl

-- what is known of a SELECT that fits
pub record Selects (columns : List Column) (parameters : List Kind) (s : Selection) : Type 0 where
  pub some : nat_le 1 (length s.columns) ≡ true
  pub few : nat_le (length s.columns) MOST_COLUMNS ≡ true
  pub list : list_all (λ (c : ℕ). is_column columns c) s.columns ≡ true
  pub conditions : conditions_fit columns parameters s.conditions ≡ true
  pub order : order_fits columns s.order ≡ true
  pub limit : limit_fits s.limit ≡ true

pub selects : (columns : List Column) (parameters : List Kind) (s : Selection) → selection_fits columns parameters s ≡ true → Selects columns parameters s
selects columns parameters s h =
    let last : Bool = order_fits columns s.order && limit_fits s.limit in
    let four : Bool = conditions_fit columns parameters s.conditions && last in
    let three : Bool = list_all (λ (c : ℕ). is_column columns c) s.columns && four in
    let a = and_parts (nat_le 1 (length s.columns)) (nat_le (length s.columns) MOST_COLUMNS && three) h in
    let b = and_parts (nat_le (length s.columns) MOST_COLUMNS) three a.1 in
    let c = and_parts (list_all (λ (c : ℕ). is_column columns c) s.columns) four b.1 in
    let d = and_parts (conditions_fit columns parameters s.conditions) last c.1 in
    let e = and_parts (order_fits columns s.order) (limit_fits s.limit) d.1 in
    record { some = a.0; few = b.0; list = c.0; conditions = d.0; order = e.0; limit = e.1 }

-- what is known of an UPDATE that fits
pub record Updates (columns : List Column) (parameters : List Kind) (xs : List Assignment) (cs : List Condition) : Type 0 where
  pub some : nat_le 1 (length xs) ≡ true
  pub list : list_all (λ (a : Assignment). assignment_fits columns parameters a) xs ≡ true
  pub once : sets_each_once xs ≡ true
  pub conditions : conditions_fit columns parameters cs ≡ true

pub updates : (columns : List Column) (parameters : List Kind) (xs : List Assignment) (cs : List Condition) → action_fits columns parameters (action.Update xs cs) ≡ true → Updates columns parameters xs cs
updates columns parameters xs cs h =
    let last : Bool = sets_each_once xs && conditions_fit columns parameters cs in
    let three : Bool = list_all (λ (a : Assignment). assignment_fits columns parameters a) xs && last in
    let a = and_parts (nat_le 1 (length xs)) three h in
    let b = and_parts (list_all (λ (a : Assignment). assignment_fits columns parameters a) xs) last a.1 in
    let c = and_parts (sets_each_once xs) (conditions_fit columns parameters cs) b.1 in
    record { some = a.0; list = b.0; once = c.0; conditions = c.1 }

pub form_spelled : (columns : List Column) (parameters : List Kind) (table : List ℕ) (a : Action) → all_named columns ≡ true → is_identifier table ≡ true → length parameters ≤ 16
    → action_fits columns parameters a ≡ true → holds_literals a ≡ true → spelled (form_tokens (form_on columns table a))
form_spelled columns parameters table (action.Select s) named known few h k =
    let fit = selects columns parameters s h in
    let cs : spelled (separated fixed.Comma named_tokens (map (name_at columns) s.columns)) =
    spelled_separated fixed.Comma (is_column columns) (name_at columns) named_tokens refl (λ c h. spelled_name_tokens (name_at columns c) (spelled_column columns named c h)) s.columns fit.list in
    let clauses : List Token = where_tokens (map (test_of columns) s.conditions) ++ (order_by_tokens (option_map (name_at columns) s.order) ++ limit_tokens s.limit) in
    let last : spelled clauses =
    spelled_both (where_tokens (map (test_of columns) s.conditions)) (order_by_tokens (option_map (name_at columns) s.order) ++ limit_tokens s.limit) (spelled_tests columns parameters named few s.conditions fit.conditions k)
    (spelled_both (order_by_tokens (option_map (name_at columns) s.order)) (limit_tokens s.limit) (spelled_order columns named s.order fit.order) (spelled_limit s.limit fit.limit)) in
    let behind : List Token = token.Fixed fixed.From ∷ token.Word table ∷ clauses in
    spelled_both (separated fixed.Comma named_tokens (map (name_at columns) s.columns)) behind cs (spelled_cons (token.Word table) clauses (spelled_name table known) last)
form_spelled columns parameters table (action.Insert values) named known few h k =
    let cs : spelled (separated fixed.Comma named_tokens (names_of columns)) =
    spelled_separated fixed.Comma (λ (c : Column). is_identifier c.name) (λ (c : Column). bare_word c.name) named_tokens refl (λ c h. spelled_name_tokens (bare_word c.name) (spelled_name c.name h)) columns named in
    let vs : spelled (separated fixed.Comma given_tokens (map given_of values)) =
    spelled_separated fixed.Comma (λ (o : Operand). is_spelled (written_token (written_of o))) given_of given_tokens refl (λ o h. rw h refl) values (spelled_values parameters columns values few h k) in
    let last : List Token = token.Fixed fixed.Close ∷ [] in
    let given : List Token = separated fixed.Comma given_tokens (map given_of values) ++ last in
    let behind : List Token = token.Fixed fixed.Close ∷ token.Fixed fixed.Values ∷ token.Fixed fixed.Open ∷ given in
    spelled_cons (token.Word table) (token.Fixed fixed.Open ∷ (separated fixed.Comma named_tokens (names_of columns) ++ behind)) (spelled_name table known)
    (spelled_both (separated fixed.Comma named_tokens (names_of columns)) behind cs (spelled_both (separated fixed.Comma given_tokens (map given_of values)) last vs refl))
form_spelled columns parameters table (action.Update xs cs) named known few h k =
    let fit = updates columns parameters xs cs h in
    let held = and_parts (list_all (λ (a : Assignment). holds_literal a.operand) xs) (conditions_hold cs) k in
    let ss : spelled (separated fixed.Comma setting_tokens (map (setting_of columns) xs)) =
    spelled_separated fixed.Comma (good_assignment columns parameters) (setting_of columns) setting_tokens refl (spelled_setting columns parameters named few) xs
    (all_both (λ (a : Assignment). assignment_fits columns parameters a) (λ (a : Assignment). holds_literal a.operand) xs fit.list held.0) in
    let ts : spelled (where_tokens (map (test_of columns) cs)) = spelled_tests columns parameters named few cs fit.conditions held.1 in
    spelled_cons (token.Word table) (token.Fixed fixed.Set ∷ (separated fixed.Comma setting_tokens (map (setting_of columns) xs) ++ where_tokens (map (test_of columns) cs))) (spelled_name table known)
    (spelled_both (separated fixed.Comma setting_tokens (map (setting_of columns) xs)) (where_tokens (map (test_of columns) cs)) ss ts)
form_spelled columns parameters table (action.Delete cs) named known few h k =
    spelled_cons (token.Word table) (where_tokens (map (test_of columns) cs)) (spelled_name table known) (spelled_tests columns parameters named few cs h k)
