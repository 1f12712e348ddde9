-- What is compiled keeps the rules.
use Rattle.std.proofs.Common.{◌≡◌, ℕ, suc, zero, ◌+◌, ◌≤◌, ◌<◌, Bool, true, false, not, ◌&&◌, ◌||◌, List, [], ◌∷◌, map, replicate, get_or, Option, Some, None, option_map, is_some, refl, sym, ap, subst, ◌∙◌, ⊎_elim, arith, length, zero-add}
use Rattle.std.specs.Prelude.{nat_le, ◌==◌, slice_get}
use Rattle.std.specs.List.{list_all, list_any}
use Rattle.std.proofs.lemmas.Bool.{false≢true, and_parts, and_from, le-leb, eqb-true, not-false, cases_lt}
use Rattle.std.proofs.lemmas.List.{length-map, length-replicate}
use Rattle.okws_base.specs.declared.limit.TheConstants.{MOST_COLUMNS, MOST_CONDITIONS}
use Rattle.okws_base.specs.declared.value.Kind.{Kind}
use Rattle.okws_plan.specs.Configuration.{numbered_from}
use Rattle.okws_plan.specs.Rules.{operands_fit, condition_fits, conditions_fit, is_column, assignment_fits, order_fits, limit_fits, selection_fits, action_fits, sets_each_once, is_parameter, stands_in_conditions, stands_in}
use Rattle.okws_plan.specs.declared.configuration.Column.{Column}
use Rattle.okws_plan.specs.declared.statement.Operand.{Operand}
use Rattle.okws_plan.specs.declared.statement.Condition.{Condition}
use Rattle.okws_plan.specs.declared.statement.Assignment.{Assignment}
use Rattle.okws_plan.specs.declared.statement.Action.TheVariants as action
use Rattle.query_syntax.specs.declared.error.Refusal.{Refusal}
use Rattle.query_syntax.specs.declared.error.TextRule.TheVariants as rule
use Rattle.query_syntax.specs.declared.syntax.Named.{Named}
use Rattle.query_syntax.specs.declared.syntax.Given.{Given}
use Rattle.query_syntax.specs.declared.syntax.Setting.{Setting}
use Rattle.query_syntax.specs.declared.syntax.Test.{Test}
use Rattle.query_syntax.specs.declared.syntax.Form.{Form}
use Rattle.query_syntax.specs.declared.syntax.Form.TheVariants as form
use Rattle.query_syntax.specs.Forms.{has_items, may_limit}
use Rattle.statement_core.specs.Resolving.{Judged, sooner, word_judged, words_judged, test_judged, tests_judged, settings_judged, are_columns, list_judged, values_judged, order_judged, columns_judged, too_many, list_excess, tests_excess, parts_excess, nothing_found, has_gap, parameters, number, operand_of, condition_of, assignment_of, action_of}
use Rattle.statement_core.proofs.Keeps.{earlier_some, noted_clean, fold_before, there, word_clean, word_before, number_is_column, words_clean, Kept, kinds_met, few_kinds}
use Rattle.statement_core.proofs.ConditionsKeep.{kept_two, kept_like, kept_size, tests_kept, test_before, settings_kept, values_before, values_kept}

-- an order

order_before : (columns : List Column) (j : Judged) (o : Option Named) → (order_judged columns j o).fault ≡ None → j.fault ≡ None
order_before columns j None h = h
order_before columns j (Some w) h = word_before columns j w h

order_clean : (columns : List Column) (j : Judged) (o : Option Named) → (order_judged columns j o).fault ≡ None → (order_judged columns j o ≡ j) × (order_fits columns (option_map (number columns) o) ≡ true)
order_clean columns j None h = (refl, refl)
order_clean columns j (Some w) h =
    let word = word_clean columns j w h in
    (word.1, number_is_column columns w word.0)

-- counts

pub sooner_none : (a b : Option Refusal) → sooner a b ≡ None → (a ≡ None) × (b ≡ None)
sooner_none a None h = (h, refl)
sooner_none a (Some f) h = absurd (earlier_some a f h)

pub few_from : {A : Type 0} (xs : List A) (f : A → Refusal) → option_map f (slice_get xs 16) ≡ None → length xs ≤ 16
few_from xs f h = ⊎_elim many (λ le. le) (cases_lt 16 (length xs))
  where
    many : 16 < length xs → length xs ≤ 16
    many below =
        let found = there xs 16 below in
        absurd (let some : Some (f found.0) ≡ None = sym (ap (option_map f) found.1) ∙ h in cc)

few_conditions : (columns : List Column) (kinds : List Kind) (ts : List Test) → tests_excess ts ≡ None → list_all (λ (c : Condition). condition_fits columns kinds c) (map (condition_of columns) ts) ≡ true
    → conditions_fit columns kinds (map (condition_of columns) ts) ≡ true
few_conditions columns kinds ts h k =
    let few : length ts ≤ 16 = few_from ts (λ (t : Test). too_many t.column.at) h in
    let n : length (map (condition_of columns) ts) ≡ length ts = length-map ts (condition_of columns) in
    and_from (nat_le (length (map (condition_of columns) ts)) MOST_CONDITIONS) (list_all (λ (c : Condition). condition_fits columns kinds c) (map (condition_of columns) ts)) (le-leb (length (map (condition_of columns) ts)) 16 (omega arith)) k

-- each parameter stands in the statement

none_first : (n i : ℕ) → get_or {A = Option Kind} (replicate n None) i None ≡ None
none_first zero i = refl
none_first (suc n) zero = refl
none_first (suc n) (suc i) = none_first n i

all_numbered : (S : ℕ → Bool) (i m : ℕ) → ((d : ℕ) → d < m → S (i + d) ≡ true) → list_all S (numbered_from i m) ≡ true
all_numbered S i zero h = refl
all_numbered S i (suc m) h =
    let here : S i ≡ true = ap S (let n : i ≡ i + 0 = omega arith in n) ∙ h 0 (omega arith) in
    and_from (S i) (list_all S (numbered_from (i + 1) m)) here (all_numbered S (i + 1) m (λ d below. ap S (let n : i + 1 + d ≡ i + suc d = omega arith in n) ∙ h (suc d) (omega arith)))

-- what is known of a form's action
pub record IsLawful (met : List (Option Kind)) (S : ℕ → Bool) (F : List Kind → Type 0) : Type 0 where
  pub fits : F (parameters met)
  pub all : list_all S (numbered_from 1 (length (parameters met))) ≡ true
  pub few : length (parameters met) ≤ 16

lawful : (n : ℕ) (result : Judged) (S : ℕ → Bool) (F : List Kind → Type 0) → Kept (nothing_found n) result S F → has_gap result.met ≡ false → IsLawful result.met S F
lawful n result S F kept gap =
    let met : result.met ≡ kept.met = ap (λ (x : Judged). x.met) kept.is in
    let size : length result.met ≡ 16 = ap length met ∙ kept.size in
    record {
      fits = kept.fit result.met gap (λ i k q. ap (λ (x : List (Option Kind)). get_or x i None) met ∙ q);
      all = all_numbered S 1 (length (parameters result.met)) (λ d below. stands d below);
      few = omega (arith, few_kinds result.met);
    }
  where
    stands : (d : ℕ) → d < length (parameters result.met) → S (1 + d) ≡ true
    stands d below =
        let kind = there (parameters result.met) d below in
        let here : get_or result.met d None ≡ Some kind.0 = sym (kinds_met result.met gap d) ∙ kind.1 in
        let there' : is_some (get_or kept.met d None) ≡ true = ap (λ (x : List (Option Kind)). is_some (get_or x d None)) (sym (ap (λ (x : Judged). x.met) kept.is)) ∙ ap (λ (o : Option Kind). is_some o) here in
        let from : (is_some (get_or (replicate 16 None) d None) || S (d + 1)) ≡ true = kept.from d there' in
        let late : S (d + 1) ≡ true = subst (λ (o : Option Kind). (is_some o || S (d + 1)) ≡ true) (none_first 16 d) from in
        ap S (let n : 1 + d ≡ d + 1 = omega arith in n) ∙ late

-- each form

-- what is shown of a form on a table of these columns
abbrev pub FitsAll : List Column → Form → List (Option Kind) → Type 0
FitsAll columns f met = IsLawful met (λ (n : ℕ). stands_in n (action_of columns f)) (λ (ks : List Kind). action_fits columns ks (action_of columns f) ≡ true)

some_items : {A B : Type 0} (f : A → B) (xs : List A) → has_items xs ≡ true → nat_le 1 (length (map f xs)) ≡ true
some_items f [] h = absurd (false≢true h)
some_items f (x ∷ more) h = le-leb 1 (suc (length (map f more))) (omega arith)

limit_low : (limit : Option ℕ) → may_limit limit ≡ true → limit_fits limit ≡ true
limit_low None h = refl
limit_low (Some n) h = h

selection_kept : (columns : List Column) (ks : List Kind) (cs : List ℕ) (conditions : List Condition) (order limit : Option ℕ) → nat_le 1 (length cs) ≡ true → length cs ≤ 16 → list_all (λ (c : ℕ). is_column columns c) cs ≡ true
    → conditions_fit columns ks conditions ≡ true → order_fits columns order ≡ true → limit_fits limit ≡ true
    → selection_fits columns ks (record { join = None; columns = cs; conditions = conditions; order = order; limit = limit }) ≡ true
selection_kept columns ks cs conditions order limit a b c d e f =
    let last : Bool = order_fits columns order && limit_fits limit in
    let four : Bool = conditions_fit columns ks conditions && last in
    let three : Bool = list_all (λ (c : ℕ). is_column columns c) cs && four in
    and_from (nat_le 1 (length cs)) (nat_le (length cs) MOST_COLUMNS && three) a (and_from (nat_le (length cs) MOST_COLUMNS) three (le-leb (length cs) 16 b)
    (and_from (list_all (λ (c : ℕ). is_column columns c) cs) four c (and_from (conditions_fit columns ks conditions) last d (and_from (order_fits columns order) (limit_fits limit) e f))))

pub select_keeps : (columns : List Column) (cs : List Named) (t : Named) (ts : List Test) (order : Option Named) (limit : Option ℕ) → has_items cs ≡ true → may_limit limit ≡ true
    → (columns_judged columns (nothing_found (length columns)) (form.Select cs t ts order limit)).fault ≡ None → parts_excess (form.Select cs t ts order limit) ≡ None
    → has_gap (columns_judged columns (nothing_found (length columns)) (form.Select cs t ts order limit)).met ≡ false
    → FitsAll columns (form.Select cs t ts order limit) (columns_judged columns (nothing_found (length columns)) (form.Select cs t ts order limit)).met
select_keeps columns cs t ts order limit some low clean parts gap =
    let start : Judged = nothing_found (length columns) in
    let first : Judged = words_judged columns start cs in
    let middle : Judged = tests_judged columns first ts in
    let result : Judged = order_judged columns middle order in
    let by = order_clean columns middle order clean in
    let early : middle.fault ≡ None = order_before columns middle order clean in
    let list = words_clean columns start cs (fold_before (λ (j : Judged) (t : Test). test_judged columns j t) (test_before columns) ts first early) in
    let same : middle ≡ tests_judged columns start ts = ap (λ (j : Judged). tests_judged columns j ts) list.0 in
    let one = tests_kept columns start ts refl (sym (ap (λ (j : Judged). j.fault) same) ∙ early) in
    let excess = sooner_none (list_excess cs) (tests_excess ts) parts in
    let few : length cs ≤ 16 = few_from cs (λ (w : Named). too_many w.at) excess.0 in
    let n : length (map (number columns) cs) ≡ length cs = length-map cs (number columns) in
    let S : ℕ → Bool = λ (n : ℕ). stands_in_conditions n (map (condition_of columns) ts) in
    let F : List Kind → Type 0 = λ (ks : List Kind). list_all (λ (c : Condition). condition_fits columns ks c) (map (condition_of columns) ts) ≡ true in
    let G : List Kind → Type 0 = λ (ks : List Kind). action_fits columns ks (action_of columns (form.Select cs t ts order limit)) ≡ true in
    lawful (length columns) result S G
    (kept_like start (tests_judged columns start ts) result S F G (by.0 ∙ same)
    (λ ks p. selection_kept columns ks (map (number columns) cs) (map (condition_of columns) ts) (option_map (number columns) order) limit (some_items (number columns) cs some) (omega arith) list.1
    (few_conditions columns ks ts excess.1 p) by.1 (limit_low limit low)) one)
    gap

pub insert_keeps : (columns : List Column) (t : Named) (at : ℕ) (ws : List Named) (vs : List Given)
    → (columns_judged columns (nothing_found (length columns)) (form.Insert t at ws vs)).fault ≡ None → has_gap (columns_judged columns (nothing_found (length columns)) (form.Insert t at ws vs)).met ≡ false
    → FitsAll columns (form.Insert t at ws vs) (columns_judged columns (nothing_found (length columns)) (form.Insert t at ws vs)).met
insert_keeps columns t at ws vs clean gap =
    let start : Judged = nothing_found (length columns) in
    let first : Judged = list_judged columns start at ws vs in
    let middle : Judged = words_judged columns first ws in
    let result : Judged = values_judged columns 0 middle vs in
    let early : middle.fault ≡ None = values_before columns 0 middle vs clean in
    let words = words_clean columns first ws early in
    let list = noted_clean start (not (are_columns columns ws && (length vs == length columns))) at rule.InsertColumns (fold_before (word_judged columns) (word_before columns) ws first early) in
    let many : length vs ≡ length columns = eqb-true (length vs) (length columns) (and_parts (are_columns columns ws) (length vs == length columns) (not-false (are_columns columns ws && (length vs == length columns)) list.0)).1 in
    let same : result ≡ values_judged columns 0 start vs = ap (λ (j : Judged). values_judged columns 0 j vs) (words.0 ∙ list.1) in
    let whole : (d : ℕ) → slice_get columns (0 + d) ≡ slice_get columns d = λ (d : ℕ). ap (slice_get columns) (zero-add d) in
    let one = values_kept columns 0 columns start vs whole many refl (sym (ap (λ (j : Judged). j.fault) same) ∙ clean) in
    let S : ℕ → Bool = λ (n : ℕ). list_any (λ (o : Operand). is_parameter n o) (map (λ (g : Given). operand_of g.value) vs) in
    let F : List Kind → Type 0 = λ (ks : List Kind). operands_fit columns ks (map (λ (g : Given). operand_of g.value) vs) ≡ true in
    lawful (length columns) result S F (kept_like start (values_judged columns 0 start vs) result S F F same (λ ks p. p) one) gap

-- a flag for each column
room_first : (n : ℕ) → length (replicate n false) ≡ n
room_first n = length-replicate n false

update_kept : (columns : List Column) (ks : List Kind) (xs : List Assignment) (cs : List Condition) → nat_le 1 (length xs) ≡ true → list_all (λ (a : Assignment). assignment_fits columns ks a) xs ≡ true
    → sets_each_once xs ≡ true → conditions_fit columns ks cs ≡ true → action_fits columns ks (action.Update xs cs) ≡ true
update_kept columns ks xs cs a b c d =
    let last : Bool = sets_each_once xs && conditions_fit columns ks cs in
    and_from (nat_le 1 (length xs)) (list_all (λ (a : Assignment). assignment_fits columns ks a) xs && last) a
    (and_from (list_all (λ (a : Assignment). assignment_fits columns ks a) xs) last b (and_from (sets_each_once xs) (conditions_fit columns ks cs) c d))

pub update_keeps : (columns : List Column) (t : Named) (ss : List Setting) (ts : List Test) → has_items ss ≡ true
    → (columns_judged columns (nothing_found (length columns)) (form.Update t ss ts)).fault ≡ None → tests_excess ts ≡ None → has_gap (columns_judged columns (nothing_found (length columns)) (form.Update t ss ts)).met ≡ false
    → FitsAll columns (form.Update t ss ts) (columns_judged columns (nothing_found (length columns)) (form.Update t ss ts)).met
update_keeps columns t ss ts some clean parts gap =
    let start : Judged = nothing_found (length columns) in
    let middle : Judged = settings_judged columns start ss in
    let result : Judged = tests_judged columns middle ts in
    let xs : List Assignment = map (assignment_of columns) ss in
    let cs : List Condition = map (condition_of columns) ts in
    let early : middle.fault ≡ None = fold_before (λ (j : Judged) (t : Test). test_judged columns j t) (test_before columns) ts middle clean in
    let one = settings_kept columns start ss refl (room_first (length columns)) early in
    let S : ℕ → Bool = λ (n : ℕ). list_any (λ (a : Assignment). is_parameter n a.operand) xs in
    let T : ℕ → Bool = λ (n : ℕ). stands_in_conditions n cs in
    let F : List Kind → Type 0 = λ (ks : List Kind). list_all (λ (a : Assignment). assignment_fits columns ks a) xs ≡ true in
    let G : List Kind → Type 0 = λ (ks : List Kind). list_all (λ (c : Condition). condition_fits columns ks c) cs ≡ true in
    let H : List Kind → Type 0 = λ (ks : List Kind). action_fits columns ks (action.Update xs cs) ≡ true in
    let two = tests_kept columns middle ts (kept_size start middle S F one.kept) clean in
    let both = kept_two start middle result S T F G one.kept two in
    lawful (length columns) result (λ (n : ℕ). S n || T n) H
    (kept_like start result result (λ (n : ℕ). S n || T n) (λ (ks : List Kind). F ks × G ks) H refl
    (λ ks p. update_kept columns ks xs cs (some_items (assignment_of columns) ss some) p.0 one.once (few_conditions columns ks ts parts p.1)) both)
    gap

pub delete_keeps : (columns : List Column) (t : Named) (ts : List Test)
    → (columns_judged columns (nothing_found (length columns)) (form.Delete t ts)).fault ≡ None → tests_excess ts ≡ None → has_gap (columns_judged columns (nothing_found (length columns)) (form.Delete t ts)).met ≡ false
    → FitsAll columns (form.Delete t ts) (columns_judged columns (nothing_found (length columns)) (form.Delete t ts)).met
delete_keeps columns t ts clean parts gap =
    let start : Judged = nothing_found (length columns) in
    let result : Judged = tests_judged columns start ts in
    let cs : List Condition = map (condition_of columns) ts in
    let S : ℕ → Bool = λ (n : ℕ). stands_in_conditions n cs in
    let F : List Kind → Type 0 = λ (ks : List Kind). list_all (λ (c : Condition). condition_fits columns ks c) cs ≡ true in
    let H : List Kind → Type 0 = λ (ks : List Kind). conditions_fit columns ks cs ≡ true in
    lawful (length columns) result S H (kept_like start result result S F H refl (λ ks p. few_conditions columns ks ts parts p) (tests_kept columns start ts refl clean)) gap
