-- The conditions, the settings and the values of a form that was judged without a fault fit the columns.
use Rattle.std.proofs.Common.{◌≡◌, ℕ, ◌+◌, ◌<◌, Bool, true, false, not, ◌||◌, cond, List, [], ◌∷◌, map, get_or, set, Option, Some, None, option_map, is_some, refl, sym, ap, subst, ◌∙◌, arith, length}
use Rattle.std.specs.Prelude.{◌==◌, slice_get}
use Rattle.std.specs.List.{list_all, list_any}
use Rattle.std.proofs.lemmas.Bool.{true≢false, and_from, ne_eqb}
use Rattle.std.proofs.lemmas.List.{get_or-set_other, get_or-set_same, length-set}
use Rattle.okws_base.specs.declared.value.Kind.{Kind}
use Rattle.okws_plan.specs.Rules.{operand_fits, operands_fit, fits_column, condition_fits, may_be_set, assignment_fits, sets_each_once, is_parameter, stands_in_conditions}
use Rattle.okws_plan.specs.declared.configuration.Column.{Column}
use Rattle.okws_plan.specs.declared.statement.Operand.{Operand}
use Rattle.okws_plan.specs.declared.statement.Condition.{Condition}
use Rattle.okws_plan.specs.declared.statement.Assignment.{Assignment}
use Rattle.query_syntax.specs.declared.error.Refusal.{Refusal}
use Rattle.query_syntax.specs.declared.error.TextRule.TheVariants as rule
use Rattle.query_syntax.specs.declared.syntax.Named.{Named}
use Rattle.query_syntax.specs.declared.syntax.Written.{Written}
use Rattle.query_syntax.specs.declared.syntax.Written.TheVariants as written
use Rattle.query_syntax.specs.declared.syntax.Given.{Given}
use Rattle.query_syntax.specs.declared.syntax.Setting.{Setting}
use Rattle.query_syntax.specs.declared.syntax.Test.{Test}
use Rattle.statement_core.specs.Resolving.{Judged, noted, column_number, column_in, kind_in, word_judged, is_numbered, is_other, kind_met, met_by, written_judged, value_judged, test_judged, tests_judged, is_key, is_taken, taken_by, target_judged, setting_judged, settings_judged, kind_at, values_judged, parameters, number, operand_of, condition_of, assignment_of}
use Rattle.statement_core.proofs.Judged.{suffix_first, suffix_more}
use Rattle.statement_core.proofs.Keeps.{noted_clean, noted_before, fold_before, IsColumn, word_clean, word_before, column_found, kind_found, number_found, number_there, inside, Kept, from_two, value_before, nothing_between, written_kept}

-- conditions

pub test_before : (columns : List Column) (j : Judged) (t : Test) → (test_judged columns j t).fault ≡ None → j.fault ≡ None
test_before columns j t h = word_before columns j t.column (value_before (word_judged columns j t.column) (kind_in columns t.column.name) t.value h)

-- a word and the value beside it
pair_kept : (columns : List Column) (j start result : Judged) (w : Named) (g : Given) (c : IsColumn columns w.name) → length start.met ≡ 16 → result ≡ value_judged start (kind_in columns w.name) g → result.fault ≡ None
    → Kept start result (λ (m : ℕ). is_parameter m (operand_of g.value)) (λ (ks : List Kind). fits_column ks (slice_get columns (number columns w)) (operand_of g.value) ≡ true)
pair_kept columns j start result w g c size e h =
    let same : result ≡ written_judged start c.column.kind g.at g.value = e ∙ ap (λ (k : Option Kind). value_judged start k g) (kind_found columns w.name c) in
    let kept = written_kept start c.column.kind g.at g.value size (sym (ap (λ (k : Judged). k.fault) same) ∙ h) in
    record {
      met = kept.met;
      taken = kept.taken;
      is = same ∙ kept.is;
      size = kept.size;
      grows = kept.grows;
      from = kept.from;
      fit = λ last gap grow. rw (number_there columns w c) (kept.fit last gap grow);
    }

test_kept : (columns : List Column) (j : Judged) (t : Test) → length j.met ≡ 16 → (test_judged columns j t).fault ≡ None
    → Kept j (test_judged columns j t) (λ (m : ℕ). is_parameter m (operand_of t.value.value)) (λ (ks : List Kind). condition_fits columns ks (condition_of columns t) ≡ true)
test_kept columns j t size h =
    let first = value_before (word_judged columns j t.column) (kind_in columns t.column.name) t.value h in
    let word = word_clean columns j t.column first in
    let same : test_judged columns j t ≡ value_judged j (kind_in columns t.column.name) t.value = ap (λ (k : Judged). value_judged k (kind_in columns t.column.name) t.value) word.1 in
    let kept = pair_kept columns j j (test_judged columns j t) t.column t.value word.0 size same h in
    record { met = kept.met; taken = kept.taken; is = kept.is; size = kept.size; grows = kept.grows; from = kept.from; fit = kept.fit }

-- one judgement after another
pub kept_two : (j middle result : Judged) (S T : ℕ → Bool) (F G : List Kind → Type 0) → Kept j middle S F → Kept middle result T G → Kept j result (λ (n : ℕ). S n || T n) (λ (ks : List Kind). F ks × G ks)
kept_two j middle result S T F G one more =
    let met : middle.met ≡ one.met = ap (λ (x : Judged). x.met) one.is in
    let clean : middle.fault ≡ j.fault = ap (λ (x : Judged). x.fault) one.is in
    record {
      met = more.met;
      taken = more.taken;
      is = more.is ∙ ap (λ (f : Option Refusal). record { met = more.met; taken = more.taken; fault = f }) clean;
      size = more.size;
      grows = λ i k q. more.grows i k (ap (λ (x : List (Option Kind)). get_or x i None) met ∙ one.grows i k q);
      from = from_two j.met middle.met more.met S T (λ i q. one.from i (sym (ap (λ (x : List (Option Kind)). is_some (get_or x i None)) met) ∙ q)) more.from;
      fit = λ last gap grow. (one.fit last gap (λ i k q. grow i k (more.grows i k (ap (λ (x : List (Option Kind)). get_or x i None) met ∙ q))), more.fit last gap grow);
    }

pub kept_like : (j result other : Judged) (S : ℕ → Bool) (F G : List Kind → Type 0) → other ≡ result → ((ks : List Kind) → F ks → G ks) → Kept j result S F → Kept j other S G
kept_like j result other S F G e h kept =
    record { met = kept.met; taken = kept.taken; is = e ∙ kept.is; size = kept.size; grows = kept.grows; from = kept.from; fit = λ last gap grow. h (parameters last) (kept.fit last gap grow) }

pub kept_size : (j result : Judged) (S : ℕ → Bool) (F : List Kind → Type 0) → Kept j result S F → length result.met ≡ 16
kept_size j result S F kept = ap (λ (x : Judged). length x.met) kept.is ∙ kept.size

kept_none : (j : Judged) (F : List Kind → Type 0) → length j.met ≡ 16 → ((ks : List Kind) → F ks) → Kept j j (λ (n : ℕ). false) F
kept_none j F size h = record { met = j.met; taken = j.taken; is = refl; size = size; grows = λ i k q. q; from = nothing_between j.met; fit = λ last gap grow. h (parameters last) }

pub tests_kept : (columns : List Column) (j : Judged) (ts : List Test) → length j.met ≡ 16 → (tests_judged columns j ts).fault ≡ None
    → Kept j (tests_judged columns j ts) (λ (n : ℕ). stands_in_conditions n (map (condition_of columns) ts)) (λ (ks : List Kind). list_all (λ (c : Condition). condition_fits columns ks c) (map (condition_of columns) ts) ≡ true)
tests_kept columns j [] size h = kept_none j (λ (ks : List Kind). true ≡ true) size (λ ks. refl)
tests_kept columns j (t ∷ ts) size h =
    let middle : Judged = test_judged columns j t in
    let S : ℕ → Bool = λ (n : ℕ). is_parameter n (operand_of t.value.value) in
    let T : ℕ → Bool = λ (n : ℕ). stands_in_conditions n (map (condition_of columns) ts) in
    let F : List Kind → Type 0 = λ (ks : List Kind). condition_fits columns ks (condition_of columns t) ≡ true in
    let G : List Kind → Type 0 = λ (ks : List Kind). list_all (λ (c : Condition). condition_fits columns ks c) (map (condition_of columns) ts) ≡ true in
    let one = test_kept columns j t size (fold_before (test_judged columns) (test_before columns) ts middle h) in
    let more = tests_kept columns middle ts (kept_size j middle S F one) h in
    let both = kept_two j middle (tests_judged columns middle ts) S T F G one more in
    kept_like j (tests_judged columns middle ts) (tests_judged columns j (t ∷ ts)) (λ (n : ℕ). S n || T n) (λ (ks : List Kind). F ks × G ks)
    (λ (ks : List Kind). list_all (λ (c : Condition). condition_fits columns ks c) (map (condition_of columns) (t ∷ ts)) ≡ true) refl
    (λ ks p. and_from (condition_fits columns ks (condition_of columns t)) (list_all (λ (c : Condition). condition_fits columns ks c) (map (condition_of columns) ts)) p.0 p.1) both

-- settings

taken_fault : (j : Judged) (o : Option ℕ) → (taken_by j o).fault ≡ j.fault
taken_fault j None = refl
taken_fault j (Some c) = refl

target_before : (columns : List Column) (j : Judged) (w : Named) → (target_judged columns j w).fault ≡ None → j.fault ≡ None
target_before columns j w h =
    let one : Judged = noted (word_judged columns j w) (is_key (column_in columns w.name)) w.at rule.KeySet in
    let two : Judged = noted one (is_taken j (column_number columns w.name)) w.at rule.ColumnTwice in
    let a : two.fault ≡ None = sym (taken_fault two (column_number columns w.name)) ∙ h in
    let b : one.fault ≡ None = noted_before one (is_taken j (column_number columns w.name)) w.at rule.ColumnTwice a in
    word_before columns j w (noted_before (word_judged columns j w) (is_key (column_in columns w.name)) w.at rule.KeySet b)

-- what is known of a column that is set
record TargetKept (columns : List Column) (j : Judged) (w : Named) : Type 0 where
  word : IsColumn columns w.name
  no_key : word.column.key ≡ false
  free : get_or j.taken word.number false ≡ false
  same : target_judged columns j w ≡ record j { taken = set j.taken word.number true }

target_kept : (columns : List Column) (j : Judged) (w : Named) → (target_judged columns j w).fault ≡ None → TargetKept columns j w
target_kept columns j w h =
    let zero' : Judged = word_judged columns j w in
    let one : Judged = noted zero' (is_key (column_in columns w.name)) w.at rule.KeySet in
    let two : Judged = noted one (is_taken j (column_number columns w.name)) w.at rule.ColumnTwice in
    let a = noted_clean one (is_taken j (column_number columns w.name)) w.at rule.ColumnTwice (sym (taken_fault two (column_number columns w.name)) ∙ h) in
    let b = noted_clean zero' (is_key (column_in columns w.name)) w.at rule.KeySet (noted_before one (is_taken j (column_number columns w.name)) w.at rule.ColumnTwice (sym (taken_fault two (column_number columns w.name)) ∙ h)) in
    let c = word_clean columns j w (noted_before zero' (is_key (column_in columns w.name)) w.at rule.KeySet (noted_before one (is_taken j (column_number columns w.name)) w.at rule.ColumnTwice (sym (taken_fault two (column_number columns w.name)) ∙ h))) in
    record {
      word = c.0;
      no_key = sym (ap is_key (column_found columns w.name c.0)) ∙ b.0;
      free = sym (ap (is_taken j) c.0.is) ∙ a.0;
      same = ap (λ (k : Judged). taken_by k (column_number columns w.name)) (a.1 ∙ b.1 ∙ c.1) ∙ ap (taken_by j) c.0.is;
    }

pub setting_before : (columns : List Column) (j : Judged) (s : Setting) → (setting_judged columns j s).fault ≡ None → j.fault ≡ None
setting_before columns j s h = target_before columns j s.column (value_before (target_judged columns j s.column) (kind_in columns s.column.name) s.value h)

value_taken : (j : Judged) (kind : Option Kind) (g : Given) → (value_judged j kind g).taken ≡ j.taken
value_taken j None g = refl
value_taken j (Some kind) g = by_written g.value
  where
    by_number : (n : ℕ) (b : Bool) → (cond b (met_by (noted j (is_other kind (kind_met j n)) g.at rule.ParameterKind) kind n) (noted j true g.at rule.ParameterGap)).taken ≡ j.taken
    by_number n true = refl
    by_number n false = refl

    by_written : (w : Written) → (written_judged j kind g.at w).taken ≡ j.taken
    by_written (written.Literal v) = refl
    by_written (written.Parameter n) = by_number n (is_numbered n)

-- what is known of settings
pub record SettingsKept (columns : List Column) (j result : Judged) (ss : List Setting) : Type 0 where
  pub kept : Kept j result (λ (n : ℕ). list_any (λ (a : Assignment). is_parameter n a.operand) (map (assignment_of columns) ss)) (λ (ks : List Kind). list_all (λ (a : Assignment). assignment_fits columns ks a) (map (assignment_of columns) ss) ≡ true)
  pub once : sets_each_once (map (assignment_of columns) ss) ≡ true
  pub apart : (c : ℕ) → get_or j.taken c false ≡ true → list_any (λ (other : Assignment). other.column == c) (map (assignment_of columns) ss) ≡ false

record SettingKept (columns : List Column) (j : Judged) (s : Setting) : Type 0 where
  target : TargetKept columns j s.column
  kept : Kept j (setting_judged columns j s) (λ (n : ℕ). is_parameter n (operand_of s.value.value)) (λ (ks : List Kind). assignment_fits columns ks (assignment_of columns s) ≡ true)
  taken : (setting_judged columns j s).taken ≡ set j.taken (number columns s.column) true

setting_kept : (columns : List Column) (j : Judged) (s : Setting) → length j.met ≡ 16 → (setting_judged columns j s).fault ≡ None → SettingKept columns j s
setting_kept columns j s size h =
    let start : Judged = target_judged columns j s.column in
    let t = target_kept columns j s.column (value_before start (kind_in columns s.column.name) s.value h) in
    let met : start.met ≡ j.met = ap (λ (x : Judged). x.met) t.same in
    let clean : start.fault ≡ j.fault = ap (λ (x : Judged). x.fault) t.same in
    let pair = pair_kept columns j start (setting_judged columns j s) s.column s.value t.word (ap length met ∙ size) refl h in
    let number' : number columns s.column ≡ t.word.number = number_found columns s.column t.word in
    let free : may_be_set (slice_get columns (number columns s.column)) ≡ true = rw (number_there columns s.column t.word) (ap not t.no_key) in
    record {
      target = t;
      kept = record {
        met = pair.met;
        taken = pair.taken;
        is = pair.is ∙ ap (λ (f : Option Refusal). record { met = pair.met; taken = pair.taken; fault = f }) clean;
        size = pair.size;
        grows = λ i k q. pair.grows i k (ap (λ (x : List (Option Kind)). get_or x i None) met ∙ q);
        from = λ i q. subst (λ (x : List (Option Kind)). (is_some (get_or x i None) || is_parameter (i + 1) (operand_of s.value.value)) ≡ true) met (pair.from i q);
        fit = λ last gap grow.
            and_from (may_be_set (slice_get columns (number columns s.column))) (fits_column (parameters last) (slice_get columns (number columns s.column)) (operand_of s.value.value)) free (pair.fit last gap grow);
      };
      taken = value_taken start (kind_in columns s.column.name) s.value ∙ ap (λ (x : Judged). x.taken) t.same ∙ ap (λ (c : ℕ). set j.taken c true) (sym number');
    }

pub settings_kept : (columns : List Column) (j : Judged) (ss : List Setting) → length j.met ≡ 16 → length j.taken ≡ length columns → (settings_judged columns j ss).fault ≡ None → SettingsKept columns j (settings_judged columns j ss) ss
settings_kept columns j [] size room h = record { kept = kept_none j (λ (ks : List Kind). true ≡ true) size (λ ks. refl); once = refl; apart = λ c e. refl }
settings_kept columns j (s ∷ ss) size room h =
    let middle : Judged = setting_judged columns j s in
    let result : Judged = settings_judged columns middle ss in
    let rest : List Assignment = map (assignment_of columns) ss in
    let S : ℕ → Bool = λ (n : ℕ). is_parameter n (operand_of s.value.value) in
    let T : ℕ → Bool = λ (n : ℕ). list_any (λ (a : Assignment). is_parameter n a.operand) rest in
    let F : List Kind → Type 0 = λ (ks : List Kind). assignment_fits columns ks (assignment_of columns s) ≡ true in
    let G : List Kind → Type 0 = λ (ks : List Kind). list_all (λ (a : Assignment). assignment_fits columns ks a) rest ≡ true in
    let one = setting_kept columns j s size (fold_before (setting_judged columns) (setting_before columns) ss middle h) in
    let c : ℕ = number columns s.column in
    let place : c ≡ one.target.word.number = number_found columns s.column one.target.word in
    let below : c < length columns = inside columns c one.target.word.column (number_there columns s.column one.target.word) in
    let free : get_or j.taken c false ≡ false = ap (λ (n : ℕ). get_or j.taken n false) place ∙ one.target.free in
    let room' : length middle.taken ≡ length columns = ap length one.taken ∙ length-set j.taken c true ∙ room in
    let more = settings_kept columns middle ss (kept_size j middle S F one.kept) room' h in
    let here : get_or middle.taken c false ≡ true = ap (λ (x : List Bool). get_or x c false) one.taken ∙ get_or-set_same j.taken c true false (omega arith) in
    let both = kept_two j middle result S T F G one.kept more.kept in
    record {
      kept = kept_like j result result (λ (n : ℕ). S n || T n) (λ (ks : List Kind). F ks × G ks)
          (λ (ks : List Kind). list_all (λ (a : Assignment). assignment_fits columns ks a) (map (assignment_of columns) (s ∷ ss)) ≡ true) refl
          (λ ks p. and_from (assignment_fits columns ks (assignment_of columns s)) (list_all (λ (a : Assignment). assignment_fits columns ks a) rest) p.0 p.1) both;
      once = and_from (not (list_any (λ (other : Assignment). other.column == c) rest)) (sets_each_once rest) (ap not (more.apart c here)) more.once;
      apart = λ d e.
          let other : d ≡ c → ⊥ = λ (q : d ≡ c). true≢false (sym e ∙ ap (λ (n : ℕ). get_or j.taken n false) q ∙ free) in
          let still : get_or middle.taken d false ≡ true = ap (λ (x : List Bool). get_or x d false) one.taken ∙ get_or-set_other j.taken c d true false other ∙ e in
          rw (ne_eqb c d (λ (q : c ≡ d). other (sym q)), more.apart d still) refl;
    }

-- the values of an INSERT

pub values_before : (columns : List Column) (i : ℕ) (j : Judged) (vs : List Given) → (values_judged columns i j vs).fault ≡ None → j.fault ≡ None
values_before columns i j [] h = h
values_before columns i j (v ∷ vs) h = value_before j (kind_at columns i) v (values_before columns (i + 1) (value_judged j (kind_at columns i) v) vs h)

pub values_kept : (columns : List Column) (i : ℕ) (cs : List Column) (j : Judged) (vs : List Given) → ((d : ℕ) → slice_get columns (i + d) ≡ slice_get cs d) → length vs ≡ length cs → length j.met ≡ 16 → (values_judged columns i j vs).fault ≡ None
    → Kept j (values_judged columns i j vs) (λ (n : ℕ). list_any (λ (o : Operand). is_parameter n o) (map (λ (g : Given). operand_of g.value) vs)) (λ (ks : List Kind). operands_fit cs ks (map (λ (g : Given). operand_of g.value) vs) ≡ true)
values_kept columns i [] j [] at many size h = kept_none j (λ (ks : List Kind). true ≡ true) size (λ ks. refl)
values_kept columns i [] j (v ∷ vs) at many size h = absurd (omega arith)
values_kept columns i (c ∷ cs) j [] at many size h = absurd (omega arith)
values_kept columns i (c ∷ cs) j (v ∷ vs) at many size h =
    let middle : Judged = value_judged j (kind_at columns i) v in
    let result : Judged = values_judged columns (i + 1) middle vs in
    let rest : List Operand = map (λ (g : Given). operand_of g.value) vs in
    let S : ℕ → Bool = λ (n : ℕ). is_parameter n (operand_of v.value) in
    let T : ℕ → Bool = λ (n : ℕ). list_any (λ (o : Operand). is_parameter n o) rest in
    let F : List Kind → Type 0 = λ (ks : List Kind). operand_fits ks c.kind (operand_of v.value) ≡ true in
    let G : List Kind → Type 0 = λ (ks : List Kind). operands_fit cs ks rest ≡ true in
    let kind : kind_at columns i ≡ Some c.kind = ap (option_map (λ (x : Column). x.kind)) (suffix_first columns i c cs at) in
    let same : middle ≡ written_judged j c.kind v.at v.value = ap (λ (k : Option Kind). value_judged j k v) kind in
    let clean : middle.fault ≡ None = values_before columns (i + 1) middle vs h in
    let one = kept_like j (written_judged j c.kind v.at v.value) middle S F F same (λ ks p. p) (written_kept j c.kind v.at v.value size (sym (ap (λ (x : Judged). x.fault) same) ∙ clean)) in
    let more = values_kept columns (i + 1) cs middle vs (suffix_more columns i c cs at) (omega arith) (kept_size j middle S F one) h in
    kept_like j result result (λ (n : ℕ). S n || T n) (λ (ks : List Kind). F ks × G ks) (λ (ks : List Kind). operands_fit (c ∷ cs) ks (map (λ (g : Given). operand_of g.value) (v ∷ vs)) ≡ true) refl
    (λ ks p. and_from (operand_fits ks c.kind (operand_of v.value)) (operands_fit cs ks rest) p.0 p.1) (kept_two j middle result S T F G one more)
