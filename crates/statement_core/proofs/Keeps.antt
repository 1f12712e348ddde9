-- A statement that a form is, where no rule is broken, keeps the rules.
use Rattle.std.proofs.Common.{◌≡◌, ℕ, suc, zero, ◌-◌, ◌+◌, ◌≤◌, ◌<◌, Bool, true, false, not, ◌||◌, cond, List, [], ◌∷◌, map, fold, get_or, set, Option, Some, None, option_and_then, is_some, is_none, refl, sym, ap, subst, ◌∙◌, ⊎_elim, arith, length}
use Rattle.std.specs.Prelude.{nat_le, nat_lt, ◌==◌, slice_get}
use Rattle.std.specs.List.{list_all, list_any, position_or_len}
use Rattle.std.proofs.Math.Bool.{or_assoc}
use Rattle.std.proofs.lemmas.Bool.{false≢true, true≢false, and_parts, lt-ltb, ltb-true, leb-true, eq-eqb, cases_eq, not-false}
use Rattle.std.proofs.lemmas.List.{get_or-set_other, get_or-set_same, length-set}
use Rattle.okws_base.specs.Value.{same_bytes, same_kind, kind_of}
use Rattle.okws_base.specs.declared.value.Kind.{Kind}
use Rattle.okws_plan.specs.Rules.{operand_fits, is_column, is_parameter}
use Rattle.okws_plan.specs.declared.configuration.Column.{Column}
use Rattle.okws_plan.specs.declared.statement.Operand.TheVariants as operand
use Rattle.query_syntax.specs.declared.error.Refusal.{Refusal}
use Rattle.query_syntax.specs.declared.error.TextRule.{TextRule}
use Rattle.query_syntax.specs.declared.error.TextRule.TheVariants as rule
use Rattle.query_syntax.specs.declared.syntax.Named.{Named}
use Rattle.query_syntax.specs.declared.syntax.Written.{Written}
use Rattle.query_syntax.specs.declared.syntax.Written.TheVariants as written
use Rattle.query_syntax.specs.declared.syntax.Given.{Given}
use Rattle.statement_core.specs.Resolving.{Judged, earlier, earlier_of, noted, short, column_number, column_in, kind_in, word_judged, words_judged, is_numbered, is_other, first_kind, kind_met, met_by, parameter_judged, written_judged, value_judged, has_gap, parameters, or_zero, number, operand_of}
use Rattle.statement_core.proofs.Judged.{kinds_same, kind_itself}

-- a broken rule stays noted

pub earlier_some : (o : Option Refusal) (f : Refusal) → earlier o f ≡ None → ⊥
earlier_some None f h = let some : Some f ≡ None = h in cc
earlier_some (Some b) f h = let some : Some (earlier_of b f) ≡ None = h in cc

pub noted_clean : (j : Judged) (b : Bool) (at : ℕ) (r : TextRule) → (noted j b at r).fault ≡ None → (b ≡ false) × (noted j b at r ≡ j)
noted_clean j true at r h = absurd (earlier_some j.fault (record { at = at; rule = r }) h)
noted_clean j false at r h = (refl, refl)

pub noted_before : (j : Judged) (b : Bool) (at : ℕ) (r : TextRule) → (noted j b at r).fault ≡ None → j.fault ≡ None
noted_before j b at r h = sym (ap (λ (k : Judged). k.fault) (noted_clean j b at r h).1) ∙ h

pub fold_before : {A : Type 0} (f : Judged → A → Judged) → ((j : Judged) (a : A) → (f j a).fault ≡ None → j.fault ≡ None) → (xs : List A) (j : Judged) → (fold f j xs).fault ≡ None → j.fault ≡ None
fold_before f h [] j e = e
fold_before f h (x ∷ more) j e = h j x (fold_before f h more (f j x) e)

-- words

pub there : {A : Type 0} (xs : List A) (i : ℕ) → i < length xs → (x : A) × (slice_get xs i ≡ Some x)
there [] i h = absurd (omega arith)
there (x ∷ more) zero h = (x, refl)
there (x ∷ more) (suc i) h = there more i (omega arith)

short_is : (q c : ℕ) → short q ≡ Some c → q ≡ c
short_is q c h = by_test (nat_lt q 256) h
  where
    by_test : (b : Bool) → cond b (Some q) None ≡ Some c → q ≡ c
    by_test true h = cc
    by_test false h = absurd (let none : None ≡ Some c = h in cc)

pub found_inside : (q n c : ℕ) → option_and_then short (cond (nat_lt q n) (Some q) None) ≡ Some c → c < n
found_inside q n c h = by_test (nat_lt q n) refl h
  where
    by_test : (b : Bool) → nat_lt q n ≡ b → option_and_then short (cond b (Some q) None) ≡ Some c → c < n
    by_test true e h = let same : q ≡ c = short_is q c h in let below : q < n = ltb-true q n e in omega arith
    by_test false e h = absurd (let none : None ≡ Some c = h in cc)

-- a name that stands for a column
pub record IsColumn (columns : List Column) (name : List ℕ) : Type 0 where
  pub number : ℕ
  pub column : Column
  pub is : column_number columns name ≡ Some number
  pub there : slice_get columns number ≡ Some column

named_column : (columns : List Column) (name : List ℕ) → is_none (column_number columns name) ≡ false → IsColumn columns name
named_column columns name h = by_number (column_number columns name) refl h
  where
    by_number : (o : Option ℕ) → column_number columns name ≡ o → is_none o ≡ false → IsColumn columns name
    by_number None e h = absurd (true≢false h)
    by_number (Some c) e h =
        let found = there columns c (found_inside (position_or_len (λ (x : Column). same_bytes x.name name) columns) (length columns) c e) in
        record { number = c; column = found.0; is = e; there = found.1 }

pub word_clean : (columns : List Column) (j : Judged) (w : Named) → (word_judged columns j w).fault ≡ None → IsColumn columns w.name × (word_judged columns j w ≡ j)
word_clean columns j w h =
    let both = noted_clean j (is_none (column_number columns w.name)) w.at rule.NoSuchColumn h in
    (named_column columns w.name both.0, both.1)

pub word_before : (columns : List Column) (j : Judged) (w : Named) → (word_judged columns j w).fault ≡ None → j.fault ≡ None
word_before columns j w h = noted_before j (is_none (column_number columns w.name)) w.at rule.NoSuchColumn h

pub column_found : (columns : List Column) (name : List ℕ) (c : IsColumn columns name) → column_in columns name ≡ Some c.column
column_found columns name c = rw (c.is, c.there) refl

pub kind_found : (columns : List Column) (name : List ℕ) (c : IsColumn columns name) → kind_in columns name ≡ Some c.column.kind
kind_found columns name c = rw (c.is, c.there) refl

pub number_found : (columns : List Column) (w : Named) (c : IsColumn columns w.name) → number columns w ≡ c.number
number_found columns w c = rw c.is refl

-- a word's number is that of a column
pub number_there : (columns : List Column) (w : Named) (c : IsColumn columns w.name) → slice_get columns (number columns w) ≡ Some c.column
number_there columns w c = rw (number_found columns w c) c.there

pub inside : {A : Type 0} (xs : List A) (i : ℕ) (x : A) → slice_get xs i ≡ Some x → i < length xs
inside [] i x e = absurd (let none : None ≡ Some x = e in cc)
inside (y ∷ more) zero x e = omega arith
inside (y ∷ more) (suc i) x e = let below = inside more i x e in omega arith

pub number_is_column : (columns : List Column) (w : Named) (c : IsColumn columns w.name) → is_column columns (number columns w) ≡ true
number_is_column columns w c = lt-ltb (number columns w) (length columns) (inside columns (number columns w) c.column (number_there columns w c))

pub words_clean : (columns : List Column) (j : Judged) (ws : List Named) → (words_judged columns j ws).fault ≡ None → (words_judged columns j ws ≡ j) × (list_all (λ (c : ℕ). is_column columns c) (map (number columns) ws) ≡ true)
words_clean columns j [] h = (refl, refl)
words_clean columns j (w ∷ ws) h =
    let first : (word_judged columns j w).fault ≡ None = fold_before (word_judged columns) (word_before columns) ws (word_judged columns j w) h in
    let one = word_clean columns j w first in
    let more = words_clean columns (word_judged columns j w) ws h in
    (more.0 ∙ one.1, rw (number_is_column columns w one.0, more.1) refl)

-- what parameters have met

-- what was met before is met after
abbrev pub Grows : List (Option Kind) → List (Option Kind) → Type 0
Grows old new = (i : ℕ) (k : Kind) → get_or old i None ≡ Some k → get_or new i None ≡ Some k

-- what is met after was met before, or a parameter of this number stands between
abbrev pub ComesFrom : List (Option Kind) → List (Option Kind) → (ℕ → Bool) → Type 0
ComesFrom old new stands = (i : ℕ) → is_some (get_or new i None) ≡ true → (is_some (get_or old i None) || stands (i + 1)) ≡ true

-- what is known of a judgement without a fault
pub record Kept (j result : Judged) (stands : ℕ → Bool) (Fits : List Kind → Type 0) : Type 0 where
  pub met : List (Option Kind)
  pub taken : List Bool
  pub is : result ≡ record { met = met; taken = taken; fault = j.fault }
  pub size : length met ≡ 16
  pub grows : Grows j.met met
  pub from : ComesFrom j.met met stands
  pub fit : (last : List (Option Kind)) → has_gap last ≡ false → Grows met last → Fits (parameters last)

or_left_true : (a b : Bool) → a ≡ true → (a || b) ≡ true
or_left_true true b h = refl
or_left_true false b h = absurd (false≢true h)

or_right_true : (a b : Bool) → b ≡ true → (a || b) ≡ true
or_right_true true b h = refl
or_right_true false b h = h

or_none : (b : Bool) → (b || false) ≡ b
or_none true = refl
or_none false = refl

pub from_two : (a b c : List (Option Kind)) (S T : ℕ → Bool) → ComesFrom a b S → ComesFrom b c T → ComesFrom a c (λ (n : ℕ). S n || T n)
from_two a b c S T h k i e = by_middle (is_some (get_or b i None)) refl
  where
    by_middle : (o : Bool) → is_some (get_or b i None) ≡ o → (is_some (get_or a i None) || (S (i + 1) || T (i + 1))) ≡ true
    by_middle true e' = sym (or_assoc (is_some (get_or a i None)) (S (i + 1)) (T (i + 1))) ∙ or_left_true (is_some (get_or a i None) || S (i + 1)) (T (i + 1)) (h i e')
    by_middle false e' =
        let late : T (i + 1) ≡ true = subst (λ (o : Bool). (o || T (i + 1)) ≡ true) e' (k i e) in
        or_right_true (is_some (get_or a i None)) (S (i + 1) || T (i + 1)) (or_right_true (S (i + 1)) (T (i + 1)) late)

-- without a gap the parameters' kinds are what was met

nothing_met : (met : List (Option Kind)) → list_any (λ (o : Option Kind). is_some o) met ≡ false → (i : ℕ) → get_or met i None ≡ None
nothing_met [] h i = refl
nothing_met (None ∷ more) h zero = refl
nothing_met (None ∷ more) h (suc i) = nothing_met more h i
nothing_met (Some k ∷ more) h i = absurd (true≢false h)

pub kinds_met : (met : List (Option Kind)) → has_gap met ≡ false → (i : ℕ) → slice_get (parameters met) i ≡ get_or met i None
kinds_met [] h i = refl
kinds_met (None ∷ more) h zero = refl
kinds_met (None ∷ more) h (suc i) = sym (nothing_met more h i)
kinds_met (Some k ∷ more) h zero = refl
kinds_met (Some k ∷ more) h (suc i) = kinds_met more h i

pub few_kinds : (met : List (Option Kind)) → length (parameters met) ≤ length met
few_kinds [] = omega arith
few_kinds (None ∷ more) = omega arith
few_kinds (Some k ∷ more) = let ih = few_kinds more in omega arith

-- values

pub value_before : (j : Judged) (kind : Option Kind) (g : Given) → (value_judged j kind g).fault ≡ None → j.fault ≡ None
value_before j None g h = h
value_before j (Some kind) g h = by_written g.value h
  where
    by_number : (n : ℕ) (b : Bool) → (cond b (met_by (noted j (is_other kind (kind_met j n)) g.at rule.ParameterKind) kind n) (noted j true g.at rule.ParameterGap)).fault ≡ None → j.fault ≡ None
    by_number n true h = noted_before j (is_other kind (kind_met j n)) g.at rule.ParameterKind h
    by_number n false h = noted_before j true g.at rule.ParameterGap h

    by_written : (w : Written) → (written_judged j kind g.at w).fault ≡ None → j.fault ≡ None
    by_written (written.Literal v) h = noted_before j (not (same_kind (kind_of v) kind)) g.at rule.KindMismatch h
    by_written (written.Parameter n) h = by_number n (is_numbered n) h

-- a parameter meets its kind, or none
met_or_none : (kind : Kind) (o : Option Kind) → is_other kind o ≡ false → (first_kind kind o ≡ Some kind) × ((k : Kind) → o ≡ Some k → k ≡ kind)
met_or_none kind None h = (refl, λ k e. absurd (let none : None ≡ Some k = e in cc))
met_or_none kind (Some first) h =
    let same : first ≡ kind = kinds_same first kind (not-false (same_kind first kind) h) in
    (ap (λ (k : Kind). Some k) same, λ k e. let here : first ≡ k = cc in sym here ∙ same)

parameter_kept : (j : Judged) (kind : Kind) (at n : ℕ) → length j.met ≡ 16 → (parameter_judged j kind at n).fault ≡ None
    → Kept j (parameter_judged j kind at n) (λ (m : ℕ). n == m) (λ (ks : List Kind). (operand_fits ks kind (operand.Parameter n) ≡ true) × (n ≤ 16))
parameter_kept j kind at n size h = by_number (is_numbered n) refl h
  where
    by_number : (b : Bool) → is_numbered n ≡ b → (cond b (met_by (noted j (is_other kind (kind_met j n)) at rule.ParameterKind) kind n) (noted j true at rule.ParameterGap)).fault ≡ None
        → Kept j (parameter_judged j kind at n) (λ (m : ℕ). n == m) (λ (ks : List Kind). (operand_fits ks kind (operand.Parameter n) ≡ true) × (n ≤ 16))
    by_number false e h = absurd (true≢false (noted_clean j true at rule.ParameterGap h).0)
    by_number true e h =
        let ends = and_parts (nat_le 1 n) (nat_le n 16) e in
        let low : 1 ≤ n = leb-true 1 n ends.0 in
        let high : n ≤ 16 = leb-true n 16 ends.1 in
        let clean = noted_clean j (is_other kind (kind_met j n)) at rule.ParameterKind h in
        let met = met_or_none kind (get_or j.met (n - 1) None) clean.0 in
        let now : List (Option Kind) = set j.met (n - 1) (Some kind) in
        let here : get_or now (n - 1) None ≡ Some kind = get_or-set_same j.met (n - 1) (Some kind) None (omega arith) in
        record {
          met = now;
          taken = j.taken;
          is = rw (e, clean.0, met.0) refl;
          size = length-set j.met (n - 1) (Some kind) ∙ size;
          grows = λ i k q. ⊎_elim
              (λ (s : i ≡ n - 1). rw s (here ∙ sym (ap (λ (x : Kind). Some x) (met.1 k (sym (ap (λ (x : ℕ). get_or j.met x None) s) ∙ q)))))
              (λ (s : i ≡ n - 1 → ⊥). get_or-set_other j.met (n - 1) i (Some kind) None s ∙ q) (cases_eq i (n - 1));
          from = λ i q. ⊎_elim
              (λ (s : i ≡ n - 1). or_right_true (is_some (get_or j.met i None)) (n == (i + 1)) (eq-eqb n (i + 1) (omega arith)))
              (λ (s : i ≡ n - 1 → ⊥). or_left_true (is_some (get_or j.met i None)) (n == (i + 1)) (sym (ap (λ (o : Option Kind). is_some o) (get_or-set_other j.met (n - 1) i (Some kind) None s)) ∙ q)) (cases_eq i (n - 1));
          fit = λ last gap grow.
              let there : slice_get (parameters last) (n - 1) ≡ Some kind = kinds_met last gap (n - 1) ∙ grow (n - 1) kind here in
              (rw (ends.0, there, kind_itself kind) refl, high);
        }

pub nothing_between : (old : List (Option Kind)) → ComesFrom old old (λ (n : ℕ). false)
nothing_between old i h = or_left_true (is_some (get_or old i None)) false h

operand_small : (n : ℕ) → n ≤ 16 → or_zero (short n) ≡ n
operand_small n h = rw (lt-ltb n 256 (omega arith)) refl

pub written_kept : (j : Judged) (kind : Kind) (at : ℕ) (w : Written) → length j.met ≡ 16 → (written_judged j kind at w).fault ≡ None
    → Kept j (written_judged j kind at w) (λ (m : ℕ). is_parameter m (operand_of w)) (λ (ks : List Kind). operand_fits ks kind (operand_of w) ≡ true)
written_kept j kind at (written.Literal v) size h =
    let clean = noted_clean j (not (same_kind (kind_of v) kind)) at rule.KindMismatch h in
    let fits : same_kind (kind_of v) kind ≡ true = not-false (same_kind (kind_of v) kind) clean.0 in
    record { met = j.met; taken = j.taken; is = clean.1; size = size; grows = λ i k q. q; from = nothing_between j.met; fit = λ last gap grow. fits }
written_kept j kind at (written.Parameter n) size h =
    let kept = parameter_kept j kind at n size h in
    let numbered : n ≤ 16 = numbered_low n (is_numbered n) refl h in
    let same : or_zero (short n) ≡ n = operand_small n numbered in
    record {
      met = kept.met;
      taken = kept.taken;
      is = kept.is;
      size = kept.size;
      grows = kept.grows;
      from = λ i q. rw same (kept.from i q);
      fit = λ last gap grow. rw same ((kept.fit last gap grow).0);
    }
  where
    numbered_low : (n : ℕ) (b : Bool) → is_numbered n ≡ b → (cond b (met_by (noted j (is_other kind (kind_met j n)) at rule.ParameterKind) kind n) (noted j true at rule.ParameterGap)).fault ≡ None → n ≤ 16
    numbered_low n true e h = leb-true n 16 (and_parts (nat_le 1 n) (nat_le n 16) e).1
    numbered_low n false e h = absurd (true≢false (noted_clean j true at rule.ParameterGap h).0)
