-- The lines of a summary, one after another.
use Rattle.std.proofs.Common.{◌≡◌, ◌∙◌, ℕ, suc, ◌+◌, ◌-◌, ◌<◌, ◌≤◌, List, ◌++◌, ap, sym, arith, append_assoc, append-nil}
use Rattle.std.specs.Prelude.{flat_map}
use Rattle.okws_plan.specs.Configuration.{numbered_from}
use Rattle.play_script.specs.Summary.{count_line}

-- the lines of the rules from this one on
abbrev pub lines_from : (ℕ → List ℕ) → ℕ → List ℕ
lines_from f rule = flat_map f (numbered_from rule (256 - rule))

rules_left : (f : ℕ → List ℕ) (rule : ℕ) → rule < 256 → lines_from f rule ≡ f rule ++ lines_from f (rule + 1)
rules_left f rule lt =
    let e : 256 - rule ≡ suc (256 - (rule + 1)) = omega (arith, lt) in
    ap (λ (n : ℕ). flat_map f (numbered_from rule n)) e

-- a rule more
pub rules_step : (f : ℕ → List ℕ) (rule : ℕ) (whole text now : List ℕ) → rule < 256 → whole ≡ text ++ lines_from f rule → now ≡ text ++ f rule → whole ≡ now ++ lines_from f (rule + 1)
rules_step f rule whole text now lt h e =
    h ∙ ap (λ (t : List ℕ). text ++ t) (rules_left f rule lt) ∙ sym (append_assoc text (f rule) (lines_from f (rule + 1))) ∙ ap (λ (t : List ℕ). t ++ lines_from f (rule + 1)) (sym e)

-- no rule is left
pub rules_done : (f : ℕ → List ℕ) (rule : ℕ) (whole text : List ℕ) → 256 ≤ rule → whole ≡ text ++ lines_from f rule → text ≡ whole
rules_done f rule whole text le h =
    let e : 256 - rule ≡ 0 = omega (arith, le) in
    sym (h ∙ ap (λ (n : ℕ). text ++ flat_map f (numbered_from rule n)) e ∙ append-nil text)

-- the first count
pub first_count : (old now name : List ℕ) (n m : ℕ) → now ≡ old ++ count_line name n → n ≡ m → now ≡ old ++ count_line name m
first_count old now name n m e f = e ∙ ap (λ (k : ℕ). old ++ count_line name k) f

-- a count more
pub next_count : (old before now counts name : List ℕ) (n m : ℕ) → before ≡ old ++ counts → now ≡ before ++ count_line name n → n ≡ m → now ≡ old ++ (counts ++ count_line name m)
next_count old before now counts name n m e f g =
    f ∙ ap (λ (t : List ℕ). t ++ count_line name n) e ∙ append_assoc old counts (count_line name n) ∙ ap (λ (k : ℕ). old ++ (counts ++ count_line name k)) g
