-- What a tally counts.
use Rattle.std.proofs.Common.{◌≡◌, ◌∙◌, ◌≢◌, ℕ, zero, suc, ◌+◌, ◌-◌, ◌^◌, ◌<◌, ◌≤◌, min, Bool, true, false, cond, List, [], ◌∷◌, ◌++◌, length, refl, sym, ap, arith}
use Rattle.std.specs.Prelude.{if◌then◌else◌, ◌==◌, count_by, flat_map, fold, replicate, slice_index_or}
use Rattle.std.specs.List.{list_all}
use Rattle.std.proofs.lemmas.Grind.{common_steps}
use Rattle.std.proofs.lemmas.List.Sums.{sum_by-cons}
use Rattle.okws_base.specs.Names.{is_name}
use Rattle.okws_plan.specs.Configuration.{numbered_from}
use Rattle.okws_plan.specs.Lines.{service_names}
use Rattle.okws_plan.specs.declared.configuration.Config.{Config}
use Rattle.frame_codec.specs.declared.frame.ServerFrame.{ServerFrame}
use Rattle.frame_codec.specs.declared.frame.ServerFrame.TheVariants as frame
use Rattle.monitor_model.specs.Told.{Told, told_text}
use Rattle.play_script.specs.Summary.{kind_of, of_this_kind, by_this_rule, is_denied_by, kind_lines, rule_lines, denied_line, summary_of, summary, kinds_of, rules_of, frames_in}
use Rattle.play_script.specs.Tally.{Tallied, counted, no_tally, tally_of, tick}
use Rattle.play_script.proofs.Telling.{kinds_with, rules_with, marked, lines_read}

ticked_at : (counts : List ℕ) (j k : ℕ) → k < length counts → slice_index_or (tick counts j) k 0 ≡ (if j == k then counted (slice_index_or counts k 0) else slice_index_or counts k 0)
ticked_at counts j k h = grind (arith, common_steps)

length_ticked : (counts : List ℕ) (j : ℕ) → length (tick counts j) ≡ length counts
length_ticked counts j = grind (arith, common_steps)

-- the greatest count that is kept
abbrev pub MOST : ℕ
MOST = 2 ^ 64 - 1

count_more : (p : ServerFrame → Bool) (f : ServerFrame) (more : List ServerFrame) → count_by p (f ∷ more) ≡ cond (p f) 1 0 + count_by p more
count_more p f more = sum_by-cons (λ (x : ServerFrame). cond (p x) 1 0) f more

-- one more or not, and then the others
numbers : (b : Bool) (x c : ℕ) → x ≤ MOST → min ((if b then counted x else x) + c) MOST ≡ min (x + (cond b 1 0 + c)) MOST
numbers true x c h = omega arith
numbers false x c h = omega arith

still_kept : (b : Bool) (x : ℕ) → x ≤ MOST → (if b then counted x else x) ≤ MOST
still_kept true x h = omega arith
still_kept false x h = h

-- ---- by kind

abbrev pub is_kind : ℕ → ServerFrame → Bool
is_kind k f = kind_of f == k

kind_at : (j : ℕ) (kinds : List ℕ) (k : ℕ) → k < length kinds → k ≢ 9 →
    slice_index_or (if j == 9 then kinds else tick kinds j) k 0 ≡ (if j == k then counted (slice_index_or kinds k 0) else slice_index_or kinds k 0)
kind_at j kinds k h other = grind (arith, common_steps, ticked_at)

length_if : (b : Bool) (kinds : List ℕ) (j : ℕ) → length (if b then kinds else tick kinds j) ≡ length kinds
length_if true kinds j = refl
length_if false kinds j = length_ticked kinds j

kind_counts : (frames : List ServerFrame) (T : Tallied) (k : ℕ) → k < length T.kinds → k ≢ 9 → slice_index_or T.kinds k 0 ≤ MOST →
    slice_index_or (fold marked T frames).kinds k 0 ≡ min (slice_index_or T.kinds k 0 + count_by (is_kind k) frames) MOST
kind_counts [] T k inside other h = omega (arith, h)
kind_counts (f ∷ more) T k inside other h =
    let now : slice_index_or (kinds_with f T.kinds) k 0 ≡ (if kind_of f == k then counted (slice_index_or T.kinds k 0) else slice_index_or T.kinds k 0) = kind_at (kind_of f) T.kinds k inside other in
    let within : k < length (kinds_with f T.kinds) = rw (length_if (kind_of f == 9) T.kinds (kind_of f)) inside in
    let kept : slice_index_or (kinds_with f T.kinds) k 0 ≤ MOST = rw now (still_kept (kind_of f == k) (slice_index_or T.kinds k 0) h) in
    kind_counts more (marked T f) k within other kept ∙ ap (λ (n : ℕ). min (n + count_by (is_kind k) more) MOST) now
    ∙ numbers (kind_of f == k) (slice_index_or T.kinds k 0) (count_by (is_kind k) more) h
    ∙ ap (λ (n : ℕ). min (slice_index_or T.kinds k 0 + n) MOST) (sym (count_more (is_kind k) f more))

-- ---- by rule

rule_at : (f : ServerFrame) (rules : List ℕ) (k : ℕ) → k < length rules →
    slice_index_or (rules_with f rules) k 0 ≡ (if is_denied_by k f then counted (slice_index_or rules k 0) else slice_index_or rules k 0)
rule_at (frame.Denied rule) rules k h = ticked_at rules rule k h
rule_at _ rules k h = refl

length_rules : (f : ServerFrame) (rules : List ℕ) → length (rules_with f rules) ≡ length rules
length_rules (frame.Denied rule) rules = length_ticked rules rule
length_rules _ rules = refl

rule_counts : (frames : List ServerFrame) (T : Tallied) (k : ℕ) → k < length T.rules → slice_index_or T.rules k 0 ≤ MOST →
    slice_index_or (fold marked T frames).rules k 0 ≡ min (slice_index_or T.rules k 0 + count_by (is_denied_by k) frames) MOST
rule_counts [] T k inside h = omega (arith, h)
rule_counts (f ∷ more) T k inside h =
    let now : slice_index_or (rules_with f T.rules) k 0 ≡ (if is_denied_by k f then counted (slice_index_or T.rules k 0) else slice_index_or T.rules k 0) = rule_at f T.rules k inside in
    let within : k < length (rules_with f T.rules) = rw (length_rules f T.rules) inside in
    let kept : slice_index_or (rules_with f T.rules) k 0 ≤ MOST = rw now (still_kept (is_denied_by k f) (slice_index_or T.rules k 0) h) in
    rule_counts more (marked T f) k within kept ∙ ap (λ (n : ℕ). min (n + count_by (is_denied_by k) more) MOST) now
    ∙ numbers (is_denied_by k f) (slice_index_or T.rules k 0) (count_by (is_denied_by k) more) h
    ∙ ap (λ (n : ℕ). min (slice_index_or T.rules k 0 + n) MOST) (sym (count_more (is_denied_by k) f more))

-- ---- the summary

zeros_of : (n k : ℕ) → ◌≡◌ {A = ℕ} (slice_index_or (replicate n 0) k 0) 0
zeros_of zero k = refl
zeros_of (suc n) zero = refl
zeros_of (suc n) (suc k) = zeros_of n k

zeros : (k : ℕ) → ◌≡◌ {A = ℕ} (slice_index_or (replicate 256 0) k 0) 0
zeros k = zeros_of 256 k

from_zero : (x c : ℕ) → x ≡ 0 → min (x + c) MOST ≡ min c MOST
from_zero x c e =
    let same : x + c ≡ c = omega (arith, e) in
    ap (λ (n : ℕ). min n MOST) same

kind_lines_same : (a b : ℕ → ℕ) → ((k : ℕ) → k < 256 → k ≢ 9 → a k ≡ b k) → kind_lines a ≡ kind_lines b
kind_lines_same a b h =
    rw (
      h 1 (omega arith) (λ e. omega (arith, e)),
      h 2 (omega arith) (λ e. omega (arith, e)),
      h 3 (omega arith) (λ e. omega (arith, e)),
      h 4 (omega arith) (λ e. omega (arith, e)),
      h 5 (omega arith) (λ e. omega (arith, e)),
      h 6 (omega arith) (λ e. omega (arith, e)),
      h 12 (omega arith) (λ e. omega (arith, e)),
      h 7 (omega arith) (λ e. omega (arith, e)),
      h 8 (omega arith) (λ e. omega (arith, e)),
      h 10 (omega arith) (λ e. omega (arith, e)),
      h 11 (omega arith) (λ e. omega (arith, e)),
    ) refl

line_same : (a b : ℕ → ℕ) (k : ℕ) → a k ≡ b k → denied_line a k ≡ denied_line b k
line_same a b k e = rw e refl

lines_same : (a b : ℕ → ℕ) (n i : ℕ) → ((k : ℕ) → k < i + n → a k ≡ b k) → flat_map (denied_line a) (numbered_from i n) ≡ flat_map (denied_line b) (numbered_from i n)
lines_same a b zero i h = refl
lines_same a b (suc n) i h =
    ap (λ (t : List ℕ). t ++ flat_map (denied_line a) (numbered_from (i + 1) n)) (line_same a b i (h i (omega arith)))
    ∙ ap (λ (t : List ℕ). denied_line b i ++ t) (lines_same a b n (i + 1) (λ k lt. h k (omega (arith, lt))))

summaries_same : (a b c d : ℕ → ℕ) → ((k : ℕ) → k < 256 → k ≢ 9 → a k ≡ b k) → ((k : ℕ) → k < 256 → c k ≡ d k) → summary_of a c ≡ summary_of b d
summaries_same a b c d h k =
    ap (λ (t : List ℕ). t ++ rule_lines c) (kind_lines_same a b h) ∙ ap (λ (t : List ℕ). kind_lines b ++ t) (lines_same c d 256 0 (λ n lt. k n (omega (arith, lt))))

of_marks : (frames : List ServerFrame) → summary_of (kinds_of (fold marked no_tally frames)) (rules_of (fold marked no_tally frames)) ≡ summary frames
of_marks frames =
    summaries_same (kinds_of (fold marked no_tally frames)) (of_this_kind frames) (rules_of (fold marked no_tally frames)) (by_this_rule frames)
    (λ k lt other. kind_counts frames no_tally k lt other (rw (zeros k) (omega arith)) ∙ from_zero (slice_index_or (replicate 256 0) k 0) (count_by (is_kind k) frames) (zeros k))
    (λ k lt. rule_counts frames no_tally k lt (rw (zeros k) (omega arith)) ∙ from_zero (slice_index_or (replicate 256 0) k 0) (count_by (is_denied_by k) frames) (zeros k))

-- what a tally of the lines of a run says is the summary of the frames that they tell of
pub tally_counts : (C : Config) (lines : List Told) → list_all is_name (service_names C) ≡ true →
    summary_of (kinds_of (tally_of (told_text C lines))) (rules_of (tally_of (told_text C lines))) ≡ summary (frames_in lines)
tally_counts C lines names =
    ap (λ (T : Tallied). summary_of (kinds_of T) (rules_of T)) (lines_read C lines no_tally names) ∙ of_marks (frames_in lines)
