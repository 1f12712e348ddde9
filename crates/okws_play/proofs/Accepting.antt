use Rattle.std.proofs.Common.{◌≡◌, ℕ, ◌+◌, ◌*◌, ◌<◌, ◌≤◌, Bool, true, false, ◌&&◌, ◌==◌, nat_lt, List, [], ◌∷◌, ◌++◌, Option, Some, None, option_map, IfSome, length, fold, refl, arith, length-append}
use Rattle.std.specs.Prelude.{if◌then◌else◌, codes, decimal}
use Rattle.std.proofs.lemmas.Fmt.{length-decimal-le}
use Rattle.okws_base.specs.Runs.{Each}
use Rattle.okws_base.specs.declared.limit.TheConstants.{LONGEST_CONTENT, LONGEST_PATH}
use Rattle.okws_plan.specs.declared.configuration.Config.{Config}
use Rattle.okws_plan.specs.declared.script.Method.{Method}
use Rattle.okws_plan.specs.declared.script.Method.TheVariants.{Get, Head, Post}
use Rattle.monitor_model.specs.Script.{goes_of, way_text}
use Rattle.monitor_model.specs.Stage.{Asked, method_text, length_line, request_head}
use Rattle.monitor_model.specs.declared.verdict.Way.{Way}
use Rattle.okws_play.specs.Cells.{FitsRequest}

method_short : (m : Method) → length (method_text m) ≤ 4
method_short Get = omega arith
method_short Head = omega arith
method_short Post = omega arith

line_short : (content : List ℕ) → length content ≤ LONGEST_CONTENT → length (length_line content) ≤ 24
line_short [] h = omega arith
line_short (b ∷ more) h =
    let n = length (b ∷ more) in
    let digits : length (decimal (length (b ∷ more))) ≤ 6 = length-decimal-le 6 (length (b ∷ more)) (omega arith) (omega (arith, h)) (omega (arith, h)) in
    omega (arith, digits, length-append (codes "Content-Length: ") (decimal (length (b ∷ more))), length-append (codes "Content-Length: " ++ decimal (length (b ∷ more))) (13 ∷ 10 ∷ []))

head_short : (m : Method) (target content : List ℕ) → length target ≤ 2 * LONGEST_PATH + 1 → length content ≤ LONGEST_CONTENT → length (request_head m target content) ≤ 2200
unfolding request_head
head_short m target content h k = simp (length-append {A = ℕ}) (omega (arith, method_short m, line_short content k, h))

-- the request of a short target and content fits
pub request_fits : (C : Config) (m : Method) (target content : List ℕ) (goes : Option (ℕ × ℕ)) (b : Bool) → length target ≤ 2 * LONGEST_PATH + 1 → length content ≤ LONGEST_CONTENT
    → IfSome goes (λ (at : ℕ × ℕ). (at.0 < length C.services) × (0 < at.1))
    → FitsRequest C (record { method = m; head = request_head m target content; content = content; goes = goes; has_begun = b })
request_fits C m target content goes b h k g = record { short = omega (arith, head_short m target content h k, k); goes = g }

-- the path of a target that is one
pub path_is : (b : Bool) (x y : List ℕ) → Some x ≡ (if b then Some y else None) → x ≡ y
path_is true x y e = cc
path_is false x y e = absurd (cc)

pub asked_fits : (C D : Config) (m : Method) (target content : List ℕ) (way : Way) (r : Asked) → D ≡ C
    → r ≡ record { method = m; head = request_head m target content; content = content; goes = goes_of way; has_begun = false }
    → length target ≤ 2 * LONGEST_PATH + 1 → length content ≤ LONGEST_CONTENT → IfSome (goes_of way) (λ (at : ℕ × ℕ). (at.0 < length C.services) × (0 < at.1)) → FitsRequest D r
asked_fits C D m target content way r e is h k g = rw (is, e) (request_fits C m target content (goes_of way) false h k g)

pub way_same : (n i : ℕ) (w v : Way) (x y : List ℕ) → n ≡ i → w ≡ v → x ≡ y → way_text n w x ≡ way_text i v y
way_same n i w v x y e f g = rw (e, f, g) refl
