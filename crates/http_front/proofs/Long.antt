-- Bytes that are too long for a head stay so, and never become one.
use Rattle.std.proofs.Common.{◌≡◌, ◌≤◌, ◌<◌, ℕ, ◌+◌, ◌-◌, Bool, true, false, List, [], ◌∷◌, ◌++◌, length, get_or, take, drop, refl, sym, ap, ◌∙◌, subst, arith, inl, inr, append_assoc, append-nil, length-append}
use Rattle.std.specs.Prelude.{◌⊎◌, ◌==◌, nat_le, if◌then◌else◌, All}
use Rattle.std.specs.List.{flat_map}
use Rattle.std.proofs.Math.Seq.{take-append_seam, take-append-add}
use Rattle.std.proofs.lemmas.List.{take-append-le, take-append-drop}
use Rattle.std.proofs.lemmas.Bool.Decides.{nat_tests}
use Rattle.std.proofs.lemmas.Grind.{common_steps}
use Rattle.std.proofs.lemmas.List.Elements.{All-head, All-tail}
use Rattle.okws_base.specs.declared.limit.TheConstants.{LONGEST_HEAD, MOST_FIELDS}
use Rattle.httparse.specs.Grammar.{LineEnd, lf, crlf, print_end, print_blank, print_version, Field, IsField, print_field, print_section, RequestHead, IsRequestHead, print_request, IsToken, AllPass, is_token_byte, is_uri_byte, is_value_byte}
use Rattle.httparse.specs.Spans.{RequestExceeds}
use Rattle.httparse.proofs.GrammarLemmas.{print_request-append}
use Rattle.http_text.specs.Reading.{ends_line, after_blanks, has_line_after, is_too_long, most_lines, IsWholeHead, HasNoWholeHead}
use Rattle.http_front.proofs.Steps.{plain_token, plain_uri, plain_value}

-- ---- more bytes

lines_longer : (n : ℕ) (xs ys : List ℕ) → has_line_after n xs ≡ true → has_line_after n (xs ++ ys) ≡ true
lines_longer n [] ys e = absurd (cc)
lines_longer n (b ∷ xs) ys e = pass (n == 0) refl (λ m. lines_longer m xs ys)
  where
    pass : (v : Bool) → (n == 0) ≡ v → ((m : ℕ) → has_line_after m xs ≡ true → has_line_after m (xs ++ ys) ≡ true) → has_line_after n ((b ∷ xs) ++ ys) ≡ true
    pass true is tail = rw is (rw is at e)
    pass false is tail = rw is (tail (if b == 10 then n - 1 else n) (rw is at e))

blanks_longer : (n : ℕ) (xs ys : List ℕ) → has_line_after n (after_blanks xs) ≡ true → has_line_after n (after_blanks (xs ++ ys)) ≡ true
blanks_longer n [] ys e = absurd (cc)
blanks_longer n (b ∷ xs) ys e = pass (ends_line b) refl (blanks_longer n xs ys)
  where
    pass : (v : Bool) → ends_line b ≡ v → (has_line_after n (after_blanks xs) ≡ true → has_line_after n (after_blanks (xs ++ ys)) ≡ true) → has_line_after n (after_blanks ((b ∷ xs) ++ ys)) ≡ true
    pass true is tail = rw is (tail (rw is at e))
    pass false is tail = rw is (lines_longer n (b ∷ xs) ys (rw is at e))

-- too long by size, or by lines
long_by : (bytes : List ℕ) → is_too_long bytes ≡ true → (LONGEST_HEAD ≤ length bytes) ⊎ (has_line_after most_lines (after_blanks bytes) ≡ true)
long_by bytes e = by (nat_le LONGEST_HEAD (length bytes)) refl
  where
    by : (v : Bool) → nat_le LONGEST_HEAD (length bytes) ≡ v → (LONGEST_HEAD ≤ length bytes) ⊎ (has_line_after most_lines (after_blanks bytes) ≡ true)
    by true is = inl (grind (arith, nat_tests, is))
    by false is = inr (rw is at e)

long_by_size : (bytes : List ℕ) → LONGEST_HEAD ≤ length bytes → is_too_long bytes ≡ true
long_by_size bytes le = let size : nat_le LONGEST_HEAD (length bytes) ≡ true = grind (arith, nat_tests, le) in rw size refl

long_by_lines : (bytes : List ℕ) → has_line_after most_lines (after_blanks bytes) ≡ true → is_too_long bytes ≡ true
long_by_lines bytes lines = by (nat_le LONGEST_HEAD (length bytes)) refl
  where
    by : (v : Bool) → nat_le LONGEST_HEAD (length bytes) ≡ v → is_too_long bytes ≡ true
    by true is = rw is refl
    by false is = rw (is, lines) refl

-- bytes that are too long stay so
pub longer_is_too_long : (bytes more : List ℕ) → is_too_long bytes ≡ true → is_too_long (bytes ++ more) ≡ true
longer_is_too_long bytes more e =
    elim (long_by bytes e) [
      | inl le ↦ long_by_size (bytes ++ more) (omega (arith, le, length-append bytes more))
      | inr lines ↦ long_by_lines (bytes ++ more) (blanks_longer most_lines bytes more lines)
    ]

-- ---- the lines of a head

pass_byte : (n b : ℕ) (more : List ℕ) → (n == 0) ≡ false → ends_line b ≡ false → has_line_after n (b ∷ more) ≡ has_line_after n more
pass_byte n b more some plain = let no_lf : (b == 10) ≡ false = grind (arith, nat_tests, plain) in rw (some, no_lf) refl

pass_run : (n : ℕ) (run more : List ℕ) → (n == 0) ≡ false → All (λ b. ends_line b ≡ false) run → has_line_after n (run ++ more) ≡ has_line_after n more
pass_run n [] more some plain = refl
pass_run n (b ∷ run) more some plain =
    pass_byte n b (run ++ more) some (All-head (λ v. ends_line v ≡ false) b run plain) ∙ pass_run n run more some (All-tail (λ v. ends_line v ≡ false) b run plain)

one_less : (n m : ℕ) → n ≡ m + 1 → n - 1 ≡ m
one_less n m e = omega (arith, e)

some_left : (n m : ℕ) → n ≡ m + 1 → (n == 0) ≡ false
some_left n m e = grind (arith, nat_tests, e)

pass_end : (n m : ℕ) (end : LineEnd) (more : List ℕ) → n ≡ m + 1 → has_line_after n (print_end end ++ more) ≡ has_line_after m more
pass_end n m lf more e = rw (some_left n m e) (ap (λ (k : ℕ). has_line_after k more) (one_less n m e))
pass_end n m crlf more e = rw (some_left n m e) (ap (λ (k : ℕ). has_line_after k more) (one_less n m e))

plain_name : (word : List ℕ) → IsToken word → All (λ b. ends_line b ≡ false) word
plain_name word token = λ k d lt. plain_token (get_or word k d) (token.1 k d lt)

plain_target : (word : List ℕ) → AllPass is_uri_byte word → All (λ b. ends_line b ≡ false) word
plain_target word all = λ k d lt. plain_uri (get_or word k d) (all k d lt)

plain_raw : (word : List ℕ) → AllPass is_value_byte word → All (λ b. ends_line b ≡ false) word
plain_raw word all = λ k d lt. plain_value (get_or word k d) (all k d lt)

-- a field's line, part by part
apart : (name raw end more : List ℕ) → (name ++ 58 ∷ raw ++ end) ++ more ≡ name ++ (58 ∷ (raw ++ (end ++ more)))
apart name raw end more = append_assoc (name ++ 58 ∷ raw) end more ∙ append_assoc name (58 ∷ raw) (end ++ more)

pass_field : (n m : ℕ) (f : Field) (more : List ℕ) → n ≡ m + 1 → IsField f → has_line_after n (print_field f ++ more) ≡ has_line_after m more
pass_field n m f more e field =
    ap (has_line_after n) (apart f.name f.raw (print_end f.end) more)
    ∙ pass_run n f.name (58 ∷ (f.raw ++ (print_end f.end ++ more))) (some_left n m e) (plain_name f.name field.name)
    ∙ pass_byte n 58 (f.raw ++ (print_end f.end ++ more)) (some_left n m e) refl
    ∙ pass_run n f.raw (print_end f.end ++ more) (some_left n m e) (plain_raw f.raw field.raw)
    ∙ pass_end n m f.end more e

-- behind as many fields or more none does
end_short : (n : ℕ) (end : LineEnd) → has_line_after n (print_end end) ≡ false
end_short n lf = by (n == 0) refl
  where
    by : (v : Bool) → (n == 0) ≡ v → has_line_after n (print_end lf) ≡ false
    by true is = rw is refl
    by false is = rw is refl
end_short n crlf = by (n == 0) refl
  where
    by : (v : Bool) → (n == 0) ≡ v → has_line_after n (print_end crlf) ≡ false
    by true is = rw is refl
    by false is = rw is refl

lines_within : (fields : List Field) (n : ℕ) (last : LineEnd) → All IsField fields → length fields ≤ n → has_line_after n (flat_map print_field fields ++ print_end last) ≡ false
lines_within [] n last all le = end_short n last
lines_within (f ∷ fs) n last all le =
    let some : n ≡ (n - 1) + 1 = omega (arith, le) in
    ap (has_line_after n) (append_assoc (print_field f) (flat_map print_field fs) (print_end last))
    ∙ pass_field n (n - 1) f (flat_map print_field fs ++ print_end last) some (All-head IsField f fs all)
    ∙ lines_within fs (n - 1) last (All-tail IsField f fs all) (omega (arith, some, le))

-- ---- a request line

no_blanks : (blank : List LineEnd) (rest : List ℕ) → after_blanks (print_blank blank ++ rest) ≡ after_blanks rest
no_blanks [] rest = refl
no_blanks (lf ∷ blank) rest = no_blanks blank rest
no_blanks (crlf ∷ blank) rest = no_blanks blank rest

plain_first : (word rest : List ℕ) → IsToken word → after_blanks (word ++ rest) ≡ word ++ rest
plain_first [] rest token = absurd (omega (arith, token.0))
plain_first (b ∷ word) rest token = let plain : ends_line b ≡ false = plain_token b (All-head (λ v. is_token_byte v ≡ true) b word token.1) in rw plain refl

version_byte : (minor : ℕ) → minor ≤ 1 → ends_line (48 + minor) ≡ false
version_byte minor le = grind (arith, nat_tests, le)

pass_version : (n minor : ℕ) (more : List ℕ) → (n == 0) ≡ false → minor ≤ 1 → has_line_after n (print_version minor ++ more) ≡ has_line_after n more
pass_version n minor more some le =
    pass_byte n 72 (84 ∷ 84 ∷ 80 ∷ 47 ∷ 49 ∷ 46 ∷ (48 + minor) ∷ more) some refl
    ∙ pass_byte n 84 (84 ∷ 80 ∷ 47 ∷ 49 ∷ 46 ∷ (48 + minor) ∷ more) some refl
    ∙ pass_byte n 84 (80 ∷ 47 ∷ 49 ∷ 46 ∷ (48 + minor) ∷ more) some refl
    ∙ pass_byte n 80 (47 ∷ 49 ∷ 46 ∷ (48 + minor) ∷ more) some refl
    ∙ pass_byte n 47 (49 ∷ 46 ∷ (48 + minor) ∷ more) some refl
    ∙ pass_byte n 49 (46 ∷ (48 + minor) ∷ more) some refl
    ∙ pass_byte n 46 ((48 + minor) ∷ more) some refl
    ∙ pass_byte n (48 + minor) more some (version_byte minor le)

-- what stands behind the request line of a head has a line less before it
behind_line : (h : RequestHead) (rest : List ℕ) → IsRequestHead h
    → has_line_after most_lines (after_blanks (print_blank h.blank ++ (h.method ++ 32 ∷ (h.target ++ 32 ∷ (print_version h.minor ++ (print_end h.line_end ++ rest)))))) ≡ has_line_after MOST_FIELDS rest
behind_line h rest is =
    ap (has_line_after most_lines) (no_blanks h.blank _ ∙ plain_first h.method _ is.method)
    ∙ pass_run most_lines h.method (32 ∷ (h.target ++ 32 ∷ (print_version h.minor ++ (print_end h.line_end ++ rest)))) refl (plain_name h.method is.method)
    ∙ pass_byte most_lines 32 (h.target ++ 32 ∷ (print_version h.minor ++ (print_end h.line_end ++ rest))) refl refl
    ∙ pass_run most_lines h.target (32 ∷ (print_version h.minor ++ (print_end h.line_end ++ rest))) refl (plain_target h.target is.target.1)
    ∙ pass_byte most_lines 32 (print_version h.minor ++ (print_end h.line_end ++ rest)) refl refl
    ∙ pass_version most_lines h.minor (print_end h.line_end ++ rest) refl is.minor
    ∙ pass_end most_lines MOST_FIELDS h.line_end rest refl

-- ---- heads

-- a head with no more fields than are taken isn't too long by its lines
head_within : (h : RequestHead) → IsRequestHead h → length h.fields ≤ MOST_FIELDS → has_line_after most_lines (after_blanks (print_request h)) ≡ false
head_within h is few =
    ap (λ (t : List ℕ). has_line_after most_lines (after_blanks t)) (sym (append-nil (print_request h)) ∙ print_request-append h [])
    ∙ behind_line h (print_section h.fields h.last ++ []) is
    ∙ ap (has_line_after MOST_FIELDS) (append-nil (print_section h.fields h.last))
    ∙ lines_within h.fields MOST_FIELDS h.last is.fields few

-- a whole head that isn't longer than the first bytes stands in them
cut_head : (bytes more rest : List ℕ) (h : RequestHead) → IsWholeHead (bytes ++ more) h rest → length (print_request h) ≤ length bytes → IsWholeHead bytes h (drop (length (print_request h)) bytes)
cut_head bytes more rest h whole le =
    let n : ℕ = length (print_request h) in
    let front : take n bytes ≡ print_request h =
    sym (take-append-le n bytes more le) ∙ ap (take n) whole.reads.1 ∙ take-append_seam (print_request h) rest in
    let all : bytes ≡ print_request h ++ drop n bytes = sym (take-append-drop n bytes) ∙ ap (λ (t : List ℕ). t ++ drop n bytes) front in
    record { reads = (whole.reads.0, all); size = whole.size; few = whole.few }

clash : {A : Type 0} → true ≡ false → A
clash e = absurd (cc)

-- no head comes of bytes that are too long
pub too_long_stays : (bytes more : List ℕ) → HasNoWholeHead bytes → is_too_long bytes ≡ true → HasNoWholeHead (bytes ++ more)
too_long_stays bytes more none long h rest whole =
    elim (long_by bytes long) [
      | inl le ↦ none h _ (cut_head bytes more rest h whole (omega (arith, le, whole.size)))
      | inr lines ↦ by (nat_le (length (print_request h)) (length bytes)) refl lines
    ]
  where
    by : (v : Bool) → nat_le (length (print_request h)) (length bytes) ≡ v → has_line_after most_lines (after_blanks bytes) ≡ true → ⊥
    by true is lines = none h _ (cut_head bytes more rest h whole (grind (arith, nat_tests, is)))
    by false is lines =
        let n : ℕ = length (print_request h) in
        let beyond : ℕ = n - length bytes in
        let less : length bytes ≤ n = grind (arith, nat_tests, is) in
        let size : length bytes + beyond ≡ n = omega (arith, less) in
        let longer : bytes ++ take beyond more ≡ print_request h =
        sym (take-append-add bytes more beyond) ∙ ap (λ (k : ℕ). take k (bytes ++ more)) size ∙ ap (take n) whole.reads.1 ∙ take-append_seam (print_request h) rest in
        let over : has_line_after most_lines (after_blanks (print_request h)) ≡ true = subst (λ (t : List ℕ). has_line_after most_lines (after_blanks t) ≡ true) longer (blanks_longer most_lines bytes _ lines) in
        clash (sym over ∙ head_within h whole.reads.0 whole.few)

-- ---- more fields than are taken

regroup : (a b c d e f g z : List ℕ) → a ++ (b ++ 32 ∷ (c ++ 32 ∷ (d ++ (e ++ ((f ++ (g ++ z)) ++ []))))) ≡ (a ++ (b ++ 32 ∷ (c ++ 32 ∷ (d ++ (e ++ (f ++ g)))))) ++ z
regroup a b c d e f g z = simp (append_assoc, append-nil)

behind : (a b c d e f g r : List ℕ) → (a ++ (b ++ 32 ∷ (c ++ 32 ∷ (d ++ (e ++ (f ++ g)))))) ++ r ≡ a ++ (b ++ 32 ∷ (c ++ 32 ∷ (d ++ (e ++ (f ++ (g ++ r))))))
behind a b c d e f g r = simp append_assoc
