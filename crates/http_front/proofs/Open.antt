-- A head that could become one still can behind a byte that settles nothing.
use Rattle.std.proofs.Common.{◌≡◌, ◌≢◌, ◌<◌, ℕ, ◌+◌, ◌-◌, Bool, true, false, List, [], ◌∷◌, ◌++◌, length, take, drop, refl, sym, ap, ◌∙◌, subst, arith, inl, inr, append_assoc, append-nil, length-append}
use Rattle.std.specs.List.{flat_map}
use Rattle.std.specs.Prelude.{◌⊎◌, ◌==◌, nat_le, if◌then◌else◌}
use Rattle.std.proofs.lemmas.List.{length_push}
use Rattle.std.proofs.Math.Seq.{drop-append_seam, take-append_seam}
use Rattle.std.proofs.lemmas.Bool.Decides.{nat_tests}
use Rattle.okws_base.specs.declared.limit.TheConstants.{LONGEST_HEAD}
use Rattle.httparse.specs.Grammar.{LineEnd, lf, crlf, print_end, print_blank, print_version, print_field, print_request, is_token_byte, is_uri_byte, is_value_byte, AllPass, RequestHead, HasNoRequest, MayBecomeRequest}
use Rattle.httparse.specs.Pieces.{Completes, RequestStart, Section, Stops, is_newline, Word, Text}
use Rattle.httparse.proofs.PieceLemmas.{RequestStart_deterministic, Name_deterministic, Stops_token}
use Rattle.httparse.proofs.PieceLemmas.{Refutes_first}
use Rattle.httparse.proofs.ReadLemmas.{Blank_after, Blank_open}
use Rattle.httparse.proofs.LineLemmas.{request_blank}
use Rattle.httparse.proofs.HeadLemmas.{request_not_yet}
use Rattle.httparse.proofs.OpenLemmas.{some_newline, Newline_after_cr, BlankLines_after, line_blank, Completes_first, Completes_next, Word_cut, letter_is_token, some_section, some_text, line_method, ends_in_target, FieldLine_of_row, Section_of_line, Section_after_lines, request_may}
use Rattle.http_text.specs.Reading.{ends_line, after_blanks, has_line_after, is_too_long, most_lines, HasNoWholeHead, HasFront, Unfinished}
use Rattle.http_front.specs.Places.{EndsPlain, BehindLines, At, Stays, StaysOver}
use Rattle.http_front.proofs.Steps.{blanks_lf, blanks_cr, return_lf, plain_token, plain_uri, plain_value, method_token, target_uri, name_token, name_colon, value_value}
use Rattle.http_front.specs.Looking.{Looks, LooksOn}
use Rattle.http_front.specs.declared.looking.Look.{Look}
use Rattle.http_front.specs.declared.looking.Look.TheVariants as look
use Rattle.http_front.specs.declared.places.Place.{Place}
use Rattle.http_front.specs.declared.places.Place.TheVariants as place

-- ---- what may become a request

may_blanks : (bytes : List ℕ) → At place.Blanks bytes → MayBecomeRequest bytes
may_blanks bytes at = request_may (Completes_first (line_blank (BlankLines_after at.0 at.1 some_newline)) some_section)

may_return : (bytes : List ℕ) → At place.BlankReturn bytes → MayBecomeRequest bytes
may_return bytes at = request_may (Completes_first (line_blank (BlankLines_after at.0 at.1 (Newline_after_cr refl))) some_section)

may_method : (bytes : List ℕ) → At place.Method bytes → MayBecomeRequest bytes
may_method bytes at =
    let stops : Stops is_newline at.1 = subst (Stops is_newline) (append-nil at.1) (Stops_token at.1 [] at.2.0 at.2.1) in
    request_may (Completes_first (line_method at.0 (at.3, stops) (Word_cut is_token_byte 32 65 letter_is_token at.2.1)) some_section)

may_target : (start : ℕ) (bytes : List ℕ) → At (place.Target start) bytes → MayBecomeRequest bytes
may_target start bytes at = inr (ends_in_target at.1.blank at.1.method (drop start bytes) at.1.blanks at.1.word at.2)

may_lines : (bytes rest : List ℕ) → BehindLines bytes rest → Completes Section rest → MayBecomeRequest bytes
may_lines bytes rest x section =
    request_may (Completes_next RequestStart_deterministic {a = x.line} x.start (Section_after_lines x.fields x.lines section))

may_name : (bytes : List ℕ) → At place.Name bytes → MayBecomeRequest bytes
may_name bytes at =
    may_lines bytes at.0 at.2 (Section_of_line (inr (FieldLine_of_row (Completes_first (Word_cut is_token_byte 58 65 letter_is_token at.1.1) some_text))))

text_cut : (raw : List ℕ) → AllPass is_value_byte raw → Completes Text raw
text_cut raw all = record { more = 10 ∷ []; tree = (raw, lf); reads = λ rest. (all, refl) }

may_value : (bytes : List ℕ) → At place.Value bytes → MayBecomeRequest bytes
may_value bytes ((name, raw, token, all, behind), plain) =
    let word : Word is_token_byte 58 name (name ++ 58 ∷ raw) raw = (token.0, token.1, refl) in
    may_lines bytes (name ++ 58 ∷ raw) behind
    (Section_of_line (inr (FieldLine_of_row (Completes_next Name_deterministic {a = name} word (text_cut raw all)))))

-- ---- no whole head

same_end : (xs ys : List ℕ) (a b : ℕ) → xs ++ a ∷ [] ≡ ys ++ b ∷ [] → (xs ≡ ys) × (a ≡ b)
same_end [] [] a b e = (refl, cc)
same_end [] (y ∷ ys) a b e = absurd (omega (arith, ap length e, length_push ys b))
same_end (x ∷ xs) [] a b e = absurd (omega (arith, ap length e, length_push xs a))
same_end (x ∷ xs) (y ∷ ys) a b e =
    let tail : xs ++ a ∷ [] ≡ ys ++ b ∷ [] = cc in
    let head : x ≡ y = cc in
    let same = same_end xs ys a b tail in
    (rw (head, same.0) refl, same.1)

last_or_none : (xs : List ℕ) → (xs ≡ []) ⊎ ((front : List ℕ) × (b : ℕ) × (xs ≡ front ++ b ∷ []))
last_or_none [] = inl refl
last_or_none (x ∷ xs) =
    elim (last_or_none xs) [ inl e ↦ inr ([], x, ap (λ (t : List ℕ). x ∷ t) e) | inr y ↦ inr (x ∷ y.0, y.1, ap (λ (t : List ℕ). x ∷ t) y.2) ]

-- a head ends in LF
line_end : (end : LineEnd) → (front : List ℕ) × (print_end end ≡ front ++ 10 ∷ [])
line_end lf = ([], refl)
line_end crlf = (13 ∷ [], refl)

head_end : (h : RequestHead) → (front : List ℕ) × (print_request h ≡ front ++ 10 ∷ [])
unfolding print_request
head_end h =
    let end = line_end h.last in
    let before : List ℕ = print_blank h.blank ++ h.method ++ 32 ∷ h.target ++ 32 ∷ print_version h.minor ++ print_end h.line_end in
    let lines : List ℕ = flat_map print_field h.fields in (
      before ++ (lines ++ end.0),
      ap (λ (t : List ℕ). before ++ (lines ++ t)) end.1 ∙ ap (λ (t : List ℕ). before ++ t) (sym (append_assoc lines end.0 (10 ∷ []))) ∙ sym (append_assoc before (lines ++ end.0) (10 ∷ [])),
    )

none_more : (bytes : List ℕ) (b : ℕ) → b ≢ 10 → HasNoWholeHead bytes → HasNoWholeHead (bytes ++ b ∷ [])
none_more bytes b other none h rest whole =
    elim (last_or_none rest) [
      | inl e ↦
          let last = head_end h in
          let all : bytes ++ b ∷ [] ≡ last.0 ++ 10 ∷ [] = whole.reads.1 ∙ ap (λ (t : List ℕ). print_request h ++ t) e ∙ append-nil _ ∙ last.1 in
          absurd (other (same_end bytes last.0 b 10 all).1)
      | inr y ↦
          let all : bytes ++ b ∷ [] ≡ (print_request h ++ y.0) ++ y.1 ∷ [] = whole.reads.1 ∙ ap (λ (t : List ℕ). print_request h ++ t) y.2 ∙ sym (append_assoc (print_request h) y.0 (y.1 ∷ [])) in
          none h y.0 (record { reads = (whole.reads.0, (same_end bytes _ b y.1 all).0); size = whole.size; few = whole.few })
    ]

plain_is_no_lf : (b : ℕ) → ends_line b ≡ false → b ≢ 10
plain_is_no_lf b plain is = let lf_is : true ≡ false = subst (λ (v : ℕ). ends_line v ≡ false) is plain in absurd (cc)

-- empty lines are no head
none_of_blanks : (bytes : List ℕ) → At place.Blanks bytes → HasNoWholeHead bytes
none_of_blanks bytes at h rest whole =
    let none : HasNoRequest bytes = request_not_yet (Refutes_first RequestStart Section (request_blank (Blank_after at.0 at.1 (Blank_open [] 0 (omega arith))))) in
    none h rest whole.reads

-- ---- not too long

clash : {A : Type 0} → true ≡ false → A
clash e = absurd (cc)

-- a byte that begins no line is passed over
lines_last : (n b c : ℕ) → ends_line c ≡ false → ends_line b ≡ false → has_line_after n (c ∷ []) ≡ false → has_line_after n (c ∷ b ∷ []) ≡ false
lines_last n b c last plain e = pass (n == 0) refl
  where
    pass : (v : Bool) → (n == 0) ≡ v → has_line_after n (c ∷ b ∷ []) ≡ false
    pass true is = rw is (rw is at e)
    pass false is = let no_lf : (c == 10) ≡ false = grind (arith, nat_tests, last) in rw (is, no_lf, is) refl

lines_more : (n : ℕ) (front : List ℕ) (c b : ℕ) → ends_line c ≡ false → ends_line b ≡ false → has_line_after n (front ++ c ∷ []) ≡ false → has_line_after n ((front ++ c ∷ []) ++ b ∷ []) ≡ false
lines_more n [] c b last plain e = lines_last n b c last plain e
lines_more n (x ∷ front) c b last plain e = pass (n == 0) refl (λ m. lines_more m front c b last plain)
  where
    pass : (v : Bool) → (n == 0) ≡ v → ((m : ℕ) → has_line_after m (front ++ c ∷ []) ≡ false → has_line_after m ((front ++ c ∷ []) ++ b ∷ []) ≡ false) → has_line_after n (((x ∷ front) ++ c ∷ []) ++ b ∷ []) ≡ false
    pass true is tail = rw is (rw is at e)
    pass false is tail = rw is (tail (if x == 10 then n - 1 else n) (rw is at e))

blanks_more : (front : List ℕ) (c b : ℕ) → ends_line c ≡ false → ends_line b ≡ false → has_line_after most_lines (after_blanks (front ++ c ∷ [])) ≡ false → has_line_after most_lines (after_blanks ((front ++ c ∷ []) ++ b ∷ [])) ≡ false
blanks_more [] c b last plain e = rw last (lines_last most_lines b c last plain (rw last at e))
blanks_more (x ∷ front) c b last plain e = pass (ends_line x) refl (blanks_more front c b last plain)
  where
    pass : (v : Bool) → ends_line x ≡ v → (has_line_after most_lines (after_blanks (front ++ c ∷ [])) ≡ false → has_line_after most_lines (after_blanks ((front ++ c ∷ []) ++ b ∷ [])) ≡ false) → has_line_after most_lines (after_blanks (((x ∷ front) ++ c ∷ []) ++ b ∷ [])) ≡ false
    pass true is tail = rw is (tail (rw is at e))
    pass false is tail = rw is (lines_more most_lines (x ∷ front) c b last plain (rw is at e))

skip_blanks : (blank : List LineEnd) (rest : List ℕ) → after_blanks (print_blank blank ++ rest) ≡ after_blanks rest
skip_blanks [] rest = refl
skip_blanks (lf ∷ blank) rest = skip_blanks blank rest
skip_blanks (crlf ∷ blank) rest = skip_blanks blank rest

short_blanks : (bytes : List ℕ) (blank : List LineEnd) (rest : List ℕ) → bytes ≡ print_blank blank ++ rest → has_line_after most_lines (after_blanks rest) ≡ false → length bytes < LONGEST_HEAD → is_too_long bytes ≡ false
short_blanks bytes blank rest e none less =
    let lines : has_line_after most_lines (after_blanks bytes) ≡ false = ap (λ (t : List ℕ). has_line_after most_lines (after_blanks t)) e ∙ ap (has_line_after most_lines) (skip_blanks blank rest) ∙ none in
    let size : nat_le LONGEST_HEAD (length bytes) ≡ false = grind (arith, nat_tests, less) in
    rw (size, lines) refl

long_more : (bytes : List ℕ) (b : ℕ) → EndsPlain bytes → ends_line b ≡ false → length bytes + 1 < LONGEST_HEAD → is_too_long bytes ≡ false → is_too_long (bytes ++ b ∷ []) ≡ false
long_more bytes b ends plain less short =
    let lines : has_line_after most_lines (after_blanks bytes) ≡ false = grind (arith, nat_tests, short) in
    let more : has_line_after most_lines (after_blanks (bytes ++ b ∷ [])) ≡ false =
    subst (λ (t : List ℕ). has_line_after most_lines (after_blanks (t ++ b ∷ [])) ≡ false) (sym ends.2)
    (blanks_more ends.0 ends.1 b ends.3 plain (subst (λ (t : List ℕ). has_line_after most_lines (after_blanks t) ≡ false) ends.2 lines)) in
    let size : nat_le LONGEST_HEAD (length (bytes ++ b ∷ [])) ≡ false = grind (arith, nat_tests, length_push bytes b, less) in
    rw (size, more) refl

-- ---- a byte that settles nothing

still_open : (bytes : List ℕ) (b : ℕ) → HasFront bytes Unfinished → EndsPlain bytes → ends_line b ≡ false → length bytes + 1 < LONGEST_HEAD → MayBecomeRequest (bytes ++ b ∷ []) → HasFront (bytes ++ b ∷ []) Unfinished
still_open bytes b front ends plain less may = (none_more bytes b (plain_is_no_lf b plain) front.0, long_more bytes b ends plain less front.1, inl may)

pub stays_method : (b : ℕ) → is_token_byte b ≡ true → Stays place.Method b place.Method
stays_method b token bytes at front less =
    let next = method_token b token bytes at in
    (next, still_open bytes b front at.4 (plain_token b token) less (may_method (bytes ++ b ∷ []) next))

pub stays_target : (start b : ℕ) → is_uri_byte b ≡ true → Stays (place.Target start) b (place.Target start)
stays_target start b uri bytes at front less =
    let next = target_uri start b uri bytes at in
    (next, still_open bytes b front at.3 (plain_uri b uri) less (may_target start (bytes ++ b ∷ []) next))

pub stays_name : (b : ℕ) → is_token_byte b ≡ true → Stays place.Name b place.Name
stays_name b token bytes at front less =
    let next = name_token b token bytes at in
    (next, still_open bytes b front at.3 (plain_token b token) less (may_name (bytes ++ b ∷ []) next))

pub stays_colon : (b : ℕ) → b ≡ 58 → Stays place.Name b place.Value
stays_colon b is bytes at front less =
    let next = name_colon b is bytes at in
    (next, still_open bytes b front at.3 (subst (λ (v : ℕ). ends_line v ≡ false) (sym is) refl) less (may_value (bytes ++ b ∷ []) next))

pub stays_value : (b : ℕ) → is_value_byte b ≡ true → Stays place.Value b place.Value
stays_value b value bytes at front less =
    let next = value_value b value bytes at in
    (next, still_open bytes b front at.1 (plain_value b value) less (may_value (bytes ++ b ∷ []) next))

pub stays_lf : (b : ℕ) → b ≡ 10 → Stays place.Blanks b place.Blanks
stays_lf b is bytes at front less =
    let next = blanks_lf b is bytes at in
    (next, (none_of_blanks (bytes ++ b ∷ []) next, short_blanks (bytes ++ b ∷ []) next.0 [] next.1 refl (omega (arith, less, length_push bytes b)), inl (may_blanks (bytes ++ b ∷ []) next)))

stays_between : (bytes : List ℕ) (b : ℕ) → b ≡ 13 → At place.BlankReturn (bytes ++ b ∷ []) → HasFront bytes Unfinished → length bytes + 1 < LONGEST_HEAD → HasFront (bytes ++ b ∷ []) Unfinished
stays_between bytes b is next front less =
    (none_more bytes b (λ e. absurd (omega (arith, is, e))) front.0, short_blanks (bytes ++ b ∷ []) next.0 (13 ∷ []) next.1 refl (omega (arith, less, length_push bytes b)), inl (may_return (bytes ++ b ∷ []) next))

pub stays_cr : (b : ℕ) → b ≡ 13 → Stays place.Blanks b place.BlankReturn
stays_cr b is bytes at front less =
    let next = blanks_cr b is bytes at in
    (next, stays_between bytes b is next front less)

pub stays_crlf : (b : ℕ) → b ≡ 10 → Stays place.BlankReturn b place.Blanks
stays_crlf b is bytes at front less =
    let next = return_lf b is bytes at in
    (next, (none_of_blanks (bytes ++ b ∷ []) next, short_blanks (bytes ++ b ∷ []) next.0 [] next.1 refl (omega (arith, less, length_push bytes b)), inl (may_blanks (bytes ++ b ∷ []) next)))

-- ---- pieces

pub stays_none : (p : Place) → StaysOver p [] p
stays_none p bytes at front less = (subst (At p) (sym (append-nil bytes)) at, subst (λ (t : List ℕ). HasFront t Unfinished) (sym (append-nil bytes)) front)

pub stays_on : (p q r : Place) (more : List ℕ) (b : ℕ) → StaysOver p more q → Stays q b r → StaysOver p (more ++ b ∷ []) r
stays_on p q r more b x y bytes at front less =
    let one = x bytes at front (omega (arith, length_push more b)) in
    let two = y (bytes ++ more) one.0 one.1 (omega (arith, length_push more b, length-append bytes more)) in (
      subst (At r) (append_assoc bytes more (b ∷ [])) two.0,
      subst (λ (t : List ℕ). HasFront t Unfinished) (append_assoc bytes more (b ∷ [])) two.1,
    )

-- ---- a look

-- the rest behind the front
pub rest_behind : (bytes front more : List ℕ) (before : ℕ) → bytes ≡ front ++ more → before ≡ length front → drop before bytes ≡ more
rest_behind bytes front more before e size = rw (e, size) (drop-append_seam front more)

pub front_of : (bytes front more : List ℕ) (before : ℕ) → bytes ≡ front ++ more → before ≡ length front → take before bytes ≡ front
front_of bytes front more before e size = rw (e, size) (take-append_seam front more)

pub looks_quiet : (old new : Place) (bytes piece : List ℕ) (before : ℕ) → piece ≡ drop before bytes → length bytes < LONGEST_HEAD → StaysOver old piece new → LooksOn old bytes before new look.Open
looks_quiet old new bytes piece before cut less stays front more e size at unfinished =
    let is : piece ≡ more = cut ∙ rest_behind bytes front more before e size in
    let all : length front + length piece < LONGEST_HEAD = omega (arith, ap length is, ap length e, length-append front more) in
    let next = stays front at unfinished all in
    let same : front ++ piece ≡ bytes = ap (λ (t : List ℕ). front ++ t) is ∙ sym e in
    (subst (λ (t : List ℕ). HasFront t Unfinished) same next.1, λ _. subst (At new) same next.0)

-- what is told of bytes is told of the same bytes
pub looked_on : (old new : Place) (seen bytes front more : List ℕ) (before : ℕ) (looked : Look) → LooksOn old seen before new looked → seen ≡ bytes → bytes ≡ front ++ more → before ≡ length front → At old front → HasFront front Unfinished → Looks bytes looked × (looked ≡ look.Open → At new bytes)
looked_on old new seen bytes front more before looked told same e size at unfinished =
    subst (λ (t : List ℕ). Looks t looked × (looked ≡ look.Open → At new t)) same (told front more (same ∙ e) size at unfinished)

pub nothing_stands : (bytes : List ℕ) → bytes ≡ [] → At place.Blanks bytes
nothing_stands bytes none = ([], none)
