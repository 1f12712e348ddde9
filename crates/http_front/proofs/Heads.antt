-- What the parser's answer tells of the front of the bytes.
use Rattle.std.proofs.Common.{◌≡◌, ◌≤◌, ◌<◌, ℕ, true, false, List, ◌++◌, length, take, drop, map, refl, sym, ap, ◌∙◌, subst, arith, le-leb, Ok, Err}
use Rattle.std.specs.Prelude.{◌⊎◌}
use Rattle.std.proofs.lemmas.Bool.{le-leb}
use Rattle.std.proofs.lemmas.Grind.{common_steps}
use Rattle.okws_base.specs.declared.limit.TheConstants.{LONGEST_HEAD, MOST_FIELDS}
use Rattle.httparse.specs.declared.Error.{Error}
use Rattle.httparse.specs.declared.Status.TheVariants.{Complete, Partial}
use Rattle.httparse.specs.declared.spans.Span.{Span}
use Rattle.httparse.specs.declared.spans.HeaderSpan.{HeaderSpan}
use Rattle.httparse.specs.declared.spans.RequestSpans.{RequestSpans}
use Rattle.httparse.specs.Grammar.{RequestHead, print_request, NeverHasRequest, MayBecomeRequest}
use Rattle.httparse.specs.Spans.{span_bytes, header_bytes, name_and_value, IsWithin, IsRequestWithin, IsRequestAt, FindsRequest, RequestExceeds}
use Rattle.http_text.specs.Response.{is_head}
use Rattle.http_text.specs.Reading.{checked, checked_head, is_too_long, HasNoWholeHead}
use Rattle.http_front.specs.Looking.{Describes, Looks, LooksWithout}
use Rattle.http_front.specs.declared.looking.WholeHead.{WholeHead}
use Rattle.http_front.specs.declared.looking.Look.{Look}
use Rattle.http_front.specs.declared.looking.Look.TheVariants.{Whole, TooLong, Broken, Open}

-- ---- no whole head

-- ---- bytes without a whole head

clash : {A : Type 0} → true ≡ false → A
clash e = absurd (cc)

-- ---- a whole head

-- a span of the front is the same in all bytes
pub span_front : (front rest : List ℕ) (s : Span) → IsWithin (length front) s → span_bytes (front ++ rest) s ≡ span_bytes front s
span_front front rest s within = grind (arith, common_steps, within.0, within.1)

pub span_of_front : (bytes front rest : List ℕ) (s : Span) (n : ℕ) → bytes ≡ front ++ rest → n ≡ length front → IsWithin n s → span_bytes bytes s ≡ span_bytes front s
span_of_front bytes front rest s n e size within =
    ap (λ (t : List ℕ). span_bytes t s) e ∙ span_front front rest s (subst (λ (m : ℕ). IsWithin m s) size within)

few_fields : (bytes : List ℕ) (headers : List HeaderSpan) (spans : RequestSpans) (h : RequestHead) → length headers ≡ MOST_FIELDS → IsRequestAt bytes headers spans h → length h.fields ≤ MOST_FIELDS
few_fields bytes headers spans h room at =
    let same : length (map (header_bytes bytes) (take spans.headers headers)) ≡ length (map name_and_value h.fields) = ap length at.fields in
    grind (arith, common_steps, same)

same_checks : (bytes : List ℕ) (headers : List HeaderSpan) (spans : RequestSpans) (h : RequestHead) → IsRequestAt bytes headers spans h
    → checked (span_bytes bytes spans.path) (span_bytes bytes spans.method) spans.version (map (header_bytes bytes) (take spans.headers headers)) ≡ checked_head h
same_checks bytes headers spans h at = rw (at.path, at.method, at.version, at.fields) refl

pub whole_looks : (bytes : List ℕ) (headers : List HeaderSpan) (spans : RequestSpans) (h : RequestHead) (fields : List (List ℕ × List ℕ)) (whole : WholeHead) → length headers ≡ MOST_FIELDS → spans.len ≤ LONGEST_HEAD → IsRequestWithin bytes headers spans → IsRequestAt bytes headers spans h → fields ≡ map (header_bytes bytes) (take spans.headers headers) → Describes bytes spans fields whole → Looks bytes (Whole whole)
whole_looks bytes headers spans h fields whole room short within at are told =
    let is : whole.checked ≡ checked_head h = told.checked_is ∙ ap (λ (f : List (List ℕ × List ℕ)). checked (span_bytes bytes spans.path) (span_bytes bytes spans.method) spans.version f) are ∙ same_checks bytes headers spans h at in
    let method : span_bytes bytes spans.method ≡ span_bytes (print_request h) spans.method = span_of_front bytes (print_request h) (drop spans.len bytes) spans.method spans.len at.reads.1 at.len within.method in
    let target : span_bytes bytes spans.path ≡ span_bytes (print_request h) spans.path = span_of_front bytes (print_request h) (drop spans.len bytes) spans.path spans.len at.reads.1 at.len within.path in (
      h,
      drop spans.len bytes,
      record { reads = at.reads; size = omega (arith, at.len, short); few = few_fields bytes headers spans h room at },
      record {
        method = ap (span_bytes (print_request h)) told.method ∙ sym method ∙ at.method;
        target = ap (span_bytes (print_request h)) told.target ∙ sym target ∙ at.path;
        method_within = rw (told.len, told.method) within.method;
        target_within = rw (told.len, told.target) within.path;
        len = told.len ∙ at.len;
        checked_is = is;
        waits_is = told.waits_is ∙ rw (is, at.version, are, at.fields) refl;
        to_head = told.to_head ∙ ap is_head at.method;
      },
    )
