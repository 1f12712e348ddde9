-- How what was read goes on, piece by piece.
use Rattle.std.proofs.Common.{◌≡◌, ◌≤◌, ◌<◌, ℕ, ◌+◌, true, false, List, [], ◌∷◌, ◌++◌, length, take, refl, sym, ap, ◌∙◌, subst, arith, inl, length-append, Ok, append-nil}
use Rattle.std.specs.Prelude.{IfSome, nat_le}
use Rattle.std.specs.declared.option.Option.{Option}
use Rattle.std.specs.declared.option.Option.TheVariants.{Some, None}
use Rattle.std.specs.Io.KnownBytes.{Consumes, Keeps}
use Rattle.std.proofs.KnownBytes.{Consumes-nil, Consumes-trans, Consumes-kept}
use Rattle.std.proofs.lemmas.Grind.{common_steps}
use Rattle.std.proofs.lemmas.Bool.Decides.{nat_tests}
use Rattle.std.proofs.lemmas.List.Elements.{All-nil, All-cons}
use Rattle.std.proofs.lemmas.Str.{IsUtf8-from_ascii}
use Rattle.std.proofs.lemmas.Str.Ascii.{IsAscii-cons, IsAscii-nil}
use Rattle.okws_base.specs.declared.limit.TheConstants.{LONGEST_HEAD}
use Rattle.okws_outer.specs.Streams.{Counts, Rose, Tells}
use Rattle.okws_outer.specs.Conns.{ConnWire}
use Rattle.httparse.specs.Grammar.{RequestHead, IsRequestHead, print_request, MayBecomeRequest, is_token_byte, is_uri_byte, lf, IsField}
use Rattle.httparse.proofs.GrammarLemmas.{ReadsRequest-append, request_unique}
use Rattle.httparse.proofs.OpenLemmas.{letter_is_token}
use Rattle.http_text.specs.Reading.{IsWholeHead, HasFront, IsReading, with_head, checked_head, interim_head, is_too_long}
use Rattle.http_text.specs.Target.{path}
use Rattle.http_text.specs.Reading.{Headed, Unfinished}
use Rattle.http_text.specs.Reading.{Asks, Unsettled}
use Rattle.http_front.specs.Pulling.{IsAnswered, HasRead, TakesPiece, IsContentOf, FillEnds, FillsContent, HeadEnds, ReadsHead}
use Rattle.http_front.specs.declared.kept.TheConstants.{PIECE}
use Rattle.http_front.specs.declared.pulling.Piece.TheVariants as piece
use Rattle.http_front.specs.declared.pulling.HeadRead.{HeadRead}
use Rattle.http_front.specs.declared.pulling.HeadRead.TheVariants as head
use Rattle.http_front.specs.declared.pulling.Filled.{Filled}
use Rattle.http_front.specs.declared.pulling.Filled.TheVariants as filled

-- ---- the start

-- `A / HTTP/1.0` and two ends
abbrev shortest : RequestHead
shortest = record { blank = []; method = 65 ∷ []; target = 47 ∷ []; minor = 0; line_end = lf; fields = []; last = lf }

shortest_is : IsRequestHead shortest
shortest_is = record {
  method = (omega arith, All-cons (λ b. is_token_byte b ≡ true) 65 [] letter_is_token (All-nil _));
  target = (omega arith, All-cons (λ b. is_uri_byte b ≡ true) 47 [] refl (All-nil _));
  target_text = IsUtf8-from_ascii _ (IsAscii-cons 47 [] (omega arith) IsAscii-nil);
  minor = omega arith;
  fields = All-nil IsField;
}

nothing_may_become : MayBecomeRequest []
nothing_may_become = inl (print_request shortest, shortest, (shortest_is, sym (append-nil (print_request shortest))))

-- a head has a byte
not_empty_head : (h : RequestHead) (rest : List ℕ) → [] ≡ print_request h ++ rest → ⊥
unfolding print_request
not_empty_head h rest e =
    let long : 0 ≡ length (print_request h ++ rest) = ap length e in
    grind (arith, common_steps, long)

pub nothing_is_unfinished : (bytes : List ℕ) → bytes ≡ [] → HasFront bytes Unfinished
nothing_is_unfinished bytes none =
    subst (λ (b : List ℕ). HasFront b Unfinished) (sym none)
    ((λ h rest whole. not_empty_head h rest whole.reads.1), refl, inl nothing_may_become)

pub nothing_read : (start : ConnWire) (bytes : List ℕ) (written : ℕ) → bytes ≡ [] → HasRead start start bytes written
nothing_read start bytes written none = record {
  taken = subst (λ (b : List ℕ). Consumes start.left start.left b) (sym none) (Consumes-nil start.left);
  prompt = λ some. absurd (some none);
  later = omega arith;
}

-- ---- a piece

pub rose_later : (a b c : ℕ) → a ≤ b → Rose b c → Rose a c
rose_later a b c le rose = omega (arith, rose)

-- what a piece is told to be
told_by : (last : Option (List ℕ)) (more : List ℕ) → IfSome last (λ l. l ≡ more) → Tells last more
told_by None more is = tt
told_by (Some l) more is = is

-- a piece came behind bytes that settled nothing
pub read_more : (start mid new : ConnWire) (before now : List ℕ) (written : ℕ) → HasRead start mid before written → IsReading before Unsettled → IsAnswered before written
    → ((h : RequestHead) (rest : List ℕ) (size : ℕ) → IsWholeHead before h rest → checked_head h ≡ Ok size → length now ≤ length (print_request h) + size)
    → length now ≤ length before + PIECE → TakesPiece mid new before now piece.Came → HasRead start new now written
read_more start mid new before now written read unsettled answered within few took =
    let size : length now ≡ length before + length took.bytes.0 = ap length took.bytes.3 ∙ length-append before took.bytes.0 in
    record {
      taken = subst (λ (b : List ℕ). Consumes start.left new.left b) (sym took.bytes.3) (Consumes-trans start.left mid.left new.left before took.bytes.0 read.taken took.bytes.2);
      prompt = λ _. (
        took.bytes.0,
        told_by new.last took.bytes.0 took.bytes.4,
        record { before = before; together = took.bytes.3; unsettled = unsettled; within = within; short = omega (arith, few, size) },
        answered,
      );
      later = omega (arith, read.later, took.faults.later);
    }

-- no bytes came
pub read_same : (start mid new : ConnWire) (before now : List ℕ) (written : ℕ) → HasRead start mid before written → now ≡ before → Keeps mid.left new.left → new.last ≡ mid.last → mid.faults ≤ new.faults → HasRead start new now written
read_same start mid new before now written read e left last later =
    subst (λ (b : List ℕ). HasRead start new b written) (sym e)
    (record {
      taken = Consumes-kept start.left mid.left new.left before read.taken left;
      prompt = λ some. let p = read.prompt some in (p.0, subst (λ (l : Option (List ℕ)). Tells l p.0) (sym last) p.1, p.2, p.3);
      later = omega (arith, read.later, later);
    })

-- ---- a head

-- more bytes behind a whole head are more of the rest
pub whole_more : (before now more : List ℕ) (h : RequestHead) (rest : List ℕ) → now ≡ before ++ more → IsWholeHead before h rest → IsWholeHead now h (rest ++ more)
whole_more before now more h rest e whole =
    subst (λ (b : List ℕ). IsWholeHead b h (rest ++ more)) (sym e)
    (record { reads = ReadsRequest-append before h rest more whole.reads; size = whole.size; few = whole.few })

-- a whole head whose content isn't there settles nothing
pub short_content : (bytes : List ℕ) (h : RequestHead) (rest : List ℕ) (n : ℕ) → IsWholeHead bytes h rest → checked_head h ≡ Ok n → length bytes < length (print_request h) + n → IsReading bytes Unsettled
short_content bytes h rest n whole passed less =
    let size : length bytes ≡ length (print_request h) + length rest = ap length whole.reads.1 ∙ length-append (print_request h) rest in
    let short : nat_le n (length rest) ≡ false = grind (arith, nat_tests, size, less) in
    (Headed h rest, whole, sym (ap (with_head h rest) passed ∙ rw short refl))

-- a whole head whose content is there is the request
pub whole_content : (bytes : List ℕ) (h : RequestHead) (rest : List ℕ) (n : ℕ) → IsWholeHead bytes h rest → checked_head h ≡ Ok n → length (print_request h) + n ≤ length bytes → IsReading bytes (Asks h.method (path h.target) (print_request h) (take n rest))
whole_content bytes h rest n whole passed le =
    let size : length bytes ≡ length (print_request h) + length rest = ap length whole.reads.1 ∙ length-append (print_request h) rest in
    let there : nat_le n (length rest) ≡ true = grind (arith, nat_tests, size, le) in
    (Headed h rest, whole, sym (ap (with_head h rest) passed ∙ rw there refl))

-- two whole heads at the front of the same bytes are the same
pub one_head : (bytes : List ℕ) (h k : RequestHead) (r q : List ℕ) → IsWholeHead bytes h r → IsWholeHead bytes k q → h ≡ k
one_head bytes h k r q x y = (request_unique bytes h k r q x.reads y.reads).0

-- a piece came where there was no whole head yet
pub head_more : (start mid new : ConnWire) (before now : List ℕ) (written : ℕ) → HasRead start mid before written → HasFront before Unfinished → length now ≤ length before + PIECE → TakesPiece mid new before now piece.Came → HasRead start new now written
head_more start mid new before now written read front few took =
    read_more start mid new before now written read (Unfinished, front, refl) (λ h rest whole. absurd (front.0 h rest whole)) (λ h rest size whole passed. absurd (front.0 h rest whole)) few took

-- what ends with the content of a head ends with that of the same head
within_head : (h k : RequestHead) (n m total all : ℕ) → h ≡ k → checked_head h ≡ Ok n → checked_head k ≡ Ok m → total ≡ length (print_request h) + n → all ≤ total → all ≤ length (print_request k) + m
within_head h k n m total all same passed other is within =
    let size : Ok n ≡ Ok m = sym passed ∙ ap checked_head same ∙ other in
    let equal : n ≡ m = cc in
    omega (arith, is, within, equal, ap (λ (g : RequestHead). length (print_request g)) same)

-- a piece of content came
pub fill_step : (start mid new : ConnWire) (h : RequestHead) (rest before now : List ℕ) (written total : ℕ) → IsContentOf h total → IsWholeHead before h rest → written ≡ length (interim_head h) → HasRead start mid before written → length before < total → length now ≤ total → length now ≤ length before + PIECE → TakesPiece mid new before now piece.Came
    → (more : List ℕ) × IsWholeHead now h more × HasRead start new now written
fill_step start mid new h rest before now written total content whole is read less within few took = (
  rest ++ took.bytes.0,
  whole_more before now took.bytes.0 h rest took.bytes.3 whole,
  read_more start mid new before now written read
      (short_content before h rest content.size whole content.passed (omega (arith, less, content.total_is)))
      (λ k more other. is ∙ ap (λ (g : RequestHead). length (interim_head g)) (one_head before h k rest more whole other))
      (λ k more size other passed. within_head h k content.size size total (length now) (one_head before h k rest more whole other) content.passed passed content.total_is within)
      few
      took,
)

-- no piece of content came
pub fill_same : (start old mid new : ConnWire) (h : RequestHead) (rest before now : List ℕ) (written total : ℕ) (ended : Filled) → IsWholeHead before h rest → HasRead start mid before written → mid.given ≡ old.given → mid.faults ≡ old.faults
    → now ≡ before → Keeps mid.left new.left → new.last ≡ mid.last → new.given ≡ mid.given → Counts mid.faults new.faults (ended ≡ filled.Failed) → ((ended ≡ filled.Failed → ⊥) → new.faults ≡ mid.faults) → FillEnds new now total ended → FillsContent start old new h now written total ended
fill_same start old mid new h rest before now written total ended whole read given so_far same left last kept counts still ends = record {
  rest = rest;
  whole = subst (λ (b : List ℕ). IsWholeHead b h rest) (sym same) whole;
  reads = read_same start mid new before now written read same left last counts.later;
  given = kept ∙ given;
  ends = ends;
  faults = record { later = omega (arith, so_far, counts.later); cause = λ e. rose_later old.faults mid.faults new.faults (omega (arith, so_far)) (counts.cause e) };
  still = λ fine. still fine ∙ so_far;
}

-- all bytes were there
pub fill_done : (start old now : ConnWire) (h : RequestHead) (rest bytes : List ℕ) (written total : ℕ) → IsWholeHead bytes h rest → HasRead start now bytes written → now.given ≡ old.given → now.faults ≡ old.faults → total ≤ length bytes → FillsContent start old now h bytes written total filled.Whole
fill_done start old now h rest bytes written total whole read given still all =
    record { rest = rest; whole = whole; reads = read; given = given; ends = all; faults = record { later = omega (arith, still); cause = λ e. cc }; still = λ _. still }

-- ---- the end of a head

-- no bytes came, and there is no whole head
pub head_same : (start mid new : ConnWire) (before now : List ℕ) (read : HeadRead) → ((written : ℕ) → HasRead start mid before written) → mid.given ≡ start.given → mid.faults ≡ start.faults
    → now ≡ before → Keeps mid.left new.left → new.last ≡ mid.last → new.given ≡ mid.given → Counts mid.faults new.faults (read ≡ head.Failed) → ((read ≡ head.Failed → ⊥) → new.faults ≡ mid.faults) → HeadEnds new now read → ReadsHead start new now read
head_same start mid new before now read reads given so_far same left last kept counts still ends = record {
  reads = λ written. read_same start mid new before now written (reads written) same left last counts.later;
  given = kept ∙ given;
  ends = ends;
  faults = record { later = omega (arith, so_far, counts.later); cause = λ e. rose_later start.faults mid.faults new.faults (omega (arith, so_far)) (counts.cause e) };
  still = λ fine. still fine ∙ so_far;
}

-- a piece came that settled what stands at the front
pub head_settled : (start mid new : ConnWire) (before now : List ℕ) (read : HeadRead) → ((written : ℕ) → HasRead start mid before written) → HasFront before Unfinished → mid.given ≡ start.given → mid.faults ≡ start.faults
    → length now ≤ length before + PIECE → TakesPiece mid new before now piece.Came → (read ≡ head.Failed → ⊥) → HeadEnds new now read → ReadsHead start new now read
head_settled start mid new before now read reads front given so_far few took sound ends = record {
  reads = λ written. head_more start mid new before now written (reads written) front few took;
  given = took.given ∙ given;
  ends = ends;
  faults = record { later = omega (arith, so_far, took.faults.later); cause = λ e. absurd (sound e) };
  still = λ _. took.still (λ e. cc) ∙ so_far;
}

pub still_unfinished : (before now : List ℕ) → now ≡ before → HasFront before Unfinished → HasFront now Unfinished
still_unfinished before now same front = subst (λ (b : List ℕ). HasFront b Unfinished) (sym same) front

pub longer : (before now more : List ℕ) → now ≡ before ++ more → length now ≡ length before + length more
longer before now more e = ap length e ∙ length-append before more
