-- How the parts of a response follow on one another.
use Rattle.std.proofs.Common.{◌≡◌, ◌≤◌, ◌<◌, ℕ, ◌+◌, ◌^◌, true, false, List, [], ◌∷◌, ◌++◌, length, take, decimal, codes, min, refl, sym, ap, ◌∙◌, subst, arith, append_assoc, append-nil, length-append, Ok, Err, nat_eq, ◌-◌}
use Rattle.std.proofs.lemmas.Bool.{eqb-true}
use Rattle.std.specs.Prelude.{IsSome, None}
use Rattle.std.specs.Fmt.{digits}
use Rattle.std.specs.declared.option.Option.{Option}
use Rattle.std.specs.Io.KnownBytes.{Appends}
use Rattle.std.proofs.KnownBytes.{Appends-nil, Appends-trans}
use Rattle.std.proofs.lemmas.List.{take-append-le}
use Rattle.std.proofs.Math.Seq.{take-append-add}
use Rattle.okws_outer.specs.Streams.{Rose}
use Rattle.okws_outer.specs.Conns.{ConnWire, PutsTo}
use Rattle.okws_outer.specs.declared.stream.Put.TheVariants.{Done, Stopped}
use Rattle.http.specs.StatusCode.{code_digits}
use Rattle.http_text.specs.Status.{phrase, phrase_text, status_text}
use Rattle.http_text.specs.Response.{crlf, location_line}
use Rattle.http_front.specs.Writing.{Stays, SameRequest, IsCut, Writes, Responds}
use Rattle.http_front.specs.declared.kept.Kept.{Kept}
use Rattle.http_front.specs.declared.writing.Cut.{Cut}
use Rattle.http_front.specs.declared.writing.Responded.TheVariants.{Sent, ConnFault}

stays_same : (start now : ConnWire) (before kept after : Kept) → Stays start now before kept → SameRequest kept after → Stays start now before after
stays_same start now before kept after s same = record {
  left = s.left;
  last = s.last;
  later = s.later;
  bytes = same.bytes ∙ s.bytes;
  interim = same.interim ∙ s.interim;
  to_head = same.to_head ∙ s.to_head;
}

stays_put : (start old new : ConnWire) (before kept after : Kept) → Stays start old before kept → new.left ≡ old.left → new.last ≡ old.last → old.faults ≤ new.faults → SameRequest kept after → Stays start new before after
stays_put start old new before kept after s left last later same = record {
  left = left ∙ s.left;
  last = last ∙ s.last;
  later = omega (arith, s.later, later);
  bytes = same.bytes ∙ s.bytes;
  interim = same.interim ∙ s.interim;
  to_head = same.to_head ∙ s.to_head;
}

rose_later : (a b c : ℕ) → a ≤ b → Rose b c → Rose a c
rose_later a b c le rose = omega (arith, rose)

counted : (gone more count after : ℕ) → count ≡ min gone (2 ^ 64 - 1) → after ≡ min (count + more) (2 ^ 64 - 1) → after ≡ min (gone + more) (2 ^ 64 - 1)
counted gone more count after a b = omega arith

-- ---- the start

pub nothing_written : (start : ConnWire) (before kept : Kept) → SameRequest before kept → kept.response ≡ 0 → kept.waiting.items ≡ [] → Writes start before [] start kept (Ok tt)
nothing_written start before kept same none empty = (
  record { left = refl; last = refl; later = omega arith; bytes = same.bytes; interim = same.interim; to_head = same.to_head },
  record { gone = []; together = sym empty; given = Appends-nil start.given; count = none ∙ omega arith },
  refl,
)

-- ---- a part waits

-- ---- a put

-- all that waits was put
pub waiting_put : (start old new : ConnWire) (before kept after : Kept) (text : List ℕ) → Writes start before text old kept (Ok tt) → PutsTo old new kept.waiting.items Done → after.waiting.items ≡ [] → after.response ≡ min (kept.response + length kept.waiting.items) (2 ^ 64 - 1) → SameRequest kept after → Writes start before text new after (Ok tt)
waiting_put start old new before kept after text w puts empty count same = (
  stays_put start old new before kept after w.0 puts.left puts.last puts.faults.later same,
  record {
    gone = w.1.gone ++ kept.waiting.items;
    together = w.1.together ∙ sym (append-nil (w.1.gone ++ kept.waiting.items)) ∙ ap (λ (t : List ℕ). (w.1.gone ++ kept.waiting.items) ++ t) (sym empty);
    given = Appends-trans start.given old.given new.given w.1.gone kept.waiting.items w.1.given puts.puts;
    count = counted (length w.1.gone) (length kept.waiting.items) kept.response after.response w.1.count count ∙ ap (λ (n : ℕ). min n (2 ^ 64 - 1)) (sym (length-append w.1.gone kept.waiting.items));
  },
  puts.still refl ∙ w.2,
)

-- where nothing waits a part was put
pub part_put : (start old new : ConnWire) (before kept after : Kept) (text part : List ℕ) → kept.waiting.items ≡ [] → Writes start before text old kept (Ok tt) → PutsTo old new part Done → after.waiting.items ≡ kept.waiting.items → after.response ≡ min (kept.response + length part) (2 ^ 64 - 1) → SameRequest kept after → Writes start before (text ++ part) new after (Ok tt)
part_put start old new before kept after text part none w puts waits count same =
    let all : text ≡ w.1.gone = w.1.together ∙ ap (λ (t : List ℕ). w.1.gone ++ t) none ∙ append-nil w.1.gone in (
      stays_put start old new before kept after w.0 puts.left puts.last puts.faults.later same,
      record {
        gone = w.1.gone ++ part;
        together = ap (λ (t : List ℕ). t ++ part) all ∙ sym (append-nil (w.1.gone ++ part)) ∙ ap (λ (t : List ℕ). (w.1.gone ++ part) ++ t) (sym (waits ∙ none));
        given = Appends-trans start.given old.given new.given w.1.gone part w.1.given puts.puts;
        count = counted (length w.1.gone) (length part) kept.response after.response w.1.count count ∙ ap (λ (n : ℕ). min n (2 ^ 64 - 1)) (sym (length-append w.1.gone part));
      },
      puts.still refl ∙ w.2,
    )

-- ---- a put that failed

front_given : (a b c : Option (List ℕ)) (due gone rest behind : List ℕ) (n : ℕ) → due ≡ gone ++ (rest ++ behind) → n ≤ length rest → Appends a b gone → Appends b c (take n rest) → Appends a c (take (length gone + n) due)
front_given a b c due gone rest behind n e le first then =
    let front : take (length gone + n) due ≡ gone ++ take n rest =
    ap (take (length gone + n)) e ∙ take-append-add gone (rest ++ behind) n ∙ ap (λ (t : List ℕ). gone ++ t) (take-append-le n rest behind le) in
    subst (λ (t : List ℕ). Appends a c t) (sym front) (Appends-trans a b c gone (take n rest) first then)

cut_at : (start old new : ConnWire) (due gone rest behind : List ℕ) (n count after : ℕ) → due ≡ gone ++ (rest ++ behind) → n ≤ length rest → Appends start.given old.given gone → Appends old.given new.given (take n rest) → count ≡ min (length gone) (2 ^ 64 - 1) → after ≡ min (count + n) (2 ^ 64 - 1) → start.faults ≤ old.faults → Rose old.faults new.faults → IsCut start new due after
cut_at start old new due gone rest behind n count after e le first then was is later rose =
    let size : length due ≡ length gone + (length rest + length behind) = ap length e ∙ length-append gone (rest ++ behind) ∙ ap (λ (m : ℕ). length gone + m) (length-append rest behind) in
    record {
      part = record { taken = length gone + n; within = omega (arith, size, le); given = front_given start.given old.given new.given due gone rest behind n e le first then };
      count = counted (length gone) n count after was is;
      rose = rose_later start.faults old.faults new.faults later rose;
    }

-- the put of what waits failed
pub waiting_cut : (start old new : ConnWire) (before kept after : Kept) (text : List ℕ) (n : ℕ) (cut : Cut) → Writes start before text old kept (Ok tt) → PutsTo old new kept.waiting.items (Stopped n) → after.response ≡ min (kept.response + n) (2 ^ 64 - 1) → SameRequest kept after → Writes start before text new after (Err cut)
waiting_cut start old new before kept after text n cut w puts count same = (
  stays_put start old new before kept after w.0 puts.left puts.last puts.faults.later same,
  cut_at start old new text w.1.gone kept.waiting.items [] n kept.response after.response
      (w.1.together ∙ ap (λ (t : List ℕ). w.1.gone ++ t) (sym (append-nil kept.waiting.items)))
      puts.puts.0 w.1.given puts.puts.1 w.1.count count w.0.later (puts.faults.cause (λ e. cc)),
)

-- the put of a part failed, where nothing waits
pub part_cut : (start old new : ConnWire) (before kept after : Kept) (text part : List ℕ) (n : ℕ) (cut : Cut) → kept.waiting.items ≡ [] → Writes start before text old kept (Ok tt) → PutsTo old new part (Stopped n) → after.response ≡ min (kept.response + n) (2 ^ 64 - 1) → SameRequest kept after → Writes start before (text ++ part) new after (Err cut)
part_cut start old new before kept after text part n cut none w puts count same =
    let all : text ≡ w.1.gone = w.1.together ∙ ap (λ (t : List ℕ). w.1.gone ++ t) none ∙ append-nil w.1.gone in (
      stays_put start old new before kept after w.0 puts.left puts.last puts.faults.later same,
      cut_at start old new (text ++ part) w.1.gone part [] n kept.response after.response
          (ap (λ (t : List ℕ). t ++ part) all ∙ ap (λ (t : List ℕ). w.1.gone ++ t) (sym (append-nil part)))
          puts.puts.0 w.1.given puts.puts.1 w.1.count count w.0.later (puts.faults.cause (λ e. cc)),
    )

-- a front of a text is one of a longer text
pub cut_more : (start now : ConnWire) (before kept : Kept) (text part : List ℕ) (cut other : Cut) → Writes start before text now kept (Err cut) → Writes start before (text ++ part) now kept (Err other)
cut_more start now before kept text part cut other w = (
  w.0,
  record {
    part = record {
      taken = w.1.part.taken;
      within = omega (arith, w.1.part.within, length-append text part);
      given = rw (take-append-le w.1.part.taken text part w.1.part.within) w.1.part.given;
    };
    count = w.1.count;
    rose = w.1.rose;
  },
)

-- ---- the end

pub all_sent : (start now : ConnWire) (before kept : Kept) (text : List ℕ) → Writes start before text now kept (Ok tt) → kept.waiting.items ≡ [] → Responds start now before kept text Sent
all_sent start now before kept text w none =
    let all : text ≡ w.1.gone = w.1.together ∙ ap (λ (t : List ℕ). w.1.gone ++ t) none ∙ append-nil w.1.gone in
    record {
      stays = w.0;
      given = (
        subst (λ (t : List ℕ). Appends start.given now.given t) (sym all) w.1.given,
        w.1.count ∙ ap (λ (t : List ℕ). min (length t) (2 ^ 64 - 1)) (sym all),
        w.2,
      );
    }

pub not_all_sent : (start now : ConnWire) (before kept : Kept) (text : List ℕ) (cut : Cut) → Writes start before text now kept (Err cut) → Responds start now before kept text ConnFault
not_all_sent start now before kept text cut w = record { stays = w.0; given = w.1 }

-- ---- the digits of a status

at_code : (n k : ℕ) → code_digits k ≡ decimal k → (nat_eq n k ≡ false → code_digits n ≡ decimal n) → code_digits n ≡ decimal n
at_code n k is other = elim (nat_eq n k) as (λ b. nat_eq n k ≡ b → code_digits n ≡ decimal n) [ true ↦ (λ e. subst (λ (m : ℕ). code_digits m ≡ decimal m) (sym (eqb-true n k e)) is) | false ↦ other ] refl

never : false ≡ true → ⊥
never e = cc

no_phrase : (n : ℕ) → nat_eq n 200 ≡ false → nat_eq n 201 ≡ false → nat_eq n 303 ≡ false → nat_eq n 400 ≡ false → nat_eq n 403 ≡ false → nat_eq n 404 ≡ false → nat_eq n 409 ≡ false → nat_eq n 413 ≡ false → nat_eq n 431 ≡ false → nat_eq n 500 ≡ false → nat_eq n 501 ≡ false → nat_eq n 502 ≡ false → nat_eq n 503 ≡ false → nat_eq n 507 ≡ false → IsSome (phrase n) → ⊥
no_phrase n a b c d e f g h i j k l m o some =
    let none : phrase n ≡ None = rw (a, b, c, d, e, f, g, h, i, j, k, l, m, o) refl in
    never (subst IsSome none some)

pub status_digits : (n : ℕ) → IsSome (phrase n) → code_digits n ≡ decimal n
unfolding digits
status_digits n some =
    at_code n 200 refl λ a. at_code n 201 refl λ b. at_code n 303 refl λ c. at_code n 400 refl λ d. at_code n 403 refl λ e. at_code n 404 refl λ f. at_code n 409 refl λ g.
    at_code n 413 refl λ h. at_code n 431 refl λ i. at_code n 500 refl λ j. at_code n 501 refl λ k. at_code n 502 refl λ l. at_code n 503 refl λ m. at_code n 507 refl λ o.
    absurd (no_phrase n a b c d e f g h i j k l m o some)

-- ---- the text

status_groups : (a d s w : List ℕ) → ((([] ++ a) ++ d) ++ s) ++ w ≡ a ++ (d ++ (s ++ w))
status_groups a d s w = simp append_assoc

pub status_line_text : (n : ℕ) (digits words : List ℕ) → IsSome (phrase n) → digits ≡ code_digits n → words ≡ phrase_text (phrase n) → ((([] ++ codes "HTTP/1.1 ") ++ digits) ++ codes " ") ++ words ≡ codes "HTTP/1.1 " ++ status_text n
unfolding status_text
status_line_text n digits words some d w =
    status_groups (codes "HTTP/1.1 ") digits (codes " ") words
    ∙ ap (λ (t : List ℕ). codes "HTTP/1.1 " ++ (t ++ (32 ∷ words))) (d ∙ status_digits n some)
    ∙ ap (λ (t : List ℕ). codes "HTTP/1.1 " ++ (decimal n ++ (32 ∷ t))) w

pub location_text : (text location : List ℕ) → 0 < length location → ((text ++ codes "Location: ") ++ location) ++ crlf ≡ text ++ location_line location
location_text text [] some = absurd (omega arith)
location_text text (b ∷ more) some = append_assoc (text ++ codes "Location: ") (b ∷ more) crlf ∙ append_assoc text (codes "Location: ") ((b ∷ more) ++ crlf)

response_groups : (a s e t1 t l n d c k : List ℕ) →
    ((((((((a ++ s) ++ (e ++ t1)) ++ t) ++ e) ++ l) ++ n) ++ d) ++ (e ++ c ++ e ++ e)) ++ k ≡ a ++ s ++ e ++ t1 ++ t ++ e ++ l ++ n ++ d ++ e ++ c ++ e ++ e ++ k
response_groups a s e t1 t l n d c k = simp append_assoc

pub response_text : (status content_type location size content : List ℕ) →
    ((((((((codes "HTTP/1.1 " ++ status) ++ codes "\r\nContent-Type: ") ++ content_type) ++ crlf) ++ location) ++ codes "Content-Length: ") ++ size) ++ codes "\r\nConnection: close\r\n\r\n") ++ content
    ≡ codes "HTTP/1.1 " ++ status ++ crlf ++ codes "Content-Type: " ++ content_type ++ crlf ++ location ++ codes "Content-Length: " ++ size ++ crlf ++ codes "Connection: close" ++ crlf ++ crlf ++ content
response_text status content_type location size content =
    response_groups (codes "HTTP/1.1 ") status crlf (codes "Content-Type: ") content_type location (codes "Content-Length: ") size (codes "Connection: close") content
