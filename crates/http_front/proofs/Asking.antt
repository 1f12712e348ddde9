-- How what was read and given becomes an answer.
use Rattle.std.proofs.Common.{◌≡◌, ◌≤◌, ℕ, ◌+◌, Bool, true, false, List, [], ◌∷◌, length, take, drop, refl, sym, ap, ◌∙◌, subst, arith, inl, Result, Ok, Err, codes}
use Rattle.std.specs.Prelude.{if◌then◌else◌, not, nat_le, nat_lt}
use Rattle.std.specs.declared.option.Option.{Option}
use Rattle.std.specs.Io.KnownBytes.{Appends, Consumes}
use Rattle.std.proofs.KnownBytes.{Appends-nil}
use Rattle.std.proofs.lemmas.Bool.{leb-true}
use Rattle.std.proofs.lemmas.Grind.{common_steps}
use Rattle.std.proofs.lemmas.Bool.Decides.{nat_tests}
use Rattle.std.proofs.Math.Seq.{take-length, take-append_seam, drop-append_seam}
use Rattle.okws_base.specs.declared.limit.TheConstants.{LONGEST_CONTENT}
use Rattle.okws_outer.specs.Streams.{Rose, Tells as TellsBytes}
use Rattle.okws_outer.specs.Conns.{ConnWire}
use Rattle.httparse.specs.Grammar.{RequestHead, print_request}
use Rattle.httparse.specs.Spans.{span_bytes}
use Rattle.http_text.specs.declared.length.ContentLength.TheVariants.{Length, TooLarge, NotDigits}
use Rattle.http_text.specs.Length.{length_of, length_within}
use Rattle.http_text.specs.Response.{is_head}
use Rattle.http_text.specs.Target.{is_target, path}
use Rattle.http_text.specs.Reading.{checked, has_hosts, is_served, values_named, content_length, told_length, checked_head, interim_head, continue_text, IsWholeHead, HasNoWholeHead, HasFront, Headed, Overlong, Hopeless, Unfinished, Front, waits, fields_of, IsReading, Asks, with_head, interim_of, method_of}
use Rattle.http_front.specs.Kept.{method_text}
use Rattle.http_front.specs.Looking.{Tells}
use Rattle.http_front.specs.Pulling.{HasRead, IsContentOf, FillsContent}
use Rattle.http_front.specs.Requests.{target_text, path_text, HasTarget, IsAsked, Receives, due, HasBegun, HasAnswered, PutsInterim}
use Rattle.http_front.specs.declared.kept.Kept.{Kept}
use Rattle.http_front.specs.declared.looking.WholeHead.{WholeHead}
use Rattle.http_front.specs.declared.pulling.Filled.{Filled}
use Rattle.http_front.specs.declared.reading.Request.{Request}
use Rattle.http_front.specs.declared.reading.Incoming.{Incoming}
use Rattle.http_front.specs.declared.reading.Incoming.TheVariants.{Refused, ConnFault, NoMemory}
use Rattle.http_front.specs.declared.reading.Incoming.TheVariants as incoming
use Rattle.http_front.proofs.Heads.{span_of_front}
use Rattle.http_front.proofs.Progress.{whole_content, rose_later}

-- ---- what a head that passed its checks keeps

passed_test : (b : Bool) (s n : ℕ) (x : Result ℕ ℕ) → (if not b then Err s else x) ≡ Ok n → (b ≡ true) × (x ≡ Ok n)
passed_test true s n x e = (refl, e)
passed_test false s n x e = absurd (cc)

failed_test : (b : Bool) (s n : ℕ) (x : Result ℕ ℕ) → (if b then Err s else x) ≡ Ok n → x ≡ Ok n
failed_test true s n x e = absurd (cc)
failed_test false s n x e = e

pub target_passed : (target method : List ℕ) (minor n : ℕ) (fields : List (List ℕ × List ℕ)) → checked target method minor fields ≡ Ok n → is_target target ≡ true
target_passed target method minor n fields e = (passed_test (is_target target) 400 n _ e).0

number_within : (m n : ℕ) → told_length (length_within m) ≡ Ok n → n ≤ LONGEST_CONTENT
number_within m n e = within (nat_le m LONGEST_CONTENT) refl e
  where
    within : (b : Bool) → nat_le m LONGEST_CONTENT ≡ b → told_length (if b then Length m else TooLarge) ≡ Ok n → n ≤ LONGEST_CONTENT
    within true is told = let same : m ≡ n = cc in subst (λ (k : ℕ). k ≤ LONGEST_CONTENT) same (leb-true m LONGEST_CONTENT is)
    within false is told = absurd (cc)

value_within : (value : List ℕ) (n : ℕ) → told_length (length_of value) ≡ Ok n → n ≤ LONGEST_CONTENT
value_within value n e = grind (arith, nat_tests, e)

lengths_within : (values : List (List ℕ)) (n : ℕ) → content_length values ≡ Ok n → n ≤ LONGEST_CONTENT
lengths_within [] n e = let none : 0 ≡ n = cc in omega arith
lengths_within (value ∷ []) n e = value_within value n e
lengths_within (value ∷ other ∷ more) n e = absurd (cc)

pub size_passed : (target method : List ℕ) (minor n : ℕ) (fields : List (List ℕ × List ℕ)) → checked target method minor fields ≡ Ok n → n ≤ LONGEST_CONTENT
size_passed target method minor n fields e =
    let one = passed_test (is_target target) 400 n _ e in
    let two = passed_test (has_hosts minor (length (values_named (codes "Host") fields))) 400 n _ one.1 in
    let three = passed_test (is_served method) 501 n _ two.1 in
    let four = failed_test (nat_lt 0 (length (values_named (codes "Transfer-Encoding") fields))) 501 n _ three.1 in
    lengths_within (values_named (codes "Content-Length") fields) n four

pub head_target : (h : RequestHead) (n : ℕ) → checked_head h ≡ Ok n → is_target h.target ≡ true
head_target h n e = target_passed h.target h.method h.minor n (fields_of h) e

pub method_passed : (target method : List ℕ) (minor n : ℕ) (fields : List (List ℕ × List ℕ)) → checked target method minor fields ≡ Ok n → is_served method ≡ true
method_passed target method minor n fields e =
    let one = passed_test (is_target target) 400 n _ e in
    let two = passed_test (has_hosts minor (length (values_named (codes "Host") fields))) 400 n _ one.1 in
    (passed_test (is_served method) 501 n _ two.1).0

pub head_method : (h : RequestHead) (n : ℕ) → checked_head h ≡ Ok n → is_served h.method ≡ true
head_method h n e = method_passed h.target h.method h.minor n (fields_of h) e

pub head_size : (h : RequestHead) (n : ℕ) → checked_head h ≡ Ok n → n ≤ LONGEST_CONTENT
head_size h n e = size_passed h.target h.method h.minor n (fields_of h) e

-- ---- answers that are no faults

pub request_is_no_fault : (r : Request) → incoming.Request r ≡ ConnFault → ⊥
request_is_no_fault r e = cc

pub refused_is_no_fault : (status : ℕ) → Refused status ≡ ConnFault → ⊥
refused_is_no_fault status e = cc

pub want_is_no_fault : NoMemory ≡ ConnFault → ⊥
want_is_no_fault e = cc

-- ---- a whole head that stands there

pub content_of : (h : RequestHead) (whole : WholeHead) (size total : ℕ) → Tells h whole → whole.checked ≡ Ok size → total ≡ whole.len + size → IsContentOf h total
content_of h whole size total told passed e =
    record { size = size; passed = sym told.checked_is ∙ passed; total_is = e ∙ ap (λ (n : ℕ). n + size) told.len }

pub due_is : (h : RequestHead) (whole : WholeHead) → Tells h whole → interim_head h ≡ due whole.waits
due_is h whole told = ap due (sym told.waits_is)

-- all that a whole head and its content give
pub asked_whole : (bytes : List ℕ) (h : RequestHead) (rest : List ℕ) (whole : WholeHead) (size : ℕ) (r : Request) → IsWholeHead bytes h rest → Tells h whole → whole.checked ≡ Ok size → whole.len + size ≤ length bytes
    → r.method.now ≡ span_bytes bytes whole.method → r.target ≡ whole.target → r.head ≡ take whole.len bytes → r.content ≡ take size (drop whole.len bytes)
    → IsReading bytes (Asks r.method.now (path_text r) r.head r.content) × HasTarget r
asked_whole bytes h rest whole size r is told passed all method target head content =
    let m : r.method.now ≡ h.method = method ∙ span_of_front bytes (print_request h) rest whole.method whole.len is.reads.1 told.len told.method_within ∙ told.method in
    let front : take whole.len bytes ≡ print_request h = ap (λ (n : ℕ). take n bytes) told.len ∙ ap (take (length (print_request h))) is.reads.1 ∙ take-append_seam (print_request h) rest in
    let behind : drop whole.len bytes ≡ rest = ap (λ (n : ℕ). drop n bytes) told.len ∙ ap (drop (length (print_request h))) is.reads.1 ∙ drop-append_seam (print_request h) rest in
    let t : target_text r ≡ h.target = ap (λ (b : List ℕ). span_bytes b r.target) (head ∙ front) ∙ ap (span_bytes (print_request h)) target ∙ told.target in
    let long : length r.head ≡ whole.len = ap length (head ∙ front) ∙ sym told.len in (
      rw (m, ap path t, head ∙ front, content ∙ ap (take size) behind) (whole_content bytes h rest size is (sym told.checked_is ∙ passed) (omega (arith, told.len, all))),
      record { within = rw (long, target) told.target_within; taken = ap is_target t ∙ head_target h size (sym told.checked_is ∙ passed) },
    )

-- ---- answers

take_none : (n : ℕ) → take {A = ℕ} n [] ≡ []
take_none n = grind (arith, common_steps)

method_is : (to_head : Bool) → is_head (method_text to_head) ≡ to_head
method_is true = refl
method_is false = refl

-- an answer once the head is whole and its interim response was given
pub receive_content : (start old new : ConnWire) (before kept : Kept) (whole : WholeHead) (h : RequestHead) (total : ℕ) (ended : Filled) (incoming : Incoming) → Tells h whole → HasAnswered start old before whole → FillsContent start old new h kept.bytes.items before.interim total ended
    → kept.interim ≡ before.interim → kept.response ≡ before.response → kept.to_head ≡ before.to_head → IsAsked new kept.bytes.items incoming → (incoming ≡ ConnFault → Rose old.faults new.faults) → ((incoming ≡ ConnFault → ⊥) → new.faults ≡ old.faults) → Receives start new kept incoming
receive_content start old new before kept whole h total ended incoming told begun fills interim response to_head asked rose still =
    let written : kept.interim ≡ length (interim_head h) = interim ∙ begun.interim ∙ ap length (sym (due_is h whole told)) in
    record {
      reads = subst (λ (n : ℕ). HasRead start new kept.bytes.items n) (sym interim) fills.reads;
      asked = asked;
      interim = record {
        text = interim_head h;
        is = (Headed h fills.rest, fills.whole, refl);
        within = omega (arith, written);
        given =
            let all : take kept.interim (interim_head h) ≡ due whole.waits = ap (λ (n : ℕ). take n (interim_head h)) written ∙ take-length (interim_head h) ∙ due_is h whole told in
            subst (λ (t : List ℕ). Appends start.given new.given t) (sym all) (subst (λ (o : Option (List ℕ)). Appends start.given o (due whole.waits)) (sym fills.given) begun.given);
        whole = λ _. written;
      };
      method = (Headed h fills.rest, fills.whole, method_is kept.to_head ∙ to_head ∙ begun.to_head ∙ told.to_head);
      response = response ∙ begun.response;
      rose = λ e. rose_later start.faults old.faults new.faults begun.reads.later (rose e);
      still = λ fine. still fine ∙ begun.still;
    }

-- an answer without a whole head
pub receive_headless : (start new : ConnWire) (kept : Kept) (front : Front) (incoming : Incoming) → HasRead start new kept.bytes.items kept.interim → HasFront kept.bytes.items front → interim_of front ≡ [] → is_head (method_of front) ≡ false
    → new.given ≡ start.given → kept.interim ≡ 0 → kept.response ≡ 0 → kept.to_head ≡ false → IsAsked new kept.bytes.items incoming → (incoming ≡ ConnFault → Rose start.faults new.faults) → ((incoming ≡ ConnFault → ⊥) → new.faults ≡ start.faults) → Receives start new kept incoming
receive_headless start new kept front incoming reads has none method given interim response to_head asked rose still = record {
  reads = reads;
  asked = asked;
  interim = record {
    text = [];
    is = (front, has, sym none);
    within = omega (arith, interim);
    given =
        let nothing : take kept.interim [] ≡ [] = take_none kept.interim in
        subst (λ (t : List ℕ). Appends start.given new.given t) (sym nothing) (subst (λ (o : Option (List ℕ)). Appends start.given o []) (sym given) (Appends-nil start.given));
    whole = λ _. interim;
  };
  method = (front, has, method_is kept.to_head ∙ to_head ∙ sym method);
  response = response;
  rose = rose;
  still = still;
}

-- what stands at the front without a whole head has no interim response, and no method HEAD
pub headless : (bytes : List ℕ) (front : Front) → HasFront bytes front → HasNoWholeHead bytes → (interim_of front ≡ []) × (is_head (method_of front) ≡ false)
headless bytes (Headed h rest) has none = absurd (none h rest has)
headless bytes Overlong has none = (refl, refl)
headless bytes Hopeless has none = (refl, refl)
headless bytes Unfinished has none = (refl, refl)

-- a put takes nothing
pub read_put : (start mid new : ConnWire) (bytes : List ℕ) (written : ℕ) → HasRead start mid bytes written → new.left ≡ mid.left → new.last ≡ mid.last → mid.faults ≤ new.faults → HasRead start new bytes written
read_put start mid new bytes written read left last later = record {
  taken = subst (λ (o : Option (List ℕ)). Consumes start.left o bytes) (sym left) read.taken;
  prompt = λ some. let p = read.prompt some in (p.0, subst (λ (o : Option (List ℕ)). TellsBytes o p.0) (sym last) p.1, p.2, p.3);
  later = omega (arith, read.later, later);
}

-- a whole head that a check refuses
pub receive_refused : (start now : ConnWire) (kept : Kept) (whole : WholeHead) (h : RequestHead) (rest : List ℕ) (status : ℕ) → IsWholeHead kept.bytes.items h rest → Tells h whole → whole.checked ≡ Err status
    → ((written : ℕ) → HasRead start now kept.bytes.items written) → now.given ≡ start.given → now.faults ≡ start.faults → HasBegun kept whole → Receives start now kept (Refused status)
receive_refused start now kept whole h rest status is told refused reads given still begun =
    let found : checked_head h ≡ Err status = sym told.checked_is ∙ refused in
    let quiet : interim_head h ≡ [] = ap (λ (r : Result ℕ ℕ). if waits r h.minor (fields_of h) then continue_text else []) found in
    record {
      reads = reads kept.interim;
      asked = inl (Headed h rest, is, sym (ap (with_head h rest) found));
      interim = record {
        text = [];
        is = (Headed h rest, is, sym quiet);
        within = omega (arith, begun.interim);
        given = let nothing : take kept.interim [] ≡ [] = take_none kept.interim in subst (λ (t : List ℕ). Appends start.given now.given t) (sym nothing) (subst (λ (o : Option (List ℕ)). Appends start.given o []) (sym given) (Appends-nil start.given));
        whole = λ _. begun.interim;
      };
      method = (Headed h rest, is, method_is kept.to_head ∙ begun.to_head ∙ told.to_head);
      response = begun.response;
      rose = λ e. cc;
      still = λ _. still;
    }

-- the interim response was cut
pub receive_cut : (start old new : ConnWire) (before kept : Kept) (whole : WholeHead) (h : RequestHead) (rest : List ℕ) → IsWholeHead before.bytes.items h rest → Tells h whole → ((written : ℕ) → HasRead start old before.bytes.items written) → old.given ≡ start.given → HasBegun before whole
    → PutsInterim old new whole.waits kept.interim false → kept.bytes.items ≡ before.bytes.items → kept.response ≡ before.response → kept.to_head ≡ before.to_head → Receives start new kept ConnFault
receive_cut start old new before kept whole h rest is told reads given begun puts bytes response to_head =
    let stands : IsWholeHead kept.bytes.items h rest = subst (λ (b : List ℕ). IsWholeHead b h rest) (sym bytes) is in
    record {
      reads = subst (λ (b : List ℕ). HasRead start new b kept.interim) (sym bytes) (read_put start old new before.bytes.items kept.interim (reads kept.interim) puts.left puts.last puts.later);
      asked = tt;
      interim = record {
        text = due whole.waits;
        is = (Headed h rest, stands, sym (due_is h whole told));
        within = puts.within;
        given = subst (λ (o : Option (List ℕ)). Appends o new.given (take kept.interim (due whole.waits))) given puts.given;
        whole = λ other. absurd (other refl);
      };
      method = (Headed h rest, stands, method_is kept.to_head ∙ to_head ∙ begun.to_head ∙ told.to_head);
      response = response ∙ begun.response;
      rose = λ _. rose_later start.faults old.faults new.faults (reads 0).later (puts.rose refl);
      still = λ other. absurd (other refl);
    }

-- the interim response was given where it is due
pub answered_due : (start old new : ConnWire) (before kept : Kept) (whole : WholeHead) → ((written : ℕ) → HasRead start old before.bytes.items written) → old.given ≡ start.given → old.faults ≡ start.faults → HasBegun before whole
    → PutsInterim old new whole.waits kept.interim true → kept.bytes.items ≡ before.bytes.items → kept.response ≡ before.response → kept.to_head ≡ before.to_head → HasAnswered start new kept whole
answered_due start old new before kept whole reads given still begun puts bytes response to_head = record {
  reads = subst (λ (b : List ℕ). HasRead start new b kept.interim) (sym bytes) (read_put start old new before.bytes.items kept.interim (reads kept.interim) puts.left puts.last puts.later);
  given =
      let all : take kept.interim (due whole.waits) ≡ due whole.waits = ap (λ (n : ℕ). take n (due whole.waits)) (puts.whole refl) ∙ take-length (due whole.waits) in
      subst (λ (t : List ℕ). Appends start.given new.given t) all (subst (λ (o : Option (List ℕ)). Appends o new.given (take kept.interim (due whole.waits))) given puts.given);
  still = puts.still refl ∙ still;
  interim = puts.whole refl;
  response = response ∙ begun.response;
  to_head = to_head ∙ begun.to_head;
}
