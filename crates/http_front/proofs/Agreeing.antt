-- Answers to the same bytes agree, in whatever pieces the bytes come.
use Rattle.std.proofs.Common.{◌≡◌, ◌≤◌, ℕ, ◌+◌, Bool, true, false, List, [], ◌∷◌, ◌++◌, length, take, Result, Ok, Err, refl, sym, ap, ◌∙◌, subst, arith, inl, inr, append-nil, length-append}
use Rattle.std.specs.Prelude.{◌⊎◌, nat_le}
use Rattle.std.specs.declared.option.Option.{Option}
use Rattle.std.specs.declared.option.Option.TheVariants.{Some, None}
use Rattle.std.specs.Io.KnownBytes.{Consumes, IsAtEnd}
use Rattle.std.proofs.lemmas.Bool.Decides.{nat_tests}
use Rattle.std.proofs.lemmas.List.{take-append-le, nil_from_length}
use Rattle.okws_outer.specs.Conns.{ConnWire}
use Rattle.httparse.specs.Grammar.{RequestHead}
use Rattle.httparse.proofs.GrammarLemmas.{request_unique}
use Rattle.http_text.specs.Target.{path}
use Rattle.httparse.specs.Grammar.{print_request}
use Rattle.http_text.specs.Reading.{Reading, Asks, Refuses, Unsettled, Front, Headed, Overlong, Hopeless, Unfinished, HasFront, IsReading, reading_of, with_head, with_content, checked_head}
use Rattle.http_front.specs.Requests.{path_text, IsAsked, Receives}
use Rattle.http_front.specs.Agreement.{AgreeStatuses, Agree}
use Rattle.http_front.specs.declared.kept.Kept.{Kept}
use Rattle.http_front.specs.declared.reading.Incoming.{Incoming}
use Rattle.http_front.specs.declared.reading.Incoming.TheVariants.{Request, Refused, ConnFault, NoMemory}
use Rattle.http_front.proofs.Progress.{whole_more}
use Rattle.http_front.proofs.Long.{longer_is_too_long, too_long_stays}

clash : {A : Type 0} → true ≡ false → A
clash e = absurd (cc)

-- ---- a reading that is settled stays

-- what follows of the first bytes' reading for more bytes: the same; or, where those are no head and not too long, 431, or nothing yet inside a target
abbrev Follows : Reading → Reading → Type 0
Follows first then = (then ≡ first) ⊎ ((first ≡ Refuses 400) × ((then ≡ Unsettled) ⊎ (then ≡ Refuses 431)))

content_more : (h : RequestHead) (rest more : List ℕ) (n : ℕ) (v : Bool) → nat_le n (length rest) ≡ v → (with_content h rest n ≡ Unsettled → ⊥) → with_content h (rest ++ more) n ≡ with_content h rest n
content_more h rest more n true is settled =
    let longer : nat_le n (length (rest ++ more)) ≡ true = grind (arith, nat_tests, is, length-append rest more) in
    let le : n ≤ length rest = grind (arith, nat_tests, is) in
    let same : take n (rest ++ more) ≡ take n rest = take-append-le n rest more le in
    rw (longer, is) (ap (λ (t : List ℕ). Asks h.method (path h.target) (print_request h) t) same)
content_more h rest more n false is settled = absurd (settled (rw is refl))

head_more : (h : RequestHead) (rest more : List ℕ) (checked : Result ℕ ℕ) → (with_head h rest checked ≡ Unsettled → ⊥) → with_head h (rest ++ more) checked ≡ with_head h rest checked
head_more h rest more (Err status) settled = refl
head_more h rest more (Ok n) settled = content_more h rest more n (nat_le n (length rest)) refl settled

same_front : (h k : RequestHead) (rest more q : List ℕ) → h ≡ k → rest ++ more ≡ q → (with_head h rest (checked_head h) ≡ Unsettled → ⊥) → reading_of (Headed k q) ≡ reading_of (Headed h rest)
same_front h k rest more q same e settled =
    sym (ap (λ (g : RequestHead). with_head g q (checked_head g)) same) ∙ sym (ap (λ (t : List ℕ). with_head h t (checked_head h)) e) ∙ head_more h rest more (checked_head h) settled

follows : (bytes more : List ℕ) (first then : Front) → HasFront bytes first → HasFront (bytes ++ more) then → (reading_of first ≡ Unsettled → ⊥) → Follows (reading_of first) (reading_of then)
follows bytes more (Headed h rest) (Headed k q) one two settled =
    let whole = whole_more bytes (bytes ++ more) more h rest refl one in
    let same = request_unique (bytes ++ more) h k (rest ++ more) q whole.reads two.reads in
    inl (same_front h k rest more q same.0 same.1 settled)
follows bytes more (Headed h rest) Overlong one two settled = absurd (two.0 h (rest ++ more) (whole_more bytes (bytes ++ more) more h rest refl one))
follows bytes more (Headed h rest) Hopeless one two settled = absurd (two.0 h (rest ++ more) (whole_more bytes (bytes ++ more) more h rest refl one))
follows bytes more (Headed h rest) Unfinished one two settled = absurd (two.0 h (rest ++ more) (whole_more bytes (bytes ++ more) more h rest refl one))
follows bytes more Overlong (Headed k q) one two settled = absurd (too_long_stays bytes more one.0 one.1 k q two)
follows bytes more Overlong Overlong one two settled = inl refl
follows bytes more Overlong Hopeless one two settled = clash (sym (longer_is_too_long bytes more one.1) ∙ two.1)
follows bytes more Overlong Unfinished one two settled = clash (sym (longer_is_too_long bytes more one.1) ∙ two.1)
follows bytes more Hopeless (Headed k q) one two settled = absurd (one.2 more k q two.reads)
follows bytes more Hopeless Overlong one two settled = inr (refl, inr refl)
follows bytes more Hopeless Hopeless one two settled = inl refl
follows bytes more Hopeless Unfinished one two settled = inr (refl, inl refl)
follows bytes more Unfinished then one two settled = absurd (settled refl)

-- ---- what the bytes ask for

-- what the answer says of the bytes, by whether they are all that there were
abbrev Asked : List ℕ → Type 0 → Incoming → Type 0
Asked bytes ended (Request r) = IsReading bytes (Asks r.method.now (path_text r) r.head r.content)
Asked bytes ended (Refused status) = IsReading bytes (Refuses status) ⊎ (IsReading bytes Unsettled × ended × (status ≡ 400))
Asked bytes ended ConnFault = Unit {0}
Asked bytes ended NoMemory = Unit {0}

-- ---- bytes, and the same with more

swapped_statuses : (one other : ℕ) → AgreeStatuses one other → AgreeStatuses other one
swapped_statuses one other x = elim x [ inl e ↦ inl (sym e) | inr y ↦ elim y [ inl z ↦ inr (inr z) | inr z ↦ inr (inl z) ] ]

swapped : (a b : Incoming) → Agree a b → Agree b a
swapped (Request r) (Request q) (m, p, h, c) = (sym m, sym p, sym h, sym c)
swapped (Request r) (Refused status) x = absurd x
swapped (Request r) ConnFault x = tt
swapped (Request r) NoMemory x = tt
swapped (Refused status) (Request q) x = absurd x
swapped (Refused one) (Refused other) x = swapped_statuses one other x
swapped (Refused status) ConnFault x = tt
swapped (Refused status) NoMemory x = tt
swapped ConnFault (Request q) x = tt
swapped ConnFault (Refused status) x = tt
swapped ConnFault ConnFault x = tt
swapped ConnFault NoMemory x = tt
swapped NoMemory (Request q) x = tt
swapped NoMemory (Refused status) x = tt
swapped NoMemory ConnFault x = tt
swapped NoMemory NoMemory x = tt

-- ---- two fronts of the same bytes

nothing_more : (left one more rest last : List ℕ) → left ≡ one ++ rest → left ≡ (one ++ more) ++ last → rest ≡ [] → more ≡ []
nothing_more left one more rest last e f none =
    let a : length left ≡ length one + length rest = ap length e ∙ length-append one rest in
    let b : length left ≡ length (one ++ more) + length last = ap length f ∙ length-append (one ++ more) last in
    let c : length (one ++ more) ≡ length one + length more = length-append one more in
    let d : length rest ≡ 0 = ap length none in
    nil_from_length more (omega (arith, a, b, c, d))

-- ---- two answers

asked_by : (now : ConnWire) (rest bytes : List ℕ) (a : Incoming) → now.left ≡ Some rest → IsAsked now bytes a → Asked bytes (rest ≡ []) a
asked_by now rest bytes (Request r) e x = x.0
asked_by now rest bytes (Refused status) e x = elim x [ inl is ↦ inl is | inr is ↦ inr (is.0, subst IsAtEnd e is.1, is.2) ]
asked_by now rest bytes ConnFault e x = tt
asked_by now rest bytes NoMemory e x = tt
