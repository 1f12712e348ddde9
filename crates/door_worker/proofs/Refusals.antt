-- The statuses by which bytes are refused are among those with which the server itself responds.
use Rattle.std.proofs.Common.{◌≡◌, ℕ, Bool, true, false, List, [], ◌∷◌, length, sym, subst, refl, Result, Ok, Err, codes, inl, inr, ◌⊎◌}
use Rattle.std.specs.Prelude.{if◌then◌else◌, not, nat_le, nat_lt, IsTrue}
use Rattle.std.specs.declared.option.Option.{Option}
use Rattle.std.specs.Io.KnownBytes.{IsAtEnd}
use Rattle.httparse.specs.Grammar.{RequestHead}
use Rattle.http_text.specs.declared.length.ContentLength.{ContentLength}
use Rattle.http_text.specs.declared.length.ContentLength.TheVariants.{Length, TooLarge, NotDigits}
use Rattle.http_text.specs.Length.{length_of}
use Rattle.http_text.specs.Target.{is_target}
use Rattle.http_text.specs.Reading.{checked, has_hosts, is_served, values_named, content_length, told_length, checked_head, fields_of, IsReading, Asks, Refuses, Unsettled, with_head, reading_of, Front, Headed, Overlong, Hopeless, Unfinished}
use Rattle.door_worker.specs.Responses.{is_own}

same_own : (s t : ℕ) → s ≡ t → IsTrue (is_own t) → IsTrue (is_own s)
same_own s t e own = subst (λ (n : ℕ). IsTrue (is_own n)) (sym e) own

not_tested : (b : Bool) (s t : ℕ) (x : Result ℕ ℕ) → (if not b then Err t else x) ≡ Err s → IsTrue (is_own t) → (x ≡ Err s → IsTrue (is_own s)) → IsTrue (is_own s)
not_tested true s t x e own more = more e
not_tested false s t x e own more = same_own s t (cc) own

tested : (b : Bool) (s t : ℕ) (x : Result ℕ ℕ) → (if b then Err t else x) ≡ Err s → IsTrue (is_own t) → (x ≡ Err s → IsTrue (is_own s)) → IsTrue (is_own s)
tested true s t x e own more = same_own s t (cc) own
tested false s t x e own more = more e

told_own : (x : ContentLength) (s : ℕ) → told_length x ≡ Err s → IsTrue (is_own s)
told_own (Length n) s e = absurd (cc)
told_own TooLarge s e = same_own s 413 (cc) refl
told_own NotDigits s e = same_own s 400 (cc) refl

length_own : (values : List (List ℕ)) (s : ℕ) → content_length values ≡ Err s → IsTrue (is_own s)
length_own [] s e = absurd (cc)
length_own (value ∷ []) s e = told_own (length_of value) s e
length_own (value ∷ other ∷ more) s e = same_own s 400 (cc) refl

checked_own : (target method : List ℕ) (minor s : ℕ) (fields : List (List ℕ × List ℕ)) → checked target method minor fields ≡ Err s → IsTrue (is_own s)
checked_own target method minor s fields e =
    not_tested (is_target target) s 400 _ e refl
    (λ one. not_tested (has_hosts minor (length (values_named (codes "Host") fields))) s 400 _ one refl
    (λ two. not_tested (is_served method) s 501 _ two refl
    (λ three. tested (nat_lt 0 (length (values_named (codes "Transfer-Encoding") fields))) s 501 _ three refl
    (λ four. length_own (values_named (codes "Content-Length") fields) s four))))

content_own : (b : Bool) (method at head content : List ℕ) (s : ℕ) → Refuses s ≡ (if b then Asks method at head content else Unsettled) → IsTrue (is_own s)
content_own true method at head content s e = absurd (cc)
content_own false method at head content s e = absurd (cc)

head_own : (h : RequestHead) (rest : List ℕ) (x : Result ℕ ℕ) (s : ℕ) → checked_head h ≡ x → Refuses s ≡ with_head h rest x → IsTrue (is_own s)
head_own h rest (Err t) s is e = same_own s t (cc) (checked_own h.target h.method h.minor t (fields_of h) is)
head_own h rest (Ok n) s is e = content_own (nat_le n (length rest)) _ _ _ _ s e

front_own : (front : Front) (s : ℕ) → Refuses s ≡ reading_of front → IsTrue (is_own s)
front_own (Headed h rest) s e = head_own h rest (checked_head h) s refl e
front_own Overlong s e = same_own s 431 (cc) refl
front_own Hopeless s e = same_own s 400 (cc) refl
front_own Unfinished s e = absurd (cc)

pub refusal_is_own : (bytes : List ℕ) (left : Option (List ℕ)) (s : ℕ) → IsReading bytes (Refuses s) ⊎ (IsReading bytes Unsettled × IsAtEnd left × (s ≡ 400)) → IsTrue (is_own s)
refusal_is_own bytes left s (inl reading) = front_own reading.0 s reading.2
refusal_is_own bytes left s (inr cut) = same_own s 400 cut.2 refl
