-- What is found with one more field.
use Rattle.std.proofs.Common.{◌≡◌, ℕ, Bool, true, false, List, [], ◌∷◌, length, codes, refl, sym, ◌∙◌, subst, arith}
use Rattle.std.specs.Char.{eq_ignore_ascii_case}
use Rattle.std.specs.Cmp.Lexicographic.{unequal}
use Rattle.std.proofs.lemmas.Bool.Decides.{nat_tests}
use Rattle.okws_base.specs.Names.{same_word}
use Rattle.http_text.specs.Reading.{values_named, is_continue}
use Rattle.http_front.specs.Fields.{AreNamedUpTo, AsksUpTo, AreFoundUpTo}
use Rattle.http_front.specs.declared.fields.Named.{Named}
use Rattle.http_front.specs.declared.fields.Found.{Found}

-- ---- words

same_byte : (b : ℕ) → eq_ignore_ascii_case b b ≡ true
same_byte b = grind (arith, nat_tests)

word_is : (w : List ℕ) → same_word w w ≡ true
word_is [] = refl
word_is (b ∷ w) = rw (same_byte b, word_is w) refl

pub same_is_word : (w name : List ℕ) → w ≡ name → same_word w name ≡ true
same_is_word w name e = subst (λ (t : List ℕ). same_word w t ≡ true) e (word_is w)

other_word : (w name : List ℕ) (m n : ℕ) → length w ≡ m → length name ≡ n → (m ≡ n → ⊥) → same_word w name ≡ false
other_word w name m n x y other = unequal eq_ignore_ascii_case w name (λ e. other (sym x ∙ e ∙ y))

-- ---- one name

kept : (name w value : List ℕ) (all rest : List (List ℕ × List ℕ)) (values : Named) → same_word w name ≡ false
    → AreNamedUpTo (values_named name all) (values_named name ((w, value) ∷ rest)) values → AreNamedUpTo (values_named name all) (values_named name rest) values
kept name w value all rest values differs seen =
    let passed : values_named name ((w, value) ∷ rest) ≡ values_named name rest = rw differs refl in
    subst (λ (t : List (List ℕ)). AreNamedUpTo (values_named name all) t values) passed seen

-- one value more is told so
abbrev pub Adds : List ℕ → Named → Named → Type 0
Adds value values next = (all rest : List (List ℕ)) → AreNamedUpTo all (value ∷ rest) values → AreNamedUpTo all rest next

took : (name w value : List ℕ) (all rest : List (List ℕ × List ℕ)) (values next : Named) → same_word w name ≡ true → Adds value values next
    → AreNamedUpTo (values_named name all) (values_named name ((w, value) ∷ rest)) values → AreNamedUpTo (values_named name all) (values_named name rest) next
took name w value all rest values next same adds seen =
    let first : values_named name ((w, value) ∷ rest) ≡ value ∷ values_named name rest = rw same refl in
    adds (values_named name all) (values_named name rest) (subst (λ (t : List (List ℕ)). AreNamedUpTo (values_named name all) t values) first seen)

-- ---- Expect

asks_kept : (w value : List ℕ) (all rest : List (List ℕ × List ℕ)) (asks : Bool) → same_word w (codes "Expect") ≡ false
    → AsksUpTo (values_named (codes "Expect") all) (values_named (codes "Expect") ((w, value) ∷ rest)) asks → AsksUpTo (values_named (codes "Expect") all) (values_named (codes "Expect") rest) asks
asks_kept w value all rest asks differs seen = rw differs at seen

asks_first : (w value : List ℕ) (all rest : List (List ℕ × List ℕ)) (asks next : Bool) → same_word w (codes "Expect") ≡ true → asks ≡ false → next ≡ is_continue value
    → AsksUpTo (values_named (codes "Expect") all) (values_named (codes "Expect") ((w, value) ∷ rest)) asks → AsksUpTo (values_named (codes "Expect") all) (values_named (codes "Expect") rest) next
asks_first w value all rest asks next same none is seen = rw is (rw (same, none) at seen)

-- ---- all four

pub found_none : (w value : List ℕ) (all rest : List (List ℕ × List ℕ)) (found : Found) → same_word w (codes "Host") ≡ false → same_word w (codes "Transfer-Encoding") ≡ false → same_word w (codes "Content-Length") ≡ false → same_word w (codes "Expect") ≡ false
    → AreFoundUpTo all ((w, value) ∷ rest) found → AreFoundUpTo all rest found
found_none w value all rest found a b c d seen = record {
  hosts = kept (codes "Host") w value all rest found.hosts a seen.hosts;
  codings = kept (codes "Transfer-Encoding") w value all rest found.codings b seen.codings;
  lengths = kept (codes "Content-Length") w value all rest found.lengths c seen.lengths;
  continues = asks_kept w value all rest found.continues d seen.continues;
}

pub found_host : (w value : List ℕ) (all rest : List (List ℕ × List ℕ)) (found : Found) (next : Named) → length w ≡ 4 → same_word w (codes "Host") ≡ true → Adds value found.hosts next
    → AreFoundUpTo all ((w, value) ∷ rest) found → AreFoundUpTo all rest (record { hosts = next; codings = found.codings; lengths = found.lengths; continues = found.continues })
found_host w value all rest found next size same adds seen = record {
  hosts = took (codes "Host") w value all rest found.hosts next same adds seen.hosts;
  codings = kept (codes "Transfer-Encoding") w value all rest found.codings (other_word w (codes "Transfer-Encoding") 4 17 size refl (λ e. absurd (omega (arith, e)))) seen.codings;
  lengths = kept (codes "Content-Length") w value all rest found.lengths (other_word w (codes "Content-Length") 4 14 size refl (λ e. absurd (omega (arith, e)))) seen.lengths;
  continues = asks_kept w value all rest found.continues (other_word w (codes "Expect") 4 6 size refl (λ e. absurd (omega (arith, e)))) seen.continues;
}

pub found_length : (w value : List ℕ) (all rest : List (List ℕ × List ℕ)) (found : Found) (next : Named) → length w ≡ 14 → same_word w (codes "Content-Length") ≡ true → Adds value found.lengths next
    → AreFoundUpTo all ((w, value) ∷ rest) found → AreFoundUpTo all rest (record { hosts = found.hosts; codings = found.codings; lengths = next; continues = found.continues })
found_length w value all rest found next size same adds seen = record {
  hosts = kept (codes "Host") w value all rest found.hosts (other_word w (codes "Host") 14 4 size refl (λ e. absurd (omega (arith, e)))) seen.hosts;
  codings = kept (codes "Transfer-Encoding") w value all rest found.codings (other_word w (codes "Transfer-Encoding") 14 17 size refl (λ e. absurd (omega (arith, e)))) seen.codings;
  lengths = took (codes "Content-Length") w value all rest found.lengths next same adds seen.lengths;
  continues = asks_kept w value all rest found.continues (other_word w (codes "Expect") 14 6 size refl (λ e. absurd (omega (arith, e)))) seen.continues;
}

pub found_coding : (w value : List ℕ) (all rest : List (List ℕ × List ℕ)) (found : Found) (next : Named) → length w ≡ 17 → same_word w (codes "Transfer-Encoding") ≡ true → Adds value found.codings next
    → AreFoundUpTo all ((w, value) ∷ rest) found → AreFoundUpTo all rest (record { hosts = found.hosts; codings = next; lengths = found.lengths; continues = found.continues })
found_coding w value all rest found next size same adds seen = record {
  hosts = kept (codes "Host") w value all rest found.hosts (other_word w (codes "Host") 17 4 size refl (λ e. absurd (omega (arith, e)))) seen.hosts;
  codings = took (codes "Transfer-Encoding") w value all rest found.codings next same adds seen.codings;
  lengths = kept (codes "Content-Length") w value all rest found.lengths (other_word w (codes "Content-Length") 17 14 size refl (λ e. absurd (omega (arith, e)))) seen.lengths;
  continues = asks_kept w value all rest found.continues (other_word w (codes "Expect") 17 6 size refl (λ e. absurd (omega (arith, e)))) seen.continues;
}

pub found_expect : (w value : List ℕ) (all rest : List (List ℕ × List ℕ)) (found : Found) (next : Bool) → length w ≡ 6 → same_word w (codes "Expect") ≡ true → found.continues ≡ false → next ≡ is_continue value
    → AreFoundUpTo all ((w, value) ∷ rest) found → AreFoundUpTo all rest (record { hosts = found.hosts; codings = found.codings; lengths = found.lengths; continues = next })
found_expect w value all rest found next size same none is seen = record {
  hosts = kept (codes "Host") w value all rest found.hosts (other_word w (codes "Host") 6 4 size refl (λ e. absurd (omega (arith, e)))) seen.hosts;
  codings = kept (codes "Transfer-Encoding") w value all rest found.codings (other_word w (codes "Transfer-Encoding") 6 17 size refl (λ e. absurd (omega (arith, e)))) seen.codings;
  lengths = kept (codes "Content-Length") w value all rest found.lengths (other_word w (codes "Content-Length") 6 14 size refl (λ e. absurd (omega (arith, e)))) seen.lengths;
  continues = asks_first w value all rest found.continues next same none is seen.continues;
}

-- a field of such a length that has not the one such name
pub not_host : (w : List ℕ) → length w ≡ 4 → (same_word w (codes "Transfer-Encoding") ≡ false) × (same_word w (codes "Content-Length") ≡ false) × (same_word w (codes "Expect") ≡ false)
not_host w size = (other_word w (codes "Transfer-Encoding") 4 17 size refl (λ e. absurd (omega (arith, e))), other_word w (codes "Content-Length") 4 14 size refl (λ e. absurd (omega (arith, e))), other_word w (codes "Expect") 4 6 size refl (λ e. absurd (omega (arith, e))))

pub not_expect : (w : List ℕ) → length w ≡ 6 → (same_word w (codes "Host") ≡ false) × (same_word w (codes "Transfer-Encoding") ≡ false) × (same_word w (codes "Content-Length") ≡ false)
not_expect w size = (other_word w (codes "Host") 6 4 size refl (λ e. absurd (omega (arith, e))), other_word w (codes "Transfer-Encoding") 6 17 size refl (λ e. absurd (omega (arith, e))), other_word w (codes "Content-Length") 6 14 size refl (λ e. absurd (omega (arith, e))))

pub not_length : (w : List ℕ) → length w ≡ 14 → (same_word w (codes "Host") ≡ false) × (same_word w (codes "Transfer-Encoding") ≡ false) × (same_word w (codes "Expect") ≡ false)
not_length w size = (other_word w (codes "Host") 14 4 size refl (λ e. absurd (omega (arith, e))), other_word w (codes "Transfer-Encoding") 14 17 size refl (λ e. absurd (omega (arith, e))), other_word w (codes "Expect") 14 6 size refl (λ e. absurd (omega (arith, e))))

pub not_coding : (w : List ℕ) → length w ≡ 17 → (same_word w (codes "Host") ≡ false) × (same_word w (codes "Content-Length") ≡ false) × (same_word w (codes "Expect") ≡ false)
not_coding w size = (other_word w (codes "Host") 17 4 size refl (λ e. absurd (omega (arith, e))), other_word w (codes "Content-Length") 17 14 size refl (λ e. absurd (omega (arith, e))), other_word w (codes "Expect") 17 6 size refl (λ e. absurd (omega (arith, e))))
