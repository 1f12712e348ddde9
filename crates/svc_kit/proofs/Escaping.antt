-- What holds of escaped values.
use Rattle.std.proofs.Common.{◌≡◌, ℕ, Bool, true, false, ◌==◌, List, [], ◌∷◌, ◌++◌, Some, None, ◌+◌, ◌<◌, length, take, slice_index_or, arith, refl, sym, ap, ◌∙◌, subst}
use Rattle.std.specs.Prelude.{Option}
use Rattle.std.specs.List.{list_all}
use Rattle.std.proofs.lemmas.Bool.{eqb-true}
use Rattle.std.proofs.lemmas.Grind.{common_steps}
use Rattle.svc_kit.specs.Escape.{escaped_byte, escaped, reference, unescaped_behind, is_no_markup, OnlyReferences, EscapedHasNoMarkup, EscapedHasOnlyReferences, EscapedIsReadAgain}

-- A byte is one of the five, or none of them.
data Byte (b : ℕ) : Type 0 where
  ampersand : b ≡ 38 → Byte b
  less : b ≡ 60 → Byte b
  greater : b ≡ 62 → Byte b
  double : b ≡ 34 → Byte b
  single : b ≡ 39 → Byte b
  other : (b == 38) ≡ false → (b == 60) ≡ false → (b == 62) ≡ false → (b == 34) ≡ false → (b == 39) ≡ false → Byte b

by_tests : (b : ℕ) (s t u v w : Bool) → (b == 38) ≡ s → (b == 60) ≡ t → (b == 62) ≡ u → (b == 34) ≡ v → (b == 39) ≡ w → Byte b
by_tests b true t u v w hs ht hu hv hw = ampersand (eqb-true b 38 hs)
by_tests b false true u v w hs ht hu hv hw = less (eqb-true b 60 ht)
by_tests b false false true v w hs ht hu hv hw = greater (eqb-true b 62 hu)
by_tests b false false false true w hs ht hu hv hw = double (eqb-true b 34 hv)
by_tests b false false false false true hs ht hu hv hw = single (eqb-true b 39 hw)
by_tests b false false false false false hs ht hu hv hw = other hs ht hu hv hw

byte : (b : ℕ) → Byte b
byte b = by_tests b _ _ _ _ _ refl refl refl refl refl

-- one byte more
pub escaped_more : (text value : List ℕ) (i b : ℕ) → i < length value → b ≡ slice_index_or value i 0 → (text ++ escaped (take i value)) ++ escaped_byte b ≡ text ++ escaped (take (i + 1) value)
escaped_more text value i b below is = grind (arith, common_steps)

-- ---- no markup

plain_then : (b : ℕ) (rest : List ℕ) → Byte b → list_all is_no_markup rest ≡ true → list_all is_no_markup (escaped_byte b ++ rest) ≡ true
plain_then b rest (ampersand e) h = subst (λ (b : ℕ). list_all is_no_markup (escaped_byte b ++ rest) ≡ true) (sym e) h
plain_then b rest (less e) h = subst (λ (b : ℕ). list_all is_no_markup (escaped_byte b ++ rest) ≡ true) (sym e) h
plain_then b rest (greater e) h = subst (λ (b : ℕ). list_all is_no_markup (escaped_byte b ++ rest) ≡ true) (sym e) h
plain_then b rest (double e) h = subst (λ (b : ℕ). list_all is_no_markup (escaped_byte b ++ rest) ≡ true) (sym e) h
plain_then b rest (single e) h = subst (λ (b : ℕ). list_all is_no_markup (escaped_byte b ++ rest) ≡ true) (sym e) h
plain_then b rest (other s t u v w) h = rw (s, t, u, v, w) (rw (t, u, v, w) h)

all_plain : (value : List ℕ) → list_all is_no_markup (escaped value) ≡ true
all_plain [] = refl
all_plain (b ∷ more) = plain_then b (escaped more) (byte b) (all_plain more)

pub has_no_markup : EscapedHasNoMarkup
has_no_markup value = all_plain value

-- ---- only references

no_reference : (b : ℕ) (rest : List ℕ) → (b == 38) ≡ false → reference (b ∷ rest) ≡ None
unfolding reference
no_reference b rest h = rw h refl

isnt : (b : ℕ) (A : Type 0) → (b == 38) ≡ false → b ≡ 38 → A
isnt b A h e = absurd (cc (ap (λ n. n == 38) e))

references_then : (b : ℕ) (rest : List ℕ) → Byte b → OnlyReferences rest → OnlyReferences (escaped_byte b ++ rest)
unfolding reference
references_then b rest (ampersand e) h = subst (λ (b : ℕ). OnlyReferences (escaped_byte b ++ rest)) (sym e) ((λ _. refl), (isnt 97 _ refl, (isnt 109 _ refl, (isnt 112 _ refl, (isnt 59 _ refl, h)))))
references_then b rest (less e) h = subst (λ (b : ℕ). OnlyReferences (escaped_byte b ++ rest)) (sym e) ((λ _. refl), (isnt 108 _ refl, (isnt 116 _ refl, (isnt 59 _ refl, h))))
references_then b rest (greater e) h = subst (λ (b : ℕ). OnlyReferences (escaped_byte b ++ rest)) (sym e) ((λ _. refl), (isnt 103 _ refl, (isnt 116 _ refl, (isnt 59 _ refl, h))))
references_then b rest (double e) h = subst (λ (b : ℕ). OnlyReferences (escaped_byte b ++ rest)) (sym e) ((λ _. refl), (isnt 113 _ refl, (isnt 117 _ refl, (isnt 111 _ refl, (isnt 116 _ refl, (isnt 59 _ refl, h))))))
references_then b rest (single e) h = subst (λ (b : ℕ). OnlyReferences (escaped_byte b ++ rest)) (sym e) ((λ _. refl), (isnt 35 _ refl, (isnt 51 _ refl, (isnt 57 _ refl, (isnt 59 _ refl, h)))))
references_then b rest (other s t u v w) h = rw (s, t, u, v, w) ((λ e. isnt b _ s e), h)

all_references : (value : List ℕ) → OnlyReferences (escaped value)
all_references [] = tt
all_references (b ∷ more) = references_then b (escaped more) (byte b) (all_references more)

pub has_only_references : EscapedHasOnlyReferences
has_only_references value = all_references value

-- ---- read again

read_other : (b : ℕ) (rest : List ℕ) → (b == 38) ≡ false → unescaped_behind 0 (b ∷ rest) ≡ b ∷ unescaped_behind 0 rest
unfolding unescaped_behind
read_other b rest h = ap (λ (r : Option (ℕ × ℕ)). elim r as (λ _. List ℕ) [ None ↦ b ∷ unescaped_behind 0 rest | Some s ↦ s.0 ∷ unescaped_behind s.1 rest ]) (no_reference b rest h)

read_then : (b : ℕ) (rest : List ℕ) → Byte b → unescaped_behind 0 (escaped_byte b ++ rest) ≡ b ∷ unescaped_behind 0 rest
unfolding reference unescaped_behind
read_then b rest (ampersand e) = subst (λ (b : ℕ). unescaped_behind 0 (escaped_byte b ++ rest) ≡ b ∷ unescaped_behind 0 rest) (sym e) refl
read_then b rest (less e) = subst (λ (b : ℕ). unescaped_behind 0 (escaped_byte b ++ rest) ≡ b ∷ unescaped_behind 0 rest) (sym e) refl
read_then b rest (greater e) = subst (λ (b : ℕ). unescaped_behind 0 (escaped_byte b ++ rest) ≡ b ∷ unescaped_behind 0 rest) (sym e) refl
read_then b rest (double e) = subst (λ (b : ℕ). unescaped_behind 0 (escaped_byte b ++ rest) ≡ b ∷ unescaped_behind 0 rest) (sym e) refl
read_then b rest (single e) = subst (λ (b : ℕ). unescaped_behind 0 (escaped_byte b ++ rest) ≡ b ∷ unescaped_behind 0 rest) (sym e) refl
read_then b rest (other s t u v w) = rw (s, t, u, v, w) (read_other b rest s)

all_read : (value : List ℕ) → unescaped_behind 0 (escaped value) ≡ value
unfolding unescaped_behind
all_read [] = refl
all_read (b ∷ more) = read_then b (escaped more) (byte b) ∙ ap (λ (rest : List ℕ). b ∷ rest) (all_read more)

pub is_read_again : EscapedIsReadAgain
is_read_again value = all_read value
