-- Values are read as they are spelled.
use Rattle.std.proofs.Common.{◌≡◌, ℕ, ◌^◌, ◌<◌, Bool, true, false, cond, eqb, List, [], ◌∷◌, ◌++◌, length, Some, None, refl, sym, ap, subst, ◌∙◌, arith}
use Rattle.std.specs.Prelude.{IsTrue}
use Rattle.std.specs.Int.{w64, cast_signed, cast_unsigned}
use Rattle.std.specs.Str.{is_utf8}
use Rattle.std.proofs.Math.Facts.{sfits_to_z, Fits-of_z}
use Rattle.std.proofs.lemmas.Int.{of_z-to_z, to_z-of_z}
use Rattle.std.proofs.lemmas.Str.{IsUtf8-from_is_utf8, is_utf8-from_IsUtf8}
use Rattle.std.proofs.lemmas.Bool.{eqb-true}
use Rattle.okws_base.specs.Runs.{Each}
use Rattle.okws_base.specs.declared.value.Value.{Value}
use Rattle.okws_base.specs.declared.value.Value.TheVariants.{Int, Text, Bytes}
use Rattle.frame_codec.specs.Spelling.{eight, string, size, value, values, Spellable, Bytewise}
use Rattle.frame_codec.specs.Reading.{mapped, checked, byte_at, number_at, string_at, tagged_at, value_at}
use Rattle.frame_codec.specs.ServiceFields.{values_at}
use Rattle.frame_codec.proofs.Formats.{bytes_of, IsBytes, IsBytes-rest, IsFormat, map_some, eight_format, string_format, checked_format, counted_format}

text_format : IsFormat string (λ t. IsTrue (is_utf8 t)) (λ t. Bytewise t × IsTrue (is_utf8 t)) (checked is_utf8 string_at)
text_format = checked_format string (λ b. Unit {0}) Bytewise string_at is_utf8 string_format (λ t passes. tt)

-- a number below 2 ^ 64 stands for a number of 64 bits
int_takes : (bytes : List ℕ) (n : ℕ) (rest : List ℕ) → IsBytes bytes → number_at w64 bytes ≡ Some (n, rest)
    → (bytes ≡ bytes_of (eight (cast_unsigned w64 (cast_signed w64 n)) ∷ []) ++ rest) × Spellable (Int (cast_signed w64 n)) × IsBytes rest
int_takes bytes n rest fits e =
    let t = eight_format.takes bytes n rest fits e in
    let same : n ≡ cast_unsigned w64 (cast_signed w64 n) = sym (of_z-to_z w64 n t.1) in
    (t.0 ∙ ap (λ (m : ℕ). bytes_of (eight m ∷ []) ++ rest) same, sfits_to_z {w = w64} {n = n} (record { fits = t.1 }), t.2)

tagged_takes : (tag : ℕ) (bytes : List ℕ) (v : Value) (rest : List ℕ) → IsBytes bytes → tagged_at tag bytes ≡ Some (v, rest) → (tag ∷ bytes ≡ bytes_of (value v) ++ rest) × Spellable v × IsBytes rest
unfolding tagged_at
tagged_takes tag bytes v rest fits e = by_tag (eqb tag 1) refl (eqb tag 2) refl (eqb tag 3) refl e
  where
    by_tag : (a : Bool) → eqb tag 1 ≡ a → (b : Bool) → eqb tag 2 ≡ b → (c : Bool) → eqb tag 3 ≡ c
        → cond a (mapped (λ n. Int (cast_signed w64 n)) (number_at w64) bytes) (cond b (mapped Text (checked is_utf8 string_at) bytes) (cond c (mapped Bytes string_at bytes) None)) ≡ Some (v, rest)
        → (tag ∷ bytes ≡ bytes_of (value v) ++ rest) × Spellable v × IsBytes rest
    by_tag true is b _ c _ e =
        let m = map_some (number_at w64 bytes) (λ (a : ℕ × List ℕ). (Int (cast_signed w64 a.0), a.1)) (v, rest) e in
        let t = int_takes bytes m.0.0 m.0.1 fits m.1 in
        subst (λ (q : Value × List ℕ). (tag ∷ bytes ≡ bytes_of (value q.0) ++ q.1) × Spellable q.0 × IsBytes q.1) m.2 (cc (eqb-true _ _ is, t.0), t.1, t.2)
    by_tag false _ true is c _ e =
        let m = map_some (checked is_utf8 string_at bytes) (λ (a : List ℕ × List ℕ). (Text a.0, a.1)) (v, rest) e in
        let t = text_format.takes bytes m.0.0 m.0.1 fits m.1 in
        subst (λ (q : Value × List ℕ). (tag ∷ bytes ≡ bytes_of (value q.0) ++ q.1) × Spellable q.0 × IsBytes q.1) m.2 (cc (eqb-true _ _ is, t.0), IsUtf8-from_is_utf8 m.0.0 t.1.1, t.2)
    by_tag false _ false _ true is e =
        let m = map_some (string_at bytes) (λ (a : List ℕ × List ℕ). (Bytes a.0, a.1)) (v, rest) e in
        let t = string_format.takes bytes m.0.0 m.0.1 fits m.1 in
        subst (λ (q : Value × List ℕ). (tag ∷ bytes ≡ bytes_of (value q.0) ++ q.1) × Spellable q.0 × IsBytes q.1) m.2 (cc (eqb-true _ _ is, t.0), t.1, t.2)
    by_tag false _ false _ false _ e = absurd cc

value_takes : (bytes : List ℕ) (v : Value) (rest : List ℕ) → IsBytes bytes → value_at bytes ≡ Some (v, rest) → (bytes ≡ bytes_of (value v) ++ rest) × Spellable v × IsBytes rest
unfolding value_at byte_at
value_takes [] v rest fits e = absurd cc
value_takes (tag ∷ bytes) v rest fits e = tagged_takes tag bytes v rest (IsBytes-rest tag bytes fits) e

value_again : (v : Value) (rest : List ℕ) → Spellable v → size (value v) < 2 ^ 32 → value_at (bytes_of (value v) ++ rest) ≡ Some (v, rest)
unfolding value_at byte_at tagged_at
value_again (Int n) rest fits small =
    let back : cast_signed w64 (cast_unsigned w64 n) ≡ n = to_z-of_z w64 n fits in
    rw (eight_format.again (cast_unsigned w64 n) rest (Fits-of_z {w = w64} {z = n} fits).fits (omega arith), back) refl
value_again (Text t) rest fits small = rw (text_format.again t rest (is_utf8-from_IsUtf8 t fits) (omega arith)) refl
value_again (Bytes b) rest fits small = rw (string_format.again b rest tt (omega arith)) refl

-- ---- many values

pub value_format : IsFormat value Spellable Spellable value_at
value_format = record { takes = value_takes; again = value_again }

-- The values of a row behind their count.
pub values_format : IsFormat (λ vs. (length vs ∷ []) ∷ values vs) (Each Spellable) (λ vs. (length vs < 256) × Each Spellable vs) values_at
unfolding values_at
values_format = counted_format value Spellable Spellable value_at value_format
