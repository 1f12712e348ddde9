-- Hexadecimal digits are those of the crate `hex`.
use Rattle.std.proofs.Common.{◌≡◌, ℕ, ◌/◌, ◌%◌, ◌<◌, List, [], ◌∷◌, zero, suc, refl, ap, ◌∙◌, arith, slice_index}
use Rattle.std.specs.Result.{result_ok}
use Rattle.hex.specs.Hex.{lower_digits, encode_lower, encode_with, IsBytes}
use Rattle.hex.proofs.HexLemmas.{decode_of-encode_lower}
use Rattle.plain_text.specs.Hexadecimal.{hex_digit, hex, hex_bytes, HexIsReadAgain}

same_digit : (n : ℕ) → n < 16 → slice_index lower_digits n ≡ hex_digit n
same_digit zero h = refl
same_digit (suc zero) h = refl
same_digit (suc (suc zero)) h = refl
same_digit (suc (suc (suc zero))) h = refl
same_digit (suc (suc (suc (suc zero)))) h = refl
same_digit (suc (suc (suc (suc (suc zero))))) h = refl
same_digit (suc (suc (suc (suc (suc (suc zero)))))) h = refl
same_digit (suc (suc (suc (suc (suc (suc (suc zero))))))) h = refl
same_digit (suc (suc (suc (suc (suc (suc (suc (suc zero)))))))) h = refl
same_digit (suc (suc (suc (suc (suc (suc (suc (suc (suc zero))))))))) h = refl
same_digit (suc (suc (suc (suc (suc (suc (suc (suc (suc (suc zero)))))))))) h = refl
same_digit (suc (suc (suc (suc (suc (suc (suc (suc (suc (suc (suc zero))))))))))) h = refl
same_digit (suc (suc (suc (suc (suc (suc (suc (suc (suc (suc (suc (suc zero)))))))))))) h = refl
same_digit (suc (suc (suc (suc (suc (suc (suc (suc (suc (suc (suc (suc (suc zero))))))))))))) h = refl
same_digit (suc (suc (suc (suc (suc (suc (suc (suc (suc (suc (suc (suc (suc (suc zero)))))))))))))) h = refl
same_digit (suc (suc (suc (suc (suc (suc (suc (suc (suc (suc (suc (suc (suc (suc (suc zero))))))))))))))) h = refl
same_digit (suc (suc (suc (suc (suc (suc (suc (suc (suc (suc (suc (suc (suc (suc (suc (suc n)))))))))))))))) h = absurd (omega arith)

same : (bytes : List ℕ) → IsBytes bytes → hex bytes ≡ encode_lower bytes
unfolding encode_with
same [] h = refl
same (b ∷ more) h =
    let byte : b < 256 = h 0 in
    let high : b / 16 < 16 = omega arith in
    let low : b % 16 < 16 = omega arith in
    rw (same_digit (b / 16) high, same_digit (b % 16) low) (ap (λ (text : List ℕ). hex_digit (b / 16) ∷ hex_digit (b % 16) ∷ text) (same more (λ i. h (suc i))))

pub hex_is_read_again : HexIsReadAgain
hex_is_read_again bytes h = ap hex_bytes (same bytes h) ∙ ap result_ok (decode_of-encode_lower bytes h)
