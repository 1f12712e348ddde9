-- What is read as a payload is one, and a payload is read.
use Rattle.std.proofs.Common.{◌≡◌, ℕ, ◌^◌, ◌<◌, Bool, true, false, cond, eqb, List, [], ◌∷◌, ◌++◌, length, Some, None, refl, ap, arith}
use Rattle.std.specs.Prelude.{option_map, IsTrue, ◌&&◌, nat_le}
use Rattle.std.specs.Int.{w16, w32}
use Rattle.std.proofs.lemmas.Bool.Decides.{nat_tests}
use Rattle.std.proofs.lemmas.List.Sums.{sum_by-cons}
use Rattle.okws_base.specs.Runs.{Each}
use Rattle.okws_base.specs.declared.value.Value.{Value}
use Rattle.frame_codec.specs.declared.frame.ServiceFrame.{ServiceFrame}
use Rattle.frame_codec.specs.declared.frame.ServiceFrame.TheVariants.{Open, Call, Get, Log, Reply}
use Rattle.frame_codec.specs.Spelling.{two, four, name, string, values, size, service_parts, Fits, Spellable, Bytewise, is_reply_status, is_content_type, is_location}
use Rattle.frame_codec.specs.Reading.{checked, fixed_at, number_at, name_at, string_at, all_of, payload_at}
use Rattle.frame_codec.specs.ServiceFields.{values_at, open_at, call_at, reply_at, open_frame, call_frame, reply_frame, service_fields_at}
use Rattle.frame_codec.proofs.Formats.{bytes_of, IsBytes, IsBytes-rest, IsFormat, fixed_format, both_format, checked_format, two_format, four_format, name_format, string_format, all_again, kind_takes, ReadsAsSpelled}
use Rattle.frame_codec.proofs.Values.{values_format}

-- ---- what a Reply's tests tell

status_small : (n : ℕ) → IsTrue (is_reply_status n) → n < 2 ^ 16
status_small n is = grind (arith, nat_tests)

and_true : (a b : Bool) → (a && b) ≡ true → (a ≡ true) × (b ≡ true)
and_true true b e = (refl, e)
and_true false b e = absurd cc

short_name : (n : ℕ) → nat_le n 255 ≡ true → n < 256
short_name n le = grind (arith, nat_tests)

content_type_short : (t : List ℕ) → IsTrue (is_content_type t) → length t < 256
content_type_short t is = short_name (length t) (and_true _ _ (and_true _ _ is).1).0

location_short : (t : List ℕ) → IsTrue (is_location t) → length t < 256
location_short t is = short_name (length t) (and_true _ _ is).0

-- ---- the fields of each kind

pub open_format : IsFormat (λ (p : ℕ × List ℕ). two p.0 ∷ p.1 ∷ []) (λ p. (p.0 < 2 ^ 16) × (length p.1 ≡ 20)) (λ p. (p.0 < 2 ^ 16) × ((length p.1 ≡ 20) × Bytewise p.1)) open_at
open_format = both_format (λ n. two n ∷ []) (λ n. n < 2 ^ 16) (λ n. n < 2 ^ 16) (number_at w16) (λ b. b ∷ []) (λ b. length b ≡ 20) (λ b. (length b ≡ 20) × Bytewise b) (fixed_at 20) two_format (fixed_format 20)

pub call_format : IsFormat (λ (p : ℕ × (ℕ × (ℕ × List Value))). two p.0 ∷ four p.1.0 ∷ two p.1.1.0 ∷ (length p.1.1.1 ∷ []) ∷ values p.1.1.1)
    (λ p. (p.0 < 2 ^ 16) × ((p.1.0 < 2 ^ 32) × ((p.1.1.0 < 2 ^ 16) × Each Spellable p.1.1.1)))
    (λ p. (p.0 < 2 ^ 16) × ((p.1.0 < 2 ^ 32) × ((p.1.1.0 < 2 ^ 16) × ((length p.1.1.1 < 256) × Each Spellable p.1.1.1)))) call_at
call_format =
    both_format (λ n. two n ∷ []) (λ n. n < 2 ^ 16) (λ n. n < 2 ^ 16) (number_at w16) _ _ _ _ two_format
    (both_format (λ n. four n ∷ []) (λ n. n < 2 ^ 32) (λ n. n < 2 ^ 32) (number_at w32) _ _ _ _ four_format
    (both_format (λ n. two n ∷ []) (λ n. n < 2 ^ 16) (λ n. n < 2 ^ 16) (number_at w16) (λ vs. (length vs ∷ []) ∷ values vs) (Each Spellable) (λ vs. (length vs < 256) × Each Spellable vs) values_at two_format values_format))

status_format : IsFormat (λ n. two n ∷ []) (λ n. IsTrue (is_reply_status n)) (λ n. (n < 2 ^ 16) × IsTrue (is_reply_status n)) (checked is_reply_status (number_at w16))
status_format = checked_format (λ n. two n ∷ []) (λ n. n < 2 ^ 16) (λ n. n < 2 ^ 16) (number_at w16) is_reply_status two_format status_small

content_type_format : IsFormat name (λ t. IsTrue (is_content_type t)) (λ t. ((length t < 256) × Bytewise t) × IsTrue (is_content_type t)) (checked is_content_type name_at)
content_type_format = checked_format name (λ b. length b < 256) (λ b. (length b < 256) × Bytewise b) name_at is_content_type name_format content_type_short

location_format : IsFormat name (λ t. IsTrue (is_location t)) (λ t. ((length t < 256) × Bytewise t) × IsTrue (is_location t)) (checked is_location name_at)
location_format = checked_format name (λ b. length b < 256) (λ b. (length b < 256) × Bytewise b) name_at is_location name_format location_short

pub reply_format : IsFormat (λ (p : ℕ × (List ℕ × (List ℕ × List ℕ))). (two p.0 ∷ []) ++ (name p.1.0 ++ (name p.1.1.0 ++ string p.1.1.1)))
    (λ p. IsTrue (is_reply_status p.0) × (IsTrue (is_content_type p.1.0) × (IsTrue (is_location p.1.1.0) × Unit {0})))
    (λ p. ((p.0 < 2 ^ 16) × IsTrue (is_reply_status p.0)) × ((((length p.1.0 < 256) × Bytewise p.1.0) × IsTrue (is_content_type p.1.0)) × ((((length p.1.1.0 < 256) × Bytewise p.1.1.0) × IsTrue (is_location p.1.1.0)) × Bytewise p.1.1.1))) reply_at
reply_format =
    both_format _ _ _ _ _ _ _ _ status_format
    (both_format _ _ _ _ _ _ _ _ content_type_format
    (both_format _ _ _ _ _ _ _ _ location_format string_format))

-- ---- payloads

payload_again : (frame : ServiceFrame) → Fits frame → size (service_parts frame) < 2 ^ 32 → payload_at service_fields_at (bytes_of (service_parts frame)) ≡ Some frame
unfolding service_fields_at
payload_again (Open p shown) fits small = ap (option_map open_frame) (all_again _ _ _ open_at open_format (p, shown.bytes) (fits.0, fits.1.0) (omega (arith, sum_by-cons length (0x41 ∷ []) (two p ∷ shown.bytes ∷ []))))
payload_again (Call p n q args) fits small = ap (option_map call_frame) (all_again _ _ _ call_at call_format (p, (n, (q, args))) (fits.0, (fits.1, (fits.2, fits.4))) (omega (arith, sum_by-cons length (0x42 ∷ []) (two p ∷ four n ∷ two q ∷ (length args ∷ []) ∷ values args))))
payload_again (Get n) fits small = ap (option_map Get) (all_again _ _ _ name_at name_format n fits.0 (omega (arith, sum_by-cons length (0x43 ∷ []) (name n))))
payload_again (Log text) fits small = ap (option_map Log) (all_again _ _ _ string_at string_format text tt (omega (arith, sum_by-cons length (0x44 ∷ []) (string text))))
payload_again (Reply status content_type location content) fits small =
    ap (option_map reply_frame) (all_again _ _ _ reply_at reply_format (status, (content_type, (location, content))) (fits.0, (fits.1, (fits.2, tt))) (omega (arith, sum_by-cons length (0x45 ∷ []) (two status ∷ (name content_type ++ name location ++ string content)))))

payload_takes : (bytes : List ℕ) (frame : ServiceFrame) → IsBytes bytes → payload_at service_fields_at bytes ≡ Some frame → (bytes ≡ bytes_of (service_parts frame)) × Fits frame
unfolding service_fields_at
payload_takes [] frame fits e = absurd cc
payload_takes (kind ∷ bytes) frame fits e = by_kind (eqb kind 0x41) refl (eqb kind 0x42) refl (eqb kind 0x43) refl (eqb kind 0x44) refl (eqb kind 0x45) refl e
  where
    by_kind : (a : Bool) → eqb kind 0x41 ≡ a → (b : Bool) → eqb kind 0x42 ≡ b → (c : Bool) → eqb kind 0x43 ≡ c → (d : Bool) → eqb kind 0x44 ≡ d → (r : Bool) → eqb kind 0x45 ≡ r
        → cond a (option_map open_frame (all_of (open_at bytes))) (cond b (option_map call_frame (all_of (call_at bytes))) (cond c (option_map Get (all_of (name_at bytes))) (cond d (option_map Log (all_of (string_at bytes))) (cond r (option_map reply_frame (all_of (reply_at bytes))) None)))) ≡ Some frame
        → (kind ∷ bytes ≡ bytes_of (service_parts frame)) × Fits frame
    by_kind true is b _ c _ d _ r _ e = kind_takes service_parts Fits _ _ _ open_at open_frame 0x41 kind open_format (λ p g. (g.0, g.1)) (λ p. refl) bytes frame (IsBytes-rest kind bytes fits) is e
    by_kind false _ true is c _ d _ r _ e = kind_takes service_parts Fits _ _ _ call_at call_frame 0x42 kind call_format (λ p g. (g.0, g.1.0, g.1.1.0, g.1.1.1.0, g.1.1.1.1)) (λ p. refl) bytes frame (IsBytes-rest kind bytes fits) is e
    by_kind false _ false _ true is d _ r _ e = kind_takes service_parts Fits _ _ _ name_at Get 0x43 kind name_format (λ p g. g) (λ p. refl) bytes frame (IsBytes-rest kind bytes fits) is e
    by_kind false _ false _ false _ true is r _ e = kind_takes service_parts Fits _ _ _ string_at Log 0x44 kind string_format (λ p g. g) (λ p. refl) bytes frame (IsBytes-rest kind bytes fits) is e
    by_kind false _ false _ false _ false _ true is e = kind_takes service_parts Fits _ _ _ reply_at reply_frame 0x45 kind reply_format (λ p g. (g.0.1, g.1.0.1, g.1.1.0.1, g.1.1.1)) (λ p. refl) bytes frame (IsBytes-rest kind bytes fits) is e
    by_kind false _ false _ false _ false _ false _ e = absurd cc

-- What a service says is read as it is spelled.
pub service_as_spelled : ReadsAsSpelled service_parts Fits service_fields_at
service_as_spelled = record { takes = payload_takes; again = payload_again }
