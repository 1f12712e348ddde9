-- A whole frame of either direction.
use Rattle.std.proofs.Common.{◌≡◌, ℕ, ◌+◌, ◌^◌, ◌<◌, ◌≤◌, Bool, true, false, cond, eqb, ltb, List, ◌++◌, length, take, drop, Option, Some, None, refl, sym, ap, subst, ◌∙◌, append_assoc, arith, inl, inr}
use Rattle.std.specs.Prelude.{option_map, IsTrue}
use Rattle.std.specs.Int.{w32, from_be_bytes}
use Rattle.std.proofs.lemmas.Bool.{ltb-false, le-ltb, ltb-true}
use Rattle.std.proofs.lemmas.Bool.Decides.{nat_tests}
use Rattle.std.proofs.lemmas.Grind.{common_steps}
use Rattle.std.proofs.lemmas.List.{take_at, take-append-drop, length-append, length-take-le}
use Rattle.frame_codec.specs.declared.reading.Read.{Read}
use Rattle.frame_codec.specs.declared.reading.Read.TheVariants.{Frame, Short, BadFrame, NoMemory}
use Rattle.frame_codec.specs.Spelling.{four, size, framed, SpellsBy, is_lawful_length}
use Rattle.frame_codec.specs.Stream.{BeginsBy, IsShort}
use Rattle.frame_codec.specs.Reading.{number_at, fixed_at, payload_at}
use Rattle.frame_codec.specs.Answer.{TellsBy, given, sized, headed, frame_at, IsAnswer, IsFrame}
use Rattle.frame_codec.proofs.Sizes.{length-four}
use Rattle.frame_codec.proofs.Formats.{bytes_of, length-bytes_of, joined-is, IsBytes, IsBytes-take, ReadsAsSpelled, four_again, four_takes}

-- ---- lawful lengths

pub lawful_bounds : (n : ℕ) → IsTrue (is_lawful_length n) → (0 < n) × (n ≤ 1048576)
lawful_bounds n is = (grind (arith, nat_tests), grind (arith, nat_tests))

pub bounds_lawful : (n : ℕ) → 0 < n → n ≤ 1048576 → IsTrue (is_lawful_length n)
bounds_lawful n low high = grind (arith, nat_tests)

not_zero : (n : ℕ) → 0 < n → eqb n 0 ≡ false
not_zero n h = grind (arith, nat_tests)

above_zero : (n : ℕ) → eqb n 0 ≡ false → 0 < n
above_zero n h = grind (arith, nat_tests)

-- ---- what is spelled is read

-- whatever reader answers of a payload
pub sized_again : {F : Type 0} (fields : ℕ → List ℕ → Option F) (n : ℕ) (body rest : List ℕ) → IsTrue (is_lawful_length n) → length body ≡ n → sized fields n (body ++ rest) ≡ given (payload_at fields body) (4 + n)
sized_again fields n body rest lawful len =
    let bounds = lawful_bounds n lawful in
    let long : ltb (length (body ++ rest)) n ≡ false = le-ltb _ _ (omega (arith, length-append body rest)) in
    let small : ltb 1048576 n ≡ false = le-ltb _ _ bounds.1 in
    rw (not_zero n bounds.0, small, long, take_at body rest n len) refl

pub frame_again : {F : Type 0} (parts : F → List (List ℕ)) (fit : F → Type 0) (fields : ℕ → List ℕ → Option F) → ReadsAsSpelled parts fit fields → (front rest : List ℕ) (frame : F) → SpellsBy parts fit front frame → frame_at fields (front ++ rest) ≡ given (Some frame) (length front)
unfolding frame_at
frame_again {F} parts fit fields law front rest frame s =
    let n : ℕ = size (parts frame) in
    let body : List ℕ = bytes_of (parts frame) in
    let len : length body ≡ n = length-bytes_of (parts frame) in
    let is : front ≡ four n ++ body = s.spelled ∙ joined-is (four n) (parts frame) in
    let total : length front ≡ 4 + n = ap length is ∙ length-append (four n) body ∙ omega (arith, length-four n, len) in
    let small : n < 2 ^ 32 = omega (arith, (lawful_bounds n s.lawful).1) in
    ap (λ (t : List ℕ). headed fields (number_at w32 (t ++ rest))) is
    ∙ ap (λ (t : List ℕ). headed fields (number_at w32 t)) (append_assoc (four n) body rest)
    ∙ ap (headed fields) (four_again n (body ++ rest) small)
    ∙ sized_again fields n body rest s.lawful len
    ∙ ap (λ (o : Option F). given o (4 + n)) (law.again frame s.fits small)
    ∙ ap (given (Some frame)) (sym total)

below_four : (n : ℕ) → n < 4 → ltb n 4 ≡ true
below_four n h = grind (arith, nat_tests)

below : (m n : ℕ) → m < n → ltb m n ≡ true
below m n h = grind (arith, nat_tests)

few_again : {F : Type 0} (fields : ℕ → List ℕ → Option F) (bytes : List ℕ) → length bytes < 4 → frame_at fields bytes ≡ Short
unfolding frame_at number_at fixed_at
few_again fields bytes few = rw (below_four (length bytes) few) refl

part_again : {F : Type 0} (fields : ℕ → List ℕ → Option F) (n : ℕ) (rest bytes : List ℕ) → IsTrue (is_lawful_length n) → bytes ≡ four n ++ rest → length rest < n → frame_at fields bytes ≡ Short
unfolding frame_at
part_again fields n rest bytes lawful is lt =
    let bounds = lawful_bounds n lawful in
    let small : ltb 1048576 n ≡ false = le-ltb _ _ bounds.1 in
    ap (λ (t : List ℕ). headed fields (number_at w32 t)) is ∙ ap (headed fields) (four_again n rest (omega (arith, bounds.1))) ∙ rw (not_zero n bounds.0, small, below (length rest) n lt) refl

pub short_again : {F : Type 0} (fields : ℕ → List ℕ → Option F) (bytes : List ℕ) → IsShort bytes → frame_at fields bytes ≡ Short
short_again fields bytes (inl few) = few_again fields bytes few
short_again fields bytes (inr part) = part_again fields part.0 part.1 bytes part.2 part.3 part.4

-- ---- what is read is spelled so

take_front : (head rest : List ℕ) (n : ℕ) → length head ≡ 4 → take (4 + n) (head ++ rest) ≡ head ++ take n rest
take_front head rest n h = grind (arith, common_steps)

-- what is known where tests gave a frame
record IsFound {F : Type 0} (b d l : Bool) (o : Option F) (n : ℕ) (frame : F) (taken : ℕ) : Type 0 where
  positive : b ≡ false
  small : d ≡ false
  whole : l ≡ false
  is : o ≡ Some frame
  takes : taken ≡ n

tests_found : {F : Type 0} (b d l : Bool) (o : Option F) (n : ℕ) (frame : F) (taken : ℕ) → cond b BadFrame (cond d BadFrame (cond l Short (given o n))) ≡ Frame frame taken → IsFound b d l o n frame taken
tests_found true d l o n frame taken e = absurd cc
tests_found false true l o n frame taken e = absurd cc
tests_found false false true o n frame taken e = absurd cc
tests_found false false false None n frame taken e = absurd cc
tests_found false false false (Some f) n frame taken e = record { positive = refl; small = refl; whole = refl; is = cc; takes = cc }

not_short : {F : Type 0} (o : Option F) (n : ℕ) → given o n ≡ Short → ⊥
not_short None n e = cc
not_short (Some f) n e = cc

tests_short : {F : Type 0} (b d l : Bool) (o : Option F) (n : ℕ) → cond b BadFrame (cond d BadFrame (cond l Short (given o n))) ≡ Short → (b ≡ false) × (d ≡ false) × (l ≡ true)
tests_short true d l o n e = absurd cc
tests_short false true l o n e = absurd cc
tests_short false false true o n e = (refl, refl, refl)
tests_short false false false o n e = absurd (not_short o n e)

frame_found : {F : Type 0} (parts : F → List (List ℕ)) (fit : F → Type 0) (fields : ℕ → List ℕ → Option F) → ReadsAsSpelled parts fit fields → (bytes : List ℕ) (frame : F) (taken : ℕ) → IsBytes bytes → frame_at fields bytes ≡ Frame frame taken → TellsBy parts fit bytes (Frame frame taken)
unfolding frame_at
frame_found {F} parts fit fields law bytes frame taken fits e = by_head (number_at w32 bytes) refl e
  where
    by_head : (o : Option (ℕ × List ℕ)) → number_at w32 bytes ≡ o → headed fields o ≡ Frame frame taken → TellsBy parts fit bytes (Frame frame taken)
    by_head None was e = absurd cc
    by_head (Some a) was e =
        let n : ℕ = a.0 in
        let t = four_takes bytes n a.1 fits was in
        let s = tests_found (eqb n 0) (ltb 1048576 n) (ltb (length a.1) n) (payload_at fields (take n a.1)) (4 + n) frame taken e in
        let p = law.takes (take n a.1) frame (IsBytes-take n a.1 t.1) s.is in
        let enough : n ≤ length a.1 = ltb-false _ _ s.whole in
        let all : length bytes ≡ 4 + length a.1 = ap length t.0 ∙ length-append (four n) a.1 ∙ omega (arith, length-four n) in
        let len : size (parts frame) ≡ n = sym (length-bytes_of (parts frame)) ∙ ap length (sym p.0) ∙ length-take-le n a.1 enough in
        let whole : take taken bytes ≡ framed (parts frame) =
        ap (λ (k : ℕ). take k bytes) s.takes ∙ ap (take (4 + n)) t.0 ∙ take_front (four n) a.1 n (length-four n) ∙ ap (λ (b : List ℕ). four n ++ b) p.0
        ∙ ap (λ (m : ℕ). four m ++ bytes_of (parts frame)) (sym len) ∙ sym (joined-is (four (size (parts frame))) (parts frame)) in
        (omega (arith, s.takes, all, enough), record { fits = p.1; lawful = subst (λ (m : ℕ). IsTrue (is_lawful_length m)) (sym len) (bounds_lawful n (above_zero n s.positive) (ltb-false _ _ s.small)); spelled = whole })

none_short : (bytes : List ℕ) → number_at w32 bytes ≡ None → length bytes < 4
unfolding number_at fixed_at
none_short bytes e = by_test (ltb (length bytes) 4) refl e
  where
    by_test : (b : Bool) → ltb (length bytes) 4 ≡ b → option_map {U = ℕ × List ℕ} (λ (a : List ℕ × List ℕ). (from_be_bytes w32 a.0, a.1)) (cond b None (Some (take 4 bytes, drop 4 bytes))) ≡ None → length bytes < 4
    by_test true is e = ltb-true _ _ is
    by_test false is e = absurd cc

frame_short : {F : Type 0} (fields : ℕ → List ℕ → Option F) (bytes : List ℕ) → IsBytes bytes → frame_at fields bytes ≡ Short → IsShort bytes
unfolding frame_at
frame_short fields bytes fits e = by_head (number_at w32 bytes) refl e
  where
    by_head : (o : Option (ℕ × List ℕ)) → number_at w32 bytes ≡ o → headed fields o ≡ Short → IsShort bytes
    by_head None was e = inl (none_short bytes was)
    by_head (Some a) was e =
        let t = four_takes bytes a.0 a.1 fits was in
        let s = tests_short (eqb a.0 0) (ltb 1048576 a.0) (ltb (length a.1) a.0) (payload_at fields (take a.0 a.1)) (4 + a.0) e in
        inr (a.0, a.1, bounds_lawful a.0 (above_zero a.0 s.0) (ltb-false _ _ s.1), t.0, ltb-true _ _ s.2)

frame_bad : {F : Type 0} (parts : F → List (List ℕ)) (fit : F → Type 0) (fields : ℕ → List ℕ → Option F) → ReadsAsSpelled parts fit fields → (bytes : List ℕ) → frame_at fields bytes ≡ BadFrame → TellsBy parts fit bytes BadFrame
frame_bad {F} parts fit fields law bytes e = (
  λ frame rest begins. given_is frame (length begins.0) (sym (frame_again parts fit fields law begins.0 rest frame begins.1) ∙ ap (frame_at fields) (sym begins.2) ∙ e),
  λ short. let other = short_again fields bytes short in cc,
)
  where
    given_is : (frame : F) (n : ℕ) → given (Some frame) n ≡ BadFrame → ⊥
    given_is frame n is = cc

-- a frame stands where one is expected
frame_stands : {F : Type 0} (parts : F → List (List ℕ)) (fit : F → Type 0) (fields : ℕ → List ℕ → Option F) → ReadsAsSpelled parts fit fields → (bytes : List ℕ) (expected : Read F) → IsBytes bytes → frame_at fields bytes ≡ expected → IsFrame expected → (frame : F) × (rest : List ℕ) × BeginsBy parts fit bytes frame rest
frame_stands parts fit fields law bytes (Frame frame taken) fits e is =
    let told = frame_found parts fit fields law bytes frame taken fits e in
    (frame, drop taken bytes, (take taken bytes, told.1, sym (take-append-drop taken bytes)))
frame_stands parts fit fields law bytes Short fits e is = absurd is
frame_stands parts fit fields law bytes BadFrame fits e is = absurd is
frame_stands parts fit fields law bytes NoMemory fits e is = absurd is

-- What the reader answers it may tell.
pub tells : {F : Type 0} (parts : F → List (List ℕ)) (fit : F → Type 0) (fields : ℕ → List ℕ → Option F) → ReadsAsSpelled parts fit fields → (bytes : List ℕ) (answer : Read F) → IsBytes bytes → IsAnswer answer (frame_at fields bytes) → TellsBy parts fit bytes answer
tells parts fit fields law bytes (Frame frame taken) fits e = frame_found parts fit fields law bytes frame taken fits e
tells parts fit fields law bytes Short fits e = frame_short fields bytes fits e
tells parts fit fields law bytes BadFrame fits e = frame_bad parts fit fields law bytes e
tells parts fit fields law bytes NoMemory fits e = frame_stands parts fit fields law bytes (frame_at fields bytes) fits refl e
