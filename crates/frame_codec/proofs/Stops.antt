-- Where a stream stops: bytes that are bad stay bad whatever follows, and part of a frame is short.
use Rattle.std.proofs.Common.{◌≡◌, ◌≢◌, ℕ, ◌+◌, ◌-◌, ◌^◌, ◌<◌, ◌≤◌, Bool, true, false, cond, eqb, ltb, List, [], ◌∷◌, ◌++◌, length, take, drop, Option, Some, None, refl, sym, ap, subst, ◌∙◌, append_assoc, arith, inl, inr, ◌⊎◌, take-append-drop}
use Rattle.std.specs.Prelude.{IsTrue, nat_lt}
use Rattle.std.specs.Int.{w32}
use Rattle.std.proofs.lemmas.Bool.{ltb-true, lt-ltb}
use Rattle.std.proofs.lemmas.List.{length-append, append-nil, length-drop}
use Rattle.frame_codec.specs.declared.frame.ServiceFrame.{ServiceFrame}
use Rattle.frame_codec.specs.declared.reading.Read.{Read}
use Rattle.frame_codec.specs.declared.reading.Read.TheVariants.{Frame, Short, BadFrame, NoMemory}
use Rattle.frame_codec.specs.Spelling.{four, size, service_parts, Fits, SpellsBy, is_lawful_length}
use Rattle.frame_codec.specs.Stream.{BeginsBy, BeginsNoneBy, IsBadBy, IsBadStopBy, Begins, IsShort, IsBad}
use Rattle.frame_codec.specs.Reading.{number_at, payload_at}
use Rattle.frame_codec.specs.ServiceFields.{service_fields_at}
use Rattle.frame_codec.specs.Answer.{frame_at, headed, given, TellsBy}
use Rattle.frame_codec.proofs.Sizes.{length-four}
use Rattle.frame_codec.proofs.Formats.{bytes_of, length-bytes_of, joined-is, IsBytes, ReadsAsSpelled, four_takes}
use Rattle.frame_codec.proofs.Payloads.{service_as_spelled}
use Rattle.frame_codec.proofs.Whole.{lawful_bounds, tells}
use Rattle.frame_codec.proofs.Apart.{heads_are, short_begins_none_by}

-- ---- lists

nil_or : (xs : List ℕ) → (xs ≡ []) ⊎ (0 < length xs)
nil_or [] = inl refl
nil_or (x ∷ xs) = inr (omega arith)

-- two ways to cut one list: one front begins the other
pub cut_twice : (a b c d : List ℕ) → a ++ b ≡ c ++ d → ((m : List ℕ) × (a ≡ c ++ m) × (d ≡ m ++ b)) ⊎ ((m : List ℕ) × (c ≡ a ++ m) × (b ≡ m ++ d))
cut_twice [] b c d e = inr (c, refl, e)
cut_twice (x ∷ a) b [] d e = inl (x ∷ a, refl, sym e)
cut_twice (x ∷ a) b (y ∷ c) d e = with_heads x y a b c d (cc) (cc) (cut_twice a b c d cc)
  where
    with_heads : (x y : ℕ) (a b c d : List ℕ) → x ≡ y → a ++ b ≡ c ++ d → ((m : List ℕ) × (a ≡ c ++ m) × (d ≡ m ++ b)) ⊎ ((m : List ℕ) × (c ≡ a ++ m) × (b ≡ m ++ d))
        → ((m : List ℕ) × (x ∷ a ≡ y ∷ c ++ m) × (d ≡ m ++ b)) ⊎ ((m : List ℕ) × (y ∷ c ≡ x ∷ a ++ m) × (b ≡ m ++ d))
    with_heads x y a b c d h e (inl p) = inl (p.0, cc (h, p.1), p.2)
    with_heads x y a b c d h e (inr p) = inr (p.0, cc (h, p.1), p.2)

front_is : (front whole m : List ℕ) → whole ≡ front ++ m → m ≡ [] → front ≡ whole ++ []
front_is front whole m e none = sym (append-nil front) ∙ ap (λ (t : List ℕ). front ++ t) (sym none) ∙ sym e ∙ sym (append-nil whole)

-- ---- parts of frames

-- what a frame's spelling is made of
spelled : {F : Type 0} (parts : F → List (List ℕ)) (fit : F → Type 0) (front : List ℕ) (frame : F) → SpellsBy parts fit front frame → front ≡ four (size (parts frame)) ++ bytes_of (parts frame)
spelled parts fit front frame s = s.spelled ∙ joined-is (four (size (parts frame))) (parts frame)

pub part_is_short : {F : Type 0} (parts : F → List (List ℕ)) (fit : F → Type 0) (since more : List ℕ) (frame : F) → SpellsBy parts fit (since ++ more) frame → 0 < length more → IsShort since
part_is_short parts fit since more frame s some =
    let n : ℕ = size (parts frame) in
    let body : List ℕ = bytes_of (parts frame) in
    by_cut (cut_twice since more (four n) body (spelled parts fit (since ++ more) frame s))
  where
    by_cut : ((m : List ℕ) × (since ≡ four (size (parts frame)) ++ m) × (bytes_of (parts frame) ≡ m ++ more)) ⊎ ((m : List ℕ) × (four (size (parts frame)) ≡ since ++ m) × (more ≡ m ++ bytes_of (parts frame))) → IsShort since
    by_cut (inl p) =
        inr (size (parts frame), p.0, s.lawful, p.1, omega (arith, ap length p.2, length-append p.0 more, length-bytes_of (parts frame)))
    by_cut (inr p) = by_rest p.0 p.1 (nil_or p.0)
      where
        by_rest : (m : List ℕ) → four (size (parts frame)) ≡ since ++ m → (m ≡ []) ⊎ (0 < length m) → IsShort since
        by_rest m e (inl none) =
            inr (size (parts frame), [], s.lawful, front_is since (four (size (parts frame))) m e none, (lawful_bounds (size (parts frame)) s.lawful).0)
        by_rest m e (inr some) = inl (omega (arith, ap length e, length-append since m, length-four (size (parts frame))))

-- ---- the head of a frame

pub head_is : (head : List ℕ) (n : ℕ) → IsBytes head → number_at w32 head ≡ Some (n, []) → head ≡ four n
head_is head n fits e = (four_takes head n [] fits e).0 ∙ append-nil (four n)

-- a head that may not go on is bad
pub head_is_bad : {F : Type 0} (parts : F → List (List ℕ)) (fit : F → Type 0) (head : List ℕ) → length head ≡ 4 → (IsShort head → ⊥) → IsBadBy parts fit head
head_is_bad parts fit head len long = (begins_none, long)
  where
    begins_none : BeginsNoneBy parts fit head
    begins_none frame rest begins =
        let m : ℕ = size (parts frame) in
        omega (arith, len, ap length begins.2, length-append begins.0 rest, ap length (spelled parts fit begins.0 frame begins.1), length-append (four m) (bytes_of (parts frame)), length-four m, length-bytes_of (parts frame), (lawful_bounds m begins.1.lawful).0)

pub unlawful_is_bad : (n : ℕ) → n < 2 ^ 32 → (IsTrue (is_lawful_length n) → ⊥) → IsBad (four n)
unlawful_is_bad n low unlawful = head_is_bad service_parts Fits (four n) (length-four n) not_short
  where
    not_short : IsShort (four n) → ⊥
    not_short (inl few) = omega (arith, few, length-four n)
    not_short (inr part) =
        let h = heads_are n part.0 [] part.1 low (omega (arith, (lawful_bounds part.0 part.2).1)) (append-nil (four n) ∙ part.3) in
        unlawful (subst (λ (m : ℕ). IsTrue (is_lawful_length m)) (sym h.0) part.2)

-- ---- stops

pub bad_stop : {F : Type 0} (parts : F → List (List ℕ)) (fit : F → Type 0) (since left : List ℕ) → IsBadBy parts fit since → IsBadStopBy parts fit since left
bad_stop parts fit since left bad frame more s = by_more (nil_or more)
  where
    by_more : (more ≡ []) ⊎ (0 < length more) → (since ≢ []) × (more ≢ []) × (left ≡ [])
    by_more (inl none) = absurd (bad.0 frame [] (since, subst (λ (t : List ℕ). SpellsBy parts fit t frame) (ap (λ (t : List ℕ). since ++ t) none ∙ append-nil since) s, sym (append-nil since)))
    by_more (inr some) = absurd (bad.1 (part_is_short parts fit since more frame s some))

pub short_stop : {F : Type 0} (parts : F → List (List ℕ)) (fit : F → Type 0) (since : List ℕ) → IsShort since → since ≢ [] → IsBadStopBy parts fit since []
short_stop parts fit since short some frame more s =
    (some, λ none. short_begins_none_by parts fit since short frame [] (since, subst (λ (t : List ℕ). SpellsBy parts fit t frame) (ap (λ (t : List ℕ). since ++ t) none ∙ append-nil since) s, sym (append-nil since)), refl)

-- ---- what is bad stays bad

pub bad_more : {F : Type 0} (parts : F → List (List ℕ)) (fit : F → Type 0) (since rest : List ℕ) → IsBadBy parts fit since → IsBadBy parts fit (since ++ rest)
bad_more {F} parts fit since rest bad = (begins_none, not_short)
  where
    begins_none : BeginsNoneBy parts fit (since ++ rest)
    begins_none frame behind begins = by_cut (cut_twice since rest begins.0 behind begins.2)
      where
        by_cut : ((m : List ℕ) × (since ≡ begins.0 ++ m) × (behind ≡ m ++ rest)) ⊎ ((m : List ℕ) × (begins.0 ≡ since ++ m) × (rest ≡ m ++ behind)) → ⊥
        by_cut (inl p) = bad.0 frame p.0 (begins.0, begins.1, p.1)
        by_cut (inr p) = by_rest p.0 p.1 (nil_or p.0)
          where
            by_rest : (m : List ℕ) → begins.0 ≡ since ++ m → (m ≡ []) ⊎ (0 < length m) → ⊥
            by_rest m e (inl none) = bad.0 frame [] (since, subst (λ (t : List ℕ). SpellsBy parts fit t frame) (e ∙ ap (λ (t : List ℕ). since ++ t) none ∙ append-nil since) begins.1, sym (append-nil since))
            by_rest m e (inr some) = bad.1 (part_is_short parts fit since m frame (subst (λ (t : List ℕ). SpellsBy parts fit t frame) e begins.1) some)

    not_short : IsShort (since ++ rest) → ⊥
    not_short (inl few) = bad.1 (inl (omega (arith, length-append since rest)))
    not_short (inr part) = by_cut (cut_twice since rest (four part.0) part.1 part.3)
      where
        by_cut : ((m : List ℕ) × (since ≡ four part.0 ++ m) × (part.1 ≡ m ++ rest)) ⊎ ((m : List ℕ) × (four part.0 ≡ since ++ m) × (rest ≡ m ++ part.1)) → ⊥
        by_cut (inl p) = bad.1 (inr (part.0, p.0, part.2, p.1, omega (arith, part.4, ap length p.2, length-append p.0 rest)))
        by_cut (inr p) = by_rest p.0 p.1 (nil_or p.0)
          where
            by_rest : (m : List ℕ) → four part.0 ≡ since ++ m → (m ≡ []) ⊎ (0 < length m) → ⊥
            by_rest m e (inl none) = bad.1 (inr (part.0, [], part.2, front_is since (four part.0) m e none, (lawful_bounds part.0 part.2).0))
            by_rest m e (inr some) = bad.1 (inl (omega (arith, ap length e, length-append since m, length-four part.0)))

-- ---- a whole frame by its length

pub whole_not_short : (n : ℕ) (body : List ℕ) → IsTrue (is_lawful_length n) → length body ≡ n → IsShort (four n ++ body) → ⊥
whole_not_short n body lawful len (inl few) = omega (arith, few, length-append (four n) body, length-four n)
whole_not_short n body lawful len (inr part) =
    let h = heads_are n part.0 body part.1 (omega (arith, (lawful_bounds n lawful).1)) (omega (arith, (lawful_bounds part.0 part.2).1)) part.3 in
    omega (arith, part.4, h.0, ap length h.1, len)

pub whole_is_taken : {F : Type 0} (parts : F → List (List ℕ)) (fit : F → Type 0) (n taken : ℕ) (body : List ℕ) (frame : F) → IsTrue (is_lawful_length n) → length body ≡ n → SpellsBy parts fit (take taken (four n ++ body)) frame → SpellsBy parts fit (four n ++ body) frame
whole_is_taken parts fit n taken body frame lawful len s =
    let m : ℕ = size (parts frame) in
    let own : List ℕ = bytes_of (parts frame) in
    let rest : List ℕ = drop taken (four n ++ body) in
    let front : List ℕ = take taken (four n ++ body) in
    let whole : four n ++ body ≡ four m ++ (own ++ rest) =
    sym (take-append-drop taken (four n ++ body)) ∙ ap (λ (t : List ℕ). t ++ rest) (spelled parts fit front frame s) ∙ append_assoc (four m) own rest in
    let h = heads_are n m body (own ++ rest) (omega (arith, (lawful_bounds n lawful).1)) (omega (arith, (lawful_bounds m s.lawful).1)) whole in
    let none : rest ≡ [] = by_rest rest (omega (arith, len, h.0, ap length h.1, length-append own rest, length-bytes_of (parts frame))) in
    subst (λ (t : List ℕ). SpellsBy parts fit t frame) (sym (append-nil front) ∙ ap (λ (t : List ℕ). front ++ t) (sym none) ∙ take-append-drop taken (four n ++ body)) s
  where
    by_rest : (xs : List ℕ) → length xs ≡ 0 → xs ≡ []
    by_rest [] e = refl
    by_rest (x ∷ xs) e = absurd (omega arith)

-- ---- a frame stands at the front, or bytes are bad or short

tests_never : {F : Type 0} (b d l : Bool) (o : Option F) (n : ℕ) → cond b BadFrame (cond d BadFrame (cond l Short (given o n))) ≡ NoMemory → ⊥
tests_never true d l o n e = cc
tests_never false true l o n e = cc
tests_never false false true o n e = cc
tests_never false false false None n e = cc
tests_never false false false (Some f) n e = cc

never_no_memory : {F : Type 0} (fields : ℕ → List ℕ → Option F) (bytes : List ℕ) → frame_at fields bytes ≡ NoMemory → ⊥
unfolding frame_at
never_no_memory fields bytes e = by_head (number_at w32 bytes) e
  where
    by_head : (o : Option (ℕ × List ℕ)) → headed fields o ≡ NoMemory → ⊥
    by_head None e = cc
    by_head (Some a) e = tests_never (eqb a.0 0) (ltb 1048576 a.0) (ltb (length a.1) a.0) (payload_at fields (take a.0 a.1)) (4 + a.0) e

front_of_by : {F : Type 0} (parts : F → List (List ℕ)) (fit : F → Type 0) (fields : ℕ → List ℕ → Option F) → ReadsAsSpelled parts fit fields → (bytes : List ℕ) → IsBytes bytes → ((frame : F) × (rest : List ℕ) × BeginsBy parts fit bytes frame rest) ⊎ (IsBadBy parts fit bytes ⊎ IsShort bytes)
front_of_by {F} parts fit fields law bytes fits = by_answer (frame_at fields bytes) refl
  where
    by_answer : (answer : Read F) → frame_at fields bytes ≡ answer → ((frame : F) × (rest : List ℕ) × BeginsBy parts fit bytes frame rest) ⊎ (IsBadBy parts fit bytes ⊎ IsShort bytes)
    by_answer (Frame frame taken) e =
        let found : TellsBy parts fit bytes (Frame frame taken) = tells parts fit fields law bytes (Frame frame taken) fits e in
        inl (frame, drop taken bytes, (take taken bytes, found.1, sym (take-append-drop taken bytes)))
    by_answer Short e = inr (inr (tells parts fit fields law bytes Short fits e))
    by_answer BadFrame e = inr (inl (tells parts fit fields law bytes BadFrame fits e))
    by_answer NoMemory e = absurd (never_no_memory fields bytes e)

pub front_of : (bytes : List ℕ) → IsBytes bytes → ((frame : ServiceFrame) × (rest : List ℕ) × Begins bytes frame rest) ⊎ (IsBad bytes ⊎ IsShort bytes)
front_of = front_of_by service_parts Fits service_fields_at service_as_spelled

pub settled : (bytes : List ℕ) → IsBytes bytes → (IsShort bytes → ⊥) → ((frame : ServiceFrame) × (rest : List ℕ) × Begins bytes frame rest) ⊎ IsBad bytes
settled bytes fits long = by_front (front_of bytes fits)
  where
    by_front : ((frame : ServiceFrame) × (rest : List ℕ) × Begins bytes frame rest) ⊎ (IsBad bytes ⊎ IsShort bytes) → ((frame : ServiceFrame) × (rest : List ℕ) × Begins bytes frame rest) ⊎ IsBad bytes
    by_front (inl begins) = inl begins
    by_front (inr (inl bad)) = inr bad
    by_front (inr (inr short)) = absurd (long short)

-- ---- whether bytes are short, by their length and what they tell

pub short_by_head : (bytes : List ℕ) (n : ℕ) → 4 ≤ length bytes → IsTrue (is_lawful_length n) → take 4 bytes ≡ four n → (IsTrue (nat_lt (length bytes - 4) n) → IsShort bytes) × (IsShort bytes → IsTrue (nat_lt (length bytes - 4) n))
short_by_head bytes n long lawful e = (to, from)
  where
    whole : bytes ≡ four n ++ drop 4 bytes
    whole = sym (take-append-drop 4 bytes) ∙ ap (λ (t : List ℕ). t ++ drop 4 bytes) e

    to : IsTrue (nat_lt (length bytes - 4) n) → IsShort bytes
    to test = inr (n, drop 4 bytes, lawful, whole, omega (arith, length-drop 4 bytes, ltb-true (length bytes - 4) n test))

    from : IsShort bytes → IsTrue (nat_lt (length bytes - 4) n)
    from (inl few) = absurd (omega arith)
    from (inr part) =
        let h = heads_are n part.0 (drop 4 bytes) part.1 (omega (arith, (lawful_bounds n lawful).1)) (omega (arith, (lawful_bounds part.0 part.2).1)) (sym whole ∙ part.3) in
        lt-ltb (length bytes - 4) n (omega (arith, length-drop 4 bytes, h.0, ap length h.1, part.4))

pub bad_by_head : (bytes : List ℕ) → IsBad (take 4 bytes) → IsBad bytes
bad_by_head bytes bad = subst IsBad (take-append-drop 4 bytes) (bad_more service_parts Fits (take 4 bytes) (drop 4 bytes) bad)
