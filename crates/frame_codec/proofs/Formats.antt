-- A format: what is read is spelled so, and what is spelled so is read.
use Rattle.std.proofs.Common.{◌≡◌, ℕ, ◌+◌, ◌^◌, ◌<◌, ◌≤◌, Bool, true, false, cond, eqb, ltb, List, [], ◌∷◌, ◌++◌, length, get_or, take, drop, Option, Some, None, refl, sym, ap, subst, ◌∙◌, append_assoc, arith, inl, inr, suc, zero, flat_map}
use Rattle.std.specs.Prelude.{option_and_then, option_map, IsTrue}
use Rattle.std.specs.Int.{Width, w16, w32, w64, byte_len, from_be_bytes, to_be_bytes}
use Rattle.std.proofs.lemmas.Bool.{cases_lt, ltb-false, le-ltb, eqb-true}
use Rattle.std.proofs.lemmas.List.{take_at, drop_at, take-append-drop, length-append, length-take, get_or-drop, get_or-take, get_or_past, append-nil, nil_from_length}
use Rattle.std.proofs.lemmas.List.Elements.{All-from_get_or}
use Rattle.std.proofs.lemmas.List.Sums.{sum_by-append, sum_by-cons}
use Rattle.std.proofs.lemmas.Nat.{be_bytes_2, be_bytes_4, be_bytes_8, from_be_bytes-to_be_bytes_2, from_be_bytes-to_be_bytes_4, from_be_bytes-to_be_bytes_8}
use Rattle.okws_base.specs.Runs.{Each}
use Rattle.frame_codec.specs.Spelling.{two, four, eight, string, name, joined, size, Bytewise}
use Rattle.frame_codec.proofs.Sizes.{length-four}
use Rattle.frame_codec.specs.Reading.{Reader, both, after, mapped, checked, fixed_at, byte_at, number_at, string_at, name_at, listed_at, all_of, payload_at}

-- ---- parts

-- the bytes of all parts
abbrev pub bytes_of : List (List ℕ) → List ℕ
bytes_of [] = []
bytes_of (p ∷ ps) = p ++ bytes_of ps

pub bytes_of-append : (a b : List (List ℕ)) → bytes_of (a ++ b) ≡ bytes_of a ++ bytes_of b
bytes_of-append [] b = refl
bytes_of-append (p ∷ a) b = ap (λ (t : List ℕ). p ++ t) (bytes_of-append a b) ∙ sym (append_assoc p (bytes_of a) (bytes_of b))

pub length-bytes_of : (parts : List (List ℕ)) → length (bytes_of parts) ≡ size parts
length-bytes_of [] = refl
length-bytes_of (p ∷ ps) = length-append p (bytes_of ps) ∙ ap (λ (n : ℕ). length p + n) (length-bytes_of ps) ∙ sym (sum_by-cons length p ps)

pub joined-is : (text : List ℕ) (parts : List (List ℕ)) → joined text parts ≡ text ++ bytes_of parts
joined-is text [] = sym (append-nil text)
joined-is text (p ∷ ps) = joined-is (text ++ p) ps ∙ append_assoc text p (bytes_of ps)

pub length-joined : (text : List ℕ) (parts : List (List ℕ)) → length (joined text parts) ≡ length text + size parts
length-joined text parts = ap length (joined-is text parts) ∙ length-append text (bytes_of parts) ∙ ap (λ (n : ℕ). length text + n) (length-bytes_of parts)

-- ---- bytes

abbrev pub IsBytes : List ℕ → Type 0
IsBytes bytes = (i : ℕ) → get_or bytes i 0 < 256

pub IsBytes-drop : (n : ℕ) (bytes : List ℕ) → IsBytes bytes → IsBytes (drop n bytes)
IsBytes-drop n bytes h i = rw get_or-drop (h (n + i))

pub IsBytes-take : (n : ℕ) (bytes : List ℕ) → IsBytes bytes → IsBytes (take n bytes)
IsBytes-take n bytes h i =
    elim (cases_lt i n) [
      | inl lt ↦ rw (get_or-take n bytes i 0 lt) (h i)
      | inr le ↦ rw (get_or_past (take n bytes) i 0 (omega (arith, length-take n bytes))) (omega arith)
    ]

pub IsBytes-rest : (b : ℕ) (bytes : List ℕ) → IsBytes (b ∷ bytes) → IsBytes bytes
IsBytes-rest b bytes h i = h (suc i)

pub bytewise : (bytes : List ℕ) → IsBytes bytes → Bytewise bytes
bytewise bytes h = All-from_get_or (λ (b : ℕ). b < 256) bytes 0 (λ i lt. h i)

-- ---- formats

-- What is read was spelled by these parts and is good, and what is right and no longer than a length may tell is read again.
pub record IsFormat {A : Type 0} (parts : A → List (List ℕ)) (Right Good : A → Type 0) (read : Reader A) : Type 0 where
  pub takes : (bytes : List ℕ) (a : A) (rest : List ℕ) → IsBytes bytes → read bytes ≡ Some (a, rest) → (bytes ≡ bytes_of (parts a) ++ rest) × Good a × IsBytes rest
  pub again : (a : A) (rest : List ℕ) → Right a → size (parts a) < 2 ^ 32 → read (bytes_of (parts a) ++ rest) ≡ Some (a, rest)

-- the step of a reading that gave something
pub then_some : {A B : Type 0} (o : Option A) (f : A → Option B) (y : B) → option_and_then f o ≡ Some y → (x : A) × (o ≡ Some x) × (f x ≡ Some y)
then_some (Some x) f y e = (x, refl, e)
then_some None f y e = absurd cc

pub map_some : {A B : Type 0} (o : Option A) (f : A → B) (y : B) → option_map f o ≡ Some y → (x : A) × (o ≡ Some x) × (f x ≡ y)
map_some (Some x) f y e = (x, refl, cc)
map_some None f y e = absurd cc

guard_some : {A : Type 0} (b : Bool) (x y : A) → cond b None (Some x) ≡ Some y → (b ≡ false) × (x ≡ y)
guard_some true x y e = absurd cc
guard_some false x y e = (refl, cc)

pub test_some : {A : Type 0} (b : Bool) (x y : A) → cond b (Some x) None ≡ Some y → (b ≡ true) × (x ≡ y)
test_some true x y e = (refl, cc)
test_some false x y e = absurd cc

pub some_is : {A : Type 0} (x y : A) → Some x ≡ Some y → x ≡ y
some_is x y e = cc

pub fixed_takes : (n : ℕ) (bytes b rest : List ℕ) → IsBytes bytes → fixed_at n bytes ≡ Some (b, rest) → (bytes ≡ b ++ rest) × ((length b ≡ n) × IsBytes b) × IsBytes rest
unfolding fixed_at
fixed_takes n bytes b rest fits e =
    let g = guard_some (ltb (length bytes) n) (take n bytes, drop n bytes) (b, rest) e in
    let long : n ≤ length bytes = ltb-false _ _ g.0 in
    subst (λ (p : List ℕ × List ℕ). (bytes ≡ p.0 ++ p.1) × ((length p.0 ≡ n) × IsBytes p.0) × IsBytes p.1) g.1
    (sym (take-append-drop n bytes), (omega (arith, length-take n bytes), IsBytes-take n bytes fits), IsBytes-drop n bytes fits)

pub fixed_again : (n : ℕ) (b rest : List ℕ) → length b ≡ n → fixed_at n (b ++ rest) ≡ Some (b, rest)
unfolding fixed_at
fixed_again n b rest len =
    let long : ltb (length (b ++ rest)) n ≡ false = le-ltb _ _ (omega (arith, length-append b rest)) in
    rw (long, take_at b rest n len, drop_at b rest n len) refl

pub fixed_format : (n : ℕ) → IsFormat (λ b. b ∷ []) (λ b. length b ≡ n) (λ b. (length b ≡ n) × Bytewise b) (fixed_at n)
fixed_format n = record {
  takes = λ bytes b rest fits e.
      let t = fixed_takes n bytes b rest fits e in
      (t.0 ∙ ap (λ (x : List ℕ). x ++ rest) (sym (append-nil b)), (t.1.0, bytewise b t.1.1), t.2);
  again = λ b rest len _. ap (λ (x : List ℕ). fixed_at n (x ++ rest)) (append-nil b) ∙ fixed_again n b rest len;
}

pub both_format : {A B : Type 0} (parts : A → List (List ℕ)) (R G : A → Type 0) (read : Reader A) (parts' : B → List (List ℕ)) (R' G' : B → Type 0) (read' : Reader B)
    → IsFormat parts R G read → IsFormat parts' R' G' read' → IsFormat (λ (p : A × B). parts p.0 ++ parts' p.1) (λ p. R p.0 × R' p.1) (λ p. G p.0 × G' p.1) (both read read')
both_format {A} {B} parts R G read parts' R' G' read' f g = record {
  takes = λ bytes p rest fits e.
      let a = then_some (read bytes) (λ a. option_and_then (λ b. Some ((a.0, b.0), b.1)) (read' a.1)) (p, rest) e in
      let b = then_some (read' a.0.1) (λ b. Some ((a.0.0, b.0), b.1)) (p, rest) a.2 in
      let x = f.takes bytes a.0.0 a.0.1 fits a.1 in
      let y = g.takes a.0.1 b.0.0 b.0.1 x.2 b.1 in
      let whole : bytes ≡ bytes_of (parts a.0.0 ++ parts' b.0.0) ++ b.0.1 =
      x.0 ∙ ap (λ (t : List ℕ). bytes_of (parts a.0.0) ++ t) y.0 ∙ sym (append_assoc (bytes_of (parts a.0.0)) (bytes_of (parts' b.0.0)) b.0.1) ∙ ap (λ (t : List ℕ). t ++ b.0.1) (sym (bytes_of-append (parts a.0.0) (parts' b.0.0))) in
      subst (λ (q : (A × B) × List ℕ). (bytes ≡ bytes_of (parts q.0.0 ++ parts' q.0.1) ++ q.1) × (G q.0.0 × G' q.0.1) × IsBytes q.1) (some_is ((a.0.0, b.0.0), b.0.1) (p, rest) b.2) (whole, (x.1, y.1), y.2);
  again = λ p rest right small.
      let sum = sum_by-append length (parts p.0) (parts' p.1) in
      let one : size (parts p.0) < 2 ^ 32 = omega arith in
      let other : size (parts' p.1) < 2 ^ 32 = omega arith in
      let order : bytes_of (parts p.0 ++ parts' p.1) ++ rest ≡ bytes_of (parts p.0) ++ (bytes_of (parts' p.1) ++ rest) =
      ap (λ (t : List ℕ). t ++ rest) (bytes_of-append (parts p.0) (parts' p.1)) ∙ append_assoc (bytes_of (parts p.0)) (bytes_of (parts' p.1)) rest in
      ap (both read read') order ∙ rw (f.again p.0 (bytes_of (parts' p.1) ++ rest) right.0 one, g.again p.1 rest right.1 other) refl;
}

-- A tested value: what passes is right.
pub checked_format : {A : Type 0} (parts : A → List (List ℕ)) (R G : A → Type 0) (read : Reader A) (test : A → Bool)
    → IsFormat parts R G read → ((a : A) → IsTrue (test a) → R a) → IsFormat parts (λ a. IsTrue (test a)) (λ a. G a × IsTrue (test a)) (checked test read)
checked_format {A} parts R G read test f right = record {
  takes = λ bytes a rest fits e.
      let o = then_some (read bytes) (λ (x : A × List ℕ). cond (test x.0) (Some x) None) (a, rest) e in
      let g = test_some (test o.0.0) o.0 (a, rest) o.2 in
      let t = f.takes bytes o.0.0 o.0.1 fits o.1 in
      subst (λ (q : A × List ℕ). (bytes ≡ bytes_of (parts q.0) ++ q.1) × (G q.0 × IsTrue (test q.0)) × IsBytes q.1) g.1 (t.0, (t.1, g.0), t.2);
  again = λ a rest passes small.
      let is : test a ≡ true = passes in
      rw (f.again a rest (right a passes) small, is) refl;
}

-- ---- numbers

pub record IsWide (w : Width) (limit : ℕ) : Type 0 where
  pub len : (n : ℕ) → length (to_be_bytes w n) ≡ byte_len w
  pub back : (bytes : List ℕ) → length bytes ≡ byte_len w → IsBytes bytes → to_be_bytes w (from_be_bytes w bytes) ≡ bytes
  pub again : (n : ℕ) → n < limit → from_be_bytes w (to_be_bytes w n) ≡ n
  pub below : (bytes : List ℕ) → IsBytes bytes → from_be_bytes w bytes < limit

wide16 : IsWide w16 (2 ^ 16)
wide16 = record {
  len = λ n. refl;
  back = λ bytes len fits. be_bytes_2 bytes _ len fits refl;
  again = λ n lt. from_be_bytes-to_be_bytes_2 n lt;
  below = λ bytes fits. omega (arith, fits 0, fits 1);
}

wide32 : IsWide w32 (2 ^ 32)
wide32 = record {
  len = λ n. refl;
  back = λ bytes len fits. be_bytes_4 bytes _ len fits refl;
  again = λ n lt. from_be_bytes-to_be_bytes_4 n lt;
  below = λ bytes fits. omega (arith, fits 0, fits 1, fits 2, fits 3);
}

wide64 : IsWide w64 (2 ^ 64)
wide64 = record {
  len = λ n. refl;
  back = λ bytes len fits. be_bytes_8 bytes _ len fits refl;
  again = λ n lt. from_be_bytes-to_be_bytes_8 n lt;
  below = λ bytes fits. omega (arith, fits 0, fits 1, fits 2, fits 3, fits 4, fits 5, fits 6, fits 7);
}

number_format : (w : Width) (limit : ℕ) → IsWide w limit → IsFormat (λ n. to_be_bytes w n ∷ []) (λ n. n < limit) (λ n. n < limit) (number_at w)
unfolding number_at
number_format w limit wide = record {
  takes = λ bytes n rest fits e.
      let m = map_some (fixed_at (byte_len w) bytes) (λ a. (from_be_bytes w a.0, a.1)) (n, rest) e in
      let t = fixed_takes (byte_len w) bytes m.0.0 m.0.1 fits m.1 in
      let spelled : bytes ≡ (to_be_bytes w (from_be_bytes w m.0.0) ++ []) ++ m.0.1 =
      t.0 ∙ ap (λ (b : List ℕ). b ++ m.0.1) (sym (wide.back m.0.0 t.1.0 t.1.1)) ∙ ap (λ (b : List ℕ). b ++ m.0.1) (sym (append-nil (to_be_bytes w (from_be_bytes w m.0.0)))) in
      subst (λ (q : ℕ × List ℕ). (bytes ≡ (to_be_bytes w q.0 ++ []) ++ q.1) × (q.0 < limit) × IsBytes q.1) m.2 (spelled, wide.below m.0.0 t.1.1, t.2);
  again = λ n rest lt _. ap (λ (x : List ℕ). number_at w (x ++ rest)) (append-nil (to_be_bytes w n)) ∙ rw (fixed_again (byte_len w) (to_be_bytes w n) rest (wide.len n), wide.again n lt) refl;
}

pub two_format : IsFormat (λ n. two n ∷ []) (λ n. n < 2 ^ 16) (λ n. n < 2 ^ 16) (number_at w16)
unfolding two
two_format = number_format w16 (2 ^ 16) wide16

pub four_format : IsFormat (λ n. four n ∷ []) (λ n. n < 2 ^ 32) (λ n. n < 2 ^ 32) (number_at w32)
unfolding four
four_format = number_format w32 (2 ^ 32) wide32

pub four_again : (n : ℕ) (rest : List ℕ) → n < 2 ^ 32 → number_at w32 (four n ++ rest) ≡ Some (n, rest)
four_again n rest lt =
    let small : size (four n ∷ []) < 2 ^ 32 = omega (arith, length-four n) in
    ap (λ (t : List ℕ). number_at w32 (t ++ rest)) (sym (append-nil (four n))) ∙ four_format.again n rest lt small

pub four_takes : (bytes : List ℕ) (n : ℕ) (rest : List ℕ) → IsBytes bytes → number_at w32 bytes ≡ Some (n, rest) → (bytes ≡ four n ++ rest) × IsBytes rest
four_takes bytes n rest fits e =
    let t = four_format.takes bytes n rest fits e in
    (t.0 ∙ ap (λ (h : List ℕ). h ++ rest) (append-nil (four n)), t.2)

pub eight_format : IsFormat (λ n. eight n ∷ []) (λ n. n < 2 ^ 64) (λ n. n < 2 ^ 64) (number_at w64)
unfolding eight
eight_format = number_format w64 (2 ^ 64) wide64

-- ---- strings and names

-- a head, bytes and what stands behind them
parts_order : (head b rest : List ℕ) → head ++ (b ++ rest) ≡ (head ++ (b ++ [])) ++ rest
parts_order head b rest = ap (λ (t : List ℕ). head ++ (t ++ rest)) (sym (append-nil b)) ∙ sym (append_assoc head (b ++ []) rest)

pub string_format : IsFormat string (λ b. Unit {0}) Bytewise string_at
unfolding string_at
string_format = record {
  takes = λ bytes b rest fits e.
      let n = then_some (number_at w32 bytes) (λ n. fixed_at n.0 n.1) (b, rest) e in
      let x = four_format.takes bytes n.0.0 n.0.1 fits n.1 in
      let y = fixed_takes n.0.0 n.0.1 b rest x.2 n.2 in
      let head : bytes ≡ four (length b) ++ (b ++ rest) =
      x.0 ∙ ap (λ (t : List ℕ). t ++ n.0.1) (append-nil (four n.0.0)) ∙ ap (λ (t : List ℕ). four n.0.0 ++ t) y.0 ∙ ap (λ (k : ℕ). four k ++ (b ++ rest)) (sym y.1.0) in
      (head ∙ parts_order (four (length b)) b rest, bytewise b y.1.1, y.2);
  again = λ b rest _ small.
      let len : length (four (length b)) ≡ 4 = length-four (length b) in
      let lt : length b < 2 ^ 32 = omega arith in
      let first : number_at w32 (four (length b) ++ (b ++ rest)) ≡ Some (length b, b ++ rest) =
      ap (λ (t : List ℕ). number_at w32 (t ++ (b ++ rest))) (sym (append-nil (four (length b)))) ∙ four_format.again (length b) (b ++ rest) lt (omega arith) in
      ap string_at (sym (parts_order (four (length b)) b rest)) ∙ rw first (fixed_again (length b) b rest refl);
}

pub name_format : IsFormat name (λ b. length b < 256) (λ b. (length b < 256) × Bytewise b) name_at
unfolding name_at byte_at
name_format = record {
  takes = takes_name;
  again = λ b rest _ _. ap (fixed_at (length b)) (ap (λ (t : List ℕ). t ++ rest) (append-nil b)) ∙ fixed_again (length b) b rest refl;
}
  where
    takes_name : (bytes b rest : List ℕ) → IsBytes bytes → name_at bytes ≡ Some (b, rest) → (bytes ≡ bytes_of (name b) ++ rest) × ((length b < 256) × Bytewise b) × IsBytes rest
    takes_name [] b rest fits e = absurd cc
    takes_name (n ∷ bytes) b rest fits e =
        let t = fixed_takes n bytes b rest (IsBytes-rest n bytes fits) e in
        (ap (λ (x : List ℕ). n ∷ x) (t.0 ∙ ap (λ (x : List ℕ). x ++ rest) (sym (append-nil b))) ∙ ap (λ (k : ℕ). k ∷ ((b ++ []) ++ rest)) (sym t.1.0), (omega (arith, fits 0, t.1.0), bytewise b t.1.1), t.2)

-- ---- one byte

pub byte_format : IsFormat (λ b. (b ∷ []) ∷ []) (λ b. Unit {0}) (λ b. b < 256) byte_at
unfolding byte_at
byte_format = record { takes = takes_byte; again = λ b rest _ _. refl }
  where
    takes_byte : (bytes : List ℕ) (b : ℕ) (rest : List ℕ) → IsBytes bytes → byte_at bytes ≡ Some (b, rest) → (bytes ≡ b ∷ rest) × (b < 256) × IsBytes rest
    takes_byte [] b rest fits e = absurd cc
    takes_byte (n ∷ bytes) b rest fits e = subst (λ (p : ℕ × List ℕ). (n ∷ bytes ≡ p.0 ∷ p.1) × (p.0 < 256) × IsBytes p.1) (some_is (n, bytes) (b, rest) e) (refl, fits 0, IsBytes-rest n bytes fits)

-- ---- what is made of a value

pub mapped_format : {A B : Type 0} (make : A → B) (back : B → A) → ((b : B) → make (back b) ≡ b) → (parts : A → List (List ℕ)) (parts' : B → List (List ℕ)) (R G : A → Type 0) (R' G' : B → Type 0) (read : Reader A) → IsFormat parts R G read
    → ((a : A) → parts a ≡ parts' (make a)) → ((a : A) → G a → G' (make a)) → ((b : B) → parts' b ≡ parts (back b)) → ((b : B) → R' b → R (back b)) → IsFormat parts' R' G' (mapped make read)
mapped_format {A} {B} make back is parts parts' R G R' G' read f spelled good unspelled right = record {
  takes = λ bytes b rest fits e.
      let m = map_some (read bytes) (λ (a : A × List ℕ). (make a.0, a.1)) (b, rest) e in
      let t = f.takes bytes m.0.0 m.0.1 fits m.1 in
      subst (λ (q : B × List ℕ). (bytes ≡ bytes_of (parts' q.0) ++ q.1) × G' q.0 × IsBytes q.1) m.2 (t.0 ∙ ap (λ (ps : List (List ℕ)). bytes_of ps ++ m.0.1) (spelled m.0.0), good m.0.0 t.1, t.2);
  again = λ b rest r small. again_made b rest r small;
}
  where
    again_made : (b : B) (rest : List ℕ) → R' b → size (parts' b) < 2 ^ 32 → mapped make read (bytes_of (parts' b) ++ rest) ≡ Some (b, rest)
    again_made b rest r small =
        ap (λ (ps : List (List ℕ)). mapped make read (bytes_of ps ++ rest)) (unspelled b) ∙ rw (f.again (back b) rest (right b r) (subst (λ (ps : List (List ℕ)). size ps < 2 ^ 32) (unspelled b) small), is b) refl

-- ---- lists

cons_is : {A : Type 0} (v : A) (others : List A) (rest : List ℕ) (read : (A × List A) × List ℕ) (made : List A × List ℕ) → ((v, others), rest) ≡ read → (read.0.0 ∷ read.0.1, read.1) ≡ made → (v ∷ others, rest) ≡ made
cons_is {A} v others rest read made is then = ap (λ (p : (A × List A) × List ℕ). (p.0.0 ∷ p.0.1, p.1)) is ∙ then

pub listed_takes : {A : Type 0} (parts : A → List (List ℕ)) (R G : A → Type 0) (read : Reader A) → IsFormat parts R G read → (n : ℕ) (bytes : List ℕ) (vs : List A) (rest : List ℕ) → IsBytes bytes → listed_at read n bytes ≡ Some (vs, rest)
    → (bytes ≡ bytes_of (flat_map parts vs) ++ rest) × ((length vs ≡ n) × Each G vs) × IsBytes rest
unfolding listed_at
listed_takes {A} parts R G read f zero bytes vs rest fits e =
    subst (λ (q : List A × List ℕ). (bytes ≡ bytes_of (flat_map parts q.0) ++ q.1) × ((length q.0 ≡ 0) × Each G q.0) × IsBytes q.1) (some_is ([], bytes) (vs, rest) e) (refl, (refl, tt), fits)
listed_takes {A} parts R G read f (suc n) bytes vs rest fits e =
    let m = map_some (both read (listed_at read n) bytes) (λ (a : (A × List A) × List ℕ). (a.0.0 ∷ a.0.1, a.1)) (vs, rest) e in
    let a = then_some (read bytes) (λ a. option_and_then (λ b. Some ((a.0, b.0), b.1)) (listed_at read n a.1)) m.0 m.1 in
    let b = then_some (listed_at read n a.0.1) (λ b. Some ((a.0.0, b.0), b.1)) m.0 a.2 in
    let x = f.takes bytes a.0.0 a.0.1 fits a.1 in
    let y = listed_takes parts R G read f n a.0.1 b.0.0 b.0.1 x.2 b.1 in
    let whole : bytes ≡ bytes_of (flat_map parts (a.0.0 ∷ b.0.0)) ++ b.0.1 =
    x.0 ∙ ap (λ (t : List ℕ). bytes_of (parts a.0.0) ++ t) y.0 ∙ sym (append_assoc (bytes_of (parts a.0.0)) (bytes_of (flat_map parts b.0.0)) b.0.1) ∙ ap (λ (t : List ℕ). t ++ b.0.1) (sym (bytes_of-append (parts a.0.0) (flat_map parts b.0.0))) in
    subst (λ (q : List A × List ℕ). (bytes ≡ bytes_of (flat_map parts q.0) ++ q.1) × ((length q.0 ≡ suc n) × Each G q.0) × IsBytes q.1)
    (cons_is a.0.0 b.0.0 b.0.1 m.0 (vs, rest) (some_is ((a.0.0, b.0.0), b.0.1) m.0 b.2) m.2) (whole, (ap suc y.1.0, (x.1, y.1.1)), y.2)

pub listed_again : {A : Type 0} (parts : A → List (List ℕ)) (R G : A → Type 0) (read : Reader A) → IsFormat parts R G read → (vs : List A) (rest : List ℕ) → Each R vs → size (flat_map parts vs) < 2 ^ 32 → listed_at read (length vs) (bytes_of (flat_map parts vs) ++ rest) ≡ Some (vs, rest)
unfolding listed_at
listed_again parts R G read f [] rest fits small = refl
listed_again parts R G read f (v ∷ vs) rest fits small =
    let sum = sum_by-append length (parts v) (flat_map parts vs) in
    let one : size (parts v) < 2 ^ 32 = omega arith in
    let others : size (flat_map parts vs) < 2 ^ 32 = omega arith in
    let order : bytes_of (flat_map parts (v ∷ vs)) ++ rest ≡ bytes_of (parts v) ++ (bytes_of (flat_map parts vs) ++ rest) =
    ap (λ (t : List ℕ). t ++ rest) (bytes_of-append (parts v) (flat_map parts vs)) ∙ append_assoc (bytes_of (parts v)) (bytes_of (flat_map parts vs)) rest in
    ap (listed_at read (suc (length vs))) order ∙ rw (f.again v (bytes_of (flat_map parts vs) ++ rest) fits.0 one, listed_again parts R G read f vs rest fits.1 others) refl

-- A list behind its count.
pub counted_format : {A : Type 0} (parts : A → List (List ℕ)) (R G : A → Type 0) (read : Reader A) → IsFormat parts R G read
    → IsFormat (λ xs. (length xs ∷ []) ∷ flat_map parts xs) (Each R) (λ xs. (length xs < 256) × Each G xs) (after byte_at (listed_at read))
unfolding byte_at
counted_format {A} parts R G read f = record {
  takes = takes_counted;
  again = λ xs rest fits small. listed_again parts R G read f xs rest fits (omega (arith, sum_by-cons length (length xs ∷ []) (flat_map parts xs)));
}
  where
    takes_counted : (bytes : List ℕ) (xs : List A) (rest : List ℕ) → IsBytes bytes → after byte_at (listed_at read) bytes ≡ Some (xs, rest) → (bytes ≡ bytes_of ((length xs ∷ []) ∷ flat_map parts xs) ++ rest) × ((length xs < 256) × Each G xs) × IsBytes rest
    takes_counted [] xs rest fits e = absurd cc
    takes_counted (n ∷ bytes) xs rest fits e =
        let t = listed_takes parts R G read f n bytes xs rest (IsBytes-rest n bytes fits) e in
        (ap (λ (x : List ℕ). n ∷ x) t.0 ∙ ap (λ (k : ℕ). k ∷ (bytes_of (flat_map parts xs) ++ rest)) (sym t.1.0), (omega (arith, fits 0, t.1.0), t.1.1), t.2)

-- ---- all of the bytes are one value

pub all_takes : {A : Type 0} (parts : A → List (List ℕ)) (R G : A → Type 0) (read : Reader A) → IsFormat parts R G read → (bytes : List ℕ) (a : A) → IsBytes bytes → all_of (read bytes) ≡ Some a → (bytes ≡ bytes_of (parts a)) × G a
all_takes {A} parts R G read f bytes a fits e = read_all (read bytes) refl e
  where
    read_all : (o : Option (A × List ℕ)) → read bytes ≡ o → all_of o ≡ Some a → (bytes ≡ bytes_of (parts a)) × G a
    read_all None was e = absurd cc
    read_all (Some x) was e =
        let g = test_some (eqb (length x.1) 0) x.0 a e in
        let t = f.takes bytes x.0 x.1 fits was in
        let nothing : x.1 ≡ [] = nil_from_length x.1 (eqb-true _ _ g.0) in
        subst (λ (y : A). (bytes ≡ bytes_of (parts y)) × G y) g.1 (t.0 ∙ ap (λ (r : List ℕ). bytes_of (parts x.0) ++ r) nothing ∙ append-nil (bytes_of (parts x.0)), t.1)

pub all_again : {A : Type 0} (parts : A → List (List ℕ)) (R G : A → Type 0) (read : Reader A) → IsFormat parts R G read → (a : A) → R a → size (parts a) < 2 ^ 32 → all_of (read (bytes_of (parts a))) ≡ Some a
all_again parts R G read f a right small = ap (λ bytes. all_of (read bytes)) (sym (append-nil (bytes_of (parts a)))) ∙ rw (f.again a [] right small) refl

-- the kind and the fields of one kind
pub kind_takes : {A F : Type 0} (frame_parts : F → List (List ℕ)) (fit : F → Type 0) (parts : A → List (List ℕ)) (R G : A → Type 0) (read : Reader A) (make : A → F) (code kind : ℕ) → IsFormat parts R G read
    → ((a : A) → G a → fit (make a)) → ((a : A) → frame_parts (make a) ≡ (code ∷ []) ∷ parts a)
    → (bytes : List ℕ) (frame : F) → IsBytes bytes → eqb kind code ≡ true → option_map make (all_of (read bytes)) ≡ Some frame → (kind ∷ bytes ≡ bytes_of (frame_parts frame)) × fit frame
kind_takes {A} {F} frame_parts fit parts R G read make code kind f good spelled bytes frame fits is e =
    let m = map_some (all_of (read bytes)) make frame e in
    let t = all_takes parts R G read f bytes m.0 fits m.1 in
    let whole : kind ∷ bytes ≡ bytes_of (frame_parts (make m.0)) = ap (λ (k : ℕ). k ∷ bytes) (eqb-true kind code is) ∙ ap (λ (b : List ℕ). code ∷ b) t.0 ∙ ap bytes_of (sym (spelled m.0)) in
    subst (λ (x : F). (kind ∷ bytes ≡ bytes_of (frame_parts x)) × fit x) m.2 (whole, good m.0 t.1)

-- Frames are read as they are spelled: what is read of a payload was spelled by these parts and fits, and what fits and is no longer than a length may tell is read again.
pub record ReadsAsSpelled {F : Type 0} (parts : F → List (List ℕ)) (fit : F → Type 0) (fields : ℕ → List ℕ → Option F) : Type 0 where
  pub takes : (bytes : List ℕ) (frame : F) → IsBytes bytes → payload_at fields bytes ≡ Some frame → (bytes ≡ bytes_of (parts frame)) × fit frame
  pub again : (frame : F) → fit frame → size (parts frame) < 2 ^ 32 → payload_at fields (bytes_of (parts frame)) ≡ Some frame
