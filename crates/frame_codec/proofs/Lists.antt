-- Reading items one after the other, as a loop does.
use Rattle.std.proofs.Common.{◌≡◌, ℕ, suc, ◌-◌, ◌+◌, ◌≤◌, ◌<◌, List, [], ◌∷◌, ◌++◌, Option, Some, None, refl, sym, ap, ◌∙◌, append_assoc, arith}
use Rattle.std.specs.Prelude.{option_map, option_and_then, IsSome}
use Rattle.std.proofs.lemmas.List.{append-nil}
use Rattle.frame_codec.specs.Reading.{Reader, listed_at}
use Rattle.frame_codec.specs.declared.field.ReadError.{ReadError}
use Rattle.frame_codec.specs.declared.field.ReadError.TheVariants.{Bad, Memory}

-- what was read before, and what is still read
abbrev pub with_front : {A : Type 0} → List A → Option (List A × List ℕ) → Option (List A × List ℕ)
with_front front read = option_map (λ x. (front ++ x.0, x.1)) read

-- reading failed, or memory was refused
abbrev pub Fails : {A : Type 0} → ReadError → Option A → Type 0
Fails Bad read = read ≡ None
Fails Memory read = IsSome read

regroup : {A : Type 0} (front : List A) (v : A) (read : Option (List A × List ℕ))
    → with_front front (option_map (λ (p : (A × List A) × List ℕ). (p.0.0 ∷ p.0.1, p.1)) (option_and_then (λ (b : List A × List ℕ). Some ((v, b.0), b.1)) read)) ≡ with_front (front ++ v ∷ []) read
regroup {A} front v (Some x) = ap (λ (vs : List A). Some (vs, x.1)) (simp append_assoc)
regroup front v None = refl

pub goes_on : {A : Type 0} (read : Reader A) (front : List A) (count i : ℕ) (bytes : List ℕ) (v : A) (behind : List ℕ) (total : Option (List A × List ℕ)) → i < count → read bytes ≡ Some (v, behind)
    → with_front front (listed_at read (count - i) bytes) ≡ total → with_front (front ++ v ∷ []) (listed_at read (count - (i + 1)) behind) ≡ total
unfolding listed_at
goes_on read front count i bytes v behind total lt h so_far =
    let k : count - i ≡ suc (count - (i + 1)) = omega arith in
    let one : with_front front (listed_at read (count - i) bytes) ≡ with_front (front ++ v ∷ []) (listed_at read (count - (i + 1)) behind) = rw (k, h) (regroup front v (listed_at read (count - (i + 1)) behind)) in
    sym one ∙ so_far

pub ends : {A : Type 0} (read : Reader A) (e : ReadError) (front : List A) (count i : ℕ) (bytes : List ℕ) (total : Option (List A × List ℕ)) → IsSome total → i < count → Fails e (read bytes)
    → with_front front (listed_at read (count - i) bytes) ≡ total → Fails e total
unfolding listed_at
ends read Memory front count i bytes total whole lt h so_far = whole
ends read Bad front count i bytes total whole lt h so_far =
    let k : count - i ≡ suc (count - (i + 1)) = omega arith in
    let one : with_front front (listed_at read (count - i) bytes) ≡ None = rw (k, h) refl in
    sym so_far ∙ one

pub is_done : {A : Type 0} (read : Reader A) (front : List A) (count i : ℕ) (bytes : List ℕ) (total : Option (List A × List ℕ)) → count ≤ i → with_front front (listed_at read (count - i) bytes) ≡ total → total ≡ Some (front, bytes)
unfolding listed_at
is_done {A} read front count i bytes total le so_far =
    let k : count - i ≡ 0 = omega arith in
    let one : with_front front (listed_at read (count - i) bytes) ≡ Some (front, bytes) = rw k (ap (λ (vs : List A). Some (vs, bytes)) (append-nil front)) in
    sym so_far ∙ one

-- an item stands there, where so many do and not all are read
pub one_stands : {A : Type 0} (read : Reader A) (front : List A) (count i : ℕ) (bytes : List ℕ) (total : Option (List A × List ℕ)) → IsSome total → i < count
    → with_front front (listed_at read (count - i) bytes) ≡ total → IsSome (read bytes)
unfolding listed_at
one_stands {A} read front count i bytes total whole lt so_far = by_read (read bytes) refl
  where
    never : (o : Option (List A × List ℕ)) → IsSome o → o ≡ None → ⊥
    never (Some x) some e = cc
    never None some e = cc

    by_read : (o : Option (A × List ℕ)) → read bytes ≡ o → IsSome o
    by_read (Some x) e = refl
    by_read None e =
        let k : count - i ≡ suc (count - (i + 1)) = omega arith in
        let one : with_front front (listed_at read (count - i) bytes) ≡ None = rw (k, e) refl in
        absurd (never total whole (sym so_far ∙ one))

-- ---- what stands behind items

abbrev pub rest_of : {A : Type 0} → Option (A × List ℕ) → Option (List ℕ)
rest_of read = option_map (λ a. a.1) read

rest_behind : {A : Type 0} (v : A) (read : Option (List A × List ℕ))
    → rest_of (option_map (λ (p : (A × List A) × List ℕ). (p.0.0 ∷ p.0.1, p.1)) (option_and_then (λ (b : List A × List ℕ). Some ((v, b.0), b.1)) read)) ≡ rest_of read
rest_behind v (Some x) = refl
rest_behind v None = refl

some_rest : (one other : List ℕ) → Some one ≡ Some other → one ≡ other
some_rest one other e = cc

one_rest : {A : Type 0} (first : Option (A × List ℕ)) (behind : List ℕ) → rest_of first ≡ Some behind → (v : A) × (first ≡ Some (v, behind))
one_rest (Some x) behind e = (x.0, ap (λ (r : List ℕ). Some (x.0, r)) (some_rest x.1 behind e))
one_rest None behind e = absurd cc

none_rest : {A : Type 0} (first : Option (A × List ℕ)) → rest_of first ≡ None → first ≡ None
none_rest (Some x) e = absurd cc
none_rest None e = refl

pub passes_one : {A : Type 0} (read : Reader A) (count i : ℕ) (bytes behind : List ℕ) (total : Option (List ℕ)) → i < count → rest_of (read bytes) ≡ Some behind → rest_of (listed_at read (count - i) bytes) ≡ total → rest_of (listed_at read (count - (i + 1)) behind) ≡ total
unfolding listed_at
passes_one read count i bytes behind total lt h so_far =
    let k : count - i ≡ suc (count - (i + 1)) = omega arith in
    let v = one_rest (read bytes) behind h in
    let one : rest_of (listed_at read (count - i) bytes) ≡ rest_of (listed_at read (count - (i + 1)) behind) = rw (k, v.1) (rest_behind v.0 (listed_at read (count - (i + 1)) behind)) in
    sym one ∙ so_far

pub stops_at : {A : Type 0} (read : Reader A) (count i : ℕ) (bytes : List ℕ) (total : Option (List ℕ)) → i < count → rest_of (read bytes) ≡ None → rest_of (listed_at read (count - i) bytes) ≡ total → total ≡ None
unfolding listed_at
stops_at read count i bytes total lt h so_far =
    let k : count - i ≡ suc (count - (i + 1)) = omega arith in
    let none = none_rest (read bytes) h in
    let one : rest_of (listed_at read (count - i) bytes) ≡ None = rw (k, none) refl in
    sym so_far ∙ one

pub passed_all : {A : Type 0} (read : Reader A) (count i : ℕ) (bytes : List ℕ) (total : Option (List ℕ)) → count ≤ i → rest_of (listed_at read (count - i) bytes) ≡ total → total ≡ Some bytes
unfolding listed_at
passed_all read count i bytes total le so_far =
    let k : count - i ≡ 0 = omega arith in
    let one : rest_of (listed_at read (count - i) bytes) ≡ Some bytes = rw k refl in
    sym so_far ∙ one
