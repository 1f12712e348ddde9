-- The places of one group, when one comes or goes.
use Rattle.std.proofs.Common.{◌≡◌, ◌∙◌, ℕ, Bool, true, false, cond, List, [], ◌∷◌, length, suc, refl, ap, sym, arith}
use Rattle.std.specs.Prelude.{◌||◌, ◌&&◌, ◌==◌, not}
use Rattle.std.specs.Cmp.{unsigned_tied}
use Rattle.std.specs.Ordering.{is_eq, nat_cmp}
use Rattle.std.specs.BTreeMap.{is_at}
use Rattle.row_index.specs.GroupPlaces.{is_among}
use Rattle.row_index.proofs.Grouped.{alone}
use Rattle.row_index.proofs.Moved.{nat_same}

put_in : (b d x : Bool) → b ≡ d → cond b true x ≡ (d || x)
put_in true d x is = ap (λ (e : Bool). e || x) is
put_in false d x is = ap (λ (e : Bool). e || x) is

taken_out : (b d x : Bool) → b ≡ d → cond b false x ≡ (not d && x)
taken_out true d x is = ap (λ (e : Bool). not e && x) is
taken_out false d x is = ap (λ (e : Bool). not e && x) is

-- A place is put in a set, and taken out.
pub put_there : (n p : ℕ) (now before : Bool) → now ≡ cond (is_at (nat_cmp n) p) true before → now ≡ ((n == p) || before)
put_there n p now before is = is ∙ put_in (is_eq (nat_cmp n p)) (n == p) before (unsigned_tied n p)

pub taken_there : (n p : ℕ) (now before : Bool) → now ≡ cond (is_at (nat_cmp n) p) false before → now ≡ (not (n == p) && before)
taken_there n p now before is = is ∙ taken_out (is_eq (nat_cmp n p)) (n == p) before (unsigned_tied n p)

sole_of : (a b : Bool) → a ≡ (b || false) → a ≡ b
sole_of a true is = is
sole_of a false is = is

-- Two places that were put in an empty set.
pub both_there : (a b p : ℕ) (keys first now : List ℕ) → keys ≡ [] → is_among p first ≡ cond (is_at (nat_cmp a) p) true (is_among p keys) → is_among p now ≡ cond (is_at (nat_cmp b) p) true (is_among p first) → is_among p now ≡ ((b == p) || (a == p))
both_there a b p keys first now none one two =
    put_there b p (is_among p now) (is_among p first) two
    ∙ ap (λ (t : Bool). (b == p) || t) (sole_of (is_among p first) (a == p) (put_there a p (is_among p first) (is_among p keys) one ∙ ap (λ (ks : List ℕ). (a == p) || is_among p ks) none))

-- A sole place stays where another one is taken out.
pub sole_stays : (sole place p : ℕ) → (sole == place) ≡ false → is_among p (sole ∷ []) ≡ (not (place == p) && is_among p (sole ∷ []))
sole_stays sole place p apart = alone sole p ∙ by (place == p) refl ∙ ap (λ (b : Bool). not (place == p) && b) (sym (alone sole p))
  where
    by : (b : Bool) → (place == p) ≡ b → (sole == p) ≡ (not (place == p) && (sole == p))
    by true is = sym (ap (λ (n : ℕ). sole == n) (nat_same place p is)) ∙ apart ∙ sym (ap (λ (b : Bool). not b && (sole == p)) is)
    by false is = sym (ap (λ (b : Bool). not b && (sole == p)) is)

left_out : (b : Bool) → (not b && b) ≡ false
left_out true = refl
left_out false = refl

-- None is left of a sole place that is taken out.
pub sole_goes : (sole place p : ℕ) → (sole == place) ≡ true → (not (place == p) && is_among p (sole ∷ [])) ≡ false
sole_goes sole place p same =
    ap (λ (b : Bool). not (place == p) && b) (alone sole p ∙ ap (λ (n : ℕ). n == p) (nat_same sole place same))
    ∙ left_out (place == p)
