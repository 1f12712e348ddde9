-- Lists of numbers, and lists of views.
use Rattle.std.proofs.Common.{◌≡◌, ◌≢◌, ◌⊎◌, inl, inr, ℕ, zero, suc, ◌+◌, ◌<◌, ◌≤◌, eqb, cond, List, [], ◌∷◌, ◌++◌, length, max, le_refl, set, get_or, refl, sym, ap, ◌∙◌, subst, ⊎_elim, arith, leb, eq-eqb, ne_eqb}
use mathlib.Core.Logic.{dite}
use Rattle.std.proofs.lemmas.Bool.{cases_lt, le-leb, lt-leb}
use mathlib.Core.Option as maybe
use native.Mathlib.Decide.{ℕ_discrete}
use lib.ListN.{get_elem?}
use Rattle.atomic_table.proofs.Lists.{at_set}
use Rattle.turn_lock.specs.declared.board_rule.View.{View}
use Rattle.turn_lock.specs.Board.{UpTo, AllUnder, drawn_by, from_on, total}

module _ {A : Type 0} where
  pub inside : (l : List A) (i : ℕ) (a : A) → get_elem? l i ≡ maybe.some a → i < length l
  inside [] i a e = absurd (maybe.some-ne-none a (sym e))
  inside (x ∷ xs) zero a e = omega arith
  inside (x ∷ xs) (suc i) a e = let h = inside xs i a e in omega arith

  pub same_there : (l : List A) (i : ℕ) (a b : A) → get_elem? l i ≡ maybe.some a → get_elem? l i ≡ maybe.some b → a ≡ b
  same_there l i a b e f = maybe.some-injective a b (sym e ∙ f)

  pub all_stay : (P : ℕ → A → Type 0) (l : List A) (i : ℕ) (a : A) → P i a → ((j : ℕ) (b : A) → j ≢ i → get_elem? l j ≡ maybe.some b → P j b)
      → (j : ℕ) (b : A) → get_elem? (set l i a) j ≡ maybe.some b → P j b
  all_stay P l i a mine others j b e = ⊎_elim (λ (t : (j ≡ i) × (a ≡ b)). subst (λ (x : ℕ × A). P x.0 x.1) (λ k. (sym t.0 k, t.1 k)) mine)
      (λ (t : (j ≢ i) × (get_elem? l j ≡ maybe.some b)). others j b t.0 t.1) (at_set l i j a b e)

  pub last_or : (l : List A) (a b : A) (j : ℕ) → get_elem? (l ++ a ∷ []) j ≡ maybe.some b → ((j < length l) × (get_elem? l j ≡ maybe.some b)) ⊎ ((j ≡ length l) × (a ≡ b))
  last_or [] a b zero e = inr (refl, maybe.some-injective a b e)
  last_or [] a b (suc j) e = absurd (maybe.some-ne-none b (sym e))
  last_or (x ∷ xs) a b zero e = inl (omega arith, e)
  last_or (x ∷ xs) a b (suc j) e = ⊎_elim (λ (t : (j < length xs) × (get_elem? xs j ≡ maybe.some b)). inl (let q = t.0 in omega arith, t.1)) (λ (t : (j ≡ length xs) × (a ≡ b)). inr (ap suc t.0, t.1)) (last_or xs a b j e)

-- t has the first number where it is k, else the second
abbrev pub pick : ℕ → ℕ → ℕ → ℕ → ℕ
pick t k a b = cond (eqb t k) a b

pub pick_here : (t k a b : ℕ) → t ≡ k → pick t k a b ≡ a
pick_here t k a b e = let q = eq-eqb t k e in rw q refl

pub pick_else : (t k a b : ℕ) → t ≢ k → pick t k a b ≡ b
pick_else t k a b ne = let q = ne_eqb t k ne in rw q refl

pub up_to-refl : (xs : List ℕ) → UpTo xs xs
up_to-refl [] = tt
up_to-refl (x ∷ xs) = (le_refl x, up_to-refl xs)

-- what is seen of one place is at most what stands there
pub up_to-at : (xs gs : List ℕ) (s : ℕ) → UpTo xs gs → get_or xs s 0 ≤ get_or gs s 0
up_to-at [] gs s u = omega arith
up_to-at (x ∷ xs) [] s u = absurd u
up_to-at (x ∷ xs) (g ∷ gs) zero u = u.0
up_to-at (x ∷ xs) (g ∷ gs) (suc s) u = up_to-at xs gs s u.1

-- what stands at one place is seen
pub up_to-look : (xs gs : List ℕ) (s : ℕ) → UpTo xs gs → UpTo (set xs s (get_or gs s 0)) gs
up_to-look [] gs s u = tt
up_to-look (x ∷ xs) [] s u = absurd u
up_to-look (x ∷ xs) (g ∷ gs) zero u = (le_refl g, u.1)
up_to-look (x ∷ xs) (g ∷ gs) (suc s) u = (u.0, up_to-look xs gs s u.1)

-- what stands at one place grows
pub up_to-raise : (xs gs : List ℕ) (s k : ℕ) → get_or gs s 0 ≤ k → UpTo xs gs → UpTo xs (set gs s k)
up_to-raise [] gs s k l u = tt
up_to-raise (x ∷ xs) [] s k l u = absurd u
up_to-raise (x ∷ xs) (g ∷ gs) zero k l u = let h = u.0 in (omega arith, u.1)
up_to-raise (x ∷ xs) (g ∷ gs) (suc s) k l u = (u.0, up_to-raise xs gs s k l u.1)

pub under-at : (b : ℕ) (gs : List ℕ) (s : ℕ) → 0 < b → AllUnder b gs → get_or gs s 0 < b
under-at b [] s p u = p
under-at b (g ∷ gs) zero p u = u.0
under-at b (g ∷ gs) (suc s) p u = under-at b gs s p u.1

pub under-set : (b : ℕ) (gs : List ℕ) (s k : ℕ) → k < b → AllUnder b gs → AllUnder b (set gs s k)
under-set b [] s k l u = tt
under-set b (g ∷ gs) zero k l u = (l, u.1)
under-set b (g ∷ gs) (suc s) k l u = (u.0, under-set b gs s k l u.1)

pub under-more : (b c : ℕ) (xs : List ℕ) → b ≤ c → AllUnder b xs → AllUnder c xs
under-more b c [] l u = tt
under-more b c (x ∷ xs) l u = let h = u.0 in (omega arith, under-more b c xs l u.1)

-- numbers that were drawn are below the count
pub drawn-under : (hand : ℕ → ℕ) (m c : ℕ) → AllUnder c (drawn_by hand m c)
drawn-under hand m zero = tt
drawn-under hand m (suc c) = dite (ℕ_discrete (hand c) m)
    (λ e. let q = eq-eqb (hand c) m e in rw q (omega arith, under-more c (suc c) (drawn_by hand m c) (omega arith) (drawn-under hand m c)))
    (λ ne. let q = ne_eqb (hand c) m ne in rw q (under-more c (suc c) (drawn_by hand m c) (omega arith) (drawn-under hand m c)))

-- numbers below the count tell the same where who drew them is the same
pub drawn-same : (hand hand' : ℕ → ℕ) (m c : ℕ) → ((k : ℕ) → k < c → hand' k ≡ hand k) → drawn_by hand' m c ≡ drawn_by hand m c
drawn-same hand hand' m zero f = refl
drawn-same hand hand' m (suc c) f =
    let rest = drawn-same hand hand' m c (λ k l. f k (omega arith)) in
    let here = f c (omega arith) in
    dite (ℕ_discrete (hand c) m)
    (λ e. let q = eq-eqb (hand c) m e in let q' = eq-eqb (hand' c) m (here ∙ e) in rw (q, q') (ap (λ l. c ∷ l) rest))
    (λ ne. let q = ne_eqb (hand c) m ne in let q' = ne_eqb (hand' c) m (λ e. ne (sym here ∙ e)) in rw (q, q') rest)

-- a number that is above those of all who drew has none
pub drawn-none : (hand : ℕ → ℕ) (n m c : ℕ) → ((k : ℕ) → k < c → hand k < n) → n ≤ m → drawn_by hand m c ≡ []
drawn-none hand n m zero f l = refl
drawn-none hand n m (suc c) f l =
    let h = f c (omega arith) in
    let q = ne_eqb (hand c) m (λ e. omega arith) in
    rw q (drawn-none hand n m c (λ k b. f k (omega arith)) l)

module _ (hand : ℕ → ℕ) (c number : ℕ) where
  abbrev pub hand_after : ℕ → ℕ
  hand_after k = pick k c number (hand k)

  same_below : (k : ℕ) → k < c → hand_after k ≡ hand k
  same_below k l = pick_else k c number (hand k) (λ e. omega arith)

  -- the number was drawn by this seat
  pub drawn-own : drawn_by hand_after number (suc c) ≡ c ∷ drawn_by hand number c
  drawn-own = let q = eq-eqb (hand_after c) number (pick_here c c number (hand c) refl) in rw q (ap (λ l. c ∷ l) (drawn-same hand hand_after number c same_below))

  -- and by no other
  pub drawn-other : (m : ℕ) → m ≢ number → drawn_by hand_after m (suc c) ≡ drawn_by hand m c
  drawn-other m ne = let q = ne_eqb (hand_after c) m (λ e. ne (sym e ∙ pick_here c c number (hand c) refl)) in rw q (drawn-same hand hand_after m c same_below)

-- where no number is left, none is drawn
pub from_none : (c d : ℕ) → d ≤ c → from_on c d ≡ []
unfolding from_on
from_none c zero l = refl
from_none c (suc d) l = let q = lt-leb c d (omega arith) in rw q refl

module _ (hand : ℕ → ℕ) (c number : ℕ) where
  -- this seat draws all numbers from c on
  abbrev pub hand_rest : ℕ → ℕ
  hand_rest k = cond (leb c k) number (hand k)

  pub rest_here : (k : ℕ) → c ≤ k → hand_rest k ≡ number
  rest_here k l = let q = le-leb c k l in rw q refl

  pub rest_else : (k : ℕ) → k < c → hand_rest k ≡ hand k
  rest_else k l = let q = lt-leb c k (omega arith) in rw q refl

  pub rest-same : (m : ℕ) → drawn_by hand_rest m c ≡ drawn_by hand m c
  rest-same m = drawn-same hand hand_rest m c rest_else

  rest-own-to : (d : ℕ) → c ≤ d → drawn_by hand_rest number d ≡ from_on c d ++ drawn_by hand number c
  unfolding from_on
  rest-own-to zero l =
      let z : c ≡ 0 = omega arith in
      ap (drawn_by hand number) (sym z)
  rest-own-to (suc d) l = dite (ℕ_discrete c (suc d))
      (λ e. subst (λ x. drawn_by hand_rest number x ≡ from_on c x ++ drawn_by hand number c) e (rest-same number ∙ ap (λ l. l ++ drawn_by hand number c) (sym (from_none c c (le_refl c)))))
      (λ ne. let b : c ≤ d = omega arith in
      let q = le-leb c d b in let h = eq-eqb number number refl in
      rw (q, h) (ap (λ l. d ∷ l) (rest-own-to d b)))

  rest-other-to : (m d : ℕ) → m ≢ number → c ≤ d → drawn_by hand_rest m d ≡ drawn_by hand m c
  rest-other-to m zero ne l = let z : c ≡ 0 = omega arith in ap (drawn_by hand m) (sym z)
  rest-other-to m (suc d) ne l = dite (ℕ_discrete c (suc d))
      (λ e. subst (λ x. drawn_by hand_rest m x ≡ drawn_by hand m c) e (rest-same m))
      (λ no. let b : c ≤ d = omega arith in
      let q = ne_eqb (hand_rest d) m (λ e. ne (sym e ∙ rest_here d b)) in
      rw q (rest-other-to m d ne b))

  -- the numbers that were drawn up to the greater of the two
  pub rest-own : (d : ℕ) → drawn_by hand_rest number (max c d) ≡ from_on c d ++ drawn_by hand number c
  rest-own d = ⊎_elim
      (λ (l : c < d). subst (λ x. drawn_by hand_rest number x ≡ from_on c d ++ drawn_by hand number c) (let q : d ≡ max c d = omega arith in q) (rest-own-to d (omega arith)))
      (λ (l : d ≤ c). subst (λ x. drawn_by hand_rest number x ≡ from_on c d ++ drawn_by hand number c) (let q : c ≡ max c d = omega arith in q)
      (rest-same number ∙ ap (λ l. l ++ drawn_by hand number c) (sym (from_none c d l))))
      (cases_lt c d)

  -- and none by another seat
  pub rest-other : (m d : ℕ) → m ≢ number → drawn_by hand_rest m (max c d) ≡ drawn_by hand m c
  rest-other m d ne = ⊎_elim
      (λ (l : c < d). subst (λ x. drawn_by hand_rest m x ≡ drawn_by hand m c) (let q : d ≡ max c d = omega arith in q) (rest-other-to m d ne (omega arith)))
      (λ (l : d ≤ c). subst (λ x. drawn_by hand_rest m x ≡ drawn_by hand m c) (let q : c ≡ max c d = omega arith in q) (rest-same m))
      (cases_lt c d)

pub total_set : (vs : List View) (i : ℕ) (v w : View) → get_elem? vs i ≡ maybe.some v → total (set vs i w) + v.room ≡ total vs + w.room
total_set [] i v w e = absurd (maybe.some-ne-none v (sym e))
total_set (x ∷ vs) zero v w e = let q = ap (λ (z : View). z.room) (maybe.some-injective x v e) in omega arith
total_set (x ∷ vs) (suc i) v w e = let h = total_set vs i v w e in omega arith

pub total_snoc : (vs : List View) (w : View) → total (vs ++ w ∷ []) ≡ total vs + w.room
total_snoc [] w = omega arith
total_snoc (x ∷ vs) w = let h = total_snoc vs w in omega arith
