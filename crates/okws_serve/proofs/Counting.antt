-- How many of the numbers drawn from a board are below a limit.
use Rattle.std.proofs.Common.{◌≡◌, ℕ, zero, suc, ◌+◌, ◌<◌, ◌≤◌, ◌-◌, min, List, [], ◌∷◌, length, refl, ap, subst, ⊎_elim, arith, eq-eqb, ne_eqb, cond}
use Rattle.std.proofs.lemmas.Bool.{cases_lt, le-leb, lt-leb}
use Rattle.std.specs.Prelude.{nat_lt}
use mathlib.Core.Logic.{dite}
use native.Mathlib.Decide.{ℕ_discrete}
use Rattle.turn_lock.specs.Board.{AllUnder, drawn_by, from_on}
use Rattle.turn_lock.proofs.BoardLists.{drawn-under}

-- one where the number is below the limit
abbrev pub one_below : ℕ → ℕ → ℕ
one_below most x = cond (nat_lt x most) 1 0

-- how many of these numbers are below the limit
abbrev pub below : ℕ → List ℕ → ℕ
below most [] = 0
below most (x ∷ xs) = one_below most x + below most xs

pub one-below : (most x : ℕ) → x < most → one_below most x ≡ 1
one-below most x l = grind arith

pub none-below : (most x : ℕ) → most ≤ x → one_below most x ≡ 0
none-below most x l = grind arith

pub below-all : (most : ℕ) (xs : List ℕ) → AllUnder most xs → below most xs ≡ length xs
below-all most [] u = refl
below-all most (x ∷ xs) u = let h = below-all most xs u.1 in let i = one-below most x u.0 in omega arith

-- of all numbers drawn from seats whose numbers rise by one from k, how many are below the limit
abbrev pub sum_below : ℕ → (ℕ → ℕ) → ℕ → ℕ → ℕ → ℕ
sum_below most hand count k zero = 0
sum_below most hand count k (suc n) = below most (drawn_by hand k count) + sum_below most hand count (suc k) n

-- one number more, which another seat drew
sum-else : (most : ℕ) (hand : ℕ → ℕ) (c k n : ℕ) → ((m : ℕ) → k ≤ m → m < k + n → hand c ≡ m → ⊥) → sum_below most hand (suc c) k n ≡ sum_below most hand c k n
sum-else most hand c k zero away = refl
sum-else most hand c k (suc n) away =
    let h = sum-else most hand c (suc k) n (λ m l u e. away m (omega arith) (omega arith) e) in
    let q = ne_eqb (hand c) k (λ e. away k (omega arith) (omega arith) e) in
    rw q (ap (λ x. below most (drawn_by hand k c) + x) h)

-- one number more, which one of these seats drew
sum-here : (most : ℕ) (hand : ℕ → ℕ) (c k n : ℕ) → k ≤ hand c → hand c < k + n → sum_below most hand (suc c) k n ≡ one_below most c + sum_below most hand c k n
sum-here most hand c k zero l u = absurd (omega arith)
sum-here most hand c k (suc n) l u = dite (ℕ_discrete (hand c) k)
    (λ e. let q = eq-eqb (hand c) k e in let h = sum-else most hand c (suc k) n (λ m a b f. omega arith) in rw q (omega (arith, h)))
    (λ ne. let q = ne_eqb (hand c) k ne in let h = sum-here most hand c (suc k) n (omega arith) (omega arith) in rw q (omega (arith, h)))

-- where none was drawn, none is below the limit
sum-none : (most : ℕ) (hand : ℕ → ℕ) (k n : ℕ) → sum_below most hand 0 k n ≡ 0
sum-none most hand k zero = refl
sum-none most hand k (suc n) = let h = sum-none most hand (suc k) n in omega arith

-- all numbers below the count were drawn, each once: those below the limit are as many as it says, or as were drawn
pub sum-all : (most : ℕ) (hand : ℕ → ℕ) (n c : ℕ) → ((k : ℕ) → k < c → hand k < n) → sum_below most hand c 0 n ≡ min most c
sum-all most hand n zero f = let h = sum-none most hand 0 n in omega arith
sum-all most hand n (suc c) f =
    let h = sum-all most hand n c (λ k l. f k (omega arith)) in
    let s = sum-here most hand c 0 n (omega arith) (let u = f c (omega arith) in omega arith) in
    grind (arith, h, s, one-below most c, none-below most c)

-- the last number that was drawn is below the count
pub last-below : (hand : ℕ → ℕ) (m c x : ℕ) (xs : List ℕ) → drawn_by hand m c ≡ x ∷ xs → x < c
last-below hand m c x xs e = (subst (AllUnder c) e (drawn-under hand m c)).0

-- one seat more, whose number is the next
pub sum-last : (most : ℕ) (hand : ℕ → ℕ) (count k n : ℕ) → sum_below most hand count k (suc n) ≡ sum_below most hand count k n + below most (drawn_by hand (k + n) count)
sum-last most hand count k zero = let e : k ≡ k + 0 = omega arith in let h = ap (λ m. below most (drawn_by hand m count)) e in omega (arith, h)
sum-last most hand count k (suc n) =
    let e : suc k + n ≡ k + suc n = omega arith in
    let h = ap (λ m. below most (drawn_by hand m count)) e in
    let r = sum-last most hand count (suc k) n in
    omega (arith, h, r)

-- of all numbers from r on below d, how many are below the limit
pub below-from : (most r d : ℕ) → below most (from_on r d) ≡ min most d - r
unfolding from_on
below-from most r zero = omega arith
below-from most r (suc d) = ⊎_elim
    (λ (l : d < r). let q = lt-leb r d l in let e : 0 ≡ min most (suc d) - r = omega (arith, l) in rw q e)
    (λ (l : r ≤ d).
    let q = le-leb r d l in
    let h = below-from most r d in
    let e : one_below most d + below most (from_on r d) ≡ min most (suc d) - r = ⊎_elim
    (λ (b : d < most). let o = one-below most d b in omega (arith, h, o, l, b))
    (λ (b : most ≤ d). let o = none-below most d b in omega (arith, h, o, l, b)) (cases_lt d most) in
    rw q e)
    (cases_lt d r)
