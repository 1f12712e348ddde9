use Rattle.std.proofs.lemmas.List.{length-append}
use Rattle.std.proofs.Common.{◌≡◌, ℕ, suc, ◌+◌, ◌-◌, ◌<◌, ◌≤◌, length, Bool, true, false, List, [], ◌∷◌, ◌++◌, map, refl, arith, append_assoc}
use Rattle.std.specs.Prelude.{filter, if◌then◌else◌}
use Rattle.okws_plan.specs.Configuration.{grants_at, numbered_from}
use Rattle.okws_plan.specs.declared.configuration.Config.{Config}

-- the proxies from i on, of n, where s has a grant
abbrev pub granted_from : Config → ℕ → ℕ → ℕ → List ℕ
granted_from C s i n = filter (λ p. grants_at C s p) (numbered_from i (n - i))

-- the first of the proxies that are left is granted, or skipped
pub grants_first : (C : Config) (s i n : ℕ) → i < n → grants_at C s i ≡ true → granted_from C s i n ≡ i ∷ granted_from C s (i + 1) n
grants_first C s i n below h =
    let e : n - i ≡ suc (n - (i + 1)) = omega (arith, below) in
    rw (e, h) refl

pub skips_first : (C : Config) (s i n : ℕ) → i < n → grants_at C s i ≡ false → granted_from C s i n ≡ granted_from C s (i + 1) n
skips_first C s i n below h =
    let e : n - i ≡ suc (n - (i + 1)) = omega (arith, below) in
    rw (e, h) refl

-- one more of what is made of each
pub more_granted : {X : Type 0} (f : ℕ → X) (C : Config) (s i n : ℕ) (found now all : List X) → i < n
    → now ≡ (if grants_at C s i then found ++ f i ∷ [] else found) → found ++ map f (granted_from C s i n) ≡ all → now ++ map f (granted_from C s (i + 1) n) ≡ all
more_granted f C s i n found now all below is so = by (grants_at C s i) refl is
  where
    by : (b : Bool) → grants_at C s i ≡ b → now ≡ (if b then found ++ f i ∷ [] else found) → now ++ map f (granted_from C s (i + 1) n) ≡ all
    by true h e = rw e (rw (append_assoc found (f i ∷ []) (map f (granted_from C s (i + 1) n))) (rw (grants_first C s i n below h) at so))
    by false h e = rw e (rw (skips_first C s i n below h) at so)

-- at most one more
pub more_few : {X : Type 0} (b : Bool) (found now : List X) (x : X) (i : ℕ) → now ≡ (if b then found ++ x ∷ [] else found) → length found ≤ i → length now ≤ i + 1
more_few true found now x i e h = rw (e, length-append found (x ∷ [])) (omega (arith, h))
more_few false found now x i e h = rw e (omega (arith, h))
