-- The keepers of a run as its types know them.
use Rattle.std.proofs.Common.{◌≡◌, ℕ, suc, ◌+◌, Bool, true, false, List, [], ◌∷◌, ◌++◌, length, refl, sym, ap, ◌∙◌, arith, rules, append_assoc, length-append}
use Rattle.std.specs.Prelude.{◌&&◌}
use Rattle.okws_plan.specs.declared.configuration.Config.{Config}
use Rattle.site_making.specs.Keepers.{KeeperIs, AreKeepers, AreBacked, are_steady, faults_at}

and_first : (a b : Bool) → (a && b) ≡ true → a ≡ true
and_first true b e = refl
and_first false b e = e

and_second : (a b : Bool) → (a && b) ≡ true → b ≡ true
and_second true b e = e
and_second false b e = absurd (search rules)

-- the count of the keeper after these
faults_mid : (before : List KeeperIs) (k : KeeperIs) (ks : List KeeperIs) (p : ℕ) → p ≡ length before → faults_at (before ++ k ∷ ks) p ≡ k.faults
faults_mid [] k ks p e = rw e refl
faults_mid (b ∷ before) k ks p e = rw e (faults_mid before k ks (length before) refl)

backed_from : (C : Config) (steady : Bool) (first : ℕ → ℕ) (all before ks : List KeeperIs) (p : ℕ) → first ≡ faults_at all → all ≡ before ++ ks → p ≡ length before → (steady ≡ true → are_steady ks ≡ true) → AreKeepers C p ks → AreBacked C steady first p ks
backed_from C steady first all before [] p f q e s h = tt
backed_from C steady first all before (k ∷ ks) p f q e s h =
    let at : first p ≡ k.faults = ap (λ (g : ℕ → ℕ). g p) f ∙ (ap (λ xs. faults_at xs p) q ∙ faults_mid before k ks p e) in
    let n : length (before ++ k ∷ []) ≡ length before + 1 = length-append before (k ∷ []) in (
      h.0,
      λ t. and_first k.steady (are_steady ks) (s t),
      at,
      backed_from C steady first all (before ++ k ∷ []) ks (suc p) f (q ∙ sym (append_assoc before (k ∷ []) ks)) (omega arith) (λ t. and_second k.steady (are_steady ks) (s t)) h.1,
    )

-- keepers of a site back a run that begins with what they are
pub backs : (C : Config) (ks : List KeeperIs) → AreKeepers C 0 ks → AreBacked C (are_steady ks) (faults_at ks) 0 ks
backs C ks h = backed_from C (are_steady ks) (faults_at ks) ks [] ks 0 refl refl refl (λ t. t) h
