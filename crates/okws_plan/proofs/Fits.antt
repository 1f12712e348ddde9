use Rattle.std.proofs.Common.{◌≡◌, ◌≢◌, List, [], ◌∷◌, length, false, arith, Bool, ◌&&◌, refl, ap, suc}
use Rattle.okws_base.specs.declared.value.Kind.{Kind}
use Rattle.okws_base.specs.declared.value.Value.{Value}
use Rattle.okws_base.specs.Value.{same_kind, kind_of}
use Rattle.okws_plan.specs.Fits.{fits}

and-false : (b : Bool) → (b && false) ≡ false
and-false b = grind arith

-- Kinds and values that differ in number do not fit.
pub fits_lengths : (ks : List Kind) (vs : List Value) → length ks ≢ length vs → fits ks vs ≡ false
fits_lengths [] [] h = absurd (h refl)
fits_lengths [] (v ∷ vs) h = refl
fits_lengths (k ∷ ks) [] h = refl
fits_lengths (k ∷ ks) (v ∷ vs) h = rw (fits_lengths ks vs (λ e. h (ap suc e))) (and-false (same_kind k (kind_of v)))
