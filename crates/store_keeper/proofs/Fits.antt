-- Values that fit columns.
use Rattle.std.proofs.Common.{◌≡◌, ◌≢◌, List, [], ◌∷◌, length, false, arith, Bool, ◌&&◌, refl, ap, suc}
use Rattle.okws_base.specs.declared.value.Value.{Value}
use Rattle.okws_base.specs.Value.{same_kind, kind_of}
use Rattle.okws_plan.specs.Fits.{fits}
use Rattle.okws_plan.specs.Sound.{column_kinds}
use Rattle.okws_plan.specs.declared.configuration.Column.{Column}

and_false : (b : Bool) → (b && false) ≡ false
and_false b = grind arith

-- columns and values that differ in number do not fit
pub fits_lengths : (columns : List Column) (vs : List Value) → length columns ≢ length vs → fits (column_kinds columns) vs ≡ false
fits_lengths [] [] h = absurd (h refl)
fits_lengths [] (v ∷ vs) h = refl
fits_lengths (c ∷ columns) [] h = refl
fits_lengths (c ∷ columns) (v ∷ vs) h = rw (fits_lengths columns vs (λ e. h (ap suc e))) (and_false (same_kind c.kind (kind_of v)))
