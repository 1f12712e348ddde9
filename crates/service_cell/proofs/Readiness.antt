-- When a link is ready.
use Rattle.std.proofs.Common.{◌≡◌, ℕ, Bool, true, false, List, Option, Some, refl, sym, ap, subst, ◌∙◌, inl, inr, ◌⊎◌}
use Rattle.std.specs.Prelude.{IsTrue, IsFalse, IfSome, ◌↔◌, not, option_map}
use Rattle.frame_codec.specs.Stream.{Begins, IsBad, IsShort}
use Rattle.frame_codec.specs.declared.frame.ServiceFrame.{ServiceFrame}
use Rattle.frame_codec.proofs.Apart.{short_begins_none}
use Rattle.okws_outer.specs.Wire.{Wire}
use Rattle.service_cell.specs.Standing.{left_of, IsReadyLink}

abbrev Settled : List ℕ → Type 0
Settled left = ((frame : ServiceFrame) × (rest : List ℕ) × Begins left frame rest) ⊎ IsBad left

ready_wire : (wire : Wire) (left : List ℕ) (short : Bool) → (IsFalse short → Settled left) → wire.ended ≡ false → (IsTrue short → IsShort left) × (IsShort left → IsTrue short) → IsTrue (not short) ↔ IsReadyLink (Some wire) left
ready_wire wire left true whole running tells = (λ test. absurd cc, λ ready. absurd (by_ready ready))
  where
    by_ready : ((said : ServiceFrame) × (rest : List ℕ) × Begins left said rest) ⊎ (IsBad left ⊎ (wire.ended ≡ true)) → ⊥
    by_ready (inl whole) = short_begins_none left (tells.0 refl) whole.0 whole.1 whole.2
    by_ready (inr (inl bad)) = bad.1 (tells.0 refl)
    by_ready (inr (inr ended)) = cc
ready_wire wire left false whole running tells = (λ test. by_settled (whole refl), λ ready. refl)
  where
    by_settled : Settled left → IsReadyLink (Some wire) left
    by_settled (inl whole) = inl whole
    by_settled (inr bad) = inr (inl bad)

ready_told : (link : Option Wire) (wire : Wire) (left : List ℕ) (short : Bool) → link ≡ Some wire → wire.left ≡ Some left → wire.ended ≡ false → (IsFalse short → Settled left) → (IsTrue short → IsShort left) × (IsShort left → IsTrue short)
    → IfSome (left_of link) (λ bytes. IsTrue (not short) ↔ IsReadyLink link bytes)
ready_told link wire left short is told running whole tells =
    subst (λ (l : Option Wire). IfSome (left_of l) (λ bytes. IsTrue (not short) ↔ IsReadyLink l bytes)) (sym is)
    (subst (λ (o : Option (List ℕ)). IfSome o (λ bytes. IsTrue (not short) ↔ IsReadyLink (Some wire) bytes)) (sym told) (ready_wire wire left short whole running tells))

pub ready_by : {L : Type 0} (wire : L → Wire) (inside : Option L) (l : L) (link : Option Wire) (left : List ℕ) (short : Bool) → option_map wire inside ≡ link → inside ≡ Some l → (wire l).left ≡ Some left → (wire l).ended ≡ false → (IsFalse short → Settled left)
    → (IsTrue short → IsShort left) × (IsShort left → IsTrue short) → IfSome (left_of link) (λ bytes. IsTrue (not short) ↔ IsReadyLink link bytes)
ready_by wire inside l link left short view is told running whole tells = ready_told link (wire l) left short (sym view ∙ ap (option_map wire) is) told running whole tells
