-- To whose child the link of a cell leads.
use Rattle.std.proofs.Common.{◌≡◌, ◌≢◌, ℕ, ◌<◌, List, Option, Some, sym, ap, ◌∙◌, subst, arith}
use Rattle.okws_outer.specs.Families.{child_named}
use Rattle.okws_outer.specs.Wire.{Wire}
use Rattle.monitor_model.specs.declared.record.CellEvent.{CellEvent}
use Rattle.monitor_model.specs.Cell.{CellLaw, incarnation, last_booted}
use Rattle.service_cell.proofs.Sending.{is_last}
use Rattle.site_cells.specs.Held.{LeadsTo}

some_there : (k n : ℕ) → k ≡ n → 0 < k → n ≢ 0
some_there k n is some none = absurd (omega (arith, is, some, none))

-- the link of a cell whose incarnation k is there leads to the child of k
pub leads_here : (s : ℕ) (J : List CellEvent) (link : Option Wire) (wire : Wire) (k : ℕ) → CellLaw J → link ≡ Some wire → LeadsTo s J link → k ≡ incarnation J → 0 < k → wire.whose ≡ Some (child_named s k)
leads_here s J link wire k law there leads is some =
    subst (LeadsTo s J) there leads ∙ ap (λ (n : ℕ). Some (child_named s n)) (sym (is ∙ is_last J law (some_there k (incarnation J) is some)))
