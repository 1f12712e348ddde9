use Rattle.std.proofs.Common.{◌≡◌, ◌∙◌, ℕ, List, ap, rules}
use Rattle.std.specs.Prelude.{filter, is_some}
use Rattle.std.proofs.lemmas.Fn.{filter_same}
use Rattle.okws_base.specs.declared.value.Value.{Value}
use Rattle.row_index.specs.Stands.{Placed, standing}
use Rattle.row_index.specs.declared.placed.Stand.{Stand}
use Rattle.row_index.proofs.Stands.{full_stand, rises_filtered}
use Rattle.row_index.proofs.placed.PlacedRows.tidy.Goals as goal

pub invariant_of-self : goal.invariant_of-self
invariant_of-self c =
    let kept : c.retain.new.self.items ≡ filter (λ (s : Stand). is_some s.row) c.self.inside.stands.items = filter_same _ (λ (s : Stand). is_some s.row) _ (λ x b f' k. search rules) _ _ c.retain.ensures.filtered in
    rw kept (rises_filtered (λ (s : Stand). is_some s.row) c.self.inside.stands.items c.self.inside.next c.self.invariant)

pub returns-then-self-len : goal.returns-then-self-len
returns-then-self-len c =
    let kept : c.retain.new.self.items ≡ filter (λ (s : Stand). is_some s.row) c.self.inside.stands.items = filter_same _ (λ (s : Stand). is_some s.row) _ (λ x b f' k. search rules) _ _ c.retain.ensures.filtered in
    ap {B = Placed} (λ (es : List (ℕ × List Value)). record { entries = es; next = c.self.inside.next }) (ap standing kept ∙ full_stand c.self.inside.stands.items) ∙ c.self.view_is
