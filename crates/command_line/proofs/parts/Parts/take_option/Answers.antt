use Rattle.std.proofs.Common.{◌≡◌, ℕ, List, ◌++◌, ◌∷◌, [], ap, ◌∙◌}
use Rattle.std.specs.Borrow.{Bor}
use Rattle.std.proofs.lemmas.List.{map-append}
use Rattle.command_line.specs.Meant.{parts_meant, options_meant}
use Rattle.command_line.proofs.Joining.{option_joined}
use Rattle.command_line.proofs.parts.Parts.take_option.Goals as goal

pub returns : goal.returns
returns c = λ others.
    let old = c.args.self.now.options.items in
    let cut : options_meant (old ++ (c.args.name, c.args.value) ∷ []) ≡ options_meant old ++ (c.args.name.now, c.args.value.now) ∷ [] =
    map-append {B = List ℕ × List ℕ} (λ (p : Bor (List ℕ) × Bor (List ℕ)). (p.0.now, p.1.now)) old ((c.args.name, c.args.value) ∷ []) in
    rw (ap options_meant c.in_ok-push.ensures.items ∙ cut) (option_joined (parts_meant c.args.self.now) c.args.name.now c.args.value.now others)
