use Rattle.std.proofs.Common.{ℕ, ◌∙◌, ap}
use Rattle.play_script.specs.Refusal.{config_refused}
use Rattle.okws_server.proofs.Ended.{told_as}
use Rattle.okws_server.proofs.ending.print_config_refusal.Goals as goal

pub returns-in-Ok : goal.returns-in-Ok
returns-in-Ok g c =
    told_as _ _ _ _ _ (c.deref.ensures.value ∙ c.in-Ok.ensures ∙ ap (λ (n : ℕ). config_refused c.args.refusal.line n) c.number.ensures) c.print_last.ensures
