use Rattle.std.proofs.Common.{ℕ, ◌∙◌, ap}
use Rattle.play_script.specs.Refusal.{script_refused}
use Rattle.okws_server.proofs.Ended.{prints_as}
use Rattle.okws_server.proofs.ending.print_script_refusal.Goals as goal

pub returns-clause-ok : goal.returns-clause-ok
returns-clause-ok g c =
    prints_as _ _ _ _ (c.deref.ensures.value ∙ c.in_ok-line.ensures ∙ ap (λ (n : ℕ). script_refused c.args.found.line n) c.number.ensures) c.print.ensures
