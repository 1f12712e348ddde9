use Rattle.std.proofs.Common.{ap, sym, ◌∙◌}
use Rattle.command_line.specs.Numbers.{is_plain}
use Rattle.command_line.proofs.Written.{read_is, unread}
use Rattle.command_line.proofs.numbers.number_of.Goals as goal

pub returns-in-Ok-clause-some : goal.returns-in-Ok-clause-some
returns-in-Ok-clause-some c =
    let plain = ap is_plain (sym c.as_bytes.ensures.value) ∙ sym c.is_plain.ensures ∙ c.if-not-is_plain.false in
    (plain, read_is c.args.word.now c.in-Ok.number c.parse.result plain c.in-Ok.is c.parse.ensures.value.0)

pub returns-in-Err-clause-none : goal.returns-in-Err-clause-none
returns-in-Err-clause-none c = λ e plain fits. unread c.args.word.now _ c.parse.result plain c.in-Err.is c.parse.ensures.value.0 fits
