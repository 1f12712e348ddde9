use Rattle.std.proofs.Common.{sym, ◌∙◌}
use Rattle.std.specs.Cmp.Lexicographic.{bytes_decides}
use Rattle.http_front.proofs.Naming.{same_is_word}
use Rattle.http_front.proofs.fields.is_named.Goals as goal

pub returns-then-eq : goal.returns-then-eq
returns-then-eq c = c.if-eq.true ∙ sym (same_is_word c.args.field.now c.args.name.now ((bytes_decides c.args.field.now c.args.name.now).0 (sym c.if-eq.ensures)))
