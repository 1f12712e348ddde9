use Rattle.std.proofs.Common.{◌∙◌}
use Rattle.plain_text.proofs.Utf8.{text_read}
use Rattle.plain_text.proofs.parts.is_text.Goals as goal

pub returns : goal.returns
returns c = c.is_ok.ensures.value ∙ text_read _ c.args.bytes.now c.from_utf8.result c.from_utf8.ensures.cases
