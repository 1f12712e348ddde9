use Rattle.std.proofs.Common.{rules}
use Rattle.std.proofs.lemmas.Fn.{filter_same}
use Rattle.pubd_core.specs.Readers.{is_kept}
use Rattle.pubd_core.specs.declared.readers.Reader.{Reader}
use Rattle.pubd_core.proofs.readers.keep_readers.Goals as goal

pub returns : goal.returns
returns c = filter_same _ (λ (r : Reader). is_kept c.args.service c.args.last c.args.standing r) _ (λ x b f' k. search rules) _ _ c.retain.ensures.filtered
