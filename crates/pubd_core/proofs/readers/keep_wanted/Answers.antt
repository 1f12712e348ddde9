use Rattle.std.proofs.Common.{rules}
use Rattle.std.proofs.lemmas.Fn.{filter_same}
use Rattle.pubd_core.specs.Readers.{is_wanted}
use Rattle.pubd_core.specs.declared.kept.Publication.{Publication}
use Rattle.pubd_core.proofs.readers.keep_wanted.Goals as goal

pub returns : goal.returns
returns c = filter_same _ (λ (p : Publication). is_wanted c.args.config.now c.args.readers.now p) _ (λ x b f' k. search rules) _ _ c.retain.ensures.filtered
