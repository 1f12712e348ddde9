use Rattle.std.proofs.Common.{rules, not}
use Rattle.std.proofs.lemmas.Fn.{filter_same}
use Rattle.pubd_core.specs.Readers.{is_reader}
use Rattle.pubd_core.specs.declared.readers.Reader.{Reader}
use Rattle.pubd_core.proofs.readers.drop_reader.Goals as goal

pub returns-clause-others : goal.returns-clause-others
returns-clause-others c = filter_same _ (λ (r : Reader). not (is_reader c.args.service c.args.incarnation r)) _ (λ x b f' k. search rules) _ _ c.retain.ensures.filtered
