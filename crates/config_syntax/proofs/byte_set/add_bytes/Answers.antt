use Rattle.config_syntax.proofs.ByteSets.{put_bytes}
use Rattle.config_syntax.proofs.byte_set.add_bytes.Goals as goal

pub returns-clause-ok : goal.returns-clause-ok
returns-clause-ok c = rw (← c.in_ok-key.ensures.items) (put_bytes c.in_ok-key.key.items c.args.set.now c.insert.new.self c.in_ok-insert.ensures.updates)
