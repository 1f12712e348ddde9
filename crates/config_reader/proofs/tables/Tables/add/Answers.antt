use Rattle.config_reader.proofs.Kept.{more_keys, more_tables}
use Rattle.config_reader.proofs.tables.Tables.add.Goals as goal

pub invariant_of-self-in_err-push-2 : goal.invariant_of-self-in_err-push-2
invariant_of-self-in_err-push-2 c =
    rw (c.in_ok-push.ensures.items, c.in_err-push-2.ensures.items) (more_keys c.self.inside.list.items c.self.inside.keys.items c.new.result c.self.invariant c.new.ensures)

pub invariant_of-self-2 : goal.invariant_of-self-2
invariant_of-self-2 c =
    rw (c.in_ok-push.ensures.items, c.in_ok-push-2.ensures.items) (more_tables c.self.inside.list.items c.self.inside.keys.items c.args.table c.new.result c.self.invariant c.new.ensures c.requires)
