use Rattle.command_line.proofs.Joining.{none_joined}
use Rattle.command_line.proofs.parts.parts_of.Goals as goal

pub loop-word-init : goal.loop-word-init
loop-word-init c = rw (c.new.ensures.items, c.new-2.ensures.items) (none_joined _)
