use Rattle.launch_turns.specs.declared.deed.Deed.{Deed}
use Rattle.launch_turns.proofs.Counted.{looks_counted}
use Rattle.launch_turns.proofs.deed.Deeds.and.Goals as goal

pub invariant_of-result : goal.invariant_of-result
invariant_of-result c =
    let took = c.args.took.now in
    let d : Deed = record { worker = took.worker; entered = took.entered.now; up = took.up; tended = took.tended } in
    looks_counted d c.self.inside.told.past c.and.result.past c.self.inside.tended c.with_look-tended.result c.self.invariant c.with_look-tended.ensures c.and.ensures.0
