use Rattle.std.proofs.Common.{refl, ◌∙◌}
use Rattle.std.proofs.Math.Seq.{map-set_same}
use Rattle.real_network.specs.Entrances.{entrance_of}
use Rattle.real_network.proofs.network.shut.Goals as goal

pub loop-door-preserved : goal.loop-door-preserved
loop-door-preserved c = map-set_same entrance_of c.loop-door.doors c.loop-door.door-index _ _ refl ∙ c.loop-door.invariant
