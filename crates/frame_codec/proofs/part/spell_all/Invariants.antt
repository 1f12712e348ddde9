use Rattle.std.proofs.Common.{take, flat_map}
use Rattle.okws_base.specs.Runs.{Each}
use Rattle.frame_codec.specs.Taking.{Takes}
use Rattle.frame_codec.proofs.part.spell_all.Given as goal

abbrev pub invariant-loop-item : goal.invariant-loop-item
invariant-loop-item g l = record {
  spelled : Takes g.T.Taker.took l.initial.to (flat_map g.P.Parts.parts (take l.item-index l.items)) l.to;
  fit : Each g.P.Parts.fits (take l.item-index l.items);
}
