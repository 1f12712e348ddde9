use Rattle.std.proofs.Common.{◌≡◌, ◌-◌, length, take, drop, arith}
use Rattle.std.proofs.Math.Seq.{take-add}
use Rattle.std.proofs.KnownBytes.{Appends-trans}
use Rattle.std.proofs.lemmas.Grind.{common_steps}
use Rattle.std.proofs.lemmas.List.{take_all}
use Rattle.real_network.proofs.trying.write_all.Goals as goal

pub loop-done-preserved : goal.loop-done-preserved
loop-done-preserved g c =
    let bytes = c.args.bytes.now in
    let done = c.loop-done.done in
    let taken = c.in-Ok.taken in
    let rest : take (length bytes - done) (drop done bytes) ≡ drop done bytes = take_all (length bytes - done) (drop done bytes) (grind (arith, common_steps)) in
    record {
      within = let bound = c.in-Ok.ensures.bound in grind (arith, common_steps, bound);
      bytes = rw (take-add done taken bytes) (Appends-trans _ _ _ (take done bytes) (take taken (drop done bytes)) c.loop-done.invariant.bytes (rw rest at c.in-Ok.ensures.bytes));
    }
