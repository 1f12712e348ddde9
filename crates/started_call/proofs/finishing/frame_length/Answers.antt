use Rattle.std.proofs.Common.{◌≡◌, ◌+◌, refl, arith, take, length}
use Rattle.std.specs.Prelude.{flat_map}
use Rattle.std.proofs.lemmas.Grind.{common_steps}
use Rattle.frame_codec.specs.Spelling.{values, size, four}
use Rattle.frame_codec.proofs.Sizes.{size_from, length-four}
use Rattle.started_call.proofs.finishing.frame_length.Goals as goal

pub returns : goal.returns
returns g c = λ columns.
    let rows = g.P.Pinned.rows c.args.pin.now in
    let all : take c.loop-row.row rows ≡ rows = grind (arith, common_steps, c.requires.rows, c.loop-row-test.false, c.loop-row.auto) in
    let counted : size (flat_map values (take c.loop-row.row rows)) ≡ size (flat_map values rows) = rw all refl in
    omega (arith, c.loop-row.invariant, counted, length-four (length rows), size_from (2 + length (four (length rows))) (flat_map values rows))
