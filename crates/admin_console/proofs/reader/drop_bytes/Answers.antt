use Rattle.std.proofs.Common.{◌≡◌, ◌++◌, length, take, arith, length-append}
use Rattle.std.proofs.lemmas.List.{length-take-le}
use Rattle.admin_console.proofs.Taking.{took_more}
use Rattle.admin_console.proofs.reader.drop_bytes.Goals as goal

pub loop-left-preserved : goal.loop-left-preserved
loop-left-preserved g c =
    let so_far = c.loop-left.invariant in
    let came = c.in-Took.ensures in
    let more = take c.in-Took.count c.pull.new.into in
    let size : length more ≡ c.in-Took.count = length-take-le c.in-Took.count c.pull.new.into came.pulls.1 in
    let within = came.pulls.1 in
    let cut : length (take c.min.result c.loop-left.piece) ≡ c.min.result = length-take-le c.min.result c.loop-left.piece (omega arith) in
    (so_far.0 ++ more, took_more _ _ _ so_far.0 c.pull.new.into c.in-Took.count so_far.1 came, omega (arith, so_far.2, size, length-append so_far.0 more, within, cut, c.pull.auto.into))
