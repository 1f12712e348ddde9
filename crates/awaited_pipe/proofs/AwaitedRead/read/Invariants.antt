use Rattle.std.specs.Io.KnownBytes.{Keeps}
use Rattle.awaited_pipe.proofs.AwaitedRead.read.Given as goal

abbrev pub invariant-loop : goal.invariant-loop
invariant-loop g l = Keeps (g.R.Read.remaining l.fn.self.end) (g.R.Read.remaining l.end)
