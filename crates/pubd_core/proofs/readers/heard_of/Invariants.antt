use Rattle.std.proofs.Common.{◌≡◌, drop}
use Rattle.pubd_core.specs.Readers.{heard_in}
use Rattle.pubd_core.proofs.readers.heard_of.Given as goal

abbrev pub invariant-loop-reader : goal.invariant-loop-reader
invariant-loop-reader l = heard_in (drop l.reader-index l.readers) l.service l.incarnation ≡ heard_in l.readers l.service l.incarnation
