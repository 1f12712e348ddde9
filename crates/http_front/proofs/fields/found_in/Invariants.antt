use Rattle.std.proofs.Common.{map, drop}
use Rattle.httparse.specs.Spans.{header_bytes}
use Rattle.http_front.specs.Fields.{AreFoundUpTo}
use Rattle.http_front.proofs.fields.found_in.Given as goal

-- what is found is that of the fields that were passed
abbrev pub invariant-loop-header : goal.invariant-loop-header
invariant-loop-header l = AreFoundUpTo (map (header_bytes l.bytes) l.headers) (map (header_bytes l.bytes) (drop l.header-index l.headers)) l.found
