use Rattle.std.proofs.Common.{List, map, subst, add-one, drop-cons}
use Rattle.httparse.specs.Spans.{header_bytes}
use Rattle.httparse.specs.declared.spans.HeaderSpan.{HeaderSpan}
use Rattle.http_front.specs.Fields.{AreFoundUpTo}
use Rattle.http_front.proofs.fields.found_in.Goals as goal

pub loop-header-preserved : goal.loop-header-preserved
loop-header-preserved c =
    rw add-one
    (c.found_with-found.ensures _ _
    (subst (λ (t : List HeaderSpan). AreFoundUpTo (map (header_bytes c.args.bytes.now) c.args.headers.now) (map (header_bytes c.args.bytes.now) t) c.loop-header.found)
    (drop-cons c.args.headers.now c.loop-header.header-index _ c.loop-header-test.true) c.loop-header.invariant))
