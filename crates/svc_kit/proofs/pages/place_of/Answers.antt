use Rattle.std.proofs.Common.{List, ℕ, ap, ◌∙◌, sym}
use Rattle.okws_base.specs.Value.{same_bytes}
use Rattle.svc_kit.proofs.Keeping.{none_more}
use Rattle.svc_kit.proofs.pages.place_of.Goals as goal

pub loop-i-preserved : goal.loop-i-preserved
loop-i-preserved c =
    none_more c.args.pages.now c.args.name.now c.loop-i.i c.index-pages-i.result c.loop-i-test.true c.index-pages-i.is c.loop-i.invariant
    (ap (λ (n : List ℕ). same_bytes n c.args.name.now) (sym c.as_slice.ensures) ∙ sym c.if-eq.ensures)
