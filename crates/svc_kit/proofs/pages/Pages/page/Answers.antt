use Rattle.std.proofs.Common.{List, ℕ, Some, ap, subst, ◌∙◌}
use Rattle.svc_kit.specs.Pages.{IsPlace}
use Rattle.svc_kit.specs.declared.pages.Page.{Page}
use Rattle.svc_kit.proofs.Keeping.{found}
use Rattle.svc_kit.proofs.pages.Pages.page.Goals as goal

pub returns : goal.returns
returns c =
    let pages = c.args.self.now.pages.items in
    let place = subst (λ (p : List Page). IsPlace p c.args.name.now c.in_ok-place.place) c.deref.ensures.value c.in_ok-place.ensures in
    ap (λ (t : List ℕ). Some (c.index-page.result.now.edition, t)) c.as_slice.ensures
    ∙ found pages c.args.name.now c.in_ok-place.place c.index-page.result.now place.0 place.1 c.index-page.ensures (place.2 c.index-page.result.now)
