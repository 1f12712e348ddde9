use Rattle.std.proofs.Common.{◌≡◌, List, ℕ, cond, Some, None, ap, subst, ◌∙◌, refl}
use Rattle.okws_base.specs.Value.{same_bytes}
use Rattle.svc_kit.specs.Pages.{page_in, IsPlace}
use Rattle.svc_kit.specs.declared.pages.Page.{Page}
use Rattle.svc_kit.proofs.Keeping.{put_in_place, put_last}
use Rattle.svc_kit.proofs.pages.keep.Goals as goal

pub returns-in-Some-clause-kept : goal.returns-in-Some-clause-kept
returns-in-Some-clause-kept c =
    let pages = c.args.pages.now.items in
    let content = c.of-content.ensures ∙ c.in_ok-from_slice.ensures.items in
    let place = subst (λ (p : List Page). IsPlace p c.args.name.now c.in-Some.i) c.deref.ensures.value c.in-Some.ensures in
    λ name.
    put_in_place pages c.args.name.now name c.in-Some.i c.index_mut-page.result.now _ place.0 place.1 c.index_mut-page.ensures.value (place.2 c.index_mut-page.result.now) refl
    ∙ ap (λ (t : List ℕ). cond (same_bytes c.args.name.now name) (Some (c.args.edition, t)) (page_in pages name)) content

pub returns-in_ok-push-in-None-clause-kept : goal.returns-in_ok-push-in-None-clause-kept
returns-in_ok-push-in-None-clause-kept c =
    let pages = c.args.pages.now.items in
    let content = c.of-content.ensures ∙ c.in_ok-from_slice.ensures.items in
    let none : page_in pages c.args.name.now ≡ None = subst (λ (p : List Page). page_in p c.args.name.now ≡ None) c.deref.ensures.value c.in-None.ensures in
    λ name.
    ap (λ (p : List Page). page_in p name) c.in_ok-push-in-None.ensures.items ∙ put_last pages c.args.name.now name _ none (c.of-name.ensures ∙ c.in_ok-from_slice-in-None.ensures.items)
    ∙ ap (λ (t : List ℕ). cond (same_bytes c.args.name.now name) (Some (c.args.edition, t)) (page_in pages name)) content
