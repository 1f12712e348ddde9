use Rattle.std.proofs.Common.{◌≡◌, take, None}
use Rattle.svc_kit.specs.Pages.{page_in}
use Rattle.svc_kit.proofs.pages.place_of.Given as goal

abbrev pub invariant-loop-i : goal.invariant-loop-i
invariant-loop-i l = page_in (take l.i l.pages) l.name ≡ None
