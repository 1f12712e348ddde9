use Rattle.std.proofs.Common.{◌≡◌, refl, arith, drop}
use Rattle.std.proofs.lemmas.Grind.{common_steps}
use Rattle.http_front.proofs.Steps.{version_more, version_lf}
use Rattle.http_front.proofs.places.after_version.Goals as goal

pub returns-then-byte-ne10 : goal.returns-then-byte-ne10
returns-then-byte-ne10 c = version_more c.args.start c.args.byte c.args.before.now

pub returns-in-Some : goal.returns-in-Some
returns-in-Some c =
    let cut : c.in-Some.version.now ≡ drop c.args.start c.args.before.now = grind (arith, common_steps, c.in-Some.ensures.lookup) in
    version_lf c.args.start c.args.byte c.args.before.now c.in-Some.version.now c.if-byte-ne10.false cut (c.if-is_version.ensures refl)
