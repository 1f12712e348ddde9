use Rattle.std.proofs.Common.{◌≡◌, sym, refl, arith, drop}
use Rattle.std.proofs.lemmas.Grind.{common_steps}
use Rattle.http_front.proofs.Steps.{target_uri, target_space}
use Rattle.http_front.proofs.places.after_target.Goals as goal

pub returns-then-is_uri_token : goal.returns-then-is_uri_token
returns-then-is_uri_token c = target_uri c.args.start c.args.byte (sym c.if-is_uri_token.ensures) c.args.before.now

pub returns-in-Some : goal.returns-in-Some
returns-in-Some c =
    let cut : c.in-Some.target.now ≡ drop c.args.start c.args.before.now = grind (arith, common_steps, c.in-Some.ensures.lookup) in
    target_space c.args.start c.args.byte c.args.before.now c.in-Some.target.now c.if-byte-eq32.true cut (c.if-is_whole_target.ensures.some refl) (c.if-is_whole_target.ensures.text refl)
