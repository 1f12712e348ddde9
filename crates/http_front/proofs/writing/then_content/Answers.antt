use Rattle.std.proofs.Common.{◌≡◌, [], ◌++◌, Bool, false, subst, sym, ◌∙◌}
use Rattle.std.specs.Prelude.{if◌then◌else◌}
use Rattle.http_text.specs.Response.{is_head}
use Rattle.http_front.specs.Writing.{Writes}
use Rattle.http_front.proofs.writing.then_content.Goals as goal

pub returns : goal.returns
returns g c = λ start before text w.
    let not_head : is_head c.args.method.now ≡ false = sym c.is_head.ensures ∙ c.if-is_head.false in
    subst (λ (b : Bool). Writes start before (text ++ (if b then [] else c.args.content.now)) (g.C.Conn.wire c.then.new.conn) c.then.new.kept c.then.result) (sym not_head) (c.then.ensures start before text w)
