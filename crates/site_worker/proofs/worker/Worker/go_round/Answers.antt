use Rattle.std.proofs.Common.{◌≡◌, ◌∙◌, refl, sym, ap, subst, arith}
use Rattle.door_worker.specs.Serving.{Serves}
use Rattle.site_worker.specs.Handling.{Handles}
use Rattle.site_worker.specs.Lives.{Life, Working, Starves}
use Rattle.site_worker.proofs.Rounds.{connections_of}
use Rattle.site_worker.proofs.Spending.{ok_of, err_of, serves_life, serves_leaves}
use Rattle.site_worker.proofs.worker.Worker.go_round.Goals as goal

pub returns-then-is_err-clause-round : goal.returns-then-is_err-clause-round
returns-then-is_err-clause-round g c = record {
  kept = c.args.kept.now;
  reply = c.args.reply.now;
  mid = c.args.self.now.life;
  serves = (refl, refl);
  tends = ap (λ (w : Working). w.life) (err_of c.make_spare.result _ (sym c.is_err.ensures.value ∙ c.if-is_err.true) c.make_spare.ensures.err);
  connections = omega arith;
}

pub follow-requires : goal.follow-requires
follow-requires g c =
    let made = ok_of c.make_spare.result _ (sym c.is_err.ensures.value ∙ c.if-is_err.false) c.make_spare.ensures.ok in
    serves_leaves g.N.Numbered.site g.N.Numbered.launcher c.make_spare.new.self c.serve_one-serving.new.handler g.D.Conn.Conn.wire (g.D.Door.entrance c.args.door.now) (g.D.Door.entrance c.serve_one-serving.new.door)
    c.serve_one-serving.new.kept c.serve_one-serving.new.reply c.serve_one-serving.result (ap (λ (w : Working). w.spare) made) c.serve_one-serving.ensures.serves

pub returns-clause-round : goal.returns-clause-round
returns-clause-round g c =
    let C = g.N.Numbered.site in
    let n = g.N.Numbered.launcher in
    let wire = g.D.Conn.Conn.wire in
    let e = g.D.Door.entrance c.args.door.now in
    let f = g.D.Door.entrance c.serve_one-serving.new.door in
    let J = c.make_spare.new.self in
    let M = c.serve_one-serving.new.handler in
    let kept = c.serve_one-serving.new.kept in
    let reply = c.serve_one-serving.new.reply in
    let what = c.serve_one-serving.result in
    let made = ok_of c.make_spare.result _ (sym c.is_err.ensures.value ∙ c.if-is_err.false) c.make_spare.ensures.ok in
    let same : J.life ≡ c.args.self.now.life = ap (λ (w : Working). w.life) made in
    let serves = subst (λ (x : Life). Serves wire (Handles C n) Starves e f x M.life kept reply what) same (serves_life C n J M wire e f kept reply what c.serve_one-serving.ensures.serves) in
    record {
      kept = kept;
      reply = reply;
      mid = M.life;
      serves = serves;
      tends = c.follow.ensures;
      connections = connections_of wire (Handles C n) Starves e f c.args.self.now.life M.life kept reply what serves;
    }
