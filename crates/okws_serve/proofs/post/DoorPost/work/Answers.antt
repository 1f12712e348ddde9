use Rattle.std.proofs.Common.{◌∙◌, not, ap}
use Rattle.okws_serve.proofs.Attending.{may_draw}
use Rattle.okws_serve.proofs.post.DoorPost.work.Goals as goal

pub attend-attended-requires-clause-may : goal.attend-attended-requires-clause-may
attend-attended-requires-clause-may g c =
    may_draw c.self.inside.attended c.self.inside.desk.place.drawn (c.is_none.ensures ∙ ap not c.if-is_none.true) c.self.invariant.fresh
