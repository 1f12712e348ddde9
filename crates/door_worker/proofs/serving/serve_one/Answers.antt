use Rattle.door_worker.proofs.Attending.{serves}
use Rattle.door_worker.proofs.serving.serve_one.Goals as goal

pub returns-in-Ok-Some-clause-serves : goal.returns-in-Ok-Some-clause-serves
returns-in-Ok-Some-clause-serves g c =
    let h = g.H.Handler in
    let d = g.D.Door in
    let wire = g.D.Conn.Conn.wire in
    serves h.State h.handles h.starves _ wire (d.entrance c.args.door.now) (d.entrance c.accept.new.self) (d.entrance c.finish.new.self) _ (wire c.attend-serving.new.conn) (h.state c.args.handler.now) (h.state c.make_room.new.self) (h.state c.attend-serving.new.handler)
    c.attend-serving.new.kept c.attend-serving.new.reply c.attend-serving.result (rw c.in-Ok-Some.field-0-is at c.in-Ok-Some.ensures.accepted) c.make_room.ensures.state c.attend-serving.ensures c.finish.ensures
