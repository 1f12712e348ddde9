use Rattle.std.proofs.Common.{◌≡◌, ℕ, refl}
use Rattle.http_front.specs.Kept.{method_text}
use Rattle.http_front.specs.declared.reading.Incoming.TheVariants as incoming
use Rattle.http_front.specs.declared.reading.Request.{Request}
use Rattle.door_worker.specs.Asking.{asked_by}
use Rattle.door_worker.specs.Serving.{Handled, Refused, Starved}
use Rattle.door_worker.specs.declared.answer.Answer.TheVariants as answer
use Rattle.door_worker.proofs.Refusals.{refusal_is_own}
use Rattle.door_worker.proofs.Attending.{ready, answered, lost}
use Rattle.door_worker.proofs.serving.attend.Goals as goal

request_is_sound : (r : Request) → incoming.Request r ≡ incoming.ConnFault → ⊥
request_is_sound r e = absurd (cc)

refused_is_sound : (s : ℕ) → incoming.Refused s ≡ incoming.ConnFault → ⊥
refused_is_sound s e = absurd (cc)

want_is_sound : incoming.NoMemory ≡ incoming.ConnFault → ⊥
want_is_sound e = absurd (cc)

pub answer_by-requires-in-Refused : goal.answer_by-requires-in-Refused
answer_by-requires-in-Refused g c = refusal_is_own c.read_request.new.kept.bytes.items (g.C.Conn.wire c.read_request.new.conn).left c.in-Refused.status c.in-Refused.ensures.asked

pub returns-in-Request : goal.returns-in-Request
returns-in-Request g c =
    let h = g.H.Handler in
    let kept = c.read_request.new.kept in
    let course = Handled (asked_by c.in-Request.request) c.handle.result in
    answered h.State h.handles h.starves (g.C.Conn.wire c.args.conn.now) (g.C.Conn.wire c.read_request.new.conn) (g.C.Conn.wire c.answer_by.new.conn) (h.state c.args.handler.now) (h.state c.handle.new.self) kept c.answer_by.new.kept c.handle.new.reply course
    c.answer_to-answer.result c.answer_by.result (ready _ _ _ _ c.in-Request.ensures (request_is_sound c.in-Request.request)) c.in-Request.ensures.asked.0 c.handle.ensures (cc) (c.answer_to-answer.ensures.due c.handle.new.reply (method_text kept.to_head)) c.answer_by.ensures

pub returns-in-Refused : goal.returns-in-Refused
returns-in-Refused g c =
    let h = g.H.Handler in
    answered h.State h.handles h.starves (g.C.Conn.wire c.args.conn.now) (g.C.Conn.wire c.read_request.new.conn) (g.C.Conn.wire c.answer_by-in-Refused.new.conn) (h.state c.args.handler.now) (h.state c.args.handler.now) c.read_request.new.kept c.answer_by-in-Refused.new.kept c.args.reply.now (Refused c.in-Refused.status)
    (answer.Own c.in-Refused.status) c.answer_by-in-Refused.result (ready _ _ _ _ c.in-Refused.ensures (refused_is_sound c.in-Refused.status)) c.in-Refused.ensures.asked refl refl refl c.answer_by-in-Refused.ensures

pub returns-in-NoMemory : goal.returns-in-NoMemory
returns-in-NoMemory g c =
    let h = g.H.Handler in
    answered h.State h.handles h.starves (g.C.Conn.wire c.args.conn.now) (g.C.Conn.wire c.read_request.new.conn) (g.C.Conn.wire c.answer_by-in-NoMemory.new.conn) (h.state c.args.handler.now) (h.state c.starve.new.self) c.read_request.new.kept c.answer_by-in-NoMemory.new.kept c.args.reply.now Starved
    (answer.Own 507) c.answer_by-in-NoMemory.result (ready _ _ _ _ c.in-NoMemory.ensures want_is_sound) tt c.starve.ensures refl refl c.answer_by-in-NoMemory.ensures

pub returns-in-ConnFault : goal.returns-in-ConnFault
returns-in-ConnFault g c = let h = g.H.Handler in lost h.State h.handles h.starves _ _ _ _ _ c.in-ConnFault.ensures
