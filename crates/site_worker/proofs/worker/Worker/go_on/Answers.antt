use Rattle.std.proofs.Common.{rules, ℕ, ◌+◌, ◌<◌, ap, sym, ◌∙◌, subst, arith}
use Rattle.turn_lock.specs.BoardSeats.{SeatIs as BoardSeat}
use Rattle.site_worker.proofs.Rounds.{Attending, attending_first, drawn_most, place_later, place_now, attending_limit, attending_starved, attending_next, same_then, taken_one}
use Rattle.site_worker.proofs.worker.Worker.go_on.Goals as goal

pub loop-init : goal.loop-init
loop-init g c =
    attending_first g.D.Conn.Conn.wire g.N.Numbered.site g.N.Numbered.launcher c.args.limit (g.D.Door.entrance c.args.door.now) c.args.self.now.life c.args.place.now c.requires.idle c.requires.may

pub draw-number-requires-clause-board : goal.draw-number-requires-clause-board
draw-number-requires-clause-board g c = ap (λ (x : BoardSeat). x.board) c.loop.invariant.place_is ∙ c.requires.board

pub draw-number-requires-clause-limit : goal.draw-number-requires-clause-limit
draw-number-requires-clause-limit g c = c.loop.invariant.may

pub returns-then-number-limit-clause-idle : goal.returns-then-number-limit-clause-idle
returns-then-number-limit-clause-idle g c = c.loop.invariant.idle

pub returns-then-number-limit-clause-same : goal.returns-then-number-limit-clause-same
returns-then-number-limit-clause-same g c = c.loop.invariant.same

pub returns-then-number-limit-clause-place : goal.returns-then-number-limit-clause-place
returns-then-number-limit-clause-place g c =
    place_now g.D.Conn.Conn.wire g.N.Numbered.site g.N.Numbered.launcher c.args.limit (g.D.Door.entrance c.args.door.now) c.args.self.now.life c.args.place.now (g.D.Door.entrance c.loop.door) c.loop.self.life c.loop.place c.draw-number.new.seat c.loop.connections c.draw-number.result c.loop.invariant c.draw-number.ensures.above c.draw-number.ensures.drawn

pub returns-then-number-limit-clause-attends : goal.returns-then-number-limit-clause-attends
returns-then-number-limit-clause-attends g c =
    attending_limit g.D.Conn.Conn.wire g.N.Numbered.site g.N.Numbered.launcher c.args.limit (g.D.Door.entrance c.args.door.now) c.args.self.now.life c.args.place.now (g.D.Door.entrance c.loop.door) c.loop.self.life c.loop.place c.draw-number.new.seat c.loop.connections c.draw-number.result c.loop.invariant c.draw-number.ensures.above c.draw-number.ensures.drawn c.if-number-limit.true

pub returns-then-is_starved-clause-place : goal.returns-then-is_starved-clause-place
returns-then-is_starved-clause-place g c =
    place_later g.D.Conn.Conn.wire g.N.Numbered.site g.N.Numbered.launcher c.args.limit (g.D.Door.entrance c.args.door.now) c.args.self.now.life c.args.place.now (g.D.Door.entrance c.loop.door) c.loop.self.life c.loop.place c.draw-number.new.seat c.loop.connections c.draw-number.result c.loop.invariant c.draw-number.ensures.above c.draw-number.ensures.drawn (g.D.Door.entrance c.go_once-serving.new.door) c.go_once-serving.new.self.life c.go_once-serving.result c.go_once-serving.ensures.round (let l = c.if-number-limit.false in omega arith) c.go_once-serving.new.place c.go_once-serving.ensures.place c.go_once-serving.ensures.rises

pub returns-then-is_starved-clause-attends : goal.returns-then-is_starved-clause-attends
returns-then-is_starved-clause-attends g c =
    attending_starved g.D.Conn.Conn.wire g.N.Numbered.site g.N.Numbered.launcher c.args.limit (g.D.Door.entrance c.args.door.now) c.args.self.now.life c.args.place.now (g.D.Door.entrance c.loop.door) c.loop.self.life c.loop.place c.draw-number.new.seat c.loop.connections c.draw-number.result c.loop.invariant c.draw-number.ensures.above c.draw-number.ensures.drawn (g.D.Door.entrance c.go_once-serving.new.door) c.go_once-serving.new.self.life c.go_once-serving.result c.go_once-serving.ensures.round (let l = c.if-number-limit.false in omega arith) c.go_once-serving.new.place c.go_once-serving.ensures.place c.go_once-serving.ensures.rises (sym c.is_starved.ensures ∙ c.if-is_starved.true)

pub returns-then-is_starved-clause-same : goal.returns-then-is_starved-clause-same
returns-then-is_starved-clause-same g c =
    same_then g.D.Conn.Conn.wire g.N.Numbered.site g.N.Numbered.launcher c.args.limit (g.D.Door.entrance c.args.door.now) c.args.self.now.life c.args.place.now (g.D.Door.entrance c.loop.door) c.loop.self.life c.loop.place c.draw-number.new.seat c.loop.connections c.draw-number.result c.loop.invariant c.draw-number.ensures.above c.draw-number.ensures.drawn (g.D.Door.entrance c.go_once-serving.new.door) c.go_once-serving.new.self.life c.go_once-serving.result c.go_once-serving.ensures.round (let l = c.if-number-limit.false in omega arith) c.go_once-serving.new.place c.go_once-serving.ensures.place c.go_once-serving.ensures.rises

pub overflow_add-connections : goal.overflow_add-connections
overflow_add-connections g c =
    let most = drawn_most g.D.Conn.Conn.wire g.N.Numbered.site g.N.Numbered.launcher c.args.limit (g.D.Door.entrance c.args.door.now) c.args.self.now.life c.args.place.now (g.D.Door.entrance c.loop.door) c.loop.self.life c.loop.place c.draw-number.new.seat c.loop.connections c.draw-number.result c.loop.invariant c.draw-number.ensures.above c.draw-number.ensures.drawn in
    let one = taken_one c.go_once-serving.result in
    let is = c.taken-connections.ensures in
    let limit = c.requires.limit in
    let below : c.draw-number.result < c.args.limit = (let l = c.if-number-limit.false in omega arith) in
    let all : c.loop.connections + c.taken-connections.result < 18446744073709551616 = omega arith in
    search rules

pub loop-preserved : goal.loop-preserved
loop-preserved g c =
    subst (λ (x : ℕ). Attending g.D.Conn.Conn.wire g.N.Numbered.site g.N.Numbered.launcher c.args.limit (g.D.Door.entrance c.args.door.now) (g.D.Door.entrance c.go_once-serving.new.door) c.args.self.now.life c.go_once-serving.new.self.life c.args.place.now c.go_once-serving.new.place (c.loop.connections + x)) (sym c.taken-connections.ensures)
    (attending_next g.D.Conn.Conn.wire g.N.Numbered.site g.N.Numbered.launcher c.args.limit (g.D.Door.entrance c.args.door.now) c.args.self.now.life c.args.place.now (g.D.Door.entrance c.loop.door) c.loop.self.life c.loop.place c.draw-number.new.seat c.loop.connections c.draw-number.result c.loop.invariant c.draw-number.ensures.above c.draw-number.ensures.drawn (g.D.Door.entrance c.go_once-serving.new.door) c.go_once-serving.new.self.life c.go_once-serving.result c.go_once-serving.ensures.round (let l = c.if-number-limit.false in omega arith) c.go_once-serving.new.place c.go_once-serving.ensures.place c.go_once-serving.ensures.rises (sym c.is_starved.ensures ∙ c.if-is_starved.false) c.requires.limit c.go_once-serving.ensures.idle c.go_once-serving.ensures.awaited)

pub go_once-serving-requires-clause-board : goal.go_once-serving-requires-clause-board
go_once-serving-requires-clause-board g c = ap (λ (x : BoardSeat). x.board) c.draw-number.ensures.drawn ∙ (ap (λ (x : BoardSeat). x.board) c.loop.invariant.place_is ∙ c.requires.board)
