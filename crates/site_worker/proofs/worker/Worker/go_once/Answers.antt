use Rattle.std.proofs.Common.{◌≡◌, ◌<◌, ap, sym, ◌∙◌}
use Rattle.turn_lock.specs.BoardSeats.{SeatIs as BoardSeat}
use Rattle.site_worker.proofs.Rounds.{awaiting_first, round_all, awaited_else, looked_place, looked_rises, looked_awaited, awaiting_next, shown}
use Rattle.site_worker.proofs.worker.Worker.go_once.Goals as goal

pub loop-init : goal.loop-init
loop-init g c = awaiting_first (g.D.Door.entrance c.args.door.now) c.args.self.now.life c.args.place.now c.requires.idle

pub returns-then-not-is_awaited-clause-round : goal.returns-then-not-is_awaited-clause-round
returns-then-not-is_awaited-clause-round g c = round_all g.D.Conn.Conn.wire g.N.Numbered.site g.N.Numbered.launcher c.args.number (g.D.Door.entrance c.args.door.now) (g.D.Door.entrance c.loop.door) (g.D.Door.entrance c.go_round-serving.new.door) c.args.self.now.life c.loop.self.life c.go_round-serving.new.self.life c.args.place.now c.loop.place c.loop.invariant c.go_round-serving.result c.go_round-serving.ensures.round

pub returns-then-not-is_awaited-clause-place : goal.returns-then-not-is_awaited-clause-place
returns-then-not-is_awaited-clause-place g c = c.loop.invariant.place

pub returns-then-not-is_awaited-clause-rises : goal.returns-then-not-is_awaited-clause-rises
returns-then-not-is_awaited-clause-rises g c = c.loop.invariant.rises

pub returns-then-not-is_awaited-clause-awaited : goal.returns-then-not-is_awaited-clause-awaited
returns-then-not-is_awaited-clause-awaited g c = awaited_else c.go_round-serving.result (0 < shown c.loop.place) (sym c.is_awaited.ensures ∙ c.if-not-is_awaited.true)

pub current-shown-requires-clause-board : goal.current-shown-requires-clause-board
current-shown-requires-clause-board g c = ap (λ (x : BoardSeat). x.board) c.loop.invariant.place ∙ c.requires.board

pub returns-then-shown-gt0-clause-round : goal.returns-then-shown-gt0-clause-round
returns-then-shown-gt0-clause-round g c = round_all g.D.Conn.Conn.wire g.N.Numbered.site g.N.Numbered.launcher c.args.number (g.D.Door.entrance c.args.door.now) (g.D.Door.entrance c.loop.door) (g.D.Door.entrance c.go_round-serving.new.door) c.args.self.now.life c.loop.self.life c.go_round-serving.new.self.life c.args.place.now c.loop.place c.loop.invariant c.go_round-serving.result c.go_round-serving.ensures.round

pub returns-then-shown-gt0-clause-place : goal.returns-then-shown-gt0-clause-place
returns-then-shown-gt0-clause-place g c = looked_place g.D.Conn.Conn.wire g.N.Numbered.site g.N.Numbered.launcher c.args.number (g.D.Door.entrance c.args.door.now) (g.D.Door.entrance c.loop.door) (g.D.Door.entrance c.go_round-serving.new.door) c.args.self.now.life c.loop.self.life c.go_round-serving.new.self.life c.args.place.now c.loop.place c.loop.invariant c.go_round-serving.result c.go_round-serving.ensures.round c.current-shown.result c.current-shown.new.seat c.current-shown.ensures.least c.current-shown.ensures.seen c.current-shown.ensures.shown

pub returns-then-shown-gt0-clause-rises : goal.returns-then-shown-gt0-clause-rises
returns-then-shown-gt0-clause-rises g c = looked_rises g.D.Conn.Conn.wire g.N.Numbered.site g.N.Numbered.launcher c.args.number (g.D.Door.entrance c.args.door.now) (g.D.Door.entrance c.loop.door) (g.D.Door.entrance c.go_round-serving.new.door) c.args.self.now.life c.loop.self.life c.go_round-serving.new.self.life c.args.place.now c.loop.place c.loop.invariant c.go_round-serving.result c.go_round-serving.ensures.round c.current-shown.result c.current-shown.new.seat c.current-shown.ensures.least c.current-shown.ensures.seen c.current-shown.ensures.shown

pub returns-then-shown-gt0-clause-awaited : goal.returns-then-shown-gt0-clause-awaited
returns-then-shown-gt0-clause-awaited g c = looked_awaited g.D.Conn.Conn.wire g.N.Numbered.site g.N.Numbered.launcher c.args.number (g.D.Door.entrance c.args.door.now) (g.D.Door.entrance c.loop.door) (g.D.Door.entrance c.go_round-serving.new.door) c.args.self.now.life c.loop.self.life c.go_round-serving.new.self.life c.args.place.now c.loop.place c.loop.invariant c.go_round-serving.result c.go_round-serving.ensures.round c.current-shown.result c.current-shown.new.seat c.current-shown.ensures.least c.current-shown.ensures.seen c.current-shown.ensures.shown c.if-shown-gt0.true

pub loop-preserved : goal.loop-preserved
loop-preserved g c = awaiting_next g.D.Conn.Conn.wire g.N.Numbered.site g.N.Numbered.launcher c.args.number (g.D.Door.entrance c.args.door.now) (g.D.Door.entrance c.loop.door) (g.D.Door.entrance c.go_round-serving.new.door) c.args.self.now.life c.loop.self.life c.go_round-serving.new.self.life c.args.place.now c.loop.place c.loop.invariant c.go_round-serving.result c.go_round-serving.ensures.round c.current-shown.result c.current-shown.new.seat c.current-shown.ensures.least c.current-shown.ensures.seen c.current-shown.ensures.shown (sym c.is_awaited.ensures ∙ c.if-not-is_awaited.false) c.go_round-serving.ensures.idle
