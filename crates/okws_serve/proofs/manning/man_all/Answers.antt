use Rattle.std.proofs.Common.{rules, arith, ◌≡◌, ℕ, List, [], ◌∷◌, ◌++◌, length, ap}
use Rattle.std.specs.Prelude.{slice_index}
use Rattle.site_worker.specs.declared.door.TheConstants.{STOPPED}
use Rattle.site_run.proofs.Tying.{all_seats, more_then}
use Rattle.okws_serve.specs.Manned.{doors_of, lives_of}
use Rattle.okws_serve.proofs.Finishing.{posted}
use Rattle.okws_serve.proofs.Running.{none_of, same_room}
use Rattle.okws_serve.proofs.manning.man_all.Goals as goal

pub man_doors-requires-clause-none : goal.man_doors-requires-clause-none
man_doors-requires-clause-none g c = none_of c.args.posts.now.items (let e = c.requires.posts.empty in search rules)

pub returns-clause-posted : goal.returns-clause-posted
returns-clause-posted g c =
    let less = c.last-worker.ensures.less in
    let alike = c.requires.alike in
    let many : length c.man_doors.new.posts.items ≡ length c.args.places.now.entrances = let q = c.man_doors.ensures.many in search rules in
    let lives = lives_of (doors_of c.man_doors.new.posts.items) in
    let x = c.man_doors.new.chairs in
    let empty = c.man_doors.ensures.empty in
    posted c.args.ground.now.turn.now c.args.ground.now.numbers.now.id c.args.ground.now.most c.args.chairs.now c.args.places.now.entrances (g.O.Conn.wire c.args.console.console) c.man_doors.new.posts.items c.push_reserved.new.self.items
    c.new-overseer.result c.last-worker.result.life c.args.console.place c.args.console.reader (length c.last-worker.new.self.seats)
    c.push_reserved.ensures.items c.man_doors.ensures.manned c.man_doors.ensures.doors many c.new-overseer.ensures c.requires.first c.requires.last (omega arith) c.last-worker.ensures.worker
    (all_seats (lives ++ c.last-worker.result.life ∷ []) x c.args.chairs.now empty.0 empty.1 empty.2 (more_then lives (c.last-worker.result.life ∷ []) x c.last-worker.new.self c.args.chairs.now c.man_doors.ensures.lives c.last-worker.ensures.whose))

pub returns-clause-room : goal.returns-clause-room
returns-clause-room g c =
    (same_room c.args.chairs.now c.last-worker.new.self c.man_doors.new.chairs c.last-worker.ensures.room c.man_doors.ensures.room.0, c.man_doors.ensures.room.1)

pub new-overseer-requires-clause-last : goal.new-overseer-requires-clause-last
new-overseer-requires-clause-last g c = let n = c.requires.last.number_is in let m = c.requires.count in omega arith

pub new-overseer-requires-clause-board : goal.new-overseer-requires-clause-board
new-overseer-requires-clause-board g c = c.requires.last.board

pub new-overseer-requires-clause-calm : goal.new-overseer-requires-clause-calm
new-overseer-requires-clause-calm g c = ap (λ (l : List ℕ). slice_index l STOPPED) c.requires.last.seen
