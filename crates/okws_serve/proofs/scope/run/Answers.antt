use Rattle.std.proofs.Common.{rules, arith, ◌≡◌, ◌≤◌, ◌+◌, suc, ap, ◌∙◌, [], ◌∷◌, ◌++◌, length}
use Rattle.std.specs.Prelude.{vec_len}
use Rattle.turn_lock.specs.BoardSeats.{SeatIs as Place}
use Rattle.site_run.proofs.Seating.{chairs_many}
use Rattle.site_run.proofs.Tying.{all_seats, more_then}
use Rattle.okws_serve.specs.Manned.{doors_of, lives_of}
use Rattle.okws_serve.proofs.Finishing.{console_back, last_console, overseer_back, place_at, places_back, some_posts}
use Rattle.okws_serve.proofs.Running.{all_served, doors_done, here_overseen, overseen_some, same_room, still_places, still_spacious}
use Rattle.okws_serve.proofs.scope.run.Goals as goal

pub launch_all-okd-requires-clause-some : goal.launch_all-okd-requires-clause-some
launch_all-okd-requires-clause-some g c =
    let x = c.args.chairs.now in
    let m = chairs_many c.args.ground.now.turn.now (length g.N.Numbered.site.services) 0 x.seats x.cells x.turns c.requires.seated in
    let turns = m.1 in
    let alike = c.requires.alike in
    (omega arith, omega arith)

pub unreachable-requires : goal.unreachable-requires
unreachable-requires g c =
    let ground = c.args.ground.now in
    let m : length c.work_posts.new.posts.items ≡ suc (length c.args.places.now.entrances) =
    some_posts g.D.Conn.Conn.wire g.N.Numbered.site g.N.Numbered.launcher ground.turn.now ground.numbers.now.id ground.most c.launch_all-okd.new.chairs c.args.places.now.entrances (g.O.Conn.wire c.args.console.console)
    c.man_all.new.posts.items c.work_posts.new.posts.items c.man_all.ensures.posted c.work_posts.ensures in
    grind arith

pub unreachable-requires-in_default-last : goal.unreachable-requires-in_default-last
unreachable-requires-in_default-last g c =
    let ground = c.args.ground.now in
    let s = all_served g.D.Conn.Conn.wire g.N.Numbered.site g.N.Numbered.launcher ground.turn.now ground.numbers.now.id ground.most c.launch_all-okd.new.chairs c.launch_all-okd.result c.args.places.now.entrances (g.O.Conn.wire c.args.console.console)
    c.man_all.new.posts.items c.work_posts.new.posts.items c.pop.new.self.items c.in-Some.last (c.launch_all-okd.ensures.waiting c.requires.unused) (c.launch_all-okd.ensures.opened c.requires.unused c.requires.unopened) (c.launch_all-okd.ensures.shown c.requires.unused) c.man_all.ensures.posted c.work_posts.ensures c.in-Some.ensures.items in
    last_console g.D.Conn.Conn.wire g.N.Numbered.site g.N.Numbered.launcher s.console c.in-Some.last s.overseen (λ d e. c.in_default-last.not-Console d e)

pub leave_doors-served-requires-clause-done : goal.leave_doors-served-requires-clause-done
leave_doors-served-requires-clause-done g c =
    let ground = c.args.ground.now in
    let s = all_served g.D.Conn.Conn.wire g.N.Numbered.site g.N.Numbered.launcher ground.turn.now ground.numbers.now.id ground.most c.launch_all-okd.new.chairs c.launch_all-okd.result c.args.places.now.entrances (g.O.Conn.wire c.args.console.console)
    c.man_all.new.posts.items c.work_posts.new.posts.items c.pop.new.self.items c.in-Some.last (c.launch_all-okd.ensures.waiting c.requires.unused) (c.launch_all-okd.ensures.opened c.requires.unused c.requires.unopened) (c.launch_all-okd.ensures.shown c.requires.unused) c.man_all.ensures.posted c.work_posts.ensures c.in-Some.ensures.items in
    s.done.done

pub leave_doors-served-requires-clause-room : goal.leave_doors-served-requires-clause-room
leave_doors-served-requires-clause-room g c =
    let ground = c.args.ground.now in
    let s = all_served g.D.Conn.Conn.wire g.N.Numbered.site g.N.Numbered.launcher ground.turn.now ground.numbers.now.id ground.most c.launch_all-okd.new.chairs c.launch_all-okd.result c.args.places.now.entrances (g.O.Conn.wire c.args.console.console)
    c.man_all.new.posts.items c.work_posts.new.posts.items c.pop.new.self.items c.in-Some.last (c.launch_all-okd.ensures.waiting c.requires.unused) (c.launch_all-okd.ensures.opened c.requires.unused c.requires.unopened) (c.launch_all-okd.ensures.shown c.requires.unused) c.man_all.ensures.posted c.work_posts.ensures c.in-Some.ensures.items in
    let many = s.many in
    let alike = c.requires.alike in
    let l : vec_len c.pop.new.self ≤ length c.args.places.now.entrances = search (rules, arith) in
    let k : vec_len c.pop.new.self ≤ length c.args.chairs.now.seats = omega arith in (
      still_spacious (vec_len c.pop.new.self) (length c.args.chairs.now.seats) c.args.chairs.now c.man_all.new.chairs k (same_room c.args.chairs.now c.launch_all-okd.new.chairs c.man_all.new.chairs c.launch_all-okd.ensures.room c.man_all.ensures.room.0) c.requires.room.0,
      still_places (vec_len c.pop.new.self) (length c.args.places.now.entrances) c.args.places.now c.man_all.new.places l c.man_all.ensures.room.1 c.requires.room.1,
    )

pub leave_console-console-requires-clause-done : goal.leave_console-console-requires-clause-done
leave_console-console-requires-clause-done g c =
    let ground = c.args.ground.now in
    let s = all_served g.D.Conn.Conn.wire g.N.Numbered.site g.N.Numbered.launcher ground.turn.now ground.numbers.now.id ground.most c.launch_all-okd.new.chairs c.launch_all-okd.result c.args.places.now.entrances (g.O.Conn.wire c.args.console.console)
    c.man_all.new.posts.items c.work_posts.new.posts.items c.pop.new.self.items c.in-Some.last (c.launch_all-okd.ensures.waiting c.requires.unused) (c.launch_all-okd.ensures.opened c.requires.unused c.requires.unopened) (c.launch_all-okd.ensures.shown c.requires.unused) c.man_all.ensures.posted c.work_posts.ensures c.in-Some.ensures.items in
    overseen_some g.N.Numbered.site s.console.ended s.console c.in-Console.overseer s.none (here_overseen g.D.Conn.Conn.wire g.N.Numbered.site g.N.Numbered.launcher s.console c.in-Some.last c.in-Console.overseer s.overseen c.in-Console.is)

pub leave_console-console-requires-clause-room : goal.leave_console-console-requires-clause-room
leave_console-console-requires-clause-room g c =
    let ground = c.args.ground.now in
    let s = all_served g.D.Conn.Conn.wire g.N.Numbered.site g.N.Numbered.launcher ground.turn.now ground.numbers.now.id ground.most c.launch_all-okd.new.chairs c.launch_all-okd.result c.args.places.now.entrances (g.O.Conn.wire c.args.console.console)
    c.man_all.new.posts.items c.work_posts.new.posts.items c.pop.new.self.items c.in-Some.last (c.launch_all-okd.ensures.waiting c.requires.unused) (c.launch_all-okd.ensures.opened c.requires.unused c.requires.unopened) (c.launch_all-okd.ensures.shown c.requires.unused) c.man_all.ensures.posted c.work_posts.ensures c.in-Some.ensures.items in
    let many = s.many in
    let alike = c.requires.alike in
    let seats : length c.leave_doors-served.new.chairs.seats ≡ length c.pop.new.self.items = let q = c.leave_doors-served.ensures.many.0 in search rules in
    let x = c.args.chairs.now in
    still_spacious (length c.leave_doors-served.new.chairs.seats + 1) (length x.seats) x c.leave_doors-served.new.chairs (omega arith)
    (same_room x c.launch_all-okd.new.chairs c.leave_doors-served.new.chairs c.launch_all-okd.ensures.room (same_room c.launch_all-okd.new.chairs c.man_all.new.chairs c.leave_doors-served.new.chairs c.man_all.ensures.room.0 c.leave_doors-served.ensures.room.0)) c.requires.room.0

pub returns-clause-seated : goal.returns-clause-seated
returns-clause-seated g c =
    let ground = c.args.ground.now in
    let t = ground.turn.now in
    let es = c.args.places.now.entrances in
    let w = g.O.Conn.wire c.args.console.console in
    let qs = c.pop.new.self.items in
    let s = all_served g.D.Conn.Conn.wire g.N.Numbered.site g.N.Numbered.launcher t ground.numbers.now.id ground.most c.launch_all-okd.new.chairs c.launch_all-okd.result es w
    c.man_all.new.posts.items c.work_posts.new.posts.items qs c.in-Some.last (c.launch_all-okd.ensures.waiting c.requires.unused) (c.launch_all-okd.ensures.opened c.requires.unused c.requires.unopened) (c.launch_all-okd.ensures.shown c.requires.unused) c.man_all.ensures.posted c.work_posts.ensures c.in-Some.ensures.items in
    let seats : length c.leave_doors-served.new.chairs.seats ≡ length qs = let q = c.leave_doors-served.ensures.many.0 in search rules in
    c.leave_console-console.ensures.seated t
    (overseer_back g.D.Conn.Conn.wire g.N.Numbered.site g.N.Numbered.launcher t ground.numbers.now.id ground.most c.launch_all-okd.result es w qs c.in-Some.last c.in-Console.overseer (length c.leave_doors-served.new.chairs.seats) s c.in-Console.is (seats ∙ s.many))
    (c.leave_doors-served.ensures.seated t s.done.at)

pub returns-clause-many : goal.returns-clause-many
returns-clause-many g c =
    let ground = c.args.ground.now in
    let s = all_served g.D.Conn.Conn.wire g.N.Numbered.site g.N.Numbered.launcher ground.turn.now ground.numbers.now.id ground.most c.launch_all-okd.new.chairs c.launch_all-okd.result c.args.places.now.entrances (g.O.Conn.wire c.args.console.console)
    c.man_all.new.posts.items c.work_posts.new.posts.items c.pop.new.self.items c.in-Some.last (c.launch_all-okd.ensures.waiting c.requires.unused) (c.launch_all-okd.ensures.opened c.requires.unused c.requires.unopened) (c.launch_all-okd.ensures.shown c.requires.unused) c.man_all.ensures.posted c.work_posts.ensures c.in-Some.ensures.items in
    let many = s.many in
    let alike = c.requires.alike in
    let seats : length c.leave_doors-served.new.chairs.seats ≡ length c.pop.new.self.items = let q = c.leave_doors-served.ensures.many.0 in search rules in
    let last = c.leave_console-console.ensures.many in
    omega arith

pub returns-clause-room : goal.returns-clause-room
returns-clause-room g c =
    let x = c.args.chairs.now in
    let z = c.leave_console-console.new.chairs in
    same_room x c.launch_all-okd.new.chairs z c.launch_all-okd.ensures.room
    (same_room c.launch_all-okd.new.chairs c.man_all.new.chairs z c.man_all.ensures.room.0 (same_room c.man_all.new.chairs c.leave_doors-served.new.chairs z c.leave_doors-served.ensures.room.0 c.leave_console-console.ensures.room))

pub returns-clause-places : goal.returns-clause-places
returns-clause-places g c =
    let ground = c.args.ground.now in
    let t = ground.turn.now in
    let es = c.args.places.now.entrances in
    let w = g.O.Conn.wire c.args.console.console in
    let qs = c.pop.new.self.items in
    let s = all_served g.D.Conn.Conn.wire g.N.Numbered.site g.N.Numbered.launcher t ground.numbers.now.id ground.most c.launch_all-okd.new.chairs c.launch_all-okd.result es w
    c.man_all.new.posts.items c.work_posts.new.posts.items qs c.in-Some.last (c.launch_all-okd.ensures.waiting c.requires.unused) (c.launch_all-okd.ensures.opened c.requires.unused c.requires.unopened) (c.launch_all-okd.ensures.shown c.requires.unused) c.man_all.ensures.posted c.work_posts.ensures c.in-Some.ensures.items in
    places_back g.D.Conn.Conn.wire g.N.Numbered.site g.N.Numbered.launcher t ground.numbers.now.id ground.most c.launch_all-okd.result es w qs c.in-Some.last c.leave_doors-served.new.places s c.leave_doors-served.ensures.doors c.leave_doors-served.ensures.places

pub returns-clause-done : goal.returns-clause-done
returns-clause-done g c =
    let wire = g.D.Conn.Conn.wire in
    let C = g.N.Numbered.site in
    let n = g.N.Numbered.launcher in
    let ground = c.args.ground.now in
    let t = ground.turn.now in
    let z = ground.numbers.now.id in
    let es = c.args.places.now.entrances in
    let w = g.O.Conn.wire c.args.console.console in
    let qs = c.pop.new.self.items in
    let d = c.in-Console.overseer in
    let s = all_served wire C n t z ground.most c.launch_all-okd.new.chairs c.launch_all-okd.result es w
    c.man_all.new.posts.items c.work_posts.new.posts.items qs c.in-Some.last (c.launch_all-okd.ensures.waiting c.requires.unused) (c.launch_all-okd.ensures.opened c.requires.unused c.requires.unopened) (c.launch_all-okd.ensures.shown c.requires.unused) c.man_all.ensures.posted c.work_posts.ensures c.in-Some.ensures.items in
    let l = c.leave_doors-served.ensures in
    let x = c.man_all.new.chairs in
    let y = c.leave_doors-served.new.chairs in
    let v = c.leave_console-console.new.chairs in
    let lives = lives_of (doors_of qs) in
    let empty = c.man_all.ensures.empty in
    record {
      lives = lives;
      last = d.life;
      seats = all_seats (lives ++ d.life ∷ []) x v empty.0 empty.1 empty.2 (more_then lives (d.life ∷ []) x y v l.lives c.leave_console-console.ensures.whose);
      doors = doors_done wire C n t z ground.most c.args.places.now c.leave_doors-served.new.places s.doors qs c.leave_doors-served.result.connections c.leave_doors-served.result.starved
          s.done s.begin s.entrances_are l.doors l.places l.connections l.starved l.idle;
      opened = s.opened;
      shown = s.shown;
      console = console_back wire C n t z ground.most c.launch_all-okd.result es w (g.O.Conn.wire c.leave_console-console.result.0) qs c.in-Some.last d c.leave_console-console.result.1 c.leave_console-console.result.2
          s c.in-Console.is c.leave_console-console.ensures.ended c.leave_console-console.ensures.console c.leave_console-console.ensures.place;
    }

pub returns-clause-last : goal.returns-clause-last
returns-clause-last g c =
    let ground = c.args.ground.now in
    let es = c.args.places.now.entrances in
    let w = g.O.Conn.wire c.args.console.console in
    let qs = c.pop.new.self.items in
    let s = all_served g.D.Conn.Conn.wire g.N.Numbered.site g.N.Numbered.launcher ground.turn.now ground.numbers.now.id ground.most c.launch_all-okd.new.chairs c.launch_all-okd.result es w
    c.man_all.new.posts.items c.work_posts.new.posts.items qs c.in-Some.last (c.launch_all-okd.ensures.waiting c.requires.unused) (c.launch_all-okd.ensures.opened c.requires.unused c.requires.unopened) (c.launch_all-okd.ensures.shown c.requires.unused) c.man_all.ensures.posted c.work_posts.ensures c.in-Some.ensures.items in
    ap (λ (p : Place). p.board) c.leave_console-console.ensures.place
    ∙ place_at g.D.Conn.Conn.wire g.N.Numbered.site g.N.Numbered.launcher ground.turn.now ground.numbers.now.id ground.most c.launch_all-okd.result es w qs c.in-Some.last c.in-Console.overseer s c.in-Console.is
