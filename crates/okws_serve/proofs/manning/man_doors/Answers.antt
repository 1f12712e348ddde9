use Rattle.std.proofs.Common.{rules, arith, append-nil, ◌≡◌, ◌<◌, ◌+◌, suc, ◌∙◌, [], ◌++◌, length, map, refl, sym, ap, subst}
use Rattle.std.specs.Prelude.{vec_len, vec_capacity}
use Rattle.site_run.specs.Tied.{MoreOf}
use Rattle.site_run.proofs.Seating.{chairs_many, push_length}
use Rattle.site_run.proofs.Tying.{more_none}
use Rattle.okws_serve.specs.Posts.{DoorIs}
use Rattle.okws_serve.specs.Manned.{AreManned, doors_of, lives_of}
use Rattle.okws_serve.proofs.Running.{none_of, placed_pop, same_places, same_room}
use Rattle.okws_serve.proofs.Stationing.{doors_next, manned_next, seats_next}
use Rattle.okws_serve.proofs.manning.man_doors.Goals as goal

pub loop-next-init : goal.loop-next-init
loop-next-init g c =
    let ground = c.args.ground.now in
    let x = c.args.places.now in
    let none = c.requires.none in
    let size : length c.args.posts.now.items ≡ 0 = ap length none in
    record {
      seated = c.requires.seated;
      alike = c.requires.alike;
      placed = c.requires.placed;
      manned = subst (AreManned ground.turn.now ground.numbers.now.id ground.most (length x.entrances)) (sym none) tt;
      doors = sym (ap (λ ps. x.entrances ++ map (λ (v : DoorIs). v.entrance) (doors_of ps)) none ∙ append-nil x.entrances);
      lives = subst (λ ps. MoreOf (lives_of (doors_of ps)) c.args.chairs.now c.args.chairs.now) (sym none) (more_none c.args.chairs.now);
      many = search (rules, arith);
      chairs_room = record { seats = refl; cells = refl; turns = refl };
      places_room = record { doors = refl; desks = refl };
      posts_room = refl;
    }

pub last-worker-requires-clause-some : goal.last-worker-requires-clause-some
last-worker-requires-clause-some g c =
    let more = ap length c.in-Some.ensures.some.0 ∙ push_length c.next_door.new.self.entrances (g.D.Door.entrance c.in-Some.next.0) in
    let alike = c.loop-next.invariant.alike in
    omega arith

pub last-worker-requires-clause-seated : goal.last-worker-requires-clause-seated
last-worker-requires-clause-seated g c = c.loop-next.invariant.seated

pub new-post-requires-clause-idle : goal.new-post-requires-clause-idle
new-post-requires-clause-idle g c =
    (placed_pop c.args.ground.now.numbers.now.id c.loop-next.places c.next_door.new.self (g.D.Door.entrance c.in-Some.next.0) c.in-Some.next.1.place c.in-Some.ensures.some.0 c.in-Some.ensures.some.1 c.loop-next.invariant.placed).1

pub new-post-requires-clause-none : goal.new-post-requires-clause-none
new-post-requires-clause-none g c =
    (placed_pop c.args.ground.now.numbers.now.id c.loop-next.places c.next_door.new.self (g.D.Door.entrance c.in-Some.next.0) c.in-Some.next.1.place c.in-Some.ensures.some.0 c.in-Some.ensures.some.1 c.loop-next.invariant.placed).2.drawn

pub new-post-requires-clause-board : goal.new-post-requires-clause-board
new-post-requires-clause-board g c =
    (placed_pop c.args.ground.now.numbers.now.id c.loop-next.places c.next_door.new.self (g.D.Door.entrance c.in-Some.next.0) c.in-Some.next.1.place c.in-Some.ensures.some.0 c.in-Some.ensures.some.1 c.loop-next.invariant.placed).2.board

pub push_reserved-requires : goal.push_reserved-requires
push_reserved-requires g c =
    let more = ap length c.in-Some.ensures.some.0 ∙ push_length c.next_door.new.self.entrances (g.D.Door.entrance c.in-Some.next.0) in
    let many = c.loop-next.invariant.many in
    let room = c.requires.room in
    let same = c.loop-next.invariant.posts_room in
    let l : vec_len c.loop-next.posts < vec_capacity c.loop-next.posts = omega arith in
    search rules

pub loop-next-smaller : goal.loop-next-smaller
loop-next-smaller g c =
    let more = ap length c.in-Some.ensures.some.0 ∙ push_length c.next_door.new.self.entrances (g.D.Door.entrance c.in-Some.next.0) in
    omega arith

pub loop-next-preserved : goal.loop-next-preserved
loop-next-preserved g c =
    let ground = c.args.ground.now in
    let t = ground.turn.now in
    let z = ground.numbers.now.id in
    let i = c.loop-next.invariant in
    let x = c.loop-next.places in
    let y = c.next_door.new.self in
    let e = g.D.Door.entrance c.in-Some.next.0 in
    let p = c.in-Some.next.1.place in
    let q = c.in-Some.ensures.some.0 in
    let r = c.in-Some.ensures.some.1 in
    let d = c.new-post.result in
    let more : length x.entrances ≡ suc (length y.entrances) = ap length q ∙ push_length y.entrances e in
    let less = c.last-worker.ensures.less in
    let alike = i.alike in
    let many = i.many in
    let same : length c.last-worker.new.self.seats ≡ length y.entrances = omega arith in
    let pushed = c.push_reserved.ensures.len in
    record {
      seated = c.last-worker.ensures.seated;
      alike = same;
      placed = (placed_pop z x y e p q r i.placed).0;
      manned = manned_next t z ground.most x y c.loop-next.posts.items c.push_reserved.new.self.items d e p c.last-worker.result.life (length c.last-worker.new.self.seats) q r i.placed c.new-post.ensures same c.last-worker.ensures.worker i.manned c.push_reserved.ensures.items;
      doors = doors_next c.args.places.now.entrances x y c.loop-next.posts.items c.push_reserved.new.self.items d e q (ap (λ (v : DoorIs). v.entrance) c.new-post.ensures) i.doors c.push_reserved.ensures.items;
      lives = seats_next c.loop-next.chairs c.last-worker.new.self c.args.chairs.now c.loop-next.posts.items c.push_reserved.new.self.items d c.last-worker.result.life (ap (λ (v : DoorIs). v.life) c.new-post.ensures) c.push_reserved.ensures.items c.last-worker.ensures.whose i.lives;
      many = omega arith;
      chairs_room = same_room c.args.chairs.now c.loop-next.chairs c.last-worker.new.self i.chairs_room c.last-worker.ensures.room;
      places_room = same_places c.args.places.now x y i.places_room c.next_door.ensures.room;
      posts_room = c.push_reserved.ensures.capacity ∙ i.posts_room;
    }

pub returns-clause-manned : goal.returns-clause-manned
returns-clause-manned g c =
    let ground = c.args.ground.now in
    let none : c.loop-next.places.entrances ≡ [] = search rules in
    subst (λ k. AreManned ground.turn.now ground.numbers.now.id ground.most k c.loop-next.posts.items) (ap length none) c.loop-next.invariant.manned

pub returns-clause-doors : goal.returns-clause-doors
returns-clause-doors g c =
    let none : c.loop-next.places.entrances ≡ [] = search rules in
    sym (c.loop-next.invariant.doors ∙ ap (λ es. es ++ map (λ (v : DoorIs). v.entrance) (doors_of c.loop-next.posts.items)) none)

pub returns-clause-many : goal.returns-clause-many
returns-clause-many g c =
    let none : c.loop-next.places.entrances ≡ [] = search rules in
    let size = ap length none in
    let many = c.loop-next.invariant.many in
    omega arith

pub returns-clause-lives : goal.returns-clause-lives
returns-clause-lives g c = c.loop-next.invariant.lives

pub returns-clause-empty : goal.returns-clause-empty
returns-clause-empty g c =
    let none : c.loop-next.places.entrances ≡ [] = search rules in
    let i = c.loop-next.invariant in
    let x = c.loop-next.chairs in
    let m = chairs_many c.args.ground.now.turn.now (length g.N.Numbered.site.services) 0 x.seats x.cells x.turns i.seated in
    let size : length x.seats ≡ 0 = i.alike ∙ ap length none in
    (none_of x.seats size, none_of x.cells (m.0 ∙ size), none_of x.turns (m.1 ∙ size), search rules, search rules)

pub returns-clause-room : goal.returns-clause-room
returns-clause-room g c =
    let i = c.loop-next.invariant in
    (i.chairs_room, same_places c.args.places.now c.loop-next.places c.next_door.new.self i.places_room c.next_door.ensures.room, i.posts_room)
