use Rattle.std.proofs.Common.{rules, arith, ◌≡◌, ◌≤◌, ◌+◌, suc, ◌∙◌, [], ◌∷◌, ◌++◌, length, map, refl, sym, ap, subst}
use Rattle.std.specs.Prelude.{vec_len}
use Rattle.site_run.specs.Places.{AllIdle}
use Rattle.site_run.proofs.Seating.{none_seated, push_length}
use Rattle.site_run.proofs.Tying.{more_none}
use Rattle.okws_serve.specs.Posts.{DoorIs, ConsoleIs}
use Rattle.okws_serve.specs.Manned.{AreAt, AllDone, doors_of, lives_of, attended_of}
use Rattle.okws_serve.specs.declared.post.Post.{Post}
use Rattle.okws_serve.specs.declared.post.Post.TheVariants.{Door}
use Rattle.okws_serve.proofs.Finishing.{done_door}
use Rattle.okws_serve.proofs.Left.{done_pop, at_pop}
use Rattle.okws_serve.proofs.Posting.{idle_push}
use Rattle.okws_serve.proofs.Running.{counted_next, counted_all, doors_left, doors_all, lives_all, lives_next, none_of, same_places, same_room, still_places, still_spacious}
use Rattle.okws_serve.proofs.leaving.leave_doors.Goals as goal

pub loop-post-init : goal.loop-post-init
loop-post-init g c =
    let x = c.args.chairs.now in
    let y = c.args.places.now in
    let ps = c.args.posts.items in
    let e = c.requires.empty in
    let none : length x.seats ≡ 0 = ap length e.0 in
    let cells : length x.cells ≡ 0 = ap length e.1 in
    let turns : length x.turns ≡ 0 = ap length e.2 in
    let doors : length y.entrances ≡ 0 = ap length e.3 in
    let places : length y.places ≡ 0 = ap length e.4 in
    record {
      done = c.requires.done;
      seated = λ t h. (none_seated t (length g.N.Numbered.site.services) x e.0 e.1 e.2, subst (λ k. AreAt t k ps) (sym none) h);
      many = search rules;
      alike = (cells ∙ sym none, turns ∙ sym none, doors ∙ sym none, places ∙ sym none);
      lives = record { before = []; all_is = refl; seats = more_none x };
      doors = ap (λ xs. xs ++ map (λ (d : DoorIs). d.entrance) (doors_of ps)) e.3;
      places = ap (λ xs. xs ++ map (λ (d : DoorIs). d.place) (doors_of ps)) e.4;
      idle = subst AllIdle (sym e.3) tt;
      attended = record { before = []; all_is = refl; connections_are = omega arith; starved_is = refl };
      chairs_room = record { seats = refl; cells = refl; turns = refl };
      places_room = record { doors = refl; desks = refl };
    }

pub unreachable-requires : goal.unreachable-requires
unreachable-requires g c =
    let left = c.pop.new.self.items in
    done_door c.in-Some.post (done_pop left c.in-Some.post (subst AllDone c.in-Some.ensures.items c.loop-post.invariant.done)).1 (λ d e. c.in_default-post.not-Door d e)

pub leave_door-attended-requires-clause-done : goal.leave_door-attended-requires-clause-done
leave_door-attended-requires-clause-done g c =
    let left = c.pop.new.self.items in
    let d = c.in-Door.post in
    (done_pop left (Door d) (subst AllDone (subst (λ (p : Post DoorIs ConsoleIs). c.loop-post.posts.items ≡ left ++ p ∷ []) c.in-Door.is c.in-Some.ensures.items) c.loop-post.invariant.done)).1.0

pub leave_door-attended-requires-clause-room : goal.leave_door-attended-requires-clause-room
leave_door-attended-requires-clause-room g c =
    let i = c.loop-post.invariant in
    let many = i.many in
    let more = ap length c.in-Some.ensures.items ∙ push_length c.pop.new.self.items c.in-Some.post in
    let n = vec_len c.args.posts in
    let k = length c.loop-post.chairs.seats in
    let l : k + 1 ≤ n = search (arith, rules) in
    (still_spacious (k + 1) n c.args.chairs.now c.loop-post.chairs l i.chairs_room c.requires.room.0, still_places (k + 1) n c.args.places.now c.loop-post.places l i.places_room c.requires.room.1)

pub loop-post-preserved : goal.loop-post-preserved
loop-post-preserved g c =
    let i = c.loop-post.invariant in
    let more = c.loop-post.posts.items in
    let left = c.pop.new.self.items in
    let d = c.in-Door.post in
    let k = length c.loop-post.chairs.seats in
    let e = subst (λ (p : Post DoorIs ConsoleIs). more ≡ left ++ p ∷ []) c.in-Door.is c.in-Some.ensures.items in
    let x = c.leave_door-attended.new.chairs in
    let y = c.leave_door-attended.new.places in
    let l = c.leave_door-attended.ensures in
    let all = c.args.posts.items in
    let next : suc k ≡ length x.seats = let q = l.more.0 in omega arith in
    let ents : length y.entrances ≡ suc (length c.loop-post.places.entrances) = ap length l.door ∙ push_length c.loop-post.places.entrances d.entrance in
    let plcs : length y.places ≡ suc (length c.loop-post.places.places) = ap length l.place ∙ push_length c.loop-post.places.places d.place in
    let fewer : length more ≡ suc (length left) = ap length e ∙ push_length left (Door d) in
    record {
      done = (done_pop left (Door d) (subst AllDone e i.done)).0;
      seated = λ t h.
          let s = i.seated t h in
          let p = at_pop t k left d (subst (AreAt t k) e s.1) in
          (l.seated t p.1 s.0, subst (λ m. AreAt t m left) next p.0);
      many = let m = i.many in search (arith, rules);
      alike = (l.more.1 ∙ sym l.more.0, l.more.2 ∙ sym l.more.0, ents ∙ (ap suc i.alike.2 ∙ next), plcs ∙ (ap suc i.alike.3 ∙ next));
      lives = lives_next (lives_of (doors_of all)) more left d c.args.chairs.now c.loop-post.chairs x e l.whose i.lives;
      doors = doors_left (λ (x : DoorIs). x.entrance) (map (λ (x : DoorIs). x.entrance) (doors_of all)) c.loop-post.places.entrances y.entrances more left d i.doors e l.door;
      places = doors_left (λ (x : DoorIs). x.place) (map (λ (x : DoorIs). x.place) (doors_of all)) c.loop-post.places.places y.places more left d i.places e l.place;
      idle = subst AllIdle (sym l.door) (idle_push c.loop-post.places.entrances d.entrance i.idle l.idle);
      attended = counted_next (attended_of (doors_of all)) more left d c.leave_door-attended.result c.loop-post.served.connections c.with-served.result.connections c.loop-post.served.starved c.with-served.result.starved e l.attended c.with-served.ensures.connections c.with-served.ensures.starved i.attended;
      chairs_room = same_room c.args.chairs.now c.loop-post.chairs x i.chairs_room l.room.0;
      places_room = same_places c.args.places.now c.loop-post.places y i.places_room l.room.1;
    }

pub returns-clause-seated : goal.returns-clause-seated
returns-clause-seated g c = λ t h. (c.loop-post.invariant.seated t h).0

pub returns-clause-lives : goal.returns-clause-lives
returns-clause-lives g c =
    let left = c.loop-post.posts.items in
    lives_all (lives_of (doors_of c.args.posts.items)) left c.args.chairs.now c.loop-post.chairs (none_of left (search rules)) c.loop-post.invariant.lives

pub returns-clause-doors : goal.returns-clause-doors
returns-clause-doors g c =
    let left = c.loop-post.posts.items in
    doors_all (λ (x : DoorIs). x.entrance) (map (λ (x : DoorIs). x.entrance) (doors_of c.args.posts.items)) c.loop-post.places.entrances left (none_of left (search rules)) c.loop-post.invariant.doors

pub returns-clause-places : goal.returns-clause-places
returns-clause-places g c =
    let left = c.loop-post.posts.items in
    doors_all (λ (x : DoorIs). x.place) (map (λ (x : DoorIs). x.place) (doors_of c.args.posts.items)) c.loop-post.places.places left (none_of left (search rules)) c.loop-post.invariant.places

pub returns-clause-idle : goal.returns-clause-idle
returns-clause-idle g c = c.loop-post.invariant.idle

pub returns-clause-connections : goal.returns-clause-connections
returns-clause-connections g c =
    let left = c.loop-post.posts.items in
    (counted_all (attended_of (doors_of c.args.posts.items)) left c.loop-post.served.connections c.loop-post.served.starved (none_of left (search rules)) c.loop-post.invariant.attended).0

pub returns-clause-starved : goal.returns-clause-starved
returns-clause-starved g c =
    let left = c.loop-post.posts.items in
    (counted_all (attended_of (doors_of c.args.posts.items)) left c.loop-post.served.connections c.loop-post.served.starved (none_of left (search rules)) c.loop-post.invariant.attended).1

pub returns-clause-room : goal.returns-clause-room
returns-clause-room g c = (c.loop-post.invariant.chairs_room, c.loop-post.invariant.places_room)
