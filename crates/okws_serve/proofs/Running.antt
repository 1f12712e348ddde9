-- Workers at their posts, from the beginning of a run to its end.
use Rattle.std.proofs.Common.{◌≡◌, ℕ, suc, ◌+◌, ◌≤◌, Bool, ◌||◌, List, [], ◌∷◌, ◌++◌, length, map, refl, sym, ap, ◌∙◌, subst, arith, append_assoc, append-nil}
use Rattle.std.proofs.lemmas.List.{length-map}
use Rattle.std.specs.Prelude.{Some, None, IsSome, IsNone, option_to_list}
use Rattle.std.specs.declared.option.Option.{Option}
use Rattle.atomic_table.specs.Seated.{TableId}
use Rattle.turn_lock.specs.BoardSeats.{AllAt, AreRising}
use Rattle.turn_lock.specs.BoardSeats.{IsFresh as IsFreshPlace}
use Rattle.turn_lock.specs.BoardSeats.{SeatIs as Place}
use Rattle.named_columns.specs.Counts.{capped}
use Rattle.okws_outer.specs.Conns.{ConnWire}
use Rattle.okws_outer.specs.Doors.{Entrance}
use Rattle.okws_base.specs.declared.journal.Entry.{Entry}
use Rattle.okws_plan.specs.declared.configuration.Config.{Config}
use Rattle.okws_plan.specs.declared.event.OkdEvent.{OkdEvent}
use Rattle.site_worker.specs.Commands.{Oversees}
use Rattle.site_worker.specs.Lives.{Life}
use Rattle.site_worker.specs.declared.door.Attended.{Attended}
use Rattle.turn_lock.specs.Seats.{TurnIs}
use Rattle.site_run.specs.Places.{AllIdle, PlacesAre, Placed, HasPlaces, SamePlaces}
use Rattle.site_run.specs.Meeting.{HasShown}
use Rattle.site_run.specs.Opening.{HasOpened}
use Rattle.site_run.specs.Rows.{ChairsAre, Spacious, SameRoom, WorksAs}
use Rattle.site_run.specs.Tied.{AllBegin, LifeBegins, MoreOf, Waiting}
use Rattle.site_run.proofs.Lists.{rising_pop}
use Rattle.site_run.proofs.Seating.{push_length}
use Rattle.site_run.proofs.Tying.{begin_pop, lives_begin, more_then}
use Rattle.okws_serve.specs.Doors.{any_starved}
use Rattle.okws_serve.specs.declared.outfit.Ending.{Ending}
use Rattle.okws_serve.specs.Opened.{OpensFirst, ShowsFirst}
use Rattle.okws_serve.specs.Posts.{DoorIs, ConsoleIs, Concludes, OverseenBy, OverseenIf, WorksAt}
use Rattle.okws_serve.specs.Manned.{ArePosted, AllWork, AllAttended, ConsoleDone, DoorsDone, doors_of, lives_of, attended_of, served_of}
use Rattle.okws_serve.specs.declared.post.Post.{Post}
use Rattle.okws_serve.specs.declared.post.Post.TheVariants.{Door, Console}
use Rattle.okws_serve.proofs.Left.{served_push, counts_on, starved_push}
use Rattle.okws_serve.proofs.Manned.{Done, all_done, doors_push, works_on, works_pop}
use Rattle.okws_serve.proofs.Opened.{lives_opened, lives_shown}
use Rattle.okws_serve.proofs.Posting.{idle_pop}

-- the last of the places of doors
pub placed_pop : (z : TableId) (x y : PlacesAre) (e : Entrance) (p : Place) → x.entrances ≡ y.entrances ++ e ∷ [] → x.places ≡ y.places ++ p ∷ [] → Placed z x
    → Placed z y × IsNone e.out × IsFreshPlace z (length y.entrances) p
placed_pop z x y e p q r h =
    let i = idle_pop y.entrances e (subst AllIdle q h.idle) in
    let a = h.alike in
    let m = ap length q ∙ push_length y.entrances e in
    let n = ap length r ∙ push_length y.places p in
    let f = rising_pop z 0 (length y.entrances) y.places p (omega arith) (subst (AreRising z 0) r h.fresh) in
    (record { idle = i.0; fresh = f.0; alike = omega arith }, i.1, f.1)

-- posts at which what was to do is done are as many
pub works_many : {X : Type 0} (wire : X → ConnWire) (C : Config) (n : ℕ) (ps qs : List (Post DoorIs ConsoleIs)) → AllWork wire C n ps qs → length qs ≡ length ps
works_many wire C n [] [] w = refl
works_many wire C n [] (q ∷ qs) w = absurd w
works_many wire C n (p ∷ ps) [] w = absurd w
works_many wire C n (p ∷ ps) (q ∷ qs) w = ap suc (works_many wire C n ps qs w.1)

-- what was done at the doors, and at the console, whose post was the last
pub record AllServed {X : Type 0} (wire : X → ConnWire) (C : Config) (n : ℕ) (t : TurnIs) (z : TableId) (most : ℕ) (entries : List (Entry OkdEvent)) (es : List Entrance) (w : ConnWire) (qs : List (Post DoorIs ConsoleIs)) (q : Post DoorIs ConsoleIs) : Type 0 where
  pub doors : List (Post DoorIs ConsoleIs)
  pub console : ConsoleIs
  pub done : Done wire C n t z most 0 doors qs
  pub overseen : WorksAt wire C n (Console console) q
  pub entrances_are : map (λ (d : DoorIs). d.entrance) (doors_of doors) ≡ es
  pub many : length qs ≡ length es
  pub works : WorksAs t (length es) console.life
  pub wire_is : console.wire ≡ w
  pub first : console.lines ≡ 0
  pub place_is : IsFreshPlace z (length es) console.place
  pub most_is : console.most ≡ most
  pub none : console.ended ≡ None
  pub begin : AllBegin C n 0 (lives_of (doors_of doors))
  pub begins : LifeBegins C n (length es) console.life
  pub opened : OpensFirst C (length es + 1) (lives_of (doors_of doors))
  pub shown : ShowsFirst C n (length es + 1) entries (lives_of (doors_of doors))

pub all_served : {X : Type 0} (wire : X → ConnWire) (C : Config) (n : ℕ) (t : TurnIs) (z : TableId) (most : ℕ) (chairs : ChairsAre) (entries : List (Entry OkdEvent)) (es : List Entrance) (w : ConnWire) (before after qs : List (Post DoorIs ConsoleIs)) (q : Post DoorIs ConsoleIs)
    → Waiting C n chairs → HasOpened C chairs → HasShown C n chairs entries → ArePosted t z most chairs es w before → AllWork wire C n before after → after ≡ qs ++ q ∷ [] → AllServed wire C n t z most entries es w qs q
all_served wire C n t z most chairs entries es w before after qs q waiting opened shown h work f =
    let ps = h.doors in
    let c = h.console in
    let v = subst (λ xs. AllWork wire C n xs (qs ++ q ∷ [])) h.posts_are (subst (AllWork wire C n before) f work) in
    let m = works_many wire C n (ps ++ Console c ∷ []) (qs ++ q ∷ []) v in
    let a = push_length ps (Console c) in
    let b = push_length qs q in
    let many = h.many in
    let p = works_pop wire C n ps (Console c) qs q (omega arith) v in
    let lives = lives_of (doors_of ps) in
    let size : length lives ≡ length es = length-map (doors_of ps) (λ (d : DoorIs). d.life) ∙ (sym (length-map (doors_of ps) (λ (d : DoorIs). d.entrance)) ∙ ap length h.entrances_are) in
    let first = begin_pop C n 0 (length es) lives c.life (omega arith) (lives_begin C n 0 (lives ++ c.life ∷ []) chairs.seats chairs.cells chairs.turns waiting h.seats) in
    record {
      doors = ps;
      console = c;
      done = all_done wire C n t z most 0 ps qs h.manned p.0;
      overseen = p.1;
      entrances_are = h.entrances_are;
      many = omega arith;
      works = h.works;
      wire_is = h.wire_is;
      first = h.first;
      place_is = h.place_is;
      most_is = h.most_is;
      none = h.none;
      begin = first.0;
      begins = first.1;
      opened = lives_opened C (length es + 1) lives c.life chairs h.seats (push_length lives c.life ∙ omega (arith, size)) opened;
      shown = lives_shown C n entries (length es + 1) lives c.life chairs h.seats (push_length lives c.life ∙ omega (arith, size)) shown;
    }

-- posts of a run are as many as the doors and one
pub posted_many : (t : TurnIs) (z : TableId) (most : ℕ) (chairs : ChairsAre) (es : List Entrance) (w : ConnWire) (ps : List (Post DoorIs ConsoleIs)) → ArePosted t z most chairs es w ps → length ps ≡ suc (length es)
posted_many t z most chairs es w ps h = ap length h.posts_are ∙ (push_length h.doors (Console h.console) ∙ ap suc h.many)

pub here_overseen : {X : Type 0} (wire : X → ConnWire) (C : Config) (n : ℕ) (c : ConsoleIs) (q : Post DoorIs ConsoleIs) (d : ConsoleIs) → WorksAt wire C n (Console c) q → q ≡ Console d → OverseenIf C c c.ended d
here_overseen wire C n c q d w e = subst (λ x. WorksAt wire C n (Console c) x) e w

-- the doors of a run were attended
abbrev pub doors_done : {X : Type 0} (wire : X → ConnWire) (C : Config) (n : ℕ) (t : TurnIs) (z : TableId) (most : ℕ) (old new : PlacesAre) (ps qs : List (Post DoorIs ConsoleIs)) (connections : ℕ) (starved : Bool)
    → Done wire C n t z most 0 ps qs → AllBegin C n 0 (lives_of (doors_of ps)) → map (λ (d : DoorIs). d.entrance) (doors_of ps) ≡ old.entrances
    → new.entrances ≡ map (λ (d : DoorIs). d.entrance) (doors_of qs) → new.places ≡ map (λ (d : DoorIs). d.place) (doors_of qs)
    → connections ≡ capped (served_of (attended_of (doors_of qs))) → starved ≡ any_starved (attended_of (doors_of qs)) → AllIdle new.entrances
    → DoorsDone wire C n z most (lives_of (doors_of qs)) old new connections starved
doors_done wire C n t z most old new ps qs connections starved h b e f p c s i = record {
  before = doors_of ps;
  attended = attended_of (doors_of qs);
  after = doors_of qs;
  begin = b;
  each = h.attended;
  lives_are = refl;
  old_is = sym e;
  new_is = f;
  places_are = p;
  connections_are = c;
  starved_is = s;
  idle = i;
}

-- the console was overseen
pub overseen_by : (C : Config) (o : Option Ending) (c d : ConsoleIs) → o ≡ None → OverseenIf C c o d → (e : Ending) × OverseenBy C c e d
overseen_by C o c d e w = subst (λ x. OverseenIf C c x d) e w

pub overseen_some : (C : Config) (o : Option Ending) (c d : ConsoleIs) → o ≡ None → OverseenIf C c o d → IsSome d.ended
overseen_some C o c d e w = let b = overseen_by C o c d e w in subst IsSome (sym b.1.done) refl

same_some : {A : Type 0} (x y : A) → Some x ≡ Some y → x ≡ y
same_some x y e = cc

-- and served from its first line
pub console_served : (C : Config) (n k : ℕ) (z : TableId) (most : ℕ) (o : Option Ending) (c d : ConsoleIs) (ending : Ending) (w x : ConnWire) → LifeBegins C n k c.life → IsFreshPlace z k c.place → c.most ≡ most → o ≡ None → OverseenIf C c o d → d.ended ≡ Some ending → c.wire ≡ w → d.wire ≡ x → c.lines ≡ 0
    → ConsoleDone C n k z most d.life w x d.place ending
console_served C n k z most o c d ending w x l fresh limit e i s p q f =
    let b = overseen_by C o c d e i in
    let same : b.0 ≡ ending = same_some b.0 ending (sym b.1.done ∙ s) in
    record {
      lines = d.lines;
      before = c.life;
      mid = b.1.mid;
      how = b.1.how;
      place = c.place;
      begins = l;
      oversees = subst (λ k. Oversees C w b.1.mid k d.lines c.life d.life b.1.how) f (subst (λ v. Oversees C v b.1.mid c.lines d.lines c.life d.life b.1.how) p b.1.oversees);
      place_is = fresh;
      concludes = subst (λ (y : ℕ × ConnWire × Ending). Concludes y.0 b.1.how b.1.mid y.1 c.place d.place y.2) (λ i. (limit i, q i, same i)) b.1.concludes;
    }

-- all seats are back
pub all_back : (C : Config) (t : TurnIs) (k : ℕ) (c d : ConsoleIs) → c.ended ≡ None → OverseenIf C c c.ended d → WorksAs t k c.life → WorksAs t k d.life
all_back C t k c d e w h = works_on t k c.life d.life (overseen_by C c.ended c d e w).1.same h

-- the places from which numbers were drawn are still at their board
pub attended_at : {X : Type 0} (wire : X → ConnWire) (C : Config) (n : ℕ) (z : TableId) (most k : ℕ) (ds : List DoorIs) (as' : List Attended) (es : List DoorIs) → AllAttended wire C n z most k ds as' es
    → AllAt z (map (λ (d : DoorIs). d.place) es)
attended_at wire C n z most k [] [] [] h = tt
attended_at wire C n z most k [] [] (e ∷ es) h = absurd h
attended_at wire C n z most k [] (a ∷ as') es h = absurd h
attended_at wire C n z most k (d ∷ ds) [] es h = absurd h
attended_at wire C n z most k (d ∷ ds) (a ∷ as') [] h = absurd h
attended_at wire C n z most k (d ∷ ds) (a ∷ as') (e ∷ es) h =
    (ap (λ (p : Place). p.board) h.2.place_is ∙ h.0.board, attended_at wire C n z most (suc k) ds as' es h.3)

-- of doors in a row, the next one leaves
pub doors_left : {A : Type 0} (f : DoorIs → A) (all before now : List A) (more left : List (Post DoorIs ConsoleIs)) (d : DoorIs)
    → before ++ map f (doors_of more) ≡ all → more ≡ left ++ Door d ∷ [] → now ≡ before ++ f d ∷ [] → now ++ map f (doors_of left) ≡ all
doors_left f all before now more left d e q r =
    ap (λ xs. xs ++ map f (doors_of left)) r ∙ (append_assoc before (f d ∷ []) (map f (doors_of left))
    ∙ (ap (λ ds. before ++ map f ds) (sym (doors_push left d)) ∙ (ap (λ ps. before ++ map f (doors_of ps)) (sym q) ∙ e)))

-- how it was attended
pub attended_left : (all before : List Attended) (more left : List (Post DoorIs ConsoleIs)) (d : DoorIs) (a : Attended)
    → before ++ attended_of (doors_of more) ≡ all → more ≡ left ++ Door d ∷ [] → d.attended ≡ Some a → (before ++ a ∷ []) ++ attended_of (doors_of left) ≡ all
attended_left all before more left d a e q s =
    append_assoc before (a ∷ []) (attended_of (doors_of left))
    ∙ (ap (λ o. before ++ (option_to_list o ++ attended_of (doors_of left))) (sym s)
    ∙ (ap (λ ds. before ++ attended_of ds) (sym (doors_push left d)) ∙ (ap (λ ps. before ++ attended_of (doors_of ps)) (sym q) ∙ e)))

-- the counts of those that left
pub record Counted (all : List Attended) (left : List (Post DoorIs ConsoleIs)) (connections : ℕ) (starved : Bool) : Type 0 where
  pub before : List Attended
  pub all_is : before ++ attended_of (doors_of left) ≡ all
  pub connections_are : connections ≡ capped (served_of before)
  pub starved_is : starved ≡ any_starved before

pub counted_next : (all : List Attended) (more left : List (Post DoorIs ConsoleIs)) (d : DoorIs) (a : Attended) (connections next : ℕ) (starved now : Bool)
    → more ≡ left ++ Door d ∷ [] → d.attended ≡ Some a → next ≡ capped (connections + a.connections) → now ≡ (starved || a.starved) → Counted all more connections starved → Counted all left next now
counted_next all more left d a connections next starved now q s e f h = record {
  before = h.before ++ a ∷ [];
  all_is = attended_left all h.before more left d a h.all_is q s;
  connections_are = e ∙ (ap (λ x. capped (x + a.connections)) h.connections_are ∙ (counts_on (served_of h.before) a.connections ∙ ap capped (sym (served_push h.before a))));
  starved_is = f ∙ (ap (λ b. b || a.starved) h.starved_is ∙ sym (starved_push h.before a));
}

pub counted_all : (all : List Attended) (left : List (Post DoorIs ConsoleIs)) (connections : ℕ) (starved : Bool) → left ≡ [] → Counted all left connections starved
    → (connections ≡ capped (served_of all)) × (starved ≡ any_starved all)
counted_all all left connections starved e h =
    let same : h.before ≡ all = sym (append-nil h.before) ∙ (ap (λ ps. h.before ++ attended_of (doors_of ps)) (sym e) ∙ h.all_is) in
    (h.connections_are ∙ ap (λ as'. capped (served_of as')) same, h.starved_is ∙ ap any_starved same)

pub doors_all : {A : Type 0} (f : DoorIs → A) (all now : List A) (left : List (Post DoorIs ConsoleIs)) → left ≡ [] → now ++ map f (doors_of left) ≡ all → now ≡ all
doors_all f all now left e h = sym (append-nil now) ∙ (ap (λ ps. now ++ map f (doors_of ps)) (sym e) ∙ h)

pub none_of : {A : Type 0} (xs : List A) → length xs ≡ 0 → xs ≡ []
none_of [] e = refl
none_of (x ∷ xs) e = absurd (omega arith)

-- there is as much room as before, in two steps
pub same_room : (x y z : ChairsAre) → SameRoom x y → SameRoom y z → SameRoom x z
same_room x y z h i = record { seats = i.seats ∙ h.seats; cells = i.cells ∙ h.cells; turns = i.turns ∙ h.turns }

pub still_spacious : (m n : ℕ) (x y : ChairsAre) → m ≤ n → SameRoom x y → Spacious n x → Spacious m y
still_spacious m n x y l h s =
    let a = h.seats in let b = h.cells in let c = h.turns in let d = s.seats in let e = s.cells in let f = s.turns in
    record { seats = omega arith; cells = omega arith; turns = omega arith }

pub still_places : (m n : ℕ) (x y : PlacesAre) → m ≤ n → SamePlaces x y → HasPlaces n x → HasPlaces m y
still_places m n x y l h s =
    let a = h.doors in let b = h.desks in let d = s.doors in let e = s.desks in
    record { doors = omega arith; desks = omega arith }

pub same_places : (x y z : PlacesAre) → SamePlaces x y → SamePlaces y z → SamePlaces x z
same_places x y z h i = record { doors = i.doors ∙ h.doors; desks = i.desks ∙ h.desks }

-- the seats of the lives that came back from their posts
pub record LivesBack (all : List Life) (left : List (Post DoorIs ConsoleIs)) (x y : ChairsAre) : Type 0 where
  pub before : List Life
  pub all_is : before ++ lives_of (doors_of left) ≡ all
  pub seats : MoreOf before x y

pub lives_next : (all : List Life) (more left : List (Post DoorIs ConsoleIs)) (d : DoorIs) (x y z : ChairsAre) → more ≡ left ++ Door d ∷ [] → MoreOf (d.life ∷ []) y z → LivesBack all more x y → LivesBack all left x z
lives_next all more left d x y z q m h = record {
  before = h.before ++ d.life ∷ [];
  all_is = doors_left (λ (e : DoorIs). e.life) all h.before (h.before ++ d.life ∷ []) more left d h.all_is q refl;
  seats = more_then h.before (d.life ∷ []) x y z h.seats m;
}

pub lives_all : (all : List Life) (left : List (Post DoorIs ConsoleIs)) (x y : ChairsAre) → left ≡ [] → LivesBack all left x y → MoreOf all x y
lives_all all left x y e h = subst (λ Js. MoreOf Js x y) (doors_all (λ (d : DoorIs). d.life) all h.before left e h.all_is) h.seats
