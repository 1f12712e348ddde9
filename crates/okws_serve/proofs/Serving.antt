-- How many connections were begun at all doors of a run.
use Rattle.std.proofs.Common.{◌≡◌, ℕ, suc, ◌+◌, ◌<◌, ◌≤◌, ◌-◌, min, Bool, true, false, ◌||◌, List, [], ◌∷◌, ◌++◌, length, map, refl, sym, ap, ◌∙◌, subst, arith, rules, append-nil}
use Rattle.std.proofs.lemmas.Bool.{true≢false}
use Rattle.std.specs.Prelude.{Some, None, slice_index}
use Rattle.turn_lock.specs.Board.{drawn_by, from_on, most_drawn}
use Rattle.turn_lock.proofs.BoardLists.{up_to-at}
use Rattle.turn_lock.specs.BoardSeats.{IsFresh}
use Rattle.turn_lock.specs.BoardSeats.{SeatIs as Place}
use Rattle.atomic_table.specs.Seated.{TableId}
use Rattle.okws_outer.specs.Conns.{ConnWire}
use Rattle.okws_outer.specs.Doors.{Entrance}
use Rattle.okws_plan.specs.declared.configuration.Config.{Config}
use Rattle.monitor_model.specs.declared.record.Record.{Record}
use Rattle.http_front.specs.declared.kept.Kept.{Kept}
use Rattle.http_front.specs.Replies.{Replied}
use Rattle.door_worker.specs.Serving.{Serves}
use Rattle.door_worker.specs.declared.serving.Serving.{Serving}
use Rattle.door_worker.specs.declared.serving.Serving.TheVariants as serving
use Rattle.site_worker.specs.Handling.{Handles}
use Rattle.site_worker.specs.Lives.{Life, Starves}
use Rattle.site_worker.specs.Rounds.{Attends, Rounds, IsLast, WhereAwaited, is_starved}
use Rattle.site_worker.specs.declared.console.Overseen.{Overseen}
use Rattle.site_worker.specs.declared.console.Overseen.TheVariants as overseen
use Rattle.site_worker.specs.declared.door.TheConstants.{STOPPED}
use Rattle.site_worker.specs.declared.door.Attended.{Attended}
use Rattle.site_run.specs.Places.{PlacesAre}
use Rattle.site_run.specs.Tied.{AllBegin, AllEnd, LifeEnds}
use Rattle.site_run.specs.Whole.{AllDrewAt, AllSawAt, AllDrawn}
use Rattle.okws_serve.specs.Doors.{Tally, TalliesAt, AllTally, AllAttend, AllDraw, connections_of, begun_of, awaited_of, total, until, any_starved, GoesOut, ServesConsole, ServesDoors}
use Rattle.okws_serve.specs.Posts.{DoorIs, AttendedBy, Concludes}
use Rattle.okws_serve.specs.declared.outfit.Ending.{Ending}
use Rattle.okws_serve.specs.Manned.{AllAttended, ConsoleDone, DoorsDone, lives_of, served_of}
use Rattle.okws_serve.proofs.Spent.{oversees_spent}
use Rattle.okws_serve.proofs.Surveyed.{oversees_surveyed, past_ended}
use Rattle.okws_serve.proofs.Finishing.{attended_same}
use Rattle.okws_serve.proofs.Tallying.{Tallied, none_tallied, whole_tallied, cut_tallied, missed_tallied, awaited_tallied, finished_many, as_finished, some_fault}
use Rattle.okws_serve.proofs.Counting.{one_below, below, below-all, below-from, one-below, none-below, sum_below, sum-all, sum-last, last-below}

module _ {X : Type 0} (wire : X → ConnWire) (C : Config) (n seen : ℕ) where
  -- what one turn at the door adds
  turn_tallied : (m : ℕ) (e g f : Entrance) (J K : Life) (kept : Kept) (reply : Replied) (what : Serving) → is_starved what ≡ false → Serves wire (Handles C n) Starves g f J K kept reply what → WhereAwaited what (0 < seen)
      → Tallied seen m e g → Tallied seen (suc m) e f
  turn_tallied m e g f J K kept reply (serving.Served a) turn s w t =
      let h = s.finishes.finished in
      whole_tallied seen m e g f (as_finished s.begun s.ended) (s.attends.told.1 ∙ s.finishes.accepted.faults) (ap (λ (x : Entrance). x.finished) h) (ap (λ (x : Entrance). x.faults) h) t
  turn_tallied m e g f J K kept reply (serving.ConnFault a) turn s w t =
      let h = s.finishes.finished in
      cut_tallied seen m e g f (as_finished s.begun s.ended) (some_fault s.begun.faults s.ended.faults s.finishes.accepted.faults s.attends.told.1) (ap (λ (x : Entrance). x.finished) h) (ap (λ (x : Entrance). x.faults) h) t
  turn_tallied m e g f J K kept reply serving.NoConn turn s w t =
      missed_tallied seen m e g f (ap (λ (x : Entrance). x.finished) s.0.kept) s.0.rose t
  turn_tallied m e g f J K kept reply serving.NoneCame turn s w t = awaited_tallied seen m e g f s.0 w t
  turn_tallied m e g f J K kept reply serving.NoMemory turn s w t = absurd (true≢false turn)

  -- what rounds with these numbers add
  rounds_tallied : (numbers : List ℕ) (e f : Entrance) (J K : Life) → Rounds wire C n seen numbers e f J K → Tallied seen (length numbers) e f
  rounds_tallied [] e f J K r = none_tallied seen e f r.0
  rounds_tallied (number ∷ numbers) e f J K r =
      let g = r.0 in let M = r.1 in let round = r.5 in
      turn_tallied (length numbers) e g f M round.mid round.kept round.reply r.3 r.4 round.serves r.6 (rounds_tallied numbers e g J M r.2)

-- the number for which memory was refused
abbrev pub starved_of : Bool → ℕ
starved_of true = 1
starved_of false = 0

-- the last number is below the limit just where memory was refused for it
last_counts : (starved : Bool) (most last : ℕ) → IsLast starved most last → one_below most last ≡ starved_of starved
last_counts true most last l = one-below most last l
last_counts false most last l = none-below most last l

-- what was done at one door
pub record DoorTallied (most seen : ℕ) (e f : Entrance) (drawn : List ℕ) (a : Attended) : Type 0 where
  pub tally : Tally
  pub at : TalliesAt tally e f
  pub served : connections_of tally ≡ a.connections
  pub begun : below most drawn ≡ begun_of tally + starved_of a.starved
  pub cause : seen ≡ 0 → awaited_of tally ≡ 0
  pub past : a.starved ≡ false → (last : ℕ) × (rest : List ℕ) × (drawn ≡ last ∷ rest) × (most ≤ last)

past_of : (starved : Bool) (most last : ℕ) → IsLast starved most last → starved ≡ false → most ≤ last
past_of true most last l e = absurd (search rules)
past_of false most last l e = l

pub door_tallied : {X : Type 0} (wire : X → ConnWire) (C : Config) (n most seen : ℕ) (e f : Entrance) (J K : Life) (drawn : List ℕ) (a : Attended) → Attends wire C n most seen e f J K [] drawn a → DoorTallied most seen e f drawn a
door_tallied wire C n most seen e f J K drawn a h =
    let t = rounds_tallied wire C n seen h.numbers e f J K h.rounds in
    let d : drawn ≡ h.last ∷ h.numbers = h.drew ∙ ap (λ xs. h.last ∷ xs) (append-nil h.numbers) in
    let u = below-all most h.numbers h.under in
    let l = last_counts a.starved most h.last h.ends in
    let b = t.begun in
    let c = h.connections in let g = finished_many t.tally e f t.at in
    record {
      tally = t.tally;
      at = t.at;
      served = omega arith;
      begun = rw d (omega arith);
      cause = t.cause;
      past = λ q. (h.last, h.numbers, d, past_of a.starved most h.last h.ends q);
    }

-- how many workers memory was refused to
abbrev pub starved_in : List Attended → ℕ
starved_in [] = 0
starved_in (a ∷ as') = starved_of a.starved + starved_in as'

-- neither is true
first_false : (a b : Bool) → (a || b) ≡ false → a ≡ false
first_false true b e = e
first_false false b e = refl

none_more : (a b : Bool) (m : ℕ) → (a || b) ≡ false → (b ≡ false → m ≡ 0) → starved_of a + m ≡ 0
none_more true b m e f = absurd (search rules)
none_more false b m e f = let h = f e in omega arith

-- memory was refused to none
none_starved : (as' : List Attended) → any_starved as' ≡ false → starved_in as' ≡ 0
none_starved [] e = refl
none_starved (a ∷ as') e = none_more a.starved (any_starved as') (starved_in as') e (none_starved as')

-- connections are among all that was begun
total_less : (ts : List Tally) → total connections_of ts ≤ total begun_of ts
total_less [] = omega arith
total_less (t ∷ ts) = let h = total_less ts in omega arith

map_length : {A B : Type 0} (f : A → B) (xs : List A) → length (map f xs) ≡ length xs
map_length f [] = refl
map_length f (x ∷ xs) = ap suc (map_length f xs)

-- what was done at all doors, whose workers have numbers that rise by one from k
pub record AllTallied {X : Type 0} (wire : X → ConnWire) (C : Config) (n most : ℕ) (R : Record) (ended : ℕ → ℕ → Bool) (hand : ℕ → ℕ) (count k : ℕ) (olds news : List Entrance) (as' : List Attended) (calm : Type 0) : Type 0 where
  pub tallies : List Tally
  pub tallied : AllTally tallies olds news
  pub attend : AllAttend wire C n most R ended k olds news as'
  pub drew : AllDraw wire C n most R ended hand count k olds news as' attend
  pub served : total connections_of tallies ≡ served_of as'
  pub begun : sum_below most hand count k (length as') ≡ total begun_of tallies + starved_in as'
  pub cause : calm → total awaited_of tallies ≡ 0

-- none of these workers has seen a stop
abbrev AllCalm : List DoorIs → Type 0
AllCalm [] = Unit {0}
AllCalm (e ∷ es) = (slice_index e.place.seen STOPPED ≡ 0) × AllCalm es

-- where none was shown
all_calm : (greatest : List ℕ) (es : List DoorIs) → slice_index greatest STOPPED ≡ 0 → AllSawAt greatest (map (λ (d : DoorIs). d.place) es) → AllCalm es
all_calm greatest [] none h = tt
all_calm greatest (e ∷ es) none h = ((let l = up_to-at e.place.seen greatest STOPPED h.0 in omega (arith, l, none)), all_calm greatest es none h.1)

module _ {X : Type 0} (wire : X → ConnWire) (C : Config) (n : ℕ) (z : TableId) (most : ℕ) (hand : ℕ → ℕ) (count : ℕ) where
  -- the door of one worker
  one_tallied : (k : ℕ) (d : DoorIs) (a : Attended) (e : DoorIs) → IsFresh z k d.place → d.most ≡ most → AttendedBy wire C n d a e
      → Attends wire C n most (slice_index e.place.seen STOPPED) d.entrance e.entrance d.life e.life [] e.place.drawn a
  one_tallied k d a e f l b = subst (λ m. Attends wire C n m (slice_index e.place.seen STOPPED) d.entrance e.entrance d.life e.life [] e.place.drawn a) l
      (subst (λ xs. Attends wire C n d.most (slice_index e.place.seen STOPPED) d.entrance e.entrance d.life e.life xs e.place.drawn a) f.drawn b.attends)

  pub all_tallied : (R : Record) (ended : ℕ → ℕ → Bool) (k : ℕ) (ds : List DoorIs) (as' : List Attended) (es : List DoorIs) → AllAttended wire C n z most k ds as' es → AllDrewAt hand count (map (λ (d : DoorIs). d.place) es)
      → AllBegin C n k (lives_of ds) → AllEnd n k (lives_of es) R ended → AllTallied wire C n most R ended hand count k (map (λ (d : DoorIs). d.entrance) ds) (map (λ (d : DoorIs). d.entrance) es) as' (AllCalm es)
  all_tallied R ended k [] [] [] h w begin end = record { tallies = []; tallied = tt; attend = tt; drew = tt; served = refl; begun = refl; cause = λ _. refl }
  all_tallied R ended k [] [] (e ∷ es) h w begin end = absurd h
  all_tallied R ended k [] (a ∷ as') es h w begin end = absurd h
  all_tallied R ended k (d ∷ ds) [] es h w begin end = absurd h
  all_tallied R ended k (d ∷ ds) (a ∷ as') [] h w begin end = absurd h
  all_tallied R ended k (d ∷ ds) (a ∷ as') (e ∷ es) h w begin end =
      let rest = all_tallied R ended (suc k) ds as' es h.3 w.1 begin.1 end.1 in
      let attends = one_tallied k d a e h.0 h.1 h.2 in
      let t = door_tallied wire C n most (slice_index e.place.seen STOPPED) d.entrance e.entrance d.life e.life e.place.drawn a attends in
      let number : e.place.number ≡ k = ap (λ (p : Place). p.number) h.2.place_is ∙ h.0.number_is in
      let drawn : e.place.drawn ≡ drawn_by hand k count = w.0 ∙ ap (λ m. drawn_by hand m count) number in
      let b : below most (drawn_by hand k count) ≡ begun_of t.tally + starved_of a.starved = subst (λ xs. below most xs ≡ begun_of t.tally + starved_of a.starved) drawn t.begun in
      let s = t.served in let r = rest.served in let q = rest.begun in
      record {
        tallies = t.tally ∷ rest.tallies;
        tallied = (t.at, rest.tallied);
        attend = (record { before = d.life; after = e.life; drawn = e.place.drawn; seen = slice_index e.place.seen STOPPED; begins = begin.0; attends = attends; left = end.0 }, rest.attend);
        drew = (drawn, rest.drew);
        served = omega arith;
        begun = omega arith;
        cause = λ calm. let a = t.cause calm.0 in let b = rest.cause calm.1 in omega (arith, a, b);
      }

  -- the first worker drew a number from the limit on, where memory was refused to none
  pub first_past : (k : ℕ) (ds : List DoorIs) (as' : List Attended) (es : List DoorIs) → 0 < length as' → AllAttended wire C n z most k ds as' es → AllDrewAt hand count (map (λ (d : DoorIs). d.place) es)
      → any_starved as' ≡ false → most < count
  first_past k [] [] [] p h w s = absurd (omega arith)
  first_past k [] [] (e ∷ es) p h w s = absurd h
  first_past k [] (a ∷ as') es p h w s = absurd h
  first_past k (d ∷ ds) [] es p h w s = absurd h
  first_past k (d ∷ ds) (a ∷ as') [] p h w s = absurd h
  first_past k (d ∷ ds) (a ∷ as') (e ∷ es) p h w s =
      let t = door_tallied wire C n most (slice_index e.place.seen STOPPED) d.entrance e.entrance d.life e.life e.place.drawn a (one_tallied k d a e h.0 h.1 h.2) in
      let q = t.past (first_false a.starved (any_starved as') s) in
      let l = last-below hand e.place.number count q.0 q.1 (sym w.0 ∙ q.2) in
      let m = q.3 in omega arith

-- a worker attended each door
attended_many : {X : Type 0} (wire : X → ConnWire) (C : Config) (n : ℕ) (z : TableId) (most k : ℕ) (ds : List DoorIs) (as' : List Attended) (es : List DoorIs) → AllAttended wire C n z most k ds as' es → length as' ≡ length es
attended_many wire C n z most k [] [] [] h = refl
attended_many wire C n z most k [] [] (e ∷ es) h = absurd h
attended_many wire C n z most k [] (a ∷ as') es h = absurd h
attended_many wire C n z most k (d ∷ ds) [] es h = absurd h
attended_many wire C n z most k (d ∷ ds) (a ∷ as') [] h = absurd h
attended_many wire C n z most k (d ∷ ds) (a ∷ as') (e ∷ es) h = let m = attended_many wire C n z most (suc k) ds as' es h.3 in omega arith

-- what was drawn from the console's seat, and what it has seen
record LastDid (most number : ℕ) (last : Place) (e : Ending) : Type 0 where
  number_is : last.number ≡ number
  drew : below most last.drawn ≡ most - until most e.stopped
  few : until most e.stopped ≤ most
  calm : e.stopped ≡ None → slice_index last.seen STOPPED ≡ 0

none_did : (most number : ℕ) (z : TableId) (place last : Place) (e : Ending) → IsFresh z number place → last ≡ place → e.stopped ≡ None → LastDid most number last e
none_did most number z place last e f same none =
    let nothing : below most last.drawn ≡ 0 = ap (λ (p : Place). below most p.drawn) same ∙ ap (below most) f.drawn in
    let rest : 0 ≡ most - most = omega arith in
    record {
      number_is = ap (λ (p : Place). p.number) same ∙ f.number_is;
      drew = nothing ∙ (rest ∙ ap (λ o. most - until most o) (sym none));
      few = subst (λ o. until most o ≤ most) (sym none) (omega arith);
      calm = λ _. ap (λ (p : Place). slice_index p.seen STOPPED) same ∙ ap (λ (l : List ℕ). slice_index l STOPPED) f.seen;
    }

some_none : {A : Type 0} (x : A) → Some x ≡ None → ⊥
some_none x e = cc

last_did : (most number : ℕ) (z : TableId) (how : Overseen) (mid new : ConnWire) (place last : Place) (e : Ending) → most ≤ most_drawn → IsFresh z number place → Concludes most how mid new place last e → LastDid most number last e
last_did most number z overseen.Finished mid new place last e few f c = none_did most number z place last e f c.1 c.2
last_did most number z overseen.ConsoleFault mid new place last e few f c = none_did most number z place last e f c.1 c.2
last_did most number z overseen.Stop mid new place last e few f c =
    let first = c.0 in
    let drawn : last.drawn ≡ from_on first most_drawn = ap (λ (p : Place). p.drawn) c.1 ∙ (ap (λ (l : List ℕ). from_on first most_drawn ++ l) f.drawn ∙ append-nil (from_on first most_drawn)) in
    let many : below most (from_on first most_drawn) ≡ min most most_drawn - first = below-from most first most_drawn in
    let left : min most most_drawn - first ≡ most - min (min first most) most = omega (arith, few) in
    record {
      number_is = ap (λ (p : Place). p.number) c.1 ∙ f.number_is;
      drew = ap (below most) drawn ∙ (many ∙ (left ∙ ap (λ o. most - until most o) (sym c.2)));
      few = subst (λ o. until most o ≤ most) (sym c.2) (omega arith);
      calm = λ none. absurd (some_none (min first most) (sym c.2 ∙ none));
    }

-- the doors of a run were served, where all numbers were drawn from their workers' seats and the console's
pub serves_doors : {X : Type 0} (wire : X → ConnWire) (C : Config) (n : ℕ) (z : TableId) (most many : ℕ) (R : Record) (ended : ℕ → ℕ → Bool) (lives : List Life) (old new : PlacesAre) (connections : ℕ) (starved : Bool) (life : Life) (x y : ConnWire) (last : Place) (e : Ending)
    → most ≤ most_drawn → 0 < many → length new.entrances ≡ many → AllDrawn (many + 1) new.places last → DoorsDone wire C n z most lives old new connections starved → AllEnd n 0 lives R ended
    → ConsoleDone C n many z most life x y last e → ServesDoors wire C n most R ended old.entrances new.entrances connections starved e.stopped
serves_doors wire C n z most many R ended lives old new connections starved life x y last e few some l w d end console =
    let places = λ (x : DoorIs). x.place in
    let did = last_did most many z console.how console.mid y console.place last e few console.place_is console.concludes in
    let drew : AllDrewAt w.hand w.count (map (λ (x : DoorIs). x.place) d.after) = subst (AllDrewAt w.hand w.count) d.places_are w.drew in
    let saw : AllSawAt w.greatest (map (λ (x : DoorIs). x.place) d.after) = subst (AllSawAt w.greatest) d.places_are w.saw in
    let t = all_tallied wire C n z most w.hand w.count R ended 0 d.before d.attended d.after d.each drew d.begin (subst (λ Js. AllEnd n 0 Js R ended) d.lives_are end) in
    let m : length d.attended ≡ many = attended_many wire C n z most 0 d.before d.attended d.after d.each ∙ (sym (map_length (λ (x : DoorIs). x.entrance) d.after) ∙ (sym (ap length d.new_is) ∙ l)) in
    let all : sum_below most w.hand w.count 0 (many + 1) ≡ min most w.count = sum-all most w.hand (many + 1) w.count w.seated in
    let next : sum_below most w.hand w.count 0 (suc many) ≡ sum_below most w.hand w.count 0 many + below most (drawn_by w.hand (0 + many) w.count) = sum-last most w.hand w.count 0 many in
    let same : sum_below most w.hand w.count 0 (suc many) ≡ sum_below most w.hand w.count 0 (many + 1) = ap (sum_below most w.hand w.count 0) (let q : suc many ≡ many + 1 = omega arith in q) in
    let drawn : drawn_by w.hand (0 + many) w.count ≡ last.drawn = ap (λ k. drawn_by w.hand k w.count) (let q = did.number_is in let r : 0 + many ≡ last.number = omega arith in r) ∙ sym w.drew_last in
    let others : below most (drawn_by w.hand (0 + many) w.count) ≡ most - until most e.stopped = ap (below most) drawn ∙ did.drew in
    let s : sum_below most w.hand w.count 0 (length d.attended) ≡ sum_below most w.hand w.count 0 many = ap (sum_below most w.hand w.count 0) m in
    let u = did.few in
    let both : (h : AllAttend wire C n most R ended 0 old.entrances new.entrances d.attended) × AllDraw wire C n most R ended w.hand w.count 0 old.entrances new.entrances d.attended h
    = subst (λ x. (h : AllAttend wire C n most R ended 0 x new.entrances d.attended) × AllDraw wire C n most R ended w.hand w.count 0 x new.entrances d.attended h) (sym d.old_is)
    (subst (λ x. (h : AllAttend wire C n most R ended 0 (map (λ (y : DoorIs). y.entrance) d.before) x d.attended) × AllDraw wire C n most R ended w.hand w.count 0 (map (λ (y : DoorIs). y.entrance) d.before) x d.attended h) (sym d.new_is) (t.attend, t.drew)) in
    let past : any_starved d.attended ≡ false → most < w.count = first_past wire C n z most w.hand w.count 0 d.before d.attended d.after (omega arith) d.each drew in
    let b = t.begun in
    let c = t.served in
    let f = d.connections_are in
    record {
      attended = d.attended;
      attend = both.0;
      hand = w.hand;
      count = w.count;
      drew = both.1;
      seated = λ k below. let q = w.seated k below in omega (arith, q, l);
      past = λ f. past (sym d.starved_is ∙ f);
      starved_is = d.starved_is;
      tallies = t.tallies;
      tallied = subst (λ x. AllTally t.tallies x new.entrances) (sym d.old_is) (subst (λ x. AllTally t.tallies (map (λ (y : DoorIs). y.entrance) d.before) x) (sym d.new_is) t.tallied);
      at_most = omega (arith, all, next, same, others, s, u, b);
      at_least = λ f.
          let g : any_starved d.attended ≡ false = sym d.starved_is ∙ f in
          let h = none_starved d.attended g in
          let p = past g in
          omega (arith, all, next, same, others, s, u, b, h, p);
      unstopped = λ none.
          let seen : last.seen ≡ w.greatest = w.saw_last (let q = did.number_is in omega arith) in
          let calm : slice_index w.greatest STOPPED ≡ 0 = ap (λ (l : List ℕ). slice_index l STOPPED) (sym seen) ∙ did.calm none in
          t.cause (all_calm w.greatest d.after calm saw);
      connections_are = let q = total_less t.tallies in omega (arith, all, next, same, s, b, c, f, few);
    }

-- there is a life for each door
pub lives_many : {X : Type 0} (wire : X → ConnWire) (C : Config) (n : ℕ) (z : TableId) (most : ℕ) (lives : List Life) (old new : PlacesAre) (connections : ℕ) (starved : Bool)
    → DoorsDone wire C n z most lives old new connections starved → length lives ≡ length old.entrances
lives_many wire C n z most lives old new connections starved d =
    ap length d.lives_are ∙ (map_length (λ (x : DoorIs). x.life) d.after ∙ (attended_same wire C n z most 0 d.before d.attended d.after d.each
    ∙ (sym (map_length (λ (x : DoorIs). x.entrance) d.before) ∙ ap length (sym d.old_is))))

-- how the console went on
goes_out : (most : ℕ) (how : Overseen) (mid new : ConnWire) (place last : Place) (e : Ending) → Concludes most how mid new place last e → GoesOut how mid new e
goes_out most overseen.Finished mid new place last e c = (c.0, c.2, c.3)
goes_out most overseen.ConsoleFault mid new place last e c = (c.0, c.2, c.3)
goes_out most overseen.Stop mid new place last e c = (min c.0 most, c.2, c.3, c.4, c.5)

-- the console was served, by a worker whose life ended in the record
pub console_ends : (C : Config) (n : ℕ) (R : Record) (ended : ℕ → ℕ → Bool) (w : ℕ) (z : TableId) (most : ℕ) (life : Life) (old new : ConnWire) (last : Place) (e : Ending) → ConsoleDone C n w z most life old new last e → LifeEnds n w life R ended → ServesConsole C n R ended w old new e
console_ends C n R ended w z most life old new last e d end = record {
  lines = d.lines;
  before = d.before;
  after = life;
  mid = d.mid;
  how = d.how;
  begins = d.begins;
  oversees = d.oversees;
  goes_out = goes_out most d.how d.mid new d.place last e d.concludes;
  left = end;
  spent = oversees_spent C R w old d.mid 0 d.lines d.before life d.how d.oversees end.pubd;
  surveyed = oversees_surveyed C R old d.mid 0 d.lines d.before life d.how d.oversees (past_ended n w life R ended end);
}

-- there are as many doors as before
pub doors_alike : {X : Type 0} (wire : X → ConnWire) (C : Config) (n : ℕ) (z : TableId) (most : ℕ) (lives : List Life) (old new : PlacesAre) (connections : ℕ) (starved : Bool)
    → DoorsDone wire C n z most lives old new connections starved → length old.entrances ≡ length new.entrances
doors_alike wire C n z most lives old new connections starved d =
    ap length d.old_is ∙ (map_length (λ (x : DoorIs). x.entrance) d.before ∙ (sym (attended_same wire C n z most 0 d.before d.attended d.after d.each)
    ∙ (sym (map_length (λ (x : DoorIs). x.entrance) d.after) ∙ ap length (sym d.new_is))))
