-- What a run leaves when its workers left their posts.
use Rattle.std.proofs.Common.{◌≡◌, ℕ, suc, ◌+◌, List, [], ◌∷◌, ◌++◌, length, map, refl, sym, ap, ◌∙◌, subst}
use Rattle.std.proofs.lemmas.List.{length-map}
use Rattle.std.specs.Prelude.{Some, None}
use Rattle.atomic_table.specs.Seated.{TableId}
use Rattle.turn_lock.specs.BoardSeats.{AllAt, IsFresh}
use Rattle.turn_lock.specs.BoardSeats.{SeatIs as Place}
use Rattle.okws_outer.specs.Conns.{ConnWire}
use Rattle.okws_outer.specs.Doors.{Entrance}
use Rattle.okws_base.specs.declared.journal.Entry.{Entry}
use Rattle.okws_plan.specs.declared.configuration.Config.{Config}
use Rattle.okws_plan.specs.declared.event.OkdEvent.{OkdEvent}
use Rattle.site_worker.specs.Lives.{Life}
use Rattle.site_worker.specs.declared.door.Attended.{Attended}
use Rattle.turn_lock.specs.Seats.{TurnIs}
use Rattle.site_run.specs.Places.{PlacesAre}
use Rattle.site_run.specs.Rows.{ChairsAre, WorksAs}
use Rattle.site_run.specs.Tied.{SeatsOf}
use Rattle.okws_serve.specs.declared.outfit.Ending.{Ending}
use Rattle.okws_serve.specs.Posts.{DoorIs, ConsoleIs, Concludes, WorksAt}
use Rattle.site_worker.specs.declared.console.Overseen.{Overseen}
use Rattle.site_worker.specs.declared.console.Overseen.TheVariants as overseen
use Rattle.okws_serve.specs.Manned.{AreManned, ArePosted, AllDone, AllWork, AllAttended, ConsoleDone, doors_of, lives_of}
use Rattle.okws_serve.specs.declared.post.Post.{Post}
use Rattle.okws_serve.specs.declared.post.Post.TheVariants.{Door, Console}
use Rattle.okws_serve.proofs.Running.{AllServed, all_back, attended_at, console_served, here_overseen, overseen_by, posted_many, works_many}

-- the posts of a run, once the console's is there
pub posted : (t : TurnIs) (z : TableId) (most : ℕ) (chairs : ChairsAre) (es : List Entrance) (w : ConnWire) (ps all : List (Post DoorIs ConsoleIs)) (c : ConsoleIs) (J : Life) (place : Place) (lines k : ℕ)
    → all ≡ ps ++ Console c ∷ [] → AreManned t z most 0 ps → map (λ (d : DoorIs). d.entrance) (doors_of ps) ≡ es → length ps ≡ length es
    → c ≡ record { wire = w; lines = lines; life = J; place = place; most = most; ended = None } → lines ≡ 0 → IsFresh z (length es) place → k ≡ length es → WorksAs t k J
    → SeatsOf (lives_of (doors_of ps) ++ J ∷ []) chairs → ArePosted t z most chairs es w all
posted t z most chairs es w ps all c J place lines k e h f m is first fresh q works seats = record {
  doors = ps;
  console = c;
  posts_are = e;
  manned = h;
  entrances_are = f;
  many = m;
  works = subst (λ L. WorksAs t (length es) L) (sym (ap (λ (x : ConsoleIs). x.life) is)) (subst (λ x. WorksAs t x J) q works);
  wire_is = ap (λ (x : ConsoleIs). x.wire) is;
  first = ap (λ (x : ConsoleIs). x.lines) is ∙ first;
  place_is = subst (IsFresh z (length es)) (sym (ap (λ (x : ConsoleIs). x.place) is)) fresh;
  most_is = ap (λ (x : ConsoleIs). x.most) is;
  none = ap (λ (x : ConsoleIs). x.ended) is;
  seats = subst (λ L. SeatsOf (lives_of (doors_of ps) ++ L ∷ []) chairs) (sym (ap (λ (x : ConsoleIs). x.life) is)) seats;
}

-- a post that is done is at a door
pub done_door : (q : Post DoorIs ConsoleIs) → AllDone (q ∷ []) → ((d : DoorIs) → q ≡ Door d → ⊥) → ⊥
done_door (Door d) h f = f d refl
done_door (Console c) h f = h

-- the last post is at the console
pub last_console : {X : Type 0} (wire : X → ConnWire) (C : Config) (n : ℕ) (c : ConsoleIs) (q : Post DoorIs ConsoleIs) → WorksAt wire C n (Console c) q → ((d : ConsoleIs) → q ≡ Console d → ⊥) → ⊥
last_console wire C n c (Door d) w f = w
last_console wire C n c (Console d) w f = f d refl

-- there is a last one
pub some_posts : {X : Type 0} (wire : X → ConnWire) (C : Config) (n : ℕ) (t : TurnIs) (z : TableId) (most : ℕ) (chairs : ChairsAre) (es : List Entrance) (w : ConnWire) (before after : List (Post DoorIs ConsoleIs))
    → ArePosted t z most chairs es w before → AllWork wire C n before after → length after ≡ suc (length es)
some_posts wire C n t z most chairs es w before after h work = works_many wire C n before after work ∙ posted_many t z most chairs es w before h

-- as many doors as were attended
pub attended_same : {X : Type 0} (wire : X → ConnWire) (C : Config) (n : ℕ) (z : TableId) (most k : ℕ) (ds : List DoorIs) (as' : List Attended) (es : List DoorIs) → AllAttended wire C n z most k ds as' es → length es ≡ length ds
attended_same wire C n z most k [] [] [] h = refl
attended_same wire C n z most k [] [] (e ∷ es) h = absurd h
attended_same wire C n z most k [] (a ∷ as') es h = absurd h
attended_same wire C n z most k (d ∷ ds) [] es h = absurd h
attended_same wire C n z most k (d ∷ ds) (a ∷ as') [] h = absurd h
attended_same wire C n z most k (d ∷ ds) (a ∷ as') (e ∷ es) h = ap suc (attended_same wire C n z most (suc k) ds as' es h.3)

-- the doors and their places are there as before
pub places_back : {X : Type 0} (wire : X → ConnWire) (C : Config) (n : ℕ) (t : TurnIs) (z : TableId) (most : ℕ) (entries : List (Entry OkdEvent)) (es : List Entrance) (w : ConnWire) (qs : List (Post DoorIs ConsoleIs)) (q : Post DoorIs ConsoleIs) (new : PlacesAre)
    → AllServed wire C n t z most entries es w qs q → new.entrances ≡ map (λ (d : DoorIs). d.entrance) (doors_of qs) → new.places ≡ map (λ (d : DoorIs). d.place) (doors_of qs)
    → (length new.entrances ≡ length es) × (length new.places ≡ length es) × AllAt z new.places
places_back wire C n t z most entries es w qs q new h e f =
    let a = attended_same wire C n z most 0 (doors_of h.doors) _ (doors_of qs) h.done.attended in
    let m : length (doors_of h.doors) ≡ length es = sym (length-map (doors_of h.doors) (λ (d : DoorIs). d.entrance)) ∙ ap length h.entrances_are in (
      ap length e ∙ (length-map (doors_of qs) (λ (d : DoorIs). d.entrance) ∙ (a ∙ m)),
      ap length f ∙ (length-map (doors_of qs) (λ (d : DoorIs). d.place) ∙ (a ∙ m)),
      subst (AllAt z) (sym f) (attended_at wire C n z most 0 (doors_of h.doors) _ (doors_of qs) h.done.attended),
    )

-- the console's worker is the same
pub overseer_back : {X : Type 0} (wire : X → ConnWire) (C : Config) (n : ℕ) (t : TurnIs) (z : TableId) (most : ℕ) (entries : List (Entry OkdEvent)) (es : List Entrance) (w : ConnWire) (qs : List (Post DoorIs ConsoleIs)) (q : Post DoorIs ConsoleIs) (d : ConsoleIs) (k : ℕ)
    → AllServed wire C n t z most entries es w qs q → q ≡ Console d → k ≡ length es → WorksAs t k d.life
overseer_back wire C n t z most entries es w qs q d k h e m =
    subst (λ x. WorksAs t x d.life) (sym m) (all_back C t (length es) h.console d h.none (here_overseen wire C n h.console q d h.overseen e) h.works)

-- and the console was served
pub console_back : {X : Type 0} (wire : X → ConnWire) (C : Config) (n : ℕ) (t : TurnIs) (z : TableId) (most : ℕ) (entries : List (Entry OkdEvent)) (es : List Entrance) (w x : ConnWire) (qs : List (Post DoorIs ConsoleIs)) (q : Post DoorIs ConsoleIs) (d : ConsoleIs) (place : Place) (e : Ending)
    → AllServed wire C n t z most entries es w qs q → q ≡ Console d → d.ended ≡ Some e → x ≡ d.wire → place ≡ d.place → ConsoleDone C n (length es) z most d.life w x place e
console_back wire C n t z most entries es w x qs q d place e h is s f p =
    subst (λ (y : Place). ConsoleDone C n (length es) z most d.life w x y e) (sym p)
    (console_served C n (length es) z most h.console.ended h.console d e w x h.begins h.place_is h.most_is h.none (here_overseen wire C n h.console q d h.overseen is) s h.wire_is (sym f) h.first)

-- the console's seat is at the board as before
pub place_at : {X : Type 0} (wire : X → ConnWire) (C : Config) (n : ℕ) (t : TurnIs) (z : TableId) (most : ℕ) (entries : List (Entry OkdEvent)) (es : List Entrance) (w : ConnWire) (qs : List (Post DoorIs ConsoleIs)) (q : Post DoorIs ConsoleIs) (d : ConsoleIs)
    → AllServed wire C n t z most entries es w qs q → q ≡ Console d → d.place.board ≡ z
place_at wire C n t z most entries es w qs q d h is =
    let b = overseen_by C h.console.ended h.console d h.none (here_overseen wire C n h.console q d h.overseen is) in
    board_same h.console.most b.1.how b.1.mid d.wire h.console.place d.place b.0 b.1.concludes ∙ h.place_is.board
  where
    board_same : (most : ℕ) (how : Overseen) (mid new : ConnWire) (place last : Place) (e : Ending) → Concludes most how mid new place last e → last.board ≡ place.board
    board_same most overseen.Finished mid new place last e c = ap (λ (p : Place). p.board) c.1
    board_same most overseen.ConsoleFault mid new place last e c = ap (λ (p : Place). p.board) c.1
    board_same most overseen.Stop mid new place last e c = ap (λ (p : Place). p.board) c.1
