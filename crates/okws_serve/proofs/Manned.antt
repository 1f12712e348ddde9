-- Workers that are put to their posts, and what they do there.
use Rattle.std.proofs.Common.{◌≡◌, ℕ, suc, ◌+◌, ◌<◌, List, [], ◌∷◌, ◌++◌, length, map, refl, sym, ap, ◌∙◌, subst, arith, append_assoc}
use Rattle.std.specs.Prelude.{Some, IsSome, option_to_list, slice_index_or}
use Rattle.atomic_table.specs.Seated.{TableId}
use Rattle.turn_lock.specs.BoardSeats.{IsFresh}
use Rattle.okws_outer.specs.Conns.{ConnWire}
use Rattle.okws_plan.specs.declared.configuration.Config.{Config}
use Rattle.site_worker.specs.Lives.{Life, SameWorker}
use Rattle.site_worker.specs.declared.door.Attended.{Attended}
use Rattle.turn_lock.specs.Seats.{TurnIs}
use Rattle.site_run.specs.Rows.{WorksAs}
use Rattle.site_run.proofs.Seating.{push_length}
use Rattle.okws_serve.specs.Posts.{DoorIs, ConsoleIs, AttendedIf, AttendedBy, WorksAt}
use Rattle.okws_serve.specs.Manned.{IsManned, AreManned, AllDone, AreAt, AllWork, AllAttended, doors_of, attended_of}
use Rattle.okws_serve.specs.declared.post.Post.{Post}
use Rattle.okws_serve.specs.declared.post.Post.TheVariants.{Door, Console}

-- a door's post at the end is the first door
pub doors_push : (ps : List (Post DoorIs ConsoleIs)) (d : DoorIs) → doors_of (ps ++ Door d ∷ []) ≡ d ∷ doors_of ps
doors_push [] d = refl
doors_push (Door e ∷ ps) d = ap (λ ds. ds ++ e ∷ []) (doors_push ps d)
doors_push (Console c ∷ ps) d = doors_push ps d

-- of doors in a row, one that is taken from the end comes before the others
pub entrances_next : {A : Type 0} (f : DoorIs → A) (all left : List A) (ps : List (Post DoorIs ConsoleIs)) (d : DoorIs)
    → all ≡ (left ++ f d ∷ []) ++ map f (doors_of ps) → all ≡ left ++ map f (doors_of (ps ++ Door d ∷ []))
entrances_next f all left ps d e = e ∙ (append_assoc left (f d ∷ []) (map f (doors_of ps)) ∙ ap (λ ds. left ++ map f ds) (sym (doors_push ps d)))

module _ (t : TurnIs) (z : TableId) (most : ℕ) where
  -- a worker of the next lower number goes to the end
  pub manned_push : (k : ℕ) (ps : List (Post DoorIs ConsoleIs)) (d : DoorIs) → AreManned t z most (suc k) ps → IsManned t z most k d → AreManned t z most k (ps ++ Door d ∷ [])
  manned_push k [] d h i = (subst (λ x. IsManned t z most x d) (let e : k ≡ 0 + k = omega arith in e) i, tt)
  manned_push k (Door e ∷ ps) d h i =
      let n = push_length ps (Door d) in
      (subst (λ x. IsManned t z most x e) (let q : length ps + suc k ≡ length (ps ++ Door d ∷ []) + k = omega arith in q) h.0, manned_push k ps d h.1 i)
  manned_push k (Console c ∷ ps) d h i = absurd h

  -- posts at doors are as many as the doors
  pub manned_many : (k : ℕ) (ps : List (Post DoorIs ConsoleIs)) → AreManned t z most k ps → length (doors_of ps) ≡ length ps
  manned_many k [] h = refl
  manned_many k (Door d ∷ ps) h = let m = manned_many k ps h.1 in let n = push_length (doors_of ps) d in omega arith
  manned_many k (Console c ∷ ps) h = absurd h

-- a worker that is the same works as before
pub works_on : (t : TurnIs) (k : ℕ) (J K : Life) → SameWorker J K → WorksAs t k J → WorksAs t k K
works_on t k J K s w =
    let r = w.rests in
    record {
      number_is = s.number_is ∙ w.number_is;
      seat_number = ap (λ a. a.number) s.launcher_is ∙ w.seat_number;
      rests = record {
        lock = ap (λ a. a.lock) s.launcher_is ∙ r.lock;
        label_is = ap (λ a. a.label) s.launcher_is ∙ r.label_is;
        free = ap (λ a. a.held) s.launcher_is ∙ r.free;
      };
    }

-- doors that were attended, one after the other, and then one more
pub attended_push : {X : Type 0} (wire : X → ConnWire) (C : Config) (n : ℕ) (z : TableId) (most k m : ℕ) (ds : List DoorIs) (d : DoorIs) (as' : List Attended) (a : Attended) (es : List DoorIs) (e : DoorIs)
    → m ≡ length ds + k → AllAttended wire C n z most k ds as' es → IsFresh z m d.place → d.most ≡ most → AttendedBy wire C n d a e
    → AllAttended wire C n z most k (ds ++ d ∷ []) (as' ++ a ∷ []) (es ++ e ∷ [])
attended_push wire C n z most k m [] d [] a [] e q h f l b = (subst (λ x. IsFresh z x d.place) (let r : m ≡ k = omega arith in r) f, l, b, tt)
attended_push wire C n z most k m [] d [] a (y ∷ es) e q h f l b = absurd h
attended_push wire C n z most k m [] d (x ∷ as') a es e q h f l b = absurd h
attended_push wire C n z most k m (c ∷ ds) d [] a es e q h f l b = absurd h
attended_push wire C n z most k m (c ∷ ds) d (x ∷ as') a [] e q h f l b = absurd h
attended_push wire C n z most k m (c ∷ ds) d (x ∷ as') a (y ∷ es) e q h f l b =
    (h.0, h.1, h.2, attended_push wire C n z most (suc k) m ds d as' a es e (omega arith) h.3 f l b)

-- how a door was attended comes after the others
pub attended_last : (es : List DoorIs) (e : DoorIs) (a : Attended) → e.attended ≡ Some a → attended_of (es ++ e ∷ []) ≡ attended_of es ++ a ∷ []
attended_last [] e a q = rw q refl
attended_last (d ∷ es) e a q = ap (λ as'. option_to_list d.attended ++ as') (attended_last es e a q) ∙ sym (append_assoc (option_to_list d.attended) (attended_of es) (a ∷ []))

-- what the workers at the doors did, once all is done
pub record Done {X : Type 0} (wire : X → ConnWire) (C : Config) (n : ℕ) (t : TurnIs) (z : TableId) (most k : ℕ) (ps qs : List (Post DoorIs ConsoleIs)) : Type 0 where
  pub done : AllDone qs
  pub at : AreAt t k qs
  pub many : length qs ≡ length ps
  pub attended : AllAttended wire C n z most k (doors_of ps) (attended_of (doors_of qs)) (doors_of qs)

pub all_done : {X : Type 0} (wire : X → ConnWire) (C : Config) (n : ℕ) (t : TurnIs) (z : TableId) (most k : ℕ) (ps qs : List (Post DoorIs ConsoleIs))
    → AreManned t z most k ps → AllWork wire C n ps qs → Done wire C n t z most k ps qs
all_done wire C n t z most k [] [] h w = record { done = tt; at = tt; many = refl; attended = tt }
all_done wire C n t z most k [] (q ∷ qs) h w = absurd w
all_done wire C n t z most k (p ∷ ps) [] h w = absurd w
all_done wire C n t z most k (Console c ∷ ps) (q ∷ qs) h w = absurd h
all_done wire C n t z most k (Door d ∷ ps) (Console c ∷ qs) h w = absurd w.0
all_done wire C n t z most k (Door d ∷ ps) (Door e ∷ qs) h w =
    let rest = all_done wire C n t z most k ps qs h.1 w.1 in
    let i = h.0 in
    let b : (a : Attended) × AttendedBy wire C n d a e = subst (λ o. AttendedIf wire C n d o e) i.none w.0 in
    let m = rest.many in
    let l = manned_many t z most k ps h.1 in
    record {
      done = (subst IsSome (sym b.1.done) refl, rest.done);
      at = (subst (λ x. WorksAs t x e.life) (let q : length ps + k ≡ length qs + k = omega arith in q) (works_on t (length ps + k) d.life e.life b.1.same i.works), rest.at);
      many = omega arith;
      attended = subst (λ as'. AllAttended wire C n z most k (doors_of ps ++ d ∷ []) as' (doors_of qs ++ e ∷ [])) (sym (attended_last (doors_of qs) e b.0 b.1.done))
          (attended_push wire C n z most k (length ps + k) (doors_of ps) d (attended_of (doors_of qs)) b.0 (doors_of qs) e (omega arith) rest.attended i.place_is i.most_is b.1);
    }

-- the last post, of two rows of which each did its work
pub works_pop : {X : Type 0} (wire : X → ConnWire) (C : Config) (n : ℕ) (ps : List (Post DoorIs ConsoleIs)) (p : Post DoorIs ConsoleIs) (qs : List (Post DoorIs ConsoleIs)) (q : Post DoorIs ConsoleIs)
    → length qs ≡ length ps → AllWork wire C n (ps ++ p ∷ []) (qs ++ q ∷ []) → AllWork wire C n ps qs × WorksAt wire C n p q
works_pop wire C n [] p [] q e w = (tt, w.0)
works_pop wire C n [] p (r ∷ qs) q e w = absurd (omega arith)
works_pop wire C n (s ∷ ps) p [] q e w = absurd (omega arith)
works_pop wire C n (s ∷ ps) p (r ∷ qs) q e w = let h = works_pop wire C n ps p qs q (omega arith) w.1 in ((w.0, h.0), h.1)

-- what was done at each place of a row of posts
pub works_each : {X : Type 0} (wire : X → ConnWire) (C : Config) (n : ℕ) (ps qs : List (Post DoorIs ConsoleIs)) → length qs ≡ length ps
    → ((i : ℕ) (d : Post DoorIs ConsoleIs) → i < length ps → WorksAt wire C n (slice_index_or ps i d) (slice_index_or qs i d)) → AllWork wire C n ps qs
works_each wire C n [] [] e f = tt
works_each wire C n [] (q ∷ qs) e f = absurd (omega arith)
works_each wire C n (p ∷ ps) [] e f = absurd (omega arith)
works_each wire C n (p ∷ ps) (q ∷ qs) e f = (f 0 p (omega arith), works_each wire C n ps qs (omega arith) (λ i d l. f (suc i) d (omega arith)))
