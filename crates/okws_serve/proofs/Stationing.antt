-- Workers that are put to doors, one after the other.
use Rattle.std.proofs.Common.{◌≡◌, ℕ, suc, List, [], ◌∷◌, ◌++◌, length, map, sym, ap, ◌∙◌, subst}
use Rattle.std.specs.Prelude.{None}
use Rattle.atomic_table.specs.Seated.{TableId}
use Rattle.turn_lock.specs.BoardSeats.{SeatIs as Place}
use Rattle.turn_lock.specs.BoardSeats.{IsFresh}
use Rattle.okws_outer.specs.Doors.{Entrance}
use Rattle.site_worker.specs.Lives.{Life}
use Rattle.turn_lock.specs.Seats.{TurnIs}
use Rattle.site_run.specs.Places.{PlacesAre, Placed}
use Rattle.site_run.specs.Rows.{ChairsAre, WorksAs}
use Rattle.site_run.specs.Tied.{MoreOf}
use Rattle.site_run.proofs.Seating.{push_length}
use Rattle.site_run.proofs.Tying.{more_then}
use Rattle.okws_serve.specs.Posts.{DoorIs, ConsoleIs}
use Rattle.okws_serve.specs.Manned.{IsManned, AreManned, doors_of, lives_of}
use Rattle.okws_serve.specs.declared.post.Post.{Post}
use Rattle.okws_serve.specs.declared.post.Post.TheVariants.{Door}
use Rattle.okws_serve.proofs.Manned.{doors_push, entrances_next, manned_push}
use Rattle.okws_serve.proofs.Running.{placed_pop}

-- a worker is put to the last door of the row
pub manned_next : (t : TurnIs) (z : TableId) (most : ℕ) (x y : PlacesAre) (ps qs : List (Post DoorIs ConsoleIs)) (d : DoorIs) (e : Entrance) (p : Place) (J : Life) (k : ℕ)
    → x.entrances ≡ y.entrances ++ e ∷ [] → x.places ≡ y.places ++ p ∷ [] → Placed z x
    → d ≡ record { entrance = e; place = p; most = most; life = J; attended = None } → k ≡ length y.entrances → WorksAs t k J
    → AreManned t z most (length x.entrances) ps → qs ≡ ps ++ Door d ∷ [] → AreManned t z most (length y.entrances) qs
manned_next t z most x y ps qs d e p J k q r h is n w m s =
    let f = (placed_pop z x y e p q r h).2 in
    let more : length x.entrances ≡ suc (length y.entrances) = ap length q ∙ push_length y.entrances e in
    let one : IsManned t z most (length y.entrances) d = record {
      works = subst (λ L. WorksAs t (length y.entrances) L) (sym (ap (λ (v : DoorIs). v.life) is)) (subst (λ j. WorksAs t j J) n w);
      place_is = subst (IsFresh z (length y.entrances)) (sym (ap (λ (v : DoorIs). v.place) is)) f;
      most_is = ap (λ (v : DoorIs). v.most) is;
      none = ap (λ (v : DoorIs). v.attended) is;
    } in
    subst (AreManned t z most (length y.entrances)) (sym s) (manned_push t z most (length y.entrances) ps d (subst (λ j. AreManned t z most j ps) more m) one)

-- and the doors are those that there were
pub doors_next : (all : List Entrance) (x y : PlacesAre) (ps qs : List (Post DoorIs ConsoleIs)) (d : DoorIs) (e : Entrance)
    → x.entrances ≡ y.entrances ++ e ∷ [] → d.entrance ≡ e → all ≡ x.entrances ++ map (λ (v : DoorIs). v.entrance) (doors_of ps) → qs ≡ ps ++ Door d ∷ []
    → all ≡ y.entrances ++ map (λ (v : DoorIs). v.entrance) (doors_of qs)
doors_next all x y ps qs d e q is h s =
    let f = λ (v : DoorIs). v.entrance in
    subst (λ rs. all ≡ y.entrances ++ map f (doors_of rs)) (sym s)
    (entrances_next f all y.entrances ps d (h ∙ ap (λ es. es ++ map f (doors_of ps)) (q ∙ ap (λ v. y.entrances ++ v ∷ []) (sym is))))

-- and the seats that are left are those of the others
pub seats_next : (x y all : ChairsAre) (ps qs : List (Post DoorIs ConsoleIs)) (d : DoorIs) (J : Life) → d.life ≡ J → qs ≡ ps ++ Door d ∷ [] → MoreOf (J ∷ []) y x → MoreOf (lives_of (doors_of ps)) x all → MoreOf (lives_of (doors_of qs)) y all
seats_next x y all ps qs d J is s h i =
    subst (λ rs. MoreOf (lives_of (doors_of rs)) y all) (sym s)
    (subst (λ ds. MoreOf (lives_of ds) y all) (sym (doors_push ps d))
    (subst (λ L. MoreOf (L ∷ lives_of (doors_of ps)) y all) (sym is) (more_then (J ∷ []) (lives_of (doors_of ps)) y x all h i)))
