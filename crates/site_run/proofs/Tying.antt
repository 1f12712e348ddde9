-- The seats of a run's workers and the lives that they are of.
use Rattle.std.proofs.Common.{◌≡◌, ℕ, zero, suc, ◌+◌, List, [], ◌∷◌, ◌++◌, map, set, get_or, refl, sym, ap, ◌∙◌, subst, arith, append_assoc, append-nil}
use Rattle.std.specs.Prelude.{Bool, length, replicate}
use Rattle.okws_base.specs.Turns.{of, up_to_own}
use Rattle.okws_base.specs.declared.journal.Entry.{Entry}
use Rattle.okws_plan.specs.declared.configuration.Config.{Config}
use Rattle.okws_plan.specs.declared.event.ProxyEvent.{ProxyEvent}
use Rattle.monitor_model.specs.declared.record.Own.{Own}
use Rattle.monitor_model.specs.declared.record.Record.{Record}
use Rattle.monitor_model.specs.Seen.{Seen}
use Rattle.monitor_model.specs.Worker.{nothing_seen}
use Rattle.okws_plan.specs.declared.event.OkdEvent.{OkdEvent}
use Rattle.named_columns.specs.Launched.{by_entry}
use Rattle.turn_lock.proofs.Grows.{own-foreign}
use Rattle.turn_lock.specs.Seats.{SeatIs}
use Rattle.site_cells.specs.Row.{CellsSeen}
use Rattle.site_locks.specs.Made.{fresh}
use Rattle.site_locks.specs.Sat.{Sat, seen_of}
use Rattle.site_worker.specs.Lives.{Life, life_of}
use Rattle.launch_turns.specs.declared.deed.Deed.{Deed}
use Rattle.site_run.specs.Rows.{ChairsAre}
use Rattle.site_run.specs.Tied.{IsSilent, IsWaitingChair, OnlyLaunches, AreUnused, AreWaiting, IsChairOf, AreChairsOf, SeatsOf, MoreOf, LifeBegins, AllBegin, LifeEnds, AllEnd}

-- ---- whose the seats are

-- a worker that was made of these seats
pub chair_of : (J : Life) (s : Sat) (c : CellsSeen) (a : SeatIs Deed) (shown : List (Entry OkdEvent)) → J ≡ life_of s c a shown → IsChairOf J s c a
chair_of J s c a shown e = record {
  seen_is = ap (λ (K : Life). K.seen) e;
  board_is = ap (λ (K : Life). K.board) e;
  okd_is = ap (λ (K : Life). K.okd) e;
  pubd_is = ap (λ (K : Life). K.pubd) e;
  oklogd_is = ap (λ (K : Life). K.oklogd) e;
  cells_is = ap (λ (K : Life). K.cells) e;
  launcher_is = ap (λ (K : Life). K.launcher) e;
}

-- the seats of one life behind others
pub more_one : (J : Life) (x y : ChairsAre) (s : Sat) (c : CellsSeen) (a : SeatIs Deed)
    → y.seats ≡ x.seats ++ s ∷ [] → y.cells ≡ x.cells ++ c ∷ [] → y.turns ≡ x.turns ++ a ∷ [] → IsChairOf J s c a → MoreOf (J ∷ []) x y
more_one J x y s c a p q r h = record { seats = s ∷ []; cells = c ∷ []; turns = a ∷ []; seats_are = p; cells_are = q; turns_are = r; whose = (h, tt) }

-- of no life
pub more_none : (x : ChairsAre) → MoreOf [] x x
more_none x = record {
  seats = [];
  cells = [];
  turns = [];
  seats_are = sym (append-nil x.seats);
  cells_are = sym (append-nil x.cells);
  turns_are = sym (append-nil x.turns);
  whose = tt;
}

chairs_append : (Js Ks : List Life) (ss ts : List Sat) (cs ds : List CellsSeen) (as' bs : List (SeatIs Deed))
    → AreChairsOf Js ss cs as' → AreChairsOf Ks ts ds bs → AreChairsOf (Js ++ Ks) (ss ++ ts) (cs ++ ds) (as' ++ bs)
chairs_append [] Ks [] ts [] ds [] bs h i = i
chairs_append [] Ks [] ts [] ds (a ∷ as') bs h i = absurd h
chairs_append [] Ks [] ts (c ∷ cs) ds as' bs h i = absurd h
chairs_append [] Ks (s ∷ ss) ts cs ds as' bs h i = absurd h
chairs_append (J ∷ Js) Ks [] ts cs ds as' bs h i = absurd h
chairs_append (J ∷ Js) Ks (s ∷ ss) ts [] ds as' bs h i = absurd h
chairs_append (J ∷ Js) Ks (s ∷ ss) ts (c ∷ cs) ds [] bs h i = absurd h
chairs_append (J ∷ Js) Ks (s ∷ ss) ts (c ∷ cs) ds (a ∷ as') bs h i = (h.0, chairs_append Js Ks ss ts cs ds as' bs h.1 i)

-- those of some lives, and then those of others
pub more_then : (Js Ks : List Life) (x y z : ChairsAre) → MoreOf Js x y → MoreOf Ks y z → MoreOf (Js ++ Ks) x z
more_then Js Ks x y z h i = record {
  seats = h.seats ++ i.seats;
  cells = h.cells ++ i.cells;
  turns = h.turns ++ i.turns;
  seats_are = i.seats_are ∙ (ap (λ l. l ++ i.seats) h.seats_are ∙ append_assoc x.seats h.seats i.seats);
  cells_are = i.cells_are ∙ (ap (λ l. l ++ i.cells) h.cells_are ∙ append_assoc x.cells h.cells i.cells);
  turns_are = i.turns_are ∙ (ap (λ l. l ++ i.turns) h.turns_are ∙ append_assoc x.turns h.turns i.turns);
  whose = chairs_append Js Ks h.seats i.seats h.cells i.cells h.turns i.turns h.whose i.whose;
}

-- where there were none before, they are all
pub all_seats : (Js : List Life) (x y : ChairsAre) → x.seats ≡ [] → x.cells ≡ [] → x.turns ≡ [] → MoreOf Js x y → SeatsOf Js y
all_seats Js x y p q r h =
    let ss : y.seats ≡ h.seats = h.seats_are ∙ ap (λ l. l ++ h.seats) p in
    let cs : y.cells ≡ h.cells = h.cells_are ∙ ap (λ l. l ++ h.cells) q in
    let as' : y.turns ≡ h.turns = h.turns_are ∙ ap (λ l. l ++ h.turns) r in
    subst (λ l. AreChairsOf Js y.seats y.cells l) (sym as') (subst (λ l. AreChairsOf Js y.seats l h.turns) (sym cs) (subst (λ l. AreChairsOf Js l h.cells h.turns) (sym ss) h.whose))

-- ---- the seats of a run that begins

-- number 0 launched the services from its seat at the launcher
pub unused_launched : (C : Config) (ss : List Sat) (r s : Sat) (cs : List CellsSeen) (as' : List (SeatIs Deed)) (b a : SeatIs Deed)
    → r ≡ get_or ss 0 r → b ≡ get_or as' 0 b → s ≡ record r { own = s.own; spare = s.spare } → a ≡ record b { seen = a.seen } → (OnlyLaunches b.number r.own b.seen → OnlyLaunches b.number s.own a.seen)
    → AreUnused C 0 ss cs as' → AreUnused C 0 (set ss 0 s) cs (set as' 0 a)
unused_launched C [] r s [] [] b a p q e f l h = h
unused_launched C [] r s [] (y ∷ as') b a p q e f l h = absurd h
unused_launched C [] r s (c ∷ cs) as' b a p q e f l h = absurd h
unused_launched C (x ∷ ss) r s [] as' b a p q e f l h = absurd h
unused_launched C (x ∷ ss) r s (c ∷ cs) [] b a p q e f l h = absurd h
unused_launched C (x ∷ ss) r s (c ∷ cs) (y ∷ as') b a p q e f l h =
    let u = h.0 in
    let number : b.number ≡ 0 = ap (λ (z : SeatIs Deed). z.number) q ∙ u.seat in
    let before : OnlyLaunches b.number r.own b.seen = subst (λ k. OnlyLaunches k r.own b.seen) (sym number)
    (subst (λ (z : SeatIs Deed). OnlyLaunches 0 r.own z.seen) (sym q) (subst (λ (z : Sat). OnlyLaunches 0 z.own y.seen) (sym p) u.launches)) in (
      record {
        sat_is = e ∙ ap (λ (z : Sat). record z { own = s.own; spare = s.spare }) (p ∙ u.sat_is);
        cells = u.cells;
        seat = ap (λ (z : SeatIs Deed). z.number) f ∙ number;
        launches = subst (λ k. OnlyLaunches k s.own a.seen) number (l before);
        none = λ o. absurd (omega arith);
        turns = λ o. absurd (omega arith);
      },
      h.1,
    )

-- number 0 was given spare places
pub unused_spare : (C : Config) (ss : List Sat) (r s : Sat) (cs : List CellsSeen) (as' : List (SeatIs Deed)) → r ≡ get_or ss 0 r → s ≡ record r { spare = s.spare }
    → AreUnused C 0 ss cs as' → AreUnused C 0 (set ss 0 s) cs as'
unused_spare C [] r s cs as' p e h = h
unused_spare C (x ∷ ss) r s [] as' p e h = absurd h
unused_spare C (x ∷ ss) r s (c ∷ cs) [] p e h = absurd h
unused_spare C (x ∷ ss) r s (c ∷ cs) (y ∷ as') p e h =
    let u = h.0 in
    let own_is : s.own ≡ x.own = ap (λ (z : Sat). z.own) (e ∙ ap (λ (z : Sat). record z { spare = s.spare }) p) in (
      record {
        sat_is = subst (λ items. s ≡ record (fresh (length C.proxies) 0) { own = items; spare = s.spare }) (sym own_is) (e ∙ ap (λ (z : Sat). record z { spare = s.spare }) (p ∙ u.sat_is));
        cells = u.cells;
        seat = u.seat;
        launches = subst (λ items. OnlyLaunches 0 items y.seen) (sym own_is) u.launches;
        none = λ o. absurd (omega arith);
        turns = λ o. absurd (omega arith);
      },
      h.1,
    )

none_seen : (m w : ℕ) → map (up_to_own by_entry w) (replicate m []) ≡ replicate {A = List (Entry ProxyEvent)} m []
none_seen zero w = refl
none_seen (suc m) w = ap (λ l. [] ∷ l) (none_seen m w)

-- up to an entry of its own, where it has none
none_own : (w : ℕ) (J : List (Entry OkdEvent)) → of by_entry w J ≡ [] → up_to_own by_entry w J ≡ []
none_own w J none = ap (up_to_own by_entry w) (sym (append-nil J)) ∙ own-foreign by_entry w J [] none

-- what a number that waits has seen, with these items
waiting_seen : (m w : ℕ) (J : List (Entry OkdEvent)) (items : List Own) (k : ℕ) → of by_entry w J ≡ [] → seen_of (record (fresh m w) { okd = J; own = items; spare = k }) ≡ record (nothing_seen m) { own = items }
waiting_seen m w J items k none = λ i. record (nothing_seen m) { okd = none_own w J none i; proxies = none_seen m w i; own = items }

life_begins : (C : Config) (n w : ℕ) (J : Life) (s : Sat) (c : CellsSeen) (a : SeatIs Deed) → IsWaitingChair C n w s c a → IsChairOf J s c a → LifeBegins C n w J
life_begins C n w J s c a u h =
    let own_is : J.seen.own ≡ s.own = ap (λ (S : Seen). S.own) h.seen_is in
    let seen_is : J.seen ≡ record (nothing_seen (length C.proxies)) { own = s.own } = h.seen_is ∙ (ap seen_of u.sat_is ∙ waiting_seen (length C.proxies) w s.okd s.own s.spare u.okd) in
    let past_is : J.launcher.seen ≡ a.seen = ap (λ (x : SeatIs Deed). x.seen) h.launcher_is in
    record {
      seen_is = subst (λ (items : List Own). J.seen ≡ record (nothing_seen (length C.proxies)) { own = items }) (sym own_is) seen_is;
      board_is = h.board_is ∙ ap (λ (x : Sat). x.board) u.sat_is;
      okd = ap (of by_entry w) h.okd_is ∙ u.okd;
      pubd_is = h.pubd_is ∙ ap (λ (x : Sat). x.pubd) u.sat_is;
      oklogd_is = h.oklogd_is ∙ ap (λ (x : Sat). x.oklogd) u.sat_is;
      cells = subst (IsSilent n (length C.services) w) (sym h.cells_is) u.cells;
      seat = ap (λ (x : SeatIs Deed). x.number) h.launcher_is ∙ u.seat;
      launches = subst (λ (items : List Own). OnlyLaunches w items J.launcher.seen) (sym own_is) (subst (OnlyLaunches w s.own) (sym past_is) u.launches);
      none = λ l. own_is ∙ u.none l;
    }

pub lives_begin : (C : Config) (n w : ℕ) (Js : List Life) (ss : List Sat) (cs : List CellsSeen) (as' : List (SeatIs Deed)) → AreWaiting C n w ss cs as' → AreChairsOf Js ss cs as' → AllBegin C n w Js
lives_begin C n w [] ss cs as' u h = tt
lives_begin C n w (J ∷ Js) [] cs as' u h = absurd h
lives_begin C n w (J ∷ Js) (s ∷ ss) [] as' u h = absurd h
lives_begin C n w (J ∷ Js) (s ∷ ss) (c ∷ cs) [] u h = absurd h
lives_begin C n w (J ∷ Js) (s ∷ ss) (c ∷ cs) (a ∷ as') u h = (life_begins C n w J s c a u.0 h.0, lives_begin C n (suc w) Js ss cs as' u.1 h.1)

-- the last of lives that begin
pub begin_pop : (C : Config) (n w m : ℕ) (Js : List Life) (J : Life) → m ≡ length Js + w → AllBegin C n w (Js ++ J ∷ []) → AllBegin C n w Js × LifeBegins C n m J
begin_pop C n w m [] J e h = (tt, subst (λ k. LifeBegins C n k J) (let q : w ≡ m = omega arith in q) h.0)
begin_pop C n w m (K ∷ Js) J e h = let i = begin_pop C n (suc w) m Js J (omega arith) h.1 in ((h.0, i.0), i.1)

-- and of lives that end
pub end_pop : (n w m : ℕ) (Js : List Life) (J : Life) (R : Record) (ended : ℕ → ℕ → Bool) → m ≡ length Js + w → AllEnd n w (Js ++ J ∷ []) R ended → AllEnd n w Js R ended × LifeEnds n m J R ended
end_pop n w m [] J R ended e h = (tt, subst (λ k. LifeEnds n k J R ended) (let q : w ≡ m = omega arith in q) h.0)
end_pop n w m (K ∷ Js) J R ended e h = let i = end_pop n (suc w) m Js J R ended (omega arith) h.1 in ((h.0, i.0), i.1)
