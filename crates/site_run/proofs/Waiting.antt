-- The seats of a run's workers when the services were launched and all numbers took in what the launcher has seen: none of them did anything else, and what came up stands in what they took in.
use Rattle.std.proofs.Common.{◌≡◌, ◌∙◌, ℕ, zero, suc, ◌+◌, ◌<◌, ◌≤◌, Bool, List, [], ◌∷◌, ◌++◌, if◌then◌else◌, length, refl, sym, ap, subst, arith, eq-eqb, ne_eqb}
use Rattle.std.specs.List.{AllByRecursion}
use mathlib.Core.Logic.{dite}
use native.Mathlib.Decide.{ℕ_discrete}
use Rattle.okws_base.specs.Turns.{Behind, GrowsBy, of}
use Rattle.okws_base.specs.declared.journal.Entry.{Entry}
use Rattle.okws_plan.specs.declared.configuration.Config.{Config}
use Rattle.okws_plan.specs.declared.event.OkdEvent.{OkdEvent}
use Rattle.monitor_model.specs.declared.record.CellEvent.{CellEvent}
use Rattle.named_columns.specs.Launched.{by_entry}
use Rattle.turn_lock.specs.Seats.{TurnIs, SeatIs}
use Rattle.turn_lock.proofs.Grows.{grows_on, of-grows}
use Rattle.turn_lock.proofs.Views.{of-append}
use Rattle.site_cells.specs.Held.{by_event}
use Rattle.site_cells.specs.Row.{CellsSeen, seen_at}
use Rattle.site_cells.proofs.Onlys.{new_at}
use Rattle.site_locks.specs.Made.{fresh}
use Rattle.site_locks.specs.Sat.{Sat}
use Rattle.launch_turns.specs.Deeds.{by_deed}
use Rattle.launch_turns.specs.Standing.{UpsStand}
use Rattle.launch_turns.specs.declared.deed.Deed.{Deed}
use Rattle.site_run.specs.Meeting.{AllBooted, AllGo, IsShown, MeetsOkd, SeesCells}
use Rattle.site_run.specs.Opening.{IsAlone, items_first, seen_first}
use Rattle.site_run.specs.Rows.{AreChairs, ChairsAre}
use Rattle.site_run.specs.Tied.{AreUnused, AreWaiting, IsUnusedChair, IsWaitingChair, OnlyLaunches}

-- ---- where nobody else took a turn

cons_nil : {A : Type 0} (x : A) (xs : List A) → x ∷ xs ≡ [] → ⊥
cons_nil x xs is = absurd (cc)

-- the turns that were seen are those that were seen before
pub alone_same : (n : ℕ) (I J : List Deed) → GrowsBy by_deed n I J → IsAlone n J → J ≡ I
alone_same n I J g alone = none g.0 g.1 (subst (IsAlone n) g.2 alone) g.2
  where
    none : (more : List Deed) → of by_deed n more ≡ [] → IsAlone n (more ++ I) → J ≡ more ++ I → J ≡ I
    none [] foreign others is = is
    none (d ∷ more) foreign others is = dite (ℕ_discrete (by_deed d) n)
        (λ here. absurd (cons_nil d (of by_deed n more) (subst (λ (b : Bool). (if b then d ∷ of by_deed n more else of by_deed n more) ≡ []) (eq-eqb (by_deed d) n here) foreign)))
        (λ other. absurd (cons_nil d (of by_deed (by_deed d) (more ++ I))
        (subst (λ (b : Bool). (if b then d ∷ of by_deed (by_deed d) (more ++ I) else of by_deed (by_deed d) (more ++ I)) ≡ []) (eq-eqb (by_deed d) (by_deed d) refl) (others (by_deed d) other))))

-- turns of others, twice
pub grown_twice : (n : ℕ) (a b c : SeatIs Deed) → a.number ≡ n → b ≡ record a { seen = b.seen } → GrowsBy by_deed a.number a.seen b.seen → GrowsBy by_deed b.number b.seen c.seen → GrowsBy by_deed n a.seen c.seen
grown_twice n a b c number is g h = grows_on by_deed n a.seen b.seen c.seen (subst (λ k. GrowsBy by_deed k a.seen b.seen) number g) (subst (λ k. GrowsBy by_deed k b.seen c.seen) (ap (λ (x : SeatIs Deed). x.number) is ∙ number) h)

-- ---- what stands behind

pub none_suffix : {E : Type 0} (by : E → ℕ) (w : ℕ) (I J : List E) → Behind I J → of by w J ≡ [] → of by w I ≡ []
none_suffix {E} by w I J h none = last (of by w h.0) (of by w I) (sym (of-append by w h.0 I) ∙ (ap (of by w) (sym h.1) ∙ none))
  where
    last : (xs ys : List E) → xs ++ ys ≡ [] → ys ≡ []
    last [] ys is = is
    last (x ∷ xs) ys is = absurd (cons_nil x (xs ++ ys) is)

-- ---- one number

module _ (C : Config) (n : ℕ) (J : List (Entry OkdEvent)) where
  chair_waits : (w : ℕ) (s t : Sat) (c d : CellsSeen) (a : SeatIs Deed) → IsUnusedChair C w s c a → MeetsOkd J s t → SeesCells n c d → IsWaitingChair C n w t d a
  chair_waits w s t c d a u m v =
      let number : s.number ≡ w = ap (λ (x : Sat). x.number) u.sat_is in
      let own_is : t.own ≡ s.own = ap (λ (x : Sat). x.own) m.is in
      let spare_is : t.spare ≡ s.spare = ap (λ (x : Sat). x.spare) m.is in
      let nothing : s.okd ≡ [] = ap (λ (x : Sat). x.okd) u.sat_is in
      record {
        sat_is = m.is ∙ (ap (λ (x : Sat). record x { okd = t.okd }) u.sat_is ∙ (λ i. record (fresh (length C.proxies) w) { okd = t.okd; own = sym own_is i; spare = sym spare_is i }));
        okd = of-grows by_entry w s.okd t.okd (subst (λ k. GrowsBy by_entry k s.okd t.okd) number m.grows) ∙ ap (of by_entry w) nothing;
        cells = record {
          number_is = v.number_is ∙ u.cells.number_is;
          cells_are = v.cells_are ∙ u.cells.cells_are;
          none = λ r. of-grows (by_event n) w (seen_at c r) (seen_at d r) (subst (λ k. GrowsBy (by_event n) k (seen_at c r) (seen_at d r)) u.cells.number_is (v.grows r))
              ∙ ap (of (by_event n) w) (new_at (length C.services) w r c u.cells);
        };
        seat = u.seat;
        launches = subst (λ items. OnlyLaunches w items a.seen) (sym own_is) u.launches;
        none = λ o. own_is ∙ u.none o;
      }

  -- ---- all of them

  pub all_wait : (w : ℕ) (ss ts : List Sat) (cs ds : List CellsSeen) (as' : List (SeatIs Deed)) → AllGo (MeetsOkd J) ss ts → AllGo (SeesCells n) cs ds → AreUnused C w ss cs as' → AreWaiting C n w ts ds as'
  all_wait w [] [] [] [] [] m v u = tt
  all_wait w [] [] [] [] (a ∷ as') m v u = absurd u
  all_wait w [] [] [] (d ∷ ds) as' m v u = absurd v
  all_wait w [] [] (c ∷ cs) ds as' m v u = absurd u
  all_wait w [] (t ∷ ts) cs ds as' m v u = absurd m
  all_wait w (s ∷ ss) [] cs ds as' m v u = absurd m
  all_wait w (s ∷ ss) (t ∷ ts) [] ds as' m v u = absurd u
  all_wait w (s ∷ ss) (t ∷ ts) (c ∷ cs) [] as' m v u = absurd v
  all_wait w (s ∷ ss) (t ∷ ts) (c ∷ cs) (d ∷ ds) [] m v u = absurd u
  all_wait w (s ∷ ss) (t ∷ ts) (c ∷ cs) (d ∷ ds) (a ∷ as') m v u = (chair_waits w s t c d a u.0 m.0 v.0, all_wait (suc w) ss ts cs ds as' m.1 v.1 u.1)

  -- none of them has an entry in what they took in at okd
  pub okd_quiet : (k w : ℕ) (ss ts : List Sat) (cs : List CellsSeen) (as' : List (SeatIs Deed)) → AllGo (MeetsOkd J) ss ts → AreWaiting C n k ts cs as' → w < length ts → of by_entry (k + w) J ≡ []
  okd_quiet k w ss [] cs as' m h l = absurd (omega (arith, l))
  okd_quiet k w [] (t ∷ ts) cs as' m h l = absurd m
  okd_quiet k w (s ∷ ss) (t ∷ ts) [] as' m h l = absurd h
  okd_quiet k w (s ∷ ss) (t ∷ ts) (c ∷ cs) [] m h l = absurd h
  okd_quiet k zero (s ∷ ss) (t ∷ ts) (c ∷ cs) (a ∷ as') m h l =
      let here : k + zero ≡ k = omega arith in ap (λ v. of by_entry v J) here ∙ none_suffix by_entry k J t.okd m.0.met h.0.okd
  okd_quiet k (suc w) (s ∷ ss) (t ∷ ts) (c ∷ cs) (a ∷ as') m h l =
      let here : k + suc w ≡ suc k + w = omega arith in ap (λ v. of by_entry v J) here ∙ okd_quiet (suc k) w ss ts cs as' m.1 h.1 (omega (arith, l))

  -- nor at a cell
  cell_quiet : (r : ℕ) (events : List CellEvent) (k w : ℕ) (ts : List Sat) (cs : List CellsSeen) (as' : List (SeatIs Deed)) → AreWaiting C n k ts cs as' → AllByRecursion (λ (c : CellsSeen). Behind events (seen_at c r)) cs → w < length cs → of (by_event n) (k + w) events ≡ []
  cell_quiet r events k w ts [] as' h seen l = absurd (omega (arith, l))
  cell_quiet r events k w [] (c ∷ cs) as' h seen l = absurd h
  cell_quiet r events k w (t ∷ ts) (c ∷ cs) [] h seen l = absurd h
  cell_quiet r events k zero (t ∷ ts) (c ∷ cs) (a ∷ as') h seen l =
      let here : k + zero ≡ k = omega arith in ap (λ v. of (by_event n) v events) here ∙ none_suffix (by_event n) k events (seen_at c r) seen.0 (h.0.cells.none r)
  cell_quiet r events k (suc w) (t ∷ ts) (c ∷ cs) (a ∷ as') h seen l =
      let here : k + suc w ≡ suc k + w = omega arith in ap (λ v. of (by_event n) v events) here ∙ cell_quiet r events (suc k) w ts cs as' h.1 seen.1 (omega (arith, l))

  -- so what came up stands there
  pub all_shown : (ss : List Sat) (x : ChairsAre) → AllGo (MeetsOkd J) ss x.seats → AreWaiting C n 0 x.seats x.cells x.turns → UpsStand (seen_first x.turns) J → ((s : ℕ) → s < length C.services → AllBooted s (seen_first x.turns) x.cells) → IsShown C n x J
  all_shown ss x m h ups booted = record {
    ups = ups;
    quiet = λ w l. ap (λ v. of by_entry v J) (let here : w ≡ 0 + w = omega arith in here) ∙ okd_quiet 0 w ss x.seats x.cells x.turns m h l;
    boots = λ s l.
        let b = booted s l in
        record {
          events = b.events;
          stand = b.stand;
          seen = b.seen;
          quiet = λ w less. let here : w ≡ 0 + w = omega arith in ap (λ v. of (by_event n) v b.events) here ∙ cell_quiet s b.events 0 w x.seats x.cells x.turns h b.seen less;
        };
  }

  -- they are seated as before
  pub all_seated : (t : TurnIs) (cells k : ℕ) (ss ts : List Sat) (cs ds : List CellsSeen) (as' : List (SeatIs Deed)) → AllGo (MeetsOkd J) ss ts → AllGo (SeesCells n) cs ds → AreChairs t cells k ss cs as' → AreChairs t cells k ts ds as'
  all_seated t cells k [] [] [] [] [] m v h = tt
  all_seated t cells k [] [] [] [] (a ∷ as') m v h = absurd h
  all_seated t cells k [] [] [] (d ∷ ds) as' m v h = absurd v
  all_seated t cells k [] [] (c ∷ cs) ds as' m v h = absurd h
  all_seated t cells k [] (x ∷ ts) cs ds as' m v h = absurd m
  all_seated t cells k (s ∷ ss) [] cs ds as' m v h = absurd m
  all_seated t cells k (s ∷ ss) (x ∷ ts) [] ds as' m v h = absurd h
  all_seated t cells k (s ∷ ss) (x ∷ ts) (c ∷ cs) [] as' m v h = absurd v
  all_seated t cells k (s ∷ ss) (x ∷ ts) (c ∷ cs) (d ∷ ds) [] m v h = absurd h
  all_seated t cells k (s ∷ ss) (x ∷ ts) (c ∷ cs) (d ∷ ds) (a ∷ as') m v h = (
    record {
      sat_number = ap (λ (y : Sat). y.number) m.0.is ∙ h.0.sat_number;
      cells_number = v.0.number_is ∙ h.0.cells_number;
      cells_are = v.0.cells_are ∙ h.0.cells_are;
      seat_number = h.0.seat_number;
      rests = h.0.rests;
    },
    all_seated t cells (suc k) ss ts cs ds as' m.1 v.1 h.1,
  )

  -- and noted what they did
  pub same_items : (ss ts : List Sat) → AllGo (MeetsOkd J) ss ts → items_first ts ≡ items_first ss
  same_items [] [] m = refl
  same_items [] (t ∷ ts) m = absurd m
  same_items (s ∷ ss) [] m = absurd m
  same_items (s ∷ ss) (t ∷ ts) m = ap (λ (x : Sat). x.own) m.0.is
