-- The seats of a run's workers when the services were launched from number 0's, and the others took in what was entered.
use Rattle.std.proofs.Common.{◌≡◌, ◌∙◌, ⊎_elim, ℕ, suc, ◌<◌, ◌≤◌, true, false, List, [], ◌∷◌, length, None, get_or, set, refl, sym, ap, subst, arith}
use Rattle.std.proofs.lemmas.Bool.{cases_lt}
use Rattle.okws_base.specs.Turns.{of, GrowsBy}
use Rattle.okws_plan.specs.declared.configuration.Config.{Config}
use Rattle.monitor_model.specs.declared.record.Own.{Own}
use Rattle.named_columns.specs.Launched.{by_entry}
use Rattle.turn_lock.specs.Rows.{RestsAt}
use Rattle.turn_lock.specs.Seats.{TurnIs, SeatIs}
use Rattle.turn_lock.proofs.Grows.{of-grows}
use Rattle.worker_lives.specs.Waiting.{LeadsSo}
use Rattle.worker_lives.proofs.Others.{foreign_of}
use Rattle.worker_lives.proofs.Waiting.{leads_beside}
use Rattle.round_lives.proofs.Ended.{ends_both}
use Rattle.site_cells.specs.Row.{CellsSeen}
use Rattle.site_locks.specs.Sat.{Sat}
use Rattle.launch_turns.specs.Deeds.{by_deed, entries, up_in}
use Rattle.launch_turns.specs.declared.deed.Deed.{Deed}
use Rattle.launch_turns.proofs.Deeds.{entries_grow, up_stays}
use Rattle.site_run.specs.Opening.{AllSeeMore, AreQuiet, AreTurns, IsAlone, IsOpened, Opening, Opens, items_first, seen_first}
use Rattle.site_run.specs.Rows.{AreChairs}
use Rattle.site_run.specs.Tied.{AreUnused, OnlyLaunches}
use Rattle.site_run.proofs.Leaving.{went}
use Rattle.site_run.proofs.Opened.{none_opened}
use Rattle.site_run.proofs.Telling.{more_length}

-- ---- whose seats they are

-- they rest as before
pub seated_told : (t : TurnIs) (cells k : ℕ) (ss : List Sat) (cs : List CellsSeen) (as' bs : List (SeatIs Deed)) → AllSeeMore as' bs → AreChairs t cells k ss cs as' → AreChairs t cells k ss cs bs
seated_told t cells k [] [] [] [] m h = tt
seated_told t cells k [] [] [] (b ∷ bs) m h = absurd m
seated_told t cells k [] [] (a ∷ as') bs m h = absurd h
seated_told t cells k [] (c ∷ cs) as' bs m h = absurd h
seated_told t cells k (s ∷ ss) [] as' bs m h = absurd h
seated_told t cells k (s ∷ ss) (c ∷ cs) [] bs m h = absurd h
seated_told t cells k (s ∷ ss) (c ∷ cs) (a ∷ as') [] m h = absurd m
seated_told t cells k (s ∷ ss) (c ∷ cs) (a ∷ as') (b ∷ bs) m h =
    let i = h.0 in
    let is = m.0.is in (
      record {
        sat_number = i.sat_number;
        cells_number = i.cells_number;
        cells_are = i.cells_are;
        seat_number = ap (λ (x : SeatIs Deed). x.number) is ∙ i.seat_number;
        rests = subst (RestsAt t) (sym is) (record { lock = i.rests.lock; label_is = i.rests.label_is; free = i.rests.free });
      },
      seated_told t cells (suc k) ss cs as' bs m.1 h.1,
    )

-- what was noted of what was entered, where others took turns meanwhile
pub launches_told : (w : ℕ) (items : List Own) (a b : List Deed) → GrowsBy by_deed w a b → OnlyLaunches w items a → OnlyLaunches w items b
launches_told w items a b grows h =
    let g : GrowsBy by_entry w (entries a) (entries b) = entries_grow w a b grows in
    record {
      entered = went w (entries a) (entries b) g ∙ h.entered;
      only = h.only;
      lead = subst (LeadsSo w false items) (sym g.2) (leads_beside w false items g.0 (entries a) (foreign_of w g.0 g.1) h.lead);
      ends = ends_both (up_in a) (up_in b) (λ s k up. subst (λ (deeds : List Deed). up_in deeds s k ≡ true) (sym grows.2) (up_stays grows.0 a s k up)) None items [] h.ends refl;
    }

-- nothing was done from them but from number 0's
pub unused_told : (C : Config) (w : ℕ) (ss : List Sat) (cs : List CellsSeen) (as' bs : List (SeatIs Deed)) → AllSeeMore as' bs → AreUnused C w ss cs as' → AreUnused C w ss cs bs
unused_told C w [] [] [] [] m h = tt
unused_told C w [] [] [] (b ∷ bs) m h = absurd m
unused_told C w [] [] (a ∷ as') bs m h = absurd h
unused_told C w [] (c ∷ cs) as' bs m h = absurd h
unused_told C w (s ∷ ss) [] as' bs m h = absurd h
unused_told C w (s ∷ ss) (c ∷ cs) [] bs m h = absurd h
unused_told C w (s ∷ ss) (c ∷ cs) (a ∷ as') [] m h = absurd m
unused_told C w (s ∷ ss) (c ∷ cs) (a ∷ as') (b ∷ bs) m h =
    let u = h.0 in
    let grows : GrowsBy by_deed w a.seen b.seen = subst (λ n. GrowsBy by_deed n a.seen b.seen) u.seat m.0.grows in (
      record {
        sat_is = u.sat_is;
        cells = u.cells;
        seat = ap (λ (x : SeatIs Deed). x.number) m.0.is ∙ u.seat;
        launches = launches_told w s.own a.seen b.seen grows u.launches;
        none = u.none;
        turns = λ o. of-grows by_deed w a.seen b.seen grows ∙ u.turns o;
      },
      unused_told C (suc w) ss cs as' bs m.1 h.1,
    )

pub turns_of : (t : TurnIs) (cells k : ℕ) (ss : List Sat) (cs : List CellsSeen) (as' : List (SeatIs Deed)) → AreChairs t cells k ss cs as' → AreTurns t k as'
turns_of t cells k [] [] [] h = tt
turns_of t cells k [] [] (a ∷ as') h = absurd h
turns_of t cells k [] (c ∷ cs) as' h = absurd h
turns_of t cells k (s ∷ ss) [] as' h = absurd h
turns_of t cells k (s ∷ ss) (c ∷ cs) [] h = absurd h
turns_of t cells k (s ∷ ss) (c ∷ cs) (a ∷ as') h = (h.0.seat_number, h.0.rests, turns_of t cells (suc k) ss cs as' h.1)

pub quiet_of : (C : Config) (w : ℕ) (ss : List Sat) (cs : List CellsSeen) (as' : List (SeatIs Deed)) → AreUnused C w ss cs as' → AreQuiet w as'
quiet_of C w [] [] [] h = tt
quiet_of C w [] [] (a ∷ as') h = absurd h
quiet_of C w [] (c ∷ cs) as' h = absurd h
quiet_of C w (s ∷ ss) [] as' h = absurd h
quiet_of C w (s ∷ ss) (c ∷ cs) [] h = absurd h
quiet_of C w (s ∷ ss) (c ∷ cs) (a ∷ as') h = (h.0.turns, quiet_of C (suc w) ss cs as' h.1)

-- ---- what number 0 did

-- nobody else took a turn that it has seen
alone_of : (m : ℕ) (seen : List Deed) → ((k : ℕ) → 0 < k → k < m → of by_deed k seen ≡ []) → ((k : ℕ) → m ≤ k → of by_deed k seen ≡ []) → IsAlone 0 seen
alone_of m seen below above k apart = ⊎_elim
    (λ (less : k < m). below k (omega (arith, apart)) less)
    (λ (more : m ≤ k). above k more)
    (cases_lt k m)

pub all_opened : (C : Config) (ss : List Sat) (r s : Sat) (cs : List CellsSeen) (as' : List (SeatIs Deed)) (b a : SeatIs Deed) (bs : List (SeatIs Deed))
    → 0 < length ss → 0 < length as' → r ≡ get_or ss 0 r → b ≡ get_or as' 0 b
    → (Opens b.number [] r.own b.seen → IsAlone b.number a.seen → (os : List Opening) × (length os ≡ length C.services) × Opens b.number os s.own a.seen)
    → AreUnused C 0 ss cs as' → items_first ss ≡ [] → seen_first as' ≡ [] → AllSeeMore (set as' 0 a) bs → seen_first bs ≡ seen_first (set as' 0 a)
    → ((k : ℕ) → 0 < k → k < length (set as' 0 a) → of by_deed k (seen_first bs) ≡ []) → ((k : ℕ) → length bs ≤ k → of by_deed k (seen_first bs) ≡ []) → IsOpened C (items_first (set ss 0 s)) (seen_first bs)
all_opened C [] r s cs as' b a bs i j p q opens u none unseen more first below above = absurd (omega arith)
all_opened C (x ∷ ss) r s cs [] b a bs i j p q opens u none unseen more first below above = absurd (omega arith)
all_opened C (x ∷ ss) r s [] (y ∷ as') b a bs i j p q opens u none unseen more first below above = absurd u
all_opened C (x ∷ ss) r s (c ∷ cs) (y ∷ as') b a bs i j p q opens u none unseen more first below above =
    let number : b.number ≡ 0 = ap (λ (z : SeatIs Deed). z.number) q ∙ u.0.seat in
    let begins : Opens b.number [] r.own b.seen = none_opened b.number r.own b.seen (ap (λ (z : Sat). z.own) p ∙ none) (ap (λ (z : SeatIs Deed). z.seen) q ∙ unseen) in
    let many : length bs ≡ suc (length as') = more_length (a ∷ as') bs more in
    let alone : IsAlone 0 (seen_first bs) = alone_of (length bs) (seen_first bs) (λ k o l. below k o (omega (arith, l, many))) above in
    let mine : IsAlone b.number a.seen = subst (λ n. IsAlone n a.seen) (sym number) (subst (IsAlone 0) first alone) in
    let it = opens begins mine in
    record {
      openings = it.0;
      all = it.1;
      opens = subst (Opens 0 it.0 s.own) (sym first) (subst (λ n. Opens n it.0 s.own a.seen) number it.2);
    }

-- where no number behind them took a turn, what was seen first is what number 0 saw alone
pub all_alone : (C : Config) (ss : List Sat) (cs : List CellsSeen) (as' : List (SeatIs Deed)) (b a : SeatIs Deed) (bs : List (SeatIs Deed)) → 0 < length as' → b ≡ get_or as' 0 b
    → AreUnused C 0 ss cs as' → AllSeeMore (set as' 0 a) bs → seen_first bs ≡ seen_first (set as' 0 a)
    → ((k : ℕ) → 0 < k → k < length (set as' 0 a) → of by_deed k (seen_first bs) ≡ []) → ((k : ℕ) → length bs ≤ k → of by_deed k (seen_first bs) ≡ []) → (seen_first bs ≡ a.seen) × IsAlone b.number a.seen
all_alone C ss cs [] b a bs j q u more first below above = absurd (omega arith)
all_alone C [] cs (y ∷ as') b a bs j q u more first below above = absurd (none cs u)
  where
    none : (cs : List CellsSeen) → AreUnused C 0 [] cs (y ∷ as') → ⊥
    none [] h = h
    none (c ∷ cs) h = h
all_alone C (x ∷ ss) [] (y ∷ as') b a bs j q u more first below above = absurd u
all_alone C (x ∷ ss) (c ∷ cs) (y ∷ as') b a bs j q u more first below above =
    let number : b.number ≡ 0 = ap (λ (z : SeatIs Deed). z.number) q ∙ u.0.seat in
    let many : length bs ≡ suc (length as') = more_length (a ∷ as') bs more in
    let alone : IsAlone 0 (seen_first bs) = alone_of (length bs) (seen_first bs) (λ k o l. below k o (omega (arith, l, many))) above in
    (first, subst (λ n. IsAlone n a.seen) (sym number) (subst (IsAlone 0) first alone))
