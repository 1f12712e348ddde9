-- The record in which the workers' lives end, and the launcher's list.
use Rattle.std.proofs.Common.{◌≡◌, ℕ, zero, suc, ◌+◌, ◌<◌, Bool, true, false, List, [], ◌∷◌, ◌++◌, Option, Some, None, length, map, refl, sym, ap, ◌∙◌, subst, arith, append-nil, get_or, ne_eqb, eq-eqb}
use Rattle.std.proofs.lemmas.Bool.{true≢false}
use Rattle.std.specs.Prelude.{◌≤◌, slice_index, IsTrue, MatchOption, ◌&&◌, if◌then◌else◌, filter_map, option_to_list, slice_index_or}
use Rattle.std.specs.List.{list_all}
use mathlib.Core.Logic.{dite}
use native.Mathlib.Decide.{ℕ_discrete}
use Rattle.okws_base.specs.Past.{Grows, events_of}
use Rattle.okws_base.specs.Turns.{of, Behind, GrowsBy, up_to_own}
use Rattle.okws_base.specs.declared.journal.Entry.{Entry}
use Rattle.okws_plan.specs.declared.configuration.Config.{Config}
use Rattle.okws_plan.specs.declared.event.LauncherEvent.{LauncherEvent}
use Rattle.okws_plan.specs.declared.event.LogEvent.{LogEvent}
use Rattle.okws_plan.specs.declared.event.OkdEvent.{OkdEvent}
use Rattle.okws_plan.specs.declared.event.ProxyEvent.{ProxyEvent}
use Rattle.okws_plan.specs.declared.event.PubdEvent.{PubdEvent}
use Rattle.monitor_model.specs.declared.record.CellEvent.{CellEvent}
use Rattle.monitor_model.specs.declared.record.CellEvent.TheVariants as cell
use Rattle.monitor_model.specs.declared.record.Own.{Own}
use Rattle.monitor_model.specs.declared.record.Own.TheVariants as own
use Rattle.monitor_model.specs.declared.record.Record.{Record}
use Rattle.monitor_model.specs.Causes.{has_up}
use Rattle.monitor_model.specs.Launcher.{LauncherLaw, begun}
use Rattle.monitor_model.specs.Merged.{cell_items, is_launch, is_okd_launch, is_proxy_launch, is_pubd_launch, is_log_launch, launcher_item, list_of}
use Rattle.monitor_model.specs.Seen.{Seen, proxy_past}
use Rattle.monitor_model.specs.Tied.{EndsIn}
use Rattle.monitor_model.proofs.Tied.{others_leave_entries}
use Rattle.named_columns.specs.Launched.{by_entry}
use Rattle.site_cells.specs.Held.{by_event}
use Rattle.turn_lock.proofs.Grows.{of-grows, own-on, owns-at}
use Rattle.turn_lock.specs.Seats.{TurnIs, SeatIs, AllClosed}
use Rattle.site_cells.specs.Closing.{CellsGrow, AllCellsGrow}
use Rattle.site_cells.specs.Row.{CellsSeen}
use Rattle.site_locks.proofs.Seeing.{grows_foreign}
use Rattle.turn_lock.specs.Board.{UpTo}
use Rattle.site_locks.specs.Closing.{AllGrown, AllSaw, RowGrown, RowsGrown}
use Rattle.site_locks.specs.Sat.{Sat, seen_of}
use Rattle.launch_crew.specs.Recorded.{AreOwn}
use Rattle.site_worker.specs.Lives.{Life}
use Rattle.launch_turns.specs.Deeds.{by_deed, ended_in, entries, up_in}
use Rattle.launch_turns.specs.declared.deed.Deed.{Deed}
use Rattle.launch_turns.proofs.Deeds.{ended_stays, entries_grow}
use Rattle.site_run.proofs.Once.{ups_same}
use Rattle.site_run.proofs.Seating.{push_length}
use Rattle.site_run.proofs.Telling.{none_behind}
use Rattle.site_run.specs.Rows.{IsChair, AreChairs}
use Rattle.site_run.specs.Tied.{IsChairOf, AreChairsOf, LifeEnds, AllEnd, LaunchesAreOwn, ColumnsGrown, AreLists}

-- ---- rows of journals

-- of rows that went on by others' entries, each one did
row_at : (n : ℕ) (Ks Js : List (List (Entry ProxyEvent))) → RowGrown n Ks Js → (p : ℕ) → GrowsBy by_entry n (get_or Ks p []) (get_or Js p [])
row_at n [] [] h p = ([], refl, refl)
row_at n [] (J ∷ Js) h p = absurd h
row_at n (K ∷ Ks) [] h p = absurd h
row_at n (K ∷ Ks) (J ∷ Js) h zero = h.0
row_at n (K ∷ Ks) (J ∷ Js) h (suc p) = row_at n Ks Js h.1 p

pub cell_at : (n w : ℕ) (Is Js : List (List CellEvent)) → CellsGrow n w Is Js → (s : ℕ) → GrowsBy (by_event n) w (get_or Is s []) (get_or Js s [])
cell_at n w [] [] h s = ([], refl, refl)
cell_at n w [] (J ∷ Js) h s = absurd h
cell_at n w (I ∷ Is) [] h s = absurd h
cell_at n w (I ∷ Is) (J ∷ Js) h zero = h.0
cell_at n w (I ∷ Is) (J ∷ Js) h (suc s) = cell_at n w Is Js h.1 s

-- the last of numbers' seats, and the others
grown_pop : {E : Type 0} (seen : Sat → List (Entry E)) (ss : List Sat) (s : Sat) (J : List (Entry E)) → AllGrown seen (ss ++ s ∷ []) J → AllGrown seen ss J × GrowsBy by_entry s.number (seen s) J
grown_pop seen [] s J h = (tt, h.0)
grown_pop seen (r ∷ ss) s J h = let i = grown_pop seen ss s J h.1 in ((h.0, i.0), i.1)

rows_pop : (ss : List Sat) (s : Sat) (Js : List (List (Entry ProxyEvent))) → RowsGrown (ss ++ s ∷ []) Js → RowsGrown ss Js × RowGrown s.number s.proxies Js
rows_pop [] s Js h = (tt, h.0)
rows_pop (r ∷ ss) s Js h = let i = rows_pop ss s Js h.1 in ((h.0, i.0), i.1)

pub cells_pop : (n : ℕ) (cs : List CellsSeen) (c : CellsSeen) (Js : List (List CellEvent)) → AllCellsGrow n (cs ++ c ∷ []) Js → AllCellsGrow n cs Js × CellsGrow n c.number c.cells Js
cells_pop n [] c Js h = (tt, h.0)
cells_pop n (d ∷ cs) c Js h = let i = cells_pop n cs c Js h.1 in ((h.0, i.0), i.1)

-- ---- the board

up_to_at : (xs gs : List ℕ) → UpTo xs gs → (u : ℕ) → slice_index xs u ≤ slice_index gs u
up_to_at [] gs h u = omega arith
up_to_at (x ∷ xs) [] h u = absurd h
up_to_at (x ∷ xs) (g ∷ gs) h zero = h.0
up_to_at (x ∷ xs) (g ∷ gs) h (suc u) = up_to_at xs gs h.1 u

saw_pop : (count : ℕ) (greatest : List ℕ) (ss : List Sat) (s : Sat) → AllSaw count greatest (ss ++ s ∷ []) → AllSaw count greatest ss × (suc s.number ≡ count → s.board ≡ greatest)
saw_pop count greatest [] s h = (tt, h.1)
saw_pop count greatest (r ∷ ss) s h = let i = saw_pop count greatest ss s h.2 in ((h.0, h.1, i.0), i.1)

-- no number saw an incarnation on the board that was not begun
abbrev Raised : Record → List Sat → Type 0
Raised R [] = Unit {0}
Raised R (s ∷ ss) = ((u : ℕ) → u < length R.cells → slice_index s.board u ≤ begun R.launcher u) × Raised R ss

raised : (R : Record) (count : ℕ) (greatest : List ℕ) (ss : List Sat) → AllSaw count greatest ss → ((u : ℕ) → u < length R.cells → slice_index greatest u ≡ begun R.launcher u) → Raised R ss
raised R count greatest [] h top = tt
raised R count greatest (s ∷ ss) h top = ((λ u l. subst (λ m. slice_index s.board u ≤ m) (top u l) (up_to_at s.board greatest h.0 u)), raised R count greatest ss h.2 top)

-- where the launcher raised on the board just what it began
pub raised_all : (R : Record) (n count : ℕ) (greatest : List ℕ) (ss all : List Sat) (s : Sat) → all ≡ ss ++ s ∷ [] → AllSaw count greatest all → count ≡ n + 1 → s.number ≡ n → ((u : ℕ) → u < length R.cells → slice_index s.board u ≡ begun R.launcher u) → Raised R ss
raised_all R n count greatest ss all s p h e f top =
    let i = saw_pop count greatest ss s (subst (AllSaw count greatest) p h) in
    let same : s.board ≡ greatest = i.1 (omega arith) in
    raised R count greatest ss i.0 (λ u l. ap (λ g. slice_index g u) (sym same) ∙ top u l)

-- ---- own lists

same_rest : {A : Type 0} (x y : A) (xs ys : List A) → x ∷ xs ≡ y ∷ ys → xs ≡ ys
same_rest x y xs ys e = cc

same_first : {A : Type 0} (x y : A) (xs ys : List A) → x ∷ xs ≡ y ∷ ys → x ≡ y
same_first x y xs ys e = cc

-- rows that are the same up to their last members
same_fronts : {A : Type 0} (xs ys : List A) (x y : A) → xs ++ x ∷ [] ≡ ys ++ y ∷ [] → xs ≡ ys
same_fronts [] [] x y e = refl
same_fronts [] (b ∷ ys) x y e = absurd (let l = ap length (same_rest x b [] (ys ++ y ∷ []) e) in let m = push_length ys y in omega arith)
same_fronts (a ∷ xs) [] x y e = absurd (let l = ap length (same_rest a y (xs ++ x ∷ []) [] e) in let m = push_length xs x in omega arith)
same_fronts (a ∷ xs) (b ∷ ys) x y e =
    let first = same_first a b (xs ++ x ∷ []) (ys ++ y ∷ []) e in
    ap (λ l. a ∷ l) (same_fronts xs ys x y (same_rest a b (xs ++ x ∷ []) (ys ++ y ∷ []) e)) ∙ ap (λ z. z ∷ ys) first

map_push : {A B : Type 0} (f : A → B) (xs : List A) (x : A) → map f (xs ++ x ∷ []) ≡ map f xs ++ f x ∷ []
map_push f [] x = refl
map_push f (y ∷ xs) x = ap (λ l. f y ∷ l) (map_push f xs x)

-- the own lists of all numbers but the last, when this was taken
pub but_last : (o : Option (List Own)) (was now : ℕ) (all left : List (List Own)) (ss : List Sat)
    → MatchOption o ((was ≡ 0) × (now ≡ 0)) (λ _. now + 1 ≡ was) → 0 < was → all ≡ left ++ option_to_list o → all ≡ map (λ (s : Sat). s.own) ss → AreLists ss left
but_last None was now all left ss h l e q = absurd (let z = h.0 in omega arith)
but_last (Some x) was now all left ss h l e q = record { last = x; lists_are = sym q ∙ e }

-- ---- one life

-- who took no turn entered nothing
pub none_entered : (n count : ℕ) (J : List (Entry LauncherEvent)) (deeds : List Deed) → count ≡ n → J ≡ entries deeds → ((k : ℕ) → count ≤ k → of by_deed k deeds ≡ []) → (k : ℕ) → n ≤ k → of by_entry k J ≡ []
none_entered n count J deeds is entered none k l =
    let least : count ≤ k = omega (arith, is, l) in
    ap (of by_entry k) entered ∙ of-grows by_entry k (entries []) (entries deeds) (entries_grow k [] deeds (deeds, none k least, sym (append-nil deeds)))

-- what the turns at the launcher tell is told of the record
pub record IsTold (C : Config) (n : ℕ) (deeds : List Deed) (R : Record) (ended : ℕ → ℕ → Bool) : Type 0 where
  pub entries_are : R.launcher ≡ entries deeds
  pub none : (k : ℕ) → n ≤ k → of by_deed k deeds ≡ []
  pub law : LauncherLaw C (entries deeds)
  pub ups : (s k : ℕ) → has_up R s k ≡ up_in deeds s k
  pub ends : (s k : ℕ) → ended_in deeds s k ≡ true → ended s k ≡ true

module _ (R : Record) (s : Sat) where
  -- what the columns' journals went on from
  columns_end : (w : ℕ) → s.number ≡ w → GrowsBy by_entry s.number s.okd R.okd → RowGrown s.number s.proxies R.proxies → GrowsBy by_entry s.number s.pubd R.pubd → GrowsBy by_entry s.number s.oklogd R.oklogd → EndsIn R w (seen_of s)
  columns_end w e okd proxies pubd oklogd = subst (λ k. EndsIn R k (seen_of s)) e (record {
    okd = grows_foreign s.number (up_to_own by_entry s.number s.okd) R.okd (own-on by_entry s.number s.okd R.okd okd);
    proxies = λ p. subst (λ J. Grows s.number J (proxy_past R.proxies p)) (sym (owns-at by_entry s.number p s.proxies))
        (grows_foreign s.number (up_to_own by_entry s.number (get_or s.proxies p [])) (get_or R.proxies p []) (own-on by_entry s.number (get_or s.proxies p []) (get_or R.proxies p []) (row_at s.number s.proxies R.proxies proxies p)));
    pubd = grows_foreign s.number (up_to_own by_entry s.number s.pubd) R.pubd (own-on by_entry s.number s.pubd R.pubd pubd);
    oklogd = grows_foreign s.number (up_to_own by_entry s.number s.oklogd) R.oklogd (own-on by_entry s.number s.oklogd R.oklogd oklogd);
  })

module _ (C : Config) (t : TurnIs) (cells n : ℕ) (R : Record) (ended : ℕ → ℕ → Bool) (deeds : List Deed) (told : IsTold C n deeds R ended) where
  life_ends : (w : ℕ) (J : Life) (s : Sat) (c : CellsSeen) (a : SeatIs Deed) → IsChair t cells w s c a → IsChairOf J s c a → EndsIn R w (seen_of s)
      → GrowsBy by_entry s.number s.okd R.okd → GrowsBy by_entry s.number s.pubd R.pubd → GrowsBy by_entry s.number s.oklogd R.oklogd → CellsGrow n c.number c.cells R.cells → GrowsBy by_deed a.number a.seen deeds → list_of R w ≡ s.own → ((u : ℕ) → u < length R.cells → slice_index s.board u ≤ begun R.launcher u) → LifeEnds n w J R ended
  life_ends w J s c a h o columns okd pubd oklogd grown launcher list board =
      let seen : J.launcher.seen ≡ a.seen = ap (λ (x : SeatIs Deed). x.seen) o.launcher_is in
      let behind : Behind J.launcher.seen deeds = (launcher.0, launcher.2 ∙ ap (λ l. launcher.0 ++ l) (sym seen)) in
      let entered : Grows w (entries a.seen) R.launcher = subst (Grows w (entries a.seen)) (sym told.entries_are)
      (grows_foreign w (entries a.seen) (entries deeds) (entries_grow w a.seen deeds (subst (λ k. GrowsBy by_deed k a.seen deeds) h.seat_number launcher))) in
      record {
        number_is = ap (λ (x : CellsSeen). x.number) o.cells_is ∙ h.cells_number;
        own_is = ap (λ (S : Seen). S.own) o.seen_is ∙ sym list;
        columns = subst (EndsIn R w) (sym o.seen_is) columns;
        okd = subst (λ I. Grows w I R.okd) (sym o.okd_is) (grows_foreign w s.okd R.okd (subst (λ k. GrowsBy by_entry k s.okd R.okd) h.sat_number okd));
        pubd = subst (λ I. Grows w I R.pubd) (sym o.pubd_is) (grows_foreign w s.pubd R.pubd (subst (λ k. GrowsBy by_entry k s.pubd R.pubd) h.sat_number pubd));
        oklogd = subst (λ I. Grows w I R.oklogd) (sym o.oklogd_is) (grows_foreign w s.oklogd R.oklogd (subst (λ k. GrowsBy by_entry k s.oklogd R.oklogd) h.sat_number oklogd));
        cells = subst (λ (x : CellsSeen). CellsGrow n w x.cells R.cells) (sym o.cells_is) (subst (λ k. CellsGrow n k c.cells R.cells) h.cells_number grown);
        launcher = subst (λ (l : List Deed). Grows w (entries l) R.launcher) (sym seen) entered;
        turns = λ k l. none_behind k J.launcher.seen deeds behind (told.none k l);
        ups = λ u k begun. told.ups u k ∙ ups_same C u k J.launcher.seen deeds told.law behind begun;
        ends = λ u k over. told.ends u k (subst (λ (l : List Deed). ended_in l u k ≡ true) (sym behind.1) (ended_stays behind.0 J.launcher.seen u k over));
        board = λ u l. subst (λ (b : List ℕ). slice_index b u ≤ begun R.launcher u) (sym o.board_is) (board u l);
      }

  -- the lives of numbers that rise by one from w, whose lists stand in the record from there on
  all_end : (w : ℕ) (Js : List Life) (ss : List Sat) (cs : List CellsSeen) (as' : List (SeatIs Deed)) (last : List Own) → AreChairs t cells w ss cs as' → AreChairsOf Js ss cs as' → ColumnsGrown ss R.okd R.proxies R.pubd R.oklogd
      → AllCellsGrow n cs R.cells → AllClosed by_deed as' deeds → ((k m : ℕ) → m ≡ k + w → list_of R m ≡ slice_index_or (map (λ (s : Sat). s.own) ss ++ last ∷ []) k []) → Raised R ss → AllEnd n w Js R ended
  all_end w [] ss cs as' last h o g i j list board = tt
  all_end w (J ∷ Js) [] cs as' last h o g i j list board = absurd o
  all_end w (J ∷ Js) (s ∷ ss) [] as' last h o g i j list board = absurd o
  all_end w (J ∷ Js) (s ∷ ss) (c ∷ cs) [] last h o g i j list board = absurd o
  all_end w (J ∷ Js) (s ∷ ss) (c ∷ cs) (a ∷ as') last h o g i j list board = (
    life_ends w J s c a h.0 o.0 (columns_end R s w h.0.sat_number g.okd_grown.0 g.proxies_grown.0 g.pubd_grown.0 g.log_grown.0) g.okd_grown.0 g.pubd_grown.0 g.log_grown.0 i.0 j.0.0 (list 0 w (omega arith)) board.0,
    all_end (suc w) Js ss cs as' last h.1 o.1 (record { okd_grown = g.okd_grown.1; proxies_grown = g.proxies_grown.1; pubd_grown = g.pubd_grown.1; log_grown = g.log_grown.1 }) i.1 j.1 (λ k m e. list (suc k) m (omega arith)) board.1,
  )

-- ---- all numbers

-- the columns' journals, of the last number and of the others
columns_pop : (ss : List Sat) (s : Sat) (okd : List (Entry OkdEvent)) (proxies : List (List (Entry ProxyEvent))) (pubd : List (Entry PubdEvent)) (oklogd : List (Entry LogEvent)) → ColumnsGrown (ss ++ s ∷ []) okd proxies pubd oklogd → ColumnsGrown ss okd proxies pubd oklogd
columns_pop ss s okd proxies pubd oklogd g = record {
  okd_grown = (grown_pop (λ x. x.okd) ss s okd g.okd_grown).0;
  proxies_grown = (rows_pop ss s proxies g.proxies_grown).0;
  pubd_grown = (grown_pop (λ x. x.pubd) ss s pubd g.pubd_grown).0;
  log_grown = (grown_pop (λ x. x.oklogd) ss s oklogd g.log_grown).0;
}

-- the lists of the workers stand in the record by their numbers
listed : (R : Record) (ss : List Sat) (s : Sat) → AreLists (ss ++ s ∷ []) R.workers → (k m : ℕ) → m ≡ k + 0 → list_of R m ≡ slice_index_or (map (λ (x : Sat). x.own) ss ++ R.launches ∷ []) k []
listed R ss s h k m e =
    let same : map (λ (x : Sat). x.own) ss ≡ R.workers = same_fronts (map (λ (x : Sat). x.own) ss) R.workers s.own h.last (sym (map_push (λ (x : Sat). x.own) ss s) ∙ h.lists_are) in
    let at : m ≡ k = omega arith in
    ap (list_of R) at ∙ ap (λ l. slice_index_or (l ++ R.launches ∷ []) k []) (sym same)

-- the workers' lives end in the record of the locks that were closed with all seats
pub lives_end : (C : Config) (t : TurnIs) (cells n : ℕ) (R : Record) (ended : ℕ → ℕ → Bool) (deeds : List Deed) (Js : List Life) (ss all : List Sat) (s : Sat) (cs every : List CellsSeen) (c : CellsSeen) (as' : List (SeatIs Deed))
    → IsTold C n deeds R ended → AreChairs t cells 0 ss cs as' → AreChairsOf Js ss cs as' → all ≡ ss ++ s ∷ [] → every ≡ cs ++ c ∷ []
    → ColumnsGrown all R.okd R.proxies R.pubd R.oklogd → AllCellsGrow n every R.cells → AllClosed by_deed as' deeds → AreLists all R.workers → Raised R ss → AllEnd n 0 Js R ended
lives_end C t cells n R ended deeds Js ss all s cs every c as' told h o p q g i j l board =
    all_end C t cells n R ended deeds told 0 Js ss cs as' R.launches h o
    (columns_pop ss s R.okd R.proxies R.pubd R.oklogd (subst (λ xs. ColumnsGrown xs R.okd R.proxies R.pubd R.oklogd) p g))
    (cells_pop n cs c R.cells (subst (λ xs. AllCellsGrow n xs R.cells) q i)).0 j (listed R ss s (subst (λ xs. AreLists xs R.workers) p l)) board

-- ---- the launcher's number

none_first : (e : CellEvent) (xs : List CellEvent) → e ∷ xs ≡ [] → ⊥
none_first e xs is = absurd (cc)

pub tail_none : (n w : ℕ) (e : CellEvent) (more : List CellEvent) → of (by_event n) w (e ∷ more) ≡ [] → (by_event n e ≡ w → ⊥) × (of (by_event n) w more ≡ [])
tail_none n w e more none = dite (ℕ_discrete (by_event n e) w)
    (λ is. absurd (none_first e (of (by_event n) w more) (subst (λ (b : Bool). (if b then e ∷ of (by_event n) w more else of (by_event n) w more) ≡ []) (eq-eqb (by_event n e) w is) none)))
    (λ not. (not, subst (λ (b : Bool). (if b then e ∷ of (by_event n) w more else of (by_event n) w more) ≡ []) (ne_eqb (by_event n e) w not) none))

-- what others did at a cell is nothing that number w did
cell_others : (n w s : ℕ) (more J : List CellEvent) → of (by_event n) w more ≡ [] → cell_items n w s (more ++ J) ≡ cell_items n w s J
cell_others n w s [] J none = refl
cell_others n w s (cell.Boot k ∷ more) J none =
    let h = tail_none n w (cell.Boot k) more none in
    ap (λ (b : Bool). if b then own.Boot s k ∷ cell_items n w s (more ++ J) else cell_items n w s (more ++ J)) (ne_eqb w n (λ e. h.0 (sym e))) ∙ cell_others n w s more J h.1
cell_others n w s (cell.Retired ∷ more) J none =
    let h = tail_none n w cell.Retired more none in
    ap (λ (b : Bool). if b then own.Retired s ∷ cell_items n w s (more ++ J) else cell_items n w s (more ++ J)) (ne_eqb w n (λ e. h.0 (sym e))) ∙ cell_others n w s more J h.1
cell_others n w s (cell.Missed v wanted is ∷ more) J none =
    let h = tail_none n w (cell.Missed v wanted is) more none in
    ap (λ (b : Bool). if b then own.Missed s wanted is ∷ cell_items n w s (more ++ J) else cell_items n w s (more ++ J)) (ne_eqb v w h.0) ∙ cell_others n w s more J h.1
cell_others n w s (cell.Dialog d ∷ more) J none =
    let h = tail_none n w (cell.Dialog d) more none in
    ap (λ (b : Bool). if b then own.Dialog s ∷ cell_items n w s (more ++ J) else cell_items n w s (more ++ J)) (ne_eqb d.worker w h.0) ∙ cell_others n w s more J h.1
cell_others n w s (cell.Speaking v spoken ∷ more) J none =
    let h = tail_none n w (cell.Speaking v spoken) more none in
    ap (λ (b : Bool). if b then own.Dialog s ∷ cell_items n w s (more ++ J) else cell_items n w s (more ++ J)) (ne_eqb v w h.0) ∙ cell_others n w s more J h.1

pub cell_went : (n w s : ℕ) (I J : List CellEvent) → GrowsBy (by_event n) w I J → cell_items n w s J ≡ cell_items n w s I
cell_went n w s I J g = ap (cell_items n w s) g.2 ∙ cell_others n w s g.0 I g.1

pub went : {E : Type 0} (n : ℕ) (J K : List (Entry E)) → GrowsBy by_entry n J K → events_of n K ≡ events_of n J
went n J K g = others_leave_entries n J K (grows_foreign n J K g)

-- a journal in which the number has no entry
pub none_of : {E : Type 0} (n : ℕ) (J : List (Entry E)) → of by_entry n J ≡ [] → events_of n J ≡ []
none_of n J none = went n [] J (J, none, sym (append-nil J))

and_first : (a b : Bool) → (a && b) ≡ true → a ≡ true
and_first true b e = refl
and_first false b e = e

and_second : (a b : Bool) → (a && b) ≡ true → b ≡ true
and_second true b e = e
and_second false b e = absurd (true≢false (sym e))

-- launches are no entries of the launcher's journal
no_entries : (items : List Own) → IsTrue (list_all is_launch items) → filter_map launcher_item items ≡ []
no_entries [] h = refl
no_entries (own.Okd e ∷ items) h = no_entries items (and_second (is_okd_launch e) (list_all is_launch items) h)
no_entries (own.Proxy p e ∷ items) h = no_entries items (and_second (is_proxy_launch e) (list_all is_launch items) h)
no_entries (own.Pubd e ∷ items) h = no_entries items (and_second (is_pubd_launch e) (list_all is_launch items) h)
no_entries (own.Oklogd e ∷ items) h = no_entries items (and_second (is_log_launch e) (list_all is_launch items) h)
no_entries (own.Launcher e ∷ items) h = absurd (true≢false (sym (and_first false (list_all is_launch items) h)))
no_entries (own.Dialog s ∷ items) h = absurd (true≢false (sym (and_first false (list_all is_launch items) h)))
no_entries (own.Missed s wanted is ∷ items) h = absurd (true≢false (sym (and_first false (list_all is_launch items) h)))
no_entries (own.NoMemory ∷ items) h = absurd (true≢false (sym (and_first false (list_all is_launch items) h)))
no_entries (own.Boot s k ∷ items) h = no_entries items (and_second true (list_all is_launch items) h)
no_entries (own.Retired s ∷ items) h = no_entries items (and_second true (list_all is_launch items) h)

-- the last seats are the launcher's, whose list says all that was done from them
pub launches_own : (n : ℕ) (R : Record) (ss all : List Sat) (s : Sat) (cs every : List CellsSeen) (c : CellsSeen) → all ≡ ss ++ s ∷ [] → every ≡ cs ++ c ∷ [] → s.number ≡ n → c.number ≡ n
    → ColumnsGrown all R.okd R.proxies R.pubd R.oklogd → AllCellsGrow n every R.cells → of by_entry n R.launcher ≡ [] → AreOwn n s c R.launches → LaunchesAreOwn n R
launches_own n R ss all s cs every c p q is here g i none o =
    let grown = subst (λ xs. ColumnsGrown xs R.okd R.proxies R.pubd R.oklogd) p g in
    let okd = subst (λ k. GrowsBy by_entry k s.okd R.okd) is (grown_pop (λ x. x.okd) ss s R.okd grown.okd_grown).1 in
    let proxies = subst (λ k. RowGrown k s.proxies R.proxies) is (rows_pop ss s R.proxies grown.proxies_grown).1 in
    let pubd = subst (λ k. GrowsBy by_entry k s.pubd R.pubd) is (grown_pop (λ x. x.pubd) ss s R.pubd grown.pubd_grown).1 in
    let oklogd = subst (λ k. GrowsBy by_entry k s.oklogd R.oklogd) is (grown_pop (λ x. x.oklogd) ss s R.oklogd grown.log_grown).1 in
    let cells = subst (λ k. CellsGrow n k c.cells R.cells) here (cells_pop n cs c R.cells (subst (λ xs. AllCellsGrow n xs R.cells) q i)).1 in
    record {
      own = record {
        okd = went n s.okd R.okd okd ∙ o.okd;
        proxies = λ k. went n (get_or s.proxies k []) (get_or R.proxies k []) (row_at n s.proxies R.proxies proxies k) ∙ o.proxies k;
        pubd = went n s.pubd R.pubd pubd ∙ o.pubd;
        oklogd = went n s.oklogd R.oklogd oklogd ∙ o.oklogd;
        launchers = none_of n R.launcher none ∙ sym (no_entries R.launches o.launches);
        cells = λ u. cell_went n n u (get_or c.cells u []) (get_or R.cells u []) (cell_at n n c.cells R.cells cells u) ∙ o.cells u;
      };
      launches = o.launches;
    }
