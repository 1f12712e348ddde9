-- That worker 0's list begins with the first launches of all services.
use Rattle.std.proofs.Common.{◌≡◌, ◌∙◌, ⊎_elim, ℕ, zero, suc, Bool, true, false, ◌+◌, ◌<◌, ◌≤◌, List, [], ◌∷◌, ◌++◌, length, map, reverse, get_or, refl, sym, ap, subst, arith}
use Rattle.std.specs.Prelude.{◌||◌}
use Rattle.std.proofs.lemmas.Bool.{cases_lt, false≢true}
use Rattle.std.specs.List.{AllByRecursion, list_any}
use Rattle.okws_base.specs.Turns.{Behind, of}
use Rattle.okws_outer.specs.Conns.{ConnWire}
use Rattle.okws_base.specs.declared.journal.Entry.{Entry}
use Rattle.okws_plan.specs.declared.configuration.Config.{Config}
use Rattle.okws_plan.specs.declared.event.LauncherEvent.{LauncherEvent}
use Rattle.okws_plan.specs.declared.event.OkdEvent.{OkdEvent}
use Rattle.atomic_table.specs.Seated.{TableId}
use Rattle.monitor_model.specs.declared.record.CellEvent.{CellEvent}
use Rattle.monitor_model.specs.declared.record.Record.{Record}
use Rattle.monitor_model.specs.Causes.{has_up, is_up_of}
use Rattle.monitor_model.specs.First.{ComesFirst, before_any, first_came, is_boot_of, is_talk}
use Rattle.monitor_model.specs.Launcher.{LauncherLaw}
use Rattle.monitor_model.specs.Launches.{is_begun_of}
use Rattle.monitor_model.specs.Merged.{cell_past}
use Rattle.monitor_model.specs.Pieces.{is_accept, worker_list}
use Rattle.monitor_model.specs.Seen.{Seen}
use Rattle.turn_lock.specs.Rows.{NoneFrom}
use Rattle.turn_lock.specs.Seats.{SeatIs}
use Rattle.named_columns.specs.Launched.{by_entry}
use Rattle.site_cells.specs.Held.{by_event}
use Rattle.site_cells.specs.Row.{CellsSeen, seen_at}
use Rattle.site_locks.specs.Sat.{Sat}
use Rattle.okld_launch.specs.Entering.{entries_of}
use Rattle.launch_turns.specs.Deeds.{by_deed, entries, up_in}
use Rattle.launch_turns.specs.Standing.{BootsStand, UpsStand}
use Rattle.launch_turns.specs.declared.deed.Deed.{Deed}
use Rattle.site_worker.specs.Lives.{Life}
use Rattle.site_worker.specs.declared.door.Attended.{Attended}
use Rattle.site_run.specs.Journals.{NameNumbers}
use Rattle.site_run.specs.Meeting.{HasShown, IsShown}
use Rattle.site_run.specs.Opening.{HasOpened, IsOpened, Opening, all_events, all_items, items_first, seen_first, ups_of}
use Rattle.site_run.specs.Places.{PlacesAre}
use Rattle.site_run.specs.Rows.{ChairsAre}
use Rattle.site_run.specs.Tied.{AllBegin, AllEnd, AreChairsOf, LaunchesAreOwn, LifeBegins, LifeEnds, has_begun}
use Rattle.site_run.proofs.Once.{law_behind}
use Rattle.site_run.proofs.Remaining.{Remains, remained, remains_kept}
use Rattle.site_run.proofs.Remembered.{Remembers, remembered, remembers_first, remembers_kept, ups_remembered}
use Rattle.site_run.proofs.Rounding.{attends_kept}
use Rattle.site_run.proofs.Telling.{none_behind}
use Rattle.site_run.proofs.Waiting.{none_suffix}
use Rattle.okws_serve.specs.Manned.{AllAttended, DoorsDone, lives_of}
use Rattle.okws_serve.specs.Opened.{BeginsWithLaunches, CellShows, came_in, LifeShows, OpensFirst, ShowsFirst}
use Rattle.okws_serve.specs.Posts.{AttendedBy, DoorIs}
use Rattle.okws_serve.proofs.Before.{before_has, cells_calm, each_came, last_all, none_passes, okd_calm}
use Rattle.okws_serve.proofs.First.{launches_come, ups_below}
use Rattle.okws_serve.proofs.Whole.{list_is}

-- ---- when the workers are put to their posts

pub chairs_many : (Js : List Life) (ss : List Sat) (cs : List CellsSeen) (as' : List (SeatIs Deed)) → AreChairsOf Js ss cs as' → length as' ≡ length Js
chairs_many [] [] [] [] h = refl
chairs_many [] [] [] (a ∷ as') h = absurd h
chairs_many [] [] (c ∷ cs) as' h = absurd h
chairs_many [] (s ∷ ss) cs as' h = absurd h
chairs_many (J ∷ Js) [] cs as' h = absurd h
chairs_many (J ∷ Js) (s ∷ ss) [] as' h = absurd h
chairs_many (J ∷ Js) (s ∷ ss) (c ∷ cs) [] h = absurd h
chairs_many (J ∷ Js) (s ∷ ss) (c ∷ cs) (a ∷ as') h = ap suc (chairs_many Js ss cs as' h.1)

-- of the seats of a run, whatever rooms they have
opened_lives : (C : Config) (n : ℕ) (Js : List Life) (ss : List Sat) (cs : List CellsSeen) (as' : List (SeatIs Deed)) → AreChairsOf Js ss cs as'
    → (((k : ℕ) → n ≤ k → of by_deed k (seen_first as') ≡ []) → IsOpened C (items_first ss) (seen_first as')) → OpensFirst C n Js
opened_lives C n [] ss cs as' h opened = tt
opened_lives C n (J ∷ Js) [] cs as' h opened = absurd h
opened_lives C n (J ∷ Js) (s ∷ ss) [] as' h opened = absurd h
opened_lives C n (J ∷ Js) (s ∷ ss) (c ∷ cs) [] h opened = absurd h
opened_lives C n (J ∷ Js) (s ∷ ss) (c ∷ cs) (a ∷ as') h opened = λ none.
    let items : J.seen.own ≡ s.own = ap (λ (S : Seen). S.own) h.0.seen_is in
    let seen : J.launcher.seen ≡ a.seen = ap (λ (x : SeatIs Deed). x.seen) h.0.launcher_is in
    subst (λ xs. IsOpened C xs J.launcher.seen) (sym items) (subst (IsOpened C s.own) (sym seen) (opened (λ k l. ap (of by_deed k) (sym seen) ∙ none k l)))

-- those of the doors' workers are the first of them
first_lives : (C : Config) (n : ℕ) (Js : List Life) (J : Life) → OpensFirst C n (Js ++ J ∷ []) → OpensFirst C n Js
first_lives C n [] J h = tt
first_lives C n (I ∷ Js) J h = h

pub lives_opened : (C : Config) (n : ℕ) (Js : List Life) (J : Life) (chairs : ChairsAre) → AreChairsOf (Js ++ J ∷ []) chairs.seats chairs.cells chairs.turns → length (Js ++ J ∷ []) ≡ n → HasOpened C chairs → OpensFirst C n Js
lives_opened C n Js J chairs h many opened =
    let long : length chairs.turns ≡ n = chairs_many (Js ++ J ∷ []) chairs.seats chairs.cells chairs.turns h ∙ many in
    first_lives C n Js J (opened_lives C n (Js ++ J ∷ []) chairs.seats chairs.cells chairs.turns h
    (subst (λ m. ((k : ℕ) → m ≤ k → of by_deed k (seen_first chairs.turns) ≡ []) → IsOpened C (items_first chairs.seats) (seen_first chairs.turns)) long opened))

rows_many : (Js : List Life) (ss : List Sat) (cs : List CellsSeen) (as' : List (SeatIs Deed)) → AreChairsOf Js ss cs as' → (length ss ≡ length Js) × (length cs ≡ length Js)
rows_many [] [] [] [] h = (refl, refl)
rows_many [] [] [] (a ∷ as') h = absurd h
rows_many [] [] (c ∷ cs) as' h = absurd h
rows_many [] (s ∷ ss) cs as' h = absurd h
rows_many (J ∷ Js) [] cs as' h = absurd h
rows_many (J ∷ Js) (s ∷ ss) [] as' h = absurd h
rows_many (J ∷ Js) (s ∷ ss) (c ∷ cs) [] h = absurd h
rows_many (J ∷ Js) (s ∷ ss) (c ∷ cs) (a ∷ as') h = let r = rows_many Js ss cs as' h.1 in (ap suc r.0, ap suc r.1)

module _ (C : Config) (n : ℕ) (okd : List (Entry OkdEvent)) where
  shown_lives : (Js : List Life) (x : ChairsAre) → AreChairsOf Js x.seats x.cells x.turns → HasShown C n x okd → ShowsFirst C n (length Js) okd Js
  shown_lives Js x h shown = rows Js x.seats x.cells x.turns h (rows_many Js x.seats x.cells x.turns h) (chairs_many Js x.seats x.cells x.turns h) shown
    where
      rows : (Js : List Life) (ss : List Sat) (cs : List CellsSeen) (as' : List (SeatIs Deed)) → AreChairsOf Js ss cs as' → (length ss ≡ length Js) × (length cs ≡ length Js) → length as' ≡ length Js
          → (((k : ℕ) → length as' ≤ k → of by_deed k (seen_first as') ≡ []) → IsShown C n (record { seats = ss; cells = cs; turns = as'; seats_room = x.seats_room; cells_room = x.cells_room; turns_room = x.turns_room }) okd) → ShowsFirst C n (length Js) okd Js
      rows [] ss cs as' h many turns shown = tt
      rows (J ∷ Js) [] cs as' h many turns shown = absurd h
      rows (J ∷ Js) (s ∷ ss) [] as' h many turns shown = absurd h
      rows (J ∷ Js) (s ∷ ss) (c ∷ cs) [] h many turns shown = absurd h
      rows (J ∷ Js) (s ∷ ss) (c ∷ cs) (a ∷ as') h many turns shown = λ none.
          let seen : J.launcher.seen ≡ a.seen = ap (λ (y : SeatIs Deed). y.seen) h.0.launcher_is in
          let it = shown (λ k l. ap (of by_deed k) (sym seen) ∙ none k (omega (arith, l, turns))) in
          record {
            ups = subst (λ deeds. UpsStand deeds okd) (sym seen) it.ups;
            quiet = λ w l. it.quiet w (let q = many.0 in omega (arith, l, q));
            boots = λ r l.
                let b = it.boots r l in
                record {
                  events = b.events;
                  stand = subst (λ deeds. BootsStand r deeds b.events) (sym seen) b.stand;
                  seen = subst (λ (y : CellsSeen). Behind b.events (seen_at y r)) (sym h.0.cells_is) b.seen.0;
                  quiet = λ w less. b.quiet w (let q = many.1 in omega (arith, less, q));
                };
          }

  first_shown : (m : ℕ) (Js : List Life) (J : Life) → ShowsFirst C n m okd (Js ++ J ∷ []) → ShowsFirst C n m okd Js
  first_shown m [] J h = tt
  first_shown m (I ∷ Js) J h = h

  pub lives_shown : (m : ℕ) (Js : List Life) (J : Life) (chairs : ChairsAre) → AreChairsOf (Js ++ J ∷ []) chairs.seats chairs.cells chairs.turns → length (Js ++ J ∷ []) ≡ m → HasShown C n chairs okd → ShowsFirst C n m okd Js
  lives_shown m Js J chairs h many shown = first_shown m Js J (subst (λ k. ShowsFirst C n k okd (Js ++ J ∷ [])) many (shown_lives (Js ++ J ∷ []) chairs h shown))

-- ---- when they have left

-- what one number entered of these events was among them
begun_entered : (s k w : ℕ) (events : List LauncherEvent) → has_begun (entries_of w events) s k ≡ list_any (is_begun_of s k) events
begun_entered s k w [] = refl
begun_entered s k w (e ∷ events) = ap (λ (b : Bool). is_begun_of s k e || b) (begun_entered s k w events)

same_or_more : (n m k : ℕ) → m ≡ n → m ≤ k → n ≤ k
same_or_more n m k is l = omega (arith, is, l)

module _ {X : Type 0} (wire : X → ConnWire) (C : Config) (n : ℕ) (z : TableId) (most m : ℕ) (R : Record) (ended : ℕ → ℕ → Bool) (same : m ≡ n) (some : 0 < length R.workers) (law : LauncherLaw C R.launcher)
    (okd : List (Entry OkdEvent)) (behind : Behind okd R.okd) (launched : LaunchesAreOwn n R) (names : NameNumbers n R) where
  -- what came up stands at okd before any Accept, and its Boot in its cell before any dialog
  first_up : (J : Life) → LifeShows C n m okd J → (s k : ℕ) → up_in J.launcher.seen s k ≡ true → list_any (λ (e : Entry OkdEvent). is_up_of s k e.event) (before_any (λ (e : Entry OkdEvent). is_accept e.event) R.okd) ≡ true
  first_up J h s k up =
      let test = λ (e : Entry OkdEvent). is_accept e.event in
      let calm = okd_calm n R.okd R.launches launched.own.okd launched.launches in
      let none = none_passes by_entry test n okd (λ w l. h.quiet w (omega (arith, l, same))) (λ w l. none_suffix by_entry w okd R.okd behind (names.okd w l))
      (last_all by_entry test n (λ (e : Entry OkdEvent). e.worker ≡ n → is_accept e.event ≡ false) behind.0 okd (subst (AllByRecursion (λ (e : Entry OkdEvent). e.worker ≡ n → is_accept e.event ≡ false)) behind.1 calm)) in
      subst (λ (K : List (Entry OkdEvent)). list_any (λ (e : Entry OkdEvent). is_up_of s k e.event) (before_any test K) ≡ true) (sym behind.1)
      (before_has test (λ (e : Entry OkdEvent). is_up_of s k e.event) behind.0 okd none (h.ups s k up))

  first_boot : (J : Life) (s k : ℕ) (b : CellShows n m s J) → Behind b.events (cell_past R s) → up_in J.launcher.seen s k ≡ true → list_any (is_boot_of k) (before_any is_talk (cell_past R s)) ≡ true
  first_boot J s k b there up =
      let calm = cells_calm n s (cell_past R s) R.launches (launched.own.cells s) launched.launches in
      let none = none_passes (by_event n) is_talk n b.events (λ w l. b.quiet w (omega (arith, l, same))) (λ w l. none_suffix (by_event n) w b.events (cell_past R s) there (none_from (n + 1) R.cells names.cells s w l))
      (last_all (by_event n) is_talk n (λ (e : CellEvent). by_event n e ≡ n → is_talk e ≡ false) there.0 b.events (subst (AllByRecursion (λ (e : CellEvent). by_event n e ≡ n → is_talk e ≡ false)) there.1 calm)) in
      subst (λ (K : List CellEvent). list_any (is_boot_of k) (before_any is_talk K) ≡ true) (sym there.1) (before_has is_talk (is_boot_of k) there.0 b.events none (b.stand k up))
    where
      none_from : (low : ℕ) (Js : List (List CellEvent)) → NoneFrom (by_event n) low Js → (r w : ℕ) → low ≤ w → of (by_event n) w (get_or Js r []) ≡ []
      none_from low [] h r w l = refl
      none_from low (J ∷ Js) h zero w l = h.0 w l
      none_from low (J ∷ Js) h (suc r) w l = none_from low Js h.1 r w l

  short_up : (os : List Opening) (s k : ℕ) → ups_of os s k ≡ true → s < length os
  short_up os s k up = ⊎_elim (λ less. less) (λ least. absurd (false≢true (sym (ups_below os s k least) ∙ up))) (cases_lt s (length os))

  worker_begins : (d : DoorIs) (a : Attended) (e : DoorIs) → AttendedBy wire C n d a e → LifeBegins C n 0 d.life → LifeEnds n 0 e.life R ended
      → (((k : ℕ) → m ≤ k → of by_deed k d.life.launcher.seen ≡ []) → IsOpened C d.life.seen.own d.life.launcher.seen)
      → (((k : ℕ) → m ≤ k → of by_deed k d.life.launcher.seen ≡ []) → LifeShows C n m okd d.life) → BeginsWithLaunches C R
  worker_begins d a e by begins ends opened shown =
      let J = d.life in
      let keeps = Remembers C n 0 J.seen.own J.launcher.seen in
      let at_last : keeps e.life = attends_kept C n keeps (remembers_kept C n 0 J.seen.own J.launcher.seen) wire d.most _ d.entrance e.entrance J e.life d.place.drawn e.place.drawn a by.attends (remembers_first C n 0 J begins) in
      let there = remembered C n 0 J.seen.own J.launcher.seen e.life R ended at_last ends in
      let nobody : (k : ℕ) → m ≤ k → of by_deed k J.launcher.seen ≡ [] = λ k l. none_behind k J.launcher.seen e.life.launcher.seen at_last.seen_is (ends.turns k (same_or_more n m k same l)) in
      let it = opened nobody in
      let shows : LifeShows C n m okd J = shown nobody in
      let listed = there.0 in
      let entered = there.1 in
      let begins_so : worker_list R 0 ≡ listed.0 ++ all_items it.openings = sym (list_is R 0 some) ∙ (listed.1 ∙ ap (λ l. listed.0 ++ l) it.opens.items_are) in
      let seen_law : LauncherLaw C (entries e.life.launcher.seen)
      = law_behind C ends.launcher.0 (entries e.life.launcher.seen) (subst (λ (l : List (Entry LauncherEvent)). LauncherLaw C l) ends.launcher.2 law) in
      let ups : (s k : ℕ) → list_any (is_begun_of s k) (all_events it.openings) ≡ true → has_up R s k ≡ ups_of it.openings s k
      = λ s k begun. ups_remembered C n 0 J.seen.own J.launcher.seen e.life R ended seen_law at_last ends s k
      (ap (λ l. has_begun l s k) it.opens.seen_is ∙ (begun_entered s k 0 (all_events it.openings) ∙ begun)) ∙ it.opens.ups_are s k in
      record {
        openings = it.openings;
        all = it.all;
        later = listed.0;
        list_is = begins_so;
        after = entered.0;
        journal_is = entered.1 ∙ ap (λ l. entered.0 ++ l) it.opens.seen_is;
        ups_are = ups;
        comes = record {
          came = came_in it.openings;
          came_is = ap (λ m. first_came R m 0 (reverse (worker_list R 0))) (sym it.all) ∙ launches_come R it.openings (worker_list R 0) listed.0 begins_so ups;
          first = each_came (ComesFirst R) it.openings (λ s k up.
              let came : up_in J.launcher.seen s k ≡ true = it.opens.ups_are s k ∙ up in
              let b = shows.boots s (let l = short_up it.openings s k up in let q = it.all in omega (arith, l, q)) in
              let remains : Behind b.events (seen_at e.life.cells s)
              = attends_kept C n (Remains C n s b.events) (remains_kept C n s b.events) wire d.most _ d.entrance e.entrance J e.life d.place.drawn e.place.drawn a by.attends b.seen in
              record { up = first_up J shows s k came; boot = first_boot J s k b (remained n 0 s b.events e.life R ended remains ends) came });
        };
        came_are = refl;
      }

  first_begins : (ds : List DoorIs) (as' : List Attended) (es : List DoorIs) → 0 < length ds → AllAttended wire C n z most 0 ds as' es → AllBegin C n 0 (lives_of ds) → AllEnd n 0 (lives_of es) R ended → OpensFirst C m (lives_of ds)
      → ShowsFirst C n m okd (lives_of ds) → BeginsWithLaunches C R
  first_begins [] as' es l h begin end opened shown = absurd (omega arith)
  first_begins (d ∷ ds) [] es l h begin end opened shown = absurd h
  first_begins (d ∷ ds) (a ∷ as') [] l h begin end opened shown = absurd h
  first_begins (d ∷ ds) (a ∷ as') (e ∷ es) l h begin end opened shown = worker_begins d a e h.2 begin.0 end.0 opened shown

  pub begins_with_launches : (lives : List Life) (old new : PlacesAre) (connections : ℕ) (starved : _) (d : DoorsDone wire C n z most lives old new connections starved) → 0 < length old.entrances → AllEnd n 0 lives R ended
      → OpensFirst C m (lives_of d.before) → ShowsFirst C n m okd (lives_of d.before) → BeginsWithLaunches C R
  begins_with_launches lives old new connections starved d doors ends opened shown =
      let long : length old.entrances ≡ length d.before = ap length d.old_is ∙ map_length (λ (x : DoorIs). x.entrance) d.before in
      first_begins d.before d.attended d.after (omega (arith, doors, long)) d.each d.begin (subst (λ Js. AllEnd n 0 Js R ended) d.lives_are ends) opened shown
    where
      map_length : {A B : Type 0} (f : A → B) (xs : List A) → length (map f xs) ≡ length xs
      map_length f [] = refl
      map_length f (x ∷ xs) = ap suc (map_length f xs)
