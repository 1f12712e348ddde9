-- How the launcher's list goes on with a launch, and what is known of its children.
use Rattle.std.proofs.Common.{◌≡◌, ◌≤◌, ⊎_elim, ℕ, suc, ◌+◌, Bool, true, false, List, ◌∷◌, Option, Some, None, length, sym, subst, arith}
use Rattle.std.specs.Prelude.{◌==◌, ◌&&◌, Result, Ok, Err, IfOk, OnErr}
use Rattle.std.proofs.lemmas.Bool.{and_parts, eqb-true, false≢true, or_cases}
use Rattle.okws_base.specs.declared.journal.Entry.{Entry}
use Rattle.okws_plan.specs.Configuration.{cols}
use Rattle.okws_plan.specs.declared.configuration.Config.{Config}
use Rattle.okws_plan.specs.declared.event.LauncherEvent.{LauncherEvent}
use Rattle.okws_plan.specs.declared.event.LauncherEvent.TheVariants as event
use Rattle.okws_plan.specs.declared.event.OkdEvent.TheVariants as okd
use Rattle.okws_plan.specs.declared.script.Place.{Place}
use Rattle.okws_outer.specs.Families.{Family}
use Rattle.monitor_model.specs.declared.record.Own.TheVariants as own
use Rattle.monitor_model.specs.Launcher.{begun}
use Rattle.monitor_model.specs.Launches.{with_cleared, with_installs, with_revokes}
use Rattle.site_cells.specs.Row.{CellsSeen}
use Rattle.launch_journal.specs.Launches.{Launches, entered}
use Rattle.launch_crew.specs.Crews.{CrewIs}
use Rattle.launch_crew.specs.Ended.{Attended, tells_ended}
use Rattle.launch_crew.specs.Listed.{of_cells, AreCounted, CellsGo, InstallsFirst}
use Rattle.launch_crew.specs.Steps.{SameHands}
use Rattle.okld_launch.specs.Children.{StaysAttended}
use Rattle.okld_launch.specs.Going.{with_entry}
use Rattle.okld_launch.specs.Launchers.{LauncherIs}
use Rattle.okld_launch.specs.Pieces.{with_up, EndsAreTold, IsWhole, IsUnderWay, IsClosed, IsOnWay}
use Rattle.okld_launch.proofs.Children.{hands_stay}
use Rattle.okld_launch.proofs.Pieces.{TellsNone, whole_entered, whole_goes, way_begun, way_goes, way_cleared, way_installed, way_front, way_booted, way_up, way_revoked, way_failed}
use Rattle.okld_launch.proofs.Stating.{launch_of}

-- what was known of ended children stays told
told_still : (first : Family) (ended : ℕ → ℕ → Bool) (c d : CrewIs) → StaysAttended c d → Attended c → EndsAreTold first ended c → EndsAreTold first ended d
told_still first ended c d stays at h = (
  (let since = h.0 in let more = (stays.ended at).more in omega (arith, since, more)),
  λ t j x. (stays.ended at).told (length first.finished) t j h.0 (h.1 t j x),
)

-- nothing was asked yet
pub told_first : (first : Family) (c : CrewIs) → c.family ≡ first → EndsAreTold first (λ s k. false) c
told_first first c same = (
  subst (λ (f : Family). length first.finished ≤ length f.finished) (sym same) (least (length first.finished)),
  λ s k h. absurd (false≢true h),
)
  where
    least : (n : ℕ) → n ≤ n
    least n = omega arith

module _ (C : Config) (seed : List ℕ) (first : Family) (up ended : ℕ → ℕ → Bool) (l m : LauncherIs) (s k : ℕ) (journal : m.journal ≡ l.journal) (stays : StaysAttended l.crew m.crew) where
  abbrev At : Option ℕ → LauncherIs → Type 0
  At steps n = IsUnderWay C seed up s k steps n.journal.past n.crew.watch.cells n.crew.own

  -- one step more
  way_by : (from to : Option ℕ) → (At from l → At to m) → IsOnWay C seed first up ended from (launch_of l s k) → IsOnWay C seed first up ended to (launch_of m s k)
  way_by from to step h = record { way = step h.way; attended = stays.attended h.attended; told = told_still first ended l.crew m.crew stays h.attended h.told }

  closed_by : (now : ℕ → ℕ → Bool) (from : Option ℕ) → (At from l → IsWhole C seed now m.journal.past m.crew.watch.cells m.crew.own) → IsOnWay C seed first up ended from (launch_of l s k) → IsClosed C seed first now ended m
  closed_by now from step h = record { whole = step h.way; attended = stays.attended h.attended; told = told_still first ended l.crew m.crew stays h.attended h.told }

  pub way_clears : m.crew.own ≡ with_cleared C (of_cells m.crew.watch.cells) s l.crew.own → CellsGo l.crew.watch m.crew.watch → AreCounted l.crew.watch l.crew.own → IsOnWay C seed first up ended None (launch_of l s k) → IsOnWay C seed first up ended (Some 0) (launch_of m s k)
  way_clears is go counted = way_by None (Some 0) (λ (h : At None l). subst (λ (j : Launches). IsUnderWay C seed up s k (Some 0) j.past m.crew.watch.cells m.crew.own) (sym journal)
      (way_cleared C seed up s k l.journal.past l.crew.watch.cells m.crew.watch.cells l.crew.own m.crew.own go counted is h))

  pub way_places : m.crew.watch ≡ l.crew.watch → m.crew.own ≡ with_installs seed s k (cols C s) l.crew.own → IsOnWay C seed first up ended (Some 0) (launch_of l s k) → IsOnWay C seed first up ended (Some (length (cols C s))) (launch_of m s k)
  way_places watch is = way_by (Some 0) (Some (length (cols C s))) (λ (h : At (Some 0) l). subst (λ (j : Launches). IsUnderWay C seed up s k (Some (length (cols C s))) j.past m.crew.watch.cells m.crew.own) (sym journal)
      (subst (λ (w : CellsSeen). IsUnderWay C seed up s k (Some (length (cols C s))) l.journal.past w.cells m.crew.own) (sym watch)
      (way_installed C seed up s k l.journal.past l.crew.watch.cells l.crew.own m.crew.own is h)))

  pub way_fronts : m.crew.watch ≡ l.crew.watch → (rest : List Place) (f : InstallsFirst seed s k (cols C s) rest l.crew.own m.crew.own) → IsOnWay C seed first up ended (Some 0) (launch_of l s k) → IsOnWay C seed first up ended (Some (length f.done)) (launch_of m s k)
  way_fronts watch rest f = way_by (Some 0) (Some (length f.done)) (λ (h : At (Some 0) l). subst (λ (j : Launches). IsUnderWay C seed up s k (Some (length f.done)) j.past m.crew.watch.cells m.crew.own) (sym journal)
      (subst (λ (w : CellsSeen). IsUnderWay C seed up s k (Some (length f.done)) l.journal.past w.cells m.crew.own) (sym watch)
      (way_front C seed up s k l.journal.past l.crew.watch.cells l.crew.own m.crew.own rest f h)))

  -- while others go on at the cells
  waits : CellsGo l.crew.watch m.crew.watch → AreCounted l.crew.watch l.crew.own → (n : ℕ) → At (Some n) l → IsUnderWay C seed up s k (Some n) m.journal.past m.crew.watch.cells l.crew.own
  waits go counted n h = subst (λ (j : Launches). IsUnderWay C seed up s k (Some n) j.past m.crew.watch.cells l.crew.own) (sym journal)
      (way_goes C seed up s k l.journal.past n l.crew.watch.cells m.crew.watch.cells l.crew.own go counted h)

  pub way_starts : CellsGo l.crew.watch m.crew.watch → AreCounted l.crew.watch l.crew.own → m.crew.own ≡ own.Boot s k ∷ l.crew.own → IsOnWay C seed first up ended (Some (length (cols C s))) (launch_of l s k) → IsOnWay C seed first up ended (Some (suc (length (cols C s)))) (launch_of m s k)
  way_starts go counted is = way_by (Some (length (cols C s))) (Some (suc (length (cols C s)))) (λ (h : At (Some (length (cols C s))) l).
      way_booted C seed up s k m.journal.past m.crew.watch.cells l.crew.own m.crew.own is (waits go counted (length (cols C s)) h))

  pub way_misses : CellsGo l.crew.watch m.crew.watch → AreCounted l.crew.watch l.crew.own → m.crew.own ≡ l.crew.own → (n : ℕ) → IsOnWay C seed first up ended (Some n) (launch_of l s k) → IsOnWay C seed first up ended (Some n) (launch_of m s k)
  way_misses go counted same n = way_by (Some n) (Some n) (λ (h : At (Some n) l). subst (IsUnderWay C seed up s k (Some n) m.journal.past m.crew.watch.cells) (sym same) (waits go counted n h))

  -- while nobody does
  rests : m.crew.watch ≡ l.crew.watch → (n : ℕ) → At (Some n) l → IsUnderWay C seed up s k (Some n) m.journal.past m.crew.watch.cells l.crew.own
  rests watch n h = subst (λ (j : Launches). IsUnderWay C seed up s k (Some n) j.past m.crew.watch.cells l.crew.own) (sym journal)
      (subst (λ (w : CellsSeen). IsUnderWay C seed up s k (Some n) l.journal.past w.cells l.crew.own) (sym watch) h)

  pub way_same : m.crew.watch ≡ l.crew.watch → m.crew.own ≡ l.crew.own → (n : ℕ) → IsOnWay C seed first up ended (Some n) (launch_of l s k) → IsOnWay C seed first up ended (Some n) (launch_of m s k)
  way_same watch same n = way_by (Some n) (Some n) (λ (h : At (Some n) l). subst (IsUnderWay C seed up s k (Some n) m.journal.past m.crew.watch.cells) (sym same) (rests watch n h))

  pub closes_up : m.crew.watch ≡ l.crew.watch → m.crew.own ≡ own.Okd (okd.Up s k) ∷ l.crew.own → IsOnWay C seed first up ended (Some (suc (length (cols C s)))) (launch_of l s k) → IsClosed C seed first (with_up s k up) ended m
  closes_up watch is = closed_by (with_up s k up) (Some (suc (length (cols C s)))) (λ (h : At (Some (suc (length (cols C s)))) l).
      way_up C seed up s k m.journal.past m.crew.watch.cells l.crew.own m.crew.own is (rests watch (suc (length (cols C s))) h))

  pub closes_off : m.crew.watch ≡ l.crew.watch → m.crew.own ≡ with_revokes C s l.crew.own → (n : ℕ) → IsOnWay C seed first up ended (Some n) (launch_of l s k) → IsClosed C seed first up ended m
  closes_off watch is n = closed_by up (Some n) (λ (h : At (Some n) l). way_revoked C seed up s k m.journal.past m.crew.watch.cells l.crew.own m.crew.own n is (rests watch n h))

-- ---- between launches

module _ (C : Config) (seed : List ℕ) (first : Family) (up ended : ℕ → ℕ → Bool) (l m : LauncherIs) where
  -- it is entered that it failed
  pub closes_failed : (s k : ℕ) → m ≡ record l { journal = entered l.journal (event.Failed s k) } → k ≡ begun l.journal.past s → IsOnWay C seed first up ended (Some (length (cols C s))) (launch_of l s k) → IsClosed C seed first up ended m
  closes_failed s k is greatest h = subst (IsClosed C seed first up ended) (sym is)
      (record { whole = way_failed C seed up s k l.journal.past l.journal.holder l.crew.watch.cells l.crew.own greatest h.way; attended = h.attended; told = h.told })

  -- there is more room
  pub closed_roomier : (r q : ℕ) → m ≡ record l { journal = record l.journal { room = r }; crew = record l.crew { room = q } } → IsClosed C seed first up ended l → IsClosed C seed first up ended m
  closed_roomier r q is h = subst (IsClosed C seed first up ended) (sym is) (record { whole = h.whole; attended = h.attended; told = h.told })

  pub closed_roomy : (r : ℕ) → m ≡ record l { journal = record l.journal { room = r } } → IsClosed C seed first up ended l → IsClosed C seed first up ended m
  closed_roomy r is h = subst (IsClosed C seed first up ended) (sym is) (record { whole = h.whole; attended = h.attended; told = h.told })

  -- another number holds it
  pub closed_held : (n : ℕ) → m ≡ record l { journal = record l.journal { holder = n } } → IsClosed C seed first up ended l → IsClosed C seed first up ended m
  closed_held n is h = subst (IsClosed C seed first up ended) (sym is) (record { whole = h.whole; attended = h.attended; told = h.told })

  pub closed_entered : (e : LauncherEvent) → TellsNone e → m ≡ record l { journal = entered l.journal e } → IsClosed C seed first up ended l → IsClosed C seed first up ended m
  closed_entered e other is h = subst (IsClosed C seed first up ended) (sym is)
      (record { whole = whole_entered C seed l.journal.past l.crew.watch.cells l.crew.own l.journal.holder up h.whole e other; attended = h.attended; told = h.told })

  pub closed_met : m ≡ record l { crew = record l.crew { watch = m.crew.watch } } → CellsGo l.crew.watch m.crew.watch → AreCounted l.crew.watch l.crew.own → StaysAttended l.crew m.crew → IsClosed C seed first up ended l → IsClosed C seed first up ended m
  closed_met is go counted stays h = record {
    whole = subst (λ (x : LauncherIs). IsWhole C seed up x.journal.past x.crew.watch.cells x.crew.own) (sym is) (whole_goes C seed up l.journal.past l.crew.watch.cells m.crew.watch.cells l.crew.own go counted h.whole);
    attended = stays.attended h.attended;
    told = told_still first ended l.crew m.crew stays h.attended h.told;
  }

  pub closed_asked : m ≡ record l { crew = record l.crew { running = m.crew.running } } → StaysAttended l.crew m.crew → IsClosed C seed first up ended l → IsClosed C seed first up ended m
  closed_asked is stays h = record {
    whole = subst (λ (x : LauncherIs). IsWhole C seed up x.journal.past x.crew.watch.cells x.crew.own) (sym is) h.whole;
    attended = stays.attended h.attended;
    told = told_still first ended l.crew m.crew stays h.attended h.told;
  }

  pub closed_given : {X : Type 0} (r : Result ℕ X) (s : ℕ) → IfOk r (λ n. m.journal.past ≡ with_entry l.journal.holder (event.Dead s n) l.journal.past) → OnErr r (m.journal.past ≡ l.journal.past) → m ≡ record l { journal = m.journal } → IsClosed C seed first up ended l → IsClosed C seed first up ended m
  closed_given (Ok n) s ok err is h = subst (IsClosed C seed first up ended) (sym is)
      (record { whole = subst (λ (J : List (Entry LauncherEvent)). IsWhole C seed up J l.crew.watch.cells l.crew.own) (sym ok) (whole_entered C seed l.journal.past l.crew.watch.cells l.crew.own l.journal.holder up h.whole (event.Dead s n) tt); attended = h.attended; told = h.told })
  closed_given (Err x) s ok err is h = subst (IsClosed C seed first up ended) (sym is)
      (record { whole = subst (λ (J : List (Entry LauncherEvent)). IsWhole C seed up J l.crew.watch.cells l.crew.own) (sym err) h.whole; attended = h.attended; told = h.told })

  pub way_opens : (s k : ℕ) → k ≡ begun l.journal.past s + 1 → m.journal ≡ entered l.journal (event.Begun s k) → m.crew.own ≡ l.crew.own → SameHands l.crew m.crew → IsClosed C seed first up ended l → IsOnWay C seed first up ended None (launch_of m s k)
  way_opens s k next journal same hands h = record {
    way = subst (IsUnderWay C seed up s k None m.journal.past m.crew.watch.cells) (sym same)
        (subst (λ (w : CellsSeen). IsUnderWay C seed up s k None m.journal.past w.cells l.crew.own) (sym hands.watch_is)
        (subst (λ (j : Launches). IsUnderWay C seed up s k None j.past l.crew.watch.cells l.crew.own) (sym journal) (way_begun C seed up l.journal.past l.crew.watch.cells l.crew.own l.journal.holder s k next h.whole)));
    attended = (hands_stay l.crew m.crew hands).attended h.attended;
    told = told_still first ended l.crew m.crew (hands_stay l.crew m.crew hands) h.attended h.told;
  }

-- it is told of a child that it has ended
pub closed_ended : (C : Config) (seed : List ℕ) (first : Family) (up ended : ℕ → ℕ → Bool) (l : LauncherIs) (s k : ℕ) → tells_ended (length first.finished) l.crew s k ≡ true → IsClosed C seed first up ended l → IsClosed C seed first up (with_up s k ended) l
closed_ended C seed first up ended l s k is h = record {
  whole = h.whole;
  attended = h.attended;
  told = (
    h.told.0,
    λ t j x. ⊎_elim
        (λ (here : ((s == t) && (k == j)) ≡ true).
        let parts = and_parts (s == t) (k == j) here in
        let old = length first.finished in
        subst (λ (n : ℕ). tells_ended old l.crew n j ≡ true) (eqb-true s t parts.0) (subst (λ (n : ℕ). tells_ended old l.crew s n ≡ true) (eqb-true k j parts.1) is))
        (λ (there : ended t j ≡ true). h.told.1 t j there)
        (or_cases ((s == t) && (k == j)) (ended t j) x),
  );
}
