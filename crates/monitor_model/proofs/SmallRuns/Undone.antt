-- A request of no connection, a launch that skips a column, a crash that leads to nothing, and a launch that is late: each record fails by one part alone.
use Rattle.std.proofs.Common.{◌≡◌, ℕ, ◌<◌, ◌≤◌, Bool, true, false, List, [], ◌∷◌, ◌++◌, Some, None, refl, ap, ◌∙◌, arith, filter_map, codes}
use Rattle.std.specs.List.{list_any}
use Rattle.monitor_model.specs.declared.record.Own.{Own}
use Rattle.monitor_model.specs.declared.record.Own.TheVariants as own
use Rattle.monitor_model.specs.Connections.{Share, Accepted, AllServed, AreVisits, ConnectionsAreServed, visits_to}
use Rattle.monitor_model.specs.Causes.{LaunchesHaveCauses}
use Rattle.monitor_model.specs.First.{LaunchesComeFirst}
use Rattle.monitor_model.specs.Launches.{Fate, CameUp, Failed, BrokeOff, LaunchesArePieces, AreFates, attempts, all_pieces}
use Rattle.monitor_model.specs.Lawful.{JournalsAreLawful}
use Rattle.monitor_model.specs.Legality.{IsLegal, FailsBy, Holds, Part, ListsMakeJournals}
use Rattle.monitor_model.specs.Legality as part
use Rattle.monitor_model.specs.Merged.{IsOwn, list_of, cell_past}
use Rattle.monitor_model.specs.Missing.{MissesAreTrue}
use Rattle.monitor_model.specs.Pieces.{ListsArePieces, worker_list}
use Rattle.monitor_model.specs.SmallRuns.{one, quiet, ended_child, unasked_accept, skipped_column, forgotten_crash, late_launch}
use Rattle.monitor_model.specs.Seen.{proxy_past}
use Rattle.monitor_model.specs.Worker.{Unowned}
use Rattle.monitor_model.proofs.SmallRuns.Plain.{not_zero, below_three, one_proxy, one_cell, any_after}

-- the launcher's steps
below_one : 0 < 1
below_one = omega arith

none_of_none : 0 ≤ 0
none_of_none = omega arith

one_is_some : ◌≡◌ {A = ℕ} 1 0 → ⊥
one_is_some is = omega (arith, is)

-- ---- unasked_accept

unasked_accept_is_own : (seed : List ℕ) (w : ℕ) → w < 3 → IsOwn (unasked_accept seed) 2 w (list_of (unasked_accept seed) w)
unasked_accept_is_own seed = below_three (λ (w : ℕ). IsOwn (unasked_accept seed) 2 w (list_of (unasked_accept seed) w))
    (record {
      okd = refl;
      proxies = one_proxy (proxy_past (unasked_accept seed).proxies 0) 0 (list_of (unasked_accept seed) 0) refl (λ p. refl);
      pubd = refl;
      oklogd = refl;
      launchers = refl;
      cells = one_cell (cell_past (unasked_accept seed) 0) 2 0 (list_of (unasked_accept seed) 0) refl (λ s. refl);
    })
    (record {
      okd = refl;
      proxies = one_proxy (proxy_past (unasked_accept seed).proxies 0) 1 (list_of (unasked_accept seed) 1) refl (λ p. refl);
      pubd = refl;
      oklogd = refl;
      launchers = refl;
      cells = one_cell (cell_past (unasked_accept seed) 0) 2 1 (list_of (unasked_accept seed) 1) refl (λ s. refl);
    })
    (record {
      okd = refl;
      proxies = one_proxy (proxy_past (unasked_accept seed).proxies 0) 2 (list_of (unasked_accept seed) 2) refl (λ p. rw (not_zero p) refl);
      pubd = refl;
      oklogd = refl;
      launchers = refl;
      cells = one_cell (cell_past (unasked_accept seed) 0) 2 2 (list_of (unasked_accept seed) 2) refl (λ s. rw (not_zero s) refl);
    })

unasked_accept_is_made : (seed : List ℕ) → ListsMakeJournals (unasked_accept seed)
unasked_accept_is_made seed = record { merged = record { own = unasked_accept_is_own seed; below = refl }; alone = record { workers = refl; launches = refl } }

unasked_accept_is_pieced : (seed : List ℕ) → ListsArePieces one quiet (unasked_accept seed)
unasked_accept_is_pieced seed = record { workers_are = refl; pieces = (refl, (refl, tt)); doors = (refl, tt); console = refl; orders = refl }

unasked_accept_is_missed : (seed : List ℕ) → MissesAreTrue (unasked_accept seed)
unasked_accept_is_missed seed = record { missed = (((tt, tt), tt), tt); shown = ((tt, (tt, tt)), tt) }

unasked_accept_is_lawful : (seed : List ℕ) → JournalsAreLawful one seed quiet (unasked_accept seed)
unasked_accept_is_lawful seed = record {
  proxies_are = refl;
  cells_are = refl;
  cells = (((tt, (refl, below_one)), one_is_some), tt);
  dialogs = (tt, (tt, tt));
  launcher = (tt, refl);
  okd = ((tt, below_one), tt);
  proxies = ((tt, (below_one, refl)), tt);
  pubd = (tt, below_one);
  oklogd = (tt, below_one);
  faults_are = (none_of_none, tt);
}

unasked_accept_is_launched : (seed : List ℕ) → LaunchesArePieces one seed quiet (unasked_accept seed)
unasked_accept_is_launched seed = record {
  fates = CameUp ∷ [];
  ending = own.Retired 0 ∷ [];
  are_fates = (refl, tt);
  list_is = refl;
  ends = record { retireds = refl; each = (refl, tt) };
  failures_are = none_of_none;
}

unasked_accept_is_caused : (seed : List ℕ) → LaunchesHaveCauses quiet (unasked_accept seed)
unasked_accept_is_caused seed = record { lead = refl; told = (refl, (refl, tt)); crashed = (refl, (refl, tt)); caused = refl }

unasked_accept_is_first : (seed : List ℕ) → LaunchesComeFirst one (unasked_accept seed)
unasked_accept_is_first seed = record {
  came = record { service = 0; incarnation = 1 } ∷ [];
  came_is = refl;
  first = (record { up = refl; boot = refl }, tt);
}

no_visit : (seed : List ℕ) (shares : List Share) → AllServed [] shares
    → AreVisits (filter_map (λ (share : Share). share.visit) shares) (visits_to one (unasked_accept seed) 0 None (worker_list (unasked_accept seed) 0)) → ⊥
no_visit seed [] served visits = let bad : [] ≡ Accepted (codes "/x") Unowned ∷ visits.0 = visits.1 in cc
no_visit seed (share ∷ shares) served visits = absurd served

unasked_accept_is_unasked : (seed : List ℕ) → ConnectionsAreServed one quiet (unasked_accept seed) → ⊥
unasked_accept_is_unasked seed h = no_visit seed h.0.shares h.0.served h.0.visits

unasked_accept_has : (seed : List ℕ) (other : Part) → (other ≡ part.Served → ⊥) → Holds other one seed quiet (unasked_accept seed)
unasked_accept_has seed part.Made differs = unasked_accept_is_made seed
unasked_accept_has seed part.Pieced differs = unasked_accept_is_pieced seed
unasked_accept_has seed part.Missed differs = unasked_accept_is_missed seed
unasked_accept_has seed part.Lawful differs = unasked_accept_is_lawful seed
unasked_accept_has seed part.Served differs = absurd (differs refl)
unasked_accept_has seed part.Launched differs = unasked_accept_is_launched seed
unasked_accept_has seed part.Caused differs = unasked_accept_is_caused seed
unasked_accept_has seed part.First differs = unasked_accept_is_first seed

pub unasked_accept_fails : (seed : List ℕ) → FailsBy part.Served one seed quiet (unasked_accept seed)
unasked_accept_fails seed = record { fails = unasked_accept_is_unasked seed; others = unasked_accept_has seed }

-- ---- skipped_column

skipped_column_is_own : (seed : List ℕ) (w : ℕ) → w < 3 → IsOwn (skipped_column seed) 2 w (list_of (skipped_column seed) w)
skipped_column_is_own seed = below_three (λ (w : ℕ). IsOwn (skipped_column seed) 2 w (list_of (skipped_column seed) w))
    (record {
      okd = refl;
      proxies = one_proxy (proxy_past (skipped_column seed).proxies 0) 0 (list_of (skipped_column seed) 0) refl (λ p. refl);
      pubd = refl;
      oklogd = refl;
      launchers = refl;
      cells = one_cell (cell_past (skipped_column seed) 0) 2 0 (list_of (skipped_column seed) 0) refl (λ s. refl);
    })
    (record {
      okd = refl;
      proxies = one_proxy (proxy_past (skipped_column seed).proxies 0) 1 (list_of (skipped_column seed) 1) refl (λ p. refl);
      pubd = refl;
      oklogd = refl;
      launchers = refl;
      cells = one_cell (cell_past (skipped_column seed) 0) 2 1 (list_of (skipped_column seed) 1) refl (λ s. refl);
    })
    (record {
      okd = refl;
      proxies = one_proxy (proxy_past (skipped_column seed).proxies 0) 2 (list_of (skipped_column seed) 2) refl (λ p. refl);
      pubd = refl;
      oklogd = refl;
      launchers = refl;
      cells = one_cell (cell_past (skipped_column seed) 0) 2 2 (list_of (skipped_column seed) 2) refl (λ s. rw (not_zero s) refl);
    })

skipped_column_is_made : (seed : List ℕ) → ListsMakeJournals (skipped_column seed)
skipped_column_is_made seed = record { merged = record { own = skipped_column_is_own seed; below = refl }; alone = record { workers = refl; launches = refl } }

skipped_column_is_pieced : (seed : List ℕ) → ListsArePieces one quiet (skipped_column seed)
skipped_column_is_pieced seed = record { workers_are = refl; pieces = (refl, (refl, tt)); doors = (refl, tt); console = refl; orders = refl }

skipped_column_is_missed : (seed : List ℕ) → MissesAreTrue (skipped_column seed)
skipped_column_is_missed seed = record { missed = (((tt, tt), tt), tt); shown = ((tt, (tt, tt)), tt) }

skipped_column_is_lawful : (seed : List ℕ) → JournalsAreLawful one seed quiet (skipped_column seed)
skipped_column_is_lawful seed = record {
  proxies_are = refl;
  cells_are = refl;
  cells = (((tt, (refl, below_one)), one_is_some), tt);
  dialogs = (tt, (tt, tt));
  launcher = (tt, refl);
  okd = (tt, below_one);
  proxies = (tt, tt);
  pubd = (tt, below_one);
  oklogd = (tt, below_one);
  faults_are = (none_of_none, tt);
}

skipped_column_is_served : (seed : List ℕ) → ConnectionsAreServed one quiet (skipped_column seed)
skipped_column_is_served seed = (record { shares = []; served = tt; visits = refl; cut = none_of_none }, tt)

skipped_column_is_caused : (seed : List ℕ) → LaunchesHaveCauses quiet (skipped_column seed)
skipped_column_is_caused seed = record { lead = refl; told = (refl, (refl, tt)); crashed = (refl, (refl, tt)); caused = refl }

skipped_column_is_first : (seed : List ℕ) → LaunchesComeFirst one (skipped_column seed)
skipped_column_is_first seed = record {
  came = record { service = 0; incarnation = 1 } ∷ [];
  came_is = refl;
  first = (record { up = refl; boot = refl }, tt);
}

-- an item of a proxy
abbrev at_proxy : Own → Bool
at_proxy (own.Proxy p e) = true
at_proxy _ = false

not_skipped : (seed : List ℕ) (fates : List Fate) (ending : List Own) → AreFates (skipped_column seed) (attempts (skipped_column seed).launcher) fates
    → (skipped_column seed).launches ≡ ending ++ all_pieces one seed (skipped_column seed) (attempts (skipped_column seed).launcher) fates → ⊥
not_skipped seed [] ending are list_is = absurd are
not_skipped seed (fate ∷ other ∷ fates) ending are list_is = absurd are.1
not_skipped seed (Failed ∷ []) ending are list_is = let bad : false ≡ true = are.0 in cc
not_skipped seed (BrokeOff n ∷ []) ending are list_is = let bad : false ≡ true = are.0.1 in cc
not_skipped seed (CameUp ∷ []) ending are list_is =
    let none : false ≡ list_any at_proxy (ending ++ all_pieces one seed (skipped_column seed) (attempts (skipped_column seed).launcher) (CameUp ∷ [])) = ap (list_any at_proxy) list_is in
    let some : list_any at_proxy (ending ++ all_pieces one seed (skipped_column seed) (attempts (skipped_column seed).launcher) (CameUp ∷ [])) ≡ true
    = any_after at_proxy ending (all_pieces one seed (skipped_column seed) (attempts (skipped_column seed).launcher) (CameUp ∷ [])) refl in
    let bad : false ≡ true = none ∙ some in
    cc

skipped_column_is_skipped : (seed : List ℕ) → LaunchesArePieces one seed quiet (skipped_column seed) → ⊥
skipped_column_is_skipped seed h = not_skipped seed h.fates h.ending h.are_fates h.list_is

skipped_column_has : (seed : List ℕ) (other : Part) → (other ≡ part.Launched → ⊥) → Holds other one seed quiet (skipped_column seed)
skipped_column_has seed part.Made differs = skipped_column_is_made seed
skipped_column_has seed part.Pieced differs = skipped_column_is_pieced seed
skipped_column_has seed part.Missed differs = skipped_column_is_missed seed
skipped_column_has seed part.Lawful differs = skipped_column_is_lawful seed
skipped_column_has seed part.Served differs = skipped_column_is_served seed
skipped_column_has seed part.Launched differs = absurd (differs refl)
skipped_column_has seed part.Caused differs = skipped_column_is_caused seed
skipped_column_has seed part.First differs = skipped_column_is_first seed

pub skipped_column_fails : (seed : List ℕ) → FailsBy part.Launched one seed quiet (skipped_column seed)
skipped_column_fails seed = record { fails = skipped_column_is_skipped seed; others = skipped_column_has seed }

-- ---- forgotten_crash

forgotten_crash_is_own : (seed : List ℕ) (w : ℕ) → w < 3 → IsOwn (forgotten_crash seed) 2 w (list_of (forgotten_crash seed) w)
forgotten_crash_is_own seed = below_three (λ (w : ℕ). IsOwn (forgotten_crash seed) 2 w (list_of (forgotten_crash seed) w))
    (record {
      okd = refl;
      proxies = one_proxy (proxy_past (forgotten_crash seed).proxies 0) 0 (list_of (forgotten_crash seed) 0) refl (λ p. refl);
      pubd = refl;
      oklogd = refl;
      launchers = refl;
      cells = one_cell (cell_past (forgotten_crash seed) 0) 2 0 (list_of (forgotten_crash seed) 0) refl (λ s. refl);
    })
    (record {
      okd = refl;
      proxies = one_proxy (proxy_past (forgotten_crash seed).proxies 0) 1 (list_of (forgotten_crash seed) 1) refl (λ p. refl);
      pubd = refl;
      oklogd = refl;
      launchers = refl;
      cells = one_cell (cell_past (forgotten_crash seed) 0) 2 1 (list_of (forgotten_crash seed) 1) refl (λ s. refl);
    })
    (record {
      okd = refl;
      proxies = one_proxy (proxy_past (forgotten_crash seed).proxies 0) 2 (list_of (forgotten_crash seed) 2) refl (λ p. rw (not_zero p) refl);
      pubd = refl;
      oklogd = refl;
      launchers = refl;
      cells = one_cell (cell_past (forgotten_crash seed) 0) 2 2 (list_of (forgotten_crash seed) 2) refl (λ s. rw (not_zero s) refl);
    })

forgotten_crash_is_made : (seed : List ℕ) → ListsMakeJournals (forgotten_crash seed)
forgotten_crash_is_made seed = record { merged = record { own = forgotten_crash_is_own seed; below = refl }; alone = record { workers = refl; launches = refl } }

forgotten_crash_is_pieced : (seed : List ℕ) → ListsArePieces one ended_child (forgotten_crash seed)
forgotten_crash_is_pieced seed = record { workers_are = refl; pieces = (refl, (refl, tt)); doors = (refl, tt); console = refl; orders = refl }

forgotten_crash_is_missed : (seed : List ℕ) → MissesAreTrue (forgotten_crash seed)
forgotten_crash_is_missed seed = record { missed = (((tt, tt), tt), tt); shown = ((tt, (tt, tt)), tt) }

forgotten_crash_is_lawful : (seed : List ℕ) → JournalsAreLawful one seed ended_child (forgotten_crash seed)
forgotten_crash_is_lawful seed = record {
  proxies_are = refl;
  cells_are = refl;
  cells = (((tt, (refl, below_one)), one_is_some), tt);
  dialogs = (tt, (tt, tt));
  launcher = ((tt, refl), refl);
  okd = (tt, below_one);
  proxies = ((tt, (below_one, refl)), tt);
  pubd = (tt, below_one);
  oklogd = (tt, below_one);
  faults_are = (none_of_none, tt);
}

forgotten_crash_is_served : (seed : List ℕ) → ConnectionsAreServed one ended_child (forgotten_crash seed)
forgotten_crash_is_served seed = (record { shares = []; served = tt; visits = refl; cut = none_of_none }, tt)

forgotten_crash_is_launched : (seed : List ℕ) → LaunchesArePieces one seed ended_child (forgotten_crash seed)
forgotten_crash_is_launched seed = record {
  fates = CameUp ∷ [];
  ending = own.Retired 0 ∷ [];
  are_fates = (refl, tt);
  list_is = refl;
  ends = record { retireds = refl; each = (refl, tt) };
  failures_are = none_of_none;
}

forgotten_crash_is_first : (seed : List ℕ) → LaunchesComeFirst one (forgotten_crash seed)
forgotten_crash_is_first seed = record {
  came = record { service = 0; incarnation = 1 } ∷ [];
  came_is = refl;
  first = (record { up = refl; boot = refl }, tt);
}

forgotten_crash_is_forgotten : (seed : List ℕ) → LaunchesHaveCauses ended_child (forgotten_crash seed) → ⊥
forgotten_crash_is_forgotten seed h = let bad : false ≡ true = h.lead in cc

forgotten_crash_has : (seed : List ℕ) (other : Part) → (other ≡ part.Caused → ⊥) → Holds other one seed ended_child (forgotten_crash seed)
forgotten_crash_has seed part.Made differs = forgotten_crash_is_made seed
forgotten_crash_has seed part.Pieced differs = forgotten_crash_is_pieced seed
forgotten_crash_has seed part.Missed differs = forgotten_crash_is_missed seed
forgotten_crash_has seed part.Lawful differs = forgotten_crash_is_lawful seed
forgotten_crash_has seed part.Served differs = forgotten_crash_is_served seed
forgotten_crash_has seed part.Launched differs = forgotten_crash_is_launched seed
forgotten_crash_has seed part.Caused differs = absurd (differs refl)
forgotten_crash_has seed part.First differs = forgotten_crash_is_first seed

pub forgotten_crash_fails : (seed : List ℕ) → FailsBy part.Caused one seed ended_child (forgotten_crash seed)
forgotten_crash_fails seed = record { fails = forgotten_crash_is_forgotten seed; others = forgotten_crash_has seed }

-- ---- late_launch

late_launch_is_own : (seed : List ℕ) (w : ℕ) → w < 3 → IsOwn (late_launch seed) 2 w (list_of (late_launch seed) w)
late_launch_is_own seed = below_three (λ (w : ℕ). IsOwn (late_launch seed) 2 w (list_of (late_launch seed) w))
    (record {
      okd = refl;
      proxies = one_proxy (proxy_past (late_launch seed).proxies 0) 0 (list_of (late_launch seed) 0) refl (λ p. refl);
      pubd = refl;
      oklogd = refl;
      launchers = refl;
      cells = one_cell (cell_past (late_launch seed) 0) 2 0 (list_of (late_launch seed) 0) refl (λ s. refl);
    })
    (record {
      okd = refl;
      proxies = one_proxy (proxy_past (late_launch seed).proxies 0) 1 (list_of (late_launch seed) 1) refl (λ p. refl);
      pubd = refl;
      oklogd = refl;
      launchers = refl;
      cells = one_cell (cell_past (late_launch seed) 0) 2 1 (list_of (late_launch seed) 1) refl (λ s. refl);
    })
    (record {
      okd = refl;
      proxies = one_proxy (proxy_past (late_launch seed).proxies 0) 2 (list_of (late_launch seed) 2) refl (λ p. rw (not_zero p) refl);
      pubd = refl;
      oklogd = refl;
      launchers = refl;
      cells = one_cell (cell_past (late_launch seed) 0) 2 2 (list_of (late_launch seed) 2) refl (λ s. rw (not_zero s) refl);
    })

late_launch_is_made : (seed : List ℕ) → ListsMakeJournals (late_launch seed)
late_launch_is_made seed = record { merged = record { own = late_launch_is_own seed; below = refl }; alone = record { workers = refl; launches = refl } }

late_launch_is_pieced : (seed : List ℕ) → ListsArePieces one quiet (late_launch seed)
late_launch_is_pieced seed = record { workers_are = refl; pieces = (refl, (refl, tt)); doors = (refl, tt); console = refl; orders = refl }

late_launch_is_missed : (seed : List ℕ) → MissesAreTrue (late_launch seed)
late_launch_is_missed seed = record { missed = (((tt, tt), tt), tt); shown = ((tt, (tt, tt)), tt) }

late_launch_is_lawful : (seed : List ℕ) → JournalsAreLawful one seed quiet (late_launch seed)
late_launch_is_lawful seed = record {
  proxies_are = refl;
  cells_are = refl;
  cells = (((tt, (refl, below_one)), one_is_some), tt);
  dialogs = (tt, (tt, tt));
  launcher = (tt, refl);
  okd = (tt, below_one);
  proxies = ((tt, (below_one, refl)), tt);
  pubd = (tt, below_one);
  oklogd = (tt, below_one);
  faults_are = (none_of_none, tt);
}

late_launch_is_served : (seed : List ℕ) → ConnectionsAreServed one quiet (late_launch seed)
late_launch_is_served seed = (record { shares = []; served = tt; visits = refl; cut = none_of_none }, tt)

late_launch_is_launched : (seed : List ℕ) → LaunchesArePieces one seed quiet (late_launch seed)
late_launch_is_launched seed = record {
  fates = CameUp ∷ [];
  ending = own.Retired 0 ∷ [];
  are_fates = (refl, tt);
  list_is = refl;
  ends = record { retireds = refl; each = (refl, tt) };
  failures_are = none_of_none;
}

late_launch_is_caused : (seed : List ℕ) → LaunchesHaveCauses quiet (late_launch seed)
late_launch_is_caused seed = record { lead = refl; told = (refl, (refl, tt)); crashed = (refl, (refl, tt)); caused = refl }

late_launch_is_late : (seed : List ℕ) → LaunchesComeFirst one (late_launch seed) → ⊥
late_launch_is_late seed h = let bad : None ≡ Some h.came = h.came_is in cc

late_launch_has : (seed : List ℕ) (other : Part) → (other ≡ part.First → ⊥) → Holds other one seed quiet (late_launch seed)
late_launch_has seed part.Made differs = late_launch_is_made seed
late_launch_has seed part.Pieced differs = late_launch_is_pieced seed
late_launch_has seed part.Missed differs = late_launch_is_missed seed
late_launch_has seed part.Lawful differs = late_launch_is_lawful seed
late_launch_has seed part.Served differs = late_launch_is_served seed
late_launch_has seed part.Launched differs = late_launch_is_launched seed
late_launch_has seed part.Caused differs = late_launch_is_caused seed
late_launch_has seed part.First differs = absurd (differs refl)

pub late_launch_fails : (seed : List ℕ) → FailsBy part.First one seed quiet (late_launch seed)
late_launch_fails seed = record { fails = late_launch_is_late seed; others = late_launch_has seed }
