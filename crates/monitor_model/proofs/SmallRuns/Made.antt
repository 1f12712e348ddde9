-- A call that nobody made, a publication that nobody ordered, and one of a template that isn't declared: each record fails by one part alone.
use Rattle.std.proofs.Common.{◌≡◌, ℕ, ◌<◌, ◌≤◌, true, false, List, [], ◌∷◌, refl, arith, codes}
use Rattle.okws_plan.specs.declared.event.LogEvent.TheVariants as oklogd
use Rattle.monitor_model.specs.declared.record.Own.TheVariants as own
use Rattle.monitor_model.specs.Connections.{ConnectionsAreServed}
use Rattle.monitor_model.specs.Causes.{LaunchesHaveCauses}
use Rattle.monitor_model.specs.First.{LaunchesComeFirst}
use Rattle.monitor_model.specs.Launches.{CameUp, LaunchesArePieces}
use Rattle.monitor_model.specs.Lawful.{JournalsAreLawful}
use Rattle.monitor_model.specs.Legality.{IsLegal, FailsBy, Holds, Part, ListsMakeJournals}
use Rattle.monitor_model.specs.Legality as part
use Rattle.monitor_model.specs.Merged.{IsOwn, list_of, cell_past}
use Rattle.monitor_model.specs.Missing.{MissesAreTrue}
use Rattle.monitor_model.specs.Pieces.{ListsArePieces}
use Rattle.monitor_model.specs.SmallRuns.{one, quiet, silent_console, invented_call, unordered_publication, undeclared_publication}
use Rattle.monitor_model.specs.Seen.{proxy_past}
use Rattle.monitor_model.proofs.SmallRuns.Plain.{not_zero, below_three, one_proxy, one_cell}

-- the launcher's steps
below_one : 0 < 1
below_one = omega arith

none_of_none : 0 ≤ 0
none_of_none = omega arith

one_is_some : ◌≡◌ {A = ℕ} 1 0 → ⊥
one_is_some is = omega (arith, is)

-- ---- invented_call

invented_call_is_pieced : (seed : List ℕ) → ListsArePieces one quiet (invented_call seed)
invented_call_is_pieced seed = record { workers_are = refl; pieces = (refl, (refl, tt)); doors = (refl, tt); console = refl; orders = refl }

invented_call_is_missed : (seed : List ℕ) → MissesAreTrue (invented_call seed)
invented_call_is_missed seed = record { missed = (((tt, tt), tt), tt); shown = ((tt, (tt, tt)), tt) }

invented_call_is_lawful : (seed : List ℕ) → JournalsAreLawful one seed quiet (invented_call seed)
invented_call_is_lawful seed = record {
  proxies_are = refl;
  cells_are = refl;
  cells = (((tt, (refl, below_one)), one_is_some), tt);
  dialogs = (tt, (tt, tt));
  launcher = (tt, refl);
  okd = (tt, below_one);
  proxies = ((tt, (below_one, refl)), tt);
  pubd = (tt, below_one);
  oklogd = ((tt, below_one), tt);
  faults_are = (none_of_none, tt);
}

invented_call_is_served : (seed : List ℕ) → ConnectionsAreServed one quiet (invented_call seed)
invented_call_is_served seed = (record { shares = []; served = tt; visits = refl; cut = none_of_none }, tt)

invented_call_is_launched : (seed : List ℕ) → LaunchesArePieces one seed quiet (invented_call seed)
invented_call_is_launched seed = record {
  fates = CameUp ∷ [];
  ending = own.Retired 0 ∷ [];
  are_fates = (refl, tt);
  list_is = refl;
  ends = record { retireds = refl; each = (refl, tt) };
  failures_are = none_of_none;
}

invented_call_is_caused : (seed : List ℕ) → LaunchesHaveCauses quiet (invented_call seed)
invented_call_is_caused seed = record { lead = refl; told = (refl, (refl, tt)); crashed = (refl, (refl, tt)); caused = refl }

invented_call_is_first : (seed : List ℕ) → LaunchesComeFirst one (invented_call seed)
invented_call_is_first seed = record {
  came = record { service = 0; incarnation = 1 } ∷ [];
  came_is = refl;
  first = (record { up = refl; boot = refl }, tt);
}

invented_call_is_foreign : (seed : List ℕ) → ListsMakeJournals (invented_call seed) → ⊥
invented_call_is_foreign seed h = let bad : (oklogd.Log 0 1 (codes "hi") ∷ []) ≡ [] = (h.merged.own 0 (omega arith)).oklogd in cc

invented_call_has : (seed : List ℕ) (other : Part) → (other ≡ part.Made → ⊥) → Holds other one seed quiet (invented_call seed)
invented_call_has seed part.Made differs = absurd (differs refl)
invented_call_has seed part.Pieced differs = invented_call_is_pieced seed
invented_call_has seed part.Missed differs = invented_call_is_missed seed
invented_call_has seed part.Lawful differs = invented_call_is_lawful seed
invented_call_has seed part.Served differs = invented_call_is_served seed
invented_call_has seed part.Launched differs = invented_call_is_launched seed
invented_call_has seed part.Caused differs = invented_call_is_caused seed
invented_call_has seed part.First differs = invented_call_is_first seed

pub invented_call_fails : (seed : List ℕ) → FailsBy part.Made one seed quiet (invented_call seed)
invented_call_fails seed = record { fails = invented_call_is_foreign seed; others = invented_call_has seed }

-- ---- unordered_publication

unordered_publication_is_own : (seed : List ℕ) (w : ℕ) → w < 3 → IsOwn (unordered_publication seed) 2 w (list_of (unordered_publication seed) w)
unordered_publication_is_own seed = below_three (λ (w : ℕ). IsOwn (unordered_publication seed) 2 w (list_of (unordered_publication seed) w))
    (record {
      okd = refl;
      proxies = one_proxy (proxy_past (unordered_publication seed).proxies 0) 0 (list_of (unordered_publication seed) 0) refl (λ p. refl);
      pubd = refl;
      oklogd = refl;
      launchers = refl;
      cells = one_cell (cell_past (unordered_publication seed) 0) 2 0 (list_of (unordered_publication seed) 0) refl (λ s. refl);
    })
    (record {
      okd = refl;
      proxies = one_proxy (proxy_past (unordered_publication seed).proxies 0) 1 (list_of (unordered_publication seed) 1) refl (λ p. refl);
      pubd = refl;
      oklogd = refl;
      launchers = refl;
      cells = one_cell (cell_past (unordered_publication seed) 0) 2 1 (list_of (unordered_publication seed) 1) refl (λ s. refl);
    })
    (record {
      okd = refl;
      proxies = one_proxy (proxy_past (unordered_publication seed).proxies 0) 2 (list_of (unordered_publication seed) 2) refl (λ p. rw (not_zero p) refl);
      pubd = refl;
      oklogd = refl;
      launchers = refl;
      cells = one_cell (cell_past (unordered_publication seed) 0) 2 2 (list_of (unordered_publication seed) 2) refl (λ s. rw (not_zero s) refl);
    })

unordered_publication_is_made : (seed : List ℕ) → ListsMakeJournals (unordered_publication seed)
unordered_publication_is_made seed = record { merged = record { own = unordered_publication_is_own seed; below = refl }; alone = record { workers = refl; launches = refl } }

unordered_publication_is_missed : (seed : List ℕ) → MissesAreTrue (unordered_publication seed)
unordered_publication_is_missed seed = record { missed = (((tt, tt), tt), tt); shown = ((tt, (tt, tt)), tt) }

unordered_publication_is_lawful : (seed : List ℕ) → JournalsAreLawful one seed quiet (unordered_publication seed)
unordered_publication_is_lawful seed = record {
  proxies_are = refl;
  cells_are = refl;
  cells = (((tt, (refl, below_one)), one_is_some), tt);
  dialogs = (tt, (tt, tt));
  launcher = (tt, refl);
  okd = (tt, below_one);
  proxies = ((tt, (below_one, refl)), tt);
  pubd = ((tt, below_one), (below_one, omega arith, omega arith));
  oklogd = (tt, below_one);
  faults_are = (none_of_none, tt);
}

unordered_publication_is_served : (seed : List ℕ) → ConnectionsAreServed one quiet (unordered_publication seed)
unordered_publication_is_served seed = (record { shares = []; served = tt; visits = refl; cut = none_of_none }, tt)

unordered_publication_is_launched : (seed : List ℕ) → LaunchesArePieces one seed quiet (unordered_publication seed)
unordered_publication_is_launched seed = record {
  fates = CameUp ∷ [];
  ending = own.Retired 0 ∷ [];
  are_fates = (refl, tt);
  list_is = refl;
  ends = record { retireds = refl; each = (refl, tt) };
  failures_are = none_of_none;
}

unordered_publication_is_caused : (seed : List ℕ) → LaunchesHaveCauses quiet (unordered_publication seed)
unordered_publication_is_caused seed = record { lead = refl; told = (refl, (refl, tt)); crashed = (refl, (refl, tt)); caused = refl }

unordered_publication_is_first : (seed : List ℕ) → LaunchesComeFirst one (unordered_publication seed)
unordered_publication_is_first seed = record {
  came = record { service = 0; incarnation = 1 } ∷ [];
  came_is = refl;
  first = (record { up = refl; boot = refl }, tt);
}

unordered_publication_is_ordered : (seed : List ℕ) → ListsArePieces one quiet (unordered_publication seed) → ⊥
unordered_publication_is_ordered seed h = let bad : true ≡ false = h.doors.0 in cc

unordered_publication_has : (seed : List ℕ) (other : Part) → (other ≡ part.Pieced → ⊥) → Holds other one seed quiet (unordered_publication seed)
unordered_publication_has seed part.Made differs = unordered_publication_is_made seed
unordered_publication_has seed part.Pieced differs = absurd (differs refl)
unordered_publication_has seed part.Missed differs = unordered_publication_is_missed seed
unordered_publication_has seed part.Lawful differs = unordered_publication_is_lawful seed
unordered_publication_has seed part.Served differs = unordered_publication_is_served seed
unordered_publication_has seed part.Launched differs = unordered_publication_is_launched seed
unordered_publication_has seed part.Caused differs = unordered_publication_is_caused seed
unordered_publication_has seed part.First differs = unordered_publication_is_first seed

pub unordered_publication_fails : (seed : List ℕ) → FailsBy part.Pieced one seed quiet (unordered_publication seed)
unordered_publication_fails seed = record { fails = unordered_publication_is_ordered seed; others = unordered_publication_has seed }

-- ---- undeclared_publication

undeclared_publication_is_own : (seed : List ℕ) (w : ℕ) → w < 3 → IsOwn (undeclared_publication seed) 2 w (list_of (undeclared_publication seed) w)
undeclared_publication_is_own seed = below_three (λ (w : ℕ). IsOwn (undeclared_publication seed) 2 w (list_of (undeclared_publication seed) w))
    (record {
      okd = refl;
      proxies = one_proxy (proxy_past (undeclared_publication seed).proxies 0) 0 (list_of (undeclared_publication seed) 0) refl (λ p. refl);
      pubd = refl;
      oklogd = refl;
      launchers = refl;
      cells = one_cell (cell_past (undeclared_publication seed) 0) 2 0 (list_of (undeclared_publication seed) 0) refl (λ s. refl);
    })
    (record {
      okd = refl;
      proxies = one_proxy (proxy_past (undeclared_publication seed).proxies 0) 1 (list_of (undeclared_publication seed) 1) refl (λ p. refl);
      pubd = refl;
      oklogd = refl;
      launchers = refl;
      cells = one_cell (cell_past (undeclared_publication seed) 0) 2 1 (list_of (undeclared_publication seed) 1) refl (λ s. refl);
    })
    (record {
      okd = refl;
      proxies = one_proxy (proxy_past (undeclared_publication seed).proxies 0) 2 (list_of (undeclared_publication seed) 2) refl (λ p. rw (not_zero p) refl);
      pubd = refl;
      oklogd = refl;
      launchers = refl;
      cells = one_cell (cell_past (undeclared_publication seed) 0) 2 2 (list_of (undeclared_publication seed) 2) refl (λ s. rw (not_zero s) refl);
    })

undeclared_publication_is_made : (seed : List ℕ) → ListsMakeJournals (undeclared_publication seed)
undeclared_publication_is_made seed = record { merged = record { own = undeclared_publication_is_own seed; below = refl }; alone = record { workers = refl; launches = refl } }

undeclared_publication_is_pieced : (seed : List ℕ) → ListsArePieces one silent_console (undeclared_publication seed)
undeclared_publication_is_pieced seed = record { workers_are = refl; pieces = (refl, (refl, tt)); doors = (refl, tt); console = refl; orders = tt }

undeclared_publication_is_missed : (seed : List ℕ) → MissesAreTrue (undeclared_publication seed)
undeclared_publication_is_missed seed = record { missed = (((tt, tt), tt), tt); shown = ((tt, (tt, tt)), tt) }

undeclared_publication_is_served : (seed : List ℕ) → ConnectionsAreServed one silent_console (undeclared_publication seed)
undeclared_publication_is_served seed = (record { shares = []; served = tt; visits = refl; cut = none_of_none }, tt)

undeclared_publication_is_launched : (seed : List ℕ) → LaunchesArePieces one seed silent_console (undeclared_publication seed)
undeclared_publication_is_launched seed = record {
  fates = CameUp ∷ [];
  ending = own.Retired 0 ∷ [];
  are_fates = (refl, tt);
  list_is = refl;
  ends = record { retireds = refl; each = (refl, tt) };
  failures_are = none_of_none;
}

undeclared_publication_is_caused : (seed : List ℕ) → LaunchesHaveCauses silent_console (undeclared_publication seed)
undeclared_publication_is_caused seed = record { lead = refl; told = (refl, (refl, tt)); crashed = (refl, (refl, tt)); caused = refl }

undeclared_publication_is_first : (seed : List ℕ) → LaunchesComeFirst one (undeclared_publication seed)
undeclared_publication_is_first seed = record {
  came = record { service = 0; incarnation = 1 } ∷ [];
  came_is = refl;
  first = (record { up = refl; boot = refl }, tt);
}

undeclared_publication_is_undeclared : (seed : List ℕ) → JournalsAreLawful one seed silent_console (undeclared_publication seed) → ⊥
undeclared_publication_is_undeclared seed h = let bad : 9 < 1 = h.pubd.1.0 in omega (arith, bad)

undeclared_publication_has : (seed : List ℕ) (other : Part) → (other ≡ part.Lawful → ⊥) → Holds other one seed silent_console (undeclared_publication seed)
undeclared_publication_has seed part.Made differs = undeclared_publication_is_made seed
undeclared_publication_has seed part.Pieced differs = undeclared_publication_is_pieced seed
undeclared_publication_has seed part.Missed differs = undeclared_publication_is_missed seed
undeclared_publication_has seed part.Lawful differs = absurd (differs refl)
undeclared_publication_has seed part.Served differs = undeclared_publication_is_served seed
undeclared_publication_has seed part.Launched differs = undeclared_publication_is_launched seed
undeclared_publication_has seed part.Caused differs = undeclared_publication_is_caused seed
undeclared_publication_has seed part.First differs = undeclared_publication_is_first seed

pub undeclared_publication_fails : (seed : List ℕ) → FailsBy part.Lawful one seed silent_console (undeclared_publication seed)
undeclared_publication_fails seed = record { fails = undeclared_publication_is_undeclared seed; others = undeclared_publication_has seed }
