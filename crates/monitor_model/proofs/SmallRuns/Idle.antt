-- The run in which no connection came is legal.
use Rattle.std.proofs.Common.{◌≡◌, ℕ, ◌<◌, ◌≤◌, List, [], ◌∷◌, refl, arith}
use Rattle.monitor_model.specs.declared.record.Own.TheVariants as own
use Rattle.monitor_model.specs.Connections.{ConnectionsAreServed}
use Rattle.monitor_model.specs.Causes.{LaunchesHaveCauses}
use Rattle.monitor_model.specs.First.{LaunchesComeFirst}
use Rattle.monitor_model.specs.Launches.{CameUp, LaunchesArePieces}
use Rattle.monitor_model.specs.Lawful.{JournalsAreLawful}
use Rattle.monitor_model.specs.Legality.{IsLegal, ListsMakeJournals}
use Rattle.monitor_model.specs.Merged.{IsOwn, list_of, cell_past}
use Rattle.monitor_model.specs.Missing.{MissesAreTrue}
use Rattle.monitor_model.specs.Pieces.{ListsArePieces}
use Rattle.monitor_model.specs.SmallRuns.{one, quiet, idle}
use Rattle.monitor_model.specs.Seen.{proxy_past}
use Rattle.monitor_model.proofs.SmallRuns.Plain.{not_zero, below_three, one_proxy, one_cell}

-- the launcher's steps
below_one : 0 < 1
below_one = omega arith

none_of_none : 0 ≤ 0
none_of_none = omega arith

one_is_some : ◌≡◌ {A = ℕ} 1 0 → ⊥
one_is_some is = omega (arith, is)

-- ---- the idle run

idle_is_own : (seed : List ℕ) (w : ℕ) → w < 3 → IsOwn (idle seed) 2 w (list_of (idle seed) w)
idle_is_own seed = below_three (λ (w : ℕ). IsOwn (idle seed) 2 w (list_of (idle seed) w))
    (record {
      okd = refl;
      proxies = one_proxy (proxy_past (idle seed).proxies 0) 0 (list_of (idle seed) 0) refl (λ p. refl);
      pubd = refl;
      oklogd = refl;
      launchers = refl;
      cells = one_cell (cell_past (idle seed) 0) 2 0 (list_of (idle seed) 0) refl (λ s. refl);
    })
    (record {
      okd = refl;
      proxies = one_proxy (proxy_past (idle seed).proxies 0) 1 (list_of (idle seed) 1) refl (λ p. refl);
      pubd = refl;
      oklogd = refl;
      launchers = refl;
      cells = one_cell (cell_past (idle seed) 0) 2 1 (list_of (idle seed) 1) refl (λ s. refl);
    })
    (record {
      okd = refl;
      proxies = one_proxy (proxy_past (idle seed).proxies 0) 2 (list_of (idle seed) 2) refl (λ p. rw (not_zero p) refl);
      pubd = refl;
      oklogd = refl;
      launchers = refl;
      cells = one_cell (cell_past (idle seed) 0) 2 2 (list_of (idle seed) 2) refl (λ s. rw (not_zero s) refl);
    })

idle_is_made : (seed : List ℕ) → ListsMakeJournals (idle seed)
idle_is_made seed = record { merged = record { own = idle_is_own seed; below = refl }; alone = record { workers = refl; launches = refl } }

idle_is_pieced : (seed : List ℕ) → ListsArePieces one quiet (idle seed)
idle_is_pieced seed = record { workers_are = refl; pieces = (refl, (refl, tt)); doors = (refl, tt); console = refl; orders = refl }

idle_is_missed : (seed : List ℕ) → MissesAreTrue (idle seed)
idle_is_missed seed = record { missed = (((tt, tt), tt), tt); shown = ((tt, (tt, tt)), tt) }

idle_is_lawful : (seed : List ℕ) → JournalsAreLawful one seed quiet (idle seed)
idle_is_lawful seed = record {
  proxies_are = refl;
  cells_are = refl;
  cells = (((tt, (refl, below_one)), one_is_some), tt);
  dialogs = (tt, (tt, tt));
  launcher = (tt, refl);
  okd = (tt, below_one);
  proxies = ((tt, (below_one, refl)), tt);
  pubd = (tt, below_one);
  oklogd = (tt, below_one);
  faults_are = (none_of_none, tt);
}

idle_is_served : (seed : List ℕ) → ConnectionsAreServed one quiet (idle seed)
idle_is_served seed = (record { shares = []; served = tt; visits = refl; cut = none_of_none }, tt)

idle_is_launched : (seed : List ℕ) → LaunchesArePieces one seed quiet (idle seed)
idle_is_launched seed = record {
  fates = CameUp ∷ [];
  ending = own.Retired 0 ∷ [];
  are_fates = (refl, tt);
  list_is = refl;
  ends = record { retireds = refl; each = (refl, tt) };
  failures_are = none_of_none;
}

idle_is_caused : (seed : List ℕ) → LaunchesHaveCauses quiet (idle seed)
idle_is_caused seed = record { lead = refl; told = (refl, (refl, tt)); crashed = (refl, (refl, tt)); caused = refl }

idle_is_first : (seed : List ℕ) → LaunchesComeFirst one (idle seed)
idle_is_first seed = record {
  came = record { service = 0; incarnation = 1 } ∷ [];
  came_is = refl;
  first = (record { up = refl; boot = refl }, tt);
}

pub idle_is_legal : (seed : List ℕ) → IsLegal one seed quiet (idle seed)
idle_is_legal seed = record {
  made = idle_is_made seed;
  pieces = idle_is_pieced seed;
  missed = idle_is_missed seed;
  lawful = idle_is_lawful seed;
  served = idle_is_served seed;
  launched = idle_is_launched seed;
  caused = idle_is_caused seed;
  first = idle_is_first seed;
}
