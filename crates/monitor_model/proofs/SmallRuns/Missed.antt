-- A record whose one Missed isn't true of its cell fails by this alone; and one that was made beside the journals isn't made of them.
use Rattle.std.proofs.Common.{◌≡◌, ℕ, ◌<◌, ◌≤◌, false, List, [], ◌∷◌, Some, refl, arith, codes}
use Rattle.okws_plan.specs.declared.event.Mark.TheVariants.{Done}
use Rattle.okws_plan.specs.declared.event.ProxyEvent.TheVariants as proxy
use Rattle.http_text.specs.Response.{own_response}
use Rattle.monitor_model.specs.declared.record.Own.TheVariants as own
use Rattle.monitor_model.specs.Causes.{LaunchesHaveCauses}
use Rattle.monitor_model.specs.Connections.{Accepted, ConnectionsAreServed, DueToRequest}
use Rattle.monitor_model.specs.First.{LaunchesComeFirst}
use Rattle.monitor_model.specs.Launches.{CameUp, LaunchesArePieces}
use Rattle.monitor_model.specs.Lawful.{JournalsAreLawful}
use Rattle.monitor_model.specs.Legality.{FailsBy, Holds, Part, ListsMakeJournals}
use Rattle.monitor_model.specs.Legality as part
use Rattle.monitor_model.specs.Merged.{IsOwn, list_of, cell_past}
use Rattle.monitor_model.specs.Missing.{MissesAreTrue}
use Rattle.monitor_model.specs.Pieces.{ListsArePieces}
use Rattle.monitor_model.specs.Seen.{proxy_past}
use Rattle.monitor_model.specs.ShortRun.{guest_request, token_one, deletion, untrue_miss, private_copy}
use Rattle.monitor_model.specs.SmallRuns.{one, quiet}
use Rattle.monitor_model.specs.Worker.{IsMissed}
use Rattle.monitor_model.proofs.SmallRuns.Plain.{not_zero, below_three, one_proxy, one_cell}
use Rattle.monitor_model.proofs.SmallRuns.Reads.{guest_is_read, guest_waits_for_nothing, guest_is_get}

below_one : 0 < 1
below_one = omega arith

none_of_none : 0 ≤ 0
none_of_none = omega arith

one_is_some : ◌≡◌ {A = ℕ} 1 0 → ⊥
one_is_some is = omega (arith, is)

seven_is_not_one : ◌≡◌ {A = ℕ} 7 1 → ⊥
seven_is_not_one is = omega (arith, is)

untrue_miss_is_own : (seed : List ℕ) (w : ℕ) → w < 3 → IsOwn (untrue_miss seed) 2 w (list_of (untrue_miss seed) w)
untrue_miss_is_own seed = below_three (λ (w : ℕ). IsOwn (untrue_miss seed) 2 w (list_of (untrue_miss seed) w))
    (record {
      okd = refl;
      proxies = one_proxy (proxy_past (untrue_miss seed).proxies 0) 0 (list_of (untrue_miss seed) 0) refl (λ p. refl);
      pubd = refl;
      oklogd = refl;
      launchers = refl;
      cells = one_cell (cell_past (untrue_miss seed) 0) 2 0 (list_of (untrue_miss seed) 0) refl (λ s. rw (not_zero s) refl);
    })
    (record {
      okd = refl;
      proxies = one_proxy (proxy_past (untrue_miss seed).proxies 0) 1 (list_of (untrue_miss seed) 1) refl (λ p. refl);
      pubd = refl;
      oklogd = refl;
      launchers = refl;
      cells = one_cell (cell_past (untrue_miss seed) 0) 2 1 (list_of (untrue_miss seed) 1) refl (λ s. refl);
    })
    (record {
      okd = refl;
      proxies = one_proxy (proxy_past (untrue_miss seed).proxies 0) 2 (list_of (untrue_miss seed) 2) refl (λ p. rw (not_zero p) refl);
      pubd = refl;
      oklogd = refl;
      launchers = refl;
      cells = one_cell (cell_past (untrue_miss seed) 0) 2 2 (list_of (untrue_miss seed) 2) refl (λ s. rw (not_zero s) refl);
    })

untrue_miss_is_made : (seed : List ℕ) → ListsMakeJournals (untrue_miss seed)
untrue_miss_is_made seed = record { merged = record { own = untrue_miss_is_own seed; below = refl }; alone = record { workers = refl; launches = refl } }

untrue_miss_is_pieced : (seed : List ℕ) → ListsArePieces one quiet (untrue_miss seed)
untrue_miss_is_pieced seed = record { workers_are = refl; pieces = (refl, (refl, tt)); doors = (refl, tt); console = refl; orders = refl }

untrue_miss_is_lawful : (seed : List ℕ) → JournalsAreLawful one seed quiet (untrue_miss seed)
untrue_miss_is_lawful seed = record {
  proxies_are = refl;
  cells_are = refl;
  cells = ((((tt, (refl, below_one)), tt), one_is_some), tt);
  dialogs = (tt, (tt, tt));
  launcher = (tt, refl);
  okd = ((tt, below_one), tt);
  proxies = ((tt, (below_one, refl)), tt);
  pubd = (tt, below_one);
  oklogd = (tt, below_one);
  faults_are = (none_of_none, tt);
}

missed_is_due : DueToRequest guest_request (codes "/guest") IsMissed (own_response 503 (codes "GET"))
missed_is_due = record {
  asked = codes "GET";
  head = guest_request;
  content = [];
  interim = [];
  method = codes "GET";
  is = guest_is_read;
  carries = tt;
  interim_is = guest_waits_for_nothing;
  method_is = guest_is_get;
  text_is = refl;
}

untrue_miss_is_served : (seed : List ℕ) → ConnectionsAreServed one quiet (untrue_miss seed)
untrue_miss_is_served seed = (
  record {
    shares = record { visit = Some (Accepted (codes "/guest") IsMissed); is_cut = false } ∷ [];
    served = (missed_is_due, tt);
    visits = ([], refl, refl);
    cut = none_of_none;
  },
  tt,
)

untrue_miss_is_launched : (seed : List ℕ) → LaunchesArePieces one seed quiet (untrue_miss seed)
untrue_miss_is_launched seed = record {
  fates = CameUp ∷ [];
  ending = own.Retired 0 ∷ [];
  are_fates = (refl, tt);
  list_is = refl;
  ends = record { retireds = refl; each = (refl, tt) };
  failures_are = none_of_none;
}

untrue_miss_is_caused : (seed : List ℕ) → LaunchesHaveCauses quiet (untrue_miss seed)
untrue_miss_is_caused seed = record { lead = refl; told = (refl, (refl, tt)); crashed = (refl, (refl, tt)); caused = refl }

untrue_miss_is_first : (seed : List ℕ) → LaunchesComeFirst one (untrue_miss seed)
untrue_miss_is_first seed = record {
  came = record { service = 0; incarnation = 1 } ∷ [];
  came_is = refl;
  first = (record { up = refl; boot = refl }, tt);
}

untrue_miss_has : (seed : List ℕ) (other : Part) → (other ≡ part.Missed → ⊥) → Holds other one seed quiet (untrue_miss seed)
untrue_miss_has seed part.Made differs = untrue_miss_is_made seed
untrue_miss_has seed part.Pieced differs = untrue_miss_is_pieced seed
untrue_miss_has seed part.Missed differs = absurd (differs refl)
untrue_miss_has seed part.Lawful differs = untrue_miss_is_lawful seed
untrue_miss_has seed part.Served differs = untrue_miss_is_served seed
untrue_miss_has seed part.Launched differs = untrue_miss_is_launched seed
untrue_miss_has seed part.Caused differs = untrue_miss_is_caused seed
untrue_miss_has seed part.First differs = untrue_miss_is_first seed

untrue_miss_is_untrue : (seed : List ℕ) → MissesAreTrue (untrue_miss seed) → ⊥
untrue_miss_is_untrue seed h = seven_is_not_one (h.missed.0).0.1.0

pub untrue_miss_fails : (seed : List ℕ) → FailsBy part.Missed one seed quiet (untrue_miss seed)
untrue_miss_fails seed = record { fails = untrue_miss_is_untrue seed; others = untrue_miss_has seed }

pub private_copy_is_refused : (seed : List ℕ) → ListsMakeJournals (private_copy seed) → ⊥
private_copy_is_refused seed h =
    let bad : [] ≡ proxy.Call deletion Done ∷ proxy.Open 0 1 (token_one seed) ∷ [] = (h.merged.own 0 (omega arith)).proxies 0 in
    cc
