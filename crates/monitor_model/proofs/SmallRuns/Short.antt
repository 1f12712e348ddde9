-- The short run is legal.
use Rattle.std.proofs.Common.{◌≡◌, ℕ, ◌<◌, ◌≤◌, true, false, List, [], ◌∷◌, Some, refl, arith, inr, codes}
use Rattle.std.proofs.lemmas.Cmp.{nat_list_eq_equiv}
use Rattle.okws_base.specs.Value.{same_token}
use Rattle.okws_base.specs.declared.journal.Entry.{Entry}
use Rattle.okws_base.specs.declared.value.Token.{Token}
use Rattle.okws_plan.specs.declared.event.Mark.TheVariants.{Done}
use Rattle.okws_plan.specs.declared.event.OkdEvent.TheVariants as okd
use Rattle.okws_plan.specs.declared.event.LauncherEvent.TheVariants as launcher
use Rattle.okws_plan.specs.declared.event.ProxyEvent.{ProxyEvent}
use Rattle.okws_plan.specs.declared.event.ProxyEvent.TheVariants as proxy
use Rattle.okws_plan.specs.declared.event.PubdEvent.{PubdEvent}
use Rattle.okws_plan.specs.declared.event.PubdEvent.TheVariants as pubd
use Rattle.http_text.specs.Response.{response, own_response}
use Rattle.frame_codec.specs.declared.frame.ServerFrame.TheVariants as heard
use Rattle.monitor_model.specs.declared.record.End.TheVariants as end
use Rattle.monitor_model.specs.declared.record.Own.{Own}
use Rattle.monitor_model.specs.declared.record.Own.TheVariants as own
use Rattle.monitor_model.specs.Causes.{LaunchesHaveCauses}
use Rattle.monitor_model.specs.Connections.{Accepted, ConnectionsAreServed, DueToRequest}
use Rattle.monitor_model.specs.Course.{IsDialog, verdict_frame}
use Rattle.monitor_model.specs.First.{LaunchesComeFirst}
use Rattle.monitor_model.specs.Launches.{CameUp, LaunchesArePieces}
use Rattle.monitor_model.specs.Lawful.{JournalsAreLawful}
use Rattle.monitor_model.specs.Legality.{IsLegal, ListsMakeJournals}
use Rattle.monitor_model.specs.Merged.{IsOwn, list_of, cell_past}
use Rattle.monitor_model.specs.Missing.{MissesAreTrue}
use Rattle.monitor_model.specs.Pieces.{ListsArePieces}
use Rattle.monitor_model.specs.Placed.{seen_after}
use Rattle.monitor_model.specs.Proxy.{open_verdict, call_verdict}
use Rattle.monitor_model.specs.Seen.{proxy_past}
use Rattle.monitor_model.specs.ShortRun.{guest_request, token_one, deletion, first_dialog, second_dialog, run_where, short_run, one_order}
use Rattle.monitor_model.specs.SmallRuns.{one, by}
use Rattle.monitor_model.specs.Worker.{Spoke}
use Rattle.monitor_model.proofs.SmallRuns.Plain.{not_zero, below_three, one_proxy, one_cell}
use Rattle.monitor_model.proofs.SmallRuns.Reads.{guest_is_read, guest_waits_for_nothing, guest_is_get}

below_one : 0 < 1
below_one = omega arith

below_two : 1 < 2
below_two = omega arith

some_below_two : 0 < 2
some_below_two = omega arith

none_of_none : 0 ≤ 0
none_of_none = omega arith

one_is_some : ◌≡◌ {A = ℕ} 1 0 → ⊥
one_is_some is = omega (arith, is)

two_is_some : ◌≡◌ {A = ℕ} 2 0 → ⊥
two_is_some is = omega (arith, is)

pub same_itself : (t : Token) → same_token t t ≡ true
same_itself t = nat_list_eq_equiv.refl t.bytes

run_is_own : (seed : List ℕ) (n : ℕ) (w : ℕ) → w < 3 → IsOwn (run_where seed n) 2 w (list_of (run_where seed n) w)
run_is_own seed n = below_three (λ (w : ℕ). IsOwn (run_where seed n) 2 w (list_of (run_where seed n) w))
    (record {
      okd = refl;
      proxies = one_proxy (proxy_past (run_where seed n).proxies 0) 0 (list_of (run_where seed n) 0) refl (λ p. rw (not_zero p) refl);
      pubd = refl;
      oklogd = refl;
      launchers = refl;
      cells = one_cell (cell_past (run_where seed n) 0) 2 0 (list_of (run_where seed n) 0) refl (λ s. rw (not_zero s) refl);
    })
    (record {
      okd = refl;
      proxies = one_proxy (proxy_past (run_where seed n).proxies 0) 1 (list_of (run_where seed n) 1) refl (λ p. refl);
      pubd = refl;
      oklogd = refl;
      launchers = refl;
      cells = one_cell (cell_past (run_where seed n) 0) 2 1 (list_of (run_where seed n) 1) refl (λ s. refl);
    })
    (record {
      okd = refl;
      proxies = one_proxy (proxy_past (run_where seed n).proxies 0) 2 (list_of (run_where seed n) 2) refl (λ p. rw (not_zero p) refl);
      pubd = refl;
      oklogd = refl;
      launchers = refl;
      cells = one_cell (cell_past (run_where seed n) 0) 2 2 (list_of (run_where seed n) 2) refl (λ s. rw (not_zero s) refl);
    })

pub run_is_made : (seed : List ℕ) (n : ℕ) → ListsMakeJournals (run_where seed n)
run_is_made seed n = record { merged = record { own = run_is_own seed n; below = refl }; alone = record { workers = refl; launches = refl } }

pub run_is_pieced : (seed : List ℕ) (n : ℕ) → ListsArePieces one one_order (run_where seed n)
run_is_pieced seed n = record { workers_are = refl; pieces = (refl, (refl, tt)); doors = (refl, tt); console = refl; orders = refl }

pub run_is_missed : (seed : List ℕ) (n : ℕ) → MissesAreTrue (run_where seed n)
run_is_missed seed n = record { missed = ((((((tt, tt), tt), tt), tt), tt), tt); shown = ((tt, (tt, (tt, (tt, (tt, tt))))), tt) }

-- ---- the first dialog

-- the worker's list up to its beginning, its Drain, its Open and its Call
abbrev pub begun_list : List Own
begun_list = own.Dialog 0 ∷ own.Okd (okd.Accept (codes "/guest")) ∷ own.Launcher (launcher.Begun 0 1) ∷ []

abbrev pub drained_list : List Own
drained_list = own.Pubd (pubd.Drain 0 1) ∷ begun_list

abbrev pub opened_list : List ℕ → List Own
opened_list seed = own.Proxy 0 (proxy.Open 0 1 (token_one seed)) ∷ drained_list

abbrev pub called_list : List ℕ → List Own
called_list seed = own.Proxy 0 (proxy.Call deletion Done) ∷ opened_list seed

-- the pasts of its entries
abbrev pub published : List (Entry PubdEvent)
published = by 1 (pubd.Publish 0 (codes "hi")) ∷ by 2 (pubd.Install 0 1) ∷ []

abbrev pub installed : List ℕ → List (Entry ProxyEvent)
installed seed = by 2 (proxy.Install 0 1 (token_one seed)) ∷ []

abbrev pub opened_past : List ℕ → List (Entry ProxyEvent)
opened_past seed = by 0 (proxy.Open 0 1 (token_one seed)) ∷ installed seed

pub open_is_answered : (seed : List ℕ) → heard.Opened 0 ≡ verdict_frame (open_verdict (installed seed) 0 1 (token_one seed))
open_is_answered seed = rw (same_itself (token_one seed)) refl

call_is_answered : (seed : List ℕ) → heard.Changed 1 ≡ verdict_frame (call_verdict one 0 (opened_past seed) deletion Done)
call_is_answered seed = rw (same_itself (token_one seed)) refl

first_is_dialog : (seed : List ℕ) → IsDialog one (record { worker = 0; service = 0; incarnation = 1 }) [] [] [] guest_request []
    (seen_after (short_run seed) 0 begun_list) (first_dialog seed 0).items end.Reply (seen_after (short_run seed) 0 (called_list seed))
first_is_dialog seed = inr (
  published,
  seen_after (short_run seed) 0 drained_list,
  ((published, (one_is_some, (two_is_some, tt)), refl), refl),
  (
    _,
    (200, codes "text/plain", [], codes "ok", refl),
    (
      seen_after (short_run seed) 0 (opened_list seed),
      (
        seen_after (short_run seed) 0 drained_list,
        (refl, refl),
        inr (inr (refl, installed seed, open_is_answered seed, ((installed seed, (two_is_some, tt), refl), refl))),
      ),
      inr (inr (refl, opened_past seed, Done, call_is_answered seed, (([], tt, refl), refl))),
    ),
    omega arith,
  ),
)

-- ---- the second dialog

abbrev again_list : List ℕ → List Own
again_list seed = own.Dialog 0 ∷ own.Okd (okd.Accept (codes "/guest")) ∷ called_list seed

abbrev again_drained : List ℕ → List Own
again_drained seed = own.Pubd (pubd.Drain 0 1) ∷ again_list seed

second_is_dialog : (seed : List ℕ) → IsDialog one (record { worker = 0; service = 0; incarnation = 1 }) [] [] [] guest_request []
    (seen_after (short_run seed) 0 (again_list seed)) second_dialog.items end.Ended (seen_after (short_run seed) 0 (again_drained seed))
second_is_dialog seed = inr (
  by 0 (pubd.Drain 0 1) ∷ published,
  seen_after (short_run seed) 0 (again_drained seed),
  (([], tt, refl), refl),
  ((refl, refl), omega arith, (refl, refl)),
)

short_run_is_lawful : (seed : List ℕ) → JournalsAreLawful one seed one_order (short_run seed)
short_run_is_lawful seed = record {
  proxies_are = refl;
  cells_are = refl;
  cells = ((((((tt, (refl, below_one)), (one_is_some, tt)), (one_is_some, tt)), (refl, below_two)), two_is_some), tt);
  dialogs = ((([], [], guest_request, [], second_is_dialog seed), (([], [], guest_request, [], first_is_dialog seed), tt)), (tt, tt));
  launcher = (((tt, refl), refl), refl);
  okd = (((((tt, below_one), tt), tt), refl), some_below_two);
  proxies = ((((((tt, (below_one, refl)), tt), tt), refl), (below_two, refl)), tt);
  pubd = ((((((tt, below_one), (below_one, omega arith, omega arith)), tt), tt), refl), below_two);
  oklogd = (((tt, below_one), refl), below_two);
  faults_are = (none_of_none, tt);
}

-- ---- the connections

first_is_due : (seed : List ℕ) (n : ℕ) → DueToRequest guest_request (codes "/guest") (Spoke 0 1 (first_dialog seed n)) (response 200 (codes "text/plain") [] (codes "ok") (codes "GET"))
first_is_due seed n = record {
  asked = codes "GET";
  head = guest_request;
  content = [];
  interim = [];
  method = codes "GET";
  is = guest_is_read;
  carries = (tt, (tt, (tt, (tt, (tt, ((refl, refl), (tt, tt)))))));
  interim_is = guest_waits_for_nothing;
  method_is = guest_is_get;
  text_is = refl;
}

second_is_due : DueToRequest guest_request (codes "/guest") (Spoke 0 1 second_dialog) (own_response 502 (codes "GET"))
second_is_due = record {
  asked = codes "GET";
  head = guest_request;
  content = [];
  interim = [];
  method = codes "GET";
  is = guest_is_read;
  carries = ((refl, refl), tt);
  interim_is = guest_waits_for_nothing;
  method_is = guest_is_get;
  text_is = refl;
}

pub run_is_served : (seed : List ℕ) (n : ℕ) → ConnectionsAreServed one one_order (run_where seed n)
run_is_served seed n = (
  record {
    shares = record { visit = Some (Accepted (codes "/guest") (Spoke 0 1 second_dialog)); is_cut = false }
        ∷ record { visit = Some (Accepted (codes "/guest") (Spoke 0 1 (first_dialog seed n))); is_cut = false } ∷ [];
    served = (second_is_due, (first_is_due seed n, tt));
    visits = (_, refl, (_, refl, refl));
    cut = none_of_none;
  },
  tt,
)

pub run_is_launched : (seed : List ℕ) (n : ℕ) → LaunchesArePieces one seed one_order (run_where seed n)
run_is_launched seed n = record {
  fates = CameUp ∷ CameUp ∷ [];
  ending = own.Retired 0 ∷ [];
  are_fates = (refl, (refl, tt));
  list_is = refl;
  ends = record { retireds = refl; each = (refl, tt) };
  failures_are = none_of_none;
}

pub run_is_caused : (seed : List ℕ) (n : ℕ) → LaunchesHaveCauses one_order (run_where seed n)
run_is_caused seed n = record { lead = refl; told = (refl, (refl, tt)); crashed = (refl, (refl, tt)); caused = refl }

pub run_is_first : (seed : List ℕ) (n : ℕ) → LaunchesComeFirst one (run_where seed n)
run_is_first seed n = record {
  came = record { service = 0; incarnation = 1 } ∷ [];
  came_is = refl;
  first = (record { up = refl; boot = refl }, tt);
}

pub short_run_is_legal : (seed : List ℕ) → IsLegal one seed one_order (short_run seed)
short_run_is_legal seed = record {
  made = run_is_made seed 0;
  pieces = run_is_pieced seed 0;
  missed = run_is_missed seed 0;
  lawful = short_run_is_lawful seed;
  served = run_is_served seed 0;
  launched = run_is_launched seed 0;
  caused = run_is_caused seed 0;
  first = run_is_first seed 0;
}
