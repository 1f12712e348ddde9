use Rattle.std.proofs.Common.{arith, ◌≡◌, ◌≤◌, ◌<◌, ◌+◌, ℕ, Bool, true, [], ◌∷◌, ◌++◌, map, length, refl, sym, ap, ◌∙◌, subst}
use Rattle.std.specs.Prelude.{IsSome}
use Rattle.monitor_model.specs.Columns.{WithinCount}
use Rattle.monitor_model.specs.Launches.{failures}
use Rattle.monitor_model.specs.Legality.{IsLegal}
use Rattle.monitor_model.specs.Outside.{Outside}
use Rattle.monitor_model.specs.Pieces.{is_accept_item, is_ordered}
use Rattle.okws_outer.specs.Families.{Family}
use Rattle.okld_launch.specs.Failures.{FailuresAreTold, children_rise}
use Rattle.okld_launch.specs.Heard.{ChildrenAreTold}
use Rattle.site_run.specs.Places.{AllIdle}
use Rattle.site_making.specs.Keepers.{keeper_of}
use Rattle.site_run.specs.Closing.{AllKept}
use Rattle.site_run.specs.Pieced.{ended_among}
use Rattle.site_run.specs.Whole.{AllDrawn}
use Rattle.okws_serve.specs.Doors.{ServesConsole, ServesDoors}
use Rattle.okws_serve.specs.Manned.{ConsoleDone}
use Rattle.okws_serve.specs.Lived.{ListIsPieces, OrdersAreObeyed}
use Rattle.okws_serve.specs.Runs.{ObjectsAre, StartIs, outside_of}
use Rattle.okws_serve.specs.declared.outfit.Ran.{Ran}
use Rattle.site_run.proofs.Alone.{launches_alone}
use Rattle.site_run.proofs.Merging.{lists_make}
use Rattle.site_run.proofs.Shown.{cells_are_true}
use Rattle.site_run.proofs.Tying.{end_pop}
use Rattle.okws_serve.proofs.Connected.{ServesConnections, connects_doors, doors_told, finish_all}
use Rattle.okws_serve.proofs.Launches.{go_so, have_causes, lists_end}
use Rattle.okws_serve.proofs.Leading.{all_lead}
use Rattle.okws_serve.proofs.Lawful.{are_lawful, keepers_told}
use Rattle.okws_serve.proofs.Booted.{boots_first}
use Rattle.okws_serve.proofs.Legal.{is_legal}
use Rattle.okws_serve.proofs.Listing.{Told, all_told}
use Rattle.okws_serve.proofs.Opened.{begins_with_launches}
use Rattle.okws_serve.proofs.Pieces.{console_is, console_obeys, doors_are}
use Rattle.okws_serve.proofs.Serving.{console_ends, doors_alike, lives_many, serves_doors}
use Rattle.okws_serve.proofs.Surviving.{if_some}
use Rattle.okws_serve.proofs.Whole.{all_pieces}
use Rattle.okws_serve.proofs.scene.end_run.Goals as goal

pub returns-clause-idle : goal.returns-clause-idle
returns-clause-idle g c =
    subst AllIdle (sym (ap (λ ds. map g.D.Door.entrance ds) c.left.ensures.objects.0 ∙ c.end-ended.ensures.doors)) c.requires.idle

pub returns-clause-some : goal.returns-clause-some
returns-clause-some g c = (subst IsSome (sym c.left.ensures.ran) refl, subst IsSome (sym c.left.ensures.objects.3) refl)

pub returns-clause-ran : goal.returns-clause-ran
returns-clause-ran g c =
    let wire = g.D.Conn.Conn.wire in
    let C = g.N.Numbered.site in
    let n = g.N.Numbered.launcher in
    let e = c.end-ended.result in
    let r = c.left.result in
    let ran : Ran = record { «record» = e.record; counts = e.counts; log_failed = e.log_failed; console_failed = c.args.ending.failed; starved = c.args.served.starved } in
    let keeper = keeper_of g.K.Keeper.tables g.K.Keeper.told g.K.Keeper.faults g.K.Keeper.steady in
    let doors : map g.D.Door.entrance r.doors.items ≡ c.args.places.entrances = ap (λ ds. map g.D.Door.entrance ds) c.left.ensures.objects.0 ∙ c.end-ended.ensures.doors in
    if_some r.ran ran _ c.left.ensures.ran (if_some r.log e.log _ c.left.ensures.objects.3 (λ most old w few done.
    let many = c.requires.held.doors_many in
    let alike = doors_alike wire C n c.args.scene.hall.numbers.id most done.lives old c.args.places c.args.served.connections c.args.served.starved done.doors in
    let z = c.args.scene.hall.numbers.id in
    let R = e.record in
    let over = ended_among g.N.Staffed.children (g.F.Children.family e.children) in
    let places = c.args.places in
    let connections = c.args.served.connections in
    let starved = c.args.served.starved in
    let size : length done.lives ≡ length old.entrances = lives_many wire C n z most done.lives old places connections starved done.doors in
    let ends = end_pop n 0 (length old.entrances) done.lives done.last R over (omega arith) (c.end-ended.ensures.lives (done.lives ++ done.last ∷ []) done.seats) in
    let last = c.args.place in
    let ending = c.args.ending in
    let console = subst (λ (k : ℕ). ConsoleDone C n k z most done.last w (g.O.Conn.wire c.args.console) last ending) alike done.console in
    let served = serves_doors wire C n z most (length places.entrances) R over done.lives old places connections starved done.last w (g.O.Conn.wire c.args.console) last ending
    (omega arith) c.requires.held.some refl (subst (λ k. AllDrawn k places.places last) (let k = c.requires.held.numbers_count in let q : c.args.scene.hall.numbers.count ≡ length places.entrances + 1 = omega arith in q) c.end-ended.ensures.drawn) done.doors ends.0 console in
    let steered = console_ends C n R over (length old.entrances) z most done.last w (g.O.Conn.wire c.args.console) last ending done.console ends.1 in
    let told : (k : ℕ) → k ≤ n → Told n R k = all_told wire C n most R over old.entrances places.entrances served.attended w (g.O.Conn.wire c.args.console) ending (omega arith) c.end-ended.ensures.numbers.workers served.attend steered c.end-ended.ensures.launched in
    let x = g.O.Conn.wire c.args.console in
    let failed = ending.failed in
    let proxies = c.end-ended.ensures.laws.proxies_are in
    let door_lists : (k : ℕ) → k < length old.entrances → ListIsPieces C R over is_ordered k
    = λ k l. doors_are wire C n most R over 0 k old.entrances places.entrances served.attended proxies served.attend (omega arith) (let u : k < length old.entrances + 0 = omega arith in u) in
    let console_list : ListIsPieces C R over is_accept_item (length old.entrances) = console_is C n R over (length old.entrances) w x ending proxies steered in
    let obeyed : OrdersAreObeyed C R (length old.entrances) w (g.O.Conn.wire r.console) ending
    = subst (λ o. OrdersAreObeyed C R (length old.entrances) w (g.O.Conn.wire o) ending) (sym c.left.ensures.objects.1) (console_obeys C n R over (length old.entrances) w x ending proxies steered) in
    let cells = cells_are_true C g.N.Numbered.run_seed n R c.end-ended.ensures.laws c.end-ended.ensures.numbers (λ k l. (told k l).1) in
    let kept : AllKept C true g.N.Backed.steady g.N.Backed.keeper_faults 0 (map keeper r.keepers.items) R.proxies
    = subst (λ t. AllKept C t g.N.Backed.steady g.N.Backed.keeper_faults 0 (map keeper r.keepers.items) e.record.proxies) c.requires.tells
    (subst (λ ks. AllKept C g.N.Backed.tells g.N.Backed.steady g.N.Backed.keeper_faults 0 (map keeper ks) e.record.proxies) (sym c.left.ensures.objects.2) c.end-ended.ensures.kept) in
    let workers = c.end-ended.ensures.numbers.workers in
    let names = c.end-ended.ensures.numbers.launcher in
    let lead = all_lead C R over n (length old.entrances) workers (omega arith) names door_lists console_list in
    let same = ap (λ (f : Family). ended_among g.N.Staffed.children f) (sym c.left.ensures.children) in
    let seed = g.N.Numbered.run_seed in
    let now = map g.D.Door.entrance r.doors.items in
    let keepers = map keeper r.keepers.items in
    let finished : ServesConnections wire C n most R over c.end-ended.ensures.laws.proxies_are old.entrances now = subst (ServesConnections wire C n most R over c.end-ended.ensures.laws.proxies_are old.entrances) (sym doors)
    (connects_doors wire C n most R over c.end-ended.ensures.laws.proxies_are old.entrances places.entrances served.attended (let l : length old.entrances ≤ length R.workers = omega arith in l) served.attend) in
    let start : StartIs = record { steady = g.N.Backed.steady; keeper_faults = g.N.Backed.keeper_faults; sink_faults = g.N.Backed.sink_faults; children = g.N.Staffed.children } in
    let left : ObjectsAre = record { entrances = now; console = g.O.Conn.wire r.console; children = g.F.Children.family r.children; keepers = keepers; given = g.S.Sink.given e.log; faults = g.S.Sink.faults e.log } in
    let T : Outside = outside_of start old.entrances left obeyed.orders failed in
    let opened = begins_with_launches wire C n z most (length old.entrances + 1) R over (omega (arith, many, alike)) (omega (arith, workers, many)) c.end-ended.ensures.laws.launcher c.args.okd c.end-ended.ensures.first c.end-ended.ensures.launched c.end-ended.ensures.numbers
    done.lives old places connections starved done.doors (let s = c.requires.held.some in omega (arith, s, alike)) ends.0 done.opened done.shown in
    let legal : IsLegal C seed T (record R { doors = finished.connections })
    = is_legal C seed T R finished.connections
    (lists_make n R c.end-ended.ensures.numbers (λ k l. (told k l).0)
    (launches_alone C seed n R workers c.end-ended.ensures.laws c.end-ended.ensures.launched (λ k l. (told k (let u : k ≤ n = omega arith in u)).0)))
    (all_pieces C R over (length old.entrances) failed obeyed.orders (omega arith) door_lists console_list obeyed.comes T finished.connections refl refl (finish_all wire old.entrances now finished.connections finished.finish))
    cells.0
    (are_lawful C seed n (length old.entrances) R over g.N.Backed.steady g.N.Backed.keeper_faults keepers (omega arith) c.end-ended.ensures.laws cells.1 door_lists console_list kept T (keepers_told T.keepers g.N.Backed.keeper_faults 0 keepers (λ p l. refl)))
    (finished.served T (doors_told wire T.doors 0 old.entrances now finished.connections finished.finish (λ v l. refl)))
    (go_so n R workers names (λ k l. (told k (omega (arith, l))).0.launchers) (λ k l. lists_end C R over (length old.entrances) door_lists console_list k (omega (arith, l, many, alike))) C seed c.end-ended.ensures.pieces)
    (subst (λ (f : Family). WithinCount (children_rise g.N.Staffed.children f) (failures R)) (sym c.left.ensures.children) c.end-ended.ensures.failures)
    (have_causes C R over (length old.entrances) T (λ s k h. subst (λ (ended : ℕ → ℕ → Bool). ended s k ≡ true) same h) (omega (arith, workers, many, alike)) door_lists console_list lead c.end-ended.ensures.caused)
    opened.comes in
    record {
      stopped = ending.stopped;
      served = subst (λ (ended : ℕ → ℕ → Bool). ServesDoors wire C n most R ended old.entrances (map g.D.Door.entrance r.doors.items) e.counts.connections starved ending.stopped) same
          (subst (λ k. ServesDoors wire C n most R over old.entrances (map g.D.Door.entrance r.doors.items) k starved ending.stopped) (sym c.end-ended.ensures.connections)
          (subst (λ es. ServesDoors wire C n most R over old.entrances es connections starved ending.stopped) (sym doors) served));
      steered = subst (λ (ended : ℕ → ℕ → Bool). ServesConsole C n R ended (length old.entrances) w (g.O.Conn.wire r.console) ending) same
          (subst (λ x. ServesConsole C n R over (length old.entrances) w (g.O.Conn.wire x) ending) (sym c.left.ensures.objects.1) steered);
      door_lists = subst (λ (ended : ℕ → ℕ → Bool). (k : ℕ) → k < length old.entrances → ListIsPieces C R ended is_ordered k) same door_lists;
      console_list = subst (λ (ended : ℕ → ℕ → Bool). ListIsPieces C R ended is_accept_item (length old.entrances)) same console_list;
      orders = obeyed;
      connections = finished.connections;
      finish = finished.finish;
      legal = legal;
      booted = boots_first C seed T R finished.connections legal c.end-ended.ensures.laws.follows;
      first = opened;
      laws = c.end-ended.ensures.laws;
      numbers = c.end-ended.ensures.numbers;
      counts = c.end-ended.ensures.counts;
      kept = kept;
      failed = subst (FailuresAreTold g.N.Staffed.children e.record.launcher) (sym c.left.ensures.children) c.end-ended.ensures.failed;
      children = subst (ChildrenAreTold C g.N.Numbered.run_seed R g.N.Staffed.children) (sym c.left.ensures.children) c.end-ended.ensures.children;
      written = c.end-ended.ensures.written;
    }))
