use Rattle.std.proofs.Common.{rules, arith, ◌≡◌, ◌≤◌, ◌<◌, ◌+◌, ℕ, true, List, [], length, map, refl, sym, ap, ◌∙◌, subst}
use Rattle.std.proofs.lemmas.List.{length-map}
use Rattle.okws_base.specs.Turns.{Behind}
use Rattle.okws_base.specs.declared.journal.Entry.{Entry}
use Rattle.okws_plan.specs.declared.event.LauncherEvent.{LauncherEvent}
use Rattle.turn_lock.specs.Rows.{AllCount, NoneFrom}
use Rattle.okws_outer.specs.Families.{Family}
use Rattle.monitor_model.specs.declared.record.Record.{Record}
use Rattle.site_cells.specs.Held.{by_event}
use Rattle.site_cells.specs.Closing.{HasNumber}
use Rattle.named_columns.specs.Launched.{by_entry}
use Rattle.launch_turns.specs.Deeds.{up_in}
use Rattle.okld_launch.specs.Failures.{FailuresAreTold, children_rise}
use Rattle.okld_launch.specs.Heard.{ChildrenAreTold}
use Rattle.site_locks.specs.Closing.{SomeIs}
use Rattle.site_run.specs.Closing.{AllKept, WritesLog}
use Rattle.site_run.specs.Journals.{KeepLaws, NameNumbers, AreCounts}
use Rattle.site_making.specs.Keepers.{keeper_of}
use Rattle.site_run.specs.Places.{PlacesAre}
use Rattle.site_run.specs.Rows.{ChairsAre, Seated}
use Rattle.site_run.specs.Tied.{AllEnd, LaunchesAreOwn, SeatsOf}
use Rattle.site_run.specs.Whole.{IsHeld}
use Rattle.site_run.specs.declared.ended.Counts.{Counts}
use Rattle.monitor_model.specs.Causes.{all_were_caused, has_up}
use Rattle.monitor_model.specs.Columns.{WithinCount}
use Rattle.monitor_model.specs.Launches.{failures}
use Rattle.monitor_model.specs.Launcher.{LauncherLaw}
use Rattle.launch_crew.specs.Coming.{came_up}
use Rattle.site_run.proofs.Caused.{record_ups, were_caused}
use Rattle.site_run.proofs.Closed.{are_seated}
use Rattle.site_run.proofs.Leaving.{IsTold, launches_own, lives_end, none_entered, raised_all}
use Rattle.site_run.specs.Pieced.{LaunchesAreWhole, ended_among, ended_crew}
use Rattle.site_run.proofs.Came.{came_as_told}
use Rattle.site_run.proofs.Taken.{last_behind}
use Rattle.site_run.proofs.Faulted.{faults_within}
use Rattle.site_run.proofs.Pieced.{children_heard, launches_whole}
use Rattle.site_run.proofs.whole.Run.end.Goals as goal

pub end_launcher-past-requires-clause-some : goal.end_launcher-past-requires-clause-some
end_launcher-past-requires-clause-some g c =
    let s = c.args.self in
    let seated = are_seated g.N.Numbered.site g.N.Numbered.launcher s.hall.turn s.hall.numbers s.hall.cells s.chairs s.places c.requires.held in
    let many : length c.chairs.inside.turns.items ≡ g.N.Numbered.launcher = ap (λ (x : ChairsAre). length x.turns) c.chairs.view_is ∙ seated.turns_many in
    let doors = c.requires.held.doors_many in
    search rules

pub end_launcher-past-requires-clause-rest : goal.end_launcher-past-requires-clause-rest
end_launcher-past-requires-clause-rest g c =
    let s = c.args.self in
    (are_seated g.N.Numbered.site g.N.Numbered.launcher s.hall.turn s.hall.numbers s.hall.cells _ s.places (subst (λ (x : ChairsAre). IsHeld g.N.Numbered.site g.N.Numbered.launcher s.hall.turn s.hall.numbers s.hall.cells x s.places) (sym c.chairs.view_is) c.requires.held)).rest

pub end_launcher-past-requires-clause-all : goal.end_launcher-past-requires-clause-all
end_launcher-past-requires-clause-all g c =
    let s = c.args.self in
    (are_seated g.N.Numbered.site g.N.Numbered.launcher s.hall.turn s.hall.numbers s.hall.cells _ s.places (subst (λ (x : ChairsAre). IsHeld g.N.Numbered.site g.N.Numbered.launcher s.hall.turn s.hall.numbers s.hall.cells x s.places) (sym c.chairs.view_is) c.requires.held)).turns

pub push_reserved-requires-2 : goal.push_reserved-requires-2
push_reserved-requires-2 g c =
    let s = c.args.self in
    let seated = are_seated g.N.Numbered.site g.N.Numbered.launcher s.hall.turn s.hall.numbers s.hall.cells s.chairs s.places c.requires.held in
    let many : length c.chairs.inside.cells.items ≡ g.N.Numbered.launcher = ap (λ (x : ChairsAre). length x.cells) c.chairs.view_is ∙ seated.cells_many in
    let room = subst (λ (x : ChairsAre). g.N.Numbered.launcher + 1 ≤ x.cells_room) (sym c.chairs.view_is) c.requires.held.cells_roomy in
    search rules

pub end_columns-columns-requires-clause-all : goal.end_columns-columns-requires-clause-all
end_columns-columns-requires-clause-all g c =
    let s = c.args.self in
    let n = g.N.Numbered.launcher in
    let seated = are_seated g.N.Numbered.site n s.hall.turn s.hall.numbers s.hall.cells _ s.places (subst (λ (x : ChairsAre). IsHeld g.N.Numbered.site n s.hall.turn s.hall.numbers s.hall.cells x s.places) (sym c.chairs.view_is) c.requires.held) in
    let doors = subst (λ (x : PlacesAre). length x.entrances + 1 ≡ n) (sym c.places.view_is) c.requires.held.doors_many in
    let m = length-map c.places.inside.doors.items g.D.Door.entrance in
    let total : c.len.result + 2 ≡ n + 1 = search rules in
    λ k l. subst (SomeIs k) (sym c.push_reserved.ensures.items) (seated.some c.end_launcher-past.result.stopped.seats c.end_launcher-past.ensures.numbers.0 k (subst (λ i. k < i) total l))

pub end_cells-cells-requires-clause-counts : goal.end_cells-cells-requires-clause-counts
end_cells-cells-requires-clause-counts g c =
    let n = g.N.Numbered.launcher in
    let doors = subst (λ (x : PlacesAre). length x.entrances + 1 ≡ n) (sym c.places.view_is) c.requires.held.doors_many in
    let m = length-map c.places.inside.doors.items g.D.Door.entrance in
    let total : c.len.result + 2 ≡ n + 1 = search rules in
    subst (λ i. AllCount i c.args.self.hall.cells) (sym total) c.requires.held.cells_count

pub end_cells-cells-requires-clause-all : goal.end_cells-cells-requires-clause-all
end_cells-cells-requires-clause-all g c =
    let s = c.args.self in
    let n = g.N.Numbered.launcher in
    let seated = are_seated g.N.Numbered.site n s.hall.turn s.hall.numbers s.hall.cells _ s.places (subst (λ (x : ChairsAre). IsHeld g.N.Numbered.site n s.hall.turn s.hall.numbers s.hall.cells x s.places) (sym c.chairs.view_is) c.requires.held) in
    let doors = subst (λ (x : PlacesAre). length x.entrances + 1 ≡ n) (sym c.places.view_is) c.requires.held.doors_many in
    let m = length-map c.places.inside.doors.items g.D.Door.entrance in
    let total : c.len.result + 2 ≡ n + 1 = search rules in
    λ k l. subst (HasNumber k) (sym c.push_reserved-2.ensures.items) (seated.numbered c.end_launcher-past.result.stopped.cells c.end_launcher-past.ensures.numbers.1 k (subst (λ i. k < i) total l))

pub returns-clause-doors : goal.returns-clause-doors
returns-clause-doors g c = ap (map g.D.Door.entrance) c.told.ensures.objects.0 ∙ ap (λ (x : PlacesAre). x.entrances) c.places.view_is

pub returns-clause-laws : goal.returns-clause-laws
returns-clause-laws g c =
    let columns = c.end_columns-columns in
    let cells = c.end_cells-cells in
    let proxies : length columns.result.proxies.pasts.items ≡ length g.N.Numbered.site.proxies = (let q = columns.ensures.many in search rules) in
    let services : length cells.result.events.items ≡ length g.N.Numbered.site.services = (let q = cells.ensures.many in search rules) in
    subst (λ (R : Record). KeepLaws g.N.Numbered.site g.N.Numbered.run_seed g.N.Numbered.launcher R) (sym c.told.ensures.journals)
    (record {
      okd = (columns.ensures.okd.0, columns.ensures.okd.1);
      proxies = columns.ensures.proxies.0;
      follows = columns.ensures.follows;
      drains = columns.ensures.drains;
      logs = columns.ensures.logs;
      proxies_are = proxies;
      pubd = (columns.ensures.pubd.0, columns.ensures.pubd.1);
      oklogd = (columns.ensures.oklogd.0, columns.ensures.oklogd.1);
      launcher = c.end_launcher-past.ensures.law;
      cells = cells.ensures.cells;
      cells_are = services;
    })

pub returns-clause-numbers : goal.returns-clause-numbers
returns-clause-numbers g c =
    let n = g.N.Numbered.launcher in
    let doors = subst (λ (x : PlacesAre). length x.entrances + 1 ≡ n) (sym c.places.view_is) c.requires.held.doors_many in
    let m = length-map c.places.inside.doors.items g.D.Door.entrance in
    let total : c.len.result + 2 ≡ n + 1 = search rules in
    let past = c.end_launcher-past in
    let columns = c.end_columns-columns in
    let cells = c.end_cells-cells in
    let workers : length columns.result.workers.items ≡ n = (let q = columns.ensures.workers in search rules) in
    subst (λ (R : Record). NameNumbers n R) (sym c.told.ensures.journals)
    (record {
      okd = λ k l. columns.ensures.okd.2 k (subst (λ i. i ≤ k) (sym total) l);
      proxies = subst (λ i. NoneFrom by_entry i columns.result.proxies.pasts.items) total columns.ensures.proxies.1;
      pubd = λ k l. columns.ensures.pubd.2 k (subst (λ i. i ≤ k) (sym total) l);
      oklogd = λ k l. columns.ensures.oklogd.2 k (subst (λ i. i ≤ k) (sym total) l);
      cells = subst (λ i. NoneFrom (by_event n) i cells.result.events.items) total cells.ensures.none;
      launcher = none_entered n c.args.self.hall.turn.count past.result.past past.result.deeds.past c.requires.held.turn_count past.ensures.entries past.ensures.none;
      workers = workers;
    })

pub returns-clause-counts : goal.returns-clause-counts
returns-clause-counts g c =
    let columns = c.end_columns-columns in
    let now : Counts = record {
      connections = c.args.connections;
      accepts = columns.result.okd.accepts;
      launches = columns.result.okd.launches;
      publications = columns.result.pubd.publications;
      logged = columns.result.oklogd.logged;
    } in
    subst (λ (k : Counts). AreCounts g.N.Numbered.site c.told.result.record k) (sym (c.told.ensures.counts ∙ c.counted-counts.ensures))
    (subst (λ (R : Record). AreCounts g.N.Numbered.site R now) (sym c.told.ensures.journals)
    (record {
      accepts_are = columns.ensures.accepts;
      launches_are = columns.ensures.launches;
      publications_are = columns.ensures.publications;
      logged_are = columns.ensures.logged;
    }))

pub returns-clause-connections : goal.returns-clause-connections
returns-clause-connections g c = ap (λ (k : Counts). k.connections) (c.told.ensures.counts ∙ c.counted-counts.ensures)

pub returns-clause-kept : goal.returns-clause-kept
returns-clause-kept g c =
    let columns = c.end_columns-columns in
    let keeper = keeper_of g.K.Keeper.tables g.K.Keeper.told g.K.Keeper.faults g.K.Keeper.steady in
    subst (λ ks. AllKept g.N.Numbered.site g.N.Backed.tells g.N.Backed.steady g.N.Backed.keeper_faults 0 (map keeper ks) c.told.result.record.proxies) (sym c.told.ensures.objects.1)
    (subst (λ (R : Record). AllKept g.N.Numbered.site g.N.Backed.tells g.N.Backed.steady g.N.Backed.keeper_faults 0 (map keeper columns.result.proxies.keepers.items) R.proxies) (sym c.told.ensures.journals) columns.ensures.kept)

pub returns-clause-written : goal.returns-clause-written
returns-clause-written g c =
    let columns = c.end_columns-columns in
    let first = g.N.Backed.sink_faults in
    let r = c.told.result in
    subst (λ (R : Record). WritesLog g.N.Numbered.site R.oklogd (g.S.Sink.given r.log) first (g.S.Sink.faults r.log) r.log_failed) (sym c.told.ensures.journals)
    (subst (λ s. WritesLog g.N.Numbered.site columns.result.oklogd.past (g.S.Sink.given s) first (g.S.Sink.faults s) r.log_failed) (sym c.told.ensures.objects.2)
    (subst (λ b. WritesLog g.N.Numbered.site columns.result.oklogd.past (g.S.Sink.given columns.result.oklogd.sink) first (g.S.Sink.faults columns.result.oklogd.sink) b) (sym c.told.ensures.objects.3) columns.ensures.written))

pub returns-clause-lives : goal.returns-clause-lives
returns-clause-lives g c = λ lives of.
    let C = g.N.Numbered.site in
    let seed = g.N.Numbered.run_seed in
    let n = g.N.Numbered.launcher in
    let past = c.end_launcher-past in
    let columns = c.end_columns-columns in
    let cells = c.end_cells-cells in
    let t = c.args.self.hall.turn in
    let chairs = c.chairs.inside in
    let stopped = past.result.stopped in
    let deeds = past.result.deeds.past in
    let count = c.len.result + 2 in
    let doors = subst (λ (x : PlacesAre). length x.entrances + 1 ≡ n) (sym c.places.view_is) c.requires.held.doors_many in
    let m = length-map c.places.inside.doors.items g.D.Door.entrance in
    let total : count ≡ n + 1 = search rules in
    let services : length cells.result.events.items ≡ length C.services = (let q = cells.ensures.many in search rules) in
    let R : Record = record {
      okd = columns.result.okd.past;
      proxies = columns.result.proxies.pasts.items;
      pubd = columns.result.pubd.past;
      oklogd = columns.result.oklogd.past;
      launcher = past.result.past;
      cells = cells.result.events.items;
      sents = cells.result.sents.items;
      doors = [];
      workers = columns.result.workers.items;
      launches = past.result.stopped.own;
    } in
    let none = none_entered n c.args.self.hall.turn.count past.result.past past.result.deeds.past c.requires.held.turn_count past.ensures.entries past.ensures.none n (omega arith) in
    let launched : LaunchesAreOwn n R = launches_own n R c.chairs.inside.seats.items c.push_reserved.new.self.items past.result.stopped.seats c.chairs.inside.cells.items c.push_reserved-2.new.self.items past.result.stopped.cells
    c.push_reserved.ensures.items c.push_reserved-2.ensures.items past.ensures.numbers.0 past.ensures.numbers.1 columns.ensures.grown cells.ensures.grown none past.ensures.own in
    let came : (s k : ℕ) → has_up R s k ≡ up_in past.result.deeds.past s k = came_as_told C seed n R past.result.deeds.past past.result.stopped.cells.cells past.ensures.entries past.ensures.whole launched.own.okd columns.ensures.okd.1 in
    let raised = raised_all R n count columns.ensures.saw.0 chairs.seats.items c.push_reserved.new.self.items stopped.seats c.push_reserved.ensures.items columns.ensures.saw.1 total past.ensures.numbers.0
    (λ u l. past.ensures.shown u (subst (λ k. u < k) services l)) in
    let ended = ended_among g.N.Staffed.children (g.F.Children.family stopped.children) in
    let told : IsTold C n deeds R ended = record {
      entries_are = past.ensures.entries;
      none = λ k l. past.ensures.none k (subst (λ i. i ≤ k) (sym c.requires.held.turn_count) l);
      law = subst (λ (J : List (Entry LauncherEvent)). LauncherLaw C J) past.ensures.entries past.ensures.law;
      ups = came;
      ends = past.ensures.ended;
    } in
    subst (λ (S : Record). AllEnd n 0 lives S (ended_among g.N.Staffed.children (g.F.Children.family c.told.result.children))) (sym c.told.ensures.journals)
    (subst (λ (f : Family). AllEnd n 0 lives R (ended_among g.N.Staffed.children f)) (sym c.told.ensures.children)
    (lives_end C t (length C.services) n R ended deeds lives chairs.seats.items c.push_reserved.new.self.items stopped.seats chairs.cells.items c.push_reserved-2.new.self.items stopped.cells chairs.turns.items told
    (subst (λ (x : ChairsAre). Seated t (length C.services) x) (sym c.chairs.view_is) c.requires.held.seated) (subst (λ (x : ChairsAre). SeatsOf lives x) (sym c.chairs.view_is) of)
    c.push_reserved.ensures.items c.push_reserved-2.ensures.items columns.ensures.grown cells.ensures.grown past.ensures.grown columns.ensures.lists raised))

pub returns-clause-launched : goal.returns-clause-launched
returns-clause-launched g c =
    let n = g.N.Numbered.launcher in
    let past = c.end_launcher-past in
    let columns = c.end_columns-columns in
    let cells = c.end_cells-cells in
    let R : Record = record {
      okd = columns.result.okd.past;
      proxies = columns.result.proxies.pasts.items;
      pubd = columns.result.pubd.past;
      oklogd = columns.result.oklogd.past;
      launcher = past.result.past;
      cells = cells.result.events.items;
      sents = cells.result.sents.items;
      doors = [];
      workers = columns.result.workers.items;
      launches = past.result.stopped.own;
    } in
    let none = none_entered n c.args.self.hall.turn.count past.result.past past.result.deeds.past c.requires.held.turn_count past.ensures.entries past.ensures.none n (omega arith) in
    let launched : LaunchesAreOwn n R = launches_own n R c.chairs.inside.seats.items c.push_reserved.new.self.items past.result.stopped.seats c.chairs.inside.cells.items c.push_reserved-2.new.self.items past.result.stopped.cells
    c.push_reserved.ensures.items c.push_reserved-2.ensures.items past.ensures.numbers.0 past.ensures.numbers.1 columns.ensures.grown cells.ensures.grown none past.ensures.own in
    subst (λ (S : Record). LaunchesAreOwn n S) (sym c.told.ensures.journals) launched

pub returns-clause-failed : goal.returns-clause-failed
returns-clause-failed g c =
    subst (λ (R : Record). FailuresAreTold g.N.Staffed.children R.launcher (g.F.Children.family c.told.result.children)) (sym c.told.ensures.journals)
    (subst (λ (f : Family). FailuresAreTold g.N.Staffed.children c.end_launcher-past.result.past f) (sym c.told.ensures.children) c.end_launcher-past.ensures.failed)

pub returns-clause-caused : goal.returns-clause-caused
returns-clause-caused g c =
    let n = g.N.Numbered.launcher in
    let past = c.end_launcher-past in
    let columns = c.end_columns-columns in
    let cells = c.end_cells-cells in
    let R : Record = record {
      okd = columns.result.okd.past;
      proxies = columns.result.proxies.pasts.items;
      pubd = columns.result.pubd.past;
      oklogd = columns.result.oklogd.past;
      launcher = past.result.past;
      cells = cells.result.events.items;
      sents = cells.result.sents.items;
      doors = [];
      workers = columns.result.workers.items;
      launches = past.result.stopped.own;
    } in
    let none = none_entered n c.args.self.hall.turn.count past.result.past past.result.deeds.past c.requires.held.turn_count past.ensures.entries past.ensures.none n (omega arith) in
    let launched : LaunchesAreOwn n R = launches_own n R c.chairs.inside.seats.items c.push_reserved.new.self.items past.result.stopped.seats c.chairs.inside.cells.items c.push_reserved-2.new.self.items past.result.stopped.cells
    c.push_reserved.ensures.items c.push_reserved-2.ensures.items past.ensures.numbers.0 past.ensures.numbers.1 columns.ensures.grown cells.ensures.grown none past.ensures.own in
    subst (λ (S : Record). all_were_caused S S.launcher ≡ true) (sym c.told.ensures.journals)
    (were_caused R (came_up past.result.stopped.seats) (record_ups n R past.result.stopped.seats past.ensures.numbers.0 (launched.own.okd ∙ sym past.ensures.own.okd) columns.ensures.okd.1) R.launcher past.ensures.caused)

pub returns-clause-pieces : goal.returns-clause-pieces
returns-clause-pieces g c =
    let C = g.N.Numbered.site in
    let seed = g.N.Numbered.run_seed in
    let n = g.N.Numbered.launcher in
    let past = c.end_launcher-past in
    let columns = c.end_columns-columns in
    let cells = c.end_cells-cells in
    let R : Record = record {
      okd = columns.result.okd.past;
      proxies = columns.result.proxies.pasts.items;
      pubd = columns.result.pubd.past;
      oklogd = columns.result.oklogd.past;
      launcher = past.result.past;
      cells = cells.result.events.items;
      sents = cells.result.sents.items;
      doors = [];
      workers = columns.result.workers.items;
      launches = past.result.stopped.own;
    } in
    let none = none_entered n c.args.self.hall.turn.count past.result.past past.result.deeds.past c.requires.held.turn_count past.ensures.entries past.ensures.none n (omega arith) in
    let launched : LaunchesAreOwn n R = launches_own n R c.chairs.inside.seats.items c.push_reserved.new.self.items past.result.stopped.seats c.chairs.inside.cells.items c.push_reserved-2.new.self.items past.result.stopped.cells
    c.push_reserved.ensures.items c.push_reserved-2.ensures.items past.ensures.numbers.0 past.ensures.numbers.1 columns.ensures.grown cells.ensures.grown none past.ensures.own in
    let came : (s k : ℕ) → has_up R s k ≡ up_in past.result.deeds.past s k = came_as_told C seed n R past.result.deeds.past past.result.stopped.cells.cells past.ensures.entries past.ensures.whole launched.own.okd columns.ensures.okd.1 in
    subst (LaunchesAreWhole C seed) (sym c.told.ensures.journals)
    (launches_whole C seed n R (up_in past.result.deeds.past) past.result.stopped.seats c.chairs.inside.cells.items c.push_reserved-2.new.self.items past.result.stopped.cells came c.push_reserved-2.ensures.items past.ensures.numbers.1 cells.ensures.grown past.ensures.own past.ensures.whole)

pub returns-clause-first : goal.returns-clause-first
returns-clause-first g c =
    let past = c.end_launcher-past in
    let columns = c.end_columns-columns in
    subst (λ (R : Record). Behind c.args.okd R.okd) (sym c.told.ensures.journals)
    (last_behind c.args.okd c.chairs.inside.seats.items c.push_reserved.new.self.items past.result.stopped.seats columns.result.okd.past c.push_reserved.ensures.items columns.ensures.grown.okd_grown past.ensures.met)

pub returns-clause-children : goal.returns-clause-children
returns-clause-children g c =
    let n = g.N.Numbered.launcher in
    let past = c.end_launcher-past in
    let columns = c.end_columns-columns in
    let cells = c.end_cells-cells in
    let R : Record = record {
      okd = columns.result.okd.past;
      proxies = columns.result.proxies.pasts.items;
      pubd = columns.result.pubd.past;
      oklogd = columns.result.oklogd.past;
      launcher = past.result.past;
      cells = cells.result.events.items;
      sents = cells.result.sents.items;
      doors = [];
      workers = columns.result.workers.items;
      launches = past.result.stopped.own;
    } in
    let none = none_entered n c.args.self.hall.turn.count past.result.past past.result.deeds.past c.requires.held.turn_count past.ensures.entries past.ensures.none n (omega arith) in
    let launched : LaunchesAreOwn n R = launches_own n R c.chairs.inside.seats.items c.push_reserved.new.self.items past.result.stopped.seats c.chairs.inside.cells.items c.push_reserved-2.new.self.items past.result.stopped.cells
    c.push_reserved.ensures.items c.push_reserved-2.ensures.items past.ensures.numbers.0 past.ensures.numbers.1 columns.ensures.grown cells.ensures.grown none past.ensures.own in
    subst (λ (S : Record). ChildrenAreTold g.N.Numbered.site g.N.Numbered.run_seed S g.N.Staffed.children (g.F.Children.family c.told.result.children)) (sym c.told.ensures.journals)
    (subst (λ (f : Family). ChildrenAreTold g.N.Numbered.site g.N.Numbered.run_seed R g.N.Staffed.children f) (sym c.told.ensures.children)
    (children_heard g.N.Numbered.site g.N.Numbered.run_seed g.N.Staffed.children n R c.chairs.inside.cells.items c.push_reserved-2.new.self.items
    (ended_crew past.result.stopped.seats past.result.stopped.cells (g.F.Children.family past.result.stopped.children) past.result.stopped.own) (λ s. refl) refl
    c.push_reserved-2.ensures.items past.ensures.numbers.1 cells.ensures.grown cells.ensures.cells launched past.ensures.kin))

pub returns-clause-failures : goal.returns-clause-failures
returns-clause-failures g c =
    let n = g.N.Numbered.launcher in
    let first = g.N.Staffed.children in
    let past = c.end_launcher-past in
    let columns = c.end_columns-columns in
    let cells = c.end_cells-cells in
    let services : length cells.result.events.items ≡ length g.N.Numbered.site.services = (let q = cells.ensures.many in search rules) in
    let R : Record = record {
      okd = columns.result.okd.past;
      proxies = columns.result.proxies.pasts.items;
      pubd = columns.result.pubd.past;
      oklogd = columns.result.oklogd.past;
      launcher = past.result.past;
      cells = cells.result.events.items;
      sents = cells.result.sents.items;
      doors = [];
      workers = columns.result.workers.items;
      launches = past.result.stopped.own;
    } in
    subst (λ (S : Record). WithinCount (children_rise first (g.F.Children.family c.told.result.children)) (failures S)) (sym c.told.ensures.journals)
    (subst (λ (f : Family). WithinCount (children_rise first f) (failures R)) (sym c.told.ensures.children)
    (faults_within g.N.Numbered.site g.N.Numbered.run_seed first n R c.chairs.inside.cells.items c.push_reserved-2.new.self.items
    (ended_crew past.result.stopped.seats past.result.stopped.cells (g.F.Children.family past.result.stopped.children) past.result.stopped.own)
    c.push_reserved-2.ensures.items past.ensures.numbers.1 cells.ensures.grown cells.ensures.cells (λ s less. past.ensures.empty s (subst (λ (m : ℕ). s < m) services less)) past.ensures.failed.more past.ensures.faults))
