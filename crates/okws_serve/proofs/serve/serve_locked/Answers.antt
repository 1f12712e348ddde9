use Rattle.std.proofs.Common.{rules, ◌≡◌, ℕ, List, map, length, sym, ap, ◌∙◌, subst}
use Rattle.std.specs.Prelude.{vec_len}
use Rattle.std.proofs.lemmas.List.{length-map}
use Rattle.turn_lock.specs.BoardSeats.{IsFresh}
use Rattle.okws_outer.specs.Doors.{Entrance}
use Rattle.site_making.specs.Keepers.{keeper_of}
use Rattle.site_run.specs.Places.{AllIdle}
use Rattle.okws_serve.specs.Manned.{WorkDone}
use Rattle.okws_serve.specs.Runs.{ObjectsAre, Runs, StartIs}
use Rattle.okws_serve.proofs.Surviving.{always_none, if_both, none_some, none_then, some_none}
use Rattle.okws_serve.proofs.serve.serve_locked.Goals as goal

pub work_in-console-requires-clause-site : goal.work_in-console-requires-clause-site
work_in-console-requires-clause-site g c = λ κs within. c.in-Ok-stage.ensures.beside.0

pub work_in-console-requires-clause-first : goal.work_in-console-requires-clause-first
work_in-console-requires-clause-first g c = λ κs within. c.in-Ok-stage.ensures.beside.2

pub returns-in_default-clause-idle : goal.returns-in_default-clause-idle
returns-in_default-clause-idle g c = subst AllIdle (sym (ap (λ (ds : List g.row.D.Denot). map g.D.Door.entrance ds) c.unused.ensures.0)) c.requires.idle

pub returns-in_default-clause-ran : goal.returns-in_default-clause-ran
returns-in_default-clause-ran g c = none_some c.unused.result.ran _ c.unused.ensures.3

pub returns-in_default-clause-log : goal.returns-in_default-clause-log
returns-in_default-clause-log g c = none_then c.unused.result.ran _ c.unused.ensures.3

pub returns-in_default-clause-unserved : goal.returns-in_default-clause-unserved
returns-in_default-clause-unserved g c = always_none c.unused.result.ran _ (ap (λ (ds : List g.row.D.Denot). map g.D.Door.entrance ds) c.unused.ensures.0, ap g.O.Conn.wire c.unused.ensures.1, ap g.F.Children.family c.unused.ensures.2)

pub returns-in-Err-clause-idle : goal.returns-in-Err-clause-idle
returns-in-Err-clause-idle g c =
    subst AllIdle (sym (ap (λ (ds : List g.row.D.Denot). map g.D.Door.entrance ds) (c.unused-in-Err.ensures.0 ∙ c.in-Err.ensures.back.0))) c.requires.idle

pub returns-in-Err-clause-ran : goal.returns-in-Err-clause-ran
returns-in-Err-clause-ran g c = none_some c.unused-in-Err.result.ran _ c.unused-in-Err.ensures.3

pub returns-in-Err-clause-log : goal.returns-in-Err-clause-log
returns-in-Err-clause-log g c = none_then c.unused-in-Err.result.ran _ c.unused-in-Err.ensures.3

pub returns-in-Err-clause-unserved : goal.returns-in-Err-clause-unserved
returns-in-Err-clause-unserved g c =
    always_none c.unused-in-Err.result.ran _
    (ap (λ (ds : List g.row.D.Denot). map g.D.Door.entrance ds) (c.unused-in-Err.ensures.0 ∙ c.in-Err.ensures.back.0), ap g.O.Conn.wire (c.unused-in-Err.ensures.1 ∙ c.in-Err.ensures.back.1), ap g.F.Children.family c.unused-in-Err.ensures.2 ∙ c.in-Err.ensures.back.2)

pub work_in-console-requires-clause-ready : goal.work_in-console-requires-clause-ready
work_in-console-requires-clause-ready g c = λ κs within. c.in-Ok-stage.ensures.ready

pub end_run-requires-clause-held : goal.end_run-requires-clause-held
end_run-requires-clause-held g c = c.work_in-console.ensures.held

pub end_run-requires-clause-room : goal.end_run-requires-clause-room
end_run-requires-clause-room g c = c.in-Ok-stage.ensures.beside.3

pub end_run-requires-clause-idle : goal.end_run-requires-clause-idle
end_run-requires-clause-idle g c = c.work_in-console.ensures.idle

pub returns-in-Ok-stage-clause-idle : goal.returns-in-Ok-stage-clause-idle
returns-in-Ok-stage-clause-idle g c = c.end_run.ensures.idle

pub returns-in-Ok-stage-clause-ran : goal.returns-in-Ok-stage-clause-ran
returns-in-Ok-stage-clause-ran g c =
    let r = c.end_run.result in
    let w = g.O.Conn.wire c.args.outside.console in
    let l = c.in-Ok-stage.staged in
    let done = subst (λ x. WorkDone g.D.Conn.Conn.wire g.N.Numbered.site g.N.Numbered.launcher l.scene.hall.numbers.id c.args.limits.connections c.work_in-console.new.chairs c.work_in-console.result.3 l.places c.work_in-console.new.places (g.O.Conn.wire x) (g.O.Conn.wire c.work_in-console.result.0) c.work_in-console.result.1.connections c.work_in-console.result.1.starved c.work_in-console.result.4 c.work_in-console.result.2) c.in-Ok-stage.ensures.beside.1 c.work_in-console.ensures.done in
    let start : StartIs = record { steady = g.N.Backed.steady; keeper_faults = g.N.Backed.keeper_faults; sink_faults = g.N.Backed.sink_faults; children = g.N.Staffed.children } in
    if_both r.ran r.log _ _ (λ ran log h.
    let now : ObjectsAre = record {
      entrances = map g.D.Door.entrance r.doors.items;
      console = g.O.Conn.wire r.console;
      children = g.F.Children.family r.children;
      keepers = map (keeper_of g.K.Keeper.tables g.K.Keeper.told g.K.Keeper.faults g.K.Keeper.steady) r.keepers.items;
      given = g.S.Sink.given log;
      faults = g.S.Sink.faults log;
    } in
    subst (λ (es : List Entrance). Runs g.D.Conn.Conn.wire g.N.Numbered.site g.N.Numbered.run_seed g.N.Numbered.launcher c.args.limits.connections start es w ran now) c.in-Ok-stage.ensures.doors
    (h c.args.limits.connections c.in-Ok-stage.staged.places w c.requires.limit done)) c.end_run.ensures.ran

pub returns-in-Ok-stage-clause-log : goal.returns-in-Ok-stage-clause-log
returns-in-Ok-stage-clause-log g c = λ some. c.end_run.ensures.some.1

pub returns-in-Ok-stage-clause-unserved : goal.returns-in-Ok-stage-clause-unserved
returns-in-Ok-stage-clause-unserved g c = some_none c.end_run.result.ran _ c.end_run.ensures.some.0

pub work_in-console-requires-clause-last : goal.work_in-console-requires-clause-last
work_in-console-requires-clause-last g c = λ κs within.
    let l = c.in-Ok-stage.staged in
    let many : length c.args.outside.doors.items ≡ vec_len c.args.outside.doors = search rules in
    let size : length l.places.entrances ≡ vec_len c.args.outside.doors = ap length c.in-Ok-stage.ensures.doors ∙ (length-map c.args.outside.doors.items g.D.Door.entrance ∙ many) in
    subst (λ (k : ℕ). IsFresh l.scene.hall.numbers.id k l.console.place) (sym size) c.in-Ok-stage.ensures.last

pub end_run-requires-clause-last : goal.end_run-requires-clause-last
end_run-requires-clause-last g c = c.work_in-console.ensures.last
