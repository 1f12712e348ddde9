use Rattle.std.proofs.Common.{◌≡◌, ◌∙◌, inl, inr, Ok, Err, ap}
use Rattle.std.specs.Prelude.{Result, OnErr}
use Rattle.std.proofs.lemmas.Result.{on_ok_weaker, on_err_weaker}
use Rattle.okws_outer.specs.Families.{with_end}
use Rattle.okws_outer.specs.Lives.{new_life}
use Rattle.launch_crew.specs.Crews.{crew_of}
use Rattle.launch_crew.specs.Finished.{PlacesNone}
use Rattle.launch_crew.specs.Steps.{Starts, Misses}
use Rattle.launch_crew.proofs.Children.{more_refused, more_started}
use Rattle.launch_crew.proofs.Starting.{starts_on, misses_on, misses_none}
use Rattle.launch_crew.proofs.crew.Crew.start_noted.Goals as goal

-- what holds anyway holds on an error
on_any : {A X P : Type 0} (r : Result A X) → P → OnErr r P
on_any (Ok x) h = tt
on_any (Err e) h = h

pub returns-in_err-started-clause-err : goal.returns-in_err-started-clause-err
returns-in_err-started-clause-err g c =
    let a = c.args.self.now.staff in
    let b = c.start.new.self in
    on_any c.from_residual.result (misses_none c.args.service c.args.incarnation c.args.self.now.recorder a b c.start.ensures.running (more_refused a.family b.family c.in_err-started.ensures.refused c.start.ensures.faults) c.requires.empty)

pub returns-clause-ok : goal.returns-clause-ok
returns-clause-ok g c =
    let s = c.args.service in
    let k = c.args.incarnation in
    let r = c.args.self.now.recorder in
    let a = c.args.self.now.staff in
    let b = c.start.new.self in
    let d = crew_of c.place.new.self.recorder c.place.new.self.staff in
    let more = more_started s k c.args.words.now (g.F.Link.Link.wire c.in_ok-started.started.link) a.family b.family c.in_ok-started.ensures.started in
    on_ok_weaker c.place.result (λ (h : Starts s k (crew_of r b) d). starts_on s k r a b d c.start.ensures.running more h) c.place.ensures.ok

pub returns-clause-err : goal.returns-clause-err
returns-clause-err g c =
    let s = c.args.service in
    let k = c.args.incarnation in
    let r = c.args.self.now.recorder in
    let a = c.args.self.now.staff in
    let b = c.start.new.self in
    let d = crew_of c.place.new.self.recorder c.place.new.self.staff in
    let more = more_started s k c.args.words.now (g.F.Link.Link.wire c.in_ok-started.started.link) a.family b.family c.in_ok-started.ensures.started in
    on_err_weaker c.place.result (λ (h : Misses s k (crew_of r b) d). misses_on s k r a b d c.start.ensures.running more h) c.place.ensures.err

pub returns-clause-started : goal.returns-clause-started
returns-clause-started g c =
    let a = c.args.self.now.staff in
    let b = c.start.new.self in
    let d = c.place.new.self.staff in
    on_ok_weaker c.place.result (λ (same : d.family ≡ b.family). (g.F.Link.Link.wire c.in_ok-started.started.link, same ∙ c.in_ok-started.ensures.started)) c.place.ensures.told

pub returns-in_err-started-clause-in_vain : goal.returns-in_err-started-clause-in_vain
returns-in_err-started-clause-in_vain g c = on_any c.from_residual.result (inl c.in_err-started.ensures.refused)

pub returns-clause-in_vain : goal.returns-clause-in_vain
returns-clause-in_vain g c =
    let s = c.args.service in
    let k = c.args.incarnation in
    let b = c.start.new.self in
    let d = c.place.new.self.staff in
    on_err_weaker c.place.result
    (λ (h : PlacesNone g.N.Numbered.site g.N.Numbered.run_seed s k b.family d.family). inr (record {
      first = g.F.Link.Link.wire c.in_ok-started.started.link;
      last = h.0;
      is = h.1 ∙ ap (with_end (new_life s k) h.0) c.in_ok-started.ensures.started;
      front = h.2;
      whose = h.3;
      untaken = h.4;
    }))
    c.place.ensures.in_vain
