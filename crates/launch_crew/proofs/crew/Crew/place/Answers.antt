use Rattle.std.proofs.Common.{◌≡◌, Some, refl, ap}
use Rattle.std.proofs.lemmas.Result.{IfErr-at_err}
use Rattle.okws_outer.specs.Lives.{new_life}
use Rattle.launch_crew.specs.Crews.{StaffIs}
use Rattle.launch_crew.proofs.Children.{more_same, more_ended, faulty_finished}
use Rattle.launch_crew.proofs.crew.Crew.place.Goals as goal

pub returns-in-Ok-clause-ok : goal.returns-in-Ok-clause-ok
returns-in-Ok-clause-ok g c = record {
  tries = record {
    sat_is = c.boot.ensures.columns;
    only = c.boot.ensures.only;
    most = c.boot.ensures.most;
    told = more_same c.args.self.now.staff.family c.keep.new.self.family (ap (λ (t : StaffIs). t.family) c.keep.ensures.is);
    behind = c.boot.ensures.behind;
    room = c.boot.ensures.room;
    out = c.boot.ensures.out;
  };
  running_is = ap (λ (t : StaffIs). t.running) c.keep.ensures.is;
  child = c.keep.ensures.child;
  cell = c.in-Ok.ensures.ok;
  own_is = c.in-Ok.ensures.added;
  linked = c.in-Ok.ensures.linked;
  last = c.in-Ok.ensures.last;
}

pub returns-in-Err-clause-err : goal.returns-in-Err-clause-err
returns-in-Err-clause-err g c = record {
  tries = record {
    sat_is = c.boot.ensures.columns;
    only = c.boot.ensures.only;
    most = c.boot.ensures.most;
    told = more_ended (Some (new_life c.args.service c.args.incarnation)) (Some (g.F.Link.Link.wire c.in-Err.link)) c.args.self.now.staff.family c.finish.new.self.family (ap (λ (t : StaffIs). t.family) c.finish.ensures);
    behind = c.boot.ensures.behind;
    room = c.boot.ensures.room;
    out = c.boot.ensures.out;
  };
  running_is = ap (λ (t : StaffIs). t.running) c.finish.ensures;
  cell = c.in-Err.ensures.err;
  own_is = c.in-Err.ensures.kept;
  unlinked = λ out. c.in-Err.ensures.unlinked;
}

pub returns-in-Err-clause-cause : goal.returns-in-Err-clause-cause
returns-in-Err-clause-cause g c = λ failed.
    faulty_finished c.args.service c.args.incarnation (new_life c.args.service c.args.incarnation) (g.F.Link.Link.wire c.in-Err.link) c.args.self.now.staff.family c.finish.new.self.family
    (ap (λ (t : StaffIs). t.family) c.finish.ensures) refl refl (c.in-Err.ensures.cause (IfErr-at_err (λ y. c.in-Err.missed ≡ y) failed refl))

pub returns-in-Ok-clause-told : goal.returns-in-Ok-clause-told
returns-in-Ok-clause-told g c = ap (λ (t : StaffIs). t.family) c.keep.ensures.is

pub returns-in-Err-clause-in_vain : goal.returns-in-Err-clause-in_vain
returns-in-Err-clause-in_vain g c = (g.F.Link.Link.wire c.in-Err.link, ap (λ (t : StaffIs). t.family) c.finish.ensures, c.in-Err.ensures.front, c.in-Err.ensures.whose, c.in-Err.ensures.untaken)
