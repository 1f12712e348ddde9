use Rattle.std.proofs.Common.{◌≡◌, refl, subst, ℕ}
use Rattle.okws_plan.specs.declared.event.OkdEvent.TheVariants as event
use Rattle.std.specs.Prelude.{Some, None, filter_map}
use Rattle.monitor_model.specs.declared.record.Own.TheVariants as own
use Rattle.monitor_model.specs.Launches.{standing_in, with_down}
use Rattle.monitor_model.specs.Merged.{okd_item}
use Rattle.monitor_model.specs.Standing.{okd_grant}
use Rattle.launch_crew.specs.Coming.{NoneCame}
use Rattle.launch_crew.specs.Recorded.{Recorded}
use Rattle.launch_crew.proofs.Coming.{came_entered, none_seen}
use Rattle.launch_crew.proofs.Listing.{ends_none, ends_some, stood}
use Rattle.launch_crew.proofs.Recording.{okd_entered, okd_seen}
use Rattle.launch_crew.proofs.recorder.Recorder.down.Goals as goal

pub invariant_of-self : goal.invariant_of-self
invariant_of-self g c =
    let h = c.in-Some.ensures in
    okd_entered g.N.Numbered.site g.N.Numbered.launcher c.self.inside.seats c.down.new.self c.self.inside.cells c.self.inside.own.past c.enter.new.self.past c.self.inside.own.room c.enter.new.self.room c.self.invariant
    (event.Down c.args.service c.in-Some.incarnation) h.0 h.1 refl c.enter.ensures.past h.3

pub invariant_of-self-in_default : goal.invariant_of-self-in_default
invariant_of-self-in_default g c =
    let h = c.in_default.ensures in
    okd_seen g.N.Numbered.site g.N.Numbered.launcher c.self.inside.seats c.down.new.self c.self.inside.cells c.self.inside.own.past c.self.inside.own.room c.self.inside.own.room c.self.invariant h.0 h.1 h.3

pub returns-in-Some-clause-came : goal.returns-in-Some-clause-came
returns-in-Some-clause-came g c =
    let h = c.in-Some.ensures in
    subst (λ (x : Recorded). NoneCame x.sat c.down.new.self) c.self.view_is (came_entered (event.Down c.args.service c.in-Some.incarnation) h.0 c.self.inside.seats c.down.new.self h.3)

pub returns-in_default-clause-came : goal.returns-in_default-clause-came
returns-in_default-clause-came g c = let h = c.in_default.ensures in subst (λ (x : Recorded). NoneCame x.sat c.down.new.self) c.self.view_is (none_seen h.0 c.self.inside.seats c.down.new.self h.3)

pub returns-in-Some-clause-own : goal.returns-in-Some-clause-own
returns-in-Some-clause-own g c =
    let h = c.in-Some.ensures in
    let found = standing_in okd_grant (filter_map okd_item c.self.inside.own.past) c.args.service in
    subst (λ (r : Recorded). c.enter.new.self.past ≡ with_down c.args.service r.own) c.self.view_is
    (ends_some (λ (k : ℕ). own.Okd (event.Down c.args.service k)) c.in-Some.incarnation found (Some c.in-Some.incarnation) c.self.inside.own.past c.enter.new.self.past
    (stood okd_grant c.args.service c.self.inside.seats.okd h.0 found (Some c.in-Some.incarnation) h.1 (c.self.invariant.standing.okd c.args.service) h.2) refl c.enter.ensures.past)

pub returns-in_default-clause-own : goal.returns-in_default-clause-own
returns-in_default-clause-own g c =
    let h = c.in_default.ensures in
    let found = standing_in okd_grant (filter_map okd_item c.self.inside.own.past) c.args.service in
    subst (λ (r : Recorded). c.self.inside.own.past ≡ with_down c.args.service r.own) c.self.view_is
    (ends_none (λ (k : ℕ). own.Okd (event.Down c.args.service k)) found None c.self.inside.own.past c.self.inside.own.past
    (stood okd_grant c.args.service c.self.inside.seats.okd h.0 found None h.1 (c.self.invariant.standing.okd c.args.service) h.2) refl refl)
