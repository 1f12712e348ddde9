use Rattle.std.proofs.Common.{arith, ◌≡◌, ◌<◌, inl, refl, sym, subst}
use Rattle.std.specs.Prelude.{OnOk, OnErr}
use Rattle.monitor_model.specs.Cell.{incarnation, last_booted}
use Rattle.site_cells.specs.Row.{seen_at}
use Rattle.site_locks.specs.Heard.{AreInstalled}
use Rattle.launch_crew.specs.Crews.{crew_of}
use Rattle.launch_crew.specs.Recorded.{Recorded}
use Rattle.launch_crew.specs.Steps.{Starts, Misses}
use Rattle.launch_crew.proofs.Bare.{stands_installed}
use Rattle.launch_crew.proofs.Children.{more_refused}
use Rattle.launch_crew.proofs.Starting.{misses_none}
use Rattle.launch_crew.proofs.crew.Crew.start.Goals as goal

pub returns-in_default-clause-err : goal.returns-in_default-clause-err
returns-in_default-clause-err g c =
    let s = c.args.service in
    let k = c.args.incarnation in
    let t = c.args.self.now.staff in
    subst (λ (r : Recorded). Misses s k (crew_of c.args.self.now.recorder t) (crew_of r t)) (sym c.note_columns.ensures.same)
    (misses_none s k c.args.self.now.recorder t t refl (more_refused t.family t.family refl (omega arith)) c.requires.empty)

pub returns-in_default-clause-in_vain : goal.returns-in_default-clause-in_vain
returns-in_default-clause-in_vain g c = inl refl

pub start_noted-requires-clause-empty : goal.start_noted-requires-clause-empty
start_noted-requires-clause-empty g c = subst (λ (r : Recorded). incarnation (seen_at r.watch c.args.service) ≡ 0) (sym c.note_columns.ensures.same) c.requires.empty

pub start_noted-requires-clause-later : goal.start_noted-requires-clause-later
start_noted-requires-clause-later g c = subst (λ (r : Recorded). last_booted (seen_at r.watch c.args.service) < c.args.incarnation) (sym c.note_columns.ensures.same) c.requires.later

pub start_noted-requires-clause-installed : goal.start_noted-requires-clause-installed
start_noted-requires-clause-installed g c =
    subst (AreInstalled g.N.Numbered.site c.args.service c.args.incarnation) (sym c.in-Ok.ensures.notes) (stands_installed g.N.Numbered.site c.args.service c.args.incarnation c.args.self.now.recorder.sat c.requires.stands)

pub start_noted-requires-clause-room : goal.start_noted-requires-clause-room
start_noted-requires-clause-room g c = subst (λ (r : Recorded). 0 < r.room) (sym c.note_columns.ensures.same) c.requires.room

pub returns-clause-ok : goal.returns-clause-ok
returns-clause-ok g c =
    let d = crew_of c.start_noted.new.self.recorder c.start_noted.new.self.staff in
    subst (λ (r : Recorded). OnOk c.start_noted.result (Starts c.args.service c.args.incarnation (crew_of r c.args.self.now.staff) d)) c.note_columns.ensures.same c.start_noted.ensures.ok

pub returns-clause-err : goal.returns-clause-err
returns-clause-err g c =
    let d = crew_of c.start_noted.new.self.recorder c.start_noted.new.self.staff in
    subst (λ (r : Recorded). OnErr c.start_noted.result (Misses c.args.service c.args.incarnation (crew_of r c.args.self.now.staff) d)) c.note_columns.ensures.same c.start_noted.ensures.err
