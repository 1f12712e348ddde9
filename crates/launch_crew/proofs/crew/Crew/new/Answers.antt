use Rattle.std.proofs.Common.{◌∙◌, ap}
use Rattle.site_cells.specs.Row.{link_at}
use Rattle.launch_crew.specs.Crews.{StaffIs, crew_of, running_at}
use Rattle.launch_crew.specs.Recorded.{Recorded}
use Rattle.launch_crew.proofs.Ended.{attended_none, none_yet}
use Rattle.launch_crew.proofs.crew.Crew.new.Goals as goal

pub returns-clause-attended : goal.returns-clause-attended
returns-clause-attended g c =
    attended_none (crew_of c.make_room.new.self c.in_ok-staff.staff) (λ s. ap (λ (t : StaffIs). running_at t.running s) c.in_ok-staff.ensures.ok ∙ none_yet c.services-services.result s)
    (λ s. ap (λ (r : Recorded). link_at r.watch s) c.make_room.ensures.same ∙ c.new-recorder.ensures.watch_is.unlinked s)

pub returns-clause-idle : goal.returns-clause-idle
returns-clause-idle g c = λ s. ap (λ (t : StaffIs). running_at t.running s) c.in_ok-staff.ensures.ok ∙ none_yet c.services-services.result s
