use Rattle.std.proofs.Common.{◌+◌, ℕ, sym, ◌∙◌, subst}
use Rattle.site_run.specs.Places.{HasPlaces}
use Rattle.okws_serve.proofs.leaving.leave_door.Goals as goal

pub put_back-requires-clause-room : goal.put_back-requires-clause-room
put_back-requires-clause-room g c = subst (λ (k : ℕ). HasPlaces (k + 1) c.args.places.now) (sym c.requires.alike.2) c.requires.room.1

pub put_back-requires-clause-alike : goal.put_back-requires-clause-alike
put_back-requires-clause-alike g c = c.requires.alike.3 ∙ sym c.requires.alike.2
