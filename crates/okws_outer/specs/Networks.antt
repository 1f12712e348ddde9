-- The network as contracts see it.
use Rattle.std.specs.Prelude.{◌≡◌, ℕ, List, ◌∷◌, Result}
use Rattle.std.specs.declared.option.Option.{Option}
use Rattle.okws_outer.specs.declared.error.MakeError.{MakeError}
use Rattle.okws_outer.specs.declared.network.Listening.{Listening}
use Rattle.okws_outer.specs.Doors.{Entrance}
use Rattle.okws_outer.specs.Making.{CountsMade}

-- The network as contracts see it: which doors were asked of it, the last ones first; how the doors stood that it last took back, in order; how many calls failed.
pub record Net : Type 0 where
  pub listened : List Listening
  pub doors : List Entrance
  pub faults : ℕ

-- So many doors of such a patience on a port were asked of the network, which changed nothing but that and its count of faults.
pub record Listens {V : Type 0} (port count : ℕ) (patience : Option ℕ) (old new : Net) (result : Result V MakeError) : Type 0 where
  pub net : new ≡ record old { listened = record { port = port; count = count; patience = patience } ∷ old.listened; faults = new.faults }
  pub faults : CountsMade old.faults new.faults result
