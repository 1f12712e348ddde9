-- What a step leaves of what is known of the children.
use Rattle.launch_crew.specs.Crews.{CrewIs}
use Rattle.launch_crew.specs.Ended.{Attended, StaysEnded}

-- Where each child that ran had its link, each that runs has it, and what was known of ended children still is.
pub record StaysAttended (c d : CrewIs) : Type 0 where
  pub attended : Attended c → Attended d
  pub ended : Attended c → StaysEnded c d
