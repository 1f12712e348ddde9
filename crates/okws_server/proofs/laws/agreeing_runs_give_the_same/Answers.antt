use Rattle.okws_server.proofs.Isolation.{given_the_same}
use Rattle.okws_server.proofs.laws.agreeing_runs_give_the_same.Goals as goal

pub returns : goal.returns
returns c = given_the_same c.hears_the_same.ensures.heard
