use Rattle.okws_server.proofs.Served.{served_the_same}
use Rattle.okws_server.proofs.laws.agreeing_servers_give_the_same.Goals as goal

pub returns : goal.returns
returns c = served_the_same c.hears_the_same.ensures.heard c.hears_the_same.ensures.due
