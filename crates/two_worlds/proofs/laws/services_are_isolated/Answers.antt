use Rattle.two_worlds.proofs.AtLog.{same_at_log}
use Rattle.two_worlds.proofs.AtProxy.{same_at_proxy}
use Rattle.two_worlds.proofs.AtPubd.{same_at_pubd}
use Rattle.two_worlds.proofs.laws.services_are_isolated.Goals as goal

pub returns : goal.returns
returns c = record {
  proxy = λ C D s p J K lawful_c lawful_d agree e. (same_at_proxy C D s p lawful_c lawful_d (agree.rights p) (agree.first p) J K e).verdicts;
  pubd = λ C D s J K lawful_c lawful_d agree e. same_at_pubd C D s lawful_c lawful_d agree.readable J K e;
  oklogd = λ C D s J K agree e. same_at_log C D s agree.logs J K e;
}
