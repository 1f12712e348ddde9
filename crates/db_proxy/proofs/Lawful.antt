use Rattle.std.proofs.Common.{◌≡◌, refl}
use Rattle.okws_plan.specs.Rules.{QueriesKeepRules}
use Rattle.okws_plan.specs.declared.configuration.Config.{Config}
use Rattle.okws_plan.proofs.Rules.{all_keep_rules}
use Rattle.db_proxy.specs.Example.{site}

-- The queries of the example keep the rules.
pub lawful : (C : Config) → C ≡ site → QueriesKeepRules C 0
lawful C same = rw same (all_keep_rules site 0 refl)
