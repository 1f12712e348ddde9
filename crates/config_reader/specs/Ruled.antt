-- What every configuration that was read keeps of the query language.
use Rattle.std.specs.Prelude.{ℕ}
use Rattle.okws_plan.specs.Rules.{QueriesKeepRules}
use Rattle.okws_plan.specs.declared.configuration.Config.{Config}

-- The queries of each proxy keep the rules of the query language for the proxy's tables.
abbrev pub AreRuled : Config → Type 0
AreRuled C = (p : ℕ) → QueriesKeepRules C p
