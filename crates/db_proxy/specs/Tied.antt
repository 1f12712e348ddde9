-- What a proxy's column keeps is what its past says.
use Rattle.std.specs.Prelude.{◌≡◌, ℕ, List, Option, IfSome, length}
use Rattle.okws_base.specs.declared.journal.Entry.{Entry}
use Rattle.okws_base.specs.declared.value.Token.{Token}
use Rattle.okws_base.specs.declared.value.Value.{Value}
use Rattle.okws_plan.specs.Configuration.{tables}
use Rattle.okws_plan.specs.Rules.{QueriesKeepRules}
use Rattle.okws_plan.specs.declared.configuration.Config.{Config}
use Rattle.okws_plan.specs.declared.configuration.Table.{Table}
use Rattle.okws_plan.specs.declared.event.ProxyEvent.{ProxyEvent}
use Rattle.grant_column.specs.Granted.{Granted, service_count, issued as issued_in, opened as opened_in}
use Rattle.monitor_model.specs.Standing.{issued}
use Rattle.monitor_model.specs.Proxy.{opened, rows}
use Rattle.monitor_model.specs.Columns.{ProxyLaw}

-- What proxy p keeps beside its head is what its past J says: the tokens and the sessions, the tables that the keeper was made for, and the rows that it tells; its queries keep the rules, and each entry fits those before it, with the tokens of the seed.
pub record Tied (C : Config) (p : ℕ) (seed : List ℕ) (J : List (Entry ProxyEvent)) (g : Granted) (kept : List Table) (told : Option (List (List (List Value)))) : Type 0 where
  pub services : service_count g ≡ length C.services
  pub tables_are : kept ≡ tables C p
  pub rules : QueriesKeepRules C p
  pub issued_is : (s : ℕ) (t : Token) → issued_in g s t ≡ issued J s t
  pub opened_is : (s k : ℕ) → opened_in g s k ≡ opened J s k
  pub rows_are : IfSome told (λ T. T ≡ rows C p J)
  pub law : ProxyLaw C seed p J
