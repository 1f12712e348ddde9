-- Who may ask a proxy.
use Rattle.std.specs.Prelude.{ℕ, List, IsTrue}
use Rattle.okws_base.specs.declared.journal.Entry.{Entry}
use Rattle.okws_plan.specs.Configuration.{grants_at}
use Rattle.okws_plan.specs.declared.configuration.Config.{Config}
use Rattle.okws_plan.specs.declared.event.ProxyEvent.{ProxyEvent}
use Rattle.monitor_model.specs.Booting.{WasInstalled}

-- Where service s has a grant at proxy p, its incarnation k was installed there.
abbrev pub IsInstalledAt : Config → ℕ → List (Entry ProxyEvent) → ℕ → ℕ → Type 0
IsInstalledAt C p J s k = IsTrue (grants_at C s p) → WasInstalled J s k
