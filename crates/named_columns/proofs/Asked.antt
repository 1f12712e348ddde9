-- What was installed stays so.
use Rattle.std.proofs.Common.{inr, ℕ, List, [], ◌∷◌, ◌++◌, sym, subst}
use Rattle.okws_base.specs.Past.{Grant}
use Rattle.okws_base.specs.Turns.{GrowsBy, Behind}
use Rattle.okws_base.specs.declared.journal.Entry.{Entry}
use Rattle.okws_plan.specs.declared.configuration.Config.{Config}
use Rattle.okws_plan.specs.declared.event.ProxyEvent.{ProxyEvent}
use Rattle.monitor_model.specs.Booting.{WasInstalled}
use Rattle.monitor_model.specs.Installed.{HasStood}
use Rattle.named_columns.specs.Asked.{IsInstalledAt}
use Rattle.named_columns.specs.Launched.{by_entry}

-- what was installed was so whatever is entered since
pub was_more : (s k : ℕ) (more J : List (Entry ProxyEvent)) → WasInstalled J s k → WasInstalled (more ++ J) s k
was_more s k [] J h = h
was_more s k (e ∷ more) J h = inr (was_more s k more J h)

pub installed_behind : (C : Config) (p s k : ℕ) (J K : List (Entry ProxyEvent)) → Behind J K → IsInstalledAt C p J s k → IsInstalledAt C p K s k
installed_behind C p s k J K b h = λ granted. subst (λ (L : List (Entry ProxyEvent)). WasInstalled L s k) (sym b.1) (was_more s k b.0 J (h granted))

pub installed_grown : (C : Config) (p s k n : ℕ) (J K : List (Entry ProxyEvent)) → GrowsBy by_entry n J K → IsInstalledAt C p J s k → IsInstalledAt C p K s k
installed_grown C p s k n J K g h = installed_behind C p s k J K (g.0, g.2) h

pub stood_more : {E : Type 0} (grant : E → Grant) (s k : ℕ) (more J : List (Entry E)) → HasStood grant J s k → HasStood grant (more ++ J) s k
stood_more grant s k [] J h = h
stood_more grant s k (e ∷ more) J h = inr (stood_more grant s k more J h)

pub stood_behind : {E : Type 0} (grant : E → Grant) (s k : ℕ) (J K : List (Entry E)) → Behind J K → HasStood grant J s k → HasStood grant K s k
stood_behind {E} grant s k J K b h = subst (λ (L : List (Entry E)). HasStood grant L s k) (sym b.1) (stood_more grant s k b.0 J h)

pub stood_grown : {E : Type 0} (grant : E → Grant) (s k n : ℕ) (J K : List (Entry E)) → GrowsBy by_entry n J K → HasStood grant J s k → HasStood grant K s k
stood_grown grant s k n J K g h = stood_behind grant s k J K (g.0, g.2) h
