-- The entries that name a service, and what depends on them alone.
use Rattle.std.specs.Prelude.{◌≡◌, ℕ, Bool, List, ◌∷◌, ◌++◌, ◌==◌, filter, IsFalse}
use Rattle.okws_base.specs.declared.journal.Entry.{Entry}
use Rattle.okws_base.specs.declared.value.Token.{Token}
use Rattle.okws_plan.specs.declared.configuration.Config.{Config}
use Rattle.okws_plan.specs.declared.event.Call.{Call}
use Rattle.okws_plan.specs.declared.event.ProxyEvent.{ProxyEvent}
use Rattle.okws_plan.specs.declared.event.ProxyEvent.TheVariants as event
use Rattle.monitor_model.specs.Proxy.{open_verdict, allowed}
use Rattle.monitor_model.specs.Cell.{heard, incarnation}
use Rattle.monitor_model.specs.Course.{heard_text}
use Rattle.monitor_model.specs.declared.record.CellEvent.{CellEvent}
use Rattle.monitor_model.specs.declared.record.CellEvent.TheVariants as cell
use Rattle.monitor_model.specs.declared.record.Dialog.{Dialog}

-- The event names service s.
abbrev pub names : ℕ → ProxyEvent → Bool
names s (event.Install t k token) = t == s
names s (event.Revoke t k) = t == s
names s (event.Open t k shown) = t == s
names s (event.Call call mark) = call.service == s

-- A service's own entries at a proxy.
abbrev pub own_of : ℕ → List (Entry ProxyEvent) → List (Entry ProxyEvent)
own_of s J = filter (λ (e : Entry ProxyEvent). names s e.event) J

-- What an Open is answered depends on the service's own entries alone.
abbrev pub OpenIsPrivate : Type 0
OpenIsPrivate = (J K : List (Entry ProxyEvent)) (s k : ℕ) (shown : Token) → own_of s J ≡ own_of s K → open_verdict J s k shown ≡ open_verdict K s k shown

-- After its service was revoked, a Call isn't allowed.
abbrev pub RevokedIsNotAllowed : Type 0
RevokedIsNotAllowed = (C : Config) (p w k : ℕ) (J : List (Entry ProxyEvent)) (call : Call) → IsFalse (allowed C p (record { worker = w; event = event.Revoke call.service k } ∷ J) call)

-- What an incarnation heard grows, at each of its dialogs, by what the dialog heard.
abbrev pub HeardGrows : Type 0
HeardGrows = (C : Config) (seed : List ℕ) (s : ℕ) (J : List CellEvent) (d : Dialog)
    → heard C seed s (incarnation J) (cell.Dialog d ∷ J) ≡ heard C seed s (incarnation J) J ++ heard_text d.items
