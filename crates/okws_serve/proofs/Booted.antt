-- No service asks a proxy before it was installed there.
use Rattle.std.proofs.Common.{◌≡◌, ℕ, zero, suc, ◌+◌, ◌<◌, List, [], ◌∷◌, length, subst, arith}
use Rattle.std.specs.Prelude.{slice_index_or}
use Rattle.okws_base.specs.declared.journal.Entry.{Entry}
use Rattle.okws_plan.specs.declared.configuration.Config.{Config}
use Rattle.okws_plan.specs.declared.event.ProxyEvent.{ProxyEvent}
use Rattle.monitor_model.specs.declared.record.Connection.{Connection}
use Rattle.monitor_model.specs.declared.record.Record.{Record}
use Rattle.monitor_model.specs.Booting.{AllFollow, BootsComeFirst}
use Rattle.monitor_model.specs.Legality.{IsLegal}
use Rattle.monitor_model.specs.Outside.{Outside}
use Rattle.monitor_model.specs.Placed.{EachFrom}
use Rattle.monitor_model.specs.Seen.{proxy_past}
use Rattle.monitor_model.proofs.Installed.{boots_come_first}

-- what holds of each from i on, of the one with this number
follows_from : (C : Config) (i : ℕ) (Js : List (List (Entry ProxyEvent))) (p : ℕ) → EachFrom (λ (q : ℕ) (J : List (Entry ProxyEvent)). AllFollow C q J) i Js → p < length Js → AllFollow C (i + p) (slice_index_or Js p [])
follows_from C i [] p h less = absurd (omega (arith, less))
follows_from C i (J ∷ Js) zero h less = subst (λ q. AllFollow C q J) (omega arith) h.0
follows_from C i (J ∷ Js) (suc p) h less = subst (λ q. AllFollow C q (slice_index_or Js p [])) (omega arith) (follows_from C (suc i) Js p h.1 (omega (arith, less)))

zero_plus : (p : ℕ) → 0 + p ≡ p
zero_plus p = omega arith

pub boots_first : (C : Config) (seed : List ℕ) (T : Outside) (R : Record) (doors : List (List Connection)) → IsLegal C seed T (record R { doors = doors }) → EachFrom (λ (q : ℕ) (J : List (Entry ProxyEvent)). AllFollow C q J) 0 R.proxies → BootsComeFirst C seed R
boots_first C seed T R doors legal follows =
    let first = boots_come_first C seed T (record R { doors = doors }) legal (λ p less. subst (λ q. AllFollow C q (proxy_past R.proxies p)) (zero_plus p) (follows_from C 0 R.proxies p follows less)) in
    record { opens = first.opens; calls = first.calls }
