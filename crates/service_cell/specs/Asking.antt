-- Who asks the columns, and what of their answers fits a frame.
use Rattle.std.specs.Prelude.{◌≡◌, ◌≤◌, ◌<◌, ℕ, Bool, List, ◌∷◌, length, slice_set, IsTrue, ◌⊎◌}
use Rattle.okws_base.specs.Runs.{Each}
use Rattle.okws_base.specs.declared.journal.Entry.{Entry}
use Rattle.okws_base.specs.declared.limit.TheConstants.{LONGEST_TEMPLATE}
use Rattle.okws_plan.specs.declared.configuration.Config.{Config}
use Rattle.okws_plan.specs.declared.event.LogEvent.{LogEvent}
use Rattle.okws_plan.specs.declared.event.ProxyEvent.{ProxyEvent}
use Rattle.okws_plan.specs.declared.event.PubdEvent.{PubdEvent}
use Rattle.okws_plan.specs.declared.event.PubdEvent.TheVariants as pubd
use Rattle.monitor_model.specs.declared.record.Own.TheVariants as own
use Rattle.monitor_model.specs.declared.verdict.Verdict.{Verdict}
use Rattle.monitor_model.specs.declared.verdict.Verdict.TheVariants.{Opened, Rows, Changed, Duplicate, Denied, Failed}
use Rattle.monitor_model.specs.declared.verdict.Push.{Push}
use Rattle.monitor_model.specs.declared.verdict.Got.{Got}
use Rattle.monitor_model.specs.declared.verdict.Got.TheVariants as got
use Rattle.monitor_model.specs.Pubd.{drain_verdict}
use Rattle.monitor_model.specs.Seen.{Seen, AtPubd, noted, proxy_past}

-- The site's configuration, the number of the worker who asks, and whether nobody else enters anything meanwhile.
pub record Asker : Type 0 where
  pub config : Config
  pub worker : ℕ
  pub alone : Bool

-- Who asks is the same, the tokens are of the same seed, as many items may be noted without memory, the board still may show what it might, and what might be asked may be.
pub record KeepsBoard {C : Type 0} (asker : C → Asker) (shows : C → ℕ → ℕ → Type 0) (token_seed : C → List ℕ) (spare : C → ℕ) (may_ask : C → ℕ → ℕ → Type 0) (old new : C) : Type 0 where
  pub asked : asker new ≡ asker old
  pub seeded : token_seed new ≡ token_seed old
  pub spared : spare new ≡ spare old
  pub shown : (s k : ℕ) → shows old s k → shows new s k
  pub allowed : (s k : ℕ) → may_ask old s k → may_ask new s k

-- A verdict's rows have 1 to 255 columns.
abbrev pub IsNarrow : Verdict → Type 0
IsNarrow (Rows columns T) = (0 < columns) × (columns < 256)
IsNarrow (Opened n) = Unit {0}
IsNarrow (Changed n) = Unit {0}
IsNarrow Duplicate = Unit {0}
IsNarrow (Denied broken) = Unit {0}
IsNarrow Failed = Unit {0}

-- A push has a name of fewer than 256 bytes, and a content that an edition may have.
abbrev pub IsShortPush : Push → Type 0
IsShortPush push = (length push.template < 256) × (length push.content ≤ LONGEST_TEMPLATE)

-- A template's content is one that an edition may have.
abbrev pub IsShortGot : Got → Type 0
IsShortGot (got.Template edition content) = length content ≤ LONGEST_TEMPLATE
IsShortGot (got.Denied broken) = Unit {0}

-- The worker made no entry at a proxy, at pubd or at oklogd, or one on what it had seen.
abbrev pub IsNextBy : ℕ → Seen → Seen → Type 0
IsNextBy w J now =
    (now ≡ J)
    ⊎ ((p : ℕ) × (event : ProxyEvent) × (now ≡ record J { proxies = slice_set J.proxies p (record { worker = w; event = event } ∷ proxy_past J.proxies p); own = own.Proxy p event ∷ J.own }))
    ⊎ ((event : PubdEvent) × (now ≡ record J { pubd = record { worker = w; event = event } ∷ J.pubd; own = own.Pubd event ∷ J.own }))
    ⊎ ((event : LogEvent) × (now ≡ record J { oklogd = record { worker = w; event = event } ∷ J.oklogd; own = own.Oklogd event ∷ J.own }))

-- The worker noted its dialog with incarnation k of s, and entered its Drain on `before`, which is what it had seen where nobody else enters; these pushes are the Drain's verdict, and short enough for a frame.
abbrev pub Drains : Asker → ℕ → ℕ → Seen → List Push → Seen → Type 0
Drains who s k J pushes now =
    (before : List (Entry PubdEvent)) × AtPubd who.worker (pubd.Drain s k) (noted J (own.Dialog s)) before now
    × (IsTrue who.alone → before ≡ J.pubd) × (pushes ≡ drain_verdict who.config before s k) × Each IsShortPush pushes
