-- The columns of a run as contracts see them behind their locks. The site and the seed are the run's, so they are not told again.
use Rattle.std.specs.Prelude.{ℕ, Bool, List, ◌∷◌, Option}
use Rattle.okws_base.specs.declared.journal.Entry.{Entry}
use Rattle.okws_base.specs.declared.value.Value.{Value}
use Rattle.okws_plan.specs.declared.event.ProxyEvent.{ProxyEvent}
use Rattle.okws_plan.specs.declared.event.LogEvent.{LogEvent}

-- A column that keeps nothing else: its entries, the newest first, whether they are kept in memory, and the number that new entries name.
pub record Held (E : Type 0) : Type 0 where
  pub past : List (Entry E)
  pub keeps : Bool
  pub holder : ℕ

-- The same with one entry more.
abbrev pub entered : {E : Type 0} → Held E → E → Held E
entered p event = record p { past = record { worker = p.holder; event = event } ∷ p.past }

-- A proxy: also its number, the rows of each table where the keeper tells them, the count of the keeper's faults, and that no call of it fails.
pub record HeldProxy : Type 0 where
  pub number : ℕ
  pub past : List (Entry ProxyEvent)
  pub keeps : Bool
  pub told : Option (List (List (List Value)))
  pub faults : ℕ
  pub steady : Bool
  pub holder : ℕ

-- The same with one entry more.
abbrev pub proxy_entered : HeldProxy → ProxyEvent → HeldProxy
proxy_entered p event = record p { past = record { worker = p.holder; event = event } ∷ p.past }

-- oklogd: also what the sink was given where it tells, the count of its faults, and that a write has failed.
pub record HeldLog : Type 0 where
  pub past : List (Entry LogEvent)
  pub keeps : Bool
  pub given : Option (List ℕ)
  pub faults : ℕ
  pub stopped : Bool
  pub holder : ℕ

-- The same with one entry more.
abbrev pub log_entered : HeldLog → LogEvent → HeldLog
log_entered p event = record p { past = record { worker = p.holder; event = event } ∷ p.past }
