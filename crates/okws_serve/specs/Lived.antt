-- Of what the lists of a run's workers are made.
use Rattle.std.specs.Prelude.{◌≡◌, ℕ, Bool, false, List, filter_map, None, reverse, IsTrue, IsFalse}
use Rattle.std.specs.List.{list_any}
use Rattle.okws_base.specs.Runs.{Each}
use Rattle.okws_plan.specs.declared.configuration.Config.{Config}
use Rattle.okws_outer.specs.Conns.{ConnWire}
use Rattle.monitor_model.specs.declared.record.Own.{Own}
use Rattle.monitor_model.specs.declared.record.Record.{Record}
use Rattle.monitor_model.specs.Causes.{crashes_are_told, crashes_were, has_up}
use Rattle.monitor_model.specs.Lawful.{IsFitting}
use Rattle.monitor_model.specs.Merged.{list_of}
use Rattle.monitor_model.specs.Outside.{Ordered, Outside, come_of, item_order}
use Rattle.monitor_model.specs.Pieces.{is_whole, mode}
use Rattle.monitor_model.specs.Talks.{talks}
use Rattle.worker_lives.specs.Ending.{launches_end}
use Rattle.worker_lives.specs.Waiting.{leads_in}
use Rattle.site_worker.specs.declared.console.Overseen.{Overseen}
use Rattle.round_lives.specs.Orders.{Reads}
use Rattle.okws_serve.specs.Doors.{GoesOut}
use Rattle.okws_serve.specs.declared.outfit.Ending.{Ending}

-- The outside tells of each child that has ended by `ended`.
abbrev pub TellsEnds : Outside → (ℕ → ℕ → Bool) → Type 0
TellsEnds T ended = (s k : ℕ) → IsTrue (ended s k) → IsTrue (T.ended s k)

-- The list of worker w is made of whole pieces, and no item of it is forbidden. Each dialog of it fits the entries that follow it, and each that is a crash is followed at once by the Crashed of its incarnation, or by NoMemory. What the worker entered at the launcher leads on. Each launch that it began came up, failed, or ended for want of memory; and each Crashed that it entered had its cause, where the outside tells of each child that has ended by `ended`.
pub record ListIsPieces (C : Config) (R : Record) (ended : ℕ → ℕ → Bool) (forbidden : Own → Bool) (w : ℕ) : Type 0 where
  pub whole : IsTrue (is_whole (mode C R w (list_of R w)))
  pub allowed : IsFalse (list_any forbidden (list_of R w))
  pub fits : Each (IsFitting C R w) (talks (list_of R w))
  pub told : IsTrue (crashes_are_told R w (list_of R w))
  pub lead : IsTrue (leads_in R w (list_of R w))
  pub launches : IsTrue (launches_end (has_up R) None (list_of R w))
  pub crashed : (T : Outside) → TellsEnds T ended → IsTrue (crashes_were T R w (list_of R w))

-- What number w carried out for an operator comes of the orders that were taken from a console, in order: its list has a Publish or an Asked of its own for each that was obeyed, by what it was answered, and no other.
pub record OrdersAreObeyed (C : Config) (R : Record) (w : ℕ) (old new : ConnWire) (e : Ending) : Type 0 where
  pub lines : ℕ
  pub mid : ConnWire
  pub how : Overseen
  pub goes_out : GoesOut how mid new e
  pub orders : List Ordered
  pub reads : Reads C old mid 0 lines how orders
  pub comes : IsTrue (come_of false orders (filter_map item_order (reverse (list_of R w))))
