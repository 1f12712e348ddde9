-- What came up in turns at the launcher stands at okd, and its Boot in its cell; what the board shows was begun in turns before.
use Rattle.std.specs.Prelude.{ℕ, ◌<◌, ◌≤◌, List, [], ◌∷◌, IsTrue, length, slice_index}
use Rattle.std.specs.List.{list_any}
use Rattle.okws_base.specs.declared.journal.Entry.{Entry}
use Rattle.okws_plan.specs.declared.configuration.Config.{Config}
use Rattle.okws_plan.specs.declared.event.OkdEvent.{OkdEvent}
use Rattle.monitor_model.specs.declared.record.CellEvent.{CellEvent}
use Rattle.monitor_model.specs.Causes.{is_up_of}
use Rattle.monitor_model.specs.First.{is_boot_of}
use Rattle.monitor_model.specs.Launcher.{begun}
use Rattle.launch_turns.specs.Deeds.{entries, up_in}
use Rattle.launch_turns.specs.declared.deed.Deed.{Deed}

-- Among these entries of okd is the Up of each incarnation that came up in these turns.
abbrev pub UpsStand : List Deed → List (Entry OkdEvent) → Type 0
UpsStand deeds J = (s k : ℕ) → IsTrue (up_in deeds s k) → IsTrue (list_any (λ (e : Entry OkdEvent). is_up_of s k e.event) J)

-- Among these events of the cell of s is the Boot of each incarnation of s that came up in these turns.
abbrev pub BootsStand : ℕ → List Deed → List CellEvent → Type 0
BootsStand s deeds J = (k : ℕ) → IsTrue (up_in deeds s k) → IsTrue (list_any (is_boot_of k) J)

-- What a number has seen on the board of each service was begun before the last of these turns.
abbrev pub BegunBefore : Config → List ℕ → List Deed → Type 0
BegunBefore C board [] = ⊥
BegunBefore C board (d ∷ deeds) = (s : ℕ) → s < length C.services → slice_index board s ≤ begun (entries deeds) s
