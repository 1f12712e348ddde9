-- What each incarnation of a cell heard, and what its link was given.
use Rattle.std.specs.Prelude.{◌≡◌, ℕ, List, [], ◌∷◌, ◌++◌, Option, None}
use Rattle.okws_plan.specs.declared.configuration.Config.{Config}
use Rattle.frame_codec.specs.Spelling.{server_spelling}
use Rattle.okws_outer.specs.Wire.{Wire}
use Rattle.monitor_model.specs.declared.record.CellEvent.{CellEvent}
use Rattle.monitor_model.specs.declared.record.CellEvent.TheVariants as cell
use Rattle.monitor_model.specs.declared.sent.Sent.{Sent}
use Rattle.monitor_model.specs.Cell.{boot_frame, last_booted}
use Rattle.monitor_model.specs.Course.{heard_text}
use Rattle.monitor_model.specs.Sent.{or_else, cut_due, IsGiven}
use Rattle.service_cell.specs.Standing.{Open, all_sent, with_open}

-- What an incarnation heard, and, where its link failed, what was due then.
pub record Hearing : Type 0 where
  pub incarnation : ℕ
  pub text : List ℕ
  pub broken : Option (List ℕ)

-- The last incarnation heard this too, and, where its link failed then, this was due.
abbrev pub heard_more : List ℕ → Option (List ℕ) → List Hearing → List Hearing
heard_more text failed [] = []
heard_more text failed (last ∷ before) = record last { text = last.text ++ text; broken = or_else failed last.broken } ∷ before

-- What each incarnation that was booted heard, the last one first.
abbrev pub hearings : Config → List ℕ → ℕ → List CellEvent → List Hearing
hearings C seed s [] = []
hearings C seed s (cell.Boot k ∷ J) = record { incarnation = k; text = server_spelling (boot_frame C seed s k); broken = None } ∷ hearings C seed s J
hearings C seed s (cell.Retired ∷ J) = hearings C seed s J
hearings C seed s (cell.Missed worker wanted is ∷ J) = hearings C seed s J
hearings C seed s (cell.Dialog d ∷ J) = heard_more (heard_text d.items) (cut_due d.end d.due) (hearings C seed s J)
hearings C seed s (cell.Speaking worker items ∷ J) = heard_more (heard_text items) None (hearings C seed s J)

-- Each link, and there is one for each incarnation, was given what that heard.
abbrev pub AreGiven : List Hearing → List Sent → Type 0
AreGiven [] [] = Unit {0}
AreGiven [] (x ∷ sent) = ⊥
AreGiven (h ∷ heard) [] = ⊥
AreGiven (h ∷ heard) (x ∷ sent) = (h.incarnation ≡ x.incarnation) × IsGiven h.text h.broken x.given × AreGiven heard sent

-- The links of a cell were given what its incarnations heard: the one that it has, and those that it had.
abbrev pub AreHeard : Config → List ℕ → ℕ → List CellEvent → Option Open → Option Wire → List Sent → Type 0
AreHeard C seed s J opened link sent = AreGiven (hearings C seed s (with_open opened J)) (all_sent (last_booted J) link sent)
