-- The Reply in which the last dialog ended.
use Rattle.std.proofs.Common.{◌≡◌, ℕ, List, [], ◌∷◌, refl, sym, ap, ◌∙◌, subst}
use Rattle.monitor_model.specs.declared.record.CellEvent.{CellEvent}
use Rattle.monitor_model.specs.declared.record.CellEvent.TheVariants as cell
use Rattle.monitor_model.specs.declared.record.Dialog.{Dialog}
use Rattle.monitor_model.specs.Seen.{Seen}
use Rattle.service_cell.specs.Asking.{Asker}
use Rattle.service_cell.specs.Dialogs.{Dialogs}
use Rattle.service_cell.specs.Ending.{EndsOtherwise, HasNoReply}
use Rattle.service_cell.specs.Standing.{Standing}
use Rattle.service_cell.specs.declared.answer.Spoken.{Spoken}
use Rattle.service_cell.specs.declared.answer.Spoken.TheVariants as spoken
use Rattle.site_cells.specs.Turns.{HasReplied, RepliedIf}

abbrev dialog_or : Dialog → List CellEvent → Dialog
dialog_or d [] = d
dialog_or d (cell.Boot k ∷ J) = d
dialog_or d (cell.Retired ∷ J) = d
dialog_or d (cell.Missed worker wanted is ∷ J) = d
dialog_or d (cell.Dialog e ∷ J) = e
dialog_or d (cell.Speaking worker items ∷ J) = d

pub dialog_same : (J : List CellEvent) (d e : Dialog) (I K : List CellEvent) → J ≡ cell.Dialog d ∷ I → J ≡ cell.Dialog e ∷ K → d ≡ e
dialog_same J d e I K p q = ap (dialog_or d) (sym p ∙ q)
