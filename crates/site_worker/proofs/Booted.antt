-- An incarnation that is at a cell was booted there.
use Rattle.std.proofs.Common.{◌≡◌, ℕ, ◌≤◌, List, [], ◌∷◌, ap, ◌∙◌, arith}
use Rattle.std.proofs.Math.Nat.{le-max_left}
use Rattle.monitor_model.specs.declared.record.CellEvent.{CellEvent}
use Rattle.monitor_model.specs.declared.record.CellEvent.TheVariants as cell
use Rattle.monitor_model.specs.declared.record.End.{End}
use Rattle.monitor_model.specs.declared.record.End.TheVariants as end
use Rattle.monitor_model.specs.Cell.{incarnation, last_booted, after_end}
use Rattle.monitor_model.specs.Seen.{Seen}
use Rattle.service_cell.specs.Asking.{Asker}
use Rattle.service_cell.specs.Standing.{Standing}
use Rattle.service_cell.specs.declared.answer.Spoken.{Spoken}
use Rattle.service_cell.specs.declared.answer.Spoken.TheVariants as spoken
use Rattle.site_cells.specs.Turns.{HasTalked}
use Rattle.site_worker.specs.Handling.{WasBooted}

end_low : (how : End) (k n : ℕ) → k ≤ n → after_end how k ≤ n
end_low end.Reply k n l = l
end_low (end.Superseded shown) k n l = l
end_low end.BadFrame k n l = omega arith
end_low end.Ended k n l = omega arith
end_low end.LinkFault k n l = omega arith
end_low end.FrameLimit k n l = omega arith
end_low end.Starved k n l = omega arith

booted_last : (J : List CellEvent) → incarnation J ≤ last_booted J
booted_last [] = omega arith
booted_last (cell.Boot k ∷ J) = le-max_left k (last_booted J)
booted_last (cell.Retired ∷ J) = omega arith
booted_last (cell.Missed worker wanted is ∷ J) = booted_last J
booted_last (cell.Dialog d ∷ J) = end_low d.end (incarnation J) (last_booted J) (booted_last J)
booted_last (cell.Speaking worker items ∷ J) = booted_last J

pub was_booted : (n : ℕ) (who : Asker) (shows : ℕ → Type 0) (head content : List ℕ) (k s : ℕ) (old : List CellEvent) (J : Seen) (answer : Spoken) (new : List CellEvent) (now : Seen)
    → HasTalked n who shows head content k s old J answer new now → WasBooted answer k new
was_booted n who shows head content k s old J spoken.Reply new now h = tt
was_booted n who shows head content k s old J (spoken.Crashed why) new now h =
    let d = h.talks.1.2 in
    let here : last_booted new ≡ last_booted h.before.past = ap last_booted (h.seen_is ∙ ap (λ (c : Standing). c.past) d.entered) in
    let low = booted_last h.before.past in
    let wants = h.talks.0 in
    omega arith
was_booted n who shows head content k s old J (spoken.Missed wanted is) new now h = tt
was_booted n who shows head content k s old J (spoken.Superseded i shown) new now h = tt
was_booted n who shows head content k s old J spoken.NoMemory new now h = tt
