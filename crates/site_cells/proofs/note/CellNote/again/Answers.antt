use Rattle.std.proofs.Common.{rules, ◌∙◌, ◌<◌, List, length, get_or, sym, ap, subst}
use Rattle.turn_lock.specs.Seats.{TurnIs}
use Rattle.site_cells.specs.Notes.{IsNoteAt}
use Rattle.site_cells.proofs.note.CellNote.again.Goals as goal

pub index-lock-requires : goal.index-lock-requires
index-lock-requires g c =
    let l : c.self.inside.service < length c.locks.inside.turns.items = subst (λ (ts : List TurnIs). c.self.inside.service < length ts) (sym c.locks.invariant.named) c.self.invariant.within in
    search rules

pub again-requires : goal.again-requires
again-requires g c =
    let t = c.index-lock.result.now in
    record { lock = c.self.invariant.here t (c.index-lock.ensures ∙ ap (λ (ts : List TurnIs). get_or ts c.self.inside.service t) c.locks.invariant.named) }

pub invariant_of-self : goal.invariant_of-self
invariant_of-self g c = subst (IsNoteAt g.C.CellNames.cell_turns c.self.inside.service) (sym c.again.ensures.note) c.self.invariant

pub invariant_of-result : goal.invariant_of-result
invariant_of-result g c = subst (IsNoteAt g.C.CellNames.cell_turns c.self.inside.service) (sym c.again.ensures.again) c.self.invariant
