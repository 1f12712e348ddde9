use Rattle.std.proofs.Common.{ap, sym, subst, refl}
use Rattle.std.specs.Prelude.{IsSome}
use Rattle.std.specs.declared.option.Option.{Option}
use Rattle.row_index.specs.GroupPlaces.{places_if_any}
use Rattle.row_index.specs.declared.places.Places.{Places}
use Rattle.row_index.proofs.Grouped.{driven, unchanged, say_err}
use Rattle.row_index.proofs.slots.Slots.drive_out.Goals as goal

pub returns-in_err-old-clause-err : goal.returns-in_err-old-clause-err
returns-in_err-old-clause-err c = say_err c.from_residual.result (unchanged c.args.self.now (record { groups = c.insert.new.self }) c.in_err-old.ensures.err)

pub returns-clause-old : goal.returns-clause-old
returns-clause-old c = ap places_if_any c.in_ok-old.ensures.old

pub returns-clause-slots : goal.returns-clause-slots
returns-clause-slots c = driven c.args.self.now (record { groups = c.insert.new.self }) c.args.group c.args.place c.in_ok-old.ensures.updates.0

pub returns-clause-there : goal.returns-clause-there
returns-clause-there c = subst (λ (o : Option Places). IsSome o) (sym c.in_ok-old.ensures.updates.1) refl
