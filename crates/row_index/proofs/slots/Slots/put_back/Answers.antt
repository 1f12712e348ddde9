use Rattle.std.proofs.Common.{Some}
use Rattle.row_index.proofs.Grouped.{as_others}
use Rattle.row_index.proofs.slots.Slots.put_back.Goals as goal

pub returns-in-Some : goal.returns-in-Some
returns-in-Some c =
    as_others c.args.self.now (record { groups = c.get_mut.follows.lender c.args.places }) c.args.group.now (Some c.args.places) (record { at = ((c.get_mut.follows.holds c.args.places).3 c.requires).0 })
