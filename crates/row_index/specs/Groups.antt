-- Groups of slots, and their order.
use Rattle.std.specs.Ordering.{nat_cmp, ordering_then}
use Rattle.std.specs.declared.cmp.Ordering.{Ordering}
use Rattle.okws_base.specs.Value.{value_cmp}
use Rattle.row_index.specs.declared.slot.Group.{Group}

-- Groups are ordered by value, then by column.
abbrev pub group_cmp : Group → Group → Ordering
group_cmp a b = ordering_then (value_cmp a.value b.value) (nat_cmp a.column b.column)
