-- What KEY values are told apart by.
use Rattle.okws_base.specs.declared.value.Value.{Value}
use Rattle.row_index.specs.declared.slot.Group.{Group}

-- A value as one of a column, which is the same for all.
abbrev pub group_at : Value → Group
group_at v = record { column = 0; value = v }
