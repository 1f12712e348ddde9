-- The items of a dialog, of which those of its last step are at hand.
use Rattle.std.specs.Prelude.{ℕ, List}
use Rattle.monitor_model.specs.declared.record.Item.{Item}

-- The items of a dialog as contracts see them: all, the newest first; those of its last step, the newest first; and for how many more there is room.
pub record Paced : Type 0 where
  pub past : List Item
  pub newest : List Item
  pub room : ℕ
