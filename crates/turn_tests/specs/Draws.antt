-- Seats that draw numbers at a board.
use Rattle.std.specs.Prelude.{◌≡◌, ℕ, List, [], ◌∷◌}
use Rattle.atomic_table.specs.Seated.{TableId}

-- A drawer: its seat's board, the numbers that the seat drew, the last one first, and those that the drawer keeps.
pub record DrawerIs : Type 0 where
  pub board : TableId
  pub drawn : List ℕ
  pub numbers : List ℕ

-- A drawer that has drawn nothing.
pub record Ready (z : TableId) (d : DrawerIs) : Type 0 where
  pub board : d.board ≡ z
  pub none : d.drawn ≡ []
  pub empty : d.numbers ≡ []

-- Each of the drawers is ready.
abbrev pub AllReady : TableId → List DrawerIs → Type 0
AllReady z [] = Unit {0}
AllReady z (d ∷ ds) = Ready z d × AllReady z ds
