-- The locks of a site's cells in a row, and the seats of one number at them.
use Rattle.std.specs.Prelude.{◌≡◌, ℕ, suc, ◌+◌, Bool, false, List, [], ◌∷◌, length, map, slice_index_or, slice_set}
use Rattle.monitor_model.specs.declared.record.CellEvent.{CellEvent}
use Rattle.turn_lock.specs.Seats.{TurnIs, SeatIs}
use Rattle.turn_lock.specs.Rows.{AllNone, RestRow}

-- These numbers rise by one, from k on.
abbrev pub Rise : ℕ → List ℕ → Type 0
Rise k [] = Unit {0}
Rise k (n ∷ ns) = (n ≡ k) × Rise (suc k) ns

-- The locks of a site's cells: the label of each is its service.
abbrev pub AreCells : List TurnIs → Type 0
AreCells ts = Rise 0 (map (λ t. t.label) ts)

-- Each of these seats has the number, and took in no other.
abbrev pub AllAlone : {E : Type 0} → ℕ → List (SeatIs E) → Type 0
AllAlone n [] = Unit {0}
AllAlone n (a ∷ as') = (a.number ≡ n) × (a.olds ≡ []) × AllAlone n as'

-- A number, what was seen under it at each cell, and whether that had its link, as far as was seen.
pub record CellsSeen : Type 0 where
  pub number : ℕ
  pub cells : List (List CellEvent)
  pub links : List Bool

-- What was seen at the cell of service s.
abbrev pub seen_at : CellsSeen → ℕ → List CellEvent
seen_at a s = slice_index_or a.cells s []

-- Whether the cell of service s had its link, as far as was seen.
abbrev pub link_at : CellsSeen → ℕ → Bool
link_at a s = slice_index_or a.links s false

-- The same number, which may have seen more at the cell of service s, and has seen the same at each other.
abbrev pub OnlyAt : ℕ → CellsSeen → CellsSeen → Type 0
OnlyAt s old new = new ≡ record { number = old.number; cells = slice_set old.cells s (seen_at new s); links = slice_set old.links s (link_at new s) }

-- Seats of this number at so many cells, of which nothing was seen.
pub record IsNew (cells number : ℕ) (a : CellsSeen) : Type 0 where
  pub number_is : a.number ≡ number
  pub cells_are : length a.cells ≡ cells
  pub none : AllNone a.cells
  pub unlinked : (s : ℕ) → link_at a s ≡ false

-- Such seats, whose numbers fall by one, to `last` at the end.
abbrev pub AreNew : ℕ → ℕ → List CellsSeen → Type 0
AreNew cells last [] = Unit {0}
AreNew cells last (a ∷ as') = IsNew cells (length as' + last) a × AreNew cells last as'

-- The locks of these names, and a gate for each.
pub record AreLocks (names ts : List TurnIs) (gates : ℕ) : Type 0 where
  pub named : ts ≡ names
  pub cells : AreCells ts
  pub gated : gates ≡ length ts

-- Seats of this number at the locks of these names, none of which holds its turn or took in another.
pub record AreSeats {E : Type 0} (names : List TurnIs) (number : ℕ) (as' : List (SeatIs E)) : Type 0 where
  pub rest : RestRow names as'
  pub alone : AllAlone number as'
