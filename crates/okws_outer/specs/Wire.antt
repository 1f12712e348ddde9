-- A link as contracts see it, and what each call leaves as it was.
use Rattle.std.specs.Prelude.{◌≡◌, ◌≤◌, ℕ, ◌+◌, Bool, true, false, List, [], ◌∷◌, ◌++◌, Some, None, option_map}
use Rattle.std.specs.declared.option.Option.{Option}
use Rattle.okws_outer.specs.Streams.{Counts}
use Rattle.okws_outer.specs.declared.children.ChildName.{ChildName}

-- A link as contracts see it: the child that it leads to, where it leads to one; all bytes that came in or are to, those of them that are left to come in, and those given to go out, where it tells; how many calls failed; that none fails but for want of room; that nothing comes behind what is left; how many bytes more it is sure to take.
pub record Wire : Type 0 where
  pub whose : Option ChildName
  pub came : Option (List ℕ)
  pub left : Option (List ℕ)
  pub given : Option (List ℕ)
  pub faults : ℕ
  pub steady : Bool
  pub ended : Bool
  pub room : ℕ

-- A link that tells, over which nothing came or went, and which has no room; it leads to no child.
abbrev pub unused : Bool → Wire
unused steady = record { whose = None; came = Some []; left = Some []; given = Some []; faults = 0; steady = steady; ended = false; room = 0 }

-- More bytes are to come in, behind all others.
abbrev pub fed : List ℕ → Wire → Wire
fed bytes wire = record wire { came = option_map (λ (came : List ℕ). came ++ bytes) wire.came; left = option_map (λ (left : List ℕ). left ++ bytes) wire.left }

-- Nothing is to come behind what is left.
abbrev pub shut : Wire → Wire
shut wire = record wire { ended = true }

-- Bytes may have come in, and nothing else changed but the count of faults: this fault was counted, which a steady link never has, and no other.
pub record Receives (old new : Wire) (fault : Type 0) : Type 0 where
  pub faults : Counts old.faults new.faults fault
  pub still : (fault → ⊥) → new.faults ≡ old.faults
  pub sure : old.steady ≡ true → fault → ⊥
  pub whose : new.whose ≡ old.whose
  pub came : new.came ≡ old.came
  pub given : new.given ≡ old.given
  pub steady : new.steady ≡ old.steady
  pub ended : new.ended ≡ old.ended
  pub room : new.room ≡ old.room

-- So many bytes were to go out, and nothing else changed but the count of faults: where it isn't done a fault was counted, which a steady link that had room for them never has, and where it is none was. A link that doesn't tell never does.
pub record Gives (old new : Wire) (count : ℕ) (done : Type 0) : Type 0 where
  pub faults : Counts old.faults new.faults (done → ⊥)
  pub still : done → new.faults ≡ old.faults
  pub sure : old.steady ≡ true → count ≤ old.room → done
  pub whose : new.whose ≡ old.whose
  pub came : new.came ≡ old.came
  pub left : new.left ≡ old.left
  pub untold : old.given ≡ None → new.given ≡ None
  pub steady : new.steady ≡ old.steady
  pub ended : new.ended ≡ old.ended
  pub room : old.room ≤ new.room + count

-- Room may have been added, and nothing else changed.
pub record GainsRoom (old new : Wire) : Type 0 where
  pub room : old.room ≤ new.room
  pub whose : new.whose ≡ old.whose
  pub came : new.came ≡ old.came
  pub left : new.left ≡ old.left
  pub given : new.given ≡ old.given
  pub faults : new.faults ≡ old.faults
  pub steady : new.steady ≡ old.steady
  pub ended : new.ended ≡ old.ended

-- All bytes that were fed, and those of them that are left.
pub record Incoming : Type 0 where
  pub came : List ℕ
  pub left : List ℕ

-- All that was put in pieces, of which the last one stands first.
abbrev pub all_put : List (List ℕ) → List ℕ
all_put [] = []
all_put (piece ∷ pieces) = all_put pieces ++ piece
