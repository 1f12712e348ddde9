-- Files by their paths, as contracts see them.
use Rattle.std.specs.Prelude.{◌≡◌, ℕ, List, ◌++◌}
use Rattle.std.specs.declared.option.Option.{Option}
use Rattle.okws_outer.specs.Streams.{Counts}

-- What stands at each path, where the files tell; the paths at which files were opened, the last one first; and how many calls failed.
pub record Shelf : Type 0 where
  pub held : List ℕ → Option (List ℕ)
  pub opened : List (List ℕ)
  pub faults : ℕ

-- Nothing changed but that files were opened at just these paths, the last one first, and that calls may have failed: at least one where this fault came, and none where it didn't.
pub record Reads (before after : Shelf) (paths : List (List ℕ)) (fault : Type 0) : Type 0 where
  pub held : after.held ≡ before.held
  pub opened : after.opened ≡ paths ++ before.opened
  pub faults : Counts before.faults after.faults fault
  pub still : (fault → ⊥) → after.faults ≡ before.faults
