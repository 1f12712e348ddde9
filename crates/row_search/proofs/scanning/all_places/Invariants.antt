use Rattle.std.proofs.Common.{◌≡◌, take}
use Rattle.std.specs.Map.{keys_of}
use Rattle.row_index.specs.Stands.{standing}
use Rattle.row_search.proofs.scanning.all_places.Given as goal

abbrev pub invariant-loop-stand : goal.invariant-loop-stand
invariant-loop-stand l = l.places.items ≡ keys_of (standing (take l.stand-index l.stands))
