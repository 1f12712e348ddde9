-- What a worker adds to a column.
use Rattle.std.proofs.Common.{◌≡◌, refl, ℕ, List, [], ◌∷◌}
use Rattle.okws_base.specs.declared.journal.Entry.{Entry}
use Rattle.okws_base.specs.Turns.{AddsBy}
use Rattle.turn_tests.specs.Works.{by_worker}

-- one entry under the holder's number
pub adds_one : (w k : ℕ) (J K : List (Entry ℕ)) → K ≡ record { worker = w; event = k } ∷ J → AddsBy by_worker w J K
adds_one w k J K e = (record { worker = w; event = k } ∷ [], (refl, tt), e)
