-- What one call adds to a journal.
use Rattle.std.proofs.Common.{◌≡◌, ℕ, List, [], ◌∷◌, refl}
use Rattle.std.specs.Prelude.{Result, Ok, Err, IfOk, OnErr}
use Rattle.okws_base.specs.Turns.{AddsBy}
use Rattle.okws_base.specs.declared.journal.Entry.{Entry}
use Rattle.named_columns.specs.Launched.{by_entry}

-- the same journal
pub adds_none : {E : Type 0} (n : ℕ) (J now : List (Entry E)) → now ≡ J → AddsBy by_entry n J now
adds_none n J now is = ([], tt, is)

-- one entry of the number
pub adds_one : {E : Type 0} (n : ℕ) (event : E) (J now : List (Entry E)) → now ≡ record { worker = n; event = event } ∷ J → AddsBy by_entry n J now
adds_one n event J now is = (record { worker = n; event = event } ∷ [], (refl, tt), is)

-- one entry, of whatever mark, where the call has an answer
pub adds_marked : {A X M E : Type 0} (r : Result A X) (n : ℕ) (event : M → E) (J now : List (Entry E))
    → IfOk r (λ v. (m : M) × (now ≡ record { worker = n; event = event m } ∷ J)) → OnErr r (now ≡ J) → AddsBy by_entry n J now
adds_marked (Ok v) n event J now ok err = adds_one n (event ok.0) J now ok.1
adds_marked (Err x) n event J now ok err = adds_none n J now err
