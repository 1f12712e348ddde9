-- Words of journals that many hands enter into in turns. The newest entry comes first; `by` tells the number that an entry names.
use Rattle.std.specs.Prelude.{◌≡◌, ℕ, List, [], ◌∷◌, ◌++◌, ◌==◌, if◌then◌else◌}

-- The entries that name a number, in the order in which they stand.
abbrev pub of : {E : Type 0} → (E → ℕ) → ℕ → List E → List E
of by n [] = []
of by n (e ∷ es) = if by e == n then e ∷ of by n es else of by n es

-- Each of these entries names the number.
abbrev pub AllBy : {E : Type 0} → (E → ℕ) → ℕ → List E → Type 0
AllBy by n [] = Unit {0}
AllBy by n (e ∷ es) = (by e ≡ n) × AllBy by n es

-- The journal went on by entries of others: none of them names the number.
abbrev pub GrowsBy : {E : Type 0} → (E → ℕ) → ℕ → List E → List E → Type 0
GrowsBy {E} by n J now = (more : List E) × (of by n more ≡ []) × (now ≡ more ++ J)

-- The journal went on by entries that name the number, and by no others.
abbrev pub AddsBy : {E : Type 0} → (E → ℕ) → ℕ → List E → List E → Type 0
AddsBy {E} by n J now = (more : List E) × AllBy by n more × (now ≡ more ++ J)

-- One journal is what another one was before.
abbrev pub Behind : {E : Type 0} → List E → List E → Type 0
Behind {E} J now = (more : List E) × (now ≡ more ++ J)

-- What was seen up to the last entry that names the number: nothing where there is none.
abbrev pub up_to_own : {E : Type 0} → (E → ℕ) → ℕ → List E → List E
up_to_own by n [] = []
up_to_own by n (e ∷ J) = if by e == n then e ∷ J else up_to_own by n J
