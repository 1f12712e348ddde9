-- Which entries the launcher alone makes.
use Rattle.std.specs.Prelude.{◌≡◌, ℕ, List, [], ◌∷◌}
use Rattle.okws_base.specs.Past.{Grant, Installs, Revokes, Leaves}
use Rattle.okws_base.specs.declared.journal.Entry.{Entry}

-- The number that an entry names.
abbrev pub by_entry : {E : Type 0} → Entry E → ℕ
by_entry e = e.worker

-- Where number n launches: what installs or revokes is the launcher's, and the rest is anybody's.
abbrev pub IsLaunch : ℕ → ℕ → Grant → Type 0
IsLaunch n w (Installs s k) = w ≡ n
IsLaunch n w (Revokes s) = w ≡ n
IsLaunch n w Leaves = Unit {0}

-- Each entry that installs or revokes names the number n; at okd these are the Ups and the Downs.
abbrev pub LaunchedBy : {E : Type 0} → (E → Grant) → ℕ → List (Entry E) → Type 0
LaunchedBy grant n [] = Unit {0}
LaunchedBy grant n (e ∷ J) = IsLaunch n e.worker (grant e.event) × LaunchedBy grant n J
