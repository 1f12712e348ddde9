-- The fields of a head that its checks are about.
use Rattle.std.specs.Prelude.{◌≡◌, ℕ, Bool, ◌||◌, List, [], ◌∷◌, codes}
use Rattle.std.specs.List.{list_any}
use Rattle.http_text.specs.Reading.{values_named, is_continue}
use Rattle.http_front.specs.declared.fields.Named.{Named}
use Rattle.http_front.specs.declared.fields.Named.TheVariants as named
use Rattle.http_front.specs.declared.fields.Found.{Found}

-- Before the rest of the values there is none; there is this one; there are two at the least.
abbrev pub AreNamedUpTo : List (List ℕ) → List (List ℕ) → Named → Type 0
AreNamedUpTo all rest named.None = all ≡ rest
AreNamedUpTo all rest (named.One value) = all ≡ value.now ∷ rest
AreNamedUpTo all rest named.Several = (first second : List ℕ) × (more : List (List ℕ)) × (all ≡ first ∷ second ∷ more)

-- There is no value; there is this one; there are two at the least.
abbrev pub AreNamed : List (List ℕ) → Named → Type 0
AreNamed values named = AreNamedUpTo values [] named

-- Whether one of the values before the rest asks for the interim response.
abbrev pub AsksUpTo : List (List ℕ) → List (List ℕ) → Bool → Type 0
AsksUpTo all rest asks = list_any is_continue all ≡ (asks || list_any is_continue rest)

-- This is found in the fields before the rest.
pub record AreFoundUpTo (all rest : List (List ℕ × List ℕ)) (found : Found) : Type 0 where
  pub hosts : AreNamedUpTo (values_named (codes "Host") all) (values_named (codes "Host") rest) found.hosts
  pub codings : AreNamedUpTo (values_named (codes "Transfer-Encoding") all) (values_named (codes "Transfer-Encoding") rest) found.codings
  pub lengths : AreNamedUpTo (values_named (codes "Content-Length") all) (values_named (codes "Content-Length") rest) found.lengths
  pub continues : AsksUpTo (values_named (codes "Expect") all) (values_named (codes "Expect") rest) found.continues

-- This is found in the fields.
abbrev pub AreFound : List (List ℕ × List ℕ) → Found → Type 0
AreFound fields found = AreFoundUpTo fields [] found
