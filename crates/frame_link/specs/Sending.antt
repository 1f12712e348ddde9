-- How parts are put on a link, one after another.
use Rattle.std.specs.Prelude.{◌≡◌, List, ◌++◌, length, ℕ, MatchResult}
use Rattle.std.specs.declared.result.Result.{Result}
use Rattle.std.specs.declared.result.Result.TheVariants.{Ok, Err}
use Rattle.std.specs.Io.KnownBytes.{Appends}
use Rattle.okws_outer.specs.Streams.{AppendsPrefix}
use Rattle.okws_outer.specs.Wire.{Wire, Gives}
use Rattle.frame_link.specs.declared.sending.LinkFault.{LinkFault}

-- All of the bytes were put, or after a fault a prefix of them.
pub record Sends (old : Wire) (bytes : List ℕ) (result : Result (Unit {0}) LinkFault) (new : Wire) : Type 0 where
  pub puts : MatchResult result (λ _. Appends old.given new.given bytes) (λ _. AppendsPrefix old.given new.given bytes)
  pub link : Gives old new (length bytes) (result ≡ Ok tt)

-- Of these bytes a front was put, and the rest of them is gathered; or after a fault a prefix of all of them was put.
abbrev pub Gathers : Wire → List ℕ → Result (Unit {0}) LinkFault → List ℕ → Wire → Type 0
Gathers old bytes (Ok done) gathered new = (front : List ℕ) × (bytes ≡ front ++ gathered) × Sends old front (Ok done) new
Gathers old bytes (Err fault) gathered new = Sends old bytes (Err fault) new
