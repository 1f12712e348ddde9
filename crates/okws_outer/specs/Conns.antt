-- What the calls of a connection do to what is told of it.
use Rattle.std.specs.Prelude.{◌≡◌, ℕ, List, take, IfSome}
use Rattle.std.specs.declared.option.Option.{Option}
use Rattle.okws_outer.specs.declared.stream.Pull.{Pull}
use Rattle.okws_outer.specs.declared.stream.Pull.TheVariants.{Took, End, Failed}
use Rattle.okws_outer.specs.declared.stream.Put.{Put}
use Rattle.okws_outer.specs.declared.stream.Put.TheVariants.{Done}
use Rattle.okws_outer.specs.Streams.{Counts, Pulls, Puts}

-- A connection as contracts see it: the bytes that are left to come in, those that the last pull took which took any, and those that were given to go out, where it tells; how many calls failed.
pub record ConnWire : Type 0 where
  pub left : Option (List ℕ)
  pub last : Option (List ℕ)
  pub given : Option (List ℕ)
  pub faults : ℕ

-- The bytes that a pull took are the last; one that took none leaves the last as they were.
abbrev pub Latest : Option (List ℕ) → Option (List ℕ) → List ℕ → Pull → Type 0
Latest old new into (Took n) = IfSome new (λ last. last ≡ take n into)
Latest old new into End = new ≡ old
Latest old new into Failed = new ≡ old

-- A pull takes bytes that are left, and gives none. It counts its own fault alone.
pub record PullsFrom (old new : ConnWire) (into : List ℕ) (pull : Pull) : Type 0 where
  pub pulls : Pulls old.left new.left into pull
  pub last : Latest old.last new.last into pull
  pub given : new.given ≡ old.given
  pub faults : Counts old.faults new.faults (pull ≡ Failed)
  pub still : (pull ≡ Failed → ⊥) → new.faults ≡ old.faults

-- A put gives bytes, and takes none. It counts its own fault alone.
pub record PutsTo (old new : ConnWire) (bytes : List ℕ) (put : Put) : Type 0 where
  pub puts : Puts old.given new.given bytes put
  pub left : new.left ≡ old.left
  pub last : new.last ≡ old.last
  pub faults : Counts old.faults new.faults (put ≡ Done → ⊥)
  pub still : put ≡ Done → new.faults ≡ old.faults
