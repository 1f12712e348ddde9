-- How bytes that come in pieces become those that were taken.
use Rattle.std.proofs.Common.{◌≡◌, ◌≤◌, ℕ, List, [], ◌++◌, take, refl, ◌∙◌, arith}
use Rattle.std.specs.Io.KnownBytes.{Consumes, IsAtEnd}
use Rattle.std.proofs.KnownBytes.{Consumes-nil, Consumes-trans, Consumes-kept}
use Rattle.okws_outer.specs.Streams.{Rose}
use Rattle.okws_outer.specs.Conns.{ConnWire, PullsFrom}
use Rattle.okws_outer.specs.declared.stream.Pull.TheVariants as pull

-- Since the start these bytes were taken, and none given.
pub record Took (start now : ConnWire) (bytes : List ℕ) : Type 0 where
  pub taken : Consumes start.left now.left bytes
  pub given : now.given ≡ start.given
  pub later : start.faults ≤ now.faults
  pub still : now.faults ≡ start.faults

-- Since the start these bytes were taken, and none given, until the connection failed.
pub record Broke (start now : ConnWire) (bytes : List ℕ) : Type 0 where
  pub taken : Consumes start.left now.left bytes
  pub given : now.given ≡ start.given
  pub later : start.faults ≤ now.faults
  pub rose : Rose start.faults now.faults

pub took_none : (start : ConnWire) → Took start start []
took_none start = record { taken = Consumes-nil start.left; given = refl; later = omega arith; still = refl }

pub took_more : (start old new : ConnWire) (bytes into : List ℕ) (n : ℕ) → Took start old bytes → PullsFrom old new into (pull.Took n) → Took start new (bytes ++ take n into)
took_more start old new bytes into n t p = record {
  taken = Consumes-trans start.left old.left new.left bytes (take n into) t.taken p.pulls.2;
  given = p.given ∙ t.given;
  later = omega (arith, t.later, p.faults.later);
  still = p.still (λ e. cc) ∙ t.still;
}

pub took_end : (start old new : ConnWire) (bytes into : List ℕ) → Took start old bytes → PullsFrom old new into pull.End → Took start new bytes × IsAtEnd new.left
took_end start old new bytes into t p = (
  record { taken = Consumes-kept start.left old.left new.left bytes t.taken p.pulls.0; given = p.given ∙ t.given; later = omega (arith, t.later, p.faults.later); still = p.still (λ e. cc) ∙ t.still },
  p.pulls.1,
)

pub took_failed : (start old new : ConnWire) (bytes into : List ℕ) → Took start old bytes → PullsFrom old new into pull.Failed → Broke start new bytes
took_failed start old new bytes into t p =
    let rose : Rose old.faults new.faults = p.faults.cause refl in
    record {
      taken = Consumes-kept start.left old.left new.left bytes t.taken p.pulls;
      given = p.given ∙ t.given;
      later = omega (arith, t.later, p.faults.later);
      rose = omega (arith, t.later, rose);
    }
