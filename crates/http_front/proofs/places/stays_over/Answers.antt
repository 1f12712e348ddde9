use Rattle.std.proofs.Common.{◌≡◌, ◌+◌, ℕ, List, [], ◌∷◌, ◌++◌, take, get_or, sym, subst, arith}
use Rattle.std.proofs.lemmas.Grind.{common_steps}
use Rattle.http_front.specs.Places.{StaysOver}
use Rattle.http_front.proofs.Open.{stays_none, stays_on}
use Rattle.http_front.proofs.places.stays_over.Goals as goal

pub loop-byte-init : goal.loop-byte-init
loop-byte-init c = stays_none c.args.place

pub loop-byte-preserved : goal.loop-byte-preserved
loop-byte-preserved c =
    let more : take (c.loop-byte.byte-index + 1) c.args.piece.now ≡ take c.loop-byte.byte-index c.args.piece.now ++ get_or c.args.piece.now c.loop-byte.byte-index 0 ∷ [] = grind (arith, common_steps) in
    subst (λ (t : List ℕ). StaysOver c.args.place t c.in_ok-now.now) (sym more)
    (stays_on c.args.place c.loop-byte.now c.in_ok-now.now (take c.loop-byte.byte-index c.args.piece.now) (get_or c.args.piece.now c.loop-byte.byte-index 0) c.loop-byte.invariant c.in_ok-now.ensures)

pub returns : goal.returns
returns c =
    let all : take c.loop-byte.byte-index c.args.piece.now ≡ c.args.piece.now = grind (arith, common_steps) in
    subst (λ (t : List ℕ). StaysOver c.args.place t c.loop-byte.now) all c.loop-byte.invariant
