use Rattle.std.proofs.Common.{ℕ, List, ◌++◌, ◌+◌, ◌≤◌, length, map, subst, refl, arith}
use Rattle.std.specs.Prelude.{Option, option_map, MatchOption}
use Rattle.std.specs.Borrow.{Bor}
use Rattle.svc_kit.specs.Filled.{pair_of, meanings}
use Rattle.svc_kit.proofs.PutParts.{Reached, reached_first, reached_next, reached_exit, bound_first, bound_next}
use Rattle.svc_kit.proofs.fill.put_parts.Goals as goal

pub loop-behind-init : goal.loop-behind-init
loop-behind-init c = (
  (λ before held. reached_first (map pair_of c.args.pairs.now) c.args.template.now _ before c.to_next.result.0.now _ _ c.to_next.ensures.split refl (c.in_ok-put.ensures before held)),
  bound_first c.to_next.result.1 _ _ c.to_next.ensures.len,
)

pub returns-in_err-put_begun : goal.returns-in_err-put_begun
returns-in_err-put_begun c =
    λ before held.
    let reached = subst (λ (b : Option (Bor (List ℕ))). Reached (map pair_of c.args.pairs.now) c.args.template.now c.loop-behind.text before c.loop-behind.at (option_map (λ (r : Bor (List ℕ)). r.now) b)) c.in-Some.is (c.loop-behind.invariant.0 before held) in
    reached_exit (map pair_of c.args.pairs.now) c.args.template.now _ before c.in-Some.rest.now c.to_next-in-Some.result.0.now _ (option_map (λ (r : Bor (List ℕ)). r.now) c.to_next-in-Some.result.1) _ c.in_err-put_begun.field-0.0 _ _ reached c.to_next-in-Some.ensures.split
    c.from_residual-in_err-put_begun.ensures.1 (c.in_err-put_begun.ensures (before ++ meanings (map pair_of c.args.pairs.now) reached.done) reached.put)

pub loop-behind-preserved : goal.loop-behind-preserved
loop-behind-preserved c =
    let bound = subst (λ (b : Option (Bor (List ℕ))). MatchOption (option_map (λ (r : Bor (List ℕ)). r.now) b) (Unit {0}) (λ rest. c.loop-behind.at + 1 + length rest ≤ length c.args.template.now)) c.in-Some.is c.loop-behind.invariant.1 in (
      (λ before held.
          let reached = subst (λ (b : Option (Bor (List ℕ))). Reached (map pair_of c.args.pairs.now) c.args.template.now c.loop-behind.text before c.loop-behind.at (option_map (λ (r : Bor (List ℕ)). r.now) b)) c.in-Some.is (c.loop-behind.invariant.0 before held) in
          reached_next (map pair_of c.args.pairs.now) c.args.template.now _ _ before c.in-Some.rest.now c.to_next-in-Some.result.0.now _ _ _ reached c.to_next-in-Some.ensures.split (omega arith)
          (c.in_ok-put_begun.ensures (before ++ meanings (map pair_of c.args.pairs.now) reached.done) reached.put)),
      bound_next c.to_next-in-Some.result.1 _ _ _ _ bound c.to_next-in-Some.ensures.len,
    )
