use Rattle.std.proofs.Common.{◌≡◌, ℕ, ◌+◌, ◌-◌, ◌<◌, true, ltb, List, length, drop, Result, refl, sym, ap, ◌∙◌, arith, add-one, drop-cons}
use Rattle.std.proofs.lemmas.Bool.Decides.{nat_tests}
use Rattle.query_syntax.specs.declared.error.Refusal.{Refusal}
use Rattle.query_syntax.specs.declared.token.Placed.{Placed}
use Rattle.query_syntax.specs.Tokens.{tokens_from, with_tokens}
use Rattle.query_syntax.proofs.lexer.tokens_of.Goals as goal

passed : (n : ℕ) → 0 < n → ltb 0 n ≡ true
passed n h = grind (arith, nat_tests)

skip : (out : List Placed) (left at : ℕ) (text : List ℕ) (total : Result (List Placed) Refusal) → at < length text → 0 < left
    → with_tokens out (tokens_from left at (drop at text)) ≡ total → with_tokens out (tokens_from (left - 1) (at + 1) (drop (at + 1) text)) ≡ total
skip out left at text total lt some so_far =
    let test : ltb 0 left ≡ true = passed left some in
    let one : tokens_from left at (drop at text) ≡ tokens_from (left - 1) (at + 1) (drop (at + 1) text) = rw (drop-cons text at 0 lt, test, add-one) refl in
    sym (ap (with_tokens out) one) ∙ so_far

pub loop-at-preserved-then-left-gt0 : goal.loop-at-preserved-then-left-gt0
loop-at-preserved-then-left-gt0 c = skip c.loop-at.out.items c.loop-at.left c.loop-at.at c.args.text.now _ c.loop-at-test.true c.if-left-gt0.true c.loop-at.invariant
