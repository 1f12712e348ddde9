use Rattle.std.proofs.Common.{ℕ, List, ◌++◌, length, refl, ap, ◌∙◌, append_assoc, arith}
use Rattle.std.proofs.lemmas.Grind.{common_steps}
use Rattle.http_front.proofs.Progress.{fill_step, fill_same, fill_done}
use Rattle.http_front.proofs.pulling.fill_from.Goals as goal

pub returns-clause-content : goal.returns-clause-content
returns-clause-content g c = λ start h rest written content whole is read.
    let so_far = c.loop-bytes.invariant in
    let stands = so_far.read start h rest written content whole is read in
    fill_done start _ _ h stands.0 _ written _ stands.1 stands.2 so_far.given so_far.still (omega arith)

pub returns-in-Ended-clause-content : goal.returns-in-Ended-clause-content
returns-in-Ended-clause-content g c = λ start h rest written content whole is read.
    let so_far = c.loop-bytes.invariant in
    let stands = so_far.read start h rest written content whole is read in
    let took = c.in-Ended.ensures.piece in
    fill_same start _ _ _ h stands.0 _ _ written _ _ stands.1 stands.2 so_far.given so_far.still took.bytes.0 took.bytes.1 took.bytes.2 took.given
    (record { later = took.faults.later; cause = λ e. cc }) (λ _. took.still (λ e. cc)) (omega (arith, ap length took.bytes.0), took.bytes.3)

pub returns-in-Failed-clause-content : goal.returns-in-Failed-clause-content
returns-in-Failed-clause-content g c = λ start h rest written content whole is read.
    let so_far = c.loop-bytes.invariant in
    let stands = so_far.read start h rest written content whole is read in
    let took = c.in-Failed.ensures.piece in
    fill_same start _ _ _ h stands.0 _ _ written _ _ stands.1 stands.2 so_far.given so_far.still took.bytes.0 took.bytes.1 took.bytes.2 took.given
    (record { later = took.faults.later; cause = λ e. took.faults.cause refl }) (λ fine. absurd (fine refl)) tt

pub returns-in-NoMemory-clause-content : goal.returns-in-NoMemory-clause-content
returns-in-NoMemory-clause-content g c = λ start h rest written content whole is read.
    let so_far = c.loop-bytes.invariant in
    let stands = so_far.read start h rest written content whole is read in
    let took = c.in-NoMemory.ensures.piece in
    fill_same start _ _ _ h stands.0 _ _ written _ _ stands.1 stands.2 so_far.given so_far.still took.bytes.0 took.bytes.1 took.bytes.2 took.given
    (record { later = took.faults.later; cause = λ e. cc }) (λ _. took.still (λ e. cc)) tt

pub returns-in-Ended-clause-grown : goal.returns-in-Ended-clause-grown
returns-in-Ended-clause-grown g c = let so_far = c.loop-bytes.invariant in (so_far.grown.0, c.in-Ended.ensures.piece.bytes.0 ∙ so_far.grown.1)

pub returns-in-Failed-clause-grown : goal.returns-in-Failed-clause-grown
returns-in-Failed-clause-grown g c = let so_far = c.loop-bytes.invariant in (so_far.grown.0, c.in-Failed.ensures.piece.bytes.0 ∙ so_far.grown.1)

pub returns-in-NoMemory-clause-grown : goal.returns-in-NoMemory-clause-grown
returns-in-NoMemory-clause-grown g c = let so_far = c.loop-bytes.invariant in (so_far.grown.0, c.in-NoMemory.ensures.piece.bytes.0 ∙ so_far.grown.1)

pub loop-bytes-preserved : goal.loop-bytes-preserved
loop-bytes-preserved g c =
    let so_far = c.loop-bytes.invariant in
    let took = c.in-Came.ensures.piece in
    record {
      read = λ start h rest written content whole is read.
          let stands = so_far.read start h rest written content whole is read in
          fill_step start _ _ h stands.0 _ _ written _ content stands.1 is stands.2 (omega arith) (let within = c.in-Came.ensures.within in grind (arith, common_steps, within)) (let within = c.in-Came.ensures.within in grind (arith, common_steps, within)) took;
      grown = (so_far.grown.0 ++ took.bytes.0, took.bytes.3 ∙ ap (λ (t : List ℕ). t ++ took.bytes.0) so_far.grown.1 ∙ append_assoc c.args.bytes.now.items so_far.grown.0 took.bytes.0);
      given = took.given ∙ so_far.given;
      still = took.still (λ e. cc) ∙ so_far.still;
    }
