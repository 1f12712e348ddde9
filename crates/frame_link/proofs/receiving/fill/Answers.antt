use Rattle.std.proofs.KnownBytes.{Consumes-nil, Consumes-trans}
use Rattle.std.proofs.Common.{[], ◌≡◌, ◌≤◌, ◌++◌, ◌∙◌, ℕ, ◌-◌, List, ap, arith, length, replicate, rules, take}
use Rattle.std.proofs.lemmas.Grind.{common_steps}
use Rattle.frame_link.proofs.Nexts.{came_behind, received_if, received_then, stand_in_front}
use Rattle.frame_link.proofs.receiving.fill.Goals as goal

pub returns-then-is_err-clause-bytes : goal.returns-then-is_err-clause-bytes
returns-then-is_err-clause-bytes g c = ([], Consumes-nil (g.L.Link.wire c.args.link.now).left)

pub returns-in-Failed-clause-bytes : goal.returns-in-Failed-clause-bytes
returns-in-Failed-clause-bytes g c =
    let i = c.loop-bytes.invariant in
    let came = c.in-Failed.ensures.bytes in
    (i.read.0 ++ came.0, Consumes-trans _ _ _ i.read.0 came.0 i.read.1 came.1)

pub loop-bytes-preserved : goal.loop-bytes-preserved
loop-bytes-preserved g c =
    let i = c.loop-bytes.invariant in
    let came = c.in-All.ensures in
    let before = c.loop-bytes.bytes.items in
    let xs = c.resize.new.self.items in
    let room = c.fill_up.new.room in
    let len : c.resize.new.self.len ≡ length xs = search rules in
    let same : length room ≡ length xs = search rules in
    let lent : c.as_mut_slice.result.now ≡ xs = search rules in
    let grown : xs ≡ take c.resize.new.self.len before ++ replicate (c.resize.new.self.len - length before) 0 = search rules in
    let within : length before ≤ c.resize.new.self.len = grind (arith, common_steps) in
    let done = c.len-done.result in
    let front = stand_in_front before _ xs c.resize.new.self.len done (search rules) within grown in
    let is = came.bytes.2 ∙ ap (λ (t : List ℕ). take done t ++ came.bytes.0) lent in
    let all = came_behind c.args.bytes.now.items before i.read.0 xs room came.bytes.0 c.resize.new.self.len done i.read.2 front is len same in
    record {
      read = (i.read.0 ++ came.bytes.0, Consumes-trans _ _ _ i.read.0 came.bytes.0 i.read.1 came.bytes.1, all);
      within = grind (arith, common_steps);
      link = received_then _ _ _ ⊥ i.link (received_if _ _ _ ⊥ (λ f. absurd f) (λ e. cc) came.link);
    }
