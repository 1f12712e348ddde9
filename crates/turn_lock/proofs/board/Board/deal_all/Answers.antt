use Rattle.std.proofs.Common.{rules, arith, ◌≡◌, ◌+◌, ◌-◌, ◌∙◌, [], sym, ap, subst}
use Rattle.turn_lock.specs.Board.{part_of, view_of, none_begun, dealer, dealt, spent_number}
use Rattle.turn_lock.specs.BoardSeats.{AreRising, seat_of}
use Rattle.turn_lock.proofs.BoardGathers.{fresh_is, rising-push}
use Rattle.turn_lock.proofs.board.Board.deal_all.Goals as goal

pub deal-new-requires-clause-table : goal.deal-new-requires-clause-table
deal-new-requires-clause-table c = c.loop-number.invariant.0 ∙ c.requires.table

pub deal-new-requires-clause-rest : goal.deal-new-requires-clause-rest
deal-new-requires-clause-rest c =
    let m = c.loop-number.invariant.1 in
    let t = c.loop-number-test.true in
    let n = c.requires.count.1 in
    let spare = ap (λ x. x.0.spare) m in
    let number = ap (λ x. x.0.part.number) m in
    let room = ap (λ x. x.0.room) m in
    (ap (λ x. x.0.olds) m, omega arith, omega arith, omega arith)

pub loop-number-preserved : goal.loop-number-preserved
loop-number-preserved c =
    let i = c.loop-number.invariant in
    let z = c.args.self.now.id in
    let d = c.deal-new.ensures in
    let t = c.loop-number-test.true in
    let n = c.loop-number.number in
    let f = fresh_is c.deal-new.result n spent_number 1 (d.new.1 ∙ ap (λ m. (dealt m.0, [])) i.1) z (d.new.0 ∙ (i.0 ∙ c.requires.table)) in
    let room : c.args.count - n - 1 ≡ c.args.count - (n + 1) = omega arith in (
      search rules,
      d.old.1 ∙ (ap (λ m. (dealer m.0, m.1)) i.1 ∙ ap (λ r. (view_of (part_of (c.args.count - 1) none_begun []) [] (n + 1) r, [])) room),
      subst (AreRising z 0) (sym c.push_reserved.ensures.items) (rising-push z 0 n c.loop-number.seats.items (seat_of c.deal-new.result) (search rules) i.2 f),
      search rules,
      search rules,
    )
