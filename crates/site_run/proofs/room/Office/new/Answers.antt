use Rattle.std.proofs.Common.{rules, arith, ◌≡◌, ◌+◌, suc, ℕ, length, sym, ap, ◌∙◌, subst}
use Rattle.std.proofs.lemmas.List.{length-map}
use Rattle.turn_lock.specs.BoardSeats.{IsFresh}
use Rattle.site_run.specs.declared.room.Desk.{Desk}
use Rattle.site_run.proofs.Lists.{fresh_first}
use Rattle.site_run.proofs.room.Office.new.Goals as goal

pub remove-last-requires : goal.remove-last-requires
remove-last-requires c = let many = c.in_ok-numbers.ensures.ok.1 in search rules

pub returns : goal.returns
returns c =
    let made = c.in_ok-numbers.ensures.ok in
    let z = c.in_ok-numbers.numbers.id in
    let first = fresh_first z c.in_ok-numbers.places.items c.remove-last.new.self.items c.remove-last.result (let q = made.1 in omega arith) c.remove-last.ensures.value c.remove-last.ensures.items made.2 in
    let left : length c.remove-last.new.self.items ≡ c.args.doors = (let q = made.1 in let r = first.2 in omega arith) in
    let many : length c.in_ok-desks.desks.items ≡ c.args.doors = (let q = c.in_ok-desks.ensures.many in search rules) in
    record {
      count_is = made.0;
      many = length-map c.in_ok-desks.desks.items (λ (d : Desk). d.place) ∙ many;
      rising = c.in_ok-desks.ensures.rising z first.1;
      last_is = subst (λ k. IsFresh z k c.remove-last.result) (let q : length c.remove-last.new.self.items + 0 ≡ c.args.doors = omega (arith, left) in q) first.0;
    }
