use Rattle.std.proofs.Common.{rules, ◌≡◌, ◌++◌, ◌∷◌, [], map, reverse, refl, sym, ap, subst}
use Rattle.turn_lock.specs.BoardSeats.{AllAt, SeatsDrew, SeatsSaw}
use Rattle.turn_lock.specs.BoardSeats.{SeatIs as Place}
use Rattle.turn_lock.proofs.Rows.{pushed_map}
use Rattle.turn_lock.proofs.Spots.{empty_of}
use Rattle.site_run.specs.declared.room.Desk.{Desk}
use Rattle.site_run.proofs.Closed.{at_push, at_pop, drew_all, drew_pop, saw_all, saw_pop}
use Rattle.site_run.proofs.Making.{moved}
use Rattle.site_run.proofs.whole.end_numbers.Goals as goal

pub loop-desk-init : goal.loop-desk-init
loop-desk-init c =
    let none : c.args.room.items ≡ [] = empty_of c.args.room.items (search rules) in
    record {
      at = subst (AllAt c.args.numbers.id) (sym none) tt;
      left_at = c.requires.at;
      taken = ap (λ l. l ++ reverse (map (λ (d : Desk). d.place) c.args.desks.items)) none;
      many = search rules;
      room = search rules;
    }

pub loop-desk-preserved : goal.loop-desk-preserved
loop-desk-preserved c =
    let place : Desk → Place = λ d. d.place in
    let i = c.loop-desk.invariant in
    let more = c.loop-desk.desks.items in
    let left = c.pop.new.self.items in
    let d = c.in-Some.desk in
    let e = c.in-Some.ensures.items in
    let places = c.loop-desk.places.items in
    let now = c.push_reserved.new.self.items in
    let put : now ≡ places ++ d.place ∷ [] = search rules in
    let at = at_pop c.args.numbers.id (map place left) (place d) (subst (AllAt c.args.numbers.id) (pushed_map place more left d e) i.left_at) in
    record {
      at = subst (AllAt c.args.numbers.id) (sym put) (at_push c.args.numbers.id places (place d) i.at at.1);
      left_at = at.0;
      taken = moved place more left d places now (place d) _ e put refl i.taken;
      many = search rules;
      room = search rules;
    }

pub close-requires : goal.close-requires
close-requires c =
    let put : c.push_reserved-2.new.self.items ≡ c.loop-desk.places.items ++ c.args.last ∷ [] = search rules in
    record {
      some = search rules;
      at = subst (AllAt c.args.numbers.id) (sym put) (at_push c.args.numbers.id c.loop-desk.places.items c.args.last c.loop-desk.invariant.at c.requires.last);
    }

pub returns : goal.returns
returns c =
    let place : Desk → Place = λ d. d.place in
    let drawn = c.close.ensures.drawn in
    let seen = c.close.ensures.seen in
    let all = map place c.args.desks.items in
    let left = map place c.loop-desk.desks.items in
    let places = c.loop-desk.places.items in
    let none : c.loop-desk.desks.items ≡ [] = empty_of c.loop-desk.desks.items (search rules) in
    let put : c.push_reserved-2.new.self.items ≡ places ++ c.args.last ∷ [] = search rules in
    let drew = drew_pop drawn.0 c.close.result places c.args.last (subst (SeatsDrew drawn.0 c.close.result) put drawn.1) in
    let saw = saw_pop c.args.numbers.count seen.0 places c.args.last (subst (SeatsSaw c.args.numbers.count seen.0) put seen.1) in
    record {
      hand = drawn.0;
      count = c.close.result;
      drew = drew_all drawn.0 c.close.result all left places (ap (map place) none) c.loop-desk.invariant.taken drew.0;
      drew_last = drew.1;
      seated = drawn.2;
      greatest = seen.0;
      saw = saw_all c.args.numbers.count seen.0 all left places (ap (map place) none) c.loop-desk.invariant.taken saw.0;
      saw_last = saw.1;
    }
