use Rattle.std.proofs.Common.{rules, List, ◌≡◌, ◌++◌, ◌∷◌, [], suc, map, length, sym, ap, ◌∙◌, subst, arith}
use Rattle.std.proofs.lemmas.List.{length-map}
use Rattle.turn_lock.specs.BoardSeats.{IsFresh, AreFresh, AreRising}
use Rattle.turn_lock.specs.BoardSeats.{SeatIs as Place}
use Rattle.turn_lock.proofs.Rows.{pushed_map}
use Rattle.site_run.specs.declared.room.Desk.{Desk}
use Rattle.site_run.proofs.Lists.{fresh_pop, rising_push}
use Rattle.site_run.proofs.Seating.{push_length}
use Rattle.site_run.proofs.room.desks.Goals as goal

pub loop-place-init : goal.loop-place-init
loop-place-init c =
    let none : c.in_ok-desks.desks.items ≡ [] = search rules in
    record {
      rising = λ z h. (subst (λ l. AreFresh z (length l) c.args.places.items) (sym none) h, subst (λ (l : List Desk). AreRising z 0 (map (λ (d : Desk). d.place) l)) (sym none) tt);
      many = search rules;
      room = search rules;
    }

pub loop-place-preserved : goal.loop-place-preserved
loop-place-preserved c =
    let place : Desk → Place = λ d. d.place in
    let i = c.loop-place.invariant in
    let left = c.pop.new.self.items in
    let desks = c.loop-place.desks.items in
    let now = c.push_reserved.new.self.items in
    let desk = c.in_ok-desk.desk in
    let put : now ≡ desks ++ desk ∷ [] = search rules in
    let size : length now ≡ suc (length desks) = ap length put ∙ push_length desks desk in
    let m = length-map desks place in
    record {
      rising = λ z h.
          let was = i.rising z h in
          let next = fresh_pop z (length desks) left c.in-Some.place (subst (AreFresh z (length desks)) c.in-Some.ensures.items was.0) in (
            subst (λ k. AreFresh z k left) (sym size) next.0,
            subst (AreRising z 0) (sym (pushed_map place now desks desk put))
                (rising_push z 0 (length desks) (map place desks) (place desk) (omega arith) was.1 (subst (IsFresh z (length desks)) (sym c.in_ok-desk.ensures) next.1)),
          );
      many = search rules;
      room = search rules;
    }
