use Rattle.std.proofs.Common.{if◌then◌else◌, ◌≡◌, ℕ, List, ◌∷◌, sym, ap, ◌∙◌, subst}
use Rattle.std.specs.Prelude.{IfSome, Option, option_map, ◌==◌}
use Rattle.okws_outer.specs.Wire.{Wire}
use Rattle.okws_base.specs.Turns.{GrowsBy}
use Rattle.monitor_model.specs.declared.record.CellEvent.{CellEvent}
use Rattle.monitor_model.specs.declared.record.CellEvent.TheVariants as cell
use Rattle.monitor_model.specs.Cell.{CellLaw, incarnation}
use Rattle.site_cells.specs.Held.{Held, IsLinkOf, by_event, events_in, is_booted}
use Rattle.turn_lock.specs.Seats.{SeatIs}
use Rattle.site_cells.proofs.EnteredEvents.{booted_if, found_on}
use Rattle.site_cells.proofs.Stays.{given, retired_link, retired_past}
use Rattle.site_cells.proofs.turns.retire.Goals as goal

pub give-requires-clause-adds : goal.give-requires-clause-adds
give-requires-clause-adds g c =
    given (by_event g.N.Numbered.launcher) c.args.seat.now c.take-cell.new.seat c.take-cell.result.holder c.take-cell.result.entered c.retire-link.new.self.entered c.take-cell.ensures.holder c.take-cell.ensures.seat c.retire-link.ensures.adds

pub returns-clause-retired : goal.returns-clause-retired
returns-clause-retired g c =
    let n = g.N.Numbered.launcher in
    let seen = c.args.seat.now.seen in
    let before = c.take-cell.result.standing in
    let raw = subst (λ (m : ℕ). GrowsBy (by_event n) m seen c.take-cell.result.entered) c.requires.launcher c.take-cell.ensures.grows in
    record {
      before = before;
      found = record { service_is = c.take-cell.ensures.label; grows = found_on n n seen c.take-cell.result.entered before.past c.keeps.ensures raw };
      was_is = c.incarnation-was.ensures;
      taken = c.retire-link.ensures.link;
      seen_is =
          ap (λ (a : SeatIs CellEvent). events_in a.seen) c.give.ensures.seat
          ∙ (ap (λ (h : Held). events_in h.entered) c.retire-link.ensures.cell
          ∙ ap (λ (J : List CellEvent). if incarnation J == 0 then J else cell.Retired ∷ J) (sym c.keeps.ensures));
    }

pub returns-clause-taken : goal.returns-clause-taken
returns-clause-taken g c =
    c.retire-link.ensures.there ∙ booted_if g.N.Numbered.launcher c.args.seat.now.number c.args.seat.now.seen c.take-cell.result.entered c.take-cell.ensures.grows c.requires.launcher

pub returns-clause-link : goal.returns-clause-link
returns-clause-link g c = ap (λ (a : SeatIs CellEvent). is_booted a.seen) c.give.ensures.seat ∙ ap (λ (h : Held). is_booted h.entered) c.retire-link.ensures.cell

pub returns-clause-law : goal.returns-clause-law
returns-clause-law g c =
    let past = ap (λ (h : Held). h.standing.past) c.retire-link.ensures.cell in
    let entered = ap (λ (h : Held). events_in h.entered) c.retire-link.ensures.cell in
    let same : c.retire-link.new.self.standing.past ≡ events_in c.give.new.seat.seen =
    past
    ∙ (ap (λ (J : List CellEvent). if incarnation J == 0 then J else cell.Retired ∷ J) c.keeps.ensures
    ∙ sym (ap (λ (a : SeatIs CellEvent). events_in a.seen) c.give.ensures.seat ∙ entered)) in
    subst CellLaw same c.retire-link.ensures.law

pub returns-clause-holds : goal.returns-clause-holds
returns-clause-holds g c =
    let C = g.N.Numbered.site in
    let seed = g.N.Numbered.run_seed in
    let before = c.take-cell.result.standing in
    let s = c.args.seat.now.label in
    let seen : retired_past before.past ≡ events_in c.give.new.seat.seen =
    sym (ap (λ (a : SeatIs CellEvent). events_in a.seen) c.give.ensures.seat
    ∙ (ap (λ (h : Held). events_in h.entered) c.retire-link.ensures.cell
    ∙ ap (λ (J : List CellEvent). if incarnation J == 0 then J else cell.Retired ∷ J) (sym c.keeps.ensures))) in
    let held = subst (λ (n : ℕ). IfSome before.link (IsLinkOf C seed n before.past)) c.take-cell.ensures.label c.retire-link.ensures.holds in
    subst (λ (J : List CellEvent). IfSome (option_map g.L.Link.wire c.retire-link.result) (IsLinkOf C seed s J)) seen
    (subst (λ (link : Option Wire). IfSome link (IsLinkOf C seed s (retired_past before.past))) (sym c.retire-link.ensures.link) (retired_link C seed s before.past before.link held))
