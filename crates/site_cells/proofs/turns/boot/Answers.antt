use Rattle.std.proofs.Common.{◌≡◌, ℕ, ◌<◌, sym, ap, ◌∙◌, subst}
use Rattle.okws_base.specs.Turns.{GrowsBy, AddsBy}
use Rattle.okws_outer.specs.Families.{IsNewLink}
use Rattle.frame_codec.specs.declared.frame.ServerFrame.TheVariants as frame
use Rattle.monitor_model.specs.declared.record.CellEvent.{CellEvent}
use Rattle.monitor_model.specs.Cell.{last_booted}
use Rattle.service_cell.specs.Standing.{Standing}
use Rattle.service_cell.specs.Steps.{Boots, retired}
use Rattle.site_cells.specs.Held.{Held, by_event, events_in, is_booted, with_boot}
use Rattle.turn_lock.specs.Seats.{SeatIs}
use Rattle.site_cells.proofs.EnteredEvents.{booted_then, found_on}
use Rattle.site_cells.proofs.Stays.{empty_grown, last_grown, retired_last, adds_on, given}
use Rattle.site_cells.proofs.turns.boot.Goals as goal

pub boot-booting-requires-clause-later : goal.boot-booting-requires-clause-later
boot-booting-requires-clause-later g c =
    let n = g.N.Numbered.launcher in
    let seen = c.args.seat.now.seen in
    let before = c.take-cell.result.standing in
    let raw = subst (λ (m : ℕ). GrowsBy (by_event n) m seen c.take-cell.result.entered) c.requires.launcher c.take-cell.ensures.grows in
    let grows = found_on n n seen c.take-cell.result.entered before.past c.keeps.ensures raw in
    let last = ap (λ (h : Held). last_booted h.standing.past) c.retire-left.ensures.cell ∙ (retired_last before.past ∙ last_grown n (events_in seen) before.past grows) in
    subst (λ (k : ℕ). k < c.args.number) (sym last) c.requires.later

pub boot-booting-requires-clause-link : goal.boot-booting-requires-clause-link
boot-booting-requires-clause-link g c =
    let mid : c.retire-left.new.self.standing ≡ retired c.take-cell.result.standing = ap (λ (h : Held). h.standing) c.retire-left.ensures.cell in
    let service = ap (λ (s : Standing). s.service) mid ∙ c.take-cell.ensures.label in
    subst (λ (n : ℕ). IsNewLink n c.args.number (g.L.Link.wire c.args.link)) (sym service) c.requires.link

pub give-requires-clause-adds : goal.give-requires-clause-adds
give-requires-clause-adds g c =
    let by = by_event g.N.Numbered.launcher in
    let before = c.take-cell.result in
    let mid = c.retire-left.new.self in
    let after = c.boot-booting.new.self in
    let more = subst (λ (m : ℕ). AddsBy by m mid.entered after.entered) (ap (λ (h : Held). h.holder) c.retire-left.ensures.cell) c.boot-booting.ensures.adds in
    given by c.args.seat.now c.take-cell.new.seat before.holder before.entered after.entered c.take-cell.ensures.holder c.take-cell.ensures.seat (adds_on by before.holder before.entered mid.entered after.entered c.retire-left.ensures.adds more)

pub returns-clause-launched : goal.returns-clause-launched
returns-clause-launched g c =
    let n = g.N.Numbered.launcher in
    let seen = c.args.seat.now.seen in
    let before = c.take-cell.result.standing in
    let after = c.boot-booting.new.self.standing in
    let raw = subst (λ (m : ℕ). GrowsBy (by_event n) m seen c.take-cell.result.entered) c.requires.launcher c.take-cell.ensures.grows in
    let grows = found_on n n seen c.take-cell.result.entered before.past c.keeps.ensures raw in
    let mid : c.retire-left.new.self.standing ≡ retired before = ap (λ (h : Held). h.standing) c.retire-left.ensures.cell in
    let service = ap (λ (s : Standing). s.service) mid ∙ c.take-cell.ensures.label in
    let boots = subst (λ (x : ℕ). Boots g.L.Link.wire c.args.link (frame.Boot x c.args.number c.args.tokens) c.args.number c.retire-left.new.self.standing c.boot-booting.result after) service c.boot-booting.ensures.boots in
    record {
      before = before;
      after = after;
      found = record { service_is = c.take-cell.ensures.label; grows = grows };
      empty = empty_grown n (events_in seen) before.past grows c.requires.empty;
      later = subst (λ (k : ℕ). k < c.args.number) (sym (last_grown n (events_in seen) before.past grows)) c.requires.later;
      boots = subst (λ (s : Standing). Boots g.L.Link.wire c.args.link (frame.Boot c.args.seat.now.label c.args.number c.args.tokens) c.args.number s c.boot-booting.result after) mid boots;
      left = c.retire-left.ensures.link;
      seen_is = ap (λ (a : SeatIs CellEvent). events_in a.seen) c.give.ensures.seat ∙ sym c.boot-booting.ensures.past;
    }

pub returns-clause-link : goal.returns-clause-link
returns-clause-link g c =
    let mid = ap (λ (h : Held). is_booted (with_boot c.boot-booting.result c.args.number h.entered)) c.retire-left.ensures.cell in
    ap (λ (a : SeatIs CellEvent). is_booted a.seen) c.give.ensures.seat
    ∙ (ap is_booted c.boot-booting.ensures.entered ∙ (mid ∙ booted_then c.boot-booting.result c.args.number c.take-cell.result.entered))
