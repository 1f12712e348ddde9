use Rattle.std.proofs.Common.{rules, arith, ◌≡◌, ◌∙◌, ◌<◌, List, length, set, refl, sym, ap, subst}
use Rattle.okws_base.specs.Turns.{Behind}
use Rattle.turn_lock.specs.Seats.{NoteIs, SeatIs}
use Rattle.launch_turns.specs.declared.deed.Deed.{Deed}
use Rattle.site_run.proofs.Telling.{all_same, meets, tells, told_on}
use Rattle.site_run.proofs.launching.tell_all.Goals as goal

pub loop-number-init : goal.loop-number-init
loop-number-init g c = record {
  from = omega arith;
  more = all_same c.args.turns.now.items;
  first = refl;
  room = refl;
  told = λ quiet k o l. absurd (omega (arith, o, l));
}

pub meet-requires-clause-lock : goal.meet-requires-clause-lock
meet-requires-clause-lock g c =
    let l : c.loop-number.number < length c.args.turns.now.items = search (rules, arith) in
    let r = meets c.args.turn.now c.args.turns.now.items c.loop-number.turns.items c.loop-number.number c.index_mut.result.now c.split-note.new.seat c.index_mut-in-loop-number.result.now c.requires.turns c.loop-number.invariant.more
    c.loop-number.invariant.from l c.index_mut.ensures.value c.split-note.ensures.seat c.index_mut-in-loop-number.ensures.value in
    (r.1.lock, ap (λ (m : NoteIs Deed). m.lock) c.split-note.ensures.note ∙ r.0.lock)

pub meet-requires-clause-free : goal.meet-requires-clause-free
meet-requires-clause-free g c =
    let l : c.loop-number.number < length c.args.turns.now.items = search (rules, arith) in
    let r = meets c.args.turn.now c.args.turns.now.items c.loop-number.turns.items c.loop-number.number c.index_mut.result.now c.split-note.new.seat c.index_mut-in-loop-number.result.now c.requires.turns c.loop-number.invariant.more
    c.loop-number.invariant.from l c.index_mut.ensures.value c.split-note.ensures.seat c.index_mut-in-loop-number.ensures.value in
    r.1.free

pub loop-number-preserved : goal.loop-number-preserved
loop-number-preserved g c =
    let olds = c.args.turns.now.items in
    let xs = c.loop-number.turns.items in
    let i = c.loop-number.number in
    let a = c.index_mut.result.now in
    let s = c.split-note.new.seat in
    let d = c.meet.new.seat in
    let inv = c.loop-number.invariant in
    let o = inv.from in
    let l : c.loop-number.number < length c.args.turns.now.items = search (rules, arith) in
    let seen = ap (λ (m : NoteIs Deed). m.seen) c.split-note.ensures.note ∙ sym (ap (λ (x : SeatIs Deed). x.seen) c.split-note.ensures.seat) in
    let behind : Behind s.seen d.seen = subst (λ (I : List Deed). Behind I d.seen) seen c.meet.ensures.met in
    let it = tells c.args.turn.now olds xs (set xs 0 s) (set (set xs 0 s) i d) i a s c.index_mut-in-loop-number.result.now d c.requires.turns inv.more o l
    c.index_mut.ensures.value c.split-note.ensures.seat refl c.index_mut-in-loop-number.ensures.value c.meet.ensures.seat c.meet.ensures.grows behind refl in
    record {
      from = omega arith;
      more = it.more;
      first = it.first ∙ inv.first;
      room = inv.room;
      told = λ quiet k p q. told_on olds xs (set (set xs 0 s) i d) i it inv.told quiet k p (omega (arith, q));
    }
