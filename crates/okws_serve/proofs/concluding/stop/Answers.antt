use Rattle.std.proofs.Common.{arith, ◌≡◌, ℕ, min, ap, ◌∙◌, subst}
use Rattle.std.specs.Prelude.{Some, slice_index, slice_set}
use Rattle.turn_lock.specs.BoardSeats.{SeatIs as Place}
use Rattle.admin_console.specs.Steps.{Tells}
use Rattle.admin_console.specs.declared.answer.Answer.TheVariants as answer
use Rattle.site_worker.specs.declared.door.TheConstants.{STOPPED}
use Rattle.okws_serve.proofs.concluding.stop.Goals as goal

pub raise-requires-clause-board : goal.raise-requires-clause-board
raise-requires-clause-board g c = ap (λ (p : Place). p.board) c.draw_rest-first.ensures.drawn ∙ c.requires.board

pub raise-requires-clause-launcher : goal.raise-requires-clause-launcher
raise-requires-clause-launcher g c = let n = ap (λ (p : Place). p.number) c.draw_rest-first.ensures.drawn in let l = c.requires.last in omega arith

pub raise-requires-clause-above : goal.raise-requires-clause-above
raise-requires-clause-above g c = let s = ap (λ (p : Place). slice_index p.seen STOPPED) c.draw_rest-first.ensures.drawn in let k = c.requires.calm in omega arith

pub returns-clause-concludes : goal.returns-clause-concludes
returns-clause-concludes g c =
    let first = c.draw_rest-first.result in
    let count : c.min-count.result ≡ min first c.args.most = c.min-count.ensures in (
      first,
      c.raise.ensures.seen ∙ ap (λ (p : Place). record p { seen = slice_set p.seen STOPPED 1 }) c.draw_rest-first.ensures.drawn,
      ap Some count,
      c.tell-told.result,
      subst (λ (n : ℕ). Tells (g.O.Conn.wire c.args.console.now) (g.O.Conn.wire c.tell-told.new.console) (answer.Stopping n) c.tell-told.result) count c.tell-told.ensures.told,
      c.is_cut.ensures,
    )
