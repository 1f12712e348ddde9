use Rattle.std.proofs.Common.{ℕ, refl, subst, ◌∙◌}
use Rattle.monitor_model.specs.Cell.{incarnation}
use Rattle.service_cell.specs.Asking.{Asker}
use Rattle.service_cell.specs.Steps.{AdvancesOpen}
use Rattle.service_cell.specs.Dialogs.{EndsAs}
use Rattle.service_cell.specs.declared.answer.Advanced.TheVariants as advanced
use Rattle.service_cell.specs.declared.answer.Spoken.TheVariants as spoken
use Rattle.service_cell.proofs.Talking.{goes_talks, reply_ends, crash_ends, superseded_ends, says_less, still_speaking, same_past, same_service, board_then}
use Rattle.service_cell.proofs.cell.Cell.converse.Goals as goal

pub frames-init : goal.frames-init
frames-init g c = record {
  talks = λ n head content s J t. rw c.requested.ensures.seen t;
  speaking = c.requires.speaking;
  service = refl;
  board = c.requested.ensures.board;
  past = refl;
}

pub advance-requires-clause-speaking : goal.advance-requires-clause-speaking
advance-requires-clause-speaking g c = rw c.frames.invariant.board.asked c.frames.invariant.speaking

pub advance-requires-clause-declared : goal.advance-requires-clause-declared
advance-requires-clause-declared g c = rw (c.frames.invariant.service, c.frames.invariant.board.asked) c.requires.declared

pub advance-requires-clause-may : goal.advance-requires-clause-may
advance-requires-clause-may g c = rw (c.frames.invariant.service, c.frames.invariant.past) (c.frames.invariant.board.allowed c.args.self.now.service (incarnation c.args.self.now.past) c.requires.may)

pub frames-preserved : goal.frames-preserved
frames-preserved g c =
    let i = c.frames.invariant in
    let who = g.C.Columns.asker c.args.columns.now in
    let shows = g.C.Columns.shows c.advance.new.columns c.frames.self.service in
    let seen = g.C.Columns.seen c.frames.columns in
    let now = g.C.Columns.seen c.advance.new.columns in
    let a : AdvancesOpen who shows c.frames.self c.frames.self.open_dialog seen advanced.Goes c.advance.new.self now
    = subst (λ (w : Asker). AdvancesOpen w shows c.frames.self c.frames.self.open_dialog seen advanced.Goes c.advance.new.self now) i.board.asked c.in-Goes.ensures.advances in
    record {
      talks = λ n head content s J t. goes_talks who n head content s J c.frames.self seen (i.talks n head content s J t) shows c.advance.new.self now a;
      speaking = still_speaking who shows c.frames.self c.advance.new.self c.frames.self.open_dialog seen now a i.speaking;
      service = same_service who shows c.frames.self c.advance.new.self c.frames.self.open_dialog seen now a ∙ i.service;
      board = board_then g.C.Columns.asker g.C.Columns.shows g.C.Columns.token_seed g.C.Columns.spare g.C.Columns.may_ask c.args.columns.now c.frames.columns c.advance.new.columns i.board c.advance.ensures.board;
      past = same_past who shows c.frames.self c.advance.new.self c.frames.self.open_dialog seen now a ∙ i.past;
    }

pub frames-smaller : goal.frames-smaller
frames-smaller g c =
    says_less (g.C.Columns.asker c.frames.columns) (g.C.Columns.shows c.advance.new.columns c.frames.self.service) c.frames.self c.advance.new.self c.frames.self.open_dialog (g.C.Columns.seen c.frames.columns) (g.C.Columns.seen c.advance.new.columns) c.in-Goes.ensures.advances

pub returns-in-Reply-clause-ends : goal.returns-in-Reply-clause-ends
returns-in-Reply-clause-ends g c = λ n head content s J t.
    let i = c.frames.invariant in
    let who = g.C.Columns.asker c.args.columns.now in
    let shows = g.C.Columns.shows c.advance.new.columns c.frames.self.service in
    let seen = g.C.Columns.seen c.frames.columns in
    let now = g.C.Columns.seen c.advance.new.columns in
    let a : AdvancesOpen who shows c.frames.self c.frames.self.open_dialog seen advanced.Reply c.advance.new.self now
    = subst (λ (w : Asker). AdvancesOpen w shows c.frames.self c.frames.self.open_dialog seen advanced.Reply c.advance.new.self now) i.board.asked c.in-Reply.ensures.advances in
    subst (λ (x : ℕ). EndsAs who (g.C.Columns.shows c.advance.new.columns x) head content s J spoken.Reply c.advance.new.self now) i.service
    (reply_ends who n head content s J c.frames.self seen (i.talks n head content s J t) shows c.advance.new.self now a)

pub returns-in-Superseded-clause-ends : goal.returns-in-Superseded-clause-ends
returns-in-Superseded-clause-ends g c = λ n head content s J t.
    let i = c.frames.invariant in
    let who = g.C.Columns.asker c.args.columns.now in
    let shows = g.C.Columns.shows c.advance.new.columns c.frames.self.service in
    let seen = g.C.Columns.seen c.frames.columns in
    let now = g.C.Columns.seen c.advance.new.columns in
    let k = c.in-Superseded.incarnation in
    let shown = c.in-Superseded.shown in
    let a : AdvancesOpen who shows c.frames.self c.frames.self.open_dialog seen (advanced.Superseded k shown) c.advance.new.self now
    = subst (λ (w : Asker). AdvancesOpen w shows c.frames.self c.frames.self.open_dialog seen (advanced.Superseded k shown) c.advance.new.self now) i.board.asked c.in-Superseded.ensures.advances in
    subst (λ (x : ℕ). EndsAs who (g.C.Columns.shows c.advance.new.columns x) head content s J (spoken.Superseded k shown) c.advance.new.self now) i.service
    (superseded_ends who n head content s J c.frames.self seen (i.talks n head content s J t) shows k shown c.advance.new.self now a)

pub returns-in-Crashed-clause-ends : goal.returns-in-Crashed-clause-ends
returns-in-Crashed-clause-ends g c = λ n head content s J t.
    let i = c.frames.invariant in
    let who = g.C.Columns.asker c.args.columns.now in
    let shows = g.C.Columns.shows c.advance.new.columns c.frames.self.service in
    let seen = g.C.Columns.seen c.frames.columns in
    let now = g.C.Columns.seen c.advance.new.columns in
    let why = c.in-Crashed.cause in
    let a : AdvancesOpen who shows c.frames.self c.frames.self.open_dialog seen (advanced.Crashed why) c.advance.new.self now
    = subst (λ (w : Asker). AdvancesOpen w shows c.frames.self c.frames.self.open_dialog seen (advanced.Crashed why) c.advance.new.self now) i.board.asked c.in-Crashed.ensures.advances in
    subst (λ (x : ℕ). EndsAs who (g.C.Columns.shows c.advance.new.columns x) head content s J (spoken.Crashed why) c.advance.new.self now) i.service
    (crash_ends who n head content s J c.frames.self seen (i.talks n head content s J t) shows why c.advance.new.self now a)
