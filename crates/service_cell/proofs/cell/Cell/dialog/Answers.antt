use Rattle.std.proofs.Common.{ℕ, subst}
use Rattle.service_cell.specs.Dialogs.{EndsAs}
use Rattle.service_cell.proofs.Talking.{started_talks, started_speaking, started_service, ends_dialogs, crashed_at_first, superseded_at_first}
use Rattle.service_cell.proofs.cell.Cell.dialog.Goals as goal

pub converse-requires-clause-speaking : goal.converse-requires-clause-speaking
converse-requires-clause-speaking g c =
    let who = g.C.Columns.asker c.args.columns.now in
    let shows = g.C.Columns.shows c.begin.new.columns c.args.self.now.service in
    rw c.begin.ensures.board.asked (started_speaking who shows 0 c.args.head c.args.content c.args.wanted c.args.self.now (g.C.Columns.seen c.args.columns.now) c.begin.new.self (g.C.Columns.seen c.begin.new.columns) c.in-Started.ensures.begins)

pub converse-requires-clause-declared : goal.converse-requires-clause-declared
converse-requires-clause-declared g c =
    let who = g.C.Columns.asker c.args.columns.now in
    let shows = g.C.Columns.shows c.begin.new.columns c.args.self.now.service in
    rw (
      c.begin.ensures.board.asked,
      started_service who shows 0 c.args.head c.args.content c.args.wanted c.args.self.now (g.C.Columns.seen c.args.columns.now) c.begin.new.self (g.C.Columns.seen c.begin.new.columns) c.in-Started.ensures.begins,
    ) c.requires.declared

pub returns-in-Started-clause-dialogs : goal.returns-in-Started-clause-dialogs
returns-in-Started-clause-dialogs g c =
    let who = g.C.Columns.asker c.args.columns.now in
    let shows = g.C.Columns.shows c.begin.new.columns c.args.self.now.service in
    let J = g.C.Columns.seen c.args.columns.now in
    let mid = g.C.Columns.seen c.begin.new.columns in
    let now = g.C.Columns.seen c.converse.new.columns in
    let h = c.in-Started.ensures.begins in
    let same = started_service who shows 0 c.args.head c.args.content c.args.wanted c.args.self.now J c.begin.new.self mid h in
    let talks = started_talks who shows 0 c.args.head c.args.content c.args.wanted c.args.self.now J c.begin.new.self mid h in
    let ends = (rw c.begin.ensures.board.asked at c.converse.ensures.ends) 0 c.args.head c.args.content c.args.self.now J talks in
    ends_dialogs who (g.C.Columns.shows c.converse.new.columns c.args.self.now.service) c.args.head c.args.content c.args.wanted c.args.self.now J c.converse.result c.converse.new.self now h.0
    (subst (λ (x : ℕ). EndsAs who (g.C.Columns.shows c.converse.new.columns x) c.args.head c.args.content c.args.self.now J c.converse.result c.converse.new.self now) same ends)

pub returns-in-Superseded-clause-dialogs : goal.returns-in-Superseded-clause-dialogs
returns-in-Superseded-clause-dialogs g c =
    superseded_at_first (g.C.Columns.asker c.args.columns.now) 0 c.args.head c.args.content c.args.self.now (g.C.Columns.seen c.args.columns.now) (g.C.Columns.shows c.begin.new.columns c.args.self.now.service) c.args.wanted c.in-Superseded.incarnation c.in-Superseded.shown c.begin.new.self (g.C.Columns.seen c.begin.new.columns) c.in-Superseded.ensures.begins

pub returns-in-Crashed-clause-dialogs : goal.returns-in-Crashed-clause-dialogs
returns-in-Crashed-clause-dialogs g c =
    crashed_at_first (g.C.Columns.asker c.args.columns.now) 0 c.args.head c.args.content c.args.self.now (g.C.Columns.seen c.args.columns.now) (g.C.Columns.shows c.begin.new.columns c.args.self.now.service) c.args.wanted c.in-Crashed.cause c.begin.new.self (g.C.Columns.seen c.begin.new.columns) c.in-Crashed.ensures.begins
