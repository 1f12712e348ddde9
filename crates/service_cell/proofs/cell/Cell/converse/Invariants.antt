use Rattle.std.proofs.Common.{◌≡◌, ℕ, List}
use Rattle.monitor_model.specs.Seen.{Seen}
use Rattle.service_cell.specs.Asking.{KeepsBoard}
use Rattle.service_cell.specs.Standing.{Standing}
use Rattle.service_cell.specs.Steps.{IsSpeaking}
use Rattle.service_cell.specs.Dialogs.{Talks, may_say}
use Rattle.service_cell.proofs.cell.Cell.converse.Given as goal

abbrev pub invariant-frames : goal.invariant-frames
invariant-frames g l = record {
  talks : (n : ℕ) (head content : List ℕ) (c : Standing) (J : Seen) → Talks (g.C.Columns.asker l.fn.columns) n head content c J l.fn.self (g.C.Columns.seen l.fn.columns) → Talks (g.C.Columns.asker l.fn.columns) n head content c J l.self (g.C.Columns.seen l.columns);
  speaking : IsSpeaking (g.C.Columns.asker l.fn.columns).worker l.self.open_dialog;
  service : l.self.service ≡ l.fn.self.service;
  board : KeepsBoard g.C.Columns.asker g.C.Columns.shows g.C.Columns.token_seed g.C.Columns.spare g.C.Columns.may_ask l.fn.columns l.columns;
  past : l.self.past ≡ l.fn.self.past;
}

abbrev pub decreases-frames : goal.decreases-frames
decreases-frames g l = may_say l.self.open_dialog
