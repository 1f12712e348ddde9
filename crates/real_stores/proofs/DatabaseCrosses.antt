-- A keeper over a database may cross threads where what the database stands on may.
use denote.RattleType.{RattleType}
use denote.Param.Send.{IsSend, view_send, sendable}
use denote.Param.SendFields.{declared_send, variants_send}
use Rattle.std.proofs.Crossing.{Vec-send}
use Rattle.okws_plan.specs.contracts.configuration.Table as Table
use Rattle.sqlite_exec.specs.contracts.rows.Rows as ExecRows
use Rattle.sqlite_exec.specs.contracts.page.Page as Page
use Rattle.sqlite_exec.specs.contracts.mark.Way as Way
use Rattle.sqlite_exec.specs.contracts.mark.Mark as ExecMark
use Rattle.sqlite_exec.specs.contracts.marks.Marks as Marks
use Rattle.sqlite_exec.specs.contracts.seen.Seen as Seen
use Rattle.sqlite_exec.specs.contracts.stream.Rounds as Rounds
use Rattle.sqlite_exec.specs.contracts.stream.Stream as Stream
use Rattle.sqlite_exec.specs.contracts.budget.Budget as Budget
use Rattle.sqlite_exec.specs.contracts.slots.Slots as Slots
use Rattle.sqlite_exec.specs.contracts.work.Workspace as Workspace
use Rattle.sqlite.specs.contracts.history.Mark as LiteMark
use Rattle.sqlite.specs.contracts.history.History as History
use Rattle.sqlite.specs.contracts.cache.Entry as Entry
use Rattle.sqlite.specs.contracts.clock.WallClock as WallClock
use Rattle.sqlite.specs.contracts.run.reading.Reading as Reading
use Rattle.sqlite.specs.contracts.connection.Connection as Connection
use Rattle.sqlite.specs.contracts.connection.Connection.TheInside as Inside
use Rattle.sqlite_trees.specs.declared.store.Store as store
use Rattle.sqlite_keeper.specs.contracts.keeper.SqliteKeeper as SqliteKeeper
use Rattle.real_stores.proofs.SchemaCrosses.{both, Bytes-send, Compiled-send, Option-send, Order-send, Row-send, Schema-send}

pub ExecRows-send : IsSend ExecRows.the_row
ExecRows-send = search (Row-send, Vec-send, both, sendable) depth 20

pub Page-send : IsSend Page.the_row
Page-send = search (ExecRows-send, both, sendable) depth 20

pub Way-send : IsSend Way.the_row
Way-send = variants_send Way.enum (search (Order-send, Row-send, Vec-send, both, sendable) depth 20)

pub ExecMark-send : IsSend ExecMark.the_row
ExecMark-send = declared_send ExecMark.the_type (search (Row-send, Way-send, both, sendable) depth 20)

pub Marks-send : IsSend Marks.the_row
Marks-send = search (ExecMark-send, Vec-send, both, sendable) depth 20

pub Seen-send : IsSend Seen.the_row
Seen-send = declared_send Seen.the_type (search (ExecRows-send, Vec-send, both, sendable) depth 20)

pub Rounds-send : IsSend Rounds.the_row
Rounds-send = declared_send Rounds.the_type (search (Seen-send, both, sendable) depth 20)

pub Stream-send : IsSend Stream.the_row
Stream-send = declared_send Stream.the_type (search (Vec-send, Row-send, Page-send, Marks-send, Option-send, Rounds-send, both, sendable) depth 20)

pub Budget-send : IsSend Budget.the_row
Budget-send = declared_send Budget.the_type (search (both, sendable) depth 20)

pub Slots-send : IsSend Slots.the_row
Slots-send = search (Row-send, Vec-send, both, sendable) depth 20

pub Workspace-send : IsSend Workspace.the_row
Workspace-send = declared_send Workspace.the_type (search (Row-send, Vec-send, Slots-send, Option-send, both, sendable) depth 20)

pub LiteMark-send : IsSend LiteMark.the_row
LiteMark-send = declared_send LiteMark.the_type (search (Bytes-send, Option-send, Schema-send, both, sendable) depth 20)

pub History-send : IsSend History.the_row
History-send = declared_send History.the_type (search (Option-send, Schema-send, Vec-send, LiteMark-send, both, sendable) depth 20)

pub Entry-send : IsSend Entry.the_row
Entry-send = declared_send Entry.the_type (search (Bytes-send, Compiled-send, both, sendable) depth 20)

pub WallClock-send : IsSend WallClock.the_row
WallClock-send = declared_send WallClock.the_type (search (both, sendable) depth 20)

pub Reading-send : IsSend Reading.the_row
Reading-send = declared_send Reading.the_type (search (Stream-send, Budget-send, Row-send, Vec-send, both, sendable) depth 20)

Table-send : IsSend Table.the_row
Table-send = search (Vec-send, both, sendable) depth 40 fits 5000

module _ (S : RattleType) (g : store.Ghosts S.Denot) (s : IsSend S) where
  inside : IsSend (Inside.the_row S g)
  inside = declared_send (Inside.the_type S g) (search (Schema-send, History-send, Entry-send, Vec-send, Row-send, Option-send, WallClock-send, Reading-send, Workspace-send, both, sendable) depth 20 fits 5000)

  pub Connection-send : IsSend (Connection.the_row S g)
  Connection-send = view_send _ _ _ _ _ inside

  pub SqliteKeeper-send : IsSend (SqliteKeeper.the_row S g)
  SqliteKeeper-send = declared_send (SqliteKeeper.the_type S g) (search (Connection-send, Table-send, Vec-send, both, sendable) depth 20)
