-- Which parts of a database's schema and of its programs may cross threads: all of them, each by those that it is made of.
use denote.RattleType.{RattleType}
use denote.Param.Send.{IsSend, sendable}
use denote.Param.SendFields.{declared_send, variants_send, as_row_send}
use denote.Struct.Field.{row_field}
use Rattle.std.proofs.Crossing.{Vec-send}
use Rattle.std.specs.contracts.option.Option as Option
use Rattle.sqlite_value.specs.contracts.value.Bytes as Bytes
use Rattle.sqlite_value.specs.contracts.value.Value as Value
use Rattle.sqlite_value.specs.contracts.row.Cell as Cell
use Rattle.sqlite_value.specs.contracts.row.Row as Row
use Rattle.sqlite_value.specs.contracts.keys.Collation as Collation
use Rattle.sqlite_value.specs.contracts.keys.Order as Order
use Rattle.sqlite_value.specs.contracts.keys.Key as Key
use Rattle.sqlite_items.specs.contracts.items.Items as Items
use Rattle.sqlite_sql.specs.contracts.ops.UnaryOp as UnaryOp
use Rattle.sqlite_sql.specs.contracts.ops.ArithOp as ArithOp
use Rattle.sqlite_sql.specs.contracts.ops.CompareOp as CompareOp
use Rattle.sqlite_sql.specs.contracts.ops.BitOp as BitOp
use Rattle.sqlite_sql.specs.contracts.ops.BinaryOp as BinaryOp
use Rattle.sqlite_schema.specs.contracts.code.Op as Op
use Rattle.sqlite_schema.specs.contracts.code.Terms as Terms
use Rattle.sqlite_schema.specs.contracts.schema.Kind as Kind
use Rattle.sqlite_schema.specs.contracts.schema.Action as Action
use Rattle.sqlite_schema.specs.contracts.schema.Column as Column
use Rattle.sqlite_schema.specs.contracts.schema.Reference as Reference
use Rattle.sqlite_schema.specs.contracts.schema.Stamps as Stamps
use Rattle.sqlite_schema.specs.contracts.schema.Table as Table
use Rattle.sqlite_schema.specs.contracts.schema.Index as Index
use Rattle.sqlite_schema.specs.contracts.schema.View as View
use Rattle.sqlite_schema.specs.contracts.schema.Schema as Schema
use Rattle.sqlite_schema.specs.contracts.plan.Scan as Scan
use Rattle.sqlite_sql.specs.contracts.query.Made as Made
use Rattle.sqlite_sql.specs.contracts.aggregate.AggregateOp as AggregateOp
use Rattle.sqlite_sql.specs.contracts.query.Aggregate as Aggregate
use Rattle.sqlite_sql.specs.contracts.query.SortKey as SortKey
use Rattle.sqlite_schema.specs.contracts.plan.Stage as Stage
use Rattle.sqlite_schema.specs.contracts.plan.Groups as Groups
use Rattle.sqlite_schema.specs.contracts.plan.Plan as Plan
use Rattle.sqlite_sql.specs.contracts.query.SetOp as SetOp
use Rattle.sqlite_schema.specs.contracts.program.Table as Made_table
use Rattle.sqlite_schema.specs.contracts.program.Program as Program
use Rattle.sqlite_schema.specs.contracts.command.Conflict as Conflict
use Rattle.sqlite_schema.specs.contracts.command.Source as Source
use Rattle.sqlite_schema.specs.contracts.command.Upsert as Upsert
use Rattle.sqlite_schema.specs.contracts.command.Returning as Returning
use Rattle.sqlite_schema.specs.contracts.command.Command as Command
use Rattle.sqlite_resolve.specs.contracts.compiled.Compiled as Compiled

pub both : {A B : Type 0} → A → B → A × B
both a b = (a, b)

pub Option-send : (T : RattleType) → IsSend T → IsSend (Option.the_row T)
Option-send T s = variants_send (Option.enum T) (tt, ((as_row_send (row_field T) s, tt), tt))

pub Bytes-send : IsSend Bytes.the_row
Bytes-send = search (Vec-send, both, sendable) depth 20

pub Value-send : IsSend Value.the_row
Value-send = variants_send Value.enum (search (Bytes-send, both, sendable) depth 20)

pub Cell-send : IsSend Cell.the_row
Cell-send = variants_send Cell.enum (search (both, sendable) depth 20)

pub Row-send : IsSend Row.the_row
Row-send = search (Cell-send, Vec-send, both, sendable) depth 20

pub Collation-send : IsSend Collation.the_row
Collation-send = variants_send Collation.enum (search (both, sendable) depth 20)

pub Order-send : IsSend Order.the_row
Order-send = declared_send Order.the_type (search (both, sendable) depth 20)

pub Key-send : IsSend Key.the_row
Key-send = declared_send Key.the_type (search (Collation-send, both, sendable) depth 20)

pub Items-send : (T : RattleType) → IsSend T → IsSend (Items.the_row T)
Items-send T s = search (Vec-send, both, sendable) depth 20

pub UnaryOp-send : IsSend UnaryOp.the_row
UnaryOp-send = variants_send UnaryOp.enum (search (both, sendable) depth 20)

pub ArithOp-send : IsSend ArithOp.the_row
ArithOp-send = variants_send ArithOp.enum (search (both, sendable) depth 20)

pub CompareOp-send : IsSend CompareOp.the_row
CompareOp-send = variants_send CompareOp.enum (search (both, sendable) depth 20)

pub BitOp-send : IsSend BitOp.the_row
BitOp-send = variants_send BitOp.enum (search (both, sendable) depth 20)

pub BinaryOp-send : IsSend BinaryOp.the_row
BinaryOp-send = variants_send BinaryOp.enum (search (ArithOp-send, CompareOp-send, BitOp-send, Collation-send, both, sendable) depth 20)

pub Op-send : IsSend Op.the_row
Op-send = variants_send Op.enum (search (Value-send, UnaryOp-send, BinaryOp-send, both, sendable) depth 20)

pub Terms-send : IsSend Terms.the_row
Terms-send = search (Op-send, Items-send, both, sendable) depth 20

pub Kind-send : IsSend Kind.the_row
Kind-send = variants_send Kind.enum (search (both, sendable) depth 20)

pub Action-send : IsSend Action.the_row
Action-send = variants_send Action.enum (search (both, sendable) depth 20)

pub Column-send : IsSend Column.the_row
Column-send = declared_send Column.the_type (search (Bytes-send, Kind-send, Value-send, Collation-send, both, sendable) depth 20)

pub Reference-send : IsSend Reference.the_row
Reference-send = declared_send Reference.the_type (search (Items-send, Bytes-send, Action-send, both, sendable) depth 20)

pub Stamps-send : IsSend Stamps.the_row
Stamps-send = declared_send Stamps.the_type (search (Items-send, Terms-send, Bytes-send, both, sendable) depth 20)

pub Table-send : IsSend Table.the_row
Table-send = declared_send Table.the_type (search (Bytes-send, Option-send, Items-send, Column-send, Order-send, Terms-send, Reference-send, Stamps-send, both, sendable) depth 20 fits 5000)

pub Index-send : IsSend Index.the_row
Index-send = declared_send Index.the_type (search (Bytes-send, Items-send, Order-send, both, sendable) depth 20)

pub View-send : IsSend View.the_row
View-send = declared_send View.the_type (search (Bytes-send, Option-send, both, sendable) depth 20)

pub Schema-send : IsSend Schema.the_row
Schema-send = declared_send Schema.the_type (search (Items-send, Table-send, Index-send, View-send, both, sendable) depth 20)

pub Scan-send : IsSend Scan.the_row
Scan-send = search (Items-send, both, sendable) depth 20

pub Made-send : IsSend Made.the_row
Made-send = variants_send Made.enum (search (both, sendable) depth 20)

pub AggregateOp-send : IsSend AggregateOp.the_row
AggregateOp-send = variants_send AggregateOp.enum (search (both, sendable) depth 20)

pub Aggregate-send : IsSend Aggregate.the_row
Aggregate-send = declared_send Aggregate.the_type (search (AggregateOp-send, Collation-send, both, sendable) depth 20)

pub SortKey-send : IsSend SortKey.the_row
SortKey-send = declared_send SortKey.the_type (search (Key-send, both, sendable) depth 20)

pub Stage-send : IsSend Stage.the_row
Stage-send = variants_send Stage.enum (search (Scan-send, Items-send, Made-send, Aggregate-send, SortKey-send, both, sendable) depth 20 fits 5000)

pub Groups-send : IsSend Groups.the_row
Groups-send = search (Items-send, Collation-send, Aggregate-send, both, sendable) depth 20

pub Plan-send : IsSend Plan.the_row
Plan-send = search (Items-send, Op-send, Stage-send, Groups-send, Collation-send, SortKey-send, both, sendable) depth 20 fits 5000

pub SetOp-send : IsSend SetOp.the_row
SetOp-send = variants_send SetOp.enum (search (both, sendable) depth 20)

pub Made_table-send : IsSend Made_table.the_row
Made_table-send = variants_send Made_table.enum (search (Plan-send, SetOp-send, Items-send, Collation-send, both, sendable) depth 20)

pub Program-send : IsSend Program.the_row
Program-send = declared_send Program.the_type (search (Made_table-send, Items-send, Plan-send, both, sendable) depth 20)

pub Conflict-send : IsSend Conflict.the_row
Conflict-send = variants_send Conflict.enum (search (both, sendable) depth 20)

pub Source-send : IsSend Source.the_row
Source-send = variants_send Source.enum (search (Terms-send, Program-send, both, sendable) depth 20)

pub Upsert-send : IsSend Upsert.the_row
Upsert-send = declared_send Upsert.the_type (search (Option-send, Items-send, Program-send, both, sendable) depth 20)

pub Returning-send : IsSend Returning.the_row
Returning-send = declared_send Returning.the_type (search (Items-send, Bytes-send, Source-send, both, sendable) depth 20)

pub Command-send : IsSend Command.the_row
Command-send = variants_send Command.enum (search (Program-send, Items-send, Bytes-send, Source-send, Conflict-send, Upsert-send, Value-send, both, sendable) depth 20 fits 5000)

pub Compiled-send : IsSend Compiled.the_row
Compiled-send = declared_send Compiled.the_type (search (Command-send, Option-send, Returning-send, Items-send, Bytes-send, both, sendable) depth 20 fits 5000)
