-- Bounds of frames' fields that the fields' types don't keep.
use Rattle.std.specs.Prelude.{◌<◌, ◌^◌, ◌==◌, List, length, IsTrue}
use Rattle.std.specs.List.{list_all}
use Rattle.okws_base.specs.declared.value.Value.{Value}
use Rattle.frame_codec.specs.declared.frame.ServiceFrame.{ServiceFrame}
use Rattle.frame_codec.specs.declared.frame.ServiceFrame.TheVariants.{Open, Call, Get, Log, Reply}
use Rattle.frame_codec.specs.declared.frame.ServerFrame.{ServerFrame}
use Rattle.frame_codec.specs.declared.frame.ServerFrame.TheVariants.{Boot, Request, Push, Opened, Rows, Changed, Template, Logged, Denied, Failed, NoMemory, Duplicate}
use Rattle.frame_codec.specs.Spelling.{is_reply_status, is_content_type, is_location}

-- The bounds of what a service says.
abbrev pub IsBounded : ServiceFrame → Type 0
IsBounded (Open p shown) = Unit {0}
IsBounded (Call p n q args) = length args < 256
IsBounded (Get n) = length n < 256
IsBounded (Log text) = Unit {0}
IsBounded (Reply status content_type location content) = IsTrue (is_reply_status status) × IsTrue (is_content_type content_type) × IsTrue (is_location location)

-- The bounds of what a service hears.
abbrev pub IsServerBounded : ServerFrame → Type 0
IsServerBounded (Boot s k tokens) = length tokens < 256
IsServerBounded (Request head content) = Unit {0}
IsServerBounded (Push template edition content) = length template < 256
IsServerBounded (Opened n) = Unit {0}
IsServerBounded (Rows columns rows) = (length rows < 2 ^ 32) × IsTrue (list_all (λ (row : List Value). length row == columns) rows)
IsServerBounded (Changed n) = Unit {0}
IsServerBounded (Template edition content) = Unit {0}
IsServerBounded Logged = Unit {0}
IsServerBounded (Denied rule) = Unit {0}
IsServerBounded Failed = Unit {0}
IsServerBounded NoMemory = Unit {0}
IsServerBounded Duplicate = Unit {0}
