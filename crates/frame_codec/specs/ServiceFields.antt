-- The fields of what a service says, read from the front of bytes.
use Rattle.std.specs.Prelude.{ℕ, ◌==◌, List, Option, None, if◌then◌else◌, option_map}
use Rattle.std.specs.Int.{w16, w32}
use Rattle.okws_base.specs.declared.value.Value.{Value}
use Rattle.frame_codec.specs.declared.frame.ServiceFrame.{ServiceFrame}
use Rattle.frame_codec.specs.declared.frame.ServiceFrame.TheVariants.{Open, Call, Get, Log, Reply}
use Rattle.frame_codec.specs.Spelling.{is_reply_status, is_content_type, is_location}
use Rattle.frame_codec.specs.Reading.{Reader, both, after, checked, fixed_at, byte_at, number_at, string_at, name_at, many_at, all_of}

-- The count of values in one byte, and so many values.
unfoldable pub values_at : Reader (List Value)
values_at bytes = after byte_at many_at bytes

-- The fields of an Open.
abbrev pub open_at : Reader (ℕ × List ℕ)
open_at bytes = both (number_at w16) (fixed_at 20) bytes

-- The fields of a Call.
abbrev pub call_at : Reader (ℕ × (ℕ × (ℕ × List Value)))
call_at bytes = both (number_at w16) (both (number_at w32) (both (number_at w16) values_at)) bytes

-- The fields of a Reply.
abbrev pub reply_at : Reader (ℕ × (List ℕ × (List ℕ × List ℕ)))
reply_at bytes = both (checked is_reply_status (number_at w16)) (both (checked is_content_type name_at) (both (checked is_location name_at) string_at)) bytes

-- The frame of an Open's fields.
abbrev pub open_frame : ℕ × List ℕ → ServiceFrame
open_frame p = Open p.0 (record { bytes = p.1 })

-- The frame of a Call's fields.
abbrev pub call_frame : ℕ × (ℕ × (ℕ × List Value)) → ServiceFrame
call_frame p = Call p.0 p.1.0 p.1.1.0 p.1.1.1

-- The frame of a Reply's fields.
abbrev pub reply_frame : ℕ × (List ℕ × (List ℕ × List ℕ)) → ServiceFrame
reply_frame p = Reply p.0 p.1.0 p.1.1.0 p.1.1.1

-- The frame of a service of a kind whose fields are all of these bytes.
unfoldable pub service_fields_at : ℕ → List ℕ → Option ServiceFrame
service_fields_at kind bytes =
    if kind == 0x41 then option_map open_frame (all_of (open_at bytes))
    else if kind == 0x42 then option_map call_frame (all_of (call_at bytes))
    else if kind == 0x43 then option_map Get (all_of (name_at bytes))
    else if kind == 0x44 then option_map Log (all_of (string_at bytes))
    else if kind == 0x45 then option_map reply_frame (all_of (reply_at bytes))
    else None
