-- The fields of what a service hears, read from the front of bytes.
use Rattle.std.specs.Prelude.{ℕ, ◌==◌, List, Option, Some, None, if◌then◌else◌, option_map}
use Rattle.std.specs.Int.{w16, w32, w64}
use Rattle.okws_base.specs.declared.value.Value.{Value}
use Rattle.frame_codec.specs.declared.frame.Issued.{Issued}
use Rattle.frame_codec.specs.declared.frame.ServerFrame.{ServerFrame}
use Rattle.frame_codec.specs.declared.frame.ServerFrame.TheVariants.{Boot, Request, Push, Opened, Rows, Changed, Template, Logged, Denied, Failed, NoMemory, Duplicate}
use Rattle.frame_codec.specs.Reading.{Reader, both, after, mapped, fixed_at, byte_at, number_at, string_at, name_at, many_at, listed_at, all_of}

-- A token behind its proxy's number.
abbrev pub issued_at : Reader Issued
issued_at bytes = mapped (λ (p : ℕ × List ℕ). record { proxy = p.0; token = record { bytes = p.1 } }) (both (number_at w16) (fixed_at 20)) bytes

-- So many tokens.
abbrev pub issues_at : ℕ → Reader (List Issued)
issues_at n bytes = listed_at issued_at n bytes

-- So many rows of so many values each.
abbrev pub rows_at : ℕ → ℕ → Reader (List (List Value))
rows_at columns n bytes = listed_at (many_at columns) n bytes

-- The fields of a Boot.
abbrev pub boot_at : Reader (ℕ × (ℕ × List Issued))
boot_at bytes = both (number_at w16) (both (number_at w32) (after byte_at issues_at)) bytes

-- The fields of a Request.
abbrev pub request_at : Reader (List ℕ × List ℕ)
request_at bytes = both string_at string_at bytes

-- The fields of a Push.
abbrev pub push_at : Reader (List ℕ × (ℕ × List ℕ))
push_at bytes = both name_at (both (number_at w32) string_at) bytes

-- The field of an Opened.
abbrev pub opened_at : Reader ℕ
opened_at bytes = number_at w32 bytes

-- The fields of Rows: how many columns, and the rows behind their count.
abbrev pub table_at : Reader (ℕ × List (List Value))
table_at bytes = after byte_at (λ columns. mapped (λ rows. (columns, rows)) (after (number_at w32) (rows_at columns))) bytes

-- The field of a Changed.
abbrev pub changed_at : Reader ℕ
changed_at bytes = number_at w64 bytes

-- The fields of a Template.
abbrev pub template_at : Reader (ℕ × List ℕ)
template_at bytes = both (number_at w32) string_at bytes

-- The field of a Denied.
abbrev pub denied_at : Reader ℕ
denied_at bytes = byte_at bytes

-- No field.
abbrev pub nothing_at : Reader (Unit {0})
nothing_at bytes = Some (tt, bytes)

-- The frame of a Boot's fields.
abbrev pub boot_frame : ℕ × (ℕ × List Issued) → ServerFrame
boot_frame p = Boot p.0 p.1.0 p.1.1

-- The frame of a Request's fields.
abbrev pub request_frame : List ℕ × List ℕ → ServerFrame
request_frame p = Request p.0 p.1

-- The frame of a Push's fields.
abbrev pub push_frame : List ℕ × (ℕ × List ℕ) → ServerFrame
push_frame p = Push p.0 p.1.0 p.1.1

-- The frame of Rows' fields.
abbrev pub rows_frame : ℕ × List (List Value) → ServerFrame
rows_frame p = Rows p.0 p.1

-- The frame of a Template's fields.
abbrev pub template_frame : ℕ × List ℕ → ServerFrame
template_frame p = Template p.0 p.1

-- The frame of the server of a kind whose fields are all of these bytes.
unfoldable pub server_fields_at : ℕ → List ℕ → Option ServerFrame
server_fields_at kind bytes =
    if kind == 1 then option_map boot_frame (all_of (boot_at bytes))
    else if kind == 2 then option_map request_frame (all_of (request_at bytes))
    else if kind == 3 then option_map push_frame (all_of (push_at bytes))
    else if kind == 4 then option_map Opened (all_of (opened_at bytes))
    else if kind == 5 then option_map rows_frame (all_of (table_at bytes))
    else if kind == 6 then option_map Changed (all_of (changed_at bytes))
    else if kind == 7 then option_map template_frame (all_of (template_at bytes))
    else if kind == 8 then option_map (λ (x : Unit {0}). Logged) (all_of (nothing_at bytes))
    else if kind == 9 then option_map Denied (all_of (denied_at bytes))
    else if kind == 10 then option_map (λ (x : Unit {0}). Failed) (all_of (nothing_at bytes))
    else if kind == 11 then option_map (λ (x : Unit {0}). NoMemory) (all_of (nothing_at bytes))
    else if kind == 12 then option_map (λ (x : Unit {0}). Duplicate) (all_of (nothing_at bytes))
    else None
