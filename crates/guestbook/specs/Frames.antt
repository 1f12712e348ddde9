-- What the guestbook says.
use Rattle.std.specs.Prelude.{ℕ, ℤ, List, [], ◌∷◌, ◌++◌, length, nat_lt, Option, Some, None, Result, Ok, Err, if◌then◌else◌, codes}
use Rattle.std.specs.Fmt.{signed_decimal}
use Rattle.okws_base.specs.declared.value.Value.TheVariants.{Int, Text}
use Rattle.okws_base.specs.declared.value.Token.{Token}
use Rattle.frame_codec.specs.declared.frame.ServiceFrame.{ServiceFrame}
use Rattle.frame_codec.specs.declared.frame.ServiceFrame.TheVariants.{Open, Call, Log, Reply}
use Rattle.svc_kit.specs.declared.bounded.TheConstants.{LONGEST_FILLED}
use Rattle.svc_kit.specs.declared.fill.FillRule.{FillRule}
use Rattle.svc_kit.specs.Filled.{filling}
use Rattle.guestbook.specs.declared.request.Entry.{Entry}

-- Opens proxy 0.
abbrev pub open_frame : Token → ServiceFrame
open_frame token = Open 0 token

-- Calls query 1 of proxy 0.
abbrev pub select_frame : ℕ → ServiceFrame
select_frame session = Call 0 session 1 []

-- Calls query 2 of proxy 0 with an entry.
abbrev pub insert_frame : ℕ → Entry → ServiceFrame
insert_frame session entry = Call 0 session 2 (Int entry.id ∷ Text entry.who ∷ Text entry.note ∷ [])

-- Logs that an entry was made.
abbrev pub log_frame : ℤ → ServiceFrame
log_frame id = Log (codes "post " ++ signed_decimal id)

-- Replies with a plain text.
abbrev pub plain : ℕ → List ℕ → ServiceFrame
plain status content = Reply status (codes "text/plain") [] content

-- Replies that the request failed.
abbrev pub refused : ServiceFrame
refused = plain 500 (codes "refused" ++ 10 ∷ [])

-- Replies that the form isn't one.
abbrev pub bad_form : ServiceFrame
bad_form = plain 400 (codes "bad form" ++ 10 ∷ [])

-- Replies that the number is taken.
abbrev pub taken : ServiceFrame
taken = plain 409 (codes "taken" ++ 10 ∷ [])

-- Replies that the entries may be looked at, with no content.
abbrev pub see_other : ServiceFrame
see_other = Reply 303 (codes "text/plain") (codes "/guest") []

-- Replies with lines, where they aren't too long.
abbrev pub plain_lines : List ℕ → ServiceFrame
plain_lines text = if nat_lt LONGEST_FILLED (length text) then refused else plain 200 text

-- Replies with a page, where it was filled.
abbrev pub filled_page : Result (List ℕ) (ℕ × FillRule) → ServiceFrame
filled_page (Ok text) = Reply 200 (codes "text/html") [] text
filled_page (Err refusal) = refused

-- Replies with the entries' lines: with the text of `page`, where there is one, filled with them as `rows`, and else with the lines.
abbrev pub shown : Option (List ℕ) → Option (List ℕ) → ServiceFrame
shown page None = refused
shown None (Some text) = plain_lines text
shown (Some page) (Some text) = filled_page (filling ((codes "rows", text) ∷ []) page)
