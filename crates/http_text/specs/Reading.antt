-- What the bytes of a connection ask for (RFC 9112, sections 2 to 6).
use Rattle.std.specs.Prelude.{◌≡◌, ◌≤◌, ◌⊎◌, ℕ, ◌-◌, Bool, true, false, ◌&&◌, ◌||◌, ◌==◌, not, nat_lt, nat_le, List, [], ◌∷◌, ◌++◌, length, take, map, Result, Ok, Err, codes, if◌then◌else◌}
use Rattle.std.specs.List.{list_any}
use Rattle.okws_base.specs.declared.limit.TheConstants.{LONGEST_HEAD, MOST_FIELDS}
use Rattle.okws_base.specs.Names.{same_word}
use Rattle.okws_base.specs.Value.{same_bytes}
use Rattle.httparse.specs.Grammar.{RequestHead, print_request, ReadsRequest, NeverHasRequest, MayBecomeRequest}
use Rattle.httparse.specs.Spans.{name_and_value, RequestExceeds}
use Rattle.http_text.specs.declared.length.ContentLength.{ContentLength}
use Rattle.http_text.specs.declared.length.ContentLength.TheVariants.{Length, TooLarge, NotDigits}
use Rattle.http_text.specs.Length.{length_of}
use Rattle.http_text.specs.Response.{crlf, is_head}
use Rattle.http_text.specs.Target.{is_target, path}

-- A field has this name: names are compared without ASCII case (RFC 9110, section 5.1).
abbrev pub is_named : List ℕ → List ℕ × List ℕ → Bool
is_named name field = same_word field.0 name

-- The values of the fields of this name, in order; each field is a name and a value.
abbrev pub values_named : List ℕ → List (List ℕ × List ℕ) → List (List ℕ)
values_named name [] = []
values_named name (field ∷ fields) = if is_named name field then field.1 ∷ values_named name fields else values_named name fields

-- A request has one Host field at the most, and by HTTP/1.1 it has one (RFC 9112, section 3.2).
abbrev pub has_hosts : ℕ → ℕ → Bool
has_hosts minor hosts = (hosts == 1) || ((hosts == 0) && (minor == 0))

-- The methods that are served are GET, HEAD and POST; methods are compared byte by byte (RFC 9110, section 9.1).
abbrev pub is_served : List ℕ → Bool
is_served method = same_bytes method (codes "GET") || (same_bytes method (codes "HEAD") || same_bytes method (codes "POST"))

-- A Content-Length value gives a length, or the status that refuses it (RFC 9110, sections 8.6 and 15.5.14).
abbrev pub told_length : ContentLength → Result ℕ ℕ
told_length (Length n) = Ok n
told_length TooLarge = Err 413
told_length NotDigits = Err 400

-- The length of the content: that of the one Content-Length value, and 0 where there is none; more than one is refused (RFC 9112, section 6.3).
abbrev pub content_length : List (List ℕ) → Result ℕ ℕ
content_length [] = Ok 0
content_length (value ∷ []) = told_length (length_of value)
content_length (value ∷ other ∷ more) = Err 400

-- The checks of a whole head, in their order: the first that fails gives the status, and where all pass there is the length of the content.
-- A target that is taken; its Host fields; a method that is served; no Transfer-Encoding field (RFC 9112, section 6.1); the length of the content.
abbrev pub checked : List ℕ → List ℕ → ℕ → List (List ℕ × List ℕ) → Result ℕ ℕ
checked target method minor fields =
    if not (is_target target) then Err 400
    else if not (has_hosts minor (length (values_named (codes "Host") fields))) then Err 400
    else if not (is_served method) then Err 501
    else if nat_lt 0 (length (values_named (codes "Transfer-Encoding") fields)) then Err 501
    else content_length (values_named (codes "Content-Length") fields)

-- The names and values of a head's fields, each value without the spaces and tabs around it.
abbrev pub fields_of : RequestHead → List (List ℕ × List ℕ)
fields_of h = map name_and_value h.fields

-- What the checks of a whole head find.
abbrev pub checked_head : RequestHead → Result ℕ ℕ
checked_head h = checked h.target h.method h.minor (fields_of h)

-- The text of the interim response 100 (RFC 9110, section 15.2.1).
abbrev pub continue_text : List ℕ
continue_text = codes "HTTP/1.1 100 Continue" ++ crlf ++ crlf

-- The value `100-continue`, without ASCII case (RFC 9110, section 10.1.1).
abbrev pub is_continue : List ℕ → Bool
is_continue value = same_word value (codes "100-continue")

-- A client waits for the interim response where it speaks HTTP/1.1, one of its Expect fields says so, and it has content to send (RFC 9110, section 10.1.1).
abbrev pub waits : Result ℕ ℕ → ℕ → List (List ℕ × List ℕ) → Bool
waits (Err status) minor fields = false
waits (Ok n) minor fields = nat_lt 0 n && ((minor == 1) && list_any is_continue (values_named (codes "Expect") fields))

-- The client of this head waits.
abbrev pub waits_head : RequestHead → Bool
waits_head h = waits (checked_head h) h.minor (fields_of h)

-- The interim response to a whole head: 100 Continue where the client waits and the head passed its checks, else empty.
abbrev pub interim_head : RequestHead → List ℕ
interim_head h = if waits_head h then continue_text else []

-- The bytes begin with a whole head: one of at most 16,384 bytes and 64 fields in the grammar of RFC 9112, sections 2.1 to 5, and then comes the rest.
pub record IsWholeHead (bytes : List ℕ) (h : RequestHead) (rest : List ℕ) : Type 0 where
  pub reads : ReadsRequest bytes h rest
  pub size : length (print_request h) ≤ LONGEST_HEAD
  pub few : length h.fields ≤ MOST_FIELDS

-- The bytes don't begin with a whole head.
abbrev pub HasNoWholeHead : List ℕ → Type 0
HasNoWholeHead bytes = (h : RequestHead) (rest : List ℕ) → ¬ (IsWholeHead bytes h rest)

-- CR or LF.
abbrev pub ends_line : ℕ → Bool
ends_line b = (b == 13) || (b == 10)

-- What stands behind the CRs and LFs that the bytes begin with.
abbrev pub after_blanks : List ℕ → List ℕ
after_blanks [] = []
after_blanks (b ∷ bytes) = if ends_line b then after_blanks bytes else b ∷ bytes

-- Behind n LFs a byte is there, and it is neither CR nor LF.
abbrev pub has_line_after : ℕ → List ℕ → Bool
has_line_after n [] = false
has_line_after n (b ∷ bytes) = if n == 0 then not (ends_line b) else has_line_after (if b == 10 then n - 1 else n) bytes

-- The lines of a head with as many fields as are taken, but for the empty one that ends it.
abbrev pub most_lines : ℕ
most_lines = 65

-- The head is too long: 16,384 bytes are there; or, behind leading CRs and LFs, 65 lines are, and another begins (RFC 6585, section 5).
abbrev pub is_too_long : List ℕ → Bool
is_too_long bytes = nat_le LONGEST_HEAD (length bytes) || has_line_after most_lines (after_blanks bytes)

-- What stands at the front of bytes: a whole head and then the rest; or none, and they are too long for one; or none, and no bytes can follow that make one; or none yet.
pub data Front : Type 0 where
  Headed : (h : RequestHead) (rest : List ℕ) → Front
  Overlong : Front
  Hopeless : Front
  Unfinished : Front

-- That this stands at the front of the bytes. They are open where bytes can follow that make a head, where they end inside a target (whether it is UTF-8 is looked at where it ends), and where they have more fields than are taken.
abbrev pub HasFront : List ℕ → Front → Type 0
HasFront bytes (Headed h rest) = IsWholeHead bytes h rest
HasFront bytes Overlong = HasNoWholeHead bytes × (is_too_long bytes ≡ true)
HasFront bytes Hopeless = HasNoWholeHead bytes × (is_too_long bytes ≡ false) × NeverHasRequest bytes
HasFront bytes Unfinished = HasNoWholeHead bytes × (is_too_long bytes ≡ false) × (MayBecomeRequest bytes ⊎ RequestExceeds MOST_FIELDS bytes)

-- What bytes ask for: a request with its method, its path, its head with the empty line, and its content; a status that refuses it; or nothing yet.
pub data Reading : Type 0 where
  Asks : (method path head content : List ℕ) → Reading
  Refuses : (status : ℕ) → Reading
  Unsettled : Reading

-- A whole head that passed its checks, and the rest: the request is there once its content is, and what comes behind that is ignored.
abbrev pub with_content : RequestHead → List ℕ → ℕ → Reading
with_content h rest n = if nat_le n (length rest) then Asks h.method (path h.target) (print_request h) (take n rest) else Unsettled

-- A whole head and the rest, by what the checks find.
abbrev pub with_head : RequestHead → List ℕ → Result ℕ ℕ → Reading
with_head h rest (Err status) = Refuses status
with_head h rest (Ok n) = with_content h rest n

-- What bytes ask for, by what stands at their front. Without a whole head they are refused by 431 where they are too long, and by 400 where no bytes can follow that make one.
abbrev pub reading_of : Front → Reading
reading_of (Headed h rest) = with_head h rest (checked_head h)
reading_of Overlong = Refuses 431
reading_of Hopeless = Refuses 400
reading_of Unfinished = Unsettled

-- The reading of the bytes.
abbrev pub IsReading : List ℕ → Reading → Type 0
IsReading bytes reading = (front : Front) × HasFront bytes front × (reading ≡ reading_of front)

-- The reading where no more bytes come: what isn't settled is refused by 400, a head that isn't whole and content that is cut short (RFC 9112, section 8).
abbrev pub at_end : Reading → Reading
at_end (Asks method path head content) = Asks method path head content
at_end (Refuses status) = Refuses status
at_end Unsettled = Refuses 400

-- The interim response, by what stands at the front of the bytes.
abbrev pub interim_of : Front → List ℕ
interim_of (Headed h rest) = interim_head h
interim_of Overlong = []
interim_of Hopeless = []
interim_of Unfinished = []

-- The interim response to the bytes.
abbrev pub IsInterim : List ℕ → List ℕ → Type 0
IsInterim bytes text = (front : Front) × HasFront bytes front × (text ≡ interim_of front)

-- The method that a response goes by: that of the whole head, or GET where there is none.
abbrev pub method_of : Front → List ℕ
method_of (Headed h rest) = h.method
method_of Overlong = codes "GET"
method_of Hopeless = codes "GET"
method_of Unfinished = codes "GET"

-- The method of the bytes is this, or one to which the same responses go: whether it is HEAD is the same (RFC 9110, section 9.3.2).
abbrev pub IsMethod : List ℕ → List ℕ → Type 0
IsMethod bytes method = (front : Front) × HasFront bytes front × (is_head method ≡ is_head (method_of front))
