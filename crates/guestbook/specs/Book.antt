-- What the guestbook makes of each frame that it hears.
use Rattle.std.specs.Prelude.{◌≡◌, ℕ, ℤ, ◌+◌, ◌==◌, nat_le, option_to_list, List, [], ◌∷◌, ◌++◌, length, Option, Some, None, Result, Ok, Err, IfSome, option_map, option_and_then, if◌then◌else◌, codes}
use Rattle.okws_base.specs.Value.{same_bytes}
use Rattle.okws_base.specs.declared.value.Token.{Token}
use Rattle.frame_codec.specs.declared.frame.Issued.{Issued}
use Rattle.frame_codec.specs.declared.frame.ServiceFrame.{ServiceFrame}
use Rattle.frame_codec.specs.declared.frame.ServerFrame.{ServerFrame}
use Rattle.frame_codec.specs.declared.frame.ServerFrame.TheVariants.{Boot, Request, Push, Opened, Rows, Changed, Logged, Denied, Failed, NoMemory, Duplicate}
use Rattle.frame_codec.specs.Spelling.{ServiceHasSpelling}
use Rattle.svc_kit.specs.Pages.{page_of}
use Rattle.svc_kit.specs.declared.bounded.TheConstants.{LONGEST_FILLED}
use Rattle.guestbook.specs.declared.request.Asked.{Asked}
use Rattle.guestbook.specs.declared.request.Asked.TheVariants.{Show, Sign, BadForm}
use Rattle.guestbook.specs.declared.book.Guestbook.{Guestbook}
use Rattle.guestbook.specs.declared.book.Next.{Next}
use Rattle.guestbook.specs.declared.book.NoTurn.{NoTurn}
use Rattle.guestbook.specs.declared.book.NoTurn.TheVariants.{Unlooked}
use Rattle.guestbook.specs.declared.book.NoTurn.TheVariants as no_turn
use Rattle.guestbook.specs.declared.book.Awaited.{Awaited}
use Rattle.guestbook.specs.declared.book.Awaited.TheVariants.{ForBoot, ForRequest, ForSession, ForRows, ForChange, ForLogged}
use Rattle.guestbook.specs.Requests.{asked}
use Rattle.guestbook.specs.Listing.{lines}
use Rattle.guestbook.specs.Frames.{open_frame, select_frame, insert_frame, log_frame, refused, bad_form, taken, see_other, shown}

-- What the guestbook knows: its token for proxy 0, its session there, and the last text of `page` that it heard.
pub record Book : Type 0 where
  pub token : Option Token
  pub session : Option ℕ
  pub page : Option (List ℕ)

-- What it knows once it heard a frame, what it waits for then, and what it says, if anything.
pub record Step : Type 0 where
  pub book : Book
  pub awaits : Awaited
  pub says : Option ServiceFrame

-- None: the frame isn't due.
abbrev pub Turn : Type 0
Turn = Option Step

-- It says nothing, and waits for a request.
abbrev pub listens : Book → Turn
listens book = Some (record { book = book; awaits = ForRequest; says = None })

-- It answers the request, and waits for the next one.
abbrev pub replies : Book → ServiceFrame → Turn
replies book frame = Some (record { book = book; awaits = ForRequest; says = Some frame })

-- It says this, and waits for the answer.
abbrev pub asks : Book → ServiceFrame → Awaited → Turn
asks book frame answer = Some (record { book = book; awaits = answer; says = Some frame })

-- The first token for proxy 0.
abbrev pub token_in : List Issued → Option Token
token_in [] = None
token_in (issued ∷ more) = if issued.proxy == 0 then Some issued.token else token_in more

-- First a Boot is due.
abbrev pub boots : Book → ServerFrame → Turn
boots book (Boot service incarnation tokens) = listens (record book { token = token_in tokens })
boots book _ = None

-- In a session it calls the query that the request asks for. An entry of more than 1,000,000 bytes is refused, and a bad form too.
abbrev pub does : Book → ℕ → Asked → Turn
does book session Show = asks book (select_frame session) ForRows
does book session (Sign entry) =
    if nat_le (length entry.who + length entry.note) LONGEST_FILLED then asks book (insert_frame session entry) (ForChange entry.id) else replies book refused
does book session BadForm = replies book bad_form

-- Where it has no session it opens proxy 0 first, by its token; without one the request is refused.
abbrev pub opens : Book → Option Token → Asked → Turn
opens book (Some token) request = asks book (open_frame token) (ForSession request)
opens book None request = replies book refused

-- A request is done in the session, if there is one.
abbrev pub begins : Book → Option ℕ → Asked → Turn
begins book (Some session) request = does book session request
begins book None request = opens book book.token request

-- A template that is pushed is kept where it is `page`.
abbrev pub keeps : Book → List ℕ → List ℕ → Book
keeps book name text = record book { page = if same_bytes name (codes "page") then Some text else book.page }

-- Between requests a Push or a Request is due.
abbrev pub takes : Book → ServerFrame → Turn
takes book (Push name edition text) = listens (keeps book name text)
takes book (Request head content) = begins book book.session (asked head content)
takes book _ = None

-- An Open that isn't answered Opened is refused, and the next request tries again.
abbrev pub opened : Book → Asked → ServerFrame → Turn
opened book request (Opened session) = does (record book { session = Some session }) session request
opened book request (Denied rule) = replies book refused
opened book request Failed = replies book refused
opened book request NoMemory = replies book refused
opened book request _ = None

-- The answer to query 1: the rows are shown, any other is refused.
abbrev pub selected : Book → ServerFrame → Turn
selected book (Rows columns rows) = replies book (shown book.page (lines rows))
selected book (Changed count) = replies book refused
selected book Duplicate = replies book refused
selected book (Denied rule) = replies book refused
selected book Failed = replies book refused
selected book NoMemory = replies book refused
selected book _ = None

-- The answer to query 2: Changed is logged, Duplicate is told, any other is refused.
abbrev pub inserted : Book → ℤ → ServerFrame → Turn
inserted book id (Changed count) = asks book (log_frame id) ForLogged
inserted book id Duplicate = replies book taken
inserted book id (Rows columns rows) = replies book refused
inserted book id (Denied rule) = replies book refused
inserted book id Failed = replies book refused
inserted book id NoMemory = replies book refused
inserted book id _ = None

-- A Log that isn't answered Logged is refused.
abbrev pub logged : Book → ServerFrame → Turn
logged book Logged = replies book see_other
logged book (Denied rule) = replies book refused
logged book Failed = replies book refused
logged book NoMemory = replies book refused
logged book _ = None

-- What it makes of a frame, by what it waits for.
abbrev pub turn : Awaited → Book → ServerFrame → Turn
turn ForBoot book frame = boots book frame
turn ForRequest book frame = takes book frame
turn (ForSession request) book frame = opened book request frame
turn ForRows book frame = selected book frame
turn (ForChange id) book frame = inserted book id frame
turn ForLogged book frame = logged book frame

-- What the guestbook knows, what it waits for, and all that it said, the oldest first.
pub record Told : Type 0 where
  pub book : Book
  pub awaits : Awaited
  pub said : List ServiceFrame

-- What it is before it heard anything: first a Boot is due.
abbrev pub blank : Told
blank = record { book = record { token = None; session = None; page = None }; awaits = ForBoot; said = [] }

-- What it says in a step stands behind what it said before.
abbrev pub goes_on : List ServiceFrame → Step → Told
goes_on said step = record { book = step.book; awaits = step.awaits; said = said ++ option_to_list step.says }

-- The guestbook once it heard one frame more.
abbrev pub hears : ServerFrame → Told → Option Told
hears frame told = option_map (goes_on told.said) (turn told.awaits told.book frame)

-- The guestbook once it heard these frames, the newest first. None: one of them wasn't due.
abbrev pub told : List ServerFrame → Option Told
told [] = Some blank
told (frame ∷ before) = option_and_then (hears frame) (told before)

-- What the guestbook says, the oldest first, where it hears these frames, the newest first.
abbrev pub says : List ServerFrame → Option (List ServiceFrame)
says frames = option_map (λ (t : Told). t.said) (told frames)

-- The step that a turn of the program is, where it knows this.
abbrev pub step_of : Book → Next → Turn
step_of book next = Some (record { book = book; awaits = next.awaits; says = next.said })

-- The program's turn is the one that is due; it names a frame that isn't due. Where memory was refused this says nothing.
abbrev pub IsTurn : Result Next NoTurn → Turn → ServerFrame → Book → Type 0
IsTurn (Ok next) due frame book = due ≡ step_of book next
IsTurn (Err (Unlooked other)) due frame book = (other ≡ frame) × (due ≡ None)
IsTurn (Err no_turn.NoMemory) due frame book = Unit {0}

-- What is said in a turn has a spelling.
abbrev pub IsSayable : Next → Type 0
IsSayable next = IfSome next.said ServiceHasSpelling

-- What the program knows.
abbrev pub book_of : Guestbook → Book
book_of guestbook = record { token = guestbook.token; session = guestbook.session; page = option_map (λ p. p.1) (page_of guestbook.pages (codes "page")) }
