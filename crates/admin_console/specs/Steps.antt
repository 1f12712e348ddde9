-- What one step of the console does.
use Rattle.std.specs.Prelude.{◌≡◌, ◌≤◌, ◌<◌, ◌⊎◌, ℕ, ◌+◌, List, [], ◌∷◌, ◌++◌, length, Option, Some, None}
use Rattle.std.specs.Io.KnownBytes.{Appends, Consumes, IsAtEnd}
use Rattle.std.specs.Str.Lines.{strip_carriage_return}
use Rattle.okws_base.specs.Runs.{Each}
use Rattle.okws_plan.specs.declared.configuration.Config.{Config}
use Rattle.okws_outer.specs.Streams.{Rose, counted, AppendsPrefix}
use Rattle.okws_outer.specs.Conns.{ConnWire}
use Rattle.admin_console.specs.Orders.{order_of}
use Rattle.admin_console.specs.Answers.{answer_text, publishing_answer, relaunching_answer}
use Rattle.admin_console.specs.Reading.{IsPlain, IsBlank, ended}
use Rattle.admin_console.specs.declared.order.Order.{Order}
use Rattle.admin_console.specs.declared.order.Order.TheVariants as order
use Rattle.admin_console.specs.declared.rule.Rule.{Rule}
use Rattle.admin_console.specs.declared.rule.Rule.TheVariants as rule
use Rattle.admin_console.specs.declared.answer.Answer.{Answer}
use Rattle.admin_console.specs.declared.answer.Answer.TheVariants as answer
use Rattle.admin_console.specs.declared.controls.Publishing.{Publishing}
use Rattle.admin_console.specs.declared.controls.Relaunching.{Relaunching}
use Rattle.admin_console.specs.declared.controls.Status.{Status}
use Rattle.admin_console.specs.declared.step.Stepped.{Stepped}
use Rattle.admin_console.specs.declared.step.Stepped.TheVariants.{Answered, Finished, Stop, ConsoleFault}
use Rattle.admin_console.specs.declared.step.Done.{Done}
use Rattle.admin_console.specs.declared.step.Done.TheVariants as done

-- The bytes that follow a command are as many as it says, or the input ended before.
abbrev pub AreFollowing : ℕ → List ℕ → Option (List ℕ) → Type 0
AreFollowing size bytes left = (length bytes ≡ size) ⊎ ((length bytes < size) × IsAtEnd left)

-- How many bytes are to follow a line that says this.
abbrev pub size_said : Order → ℕ
size_said (order.Publish t size) = size
size_said (order.Relaunch s) = 0
size_said order.Status = 0
size_said order.End = 0
size_said order.Stop = 0
size_said (order.Refused broken size) = size

-- What became of a publication of these bytes, of which so many were to follow, where these are left: it was carried out; or the input ended before, which is refused; or memory was refused, and nothing was done.
abbrev pub IsPublished : {S : Type 0} → (S → ℕ → List ℕ → Publishing → S → Type 0) → ℕ → ℕ → ℕ → List ℕ → Option (List ℕ) → S → Answer → S → Type 0
IsPublished publishes line t size bytes left J a now =
    ((length bytes ≡ size) × (p : Publishing) × publishes J t bytes p now × (a ≡ publishing_answer line p))
    ⊎ (((length bytes < size) × IsAtEnd left × (a ≡ answer.Refused line rule.CutShort) × (now ≡ J))
    ⊎ ((length bytes ≡ size) × (a ≡ answer.NoMemory) × (now ≡ J)))

-- What became of a command of this line, with the bytes that follow it, where these are left: what was done in the site, and the answer.
-- A refused command does nothing, and its bytes are dropped.
abbrev pub IsDone : {S : Type 0} → (S → ℕ → List ℕ → Publishing → S → Type 0) → (S → ℕ → Relaunching → S → Type 0) → (S → Status → S → Type 0) → ℕ → Order → List ℕ → Option (List ℕ) → S → Answer → S → Type 0
IsDone publishes relaunches surveys line (order.Publish t size) bytes left J a now = IsPublished publishes line t size bytes left J a now
IsDone publishes relaunches surveys line (order.Relaunch s) bytes left J a now = (bytes ≡ []) × (r : Relaunching) × relaunches J s r now × (a ≡ relaunching_answer line r)
IsDone publishes relaunches surveys line order.Status bytes left J a now = (bytes ≡ []) × (t : Status) × surveys J t now × (a ≡ answer.Status t)
IsDone publishes relaunches surveys line order.End bytes left J a now = ⊥
IsDone publishes relaunches surveys line order.Stop bytes left J a now = ⊥
IsDone publishes relaunches surveys line (order.Refused broken size) bytes left J a now = AreFollowing size bytes left × (a ≡ answer.Refused line broken) × (now ≡ J)

-- What carrying out a command does to the console and the site.
abbrev pub Carries : {S : Type 0} → (S → ℕ → List ℕ → Publishing → S → Type 0) → (S → ℕ → Relaunching → S → Type 0) → (S → Status → S → Type 0) → ConnWire → ConnWire → ℕ → Order → S → S → List ℕ → Done → Type 0
Carries publishes relaunches surveys old new line command J now bytes (done.Answered a) = IsDone publishes relaunches surveys line command bytes new.left J a now
Carries publishes relaunches surveys old new line command J now bytes done.Ends = (command ≡ order.End) × (bytes ≡ []) × (now ≡ J)
Carries publishes relaunches surveys old new line command J now bytes done.Stops = (command ≡ order.Stop) × (bytes ≡ []) × (now ≡ J)
Carries publishes relaunches surveys old new line command J now bytes done.Failed = (now ≡ J) × (length bytes < size_said command) × Rose old.faults new.faults

-- The same, with the bytes that are taken behind the line.
pub record CarriesOut {S : Type 0} (publishes : S → ℕ → List ℕ → Publishing → S → Type 0) (relaunches : S → ℕ → Relaunching → S → Type 0) (surveys : S → Status → S → Type 0) (old new : ConnWire) (line : ℕ) (command : Order) (J now : S) (what : Done) : Type 0 where
  pub bytes : List ℕ
  pub taken_are : Consumes old.left new.left bytes
  pub given : new.given ≡ old.given
  pub later : old.faults ≤ new.faults
  pub still : (what ≡ done.Failed → ⊥) → new.faults ≡ old.faults
  pub is : Carries publishes relaunches surveys old new line command J now bytes what

-- What became of a refused command.
abbrev pub IsRefused : ConnWire → ConnWire → ℕ → Rule → ℕ → List ℕ → Done → Type 0
IsRefused old new line broken size bytes (done.Answered a) = AreFollowing size bytes new.left × (a ≡ answer.Refused line broken)
IsRefused old new line broken size bytes done.Ends = ⊥
IsRefused old new line broken size bytes done.Stops = ⊥
IsRefused old new line broken size bytes done.Failed = (length bytes < size) × Rose old.faults new.faults

-- A refused command's bytes are dropped.
pub record Refuses (old new : ConnWire) (line : ℕ) (broken : Rule) (size : ℕ) (what : Done) : Type 0 where
  pub bytes : List ℕ
  pub taken_are : Consumes old.left new.left bytes
  pub given : new.given ≡ old.given
  pub later : old.faults ≤ new.faults
  pub still : (what ≡ done.Failed → ⊥) → new.faults ≡ old.faults
  pub is : IsRefused old new line broken size bytes what

-- The line of an answer was given, and no fault was counted; or a front of it, and the connection failed.
abbrev pub IsTold : ConnWire → ConnWire → Answer → Stepped → Type 0
IsTold old new a (Answered b) = (b ≡ a) × Appends old.given new.given (answer_text a) × (new.faults ≡ old.faults)
IsTold old new a (ConsoleFault b) = (b ≡ Some a) × AppendsPrefix old.given new.given (answer_text a) × Rose old.faults new.faults
IsTold old new a Finished = ⊥
IsTold old new a Stop = ⊥

-- An answer was told, and nothing taken.
pub record Tells (old new : ConnWire) (a : Answer) (what : Stepped) : Type 0 where
  pub left : new.left ≡ old.left
  pub later : old.faults ≤ new.faults
  pub told : IsTold old new a what

-- A line that isn't empty, behind empty lines, and the bytes that follow it, all taken from the console; the line's number counts all lines that were ended.
pub record Command (old new : ConnWire) (before after : ℕ) (line : List ℕ) (bytes : List ℕ) : Type 0 where
  pub blanks : List (List ℕ)
  pub text : List ℕ
  pub are_blank : Each IsBlank blanks
  pub plain : IsPlain text
  pub filled : IsBlank text → ⊥
  pub line_is : line ≡ strip_carriage_return text
  pub taken_are : Consumes old.left new.left (ended blanks ++ (text ++ 10 ∷ bytes))
  pub count : after ≡ counted before (length blanks + 1)

-- The next command was carried out, and this is its answer.
pub record Does {S : Type 0} (publishes : S → ℕ → List ℕ → Publishing → S → Type 0) (relaunches : S → ℕ → Relaunching → S → Type 0) (surveys : S → Status → S → Type 0) (C : Config) (old new : ConnWire) (before after : ℕ) (J now : S) (a : Answer) : Type 0 where
  pub line : List ℕ
  pub bytes : List ℕ
  pub command : Command old new before after line bytes
  pub is : IsDone publishes relaunches surveys after (order_of C line) bytes new.left J a now

-- The next command is `end`.
abbrev pub Ends : Config → ConnWire → ConnWire → ℕ → ℕ → Type 0
Ends C old new before after = (line : List ℕ) × Command old new before after line [] × (order_of C line ≡ order.End)

-- The next command is `stop`.
abbrev pub Stops : Config → ConnWire → ConnWire → ℕ → ℕ → Type 0
Stops C old new before after = (line : List ℕ) × Command old new before after line [] × (order_of C line ≡ order.Stop)

-- Empty lines and a rest without LF are taken, and nothing is left.
pub record RunsOut (old new : ConnWire) (before after : ℕ) : Type 0 where
  pub blanks : List (List ℕ)
  pub rest : List ℕ
  pub are_blank : Each IsBlank blanks
  pub plain : IsPlain rest
  pub taken_are : Consumes old.left new.left (ended blanks ++ rest)
  pub none_left : IsAtEnd new.left
  pub count : after ≡ counted before (length blanks)

-- These bytes are no whole command: behind empty lines they are a front of a line, or a line with fewer bytes behind it than it says.
pub record IsCut (C : Config) (taken : List ℕ) : Type 0 where
  pub blanks : List (List ℕ)
  pub text : List ℕ
  pub are_blank : Each IsBlank blanks
  pub plain : IsPlain text
  pub cut : (taken ≡ ended blanks ++ text)
      ⊎ ((bytes : List ℕ) × (taken ≡ ended blanks ++ (text ++ 10 ∷ bytes)) × (length bytes < size_said (order_of C (strip_carriage_return text))))

-- The lines of a command that was cut are counted: the empty ones, and its own where bytes are lacking behind it.
abbrev pub CountsCut : ℕ → ℕ → List (List ℕ) → List ℕ → List ℕ → Type 0
CountsCut before after blanks text taken =
    ((taken ≡ ended blanks ++ text) × (after ≡ counted before (length blanks)))
    ⊎ ((bytes : List ℕ) × (taken ≡ ended blanks ++ (text ++ 10 ∷ bytes)) × (after ≡ counted before (length blanks + 1)))

-- What a step answers.
-- Answered: the next command was carried out, and its answer was given. Finished: it is `end`, or the input ended before one was whole; nothing was done. In both no fault was counted.
-- Stop: it is `stop`; nothing was done, no answer was given yet, and no fault was counted.
-- ConsoleFault: the count rose, and a command was carried out of whose answer just a front was given; or the bytes that were taken are no whole command, whose lines are counted, and nothing was done.
abbrev pub Steps : {S : Type 0} → (S → ℕ → List ℕ → Publishing → S → Type 0) → (S → ℕ → Relaunching → S → Type 0) → (S → Status → S → Type 0) → Config → ConnWire → ConnWire → ℕ → ℕ → S → S → Stepped → Type 0
Steps publishes relaunches surveys C old new before after J now (Answered a) =
    Does publishes relaunches surveys C old new before after J now a × Appends old.given new.given (answer_text a) × (new.faults ≡ old.faults)
Steps publishes relaunches surveys C old new before after J now Finished =
    (Ends C old new before after ⊎ RunsOut old new before after) × (new.given ≡ old.given) × (now ≡ J) × (new.faults ≡ old.faults)
Steps publishes relaunches surveys C old new before after J now Stop =
    Stops C old new before after × (new.given ≡ old.given) × (now ≡ J) × (new.faults ≡ old.faults)
Steps publishes relaunches surveys C old new before after J now (ConsoleFault (Some a)) =
    Does publishes relaunches surveys C old new before after J now a × AppendsPrefix old.given new.given (answer_text a) × Rose old.faults new.faults
Steps publishes relaunches surveys C old new before after J now (ConsoleFault None) =
    (taken : List ℕ) × Consumes old.left new.left taken × (new.given ≡ old.given) × (now ≡ J) × Rose old.faults new.faults × (cut : IsCut C taken) × CountsCut before after cut.blanks cut.text taken
