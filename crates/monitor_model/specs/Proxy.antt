-- The verdicts of proxy p, looking back along its past J.
use Rattle.std.specs.Prelude.{ℕ, ◌+◌, Bool, List, [], ◌∷◌, Option, Some, None, ◌==◌, ◌&&◌, nat_lt, nat_le, not, if◌then◌else◌, is_none}
use Rattle.okws_base.specs.declared.limit.TheConstants.{MOST_SESSIONS, LONGEST_FRAME}
use Rattle.okws_base.specs.declared.journal.Entry.{Entry}
use Rattle.okws_base.specs.declared.value.Token.{Token}
use Rattle.okws_base.specs.declared.value.Value.{Value}
use Rattle.okws_base.specs.declared.denial.Rule.{Rule}
use Rattle.okws_base.specs.declared.denial.Rule.TheVariants as rule
use Rattle.okws_plan.specs.declared.event.Mark.{Mark}
use Rattle.okws_plan.specs.declared.event.Mark.TheVariants.{Done, Fault}
use Rattle.okws_plan.specs.Configuration.{in_force, tables, first_rows, query, grants}
use Rattle.okws_plan.specs.Meaning.{mean}
use Rattle.okws_plan.specs.Fits.{fits}
use Rattle.okws_plan.specs.declared.configuration.Config.{Config}
use Rattle.okws_plan.specs.declared.configuration.Query.{Query}
use Rattle.okws_plan.specs.declared.statement.Answer.{Answer}
use Rattle.okws_plan.specs.declared.statement.Answer.TheVariants as answer
use Rattle.okws_plan.specs.declared.event.Call.{Call}
use Rattle.okws_plan.specs.declared.event.ProxyEvent.{ProxyEvent}
use Rattle.okws_plan.specs.declared.event.ProxyEvent.TheVariants as event
use Rattle.frame_codec.specs.Spelling.{size, server_parts}
use Rattle.frame_codec.specs.declared.frame.ServerFrame.TheVariants as frame
use Rattle.monitor_model.specs.declared.verdict.Verdict.{Verdict}
use Rattle.monitor_model.specs.declared.verdict.Verdict.TheVariants.{Opened, Rows, Changed, Duplicate, Denied, Failed}
use Rattle.monitor_model.specs.Standing.{issued, live_at_proxy}

-- The rule that an Open breaks first: the token was never issued to the service here; it was issued for another incarnation, or this one isn't live; 65,536 sessions were opened. `found` is the incarnation that the token was issued to.
abbrev pub open_denial : Option ℕ → ℕ → Bool → ℕ → Option Rule
open_denial None k live opened = Some rule.UnknownToken
open_denial (Some j) k live opened =
    if not ((j == k) && live) then Some rule.StaleToken
    else if not (nat_lt opened MOST_SESSIONS) then Some rule.TooManySessions
    else None

-- How many sessions an event opens for (s, k): `count` says how many each had opened before.
abbrev pub opens : ProxyEvent → List (Entry ProxyEvent) → (ℕ → ℕ → ℕ) → ℕ → ℕ → ℕ
opens (event.Install t j token) J count s k = 0
opens (event.Revoke t j) J count s k = 0
opens (event.Open t j shown) J count s k =
    if (t == s) && ((j == k) && is_none (open_denial (issued J t shown) j (live_at_proxy J t j) (count t j))) then 1 else 0
opens (event.Call call mark) J count s k = 0

-- How many Opens of (s, k) were answered Opened. Session n of (s, k) is there where n is below this.
abbrev pub opened : List (Entry ProxyEvent) → ℕ → ℕ → ℕ
opened [] s k = 0
opened (e ∷ J) s k = opened J s k + opens e.event J (opened J) s k

-- The rule that is broken, or else the number of the session.
abbrev pub open_answer : Option Rule → ℕ → Verdict
open_answer (Some rule) count = Denied rule
open_answer None count = Opened count

-- An Open is denied by the first rule that it breaks, else Opened with the count of sessions opened before.
abbrev pub open_verdict : List (Entry ProxyEvent) → ℕ → ℕ → Token → Verdict
open_verdict J s k shown = open_answer (open_denial (issued J s shown) k (live_at_proxy J s k) (opened J s k)) (opened J s k)

-- The query, where the configuration in force grants it to s.
abbrev pub granted : Config → ℕ → ℕ → ℕ → Option Query
granted C p s q = if grants C s p q then query C p q else None

-- The query isn't granted, or the arguments don't fit.
abbrev pub query_denial : Option Query → List Value → Option Rule
query_denial None args = Some rule.QueryNotGranted
query_denial (Some query) args = if fits query.statement.parameters args then None else Some rule.BadArguments

-- The rule that a Call breaks first, before it is answered: its session isn't there; its incarnation isn't live; the query isn't granted; the arguments don't fit.
abbrev pub call_denial : Config → ℕ → List (Entry ProxyEvent) → Call → Option Rule
call_denial C p J call =
    if not (nat_lt call.session (opened J call.service call.incarnation)) then Some rule.NoSession
    else if not (live_at_proxy J call.service call.incarnation) then Some rule.StaleToken
    else query_denial (granted (in_force C J) p call.service call.query) call.args

-- A Call is allowed where it breaks no rule.
abbrev pub allowed : Config → ℕ → List (Entry ProxyEvent) → Call → Bool
allowed C p J call = is_none (call_denial C p J call)

-- What a query answers, and the rows that it leaves.
abbrev pub query_mean : Config → ℕ → Option Query → List Value → List (List (List Value)) → Answer × List (List (List Value))
query_mean C p None args T = (answer.Duplicate, T)
query_mean C p (Some query) args T = mean (tables C p) query.statement args T

-- What the query of a Call answers on the rows T, and the rows that it leaves, where it is granted.
abbrev pub call_mean : Config → ℕ → List (Entry ProxyEvent) → Call → List (List (List Value)) → Answer × List (List (List Value))
call_mean C p J call T = query_mean (in_force C J) p (granted (in_force C J) p call.service call.query) call.args T

-- Only an allowed Call that is marked Done changes rows.
abbrev pub rows_if : Option Rule → Mark → List (List (List Value)) → List (List (List Value)) → List (List (List Value))
rows_if (Some rule) mark before now = before
rows_if None Fault before now = before
rows_if None Done before now = now

-- The rows after an event, on the entries J before it, from the rows T before it.
abbrev pub rows_after : Config → ℕ → List (Entry ProxyEvent) → ProxyEvent → List (List (List Value)) → List (List (List Value))
rows_after C p J (event.Install t k token) T = T
rows_after C p J (event.Revoke t k) T = T
rows_after C p J (event.Open t k shown) T = T
rows_after C p J (event.Call call mark) T = rows_if (call_denial C p J call) mark T (call_mean C p J call T).1

-- The rows of all tables of proxy p: the first ones, changed by the meaning of each Call, in order, that was allowed where it stands and is marked Done.
abbrev pub rows : Config → ℕ → List (Entry ProxyEvent) → List (List (List Value))
rows C p [] = first_rows C p
rows C p (e ∷ J) = rows_after C p J e.event (rows C p J)

-- An answer of rows whose frame is longer than 1,048,576 is denied; every other answer stays.
abbrev pub within_frame : Answer → Verdict
within_frame (answer.Rows columns T) = if nat_le (size (server_parts (frame.Rows columns T))) LONGEST_FRAME then Rows columns T else Denied rule.AnswerTooLarge
within_frame (answer.Changed n) = Changed n
within_frame answer.Duplicate = Duplicate

-- The first rule that is broken; else Failed for a Fault; else the statement's answer, where it fits a frame.
abbrev pub call_answer : Option Rule → Mark → Answer → Verdict
call_answer (Some rule) mark answer = Denied rule
call_answer None Fault answer = Failed
call_answer None Done answer = within_frame answer

-- A Call is denied by the first rule that it breaks; else it is Failed where its mark is Fault; else it is the answer of the statement on the rows.
abbrev pub call_verdict : Config → ℕ → List (Entry ProxyEvent) → Call → Mark → Verdict
call_verdict C p J call mark = call_answer (call_denial C p J call) mark (call_mean C p J call (rows C p J)).0
