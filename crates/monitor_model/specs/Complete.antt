-- What may not be refused: an Open and a Call that break no rule, and a script whose lines are lawful.
use Rattle.std.specs.Prelude.{◌≡◌, ℕ, ◌<◌, ◌≤◌, List, ◌∷◌, ◌++◌, Some, IsTrue}
use Rattle.okws_base.specs.declared.limit.TheConstants.{MOST_SESSIONS, LONGEST_FRAME}
use Rattle.okws_base.specs.declared.journal.Entry.{Entry}
use Rattle.okws_base.specs.declared.value.Value.{Value}
use Rattle.okws_plan.specs.Configuration.{in_force, tables}
use Rattle.okws_plan.specs.Fits.{fits}
use Rattle.okws_plan.specs.Meaning.{mean}
use Rattle.okws_plan.specs.declared.configuration.Config.{Config}
use Rattle.okws_plan.specs.declared.configuration.Query.{Query}
use Rattle.okws_plan.specs.declared.event.Call.{Call}
use Rattle.okws_plan.specs.declared.event.Mark.{Mark}
use Rattle.okws_plan.specs.declared.event.Mark.TheVariants.{Done, Fault}
use Rattle.okws_plan.specs.declared.event.ProxyEvent.{ProxyEvent}
use Rattle.okws_plan.specs.declared.script.Line.{Line}
use Rattle.okws_plan.specs.declared.statement.Answer.TheVariants as answer
use Rattle.frame_codec.specs.Spelling.{size, server_parts}
use Rattle.frame_codec.specs.declared.frame.ServerFrame.TheVariants as frame
use Rattle.token_core.specs.Token.{token_of}
use Rattle.monitor_model.specs.declared.verdict.Verdict.TheVariants.{Opened, Rows, Failed}
use Rattle.monitor_model.specs.Columns.{ProxyLaw}
use Rattle.monitor_model.specs.Proxy.{opened, open_verdict, granted, call_verdict, rows, within_frame}
use Rattle.monitor_model.specs.Played.{IsRefusedAt}
use Rattle.monitor_model.specs.Script.{PlaysAll}
use Rattle.monitor_model.specs.Stage.{Stage}
use Rattle.monitor_model.specs.Standing.{live_at_proxy}

-- In a lawful journal an Open of a live incarnation with its own token is Opened, while it opened fewer sessions than the most.
abbrev pub LiveTokensAreOpened : Type 0
LiveTokensAreOpened = (C : Config) (seed : List ℕ) (p s k : ℕ) (J : List (Entry ProxyEvent)) → ProxyLaw C seed p J → IsTrue (live_at_proxy J s k)
    → opened J s k < MOST_SESSIONS → open_verdict J s k (token_of seed s k p) ≡ Opened (opened J s k)

-- A Call breaks no rule: its session was opened, its incarnation is live, and the arguments fit the query, which is granted.
pub record MayCall (C : Config) (p : ℕ) (J : List (Entry ProxyEvent)) (call : Call) (query : Query) : Type 0 where
  pub session : call.session < opened J call.service call.incarnation
  pub live : IsTrue (live_at_proxy J call.service call.incarnation)
  pub granted_is : granted (in_force C J) p call.service call.query ≡ Some query
  pub args_fit : IsTrue (fits query.statement.parameters call.args)

-- A Call that breaks no rule, and isn't marked Fault, is answered by what its statement means on the rows, or that this is too large.
abbrev pub LawfulCallsAreAnswered : Type 0
LawfulCallsAreAnswered = (C : Config) (p : ℕ) (J : List (Entry ProxyEvent)) (call : Call) (query : Query) → MayCall C p J call query
    → call_verdict C p J call Done ≡ within_frame (mean (tables (in_force C J) p) query.statement call.args (rows C p J)).0

-- Rows whose frame is not too long are told.
abbrev pub FittingRowsAreTold : Type 0
FittingRowsAreTold = (columns : ℕ) (T : List (List Value)) → size (server_parts (frame.Rows columns T)) ≤ LONGEST_FRAME
    → within_frame (answer.Rows columns T) ≡ Rows columns T

-- Failed is told over the mark of a Fault alone.
abbrev pub FailedIsMarked : Type 0
FailedIsMarked = (C : Config) (p : ℕ) (J : List (Entry ProxyEvent)) (call : Call) (mark : Mark) → call_verdict C p J call mark ≡ Failed → mark ≡ Fault

-- Where a script's lines are a run, no run of the first of them is refused at the next, whichever frames were 0B.
abbrev pub WholeRunsAreNotRefused : Type 0
WholeRunsAreNotRefused = (C : Config) (seed : List ℕ) (later lines : List Line) (line : Line) (rule : ℕ) (printed text : List ℕ) (whole stopped : Stage)
    → PlaysAll C seed (later ++ line ∷ lines) printed whole → IsRefusedAt C seed lines line rule text stopped → ⊥
