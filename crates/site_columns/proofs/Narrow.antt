use Rattle.std.proofs.Common.{◌≡◌, ℕ, ◌<◌, ◌≤◌, Bool, true, false, List, [], length, refl, arith, nat_le, nat_lt, Option, Some, None}
use Rattle.std.specs.Prelude.{if◌then◌else◌, slice_index_or}
use Rattle.std.proofs.lemmas.Bool.{leb-true}
use Rattle.okws_base.specs.declared.limit.TheConstants.{MOST_COLUMNS, LONGEST_FRAME, MOST_PARAMETERS}
use Rattle.okws_base.specs.declared.denial.Rule.{Rule}
use Rattle.okws_base.specs.declared.denial.Rule.TheVariants as rule
use Rattle.okws_base.specs.declared.journal.Entry.{Entry}
use Rattle.okws_base.specs.declared.value.Kind.{Kind}
use Rattle.okws_base.specs.declared.value.Value.{Value}
use Rattle.okws_plan.specs.Configuration.{grants, query, tables}
use Rattle.okws_plan.specs.Meaning.{columns_of, mean_on, inserted, is_taken, row_of}
use Rattle.okws_plan.specs.Rules.{QueriesKeepRules, keeps_rules, action_fits, join_of, read_columns, join_fits}
use Rattle.okws_plan.specs.declared.configuration.Column.{Column}
use Rattle.okws_plan.specs.declared.configuration.Config.{Config}
use Rattle.okws_plan.specs.declared.configuration.Query.{Query}
use Rattle.okws_plan.specs.declared.event.Call.{Call}
use Rattle.okws_plan.specs.declared.event.Mark.TheVariants.{Done}
use Rattle.okws_plan.specs.declared.event.ProxyEvent.{ProxyEvent}
use Rattle.okws_plan.specs.declared.statement.Join.{Join}
use Rattle.okws_plan.specs.declared.statement.Action.{Action}
use Rattle.okws_plan.specs.declared.statement.Action.TheVariants.{Select, Insert, Update, Delete}
use Rattle.okws_plan.specs.declared.statement.Answer.{Answer}
use Rattle.okws_plan.specs.declared.statement.Answer.TheVariants as answer
use Rattle.frame_codec.specs.Spelling.{size, server_parts}
use Rattle.frame_codec.specs.declared.frame.ServerFrame.TheVariants as frame
use Rattle.monitor_model.specs.declared.verdict.Verdict.{Verdict}
use Rattle.monitor_model.specs.declared.verdict.Verdict.TheVariants.{Rows, Denied}
use Rattle.monitor_model.specs.Proxy.{granted, query_mean, call_mean, call_denial, call_answer, call_verdict, within_frame, rows}
use Rattle.service_cell.specs.Asking.{IsNarrow}
use Rattle.monitor_model.specs.Seen.{proxy_past}
use Rattle.site_columns.specs.Proxies.{Pasts}
use Rattle.site_columns.proofs.Short.{and_first, and_second, either}

-- an answer's rows have 1 to 255 columns
abbrev IsNarrowAnswer : Answer → Type 0
IsNarrowAnswer (answer.Rows columns T) = (0 < columns) × (columns < 256)
IsNarrowAnswer (answer.Changed n) = Unit {0}
IsNarrowAnswer answer.Duplicate = Unit {0}

insert_narrow : (b : Bool) (T : List (List Value)) (row : List Value) → IsNarrowAnswer (inserted b T row).0
insert_narrow true T row = tt
insert_narrow false T row = tt

action_narrow : (columns own : List Column) (kinds : List Kind) (all : List (List (List Value))) (action : Action) (args : List Value) (T : List (List Value)) → action_fits columns kinds action ≡ true
    → IsNarrowAnswer (mean_on own all action args T).0
action_narrow columns own kinds all (Select s) args T h =
    let low : 1 ≤ length s.columns = leb-true 1 (length s.columns) (and_first _ _ h) in
    let high : length s.columns ≤ MOST_COLUMNS = leb-true (length s.columns) MOST_COLUMNS (and_first _ _ (and_second (nat_le 1 (length s.columns)) _ h)) in
    (omega (arith, low), omega (arith, high))
action_narrow columns own kinds all (Insert values) args T h = insert_narrow (is_taken own T (row_of args values)) T (row_of args values)
action_narrow columns own kinds all (Update assignments conditions) args T h = tt
action_narrow columns own kinds all (Delete conditions) args T h = tt

query_narrow : (C : Config) (p : ℕ) (o : Option Query) (args : List Value) (T : List (List (List Value)))
    → ((x : Query) → o ≡ Some x → keeps_rules (tables C p) x.statement ≡ true) → IsNarrowAnswer (query_mean C p o args T).0
query_narrow C p None args T h = tt
query_narrow C p (Some x) args T h =
    let all : keeps_rules (tables C p) x.statement ≡ true = h x refl in
    let joined : Option Join = join_of x.statement.action in
    let read : List Column = read_columns (tables C p) x.statement.table joined in
    let fits : action_fits read x.statement.parameters x.statement.action ≡ true =
    and_first _ _ (and_second (join_fits (tables C p) x.statement.table joined) _ (and_second (nat_le (length x.statement.parameters) MOST_PARAMETERS) _ (and_second (nat_lt x.statement.table (length (tables C p))) _ all))) in
    action_narrow read (columns_of (tables C p) x.statement.table) x.statement.parameters T x.statement.action args (slice_index_or T x.statement.table []) fits

granted_keeps : (C : Config) (p s q : ℕ) (b : Bool) → QueriesKeepRules C p → (x : Query) → (if b then query C p q else None) ≡ Some x → keeps_rules (tables C p) x.statement ≡ true
granted_keeps C p s q true h x e = h q x e
granted_keeps C p s q false h x e = absurd (cc)

within_narrow : (a : Answer) → IsNarrowAnswer a → IsNarrow (within_frame a)
within_narrow (answer.Rows columns T) h =
    either IsNarrow (nat_le (size (server_parts (frame.Rows columns T))) LONGEST_FRAME) (Rows columns T) (Denied rule.AnswerTooLarge) h tt
within_narrow (answer.Changed n) h = tt
within_narrow answer.Duplicate h = tt

answer_narrow : (o : Option Rule) (a : Answer) → IsNarrowAnswer a → IsNarrow (call_answer o Done a)
answer_narrow None a h = within_narrow a h
answer_narrow (Some broken) a h = tt

-- the rows of a verdict have 1 to 255 columns
pub call_narrow : (C : Config) (p : ℕ) (J : List (Entry ProxyEvent)) (call : Call) → QueriesKeepRules C p → IsNarrow (call_verdict C p J call Done)
call_narrow C p J call h =
    answer_narrow (call_denial C p J call) (call_mean C p J call (rows C p J)).0
    (query_narrow C p (granted C p call.service call.query) call.args (rows C p J) (granted_keeps C p call.service call.query (grants C call.service p call.query) h))

-- the same of what the proxies answer while a number holds them
pub calls_narrow : (C : Config) (P held : Pasts) (w p : ℕ) (call : Call) (v : Verdict) → P.config ≡ C → ((n : ℕ) → QueriesKeepRules C n) → held ≡ record P { holder = w }
    → v ≡ call_verdict held.config p (proxy_past held.pasts p) call Done → IsNarrow v
calls_narrow C P held w p call v e rules hold is = rw (is, hold, e) (call_narrow C p (proxy_past P.pasts p) call (rules p))
