-- The rows of a call's verdict have 1 to 255 columns, also over a keeper that tells none.
use Rattle.std.proofs.Common.{◌≡◌, ℕ, ◌<◌, ◌≤◌, Bool, true, false, List, length, refl, sym, subst, arith, nat_le, nat_lt, Option, Some, None}
use Rattle.std.specs.Prelude.{if◌then◌else◌, IfSome, not}
use Rattle.std.proofs.lemmas.Bool.{leb-true}
use Rattle.okws_base.specs.declared.limit.TheConstants.{MOST_COLUMNS, LONGEST_FRAME, MOST_PARAMETERS}
use Rattle.okws_base.specs.declared.denial.Rule.{Rule}
use Rattle.okws_base.specs.declared.denial.Rule.TheVariants as rule
use Rattle.okws_base.specs.declared.journal.Entry.{Entry}
use Rattle.okws_base.specs.declared.value.Kind.{Kind}
use Rattle.okws_base.specs.declared.value.Value.{Value}
use Rattle.okws_plan.specs.Configuration.{grants, query, tables}
use Rattle.okws_plan.specs.Meaning.{columns_of}
use Rattle.okws_plan.specs.Rules.{QueriesKeepRules, keeps_rules, action_fits, join_of, read_columns, join_fits}
use Rattle.okws_plan.specs.declared.configuration.Column.{Column}
use Rattle.okws_plan.specs.declared.configuration.Config.{Config}
use Rattle.okws_plan.specs.declared.configuration.Query.{Query}
use Rattle.okws_plan.specs.declared.event.Call.{Call}
use Rattle.okws_plan.specs.declared.event.Mark.{Mark}
use Rattle.okws_plan.specs.declared.event.Mark.TheVariants.{Done, Fault}
use Rattle.okws_plan.specs.declared.event.ProxyEvent.{ProxyEvent}
use Rattle.okws_plan.specs.declared.statement.Join.{Join}
use Rattle.okws_plan.specs.declared.statement.Action.{Action}
use Rattle.okws_plan.specs.declared.statement.Action.TheVariants.{Select, Insert, Update, Delete}
use Rattle.okws_plan.specs.declared.statement.Answer.{Answer}
use Rattle.okws_plan.specs.declared.statement.Answer.TheVariants as answer
use Rattle.okws_outer.specs.Keeping.{MayAnswer}
use Rattle.frame_codec.specs.Spelling.{size, server_parts}
use Rattle.frame_codec.specs.declared.frame.ServerFrame.TheVariants as frame
use Rattle.monitor_model.specs.declared.verdict.Verdict.{Verdict}
use Rattle.monitor_model.specs.declared.verdict.Verdict.TheVariants.{Rows, Denied}
use Rattle.monitor_model.specs.Proxy.{granted, query_denial, call_mean, call_denial, call_answer, call_verdict, within_frame, rows, opened}
use Rattle.monitor_model.specs.Standing.{live_at_proxy}
use Rattle.service_cell.specs.Asking.{IsNarrow}
use Rattle.db_proxy.specs.Permit.{MayBeAnswered}
use Rattle.site_columns.proofs.Short.{and_first, and_second, either}
use Rattle.site_columns.proofs.Narrow.{call_narrow}

-- an answer's rows have 1 to 255 columns
abbrev IsNarrowAnswer : Answer → Type 0
IsNarrowAnswer (answer.Rows columns T) = (0 < columns) × (columns < 256)
IsNarrowAnswer (answer.Changed n) = Unit {0}
IsNarrowAnswer answer.Duplicate = Unit {0}

may_narrow : (columns own : List Column) (kinds : List Kind) (action : Action) (a : Answer) → action_fits columns kinds action ≡ true → MayAnswer own action a → IsNarrowAnswer a
may_narrow columns own kinds (Select s) (answer.Rows n T) h is =
    let low : 1 ≤ length s.columns = leb-true 1 (length s.columns) (and_first _ _ h) in
    let high : length s.columns ≤ MOST_COLUMNS = leb-true (length s.columns) MOST_COLUMNS (and_first _ _ (and_second (nat_le 1 (length s.columns)) _ h)) in
    (omega (arith, low, is), omega (arith, high, is))
may_narrow columns own kinds (Select s) (answer.Changed n) h is = tt
may_narrow columns own kinds (Select s) answer.Duplicate h is = tt
may_narrow columns own kinds (Insert values) (answer.Rows n T) h is = absurd is
may_narrow columns own kinds (Insert values) (answer.Changed n) h is = tt
may_narrow columns own kinds (Insert values) answer.Duplicate h is = tt
may_narrow columns own kinds (Update assignments conditions) (answer.Rows n T) h is = absurd is
may_narrow columns own kinds (Update assignments conditions) (answer.Changed n) h is = tt
may_narrow columns own kinds (Update assignments conditions) answer.Duplicate h is = tt
may_narrow columns own kinds (Delete conditions) (answer.Rows n T) h is = absurd is
may_narrow columns own kinds (Delete conditions) (answer.Changed n) h is = tt
may_narrow columns own kinds (Delete conditions) answer.Duplicate h is = tt

within_narrow : (a : Answer) → IsNarrowAnswer a → IsNarrow (within_frame a)
within_narrow (answer.Rows columns T) h =
    either IsNarrow (nat_le (size (server_parts (frame.Rows columns T))) LONGEST_FRAME) (Rows columns T) (Denied rule.AnswerTooLarge) h tt
within_narrow (answer.Changed n) h = tt
within_narrow answer.Duplicate h = tt

answer_narrow : (o : Option Rule) (mark : Mark) (a : Answer) → (o ≡ None → mark ≡ Done → IsNarrowAnswer a) → IsNarrow (call_answer o mark a)
answer_narrow (Some broken) mark a h = tt
answer_narrow None Fault a h = tt
answer_narrow None Done a h = within_narrow a (h refl refl)

-- a query that is denied for no rule is granted
last_test : (live there : Bool) (g : Option Query) (args : List Value) → (if not there then Some rule.NoSession else if not live then Some rule.StaleToken else query_denial g args) ≡ None
    → query_denial g args ≡ None
last_test true true g args e = e
last_test false true g args e = absurd (cc)
last_test live false g args e = absurd (cc)

granted_keeps : (C : Config) (p q : ℕ) (b : Bool) → QueriesKeepRules C p → (x : Query) → (if b then query C p q else None) ≡ Some x → keeps_rules (tables C p) x.statement ≡ true
granted_keeps C p q true h x e = h q x e
granted_keeps C p q false h x e = absurd (cc)

query_narrow : (C : Config) (p : ℕ) (g : Option Query) (args : List Value) (a : Answer) → ((x : Query) → g ≡ Some x → keeps_rules (tables C p) x.statement ≡ true) → query_denial g args ≡ None
    → IfSome g (λ (x : Query). MayAnswer (columns_of (tables C p) x.statement.table) x.statement.action a) → IsNarrowAnswer a
query_narrow C p None args a keeps e may = absurd (cc)
query_narrow C p (Some x) args a keeps e may =
    let all : keeps_rules (tables C p) x.statement ≡ true = keeps x refl in
    let joined : Option Join = join_of x.statement.action in
    let read : List Column = read_columns (tables C p) x.statement.table joined in
    let fits : action_fits read x.statement.parameters x.statement.action ≡ true =
    and_first _ _ (and_second (join_fits (tables C p) x.statement.table joined) _ (and_second (nat_le (length x.statement.parameters) MOST_PARAMETERS) _ (and_second (nat_lt x.statement.table (length (tables C p))) _ all))) in
    may_narrow read (columns_of (tables C p) x.statement.table) x.statement.parameters x.statement.action a fits may

untold_narrow : (C : Config) (p : ℕ) (J : List (Entry ProxyEvent)) (call : Call) (mark : Mark) (a : Answer) → QueriesKeepRules C p
    → (call_denial C p J call ≡ None → mark ≡ Done → MayBeAnswered C p call a) → IsNarrow (call_answer (call_denial C p J call) mark a)
untold_narrow C p J call mark a rules may =
    answer_narrow (call_denial C p J call) mark a (λ none done.
    query_narrow C p (granted C p call.service call.query) call.args a (granted_keeps C p call.query (grants C call.service p call.query) rules)
    (last_test (live_at_proxy J call.service call.incarnation) (nat_lt call.session (opened J call.service call.incarnation)) (granted C p call.service call.query) call.args none) (may none done))

told_narrow : (C : Config) (p : ℕ) (J : List (Entry ProxyEvent)) (call : Call) (mark : Mark) → QueriesKeepRules C p → IsNarrow (call_verdict C p J call mark)
told_narrow C p J call Done rules = call_narrow C p J call rules
told_narrow C p J call Fault rules = answer_narrow (call_denial C p J call) Fault (call_mean C p J call (rows C p J)).0 (λ none done. absurd (cc))

-- whether the keeper tells its rows or not, the verdict's rows have 1 to 255 columns
pub verdict_narrow : (C : Config) (p : ℕ) (J : List (Entry ProxyEvent)) (call : Call) (mark : Mark) (a : Answer) (told : Option (List (List (List Value)))) (v : Verdict) → QueriesKeepRules C p
    → v ≡ call_answer (call_denial C p J call) mark a → (call_denial C p J call ≡ None → mark ≡ Done → told ≡ None → MayBeAnswered C p call a)
    → IfSome told (λ T. v ≡ call_verdict C p J call mark) → IsNarrow v
verdict_narrow C p J call mark a (Some T) v rules is may means = subst IsNarrow (sym means) (told_narrow C p J call mark rules)
verdict_narrow C p J call mark a None v rules is may means = subst IsNarrow (sym is) (untold_narrow C p J call mark a rules (λ none done. may none done refl))
