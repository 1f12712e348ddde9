-- Rows that answer a call fit their frame, and they answer a SELECT alone.
use Rattle.std.proofs.Common.{◌≡◌, ℕ, ◌≤◌, Bool, true, false, List, [], ◌∷◌, Option, Some, None, length, refl, ap, subst, inr, ◌∙◌, eq-eqb}
use Rattle.std.specs.Prelude.{◌==◌, nat_le, IsTrue, All, IfOk, OnErr, is_none, if◌then◌else◌}
use Rattle.std.specs.List.{list_all}
use Rattle.std.proofs.lemmas.Bool.{leb-true}
use Rattle.std.proofs.lemmas.List.Elements.{All-head, All-tail}
use Rattle.std.specs.declared.alloc.AllocError.{AllocError}
use Rattle.std.specs.declared.result.Result.{Result}
use Rattle.std.specs.declared.result.Result.TheVariants.{Ok, Err}
use Rattle.okws_base.specs.declared.limit.TheConstants.{LONGEST_FRAME}
use Rattle.okws_base.specs.declared.denial.Rule.{Rule}
use Rattle.okws_base.specs.declared.denial.Rule.TheVariants as rule
use Rattle.okws_base.specs.declared.journal.Entry.{Entry}
use Rattle.okws_base.specs.declared.value.Value.{Value}
use Rattle.okws_plan.specs.Meaning.{inserted, mean_on}
use Rattle.okws_plan.specs.declared.configuration.Column.{Column}
use Rattle.okws_plan.specs.declared.configuration.Config.{Config}
use Rattle.okws_plan.specs.declared.configuration.Query.{Query}
use Rattle.okws_plan.specs.declared.event.Call.{Call}
use Rattle.okws_plan.specs.declared.event.Mark.{Mark}
use Rattle.okws_plan.specs.declared.event.Mark.TheVariants.{Done, Fault}
use Rattle.okws_plan.specs.declared.event.ProxyEvent.{ProxyEvent}
use Rattle.okws_plan.specs.declared.event.ProxyEvent.TheVariants as proxy
use Rattle.okws_plan.specs.declared.statement.Action.{Action}
use Rattle.okws_plan.specs.declared.statement.Action.TheVariants.{Select, Insert, Update, Delete}
use Rattle.okws_plan.specs.declared.statement.Answer.{Answer}
use Rattle.okws_plan.specs.declared.statement.Answer.TheVariants.{Rows, Changed, Duplicate}
use Rattle.frame_codec.specs.Spelling.{HasSpelling, size, server_parts}
use Rattle.frame_codec.specs.declared.frame.ServerFrame.{ServerFrame}
use Rattle.frame_codec.specs.declared.frame.ServerFrame.TheVariants as frame
use Rattle.frame_codec.specs.declared.frame.ServiceFrame.TheVariants as said
use Rattle.monitor_model.specs.Course.{Speaker, called, is_declared, is_select, is_select_action, verdict_frame}
use Rattle.monitor_model.specs.Proxy.{allowed, call_answer, call_denial, call_mean, call_verdict, granted, query_mean, rows, within_frame}
use Rattle.monitor_model.specs.Seen.{Seen, AtProxy}
use Rattle.monitor_model.specs.declared.verdict.Verdict.{Verdict}
use Rattle.monitor_model.specs.declared.verdict.Verdict.TheVariants as verdict
use Rattle.service_cell.specs.Asking.{IsNarrow}
use Rattle.service_cell.specs.Exchange.{FitsFrame, GivesAnswer, HasRows}

-- ---- rows that are told fit their frame

all_wide : (columns : ℕ) (T : List (List Value)) → All (λ (row : List Value). length row ≡ columns) T → IsTrue (list_all (λ (row : List Value). length row == columns) T)
all_wide columns [] wide = refl
all_wide columns (row ∷ T) wide =
    let P : List Value → Type 0 = λ row. length row ≡ columns in
    rw (eq-eqb (length row) columns (All-head P row T wide)) (all_wide columns T (All-tail P row T wide))

pub rows_fit : (columns : ℕ) (T : List (List Value)) → All (λ (row : List Value). length row ≡ columns) T → within_frame (Rows columns T) ≡ verdict.Rows columns T → IsNarrow (within_frame (Rows columns T))
    → FitsFrame (verdict.Rows columns T)
rows_fit columns T wide is narrow =
    let some : IsNarrow (verdict.Rows columns T) = subst IsNarrow is narrow in
    (some.0, some.1, all_wide columns T wide, by_test (nat_le (size (server_parts (frame.Rows columns T))) LONGEST_FRAME) refl is)
  where
    by_test : (test : Bool) → nat_le (size (server_parts (frame.Rows columns T))) LONGEST_FRAME ≡ test
        → (if test then verdict.Rows columns T else verdict.Denied rule.AnswerTooLarge) ≡ verdict.Rows columns T → size (server_parts (frame.Rows columns T)) ≤ LONGEST_FRAME
    by_test true short is = leb-true _ _ short
    by_test false short is = cc

-- ---- rows answer an allowed call of a SELECT

-- the statement answers rows
abbrev AreRows : Answer → Type 0
AreRows (Rows columns T) = Unit {0}
AreRows (Changed n) = ⊥
AreRows Duplicate = ⊥

inserted_none : (taken : Bool) (T : List (List Value)) (new : List Value) → AreRows (inserted taken T new).0 → ⊥
inserted_none true T new h = h
inserted_none false T new h = h

selects : (columns : List Column) (all : List (List (List Value))) (action : Action) (args : List Value) (T : List (List Value)) → AreRows (mean_on columns all action args T).0 → IsTrue (is_select_action action)
selects columns all (Select selection) args T h = refl
selects columns all (Insert values) args T h = absurd (inserted_none _ T _ h)
selects columns all (Update assignments conditions) args T h = absurd h
selects columns all (Delete conditions) args T h = absurd h

query_selects : (C : Config) (p : ℕ) (found : Option Query) (args : List Value) (T : List (List (List Value))) → AreRows (query_mean C p found args T).0 → IsTrue (is_select found)
query_selects C p None args T h = absurd h
query_selects C p (Some query) args T h = selects _ T query.statement.action args _ h

within_rows : (answer : Answer) → HasRows (within_frame answer) → AreRows answer
within_rows (Rows columns T) h = tt
within_rows (Changed n) h = h
within_rows Duplicate h = h

answer_rows : (denial : Option Rule) (mark : Mark) (answer : Answer) → HasRows (call_answer denial mark answer) → IsTrue (is_none denial) × AreRows answer
answer_rows (Some broken) mark answer h = absurd h
answer_rows None Fault answer h = absurd h
answer_rows None Done answer h = (refl, within_rows answer h)

pub call_selects : (C : Config) (p : ℕ) (J : List (Entry ProxyEvent)) (call : Call) (mark : Mark) → HasRows (call_verdict C p J call mark)
    → IsTrue (allowed C p J call) × IsTrue (is_select (granted C p call.service call.query))
call_selects C p J call mark h =
    let both = answer_rows (call_denial C p J call) mark (call_mean C p J call (rows C p J)).0 h in
    (both.0, query_selects C p (granted C p call.service call.query) call.args (rows C p J) both.1)

-- ---- a call that was entered

pub gives : (C : Config) (w : Speaker) (p n q : ℕ) (args : List Value) (J now : Seen) (told : Result ServerFrame AllocError) (v : Verdict) (before : List (Entry ProxyEvent)) (mark : Mark)
    → IsTrue (is_declared C p) → v ≡ call_verdict C p before (called w n q args) mark → AtProxy w.worker p (proxy.Call (called w n q args) mark) J before now
    → IfOk told (λ f. f ≡ verdict_frame v) → IfOk told HasSpelling → OnErr told (HasRows v) → GivesAnswer C w (said.Call p n q args) J told now
gives C w p n q args J now (Ok heard) v before mark there is at frames spells rows_are =
    (spells, inr (inr (there, before, mark, frames ∙ ap verdict_frame is, at)))
gives C w p n q args J now (Err refused) v before mark there is at frames spells rows_are =
    let both = call_selects C p before (called w n q args) mark (subst HasRows is rows_are) in
    (before, mark, both.0, both.1, at)
