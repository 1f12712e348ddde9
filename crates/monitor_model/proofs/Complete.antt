-- An Open and a Call that break no rule are answered.
use Rattle.std.proofs.Common.{◌≡◌, ℕ, ◌<◌, ◌≤◌, Bool, true, false, cond, List, [], ◌∷◌, Option, Some, None, refl, ap, ◌∙◌, ◌==◌, eqb-true, eq-eqb}
use Rattle.std.specs.Prelude.{nat_le, ◌&&◌, IsTrue}
use Rattle.std.proofs.lemmas.Bool.{lt-ltb, le-leb}
use Rattle.std.proofs.lemmas.Cmp.{nat_list_eq_equiv}
use Rattle.okws_base.specs.declared.limit.TheConstants.{MOST_SESSIONS, LONGEST_FRAME}
use Rattle.okws_base.specs.Past.{standing_by, standing_after, is_just}
use Rattle.okws_base.specs.Value.{same_token}
use Rattle.okws_base.specs.declared.denial.Rule.{Rule}
use Rattle.okws_base.specs.declared.journal.Entry.{Entry}
use Rattle.okws_base.specs.declared.value.Token.{Token}
use Rattle.okws_base.specs.declared.value.Value.{Value}
use Rattle.okws_plan.specs.Configuration.{in_force, tables}
use Rattle.okws_plan.specs.Meaning.{mean}
use Rattle.okws_plan.specs.declared.configuration.Config.{Config}
use Rattle.okws_plan.specs.declared.configuration.Query.{Query}
use Rattle.okws_plan.specs.declared.event.Call.{Call}
use Rattle.okws_plan.specs.declared.event.Mark.{Mark}
use Rattle.okws_plan.specs.declared.event.Mark.TheVariants.{Done, Fault}
use Rattle.okws_plan.specs.declared.event.ProxyEvent.{ProxyEvent}
use Rattle.okws_plan.specs.declared.event.ProxyEvent.TheVariants as event
use Rattle.okws_plan.specs.declared.statement.Answer.{Answer}
use Rattle.okws_plan.specs.declared.statement.Answer.TheVariants as answer
use Rattle.frame_codec.specs.Spelling.{size, server_parts}
use Rattle.frame_codec.specs.declared.frame.ServerFrame.TheVariants as frame
use Rattle.token_core.specs.Token.{token_of}
use Rattle.monitor_model.specs.declared.verdict.Verdict.TheVariants.{Opened, Rows, Failed, Denied}
use Rattle.monitor_model.specs.Columns.{ProxyLaw, MayEnterProxy}
use Rattle.monitor_model.specs.Complete.{MayCall}
use Rattle.monitor_model.specs.Proxy.{opened, open_denial, open_verdict, call_answer, call_denial, call_mean, call_verdict, rows, within_frame}
use Rattle.monitor_model.specs.Standing.{proxy_grant, live_at_proxy, issued, issued_after}

-- the same token is the same
same_itself : (t : Token) → same_token t t ≡ true
same_itself t = nat_list_eq_equiv.refl t.bytes

just : (k : ℕ) (o : Option ℕ) → is_just k o ≡ true → o ≡ Some k
just k None is = let never : ⊥ = cc in absurd never
just k (Some j) is = ap Some (eqb-true j k is)

-- the token of the incarnation that stands was issued to it last
issued_then : (seed : List ℕ) (p s k : ℕ) (e : ProxyEvent) (C : Config) (J : List (Entry ProxyEvent)) → MayEnterProxy C seed p J e
    → (standing_by proxy_grant J s ≡ Some k → issued J s (token_of seed s k p) ≡ Some k)
    → standing_after (proxy_grant e) s (standing_by proxy_grant J s) ≡ Some k → issued_after e s (token_of seed s k p) (issued J s (token_of seed s k p)) ≡ Some k
issued_then seed p s k (event.Install t j token) C J may before is = by (t == s) refl is
  where
    by : (b : Bool) → (t == s) ≡ b → cond b (Some j) (standing_by proxy_grant J s) ≡ Some k
        → cond (b && same_token token (token_of seed s k p)) (Some j) (issued J s (token_of seed s k p)) ≡ Some k
    by true here stands =
        let service : t ≡ s = eqb-true t s here in
        let number : j ≡ k = cc in
        let shown : token ≡ token_of seed s k p = may.1 ∙ ap (λ (u : ℕ). token_of seed u j p) service ∙ ap (λ (i : ℕ). token_of seed s i p) number in
        rw (shown, same_itself (token_of seed s k p)) stands
    by false here stands = before stands
issued_then seed p s k (event.Revoke t j) C J may before is = by (t == s) is
  where
    by : (b : Bool) → cond b None (standing_by proxy_grant J s) ≡ Some k → issued J s (token_of seed s k p) ≡ Some k
    by true stands = let never : ⊥ = cc in absurd never
    by false stands = before stands
issued_then seed p s k (event.Open t j shown) C J may before is = before is
issued_then seed p s k (event.Call call mark) C J may before is = before is

pub issued_live : (C : Config) (seed : List ℕ) (p s k : ℕ) (J : List (Entry ProxyEvent)) → ProxyLaw C seed p J → standing_by proxy_grant J s ≡ Some k → issued J s (token_of seed s k p) ≡ Some k
issued_live C seed p s k [] law is = let never : ⊥ = cc in absurd never
issued_live C seed p s k (e ∷ J) law is = issued_then seed p s k e.event C J law.1 (issued_live C seed p s k J law.0) is

undenied : (k n : ℕ) (o : Option ℕ) (live : Bool) → o ≡ Some k → live ≡ true → n < MOST_SESSIONS → open_denial o k live n ≡ None
undenied k n o live issued live_is below = rw (issued, live_is, eq-eqb k k refl, lt-ltb n MOST_SESSIONS below) refl

pub live_tokens_are_opened : (C : Config) (seed : List ℕ) (p s k : ℕ) (J : List (Entry ProxyEvent)) → ProxyLaw C seed p J → IsTrue (live_at_proxy J s k)
    → opened J s k < MOST_SESSIONS → open_verdict J s k (token_of seed s k p) ≡ Opened (opened J s k)
live_tokens_are_opened C seed p s k J law live below =
    rw (undenied k (opened J s k) (issued J s (token_of seed s k p)) (live_at_proxy J s k) (issued_live C seed p s k J law (just k (standing_by proxy_grant J s) live)) live below) refl

-- a Call that breaks no rule
call_undenied : (C : Config) (p : ℕ) (J : List (Entry ProxyEvent)) (call : Call) (query : Query) → MayCall C p J call query → call_denial C p J call ≡ None
call_undenied C p J call query may = rw (lt-ltb call.session (opened J call.service call.incarnation) may.session, may.live, may.granted_is, may.args_fit) refl

pub lawful_calls_are_answered : (C : Config) (p : ℕ) (J : List (Entry ProxyEvent)) (call : Call) (query : Query) → MayCall C p J call query
    → call_verdict C p J call Done ≡ within_frame (mean (tables (in_force C J) p) query.statement call.args (rows C p J)).0
lawful_calls_are_answered C p J call query may = rw (call_undenied C p J call query may, may.granted_is) refl

pub fitting_rows_are_told : (columns : ℕ) (T : List (List Value)) → size (server_parts (frame.Rows columns T)) ≤ LONGEST_FRAME → within_frame (answer.Rows columns T) ≡ Rows columns T
fitting_rows_are_told columns T fits = rw (le-leb (size (server_parts (frame.Rows columns T))) LONGEST_FRAME fits) refl

-- Failed is told over its mark alone
row_unfailed : (b : Bool) (columns : ℕ) (T : List (List Value)) (rule : Rule) → cond b (Rows columns T) (Denied rule) ≡ Failed → ⊥
row_unfailed true columns T rule is = cc
row_unfailed false columns T rule is = cc

unfailed : (a : Answer) → within_frame a ≡ Failed → ⊥
unfailed (answer.Rows columns T) is = row_unfailed (nat_le (size (server_parts (frame.Rows columns T))) LONGEST_FRAME) columns T _ is
unfailed (answer.Changed n) is = cc
unfailed answer.Duplicate is = cc

marked_failed : (o : Option Rule) (mark : Mark) (a : Answer) → call_answer o mark a ≡ Failed → mark ≡ Fault
marked_failed (Some rule) mark a is = let never : ⊥ = cc in absurd never
marked_failed None Fault a is = refl
marked_failed None Done a is = absurd (unfailed a is)

pub failed_is_marked : (C : Config) (p : ℕ) (J : List (Entry ProxyEvent)) (call : Call) (mark : Mark) → call_verdict C p J call mark ≡ Failed → mark ≡ Fault
failed_is_marked C p J call mark is = marked_failed (call_denial C p J call) mark (call_mean C p J call (rows C p J)).0 is
