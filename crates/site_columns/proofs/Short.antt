use Rattle.std.proofs.Common.{◌≡◌, ℕ, zero, suc, ◌+◌, ◌<◌, ◌≤◌, Bool, true, false, not, ◌&&◌, ◌==◌, List, [], ◌∷◌, ◌++◌, length, refl, arith, nat_lt, Option, Some, None}
use Rattle.std.specs.Prelude.{if◌then◌else◌}
use Rattle.std.proofs.lemmas.Bool.{leb-true}
use Rattle.okws_base.specs.Runs.{Each}
use Rattle.okws_base.specs.declared.journal.Entry.{Entry}
use Rattle.okws_base.specs.declared.denial.Rule.TheVariants as rule
use Rattle.okws_base.specs.declared.limit.TheConstants.{LONGEST_TEMPLATE}
use Rattle.okws_plan.specs.Configuration.{reads, template_name, template_named}
use Rattle.okws_plan.specs.declared.configuration.Config.{Config}
use Rattle.okws_plan.specs.declared.event.PubdEvent.{PubdEvent}
use Rattle.okws_plan.specs.declared.event.PubdEvent.TheVariants.{Install, Revoke, Publish, Drain, Get}
use Rattle.monitor_model.specs.declared.verdict.Push.{Push}
use Rattle.monitor_model.specs.declared.verdict.Got.{Got}
use Rattle.monitor_model.specs.declared.verdict.Got.TheVariants.{Template, Denied}
use Rattle.monitor_model.specs.Pubd.{edition, text, text_after, drained, news, news_after, current, current_from, drain_verdict, get_of, get_named, get_verdict}
use Rattle.monitor_model.specs.Standing.{live_at_pubd}
use Rattle.pubd_core.specs.Seen.{Seen as PubdSeen}
use Rattle.service_cell.specs.Asking.{IsShortPush, IsShortGot}
use Rattle.site_columns.specs.Site.{is_short_event, are_short}

-- both of two tests hold
pub and_first : (a b : Bool) → (a && b) ≡ true → a ≡ true
and_first true b h = refl
and_first false b h = cc

pub and_second : (a b : Bool) → (a && b) ≡ true → b ≡ true
and_second true b h = h
and_second false b h = absurd (cc)

-- what holds of both of two choices
pub either : {A : Type 0} (P : A → Type 0) (b : Bool) (x y : A) → P x → P y → P (if b then x else y)
either P true x y h k = h
either P false x y h k = k

-- no text is longer than an edition may be
pub text_short : (J : List (Entry PubdEvent)) (t : ℕ) → are_short J ≡ true → length (text J t) ≤ LONGEST_TEMPLATE
text_short [] t h = omega arith
text_short (e ∷ J) t h = by e.event h (λ k. text_short J t k)
  where
    by : (event : PubdEvent) → (is_short_event event && are_short J) ≡ true → (are_short J ≡ true → length (text J t) ≤ LONGEST_TEMPLATE)
        → length (text_after event t (text J t)) ≤ LONGEST_TEMPLATE
    by (Publish u content) k before =
        either (λ (x : List ℕ). length x ≤ LONGEST_TEMPLATE) (u == t) content (text J t) (leb-true (length content) LONGEST_TEMPLATE (and_first _ _ k)) (before (and_second _ _ k))
    by (Install s i) k before = before k
    by (Revoke s i) k before = before k
    by (Drain s i) k before = before k
    by (Get s i name) k before = before k

each_more : {A : Type 0} (P : A → Type 0) (xs : List A) (x : A) → Each P xs → P x → Each P (xs ++ x ∷ [])
each_more P [] x h k = (k, tt)
each_more P (y ∷ xs) x h k = (h.0, each_more P xs x h.1 k)

-- what is due to an incarnation is short
news_short : (C : Config) → ((t : ℕ) → length (template_name C t) < 256) → (J : List (Entry PubdEvent)) (s k : ℕ) → are_short J ≡ true → Each IsShortPush (news C J s k)
news_short C names [] s k h = tt
news_short C names (e ∷ J) s k h = by e.event h (λ i. news_short C names J s k i)
  where
    by : (event : PubdEvent) → (is_short_event event && are_short J) ≡ true → (are_short J ≡ true → Each IsShortPush (news C J s k))
        → Each IsShortPush (news_after C J event s k (news C J s k))
    by (Publish t content) i before =
        let fits : length content ≤ LONGEST_TEMPLATE = leb-true (length content) LONGEST_TEMPLATE (and_first _ _ i) in
        let rest : Each IsShortPush (news C J s k) = before (and_second _ _ i) in
        either (Each IsShortPush) (reads C s t) (news C J s k ++ record { template = template_name C t; edition = edition J t + 1; content = content } ∷ []) (news C J s k)
        (each_more IsShortPush (news C J s k) (record { template = template_name C t; edition = edition J t + 1; content = content }) rest (names t, fits)) rest
    by (Drain t j) i before = either (Each IsShortPush) ((t == s) && (j == k)) [] (news C J s k) tt (before i)
    by (Install t j) i before = before i
    by (Revoke t j) i before = before i
    by (Get t j name) i before = before i

current_short : (C : Config) → ((t : ℕ) → length (template_name C t) < 256) → (J : List (Entry PubdEvent)) (s t n : ℕ) → are_short J ≡ true
    → Each IsShortPush (current_from C J s t n)
current_short C names J s t zero h = tt
current_short C names J s t (suc n) h =
    let rest : Each IsShortPush (current_from C J s (t + 1) n) = current_short C names J s (t + 1) n h in
    either (Each IsShortPush) (reads C s t && nat_lt 0 (edition J t)) (current C J t ∷ current_from C J s (t + 1) n) (current_from C J s (t + 1) n)
    ((names t, text_short J t h), rest) rest

pub drain_short : (C : Config) → ((t : ℕ) → length (template_name C t) < 256) → (J : List (Entry PubdEvent)) (s k : ℕ) → are_short J ≡ true
    → Each IsShortPush (drain_verdict C J s k)
drain_short C names J s k h =
    either (Each IsShortPush) (not (live_at_pubd J s k)) []
    (if drained J s k then news C J s k else current_from C J s 0 (length C.templates)) tt
    (either (Each IsShortPush) (drained J s k) (news C J s k) (current_from C J s 0 (length C.templates))
    (news_short C names J s k h) (current_short C names J s 0 (length C.templates) h))

-- what is read is short
named_short : (C : Config) (J : List (Entry PubdEvent)) (s : ℕ) (o : Option ℕ) → are_short J ≡ true → IsShortGot (get_named C J s o)
named_short C J s None h = tt
named_short C J s (Some t) h =
    either IsShortGot (reads C s t) (get_of J t) (Denied rule.TemplateNotGranted)
    (either IsShortGot (edition J t == 0) (Denied rule.TemplateUnpublished) (Template (edition J t) (text J t)) tt (text_short J t h)) tt

pub get_short : (C : Config) (J : List (Entry PubdEvent)) (s k : ℕ) (name : List ℕ) → are_short J ≡ true → IsShortGot (get_verdict C J s k name)
get_short C J s k name h =
    either IsShortGot (not (live_at_pubd J s k)) (Denied rule.StaleAtPubd) (get_named C J s (template_named C name)) tt
    (named_short C J s (template_named C name) h)

-- the same of what a column answers while a number holds it
pub drains_short : (C : Config) (seen held : PubdSeen) (w s k : ℕ) (pushes : List Push) → seen.config ≡ C → ((t : ℕ) → length (template_name C t) < 256) → are_short seen.past ≡ true → held ≡ record seen { holder = w }
    → pushes ≡ drain_verdict held.config held.past s k → Each IsShortPush pushes
drains_short C seen held w s k pushes e names h hold is = rw (is, hold, e) (drain_short C names seen.past s k h)

pub gets_short : (C : Config) (seen held : PubdSeen) (w s k : ℕ) (name : List ℕ) (got : Got) → seen.config ≡ C → are_short seen.past ≡ true → held ≡ record seen { holder = w }
    → got ≡ get_verdict held.config held.past s k name → IsShortGot got
gets_short C seen held w s k name got e h hold is = rw (is, hold, e) (get_short C seen.past s k name h)
