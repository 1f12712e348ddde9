-- A booted token is known where it is shown later.
use Rattle.std.proofs.Common.{if◌then◌else◌, ◌≡◌, ◌⊎◌, inl, inr, ℕ, ◌<◌, ◌≤◌, Bool, true, false, List, [], ◌∷◌, ◌++◌, Option, Some, None, refl, sym, ap, ◌∙◌, subst, ◌==◌, eqb-true, eq-eqb, ne_eqb, arith}
use Rattle.std.specs.Prelude.{◌&&◌, nat_lt, not}
use Rattle.std.proofs.lemmas.Cmp.{nat_list_eq_equiv}
use mathlib.Core.Logic.{dite}
use native.Mathlib.Decide.{ℕ_discrete}
use Rattle.okws_base.specs.declared.limit.TheConstants.{MOST_SESSIONS}
use Rattle.okws_base.specs.Past.{standing_by, standing_after, last_by, last_after, is_just}
use Rattle.okws_base.specs.Value.{same_token}
use Rattle.okws_base.specs.declared.denial.Rule.TheVariants as rule
use Rattle.okws_base.specs.declared.journal.Entry.{Entry}
use Rattle.okws_base.specs.declared.value.Token.{Token}
use Rattle.okws_base.specs.declared.value.Value.{Value}
use Rattle.okws_plan.specs.Configuration.{in_force}
use Rattle.okws_plan.specs.Fits.{fits}
use Rattle.okws_plan.specs.declared.configuration.Config.{Config}
use Rattle.okws_plan.specs.declared.configuration.Query.{Query}
use Rattle.okws_plan.specs.declared.event.ProxyEvent.{ProxyEvent}
use Rattle.okws_plan.specs.declared.event.ProxyEvent.TheVariants as event
use Rattle.token_core.specs.Token.{token_of}
use Rattle.monitor_model.specs.declared.verdict.Verdict.TheVariants.{Denied}
use Rattle.monitor_model.specs.Columns.{ProxyLaw, MayEnterProxy}
use Rattle.monitor_model.specs.Proxy.{opened, open_denial, open_answer, query_denial, granted}
use Rattle.monitor_model.specs.Standing.{proxy_grant, live_at_proxy, issued, issued_after}
use Rattle.monitor_model.proofs.Complete.{issued_live}
use Rattle.monitor_model.specs.Booting.{Installs, WasInstalled, FollowsInstall, AllFollow, RevokedSince, TokenIsKnown, TokensAreKnown, StaleCallsWereRevoked}

some_eq : (a b : ℕ) → Some a ≡ Some b → a ≡ b
some_eq a b e = cc

none_some : (k : ℕ) → None ≡ Some k → ⊥
none_some k e = absurd (cc)

-- an Install of incarnation k of s stands in the past
pub record Split (J : List (Entry ProxyEvent)) (s k : ℕ) : Type 0 where
  pub mid : List (Entry ProxyEvent)
  pub below : List (Entry ProxyEvent)
  pub installer : ℕ
  pub token : Token
  pub is : J ≡ mid ++ record { worker = installer; event = event.Install s k token } ∷ below

split_on : (e : Entry ProxyEvent) (J : List (Entry ProxyEvent)) (s k : ℕ) → Split J s k → Split (e ∷ J) s k
split_on e J s k h = record { mid = e ∷ h.mid; below = h.below; installer = h.installer; token = h.token; is = ap (λ l. e ∷ l) h.is }

-- what stands was installed
stood_step : (e : Entry ProxyEvent) (J : List (Entry ProxyEvent)) (s k : ℕ) (v : ProxyEvent) → e.event ≡ v → (standing_by proxy_grant J s ≡ Some k → Split J s k) → standing_after (proxy_grant v) s (standing_by proxy_grant J s) ≡ Some k → Split (e ∷ J) s k
stood_step e J s k (event.Install t j token) is rest h = dite (ℕ_discrete t s)
    (λ same. let q : t == s ≡ true = eq-eqb t s same in
    let n : j ≡ k = some_eq j k (subst (λ (b : Bool). (if b then Some j else standing_by proxy_grant J s) ≡ Some k) q h) in
    record { mid = []; below = J; installer = e.worker; token = token; is = ap (λ (v : ProxyEvent). record { worker = e.worker; event = v } ∷ J) (is ∙ (ap (λ (u : ℕ). event.Install u j token) same ∙ ap (λ (i : ℕ). event.Install s i token) n)) })
    (λ other. split_on e J s k (rest (subst (λ (b : Bool). (if b then Some j else standing_by proxy_grant J s) ≡ Some k) (ne_eqb t s other) h)))
stood_step e J s k (event.Revoke t j) is rest h = dite (ℕ_discrete t s)
    (λ same. absurd (none_some k (subst (λ (b : Bool). (if b then None else standing_by proxy_grant J s) ≡ Some k) (eq-eqb t s same) h)))
    (λ other. split_on e J s k (rest (subst (λ (b : Bool). (if b then None else standing_by proxy_grant J s) ≡ Some k) (ne_eqb t s other) h)))
stood_step e J s k (event.Open t j shown) is rest h = split_on e J s k (rest h)
stood_step e J s k (event.Call call mark) is rest h = split_on e J s k (rest h)

stood : (J : List (Entry ProxyEvent)) (s k : ℕ) → standing_by proxy_grant J s ≡ Some k → Split J s k
stood [] s k h = absurd (none_some k h)
stood (e ∷ J) s k h = stood_step e J s k e.event refl (stood J s k) h

since_on : (e : Entry ProxyEvent) (J : List (Entry ProxyEvent)) (s k : ℕ) → RevokedSince J s k → RevokedSince (e ∷ J) s k
since_on e J s k h = record { above = e ∷ h.above; mid = h.mid; below = h.below; revoker = h.revoker; installer = h.installer; token = h.token; is = ap (λ l. e ∷ l) h.is }

just_is : (k : ℕ) (o : Option ℕ) → is_just k o ≡ true → o ≡ Some k
just_is k None is = let never : ⊥ = cc in absurd never
just_is k (Some j) is = ap Some (eqb-true j k is)

-- what was installed and stands no longer was revoked
revoked_step : (C : Config) (seed : List ℕ) (p : ℕ) (e : Entry ProxyEvent) (J : List (Entry ProxyEvent)) (s k : ℕ) (v : ProxyEvent) → e.event ≡ v → MayEnterProxy C seed p J v → FollowsInstall C p J v
    → (WasInstalled J s k → (standing_by proxy_grant J s ≡ Some k → ⊥) → RevokedSince J s k)
    → Installs s k v ⊎ WasInstalled J s k → (standing_after (proxy_grant v) s (standing_by proxy_grant J s) ≡ Some k → ⊥) → RevokedSince (e ∷ J) s k
revoked_step C seed p e J s k (event.Install t j token) is may follows rest (inl same) never =
    absurd (never (subst (λ (b : Bool). (if b then Some j else standing_by proxy_grant J s) ≡ Some k) (sym (eq-eqb t s same.0)) (ap Some same.1)))
revoked_step C seed p e J s k (event.Install t j token) is may follows rest (inr h) never = dite (ℕ_discrete t s)
    (λ same. since_on e J s k (rest h (λ up. none_some k (sym (subst (λ u. standing_by proxy_grant J u ≡ None) same follows) ∙ up))))
    (λ other. since_on e J s k (rest h (λ up. never (subst (λ (b : Bool). (if b then Some j else standing_by proxy_grant J s) ≡ Some k) (sym (ne_eqb t s other)) up))))
revoked_step C seed p e J s k (event.Revoke t j) is may follows rest (inl never) not_up = absurd never
revoked_step C seed p e J s k (event.Revoke t j) is may follows rest (inr h) never = dite (ℕ_discrete t s)
    (λ same.
    let there : standing_by proxy_grant J s ≡ Some j = subst (λ u. standing_by proxy_grant J u ≡ Some j) same (just_is j (standing_by proxy_grant J t) may) in
    dite (ℕ_discrete j k)
    (λ it. let h : Split J s k = stood J s k (there ∙ ap Some it) in
    record { above = []; mid = h.mid; below = h.below; revoker = e.worker; installer = h.installer; token = h.token; is = ap (λ (v : ProxyEvent). record { worker = e.worker; event = v } ∷ J) (is ∙ (ap (λ (u : ℕ). event.Revoke u j) same ∙ ap (λ (i : ℕ). event.Revoke s i) it)) ∙ ap (λ (l : List (Entry ProxyEvent)). record { worker = e.worker; event = event.Revoke s k } ∷ l) h.is })
    (λ other. since_on e J s k (rest h (λ up. other (some_eq j k (sym there ∙ up))))))
    (λ other. since_on e J s k (rest h (λ up. never (subst (λ (b : Bool). (if b then None else standing_by proxy_grant J s) ≡ Some k) (sym (ne_eqb t s other)) up))))
revoked_step C seed p e J s k (event.Open t j shown) is may follows rest (inl never) not_up = absurd never
revoked_step C seed p e J s k (event.Open t j shown) is may follows rest (inr h) never = since_on e J s k (rest h never)
revoked_step C seed p e J s k (event.Call call mark) is may follows rest (inl never) not_up = absurd never
revoked_step C seed p e J s k (event.Call call mark) is may follows rest (inr h) never = since_on e J s k (rest h never)

revoked : (C : Config) (seed : List ℕ) (p : ℕ) (J : List (Entry ProxyEvent)) (s k : ℕ) → ProxyLaw C seed p J → AllFollow C p J → WasInstalled J s k → (standing_by proxy_grant J s ≡ Some k → ⊥) → RevokedSince J s k
revoked C seed p [] s k law follows h never = absurd h
revoked C seed p (e ∷ J) s k law follows h never = revoked_step C seed p e J s k e.event refl law.1 follows.1 (revoked C seed p J s k law.0 follows.0) h never

-- what was installed is at most the last
last_step : (J : List (Entry ProxyEvent)) (s k : ℕ) (v : ProxyEvent) → (WasInstalled J s k → k ≤ last_by proxy_grant J s) → Installs s k v ⊎ WasInstalled J s k → k ≤ last_after (proxy_grant v) s (last_by proxy_grant J s)
last_step J s k (event.Install t j token) rest (inl same) = let a = same.1 in rw (eq-eqb t s same.0) (omega (arith, a))
last_step J s k (event.Install t j token) rest (inr h) = let i = rest h in dite (ℕ_discrete t s) (λ same. rw (eq-eqb t s same) (omega (arith, i))) (λ other. rw (ne_eqb t s other) i)
last_step J s k (event.Revoke t j) rest (inl never) = absurd never
last_step J s k (event.Revoke t j) rest (inr h) = rest h
last_step J s k (event.Open t j shown) rest (inl never) = absurd never
last_step J s k (event.Open t j shown) rest (inr h) = rest h
last_step J s k (event.Call call mark) rest (inl never) = absurd never
last_step J s k (event.Call call mark) rest (inr h) = rest h

installed_last : (J : List (Entry ProxyEvent)) (s k : ℕ) → WasInstalled J s k → k ≤ last_by proxy_grant J s
installed_last [] s k h = absurd h
installed_last (e ∷ J) s k h = last_step J s k e.event (installed_last J s k) h

installed-on : (later J : List (Entry ProxyEvent)) (s k : ℕ) → WasInstalled J s k → WasInstalled (later ++ J) s k
installed-on [] J s k h = h
installed-on (e ∷ later) J s k h = inr (installed-on later J s k h)

-- an incarnation that was installed at all was installed below each later one
below_step : (C : Config) (seed : List ℕ) (p : ℕ) (later J : List (Entry ProxyEvent)) (s j k : ℕ) (v : ProxyEvent) → MayEnterProxy C seed p (later ++ J) v → WasInstalled J s k → j < k → (WasInstalled (later ++ J) s j → WasInstalled J s j)
    → Installs s j v ⊎ WasInstalled (later ++ J) s j → WasInstalled J s j
below_step C seed p later J s j k (event.Install t m token) may h less rest (inl same) =
    let l = installed_last (later ++ J) s k (installed-on later J s k h) in
    let u = subst (λ x. last_by proxy_grant (later ++ J) x < m) same.0 may.0 in
    let n = same.1 in absurd (omega (arith, l, u, n, less))
below_step C seed p later J s j k (event.Install t m token) may h less rest (inr r) = rest r
below_step C seed p later J s j k (event.Revoke t m) may h less rest (inl never) = absurd never
below_step C seed p later J s j k (event.Revoke t m) may h less rest (inr r) = rest r
below_step C seed p later J s j k (event.Open t m shown) may h less rest (inl never) = absurd never
below_step C seed p later J s j k (event.Open t m shown) may h less rest (inr r) = rest r
below_step C seed p later J s j k (event.Call call mark) may h less rest (inl never) = absurd never
below_step C seed p later J s j k (event.Call call mark) may h less rest (inr r) = rest r

below_later : (C : Config) (seed : List ℕ) (p : ℕ) (later J : List (Entry ProxyEvent)) (s j k : ℕ) → ProxyLaw C seed p (later ++ J) → WasInstalled J s k → j < k → WasInstalled (later ++ J) s j → WasInstalled J s j
below_later C seed p [] J s j k law h less i = i
below_later C seed p (e ∷ later) J s j k law h less i = below_step C seed p later J s j k e.event law.1 h less (below_later C seed p later J s j k law.0 h less) i

-- a token that was installed was issued to somebody
pub data IsIssued (o : Option ℕ) : Type 0 where
  To : (i : ℕ) → o ≡ Some i → IsIssued o

same_itself : (t : Token) → same_token t t ≡ true
same_itself t = nat_list_eq_equiv.refl t.bytes

chosen : (b : Bool) (j : ℕ) (o : Option ℕ) → IsIssued o → IsIssued (if b then Some j else o)
chosen true j o h = To j refl
chosen false j o h = h

issued_step : (C : Config) (seed : List ℕ) (p : ℕ) (J : List (Entry ProxyEvent)) (s k : ℕ) (v : ProxyEvent) → MayEnterProxy C seed p J v → (WasInstalled J s k → IsIssued (issued J s (token_of seed s k p)))
    → Installs s k v ⊎ WasInstalled J s k → IsIssued (issued_after v s (token_of seed s k p) (issued J s (token_of seed s k p)))
issued_step C seed p J s k (event.Install t j token) may rest (inl same) =
    let shown : token ≡ token_of seed s k p = may.1 ∙ (ap (λ (u : ℕ). token_of seed u j p) same.0 ∙ ap (λ (i : ℕ). token_of seed s i p) same.1) in
    rw (eq-eqb t s same.0, shown, same_itself (token_of seed s k p)) (To j refl)
issued_step C seed p J s k (event.Install t j token) may rest (inr h) = chosen ((t == s) && same_token token (token_of seed s k p)) j (issued J s (token_of seed s k p)) (rest h)
issued_step C seed p J s k (event.Revoke t j) may rest (inl never) = absurd never
issued_step C seed p J s k (event.Revoke t j) may rest (inr h) = rest h
issued_step C seed p J s k (event.Open t j shown) may rest (inl never) = absurd never
issued_step C seed p J s k (event.Open t j shown) may rest (inr h) = rest h
issued_step C seed p J s k (event.Call call mark) may rest (inl never) = absurd never
issued_step C seed p J s k (event.Call call mark) may rest (inr h) = rest h

is_issued : (C : Config) (seed : List ℕ) (p : ℕ) (J : List (Entry ProxyEvent)) (s k : ℕ) → ProxyLaw C seed p J → WasInstalled J s k → IsIssued (issued J s (token_of seed s k p))
is_issued C seed p [] s k law h = absurd h
is_issued C seed p (e ∷ J) s k law h = issued_step C seed p J s k e.event law.1 (is_issued C seed p J s k law.0) h

-- the verdict on an issued token
pub opens_known : (b c : Bool) (n : ℕ) → open_answer (if not b then Some rule.StaleToken else (if not c then Some rule.TooManySessions else None)) n ≡ Denied rule.UnknownToken → ⊥
opens_known true true n h = let never : ⊥ = cc in never
opens_known true false n h = let never : ⊥ = cc in never
opens_known false c n h = let never : ⊥ = cc in never

pub opens_live : (c : Bool) (n : ℕ) → open_answer (if not c then Some rule.TooManySessions else None) n ≡ Denied rule.StaleToken → ⊥
opens_live true n h = let never : ⊥ = cc in never
opens_live false n h = let never : ⊥ = cc in never

issued_known : (o : Option ℕ) (k n : ℕ) (live : Bool) → IsIssued o → open_answer (open_denial o k live n) n ≡ Denied rule.UnknownToken → ⊥
issued_known o k n live (To i is) h = opens_known ((i == k) && live) (nat_lt n MOST_SESSIONS) n (subst (λ (x : Option ℕ). open_answer (open_denial x k live n) n ≡ Denied rule.UnknownToken) is h)

live_not_stale : (o up : Option ℕ) (k n : ℕ) → o ≡ Some k → up ≡ Some k → open_answer (open_denial o k (is_just k up) n) n ≡ Denied rule.StaleToken → ⊥
live_not_stale o up k n issued_is up_is h = opens_live (nat_lt n MOST_SESSIONS) n
    (subst (λ (b : Bool). open_answer (if not (b && b) then Some rule.StaleToken else (if not (nat_lt n MOST_SESSIONS) then Some rule.TooManySessions else None)) n ≡ Denied rule.StaleToken) (eq-eqb k k refl)
    (subst (λ (u : Option ℕ). open_answer (open_denial (Some k) k (is_just k u) n) n ≡ Denied rule.StaleToken) up_is (subst (λ (x : Option ℕ). open_answer (open_denial x k (is_just k up) n) n ≡ Denied rule.StaleToken) issued_is h)))

-- what stands is what was installed last
standing_step : (C : Config) (seed : List ℕ) (p : ℕ) (J : List (Entry ProxyEvent)) (s j : ℕ) (v : ProxyEvent) → MayEnterProxy C seed p J v → (standing_by proxy_grant J s ≡ Some j → last_by proxy_grant J s ≡ j)
    → standing_after (proxy_grant v) s (standing_by proxy_grant J s) ≡ Some j → last_after (proxy_grant v) s (last_by proxy_grant J s) ≡ j
standing_step C seed p J s j (event.Install t m token) may rest up = dite (ℕ_discrete t s)
    (λ same. let q = eq-eqb t s same in
    let n = some_eq m j (subst (λ (b : Bool). (if b then Some m else standing_by proxy_grant J s) ≡ Some j) q up) in
    let u = subst (λ x. last_by proxy_grant J x < m) same may.0 in rw q (omega (arith, n, u)))
    (λ other. let q = ne_eqb t s other in rw q (rest (subst (λ (b : Bool). (if b then Some m else standing_by proxy_grant J s) ≡ Some j) q up)))
standing_step C seed p J s j (event.Revoke t m) may rest up = dite (ℕ_discrete t s)
    (λ same. absurd (none_some j (subst (λ (b : Bool). (if b then None else standing_by proxy_grant J s) ≡ Some j) (eq-eqb t s same) up)))
    (λ other. rest (subst (λ (b : Bool). (if b then None else standing_by proxy_grant J s) ≡ Some j) (ne_eqb t s other) up))
standing_step C seed p J s j (event.Open t m shown) may rest up = rest up
standing_step C seed p J s j (event.Call call mark) may rest up = rest up

standing_last : (C : Config) (seed : List ℕ) (p : ℕ) (J : List (Entry ProxyEvent)) (s j : ℕ) → ProxyLaw C seed p J → standing_by proxy_grant J s ≡ Some j → last_by proxy_grant J s ≡ j
standing_last C seed p [] s j law h = absurd (none_some j h)
standing_last C seed p (e ∷ J) s j law h = standing_step C seed p J s j e.event law.1 (standing_last C seed p J s j law.0) h

pub token_is_known : (C : Config) (seed : List ℕ) (p : ℕ) (J : List (Entry ProxyEvent)) (s k j : ℕ) → ProxyLaw C seed p J → AllFollow C p J → WasInstalled J s k → WasInstalled J s j → j ≤ k → TokenIsKnown seed p J s k j
token_is_known C seed p J s k j law follows ik ij le = record {
  known = issued_known (issued J s (token_of seed s j p)) k (opened J s k) (live_at_proxy J s k) (is_issued C seed p J s j law ij);
  stale = λ stale. revoked C seed p J s j law follows ij (λ up. dite (ℕ_discrete j k)
      (λ same. let up_k : standing_by proxy_grant J s ≡ Some k = up ∙ ap Some same in
      live_not_stale (issued J s (token_of seed s j p)) (standing_by proxy_grant J s) k (opened J s k) (subst (λ i. issued J s (token_of seed s i p) ≡ Some k) (sym same) (issued_live C seed p s k J law up_k)) up_k stale)
      (λ other. let l = standing_last C seed p J s j law up in let m = installed_last J s k ik in absurd (omega (arith, le, other, l, m))));
}

law_drop : (C : Config) (seed : List ℕ) (p : ℕ) (later J : List (Entry ProxyEvent)) → ProxyLaw C seed p (later ++ J) → ProxyLaw C seed p J
law_drop C seed p [] J law = law
law_drop C seed p (e ∷ later) J law = law_drop C seed p later J law.0

follow_drop : (C : Config) (p : ℕ) (later J : List (Entry ProxyEvent)) → AllFollow C p (later ++ J) → AllFollow C p J
follow_drop C p [] J law = law
follow_drop C p (e ∷ later) J law = follow_drop C p later J law.0

below_open : (J : List (Entry ProxyEvent)) (w s k j : ℕ) (t : Token) → WasInstalled (record { worker = w; event = event.Open s k t } ∷ J) s j → WasInstalled J s j
below_open J w s k j t (inl never) = absurd never
below_open J w s k j t (inr r) = r

pub tokens_are_known : TokensAreKnown
tokens_are_known C seed p s k j w later J all is law follows grants ij le =
    let e : Entry ProxyEvent = record { worker = w; event = event.Open s k (token_of seed s j p) } in
    let law' : ProxyLaw C seed p (later ++ e ∷ J) = subst (ProxyLaw C seed p) is law in
    let here : ProxyLaw C seed p (e ∷ J) = law_drop C seed p later (e ∷ J) law' in
    let there : AllFollow C p (e ∷ J) = follow_drop C p later (e ∷ J) (subst (AllFollow C p) is follows) in
    let ik : WasInstalled J s k = there.1 grants in
    let below : WasInstalled J s j = dite (ℕ_discrete j k)
    (λ same. subst (λ i. WasInstalled J s i) (sym same) ik)
    (λ other. below_open J w s k j (token_of seed s j p) (below_later C seed p later (e ∷ J) s j k law' (inr ik) (omega (arith, le, other)) (subst (λ l. WasInstalled l s j) is ij))) in
    token_is_known C seed p J s k j here.0 there.0 ik below le

-- a Call is Stale only where its incarnation isn't live
query_not_stale : (q : Option Query) (args : List Value) → query_denial q args ≡ Some rule.StaleToken → ⊥
query_not_stale None args h = let never : ⊥ = cc in never
query_not_stale (Some query) args h = by (fits query.statement.parameters args) h where
  by : (b : Bool) → (if b then None else Some rule.BadArguments) ≡ Some rule.StaleToken → ⊥
  by true h = let never : ⊥ = cc in never
  by false h = let never : ⊥ = cc in never

call_not_live : (b live : Bool) (q : Option Query) (args : List Value) → (if not b then Some rule.NoSession else (if not live then Some rule.StaleToken else query_denial q args)) ≡ Some rule.StaleToken → live ≡ true → ⊥
call_not_live true live q args h is = query_not_stale q args (subst (λ (l : Bool). (if not l then Some rule.StaleToken else query_denial q args) ≡ Some rule.StaleToken) is h)
call_not_live false live q args h is = let never : ⊥ = cc in never

up_live : (k : ℕ) (o : Option ℕ) → o ≡ Some k → is_just k o ≡ true
up_live k o is = subst (λ (x : Option ℕ). is_just k x ≡ true) (sym is) (eq-eqb k k refl)

pub stale_calls_were_revoked : StaleCallsWereRevoked
stale_calls_were_revoked C seed p w call mark later J all is law follows grants stale =
    let e : Entry ProxyEvent = record { worker = w; event = event.Call call mark } in
    let here : ProxyLaw C seed p (e ∷ J) = law_drop C seed p later (e ∷ J) (subst (ProxyLaw C seed p) is law) in
    let there : AllFollow C p (e ∷ J) = follow_drop C p later (e ∷ J) (subst (AllFollow C p) is follows) in
    revoked C seed p J call.service call.incarnation here.0 there.0 (there.1 grants)
    (λ up. call_not_live (nat_lt call.session (opened J call.service call.incarnation)) (live_at_proxy J call.service call.incarnation) (granted (in_force C J) p call.service call.query) call.args stale (up_live call.incarnation (standing_by proxy_grant J call.service) up))
