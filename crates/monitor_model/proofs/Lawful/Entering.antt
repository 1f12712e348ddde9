-- The entry that a frame makes which was said.
use Rattle.std.proofs.Common.{◌≡◌, ◌⊎◌, inl, inr, ℕ, suc, ◌<◌, ◌≤◌, Bool, true, false, ◌&&◌, cond, List, [], ◌∷◌, Some, None, refl, ap, sym, ◌∙◌, arith, length, ◌==◌, ne_eqb, eqb-true, get_or-set_same, subst, ltb-false}
use Rattle.std.specs.Prelude.{IsFalse}
use Rattle.std.specs.List.{cons_option}
use Rattle.std.proofs.lemmas.Bool.{eqb-false}
use Rattle.okws_base.specs.declared.journal.Entry.{Entry}
use Rattle.okws_plan.specs.declared.configuration.Config.{Config}
use Rattle.okws_base.specs.declared.value.Token.{Token}
use Rattle.okws_base.specs.declared.value.Value.{Value}
use Rattle.okws_plan.specs.declared.script.Place.{Place}
use Rattle.okws_plan.specs.declared.script.Place.TheVariants.{Proxy, Pubd, Oklogd}
use Rattle.okws_plan.specs.declared.event.LogEvent.{LogEvent}
use Rattle.okws_plan.specs.declared.event.LogEvent.TheVariants as oklogd
use Rattle.okws_plan.specs.declared.event.ProxyEvent.{ProxyEvent}
use Rattle.okws_plan.specs.declared.event.ProxyEvent.TheVariants as proxy
use Rattle.okws_plan.specs.declared.event.PubdEvent.{PubdEvent}
use Rattle.okws_plan.specs.declared.event.PubdEvent.TheVariants as pubd
use Rattle.frame_codec.specs.declared.frame.ServiceFrame.{ServiceFrame}
use Rattle.frame_codec.specs.declared.frame.ServiceFrame.TheVariants as said
use Rattle.frame_codec.specs.declared.frame.ServerFrame.{ServerFrame}
use Rattle.frame_codec.specs.declared.frame.ServerFrame.TheVariants as frame
use Rattle.monitor_model.specs.declared.record.Own.{Own}
use Rattle.monitor_model.specs.declared.record.Own.TheVariants as own
use Rattle.monitor_model.specs.declared.verdict.Got.{Got}
use Rattle.monitor_model.specs.declared.verdict.Got.TheVariants as got
use Rattle.monitor_model.specs.declared.verdict.Noted.{Noted}
use Rattle.monitor_model.specs.declared.verdict.Noted.TheVariants as noted
use Rattle.monitor_model.specs.declared.verdict.Verdict.{Verdict}
use Rattle.monitor_model.specs.declared.verdict.Verdict.TheVariants as verdict
use Rattle.monitor_model.specs.Course.{Answers, Speaker, called, got_frame, is_declared, noted_frame, verdict_frame}
use Rattle.monitor_model.specs.Entered.{Exchange, exchanges_at, is_for, log_exchange, proxy_exchange, pubd_exchange, tells_entry}
use Rattle.okws_plan.specs.Lines.{PlaceFits}
use Rattle.monitor_model.specs.Logd.{log_verdict}
use Rattle.monitor_model.specs.Played.{record_of}
use Rattle.monitor_model.specs.Proxy.{call_verdict, open_verdict}
use Rattle.monitor_model.specs.Pubd.{get_verdict}
use Rattle.monitor_model.specs.Seen.{Seen, proxy_past, AtProxy, AtPubd, AtLog}
use Rattle.monitor_model.specs.Stage.{Stage, with_seen}
use Rattle.monitor_model.specs.Script.{IsNext, entry, at_log, at_proxy, at_pubd}
use Rattle.monitor_model.proofs.Lawful.Plain.{is_true_below}
use Rattle.monitor_model.proofs.Lawful.Dialogs.{next_proxy, next_pubd, next_log}
use Rattle.monitor_model.proofs.Lawful.Keeping.{past_now}

-- an answer that isn't NoMemory tells of an entry
verdict_tells : (v : Verdict) → tells_entry (verdict_frame v) ≡ true
verdict_tells (verdict.Opened n) = refl
verdict_tells (verdict.Rows columns T) = refl
verdict_tells (verdict.Changed n) = refl
verdict_tells verdict.Duplicate = refl
verdict_tells (verdict.Denied broken) = refl
verdict_tells verdict.Failed = refl

got_tells : (g : Got) → tells_entry (got_frame g) ≡ true
got_tells (got.Template edition content) = refl
got_tells (got.Denied broken) = refl

noted_tells : (n : Noted) → tells_entry (noted_frame n) ≡ true
noted_tells noted.Logged = refl
noted_tells (noted.Denied broken) = refl

-- an entry at a column, where a frame asked for it
cons_when : (b : Bool) (x : Exchange) (xs : List Exchange) → cons_option (cond b (Some x) None) xs ≡ cond b (x ∷ xs) xs
cons_when true x xs = refl
cons_when false x xs = refl

passed_when : (b here : Bool) (x : Exchange) (xs : List Exchange) → here ≡ false → xs ≡ cond b (cond here (x ∷ xs) xs) xs
passed_when true here x xs none = rw none refl
passed_when false here x xs none = refl

taken_when : (b here : Bool) (x : Exchange) (xs : List Exchange) → here ≡ true → cons_option (cond b (Some x) None) xs ≡ cond b (cond here (x ∷ xs) xs) xs
taken_when b here x xs is = rw is (cons_when b x xs)

-- What the exchanges of an incarnation are after a frame was answered.
abbrev pub ExchangesAfter : Config → Stage → Seen → ℕ → ℕ → Place → Bool → Bool → Exchange → Type 0
ExchangesAfter C S now s k at own_entry here x =
    exchanges_at C at s k (record_of (with_seen S now))
    ≡ cond own_entry (cond here (x ∷ exchanges_at C at s k (record_of S)) (exchanges_at C at s k (record_of S))) (exchanges_at C at s k (record_of S))

no_entry : (C : Config) (S : Stage) (now : Seen) (s k : ℕ) (at : Place) (own_entry here : Bool) (x : Exchange) → now ≡ S.seen → here ≡ false → ExchangesAfter C S now s k at own_entry here x
no_entry C S now s k at own_entry here x same none = rw same (passed_when own_entry here x (exchanges_at C at s k (record_of S)) none)

proxy_here : (C : Config) (S : Stage) (p : ℕ) (e : ProxyEvent) (s k : ℕ) (own_entry tells : Bool) (x : Exchange) → p < length S.seen.proxies
    → proxy_exchange C p s k (proxy_past S.seen.proxies p) e ≡ cond own_entry (Some x) None → tells ≡ true → ExchangesAfter C S (at_proxy p e S.seen) s k (Proxy p) own_entry (true && tells) x
proxy_here C S p e s k own_entry tells x declared asks is =
    rw (get_or-set_same S.seen.proxies p (entry e ∷ proxy_past S.seen.proxies p) [] declared, asks)
    (taken_when own_entry tells x (exchanges_at C (Proxy p) s k (record_of S)) is)

proxy_when : (C : Config) (S : Stage) (p q : ℕ) (e : ProxyEvent) (s k : ℕ) (own_entry tells : Bool) (x : Exchange) → p < length S.seen.proxies
    → proxy_exchange C p s k (proxy_past S.seen.proxies p) e ≡ cond own_entry (Some x) None → tells ≡ true
    → (b : Bool) → (p == q) ≡ b → ExchangesAfter C S (at_proxy p e S.seen) s k (Proxy q) own_entry (b && tells) x
proxy_when C S p q e s k own_entry tells x declared asks is true same =
    subst (λ (r : ℕ). ExchangesAfter C S (at_proxy p e S.seen) s k (Proxy r) own_entry (true && tells) x) (eqb-true p q same) (proxy_here C S p e s k own_entry tells x declared asks is)
proxy_when C S p q e s k own_entry tells x declared asks is false same =
    rw (past_now S.seen.proxies p (entry e ∷ proxy_past S.seen.proxies p) q (eqb-false p q same)) (passed_when own_entry false x (exchanges_at C (Proxy q) s k (record_of S)) refl)

-- a frame that was said is answered
longer : {A : Type 0} (x : A) (xs : List A) → xs ≡ x ∷ xs → ⊥
longer x xs same = let counts : length xs ≡ suc (length xs) = ap length same in omega arith

entry_made : (J now made : Seen) (x : Own) → now.own ≡ x ∷ J.own → (now ≡ J) ⊎ (now ≡ made) → now ≡ made
entry_made J now made x owns (inl same) = absurd (longer x J.own (sym (ap (λ (K : Seen). K.own) same) ∙ owns))
entry_made J now made x owns (inr is) = is

other_tails : {A : Type 0} (x y : A) (xs ys : List A) → x ∷ xs ≡ y ∷ ys → xs ≡ ys
other_tails x y xs ys same = cc

other_proxy : (C : Config) (p q : ℕ) (tells : Bool) → IsFalse (is_declared C p) → q < length C.proxies → ((p == q) && tells) ≡ false
other_proxy C p q tells unknown declared =
    let past : length C.proxies ≤ p = ltb-false p (length C.proxies) unknown in
    rw (ne_eqb p q (λ same. omega arith)) refl

wanting_tells : (here : Bool) (heard : ServerFrame) → heard ≡ frame.NoMemory → (here && tells_entry heard) ≡ false
wanting_tells true heard is = rw is refl
wanting_tells false heard is = refl

-- a proxy's entry was made
proxy_made : (C : Config) (S : Stage) (now : Seen) (p : ℕ) (e : ProxyEvent) (s k : ℕ) (own_entry tells : Bool) (x : Exchange) → p < length S.seen.proxies
    → proxy_exchange C p s k (proxy_past S.seen.proxies p) e ≡ cond own_entry (Some x) None → tells ≡ true
    → now ≡ at_proxy p e S.seen → (q : ℕ) → ExchangesAfter C S now s k (Proxy q) own_entry ((p == q) && tells) x
proxy_made C S now p e s k own_entry tells x declared asks is same q = rw same (proxy_when C S p q e s k own_entry tells x declared asks is (p == q) refl)

-- The entry is one that (s, k) made.
abbrev pub is_own : Speaker → ℕ → ℕ → Bool
is_own w s k = (w.service == s) && (w.incarnation == k)

-- what an entry at proxy p is made of: that entry, and nobody else's before it
proxy_before : (S : Stage) (now : Seen) (w p : ℕ) (event : ProxyEvent) (before : List (Entry ProxyEvent)) → p < length S.seen.proxies → AtProxy w p event S.seen before now → now ≡ at_proxy p event S.seen
    → before ≡ proxy_past S.seen.proxies p
proxy_before S now w p event before declared made is =
    let one : proxy_past now.proxies p ≡ record { worker = w; event = event } ∷ before
    = ap (λ (K : Seen). proxy_past K.proxies p) made.1 ∙ get_or-set_same S.seen.proxies p (record { worker = w; event = event } ∷ before) [] declared in
    let other : proxy_past now.proxies p ≡ entry event ∷ proxy_past S.seen.proxies p
    = ap (λ (K : Seen). proxy_past K.proxies p) is ∙ get_or-set_same S.seen.proxies p (entry event ∷ proxy_past S.seen.proxies p) [] declared in
    other_tails (record { worker = w; event = event }) (entry event) before (proxy_past S.seen.proxies p) (sym one ∙ other)

at_proxy_made : (S : Stage) (now : Seen) (w p : ℕ) (event : ProxyEvent) (before : List (Entry ProxyEvent)) → AtProxy w p event S.seen before now → IsNext S.seen now → now ≡ at_proxy p event S.seen
at_proxy_made S now w p event before made next =
    let owns : now.own ≡ own.Proxy p event ∷ S.seen.own = ap (λ (K : Seen). K.own) made.1 in
    entry_made S.seen now (at_proxy p event S.seen) (own.Proxy p event) owns (next_proxy S.seen now p event owns next)

open_frames : (C : Config) (w : Speaker) (p : ℕ) (shown : Token) (S : Stage) (heard : ServerFrame) (now : Seen) → length S.seen.proxies ≡ length C.proxies
    → Answers C w (said.Open p shown) S.seen heard now → IsNext S.seen now → (s k : ℕ) (at : Place) → PlaceFits C at
    → ExchangesAfter C S now s k at (is_own w s k) (is_for at (said.Open p shown) && tells_entry heard) (record { said = said.Open p shown; heard = heard })
open_frames C w p shown S heard now many (inl unknown) next s k (Proxy q) fits =
    no_entry C S now s k (Proxy q) (is_own w s k) ((p == q) && tells_entry heard) (record { said = said.Open p shown; heard = heard }) unknown.2 (other_proxy C p q (tells_entry heard) unknown.0 fits)
open_frames C w p shown S heard now many (inl unknown) next s k Pubd fits = no_entry C S now s k Pubd (is_own w s k) false (record { said = said.Open p shown; heard = heard }) unknown.2 refl
open_frames C w p shown S heard now many (inl unknown) next s k Oklogd fits = no_entry C S now s k Oklogd (is_own w s k) false (record { said = said.Open p shown; heard = heard }) unknown.2 refl
open_frames C w p shown S heard now many (inr (inl wanting)) next s k at fits =
    no_entry C S now s k at (is_own w s k) (is_for at (said.Open p shown) && tells_entry heard) (record { said = said.Open p shown; heard = heard }) wanting.2
    (wanting_tells (is_for at (said.Open p shown)) heard wanting.1)
open_frames C w p shown S heard now many (inr (inr made)) next s k (Proxy q) fits =
    let event : ProxyEvent = proxy.Open w.service w.incarnation shown in
    let declared : p < length S.seen.proxies = rw many (is_true_below p (length C.proxies) made.0) in
    let is : now ≡ at_proxy p event S.seen = at_proxy_made S now w.worker p event made.1 made.3 next in
    let answer : heard ≡ verdict_frame (open_verdict (proxy_past S.seen.proxies p) w.service w.incarnation shown)
    = made.2 ∙ ap (λ (J : List (Entry ProxyEvent)). verdict_frame (open_verdict J w.service w.incarnation shown)) (proxy_before S now w.worker p event made.1 declared made.3 is) in
    proxy_made C S now p event s k (is_own w s k) (tells_entry heard) (record { said = said.Open p shown; heard = heard }) declared (rw answer refl)
    (ap tells_entry made.2 ∙ verdict_tells (open_verdict made.1 w.service w.incarnation shown)) is q
open_frames C w p shown S heard now many (inr (inr made)) next s k Pubd fits =
    rw (at_proxy_made S now w.worker p (proxy.Open w.service w.incarnation shown) made.1 made.3 next)
    (passed_when (is_own w s k) false (record { said = said.Open p shown; heard = heard }) (exchanges_at C Pubd s k (record_of S)) refl)
open_frames C w p shown S heard now many (inr (inr made)) next s k Oklogd fits =
    rw (at_proxy_made S now w.worker p (proxy.Open w.service w.incarnation shown) made.1 made.3 next)
    (passed_when (is_own w s k) false (record { said = said.Open p shown; heard = heard }) (exchanges_at C Oklogd s k (record_of S)) refl)

call_frames : (C : Config) (w : Speaker) (p n x : ℕ) (args : List Value) (S : Stage) (heard : ServerFrame) (now : Seen) → length S.seen.proxies ≡ length C.proxies
    → Answers C w (said.Call p n x args) S.seen heard now → IsNext S.seen now → (s k : ℕ) (at : Place) → PlaceFits C at
    → ExchangesAfter C S now s k at (is_own w s k) (is_for at (said.Call p n x args) && tells_entry heard) (record { said = said.Call p n x args; heard = heard })
call_frames C w p n x args S heard now many (inl unknown) next s k (Proxy q) fits =
    no_entry C S now s k (Proxy q) (is_own w s k) ((p == q) && tells_entry heard) (record { said = said.Call p n x args; heard = heard }) unknown.2 (other_proxy C p q (tells_entry heard) unknown.0 fits)
call_frames C w p n x args S heard now many (inl unknown) next s k Pubd fits = no_entry C S now s k Pubd (is_own w s k) false (record { said = said.Call p n x args; heard = heard }) unknown.2 refl
call_frames C w p n x args S heard now many (inl unknown) next s k Oklogd fits = no_entry C S now s k Oklogd (is_own w s k) false (record { said = said.Call p n x args; heard = heard }) unknown.2 refl
call_frames C w p n x args S heard now many (inr (inl wanting)) next s k at fits =
    no_entry C S now s k at (is_own w s k) (is_for at (said.Call p n x args) && tells_entry heard) (record { said = said.Call p n x args; heard = heard }) wanting.2
    (wanting_tells (is_for at (said.Call p n x args)) heard wanting.1)
call_frames C w p n x args S heard now many (inr (inr made)) next s k (Proxy q) fits =
    let event : ProxyEvent = proxy.Call (called w n x args) made.2 in
    let declared : p < length S.seen.proxies = rw many (is_true_below p (length C.proxies) made.0) in
    let is : now ≡ at_proxy p event S.seen = at_proxy_made S now w.worker p event made.1 made.4 next in
    let answer : heard ≡ verdict_frame (call_verdict C p (proxy_past S.seen.proxies p) (called w n x args) made.2)
    = made.3 ∙ ap (λ (J : List (Entry ProxyEvent)). verdict_frame (call_verdict C p J (called w n x args) made.2)) (proxy_before S now w.worker p event made.1 declared made.4 is) in
    proxy_made C S now p event s k (is_own w s k) (tells_entry heard) (record { said = said.Call p n x args; heard = heard }) declared (rw answer refl)
    (ap tells_entry made.3 ∙ verdict_tells (call_verdict C p made.1 (called w n x args) made.2)) is q
call_frames C w p n x args S heard now many (inr (inr made)) next s k Pubd fits =
    rw (at_proxy_made S now w.worker p (proxy.Call (called w n x args) made.2) made.1 made.4 next)
    (passed_when (is_own w s k) false (record { said = said.Call p n x args; heard = heard }) (exchanges_at C Pubd s k (record_of S)) refl)
call_frames C w p n x args S heard now many (inr (inr made)) next s k Oklogd fits =
    rw (at_proxy_made S now w.worker p (proxy.Call (called w n x args) made.2) made.1 made.4 next)
    (passed_when (is_own w s k) false (record { said = said.Call p n x args; heard = heard }) (exchanges_at C Oklogd s k (record_of S)) refl)

-- an entry at pubd, and at oklogd
get_made : (w : Speaker) (name : List ℕ) (S : Stage) (now : Seen) (before : List (Entry PubdEvent)) → AtPubd w.worker (pubd.Get w.service w.incarnation name) S.seen before now → IsNext S.seen now
    → now ≡ at_pubd (pubd.Get w.service w.incarnation name) S.seen
get_made w name S now before made next =
    let event : PubdEvent = pubd.Get w.service w.incarnation name in
    let owns : now.own ≡ own.Pubd event ∷ S.seen.own = ap (λ (K : Seen). K.own) made.1 in
    entry_made S.seen now (at_pubd event S.seen) (own.Pubd event) owns (next_pubd S.seen now event owns next)

pubd_before : (S : Stage) (now : Seen) (w : ℕ) (event : PubdEvent) (before : List (Entry PubdEvent)) → AtPubd w event S.seen before now → now ≡ at_pubd event S.seen → before ≡ S.seen.pubd
pubd_before S now w event before made is =
    other_tails (record { worker = w; event = event }) (entry event) before S.seen.pubd (sym (ap (λ (K : Seen). K.pubd) made.1) ∙ ap (λ (K : Seen). K.pubd) is)

log_made : (w : Speaker) (text : List ℕ) (S : Stage) (now : Seen) (before : List (Entry LogEvent)) → AtLog w.worker (oklogd.Log w.service w.incarnation text) S.seen before now → IsNext S.seen now
    → now ≡ at_log (oklogd.Log w.service w.incarnation text) S.seen
log_made w text S now before made next =
    let event : LogEvent = oklogd.Log w.service w.incarnation text in
    let owns : now.own ≡ own.Oklogd event ∷ S.seen.own = ap (λ (K : Seen). K.own) made.1 in
    entry_made S.seen now (at_log event S.seen) (own.Oklogd event) owns (next_log S.seen now event owns next)

log_before : (S : Stage) (now : Seen) (w : ℕ) (event : LogEvent) (before : List (Entry LogEvent)) → AtLog w event S.seen before now → now ≡ at_log event S.seen → before ≡ S.seen.oklogd
log_before S now w event before made is =
    other_tails (record { worker = w; event = event }) (entry event) before S.seen.oklogd (sym (ap (λ (K : Seen). K.oklogd) made.1) ∙ ap (λ (K : Seen). K.oklogd) is)

pubd_here : (C : Config) (S : Stage) (e : PubdEvent) (s k : ℕ) (own_entry tells : Bool) (x : Exchange) → pubd_exchange C s k S.seen.pubd e ≡ cond own_entry (Some x) None → tells ≡ true
    → ExchangesAfter C S (at_pubd e S.seen) s k Pubd own_entry (true && tells) x
pubd_here C S e s k own_entry tells x asks is = rw asks (taken_when own_entry tells x (exchanges_at C Pubd s k (record_of S)) is)

log_here : (C : Config) (S : Stage) (e : LogEvent) (s k : ℕ) (own_entry tells : Bool) (x : Exchange) → log_exchange C s k S.seen.oklogd e ≡ cond own_entry (Some x) None → tells ≡ true
    → ExchangesAfter C S (at_log e S.seen) s k Oklogd own_entry (true && tells) x
log_here C S e s k own_entry tells x asks is = rw asks (taken_when own_entry tells x (exchanges_at C Oklogd s k (record_of S)) is)

get_frames : (C : Config) (w : Speaker) (name : List ℕ) (S : Stage) (heard : ServerFrame) (now : Seen) → Answers C w (said.Get name) S.seen heard now → IsNext S.seen now → (s k : ℕ) (at : Place)
    → ExchangesAfter C S now s k at (is_own w s k) (is_for at (said.Get name) && tells_entry heard) (record { said = said.Get name; heard = heard })
get_frames C w name S heard now (inl wanting) next s k at =
    no_entry C S now s k at (is_own w s k) (is_for at (said.Get name) && tells_entry heard) (record { said = said.Get name; heard = heard }) wanting.1 (wanting_tells (is_for at (said.Get name)) heard wanting.0)
get_frames C w name S heard now (inr made) next s k (Proxy q) =
    rw (get_made w name S now made.0 made.2 next) (passed_when (is_own w s k) false (record { said = said.Get name; heard = heard }) (exchanges_at C (Proxy q) s k (record_of S)) refl)
get_frames C w name S heard now (inr made) next s k Pubd =
    let event : PubdEvent = pubd.Get w.service w.incarnation name in
    let is : now ≡ at_pubd event S.seen = get_made w name S now made.0 made.2 next in
    let answer : heard ≡ got_frame (get_verdict C S.seen.pubd w.service w.incarnation name)
    = made.1 ∙ ap (λ (J : List (Entry PubdEvent)). got_frame (get_verdict C J w.service w.incarnation name)) (pubd_before S now w.worker event made.0 made.2 is) in
    rw is
    (pubd_here C S event s k (is_own w s k) (tells_entry heard) (record { said = said.Get name; heard = heard }) (rw answer refl) (ap tells_entry made.1 ∙ got_tells (get_verdict C made.0 w.service w.incarnation name)))
get_frames C w name S heard now (inr made) next s k Oklogd =
    rw (get_made w name S now made.0 made.2 next) (passed_when (is_own w s k) false (record { said = said.Get name; heard = heard }) (exchanges_at C Oklogd s k (record_of S)) refl)

log_frames : (C : Config) (w : Speaker) (text : List ℕ) (S : Stage) (heard : ServerFrame) (now : Seen) → Answers C w (said.Log text) S.seen heard now → IsNext S.seen now → (s k : ℕ) (at : Place)
    → ExchangesAfter C S now s k at (is_own w s k) (is_for at (said.Log text) && tells_entry heard) (record { said = said.Log text; heard = heard })
log_frames C w text S heard now (inl wanting) next s k at =
    no_entry C S now s k at (is_own w s k) (is_for at (said.Log text) && tells_entry heard) (record { said = said.Log text; heard = heard }) wanting.1 (wanting_tells (is_for at (said.Log text)) heard wanting.0)
log_frames C w text S heard now (inr made) next s k (Proxy q) =
    rw (log_made w text S now made.0 made.2 next) (passed_when (is_own w s k) false (record { said = said.Log text; heard = heard }) (exchanges_at C (Proxy q) s k (record_of S)) refl)
log_frames C w text S heard now (inr made) next s k Pubd =
    rw (log_made w text S now made.0 made.2 next) (passed_when (is_own w s k) false (record { said = said.Log text; heard = heard }) (exchanges_at C Pubd s k (record_of S)) refl)
log_frames C w text S heard now (inr made) next s k Oklogd =
    let event : LogEvent = oklogd.Log w.service w.incarnation text in
    let is : now ≡ at_log event S.seen = log_made w text S now made.0 made.2 next in
    let answer : heard ≡ noted_frame (log_verdict C S.seen.oklogd w.service w.incarnation text)
    = made.1 ∙ ap (λ (J : List (Entry LogEvent)). noted_frame (log_verdict C J w.service w.incarnation text)) (log_before S now w.worker event made.0 made.2 is) in
    rw is
    (log_here C S event s k (is_own w s k) (tells_entry heard) (record { said = said.Log text; heard = heard }) (rw answer refl) (ap tells_entry made.1 ∙ noted_tells (log_verdict C made.0 w.service w.incarnation text)))

pub answered_frames : (C : Config) (w : Speaker) (frame : ServiceFrame) (S : Stage) (heard : ServerFrame) (now : Seen) → length S.seen.proxies ≡ length C.proxies
    → Answers C w frame S.seen heard now → IsNext S.seen now → (s k : ℕ) (at : Place) → PlaceFits C at
    → ExchangesAfter C S now s k at (is_own w s k) (is_for at frame && tells_entry heard) (record { said = frame; heard = heard })
answered_frames C w (said.Open p shown) S heard now many answers next s k at fits = open_frames C w p shown S heard now many answers next s k at fits
answered_frames C w (said.Call p n q args) S heard now many answers next s k at fits = call_frames C w p n q args S heard now many answers next s k at fits
answered_frames C w (said.Get name) S heard now many answers next s k at fits = get_frames C w name S heard now answers next s k at
answered_frames C w (said.Log text) S heard now many answers next s k at fits = log_frames C w text S heard now answers next s k at
answered_frames C w (said.Reply status content_type location content) S heard now many never next s k at fits = absurd never
