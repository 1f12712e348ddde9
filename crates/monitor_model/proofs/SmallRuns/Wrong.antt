-- A record in which a service heard another answer than the verdict of its entry fails by its dialogs alone.
use Rattle.std.proofs.Common.{◌≡◌, ℕ, true, false, List, [], ◌∷◌, ◌++◌, refl, sym, ap, subst, arith, inl, inr, ◌∙◌, codes}
use Rattle.std.specs.Prelude.{slice_set}
use Rattle.okws_base.specs.Past.{AllForeign}
use Rattle.okws_base.specs.declared.journal.Entry.{Entry}
use Rattle.okws_plan.specs.declared.event.Mark.TheVariants.{Done}
use Rattle.okws_plan.specs.declared.event.ProxyEvent.{ProxyEvent}
use Rattle.okws_plan.specs.declared.event.ProxyEvent.TheVariants as proxy
use Rattle.frame_codec.specs.declared.frame.ServiceFrame.TheVariants as said
use Rattle.frame_codec.specs.declared.frame.ServerFrame.TheVariants as heard
use Rattle.monitor_model.specs.declared.record.End.TheVariants as end
use Rattle.monitor_model.specs.declared.record.Item.{Item}
use Rattle.monitor_model.specs.declared.record.Item.TheVariants.{Heard, Said}
use Rattle.monitor_model.specs.Course.{Answers, Ends, IsAnswered, IsDialog, Speaker, verdict_frame}
use Rattle.monitor_model.specs.Example.{int}
use Rattle.monitor_model.specs.Lawful.{JournalsAreLawful}
use Rattle.monitor_model.specs.Legality.{FailsBy, Holds, Part}
use Rattle.monitor_model.specs.Legality as part
use Rattle.monitor_model.specs.Placed.{seen_after}
use Rattle.monitor_model.specs.Proxy.{open_verdict}
use Rattle.monitor_model.specs.Seen.{Seen, proxy_past}
use Rattle.monitor_model.specs.ShortRun.{guest_request, token_one, deletion, first_dialog, wrong_answer, one_order}
use Rattle.monitor_model.specs.SmallRuns.{one, by}
use Rattle.monitor_model.proofs.SmallRuns.Short.{begun_list, called_list, installed, opened_past, open_is_answered, run_is_made, run_is_pieced, run_is_missed, run_is_served, run_is_launched, run_is_caused, run_is_first}

-- who speaks, and what the worker has seen behind the dialog
abbrev guest : Speaker
guest = record { worker = 0; service = 0; incarnation = 1 }

abbrev afterwards : List ℕ → Seen
afterwards seed = seen_after (wrong_answer seed) 0 (called_list seed)

-- the items behind the Reply
abbrev answered_items : List ℕ → List Item
answered_items seed =
    Heard (heard.Changed 1) ∷ Said (said.Call 0 0 3 (int 1 ∷ [])) ∷ Heard (heard.Opened 7) ∷ Said (said.Open 0 (token_one seed))
    ∷ Heard (heard.Request guest_request []) ∷ Heard (heard.Push (codes "page") 1 (codes "hi")) ∷ []

-- what one row became tells what was entered
row_set : (row : List (List (Entry ProxyEvent))) (J K : List (Entry ProxyEvent)) → J ∷ [] ≡ slice_set row 0 K → K ≡ J
row_set [] J K is = let never : ⊥ = cc in absurd never
row_set (L ∷ rest) J K is = cc

-- an own entry at the top was there before others went on
grown_to : (e : Entry ProxyEvent) (J more x : List (Entry ProxyEvent)) → e.worker ≡ 0 → AllForeign 0 more → e ∷ J ≡ more ++ x → x ≡ e ∷ J
grown_to e J [] x own foreign is = sym is
grown_to e J (m ∷ more) x own foreign is = let same : m ≡ e = cc in absurd (foreign.0 (ap (λ (f : Entry ProxyEvent). f.worker) same ∙ own))

-- what a row's past is tells what was entered
past_set : (row now : List (List (Entry ProxyEvent))) (e f : Entry ProxyEvent) (J K : List (Entry ProxyEvent)) → now ≡ slice_set row 0 (f ∷ K) → proxy_past now 0 ≡ e ∷ J → K ≡ J
past_set [] now e f J K is past =
    let none : proxy_past now 0 ≡ [] = ap (λ (r : List (List (Entry ProxyEvent))). proxy_past r 0) is in
    let bad : [] ≡ e ∷ J = sym none ∙ past in
    let never : ⊥ = cc in
    absurd never
past_set (L ∷ rest) now e f J K is past =
    let some : proxy_past now 0 ≡ f ∷ K = ap (λ (r : List (List (Entry ProxyEvent))). proxy_past r 0) is in
    let same : f ∷ K ≡ e ∷ J = sym some ∙ past in
    cc

seven_is_some : ◌≡◌ {A = ℕ} 7 0 → ⊥
seven_is_some is = omega (arith, is)

not_seven : (seed : List ℕ) (before : List (Entry ProxyEvent)) → before ≡ installed seed → heard.Opened 7 ≡ verdict_frame (open_verdict before 0 1 (token_one seed)) → ⊥
not_seven seed before is told =
    let there : heard.Opened 7 ≡ verdict_frame (open_verdict (installed seed) 0 1 (token_one seed))
    = subst (λ (J : List (Entry ProxyEvent)). heard.Opened 7 ≡ verdict_frame (open_verdict J 0 1 (token_one seed))) is told in
    let same : heard.Opened 7 ≡ heard.Opened 0 = there ∙ sym (open_is_answered seed) in
    let number : ◌≡◌ {A = ℕ} 7 0 = cc in
    seven_is_some number

-- the Open, where the proxy's past is known behind it
by_open : (seed : List ℕ) (before now : Seen) → proxy_past now.proxies 0 ≡ opened_past seed → Answers one guest (said.Open 0 (token_one seed)) before (heard.Opened 7) now → ⊥
by_open seed before now past (inl h) = let bad : true ≡ false = h.0 in cc
by_open seed before now past (inr (inl h)) = let bad : heard.Opened 7 ≡ heard.NoMemory = h.1 in cc
by_open seed before now past (inr (inr h)) =
    let row : now.proxies ≡ slice_set before.proxies 0 (by 0 (proxy.Open 0 1 (token_one seed)) ∷ h.1) = ap (λ (S : Seen). S.proxies) h.3.1 in
    not_seven seed h.1 (past_set before.proxies now.proxies (by 0 (proxy.Open 0 1 (token_one seed))) (by 0 (proxy.Open 0 1 (token_one seed))) (installed seed) h.1 row past) h.2

-- the Call, which tells that past
by_call : (seed : List ℕ) (before now : Seen) → Answers one guest (said.Open 0 (token_one seed)) before (heard.Opened 7) now
    → Answers one guest (said.Call 0 0 3 (int 1 ∷ [])) now (heard.Changed 1) (afterwards seed) → ⊥
by_call seed before now first (inl h) = let bad : true ≡ false = h.0 in cc
by_call seed before now first (inr (inl h)) = let bad : heard.Changed 1 ≡ heard.NoMemory = h.1 in cc
by_call seed before now first (inr (inr h)) =
    let entered : by 0 (proxy.Call deletion h.2) ∷ h.1 ≡ by 0 (proxy.Call deletion Done) ∷ opened_past seed
    = row_set now.proxies (by 0 (proxy.Call deletion Done) ∷ opened_past seed) (by 0 (proxy.Call deletion h.2) ∷ h.1) (ap (λ (S : Seen). S.proxies) h.4.1) in
    let rest : h.1 ≡ opened_past seed = cc in
    let past : proxy_past now.proxies 0 ≡ opened_past seed
    = grown_to (by 0 (proxy.Open 0 1 (token_one seed))) (installed seed) h.4.0.0 (proxy_past now.proxies 0) refl h.4.0.1 (sym rest ∙ h.4.0.2) in
    by_open seed before now past first

by_end : (seed since left due : List ℕ) (opened : List Item) (mid : Seen) → Ends one guest since left due opened mid (first_dialog seed 7).items end.Reply (afterwards seed) → ⊥
by_end seed since left due opened mid ends =
    let whole : (first_dialog seed 7).items ≡ Said (said.Reply ends.1.0 ends.1.1 ends.1.2 ends.1.3) ∷ ends.0 = ends.1.4 in
    let rest : ends.0 ≡ answered_items seed = cc in
    let answered : IsAnswered one guest opened mid (answered_items seed) (afterwards seed)
    = subst (λ (items : List Item). IsAnswered one guest opened mid items (afterwards seed)) rest ends.2 in
    by_call seed answered.1.0 answered.0 answered.1.2 answered.2

not_answered : (seed since left due head content : List ℕ)
    → IsDialog one guest since left due head content (seen_after (wrong_answer seed) 0 begun_list) (first_dialog seed 7).items end.Reply (afterwards seed) → ⊥
not_answered seed since left due head content (inl h) = let bad : end.Reply ≡ end.Superseded h.0 = h.1 in cc
not_answered seed since left due head content (inr h) = by_end seed since left due _ h.1 h.3

wrong_answer_is_wrong : (seed : List ℕ) → JournalsAreLawful one seed one_order (wrong_answer seed) → ⊥
wrong_answer_is_wrong seed h = let fit = h.dialogs.0.1.0 in not_answered seed fit.0 fit.1 (first_dialog seed 7).due fit.2 fit.3 fit.4

wrong_answer_has : (seed : List ℕ) (other : Part) → (other ≡ part.Lawful → ⊥) → Holds other one seed one_order (wrong_answer seed)
wrong_answer_has seed part.Made differs = run_is_made seed 7
wrong_answer_has seed part.Pieced differs = run_is_pieced seed 7
wrong_answer_has seed part.Missed differs = run_is_missed seed 7
wrong_answer_has seed part.Lawful differs = absurd (differs refl)
wrong_answer_has seed part.Served differs = run_is_served seed 7
wrong_answer_has seed part.Launched differs = run_is_launched seed 7
wrong_answer_has seed part.Caused differs = run_is_caused seed 7
wrong_answer_has seed part.First differs = run_is_first seed 7

pub wrong_answer_fails : (seed : List ℕ) → FailsBy part.Lawful one seed one_order (wrong_answer seed)
wrong_answer_fails seed = record { fails = wrong_answer_is_wrong seed; others = wrong_answer_has seed }
