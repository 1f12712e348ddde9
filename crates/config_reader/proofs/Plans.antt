-- A proxy that was looked up by its name.
use Rattle.std.proofs.Common.{◌≡◌, ℕ, suc, zero, ◌<◌, List, [], ◌∷◌, length, get_or, set, Option, Some, None, Result, Ok, Err, sym, ap, ◌∙◌, arith}
use Rattle.std.specs.Prelude.{OnOk, slice_get, option_map, option_and_then, position}
use Rattle.okws_base.specs.Value.{same_bytes}
use Rattle.okws_plan.specs.declared.configuration.ProxyPlan.{ProxyPlan}
use Rattle.config_reader.specs.Above.{Above, plan_of}
use Rattle.config_reader.specs.After.{with_plan, changed_at, put_if}

pub at_place : {A : Type 0} (xs : List A) (k : ℕ) (a : A) → k < length xs → a ≡ get_or xs k a → slice_get xs k ≡ Some a
at_place [] k a lt is = absurd (omega arith)
at_place {A} (x ∷ xs) zero a lt is = ap (λ (y : A). Some y) (sym is)
at_place (x ∷ xs) (suc k) a lt is = at_place xs k a (omega arith) is

abbrev place_in : List ProxyPlan → List ℕ → Option ℕ
place_in proxies p = position (λ (x : ProxyPlan). same_bytes x.name p) proxies

-- the plan that was found at a place of the proxies is that of the name
pub plan_found : (seen above : Above) (p : List ℕ) (shown : List ProxyPlan) (k : ℕ) (plan : ProxyPlan) → seen ≡ above → shown ≡ seen.config.proxies → Some k ≡ place_in shown p → k < length shown
    → plan ≡ get_or seen.config.proxies k plan → plan_of above.config p ≡ Some plan
plan_found seen above p shown k plan same is found lt plan_is =
    let place : Some k ≡ place_in seen.config.proxies p = found ∙ ap (λ (ps : List ProxyPlan). place_in ps p) is in
    let low : k < length seen.config.proxies = rw is at lt in
    let here : plan_of seen.config p ≡ Some plan = ap (λ (o : Option ℕ). option_and_then (slice_get seen.config.proxies) o) (sym place) ∙ at_place seen.config.proxies k plan low plan_is in
    ap (λ (a : Above). plan_of a.config p) (sym same) ∙ here

-- the plan at its place, changed
pub plan_changed : (seen above : Above) (p : List ℕ) (change : ProxyPlan → ProxyPlan) (shown : List ProxyPlan) (k : ℕ) (plan now : ProxyPlan) → seen ≡ above → shown ≡ seen.config.proxies
    → Some k ≡ place_in shown p → k < length shown → plan ≡ get_or seen.config.proxies k plan → now ≡ change plan
    → record seen { config = record seen.config { proxies = set seen.config.proxies k now } } ≡ with_plan above p change
unfolding with_plan
plan_changed seen above p change shown k plan now same is found lt plan_is changed =
    let place : Some k ≡ place_in seen.config.proxies p = found ∙ ap (λ (ps : List ProxyPlan). place_in ps p) is in
    let low : k < length seen.config.proxies = rw is at lt in
    let one : changed_at (place_in seen.config.proxies p) change seen.config.proxies ≡ set seen.config.proxies k now =
    ap (λ (o : Option ℕ). changed_at o change seen.config.proxies) (sym place)
    ∙ ap (λ (o : Option ProxyPlan). put_if seen.config.proxies k (option_map change o)) (at_place seen.config.proxies k plan low plan_is)
    ∙ ap (λ (x : ProxyPlan). set seen.config.proxies k x) (sym changed) in
    ap (λ (ps : List ProxyPlan). record seen { config = record seen.config { proxies = ps } }) (sym one) ∙ ap (λ (a : Above). with_plan a p change) same

-- a proxy that isn't declared can't be changed
pub none_changed : (seen above : Above) (p : List ℕ) (change : ProxyPlan → ProxyPlan) (shown : List ProxyPlan) → seen ≡ above → shown ≡ seen.config.proxies → None ≡ place_in shown p → above ≡ with_plan above p change
unfolding with_plan
none_changed seen above p change shown same is none =
    let place : None ≡ place_in seen.config.proxies p = none ∙ ap (λ (ps : List ProxyPlan). place_in ps p) is in
    let stays : seen ≡ with_plan seen p change = ap (λ (o : Option ℕ). record seen { config = record seen.config { proxies = changed_at o change seen.config.proxies } }) place in
    sym same ∙ stays ∙ ap (λ (a : Above). with_plan a p change) same

pub on_ok : {T E : Type 0} (r : Result T E) (P Q : Type 0) → (P → Q) → OnOk r P → OnOk r Q
on_ok (Ok x) P Q f h = f h
on_ok (Err e) P Q f h = h
