-- The places of a service: they are declared, and no two are the same.
use Rattle.std.proofs.Common.{◌≡◌, ◌≢◌, ℕ, zero, suc, ◌+◌, ◌<◌, ◌≤◌, Bool, true, false, cond, List, [], ◌∷◌, ◌++◌, map, arith, length}
use Rattle.std.specs.Prelude.{filter}
use Rattle.okws_base.specs.Runs.{Each}
use Rattle.okws_plan.specs.Configuration.{cols, all_places, numbered_from, grants_at}
use Rattle.okws_plan.specs.declared.configuration.Config.{Config}
use Rattle.okws_plan.specs.declared.script.Place.{Place}
use Rattle.okws_plan.specs.declared.script.Place.TheVariants.{Proxy, Pubd, Oklogd}
use Rattle.okws_plan.specs.Lines.{PlaceFits}
use Rattle.monitor_model.proofs.Lawful.Plain.{each_more}

-- Two places are not the same.
abbrev pub Apart : Place → Place → Type 0
Apart (Proxy p) (Proxy q) = p ≢ q
Apart (Proxy p) Pubd = Unit {0}
Apart (Proxy p) Oklogd = Unit {0}
Apart Pubd (Proxy q) = Unit {0}
Apart Pubd Pubd = ⊥
Apart Pubd Oklogd = Unit {0}
Apart Oklogd (Proxy q) = Unit {0}
Apart Oklogd Pubd = Unit {0}
Apart Oklogd Oklogd = ⊥

-- No two of the places are the same.
abbrev pub AreApart : List Place → Type 0
AreApart [] = Unit {0}
AreApart (at ∷ more) = Each (Apart at) more × AreApart more

-- No two of the numbers are the same.
abbrev pub AreDistinct : List ℕ → Type 0
AreDistinct [] = Unit {0}
AreDistinct (p ∷ ps) = Each (λ (q : ℕ). p ≢ q) ps × AreDistinct ps

numbers_from : (i n : ℕ) → Each (λ (p : ℕ). i ≤ p) (numbered_from i n)
numbers_from i zero = tt
numbers_from i (suc n) = (omega arith, each_more (λ (p : ℕ). i + 1 ≤ p) (λ (p : ℕ). i ≤ p) (numbered_from (i + 1) n) (λ p above. omega arith) (numbers_from (i + 1) n))

numbers_below : (i n m : ℕ) → i + n ≡ m → Each (λ (p : ℕ). p < m) (numbered_from i n)
numbers_below i zero m is = tt
numbers_below i (suc n) m is = (omega arith, numbers_below (i + 1) n m (omega arith))

numbers_distinct : (i n : ℕ) → AreDistinct (numbered_from i n)
numbers_distinct i zero = tt
numbers_distinct i (suc n) = (each_more (λ (p : ℕ). i + 1 ≤ p) (λ (p : ℕ). i ≢ p) (numbered_from (i + 1) n) (λ p above. omega arith) (numbers_from (i + 1) n), numbers_distinct (i + 1) n)

-- what a filter keeps
each_when : {A : Type 0} (P : A → Type 0) (x : A) (xs : List A) (b : Bool) → P x → Each P xs → Each P (cond b (x ∷ xs) xs)
each_when P x xs true here rest = (here, rest)
each_when P x xs false here rest = rest

each_filter : {A : Type 0} (P : A → Type 0) (test : A → Bool) (xs : List A) → Each P xs → Each P (filter test xs)
each_filter P test [] all = tt
each_filter P test (x ∷ xs) all = each_when P x (filter test xs) (test x) all.0 (each_filter P test xs all.1)

distinct_when : (p : ℕ) (ps : List ℕ) (b : Bool) → Each (λ (q : ℕ). p ≢ q) ps → AreDistinct ps → AreDistinct (cond b (p ∷ ps) ps)
distinct_when p ps true here rest = (here, rest)
distinct_when p ps false here rest = rest

distinct_filter : (test : ℕ → Bool) (ps : List ℕ) → AreDistinct ps → AreDistinct (filter test ps)
distinct_filter test [] all = tt
distinct_filter test (p ∷ ps) all = distinct_when p (filter test ps) (test p) (each_filter (λ (q : ℕ). p ≢ q) test ps all.0) (distinct_filter test ps all.1)

-- from proxies to places
places_fit : (C : Config) (ps : List ℕ) → Each (λ (p : ℕ). p < length C.proxies) ps → Each (PlaceFits C) (map Proxy ps ++ Pubd ∷ Oklogd ∷ [])
places_fit C [] all = (tt, (tt, tt))
places_fit C (p ∷ ps) all = (all.0, places_fit C ps all.1)

apart_from : (p : ℕ) (ps : List ℕ) → Each (λ (q : ℕ). p ≢ q) ps → Each (Apart (Proxy p)) (map Proxy ps ++ Pubd ∷ Oklogd ∷ [])
apart_from p [] all = (tt, (tt, tt))
apart_from p (q ∷ ps) all = (all.0, apart_from p ps all.1)

places_apart : (ps : List ℕ) → AreDistinct ps → AreApart (map Proxy ps ++ Pubd ∷ Oklogd ∷ [])
places_apart [] all = ((tt, tt), (tt, tt))
places_apart (p ∷ ps) all = (apart_from p ps all.0, places_apart ps all.1)

pub cols_fit : (C : Config) (s : ℕ) → Each (PlaceFits C) (cols C s)
cols_fit C s = places_fit C (filter (λ (p : ℕ). grants_at C s p) (numbered_from 0 (length C.proxies)))
    (each_filter (λ (p : ℕ). p < length C.proxies) (λ (p : ℕ). grants_at C s p) (numbered_from 0 (length C.proxies)) (numbers_below 0 (length C.proxies) (length C.proxies) (omega arith)))

pub cols_apart : (C : Config) (s : ℕ) → AreApart (cols C s)
cols_apart C s = places_apart (filter (λ (p : ℕ). grants_at C s p) (numbered_from 0 (length C.proxies)))
    (distinct_filter (λ (p : ℕ). grants_at C s p) (numbered_from 0 (length C.proxies)) (numbers_distinct 0 (length C.proxies)))

pub all_places_fit : (C : Config) → Each (PlaceFits C) (all_places C)
all_places_fit C = places_fit C (numbered_from 0 (length C.proxies)) (numbers_below 0 (length C.proxies) (length C.proxies) (omega arith))
