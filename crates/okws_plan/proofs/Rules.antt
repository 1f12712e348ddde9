-- Queries that keep the rules.
use Rattle.std.proofs.Common.{◌≡◌, refl, ℕ, Bool, true, false, List, [], ◌∷◌, Some, ◌&&◌}
use Rattle.std.specs.Prelude.{find, ◌==◌, slice_get}
use Rattle.std.specs.List.{list_all}
use Rattle.okws_plan.specs.Configuration.{tables, queries_of}
use Rattle.okws_plan.specs.Rules.{keeps_rules, QueriesKeepRules}
use Rattle.okws_plan.specs.declared.configuration.Config.{Config}
use Rattle.okws_plan.specs.declared.configuration.Query.{Query}

both : (a b : Bool) → (a && b) ≡ true → (a ≡ true) × (b ≡ true)
both true true e = (e, e)
both true false e = cc
both false b e = cc

found : {X : Type 0} (b : Bool) (f p : X → Bool) (x y : X) (xs : List X) → p x ≡ b → f x ≡ true → (find p xs ≡ Some y → f y ≡ true) → find p (x ∷ xs) ≡ Some y → f y ≡ true
found true f p x y xs is here rest e =
    let first : Some x ≡ Some y = rw is at e in
    let same : x ≡ y = cc in
    rw (← same) here
found false f p x y xs is here rest e =
    let later : find p xs ≡ Some y = rw is at e in
    rest later

-- What a search finds among items that all pass a test passes it.
pub find_kept : {X : Type 0} (f p : X → Bool) (xs : List X) (y : X) → list_all f xs ≡ true → find p xs ≡ Some y → f y ≡ true
find_kept f p [] y all e = cc
find_kept f p (x ∷ xs) y all e =
    let parts = both (f x) (list_all f xs) all in
    found (p x) f p x y xs refl parts.0 (find_kept f p xs y parts.1) e

-- Where all queries of a proxy keep the rules, each that is found by its number does.
pub all_keep_rules : (C : Config) (p : ℕ) → list_all (λ (x : Query). keeps_rules (tables C p) x.statement) (queries_of (slice_get C.proxies p)) ≡ true → QueriesKeepRules C p
all_keep_rules C p all q x e = find_kept (λ (x : Query). keeps_rules (tables C p) x.statement) (λ (x : Query). x.number == q) (queries_of (slice_get C.proxies p)) x all e
