-- Where a request goes.
use Rattle.std.proofs.Common.{◌≡◌, ℕ, ◌<◌, Bool, true, false, ◌&&◌, ◌==◌, nat_lt, List, [], ◌∷◌, Option, Some, None, option_map, IfSome, length, fold, refl, arith}
use Rattle.std.specs.Prelude.{if◌then◌else◌}
use Rattle.std.specs.List.{list_all}
use Rattle.std.proofs.lemmas.Bool.{ltb-true}
use Rattle.okws_base.specs.Past.{standing_after}
use Rattle.okws_base.specs.declared.journal.Entry.{Entry}
use Rattle.okws_plan.specs.Configuration.{owner, best_owner, better, owns_path, is_longer}
use Rattle.okws_plan.specs.declared.configuration.Config.{Config}
use Rattle.okws_plan.specs.declared.configuration.Owned.{Owned}
use Rattle.okws_plan.specs.declared.event.OkdEvent.{OkdEvent}
use Rattle.okws_plan.specs.declared.event.OkdEvent.TheVariants.{Up, Down, Accept}
use Rattle.monitor_model.specs.Okd.{way_up, way_of, accept_verdict}
use Rattle.monitor_model.specs.Script.{goes_of}
use Rattle.monitor_model.specs.Standing.{okd_grant, up_at_okd}
use Rattle.monitor_model.specs.declared.verdict.Way.{Way}
use Rattle.okd_dispatch.specs.Seen.{Seen as OkdSeen}
use Rattle.site_columns.specs.Site.{is_numbered, are_numbered}
use Rattle.site_columns.proofs.Short.{and_first, and_second}

-- the best owner is one of the paths
owned : (n : ℕ) (Q : List ℕ) (paths : List Owned) (best : Option Owned) → IfSome best (λ (o : Owned). o.service < n) → list_all (λ (o : Owned). nat_lt o.service n) paths ≡ true
    → IfSome (fold (better Q) best paths) (λ (o : Owned). o.service < n)
owned n Q [] best h k = h
owned n Q (o ∷ more) best h k =
    owned n Q more (better Q best o) (by (owns_path o.path Q && is_longer o best)) (and_second (nat_lt o.service n) _ k)
  where
    by : (b : Bool) → IfSome (if b then Some o else best) (λ (x : Owned). x.service < n)
    by true = ltb-true o.service n (and_first _ _ k)
    by false = h

owner_declared : (n : ℕ) (o : Option Owned) (s : ℕ) → IfSome o (λ (x : Owned). x.service < n) → option_map (λ (x : Owned). x.service) o ≡ Some s → s < n
owner_declared n None s h e = absurd (cc)
owner_declared n (Some o) s h e = let same : o.service ≡ s = cc in omega (arith, h, same)

-- what is up is an incarnation from 1 on
ups_first : (J : List (Entry OkdEvent)) (s k : ℕ) → are_numbered J ≡ true → up_at_okd J s ≡ Some k → 0 < k
ups_first [] s k h e = absurd (cc)
ups_first (x ∷ J) s k h e = by x.event h e (λ i j. ups_first J s k i j)
  where
    choose : (b : Bool) (n : ℕ) → 0 < n → (if b then Some n else up_at_okd J s) ≡ Some k → (up_at_okd J s ≡ Some k → 0 < k) → 0 < k
    choose true n below e f = let same : n ≡ k = cc in omega (arith, below, same)
    choose false n below e f = f e

    drop_it : (b : Bool) → (if b then None else up_at_okd J s) ≡ Some k → (up_at_okd J s ≡ Some k → 0 < k) → 0 < k
    drop_it true e f = absurd (cc)
    drop_it false e f = f e

    by : (event : OkdEvent) → (is_numbered event && are_numbered J) ≡ true → standing_after (okd_grant event) s (up_at_okd J s) ≡ Some k
        → (are_numbered J ≡ true → up_at_okd J s ≡ Some k → 0 < k) → 0 < k
    by (Up t n) i j f = choose (t == s) n (ltb-true 0 n (and_first _ _ i)) j (f (and_second (nat_lt 0 n) _ i))
    by (Down t n) i j f = drop_it (t == s) j (f i)
    by (Accept path) i j f = f i j

-- a request that goes to an incarnation goes to one of a declared service, from 1 on
pub way_declared : (C : Config) (J : List (Entry OkdEvent)) (path : List ℕ) → list_all (λ (o : Owned). nat_lt o.service (length C.services)) C.paths ≡ true
    → are_numbered J ≡ true → IfSome (goes_of (accept_verdict C J path)) (λ (at : ℕ × ℕ). (at.0 < length C.services) × (0 < at.1))
way_declared C J path owners ups = by (owner C path) refl
  where
    to : (s : ℕ) → s < length C.services → (o : Option ℕ) → up_at_okd J s ≡ o → IfSome (goes_of (way_up s o)) (λ (at : ℕ × ℕ). (at.0 < length C.services) × (0 < at.1))
    to s below None e = tt
    to s below (Some k) e = (below, ups_first J s k ups e)

    by : (o : Option ℕ) → owner C path ≡ o → IfSome (goes_of (way_of J o)) (λ (at : ℕ × ℕ). (at.0 < length C.services) × (0 < at.1))
    by None e = tt
    by (Some s) e = to s (owner_declared (length C.services) (best_owner C.paths path) s (owned (length C.services) path C.paths None tt owners) e) (up_at_okd J s) refl

-- the same of what okd answers while a number holds it
pub way_fits : (C D : Config) (seen held : OkdSeen) (w : ℕ) (path : List ℕ) (way : Way) → seen.config ≡ C → C ≡ D → list_all (λ (o : Owned). nat_lt o.service (length C.services)) C.paths ≡ true
    → are_numbered seen.past ≡ true → held ≡ record seen { holder = w } → way ≡ accept_verdict held.config held.past path → IfSome (goes_of way) (λ (at : ℕ × ℕ). (at.0 < length D.services) × (0 < at.1))
way_fits C D seen held w path way e f owners ups hold is = rw (is, hold, e, ← f) (way_declared C seen.past path owners ups)
