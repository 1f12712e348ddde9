-- A launch leaves its service at rest, and the other one as it was.
use Rattle.std.proofs.Common.{◌≡◌, ◌≢◌, ◌∙◌, ℕ, ◌+◌, ◌<◌, Bool, true, false, cond, List, [], ◌∷◌, length, max, Option, Some, None, refl, sym, ap, subst, arith, eq-eqb, ◌==◌}
use Rattle.std.specs.Prelude.{slice_index_or}
use Rattle.std.proofs.lemmas.Bool.{ne_eqb}
use Rattle.std.proofs.lemmas.List.{length-set}
use Rattle.okws_plan.specs.Configuration.{all_places, cols}
use Rattle.okws_plan.specs.declared.configuration.Config.{Config}
use Rattle.okws_plan.specs.declared.script.Place.{Place}
use Rattle.okws_plan.specs.declared.script.Place.TheVariants.{Proxy, Pubd, Oklogd}
use Rattle.monitor_model.specs.declared.record.CellEvent.TheVariants as cell
use Rattle.monitor_model.specs.declared.record.Own.TheVariants as own
use Rattle.monitor_model.specs.Cell.{incarnation}
use Rattle.monitor_model.specs.Launcher.{begun}
use Rattle.monitor_model.specs.Pubd.{edition}
use Rattle.monitor_model.specs.Script.{begins, booted, down_okd, downed, freshly_booted, greatest, installed, installed_all, launched, launched_rest, relaunched, retired, revoke_place, revoked, revoked_all, settled, stands_of, superseded, superseded_if, upped}
use Rattle.monitor_model.specs.Stage.{Opened, Stage, Stand, empty_stand, stand, with_item, with_seen, with_stand}
use Rattle.monitor_model.specs.Standing.{up_at_okd}
use Rattle.monitor_model.proofs.Lawful.Columns.{begun_next}
use Rattle.play_script.proofs.Rests.{Beside, Rests, beside_item, beside_none, beside_stand, beside_then, stand_here}

-- ---- columns

-- Only columns changed, and nothing that a line of a drill is refused for.
record Columns (S T : Stage) : Type 0 where
  pub launcher_is : T.seen.launcher ≡ S.seen.launcher
  pub okd_is : T.seen.okd ≡ S.seen.okd
  pub stands_are : T.stands ≡ S.stands
  pub requests_are : T.requests ≡ S.requests
  pub editions_are : edition T.seen.pubd 0 ≡ edition S.seen.pubd 0

columns_then : (S mid T : Stage) → Columns S mid → Columns mid T → Columns S T
columns_then S mid T h k = record {
  launcher_is = k.launcher_is ∙ h.launcher_is;
  okd_is = k.okd_is ∙ h.okd_is;
  stands_are = k.stands_are ∙ h.stands_are;
  requests_are = k.requests_are ∙ h.requests_are;
  editions_are = k.editions_are ∙ h.editions_are;
}

columns_none : (S : Stage) → Columns S S
columns_none S = record { launcher_is = refl; okd_is = refl; stands_are = refl; requests_are = refl; editions_are = refl }

columns_installed : (seed : List ℕ) (s : ℕ) (at : Place) (S : Stage) → Columns S (installed seed s at S)
columns_installed seed s (Proxy p) S = record { launcher_is = refl; okd_is = refl; stands_are = refl; requests_are = refl; editions_are = refl }
columns_installed seed s Pubd S = record { launcher_is = refl; okd_is = refl; stands_are = refl; requests_are = refl; editions_are = refl }
columns_installed seed s Oklogd S = record { launcher_is = refl; okd_is = refl; stands_are = refl; requests_are = refl; editions_are = refl }

columns_installed_all : (seed : List ℕ) (s : ℕ) (places : List Place) (S : Stage) → Columns S (installed_all seed s places S)
columns_installed_all seed s [] S = columns_none S
columns_installed_all seed s (at ∷ more) S =
    columns_then S (installed seed s at S) (installed_all seed s more (installed seed s at S)) (columns_installed seed s at S) (columns_installed_all seed s more (installed seed s at S))

columns_revoke : (s : ℕ) (at : Place) (o : Option ℕ) (S : Stage) → Columns S (with_seen S (revoke_place s at o S.seen))
columns_revoke s (Proxy p) None S = columns_none S
columns_revoke s Pubd None S = columns_none S
columns_revoke s Oklogd None S = columns_none S
columns_revoke s (Proxy p) (Some k) S = record { launcher_is = refl; okd_is = refl; stands_are = refl; requests_are = refl; editions_are = refl }
columns_revoke s Pubd (Some k) S = record { launcher_is = refl; okd_is = refl; stands_are = refl; requests_are = refl; editions_are = refl }
columns_revoke s Oklogd (Some k) S = record { launcher_is = refl; okd_is = refl; stands_are = refl; requests_are = refl; editions_are = refl }

columns_revoked_all : (s : ℕ) (places : List Place) (S : Stage) → Columns S (revoked_all s places S)
columns_revoked_all s [] S = columns_none S
columns_revoked_all s (at ∷ more) S =
    columns_then S (revoked s at S) (revoked_all s more (revoked s at S)) (columns_revoke s at (stands_of s at S.seen) S) (columns_revoked_all s more (revoked s at S))

beside_columns : (s : ℕ) (S T : Stage) → Columns S T → Beside s 0 0 S T
beside_columns s S T h = record {
  begun_is = λ t apart. ap (λ J. begun J t) h.launcher_is;
  up_is = λ t apart. ap (λ J. up_at_okd J t) h.okd_is;
  stand_is = λ t apart. ap (λ (stands : List Stand). slice_index_or stands t empty_stand) h.stands_are;
  cells_are = ap (λ (stands : List Stand). length stands) h.stands_are;
  requests_are = omega (arith, ap (λ requests. length requests) h.requests_are);
  editions = omega (arith, h.editions_are);
}

-- ---- a service that was begun

-- s was begun as k, and no dialog of it is open.
pub record IsBegun (S : Stage) (s k : ℕ) : Type 0 where
  pub first : 0 < k
  pub greatest_is : greatest S s ≡ k
  pub shut : (stand S s).open_dialog ≡ None
  pub within : s < length S.stands

begun_columns : (s k : ℕ) (S T : Stage) → Columns S T → IsBegun S s k → IsBegun T s k
begun_columns s k S T h b = record {
  first = b.first;
  greatest_is = ap (λ J. begun J s) h.launcher_is ∙ b.greatest_is;
  shut = ap (λ (stands : List Stand). (slice_index_or stands s empty_stand).open_dialog) h.stands_are ∙ b.shut;
  within = subst (λ (stands : List Stand). s < length stands) (sym h.stands_are) b.within;
}

begun_begins : (s k : ℕ) (S : Stage) → greatest S s ≡ k → (stand S s).open_dialog ≡ None → s < length S.stands → IsBegun (begins s S) s (k + 1)
begun_begins s k S is shut within = record { first = omega arith; greatest_is = begun_next S.seen.launcher s ∙ ap (λ (n : ℕ). n + 1) is; shut = shut; within = within }

-- what a test for another service leaves
passed_over : {A : Type 0} (s t : ℕ) (x y : A) → t ≢ s → cond (s == t) x y ≡ y
passed_over s t x y apart = ap (λ (b : Bool). cond b x y) (ne_eqb s t (λ e. apart (sym e)))

taken_here : {A : Type 0} (s : ℕ) (x y : A) → cond (s == s) x y ≡ x
taken_here s x y = ap (λ (b : Bool). cond b x y) (eq-eqb s s refl)

beside_begins : (s : ℕ) (S : Stage) → Beside s 0 0 S (begins s S)
beside_begins s S = record {
  begun_is = λ t apart. passed_over s t (max (greatest S s + 1) (greatest S t)) (greatest S t) apart;
  up_is = λ t apart. refl;
  stand_is = λ t apart. refl;
  cells_are = refl;
  requests_are = omega arith;
  editions = omega arith;
}

-- ---- it is taken down

begun_down : (s k : ℕ) (o : Option ℕ) (S : Stage) → IsBegun S s k → IsBegun (with_seen S (down_okd s o S.seen)) s k
begun_down s k None S b = b
begun_down s k (Some j) S b = record { first = b.first; greatest_is = b.greatest_is; shut = b.shut; within = b.within }

beside_down : (s : ℕ) (o : Option ℕ) (S : Stage) → Beside s 0 0 S (with_seen S (down_okd s o S.seen))
beside_down s None S = beside_none s S
beside_down s (Some j) S = record {
  begun_is = λ t apart. refl;
  up_is = λ t apart. passed_over s t None (up_at_okd S.seen.okd t) apart;
  stand_is = λ t apart. refl;
  cells_are = refl;
  requests_are = omega arith;
  editions = omega arith;
}

superseded_is : (s : ℕ) (S : Stage) → (stand S s).open_dialog ≡ None → superseded s S ≡ S
superseded_is s S shut = ap (λ (o : Option Opened). superseded_if s o S) shut

-- The cell of s once it is retired.
abbrev retired_there : ℕ → Stage → Stand
retired_there s S = settled (record (stand S s) { past = cell.Retired ∷ (stand S s).past })

begun_retired_if : (s k : ℕ) (b : Bool) (S : Stage) → IsBegun S s k → IsBegun (cond b S (with_item (with_stand S s (retired_there s S)) (own.Retired s))) s k
begun_retired_if s k true S h = h
begun_retired_if s k false S h = record {
  first = h.first;
  greatest_is = h.greatest_is;
  shut = ap (λ (x : Stand). x.open_dialog) (stand_here S s (retired_there s S) h.within) ∙ h.shut;
  within = subst (λ (n : ℕ). s < n) (sym (length-set S.stands s (retired_there s S))) h.within;
}

begun_retired : (s k : ℕ) (S : Stage) → IsBegun S s k → IsBegun (retired s S) s k
begun_retired s k S h = begun_retired_if s k (incarnation (stand S s).past == 0) S h

beside_retired_if : (s : ℕ) (b : Bool) (S : Stage) → Beside s 0 0 S (cond b S (with_item (with_stand S s (retired_there s S)) (own.Retired s)))
beside_retired_if s true S = beside_none s S
beside_retired_if s false S = beside_item s S (with_stand S s (retired_there s S)) (own.Retired s) (beside_stand s S (retired_there s S))

beside_retired : (s : ℕ) (S : Stage) → Beside s 0 0 S (retired s S)
beside_retired s S = beside_retired_if s (incarnation (stand S s).past == 0) S

-- ---- it is booted

-- s is at rest, but for okd, which may not know of it.
record IsBooted (S : Stage) (s k : ℕ) : Type 0 where
  pub first : 0 < k
  pub greatest_is : greatest S s ≡ k
  pub there : incarnation (stand S s).past ≡ k
  pub left_is : (stand S s).left ≡ []
  pub goes_on : (stand S s).has_ended ≡ false
  pub shut : (stand S s).open_dialog ≡ None
  pub within : s < length S.stands

-- The cell of s once it is booted.
abbrev fresh_there : ℕ → Stage → Stand
fresh_there s S = record { past = cell.Boot (greatest S s) ∷ (stand S s).past; left = []; has_ended = false; open_dialog = None }

booted_freshly : (s k : ℕ) (S : Stage) → IsBegun S s k → IsBooted (freshly_booted s S) s k
booted_freshly s k S b =
    let here : stand (with_stand S s (fresh_there s S)) s ≡ fresh_there s S = stand_here S s (fresh_there s S) b.within in
    record {
      first = b.first;
      greatest_is = b.greatest_is;
      there = ap (λ (x : Stand). incarnation x.past) here ∙ b.greatest_is;
      left_is = ap (λ (x : Stand). x.left) here;
      goes_on = ap (λ (x : Stand). x.has_ended) here;
      shut = ap (λ (x : Stand). x.open_dialog) here;
      within = subst (λ (n : ℕ). s < n) (sym (length-set S.stands s (fresh_there s S))) b.within;
    }

beside_freshly : (s : ℕ) (S : Stage) → Beside s 0 0 S (freshly_booted s S)
beside_freshly s S = beside_item s S (with_stand S s (fresh_there s S)) (own.Boot s (greatest S s)) (beside_stand s S (fresh_there s S))

-- What holds of a service once it is booted: it is, and the other one is as it was.
abbrev Boots : ℕ → ℕ → Stage → Stage → Type 0
Boots s k S T = IsBooted T s k × Beside s 0 0 S T

booted_from : (s k : ℕ) (S : Stage) → IsBegun S s k → Boots s k S (booted s S)
booted_from s k S b =
    let there : Boots s k S (freshly_booted s (retired s S))
    = (
      booted_freshly s k (retired s S) (begun_retired s k S b),
      beside_then s 0 0 0 0 S (retired s S) (freshly_booted s (retired s S)) (beside_retired s S) (beside_freshly s (retired s S)),
    ) in
    subst (λ (T : Stage). Boots s k S (freshly_booted s (retired s T))) (sym (superseded_is s S b.shut)) there

rests_upped : (s k : ℕ) (S : Stage) → IsBooted S s k → Rests (upped s S) s k
rests_upped s k S b = record {
  calm = record {
    first = b.first;
    greatest_is = b.greatest_is;
    there = b.there;
    up = taken_here s (Some (incarnation (stand S s).past)) (up_at_okd S.seen.okd s) ∙ ap (λ (n : ℕ). Some n) b.there;
    left_is = b.left_is;
    goes_on = b.goes_on;
    within = b.within;
  };
  shut = b.shut;
}

beside_upped : (s : ℕ) (S : Stage) → Beside s 0 0 S (upped s S)
beside_upped s S = record {
  begun_is = λ t apart. refl;
  up_is = λ t apart. passed_over s t (Some (incarnation (stand S s).past)) (up_at_okd S.seen.okd t) apart;
  stand_is = λ t apart. refl;
  cells_are = refl;
  requests_are = omega arith;
  editions = omega arith;
}

-- ---- launches

-- What holds once s is launched as incarnation k: it rests, and the other one is as it was.
abbrev pub Launches : ℕ → ℕ → Stage → Stage → Type 0
Launches s k S T = Rests T s k × Beside s 0 0 S T

launches_rest : (C : Config) (seed : List ℕ) (s k : ℕ) (first S : Stage) → IsBegun S s k → Beside s 0 0 first S → Launches s k first (launched_rest C seed s S)
launches_rest C seed s k first S b h =
    let U : Stage = installed_all seed s (cols C s) S in
    let columns : Columns S U = columns_installed_all seed s (cols C s) S in
    let boots : Boots s k U (booted s U) = booted_from s k U (begun_columns s k S U columns b) in
    let beside : Beside s 0 0 first (booted s U)
    = beside_then s 0 0 0 0 first U (booted s U) (beside_then s 0 0 0 0 first S U h (beside_columns s S U columns)) boots.1 in
    (rests_upped s k (booted s U) boots.0, beside_then s 0 0 0 0 first (booted s U) (upped s (booted s U)) beside (beside_upped s (booted s U)))

pub launches : (C : Config) (seed : List ℕ) (s k : ℕ) (S : Stage) → greatest S s ≡ k → (stand S s).open_dialog ≡ None → s < length S.stands → Launches s (k + 1) S (launched C seed s S)
launches C seed s k S is shut within = launches_rest C seed s (k + 1) S (begins s S) (begun_begins s k S is shut within) (beside_begins s S)

-- all that stands of s is taken down
down_begun : (C : Config) (s k : ℕ) (S : Stage) → IsBegun S s k → IsBegun (revoked_all s (all_places C) (downed s S)) s k
down_begun C s k S b =
    begun_columns s k (downed s S) (revoked_all s (all_places C) (downed s S)) (columns_revoked_all s (all_places C) (downed s S)) (begun_down s k (up_at_okd S.seen.okd s) S b)

beside_revoked : (C : Config) (s : ℕ) (S : Stage) → Beside s 0 0 S (revoked_all s (all_places C) (downed s S))
beside_revoked C s S =
    beside_then s 0 0 0 0 S (downed s S) (revoked_all s (all_places C) (downed s S)) (beside_down s (up_at_okd S.seen.okd s) S)
    (beside_columns s (downed s S) (revoked_all s (all_places C) (downed s S)) (columns_revoked_all s (all_places C) (downed s S)))

pub relaunches : (C : Config) (seed : List ℕ) (s k : ℕ) (S : Stage) → Rests S s k → Launches s (k + 1) S (relaunched C seed s S)
relaunches C seed s k S r =
    let B : Stage = begins s S in
    let D : Stage = revoked_all s (all_places C) (downed s B) in
    let b : IsBegun D s (k + 1) = down_begun C s (k + 1) B (begun_begins s k S r.calm.greatest_is r.shut r.calm.within) in
    let beside : Beside s 0 0 S (retired s D)
    = beside_then s 0 0 0 0 S D (retired s D) (beside_then s 0 0 0 0 S B D (beside_begins s S) (beside_revoked C s B)) (beside_retired s D) in
    subst (λ (T : Stage). Launches s (k + 1) S (launched_rest C seed s (retired s T))) (sym (superseded_is s D b.shut))
    (launches_rest C seed s (k + 1) S (retired s D) (begun_retired s (k + 1) D b) beside)
