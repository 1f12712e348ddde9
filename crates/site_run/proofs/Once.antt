-- No incarnation is begun twice: what was begun in some turns came up in them or never.
use Rattle.std.proofs.Common.{◌≡◌, ◌∙◌, ⊎_elim, ℕ, ◌+◌, ◌≤◌, Bool, true, false, cond, List, [], ◌∷◌, ◌++◌, refl, sym, ap, subst, eqb-true, arith}
use Rattle.std.specs.Prelude.{◌⊎◌, ◌==◌, ◌&&◌, ◌||◌, max, nat_lt, not}
use Rattle.std.specs.List.{list_any}
use Rattle.std.proofs.lemmas.Bool.{and_parts, or_cases, or_left, or_right}
use Rattle.std.proofs.lemmas.List.Folds.{list_any-append}
use Rattle.okws_base.specs.Turns.{Behind}
use Rattle.okws_base.specs.declared.journal.Entry.{Entry}
use Rattle.okws_plan.specs.Configuration.{in_force}
use Rattle.okws_plan.specs.declared.configuration.Config.{Config}
use Rattle.okws_plan.specs.declared.event.LauncherEvent.{LauncherEvent}
use Rattle.okws_plan.specs.declared.event.LauncherEvent.TheVariants as event
use Rattle.monitor_model.specs.Launcher.{LauncherLaw, begun, is_dead, may_enter, tries}
use Rattle.monitor_model.specs.Launches.{is_begun_of}
use Rattle.launch_turns.specs.Deeds.{entries, up_in}
use Rattle.okld_launch.specs.Ups.{is_one, newest}
use Rattle.okld_launch.specs.Entering.{entries_of}
use Rattle.launch_turns.specs.declared.deed.Deed.{Deed}
use Rattle.launch_turns.proofs.Deeds.{entries_both}
use Rattle.site_run.specs.Tied.{has_begun}

none_begun : {A : Type 0} → false ≡ true → A
none_begun bad = let never : ⊥ = cc in absurd never

-- ---- what was begun

pub begun_later : (s k : ℕ) (more J : List (Entry LauncherEvent)) → has_begun J s k ≡ true → has_begun (more ++ J) s k ≡ true
begun_later s k more J h =
    let p = λ (e : Entry LauncherEvent). is_begun_of s k e.event in
    list_any-append p more J ∙ or_right (list_any p more) (list_any p J) h

-- the newest event of a turn
pub newest_begun : (s k w : ℕ) (events : List LauncherEvent) (J : List (Entry LauncherEvent)) → is_one (is_begun_of s k) (newest events) ≡ true → has_begun (entries_of w events ++ J) s k ≡ true
newest_begun s k w [] J h = none_begun h
newest_begun s k w (e ∷ events) J h = or_left (is_begun_of s k e) (has_begun (entries_of w events ++ J) s k) h

-- what came up by turns was begun in them
pub up_begun : (s k : ℕ) (deeds : List Deed) → up_in deeds s k ≡ true → has_begun (entries deeds) s k ≡ true
up_begun s k [] h = none_begun h
up_begun s k (d ∷ deeds) h = ⊎_elim
    (λ here. newest_begun s k d.worker d.entered (entries deeds) (and_parts d.up (is_one (is_begun_of s k) (newest d.entered)) here).1)
    (λ before. begun_later s k (entries_of d.worker d.entered) (entries deeds) (up_begun s k deeds before))
    (or_cases (d.up && is_one (is_begun_of s k) (newest d.entered)) (up_in deeds s k) h)

-- it is at most the greatest
at_most : (a : Bool) (k m : ℕ) → k ≤ m → (j : ℕ) → k ≤ cond a (max j m) m
at_most true k m l j = omega (arith, l)
at_most false k m l j = l

greatest : (k j m : ℕ) → j ≡ k → k ≤ max j m
greatest k j m is = omega (arith, is)

begun_most : (s k : ℕ) (J : List (Entry LauncherEvent)) → has_begun J s k ≡ true → k ≤ begun J s
begun_most s k [] h = none_begun h
begun_most s k (e ∷ J) h = by e.event (begun_most s k J) h
  where
    by : (v : LauncherEvent) → (has_begun J s k ≡ true → k ≤ begun J s) → has_begun (record { worker = e.worker; event = v } ∷ J) s k ≡ true → k ≤ begun (record { worker = e.worker; event = v } ∷ J) s
    by (event.Begun t j) rest h = ⊎_elim
        (λ (here : ((t == s) && (j == k)) ≡ true).
        let both = and_parts (t == s) (j == k) here in
        subst (λ (b : Bool). k ≤ cond b (max j (begun J s)) (begun J s)) (sym both.0) (greatest k j (begun J s) (eqb-true j k both.1)))
        (λ (later : has_begun J s k ≡ true). at_most (t == s) k (begun J s) (rest later) j)
        (or_cases ((t == s) && (j == k)) (has_begun J s k) h)
    by (event.Failed t j) rest h = rest h
    by (event.Crashed t j) rest h = rest h
    by (event.Dead t n) rest h = rest h
    by (event.Asked t) rest h = rest h

-- ---- it isn't begun again

pub law_behind : (C : Config) (more J : List (Entry LauncherEvent)) → LauncherLaw C (more ++ J) → LauncherLaw C J
law_behind C [] J law = law
law_behind C (e ∷ more) J law = law_behind C more J law.0

too_late : (k b : ℕ) → k ≡ b + 1 → k ≤ b → ⊥
too_late k b is most = omega (arith, is, most)

not_again : (C : Config) (s k : ℕ) (J : List (Entry LauncherEvent)) (v : LauncherEvent) → may_enter C J v ≡ true → has_begun J s k ≡ true → is_begun_of s k v ≡ false
not_again C s k J (event.Begun t j) may h = at ((t == s) && (j == k)) refl
  where
    at : (b : Bool) → ((t == s) && (j == k)) ≡ b → ((t == s) && (j == k)) ≡ false
    at false is = is
    at true is =
        let both = and_parts (t == s) (j == k) is in
        let next : j ≡ begun J t + 1 = eqb-true j (begun J t + 1) (and_parts (j == begun J t + 1) (((tries J t == 0) || nat_lt (tries J t) C.retry) && not (is_dead J t)) may).0 in
        let there : k ≡ begun J s + 1 = sym (eqb-true j k both.1) ∙ (next ∙ ap (λ (u : ℕ). begun J u + 1) (eqb-true t s both.0)) in
        absurd (too_late k (begun J s) there (begun_most s k J h))
not_again C s k J (event.Failed t j) may h = refl
not_again C s k J (event.Crashed t j) may h = refl
not_again C s k J (event.Dead t n) may h = refl
not_again C s k J (event.Asked t) may h = refl

newest_other : (C : Config) (s k w : ℕ) (events : List LauncherEvent) (J : List (Entry LauncherEvent)) → LauncherLaw C (entries_of w events ++ J) → has_begun J s k ≡ true → is_one (is_begun_of s k) (newest events) ≡ false
newest_other C s k w [] J law h = refl
newest_other C s k w (e ∷ events) J law h =
    let before = entries_of w events ++ J in not_again (in_force C before) s k before e law.1 (begun_later s k (entries_of w events) J h)

none_more : (a b : Bool) → b ≡ false → (a && b) ≡ false
none_more true b is = is
none_more false b is = refl

ups_once : (C : Config) (s k : ℕ) (more seen : List Deed) → LauncherLaw C (entries (more ++ seen)) → has_begun (entries seen) s k ≡ true → up_in (more ++ seen) s k ≡ up_in seen s k
ups_once C s k [] seen law h = refl
ups_once C s k (d ∷ more) seen law h =
    let there : has_begun (entries (more ++ seen)) s k ≡ true = ap (λ (J : List (Entry LauncherEvent)). has_begun J s k) (entries_both more seen) ∙ begun_later s k (entries more) (entries seen) h in
    let other = newest_other C s k d.worker d.entered (entries (more ++ seen)) law there in
    ap (λ (b : Bool). b || up_in (more ++ seen) s k) (none_more d.up (is_one (is_begun_of s k) (newest d.entered)) other) ∙ ups_once C s k more seen (law_behind C (entries_of d.worker d.entered) (entries (more ++ seen)) law) h

-- what was begun in some turns came up by all just where it did by these
pub ups_same : (C : Config) (s k : ℕ) (seen now : List Deed) → LauncherLaw C (entries now) → Behind seen now → has_begun (entries seen) s k ≡ true → up_in now s k ≡ up_in seen s k
ups_same C s k seen now law behind h =
    ap (λ (deeds : List Deed). up_in deeds s k) behind.1 ∙ ups_once C s k behind.0 seen (subst (λ (deeds : List Deed). LauncherLaw C (entries deeds)) behind.1 law) h
