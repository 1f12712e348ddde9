-- A service that was given up may be given up once more where its greatest incarnation has crashed since.
use Rattle.std.proofs.Common.{◌≡◌, ◌∙◌, inl, inr, ℕ, ◌+◌, ◌≤◌, ◌==◌, Bool, true, false, cond, List, [], ◌∷◌, Option, Some, None, refl, sym, ap, eq-eqb, le-leb, arith}
use Rattle.std.specs.Prelude.{◌&&◌, is_some, nat_le}
use Rattle.std.proofs.lemmas.Bool.{and_from, and_parts, eqb-true, leb-true}
use Rattle.okws_base.specs.declared.journal.Entry.{Entry}
use Rattle.okws_plan.specs.declared.configuration.Config.{Config}
use Rattle.okws_plan.specs.declared.event.LauncherEvent.{LauncherEvent}
use Rattle.okws_plan.specs.declared.event.LauncherEvent.TheVariants as event
use Rattle.okws_outer.specs.Families.{Family}
use Rattle.monitor_model.specs.Launcher.{LauncherLaw, begun, fell, is_dead, is_new_try, may_enter, may_give_up, tried, tries}
use Rattle.launch_journal.specs.Launches.{given_up}
use Rattle.okld_launch.specs.Going.{GivesUpAgain, GoesCrashed, with_entry}
use Rattle.okld_launch.specs.Launchers.{LauncherIs}
use Rattle.okld_launch.specs.declared.answer.Crashed.{Crashed}
use Rattle.okld_launch.specs.declared.answer.Crashed.TheVariants as crashed

-- what was given up is dead
pub given_dead : (J : List (Entry LauncherEvent)) (s : ℕ) → is_some (given_up J s) ≡ is_dead J s
given_dead [] s = refl
given_dead (e ∷ J) s = by e.event (given_dead J s)
  where
    by : (v : LauncherEvent) → is_some (given_up J s) ≡ is_dead J s → is_some (given_up (record { worker = e.worker; event = v } ∷ J) s) ≡ is_dead (record { worker = e.worker; event = v } ∷ J) s
    by (event.Begun t k) rest = rest
    by (event.Failed t k) rest = rest
    by (event.Crashed t k) rest = rest
    by (event.Dead t n) rest = at (t == s)
      where
        at : (b : Bool) → is_some (cond b (Some n) (given_up J s)) ≡ cond b true (is_dead J s)
        at true = refl
        at false = rest
    by (event.Asked t) rest = at (t == s)
      where
        at : (b : Bool) → is_some (cond b None (given_up J s)) ≡ cond b false (is_dead J s)
        at true = refl
        at false = rest

-- what is dead was tried as often as it may be
no_fewer : (C : Config) (a : Bool) (m n : ℕ) → C.retry ≤ m → C.retry ≤ n → C.retry ≤ cond a m n
no_fewer C true m n x y = x
no_fewer C false m n x y = y

pub dead_tries : (C : Config) (J : List (Entry LauncherEvent)) (s : ℕ) → LauncherLaw C J → is_dead J s ≡ true → C.retry ≤ tries J s
dead_tries C [] s law dead = absurd (let bad : false ≡ true = dead in let never : ⊥ = cc in never)
dead_tries C (e ∷ J) s law dead = by e.event law.1 (dead_tries C J s law.0) dead
  where
    by : (v : LauncherEvent) → may_enter C J v ≡ true → (is_dead J s ≡ true → C.retry ≤ tries J s) → is_dead (record { worker = e.worker; event = v } ∷ J) s ≡ true → C.retry ≤ tries (record { worker = e.worker; event = v } ∷ J) s
    by (event.Begun t k) may rest h = rest h
    by (event.Failed t k) may rest h =
        let before : C.retry ≤ tries J s = rest h in no_fewer C (is_new_try (event.Failed t k) (begun J s) (tried J s) s) (tries J s + 1) (tries J s) (omega arith) before
    by (event.Crashed t k) may rest h =
        let before : C.retry ≤ tries J s = rest h in no_fewer C (is_new_try (event.Crashed t k) (begun J s) (tried J s) s) (tries J s + 1) (tries J s) (omega arith) before
    by (event.Dead t n) may rest h = at (t == s) refl h
      where
        at : (b : Bool) → (t == s) ≡ b → cond b true (is_dead J s) ≡ true → C.retry ≤ tries J s
        at true is g =
            let all = and_parts (n == tries J t) (nat_le C.retry n && fell J t) may in
            let most : C.retry ≤ n = leb-true C.retry n (and_parts (nat_le C.retry n) (fell J t) all.1).0 in
            let many : n ≡ tries J t = eqb-true n (tries J t) all.0 in
            let same : tries J t ≡ tries J s = ap (tries J) (eqb-true t s is) in
            omega arith
        at false is g = rest g
    by (event.Asked t) may rest h = at (t == s) h
      where
        at : (b : Bool) → cond b false (is_dead J s) ≡ true → C.retry ≤ cond b 0 (tries J s)
        at true g = absurd (let bad : false ≡ true = g in let never : ⊥ = cc in never)
        at false g = rest g

pub may_again : (C : Config) (J : List (Entry LauncherEvent)) (s : ℕ) → LauncherLaw C J → is_some (given_up J s) ≡ true → fell J s ≡ true → may_give_up C J s (tries J s) ≡ true
may_again C J s law given fallen =
    and_from (tries J s == tries J s) (nat_le C.retry (tries J s) && fell J s) (eq-eqb (tries J s) (tries J s) refl)
    (and_from (nat_le C.retry (tries J s)) (fell J s) (le-leb C.retry (tries J s) (dead_tries C J s law (sym (given_dead J s) ∙ given))) fallen)

pub not_given : (o : Option ℕ) → is_some o ≡ false → o ≡ None
not_given None h = refl
not_given (Some n) h = absurd (let bad : true ≡ false = h in let never : ⊥ = cc in never)

-- what is done then
pub again_crashed : (C : Config) (w s k : ℕ) (J : List (Entry LauncherEvent)) (f : Family) (answer : Crashed) (l : LauncherIs) → k ≡ begun J s → is_some (given_up J s) ≡ true → GivesUpAgain w s (with_entry w (event.Crashed s k) J) answer l
    → GoesCrashed C w s k J f answer l
again_crashed C w s k J f (crashed.Up j) l is dead h = absurd h
again_crashed C w s k J f (crashed.Dead n) l is dead h = (is, inr (dead, h))
again_crashed C w s k J f crashed.Spent l is dead h = absurd h
again_crashed C w s k J f (crashed.Later j) l is dead h = absurd h
again_crashed C w s k J f crashed.NoMemory l is dead h = inr (is, record { failed = 0; mid = with_entry w (event.Crashed s k) J; told = f; fell = (refl, refl); ends = inl h })
