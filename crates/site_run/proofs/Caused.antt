-- What was begun was begun for a cause, by the record that a run leaves.
use Rattle.std.proofs.Common.{◌≡◌, inl, inr, ℕ, zero, suc, ◌-◌, ◌≤◌, ◌==◌, Bool, true, false, cond, List, [], ◌∷◌, not, refl, sym, ap, ◌∙◌, eq-eqb, le-leb, arith}
use Rattle.std.specs.List.{list_any}
use Rattle.std.specs.Prelude.{◌||◌, filter, map, nat_le}
use Rattle.std.proofs.lemmas.Bool.{and_from}
use Rattle.okws_base.specs.Past.{events_of}
use Rattle.okws_base.specs.declared.journal.Entry.{Entry}
use Rattle.okws_plan.specs.declared.event.LauncherEvent.{LauncherEvent}
use Rattle.okws_plan.specs.declared.event.LauncherEvent.TheVariants as event
use Rattle.okws_plan.specs.declared.event.OkdEvent.{OkdEvent}
use Rattle.okws_plan.specs.declared.event.OkdEvent.TheVariants as okd
use Rattle.monitor_model.specs.declared.record.Record.{Record}
use Rattle.monitor_model.specs.Causes.{all_were_caused, broke_off, has_cause, has_up, is_up_of, was_caused}
use Rattle.monitor_model.specs.Standing.{okd_grant}
use Rattle.named_columns.specs.Launched.{IsLaunch, LaunchedBy}
use Rattle.site_locks.specs.Sat.{Sat}
use Rattle.launch_crew.specs.Coming.{came_up}
use Rattle.okld_launch.specs.Causing.{AllCaused, MayFollow, WasCaused}

-- what came up was entered by the launcher's number
own_first : (n s k w : ℕ) (e : OkdEvent) (J : List (Entry OkdEvent)) → w ≡ n → list_any (is_up_of s k) (events_of n (record { worker = w; event = e } ∷ J)) ≡ (is_up_of s k e || list_any (is_up_of s k) (events_of n J))
own_first n s k w e J is = rw (eq-eqb w n is) refl

other_first : (n s k w : ℕ) (e : OkdEvent) (J : List (Entry OkdEvent)) → is_up_of s k e ≡ false → list_any (is_up_of s k) (events_of n (record { worker = w; event = e } ∷ J)) ≡ list_any (is_up_of s k) (events_of n J)
other_first n s k w e J none = at (w == n)
  where
    rest : List (Entry OkdEvent)
    rest = filter (λ (x : Entry OkdEvent). x.worker == n) J

    at : (b : Bool) → list_any (is_up_of s k) (map (λ (x : Entry OkdEvent). x.event) (cond b (record { worker = w; event = e } ∷ rest) rest)) ≡ list_any (is_up_of s k) (map (λ (x : Entry OkdEvent). x.event) rest)
    at true = rw (none) refl
    at false = refl

pub ups_own : (n s k : ℕ) (J : List (Entry OkdEvent)) → LaunchedBy okd_grant n J → list_any (λ (e : Entry OkdEvent). is_up_of s k e.event) J ≡ list_any (is_up_of s k) (events_of n J)
ups_own n s k [] h = refl
ups_own n s k (e ∷ J) h = by e.event h.0 (ups_own n s k J h.1)
  where
    by : (v : OkdEvent) → IsLaunch n e.worker (okd_grant v) → list_any (λ (x : Entry OkdEvent). is_up_of s k x.event) J ≡ list_any (is_up_of s k) (events_of n J)
        → (is_up_of s k v || list_any (λ (x : Entry OkdEvent). is_up_of s k x.event) J) ≡ list_any (is_up_of s k) (events_of n (record { worker = e.worker; event = v } ∷ J))
    by (okd.Up t j) mine rest = ap (λ (b : Bool). is_up_of s k (okd.Up t j) || b) rest ∙ sym (own_first n s k e.worker (okd.Up t j) J mine)
    by (okd.Down t j) mine rest = rest ∙ sym (own_first n s k e.worker (okd.Down t j) J mine)
    by (okd.Accept path) any rest = rest ∙ sym (other_first n s k e.worker (okd.Accept path) J refl)

pub record_ups : (n : ℕ) (R : Record) (a : Sat) → a.number ≡ n → events_of n R.okd ≡ events_of n a.okd → LaunchedBy okd_grant n R.okd → (s k : ℕ) → has_up R s k ≡ came_up a s k
record_ups n R a number same launched s k =
    ups_own n s k R.okd launched ∙ ap (λ (es : List OkdEvent). list_any (is_up_of s k) es) same ∙ ap (λ (m : ℕ). list_any (is_up_of s k) (events_of m a.okd)) (sym number)

-- ---- each entry

or_true : (a b : Bool) → b ≡ true → (a || b) ≡ true
or_true true b h = refl
or_true false b h = h

first_one : (k : ℕ) → k - 1 ≡ 0 → k ≤ 1
first_one zero is = omega arith
first_one (suc k) is = omega (arith, is)

module _ (R : Record) (ups : ℕ → ℕ → Bool) (came : (s k : ℕ) → has_up R s k ≡ ups s k) where
  follows : (J : List (Entry LauncherEvent)) (s k : ℕ) → MayFollow ups R.launcher J s (k - 1) → (nat_le k 1 || (has_cause s (k - 1) J || broke_off R s (k - 1))) ≡ true
  follows J s k (inl h) = rw (le-leb k 1 (first_one k h)) refl
  follows J s k (inr (inl h)) = or_true (nat_le k 1) (has_cause s (k - 1) J || broke_off R s (k - 1)) (rw (h) refl)
  follows J s k (inr (inr h)) =
      or_true (nat_le k 1) (has_cause s (k - 1) J || broke_off R s (k - 1))
      (or_true (has_cause s (k - 1) J) (broke_off R s (k - 1)) (and_from (not (has_up R s (k - 1))) _ (ap not (came s (k - 1) ∙ h.up)) (ap not h.failed)))

  one : (J : List (Entry LauncherEvent)) (e : LauncherEvent) → WasCaused ups R.launcher J e → was_caused R J e ≡ true
  one J (event.Begun s k) h = follows J s k h
  one J (event.Failed s k) h = refl
  one J (event.Crashed s k) h = refl
  one J (event.Dead s n) h = refl
  one J (event.Asked s) h = refl

  pub were_caused : (J : List (Entry LauncherEvent)) → AllCaused ups R.launcher J → all_were_caused R J ≡ true
  were_caused [] h = refl
  were_caused (e ∷ J) h = and_from (was_caused R J e.event) (all_were_caused R J) (one J e.event h.0) (were_caused J h.1)
