use Rattle.std.proofs.Common.{◌≡◌, ℕ, suc, ◌+◌, ◌-◌, ◌<◌, Bool, true, false, ◌&&◌, List, [], ◌∷◌, ◌++◌, cond, refl, arith, append_assoc}
use Rattle.std.specs.Prelude.{nat_lt}
use Rattle.okws_base.specs.declared.journal.Entry.{Entry}
use Rattle.okws_plan.specs.Configuration.{reads}
use Rattle.okws_plan.specs.declared.configuration.Config.{Config}
use Rattle.okws_plan.specs.declared.event.PubdEvent.{PubdEvent}
use Rattle.monitor_model.specs.declared.verdict.Push.{Push}
use Rattle.monitor_model.specs.Pubd.{current_from, current, edition}

-- the first of the templates that are left is read, or skipped
pub current_reads : (C : Config) (J : List (Entry PubdEvent)) (s i n : ℕ) → i < n → (reads C s i && nat_lt 0 (edition J i)) ≡ true
    → current_from C J s i (n - i) ≡ current C J i ∷ current_from C J s (i + 1) (n - (i + 1))
current_reads C J s i n below h =
    let e : n - i ≡ suc (n - (i + 1)) = omega (arith, below) in
    rw (e, h) refl

pub current_skips : (C : Config) (J : List (Entry PubdEvent)) (s i n : ℕ) → i < n → (reads C s i && nat_lt 0 (edition J i)) ≡ false
    → current_from C J s i (n - i) ≡ current_from C J s (i + 1) (n - (i + 1))
current_skips C J s i n below h =
    let e : n - i ≡ suc (n - (i + 1)) = omega (arith, below) in
    rw (e, h) refl

-- one template more
pub current_more : (C : Config) (J : List (Entry PubdEvent)) (s i n : ℕ) (found now : List Push) → i < n → now ≡ cond (reads C s i && nat_lt 0 (edition J i)) (found ++ current C J i ∷ []) found
    → now ++ current_from C J s (i + 1) (n - (i + 1)) ≡ found ++ current_from C J s i (n - i)
current_more C J s i n found now below is = by (reads C s i && nat_lt 0 (edition J i)) refl is
  where
    by : (b : Bool) → (reads C s i && nat_lt 0 (edition J i)) ≡ b → now ≡ cond b (found ++ current C J i ∷ []) found
        → now ++ current_from C J s (i + 1) (n - (i + 1)) ≡ found ++ current_from C J s i (n - i)
    by true h is = rw (is, current_reads C J s i n below h) (append_assoc found (current C J i ∷ []) (current_from C J s (i + 1) (n - (i + 1))))
    by false h is = rw (is, current_skips C J s i n below h) refl
