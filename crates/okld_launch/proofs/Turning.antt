-- What a turn tells of what came up in it, and of a child that has ended.
use Rattle.std.proofs.Common.{◌≡◌, ◌∙◌, ℕ, zero, suc, Bool, true, false, List, [], ◌∷◌, ◌++◌, Option, Some, None, refl, sym, ap}
use Rattle.std.specs.Prelude.{◌||◌, if◌then◌else◌, option_to_list}
use Rattle.std.specs.List.{list_any}
use Rattle.std.proofs.lemmas.Bool.{or_from, or_parts}
use Rattle.std.proofs.lemmas.List.{append_assoc}
use Rattle.okws_base.specs.declared.journal.Entry.{Entry}
use Rattle.okws_plan.specs.declared.event.LauncherEvent.{LauncherEvent}
use Rattle.okws_plan.specs.declared.event.LauncherEvent.TheVariants as event
use Rattle.monitor_model.specs.Causes.{is_crashed_of}
use Rattle.okld_launch.specs.Ups.{crash_up, ends_after, is_one, launch_up, oldest, tend_up}
use Rattle.okld_launch.specs.Entering.{events_of, failed_from}
use Rattle.okld_launch.specs.Going.{GivesUpAgain, crashed_as, tended_as}
use Rattle.okld_launch.specs.Launchers.{LauncherIs}
use Rattle.okld_launch.specs.Pieces.{with_up}
use Rattle.okld_launch.specs.declared.answer.Launched.{Launched}
use Rattle.okld_launch.specs.declared.answer.Launched.TheVariants as launched
use Rattle.okld_launch.specs.declared.answer.Crashed.{Crashed}
use Rattle.okld_launch.specs.declared.answer.Crashed.TheVariants as crashed

-- ---- the oldest event of a turn

oldest_last : (xs : List LauncherEvent) (e : LauncherEvent) → oldest (xs ++ e ∷ []) ≡ Some e
oldest_last [] e = refl
oldest_last (x ∷ []) e = refl
oldest_last (x ∷ (y ∷ xs)) e = oldest_last (y ∷ xs) e

module _ (test : LauncherEvent → Bool) where
  no_oldest : (xs : List LauncherEvent) → list_any test xs ≡ false → is_one test (oldest xs) ≡ false
  no_oldest [] h = refl
  no_oldest (x ∷ []) h = (or_parts (test x) false h).0
  no_oldest (x ∷ (y ∷ xs)) h = no_oldest (y ∷ xs) (or_parts (test x) (list_any test (y ∷ xs)) h).1

  none_both : (xs ys : List LauncherEvent) → list_any test xs ≡ false → list_any test ys ≡ false → list_any test (xs ++ ys) ≡ false
  none_both [] ys a b = b
  none_both (x ∷ xs) ys a b = let parts = or_parts (test x) (list_any test xs) a in or_from (test x) (list_any test (xs ++ ys)) parts.0 (none_both xs ys parts.1 b)

  one_none : (e : Option LauncherEvent) → is_one test e ≡ false → list_any test (option_to_list e) ≡ false
  one_none None h = refl
  one_none (Some e) h = or_from (test e) false h refl

failed_no_crash : (t j s k n : ℕ) → list_any (is_crashed_of t j) (failed_from s k n) ≡ false
failed_no_crash t j s k zero = refl
failed_no_crash t j s k (suc n) = failed_no_crash t j s k n

-- where what closed the turn is no crash, its oldest event is one only where what opened it is
pub oldest_of : (t j : ℕ) (opening : Option LauncherEvent) (s k n : ℕ) (closing : Option LauncherEvent) → is_one (is_crashed_of t j) closing ≡ false → is_one (is_crashed_of t j) (oldest (events_of opening s k n closing)) ≡ is_one (is_crashed_of t j) opening
oldest_of t j None s k n closing none = no_oldest (is_crashed_of t j) (events_of None s k n closing)
    (none_both (is_crashed_of t j) (option_to_list closing) (failed_from s k n ++ []) (one_none (is_crashed_of t j) closing none) (none_both (is_crashed_of t j) (failed_from s k n) [] (failed_no_crash t j s k n) refl))
oldest_of t j (Some e) s k n closing none = ap (is_one (is_crashed_of t j)) (ap oldest (sym (append_assoc (option_to_list closing) (failed_from s k n) (e ∷ []))) ∙ oldest_last (option_to_list closing ++ failed_from s k n) e)

pub begun_no_crash : (t j s k : ℕ) (b : Bool) → is_one (is_crashed_of t j) (if b then Some (event.Begun s k) else None) ≡ false
begun_no_crash t j s k true = refl
begun_no_crash t j s k false = refl

-- ---- what is answered

pub crash_as : (a : Launched) → crash_up (crashed_as a) ≡ launch_up a
crash_as (launched.Up k) = refl
crash_as (launched.Dead n) = refl
crash_as launched.Spent = refl
crash_as launched.NoMemory = refl

pub tend_as : (a : Launched) → tend_up (tended_as a) ≡ launch_up a
tend_as (launched.Up k) = refl
tend_as (launched.Dead n) = refl
tend_as launched.Spent = refl
tend_as launched.NoMemory = refl

pub again_down : (w s : ℕ) (J : List (Entry LauncherEvent)) (a : Crashed) (l : LauncherIs) → GivesUpAgain w s J a l → crash_up a ≡ false
again_down w s J (crashed.Up k) l h = absurd h
again_down w s J (crashed.Dead n) l h = refl
again_down w s J crashed.Spent l h = refl
again_down w s J (crashed.Later k) l h = refl
again_down w s J crashed.NoMemory l h = refl

-- ---- which child has ended

pub ends_none : (events : List LauncherEvent) (ended : ℕ → ℕ → Bool) → ((t j : ℕ) → is_one (is_crashed_of t j) (oldest events) ≡ false) → ends_after true events ended ≡ ended
ends_none events ended h = λ i t j. h t j i || ended t j

pub ends_crashed : (events : List LauncherEvent) (ended : ℕ → ℕ → Bool) (s k : ℕ) → ((t j : ℕ) → is_one (is_crashed_of t j) (oldest events) ≡ is_crashed_of t j (event.Crashed s k)) → ends_after true events ended ≡ with_up s k ended
ends_crashed events ended s k h = λ i t j. h t j i || ended t j
