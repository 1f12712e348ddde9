-- What a turn at okd, and a turn elsewhere, lets come up.
use Rattle.std.proofs.Common.{◌≡◌, ◌∙◌, ℕ, List, Ok, Err, refl, ap}
use Rattle.std.specs.Prelude.{◌||◌, OnErr, Result}
use Rattle.std.specs.List.{list_any}
use Rattle.okws_base.specs.Past.{events_of}
use Rattle.okws_base.specs.declared.journal.Entry.{Entry}
use Rattle.okws_plan.specs.declared.event.OkdEvent.{OkdEvent}
use Rattle.monitor_model.specs.Causes.{is_up_of}
use Rattle.site_locks.specs.Sat.{Sat}
use Rattle.site_locks.specs.Steps.{EntersOkd, SeesOkd}
use Rattle.launch_crew.specs.Coming.{NoneCame, came_up}
use Rattle.launch_crew.specs.Steps.{OnlyColumns}
use Rattle.launch_crew.proofs.Owns.{enters, sees}

pub came_entered : (e : OkdEvent) (before : List (Entry OkdEvent)) (a b : Sat) → EntersOkd e before a b → (s k : ℕ) → came_up b s k ≡ (is_up_of s k e || came_up a s k)
came_entered e before a b h s k =
    ap (λ (x : Sat). came_up x s k) h.is
    ∙ ap (λ (es : List OkdEvent). list_any (is_up_of s k) es) (enters a.number a.number e a.okd before (events_of a.number a.okd) refl h.grows refl)

pub none_seen : (before : List (Entry OkdEvent)) (a b : Sat) → SeesOkd before a b → NoneCame a b
none_seen before a b h s k =
    ap (λ (x : Sat). came_up x s k) h.is
    ∙ ap (λ (es : List OkdEvent). list_any (is_up_of s k) es) (sees a.number a.okd before (events_of a.number a.okd) h.grows refl)

pub none_columns : (a b : Sat) → OnlyColumns a b → NoneCame a b
none_columns a b h s k i = list_any (is_up_of s k) (events_of (h.number_is i) (h.okd_is i))

pub none_same : (a b : Sat) → b ≡ a → NoneCame a b
none_same a b is s k = ap (λ (x : Sat). came_up x s k) is

-- what holds anyway holds where there is an error
pub on_err : {A X : Type 0} (r : Result A X) (P : Type 0) → P → OnErr r P
on_err (Ok a) P p = tt
on_err (Err e) P p = p
