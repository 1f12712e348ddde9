-- What a turn leaves of a seat.
use Rattle.std.proofs.Common.{◌≡◌, ◌∙◌, ℕ, true, false, List, ◌∷◌, Option, Some, None, sym, ap, subst}
use Rattle.std.specs.Prelude.{Result, Ok, Err, IfOk, OnOk, OnErr}
use Rattle.okws_base.specs.Past.{Grant}
use Rattle.okws_base.specs.Turns.{GrowsBy, AddsBy}
use Rattle.okws_base.specs.declared.journal.Entry.{Entry}
use Rattle.named_columns.specs.Launched.{by_entry}
use Rattle.turn_lock.specs.Seats.{SeatIs}
use Rattle.named_columns.specs.Turns.{Enters, Sees, EntersAny, Stays, past_after}

-- seat a took its turn, as b, and found the entries J of a value that enters under w; d gave it back with the entries K
pub record Turned {E : Type 0} (w : ℕ) (J K : List (Entry E)) (a b d : SeatIs (Entry E)) : Type 0 where
  pub grows : GrowsBy by_entry a.number a.seen J
  pub took : b ≡ record a { seen = J; held = true }
  pub holder : w ≡ a.number
  pub free : a.held ≡ false
  pub gave : d ≡ record b { seen = K; held = false }

-- what was added may be given back
pub adds_own : {E : Type 0} (w : ℕ) (J K : List (Entry E)) (a b : SeatIs (Entry E)) → b ≡ record a { seen = J; held = true } → w ≡ a.number → AddsBy by_entry w J K → AddsBy by_entry b.number b.seen K
adds_own w J K a b took holder adds = subst (λ (x : SeatIs (Entry _)). AddsBy by_entry x.number x.seen K) (sym took) (subst (λ n. AddsBy by_entry n J K) holder adds)

left : {E : Type 0} (w : ℕ) (J K : List (Entry E)) (a b d : SeatIs (Entry E)) → Turned w J K a b d → d ≡ record { lock = a.lock; number = a.number; seen = K; held = a.held; label = a.label; olds = a.olds }
left w J K a b d t =
    t.gave ∙ (ap (λ (x : SeatIs (Entry _)). record x { seen = K; held = false }) t.took ∙ ap (λ h. record { lock = a.lock; number = a.number; seen = K; held = h; label = a.label; olds = a.olds }) (sym t.free))

pub enters : {E : Type 0} (event : E) (w : ℕ) (J K : List (Entry E)) (a b d : SeatIs (Entry E)) → Turned w J K a b d → K ≡ record { worker = w; event = event } ∷ J → Enters event J a d
enters event w J K a b d t is = record {
  grows = t.grows;
  is = left w J K a b d t ∙ ap (λ L. record { lock = a.lock; number = a.number; seen = L; held = a.held; label = a.label; olds = a.olds }) (is ∙ ap (λ n. record { worker = n; event = event } ∷ J) t.holder);
}

pub sees : {E : Type 0} (w : ℕ) (J K : List (Entry E)) (a b d : SeatIs (Entry E)) → Turned w J K a b d → K ≡ J → Sees J a d
sees w J K a b d t is = record { grows = t.grows; is = left w J K a b d t ∙ ap (λ L. record { lock = a.lock; number = a.number; seen = L; held = a.held; label = a.label; olds = a.olds }) is }

-- a call that has an answer enters one event
pub ok_enters : {A X E : Type 0} (r : Result A X) (P : A → List (Entry E) → Type 0) (event : E) (w : ℕ) (J K : List (Entry E)) (a b d : SeatIs (Entry E)) → Turned w J K a b d
    → IfOk r (λ v. P v J) → OnOk r (K ≡ record { worker = w; event = event } ∷ J) → IfOk r (λ v. (before : List (Entry E)) × P v before × Enters event before a d)
ok_enters (Ok v) P event w J K a b d t verdict ok = (J, verdict, enters event w J K a b d t ok)
ok_enters (Err x) P event w J K a b d t verdict ok = verdict

-- one whose memory is refused enters none
pub err_sees : {A X E : Type 0} (r : Result A X) (w : ℕ) (J K : List (Entry E)) (a b d : SeatIs (Entry E)) → Turned w J K a b d → OnErr r (K ≡ J) → OnErr r ((before : List (Entry E)) × Sees before a d)
err_sees (Ok v) w J K a b d t err = err
err_sees (Err x) w J K a b d t err = (J, sees w J K a b d t err)

-- the same of what the launcher alone calls
pub ok_launches : {A X E : Type 0} (r : Result A X) (grant : E → Grant) (event : E) (w : ℕ) (J K : List (Entry E)) (a b d : SeatIs (Entry E)) → Turned w J K a b d → Stays grant a.seen J
    → OnOk r (K ≡ record { worker = w; event = event } ∷ J) → OnOk r ((before : List (Entry E)) × Stays grant a.seen before × Enters event before a d)
ok_launches (Ok v) grant event w J K a b d t h ok = (J, h, enters event w J K a b d t ok)
ok_launches (Err x) grant event w J K a b d t h ok = ok

pub err_launches : {A X E : Type 0} (r : Result A X) (grant : E → Grant) (w : ℕ) (J K : List (Entry E)) (a b d : SeatIs (Entry E)) → Turned w J K a b d → Stays grant a.seen J
    → OnErr r (K ≡ J) → OnErr r ((before : List (Entry E)) × Stays grant a.seen before × Sees before a d)
err_launches (Ok v) grant w J K a b d t h err = err
err_launches (Err x) grant w J K a b d t h err = (J, h, sees w J K a b d t err)

-- a call that enters an event of what there was, if there was any
pub any_enters : {E : Type 0} (event : ℕ → E) (o : Option ℕ) (w : ℕ) (J K : List (Entry E)) (a b d : SeatIs (Entry E)) → Turned w J K a b d → K ≡ past_after event w o J → EntersAny event o J a d
any_enters event None w J K a b d t is = sees w J K a b d t is
any_enters event (Some k) w J K a b d t is = enters (event k) w J K a b d t is
