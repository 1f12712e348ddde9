-- What the events of others leave of a cell, and what one turn adds.
use Rattle.std.proofs.Common.{if◌then◌else◌, ◌≡◌, ◌≢◌, ℕ, Bool, true, false, List, [], ◌∷◌, ◌++◌, Option, Some, None, refl, sym, ap, ◌∙◌, subst, append-nil, append_assoc, eq-eqb, ne_eqb}
use Rattle.std.specs.Prelude.{IfSome, ◌==◌}
use mathlib.Core.Logic.{dite}
use native.Mathlib.Decide.{ℕ_discrete}
use Rattle.okws_base.specs.Turns.{of, AllBy, AddsBy, GrowsBy}
use Rattle.monitor_model.specs.declared.record.CellEvent.{CellEvent}
use Rattle.monitor_model.specs.declared.record.CellEvent.TheVariants as cell
use Rattle.monitor_model.specs.declared.record.End.{End}
use Rattle.monitor_model.specs.declared.record.End.TheVariants as end
use Rattle.okws_plan.specs.declared.configuration.Config.{Config}
use Rattle.okws_outer.specs.Wire.{Wire}
use Rattle.monitor_model.specs.Cell.{heard, incarnation, last_booted, after_end, said}
use Rattle.monitor_model.specs.Sent.{IsGiven, broken_in}
use Rattle.site_cells.specs.Held.{by_event, IsLinkOf}
use Rattle.site_cells.proofs.Taken.{quiet_taken}
use Rattle.turn_lock.specs.Seats.{SeatIs}

pub cons_nil : {A : Type 0} (x : A) (xs : List A) → x ∷ xs ≡ [] → ⊥
cons_nil x xs e = absurd (cc)

pub tail_none : (n : ℕ) (e : CellEvent) (more : List CellEvent) → of (by_event n) n (e ∷ more) ≡ [] → (by_event n e ≢ n) × (of (by_event n) n more ≡ [])
tail_none n e more none = dite (ℕ_discrete (by_event n e) n)
    (λ is. let t = eq-eqb (by_event n e) n is in absurd (cons_nil e (of (by_event n) n more) (subst (λ (b : Bool). (if b then e ∷ of (by_event n) n more else of (by_event n) n more) ≡ []) t none)))
    (λ not. let t = ne_eqb (by_event n e) n not in (not, subst (λ (b : Bool). (if b then e ∷ of (by_event n) n more else of (by_event n) n more) ≡ []) t none))

pub ends_empty : (how : End) (k : ℕ) → k ≡ 0 → after_end how k ≡ 0
ends_empty end.Reply k e = e
ends_empty (end.Superseded shown) k e = e
ends_empty end.BadFrame k e = refl
ends_empty end.Ended k e = refl
ends_empty end.LinkFault k e = refl
ends_empty end.FrameLimit k e = refl
ends_empty end.Starved k e = refl

-- a cell that was left without an incarnation stays so, but for the number that launches
pub empty_stays : (n : ℕ) (more J : List CellEvent) → of (by_event n) n more ≡ [] → incarnation J ≡ 0 → incarnation (more ++ J) ≡ 0
empty_stays n [] J none e = e
empty_stays n (cell.Boot k ∷ more) J none e = absurd ((tail_none n (cell.Boot k) more none).0 refl)
empty_stays n (cell.Retired ∷ more) J none e = refl
empty_stays n (cell.Missed worker wanted is ∷ more) J none e = empty_stays n more J (tail_none n (cell.Missed worker wanted is) more none).1 e
empty_stays n (cell.Dialog d ∷ more) J none e = ends_empty d.end (incarnation (more ++ J)) (empty_stays n more J (tail_none n (cell.Dialog d) more none).1 e)
empty_stays n (cell.Speaking worker items ∷ more) J none e = empty_stays n more J (tail_none n (cell.Speaking worker items) more none).1 e

-- others boot nothing
pub last_stays : (n : ℕ) (more J : List CellEvent) → of (by_event n) n more ≡ [] → last_booted (more ++ J) ≡ last_booted J
last_stays n [] J none = refl
last_stays n (cell.Boot k ∷ more) J none = absurd ((tail_none n (cell.Boot k) more none).0 refl)
last_stays n (cell.Retired ∷ more) J none = absurd ((tail_none n cell.Retired more none).0 refl)
last_stays n (cell.Missed worker wanted is ∷ more) J none = last_stays n more J (tail_none n (cell.Missed worker wanted is) more none).1
last_stays n (cell.Dialog d ∷ more) J none = last_stays n more J (tail_none n (cell.Dialog d) more none).1
last_stays n (cell.Speaking worker items ∷ more) J none = last_stays n more J (tail_none n (cell.Speaking worker items) more none).1

pub empty_grown : (n : ℕ) (I J : List CellEvent) → GrowsBy (by_event n) n I J → incarnation I ≡ 0 → incarnation J ≡ 0
empty_grown n I J g e = ap incarnation g.2 ∙ empty_stays n g.0 I g.1 e

pub last_grown : (n : ℕ) (I J : List CellEvent) → GrowsBy (by_event n) n I J → last_booted J ≡ last_booted I
last_grown n I J g = ap last_booted g.2 ∙ last_stays n g.0 I g.1

-- the events of a cell that was retired
abbrev pub retired_past : List CellEvent → List CellEvent
retired_past J = if incarnation J == 0 then J else cell.Retired ∷ J

pub retired_none : (J : List CellEvent) → incarnation (retired_past J) ≡ 0
retired_none J = dite (ℕ_discrete (incarnation J) 0)
    (λ is. let t = eq-eqb (incarnation J) 0 is in subst (λ (b : Bool). incarnation (if b then J else cell.Retired ∷ J) ≡ 0) (sym t) is)
    (λ not. let t = ne_eqb (incarnation J) 0 not in subst (λ (b : Bool). incarnation (if b then J else cell.Retired ∷ J) ≡ 0) (sym t) refl)

pub retired_last : (J : List CellEvent) → last_booted (retired_past J) ≡ last_booted J
retired_last J = dite (ℕ_discrete (incarnation J) 0)
    (λ is. let t = eq-eqb (incarnation J) 0 is in subst (λ (b : Bool). last_booted (if b then J else cell.Retired ∷ J) ≡ last_booted J) (sym t) refl)
    (λ not. let t = ne_eqb (incarnation J) 0 not in subst (λ (b : Bool). last_booted (if b then J else cell.Retired ∷ J) ≡ last_booted J) (sym t) refl)

-- nothing more goes over the link of a cell that was retired
still_link : (C : Config) (seed : List ℕ) (s : ℕ) (b : Bool) (J : List CellEvent) (wire : Wire) → IsLinkOf C seed s J wire → IsLinkOf C seed s (if b then J else cell.Retired ∷ J) wire
still_link C seed s true J wire h = h
still_link C seed s false J wire h = record {
  whose = h.whose;
  given = subst (λ (text : List ℕ). IsGiven text (broken_in (last_booted J) J) wire.given) (sym (append-nil (heard C seed s (last_booted J) J))) h.given;
  taken = quiet_taken (last_booted J) J (cell.Retired ∷ J) wire.came wire.left (append-nil (said (last_booted J) J)) refl h.taken;
  faults = h.faults;
}

pub retired_link : (C : Config) (seed : List ℕ) (s : ℕ) (J : List CellEvent) (link : Option Wire) → IfSome link (IsLinkOf C seed s J) → IfSome link (IsLinkOf C seed s (retired_past J))
retired_link C seed s J None h = tt
retired_link C seed s J (Some wire) h = still_link C seed s (incarnation J == 0) J wire h

module _ {E : Type 0} (by : E → ℕ) where
  all_by-append : (n : ℕ) (xs ys : List E) → AllBy by n xs → AllBy by n ys → AllBy by n (xs ++ ys)
  all_by-append n [] ys a b = b
  all_by-append n (x ∷ xs) ys a b = (a.0, all_by-append n xs ys a.1 b)

  pub adds_on : (n : ℕ) (I J K : List E) → AddsBy by n I J → AddsBy by n J K → AddsBy by n I K
  adds_on n I J K a b = (b.0 ++ a.0, all_by-append n b.0 a.0 b.1 a.1, b.2 ∙ (ap (λ l. b.0 ++ l) a.2 ∙ sym (append_assoc b.0 a.0 I)))

  pub adds_none : (n : ℕ) (J : List E) → AddsBy by n J J
  adds_none n J = ([], tt, refl)

  -- what was added in a turn, as the seat must tell
  pub given : (old new : SeatIs E) (h : ℕ) (I K : List E) → h ≡ old.number → new ≡ record { lock = old.lock; number = old.number; seen = I; held = true; label = old.label; olds = old.olds } → AddsBy by h I K → AddsBy by new.number new.seen K
  given old new h I K holder seat adds = subst (λ (a : SeatIs E). AddsBy by a.number a.seen K) (sym seat) (subst (λ m. AddsBy by m I K) holder adds)
