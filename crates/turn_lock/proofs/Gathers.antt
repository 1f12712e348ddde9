-- Seats that are joined into one, one after another.
use Rattle.std.proofs.Common.{◌≡◌, ◌⊎◌, inl, inr, ℕ, List, [], ◌∷◌, ◌++◌, sym, subst, ⊎_elim, false}
use Rattle.atomic_table.specs.Seated.{TableId}
use Rattle.okws_base.specs.Turns.{GrowsBy}
use Rattle.turn_lock.specs.Seats.{SeatIs, Sight, sight, sights, AllGrow, AllClosed, AllRest, HasSight, SomeHas, Gathering}
use Rattle.turn_lock.proofs.Grows.{grows_on}

module _ {E : Type 0} (by : E → ℕ) where
  pub all_grow-split : (ms ns : List (Sight E)) (J : List E) → AllGrow by (ms ++ ns) J → AllGrow by ms J × AllGrow by ns J
  all_grow-split [] ns J a = (tt, a)
  all_grow-split (m ∷ ms) ns J a = let r = all_grow-split ms ns J a.1 in ((a.0, r.0), r.1)

  pub closed-push : (as' : List (SeatIs E)) (a : SeatIs E) (J : List E) → AllClosed by as' J → AllGrow by (sights a) J → AllClosed by (as' ++ a ∷ []) J
  closed-push [] a J c g = (g, tt)
  closed-push (b ∷ as') a J c g = (c.0, closed-push as' a J c.1 g)

module _ {E : Type 0} where
  pub has_sight-append : (k : ℕ) (ms ns : List (Sight E)) → HasSight k ms ⊎ HasSight k ns → HasSight k (ms ++ ns)
  has_sight-append k [] ns (inl h) = absurd h
  has_sight-append k [] ns (inr h) = h
  has_sight-append k (m ∷ ms) ns (inl (inl e)) = inl e
  has_sight-append k (m ∷ ms) ns (inl (inr h)) = inr (has_sight-append k ms ns (inl h))
  has_sight-append k (m ∷ ms) ns (inr h) = inr (has_sight-append k ms ns (inr h))

  pub some_has-pop : (k : ℕ) (as' : List (SeatIs E)) (a : SeatIs E) → SomeHas k (as' ++ a ∷ []) → HasSight k (sights a) ⊎ SomeHas k as'
  some_has-pop k [] a (inl h) = inl h
  some_has-pop k [] a (inr h) = absurd h
  some_has-pop k (b ∷ as') a (inl h) = inr (inl h)
  some_has-pop k (b ∷ as') a (inr h) = ⊎_elim (λ (q : HasSight k (sights a)). inl q) (λ (q : SomeHas k as'). inr (inr q)) (some_has-pop k as' a h)

  pub rest-pop : (z : TableId) (as' : List (SeatIs E)) (a : SeatIs E) → AllRest z (as' ++ a ∷ []) → AllRest z as' × (a.lock ≡ z) × (a.held ≡ false)
  rest-pop z [] a r = (tt, r.0, r.1)
  rest-pop z (b ∷ as') a r = let q = rest-pop z as' a r.2 in ((r.0, r.1, q.0), q.1, q.2)

module _ {E : Type 0} (by : E → ℕ) (z : TableId) where
  pub gathers_first : (all left : List (SeatIs E)) (a : SeatIs E) → all ≡ left ++ a ∷ [] → AllRest z all → Gathering by z all left a
  gathers_first all left a e r = let q = rest-pop z left a (subst (AllRest z) e r) in record {
    table = q.1;
    free = q.2;
    left_rest = q.0;
    told = λ J g c. subst (λ l. AllClosed by l J) (sym e) (closed-push by left a J c g);
    numbers = λ k h. some_has-pop k left a (subst (SomeHas k) e h);
  }

  pub gathers_rest : (all more left : List (SeatIs E)) (a one : SeatIs E) → more ≡ left ++ a ∷ [] → Gathering by z all more one → (a.lock ≡ z) × (a.held ≡ false)
  gathers_rest all more left a one e r = let q = rest-pop z left a (subst (AllRest z) e r.left_rest) in (q.1, q.2)

  pub gathers : (all more left : List (SeatIs E)) (a one : SeatIs E) (seen : List E) → more ≡ left ++ a ∷ [] → Gathering by z all more one → GrowsBy by one.number one.seen seen
      → Gathering by z all left record { lock = one.lock; number = one.number; seen = seen; held = one.held; label = one.label; olds = sight a ∷ a.olds ++ one.olds }
  gathers all more left a one seen e r grows = let q = rest-pop z left a (subst (AllRest z) e r.left_rest) in record {
    table = r.table;
    free = r.free;
    left_rest = q.0;
    told = λ J g c.
        let s = all_grow-split by (sights a) one.olds J g.1 in
        r.told J (grows_on by one.number one.seen seen J grows g.0, s.1) (subst (λ l. AllClosed by l J) (sym e) (closed-push by left a J c s.0));
    numbers = λ k h. ⊎_elim
        (λ (x : HasSight k (sights one)). inl (⊎_elim (λ (y : one.number ≡ k). inl y) (λ (y : HasSight k one.olds). inr (has_sight-append k (sights a) one.olds (inr y))) x))
        (λ (x : SomeHas k more). ⊎_elim (λ (y : HasSight k (sights a)). inl (inr (has_sight-append k (sights a) one.olds (inl y)))) (λ (y : SomeHas k left). inr y)
        (some_has-pop k left a (subst (SomeHas k) e x))) (r.numbers k h);
  }

  pub gathered : (all left : List (SeatIs E)) (one : SeatIs E) → left ≡ [] → Gathering by z all left one
      → ((J : List E) → AllGrow by (sights one) J → AllClosed by all J) × ((k : ℕ) → SomeHas k all → HasSight k (sights one))
  gathered all left one e r = (
    (λ J g. r.told J g (subst (λ l. AllClosed by l J) (sym e) tt)),
    (λ k h. ⊎_elim (λ (x : HasSight k (sights one)). x) (λ (x : SomeHas k left). absurd (subst (SomeHas k) e x)) (r.numbers k h)),
  )
