-- The seats of all numbers, joined into those of one.
use Rattle.std.proofs.Common.{◌≡◌, ◌⊎◌, inl, inr, ℕ, List, [], ◌∷◌, ◌++◌, map, reverse, length, sym, ap, ◌∙◌, subst, ⊎_elim}
use Rattle.std.proofs.lemmas.List.{length-map, length-reverse}
use Rattle.okws_base.specs.Turns.{GrowsBy}
use Rattle.monitor_model.specs.declared.record.CellEvent.{CellEvent}
use Rattle.site_cells.specs.Held.{by_event}
use Rattle.turn_lock.specs.Seats.{SeatIs, HasSight, sights}
use Rattle.turn_lock.specs.Rows.{RowHas, GrownRow, JoinedRow}
use Rattle.turn_lock.proofs.Rows.{grown-joined}
use Rattle.turn_lock.proofs.Gathers.{has_sight-append}
use Rattle.site_cells.specs.Row.{AllAlone, CellsSeen}
use Rattle.site_cells.specs.Closing.{cell_seat, CellsGrow, AllCellsGrow, HasNumber, Joining}
use Rattle.site_cells.proofs.Places.{events_at, seen_of}

-- what a row of one number's seats tells of it
row_grows : (k n : ℕ) (as' : List (SeatIs CellEvent)) (Js : List (List CellEvent)) → AllAlone n as' → GrownRow (by_event k) (map cell_seat as') Js → CellsGrow k n (map events_at as') Js
row_grows k n [] [] h g = tt
row_grows k n [] (J ∷ Js) h g = absurd g
row_grows k n (a ∷ as') [] h g = absurd g
row_grows k n (a ∷ as') (J ∷ Js) h g = (subst (λ m. GrowsBy (by_event k) m (events_at a) J) h.0 g.0.0, row_grows k n as' Js h.2 g.1)

pub own_grows : (k n : ℕ) (as' : List (SeatIs CellEvent)) (a : CellsSeen) (Js : List (List CellEvent)) → AllAlone n as' → seen_of n as' ≡ a → GrownRow (by_event k) (map cell_seat as') Js → CellsGrow k a.number a.cells Js
own_grows k n as' a Js h is g = subst (λ (x : CellsSeen). CellsGrow k x.number x.cells Js) is (row_grows k n as' Js h g)

row_has : (n : ℕ) (as' : List (SeatIs CellEvent)) → AllAlone n as' → RowHas n (map cell_seat as')
row_has n [] h = tt
row_has n (a ∷ as') h = (inl h.0, row_has n as' h.2)

pub own_has : (n : ℕ) (as' : List (SeatIs CellEvent)) (a : CellsSeen) → AllAlone n as' → seen_of n as' ≡ a → RowHas a.number (map cell_seat as')
own_has n as' a h is = subst (λ m. RowHas m (map cell_seat as')) (ap (λ (x : CellsSeen). x.number) is) (row_has n as' h)

-- a joined row has what both rows had
has_joined : (by : CellEvent → ℕ) (k : ℕ) (os as' bs : List (SeatIs CellEvent)) → JoinedRow by os as' bs → RowHas k os ⊎ RowHas k as' → RowHas k bs
has_joined by k [] [] [] j h = tt
has_joined by k [] [] (b ∷ bs) j h = absurd j
has_joined by k [] (a ∷ as') bs j h = absurd j
has_joined by k (o ∷ os) [] bs j h = absurd j
has_joined by k (o ∷ os) (a ∷ as') [] j h = absurd j
has_joined by k (o ∷ os) (a ∷ as') (b ∷ bs) j (inl h) =
    (subst (λ (x : SeatIs CellEvent). HasSight k (sights x)) (sym j.0.is) (inr (has_sight-append k (sights o) a.olds (inl h.0))), has_joined by k os as' bs j.1 (inl h.1))
has_joined by k (o ∷ os) (a ∷ as') (b ∷ bs) j (inr h) =
    (subst (λ (x : SeatIs CellEvent). HasSight k (sights x)) (sym j.0.is) (⊎_elim (λ (y : a.number ≡ k). inl y) (λ (y : HasSight k a.olds). inr (has_sight-append k (sights o) a.olds (inr y))) h.0), has_joined by k os as' bs j.1 (inr h.1))

module _ (k n : ℕ) (os old new : List (SeatIs CellEvent)) (a : CellsSeen) (alone : AllAlone n os) (is : seen_of n os ≡ a) (joined : JoinedRow (by_event k) (map cell_seat os) old new) where
  pub told_both : (Js : List (List CellEvent)) → GrownRow (by_event k) new Js → GrownRow (by_event k) old Js × CellsGrow k a.number a.cells Js
  told_both Js g = let h = grown-joined (by_event k) (map cell_seat os) old new Js joined g in (h.1, own_grows k n os a Js alone is h.0)

  pub has_other : RowHas a.number new
  has_other = has_joined (by_event k) a.number (map cell_seat os) old new joined (inl (own_has n os a alone is))

  pub has_still : (m : ℕ) → RowHas m old → RowHas m new
  has_still m h = has_joined (by_event k) m (map cell_seat os) old new joined (inr h)

grow-push : (k : ℕ) (Js : List (List CellEvent)) (as' : List CellsSeen) (a : CellsSeen) → AllCellsGrow k as' Js → CellsGrow k a.number a.cells Js → AllCellsGrow k (as' ++ a ∷ []) Js
grow-push k Js [] a g h = (h, tt)
grow-push k Js (x ∷ as') a g h = (g.0, grow-push k Js as' a g.1 h)

number-pop : (n : ℕ) (as' : List CellsSeen) (a : CellsSeen) → HasNumber n (as' ++ a ∷ []) → (a.number ≡ n) ⊎ HasNumber n as'
number-pop n [] a (inl h) = inl h
number-pop n [] a (inr h) = absurd h
number-pop n (x ∷ as') a (inl h) = inr (inl h)
number-pop n (x ∷ as') a (inr h) = ⊎_elim (λ (y : a.number ≡ n). inl y) (λ (y : HasNumber n as'). inr (inr y)) (number-pop n as' a h)

module _ (k : ℕ) (all : List CellsSeen) where
  pub joins_first : (left : List CellsSeen) (a : CellsSeen) (ends : List (SeatIs CellEvent)) → all ≡ left ++ a ∷ [] → ((Js : List (List CellEvent)) → GrownRow (by_event k) ends Js → CellsGrow k a.number a.cells Js) → RowHas a.number ends → Joining k all left ends
  joins_first left a ends e told has = record {
    told = λ Js g h. subst (λ l. AllCellsGrow k l Js) (sym e) (grow-push k Js left a h (told Js g));
    numbers = λ n h. ⊎_elim (λ (x : a.number ≡ n). inl (subst (λ m. RowHas m ends) x has)) (λ (x : HasNumber n left). inr x) (number-pop n left a (subst (HasNumber n) e h));
  }

  pub joins_next : (more left : List CellsSeen) (a : CellsSeen) (ends now : List (SeatIs CellEvent)) → more ≡ left ++ a ∷ [] → ((Js : List (List CellEvent)) → GrownRow (by_event k) now Js → GrownRow (by_event k) ends Js × CellsGrow k a.number a.cells Js)
      → RowHas a.number now → ((m : ℕ) → RowHas m ends → RowHas m now) → Joining k all more ends → Joining k all left now
  joins_next more left a ends now e told has still j = record {
    told = λ Js g h. let b = told Js g in j.told Js b.0 (subst (λ l. AllCellsGrow k l Js) (sym e) (grow-push k Js left a h b.1));
    numbers = λ n h. ⊎_elim
        (λ (x : RowHas n ends). inl (still n x))
        (λ (x : HasNumber n more). ⊎_elim (λ (y : a.number ≡ n). inl (subst (λ m. RowHas m now) y has)) (λ (y : HasNumber n left). inr y) (number-pop n left a (subst (HasNumber n) e x)))
        (j.numbers n h);
  }

  pub joins_all : (left : List CellsSeen) (ends : List (SeatIs CellEvent)) → left ≡ [] → Joining k all left ends
      → ((Js : List (List CellEvent)) → GrownRow (by_event k) ends Js → AllCellsGrow k all Js) × ((n : ℕ) → HasNumber n all → RowHas n ends)
  joins_all left ends e j = (
    (λ Js g. j.told Js g (subst (λ l. AllCellsGrow k l Js) (sym e) tt)),
    (λ n h. ⊎_elim (λ (x : RowHas n ends). x) (λ (x : HasNumber n left). absurd (subst (HasNumber n) e x)) (j.numbers n h)),
  )

-- as many values as labels
pub as_many : {A B D : Type 0} (f : A → D) (g : B → D) (as' : List A) (bs : List B) → reverse (map f as') ≡ map g bs → length as' ≡ length bs
as_many f g as' bs p = sym (length-map as' f) ∙ (sym (length-reverse (map f as')) ∙ (ap length p ∙ length-map bs g))

pub as_many_here : {A B D : Type 0} (f : A → D) (g : B → D) (as' : List A) (bs : List B) → map f as' ≡ map g bs → length as' ≡ length bs
as_many_here f g as' bs p = sym (length-map as' f) ∙ (ap length p ∙ length-map bs g)
