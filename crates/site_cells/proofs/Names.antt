-- Rows of fresh seats, which get names from their end.
use Rattle.std.proofs.Common.{◌≡◌, ℕ, zero, suc, ◌+◌, List, [], ◌∷◌, ◌++◌, map, reverse, length, get_or, false, refl, sym, ap, ◌∙◌, subst, arith}
use Rattle.std.proofs.lemmas.List.{length-map, length-reverse, reverse-append}
use Rattle.monitor_model.specs.declared.record.CellEvent.{CellEvent}
use Rattle.site_cells.specs.Held.{events_in, is_booted}
use Rattle.turn_lock.specs.Seats.{TurnIs, SeatIs}
use Rattle.turn_lock.specs.Rows.{RestRow, IsFreshRow, FreshRows, AllNone}
use Rattle.turn_lock.proofs.Reversed.{push_length}
use Rattle.site_cells.specs.Row.{AllAlone, CellsSeen, AreSeats, IsNew, AreNew}
use Rattle.site_cells.specs.Making.{Naming}
use Rattle.site_cells.proofs.Places.{booted_at, events_at, seen_of}

fresh_pop : (ts : List TurnIs) (last : ℕ) (rs : List (List (SeatIs CellEvent))) (r : List (SeatIs CellEvent)) → FreshRows ts last (rs ++ r ∷ []) → FreshRows ts (suc last) rs × IsFreshRow ts last r
fresh_pop ts last [] r f = (tt, subst (λ n. IsFreshRow ts n r) (let q : 0 + last ≡ last = omega arith in q) f.0)
fresh_pop ts last (q ∷ rs) r f =
    let h = fresh_pop ts last rs r f.1 in
    let m = push_length rs r in
    let e : length (rs ++ r ∷ []) + last ≡ length rs + suc last = omega arith in
    ((subst (λ n. IsFreshRow ts n q) e f.0, h.0), h.1)

row_rests : (ts : List TurnIs) (n : ℕ) (r : List (SeatIs CellEvent)) → IsFreshRow ts n r → RestRow ts r
row_rests [] n [] f = tt
row_rests [] n (a ∷ r) f = absurd f
row_rests (t ∷ ts) n [] f = absurd f
row_rests (t ∷ ts) n (a ∷ r) f = (record { lock = f.0.lock; label_is = f.0.label_is; free = f.0.free }, row_rests ts n r f.1)

row_alone : (ts : List TurnIs) (n : ℕ) (r : List (SeatIs CellEvent)) → IsFreshRow ts n r → AllAlone n r
row_alone [] n [] f = tt
row_alone [] n (a ∷ r) f = absurd f
row_alone (t ∷ ts) n [] f = absurd f
row_alone (t ∷ ts) n (a ∷ r) f = (f.0.number_is, f.0.alone, row_alone ts n r f.1)

row_none : (ts : List TurnIs) (n : ℕ) (r : List (SeatIs CellEvent)) → IsFreshRow ts n r → AllNone (map events_at r)
row_none [] n [] f = tt
row_none [] n (a ∷ r) f = absurd f
row_none (t ∷ ts) n [] f = absurd f
row_none (t ∷ ts) n (a ∷ r) f = (ap events_in f.0.seen, row_none ts n r f.1)

row_size : (ts : List TurnIs) (n : ℕ) (r : List (SeatIs CellEvent)) → IsFreshRow ts n r → length r ≡ length ts
row_size [] n [] f = refl
row_size [] n (a ∷ r) f = absurd f
row_size (t ∷ ts) n [] f = absurd f
row_size (t ∷ ts) n (a ∷ r) f = ap suc (row_size ts n r f.1)

row_unlinked : (ts : List TurnIs) (n : ℕ) (r : List (SeatIs CellEvent)) → IsFreshRow ts n r → (s : ℕ) → get_or (map booted_at r) s false ≡ false
row_unlinked [] n [] f s = refl
row_unlinked [] n (a ∷ r) f s = absurd f
row_unlinked (t ∷ ts) n [] f s = absurd f
row_unlinked (t ∷ ts) n (a ∷ r) f zero = ap is_booted f.0.seen
row_unlinked (t ∷ ts) n (a ∷ r) f (suc s) = row_unlinked ts n r f.1 s

is_new : (ts : List TurnIs) (n : ℕ) (r : List (SeatIs CellEvent)) → IsFreshRow ts n r → IsNew (length ts) n (seen_of n r)
is_new ts n r f = record { number_is = refl; cells_are = length-map r events_at ∙ row_size ts n r f; none = row_none ts n r f; unlinked = row_unlinked ts n r f }

module _ (ts : List TurnIs) where
  pub naming_first : (rows : List (List (SeatIs CellEvent))) (n : ℕ) (done : List CellsSeen) → n ≡ length rows → done ≡ [] → FreshRows ts 0 rows → Naming ts n rows done 0
  naming_first rows n done count none f = record {
    fresh = f;
    named = subst (λ d. AreNew (length ts) 0 (reverse d)) (sym none) tt;
    number_is = sym (ap length none);
    count_is = (let e = ap length none in let k = count in omega arith);
  }

  module _ (n : ℕ) (more left : List (List (SeatIs CellEvent))) (r : List (SeatIs CellEvent)) (done : List CellsSeen) (number : ℕ) (e : more ≡ left ++ r ∷ []) (h : Naming ts n more done number) where
    pub seats_popped : AreSeats ts number r
    seats_popped =
        let f = (fresh_pop ts number left r (subst (FreshRows ts number) e h.fresh)).1 in
        record { rest = row_rests ts number r f; alone = row_alone ts number r f }

    pub naming_next : (now : List CellsSeen) → now ≡ done ++ seen_of number r ∷ [] → Naming ts n left now (suc number)
    naming_next now put =
        let f = fresh_pop ts number left r (subst (FreshRows ts number) e h.fresh) in
        let size = ap length put ∙ push_length done (seen_of number r) in
        let turned : reverse now ≡ seen_of number r ∷ reverse done = ap reverse put ∙ reverse-append done (seen_of number r ∷ []) in
        let at : number ≡ length (reverse done) + 0 = (let k = length-reverse done in let q = h.number_is in omega arith) in
        record {
          fresh = f.0;
          named = subst (AreNew (length ts) 0) (sym turned) (subst (λ k. IsNew (length ts) k (seen_of number r)) at (is_new ts number r f.1), h.named);
          number_is = (let q = h.number_is in omega arith);
          count_is = (let m = ap length e ∙ push_length left r in let c = h.count_is in omega arith);
        }

  pub naming_last : (n : ℕ) (left : List (List (SeatIs CellEvent))) (done : List CellsSeen) (number : ℕ) → left ≡ [] → Naming ts n left done number → AreNew (length ts) 0 (reverse done) × (length done ≡ n)
  naming_last n left done number none h = (h.named, (let e = ap length none in let c = h.count_is in omega arith))
