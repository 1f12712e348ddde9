-- Seats that are taken from a row at its end by a worker, and put back there.
use Rattle.std.proofs.Common.{◌≡◌, ℕ, suc, ◌+◌, ◌<◌, List, [], ◌∷◌, ◌++◌, length, get_or, set, refl, sym, ap, ◌∙◌, subst, arith}
use Rattle.std.specs.Prelude.{Result, Ok, Err, OnOk, false}
use Rattle.std.specs.Result.{is_err}
use Rattle.turn_lock.specs.Rows.{RestsAt}
use Rattle.turn_lock.specs.Seats.{TurnIs, SeatIs}
use Rattle.site_cells.specs.Row.{CellsSeen}
use Rattle.site_locks.specs.Sat.{Sat}
use Rattle.site_worker.specs.Lives.{Life}
use Rattle.launch_turns.specs.declared.deed.Deed.{Deed}
use Rattle.site_run.specs.Rows.{ChairsAre, IsChair, AreChairs, Seated, WorksAs}

-- a list with one more item at its end is one longer
pub push_length : {A : Type 0} (xs : List A) (x : A) → length (xs ++ x ∷ []) ≡ suc (length xs)
push_length [] x = refl
push_length (y ∷ xs) x = let h = push_length xs x in omega arith

module _ (t : TurnIs) (cells : ℕ) where
  -- there are as many seats at each place
  pub chairs_many : (k : ℕ) (ss : List Sat) (cs : List CellsSeen) (as' : List (SeatIs Deed)) → AreChairs t cells k ss cs as' → (length cs ≡ length ss) × (length as' ≡ length ss)
  chairs_many k [] [] [] h = (refl, refl)
  chairs_many k [] [] (a ∷ as') h = absurd h
  chairs_many k [] (c ∷ cs) as' h = absurd h
  chairs_many k (s ∷ ss) [] as' h = absurd h
  chairs_many k (s ∷ ss) (c ∷ cs) [] h = absurd h
  chairs_many k (s ∷ ss) (c ∷ cs) (a ∷ as') h = let m = chairs_many (suc k) ss cs as' h.1 in let n = m.0 in let o = m.1 in (omega arith, omega arith)

  -- the last seats have the greatest number
  pub chairs_pop : (k m : ℕ) (ss : List Sat) (s : Sat) (cs : List CellsSeen) (c : CellsSeen) (as' : List (SeatIs Deed)) (a : SeatIs Deed)
      → length cs ≡ length ss → length as' ≡ length ss → m ≡ length ss + k → AreChairs t cells k (ss ++ s ∷ []) (cs ++ c ∷ []) (as' ++ a ∷ [])
      → AreChairs t cells k ss cs as' × IsChair t cells m s c a
  chairs_pop k m [] s [] c [] a p q e h = (tt, subst (λ x. IsChair t cells x s c a) (let f : k ≡ m = omega arith in f) h.0)
  chairs_pop k m [] s [] c (b ∷ as') a p q e h = absurd (omega arith)
  chairs_pop k m [] s (d ∷ cs) c as' a p q e h = absurd (omega arith)
  chairs_pop k m (r ∷ ss) s [] c as' a p q e h = absurd (omega arith)
  chairs_pop k m (r ∷ ss) s (d ∷ cs) c [] a p q e h = absurd (omega arith)
  chairs_pop k m (r ∷ ss) s (d ∷ cs) c (b ∷ as') a p q e h =
      let rest = chairs_pop (suc k) m ss s cs c as' a (omega arith) (omega arith) (omega arith) h.1 in ((h.0, rest.0), rest.1)

  -- seats of the next number go to the end
  pub chairs_push : (k m : ℕ) (ss : List Sat) (s : Sat) (cs : List CellsSeen) (c : CellsSeen) (as' : List (SeatIs Deed)) (a : SeatIs Deed)
      → m ≡ length ss + k → AreChairs t cells k ss cs as' → IsChair t cells m s c a → AreChairs t cells k (ss ++ s ∷ []) (cs ++ c ∷ []) (as' ++ a ∷ [])
  chairs_push k m [] s [] c [] a e h i = (subst (λ x. IsChair t cells x s c a) (let f : m ≡ k = omega arith in f) i, tt)
  chairs_push k m [] s [] c (b ∷ as') a e h i = absurd h
  chairs_push k m [] s (d ∷ cs) c as' a e h i = absurd h
  chairs_push k m (r ∷ ss) s [] c as' a e h i = absurd h
  chairs_push k m (r ∷ ss) s (d ∷ cs) c [] a e h i = absurd h
  chairs_push k m (r ∷ ss) s (d ∷ cs) c (b ∷ as') a e h i = (h.0, chairs_push (suc k) m ss s cs c as' a (omega arith) h.1 i)

  -- a seat that saw more is still that seat
  seen_rests : (a : SeatIs Deed) (more : List Deed) → RestsAt t a → RestsAt t (record a { seen = more })
  seen_rests a more r = record { lock = r.lock; label_is = r.label_is; free = r.free }

  -- the first seat at the launcher saw more
  pub chairs_first : (k : ℕ) (ss : List Sat) (cs : List CellsSeen) (a b : SeatIs Deed) (as' : List (SeatIs Deed))
      → b ≡ record a { seen = b.seen } → AreChairs t cells k ss cs (a ∷ as') → AreChairs t cells k ss cs (b ∷ as')
  chairs_first k [] [] a b as' e h = absurd h
  chairs_first k [] (c ∷ cs) a b as' e h = absurd h
  chairs_first k (s ∷ ss) [] a b as' e h = absurd h
  chairs_first k (s ∷ ss) (c ∷ cs) a b as' e h =
      let i = h.0 in (
        subst (λ x. IsChair t cells k s c x) (sym e) (record { sat_number = i.sat_number; cells_number = i.cells_number; cells_are = i.cells_are; seat_number = i.seat_number; rests = seen_rests a b.seen i.rests }),
        h.1,
      )

  -- the first seat at the launcher rests there
  pub chairs_rest : (k : ℕ) (ss : List Sat) (cs : List CellsSeen) (a : SeatIs Deed) (as' : List (SeatIs Deed)) → AreChairs t cells k ss cs (a ∷ as') → RestsAt t a
  chairs_rest k [] [] a as' h = absurd h
  chairs_rest k [] (c ∷ cs) a as' h = absurd h
  chairs_rest k (s ∷ ss) [] a as' h = absurd h
  chairs_rest k (s ∷ ss) (c ∷ cs) a as' h = h.0.rests

module _ (t : TurnIs) (cells : ℕ) where
  -- the last seats of a row at each place
  pub chairs_last : (x : ChairsAre) (ss : List Sat) (s : Sat) (cs : List CellsSeen) (c : CellsSeen) (as' : List (SeatIs Deed)) (a : SeatIs Deed)
      → x.seats ≡ ss ++ s ∷ [] → x.cells ≡ cs ++ c ∷ [] → x.turns ≡ as' ++ a ∷ [] → Seated t cells x
      → AreChairs t cells 0 ss cs as' × IsChair t cells (length ss) s c a
  chairs_last x ss s cs c as' a e f g h =
      let m = chairs_many t cells 0 x.seats x.cells x.turns h in
      let m0 = m.0 in
      let m1 = m.1 in
      let p = ap length e ∙ push_length ss s in
      let q = ap length f ∙ push_length cs c in
      let r = ap length g ∙ push_length as' a in
      chairs_pop t cells 0 (length ss) ss s cs c as' a (omega arith) (omega arith) (omega arith)
      (subst (λ ys. AreChairs t cells 0 (ss ++ s ∷ []) (cs ++ c ∷ []) ys) g (subst (λ ys. AreChairs t cells 0 (ss ++ s ∷ []) ys x.turns) f (subst (λ ys. AreChairs t cells 0 ys x.cells x.turns) e h)))

  -- a worker that has these seats
  pub works_here : (k : ℕ) (s : Sat) (c : CellsSeen) (a : SeatIs Deed) (J : Life) → J.cells ≡ c → J.launcher ≡ a → IsChair t cells k s c a → WorksAs t k J
  works_here k s c a J e f h = record {
    number_is = ap (λ (x : CellsSeen). x.number) e ∙ h.cells_number;
    seat_number = ap (λ (x : SeatIs Deed). x.number) f ∙ h.seat_number;
    rests = subst (RestsAt t) (sym f) h.rests;
  }

  -- the seats that a worker gives back
  pub chair_back : (k : ℕ) (s : Sat) (c : CellsSeen) (a : SeatIs Deed) (J : Life) → s.number ≡ J.cells.number → c ≡ J.cells → a ≡ J.launcher → length c.cells ≡ cells → WorksAs t k J → IsChair t cells k s c a
  chair_back k s c a J n e f m w = record {
    sat_number = n ∙ w.number_is;
    cells_number = ap (λ (x : CellsSeen). x.number) e ∙ w.number_is;
    cells_are = m;
    seat_number = ap (λ (x : SeatIs Deed). x.number) f ∙ w.seat_number;
    rests = subst (RestsAt t) (sym f) w.rests;
  }

  -- they go to the end of the row
  pub chairs_back : (x : ChairsAre) (ss : List Sat) (cs : List CellsSeen) (as' : List (SeatIs Deed)) (s : Sat) (c : CellsSeen) (a : SeatIs Deed) (J : Life)
      → ss ≡ x.seats ++ s ∷ [] → cs ≡ x.cells ++ c ∷ [] → as' ≡ x.turns ++ a ∷ []
      → s.number ≡ J.cells.number → c ≡ J.cells → a ≡ J.launcher → length c.cells ≡ cells
      → WorksAs t (length x.seats) J → Seated t cells x → AreChairs t cells 0 ss cs as'
  chairs_back x ss cs as' s c a J p q r n e f m w h =
      let pushed = chairs_push t cells 0 (length x.seats) x.seats s x.cells c x.turns a (omega arith) h (chair_back (length x.seats) s c a J n e f m w) in
      subst (λ ys. AreChairs t cells 0 ss cs ys) (sym r) (subst (λ ys. AreChairs t cells 0 ss ys (x.turns ++ a ∷ [])) (sym q) (subst (λ ys. AreChairs t cells 0 ys (x.cells ++ c ∷ []) (x.turns ++ a ∷ [])) (sym p) pushed))

  first_named : (k : ℕ) (x s : Sat) (ss : List Sat) (c : CellsSeen) (cs : List CellsSeen) (a : SeatIs Deed) (as' : List (SeatIs Deed)) → s.number ≡ x.number
      → AreChairs t cells k (x ∷ ss) (c ∷ cs) (a ∷ as') → AreChairs t cells k (s ∷ ss) (c ∷ cs) (a ∷ as')
  first_named k x s ss c cs a as' n h =
      let i = h.0 in (record { sat_number = n ∙ i.sat_number; cells_number = i.cells_number; cells_are = i.cells_are; seat_number = i.seat_number; rests = i.rests }, h.1)

  -- the first seat at the launcher rests there
  pub first_rests : (k : ℕ) (ss : List Sat) (cs : List CellsSeen) (as' : List (SeatIs Deed)) (a : SeatIs Deed) → 0 < length as' → a ≡ get_or as' 0 a → AreChairs t cells k ss cs as' → RestsAt t a
  first_rests k ss cs [] a l e h = absurd (omega arith)
  first_rests k ss cs (b ∷ as') a l e h = subst (RestsAt t) (sym e) (chairs_rest t cells k ss cs b as' h)

  -- it saw more, and what number 0 did from its other seats names that number
  pub first_seen : (k : ℕ) (ss : List Sat) (r s : Sat) (cs : List CellsSeen) (as' : List (SeatIs Deed)) (a b : SeatIs Deed) → 0 < length as' → r ≡ get_or ss 0 r → s.number ≡ r.number
      → a ≡ get_or as' 0 a → b ≡ record a { seen = b.seen } → AreChairs t cells k ss cs as' → AreChairs t cells k (set ss 0 s) cs (set as' 0 b)
  first_seen k ss r s cs [] a b l p n e f h = absurd (omega arith)
  first_seen k [] r s [] (y ∷ as') a b l p n e f h = absurd h
  first_seen k [] r s (c ∷ cs) (y ∷ as') a b l p n e f h = absurd h
  first_seen k (x ∷ ss) r s [] (y ∷ as') a b l p n e f h = absurd h
  first_seen k (x ∷ ss) r s (c ∷ cs) (y ∷ as') a b l p n e f h =
      first_named k x s ss c cs b as' (n ∙ ap (λ (z : Sat). z.number) p)
      (chairs_first t cells k (x ∷ ss) (c ∷ cs) y b as' (f ∙ ap (λ (x : SeatIs Deed). record x { seen = b.seen }) e) h)

  -- number 0 has other seats of that number
  pub first_seat : (k : ℕ) (ss : List Sat) (r s : Sat) (cs : List CellsSeen) (as' : List (SeatIs Deed)) → r ≡ get_or ss 0 r → s.number ≡ r.number → AreChairs t cells k ss cs as' → AreChairs t cells k (set ss 0 s) cs as'
  first_seat k [] r s cs as' p n h = h
  first_seat k (x ∷ ss) r s [] as' p n h = absurd h
  first_seat k (x ∷ ss) r s (c ∷ cs) [] p n h = absurd h
  first_seat k (x ∷ ss) r s (c ∷ cs) (y ∷ as') p n h = first_named k x s ss c cs y as' (n ∙ ap (λ (z : Sat). z.number) p) h

  -- no seats
  pub none_seated : (x : ChairsAre) → x.seats ≡ [] → x.cells ≡ [] → x.turns ≡ [] → Seated t cells x
  none_seated x p q r =
      subst (λ ys. AreChairs t cells 0 x.seats x.cells ys) (sym r) (subst (λ ys. AreChairs t cells 0 x.seats ys []) (sym q) (subst (λ ys. AreChairs t cells 0 ys [] []) (sym p) tt))

-- what was made where nothing was refused
pub ok_of : {A X : Type 0} (r : Result A X) (P : Type 0) → is_err r ≡ false → OnOk r P → P
ok_of (Ok x) P is p = p
ok_of (Err e) P is p = let never : ⊥ = cc in absurd never
