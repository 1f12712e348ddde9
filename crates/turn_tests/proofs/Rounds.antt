-- Rows of seats that make their rounds.
use Rattle.std.proofs.Common.{◌≡◌, inl, inr, ℕ, zero, suc, ◌+◌, ◌<◌, List, [], ◌∷◌, ◌++◌, map, length, get_or, set, take, drop, slice_index_or, refl, sym, ap, append-nil, ◌∙◌, subst, ⊎_elim, arith}
use Rattle.std.proofs.Math.Seq.{take-length}
use Rattle.std.proofs.lemmas.List.{drop_all}
use mathlib.Core.Logic.{dite}
use native.Mathlib.Decide.{ℕ_discrete}
use Rattle.turn_lock.specs.Seats.{TurnIs, SeatIs, HasSight}
use Rattle.turn_lock.specs.Rows.{RestRow, RestRows, IsFreshRow, FreshRows, RowHas, SomeRowHas}
use Rattle.turn_tests.specs.Rounds.{SeenRow, SeenRows}

module _ {E : Type 0} where
  pub seen_same : (as' : List (SeatIs E)) → SeenRow as' as'
  seen_same [] = tt
  seen_same (a ∷ as') = (refl, seen_same as')

  pub seen_on : (as' bs cs : List (SeatIs E)) → SeenRow as' bs → SeenRow bs cs → SeenRow as' cs
  seen_on [] [] cs p q = q
  seen_on [] (b ∷ bs) cs p q = absurd p
  seen_on (a ∷ as') [] cs p q = absurd p
  seen_on (a ∷ as') (b ∷ bs) [] p q = absurd q
  seen_on (a ∷ as') (b ∷ bs) (c ∷ cs) p q =
      (q.0 ∙ ap (λ (x : SeatIs E). record { lock = x.lock; number = x.number; seen = c.seen; held = x.held; label = x.label; olds = x.olds }) p.0, seen_on as' bs cs p.1 q.1)

  pub seen_rest : (ts : List TurnIs) (as' bs : List (SeatIs E)) → SeenRow as' bs → RestRow ts as' → RestRow ts bs
  seen_rest [] [] [] p r = tt
  seen_rest [] [] (b ∷ bs) p r = absurd p
  seen_rest [] (a ∷ as') bs p r = absurd r
  seen_rest (t ∷ ts) [] bs p r = absurd r
  seen_rest (t ∷ ts) (a ∷ as') [] p r = absurd p
  seen_rest (t ∷ ts) (a ∷ as') (b ∷ bs) p r = (
    record {
      lock = ap (λ (x : SeatIs E). x.lock) p.0 ∙ r.0.lock;
      label_is = ap (λ (x : SeatIs E). x.label) p.0 ∙ r.0.label_is;
      free = ap (λ (x : SeatIs E). x.held) p.0 ∙ r.0.free;
    },
    seen_rest ts as' bs p.1 r.1,
  )

  pub seen_set : (as' : List (SeatIs E)) (i : ℕ) (a b : SeatIs E) → i < length as' → a ≡ get_or as' i a
      → b ≡ record { lock = a.lock; number = a.number; seen = b.seen; held = a.held; label = a.label; olds = a.olds } → SeenRow as' (set as' i b)
  seen_set [] i a b l e is = absurd (omega arith)
  seen_set (x ∷ as') zero a b l e is = (is ∙ ap (λ (y : SeatIs E). record { lock = y.lock; number = y.number; seen = b.seen; held = y.held; label = y.label; olds = y.olds }) e, seen_same as')
  seen_set (x ∷ as') (suc i) a b l e is = (refl, seen_set as' i a b (omega arith) e is)

  pub seen_length : (as' bs : List (SeatIs E)) → SeenRow as' bs → length bs ≡ length as'
  seen_length [] [] p = refl
  seen_length [] (b ∷ bs) p = absurd p
  seen_length (a ∷ as') [] p = absurd p
  seen_length (a ∷ as') (b ∷ bs) p = ap suc (seen_length as' bs p.1)

  seen_has : (k : ℕ) (as' bs : List (SeatIs E)) → SeenRow as' bs → RowHas k as' → RowHas k bs
  seen_has k [] [] p h = tt
  seen_has k [] (b ∷ bs) p h = absurd p
  seen_has k (a ∷ as') [] p h = absurd p
  seen_has k (a ∷ as') (b ∷ bs) p h = (
    ⊎_elim (λ (e : a.number ≡ k). inl (ap (λ (x : SeatIs E). x.number) p.0 ∙ e)) (λ (q : HasSight k a.olds). inr (subst (HasSight k) (sym (ap (λ (x : SeatIs E). x.olds) p.0)) q)) h.0,
    seen_has k as' bs p.1 h.1,
  )

  pub all_rest : (ts : List TurnIs) (rs qs : List (List (SeatIs E))) → SeenRows rs qs → RestRows ts rs → RestRows ts qs
  all_rest ts [] [] p r = tt
  all_rest ts [] (q ∷ qs) p r = absurd p
  all_rest ts (x ∷ rs) [] p r = absurd p
  all_rest ts (x ∷ rs) (q ∷ qs) p r = (seen_rest ts x q p.0 r.0, all_rest ts rs qs p.1 r.1)

  pub some_has : (k : ℕ) (rs qs : List (List (SeatIs E))) → SeenRows rs qs → SomeRowHas k rs → SomeRowHas k qs
  some_has k [] [] p h = h
  some_has k [] (q ∷ qs) p h = absurd p
  some_has k (x ∷ rs) [] p h = absurd p
  some_has k (x ∷ rs) (q ∷ qs) p (inl h) = inl (seen_has k x q p.0 h)
  some_has k (x ∷ rs) (q ∷ qs) p (inr h) = inr (some_has k rs qs p.1 h)

  fresh_row : (ts : List TurnIs) (n : ℕ) (r : List (SeatIs E)) → IsFreshRow ts n r → RestRow ts r
  fresh_row [] n [] f = tt
  fresh_row [] n (a ∷ r) f = absurd f
  fresh_row (t ∷ ts) n [] f = absurd f
  fresh_row (t ∷ ts) n (a ∷ r) f = (record { lock = f.0.lock; label_is = f.0.label_is; free = f.0.free }, fresh_row ts n r f.1)

  pub fresh_rest : (ts : List TurnIs) (last : ℕ) (rs : List (List (SeatIs E))) → FreshRows ts last rs → RestRows ts rs
  fresh_rest ts last [] f = tt
  fresh_rest ts last (r ∷ rs) f = (fresh_row ts (length rs + last) r f.0, fresh_rest ts last rs f.1)

  row_has : (ts : List TurnIs) (n : ℕ) (r : List (SeatIs E)) → IsFreshRow ts n r → RowHas n r
  row_has [] n [] f = tt
  row_has [] n (a ∷ r) f = absurd f
  row_has (t ∷ ts) n [] f = absurd f
  row_has (t ∷ ts) n (a ∷ r) f = (inl f.0.number_is, row_has ts n r f.1)

  pub fresh_has : (ts : List TurnIs) (k : ℕ) (rs : List (List (SeatIs E))) → FreshRows ts 0 rs → k < length rs → SomeRowHas k rs
  fresh_has ts k [] f l = absurd (omega arith)
  fresh_has ts k (r ∷ rs) f l = dite (ℕ_discrete k (length rs))
      (λ e. inl (subst (λ n. RowHas n r) (let q : length rs + 0 ≡ k = omega arith in q) (row_has ts (length rs + 0) r f.0)))
      (λ ne. inr (fresh_has ts k rs f.1 (omega arith)))

  -- each row of a list, after its rounds
  pub rounds_after : {Y : Type 0} (f : Y → List (SeatIs E)) (ts : List TurnIs) (old new : List Y) → length new ≡ length old → RestRows ts (map f old)
      → ((i : ℕ) (d : Y) → i < length old → SeenRow (f (slice_index_or old i d)) (f (slice_index_or new i d))) → SeenRows (map f old) (map f new)
  rounds_after f ts [] [] e a h = tt
  rounds_after f ts [] (q ∷ new) e a h = absurd (omega arith)
  rounds_after f ts (r ∷ old) [] e a h = absurd (omega arith)
  rounds_after f ts (r ∷ old) (q ∷ new) e a h = (h 0 q (omega arith), rounds_after f ts old new (omega arith) a.1 (λ i d l. h (suc i) d (omega arith)))

  pub rounds_ready : {Y : Type 0} (f : Y → List (SeatIs E)) (ts : List TurnIs) (old : List Y) (i : ℕ) (d : Y) → RestRows ts (map f old) → i < length old → RestRow ts (f (slice_index_or old i d))
  rounds_ready f ts [] i d a l = absurd (omega arith)
  rounds_ready f ts (r ∷ old) zero d a l = a.0
  rounds_ready f ts (r ∷ old) (suc i) d a l = rounds_ready f ts old i d a.1 (omega arith)

-- a whole slice, put back after it was changed
pub put_back : {A : Type 0} (n : ℕ) (now xs : List A) → length now ≡ length xs → n ≡ length xs → take n (now ++ drop (length now) xs) ≡ now
put_back n now xs k l =
    let d = drop_all (length now) xs (omega arith) in
    let m : n ≡ length now = l ∙ sym k in
    ap (λ r. take n (now ++ r)) d ∙ (ap (take n) (append-nil now) ∙ (ap (λ i. take i now) m ∙ take-length now))
