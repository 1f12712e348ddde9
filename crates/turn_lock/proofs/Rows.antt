-- Rows of seats that are joined and ended from their ends.
use Rattle.std.proofs.Common.{◌≡◌, ◌⊎◌, inl, inr, ℕ, zero, suc, ◌+◌, ◌<◌, ◌≤◌, List, [], ◌∷◌, ◌++◌, map, reverse, length, get_or, set, refl, sym, ap, ◌∙◌, subst, ⊎_elim, arith, append_assoc, append-nil}
use Rattle.std.proofs.lemmas.List.{reverse-append, map-append}
use Rattle.okws_base.specs.Turns.{of}
use Rattle.turn_lock.specs.Seats.{TurnIs, SeatIs, sights, AllGrow, HasSight}
use Rattle.turn_lock.specs.Rows.{RestsAt, RestRow, RestRows, AllCount, IsJoined, JoinedRow, RowHas, SomeRowHas, GrownRow, GrownRows, NoneFrom, Rowing, Ending, RowsGathering}
use Rattle.turn_lock.proofs.Spots.{empty_of}
use Rattle.turn_lock.proofs.Reversed.{push_length}
use Rattle.turn_lock.proofs.Grows.{grows_on}
use Rattle.turn_lock.proofs.Gathers.{all_grow-split, has_sight-append}

module _ {A : Type 0} where
  pub split_last : (xs : List A) (k : ℕ) → length xs ≡ suc k → (front : List A) × (x : A) × (xs ≡ front ++ x ∷ []) × (length front ≡ k)
  split_last [] k e = absurd (omega arith)
  split_last (x ∷ []) k e = ([], x, refl, omega arith)
  split_last (x ∷ y ∷ xs) zero e = absurd (omega arith)
  split_last (x ∷ y ∷ xs) (suc k) e = let h = split_last (y ∷ xs) k (omega arith) in (x ∷ h.0, h.1, ap (λ l. x ∷ l) h.2, ap suc h.3)

  pub get_mid : (xs : List A) (x : A) (zs : List A) (d : A) (i : ℕ) → length xs ≡ i → get_or (xs ++ x ∷ zs) i d ≡ x
  get_mid [] x zs d zero e = refl
  get_mid [] x zs d (suc i) e = absurd (omega arith)
  get_mid (y ∷ xs) x zs d zero e = absurd (omega arith)
  get_mid (y ∷ xs) x zs d (suc i) e = get_mid xs x zs d i (omega arith)

  pub set_mid : (xs : List A) (x : A) (zs : List A) (y : A) (i : ℕ) → length xs ≡ i → set (xs ++ x ∷ zs) i y ≡ xs ++ y ∷ zs
  set_mid [] x zs y zero e = refl
  set_mid [] x zs y (suc i) e = absurd (omega arith)
  set_mid (z ∷ xs) x zs y zero e = absurd (omega arith)
  set_mid (z ∷ xs) x zs y (suc i) e = ap (λ l. z ∷ l) (set_mid xs x zs y i (omega arith))

  pub append_length : (xs ys : List A) → length (xs ++ ys) ≡ length xs + length ys
  append_length [] ys = omega arith
  append_length (x ∷ xs) ys = let h = append_length xs ys in omega arith

count_pop : (n : ℕ) (ts : List TurnIs) (t : TurnIs) → AllCount n (ts ++ t ∷ []) → AllCount n ts × (t.count ≡ n)
count_pop n [] t a = (tt, a.0)
count_pop n (u ∷ ts) t a = let h = count_pop n ts t a.1 in ((a.0, h.0), h.1)

module _ {E : Type 0} where
  pub rest_length : (ts : List TurnIs) (as' : List (SeatIs E)) → RestRow ts as' → length as' ≡ length ts
  rest_length [] [] r = refl
  rest_length [] (a ∷ as') r = absurd r
  rest_length (t ∷ ts) [] r = absurd r
  rest_length (t ∷ ts) (a ∷ as') r = ap suc (rest_length ts as' r.1)

  pub rest_at : (ts : List TurnIs) (as' : List (SeatIs E)) → RestRow ts as' → (i : ℕ) (t : TurnIs) (a : SeatIs E) → i < length as' → t ≡ get_or ts i t → a ≡ get_or as' i a → RestsAt t a
  rest_at ts [] r i t a l f e = absurd (omega arith)
  rest_at [] (x ∷ as') r i t a l f e = absurd r
  rest_at (u ∷ ts) (x ∷ as') r zero t a l f e = subst (λ (y : SeatIs E). RestsAt t y) (sym e) (subst (λ (y : TurnIs). RestsAt y x) (sym f) r.0)
  rest_at (u ∷ ts) (x ∷ as') r (suc i) t a l f e = rest_at ts as' r.1 i t a (omega arith) f e

  pub rest_set : (ts : List TurnIs) (as' : List (SeatIs E)) → RestRow ts as' → (i : ℕ) (t : TurnIs) (new : SeatIs E) → i < length as' → t ≡ get_or ts i t → RestsAt t new → RestRow ts (set as' i new)
  rest_set ts [] r i t new l f h = absurd (omega arith)
  rest_set [] (x ∷ as') r i t new l f h = absurd r
  rest_set (u ∷ ts) (x ∷ as') r zero t new l f h = (subst (λ (y : TurnIs). RestsAt y new) f h, r.1)
  rest_set (u ∷ ts) (x ∷ as') r (suc i) t new l f h = (r.0, rest_set ts as' r.1 i t new (omega arith) f h)

  -- a seat that rests, after a take and a give or a join
  pub rests_still : (t : TurnIs) (a b : SeatIs E) → RestsAt t a → b.lock ≡ a.lock → b.label ≡ a.label → b.held ≡ a.held → RestsAt t b
  rests_still t a b r l m h = record { lock = l ∙ r.lock; label_is = m ∙ r.label_is; free = h ∙ r.free }

  module _ (by : E → ℕ) (ts : List TurnIs) (all start : List (SeatIs E)) where
    pub rows_first : RestRow ts all → RestRow ts start → Rowing by ts all all start start
    rows_first a r = record {
      done = [];
      before = start;
      old = [];
      new = [];
      all_is = sym (append-nil all);
      start_is = sym (append-nil start);
      now_is = sym (append-nil start);
      alike = rest_length ts start r ∙ sym (rest_length ts all a);
      joined = tt;
      rest = r;
    }

    -- the index of the seat that was popped
    pub rows_short : (more left now : List (SeatIs E)) (o : SeatIs E) → more ≡ left ++ o ∷ [] → Rowing by ts all more start now → (length left < length now) × (length left < length ts)
    rows_short more left now o p r =
        let m = push_length left o in
        let q = ap length p in
        let k = r.alike in
        let n = ap length r.now_is ∙ append_length r.before r.new in
        let z = rest_length ts now r.rest in
        let x : length left < length now = omega arith in
        (x, omega arith)

    -- the seat that was popped
    pub rows_here : (more left now : List (SeatIs E)) (o : SeatIs E) (t : TurnIs) → more ≡ left ++ o ∷ [] → RestRow ts all → Rowing by ts all more start now → t ≡ get_or ts (length left) t → RestsAt t o
    rows_here more left now o t p a r at =
        let e = r.all_is ∙ (ap (λ l. l ++ r.done) p ∙ append_assoc left (o ∷ []) r.done) in
        let l = ap length e ∙ append_length left (o ∷ r.done) in
        let y : length left < length all = omega arith in
        rest_at ts all a (length left) t o y at (sym (ap (λ l. get_or l (length left) o) e ∙ get_mid left o r.done o (length left) refl))

    -- the seat that takes it in
    pub rows_taker : (more left now : List (SeatIs E)) (o a : SeatIs E) (t : TurnIs) → more ≡ left ++ o ∷ [] → Rowing by ts all more start now → t ≡ get_or ts (length left) t → a ≡ get_or now (length left) a → RestsAt t a
    rows_taker more left now o a t p r at here = rest_at ts now r.rest (length left) t a (rows_short more left now o p r).0 at here

    pub rows_next : (more left now : List (SeatIs E)) (o a b : SeatIs E) (t : TurnIs) → more ≡ left ++ o ∷ [] → RestRow ts all → t ≡ get_or ts (length left) t → a ≡ get_or now (length left) a → IsJoined by o a b
        → Rowing by ts all more start now → Rowing by ts all left start (set now (length left) b)
    rows_next more left now o a b t p at turn here is r =
        let m = push_length left o in
        let q = ap length p in
        let k = r.alike in
        let s = split_last r.before (length left) (omega arith) in
        let w = rows_short more left now o p r in
        let now_is : now ≡ s.0 ++ s.1 ∷ r.new = r.now_is ∙ (ap (λ l. l ++ r.new) s.2 ∙ append_assoc s.0 (s.1 ∷ []) r.new) in
        let same : a ≡ s.1 = here ∙ (ap (λ l. get_or l (length left) a) now_is ∙ get_mid s.0 s.1 r.new a (length left) s.3) in
        let rested = rest_at ts now r.rest (length left) t a w.0 turn here in
        record {
          done = o ∷ r.done;
          before = s.0;
          old = s.1 ∷ r.old;
          new = b ∷ r.new;
          all_is = r.all_is ∙ (ap (λ l. l ++ r.done) p ∙ append_assoc left (o ∷ []) r.done);
          start_is = r.start_is ∙ (ap (λ l. l ++ r.old) s.2 ∙ append_assoc s.0 (s.1 ∷ []) r.old);
          now_is = ap (λ l. set l (length left) b) now_is ∙ set_mid s.0 s.1 r.new b (length left) s.3;
          alike = s.3;
          joined = (subst (λ (x : SeatIs E). IsJoined by o x b) same is, r.joined);
          rest = rest_set ts now r.rest (length left) t b w.0 turn
              (rests_still t a b rested (ap (λ (x : SeatIs E). x.lock) is.is) (ap (λ (x : SeatIs E). x.label) is.is) (ap (λ (x : SeatIs E). x.held) is.is));
        }

    pub rows_last : (left now : List (SeatIs E)) → left ≡ [] → Rowing by ts all left start now → JoinedRow by all start now
    rows_last left now none r =
        let e = r.all_is ∙ ap (λ l. l ++ r.done) none in
        let b = empty_of r.before (r.alike ∙ ap length none) in
        subst (λ (x : List (SeatIs E) × List (SeatIs E) × List (SeatIs E)). JoinedRow by x.0 x.1 x.2) (λ i. (sym e i, sym (r.start_is ∙ ap (λ l. l ++ r.old) b) i, sym (r.now_is ∙ ap (λ l. l ++ r.new) b) i)) r.joined

  rest_pop : (ts : List TurnIs) (as' : List (SeatIs E)) (t : TurnIs) (a : SeatIs E) → RestRow (ts ++ t ∷ []) (as' ++ a ∷ []) → RestRow ts as' × RestsAt t a
  rest_pop [] [] t a r = (tt, r.0)
  rest_pop [] (x ∷ []) t a r = absurd r.1
  rest_pop [] (x ∷ y ∷ as') t a r = absurd r.1
  rest_pop (u ∷ []) [] t a r = absurd r.1
  rest_pop (u ∷ v ∷ ts) [] t a r = absurd r.1
  rest_pop (u ∷ ts) (x ∷ as') t a r = let h = rest_pop ts as' t a r.1 in ((r.0, h.0), h.1)

  has_pop : (k : ℕ) (as' : List (SeatIs E)) (a : SeatIs E) → RowHas k (as' ++ a ∷ []) → RowHas k as' × HasSight k (sights a)
  has_pop k [] a h = (tt, h.0)
  has_pop k (x ∷ as') a h = let r = has_pop k as' a h.1 in ((h.0, r.0), r.1)

  module _ (by : E → ℕ) (n : ℕ) (all_ts : List TurnIs) (all : List (SeatIs E)) where
    pub ends_first : RestRow all_ts all → AllCount n all_ts → ((k : ℕ) → k < n → RowHas k all) → Ending by n all_ts all_ts all all [] []
    ends_first r counts covers = record {
      rest = r;
      counts = counts;
      covers = covers;
      ended = [];
      ended_ts = [];
      all_is = sym (append-nil all);
      all_ts_is = sym (append-nil all_ts);
      told = tt;
      none = tt;
      labelled = refl;
    }

    pub ends_here : (more_ts ts : List TurnIs) (more left : List (SeatIs E)) (t : TurnIs) (a : SeatIs E) (Js : List (List E)) (ls : List ℕ) → more_ts ≡ ts ++ t ∷ [] → more ≡ left ++ a ∷ [] → Ending by n more_ts all_ts more all Js ls
        → RestsAt t a × ((k : ℕ) → k < t.count → HasSight k (sights a))
    ends_here more_ts ts more left t a Js ls p q e =
        let r = rest_pop ts left t a (subst (λ (x : List TurnIs × List (SeatIs E)). RestRow x.0 x.1) (λ i. (p i, q i)) e.rest) in
        let c = (count_pop n ts t (subst (AllCount n) p e.counts)).1 in
        (r.1, λ k l. (has_pop k left a (subst (RowHas k) q (e.covers k (subst (λ m. k < m) c l)))).1)

    pub ends_next : (more_ts ts : List TurnIs) (more left : List (SeatIs E)) (t : TurnIs) (a : SeatIs E) (J : List E) (Js : List (List E)) (l : ℕ) (ls : List ℕ) → more_ts ≡ ts ++ t ∷ [] → more ≡ left ++ a ∷ []
        → AllGrow by (sights a) J → ((k : ℕ) → t.count ≤ k → of by k J ≡ []) → l ≡ a.label → Ending by n more_ts all_ts more all Js ls → Ending by n ts all_ts left all (J ∷ Js) (l ∷ ls)
    ends_next more_ts ts more left t a J Js l ls p q grow none label e =
        let r = rest_pop ts left t a (subst (λ (x : List TurnIs × List (SeatIs E)). RestRow x.0 x.1) (λ i. (p i, q i)) e.rest) in
        let c = count_pop n ts t (subst (AllCount n) p e.counts) in
        record {
          rest = r.0;
          counts = c.0;
          covers = λ k h. (has_pop k left a (subst (RowHas k) q (e.covers k h))).0;
          ended = a ∷ e.ended;
          ended_ts = t ∷ e.ended_ts;
          all_is = e.all_is ∙ (ap (λ x. x ++ e.ended) q ∙ append_assoc left (a ∷ []) e.ended);
          all_ts_is = e.all_ts_is ∙ (ap (λ x. x ++ e.ended_ts) p ∙ append_assoc ts (t ∷ []) e.ended_ts);
          told = (grow, e.told);
          none = ((λ k h. none k (subst (λ m. m ≤ k) (sym c.1) h)), e.none);
          labelled = ap (λ x. x ∷ map (λ (u : TurnIs). u.label) e.ended_ts) (sym (label ∙ r.1.label_is)) ∙ ap (λ x. l ∷ x) e.labelled;
        }

    pub ends_last : (ts : List TurnIs) (left : List (SeatIs E)) (Js : List (List E)) (ls : List ℕ) → ts ≡ [] → Ending by n ts all_ts left all Js ls
        → GrownRow by all Js × NoneFrom by n Js × (ls ≡ map (λ t. t.label) all_ts)
    ends_last ts left Js ls none e =
        let b = empty_of left (rest_length ts left e.rest ∙ ap length none) in (
          subst (λ x. GrownRow by x Js) (sym (e.all_is ∙ ap (λ x. x ++ e.ended) b)) e.told,
          e.none,
          sym (ap (map (λ (t : TurnIs). t.label)) (e.all_ts_is ∙ ap (λ x. x ++ e.ended_ts) none) ∙ e.labelled),
        )

  rests-pop : (ts : List TurnIs) (rs : List (List (SeatIs E))) (r : List (SeatIs E)) → RestRows ts (rs ++ r ∷ []) → RestRows ts rs × RestRow ts r
  rests-pop ts [] r a = (tt, a.0)
  rests-pop ts (q ∷ rs) r a = let h = rests-pop ts rs r a.1 in ((a.0, h.0), h.1)

  some-pop : (k : ℕ) (rs : List (List (SeatIs E))) (r : List (SeatIs E)) → SomeRowHas k (rs ++ r ∷ []) → RowHas k r ⊎ SomeRowHas k rs
  some-pop k [] r (inl h) = inl h
  some-pop k [] r (inr h) = absurd h
  some-pop k (q ∷ rs) r (inl h) = inr (inl h)
  some-pop k (q ∷ rs) r (inr h) = ⊎_elim (λ (x : RowHas k r). inl x) (λ (x : SomeRowHas k rs). inr (inr x)) (some-pop k rs r h)

  has-joined : (by : E → ℕ) (k : ℕ) (os as' bs : List (SeatIs E)) → JoinedRow by os as' bs → RowHas k os ⊎ RowHas k as' → RowHas k bs
  has-joined by k [] [] [] j h = tt
  has-joined by k [] [] (b ∷ bs) j h = absurd j
  has-joined by k [] (a ∷ as') bs j h = absurd j
  has-joined by k (o ∷ os) [] bs j h = absurd j
  has-joined by k (o ∷ os) (a ∷ as') [] j h = absurd j
  has-joined by k (o ∷ os) (a ∷ as') (b ∷ bs) j (inl h) =
      (subst (λ (x : SeatIs E). HasSight k (sights x)) (sym j.0.is) (inr (has_sight-append k (sights o) a.olds (inl h.0))), has-joined by k os as' bs j.1 (inl h.1))
  has-joined by k (o ∷ os) (a ∷ as') (b ∷ bs) j (inr h) =
      (subst (λ (x : SeatIs E). HasSight k (sights x)) (sym j.0.is) (⊎_elim (λ (y : a.number ≡ k). inl y) (λ (y : HasSight k a.olds). inr (has_sight-append k (sights o) a.olds (inr y))) h.0), has-joined by k os as' bs j.1 (inr h.1))

  module _ (by : E → ℕ) where
    grown-push : (Js : List (List E)) (rs : List (List (SeatIs E))) (r : List (SeatIs E)) → GrownRows by rs Js → GrownRow by r Js → GrownRows by (rs ++ r ∷ []) Js
    grown-push Js [] r a g = (g, tt)
    grown-push Js (q ∷ rs) r a g = (a.0, grown-push Js rs r a.1 g)

    -- what a joined row tells of both rows
    pub grown-joined : (os as' bs : List (SeatIs E)) (Js : List (List E)) → JoinedRow by os as' bs → GrownRow by bs Js → GrownRow by os Js × GrownRow by as' Js
    grown-joined [] [] [] [] j g = (tt, tt)
    grown-joined [] [] [] (J ∷ Js) j g = absurd g
    grown-joined [] [] (b ∷ bs) Js j g = absurd j
    grown-joined [] (a ∷ as') bs Js j g = absurd j
    grown-joined (o ∷ os) [] bs Js j g = absurd j
    grown-joined (o ∷ os) (a ∷ as') [] Js j g = absurd j
    grown-joined (o ∷ os) (a ∷ as') (b ∷ bs) [] j g = absurd g
    grown-joined (o ∷ os) (a ∷ as') (b ∷ bs) (J ∷ Js) j g =
        let h = grown-joined os as' bs Js j.1 g.1 in
        let all = subst (λ (x : SeatIs E). AllGrow by (sights x) J) j.0.is g.0 in
        let s = all_grow-split by (sights o) a.olds J all.1 in
        ((s.0, h.0), ((grows_on by a.number a.seen b.seen J j.0.grows all.0, s.1), h.1))

    module _ (ts : List TurnIs) (all : List (List (SeatIs E))) where
      pub gather_first : (left : List (List (SeatIs E))) (r : List (SeatIs E)) → all ≡ left ++ r ∷ [] → RestRows ts all → RowsGathering by ts all left r
      gather_first left r e a = let q = rests-pop ts left r (subst (RestRows ts) e a) in record {
        one_rests = q.1;
        left_rest = q.0;
        told = λ Js g c. subst (λ l. GrownRows by l Js) (sym e) (grown-push Js left r c g);
        numbers = λ k h. some-pop k left r (subst (SomeRowHas k) e h);
      }

      pub gather_rest : (more left : List (List (SeatIs E))) (r one : List (SeatIs E)) → more ≡ left ++ r ∷ [] → RowsGathering by ts all more one → RestRow ts r
      gather_rest more left r one e g = (rests-pop ts left r (subst (RestRows ts) e g.left_rest)).1

      pub gather_next : (more left : List (List (SeatIs E))) (r one now : List (SeatIs E)) → more ≡ left ++ r ∷ [] → JoinedRow by r one now → RestRow ts now → RowsGathering by ts all more one → RowsGathering by ts all left now
      gather_next more left r one now e j rest g = let q = rests-pop ts left r (subst (RestRows ts) e g.left_rest) in record {
        one_rests = rest;
        left_rest = q.0;
        told = λ Js w c.
            let s = grown-joined r one now Js j w in
            g.told Js s.1 (subst (λ l. GrownRows by l Js) (sym e) (grown-push Js left r c s.0));
        numbers = λ k h. ⊎_elim
            (λ (x : RowHas k one). inl (has-joined by k r one now j (inr x)))
            (λ (x : SomeRowHas k more). ⊎_elim (λ (y : RowHas k r). inl (has-joined by k r one now j (inl y))) (λ (y : SomeRowHas k left). inr y)
            (some-pop k left r (subst (SomeRowHas k) e x))) (g.numbers k h);
      }

      pub gather_all : (left : List (List (SeatIs E))) (one : List (SeatIs E)) → left ≡ [] → RowsGathering by ts all left one
          → ((Js : List (List E)) → GrownRow by one Js → GrownRows by all Js) × ((k : ℕ) → SomeRowHas k all → RowHas k one)
      gather_all left one e g = (
        (λ Js w. g.told Js w (subst (λ l. GrownRows by l Js) (sym e) tt)),
        (λ k h. ⊎_elim (λ (x : RowHas k one). x) (λ (x : SomeRowHas k left). absurd (subst (SomeRowHas k) e x)) (g.numbers k h)),
      )

-- a row of rows, by what they have, after a push and before a pop
pub pushed_map : {A B : Type 0} (f : A → B) (more left : List A) (x : A) → more ≡ left ++ x ∷ [] → map f more ≡ map f left ++ f x ∷ []
pushed_map f more left x e = ap (map f) e ∙ map-append f left (x ∷ [])

pub turned_push : {A B : Type 0} (f : A → B) (more left : List A) (x : A) → more ≡ left ++ x ∷ [] → reverse (map f more) ≡ f x ∷ reverse (map f left)
turned_push f more left x e = ap reverse (pushed_map f more left x e) ∙ reverse-append (map f left) (f x ∷ [])
