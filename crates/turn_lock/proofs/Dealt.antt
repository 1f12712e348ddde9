-- Seats of a row of locks that are dealt lock by lock.
use Rattle.std.proofs.Common.{◌≡◌, ℕ, suc, ◌+◌, List, [], ◌∷◌, ◌++◌, map, reverse, length, take, drop, refl, sym, ap, ◌∙◌, subst, arith, append_assoc, append-nil}
use Rattle.std.proofs.lemmas.List.{reverse-append, reverse-reverse, length-reverse, drop_all}
use Rattle.std.proofs.Math.Seq.{take-length}
use Rattle.turn_lock.specs.Seats.{TurnIs, SeatIs, IsFresh, AreFresh}
use Rattle.turn_lock.specs.Rows.{IsFreshRow, FreshRows, Beside, Extending, AllCount, AllNone}
use Rattle.turn_lock.proofs.Rows.{pushed_map}

module _ {S : Type 0} where
  pub beside_length : (rs : List (List S)) (as' : List S) (qs : List (List S)) → Beside rs as' qs → (length as' ≡ length rs) × (length qs ≡ length rs)
  beside_length [] [] [] b = (refl, refl)
  beside_length [] [] (q ∷ qs) b = absurd b
  beside_length [] (a ∷ as') qs b = absurd b
  beside_length (r ∷ rs) [] qs b = absurd b
  beside_length (r ∷ rs) (a ∷ as') [] b = absurd b
  beside_length (r ∷ rs) (a ∷ as') (q ∷ qs) b = let h = beside_length rs as' qs b.1 in (ap suc h.0, ap suc h.1)

  pub extends_first : (all : List (List S)) (seats : List S) (longer : List (List S)) → longer ≡ [] → Extending all all seats seats longer
  extends_first all seats longer none = record {
    done = [];
    done_seats = [];
    all_is = sym (append-nil all);
    seats_is = sym (append-nil seats);
    beside = subst (λ (l : List (List S)). Beside [] [] (reverse l)) (sym none) tt;
  }

  pub extends_next : (all more left : List (List S)) (seats more_seats left_seats : List S) (r q : List S) (a : S) (longer now : List (List S)) → more ≡ left ++ r ∷ [] → more_seats ≡ left_seats ++ a ∷ [] → q ≡ r ++ a ∷ [] → now ≡ longer ++ q ∷ []
      → Extending all more seats more_seats longer → Extending all left seats left_seats now
  extends_next all more left seats more_seats left_seats r q a longer now p s e n x = record {
    done = r ∷ x.done;
    done_seats = a ∷ x.done_seats;
    all_is = x.all_is ∙ (ap (λ l. l ++ x.done) p ∙ append_assoc left (r ∷ []) x.done);
    seats_is = x.seats_is ∙ (ap (λ l. l ++ x.done_seats) s ∙ append_assoc left_seats (a ∷ []) x.done_seats);
    beside = subst (λ l. Beside (r ∷ x.done) (a ∷ x.done_seats) l) (sym (ap reverse n ∙ reverse-append longer (q ∷ []))) (e, x.beside);
  }

  pub extends_last : (all left : List (List S)) (seats left_seats : List S) (longer : List (List S)) → left ≡ [] → left_seats ≡ [] → Extending all left seats left_seats longer → Beside all seats (reverse longer)
  extends_last all left seats left_seats longer p s x =
      subst (λ (l : List S). Beside all l (reverse longer)) (sym (x.seats_is ∙ ap (λ l. l ++ x.done_seats) s))
      (subst (λ (l : List (List S)). Beside l x.done_seats (reverse longer)) (sym (x.all_is ∙ ap (λ l. l ++ x.done) p)) x.beside)

module _ {E : Type 0} where
  fresh_row-push : (ts : List TurnIs) (t : TurnIs) (n : ℕ) (r : List (SeatIs E)) (a : SeatIs E) → IsFreshRow ts n r → IsFresh t.id t.label n a → IsFreshRow (ts ++ t ∷ []) n (r ++ a ∷ [])
  fresh_row-push [] t n [] a f h = (h, tt)
  fresh_row-push [] t n (x ∷ r) a f h = absurd f
  fresh_row-push (u ∷ ts) t n [] a f h = absurd f
  fresh_row-push (u ∷ ts) t n (x ∷ r) a f h = (f.0, fresh_row-push ts t n r a f.1 h)

  -- the seats of one more lock are dealt
  pub fresh_beside : (ts : List TurnIs) (t : TurnIs) (last : ℕ) (rs : List (List (SeatIs E))) (as' : List (SeatIs E)) (qs : List (List (SeatIs E))) → FreshRows ts last rs → AreFresh t.id t.label last as' → Beside rs as' qs → FreshRows (ts ++ t ∷ []) last qs
  fresh_beside ts t last [] [] [] f a b = tt
  fresh_beside ts t last [] [] (q ∷ qs) f a b = absurd b
  fresh_beside ts t last [] (x ∷ as') qs f a b = absurd b
  fresh_beside ts t last (r ∷ rs) [] qs f a b = absurd b
  fresh_beside ts t last (r ∷ rs) (x ∷ as') [] f a b = absurd b
  fresh_beside ts t last (r ∷ rs) (x ∷ as') (q ∷ qs) f a b =
      let l = beside_length rs as' qs b.1 in
      let h = subst (λ k. IsFresh t.id t.label (k + last) x) l.0 a.0 in
      let row = subst (IsFreshRow (ts ++ t ∷ []) (length rs + last)) (sym b.0) (fresh_row-push ts t (length rs + last) r x f.0 h) in
      (subst (λ k. IsFreshRow (ts ++ t ∷ []) (k + last) q) (sym l.1) row, fresh_beside ts t last rs as' qs f.1 a.1 b.1)

  pub empty-push : (rs : List (List (SeatIs E))) → FreshRows [] 0 rs → FreshRows [] 0 (rs ++ [] ∷ [])
  empty-push [] f = (tt, tt)
  empty-push (r ∷ rs) f = (empty_row r (length rs + 0) (length (rs ++ [] ∷ []) + 0) f.0, empty-push rs f.1) where
    empty_row : (r : List (SeatIs E)) (k m : ℕ) → IsFreshRow [] k r → IsFreshRow [] m r
    empty_row [] k m f = tt
    empty_row (x ∷ r) k m f = absurd f

  pub none-pop : (Js : List (List E)) (J : List E) → AllNone (Js ++ J ∷ []) → AllNone Js × (J ≡ [])
  none-pop [] J a = (tt, a.0)
  none-pop (I ∷ Js) J a = let h = none-pop Js J a.1 in ((a.0, h.0), h.1)

  pub none-push : (Js : List (List E)) (J : List E) → AllNone Js → J ≡ [] → AllNone (Js ++ J ∷ [])
  none-push [] J a e = (e, tt)
  none-push (I ∷ Js) J a e = (a.0, none-push Js J a.1 e)

  pub none-reverse : (Js : List (List E)) → AllNone Js → AllNone (reverse Js)
  none-reverse [] a = tt
  none-reverse (J ∷ Js) a = subst AllNone (sym (reverse-append (J ∷ []) Js)) (none-push (reverse Js) J (none-reverse Js a.1) a.0)

pub count-push : (n : ℕ) (ts : List TurnIs) (t : TurnIs) → AllCount n ts → t.count ≡ n → AllCount n (ts ++ t ∷ [])
count-push n [] t a e = (e, tt)
count-push n (u ∷ ts) t a e = (a.0, count-push n ts t a.1 e)

pub map-reverse : {A B : Type 0} (f : A → B) (xs : List A) → map f (reverse xs) ≡ reverse (map f xs)
map-reverse f [] = refl
map-reverse f (x ∷ xs) =
    ap (map f) (reverse-append (x ∷ []) xs)
    ∙ (pushed_map f (reverse xs ++ x ∷ []) (reverse xs) x refl ∙ (ap (λ l. l ++ f x ∷ []) (map-reverse f xs) ∙ sym (reverse-append (f x ∷ []) (map f xs))))

module _ {A : Type 0} (label : A → ℕ) where
  pub labels_first : (all left : List A) (ls : List ℕ) → left ≡ reverse all → ls ≡ [] → map label all ≡ ls ++ reverse (map label left)
  labels_first all left ls e none =
      sym (ap (λ l. l ++ reverse (map label left)) none ∙ (ap (λ l. reverse (map label l)) e ∙ (ap reverse (map-reverse label all) ∙ reverse-reverse (map label all))))

  pub labels_next : (all more left : List A) (v : A) (ls now : List ℕ) (l : ℕ) → more ≡ left ++ v ∷ [] → now ≡ ls ++ l ∷ [] → l ≡ label v → map label all ≡ ls ++ reverse (map label more) → map label all ≡ now ++ reverse (map label left)
  labels_next all more left v ls now l e n is i =
      i
      ∙ (ap (λ x. ls ++ x) (ap reverse (pushed_map label more left v e) ∙ reverse-append (map label left) (label v ∷ []))
      ∙ (ap (λ x. ls ++ x ∷ reverse (map label left)) (sym is)
      ∙ (sym (append_assoc ls (l ∷ []) (reverse (map label left))) ∙ ap (λ x. x ++ reverse (map label left)) (sym n))))

  pub labels_last : (all left : List A) (ls : List ℕ) → left ≡ [] → map label all ≡ ls ++ reverse (map label left) → ls ≡ map label all
  labels_last all left ls none i = sym (i ∙ (ap (λ l. ls ++ reverse (map label l)) none ∙ append-nil ls))

-- a whole slice that was turned round, put back
pub whole : {A : Type 0} (n : ℕ) (now xs : List A) → now ≡ reverse xs → n ≡ length xs → take n (now ++ drop (length now) xs) ≡ reverse xs
whole n now xs e l =
    let k : length now ≡ length xs = ap length e ∙ length-reverse xs in
    let d = drop_all (length now) xs (omega arith) in
    let m : n ≡ length now = l ∙ sym k in
    ap (λ r. take n (now ++ r)) d ∙ (ap (take n) (append-nil now) ∙ (ap (λ i. take i now) m ∙ (take-length now ∙ e)))
