-- What the lock tells of journals with the oldest entry first, told with the newest first.
use Rattle.std.proofs.Common.{◌≡◌, inl, inr, ℕ, suc, ◌+◌, List, [], ◌∷◌, ◌++◌, map, reverse, length, drop, refl, sym, ap, ◌∙◌, subst, ⊎_elim, arith, append_assoc, append-nil, eq-eqb, ne_eqb, Option}
use mathlib.Core.Logic.{dite}
use native.Mathlib.Decide.{ℕ_discrete}
use Rattle.std.proofs.Math.Seq.{drop-append_seam}
use Rattle.std.proofs.lemmas.List.{reverse-append, reverse-reverse, append_cancel_left}
use Rattle.atomic_table.specs.Seated.{TableId}
use Rattle.atomic_table.specs.declared.shared.Seat.{Seat}
use Rattle.turn_lock.specs.declared.rule.View.{View}
use Rattle.turn_lock.specs.declared.rule.Part.{Part}
use Rattle.turn_lock.specs.Tickets.{StartsWith, Goes, HasNumber, AllTold, IsNew, AreNew}
use Rattle.okws_base.specs.Turns.{of, AllBy}
use Rattle.turn_lock.proofs.Views.{of-append, of-own}
use Rattle.turn_lock.specs.Seats.{Sight, SeatIs, AllGrow, HasSight, sight_of, AllComplete, seat_of, IsSeat, IsFresh, AreFresh}
use Rattle.okws_base.specs.Turns.{GrowsBy, AddsBy}
use Rattle.okws_base.specs.Turns.{Behind}

module _ {E : Type 0} (by : E → ℕ) where
  of-one : (k : ℕ) (x : E) → of by k (x ∷ []) ≡ reverse (of by k (x ∷ []))
  of-one k x = dite (ℕ_discrete (by x) k)
      (λ e. let t = eq-eqb (by x) k e in rw t refl)
      (λ ne. let t = ne_eqb (by x) k ne in rw t refl)

  pub of-reverse : (k : ℕ) (xs : List E) → of by k (reverse xs) ≡ reverse (of by k xs)
  of-reverse k [] = refl
  of-reverse k (x ∷ xs) =
      ap (of by k) (reverse-append (x ∷ []) xs)
      ∙ (of-append by k (reverse xs) (x ∷ [])
      ∙ (ap (λ l. l ++ of by k (x ∷ [])) (of-reverse k xs)
      ∙ (ap (λ l. reverse (of by k xs) ++ l) (of-one k x)
      ∙ (sym (reverse-append (of by k (x ∷ [])) (of by k xs))
      ∙ sym (ap reverse (of-append by k (x ∷ []) xs))))))

  pub none_turned : (k : ℕ) (xs : List E) → of by k xs ≡ [] → of by k (reverse xs) ≡ []
  none_turned k xs e = of-reverse k xs ∙ ap reverse e

  none_after : (n : ℕ) (seen rest : List E) → of by n (seen ++ rest) ≡ of by n seen → of by n rest ≡ []
  none_after n seen rest e = append_cancel_left (of by n seen) (of by n rest) [] (sym (of-append by n seen rest) ∙ (e ∙ sym (append-nil (of by n seen))))

  -- the journal that was taken, on what was seen
  pub grown : (n : ℕ) (seen own J : List E) → StartsWith (reverse J) seen → of by n (reverse J) ≡ own → of by n seen ≡ own → GrowsBy by n (reverse seen) J
  grown n seen own J s t c = (
    reverse s.0,
    none_turned n s.0 (none_after n seen s.0 (ap (of by n) (sym s.1) ∙ (t ∙ sym c))),
    sym (reverse-reverse J) ∙ (ap reverse s.1 ∙ reverse-append seen s.0),
  )

  all_by-append : (n : ℕ) (xs ys : List E) → AllBy by n xs → AllBy by n ys → AllBy by n (xs ++ ys)
  all_by-append n [] ys a b = b
  all_by-append n (x ∷ xs) ys a b = (a.0, all_by-append n xs ys a.1 b)

  all_turned : (n : ℕ) (xs : List E) → AllBy by n xs → AllBy by n (reverse xs)
  all_turned n [] a = tt
  all_turned n (x ∷ xs) a = subst (AllBy by n) (sym (reverse-append (x ∷ []) xs)) (all_by-append n (reverse xs) (x ∷ []) (all_turned n xs a.1) (a.0, tt))

  turned_adds : (seen more J : List E) → J ≡ more ++ reverse seen → reverse J ≡ seen ++ reverse more
  turned_adds seen more J e = ap reverse e ∙ (reverse-append more (reverse seen) ∙ ap (λ l. l ++ reverse more) (reverse-reverse seen))

  -- what may be given back
  pub goes : (n : ℕ) (seen J : List E) → AddsBy by n (reverse seen) J → Goes by n seen (reverse J)
  goes n seen J a = (reverse a.0, turned_adds seen a.0 J a.2, all_turned n a.0 a.1)

  pub complete_given : (n : ℕ) (seen own J : List E) → AddsBy by n (reverse seen) J → of by n seen ≡ own → of by n (reverse J) ≡ own ++ drop (length seen) (reverse J)
  complete_given n seen own J a c =
      let e = turned_adds seen a.0 J a.2 in
      ap (of by n) e
      ∙ (of-append by n seen (reverse a.0)
      ∙ (ap (λ l. l ++ of by n (reverse a.0)) c
      ∙ (ap (λ l. own ++ l) (of-own by n (reverse a.0) (all_turned n a.0 a.1)
      ∙ sym (ap (drop (length seen)) e ∙ drop-append_seam seen (reverse a.0))))))

  nothing_of : (xs ys : List E) → [] ≡ xs ++ ys → xs ≡ []
  nothing_of [] ys e = refl
  nothing_of (x ∷ xs) ys e = absurd (cc)

  -- what was learned by a join or a note was made by others
  none_learned : (n : ℕ) (seen own now rest more : List E) → now ≡ seen ++ rest → own ≡ of by n now ++ more → of by n seen ≡ own → of by n rest ≡ []
  none_learned n seen own now rest more s o c =
      let parts : of by n now ≡ own ++ of by n rest = ap (of by n) s ∙ (of-append by n seen rest ∙ ap (λ l. l ++ of by n rest) c) in
      let all : own ++ [] ≡ own ++ (of by n rest ++ more) = append-nil own ∙ (o ∙ (ap (λ l. l ++ more) parts ∙ append_assoc own (of by n rest) more)) in
      nothing_of (of by n rest) more (append_cancel_left own [] (of by n rest ++ more) all)

  pub complete_learned : (n : ℕ) (seen own now : List E) → StartsWith now seen → StartsWith own (of by n now) → of by n seen ≡ own → of by n now ≡ own
  complete_learned n seen own now s o c =
      ap (of by n) s.1 ∙ (of-append by n seen s.0 ∙ (ap (λ l. l ++ of by n s.0) c ∙ (ap (λ l. own ++ l) (none_learned n seen own now s.0 o.0 s.1 o.1 c) ∙ append-nil own)))

  pub grown_learned : (n : ℕ) (seen own now : List E) → StartsWith now seen → StartsWith own (of by n now) → of by n seen ≡ own → GrowsBy by n (reverse seen) (reverse now)
  grown_learned n seen own now s o c = (
    reverse s.0,
    none_turned n s.0 (none_learned n seen own now s.0 o.0 s.1 o.1 c),
    ap reverse s.1 ∙ reverse-append seen s.0,
  )

  pub complete-append : (ps qs : List (Part E)) → AllComplete by ps → AllComplete by qs → AllComplete by (ps ++ qs)
  complete-append [] qs a b = b
  complete-append (p ∷ ps) qs a b = (a.0, complete-append ps qs a.1 b)

  pub all_grown : (J : List E) (ps : List (Part E)) → AllTold by (reverse J) ps → AllComplete by ps → AllGrow by (map sight_of ps) J
  all_grown J [] t c = tt
  all_grown J (p ∷ ps) t c = (grown p.number p.seen p.own J t.0 t.1 c.0, all_grown J ps t.2 c.1)

  pub none_of : (k : ℕ) (J : List E) → of by k (reverse J) ≡ [] → of by k J ≡ []
  none_of k J e = ap (of by k) (sym (reverse-reverse J)) ∙ none_turned k (reverse J) e

pub behind : {E : Type 0} (seen now : List E) → StartsWith now seen → Behind (reverse seen) (reverse now)
behind seen now s = (reverse s.0, ap reverse s.1 ∙ reverse-append seen s.0)

pub has_number : {E : Type 0} (k : ℕ) (ps : List (Part E)) → HasSight k (map sight_of ps) → HasNumber k ps
has_number k [] h = h
has_number k (p ∷ ps) h = ⊎_elim (λ e. inl e) (λ (t : HasSight k (map sight_of ps)). inr (has_number k ps t)) h

module _ {Y X E : Type 0} (f : Y → Seat (Option X) (View E)) where
  pub new-pop : (z : TableId) (tag k : ℕ) (ys : List Y) (y : Y) → AreNew z tag k (map f (ys ++ y ∷ [])) → AreNew z tag k (map f ys) × IsNew z tag (k + length ys) (f y)
  new-pop z tag k [] y a = (tt, subst (λ n. IsNew z tag n (f y)) (omega arith) a.0)
  new-pop z tag k (x ∷ ys) y a = let h = new-pop z tag (suc k) ys y a.1 in ((a.0, h.0), subst (λ n. IsNew z tag n (f y)) (omega arith) h.1)

pub is_seat : {X E : Type 0} (by : E → ℕ) (z : TableId) (tag n : ℕ) (p : Seat (Option X) (View E)) → IsNew z tag n p → IsSeat by p
is_seat by z tag n p a = record {
  numbered = a.1.1;
  complete = (ap (λ (q : Part _). of by q.number q.seen) a.2 ∙ sym (ap (λ (q : Part _). q.own) a.2), subst (AllComplete by) (sym a.3) tt);
  out = subst (λ s. Rattle.turn_lock.specs.Seats.IsOut s p.me.1) (sym a.1.0) a.1.2;
}

pub is_fresh : {X E : Type 0} (z : TableId) (tag n : ℕ) (p : Seat (Option X) (View E)) → IsNew z tag n p → IsFresh z tag n (seat_of p)
is_fresh z tag n p a = record {
  lock = a.0;
  number_is = ap (λ (q : Part _). q.number) a.2;
  seen = ap (λ (q : Part _). reverse q.seen) a.2;
  free = ap Rattle.turn_lock.specs.Seats.is_held a.1.0;
  label_is = a.4;
  alone = ap (map sight_of) a.3;
}

pub fresh-push : {E : Type 0} (z : TableId) (label b : ℕ) (cs : List (SeatIs E)) (c : SeatIs E) → AreFresh z label (suc b) cs → IsFresh z label b c → AreFresh z label b (cs ++ c ∷ [])
fresh-push z label b [] c a n = (subst (λ k. IsFresh z label k c) (omega arith) n, tt)
fresh-push z label b (x ∷ cs) c a n = (subst (λ k. IsFresh z label k x) (lengths cs) a.0, fresh-push z label b cs c a.1 n) where
  len : {A : Type 0} (l : List A) (y : A) → length (l ++ y ∷ []) ≡ length l + 1
  len [] y = refl
  len (x ∷ l) y = let h = len l y in omega arith

  lengths : (l : List (SeatIs _)) → length l + suc b ≡ length (l ++ c ∷ []) + b
  lengths l = let h = len l c in omega arith

pub push_length : {A : Type 0} (l : List A) (x : A) → length (l ++ x ∷ []) ≡ suc (length l)
push_length [] x = refl
push_length (y ∷ l) x = ap suc (push_length l x)
