-- Seats that were just made, and seats that are joined into one, one after another.
use Rattle.std.proofs.Common.{◌≡◌, ◌≢◌, ℕ, suc, ◌+◌, ◌<◌, ◌≤◌, List, [], ◌∷◌, ◌++◌, length, refl, sym, ap, ◌∙◌, subst, ⊎_elim, arith}
use Rattle.std.proofs.lemmas.Bool.{cases_lt}
use Rattle.atomic_table.specs.Seated.{TableId}
use Rattle.turn_lock.specs.declared.board_rule.Part.{Part}
use Rattle.atomic_table.specs.declared.shared.Seat.{Seat}
use Rattle.turn_lock.specs.declared.board_rule.View.{View}
use Rattle.turn_lock.specs.Board.{none_begun, most_drawn, spent_number, part_of, view_of, AllUnder, from_on, with_rest, AllSaw, AllDrew}
use Rattle.turn_lock.specs.BoardSeats.{SeatIs, seat_of, parts, IsSeat, MayDraw, IsFresh, AreFresh, AreRising, AllAt, SeatsSaw, SeatsDrew, Gathering}
use Rattle.turn_lock.proofs.BoardLists.{from_none}

pub push_length : {A : Type 0} (l : List A) (x : A) → length (l ++ x ∷ []) ≡ suc (length l)
push_length [] x = refl
push_length (y ∷ l) x = ap suc (push_length l x)

pub empty_of : {A : Type 0} (l : List A) → length l ≡ 0 → l ≡ []
empty_of [] e = refl
empty_of (x ∷ xs) e = absurd (omega arith)

pub fresh-push : (z : TableId) (b : ℕ) (cs : List SeatIs) (c : SeatIs) → AreFresh z (suc b) cs → IsFresh z b c → AreFresh z b (cs ++ c ∷ [])
fresh-push z b [] c a n = (subst (λ k. IsFresh z k c) (omega arith) n, tt)
fresh-push z b (x ∷ cs) c a n = let h = push_length cs c in (subst (λ k. IsFresh z k x) (omega arith) a.0, fresh-push z b cs c a.1 n)

saw-split : (n : ℕ) (greatest : List ℕ) (ps qs : List Part) → AllSaw n greatest (ps ++ qs) → AllSaw n greatest ps × AllSaw n greatest qs
saw-split n greatest [] qs a = (tt, a)
saw-split n greatest (p ∷ ps) qs a = let r = saw-split n greatest ps qs a.2 in ((a.0, a.1, r.0), r.1)

drew-split : (hand : ℕ → ℕ) (count : ℕ) (ps qs : List Part) → AllDrew hand count (ps ++ qs) → AllDrew hand count ps × AllDrew hand count qs
drew-split hand count [] qs a = (tt, a)
drew-split hand count (p ∷ ps) qs a = let r = drew-split hand count ps qs a.1 in ((a.0, r.0), r.1)

saw-push : (n : ℕ) (greatest : List ℕ) (cs : List SeatIs) (c : SeatIs) → SeatsSaw n greatest cs → AllSaw n greatest (parts c) → SeatsSaw n greatest (cs ++ c ∷ [])
saw-push n greatest [] c s a = (a, tt)
saw-push n greatest (x ∷ cs) c s a = (s.0, saw-push n greatest cs c s.1 a)

drew-push : (hand : ℕ → ℕ) (count : ℕ) (cs : List SeatIs) (c : SeatIs) → SeatsDrew hand count cs → AllDrew hand count (parts c) → SeatsDrew hand count (cs ++ c ∷ [])
drew-push hand count [] c s a = (a, tt)
drew-push hand count (x ∷ cs) c s a = (s.0, drew-push hand count cs c s.1 a)

at-pop : (z : TableId) (cs : List SeatIs) (c : SeatIs) → AllAt z (cs ++ c ∷ []) → AllAt z cs × (c.board ≡ z)
at-pop z [] c a = (tt, a.0)
at-pop z (x ∷ cs) c a = let r = at-pop z cs c a.1 in ((a.0, r.0), r.1)

module _ (z : TableId) where
  pub gathers_first : (all left : List SeatIs) (a : SeatIs) → all ≡ left ++ a ∷ [] → AllAt z all → Gathering z all left a
  gathers_first all left a e r = let q = at-pop z left a (subst (AllAt z) e r) in record {
    table = q.1;
    left_at = q.0;
    saw = λ n greatest s t. subst (SeatsSaw n greatest) (sym e) (saw-push n greatest left a t s);
    drew = λ hand count s t. subst (SeatsDrew hand count) (sym e) (drew-push hand count left a t s);
  }

  pub gathers_at : (all more left : List SeatIs) (a one : SeatIs) → more ≡ left ++ a ∷ [] → Gathering z all more one → a.board ≡ z
  gathers_at all more left a one e r = let q = at-pop z left a (subst (AllAt z) e r.left_at) in q.1

  pub gathers : (all more left : List SeatIs) (a one : SeatIs) → more ≡ left ++ a ∷ [] → Gathering z all more one
      → Gathering z all left record { board = one.board; number = one.number; seen = one.seen; drawn = one.drawn; olds = parts a ++ one.olds }
  gathers all more left a one e r = let q = at-pop z left a (subst (AllAt z) e r.left_at) in record {
    table = r.table;
    left_at = q.0;
    saw = λ n greatest s t.
        let p = saw-split n greatest (parts a) one.olds s.2 in
        r.saw n greatest (s.0, s.1, p.1) (subst (SeatsSaw n greatest) (sym e) (saw-push n greatest left a t p.0));
    drew = λ hand count s t.
        let p = drew-split hand count (parts a) one.olds s.1 in
        r.drew hand count (s.0, p.1) (subst (SeatsDrew hand count) (sym e) (drew-push hand count left a t p.0));
  }

  pub gathered : (all left : List SeatIs) (one : SeatIs) → left ≡ [] → Gathering z all left one
      → ((n : ℕ) (greatest : List ℕ) → AllSaw n greatest (parts one) → SeatsSaw n greatest all) × ((hand : ℕ → ℕ) (count : ℕ) → AllDrew hand count (parts one) → SeatsDrew hand count all)
  gathered all left one e r = (
    (λ n greatest s. r.saw n greatest s (subst (SeatsSaw n greatest) (sym e) tt)),
    (λ hand count s. r.drew hand count s (subst (SeatsDrew hand count) (sym e) tt)),
  )

module _ (p : Seat ℕ View) (number spare room : ℕ) (is : p.me ≡ (view_of (part_of number none_begun []) [] spare room, [])) where
  pub fresh_seat : number ≢ spent_number → 0 < room → IsSeat p
  fresh_seat ne some = record {
    numbered = λ e. ne (sym (ap (λ m. m.0.part.number) is) ∙ e);
    length_is = ap (λ m. length m.0.part.seen) is;
    room = λ _. subst (λ k. 0 < k) (sym (ap (λ m. m.0.room) is)) some;
    none_out = ap (λ m. m.1) is;
  }

  pub fresh_is : (z : TableId) → p.table_id ≡ z → IsFresh z number (seat_of p)
  fresh_is z t = record {
    board = t;
    number_is = ap (λ m. m.0.part.number) is;
    seen = ap (λ m. m.0.part.seen) is;
    drawn = ap (λ m. m.0.part.drawn) is;
    alone = ap (λ m. m.0.olds) is;
  }

pub rising-push : (z : TableId) (k n : ℕ) (cs : List SeatIs) (c : SeatIs) → k + length cs ≡ n → AreRising z k cs → IsFresh z n c → AreRising z k (cs ++ c ∷ [])
rising-push z k n [] c e a f = (subst (λ i. IsFresh z i c) (omega arith) f, tt)
rising-push z k n (x ∷ cs) c e a f = (a.0, rising-push z (suc k) n cs c (omega arith) a.1 f)

pub rising-pop : (z : TableId) (k : ℕ) (cs : List SeatIs) (c : SeatIs) → AreRising z k (cs ++ c ∷ []) → AreRising z k cs × IsFresh z (k + length cs) c
rising-pop z k [] c a = (tt, subst (λ i. IsFresh z i c) (omega arith) a.0)
rising-pop z k (x ∷ cs) c a = let r = rising-pop z (suc k) cs c a.1 in ((a.0, r.0), subst (λ i. IsFresh z i c) (omega arith) r.1)

-- whoever may draw behind all that was left might before
pub may_before : (r : ℕ) (drawn : List ℕ) → AllUnder r drawn → MayDraw (from_on r most_drawn ++ drawn) → MayDraw drawn
may_before r [] u m = tt
may_before r (x ∷ xs) u m = ⊎_elim (λ (l : r < most_drawn). let h = u.0 in omega arith)
    (λ (l : most_drawn ≤ r). subst (λ ys. MayDraw (ys ++ x ∷ xs)) (from_none r most_drawn l) m) (cases_lt r most_drawn)

-- a seat that drew all that was left is one still
pub rests : (p q : Seat ℕ View) (r : ℕ) → q.me ≡ (with_rest r p.me.0, p.me.1) → AllUnder r p.me.0.part.drawn → IsSeat p → IsSeat q
rests p q r is u s = record {
  numbered = λ e. s.numbered (sym (ap (λ m. m.0.part.number) is) ∙ e);
  length_is = ap (λ m. length m.0.part.seen) is ∙ s.length_is;
  room = λ m. subst (λ k. 0 < k) (sym (ap (λ x. x.0.room) is)) (s.room (may_before r p.me.0.part.drawn u (subst (λ xs. MayDraw xs) (ap (λ x. x.0.part.drawn) is) m)));
  none_out = ap (λ m. m.1) is ∙ s.none_out;
}
