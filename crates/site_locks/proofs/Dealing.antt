-- Dealing fresh seats to numbers.
use Rattle.std.proofs.Common.{◌≡◌, ◌∙◌, ℕ, suc, ◌+◌, List, [], ◌∷◌, ◌++◌, map, length, replicate, refl, ap, subst, arith}
use Rattle.atomic_table.specs.Seated.{TableId}
use Rattle.okws_base.specs.declared.journal.Entry.{Entry}
use Rattle.okws_plan.specs.declared.event.OkdEvent.{OkdEvent}
use Rattle.okws_plan.specs.declared.event.ProxyEvent.{ProxyEvent}
use Rattle.okws_plan.specs.declared.event.PubdEvent.{PubdEvent}
use Rattle.okws_plan.specs.declared.event.LogEvent.{LogEvent}
use Rattle.turn_lock.specs.BoardSeats.{SeatIs as BoardSeat, IsFresh as IsFreshAtBoard, AreFresh as AreFreshAtBoard}
use Rattle.turn_lock.proofs.Rows.{append_length}
use Rattle.turn_lock.specs.Rows.{IsFreshRow, FreshRows}
use Rattle.turn_lock.specs.Seats.{TurnIs, SeatIs, IsFresh, AreFresh}
use Rattle.site_locks.specs.Made.{AreFreshFrom, DealsFrom, DeckIs, fresh}
use Rattle.site_locks.specs.Sat.{LocksAre, AreSeats, AtLock, AtRow, AtBoard, RiseFrom, Sat, ids_of, sat_of}

none_more : (k : ℕ) → 0 + k ≡ k
none_more k = omega arith

one_longer : {A : Type 0} (xs : List A) (x : A) (k : ℕ) → length (xs ++ x ∷ []) + k ≡ length xs + suc k
one_longer xs x k = let e : length (xs ++ x ∷ []) ≡ length xs + length (x ∷ []) = append_length xs (x ∷ []) in omega arith

module _ {E : Type 0} where
  -- the last of fresh seats has the least number
  pub fresh_pop : (z : TableId) (l k : ℕ) (left : List (SeatIs E)) (a : SeatIs E) → AreFresh z l k (left ++ a ∷ []) → AreFresh z l (suc k) left × IsFresh z l k a
  fresh_pop z l k [] a h = (tt, subst (λ m. IsFresh z l m a) (none_more k) h.0)
  fresh_pop z l k (x ∷ left) a h =
      let more : AreFresh z l (suc k) left × IsFresh z l k a = fresh_pop z l k left a h.1 in
      ((subst (λ m. IsFresh z l m x) (one_longer left a k) h.0, more.0), more.1)

  pub rows_pop : (ts : List TurnIs) (k : ℕ) (left : List (List (SeatIs E))) (r : List (SeatIs E)) → FreshRows ts k (left ++ r ∷ []) → FreshRows ts (suc k) left × IsFreshRow ts k r
  rows_pop ts k [] r h = (tt, subst (λ m. IsFreshRow ts m r) (none_more k) h.0)
  rows_pop ts k (x ∷ left) r h =
      let more : FreshRows ts (suc k) left × IsFreshRow ts k r = rows_pop ts k left r h.1 in
      ((subst (λ m. IsFreshRow ts m x) (one_longer left r k) h.0, more.0), more.1)

  pub fresh_at : (z : TableId) (l k : ℕ) (a : SeatIs E) → IsFresh z l k a → AtLock z l k a
  fresh_at z l k a h = record { lock_is = h.lock; number_is = h.number_is; free = h.free; label_is = h.label_is; alone = h.alone }

  pub row_fresh : (ts : List TurnIs) (l k : ℕ) (r : List (SeatIs E)) → RiseFrom l (map (λ (t : TurnIs). t.label) ts) → IsFreshRow ts k r → AtRow (map (λ (t : TurnIs). t.id) ts) l k r
  row_fresh [] l k [] rise h = tt
  row_fresh [] l k (a ∷ r) rise h = h
  row_fresh (t ∷ ts) l k [] rise h = h
  row_fresh (t ∷ ts) l k (a ∷ r) rise h = (subst (λ m. AtLock t.id m k a) rise.0 (fresh_at t.id t.label k a h.0), row_fresh ts (suc l) k r rise.1 h.1)

  pub row_unseen : (ts : List TurnIs) (k : ℕ) (r : List (SeatIs E)) → IsFreshRow ts k r → map (λ (a : SeatIs E). a.seen) r ≡ replicate (length ts) []
  row_unseen [] k [] h = refl
  row_unseen [] k (a ∷ r) h = absurd h
  row_unseen (t ∷ ts) k [] h = absurd h
  row_unseen (t ∷ ts) k (a ∷ r) h = λ i. h.0.seen i ∷ row_unseen ts k r h.1 i

pub board_pop : (z : TableId) (k : ℕ) (left : List BoardSeat) (a : BoardSeat) → AreFreshAtBoard z k (left ++ a ∷ []) → AreFreshAtBoard z (suc k) left × IsFreshAtBoard z k a
board_pop z k [] a h = (tt, subst (λ m. IsFreshAtBoard z m a) (none_more k) h.0)
board_pop z k (x ∷ left) a h =
    let more : AreFreshAtBoard z (suc k) left × IsFreshAtBoard z k a = board_pop z k left a h.1 in
    ((subst (λ m. IsFreshAtBoard z m x) (one_longer left a k) h.0, more.0), more.1)

pub board_at : (z : TableId) (k : ℕ) (a : BoardSeat) → IsFreshAtBoard z k a → AtBoard z k a
board_at z k a h = record { board_is = h.board; number_is = h.number_is; alone = h.alone; services_are = ap length h.seen }

pub rise_push : (p k : ℕ) (ss : List Sat) (s : Sat) → AreFreshFrom p k ss → s ≡ fresh p (length ss + k) → AreFreshFrom p k (ss ++ s ∷ [])
rise_push p k [] s h is = (is ∙ ap (fresh p) (none_more k), tt)
rise_push p k (x ∷ ss) s h is = (h.0, rise_push p (suc k) ss s h.1 (is ∙ ap (fresh p) (omega arith)))

-- the last seats of a deck are those of the least number
pub record Dealt (l : LocksAre) (k : ℕ) (e : DeckIs) (okd : SeatIs (Entry OkdEvent)) (row : List (SeatIs (Entry ProxyEvent))) (pubd : SeatIs (Entry PubdEvent)) (log : SeatIs (Entry LogEvent)) (board : BoardSeat) : Type 0 where
  pub deals : DealsFrom l (k + 1) (length e.okd) e
  pub seats : AreSeats (ids_of l) k okd row pubd log board
  pub sat_is : sat_of k okd row pubd log board [] 0 ≡ fresh (length l.proxies) k

left_of : {A : Type 0} (xs left : List A) (x : A) (m : ℕ) → xs ≡ left ++ x ∷ [] → length xs ≡ m → length left + 1 ≡ m
left_of xs left x m is many = let e : length (left ++ x ∷ []) ≡ length left + length (x ∷ []) = append_length left (x ∷ []) in let f : length xs ≡ length (left ++ x ∷ []) = ap length is in omega arith

pub deal_next : (l : LocksAre) (k m : ℕ) (d e : DeckIs) (okd : SeatIs (Entry OkdEvent)) (row : List (SeatIs (Entry ProxyEvent))) (pubd : SeatIs (Entry PubdEvent)) (log : SeatIs (Entry LogEvent)) (board : BoardSeat)
    → RiseFrom 0 (map (λ (t : TurnIs). t.label) l.proxies) → DealsFrom l k m d → d.okd ≡ e.okd ++ okd ∷ [] → d.rows ≡ e.rows ++ row ∷ [] → d.pubd ≡ e.pubd ++ pubd ∷ [] → d.oklogd ≡ e.oklogd ++ log ∷ [] → d.board ≡ e.board ++ board ∷ []
    → Dealt l k e okd row pubd log board
deal_next l k m d e okd row pubd log board rise h a b p q r =
    let o = fresh_pop l.okd.id 0 k e.okd okd (subst (AreFresh l.okd.id 0 k) a h.okd_fresh) in
    let w = rows_pop l.proxies k e.rows row (subst (FreshRows l.proxies k) b h.rows_fresh) in
    let u = fresh_pop l.pubd.id 0 k e.pubd pubd (subst (AreFresh l.pubd.id 0 k) p h.pubd_fresh) in
    let g = fresh_pop l.oklogd.id 0 k e.oklogd log (subst (AreFresh l.oklogd.id 0 k) q h.oklogd_fresh) in
    let v = board_pop l.board.id k e.board board (subst (AreFreshAtBoard l.board.id k) r h.board_fresh) in
    let many : length e.okd + 1 ≡ m = left_of d.okd e.okd okd m a h.okd_many in
    let rows : length e.rows + 1 ≡ m = left_of d.rows e.rows row m b h.rows_many in
    let pubds : length e.pubd + 1 ≡ m = left_of d.pubd e.pubd pubd m p h.pubd_many in
    let logs : length e.oklogd + 1 ≡ m = left_of d.oklogd e.oklogd log m q h.oklogd_many in
    let boards : length e.board + 1 ≡ m = left_of d.board e.board board m r h.board_many in
    let up : suc k ≡ k + 1 = omega arith in
    record {
      deals = record {
        okd_fresh = subst (λ n. AreFresh l.okd.id 0 n e.okd) up o.0;
        rows_fresh = subst (λ n. FreshRows l.proxies n e.rows) up w.0;
        pubd_fresh = subst (λ n. AreFresh l.pubd.id 0 n e.pubd) up u.0;
        oklogd_fresh = subst (λ n. AreFresh l.oklogd.id 0 n e.oklogd) up g.0;
        board_fresh = subst (λ n. AreFreshAtBoard l.board.id n e.board) up v.0;
        okd_many = refl;
        rows_many = omega arith;
        pubd_many = omega arith;
        oklogd_many = omega arith;
        board_many = omega arith;
      };
      seats = record {
        okd_at = fresh_at l.okd.id 0 k okd o.1;
        proxies_at = row_fresh l.proxies 0 k row rise w.1;
        pubd_at = fresh_at l.pubd.id 0 k pubd u.1;
        oklogd_at = fresh_at l.oklogd.id 0 k log g.1;
        board_at = board_at l.board.id k board v.1;
      };
      sat_is = λ i. record {
        number = k;
        okd = o.1.seen i;
        proxies = row_unseen l.proxies k row w.1 i;
        pubd = u.1.seen i;
        oklogd = g.1.seen i;
        board = v.1.seen i;
        drawn = v.1.drawn i;
        own = [];
        spare = 0;
      };
    }
