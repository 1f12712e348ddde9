-- The locks of a run, as they are closed.
use Rattle.std.proofs.Common.{◌≡◌, inl, inr, ℕ, suc, ◌+◌, ◌<◌, ◌≤◌, Bool, true, false, List, [], ◌∷◌, ◌++◌, length, reverse, Option, refl, sym, ap, ◌∙◌, subst, arith, append-nil}
use Rattle.std.specs.Prelude.{IfSome, MatchOption, Some, None}
use Rattle.std.proofs.lemmas.Bool.{true≢false, false≢true}
use Rattle.std.proofs.lemmas.List.{reverse-append, reverse-reverse}
use mathlib.Core.Logic.{dite}
use native.Mathlib.Decide.{ℕ_discrete}
use Rattle.atomic_table.specs.Seated.{TableId}
use Rattle.okws_base.specs.declared.journal.Entry.{Entry}
use Rattle.okws_outer.specs.Streams.{Rose}
use Rattle.okws_plan.specs.declared.configuration.Config.{Config}
use Rattle.okws_plan.specs.declared.event.LogEvent.{LogEvent}
use Rattle.turn_lock.specs.Board.{drawn_by, UpTo}
use Rattle.turn_lock.specs.BoardSeats.{BoardIs, AllAt, SeatsDrew, SeatsSaw}
use Rattle.turn_lock.specs.BoardSeats.{SeatIs as Place}
use Rattle.log_daemon.specs.Seen.{IsFront}
use Rattle.log_daemon.specs.Stopped.{is_stopped}
use Rattle.log_daemon.specs.declared.daemon.WriteOut.{WriteOut}
use Rattle.log_daemon.specs.declared.daemon.WriteOut.TheVariants.{Written, LogFault, Stopped}
use Rattle.monitor_model.specs.Logd.{log_text}
use Rattle.site_cells.specs.Closing.{HasNumber}
use Rattle.site_cells.specs.Row.{CellsSeen}
use Rattle.site_locks.specs.Closing.{SomeIs}
use Rattle.site_locks.specs.Sat.{Sat}
use Rattle.turn_lock.specs.Seats.{TurnIs, SeatIs, AllRest, SomeHas}
use Rattle.launch_turns.specs.declared.deed.Deed.{Deed}
use Rattle.site_run.specs.Rows.{ChairsAre, AreChairs}
use Rattle.site_run.specs.Places.{PlacesAre}
use Rattle.site_run.specs.Closing.{WritesLog}
use Rattle.site_run.specs.Whole.{AllDrewAt, AllSawAt, IsHeld}
use Rattle.site_run.proofs.Holding.{chairs_rest_all, chairs_have, some_push, has_push}
use Rattle.site_run.proofs.Seating.{chairs_many}

-- what a log that was written out leaves
pub writes : (C : Config) (J : List (Entry LogEvent)) (given : Option (List ℕ)) (before after : ℕ) (written : WriteOut) (stopped failed : Bool)
    → (written ≡ Written → IfSome given (λ text. text ≡ log_text C J)) → IfSome given (λ text. IsFront text (log_text C J))
    → stopped ≡ is_stopped written → (stopped ≡ true → Rose before after) → (stopped ≡ false → after ≡ before) → before ≤ after → failed ≡ is_stopped written → WritesLog C J given before after failed
writes C J given before after Written stopped failed w p s r q l f = record { front = p; whole = λ _. w refl; cause = λ e. absurd (false≢true (sym f ∙ e)); still = λ _. q s; later = l }
writes C J given before after LogFault stopped failed w p s r q l f = record { front = p; whole = λ e. absurd (true≢false (sym f ∙ e)); cause = λ _. r s; still = λ e. absurd (true≢false (sym f ∙ e)); later = l }
writes C J given before after Stopped stopped failed w p s r q l f = record { front = p; whole = λ e. absurd (true≢false (sym f ∙ e)); cause = λ _. r s; still = λ e. absurd (true≢false (sym f ∙ e)); later = l }

module _ (z : TableId) where
  pub at_push : (as' : List Place) (a : Place) → AllAt z as' → a.board ≡ z → AllAt z (as' ++ a ∷ [])
  at_push [] a h e = (e, tt)
  at_push (b ∷ as') a h e = (h.0, at_push as' a h.1 e)

  pub at_pop : (as' : List Place) (a : Place) → AllAt z (as' ++ a ∷ []) → AllAt z as' × (a.board ≡ z)
  at_pop [] a h = (tt, h.0)
  at_pop (b ∷ as') a h = let rest = at_pop as' a h.1 in ((h.0, rest.0), rest.1)

module _ (hand : ℕ → ℕ) (count : ℕ) where
  -- what seats drew, without those that were joined into them
  drew_each : (as' : List Place) → SeatsDrew hand count as' → AllDrewAt hand count as'
  drew_each [] h = tt
  drew_each (a ∷ as') h = (h.0.0, drew_each as' h.1)

  drew_push : (as' : List Place) (a : Place) → AllDrewAt hand count as' → a.drawn ≡ drawn_by hand a.number count → AllDrewAt hand count (as' ++ a ∷ [])
  drew_push [] a h e = (e, tt)
  drew_push (b ∷ as') a h e = (h.0, drew_push as' a h.1 e)

  drew_turned : (as' : List Place) → AllDrewAt hand count as' → AllDrewAt hand count (reverse as')
  drew_turned [] h = tt
  drew_turned (a ∷ as') h = subst (AllDrewAt hand count) (sym (reverse-append (a ∷ []) as')) (drew_push (reverse as') a (drew_turned as' h.1) h.0)

  -- of seats that were taken from the end of a row, one after the other
  pub drew_all : (all left places : List Place) → left ≡ [] → places ++ reverse left ≡ reverse all → SeatsDrew hand count places → AllDrewAt hand count all
  drew_all all left places none taken h =
      let e : places ≡ reverse all = sym (append-nil places) ∙ (ap (λ l. places ++ reverse l) (sym none) ∙ taken) in
      subst (AllDrewAt hand count) (ap reverse e ∙ reverse-reverse all) (drew_turned places (drew_each places h))

  -- what the last seat drew
  pub drew_pop : (as' : List Place) (a : Place) → SeatsDrew hand count (as' ++ a ∷ []) → SeatsDrew hand count as' × (a.drawn ≡ drawn_by hand a.number count)
  drew_pop [] a h = (tt, h.0.0)
  drew_pop (b ∷ as') a h = let rest = drew_pop as' a h.1 in ((h.0, rest.0), rest.1)

module _ (n : ℕ) (greatest : List ℕ) where
  -- what seats have seen, without those that were joined into them
  saw_each : (as' : List Place) → SeatsSaw n greatest as' → AllSawAt greatest as'
  saw_each [] h = tt
  saw_each (a ∷ as') h = (h.0.0, saw_each as' h.1)

  saw_push : (as' : List Place) (a : Place) → AllSawAt greatest as' → UpTo a.seen greatest → AllSawAt greatest (as' ++ a ∷ [])
  saw_push [] a h e = (e, tt)
  saw_push (b ∷ as') a h e = (h.0, saw_push as' a h.1 e)

  saw_turned : (as' : List Place) → AllSawAt greatest as' → AllSawAt greatest (reverse as')
  saw_turned [] h = tt
  saw_turned (a ∷ as') h = subst (AllSawAt greatest) (sym (reverse-append (a ∷ []) as')) (saw_push (reverse as') a (saw_turned as' h.1) h.0)

  -- of seats that were taken from the end of a row, one after the other
  pub saw_all : (all left places : List Place) → left ≡ [] → places ++ reverse left ≡ reverse all → SeatsSaw n greatest places → AllSawAt greatest all
  saw_all all left places none taken h =
      let e : places ≡ reverse all = sym (append-nil places) ∙ (ap (λ l. places ++ reverse l) (sym none) ∙ taken) in
      subst (AllSawAt greatest) (ap reverse e ∙ reverse-reverse all) (saw_turned places (saw_each places h))

  -- what the last seat has seen
  pub saw_pop : (as' : List Place) (a : Place) → SeatsSaw n greatest (as' ++ a ∷ []) → SeatsSaw n greatest as' × (suc a.number ≡ n → a.seen ≡ greatest)
  saw_pop [] a h = (tt, h.0.1)
  saw_pop (b ∷ as') a h = let rest = saw_pop as' a h.1 in ((h.0, rest.0), rest.1)

-- the seats of number n behind those of the numbers below it: each number has its own at the columns
pub all_some : (t : TurnIs) (cells n : ℕ) (ss : List Sat) (cs : List CellsSeen) (as' : List (SeatIs Deed)) (s : Sat)
    → AreChairs t cells 0 ss cs as' → length ss ≡ n → s.number ≡ n → (k : ℕ) → k < n + 1 → SomeIs k (ss ++ s ∷ [])
all_some t cells n ss cs as' s h l e k u = dite (ℕ_discrete n k)
    (λ q. some_push k ss s (inr (e ∙ q)))
    (λ ne. some_push k ss s (inl (chairs_have t cells 0 k ss cs as' (omega arith) (omega arith) h).0))

-- and at the cells
pub all_numbered : (t : TurnIs) (cells n : ℕ) (ss : List Sat) (cs : List CellsSeen) (as' : List (SeatIs Deed)) (c : CellsSeen)
    → AreChairs t cells 0 ss cs as' → length ss ≡ n → c.number ≡ n → (k : ℕ) → k < n + 1 → HasNumber k (cs ++ c ∷ [])
all_numbered t cells n ss cs as' c h l e k u = dite (ℕ_discrete n k)
    (λ q. has_push k cs c (inr (e ∙ q)))
    (λ ne. has_push k cs c (inl (chairs_have t cells 0 k ss cs as' (omega arith) (omega arith) h).1))

-- what the closing of a run's locks asks of its seats
pub record AreSeated (n : ℕ) (t : TurnIs) (ss : List Sat) (cs : List CellsSeen) (as' : List (SeatIs Deed)) : Type 0 where
  pub seats_many : length ss ≡ n
  pub cells_many : length cs ≡ n
  pub turns_many : length as' ≡ n
  pub rest : AllRest t.id as'
  pub turns : (k : ℕ) → k < t.count → SomeHas k as'
  pub some : (s : Sat) → s.number ≡ n → (k : ℕ) → k < n + 1 → SomeIs k (ss ++ s ∷ [])
  pub numbered : (c : CellsSeen) → c.number ≡ n → (k : ℕ) → k < n + 1 → HasNumber k (cs ++ c ∷ [])

pub are_seated : (C : Config) (n : ℕ) (t : TurnIs) (b : BoardIs) (ts : List TurnIs) (x : ChairsAre) (p : PlacesAre) → IsHeld C n t b ts x p → AreSeated n t x.seats x.cells x.turns
are_seated C n t b ts x p h =
    let cells = length C.services in
    let m = chairs_many t cells 0 x.seats x.cells x.turns h.seated in
    let l = h.seats_many in
    record {
      seats_many = l;
      cells_many = m.0 ∙ l;
      turns_many = m.1 ∙ l;
      rest = chairs_rest_all t cells 0 x.seats x.cells x.turns h.seated;
      turns = λ k u. (chairs_have t cells 0 k x.seats x.cells x.turns (omega arith) (let q = h.turn_count in omega arith) h.seated).2;
      some = λ s e. all_some t cells n x.seats x.cells x.turns s h.seated l e;
      numbered = λ c e. all_numbered t cells n x.seats x.cells x.turns c h.seated l e;
    }

-- a row from which an item was taken, where there was one
pub popped : {A : Type 0} (o : Option A) (now was : ℕ) → MatchOption o ((was ≡ 0) × (now ≡ 0)) (λ _. now + 1 ≡ was) → 0 < was → now + 1 ≡ was
popped None now was h l = absurd (let e = h.0 in omega arith)
popped (Some x) now was h l = h
