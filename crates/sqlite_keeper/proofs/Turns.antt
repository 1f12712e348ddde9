-- Steps inside a transaction, one after the other.
use Rattle.std.proofs.Common.{◌<◌, suc, length, sym, ap, drop-cons, ◌≡◌, ℕ, ◌+◌, ◌≤◌, List, [], ◌∷◌, true, Result, Ok, Err, inl, inr, refl, ◌∙◌, drop, arith}
use Rattle.std.specs.Prelude.{OnOk, IsTrue, slice_index_or}
use Rattle.sqlite.specs.Store.{Ghosts}
use Rattle.sqlite.specs.View.{doubt}
use Rattle.sqlite.specs.Held.{Held, state}
use Rattle.sqlite.specs.State.{State, HasCleanDisk, KeepsCommit}
use Rattle.okws_outer.specs.declared.error.MakeError.{MakeError}
use Rattle.sqlite_keeper.specs.Making.{Made, Deed, Steps, Then, InTurn}

kept_then : (a b c : State) → KeepsCommit a b → KeepsCommit b c → KeepsCommit a c
kept_then a b c first next =
    record { was_open = λ still. first.was_open (next.was_open still); committed = λ still. next.committed still ∙ first.committed (next.was_open still) }

kept_still : (a : State) → KeepsCommit a a
kept_still a = record { was_open = λ still. still; committed = λ still. refl }

-- A deed that was done.
abbrev pub done : Made
done = Ok tt

-- The deeds so far led from the start to where the database is now; whatever is left of them from there makes up the whole.
pub record Goes {S : Type 0} (g : Ghosts S) (start now : Held S) (Rest Whole : Held S → Made → Type 0) : Type 0 where
  pub clean : doubt (state g start).is_clean ≤ doubt (state g now).is_clean
  pub limit : now.step_limit ≡ start.step_limit
  pub inside : HasCleanDisk (state g now) → now.in_transaction ≡ true
  pub kept : HasCleanDisk (state g now) → KeepsCommit (state g start) (state g now)
  pub leads : HasCleanDisk (state g now) → (last : Held S) (made : Made) → Rest last made → Whole last made

module _ {S : Type 0} (g : Ghosts S) where
  pub still : {T : Type 0} (old : Held S) (made : Result T MakeError) (Did : Type 0) → (HasCleanDisk (state g old) → Did) → (HasCleanDisk (state g old) → OnOk made (old.in_transaction ≡ true)) → Steps g old old made Did
  still old made Did did inside = record { clean = omega arith; limit = refl; did = did; inside = inside; kept = λ clean. kept_still (state g old) }

  pub follows : {T U : Type 0} (old mid new : Held S) (first : Result T MakeError) (made : Result U MakeError) (A B C : Type 0) → Steps g old mid first A → Steps g mid new made B → (A → B → C) → Steps g old new made C
  follows old mid new first made A B C a b both = record {
    clean = omega (arith, a.clean, b.clean);
    limit = b.limit ∙ a.limit;
    did = λ clean. both (a.did (omega (arith, b.clean))) (b.did clean);
    inside = b.inside;
    kept = λ clean. kept_then (state g old) (state g mid) (state g new) (a.kept (omega (arith, b.clean))) (b.kept clean);
  }

  pub fails : {T U : Type 0} (old new : Held S) (made : Result T MakeError) (why : MakeError) (A B : Type 0) → Steps g old new made A → (A → B) → Steps g {T = U} old new (Err why) B
  fails old new made why A B a turn = record { clean = a.clean; limit = a.limit; did = λ clean. turn (a.did clean); inside = λ clean. tt; kept = a.kept }

  pub begun : (now : Held S) (Rest : Held S → Made → Type 0) → (HasCleanDisk (state g now) → now.in_transaction ≡ true) → Goes g now now Rest Rest
  begun now Rest inside = record { clean = omega arith; limit = refl; inside = inside; kept = λ clean. kept_still (state g now); leads = λ clean last made rest. rest }

  pub goes_on : (start now mid : Held S) (Rest Next Whole : Held S → Made → Type 0) (Did : Type 0) → Goes g start now Rest Whole → Steps g {T = Unit {0}} now mid done Did
      → (Did → (last : Held S) (made : Made) → Next last made → Rest last made) → Goes g start mid Next Whole
  goes_on start now mid Rest Next Whole Did so step on = record {
    clean = omega (arith, so.clean, step.clean);
    limit = step.limit ∙ so.limit;
    inside = step.inside;
    kept = λ clean. kept_then (state g start) (state g now) (state g mid) (so.kept (omega (arith, step.clean))) (step.kept clean);
    leads = λ clean last made next. so.leads (omega (arith, step.clean)) last made (on (step.did clean) last made next);
  }

  pub ends : (start now last : Held S) (made : Made) (Rest Whole : Held S → Made → Type 0) (Did : Type 0) → Goes g start now Rest Whole → Steps g now last made Did → (Did → Rest last made) → Steps g start last made (Whole last made)
  ends start now last made Rest Whole Did so step end = record {
    clean = omega (arith, so.clean, step.clean);
    limit = step.limit ∙ so.limit;
    did = λ clean. so.leads (omega (arith, step.clean)) last made (end (step.did clean));
    inside = step.inside;
    kept = λ clean. kept_then (state g start) (state g now) (state g last) (so.kept (omega (arith, step.clean))) (step.kept clean);
  }

  -- A loop over the items, which has done those before place i.
  module _ {X : Type 0} (Does : ℕ → X → Deed S) (xs : List X) where
    abbrev pub GoesThrough : Held S → ℕ → Held S → Type 0
    GoesThrough start i now = Goes g start now (λ last made. InTurn Does i (drop i xs) now last made) (λ last made. InTurn Does 0 xs start last made)

    pub first_turn : (now : Held S) → (HasCleanDisk (state g now) → now.in_transaction ≡ true) → GoesThrough now 0 now
    first_turn now inside = begun now (λ last made. InTurn Does 0 xs now last made) inside

    pub next_turn : (start now mid : Held S) (i : ℕ) (x : X) → drop i xs ≡ x ∷ drop (i + 1) xs → GoesThrough start i now → Steps g {T = Unit {0}} now mid done (Does i x now mid done) → GoesThrough start (i + 1) mid
    next_turn start now mid i x there so step =
        goes_on start now mid _ (λ last made. InTurn Does (i + 1) (drop (i + 1) xs) mid last made) _ _ so step (λ did last made rest. rw there (inr (mid, did, rest)))

    pub last_turn : (start now last : Held S) (why : MakeError) (i : ℕ) (x : X) → drop i xs ≡ x ∷ drop (i + 1) xs → GoesThrough start i now → Steps g {T = Unit {0}} now last (Err why) (Does i x now last (Err why))
        → Steps g {T = Unit {0}} start last (Err why) (InTurn Does 0 xs start last (Err why))
    last_turn start now last why i x there so step = ends start now last (Err why) _ _ _ so step (λ did. rw there (inl (why, refl, did)))

    pub all_turns : (start now : Held S) (i : ℕ) → drop i xs ≡ [] → GoesThrough start i now → Steps g {T = Unit {0}} start now done (InTurn Does 0 xs start now done)
    all_turns start now i none so = ends start now now done _ _ (done ≡ done) so (still now done _ (λ clean. refl) so.inside) (λ did. rw none (refl, refl))

-- The items from place i on begin with the one that stands there.
pub here : {X : Type 0} (xs : List X) (i : ℕ) (x : X) → i < length xs → x ≡ slice_index_or xs i x → drop i xs ≡ x ∷ drop (i + 1) xs
here {X} xs i x low is =
    let one : suc i ≡ i + 1 = omega arith in
    drop-cons xs i x low ∙ ap (λ (y : X). y ∷ drop (suc i) xs) (sym is) ∙ ap (λ (n : ℕ). x ∷ drop n xs) one
