-- The seats of all numbers take in what the launcher has seen, one after the other.
use Rattle.std.proofs.Common.{◌≡◌, ◌∙◌, ℕ, zero, suc, ◌+◌, ◌<◌, ◌≤◌, true, List, [], ◌∷◌, ◌++◌, length, get_or, set, refl, sym, ap, subst, arith}
use Rattle.std.specs.Prelude.{filter_map}
use Rattle.std.specs.List.{AllByRecursion, list_any}
use Rattle.std.proofs.lemmas.List.{append_assoc}
use mathlib.Core.Logic.{dite}
use native.Mathlib.Decide.{ℕ_discrete}
use Rattle.okws_base.specs.Past.{events_of}
use Rattle.okws_base.specs.Turns.{Behind, GrowsBy}
use Rattle.okws_base.specs.declared.journal.Entry.{Entry}
use Rattle.okws_plan.specs.declared.event.OkdEvent.{OkdEvent}
use Rattle.monitor_model.specs.declared.record.CellEvent.{CellEvent}
use Rattle.monitor_model.specs.declared.record.Own.{Own}
use Rattle.monitor_model.specs.Causes.{is_up_of}
use Rattle.monitor_model.specs.Merged.{okd_item}
use Rattle.monitor_model.specs.Seen.{proxy_past}
use Rattle.named_columns.specs.Launched.{by_entry}
use Rattle.turn_lock.proofs.Grows.{grows_on, grows-same}
use Rattle.site_cells.specs.Held.{by_event}
use Rattle.site_cells.specs.Row.{CellsSeen, OnlyAt, seen_at}
use Rattle.site_cells.proofs.Onlys.{only_else, only_length, only_number}
use Rattle.launch_crew.specs.Coming.{came_up}
use Rattle.launch_crew.specs.Recorded.{AreOwn}
use Rattle.launch_crew.proofs.Owns.{sees}
use Rattle.site_locks.specs.Closing.{AllGrown}
use Rattle.site_locks.specs.Sat.{Sat}
use Rattle.launch_turns.specs.Deeds.{by_deed, up_in}
use Rattle.launch_turns.specs.Standing.{BootsStand}
use Rattle.launch_turns.specs.declared.deed.Deed.{Deed}
use Rattle.launch_turns.proofs.Deeds.{up_stays}
use Rattle.site_run.specs.Meeting.{AllBooted, AllGo, MeetsCell, SeesCells}
use Rattle.site_run.proofs.Leaving.{went}

-- ---- one after the other

-- the first i of these went on so, and the others are as they were
abbrev pub FirstGo : {X : Type 0} → (X → X → Type 0) → ℕ → List X → List X → Type 0
FirstGo goes i [] [] = Unit {0}
FirstGo goes i [] (b ∷ bs) = ⊥
FirstGo goes i (a ∷ as') [] = ⊥
FirstGo goes zero (a ∷ as') (b ∷ bs) = (b ≡ a) × FirstGo goes zero as' bs
FirstGo goes (suc i) (a ∷ as') (b ∷ bs) = goes a b × FirstGo goes i as' bs

module _ {X : Type 0} (goes : X → X → Type 0) where
  pub none_go : (xs : List X) → FirstGo goes 0 xs xs
  none_go [] = tt
  none_go (x ∷ xs) = (refl, none_go xs)

  one_goes : (olds xs : List X) (i : ℕ) (a b : X) → FirstGo goes i olds xs → i < length olds → a ≡ get_or xs i a → goes a b → FirstGo goes (suc i) olds (set xs i b)
  one_goes [] xs i a b h l e g = absurd (omega (arith, l))
  one_goes (o ∷ olds) [] i a b h l e g = absurd (gone o olds i h)
    where
      gone : (o : X) (olds : List X) (i : ℕ) → FirstGo goes i (o ∷ olds) [] → ⊥
      gone o olds zero h = h
      gone o olds (suc i) h = h
  one_goes (o ∷ olds) (x ∷ xs) zero a b h l e g = (subst (λ y. goes y b) (e ∙ h.0) g, h.1)
  one_goes (o ∷ olds) (x ∷ xs) (suc i) a b h l e g = (h.0, one_goes olds xs i a b h.1 (omega (arith, l)) e g)

  pub next_go : (olds xs : List X) (i : ℕ) (a b : X) → FirstGo goes i olds xs → i < length olds → a ≡ get_or xs i a → goes a b → FirstGo goes (i + 1) olds (set xs i b)
  next_go olds xs i a b h l e g = subst (λ m. FirstGo goes m olds (set xs i b)) (let q : suc i ≡ i + 1 = omega arith in q) (one_goes olds xs i a b h l e g)

  pub all_go : (olds xs : List X) (i : ℕ) → length olds ≤ i → FirstGo goes i olds xs → AllGo goes olds xs
  all_go [] [] i l h = tt
  all_go [] (x ∷ xs) zero l h = absurd h
  all_go [] (x ∷ xs) (suc i) l h = absurd h
  all_go (o ∷ olds) xs zero l h = absurd (omega (arith, l))
  all_go (o ∷ olds) [] (suc i) l h = absurd h
  all_go (o ∷ olds) (x ∷ xs) (suc i) l h = (h.0, all_go olds xs i (omega (arith, l)) h.1)

  pub go_length : (olds xs : List X) → AllGo goes olds xs → length xs ≡ length olds
  go_length [] [] h = refl
  go_length [] (x ∷ xs) h = absurd h
  go_length (o ∷ olds) [] h = absurd h
  go_length (o ∷ olds) (x ∷ xs) h = ap suc (go_length olds xs h.1)

  -- what holds of each, and stays so
  pub all_stay : (P Q : X → Type 0) → ((a b : X) → goes a b → P a → Q b) → (olds xs : List X) → AllGo goes olds xs → AllByRecursion P olds → AllByRecursion Q xs
  all_stay P Q stays [] [] h p = tt
  all_stay P Q stays [] (x ∷ xs) h p = absurd h
  all_stay P Q stays (o ∷ olds) [] h p = absurd h
  all_stay P Q stays (o ∷ olds) (x ∷ xs) h p = (stays o x h.0 p.0, all_stay P Q stays olds xs h.1 p.1)

  -- what going on gives
  pub all_given : (Q : X → Type 0) → ((a b : X) → goes a b → Q b) → (olds xs : List X) → AllGo goes olds xs → AllByRecursion Q xs
  all_given Q gives [] [] h = tt
  all_given Q gives [] (x ∷ xs) h = absurd h
  all_given Q gives (o ∷ olds) [] h = absurd h
  all_given Q gives (o ∷ olds) (x ∷ xs) h = (gives o x h.0, all_given Q gives olds xs h.1)

-- where one way follows another
pub then_go : {X : Type 0} (first then' both : X → X → Type 0) → ((a b c : X) → first a b → then' b c → both a c) → (xs ys zs : List X) → AllGo first xs ys → AllGo then' ys zs → AllGo both xs zs
then_go first then' both joins [] [] [] h i = tt
then_go first then' both joins [] [] (z ∷ zs) h i = absurd i
then_go first then' both joins [] (y ∷ ys) zs h i = absurd h
then_go first then' both joins (x ∷ xs) [] zs h i = absurd h
then_go first then' both joins (x ∷ xs) (y ∷ ys) [] h i = absurd i
then_go first then' both joins (x ∷ xs) (y ∷ ys) (z ∷ zs) h i = (joins x y z h.0 i.0, then_go first then' both joins xs ys zs h.1 i.1)

-- ---- the cells

module _ (n : ℕ) where
  sees_same : (a : CellsSeen) → SeesCells n a a
  sees_same a = record { number_is = refl; cells_are = refl; grows = λ s. grows-same (by_event n) a.number (seen_at a s) }

  pub all_same : (cs : List CellsSeen) → AllGo (SeesCells n) cs cs
  all_same [] = tt
  all_same (c ∷ cs) = (sees_same c, all_same cs)

  sees_then : (s : ℕ) (J : List CellEvent) (a b c : CellsSeen) → SeesCells n a b → MeetsCell n s J b c → SeesCells n a c
  sees_then s J a b c h m =
      let number : c.number ≡ a.number = only_number s b c m.only ∙ h.number_is in
      record {
        number_is = number;
        cells_are = only_length s b c m.only ∙ h.cells_are;
        grows = λ r. grows_on (by_event n) a.number (seen_at a r) (seen_at b r) (seen_at c r) (h.grows r) (dite (ℕ_discrete r s)
            (λ is. subst (λ t. GrowsBy (by_event n) a.number (seen_at b t) (seen_at c t)) (sym is) (subst (λ k. GrowsBy (by_event n) k (seen_at b s) (seen_at c s)) h.number_is m.grows))
            (λ other. subst (GrowsBy (by_event n) a.number (seen_at b r)) (sym (only_else s r b c other m.only)) (grows-same (by_event n) a.number (seen_at b r))));
      }

  meets_behind : (s : ℕ) (J : List CellEvent) (r : ℕ) (events : List CellEvent) (a b : CellsSeen) → MeetsCell n s J a b → Behind events (seen_at a r) → Behind events (seen_at b r)
  meets_behind s J r events a b m h = dite (ℕ_discrete r s)
      (λ is. subst (λ t. Behind events (seen_at b t)) (sym is) (on (seen_at a s) (seen_at b s) (subst (λ t. Behind events (seen_at a t)) is h) m.grows))
      (λ other. subst (Behind events) (sym (only_else s r a b other m.only)) h)
    where
      on : (I K : List CellEvent) → Behind events I → GrowsBy (by_event n) a.number I K → Behind events K
      on I K h g = (g.0 ++ h.0, g.2 ∙ (ap (λ l. g.0 ++ l) h.1 ∙ sym (append_assoc g.0 h.0 events)))

  module _ (s : ℕ) (J : List CellEvent) (olds xs zs : List CellsSeen) (m : AllGo (MeetsCell n s J) xs zs) where
    pub sees_on : AllGo (SeesCells n) olds xs → AllGo (SeesCells n) olds zs
    sees_on h = then_go (SeesCells n) (MeetsCell n s J) (SeesCells n) (sees_then s J) olds xs zs h m

    pub booted_on : (r : ℕ) (deeds : List Deed) → AllBooted r deeds xs → AllBooted r deeds zs
    booted_on r deeds h = record {
      events = h.events;
      stand = h.stand;
      seen = all_stay (MeetsCell n s J) (λ c. Behind h.events (seen_at c r)) (λ c. Behind h.events (seen_at c r)) (meets_behind s J r h.events) xs zs m h.seen;
    }

    pub booted_now : (deeds : List Deed) → BootsStand s deeds J → AllBooted s deeds zs
    booted_now deeds stand = record { events = J; stand = stand; seen = all_given (MeetsCell n s J) (λ c. Behind J (seen_at c s)) (λ a b h. h.met) xs zs m }

    -- of each service up to this one
    pub booted_next : (deeds : List Deed) → BootsStand s deeds J → ((r : ℕ) → r < s → AllBooted r deeds xs) → (r : ℕ) → r < suc s → AllBooted r deeds zs
    booted_next deeds stand before r l = dite (ℕ_discrete r s)
        (λ is. subst (λ t. AllBooted t deeds zs) (sym is) (booted_now deeds stand))
        (λ other. booted_on r deeds (before r (omega (arith, l, other))))

-- what came up in the turns before stands there, too
pub stands_before : (s k : ℕ) (old new : List Deed) (J : List CellEvent) → GrowsBy by_deed k old new → BootsStand s new J → BootsStand s old J
stands_before s k old new J grows stand j up = stand j (subst (λ (deeds : List Deed). up_in deeds s j ≡ true) (sym grows.2) (up_stays grows.0 old s j up))

-- ---- the launcher's seat at the end

module _ (n : ℕ) (a b : Sat) (is : b ≡ record a { okd = b.okd }) (grows : GrowsBy by_entry n a.okd b.okd) where
  -- what the launcher did is what it noted
  pub own_met : (w : CellsSeen) (items : List Own) → AreOwn n a w items → AreOwn n b w items
  own_met w items h = record {
    okd = sees n a.okd b.okd (filter_map okd_item items) grows h.okd;
    proxies = λ p. ap (λ (x : Sat). events_of n (proxy_past x.proxies p)) is ∙ h.proxies p;
    pubd = ap (λ (x : Sat). events_of n x.pubd) is ∙ h.pubd;
    oklogd = ap (λ (x : Sat). events_of n x.oklogd) is ∙ h.oklogd;
    cells = h.cells;
    launches = h.launches;
  }

  -- and no more came up
  pub came_met : a.number ≡ n → came_up b ≡ came_up a
  came_met number = λ i s k. (ap (λ v. list_any (is_up_of s k) (events_of v b.okd)) (ap (λ (x : Sat). x.number) is ∙ number) ∙ (ap (list_any (is_up_of s k)) (went n a.okd b.okd grows) ∙ ap (λ v. list_any (is_up_of s k) (events_of v a.okd)) (sym number))) i

-- what the last of some seats has seen stands in what all lead to
pub last_behind : (J : List (Entry OkdEvent)) (ss all : List Sat) (s : Sat) (K : List (Entry OkdEvent)) → all ≡ ss ++ s ∷ [] → AllGrown (λ s. s.okd) all K → Behind J s.okd → Behind J K
last_behind J ss all s K is grown h = last ss (subst (λ l. AllGrown (λ s. s.okd) l K) is grown)
  where
    last : (ss : List Sat) → AllGrown (λ s. s.okd) (ss ++ s ∷ []) K → Behind J K
    last [] g = (g.0.0 ++ h.0, g.0.2 ∙ (ap (λ l. g.0.0 ++ l) h.1 ∙ sym (append_assoc g.0.0 h.0 J)))
    last (r ∷ ss) g = last ss g.1
