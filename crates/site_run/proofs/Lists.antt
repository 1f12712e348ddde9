-- Lists that grow at their ends.
use Rattle.std.proofs.Common.{◌≡◌, ℕ, suc, ◌+◌, ◌≤◌, Bool, List, [], ◌∷◌, ◌++◌, length, get_or, sym, ap, subst, arith}
use Rattle.std.specs.Prelude.{◌<◌, remove}
use Rattle.atomic_table.specs.Seated.{TableId}
use Rattle.okws_base.specs.declared.journal.Entry.{Entry}
use Rattle.okws_outer.specs.Streams.{counted}
use Rattle.okws_plan.specs.Configuration.{tables}
use Rattle.okws_plan.specs.declared.configuration.Config.{Config}
use Rattle.okws_plan.specs.declared.event.ProxyEvent.{ProxyEvent}
use Rattle.turn_lock.specs.BoardSeats.{IsFresh, AreFresh, AreRising}
use Rattle.turn_lock.specs.BoardSeats.{SeatIs as Place}
use Rattle.monitor_model.specs.Cell.{CellLaw}
use Rattle.monitor_model.specs.Columns.{ProxyLaw, faults}
use Rattle.monitor_model.specs.Placed.{EachFrom}
use Rattle.monitor_model.specs.Sent.{AreSent}
use Rattle.monitor_model.specs.Standing.{proxy_grant}
use Rattle.monitor_model.specs.declared.record.CellEvent.{CellEvent}
use Rattle.monitor_model.specs.declared.sent.Sent.{Sent}
use Rattle.named_columns.specs.Launched.{LaunchedBy}
use Rattle.site_run.specs.Journals.{AllProxies, AllCells}
use Rattle.site_making.specs.Keepers.{KeeperIs}
use Rattle.site_run.specs.Closing.{AllKept, KeeperEnds}
use Rattle.site_run.proofs.Seating.{push_length}

pub kept_push : (C : Config) (tells steady : Bool) (first : ℕ → ℕ) (p m : ℕ) (ls : List KeeperIs) (l : KeeperIs) (Js : List (List (Entry ProxyEvent))) (J : List (Entry ProxyEvent)) → m ≡ length Js + p → AllKept C tells steady first p ls Js
    → KeeperEnds C tells steady (first m) m l J → AllKept C tells steady first p (ls ++ l ∷ []) (Js ++ J ∷ [])
kept_push C tells steady first p m [] l [] J e h it = (let q : m ≡ p = omega arith in subst (λ x. KeeperEnds C tells steady (first x) x l J) q it, tt)
kept_push C tells steady first p m [] l (I ∷ Js) J e h it = absurd h
kept_push C tells steady first p m (k ∷ ls) l [] J e h it = absurd h
kept_push C tells steady first p m (k ∷ ls) l (I ∷ Js) J e h it = (h.0, kept_push C tells steady first (suc p) m ls l Js J (omega arith) h.1 it)

pub proxies_push : (C : Config) (seed : List ℕ) (n p m : ℕ) (Js : List (List (Entry ProxyEvent))) (J : List (Entry ProxyEvent)) → m ≡ length Js + p → AllProxies C seed n p Js
    → ProxyLaw C seed m J → LaunchedBy proxy_grant n J → AllProxies C seed n p (Js ++ J ∷ [])
proxies_push C seed n p m [] J e h l b = (subst (λ x. ProxyLaw C seed x J) (let q : m ≡ p = omega arith in q) l, b, tt)
proxies_push C seed n p m (I ∷ Js) J e h l b = (h.0, h.1, proxies_push C seed n (suc p) m Js J (omega arith) h.2 l b)

pub follows_push : {A : Type 0} (P : ℕ → A → Type 0) (p m : ℕ) (xs : List A) (x : A) → m ≡ length xs + p → EachFrom P p xs → P m x → EachFrom P p (xs ++ x ∷ [])
follows_push P p m [] x e h f = (subst (λ i. P i x) (let q : m ≡ p = omega arith in q) f, tt)
follows_push P p m (y ∷ xs) x e h f = (h.0, follows_push P (suc p) m xs x (omega arith) h.1 f)

pub cells_push : (C : Config) (seed : List ℕ) (s m : ℕ) (Js : List (List CellEvent)) (J : List CellEvent) (xs : List (List Sent)) (x : List Sent) → m ≡ length Js + s → AllCells C seed s Js xs
    → CellLaw J → AreSent C seed m J x → AllCells C seed s (Js ++ J ∷ []) (xs ++ x ∷ [])
cells_push C seed s m [] J [] x e h l a = (l, subst (λ y. AreSent C seed y J x) (let q : m ≡ s = omega arith in q) a, tt)
cells_push C seed s m [] J (y ∷ xs) x e h l a = absurd h
cells_push C seed s m (I ∷ Js) J [] x e h l a = absurd h
cells_push C seed s m (I ∷ Js) J (y ∷ xs) x e h l a = (h.0, h.1, cells_push C seed (suc s) m Js J xs x (omega arith) h.2 l a)

-- the last of fresh places has the least number
pub fresh_pop : (z : TableId) (last : ℕ) (as' : List Place) (a : Place) → AreFresh z last (as' ++ a ∷ []) → AreFresh z (suc last) as' × IsFresh z last a
fresh_pop z last [] a h = (tt, subst (λ x. IsFresh z x a) (let q : 0 + last ≡ last = omega arith in q) h.0)
fresh_pop z last (b ∷ as') a h =
    let rest = fresh_pop z last as' a h.1 in
    let n = push_length as' a in
    ((subst (λ x. IsFresh z x b) (let q : length (as' ++ a ∷ []) + last ≡ length as' + suc last = omega arith in q) h.0, rest.0), rest.1)

-- the first of fresh places has the greatest number
pub fresh_first : (z : TableId) (as' rest : List Place) (a : Place) → 0 < length as' → a ≡ get_or as' 0 a → rest ≡ remove as' 0 → AreFresh z 0 as' → IsFresh z (length rest + 0) a × AreFresh z 0 rest × (suc (length rest) ≡ length as')
fresh_first z [] rest a some is left h = absurd (omega arith)
fresh_first z (b ∷ as') rest a some is left h = (
  subst (λ (x : Place × List Place). IsFresh z (length x.1 + 0) x.0) (λ i. (sym is i, sym left i)) h.0,
  subst (AreFresh z 0) (sym left) h.1,
  ap (λ (l : List Place). suc (length l)) left,
)

pub rising_push : (z : TableId) (k m : ℕ) (as' : List Place) (a : Place) → m ≡ length as' + k → AreRising z k as' → IsFresh z m a → AreRising z k (as' ++ a ∷ [])
rising_push z k m [] a e h f = (subst (λ x. IsFresh z x a) (let q : m ≡ k = omega arith in q) f, tt)
rising_push z k m (b ∷ as') a e h f = (h.0, rising_push z (suc k) m as' a (omega arith) h.1 f)

-- the last of places that rise has the greatest number
pub rising_pop : (z : TableId) (k m : ℕ) (as' : List Place) (a : Place) → m ≡ length as' + k → AreRising z k (as' ++ a ∷ []) → AreRising z k as' × IsFresh z m a
rising_pop z k m [] a e h = (tt, subst (λ x. IsFresh z x a) (let q : k ≡ m = omega arith in q) h.0)
rising_pop z k m (b ∷ as') a e h = let rest = rising_pop z (suc k) m as' a (omega arith) h.1 in ((h.0, rest.0), rest.1)
