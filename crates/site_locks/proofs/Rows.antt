-- Seats at the locks of a run, one by one and by index.
use Rattle.std.proofs.Common.{◌≡◌, ◌∙◌, ℕ, zero, suc, ◌+◌, ◌<◌, List, [], ◌∷◌, map, length, get_or, set, refl, sym, ap, subst, arith}
use Rattle.std.proofs.lemmas.List.{length-map}
use Rattle.atomic_table.specs.Seated.{TableId}
use Rattle.turn_lock.specs.Seats.{SeatIs, TurnIs}
use Rattle.site_locks.specs.Sat.{AtLock, AtRow}

-- a seat that has seen more is where it was
pub still : {E : Type 0} (z : TableId) (l n : ℕ) (K : List E) (a d : SeatIs E) → AtLock z l n a → d ≡ record { lock = a.lock; number = a.number; seen = K; held = a.held; label = a.label; olds = a.olds } → AtLock z l n d
still z l n K a d h is = record {
  lock_is = ap (λ (x : SeatIs _). x.lock) is ∙ h.lock_is;
  number_is = ap (λ (x : SeatIs _). x.number) is ∙ h.number_is;
  free = ap (λ (x : SeatIs _). x.held) is ∙ h.free;
  label_is = ap (λ (x : SeatIs _). x.label) is ∙ h.label_is;
  alone = ap (λ (x : SeatIs _). x.olds) is ∙ h.alone;
}

module _ {E : Type 0} where
  pub row_length : (zs : List TableId) (l n : ℕ) (cs : List (SeatIs E)) → AtRow zs l n cs → length cs ≡ length zs
  row_length [] l n [] a = refl
  row_length [] l n (c ∷ cs) a = absurd a
  row_length (z ∷ zs) l n [] a = absurd a
  row_length (z ∷ zs) l n (c ∷ cs) a = ap suc (row_length zs (suc l) n cs a.1)

  pub at_place : (d : TableId) (zs : List TableId) (l n : ℕ) (cs : List (SeatIs E)) → AtRow zs l n cs → (i : ℕ) (c : SeatIs E) → i < length cs → c ≡ get_or cs i c → AtLock (get_or zs i d) (l + i) n c
  at_place d zs l n [] a i c lt e = absurd (omega arith)
  at_place d [] l n (x ∷ cs) a i c lt e = absurd a
  at_place d (z ∷ zs) l n (x ∷ cs) a zero c lt e = subst (λ k. AtLock z k n c) (omega arith) (subst (AtLock z l n) (sym e) a.0)
  at_place d (z ∷ zs) l n (x ∷ cs) a (suc i) c lt e = subst (λ k. AtLock (get_or zs i d) k n c) (omega arith) (at_place d zs (suc l) n cs a.1 i c (omega arith) e)

  pub row_set : (d : TableId) (zs : List TableId) (l n : ℕ) (cs : List (SeatIs E)) → AtRow zs l n cs → (i : ℕ) (new : SeatIs E) → i < length cs → AtLock (get_or zs i d) (l + i) n new → AtRow zs l n (set cs i new)
  row_set d zs l n [] a i new lt h = absurd (omega arith)
  row_set d [] l n (x ∷ cs) a i new lt h = absurd a
  row_set d (z ∷ zs) l n (x ∷ cs) a zero new lt h = (subst (λ k. AtLock z k n new) (omega arith) h, a.1)
  row_set d (z ∷ zs) l n (x ∷ cs) a (suc i) new lt h = (a.0, row_set d zs (suc l) n cs a.1 i new (omega arith) (subst (λ k. AtLock (get_or zs i d) k n new) (omega arith) h))

pub lock_at : {T : Type 0} (h : T → TableId) (d : TableId) (ts : List T) (i : ℕ) (t : T) → i < length ts → t ≡ get_or ts i t → get_or (map h ts) i d ≡ h t
lock_at h d [] i t l e = absurd (omega arith)
lock_at h d (x ∷ ts) zero t l e = ap h (sym e)
lock_at h d (x ∷ ts) (suc i) t l e = lock_at h d ts i t (omega arith) e

pub seen_at : {E : Type 0} (cs : List (SeatIs E)) (i : ℕ) (c : SeatIs E) → i < length cs → c ≡ get_or cs i c → get_or (map (λ (a : SeatIs E). a.seen) cs) i [] ≡ c.seen
seen_at [] i c l e = absurd (omega arith)
seen_at (x ∷ cs) zero c l e = ap (λ (a : SeatIs _). a.seen) (sym e)
seen_at (x ∷ cs) (suc i) c l e = seen_at cs i c (omega arith) e

pub map_set : {A B : Type 0} (f : A → B) (xs : List A) (i : ℕ) (x : A) → map f (set xs i x) ≡ set (map f xs) i (f x)
map_set f [] i x = refl
map_set f (y ∷ xs) zero x = refl
map_set f (y ∷ xs) (suc i) x = ap (λ l. f y ∷ l) (map_set f xs i x)

-- the seats and the locks of a row are as many as the proxies
pub within_row : {E : Type 0} (zs : List TableId) (cs : List (SeatIs E)) (ts : List TurnIs) (n p count : ℕ) → AtRow zs 0 n cs → map (λ (t : TurnIs). t.id) ts ≡ zs → length ts ≡ count → p < count → (p < length cs) × (p < length ts)
within_row zs cs ts n p count a ids counts lt =
    let h : length cs ≡ length zs = row_length zs 0 n cs a in
    let k : length (map (λ (t : TurnIs). t.id) ts) ≡ length ts = length-map ts (λ (t : TurnIs). t.id) in
    let i : length (map (λ (t : TurnIs). t.id) ts) ≡ length zs = ap length ids in
    (omega arith, omega arith)

-- a seat of a row, at its lock
pub record Placed {E : Type 0} (zs : List TableId) (n p : ℕ) (c : SeatIs E) (t : TurnIs) : Type 0 where
  pub lock_is : c.lock ≡ t.id
  pub at : AtLock (get_or zs p t.id) p n c

pub placed : {E : Type 0} (zs : List TableId) (cs : List (SeatIs E)) (ts : List TurnIs) (n p count : ℕ) (c : SeatIs E) (t : TurnIs) → AtRow zs 0 n cs → map (λ (t : TurnIs). t.id) ts ≡ zs → length ts ≡ count → p < count
    → c ≡ get_or cs p c → t ≡ get_or ts p t → Placed zs n p c t
placed zs cs ts n p count c t a ids counts lt e f =
    let w : (p < length cs) × (p < length ts) = within_row zs cs ts n p count a ids counts lt in
    let h : AtLock (get_or zs p t.id) (0 + p) n c = at_place t.id zs 0 n cs a p c w.0 e in
    let k : 0 + p ≡ p = omega arith in
    record {
      lock_is = h.lock_is ∙ (ap (λ z. get_or z p t.id) (sym ids) ∙ lock_at (λ (t : TurnIs). t.id) t.id ts p t w.1 f);
      at = subst (λ l. AtLock (get_or zs p t.id) l n c) k h;
    }

-- a row in which one seat has seen more
pub row_still : {E : Type 0} (zs : List TableId) (cs : List (SeatIs E)) (ts : List TurnIs) (n p count : ℕ) (c d : SeatIs E) (t : TurnIs) (K : List E) → AtRow zs 0 n cs → map (λ (t : TurnIs). t.id) ts ≡ zs → length ts ≡ count → p < count
    → Placed zs n p c t → d ≡ record { lock = c.lock; number = c.number; seen = K; held = c.held; label = c.label; olds = c.olds } → AtRow zs 0 n (set cs p d)
row_still zs cs ts n p count c d t K a ids counts lt h is =
    let w : (p < length cs) × (p < length ts) = within_row zs cs ts n p count a ids counts lt in
    let k : p ≡ 0 + p = omega arith in
    row_set t.id zs 0 n cs a p d w.0 (subst (λ l. AtLock (get_or zs p t.id) l n d) k (still (get_or zs p t.id) p n K c d h.at is))
