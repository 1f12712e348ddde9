-- Gathering the seats of all numbers.
use Rattle.std.proofs.Common.{◌≡◌, ◌∙◌, ◌⊎◌, inl, inr, ⊎_elim, ℕ, suc, List, [], ◌∷◌, ◌++◌, map, reverse, length, refl, sym, ap, subst}
use Rattle.std.proofs.lemmas.List.{append_assoc, length-map, length-reverse}
use Rattle.okws_base.specs.Turns.{GrowsBy}
use Rattle.okws_base.specs.declared.journal.Entry.{Entry}
use Rattle.okws_plan.specs.declared.event.OkdEvent.{OkdEvent}
use Rattle.okws_plan.specs.declared.event.ProxyEvent.{ProxyEvent}
use Rattle.okws_plan.specs.declared.event.PubdEvent.{PubdEvent}
use Rattle.okws_plan.specs.declared.event.LogEvent.{LogEvent}
use Rattle.turn_lock.specs.Board.{UpTo, AllSaw as PartsSaw, AllDrew as PartsDrew}
use Rattle.turn_lock.specs.BoardSeats.{SeatIs as BoardSeat, parts}
use Rattle.turn_lock.specs.declared.board_rule.Part.{Part}
use Rattle.monitor_model.specs.declared.record.Own.{Own}
use Rattle.named_columns.specs.Launched.{by_entry}
use Rattle.turn_lock.proofs.Gathers.{all_grow-split, has_sight-append}
use Rattle.turn_lock.proofs.Grows.{grows_on}
use Rattle.turn_lock.proofs.Rows.{grown-joined, turned_push}
use Rattle.turn_lock.specs.Rows.{RestRow, RowHas, IsJoined, JoinedRow, GrownRow}
use Rattle.turn_lock.specs.Seats.{TurnIs, SeatIs, AllGrow, HasSight, sight, sights}
use Rattle.site_locks.specs.Sat.{LocksAre, AreSeats, AtLock, AtRow, RiseFrom, Sat, ids_of, sat_of}
use Rattle.site_locks.specs.Closing.{AllGrown, RowGrown, RowsGrown, AllSaw, AllDrew, SomeIs, EndsAre, AreOf, RestAt, TakesIn, HasAll, Gathering}

-- a row of one number's seats rests at its locks
pub row_rests : {E : Type 0} (ts : List TurnIs) (l n : ℕ) (cs : List (SeatIs E)) → RiseFrom l (map (λ (t : TurnIs). t.label) ts) → AtRow (map (λ (t : TurnIs). t.id) ts) l n cs → RestRow ts cs
row_rests [] l n [] rise a = tt
row_rests [] l n (c ∷ cs) rise a = a
row_rests (t ∷ ts) l n [] rise a = a
row_rests (t ∷ ts) l n (c ∷ cs) rise a = (record { lock = a.0.lock_is; label_is = a.0.label_is ∙ sym rise.0; free = a.0.free }, row_rests ts (suc l) n cs rise.1 a.1)

pub of_rests : (l : LocksAre) (s : Sat) (e : EndsAre) → RiseFrom 0 (map (λ (t : TurnIs). t.label) l.proxies) → AreOf l s e → RestAt l e
of_rests l s e rise a = record {
  okd = (a.seats.okd_at.lock_is, a.seats.okd_at.free);
  proxies = row_rests l.proxies 0 s.number e.proxies rise a.seats.proxies_at;
  pubd = (a.seats.pubd_at.lock_is, a.seats.pubd_at.free);
  oklogd = (a.seats.oklogd_at.lock_is, a.seats.oklogd_at.free);
  board = a.seats.board_at.board_is;
}

-- what the seat of a number tells
grown_of : {E : Type 0} (z : _) (l n : ℕ) (x : SeatIs (Entry E)) (J : List (Entry E)) → AtLock z l n x → AllGrow by_entry (sights x) J → GrowsBy by_entry n x.seen J
grown_of z l n x J a g = subst (λ k. GrowsBy by_entry k x.seen J) a.number_is g.0

split : {E : Type 0} (o a b : SeatIs (Entry E)) (J : List (Entry E)) → IsJoined by_entry o a b → AllGrow by_entry (sights b) J → AllGrow by_entry (sights o) J × AllGrow by_entry (sights a) J
split o a b J j g =
    let all : AllGrow by_entry (record { number = a.number; seen = b.seen } ∷ sight o ∷ o.olds ++ a.olds) J = subst (λ (x : SeatIs (Entry _)). AllGrow by_entry (sights x) J) j.is g in
    let s = all_grow-split by_entry (sights o) a.olds J all.1 in
    (s.0, (grows_on by_entry a.number a.seen b.seen J j.grows all.0, s.1))

row_grown : (n : ℕ) (zs : List _) (l : ℕ) (cs : List (SeatIs (Entry ProxyEvent))) (Js : List (List (Entry ProxyEvent))) → AtRow zs l n cs → GrownRow by_entry cs Js → RowGrown n (map (λ (a : SeatIs (Entry ProxyEvent)). a.seen) cs) Js
row_grown n [] l [] [] a g = tt
row_grown n [] l [] (J ∷ Js) a g = g
row_grown n [] l (c ∷ cs) Js a g = absurd a
row_grown n (z ∷ zs) l [] Js a g = absurd a
row_grown n (z ∷ zs) l (c ∷ cs) [] a g = g
row_grown n (z ∷ zs) l (c ∷ cs) (J ∷ Js) a g = (subst (λ k. GrowsBy by_entry k c.seen J) a.0.number_is g.0.0, row_grown n zs (suc l) cs Js a.1 g.1)

all_push : {E : Type 0} (seen : Sat → List (Entry E)) (ss : List Sat) (s : Sat) (J : List (Entry E)) → AllGrown seen ss J → GrowsBy by_entry s.number (seen s) J → AllGrown seen (ss ++ s ∷ []) J
all_push seen [] s J h g = (g, tt)
all_push seen (x ∷ ss) s J h g = (h.0, all_push seen ss s J h.1 g)

rows_push : (ss : List Sat) (s : Sat) (Js : List (List (Entry ProxyEvent))) → RowsGrown ss Js → RowGrown s.number s.proxies Js → RowsGrown (ss ++ s ∷ []) Js
rows_push [] s Js h g = (g, tt)
rows_push (x ∷ ss) s Js h g = (h.0, rows_push ss s Js h.1 g)

saw_push : (n : ℕ) (greatest : List ℕ) (ss : List Sat) (s : Sat) → AllSaw n greatest ss → UpTo s.board greatest → (suc s.number ≡ n → s.board ≡ greatest) → AllSaw n greatest (ss ++ s ∷ [])
saw_push n greatest [] s h u l = (u, l, tt)
saw_push n greatest (x ∷ ss) s h u l = (h.0, h.1, saw_push n greatest ss s h.2 u l)

drew_push : (hand : ℕ → ℕ) (total : ℕ) (ss : List Sat) (s : Sat) → AllDrew hand total ss → AllDrew hand total (s ∷ []) → AllDrew hand total (ss ++ s ∷ [])
drew_push hand total [] s h d = d
drew_push hand total (x ∷ ss) s h d = (h.0, drew_push hand total ss s h.1 d)

some_pop : (k : ℕ) (ss : List Sat) (s : Sat) → SomeIs k (ss ++ s ∷ []) → (s.number ≡ k) ⊎ SomeIs k ss
some_pop k [] s (inl h) = inl h
some_pop k [] s (inr h) = absurd h
some_pop k (x ∷ ss) s (inl h) = inr (inl h)
some_pop k (x ∷ ss) s (inr h) = ⊎_elim (λ (y : s.number ≡ k). inl y) (λ (y : SomeIs k ss). inr (inr y)) (some_pop k ss s h)

saw_split : (n : ℕ) (greatest : List ℕ) (ps qs : List Part) → PartsSaw n greatest (ps ++ qs) → PartsSaw n greatest ps × PartsSaw n greatest qs
saw_split n greatest [] qs h = (tt, h)
saw_split n greatest (p ∷ ps) qs h = let r : PartsSaw n greatest ps × PartsSaw n greatest qs = saw_split n greatest ps qs h.2 in ((h.0, h.1, r.0), r.1)

drew_split : (hand : ℕ → ℕ) (total : ℕ) (ps qs : List Part) → PartsDrew hand total (ps ++ qs) → PartsDrew hand total ps × PartsDrew hand total qs
drew_split hand total [] qs h = (tt, h)
drew_split hand total (p ∷ ps) qs h = let r : PartsDrew hand total ps × PartsDrew hand total qs = drew_split hand total ps qs h.1 in ((h.0, r.0), r.1)

-- the numbers that a row of seats has
row_has : (n : ℕ) (zs : List _) (l : ℕ) (cs : List (SeatIs (Entry ProxyEvent))) → AtRow zs l n cs → RowHas n cs
row_has n [] l [] a = tt
row_has n [] l (c ∷ cs) a = absurd a
row_has n (z ∷ zs) l [] a = absurd a
row_has n (z ∷ zs) l (c ∷ cs) a = (inl a.0.number_is, row_has n zs (suc l) cs a.1)

has_own : (l : LocksAre) (s : Sat) (e : EndsAre) → AreOf l s e → HasAll s.number e
has_own l s e a = record { okd = inl a.seats.okd_at.number_is; proxies = row_has s.number (ids_of l).proxies 0 e.proxies a.seats.proxies_at; pubd = inl a.seats.pubd_at.number_is; oklogd = inl a.seats.oklogd_at.number_is }

has_joined : {E : Type 0} (k : ℕ) (o a b : SeatIs (Entry E)) → IsJoined by_entry o a b → HasSight k (sights o) ⊎ HasSight k (sights a) → HasSight k (sights b)
has_joined k o a b j (inl h) = subst (λ (x : SeatIs (Entry _)). HasSight k (sights x)) (sym j.is) (inr (has_sight-append k (sights o) a.olds (inl h)))
has_joined k o a b j (inr h) = subst (λ (x : SeatIs (Entry _)). HasSight k (sights x)) (sym j.is) (⊎_elim (λ (y : a.number ≡ k). inl y) (λ (y : HasSight k a.olds). inr (has_sight-append k (sights o) a.olds (inr y))) h)

row_joined : (k : ℕ) (os as' bs : List (SeatIs (Entry ProxyEvent))) → JoinedRow by_entry os as' bs → RowHas k os ⊎ RowHas k as' → RowHas k bs
row_joined k [] [] [] j h = tt
row_joined k [] [] (b ∷ bs) j h = absurd j
row_joined k [] (a ∷ as') bs j h = absurd j
row_joined k (o ∷ os) [] bs j h = absurd j
row_joined k (o ∷ os) (a ∷ as') [] j h = absurd j
row_joined k (o ∷ os) (a ∷ as') (b ∷ bs) j (inl h) = (has_joined k o a b j.0 (inl h.0), row_joined k os as' bs j.1 (inl h.1))
row_joined k (o ∷ os) (a ∷ as') (b ∷ bs) j (inr h) = (has_joined k o a b j.0 (inr h.0), row_joined k os as' bs j.1 (inr h.1))

has_taken : (k : ℕ) (s : Sat) (o a b : EndsAre) → TakesIn s o a b → HasAll k o ⊎ HasAll k a → HasAll k b
has_taken k s o a b t (inl h) = record {
  okd = has_joined k o.okd a.okd b.okd t.okd (inl h.okd);
  proxies = row_joined k o.proxies a.proxies b.proxies t.proxies (inl h.proxies);
  pubd = has_joined k o.pubd a.pubd b.pubd t.pubd (inl h.pubd);
  oklogd = has_joined k o.oklogd a.oklogd b.oklogd t.oklogd (inl h.oklogd);
}
has_taken k s o a b t (inr h) = record {
  okd = has_joined k o.okd a.okd b.okd t.okd (inr h.okd);
  proxies = row_joined k o.proxies a.proxies b.proxies t.proxies (inr h.proxies);
  pubd = has_joined k o.pubd a.pubd b.pubd t.pubd (inr h.pubd);
  oklogd = has_joined k o.oklogd a.oklogd b.oklogd t.oklogd (inr h.oklogd);
}

-- what the seats of one number tell of it
module _ (l : LocksAre) (s : Sat) (e : EndsAre) (a : AreOf l s e) where
  okd_of : (J : List (Entry OkdEvent)) → AllGrow by_entry (sights e.okd) J → GrowsBy by_entry s.number s.okd J
  okd_of J g = subst (λ K. GrowsBy by_entry s.number K J) (sym (ap (λ (x : Sat). x.okd) a.sat_is)) (grown_of l.okd.id 0 s.number e.okd J a.seats.okd_at g)

  pubd_of : (J : List (Entry PubdEvent)) → AllGrow by_entry (sights e.pubd) J → GrowsBy by_entry s.number s.pubd J
  pubd_of J g = subst (λ K. GrowsBy by_entry s.number K J) (sym (ap (λ (x : Sat). x.pubd) a.sat_is)) (grown_of l.pubd.id 0 s.number e.pubd J a.seats.pubd_at g)

  log_of : (J : List (Entry LogEvent)) → AllGrow by_entry (sights e.oklogd) J → GrowsBy by_entry s.number s.oklogd J
  log_of J g = subst (λ K. GrowsBy by_entry s.number K J) (sym (ap (λ (x : Sat). x.oklogd) a.sat_is)) (grown_of l.oklogd.id 0 s.number e.oklogd J a.seats.oklogd_at g)

  row_of : (Js : List (List (Entry ProxyEvent))) → GrownRow by_entry e.proxies Js → RowGrown s.number s.proxies Js
  row_of Js g = subst (λ Ks. RowGrown s.number Ks Js) (sym (ap (λ (x : Sat). x.proxies) a.sat_is)) (row_grown s.number (ids_of l).proxies 0 e.proxies Js a.seats.proxies_at g)

  saw_of : (n : ℕ) (greatest : List ℕ) → PartsSaw n greatest (parts e.board) → UpTo s.board greatest × (suc s.number ≡ n → s.board ≡ greatest)
  saw_of n greatest g =
      let seen : s.board ≡ e.board.seen = ap (λ (x : Sat). x.board) a.sat_is in
      (subst (λ K. UpTo K greatest) (sym seen) g.0, λ last. seen ∙ g.1 (ap suc a.seats.board_at.number_is ∙ last))

  drew_of : (hand : ℕ → ℕ) (total : ℕ) → PartsDrew hand total (parts e.board) → AllDrew hand total (s ∷ [])
  drew_of hand total g = (ap (λ (x : Sat). x.drawn) a.sat_is ∙ (g.0 ∙ ap (λ k. Rattle.turn_lock.specs.Board.drawn_by hand k total) a.seats.board_at.number_is), tt)

-- the first one's seats take in the others'
pub gather_first : (l : LocksAre) (all left : List Sat) (s : Sat) (e : EndsAre) → all ≡ left ++ s ∷ [] → RestAt l e → AreOf l s e → Gathering l all left e
gather_first l all left s e is rest a = record {
  rest = rest;
  okd = λ J g h. subst (λ ss. AllGrown (λ s. s.okd) ss J) (sym is) (all_push (λ s. s.okd) left s J h (okd_of l s e a J g));
  proxies = λ Js g h. subst (λ ss. RowsGrown ss Js) (sym is) (rows_push left s Js h (row_of l s e a Js g));
  pubd = λ J g h. subst (λ ss. AllGrown (λ s. s.pubd) ss J) (sym is) (all_push (λ s. s.pubd) left s J h (pubd_of l s e a J g));
  oklogd = λ J g h. subst (λ ss. AllGrown (λ s. s.oklogd) ss J) (sym is) (all_push (λ s. s.oklogd) left s J h (log_of l s e a J g));
  saw = λ n greatest g h. let w = saw_of l s e a n greatest g in subst (λ ss. AllSaw n greatest ss) (sym is) (saw_push n greatest left s h w.0 w.1);
  drew = λ hand total g h. subst (λ ss. AllDrew hand total ss) (sym is) (drew_push hand total left s h (drew_of l s e a hand total g));
  numbers = λ k h. ⊎_elim (λ (y : s.number ≡ k). inl (subst (λ m. HasAll m e) y (has_own l s e a))) (λ (y : SomeIs k left). inr y) (some_pop k left s (subst (SomeIs k) is h));
}

parts_joined : (o a b : BoardSeat) → b ≡ record { board = a.board; number = a.number; seen = a.seen; drawn = a.drawn; olds = parts o ++ a.olds } → parts b ≡ record { number = a.number; seen = a.seen; drawn = a.drawn } ∷ parts o ++ a.olds
parts_joined o a b is = ap parts is

pub gather_next : (l : LocksAre) (all more left : List Sat) (s : Sat) (other one now : EndsAre) → more ≡ left ++ s ∷ [] → AreOf l s other → TakesIn s other one now → RestAt l now → Gathering l all more one → Gathering l all left now
gather_next l all more left s other one now is a t rest h = record {
  rest = rest;
  okd = λ J g k. let w = split other.okd one.okd now.okd J t.okd g in h.okd J w.1 (subst (λ ss. AllGrown (λ s. s.okd) ss J) (sym is) (all_push (λ s. s.okd) left s J k (okd_of l s other a J w.0)));
  proxies = λ Js g k. let w = grown-joined by_entry other.proxies one.proxies now.proxies Js t.proxies g in h.proxies Js w.1 (subst (λ ss. RowsGrown ss Js) (sym is) (rows_push left s Js k (row_of l s other a Js w.0)));
  pubd = λ J g k. let w = split other.pubd one.pubd now.pubd J t.pubd g in h.pubd J w.1 (subst (λ ss. AllGrown (λ s. s.pubd) ss J) (sym is) (all_push (λ s. s.pubd) left s J k (pubd_of l s other a J w.0)));
  oklogd = λ J g k. let w = split other.oklogd one.oklogd now.oklogd J t.oklogd g in h.oklogd J w.1 (subst (λ ss. AllGrown (λ s. s.oklogd) ss J) (sym is) (all_push (λ s. s.oklogd) left s J k (log_of l s other a J w.0)));
  saw = λ n greatest g k.
      let p = subst (PartsSaw n greatest) (parts_joined other.board one.board now.board t.board) g in
      let r = saw_split n greatest (parts other.board) one.board.olds p.2 in
      let w = saw_of l s other a n greatest r.0 in
      h.saw n greatest (p.0, p.1, r.1) (subst (λ ss. AllSaw n greatest ss) (sym is) (saw_push n greatest left s k w.0 w.1));
  drew = λ hand total g k.
      let p = subst (PartsDrew hand total) (parts_joined other.board one.board now.board t.board) g in
      let r = drew_split hand total (parts other.board) one.board.olds p.1 in
      h.drew hand total (p.0, r.1) (subst (λ ss. AllDrew hand total ss) (sym is) (drew_push hand total left s k (drew_of l s other a hand total r.0)));
  numbers = λ k w. ⊎_elim
      (λ (x : HasAll k one). inl (has_taken k s other one now t (inr x)))
      (λ (x : SomeIs k more). ⊎_elim (λ (y : s.number ≡ k). inl (has_taken k s other one now t (inl (subst (λ m. HasAll m other) y (has_own l s other a))))) (λ (y : SomeIs k left). inr y)
      (some_pop k left s (subst (SomeIs k) is x))) (h.numbers k w);
}

-- once all are joined
pub has_all : (l : LocksAre) (all left : List Sat) (one : EndsAre) → left ≡ [] → Gathering l all left one → (k : ℕ) → SomeIs k all → HasAll k one
has_all l all left one none h k w = ⊎_elim (λ (x : HasAll k one). x) (λ (x : SomeIs k left). absurd (subst (SomeIs k) none x)) (h.numbers k w)

-- a number's seats, apart from the names of their locks
pub are_of : (l : LocksAre) (z : _) (n : ℕ) (okd : SeatIs (Entry OkdEvent)) (ps : List (SeatIs (Entry ProxyEvent))) (pubd : SeatIs (Entry PubdEvent)) (log : SeatIs (Entry LogEvent)) (board : BoardSeat) (mine : List Own) (spare : ℕ) → ids_of l ≡ z → AreSeats z n okd ps pubd log board
    → AreOf l (sat_of n okd ps pubd log board mine spare) (record { okd = okd; proxies = ps; pubd = pubd; oklogd = log; board = board })
are_of l z n okd ps pubd log board mine spare ids h = record { seats = subst (λ x. AreSeats x n okd ps pubd log board) (sym ids) h; sat_is = refl }

-- own lists are given the last first
pub owns_first : (all left : List Sat) (s : Sat) (owns : List (List Own)) → all ≡ left ++ s ∷ [] → owns ≡ [] ++ s.own ∷ [] → owns ++ reverse (map (λ (x : Sat). x.own) left) ≡ reverse (map (λ (x : Sat). x.own) all)
owns_first all left s owns is put = ap (λ o. o ++ reverse (map (λ (x : Sat). x.own) left)) put ∙ sym (turned_push (λ (x : Sat). x.own) all left s is)

pub owns_next : (all more left : List Sat) (s : Sat) (before owns : List (List Own)) → more ≡ left ++ s ∷ [] → owns ≡ before ++ s.own ∷ []
    → before ++ reverse (map (λ (x : Sat). x.own) more) ≡ reverse (map (λ (x : Sat). x.own) all) → owns ++ reverse (map (λ (x : Sat). x.own) left) ≡ reverse (map (λ (x : Sat). x.own) all)
owns_next all more left s before owns is put h =
    ap (λ o. o ++ reverse (map (λ (x : Sat). x.own) left)) put
    ∙ (append_assoc before (s.own ∷ []) (reverse (map (λ (x : Sat). x.own) left)) ∙ (ap (λ r. before ++ r) (sym (turned_push (λ (x : Sat). x.own) more left s is)) ∙ h))

pub as_many : {A B D : Type 0} (f : A → D) (g : B → D) (as' : List A) (bs : List B) → reverse (map f as') ≡ map g bs → length as' ≡ length bs
as_many f g as' bs e = sym (length-map as' f) ∙ (sym (length-reverse (map f as')) ∙ (ap length e ∙ length-map bs g))
