-- A seat of a row, and the row after its turn.
use Rattle.std.proofs.Common.{◌≡◌, ℕ, zero, suc, ◌+◌, ◌<◌, Bool, false, List, [], ◌∷◌, map, length, get_or, set, refl, sym, ap, ◌∙◌, subst, arith}
use Rattle.std.proofs.lemmas.List.{length-map}
use Rattle.monitor_model.specs.declared.record.CellEvent.{CellEvent}
use Rattle.monitor_model.specs.Cell.{incarnation}
use Rattle.site_cells.specs.Held.{events_in, is_booted}
use Rattle.turn_lock.specs.Seats.{TurnIs, SeatIs}
use Rattle.turn_lock.specs.Rows.{RestsAt}
use Rattle.turn_lock.proofs.Rows.{rest_length, rest_at, rest_set, rests_still}
use Rattle.site_cells.proofs.EnteredEvents.{none_linked}
use Rattle.site_cells.specs.Row.{Rise, AllAlone, CellsSeen, AreLocks, AreSeats, OnlyAt, seen_at, link_at}

rise_at : (k : ℕ) (ts : List TurnIs) (i : ℕ) (t : TurnIs) → Rise k (map (λ t. t.label) ts) → i < length ts → t ≡ get_or ts i t → t.label ≡ k + i
rise_at k [] i t h l e = absurd (omega arith)
rise_at k (u ∷ ts) zero t h l e = ap (λ (x : TurnIs). x.label) e ∙ (h.0 ∙ (let q : k ≡ k + 0 = omega arith in q))
rise_at k (u ∷ ts) (suc i) t h l e = rise_at (suc k) ts i t h.1 (omega arith) e ∙ (let q : suc k + i ≡ k + suc i = omega arith in q)

alone_at : (n : ℕ) (as' : List (SeatIs CellEvent)) (i : ℕ) (a : SeatIs CellEvent) → AllAlone n as' → i < length as' → a ≡ get_or as' i a → (a.number ≡ n) × (a.olds ≡ [])
alone_at n [] i a h l e = absurd (omega arith)
alone_at n (x ∷ as') zero a h l e = subst (λ (y : SeatIs CellEvent). (y.number ≡ n) × (y.olds ≡ [])) (sym e) (h.0, h.1)
alone_at n (x ∷ as') (suc i) a h l e = alone_at n as' i a h.2 (omega arith) e

alone_set : (n : ℕ) (as' : List (SeatIs CellEvent)) (i : ℕ) (b : SeatIs CellEvent) → AllAlone n as' → b.number ≡ n → b.olds ≡ [] → AllAlone n (set as' i b)
alone_set n [] i b h p q = tt
alone_set n (x ∷ as') zero b h p q = (p, q, h.2)
alone_set n (x ∷ as') (suc i) b h p q = (h.0, h.1, alone_set n as' i b h.2 p q)

map_get : {A B : Type 0} (f : A → B) (d : B) (xs : List A) (i : ℕ) (x : A) → i < length xs → x ≡ get_or xs i x → get_or (map f xs) i d ≡ f x
map_get f d [] i x l e = absurd (omega arith)
map_get f d (y ∷ xs) zero x l e = ap f (sym e)
map_get f d (y ∷ xs) (suc i) x l e = map_get f d xs i x (omega arith) e

map_set : {A B : Type 0} (f : A → B) (xs : List A) (i : ℕ) (x : A) → map f (set xs i x) ≡ set (map f xs) i (f x)
map_set f [] i x = refl
map_set f (y ∷ xs) zero x = refl
map_set f (y ∷ xs) (suc i) x = ap (λ l. f y ∷ l) (map_set f xs i x)

get_set : {A : Type 0} (xs : List A) (i : ℕ) (x d : A) → i < length xs → get_or (set xs i x) i d ≡ x
get_set [] i x d l = absurd (omega arith)
get_set (y ∷ xs) zero x d l = refl
get_set (y ∷ xs) (suc i) x d l = get_set xs i x d (omega arith)

set_same : {A : Type 0} (xs : List A) (i : ℕ) (x : A) → x ≡ get_or xs i x → set xs i x ≡ xs
set_same [] i x e = refl
set_same (y ∷ xs) zero x e = ap (λ z. z ∷ xs) e
set_same (y ∷ xs) (suc i) x e = ap (λ l. y ∷ l) (set_same xs i x e)

-- what a seat has seen of its cell's events, and whether that had its link
abbrev pub events_at : SeatIs CellEvent → List CellEvent
events_at a = events_in a.seen

abbrev pub booted_at : SeatIs CellEvent → Bool
booted_at a = is_booted a.seen

-- what the seats of a number have seen
abbrev pub seen_of : ℕ → List (SeatIs CellEvent) → CellsSeen
seen_of n as' = record { number = n; cells = map events_at as'; links = map booted_at as' }

-- a cell whose link is out has no incarnation
unlinked_row : (as' : List (SeatIs CellEvent)) (s : ℕ) → get_or (map booted_at as') s false ≡ false → incarnation (get_or (map events_at as') s []) ≡ 0
unlinked_row [] s out = refl
unlinked_row (a ∷ as') zero out = none_linked a.seen out
unlinked_row (a ∷ as') (suc s) out = unlinked_row as' s out

pub unlinked_seen : (n : ℕ) (as' : List (SeatIs CellEvent)) (seen : CellsSeen) → seen_of n as' ≡ seen → (s : ℕ) → link_at seen s ≡ false → incarnation (seen_at seen s) ≡ 0
unlinked_seen n as' seen is = subst (λ (x : CellsSeen). (s : ℕ) → link_at x s ≡ false → incarnation (seen_at x s) ≡ 0) is (unlinked_row as')

-- a seat that is the same has only seen the same
pub still_same : (a b : SeatIs CellEvent) → b ≡ a → b ≡ record { lock = a.lock; number = a.number; seen = b.seen; held = a.held; label = a.label; olds = a.olds }
still_same a b e = e ∙ ap (λ (x : SeatIs CellEvent). record { lock = a.lock; number = a.number; seen = x.seen; held = a.held; label = a.label; olds = a.olds }) (sym e)

module _ (names ts : List TurnIs) (gates n : ℕ) (as' : List (SeatIs CellEvent)) (seen : CellsSeen) (locks : AreLocks names ts gates) (seats : AreSeats names n as') (is : seen_of n as' ≡ seen) (s : ℕ) (short : s < length seen.cells) where
  pub within : (s < length as') × (s < length ts) × (s < gates)
  within =
      let a = ap (λ (x : CellsSeen). length x.cells) is in
      let m = length-map as' events_at in
      let r = rest_length names as' seats.rest in
      let k = ap length locks.named in
      let g = locks.gated in
      (omega arith, omega arith, omega arith)

  module _ (t : TurnIs) (a : SeatIs CellEvent) (t_is : t ≡ get_or ts s t) (a_is : a ≡ get_or as' s a) where
    pub rests : RestsAt t a
    rests = rest_at names as' seats.rest s t a within.0 (t_is ∙ ap (λ l. get_or l s t) locks.named) a_is

    pub label_here : a.label ≡ s
    label_here = rests.label_is ∙ (rise_at 0 ts s t locks.cells within.1 t_is ∙ (let q : 0 + s ≡ s = omega arith in q))

    pub number_here : a.number ≡ seen.number
    number_here = (alone_at n as' s a seats.alone within.0 a_is).0 ∙ ap (λ (x : CellsSeen). x.number) is

    pub seen_here : events_in a.seen ≡ seen_at seen s
    seen_here = sym (map_get events_at [] as' s a within.0 a_is) ∙ ap (λ (x : CellsSeen). seen_at x s) is

    pub link_here : is_booted a.seen ≡ link_at seen s
    link_here = sym (map_get booted_at false as' s a within.0 a_is) ∙ ap (λ (x : CellsSeen). link_at x s) is

    module _ (b : SeatIs CellEvent) (b_is : b ≡ record { lock = a.lock; number = a.number; seen = b.seen; held = a.held; label = a.label; olds = a.olds }) where
      pub seats_still : AreSeats names n (set as' s b)
      seats_still =
          let one = alone_at n as' s a seats.alone within.0 a_is in
          record {
            rest = rest_set names as' seats.rest s t b within.0 (t_is ∙ ap (λ l. get_or l s t) locks.named)
                (rests_still t a b rests (ap (λ (x : SeatIs CellEvent). x.lock) b_is) (ap (λ (x : SeatIs CellEvent). x.label) b_is) (ap (λ (x : SeatIs CellEvent). x.held) b_is));
            alone = alone_set n as' s b seats.alone (ap (λ (x : SeatIs CellEvent). x.number) b_is ∙ one.0) (ap (λ (x : SeatIs CellEvent). x.olds) b_is ∙ one.1);
          }

      pub seen_then : events_in b.seen ≡ seen_at (seen_of n (set as' s b)) s
      seen_then = sym (ap (λ l. get_or l s []) (map_set events_at as' s b) ∙ get_set (map events_at as') s (events_at b) [] (let m = length-map as' events_at in let w = within.0 in omega arith))

      pub link_then : is_booted b.seen ≡ link_at (seen_of n (set as' s b)) s
      link_then = sym (ap (λ l. get_or l s false) (map_set booted_at as' s b) ∙ get_set (map booted_at as') s (booted_at b) false (let m = length-map as' booted_at in let w = within.0 in omega arith))

      pub only_here : OnlyAt s seen (seen_of n (set as' s b))
      only_here =
          ap (λ l. record { number = n; cells = l; links = map booted_at (set as' s b) }) (map_set events_at as' s b ∙ ap (set (map events_at as') s) seen_then)
          ∙ (ap (λ l. record { number = n; cells = set (map events_at as') s (seen_at (seen_of n (set as' s b)) s); links = l }) (map_set booted_at as' s b ∙ ap (set (map booted_at as') s) link_then)
          ∙ ap (λ (x : CellsSeen). record { number = x.number; cells = set x.cells s (seen_at (seen_of n (set as' s b)) s); links = set x.links s (link_at (seen_of n (set as' s b)) s) }) is)

      pub same_here : b ≡ a → seen_of n (set as' s b) ≡ seen
      same_here e = ap (λ x. seen_of n (set as' s x)) e ∙ (ap (seen_of n) (set_same as' s a a_is) ∙ is)
