-- What comes of orders, one after the other.
use Rattle.std.proofs.Common.{◌≡◌, inl, inr, Bool, true, false, List, [], ◌∷◌, ◌++◌, ◌==◌, reverse, filter_map, refl, sym, ap, ◌∙◌, subst, append-nil, eq-eqb}
use Rattle.std.proofs.lemmas.Bool.{true≢false}
use Rattle.std.proofs.lemmas.List.{reverse-append}
use Rattle.std.proofs.lemmas.List.Elements.{filter_map-append}
use Rattle.std.specs.List.{cons_option}
use Rattle.std.specs.Prelude.{◌⊎◌, ◌&&◌, ◌||◌, Some, None}
use Rattle.std.specs.declared.option.Option.{Option}
use lib.Pointwise.{bytes_decides}
use Rattle.okws_base.specs.Value.{same_bytes}
use Rattle.monitor_model.specs.Outside.{Order, Publishes, Relaunches, Became, Obeyed, Refused, Starved, Ordered, begins_with, come_of, is_nothing, is_relaunch, may_begin_with, same_order}

-- ---- tests

or_right : (a b : Bool) → b ≡ true → (a || b) ≡ true
or_right true b h = refl
or_right false b h = h

or_left : (a b : Bool) → a ≡ true → (a || b) ≡ true
or_left true b h = refl
or_left false b h = absurd (true≢false (sym h))

or_of : (a b : Bool) → (a || b) ≡ true → (a ≡ true) ⊎ (b ≡ true)
or_of true b h = inl refl
or_of false b h = inr h

and_both : (a b : Bool) → a ≡ true → b ≡ true → (a && b) ≡ true
and_both true b h i = i
and_both false b h i = absurd (true≢false (sym h))

and_of : (a b : Bool) → (a && b) ≡ true → (a ≡ true) × (b ≡ true)
and_of true b h = (refl, h)
and_of false b h = absurd (true≢false (sym h))

-- ---- orders

pub same_itself : (order : Order) → same_order order order ≡ true
same_itself (Publishes t content) = and_both (t == t) (same_bytes content content) (eq-eqb t t refl) ((bytes_decides content content).1 refl)
same_itself (Relaunches s) = eq-eqb s s refl

-- an order that is carried out, where more comes of the rest
module _ (f g : List Order → Bool) (more : List Order) (rest : (done : List Order) → f done ≡ true → g (done ++ more) ≡ true) where
  begins_then : (order : Order) (done : List Order) → begins_with order f done ≡ true → begins_with order g (done ++ more) ≡ true
  begins_then order [] h = absurd (true≢false (sym h))
  begins_then order (one ∷ done) h = let both = and_of (same_order order one) (f done) h in and_both (same_order order one) (g (done ++ more)) both.0 (rest done both.1)

  refused_then : (order : Order) (done : List Order) → (f done ≡ true) ⊎ ((is_relaunch order && begins_with order f done) ≡ true) → (g (done ++ more) || (is_relaunch order && begins_with order g (done ++ more))) ≡ true
  refused_then order done (inl h) = or_left (g (done ++ more)) (is_relaunch order && begins_with order g (done ++ more)) (rest done h)
  refused_then order done (inr h) =
      let both = and_of (is_relaunch order) (begins_with order f done) h in
      or_right (g (done ++ more)) (is_relaunch order && begins_with order g (done ++ more)) (and_both (is_relaunch order) (begins_with order g (done ++ more)) both.0 (begins_then order done both.1))

  starved_then : (order : Order) (done : List Order) → (f done ≡ true) ⊎ (begins_with order f done ≡ true) → (g (done ++ more) || begins_with order g (done ++ more)) ≡ true
  starved_then order done (inl h) = or_left (g (done ++ more)) (begins_with order g (done ++ more)) (rest done h)
  starved_then order done (inr h) = or_right (g (done ++ more)) (begins_with order g (done ++ more)) (begins_then order done h)

  may_then : (order : Order) (became : Became) (done : List Order) → may_begin_with order became f done ≡ true → may_begin_with order became g (done ++ more) ≡ true
  may_then order Obeyed done h = begins_then order done h
  may_then order Refused done h = refused_then order done (or_of (f done) (is_relaunch order && begins_with order f done) h)
  may_then order Starved done h = starved_then order done (or_of (f done) (begins_with order f done) h)

-- what comes of some orders, and then of others, comes of all
pub come_then : (orders then : List Ordered) (done more : List Order) → come_of false orders done ≡ true → come_of false then more ≡ true → come_of false (orders ++ then) (done ++ more) ≡ true
come_then [] then [] more h i = i
come_then [] then (one ∷ done) more h i = absurd (true≢false (sym h))
come_then (one ∷ orders) then done more h i =
    may_then (come_of false orders) (come_of false (orders ++ then)) more (λ (rest : List Order) (k : come_of false orders rest ≡ true). come_then orders then rest more k i) one.order one.became done h

-- what comes of orders comes of them also where the console failed
pub come_anyway : (failed : Bool) (orders : List Ordered) (done : List Order) → come_of false orders done ≡ true → come_of failed orders done ≡ true
come_anyway failed [] done h = h
come_anyway failed (one ∷ orders) done h =
    or_right (failed && is_nothing done) (may_begin_with one.order one.became (come_of failed orders) done) (subst (λ (xs : List Order). may_begin_with one.order one.became (come_of failed orders) xs ≡ true) (append-nil done)
    (may_then (come_of false orders) (come_of failed orders) []
    (λ (rest : List Order) (k : come_of false orders rest ≡ true). subst (λ (xs : List Order). come_of failed orders xs ≡ true) (sym (append-nil rest)) (come_anyway failed orders rest k))
    one.order one.became done h))

-- an order that is carried out
pub comes_alone : (order : Order) (became : Became) → (became ≡ Refused → is_relaunch order ≡ true) → come_of false (record { order = order; became = became } ∷ []) (order ∷ []) ≡ true
comes_alone order Obeyed h = and_both (same_order order order) true (same_itself order) refl
comes_alone order Refused h = and_both (is_relaunch order) (same_order order order && true) (h refl) (and_both (same_order order order) true (same_itself order) refl)
comes_alone order Starved h = and_both (same_order order order) true (same_itself order) refl

-- ---- lists in their order

pub filter_map-both : {X Y : Type 0} (f : X → Option Y) (before behind : List X) → filter_map f (reverse (behind ++ before)) ≡ filter_map f (reverse before) ++ filter_map f (reverse behind)
filter_map-both f before behind = ap (filter_map f) (reverse-append behind before) ∙ filter_map-append f (reverse before) (reverse behind)

turned_over : {Y : Type 0} (o : Option Y) (ys : List Y) → reverse ys ++ cons_option o [] ≡ reverse (cons_option o ys)
turned_over None ys = append-nil (reverse ys)
turned_over (Some y) ys = sym (reverse-append (y ∷ []) ys)

pub filter_map-reverse : {X Y : Type 0} (f : X → Option Y) (xs : List X) → filter_map f (reverse xs) ≡ reverse (filter_map f xs)
filter_map-reverse f [] = refl
filter_map-reverse {X} {Y} f (x ∷ xs) =
    filter_map-both f xs (x ∷ []) ∙ ap (λ (ys : List Y). ys ++ filter_map f (x ∷ [])) (filter_map-reverse f xs) ∙ turned_over (f x) (filter_map f xs)
