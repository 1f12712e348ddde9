-- Each step on a word of the board keeps its rule.
use Rattle.std.proofs.Common.{◌≡◌, ◌≢◌, inl, inr, ℕ, suc, ◌+◌, ◌-◌, ◌%◌, ◌^◌, ◌<◌, ◌≤◌, cond, max, Bool, true, false, List, [], ◌∷◌, ◌++◌, set, get_or, refl, sym, ap, ◌∙◌, subst, ⊎_elim, arith}
use mathlib.Core.Logic.{dite}
use mathlib.Core.Option as maybe
use native.Mathlib.Decide.{ℕ_discrete}
use Rattle.atomic_table.specs.Table.{State, keeps, step, Allows}
use Rattle.std.proofs.Math.Nat.{mod-eq_of_lt}
use Rattle.std.proofs.Math.Dec.{ltb}
use Rattle.std.proofs.lemmas.Bool.{cases_lt, ltb-true, ltb-false}
use Rattle.std.proofs.lemmas.List.{set-get_or}
use Rattle.turn_lock.specs.declared.board_rule.View.{View}
use Rattle.turn_lock.specs.declared.board_rule.Part.{Part}
use Rattle.turn_lock.specs.Board.{most_drawn, spent_number, UpTo, AllUnder, drawn_by, World, IsSpent, Owns, Fits, AllFit, Knows, total, Kept, from_on, saw, with_number, M, looked, raised, view_of, glimpse_of, joined, but_last, LastSaw, compared, drew, with_rest, drew_rest}
use Rattle.turn_lock.proofs.BoardLists.{all_stay, up_to-refl, up_to-at, up_to-look, up_to-raise, under-at, under-set, drawn-under, hand_after, drawn-own, drawn-other, hand_rest, rest_here, rest_else, rest-own, rest-other, pick_here, pick_else, total_set}

module _ (n : ℕ) (W : World) (greatest : List ℕ) (count : ℕ) (hand : ℕ → ℕ) where
  -- the world after a step on a word
  abbrev pub after : World
  after = record { greatest = greatest; count = count; hand = hand; owner = W.owner }

  pub owns_on : (i : ℕ) (p : Part) → (drawn_by W.hand p.number W.count ≡ p.drawn → drawn_by hand p.number count ≡ p.drawn) → (suc p.number ≡ n → p.seen ≡ W.greatest → p.seen ≡ greatest) → Owns n W i p → Owns n after i p
  owns_on i p d l o = record { below = o.below; owner_is = o.owner_is; all = d o.all; launcher = λ e. l e (o.launcher e) }

  pub fits_on : (i : ℕ) (p : Part) → (UpTo p.seen W.greatest → UpTo p.seen greatest) → (p.number < n → drawn_by W.hand p.number W.count ≡ p.drawn → drawn_by hand p.number count ≡ p.drawn)
      → (W.owner p.number ≡ i → suc p.number ≡ n → p.seen ≡ W.greatest → p.seen ≡ greatest) → Fits n W i p → Fits n after i p
  fits_on i p u d l f = record {
    behind = u f.behind;
    owned = ⊎_elim (λ (x : IsSpent p). inl x) (λ (x : Owns n W i p). inr (owns_on i p (d x.below) (l x.owner_is) x)) f.owned;
  }

  pub all_fit_on : (i at : ℕ) (ps : List Part) → ((p : Part) → UpTo p.seen W.greatest → UpTo p.seen greatest)
      → ((p : Part) → Fits n W i p → p.number < n → p.number ≢ at → drawn_by W.hand p.number W.count ≡ p.drawn → drawn_by hand p.number count ≡ p.drawn)
      → ((p : Part) → W.owner p.number ≡ i → p.number ≢ at → suc p.number ≡ n → p.seen ≡ W.greatest → p.seen ≡ greatest) → AllFit n W i at ps → AllFit n after i at ps
  all_fit_on i at [] u d l f = tt
  all_fit_on i at (p ∷ ps) u d l f = (
    fits_on i p (u p) (λ b. d p f.0 b (f.1 b)) (λ o e. l p o (f.1 (omega arith)) e) f.0,
    f.1,
    all_fit_on i at ps u d l f.2,
  )

-- the number of a part that another view has
pub apart : (n : ℕ) (W : World) (number id j : ℕ) (p : Part) → n ≤ spent_number → W.owner number ≡ id → j ≢ id → Fits n W j p → p.number < n → p.number ≢ number
apart n W number id j p few own ne f below e = ⊎_elim (λ (x : IsSpent p). let q = x.is in omega arith) (λ (x : Owns n W j p). ne (sym x.owner_is ∙ ap W.owner e ∙ own)) f.owned

-- a seat's own part is owned
pub own_part : (n : ℕ) (W : World) (i : ℕ) (p : Part) → p.number ≢ spent_number → Fits n W i p → Owns n W i p
own_part n W i p numbered f = ⊎_elim (λ (x : IsSpent p). absurd (numbered x.is)) (λ (x : Owns n W i p). x) f.owned

but_last-fit : (n : ℕ) (W : World) (i at : ℕ) (ps : List Part) → AllFit n W i at ps → AllFit n W i at (but_last ps)
but_last-fit n W i at [] f = tt
but_last-fit n W i at (p ∷ ps) f = f.2

last-saw : (n : ℕ) (W : World) (i at : ℕ) (ps : List Part) → AllFit n W i at ps → LastSaw ps W.greatest
last-saw n W i at [] f = tt
last-saw n W i at (p ∷ ps) f = f.0.behind

-- what a part has seen that was joined just before, as a glimpse of another view
pub after_compare : (j g v u : M) → j ≡ (joined v.0 g.0, v.1) → g ≡ (glimpse_of u.0, []) → LastSaw j.0.olds j.0.part.seen → (s : ℕ) → get_or u.0.part.seen s 0 ≤ get_or v.0.part.seen s 0
after_compare j g v u e f h s =
    up_to-at u.0.part.seen v.0.part.seen s (subst (λ (m : M). UpTo m.0.part.seen v.0.part.seen) f (subst (λ (m : M). LastSaw m.0.olds m.0.part.seen) e h))

module _ (n : ℕ) where
  abbrev St : Type 0
  St = State ℕ View

  pub looks : (slots id i : ℕ) (me : M) → 0 < i → Allows (Kept n) slots id me i (λ r. r) (looked (step slots i 0 0 maybe.none) me)
  looks slots id i me p st r _ at _ =
      let s : ℕ = i - 1 in
      let next : i ≡ suc s = omega arith in
      let W = r.world in
      let v = me.0 in
      let k = r.each id v at in
      let word : get_or st.words i 0 ≡ get_or W.greatest s 0 = ap (λ ws. get_or ws i 0) r.words ∙ ap (λ j. get_or (W.count ∷ W.greatest) j 0) next in
      let w : View = saw s (get_or st.words i 0) v in
      let same : UpTo (set v.part.seen s (get_or st.words i 0)) W.greatest = subst (λ z. UpTo (set v.part.seen s z) W.greatest) (sym word) (up_to-look v.part.seen W.greatest s k.fits.behind) in (
        w,
        keeps,
        tt,
        record {
          world = W;
          words = set-get_or st.words i 0 ∙ r.words;
          few = r.few;
          narrow = r.narrow;
          seated = r.seated;
          counted = let q = total_set st.views id v w at in let x = r.counted in omega arith;
          each = all_stay (Knows n W) st.views id w
              record {
                fits = record {
                  behind = same;
                  owned = ⊎_elim (λ (y : IsSpent v.part). inl record { is = y.is; none = y.none })
                      (λ (y : Owns n W id v.part). inr record {
                        below = y.below;
                        owner_is = y.owner_is;
                        all = y.all;
                        launcher = λ e. ap (λ z. set v.part.seen s z) word ∙ (ap (λ l. set l s (get_or W.greatest s 0)) (y.launcher e) ∙ set-get_or W.greatest s 0);
                      }) k.fits.owned;
                };
                olds_fit = k.olds_fit;
                spares = k.spares;
              }
              (λ j u ne e. r.each j u e);
        },
        (
          refl,
          subst (λ z. get_or v.part.seen s 0 ≤ z) (sym word) (up_to-at v.part.seen W.greatest s k.fits.behind),
          subst (λ z. z < 2 ^ 32) (sym word) (under-at (2 ^ 32) W.greatest s (omega arith) r.narrow),
        ),
      )

  pub raises : (slots id i new : ℕ) (me : M) → 0 < i → suc me.0.part.number ≡ n → me.0.part.number ≢ spent_number → get_or me.0.part.seen (i - 1) 0 < new → new < 2 ^ 32
      → Allows (Kept n) slots id me i (λ _. new) (λ _. raised (step slots i new 0 maybe.none) me new)
  raises slots id i new me p last numbered more small st r _ at _ =
      let s : ℕ = i - 1 in
      let next : i ≡ suc s = omega arith in
      let W = r.world in
      let v = me.0 in
      let k = r.each id v at in
      let own = own_part n W id v.part numbered k.fits in
      let seen = own.launcher last in
      let w : View = saw s new v in
      let G : List ℕ = set W.greatest s new in
      let low : get_or W.greatest s 0 ≤ new = let q : get_or v.part.seen s 0 ≡ get_or W.greatest s 0 = ap (λ l. get_or l s 0) seen in omega arith in
      let W' : World = after n W G W.count W.hand in
      let up : (p : Part) → UpTo p.seen W.greatest → UpTo p.seen G = λ p u. up_to-raise p.seen W.greatest s new low u in (
        w,
        keeps,
        tt,
        record {
          world = W';
          words = ap (λ ws. set ws i new) r.words ∙ ap (λ j. set (W.count ∷ W.greatest) j new) next;
          few = r.few;
          narrow = under-set (2 ^ 32) W.greatest s new small r.narrow;
          seated = r.seated;
          counted = let q = total_set st.views id v w at in let x = r.counted in omega arith;
          each = all_stay (Knows n W') st.views id w
              record {
                fits = record {
                  behind = subst (λ l. UpTo (set l s new) G) (sym seen) (up_to-refl G);
                  owned = inr record { below = own.below; owner_is = own.owner_is; all = own.all; launcher = λ _. ap (λ l. set l s new) seen };
                };
                olds_fit = all_fit_on n W G W.count W.hand id v.part.number v.olds up (λ p _ _ _ d. d) (λ p _ ne e. absurd (ne (omega arith))) k.olds_fit;
                spares = λ i from to ne. let z = k.spares i from to ne in record { owner_is = z.owner_is; none = z.none };
              }
              (λ j u ne e. let q = r.each j u e in record {
                fits = fits_on n W G W.count W.hand j u.part (up u.part) (λ _ d. d) (λ o f. absurd (ne (sym o ∙ (ap W.owner (let g : u.part.number ≡ v.part.number = omega arith in g) ∙ own.owner_is)))) q.fits;
                olds_fit = all_fit_on n W G W.count W.hand j u.part.number u.olds up (λ p _ _ _ d. d)
                    (λ p o _ f. absurd (ne (sym o ∙ (ap W.owner (let g : p.number ≡ v.part.number = omega arith in g) ∙ own.owner_is)))) q.olds_fit;
                spares = λ i from to not. let z = q.spares i from to not in record { owner_is = z.owner_is; none = z.none };
              });
        },
        refl,
      )

  pub compares : (slots id : ℕ) (me : M) → suc me.0.part.number ≡ n → me.0.part.number ≢ spent_number → Allows (Kept n) slots id me 0 (λ r. r) (compared (step slots 0 0 0 maybe.none) me)
  compares slots id me last numbered st r _ at _ =
      let W = r.world in
      let v = me.0 in
      let k = r.each id v at in
      let own = own_part n W id v.part numbered k.fits in
      let w : View = view_of v.part (but_last v.olds) v.spare v.room in (
        w,
        keeps,
        tt,
        record {
          world = W;
          words = set-get_or st.words 0 0 ∙ r.words;
          few = r.few;
          narrow = r.narrow;
          seated = r.seated;
          counted = let q = total_set st.views id v w at in let x = r.counted in omega arith;
          each = all_stay (Knows n W) st.views id w
              record { fits = k.fits; olds_fit = but_last-fit n W id v.part.number v.olds k.olds_fit; spares = k.spares }
              (λ j u ne e. r.each j u e);
        },
        (refl, subst (LastSaw v.olds) (sym (own.launcher last)) (last-saw n W id v.part.number v.olds k.olds_fit)),
      )

  abbrev room_after : (r room : ℕ) → ℕ
  room_after r room = cond (ltb r most_drawn) room (room - 1)

  -- the rule's sum after a draw
  roomy : (c n all all' room : ℕ) → (c - most_drawn) + all ≤ n → all' + room ≡ all + room_after c room → 0 < room → (suc c - most_drawn) + all' ≤ n
  roomy c n all all' room h e p = by_case (ltb c most_drawn) refl
    where
      by_case : (b : Bool) → ltb c most_drawn ≡ b → (suc c - most_drawn) + all' ≤ n
      by_case true q = let l = ltb-true c most_drawn in let z : room_after c room ≡ room = rw q refl in omega arith
      by_case false q = let l = ltb-false c most_drawn in let z : room_after c room ≡ room - 1 = rw q refl in omega arith

  pub draws : (slots id : ℕ) (me : M) → me.0.part.number ≢ spent_number → 0 < me.0.room → Allows (Kept n) slots id me 0 (λ r. (r + 1) % 2 ^ 64) (drew (step slots 0 1 0 maybe.none) me)
  draws slots id me numbered room st r _ at _ =
      let W = r.world in
      let v = me.0 in
      let k = r.each id v at in
      let own = own_part n W id v.part numbered k.fits in
      let number : ℕ = v.part.number in
      let word : get_or st.words 0 0 ≡ W.count = ap (λ ws. get_or ws 0 0) r.words in
      let few = r.few in
      let c : ℕ = W.count in
      let H : ℕ → ℕ = hand_after W.hand c number in
      let w : View = with_number c v in
      let bound = r.counted in
      let small : c + 1 < 2 ^ 64 = omega arith in
      let next : suc c ≡ (get_or st.words 0 0 + 1) % 2 ^ 64 = let q : c + 1 ≡ (c + 1) % 2 ^ 64 = sym (mod-eq_of_lt small) in let g : suc c ≡ c + 1 = omega arith in g ∙ (q ∙ ap (λ z. (z + 1) % 2 ^ 64) (sym word)) in
      let W' : World = after n W W.greatest (suc c) H in
      let kept : Kept n record { words = set st.words 0 (suc c); homes = st.homes; views = set st.views id w } = record {
        world = W';
        words = ap (λ ws. set ws 0 (suc c)) r.words;
        few = r.few;
        narrow = r.narrow;
        seated = λ i l. dite (ℕ_discrete i c)
            (λ e. subst (λ z. z < n) (sym (pick_here i c number (W.hand i) e)) own.below)
            (λ ne. subst (λ z. z < n) (sym (pick_else i c number (W.hand i) ne)) (r.seated i (omega arith)));
        counted = roomy c n (total st.views) (total (set st.views id w)) v.room r.counted (total_set st.views id v w at) room;
        each = all_stay (Knows n W') st.views id w
            record {
              fits = record {
                behind = k.fits.behind;
                owned = inr record { below = own.below; owner_is = own.owner_is; all = drawn-own W.hand c number ∙ ap (λ l. c ∷ l) own.all; launcher = own.launcher };
              };
              olds_fit = all_fit_on n W W.greatest (suc c) H id number v.olds (λ p u. u) (λ p _ _ ne d. drawn-other W.hand c number p.number ne ∙ d) (λ p _ _ _ s. s) k.olds_fit;
              spares = λ i from to ne. let z = k.spares i from to ne in record { owner_is = z.owner_is; none = drawn-other W.hand c number i ne ∙ z.none };
            }
            (λ j u ne e. let q = r.each j u e in record {
              fits = fits_on n W W.greatest (suc c) H j u.part (λ s. s) (λ b d. drawn-other W.hand c number u.part.number (apart n W number id j u.part few own.owner_is ne q.fits b) ∙ d) (λ _ _ s. s) q.fits;
              olds_fit = all_fit_on n W W.greatest (suc c) H j u.part.number u.olds (λ p s. s)
                  (λ p f b _ d. drawn-other W.hand c number p.number (apart n W number id j p few own.owner_is ne f b) ∙ d) (λ p _ _ _ s. s) q.olds_fit;
              spares = λ i from to not. let z = q.spares i from to not in record {
                owner_is = z.owner_is;
                none = drawn-other W.hand c number i (λ h. ne (sym z.owner_is ∙ (ap W.owner h ∙ own.owner_is))) ∙ z.none;
              };
            });
      } in (
        w,
        keeps,
        tt,
        subst (λ z. Kept n record { words = set st.words 0 z; homes = st.homes; views = set st.views id w }) next kept,
        (ap (λ z. (with_number z v, me.1)) (sym word), subst (λ z. AllUnder z v.part.drawn) (sym word) (subst (AllUnder c) own.all (drawn-under W.hand number c))),
      )

  pub draws_rest : (slots id : ℕ) (me : M) → me.0.part.number ≢ spent_number → Allows (Kept n) slots id me 0 (λ r. max r most_drawn) (drew_rest (step slots 0 most_drawn 0 maybe.none) me)
  draws_rest slots id me numbered st r _ at _ =
      let W = r.world in
      let v = me.0 in
      let k = r.each id v at in
      let own = own_part n W id v.part numbered k.fits in
      let number : ℕ = v.part.number in
      let word : get_or st.words 0 0 ≡ W.count = ap (λ ws. get_or ws 0 0) r.words in
      let few = r.few in
      let c : ℕ = W.count in
      let H : ℕ → ℕ = hand_rest W.hand c number in
      let w : View = with_rest c v in
      let bound = r.counted in
      let sums = total_set st.views id v w at in
      let W' : World = after n W W.greatest (max c most_drawn) H in
      let kept : Kept n record { words = set st.words 0 (max c most_drawn); homes = st.homes; views = set st.views id w } = record {
        world = W';
        words = ap (λ ws. set ws 0 (max c most_drawn)) r.words;
        few = r.few;
        narrow = r.narrow;
        seated = λ i l. ⊎_elim (λ (b : i < c). subst (λ z. z < n) (sym (rest_else W.hand c number i b)) (r.seated i b))
            (λ (b : c ≤ i). subst (λ z. z < n) (sym (rest_here W.hand c number i b)) own.below) (cases_lt i c);
        counted = omega (arith, bound, sums);
        each = all_stay (Knows n W') st.views id w
            record {
              fits = record {
                behind = k.fits.behind;
                owned = inr record { below = own.below; owner_is = own.owner_is; all = rest-own W.hand c number most_drawn ∙ ap (λ l. from_on c most_drawn ++ l) own.all; launcher = own.launcher };
              };
              olds_fit = all_fit_on n W W.greatest (max c most_drawn) H id number v.olds (λ p u. u) (λ p _ _ ne d. rest-other W.hand c number p.number most_drawn ne ∙ d) (λ p _ _ _ s. s) k.olds_fit;
              spares = λ i from to ne. let z = k.spares i from to ne in record { owner_is = z.owner_is; none = rest-other W.hand c number i most_drawn ne ∙ z.none };
            }
            (λ j u ne e. let q = r.each j u e in record {
              fits = fits_on n W W.greatest (max c most_drawn) H j u.part (λ s. s) (λ b d. rest-other W.hand c number u.part.number most_drawn (apart n W number id j u.part few own.owner_is ne q.fits b) ∙ d) (λ _ _ s. s) q.fits;
              olds_fit = all_fit_on n W W.greatest (max c most_drawn) H j u.part.number u.olds (λ p s. s)
                  (λ p f b _ d. rest-other W.hand c number p.number most_drawn (apart n W number id j p few own.owner_is ne f b) ∙ d) (λ p _ _ _ s. s) q.olds_fit;
              spares = λ i from to not. let z = q.spares i from to not in record {
                owner_is = z.owner_is;
                none = rest-other W.hand c number i most_drawn (λ h. ne (sym z.owner_is ∙ (ap W.owner h ∙ own.owner_is))) ∙ z.none;
              };
            });
      } in (
        w,
        keeps,
        tt,
        subst (λ z. Kept n record { words = set st.words 0 (max z most_drawn); homes = st.homes; views = set st.views id w }) (sym word) kept,
        (ap (λ z. (with_rest z v, me.1)) (sym word), subst (λ z. AllUnder z v.part.drawn) (sym word) (subst (AllUnder c) own.all (drawn-under W.hand number c))),
      )
