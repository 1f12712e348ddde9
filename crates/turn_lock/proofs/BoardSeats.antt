-- Giving out seats, joining them, and what is known where a board is closed.
use Rattle.std.proofs.Common.{◌≡◌, ◌≢◌, inl, inr, ℕ, zero, suc, ◌^◌, ◌<◌, ◌≤◌, List, [], ◌∷◌, ◌++◌, length, length-set, le_refl, set, refl, sym, ap, ◌∙◌, subst, ⊎_elim, arith, replicate}
use mathlib.Core.Option as maybe
use lib.ListN.{get_elem?}
use Rattle.atomic_table.specs.Table.{Splits, Joins, Final, Seen, opening}
use Rattle.atomic_table.proofs.Lists.{set_else}
use Rattle.turn_lock.specs.declared.board_rule.View.{View}
use Rattle.turn_lock.specs.declared.board_rule.Part.{Part}
use Rattle.turn_lock.specs.Board.{services, spent_number, AllUnder, drawn_by, World, IsSpent, Owns, Fits, AllFit, Knows, Kept, none_begun, opening_view, dealer, dealt, glimpse_of, joined, spent_view, parts_of, AllSaw, AllDrew}
use Rattle.turn_lock.proofs.BoardLists.{all_stay, last_or, up_to-refl, drawn-none, pick, pick_here, pick_else, total_set, total_snoc}

module _ (n : ℕ) (W : World) (owner : ℕ → ℕ) where
  -- the world after seats were given out or joined
  abbrev pub owned : World
  owned = record { greatest = W.greatest; count = W.count; hand = W.hand; owner = owner }

  fits_moved : (i j : ℕ) (p : Part) → (p.number < n → W.owner p.number ≡ i → owner p.number ≡ j) → Fits n W i p → Fits n owned j p
  fits_moved i j p f x = record {
    behind = x.behind;
    owned = ⊎_elim (λ (y : IsSpent p). inl y) (λ (y : Owns n W i p). inr record { below = y.below; owner_is = f y.below y.owner_is; all = y.all; launcher = y.launcher }) x.owned;
  }

  all_fit_moved : (i j at : ℕ) (ps : List Part) → ((k : ℕ) → k < n → W.owner k ≡ i → owner k ≡ j) → AllFit n W i at ps → AllFit n owned j at ps
  all_fit_moved i j at [] f x = tt
  all_fit_moved i j at (p ∷ ps) f x = (fits_moved i j p (f p.number) x.0, x.1, all_fit_moved i j at ps f x.2)

  -- parts of another seat, beside a seat of this number
  all_fit_taken : (i j at at' : ℕ) (ps : List Part) → ((k : ℕ) → k < n → W.owner k ≡ i → (owner k ≡ j) × (k ≢ at')) → n ≤ spent_number → AllFit n W i at ps → AllFit n owned j at' ps
  all_fit_taken i j at at' [] f few x = tt
  all_fit_taken i j at at' (p ∷ ps) f few x = (
    fits_moved i j p (λ b o. (f p.number b o).0) x.0,
    (λ b. ⊎_elim (λ (y : IsSpent p). let q = y.is in absurd (omega arith)) (λ (y : Owns n W i p). (f p.number b y.owner_is).1) x.0.owned),
    all_fit_taken i j at at' ps f few x.2,
  )

all_fit-append : (n : ℕ) (W : World) (i at : ℕ) (ps qs : List Part) → AllFit n W i at ps → AllFit n W i at qs → AllFit n W i at (ps ++ qs)
all_fit-append n W i at [] qs f g = g
all_fit-append n W i at (p ∷ ps) qs f g = (f.0, f.1, all_fit-append n W i at ps qs f.2 g)

module _ (n : ℕ) where
  pub deals : (id : ℕ) (v : View) → v.olds ≡ [] → v.spare < n → v.spare ≢ v.part.number → suc v.part.number ≡ n → 0 < v.room → Splits (Kept n) id v (dealer v) (dealt v)
  deals id v alone spare apart_number last room s r at =
      let W = r.world in
      let k = r.each id v at in
      let a : View = dealer v in
      let w : View = dealt v in
      let new : ℕ = length s.views in
      let few = r.few in
      let owner : ℕ → ℕ = λ i. pick i v.spare new (W.owner i) in
      let W' : World = owned n W owner in
      let mine = k.spares v.spare (le_refl v.spare) spare apart_number in
      let apart_new : (j : ℕ) → j ≢ id → (i : ℕ) → i < n → W.owner i ≡ j → owner i ≡ j = λ j ne i b o. pick_else i v.spare new (W.owner i) (λ e. ne (sym o ∙ ap W.owner e ∙ mine.owner_is)) ∙ o in
      let l : length (set s.views id a) ≡ length s.views = length-set s.views id a in
      record {
        world = W';
        words = r.words;
        few = r.few;
        narrow = r.narrow;
        seated = r.seated;
        counted = let q = total_set s.views id v a at in let y = total_snoc (set s.views id a) w in let x = r.counted in omega arith;
        each = λ j u e. ⊎_elim (λ (x : (j < length (set s.views id a)) × (get_elem? (set s.views id a) j ≡ maybe.some u)). all_stay (Knows n W') s.views id a
            record {
              fits = fits_moved n W owner id id v.part (λ b o. pick_else v.part.number v.spare new (W.owner v.part.number) (λ e. apart_number (sym e)) ∙ o) k.fits;
              olds_fit = subst (AllFit n W' id v.part.number) (sym alone) tt;
              spares = λ i from to ne. let z = k.spares i (omega arith) to ne in record { owner_is = pick_else i v.spare new (W.owner i) (λ e. omega arith) ∙ z.owner_is; none = z.none };
            }
            (λ i y ne f. let q = r.each i y f in record {
              fits = fits_moved n W owner i i y.part (apart_new i ne y.part.number) q.fits;
              olds_fit = all_fit_moved n W owner i i y.part.number y.olds (apart_new i ne) q.olds_fit;
              spares = λ m from to not. let z = q.spares m from to not in record { owner_is = apart_new i ne m to z.owner_is; none = z.none };
            }) j u x.1)
            (λ (x : (j ≡ length (set s.views id a)) × (w ≡ u)). subst (Knows n W' j) x.1 record {
              fits = record {
                behind = k.fits.behind;
                owned = inr record { below = spare; owner_is = pick_here v.spare v.spare new (W.owner v.spare) refl ∙ sym (x.0 ∙ l); all = mine.none; launcher = λ e. absurd (apart_number (omega arith)) };
              };
              olds_fit = tt;
              spares = λ i from to _. absurd (omega arith);
            }) (last_or (set s.views id a) w u j e);
      }

  pub glimpses : (id : ℕ) (v : View) → Splits (Kept n) id v v (glimpse_of v)
  glimpses id v s r at =
      let W = r.world in
      let k = r.each id v at in
      let w : View = glimpse_of v in
      let few = r.few in
      record {
        world = W;
        words = r.words;
        few = r.few;
        narrow = r.narrow;
        seated = r.seated;
        counted = let q = total_set s.views id v v at in let y = total_snoc (set s.views id v) w in let x = r.counted in omega arith;
        each = λ j u e. ⊎_elim (λ (x : (j < length (set s.views id v)) × (get_elem? (set s.views id v) j ≡ maybe.some u)). all_stay (Knows n W) s.views id v k (λ i y ne f. r.each i y f) j u x.1)
            (λ (x : (j ≡ length (set s.views id v)) × (w ≡ u)). subst (Knows n W j) x.1 record {
              fits = record { behind = k.fits.behind; owned = inl record { is = refl; none = refl } };
              olds_fit = tt;
              spares = λ i from to _. absurd (omega arith);
            }) (last_or (set s.views id v) w u j e);
      }

  pub joins : (id : ℕ) (v : View) (other : ℕ) (u : View) → Joins (Kept n) id v other u (joined v u) spent_view
  joins id v other u s r at apart_ids there =
      let W = r.world in
      let a : View = joined v u in
      let z : View = spent_view in
      let few = r.few in
      let k = r.each id v at in
      let theirs : get_elem? s.views other ≡ maybe.some u = sym (set_else s.views id other a apart_ids) ∙ there in
      let q = r.each other u theirs in
      let owner : ℕ → ℕ = λ i. pick (W.owner i) other id (W.owner i) in
      let W' : World = owned n W owner in
      let keeps_own : (j : ℕ) → j ≢ other → (i : ℕ) → i < n → W.owner i ≡ j → owner i ≡ j = λ j ne i b o. pick_else (W.owner i) other id (W.owner i) (λ e. ne (sym o ∙ e)) ∙ o in
      let moves : (i : ℕ) → i < n → W.owner i ≡ other → owner i ≡ id = λ i b o. pick_here (W.owner i) other id (W.owner i) o in
      let not_mine : (i : ℕ) → i < n → W.owner i ≡ other → i ≢ v.part.number = λ i b o e. ⊎_elim (λ (y : IsSpent v.part). let g = y.is in omega arith)
      (λ (y : Owns n W id v.part). apart_ids (sym o ∙ ap W.owner e ∙ y.owner_is)) k.fits.owned in
      let mine_apart : id ≢ other = λ e. apart_ids (sym e) in
      record {
        world = W';
        words = r.words;
        few = r.few;
        narrow = r.narrow;
        seated = r.seated;
        counted = let q = total_set s.views id v a at in let y = total_set (set s.views id a) other u z there in let x = r.counted in omega arith;
        each = all_stay (Knows n W') (set s.views id a) other z
            record {
              fits = record { behind = tt; owned = inl record { is = refl; none = refl } };
              olds_fit = tt;
              spares = λ i from to _. absurd (omega arith);
            }
            (λ j y ne f. all_stay (λ j y. j ≢ other → Knows n W' j y) s.views id a
            (λ _. record {
              fits = fits_moved n W owner id id v.part (keeps_own id mine_apart v.part.number) k.fits;
              olds_fit = (
                fits_moved n W owner other id u.part (moves u.part.number) q.fits,
                (λ b. ⊎_elim (λ (y : IsSpent u.part). let g = y.is in absurd (omega arith)) (λ (y : Owns n W other u.part). not_mine u.part.number b y.owner_is) q.fits.owned),
                all_fit-append n W' id v.part.number u.olds v.olds
                    (all_fit_taken n W owner other id u.part.number v.part.number u.olds (λ i b o. (moves i b o, not_mine i b o)) few q.olds_fit)
                    (all_fit_moved n W owner id id v.part.number v.olds (keeps_own id mine_apart) k.olds_fit),
              );
              spares = λ i from to ne'. let g = k.spares i from to ne' in record { owner_is = keeps_own id mine_apart i to g.owner_is; none = g.none };
            })
            (λ i y' ne' f' not. let g = r.each i y' f' in record {
              fits = fits_moved n W owner i i y'.part (keeps_own i not y'.part.number) g.fits;
              olds_fit = all_fit_moved n W owner i i y'.part.number y'.olds (keeps_own i not) g.olds_fit;
              spares = λ m from to ne'. let h = g.spares m from to ne' in record { owner_is = keeps_own i not m to h.owner_is; none = h.none };
            }) j y f ne);
      }

  under-none : (b k : ℕ) → 0 < b → AllUnder b (replicate k 0)
  under-none b zero p = tt
  under-none b (suc k) p = (p, under-none b k p)

  pub opens : 0 < n → n ≤ spent_number → Kept n (opening (0 ∷ none_begun) [] (opening_view n))
  opens some few =
      let W : World = record { greatest = none_begun; count = 0; hand = λ _. 0; owner = λ _. 0 } in
      let v : View = opening_view n in
      record {
        world = W;
        words = refl;
        few = few;
        narrow = under-none (2 ^ 32) services (omega arith);
        seated = λ k l. absurd (omega arith);
        counted = omega arith;
        each = λ j u e. only (Knows n W) v record {
          fits = record { behind = up_to-refl none_begun; owned = inr record { below = omega arith; owner_is = refl; all = refl; launcher = λ _. refl } };
          olds_fit = tt;
          spares = λ i from to ne. record { owner_is = refl; none = refl };
        } j u e;
      }
    where
      only : (P : ℕ → View → Type 0) (v : View) → P 0 v → (j : ℕ) (u : View) → get_elem? (v ∷ []) j ≡ maybe.some u → P j u
      only P v p zero u e = subst (P 0) (maybe.some-injective v u e) p
      only P v p (suc j) u e = absurd (maybe.some-ne-none u (sym e))

  drew_there : (W : World) (i : ℕ) (p : Part) → n ≤ spent_number → ((k : ℕ) → k < W.count → W.hand k < n) → Fits n W i p → p.drawn ≡ drawn_by W.hand p.number W.count
  drew_there W i p few seated f = ⊎_elim (λ (y : IsSpent p). y.none ∙ sym (let q = y.is in drawn-none W.hand n p.number W.count seated (omega arith))) (λ (y : Owns n W i p). sym y.all) f.owned

  saw_there : (W : World) (i : ℕ) (p : Part) → n ≤ spent_number → Fits n W i p → suc p.number ≡ n → p.seen ≡ W.greatest
  saw_there W i p few f e = ⊎_elim (λ (y : IsSpent p). let q = y.is in absurd (omega arith)) (λ (y : Owns n W i p). y.launcher e) f.owned

  all_saw : (W : World) (i at : ℕ) (ps : List Part) → n ≤ spent_number → AllFit n W i at ps → AllSaw n W.greatest ps
  all_saw W i at [] few f = tt
  all_saw W i at (p ∷ ps) few f = (f.0.behind, saw_there W i p few f.0, all_saw W i at ps few f.2)

  all_drew : (W : World) (i at : ℕ) (ps : List Part) → n ≤ spent_number → ((k : ℕ) → k < W.count → W.hand k < n) → AllFit n W i at ps → AllDrew W.hand W.count ps
  all_drew W i at [] few seated f = tt
  all_drew W i at (p ∷ ps) few seated f = (drew_there W i p few seated f.0, all_drew W i at ps few seated f.2)

  pub closes : (id : ℕ) (v : View) (ws : List ℕ) (xs : List ℕ) (count : ℕ) → Final (Seen (Kept n) id v) ws xs → get_elem? ws 0 ≡ maybe.some count
      → ((greatest : List ℕ) × AllSaw n greatest (parts_of v)) × ((hand : ℕ → ℕ) × AllDrew hand count (parts_of v) × ((k : ℕ) → k < count → hand k < n))
  closes id v ws xs count f here =
      let s = f.0 in
      let r = f.1.0 in
      let W = r.world in
      let k = r.each id v f.1.1 in
      let few = r.few in
      let e : W.count ≡ count = maybe.some-injective W.count count (ap (λ l. get_elem? l 0) (sym r.words ∙ f.2) ∙ here) in (
        (W.greatest, (k.fits.behind, saw_there W id v.part few k.fits, all_saw W id v.part.number v.olds few k.olds_fit)),
        (W.hand, subst (λ c. AllDrew W.hand c (parts_of v)) e (drew_there W id v.part few r.seated k.fits, all_drew W id v.part.number v.olds few r.seated k.olds_fit), λ i l. r.seated i (omega arith)),
      )
