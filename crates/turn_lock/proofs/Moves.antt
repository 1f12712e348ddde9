-- Splitting and joining seats keep the rule.
use Rattle.std.proofs.Common.{◌≡◌, ◌≢◌, ◌⊎◌, inl, inr, ℕ, zero, suc, ◌<◌, ◌≤◌, cond, Bool, true, false, List, [], ◌∷◌, ◌++◌, length, length-set, le_refl, drop, set, refl, sym, ap, ◌∙◌, subst, ⊎_elim, arith, append-nil}
use mathlib.Core.Option as maybe
use lib.ListN.{get_elem?}
use Rattle.atomic_table.specs.Table.{Splits, Joins}
use Rattle.std.proofs.lemmas.Bool.{ltb-true, ltb-false}
use Rattle.std.proofs.Math.Dec.{ltb}
use Rattle.atomic_table.proofs.Lists.{at_longer, set_else, set_again}
use Rattle.turn_lock.specs.declared.rule.View.{View}
use Rattle.turn_lock.specs.declared.rule.Part.{Part}
use Rattle.turn_lock.specs.declared.rule.Stage.{Stage}
use Rattle.turn_lock.specs.declared.rule.Stage.TheVariants.{Idle}
use Rattle.turn_lock.specs.Tickets.{note_number, StartsWith, World, HasTicket, ticketed, IsNote, Owns, Fits, AllFit, Stands, Knows, longer, note_of, dealer, dealt, joined, spent_view}
use Rattle.turn_lock.proofs.Views.{all_stay, had_stays, count_set, count_snoc, pick, pick_here, pick_else, stands_on}
use Rattle.turn_lock.proofs.Steps.{Rule}

module _ {E : Type 0} where
  pub prefix_of_prefix : (xs ys zs ws : List E) → xs ++ zs ≡ ys ++ ws → length xs ≤ length ys → StartsWith ys xs
  prefix_of_prefix [] ys zs ws e l = (ys, refl)
  prefix_of_prefix (x ∷ xs) [] zs ws e l = absurd (omega arith)
  prefix_of_prefix (x ∷ xs) (y ∷ ys) zs ws e l =
      let tails : xs ++ zs ≡ ys ++ ws = ap (drop 1) e in
      let r = prefix_of_prefix xs ys zs ws tails (omega arith) in
      let heads : y ≡ x = sym (head_same x y (xs ++ zs) (ys ++ ws) e) in
      (r.0, λ i. heads i ∷ r.1 i)
    where
      head_same : (x y : E) (xs ys : List E) → x ∷ xs ≡ y ∷ ys → x ≡ y
      head_same x y xs ys e = cc

  pub both_begin : (log xs ys : List E) → StartsWith log xs → StartsWith log ys → StartsWith (longer xs ys) xs × StartsWith (longer xs ys) ys × StartsWith log (longer xs ys)
  both_begin log xs ys a b = by_length (ltb (length xs) (length ys)) refl
    where
      by_length : (t : Bool) → ltb (length xs) (length ys) ≡ t → StartsWith (cond t ys xs) xs × StartsWith (cond t ys xs) ys × StartsWith log (cond t ys xs)
      by_length true e = let l = ltb-true (length xs) (length ys) e in (prefix_of_prefix xs ys a.0 b.0 (sym a.1 ∙ b.1) (omega arith), ([], sym (append-nil ys)), b)
      by_length false e = let l = ltb-false (length xs) (length ys) e in (([], sym (append-nil xs)), prefix_of_prefix ys xs b.0 a.0 (sym b.1 ∙ a.1) (omega arith), a)

module _ {E : Type 0} (by : E → ℕ) (n : ℕ) (log : List E) (owner owner' : ℕ → ℕ) where
  pub fits_moved : (i j : ℕ) (p : Part E) → (p.number < n → owner p.number ≡ i → owner' p.number ≡ j) → Fits by n log owner i p → Fits by n log owner' j p
  fits_moved i j p f x = record {
    begins = x.begins;
    owned = ⊎_elim (λ (y : IsNote p). inl y) (λ (y : Owns by n log owner i p). inr record { below = y.below; owner_is = f y.below y.owner_is; all = y.all }) x.owned;
  }

  pub all_fit_moved : (i j at : ℕ) (ps : List (Part E)) → ((k : ℕ) → k < n → owner k ≡ i → owner' k ≡ j) → AllFit by n log owner i at ps → AllFit by n log owner' j at ps
  all_fit_moved i j at [] f x = tt
  all_fit_moved i j at (p ∷ ps) f x = (fits_moved i j p (f p.number) x.0, x.1, all_fit_moved i j at ps f x.2)

  -- parts of another seat, beside a seat of this number
  pub all_fit_taken : (i j at at' : ℕ) (ps : List (Part E)) → ((k : ℕ) → k < n → owner k ≡ i → (owner' k ≡ j) × (k ≢ at')) → n ≤ note_number → AllFit by n log owner i at ps → AllFit by n log owner' j at' ps
  all_fit_taken i j at at' [] f few x = tt
  all_fit_taken i j at at' (p ∷ ps) f few x = (
    fits_moved i j p (λ b o. (f p.number b o).0) x.0,
    (λ b. ⊎_elim (λ (y : IsNote p). let q = y.is in absurd (omega arith)) (λ (y : Owns by n log owner i p). (f p.number b y.owner_is).1) x.0.owned),
    all_fit_taken i j at at' ps f few x.2,
  )

module _ {E : Type 0} (by : E → ℕ) (n : ℕ) (log : List E) (owner : ℕ → ℕ) (i at : ℕ) where
  pub all_fit-append : (ps qs : List (Part E)) → AllFit by n log owner i at ps → AllFit by n log owner i at qs → AllFit by n log owner i at (ps ++ qs)
  all_fit-append [] qs f g = g
  all_fit-append (p ∷ ps) qs f g = (f.0, f.1, all_fit-append ps qs f.2 g)

module _ {A : Type 0} where
  pub last_or : (l : List A) (a b : A) (j : ℕ) → get_elem? (l ++ a ∷ []) j ≡ maybe.some b → ((j < length l) × (get_elem? l j ≡ maybe.some b)) ⊎ ((j ≡ length l) × (a ≡ b))
  last_or [] a b zero e = inr (refl, maybe.some-injective a b e)
  last_or [] a b (suc j) e = absurd (maybe.some-ne-none b (sym e))
  last_or (x ∷ xs) a b zero e = inl (omega arith, e)
  last_or (x ∷ xs) a b (suc j) e = ⊎_elim (λ (t : (j < length xs) × (get_elem? xs j ≡ maybe.some b)). inl (let q = t.0 in omega arith, t.1)) (λ (t : (j ≡ length xs) × (a ≡ b)). inr (ap suc t.0, t.1)) (last_or xs a b j e)

module _ {X E : Type 0} (journal : X → List E) (label : X → ℕ) (by : E → ℕ) (n : ℕ) where
  pub had_longer : (views : List (View E)) (w : View E) (at t : ℕ) → (u : View E) × (get_elem? views at ≡ maybe.some u) × HasTicket t u.stage → (u : View E) × (get_elem? (views ++ w ∷ []) at ≡ maybe.some u) × HasTicket t u.stage
  had_longer views w at t h = (h.0, at_longer views (w ∷ []) at h.0 h.1, h.2)

  pub notes : (id : ℕ) (v : View E) → Splits (Rule journal label by n) id v v (note_of v)
  notes id v s r at =
      let W = r.world in
      let k = r.each id v at in
      let w : View E = note_of v in
      let vs = set_again s.views id v at in
      let same : s.views ++ w ∷ [] ≡ set s.views id v ++ w ∷ [] = ap (λ l. l ++ w ∷ []) (sym vs) in
      let few = r.few in
      subst (λ l. Rule journal label by n record { words = s.words; homes = s.homes; views = l }) same record {
        world = W;
        words = r.words;
        homes = r.homes;
        few = r.few;
        few_tickets = r.few_tickets;
        unmade = r.unmade;
        logged = r.logged;
        labelled = r.labelled;
        counted = let q = count_snoc s.views w in let x = r.counted in omega arith;
        ordered = r.ordered;
        out_drawn = r.out_drawn;
        had = λ t from to. had_longer s.views w (W.turn t) t (r.had t from to);
        each = λ j u e. ⊎_elim (λ (x : (j < length s.views) × (get_elem? s.views j ≡ maybe.some u)). r.each j u x.1)
            (λ (x : (j ≡ length s.views) × (w ≡ u)). subst (Knows by n W j) x.1 record {
              stands = tt;
              fits = record { begins = k.fits.begins; owned = inl record { is = refl; none = refl } };
              olds_fit = tt;
              tagged = λ h. absurd (h refl);
              spares = λ i from to _. absurd (omega arith);
            }) (last_or s.views w u j e);
      }

  pub deals : (id : ℕ) (v : View E) → v.olds ≡ [] → v.spare < n → v.spare ≢ v.part.number → v.part.number ≢ note_number → Splits (Rule journal label by n) id v (dealer v) (dealt v)
  deals id v alone spare apart_number numbered s r at =
      let W = r.world in
      let k = r.each id v at in
      let a : View E = dealer v in
      let w : View E = dealt v in
      let new : ℕ = length s.views in
      let few = r.few in
      let owner : ℕ → ℕ = λ i. pick i v.spare new (W.owner i) in
      let W' : World X E = record { log = W.log; tag = W.tag; serving = W.serving; tickets = W.tickets; bells = W.bells; home = W.home; turn = W.turn; owner = owner } in
      let mine = k.spares v.spare (le_refl v.spare) spare apart_number in
      let apart_new : (j : ℕ) → j ≢ id → (i : ℕ) → i < n → W.owner i ≡ j → owner i ≡ j = λ j ne i b o. pick_else i v.spare new (W.owner i) (λ e. ne (sym o ∙ ap W.owner e ∙ mine.owner_is)) ∙ o in
      let stays : (j : ℕ) (p : Part E) (st : Stage) → Stands by n W j p st → Stands by n W' j p st = λ j p st. stands_on by n W W' j p st (λ t d o. (d, o)) (λ t _ x. record { not_past = x.not_past; not_now = x.not_now }) (λ t _ _ x. record { now = x.now; out = x.out; knows = x.knows }) in
      let l : length (set s.views id a) ≡ length s.views = length-set s.views id a in
      record {
        world = W';
        words = r.words;
        homes = r.homes;
        few = r.few;
        few_tickets = r.few_tickets;
        unmade = r.unmade;
        logged = r.logged;
        labelled = r.labelled;
        counted = let q = count_set s.views id v a at in let y = count_snoc (set s.views id a) w in let x = r.counted in omega arith;
        ordered = r.ordered;
        out_drawn = r.out_drawn;
        had = λ t from to. had_longer (set s.views id a) w (W.turn t) t (had_stays s.views id (W.turn t) t v a at (λ h. h) (r.had t from to));
        each = λ j u e. ⊎_elim (λ (x : (j < length (set s.views id a)) × (get_elem? (set s.views id a) j ≡ maybe.some u)). all_stay (Knows by n W') s.views id a
            record {
              stands = stays id v.part v.stage k.stands;
              fits = fits_moved by n W.log W.owner owner id id v.part (λ b o. pick_else v.part.number v.spare new (W.owner v.part.number) (λ e. apart_number (sym e)) ∙ o) k.fits;
              olds_fit = subst (AllFit by n W.log owner id v.part.number) (sym alone) tt;
              tagged = k.tagged;
              spares = λ i from to ne. let z = k.spares i (omega arith) to ne in record { owner_is = pick_else i v.spare new (W.owner i) (λ e. omega arith) ∙ z.owner_is; none = z.none };
            }
            (λ i y ne f. let q = r.each i y f in record {
              stands = stays i y.part y.stage q.stands;
              fits = fits_moved by n W.log W.owner owner i i y.part (apart_new i ne y.part.number) q.fits;
              olds_fit = all_fit_moved by n W.log W.owner owner i i y.part.number y.olds (apart_new i ne) q.olds_fit;
              tagged = q.tagged;
              spares = λ m from to not. let z = q.spares m from to not in record { owner_is = apart_new i ne m to z.owner_is; none = z.none };
            }) j u x.1)
            (λ (x : (j ≡ length (set s.views id a)) × (w ≡ u)). subst (Knows by n W' j) x.1 record {
              stands = tt;
              fits = record { begins = k.fits.begins; owned = inr record { below = spare; owner_is = pick_here v.spare v.spare new (W.owner v.spare) refl ∙ sym (x.0 ∙ l); all = mine.none } };
              olds_fit = tt;
              tagged = λ _. k.tagged numbered;
              spares = λ i from to _. absurd (omega arith);
            }) (last_or (set s.views id a) w u j e);
      }

  pub joins : (id : ℕ) (v : View E) (other : ℕ) (u : View E) → u.stage ≡ Idle → Joins (Rule journal label by n) id v other u (joined v u) spent_view
  joins id v other u idle s r at apart_ids there =
      let W = r.world in
      let a : View E = joined v u in
      let z : View E = spent_view in
      let few = r.few in
      let k = r.each id v at in
      let theirs : get_elem? s.views other ≡ maybe.some u = sym (set_else s.views id other a apart_ids) ∙ there in
      let q = r.each other u theirs in
      let owner : ℕ → ℕ = λ i. pick (W.owner i) other id (W.owner i) in
      let W' : World X E = record { log = W.log; tag = W.tag; serving = W.serving; tickets = W.tickets; bells = W.bells; home = W.home; turn = W.turn; owner = owner } in
      let keeps_own : (j : ℕ) → j ≢ other → (i : ℕ) → i < n → W.owner i ≡ j → owner i ≡ j = λ j ne i b o. pick_else (W.owner i) other id (W.owner i) (λ e. ne (sym o ∙ e)) ∙ o in
      let moves : (i : ℕ) → i < n → W.owner i ≡ other → owner i ≡ id = λ i b o. pick_here (W.owner i) other id (W.owner i) o in
      let not_mine : (i : ℕ) → i < n → W.owner i ≡ other → i ≢ v.part.number = λ i b o e. ⊎_elim (λ (y : IsNote v.part). let g = y.is in omega arith)
      (λ (y : Owns by n W.log W.owner id v.part). apart_ids (sym o ∙ ap W.owner e ∙ y.owner_is)) k.fits.owned in
      let mine_apart : id ≢ other = λ e. apart_ids (sym e) in
      let stays : (j : ℕ) (p : Part E) (st : Stage) → Stands by n W j p st → Stands by n W' j p st = λ j p st. stands_on by n W W' j p st (λ t d o. (d, o)) (λ t _ x. record { not_past = x.not_past; not_now = x.not_now }) (λ t _ _ x. record { now = x.now; out = x.out; knows = x.knows }) in
      record {
        world = W';
        words = r.words;
        homes = r.homes;
        few = r.few;
        few_tickets = r.few_tickets;
        unmade = r.unmade;
        logged = r.logged;
        labelled = r.labelled;
        counted = let q = count_set s.views id v a at in let y = count_set (set s.views id a) other u z there in let i = ap ticketed idle in let x = r.counted in omega arith;
        ordered = r.ordered;
        out_drawn = r.out_drawn;
        had = λ t from to. had_stays (set s.views id a) other (W.turn t) t u z there (λ h. absurd (subst (HasTicket t) idle h)) (had_stays s.views id (W.turn t) t v a at (λ h. h) (r.had t from to));
        each = all_stay (Knows by n W') (set s.views id a) other z
            record {
              stands = tt;
              fits = record { begins = (W.log, refl); owned = inl record { is = refl; none = refl } };
              olds_fit = tt;
              tagged = λ h. absurd (h refl);
              spares = λ i from to _. absurd (omega arith);
            }
            (λ j y ne f. all_stay (λ j y. j ≢ other → Knows by n W' j y) s.views id a
            (λ _. record {
              stands = stays id v.part v.stage k.stands;
              fits = fits_moved by n W.log W.owner owner id id v.part (keeps_own id mine_apart v.part.number) k.fits;
              olds_fit = (
                fits_moved by n W.log W.owner owner other id u.part (moves u.part.number) q.fits,
                (λ b. ⊎_elim (λ (y : IsNote u.part). let g = y.is in absurd (omega arith)) (λ (y : Owns by n W.log W.owner other u.part). not_mine u.part.number b y.owner_is) q.fits.owned),
                all_fit-append by n W.log owner id v.part.number u.olds v.olds
                    (all_fit_taken by n W.log W.owner owner other id u.part.number v.part.number u.olds (λ i b o. (moves i b o, not_mine i b o)) few q.olds_fit)
                    (all_fit_moved by n W.log W.owner owner id id v.part.number v.olds (keeps_own id mine_apart) k.olds_fit),
              );
              tagged = k.tagged;
              spares = λ i from to ne'. let g = k.spares i from to ne' in record { owner_is = keeps_own id mine_apart i to g.owner_is; none = g.none };
            })
            (λ i y' ne' f' not. let g = r.each i y' f' in record {
              stands = stays i y'.part y'.stage g.stands;
              fits = fits_moved by n W.log W.owner owner i i y'.part (keeps_own i not y'.part.number) g.fits;
              olds_fit = all_fit_moved by n W.log W.owner owner i i y'.part.number y'.olds (keeps_own i not) g.olds_fit;
              tagged = g.tagged;
              spares = λ m from to ne'. let h = g.spares m from to ne' in record { owner_is = keeps_own i not m to h.owner_is; none = h.none };
            }) j y f ne);
      }
