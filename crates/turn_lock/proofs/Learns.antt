-- What a seat learns by a look after a join, and the first seat.
use Rattle.std.proofs.Common.{◌≡◌, inl, inr, ℕ, zero, suc, ◌<◌, ◌≤◌, List, [], ◌∷◌, ◌++◌, drop, get_or, refl, sym, ap, ◌∙◌, subst, ⊎_elim, arith, Some, Option, true≢false}
use mathlib.Core.Option as maybe
use lib.ListN.{get_elem?}
use Rattle.atomic_table.specs.Table.{Me, keeps, step, stepped, Allows, opening, rest}
use Rattle.std.proofs.lemmas.List.{set-get_or}
use Rattle.turn_lock.specs.declared.rule.View.{View}
use Rattle.turn_lock.specs.declared.rule.Part.{Part}
use Rattle.turn_lock.specs.declared.rule.Stage.TheVariants.{Idle}
use Rattle.turn_lock.specs.Tickets.{note_number, StartsWith, World, IsNote, Owns, Fits, AllFit, Stands, Knows, longer, with_seen, KnowsBoth, learned, met, opening_view}
use Rattle.okws_base.specs.Turns.{of}
use Rattle.turn_lock.proofs.Views.{all_stay, of-append, had_stays, count_set}
use Rattle.turn_lock.proofs.Steps.{St, Rule}
use Rattle.turn_lock.proofs.Moves.{both_begin}

module _ {X E : Type 0} (journal : X → List E) (label : X → ℕ) (by : E → ℕ) (n : ℕ) where
  pub all_own : (W : World X E) (i : ℕ) (p : Part E) → n ≤ note_number → ((k : ℕ) → n ≤ k → of by k W.log ≡ []) → Fits by n W.log W.owner i p → of by p.number W.log ≡ p.own
  all_own W i p few unmade f = ⊎_elim (λ (y : IsNote p). let q = y.is in unmade p.number (omega arith) ∙ sym y.none) (λ (y : Owns by n W.log W.owner i p). y.all) f.owned

  pub sees : (s : St journal label by n) (r : Rule journal label by n s) (id : ℕ) (v : View E) (c : List (ℕ × Option X)) (seen : List E) (olds : List (Part E)) → get_elem? s.views id ≡ maybe.some v → v.stage ≡ Idle
      → StartsWith r.world.log seen → AllFit by n r.world.log r.world.owner id v.part.number olds → Rule journal label by n (stepped s 0 (get_or s.words 0 0) id c (with_seen seen olds v) keeps)
  sees s r id v c seen olds at idle begins fit =
      let W = r.world in
      let k = r.each id v at in
      let w : View E = with_seen seen olds v in
      record {
        world = W;
        words = set-get_or s.words 0 0 ∙ r.words;
        homes = r.homes;
        few = r.few;
        few_tickets = r.few_tickets;
        unmade = r.unmade;
        logged = r.logged;
        labelled = r.labelled;
        counted = let q = count_set s.views id v w at in let x = r.counted in omega arith;
        ordered = r.ordered;
        out_drawn = r.out_drawn;
        had = λ t from to. had_stays s.views id (W.turn t) t v w at (λ h. h) (r.had t from to);
        each = all_stay (Knows by n W) s.views id w
            record {
              stands = subst (Stands by n W id w.part) (sym idle) tt;
              fits = record {
                begins = begins;
                owned = ⊎_elim (λ (y : IsNote v.part). inl record { is = y.is; none = y.none }) (λ (y : Owns by n W.log W.owner id v.part). inr record { below = y.below; owner_is = y.owner_is; all = y.all }) k.fits.owned;
              };
              olds_fit = fit;
              tagged = k.tagged;
              spares = k.spares;
            }
            (λ j u ne e. r.each j u e);
      }

  pub first_own : (k : ℕ) (log seen rest own : List E) → log ≡ seen ++ rest → of by k log ≡ own → StartsWith own (of by k seen)
  first_own k log seen rest own e f = (of by k rest, sym f ∙ (ap (of by k) e ∙ of-append by k seen rest))

  pub same_head : (q q' : Part E) (qs qs' : List (Part E)) → q ∷ qs ≡ q' ∷ qs' → q ≡ q'
  same_head q q' qs qs' e = cc

  pub learns : (slots id : ℕ) (me : Me (Option X) (View E)) (q : Part E) (qs : List (Part E)) → me.0.stage ≡ Idle → me.0.olds ≡ q ∷ qs
      → Allows (Rule journal label by n) slots id me 0 (λ r. r) (learned journal label by (step slots 0 0 0 maybe.none) me)
  learns slots id me q qs idle is s r _ at _ =
      let W = r.world in
      let k = r.each id me.0 at in
      let o = subst (AllFit by n W.log W.owner id me.0.part.number) is k.olds_fit in
      let b = both_begin W.log me.0.part.seen q.seen k.fits.begins o.0.begins in
      let w : View E = with_seen (longer me.0.part.seen q.seen) (q ∷ qs) me.0 in
      let first = first_own me.0.part.number W.log (longer me.0.part.seen q.seen) b.2.0 me.0.part.own b.2.1 (all_own W id me.0.part r.few r.unmade k.fits) in (
        w,
        keeps,
        tt,
        sees s r id me.0 me.1 (longer me.0.part.seen q.seen) (q ∷ qs) at idle b.2 o,
        λ q' qs' _ is'.
            let e : q ∷ qs ≡ q' ∷ qs' = sym is ∙ is' in
            let h = same_head q q' qs qs' e in
            ((λ i. (with_seen (longer me.0.part.seen ((h i).seen)) (e i) me.0, me.1)), subst (λ (z : Part E). KnowsBoth journal label by me.0.part.seen z.seen w.part) h (b.0, b.1, first)),
      )

  pub meets : (slots id : ℕ) (me : Me (Option X) (View E)) (q : Part E) (qs : List (Part E)) → me.0.stage ≡ Idle → me.0.olds ≡ q ∷ qs
      → Allows (Rule journal label by n) slots id me 0 (λ r. r) (met journal label by (step slots 0 0 0 maybe.none) me)
  meets slots id me q qs idle is s r _ at _ =
      let W = r.world in
      let k = r.each id me.0 at in
      let o = subst (AllFit by n W.log W.owner id me.0.part.number) is k.olds_fit in
      let b = both_begin W.log me.0.part.seen q.seen k.fits.begins o.0.begins in
      let w : View E = with_seen (longer me.0.part.seen q.seen) qs me.0 in
      let first = first_own me.0.part.number W.log (longer me.0.part.seen q.seen) b.2.0 me.0.part.own b.2.1 (all_own W id me.0.part r.few r.unmade k.fits) in (
        w,
        keeps,
        tt,
        sees s r id me.0 me.1 (longer me.0.part.seen q.seen) qs at idle b.2 o.2,
        λ q' qs' _ is'.
            let e : q ∷ qs ≡ q' ∷ qs' = sym is ∙ is' in
            let h = same_head q q' qs qs' e in
            ((λ i. (with_seen (longer me.0.part.seen ((h i).seen)) (drop 1 (e i)) me.0, me.1)), subst (λ (z : Part E). KnowsBoth journal label by me.0.part.seen z.seen w.part) h (b.0, b.1, first)),
      )

  pub opens : (x : X) (bells : List ℕ) → journal x ≡ [] → 0 < n → n ≤ note_number → Rule journal label by n (opening (0 ∷ 0 ∷ bells) (Some x ∷ []) (opening_view n (label x)))
  opens x bells empty some_number few =
      let W : World X E = record { log = []; tag = label x; serving = 0; tickets = 0; bells = bells; home = maybe.some x; turn = λ t. 0; owner = λ k. 0 } in
      let v : View E = opening_view n (label x) in
      let first : Knows by n W 0 v = record {
        stands = tt;
        fits = record { begins = ([], refl); owned = inr record { below = omega arith; owner_is = refl; all = refl } };
        olds_fit = tt;
        tagged = λ _. refl;
        spares = λ i from to ne. record { owner_is = refl; none = refl };
      } in
      record {
        world = W;
        words = refl;
        homes = refl;
        few = few;
        few_tickets = omega arith;
        unmade = λ k h. refl;
        logged = λ y e. ap journal (sym (maybe.some-injective x y e)) ∙ empty;
        labelled = λ y e. ap label (sym (maybe.some-injective x y e));
        counted = refl;
        ordered = omega arith;
        out_drawn = λ o. absurd (true≢false (sym o));
        had = λ t from to. absurd (omega arith);
        each = λ j u e. only (Knows by n W) v first j u e;
      }
    where
      only : (P : ℕ → View E → Type 0) (v : View E) → P 0 v → (j : ℕ) (u : View E) → get_elem? (v ∷ []) j ≡ maybe.some u → P j u
      only P v p zero u e = subst (P 0) (maybe.some-injective v u e) p
      only P v p (suc j) u e = absurd (maybe.some-ne-none u (sym e))
