-- Drawing a ticket, looking at the word that is served, and giving the turn up keep the rule.
use Rattle.std.proofs.Common.{◌≡◌, ◌≢◌, inl, inr, ℕ, zero, suc, ◌+◌, ◌-◌, ◌%◌, ◌^◌, ◌<◌, ◌≤◌, eqb, true, List, [], ◌∷◌, ◌++◌, length, drop, set, get_or, refl, sym, ap, ◌∙◌, subst, ⊎_elim, arith, append-nil, Some, Option, true≢false}
use mathlib.Core.Logic.{dite}
use mathlib.Core.Option as maybe
use native.Mathlib.Decide.{ℕ_discrete}
use lib.ListN.{get_elem?}
use prog.Atomic.{either}
use Rattle.atomic_table.specs.Table.{State, Me, Act, keeps, takes, gives, step, stepped, Allows, Valid, carried_after, put_back, rest}
use Rattle.std.proofs.Math.Seq.{drop-append_seam}
use Rattle.std.proofs.Math.Nat.{mod-eq_of_lt}
use Rattle.std.proofs.lemmas.List.{set-get_or}
use Rattle.atomic_table.proofs.Lists.{set_here, set_again, exchanged}
use Rattle.turn_lock.specs.declared.rule.View.{View}
use Rattle.turn_lock.specs.declared.rule.Stage.{Stage}
use Rattle.turn_lock.specs.declared.rule.Stage.TheVariants.{Idle, Waits, Holds}
use Rattle.turn_lock.specs.Tickets.{note_number, last_ticket, World, shelf, is_out, HasTicket, ticketed, IsNote, Owns, Turned, Holding, Stands, Knows, Kept, staged, holding, given, Goes, drawn, looked, served}
use Rattle.okws_base.specs.Turns.{of, AllBy}
use Rattle.turn_lock.proofs.Views.{inside, all_stay, of-append, of-own, had_stays, count_set, pick, pick_here, pick_else, same_slot, is_home, grown, fits_more, all_fit_more, apart, stands_on}

module _ {X E : Type 0} (journal : X → List E) (label : X → ℕ) (by : E → ℕ) (n : ℕ) where
  abbrev pub St : Type 0
  St = State (Option X) (View E)

  abbrev pub M : Type 0
  M = Me (Option X) (View E)

  abbrev pub Rule : St → Type 0
  Rule = Kept journal label by n

  -- a step on a word that changes nothing
  pub unmoved : (s : St) → Rule s → (i id : ℕ) (me : M) → get_elem? s.views id ≡ maybe.some me.0 → Rule (stepped s i (get_or s.words i 0) id me.1 me.0 keeps)
  unmoved s r i id me at = let a = sym (set-get_or s.words i 0) in let b = sym (set_again s.views id me.0 at) in subst Rule (λ k. record { words = a k; homes = s.homes; views = b k }) r

  pub ring : (s : St) → Rule s → (i new id : ℕ) (me : M) → 2 ≤ i → get_elem? s.views id ≡ maybe.some me.0 → Rule (stepped s i new id me.1 me.0 keeps)
  ring s r i new id me high at =
      let W = r.world in
      let b = sym (set_again s.views id me.0 at) in
      subst (λ (vs : List (View E)). Rule record { words = set s.words i new; homes = s.homes; views = vs }) b record {
        world = record { log = W.log; tag = W.tag; serving = W.serving; tickets = W.tickets; bells = set W.bells (i - 2) new; home = W.home; turn = W.turn; owner = W.owner };
        words = ap (λ ws. set ws i new) r.words ∙ past i high;
        homes = r.homes;
        few = r.few;
        few_tickets = r.few_tickets;
        unmade = r.unmade;
        logged = r.logged;
        labelled = r.labelled;
        counted = r.counted;
        ordered = r.ordered;
        out_drawn = r.out_drawn;
        had = r.had;
        each = λ j u e. let k = r.each j u e in record {
          stands = stands_on by n W (record { log = W.log; tag = W.tag; serving = W.serving; tickets = W.tickets; bells = set W.bells (i - 2) new; home = W.home; turn = W.turn; owner = W.owner }) j u.part u.stage (λ t d o. (d, o))
              (λ t _ x. record { not_past = x.not_past; not_now = x.not_now }) (λ t _ _ x. record { now = x.now; out = x.out; knows = x.knows }) k.stands;
          fits = k.fits;
          olds_fit = k.olds_fit;
          tagged = k.tagged;
          spares = k.spares;
        };
      }
    where
      past : (i : ℕ) → 2 ≤ i → set (r.world.serving ∷ r.world.tickets ∷ r.world.bells) i new ≡ r.world.serving ∷ r.world.tickets ∷ set r.world.bells (i - 2) new
      past zero h = absurd (omega arith)
      past (suc zero) h = absurd (omega arith)
      past (suc (suc i)) h = let e : i ≡ suc (suc i) - 2 = omega arith in ap (λ k. r.world.serving ∷ r.world.tickets ∷ set r.world.bells k new) e

  pub rings : (slots id i new : ℕ) (me : M) → 2 ≤ i → Allows Rule slots id me i (λ _. new) (λ _ m. m ≡ me)
  rings slots id i new me high s r _ at _ = (me.0, keeps, tt, ring s r i new id me high at, refl)

  pub draws : (s : St) (r : Rule s) (id old new : ℕ) (me : M) → get_elem? s.views id ≡ maybe.some me.0 → me.0.stage ≡ Idle → me.0.part.number ≢ note_number → new ≡ old + 1 → old < last_ticket
      → get_or s.words 1 0 ≡ old → Rule (stepped s 1 new id me.1 (staged (Waits old) me.0) keeps)
  draws s r id old new me at idle numbered more room hit =
      let W = r.world in
      let v = me.0 in
      let w : View E = staged (Waits old) v in
      let k = r.each id v at in
      let is : old ≡ W.tickets = sym hit ∙ ap (λ ws. get_or ws 1 0) r.words in
      let low = r.ordered in
      let turn : ℕ → ℕ = λ t. pick t old id (W.turn t) in
      let W' : World X E = record { log = W.log; tag = W.tag; serving = W.serving; tickets = new; bells = W.bells; home = W.home; turn = turn; owner = W.owner } in
      let below : v.part.number < n = ⊎_elim (λ (x : IsNote v.part). absurd (numbered x.is)) (λ (x : Owns by n W.log W.owner id v.part). x.below) k.fits.owned in
      record {
        world = W';
        words = ap (λ ws. set ws 1 new) r.words;
        homes = r.homes;
        few = r.few;
        few_tickets = omega arith;
        unmade = r.unmade;
        logged = r.logged;
        labelled = r.labelled;
        counted = let q = count_set s.views id v w at in let z = ap ticketed idle in let x = r.counted in omega arith;
        ordered = omega arith;
        out_drawn = λ o. let d = r.out_drawn o in omega arith;
        had = λ t from to. dite (ℕ_discrete t old)
            (λ e. (w, subst (λ k. get_elem? (set s.views id w) k ≡ maybe.some w) (sym (pick_here t old id (W.turn t) e)) (set_here s.views id w (inside s.views id v at)), sym e))
            (λ ne. subst (λ z. (u : View E) × (get_elem? (set s.views id w) z ≡ maybe.some u) × HasTicket t u.stage) (sym (pick_else t old id (W.turn t) ne))
            (had_stays s.views id (W.turn t) t v w at (λ x. absurd (subst (HasTicket t) idle x)) (r.had t from (omega arith))));
        each = all_stay (Knows by n W') s.views id w
            record {
              stands = (record { drawn = omega arith; own_turn = pick_here old old id (W.turn old) refl; numbered = below }, record { not_past = omega arith; not_now = λ o. let d = r.out_drawn o in omega arith });
              fits = k.fits;
              olds_fit = k.olds_fit;
              tagged = k.tagged;
              spares = k.spares;
            }
            (λ j u ne e. let q = r.each j u e in record {
              stands = stands_on by n W W' j u.part u.stage
                  (λ t d o. (omega arith, pick_else t old id (W.turn t) (λ z. omega arith) ∙ o))
                  (λ t _ x. record { not_past = x.not_past; not_now = x.not_now })
                  (λ t _ _ x. record { now = x.now; out = x.out; knows = x.knows }) q.stands;
              fits = q.fits;
              olds_fit = q.olds_fit;
              tagged = q.tagged;
              spares = q.spares;
            });
      }

  pub draws_ticket : (slots id old new : ℕ) (me : M) → me.0.stage ≡ Idle → me.0.part.number ≢ note_number → new ≡ old + 1 → old < last_ticket
      → Allows Rule slots id me 1 (λ r. either (eqb r old) new r) (drawn journal label by (step slots 1 old new maybe.none) me)
  draws_ticket slots id old new me idle numbered more room s r _ at _ = exchanged (get_or s.words 1 0) old new
      (λ z. (w : View E) × (a : Act (Option X)) × Valid s.homes me.1 a × Rule (stepped s 1 z id me.1 w a) × drawn journal label by (step slots 1 old new maybe.none) me (get_or s.words 1 0) (w, carried_after me.1 a))
      (λ hit. (staged (Waits old) me.0, keeps, tt, draws s r id old new me at idle numbered more room hit, ((λ _. refl), (λ ne. absurd (ne hit)))))
      (λ miss. (me.0, keeps, tt, unmoved s r 1 id me at, ((λ e. absurd (miss e)), (λ _. refl))))

  pub gets : (s : St) (r : Rule s) (id t : ℕ) (me : M) (x : X) → get_elem? s.views id ≡ maybe.some me.0 → me.0.stage ≡ Waits t → r.world.serving ≡ t → r.world.home ≡ maybe.some x
      → Turned by n r.world id t me.0.part.number → Rule (stepped s 0 (get_or s.words 0 0) id me.1 (holding t (journal x) me.0) (takes 0 (Some x)))
  gets s r id t me x at waits now here mine =
      let W = r.world in
      let v = me.0 in
      let w : View E = holding t (journal x) v in
      let k = r.each id v at in
      let same = r.logged x here in
      let W' : World X E = record { log = W.log; tag = W.tag; serving = W.serving; tickets = W.tickets; bells = W.bells; home = maybe.none; turn = W.turn; owner = W.owner } in
      let drawn' = mine.drawn in
      record {
        world = W';
        words = set-get_or s.words 0 0 ∙ r.words;
        homes = ap (λ hs. set hs 0 maybe.none) r.homes;
        few = r.few;
        few_tickets = r.few_tickets;
        unmade = r.unmade;
        logged = λ y e. absurd (maybe.some-ne-none y (sym e));
        labelled = λ y e. absurd (maybe.some-ne-none y (sym e));
        counted = let q = count_set s.views id v w at in let z = ap ticketed waits in let x = r.counted in omega arith;
        ordered = r.ordered;
        out_drawn = λ _. omega arith;
        had = λ u from to. had_stays s.views id (W.turn u) u v w at (λ h. subst (HasTicket u) waits h) (r.had u from to);
        each = all_stay (Knows by n W') s.views id w
            record {
              stands = (record { drawn = mine.drawn; own_turn = mine.own_turn; numbered = mine.numbered }, record { now = sym now; out = refl; knows = same });
              fits = record {
                begins = ([], sym same ∙ sym (append-nil (journal x)));
                owned = ⊎_elim (λ (y : IsNote v.part). inl record { is = y.is; none = y.none }) (λ (y : Owns by n W.log W.owner id v.part). inr record { below = y.below; owner_is = y.owner_is; all = y.all }) k.fits.owned;
              };
              olds_fit = k.olds_fit;
              tagged = k.tagged;
              spares = k.spares;
            }
            (λ j u ne e. let q = r.each j u e in record {
              stands = stands_on by n W W' j u.part u.stage
                  (λ i d o. (d, o))
                  (λ i o y. let p = y.not_past in record { not_past = p; not_now = λ _. dite (ℕ_discrete i t) (λ z. absurd (ne (sym o ∙ ap W.turn z ∙ mine.own_turn))) (λ z. omega arith) })
                  (λ i _ _ y. absurd (true≢false (sym (subst (λ h. is_out h ≡ true) here y.out)))) q.stands;
              fits = q.fits;
              olds_fit = q.olds_fit;
              tagged = q.tagged;
              spares = q.spares;
            });
      }

  abbrev pub GoesOn : St → ℕ → ℕ → M → (ℕ → M → Type 0) → Type 0
  GoesOn s i id me then = (w : View E) × (a : Act (Option X)) × Valid s.homes me.1 a × Rule (stepped s i (get_or s.words i 0) id me.1 w a) × then (get_or s.words i 0) (w, carried_after me.1 a)

  pub look_at : (s : St) (r : Rule s) (slots id : ℕ) (me : M) → get_elem? s.views id ≡ maybe.some me.0 → (st : Stage) → me.0.stage ≡ st → Stands by n r.world id me.0.part st
      → GoesOn s 0 id me (looked journal label by (step slots 0 0 0 maybe.none) me)
  look_at s r slots id me at Idle is k = (me.0, keeps, tt, unmoved s r 0 id me at, λ t e. absurd (cc))
  look_at s r slots id me at (Holds u) is k = (me.0, keeps, tt, unmoved s r 0 id me at, λ t e. absurd (cc))
  look_at s r slots id me at (Waits u) is k =
      let W = r.world in
      let word : get_or s.words 0 0 ≡ W.serving = ap (λ ws. get_or ws 0 0) r.words in
      dite (ℕ_discrete W.serving u)
      (λ hit.
      let h = is_home W.home (λ o. let p = k.1.not_now o in omega arith) in
      let x = h.0 in
      let f = (r.each id me.0 at).fits in
      let same = r.logged x h.1 in (
        holding u (journal x) me.0,
        takes 0 (Some x),
        subst (λ hs. get_elem? hs 0 ≡ maybe.some (maybe.some (Some x))) (sym (r.homes ∙ ap (λ y. shelf y ∷ []) h.1)) refl,
        gets s r id u me x at is hit h.1 k.0,
        λ t e.
            let t_is : u ≡ t = cc in (
              (λ _. (
                x,
                ap (λ (z : ℕ). (holding z (journal x) me.0, (0, Some x) ∷ me.1)) t_is,
                (f.begins.0, same ∙ f.begins.1),
                ⊎_elim (λ (y : IsNote me.0.part). let q = y.is in let l = k.0.numbered in let few = r.few in absurd (omega arith)) (λ (y : Owns by n W.log W.owner id me.0.part). ap (of by me.0.part.number) same ∙ y.all) f.owned,
                r.labelled x h.1 ∙ sym ((r.each id me.0 at).tagged (λ e. let few' = r.few in let l = k.0.numbered in absurd (omega arith))),
              )),
              (λ ne. absurd (ne (word ∙ hit ∙ t_is))),
            ),
      ))
      (λ miss. (me.0, keeps, tt, unmoved s r 0 id me at, λ t e. let t_is : u ≡ t = cc in ((λ z. absurd (miss (sym word ∙ z ∙ sym t_is))), (λ _. refl))))

  pub looks : (slots id : ℕ) (me : M) → Allows Rule slots id me 0 (λ r. r) (looked journal label by (step slots 0 0 0 maybe.none) me)
  looks slots id me s r _ at _ = look_at s r slots id me at me.0.stage refl (r.each id me.0 at).stands

  pub serves : (s : St) (r : Rule s) (id t : ℕ) (me : M) (x : X) (added : List E) → get_elem? s.views id ≡ maybe.some me.0 → me.0.stage ≡ Holds t → Turned by n r.world id t me.0.part.number
      → Holding by n r.world t me.0.part.seen → journal x ≡ r.world.log ++ added → AllBy by me.0.part.number added → me.0.part.number < n → label x ≡ r.world.tag
      → Rule record { words = set s.words 0 (r.world.serving + 1); homes = set s.homes 0 (maybe.some (Some x)); views = set s.views id (given (journal x) me.0) }
  serves s r id t me x added at holds turned have adds mine below tagged =
      let W = r.world in
      let v = me.0 in
      let w : View E = given (journal x) v in
      let k = r.each id v at in
      let number : ℕ = v.part.number in
      let now = have.now in
      let drawn' = turned.drawn in
      let log' = W.log ++ added in
      let W' : World X E = record { log = W.log ++ added; tag = W.tag; serving = W.serving + 1; tickets = W.tickets; bells = W.bells; home = maybe.some x; turn = W.turn; owner = W.owner } in
      let tail : drop (length v.part.seen) (journal x) ≡ added = ap (λ l. drop (length v.part.seen) l) (adds ∙ ap (λ l. l ++ added) (sym have.knows)) ∙ drop-append_seam v.part.seen added in
      let few = r.few in
      let own : Owns by n W.log W.owner id v.part = ⊎_elim (λ (y : IsNote v.part). let q = y.is in absurd (omega arith)) (λ (y : Owns by n W.log W.owner id v.part). y) k.fits.owned in
      record {
        world = W';
        words = ap (λ ws. set ws 0 (W.serving + 1)) r.words;
        homes = ap (λ hs. set hs 0 (maybe.some (Some x))) r.homes;
        few = r.few;
        few_tickets = r.few_tickets;
        unmade = λ i h. grown by n W.log added W.owner number mine i (λ z. omega arith) ∙ r.unmade i h;
        logged = λ y e. subst (λ (z : X). journal z ≡ W.log ++ added) (maybe.some-injective x y e) adds;
        labelled = λ y e. subst (λ (z : X). label z ≡ W.tag) (maybe.some-injective x y e) tagged;
        counted = let q = count_set s.views id v w at in let z = ap ticketed holds in let x = r.counted in omega arith;
        ordered = omega arith;
        out_drawn = λ o. absurd (true≢false (sym o));
        had = λ u from to. had_stays s.views id (W.turn u) u v w at (λ h. let e : t ≡ u = subst (HasTicket u) holds h in absurd (omega arith)) (r.had u (omega arith) to);
        each = all_stay (Knows by n W') s.views id w
            record {
              stands = tt;
              fits = record {
                begins = ([], sym adds ∙ sym (append-nil (journal x)));
                owned = inr record {
                  below = below;
                  owner_is = own.owner_is;
                  all = of-append by number W.log added ∙ (ap (λ l. l ++ of by number added) own.all ∙ ap (λ l. v.part.own ++ l) (of-own by number added mine ∙ sym tail));
                };
              };
              olds_fit = all_fit_more by n W.log added W.owner number mine id number v.olds (λ p _ _ ne. ne) k.olds_fit;
              tagged = k.tagged;
              spares = λ i from to ne. let q = k.spares i from to ne in record { owner_is = q.owner_is; none = grown by n W.log added W.owner number mine i ne ∙ q.none };
            }
            (λ j u ne e. let q = r.each j u e in record {
              stands = stands_on by n W W' j u.part u.stage
                  (λ i d o. (d, o))
                  (λ i o y. let p = y.not_now have.out in record { not_past = omega arith; not_now = λ o'. absurd (true≢false (sym o')) })
                  (λ i o _ y. absurd (ne (sym o ∙ ap W.turn (y.now ∙ sym now) ∙ turned.own_turn))) q.stands;
              fits = fits_more by n W.log added W.owner number mine j u.part (apart by n W.log added W.owner number mine few id j u.part own.owner_is ne q.fits) q.fits;
              olds_fit = all_fit_more by n W.log added W.owner number mine j u.part.number u.olds (λ p f b _. apart by n W.log added W.owner number mine few id j p own.owner_is ne f b) q.olds_fit;
              tagged = q.tagged;
              spares = λ i from to not. let z = q.spares i from to not in record {
                owner_is = z.owner_is;
                none = grown by n W.log added W.owner number mine i (λ h. ne (sym z.owner_is ∙ ap W.owner h ∙ own.owner_is)) ∙ z.none;
              };
            });
      }

  pub serves_turn : (slots id t : ℕ) (me : M) (x : X) → me.0.stage ≡ Holds t → me.1 ≡ (0, Some x) ∷ [] → Goes by me.0.part.number me.0.part.seen (journal x) → label x ≡ me.0.tag
      → Allows Rule slots id me 0 (λ r. (r + 1) % 2 ^ 64) (served journal label by (step slots 0 1 0 maybe.none) me)
  serves_turn slots id t me x holds out goes labelled s r _ at _ =
      let W = r.world in
      let k = r.each id me.0 at in
      let st = subst (Stands by n r.world id me.0.part) holds k.stands in
      let word : get_or s.words 0 0 ≡ W.serving = ap (λ ws. get_or ws 0 0) r.words in
      let few = r.few_tickets in
      let drawn' = r.out_drawn st.1.out in
      let small : W.serving + 1 < 2 ^ 64 = omega arith in
      let e : W.serving + 1 ≡ (get_or s.words 0 0 + 1) % 2 ^ 64 = sym (ap (λ z. (z + 1) % 2 ^ 64) word ∙ mod-eq_of_lt small) in
      let back = sym out in (
        given (journal x) me.0,
        gives,
        tt,
        subst Rule (λ i. record { words = set s.words 0 (e i); homes = put_back s.homes (back i); views = set s.views id (given (journal x) me.0) })
            (serves s r id t me x goes.0 at holds st.0 st.1 (goes.1 ∙ ap (λ l. l ++ goes.0) st.1.knows) goes.2 st.0.numbered (labelled ∙ k.tagged (λ e. let few' = r.few in let l = st.0.numbered in absurd (omega arith)))),
        λ y is. let q = same_slot x y (sym out ∙ is) in λ i. (given (journal (q i)) me.0, rest (out i)),
      )
