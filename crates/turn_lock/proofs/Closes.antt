-- What is known where a table is closed.
use Rattle.std.proofs.Common.{◌≡◌, ◌≢◌, inl, inr, ℕ, ◌<◌, ◌≤◌, true, List, [], ◌∷◌, ◌++◌, le_refl, refl, sym, ap, ◌∙◌, subst, ⊎_elim, arith, Some, None, Option}
use mathlib.Core.Option as maybe
use lib.ListN.{get_elem?}
use Rattle.atomic_table.specs.Table.{Me, Step, Final, Seen}
use Rattle.turn_lock.specs.declared.rule.View.{View}
use Rattle.turn_lock.specs.declared.rule.Part.{Part}
use Rattle.turn_lock.specs.declared.rule.Stage.{Stage}
use Rattle.turn_lock.specs.declared.rule.Stage.TheVariants.{Idle, Waits, Holds}
use Rattle.turn_lock.specs.Tickets.{note_number, World, shelf, is_out, HasTicket, IsNote, Owns, AllFit, Stands, longer, joined, with_seen, parts_of, KnowsBoth, learned, met, HasNumber, AllTold}
use Rattle.okws_base.specs.Turns.{of}
use Rattle.turn_lock.proofs.Views.{same_there, some_same, is_home}
use Rattle.turn_lock.proofs.Steps.{St, Rule}
use Rattle.turn_lock.proofs.Learns.{all_own}

module _ {X E : Type 0} (journal : X → List E) (label : X → ℕ) (by : E → ℕ) (n : ℕ) where
  pub owner_there : (W : World X E) (id at k : ℕ) (ps : List (Part E)) → n ≤ note_number → k < n → AllFit by n W.log W.owner id at ps → HasNumber k ps → W.owner k ≡ id
  owner_there W id at k [] few below f h = absurd h
  owner_there W id at k (p ∷ ps) few below f (inl e) = ⊎_elim (λ (y : IsNote p). let q = y.is in absurd (omega arith)) (λ (y : Owns by n W.log W.owner id p). ap W.owner (sym e) ∙ y.owner_is) f.0.owned
  owner_there W id at k (p ∷ ps) few below f (inr h) = owner_there W id at k ps few below f.2 h

  pub all_told : (W : World X E) (id at : ℕ) (ps : List (Part E)) → n ≤ note_number → ((k : ℕ) → n ≤ k → of by k W.log ≡ []) → AllFit by n W.log W.owner id at ps → AllTold by W.log ps
  all_told W id at [] few unmade f = tt
  all_told W id at (p ∷ ps) few unmade f = (f.0.begins, all_own journal label by n W id p few unmade f.0, all_told W id at ps few unmade f.2)

  -- a seat that has every number, and no turn, knows that the value is at home
  pub not_out : (s : St journal label by n) (r : Rule journal label by n s) (id : ℕ) (v : View E) → get_elem? s.views id ≡ maybe.some v → v.stage ≡ Idle → ((k : ℕ) → k < n → HasNumber k (parts_of v)) → is_out r.world.home ≡ true → ⊥
  not_out s r id v at idle covers out =
      let W = r.world in
      let d = r.out_drawn out in
      let h = r.had W.serving (le_refl W.serving) d in
      by_stage h.0 h.0.stage refl h.1 h.2
    where
      by_stage : (u : View E) (st : Stage) → u.stage ≡ st → get_elem? s.views (r.world.turn r.world.serving) ≡ maybe.some u → HasTicket r.world.serving u.stage → ⊥
      by_stage u Idle is there t = subst (HasTicket r.world.serving) is t
      by_stage u (Waits t) is there has =
          let k = subst (Stands by n r.world (r.world.turn r.world.serving) u.part) is (r.each _ u there).stands in
          let e : t ≡ r.world.serving = subst (HasTicket r.world.serving) is has in
          let l = k.1.not_now out in omega arith
      by_stage u (Holds t) is there has =
          let W = r.world in
          let q = r.each _ u there in
          let k = subst (Stands by n W (W.turn W.serving) u.part) is q.stands in
          let mine = r.each id v at in
          let few = r.few in
          let b = k.0.numbered in
          let o : W.owner u.part.number ≡ id = ⊎_elim
          (λ (e : v.part.number ≡ u.part.number). ⊎_elim (λ (y : IsNote v.part). let g = y.is in absurd (omega arith)) (λ (y : Owns by n W.log W.owner id v.part). ap W.owner (sym e) ∙ y.owner_is) mine.fits.owned)
          (λ (e : HasNumber u.part.number v.olds). owner_there W id v.part.number u.part.number v.olds few b mine.olds_fit e) (covers u.part.number b) in
          let o' : W.owner u.part.number ≡ W.turn W.serving = ⊎_elim (λ (y : IsNote u.part). let g = y.is in absurd (omega arith)) (λ (y : Owns by n W.log W.owner (W.turn W.serving) u.part). y.owner_is) q.fits.owned in
          let same : u ≡ v = same_there s.views id u v (subst (λ i. get_elem? s.views i ≡ maybe.some u) (sym o' ∙ o) there) at in
          subst (HasTicket W.serving) (ap (λ (z : View E). z.stage) same ∙ idle) has

  pub closes : (id : ℕ) (v : View E) (ws : List ℕ) (xs : List (Option X)) → v.stage ≡ Idle → v.part.number ≢ note_number → ((k : ℕ) → k < n → HasNumber k (parts_of v)) → Final (Seen (Rule journal label by n) id v) ws xs
      → (x : X) × (get_elem? xs 0 ≡ maybe.some (Some x)) × AllTold by (journal x) (parts_of v) × ((k : ℕ) → n ≤ k → of by k (journal x) ≡ []) × (label x ≡ v.tag)
  closes id v ws xs idle numbered covers f =
      let s = f.0 in
      let r = f.1.0 in
      let W = r.world in
      let at = f.1.1 in
      let k = r.each id v at in
      let h = is_home W.home (λ o. not_out s r id v at idle covers o) in
      let log = sym (r.logged h.0 h.1) in (
        h.0,
        f.4 0 (Some h.0) (subst (λ hs. get_elem? hs 0 ≡ maybe.some (maybe.some (Some h.0))) (sym (r.homes ∙ ap (λ y. shelf y ∷ []) h.1)) refl),
        subst (λ l. AllTold by l (parts_of v)) log (k.fits.begins, all_own journal label by n W id v.part r.few r.unmade k.fits, all_told W id v.part.number v.olds r.few r.unmade k.olds_fit),
        (λ i b. subst (λ l. of by i l ≡ []) log (r.unmade i b)),
        r.labelled h.0 h.1 ∙ sym (k.tagged numbered),
      )

  pub ends : (id : ℕ) (v : View E) (ws : List ℕ) (xs : List (Option X)) → v.stage ≡ Idle → v.part.number ≢ note_number → ((k : ℕ) → k < n → HasNumber k (parts_of v)) → Final (Seen (Rule journal label by n) id v) ws xs
      → (slot : Option X) → get_elem? xs 0 ≡ maybe.some slot → (y : X) → slot ≡ Some y → AllTold by (journal y) (parts_of v) × ((k : ℕ) → n ≤ k → of by k (journal y) ≡ []) × (label y ≡ v.tag)
  ends id v ws xs idle numbered covers f slot at y is =
      let h = closes id v ws xs idle numbered covers f in
      let e : h.0 ≡ y = some_same h.0 y (maybe.some-injective (Some h.0) slot (sym h.1 ∙ at) ∙ is) in
      subst (λ (z : X). AllTold by (journal z) (parts_of v) × ((k : ℕ) → n ≤ k → of by k (journal z) ≡ []) × (label z ≡ v.tag)) e (h.2, h.3, h.4)

  pub none_apart : (x : X) → Some x ≡ None → ⊥
  none_apart x e = absurd (cc)

  pub ends_full : (id : ℕ) (v : View E) (ws : List ℕ) (xs : List (Option X)) → v.stage ≡ Idle → v.part.number ≢ note_number → ((k : ℕ) → k < n → HasNumber k (parts_of v)) → Final (Seen (Rule journal label by n) id v) ws xs
      → (slot : Option X) → get_elem? xs 0 ≡ maybe.some slot → slot ≡ None → ⊥
  ends_full id v ws xs idle numbered covers f slot at is =
      let h = closes id v ws xs idle numbered covers f in
      none_apart h.0 (maybe.some-injective (Some h.0) slot (sym h.1 ∙ at) ∙ is)

  pub after_learn : (st : Step (Option X)) (r : ℕ) (m m' : Me (Option X) (View E)) (v u : View E) (c : List (ℕ × Option X)) → m ≡ (joined v u, c) → v.stage ≡ Idle → learned journal label by st m r m'
      → (m' ≡ (with_seen (longer v.part.seen u.part.seen) (u.part ∷ u.olds ++ v.olds) v, c)) × KnowsBoth journal label by v.part.seen u.part.seen m'.0.part
  after_learn st r m m' v u c e idle f = subst (λ (z : Me (Option X) (View E)). learned journal label by st z r m' → (m' ≡ (with_seen (longer v.part.seen u.part.seen) (u.part ∷ u.olds ++ v.olds) v, c)) × KnowsBoth journal label by v.part.seen u.part.seen m'.0.part)
      (sym e) (λ g. g u.part (u.olds ++ v.olds) idle refl) f

  pub after_meet : (st : Step (Option X)) (r : ℕ) (m m' : Me (Option X) (View E)) (v u : View E) (c : List (ℕ × Option X)) → m ≡ (joined v u, c) → v.stage ≡ Idle → u.olds ≡ [] → met journal label by st m r m'
      → (m' ≡ (with_seen (longer v.part.seen u.part.seen) v.olds v, c)) × KnowsBoth journal label by v.part.seen u.part.seen m'.0.part
  after_meet st r m m' v u c e idle alone f = subst (λ (z : Me (Option X) (View E)). met journal label by st z r m' → (m' ≡ (with_seen (longer v.part.seen u.part.seen) v.olds v, c)) × KnowsBoth journal label by v.part.seen u.part.seen m'.0.part)
      (sym e) (λ g. g u.part v.olds idle (ap (λ (l : List (Part E)). u.part ∷ l ++ v.olds) alone)) f
