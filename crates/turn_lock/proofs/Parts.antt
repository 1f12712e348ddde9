-- The parts that a join keeps.
use Rattle.std.proofs.Common.{◌≡◌, ◌⊎◌, inl, inr, ℕ, List, [], ◌∷◌, ◌++◌, sym, ap, ◌∙◌, subst, append_assoc}
use Rattle.turn_lock.specs.declared.rule.View.{View}
use Rattle.turn_lock.specs.declared.rule.Part.{Part}
use Rattle.turn_lock.specs.Tickets.{StartsWith, with_seen, parts_of, HasNumber, AllTold}

module _ {E : Type 0} (by : E → ℕ) where
  pub told-split : (log : List E) (ps qs : List (Part E)) → AllTold by log (ps ++ qs) → AllTold by log ps × AllTold by log qs
  told-split log [] qs t = (tt, t)
  told-split log (p ∷ ps) qs t = let r = told-split log ps qs t.2 in ((t.0, t.1, r.0), r.1)

  pub starts_trans : (xs ys zs : List E) → StartsWith zs ys → StartsWith ys xs → StartsWith zs xs
  starts_trans xs ys zs a b = (b.0 ++ a.0, a.1 ∙ ap (λ l. l ++ a.0) b.1 ∙ append_assoc xs b.0 a.0)

  pub told_joined : (log seen : List E) (v u : View E) → StartsWith seen v.part.seen → AllTold by log (parts_of (with_seen seen (u.part ∷ u.olds ++ v.olds) v)) → AllTold by log (parts_of v) × AllTold by log (parts_of u)
  told_joined log seen v u begins t =
      let r = told-split log u.olds v.olds t.2.2 in
      ((starts_trans v.part.seen seen log t.0 begins, t.1, r.1), (t.2.0, t.2.1, r.0))

module _ {E : Type 0} where
  pub has-left : (k : ℕ) (ps qs : List (Part E)) → HasNumber k ps → HasNumber k (ps ++ qs)
  has-left k [] qs h = absurd h
  has-left k (p ∷ ps) qs (inl e) = inl e
  has-left k (p ∷ ps) qs (inr h) = inr (has-left k ps qs h)

  pub has-right : (k : ℕ) (ps qs : List (Part E)) → HasNumber k qs → HasNumber k (ps ++ qs)
  has-right k [] qs h = h
  has-right k (p ∷ ps) qs h = inr (has-right k ps qs h)

  pub has_joined : (k : ℕ) (seen : List E) (v u : View E) → HasNumber k (parts_of v) ⊎ HasNumber k (parts_of u) → HasNumber k (parts_of (with_seen seen (u.part ∷ u.olds ++ v.olds) v))
  has_joined k seen v u (inl (inl e)) = inl e
  has_joined k seen v u (inl (inr h)) = inr (inr (has-right k u.olds v.olds h))
  has_joined k seen v u (inr (inl e)) = inr (inl e)
  has_joined k seen v u (inr (inr h)) = inr (inr (has-left k u.olds v.olds h))

module _ {E : Type 0} where
  pub joined_told : (by : E → ℕ) (log seen : List E) (w v u : View E) → w ≡ with_seen seen (u.part ∷ u.olds ++ v.olds) v → StartsWith w.part.seen v.part.seen → AllTold by log (parts_of w) → AllTold by log (parts_of v) × AllTold by log (parts_of u)
  joined_told by log seen w v u e begins t = told_joined by log seen v u (subst (λ (z : View E). StartsWith z.part.seen v.part.seen) e begins) (subst (λ (z : View E). AllTold by log (parts_of z)) e t)

  pub joined_has : (k : ℕ) (seen : List E) (w v u : View E) → w ≡ with_seen seen (u.part ∷ u.olds ++ v.olds) v → HasNumber k (parts_of v) ⊎ HasNumber k (parts_of u) → HasNumber k (parts_of w)
  joined_has k seen w v u e h = subst (λ (z : View E). HasNumber k (parts_of z)) (sym e) (has_joined k seen v u h)
