-- Laws for callers: what calls at one cell leave of what was seen at the others, and seats of which nothing was seen.
use Rattle.std.proofs.Common.{◌≡◌, ◌≢◌, inl, inr, ℕ, zero, suc, ◌+◌, ◌<◌, false, List, [], ◌∷◌, ◌++◌, length, get_or, set, refl, ap, ◌∙◌, subst, arith}
use mathlib.Core.Logic.{dite}
use native.Mathlib.Decide.{ℕ_discrete}
use Rattle.monitor_model.specs.declared.record.CellEvent.{CellEvent}
use Rattle.turn_lock.specs.Rows.{AllNone}
use Rattle.turn_lock.proofs.Reversed.{push_length}
use Rattle.site_cells.specs.Row.{CellsSeen, OnlyAt, IsNew, AreNew, seen_at, link_at}
use Rattle.site_cells.specs.Closing.{HasNumber}

set_length : {A : Type 0} (xs : List A) (i : ℕ) (x : A) → length (set xs i x) ≡ length xs
set_length [] i x = refl
set_length (y ∷ xs) zero x = refl
set_length (y ∷ xs) (suc i) x = ap suc (set_length xs i x)

get_else : {A : Type 0} (xs : List A) (i j : ℕ) (x d : A) → j ≢ i → get_or (set xs i x) j d ≡ get_or xs j d
get_else [] i j x d ne = refl
get_else (y ∷ xs) zero zero x d ne = absurd (ne refl)
get_else (y ∷ xs) zero (suc j) x d ne = refl
get_else (y ∷ xs) (suc i) zero x d ne = refl
get_else (y ∷ xs) (suc i) (suc j) x d ne = get_else xs i j x d (λ e. ne (ap suc e))

pub only_number : (s : ℕ) (a b : CellsSeen) → OnlyAt s a b → b.number ≡ a.number
only_number s a b h = ap (λ (x : CellsSeen). x.number) h

pub only_length : (s : ℕ) (a b : CellsSeen) → OnlyAt s a b → length b.cells ≡ length a.cells
only_length s a b h = ap (λ (x : CellsSeen). length x.cells) h ∙ set_length a.cells s (seen_at b s)

pub only_else : (s r : ℕ) (a b : CellsSeen) → r ≢ s → OnlyAt s a b → seen_at b r ≡ seen_at a r
only_else s r a b ne h = ap (λ (x : CellsSeen). seen_at x r) h ∙ get_else a.cells s r (seen_at b s) [] ne

pub link_else : (s r : ℕ) (a b : CellsSeen) → r ≢ s → OnlyAt s a b → link_at b r ≡ link_at a r
link_else s r a b ne h = ap (λ (x : CellsSeen). link_at x r) h ∙ get_else a.links s r (link_at b s) false ne

none_at : (Js : List (List CellEvent)) (s : ℕ) → AllNone Js → get_or Js s [] ≡ []
none_at [] s h = refl
none_at (J ∷ Js) zero h = h.0
none_at (J ∷ Js) (suc s) h = none_at Js s h.1

pub new_at : (cells n s : ℕ) (a : CellsSeen) → IsNew cells n a → seen_at a s ≡ []
new_at cells n s a h = none_at a.cells s h.none

pub new_pop : (cells last : ℕ) (as' : List CellsSeen) (a : CellsSeen) → AreNew cells last (as' ++ a ∷ []) → AreNew cells (suc last) as' × IsNew cells last a
new_pop cells last [] a h = (tt, subst (λ n. IsNew cells n a) (let q : 0 + last ≡ last = omega arith in q) h.0)
new_pop cells last (x ∷ as') a h =
    let r = new_pop cells last as' a h.1 in
    let m = push_length as' a in
    let e : length (as' ++ a ∷ []) + last ≡ length as' + suc last = omega arith in
    ((subst (λ n. IsNew cells n x) e h.0, r.0), r.1)
