-- How the parts of a template are put one after another.
use Rattle.std.proofs.Common.{◌≡◌, ℕ, ◌+◌, ◌≤◌, List, [], ◌∷◌, ◌++◌, length, Some, None, ◌-◌, take, drop, arith, refl, sym, ap, ◌∙◌, subst, append_assoc}
use Rattle.std.specs.Prelude.{Option, Result, Ok, Err, IsErrAnd, MatchOption, option_map}
use Rattle.std.specs.Borrow.{Bor}
use Rattle.std.proofs.lemmas.Grind.{common_steps}
use Rattle.std.proofs.lemmas.List.{append-nil}
use Rattle.svc_kit.specs.Bounded.{Holds}
use Rattle.svc_kit.specs.Templates.{Part, Text, place, closed, opened, begun, all_begun, parts_of, cut, parts}
use Rattle.std.specs.List.{slice_split}
use Rattle.plain_text.specs.Parts.{is_byte}
use Rattle.std.proofs.lemmas.Grind.{flat_map-append}
use Rattle.svc_kit.specs.Filled.{first_refusal, meaning, meanings, or_later, refusal, IsPut}
use Rattle.svc_kit.specs.declared.fill.FillRule.{FillRule}
use Rattle.svc_kit.specs.declared.fill.FillError.{FillError}
use Rattle.svc_kit.specs.declared.fill.FillError.TheVariants.{Refused, NoMemory}
use Rattle.svc_kit.specs.declared.bounded.Bounded.{Bounded}

-- bytes behind the last `@`, and one for the `@`
abbrev pub bytes_left : Option (List ℕ) → ℕ
bytes_left None = 0
bytes_left (Some rest) = length rest + 1

-- some parts were put, of which none is refused, and these are behind them
pub record Reached (pairs : List (List ℕ × List ℕ)) (template : List ℕ) (kept : Bounded) (before : List ℕ) (at : ℕ) (behind : Option (List ℕ)) : Type 0 where
  pub done : List Part
  pub put : Holds kept (before ++ meanings pairs done)
  pub fine : first_refusal pairs done ≡ None
  pub whole : parts template ≡ done ++ all_begun at (cut behind)

-- a part that isn't put leaves nothing to the parts behind it
err_then : (e : FillError) (first later : Option (ℕ × FillRule)) (one other : Type 0) → IsPut (Err e) first one → IsPut (Err e) (or_later first later) other
err_then (Refused at rule) first later one other h = ap (λ (r : Option (ℕ × FillRule)). or_later r later) h
err_then NoMemory first later one other h = tt

-- the same at the exit of a `?`
pub exits : (result : Result (Unit {0}) FillError) (e : FillError) (first later : Option (ℕ × FillRule)) (one other : Type 0) → IsErrAnd result (λ y. y ≡ e) → IsPut (Err e) first one
    → IsPut result (or_later first later) other
exits (Ok done) e first later one other is h = absurd is
exits (Err y) e first later one other is h = err_then y first later one other (subst (λ (e : FillError). IsPut (Err e) first one) (sym is) h)

-- what follows a place, taken to its end
to_end : (n : ℕ) (xs : List ℕ) → take (length xs - n) (drop n xs) ≡ drop n xs
to_end n xs = grind (arith, common_steps)

-- a place, and the text behind it
then_text : (pairs : List (List ℕ × List ℕ)) (kept : Bounded) (before : List ℕ) (part : Part) (text : List ℕ) → Holds kept ((before ++ meaning pairs part) ++ text) → Holds kept (before ++ meanings pairs (part ∷ Text text ∷ []))
then_text pairs kept before part text held = subst (λ (t : List ℕ). Holds kept t) (append_assoc before (meaning pairs part) text ∙ ap (λ (t : List ℕ). before ++ (meaning pairs part ++ t)) (sym (append-nil text))) held

pub closed_put : (pairs : List (List ℕ × List ℕ)) (kept : Bounded) (before rest : List ℕ) (at end : ℕ) (found : Option ℕ) → Some end ≡ found → refusal pairs (place at (take end rest)) ≡ None
    → Holds kept ((before ++ meaning pairs (place at (take end rest))) ++ take (length rest - (end + 1)) (drop (end + 1) rest))
    → (first_refusal pairs (closed at rest found) ≡ None) × Holds kept (before ++ meanings pairs (closed at rest found))
closed_put pairs kept before rest at end found is fine held =
    subst (λ (found : Option ℕ). (first_refusal pairs (closed at rest found) ≡ None) × Holds kept (before ++ meanings pairs (closed at rest found))) is (
      ap (λ (r : Option (ℕ × FillRule)). or_later r None) fine,
      then_text pairs kept before (place at (take end rest)) (drop (end + 1) rest) (subst (λ (t : List ℕ). Holds kept ((before ++ meaning pairs (place at (take end rest))) ++ t)) (to_end (end + 1) rest) held),
    )

pub closed_exits : (pairs : List (List ℕ × List ℕ)) (result : Result (Unit {0}) FillError) (e : FillError) (rest : List ℕ) (at end : ℕ) (found : Option ℕ) (one other : Type 0) → Some end ≡ found → IsErrAnd result (λ y. y ≡ e)
    → IsPut (Err e) (refusal pairs (place at (take end rest))) one → IsPut result (first_refusal pairs (closed at rest found)) other
closed_exits pairs result e rest at end found one other is failed h =
    subst (λ (found : Option ℕ). IsPut result (first_refusal pairs (closed at rest found)) other) is (exits result e (refusal pairs (place at (take end rest))) None one other failed h)

-- an `@` that no brace follows
pub itself_put : (pairs : List (List ℕ × List ℕ)) (kept : Bounded) (before piece : List ℕ) (at : ℕ) (brace : Option (List ℕ)) → None ≡ brace → Holds kept ((before ++ 64 ∷ []) ++ piece)
    → (first_refusal pairs (opened at piece brace) ≡ None) × Holds kept (before ++ meanings pairs (opened at piece brace))
itself_put pairs kept before piece at brace is held =
    subst (λ (brace : Option (List ℕ)). (first_refusal pairs (opened at piece brace) ≡ None) × Holds kept (before ++ meanings pairs (opened at piece brace))) is (
      refl,
      subst (λ (t : List ℕ). Holds kept t) (append_assoc before (64 ∷ []) piece ∙ ap (λ (t : List ℕ). before ++ (64 ∷ t)) (sym (append-nil piece))) held,
    )

-- ---- parts one after another

refusal_append : (pairs : List (List ℕ × List ℕ)) (some more : List Part) → first_refusal pairs (some ++ more) ≡ or_later (first_refusal pairs some) (first_refusal pairs more)
refusal_append pairs [] more = refl
refusal_append pairs (part ∷ some) more = ap (λ (r : Option (ℕ × FillRule)). or_later (refusal pairs part) r) (refusal_append pairs some more) ∙ later_later (refusal pairs part) (first_refusal pairs some) (first_refusal pairs more)
  where
    later_later : (a b c : Option (ℕ × FillRule)) → or_later a (or_later b c) ≡ or_later (or_later a b) c
    later_later None b c = refl
    later_later (Some r) b c = refl

behind_fine : (pairs : List (List ℕ × List ℕ)) (some more : List Part) → first_refusal pairs some ≡ None → first_refusal pairs (some ++ more) ≡ first_refusal pairs more
behind_fine pairs some more fine = refusal_append pairs some more ∙ ap (λ (r : Option (ℕ × FillRule)). or_later r (first_refusal pairs more)) fine

-- the text before the first `@`
pub reached_first : (pairs : List (List ℕ × List ℕ)) (template : List ℕ) (kept : Bounded) (before front : List ℕ) (at : ℕ) (behind : Option (List ℕ)) → slice_split (is_byte 64) template ≡ front ∷ cut behind → at ≡ length front
    → Holds kept (before ++ front) → Reached pairs template kept before at behind
reached_first pairs template kept before front at behind split is held = record {
  done = Text front ∷ [];
  put = subst (λ (t : List ℕ). Holds kept (before ++ t)) (sym (append-nil front)) held;
  fine = refl;
  whole = ap parts_of split ∙ ap (λ (n : ℕ). Text front ∷ all_begun n (cut behind)) (sym is);
}

-- what one `@` begins
pub reached_next : (pairs : List (List ℕ × List ℕ)) (template : List ℕ) (kept later : Bounded) (before rest piece : List ℕ) (at next : ℕ) (more : Option (List ℕ)) (reached : Reached pairs template kept before at (Some rest))
    → slice_split (is_byte 64) rest ≡ piece ∷ cut more → next ≡ at + 1 + length piece
    → (first_refusal pairs (begun at piece) ≡ None) × Holds later ((before ++ meanings pairs reached.done) ++ meanings pairs (begun at piece)) → Reached pairs template later before next more
reached_next pairs template kept later before rest piece at next more reached split is put = record {
  done = reached.done ++ begun at piece;
  put = subst (λ (t : List ℕ). Holds later t) (append_assoc before (meanings pairs reached.done) (meanings pairs (begun at piece)) ∙ ap (λ (t : List ℕ). before ++ t) (sym (flat_map-append (meaning pairs) reached.done (begun at piece)))) put.1;
  fine = behind_fine pairs reached.done (begun at piece) reached.fine ∙ put.0;
  whole = reached.whole ∙ ap (λ (t : List (List ℕ)). reached.done ++ all_begun at t) split ∙ ap (λ (n : ℕ). reached.done ++ (begun at piece ++ all_begun n (cut more))) (sym is) ∙ sym (append_assoc reached.done (begun at piece) (all_begun next (cut more)));
}

-- a part is refused
pub reached_exit : (pairs : List (List ℕ × List ℕ)) (template : List ℕ) (kept : Bounded) (before rest piece : List ℕ) (at : ℕ) (more : Option (List ℕ)) (result : Result (Unit {0}) FillError) (e : FillError) (one other : Type 0)
    → Reached pairs template kept before at (Some rest) → slice_split (is_byte 64) rest ≡ piece ∷ cut more → IsErrAnd result (λ y. y ≡ e) → IsPut (Err e) (first_refusal pairs (begun at piece)) one
    → IsPut result (first_refusal pairs (parts template)) other
reached_exit pairs template kept before rest piece at more result e one other reached split failed h =
    let whole : parts template ≡ reached.done ++ (begun at piece ++ all_begun (at + 1 + length piece) (cut more)) = reached.whole ∙ ap (λ (t : List (List ℕ)). reached.done ++ all_begun at t) split in
    let first : first_refusal pairs (parts template) ≡ or_later (first_refusal pairs (begun at piece)) (first_refusal pairs (all_begun (at + 1 + length piece) (cut more)))
    = ap (λ (p : List Part). first_refusal pairs p) whole ∙ behind_fine pairs reached.done _ reached.fine ∙ refusal_append pairs (begun at piece) (all_begun (at + 1 + length piece) (cut more)) in
    subst (λ (r : Option (ℕ × FillRule)). IsPut result r other) (sym first) (exits result e _ _ one other failed h)

-- ---- where each part stands

pub bound_first : (behind : Option (Bor (List ℕ))) (front whole : ℕ) → MatchOption behind (front ≡ whole) (λ rest. front + 1 + length rest.now ≡ whole)
    → MatchOption (option_map (λ (rest : Bor (List ℕ)). rest.now) behind) (Unit {0}) (λ rest. front + 1 + length rest ≤ whole)
bound_first None front whole h = tt
bound_first (Some rest) front whole h = omega (arith, h)

pub bound_next : (more : Option (Bor (List ℕ))) (at piece rest whole : ℕ) → at + 1 + rest ≤ whole → MatchOption more (piece ≡ rest) (λ r. piece + 1 + length r.now ≡ rest)
    → MatchOption (option_map (λ (r : Bor (List ℕ)). r.now) more) (Unit {0}) (λ r. at + (1 + piece) + 1 + length r ≤ whole)
bound_next None at piece rest whole below h = tt
bound_next (Some r) at piece rest whole below h = omega (arith, below, h)
