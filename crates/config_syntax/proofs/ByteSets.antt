-- What a set of byte strings knows after a change.
use Rattle.std.proofs.Common.{◌≡◌, ℕ, Bool, true, false, cond, List, sym, subst, ◌∙◌, ⊎_elim}
use Rattle.std.specs.Prelude.{Vec, nat_eq}
use Rattle.std.specs.HashSet.{HashSet, UpdatesBy}
use Rattle.std.specs.Cmp.Lexicographic.{pointwise, bytes_decides}
use Rattle.std.proofs.lemmas.Cmp.{nat_list_eq_equiv}
use Rattle.std.specs.List.{list_any}
use Rattle.std.specs.Map.{IsKeyTest, AreApart}
use Rattle.std.specs.Set.{KeepsOthers}
use Rattle.std.proofs.lemmas.Bool.{cases_Bool, cond-true, cond-false}
use Rattle.okws_base.specs.Value.{same_bytes}
use Rattle.config_syntax.specs.ByteSets.{knows}

apart : (bs cs ks : List ℕ) → same_bytes bs cs ≡ false → same_bytes bs ks ≡ true → same_bytes cs ks ≡ false
apart bs cs ks n y = nat_list_eq_equiv.symm cs ks ∙ sym (nat_list_eq_equiv.congr bs ks cs y) ∙ n

other_keys : {K : Type 0} (eq : K → K → Bool) (test : K → Bool) (old new : List K) → KeepsOthers eq test old new → (other : K → Bool) → IsKeyTest eq other → AreApart test other → list_any other new ≡ list_any other old
unfolding KeepsOthers
other_keys eq test old new h = h

-- g is w at bs, and f at other bytes
by_bytes : (f g : List ℕ → Bool) (bs : List ℕ) (w : Bool) → g bs ≡ w → ((cs : List ℕ) → same_bytes bs cs ≡ false → g cs ≡ f cs) → (cs : List ℕ) → g cs ≡ cond (same_bytes bs cs) w (f cs)
by_bytes f g bs w here other cs =
    ⊎_elim
    (λ y. subst (λ l. g l ≡ w) ((bytes_decides bs cs).0 y) here ∙ sym (cond-true (same_bytes bs cs) w (f cs) y))
    (λ n. other cs n ∙ sym (cond-false (same_bytes bs cs) w (f cs) n))
    (cases_Bool (same_bytes bs cs))

-- a set into which bytes were put knows them and what it knew
pub put_bytes : {Z S : Type 0} (bs : List ℕ) (s n : HashSet (Vec ℕ Z) S) → UpdatesBy (λ (x y : Vec ℕ Z). pointwise nat_eq x.items y.items) (λ (k : Vec ℕ Z). pointwise nat_eq bs k.items) s n true
    → (cs : List ℕ) → knows n cs ≡ cond (same_bytes bs cs) true (knows s cs)
put_bytes bs s n h = by_bytes (knows s) (knows n) bs true h.1 (λ cs e. other_keys _ _ _ _ h.3 _ (λ x y. nat_list_eq_equiv.congr cs x.items y.items) (λ k. apart bs cs k.items e))
