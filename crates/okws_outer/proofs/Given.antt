-- How puts follow on one another.
use Rattle.std.proofs.Common.{◌≡◌, ◌≤◌, ◌<◌, ℕ, ◌+◌, List, ◌∷◌, ◌++◌, length, take, arith, ap, get_or, drop, flat_map, suc, sym, take-append-drop}
use Rattle.std.proofs.lemmas.List.{take-append-le, take_at}
use Rattle.std.proofs.Math.Seq.{take-append-add, take-length, drop-drop, split_at}
use Rattle.std.proofs.lemmas.Grind.{common_steps, flat_map-append}
use Rattle.std.proofs.lemmas.List.Concat.{flat_map-cons}
use Rattle.std.proofs.KnownBytes.{Appends-trans}
use Rattle.std.specs.Io.KnownBytes.{Appends}
use Rattle.std.specs.declared.option.Option.{Option}
use Rattle.okws_outer.specs.Streams.{AppendsPrefix}

-- what is whole is a prefix of itself
pub whole_is_part : (a b : Option (List ℕ)) (due : List ℕ) → Appends a b due → AppendsPrefix a b due
whole_is_part a b due h = record { taken = length due; within = omega arith; given = rw (take-length due) h }

-- a prefix of a part is a prefix of the whole, whatever was due after it
pub prefix_of_part : (a b : Option (List ℕ)) (x y : List ℕ) → AppendsPrefix a b x → AppendsPrefix a b (x ++ y)
prefix_of_part a b x y p = record {
  taken = p.taken;
  within = grind (arith, common_steps, p.within);
  given = rw (take-append-le p.taken x y p.within) p.given;
}

-- what was given, and then a prefix
pub prefix_after : (a b c : Option (List ℕ)) (x y : List ℕ) → Appends a b x → AppendsPrefix b c y → AppendsPrefix a c (x ++ y)
prefix_after a b c x y h p = record {
  taken = length x + p.taken;
  within = grind (arith, common_steps, p.within);
  given = rw (take-append-add x y p.taken) (Appends-trans a b c x (take p.taken y) h p.given);
}

-- a list of pieces, cut before and after the piece at i
pub pieces_at : {X : Type 0} (f : X → List ℕ) (xs : List X) (i : ℕ) (d : X) (z : List ℕ) → i < length xs →
    flat_map f xs ++ z ≡ flat_map f (take i xs) ++ f (get_or xs i d) ++ (flat_map f (drop (suc i) xs) ++ z)
pieces_at f xs i d z lt =
    let cut : flat_map f xs ≡ flat_map f (take i xs ++ get_or xs i d ∷ drop (suc i) xs) = ap (flat_map f) (split_at xs i d lt) in
    rw cut (rw (flat_map-append f (take i xs) (get_or xs i d ∷ drop (suc i) xs)) (rw (flat_map-cons f (get_or xs i d) (drop (suc i) xs)) (grind (arith, common_steps))))

-- what was copied from a place of a list, before what was not overwritten, is what was left from there on
pub moved : (xs front rest : List ℕ) (at n : ℕ) → n + at ≤ length xs → front ≡ take n (drop at xs) → drop at xs ≡ take n (front ++ rest) ++ drop (at + n) xs
moved xs front rest at n le e =
    let whole : take n (drop at xs) ++ drop n (drop at xs) ≡ drop at xs = take-append-drop n (drop at xs) in
    let long : length front ≡ n = grind (arith, common_steps) in
    let first : take n (front ++ rest) ≡ front = take_at front rest n long in
    rw first (rw e (rw (sym (drop-drop n at xs)) (sym whole)))
