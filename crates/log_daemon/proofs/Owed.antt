use Rattle.std.proofs.Common.{◌≡◌, ◌∙◌, ℕ, List, [], ◌++◌, take, drop, Bool, true, false, refl, ap, append_assoc, append-nil, None, Some, IfSome}
use Rattle.std.proofs.lemmas.List.{take-append-drop}
use Rattle.std.specs.Io.KnownBytes.{Appends}
use Rattle.std.specs.declared.option.Option.{Option}
use Rattle.log_daemon.specs.Seen.{IsFront}
use Rattle.log_daemon.specs.Tied.{Owes}

none_some : {t : List ℕ} → Some t ≡ None → ⊥
none_some e = cc

-- Where all that was due was put, all of the text was given.
pub whole_given : (old new : Option (List ℕ)) (due sent text : List ℕ) (stopped : Bool) → stopped ≡ false → sent ≡ due → (old ≡ None → new ≡ None) → IfSome old (λ given. Owes stopped given due text) → Appends old new sent → IfSome new (λ given. given ≡ text)
whole_given old new due sent text true running same untold owes put = cc
whole_given None None due sent text false running same untold owes put = owes
whole_given None (Some now) due sent text false running same untold owes put = absurd (none_some (untold refl))
whole_given (Some was) None due sent text false running same untold owes put = absurd put
whole_given (Some was) (Some now) due sent text false running same untold owes put = put ∙ ap (λ (rest : List ℕ). was ++ rest) same ∙ owes

-- Where all of the text was given, nothing is due.
pub owes_nothing : (given : Option (List ℕ)) (due text : List ℕ) (stopped : Bool) → stopped ≡ false → due ≡ [] → IfSome given (λ given. given ≡ text) → IfSome given (λ given. Owes stopped given due text)
owes_nothing given due text true running none whole = cc
owes_nothing None due text false running none whole = whole
owes_nothing (Some given) due text false running none whole = ap (λ (rest : List ℕ). given ++ rest) none ∙ append-nil given ∙ whole

-- The whole text is a front of itself.
pub whole_is_front : (given : Option (List ℕ)) (text : List ℕ) → IfSome given (λ given. given ≡ text) → IfSome given (λ given. IsFront given text)
whole_is_front None text whole = whole
whole_is_front (Some given) text whole = ([], append-nil given ∙ whole)

-- Where a part of what was due was put, a front of the text was given.
pub front_given : (old new : Option (List ℕ)) (due sent text : List ℕ) (n : ℕ) (stopped : Bool) → stopped ≡ false → sent ≡ due → (old ≡ None → new ≡ None) → IfSome old (λ given. Owes stopped given due text) → Appends old new (take n sent) → IfSome new (λ given. IsFront given text)
front_given old new due sent text n true running same untold owes put = cc
front_given None None due sent text n false running same untold owes put = owes
front_given None (Some now) due sent text n false running same untold owes put = absurd (none_some (untold refl))
front_given (Some was) None due sent text n false running same untold owes put = absurd put
front_given (Some was) (Some now) due sent text n false running same untold owes put = (
  drop n sent,
  ap (λ (front : List ℕ). front ++ drop n sent) put ∙ append_assoc was (take n sent) (drop n sent) ∙ ap (λ (rest : List ℕ). was ++ rest) (take-append-drop n sent ∙ same) ∙ owes,
)
