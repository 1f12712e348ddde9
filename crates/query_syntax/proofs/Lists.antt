-- Reading items one after the other, as a loop does.
use Rattle.std.proofs.Common.{◌≡◌, ℕ, suc, zero, ◌-◌, ◌+◌, ◌≤◌, ◌<◌, true, false, List, [], ◌∷◌, ◌++◌, Result, Ok, Err, refl, sym, ap, ◌∙◌, append_assoc, arith, length}
use Rattle.std.proofs.lemmas.List.{append-nil}
use Rattle.query_syntax.specs.declared.error.Refusal.{Refusal}
use Rattle.query_syntax.specs.declared.error.CompileError.{CompileError}
use Rattle.query_syntax.specs.declared.error.CompileError.TheVariants as errors
use Rattle.query_syntax.specs.declared.token.Fixed.{Fixed}
use Rattle.query_syntax.specs.declared.token.Placed.{Placed}
use Rattle.query_syntax.specs.Answers.{Fails}
use Rattle.query_syntax.specs.Grammar.{Reader, begins, rest_of, with_front, more_at, items_at}

regroup : {A : Type 0} (front : List A) (a : A) (read : Result (List A × List Placed) Refusal) → with_front front (with_front (a ∷ []) read) ≡ with_front (front ++ a ∷ []) read
regroup {A} front a (Ok x) = ap (λ (xs : List A). Ok (xs, x.1)) (simp append_assoc)
regroup front a (Err f) = refl

pub goes_on : {A : Type 0} (s : Fixed) (item : Reader A) (front : List A) (most i : ℕ) (tokens : List Placed) (a : A) (after : List Placed) (total : Result (List A × List Placed) Refusal)
    → i < most → begins s tokens ≡ true → item (rest_of tokens) ≡ Ok (a, after)
    → with_front front (more_at s item (most - i) tokens) ≡ total → with_front (front ++ a ∷ []) (more_at s item (most - (i + 1)) after) ≡ total
unfolding more_at
goes_on s item front most i tokens a after total lt test h so_far =
    let k : most - i ≡ suc (most - (i + 1)) = omega arith in
    let one : with_front front (more_at s item (most - i) tokens) ≡ with_front (front ++ a ∷ []) (more_at s item (most - (i + 1)) after) = rw (k, test, h) (regroup front a (more_at s item (most - (i + 1)) after)) in
    sym one ∙ so_far

pub fails : {A : Type 0} (e : CompileError) (s : Fixed) (item : Reader A) (front : List A) (most i : ℕ) (tokens : List Placed) (total : Result (List A × List Placed) Refusal)
    → i < most → begins s tokens ≡ true → Fails e (item (rest_of tokens))
    → with_front front (more_at s item (most - i) tokens) ≡ total → Fails e total
unfolding more_at
fails errors.NoMemory s item front most i tokens total lt test h so_far = tt
fails (errors.TextRefused f) s item front most i tokens total lt test h so_far =
    let k : most - i ≡ suc (most - (i + 1)) = omega arith in
    let one : with_front front (more_at s item (most - i) tokens) ≡ Err f = rw (k, test, h) refl in
    sym so_far ∙ one

stops : {A : Type 0} (s : Fixed) (item : Reader A) (n : ℕ) (tokens : List Placed) → begins s tokens ≡ false → more_at s item n tokens ≡ Ok ([], tokens)
unfolding more_at
stops s item zero tokens h = refl
stops s item (suc n) tokens h = rw h refl

pub ends : {A : Type 0} (s : Fixed) (item : Reader A) (front : List A) (n : ℕ) (tokens : List Placed) (total : Result (List A × List Placed) Refusal)
    → begins s tokens ≡ false → with_front front (more_at s item n tokens) ≡ total → total ≡ Ok (front, tokens)
ends {A} s item front n tokens total h so_far =
    sym so_far ∙ ap (with_front front) (stops s item n tokens h) ∙ ap (λ (xs : List A). Ok (xs, tokens)) (append-nil front)

pub is_done : {A : Type 0} (s : Fixed) (item : Reader A) (front : List A) (most i : ℕ) (tokens : List Placed) (total : Result (List A × List Placed) Refusal)
    → most ≤ i → with_front front (more_at s item (most - i) tokens) ≡ total → total ≡ Ok (front, tokens)
unfolding more_at
is_done {A} s item front most i tokens total le so_far =
    let k : most - i ≡ 0 = omega arith in
    let one : with_front front (more_at s item (most - i) tokens) ≡ Ok (front, tokens) = rw k (ap (λ (xs : List A). Ok (xs, tokens)) (append-nil front)) in
    sym so_far ∙ one

pub begins_list : {A : Type 0} (s : Fixed) (item : Reader A) (tokens : List Placed) (a : A) (rest : List Placed) → item tokens ≡ Ok (a, rest)
    → with_front (a ∷ []) (more_at s item (length rest - 0) rest) ≡ items_at s item tokens
begins_list s item tokens a rest h =
    let k : length rest - 0 ≡ length rest = omega arith in
    rw (k, h) refl
