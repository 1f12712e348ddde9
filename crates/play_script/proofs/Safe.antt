-- Lines that break no rule where those before them lead.
use Rattle.std.proofs.Common.{◌≡◌, ◌∙◌, ℕ, List, [], ◌∷◌, ◌++◌, reverse, sym, ap, subst, append_assoc, None}
use Rattle.std.proofs.lemmas.List.{reverse-append, reverse-reverse}
use Rattle.okws_base.specs.Runs.{Runs}
use Rattle.okws_plan.specs.declared.configuration.Config.{Config}
use Rattle.okws_plan.specs.declared.script.Line.{Line}
use Rattle.monitor_model.specs.Script.{Does, Plays, refusal}
use Rattle.monitor_model.specs.Stage.{Stage}

-- Each of the lines breaks no rule where those before it lead, and the last one leads to such a state.
abbrev pub Safe : Config → List ℕ → Stage → List Line → (Stage → Type 0) → Type 0
Safe C seed S [] P = P S
Safe C seed S (l ∷ more) P = (refusal l S ≡ None) × ((text : List ℕ) (now : Stage) → Does C seed l S text now → Safe C seed now more P)

-- lines behind lines
pub safe_then : (C : Config) (seed : List ℕ) (S : Stage) (a b : List Line) (P Q : Stage → Type 0) → Safe C seed S a P → ((T : Stage) → P T → Safe C seed T b Q)
    → Safe C seed S (a ++ b) Q
safe_then C seed S [] b P Q h k = k S h
safe_then C seed S (l ∷ more) b P Q h k = (h.0, λ text now does. safe_then C seed now more b P Q (h.1 text now does) k)

-- what follows from where lines lead
pub safe_more : (C : Config) (seed : List ℕ) (S : Stage) (lines : List Line) (P Q : Stage → Type 0) → ((T : Stage) → P T → Q T) → Safe C seed S lines P → Safe C seed S lines Q
safe_more C seed S [] P Q then h = then S h
safe_more C seed S (l ∷ more) P Q then h = (h.0, λ text now does. safe_more C seed now more P Q then (h.1 text now does))

-- a line moves from those that were played to those behind
moved : (l : Line) (past more : List Line) → reverse (l ∷ past) ++ more ≡ reverse past ++ l ∷ more
moved l past more =
    let turned : reverse (l ∷ past) ≡ reverse past ++ l ∷ [] = reverse-append (l ∷ []) past in
    ap (λ (lines : List Line). lines ++ more) turned ∙ append_assoc (reverse past) (l ∷ []) more

-- where lines have led, the newest first, those behind them are safe
safe_along : (C : Config) (seed : List ℕ) (first : Stage) (past more : List Line) (P : Stage → Type 0) (printed : List ℕ) (S : Stage) → Safe C seed first (reverse past ++ more) P
    → Runs (Plays C seed) first past printed S → Safe C seed S more P
safe_along C seed first [] more P printed S h run = subst (λ (T : Stage). Safe C seed T more P) (sym run.1) h
safe_along C seed first (l ∷ past) more P printed S h run =
    let there : Safe C seed run.0 (l ∷ more) P
    = safe_along C seed first past (l ∷ more) P run.1 run.0 (subst (λ (lines : List Line). Safe C seed first lines P) (moved l past more) h) run.3 in
    there.1 run.2 S run.4.1

-- a line of those that are safe
pub safe_at : (C : Config) (seed : List ℕ) (first : Stage) (front rest : List Line) (line : Line) (P : Stage → Type 0) (printed : List ℕ) (S : Stage)
    → Safe C seed first (front ++ line ∷ rest) P → Runs (Plays C seed) first (reverse front) printed S → refusal line S ≡ None
safe_at C seed first front rest line P printed S h run =
    (safe_along C seed first (reverse front) (line ∷ rest) P printed S
    (subst (λ (lines : List Line). Safe C seed first (lines ++ line ∷ rest) P) (sym (reverse-reverse front)) h) run).0
