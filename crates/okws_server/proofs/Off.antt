-- What is answered where memory is refused.
use Rattle.std.proofs.Common.{◌≡◌, ℕ, ◌≤◌, List, length, subst, inr}
use Rattle.std.specs.Prelude.{IsErr, IfOk, Option}
use Rattle.std.specs.declared.result.Result.{Result}
use Rattle.std.specs.declared.result.Result.TheVariants.{Ok, Err}
use Rattle.std.specs.declared.alloc.AllocError.{AllocError}
use Rattle.okws_base.specs.declared.limit.TheConstants.{LONGEST_SCRIPT}
use Rattle.okws_plan.specs.declared.configuration.Config.{Config}
use Rattle.okws_outer.specs.Printing.{Printer, PrintsFront, PrintsAs}
use Rattle.okws_play.specs.Run.{Run}
use Rattle.okws_server.specs.Headline.{IsDueOf}
use Rattle.okws_server.specs.Ran.{zero_seed, PlaysText}
use Rattle.okws_server.specs.Script.{IsDue, PlayedLines}
use Rattle.okws_server.specs.declared.script.Broken.{Broken}
use Rattle.okws_server.specs.declared.script_run.Outcome.{Outcome}

-- a front of what is due was printed
pub fails_print : {V E : Type 0} (r : Result V E) (a b : Printer) (due : List ℕ) → IsErr r → PrintsFront a b due → PrintsAs r a b due
fails_print (Ok v) a b due e h = absurd (cc)
fails_print (Err v) a b due e h = h

-- the same of the lines of a script
pub fails_lines : (run now : Run) (text : List ℕ) (a b : Printer) (r : Result (Option Broken) AllocError) → IsErr r →
    ((due : List ℕ) × IsDue run.config run.seed text due × PrintsFront a b due) → PlayedLines run text a b r now
fails_lines run now text a b (Ok found) e h = absurd (cc)
fails_lines run now text a b (Err v) e h = h

-- and of a script
pub fails_text : (C : Config) (text : List ℕ) (a b : Printer) (r : Result Outcome AllocError) → IsErr r →
    ((due : List ℕ) × IsDueOf C zero_seed text due × PrintsFront a b due) → PlaysText C text a b r
fails_text C text a b (Ok outcome) e h = absurd (cc)
fails_text C text a b (Err v) e h = h

-- what is due of the lines of a script that fits is due of the script
pub due_here : (C : Config) (seed text : List ℕ) (run : Run) (a b : Printer) → run.config ≡ C → run.seed ≡ seed → length text ≤ LONGEST_SCRIPT →
    ((due : List ℕ) × IsDue run.config run.seed text due × PrintsFront a b due) → (due : List ℕ) × IsDueOf C seed text due × PrintsFront a b due
due_here C seed text run a b config_is seed_is fits h =
    (h.0, inr (fits, subst (λ (D : Config). IsDue D seed text h.0) config_is (subst (λ (x : List ℕ). IsDue run.config x text h.0) seed_is h.1)), h.2)

-- what is said of a value holds where there is none
pub fails_any : {V E : Type 0} (r : Result V E) (P : V → Type 0) → IsErr r → IfOk r P
fails_any (Ok v) P e = absurd (cc)
fails_any (Err v) P e = tt
