use Rattle.std.proofs.Common.{◌≡◌, ◌∙◌, ℕ, zero, suc, ◌==◌, ◌<◌, Bool, true, false, List, [], Option, None, refl, sym, ap, subst, arith, OnOk}
use Rattle.std.specs.Prelude.{Result, Ok, Err}
use Rattle.std.specs.declared.alloc.AllocError.{AllocError}
use Rattle.okws_plan.specs.declared.script.Line.{Line}
use Rattle.okws_outer.specs.Printing.{Printer, PrintsAs}
use Rattle.okws_outer.proofs.Printed.{nothing_on, no_front}
use Rattle.monitor_model.specs.Stage.{Stage}
use Rattle.monitor_model.specs.Script.{Does, broken}
use Rattle.okws_play.specs.Run.{Run, at_stage}
use Rattle.okws_play.specs.Printed.{DoesAs}

-- where no rule is broken, each test fails
pub unbroken : (b : Bool) (n : ℕ) (more : Option ℕ) → broken b n more ≡ None → b ≡ false
unbroken true n more h = absurd (cc)
unbroken false n more h = refl

-- a line that prints a text
pub loud : (r : Result (Unit {0}) AllocError) (run after : Run) (line : Line) (a b : Printer) (X : Stage) (text : List ℕ) → Does run.config run.seed line run.stage text X → OnOk r (after ≡ at_stage run X) → PrintsAs r a b text → DoesAs line run a b r after
loud (Ok v) run after line a b X text does e p =
    let at : after.stage ≡ X = ap (λ v. v.stage) e in
    (text, subst (Does run.config run.seed line run.stage text) (sym at) does, e ∙ ap (at_stage run) (sym at), p)
loud (Err v) run after line a b X text does e p = (text, X, does, p)

-- a line that prints nothing
pub quiet : (r : Result (Unit {0}) AllocError) (run after : Run) (line : Line) (a : Printer) (X : Stage) → Does run.config run.seed line run.stage [] X → OnOk r (after ≡ at_stage run X) → DoesAs line run a a r after
quiet (Ok v) run after line a X does e = loud (Ok v) run after line a a X [] does e (nothing_on a)
quiet (Err v) run after line a X does e = loud (Err v) run after line a a X [] does e (no_front a [])

-- a number that isn't 0
pub positive : (n : ℕ) → (n == 0) ≡ false → 0 < n
positive zero h = absurd (cc)
positive (suc n) h = omega arith
