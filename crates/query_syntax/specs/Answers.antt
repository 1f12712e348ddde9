-- What functions that may lack memory answer.
use Rattle.std.specs.Prelude.{◌≡◌, Result, Ok, Err}
use Rattle.query_syntax.specs.declared.error.Refusal.{Refusal}
use Rattle.query_syntax.specs.declared.error.CompileError.{CompileError}
use Rattle.query_syntax.specs.declared.error.CompileError.TheVariants.{TextRefused, NoMemory}

infixl 10 ◌>>=◌
-- One step after another, up to the first refusal.
abbrev pub ◌>>=◌ : {A B : Type 0} → Result A Refusal → (A → Result B Refusal) → Result B Refusal
(Ok x) >>= f = f x
(Err e) >>= f = Err e

-- A failed call promises nothing where memory was wanting; otherwise the refusal is what is expected.
abbrev pub Fails : {Y : Type 0} → CompileError → Result Y Refusal → Type 0
Fails NoMemory expected = Unit {0}
Fails (TextRefused refusal) expected = expected ≡ Err refusal

-- What a function returned, seen by view, is what is expected, unless memory ran out.
abbrev pub Gives : {X Y : Type 0} → (X → Y) → Result X CompileError → Result Y Refusal → Type 0
Gives view (Ok x) expected = expected ≡ Ok (view x)
Gives view (Err e) expected = Fails e expected
