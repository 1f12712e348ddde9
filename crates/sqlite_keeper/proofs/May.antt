-- What is answered of what the database told is what the action may answer.
use Rattle.std.proofs.Common.{◌≡◌, ℕ, List, Bool, true, false, Option, None, Some, Result, Ok, Err, refl, rules}
use Rattle.std.specs.Prelude.{IfOk, IsSome, is_some}
use Rattle.sqlite.specs.declared.error.Error.{Error}
use Rattle.okws_plan.specs.declared.configuration.Column.{Column}
use Rattle.okws_plan.specs.declared.statement.Action.{Action}
use Rattle.okws_plan.specs.declared.statement.Action.TheVariants.{Select, Insert, Update, Delete}
use Rattle.okws_plan.specs.declared.statement.Answer.{Answer}
use Rattle.okws_plan.specs.declared.statement.Answer.TheVariants.{Duplicate}
use Rattle.okws_plan.specs.declared.statement.Operand.{Operand}
use Rattle.okws_plan.specs.Meaning.{key_place}
use Rattle.okws_outer.specs.declared.keeper.RunError.{RunError}
use Rattle.okws_outer.specs.Keeping.{MayAnswer, is_select}
use Rattle.sqlite_keeper.specs.Asking.{answer_to, insert_answer, count_answer, tells_taken, reason}
use Rattle.std.specs.Prelude.{if◌then◌else◌, ◌&&◌}

taken_may : (P : Answer → Type 0) (taken : Bool) (why : RunError) → P Duplicate → IfOk (if taken then Ok Duplicate else Err why) P
taken_may P true why h = h
taken_may P false why h = tt

keyed_may : (P : Answer → Type 0) (key : Option ℕ) (e : Error) → (IsSome key → P Duplicate) → IfOk (insert_answer (is_some key) (Err e)) P
keyed_may P None e h = tt
keyed_may P (Some k) e h = taken_may P (tells_taken e) (reason e) (h (search rules))

insert_may : (columns : List Column) (values : List Operand) (told : Result ℕ Error) → IfOk (insert_answer (is_some (key_place columns)) told) (MayAnswer columns (Insert values))
insert_may columns values (Ok n) = refl
insert_may columns values (Err e) = keyed_may (MayAnswer columns (Insert values)) (key_place columns) e (λ some. some)

pub may : (columns : List Column) (action : Action) (told : Result ℕ Error) → is_select action ≡ false → IfOk (answer_to columns action told) (MayAnswer columns action)
may columns (Select s) told writes = tt
may columns (Insert values) told writes = insert_may columns values told
may columns (Update assignments conditions) (Ok n) writes = tt
may columns (Update assignments conditions) (Err e) writes = tt
may columns (Delete conditions) (Ok n) writes = tt
may columns (Delete conditions) (Err e) writes = tt
