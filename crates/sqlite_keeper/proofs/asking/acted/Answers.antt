use Rattle.std.proofs.Common.{◌≡◌, ◌⊎◌, ◌++◌, ℕ, length, List, Err, sym, subst, rules}
use Rattle.sqlite.specs.Store.{Ghosts}
use Rattle.sqlite.specs.Held.{Held}
use Rattle.okws_base.specs.declared.value.Value.{Value}
use Rattle.okws_plan.specs.declared.configuration.Column.{Column}
use Rattle.okws_plan.specs.declared.statement.Selection.{Selection}
use Rattle.okws_plan.specs.declared.statement.Action.{Action}
use Rattle.okws_plan.specs.declared.statement.Action.TheVariants.{Select}
use Rattle.okws_outer.specs.declared.keeper.RunError.{RunError}
use Rattle.sqlite_keeper.specs.Texts.{sql_of}
use Rattle.sqlite_keeper.specs.Values.{values_of, kinds_of}
use Rattle.sqlite_keeper.specs.Asking.{IsUnasked, IsUnlisted, ActsAs}
use Rattle.sqlite_keeper.proofs.asking.acted.Goals as goal

abbrev HasNone : {S : Type 0} → Ghosts S → List Column → List Column → ℕ → List ℕ → List Value → Held S → Held S → RunError → Action → Type 0
HasNone g columns others t listed args old new why action = IsUnasked g old new why ⊎ IsUnlisted g (sql_of (length columns) t action) (values_of args action) (kinds_of (columns ++ others) listed) old new why

selects : {S : Type 0} (g : Ghosts S) (columns others : List Column) (t : ℕ) (action : Action) (s : Selection) (args : List Value) (old new : Held S) (why : RunError)
    → action ≡ Select s → HasNone g columns others t s.columns args old new why action → ActsAs g columns others t action args old new (Err why)
selects g columns others t action s args old new why is =
    subst (λ (a : Action). HasNone g columns others t s.columns args old new why a → ActsAs g columns others t a args old new (Err why)) (sym is) (λ none. none)

pub returns-in-Err-clause-acts : goal.returns-in-Err-clause-acts
returns-in-Err-clause-acts g c clean =
    let args = c.args in
    let s = c.in-Select.selection in
    let names : c.as_slice-names.result.now ≡ s.columns = search rules in
    selects g.S.Store args.columns.now args.others.now args.table args.action.now s args.args.now args.conn.now c.listed.new.conn c.in-Err.why c.in-Select.is (rw names at c.in-Err.ensures.err clean)
