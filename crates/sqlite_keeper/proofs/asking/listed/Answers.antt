use Rattle.std.proofs.Common.{◌≡◌, ◌⊎◌, ◌++◌, length, Result, Ok, Err, inr, rules}
use Rattle.std.specs.Prelude.{IfErr}
use Rattle.sqlite.specs.Values.{bound}
use Rattle.okws_outer.specs.declared.keeper.RunError.{RunError}
use Rattle.sqlite_keeper.specs.Texts.{sql_of}
use Rattle.sqlite_keeper.specs.Values.{values_of, kinds_of}
use Rattle.sqlite_keeper.specs.Asking.{IsUnlisted}
use Rattle.sqlite_keeper.proofs.asking.listed.Goals as goal

either : {T : Type 0} (r : Result T RunError) (P Q : RunError → Type 0) → IfErr r Q → IfErr r (λ why. P why ⊎ Q why)
either (Ok x) P Q h = tt
either (Err e) P Q h = inr h

pub returns-clause-err : goal.returns-clause-err
returns-clause-err g c clean =
    let args = c.args in
    let text : c.deref.result.now ≡ sql_of (length args.columns.now) args.table args.action.now = search rules in
    let values : bound c.deref-2.result.now ≡ values_of args.args.now args.action.now = search rules in
    let kinds : c.deref-3.result.now ≡ kinds_of (args.columns.now ++ args.others.now) args.listed.now = search rules in
    let why : IfErr c.list.result (IsUnlisted g.S.Store (sql_of (length args.columns.now) args.table args.action.now) (values_of args.args.now args.action.now) (kinds_of (args.columns.now ++ args.others.now) args.listed.now) args.conn.now c.list.new.conn) =
    rw (text, values, kinds) at c.list.ensures.err clean in
    either c.list.result _ _ why
