use Rattle.std.proofs.Common.{◌≡◌, ◌∙◌, ap, sym, subst, ℕ, List, Option, OnOk}
use Rattle.okws_base.specs.declared.value.Value.{Value}
use Rattle.row_index.specs.Places.{row_at}
use Rattle.row_index.specs.Changes.{after_change}
use Rattle.row_index.proofs.changing.apply_sole.Goals as goal

pub returns-in-None-clause-ok : goal.returns-in-None-clause-ok
returns-in-None-clause-ok c = λ (p : ℕ).
    c.remove.ensures.rows p
    ∙ ap (λ (row : Option (List Value)). after_change p (row_at c.args.rows.now.entries p) (record { place = c.args.change.place; row = row })) (sym c.in-None.is)

pub returns-in-Some-clause-ok : goal.returns-in-Some-clause-ok
returns-in-Some-clause-ok c =
    subst
    (λ (row : Option (List Value)). OnOk c.replace.result ((p : ℕ) → row_at c.replace.new.rows.entries p ≡ after_change p (row_at c.args.rows.now.entries p) (record { place = c.args.change.place; row = row })))
    (sym c.in-Some.is)
    c.replace.ensures.ok
