-- What lists rows leaves them, and what doesn't answers none.
use Rattle.std.proofs.Common.{◌≡◌, ◌∙◌, ℕ, Bool, true, false, List, [], ap, refl}
use Rattle.std.specs.Prelude.{Option, Some, None, Ok, slice_set, slice_index_or, not, nat_lt, if◌then◌else◌}
use Rattle.std.proofs.lemmas.List.{set-get_or}
use Rattle.okws_base.specs.declared.value.Value.{Value}
use Rattle.okws_base.specs.declared.denial.Rule.{Rule}
use Rattle.okws_base.specs.declared.denial.Rule.TheVariants as rule
use Rattle.okws_plan.specs.Fits.{fits}
use Rattle.okws_plan.specs.declared.configuration.Column.{Column}
use Rattle.okws_plan.specs.declared.configuration.Config.{Config}
use Rattle.okws_plan.specs.declared.configuration.Query.{Query}
use Rattle.okws_plan.specs.declared.configuration.Table.{Table}
use Rattle.okws_plan.specs.declared.event.Call.{Call}
use Rattle.okws_plan.specs.declared.statement.Action.{Action}
use Rattle.okws_plan.specs.declared.statement.Action.TheVariants.{Select, Insert, Update, Delete}
use Rattle.okws_plan.specs.declared.statement.Answer.{Answer}
use Rattle.okws_plan.specs.declared.statement.Answer.TheVariants.{Rows}
use Rattle.okws_plan.specs.declared.statement.Statement.{Statement}
use Rattle.okws_plan.specs.Meaning.{mean, mean_on, inserted, columns_of}
use Rattle.okws_outer.specs.Keeping.{Runs, Pins, MayAnswer, is_select}
use Rattle.monitor_model.specs.Proxy.{granted, query_denial}
use Rattle.db_proxy.specs.Permit.{denial_at}

-- A SELECT leaves its table.
leaves_own : (columns : List Column) (T : List (List (List Value))) (action : Action) (args : List Value) (rows : List (List Value)) → is_select action ≡ true → (mean_on columns T action args rows).1 ≡ rows
leaves_own columns T (Select selection) args rows is = refl
leaves_own columns T (Insert values) args rows is = let never : ⊥ = cc in absurd never
leaves_own columns T (Update assignments conditions) args rows is = let never : ⊥ = cc in absurd never
leaves_own columns T (Delete conditions) args rows is = let never : ⊥ = cc in absurd never

-- A SELECT leaves all tables.
leaves : (tables : List Table) (st : Statement) (args : List Value) (T : List (List (List Value))) → is_select st.action ≡ true → (mean tables st args T).1 ≡ T
leaves tables st args T is =
    ap (slice_set T st.table) (leaves_own (columns_of tables st.table) T st.action args (slice_index_or T st.table []) is)
    ∙ set-get_or T st.table []

-- What is pinned of a SELECT is what it answers where it is run.
pub pinned_runs : (tables : List Table) (st : Statement) (args : List Value) (told now : Option (List (List (List Value)))) (answer : Answer)
    → is_select st.action ≡ true → Pins tables st args told answer → now ≡ told → Runs tables st args told now (Ok answer)
pinned_runs tables st args None now answer is pins same = (pins, same)
pinned_runs tables st args (Some T) now answer is pins same = (pins, rw (leaves tables st args T is) same)

inserted_rows : (b : Bool) (before : List (List Value)) (new : List Value) (columns : ℕ) (rows : List (List Value)) → Rows columns rows ≡ (inserted b before new).0 → ⊥
inserted_rows true before new columns rows e = cc
inserted_rows false before new columns rows e = cc

no_rows_meant : (own : List Column) (T : List (List (List Value))) (action : Action) (args : List Value) (before : List (List Value)) (columns : ℕ) (rows : List (List Value))
    → is_select action ≡ false → Rows columns rows ≡ (mean_on own T action args before).0 → ⊥
no_rows_meant own T (Select selection) args before columns rows is e = cc
no_rows_meant own T (Insert values) args before columns rows is e = inserted_rows _ _ _ columns rows e
no_rows_meant own T (Update assignments conditions) args before columns rows is e = cc
no_rows_meant own T (Delete conditions) args before columns rows is e = cc

no_rows_may : (own : List Column) (action : Action) (columns : ℕ) (rows : List (List Value)) → is_select action ≡ false → MayAnswer own action (Rows columns rows) → ⊥
no_rows_may own (Select selection) columns rows is may = cc
no_rows_may own (Insert values) columns rows is may = may
no_rows_may own (Update assignments conditions) columns rows is may = may
no_rows_may own (Delete conditions) columns rows is may = may

-- Only a SELECT answers rows.
pub no_rows : (tables : List Table) (st : Statement) (args : List Value) (told now : Option (List (List (List Value)))) (columns : ℕ) (rows : List (List Value))
    → is_select st.action ≡ false → Runs tables st args told now (Ok (Rows columns rows)) → ⊥
no_rows tables st args None now columns rows is runs = no_rows_may (columns_of tables st.table) st.action columns rows is runs.0
no_rows tables st args (Some T) now columns rows is runs = no_rows_meant (columns_of tables st.table) T st.action args (slice_index_or T st.table []) columns rows is runs.0
