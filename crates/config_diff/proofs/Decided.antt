-- What a test finds the same is equal, and everything is the same as itself.
use Rattle.std.proofs.Common.{◌≡◌, ℕ, zero, suc, Bool, true, false, nat_eq, List, refl, sym, ap, subst, ◌∙◌}
use Rattle.std.specs.Prelude.{◌==◌}
use Rattle.std.proofs.lemmas.Bool.{false≢true, and_parts, and_from, eqb-true, eq-eqb}
use Rattle.std.specs.Bool.{Decides}
use Rattle.std.specs.Cmp.{signed_Decides}
use Rattle.std.specs.Cmp.Lexicographic.{pointwise, pointwise_decides}
use lib.Pointwise.{bytes_decides}
use Rattle.okws_base.specs.Value.{same_bytes, same_kind, value_eq}
use Rattle.okws_base.specs.declared.value.Kind.{Kind}
use Rattle.okws_base.specs.declared.value.Kind.TheVariants as kind
use Rattle.okws_base.specs.declared.value.Value.{Value}
use Rattle.okws_base.specs.declared.value.Value.TheVariants as value
use Rattle.okws_plan.specs.declared.configuration.Column.{Column}
use Rattle.okws_plan.specs.declared.configuration.Owned.{Owned}
use Rattle.okws_plan.specs.declared.configuration.Query.{Query}
use Rattle.okws_plan.specs.declared.configuration.ServicePlan.{ServicePlan}
use Rattle.okws_plan.specs.declared.statement.Action.{Action}
use Rattle.okws_plan.specs.declared.statement.Action.TheVariants.{Select, Insert, Update, Delete}
use Rattle.okws_plan.specs.declared.statement.Assignment.{Assignment}
use Rattle.okws_plan.specs.declared.statement.Comparison.{Comparison}
use Rattle.okws_plan.specs.declared.statement.Comparison.TheVariants as comparison
use Rattle.okws_plan.specs.declared.statement.Condition.{Condition}
use Rattle.okws_plan.specs.declared.statement.Join.{Join}
use Rattle.okws_plan.specs.declared.statement.Operand.{Operand}
use Rattle.okws_plan.specs.declared.statement.Operand.TheVariants.{Parameter, Literal}
use Rattle.okws_plan.specs.declared.statement.Selection.{Selection}
use Rattle.okws_plan.specs.declared.statement.Statement.{Statement}
use Rattle.config_diff.specs.Sameness.{same_flag, same_option, comparison_number, same_operand, same_condition, same_assignment, same_join, same_selection, same_action, same_statement, same_query, same_service, same_column, same_owned}
use Rattle.config_diff.proofs.Lists.{list_same, list_itself, option_same, option_itself}

-- bytes and values

pub bytes_itself : (a : List ℕ) → same_bytes a a ≡ true
bytes_itself a = (bytes_decides a a).1 refl

pub bytes_same : (a b : List ℕ) → same_bytes a b ≡ true → a ≡ b
bytes_same a b h = (bytes_decides a b).0 h

value_same : (a b : Value) → value_eq a b ≡ true → a ≡ b
value_same (value.Int a) (value.Int b) h = ap value.Int ((signed_Decides a b).0 h)
value_same (value.Int a) (value.Text b) h = absurd (false≢true h)
value_same (value.Int a) (value.Bytes b) h = absurd (false≢true h)
value_same (value.Text a) (value.Int b) h = absurd (false≢true h)
value_same (value.Text a) (value.Text b) h = ap value.Text ((bytes_decides a b).0 h)
value_same (value.Text a) (value.Bytes b) h = absurd (false≢true h)
value_same (value.Bytes a) (value.Int b) h = absurd (false≢true h)
value_same (value.Bytes a) (value.Text b) h = absurd (false≢true h)
value_same (value.Bytes a) (value.Bytes b) h = ap value.Bytes ((bytes_decides a b).0 h)

value_itself : (a : Value) → value_eq a a ≡ true
value_itself (value.Int a) = (signed_Decides a a).1 refl
value_itself (value.Text a) = (bytes_decides a a).1 refl
value_itself (value.Bytes a) = (bytes_decides a a).1 refl

value_decides : (a b : Value) → Decides (value_eq a b) (a ≡ b)
value_decides a b = (value_same a b, λ e. subst (λ (v : Value). value_eq a v ≡ true) e (value_itself a))

row_decides : (a b : List Value) → Decides (pointwise value_eq a b) (a ≡ b)
row_decides = pointwise_decides value_decides

pub rows_decide : (a b : List (List Value)) → Decides (pointwise (pointwise value_eq) a b) (a ≡ b)
rows_decide = pointwise_decides row_decides

-- small things

number_same : (a b : ℕ) → nat_eq a b ≡ true → a ≡ b
number_same a b h = eqb-true a b h

number_itself : (a : ℕ) → nat_eq a a ≡ true
number_itself a = eq-eqb a a refl

kind_same : (a b : Kind) → same_kind a b ≡ true → a ≡ b
kind_same kind.Int kind.Int h = refl
kind_same kind.Int kind.Text h = absurd (false≢true h)
kind_same kind.Int kind.Bytes h = absurd (false≢true h)
kind_same kind.Text kind.Int h = absurd (false≢true h)
kind_same kind.Text kind.Text h = refl
kind_same kind.Text kind.Bytes h = absurd (false≢true h)
kind_same kind.Bytes kind.Int h = absurd (false≢true h)
kind_same kind.Bytes kind.Text h = absurd (false≢true h)
kind_same kind.Bytes kind.Bytes h = refl

kind_itself : (a : Kind) → same_kind a a ≡ true
kind_itself kind.Int = refl
kind_itself kind.Text = refl
kind_itself kind.Bytes = refl

flag_same : (a b : Bool) → same_flag a b ≡ true → a ≡ b
flag_same true b h = sym h
flag_same false true h = absurd (false≢true h)
flag_same false false h = refl

flag_itself : (a : Bool) → same_flag a a ≡ true
flag_itself true = refl
flag_itself false = refl

comparison_of : ℕ → Comparison
comparison_of zero = comparison.Equal
comparison_of (suc zero) = comparison.Differs
comparison_of (suc (suc zero)) = comparison.Below
comparison_of (suc (suc (suc zero))) = comparison.AtMost
comparison_of (suc (suc (suc (suc zero)))) = comparison.Above
comparison_of (suc (suc (suc (suc (suc n))))) = comparison.AtLeast

comparison_is : (a : Comparison) → comparison_of (comparison_number a) ≡ a
unfolding comparison_of
comparison_is comparison.Equal = refl
comparison_is comparison.Differs = refl
comparison_is comparison.Below = refl
comparison_is comparison.AtMost = refl
comparison_is comparison.Above = refl
comparison_is comparison.AtLeast = refl

comparison_same : (a b : Comparison) → (comparison_number a == comparison_number b) ≡ true → a ≡ b
comparison_same a b h = sym (comparison_is a) ∙ ap comparison_of (eqb-true (comparison_number a) (comparison_number b) h) ∙ comparison_is b

-- statements

operand_same : (a b : Operand) → same_operand a b ≡ true → a ≡ b
operand_same (Parameter n) (Parameter m) h = ap Parameter (eqb-true n m h)
operand_same (Parameter n) (Literal w) h = absurd (false≢true h)
operand_same (Literal v) (Parameter m) h = absurd (false≢true h)
operand_same (Literal v) (Literal w) h = ap Literal (value_same v w h)

operand_itself : (a : Operand) → same_operand a a ≡ true
operand_itself (Parameter n) = eq-eqb n n refl
operand_itself (Literal v) = value_itself v

condition_same : (a b : Condition) → same_condition a b ≡ true → a ≡ b
condition_same a b h =
    let one = and_parts (a.column == b.column) _ h in
    let two = and_parts (comparison_number a.comparison == comparison_number b.comparison) (same_operand a.operand b.operand) one.1 in
    λ i. record { column = eqb-true a.column b.column one.0 i; comparison = comparison_same a.comparison b.comparison two.0 i; operand = operand_same a.operand b.operand two.1 i }

condition_itself : (a : Condition) → same_condition a a ≡ true
condition_itself a =
    and_from (a.column == a.column) _ (eq-eqb a.column a.column refl)
    (and_from (comparison_number a.comparison == comparison_number a.comparison) _ (eq-eqb (comparison_number a.comparison) (comparison_number a.comparison) refl) (operand_itself a.operand))

assignment_same : (a b : Assignment) → same_assignment a b ≡ true → a ≡ b
assignment_same a b h =
    let one = and_parts (a.column == b.column) (same_operand a.operand b.operand) h in
    λ i. record { column = eqb-true a.column b.column one.0 i; operand = operand_same a.operand b.operand one.1 i }

assignment_itself : (a : Assignment) → same_assignment a a ≡ true
assignment_itself a = and_from (a.column == a.column) _ (eq-eqb a.column a.column refl) (operand_itself a.operand)

join_same : (a b : Join) → same_join a b ≡ true → a ≡ b
join_same a b h =
    let one = and_parts (a.table == b.table) _ h in
    let two = and_parts (a.left == b.left) (a.right == b.right) one.1 in
    λ i. record { table = eqb-true a.table b.table one.0 i; left = eqb-true a.left b.left two.0 i; right = eqb-true a.right b.right two.1 i }

join_itself : (a : Join) → same_join a a ≡ true
join_itself a = and_from (a.table == a.table) _ (eq-eqb a.table a.table refl) (and_from (a.left == a.left) _ (eq-eqb a.left a.left refl) (eq-eqb a.right a.right refl))

selection_same : (a b : Selection) → same_selection a b ≡ true → a ≡ b
selection_same a b h =
    let one = and_parts (same_option same_join a.join b.join) _ h in
    let two = and_parts (same_bytes a.columns b.columns) _ one.1 in
    let three = and_parts (pointwise same_condition a.conditions b.conditions) _ two.1 in
    let four = and_parts (same_option nat_eq a.order b.order) (same_option nat_eq a.limit b.limit) three.1 in
    λ i. record {
      join = option_same same_join join_same a.join b.join one.0 i;
      columns = bytes_same a.columns b.columns two.0 i;
      conditions = list_same same_condition condition_same a.conditions b.conditions three.0 i;
      order = option_same nat_eq number_same a.order b.order four.0 i;
      limit = option_same nat_eq number_same a.limit b.limit four.1 i;
    }

selection_itself : (a : Selection) → same_selection a a ≡ true
selection_itself a =
    and_from (same_option same_join a.join a.join) _ (option_itself same_join join_itself a.join)
    (and_from (same_bytes a.columns a.columns) _ (bytes_itself a.columns)
    (and_from (pointwise same_condition a.conditions a.conditions) _ (list_itself same_condition condition_itself a.conditions)
    (and_from (same_option nat_eq a.order a.order) _ (option_itself nat_eq number_itself a.order) (option_itself nat_eq number_itself a.limit))))

action_same : (a b : Action) → same_action a b ≡ true → a ≡ b
action_same (Select a) (Select b) h = ap Select (selection_same a b h)
action_same (Select a) (Insert v) h = absurd (false≢true h)
action_same (Select a) (Update s c) h = absurd (false≢true h)
action_same (Select a) (Delete c) h = absurd (false≢true h)
action_same (Insert v) (Select b) h = absurd (false≢true h)
action_same (Insert v) (Insert w) h = ap Insert (list_same same_operand operand_same v w h)
action_same (Insert v) (Update s c) h = absurd (false≢true h)
action_same (Insert v) (Delete c) h = absurd (false≢true h)
action_same (Update s c) (Select b) h = absurd (false≢true h)
action_same (Update s c) (Insert w) h = absurd (false≢true h)
action_same (Update s c) (Update r d) h =
    let both = and_parts (pointwise same_assignment s r) (pointwise same_condition c d) h in
    λ i. Update (list_same same_assignment assignment_same s r both.0 i) (list_same same_condition condition_same c d both.1 i)
action_same (Update s c) (Delete d) h = absurd (false≢true h)
action_same (Delete c) (Select b) h = absurd (false≢true h)
action_same (Delete c) (Insert w) h = absurd (false≢true h)
action_same (Delete c) (Update r d) h = absurd (false≢true h)
action_same (Delete c) (Delete d) h = ap Delete (list_same same_condition condition_same c d h)

action_itself : (a : Action) → same_action a a ≡ true
action_itself (Select a) = selection_itself a
action_itself (Insert v) = list_itself same_operand operand_itself v
action_itself (Update s c) = and_from (pointwise same_assignment s s) (pointwise same_condition c c) (list_itself same_assignment assignment_itself s) (list_itself same_condition condition_itself c)
action_itself (Delete c) = list_itself same_condition condition_itself c

statement_same : (a b : Statement) → same_statement a b ≡ true → a ≡ b
statement_same a b h =
    let one = and_parts (a.table == b.table) _ h in
    let two = and_parts (pointwise same_kind a.parameters b.parameters) (same_action a.action b.action) one.1 in
    λ i. record { table = eqb-true a.table b.table one.0 i; parameters = list_same same_kind kind_same a.parameters b.parameters two.0 i; action = action_same a.action b.action two.1 i }

statement_itself : (a : Statement) → same_statement a a ≡ true
statement_itself a = and_from (a.table == a.table) _ (eq-eqb a.table a.table refl) (and_from (pointwise same_kind a.parameters a.parameters) _ (list_itself same_kind kind_itself a.parameters) (action_itself a.action))

-- what a configuration declares

pub query_same : (a b : Query) → same_query a b ≡ true → a ≡ b
query_same a b h =
    let one = and_parts (a.number == b.number) (same_statement a.statement b.statement) h in
    λ i. record { number = eqb-true a.number b.number one.0 i; statement = statement_same a.statement b.statement one.1 i }

pub query_itself : (a : Query) → same_query a a ≡ true
query_itself a = and_from (a.number == a.number) _ (eq-eqb a.number a.number refl) (statement_itself a.statement)

pub column_same : (a b : Column) → same_column a b ≡ true → a ≡ b
column_same a b h =
    let one = and_parts (same_bytes a.name b.name) _ h in
    let two = and_parts (same_kind a.kind b.kind) (same_flag a.key b.key) one.1 in
    λ i. record { name = bytes_same a.name b.name one.0 i; kind = kind_same a.kind b.kind two.0 i; key = flag_same a.key b.key two.1 i }

pub column_itself : (a : Column) → same_column a a ≡ true
column_itself a = and_from (same_bytes a.name a.name) _ (bytes_itself a.name) (and_from (same_kind a.kind a.kind) _ (kind_itself a.kind) (flag_itself a.key))

pub service_same : (a b : ServicePlan) → same_service a b ≡ true → a ≡ b
service_same a b h =
    let one = and_parts (same_bytes a.name b.name) (pointwise same_bytes a.words b.words) h in
    λ i. record { name = bytes_same a.name b.name one.0 i; words = list_same same_bytes bytes_same a.words b.words one.1 i }

pub service_itself : (a : ServicePlan) → same_service a a ≡ true
service_itself a = and_from (same_bytes a.name a.name) _ (bytes_itself a.name) (list_itself same_bytes bytes_itself a.words)

pub owned_same : (a b : Owned) → same_owned a b ≡ true → a ≡ b
owned_same a b h =
    let one = and_parts (same_bytes a.path b.path) (a.service == b.service) h in
    λ i. record { path = bytes_same a.path b.path one.0 i; service = eqb-true a.service b.service one.1 i }

pub owned_itself : (a : Owned) → same_owned a a ≡ true
owned_itself a = and_from (same_bytes a.path a.path) _ (bytes_itself a.path) (eq-eqb a.service a.service refl)
