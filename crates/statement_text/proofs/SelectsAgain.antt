-- The words of a SELECT that keeps the rules break none, and stand for what it lists, tests and is ordered by.
use Rattle.std.proofs.Common.{◌≡◌, ℕ, ◌-◌, ◌≤◌, Bool, false, List, length, map, replicate, Option, option_map, ap, true, ◌∙◌, arith}
use Rattle.std.specs.List.{list_all}
use Rattle.std.proofs.lemmas.Bool.{leb-true}
use Rattle.okws_base.specs.declared.value.Kind.{Kind}
use Rattle.okws_plan.specs.Configuration.{numbered_from}
use Rattle.okws_plan.specs.Rules.{stands_in}
use Rattle.okws_plan.specs.declared.configuration.Column.{Column}
use Rattle.okws_plan.specs.declared.statement.Selection.{Selection}
use Rattle.okws_plan.specs.declared.statement.Action.TheVariants as action
use Rattle.query_syntax.specs.declared.syntax.Named.{Named}
use Rattle.query_syntax.specs.declared.syntax.Test.{Test}
use Rattle.query_syntax.specs.Forms.{bare_name, bare_test}
use Rattle.statement_core.specs.Resolving.{Judged, nothing_found, order_judged, words_judged, tests_judged, number, condition_of}
use Rattle.statement_core.proofs.Stated.{name_at, test_of, Selects}
use Rattle.statement_core.proofs.Judged.{Sound, shown, state, words_kept, tests_kept, after_conditions}
use Rattle.statement_text.proofs.Recompiles.{all_met, at_first, at_last, numbers_again, conditions_again, order_again, order_kept, same_length, few_conditions}

-- at the start
pub start : (columns : List Column) (kinds : List Kind) → length kinds ≤ 16 → nothing_found (length columns) ≡ state (shown (λ (k : ℕ). false) 1 (all_met kinds)) (replicate (length columns) false)
start columns kinds few = ap (λ (met : List (Option Kind)). state met (replicate (length columns) false)) (at_first kinds few)

-- words that name what a SELECT lists, tests and is ordered by
pub record NamesAll (columns : List Column) (s : Selection) (cs : List Named) (ts : List Test) (o : Option Named) : Type 0 where
  pub list : map bare_name cs ≡ map (name_at columns) s.columns
  pub tests : map bare_test ts ≡ map (test_of columns) s.conditions
  pub order : option_map bare_name o ≡ option_map (name_at columns) s.order

-- what is known of such words
pub record SelectsAgain (columns : List Column) (kinds : List Kind) (s : Selection) (cs : List Named) (ts : List Test) (o : Option Named) : Type 0 where
  pub judged : order_judged columns (tests_judged columns (words_judged columns (nothing_found (length columns)) cs) ts) o ≡ state (all_met kinds) (replicate (length columns) false)
  pub few_columns : length cs ≤ 16
  pub few_tests : length ts ≤ 16
  pub list : map (number columns) cs ≡ s.columns
  pub conditions : map (condition_of columns) ts ≡ s.conditions
  pub order : option_map (number columns) o ≡ s.order

pub select_again : (columns : List Column) (kinds : List Kind) (s : Selection) (cs : List Named) (ts : List Test) (order : Option Named) → Sound columns → length kinds ≤ 16 → Selects columns kinds s
    → list_all (λ (n : ℕ). stands_in n (action.Select s)) (numbered_from 1 (length kinds)) ≡ true → NamesAll columns s cs ts order → SelectsAgain columns kinds s cs ts order
select_again columns kinds s cs ts order sound few fits all names =
    let taken : List Bool = replicate (length columns) false in
    let S : ℕ → Bool = λ (k : ℕ). false in
    let first : List (Option Kind) = shown S 1 (all_met kinds) in
    let part = few_conditions columns kinds s.conditions fits.conditions in
    let last : shown (after_conditions S s.conditions) 1 (all_met kinds) ≡ all_met kinds = at_last (λ (n : ℕ). stands_in n (action.Select s)) 1 kinds (16 - length kinds) all in
    let one : words_judged columns (state first taken) cs ≡ state first taken = words_kept columns first taken s.columns cs sound fits.list names.list in
    let two : tests_judged columns (state first taken) ts ≡ state (all_met kinds) taken =
    tests_kept columns kinds (16 - length kinds) S taken s.conditions ts sound few part.1 names.tests ∙ ap (λ (met : List (Option Kind)). state met taken) last in
    let three : order_judged columns (state (all_met kinds) taken) order ≡ state (all_met kinds) taken = order_kept columns (all_met kinds) taken s.order order sound fits.order names.order in
    record {
      judged =
          ap (λ (j : Judged). order_judged columns (tests_judged columns (words_judged columns j cs) ts) order) (start columns kinds few)
          ∙ ap (λ (j : Judged). order_judged columns (tests_judged columns j ts) order) one
          ∙ ap (λ (j : Judged). order_judged columns j order) two
          ∙ three;
      few_columns = omega (arith, same_length bare_name (name_at columns) cs s.columns names.list, leb-true (length s.columns) 16 fits.few);
      few_tests = omega (arith, same_length bare_test (test_of columns) ts s.conditions names.tests, part.0);
      list = numbers_again columns s.columns cs sound fits.list names.list;
      conditions = conditions_again columns kinds s.conditions ts sound few part.1 names.tests;
      order = order_again columns s.order order sound fits.order names.order;
    }
