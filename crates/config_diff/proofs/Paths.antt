-- Lists of paths give each path one owner where they agree on the paths of both.
use Rattle.std.proofs.Common.{◌≡◌, ℕ, true, List, refl, subst}
use Rattle.std.specs.Cmp.Lexicographic.{pointwise}
use Rattle.std.proofs.lemmas.Bool.{and_parts, and_from}
use Rattle.okws_base.specs.Value.{same_bytes}
use Rattle.okws_plan.specs.declared.configuration.Owned.{Owned}
use Rattle.config_diff.specs.Sameness.{same_option, same_owned, owned_in, agree_on_paths, same_paths}
use Rattle.config_diff.proofs.Decided.{bytes_same, owned_same, owned_itself}
use Rattle.config_diff.proofs.Lists.{list_same, options_are, all_of, one_under_key}

-- where the owners are the same under each path, lists agree on any paths
agree_anywhere : (xs ys owned : List Owned) → ((path : List ℕ) → owned_in xs path ≡ owned_in ys path) → agree_on_paths owned xs ys ≡ true
agree_anywhere xs ys owned h = all_of (λ (o : Owned). same_option same_owned (owned_in xs o.path) (owned_in ys o.path)) (λ o. options_are same_owned owned_itself (owned_in xs o.path) (owned_in ys o.path) (h o.path)) owned

pub paths_are : (xs ys : List Owned) → ((path : List ℕ) → owned_in xs path ≡ owned_in ys path) → same_paths xs ys ≡ true
paths_are xs ys h = and_from (agree_on_paths xs xs ys) (agree_on_paths ys xs ys) (agree_anywhere xs ys xs h) (agree_anywhere xs ys ys h)

pub owners_same : (xs ys : List Owned) → same_paths xs ys ≡ true → (path : List ℕ) → owned_in xs path ≡ owned_in ys path
owners_same xs ys h path =
    let both = and_parts (agree_on_paths xs xs ys) (agree_on_paths ys xs ys) h in
    one_under_key same_owned owned_same (λ (o : Owned). o.path) (λ (p : List ℕ) (o : Owned). same_bytes o.path p) (λ p o is. bytes_same o.path p is) xs ys path both.0 both.1

-- Lists that are the same in order are the same in any.
pub same_in_order : (xs ys : List Owned) → pointwise same_owned xs ys ≡ true → same_paths xs ys ≡ true
same_in_order xs ys h = subst (λ l. same_paths xs l ≡ true) (list_same same_owned owned_same xs ys h) (paths_are xs xs (λ path. refl))
