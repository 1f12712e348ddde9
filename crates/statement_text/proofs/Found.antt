-- What is found of a canonical text, and what is known of a table that can be declared.
use Rattle.std.proofs.Common.{◌≡◌, ℕ, suc, zero, ◌<◌, Bool, true, ◌&&◌, List, [], ◌∷◌, map, Option, Some, None, Result, Ok, Err, refl, arith, length}
use Rattle.std.specs.Prelude.{nat_le, slice_get}
use Rattle.std.specs.List.{list_all}
use Rattle.std.proofs.lemmas.Bool.{false≢true, and_parts, leb-true}
use Rattle.okws_base.specs.Names.{is_identifier}
use Rattle.okws_plan.specs.Rules.{limit_fits}
use Rattle.okws_plan.specs.declared.configuration.Column.{Column}
use Rattle.okws_plan.specs.declared.configuration.Table.{Table}
use Rattle.query_syntax.specs.declared.error.Refusal.{Refusal}
use Rattle.query_syntax.specs.declared.token.Token.{Token}
use Rattle.query_syntax.specs.declared.token.Placed.{Placed}
use Rattle.query_syntax.specs.Forms.{tokens_in, has_items, may_limit}
use Rattle.query_syntax.specs.ReadAgain.{found_barely}
use Rattle.statement_core.specs.Recompiled.{names_differ, is_declarable}
use Rattle.statement_core.proofs.Judged.{Sound}
use Rattle.statement_core.proofs.Stated.{all_named}

-- what is found and read

pub record Found (ts : List Token) (found : Result (List Placed) Refusal) : Type 0 where
  pub them : List Placed
  pub is : found ≡ Ok them
  pub are : tokens_in them ≡ ts

pub found_tokens : (ts : List Token) (found : Result (List Placed) Refusal) → found_barely found ≡ Ok ts → Found ts found
found_tokens ts (Ok them) e = record { them = them; is = refl; are = cc }
found_tokens ts (Err f) e = absurd (let none : Err f ≡ Ok ts = e in cc)

-- what is known of the table

pub at_place : {A : Type 0} (p : A → Bool) (xs : List A) (i : ℕ) → list_all p xs ≡ true → i < length xs → (x : A) × (slice_get xs i ≡ Some x) × (p x ≡ true)
at_place p [] i h below = absurd (omega arith)
at_place p (x ∷ more) zero h below = (x, refl, (and_parts (p x) (list_all p more) h).0)
at_place p (x ∷ more) (suc i) h below = at_place p more i (and_parts (p x) (list_all p more) h).1 (omega arith)

pub record Declared (t : Table) : Type 0 where
  pub word : is_identifier t.name ≡ true
  pub some : nat_le 1 (length t.columns) ≡ true
  pub named : all_named t.columns ≡ true
  pub sound : Sound t.columns

pub declared : (t : Table) → is_declarable t ≡ true → Declared t
declared t h =
    let three : Bool = all_named t.columns && names_differ (λ (c : Column). c.name) t.columns in
    let two : Bool = nat_le (length t.columns) 256 && three in
    let a = and_parts (is_identifier t.name) (nat_le 1 (length t.columns) && two) h in
    let b = and_parts (nat_le 1 (length t.columns)) two a.1 in
    let c = and_parts (nat_le (length t.columns) 256) three b.1 in
    let d = and_parts (all_named t.columns) (names_differ (λ (c : Column). c.name) t.columns) c.1 in
    record { word = a.0; some = b.0; named = d.0; sound = record { differ = d.1; few = leb-true (length t.columns) 256 c.0 } }

-- a list of a statement has an item, and its limit isn't too great

pub has_some : {A B : Type 0} (f : A → B) (xs : List A) → nat_le 1 (length xs) ≡ true → has_items (map f xs) ≡ true
has_some f [] h = absurd (false≢true h)
has_some f (x ∷ more) h = refl

pub limit_low : (limit : Option ℕ) → limit_fits limit ≡ true → may_limit limit ≡ true
limit_low None h = refl
limit_low (Some n) h = h
