-- What is kept beside lists, after the lists change.
use Rattle.std.proofs.Common.{◌≡◌, ℕ, suc, zero, ◌<◌, ◌≤◌, Bool, true, false, ◌||◌, cond, List, [], ◌∷◌, ◌++◌, length, get_or, set, Option, Some, None, refl, sym, ap, ◌∙◌, arith, length-append, length-set}
use Rattle.std.specs.Prelude.{slice_get, option_map, option_and_then}
use Rattle.std.specs.List.{list_any}
use Rattle.std.proofs.lemmas.List.Folds.{list_any-append}
use Rattle.okws_base.specs.declared.value.Value.{Value}
use Rattle.okws_plan.specs.Meaning.{key_place}
use Rattle.okws_plan.specs.declared.configuration.Table.{Table}
use Rattle.config_reader.specs.Above.{table_number}
use Rattle.config_reader.specs.After.{with_row, changed_at, put_if}
use Rattle.config_reader.specs.Kept.{AreKept, HoldsKeys, keeps_value, keeps_in, has_key_value, is_key_of, is_key_in}
use Rattle.config_reader.specs.declared.keys.KeyValues.{KeyValues}
use Rattle.config_reader.proofs.Plans.{at_place}

seen_push : {A B : Type 0} (f : Option A → B) (xs : List A) (y : A) (i : ℕ) → f (Some y) ≡ f None → f (slice_get (xs ++ y ∷ []) i) ≡ f (slice_get xs i)
seen_push f [] y zero same = same
seen_push f [] y (suc i) same = refl
seen_push f (x ∷ xs) y zero same = refl
seen_push f (x ∷ xs) y (suc i) same = seen_push f xs y i same

no_rows : (t : Table) (v : Value) → t.first ≡ [] → is_key_of t v ≡ false
no_rows t v e = ap (list_any (λ (row : List Value). has_key_value (key_place t.columns) row v)) e

-- values are kept for a table that doesn't follow
pub more_keys : (tables : List Table) (keys : List KeyValues) (k : KeyValues) → AreKept tables keys → ((v : Value) → keeps_value k v ≡ false) → AreKept tables (keys ++ k ∷ [])
more_keys tables keys k h none = record {
  enough = omega (arith, length-append keys (k ∷ []), h.enough);
  each = λ i v. seen_push (λ (o : Option KeyValues). keeps_in o v) keys k i (none v) ∙ h.each i v;
}

-- a table without rows follows
pub more_tables : (tables : List Table) (keys : List KeyValues) (t : Table) (k : KeyValues) → AreKept tables keys → ((v : Value) → keeps_value k v ≡ false) → t.first ≡ [] → AreKept (tables ++ t ∷ []) (keys ++ k ∷ [])
more_tables tables keys t k h none e = record {
  enough = omega (arith, length-append keys (k ∷ []), length-append tables (t ∷ []), h.enough);
  each = λ i v. seen_push (λ (o : Option KeyValues). keeps_in o v) keys k i (none v) ∙ h.each i v ∙ sym (seen_push (λ (o : Option Table). is_key_in o v) tables t i (no_rows t v e));
}

set_each : (tables : List Table) (keys : List KeyValues) (place : ℕ) (t : Table) (k : KeyValues) → place < length tables → length tables ≤ length keys
    → ((i : ℕ) (v : Value) → keeps_in (slice_get keys i) v ≡ is_key_in (slice_get tables i) v) → HoldsKeys k t → (i : ℕ) (v : Value) → keeps_in (slice_get (set keys place k) i) v ≡ is_key_in (slice_get (set tables place t) i) v
set_each [] keys place t k lt enough each holds i v = absurd (omega arith)
set_each (x ∷ tables) [] place t k lt enough each holds i v = absurd (omega arith)
set_each (x ∷ tables) (y ∷ keys) zero t k lt enough each holds zero v = holds v
set_each (x ∷ tables) (y ∷ keys) zero t k lt enough each holds (suc i) v = each (suc i) v
set_each (x ∷ tables) (y ∷ keys) (suc place) t k lt enough each holds zero v = each 0 v
set_each (x ∷ tables) (y ∷ keys) (suc place) t k lt enough each holds (suc i) v = set_each tables keys place t k (omega arith) (omega arith) (λ j w. each (suc j) w) holds i v

-- a table and its values change together
pub kept_set : (tables : List Table) (keys : List KeyValues) (place : ℕ) (t : Table) (k : KeyValues) → AreKept tables keys → place < length tables → HoldsKeys k t → AreKept (set tables place t) (set keys place k)
kept_set tables keys place t k h lt holds = record {
  enough = omega (arith, length-set tables place t, length-set keys place k, h.enough);
  each = set_each tables keys place t k lt h.enough h.each holds;
}

-- what is kept beside the table at a place
pub holds_at : (tables : List Table) (keys : List KeyValues) (place : ℕ) (t : Table) (k : KeyValues) → AreKept tables keys → place < length tables → t ≡ get_or tables place t → k ≡ get_or keys place k → HoldsKeys k t
holds_at tables keys place t k h lt table_is key_is = λ v.
    let table : slice_get tables place ≡ Some t = at_place tables place t lt table_is in
    let key : slice_get keys place ≡ Some k = at_place keys place k (omega (arith, h.enough)) key_is in
    sym (ap (λ (o : Option KeyValues). keeps_in o v) key) ∙ h.each place v ∙ ap (λ (o : Option Table). is_key_in o v) table

or_last : (b x : Bool) → cond b true x ≡ (x || (b || false))
or_last true true = refl
or_last true false = refl
or_last false true = refl
or_last false false = refl

-- the table that was found at a place is that of the name
pub table_found : (seen tables : List Table) (name : List ℕ) (shown : List Table) (k : ℕ) (table : Table) → seen ≡ tables → shown ≡ seen → Some k ≡ table_number shown name → k < length shown → table ≡ get_or seen k table
    → option_and_then (slice_get tables) (table_number tables name) ≡ Some table
table_found seen tables name shown k table same is found lt table_is =
    let place : Some k ≡ table_number seen name = found ∙ ap (λ (ts : List Table). table_number ts name) is in
    let low : k < length seen = rw is at lt in
    let here : option_and_then (slice_get seen) (table_number seen name) ≡ Some table = ap (λ (o : Option ℕ). option_and_then (slice_get seen) o) (sym place) ∙ at_place seen k table low table_is in
    ap (λ (ts : List Table). option_and_then (slice_get ts) (table_number ts name)) (sym same) ∙ here

-- the table at its place, with one row more
pub table_changed : (seen tables : List Table) (name : List ℕ) (row : List Value) (shown : List Table) (k : ℕ) (table now : Table) → seen ≡ tables → shown ≡ seen → Some k ≡ table_number shown name → k < length shown → table ≡ get_or seen k table
    → now ≡ with_row row table → set seen k now ≡ changed_at (table_number tables name) (with_row row) tables
table_changed seen tables name row shown k table now same is found lt table_is changed =
    let place : Some k ≡ table_number seen name = found ∙ ap (λ (ts : List Table). table_number ts name) is in
    let low : k < length seen = rw is at lt in
    let one : changed_at (table_number seen name) (with_row row) seen ≡ set seen k now =
    ap (λ (o : Option ℕ). changed_at o (with_row row) seen) (sym place)
    ∙ ap (λ (o : Option Table). put_if seen k (option_map (with_row row) o)) (at_place seen k table low table_is)
    ∙ ap (λ (x : Table). set seen k x) (sym changed) in
    sym one ∙ ap (λ (ts : List Table). changed_at (table_number ts name) (with_row row) ts) same
