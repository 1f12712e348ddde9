-- What is kept beside the rows, the grants and the owned paths while a configuration is read, so that no line looks through those above it.
use Rattle.std.specs.Prelude.{◌≡◌, ℕ, ◌≤◌, Bool, false, ◌==◌, ◌&&◌, List, length, Option, Some, None, slice_get, Vec}
use Rattle.std.specs.HashSet.{HashSet, contains}
use Rattle.std.specs.List.{list_any}
use Rattle.std.specs.Ordering.{int_eq}
use Rattle.okws_base.specs.Value.{same_bytes, value_eq}
use Rattle.okws_base.specs.declared.value.Value.{Value}
use Rattle.okws_base.specs.declared.value.Value.TheVariants.{Int, Text, Bytes}
use Rattle.okws_plan.specs.Meaning.{at_column, key_place}
use Rattle.okws_plan.specs.declared.configuration.Granted.{Granted}
use Rattle.okws_plan.specs.declared.configuration.Owned.{Owned}
use Rattle.okws_plan.specs.declared.configuration.Table.{Table}
use Rattle.config_syntax.specs.ByteSets.{knows}
use Rattle.config_reader.specs.Broken.{has_grant}
use Rattle.config_reader.specs.declared.grants.Grant.{Grant}
use Rattle.config_reader.specs.declared.keys.KeyValues.{KeyValues}

-- A value is among those that are kept.
abbrev pub keeps_value : KeyValues → Value → Bool
keeps_value keys (Int n) = contains int_eq keys.numbers n
keeps_value keys (Text t) = knows keys.texts t
keeps_value keys (Bytes b) = knows keys.blobs b

-- A row has the value in the KEY column, if there is one.
abbrev pub has_key_value : Option ℕ → List Value → Value → Bool
has_key_value None row v = false
has_key_value (Some c) row v = value_eq (at_column row c) v

-- A table has a row with the value in its KEY column.
abbrev pub is_key_of : Table → Value → Bool
is_key_of table v = list_any (λ (row : List Value). has_key_value (key_place table.columns) row v) table.first

-- Exactly the KEY values of the table are kept.
abbrev pub HoldsKeys : KeyValues → Table → Type 0
HoldsKeys keys table = (v : Value) → keeps_value keys v ≡ is_key_of table v

-- A value is kept for a table that may not be there.
abbrev pub keeps_in : Option KeyValues → Value → Bool
keeps_in None v = false
keeps_in (Some keys) v = keeps_value keys v

-- A value is a KEY value of a table that may not be there.
abbrev pub is_key_in : Option Table → Value → Bool
is_key_in None v = false
is_key_in (Some table) v = is_key_of table v

-- Beside each table exactly its KEY values are kept.
pub record AreKept (tables : List Table) (keys : List KeyValues) : Type 0 where
  pub enough : length tables ≤ length keys
  pub each : (i : ℕ) (v : Value) → keeps_in (slice_get keys i) v ≡ is_key_in (slice_get tables i) v

-- Two grants are one.
abbrev pub same_grant : Grant → Grant → Bool
same_grant a b = (a.service == b.service) && ((a.proxy == b.proxy) && (a.query == b.query))

-- Exactly the grants of the list are kept.
abbrev pub HoldsGrants : {S : Type 0} → HashSet Grant S → List Granted → Type 0
HoldsGrants kept grants = (g : Grant) → contains same_grant kept g ≡ has_grant grants g.service g.proxy g.query

-- Exactly the paths of the list are kept.
abbrev pub HoldsPaths : {Z S : Type 0} → HashSet (Vec ℕ Z) S → List Owned → Type 0
HoldsPaths kept paths = (path : List ℕ) → knows kept path ≡ list_any (λ (o : Owned). same_bytes o.path path) paths
