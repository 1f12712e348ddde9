-- The columns of a `table` line, by their words.
use Rattle.std.specs.Prelude.{ℕ, Bool, false, ◌||◌, if◌then◌else◌, List, [], ◌∷◌, codes, count_by}
use Rattle.std.specs.List.{list_any}
use Rattle.okws_base.specs.Value.{same_bytes}
use Rattle.okws_base.specs.declared.value.Kind.{Kind}
use Rattle.okws_base.specs.declared.value.Kind.TheVariants as kind
use Rattle.okws_plan.specs.declared.configuration.Column.{Column}
use Rattle.config_syntax.specs.Declarations.{ColumnWords}

-- A word is a TYPE.
abbrev pub is_kind : List ℕ → Bool
is_kind w = same_bytes w (codes "INT") || (same_bytes w (codes "TEXT") || same_bytes w (codes "BYTES"))

-- Two of the columns have one name.
abbrev pub repeats : List ColumnWords → Bool
repeats [] = false
repeats (c ∷ more) = list_any (λ (other : ColumnWords). same_bytes c.name other.name) more || repeats more

-- How many columns KEY marks.
abbrev pub key_count : List ColumnWords → ℕ
key_count columns = count_by (λ (c : ColumnWords). c.key) columns

-- The kind that a TYPE names.
abbrev pub kind_named : List ℕ → Kind
kind_named w = if same_bytes w (codes "INT") then kind.Int else if same_bytes w (codes "TEXT") then kind.Text else kind.Bytes

-- The column that its words declare.
abbrev pub column_of : ColumnWords → Column
column_of c = record { name = c.name; kind = kind_named c.kind; key = c.key }
