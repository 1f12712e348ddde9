-- Values: when two are the same, how they are ordered, and of which kind they are.
use Rattle.std.specs.Prelude.{Bool, true, false, nat_eq, List, ℕ}
use Rattle.std.specs.Ordering.{int_eq, int_cmp, nat_cmp}
use Rattle.std.specs.declared.cmp.Ordering.{Ordering}
use Rattle.std.specs.declared.cmp.Ordering.TheVariants.{Less, Greater}
use Rattle.std.specs.Cmp.Lexicographic.{pointwise, slice_cmp}
use Rattle.okws_base.specs.declared.value.Value.{Value}
use Rattle.okws_base.specs.declared.value.Value.TheVariants.{Int, Text, Bytes}
use Rattle.okws_base.specs.declared.value.Kind.{Kind}
use Rattle.okws_base.specs.declared.value.Kind.TheVariants as kind
use Rattle.okws_base.specs.declared.value.Token.{Token}

-- Two values are the same where they have one kind and one content.
abbrev pub value_eq : Value → Value → Bool
value_eq (Int a) (Int b) = int_eq a b
value_eq (Text a) (Text b) = pointwise nat_eq a b
value_eq (Bytes a) (Bytes b) = pointwise nat_eq a b
value_eq _ _ = false

-- INT is ordered as a number, TEXT and BYTES by their bytes. Values of two kinds, which no statement compares, are ordered by their kinds.
abbrev pub value_cmp : Value → Value → Ordering
value_cmp (Int a) (Int b) = int_cmp a b
value_cmp (Int a) (Text b) = Less
value_cmp (Int a) (Bytes b) = Less
value_cmp (Text a) (Int b) = Greater
value_cmp (Text a) (Text b) = slice_cmp nat_cmp a b
value_cmp (Text a) (Bytes b) = Less
value_cmp (Bytes a) (Int b) = Greater
value_cmp (Bytes a) (Text b) = Greater
value_cmp (Bytes a) (Bytes b) = slice_cmp nat_cmp a b

-- The kind of a value.
abbrev pub kind_of : Value → Kind
kind_of (Int n) = kind.Int
kind_of (Text t) = kind.Text
kind_of (Bytes b) = kind.Bytes

-- Two kinds are the same.
abbrev pub same_kind : Kind → Kind → Bool
same_kind kind.Int kind.Int = true
same_kind kind.Text kind.Text = true
same_kind kind.Bytes kind.Bytes = true
same_kind _ _ = false

-- Two tokens are the same where their bytes are.
abbrev pub same_token : Token → Token → Bool
same_token a b = pointwise nat_eq a.bytes b.bytes

-- Two byte strings are the same.
abbrev pub same_bytes : List ℕ → List ℕ → Bool
same_bytes a b = pointwise nat_eq a b
