-- The order of values and that of groups are total, and tell all of them apart.
use Rattle.std.proofs.Common.{◌≡◌, refl, ap}
use Rattle.std.specs.Cmp.{IsTotalOrder, nat_cmp_total, int_cmp_total, on_total, then_total}
use Rattle.std.specs.Cmp.Lexicographic.{nat_list_cmp_total}
use mathlib.Core.Bool.{true≢false}
use Rattle.std.specs.Ordering.{ordering_reverse, is_lt, is_gt}
use Rattle.std.specs.declared.cmp.Ordering.TheVariants.{Less, Equal, Greater}
use Rattle.std.proofs.lemmas.Map.Lookups.{CmpEqualImpliesEq, exact_signed, exact_bytes}
use Rattle.okws_base.specs.Value.{value_cmp}
use Rattle.okws_base.specs.declared.value.Value.{Value}
use Rattle.okws_base.specs.declared.value.Value.TheVariants.{Int, Text, Bytes}
use Rattle.row_index.specs.Groups.{group_cmp}
use Rattle.row_index.specs.declared.slot.Group.{Group}

up : Less ≡ Equal → ⊥
up e = true≢false (ap is_lt e)

down : Greater ≡ Equal → ⊥
down e = true≢false (ap is_gt e)

over : Greater ≡ Less → ⊥
over e = true≢false (ap is_gt e)

antisymm : (x y : Value) → value_cmp x y ≡ ordering_reverse (value_cmp y x)
antisymm (Int a) (Int b) = int_cmp_total.antisymm a b
antisymm (Int a) (Text b) = refl
antisymm (Int a) (Bytes b) = refl
antisymm (Text a) (Int b) = refl
antisymm (Text a) (Text b) = nat_list_cmp_total.antisymm a b
antisymm (Text a) (Bytes b) = refl
antisymm (Bytes a) (Int b) = refl
antisymm (Bytes a) (Text b) = refl
antisymm (Bytes a) (Bytes b) = nat_list_cmp_total.antisymm a b

trans : (x y z : Value) → value_cmp x y ≡ Less → value_cmp y z ≡ Less → value_cmp x z ≡ Less
trans (Int a) (Int b) (Int c) h k = int_cmp_total.trans a b c h k
trans (Int a) y (Text c) h k = refl
trans (Int a) y (Bytes c) h k = refl
trans (Int a) (Text b) (Int c) h k = absurd (over k)
trans (Int a) (Bytes b) (Int c) h k = absurd (over k)
trans (Text a) (Int b) z h k = absurd (over h)
trans (Text a) (Text b) (Int c) h k = absurd (over k)
trans (Text a) (Text b) (Text c) h k = nat_list_cmp_total.trans a b c h k
trans (Text a) y (Bytes c) h k = refl
trans (Text a) (Bytes b) (Int c) h k = absurd (over k)
trans (Text a) (Bytes b) (Text c) h k = absurd (over k)
trans (Bytes a) (Int b) z h k = absurd (over h)
trans (Bytes a) (Text b) z h k = absurd (over h)
trans (Bytes a) (Bytes b) (Int c) h k = absurd (over k)
trans (Bytes a) (Bytes b) (Text c) h k = absurd (over k)
trans (Bytes a) (Bytes b) (Bytes c) h k = nat_list_cmp_total.trans a b c h k

-- The order tells all values apart.
pub exact_values : CmpEqualImpliesEq value_cmp
exact_values (Int a) (Int b) h = ap Int (exact_signed a b h)
exact_values (Int a) (Text b) h = absurd (up h)
exact_values (Int a) (Bytes b) h = absurd (up h)
exact_values (Text a) (Int b) h = absurd (down h)
exact_values (Text a) (Text b) h = ap Text (exact_bytes a b h)
exact_values (Text a) (Bytes b) h = absurd (up h)
exact_values (Bytes a) (Int b) h = absurd (down h)
exact_values (Bytes a) (Text b) h = absurd (down h)
exact_values (Bytes a) (Bytes b) h = ap Bytes (exact_bytes a b h)

-- Values are in a total order.
pub values_total : IsTotalOrder value_cmp
values_total = record { antisymm = antisymm; trans = trans; congr = λ x y z h. ap (λ (v : Value). value_cmp v z) (exact_values x y h) }

-- Groups are in a total order.
pub groups_total : IsTotalOrder group_cmp
groups_total = then_total (on_total (λ (g : Group). g.value) values_total) (on_total (λ (g : Group). g.column) nat_cmp_total)
