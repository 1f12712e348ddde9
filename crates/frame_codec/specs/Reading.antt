-- Reading from the front of bytes: a value and the bytes behind it, or nothing.
use Rattle.std.specs.Prelude.{◌≡◌, ℕ, zero, suc, Bool, ◌==◌, List, [], ◌∷◌, length, take, drop, Option, Some, None, Result, Ok, Err, nat_lt, if◌then◌else◌, option_and_then, option_map, IsSome}
use Rattle.std.specs.Int.{Width, w32, w64, byte_len, from_be_bytes, cast_signed}
use Rattle.std.specs.Str.{is_utf8}
use Rattle.okws_base.specs.declared.value.Value.{Value}
use Rattle.okws_base.specs.declared.value.Value.TheVariants.{Int, Text, Bytes}
use Rattle.frame_codec.specs.declared.field.Misread.{Misread}
use Rattle.frame_codec.specs.declared.field.ReadError.{ReadError}
use Rattle.frame_codec.specs.declared.field.ReadError.TheVariants.{Bad, Memory}

-- What reading from the front may give.
abbrev pub Reader : Type 0 → Type 0
Reader A = List ℕ → Option (A × List ℕ)

-- One value and then another.
abbrev pub both : {A B : Type 0} → Reader A → Reader B → Reader (A × B)
both first second bytes = option_and_then (λ a. option_and_then (λ b. Some ((a.0, b.0), b.1)) (second a.1)) (first bytes)

-- A value by which the next is read, and that next one.
abbrev pub after : {A B : Type 0} → Reader A → (A → Reader B) → Reader B
after first second bytes = option_and_then (λ a. second a.0 a.1) (first bytes)

-- What is made of a value.
abbrev pub mapped : {A B : Type 0} → (A → B) → Reader A → Reader B
mapped make read bytes = option_map (λ a. (make a.0, a.1)) (read bytes)

-- A value that passes a test.
abbrev pub checked : {A : Type 0} → (A → Bool) → Reader A → Reader A
checked test read bytes = option_and_then (λ a. if test a.0 then Some a else None) (read bytes)

-- So many bytes.
unfoldable pub fixed_at : ℕ → Reader (List ℕ)
fixed_at n bytes = if nat_lt (length bytes) n then None else Some (take n bytes, drop n bytes)

-- One byte.
unfoldable pub byte_at : Reader ℕ
byte_at [] = None
byte_at (b ∷ rest) = Some (b, rest)

-- A number, the high byte first.
unfoldable pub number_at : Width → Reader ℕ
number_at w bytes = mapped (from_be_bytes w) (fixed_at (byte_len w)) bytes

-- A byte string.
unfoldable pub string_at : Reader (List ℕ)
string_at bytes = after (number_at w32) fixed_at bytes

-- A name.
unfoldable pub name_at : Reader (List ℕ)
name_at bytes = after byte_at fixed_at bytes

-- What stands behind a value's tag.
unfoldable pub tagged_at : ℕ → Reader Value
tagged_at tag bytes =
    if tag == 1 then mapped (λ n. Int (cast_signed w64 n)) (number_at w64) bytes
    else if tag == 2 then mapped Text (checked is_utf8 string_at) bytes
    else if tag == 3 then mapped Bytes string_at bytes
    else None

-- A value.
unfoldable pub value_at : Reader Value
value_at bytes = after byte_at tagged_at bytes

-- So many of what one reading gives, one after another.
unfoldable pub listed_at : {A : Type 0} → Reader A → ℕ → Reader (List A)
listed_at read zero bytes = Some ([], bytes)
listed_at read (suc n) bytes = mapped (λ p. p.0 ∷ p.1) (both read (listed_at read n)) bytes

-- So many values.
abbrev pub many_at : ℕ → Reader (List Value)
many_at n bytes = listed_at value_at n bytes

-- A value behind which nothing stands.
abbrev pub all_of : {A : Type 0} → Option (A × List ℕ) → Option A
all_of None = None
all_of (Some a) = if length a.1 == 0 then Some a.0 else None

-- The frame whose kind and fields are all of these bytes, where the fields of a kind are read so.
abbrev pub payload_at : {F : Type 0} → (ℕ → List ℕ → Option F) → List ℕ → Option F
payload_at fields [] = None
payload_at fields (kind ∷ bytes) = fields kind bytes

-- What a function found, seen by view, is what reading gives.
abbrev pub Finds : {X Y : Type 0} → (X → Y) → Result X Misread → Option Y → Type 0
Finds view (Ok x) read = read ≡ Some (view x)
Finds view (Err e) read = read ≡ None

-- What a function returned, seen by view, is what reading gives; where memory was refused reading gives something.
abbrev pub Gives : {X Y : Type 0} → (X → Y) → Result X ReadError → Option Y → Type 0
Gives view (Ok x) read = read ≡ Some (view x)
Gives view (Err Bad) read = read ≡ None
Gives view (Err Memory) read = IsSome read
