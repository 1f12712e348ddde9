-- Templates as parts: texts, and places that stand for values.
use Rattle.std.specs.Prelude.{ℕ, ◌+◌, ◌==◌, ◌&&◌, List, [], ◌∷◌, ◌++◌, length, take, drop, Option, Some, None, position, if◌then◌else◌, codes}
use Rattle.std.specs.List.{slice_split}
use Rattle.okws_base.specs.Names.{is_name}
use Rattle.okws_base.specs.Value.{same_bytes}
use Rattle.plain_text.specs.Parts.{is_byte}

-- A part of a template: a text that stands for itself, a place of an escaped or of a plain value by its name, or an `@{` that is neither. The number is the place of the `@`.
pub data Part : Type 0 where
  Text : List ℕ → Part
  Escaped : ℕ → List ℕ → Part
  Plain : ℕ → List ℕ → Part
  Neither : ℕ → Part

-- The name behind `raw:`.
abbrev pub raw_name : List ℕ → Option (List ℕ)
raw_name inner = if same_bytes (take 4 inner) (codes "raw:") && is_name (drop 4 inner) then Some (drop 4 inner) else None

-- The place of a plain value, or none.
abbrev pub plain : ℕ → Option (List ℕ) → Part
plain at None = Neither at
plain at (Some name) = Plain at name

-- The place that the bytes between `{` and `}` name: NAME, or `raw:` and NAME.
abbrev pub place : ℕ → List ℕ → Part
place at inner = if is_name inner then Escaped at inner else plain at (raw_name inner)

-- The parts behind an `@{`, by where the first `}` is.
abbrev pub closed : ℕ → List ℕ → Option ℕ → List Part
closed at rest None = Neither at ∷ []
closed at rest (Some end) = place at (take end rest) ∷ Text (drop (end + 1) rest) ∷ []

-- What stands behind a `{` at the front.
abbrev pub behind_brace : List ℕ → Option (List ℕ)
behind_brace [] = None
behind_brace (b ∷ rest) = if b == 123 then Some rest else None

-- The parts that an `@` begins, by what stands between it and the next one, and there behind a `{`. One that no `{` follows is itself.
abbrev pub opened : ℕ → List ℕ → Option (List ℕ) → List Part
opened at piece None = Text (64 ∷ piece) ∷ []
opened at piece (Some rest) = closed at rest (position (is_byte 125) rest)

-- The parts that an `@` begins, by what stands between it and the next one.
abbrev pub begun : ℕ → List ℕ → List Part
begun at piece = opened at piece (behind_brace piece)

-- The parts that each `@` begins, the first of which stands at such a place.
abbrev pub all_begun : ℕ → List (List ℕ) → List Part
all_begun at [] = []
all_begun at (piece ∷ more) = begun at piece ++ all_begun (at + 1 + length piece) more

-- The parts of a text that each `@` cuts.
abbrev pub parts_of : List (List ℕ) → List Part
parts_of [] = []
parts_of (front ∷ more) = Text front ∷ all_begun (length front) more

-- What stands behind the last `@`, if there was one, as each `@` in it cuts it.
abbrev pub cut : Option (List ℕ) → List (List ℕ)
cut None = []
cut (Some rest) = slice_split (is_byte 64) rest

-- The parts of a template. A name has no `@`, so no place goes beyond the next one.
abbrev pub parts : List ℕ → List Part
parts template = parts_of (slice_split (is_byte 64) template)
