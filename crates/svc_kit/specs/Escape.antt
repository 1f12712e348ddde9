-- Values as they stand in a page of HTML, and what they are read as.
use Rattle.std.specs.Prelude.{◌≡◌, ℕ, zero, suc, Bool, ◌==◌, ◌&&◌, not, List, [], ◌∷◌, length, take, Option, Some, None, IsSome, IsTrue, if◌then◌else◌, flat_map, codes}
use Rattle.std.specs.List.{list_all}
use Rattle.okws_base.specs.Value.{same_bytes}

-- A byte of an escaped value: five of them stand as references, the others as they are.
abbrev pub escaped_byte : ℕ → List ℕ
escaped_byte b =
    if b == 38 then codes "&amp;"
    else if b == 60 then codes "&lt;"
    else if b == 62 then codes "&gt;"
    else if b == 34 then codes "&quot;"
    else if b == 39 then codes "&#39;"
    else b ∷ []

-- An escaped value.
abbrev pub escaped : List ℕ → List ℕ
escaped value = flat_map escaped_byte value

-- A text begins with these bytes.
abbrev pub begins_with : List ℕ → List ℕ → Bool
begins_with front text = same_bytes (take (length front) text) front

-- The reference at the front of a text: the byte that it means, and how many bytes it has behind its first.
unfoldable pub reference : List ℕ → Option (ℕ × ℕ)
reference text =
    if begins_with (codes "&amp;") text then Some (38, 4)
    else if begins_with (codes "&lt;") text then Some (60, 3)
    else if begins_with (codes "&gt;") text then Some (62, 3)
    else if begins_with (codes "&quot;") text then Some (34, 5)
    else if begins_with (codes "&#39;") text then Some (39, 4)
    else None

-- What a text means behind so many bytes of a reference.
unfoldable pub unescaped_behind : ℕ → List ℕ → List ℕ
unescaped_behind skip [] = []
unescaped_behind (suc n) (b ∷ more) = unescaped_behind n more
unescaped_behind zero (b ∷ more) = elim (reference (b ∷ more)) [ None ↦ b ∷ unescaped_behind 0 more | Some r ↦ r.0 ∷ unescaped_behind r.1 more ]

-- What a text means: each of the five references is its byte, and any other byte is itself.
abbrev pub unescaped : List ℕ → List ℕ
unescaped text = unescaped_behind 0 text

-- A byte that neither opens nor closes a tag or a quoted value.
abbrev pub is_no_markup : ℕ → Bool
is_no_markup b = not (b == 60) && (not (b == 62) && (not (b == 34) && not (b == 39)))

-- Each `&` begins one of the five references.
abbrev pub OnlyReferences : List ℕ → Type 0
OnlyReferences [] = Unit {0}
OnlyReferences (b ∷ more) = (b ≡ 38 → IsSome (reference (b ∷ more))) × OnlyReferences more

-- An escaped value has no `<`, `>`, `"` or `'`.
abbrev pub EscapedHasNoMarkup : Type 0
EscapedHasNoMarkup = (value : List ℕ) → IsTrue (list_all is_no_markup (escaped value))

-- Each `&` in an escaped value begins one of the five references.
abbrev pub EscapedHasOnlyReferences : Type 0
EscapedHasOnlyReferences = (value : List ℕ) → OnlyReferences (escaped value)

-- An escaped value is read as the value.
abbrev pub EscapedIsReadAgain : Type 0
EscapedIsReadAgain = (value : List ℕ) → unescaped (escaped value) ≡ value
