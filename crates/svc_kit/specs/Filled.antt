-- What a template means with values.
use Rattle.std.specs.Prelude.{◌≡◌, ℕ, List, [], ◌∷◌, length, nat_lt, Option, Some, None, unwrap_or, Result, Ok, Err, if◌then◌else◌, flat_map}
use Rattle.okws_base.specs.Value.{same_bytes}
use Rattle.svc_kit.specs.Escape.{escaped}
use Rattle.svc_kit.specs.Templates.{Part, Text, Escaped, Plain, Neither, parts}
use Rattle.svc_kit.specs.declared.bounded.TheConstants.{LONGEST_FILLED}
use Rattle.svc_kit.specs.declared.fill.Pair.{Pair}
use Rattle.svc_kit.specs.declared.fill.FillRule.{FillRule}
use Rattle.svc_kit.specs.declared.fill.FillRule.TheVariants.{BadPlace, NoSuchPair, TooLong}
use Rattle.svc_kit.specs.declared.fill.FillError.{FillError}
use Rattle.svc_kit.specs.declared.fill.FillError.TheVariants.{Refused, NoMemory}

-- A name and its value, as lists of bytes.
abbrev pub pair_of : Pair → List ℕ × List ℕ
pair_of pair = (pair.name.now, pair.value.now)

-- The number of a rule.
abbrev pub rule_number : FillRule → ℕ
rule_number BadPlace = 1
rule_number NoSuchPair = 2
rule_number TooLong = 3

-- The value of the first pair that has the name.
abbrev pub value_of : List (List ℕ × List ℕ) → List ℕ → Option (List ℕ)
value_of [] name = None
value_of (pair ∷ more) name = if same_bytes pair.0 name then Some pair.1 else value_of more name

-- What a part means: its text, or the value, escaped or plain.
abbrev pub meaning : List (List ℕ × List ℕ) → Part → List ℕ
meaning pairs (Text text) = text
meaning pairs (Escaped at name) = escaped (unwrap_or (value_of pairs name) [])
meaning pairs (Plain at name) = unwrap_or (value_of pairs name) []
meaning pairs (Neither at) = []

-- A place whose name no pair has is refused at its `@`.
abbrev pub unpaired : ℕ → Option (List ℕ) → Option (ℕ × FillRule)
unpaired at (Some value) = None
unpaired at None = Some (at, NoSuchPair)

-- Where a part is refused, and by which rule.
abbrev pub refusal : List (List ℕ × List ℕ) → Part → Option (ℕ × FillRule)
refusal pairs (Text text) = None
refusal pairs (Escaped at name) = unpaired at (value_of pairs name)
refusal pairs (Plain at name) = unpaired at (value_of pairs name)
refusal pairs (Neither at) = Some (at, BadPlace)

-- The first of the two refusals that there is.
abbrev pub or_later : Option (ℕ × FillRule) → Option (ℕ × FillRule) → Option (ℕ × FillRule)
or_later None later = later
or_later (Some first) later = Some first

-- The leftmost refusal.
abbrev pub first_refusal : List (List ℕ × List ℕ) → List Part → Option (ℕ × FillRule)
first_refusal pairs [] = None
first_refusal pairs (part ∷ more) = or_later (refusal pairs part) (first_refusal pairs more)

-- The parts' meanings, one after another.
abbrev pub meanings : List (List ℕ × List ℕ) → List Part → List ℕ
meanings pairs parts = flat_map (meaning pairs) parts

-- The text, where nothing is refused and it isn't too long; that is refused last, at the template's length.
abbrev pub settled : ℕ → Option (ℕ × FillRule) → List ℕ → Result (List ℕ) (ℕ × FillRule)
settled len (Some refused) text = Err refused
settled len None text = if nat_lt LONGEST_FILLED (length text) then Err (len, TooLong) else Ok text

-- The template filled with the values, or the place where it is refused and the rule that it breaks.
abbrev pub filling : List (List ℕ × List ℕ) → List ℕ → Result (List ℕ) (ℕ × FillRule)
filling pairs template = settled (length template) (first_refusal pairs (parts template)) (meanings pairs (parts template))

-- What was answered is what the template means, or memory was refused.
abbrev pub IsFilling : Result (List ℕ) FillError → Result (List ℕ) (ℕ × FillRule) → Type 0
IsFilling (Ok text) expected = expected ≡ Ok text
IsFilling (Err (Refused at rule)) expected = expected ≡ Err (at, rule)
IsFilling (Err NoMemory) expected = Unit {0}

-- A part of a template was put behind what was put before it, or is refused, or memory was refused.
abbrev pub IsPut : Result (Unit {0}) FillError → Option (ℕ × FillRule) → Type 0 → Type 0
IsPut (Ok done) refused put = (refused ≡ None) × put
IsPut (Err (Refused at rule)) refused put = refused ≡ Some (at, rule)
IsPut (Err NoMemory) refused put = Unit {0}
