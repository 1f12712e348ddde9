-- What stands at the front of the bytes that were read, as the program tells it.
use Rattle.std.specs.Prelude.{◌≡◌, ℕ, Bool, true, false, List, ◌++◌, length}
use Rattle.httparse.specs.Grammar.{RequestHead, print_request}
use Rattle.httparse.specs.Spans.{span_bytes, IsWithin}
use Rattle.httparse.specs.declared.spans.RequestSpans.{RequestSpans}
use Rattle.http_text.specs.Response.{is_head}
use Rattle.http_text.specs.Reading.{checked, waits, checked_head, waits_head, is_too_long, IsWholeHead, HasFront}
use Rattle.http_text.specs.Reading.{Overlong, Hopeless, Unfinished}
use Rattle.http_front.specs.Places.{At}
use Rattle.http_front.specs.declared.places.Place.{Place}
use Rattle.http_front.specs.declared.looking.WholeHead.{WholeHead}
use Rattle.http_front.specs.declared.looking.Look.{Look}
use Rattle.http_front.specs.declared.looking.Look.TheVariants.{Whole, TooLong, Broken, Open}

-- What is told of a head where its parts stand there, and its fields are these.
pub record Describes (bytes : List ℕ) (head : RequestSpans) (fields : List (List ℕ × List ℕ)) (whole : WholeHead) : Type 0 where
  pub method : whole.method ≡ head.method
  pub target : whole.target ≡ head.path
  pub len : whole.len ≡ head.len
  pub checked_is : whole.checked ≡ checked (span_bytes bytes head.path) (span_bytes bytes head.method) head.version fields
  pub waits_is : whole.waits ≡ waits whole.checked head.version fields
  pub to_head : whole.to_head ≡ is_head (span_bytes bytes head.method)

-- What is told of a whole head.
pub record Tells (h : RequestHead) (whole : WholeHead) : Type 0 where
  pub method : span_bytes (print_request h) whole.method ≡ h.method
  pub target : span_bytes (print_request h) whole.target ≡ h.target
  pub method_within : IsWithin whole.len whole.method
  pub target_within : IsWithin whole.len whole.target
  pub len : whole.len ≡ length (print_request h)
  pub checked_is : whole.checked ≡ checked_head h
  pub waits_is : whole.waits ≡ waits_head h
  pub to_head : whole.to_head ≡ is_head h.method

-- What was found at the front of the bytes stands there.
abbrev pub Looks : List ℕ → Look → Type 0
Looks bytes (Whole whole) = (h : RequestHead) × (rest : List ℕ) × IsWholeHead bytes h rest × Tells h whole
Looks bytes TooLong = HasFront bytes Overlong
Looks bytes Broken = HasFront bytes Hopeless
Looks bytes Open = HasFront bytes Unfinished

-- What bytes are without a whole head, by whether none can become of them.
abbrev pub LooksWithout : List ℕ → Bool → Look → Type 0
LooksWithout bytes broken (Whole whole) = ⊥
LooksWithout bytes broken TooLong = is_too_long bytes ≡ true
LooksWithout bytes broken Broken = (is_too_long bytes ≡ false) × (broken ≡ true)
LooksWithout bytes broken Open = (is_too_long bytes ≡ false) × (broken ≡ false)

-- The same, where the first so many could become a head and it's known where they end; and where the bytes still can, it's known where they end.
abbrev pub LooksOn : Place → List ℕ → ℕ → Place → Look → Type 0
LooksOn old bytes before new look =
    (front more : List ℕ) → bytes ≡ front ++ more → before ≡ length front → At old front → HasFront front Unfinished → Looks bytes look × (look ≡ Open → At new bytes)
