-- Where the bytes of a head that isn't whole end (RFC 9112, sections 2 to 5).
use Rattle.std.specs.Prelude.{◌≡◌, ◌≤◌, ◌<◌, ◌⊎◌, ℕ, ◌+◌, false, List, [], ◌∷◌, ◌++◌, length, drop}
use Rattle.okws_base.specs.declared.limit.TheConstants.{LONGEST_HEAD}
use Rattle.httparse.specs.Grammar.{LineEnd, Field, IsToken, AllPass, is_uri_byte, is_value_byte, print_blank, print_version}
use Rattle.httparse.specs.Pieces.{Blank, FieldLines, RequestStart}
use Rattle.httparse.specs.Pieces as piece
use Rattle.http_text.specs.Reading.{ends_line, HasFront, Unfinished}
use Rattle.http_front.specs.declared.places.Place.{Place}
use Rattle.http_front.specs.declared.places.Place.TheVariants as place

-- The bytes end in one that is neither CR nor LF.
abbrev pub EndsPlain : List ℕ → Type 0
EndsPlain bytes = (front : List ℕ) × (b : ℕ) × (bytes ≡ front ++ b ∷ []) × (ends_line b ≡ false)

-- Behind a method and its space the rest stands.
pub record BehindMethod (bytes rest : List ℕ) : Type 0 where
  pub blank : List LineEnd
  pub method : List ℕ
  pub middle : List ℕ
  pub blanks : Blank blank bytes middle
  pub word : piece.Method method middle rest

-- Behind a target and its space the rest stands.
pub record BehindTarget (bytes rest : List ℕ) : Type 0 where
  pub from : List ℕ
  pub target : List ℕ
  pub behind : BehindMethod bytes from
  pub word : piece.Target target from rest

-- Behind a request line and some whole fields the rest stands.
pub record BehindLines (bytes rest : List ℕ) : Type 0 where
  pub line : List LineEnd × (List ℕ × (List ℕ × (ℕ × LineEnd)))
  pub middle : List ℕ
  pub start : RequestStart line bytes middle
  pub fields : List Field
  pub lines : FieldLines fields middle rest

-- The bytes end in a field behind its name and colon, where so much of its line stands.
abbrev pub EndsInField : List ℕ → (List ℕ → List ℕ) → Type 0
EndsInField bytes line_of =
    (name : List ℕ) × (raw : List ℕ) × IsToken name × AllPass is_value_byte raw × BehindLines bytes (name ++ 58 ∷ line_of raw)

-- The bytes end there.
abbrev pub At : Place → List ℕ → Type 0
At place.Blanks bytes = (blank : List LineEnd) × (bytes ≡ print_blank blank ++ [])
At place.BlankReturn bytes = (blank : List LineEnd) × (bytes ≡ print_blank blank ++ 13 ∷ [])
At place.Method bytes = (blank : List LineEnd) × (method : List ℕ) × IsToken method × (bytes ≡ print_blank blank ++ method) × EndsPlain bytes
At (place.Target start) bytes = (start ≤ length bytes) × BehindMethod bytes (drop start bytes) × AllPass is_uri_byte (drop start bytes) × EndsPlain bytes
At (place.Version start) bytes = (start ≤ length bytes) × BehindTarget bytes (drop start bytes)
At place.Line bytes = BehindLines bytes []
At place.Name bytes = (name : List ℕ) × IsToken name × BehindLines bytes name × EndsPlain bytes
At place.Value bytes = EndsInField bytes (λ raw. raw) × EndsPlain bytes
At place.ValueReturn bytes = EndsInField bytes (λ raw. raw ++ 13 ∷ [])
At place.Unknown bytes = Unit {0}

-- From the one place one more byte leads to the other.
abbrev pub Steps : Place → ℕ → Place → Type 0
Steps old b new = (bytes : List ℕ) → At old bytes → At new (bytes ++ b ∷ [])

-- The same behind so many bytes.
abbrev pub StepsFrom : ℕ → Place → ℕ → Place → Type 0
StepsFrom before old b new = (bytes : List ℕ) → before ≡ length bytes → At old bytes → At new (bytes ++ b ∷ [])

-- A version with what stands before the LF of its line.
abbrev pub IsVersion : List ℕ → Type 0
IsVersion bytes = (minor : ℕ) × (minor ≤ 1) × ((bytes ≡ print_version minor) ⊎ (bytes ≡ print_version minor ++ 13 ∷ []))

-- More bytes lead from the one place to the other, and a head that could become one still can.
abbrev pub StaysOver : Place → List ℕ → Place → Type 0
StaysOver old more new =
    (bytes : List ℕ) → At old bytes → HasFront bytes Unfinished → length bytes + length more < LONGEST_HEAD → At new (bytes ++ more) × HasFront (bytes ++ more) Unfinished

-- One more byte does.
abbrev pub Stays : Place → ℕ → Place → Type 0
Stays old b new = StaysOver old (b ∷ []) new
