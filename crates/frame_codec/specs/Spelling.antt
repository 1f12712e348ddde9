-- The one spelling of each frame: a length of four bytes, a kind, and the fields.
use Rattle.std.specs.Prelude.{◌≡◌, ℕ, ◌-◌, ◌<◌, ◌^◌, ◌++◌, ◌&&◌, ◌||◌, ◌==◌, nat_le, not, Bool, List, [], ◌∷◌, length, fold, sum_by, flat_map, All, IsUtf8, IsTrue, slice_index, FitsSigned}
use Rattle.std.specs.List.{list_all}
use Rattle.std.specs.Int.{w16, w32, w64, to_be_bytes, cast_unsigned}
use Rattle.okws_base.specs.Runs.{Each}
use Rattle.okws_base.specs.declared.limit.TheConstants.{LONGEST_FRAME}
use Rattle.okws_base.specs.declared.value.Value.{Value}
use Rattle.okws_base.specs.declared.value.Value.TheVariants.{Int, Text, Bytes}
use Rattle.okws_base.specs.declared.value.Token.{Token}
use Rattle.frame_codec.specs.declared.frame.Issued.{Issued}
use Rattle.frame_codec.specs.declared.frame.ServiceFrame.{ServiceFrame}
use Rattle.frame_codec.specs.declared.frame.ServiceFrame.TheVariants.{Open, Call, Get, Log, Reply}
use Rattle.frame_codec.specs.declared.frame.ServerFrame.{ServerFrame}
use Rattle.frame_codec.specs.declared.frame.ServerFrame.TheVariants.{Boot, Request, Push, Opened, Rows, Changed, Template, Logged, Denied, Failed, NoMemory, Duplicate}

-- A number in two bytes, the high byte first.
unfoldable pub two : ℕ → List ℕ
two n = to_be_bytes w16 n

-- A number in four bytes, the high byte first.
unfoldable pub four : ℕ → List ℕ
four n = to_be_bytes w32 n

-- A number in eight bytes, the high byte first.
unfoldable pub eight : ℕ → List ℕ
eight n = to_be_bytes w64 n

-- A byte string is its length in four bytes, and its bytes.
abbrev pub string : List ℕ → List (List ℕ)
string bytes = four (length bytes) ∷ bytes ∷ []

-- A name is its length in one byte, and its bytes.
abbrev pub name : List ℕ → List (List ℕ)
name bytes = (length bytes ∷ []) ∷ bytes ∷ []

-- A value is tag 1 and a number in eight bytes, two's complement, or tag 2 or 3 and a byte string.
abbrev pub value : Value → List (List ℕ)
value (Int n) = (1 ∷ []) ∷ eight (cast_unsigned w64 n) ∷ []
value (Text t) = (2 ∷ []) ∷ string t
value (Bytes b) = (3 ∷ []) ∷ string b

-- The values of a row, one after another.
abbrev pub values : List Value → List (List ℕ)
values row = flat_map value row

-- A token that Boot carries is its proxy's number in two bytes, and its own twenty bytes.
abbrev pub token_parts : Issued → List (List ℕ)
token_parts issued = two issued.proxy ∷ issued.token.bytes ∷ []

-- The text, and the parts behind it, one after another.
abbrev pub joined : List ℕ → List (List ℕ) → List ℕ
joined text parts = fold (λ (text part : List ℕ). text ++ part) text parts

-- How many bytes the parts have together.
abbrev pub size : List (List ℕ) → ℕ
size parts = sum_by length parts

-- The length of what follows it, in four bytes, and then the parts.
abbrev pub framed : List (List ℕ) → List ℕ
framed parts = joined (four (size parts)) parts

-- What a service says: the kind, and the fields.
abbrev pub service_parts : ServiceFrame → List (List ℕ)
service_parts (Open p shown) = (0x41 ∷ []) ∷ two p ∷ shown.bytes ∷ []
service_parts (Call p n q args) = (0x42 ∷ []) ∷ two p ∷ four n ∷ two q ∷ (length args ∷ []) ∷ values args
service_parts (Get n) = (0x43 ∷ []) ∷ name n
service_parts (Log text) = (0x44 ∷ []) ∷ string text
service_parts (Reply status content_type location content) = (0x45 ∷ []) ∷ two status ∷ (name content_type ++ name location ++ string content)

-- What a service hears: the kind, and the fields.
abbrev pub server_parts : ServerFrame → List (List ℕ)
server_parts (Boot s k tokens) = (1 ∷ []) ∷ two s ∷ four k ∷ (length tokens ∷ []) ∷ flat_map token_parts tokens
server_parts (Request head content) = (2 ∷ []) ∷ (string head ++ string content)
server_parts (Push template edition content) = (3 ∷ []) ∷ (name template ++ four edition ∷ string content)
server_parts (Opened n) = (4 ∷ []) ∷ four n ∷ []
server_parts (Rows columns rows) = (5 ∷ []) ∷ (columns ∷ []) ∷ four (length rows) ∷ flat_map values rows
server_parts (Changed n) = (6 ∷ []) ∷ eight n ∷ []
server_parts (Template edition content) = (7 ∷ []) ∷ four edition ∷ string content
server_parts Logged = (8 ∷ []) ∷ []
server_parts (Denied rule) = (9 ∷ []) ∷ (rule ∷ []) ∷ []
server_parts Failed = (0x0a ∷ []) ∷ []
server_parts NoMemory = (0x0b ∷ []) ∷ []
server_parts Duplicate = (0x0c ∷ []) ∷ []

-- The one spelling of what a service says.
abbrev pub service_spelling : ServiceFrame → List ℕ
service_spelling frame = framed (service_parts frame)

-- The one spelling of what a service hears.
abbrev pub server_spelling : ServerFrame → List ℕ
server_spelling frame = framed (server_parts frame)

-- A Reply's status is one of eight.
abbrev pub is_reply_status : ℕ → Bool
is_reply_status n = (n == 200) || ((n == 201) || ((n == 303) || ((n == 400) || ((n == 403) || ((n == 404) || ((n == 409) || (n == 500)))))))

-- A byte 32 to 126.
abbrev pub is_printable : ℕ → Bool
is_printable b = nat_le 32 b && nat_le b 126

-- A byte 33 to 126.
abbrev pub is_visible : ℕ → Bool
is_visible b = nat_le 33 b && nat_le b 126

-- Neither the first nor the last byte is 32.
abbrev pub is_trimmed : List ℕ → Bool
is_trimmed t = not (slice_index t 0 == 32) && not (slice_index t (length t - 1) == 32)

-- A Reply's content type has 1 to 255 bytes 32 to 126, neither the first nor the last 32.
abbrev pub is_content_type : List ℕ → Bool
is_content_type t = nat_le 1 (length t) && (nat_le (length t) 255 && (list_all is_printable t && is_trimmed t))

-- A Reply's Location has 0 to 255 bytes 33 to 126.
abbrev pub is_location : List ℕ → Bool
is_location t = nat_le (length t) 255 && list_all is_visible t

-- Each byte is below 256.
abbrev pub Bytewise : List ℕ → Type 0
Bytewise bytes = All (λ b. b < 256) bytes

-- A number has 64 bits, a text is UTF-8, and bytes are bytes.
abbrev pub Spellable : Value → Type 0
Spellable (Int n) = FitsSigned w64 n
Spellable (Text t) = IsUtf8 t
Spellable (Bytes b) = Bytewise b

-- A token has twenty bytes.
abbrev pub IsToken : Token → Type 0
IsToken token = (length token.bytes ≡ 20) × Bytewise token.bytes

-- A token that Boot carries.
abbrev pub IsIssued : Issued → Type 0
IsIssued issued = (issued.proxy < 2 ^ 16) × IsToken issued.token

-- The fields of what a service says fit their places.
abbrev pub Fits : ServiceFrame → Type 0
Fits (Open p shown) = (p < 2 ^ 16) × IsToken shown
Fits (Call p n q args) = (p < 2 ^ 16) × (n < 2 ^ 32) × (q < 2 ^ 16) × (length args < 256) × Each Spellable args
Fits (Get n) = (length n < 256) × Bytewise n
Fits (Log text) = Bytewise text
Fits (Reply status content_type location content) =
    IsTrue (is_reply_status status) × IsTrue (is_content_type content_type) × IsTrue (is_location location) × Bytewise content

-- The fields of what a service hears fit their places.
abbrev pub FitsServer : ServerFrame → Type 0
FitsServer (Boot s k tokens) = (s < 2 ^ 16) × (k < 2 ^ 32) × (length tokens < 256) × Each IsIssued tokens
FitsServer (Request head content) = Bytewise head × Bytewise content
FitsServer (Push template edition content) = (length template < 256) × Bytewise template × (edition < 2 ^ 32) × Bytewise content
FitsServer (Opened n) = n < 2 ^ 32
FitsServer (Rows columns rows) = (columns < 256) × (length rows < 2 ^ 32) × Each (λ (row : List Value). (length row ≡ columns) × Each Spellable row) rows
FitsServer (Changed n) = n < 2 ^ 64
FitsServer (Template edition content) = (edition < 2 ^ 32) × Bytewise content
FitsServer Logged = Unit {0}
FitsServer (Denied rule) = rule < 256
FitsServer Failed = Unit {0}
FitsServer NoMemory = Unit {0}
FitsServer Duplicate = Unit {0}

-- A frame's length, which its first four bytes tell, is 1 to 1,048,576.
abbrev pub is_lawful_length : ℕ → Bool
is_lawful_length n = nat_le 1 n && nat_le n LONGEST_FRAME

-- What a service hears has a spelling where its fields fit and its length is lawful.
abbrev pub HasSpelling : ServerFrame → Type 0
HasSpelling frame = FitsServer frame × IsTrue (is_lawful_length (size (server_parts frame)))

-- What a service says has a spelling where its fields fit and its length is lawful.
abbrev pub ServiceHasSpelling : ServiceFrame → Type 0
ServiceHasSpelling frame = Fits frame × IsTrue (is_lawful_length (size (service_parts frame)))

-- The bytes are the one spelling of a frame, whose parts and whose places are these.
pub record SpellsBy {F : Type 0} (parts : F → List (List ℕ)) (fit : F → Type 0) (bytes : List ℕ) (frame : F) : Type 0 where
  pub fits : fit frame
  pub lawful : IsTrue (is_lawful_length (size (parts frame)))
  pub spelled : bytes ≡ framed (parts frame)

-- The bytes are the one spelling of what a service says.
abbrev pub Spells : List ℕ → ServiceFrame → Type 0
Spells bytes frame = SpellsBy service_parts Fits bytes frame

-- The bytes are the one spelling of what a service hears.
abbrev pub ServerSpells : List ℕ → ServerFrame → Type 0
ServerSpells bytes frame = SpellsBy server_parts FitsServer bytes frame
