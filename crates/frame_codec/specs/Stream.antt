-- The frames of a stream. What is said By the parts and the places of frames holds of either direction.
use Rattle.std.specs.Prelude.{◌≡◌, ◌≢◌, ℕ, ◌<◌, ◌++◌, List, [], ◌∷◌, length, ◌⊎◌, IsTrue}
use Rattle.frame_codec.specs.Spelling.{SpellsBy, four, is_lawful_length, service_parts, server_parts, Fits, FitsServer}
use Rattle.frame_codec.specs.declared.frame.ServiceFrame.{ServiceFrame}
use Rattle.frame_codec.specs.declared.frame.ServerFrame.{ServerFrame}

-- The spelling of the frame stands at the front of the bytes, and the rest behind it.
abbrev pub BeginsBy : {F : Type 0} → (F → List (List ℕ)) → (F → Type 0) → List ℕ → F → List ℕ → Type 0
BeginsBy parts fit bytes frame rest = (front : List ℕ) × SpellsBy parts fit front frame × (bytes ≡ front ++ rest)

-- No frame stands at the front of the bytes.
abbrev pub BeginsNoneBy : {F : Type 0} → (F → List (List ℕ)) → (F → Type 0) → List ℕ → Type 0
BeginsNoneBy {F} parts fit bytes = (frame : F) (rest : List ℕ) → BeginsBy parts fit bytes frame rest → ⊥

-- There are fewer than four bytes, or a lawful length n and fewer than n bytes behind it.
abbrev pub IsShort : List ℕ → Type 0
IsShort bytes = (length bytes < 4) ⊎ ((n : ℕ) × (rest : List ℕ) × IsTrue (is_lawful_length n) × (bytes ≡ four n ++ rest) × (length rest < n))

-- What stands at the front is neither a frame nor a part of one that may go on.
abbrev pub IsBadBy : {F : Type 0} → (F → List (List ℕ)) → (F → Type 0) → List ℕ → Type 0
IsBadBy parts fit bytes = BeginsNoneBy parts fit bytes × (IsShort bytes → ⊥)

-- The frames of a stream are those that stand in it one after the other, up to its end, or up to the first place where none stands; the rest is what is left there.
abbrev pub FramesBy : {F : Type 0} → (F → List (List ℕ)) → (F → Type 0) → List ℕ → List F → List ℕ → Type 0
FramesBy parts fit bytes [] rest = (bytes ≡ rest) × BeginsNoneBy parts fit rest
FramesBy parts fit bytes (frame ∷ more) rest = (behind : List ℕ) × BeginsBy parts fit bytes frame behind × FramesBy parts fit behind more rest

-- Whatever frame begins with the bytes taken since the last frame, they end inside it, and none are left.
abbrev pub IsBadStopBy : {F : Type 0} → (F → List (List ℕ)) → (F → Type 0) → List ℕ → List ℕ → Type 0
IsBadStopBy {F} parts fit since left = (frame : F) (more : List ℕ) → SpellsBy parts fit (since ++ more) frame → (since ≢ []) × (more ≢ []) × (left ≡ [])

-- No byte was taken since the last frame, and none are left.
abbrev pub IsEndStop : List ℕ → List ℕ → Type 0
IsEndStop since left = (since ≡ []) × (left ≡ [])

-- ---- what a service says

-- The spelling of what a service says stands at the front of the bytes, and the rest behind it.
abbrev pub Begins : List ℕ → ServiceFrame → List ℕ → Type 0
Begins bytes frame rest = BeginsBy service_parts Fits bytes frame rest

-- No frame that a service says stands at the front of the bytes.
abbrev pub BeginsNone : List ℕ → Type 0
BeginsNone bytes = BeginsNoneBy service_parts Fits bytes

-- What stands at the front is neither a frame that a service says nor a part of one that may go on.
abbrev pub IsBad : List ℕ → Type 0
IsBad bytes = IsBadBy service_parts Fits bytes

-- The service's frames of a stream, and what is left behind them.
abbrev pub FramesOf : List ℕ → List ServiceFrame → List ℕ → Type 0
FramesOf bytes frames rest = FramesBy service_parts Fits bytes frames rest

-- Whatever frame of a service begins with the bytes taken since the last frame, they end inside it, and none are left.
abbrev pub IsBadStop : List ℕ → List ℕ → Type 0
IsBadStop since left = IsBadStopBy service_parts Fits since left

-- ---- what a service hears

-- The spelling of what a service hears stands at the front of the bytes, and the rest behind it.
abbrev pub ServerBegins : List ℕ → ServerFrame → List ℕ → Type 0
ServerBegins bytes frame rest = BeginsBy server_parts FitsServer bytes frame rest

-- No frame that a service hears stands at the front of the bytes.
abbrev pub ServerBeginsNone : List ℕ → Type 0
ServerBeginsNone bytes = BeginsNoneBy server_parts FitsServer bytes

-- The server's frames of a stream, and what is left behind them.
abbrev pub ServerFramesOf : List ℕ → List ServerFrame → List ℕ → Type 0
ServerFramesOf bytes frames rest = FramesBy server_parts FitsServer bytes frames rest

-- Whatever frame of the server begins with the bytes taken since the last frame, they end inside it, and none are left.
abbrev pub IsServerBadStop : List ℕ → List ℕ → Type 0
IsServerBadStop since left = IsBadStopBy server_parts FitsServer since left
