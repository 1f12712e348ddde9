-- What the next frame of a link is. What is said By the parts and the places of frames holds of either direction.
use Rattle.std.specs.Prelude.{◌≡◌, ◌≢◌, ℕ, List, [], ◌⊎◌}
use Rattle.std.specs.declared.option.Option.{Option}
use Rattle.std.specs.declared.option.Option.TheVariants.{Some, None}
use Rattle.std.specs.Io.KnownBytes.{Consumes, Keeps, IsAtEnd}
use Rattle.frame_codec.specs.declared.frame.ServerFrame.{ServerFrame}
use Rattle.frame_codec.specs.declared.frame.ServiceFrame.{ServiceFrame}
use Rattle.frame_codec.specs.Spelling.{SpellsBy, service_parts, server_parts, Fits, FitsServer}
use Rattle.frame_codec.specs.Stream.{BeginsNoneBy, IsBadBy, IsShort, IsBadStopBy}
use Rattle.frame_link.specs.declared.receiving.NextFrame.{NextFrame}
use Rattle.frame_link.specs.declared.receiving.NextFrame.TheVariants.{Frame, Ended, BadFrame, LinkFault, NoMemory}

-- These bytes are left, where the link tells.
abbrev pub AreLeft : Option (List ℕ) → List ℕ → Type 0
AreLeft None bytes = Unit {0}
AreLeft (Some left) bytes = left ≡ bytes

-- What `next_frame` took from what was left, and what is left now.
-- A frame: exactly its spelling was taken. The end: no byte was taken, and none were left.
-- A bad frame: whatever frame begins with the bytes that were taken, they end inside it, and none are left.
-- After a fault, and where memory was refused, some bytes were taken.
abbrev pub IsNextBy : {F : Type 0} → (F → List (List ℕ)) → (F → Type 0) → Option (List ℕ) → Option (List ℕ) → NextFrame F → Type 0
IsNextBy parts fit old new (Frame frame) = (taken : List ℕ) × SpellsBy parts fit taken frame × Consumes old new taken
IsNextBy parts fit old new Ended = Keeps old new × IsAtEnd new
IsNextBy parts fit old new BadFrame = (since left : List ℕ) × Consumes old new since × AreLeft new left × IsBadStopBy parts fit since left
IsNextBy parts fit old new LinkFault = (since : List ℕ) × Consumes old new since
IsNextBy parts fit old new NoMemory = (since : List ℕ) × Consumes old new since

-- Where the link tells: no frame begins what was left, and it is bad, or it ends inside a frame and nothing of it is left.
abbrev pub IsBadFrontBy : {F : Type 0} → (F → List (List ℕ)) → (F → Type 0) → Option (List ℕ) → Option (List ℕ) → Type 0
IsBadFrontBy parts fit None new = Unit {0}
IsBadFrontBy parts fit (Some left) new = BeginsNoneBy parts fit left × (IsBadBy parts fit left ⊎ (IsShort left × (left ≢ []) × IsAtEnd new))

-- The next frame that a service says was taken.
abbrev pub IsNext : Option (List ℕ) → Option (List ℕ) → NextFrame ServiceFrame → Type 0
IsNext old new answer = IsNextBy service_parts Fits old new answer

-- Where the link tells: no frame that a service says begins what was left, and it is bad, or it ends inside one.
abbrev pub IsBadFront : Option (List ℕ) → Option (List ℕ) → Type 0
IsBadFront old new = IsBadFrontBy service_parts Fits old new

-- The next frame that a service hears was taken.
abbrev pub IsServerNext : Option (List ℕ) → Option (List ℕ) → NextFrame ServerFrame → Type 0
IsServerNext old new answer = IsNextBy server_parts FitsServer old new answer

-- Where the link tells: no frame that a service hears begins what was left, and it is bad, or it ends inside one.
abbrev pub IsServerBadFront : Option (List ℕ) → Option (List ℕ) → Type 0
IsServerBadFront old new = IsBadFrontBy server_parts FitsServer old new
