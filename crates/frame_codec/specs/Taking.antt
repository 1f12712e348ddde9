-- How bytes are taken one after another.
use Rattle.std.specs.Prelude.{ℕ, List, IsTrue}
use Rattle.frame_codec.specs.Spelling.{joined, size, is_lawful_length}

-- Where a text was to be taken since some start, the text and these parts are now.
abbrev pub Takes : {T : Type 0} → (T → List ℕ → T → Type 0) → T → List (List ℕ) → T → Type 0
Takes {T} took old parts new = (start : T) (text : List ℕ) → took start text old → took start (joined text parts) new

-- A frame has a spelling where its fields fit and the length of its parts is lawful.
abbrev pub IsFramed : {F : Type 0} → (F → List (List ℕ)) → (F → Type 0) → F → Type 0
IsFramed parts fits frame = fits frame × IsTrue (is_lawful_length (size (parts frame)))
