-- What a script's run prints, line by line, and what an incarnation heard by it.
use Rattle.std.specs.Prelude.{◌≡◌, ℕ, List, [], ◌==◌, ◌&&◌, if◌then◌else◌, flat_map}
use Rattle.okws_plan.specs.declared.configuration.Config.{Config}
use Rattle.frame_codec.specs.Spelling.{server_spelling}
use Rattle.frame_codec.specs.declared.frame.ServerFrame.{ServerFrame}
use Rattle.monitor_model.specs.declared.record.Record.{Record}
use Rattle.monitor_model.specs.Cell.{heard}
use Rattle.monitor_model.specs.Merged.{cell_past}
use Rattle.monitor_model.specs.Stage.{heard_line, answer_line}

-- A line that is printed: a frame that incarnation k of s heard, or the answer to request n.
pub data Told : Type 0 where
  ToldFrame : (s k : ℕ) → (frame : ServerFrame) → Told
  ToldAnswer : (n : ℕ) → (text : List ℕ) → Told

-- The bytes of the line.
abbrev pub told_line : Config → Told → List ℕ
told_line C (ToldFrame s k frame) = heard_line C s k frame
told_line C (ToldAnswer n text) = answer_line n text

-- The bytes of the lines, in order.
abbrev pub told_text : Config → List Told → List ℕ
told_text C lines = flat_map (told_line C) lines

-- What incarnation k of s heard by a line: the bytes of its frame.
abbrev pub told_at : ℕ → ℕ → Told → List ℕ
told_at s k (ToldFrame t j frame) = if (t == s) && (j == k) then server_spelling frame else []
told_at s k (ToldAnswer n text) = []

-- What incarnation k of s heard by the lines, in order.
abbrev pub told_to : ℕ → ℕ → List Told → List ℕ
told_to s k lines = flat_map (told_at s k) lines

-- What is printed is lines of frames and of answers, and by them each incarnation heard just what its cell says that it heard.
pub record TellsAll (C : Config) (seed : List ℕ) (R : Record) (printed : List ℕ) : Type 0 where
  pub lines : List Told
  pub text_is : printed ≡ told_text C lines
  pub heard_is : (s k : ℕ) → told_to s k lines ≡ heard C seed s k (cell_past R s)
