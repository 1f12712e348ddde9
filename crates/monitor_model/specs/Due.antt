-- What was due on a link as it failed.
use Rattle.std.specs.Prelude.{ℕ, List, [], ◌∷◌}
use Rattle.frame_codec.specs.Spelling.{server_spelling}
use Rattle.frame_codec.specs.declared.frame.ServerFrame.{ServerFrame}

-- The bytes of the frame that was due, if one was.
abbrev pub due_text : List ServerFrame → List ℕ
due_text [] = []
due_text (frame ∷ before) = server_spelling frame
