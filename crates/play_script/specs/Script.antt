-- The script of a drill.
use Rattle.std.specs.Prelude.{ℕ, ◌==◌, zero, suc, List, [], ◌∷◌, ◌++◌, map, codes, pos, replicate, if◌then◌else◌}
use Rattle.std.specs.Int.{w32, to_be_bytes}
use Rattle.okws_base.specs.declared.value.Value.{Value}
use Rattle.okws_base.specs.declared.value.Value.TheVariants as value
use Rattle.okws_plan.specs.declared.script.Line.{Line}
use Rattle.okws_plan.specs.declared.script.Line.TheVariants as line
use Rattle.okws_plan.specs.declared.script.Method.TheVariants as method
use Rattle.token_core.specs.Token.{token_of}
use Rattle.frame_codec.specs.Spelling.{service_spelling}
use Rattle.frame_codec.specs.declared.frame.ServiceFrame.{ServiceFrame}
use Rattle.frame_codec.specs.declared.frame.ServiceFrame.TheVariants as frame
use Rattle.play_script.specs.Course.{course, incarnation_of}
use Rattle.play_script.specs.Words.{drill_word, act_of, service_of, number_of}
use Rattle.play_script.specs.declared.course.Course.{Course}
use Rattle.play_script.specs.declared.words.Act.{Act}
use Rattle.play_script.specs.declared.words.Act.TheVariants.{Publish, Relaunch, Select, Insert, Delete, OpenAsFirst, Get, Log}

-- The seed of the tokens of a drill's run: 32 zero bytes.
abbrev pub token_seed : List ℕ
token_seed = replicate 32 0

-- Open at the proxy, with the token of incarnation k of s.
abbrev pub open_frame : ℕ → ℕ → ServiceFrame
open_frame s k = frame.Open 0 (token_of token_seed s k 0)

-- Call of a query at the proxy, in session 0.
abbrev pub call_frame : ℕ → List Value → ServiceFrame
call_frame query args = frame.Call 0 0 query args

-- The Reply that ends each dialog: 200, and `ok` as plain text.
abbrev pub reply_frame : ServiceFrame
reply_frame = frame.Reply 200 (codes "text/plain") [] (codes "ok")

-- The id of a row, as an argument.
abbrev pub id_value : ℕ → Value
id_value n = value.Int (pos n)

-- The frames that s says in a dialog before its Reply: of incarnation k, about the row n.
abbrev pub asks : Act → ℕ → ℕ → ℕ → List ServiceFrame
asks Publish s k n = []
asks Relaunch s k n = []
asks Select s k n = open_frame s k ∷ call_frame 1 [] ∷ []
asks Insert s k n = open_frame s k ∷ call_frame 2 (id_value n ∷ value.Text (codes "d") ∷ value.Text [] ∷ []) ∷ []
asks Delete s k n = open_frame s k ∷ call_frame 3 (id_value n ∷ []) ∷ []
asks OpenAsFirst s k n = open_frame s 1 ∷ []
asks Get s k n = frame.Get (codes "page") ∷ []
asks Log s k n = frame.Log (codes "d") ∷ []

-- A frame comes from s.
abbrev pub says : ℕ → ServiceFrame → Line
says s frame = line.Bytes s (service_spelling frame)

-- The path of s.
abbrev pub path_of : ℕ → List ℕ
path_of s = if s == 0 then codes "/guest" else codes "/other"

-- The lines of request n, which s answers: it is accepted, its dialog begins, and each frame comes on a line of its own, the Reply last.
abbrev pub dialog_lines : ℕ → ℕ → List ServiceFrame → List Line
dialog_lines s n frames = line.Accept method.Get (path_of s) [] ∷ line.Dialog n ∷ (map (says s) frames ++ says s reply_frame ∷ [])

-- The lines of an act of s by a word.
abbrev pub act_lines : Act → ℕ → Course → ℕ → List Line
act_lines Publish s at w = line.Publish 0 (to_be_bytes w32 w) ∷ []
act_lines Relaunch s at w = line.Relaunch s ∷ []
act_lines act s at w = dialog_lines s at.requests (asks act s (incarnation_of at s) (number_of w))

-- The lines of a word.
abbrev pub group : Course → ℕ → List Line
group at w = act_lines (act_of w) (service_of w) at w

-- The lines of the first so many words of a drill.
abbrev pub groups : ℕ → ℕ → List Line
groups number zero = []
groups number (suc n) = groups number n ++ group (course number n) (drill_word number n)

-- Both services are launched.
abbrev pub first_lines : List Line
first_lines = line.Launch 0 ∷ line.Launch 1 ∷ []

-- The script of a drill of so many events.
abbrev pub drill_script : ℕ → ℕ → List Line
drill_script number events = first_lines ++ groups number events
