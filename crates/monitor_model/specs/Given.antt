-- The bytes that come from a service, by the lines of a script, and which of them it said.
use Rattle.std.specs.Prelude.{◌≡◌, ◌≢◌, ℕ, List, [], ◌∷◌, ◌++◌, ◌==◌, if◌then◌else◌}
use Rattle.okws_plan.specs.declared.script.Line.{Line}
use Rattle.okws_plan.specs.declared.script.Line.TheVariants as line
use Rattle.frame_codec.specs.Stream.{BeginsNone}
use Rattle.monitor_model.specs.declared.record.CellEvent.{CellEvent}
use Rattle.monitor_model.specs.declared.record.CellEvent.TheVariants as cell
use Rattle.monitor_model.specs.declared.record.End.{End}
use Rattle.monitor_model.specs.declared.record.End.TheVariants as end
use Rattle.monitor_model.specs.Cell.{incarnation, last_booted, said}

-- What came from s since its last boot, after a line, from what came before it.
abbrev pub given_after : Line → ℕ → List ℕ → List ℕ
given_after (line.Bytes t bytes) s before = if t == s then before ++ bytes else before
given_after (line.Boot t) s before = if t == s then [] else before
given_after (line.Launch t) s before = if t == s then [] else before
given_after (line.Relaunch t) s before = if t == s then [] else before
given_after (line.Begin t) s before = before
given_after (line.Install t at) s before = before
given_after (line.Revoke t at) s before = before
given_after (line.Up t) s before = before
given_after (line.Down t) s before = before
given_after (line.Accept method target content) s before = before
given_after (line.Dialog n) s before = before
given_after (line.End t) s before = before
given_after (line.Publish t content) s before = before

-- The bytes that came from s since its last boot, by the lines, the newest first.
abbrev pub given_since : List Line → ℕ → List ℕ
given_since [] s = []
given_since (one ∷ lines) s = given_after one s (given_since lines s)

-- What an end that empties the cell leaves unread in a run: some bytes that begin no frame, where it is BadFrame; none, where the bytes ended between frames; whatever came behind the 4,097th frame. In a run no other end empties the cell.
abbrev pub LeavesUnread : End → List ℕ → Type 0
LeavesUnread end.BadFrame rest = (rest ≢ []) × BeginsNone rest
LeavesUnread end.Ended rest = rest ≡ []
LeavesUnread end.FrameLimit rest = Unit {0}
LeavesUnread end.Reply rest = ⊥
LeavesUnread (end.Superseded shown) rest = ⊥
LeavesUnread end.LinkFault rest = ⊥
LeavesUnread end.Starved rest = ⊥

-- What is unread where the cell has no incarnation: nothing before any Boot, else what its last dialog's end leaves.
abbrev pub IsUnread : List CellEvent → List ℕ → Type 0
IsUnread [] rest = rest ≡ []
IsUnread (cell.Missed worker wanted is ∷ J) rest = IsUnread J rest
IsUnread (cell.Dialog d ∷ J) rest = LeavesUnread d.end rest
IsUnread (cell.Boot k ∷ J) rest = ⊥
IsUnread (cell.Retired ∷ J) rest = ⊥
IsUnread (cell.Speaking worker items ∷ J) rest = ⊥

-- All that came from a cell's last incarnation is what it said in whole frames, and a rest: while the incarnation is there, just what is left on its link; after it, what was unread, and nothing is left.
pub record TakesAll (J : List CellEvent) (left came : List ℕ) : Type 0 where
  pub rest : List ℕ
  pub came_is : came ≡ said (last_booted J) J ++ rest
  pub here : incarnation J ≢ 0 → rest ≡ left
  pub gone : incarnation J ≡ 0 → (left ≡ []) × IsUnread J rest
