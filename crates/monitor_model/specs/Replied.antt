-- How often each request is answered, by what a run prints and by where it ends.
use Rattle.std.specs.Prelude.{◌≡◌, ℕ, ◌+◌, Bool, true, false, List, [], ◌∷◌, ◌==◌, Option, Some, None, slice_get, if◌then◌else◌}
use Rattle.okws_base.specs.Past.{is_just}
use Rattle.okws_plan.specs.declared.configuration.Config.{Config}
use Rattle.monitor_model.specs.Stage.{Stage, Opened, Asked, stand}
use Rattle.monitor_model.specs.Told.{Told, ToldFrame, ToldAnswer, told_text}

-- A line is one answer to request n, or none.
abbrev pub answer_at : ℕ → Told → ℕ
answer_at n (ToldFrame s k frame) = 0
answer_at n (ToldAnswer m text) = if m == n then 1 else 0

-- How many of the lines answer request n.
abbrev pub answers_to : ℕ → List Told → ℕ
answers_to n [] = 0
answers_to n (line ∷ lines) = answer_at n line + answers_to n lines

-- The request of an open dialog, if any.
abbrev pub request_of : Option Opened → Option ℕ
request_of None = None
request_of (Some opened) = Some opened.request

-- The request whose dialog is open at the cell of s, if any.
abbrev pub asking : Stage → ℕ → Option ℕ
asking S s = request_of (stand S s).open_dialog

-- A request that goes to nobody is answered at once; one whose dialog wasn't begun isn't; another is, unless its dialog is open.
abbrev pub replies_where : ℕ → Option (ℕ × ℕ) → Bool → (ℕ → Option ℕ) → ℕ
replies_where n None begun open_at = 1
replies_where n (Some at) false open_at = 0
replies_where n (Some at) true open_at = if is_just n (open_at at.0) then 0 else 1

-- How often request n was answered, where it is there: once or not.
abbrev pub replies_of : ℕ → Option Asked → (ℕ → Option ℕ) → ℕ
replies_of n None open_at = 0
replies_of n (Some asked) open_at = replies_where n asked.goes asked.has_begun open_at

-- How often request n is answered where a run ends.
abbrev pub replies : Stage → ℕ → ℕ
replies S n = replies_of n (slice_get S.requests n) (asking S)

-- What is printed is lines of frames and of answers, and each request is answered once, unless its dialog wasn't begun or is open.
pub record AnswersOnce (C : Config) (stage : Stage) (printed : List ℕ) : Type 0 where
  pub lines : List Told
  pub text_is : printed ≡ told_text C lines
  pub answers_are : (n : ℕ) → answers_to n lines ≡ replies stage n
