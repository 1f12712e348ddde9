-- What commands are answered.
use Rattle.std.specs.Prelude.{ℕ, List, [], ◌∷◌, ◌++◌, codes, decimal}
use Rattle.admin_console.specs.declared.answer.Answer.{Answer}
use Rattle.admin_console.specs.declared.answer.Answer.TheVariants as answer
use Rattle.admin_console.specs.declared.controls.Publishing.{Publishing}
use Rattle.admin_console.specs.declared.controls.Publishing.TheVariants as publishing
use Rattle.admin_console.specs.declared.controls.Relaunching.{Relaunching}
use Rattle.admin_console.specs.declared.controls.Status.{Status}
use Rattle.admin_console.specs.declared.controls.Relaunching.TheVariants as relaunching
use Rattle.admin_console.specs.declared.rule.Rule.TheVariants as rule
use Rattle.admin_console.specs.Orders.{rule_number}

-- A space and a number.
abbrev pub field : ℕ → List ℕ
field n = 32 ∷ decimal n

-- A text, and the counts of a status behind it.
abbrev pub with_counts : List ℕ → Status → List ℕ
with_counts text t = ((((text ++ field t.connections) ++ field t.accepts) ++ field t.launches) ++ field t.publications) ++ field t.logged

-- A text, and behind it how the services stand by a status.
abbrev pub with_standing : List ℕ → Status → List ℕ
with_standing text t = ((text ++ field t.up) ++ field t.down) ++ field t.dead

-- The line of an answer: `published N`, `relaunched K`, `dead TRIES`, `refused LINE RULE`, `no memory`, `stopping N`, or `status` and eight numbers, and LF.
abbrev pub answer_text : Answer → List ℕ
answer_text (answer.Published n) = codes "published " ++ decimal n ++ 10 ∷ []
answer_text (answer.Relaunched k) = codes "relaunched " ++ decimal k ++ 10 ∷ []
answer_text (answer.Dead tries) = codes "dead " ++ decimal tries ++ 10 ∷ []
answer_text (answer.Refused line broken) = codes "refused " ++ decimal line ++ 32 ∷ decimal (rule_number broken) ++ 10 ∷ []
answer_text answer.NoMemory = codes "no memory" ++ 10 ∷ []
answer_text (answer.Status t) = with_standing (with_counts (codes "status") t) t ++ 10 ∷ []
answer_text (answer.Stopping n) = codes "stopping " ++ decimal n ++ 10 ∷ []

-- The answer to a publication of this line.
abbrev pub publishing_answer : ℕ → Publishing → Answer
publishing_answer line (publishing.Edition n) = answer.Published n
publishing_answer line publishing.EditionsSpent = answer.Refused line rule.EditionsSpent
publishing_answer line publishing.NoMemory = answer.NoMemory

-- The answer to a relaunch of this line.
abbrev pub relaunching_answer : ℕ → Relaunching → Answer
relaunching_answer line (relaunching.Up k) = answer.Relaunched k
relaunching_answer line (relaunching.Dead tries) = answer.Dead tries
relaunching_answer line relaunching.Spent = answer.Refused line rule.IncarnationsSpent
relaunching_answer line relaunching.NoMemory = answer.NoMemory
