-- How far a drill has come: the present incarnation of each service, and how many requests there are.
use Rattle.std.specs.Prelude.{◌≡◌, ◌≤◌, ℕ, ◌+◌, zero, suc, ◌==◌, List, if◌then◌else◌}
use Rattle.play_script.specs.Words.{drill_seed, drill_word, act_of, service_of}
use Rattle.play_script.specs.declared.words.TheConstants.{MOST_EVENTS}
use Rattle.play_script.specs.declared.course.Course.{Course}
use Rattle.play_script.specs.declared.words.Act.{Act}
use Rattle.play_script.specs.declared.words.Act.TheVariants.{Publish, Relaunch}

-- Both services were launched once.
abbrev pub first_course : Course
first_course = record { guest = 1; other = 1; requests = 0 }

-- The present incarnation of a service.
abbrev pub incarnation_of : Course → ℕ → ℕ
incarnation_of at s = if s == 0 then at.guest else at.other

-- A service was launched again.
abbrev pub relaunched : ℕ → Course → Course
relaunched s at = if s == 0 then record at { guest = at.guest + 1 } else record at { other = at.other + 1 }

-- What an act of a service makes of it: nothing, a new incarnation, or a request more.
abbrev pub acted : Act → ℕ → Course → Course
acted Publish s at = at
acted Relaunch s at = relaunched s at
acted _ s at = record at { requests = at.requests + 1 }

-- What a word makes of it.
abbrev pub after : Course → ℕ → Course
after at w = acted (act_of w) (service_of w) at

-- What the first so many words of a drill have made.
abbrev pub course : ℕ → ℕ → Course
course number zero = first_course
course number (suc n) = after (course number n) (drill_word number n)

-- So many words made no more incarnations and requests than there were words.
pub record IsWithin (at : Course) (n : ℕ) : Type 0 where
  pub guest_first : 1 ≤ at.guest
  pub other_first : 1 ≤ at.other
  pub guest : at.guest ≤ n + 1
  pub other : at.other ≤ n + 1
  pub requests : at.requests ≤ n

-- A drill as contracts see it: its number, and how many words were taken.
pub record Taken : Type 0 where
  pub number : ℕ
  pub taken : ℕ

-- The seed is that of the drill's words, and the course is what the words that were taken have made.
pub record IsTaken (number : ℕ) (seed : List ℕ) (taken : ℕ) (at : Course) : Type 0 where
  pub seed_is : seed ≡ drill_seed number
  pub few : taken ≤ MOST_EVENTS
  pub course_is : at ≡ course number taken
