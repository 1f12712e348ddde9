-- What the words so far have made.
use Rattle.std.proofs.Common.{◌≡◌, ℕ, zero, suc, ◌+◌, ◌<◌, ◌≤◌, Bool, true, false, arith, subst, sym, ap, ◌∙◌, List}
use Rattle.std.specs.Prelude.{if◌then◌else◌, ◌==◌}
use Rattle.play_script.specs.Course.{IsWithin, acted, after, course}
use Rattle.token_core.specs.Token.{word}
use Rattle.play_script.specs.Script.{group}
use Rattle.play_script.specs.Words.{act_of, drill_seed, drill_word, service_of}
use Rattle.play_script.specs.declared.course.Course.{Course}
use Rattle.play_script.specs.declared.words.TheConstants.{MOST_EVENTS}
use Rattle.play_script.specs.declared.words.Act.{Act}
use Rattle.play_script.specs.declared.words.Act.TheVariants.{Publish, Relaunch}

-- a word more changes nothing
within_still : (at : Course) (n : ℕ) → IsWithin at n → IsWithin at (n + 1)
within_still at n h = record { guest_first = h.guest_first; other_first = h.other_first; guest = omega (arith, h.guest); other = omega (arith, h.other); requests = omega (arith, h.requests) }

within_request : (at : Course) (n : ℕ) → IsWithin at n → IsWithin (record at { requests = at.requests + 1 }) (n + 1)
within_request at n h = record { guest_first = h.guest_first; other_first = h.other_first; guest = omega (arith, h.guest); other = omega (arith, h.other); requests = omega (arith, h.requests) }

within_guest : (at : Course) (n : ℕ) → IsWithin at n → IsWithin (record at { guest = at.guest + 1 }) (n + 1)
within_guest at n h = record { guest_first = omega arith; other_first = h.other_first; guest = omega (arith, h.guest); other = omega (arith, h.other); requests = omega (arith, h.requests) }

within_other : (at : Course) (n : ℕ) → IsWithin at n → IsWithin (record at { other = at.other + 1 }) (n + 1)
within_other at n h = record { guest_first = h.guest_first; other_first = omega arith; guest = omega (arith, h.guest); other = omega (arith, h.other); requests = omega (arith, h.requests) }

within_relaunched : (b : Bool) (at : Course) (n : ℕ) → IsWithin at n →
    IsWithin (if b then record at { guest = at.guest + 1 } else record at { other = at.other + 1 }) (n + 1)
within_relaunched true at n h = within_guest at n h
within_relaunched false at n h = within_other at n h

pub within_acted : (act : Act) (s : ℕ) (at : Course) (n : ℕ) → IsWithin at n → IsWithin (acted act s at) (n + 1)
within_acted Publish s at n h = within_still at n h
within_acted Relaunch s at n h = within_relaunched (s == 0) at n h
within_acted _ s at n h = within_request at n h

within_from : (at : Course) (n m : ℕ) → m ≡ n + 1 → IsWithin at (n + 1) → IsWithin at m
within_from at n m e h = rw e h

-- the words so far made no more incarnations and requests than there were words
pub course_within : (number n : ℕ) → IsWithin (course number n) n
course_within number zero = record { guest_first = omega arith; other_first = omega arith; guest = omega arith; other = omega arith; requests = omega arith }
course_within number (suc n) =
    within_from (after (course number n) (drill_word number n)) n (suc n) (omega arith)
    (within_acted (act_of (drill_word number n)) (service_of (drill_word number n)) (course number n) n (course_within number n))

-- where fewer than 100,000 words were taken, each part of what they made is at most 100,000
pub record IsBounded (at : Course) : Type 0 where
  pub guest_first : 1 ≤ at.guest
  pub other_first : 1 ≤ at.other
  pub guest : at.guest ≤ MOST_EVENTS
  pub other : at.other ≤ MOST_EVENTS
  pub requests : at.requests ≤ MOST_EVENTS

pub course_bounded : (at : Course) (number n : ℕ) → at ≡ course number n → n < MOST_EVENTS → IsBounded at
course_bounded at number n e lt =
    let h : IsWithin at n = subst (λ (x : Course). IsWithin x n) (sym e) (course_within number n) in
    record { guest_first = h.guest_first; other_first = h.other_first; guest = omega (arith, h.guest, lt); other = omega (arith, h.other, lt); requests = omega (arith, h.requests, lt) }

-- the word at a place
pub word_is : (number n w : ℕ) (seed : List ℕ) → seed ≡ drill_seed number → w ≡ word seed 0 n → w ≡ drill_word number n
unfolding drill_word
word_is number n w seed e h = h ∙ ap (λ (s : List ℕ). word s 0 n) e

course_next : (number n m : ℕ) → m ≡ n → after (course number n) (drill_word number n) ≡ course number (suc m)
course_next number n m e = ap (λ (k : ℕ). course number (suc k)) (sym e)

-- what a word more has made
pub course_more : (number n m w : ℕ) (at : Course) → m ≡ n + 1 → at ≡ course number n → w ≡ drill_word number n → after at w ≡ course number m
course_more number n zero w at e a h = absurd (omega (arith, e))
course_more number n (suc m) w at e a h =
    ap (λ (x : Course). after x w) a ∙ ap (λ (v : ℕ). after (course number n) v) h ∙ course_next number n m (omega (arith, e))

-- the lines of the word at a place
pub group_is : (number n w : ℕ) (at : Course) → at ≡ course number n → w ≡ drill_word number n → group at w ≡ group (course number n) (drill_word number n)
group_is number n w at a h = ap (λ (x : Course). group x w) a ∙ ap (λ (v : ℕ). group (course number n) v) h
