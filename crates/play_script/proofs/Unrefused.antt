-- No line of a drill is refused.
use Rattle.std.proofs.Common.{◌≡◌, ◌≢◌, ◌∙◌, ℕ, zero, suc, ◌+◌, ◌*◌, ◌<◌, ◌≤◌, Bool, true, false, List, [], ◌∷◌, ◌++◌, length, map, Option, Some, None, refl, sym, ap, subst, arith, inl, inr, ◌⊎◌, ◌==◌}
use Rattle.std.specs.Prelude.{◌&&◌, codes, if◌then◌else◌, nat_le, nat_lt}
use Rattle.std.specs.Int.{to_be_bytes, w32}
use Rattle.std.specs.List.{list_all}
use Rattle.std.proofs.lemmas.Bool.{and_parts, cases_eq, eqb-true, lt-leb}
use Rattle.std.proofs.lemmas.List.{length-replicate}
use Rattle.okws_base.specs.Names.{is_name}
use Rattle.okws_base.specs.Past.{is_just}
use Rattle.okws_base.specs.Runs.{Each}
use Rattle.okws_base.specs.declared.limit.TheConstants.{MOST_EDITIONS, MOST_FRAMES, MOST_INCARNATIONS}
use Rattle.okws_plan.specs.Configuration.{owner}
use Rattle.okws_plan.specs.Lines.{service_names}
use Rattle.okws_plan.specs.declared.configuration.Config.{Config}
use Rattle.okws_plan.specs.declared.event.PubdEvent.TheVariants as pubd
use Rattle.okws_plan.specs.declared.script.Line.{Line}
use Rattle.okws_plan.specs.declared.script.Line.TheVariants as line
use Rattle.okws_plan.specs.declared.script.Method.TheVariants as method
use Rattle.frame_codec.specs.Spelling.{service_spelling}
use Rattle.frame_codec.specs.declared.frame.ServiceFrame.{ServiceFrame}
use Rattle.http_text.specs.Target.{path}
use Rattle.monitor_model.specs.declared.verdict.Way.{Way}
use Rattle.monitor_model.specs.declared.verdict.Way.TheVariants as way
use Rattle.monitor_model.specs.Okd.{accept_verdict}
use Rattle.monitor_model.specs.Pubd.{edition}
use Rattle.monitor_model.specs.Script.{Does, at_pubd, broken, greatest, refusal}
use Rattle.monitor_model.specs.Script as script
use Rattle.monitor_model.specs.Stage.{Asked, Stage, Stand, empty_stand, first_stage, request_head, stand, with_seen}
use Rattle.monitor_model.proofs.Lawful.Plain.{replicate_at}
use Rattle.play_script.specs.Course.{acted, course, first_course, incarnation_of, relaunched}
use Rattle.play_script.specs.DrillRefusal.{NeverRefused}
use Rattle.play_script.specs.Script.{act_lines, asks, dialog_lines, drill_script, first_lines, group, groups, path_of, reply_frame, says, token_seed}
use Rattle.play_script.specs.Site.{are_paths_owned, is_drilled_site}
use Rattle.play_script.specs.Words.{act_of, drill_word, number_of, service_of}
use Rattle.play_script.specs.declared.course.Course.{Course}
use Rattle.play_script.specs.declared.words.Act.{Act}
use Rattle.play_script.specs.declared.words.Act.TheVariants.{Publish, Relaunch}
use Rattle.play_script.specs.declared.words.TheConstants.{MOST_EVENTS}
use Rattle.play_script.proofs.Courses.{IsBounded, course_bounded}
use Rattle.play_script.proofs.Launching.{Launches, launches, relaunches}
use Rattle.play_script.proofs.Rests.{Beside, Rests, Speaks, beside_then, rests_beside}
use Rattle.play_script.proofs.Safe.{Safe, safe_at, safe_more, safe_then}
use Rattle.play_script.proofs.Sayable.{Sayable, asks_few, asks_sayable, reply_has}
use Rattle.play_script.proofs.Speaking.{IsAsked, Talks, accept_way, after_accept, asked_accept, beside_accept, dialog_allowed, dialog_opens, rests_accept}
use Rattle.play_script.proofs.FramesSaid.{Settles, bytes_allowed, frame_is_answered, frame_is_last}

-- ---- the site

-- What a site of a drill has, of which its lines make use.
record Owns (C : Config) : Type 0 where
  pub services : length C.services ≡ 2
  pub guest : owner C (codes "/guest") ≡ Some 0
  pub other : owner C (codes "/other") ≡ Some 1

just_is : (k : ℕ) (o : Option ℕ) → is_just k o ≡ true → o ≡ Some k
just_is k None e = absurd cc
just_is k (Some j) e = ap (λ (n : ℕ). Some n) (eqb-true j k e)

site_owns : (C : Config) → is_drilled_site C ≡ true → Owns C
site_owns C site =
    let one = and_parts (length C.services == 2) ((length C.templates == 2) && (list_all is_name (service_names C) && are_paths_owned C)) site in
    let two = and_parts (length C.templates == 2) (list_all is_name (service_names C) && are_paths_owned C) one.1 in
    let three = and_parts (list_all is_name (service_names C)) (are_paths_owned C) two.1 in
    let four = and_parts (is_just 0 (owner C (codes "/guest"))) (is_just 1 (owner C (codes "/other"))) three.1 in
    record {
      services = eqb-true (length C.services) 2 one.0;
      guest = just_is 0 (owner C (codes "/guest")) four.0;
      other = just_is 1 (owner C (codes "/other")) four.1;
    }

path_owned : (C : Config) (s : ℕ) → Owns C → s < 2 → owner C (path (path_of s)) ≡ Some s
path_owned C zero o lt = o.guest
path_owned C (suc zero) o lt = o.other
path_owned C (suc (suc s)) o lt = absurd (omega (arith, lt))

-- ---- both services at rest

-- Both services rest at their incarnations of a course, which has so many requests, and n words made few editions.
record Quiet (S : Stage) (at : Course) (n : ℕ) : Type 0 where
  pub rests : (t : ℕ) → t < 2 → Rests S t (incarnation_of at t)
  pub requests : length S.requests ≡ at.requests
  pub editions : edition S.seen.pubd 0 ≤ 3 * n

launch_allowed : (n : ℕ) → n < MOST_INCARNATIONS → broken (nat_le MOST_INCARNATIONS n) 8 None ≡ None
launch_allowed n few = ap (λ (b : Bool). broken b 8 None) (lt-leb MOST_INCARNATIONS n few)

both_rest : (S : Stage) → Rests S 0 1 → Rests S 1 1 → (t : ℕ) → t < 2 → Rests S t (incarnation_of first_course t)
both_rest S guest other zero lt = guest
both_rest S guest other (suc zero) lt = other
both_rest S guest other (suc (suc t)) lt = absurd (omega (arith, lt))

-- the second launch
second_safe : (C : Config) (seed : List ℕ) (S T : Stage) → Owns C → S ≡ first_stage C → Launches 0 1 S T → Safe C seed T (line.Launch 1 ∷ []) (λ U. Quiet U first_course 0)
second_safe C seed S T o is h =
    let was : stand S 1 ≡ empty_stand = ap (λ (X : Stage). stand X 1) is ∙ replicate_at (length C.services) 1 empty_stand in
    let none : greatest T 1 ≡ 0 = h.1.begun_is 1 (λ e. omega (arith, e)) ∙ ap (λ (X : Stage). greatest X 1) is in
    let shut : (stand T 1).open_dialog ≡ None = ap (λ (x : Stand). x.open_dialog) (h.1.stand_is 1 (λ e. omega (arith, e)) ∙ was) in
    let cells : length S.stands ≡ 2 = ap (λ (X : Stage). length X.stands) is ∙ length-replicate (length C.services) empty_stand ∙ o.services in (
      launch_allowed (greatest T 1) (omega (arith, none)),
      λ text U does.
          let next : Launches 1 1 T (script.launched C seed 1 T) = launches C seed 1 0 T none shut (omega (arith, h.1.cells_are, cells)) in
          let there : Launches 1 1 T U = subst (λ (X : Stage). Launches 1 1 T X) (sym does.0) next in
          record {
            rests = both_rest U (rests_beside 1 0 0 0 1 T U (λ e. omega (arith, e)) there.1 h.0) there.0;
            requests = omega (arith, there.1.requests_are, h.1.requests_are, ap (λ (X : Stage). length X.requests) is);
            editions = omega (arith, there.1.editions, h.1.editions, ap (λ (X : Stage). edition X.seen.pubd 0) is);
          },
    )

first_safe : (C : Config) (seed : List ℕ) → Owns C → Safe C seed (first_stage C) first_lines (λ U. Quiet U first_course 0)
first_safe C seed o =
    let S : Stage = first_stage C in
    let shut : (stand S 0).open_dialog ≡ None = ap (λ (x : Stand). x.open_dialog) (replicate_at (length C.services) 0 empty_stand) in
    let cells : length S.stands ≡ 2 = length-replicate (length C.services) empty_stand ∙ o.services in (
      launch_allowed (greatest S 0) (omega arith),
      λ text T does.
          second_safe C seed S T o refl (subst (λ (X : Stage). Launches 0 1 S X) (sym does.0) (launches C seed 0 0 S refl shut (omega (arith, cells)))),
    )

-- ---- an edition

publish_safe : (C : Config) (seed : List ℕ) (w : ℕ) (at : Course) (n m : ℕ) (S : Stage) → m ≡ n + 1 → n < MOST_EVENTS → Quiet S at n
    → Safe C seed S (line.Publish 0 (to_be_bytes w32 w) ∷ []) (λ T. Quiet T at m)
publish_safe C seed w at n m S is few q =
    let content : List ℕ = to_be_bytes w32 w in
    let T : Stage = with_seen S (at_pubd (pubd.Publish 0 content) S.seen) in (
      ap (λ (b : Bool). broken b 8 (broken (nat_lt 262144 (length content)) 9 None)) (lt-leb MOST_EDITIONS (edition S.seen.pubd 0) (omega (arith, q.editions, few))),
      λ text now does.
          subst (λ (X : Stage). Quiet X at m) (sym does.0) (record { rests = λ t lt. still t (q.rests t lt); requests = q.requests; editions = omega (arith, is, q.editions) }),
    )
  where
    still : (t : ℕ) → Rests S t (incarnation_of at t) → Rests (with_seen S (at_pubd (pubd.Publish 0 (to_be_bytes w32 w)) S.seen)) t (incarnation_of at t)
    still t r = record {
      calm = record { first = r.calm.first; greatest_is = r.calm.greatest_is; there = r.calm.there; up = r.calm.up; left_is = r.calm.left_is; goes_on = r.calm.goes_on; within = r.calm.within };
      shut = r.shut;
    }

-- ---- a new incarnation

few_incarnations : (s : ℕ) (at : Course) → IsBounded at → incarnation_of at s < MOST_INCARNATIONS
few_incarnations s at b = by_test (s == 0)
  where
    by_test : (c : Bool) → (if c then at.guest else at.other) < MOST_INCARNATIONS
    by_test true = omega (arith, b.guest)
    by_test false = omega (arith, b.other)

relaunched_here : (s : ℕ) (at : Course) → s < 2 → incarnation_of (relaunched s at) s ≡ incarnation_of at s + 1
relaunched_here zero at lt = refl
relaunched_here (suc zero) at lt = refl
relaunched_here (suc (suc s)) at lt = absurd (omega (arith, lt))

relaunched_there : (s t : ℕ) (at : Course) → s < 2 → t < 2 → t ≢ s → incarnation_of (relaunched s at) t ≡ incarnation_of at t
relaunched_there zero zero at lt low apart = absurd (apart refl)
relaunched_there zero (suc zero) at lt low apart = refl
relaunched_there (suc zero) zero at lt low apart = refl
relaunched_there (suc zero) (suc zero) at lt low apart = absurd (apart refl)
relaunched_there (suc (suc s)) t at lt low apart = absurd (omega (arith, lt))
relaunched_there zero (suc (suc t)) at lt low apart = absurd (omega (arith, low))
relaunched_there (suc zero) (suc (suc t)) at lt low apart = absurd (omega (arith, low))

relaunched_requests : (b : Bool) (guest other : Course) → guest.requests ≡ other.requests → (if b then guest else other).requests ≡ other.requests
relaunched_requests true guest other e = e
relaunched_requests false guest other e = refl

relaunched_rests : (s t : ℕ) (at : Course) (S T : Stage) → s < 2 → t < 2 → Rests S t (incarnation_of at t) → Launches s (incarnation_of at s + 1) S T → (t ≡ s) ⊎ (t ≢ s)
    → Rests T t (incarnation_of (relaunched s at) t)
relaunched_rests s t at S T lt low r h (inl is) =
    subst (λ (u : ℕ). Rests T u (incarnation_of (relaunched s at) u)) (sym is) (subst (λ (k : ℕ). Rests T s k) (sym (relaunched_here s at lt)) h.0)
relaunched_rests s t at S T lt low r h (inr apart) =
    subst (λ (k : ℕ). Rests T t k) (sym (relaunched_there s t at lt low apart)) (rests_beside s t 0 0 (incarnation_of at t) S T apart h.1 r)

relaunch_safe : (C : Config) (seed : List ℕ) (s : ℕ) (at : Course) (n m : ℕ) (S : Stage) → m ≡ n + 1 → s < 2 → incarnation_of at s < MOST_INCARNATIONS → Quiet S at n
    → Safe C seed S (line.Relaunch s ∷ []) (λ T. Quiet T (relaunched s at) m)
relaunch_safe C seed s at n m S is lt few q =
    let here : Rests S s (incarnation_of at s) = q.rests s lt in (
      launch_allowed (greatest S s) (omega (arith, here.calm.greatest_is, few)),
      λ text T does.
          let next : Launches s (incarnation_of at s + 1) S T
          = subst (λ (X : Stage). Launches s (incarnation_of at s + 1) S X) (sym does.0) (relaunches C seed s (incarnation_of at s) S here) in
          let same : (relaunched s at).requests ≡ at.requests = relaunched_requests (s == 0) (record at { guest = at.guest + 1 }) (record at { other = at.other + 1 }) refl in
          record {
            rests = λ t low. relaunched_rests s t at S T lt low (q.rests t low) next (cases_eq t s);
            requests = omega (arith, next.1.requests_are, q.requests, same);
            editions = omega (arith, is, next.1.editions, q.editions);
          },
    )

-- ---- a dialog

beside_at_most : (s m n most : ℕ) (S T : Stage) → n ≤ most → Beside s m n S T → Beside s m most S T
beside_at_most s m n most S T le h = record {
  begun_is = h.begun_is;
  up_is = h.up_is;
  stand_is = h.stand_is;
  cells_are = h.cells_are;
  requests_are = h.requests_are;
  editions = omega (arith, h.editions, le);
}

-- the frames before the Reply, in a dialog in which n were said
says_safe : (C : Config) (seed : List ℕ) (s k all : ℕ) (first : Stage) (frames : List ServiceFrame) (n : ℕ) (S : Stage) → Each Sayable frames → n + length frames ≡ all → all < MOST_FRAMES
    → Speaks S s k n [] → Beside s 1 n first S → Safe C seed S (map (says s) frames) (λ T. Speaks T s k all [] × Beside s 1 all first T)
says_safe C seed s k all first [] n S can is few h b =
    let same : n ≡ all = omega (arith, is) in
    (subst (λ (j : ℕ). Speaks S s k j []) same h, subst (λ (j : ℕ). Beside s 1 j first S) same b)
says_safe C seed s k all first (f ∷ more) n S can is few h b = (
  bytes_allowed s k n (service_spelling f) S h,
  λ text now does.
      let talks : Talks s k (n + 1) 0 1 S now = frame_is_answered C seed s k n f S now text h can.0.0 can.0.1 (omega (arith, is, few)) does in
      says_safe C seed s k all first more (n + 1) now can.1 (omega (arith, is)) few talks.0 (beside_then s 1 n 0 1 first S now b talks.1),
)

-- What holds once a request was answered: its service rests as before.
abbrev Answers : ℕ → ℕ → Stage → Stage → Type 0
Answers s k S T = Rests T s k × Beside s 1 2 S T

reply_safe : (C : Config) (seed : List ℕ) (s k n : ℕ) (first S : Stage) → n ≤ 2 → Speaks S s k n [] → Beside s 1 n first S → Safe C seed S (says s reply_frame ∷ []) (λ T. Answers s k first T)
reply_safe C seed s k n first S few h b = (
  bytes_allowed s k n (service_spelling reply_frame) S h,
  λ text now does.
      let settles : Settles s k S now = frame_is_last C seed s k n reply_frame S now text h reply_has refl (omega (arith, few)) does in
      (settles.0, beside_then s 1 2 0 0 first S now (beside_at_most s 1 n 2 first S few b) settles.1),
)

-- a dialog that is asked for
opened_safe : (C : Config) (seed : List ℕ) (s k n : ℕ) (frames : List ServiceFrame) (first S : Stage) → Each Sayable frames → length frames ≤ 2 → Rests S s k → IsAsked S s k n → Beside s 1 0 first S
    → Safe C seed S (line.Dialog n ∷ (map (says s) frames ++ says s reply_frame ∷ [])) (λ T. Answers s k first T)
opened_safe C seed s k n frames first S can few r a b = (
  dialog_allowed s k n S a r.shut,
  λ text now does.
      let talks : Talks s k 0 0 0 S now = dialog_opens C seed s k n S now text r a does in
      safe_then C seed now (map (says s) frames) (says s reply_frame ∷ []) (λ T. Speaks T s k (length frames) [] × Beside s 1 (length frames) first T) (λ T. Answers s k first T)
      (says_safe C seed s k (length frames) first frames 0 now can (omega arith) (omega (arith, few)) talks.0 (beside_then s 1 0 0 0 first S now b talks.1))
      (λ T h. reply_safe C seed s k (length frames) first T few h.0 h.1),
)

-- What an accept line of a path asks for.
abbrev asked_of : List ℕ → Asked
asked_of target = record { method = method.Get; head = request_head method.Get target []; content = []; goes = None; has_begun = false }

dialog_safe : (C : Config) (seed : List ℕ) (s k n : ℕ) (frames : List ServiceFrame) (S : Stage) → Owns C → s < 2 → Each Sayable frames → length frames ≤ 2 → Rests S s k → n ≡ length S.requests
    → Safe C seed S (dialog_lines s n frames) (λ T. Answers s k S T)
dialog_safe C seed s k n frames S o lt can few r is =
    let target : List ℕ = path (path_of s) in
    let goes : accept_verdict C S.seen.okd target ≡ way.To s k = accept_way C s k target S (path_owned C s o lt) r.calm.up in
    let A : Stage = after_accept (asked_of (path_of s)) target (way.To s k) S in (
      refl,
      λ text now does.
          let at : now ≡ A = does.0 ∙ ap (λ (w : Way). after_accept (asked_of (path_of s)) target w S) goes in
          subst (λ (T : Stage). Safe C seed T (line.Dialog n ∷ (map (says s) frames ++ says s reply_frame ∷ [])) (λ U. Answers s k S U)) (sym at)
          (opened_safe C seed s k n frames S A can few (rests_accept s k (asked_of (path_of s)) target (way.To s k) S r) (asked_accept s k n (asked_of (path_of s)) target S refl is)
          (beside_accept s (asked_of (path_of s)) target (way.To s k) S)),
    )

answered_rests : (s t : ℕ) (at : Course) (S T : Stage) → Rests S t (incarnation_of at t) → Answers s (incarnation_of at s) S T → (t ≡ s) ⊎ (t ≢ s) → Rests T t (incarnation_of at t)
answered_rests s t at S T r h (inl is) = subst (λ (u : ℕ). Rests T u (incarnation_of at u)) (sym is) h.0
answered_rests s t at S T r h (inr apart) = rests_beside s t 1 2 (incarnation_of at t) S T apart h.1 r

-- the lines of a word that asks for a dialog
asked_safe : (C : Config) (seed : List ℕ) (s : ℕ) (at : Course) (n m : ℕ) (frames : List ServiceFrame) (S : Stage) → m ≡ n + 1 → Owns C → s < 2 → Each Sayable frames → length frames ≤ 2 → Quiet S at n
    → Safe C seed S (dialog_lines s at.requests frames) (λ T. Quiet T (record at { requests = at.requests + 1 }) m)
asked_safe C seed s at n m frames S is o lt can few q =
    let k : ℕ = incarnation_of at s in
    safe_more C seed S (dialog_lines s at.requests frames) (λ T. Answers s k S T) (λ T. Quiet T (record at { requests = at.requests + 1 }) m)
    (λ T h. record {
      rests = λ t low. answered_rests s t at S T (q.rests t low) h (cases_eq t s);
      requests = omega (arith, h.1.requests_are, q.requests);
      editions = omega (arith, is, h.1.editions, q.editions);
    })
    (dialog_safe C seed s k at.requests frames S o lt can few (q.rests s lt) (sym q.requests))

-- ---- all words

-- the lines of a word
act_safe : (C : Config) (seed : List ℕ) (act : Act) (s : ℕ) (at : Course) (w n m : ℕ) (S : Stage) → m ≡ n + 1 → n < MOST_EVENTS → Owns C → s < 2 → IsBounded at → Quiet S at n
    → Safe C seed S (act_lines act s at w) (λ T. Quiet T (acted act s at) m)
act_safe C seed Publish s at w n m S is few o lt bounded q = publish_safe C seed w at n m S is few q
act_safe C seed Relaunch s at w n m S is few o lt bounded q = relaunch_safe C seed s at n m S is lt (few_incarnations s at bounded) q
act_safe C seed act s at w n m S is few o lt bounded q =
    asked_safe C seed s at n m (asks act s (incarnation_of at s) (number_of w)) S is o lt (asks_sayable act s (incarnation_of at s) (number_of w) (omega arith))
    (asks_few act s (incarnation_of at s) (number_of w)) q

groups_safe : (C : Config) (seed : List ℕ) (number n : ℕ) (S : Stage) → n ≤ MOST_EVENTS → Owns C → Quiet S first_course 0 → Safe C seed S (groups number n) (λ T. Quiet T (course number n) n)
groups_safe C seed number zero S few o q = q
groups_safe C seed number (suc n) S few o q =
    let at : Course = course number n in
    let w : ℕ = drill_word number n in
    safe_then C seed S (groups number n) (group at w) (λ T. Quiet T at n) (λ T. Quiet T (course number (suc n)) (suc n)) (groups_safe C seed number n S (omega (arith, few)) o q)
    (λ T h. act_safe C seed (act_of w) (service_of w) at w n (suc n) T (omega arith) (omega (arith, few)) o (omega arith) (course_bounded at number n refl (omega (arith, few))) h)

drill_safe : (C : Config) (seed : List ℕ) (number events : ℕ) → events ≤ MOST_EVENTS → Owns C
    → Safe C seed (first_stage C) (drill_script number events) (λ T. Quiet T (course number events) events)
drill_safe C seed number events few o =
    safe_then C seed (first_stage C) first_lines (groups number events) (λ T. Quiet T first_course 0) (λ T. Quiet T (course number events) events) (first_safe C seed o)
    (λ T h. groups_safe C seed number events T few o h)

pub never_refused : NeverRefused
never_refused C number events front rest line printed S site few parts plays =
    safe_at C token_seed (first_stage C) front rest line (λ T. Quiet T (course number events) events) printed S
    (subst (λ (lines : List Line). Safe C token_seed (first_stage C) lines (λ T. Quiet T (course number events) events)) parts (drill_safe C token_seed number events few (site_owns C site)))
    plays
