-- All that a worker does at a door, and at the console, is pieces of its list, and a door's connections are answered by these.
use Rattle.std.proofs.Common.{◌≡◌, inl, inr, ℕ, ◌%◌, ◌≤◌, true, false, List, [], ◌∷◌, ◌++◌, ◌+◌, length, refl, sym, ap, ◌∙◌, subst, append-nil, arith}
use Rattle.std.specs.Prelude.{Some, None, IsSome, count_by}
use Rattle.std.specs.declared.option.Option.{Option}
use Rattle.okws_plan.specs.declared.configuration.Config.{Config}
use Rattle.okws_outer.specs.Conns.{ConnWire}
use Rattle.okws_outer.specs.Doors.{Entrance}
use Rattle.okws_outer.specs.Streams.{counted}
use Rattle.http_front.specs.declared.kept.Kept.{Kept as KeptHead}
use Rattle.http_front.specs.Replies.{Replied}
use Rattle.monitor_model.specs.Connections.{Share}
use Rattle.door_worker.specs.Serving.{Serves, ServesOne, due_response}
use Rattle.door_worker.specs.declared.answer.Answer.{Answer}
use Rattle.door_worker.specs.declared.serving.Serving.{Serving}
use Rattle.door_worker.specs.declared.serving.Serving.TheVariants as serving
use Rattle.admin_console.specs.Steps.{IsDone}
use Rattle.admin_console.specs.declared.answer.Answer.{Answer as Told}
use Rattle.admin_console.specs.declared.controls.Publishing.{Publishing}
use Rattle.admin_console.specs.declared.controls.Publishing.TheVariants as publishing
use Rattle.admin_console.specs.declared.controls.Relaunching.{Relaunching}
use Rattle.admin_console.specs.declared.order.Order.{Order}
use Rattle.admin_console.specs.declared.order.Order.TheVariants as order
use Rattle.admin_console.specs.declared.step.Stepped.{Stepped}
use Rattle.admin_console.specs.declared.step.Stepped.TheVariants as stepped
use Rattle.site_worker.specs.Commands.{Commands, Oversees, StepsAt}
use Rattle.site_worker.specs.Handling.{Handles}
use Rattle.site_worker.specs.Lives.{Life, Starves}
use Rattle.site_worker.specs.Rounds.{Attends, GoesRound, Rounds, TendsAfter, TendsNext}
use Rattle.site_worker.specs.Steering.{Publishes, Relaunches, Surveys}
use Rattle.site_worker.specs.declared.console.Overseen.{Overseen}
use Rattle.site_worker.specs.declared.door.Attended.{Attended}
use Rattle.round_lives.specs.Living.{IsOf, LivesOn}
use Rattle.round_lives.specs.Laws.{is_accepted, is_order}
use Rattle.round_lives.specs.Serving.{IsFinished, LivesFor, ServesAll}
use Rattle.round_lives.proofs.Connected.{CourseIs, counts_cut, counts_whole, course_is, none_serves, served_cut, served_whole, serves_more, serves_then, told_given}
use Rattle.round_lives.proofs.Stepped.{asks_lives, lives_then, publishes_lives, same_lives, sees_lives, starves_lives, surveys_lives}
use Rattle.round_lives.proofs.Visiting.{same_visits, sees_visits, tends_visits, visits_then}

-- ---- at a door

module _ (C : Config) (n w : ℕ) {X : Type 0} (wire : X → ConnWire) where
  tends_next : (c : ℕ) (J K : Life) → IsOf w J → TendsNext C c J K → LivesFor C w [] J K
  tends_next c J K of (inl h) = same_visits C w J K of h.1
  tends_next c J K of (inr h) = tends_visits C w (c % length C.services) J K of h.1

  goes_round : (c : ℕ) (J K : Life) → IsOf w J → GoesRound C c J K → LivesFor C w [] J K
  goes_round c J K of h =
      let first : LivesFor C w [] J h.0 = tends_next c J h.0 of h.1 in
      visits_then C w [] [] J h.0 K first (sees_visits C w h.0 K first.lives.same h.2)

  tends_after : (c : ℕ) (what : Serving) (J K : Life) → IsOf w J → TendsAfter C c what J K → LivesFor C w [] J K
  tends_after c (serving.Served a) J K of h = goes_round c J K of h
  tends_after c (serving.ConnFault a) J K of h = goes_round c J K of h
  tends_after c serving.NoConn J K of h = goes_round c J K of h
  tends_after c serving.NoneCame J K of h = same_visits C w J K of h
  tends_after c serving.NoMemory J K of h = same_visits C w J K of h

  -- a connection that was finished
  module _ (e g f : Entrance) (I M K : Life) (head : KeptHead) (reply : Replied) (before : ServesAll wire C w e g I M) (of : IsOf w M) where
    finished_is : (what : Serving) (h : ServesOne wire (Handles C n) Starves g f M K head reply what)
        → IsFinished wire (record { came = h.begun.left; left = h.ended.left; given = h.ended.given; faults = h.ended.faults }) (record { read = head.bytes.items; written = h.attends.written })
    finished_is what h = record {
      read = h.attends.taken;
      prompt = h.attends.prompt;
      written = λ tells. told_given h.begun.given h.ended.given h.attends.written (subst (λ (x : ConnWire). IsSome x.given) (sym h.finishes.conn_is) (tells h.finishes.conn)) h.finishes.accepted.given h.attends.given;
    }

    course_of : (what : Serving) (h : ServesOne wire (Handles C n) Starves g f M K head reply what) → CourseIs C w h.attends.course head.bytes.items reply M K
    course_of what h = course_is C n w h.attends.course head.bytes.items h.ended.left reply M K of h.attends.is h.attends.handled

    served_one : (a : Answer) → ServesOne wire (Handles C n) Starves g f M K head reply (serving.Served a) → ServesAll wire C w e f I K
    served_one a h =
        let it : CourseIs C w h.attends.course head.bytes.items reply M K = course_of (serving.Served a) h in
        let all = h.attends.interim ++ due_response h.attends.course reply h.attends.method in
        let whole : all ≡ h.attends.written = h.attends.written_is.due ∙ (ap (λ (x : List ℕ). h.attends.written ++ x) h.attends.written_is.whole ∙ append-nil h.attends.written) in
        serves_more wire C w e g f I M K _ (record { read = head.bytes.items; written = h.attends.written }) false it.visit_is before
        (ap (λ (x : Entrance). x.finished) h.finishes.finished)
        (finished_is (serving.Served a) h)
        (served_whole h.attends.course (record { read = head.bytes.items; written = h.attends.written }) it.visit_is a all h.attends.told.0
        (it.due h.attends.interim h.attends.method h.attends.interim_is h.attends.method_is) whole)
        it.lives
        (subst (λ (x : ℕ). counted e.faults (0 + count_by (λ (share : Share). share.is_cut) before.shares) ≤ x) (sym (ap (λ (x : Entrance). x.faults) h.finishes.finished))
        (counts_whole e.faults (count_by (λ (share : Share). share.is_cut) before.shares) g.faults h.ended.faults before.cut))

    cut_one : (a : Option Answer) → ServesOne wire (Handles C n) Starves g f M K head reply (serving.ConnFault a) → ServesAll wire C w e f I K
    cut_one a h =
        let it : CourseIs C w h.attends.course head.bytes.items reply M K = course_of (serving.ConnFault a) h in
        serves_more wire C w e g f I M K _ (record { read = head.bytes.items; written = h.attends.written }) true it.visit_is before
        (ap (λ (x : Entrance). x.finished) h.finishes.finished)
        (finished_is (serving.ConnFault a) h)
        (served_cut h.attends.course (record { read = head.bytes.items; written = h.attends.written }) it.visit_is reply h.attends.interim h.attends.method h.attends.written_is.rest h.attends.interim_is
        (it.due h.attends.interim h.attends.method h.attends.interim_is h.attends.method_is) h.attends.written_is.due)
        it.lives
        (counts_cut e.faults (count_by (λ (share : Share). share.is_cut) before.shares) g.faults f.faults before.cut h.rose)

    turn_serves : (what : Serving) → Serves wire (Handles C n) Starves g f M K head reply what → ServesAll wire C w e f I K
    turn_serves (serving.Served a) h = served_one a h
    turn_serves (serving.ConnFault a) h = cut_one a h
    turn_serves serving.NoConn h = serves_then wire C w e g f I M K before (same_visits C w M K of h.1) (ap (λ (x : Entrance). x.finished) h.0.kept) h.0.later
    turn_serves serving.NoneCame h =
        serves_then wire C w e g f I M K before (same_visits C w M K of h.1) (ap (λ (x : Entrance). x.finished) h.0) (let s : f.faults ≡ g.faults = ap (λ (x : Entrance). x.faults) h.0 in omega arith)
    turn_serves serving.NoMemory h =
        serves_then wire C w e g f I M K before (same_visits C w M K of h.1) (ap (λ (x : Entrance). x.finished) h.0) (let s : f.faults ≡ g.faults = ap (λ (x : Entrance). x.faults) h.0 in omega arith)

  rounds : (seen : ℕ) (numbers : List ℕ) (e f : Entrance) (J K : Life) → IsOf w J → Rounds wire C n seen numbers e f J K → ServesAll wire C w e f J K
  rounds seen [] e f J K of h = none_serves wire C w e f J K of (ap (λ (x : Entrance). x.finished) h.0) (let s : f.faults ≡ e.faults = ap (λ (x : Entrance). x.faults) h.0 in omega arith) h.1
  rounds seen (number ∷ numbers) e f J K of h =
      let round = h.5 in
      let before : ServesAll wire C w e h.0 J h.1 = rounds seen numbers e h.0 J h.1 of h.2 in
      let served : ServesAll wire C w e f J round.mid = turn_serves e h.0 f J h.1 round.mid round.kept round.reply before before.lives.lives.same h.3 round.serves in
      serves_then wire C w e f f J round.mid K served (tends_after number h.3 round.mid K served.lives.lives.same round.tends) refl (omega arith)

  pub doors_are_served : (most seen : ℕ) (e f : Entrance) (J K : Life) (drawn now : List ℕ) (a : Attended) → IsOf w J → Attends wire C n most seen e f J K drawn now a → ServesAll wire C w e f J K
  doors_are_served most seen e f J K drawn now a of h = rounds seen h.numbers e f J K of h.rounds

  pub doors_are_lived : (most seen : ℕ) (e f : Entrance) (J K : Life) (drawn now : List ℕ) (a : Attended) → IsOf w J → Attends wire C n most seen e f J K drawn now a → LivesOn C w is_order J K
  doors_are_lived most seen e f J K drawn now a of h = (doors_are_served most seen e f J K drawn now a of h).lives.lives

-- ---- at the console

module _ (C : Config) (w : ℕ) where
  publishes : (J : Life) (t : ℕ) (content : List ℕ) (p : Publishing) (K : Life) → IsOf w J → Publishes J t content p K → LivesOn C w is_accepted J K
  publishes J t content (publishing.Edition m) K of h = publishes_lives C w is_accepted J K t content h.0 refl of h.2 h.3
  publishes J t content publishing.EditionsSpent K of h = sees_lives C w is_accepted J K of h.1
  publishes J t content publishing.NoMemory K of (inl h) = starves_lives C w is_accepted J K refl of h
  publishes J t content publishing.NoMemory K of (inr h) = same_lives C w is_accepted J K of h

  relaunches : (s : ℕ) (r : Relaunching) (J K : Life) → IsOf w J → Relaunches C J s r K → LivesOn C w is_accepted J K
  relaunches s r J K of (inl h) = asks_lives C w s h.0 J K of h.2
  relaunches s r J K of (inr h) = same_lives C w is_accepted J K of h.1

  done : (line : ℕ) (o : Order) (bytes : List ℕ) (left : Option (List ℕ)) (J : Life) (a : Told) (K : Life) → IsOf w J → IsDone Publishes (Relaunches C) (Surveys C) line o bytes left J a K → LivesOn C w is_accepted J K
  done line (order.Publish t size) bytes left J a K of (inl h) = publishes J t bytes h.1 K of h.2
  done line (order.Publish t size) bytes left J a K of (inr (inl h)) = same_lives C w is_accepted J K of h.3
  done line (order.Publish t size) bytes left J a K of (inr (inr h)) = same_lives C w is_accepted J K of h.2
  done line (order.Relaunch s) bytes left J a K of h = relaunches s h.1 J K of h.2
  done line order.Status bytes left J a K of h = surveys_lives C w is_accepted h.1 J K refl of h.2
  done line order.End bytes left J a K of h = absurd h
  done line order.Stop bytes left J a K of h = absurd h
  done line (order.Refused broken size) bytes left J a K of h = same_lives C w is_accepted J K of h.2

  steps : (x y : ConnWire) (before after : ℕ) (J K : Life) (what : Stepped) → IsOf w J → StepsAt C x y before after J K what → LivesOn C w is_accepted J K
  steps x y before after J K (stepped.Answered a) of h = done after _ h.0.bytes y.left J a K of h.0.is
  steps x y before after J K stepped.Finished of h = same_lives C w is_accepted J K of h.2
  steps x y before after J K stepped.Stop of h = same_lives C w is_accepted J K of h.2
  steps x y before after J K (stepped.ConsoleFault (Some a)) of h = done after _ h.0.bytes y.left J a K of h.0.is
  steps x y before after J K (stepped.ConsoleFault None) of h = same_lives C w is_accepted J K of h.3

  commands : (answers : List Told) (x y : ConnWire) (before after : ℕ) (J K : Life) → IsOf w J → Commands C answers x y before after J K → LivesOn C w is_accepted J K
  commands [] x y before after J K of h = same_lives C w is_accepted J K of h.2
  commands (answer ∷ answers) x y before after J K of h =
      let first : LivesOn C w is_accepted J h.2 = commands answers x h.0 before h.1 J h.2 of h.3 in
      lives_then C w is_accepted J h.2 K first (steps h.0 y h.1 after h.2 K (stepped.Answered answer) first.same h.4)

  pub consoles_are_lived : (x y : ConnWire) (before after : ℕ) (J K : Life) (how : Overseen) → IsOf w J → Oversees C x y before after J K how → LivesOn C w is_accepted J K
  consoles_are_lived x y before after J K how of h =
      let first : LivesOn C w is_accepted J h.life = commands h.answers x h.mid before h.lines J h.life of h.commands in
      lives_then C w is_accepted J h.life K first (steps h.mid y h.lines after h.life K h.last first.same h.steps)
