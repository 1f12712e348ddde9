-- What a worker at the console saw of the journals stays at their beginning: what it told of the site is counted of what they were before.
use Rattle.std.proofs.Common.{◌≡◌, inl, inr, ℕ, Bool, true, false, List, [], ◌∷◌, ◌++◌, length, refl, sym, ap, ◌∙◌, subst, append_assoc}
use Rattle.std.specs.Prelude.{Some, None}
use Rattle.std.specs.declared.option.Option.{Option}
use Rattle.okws_base.specs.Turns.{Behind}
use Rattle.okws_base.specs.declared.journal.Entry.{Entry}
use Rattle.okws_plan.specs.declared.configuration.Config.{Config}
use Rattle.okws_plan.specs.declared.event.LauncherEvent.{LauncherEvent}
use Rattle.okws_outer.specs.Conns.{ConnWire}
use Rattle.monitor_model.specs.declared.record.Record.{Record}
use Rattle.monitor_model.specs.Seen.{Seen}
use Rattle.turn_lock.specs.Seats.{SeatIs}
use Rattle.admin_console.specs.Answers.{publishing_answer, relaunching_answer}
use Rattle.admin_console.specs.Steps.{IsDone, IsPublished}
use Rattle.admin_console.specs.Orders.{order_of}
use Rattle.admin_console.specs.declared.answer.Answer.{Answer}
use Rattle.admin_console.specs.declared.controls.Publishing.{Publishing}
use Rattle.admin_console.specs.declared.controls.Publishing.TheVariants as publishing
use Rattle.admin_console.specs.declared.controls.Relaunching.{Relaunching}
use Rattle.admin_console.specs.declared.controls.Relaunching.TheVariants as relaunching
use Rattle.admin_console.specs.declared.controls.Status.{Status}
use Rattle.admin_console.specs.declared.order.Order.{Order}
use Rattle.admin_console.specs.declared.order.Order.TheVariants as order
use Rattle.admin_console.specs.declared.step.Stepped.{Stepped}
use Rattle.admin_console.specs.declared.step.Stepped.TheVariants as stepped
use Rattle.okld_launch.specs.Launchers.{LauncherIs}
use Rattle.launch_turns.specs.Deeds.{entries}
use Rattle.launch_turns.specs.Looking.{Stands}
use Rattle.launch_turns.specs.Turns.{InTurn}
use Rattle.launch_turns.specs.declared.deed.Deed.{Deed}
use Rattle.launch_turns.proofs.Deeds.{entries_behind}
use Rattle.site_worker.specs.Commands.{Commands, Oversees, StepsAt}
use Rattle.site_worker.specs.Launching.{OnlyLauncher}
use Rattle.site_worker.specs.Lives.{Life, Sees, StarvesWhere}
use Rattle.site_worker.specs.Steering.{Publishes, Relaunches, Surveys}
use Rattle.site_worker.specs.declared.console.Overseen.{Overseen}
use Rattle.site_run.specs.Tied.{LifeEnds}
use Rattle.okws_serve.specs.Surveyed.{IsSurveyed, IsSurveyedFor, AllSurveyed, StepSurveyed}

behind_then : {E : Type 0} (I J K : List E) → Behind I J → Behind J K → Behind I K
behind_then I J K a b = (b.0 ++ a.0, b.1 ∙ ap (λ l. b.0 ++ l) a.1 ∙ sym (append_assoc b.0 a.0 I))

behind_same : {E : Type 0} (J K : List E) → K ≡ J → Behind J K
behind_same J K e = ([], e)

-- what a life had seen was there before in what another one has seen
record Later (J K : Life) : Type 0 where
  okd : Behind J.okd K.okd
  pubd : Behind J.pubd K.pubd
  oklogd : Behind J.oklogd K.oklogd
  deeds : Behind J.launcher.seen K.launcher.seen

-- and in a record
pub record IsPast (J : Life) (R : Record) : Type 0 where
  pub okd : Behind J.okd R.okd
  pub pubd : Behind J.pubd R.pubd
  pub oklogd : Behind J.oklogd R.oklogd
  pub launcher : Behind (entries J.launcher.seen) R.launcher

past_before : (R : Record) (J K : Life) → Later J K → IsPast K R → IsPast J R
past_before R J K l p = record {
  okd = behind_then J.okd K.okd R.okd l.okd p.okd;
  pubd = behind_then J.pubd K.pubd R.pubd l.pubd p.pubd;
  oklogd = behind_then J.oklogd K.oklogd R.oklogd l.oklogd p.oklogd;
  launcher = behind_then (entries J.launcher.seen) (entries K.launcher.seen) R.launcher (entries_behind J.launcher.seen K.launcher.seen l.deeds) p.launcher;
}

pub past_ended : (n w : ℕ) (J : Life) (R : Record) (ended : ℕ → ℕ → Bool) → LifeEnds n w J R ended → IsPast J R
past_ended n w J R ended h = record { okd = (h.okd.0, h.okd.2); pubd = (h.pubd.0, h.pubd.2); oklogd = (h.oklogd.0, h.oklogd.2); launcher = (h.launcher.0, h.launcher.2) }

-- ---- one step after the other

later_same : (J K : Life) → K ≡ J → Later J K
later_same J K e = record {
  okd = behind_same J.okd K.okd (ap (λ (x : Life). x.okd) e);
  pubd = behind_same J.pubd K.pubd (ap (λ (x : Life). x.pubd) e);
  oklogd = behind_same J.oklogd K.oklogd (ap (λ (x : Life). x.oklogd) e);
  deeds = behind_same J.launcher.seen K.launcher.seen (ap (λ (x : Life). x.launcher.seen) e);
}

later_then : (I J K : Life) → Later I J → Later J K → Later I K
later_then I J K a b = record {
  okd = behind_then I.okd J.okd K.okd a.okd b.okd;
  pubd = behind_then I.pubd J.pubd K.pubd a.pubd b.pubd;
  oklogd = behind_then I.oklogd J.oklogd K.oklogd a.oklogd b.oklogd;
  deeds = behind_then I.launcher.seen J.launcher.seen K.launcher.seen a.deeds b.deeds;
}

sees_later : (now : Seen) (J K : Life) → Sees now J K → Later J K
sees_later now J K h = record {
  okd = h.okd J.okd ([], refl);
  pubd = h.pubd J.pubd ([], refl);
  oklogd = h.oklogd J.oklogd ([], refl);
  deeds = behind_same J.launcher.seen K.launcher.seen (ap (λ (a : SeatIs Deed). a.seen) h.launcher_is);
}

where_later : (starved : Bool) (J K : Life) → StarvesWhere starved J K → Later J K
where_later true J K h = sees_later _ J K h
where_later false J K h = later_same J K h

turn_later : (C : Config) (up tended : Bool) (events : List LauncherEvent) (J K : Life) (b a : LauncherIs) → OnlyLauncher events J K → InTurn C J.launcher.number J.launcher.seen b up tended events a K.launcher.seen → Later J K
turn_later C up tended events J K b a only t =
    let d : Deed = record { worker = J.launcher.number; entered = events; up = up; tended = tended } in record {
      okd = behind_same J.okd K.okd (ap (λ (x : Life). x.okd) only);
      pubd = behind_same J.pubd K.pubd (ap (λ (x : Life). x.pubd) only);
      oklogd = behind_same J.oklogd K.oklogd (ap (λ (x : Life). x.oklogd) only);
      deeds = (d ∷ t.grows.0, t.seen_is ∙ ap (λ l. d ∷ l) t.grows.2);
    }

publishes_later : (J : Life) (t : ℕ) (content : List ℕ) (p : Publishing) (K : Life) → Publishes J t content p K → Later J K
publishes_later J t content (publishing.Edition n) K h = sees_later _ J K h.3
publishes_later J t content publishing.EditionsSpent K h = sees_later _ J K h.1
publishes_later J t content publishing.NoMemory K (inl h) = sees_later _ J K h
publishes_later J t content publishing.NoMemory K (inr h) = later_same J K h

relaunches_later : (C : Config) (J : Life) (s : ℕ) (r : Relaunching) (K : Life) → Relaunches C J s r K → Later J K
relaunches_later C J s r K (inl h) =
    let asks = h.2 in
    let t = asks.relaunches in
    later_then J asks.mid K (turn_later C _ _ asks.events J asks.mid t.before t.after asks.only t.turn) (where_later _ asks.mid K asks.notes)
relaunches_later C J s r K (inr h) = later_same J K h.1

surveys_later : (C : Config) (J : Life) (told : Status) (K : Life) → Surveys C J told K → Later J K
surveys_later C J told K h = later_then J h.mid K (turn_later C false false [] J h.mid h.looks.before h.looks.before h.only h.looks.turn) (sees_later _ h.mid K h.counts.sees)

published_later : (line t size : ℕ) (bytes : List ℕ) (left : Option (List ℕ)) (J : Life) (a : Answer) (K : Life) → IsPublished Publishes line t size bytes left J a K → Later J K
published_later line t size bytes left J a K (inl h) = publishes_later J t bytes h.1 K h.2
published_later line t size bytes left J a K (inr (inl h)) = later_same J K h.3
published_later line t size bytes left J a K (inr (inr h)) = later_same J K h.2

done_later : (C : Config) (line : ℕ) (o : Order) (bytes : List ℕ) (left : Option (List ℕ)) (J : Life) (a : Answer) (K : Life) → IsDone Publishes (Relaunches C) (Surveys C) line o bytes left J a K → Later J K
done_later C line (order.Publish t size) bytes left J a K h = published_later line t size bytes left J a K h
done_later C line (order.Relaunch s) bytes left J a K h = relaunches_later C J s h.1 K h.2
done_later C line order.Status bytes left J a K h = surveys_later C J h.1 K h.2
done_later C line order.End bytes left J a K h = absurd h
done_later C line order.Stop bytes left J a K h = absurd h
done_later C line (order.Refused broken size) bytes left J a K h = later_same J K h.2

step_later : (C : Config) (w x : ConnWire) (before after : ℕ) (J K : Life) (what : Stepped) → StepsAt C w x before after J K what → Later J K
step_later C w x before after J K (stepped.Answered a) h = done_later C after (order_of C h.0.line) h.0.bytes x.left J a K h.0.is
step_later C w x before after J K stepped.Finished h = later_same J K h.2
step_later C w x before after J K stepped.Stop h = later_same J K h.2
step_later C w x before after J K (stepped.ConsoleFault (Some a)) h = done_later C after (order_of C h.0.line) h.0.bytes x.left J a K h.0.is
step_later C w x before after J K (stepped.ConsoleFault None) h = later_same J K h.3

-- ---- what was answered

module _ (C : Config) (R : Record) where
  surveys_are : (J : Life) (t : Status) (K : Life) → Surveys C J t K → IsPast K R → IsSurveyed C R t
  surveys_are J t K h p =
      let l = h.looks in
      let deeds = h.mid.launcher.seen in
      let entered : entries deeds ≡ l.before.journal.past = ap entries l.turn.seen_is ∙ l.turn.deeds_are in
      let stands : Stands h.shown (entries deeds) (length C.services) h.standing = subst (λ (L : List (Entry LauncherEvent)). Stands h.shown L (length C.services) h.standing) (sym entered) l.stands in
      record {
        okd = K.okd;
        shown = h.shown;
        pubd = K.pubd;
        oklogd = K.oklogd;
        deeds = deeds;
        okd_past = p.okd;
        shown_past = h.counts.met;
        pubd_past = p.pubd;
        oklogd_past = p.oklogd;
        launcher_past = subst (λ (a : SeatIs Deed). Behind (entries a.seen) R.launcher) h.counts.sees.launcher_is p.launcher;
        connections_are = l.told_is;
        accepts_are = h.columns_are.0 ∙ h.counts.accepts_are;
        launches_are = h.columns_are.1 ∙ h.counts.launches_are;
        publications_are = h.columns_are.2 ∙ h.counts.publications_are;
        logged_are = h.columns_are.3 ∙ h.counts.logged_are;
        up_are = h.standing_is.0 ∙ stands.up;
        down_are = h.standing_is.1 ∙ stands.down;
        dead_are = h.standing_is.2 ∙ stands.dead;
      }

  published_no_status : (line : ℕ) (p : Publishing) → IsSurveyedFor C R (publishing_answer line p)
  published_no_status line (publishing.Edition n) = tt
  published_no_status line publishing.EditionsSpent = tt
  published_no_status line publishing.NoMemory = tt

  relaunched_no_status : (line : ℕ) (r : Relaunching) → IsSurveyedFor C R (relaunching_answer line r)
  relaunched_no_status line (relaunching.Up k) = tt
  relaunched_no_status line (relaunching.Dead n) = tt
  relaunched_no_status line relaunching.Spent = tt
  relaunched_no_status line relaunching.NoMemory = tt

  published_surveyed : (line t size : ℕ) (bytes : List ℕ) (left : Option (List ℕ)) (J : Life) (a : Answer) (K : Life) → IsPublished Publishes line t size bytes left J a K → IsSurveyedFor C R a
  published_surveyed line t size bytes left J a K (inl h) = subst (IsSurveyedFor C R) (sym h.3) (published_no_status line h.1)
  published_surveyed line t size bytes left J a K (inr (inl h)) = subst (IsSurveyedFor C R) (sym h.2) tt
  published_surveyed line t size bytes left J a K (inr (inr h)) = subst (IsSurveyedFor C R) (sym h.1) tt

  done_surveyed : (line : ℕ) (o : Order) (bytes : List ℕ) (left : Option (List ℕ)) (J : Life) (a : Answer) (K : Life) → IsDone Publishes (Relaunches C) (Surveys C) line o bytes left J a K → IsPast K R → IsSurveyedFor C R a
  done_surveyed line (order.Publish t size) bytes left J a K h p = published_surveyed line t size bytes left J a K h
  done_surveyed line (order.Relaunch s) bytes left J a K h p = subst (IsSurveyedFor C R) (sym h.3) (relaunched_no_status line h.1)
  done_surveyed line order.Status bytes left J a K h p = subst (IsSurveyedFor C R) (sym h.3) (surveys_are J h.1 K h.2 p)
  done_surveyed line order.End bytes left J a K h p = absurd h
  done_surveyed line order.Stop bytes left J a K h p = absurd h
  done_surveyed line (order.Refused broken size) bytes left J a K h p = subst (IsSurveyedFor C R) (sym h.1) tt

  step_surveyed : (w x : ConnWire) (before after : ℕ) (J K : Life) (what : Stepped) → StepsAt C w x before after J K what → IsPast K R → StepSurveyed C R what
  step_surveyed w x before after J K (stepped.Answered a) h p = done_surveyed after (order_of C h.0.line) h.0.bytes x.left J a K h.0.is p
  step_surveyed w x before after J K stepped.Finished h p = tt
  step_surveyed w x before after J K stepped.Stop h p = tt
  step_surveyed w x before after J K (stepped.ConsoleFault (Some a)) h p = done_surveyed after (order_of C h.0.line) h.0.bytes x.left J a K h.0.is p
  step_surveyed w x before after J K (stepped.ConsoleFault None) h p = tt

  all_surveyed : (answers : List Answer) (w x : ConnWire) (before after : ℕ) (J K : Life) → Commands C answers w x before after J K → IsPast K R → AllSurveyed C R answers
  all_surveyed [] w x before after J K h p = tt
  all_surveyed (a ∷ answers) w x before after J K h p = (
    step_surveyed h.0 x h.1 after h.2 K (stepped.Answered a) h.4 p,
    all_surveyed answers w h.0 before h.1 J h.2 h.3 (past_before R h.2 K (step_later C h.0 x h.1 after h.2 K (stepped.Answered a) h.4) p),
  )

  -- of a worker's life that ended in the record
  pub oversees_surveyed : (w x : ConnWire) (before after : ℕ) (J K : Life) (how : Overseen) (h : Oversees C w x before after J K how) → IsPast K R → AllSurveyed C R h.answers × StepSurveyed C R h.last
  oversees_surveyed w x before after J K how h p = (
    all_surveyed h.answers w h.mid before h.lines J h.life h.commands (past_before R h.life K (step_later C h.mid x h.lines after h.life K h.last h.steps) p),
    step_surveyed h.mid x h.lines after h.life K h.last h.steps p,
  )
