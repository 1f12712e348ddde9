-- Editions never go away: where a worker at the console saw that all of a template's are spent, so it is in the record.
use Rattle.std.proofs.Common.{◌≡◌, inl, inr, ℕ, ◌+◌, ◌≤◌, Bool, true, false, List, [], ◌∷◌, ◌++◌, length, refl, sym, ap, ◌∙◌, subst, arith, ltb-false, append_assoc}
use Rattle.std.specs.Prelude.{◌==◌, if◌then◌else◌, nat_le, nat_lt, Some, None}
use Rattle.std.specs.declared.option.Option.{Option}
use Rattle.okws_base.specs.Past.{Grows}
use Rattle.okws_base.specs.Turns.{Behind}
use Rattle.okws_base.specs.declared.journal.Entry.{Entry}
use Rattle.okws_base.specs.declared.limit.TheConstants.{LONGEST_TEMPLATE, MOST_EDITIONS}
use Rattle.okws_plan.specs.declared.configuration.Config.{Config}
use Rattle.okws_plan.specs.declared.event.PubdEvent.{PubdEvent}
use Rattle.okws_plan.specs.declared.event.PubdEvent.TheVariants as pubd
use Rattle.okws_outer.specs.Conns.{ConnWire}
use Rattle.monitor_model.specs.declared.record.Record.{Record}
use Rattle.monitor_model.specs.declared.verdict.Published.TheVariants as published
use Rattle.monitor_model.specs.Pubd.{edition, edition_after, publish_at}
use Rattle.admin_console.specs.Answers.{publishing_answer}
use Rattle.admin_console.specs.Steps.{IsDone, IsPublished}
use Rattle.admin_console.specs.Orders.{order_of}
use Rattle.admin_console.specs.declared.answer.Answer.{Answer}
use Rattle.admin_console.specs.declared.controls.Publishing.{Publishing}
use Rattle.admin_console.specs.declared.controls.Publishing.TheVariants as publishing
use Rattle.admin_console.specs.declared.controls.Relaunching.{Relaunching}
use Rattle.admin_console.specs.declared.controls.Status.{Status}
use Rattle.admin_console.specs.declared.order.Order.{Order}
use Rattle.admin_console.specs.declared.order.Order.TheVariants as order
use Rattle.admin_console.specs.declared.step.Stepped.{Stepped}
use Rattle.admin_console.specs.declared.step.Stepped.TheVariants as stepped
use Rattle.site_worker.specs.Commands.{Commands, Oversees, StepsAt}
use Rattle.site_worker.specs.Lives.{Life, Starves, StarvesWhere}
use Rattle.site_worker.specs.Steering.{Publishes, Relaunches, Surveys}
use Rattle.site_worker.specs.declared.console.Overseen.{Overseen}
use Rattle.okws_serve.specs.Spent.{IsSpent, IsSpentFor, StepSpent, AllSpent, OverseesSpent}

-- ---- editions

more_editions : (e : PubdEvent) (t n : ℕ) → n ≤ edition_after e t n
more_editions (pubd.Publish u content) t n = by (u == t)
  where
    by : (b : Bool) → n ≤ (if b then n + 1 else n)
    by true = omega arith
    by false = omega arith
more_editions (pubd.Install s k) t n = omega arith
more_editions (pubd.Revoke s k) t n = omega arith
more_editions (pubd.Drain s k) t n = omega arith
more_editions (pubd.Get s k name) t n = omega arith

editions_stay : (more J : List (Entry PubdEvent)) (t : ℕ) → edition J t ≤ edition (more ++ J) t
editions_stay [] J t = omega arith
editions_stay (e ∷ more) J t =
    let here : edition J t ≤ edition (more ++ J) t = editions_stay more J t in
    let later : edition (more ++ J) t ≤ edition_after e.event t (edition (more ++ J) t) = more_editions e.event t (edition (more ++ J) t) in
    omega (arith, here, later)

-- a publication of which it was said that the editions are spent
spent_at : (J : List (Entry PubdEvent)) (t : ℕ) (content : List ℕ) → published.EditionsSpent ≡ publish_at J (Some t) content → MOST_EDITIONS ≤ edition J t
spent_at J t content is = by (nat_le (length content) LONGEST_TEMPLATE) (nat_lt (edition J t) MOST_EDITIONS) refl is
  where
    by : (short few : Bool) → nat_lt (edition J t) MOST_EDITIONS ≡ few → published.EditionsSpent ≡ (if short then (if few then published.Edition (edition J t + 1) else published.EditionsSpent) else published.TooLong) → MOST_EDITIONS ≤ edition J t
    by short false e q = ltb-false (edition J t) MOST_EDITIONS e
    by true true e q = absurd (let no : published.EditionsSpent ≡ published.Edition (edition J t + 1) = q in cc)
    by false true e q = absurd (let no : published.EditionsSpent ≡ published.TooLong = q in cc)

spent_then : (J K : List (Entry PubdEvent)) (t : ℕ) (content : List ℕ) → published.EditionsSpent ≡ publish_at J (Some t) content → Behind J K → MOST_EDITIONS ≤ edition K t
spent_then J K t content is b =
    let here : MOST_EDITIONS ≤ edition J t = spent_at J t content is in
    let later : edition J t ≤ edition (b.0 ++ J) t = editions_stay b.0 J t in
    subst (λ I. MOST_EDITIONS ≤ edition I t) (sym b.1) (omega (arith, here, later))

-- ---- what was seen of pubd only grows at the console

same_then : (J K : Life) (P : List (Entry PubdEvent)) → K ≡ J → Behind K.pubd P → Behind J.pubd P
same_then J K P e b = subst (λ (x : Life). Behind x.pubd P) e b

behind_then : (I J K : List (Entry PubdEvent)) → Behind I J → Behind J K → Behind I K
behind_then I J K a b = (b.0 ++ a.0, b.1 ∙ ap (λ l. b.0 ++ l) a.1 ∙ sym (append_assoc b.0 a.0 I))

starves_then : (J K : Life) (P : List (Entry PubdEvent)) → Starves J K → Behind K.pubd P → Behind J.pubd P
starves_then J K P h b = behind_then J.pubd K.pubd P (h.pubd J.pubd ([], refl)) b

where_then : (starved : Bool) (J K : Life) (P : List (Entry PubdEvent)) → StarvesWhere starved J K → Behind K.pubd P → Behind J.pubd P
where_then true J K P h b = starves_then J K P h b
where_then false J K P h b = same_then J K P h b

publishes_then : (J : Life) (t : ℕ) (content : List ℕ) (p : Publishing) (K : Life) (P : List (Entry PubdEvent)) → Publishes J t content p K → Behind K.pubd P → Behind J.pubd P
publishes_then J t content (publishing.Edition n) K P h b = behind_then J.pubd K.pubd P (h.3.pubd J.pubd ([], refl)) b
publishes_then J t content publishing.EditionsSpent K P h b = behind_then J.pubd K.pubd P (h.1.pubd J.pubd ([], refl)) b
publishes_then J t content publishing.NoMemory K P (inl h) b = starves_then J K P h b
publishes_then J t content publishing.NoMemory K P (inr h) b = same_then J K P h b

relaunches_then : (C : Config) (J : Life) (s : ℕ) (r : Relaunching) (K : Life) (P : List (Entry PubdEvent)) → Relaunches C J s r K → Behind K.pubd P → Behind J.pubd P
relaunches_then C J s r K P (inl h) b =
    let mid : Behind h.2.mid.pubd P = where_then _ h.2.mid K P h.2.notes b in
    subst (λ I. Behind I P) (ap (λ (x : Life). x.pubd) h.2.only) mid
relaunches_then C J s r K P (inr h) b = same_then J K P h.1 b

surveys_then : (C : Config) (J : Life) (told : Status) (K : Life) (P : List (Entry PubdEvent)) → Surveys C J told K → Behind K.pubd P → Behind J.pubd P
surveys_then C J told K P h b =
    let mid : Behind h.mid.pubd P = behind_then h.mid.pubd K.pubd P (h.counts.sees.pubd h.mid.pubd ([], refl)) b in
    subst (λ I. Behind I P) (ap (λ (x : Life). x.pubd) h.only) mid

published_then : (line t size : ℕ) (bytes : List ℕ) (left : Option (List ℕ)) (J : Life) (a : Answer) (K : Life) (P : List (Entry PubdEvent))
    → IsPublished Publishes line t size bytes left J a K → Behind K.pubd P → Behind J.pubd P
published_then line t size bytes left J a K P (inl h) b = publishes_then J t bytes h.1 K P h.2 b
published_then line t size bytes left J a K P (inr (inl h)) b = same_then J K P h.3 b
published_then line t size bytes left J a K P (inr (inr h)) b = same_then J K P h.2 b

done_then : (C : Config) (line : ℕ) (o : Order) (bytes : List ℕ) (left : Option (List ℕ)) (J : Life) (a : Answer) (K : Life) (P : List (Entry PubdEvent))
    → IsDone Publishes (Relaunches C) (Surveys C) line o bytes left J a K → Behind K.pubd P → Behind J.pubd P
done_then C line (order.Publish t size) bytes left J a K P h b = published_then line t size bytes left J a K P h b
done_then C line (order.Relaunch s) bytes left J a K P h b = relaunches_then C J s h.1 K P h.2 b
done_then C line order.Status bytes left J a K P h b = surveys_then C J h.1 K P h.2 b
done_then C line order.End bytes left J a K P h b = absurd h
done_then C line order.Stop bytes left J a K P h b = absurd h
done_then C line (order.Refused broken size) bytes left J a K P h b = same_then J K P h.2 b

step_then : (C : Config) (w x : ConnWire) (before after : ℕ) (J K : Life) (what : Stepped) (P : List (Entry PubdEvent)) → StepsAt C w x before after J K what → Behind K.pubd P → Behind J.pubd P
step_then C w x before after J K (stepped.Answered a) P h b = done_then C after (order_of C h.0.line) h.0.bytes x.left J a K P h.0.is b
step_then C w x before after J K stepped.Finished P h b = same_then J K P h.2 b
step_then C w x before after J K stepped.Stop P h b = same_then J K P h.2 b
step_then C w x before after J K (stepped.ConsoleFault (Some a)) P h b = done_then C after (order_of C h.0.line) h.0.bytes x.left J a K P h.0.is b
step_then C w x before after J K (stepped.ConsoleFault None) P h b = same_then J K P h.3 b

-- ---- what was answered

module _ (C : Config) (R : Record) where
  publishes_spent : (line : ℕ) (J : Life) (t : ℕ) (content : List ℕ) (p : Publishing) (K : Life) (a : Answer) → Publishes J t content p K → Behind K.pubd R.pubd → a ≡ publishing_answer line p → IsSpentFor R t a
  publishes_spent line J t content (publishing.Edition n) K a h b is = subst (IsSpentFor R t) (sym is) tt
  publishes_spent line J t content publishing.EditionsSpent K a h b is = subst (IsSpentFor R t) (sym is) (spent_then K.pubd R.pubd t content h.0 b)
  publishes_spent line J t content publishing.NoMemory K a h b is = subst (IsSpentFor R t) (sym is) tt

  published_spent : (line t size : ℕ) (bytes : List ℕ) (left : Option (List ℕ)) (J : Life) (a : Answer) (K : Life) → IsPublished Publishes line t size bytes left J a K → Behind K.pubd R.pubd → IsSpentFor R t a
  published_spent line t size bytes left J a K (inl h) b = publishes_spent line J t bytes h.1 K a h.2 b h.3
  published_spent line t size bytes left J a K (inr (inl h)) b = subst (IsSpentFor R t) (sym h.2) tt
  published_spent line t size bytes left J a K (inr (inr h)) b = subst (IsSpentFor R t) (sym h.1) tt

  done_spent : (line : ℕ) (o : Order) (bytes : List ℕ) (left : Option (List ℕ)) (J : Life) (a : Answer) (K : Life) → IsDone Publishes (Relaunches C) (Surveys C) line o bytes left J a K → Behind K.pubd R.pubd → IsSpent R o a
  done_spent line (order.Publish t size) bytes left J a K h b = published_spent line t size bytes left J a K h b
  done_spent line (order.Relaunch s) bytes left J a K h b = tt
  done_spent line order.Status bytes left J a K h b = tt
  done_spent line order.End bytes left J a K h b = tt
  done_spent line order.Stop bytes left J a K h b = tt
  done_spent line (order.Refused broken size) bytes left J a K h b = tt

  step_spent : (w x : ConnWire) (before after : ℕ) (J K : Life) (what : Stepped) (h : StepsAt C w x before after J K what) → Behind K.pubd R.pubd → StepSpent C R w x before after J K what h
  step_spent w x before after J K (stepped.Answered a) h b = done_spent after (order_of C h.0.line) h.0.bytes x.left J a K h.0.is b
  step_spent w x before after J K stepped.Finished h b = tt
  step_spent w x before after J K stepped.Stop h b = tt
  step_spent w x before after J K (stepped.ConsoleFault (Some a)) h b = done_spent after (order_of C h.0.line) h.0.bytes x.left J a K h.0.is b
  step_spent w x before after J K (stepped.ConsoleFault None) h b = tt

  all_spent : (answers : List Answer) (w x : ConnWire) (before after : ℕ) (J K : Life) (h : Commands C answers w x before after J K) → Behind K.pubd R.pubd → AllSpent C R answers w x before after J K h
  all_spent [] w x before after J K h b = tt
  all_spent (a ∷ answers) w x before after J K h b = (
    all_spent answers w h.0 before h.1 J h.2 h.3 (step_then C h.0 x h.1 after h.2 K (stepped.Answered a) R.pubd h.4 b),
    step_spent h.0 x h.1 after h.2 K (stepped.Answered a) h.4 b,
  )

  -- of a worker's life that ended in the record
  pub oversees_spent : (n : ℕ) (w x : ConnWire) (before after : ℕ) (J K : Life) (how : Overseen) (h : Oversees C w x before after J K how) → Grows n K.pubd R.pubd → OverseesSpent C R w x before after J K how h
  oversees_spent n w x before after J K how h g =
      let b : Behind K.pubd R.pubd = (g.0, g.2) in (
        all_spent h.answers w h.mid before h.lines J h.life h.commands (step_then C h.mid x h.lines after h.life K h.last R.pubd h.steps b),
        step_spent h.mid x h.lines after h.life K h.last h.steps b,
      )
