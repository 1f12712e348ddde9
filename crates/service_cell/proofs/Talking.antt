-- A dialog step by step, from its opening to its end.
use Rattle.std.proofs.Common.{◌≡◌, ◌<◌, ℕ, List, [], ◌∷◌, ◌++◌, map, reverse, refl, sym, ap, subst, ◌∙◌, append_assoc, inl, inr, arith, Option, Some, None}
use Rattle.std.proofs.lemmas.List.{append-nil}
use Rattle.okws_base.specs.Runs.{Each}
use Rattle.okws_base.specs.declared.crash.Cause.{Cause}
use Rattle.okws_base.specs.declared.crash.Cause.TheVariants as cause
use Rattle.okws_plan.specs.declared.configuration.Config.{Config}
use Rattle.frame_codec.specs.Spelling.{server_spelling, service_spelling}
use Rattle.frame_codec.specs.declared.frame.ServiceFrame.{ServiceFrame}
use Rattle.frame_codec.specs.declared.frame.ServiceFrame.TheVariants as said
use Rattle.frame_codec.specs.declared.frame.ServerFrame.{ServerFrame}
use Rattle.frame_codec.specs.declared.frame.ServerFrame.TheVariants as frame
use Rattle.okws_outer.specs.Wire.{Wire}
use Rattle.monitor_model.specs.declared.verdict.Push.{Push}
use Rattle.monitor_model.specs.declared.record.Item.{Item}
use Rattle.monitor_model.specs.declared.record.Item.TheVariants.{Heard, Said}
use Rattle.monitor_model.specs.declared.record.End.{End}
use Rattle.monitor_model.specs.declared.record.End.TheVariants as end
use Rattle.monitor_model.specs.Cell.{incarnation}
use Rattle.monitor_model.specs.Course.{Speaker, Answers, Ends, IsAnswered, Unanswered, opening, push_frame, heard_text, said_count, said_text}
use Rattle.monitor_model.specs.Seen.{Seen}
use Rattle.service_cell.specs.Asking.{Asker, Drains, KeepsBoard}
use Rattle.service_cell.specs.Standing.{Open, Standing, speaker, going, finished, Passes, Fails}
use Rattle.service_cell.specs.Steps.{crash_end, IsSpeaking, IsCurrent, OpeningBreaks, OpensCell, Begins, EntersUnanswered, Crashes, Steps, Advances, AdvancesOpen}
use Rattle.service_cell.specs.Dialogs.{GoesOver, HasDialog, EndsAs, Dialogs, Talks, may_say}
use Rattle.service_cell.specs.declared.answer.Begun.TheVariants as begun
use Rattle.service_cell.specs.declared.answer.Advanced.TheVariants as advanced
use Rattle.service_cell.specs.declared.answer.Spoken.{Spoken}
use Rattle.service_cell.specs.declared.answer.Spoken.TheVariants as spoken
use Rattle.service_cell.specs.declared.exchange.Exchanged.TheVariants as exchanged
use Rattle.monitor_model.proofs.Lawful.Plain.{each_reverse}
use Rattle.service_cell.proofs.Wires.{moves_then, breaks_after}

-- ---- a call that was entered and isn't answered

unanswered : (C : Config) (w : Speaker) (text : ServiceFrame) (J now : Seen) → EntersUnanswered C w text J now → Unanswered C w text J now
unanswered C w (said.Call p n q args) J now h = inr (h.0, h.1, h.2, h.3, h.4)
unanswered C w (said.Open p shown) J now h = absurd h
unanswered C w (said.Get name) J now h = absurd h
unanswered C w (said.Log text) J now h = absurd h
unanswered C w (said.Reply status content_type location content) J now h = absurd h

-- ---- an opening says nothing

abbrev IsHeardItem : Item → Type 0
IsHeardItem (Heard heard) = Unit {0}
IsHeardItem (Said said) = ⊥

all_heard : (pushes : List Push) → Each IsHeardItem (map (λ (push : Push). Heard (push_frame push)) pushes)
all_heard [] = tt
all_heard (push ∷ pushes) = (tt, all_heard pushes)

each_rest : (xs ys : List Item) → Each IsHeardItem (xs ++ ys) → Each IsHeardItem ys
each_rest [] ys all = all
each_rest (x ∷ xs) ys all = each_rest xs ys all.1

opening_heard : (pushes : List Push) (request : ServerFrame) → Each IsHeardItem (opening pushes request)
opening_heard pushes request = (tt, each_reverse IsHeardItem (map (λ (push : Push). Heard (push_frame push)) pushes) (all_heard pushes))

unsaid : (items : List Item) → Each IsHeardItem items → said_text items ≡ []
unsaid [] all = refl
unsaid (Heard heard ∷ items) all = unsaid items all.1
unsaid (Said said ∷ items) all = absurd all.0

none_said : (items : List Item) → Each IsHeardItem items → said_count items ≡ 0
none_said [] all = refl
none_said (Heard heard ∷ items) all = none_said items all.1
none_said (Said said ∷ items) all = absurd all.0

front_heard : (pushes : List Push) (request : ServerFrame) (rest items : List Item) → opening pushes request ≡ rest ++ items → Each IsHeardItem items
front_heard pushes request rest items is = each_rest rest items (subst (Each IsHeardItem) is (opening_heard pushes request))

answered_at_first : (C : Config) (w : Speaker) (J : Seen) (heard : ServerFrame) (items : List Item) → Each IsHeardItem items → IsAnswered C w (Heard heard ∷ items) J (Heard heard ∷ items) J
answered_at_first C w J heard [] all = (refl, refl)
answered_at_first C w J heard (Heard other ∷ items) all = (refl, refl)
answered_at_first C w J heard (Said said ∷ items) all = absurd all.0

-- ---- the link, step after step

passes_then : (a b c : Option Wire) (t u p q : List ℕ) → Passes a b t p → Passes b c u q → Passes a c (t ++ u) (p ++ q)
passes_then None b c t u p q x y = absurd x
passes_then (Some a) None c t u p q x y = absurd x
passes_then (Some a) (Some b) None t u p q x y = absurd y
passes_then (Some a) (Some b) (Some c) t u p q x y = moves_then a b c t u p q x y

fails_then : (a b c : Option Wire) (t u p due : List ℕ) → Passes a b t p → Fails b c u [] due → Fails a c (t ++ u) p due
fails_then None b c t u p due x y = absurd x
fails_then (Some a) None c t u p due x y = absurd x
fails_then (Some a) (Some b) None t u p due x y = absurd y
fails_then (Some a) (Some b) (Some c) t u p due x y = subst (λ (put : List ℕ). Fails (Some a) (Some c) (t ++ u) put due) (append-nil p) (breaks_after a b c t u p [] due x y)

took_more : (a b c : Option Wire) (t u p : List ℕ) → Passes a b t p → Passes b c u [] → Passes a c (t ++ u) p
took_more a b c t u p x y = subst (λ (put : List ℕ). Passes a c (t ++ u) put) (append-nil p) (passes_then a b c t u p [] x y)

took_none : (a b c : Option Wire) (t p : List ℕ) → Passes a b t p → Passes b c [] [] → Passes a c t p
took_none a b c t p x y = subst (λ (taken : List ℕ). Passes a c taken p) (append-nil t) (took_more a b c t [] p x y)

-- a dialog was entered, and this is what was due
due_is : (c d : Standing) (w : ℕ) (items : List Item) (how : End) (due other : List ℕ) → due ≡ other → d ≡ finished c w items how due d.link → d ≡ finished c w items how other d.link
due_is c d w items how due other same is = subst (λ (b : List ℕ). d ≡ finished c w items how b d.link) same is

-- ---- how a dialog begins

module _ (who : Asker) (n : ℕ) (head content : List ℕ) (c : Standing) (J : Seen) where
  abbrev request : ServerFrame
  request = frame.Request head content

  pub opened_talks : (d : Standing) (now : Seen) → OpensCell who n (frame.Request head content) c J begun.Started d now → Talks who n head content c J d now
  opened_talks d now h =
      let all = opening_heard h.0 request in
      record {
        items = opening h.0 request;
        newest = opening h.0 request;
        pushes = h.0;
        mid = now;
        drains = h.1;
        answered = answered_at_first who.config (speaker c who.worker) now request (reverse (map (λ (push : Push). Heard (push_frame push)) h.0)) all.1;
        few = omega (arith, none_said (opening h.0 request) all);
        is_open = h.2;
        link = subst (λ (taken : List ℕ). Passes c.link d.link taken (heard_text (opening h.0 request))) (sym (unsaid (opening h.0 request) all)) h.3;
      }

  -- a dialog whose Drain was entered, by how it ends
  course_of : (pushes : List Push) (mid : Seen) (d : Standing) (now : Seen) (since left due : List ℕ) (items : List Item) (how : End) → Drains who c.service (incarnation c.past) J pushes mid
      → Ends who.config (speaker c who.worker) since left due (opening pushes request) mid items how now
      → d ≡ finished c who.worker items how due d.link → GoesOver c.link d.link since left due items how → HasDialog who head content c J items how d now
  course_of pushes mid d now since left due items how drains ends entered link = record {
    since = since;
    left = left;
    due = due;
    follows = inr (drains.0, mid, drains.1, subst (λ (p : List Push). Ends who.config (speaker c who.worker) since left due (opening p request) mid items how now) drains.3 ends);
    entered = entered;
    link = link;
  }

  opening_ended : (why : Cause) (pushes : List Push) (d : Standing) (now : Seen) (items : List Item) (due : List ℕ) → Drains who c.service (incarnation c.past) J pushes now
      → OpeningBreaks why (opening pushes request) items due c.link d.link → d ≡ finished c who.worker items (crash_end why) due d.link → HasDialog who head content c J items (crash_end why) d now
  opening_ended cause.LinkFault pushes d now items due drains h is =
      let before : opening pushes request ≡ (h.0 ++ Heard h.1 ∷ []) ++ items = h.2 ∙ sym (append_assoc h.0 (Heard h.1 ∷ []) items) in
      let all = front_heard pushes request (h.0 ++ Heard h.1 ∷ []) items before in
      course_of pushes now d now [] [] (server_spelling h.1) items end.LinkFault drains
      (omega (arith, none_said items all), inl ((h.0 ++ Heard h.1 ∷ [], before, refl), (h.0, h.1, h.2, refl))) (due_is c d who.worker items end.LinkFault due (server_spelling h.1) h.4 is)
      ([], rw (unsaid items all) h.3)
  opening_ended cause.Starved pushes d now items due drains h is =
      let all = front_heard pushes request h.0 items h.1 in
      course_of pushes now d now [] [] [] items end.Starved drains
      (omega (arith, none_said items all), inl (h.0, h.1, refl)) (due_is c d who.worker items end.Starved due [] h.3 is)
      ([], rw (unsaid items all) h.2)
  opening_ended cause.BadFrame pushes d now items due drains h is = absurd h
  opening_ended cause.Ended pushes d now items due drains h is = absurd h
  opening_ended cause.FrameLimit pushes d now items due drains h is = absurd h

  pub crashed_at_first : (shows : ℕ → Type 0) (wanted : ℕ) (why : Cause) (d : Standing) (now : Seen) → Begins who shows n (frame.Request head content) wanted c J (begun.Crashed why) d now
      → Dialogs who shows head content wanted c J (spoken.Crashed why) d now
  crashed_at_first shows wanted why d now h =
      let o = h.2 in
      (h.0, (subst (IsCurrent shows) h.0 h.1, o.2, opening_ended why o.0 d now o.2 o.3 o.1 o.4 o.5))

  pub superseded_at_first : (shows : ℕ → Type 0) (wanted k shown : ℕ) (d : Standing) (now : Seen) → Begins who shows n (frame.Request head content) wanted c J (begun.Superseded k shown) d now
      → Dialogs who shows head content wanted c J (spoken.Superseded k shown) d now
  superseded_at_first shows wanted k shown d now h =
      let last : d.link ≡ c.link = ap (λ (x : Standing). x.link) h.4 in (
        h.0,
        (
          h.1 ∙ h.0,
          h.2,
          h.3,
          [],
          record {
            since = [];
            left = [];
            due = [];
            follows = inl (shown, refl, subst (λ (x : ℕ). x < shown) (h.1 ∙ h.0) h.2, refl, h.5);
            entered = subst (λ (l : Option Wire). d ≡ finished c who.worker [] (end.Superseded shown) [] l) (sym last) h.4;
            link = inl (refl, last);
          },
        ),
      )

  -- ---- how it goes on

  module _ (x : Standing) (seen : Seen) (t : Talks who n head content c J x seen) where
    abbrev now_open : Open
    now_open = record { request = n; worker = who.worker; items = t.items; newest = t.newest }

    there : x.open_dialog ≡ Some now_open
    there = ap (λ (s : Standing). s.open_dialog) t.is_open

    speaks : speaker x who.worker ≡ speaker c who.worker
    speaks = ap (λ (s : Standing). speaker s who.worker) t.is_open

    stands : incarnation x.past ≡ incarnation c.past
    stands = ap (λ (s : Standing). incarnation s.past) t.is_open

    answers_of : (text : ServiceFrame) (heard : ServerFrame) (now : Seen) → Answers who.config (speaker x who.worker) text seen heard now → Answers who.config (speaker c who.worker) text seen heard now
    answers_of text heard now a = subst (λ (w : Speaker). Answers who.config w text seen heard now) speaks a

    taken_is : (text : ServiceFrame) (taken : List ℕ) → taken ≡ service_spelling text → said_text t.items ++ taken ≡ said_text (Said text ∷ t.items)
    taken_is text taken is = ap (λ (bytes : List ℕ). said_text t.items ++ bytes) is

    goes_on : (y : Standing) (now : Seen) → Steps who x now_open seen exchanged.Goes y now → Talks who n head content c J y now
    goes_on y now h =
        let both = passes_then c.link x.link y.link (said_text t.items) h.2 (heard_text t.items) (server_spelling h.1) t.link h.6 in
        record {
          items = Heard h.1 ∷ Said h.0 ∷ t.items;
          newest = Heard h.1 ∷ Said h.0 ∷ [];
          pushes = t.pushes;
          mid = t.mid;
          drains = t.drains;
          answered = (seen, t.answered, answers_of h.0 h.1 now h.4);
          few = omega (arith, h.3.1);
          is_open = h.5 ∙ ap (λ (s : Standing). going s n who.worker (Heard h.1 ∷ Said h.0 ∷ t.items) (Heard h.1 ∷ Said h.0 ∷ []) y.link) t.is_open;
          link = subst (λ (bytes : List ℕ). Passes c.link y.link bytes (heard_text t.items ++ server_spelling h.1)) (taken_is h.0 h.2 h.3.0.spelled) both;
        }

    ended : (y : Standing) (now : Seen) (since left due : List ℕ) (items : List Item) (how : End)
        → Ends who.config (speaker c who.worker) since left due (opening t.pushes request) t.mid items how now
        → y ≡ finished x who.worker items how due y.link → GoesOver c.link y.link since left due items how → HasDialog who head content c J items how y now
    ended y now since left due items how ends is link =
        course_of t.pushes t.mid y now since left due items how t.drains ends (is ∙ ap (λ (s : Standing). finished s who.worker items how due y.link) t.is_open) link

    crashed_so : (why : Cause) (y : Standing) (now : Seen) (items : List Item) (due : List ℕ) → Crashes who.config (speaker x who.worker) x.link y.link t.items seen why items due now
        → y ≡ finished x who.worker items (crash_end why) due y.link → HasDialog who head content c J items (crash_end why) y now
    crashed_so cause.BadFrame y now items due h is =
        ended y now h.0 h.1 [] items end.BadFrame
        (rw (h.6, h.7) t.answered, rw h.6 t.few, h.4) (due_is x y who.worker items end.BadFrame due [] h.8 is)
        (rw h.6 (took_more c.link x.link y.link (said_text t.items) h.0 (heard_text t.items) t.link h.2), h.3)
    crashed_so cause.Ended y now items due h is =
        ended y now [] [] [] items end.Ended
        (rw (h.2, h.3) t.answered, rw h.2 t.few, (refl, refl)) (due_is x y who.worker items end.Ended due [] h.4 is)
        (rw h.2 (took_none c.link x.link y.link (said_text t.items) (heard_text t.items) t.link h.0), h.1)
    crashed_so cause.LinkFault y now items due (inl h) is =
        ended y now [] [] [] items end.LinkFault
        (rw h.2 t.few, inr (inl (rw (h.2, h.3) t.answered, refl))) (due_is x y who.worker items end.LinkFault due [] h.4 is)
        (h.0, rw h.2 (fails_then c.link x.link y.link (said_text t.items) h.0 (heard_text t.items) [] t.link h.1))
    crashed_so cause.LinkFault y now items due (inr h) is =
        let one = fails_then c.link x.link y.link (said_text t.items) h.2 (heard_text t.items) (server_spelling h.1) t.link h.4 in
        ended y now [] [] (server_spelling h.1) items end.LinkFault
        (rw h.6 (omega (arith, h.3.1)), inr (inr (h.0, h.1, t.items, seen, h.6, t.answered, answers_of h.0 h.1 now h.5, refl))) (due_is x y who.worker items end.LinkFault due (server_spelling h.1) h.7 is) (
          [],
          rw h.6 (subst (λ (bytes : List ℕ). Fails c.link y.link bytes (heard_text t.items) (server_spelling h.1)) (taken_is h.0 h.2 h.3.0.spelled ∙ sym (append-nil (said_text (Said h.0 ∷ t.items)))) one),
        )
    crashed_so cause.FrameLimit y now items due h is =
        ended y now [] [] [] items end.FrameLimit
        (h.0, t.items, h.5, rw h.6 t.answered, h.3) (due_is x y who.worker items end.FrameLimit due [] h.7 is)
        (rw h.5 (subst (λ (bytes : List ℕ). Passes c.link y.link bytes (heard_text t.items)) (taken_is h.0 h.1 h.2.spelled)
        (took_more c.link x.link y.link (said_text t.items) h.1 (heard_text t.items) t.link h.4)))
    crashed_so cause.Starved y now items due (inl h) is =
        ended y now [] [] [] items end.Starved
        (rw h.2 t.few, inr (inl (rw (h.2, h.3) t.answered))) (due_is x y who.worker items end.Starved due [] h.4 is)
        (h.0, rw h.2 (took_more c.link x.link y.link (said_text t.items) h.0 (heard_text t.items) t.link h.1))
    crashed_so cause.Starved y now items due (inr h) is =
        let took = took_more c.link x.link y.link (said_text t.items) h.1 (heard_text t.items) t.link h.3 in
        ended y now [] [] [] items end.Starved
        (rw h.5 (omega (arith, h.2.1)), inr (inr (h.0, t.items, seen, h.5, t.answered, subst (λ (w : Speaker). Unanswered who.config w h.0 seen now) speaks (unanswered who.config (speaker x who.worker) h.0 seen now h.4)))) (due_is x y who.worker items end.Starved due [] h.6 is)
        ([], rw h.5 (subst (λ (bytes : List ℕ). Passes c.link y.link bytes (heard_text t.items)) (taken_is h.0 h.1 h.2.0.spelled ∙ sym (append-nil (said_text (Said h.0 ∷ t.items)))) took))

    pub goes_talks : (shows : ℕ → Type 0) (y : Standing) (now : Seen) → AdvancesOpen who shows x x.open_dialog seen advanced.Goes y now → Talks who n head content c J y now
    goes_talks shows y now a =
        let b : Advances who shows x now_open seen advanced.Goes y now = subst (λ (o : Option Open). AdvancesOpen who shows x o seen advanced.Goes y now) there a in
        goes_on y now b.1

    pub reply_ends : (shows : ℕ → Type 0) (y : Standing) (now : Seen) → AdvancesOpen who shows x x.open_dialog seen advanced.Reply y now → EndsAs who shows head content c J spoken.Reply y now
    reply_ends shows y now a =
        let b : Advances who shows x now_open seen advanced.Reply y now = subst (λ (o : Option Open). AdvancesOpen who shows x o seen advanced.Reply y now) there a in
        let h = b.1 in
        let reply : ServiceFrame = said.Reply h.0 h.1 h.2 h.3 in (
          subst (IsCurrent shows) stands b.0,
          h.0,
          h.1,
          h.2,
          h.3,
          t.items,
          ended y now [] [] [] (Said reply ∷ t.items) end.Reply
              (t.items, (h.0, h.1, h.2, h.3, refl), rw h.6 t.answered, omega (arith, h.5.1)) h.7
              (subst (λ (bytes : List ℕ). Passes c.link y.link bytes (heard_text t.items)) (taken_is reply h.4 h.5.0.spelled)
              (took_more c.link x.link y.link (said_text t.items) h.4 (heard_text t.items) t.link h.8)),
        )

    pub crash_ends : (shows : ℕ → Type 0) (why : Cause) (y : Standing) (now : Seen) → AdvancesOpen who shows x x.open_dialog seen (advanced.Crashed why) y now → EndsAs who shows head content c J (spoken.Crashed why) y now
    crash_ends shows why y now a =
        let b : Advances who shows x now_open seen (advanced.Crashed why) y now = subst (λ (o : Option Open). AdvancesOpen who shows x o seen (advanced.Crashed why) y now) there a in
        let h = b.1 in
        (subst (IsCurrent shows) stands b.0, h.0, crashed_so why y now h.0 h.1 h.2 h.3)

    pub superseded_ends : (shows : ℕ → Type 0) (k shown : ℕ) (y : Standing) (now : Seen) → AdvancesOpen who shows x x.open_dialog seen (advanced.Superseded k shown) y now
        → EndsAs who shows head content c J (spoken.Superseded k shown) y now
    superseded_ends shows k shown y now a =
        let h : Advances who shows x now_open seen (advanced.Superseded k shown) y now = subst (λ (o : Option Open). AdvancesOpen who shows x o seen (advanced.Superseded k shown) y now) there a in
        let last : y.link ≡ x.link = ap (λ (s : Standing). s.link) h.4 in (
          h.0 ∙ stands,
          h.1,
          h.2,
          t.items,
          ended y now [] [] [] t.items (end.Superseded shown)
              (subst (λ (k' : ℕ). k' < shown) (h.0 ∙ stands) h.1, rw h.3 t.answered, t.few)
              (subst (λ (l : Option Wire). y ≡ finished x who.worker t.items (end.Superseded shown) [] l) (sym last) h.4)
              (inr (rw last t.link)),
        )

-- ---- steps that go on

pub says_less : (who : Asker) (shows : ℕ → Type 0) (x y : Standing) (d : Option Open) (J now : Seen) → AdvancesOpen who shows x d J advanced.Goes y now → may_say y.open_dialog < may_say d
says_less who shows x y None J now a = absurd a
says_less who shows x y (Some o) J now a =
    let h = a.1 in
    let there : y.open_dialog ≡ Some (record { request = o.request; worker = o.worker; items = Heard h.1 ∷ Said h.0 ∷ o.items; newest = Heard h.1 ∷ Said h.0 ∷ [] }) = ap (λ (s : Standing). s.open_dialog) h.5 in
    rw there (omega (arith, h.3.1))

pub still_speaking : (who : Asker) (shows : ℕ → Type 0) (x y : Standing) (d : Option Open) (J now : Seen) → AdvancesOpen who shows x d J advanced.Goes y now → IsSpeaking who.worker d → IsSpeaking who.worker y.open_dialog
still_speaking who shows x y None J now a speaks = absurd a
still_speaking who shows x y (Some o) J now a speaks =
    let h = a.1 in
    let there : y.open_dialog ≡ Some (record { request = o.request; worker = o.worker; items = Heard h.1 ∷ Said h.0 ∷ o.items; newest = Heard h.1 ∷ Said h.0 ∷ [] }) = ap (λ (s : Standing). s.open_dialog) h.5 in
    rw there speaks

pub same_service : (who : Asker) (shows : ℕ → Type 0) (x y : Standing) (d : Option Open) (J now : Seen) → AdvancesOpen who shows x d J advanced.Goes y now → y.service ≡ x.service
same_service who shows x y None J now a = absurd a
same_service who shows x y (Some o) J now a = ap (λ (s : Standing). s.service) a.1.5

pub same_past : (who : Asker) (shows : ℕ → Type 0) (x y : Standing) (d : Option Open) (J now : Seen) → AdvancesOpen who shows x d J advanced.Goes y now → y.past ≡ x.past
same_past who shows x y None J now a = absurd a
same_past who shows x y (Some o) J now a = ap (λ (s : Standing). s.past) a.1.5

-- ---- the answers of a whole dialog

pub ends_dialogs : (who : Asker) (shows : ℕ → Type 0) (head content : List ℕ) (wanted : ℕ) (c : Standing) (J : Seen) (answer : Spoken) (d : Standing) (now : Seen)
    → wanted ≡ incarnation c.past → EndsAs who shows head content c J answer d now → Dialogs who shows head content wanted c J answer d now
ends_dialogs who shows head content wanted c J spoken.Reply d now is h = (is, h)
ends_dialogs who shows head content wanted c J (spoken.Crashed why) d now is h = (is, h)
ends_dialogs who shows head content wanted c J (spoken.Superseded k shown) d now is h = (is, h)
ends_dialogs who shows head content wanted c J (spoken.Missed asked is') d now is h = absurd h
ends_dialogs who shows head content wanted c J spoken.NoMemory d now is h = absurd h

pub started_talks : (who : Asker) (shows : ℕ → Type 0) (n : ℕ) (head content : List ℕ) (wanted : ℕ) (c : Standing) (J : Seen) (d : Standing) (now : Seen)
    → Begins who shows n (frame.Request head content) wanted c J begun.Started d now → Talks who n head content c J d now
started_talks who shows n head content wanted c J d now h = opened_talks who n head content c J d now h.2

pub started_speaking : (who : Asker) (shows : ℕ → Type 0) (n : ℕ) (head content : List ℕ) (wanted : ℕ) (c : Standing) (J : Seen) (d : Standing) (now : Seen)
    → Begins who shows n (frame.Request head content) wanted c J begun.Started d now → IsSpeaking who.worker d.open_dialog
started_speaking who shows n head content wanted c J d now h =
    let t = started_talks who shows n head content wanted c J d now h in
    rw (ap (λ (s : Standing). s.open_dialog) t.is_open) refl

pub started_service : (who : Asker) (shows : ℕ → Type 0) (n : ℕ) (head content : List ℕ) (wanted : ℕ) (c : Standing) (J : Seen) (d : Standing) (now : Seen)
    → Begins who shows n (frame.Request head content) wanted c J begun.Started d now → d.service ≡ c.service
started_service who shows n head content wanted c J d now h =
    ap (λ (s : Standing). s.service) (started_talks who shows n head content wanted c J d now h).is_open

-- ---- the board, call after call

pub board_then : {C : Type 0} (asker : C → Asker) (shows : C → ℕ → ℕ → Type 0) (token_seed : C → List ℕ) (spare : C → ℕ) (may_ask : C → ℕ → ℕ → Type 0) (a b c : C) → KeepsBoard asker shows token_seed spare may_ask a b → KeepsBoard asker shows token_seed spare may_ask b c → KeepsBoard asker shows token_seed spare may_ask a c
board_then asker shows token_seed spare may_ask a b c x y = record { asked = y.asked ∙ x.asked; seeded = y.seeded ∙ x.seeded; spared = y.spared ∙ x.spared; shown = λ s k may. y.shown s k (x.shown s k may); allowed = λ s k may. y.allowed s k (x.allowed s k may) }
