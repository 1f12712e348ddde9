-- The Request of a dialog carries the head and the content with which it was begun.
use Rattle.std.proofs.Common.{◌≡◌, ℕ, List, [], ◌∷◌, ◌++◌, refl, sym, subst, inl, inr, map}
use Rattle.std.specs.Prelude.{◌⊎◌}
use Rattle.okws_base.specs.Runs.{Each}
use Rattle.okws_plan.specs.declared.configuration.Config.{Config}
use Rattle.frame_codec.specs.Spelling.{server_spelling}
use Rattle.frame_codec.specs.declared.frame.ServiceFrame.{ServiceFrame}
use Rattle.frame_codec.specs.declared.frame.ServiceFrame.TheVariants.{Open, Call, Get, Log, Reply}
use Rattle.frame_codec.specs.declared.frame.ServerFrame.{ServerFrame}
use Rattle.frame_codec.specs.declared.frame.ServerFrame.TheVariants as frame
use Rattle.monitor_model.specs.declared.record.End.{End}
use Rattle.monitor_model.specs.declared.record.End.TheVariants as end
use Rattle.monitor_model.specs.declared.record.Item.{Item}
use Rattle.monitor_model.specs.declared.record.Item.TheVariants.{Heard, Said}
use Rattle.monitor_model.specs.declared.verdict.Got.{Got}
use Rattle.monitor_model.specs.declared.verdict.Got.TheVariants as got
use Rattle.monitor_model.specs.declared.verdict.Noted.{Noted}
use Rattle.monitor_model.specs.declared.verdict.Noted.TheVariants as noted
use Rattle.monitor_model.specs.declared.verdict.Push.{Push}
use Rattle.monitor_model.specs.declared.verdict.Verdict.{Verdict}
use Rattle.monitor_model.specs.declared.verdict.Verdict.TheVariants as verdict
use Rattle.monitor_model.specs.Connections.{Carries}
use Rattle.monitor_model.specs.Course.{Speaker, Answers, Ends, IsAnswered, IsDialog, IsNextOf, IsOpening, Unanswered, got_frame, noted_frame, opening, push_frame, verdict_frame}
use Rattle.monitor_model.specs.Logd.{log_verdict}
use Rattle.monitor_model.specs.Proxy.{open_verdict}
use Rattle.monitor_model.specs.Pubd.{drain_verdict, get_verdict}
use Rattle.monitor_model.specs.Seen.{Seen}
use Rattle.monitor_model.proofs.Lawful.Plain.{each_reverse}

verdict_carries : (head content : List ℕ) (v : Verdict) → Carries head content (Heard (verdict_frame v))
verdict_carries head content (verdict.Opened n) = tt
verdict_carries head content (verdict.Rows columns T) = tt
verdict_carries head content (verdict.Changed n) = tt
verdict_carries head content verdict.Duplicate = tt
verdict_carries head content (verdict.Denied broken) = tt
verdict_carries head content verdict.Failed = tt

got_carries : (head content : List ℕ) (v : Got) → Carries head content (Heard (got_frame v))
got_carries head content (got.Template edition text) = tt
got_carries head content (got.Denied broken) = tt

noted_carries : (head content : List ℕ) (v : Noted) → Carries head content (Heard (noted_frame v))
noted_carries head content noted.Logged = tt
noted_carries head content (noted.Denied broken) = tt

is_carried : (head content : List ℕ) (heard other : ServerFrame) → heard ≡ other → Carries head content (Heard other) → Carries head content (Heard heard)
is_carried head content heard other same carried = subst (λ (f : ServerFrame). Carries head content (Heard f)) (sym same) carried

answer_carries : (head content : List ℕ) (C : Config) (who : Speaker) (said : ServiceFrame) (J : Seen) (heard : ServerFrame) (now : Seen) → Answers C who said J heard now → Carries head content (Heard heard)
answer_carries head content C who (Open p shown) J heard now (inl h) = is_carried head content heard _ h.1 tt
answer_carries head content C who (Open p shown) J heard now (inr (inl h)) = is_carried head content heard frame.NoMemory h.1 tt
answer_carries head content C who (Open p shown) J heard now (inr (inr h)) =
    is_carried head content heard (verdict_frame (open_verdict h.1 who.service who.incarnation shown)) h.2 (verdict_carries head content (open_verdict h.1 who.service who.incarnation shown))
answer_carries head content C who (Call p n q args) J heard now (inl h) = is_carried head content heard _ h.1 tt
answer_carries head content C who (Call p n q args) J heard now (inr (inl h)) = is_carried head content heard frame.NoMemory h.1 tt
answer_carries head content C who (Call p n q args) J heard now (inr (inr h)) = is_carried head content heard (verdict_frame _) h.3 (verdict_carries head content _)
answer_carries head content C who (Get name) J heard now (inl h) = is_carried head content heard frame.NoMemory h.0 tt
answer_carries head content C who (Get name) J heard now (inr h) =
    is_carried head content heard (got_frame (get_verdict C h.0 who.service who.incarnation name)) h.1 (got_carries head content (get_verdict C h.0 who.service who.incarnation name))
answer_carries head content C who (Log text) J heard now (inl h) = is_carried head content heard frame.NoMemory h.0 tt
answer_carries head content C who (Log text) J heard now (inr h) =
    is_carried head content heard (noted_frame (log_verdict C h.0 who.service who.incarnation text)) h.1 (noted_carries head content (log_verdict C h.0 who.service who.incarnation text))
answer_carries head content C who (Reply status content_type location text) J heard now h = absurd h

pushes_carry : (head content : List ℕ) (pushes : List Push) → Each (Carries head content) (map (λ (push : Push). Heard (push_frame push)) pushes)
pushes_carry head content [] = tt
pushes_carry head content (push ∷ pushes) = (tt, pushes_carry head content pushes)

opening_carries : (head content : List ℕ) (pushes : List Push) → Each (Carries head content) (opening pushes (frame.Request head content))
opening_carries head content pushes =
    ((refl, refl), each_reverse (Carries head content) (map (λ (push : Push). Heard (push_frame push)) pushes) (pushes_carry head content pushes))

rest_carries : (P : Item → Type 0) (rest items : List Item) → Each P (rest ++ items) → Each P items
rest_carries P [] items all = all
rest_carries P (item ∷ rest) items all = rest_carries P rest items all.1

answered_carries : (head content : List ℕ) (C : Config) (who : Speaker) (opened : List Item) (J : Seen) (items : List Item) (now : Seen) → Each (Carries head content) opened
    → IsAnswered C who opened J items now → Each (Carries head content) items
answered_carries head content C who opened J [] now begun h = absurd h
answered_carries head content C who opened J (Heard heard ∷ []) now begun h = subst (Each (Carries head content)) (sym h.0) begun
answered_carries head content C who opened J (Heard heard ∷ Heard other ∷ items) now begun h = subst (Each (Carries head content)) (sym h.0) begun
answered_carries head content C who opened J (Heard heard ∷ Said said ∷ items) now begun h =
    (answer_carries head content C who said h.0 heard now h.2, (tt, answered_carries head content C who opened J items h.0 begun h.1))
answered_carries head content C who opened J (Said said ∷ items) now begun h = absurd h

said_carries : (head content : List ℕ) (said : ServiceFrame) (before items : List Item) → items ≡ Said said ∷ before → Each (Carries head content) before → Each (Carries head content) items
said_carries head content said before items is all = subst (Each (Carries head content)) (sym is) (tt, all)

ends_carry : (head content : List ℕ) (C : Config) (who : Speaker) (since left due : List ℕ) (opened : List Item) (J : Seen) (items : List Item) (how : End) (now : Seen) → Each (Carries head content) opened
    → Ends C who since left due opened J items how now → Each (Carries head content) items
ends_carry head content C who since left due opened J items end.Reply now begun h =
    said_carries head content (Reply h.1.0 h.1.1 h.1.2 h.1.3) h.0 items h.1.4 (answered_carries head content C who opened J h.0 now begun h.2)
ends_carry head content C who since left due opened J items (end.Superseded shown) now begun h = answered_carries head content C who opened J items now begun h.1
ends_carry head content C who since left due opened J items end.BadFrame now begun h = answered_carries head content C who opened J items now begun h.0
ends_carry head content C who since left due opened J items end.Ended now begun h = answered_carries head content C who opened J items now begun h.0
ends_carry head content C who since left due opened J items end.FrameLimit now begun h =
    said_carries head content h.0 h.1 items h.2 (answered_carries head content C who opened J h.1 now begun h.3)
ends_carry head content C who since left due opened J items end.LinkFault now begun h = by h.1
  where
    by : ((IsOpening opened J items now × IsNextOf opened items due) ⊎ (IsAnswered C who opened J items now × (due ≡ []))
        ⊎ ((said : ServiceFrame) × (heard : ServerFrame) × (before : List Item) × (mid : Seen) × (items ≡ Said said ∷ before) × IsAnswered C who opened J before mid
        × Answers C who said mid heard now × (due ≡ server_spelling heard)))
        → Each (Carries head content) items
    by (inl k) = rest_carries (Carries head content) k.0.0 items (subst (Each (Carries head content)) k.0.1 begun)
    by (inr (inl k)) = answered_carries head content C who opened J items now begun k.0
    by (inr (inr k)) = said_carries head content k.0 k.2 items k.4 (answered_carries head content C who opened J k.2 k.3 begun k.5)
ends_carry head content C who since left due opened J items end.Starved now begun h = by h.1
  where
    by : (IsOpening opened J items now ⊎ IsAnswered C who opened J items now
        ⊎ ((said : ServiceFrame) × (before : List Item) × (mid : Seen) × (items ≡ Said said ∷ before) × IsAnswered C who opened J before mid × Unanswered C who said mid now))
        → Each (Carries head content) items
    by (inl k) = rest_carries (Carries head content) k.0 items (subst (Each (Carries head content)) k.1 begun)
    by (inr (inl k)) = answered_carries head content C who opened J items now begun k
    by (inr (inr k)) = said_carries head content k.0 k.1 items k.3 (answered_carries head content C who opened J k.1 k.2 begun k.4)

pub dialogs_carry_requests : (C : Config) (who : Speaker) (since left due head content : List ℕ) (J now : Seen) (items : List Item) (how : End)
    → IsDialog C who since left due head content J items how now → Each (Carries head content) items
dialogs_carry_requests C who since left due head content J now items how (inl h) = subst (Each (Carries head content)) (sym h.3) tt
dialogs_carry_requests C who since left due head content J now items how (inr h) = ends_carry head content C who since left due (opening (drain_verdict C h.0 who.service who.incarnation) (frame.Request head content)) h.1 items how now (opening_carries head content (drain_verdict C h.0 who.service who.incarnation)) h.3
