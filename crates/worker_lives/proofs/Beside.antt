-- What a worker has seen of the launcher's journal is no part of what becomes of an Accept.
use Rattle.std.proofs.Common.{◌≡◌, ℕ, List, [], ◌∷◌, ap, inl, inr}
use Rattle.std.specs.Prelude.{◌⊎◌}
use Rattle.okws_base.specs.declared.journal.Entry.{Entry}
use Rattle.okws_plan.specs.declared.configuration.Config.{Config}
use Rattle.okws_plan.specs.declared.event.LauncherEvent.{LauncherEvent}
use Rattle.frame_codec.specs.Spelling.{server_spelling}
use Rattle.frame_codec.specs.declared.frame.ServiceFrame.{ServiceFrame}
use Rattle.frame_codec.specs.declared.frame.ServiceFrame.TheVariants.{Open, Call, Get, Log, Reply}
use Rattle.frame_codec.specs.declared.frame.ServerFrame.{ServerFrame}
use Rattle.monitor_model.specs.declared.record.End.{End}
use Rattle.monitor_model.specs.declared.record.End.TheVariants as end
use Rattle.monitor_model.specs.declared.record.Item.{Item}
use Rattle.monitor_model.specs.declared.record.Item.TheVariants.{Heard, Said}
use Rattle.monitor_model.specs.declared.record.Own.TheVariants as own
use Rattle.monitor_model.specs.declared.verdict.Way.{Way}
use Rattle.monitor_model.specs.declared.verdict.Way.TheVariants as way
use Rattle.monitor_model.specs.Course.{Speaker, Answers, Ends, IsAnswered, IsDialog, IsNextOf, IsOpening, Unanswered}
use Rattle.monitor_model.specs.Seen.{Seen, noted}
use Rattle.monitor_model.specs.Worker.{Outcome, Unowned, IsDown, IsMissed, WantsMemory, Spoke}
use Rattle.worker_lives.specs.Leading.{Goes, GoesBy}

-- the same, with this of the launcher's journal
abbrev pub beside : List (Entry LauncherEvent) → Seen → Seen
beside L J = record J { launcher = L }

answers_beside : (C : Config) (who : Speaker) (L : List (Entry LauncherEvent)) (said : ServiceFrame) (J : Seen) (heard : ServerFrame) (now : Seen) → Answers C who said J heard now
    → Answers C who said (beside L J) heard (beside L now)
answers_beside C who L (Open p shown) J heard now (inl h) = inl (h.0, h.1, ap (beside L) h.2)
answers_beside C who L (Open p shown) J heard now (inr (inl h)) = inr (inl (h.0, h.1, ap (beside L) h.2))
answers_beside C who L (Open p shown) J heard now (inr (inr h)) = inr (inr (h.0, h.1, h.2, (h.3.0, ap (beside L) h.3.1)))
answers_beside C who L (Call p n q args) J heard now (inl h) = inl (h.0, h.1, ap (beside L) h.2)
answers_beside C who L (Call p n q args) J heard now (inr (inl h)) = inr (inl (h.0, h.1, ap (beside L) h.2))
answers_beside C who L (Call p n q args) J heard now (inr (inr h)) = inr (inr (h.0, h.1, h.2, h.3, (h.4.0, ap (beside L) h.4.1)))
answers_beside C who L (Get name) J heard now (inl h) = inl (h.0, ap (beside L) h.1)
answers_beside C who L (Get name) J heard now (inr h) = inr (h.0, h.1, (h.2.0, ap (beside L) h.2.1))
answers_beside C who L (Log text) J heard now (inl h) = inl (h.0, ap (beside L) h.1)
answers_beside C who L (Log text) J heard now (inr h) = inr (h.0, h.1, (h.2.0, ap (beside L) h.2.1))
answers_beside C who L (Reply status content_type location content) J heard now h = absurd h

answered_beside : (C : Config) (who : Speaker) (L : List (Entry LauncherEvent)) (opened : List Item) (J : Seen) (items : List Item) (now : Seen) → IsAnswered C who opened J items now
    → IsAnswered C who opened (beside L J) items (beside L now)
answered_beside C who L opened J [] now h = absurd h
answered_beside C who L opened J (Heard heard ∷ []) now h = (h.0, ap (beside L) h.1)
answered_beside C who L opened J (Heard heard ∷ Heard other ∷ items) now h = (h.0, ap (beside L) h.1)
answered_beside C who L opened J (Heard heard ∷ Said said ∷ items) now h =
    (beside L h.0, answered_beside C who L opened J items h.0 h.1, answers_beside C who L said h.0 heard now h.2)
answered_beside C who L opened J (Said said ∷ items) now h = absurd h

unanswered_beside : (C : Config) (who : Speaker) (L : List (Entry LauncherEvent)) (said : ServiceFrame) (J now : Seen) → Unanswered C who said J now → Unanswered C who said (beside L J) (beside L now)
unanswered_beside C who L (Call p n q args) J now (inl h) = inl (ap (beside L) h)
unanswered_beside C who L (Call p n q args) J now (inr h) = inr (h.0, h.1, h.2, h.3, (h.4.0, ap (beside L) h.4.1))
unanswered_beside C who L (Open p shown) J now h = ap (beside L) h
unanswered_beside C who L (Get name) J now h = ap (beside L) h
unanswered_beside C who L (Log text) J now h = ap (beside L) h
unanswered_beside C who L (Reply status content_type location content) J now h = ap (beside L) h

ends_beside : (C : Config) (who : Speaker) (L : List (Entry LauncherEvent)) (since left due : List ℕ) (opened : List Item) (J : Seen) (items : List Item) (how : End) (now : Seen)
    → Ends C who since left due opened J items how now → Ends C who since left due opened (beside L J) items how (beside L now)
ends_beside C who L since left due opened J items end.Reply now h = (h.0, h.1, answered_beside C who L opened J h.0 now h.2, h.3)
ends_beside C who L since left due opened J items (end.Superseded shown) now h = (h.0, answered_beside C who L opened J items now h.1, h.2)
ends_beside C who L since left due opened J items end.BadFrame now h = (answered_beside C who L opened J items now h.0, h.1, h.2)
ends_beside C who L since left due opened J items end.Ended now h = (answered_beside C who L opened J items now h.0, h.1, h.2)
ends_beside C who L since left due opened J items end.FrameLimit now h = (h.0, h.1, h.2, answered_beside C who L opened J h.1 now h.3, h.4)
ends_beside C who L since left due opened J items end.LinkFault now h = (h.0, by h.1)
  where
    by : ((IsOpening opened J items now × IsNextOf opened items due) ⊎ (IsAnswered C who opened J items now × (due ≡ []))
        ⊎ ((said : ServiceFrame) × (heard : ServerFrame) × (before : List Item) × (mid : Seen) × (items ≡ Said said ∷ before) × IsAnswered C who opened J before mid
        × Answers C who said mid heard now × (due ≡ server_spelling heard)))
        → ((IsOpening opened (beside L J) items (beside L now) × IsNextOf opened items due) ⊎ (IsAnswered C who opened (beside L J) items (beside L now) × (due ≡ []))
        ⊎ ((said : ServiceFrame) × (heard : ServerFrame) × (before : List Item) × (mid : Seen) × (items ≡ Said said ∷ before) × IsAnswered C who opened (beside L J) before mid
        × Answers C who said mid heard (beside L now) × (due ≡ server_spelling heard)))
    by (inl k) = inl ((k.0.0, k.0.1, ap (beside L) k.0.2), k.1)
    by (inr (inl k)) = inr (inl (answered_beside C who L opened J items now k.0, k.1))
    by (inr (inr k)) = inr (inr (k.0, k.1, k.2, beside L k.3, k.4, answered_beside C who L opened J k.2 k.3 k.5, answers_beside C who L k.0 k.3 k.1 now k.6, k.7))
ends_beside C who L since left due opened J items end.Starved now h = (h.0, by h.1)
  where
    by : (IsOpening opened J items now ⊎ IsAnswered C who opened J items now
        ⊎ ((said : ServiceFrame) × (before : List Item) × (mid : Seen) × (items ≡ Said said ∷ before) × IsAnswered C who opened J before mid × Unanswered C who said mid now))
        → (IsOpening opened (beside L J) items (beside L now) ⊎ IsAnswered C who opened (beside L J) items (beside L now)
        ⊎ ((said : ServiceFrame) × (before : List Item) × (mid : Seen) × (items ≡ Said said ∷ before) × IsAnswered C who opened (beside L J) before mid
        × Unanswered C who said mid (beside L now)))
    by (inl k) = inl (k.0, k.1, ap (beside L) k.2)
    by (inr (inl k)) = inr (inl (answered_beside C who L opened J items now k))
    by (inr (inr k)) = inr (inr (k.0, k.1, beside L k.2, k.3, answered_beside C who L opened J k.1 k.2 k.4, unanswered_beside C who L k.0 k.2 now k.5))

pub dialog_beside : (C : Config) (who : Speaker) (L : List (Entry LauncherEvent)) (since left due head content : List ℕ) (J : Seen) (items : List Item) (how : End) (now : Seen)
    → IsDialog C who since left due head content J items how now → IsDialog C who since left due head content (beside L J) items how (beside L now)
dialog_beside C who L since left due head content J items how now (inl h) = inl (h.0, h.1, h.2, h.3, ap (beside L) h.4)
dialog_beside C who L since left due head content J items how now (inr h) =
    inr (h.0, beside L h.1, (h.2.0, ap (beside L) h.2.1), ends_beside C who L since left due _ h.1 items how now h.3)

goes_beside : (C : Config) (w : ℕ) (L : List (Entry LauncherEvent)) (s k : ℕ) (head content : List ℕ) (J : Seen) (outcome : Outcome) (now : Seen) → Goes C w s k head content J outcome now
    → Goes C w s k head content (beside L J) outcome (beside L now)
goes_beside C w L s k head content J Unowned now f = f
goes_beside C w L s k head content J IsDown now f = f
goes_beside C w L s k head content J IsMissed now f = (f.0, ap (beside L) f.1)
goes_beside C w L s k head content J WantsMemory now f = ap (beside L) f
goes_beside C w L s k head content J (Spoke t j d) now f =
    (f.0, f.1, f.2, f.3, dialog_beside C (record { worker = w; service = s; incarnation = k }) L f.2 f.3 d.due head content (noted J (own.Dialog s)) d.items d.end now f.4)

pub by_beside : (C : Config) (w : ℕ) (L : List (Entry LauncherEvent)) (v : Way) (head content : List ℕ) (J : Seen) (outcome : Outcome) (now : Seen) → GoesBy C w v head content J outcome now
    → GoesBy C w v head content (beside L J) outcome (beside L now)
by_beside C w L way.NotOwned head content J outcome now f = (f.0, ap (beside L) f.1)
by_beside C w L (way.Down s) head content J outcome now f = (f.0, ap (beside L) f.1)
by_beside C w L (way.To s k) head content J outcome now f = goes_beside C w L s k head content J outcome now f
