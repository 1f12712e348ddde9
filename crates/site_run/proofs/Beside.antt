-- What a worker notes of the launcher's journal stands beside what it sees of the columns: a dialog is the same whatever was seen of that journal.
use Rattle.std.proofs.Common.{◌≡◌, ℕ, List, [], ◌∷◌, ap, inl, inr}
use Rattle.std.specs.Prelude.{◌⊎◌}
use Rattle.okws_base.specs.declared.journal.Entry.{Entry}
use Rattle.okws_plan.specs.declared.configuration.Config.{Config}
use Rattle.okws_plan.specs.declared.event.LauncherEvent.{LauncherEvent}
use Rattle.okws_plan.specs.declared.event.LogEvent.{LogEvent}
use Rattle.okws_plan.specs.declared.event.OkdEvent.{OkdEvent}
use Rattle.okws_plan.specs.declared.event.ProxyEvent.{ProxyEvent}
use Rattle.okws_plan.specs.declared.event.PubdEvent.{PubdEvent}
use Rattle.frame_codec.specs.Spelling.{server_spelling}
use Rattle.frame_codec.specs.declared.frame.ServiceFrame.{ServiceFrame}
use Rattle.frame_codec.specs.declared.frame.ServiceFrame.TheVariants.{Open, Call, Get, Log, Reply}
use Rattle.frame_codec.specs.declared.frame.ServerFrame.{ServerFrame}
use Rattle.monitor_model.specs.declared.record.End.{End}
use Rattle.monitor_model.specs.declared.record.End.TheVariants as end
use Rattle.monitor_model.specs.declared.record.Item.{Item}
use Rattle.monitor_model.specs.declared.record.Item.TheVariants.{Heard, Said}
use Rattle.monitor_model.specs.Course.{Speaker, Answers, Ends, IsAnswered, IsDialog, IsNextOf, IsOpening, Unanswered}
use Rattle.monitor_model.specs.Seen.{Seen, AtOkd, AtProxy, AtPubd, AtLog}

-- the launcher's journal was seen so
abbrev pub beside : List (Entry LauncherEvent) → Seen → Seen
beside l J = record J { launcher = l }

module _ (l : List (Entry LauncherEvent)) (w : ℕ) where
  same_beside : (J now : Seen) → now ≡ J → beside l now ≡ beside l J
  same_beside J now e = ap (beside l) e

  pub okd_beside : (event : OkdEvent) (J : Seen) (before : List (Entry OkdEvent)) (now : Seen) → AtOkd w event J before now → AtOkd w event (beside l J) before (beside l now)
  okd_beside event J before now at = (at.0, ap (beside l) at.1)

  proxy_beside : (p : ℕ) (event : ProxyEvent) (J : Seen) (before : List (Entry ProxyEvent)) (now : Seen) → AtProxy w p event J before now → AtProxy w p event (beside l J) before (beside l now)
  proxy_beside p event J before now at = (at.0, ap (beside l) at.1)

  pub pubd_beside : (event : PubdEvent) (J : Seen) (before : List (Entry PubdEvent)) (now : Seen) → AtPubd w event J before now → AtPubd w event (beside l J) before (beside l now)
  pubd_beside event J before now at = (at.0, ap (beside l) at.1)

  log_beside : (event : LogEvent) (J : Seen) (before : List (Entry LogEvent)) (now : Seen) → AtLog w event J before now → AtLog w event (beside l J) before (beside l now)
  log_beside event J before now at = (at.0, ap (beside l) at.1)

module _ (C : Config) (who : Speaker) (l : List (Entry LauncherEvent)) where
  answers_beside : (said : ServiceFrame) (J : Seen) (heard : ServerFrame) (now : Seen) → Answers C who said J heard now → Answers C who said (beside l J) heard (beside l now)
  answers_beside (Open p shown) J heard now (inl h) = inl (h.0, h.1, same_beside l who.worker J now h.2)
  answers_beside (Open p shown) J heard now (inr (inl h)) = inr (inl (h.0, h.1, same_beside l who.worker J now h.2))
  answers_beside (Open p shown) J heard now (inr (inr h)) = inr (inr (h.0, h.1, h.2, proxy_beside l who.worker p _ J h.1 now h.3))
  answers_beside (Call p n q args) J heard now (inl h) = inl (h.0, h.1, same_beside l who.worker J now h.2)
  answers_beside (Call p n q args) J heard now (inr (inl h)) = inr (inl (h.0, h.1, same_beside l who.worker J now h.2))
  answers_beside (Call p n q args) J heard now (inr (inr h)) = inr (inr (h.0, h.1, h.2, h.3, proxy_beside l who.worker p _ J h.1 now h.4))
  answers_beside (Get name) J heard now (inl h) = inl (h.0, same_beside l who.worker J now h.1)
  answers_beside (Get name) J heard now (inr h) = inr (h.0, h.1, pubd_beside l who.worker _ J h.0 now h.2)
  answers_beside (Log text) J heard now (inl h) = inl (h.0, same_beside l who.worker J now h.1)
  answers_beside (Log text) J heard now (inr h) = inr (h.0, h.1, log_beside l who.worker _ J h.0 now h.2)
  answers_beside (Reply status content_type location content) J heard now h = absurd h

  answered_beside : (opened : List Item) (J : Seen) (items : List Item) (now : Seen) → IsAnswered C who opened J items now → IsAnswered C who opened (beside l J) items (beside l now)
  answered_beside opened J [] now h = absurd h
  answered_beside opened J (Heard heard ∷ []) now h = (h.0, same_beside l who.worker J now h.1)
  answered_beside opened J (Heard heard ∷ Heard other ∷ items) now h = (h.0, same_beside l who.worker J now h.1)
  answered_beside opened J (Heard heard ∷ Said said ∷ items) now h = (beside l h.0, answered_beside opened J items h.0 h.1, answers_beside said h.0 heard now h.2)
  answered_beside opened J (Said said ∷ items) now h = absurd h

  opening_beside : (opened : List Item) (J : Seen) (items : List Item) (now : Seen) → IsOpening opened J items now → IsOpening opened (beside l J) items (beside l now)
  opening_beside opened J items now h = (h.0, h.1, same_beside l who.worker J now h.2)

  unanswered_beside : (said : ServiceFrame) (J now : Seen) → Unanswered C who said J now → Unanswered C who said (beside l J) (beside l now)
  unanswered_beside (Call p n q args) J now (inl h) = inl (same_beside l who.worker J now h)
  unanswered_beside (Call p n q args) J now (inr h) = inr (h.0, h.1, h.2, h.3, proxy_beside l who.worker p _ J h.0 now h.4)
  unanswered_beside (Open p shown) J now h = same_beside l who.worker J now h
  unanswered_beside (Get name) J now h = same_beside l who.worker J now h
  unanswered_beside (Log text) J now h = same_beside l who.worker J now h
  unanswered_beside (Reply status content_type location content) J now h = same_beside l who.worker J now h

  ends_beside : (since left due : List ℕ) (opened : List Item) (J : Seen) (items : List Item) (how : End) (now : Seen) → Ends C who since left due opened J items how now → Ends C who since left due opened (beside l J) items how (beside l now)
  ends_beside since left due opened J items end.Reply now h = (h.0, h.1, answered_beside opened J h.0 now h.2, h.3)
  ends_beside since left due opened J items (end.Superseded shown) now h = (h.0, answered_beside opened J items now h.1, h.2)
  ends_beside since left due opened J items end.BadFrame now h = (answered_beside opened J items now h.0, h.1, h.2)
  ends_beside since left due opened J items end.Ended now h = (answered_beside opened J items now h.0, h.1, h.2)
  ends_beside since left due opened J items end.FrameLimit now h = (h.0, h.1, h.2, answered_beside opened J h.1 now h.3, h.4)
  ends_beside since left due opened J items end.LinkFault now h = (h.0, by h.1)
    where
      by : ((IsOpening opened J items now × IsNextOf opened items due) ⊎ (IsAnswered C who opened J items now × (due ≡ []))
          ⊎ ((said : ServiceFrame) × (heard : ServerFrame) × (before : List Item) × (mid : Seen) × (items ≡ Said said ∷ before) × IsAnswered C who opened J before mid
          × Answers C who said mid heard now × (due ≡ server_spelling heard)))
          → ((IsOpening opened (beside l J) items (beside l now) × IsNextOf opened items due) ⊎ (IsAnswered C who opened (beside l J) items (beside l now) × (due ≡ []))
          ⊎ ((said : ServiceFrame) × (heard : ServerFrame) × (before : List Item) × (mid : Seen) × (items ≡ Said said ∷ before) × IsAnswered C who opened (beside l J) before mid
          × Answers C who said mid heard (beside l now) × (due ≡ server_spelling heard)))
      by (inl o) = inl (opening_beside opened J items now o.0, o.1)
      by (inr (inl a)) = inr (inl (answered_beside opened J items now a.0, a.1))
      by (inr (inr a)) = inr (inr (a.0, a.1, a.2, beside l a.3, a.4, answered_beside opened J a.2 a.3 a.5, answers_beside a.0 a.3 a.1 now a.6, a.7))
  ends_beside since left due opened J items end.Starved now h = (h.0, by h.1)
    where
      by : (IsOpening opened J items now ⊎ IsAnswered C who opened J items now
          ⊎ ((said : ServiceFrame) × (before : List Item) × (mid : Seen) × (items ≡ Said said ∷ before) × IsAnswered C who opened J before mid × Unanswered C who said mid now))
          → (IsOpening opened (beside l J) items (beside l now) ⊎ IsAnswered C who opened (beside l J) items (beside l now)
          ⊎ ((said : ServiceFrame) × (before : List Item) × (mid : Seen) × (items ≡ Said said ∷ before) × IsAnswered C who opened (beside l J) before mid × Unanswered C who said mid (beside l now)))
      by (inl o) = inl (opening_beside opened J items now o)
      by (inr (inl a)) = inr (inl (answered_beside opened J items now a))
      by (inr (inr a)) = inr (inr (a.0, a.1, beside l a.2, a.3, answered_beside opened J a.1 a.2 a.4, unanswered_beside a.0 a.2 now a.5))

  pub dialog_beside : (since left due head content : List ℕ) (J : Seen) (items : List Item) (how : End) (now : Seen) → IsDialog C who since left due head content J items how now
      → IsDialog C who since left due head content (beside l J) items how (beside l now)
  dialog_beside since left due head content J items how now (inl h) = inl (h.0, h.1, h.2, h.3, same_beside l who.worker J now h.4)
  dialog_beside since left due head content J items how now (inr h) = inr (h.0, beside l h.1, pubd_beside l who.worker _ J h.0 h.1 h.2, ends_beside since left due _ h.1 items how now h.3)
