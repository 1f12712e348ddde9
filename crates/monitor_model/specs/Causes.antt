-- That each launch and each crash has its cause and its consequence.
use Rattle.std.specs.Prelude.{ℕ, ◌+◌, ◌-◌, Bool, true, false, List, [], ◌∷◌, ◌==◌, ◌&&◌, ◌||◌, nat_le, not, Option, Some, None, if◌then◌else◌, IsTrue}
use Rattle.std.specs.List.{list_all, list_any}
use Rattle.okws_base.specs.declared.journal.Entry.{Entry}
use Rattle.okws_base.specs.declared.limit.TheConstants.{MOST_INCARNATIONS}
use Rattle.okws_plan.specs.declared.event.LauncherEvent.{LauncherEvent}
use Rattle.okws_plan.specs.declared.event.LauncherEvent.TheVariants.{Begun, Failed, Crashed, Dead, Asked}
use Rattle.okws_plan.specs.declared.event.OkdEvent.{OkdEvent}
use Rattle.okws_plan.specs.declared.event.OkdEvent.TheVariants as okd
use Rattle.monitor_model.specs.declared.record.Dialog.{Dialog}
use Rattle.monitor_model.specs.declared.record.End.{End}
use Rattle.monitor_model.specs.declared.record.End.TheVariants as end
use Rattle.monitor_model.specs.declared.record.Own.{Own}
use Rattle.monitor_model.specs.declared.record.Own.TheVariants as own
use Rattle.monitor_model.specs.declared.record.Record.{Record}
use Rattle.monitor_model.specs.Launcher.{begun}
use Rattle.monitor_model.specs.Launches.{has_failed, is_want}
use Rattle.monitor_model.specs.Outside.{Outside}
use Rattle.monitor_model.specs.Pieces.{worker_list}
use Rattle.monitor_model.specs.Placed.{EachFrom, count_of}
use Rattle.monitor_model.specs.Talks.{Kind, Begins, Enters, Other, Talk, kind_of, talks}
use Rattle.monitor_model.specs.Worker.{next_dialog}

-- The event settles what s waits for: it is a Begun or a Dead of s.
abbrev pub settles : ℕ → LauncherEvent → Bool
settles s (Begun t k) = t == s
settles s (Dead t n) = t == s
settles s (Failed t k) = false
settles s (Crashed t k) = false
settles s (Asked t) = false

-- The first of these entries, the oldest first, that names w is a Begun or a Dead of s.
abbrev pub settles_next : ℕ → ℕ → List (Entry LauncherEvent) → Bool
settles_next w s [] = false
settles_next w s (e ∷ later) = if e.worker == w then settles s e.event else settles_next w s later

-- One of these entries is a Begun or a Dead of s by another than w.
abbrev pub others_settle : ℕ → ℕ → List (Entry LauncherEvent) → Bool
others_settle w s later = list_any (λ (e : Entry LauncherEvent). not (e.worker == w) && settles s e.event) later

-- The item is a launcher's event.
abbrev pub is_launcher_item : Own → ℕ
is_launcher_item (own.Launcher e) = 1
is_launcher_item _ = 0

-- How many items are the launcher's events.
abbrev pub launcher_count : List Own → ℕ
launcher_count [] = 0
launcher_count (item ∷ items) = launcher_count items + is_launcher_item item

-- The item behind the launcher's event before which the list has n of them, if there is one; `next` is the item behind the list.
abbrev pub item_after_nth : ℕ → Option Own → List Own → Option Own
item_after_nth n next [] = None
item_after_nth n next (item ∷ items) = if (is_launcher_item item == 1) && (launcher_count items == n) then next else item_after_nth n (Some item) items

-- NoMemory is the next item of worker w behind its entry in the launcher's journal before which these stand.
abbrev pub wants_next : Record → ℕ → List (Entry LauncherEvent) → Bool
wants_next R w J = is_want (item_after_nth (count_of w J) None (worker_list R w))

-- What s waits for since an entry of w, behind which `later` stand and before which J: the next launcher's event of w is a Begun or a Dead of s, or another worker entered one later, or NoMemory is w's next item, or the last incarnation of s was begun.
abbrev pub is_settled : Record → ℕ → ℕ → List (Entry LauncherEvent) → List (Entry LauncherEvent) → Bool
is_settled R w s later J =
    settles_next w s later || (others_settle w s later || (wants_next R w J || nat_le MOST_INCARNATIONS (begun R.launcher s)))

-- An Asked leads to a launch, or to the end of launching; so does the Failed or Crashed of the greatest begun.
abbrev pub leads_on : Record → ℕ → List (Entry LauncherEvent) → List (Entry LauncherEvent) → LauncherEvent → Bool
leads_on R w later J (Asked s) = is_settled R w s later J
leads_on R w later J (Failed s k) = not (k == begun J s) || is_settled R w s later J
leads_on R w later J (Crashed s k) = not (k == begun J s) || is_settled R w s later J
leads_on R w later J (Begun s k) = true
leads_on R w later J (Dead s n) = true

-- Each of the entries does; `later` are those behind them, the oldest first.
abbrev pub all_lead_on : Record → List (Entry LauncherEvent) → List (Entry LauncherEvent) → Bool
all_lead_on R later [] = true
all_lead_on R later (e ∷ J) = leads_on R e.worker later J e.event && all_lead_on R (e ∷ later) J

-- The end of a dialog is a crash of its incarnation.
abbrev pub is_crash : End → Bool
is_crash end.Reply = false
is_crash (end.Superseded shown) = false
is_crash end.BadFrame = true
is_crash end.Ended = true
is_crash end.LinkFault = true
is_crash end.FrameLimit = true
is_crash end.Starved = true

-- The event is the Crashed of incarnation k of s.
abbrev pub is_crashed_of : ℕ → ℕ → LauncherEvent → Bool
is_crashed_of s k (Crashed t j) = (t == s) && (j == k)
is_crashed_of s k _ = false

-- The next item tells of the crash of incarnation k of s, or is NoMemory.
abbrev pub tells_crash : ℕ → ℕ → Option Own → Bool
tells_crash s k (Some (own.Launcher e)) = is_crashed_of s k e
tells_crash s k (Some own.NoMemory) = true
tells_crash s k _ = false

-- A dialog that is a crash is told of at once.
abbrev pub crash_is_told : Talk → Option (ℕ × Dialog) → Bool
crash_is_told t None = true
crash_is_told t (Some at) = not (is_crash at.1.end) || tells_crash t.service at.0 t.next

-- Each dialog of worker w's list that is a crash is followed at once by the Crashed of its incarnation, or by NoMemory.
abbrev pub crashes_are_told : Record → ℕ → List Own → Bool
crashes_are_told R w items = list_all (λ (t : Talk). crash_is_told t (next_dialog R w t.service t.earlier)) (talks items)

-- The dialog is one of incarnation k, and a crash.
abbrev pub is_crash_of : ℕ → Option (ℕ × Dialog) → Bool
is_crash_of k None = false
is_crash_of k (Some at) = (at.0 == k) && is_crash at.1.end

-- The items end with a dialog of incarnation k of s and its entries, and it is a crash.
abbrev pub ends_in_crash : Record → ℕ → ℕ → ℕ → List Own → Bool
ends_in_crash R w s k [] = false
ends_in_crash R w s k (item ∷ items) = by_kind (kind_of item) (λ (t : ℕ). (t == s) && is_crash_of k (next_dialog R w s items)) (ends_in_crash R w s k items)
  where
    by_kind : Kind → (ℕ → Bool) → Bool → Bool
    by_kind (Begins t) here before = here t
    by_kind Enters here before = before
    by_kind Other here before = false

-- A Crashed of worker w, behind these items, follows a dialog of its incarnation that is a crash, or the child was asked and has ended.
abbrev pub crash_was : Outside → Record → ℕ → List Own → LauncherEvent → Bool
crash_was T R w items (Crashed s k) = T.ended s k || ends_in_crash R w s k items
crash_was T R w items _ = true

-- The same of an item.
abbrev pub item_was : Outside → Record → ℕ → List Own → Own → Bool
item_was T R w items (own.Launcher e) = crash_was T R w items e
item_was T R w items _ = true

-- Each Crashed of worker w's list had its cause.
abbrev pub crashes_were : Outside → Record → ℕ → List Own → Bool
crashes_were T R w [] = true
crashes_were T R w (item ∷ items) = item_was T R w items item && crashes_were T R w items

-- The event is a cause to launch s anew: an Asked of s, or a Failed or Crashed of incarnation k of s.
abbrev pub is_cause : ℕ → ℕ → LauncherEvent → Bool
is_cause s k (Asked t) = t == s
is_cause s k (Failed t j) = (t == s) && (j == k)
is_cause s k (Crashed t j) = (t == s) && (j == k)
is_cause s k (Begun t j) = false
is_cause s k (Dead t n) = false

-- The event is the Begun of incarnation k of s.
abbrev pub begins_it : ℕ → ℕ → LauncherEvent → Bool
begins_it s k (Begun t j) = (t == s) && (j == k)
begins_it s k _ = false

-- Such a cause stands among these entries, behind the Begun of incarnation k of s.
abbrev pub has_cause : ℕ → ℕ → List (Entry LauncherEvent) → Bool
has_cause s k [] = false
has_cause s k (e ∷ J) = if begins_it s k e.event then false else is_cause s k e.event || has_cause s k J

-- okd's event is the Up of incarnation k of s.
abbrev pub is_up_of : ℕ → ℕ → OkdEvent → Bool
is_up_of s k (okd.Up t j) = (t == s) && (j == k)
is_up_of s k (okd.Down t j) = false
is_up_of s k (okd.Accept path) = false

-- Incarnation k of s came up.
abbrev pub has_up : Record → ℕ → ℕ → Bool
has_up R s k = list_any (λ (e : Entry OkdEvent). is_up_of s k e.event) R.okd

-- The launch of incarnation k of s broke off: it neither came up nor failed.
abbrev pub broke_off : Record → ℕ → ℕ → Bool
broke_off R s k = not (has_up R s k) && not (has_failed R s k)

-- An incarnation behind another one was begun for a cause: an Asked of s, the Failed or Crashed of the one before, or since the launch of that broke off.
abbrev pub was_caused : Record → List (Entry LauncherEvent) → LauncherEvent → Bool
was_caused R J (Begun s k) = nat_le k 1 || (has_cause s (k - 1) J || broke_off R s (k - 1))
was_caused R J _ = true

-- The same of each of the entries.
abbrev pub all_were_caused : Record → List (Entry LauncherEvent) → Bool
all_were_caused R [] = true
all_were_caused R (e ∷ J) = was_caused R J e.event && all_were_caused R J

-- Each launch and each crash has its cause and its consequence.
pub record LaunchesHaveCauses (T : Outside) (R : Record) : Type 0 where
  pub lead : IsTrue (all_lead_on R [] R.launcher)
  pub told : EachFrom (λ w items. IsTrue (crashes_are_told R w items)) 0 R.workers
  pub crashed : EachFrom (λ w items. IsTrue (crashes_were T R w items)) 0 R.workers
  pub caused : IsTrue (all_were_caused R R.launcher)
