-- What a worker noted and saw at the launcher stays at the beginning of its list, and of what it has seen there.
use Rattle.std.proofs.Common.{◌≡◌, ◌∙◌, inl, inr, ℕ, Bool, true, List, [], ◌∷◌, ◌++◌, length, map, refl, sym, ap, subst, append_assoc}
use Rattle.okws_base.specs.Turns.{Behind}
use Rattle.okws_base.specs.declared.journal.Entry.{Entry}
use Rattle.okws_plan.specs.declared.configuration.Config.{Config}
use Rattle.okws_plan.specs.declared.event.LauncherEvent.{LauncherEvent}
use Rattle.okws_plan.specs.declared.event.OkdEvent.TheVariants as okd
use Rattle.okws_plan.specs.declared.event.PubdEvent.TheVariants as pubd
use Rattle.monitor_model.specs.declared.record.Dialog.{Dialog}
use Rattle.monitor_model.specs.declared.record.End.{End}
use Rattle.monitor_model.specs.declared.record.Item.{Item}
use Rattle.monitor_model.specs.declared.record.Own.{Own}
use Rattle.monitor_model.specs.declared.record.Own.TheVariants as own
use Rattle.monitor_model.specs.declared.record.Record.{Record}
use Rattle.monitor_model.specs.declared.verdict.Way.{Way}
use Rattle.monitor_model.specs.Launcher.{LauncherLaw}
use Rattle.monitor_model.specs.Merged.{list_of}
use Rattle.monitor_model.specs.Seen.{Seen, noted}
use Rattle.monitor_model.specs.Tied.{OwnsEntries}
use Rattle.monitor_model.proofs.Went.{begins, dialog_went}
use Rattle.service_cell.specs.Dialogs.{HasDialog}
use Rattle.service_cell.specs.Standing.{Standing, speaker}
use Rattle.service_cell.specs.declared.answer.Spoken.{Spoken}
use Rattle.service_cell.specs.declared.answer.Spoken.TheVariants as spoken
use Rattle.door_worker.specs.Asking.{Asked}
use Rattle.admin_console.specs.declared.controls.Publishing.{Publishing}
use Rattle.admin_console.specs.declared.controls.Publishing.TheVariants as publishing
use Rattle.monitor_model.specs.Causes.{has_up}
use Rattle.launch_turns.specs.Deeds.{entries, up_in}
use Rattle.launch_turns.proofs.Deeds.{entries_behind, entries_both}
use Rattle.site_worker.specs.Handling.{Accepts, Talks, asker_of}
use Rattle.site_worker.specs.Launching.{TakesTurn}
use Rattle.site_worker.specs.Lives.{Life, Sees, Starves, number_of}
use Rattle.site_worker.specs.Steering.{Publishes}
use Rattle.turn_lock.specs.Seats.{SeatIs}
use Rattle.launch_turns.specs.declared.deed.Deed.{Deed}
use Rattle.site_run.proofs.Beside.{beside, dialog_beside}
use Rattle.site_run.proofs.Once.{begun_later, ups_same}
use Rattle.site_run.proofs.Owning.{Owns, owns_kept, owns_nothing}
use Rattle.site_run.proofs.Rounding.{IsKept}
use Rattle.site_run.specs.Tied.{LifeBegins, LifeEnds, has_begun}

-- It has noted these items, and seen this at the launcher, before all else.
pub record Remembers (C : Config) (n w : ℕ) (items : List Own) (seen : List Deed) (J : Life) : Type 0 where
  pub owns : Owns C n w J
  pub items_are : Behind items J.seen.own
  pub seen_is : Behind seen J.launcher.seen

pub behind_more : {A : Type 0} (I J K more : List A) → Behind I J → K ≡ more ++ J → Behind I K
behind_more I J K more h is = (more ++ h.0, is ∙ (ap (λ l. more ++ l) h.1 ∙ sym (append_assoc more h.0 I)))

pub remembers_first : (C : Config) (n w : ℕ) (J : Life) → LifeBegins C n w J → Remembers C n w J.seen.own J.launcher.seen J
remembers_first C n w J h = record { owns = owns_nothing C n w J h; items_are = ([], refl); seen_is = ([], refl) }

module _ (C : Config) (n w : ℕ) (items : List Own) (seen : List Deed) where
  -- where its seat at the launcher stays as it is
  noted_more : (J K : Life) (more : List Own) → K.launcher ≡ J.launcher → K.seen.own ≡ more ++ J.seen.own → Owns C n w K → Remembers C n w items seen J → Remembers C n w items seen K
  noted_more J K more seat is owns r = record {
    owns = owns;
    items_are = behind_more items J.seen.own K.seen.own more r.items_are is;
    seen_is = subst (λ (x : SeatIs Deed). Behind seen x.seen) (sym seat) r.seen_is;
  }

  starves_more : (J K : Life) → Starves J K → Remembers C n w items seen J → Remembers C n w items seen K
  starves_more J K h r = noted_more J K (own.NoMemory ∷ []) h.launcher_is (ap (λ (S : Seen). S.own) h.seen_is) ((owns_kept C n w).starves J K h r.owns) r

  sees_more : (J K : Life) → Sees J.seen J K → Remembers C n w items seen J → Remembers C n w items seen K
  sees_more J K h r = noted_more J K [] h.launcher_is (ap (λ (S : Seen). S.own) h.seen_is) ((owns_kept C n w).sees J K h r.owns) r

  turns_more : (events : List LauncherEvent) (J K : Life) → TakesTurn events J K → Remembers C n w items seen J → Remembers C n w items seen K
  turns_more events J K h r =
      let turn : Deed = record { worker = J.launcher.number; entered = events; up = h.up; tended = h.tended } in record {
        owns = (owns_kept C n w).turns events J K h r.owns;
        items_are = behind_more items J.seen.own K.seen.own (map own.Launcher events) r.items_are (ap (λ (L : Life). L.seen.own) h.only);
        seen_is = behind_more seen h.deeds K.launcher.seen (turn ∷ []) (behind_more seen J.launcher.seen h.deeds h.others.0 r.seen_is h.others.2) h.did;
      }

  accepts_more : (path : List ℕ) (goes : Way) (J K : Life) → Accepts C path goes J K → Remembers C n w items seen J → Remembers C n w items seen K
  accepts_more path goes J K h r =
      noted_more J K (own.Okd (okd.Accept path) ∷ []) h.rest.launcher_is (ap (λ (S : Seen). S.own) h.enters.1) ((owns_kept C n w).accepts path goes J K h r.owns) r

  publishes_more : (J : Life) (t : ℕ) (content : List ℕ) (p : Publishing) (K : Life) → Publishes J t content p K → Remembers C n w items seen J → Remembers C n w items seen K
  publishes_more J t content (publishing.Edition m) K h r =
      noted_more J K (own.Pubd (pubd.Publish t content) ∷ []) h.3.launcher_is (ap (λ (S : Seen). S.own) h.2.1) ((owns_kept C n w).publishes J t content (publishing.Edition m) K h r.owns) r
  publishes_more J t content publishing.EditionsSpent K h r =
      noted_more J K [] h.1.launcher_is (ap (λ (S : Seen). S.own) h.1.seen_is) ((owns_kept C n w).publishes J t content publishing.EditionsSpent K h r.owns) r
  publishes_more J t content publishing.NoMemory K (inl h) r = starves_more J K h r
  publishes_more J t content publishing.NoMemory K (inr h) r = subst (Remembers C n w items seen) (sym h) r

  -- a dialog, with the entries that it made
  dialog_noted : (J : Life) (b : Standing) (head content : List ℕ) (said : List Item) (how : End) (a : Standing) (now : Seen) → HasDialog (asker_of C J) head content b J.seen said how a now → Owns C n w J
      → (taken : List Own) × (now.own ≡ taken ++ own.Dialog b.service ∷ J.seen.own)
  dialog_noted J b head content said how a now h o =
      let l = entries J.launcher.seen in
      let I = noted J.seen (own.Dialog b.service) in
      let who = speaker b (number_of J) in
      let start : OwnsEntries (length C.proxies) (number_of J) (beside l J.seen) = subst (λ v. OwnsEntries (length C.proxies) v (beside l J.seen)) (sym o.number_is) o.columns in
      let there : OwnsEntries (length C.proxies) (number_of J) (beside l I)
      = record { many = start.many; okd = start.okd; proxies_are = start.proxies_are; pubd = start.pubd; oklogd = start.oklogd; launcher = start.launcher } in
      let follows = dialog_beside C who l h.since h.left h.due head content I said how now h.follows in
      let went = dialog_went C who (beside l I) h.since h.left h.due head content (beside l I) (beside l now) said how follows (begins C who (beside l I) there) in
      (went.taken, went.taken_is)

  dialog_more : (asked : Asked) (s k : ℕ) (answer : Spoken) (J K : Life) (b : Standing) (said : List Item) (how : End) (a : Standing) → Talks C n asked s k answer J K → HasDialog (asker_of C J) asked.head asked.content b J.seen said how a K.seen
      → Remembers C n w items seen J → Remembers C n w items seen K
  dialog_more asked s k answer J K b said how a h has r =
      let it = dialog_noted J b asked.head asked.content said how a K.seen has r.owns in
      noted_more J K (it.0 ++ own.Dialog b.service ∷ []) h.launcher_is (it.1 ∙ sym (append_assoc it.0 (own.Dialog b.service ∷ []) J.seen.own)) ((owns_kept C n w).talks asked s k answer J K h r.owns) r

  talks_more : (asked : Asked) (s k : ℕ) (answer : Spoken) (J K : Life) → Talks C n asked s k answer J K → Remembers C n w items seen J → Remembers C n w items seen K
  talks_more asked s k spoken.Reply J K h r = dialog_more asked s k spoken.Reply J K h.talked.before _ _ h.talked.after h h.talked.talks.1.6 r
  talks_more asked s k (spoken.Crashed why) J K h r = dialog_more asked s k (spoken.Crashed why) J K h.talked.before _ _ h.talked.after h h.talked.talks.1.2 r
  talks_more asked s k (spoken.Missed wanted is) J K h r =
      noted_more J K (own.Missed h.talked.before.service k is ∷ []) h.launcher_is (ap (λ (S : Seen). S.own) h.talked.talks.4) ((owns_kept C n w).talks asked s k (spoken.Missed wanted is) J K h r.owns) r
  talks_more asked s k (spoken.Superseded i shown) J K h r = dialog_more asked s k (spoken.Superseded i shown) J K h.talked.before _ _ h.talked.after h h.talked.talks.1.4 r
  talks_more asked s k spoken.NoMemory J K h r =
      noted_more J K [] h.launcher_is (ap (λ (S : Seen). S.own) h.talked.talks.1) ((owns_kept C n w).talks asked s k spoken.NoMemory J K h r.owns) r

  -- each thing that a worker does keeps it so
  pub remembers_kept : IsKept C n (Remembers C n w items seen)
  remembers_kept = record { starves = starves_more; sees = sees_more; turns = turns_more; accepts = accepts_more; talks = talks_more; publishes = publishes_more }

  -- and so it stands in the record
  pub remembered : (K : Life) (R : Record) (ended : ℕ → ℕ → Bool) → Remembers C n w items seen K → LifeEnds n w K R ended → Behind items (list_of R w) × Behind (entries seen) R.launcher
  remembered K R ended r l =
      let grown = l.launcher in
      (subst (Behind items) l.own_is r.items_are, behind_more (entries seen) (entries K.launcher.seen) R.launcher grown.0 (entries_behind seen K.launcher.seen r.seen_is) grown.2)

  -- and what was begun in what it saw has its Up there just where it came up by that
  pub ups_remembered : (K : Life) (R : Record) (ended : ℕ → ℕ → Bool) → LauncherLaw C (entries K.launcher.seen) → Remembers C n w items seen K → LifeEnds n w K R ended → (s k : ℕ) → has_begun (entries seen) s k ≡ true → has_up R s k ≡ up_in seen s k
  ups_remembered K R ended law r l s k begun =
      let there : has_begun (entries K.launcher.seen) s k ≡ true
      = ap (λ (deeds : List Deed). has_begun (entries deeds) s k) r.seen_is.1 ∙ (ap (λ (J : List (Entry LauncherEvent)). has_begun J s k) (entries_both r.seen_is.0 seen) ∙ begun_later s k (entries r.seen_is.0) (entries seen) begun) in
      l.ups s k there ∙ ups_same C s k seen K.launcher.seen law r.seen_is begun
