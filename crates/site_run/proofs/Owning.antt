-- What a worker enters is what it notes: along its life the entries that name its number stay its own items.
use Rattle.std.proofs.Common.{◌≡◌, ◌≢◌, inl, inr, ℕ, zero, suc, ◌==◌, Bool, true, false, List, [], ◌∷◌, ◌++◌, length, refl, sym, ap, ◌∙◌, subst, append-nil, eq-eqb, ne_eqb, get_or}
use Rattle.std.proofs.lemmas.Bool.{true≢false}
use Rattle.std.proofs.lemmas.List.{length-replicate}
use Rattle.std.proofs.lemmas.List.Elements.{filter-append}
use Rattle.std.specs.Prelude.{◌&&◌, if◌then◌else◌, filter, filter_map, replicate}
use Rattle.std.specs.List.{list_all}
use mathlib.Core.Logic.{dite}
use native.Mathlib.Decide.{ℕ_discrete}
use Rattle.okws_base.specs.Past.{events_of}
use Rattle.okws_base.specs.Turns.{GrowsBy, of}
use Rattle.okws_base.specs.declared.journal.Entry.{Entry}
use Rattle.okws_plan.specs.declared.configuration.Config.{Config}
use Rattle.okws_plan.specs.declared.event.LauncherEvent.{LauncherEvent}
use Rattle.okws_plan.specs.declared.event.OkdEvent.TheVariants as okd
use Rattle.okws_plan.specs.declared.event.PubdEvent.TheVariants as pubd
use Rattle.monitor_model.specs.declared.record.CellEvent.{CellEvent}
use Rattle.monitor_model.specs.declared.record.CellEvent.TheVariants as cell
use Rattle.monitor_model.specs.declared.record.Dialog.{Dialog}
use Rattle.monitor_model.specs.declared.record.End.{End}
use Rattle.monitor_model.specs.declared.record.Item.{Item}
use Rattle.monitor_model.specs.declared.record.Own.{Own}
use Rattle.monitor_model.specs.declared.record.Own.TheVariants as own
use Rattle.monitor_model.specs.declared.record.Record.{Record}
use Rattle.monitor_model.specs.declared.verdict.Way.{Way}
use Rattle.monitor_model.specs.Merged.{IsOwn, cell_items, is_at_cell, list_of, okd_item, proxy_item, pubd_item, log_item}
use Rattle.monitor_model.specs.Pieces.{is_entry_of, is_proxy_entry_of, is_pubd_entry_of, is_log_entry_of}
use Rattle.monitor_model.specs.Seen.{Seen, AtOkd, AtPubd, noted, proxy_past}
use Rattle.monitor_model.specs.Tied.{OwnsEntries}
use Rattle.monitor_model.specs.Worker.{nothing_seen}
use Rattle.monitor_model.proofs.Tied.{okd_keeps, pubd_keeps, others_leave_entries}
use Rattle.monitor_model.proofs.Tied as tied
use Rattle.monitor_model.proofs.Went.{begins, dialog_went}
use Rattle.service_cell.specs.Dialogs.{HasDialog}
use Rattle.service_cell.specs.Standing.{Standing, speaker}
use Rattle.site_cells.specs.Held.{by_event}
use Rattle.site_cells.proofs.Onlys.{only_else}
use Rattle.site_cells.specs.Row.{CellsSeen, OnlyAt, seen_at}
use Rattle.service_cell.specs.declared.answer.Spoken.{Spoken}
use Rattle.service_cell.specs.declared.answer.Spoken.TheVariants as spoken
use Rattle.door_worker.specs.Asking.{Asked}
use Rattle.admin_console.specs.declared.controls.Publishing.{Publishing}
use Rattle.admin_console.specs.declared.controls.Publishing.TheVariants as publishing
use Rattle.site_worker.specs.Handling.{Accepts, Talks, asker_of}
use Rattle.site_worker.specs.Launching.{TakesTurn}
use Rattle.site_worker.specs.Lives.{Life, Sees, Starves, number_of}
use Rattle.site_worker.specs.Steering.{Publishes}
use Rattle.named_columns.specs.Launched.{by_entry}
use Rattle.turn_lock.specs.Seats.{SeatIs}
use Rattle.launch_turns.specs.Deeds.{entries}
use Rattle.launch_turns.specs.declared.deed.Deed.{Deed}
use Rattle.site_run.proofs.Beside.{beside, okd_beside, pubd_beside, dialog_beside}
use Rattle.site_run.proofs.Launched.{none_taken, none_held, rest_taken, rest_held, launches_taken, entries_own}
use Rattle.site_run.proofs.Leaving.{cell_at, cell_went, went}
use Rattle.site_run.proofs.Rounding.{IsKept}
use Rattle.site_run.specs.Tied.{LifeBegins, LifeEnds, OnlyLaunches}

-- what a life has seen of the columns and of the launcher's journal
abbrev pub whole : Life → Seen
whole J = beside (entries J.launcher.seen) J.seen

-- In what a life of number w has seen, the entries that name w are its own items.
pub record Owns (C : Config) (n w : ℕ) (J : Life) : Type 0 where
  pub number_is : number_of J ≡ w
  pub seat_is : J.launcher.number ≡ w
  pub columns : OwnsEntries (length C.proxies) w (whole J)
  pub cells : (s : ℕ) → cell_items n w s (seen_at J.cells s) ≡ filter (is_at_cell s) J.seen.own

-- ---- at first

no_past : (m p : ℕ) → proxy_past (replicate m []) p ≡ []
no_past zero p = refl
no_past (suc m) zero = refl
no_past (suc m) (suc p) = no_past m p

launches_owned : (m w : ℕ) (items : List Own) (seen : List Deed) → OnlyLaunches w items seen → OwnsEntries m w (beside (entries seen) (record (nothing_seen m) { own = items }))
launches_owned m w items seen h = record {
  many = length-replicate m [];
  okd = sym (none_taken okd_item (λ e. refl) refl items h.only);
  proxies_are = λ p. ap (events_of w) (no_past m p) ∙ sym (none_taken (proxy_item p) (λ e. refl) refl items h.only);
  pubd = sym (none_taken pubd_item (λ e. refl) refl items h.only);
  oklogd = sym (none_taken log_item (λ e. refl) refl items h.only);
  launcher = h.entered;
}

-- a number that has no event of a cell did nothing there
none_done : (n w s : ℕ) (J : List CellEvent) → of (by_event n) w J ≡ [] → cell_items n w s J ≡ []
none_done n w s J none = cell_went n w s [] J (J, none, sym (append-nil J))

pub owns_nothing : (C : Config) (n w : ℕ) (J : Life) → LifeBegins C n w J → Owns C n w J
owns_nothing C n w J h = record {
  number_is = h.cells.number_is;
  seat_is = h.seat;
  columns = subst (λ (S : Seen). OwnsEntries (length C.proxies) w (beside (entries J.launcher.seen) S)) (sym h.seen_is) (launches_owned (length C.proxies) w J.seen.own J.launcher.seen h.launches);
  cells = λ s. none_done n w s (seen_at J.cells s) (h.cells.none s) ∙ sym (none_held (is_at_cell s) (λ e. refl) refl J.seen.own h.launches.only);
}

-- ---- what is noted beside the columns

-- an item that is no entry of a column
noted_owned : (m w : ℕ) (J : Seen) (s : ℕ) → OwnsEntries m w J → OwnsEntries m w (noted J (own.Dialog s))
noted_owned m w J s o = record { many = o.many; okd = o.okd; proxies_are = o.proxies_are; pubd = o.pubd; oklogd = o.oklogd; launcher = o.launcher }

missed_owned : (m w : ℕ) (J : Seen) (s k is : ℕ) → OwnsEntries m w J → OwnsEntries m w (noted J (own.Missed s k is))
missed_owned m w J s k is o = record { many = o.many; okd = o.okd; proxies_are = o.proxies_are; pubd = o.pubd; oklogd = o.oklogd; launcher = o.launcher }

starved_owned : (m w : ℕ) (J : Seen) → OwnsEntries m w J → OwnsEntries m w (noted J own.NoMemory)
starved_owned m w J o = record { many = o.many; okd = o.okd; proxies_are = o.proxies_are; pubd = o.pubd; oklogd = o.oklogd; launcher = o.launcher }

-- a dialog's entries are at columns alone
none_at_cell : (s : ℕ) (items : List Own) (t : ℕ) → list_all (is_entry_of t) items ≡ true → filter (is_at_cell s) items ≡ []
none_at_cell s [] t h = refl
none_at_cell s (own.Proxy p e ∷ items) t h = none_at_cell s items t (rest (is_proxy_entry_of t e) (list_all (is_entry_of t) items) h)
  where
    rest : (a b : Bool) → (a && b) ≡ true → b ≡ true
    rest true b e = e
    rest false b e = absurd (true≢false (sym e))
none_at_cell s (own.Pubd e ∷ items) t h = none_at_cell s items t (rest (is_pubd_entry_of t e) (list_all (is_entry_of t) items) h)
  where
    rest : (a b : Bool) → (a && b) ≡ true → b ≡ true
    rest true b e = e
    rest false b e = absurd (true≢false (sym e))
none_at_cell s (own.Oklogd e ∷ items) t h = none_at_cell s items t (rest (is_log_entry_of t e) (list_all (is_entry_of t) items) h)
  where
    rest : (a b : Bool) → (a && b) ≡ true → b ≡ true
    rest true b e = e
    rest false b e = absurd (true≢false (sym e))
none_at_cell s (own.Okd e ∷ items) t h = absurd (true≢false (sym h))
none_at_cell s (own.Launcher e ∷ items) t h = absurd (true≢false (sym h))
none_at_cell s (own.Dialog u ∷ items) t h = absurd (true≢false (sym h))
none_at_cell s (own.Missed u k is ∷ items) t h = absurd (true≢false (sym h))
none_at_cell s (own.NoMemory ∷ items) t h = absurd (true≢false (sym h))
none_at_cell s (own.Boot u k ∷ items) t h = absurd (true≢false (sym h))
none_at_cell s (own.Retired u ∷ items) t h = absurd (true≢false (sym h))

at_cell_of : (s : ℕ) (taken items : List Own) (t : ℕ) → list_all (is_entry_of t) taken ≡ true → filter (is_at_cell s) (taken ++ items) ≡ filter (is_at_cell s) items
at_cell_of s taken items t h = filter-append (is_at_cell s) taken items ∙ ap (λ l. l ++ filter (is_at_cell s) items) (none_at_cell s taken t h)

-- ---- one step of a life

-- where the seat at the launcher stays as it is
whole_then : {m w : ℕ} (J K : Life) (now : Seen) → K.launcher ≡ J.launcher → K.seen ≡ now → OwnsEntries m w (beside (entries J.launcher.seen) now) → OwnsEntries m w (whole K)
whole_then {m} {w} J K now seat seen h =
    subst (λ (S : Seen). OwnsEntries m w (beside (entries K.launcher.seen) S)) (sym seen) (subst (λ (x : SeatIs Deed). OwnsEntries m w (beside (entries x.seen) now)) (sym seat) h)

module _ (C : Config) (n w : ℕ) where
  -- where nothing was done at the cells
  pub sees_owned : (J K : Life) (now : Seen) → Sees now J K → OwnsEntries (length C.proxies) w (beside (entries J.launcher.seen) now) → ((s : ℕ) → filter (is_at_cell s) now.own ≡ filter (is_at_cell s) J.seen.own)
      → Owns C n w J → Owns C n w K
  sees_owned J K now h columns same o = record {
    number_is = ap (λ (x : CellsSeen). x.number) h.cells_is ∙ o.number_is;
    seat_is = ap (λ (x : SeatIs Deed). x.number) h.launcher_is ∙ o.seat_is;
    columns = whole_then J K now h.launcher_is h.seen_is columns;
    cells = λ s. ap (λ (x : CellsSeen). cell_items n w s (seen_at x s)) h.cells_is ∙ (o.cells s ∙ (sym (same s) ∙ sym (ap (λ (S : Seen). filter (is_at_cell s) S.own) h.seen_is)));
  }

  pub starves_owned : (J K : Life) → Starves J K → Owns C n w J → Owns C n w K
  starves_owned J K h o = sees_owned J K (noted J.seen own.NoMemory) h (starved_owned (length C.proxies) w (whole J) o.columns) (λ s. refl) o

  turns_owned : (events : List LauncherEvent) (J K : Life) → TakesTurn events J K → Owns C n w J → Owns C n w K
  turns_owned events J K h o = subst (Owns C n w) (sym h.only) (record {
    number_is = o.number_is;
    seat_is = o.seat_is;
    columns = record {
      many = o.columns.many;
      okd = o.columns.okd ∙ sym (rest_taken okd_item (λ e. refl) refl events J.seen.own);
      proxies_are = λ p. o.columns.proxies_are p ∙ sym (rest_taken (proxy_item p) (λ e. refl) refl events J.seen.own);
      pubd = o.columns.pubd ∙ sym (rest_taken pubd_item (λ e. refl) refl events J.seen.own);
      oklogd = o.columns.oklogd ∙ sym (rest_taken log_item (λ e. refl) refl events J.seen.own);
      launcher = ap (events_of w) h.enters ∙ (entries_own w J.launcher.number events h.before o.seat_is
          ∙ (ap (λ (l : List LauncherEvent). events ++ l) (went w (entries J.launcher.seen) h.before (subst (λ v. GrowsBy by_entry v (entries J.launcher.seen) h.before) o.seat_is h.grows) ∙ o.columns.launcher)
          ∙ sym (launches_taken events J.seen.own)));
    };
    cells = λ s. o.cells s ∙ sym (rest_held (is_at_cell s) (λ e. refl) refl events J.seen.own);
  })

  accepts_owned : (path : List ℕ) (goes : Way) (J K : Life) → Accepts C path goes J K → Owns C n w J → Owns C n w K
  accepts_owned path goes J K h o =
      let enters = subst (λ v. AtOkd v (okd.Accept path) J.seen h.before K.seen) o.number_is h.enters in
      let l = entries J.launcher.seen in
      sees_owned J K K.seen h.rest (okd_keeps (length C.proxies) w (okd.Accept path) (whole J) h.before (beside l K.seen) (okd_beside l w (okd.Accept path) J.seen h.before K.seen enters) o.columns)
      (λ s. ap (λ (S : Seen). filter (is_at_cell s) S.own) enters.1) o

  -- one event more at a cell, which is noted, and entries at columns
  module _ (s : ℕ) (J K : Life) (before : List CellEvent) (only : OnlyAt s J.cells K.cells) (grows : GrowsBy (by_event n) w (seen_at J.cells s) before) (o : Owns C n w J) where
    more_cells : (e : CellEvent) (item : Own) (taken : List Own) (t : ℕ) → seen_at K.cells s ≡ e ∷ before → cell_items n w s (e ∷ before) ≡ item ∷ cell_items n w s before
        → ((q : ℕ) → is_at_cell q item ≡ (s == q)) → K.seen.own ≡ taken ++ item ∷ J.seen.own → list_all (is_entry_of t) taken ≡ true
        → (q : ℕ) → cell_items n w q (seen_at K.cells q) ≡ filter (is_at_cell q) K.seen.own
    more_cells e item taken t is made at own_is entries q =
        let mine : filter (is_at_cell q) K.seen.own ≡ filter (is_at_cell q) (item ∷ J.seen.own) = ap (filter (is_at_cell q)) own_is ∙ at_cell_of q taken (item ∷ J.seen.own) t entries in
        dite (ℕ_discrete s q)
        (λ same. subst (λ r. cell_items n w r (seen_at K.cells r) ≡ filter (is_at_cell r) K.seen.own) same
        (ap (cell_items n w s) is ∙ (made ∙ (ap (λ (l : List Own). item ∷ l) (cell_went n w s (seen_at J.cells s) before grows ∙ o.cells s)
        ∙ (sym (ap (λ (b : Bool). if b then item ∷ filter (is_at_cell s) J.seen.own else filter (is_at_cell s) J.seen.own) (at s ∙ eq-eqb s s refl)) ∙ subst (λ r. filter (is_at_cell r) (item ∷ J.seen.own) ≡ filter (is_at_cell r) K.seen.own) (sym same) (sym mine))))))
        (λ apart. ap (cell_items n w q) (only_else s q J.cells K.cells (λ e. apart (sym e)) only) ∙ (o.cells q
        ∙ (sym (ap (λ (b : Bool). if b then item ∷ filter (is_at_cell q) J.seen.own else filter (is_at_cell q) J.seen.own) (at q ∙ ne_eqb s q apart)) ∙ sym mine)))

    -- nothing more was done there
    same_cells : seen_at K.cells s ≡ before → K.seen ≡ J.seen → (q : ℕ) → cell_items n w q (seen_at K.cells q) ≡ filter (is_at_cell q) K.seen.own
    same_cells is seen q =
        let mine : filter (is_at_cell q) J.seen.own ≡ filter (is_at_cell q) K.seen.own = ap (λ (S : Seen). filter (is_at_cell q) S.own) (sym seen) in
        dite (ℕ_discrete s q)
        (λ same. subst (λ r. cell_items n w r (seen_at K.cells r) ≡ filter (is_at_cell r) K.seen.own) same
        (ap (cell_items n w s) is ∙ (cell_went n w s (seen_at J.cells s) before grows ∙ (o.cells s ∙ subst (λ r. filter (is_at_cell r) J.seen.own ≡ filter (is_at_cell r) K.seen.own) (sym same) mine))))
        (λ apart. ap (cell_items n w q) (only_else s q J.cells K.cells (λ e. apart (sym e)) only) ∙ (o.cells q ∙ mine))

  dialog_made : (s : ℕ) (d : Dialog) (before : List CellEvent) → d.worker ≡ w → cell_items n w s (cell.Dialog d ∷ before) ≡ own.Dialog s ∷ cell_items n w s before
  dialog_made s d before e = ap (λ (b : Bool). if b then own.Dialog s ∷ cell_items n w s before else cell_items n w s before) (eq-eqb d.worker w e)

  missed_made : (s v k is : ℕ) (before : List CellEvent) → v ≡ w → cell_items n w s (cell.Missed v k is ∷ before) ≡ own.Missed s k is ∷ cell_items n w s before
  missed_made s v k is before e = ap (λ (b : Bool). if b then own.Missed s k is ∷ cell_items n w s before else cell_items n w s before) (eq-eqb v w e)

  module _ (asked : Asked) (s k : ℕ) (J K : Life) (b a : Standing) (service_is : b.service ≡ s) (only : OnlyAt s J.cells K.cells) (seat : K.launcher ≡ J.launcher) (grows : GrowsBy (by_event n) (number_of J) (seen_at J.cells s) b.past)
      (seen_is : seen_at K.cells s ≡ a.past) (o : Owns C n w J) where
    number_then : number_of K ≡ w
    number_then = ap (λ (x : CellsSeen). x.number) only ∙ o.number_is

    seat_then : K.launcher.number ≡ w
    seat_then = ap (λ (x : SeatIs Deed). x.number) seat ∙ o.seat_is

    grown : GrowsBy (by_event n) w (seen_at J.cells s) b.past
    grown = subst (λ v. GrowsBy (by_event n) v (seen_at J.cells s) b.past) o.number_is grows

    dialog_owned : (head content : List ℕ) (items : List Item) (how : End) → HasDialog (asker_of C J) head content b J.seen items how a K.seen → Owns C n w K
    dialog_owned head content items how h =
        let l = entries J.launcher.seen in
        let I = noted J.seen (own.Dialog b.service) in
        let who = speaker b (number_of J) in
        let start = subst (λ v. OwnsEntries (length C.proxies) v (whole J)) (sym o.number_is) o.columns in
        let follows = dialog_beside C who l h.since h.left h.due head content I items how K.seen h.follows in
        let went = dialog_went C who (beside l I) h.since h.left h.due head content (beside l I) (beside l K.seen) items how follows (begins C who (beside l I) (noted_owned (length C.proxies) (number_of J) (whole J) b.service start)) in
        let d : Dialog = record { worker = number_of J; items = items; end = how; due = h.due } in
        record {
          number_is = number_then;
          seat_is = seat_then;
          columns = whole_then J K K.seen seat refl (subst (λ v. OwnsEntries (length C.proxies) v (beside l K.seen)) o.number_is went.owns);
          cells = more_cells s J K b.past only grown o (cell.Dialog d) (own.Dialog s) went.taken b.service
              (seen_is ∙ ap (λ (x : Standing). x.past) h.entered) (dialog_made s d b.past o.number_is) (λ q. refl)
              (went.taken_is ∙ ap (λ u. went.taken ++ own.Dialog u ∷ J.seen.own) service_is) went.entries;
        }

    missed_owned_there : (is : ℕ) → a ≡ record b { past = cell.Missed (number_of J) k is ∷ b.past } → K.seen ≡ noted J.seen (own.Missed b.service k is) → Owns C n w K
    missed_owned_there is after now = record {
      number_is = number_then;
      seat_is = seat_then;
      columns = whole_then J K (noted J.seen (own.Missed b.service k is)) seat now (missed_owned (length C.proxies) w (whole J) b.service k is o.columns);
      cells = more_cells s J K b.past only grown o (cell.Missed (number_of J) k is) (own.Missed s k is) [] s
          (seen_is ∙ ap (λ (x : Standing). x.past) after) (missed_made s (number_of J) k is b.past o.number_is) (λ q. refl)
          (ap (λ (S : Seen). S.own) now ∙ ap (λ u. own.Missed u k is ∷ J.seen.own) service_is) refl;
    }

    nothing_owned_there : a ≡ b → K.seen ≡ J.seen → Owns C n w K
    nothing_owned_there after now = record {
      number_is = number_then;
      seat_is = seat_then;
      columns = whole_then J K J.seen seat now o.columns;
      cells = same_cells s J K b.past only grown o (seen_is ∙ ap (λ (x : Standing). x.past) after) now;
    }

  talks_owned : (asked : Asked) (s k : ℕ) (answer : Spoken) (J K : Life) → Talks C n asked s k answer J K → Owns C n w J → Owns C n w K
  talks_owned asked s k spoken.Reply J K h o =
      let t = h.talked in
      dialog_owned asked s k J K t.before t.after t.found.service_is h.only h.launcher_is t.found.grows t.seen_is o asked.head asked.content _ _ t.talks.1.6
  talks_owned asked s k (spoken.Crashed why) J K h o =
      let t = h.talked in
      dialog_owned asked s k J K t.before t.after t.found.service_is h.only h.launcher_is t.found.grows t.seen_is o asked.head asked.content _ _ t.talks.1.2
  talks_owned asked s k (spoken.Missed wanted is) J K h o =
      let t = h.talked in
      let b = t.before in
      missed_owned_there asked s k J K t.before t.after t.found.service_is h.only h.launcher_is t.found.grows t.seen_is o is
      (subst (λ i. t.after ≡ record b { past = cell.Missed (number_of J) i is ∷ b.past }) refl t.talks.3) t.talks.4
  talks_owned asked s k (spoken.Superseded i shown) J K h o =
      let t = h.talked in
      dialog_owned asked s k J K t.before t.after t.found.service_is h.only h.launcher_is t.found.grows t.seen_is o asked.head asked.content _ _ t.talks.1.4
  talks_owned asked s k spoken.NoMemory J K h o =
      let t = h.talked in
      nothing_owned_there asked s k J K t.before t.after t.found.service_is h.only h.launcher_is t.found.grows t.seen_is o t.talks.0 t.talks.1

  publishes_owned : (J : Life) (t : ℕ) (content : List ℕ) (p : Publishing) (K : Life) → Publishes J t content p K → Owns C n w J → Owns C n w K
  publishes_owned J t content (publishing.Edition m) K h o =
      let enters = subst (λ v. AtPubd v (pubd.Publish t content) J.seen h.0 K.seen) o.number_is h.2 in
      let l = entries J.launcher.seen in
      sees_owned J K K.seen h.3 (pubd_keeps (length C.proxies) w (pubd.Publish t content) (whole J) h.0 (beside l K.seen) (pubd_beside l w (pubd.Publish t content) J.seen h.0 K.seen enters) o.columns) (λ s. ap (λ (S : Seen). filter (is_at_cell s) S.own) enters.1) o
  publishes_owned J t content publishing.EditionsSpent K h o = sees_owned J K J.seen h.1 o.columns (λ s. refl) o
  publishes_owned J t content publishing.NoMemory K (inl h) o = starves_owned J K h o
  publishes_owned J t content publishing.NoMemory K (inr h) o = subst (Owns C n w) (sym h) o

  -- each thing that a worker does keeps it so
  pub owns_kept : IsKept C n (Owns C n w)
  owns_kept = record { starves = starves_owned; sees = λ J K h o. sees_owned J K J.seen h o.columns (λ s. refl) o; turns = turns_owned; accepts = accepts_owned; talks = talks_owned; publishes = publishes_owned }

-- ---- at last

-- what a life owned is what the record has of its number
pub owned_then : (C : Config) (n w : ℕ) (J : Life) (R : Record) (ended : ℕ → ℕ → Bool) → Owns C n w J → LifeEnds n w J R ended → IsOwn R n w (list_of R w)
owned_then C n w J R ended o l =
    let columns = tied.ends_are_own R (length C.proxies) w (whole J) o.columns (record { okd = l.columns.okd; proxies = l.columns.proxies; pubd = l.columns.pubd; oklogd = l.columns.oklogd }) in
    subst (IsOwn R n w) l.own_is (record {
      okd = columns.okd;
      proxies = columns.proxies;
      pubd = columns.pubd;
      oklogd = columns.oklogd;
      launchers = others_leave_entries w (entries J.launcher.seen) R.launcher l.launcher ∙ o.columns.launcher;
      cells = λ s. cell_went n w s (get_or J.cells.cells s []) (get_or R.cells s []) (cell_at n w J.cells.cells R.cells l.cells s) ∙ o.cells s;
    })
