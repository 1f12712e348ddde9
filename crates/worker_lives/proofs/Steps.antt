-- A worker's steps are pieces, and what goes on by pieces ends as a worker of the record.
use Rattle.std.proofs.Common.{◌≡◌, ℕ, List, [], ◌∷◌, ◌++◌, refl, sym, ap, ◌∙◌, subst, length, map, eq-eqb}
use Rattle.okws_base.specs.Past.{Grows}
use Rattle.okws_base.specs.Turns.{GrowsBy, up_to_own}
use Rattle.okws_base.specs.declared.journal.Entry.{Entry}
use Rattle.okws_plan.specs.declared.configuration.Config.{Config}
use Rattle.okws_plan.specs.declared.event.LauncherEvent.{LauncherEvent}
use Rattle.okws_plan.specs.declared.event.OkdEvent.{OkdEvent}
use Rattle.okws_plan.specs.declared.event.OkdEvent.TheVariants as okd
use Rattle.okws_plan.specs.declared.event.PubdEvent.{PubdEvent}
use Rattle.okws_plan.specs.declared.event.PubdEvent.TheVariants as pubd
use Rattle.monitor_model.specs.declared.record.CellEvent.{CellEvent}
use Rattle.monitor_model.specs.declared.record.Dialog.{Dialog}
use Rattle.monitor_model.specs.declared.record.Own.TheVariants as own
use Rattle.monitor_model.specs.declared.record.Record.{Record}
use Rattle.monitor_model.specs.Cell.{dialogs_of}
use Rattle.monitor_model.specs.Merged.{cell_past}
use Rattle.monitor_model.specs.Okd.{accept_verdict}
use Rattle.monitor_model.specs.Seen.{Seen, AtOkd, AtPubd, noted}
use Rattle.monitor_model.specs.Tied.{EndsIn}
use Rattle.monitor_model.specs.Worker.{IsWorker, Outcome, Piece, Accepted, Published, Launched, Wants, nothing_seen}
use Rattle.worker_lives.specs.Going.{Sights, GoesOn, IsBlank, cell_seen, entries_by, seen_by}
use Rattle.worker_lives.specs.Leading.{GoesBy, Leads, LivesWith, spoken, spoken_in, spoken_by}
use Rattle.worker_lives.proofs.Beside.{beside, by_beside}
use Rattle.worker_lives.proofs.Found.{joined, lives_are_found}
use Rattle.worker_lives.proofs.Others.{grows_from_own, grows_then, others_leave_own}

nothing_behind : {A : Type 0} (xs : List A) → xs ++ [] ≡ xs
nothing_behind [] = refl
nothing_behind {A} (x ∷ xs) = ap (λ (rest : List A). x ∷ rest) (nothing_behind xs)

-- ---- going on

leads_then : (C : Config) (w : ℕ) (first then : List Piece) (I J K : Seen) → Leads C w first I J → Leads C w then J K → Leads C w (then ++ first) I K
leads_then C w first [] I J K i j = subst (Leads C w first I) (sym j) i
leads_then C w first (piece ∷ then) I J K i j = (j.0, leads_then C w first then I J j.0 i j.1, j.2)

spoken_both : (s : ℕ) (then first : List Piece) → spoken_in s (then ++ first) ≡ spoken_in s then ++ spoken_in s first
spoken_both s [] first = refl
spoken_both s (piece ∷ then) first = ap (λ (rest : List (ℕ × Dialog)). spoken_by s piece ++ rest) (spoken_both s then first) ∙ joined (spoken_by s piece) (spoken_in s then) (spoken_in s first)

pub goings_join : (C : Config) (w : ℕ) (first then : List Piece) (I J K : Sights) → GoesOn C w first I J → GoesOn C w then J K → GoesOn C w (then ++ first) I K
goings_join C w first then I J K i j = record {
  leads = leads_then C w first then (seen_by w I) (seen_by w J) (seen_by w K) i.leads j.leads;
  dialogs = λ s. j.dialogs s
      ∙ ap (λ (rest : List (ℕ × Dialog)). spoken_in s then ++ rest) (i.dialogs s)
      ∙ joined (spoken_in s then) (spoken_in s first) (dialogs_of w (cell_seen I s))
      ∙ ap (λ (all : List (ℕ × Dialog)). all ++ dialogs_of w (cell_seen I s)) (sym (spoken_both s then first));
}

pub rests_are_no_pieces : (C : Config) (w : ℕ) (J K : Sights) → K.columns ≡ J.columns → GrowsBy (λ (e : Entry LauncherEvent). e.worker) w J.launcher K.launcher
    → ((s : ℕ) → dialogs_of w (cell_seen K s) ≡ dialogs_of w (cell_seen J s)) → GoesOn C w [] J K
rests_are_no_pieces C w J K columns grows dialogs = record {
  leads = ap (λ (S : Seen). beside (up_to_own (λ (e : Entry LauncherEvent). e.worker) w K.launcher) S) columns
      ∙ ap (λ (L : List (Entry LauncherEvent)). beside L J.columns) (others_leave_own w J.launcher K.launcher grows);
  dialogs = dialogs;
}

pub wants_are_pieces : (C : Config) (w : ℕ) (J : Sights) → GoesOn C w (Wants ∷ []) J (record J { columns = noted J.columns own.NoMemory })
wants_are_pieces C w J = record { leads = (seen_by w J, refl, refl); dialogs = λ s. refl }

pub publications_are_pieces : (C : Config) (w t : ℕ) (content : List ℕ) (J : Sights) (before : List (Entry PubdEvent)) (now : Seen)
    → AtPubd w (pubd.Publish t content) J.columns before now → GoesOn C w (Published t content ∷ []) J (record J { columns = now })
publications_are_pieces C w t content J before now at = record {
  leads = (seen_by w J, refl, (before, (at.0, ap (beside (up_to_own (λ (e : Entry LauncherEvent). e.worker) w J.launcher)) at.1)));
  dialogs = λ s. refl;
}

pub accepts_are_pieces : (C : Config) (w : ℕ) (path head content : List ℕ) (outcome : Outcome) (J K : Sights) (before : List (Entry OkdEvent)) (mid : Seen)
    → AtOkd w (okd.Accept path) J.columns before mid → GoesBy C w (accept_verdict C before path) head content mid outcome K.columns → K.launcher ≡ J.launcher
    → ((s : ℕ) → dialogs_of w (cell_seen K s) ≡ spoken s outcome ++ dialogs_of w (cell_seen J s)) → GoesOn C w (Accepted path head content outcome ∷ []) J K
accepts_are_pieces C w path head content outcome J K before mid at goes same dialogs =
    let L : List (Entry LauncherEvent) = up_to_own (λ (e : Entry LauncherEvent). e.worker) w J.launcher in
    let then : GoesBy C w (accept_verdict C before path) head content (beside L mid) outcome (beside L K.columns) = by_beside C w L (accept_verdict C before path) head content mid outcome K.columns goes in
    let now : beside L K.columns ≡ seen_by w K = ap (λ (M : List (Entry LauncherEvent)). beside (up_to_own (λ (e : Entry LauncherEvent). e.worker) w M) K.columns) (sym same) in
    record {
      leads = (
        seen_by w J,
        refl,
        (
          before,
          beside L mid,
          (at.0, ap (beside L) at.1),
          subst (λ (S : Seen). GoesBy C w (accept_verdict C before path) head content (beside L mid) outcome S) now then,
        ),
      );
      dialogs = λ s. dialogs s ∙ ap (λ (all : List (ℕ × Dialog)). all ++ dialogs_of w (cell_seen J s)) (sym (nothing_behind (spoken s outcome)));
    }

-- ---- a turn at the launcher

-- what was seen when these events were entered and noted
abbrev pub turned : ℕ → List LauncherEvent → Sights → List (Entry LauncherEvent) → Sights
turned w events J before = record J { columns = record J.columns { own = map own.Launcher events ++ J.columns.own }; launcher = entries_by w events ++ before }

none_spoken : (s : ℕ) (events : List LauncherEvent) → spoken_in s (map Launched events) ≡ []
none_spoken s [] = refl
none_spoken s (event ∷ events) = none_spoken s events

turn_leads : (C : Config) (w : ℕ) (events : List LauncherEvent) (J : Sights) (before : List (Entry LauncherEvent)) → GrowsBy (λ (e : Entry LauncherEvent). e.worker) w J.launcher before
    → Leads C w (map Launched events) (seen_by w J) (seen_by w (turned w events J before))
turn_leads C w [] J before grows = ap (λ (L : List (Entry LauncherEvent)). beside L J.columns) (others_leave_own w J.launcher before grows)
turn_leads C w (event ∷ events) J before grows =
    let mine : up_to_own (λ (e : Entry LauncherEvent). e.worker) w (record { worker = w; event = event } ∷ (entries_by w events ++ before)) ≡ record { worker = w; event = event } ∷ (entries_by w events ++ before)
    = rw (eq-eqb w w refl) refl in (
      seen_by w (turned w events J before),
      turn_leads C w events J before grows,
      (
        entries_by w events ++ before,
        (
          grows_from_own w (entries_by w events ++ before),
          ap (λ (L : List (Entry LauncherEvent)). beside L (record J.columns { own = own.Launcher event ∷ (map own.Launcher events ++ J.columns.own) })) mine,
        ),
      ),
    )

pub turns_are_pieces : (C : Config) (w : ℕ) (events : List LauncherEvent) (J : Sights) (before : List (Entry LauncherEvent)) → GrowsBy (λ (e : Entry LauncherEvent). e.worker) w J.launcher before
    → GoesOn C w (map Launched events) J (turned w events J before)
turns_are_pieces C w events J before grows = record {
  leads = turn_leads C w events J before grows;
  dialogs = λ s. ap (λ (first : List (ℕ × Dialog)). first ++ dialogs_of w (cell_seen J s)) (sym (none_spoken s events));
}

-- ---- from first to last

pub goings_are_lives : (C : Config) (w : ℕ) (pieces : List Piece) (J K : Sights) → IsBlank (length C.proxies) J → GoesOn C w pieces J K → LivesWith (λ s. dialogs_of w (cell_seen K s)) C w pieces (seen_by w K)
goings_are_lives C w pieces J K blank goes =
    let first : seen_by w J ≡ nothing_seen (length C.proxies)
    = ap (λ (S : Seen). beside (up_to_own (λ (e : Entry LauncherEvent). e.worker) w J.launcher) S) blank.columns
    ∙ ap (λ (L : List (Entry LauncherEvent)). beside (up_to_own (λ (e : Entry LauncherEvent). e.worker) w L) (nothing_seen (length C.proxies))) blank.launcher in
    record {
      leads = subst (λ (S : Seen). Leads C w pieces S (seen_by w K)) first goes.leads;
      dialogs_are = λ s. goes.dialogs s
          ∙ ap (λ (J : List CellEvent). spoken_in s pieces ++ dialogs_of w J) (blank.cells s)
          ∙ nothing_behind (spoken_in s pieces);
    }

pub lives_end_in_records : (C : Config) (R : Record) (w : ℕ) (pieces : List Piece) (J : Sights) → length R.proxies ≡ length C.proxies
    → LivesWith (λ s. dialogs_of w (cell_seen J s)) C w pieces (seen_by w J)
    → EndsIn R w J.columns → Grows w J.launcher R.launcher → ((s : ℕ) → dialogs_of w (cell_past R s) ≡ dialogs_of w (cell_seen J s)) → IsWorker C R w pieces J.columns.own
lives_end_in_records C R w pieces J many lives ends launcher dialogs = record {
  seen = seen_by w J;
  lives = lives_are_found C R w pieces (seen_by w J) many (record { leads = lives.leads; dialogs_are = λ s. dialogs s ∙ lives.dialogs_are s });
  items_are = refl;
  left = record {
    okd = ends.okd;
    proxies = λ p within. ends.proxies p;
    pubd = ends.pubd;
    oklogd = ends.oklogd;
    launchers = grows_then w (up_to_own (λ (e : Entry LauncherEvent). e.worker) w J.launcher) J.launcher R.launcher (grows_from_own w J.launcher) launcher;
  };
}
