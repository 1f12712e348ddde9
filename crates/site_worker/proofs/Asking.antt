-- What a number's hands answer to a dialog.
use Rattle.std.proofs.Common.{◌≡◌, ◌∙◌, ℕ, ◌≤◌, List, ◌∷◌, ◌++◌, true, false, refl, sym, ap, subst, arith, append_assoc}
use Rattle.std.specs.Prelude.{Result, Ok, Err, Some, IfOk, OnOk, OnErr, slice_index, slice_set}
use Rattle.okws_base.specs.Runs.{Each}
use Rattle.okws_base.specs.Turns.{Behind}
use Rattle.okws_base.specs.declared.journal.Entry.{Entry}
use Rattle.okws_plan.specs.declared.configuration.Config.{Config}
use Rattle.okws_plan.specs.declared.event.OkdEvent.{OkdEvent}
use Rattle.okws_plan.specs.declared.event.ProxyEvent.{ProxyEvent}
use Rattle.okws_plan.specs.declared.event.LogEvent.{LogEvent}
use Rattle.okws_plan.specs.declared.event.PubdEvent.{PubdEvent}
use Rattle.okws_plan.specs.declared.event.PubdEvent.TheVariants as pubd_event
use Rattle.monitor_model.specs.declared.record.Own.{Own}
use Rattle.monitor_model.specs.declared.record.Own.TheVariants as own
use Rattle.monitor_model.specs.declared.verdict.Push.{Push}
use Rattle.monitor_model.specs.declared.verdict.Published.{Published}
use Rattle.monitor_model.specs.declared.verdict.Published.TheVariants.{Edition, NoSuchTemplate, TooLong, EditionsSpent}
use Rattle.monitor_model.specs.Pubd.{drain_verdict, publish_at}
use Rattle.service_cell.specs.Asking.{Asker, KeepsBoard, Drains, IsShortPush}
use Rattle.site_locks.specs.Calls.{Publishes}
use Rattle.site_locks.specs.Heard.{AreInstalled, ColumnsBehind, SeesColumns, columns_of}
use Rattle.site_locks.specs.Sat.{Sat, seen_of}
use Rattle.site_locks.specs.Steps.{NotesOkd, SeesOkd, NotesProxy, SeesProxy, NotesPubd, SeesPubd, NotesLog, SeesLog, noted}
use Rattle.site_locks.proofs.Boards.{no_fall}
use Rattle.site_locks.proofs.Heard.{columns_same, installed_on, log_entered_behind, log_seen_behind, proxy_entered_behind, proxy_seen_behind, pubd_entered_behind, pubd_seen_behind}
use Rattle.site_locks.proofs.Seeing.{at_pubd, pubd_same}
use Rattle.site_worker.specs.Asking.{KeepsPasts, PublishesAt, SameBoard}

-- who asks
abbrev pub asker_of : Config → Sat → Asker
asker_of C s = record { config = C; worker = s.number; alone = false }

-- the board may still show what it might
pub keeps_board : (C : Config) (seed : List ℕ) (s now : Sat) → now.number ≡ s.number → now.board ≡ s.board → now.spare ≡ s.spare → ColumnsBehind (columns_of s) (columns_of now) → KeepsBoard (λ (h : Sat). asker_of C h) (λ (h : Sat) t k. k ≤ slice_index h.board t) (λ (h : Sat). seed) (λ (h : Sat). h.spare) (λ (h : Sat) t k. AreInstalled C t k (columns_of h)) s now
keeps_board C seed s now number board spare behind = record {
  asked = ap (λ n. record { config = C; worker = n; alone = false }) number;
  seeded = refl;
  spared = spare;
  shown = λ t k h. subst (λ b. k ≤ slice_index b t) (sym board) h;
  allowed = λ t k h. installed_on C t k (columns_of s) (columns_of now) behind h;
}

pub keeps_current : (C : Config) (seed : List ℕ) (s now : Sat) (service r : ℕ) → slice_index s.board service ≤ r → now ≡ record s { board = slice_set s.board service r }
    → KeepsBoard (λ (h : Sat). asker_of C h) (λ (h : Sat) t k. k ≤ slice_index h.board t) (λ (h : Sat). seed) (λ (h : Sat). h.spare) (λ (h : Sat) t k. AreInstalled C t k (columns_of h)) s now
keeps_current C seed s now service r least is = record {
  asked = ap (λ (x : Sat). record { config = C; worker = x.number; alone = false }) is;
  seeded = refl;
  spared = ap (λ (x : Sat). x.spare) is;
  shown = λ t k h.
      let more : slice_index s.board t ≤ slice_index (slice_set s.board service r) t = no_fall s.board service r t least in
      subst (λ (x : Sat). k ≤ slice_index x.board t) (sym is) (omega (arith, h, more));
  allowed = λ t k h. subst (λ (x : Sat). AreInstalled C t k (columns_of x)) (sym is) h;
}

pub drains_on : (C : Config) (s now : Sat) (service k : ℕ) (pushes : List Push) (before : List (Entry PubdEvent)) → pushes ≡ drain_verdict C before service k → NotesPubd (pubd_event.Drain service k) before (noted s (own.Dialog service)) now → Each IsShortPush pushes
    → Drains (asker_of C s) service k (seen_of s) pushes (seen_of now)
drains_on C s now service k pushes before verdict h short = (before, at_pubd (noted s (own.Dialog service)) now (pubd_event.Drain service k) before h, (λ alone. absurd (let no : false ≡ true = alone in cc)), verdict, short)

-- all that was seen of pubd then
seen_then : (s now : Sat) (before : List (Entry PubdEvent)) → SeesPubd before s now → now.pubd ≡ before
seen_then s now before h = ap (λ (x : Sat). x.pubd) h.is

pub publishes_at : (t : ℕ) (content : List ℕ) (v : Published) (before : List (Entry PubdEvent)) (s now : Sat) → v ≡ publish_at before (Some t) content → Publishes t content v before s now → PublishesAt t content v s now
publishes_at t content (Edition n) before s now verdict h = (before, verdict, at_pubd s now (pubd_event.Publish t content) before h)
publishes_at t content NoSuchTemplate before s now verdict h = (verdict ∙ ap (λ J. publish_at J (Some t) content) (sym (seen_then s now before h)), pubd_same s now before h)
publishes_at t content TooLong before s now verdict h = (verdict ∙ ap (λ J. publish_at J (Some t) content) (sym (seen_then s now before h)), pubd_same s now before h)
publishes_at t content EditionsSpent before s now verdict h = (verdict ∙ ap (λ J. publish_at J (Some t) content) (sym (seen_then s now before h)), pubd_same s now before h)

-- what was seen of a column only grows
pub past_kept : {E : Type 0} (J now : List E) → now ≡ J → KeepsPasts J now
past_kept J now e = λ past b. subst (Behind past) (sym e) b

pub past_on : {E : Type 0} (J now : List E) → Behind J now → KeepsPasts J now
past_on J now g = λ past b. (g.0 ++ b.0, g.1 ∙ ap (λ l. g.0 ++ l) b.1 ∙ sym (append_assoc g.0 b.0 past))

pub okd_keeps : (event : OkdEvent) (before : List (Entry OkdEvent)) (s now : Sat) → NotesOkd event before s now → KeepsPasts s.pubd now.pubd
okd_keeps event before s now h = past_kept s.pubd now.pubd (ap (λ (x : Sat). x.pubd) h.is)

pub okd_seen_keeps : (before : List (Entry OkdEvent)) (s now : Sat) → SeesOkd before s now → KeepsPasts s.pubd now.pubd
okd_seen_keeps before s now h = past_kept s.pubd now.pubd (ap (λ (x : Sat). x.pubd) h.is)

-- the same of okd, and of oklogd
pub okd_on : (event : OkdEvent) (before : List (Entry OkdEvent)) (s now : Sat) → NotesOkd event before s now → KeepsPasts s.okd now.okd
okd_on event before s now h =
    let e : Entry OkdEvent = record { worker = s.number; event = event } in
    past_on s.okd now.okd (e ∷ h.grows.0, ap (λ (x : Sat). x.okd) h.is ∙ ap (λ J. e ∷ J) h.grows.2)

pub okd_seen_on : (before : List (Entry OkdEvent)) (s now : Sat) → SeesOkd before s now → KeepsPasts s.okd now.okd
okd_seen_on before s now h = past_on s.okd now.okd (h.grows.0, ap (λ (x : Sat). x.okd) h.is ∙ h.grows.2)

pub log_of_okd : (event : OkdEvent) (before : List (Entry OkdEvent)) (s now : Sat) → NotesOkd event before s now → KeepsPasts s.oklogd now.oklogd
log_of_okd event before s now h = past_kept s.oklogd now.oklogd (ap (λ (x : Sat). x.oklogd) h.is)

pub log_of_okd_seen : (before : List (Entry OkdEvent)) (s now : Sat) → SeesOkd before s now → KeepsPasts s.oklogd now.oklogd
log_of_okd_seen before s now h = past_kept s.oklogd now.oklogd (ap (λ (x : Sat). x.oklogd) h.is)

pub log_on : (before : List (Entry LogEvent)) (s now : Sat) → SeesLog before s now → KeepsPasts s.oklogd now.oklogd
log_on before s now h = past_on s.oklogd now.oklogd (h.grows.0, ap (λ (x : Sat). x.oklogd) h.is ∙ h.grows.2)

-- where something was done at pubd
pub okd_of_pubd : (before : List (Entry PubdEvent)) (s now : Sat) → SeesPubd before s now → KeepsPasts s.okd now.okd
okd_of_pubd before s now h = past_kept s.okd now.okd (ap (λ (x : Sat). x.okd) h.is)

pub log_of_pubd : (before : List (Entry PubdEvent)) (s now : Sat) → SeesPubd before s now → KeepsPasts s.oklogd now.oklogd
log_of_pubd before s now h = past_kept s.oklogd now.oklogd (ap (λ (x : Sat). x.oklogd) h.is)

pub okd_of_published : (t : ℕ) (content : List ℕ) (v : Published) (before : List (Entry PubdEvent)) (s now : Sat) → Publishes t content v before s now → KeepsPasts s.okd now.okd
okd_of_published t content (Edition n) before s now h = past_kept s.okd now.okd (ap (λ (x : Sat). x.okd) h.is)
okd_of_published t content NoSuchTemplate before s now h = okd_of_pubd before s now h
okd_of_published t content TooLong before s now h = okd_of_pubd before s now h
okd_of_published t content EditionsSpent before s now h = okd_of_pubd before s now h

pub log_of_published : (t : ℕ) (content : List ℕ) (v : Published) (before : List (Entry PubdEvent)) (s now : Sat) → Publishes t content v before s now → KeepsPasts s.oklogd now.oklogd
log_of_published t content (Edition n) before s now h = past_kept s.oklogd now.oklogd (ap (λ (x : Sat). x.oklogd) h.is)
log_of_published t content NoSuchTemplate before s now h = log_of_pubd before s now h
log_of_published t content TooLong before s now h = log_of_pubd before s now h
log_of_published t content EditionsSpent before s now h = log_of_pubd before s now h

pub pubd_keeps : (before : List (Entry PubdEvent)) (s now : Sat) → SeesPubd before s now → KeepsPasts s.pubd now.pubd
pubd_keeps before s now h = past_on s.pubd now.pubd (h.grows.0, seen_then s now before h ∙ h.grows.2)

pub published_keeps : (t : ℕ) (content : List ℕ) (v : Published) (before : List (Entry PubdEvent)) (s now : Sat) → Publishes t content v before s now → KeepsPasts s.pubd now.pubd
published_keeps t content (Edition n) before s now h =
    let e : Entry PubdEvent = record { worker = s.number; event = pubd_event.Publish t content } in
    past_on s.pubd now.pubd (e ∷ h.grows.0, ap (λ (x : Sat). x.pubd) h.is ∙ ap (λ J. e ∷ J) h.grows.2)
published_keeps t content NoSuchTemplate before s now h = pubd_keeps before s now h
published_keeps t content TooLong before s now h = pubd_keeps before s now h
published_keeps t content EditionsSpent before s now h = pubd_keeps before s now h

pub published_board : (t : ℕ) (content : List ℕ) (v : Published) (before : List (Entry PubdEvent)) (s now : Sat) → Publishes t content v before s now → SameBoard s now
published_board t content (Edition n) before s now h = record { number_is = ap (λ (x : Sat). x.number) h.is; board_is = ap (λ (x : Sat). x.board) h.is; drawn_is = ap (λ (x : Sat). x.drawn) h.is; spare_is = ap (λ (x : Sat). x.spare) h.is; behind = pubd_entered_behind (pubd_event.Publish t content) before (noted s (own.Pubd (pubd_event.Publish t content))) now h }
published_board t content NoSuchTemplate before s now h = record { number_is = ap (λ (x : Sat). x.number) h.is; board_is = ap (λ (x : Sat). x.board) h.is; drawn_is = ap (λ (x : Sat). x.drawn) h.is; spare_is = ap (λ (x : Sat). x.spare) h.is; behind = pubd_seen_behind before s now h }
published_board t content TooLong before s now h = record { number_is = ap (λ (x : Sat). x.number) h.is; board_is = ap (λ (x : Sat). x.board) h.is; drawn_is = ap (λ (x : Sat). x.drawn) h.is; spare_is = ap (λ (x : Sat). x.spare) h.is; behind = pubd_seen_behind before s now h }
published_board t content EditionsSpent before s now h = record { number_is = ap (λ (x : Sat). x.number) h.is; board_is = ap (λ (x : Sat). x.board) h.is; drawn_is = ap (λ (x : Sat). x.drawn) h.is; spare_is = ap (λ (x : Sat). x.spare) h.is; behind = pubd_seen_behind before s now h }

-- what follows of each outcome of a call
pub of_result : {A X : Type 0} (r : Result A X) (P : A → Type 0) (Q Z : Type 0) → IfOk r P → OnErr r Q → ((v : A) → P v → Z) → (Q → Z) → Z
of_result (Ok v) P Q Z ok err f g = f v ok
of_result (Err x) P Q Z ok err f g = g err

-- what the number is, and what it has seen on the board, stays where it entered or saw something at a column
pub enters_okd : (event : OkdEvent) (before : List (Entry OkdEvent)) (s now : Sat) → NotesOkd event before s now → SameBoard s now
enters_okd event before s now h = record { number_is = ap (λ (x : Sat). x.number) h.is; board_is = ap (λ (x : Sat). x.board) h.is; drawn_is = ap (λ (x : Sat). x.drawn) h.is; spare_is = ap (λ (x : Sat). x.spare) h.is; behind = columns_same s now (ap columns_of h.is) }

pub sees_okd : (before : List (Entry OkdEvent)) (s now : Sat) → SeesOkd before s now → SameBoard s now
sees_okd before s now h = record { number_is = ap (λ (x : Sat). x.number) h.is; board_is = ap (λ (x : Sat). x.board) h.is; drawn_is = ap (λ (x : Sat). x.drawn) h.is; spare_is = ap (λ (x : Sat). x.spare) h.is; behind = columns_same s now (ap columns_of h.is) }

pub enters_proxy : (p : ℕ) (event : ProxyEvent) (before : List (Entry ProxyEvent)) (s now : Sat) → NotesProxy p event before s now → SameBoard s now
enters_proxy p event before s now h = record { number_is = ap (λ (x : Sat). x.number) h.is; board_is = ap (λ (x : Sat). x.board) h.is; drawn_is = ap (λ (x : Sat). x.drawn) h.is; spare_is = ap (λ (x : Sat). x.spare) h.is; behind = proxy_entered_behind p event before (noted s (own.Proxy p event)) now h }

pub sees_proxy : (p : ℕ) (before : List (Entry ProxyEvent)) (s now : Sat) → SeesProxy p before s now → SameBoard s now
sees_proxy p before s now h = record { number_is = ap (λ (x : Sat). x.number) h.is; board_is = ap (λ (x : Sat). x.board) h.is; drawn_is = ap (λ (x : Sat). x.drawn) h.is; spare_is = ap (λ (x : Sat). x.spare) h.is; behind = proxy_seen_behind p before s now h }

pub enters_pubd : (event : PubdEvent) (before : List (Entry PubdEvent)) (s now : Sat) → NotesPubd event before s now → SameBoard s now
enters_pubd event before s now h = record { number_is = ap (λ (x : Sat). x.number) h.is; board_is = ap (λ (x : Sat). x.board) h.is; drawn_is = ap (λ (x : Sat). x.drawn) h.is; spare_is = ap (λ (x : Sat). x.spare) h.is; behind = pubd_entered_behind event before (noted s (own.Pubd event)) now h }

pub drains_pubd : (service : ℕ) (event : PubdEvent) (before : List (Entry PubdEvent)) (s now : Sat) → NotesPubd event before (noted s (own.Dialog service)) now → SameBoard s now
drains_pubd service event before s now h = record { number_is = ap (λ (x : Sat). x.number) h.is; board_is = ap (λ (x : Sat). x.board) h.is; drawn_is = ap (λ (x : Sat). x.drawn) h.is; spare_is = ap (λ (x : Sat). x.spare) h.is; behind = pubd_entered_behind event before (noted (noted s (own.Dialog service)) (own.Pubd event)) now h }

pub sees_pubd : (before : List (Entry PubdEvent)) (s now : Sat) → SeesPubd before s now → SameBoard s now
sees_pubd before s now h = record { number_is = ap (λ (x : Sat). x.number) h.is; board_is = ap (λ (x : Sat). x.board) h.is; drawn_is = ap (λ (x : Sat). x.drawn) h.is; spare_is = ap (λ (x : Sat). x.spare) h.is; behind = pubd_seen_behind before s now h }

pub enters_log : (event : LogEvent) (before : List (Entry LogEvent)) (s now : Sat) → NotesLog event before s now → SameBoard s now
enters_log event before s now h = record { number_is = ap (λ (x : Sat). x.number) h.is; board_is = ap (λ (x : Sat). x.board) h.is; drawn_is = ap (λ (x : Sat). x.drawn) h.is; spare_is = ap (λ (x : Sat). x.spare) h.is; behind = log_entered_behind event before (noted s (own.Oklogd event)) now h }

pub sees_log : (before : List (Entry LogEvent)) (s now : Sat) → SeesLog before s now → SameBoard s now
sees_log before s now h = record { number_is = ap (λ (x : Sat). x.number) h.is; board_is = ap (λ (x : Sat). x.board) h.is; drawn_is = ap (λ (x : Sat). x.drawn) h.is; spare_is = ap (λ (x : Sat). x.spare) h.is; behind = log_seen_behind before s now h }

pub keeps_same : (C : Config) (seed : List ℕ) (s now : Sat) → SameBoard s now → KeepsBoard (λ (h : Sat). asker_of C h) (λ (h : Sat) t k. k ≤ slice_index h.board t) (λ (h : Sat). seed) (λ (h : Sat). h.spare) (λ (h : Sat) t k. AreInstalled C t k (columns_of h)) s now
keeps_same C seed s now h = keeps_board C seed s now h.number_is h.board_is h.spare_is h.behind

pub drains_ok : {A X : Type 0} (C : Config) (s now : Sat) (service k : ℕ) (r : Result A X) (items : A → List Push)
    → IfOk r (λ v. (before : List (Entry PubdEvent)) × (items v ≡ drain_verdict C before service k) × NotesPubd (pubd_event.Drain service k) before (noted s (own.Dialog service)) now) → IfOk r (λ v. Each IsShortPush (items v))
    → IfOk r (λ v. Drains (asker_of C s) service k (seen_of s) (items v) (seen_of now))
drains_ok C s now service k (Ok v) items ok short = drains_on C s now service k (items v) ok.0 ok.1 ok.2 short
drains_ok C s now service k (Err x) items ok short = ok

-- the hands that did nothing, that noted an item, and that heard of the columns
pub same_still : (s : Sat) → SameBoard s s
same_still s = record { number_is = refl; board_is = refl; drawn_is = refl; spare_is = refl; behind = columns_same s s refl }

pub notes_same : {A X : Type 0} (r : Result A X) (item : Own) (s now : Sat) → OnOk r (now ≡ noted s item) → OnErr r (now ≡ s) → SameBoard s now
notes_same (Ok v) item s now ok err = subst (SameBoard s) (sym ok) (record { number_is = refl; board_is = refl; drawn_is = refl; spare_is = refl; behind = columns_same s (noted s item) refl })
notes_same (Err x) item s now ok err = subst (SameBoard s) (sym err) (same_still s)

pub heard_same : (s now : Sat) → SeesColumns s now → SameBoard s now
heard_same s now h = record { number_is = ap (λ (x : Sat). x.number) h.is; board_is = ap (λ (x : Sat). x.board) h.is; drawn_is = ap (λ (x : Sat). x.drawn) h.is; spare_is = ap (λ (x : Sat). x.spare) h.is; behind = h.behind }
