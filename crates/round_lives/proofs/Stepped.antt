-- Each thing that a worker does is pieces of its list.
use Rattle.std.proofs.Common.{◌≡◌, ℕ, ◌≤◌, Bool, true, false, not, List, [], ◌∷◌, ◌++◌, map, refl, sym, ap, ◌∙◌, subst, append-nil, eq-eqb, Option, Some, None}
use Rattle.std.proofs.lemmas.List.Folds.{list_any-append}
use Rattle.std.specs.List.{list_any}
use Rattle.std.specs.Prelude.{◌||◌, slice_index, slice_set}
use Rattle.okws_base.specs.Turns.{GrowsBy}
use Rattle.okws_base.specs.declared.journal.Entry.{Entry}
use Rattle.okws_plan.specs.declared.configuration.Config.{Config}
use Rattle.okws_plan.specs.declared.event.LauncherEvent.{LauncherEvent}
use Rattle.okws_plan.specs.declared.event.LauncherEvent.TheVariants as event
use Rattle.okws_plan.specs.declared.event.OkdEvent.TheVariants as okd
use Rattle.okws_plan.specs.declared.event.PubdEvent.TheVariants as pubd
use Rattle.monitor_model.specs.declared.record.CellEvent.{CellEvent}
use Rattle.monitor_model.specs.declared.record.Dialog.{Dialog}
use Rattle.monitor_model.specs.declared.record.End.{End}
use Rattle.monitor_model.specs.declared.record.Own.{Own}
use Rattle.monitor_model.specs.declared.record.Own.TheVariants as own
use Rattle.monitor_model.specs.declared.verdict.Way.TheVariants as way
use Rattle.monitor_model.specs.Cell.{dialogs_of}
use Rattle.monitor_model.specs.Causes.{is_crash}
use Rattle.monitor_model.specs.Launcher.{begun}
use Rattle.monitor_model.specs.Seen.{Seen, AtOkd, AtPubd, noted}
use Rattle.monitor_model.specs.Worker.{Outcome, Spoke, Piece, Accepted, Published, Launched, Wants}
use Rattle.service_cell.specs.declared.answer.Spoken.{Spoken}
use Rattle.site_cells.specs.Held.{by_event}
use Rattle.site_cells.specs.Row.{CellsSeen, seen_at}
use Rattle.door_worker.specs.Asking.{Asked}
use Rattle.launch_turns.specs.Deeds.{entries}
use Rattle.admin_console.specs.declared.controls.Status.{Status}
use Rattle.okld_launch.specs.declared.answer.Launched.{Launched as Launch}
use Rattle.site_worker.specs.Handling.{Accepts, Talks, asker_of}
use Rattle.site_worker.specs.Launching.{Asks, OnlyLauncher, launch_starved, with_launches}
use Rattle.site_worker.specs.Lives.{Life, Sees, Starves, StarvesWhere, number_of}
use Rattle.site_worker.specs.Steering.{Surveys}
use Rattle.worker_lives.specs.Going.{GoesOn, entries_by}
use Rattle.worker_lives.specs.Listing.{are_told, first_item, outcome_is_told}
use Rattle.worker_lives.specs.Talking.{Had, SpokeLast, with_want}
use Rattle.worker_lives.specs.Waiting.{LeadsSo, owes, turn_leads}
use Rattle.worker_lives.proofs.Others.{others_leave_dialogs}
use Rattle.worker_lives.proofs.Steps.{goings_join, publications_are_pieces, rests_are_no_pieces, turns_are_pieces, wants_are_pieces}
use Rattle.worker_lives.proofs.Talked.{dialogs_are_outcomes, visits_are_pieces}
use Rattle.worker_lives.proofs.Told.{told_both}
use Rattle.round_lives.specs.Living.{EndsWell, IsOf, LivesOn, sights_of}
use Rattle.round_lives.specs.Laws.{is_accepted, is_order}
use Rattle.round_lives.proofs.Awaited.{firsts_both, item_leads, same_leads, turn_leads_on, want_leads, with_wants}
use Rattle.round_lives.proofs.Closing.{asks_ends}
use Rattle.round_lives.proofs.Ended.{calm_came, ends_none, ends_one, ends_seen, ends_then, turn_ends, turn_enters, turn_grows, turn_past}
use Rattle.round_lives.proofs.Entered.{BeginsWithAsked, asked_calm, asked_entered, is_asked}
use Rattle.round_lives.proofs.Led.{asks_led}

-- ---- what lives on

pub lives_then : (C : Config) (w : ℕ) (forbidden : Piece → Bool) (I J K : Life) → LivesOn C w forbidden I J → LivesOn C w forbidden J K → LivesOn C w forbidden I K
lives_then C w forbidden I J K i j = record {
  pieces = j.pieces ++ i.pieces;
  goes = goings_join C w i.pieces j.pieces (sights_of I) (sights_of J) (sights_of K) i.goes j.goes;
  same = j.same;
  told = told_both None i.pieces j.pieces i.told j.told;
  allowed = list_any-append forbidden j.pieces i.pieces ∙ ap (λ (b : Bool). b || list_any forbidden i.pieces) j.allowed ∙ i.allowed;
  ends = ends_then I.launcher.seen J.launcher.seen K.launcher.seen i.pieces j.pieces i.ends j.ends;
  leads = λ items h. subst (λ (xs : List Own). LeadsSo w false xs (entries K.launcher.seen)) (sym (firsts_both j.pieces i.pieces items)) (j.leads (map first_item i.pieces ++ items) (i.leads items h));
}

pub lives_then_by : (C : Config) (w : ℕ) (forbidden : Piece → Bool) (I J K : Life) (i : LivesOn C w forbidden I J) (j : LivesOn C w forbidden J K) → (lives_then C w forbidden I J K i j).pieces ≡ j.pieces ++ i.pieces
unfolding lives_then
lives_then_by C w forbidden I J K i j = refl

pub same_lives : (C : Config) (w : ℕ) (forbidden : Piece → Bool) (J K : Life) → IsOf w J → K ≡ J → LivesOn C w forbidden J K
same_lives C w forbidden J K of is = subst (LivesOn C w forbidden J) (sym is) (record {
  pieces = [];
  goes = rests_are_no_pieces C w (sights_of J) (sights_of J) refl ([], refl, refl) (λ s. refl);
  same = of;
  told = refl;
  allowed = refl;
  ends = ends_none J.launcher.seen;
  leads = λ items h. h;
})

-- ---- what was seen of the columns alone

pub sees_sights : (J K : Life) (now : Seen) → Sees now J K → sights_of K ≡ record (sights_of J) { columns = now }
sees_sights J K now h =
    ap (λ (S : Seen). record (sights_of K) { columns = S }) h.seen_is
    ∙ ap (λ (a : _). record { columns = now; launcher = entries a.seen; cells = K.cells.cells }) h.launcher_is
    ∙ ap (λ (c : CellsSeen). record { columns = now; launcher = entries J.launcher.seen; cells = c.cells }) h.cells_is

pub sees_of : (w : ℕ) (J K : Life) (now : Seen) → Sees now J K → IsOf w J → IsOf w K
sees_of w J K now h of = record {
  number_is = ap (λ (c : CellsSeen). c.number) h.cells_is ∙ of.number_is;
  seat_is = ap (λ (a : _). a.number) h.launcher_is ∙ of.seat_is;
}

pub starves_lives : (C : Config) (w : ℕ) (forbidden : Piece → Bool) (J K : Life) → forbidden Wants ≡ false → IsOf w J → Starves J K → LivesOn C w forbidden J K
starves_lives C w forbidden J K wants of h = record {
  pieces = Wants ∷ [];
  goes = subst (GoesOn C w (Wants ∷ []) (sights_of J)) (sym (sees_sights J K (noted J.seen own.NoMemory) h)) (wants_are_pieces C w (sights_of J));
  same = sees_of w J K (noted J.seen own.NoMemory) h of;
  told = refl;
  allowed = rw (wants) refl;
  ends = ends_seen J.launcher.seen J.launcher K.launcher (Wants ∷ []) h.launcher_is (ends_one J.launcher.seen Wants refl);
  leads = want_leads w false J K h.launcher_is;
}

pub sees_lives : (C : Config) (w : ℕ) (forbidden : Piece → Bool) (J K : Life) → IsOf w J → Sees J.seen J K → LivesOn C w forbidden J K
sees_lives C w forbidden J K of h = record {
  pieces = [];
  goes = subst (GoesOn C w [] (sights_of J)) (sym (sees_sights J K J.seen h)) (rests_are_no_pieces C w (sights_of J) (sights_of J) refl ([], refl, refl) (λ s. refl));
  same = sees_of w J K J.seen h of;
  told = refl;
  allowed = refl;
  ends = ends_seen J.launcher.seen J.launcher K.launcher [] h.launcher_is (ends_none J.launcher.seen);
  leads = same_leads w J K h.launcher_is;
}

pub publishes_lives : (C : Config) (w : ℕ) (forbidden : Piece → Bool) (J K : Life) (t : ℕ) (content : List ℕ) (before : _) → forbidden (Published t content) ≡ false → IsOf w J
    → AtPubd (number_of J) (pubd.Publish t content) J.seen before K.seen → Sees K.seen J K → LivesOn C w forbidden J K
publishes_lives C w forbidden J K t content before allowed of at h = record {
  pieces = Published t content ∷ [];
  goes = subst (GoesOn C w (Published t content ∷ []) (sights_of J)) (sym (sees_sights J K K.seen h))
      (publications_are_pieces C w t content (sights_of J) before K.seen (subst (λ (v : ℕ). AtPubd v (pubd.Publish t content) J.seen before K.seen) of.number_is at));
  same = sees_of w J K K.seen h of;
  told = refl;
  allowed = rw (allowed) refl;
  ends = ends_seen J.launcher.seen J.launcher K.launcher (Published t content ∷ []) h.launcher_is (ends_one J.launcher.seen (Published t content) refl);
  leads = item_leads w (own.Pubd (pubd.Publish t content)) J K refl h.launcher_is;
}

pub publishes_lives_by : (C : Config) (w : ℕ) (forbidden : Piece → Bool) (J K : Life) (t : ℕ) (content : List ℕ) (before : _) (allowed : forbidden (Published t content) ≡ false) (of : IsOf w J)
    (at : AtPubd (number_of J) (pubd.Publish t content) J.seen before K.seen) (h : Sees K.seen J K) → (publishes_lives C w forbidden J K t content before allowed of at h).pieces ≡ Published t content ∷ []
unfolding publishes_lives
publishes_lives_by C w forbidden J K t content before allowed of at h = refl

-- ---- the launcher's turns

pub turns_told : (next : Option Piece) (events : List LauncherEvent) → are_told next (map Launched events) ≡ true
turns_told next [] = refl
turns_told next (e ∷ events) = turns_told (Some (Launched e)) events

-- what a turn entered was noted
pub turned_of : (w : ℕ) (events : List LauncherEvent) (J K : Life) → IsOf w J → OnlyLauncher events J K → IsOf w K
turned_of w events J K of only = record {
  number_is = ap (λ (x : Life). number_of x) only ∙ of.number_is;
  seat_is = ap (λ (x : Life). x.launcher.number) only ∙ of.seat_is;
}

pub turned_goes : (C : Config) (w : ℕ) (events : List LauncherEvent) (J K : Life) (before : List (Entry LauncherEvent)) → IsOf w J → OnlyLauncher events J K
    → GrowsBy (λ (e : Entry LauncherEvent). e.worker) J.launcher.number (entries J.launcher.seen) before → entries K.launcher.seen ≡ entries_by J.launcher.number events ++ before
    → GoesOn C w (map Launched events) (sights_of J) (sights_of K)
turned_goes C w events J K before of only grows enters =
    let mine : entries K.launcher.seen ≡ entries_by w events ++ before = enters ∙ ap (λ (v : ℕ). entries_by v events ++ before) of.seat_is in
    let seen : sights_of K ≡ record { columns = with_launches events J.seen; launcher = entries K.launcher.seen; cells = J.cells.cells } = ap sights_of only in
    let then : sights_of K ≡ record { columns = with_launches events J.seen; launcher = entries_by w events ++ before; cells = J.cells.cells }
    = seen ∙ ap (λ (L : List (Entry LauncherEvent)). record { columns = with_launches events J.seen; launcher = L; cells = J.cells.cells }) mine in
    subst (GoesOn C w (map Launched events) (sights_of J)) (sym then)
    (turns_are_pieces C w events (sights_of J) before (subst (λ (v : ℕ). GrowsBy (λ (e : Entry LauncherEvent). e.worker) v (entries J.launcher.seen) before) of.seat_is grows))

-- want of memory was noted behind these pieces, where there was any
pub noted_goes : (C : Config) (w : ℕ) (starved : Bool) (pieces : List Piece) (J M K : Life) → StarvesWhere starved M K → GoesOn C w pieces (sights_of J) (sights_of M) → GoesOn C w (with_wants starved pieces) (sights_of J) (sights_of K)
noted_goes C w true pieces J M K h goes =
    goings_join C w pieces (Wants ∷ []) (sights_of J) (sights_of M) (sights_of K) goes (subst (GoesOn C w (Wants ∷ []) (sights_of M)) (sym (sees_sights M K (noted M.seen own.NoMemory) h)) (wants_are_pieces C w (sights_of M)))
noted_goes C w false pieces J M K h goes = subst (λ (x : Life). GoesOn C w pieces (sights_of J) (sights_of x)) (sym h) goes

pub noted_of : (w : ℕ) (starved : Bool) (M K : Life) → StarvesWhere starved M K → IsOf w M → IsOf w K
noted_of w true M K h of = sees_of w M K (noted M.seen own.NoMemory) h of
noted_of w false M K h of = subst (IsOf w) (sym h) of

-- no more was seen at the launcher
pub noted_seat : (starved : Bool) (M K : Life) → StarvesWhere starved M K → K.launcher ≡ M.launcher
noted_seat true M K h = h.launcher_is
noted_seat false M K h = ap (λ (x : Life). x.launcher) h

noted_told : (starved : Bool) (events : List LauncherEvent) → are_told None (with_wants starved (map Launched events)) ≡ true
noted_told true events = turns_told (Some Wants) events
noted_told false events = turns_told None events

pub noted_allowed : (forbidden : Piece → Bool) (starved : Bool) (pieces : List Piece) → forbidden Wants ≡ false → list_any forbidden pieces ≡ false → list_any forbidden (with_wants starved pieces) ≡ false
noted_allowed forbidden true pieces wants allowed = rw (wants) allowed
noted_allowed forbidden false pieces wants allowed = allowed

pub turned_lives : (C : Config) (w : ℕ) (forbidden : Piece → Bool) (starved : Bool) (events : List LauncherEvent) (J M K : Life) (before : List (Entry LauncherEvent)) → forbidden Wants ≡ false → list_any forbidden (map Launched events) ≡ false → IsOf w J
    → OnlyLauncher events J M → GrowsBy (λ (e : Entry LauncherEvent). e.worker) J.launcher.number (entries J.launcher.seen) before → entries M.launcher.seen ≡ entries_by J.launcher.number events ++ before
    → turn_leads J.launcher.number (begun (entries M.launcher.seen)) (owes starved events) None events before ≡ true → EndsWell J.launcher.seen M.launcher.seen (with_wants starved (map Launched events ++ [])) → StarvesWhere starved M K
    → LivesOn C w forbidden J K
turned_lives C w forbidden starved events J M K before wants allowed of only grows enters led ends notes = record {
  pieces = with_wants starved (map Launched events);
  goes = noted_goes C w starved (map Launched events) J M K notes (turned_goes C w events J M before of only grows enters);
  same = noted_of w starved M K notes (turned_of w events J M of only);
  told = noted_told starved events;
  allowed = noted_allowed forbidden starved (map Launched events) wants allowed;
  ends = subst (λ (ps : List Piece). EndsWell J.launcher.seen K.launcher.seen (with_wants starved ps)) (append-nil (map Launched events))
      (ends_seen J.launcher.seen M.launcher K.launcher (with_wants starved (map Launched events ++ [])) (noted_seat starved M K notes) ends);
  leads = λ items h. subst (λ (ps : List Piece). LeadsSo w false (map first_item (with_wants starved ps) ++ items) (entries K.launcher.seen)) (append-nil (map Launched events)) (turn_leads_on w starved events [] J M K before of grows enters led notes items h);
}

pub turned_lives_by : (C : Config) (w : ℕ) (forbidden : Piece → Bool) (starved : Bool) (events : List LauncherEvent) (J M K : Life) (before : List (Entry LauncherEvent)) (wants : forbidden Wants ≡ false) (allowed : list_any forbidden (map Launched events) ≡ false) (of : IsOf w J)
    (only : OnlyLauncher events J M) (grows : GrowsBy (λ (e : Entry LauncherEvent). e.worker) J.launcher.number (entries J.launcher.seen) before) (enters : entries M.launcher.seen ≡ entries_by J.launcher.number events ++ before)
    (led : turn_leads J.launcher.number (begun (entries M.launcher.seen)) (owes starved events) None events before ≡ true) (ends : EndsWell J.launcher.seen M.launcher.seen (with_wants starved (map Launched events ++ []))) (notes : StarvesWhere starved M K)
    → (turned_lives C w forbidden starved events J M K before wants allowed of only grows enters led ends notes).pieces ≡ with_wants starved (map Launched events)
unfolding turned_lives
turned_lives_by C w forbidden starved events J M K before wants allowed of only grows enters led ends notes = refl

-- none that was asked for is an order
pub unasked_pieces : (events : List LauncherEvent) → list_any is_asked events ≡ false → list_any is_order (map Launched events) ≡ false
unasked_pieces [] is = refl
unasked_pieces (e ∷ events) is = by (is_asked e) (unasked_pieces events) is
  where
    by : (b : Bool) → (list_any is_asked events ≡ false → list_any is_order (map Launched events) ≡ false) → (b || list_any is_asked events) ≡ false → (b || list_any is_order (map Launched events)) ≡ false
    by true rest bad = let never : ⊥ = cc in absurd never
    by false rest fine = rest fine

-- none of them is an Accept
pub unaccepted_pieces : (events : List LauncherEvent) → list_any is_accepted (map Launched events) ≡ false
unaccepted_pieces [] = refl
unaccepted_pieces (e ∷ events) = unaccepted_pieces events

-- what a turn leaves is what was seen of it then
pub turn_led : (n : ℕ) (owed : Bool) (events : List LauncherEvent) (before past seen : List (Entry LauncherEvent)) → seen ≡ past → turn_leads n (begun past) owed None events before ≡ true → turn_leads n (begun seen) owed None events before ≡ true
turn_led n owed events before past seen is led = subst (λ (K : List (Entry LauncherEvent)). turn_leads n (begun K) owed None events before ≡ true) (sym is) led

pub asks_lives : (C : Config) (w s : ℕ) (answer : Launch) (J K : Life) → IsOf w J → Asks C s answer J K → LivesOn C w is_accepted J K
asks_lives C w s answer J K of h =
    let t = h.relaunches in
    let n = J.launcher.number in
    let starved = launch_starved answer in
    let entered : BeginsWithAsked s h.events answer = asked_entered C n s t.before.journal.past t.before.crew.family h.events answer t.after t.turn.enters t.goes in
    let led = turn_led n (owes starved h.events) h.events t.before.journal.past t.after.journal.past (entries h.mid.launcher.seen) (turn_past t.turn)
    (asks_led C n s h.events t.before.journal.past t.before.crew.family answer t.after t.turn.enters t.goes) in
    let ends = turn_ends t.turn starved [] J.launcher.seen (ends_none J.launcher.seen) (asks_ends C n s h.events t.before.journal.past t.before.crew.family answer t.after t.turn.enters t.goes)
    (calm_came false [] h.events (asked_calm s h.events answer entered)) in
    turned_lives C w is_accepted starved h.events J h.mid K t.before.journal.past refl (unaccepted_pieces h.events) of h.only (turn_grows t.turn) (turn_enters t.turn) led ends h.notes

pub asks_lives_by : (C : Config) (w s : ℕ) (answer : Launch) (J K : Life) (of : IsOf w J) (h : Asks C s answer J K) → (asks_lives C w s answer J K of h).pieces ≡ with_wants (launch_starved answer) (map Launched h.events)
unfolding asks_lives turned_lives
asks_lives_by C w s answer J K of h = refl

-- where the site was looked at, no piece is made
pub surveys_lives : (C : Config) (w : ℕ) (forbidden : Piece → Bool) (told : Status) (J K : Life) → forbidden Wants ≡ false → IsOf w J → Surveys C J told K → LivesOn C w forbidden J K
surveys_lives C w forbidden told J K wants of h =
    let t = h.looks.turn in
    let ends = turn_ends t false [] J.launcher.seen (ends_none J.launcher.seen) (λ before. refl) (calm_came false [] [] refl) in
    let first : LivesOn C w forbidden J h.mid = turned_lives C w forbidden false [] J h.mid h.mid h.looks.before.journal.past wants refl of h.only (turn_grows t) (turn_enters t) refl ends refl in
    lives_then C w forbidden J h.mid K first (sees_lives C w forbidden h.mid K first.same h.counts.sees)

-- ---- a request

-- what the worker had of a cell that it went to
pub record HadThere (C : Config) (w s k : ℕ) (asked : Asked) (answer : Spoken) (M N : Life) : Type 0 where
  pub outcome : Outcome
  pub had : Had C w s k asked.head asked.content M.seen (seen_at M.cells s) answer N.seen (seen_at N.cells s) outcome

pub had_there : (C : Config) (n w s k : ℕ) (asked : Asked) (answer : Spoken) (M N : Life) → number_of M ≡ w → Talks C n asked s k answer M N → HadThere C w s k asked answer M N
had_there C n w s k asked answer M N is h =
    let t = h.talked in
    let same : dialogs_of (number_of M) t.before.past ≡ dialogs_of (number_of M) (seen_at M.cells s)
    = others_leave_dialogs (by_event n) (number_of M) (seen_at M.cells s) t.before.past (λ d. refl) t.found.grows in
    let it = dialogs_are_outcomes (asker_of C M) (λ (shown : ℕ). shown ≤ slice_index N.board s) asked.head asked.content k s (seen_at M.cells s) t.before t.after M.seen N.seen answer t.found.service_is same t.talks in
    record {
      outcome = it.0;
      had = subst (λ (v : ℕ). Had C v s k asked.head asked.content M.seen (seen_at M.cells s) answer N.seen (seen_at N.cells s) it.0) is
          (subst (λ (past : List CellEvent). Had C (number_of M) s k asked.head asked.content M.seen (seen_at M.cells s) answer N.seen past it.0) (sym t.seen_is) it.1);
    }

-- the Accept and what was had, where the worker K has seen this
pub visited : (C : Config) (n w s k : ℕ) (asked : Asked) (answer : Spoken) (J M N K : Life) → IsOf w J → Accepts C asked.path (way.To s k) J M → Talks C n asked s k answer M N → (h : HadThere C w s k asked answer M N)
    → K.seen ≡ with_want answer N.seen → K.launcher ≡ N.launcher → K.cells ≡ N.cells → GoesOn C w (Accepted asked.path asked.head asked.content h.outcome ∷ []) (sights_of J) (sights_of K)
visited C n w s k asked answer J M N K of a t h seen launcher cells =
    visits_are_pieces C w asked.path asked.head asked.content s k a.before M.seen N.seen answer h.outcome (sights_of J) (sights_of K)
    (subst (λ (v : ℕ). AtOkd v (okd.Accept asked.path) J.seen a.before M.seen) of.number_is a.enters)
    (sym a.goes_is)
    (subst (λ (new : List CellEvent). Had C w s k asked.head asked.content M.seen (seen_at J.cells s) answer N.seen new h.outcome) (sym there)
    (subst (λ (c : CellsSeen). Had C w s k asked.head asked.content M.seen (seen_at c s) answer N.seen (seen_at N.cells s) h.outcome) a.rest.cells_is h.had))
    seen
    (ap (λ (x : _). entries x.seen) launcher ∙ ap (λ (x : _). entries x.seen) t.launcher_is ∙ ap (λ (x : _). entries x.seen) a.rest.launcher_is)
    rows
  where
    there : seen_at K.cells s ≡ seen_at N.cells s
    there = ap (λ (c : CellsSeen). seen_at c s) cells

    rows : K.cells.cells ≡ slice_set J.cells.cells s (seen_at K.cells s)
    rows = ap (λ (c : CellsSeen). c.cells) cells
        ∙ ap (λ (c : CellsSeen). c.cells) t.only
        ∙ ap (λ (c : CellsSeen). slice_set c.cells s (seen_at N.cells s)) a.rest.cells_is
        ∙ ap (λ (past : List CellEvent). slice_set J.cells.cells s past) (sym there)

pub talks_of : (C : Config) (n w s k : ℕ) (asked : Asked) (answer : Spoken) (M N : Life) → IsOf w M → Talks C n asked s k answer M N → IsOf w N
talks_of C n w s k asked answer M N of t = record {
  number_is = ap (λ (c : CellsSeen). c.number) t.only ∙ of.number_is;
  seat_is = ap (λ (x : _). x.number) t.launcher_is ∙ of.seat_is;
}

-- a dialog that is no crash is told of anyway
pub told_last : (s k : ℕ) (how : End) (outcome : Outcome) (new : List CellEvent) → is_crash how ≡ false → SpokeLast s k how outcome new → outcome_is_told outcome None ≡ true
told_last s k how outcome new fine last =
    ap (λ (x : Outcome). outcome_is_told x None) last.1 ∙ ap (λ (e : End). not (is_crash e) || false) last.2 ∙ ap (λ (b : Bool). not b || false) fine

-- a crash is told of where the piece behind it tells that
pub told_crash : (s k : ℕ) (d : Dialog) (next : Piece) → outcome_is_told (Spoke s k d) (Some next) ≡ true → (outcome : Outcome) → outcome ≡ Spoke s k d → outcome_is_told outcome (Some next) ≡ true
told_crash s k d next told outcome is = ap (λ (x : Outcome). outcome_is_told x (Some next)) is ∙ told

or_true : (b : Bool) → (b || true) ≡ true
or_true true = refl
or_true false = refl

pub crash_tells : (s k : ℕ) (d : Dialog) → outcome_is_told (Spoke s k d) (Some (Launched (event.Crashed s k))) ≡ true
crash_tells s k d = rw (eq-eqb s s refl, eq-eqb k k refl) (or_true (not (is_crash d.end)))

pub want_tells : (s k : ℕ) (d : Dialog) → outcome_is_told (Spoke s k d) (Some Wants) ≡ true
want_tells s k d = or_true (not (is_crash d.end))

-- the pieces of a turn that begins with an event, behind others
pub turn_behind : (next : Option Piece) (more : List LauncherEvent) (e : LauncherEvent) (rest : List Piece) → are_told (Some (Launched e)) rest ≡ true → are_told next (map Launched (more ++ e ∷ []) ++ rest) ≡ true
turn_behind next [] e rest told = told
turn_behind next (m ∷ more) e rest told = turn_behind (Some (Launched m)) more e rest told
