-- What a door's worker does is pieces of its list, which are the visits of the connections that had them.
use Rattle.std.proofs.Common.{◌≡◌, inl, inr, ℕ, Bool, true, false, List, [], ◌∷◌, ◌++◌, map, refl, sym, ap, ◌∙◌, subst, Option, Some, None, eq-eqb}
use Rattle.std.proofs.lemmas.List.Folds.{list_any-append}
use Rattle.std.specs.List.{list_any}
use Rattle.std.specs.Prelude.{◌⊎◌, ◌||◌}
use Rattle.okws_plan.specs.declared.configuration.Config.{Config}
use Rattle.okws_plan.specs.declared.event.LauncherEvent.{LauncherEvent}
use Rattle.okws_plan.specs.declared.event.LauncherEvent.TheVariants as event
use Rattle.okws_plan.specs.declared.event.OkdEvent.TheVariants as okd
use Rattle.monitor_model.specs.declared.record.Dialog.{Dialog}
use Rattle.monitor_model.specs.declared.record.Own.TheVariants as own
use Rattle.monitor_model.specs.declared.verdict.Way.{Way}
use Rattle.monitor_model.specs.Causes.{is_crash}
use Rattle.monitor_model.specs.Cell.{dialogs_of}
use Rattle.monitor_model.specs.Connections.{AreVisits, Visit}
use Rattle.monitor_model.specs.Connections as visit
use Rattle.monitor_model.specs.Launcher.{begun}
use Rattle.monitor_model.specs.Seen.{Seen, AtOkd, noted}
use Rattle.monitor_model.specs.Tied.{piece_visits}
use Rattle.monitor_model.specs.Worker.{Outcome, Spoke, Piece, Accepted, Launched, Wants}
use Rattle.site_cells.specs.Row.{CellsSeen, seen_at}
use Rattle.door_worker.specs.Asking.{Asked}
use Rattle.launch_turns.specs.Deeds.{entries}
use Rattle.launch_turns.specs.Turns.{TendsBy}
use Rattle.okld_launch.specs.declared.answer.Crashed.{Crashed}
use Rattle.site_worker.specs.Handling.{Accepts}
use Rattle.site_worker.specs.Launching.{Reports, Tends, crash_starved, tend_starved}
use Rattle.site_worker.specs.Lives.{Life, Sees, Starves}
use Rattle.worker_lives.specs.Ending.{is_crash_there}
use Rattle.worker_lives.specs.Going.{GoesOn}
use Rattle.worker_lives.specs.Leading.{GoesBy, spoken as spoken_in}
use Rattle.worker_lives.specs.Listing.{are_told, outcome_is_told}
use Rattle.worker_lives.specs.Waiting.{owes, turn_leads}
use Rattle.worker_lives.proofs.Listed.{turns_are_no_visits, visits_join}
use Rattle.worker_lives.proofs.Steps.{accepts_are_pieces, goings_join, rests_are_no_pieces, wants_are_pieces}
use Rattle.round_lives.specs.Living.{EndsWell, IsOf, LivesOn, sights_of}
use Rattle.round_lives.specs.Laws.{is_order}
use Rattle.round_lives.specs.Serving.{LivesFor}
use Rattle.round_lives.proofs.Awaited.{item_leads, same_leads, turn_leads_on, want_leads, with_wants}
use Rattle.round_lives.proofs.Closing.{crash_ends, tend_ends}
use Rattle.round_lives.proofs.Ended.{Came, calm_came, ends_none, ends_one, ends_seen, spoken_came, told_came, turn_ends, turn_enters, turn_grows, turn_past}
use Rattle.round_lives.proofs.Entered.{BeginsWithCrash, Entered, Looks, crash_entered, is_crashed, tended_looks}
use Rattle.round_lives.proofs.Led.{crash_led, tend_led}
use Rattle.round_lives.proofs.Stepped.{crash_tells, lives_then, lives_then_by, noted_allowed, noted_goes, noted_of, noted_seat, sees_of, sees_sights, told_crash, turn_behind, turn_led, turned_goes, turned_lives, turned_lives_by, turned_of, unasked_pieces, want_tells}

-- ---- what lives on

pub visits_then : (C : Config) (w : ℕ) (before behind : List Visit) (I J K : Life) → LivesFor C w before I J → LivesFor C w behind J K → LivesFor C w (behind ++ before) I K
visits_then C w before behind I J K i j = record {
  lives = lives_then C w is_order I J K i.lives j.lives;
  had = subst (λ (pieces : List Piece). AreVisits (behind ++ before) (piece_visits pieces)) (sym (lives_then_by C w is_order I J K i.lives j.lives))
      (visits_join before behind i.lives.pieces j.lives.pieces i.had j.had);
}

pub same_visits : (C : Config) (w : ℕ) (J K : Life) → IsOf w J → K ≡ J → LivesFor C w [] J K
same_visits C w J K of is = subst (LivesFor C w [] J) (sym is) (record {
  lives = record { pieces = []; goes = rests_are_no_pieces C w (sights_of J) (sights_of J) refl ([], refl, refl) (λ s. refl); same = of; told = refl; allowed = refl; ends = ends_none J.launcher.seen; leads = λ items h. h };
  had = refl;
})

pub sees_visits : (C : Config) (w : ℕ) (J K : Life) → IsOf w J → Sees J.seen J K → LivesFor C w [] J K
sees_visits C w J K of h = record {
  lives = record {
    pieces = [];
    goes = subst (GoesOn C w [] (sights_of J)) (sym (sees_sights J K J.seen h)) (rests_are_no_pieces C w (sights_of J) (sights_of J) refl ([], refl, refl) (λ s. refl));
    same = sees_of w J K J.seen h of;
    told = refl;
    allowed = refl;
    ends = ends_seen J.launcher.seen J.launcher K.launcher [] h.launcher_is (ends_none J.launcher.seen);
    leads = same_leads w J K h.launcher_is;
  };
  had = refl;
}

pub starves_visits : (C : Config) (w : ℕ) (visits : List Visit) (J K : Life) → AreVisits visits (visit.Starved ∷ []) → IsOf w J → Starves J K → LivesFor C w visits J K
starves_visits C w visits J K had of h = record {
  lives = record {
    pieces = Wants ∷ [];
    goes = subst (GoesOn C w (Wants ∷ []) (sights_of J)) (sym (sees_sights J K (noted J.seen own.NoMemory) h)) (wants_are_pieces C w (sights_of J));
    same = sees_of w J K (noted J.seen own.NoMemory) h of;
    told = refl;
    allowed = refl;
    ends = ends_seen J.launcher.seen J.launcher K.launcher (Wants ∷ []) h.launcher_is (ends_one J.launcher.seen Wants refl);
    leads = want_leads w false J K h.launcher_is;
  };
  had = had;
}

-- ---- the launcher's turns

-- which no connection had
turned_had : (events : List LauncherEvent) → AreVisits [] (piece_visits (map Launched events))
turned_had events = subst (AreVisits []) (sym (turns_are_no_visits events)) refl

where_had : (starved : Bool) (visits : List Visit) (pieces : List Piece) → AreVisits visits (piece_visits pieces) → AreVisits visits (piece_visits (with_wants starved pieces))
where_had true visits pieces had = inl had
where_had false visits pieces had = had

-- the crashes of a turn that looked after a service
looked_came : (s : ℕ) (first : List Piece) (events : List LauncherEvent) → (list_any is_crashed events ≡ false) ⊎ ((k : ℕ) × Entered (event.Crashed s k) events) → Came true first events
looked_came s first events (inl calm) = calm_came true first events calm
looked_came s first events (inr crash) = told_came first s crash.0 events crash.1

pub tends_visits : (C : Config) (w s : ℕ) (J K : Life) → IsOf w J → Tends C s J K → LivesFor C w [] J K
tends_visits C w s J K of h = record { lives = lives; had = subst (λ (pieces : List Piece). AreVisits [] (piece_visits pieces)) (sym lives_by) (where_had starved [] (map Launched h.events) (turned_had h.events)) }
  where
    t : TendsBy C s J.launcher h.answer h.events h.mid.launcher
    t = h.tends

    n : ℕ
    n = J.launcher.number

    starved : Bool
    starved = tend_starved h.answer

    looks : Looks s h.events
    looks = tended_looks C n s t.before h.answer t.after h.events t.turn.enters t.goes

    led : turn_leads n (begun (entries h.mid.launcher.seen)) (owes starved h.events) None h.events t.before.journal.past ≡ true
    led = turn_led n (owes starved h.events) h.events t.before.journal.past t.after.journal.past (entries h.mid.launcher.seen) (turn_past t.turn) (tend_led C n s h.events t.before h.answer t.after t.turn.enters t.goes)

    ends : EndsWell J.launcher.seen h.mid.launcher.seen (with_wants starved (map Launched h.events ++ []))
    ends = turn_ends t.turn starved [] J.launcher.seen (ends_none J.launcher.seen) (tend_ends C n s h.events t.before h.answer t.after t.turn.enters t.goes) (looked_came s [] h.events looks.crashes)

    lives : LivesOn C w is_order J K
    lives = turned_lives C w is_order starved h.events J h.mid K t.before.journal.past refl (unasked_pieces h.events looks.unasked) of h.only (turn_grows t.turn) (turn_enters t.turn) led ends h.notes

    lives_by : lives.pieces ≡ with_wants starved (map Launched h.events)
    lives_by = turned_lives_by C w is_order starved h.events J h.mid K t.before.journal.past refl (unasked_pieces h.events looks.unasked) of h.only (turn_grows t.turn) (turn_enters t.turn) led ends h.notes

-- ---- a request

-- a piece that is told of anyway
pub visits_by : (C : Config) (w : ℕ) (path head content : List ℕ) (outcome : Outcome) (J K : Life) → GoesOn C w (Accepted path head content outcome ∷ []) (sights_of J) (sights_of K) → K.launcher ≡ J.launcher → IsOf w K
    → outcome_is_told outcome None ≡ true → LivesFor C w (visit.Accepted path outcome ∷ []) J K
visits_by C w path head content outcome J K goes is of told = record {
  lives = record {
    pieces = Accepted path head content outcome ∷ [];
    goes = goes;
    same = of;
    told = rw (told) refl;
    allowed = refl;
    ends = ends_seen J.launcher.seen J.launcher K.launcher (Accepted path head content outcome ∷ []) is (ends_one J.launcher.seen (Accepted path head content outcome) refl);
    leads = item_leads w (own.Okd (okd.Accept path)) J K refl is;
  };
  had = ([], refl, refl);
}

-- what went nowhere
pub passes_visits : (C : Config) (w : ℕ) (asked : Asked) (goes : Way) (outcome : Outcome) (J M K : Life) → IsOf w J → Accepts C asked.path goes J M → ((S : Seen) → GoesBy C w goes asked.head asked.content S outcome S)
    → ((s : ℕ) → spoken_in s outcome ≡ []) → outcome_is_told outcome None ≡ true → K ≡ M
    → LivesFor C w (visit.Accepted asked.path outcome ∷ []) J K
passes_visits C w asked goes outcome J M K of a follows silent told is = subst (LivesFor C w (visit.Accepted asked.path outcome ∷ []) J) (sym is) (
    visits_by C w asked.path asked.head asked.content outcome J M
    (accepts_are_pieces C w asked.path asked.head asked.content outcome (sights_of J) (sights_of M) a.before M.seen
    (subst (λ (v : ℕ). AtOkd v (okd.Accept asked.path) J.seen a.before M.seen) of.number_is a.enters)
    (subst (λ (v : Way). GoesBy C w v asked.head asked.content M.seen outcome M.seen) a.goes_is (follows M.seen))
    (ap (λ (x : _). entries x.seen) a.rest.launcher_is)
    (λ s. ap (λ (c : CellsSeen). dialogs_of w (seen_at c s)) a.rest.cells_is ∙ ap (λ (first : List (ℕ × Dialog)). first ++ dialogs_of w (seen_at J.cells s)) (sym (silent s))))
    a.rest.launcher_is (sees_of w J M M.seen a.rest of) told
    )

-- a crash, and the launcher's turn that was told of it
pub crash_visits : (C : Config) (w s k : ℕ) (path head content : List ℕ) (outcome : Outcome) (d : Dialog) (J N K : Life) → outcome ≡ Spoke s k d → is_crash d.end ≡ true → GoesOn C w (Accepted path head content outcome ∷ []) (sights_of J) (sights_of N) → N.launcher ≡ J.launcher
    → IsOf w N → Reports C s k N K → LivesFor C w (visit.Accepted path outcome ∷ []) J K
crash_visits C w s k path head content outcome d J N K is crash goes seat of h =
    let t = h.reports in
    let starved = crash_starved h.answer in
    let first : List Piece = Accepted path head content outcome ∷ [] in
    let entered = crash_entered C N.launcher.number s k t.before.journal.past t.before.crew.family h.events h.answer t.after t.turn.enters t.goes in
    let turn : GoesOn C w (map Launched h.events) (sights_of N) (sights_of h.mid) = turned_goes C w h.events N h.mid t.before.journal.past of h.only (turn_grows t.turn) (turn_enters t.turn) in
    let both : GoesOn C w (map Launched h.events ++ first) (sights_of J) (sights_of h.mid) = goings_join C w first (map Launched h.events) (sights_of J) (sights_of N) (sights_of h.mid) goes turn in
    let led = turn_led N.launcher.number (owes starved h.events) h.events t.before.journal.past t.after.journal.past (entries h.mid.launcher.seen) (turn_past t.turn)
    (crash_led C N.launcher.number s h.events k t.before.journal.past t.before.crew.family t.after t.turn.enters h.answer t.goes) in
    let before : EndsWell J.launcher.seen N.launcher.seen first = ends_seen J.launcher.seen J.launcher N.launcher first seat (ends_one J.launcher.seen (Accepted path head content outcome) refl) in
    let ends = turn_ends t.turn starved first J.launcher.seen before (crash_ends C N.launcher.number s h.events k t.before.journal.past t.before.crew.family h.answer t.after t.turn.enters t.goes) (came h.answer h.events entered.0) in
    record {
      lives = record {
        pieces = with_wants starved (map Launched h.events ++ first);
        goes = noted_goes C w starved (map Launched h.events ++ first) J h.mid K h.notes both;
        same = noted_of w starved h.mid K h.notes (turned_of w h.events N h.mid of h.only);
        told = told_by h.answer h.events entered.0;
        allowed = noted_allowed is_order starved (map Launched h.events ++ first) refl (allowed h.events (unasked_pieces h.events entered.1));
        ends = ends_seen J.launcher.seen h.mid.launcher K.launcher (with_wants starved (map Launched h.events ++ first)) (noted_seat starved h.mid K h.notes) ends;
        leads = λ items l. turn_leads_on w starved h.events first N h.mid K t.before.journal.past of (turn_grows t.turn) (turn_enters t.turn) led h.notes items (item_leads w (own.Okd (okd.Accept path)) J N refl seat items l);
      };
      had = where_had starved (visit.Accepted path outcome ∷ []) (map Launched h.events ++ first) (visits_join (visit.Accepted path outcome ∷ []) [] first (map Launched h.events) ([], refl, refl) (turned_had h.events));
    }
  where
    -- the dialog is a crash, and the crash of the turn is its own
    came : (answer : Crashed) (events : List LauncherEvent) → BeginsWithCrash s k events answer → Came false (Accepted path head content outcome ∷ []) events
    came answer events (inl nothing) = calm_came false (Accepted path head content outcome ∷ []) events (subst (λ (xs : List LauncherEvent). list_any is_crashed xs ≡ false) (sym nothing.1) refl)
    came answer events (inr entered) =
        spoken_came false (Accepted path head content outcome ∷ []) s k events entered (ap (is_crash_there s k) is ∙ rw (eq-eqb s s refl, eq-eqb k k refl) crash)

    allowed : (events : List LauncherEvent) → list_any is_order (map Launched events) ≡ false → list_any is_order (map Launched events ++ Accepted path head content outcome ∷ []) ≡ false
    allowed events fine = list_any-append is_order (map Launched events) (Accepted path head content outcome ∷ []) ∙ ap (λ (b : Bool). b || false) fine

    told_then : (next : Option Piece) (events : List LauncherEvent) → Entered (event.Crashed s k) events → are_told next (map Launched events ++ Accepted path head content outcome ∷ []) ≡ true
    told_then next events entered =
        subst (λ (xs : List LauncherEvent). are_told next (map Launched xs ++ Accepted path head content outcome ∷ []) ≡ true) (sym entered.is)
        (turn_behind next entered.more (event.Crashed s k) (Accepted path head content outcome ∷ []) (rw (told_crash s k d (Launched (event.Crashed s k)) (crash_tells s k d) outcome is) refl))

    told_where : (starved : Bool) (events : List LauncherEvent) → Entered (event.Crashed s k) events → are_told None (with_wants starved (map Launched events ++ Accepted path head content outcome ∷ [])) ≡ true
    told_where true events entered = told_then (Some Wants) events entered
    told_where false events entered = told_then None events entered

    told_by : (answer : Crashed) (events : List LauncherEvent) → BeginsWithCrash s k events answer → are_told None (with_wants (crash_starved answer) (map Launched events ++ Accepted path head content outcome ∷ [])) ≡ true
    told_by answer events (inr entered) = told_where (crash_starved answer) events entered
    told_by answer events (inl nothing) =
        subst (λ (a : Crashed). are_told None (with_wants (crash_starved a) (map Launched events ++ Accepted path head content outcome ∷ [])) ≡ true) (sym nothing.0)
        (subst (λ (xs : List LauncherEvent). are_told None (Wants ∷ (map Launched xs ++ Accepted path head content outcome ∷ [])) ≡ true) (sym nothing.1) (rw (told_crash s k d Wants (want_tells s k d) outcome is) refl))
