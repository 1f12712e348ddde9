-- What a worker entered at the launcher leads on after each thing that it does.
use Rattle.std.proofs.Common.{◌≡◌, ℕ, Bool, true, false, List, [], ◌∷◌, ◌++◌, map, None, refl, sym, ap, ◌∙◌, subst}
use Rattle.okws_base.specs.Turns.{GrowsBy}
use Rattle.okws_base.specs.declared.journal.Entry.{Entry}
use Rattle.okws_plan.specs.declared.event.LauncherEvent.{LauncherEvent}
use Rattle.monitor_model.specs.declared.record.Own.{Own}
use Rattle.monitor_model.specs.declared.record.Own.TheVariants as own
use Rattle.monitor_model.specs.Causes.{is_launcher_item}
use Rattle.monitor_model.specs.Launcher.{begun}
use Rattle.monitor_model.specs.Worker.{Piece, Launched, Wants}
use Rattle.launch_turns.specs.Deeds.{entries}
use Rattle.site_worker.specs.Lives.{Life, StarvesWhere}
use Rattle.worker_lives.specs.Going.{entries_by}
use Rattle.worker_lives.specs.Listing.{first_item}
use Rattle.worker_lives.specs.Waiting.{LeadsSo, owes, turn_leads}
use Rattle.worker_lives.proofs.Others.{foreign_of}
use Rattle.worker_lives.proofs.Waiting.{leads_item, leads_turn, leads_want}
use Rattle.round_lives.specs.Living.{IsOf}

-- ---- the first items of pieces

pub firsts_both : (then first : List Piece) (items : List Own) → map first_item (then ++ first) ++ items ≡ map first_item then ++ (map first_item first ++ items)
firsts_both [] first items = refl
firsts_both (piece ∷ then) first items = ap (λ (rest : List Own). first_item piece ∷ rest) (firsts_both then first items)

pub firsts_launched : (events : List LauncherEvent) → map first_item (map Launched events) ≡ map own.Launcher events
firsts_launched [] = refl
firsts_launched (e ∷ events) = ap (λ (rest : List Own). own.Launcher e ∷ rest) (firsts_launched events)

-- want of memory behind these pieces, where there was any
abbrev pub with_wants : Bool → List Piece → List Piece
with_wants true pieces = Wants ∷ pieces
with_wants false pieces = pieces

-- ---- what leads on

-- an item that is no event at the launcher, where nothing more was seen there
pub item_leads : (w : ℕ) (item : Own) (J K : Life) → is_launcher_item item ≡ 0 → K.launcher ≡ J.launcher → (items : List Own) → LeadsSo w false items (entries J.launcher.seen) → LeadsSo w false (item ∷ items) (entries K.launcher.seen)
item_leads w item J K none is items h = subst (λ (a : _). LeadsSo w false (item ∷ items) (entries a.seen)) (sym is) (leads_item w item items (entries J.launcher.seen) none h)

-- want of memory
pub want_leads : (w : ℕ) (owed : Bool) (J K : Life) → K.launcher ≡ J.launcher → (items : List Own) → LeadsSo w owed items (entries J.launcher.seen) → LeadsSo w false (own.NoMemory ∷ items) (entries K.launcher.seen)
want_leads w owed J K is items h = subst (λ (a : _). LeadsSo w false (own.NoMemory ∷ items) (entries a.seen)) (sym is) (leads_want w owed items (entries J.launcher.seen) h)

-- nothing
pub same_leads : (w : ℕ) (J K : Life) → K.launcher ≡ J.launcher → (items : List Own) → LeadsSo w false items (entries J.launcher.seen) → LeadsSo w false items (entries K.launcher.seen)
same_leads w J K is items h = subst (λ (a : _). LeadsSo w false items (entries a.seen)) (sym is) h

-- a turn at the launcher
turn_owes : (w : ℕ) (starved : Bool) (events : List LauncherEvent) (J M : Life) (before : List (Entry LauncherEvent)) → IsOf w J → GrowsBy (λ (e : Entry LauncherEvent). e.worker) J.launcher.number (entries J.launcher.seen) before
    → entries M.launcher.seen ≡ entries_by J.launcher.number events ++ before → turn_leads J.launcher.number (begun (entries M.launcher.seen)) (owes starved events) None events before ≡ true
    → (items : List Own) → LeadsSo w false items (entries J.launcher.seen) → LeadsSo w (owes starved events) (map own.Launcher events ++ items) (entries M.launcher.seen)
turn_owes w starved events J M before of grows enters led items h =
    let n = J.launcher.number in
    subst (λ (v : ℕ). LeadsSo v (owes starved events) (map own.Launcher events ++ items) (entries M.launcher.seen)) of.seat_is
    (leads_turn n starved events items grows.0 (entries J.launcher.seen) (entries M.launcher.seen) (foreign_of n grows.0 grows.1) (enters ∙ ap (λ (B : List (Entry LauncherEvent)). entries_by n events ++ B) grows.2)
    (subst (λ (B : List (Entry LauncherEvent)). turn_leads n (begun (entries M.launcher.seen)) (owes starved events) None events B ≡ true) grows.2 led)
    (subst (λ (v : ℕ). LeadsSo v false items (entries J.launcher.seen)) (sym of.seat_is) h))

-- and want of memory, where there was any
where_leads : (w : ℕ) (starved : Bool) (events : List LauncherEvent) (pieces : List Piece) (M K : Life) → StarvesWhere starved M K → (items : List Own) → LeadsSo w (owes starved events) (map first_item pieces ++ items) (entries M.launcher.seen)
    → LeadsSo w false (map first_item (with_wants starved pieces) ++ items) (entries K.launcher.seen)
where_leads w true events pieces M K notes items h = want_leads w (owes true events) M K notes.launcher_is (map first_item pieces ++ items) h
where_leads w false [] pieces M K notes items h = subst (λ (x : Life). LeadsSo w false (map first_item pieces ++ items) (entries x.launcher.seen)) (sym notes) h
where_leads w false (e ∷ events) pieces M K notes items h = subst (λ (x : Life). LeadsSo w false (map first_item pieces ++ items) (entries x.launcher.seen)) (sym notes) h

pub turn_leads_on : (w : ℕ) (starved : Bool) (events : List LauncherEvent) (first : List Piece) (J M K : Life) (before : List (Entry LauncherEvent)) → IsOf w J → GrowsBy (λ (e : Entry LauncherEvent). e.worker) J.launcher.number (entries J.launcher.seen) before
    → entries M.launcher.seen ≡ entries_by J.launcher.number events ++ before → turn_leads J.launcher.number (begun (entries M.launcher.seen)) (owes starved events) None events before ≡ true → StarvesWhere starved M K
    → (items : List Own) → LeadsSo w false (map first_item first ++ items) (entries J.launcher.seen) → LeadsSo w false (map first_item (with_wants starved (map Launched events ++ first)) ++ items) (entries K.launcher.seen)
turn_leads_on w starved events first J M K before of grows enters led notes items h =
    let owing : LeadsSo w (owes starved events) (map own.Launcher events ++ (map first_item first ++ items)) (entries M.launcher.seen) = turn_owes w starved events J M before of grows enters led (map first_item first ++ items) h in
    let is : map own.Launcher events ++ (map first_item first ++ items) ≡ map first_item (map Launched events ++ first) ++ items
    = ap (λ (xs : List Own). xs ++ (map first_item first ++ items)) (sym (firsts_launched events)) ∙ sym (firsts_both (map Launched events) first items) in
    where_leads w starved events (map Launched events ++ first) M K notes items (subst (λ (xs : List Own). LeadsSo w (owes starved events) xs (entries M.launcher.seen)) is owing)
