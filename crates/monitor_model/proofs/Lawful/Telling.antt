-- What each line of a script adds to what was heard and printed.
use Rattle.std.proofs.Common.{◌≡◌, inl, inr, ℕ, zero, suc, ◌+◌, ◌<◌, Bool, true, false, cond, List, [], ◌∷◌, ◌++◌, Option, Some, None, refl, ap, sym, ◌∙◌, length, ◌==◌, eqb-true, get_or-set_same, append_assoc, append-nil, subst}
use Rattle.std.specs.Prelude.{slice_set, slice_index_or, slice_get}
use Rattle.okws_plan.specs.Configuration.{cols, all_places}
use Rattle.okws_plan.specs.declared.configuration.Config.{Config}
use Rattle.okws_plan.specs.declared.script.Place.{Place}
use Rattle.okws_plan.specs.declared.script.Place.TheVariants.{Proxy, Pubd, Oklogd}
use Rattle.frame_codec.specs.Spelling.{server_spelling}
use Rattle.frame_codec.specs.declared.frame.ServiceFrame.{ServiceFrame}
use Rattle.frame_codec.specs.declared.frame.ServerFrame.{ServerFrame}
use Rattle.monitor_model.specs.declared.record.CellEvent.{CellEvent}
use Rattle.monitor_model.specs.declared.record.CellEvent.TheVariants as cell
use Rattle.monitor_model.specs.declared.record.Item.TheVariants.{Heard, Said}
use Rattle.monitor_model.specs.declared.record.End.{End}
use Rattle.monitor_model.specs.declared.record.End.TheVariants as end
use Rattle.monitor_model.specs.Cell.{heard, incarnation, boot_frame}
use Rattle.monitor_model.specs.Course.{heard_text, said_count}
use Rattle.monitor_model.specs.Answering.{end_response}
use Rattle.monitor_model.specs.Launcher.{begun}
use Rattle.monitor_model.specs.Seen.{Seen}
use Rattle.monitor_model.specs.Stage.{Stage, Stand, Opened, empty_stand, stand, heard_line, answer_line}
use Rattle.monitor_model.specs.Script.{greatest, begins, installed, install_place, installed_all, revoked, revoked_all, stands_of, downed, down_okd, closed, superseded_if, superseded_text, superseded, retired, freshly_booted, booted, booting_text, launched, taken_down, relaunched, continued, heard_said, said_end, closing_text, request_method, Takes, Advances, GoesOn, settled}
use Rattle.monitor_model.specs.Played.{with_open}
use Rattle.monitor_model.proofs.Lawful.Kept.{IsGood}
use Rattle.monitor_model.proofs.Lawful.Settled.{closed_there, retired_there, settled_keeps}
use Rattle.monitor_model.proofs.Lawful.Stages.{open_is_declared, IsBootable, IsShut, IsEmpty, superseded_is_shut, retired_is_empty, retired_stage}
use Rattle.monitor_model.proofs.Lawful.Launches.{begins_is_launchable, installed_is_bootable, revoked_is_launchable, taken_down_is_launchable, greatest_revoke}
use Rattle.monitor_model.specs.Standing.{up_at_okd}
use Rattle.monitor_model.proofs.Lawful.Records.{journal}
use Rattle.monitor_model.proofs.Lawful.Hearing.{Adds, adds_nothing, adds_then, adds_quiet, adds_answer, adds_frame}

-- a dialog ends
heard_closed : (C : Config) (seed : List ℕ) (s : ℕ) (was opened : Opened) (how : End) (there : Stand) (k : ℕ) → there.open_dialog ≡ Some was → heard_text opened.items ≡ heard_text was.items
    → heard C seed s k (cell.Dialog (record { worker = 0; items = opened.items; end = how; due = [] }) ∷ there.past) ≡ heard C seed s k (journal there)
heard_closed C seed s was opened how there k is same = rw (is, same) refl

adds_closed : (C : Config) (seed : List ℕ) (s n : ℕ) (text : List ℕ) (was opened : Opened) (how : End) (S : Stage) → (stand S s).open_dialog ≡ Some was → heard_text opened.items ≡ heard_text was.items
    → Adds C seed S.stands (answer_line n text) (closed s opened how S).stands
adds_closed C seed s n text was opened how S is same =
    let there : Stand = closed_there opened.items how (stand S s) in
    adds_answer C seed s n text S.stands (settled there) (open_is_declared s S.stands was is)
    (λ k. settled_keeps (λ (J : List CellEvent) (o : Option Opened). heard C seed s k (with_open o J) ≡ heard C seed s k (journal (stand S s))) there
    (heard_closed C seed s was opened how (stand S s) k is same))

adds_superseded_if : (C : Config) (seed : List ℕ) (s : ℕ) (o : Option Opened) (S other : Stage) → (stand S s).open_dialog ≡ o → Adds C seed S.stands (superseded_text s o other) (superseded_if s o S).stands
adds_superseded_if C seed s None S other is = adds_nothing C seed S.stands
adds_superseded_if C seed s (Some opened) S other is = adds_closed C seed s opened.request (end_response (end.Superseded (greatest other s)) opened.items (request_method (slice_get other.requests opened.request))) opened opened (end.Superseded (greatest S s)) S is refl

adds_superseded : (C : Config) (seed : List ℕ) (s : ℕ) (o : Option Opened) (S other : Stage) → (stand S s).open_dialog ≡ o → Adds C seed S.stands (superseded_text s o other) (superseded s S).stands
adds_superseded C seed s o S other is = rw is (adds_superseded_if C seed s o S other is)

-- a cell is retired
heard_retired : (C : Config) (seed : List ℕ) (s : ℕ) (there : Stand) (k : ℕ) → there.open_dialog ≡ None → heard C seed s k (with_open there.open_dialog (cell.Retired ∷ there.past)) ≡ heard C seed s k (journal there)
heard_retired C seed s there k is = rw is (append-nil (heard C seed s k there.past))

adds_retired_when : (C : Config) (seed : List ℕ) (s : ℕ) (S : Stage) (b : Bool) → s < length S.stands → (stand S s).open_dialog ≡ None → Adds C seed S.stands [] (cond b S (retired_stage s S)).stands
adds_retired_when C seed s S true declared shut = adds_nothing C seed S.stands
adds_retired_when C seed s S false declared shut =
    adds_quiet C seed s S.stands (retired_there (stand S s)) declared (λ k. heard_retired C seed s (stand S s) k shut)

adds_retired : (C : Config) (seed : List ℕ) (s : ℕ) (S : Stage) → IsShut C seed s S → Adds C seed S.stands [] (retired s S).stands
adds_retired C seed s S b = adds_retired_when C seed s S (incarnation (stand S s).past == 0) b.bootable.declared b.shut

-- an incarnation is booted
boot_when : (C : Config) (seed : List ℕ) (s g k : ℕ) (b : Bool) → (g == k) ≡ b → cond b (server_spelling (boot_frame C seed s k)) [] ≡ cond b (server_spelling (boot_frame C seed s g)) []
boot_when C seed s g k true same = rw (eqb-true g k same) refl
boot_when C seed s g k false same = refl

heard_booted : (C : Config) (seed : List ℕ) (s g k : ℕ) (there : Stand) → there.open_dialog ≡ None
    → heard C seed s k (cell.Boot g ∷ there.past) ≡ heard C seed s k (journal there) ++ cond (g == k) (server_spelling (boot_frame C seed s g)) []
heard_booted C seed s g k there is = rw is (ap (λ (bytes : List ℕ). heard C seed s k there.past ++ bytes) (boot_when C seed s g k (g == k) refl))

adds_fresh : (C : Config) (seed : List ℕ) (s g : ℕ) (S : Stage) → IsEmpty C seed s S → greatest S s ≡ g → Adds C seed S.stands (heard_line C s g (boot_frame C seed s g)) (freshly_booted s S).stands
adds_fresh C seed s g S b is =
    rw is
    (adds_frame C seed s g (boot_frame C seed s g) S.stands (record { past = cell.Boot g ∷ (stand S s).past; left = []; has_ended = false; open_dialog = None }) b.bootable.declared
    (λ k. heard_booted C seed s g k (stand S s) b.shut))

-- what was begun stays
launcher_superseded : (s : ℕ) (o : Option Opened) (S : Stage) → (superseded_if s o S).seen.launcher ≡ S.seen.launcher
launcher_superseded s None S = refl
launcher_superseded s (Some opened) S = refl

launcher_retired : (s : ℕ) (S : Stage) (b : Bool) → (cond b S (retired_stage s S)).seen.launcher ≡ S.seen.launcher
launcher_retired s S true = refl
launcher_retired s S false = refl

pub launcher_emptied : (s : ℕ) (S : Stage) → (retired s (superseded s S)).seen.launcher ≡ S.seen.launcher
launcher_emptied s S = launcher_retired s (superseded s S) (incarnation (stand (superseded s S) s).past == 0) ∙ launcher_superseded s (stand S s).open_dialog S

launcher_installed : (seed : List ℕ) (s k : ℕ) (at : Place) (J : Seen) → (install_place seed s k at J).launcher ≡ J.launcher
launcher_installed seed s k (Proxy p) J = refl
launcher_installed seed s k Pubd J = refl
launcher_installed seed s k Oklogd J = refl

pub launcher_installed_all : (seed : List ℕ) (s : ℕ) (places : List Place) (S : Stage) → (installed_all seed s places S).seen.launcher ≡ S.seen.launcher
launcher_installed_all seed s [] S = refl
launcher_installed_all seed s (at ∷ more) S = launcher_installed_all seed s more (installed seed s at S) ∙ launcher_installed seed s (greatest S s) at S.seen

pub launcher_revoked_all : (s : ℕ) (places : List Place) (S : Stage) → (revoked_all s places S).seen.launcher ≡ S.seen.launcher
launcher_revoked_all s [] S = refl
launcher_revoked_all s (at ∷ more) S = launcher_revoked_all s more (revoked s at S) ∙ greatest_revoke s at (stands_of s at S.seen) S.seen

pub launcher_downed : (s : ℕ) (o : Option ℕ) (J : Seen) → (down_okd s o J).launcher ≡ J.launcher
launcher_downed s None J = refl
launcher_downed s (Some k) J = refl

-- and the cells stay, where only a column is entered
pub stands_installed_all : (seed : List ℕ) (s : ℕ) (places : List Place) (S : Stage) → (installed_all seed s places S).stands ≡ S.stands
stands_installed_all seed s [] S = refl
stands_installed_all seed s (at ∷ more) S = stands_installed_all seed s more (installed seed s at S)

pub stands_revoked_all : (s : ℕ) (places : List Place) (S : Stage) → (revoked_all s places S).stands ≡ S.stands
stands_revoked_all s [] S = refl
stands_revoked_all s (at ∷ more) S = stands_revoked_all s more (revoked s at S)

-- a boot, with what it ends
adds_emptied : (C : Config) (seed : List ℕ) (s : ℕ) (o : Option Opened) (S other : Stage) → IsBootable C seed s S → (stand S s).open_dialog ≡ o
    → Adds C seed S.stands (superseded_text s o other) (retired s (superseded s S)).stands
adds_emptied C seed s o S other b is =
    rw append-nil at
    (adds_then C seed S.stands (superseded s S).stands (retired s (superseded s S)).stands (superseded_text s o other) []
    (adds_superseded C seed s o S other is) (adds_retired C seed s (superseded s S) (superseded_is_shut C seed s S b)))

pub adds_booted : (C : Config) (seed : List ℕ) (s g : ℕ) (o : Option Opened) (S other : Stage) → IsBootable C seed s S → (stand S s).open_dialog ≡ o → greatest S s ≡ g
    → Adds C seed S.stands (superseded_text s o other ++ heard_line C s g (boot_frame C seed s g)) (booted s S).stands
adds_booted C seed s g o S other b is begun_is =
    adds_then C seed S.stands (retired s (superseded s S)).stands (booted s S).stands (superseded_text s o other) (heard_line C s g (boot_frame C seed s g))
    (adds_emptied C seed s o S other b is)
    (adds_fresh C seed s g (retired s (superseded s S)) (retired_is_empty C seed s (superseded s S) (superseded_is_shut C seed s S b))
    (ap (λ J. begun J s) (launcher_emptied s S) ∙ begun_is))

-- launches
greatest_is : (s : ℕ) (J K : Stage) → J.seen.launcher ≡ K.seen.launcher → greatest J s ≡ greatest K s
greatest_is s J K same = ap (λ L. begun L s) same

pub open_is : (s : ℕ) (S T : Stage) → S.stands ≡ T.stands → (stand S s).open_dialog ≡ (stand T s).open_dialog
open_is s S T same = ap (λ (stands : List Stand). (slice_index_or stands s empty_stand).open_dialog) same

adds_from : (C : Config) (seed : List ℕ) (was other now : List Stand) (text : List ℕ) → was ≡ other → Adds C seed was text now → Adds C seed other text now
adds_from C seed was other now text same a = subst (λ (stands : List Stand). Adds C seed stands text now) same a

pub adds_launched : (C : Config) (seed : List ℕ) (s : ℕ) (S : Stage) → IsGood C seed S → s < length C.services
    → Adds C seed S.stands (booting_text C seed s (begins s S)) (launched C seed s S).stands
adds_launched C seed s S g declared =
    let T : Stage = installed_all seed s (cols C s) (begins s S) in
    let stands_are : T.stands ≡ S.stands = stands_installed_all seed s (cols C s) (begins s S) in
    adds_from C seed T.stands S.stands (booted s T).stands (booting_text C seed s (begins s S)) stands_are
    (adds_booted C seed s (greatest (begins s S) s) (stand S s).open_dialog T (begins s S) (installed_is_bootable C seed s (begins s S) (begins_is_launchable C seed s S g declared))
    (open_is s T S stands_are) (greatest_is s T (begins s S) (launcher_installed_all seed s (cols C s) (begins s S))))

pub adds_relaunched : (C : Config) (seed : List ℕ) (s : ℕ) (S : Stage) → IsGood C seed S → s < length C.services
    → Adds C seed S.stands (booting_text C seed s (begins s S)) (relaunched C seed s S).stands
adds_relaunched C seed s S g declared =
    let R : Stage = revoked_all s (all_places C) (downed s (begins s S)) in
    let D : Stage = taken_down C s S in
    let T : Stage = installed_all seed s (cols C s) D in
    let stands_before : R.stands ≡ S.stands = stands_revoked_all s (all_places C) (downed s (begins s S)) in
    let stands_after : T.stands ≡ D.stands = stands_installed_all seed s (cols C s) D in
    let emptied : IsEmpty C seed s D = retired_is_empty C seed s (superseded s R) (superseded_is_shut C seed s R (revoked_is_launchable C seed s S g declared).bootable) in
    let first : Adds C seed S.stands (superseded_text s (stand S s).open_dialog (begins s S)) D.stands
    = adds_from C seed R.stands S.stands D.stands (superseded_text s (stand S s).open_dialog (begins s S)) stands_before
    (adds_emptied C seed s (stand S s).open_dialog R (begins s S) (revoked_is_launchable C seed s S g declared).bootable (open_is s R S stands_before)) in
    let begun_is : T.seen.launcher ≡ (begins s S).seen.launcher
    = launcher_installed_all seed s (cols C s) D ∙ (launcher_emptied s R ∙ (launcher_revoked_all s (all_places C) (downed s (begins s S)) ∙ launcher_downed s (up_at_okd S.seen.okd s) (begins s S).seen)) in
    let second : Adds C seed D.stands (heard_line C s (greatest (begins s S) s) (boot_frame C seed s (greatest (begins s S) s))) (booted s T).stands
    = adds_from C seed T.stands D.stands (booted s T).stands (heard_line C s (greatest (begins s S) s) (boot_frame C seed s (greatest (begins s S) s))) stands_after
    (adds_booted C seed s (greatest (begins s S) s) None T S (installed_is_bootable C seed s D (taken_down_is_launchable C seed s S g declared))
    (open_is s T D stands_after ∙ emptied.shut) (greatest_is s T (begins s S) begun_is)) in
    adds_then C seed S.stands D.stands (booted s T).stands (superseded_text s (stand S s).open_dialog (begins s S)) (heard_line C s (greatest (begins s S) s) (boot_frame C seed s (greatest (begins s S) s)))
    first second

-- a dialog goes on
cell_at_set : (s : ℕ) (there : Stand) (stands : List Stand) → s < length stands → slice_index_or (slice_set stands s there) s empty_stand ≡ there
cell_at_set s there stands declared = get_or-set_same stands s there empty_stand declared

heard_continued : (C : Config) (seed : List ℕ) (s k : ℕ) (was opened : Opened) (there : Stand) → there.open_dialog ≡ Some was → heard_text opened.items ≡ heard_text was.items
    → heard C seed s k (with_open (Some opened) there.past) ≡ heard C seed s k (journal there)
heard_continued C seed s k was opened there is same = rw (is, same) refl

-- a frame more is heard
frame_when : (before items bytes : List ℕ) (b : Bool) → before ++ cond b (items ++ bytes) [] ≡ (before ++ cond b items []) ++ cond b bytes []
frame_when before items bytes true = sym (append_assoc before items bytes)
frame_when before items bytes false = sym (append-nil (before ++ []))

heard_more : (C : Config) (seed : List ℕ) (s k : ℕ) (was : Opened) (said : ServiceFrame) (heard_now : ServerFrame) (there : Stand) → there.open_dialog ≡ Some was
    → heard C seed s k (cell.Speaking 0 (Heard heard_now ∷ Said said ∷ was.items) ∷ there.past)
    ≡ heard C seed s k (journal there) ++ cond (incarnation there.past == k) (server_spelling heard_now) []
heard_more C seed s k was said heard_now there is =
    rw is (frame_when (heard C seed s k there.past) (heard_text was.items) (server_spelling heard_now) (incarnation there.past == k))

adds_takes : (C : Config) (seed : List ℕ) (s : ℕ) (opened : Opened) (said : ServiceFrame) (left : List ℕ) (o : Option End) (S : Stage) (text : List ℕ) (now : Stage)
    → (stand S s).open_dialog ≡ Some opened → Takes C s opened said left o S text now → Adds C seed S.stands text now.stands
adds_takes C seed s opened said left (Some how) S text now is takes =
    let mid : Stage = continued s opened left S in
    let declared : s < length S.stands = open_is_declared s S.stands opened is in
    let quiet : Adds C seed S.stands [] mid.stands
    = adds_quiet C seed s S.stands (record (stand S s) { left = left; open_dialog = Some opened }) declared (λ k. heard_continued C seed s k opened opened (stand S s) is refl) in
    let here : (stand mid s).open_dialog ≡ Some opened
    = ap (λ (there : Stand). there.open_dialog) (cell_at_set s (record (stand S s) { left = left; open_dialog = Some opened }) S.stands declared) in
    rw (takes.0, takes.1)
    (adds_then C seed S.stands mid.stands (closed s (heard_said opened said) how mid).stands [] (closing_text (heard_said opened said) how S) quiet
    (adds_closed C seed s opened.request (end_response how (Said said ∷ opened.items) (request_method (slice_get S.requests opened.request))) opened (heard_said opened said) how mid here refl))
adds_takes C seed s opened said left None S text now is takes =
    rw (takes.4, takes.5)
    (adds_frame C seed s (incarnation (stand S s).past) takes.0 S.stands
    (record (stand S s) { left = left; open_dialog = Some (record opened { items = Heard takes.0 ∷ Said said ∷ opened.items }) }) (open_is_declared s S.stands opened is)
    (λ k. heard_more C seed s k opened said takes.0 (stand S s) is))

adds_ended : (C : Config) (seed : List ℕ) (s : ℕ) (opened : Opened) (how : End) (S : Stage) → (stand S s).open_dialog ≡ Some opened
    → Adds C seed S.stands (closing_text opened how S) (closed s opened how S).stands
adds_ended C seed s opened how S is = adds_closed C seed s opened.request (end_response how opened.items (request_method (slice_get S.requests opened.request))) opened opened how S is refl

adds_advances : (C : Config) (seed : List ℕ) (s : ℕ) (opened : Opened) (S : Stage) (text : List ℕ) (now : Stage)
    → (stand S s).open_dialog ≡ Some opened → Advances C s opened S text now → Adds C seed S.stands text now.stands
adds_advances C seed s opened S text now is (inl ends) = rw (ends.1, ends.2) (adds_superseded C seed s (Some opened) S S is)
adds_advances C seed s opened S text now is (inr (inl takes)) = adds_takes C seed s opened takes.1 takes.2 (said_end (said_count opened.items + 1) takes.1) S text now is takes.4
adds_advances C seed s opened S text now is (inr (inr (inl bad))) = rw (bad.2, bad.3) (adds_ended C seed s opened end.BadFrame S is)
adds_advances C seed s opened S text now is (inr (inr (inr (inl ended)))) = rw (ended.3, ended.4) (adds_ended C seed s opened end.Ended S is)
adds_advances C seed s opened S text now is (inr (inr (inr (inr cut)))) = rw (cut.4, cut.5) (adds_ended C seed s opened end.BadFrame S is)

pub adds_goes_on : (C : Config) (seed : List ℕ) (s steps : ℕ) (S : Stage) (text : List ℕ) (now : Stage) → GoesOn C s steps S text now → Adds C seed S.stands text now.stands
adds_goes_on C seed s zero S text now on = rw (on.0, on.1) (adds_nothing C seed S.stands)
adds_goes_on C seed s (suc steps) S text now on =
    rw on.8
    (adds_then C seed S.stands on.1.stands now.stands on.2 on.3 (adds_advances C seed s on.0 S on.2 on.1 on.4 on.6) (adds_goes_on C seed s steps on.1 on.3 now on.7))
