-- What the steps of a run keep of its dialogs' answers.
use Rattle.std.proofs.Common.{◌≡◌, inr, ℕ, ◌+◌, ◌<◌, ◌≤◌, Bool, true, false, cond, List, [], ◌∷◌, Option, Some, None, refl, arith, length, ◌==◌, nat_lt, ltb-true, ltb-false}
use Rattle.std.specs.Prelude.{slice_set}
use Rattle.okws_base.specs.declared.limit.TheConstants.{MOST_FRAMES}
use Rattle.okws_plan.specs.Configuration.{cols, all_places}
use Rattle.okws_plan.specs.declared.configuration.Config.{Config}
use Rattle.frame_codec.specs.declared.frame.ServiceFrame.{ServiceFrame}
use Rattle.frame_codec.specs.declared.frame.ServiceFrame.TheVariants as said
use Rattle.monitor_model.specs.declared.record.CellEvent.{CellEvent}
use Rattle.monitor_model.specs.declared.record.CellEvent.TheVariants as cell
use Rattle.monitor_model.specs.declared.record.End.{End}
use Rattle.monitor_model.specs.declared.record.End.TheVariants as end
use Rattle.monitor_model.specs.declared.record.Item.{Item}
use Rattle.monitor_model.specs.declared.record.Item.TheVariants.{Said}
use Rattle.monitor_model.specs.declared.record.Record.{Record}
use Rattle.monitor_model.specs.Answered.{IsDialogIn, IsOpenIn, AreEventsIn, speaker_of}
use Rattle.monitor_model.specs.Cell.{incarnation}
use Rattle.monitor_model.specs.Course.{Speaker, said_count}
use Rattle.monitor_model.specs.Played.{record_of, with_open}
use Rattle.monitor_model.specs.Stage.{Stage, Stand, Opened, stand}
use Rattle.monitor_model.specs.Standing.{up_at_okd}
use Rattle.monitor_model.specs.Script.{greatest, begins, closed, superseded, superseded_if, retired, freshly_booted, booted, upped, downed, installed_all, revoked_all, launched, launched_rest, taken_down, relaunched, reply_end, settled}
use Rattle.monitor_model.proofs.Lawful.Plain.{none_some}
use Rattle.monitor_model.proofs.Lawful.Kept.{IsGood}
use Rattle.monitor_model.proofs.Lawful.Settled.{closed_there, retired_there, settled_keeps}
use Rattle.monitor_model.proofs.Lawful.Cells.{was_booted}
use Rattle.monitor_model.proofs.Lawful.Stages.{open_is_declared, IsBootable, IsShut, IsEmpty, superseded_is_shut, retired_is_empty, retired_stage}
use Rattle.monitor_model.proofs.Lawful.Launches.{begins_is_launchable, installed_is_bootable, revoked_is_launchable, taken_down_is_launchable}
use Rattle.monitor_model.proofs.Lawful.Records.{journal}
use Rattle.monitor_model.proofs.Lawful.Hearing.{stand_when}
use Rattle.monitor_model.proofs.Lawful.Telling.{stands_installed_all, stands_revoked_all}
use Rattle.monitor_model.proofs.Lawful.Later.{IsLater, events_later, later_same, later_installed_all, later_revoked_all, later_down}

-- Each dialog of each cell fits the journals.
abbrev pub IsAnswering : Config → Stage → Type 0
IsAnswering C S = (s : ℕ) → AreEventsIn C (record_of S) s (journal (stand S s))

-- only journals grow
pub answering_later : (C : Config) (S now : Stage) → IsLater (record_of S) (record_of now) → now.stands ≡ S.stands → IsAnswering C S → IsAnswering C now
answering_later C S now later same all s = rw same (events_later C (record_of S) (record_of now) s (journal (stand S s)) later (all s))

-- one cell changes
pub answering_at : (C : Config) (S now : Stage) (s : ℕ) (there : Stand) → IsLater (record_of S) (record_of now) → now.stands ≡ slice_set S.stands s there → s < length S.stands
    → AreEventsIn C (record_of now) s (journal there) → IsAnswering C S → IsAnswering C now
answering_at C S now s there later same declared here all t =
    rw same
    (stand_when (λ (r : ℕ) (x : Stand). AreEventsIn C (record_of now) r (journal x)) s t S.stands there declared here
    (λ apart. events_later C (record_of S) (record_of now) t (journal (stand S t)) later (all t)) (s == t) refl)

-- the events of a cell, without and with its open dialog
pub shut_events : (C : Config) (S : Stage) (s : ℕ) → IsAnswering C S → (stand S s).open_dialog ≡ None → AreEventsIn C (record_of S) s (stand S s).past
shut_events C S s all shut = rw shut at (all s)

pub open_events : (C : Config) (S : Stage) (s : ℕ) (opened : Opened) → IsAnswering C S → (stand S s).open_dialog ≡ Some opened → AreEventsIn C (record_of S) s (cell.Speaking 0 opened.items ∷ (stand S s).past)
open_events C S s opened all is = rw is at (all s)

-- a dialog ends
pub answering_closed : (C : Config) (s : ℕ) (was opened : Opened) (how : End) (S : Stage) → IsAnswering C S → (stand S s).open_dialog ≡ Some was
    → (IsOpenIn C (record_of S) (speaker_of 0 s (stand S s).past) was.items → IsDialogIn C (record_of S) (speaker_of 0 s (stand S s).past) [] opened.items how)
    → IsAnswering C (closed s opened how S)
answering_closed C s was opened how S all is ends =
    let there : Stand = closed_there opened.items how (stand S s) in
    let before : AreEventsIn C (record_of S) s (cell.Speaking 0 was.items ∷ (stand S s).past) = open_events C S s was all is in
    let later : IsLater (record_of S) (record_of (closed s opened how S)) = later_same S (closed s opened how S) refl refl refl in
    answering_at C S (closed s opened how S) s (settled there) later refl (open_is_declared s S.stands was is)
    (settled_keeps (λ (J : List CellEvent) (o : Option Opened). AreEventsIn C (record_of (closed s opened how S)) s (with_open o J)) there
    (events_later C (record_of S) (record_of (closed s opened how S)) s (journal there) later (before.0, ends before.1))) all

-- the ends
ends_superseded : (C : Config) (R : Record) (w : Speaker) (items : List Item) (shown : ℕ) → w.incarnation < shown → IsOpenIn C R w items → IsDialogIn C R w [] items (end.Superseded shown)
ends_superseded C R w items shown above o = inr (o.0, o.1, (above, o.2, o.3))

pub ends_bad : (C : Config) (R : Record) (w : Speaker) (items : List Item) → IsOpenIn C R w items → IsDialogIn C R w [] items end.BadFrame
ends_bad C R w items o = inr (o.0, o.1, (o.2, o.3))

pub ends_ended : (C : Config) (R : Record) (w : Speaker) (items : List Item) → IsOpenIn C R w items → IsDialogIn C R w [] items end.Ended
ends_ended C R w items o = inr (o.0, o.1, (o.2, o.3))

end_is : (P : End → Type 0) (there how : End) → Some there ≡ Some how → P there → P how
end_is P there how is here = let same : there ≡ how = cc in rw same at here

ends_reply : (C : Config) (R : Record) (w : Speaker) (items : List Item) (said : ServiceFrame) (how : End) → said_count items + 1 ≤ MOST_FRAMES → reply_end said ≡ Some how
    → IsOpenIn C R w items → IsDialogIn C R w [] (Said said ∷ items) how
ends_reply C R w items (said.Reply status content_type location content) how few is o =
    end_is (λ e. IsDialogIn C R w [] (Said (said.Reply status content_type location content) ∷ items) e) end.Reply how is
    (inr (o.0, o.1, (items, (status, content_type, location, content, refl), o.2, few)))
ends_reply C R w items (said.Open p shown) how few is o = absurd (none_some how None refl is)
ends_reply C R w items (said.Call p n q args) how few is o = absurd (none_some how None refl is)
ends_reply C R w items (said.Get name) how few is o = absurd (none_some how None refl is)
ends_reply C R w items (said.Log text) how few is o = absurd (none_some how None refl is)

most_said : (n : ℕ) → n ≤ MOST_FRAMES → MOST_FRAMES < n + 1 → n ≡ MOST_FRAMES
most_said n few many = omega arith

pub ends_said : (C : Config) (R : Record) (w : Speaker) (items : List Item) (said : ServiceFrame) (how : End) (b : Bool) → nat_lt MOST_FRAMES (said_count items + 1) ≡ b
    → cond b (Some end.FrameLimit) (reply_end said) ≡ Some how → IsOpenIn C R w items → IsDialogIn C R w [] (Said said ∷ items) how
ends_said C R w items said how true many is o =
    end_is (λ e. IsDialogIn C R w [] (Said said ∷ items) e) end.FrameLimit how is
    (inr (o.0, o.1, (said, items, refl, o.2, most_said (said_count items) o.3 (ltb-true MOST_FRAMES (said_count items + 1) many))))
ends_said C R w items said how false few is o = ends_reply C R w items said how (ltb-false MOST_FRAMES (said_count items + 1) few) is o

-- a dialog that is superseded
answering_superseded_if : (C : Config) (s : ℕ) (o : Option Opened) (S : Stage) → IsAnswering C S → (stand S s).open_dialog ≡ o → incarnation (stand S s).past < greatest S s → IsAnswering C (superseded_if s o S)
answering_superseded_if C s None S all is above = all
answering_superseded_if C s (Some opened) S all is above =
    answering_closed C s opened opened (end.Superseded (greatest S s)) S all is
    (ends_superseded C (record_of S) (speaker_of 0 s (stand S s).past) opened.items (greatest S s) above)

pub answering_superseded : (C : Config) (s : ℕ) (S : Stage) → IsAnswering C S → incarnation (stand S s).past < greatest S s → IsAnswering C (superseded s S)
answering_superseded C s S all above = answering_superseded_if C s (stand S s).open_dialog S all refl above

bootable_is_above : (C : Config) (seed : List ℕ) (s : ℕ) (S : Stage) → IsBootable C seed s S → incarnation (stand S s).past < greatest S s
bootable_is_above C seed s S b = omega (arith, was_booted (stand S s).past, b.fresh)

-- a cell is retired, and booted
answering_retired_when : (C : Config) (s : ℕ) (S : Stage) (b : Bool) → IsAnswering C S → s < length S.stands → (stand S s).open_dialog ≡ None → IsAnswering C (cond b S (retired_stage s S))
answering_retired_when C s S true all declared shut = all
answering_retired_when C s S false all declared shut =
    let there : Stand = retired_there (stand S s) in
    let later : IsLater (record_of S) (record_of (retired_stage s S)) = later_same S (retired_stage s S) refl refl refl in
    answering_at C S (retired_stage s S) s there later refl declared
    (rw shut (events_later C (record_of S) (record_of (retired_stage s S)) s (stand S s).past later (shut_events C S s all shut), tt)) all

answering_emptied : (C : Config) (seed : List ℕ) (s : ℕ) (S : Stage) → IsBootable C seed s S → IsAnswering C S → IsAnswering C (retired s (superseded s S))
answering_emptied C seed s S b all =
    let shut : IsShut C seed s (superseded s S) = superseded_is_shut C seed s S b in
    answering_retired_when C s (superseded s S) (incarnation (stand (superseded s S) s).past == 0)
    (answering_superseded C s S all (bootable_is_above C seed s S b)) shut.bootable.declared shut.shut

answering_fresh : (C : Config) (s : ℕ) (S : Stage) → IsAnswering C S → s < length S.stands → (stand S s).open_dialog ≡ None → IsAnswering C (freshly_booted s S)
answering_fresh C s S all declared shut =
    let there : Stand = record { past = cell.Boot (greatest S s) ∷ (stand S s).past; left = []; has_ended = false; open_dialog = None } in
    let later : IsLater (record_of S) (record_of (freshly_booted s S)) = later_same S (freshly_booted s S) refl refl refl in
    answering_at C S (freshly_booted s S) s there later refl declared
    (events_later C (record_of S) (record_of (freshly_booted s S)) s (stand S s).past later (shut_events C S s all shut), tt) all

pub answering_booted : (C : Config) (seed : List ℕ) (s : ℕ) (S : Stage) → IsBootable C seed s S → IsAnswering C S → IsAnswering C (booted s S)
answering_booted C seed s S b all =
    let empty : IsEmpty C seed s (retired s (superseded s S)) = retired_is_empty C seed s (superseded s S) (superseded_is_shut C seed s S b) in
    answering_fresh C s (retired s (superseded s S)) (answering_emptied C seed s S b all) empty.bootable.declared empty.shut

-- launches
answering_launched_rest : (C : Config) (seed : List ℕ) (s : ℕ) (S : Stage) → IsBootable C seed s (installed_all seed s (cols C s) S) → IsAnswering C S → IsAnswering C (launched_rest C seed s S)
answering_launched_rest C seed s S b all =
    let T : Stage = installed_all seed s (cols C s) S in
    answering_later C (booted s T) (upped s (booted s T)) (later_same (booted s T) (upped s (booted s T)) refl refl refl) refl
    (answering_booted C seed s T b (answering_later C S T (later_installed_all seed s (cols C s) S) (stands_installed_all seed s (cols C s) S) all))

pub answering_launched : (C : Config) (seed : List ℕ) (s : ℕ) (S : Stage) → IsGood C seed S → s < length C.services → IsAnswering C S → IsAnswering C (launched C seed s S)
answering_launched C seed s S g declared all =
    answering_launched_rest C seed s (begins s S) (installed_is_bootable C seed s (begins s S) (begins_is_launchable C seed s S g declared))
    (answering_later C S (begins s S) (later_same S (begins s S) refl refl refl) refl all)

pub answering_relaunched : (C : Config) (seed : List ℕ) (s : ℕ) (S : Stage) → IsGood C seed S → s < length C.services → IsAnswering C S → IsAnswering C (relaunched C seed s S)
answering_relaunched C seed s S g declared all =
    let D : Stage = downed s (begins s S) in
    let R : Stage = revoked_all s (all_places C) D in
    let down : IsAnswering C D
    = answering_later C (begins s S) D (later_down s (up_at_okd S.seen.okd s) (begins s S)) refl (answering_later C S (begins s S) (later_same S (begins s S) refl refl refl) refl all) in
    let revoked_there : IsAnswering C R = answering_later C D R (later_revoked_all s (all_places C) D) (stands_revoked_all s (all_places C) D) down in
    answering_launched_rest C seed s (taken_down C s S) (installed_is_bootable C seed s (taken_down C s S) (taken_down_is_launchable C seed s S g declared))
    (answering_emptied C seed s R (revoked_is_launchable C seed s S g declared).bootable revoked_there)
