-- What the steps of a run keep of the entries that its dialogs tell.
use Rattle.std.proofs.Common.{◌≡◌, ◌≢◌, ◌⊎◌, inl, inr, ℕ, ◌<◌, ◌≤◌, Bool, true, false, cond, List, [], ◌∷◌, Option, Some, None, refl, ap, sym, ◌∙◌, length, ◌==◌, eqb-true, get_or-set_same, get_or-set_other, subst}
use Rattle.std.specs.Prelude.{slice_set}
use Rattle.std.proofs.lemmas.Bool.{eqb-false, cases_lt}
use Rattle.std.proofs.lemmas.List.{set_past}
use Rattle.okws_base.specs.declared.journal.Entry.{Entry}
use Rattle.okws_plan.specs.Configuration.{cols, all_places}
use Rattle.okws_plan.specs.declared.configuration.Config.{Config}
use Rattle.okws_plan.specs.declared.script.Place.{Place}
use Rattle.okws_plan.specs.declared.script.Place.TheVariants.{Proxy, Pubd, Oklogd}
use Rattle.okws_plan.specs.declared.event.LogEvent.{LogEvent}
use Rattle.okws_plan.specs.declared.event.LogEvent.TheVariants as oklogd
use Rattle.okws_plan.specs.declared.event.ProxyEvent.{ProxyEvent}
use Rattle.okws_plan.specs.declared.event.ProxyEvent.TheVariants as proxy
use Rattle.okws_plan.specs.declared.event.PubdEvent.{PubdEvent}
use Rattle.okws_plan.specs.declared.event.PubdEvent.TheVariants as pubd
use Rattle.token_core.specs.Token.{token_of}
use Rattle.monitor_model.specs.declared.record.CellEvent.{CellEvent}
use Rattle.monitor_model.specs.declared.record.CellEvent.TheVariants as cell
use Rattle.monitor_model.specs.declared.record.End.{End}
use Rattle.monitor_model.specs.declared.record.End.TheVariants as end
use Rattle.monitor_model.specs.Cell.{incarnation}
use Rattle.monitor_model.specs.Entered.{entered, entered_by, exchanges, exchanges_at, log_exchange, proxy_exchange, pubd_exchange}
use Rattle.okws_plan.specs.Lines.{PlaceFits}
use Rattle.monitor_model.specs.Played.{record_of, with_open}
use Rattle.monitor_model.specs.Seen.{proxy_past}
use Rattle.monitor_model.specs.Stage.{Stage, Stand, Opened, stand, with_seen}
use Rattle.monitor_model.specs.Standing.{up_at_okd}
use Rattle.monitor_model.specs.Script.{entry, at_log, at_proxy, at_pubd, greatest, begins, closed, superseded, superseded_if, retired, freshly_booted, booted, installed, installed_all, revoked, revoke_place, revoked_all, stands_of, downed, down_okd, upped, launched, launched_rest, taken_down, relaunched, settled}
use Rattle.monitor_model.proofs.Lawful.Kept.{IsGood}
use Rattle.monitor_model.proofs.Lawful.Settled.{closed_there, retired_there, settled_keeps}
use Rattle.monitor_model.proofs.Lawful.Stages.{open_is_declared, IsBootable, IsShut, IsEmpty, superseded_is_shut, retired_is_empty, retired_stage}
use Rattle.monitor_model.proofs.Lawful.Launches.{begins_is_launchable, installed_is_bootable, revoked_is_launchable, taken_down_is_launchable}
use Rattle.monitor_model.proofs.Lawful.Records.{journal}
use Rattle.monitor_model.proofs.Lawful.Hearing.{stand_when}
use Rattle.monitor_model.proofs.Lawful.Telling.{stands_installed_all, stands_revoked_all}

-- The entries of each incarnation are what its dialogs tell.
abbrev pub AreEntered : Config → Stage → Type 0
AreEntered C S = (s k : ℕ) (at : Place) → PlaceFits C at → exchanges_at C at s k (record_of S) ≡ entered_by at k (journal (stand S s))

-- The entries of each incarnation stay.
abbrev pub KeepsFrames : Config → Stage → Stage → Type 0
KeepsFrames C S now = (s k : ℕ) (at : Place) → exchanges_at C at s k (record_of now) ≡ exchanges_at C at s k (record_of S)

pub keeps_same : (C : Config) (S now : Stage) → now.seen.proxies ≡ S.seen.proxies → now.seen.pubd ≡ S.seen.pubd → now.seen.oklogd ≡ S.seen.oklogd → KeepsFrames C S now
keeps_same C S now proxies pubd oklogd s k (Proxy p) = ap (λ (ps : List (List (Entry ProxyEvent))). exchanges (proxy_exchange C p s k) (proxy_past ps p)) proxies
keeps_same C S now proxies pubd oklogd s k Pubd = ap (λ (J : List (Entry PubdEvent)). exchanges (pubd_exchange C s k) J) pubd
keeps_same C S now proxies pubd oklogd s k Oklogd = ap (λ (J : List (Entry LogEvent)). exchanges (log_exchange C s k) J) oklogd

pub keeps_then : (C : Config) (S mid now : Stage) → KeepsFrames C S mid → KeepsFrames C mid now → KeepsFrames C S now
keeps_then C S mid now a b s k at = b s k at ∙ a s k at

-- a proxy's entry, seen from each proxy
pub past_now : (ps : List (List (Entry ProxyEvent))) (p : ℕ) (now : List (Entry ProxyEvent)) (q : ℕ) → p ≢ q → proxy_past (slice_set ps p now) q ≡ proxy_past ps q
past_now ps p now q apart = get_or-set_other ps p q now [] (λ is. apart (sym is))

frame_when : (C : Config) (s k p q : ℕ) (e : ProxyEvent) (ps : List (List (Entry ProxyEvent))) → ((J : List (Entry ProxyEvent)) → proxy_exchange C q s k J e ≡ None) → (p < length ps) ⊎ (length ps ≤ p) → (b : Bool) → (p == q) ≡ b
    → exchanges (proxy_exchange C q s k) (proxy_past (slice_set ps p (entry e ∷ proxy_past ps p)) q)
    ≡ exchanges (proxy_exchange C q s k) (proxy_past ps q)
frame_when C s k p q e ps none (inl declared) true same =
    subst (λ (r : ℕ). exchanges (proxy_exchange C q s k) (proxy_past (slice_set ps p (entry e ∷ proxy_past ps p)) r)
    ≡ exchanges (proxy_exchange C q s k) (proxy_past ps r)) (eqb-true p q same)
    (rw (get_or-set_same ps p (entry e ∷ proxy_past ps p) [] declared, none (proxy_past ps p)) refl)
frame_when C s k p q e ps none (inr past) true same = rw (set_past ps p (entry e ∷ proxy_past ps p) past) refl
frame_when C s k p q e ps none declared false same = rw (past_now ps p (entry e ∷ proxy_past ps p) q (eqb-false p q same)) refl

-- an entry that no frame asks for
pub keeps_proxy : (C : Config) (p : ℕ) (e : ProxyEvent) (S : Stage) → ((q s k : ℕ) (J : List (Entry ProxyEvent)) → proxy_exchange C q s k J e ≡ None) → KeepsFrames C S (with_seen S (at_proxy p e S.seen))
keeps_proxy C p e S none s k (Proxy q) = frame_when C s k p q e S.seen.proxies (none q s k) (cases_lt p (length S.seen.proxies)) (p == q) refl
keeps_proxy C p e S none s k Pubd = refl
keeps_proxy C p e S none s k Oklogd = refl

pub keeps_pubd : (C : Config) (e : PubdEvent) (S : Stage) → ((s k : ℕ) (J : List (Entry PubdEvent)) → pubd_exchange C s k J e ≡ None) → KeepsFrames C S (with_seen S (at_pubd e S.seen))
keeps_pubd C e S none s k (Proxy q) = refl
keeps_pubd C e S none s k Pubd = rw (none s k S.seen.pubd) refl
keeps_pubd C e S none s k Oklogd = refl

pub keeps_log : (C : Config) (e : LogEvent) (S : Stage) → ((s k : ℕ) (J : List (Entry LogEvent)) → log_exchange C s k J e ≡ None) → KeepsFrames C S (with_seen S (at_log e S.seen))
keeps_log C e S none s k (Proxy q) = refl
keeps_log C e S none s k Pubd = refl
keeps_log C e S none s k Oklogd = rw (none s k S.seen.oklogd) refl

-- installs, revokes and a Down
pub keeps_installed : (C : Config) (seed : List ℕ) (s : ℕ) (at : Place) (S : Stage) → KeepsFrames C S (installed seed s at S)
keeps_installed C seed s (Proxy p) S = keeps_proxy C p (proxy.Install s (greatest S s) (token_of seed s (greatest S s) p)) S (λ q t k J. refl)
keeps_installed C seed s Pubd S = keeps_pubd C (pubd.Install s (greatest S s)) S (λ t k J. refl)
keeps_installed C seed s Oklogd S = keeps_log C (oklogd.Install s (greatest S s)) S (λ t k J. refl)

pub keeps_installed_all : (C : Config) (seed : List ℕ) (s : ℕ) (places : List Place) (S : Stage) → KeepsFrames C S (installed_all seed s places S)
keeps_installed_all C seed s [] S = keeps_same C S S refl refl refl
keeps_installed_all C seed s (at ∷ more) S =
    keeps_then C S (installed seed s at S) (installed_all seed s more (installed seed s at S)) (keeps_installed C seed s at S) (keeps_installed_all C seed s more (installed seed s at S))

pub keeps_revoke : (C : Config) (s : ℕ) (at : Place) (o : Option ℕ) (S : Stage) → KeepsFrames C S (with_seen S (revoke_place s at o S.seen))
keeps_revoke C s (Proxy p) None S = keeps_same C S S refl refl refl
keeps_revoke C s Pubd None S = keeps_same C S S refl refl refl
keeps_revoke C s Oklogd None S = keeps_same C S S refl refl refl
keeps_revoke C s (Proxy p) (Some k) S = keeps_proxy C p (proxy.Revoke s k) S (λ q t j J. refl)
keeps_revoke C s Pubd (Some k) S = keeps_pubd C (pubd.Revoke s k) S (λ t j J. refl)
keeps_revoke C s Oklogd (Some k) S = keeps_log C (oklogd.Revoke s k) S (λ t j J. refl)

pub keeps_revoked : (C : Config) (s : ℕ) (at : Place) (S : Stage) → KeepsFrames C S (revoked s at S)
keeps_revoked C s at S = keeps_revoke C s at (stands_of s at S.seen) S

pub keeps_revoked_all : (C : Config) (s : ℕ) (places : List Place) (S : Stage) → KeepsFrames C S (revoked_all s places S)
keeps_revoked_all C s [] S = keeps_same C S S refl refl refl
keeps_revoked_all C s (at ∷ more) S = keeps_then C S (revoked s at S) (revoked_all s more (revoked s at S)) (keeps_revoked C s at S) (keeps_revoked_all C s more (revoked s at S))

pub keeps_down : (C : Config) (s : ℕ) (o : Option ℕ) (S : Stage) → KeepsFrames C S (with_seen S (down_okd s o S.seen))
keeps_down C s None S = keeps_same C S S refl refl refl
keeps_down C s (Some k) S = keeps_same C S (with_seen S (down_okd s (Some k) S.seen)) refl refl refl

-- only columns are entered, or one cell changes
pub entered_columns : (C : Config) (S now : Stage) → KeepsFrames C S now → now.stands ≡ S.stands → AreEntered C S → AreEntered C now
entered_columns C S now keeps same all s k at fits = rw (keeps s k at, same) (all s k at fits)

pub entered_cell : (C : Config) (S now : Stage) (s : ℕ) (there : Stand) → KeepsFrames C S now → now.stands ≡ slice_set S.stands s there → s < length S.stands
    → ((k : ℕ) (at : Place) → entered_by at k (journal there) ≡ entered_by at k (journal (stand S s))) → AreEntered C S → AreEntered C now
entered_cell C S now s there keeps same declared here all t k at fits =
    rw (keeps t k at, same)
    (stand_when (λ (r : ℕ) (x : Stand). exchanges_at C at r k (record_of S) ≡ entered_by at k (journal x)) s t S.stands there declared
    (all s k at fits ∙ sym (here k at)) (λ apart. all t k at fits) (s == t) refl)

-- a dialog ends
pub entered_closed : (C : Config) (s : ℕ) (was opened : Opened) (how : End) (S : Stage) → AreEntered C S → (stand S s).open_dialog ≡ Some was → ((at : Place) → entered at opened.items ≡ entered at was.items)
    → AreEntered C (closed s opened how S)
entered_closed C s was opened how S all is same =
    let there : Stand = closed_there opened.items how (stand S s) in
    entered_cell C S (closed s opened how S) s (settled there) (keeps_same C S (closed s opened how S) refl refl refl) refl (open_is_declared s S.stands was is)
    (λ k at. settled_keeps (λ (J : List CellEvent) (o : Option Opened). entered_by at k (with_open o J) ≡ entered_by at k (journal (stand S s))) there (rw (is, same at) refl)) all

entered_superseded_if : (C : Config) (s : ℕ) (o : Option Opened) (S : Stage) → AreEntered C S → (stand S s).open_dialog ≡ o → AreEntered C (superseded_if s o S)
entered_superseded_if C s None S all is = all
entered_superseded_if C s (Some opened) S all is = entered_closed C s opened opened (end.Superseded (greatest S s)) S all is (λ at. refl)

pub entered_superseded : (C : Config) (s : ℕ) (S : Stage) → AreEntered C S → AreEntered C (superseded s S)
entered_superseded C s S all = entered_superseded_if C s (stand S s).open_dialog S all refl

-- a cell is retired, and booted
entered_retired_when : (C : Config) (s : ℕ) (S : Stage) (b : Bool) → AreEntered C S → s < length S.stands → (stand S s).open_dialog ≡ None → AreEntered C (cond b S (retired_stage s S))
entered_retired_when C s S true all declared shut = all
entered_retired_when C s S false all declared shut =
    let there : Stand = retired_there (stand S s) in
    entered_cell C S (retired_stage s S) s there (keeps_same C S (retired_stage s S) refl refl refl) refl declared (λ k at. rw shut refl) all

entered_emptied : (C : Config) (seed : List ℕ) (s : ℕ) (S : Stage) → IsBootable C seed s S → AreEntered C S → AreEntered C (retired s (superseded s S))
entered_emptied C seed s S b all =
    let shut : IsShut C seed s (superseded s S) = superseded_is_shut C seed s S b in
    entered_retired_when C s (superseded s S) (incarnation (stand (superseded s S) s).past == 0) (entered_superseded C s S all) shut.bootable.declared shut.shut

pub entered_booted : (C : Config) (seed : List ℕ) (s : ℕ) (S : Stage) → IsBootable C seed s S → AreEntered C S → AreEntered C (booted s S)
entered_booted C seed s S b all =
    let T : Stage = retired s (superseded s S) in
    let empty : IsEmpty C seed s T = retired_is_empty C seed s (superseded s S) (superseded_is_shut C seed s S b) in
    let there : Stand = record { past = cell.Boot (greatest T s) ∷ (stand T s).past; left = []; has_ended = false; open_dialog = None } in
    entered_cell C T (freshly_booted s T) s there (keeps_same C T (freshly_booted s T) refl refl refl) refl empty.bootable.declared (λ k at. rw empty.shut refl) (entered_emptied C seed s S b all)

entered_launched_rest : (C : Config) (seed : List ℕ) (s : ℕ) (S : Stage) → IsBootable C seed s (installed_all seed s (cols C s) S) → AreEntered C S → AreEntered C (launched_rest C seed s S)
entered_launched_rest C seed s S b all =
    let T : Stage = installed_all seed s (cols C s) S in
    entered_columns C (booted s T) (upped s (booted s T)) (keeps_same C (booted s T) (upped s (booted s T)) refl refl refl) refl
    (entered_booted C seed s T b (entered_columns C S T (keeps_installed_all C seed s (cols C s) S) (stands_installed_all seed s (cols C s) S) all))

entered_begins : (C : Config) (s : ℕ) (S : Stage) → AreEntered C S → AreEntered C (begins s S)
entered_begins C s S all = entered_columns C S (begins s S) (keeps_same C S (begins s S) refl refl refl) refl all

pub entered_launched : (C : Config) (seed : List ℕ) (s : ℕ) (S : Stage) → IsGood C seed S → s < length C.services → AreEntered C S → AreEntered C (launched C seed s S)
entered_launched C seed s S g declared all =
    entered_launched_rest C seed s (begins s S) (installed_is_bootable C seed s (begins s S) (begins_is_launchable C seed s S g declared)) (entered_begins C s S all)

pub entered_relaunched : (C : Config) (seed : List ℕ) (s : ℕ) (S : Stage) → IsGood C seed S → s < length C.services → AreEntered C S → AreEntered C (relaunched C seed s S)
entered_relaunched C seed s S g declared all =
    let D : Stage = downed s (begins s S) in
    let R : Stage = revoked_all s (all_places C) D in
    let down : AreEntered C D = entered_columns C (begins s S) D (keeps_down C s (up_at_okd S.seen.okd s) (begins s S)) refl (entered_begins C s S all) in
    let revoked_there : AreEntered C R = entered_columns C D R (keeps_revoked_all C s (all_places C) D) (stands_revoked_all s (all_places C) D) down in
    entered_launched_rest C seed s (taken_down C s S) (installed_is_bootable C seed s (taken_down C s S) (taken_down_is_launchable C seed s S g declared))
    (entered_emptied C seed s R (revoked_is_launchable C seed s S g declared).bootable revoked_there)
