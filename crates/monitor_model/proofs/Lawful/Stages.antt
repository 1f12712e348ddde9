-- What one step of a script's run keeps.
use Rattle.std.proofs.Common.{◌≡◌, ◌≢◌, ◌⊎◌, inl, inr, ℕ, ◌+◌, ◌<◌, ◌≤◌, Bool, true, false, cond, List, [], ◌∷◌, Option, Some, None, refl, ap, ◌∙◌, arith, length, eqb-true, eq-eqb, ne_eqb, ◌==◌, get_or-set_same, le_refl}
use Rattle.std.specs.Prelude.{filter, slice_index_or}
use Rattle.std.proofs.lemmas.Bool.{eqb-false, cases_lt}
use Rattle.std.proofs.lemmas.List.{length-set, get_or_past}
use Rattle.okws_base.specs.Past.{is_just}
use Rattle.okws_plan.specs.declared.configuration.Config.{Config}
use Rattle.okws_plan.specs.declared.event.OkdEvent.{OkdEvent}
use Rattle.okws_plan.specs.declared.event.OkdEvent.TheVariants as okd
use Rattle.okws_plan.specs.declared.event.ProxyEvent.{ProxyEvent}
use Rattle.okws_plan.specs.declared.event.PubdEvent.{PubdEvent}
use Rattle.okws_plan.specs.declared.event.LogEvent.{LogEvent}
use Rattle.okws_plan.specs.declared.event.LauncherEvent.TheVariants as launcher
use Rattle.monitor_model.specs.declared.record.CellEvent.{CellEvent}
use Rattle.monitor_model.specs.declared.record.CellEvent.TheVariants as cell
use Rattle.monitor_model.specs.declared.record.End.{End}
use Rattle.monitor_model.specs.declared.record.End.TheVariants as end
use Rattle.monitor_model.specs.declared.record.Own.{Own}
use Rattle.monitor_model.specs.declared.record.Own.TheVariants as own
use Rattle.monitor_model.specs.Standing.{proxy_grant, pubd_grant, log_grant, up_at_okd}
use Rattle.monitor_model.specs.Columns.{MayEnterOkd, MayEnterProxy, MayEnterPubd, MayEnterLog, faults, faults_after}
use Rattle.monitor_model.specs.Launcher.{begun}
use Rattle.monitor_model.specs.Cell.{incarnation, last_booted}
use Rattle.monitor_model.specs.Merged.{is_at_cell}
use Rattle.monitor_model.specs.Seen.{proxy_past}
use Rattle.monitor_model.specs.Stage.{Stage, Stand, Opened, empty_stand, stand, with_stand, with_seen, with_item}
use Rattle.monitor_model.specs.Script.{entry, at_okd, at_proxy, at_pubd, at_log, greatest, begins, closed, superseded_if, superseded, retired, freshly_booted, booted, upped, downed, down_okd, settled}
use Rattle.monitor_model.proofs.Lawful.Plain.{none_some}
use Rattle.monitor_model.proofs.Lawful.Settled.{closed_there, retired_there, settled_keeps}
use Rattle.monitor_model.proofs.Lawful.Kept.{EndFits, CellKept, IsGood}
use Rattle.monitor_model.proofs.Lawful.Columns.{UpFits, GrantFits, IsNote, seen_okd, seen_proxy, seen_pubd, seen_log, seen_begun, seen_noted, begun_grows}
use Rattle.monitor_model.proofs.Lawful.Cells.{StandKept, was_booted, cell_above, cell_booted, cell_retired, cell_closed, cell_went_on, stands_with}

-- an entry at a column
pub good_begins : (C : Config) (seed : List ℕ) (s : ℕ) (S : Stage) → IsGood C seed S → IsGood C seed (begins s S)
good_begins C seed s S g = record {
  seen = seen_begun C seed S.seen s g.seen;
  stands_are = g.stands_are;
  cells = λ t. cell_above t (stand S t).open_dialog (stand S t).past (filter (is_at_cell t) S.seen.own) (greatest S t) (begun (entry (launcher.Begun s (greatest S s + 1)) ∷ S.seen.launcher) t)
      (begun_grows S.seen.launcher s (greatest S s + 1) t) (g.cells t);
  requests = g.requests;
}

pub good_okd : (C : Config) (seed : List ℕ) (e : OkdEvent) (S : Stage) → IsGood C seed S → MayEnterOkd S.seen.okd e → UpFits C e → IsGood C seed (with_seen S (at_okd e S.seen))
good_okd C seed e S g may fits = record { seen = seen_okd C seed S.seen e g.seen may fits; stands_are = g.stands_are; cells = g.cells; requests = g.requests }

pub good_proxy : (C : Config) (seed : List ℕ) (p : ℕ) (e : ProxyEvent) (S : Stage) → IsGood C seed S → p < length C.proxies
    → (faults_after e (faults (proxy_past S.seen.proxies p)) ≡ 0 → MayEnterProxy C seed p (proxy_past S.seen.proxies p) e) → GrantFits (greatest S) (proxy_grant e)
    → IsGood C seed (with_seen S (at_proxy p e S.seen))
good_proxy C seed p e S g declared may fits = record { seen = seen_proxy C seed S.seen p e g.seen declared may fits; stands_are = g.stands_are; cells = g.cells; requests = g.requests }

pub good_pubd : (C : Config) (seed : List ℕ) (e : PubdEvent) (S : Stage) → IsGood C seed S → MayEnterPubd C S.seen.pubd e → GrantFits (greatest S) (pubd_grant e)
    → IsGood C seed (with_seen S (at_pubd e S.seen))
good_pubd C seed e S g may fits = record { seen = seen_pubd C seed S.seen e g.seen may fits; stands_are = g.stands_are; cells = g.cells; requests = g.requests }

pub good_log : (C : Config) (seed : List ℕ) (e : LogEvent) (S : Stage) → IsGood C seed S → MayEnterLog S.seen.oklogd e → GrantFits (greatest S) (log_grant e)
    → IsGood C seed (with_seen S (at_log e S.seen))
good_log C seed e S g may fits = record { seen = seen_log C seed S.seen e g.seen may fits; stands_are = g.stands_are; cells = g.cells; requests = g.requests }

-- a cell changes, without an item
pub good_stand : (C : Config) (seed : List ℕ) (s : ℕ) (there : Stand) (S : Stage) → IsGood C seed S → s < length S.stands
    → StandKept s there (filter (is_at_cell s) S.seen.own) (greatest S s) → IsGood C seed (with_stand S s there)
good_stand C seed s there S g declared kept = record {
  seen = g.seen;
  stands_are = length-set S.stands s there ∙ g.stands_are;
  cells = stands_with s S.stands there S.seen.own S.seen.own (greatest S) declared kept (λ t apart. refl) g.cells;
  requests = g.requests;
}

-- a cell changes, with an item
good_item : (C : Config) (seed : List ℕ) (s : ℕ) (there : Stand) (item : Own) (S : Stage) → IsGood C seed S → s < length S.stands → IsNote item
    → ((t : ℕ) → s ≢ t → filter (is_at_cell t) (item ∷ S.seen.own) ≡ filter (is_at_cell t) S.seen.own)
    → StandKept s there (filter (is_at_cell s) (item ∷ S.seen.own)) (greatest S s) → IsGood C seed (with_item (with_stand S s there) item)
good_item C seed s there item S g declared note others kept = record {
  seen = seen_noted C seed S.seen item note g.seen;
  stands_are = length-set S.stands s there ∙ g.stands_are;
  cells = stands_with s S.stands there S.seen.own (item ∷ S.seen.own) (greatest S) declared kept others g.cells;
  requests = g.requests;
}

passed_over : (s t : ℕ) (x : Own) (xs : List Own) → s ≢ t → cond (s == t) (x ∷ xs) xs ≡ xs
passed_over s t x xs apart = rw (ne_eqb s t apart) refl

pub good_boot_item : (C : Config) (seed : List ℕ) (s k : ℕ) (there : Stand) (S : Stage) → IsGood C seed S → s < length S.stands
    → StandKept s there (own.Boot s k ∷ filter (is_at_cell s) S.seen.own) (greatest S s) → IsGood C seed (with_item (with_stand S s there) (own.Boot s k))
good_boot_item C seed s k there S g declared kept =
    good_item C seed s there (own.Boot s k) S g declared tt (λ t apart. passed_over s t (own.Boot s k) (filter (is_at_cell t) S.seen.own) apart) (rw (eq-eqb s s refl) kept)

pub good_retired_item : (C : Config) (seed : List ℕ) (s : ℕ) (there : Stand) (S : Stage) → IsGood C seed S → s < length S.stands
    → StandKept s there (own.Retired s ∷ filter (is_at_cell s) S.seen.own) (greatest S s) → IsGood C seed (with_item (with_stand S s there) (own.Retired s))
good_retired_item C seed s there S g declared kept =
    good_item C seed s there (own.Retired s) S g declared tt (λ t apart. passed_over s t (own.Retired s) (filter (is_at_cell t) S.seen.own) apart) (rw (eq-eqb s s refl) kept)

pub good_missed_item : (C : Config) (seed : List ℕ) (s k is : ℕ) (there : Stand) (S : Stage) → IsGood C seed S → s < length S.stands
    → StandKept s there (own.Missed s k is ∷ filter (is_at_cell s) S.seen.own) (greatest S s) → IsGood C seed (with_item (with_stand S s there) (own.Missed s k is))
good_missed_item C seed s k is there S g declared kept =
    good_item C seed s there (own.Missed s k is) S g declared tt (λ t apart. passed_over s t (own.Missed s k is) (filter (is_at_cell t) S.seen.own) apart) (rw (eq-eqb s s refl) kept)

pub good_dialog_item : (C : Config) (seed : List ℕ) (s : ℕ) (there : Stand) (S : Stage) → IsGood C seed S → s < length S.stands
    → StandKept s there (own.Dialog s ∷ filter (is_at_cell s) S.seen.own) (greatest S s) → IsGood C seed (with_item (with_stand S s there) (own.Dialog s))
good_dialog_item C seed s there S g declared kept =
    good_item C seed s there (own.Dialog s) S g declared tt (λ t apart. passed_over s t (own.Dialog s) (filter (is_at_cell t) S.seen.own) apart) (rw (eq-eqb s s refl) kept)

-- a cell with an open dialog is declared
open_when : (s : ℕ) (stands : List Stand) (opened : Opened) → (slice_index_or stands s empty_stand).open_dialog ≡ Some opened → (s < length stands) ⊎ (length stands ≤ s) → s < length stands
open_when s stands opened is (inl below) = below
open_when s stands opened is (inr past) = absurd (none_some opened (slice_index_or stands s empty_stand).open_dialog (ap (λ (there : Stand). there.open_dialog) (get_or_past stands s empty_stand past)) is)

pub open_is_declared : (s : ℕ) (stands : List Stand) (opened : Opened) → (slice_index_or stands s empty_stand).open_dialog ≡ Some opened → s < length stands
open_is_declared s stands opened is = open_when s stands opened is (cases_lt s (length stands))

-- an open dialog ends
pub good_closed : (C : Config) (seed : List ℕ) (s : ℕ) (was opened : Opened) (how : End) (S : Stage) → IsGood C seed S → (stand S s).open_dialog ≡ Some was → EndFits (incarnation (stand S s).past) (greatest S s) how
    → IsGood C seed (closed s opened how S)
good_closed C seed s was opened how S g is fits =
    let kept : CellKept s (Some was) (stand S s).past (filter (is_at_cell s) S.seen.own) (greatest S s) = rw is at (g.cells s) in
    good_stand C seed s (settled (closed_there opened.items how (stand S s))) S g
    (open_is_declared s S.stands was is)
    (settled_keeps (λ (J : List CellEvent) (o : Option Opened). CellKept s o J (filter (is_at_cell s) S.seen.own) (greatest S s)) (closed_there opened.items how (stand S s))
    (cell_closed s opened how (stand S s).past (filter (is_at_cell s) S.seen.own) (greatest S s)
    (cell_went_on s was opened (stand S s).past (filter (is_at_cell s) S.seen.own) (greatest S s) kept) fits))

superseded_keeps : (C : Config) (seed : List ℕ) (s : ℕ) (o : Option Opened) (S : Stage) → (stand S s).open_dialog ≡ o → incarnation (stand S s).past < greatest S s → IsGood C seed S
    → IsGood C seed (superseded_if s o S)
superseded_keeps C seed s None S is above g = g
superseded_keeps C seed s (Some opened) S is above g = good_closed C seed s opened opened (end.Superseded (greatest S s)) S g is (le_refl (greatest S s), refl, above)

pub good_superseded : (C : Config) (seed : List ℕ) (s : ℕ) (S : Stage) → incarnation (stand S s).past < greatest S s → IsGood C seed S → IsGood C seed (superseded s S)
good_superseded C seed s S above g = superseded_keeps C seed s (stand S s).open_dialog S refl above g

-- what is up, and down
pub good_upped : (C : Config) (seed : List ℕ) (s : ℕ) (S : Stage) → IsGood C seed S → s < length C.services → 0 < incarnation (stand S s).past → IsGood C seed (upped s S)
good_upped C seed s S g declared above = good_okd C seed (okd.Up s (incarnation (stand S s).past)) S g above (declared, above)

pub is_just_some : (k : ℕ) (o : Option ℕ) → o ≡ Some k → is_just k o ≡ true
is_just_some k o is = rw is (eq-eqb k k refl)

pub down_keeps : (C : Config) (seed : List ℕ) (s : ℕ) (o : Option ℕ) (S : Stage) → up_at_okd S.seen.okd s ≡ o → IsGood C seed S → IsGood C seed (with_seen S (down_okd s o S.seen))
down_keeps C seed s None S is g = g
down_keeps C seed s (Some k) S is g = good_okd C seed (okd.Down s k) S g (is_just_some k (up_at_okd S.seen.okd s) is) tt

pub good_downed : (C : Config) (seed : List ℕ) (s : ℕ) (S : Stage) → IsGood C seed S → IsGood C seed (downed s S)
good_downed C seed s S g = down_keeps C seed s (up_at_okd S.seen.okd s) S refl g

-- A state in which cell s may be booted.
pub record IsBootable (C : Config) (seed : List ℕ) (s : ℕ) (S : Stage) : Type 0 where
  pub good : IsGood C seed S
  pub declared : s < length S.stands
  pub fresh : last_booted (stand S s).past < greatest S s

-- The same, with no open dialog.
pub record IsShut (C : Config) (seed : List ℕ) (s : ℕ) (S : Stage) : Type 0 where
  pub bootable : IsBootable C seed s S
  pub shut : (stand S s).open_dialog ≡ None

-- The same, and empty.
pub record IsEmpty (C : Config) (seed : List ℕ) (s : ℕ) (S : Stage) : Type 0 where
  pub bootable : IsBootable C seed s S
  pub shut : (stand S s).open_dialog ≡ None
  pub empty : incarnation (stand S s).past ≡ 0

bootable_superseded : (C : Config) (seed : List ℕ) (s : ℕ) (o : Option Opened) (S : Stage) → (stand S s).open_dialog ≡ o → IsBootable C seed s S → IsShut C seed s (superseded_if s o S)
bootable_superseded C seed s None S is b = record { bootable = b; shut = is }
bootable_superseded C seed s (Some opened) S is b =
    let ended : Stand = closed_there opened.items (end.Superseded (greatest S s)) (stand S s) in
    let there : Stand = settled ended in
    record {
      bootable = record {
        good = good_closed C seed s opened opened (end.Superseded (greatest S s)) S b.good is
            (le_refl (greatest S s), refl, omega (arith, was_booted (stand S s).past, b.fresh));
        declared = rw (length-set S.stands s there) b.declared;
        fresh = rw (get_or-set_same S.stands s there empty_stand b.declared) (settled_keeps (λ (J : List CellEvent) (o : Option Opened). last_booted J < greatest S s) ended b.fresh);
      };
      shut = rw (get_or-set_same S.stands s there empty_stand b.declared) (settled_keeps (λ (J : List CellEvent) (o : Option Opened). o ≡ None) ended refl);
    }

pub superseded_is_shut : (C : Config) (seed : List ℕ) (s : ℕ) (S : Stage) → IsBootable C seed s S → IsShut C seed s (superseded s S)
superseded_is_shut C seed s S b = bootable_superseded C seed s (stand S s).open_dialog S refl b

-- The cell's state once it is retired.
abbrev pub retired_stage : ℕ → Stage → Stage
retired_stage s S = with_item (with_stand S s (retired_there (stand S s))) (own.Retired s)

retired_when : (C : Config) (seed : List ℕ) (s : ℕ) (S : Stage) → IsShut C seed s S → (b : Bool) → (incarnation (stand S s).past == 0) ≡ b → IsEmpty C seed s (cond b S (retired_stage s S))
retired_when C seed s S b true is = record { bootable = b.bootable; shut = b.shut; empty = eqb-true (incarnation (stand S s).past) 0 is }
retired_when C seed s S b false is =
    let there : Stand = retired_there (stand S s) in
    let kept : CellKept s None (stand S s).past (filter (is_at_cell s) S.seen.own) (greatest S s) = rw b.shut at (b.bootable.good.cells s) in
    let now : CellKept s None (cell.Retired ∷ (stand S s).past) (own.Retired s ∷ filter (is_at_cell s) S.seen.own) (greatest S s)
    = cell_retired s (stand S s).past (filter (is_at_cell s) S.seen.own) (greatest S s) kept (eqb-false (incarnation (stand S s).past) 0 is) in
    record {
      bootable = record {
        good = good_retired_item C seed s there S b.bootable.good b.bootable.declared (rw b.shut now);
        declared = rw (length-set S.stands s there) b.bootable.declared;
        fresh = rw (get_or-set_same S.stands s there empty_stand b.bootable.declared) b.bootable.fresh;
      };
      shut = rw (get_or-set_same S.stands s there empty_stand b.bootable.declared) b.shut;
      empty = rw (get_or-set_same S.stands s there empty_stand b.bootable.declared) refl;
    }

pub retired_is_empty : (C : Config) (seed : List ℕ) (s : ℕ) (S : Stage) → IsShut C seed s S → IsEmpty C seed s (retired s S)
retired_is_empty C seed s S b = retired_when C seed s S b (incarnation (stand S s).past == 0) refl

-- A good state whose cell s has an incarnation.
pub record IsThere (C : Config) (seed : List ℕ) (s : ℕ) (S : Stage) : Type 0 where
  pub good : IsGood C seed S
  pub there : 0 < incarnation (stand S s).past

fresh_is_there : (C : Config) (seed : List ℕ) (s : ℕ) (S : Stage) → IsEmpty C seed s S → IsThere C seed s (freshly_booted s S)
fresh_is_there C seed s S b =
    let there : Stand = record { past = cell.Boot (greatest S s) ∷ (stand S s).past; left = []; has_ended = false; open_dialog = None } in
    let kept : CellKept s None (stand S s).past (filter (is_at_cell s) S.seen.own) (greatest S s) = rw b.shut at (b.bootable.good.cells s) in
    let above : 0 < greatest S s = omega (arith, b.bootable.fresh) in
    record {
      good = good_boot_item C seed s (greatest S s) there S b.bootable.good b.bootable.declared
          (cell_booted s (greatest S s) (stand S s).past (filter (is_at_cell s) S.seen.own) (greatest S s) kept b.empty b.bootable.fresh (le_refl (greatest S s)));
      there = rw (get_or-set_same S.stands s there empty_stand b.bootable.declared) above;
    }

pub booted_is_there : (C : Config) (seed : List ℕ) (s : ℕ) (S : Stage) → IsBootable C seed s S → IsThere C seed s (booted s S)
booted_is_there C seed s S b = fresh_is_there C seed s (retired s (superseded s S)) (retired_is_empty C seed s (superseded s S) (superseded_is_shut C seed s S b))
