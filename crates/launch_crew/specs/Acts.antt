-- What one private call at some columns leaves of the launcher's seats and of its list, by what it answers.
use Rattle.std.specs.Io.KnownBytes.{Consumes}
use Rattle.std.specs.Prelude.{◌≡◌, ◌<◌, ◌≤◌, ◌+◌, ℕ, true, false, List, [], ◌∷◌, Some, Result, Ok, Err, IfErr, OnOk, OnErr, length, map}
use Rattle.okws_base.specs.Past.{Grant}
use Rattle.okws_base.specs.declared.journal.Entry.{Entry}
use Rattle.okws_base.specs.declared.limit.TheConstants.{MOST_PROXIES}
use Rattle.okws_plan.specs.Configuration.{grants_at, proxies_of}
use Rattle.okws_plan.specs.declared.configuration.Config.{Config}
use Rattle.okws_plan.specs.declared.event.ProxyEvent.{ProxyEvent}
use Rattle.okws_plan.specs.declared.script.Place.{Place}
use Rattle.okws_plan.specs.declared.script.Place.TheVariants.{Proxy, Pubd, Oklogd}
use Rattle.okws_outer.specs.Families.{child_named}
use Rattle.okws_outer.specs.Wire.{Wire}
use Rattle.frame_codec.specs.Spelling.{server_spelling}
use Rattle.monitor_model.specs.declared.record.Own.{Own}
use Rattle.monitor_model.specs.declared.record.Own.TheVariants as own
use Rattle.monitor_model.specs.Cell.{boot_frame, incarnation, last_booted}
use Rattle.monitor_model.specs.Launches.{with_installs}
use Rattle.monitor_model.specs.Seen.{proxy_past}
use Rattle.monitor_model.specs.Standing.{proxy_grant}
use Rattle.site_cells.specs.Row.{OnlyAt, link_at, seen_at}
use Rattle.site_locks.specs.Sat.{Sat}
use Rattle.named_columns.specs.Turns.{Stays}
use Rattle.launch_crew.specs.Finished.{IsFront, all_out}
use Rattle.launch_crew.specs.Listed.{CellsGo, InstallsFirst, with_install_if}
use Rattle.launch_crew.specs.Pasts.{Installed, Revoked}
use Rattle.launch_crew.specs.Recorded.{Recorded}
use Rattle.launch_crew.specs.declared.answer.Missed.{Missed}
use Rattle.launch_crew.specs.declared.answer.Missed.TheVariants as missed
use Rattle.launch_crew.specs.Steps.{InstallsIf, InstallsRest, InstallsRow, OnlyProxies, StandsRest, TurnsAt}

-- Incarnation k of s is installed at the column with this past, which the list tells by this item; or, on an error, what stands there is as it was. `Only` says what else is as it was.
pub record InstallsAt {E X Y : Type 0} (grant : E → Grant) (past : Sat → List (Entry E)) (Only : Sat → Sat → Type 0) (item : Own) (s k : ℕ) (answer : Result X Y) (a b : Recorded) : Type 0 where
  pub cells : b.watch ≡ a.watch
  pub only : Only a.sat b.sat
  pub ok : OnOk answer (Installed grant s k (past a.sat) (past b.sat))
  pub err : OnErr answer (Stays grant (past a.sat) (past b.sat))
  pub added : OnOk answer (b.own ≡ item ∷ a.own)
  pub kept : OnErr answer (b.own ≡ a.own)
  pub room : a.room ≤ b.room + 1

-- What stands of s at the column with this past is revoked, which the list tells so.
pub record RevokesAt {E : Type 0} (grant : E → Grant) (past : Sat → List (Entry E)) (Only : Sat → Sat → Type 0) (listed : List Own → List Own) (s : ℕ) (a b : Recorded) : Type 0 where
  pub cells : b.watch ≡ a.watch
  pub only : Only a.sat b.sat
  pub revoked : Revoked grant s (past a.sat) (past b.sat)
  pub own : b.own ≡ listed a.own
  pub room : a.room ≤ b.room + 1

-- The past of proxy p.
abbrev pub past_at : ℕ → Sat → List (Entry ProxyEvent)
past_at p a = proxy_past a.proxies p

-- The same at proxy p, if s has a grant there.
pub record InstallsWhere {X Y : Type 0} (C : Config) (seed : List ℕ) (p s k : ℕ) (answer : Result X Y) (a b : Recorded) : Type 0 where
  pub cells : b.watch ≡ a.watch
  pub only : TurnsAt p a.sat b.sat
  pub ok : OnOk answer (InstallsIf C s k p (past_at p a.sat) (past_at p b.sat))
  pub err : OnErr answer (Stays proxy_grant (past_at p a.sat) (past_at p b.sat))
  pub added : OnOk answer (b.own ≡ with_install_if (grants_at C s p) seed s k (Proxy p) a.own)
  pub kept : OnErr answer (b.own ≡ a.own)
  pub room : a.room ≤ b.room + 1

-- The same at each proxy; on an error, at the first of them.
pub record InstallsAlong {X Y : Type 0} (C : Config) (seed : List ℕ) (s k : ℕ) (answer : Result X Y) (a b : Recorded) : Type 0 where
  pub cells : b.watch ≡ a.watch
  pub only : OnlyProxies a.sat b.sat
  pub ok : OnOk answer (InstallsRow C s k (length C.proxies) a.sat.proxies b.sat.proxies)
  pub err : OnErr answer ((p : ℕ) × InstallsRow C s k p a.sat.proxies b.sat.proxies)
  pub added : OnOk answer (b.own ≡ with_installs seed s k (map Proxy (proxies_of C s)) a.own)
  pub front : OnErr answer ((rest : List Place) × InstallsFirst seed s k (map Proxy (proxies_of C s)) rest a.own b.own)
  pub room : a.room ≤ b.room + MOST_PROXIES

-- The same at pubd and then at oklogd.
pub record InstallsBoth {X Y : Type 0} (seed : List ℕ) (s k : ℕ) (answer : Result X Y) (a b : Recorded) : Type 0 where
  pub cells : b.watch ≡ a.watch
  pub rest : InstallsRest s k a.sat b.sat
  pub ok : OnOk answer (StandsRest s k b.sat)
  pub added : OnOk answer (b.own ≡ with_installs seed s k (Pubd ∷ Oklogd ∷ []) a.own)
  pub front : OnErr answer ((rest : List Place) × InstallsFirst seed s k (Pubd ∷ Oklogd ∷ []) rest a.own b.own)
  pub room : a.room ≤ b.room + 2

-- The cell of s, which was empty, is booted as incarnation k over a link that nothing was put on; or the link comes back, to which at most a front of the Boot frame was given, and from which nothing was taken.
pub record BootsCell {L : Type 0} (wire : L → Wire) (C : Config) (seed : List ℕ) (s k : ℕ) (answer : Result (Unit {0}) (Missed × L)) (a b : Recorded) : Type 0 where
  pub columns : b.sat ≡ a.sat
  pub only : OnlyAt s a.watch b.watch
  pub most : (j : ℕ) → k ≤ j → last_booted (seen_at a.watch s) ≤ j → last_booted (seen_at b.watch s) ≤ j
  pub ok : OnOk answer (incarnation (seen_at b.watch s) ≡ k)
  pub err : OnErr answer (incarnation (seen_at b.watch s) ≡ 0)
  pub behind : CellsGo a.watch b.watch
  pub added : OnOk answer (b.own ≡ own.Boot s k ∷ a.own)
  pub kept : OnErr answer (b.own ≡ a.own)
  pub linked : OnOk answer (link_at b.watch s ≡ true)
  pub unlinked : OnErr answer (link_at b.watch s ≡ false)
  pub out : link_at a.watch s ≡ false → (n : ℕ) → all_out b.watch n ≤ all_out a.watch n
  pub last : OnOk answer (last_booted (seen_at b.watch s) ≡ k)
  pub front : IfErr answer (λ e. IsFront (server_spelling (boot_frame C seed s k)) (wire e.1).given)
  pub whose : IfErr answer (λ e. (wire e.1).whose ≡ Some (child_named s k))
  pub untaken : IfErr answer (λ e. Consumes (wire e.1).came (wire e.1).left [])
  pub cause : IfErr answer (λ e. e.0 ≡ missed.Failed → 0 < (wire e.1).faults)
  pub room : a.room ≤ b.room + 1

-- The same answer, whose link is this one.
abbrev pub IsBare : {L : Type 0} → (L → Wire) → Result (Unit {0}) (Missed × Wire) → Result (Unit {0}) (Missed × L) → Type 0
IsBare wire (Ok u) (Ok v) = Unit {0}
IsBare wire (Ok u) (Err e) = ⊥
IsBare wire (Err d) (Ok v) = ⊥
IsBare wire (Err d) (Err e) = (e.0 ≡ d.0) × (wire e.1 ≡ d.1)
