-- What a run leaves of its log's sink and of its keepers.
use Rattle.std.specs.Prelude.{◌≡◌, ◌≤◌, ℕ, suc, Bool, List, [], ◌∷◌, true, false, IfSome, is_some}
use Rattle.std.specs.declared.option.Option.{Option}
use Rattle.okws_base.specs.declared.journal.Entry.{Entry}
use Rattle.okws_plan.specs.declared.configuration.Config.{Config}
use Rattle.okws_plan.specs.Configuration.{tables}
use Rattle.okws_plan.specs.declared.event.LogEvent.{LogEvent}
use Rattle.okws_plan.specs.declared.event.ProxyEvent.{ProxyEvent}
use Rattle.okws_outer.specs.Streams.{counted, Rose}
use Rattle.monitor_model.specs.Columns.{faults}
use Rattle.monitor_model.specs.Logd.{log_text}
use Rattle.monitor_model.specs.Proxy.{rows}
use Rattle.log_daemon.specs.Seen.{IsFront}
use Rattle.site_making.specs.Keepers.{KeeperIs}

-- The log's sink was given the text of oklogd's journal; or a front of it, exactly where its count of faults rose.
pub record WritesLog (C : Config) (J : List (Entry LogEvent)) (given : Option (List ℕ)) (before after : ℕ) (failed : Bool) : Type 0 where
  pub front : IfSome given (λ text. IsFront text (log_text C J))
  pub whole : failed ≡ false → IfSome given (λ text. text ≡ log_text C J)
  pub cause : failed ≡ true → Rose before after
  pub still : failed ≡ false → after ≡ before
  pub later : before ≤ after

-- A keeper of proxy p, whose journal this is, in a run in which keepers tell their rows where `tells` says so, in which no call of a keeper fails where `steady` says so, and which began when the keeper's count was `first`: it has the proxy's tables, and its rows are those of the journal; at most as many Calls were marked Fault as its count rose, and where none was it stands at `first` still.
pub record KeeperEnds (C : Config) (tells steady : Bool) (first p : ℕ) (k : KeeperIs) (J : List (Entry ProxyEvent)) : Type 0 where
  pub tables_are : k.tables ≡ tables C p
  pub tells_them : tells ≡ true → is_some k.told ≡ true
  pub rows_are : IfSome k.told (λ T. T ≡ rows C p J)
  pub faults_are : counted first (faults J) ≤ k.faults
  pub faultless : steady ≡ true → faults J ≡ 0
  pub still : faults J ≡ 0 → k.faults ≡ first

-- The same of the keepers of the proxies from p on.
abbrev pub AllKept : Config → Bool → Bool → (ℕ → ℕ) → ℕ → List KeeperIs → List (List (Entry ProxyEvent)) → Type 0
AllKept C tells steady first p [] [] = Unit {0}
AllKept C tells steady first p [] (J ∷ Js) = ⊥
AllKept C tells steady first p (k ∷ ks) [] = ⊥
AllKept C tells steady first p (k ∷ ks) (J ∷ Js) = KeeperEnds C tells steady (first p) p k J × AllKept C tells steady first (suc p) ks Js
