-- Items of a worker's list that are its entries at the launcher.
use Rattle.std.proofs.Common.{◌≡◌, ℕ, Bool, true, false, List, [], ◌∷◌, ◌++◌, map, refl, sym, ap, eq-eqb}
use Rattle.std.proofs.lemmas.Bool.{true≢false}
use Rattle.std.specs.Prelude.{filter, filter_map, None}
use Rattle.std.specs.List.{list_all, list_any}
use Rattle.std.specs.declared.option.Option.{Option}
use Rattle.okws_base.specs.Past.{events_of}
use Rattle.okws_base.specs.declared.journal.Entry.{Entry}
use Rattle.okws_plan.specs.declared.event.LauncherEvent.{LauncherEvent}
use Rattle.okws_plan.specs.declared.event.LauncherEvent.TheVariants as launcher
use Rattle.monitor_model.specs.declared.record.Own.{Own}
use Rattle.monitor_model.specs.declared.record.Own.TheVariants as own
use Rattle.monitor_model.specs.Merged.{launcher_item}
use Rattle.okld_launch.specs.Entering.{entries_of}
use Rattle.worker_lives.proofs.Found.{both_true}
use Rattle.round_lives.proofs.Entered.{is_asked, is_crashed}
use Rattle.site_run.specs.Tied.{is_launch_event, is_launching}

-- ---- what takes no launch

module _ {A : Type 0} (f : Own → Option A) (event : (e : LauncherEvent) → f (own.Launcher e) ≡ None) (want : f own.NoMemory ≡ None) where
  -- takes nothing of a list of launches
  pub none_taken : (items : List Own) → list_all is_launching items ≡ true → filter_map f items ≡ []
  none_taken [] h = refl
  none_taken (own.Launcher e ∷ items) h = rw (event e) (none_taken items (both_true (is_launch_event e) (list_all is_launching items) h).1)
  none_taken (own.NoMemory ∷ items) h = rw want (none_taken items h)
  none_taken (own.Okd e ∷ items) h = absurd (true≢false (sym h))
  none_taken (own.Proxy p e ∷ items) h = absurd (true≢false (sym h))
  none_taken (own.Pubd e ∷ items) h = absurd (true≢false (sym h))
  none_taken (own.Oklogd e ∷ items) h = absurd (true≢false (sym h))
  none_taken (own.Dialog s ∷ items) h = absurd (true≢false (sym h))
  none_taken (own.Missed s k is ∷ items) h = absurd (true≢false (sym h))
  none_taken (own.Boot s k ∷ items) h = absurd (true≢false (sym h))
  none_taken (own.Retired s ∷ items) h = absurd (true≢false (sym h))

  -- nor of launches before a list
  pub rest_taken : (events : List LauncherEvent) (items : List Own) → filter_map f (map own.Launcher events ++ items) ≡ filter_map f items
  rest_taken [] items = refl
  rest_taken (e ∷ events) items = rw (event e) (rest_taken events items)

-- what is true of no launch holds of nothing in a list of launches
module _ (p : Own → Bool) (event : (e : LauncherEvent) → p (own.Launcher e) ≡ false) (want : p own.NoMemory ≡ false) where
  pub none_held : (items : List Own) → list_all is_launching items ≡ true → filter p items ≡ []
  none_held [] h = refl
  none_held (own.Launcher e ∷ items) h = rw (event e) (none_held items (both_true (is_launch_event e) (list_all is_launching items) h).1)
  none_held (own.NoMemory ∷ items) h = rw want (none_held items h)
  none_held (own.Okd e ∷ items) h = absurd (true≢false (sym h))
  none_held (own.Proxy q e ∷ items) h = absurd (true≢false (sym h))
  none_held (own.Pubd e ∷ items) h = absurd (true≢false (sym h))
  none_held (own.Oklogd e ∷ items) h = absurd (true≢false (sym h))
  none_held (own.Dialog s ∷ items) h = absurd (true≢false (sym h))
  none_held (own.Missed s k is ∷ items) h = absurd (true≢false (sym h))
  none_held (own.Boot s k ∷ items) h = absurd (true≢false (sym h))
  none_held (own.Retired s ∷ items) h = absurd (true≢false (sym h))

  pub rest_held : (events : List LauncherEvent) (items : List Own) → filter p (map own.Launcher events ++ items) ≡ filter p items
  rest_held [] items = refl
  rest_held (e ∷ events) items = rw (event e) (rest_held events items)

-- ---- the launches themselves

pub launches_taken : (events : List LauncherEvent) (items : List Own) → filter_map launcher_item (map own.Launcher events ++ items) ≡ events ++ filter_map launcher_item items
launches_taken [] items = refl
launches_taken (e ∷ events) items = ap (λ (l : List LauncherEvent). e ∷ l) (launches_taken events items)

pub entries_own : (w n : ℕ) (events : List LauncherEvent) (J : List (Entry LauncherEvent)) → n ≡ w → events_of w (entries_of n events ++ J) ≡ events ++ events_of w J
entries_own w n [] J is = refl
entries_own w n (e ∷ events) J is = rw (eq-eqb n w is) (ap (λ (l : List LauncherEvent). e ∷ l) (entries_own w n events J is))

-- launches alone, after launches alone
pub all_launching : (events : List LauncherEvent) (items : List Own) → list_any is_asked events ≡ false → list_any is_crashed events ≡ false → list_all is_launching items ≡ true → list_all is_launching (map own.Launcher events ++ items) ≡ true
all_launching [] items unasked calm h = h
all_launching (launcher.Begun s k ∷ events) items unasked calm h = all_launching events items unasked calm h
all_launching (launcher.Failed s k ∷ events) items unasked calm h = all_launching events items unasked calm h
all_launching (launcher.Dead s n ∷ events) items unasked calm h = all_launching events items unasked calm h
all_launching (launcher.Crashed s k ∷ events) items unasked calm h = absurd (true≢false calm)
all_launching (launcher.Asked s ∷ events) items unasked calm h = absurd (true≢false unasked)
