-- How the launches of a run went by its record, and that each launch and each crash has its cause and its consequence.
use Rattle.std.proofs.Common.{◌≡◌, ◌∙◌, ⊎_elim, ◌<◌, ◌≤◌, ◌+◌, ℕ, Bool, true, false, cond, List, [], ◌∷◌, ◌++◌, length, filter_map, refl, sym, ap, subst, arith, eq-eqb}
use Rattle.std.proofs.lemmas.Bool.{and_from, cases_lt, or_cases, or_left, or_right, true≢false}
use Rattle.std.specs.Prelude.{◌⊎◌, ◌==◌, ◌&&◌, ◌||◌, None, filter, map}
use Rattle.std.specs.List.{list_any}
use mathlib.Core.Logic.{dite}
use native.Mathlib.Decide.{ℕ_discrete}
use Rattle.okws_base.specs.Past.{events_of}
use Rattle.okws_base.specs.Turns.{of}
use Rattle.okws_base.specs.declared.journal.Entry.{Entry}
use Rattle.okws_plan.specs.declared.configuration.Config.{Config}
use Rattle.okws_plan.specs.declared.event.LauncherEvent.{LauncherEvent}
use Rattle.okws_plan.specs.declared.event.LauncherEvent.TheVariants as event
use Rattle.monitor_model.specs.declared.record.Own.{Own}
use Rattle.monitor_model.specs.declared.record.Own.TheVariants as own
use Rattle.monitor_model.specs.declared.record.Record.{Record}
use Rattle.monitor_model.specs.Causes.{LaunchesHaveCauses, all_lead_on, all_were_caused, crashes_are_told, crashes_were, has_up}
use Rattle.monitor_model.specs.Launches.{AreFates, Attempt, Fate, CameUp, Failed, BrokeOff, IsEnding, IsFate, all_pieces, attempts, is_begun_item, is_begun_of, is_failed_of, is_want, item_after_begun}
use Rattle.monitor_model.specs.Merged.{launcher_item, list_of}
use Rattle.monitor_model.specs.Outside.{Outside}
use Rattle.monitor_model.specs.Pieces.{is_accept_item, is_ordered, worker_list}
use Rattle.named_columns.specs.Launched.{by_entry}
use Rattle.okld_launch.specs.Pieces.{AreTold, IsTold}
use Rattle.worker_lives.specs.Ending.{is_failed_item, launches_end}
use Rattle.worker_lives.proofs.Endings.{beguns_ended}
use Rattle.site_run.proofs.Leaving.{none_of}
use Rattle.site_run.specs.Pieced.{LaunchesAreWhole}
use Rattle.okws_serve.specs.Lived.{ListIsPieces, TellsEnds}
use Rattle.okws_serve.proofs.Whole.{each_from, list_is}

-- ---- events of a list

begun_taken : (s k : ℕ) (items : List Own) → list_any (is_begun_item s k) items ≡ list_any (is_begun_of s k) (filter_map launcher_item items)
begun_taken s k [] = refl
begun_taken s k (own.Launcher e ∷ items) = ap (λ (b : Bool). is_begun_of s k e || b) (begun_taken s k items)
begun_taken s k (own.Okd e ∷ items) = begun_taken s k items
begun_taken s k (own.Proxy p e ∷ items) = begun_taken s k items
begun_taken s k (own.Pubd e ∷ items) = begun_taken s k items
begun_taken s k (own.Oklogd e ∷ items) = begun_taken s k items
begun_taken s k (own.Dialog t ∷ items) = begun_taken s k items
begun_taken s k (own.Missed t wanted is ∷ items) = begun_taken s k items
begun_taken s k (own.NoMemory ∷ items) = begun_taken s k items
begun_taken s k (own.Boot t j ∷ items) = begun_taken s k items
begun_taken s k (own.Retired t ∷ items) = begun_taken s k items

failed_taken : (s k : ℕ) (items : List Own) → list_any (is_failed_item s k) items ≡ list_any (is_failed_of s k) (filter_map launcher_item items)
failed_taken s k [] = refl
failed_taken s k (own.Launcher e ∷ items) = ap (λ (b : Bool). is_failed_of s k e || b) (failed_taken s k items)
failed_taken s k (own.Okd e ∷ items) = failed_taken s k items
failed_taken s k (own.Proxy p e ∷ items) = failed_taken s k items
failed_taken s k (own.Pubd e ∷ items) = failed_taken s k items
failed_taken s k (own.Oklogd e ∷ items) = failed_taken s k items
failed_taken s k (own.Dialog t ∷ items) = failed_taken s k items
failed_taken s k (own.Missed t wanted is ∷ items) = failed_taken s k items
failed_taken s k (own.NoMemory ∷ items) = failed_taken s k items
failed_taken s k (own.Boot t j ∷ items) = failed_taken s k items
failed_taken s k (own.Retired t ∷ items) = failed_taken s k items

-- ---- events of a journal

-- what one number entered was entered
any_entered : (p : LauncherEvent → Bool) (w : ℕ) (J : List (Entry LauncherEvent)) → list_any p (events_of w J) ≡ true → list_any (λ (e : Entry LauncherEvent). p e.event) J ≡ true
any_entered p w [] h = h
any_entered p w (e ∷ J) h = at (e.worker == w) (any_entered p w J) h
  where
    rest : List (Entry LauncherEvent)
    rest = filter (λ (x : Entry LauncherEvent). x.worker == w) J

    all : Bool
    all = list_any (λ (x : Entry LauncherEvent). p x.event) J

    at : (b : Bool) → (list_any p (events_of w J) ≡ true → all ≡ true) → list_any p (map (λ (x : Entry LauncherEvent). x.event) (cond b (e ∷ rest) rest)) ≡ true → (p e.event || all) ≡ true
    at true later h = ⊎_elim (λ (here : p e.event ≡ true). or_left (p e.event) all here) (λ (behind : list_any p (events_of w J) ≡ true). or_right (p e.event) all (later behind)) (or_cases (p e.event) (list_any p (events_of w J)) h)
    at false later h = or_right (p e.event) all (later h)

-- who began each of these attempts entered its Begun
abbrev AllBegun : List (Entry LauncherEvent) → List Attempt → Type 0
AllBegun J [] = Unit {0}
AllBegun J (a ∷ more) = (list_any (is_begun_of a.service a.incarnation) (events_of a.worker J) ≡ true) × AllBegun J more

entered_more : (p : LauncherEvent → Bool) (w : ℕ) (e : Entry LauncherEvent) (J : List (Entry LauncherEvent)) → list_any p (events_of w J) ≡ true → list_any p (events_of w (e ∷ J)) ≡ true
entered_more p w e J h = at (e.worker == w)
  where
    rest : List (Entry LauncherEvent)
    rest = filter (λ (x : Entry LauncherEvent). x.worker == w) J

    at : (b : Bool) → list_any p (map (λ (x : Entry LauncherEvent). x.event) (cond b (e ∷ rest) rest)) ≡ true
    at true = or_right (p e.event) (list_any p (events_of w J)) h
    at false = h

begun_more : (e : Entry LauncherEvent) (J : List (Entry LauncherEvent)) (more : List Attempt) → AllBegun J more → AllBegun (e ∷ J) more
begun_more e J [] h = tt
begun_more e J (a ∷ more) h = (entered_more (is_begun_of a.service a.incarnation) a.worker e J h.0, begun_more e J more h.1)

entered_first : (w : ℕ) (v : LauncherEvent) (J : List (Entry LauncherEvent)) → events_of w (record { worker = w; event = v } ∷ J) ≡ v ∷ events_of w J
entered_first w v J = rw (eq-eqb w w refl) refl

begun_first : (w s k : ℕ) (J : List (Entry LauncherEvent)) → list_any (is_begun_of s k) (events_of w (record { worker = w; event = event.Begun s k } ∷ J)) ≡ true
begun_first w s k J =
    ap (list_any (is_begun_of s k)) (entered_first w (event.Begun s k) J)
    ∙ or_left ((s == s) && (k == k)) (list_any (is_begun_of s k) (events_of w J)) (and_from (s == s) (k == k) (eq-eqb s s refl) (eq-eqb k k refl))

all_begun : (J : List (Entry LauncherEvent)) → AllBegun J (attempts J)
all_begun [] = tt
all_begun (e ∷ J) = by e.event (all_begun J)
  where
    by : (v : LauncherEvent) → AllBegun J (attempts J) → AllBegun (record { worker = e.worker; event = v } ∷ J) (attempts (record { worker = e.worker; event = v } ∷ J))
    by (event.Begun s k) rest = (begun_first e.worker s k J, begun_more (record { worker = e.worker; event = event.Begun s k }) J (attempts J) rest)
    by (event.Failed s k) rest = begun_more (record { worker = e.worker; event = event.Failed s k }) J (attempts J) rest
    by (event.Crashed s k) rest = begun_more (record { worker = e.worker; event = event.Crashed s k }) J (attempts J) rest
    by (event.Dead s n) rest = begun_more (record { worker = e.worker; event = event.Dead s n }) J (attempts J) rest
    by (event.Asked s) rest = begun_more (record { worker = e.worker; event = event.Asked s }) J (attempts J) rest

-- ---- how each launch went

-- The launcher's list of a record has one piece for each Begun of its journal, in order, and ends with one Retired for each cell that has an incarnation. Each piece goes as its Failed stands or doesn't; it breaks off only where NoMemory is the next item of who began it.
pub record LaunchesGoSo (C : Config) (seed : List ℕ) (R : Record) : Type 0 where
  pub fates : List Fate
  pub ending : List Own
  pub are_fates : AreFates R (attempts R.launcher) fates
  pub list_is : R.launches ≡ ending ++ all_pieces C seed R (attempts R.launcher) fates
  pub ends : IsEnding R (all_pieces C seed R (attempts R.launcher) fates) ending

module _ (n : ℕ) (R : Record) (many : length R.workers ≡ n) (none : (w : ℕ) → n ≤ w → of by_entry w R.launcher ≡ []) (made : (w : ℕ) → w < n → events_of w R.launcher ≡ filter_map launcher_item (list_of R w))
    (ends : (w : ℕ) → w < n → launches_end (has_up R) None (list_of R w) ≡ true) where
  -- memory was refused to one that broke off
  wanted : (w s k : ℕ) → w < n → list_any (is_begun_of s k) (events_of w R.launcher) ≡ true → has_up R s k ≡ false → list_any (λ (e : Entry LauncherEvent). is_failed_of s k e.event) R.launcher ≡ false
      → is_want (item_after_begun s k None (worker_list R w)) ≡ true
  wanted w s k less begun down fine = ⊎_elim
      (λ (failed : list_any (is_failed_item s k) (list_of R w) ≡ true).
      let entered : list_any (is_failed_of s k) (events_of w R.launcher) ≡ true = ap (list_any (is_failed_of s k)) (made w less) ∙ (sym (failed_taken s k (list_of R w)) ∙ failed) in
      absurd (true≢false (sym (any_entered (is_failed_of s k) w R.launcher entered) ∙ fine)))
      (λ (want : is_want (item_after_begun s k None (list_of R w)) ≡ true).
      subst (λ (items : List Own). is_want (item_after_begun s k None items) ≡ true) (list_is R w (subst (λ (m : ℕ). w < m) (sym many) less)) want)
      (beguns_ended (has_up R) s k (list_of R w) (ends w less) (begun_taken s k (list_of R w) ∙ (ap (list_any (is_begun_of s k)) (sym (made w less)) ∙ begun)) down)

  -- who began it is a worker
  begun_below : (w s k : ℕ) → list_any (is_begun_of s k) (events_of w R.launcher) ≡ true → w < n
  begun_below w s k begun = ⊎_elim
      (λ (less : w < n). less)
      (λ (more : n ≤ w). absurd (true≢false (sym begun ∙ ap (list_any (is_begun_of s k)) (none_of w R.launcher (none w more)))))
      (cases_lt w n)

  is_fate : (a : Attempt) (fate : Fate) → list_any (is_begun_of a.service a.incarnation) (events_of a.worker R.launcher) ≡ true → IsTold (has_up R) R.launcher a fate → IsFate R a fate
  is_fate a CameUp begun told = told.1
  is_fate a Failed begun told = told.1
  is_fate a (BrokeOff m) begun told = (told.1, wanted a.worker a.service a.incarnation (begun_below a.worker a.service a.incarnation begun) begun told.0 told.1)

  are_fates : (more : List Attempt) (fates : List Fate) → AllBegun R.launcher more → AreTold (has_up R) R.launcher more fates → AreFates R more fates
  are_fates [] [] begun told = tt
  are_fates [] (fate ∷ fates) begun told = absurd told
  are_fates (a ∷ more) [] begun told = absurd told
  are_fates (a ∷ more) (fate ∷ fates) begun told = (is_fate a fate begun.0 told.0, are_fates more fates begun.1 told.1)

  pub go_so : (C : Config) (seed : List ℕ) → LaunchesAreWhole C seed R → LaunchesGoSo C seed R
  go_so C seed h = record {
    fates = h.fates;
    ending = h.ending;
    are_fates = are_fates (attempts R.launcher) h.fates (all_begun R.launcher) h.told;
    list_is = h.list_is;
    ends = h.ends;
  }

-- ---- of all lists

-- what each worker's list says of its launches
pub lists_end : (C : Config) (R : Record) (ended : ℕ → ℕ → Bool) (doors : ℕ) → ((w : ℕ) → w < doors → ListIsPieces C R ended is_ordered w) → ListIsPieces C R ended is_accept_item doors → (w : ℕ) → w < doors + 1 → launches_end (has_up R) None (list_of R w) ≡ true
lists_end C R ended doors at console w l = dite (ℕ_discrete w doors)
    (λ is. subst (λ (k : ℕ). launches_end (has_up R) None (list_of R k) ≡ true) (sym is) console.launches)
    (λ not. (at w (omega (arith, l, not))).launches)

pub have_causes : (C : Config) (R : Record) (ended : ℕ → ℕ → Bool) (doors : ℕ) (T : Outside) → TellsEnds T ended → length R.workers ≡ doors + 1 → ((w : ℕ) → w < doors → ListIsPieces C R ended is_ordered w) → ListIsPieces C R ended is_accept_item doors
    → all_lead_on R [] R.launcher ≡ true → all_were_caused R R.launcher ≡ true → LaunchesHaveCauses T R
have_causes C R ended doors T tells many at console lead caused =
    record {
      lead = lead;
      told = each_from (λ (w : ℕ) (items : List Own). crashes_are_told R w items ≡ true) 0 R.workers [] (λ s m l e. each (crashes_are_told R) told s m l e);
      crashed = each_from (λ (w : ℕ) (items : List Own). crashes_were T R w items ≡ true) 0 R.workers [] (λ s m l e. each (crashes_were T R) crashed s m l e);
      caused = caused;
    }
  where
    here : (s m : ℕ) → m ≡ s + 0 → m ≡ s
    here s m e = omega (arith, e)

    -- what holds of each list by its number
    each : (P : ℕ → List Own → Bool) → ((w : ℕ) → w < length R.workers → P w (list_of R w) ≡ true) → (s m : ℕ) → s < length R.workers → m ≡ s + 0 → P m (worker_list R s) ≡ true
    each P all s m l e = subst (λ (w : ℕ). P w (worker_list R s) ≡ true) (sym (here s m e)) (subst (λ (items : List Own). P s items ≡ true) (list_is R s l) (all s l))

    below : (w : ℕ) → w < length R.workers → (w ≡ doors → ⊥) → w < doors
    below w l not = omega (arith, l, many, not)

    told : (w : ℕ) → w < length R.workers → crashes_are_told R w (list_of R w) ≡ true
    told w l = dite (ℕ_discrete w doors)
        (λ is. subst (λ (k : ℕ). crashes_are_told R k (list_of R k) ≡ true) (sym is) console.told)
        (λ not. (at w (below w l not)).told)

    crashed : (w : ℕ) → w < length R.workers → crashes_were T R w (list_of R w) ≡ true
    crashed w l = dite (ℕ_discrete w doors)
        (λ is. subst (λ (k : ℕ). crashes_were T R k (list_of R k) ≡ true) (sym is) (console.crashed T tells))
        (λ not. (at w (below w l not)).crashed T tells)
