-- By the record that a run leaves just those incarnations came up of which the turns at the launcher tell it.
use Rattle.std.proofs.Common.{◌≡◌, ◌∙◌, ⊎_elim, ℕ, zero, suc, ◌+◌, Bool, true, false, List, [], ◌∷◌, ◌++◌, Option, Some, None, filter_map, refl, sym, ap, eqb-true}
use Rattle.std.specs.Prelude.{◌==◌, ◌&&◌, ◌||◌, if◌then◌else◌, nat_lt, take, length}
use Rattle.std.specs.List.{list_all, list_any}
use Rattle.std.proofs.lemmas.Bool.{and_parts, or_cases, or_left, or_right, true≢false}
use Rattle.okws_base.specs.Past.{events_of}
use Rattle.okws_base.specs.declared.journal.Entry.{Entry}
use Rattle.okws_plan.specs.Configuration.{cols}
use Rattle.okws_plan.specs.declared.configuration.Config.{Config}
use Rattle.okws_plan.specs.declared.script.Place.{Place}
use Rattle.okws_plan.specs.declared.script.Place.TheVariants as place
use Rattle.okws_plan.specs.declared.event.LauncherEvent.{LauncherEvent}
use Rattle.okws_plan.specs.declared.event.LauncherEvent.TheVariants as event
use Rattle.okws_plan.specs.declared.event.LogEvent.TheVariants as oklogd
use Rattle.okws_plan.specs.declared.event.OkdEvent.{OkdEvent}
use Rattle.okws_plan.specs.declared.event.OkdEvent.TheVariants as okd
use Rattle.okws_plan.specs.declared.event.ProxyEvent.TheVariants as proxy
use Rattle.okws_plan.specs.declared.event.PubdEvent.TheVariants as pubd
use Rattle.monitor_model.specs.declared.record.CellEvent.{CellEvent}
use Rattle.monitor_model.specs.declared.record.Own.{Own}
use Rattle.monitor_model.specs.declared.record.Own.TheVariants as own
use Rattle.monitor_model.specs.declared.record.Record.{Record}
use Rattle.monitor_model.specs.Causes.{has_up, is_up_of}
use Rattle.monitor_model.specs.Launches.{Attempt, Fate, CameUp, Failed, BrokeOff, all_pieces, attempts, found_at, install_at, is_retired, standing_in, with_boot_if, with_cleared, with_down, with_installs, with_piece, with_retired, with_revoke_log, with_revoke_pubd, with_revokes, with_revokes_from, with_standing}
use Rattle.monitor_model.specs.Merged.{log_item, okd_item, proxy_item, pubd_item}
use Rattle.monitor_model.specs.Standing.{okd_grant, proxy_grant, pubd_grant, log_grant}
use Rattle.named_columns.specs.Launched.{LaunchedBy}
use Rattle.launch_crew.specs.Listed.{of_cells}
use Rattle.launch_turns.specs.Deeds.{entries, up_in}
use Rattle.okld_launch.specs.Pieces.{AreTold, is_of}
use Rattle.launch_turns.specs.declared.deed.Deed.{Deed}
use Rattle.site_run.specs.Pieced.{EndsWhole}
use Rattle.site_run.specs.Tied.{has_begun}
use Rattle.site_run.proofs.Caused.{ups_own}
use Rattle.site_run.proofs.Once.{up_begun}

-- ---- which items are Ups

-- the item is the Up of incarnation k of s
abbrev is_up_item : ℕ → ℕ → Own → Bool
is_up_item s k (own.Okd e) = is_up_of s k e
is_up_item s k _ = false

ups_items : (s k : ℕ) (items : List Own) → list_any (is_up_of s k) (filter_map okd_item items) ≡ list_any (is_up_item s k) items
ups_items s k [] = refl
ups_items s k (own.Okd e ∷ items) = ap (λ (b : Bool). is_up_of s k e || b) (ups_items s k items)
ups_items s k (own.Proxy p e ∷ items) = ups_items s k items
ups_items s k (own.Pubd e ∷ items) = ups_items s k items
ups_items s k (own.Oklogd e ∷ items) = ups_items s k items
ups_items s k (own.Launcher e ∷ items) = ups_items s k items
ups_items s k (own.Dialog t ∷ items) = ups_items s k items
ups_items s k (own.Missed t wanted is ∷ items) = ups_items s k items
ups_items s k (own.NoMemory ∷ items) = ups_items s k items
ups_items s k (own.Boot t j ∷ items) = ups_items s k items
ups_items s k (own.Retired t ∷ items) = ups_items s k items

module _ (s k : ℕ) where
  abbrev ups : List Own → Bool
  ups items = list_any (is_up_item s k) items

  standing_none : (item : ℕ → Own) → ((j : ℕ) → is_up_item s k (item j) ≡ false) → (o : Option ℕ) (items : List Own) → ups (with_standing item o items) ≡ ups items
  standing_none item none None items = refl
  standing_none item none (Some j) items = ap (λ (b : Bool). b || ups items) (none j)

  down_none : (t : ℕ) (items : List Own) → ups (with_down t items) ≡ ups items
  down_none t items = standing_none (λ (j : ℕ). own.Okd (okd.Down t j)) (λ j. refl) (standing_in okd_grant (filter_map okd_item items) t) items

  revokes_none : (t p n : ℕ) (items : List Own) → ups (with_revokes_from t p n items) ≡ ups items
  revokes_none t p zero items = refl
  revokes_none t p (suc n) items =
      revokes_none t (suc p) n (with_standing (λ (j : ℕ). own.Proxy p (proxy.Revoke t j)) (standing_in proxy_grant (filter_map (proxy_item p) items) t) items)
      ∙ standing_none (λ (j : ℕ). own.Proxy p (proxy.Revoke t j)) (λ j. refl) (standing_in proxy_grant (filter_map (proxy_item p) items) t) items

  pubd_none : (t : ℕ) (items : List Own) → ups (with_revoke_pubd t items) ≡ ups items
  pubd_none t items = standing_none (λ (j : ℕ). own.Pubd (pubd.Revoke t j)) (λ j. refl) (standing_in pubd_grant (filter_map pubd_item items) t) items

  log_none : (t : ℕ) (items : List Own) → ups (with_revoke_log t items) ≡ ups items
  log_none t items = standing_none (λ (j : ℕ). own.Oklogd (oklogd.Revoke t j)) (λ j. refl) (standing_in log_grant (filter_map log_item items) t) items

  all_none : (C : Config) (t : ℕ) (items : List Own) → ups (with_revokes C t items) ≡ ups items
  all_none C t items =
      log_none t (with_revoke_pubd t (with_revokes_from t 0 (length C.proxies) items))
      ∙ (pubd_none t (with_revokes_from t 0 (length C.proxies) items) ∙ revokes_none t 0 (length C.proxies) items)

  retired_none : (R : Record) (t : ℕ) (items : List Own) → ups (with_retired R t items) ≡ ups items
  retired_none R t items = at (found_at R t items == 0)
    where
      at : (b : Bool) → ups (if b then items else own.Retired t ∷ items) ≡ ups items
      at true = refl
      at false = refl

  cleared_none : (C : Config) (R : Record) (t : ℕ) (items : List Own) → ups (with_cleared C R t items) ≡ ups items
  cleared_none C R t items = retired_none R t (with_revokes C t (with_down t items)) ∙ (all_none C t (with_down t items) ∙ down_none t items)

  install_none : (seed : List ℕ) (t j : ℕ) (at : Place) → is_up_item s k (install_at seed t j at) ≡ false
  install_none seed t j (place.Proxy p) = refl
  install_none seed t j place.Pubd = refl
  install_none seed t j place.Oklogd = refl

  installs_none : (seed : List ℕ) (t j : ℕ) (places : List Place) (items : List Own) → ups (with_installs seed t j places items) ≡ ups items
  installs_none seed t j [] items = refl
  installs_none seed t j (at ∷ places) items = installs_none seed t j places (install_at seed t j at ∷ items) ∙ ap (λ (b : Bool). b || ups items) (install_none seed t j at)

  boot_none : (b : Bool) (t j : ℕ) (items : List Own) → ups (with_boot_if b t j items) ≡ ups items
  boot_none true t j items = refl
  boot_none false t j items = refl

-- ---- which pieces have them

-- the attempt came up
abbrev came : Fate → Bool
came CameUp = true
came Failed = false
came (BrokeOff n) = false

-- one of these attempts is of incarnation k of s, and came up
abbrev came_of : ℕ → ℕ → List Attempt → List Fate → Bool
came_of s k [] fates = false
came_of s k (a ∷ more) [] = false
came_of s k (a ∷ more) (fate ∷ fates) = (came fate && is_of s k a) || came_of s k more fates

piece_ups : (s k : ℕ) (C : Config) (seed : List ℕ) (R : Record) (a : Attempt) (fate : Fate) (items : List Own) → ups s k (with_piece C seed R a.service a.incarnation fate items) ≡ ((came fate && is_of s k a) || ups s k items)
piece_ups s k C seed R a CameUp items =
    ap (λ (b : Bool). is_of s k a || b) (installs_none s k seed a.service a.incarnation (cols C a.service) (with_cleared C R a.service items) ∙ cleared_none s k C R a.service items)
piece_ups s k C seed R a Failed items = installs_none s k seed a.service a.incarnation (cols C a.service) (with_cleared C R a.service items) ∙ cleared_none s k C R a.service items
piece_ups s k C seed R a (BrokeOff n) items =
    let t = a.service in
    let before = with_cleared C R t items in
    let installed = with_installs seed t a.incarnation (take n (cols C t)) before in
    all_none s k C t (with_boot_if (nat_lt (length (cols C t)) n) t a.incarnation installed)
    ∙ (boot_none s k (nat_lt (length (cols C t)) n) t a.incarnation installed ∙ (installs_none s k seed t a.incarnation (take n (cols C t)) before ∙ cleared_none s k C R t items))

pieces_ups : (s k : ℕ) (C : Config) (seed : List ℕ) (R : Record) (more : List Attempt) (fates : List Fate) → ups s k (all_pieces C seed R more fates) ≡ came_of s k more fates
pieces_ups s k C seed R [] fates = refl
pieces_ups s k C seed R (a ∷ more) [] = refl
pieces_ups s k C seed R (a ∷ more) (fate ∷ fates) =
    piece_ups s k C seed R a fate (all_pieces C seed R more fates) ∙ ap (λ (b : Bool). (came fate && is_of s k a) || b) (pieces_ups s k C seed R more fates)

ending_ups : (s k : ℕ) (ending items : List Own) → list_all is_retired ending ≡ true → ups s k (ending ++ items) ≡ ups s k items
ending_ups s k [] items h = refl
ending_ups s k (own.Retired t ∷ ending) items h = ending_ups s k ending items h
ending_ups s k (own.Okd e ∷ ending) items h = absurd (true≢false (sym h))
ending_ups s k (own.Proxy p e ∷ ending) items h = absurd (true≢false (sym h))
ending_ups s k (own.Pubd e ∷ ending) items h = absurd (true≢false (sym h))
ending_ups s k (own.Oklogd e ∷ ending) items h = absurd (true≢false (sym h))
ending_ups s k (own.Launcher e ∷ ending) items h = absurd (true≢false (sym h))
ending_ups s k (own.Dialog t ∷ ending) items h = absurd (true≢false (sym h))
ending_ups s k (own.Missed t wanted is ∷ ending) items h = absurd (true≢false (sym h))
ending_ups s k (own.NoMemory ∷ ending) items h = absurd (true≢false (sym h))
ending_ups s k (own.Boot t j ∷ ending) items h = absurd (true≢false (sym h))

-- ---- which attempts came up

module _ (up : ℕ → ℕ → Bool) (J : List (Entry LauncherEvent)) (s k : ℕ) where
  -- it is told so
  same_up : (a : Attempt) → is_of s k a ≡ true → up s k ≡ up a.service a.incarnation
  same_up a is =
      let both = and_parts (a.service == s) (a.incarnation == k) is in
      sym (ap (λ (t : ℕ). up t a.incarnation) (eqb-true a.service s both.0) ∙ ap (up s) (eqb-true a.incarnation k both.1))

  came_told : (more : List Attempt) (fates : List Fate) → AreTold up J more fates → came_of s k more fates ≡ true → up s k ≡ true
  came_told [] fates told h = absurd (true≢false (sym h))
  came_told (a ∷ more) [] told h = absurd told
  came_told (a ∷ more) (CameUp ∷ fates) told h = ⊎_elim
      (λ (here : is_of s k a ≡ true). same_up a here ∙ told.0.0)
      (λ (later : came_of s k more fates ≡ true). came_told more fates told.1 later)
      (or_cases (is_of s k a) (came_of s k more fates) h)
  came_told (a ∷ more) (Failed ∷ fates) told h = came_told more fates told.1 h
  came_told (a ∷ more) (BrokeOff n ∷ fates) told h = came_told more fates told.1 h

  -- of those that were begun
  told_came : (more : List Attempt) (fates : List Fate) → AreTold up J more fates → up s k ≡ true → list_any (is_of s k) more ≡ true → came_of s k more fates ≡ true
  told_came [] fates told came h = absurd (true≢false (sym h))
  told_came (a ∷ more) [] told came h = absurd told
  told_came (a ∷ more) (CameUp ∷ fates) told came h = ⊎_elim
      (λ (here : is_of s k a ≡ true). or_left (is_of s k a) (came_of s k more fates) here)
      (λ (later : list_any (is_of s k) more ≡ true). or_right (is_of s k a) (came_of s k more fates) (told_came more fates told.1 came later))
      (or_cases (is_of s k a) (list_any (is_of s k) more) h)
  told_came (a ∷ more) (Failed ∷ fates) told came h = ⊎_elim
      (λ (here : is_of s k a ≡ true). absurd (true≢false (sym came ∙ (same_up a here ∙ told.0.0))))
      (λ (later : list_any (is_of s k) more ≡ true). told_came more fates told.1 came later)
      (or_cases (is_of s k a) (list_any (is_of s k) more) h)
  told_came (a ∷ more) (BrokeOff n ∷ fates) told came h = ⊎_elim
      (λ (here : is_of s k a ≡ true). absurd (true≢false (sym came ∙ (same_up a here ∙ told.0.0))))
      (λ (later : list_any (is_of s k) more ≡ true). told_came more fates told.1 came later)
      (or_cases (is_of s k a) (list_any (is_of s k) more) h)

-- what was begun was attempted
attempted : (s k : ℕ) (J : List (Entry LauncherEvent)) → list_any (is_of s k) (attempts J) ≡ has_begun J s k
attempted s k [] = refl
attempted s k (e ∷ J) = by e.event (attempted s k J)
  where
    by : (v : LauncherEvent) → list_any (is_of s k) (attempts J) ≡ has_begun J s k → list_any (is_of s k) (attempts (record { worker = e.worker; event = v } ∷ J)) ≡ has_begun (record { worker = e.worker; event = v } ∷ J) s k
    by (event.Begun t j) rest = ap (λ (b : Bool). ((t == s) && (j == k)) || b) rest
    by (event.Failed t j) rest = rest
    by (event.Crashed t j) rest = rest
    by (event.Dead t n) rest = rest
    by (event.Asked t) rest = rest

-- ---- by the record

same_truth : (a b : Bool) → (a ≡ true → b ≡ true) → (b ≡ true → a ≡ true) → a ≡ b
same_truth true b f g = sym (f refl)
same_truth false true f g = g refl
same_truth false false f g = refl

pub came_as_told : (C : Config) (seed : List ℕ) (n : ℕ) (R : Record) (deeds : List Deed) (cells : List (List CellEvent)) → R.launcher ≡ entries deeds → EndsWhole C seed (up_in deeds) R.launcher cells R.launches
    → events_of n R.okd ≡ filter_map okd_item R.launches → LaunchedBy okd_grant n R.okd → (s k : ℕ) → has_up R s k ≡ up_in deeds s k
came_as_told C seed n R deeds cells past_is h made launched s k =
    let w = h.whole in
    let all = attempts R.launcher in
    let listed : has_up R s k ≡ came_of s k all w.fates
    = ups_own n s k R.okd launched ∙ (ap (λ (es : List OkdEvent). list_any (is_up_of s k) es) made ∙ (ups_items s k R.launches ∙ (ap (ups s k) h.ends.own_is ∙ (ending_ups s k h.ends.ending h.before h.ends.ends.retireds
    ∙ (ap (ups s k) w.list_is ∙ pieces_ups s k C seed (of_cells cells) all w.fates))))) in
    listed ∙ same_truth (came_of s k all w.fates) (up_in deeds s k) (came_told (up_in deeds) R.launcher s k all w.fates w.told)
    (λ up. told_came (up_in deeds) R.launcher s k all w.fates w.told up (attempted s k R.launcher ∙ (ap (λ (J : List (Entry LauncherEvent)). has_begun J s k) past_is ∙ up_begun s k deeds up)))
