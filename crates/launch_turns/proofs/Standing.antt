-- What came up in the turns of a launcher that rests stands at okd and in its cell.
use Rattle.std.proofs.Common.{◌≡◌, ◌∙◌, ⊎_elim, ℕ, zero, suc, Bool, true, false, List, [], ◌∷◌, ◌++◌, Option, Some, None, length, take, refl, sym, subst, eq-eqb}
use Rattle.std.specs.Prelude.{◌==◌, ◌&&◌, ◌||◌, if◌then◌else◌, nat_lt, filter, filter_map, map}
use Rattle.std.specs.List.{cons_option, list_any}
use Rattle.std.proofs.lemmas.Bool.{and_parts, eqb-true, false≢true, or_cases, or_left, or_right, true≢false}
use Rattle.std.proofs.lemmas.List.Folds.{list_any-append}
use Rattle.std.proofs.lemmas.Map.Views.{any-filter_same}
use Rattle.okws_base.specs.Past.{events_of}
use Rattle.okws_base.specs.declared.journal.Entry.{Entry}
use Rattle.okws_plan.specs.Configuration.{cols}
use Rattle.okws_plan.specs.declared.configuration.Config.{Config}
use Rattle.okws_plan.specs.declared.event.LauncherEvent.{LauncherEvent}
use Rattle.okws_plan.specs.declared.event.LauncherEvent.TheVariants as event
use Rattle.okws_plan.specs.declared.event.OkdEvent.{OkdEvent}
use Rattle.okws_plan.specs.declared.event.OkdEvent.TheVariants as okd
use Rattle.okws_plan.specs.declared.event.ProxyEvent.TheVariants as proxy
use Rattle.okws_plan.specs.declared.script.Place.{Place}
use Rattle.monitor_model.specs.declared.record.Own.{Own}
use Rattle.monitor_model.specs.declared.record.Own.TheVariants as own
use Rattle.monitor_model.specs.declared.record.Record.{Record}
use Rattle.monitor_model.specs.Causes.{is_up_of}
use Rattle.monitor_model.specs.Launches.{Attempt, Fate, CameUp, Failed, BrokeOff, all_pieces, attempts, found_at, install_at, is_begun_of, standing_in, with_boot_if, with_cleared, with_down, with_installs, with_piece, with_revoke_pubd, with_revokes, with_revokes_from, with_standing}
use Rattle.monitor_model.specs.Merged.{is_at_cell, okd_item, proxy_item}
use Rattle.monitor_model.specs.Standing.{proxy_grant}
use Rattle.launch_crew.specs.Listed.{of_cells}
use Rattle.launch_crew.specs.Recorded.{AreOwn}
use Rattle.site_cells.specs.Row.{CellsSeen, seen_at}
use Rattle.site_locks.specs.Sat.{Sat}
use Rattle.launch_turns.specs.Deeds.{entries, up_in}
use Rattle.okld_launch.specs.Ups.{is_one, newest, ups_after}
use Rattle.okld_launch.specs.Entering.{entries_of}
use Rattle.okld_launch.specs.Kin.{is_boot}
use Rattle.okld_launch.specs.Pieces.{AreTold, IsTold, IsWhole, is_of}
use Rattle.okld_launch.proofs.Booted.{boot_there, booted_in}
use Rattle.launch_turns.specs.Standing.{BootsStand, UpsStand}
use Rattle.launch_turns.specs.declared.deed.Deed.{Deed}

-- ---- what came up was attempted

-- the newest of these events stands among the entries of a turn
one_entered : (test : LauncherEvent → Bool) (w : ℕ) (events : List LauncherEvent) → is_one test (newest events) ≡ true → list_any (λ (e : Entry LauncherEvent). test e.event) (entries_of w events) ≡ true
one_entered test w [] h = absurd (false≢true h)
one_entered test w (e ∷ events) h = or_left (test e) (list_any (λ (x : Entry LauncherEvent). test x.event) (entries_of w events)) h

begun_then : (s k : ℕ) (d : Deed) (deeds : List Deed) → (up_in deeds s k ≡ true → list_any (λ (e : Entry LauncherEvent). is_begun_of s k e.event) (entries deeds) ≡ true) → ups_after d.up d.entered (up_in deeds) s k ≡ true
    → list_any (λ (e : Entry LauncherEvent). is_begun_of s k e.event) (entries_of d.worker d.entered ++ entries deeds) ≡ true
begun_then s k d deeds before h =
    let test = λ (e : Entry LauncherEvent). is_begun_of s k e.event in
    let new = entries_of d.worker d.entered in
    list_any-append test new (entries deeds)
    ∙ ⊎_elim
    (λ now. or_left (list_any test new) (list_any test (entries deeds)) (one_entered (is_begun_of s k) d.worker d.entered (and_parts d.up (is_one (is_begun_of s k) (newest d.entered)) now).1))
    (λ old. or_right (list_any test new) (list_any test (entries deeds)) (before old))
    (or_cases (d.up && is_one (is_begun_of s k) (newest d.entered)) (up_in deeds s k) h)

begun_in : (s k : ℕ) (deeds : List Deed) → up_in deeds s k ≡ true → list_any (λ (e : Entry LauncherEvent). is_begun_of s k e.event) (entries deeds) ≡ true
begun_in s k [] h = absurd (false≢true h)
begun_in s k (d ∷ deeds) h = begun_then s k d deeds (begun_in s k deeds) h

attempted_by : (s k w : ℕ) (e : LauncherEvent) (J : List (Entry LauncherEvent)) → (list_any (λ (x : Entry LauncherEvent). is_begun_of s k x.event) J ≡ true → list_any (is_of s k) (attempts J) ≡ true)
    → (is_begun_of s k e || list_any (λ (x : Entry LauncherEvent). is_begun_of s k x.event) J) ≡ true → list_any (is_of s k) (attempts (record { worker = w; event = e } ∷ J)) ≡ true
attempted_by s k w (event.Begun t j) J before h =
    ⊎_elim (λ now. or_left ((t == s) && (j == k)) (list_any (is_of s k) (attempts J)) now) (λ old. or_right ((t == s) && (j == k)) (list_any (is_of s k) (attempts J)) (before old))
    (or_cases ((t == s) && (j == k)) (list_any (λ (x : Entry LauncherEvent). is_begun_of s k x.event) J) h)
attempted_by s k w (event.Failed t j) J before h = before h
attempted_by s k w (event.Crashed t j) J before h = before h
attempted_by s k w (event.Dead t n) J before h = before h
attempted_by s k w (event.Asked t) J before h = before h

attempted : (s k : ℕ) (J : List (Entry LauncherEvent)) → list_any (λ (e : Entry LauncherEvent). is_begun_of s k e.event) J ≡ true → list_any (is_of s k) (attempts J) ≡ true
attempted s k [] h = absurd (false≢true h)
attempted s k (e ∷ J) h = attempted_by s k e.worker e.event J (attempted s k J) h

-- ---- an item that is in a list stays there, whatever comes behind it

module _ (test : Own → Bool) where
  abbrev Has : List Own → Type 0
  Has items = list_any test items ≡ true

  one_more : (item : Own) (items : List Own) → Has items → Has (item ∷ items)
  one_more item items h = or_right (test item) (list_any test items) h

  standing_has : (item : ℕ → Own) (o : Option ℕ) (items : List Own) → Has items → Has (with_standing item o items)
  standing_has item None items h = h
  standing_has item (Some k) items h = one_more (item k) items h

  revokes_from_has : (s p n : ℕ) (items : List Own) → Has items → Has (with_revokes_from s p n items)
  revokes_from_has s p zero items h = h
  revokes_from_has s p (suc n) items h =
      let item = λ (k : ℕ). own.Proxy p (proxy.Revoke s k) in
      let stands = standing_in proxy_grant (filter_map (proxy_item p) items) s in
      revokes_from_has s (suc p) n (with_standing item stands items) (standing_has item stands items h)

  revokes_has : (C : Config) (s : ℕ) (items : List Own) → Has items → Has (with_revokes C s items)
  revokes_has C s items h =
      let first = with_revokes_from s 0 (length C.proxies) items in
      standing_has _ _ (with_revoke_pubd s first) (standing_has _ _ first (revokes_from_has s 0 (length C.proxies) items h))

  where_has : (b : Bool) (item : Own) (items : List Own) → Has items → Has (if b then items else item ∷ items)
  where_has true item items h = h
  where_has false item items h = one_more item items h

  cleared_has : (C : Config) (R : Record) (s : ℕ) (items : List Own) → Has items → Has (with_cleared C R s items)
  cleared_has C R s items h =
      let down = with_down s items in
      let revoked = with_revokes C s down in
      where_has (found_at R s revoked == 0) (own.Retired s) revoked (revokes_has C s down (standing_has _ _ items h))

  installs_has : (seed : List ℕ) (s k : ℕ) (places : List Place) (items : List Own) → Has items → Has (with_installs seed s k places items)
  installs_has seed s k [] items h = h
  installs_has seed s k (at ∷ places) items h = installs_has seed s k places (install_at seed s k at ∷ items) (one_more (install_at seed s k at) items h)

  boot_has : (b : Bool) (s k : ℕ) (items : List Own) → Has items → Has (with_boot_if b s k items)
  boot_has true s k items h = one_more (own.Boot s k) items h
  boot_has false s k items h = h

  module _ (C : Config) (seed : List ℕ) (R : Record) where
    piece_has : (s k : ℕ) (fate : Fate) (items : List Own) → Has items → Has (with_piece C seed R s k fate items)
    piece_has s k CameUp items h =
        let first = with_installs seed s k (cols C s) (with_cleared C R s items) in
        one_more (own.Okd (okd.Up s k)) (own.Boot s k ∷ first) (one_more (own.Boot s k) first (installs_has seed s k (cols C s) (with_cleared C R s items) (cleared_has C R s items h)))
    piece_has s k Failed items h = installs_has seed s k (cols C s) (with_cleared C R s items) (cleared_has C R s items h)
    piece_has s k (BrokeOff n) items h =
        let first = with_installs seed s k (take n (cols C s)) (with_cleared C R s items) in
        revokes_has C s (with_boot_if (nat_lt (length (cols C s)) n) s k first)
        (boot_has (nat_lt (length (cols C s)) n) s k first (installs_has seed s k (take n (cols C s)) (with_cleared C R s items) (cleared_has C R s items h)))

    -- the piece of an incarnation that came up has the item
    module _ (up : ℕ → ℕ → Bool) (J : List (Entry LauncherEvent)) (s k : ℕ) (came : up s k ≡ true) (tells : (items : List Own) → Has (with_piece C seed R s k CameUp items)) where
      one_came : (a : Attempt) (fate : Fate) (items : List Own) → IsTold up J a fate → a.service ≡ s → a.incarnation ≡ k → Has (with_piece C seed R a.service a.incarnation fate items)
      one_came a CameUp items told at is = subst (λ (x : ℕ × ℕ). Has (with_piece C seed R x.0 x.1 CameUp items)) (λ i. (sym at i, sym is i)) (tells items)
      one_came a Failed items told at is = absurd (true≢false (sym came ∙ (λ i. up (sym at i) (sym is i)) ∙ told.0))
      one_came a (BrokeOff n) items told at is = absurd (true≢false (sym came ∙ (λ i. up (sym at i) (sym is i)) ∙ told.0))

      pieces_have : (made : List Attempt) (fates : List Fate) → AreTold up J made fates → list_any (is_of s k) made ≡ true → Has (all_pieces C seed R made fates)
      pieces_have [] fates told h = absurd (false≢true h)
      pieces_have (a ∷ more) [] told h = absurd told
      pieces_have (a ∷ more) (fate ∷ fates) told h =
          let items = all_pieces C seed R more fates in
          ⊎_elim
          (λ now. let both = and_parts (a.service == s) (a.incarnation == k) now in one_came a fate items told.0 (eqb-true a.service s both.0) (eqb-true a.incarnation k both.1))
          (λ old. piece_has a.service a.incarnation fate items (pieces_have more fates told.1 old))
          (or_cases (is_of s k a) (list_any (is_of s k) more) h)

-- ---- what the list has, the columns and the cells have

abbrev is_in : {X : Type 0} → (X → Bool) → Option X → Bool
is_in test None = false
is_in test (Some x) = test x

cons_any : {X : Type 0} (test : X → Bool) (o : Option X) (xs : List X) → (is_in test o || list_any test xs) ≡ true → list_any test (cons_option o xs) ≡ true
cons_any test None xs h = h
cons_any test (Some x) xs h = h

told_by : {X Y : Type 0} (test : Y → Bool) (f : X → Option Y) (x : X) (xs : List X) → (list_any (λ (y : X). is_in test (f y)) xs ≡ true → list_any test (filter_map f xs) ≡ true)
    → (is_in test (f x) || list_any (λ (y : X). is_in test (f y)) xs) ≡ true → list_any test (cons_option (f x) (filter_map f xs)) ≡ true
told_by {X} test f x xs before h = cons_any test (f x) (filter_map f xs)
    (⊎_elim (λ now. or_left (is_in test (f x)) (list_any test (filter_map f xs)) now) (λ old. or_right (is_in test (f x)) (list_any test (filter_map f xs)) (before old)) (or_cases (is_in test (f x)) (list_any (λ (y : X). is_in test (f y)) xs) h))

any_told : {X Y : Type 0} (test : Y → Bool) (f : X → Option Y) (xs : List X) → list_any (λ (x : X). is_in test (f x)) xs ≡ true → list_any test (filter_map f xs) ≡ true
any_told test f [] h = absurd (false≢true h)
any_told test f (x ∷ xs) h = told_by test f x xs (any_told test f xs) h

module _ {E : Type 0} (test : E → Bool) (w : ℕ) where
  abbrev any_entry : List (Entry E) → Bool
  any_entry J = list_any (λ (e : Entry E). test e.event) J

  event_by : (b : Bool) (e : Entry E) (J : List (Entry E)) → (list_any test (events_of w J) ≡ true → any_entry J ≡ true)
      → list_any test (map (λ (x : Entry E). x.event) (if b then e ∷ filter (λ (x : Entry E). x.worker == w) J else filter (λ (x : Entry E). x.worker == w) J)) ≡ true → (test e.event || any_entry J) ≡ true
  event_by true e J before h =
      ⊎_elim (λ now. or_left (test e.event) (any_entry J) now) (λ old. or_right (test e.event) (any_entry J) (before old)) (or_cases (test e.event) (list_any test (events_of w J)) h)
  event_by false e J before h = or_right (test e.event) (any_entry J) (before h)

  events_any : (J : List (Entry E)) → list_any test (events_of w J) ≡ true → any_entry J ≡ true
  events_any [] h = absurd (false≢true h)
  events_any (e ∷ J) h = event_by (e.worker == w) e J (events_any J) h

-- ---- what came up

module _ (C : Config) (seed : List ℕ) (n : ℕ) (deeds : List Deed) (J : List (Entry LauncherEvent)) (sat : Sat) (watch : CellsSeen) (items : List Own) (are : entries deeds ≡ J) (whole : IsWhole C seed (up_in deeds) J watch.cells items) (did : AreOwn n sat watch items) where
  tried : (s k : ℕ) → up_in deeds s k ≡ true → list_any (is_of s k) (attempts J) ≡ true
  tried s k up = attempted s k J (subst (λ (K : List (Entry LauncherEvent)). list_any (λ (e : Entry LauncherEvent). is_begun_of s k e.event) K ≡ true) are (begun_in s k deeds up))

  noted : (test : Own → Bool) (s k : ℕ) → up_in deeds s k ≡ true → ((first : List Own) → list_any test (with_piece C seed (of_cells watch.cells) s k CameUp first) ≡ true) → list_any test items ≡ true
  noted test s k up tells = subst (λ (xs : List Own). list_any test xs ≡ true) (sym whole.list_is) (pieces_have test C seed (of_cells watch.cells) (up_in deeds) J s k up tells (attempts J) whole.fates whole.told (tried s k up))

  pub ups_stand : UpsStand deeds sat.okd
  ups_stand s k up =
      let test = λ (item : Own). is_in (is_up_of s k) (okd_item item) in
      let made : list_any test items ≡ true = noted test s k up (λ first.
      let rest = own.Boot s k ∷ with_installs seed s k (cols C s) (with_cleared C (of_cells watch.cells) s first) in
      or_left ((s == s) && (k == k)) (list_any test rest) (λ i. eq-eqb s s refl i && eq-eqb k k refl i)) in
      events_any (is_up_of s k) n sat.okd (subst (λ (es : List OkdEvent). list_any (is_up_of s k) es ≡ true) (sym did.okd) (any_told (is_up_of s k) okd_item items made))

  pub boots_stand : (s : ℕ) → BootsStand s deeds (seen_at watch s)
  boots_stand s k up =
      let made : list_any (is_boot s k) items ≡ true = noted (is_boot s k) s k up (λ first.
      let rest = with_installs seed s k (cols C s) (with_cleared C (of_cells watch.cells) s first) in
      or_left ((s == s) && (k == k)) (list_any (is_boot s k) rest) (λ i. eq-eqb s s refl i && eq-eqb k k refl i)) in
      booted_in n s k (seen_at watch s) (subst (λ (xs : List Own). list_any (is_boot s k) xs ≡ true) (sym (did.cells s)) (any-filter_same (is_boot s k) (is_at_cell s) true (boot_there s k) items ∙ made))
