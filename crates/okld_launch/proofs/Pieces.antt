-- Each step of a launch leaves the launcher's list made of whole pieces, or of these and an attempt under way.
use Rattle.std.proofs.Common.{◌≡◌, ◌≢◌, ◌∙◌, ⊎_elim, ℕ, suc, ◌+◌, ◌<◌, ◌≤◌, Bool, true, false, List, [], ◌∷◌, ◌++◌, Option, Some, None, length, take, refl, sym, ap, subst, arith, eq-eqb, ne_eqb}
use Rattle.std.specs.Prelude.{◌==◌, ◌&&◌, ◌||◌, max, if◌then◌else◌, nat_lt}
use Rattle.std.specs.List.{list_any}
use Rattle.std.proofs.Math.Bool.{and-false}
use Rattle.std.proofs.lemmas.Bool.{cases_eq, lt-ltb, le-ltb, or_parts, or_from, false≢true}
use Rattle.okws_base.specs.declared.journal.Entry.{Entry}
use Rattle.okws_plan.specs.Configuration.{cols}
use Rattle.okws_plan.specs.declared.configuration.Config.{Config}
use Rattle.okws_plan.specs.declared.event.LauncherEvent.{LauncherEvent}
use Rattle.okws_plan.specs.declared.event.LauncherEvent.TheVariants as event
use Rattle.okws_plan.specs.declared.event.OkdEvent.TheVariants as okd
use Rattle.okws_plan.specs.declared.script.Place.{Place}
use Rattle.monitor_model.specs.declared.record.CellEvent.{CellEvent}
use Rattle.monitor_model.specs.declared.record.Own.{Own}
use Rattle.monitor_model.specs.declared.record.Own.TheVariants as own
use Rattle.monitor_model.specs.declared.record.Record.{Record}
use Rattle.monitor_model.specs.Launcher.{begun, begun_after}
use Rattle.monitor_model.specs.Launches.{Attempt, Fate, CameUp, Failed, BrokeOff, all_pieces, attempts, with_installs, with_boot_if, with_cleared, with_revokes}
use Rattle.launch_crew.specs.Listed.{of_cells, stepped, InstallsFirst}
use Rattle.launch_crew.proofs.Found.{Goes, Within, pieces_stay, stepped_all_stays}
use Rattle.okld_launch.specs.Pieces.{has_failed_in, IsTold, AreTold, FailedAreBegun, UpsAreBegun, with_up, IsWhole, IsUnderWay, is_of, after_steps}

-- ---- what the entries tell of the attempts

-- the same Faileds stand
abbrev SameFailed : List (Entry LauncherEvent) → List (Entry LauncherEvent) → Type 0
SameFailed J K = (s k : ℕ) → has_failed_in K s k ≡ has_failed_in J s k

told_one : (up : ℕ → ℕ → Bool) (J K : List (Entry LauncherEvent)) (a : Attempt) (fate : Fate) → has_failed_in K a.service a.incarnation ≡ has_failed_in J a.service a.incarnation → IsTold up J a fate → IsTold up K a fate
told_one up J K a CameUp same h = (h.0, same ∙ h.1)
told_one up J K a Failed same h = (h.0, same ∙ h.1)
told_one up J K a (BrokeOff n) same h = (h.0, same ∙ h.1)

told_on : (up : ℕ → ℕ → Bool) (J K : List (Entry LauncherEvent)) (made : List Attempt) (fates : List Fate) → SameFailed J K → AreTold up J made fates → AreTold up K made fates
told_on up J K [] [] same h = tt
told_on up J K [] (fate ∷ fates) same h = h
told_on up J K (a ∷ more) [] same h = h
told_on up J K (a ∷ more) (fate ∷ fates) same h = (told_one up J K a fate (same a.service a.incarnation) h.0, told_on up J K more fates same h.1)

apart_one : (s t k j : ℕ) → ((t == s) && (j == k)) ≡ false → ((s == t) && (k == j)) ≡ false
apart_one s t k j off = ⊎_elim
    (λ (is : s ≡ t). ⊎_elim
    (λ (at : k ≡ j). absurd (false≢true (sym off ∙ (λ i. (eq-eqb t s (sym is) i) && (eq-eqb j k (sym at) i)))))
    (λ (not : k ≢ j). ap (λ (b : Bool). (s == t) && b) (ne_eqb k j not) ∙ and-false (s == t))
    (cases_eq k j))
    (λ (not : s ≢ t). ap (λ (b : Bool). b && (k == j)) (ne_eqb s t not))
    (cases_eq s t)

-- where one more failed, which is none of these
told_apart : (up : ℕ → ℕ → Bool) (w s k : ℕ) (J : List (Entry LauncherEvent)) (made : List Attempt) (fates : List Fate) → list_any (is_of s k) made ≡ false → AreTold up J made fates → AreTold up (record { worker = w; event = event.Failed s k } ∷ J) made fates
told_apart up w s k J [] [] apart h = tt
told_apart up w s k J [] (fate ∷ fates) apart h = h
told_apart up w s k J (a ∷ more) [] apart h = h
told_apart up w s k J (a ∷ more) (fate ∷ fates) apart h =
    let off = or_parts (is_of s k a) (list_any (is_of s k) more) apart in
    (told_one up J (record { worker = w; event = event.Failed s k } ∷ J) a fate (ap (λ (b : Bool). b || has_failed_in J a.service a.incarnation) (apart_one s a.service k a.incarnation off.0)) h.0, told_apart up w s k J more fates off.1 h.1)

-- where one more came up, which is none of these
up_one : (up : ℕ → ℕ → Bool) (s k : ℕ) (J : List (Entry LauncherEvent)) (a : Attempt) (fate : Fate) → with_up s k up a.service a.incarnation ≡ up a.service a.incarnation → IsTold up J a fate → IsTold (with_up s k up) J a fate
up_one up s k J a CameUp same h = (same ∙ h.0, h.1)
up_one up s k J a Failed same h = (same ∙ h.0, h.1)
up_one up s k J a (BrokeOff n) same h = (same ∙ h.0, h.1)

up_apart : (up : ℕ → ℕ → Bool) (s k : ℕ) (J : List (Entry LauncherEvent)) (made : List Attempt) (fates : List Fate) → list_any (is_of s k) made ≡ false → AreTold up J made fates → AreTold (with_up s k up) J made fates
up_apart up s k J [] [] apart h = tt
up_apart up s k J [] (fate ∷ fates) apart h = h
up_apart up s k J (a ∷ more) [] apart h = h
up_apart up s k J (a ∷ more) (fate ∷ fates) apart h =
    let off = or_parts (is_of s k a) (list_any (is_of s k) more) apart in
    (up_one up s k J a fate (ap (λ (b : Bool). b || up a.service a.incarnation) (apart_one s a.service k a.incarnation off.0)) h.0, up_apart up s k J more fates off.1 h.1)

-- ---- an event that begins nothing, and says of no start that it failed

abbrev pub TellsNone : LauncherEvent → Type 0
TellsNone (event.Begun s k) = ⊥
TellsNone (event.Failed s k) = ⊥
TellsNone (event.Crashed s k) = Unit {0}
TellsNone (event.Dead s n) = Unit {0}
TellsNone (event.Asked s) = Unit {0}

module _ (C : Config) (seed : List ℕ) (J : List (Entry LauncherEvent)) (cells : List (List CellEvent)) (items : List Own) (w : ℕ) (up : ℕ → ℕ → Bool) (h : IsWhole C seed up J cells items) where
  pub whole_entered : (e : LauncherEvent) → TellsNone e → IsWhole C seed up (record { worker = w; event = e } ∷ J) cells items
  whole_entered (event.Begun s k) other = absurd other
  whole_entered (event.Failed s k) other = absurd other
  whole_entered (event.Crashed s k) other = record { fates = h.fates; told = told_on up J (record { worker = w; event = event.Crashed s k } ∷ J) (attempts J) h.fates (λ t j. refl) h.told; failed_are = h.failed_are; ups_are = h.ups_are; list_is = h.list_is }
  whole_entered (event.Dead s n) other = record { fates = h.fates; told = told_on up J (record { worker = w; event = event.Dead s n } ∷ J) (attempts J) h.fates (λ t j. refl) h.told; failed_are = h.failed_are; ups_are = h.ups_are; list_is = h.list_is }
  whole_entered (event.Asked s) other = record { fates = h.fates; told = told_on up J (record { worker = w; event = event.Asked s } ∷ J) (attempts J) h.fates (λ t j. refl) h.told; failed_are = h.failed_are; ups_are = h.ups_are; list_is = h.list_is }

-- ---- an incarnation is begun

at_least : (b : Bool) (k g : ℕ) → g ≤ (if b then max k g else g)
at_least true k g = omega arith
at_least false k g = omega arith

less_on : (a b c : ℕ) → a ≤ b → b < c → a < c
less_on a b c x y = omega (arith, x, y)

below_there : (k g j : ℕ) (b : Bool) → b ≡ true → (if b then max k g else g) < j → k ≡ j → ⊥
below_there k g j true is less same = let x : max k g < j = less in omega (arith, x, same)
below_there k g j false is less same = absurd (false≢true is)

not_begun : (t k s j g : ℕ) → (if t == s then max k g else g) < j → ((t == s) && (k == j)) ≡ false
not_begun t k s j g less = ⊎_elim
    (λ (is : t ≡ s). ap (λ (b : Bool). (t == s) && b) (ne_eqb k j (below_there k g j (t == s) (eq-eqb t s is) less)) ∙ and-false (t == s))
    (λ (not : t ≢ s). ap (λ (b : Bool). b && (k == j)) (ne_eqb t s not))
    (cases_eq t s)

-- what is above the greatest begun was not attempted
below_by : (J : List (Entry LauncherEvent)) (s k w : ℕ) (what : LauncherEvent) → (begun J s < k → list_any (is_of s k) (attempts J) ≡ false) → begun_after what s (begun J s) < k → list_any (is_of s k) (attempts (record { worker = w; event = what } ∷ J)) ≡ false
below_by J s k w (event.Begun t j) before low = or_from ((t == s) && (j == k)) (list_any (is_of s k) (attempts J)) (not_begun t j s k (begun J s) low) (before (less_on (begun J s) _ k (at_least (t == s) j (begun J s)) low))
below_by J s k w (event.Failed t j) before low = before low
below_by J s k w (event.Crashed t j) before low = before low
below_by J s k w (event.Dead t n) before low = before low
below_by J s k w (event.Asked t) before low = before low

attempts_below : (J : List (Entry LauncherEvent)) (s k : ℕ) → begun J s < k → list_any (is_of s k) (attempts J) ≡ false
attempts_below [] s k less = refl
attempts_below (e ∷ J) s k less = below_by J s k e.worker e.event (attempts_below J s k) less

above_begun : (n k : ℕ) → k ≡ n + 1 → n < k
above_begun n k is = omega (arith, is)

begun_it : (s k g : ℕ) → k ≤ (if s == s then max k g else g)
begun_it s k g = by (s == s) (eq-eqb s s refl)
  where
    by : (b : Bool) → b ≡ true → k ≤ (if b then max k g else g)
    by true is = omega arith
    by false is = absurd (false≢true is)

pub way_begun : (C : Config) (seed : List ℕ) (up : ℕ → ℕ → Bool) (J : List (Entry LauncherEvent)) (cells : List (List CellEvent)) (items : List Own) (w s k : ℕ) → k ≡ begun J s + 1 → IsWhole C seed up J cells items → IsUnderWay C seed up s k None (record { worker = w; event = event.Begun s k } ∷ J) cells items
way_begun C seed up J cells items w s k next h = record {
  worker = w;
  before = attempts J;
  fates = h.fates;
  attempts_are = refl;
  told = told_on up J (record { worker = w; event = event.Begun s k } ∷ J) (attempts J) h.fates (λ t j. refl) h.told;
  apart = attempts_below J s k (above_begun (begun J s) k next);
  fails_not = h.failed_are s k (above_begun (begun J s) k next);
  up_not = h.ups_are s k (above_begun (begun J s) k next);
  begun_is = begun_it s k (begun J s);
  failed_are = λ t j less. h.failed_are t j (less_on (begun J t) _ j (at_least (s == t) k (begun J t)) less);
  ups_are = λ t j less. h.ups_are t j (less_on (begun J t) _ j (at_least (s == t) k (begun J t)) less);
  list_is = h.list_is;
}

-- ---- the steps of an attempt, counted

taken_all : {A : Type 0} (xs : List A) → take (length xs) xs ≡ xs
taken_all [] = refl
taken_all (x ∷ xs) = ap (λ ys. x ∷ ys) (taken_all xs)

taken_more : {A : Type 0} (xs : List A) → take (suc (length xs)) xs ≡ xs
taken_more [] = refl
taken_more (x ∷ xs) = ap (λ ys. x ∷ ys) (taken_more xs)

taken_front : {A : Type 0} (xs ys : List A) → take (length xs) (xs ++ ys) ≡ xs
taken_front [] ys = refl
taken_front (x ∷ xs) ys = ap (λ zs. x ∷ zs) (taken_front xs ys)

front_less : {A : Type 0} (xs ys : List A) → length xs ≤ length (xs ++ ys)
front_less [] ys = omega arith
front_less (x ∷ xs) ys = omega (arith, front_less xs ys)

not_less : (n : ℕ) → nat_lt n 0 ≡ false
not_less n = le-ltb n 0 (omega arith)

same_less : (n : ℕ) → nat_lt n n ≡ false
same_less n = le-ltb n n (omega arith)

next_less : (n : ℕ) → nat_lt n (suc n) ≡ true
next_less n = lt-ltb n (suc n) (omega arith)

module _ (C : Config) (seed : List ℕ) (R : Record) (s k : ℕ) (items : List Own) where
  steps : ℕ → List Place → Bool → List Own
  steps n places boots = with_boot_if boots s k (with_installs seed s k places (with_cleared C R s items))

  pub stepped_none : stepped C seed R s k 0 items ≡ with_cleared C R s items
  stepped_none = ap (λ (b : Bool). with_boot_if b s k (with_cleared C R s items)) (not_less (length (cols C s)))

  pub stepped_front : (done rest : List Place) → cols C s ≡ done ++ rest → stepped C seed R s k (length done) items ≡ with_installs seed s k done (with_cleared C R s items)
  stepped_front done rest is =
      let off : nat_lt (length (cols C s)) (length done) ≡ false = le-ltb (length (cols C s)) (length done) (subst (λ (xs : List Place). length done ≤ length xs) (sym is) (front_less done rest)) in
      let some : take (length done) (cols C s) ≡ done = ap (take (length done)) is ∙ taken_front done rest in
      λ i. with_boot_if (off i) s k (with_installs seed s k (some i) (with_cleared C R s items))

  pub stepped_installs : stepped C seed R s k (length (cols C s)) items ≡ with_installs seed s k (cols C s) (with_cleared C R s items)
  stepped_installs = λ i. with_boot_if (same_less (length (cols C s)) i) s k (with_installs seed s k (taken_all (cols C s) i) (with_cleared C R s items))

  pub stepped_boot : stepped C seed R s k (suc (length (cols C s))) items ≡ own.Boot s k ∷ with_installs seed s k (cols C s) (with_cleared C R s items)
  stepped_boot = λ i. with_boot_if (next_less (length (cols C s)) i) s k (with_installs seed s k (taken_more (cols C s) i) (with_cleared C R s items))

-- ---- what each step of a launch leaves

pub whole_goes : (C : Config) (seed : List ℕ) (up : ℕ → ℕ → Bool) (J : List (Entry LauncherEvent)) (cells now : List (List CellEvent)) (items : List Own) → Goes (of_cells cells) (of_cells now) → Within (of_cells cells) items → IsWhole C seed up J cells items → IsWhole C seed up J now items
whole_goes C seed up J cells now items goes within h = record {
  fates = h.fates;
  told = h.told;
  failed_are = h.failed_are;
  ups_are = h.ups_are;
  list_is = h.list_is ∙ sym (pieces_stay C seed (of_cells cells) (of_cells now) goes (attempts J) h.fates (subst (Within (of_cells cells)) h.list_is within));
}

module _ (C : Config) (seed : List ℕ) (up : ℕ → ℕ → Bool) (s k : ℕ) (J : List (Entry LauncherEvent)) where
  -- the same attempt, of which the list is another
  way_on : (from to : Option ℕ) (cells now : List (List CellEvent)) (items new : List Own) (h : IsUnderWay C seed up s k from J cells items) → new ≡ after_steps to C seed (of_cells now) s k (all_pieces C seed (of_cells now) h.before h.fates) → IsUnderWay C seed up s k to J now new
  way_on from to cells now items new h is = record {
    worker = h.worker;
    before = h.before;
    fates = h.fates;
    attempts_are = h.attempts_are;
    told = h.told;
    apart = h.apart;
    fails_not = h.fails_not;
    up_not = h.up_not;
    begun_is = h.begun_is;
    failed_are = h.failed_are;
    ups_are = h.ups_are;
    list_is = is;
  }

  pub way_goes : (n : ℕ) (cells now : List (List CellEvent)) (items : List Own) → Goes (of_cells cells) (of_cells now) → Within (of_cells cells) items → IsUnderWay C seed up s k (Some n) J cells items → IsUnderWay C seed up s k (Some n) J now items
  way_goes n cells now items goes within h = way_on (Some n) (Some n) cells now items items h
      (h.list_is ∙ sym (stepped_all_stays C seed (of_cells cells) (of_cells now) goes s k n h.before h.fates (subst (Within (of_cells cells)) h.list_is within)))

  pub way_cleared : (cells now : List (List CellEvent)) (items new : List Own) → Goes (of_cells cells) (of_cells now) → Within (of_cells cells) items → new ≡ with_cleared C (of_cells now) s items → IsUnderWay C seed up s k None J cells items → IsUnderWay C seed up s k (Some 0) J now new
  way_cleared cells now items new goes within is h =
      let same = h.list_is ∙ sym (pieces_stay C seed (of_cells cells) (of_cells now) goes h.before h.fates (subst (Within (of_cells cells)) h.list_is within)) in
      way_on None (Some 0) cells now items new h (is ∙ (ap (with_cleared C (of_cells now) s) same ∙ sym (stepped_none C seed (of_cells now) s k (all_pieces C seed (of_cells now) h.before h.fates))))

  up_here : (b : Bool) → ((s == s) && (k == k)) || b ≡ true
  up_here b = λ i. (eq-eqb s s refl i && eq-eqb k k refl i) || b

  ups_on : k ≤ begun J s → UpsAreBegun up J → UpsAreBegun (with_up s k up) J
  ups_on most before t j less = or_from ((s == t) && (k == j)) (up t j)
      (⊎_elim
      (λ (is : s ≡ t). ap (λ (b : Bool). (s == t) && b) (ne_eqb k j (λ (at : k ≡ j). not_above (begun J t) j (subst (λ (x : ℕ). k ≤ begun J x) is most) at less)) ∙ and-false (s == t))
      (λ (not : s ≢ t). ap (λ (b : Bool). b && (k == j)) (ne_eqb s t not))
      (cases_eq s t))
      (before t j less)
    where
      not_above : (g j : ℕ) → k ≤ g → k ≡ j → g < j → ⊥
      not_above g j most at less = omega (arith, most, at, less)

  module _ (cells : List (List CellEvent)) (items new : List Own) where
    pub way_installed : new ≡ with_installs seed s k (cols C s) items → IsUnderWay C seed up s k (Some 0) J cells items → IsUnderWay C seed up s k (Some (length (cols C s))) J cells new
    way_installed is h =
        let X = all_pieces C seed (of_cells cells) h.before h.fates in
        way_on (Some 0) (Some (length (cols C s))) cells cells items new h
        (is ∙ (ap (with_installs seed s k (cols C s)) (h.list_is ∙ stepped_none C seed (of_cells cells) s k X) ∙ sym (stepped_installs C seed (of_cells cells) s k X)))

    pub way_front : (rest : List Place) (f : InstallsFirst seed s k (cols C s) rest items new) → IsUnderWay C seed up s k (Some 0) J cells items → IsUnderWay C seed up s k (Some (length f.done)) J cells new
    way_front rest f h =
        let X = all_pieces C seed (of_cells cells) h.before h.fates in
        way_on (Some 0) (Some (length f.done)) cells cells items new h
        (f.own_is ∙ (ap (with_installs seed s k f.done) (h.list_is ∙ stepped_none C seed (of_cells cells) s k X) ∙ sym (stepped_front C seed (of_cells cells) s k X f.done rest f.places_are)))

    pub way_booted : new ≡ own.Boot s k ∷ items → IsUnderWay C seed up s k (Some (length (cols C s))) J cells items → IsUnderWay C seed up s k (Some (suc (length (cols C s)))) J cells new
    way_booted is h =
        let X = all_pieces C seed (of_cells cells) h.before h.fates in
        way_on (Some (length (cols C s))) (Some (suc (length (cols C s)))) cells cells items new h
        (is ∙ (ap (λ (xs : List Own). own.Boot s k ∷ xs) (h.list_is ∙ stepped_installs C seed (of_cells cells) s k X) ∙ sym (stepped_boot C seed (of_cells cells) s k X)))

    pub way_up : new ≡ own.Okd (okd.Up s k) ∷ items → IsUnderWay C seed up s k (Some (suc (length (cols C s)))) J cells items → IsWhole C seed (with_up s k up) J cells new
    way_up is h =
        let X = all_pieces C seed (of_cells cells) h.before h.fates in
        record {
          fates = CameUp ∷ h.fates;
          told = subst (λ (made : List Attempt). AreTold (with_up s k up) J made (CameUp ∷ h.fates)) (sym h.attempts_are) ((up_here (up s k), h.fails_not), up_apart up s k J h.before h.fates h.apart h.told);
          failed_are = h.failed_are;
          ups_are = ups_on h.begun_is h.ups_are;
          list_is = is ∙ (ap (λ (xs : List Own). own.Okd (okd.Up s k) ∷ xs) (h.list_is ∙ stepped_boot C seed (of_cells cells) s k X) ∙ ap (λ (made : List Attempt). all_pieces C seed (of_cells cells) made (CameUp ∷ h.fates)) (sym h.attempts_are));
        }

    pub way_revoked : (n : ℕ) → new ≡ with_revokes C s items → IsUnderWay C seed up s k (Some n) J cells items → IsWhole C seed up J cells new
    way_revoked n is h = record {
      fates = BrokeOff n ∷ h.fates;
      told = subst (λ (made : List Attempt). AreTold up J made (BrokeOff n ∷ h.fates)) (sym h.attempts_are) ((h.up_not, h.fails_not), h.told);
      failed_are = h.failed_are;
      ups_are = h.ups_are;
      list_is = is ∙ (ap (with_revokes C s) h.list_is ∙ ap (λ (made : List Attempt). all_pieces C seed (of_cells cells) made (BrokeOff n ∷ h.fates)) (sym h.attempts_are));
    }

  begun_at : (t : ℕ) → s ≡ t → k ≡ begun J s → k ≡ begun J t
  begun_at t is greatest = greatest ∙ ap (begun J) is

  failed_on : (w : ℕ) → k ≡ begun J s → FailedAreBegun J → FailedAreBegun (record { worker = w; event = event.Failed s k } ∷ J)
  failed_on w greatest before t j less = or_from ((s == t) && (k == j)) (has_failed_in J t j)
      (⊎_elim
      (λ (is : s ≡ t). ap (λ (b : Bool). (s == t) && b) (ne_eqb k j (λ (at : k ≡ j). not_both (begun J t) j (begun_at t is greatest) at less)) ∙ and-false (s == t))
      (λ (not : s ≢ t). ap (λ (b : Bool). b && (k == j)) (ne_eqb s t not))
      (cases_eq s t))
      (before t j less)
    where
      not_both : (g j : ℕ) → k ≡ g → k ≡ j → g < j → ⊥
      not_both g j is at less = omega (arith, is, at, less)

  failed_here : (b : Bool) → ((s == s) && (k == k)) || b ≡ true
  failed_here b = λ i. (eq-eqb s s refl i && eq-eqb k k refl i) || b

  pub way_failed : (w : ℕ) (cells : List (List CellEvent)) (items : List Own) → k ≡ begun J s → IsUnderWay C seed up s k (Some (length (cols C s))) J cells items → IsWhole C seed up (record { worker = w; event = event.Failed s k } ∷ J) cells items
  way_failed w cells items greatest h =
      let X = all_pieces C seed (of_cells cells) h.before h.fates in
      record {
        fates = Failed ∷ h.fates;
        told = subst (λ (made : List Attempt). AreTold up (record { worker = w; event = event.Failed s k } ∷ J) made (Failed ∷ h.fates)) (sym h.attempts_are)
            ((h.up_not, failed_here (has_failed_in J s k)), told_apart up w s k J h.before h.fates h.apart h.told);
        failed_are = failed_on w greatest h.failed_are;
        ups_are = h.ups_are;
        list_is = h.list_is ∙ (stepped_installs C seed (of_cells cells) s k X ∙ ap (λ (made : List Attempt). all_pieces C seed (of_cells cells) made (Failed ∷ h.fates)) (sym h.attempts_are));
      }

-- ---- nothing was begun

pub whole_none : (C : Config) (seed : List ℕ) (up : ℕ → ℕ → Bool) (J : List (Entry LauncherEvent)) (cells : List (List CellEvent)) (items : List Own) → J ≡ [] → items ≡ [] → ((s k : ℕ) → up s k ≡ false) → IsWhole C seed up J cells items
whole_none C seed up J cells items none empty down = subst (λ (I : List (Entry LauncherEvent)). IsWhole C seed up I cells items) (sym none) (record { fates = []; told = tt; failed_are = λ s k less. refl; ups_are = λ s k less. down s k; list_is = empty })
