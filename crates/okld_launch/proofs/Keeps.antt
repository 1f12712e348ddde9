-- What each step of a launch leaves of the launcher.
use Rattle.std.proofs.Common.{◌≡◌, ◌≢◌, ◌∙◌, ⊎_elim, ℕ, ◌<◌, ◌≤◌, [], Option, None, length, sym, ap, subst, arith, get_or-set_other}
use Rattle.std.specs.Prelude.{slice_index, slice_set}
use Rattle.std.proofs.lemmas.Bool.{cases_eq}
use Rattle.okws_plan.specs.declared.configuration.Config.{Config}
use Rattle.okws_plan.specs.declared.script.Place.{Place}
use Rattle.okws_plan.specs.declared.script.Place.TheVariants.{Proxy, Pubd, Oklogd}
use Rattle.monitor_model.specs.Cell.{last_booted}
use Rattle.monitor_model.specs.Launcher.{begun}
use Rattle.site_cells.specs.Row.{CellsSeen, seen_at, OnlyAt}
use Rattle.site_locks.specs.Sat.{Sat}
use Rattle.launch_crew.specs.Crews.{CrewIs, child_of, up_of, stands_at, lasts_at, Below, Under, RunsAs, IsUp}
use Rattle.okld_launch.specs.Launchers.{LauncherIs, up_in, TriedAreBegun, IsKept, IsLauncher}
use Rattle.launch_crew.specs.Steps.{OnlyOkd, OnlyColumns, SameHands, Downs, Ups, Looks, Thins, Installs, Empties, Tries, Starts, Misses}

-- of every service but s the crew knows and has the same
pub record Spares (s : ℕ) (c d : CrewIs) : Type 0 where
  pub up : (t : ℕ) → t ≢ s → up_of d.sat t ≡ up_of c.sat t
  pub stands : (t : ℕ) (at : Place) → t ≢ s → stands_at d.sat at t ≡ stands_at c.sat at t
  pub lasts : (t : ℕ) (at : Place) → t ≢ s → lasts_at d.sat at t ≡ lasts_at c.sat at t
  pub board : (t : ℕ) → t ≢ s → slice_index d.sat.board t ≡ slice_index c.sat.board t
  pub cell : (t : ℕ) → t ≢ s → seen_at d.watch t ≡ seen_at c.watch t
  pub child : (t : ℕ) → t ≢ s → child_of d t ≡ child_of c t

pub spares_on : (s : ℕ) (c d e : CrewIs) → Spares s c d → Spares s d e → Spares s c e
spares_on s c d e a b = record {
  up = λ t n. b.up t n ∙ a.up t n;
  stands = λ t at n. b.stands t at n ∙ a.stands t at n;
  lasts = λ t at n. b.lasts t at n ∙ a.lasts t at n;
  board = λ t n. b.board t n ∙ a.board t n;
  cell = λ t n. b.cell t n ∙ a.cell t n;
  child = λ t n. b.child t n ∙ a.child t n;
}

-- ---- where a step left okd, or the columns, or both as they were

pub stands_okd : (a b : Sat) → OnlyOkd a b → (at : Place) (t : ℕ) → stands_at b at t ≡ stands_at a at t
stands_okd a b h (Proxy p) t = ap (λ ps. stands_at (record a { proxies = ps }) (Proxy p) t) h.proxies_is
stands_okd a b h Pubd t = ap (λ J. stands_at (record a { pubd = J }) Pubd t) h.pubd_is
stands_okd a b h Oklogd t = ap (λ J. stands_at (record a { oklogd = J }) Oklogd t) h.oklogd_is

lasts_okd : (a b : Sat) → OnlyOkd a b → (at : Place) (t : ℕ) → lasts_at b at t ≡ lasts_at a at t
lasts_okd a b h (Proxy p) t = ap (λ ps. lasts_at (record a { proxies = ps }) (Proxy p) t) h.proxies_is
lasts_okd a b h Pubd t = ap (λ J. lasts_at (record a { pubd = J }) Pubd t) h.pubd_is
lasts_okd a b h Oklogd t = ap (λ J. lasts_at (record a { oklogd = J }) Oklogd t) h.oklogd_is

spares_okd : (s : ℕ) (c d : CrewIs) → OnlyOkd c.sat d.sat → SameHands c d → ((t : ℕ) → t ≢ s → up_of d.sat t ≡ up_of c.sat t) → Spares s c d
spares_okd s c d h hands up = record {
  up = up;
  stands = λ t at n. stands_okd c.sat d.sat h at t;
  lasts = λ t at n. lasts_okd c.sat d.sat h at t;
  board = λ t n. ap (λ ns. slice_index ns t) h.board_is;
  cell = λ t n. ap (λ (w : CellsSeen). seen_at w t) hands.watch_is;
  child = λ t n. ap (λ rs. child_of (record c { running = rs }) t) hands.running_is;
}

pub spares_downs : (s : ℕ) (c d : CrewIs) → SameHands c d → Downs s c.sat d.sat → Spares s c d
spares_downs s c d hands h = spares_okd s c d h.only hands h.others

pub spares_ups : (s k : ℕ) (c d : CrewIs) → SameHands c d → Ups s k c.sat d.sat → Spares s c d
spares_ups s k c d hands h = spares_okd s c d h.only hands h.others

pub spares_looks : (s : ℕ) (c d : CrewIs) → SameHands c d → Looks c.sat d.sat → Spares s c d
spares_looks s c d hands h = spares_okd s c d h.only hands (λ t n. h.same t)

spares_columns : (s : ℕ) (c d : CrewIs) → OnlyColumns c.sat d.sat → SameHands c d → ((t : ℕ) (at : Place) → t ≢ s → stands_at d.sat at t ≡ stands_at c.sat at t)
    → ((t : ℕ) (at : Place) → t ≢ s → lasts_at d.sat at t ≡ lasts_at c.sat at t) → Spares s c d
spares_columns s c d h hands stands lasts = record {
  up = λ t n. ap (λ J. up_of (record c.sat { okd = J }) t) h.okd_is;
  stands = stands;
  lasts = lasts;
  board = λ t n. ap (λ ns. slice_index ns t) h.board_is;
  cell = λ t n. ap (λ (w : CellsSeen). seen_at w t) hands.watch_is;
  child = λ t n. ap (λ rs. child_of (record c { running = rs }) t) hands.running_is;
}

pub spares_thins : (s : ℕ) (c d : CrewIs) → SameHands c d → Thins s c.sat d.sat → Spares s c d
spares_thins s c d hands h = spares_columns s c d h.only hands h.others (λ t at n. h.lasts t at)

pub spares_installs : (s k : ℕ) (c d : CrewIs) → SameHands c d → Installs s k c.sat d.sat → Spares s c d
spares_installs s k c d hands h = spares_columns s c d h.only hands h.others h.lasts

seen_other : (s t : ℕ) (w v : CellsSeen) → OnlyAt s w v → t ≢ s → seen_at v t ≡ seen_at w t
seen_other s t w v only n = ap (λ (x : CellsSeen). seen_at x t) only ∙ get_or-set_other w.cells s t (seen_at v s) [] n

spares_hands : (s : ℕ) (c d : CrewIs) → d.sat ≡ c.sat → OnlyAt s c.watch d.watch → ((t : ℕ) → t ≢ s → child_of d t ≡ child_of c t) → Spares s c d
spares_hands s c d sat only child = record {
  up = λ t n. ap (λ (x : Sat). up_of x t) sat;
  stands = λ t at n. ap (λ (x : Sat). stands_at x at t) sat;
  lasts = λ t at n. ap (λ (x : Sat). lasts_at x at t) sat;
  board = λ t n. ap (λ (x : Sat). slice_index x.board t) sat;
  cell = λ t n. seen_other s t c.watch d.watch only n;
  child = child;
}

child_set : (s t : ℕ) (c d : CrewIs) (x : Option _) → d.running ≡ slice_set c.running s x → t ≢ s → child_of d t ≡ child_of c t
child_set s t c d x is n = ap (λ rs. child_of (record c { running = rs }) t) is ∙ get_or-set_other c.running s t x None n

pub spares_empties : (s : ℕ) (c d : CrewIs) → Empties s c d → Spares s c d
spares_empties s c d h = spares_hands s c d h.sat_is h.only (λ t n. child_set s t c d None h.running_is n)

pub spares_starts : (s k : ℕ) (c d : CrewIs) → Starts s k c d → Spares s c d
spares_starts s k c d h = spares_hands s c d h.tries.sat_is h.tries.only (λ t n. child_set s t c d _ h.running_is n)

pub spares_misses : (s k : ℕ) (c d : CrewIs) → Misses s k c d → Spares s c d
spares_misses s k c d h = spares_hands s c d h.tries.sat_is h.tries.only (λ t n. ap (λ rs. child_of (record c { running = rs }) t) h.running_is)

-- ---- what the launcher keeps of the other services

below_other : (s t k : ℕ) (c d : CrewIs) → Spares s c d → t ≢ s → Below t k c.sat c.watch → Below t k d.sat d.watch
below_other s t k c d h n b = record {
  columns = λ at. subst (λ x. x ≤ k) (sym (h.lasts t at n)) (b.columns at);
  cell = subst (λ J. last_booted J ≤ k) (sym (h.cell t n)) b.cell;
  board = subst (λ x. x ≤ k) (sym (h.board t n)) b.board;
}

up_other : (C : Config) (s t k : ℕ) (c d : CrewIs) → Spares s c d → t ≢ s → IsUp C t k c → IsUp C t k d
up_other C s t k c d h n u = record {
  up = h.up t n ∙ u.up;
  columns = λ at is. h.stands t at n ∙ u.columns at is;
  child = subst (RunsAs k) (sym (h.child t n)) u.child;
}

-- a launch of s leaves what the launcher keeps of the others
pub record StepsAt (s : ℕ) (l m : LauncherIs) : Type 0 where
  pub config_is : m.journal.config ≡ l.journal.config
  pub ups_are : length m.ups ≡ length l.ups
  pub begun_are : (t : ℕ) → t ≢ s → begun m.journal.past t ≡ begun l.journal.past t
  pub tried_are : TriedAreBegun l.journal.past → TriedAreBegun m.journal.past
  pub ups : (t : ℕ) → t ≢ s → up_in m t ≡ up_in l t
  pub spares : Spares s l.crew m.crew

kept_other : (C : Config) (s t : ℕ) (l m : LauncherIs) → StepsAt s l m → t ≢ s → IsKept C l t → IsKept C m t
kept_other C s t l m h n k = record {
  below = subst (λ j. Below t j m.crew.sat m.crew.watch) (sym (h.begun_are t n)) (below_other s t (begun l.journal.past t) l.crew m.crew h.spares n k.below);
  shown = λ within. h.spares.board t n ∙ (k.shown within ∙ sym (h.begun_are t n));
  begun_is = subst (λ j. up_in m t ≤ j) (sym (h.begun_are t n)) (subst (λ j. j ≤ begun l.journal.past t) (sym (h.ups t n)) k.begun_is);
  up = λ more. subst (λ j. IsUp C t j m.crew) (sym (h.ups t n)) (up_other C s t (up_in l t) l.crew m.crew h.spares n (k.up (subst (λ j. 0 < j) (h.ups t n) more)));
  down = λ none. h.spares.up t n ∙ k.down (sym (h.ups t n) ∙ none);
}

pub keeps : (C : Config) (s : ℕ) (l m : LauncherIs) → IsLauncher C l → StepsAt s l m → length C.services ≤ m.crew.room → IsKept C m s → IsLauncher C m
keeps C s l m h steps spare here = record {
  config_is = steps.config_is ∙ h.config_is;
  tried_are = steps.tried_are h.tried_are;
  ups_are = steps.ups_are ∙ h.ups_are;
  spare = spare;
  each = λ t. ⊎_elim (λ is. subst (IsKept C m) (sym is) here) (λ n. kept_other C s t l m steps n (h.each t)) (cases_eq t s);
}

-- ---- what it keeps of s

-- nothing of s is up, and nothing more of it was installed or booted
pub record IsDown (C : Config) (s : ℕ) (l m : LauncherIs) : Type 0 where
  pub begun_is : begun m.journal.past s ≡ begun l.journal.past s
  pub down : up_in m s ≡ 0
  pub up : up_of m.crew.sat s ≡ None
  pub below : Below s (begun l.journal.past s) m.crew.sat m.crew.watch
  pub shown : s < length C.services → slice_index m.crew.sat.board s ≡ begun l.journal.past s

not_above : (n : ℕ) → n ≡ 0 → 0 < n → ⊥
not_above n is more = omega (arith, is, more)

pub kept_down : (C : Config) (s : ℕ) (l m : LauncherIs) → IsDown C s l m → IsKept C m s
kept_down C s l m h = record {
  below = subst (λ j. Below s j m.crew.sat m.crew.watch) (sym h.begun_is) h.below;
  shown = λ within. h.shown within ∙ sym h.begun_is;
  begun_is = omega (arith, h.down);
  up = λ more. absurd (not_above (up_in m s) h.down more);
  down = λ none. h.up;
}

-- incarnation k of s is up
pub record IsRaised (C : Config) (s k : ℕ) (l m : LauncherIs) : Type 0 where
  pub begun_is : begun m.journal.past s ≡ begun l.journal.past s
  pub up : up_in m s ≡ k
  pub counted : 0 < k
  pub most : k ≤ begun l.journal.past s
  pub stands : IsUp C s k m.crew
  pub below : Below s (begun l.journal.past s) m.crew.sat m.crew.watch
  pub shown : s < length C.services → slice_index m.crew.sat.board s ≡ begun l.journal.past s

pub kept_up : (C : Config) (s k : ℕ) (l m : LauncherIs) → IsRaised C s k l m → IsKept C m s
kept_up C s k l m h = record {
  below = subst (λ j. Below s j m.crew.sat m.crew.watch) (sym h.begun_is) h.below;
  shown = λ within. h.shown within ∙ sym h.begun_is;
  begun_is = subst (λ j. up_in m s ≤ j) (sym h.begun_is) (subst (λ j. j ≤ begun l.journal.past s) (sym h.up) h.most);
  up = λ more. subst (λ j. IsUp C s j m.crew) (sym h.up) h.stands;
  down = λ none. absurd (not_above k (sym h.up ∙ none) h.counted);
}

-- ---- what of s a step leaves below

pub below_okd : (s k : ℕ) (c d : CrewIs) → OnlyOkd c.sat d.sat → SameHands c d → Below s k c.sat c.watch → Below s k d.sat d.watch
below_okd s k c d h hands b = record {
  columns = λ at. subst (λ x. x ≤ k) (sym (lasts_okd c.sat d.sat h at s)) (b.columns at);
  cell = subst (λ (w : CellsSeen). last_booted (seen_at w s) ≤ k) (sym hands.watch_is) b.cell;
  board = subst (λ ns. slice_index ns s ≤ k) (sym h.board_is) b.board;
}

pub below_thins : (s k : ℕ) (c d : CrewIs) → Thins s c.sat d.sat → SameHands c d → Below s k c.sat c.watch → Below s k d.sat d.watch
below_thins s k c d h hands b = record {
  columns = λ at. subst (λ x. x ≤ k) (sym (h.lasts s at)) (b.columns at);
  cell = subst (λ (w : CellsSeen). last_booted (seen_at w s) ≤ k) (sym hands.watch_is) b.cell;
  board = subst (λ ns. slice_index ns s ≤ k) (sym h.only.board_is) b.board;
}

pub below_installs : (s k j : ℕ) (c d : CrewIs) → k ≤ j → Installs s k c.sat d.sat → SameHands c d → Below s j c.sat c.watch → Below s j d.sat d.watch
below_installs s k j c d least h hands b = record {
  columns = λ at. h.most at j least (b.columns at);
  cell = subst (λ (w : CellsSeen). last_booted (seen_at w s) ≤ j) (sym hands.watch_is) b.cell;
  board = subst (λ ns. slice_index ns s ≤ j) (sym h.only.board_is) b.board;
}

below_sat : (s k : ℕ) (c d : CrewIs) → d.sat ≡ c.sat → last_booted (seen_at d.watch s) ≤ k → Below s k c.sat c.watch → Below s k d.sat d.watch
below_sat s k c d is cell b = record {
  columns = λ at. subst (λ (x : Sat). lasts_at x at s ≤ k) (sym is) (b.columns at);
  cell = cell;
  board = subst (λ (x : Sat). slice_index x.board s ≤ k) (sym is) b.board;
}

pub below_empties : (s k : ℕ) (c d : CrewIs) → Empties s c d → Below s k c.sat c.watch → Below s k d.sat d.watch
below_empties s k c d h b = below_sat s k c d h.sat_is (subst (λ x. x ≤ k) (sym h.last) b.cell) b

pub below_tries : (s k j : ℕ) (c d : CrewIs) → k ≤ j → Tries s k c d → Below s j c.sat c.watch → Below s j d.sat d.watch
below_tries s k j c d least h b = below_sat s j c d h.sat_is (h.most j least b.cell) b

pub under_okd : (s k : ℕ) (c d : CrewIs) → OnlyOkd c.sat d.sat → SameHands c d → Under s k c → Under s k d
under_okd s k c d h hands b = record {
  columns = λ at. subst (λ x. x < k) (sym (lasts_okd c.sat d.sat h at s)) (b.columns at);
  cell = subst (λ (w : CellsSeen). last_booted (seen_at w s) < k) (sym hands.watch_is) b.cell;
}

pub under_thins : (s k : ℕ) (c d : CrewIs) → Thins s c.sat d.sat → SameHands c d → Under s k c → Under s k d
under_thins s k c d h hands b = record {
  columns = λ at. subst (λ x. x < k) (sym (h.lasts s at)) (b.columns at);
  cell = subst (λ (w : CellsSeen). last_booted (seen_at w s) < k) (sym hands.watch_is) b.cell;
}

pub under_empties : (s k : ℕ) (c d : CrewIs) → Empties s c d → Under s k c → Under s k d
under_empties s k c d h b = record {
  columns = λ at. subst (λ (x : Sat). lasts_at x at s < k) (sym h.sat_is) (b.columns at);
  cell = subst (λ x. x < k) (sym h.last) b.cell;
}
