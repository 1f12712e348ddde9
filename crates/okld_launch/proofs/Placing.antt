-- What each step of a launch leaves of the launcher.
use Rattle.std.proofs.Common.{◌≡◌, ◌≢◌, ◌∙◌, ℕ, zero, suc, ◌<◌, ◌≤◌, List, [], ◌∷◌, Option, None, length, refl, sym, ap, subst, length-set}
use Rattle.std.specs.Prelude.{slice_index, slice_set, slice_index_or, Result, OnOk, OnErr}
use Rattle.okws_plan.specs.declared.configuration.Config.{Config}
use Rattle.okws_outer.specs.Lives.{Life}
use Rattle.monitor_model.specs.Launcher.{begun}
use Rattle.monitor_model.specs.Standing.{up_at_okd}
use Rattle.launch_journal.specs.Launches.{Launches}
use Rattle.site_locks.specs.Sat.{Sat}
use Rattle.launch_crew.specs.Crews.{CrewIs, child_of, up_of, stands_at, Below, Under, IsQuiet, StandsAt, RunsAs}
use Rattle.okld_launch.specs.Children.{StaysAttended}
use Rattle.okld_launch.specs.Launchers.{LauncherIs, up_in, TriedAreBegun, IsLauncher}
use Rattle.launch_crew.specs.Steps.{SameHands, Downs, Ups, Looks, Revokes, Installs, Empties, Tries, Starts, Misses}
use Rattle.okld_launch.proofs.Keeps.{stands_okd, Spares, spares_on, spares_downs, spares_ups, spares_looks, spares_thins, spares_installs, spares_empties, spares_starts, spares_misses, StepsAt, keeps, kept_down, kept_up, below_okd, below_thins, below_installs, below_empties, below_tries, under_okd, under_thins, under_empties}
use Rattle.okld_launch.proofs.Children.{stays_missed, stays_started}
use Rattle.launch_crew.proofs.Places.{either_way}
use Rattle.launch_crew.proofs.Slots.{set_here, set_there}

-- ---- lists

pub zeroed : (xs : List ℕ) (s : ℕ) → slice_index (slice_set xs s 0) s ≡ 0
zeroed [] s = refl
zeroed (x ∷ xs) zero = refl
zeroed (x ∷ xs) (suc s) = zeroed xs s

let_go : (xs : List (Option Life)) (s : ℕ) → slice_index_or (slice_set xs s None) s None ≡ None
let_go [] s = refl
let_go (x ∷ xs) zero = refl
let_go (x ∷ xs) (suc s) = let_go xs s

-- ---- a step of which the journal and the ups know nothing

-- the launcher l after a step that changed the crew, and perhaps which incarnation of s is up
pub record Turned (s : ℕ) (l m : LauncherIs) : Type 0 where
  pub journal_is : m.journal ≡ l.journal
  pub ups_are : length m.ups ≡ length l.ups
  pub ups : (t : ℕ) → t ≢ s → up_in m t ≡ up_in l t
  pub spares : Spares s l.crew m.crew

steps_of : (s : ℕ) (l m : LauncherIs) → Turned s l m → StepsAt s l m
steps_of s l m h = record {
  config_is = ap (λ (j : Launches). j.config) h.journal_is;
  ups_are = h.ups_are;
  begun_are = λ t n. ap (λ (j : Launches). begun j.past t) h.journal_is;
  tried_are = λ tried. subst (λ (j : Launches). TriedAreBegun j.past) (sym h.journal_is) tried;
  ups = h.ups;
  spares = h.spares;
}

begun_same : (s : ℕ) (l m : LauncherIs) → Turned s l m → begun m.journal.past s ≡ begun l.journal.past s
begun_same s l m h = ap (λ (j : Launches). begun j.past s) h.journal_is

-- the board shows what it did
board_same : (C : Config) (s : ℕ) (l m : LauncherIs) → IsLauncher C l → m.crew.sat.board ≡ l.crew.sat.board → s < length C.services → slice_index m.crew.sat.board s ≡ begun l.journal.past s
board_same C s l m h board within = ap (λ ns. slice_index ns s) board ∙ (h.each s).shown within

-- nothing of s is up after it
pub turned_down : (C : Config) (s : ℕ) (l m : LauncherIs) → IsLauncher C l → Turned s l m → length C.services ≤ m.crew.room → up_in m s ≡ 0 → up_of m.crew.sat s ≡ None → Below s (begun l.journal.past s) m.crew.sat m.crew.watch → m.crew.sat.board ≡ l.crew.sat.board → IsLauncher C m
turned_down C s l m h t spare down up below board = keeps C s l m h (steps_of s l m t) spare (kept_down C s l m (record { begun_is = begun_same s l m t; down = down; up = up; below = below; shown = board_same C s l m h board }))

-- the same of the ups
same_ups : (s : ℕ) (l m : LauncherIs) → m.journal ≡ l.journal → m.ups ≡ l.ups → Spares s l.crew m.crew → Turned s l m
same_ups s l m journal ups spares = record { journal_is = journal; ups_are = ap length ups; ups = λ t n. ap (λ us. slice_index us t) ups; spares = spares }

still_down : (s : ℕ) (l m : LauncherIs) → m.ups ≡ l.ups → up_in l s ≡ 0 → up_in m s ≡ 0
still_down s l m ups down = ap (λ us. slice_index us s) ups ∙ down

-- ---- what stands is ended

pub record Clears (C : Config) (s : ℕ) (a b c d : CrewIs) : Type 0 where
  pub down_hands : SameHands a b
  pub downs : Downs s a.sat b.sat
  pub revoke_hands : SameHands b c
  pub revokes : Revokes C s b.sat c.sat
  pub empties : Empties s c d

pub spares_clears : (C : Config) (s : ℕ) (a b c d : CrewIs) → Clears C s a b c d → Spares s a d
spares_clears C s a b c d h = spares_on s a b d (spares_downs s a b h.down_hands h.downs) (spares_on s b c d (spares_thins s b c h.revoke_hands h.revokes.thins) (spares_empties s c d h.empties))

pub below_clears : (C : Config) (s k : ℕ) (a b c d : CrewIs) → Clears C s a b c d → Below s k a.sat a.watch → Below s k d.sat d.watch
below_clears C s k a b c d h x = below_empties s k c d h.empties (below_thins s k b c h.revokes.thins h.revoke_hands (below_okd s k a b h.downs.only h.down_hands x))

pub under_clears : (C : Config) (s k : ℕ) (a b c d : CrewIs) → Clears C s a b c d → Under s k a → Under s k d
under_clears C s k a b c d h x = under_empties s k c d h.empties (under_thins s k b c h.revokes.thins h.revoke_hands (under_okd s k a b h.downs.only h.down_hands x))

up_clears : (C : Config) (s : ℕ) (a b c d : CrewIs) → Clears C s a b c d → up_of d.sat s ≡ None
up_clears C s a b c d h = ap (λ (x : Sat). up_of x s) h.empties.sat_is ∙ (ap (λ J. up_at_okd J s) h.revokes.thins.only.okd_is ∙ h.downs.none)

pub quiet_clears : (C : Config) (s : ℕ) (a b c d : CrewIs) → Clears C s a b c d → IsQuiet C s d
quiet_clears C s a b c d h = record {
  up = up_clears C s a b c d h;
  columns = λ at fits. ap (λ (x : Sat). stands_at x at s) h.empties.sat_is ∙ h.revokes.none at fits;
  cell = h.empties.none;
  child = ap (λ (xs : List (Option Life)). slice_index_or xs s None) h.empties.running_is ∙ let_go c.running s;
}

pub cleared : (C : Config) (s : ℕ) (l m : LauncherIs) (b c : CrewIs) → IsLauncher C l → m.journal ≡ l.journal → m.ups ≡ slice_set l.ups s 0 → Clears C s l.crew b c m.crew → length C.services ≤ m.crew.room → IsLauncher C m
cleared C s l m b c h journal ups clears spare = turned_down C s l m h
    (record {
      journal_is = journal;
      ups_are = ap length ups ∙ length-set l.ups s 0;
      ups = λ t n. ap (λ us. slice_index us t) ups ∙ set_there l.ups s t 0 n;
      spares = spares_clears C s l.crew b c m.crew clears;
    })
    spare (ap (λ us. slice_index us s) ups ∙ zeroed l.ups s) (up_clears C s l.crew b c m.crew clears)
    (below_clears C s (begun l.journal.past s) l.crew b c m.crew clears (h.each s).below)
    (ap (λ (x : Sat). x.board) clears.empties.sat_is ∙ (clears.revokes.thins.only.board_is ∙ clears.downs.only.board_is))

-- ---- it is installed, or revoked

pub installed_kept : (C : Config) (s k : ℕ) (l m : LauncherIs) → IsLauncher C l → m.journal ≡ l.journal → m.ups ≡ l.ups → SameHands l.crew m.crew → Installs s k l.crew.sat m.crew.sat → k ≤ begun l.journal.past s → up_in l s ≡ 0 → length C.services ≤ m.crew.room → IsLauncher C m
installed_kept C s k l m h journal ups hands installs most down spare = turned_down C s l m h
    (same_ups s l m journal ups (spares_installs s k l.crew m.crew hands installs)) spare (still_down s l m ups down)
    (ap (λ J. up_at_okd J s) installs.only.okd_is ∙ (h.each s).down down)
    (below_installs s k (begun l.journal.past s) l.crew m.crew most installs hands (h.each s).below)
    installs.only.board_is

pub revoked_kept : (C : Config) (s : ℕ) (l m : LauncherIs) → IsLauncher C l → m.journal ≡ l.journal → m.ups ≡ l.ups → SameHands l.crew m.crew → Revokes C s l.crew.sat m.crew.sat → up_in l s ≡ 0 → length C.services ≤ m.crew.room → IsLauncher C m
revoked_kept C s l m h journal ups hands revokes down spare = turned_down C s l m h
    (same_ups s l m journal ups (spares_thins s l.crew m.crew hands revokes.thins)) spare (still_down s l m ups down)
    (ap (λ J. up_at_okd J s) revokes.thins.only.okd_is ∙ (h.each s).down down)
    (below_thins s (begun l.journal.past s) l.crew m.crew revokes.thins hands (h.each s).below)
    revokes.thins.only.board_is

-- ---- its child is started, or not

tries_kept : (C : Config) (s k : ℕ) (l m : LauncherIs) → IsLauncher C l → m.journal ≡ l.journal → m.ups ≡ l.ups → Spares s l.crew m.crew → Tries s k l.crew m.crew → k ≤ begun l.journal.past s → up_in l s ≡ 0 → length C.services ≤ m.crew.room → IsLauncher C m
tries_kept C s k l m h journal ups spares tries most down spare = turned_down C s l m h
    (same_ups s l m journal ups spares) spare (still_down s l m ups down)
    (ap (λ (x : Sat). up_of x s) tries.sat_is ∙ (h.each s).down down)
    (below_tries s k (begun l.journal.past s) l.crew m.crew most tries (h.each s).below)
    (ap (λ (x : Sat). x.board) tries.sat_is)

pub started_kept : {A X : Type 0} (r : Result A X) (C : Config) (s k : ℕ) (l m : LauncherIs) → OnOk r (Starts s k l.crew m.crew) → OnErr r (Misses s k l.crew m.crew) → IsLauncher C l → m.journal ≡ l.journal → m.ups ≡ l.ups → k ≤ begun l.journal.past s → up_in l s ≡ 0 → length C.services ≤ m.crew.room → IsLauncher C m
started_kept r C s k l m ok err h journal ups most down spare = either_way r (Starts s k l.crew m.crew) (Misses s k l.crew m.crew) (IsLauncher C m) ok err
    (λ x. tries_kept C s k l m h journal ups (spares_starts s k l.crew m.crew x) x.tries most down spare)
    (λ x. tries_kept C s k l m h journal ups (spares_misses s k l.crew m.crew x) x.tries most down spare)

pub tries_of : {A X : Type 0} (r : Result A X) (s k : ℕ) (c d : CrewIs) → OnOk r (Starts s k c d) → OnErr r (Misses s k c d) → Tries s k c d
tries_of r s k c d ok err = either_way r (Starts s k c d) (Misses s k c d) (Tries s k c d) ok err (λ x. x.tries) (λ x. x.tries)

-- ---- it is up, or not

pub upped_kept : (C : Config) (s k : ℕ) (l m : LauncherIs) → IsLauncher C l → m.journal ≡ l.journal → m.ups ≡ slice_set l.ups s k → s < length C.services → SameHands l.crew m.crew → Ups s k l.crew.sat m.crew.sat → 0 < k → k ≤ begun l.journal.past s
    → StandsAt C s k l.crew.sat → RunsAs k (child_of l.crew s) → length C.services ≤ m.crew.room → IsLauncher C m
upped_kept C s k l m h journal ups within hands upped counted most stands child spare =
    let here : up_in m s ≡ k = ap (λ us. slice_index us s) ups ∙ set_here l.ups s k (subst (λ n. s < n) (sym h.ups_are) within) in
    let turned : Turned s l m = record {
      journal_is = journal;
      ups_are = ap length ups ∙ length-set l.ups s k;
      ups = λ t n. ap (λ us. slice_index us t) ups ∙ set_there l.ups s t k n;
      spares = spares_ups s k l.crew m.crew hands upped;
    } in
    keeps C s l m h (steps_of s l m turned) spare (kept_up C s k l m (record {
      begun_is = begun_same s l m turned;
      up = here;
      counted = counted;
      most = most;
      stands = record {
        up = upped.is;
        columns = λ at is. stands_okd l.crew.sat m.crew.sat upped.only at s ∙ stands at is;
        child = subst (λ (xs : List (Option Life)). RunsAs k (slice_index_or xs s None)) (sym hands.running_is) child;
      };
      below = below_okd s (begun l.journal.past s) l.crew m.crew upped.only hands (h.each s).below;
      shown = board_same C s l m h upped.only.board_is;
    }))

pub looked_kept : (C : Config) (s : ℕ) (l m : LauncherIs) → IsLauncher C l → m.journal ≡ l.journal → m.ups ≡ l.ups → SameHands l.crew m.crew → Looks l.crew.sat m.crew.sat → up_in l s ≡ 0 → length C.services ≤ m.crew.room → IsLauncher C m
looked_kept C s l m h journal ups hands looks down spare = turned_down C s l m h
    (same_ups s l m journal ups (spares_looks s l.crew m.crew hands looks)) spare (still_down s l m ups down)
    (looks.same s ∙ (h.each s).down down)
    (below_okd s (begun l.journal.past s) l.crew m.crew looks.only hands (h.each s).below)
    looks.only.board_is

-- ---- what is known of the children

pub stays_tried : {A X : Type 0} (r : Result A X) (s k : ℕ) (c d : CrewIs) → child_of c s ≡ None → OnOk r (Starts s k c d) → OnErr r (Misses s k c d) → StaysAttended c d
stays_tried r s k c d none ok err = either_way r (Starts s k c d) (Misses s k c d) (StaysAttended c d) ok err (stays_started s k c d none) (stays_missed s k c d none)
