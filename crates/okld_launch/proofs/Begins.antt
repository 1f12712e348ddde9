-- What the launcher's entries leave of the launcher, and what else leaves it as it is.
use Rattle.std.proofs.Common.{◌≡◌, ◌≢◌, ◌∙◌, ℕ, zero, suc, ◌+◌, ◌<◌, ◌≤◌, Bool, List, [], ◌∷◌, Option, Some, None, length, refl, sym, ap, subst, arith, eq-eqb, ne_eqb, get_or-set_other}
use Rattle.std.specs.Prelude.{slice_index, slice_set, replicate, max, if◌then◌else◌}
use Rattle.std.proofs.lemmas.List.{length-replicate}
use mathlib.Core.Logic.{dite}
use native.Mathlib.Decide.{ℕ_discrete}
use Rattle.okws_base.specs.Past.{last_by}
use Rattle.okws_base.specs.declared.journal.Entry.{Entry}
use Rattle.okws_plan.specs.declared.configuration.Config.{Config}
use Rattle.okws_plan.specs.declared.event.LauncherEvent.{LauncherEvent}
use Rattle.okws_plan.specs.declared.event.LauncherEvent.TheVariants as event
use Rattle.okws_plan.specs.declared.script.Place.{Place}
use Rattle.okws_plan.specs.declared.script.Place.TheVariants.{Proxy, Pubd, Oklogd}
use Rattle.okws_outer.specs.Lives.{Life, Asks}
use Rattle.okws_outer.specs.declared.child.Ended.{Ended}
use Rattle.monitor_model.specs.Cell.{last_booted}
use Rattle.monitor_model.specs.Launcher.{begun, begun_after}
use Rattle.monitor_model.specs.Seen.{proxy_past}
use Rattle.monitor_model.specs.Standing.{proxy_grant}
use Rattle.turn_lock.specs.Board.{services}
use Rattle.site_cells.proofs.Onlys.{only_else, new_at}
use Rattle.site_cells.specs.Row.{OnlyAt, seen_at}
use Rattle.launch_journal.specs.Launches.{Launches, entered}
use Rattle.site_locks.specs.Made.{fresh}
use Rattle.site_locks.specs.Sat.{Sat}
use Rattle.launch_crew.specs.Crews.{CrewIs, StaffIs, Below, Under, IsUp, RunsAs, child_of, crew_of, lasts_at, running_at, stands_at, up_of}
use Rattle.okld_launch.specs.Launchers.{LauncherIs, up_in, TriedAreBegun, IsKept, IsLauncher}
use Rattle.launch_crew.specs.Recorded.{Recorded, IsUnused}
use Rattle.launch_crew.specs.Steps.{AsksLife}
use Rattle.launch_crew.proofs.Slots.{set_there}
use Rattle.okld_launch.proofs.Keeps.{keeps}
use Rattle.okld_launch.proofs.Trying.{TriesBegun, begun_tried, none_tried}

-- the board after an incarnation was raised
board_set : (xs : List ℕ) (s k : ℕ) → slice_index (slice_set xs s k) s ≤ k
board_set [] s k = omega arith
board_set (x ∷ xs) zero k = omega arith
board_set (x ∷ xs) (suc s) k = board_set xs s k

-- what was begun after it
pub begun_here : (w s k : ℕ) (J : List (Entry LauncherEvent)) → k ≡ begun J s + 1 → begun (record { worker = w; event = event.Begun s k } ∷ J) s ≡ k
begun_here w s k J is = ap (λ (b : Bool). if b then max k (begun J s) else begun J s) (eq-eqb s s refl) ∙ omega (arith, is)

begun_there : (w s t k : ℕ) (J : List (Entry LauncherEvent)) → t ≢ s → begun (record { worker = w; event = event.Begun s k } ∷ J) t ≡ begun J t
begun_there w s t k J n = ap (λ (b : Bool). if b then max k (begun J t) else begun J t) (ne_eqb s t (λ is. n (sym is)))

-- the launcher after an incarnation was begun and raised
abbrev pub after_begun : ℕ → ℕ → LauncherIs → LauncherIs
after_begun s k l = record l { journal = entered l.journal (event.Begun s k); crew = record l.crew { sat = record l.crew.sat { board = slice_set l.crew.sat.board s k } } }

below_next : (s b k : ℕ) (c : CrewIs) → k ≡ b + 1 → Below s b c.sat c.watch → Below s k (record c.sat { board = slice_set c.sat.board s k }) c.watch
below_next s b k c is h = record {
  columns = λ at. omega (arith, is, h.columns at);
  cell = omega (arith, is, h.cell);
  board = board_set c.sat.board s k;
}

pub under_next : (s b k : ℕ) (c : CrewIs) → k ≡ b + 1 → Below s b c.sat c.watch → Under s k (record c { sat = record c.sat { board = slice_set c.sat.board s k } })
under_next s b k c is h = record { columns = λ at. omega (arith, is, h.columns at); cell = omega (arith, is, h.cell) }

kept_next : (C : Config) (s k : ℕ) (l : LauncherIs) → k ≡ begun l.journal.past s + 1 → slice_index (slice_set l.crew.sat.board s k) s ≡ k → IsKept C l s → IsKept C (after_begun s k l) s
kept_next C s k l is shown h =
    let now : begun (after_begun s k l).journal.past s ≡ k = begun_here l.journal.holder s k l.journal.past is in record {
      below = subst (λ j. Below s j (after_begun s k l).crew.sat (after_begun s k l).crew.watch) (sym now) (below_next s (begun l.journal.past s) k l.crew is h.below);
      shown = λ within. shown ∙ sym now;
      begun_is = subst (λ j. up_in l s ≤ j) (sym now) (omega (arith, is, h.begun_is));
      up = λ more. record { up = (h.up more).up; columns = (h.up more).columns; child = (h.up more).child };
      down = h.down;
    }

pub begins : (C : Config) (s k : ℕ) (l : LauncherIs) → k ≡ begun l.journal.past s + 1 → slice_index (slice_set l.crew.sat.board s k) s ≡ k → IsLauncher C l → IsLauncher C (after_begun s k l)
begins C s k l is shown h = keeps C s l (after_begun s k l) h (record {
  config_is = refl;
  ups_are = refl;
  begun_are = λ t n. begun_there l.journal.holder s t k l.journal.past n;
  tried_are = λ tried. begun_tried l.journal.holder s k l.journal.past tried;
  ups = λ t n. refl;
  spares = record {
    up = λ t n. refl;
    stands = λ t at n. refl;
    lasts = λ t at n. refl;
    board = λ t n. set_there l.crew.sat.board s t k n;
    cell = λ t n. refl;
    child = λ t n. refl;
  };
}) h.spare (kept_next C s k l is shown (h.each s))

-- an entry that begins nothing leaves what is kept
pub record EntersOther (l : LauncherIs) (journal : Launches) : Type 0 where
  pub config_is : journal.config ≡ l.journal.config
  pub begun_are : (t : ℕ) → begun journal.past t ≡ begun l.journal.past t
  pub tried_are : TriedAreBegun l.journal.past → TriedAreBegun journal.past

kept_entry : (C : Config) (l : LauncherIs) (journal : Launches) (t : ℕ) → EntersOther l journal → IsKept C l t → IsKept C (record l { journal = journal }) t
kept_entry C l journal t e h = record {
  below = subst (λ j. Below t j l.crew.sat l.crew.watch) (sym (e.begun_are t)) h.below;
  shown = λ within. h.shown within ∙ sym (e.begun_are t);
  begun_is = subst (λ j. up_in l t ≤ j) (sym (e.begun_are t)) h.begun_is;
  up = h.up;
  down = h.down;
}

pub enters : (C : Config) (l : LauncherIs) (journal : Launches) → EntersOther l journal → IsLauncher C l → IsLauncher C (record l { journal = journal })
enters C l journal e h = record {
  config_is = e.config_is ∙ h.config_is;
  tried_are = e.tried_are h.tried_are;
  ups_are = h.ups_are;
  spare = h.spare;
  each = λ t. kept_entry C l journal t e (h.each t);
}

-- a launcher of these parts, as contracts see it
abbrev pub launcher_of : Launches → Recorded → StaffIs → List ℕ → LauncherIs
launcher_of j r t us = record { journal = j; crew = crew_of r t; ups = us }

pub begun_kept : (C : Config) (s k : ℕ) (l m : LauncherIs) → m ≡ after_begun s k l → k ≡ begun l.journal.past s + 1 → slice_index m.crew.sat.board s ≡ k → IsLauncher C l → IsLauncher C m
begun_kept C s k l m is next shown h = subst (IsLauncher C) (sym is) (begins C s k l next (sym (ap (λ (x : LauncherIs). slice_index x.crew.sat.board s) is) ∙ shown) h)

-- an entry that is no Begun
pub tried_on : (w : ℕ) (e : LauncherEvent) (J : List (Entry LauncherEvent)) → ((t : ℕ) → begun_after e t (begun J t) ≡ begun J t) → TriesBegun J e → TriedAreBegun J → TriedAreBegun (record { worker = w; event = e } ∷ J)
tried_on w e J same tries h = λ t k less. let before : begun J t < k = subst (λ n. n < k) (same t) less in tries t k before (h t k before)

pub entered_other : (C : Config) (l : LauncherIs) (j : Launches) (e : LauncherEvent) → ((t : ℕ) → begun_after e t (begun l.journal.past t) ≡ begun l.journal.past t) → TriesBegun l.journal.past e → j ≡ entered l.journal e → IsLauncher C l → IsLauncher C (record l { journal = j })
entered_other C l j e same tries is h = enters C l j (record {
  config_is = ap (λ (x : Launches). x.config) is;
  begun_are = λ t. ap (λ (x : Launches). begun x.past t) is ∙ same t;
  tried_are = λ tried. subst (λ (x : Launches). TriedAreBegun x.past) (sym is) (tried_on l.journal.holder e l.journal.past same tries tried);
}) h

-- the journal's room, or its holder, is another
pub same_entries : (C : Config) (l : LauncherIs) (j : Launches) → j.config ≡ l.journal.config → j.past ≡ l.journal.past → IsLauncher C l → IsLauncher C (record l { journal = j })
same_entries C l j config past h = enters C l j (record { config_is = config; begun_are = λ t. ap (λ J. begun J t) past; tried_are = λ tried. subst TriedAreBegun (sym past) tried }) h

-- ---- the crew's room, the children, or what was seen at cells, is another

pub record SameCrew (c d : CrewIs) : Type 0 where
  pub sat_is : d.sat ≡ c.sat
  pub last : (t : ℕ) → last_booted (seen_at d.watch t) ≡ last_booted (seen_at c.watch t)
  pub runs : (t k : ℕ) → RunsAs k (child_of c t) → RunsAs k (child_of d t)
  pub room : c.room ≤ d.room

same_below : (t k : ℕ) (c d : CrewIs) → SameCrew c d → Below t k c.sat c.watch → Below t k d.sat d.watch
same_below t k c d h b = record {
  columns = λ at. subst (λ (x : Sat). lasts_at x at t ≤ k) (sym h.sat_is) (b.columns at);
  cell = subst (λ n. n ≤ k) (sym (h.last t)) b.cell;
  board = subst (λ (x : Sat). slice_index x.board t ≤ k) (sym h.sat_is) b.board;
}

same_up : (C : Config) (t k : ℕ) (c d : CrewIs) → SameCrew c d → IsUp C t k c → IsUp C t k d
same_up C t k c d h u = record {
  up = ap (λ (x : Sat). up_of x t) h.sat_is ∙ u.up;
  columns = λ at is. ap (λ (x : Sat). stands_at x at t) h.sat_is ∙ u.columns at is;
  child = h.runs t k u.child;
}

same_kept : (C : Config) (l : LauncherIs) (d : CrewIs) (t : ℕ) → SameCrew l.crew d → IsKept C l t → IsKept C (record l { crew = d }) t
same_kept C l d t h k = record {
  below = same_below t (begun l.journal.past t) l.crew d h k.below;
  shown = λ within. ap (λ (x : Sat). slice_index x.board t) h.sat_is ∙ k.shown within;
  begun_is = k.begun_is;
  up = λ more. same_up C t (up_in l t) l.crew d h (k.up more);
  down = λ none. ap (λ (x : Sat). up_of x t) h.sat_is ∙ k.down none;
}

longer : (n a b : ℕ) → n ≤ a → a ≤ b → n ≤ b
longer n a b x y = omega arith

pub same_crew : (C : Config) (l : LauncherIs) (d : CrewIs) → SameCrew l.crew d → IsLauncher C l → IsLauncher C (record l { crew = d })
same_crew C l d h k = record {
  config_is = k.config_is;
  tried_are = k.tried_are;
  ups_are = k.ups_are;
  spare = longer (length C.services) l.crew.room d.room k.spare h.room;
  each = λ t. same_kept C l d t h (k.each t);
}

-- more room
pub roomier : (c d : CrewIs) (room : ℕ) → d ≡ record c { room = room } → c.room ≤ room → SameCrew c d
roomier c d room is more = subst (SameCrew c) (sym is) (record { sat_is = refl; last = λ t. refl; runs = λ t k h. h; room = more })

-- a note was taken in
pub met : (u : ℕ) (c d : CrewIs) → d.sat ≡ c.sat → OnlyAt u c.watch d.watch → last_booted (seen_at d.watch u) ≡ last_booted (seen_at c.watch u) → d.running ≡ c.running → d.room ≡ c.room → SameCrew c d
met u c d sat only last running room = record {
  sat_is = sat;
  last = λ t. dite (ℕ_discrete t u)
      (λ is. subst (λ m. last_booted (seen_at d.watch m) ≡ last_booted (seen_at c.watch m)) (sym is) last)
      (λ apart. ap last_booted (only_else u t c.watch d.watch apart only));
  runs = λ t k h. subst (λ xs. RunsAs k (running_at xs t)) (sym running) h;
  room = omega (arith, room);
}

-- a child was asked
no_child : (a : Life) → None ≡ Some a → ⊥
no_child a h = absurd (cc)

set_child : (xs : List (Option Life)) (s : ℕ) (a b : Life) → running_at xs s ≡ Some a → running_at (slice_set xs s (Some b)) s ≡ Some b
set_child [] s a b h = absurd (no_child a h)
set_child (x ∷ xs) zero a b h = refl
set_child (x ∷ xs) (suc s) a b h = set_child xs s a b h

same_runs : (k : ℕ) (a b : Life) (answer : Ended) → Asks a b answer → RunsAs k (Some a) → RunsAs k (Some b)
same_runs k a b answer asks h = (ap (λ (x : Life). x.incarnation) asks.life ∙ h.0, ap (λ (x : Life). x.stopped) asks.life ∙ h.1)

pub asked : (s : ℕ) (answer : Ended) (r : Recorded) (a b : StaffIs) → AsksLife s a answer b → SameCrew (crew_of r a) (crew_of r b)
asked s answer r a b h = record {
  sat_is = refl;
  last = λ t. refl;
  runs = λ t k x. dite (ℕ_discrete t s)
      (λ is.
      let there : running_at b.running s ≡ Some h.after = ap (λ (y : StaffIs). running_at y.running s) h.is ∙ set_child a.running s h.before h.after h.was in
      subst (λ m. RunsAs k (running_at b.running m)) (sym is) (subst (RunsAs k) (sym there) (same_runs k h.before h.after answer h.asks (subst (RunsAs k) h.was (subst (λ m. RunsAs k (running_at a.running m)) is x)))))
      (λ apart.
      let there : running_at b.running t ≡ running_at a.running t = ap (λ (y : StaffIs). running_at y.running t) h.is ∙ get_or-set_other a.running s t (Some h.after) None apart in
      subst (RunsAs k) (sym there) x);
  room = omega arith;
}

-- ---- nothing was launched

pub no_ups : (n s : ℕ) → slice_index (replicate n 0) s ≡ 0
no_ups zero s = refl
no_ups (suc n) zero = refl
no_ups (suc n) (suc s) = no_ups n s

no_rows : (m p : ℕ) → proxy_past (replicate m []) p ≡ []
no_rows zero p = refl
no_rows (suc m) zero = refl
no_rows (suc m) (suc p) = no_rows m p

no_lasts : (m n : ℕ) (at : Place) (s : ℕ) → lasts_at (fresh m n) at s ≡ 0
no_lasts m n (Proxy p) s = ap (λ J. last_by proxy_grant J s) (no_rows m p)
no_lasts m n Pubd s = refl
no_lasts m n Oklogd s = refl

unused_below : (C : Config) (n s k : ℕ) (r : Recorded) → IsUnused C n r → Below s k r.sat r.watch
unused_below C n s k r h = record {
  columns = λ at. subst (λ (x : Sat). lasts_at x at s ≤ k) (sym h.sat_is) (omega (arith, no_lasts (length C.proxies) n at s));
  cell = omega (arith, ap last_booted (new_at (length C.services) n s r.watch h.watch_is));
  board = subst (λ (x : Sat). slice_index x.board s ≤ k) (sym h.sat_is) (omega (arith, no_ups services s));
}

not_more : (n : ℕ) → n ≡ 0 → 0 < n → ⊥
not_more n is more = omega (arith, is, more)

pub unused_kept : (C : Config) (n : ℕ) (l : LauncherIs) (r : Recorded) (t : StaffIs) → l.journal.config ≡ C → l.journal.past ≡ [] → l.crew ≡ crew_of r t → IsUnused C n r → length C.services ≤ r.room → l.ups ≡ replicate (length C.services) 0 → IsLauncher C l
unused_kept C n l r t config past crew unused spare ups =
    let none : (s : ℕ) → up_in l s ≡ 0 = λ s. ap (λ us. slice_index us s) ups ∙ no_ups (length C.services) s in
    record {
      config_is = config;
      tried_are = none_tried l.journal.past past;
      ups_are = ap length ups ∙ length-replicate (length C.services) 0;
      spare = subst (λ (c : CrewIs). length C.services ≤ c.room) (sym crew) spare;
      each = λ s. record {
        below = subst (λ (c : CrewIs). Below s (begun l.journal.past s) c.sat c.watch) (sym crew) (unused_below C n s (begun l.journal.past s) r unused);
        shown = λ within. ap (λ (c : CrewIs). slice_index c.sat.board s) crew ∙ (ap (λ (x : Sat). slice_index x.board s) unused.sat_is ∙ (no_ups services s ∙ sym (ap (λ J. begun J s) past)));
        begun_is = omega (arith, none s);
        up = λ more. absurd (not_more (up_in l s) (none s) more);
        down = λ is. ap (λ (c : CrewIs). up_of c.sat s) crew ∙ ap (λ (x : Sat). up_of x s) unused.sat_is;
      };
    }
