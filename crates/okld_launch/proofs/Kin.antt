-- What each step of a launch leaves of what is told of the children.
use Rattle.std.proofs.Common.{◌≡◌, ◌≢◌, ◌∙◌, ⊎_elim, ℕ, zero, suc, ◌+◌, ◌<◌, ◌≤◌, Bool, true, false, cond, List, [], ◌∷◌, ◌++◌, Option, Some, None, refl, sym, ap, subst, arith, eq-eqb, ne_eqb, inl, inr}
use Rattle.std.specs.Prelude.{◌==◌, ◌&&◌, ◌||◌, if◌then◌else◌, count_by, slice_set}
use Rattle.std.specs.List.{list_any}
use Rattle.std.proofs.lemmas.Bool.{and_parts, eqb-true, false≢true, or_cases, true≢false}
use Rattle.std.proofs.lemmas.List.{append_assoc}
use Rattle.std.proofs.lemmas.List.Sums.{sum_by-append, sum_by-cons}
use Rattle.std.proofs.lemmas.Map.Views.{any-filter_same}
use Rattle.okws_base.specs.Runs.{Each}
use Rattle.okws_base.specs.declared.journal.Entry.{Entry}
use Rattle.okws_plan.specs.declared.configuration.Config.{Config}
use Rattle.okws_plan.specs.declared.event.LauncherEvent.{LauncherEvent}
use Rattle.okws_outer.specs.Families.{Family}
use Rattle.okws_outer.specs.Lives.{Life}
use Rattle.okws_outer.specs.declared.children.ChildEnd.{ChildEnd}
use Rattle.okws_outer.specs.declared.children.ChildStart.{ChildStart}
use Rattle.monitor_model.specs.declared.record.CellEvent.{CellEvent}
use Rattle.monitor_model.specs.declared.record.CellEvent.TheVariants as cell
use Rattle.monitor_model.specs.declared.record.Own.{Own}
use Rattle.monitor_model.specs.Cell.{last_booted}
use Rattle.monitor_model.specs.First.{is_boot_of}
use Rattle.monitor_model.specs.Launcher.{begun}
use Rattle.monitor_model.specs.Merged.{is_at_cell}
use Rattle.site_cells.specs.Row.{CellsSeen, seen_at}
use Rattle.site_locks.specs.Sat.{Sat}
use Rattle.launch_crew.specs.Crews.{CrewIs, child_of, running_at}
use Rattle.launch_crew.specs.Listed.{CellsGo}
use Rattle.launch_crew.specs.Recorded.{AreOwn}
use Rattle.launch_crew.specs.Finished.{EndsAt, is_end_of, runs_as}
use Rattle.okld_launch.proofs.Boots.{BootsSame}
use Rattle.okld_launch.specs.Kin.{AreKin, IsEnd, Unstarted, is_boot, is_start_of}
use Rattle.okld_launch.proofs.Booted.{boot_there, booted_in}

-- ---- one child was put in the place of another

pub some_here : (lives : List (Option Life)) (s : ℕ) (before after : Life) → running_at lives s ≡ Some before → running_at (slice_set lives s (Some after)) s ≡ Some after
some_here [] s before after is = absurd (cc)
some_here (x ∷ lives) zero before after is = refl
some_here (x ∷ lives) (suc s) before after is = some_here lives s before after is

pub here_else : (lives : List (Option Life)) (s t : ℕ) (x : Option Life) → t ≢ s → running_at (slice_set lives s x) t ≡ running_at lives t
here_else [] s t x apart = refl
here_else (y ∷ lives) zero zero x apart = absurd (apart refl)
here_else (y ∷ lives) zero (suc t) x apart = refl
here_else (y ∷ lives) (suc s) zero x apart = refl
here_else (y ∷ lives) (suc s) (suc t) x apart = here_else lives s t x (λ is. apart (ap suc is))

-- ---- how many there are of one incarnation

pub start_cons : (s k : ℕ) (e : ChildStart) (es : List ChildStart) → count_by (is_start_of s k) (e ∷ es) ≡ cond (is_start_of s k e) 1 0 + count_by (is_start_of s k) es
start_cons s k e es = sum_by-cons (λ (x : ChildStart). cond (is_start_of s k x) 1 0) e es

pub end_cons : (s k : ℕ) (e : ChildEnd) (es : List ChildEnd) → count_by (is_end_of s k) (e ∷ es) ≡ cond (is_end_of s k e) 1 0 + count_by (is_end_of s k) es
end_cons s k e es = sum_by-cons (λ (x : ChildEnd). cond (is_end_of s k x) 1 0) e es

pub end_append : (s k : ℕ) (es more : List ChildEnd) → count_by (is_end_of s k) (es ++ more) ≡ count_by (is_end_of s k) es + count_by (is_end_of s k) more
end_append s k es more = sum_by-append (λ (x : ChildEnd). cond (is_end_of s k x) 1 0) es more

cond_if : (b : Bool) → ◌≡◌ {A = ℕ} (cond b 1 0) (if b then 1 else 0)
cond_if true = refl
cond_if false = refl

abbrev pub if_one : ℕ → ℕ → ℕ
if_one n j = if n == j then 1 else 0

-- of a service's own child, and of another's
pub here : (s t k j : ℕ) → t ≡ s → ◌≡◌ {A = ℕ} (cond ((s == t) && (k == j)) 1 0) (if k == j then 1 else 0)
here s t k j is = rw (eq-eqb s t (sym is)) (cond_if (k == j))

pub elsewhere : (s t k j : ℕ) → t ≢ s → ◌≡◌ {A = ℕ} (cond ((s == t) && (k == j)) 1 0) 0
elsewhere s t k j apart = rw (ne_eqb s t (λ is. apart (sym is))) refl

pub runs_same : (x y : Option Life) (k : ℕ) → y ≡ x → runs_as y k ≡ runs_as x k
runs_same x y k is = ap (λ (o : Option Life). runs_as o k) is

-- ---- the Boots of a list

pub no_boot : (b c : Bool) → b ≡ false → (b || c) ≡ c
no_boot true c h = absurd (true≢false h)
no_boot false c h = refl

-- a Boot of the list was seen in its cell
pub by_bool : (b : Bool) → (b ≡ true → ⊥) → b ≡ false
by_bool true h = absurd (h refl)
by_bool false h = refl

booted_most : (k : ℕ) (J : List CellEvent) → list_any (is_boot_of k) J ≡ true → k ≤ last_booted J
booted_most k [] h = absurd (false≢true h)
booted_most k (cell.Boot j ∷ J) h = ⊎_elim (λ now. omega (arith, eqb-true j k now)) (λ old. omega (arith, booted_most k J old)) (or_cases (j == k) (list_any (is_boot_of k) J) h)
booted_most k (cell.Retired ∷ J) h = booted_most k J h
booted_most k (cell.Missed worker wanted is ∷ J) h = booted_most k J h
booted_most k (cell.Dialog d ∷ J) h = booted_most k J h
booted_most k (cell.Speaking worker items ∷ J) h = booted_most k J h

pub none_above : (n : ℕ) (sat : Sat) (w : CellsSeen) (items : List Own) (s k : ℕ) → AreOwn n sat w items → last_booted (seen_at w s) < k → list_any (is_boot s k) items ≡ false
none_above n sat w items s k did later = by_bool (list_any (is_boot s k) items) (λ is.
    let there : list_any (is_boot_of k) (seen_at w s) ≡ true = booted_in n s k (seen_at w s) (subst (λ (xs : List Own). list_any (is_boot s k) xs ≡ true) (sym (did.cells s)) (any-filter_same (is_boot s k) (is_at_cell s) true (boot_there s k) items ∙ is)) in
    omega (arith, booted_most k (seen_at w s) there, later))

-- ---- how many were started

start_append : (s k : ℕ) (es more : List ChildStart) → count_by (is_start_of s k) (es ++ more) ≡ count_by (is_start_of s k) es + count_by (is_start_of s k) more
start_append s k es more = sum_by-append (λ (x : ChildStart). cond (is_start_of s k x) 1 0) es more

pub none_started : (s k : ℕ) (starts : List ChildStart) (first now : Family) → now.started ≡ starts ++ first.started → Unstarted s k first now → count_by (is_start_of s k) starts ≡ 0
none_started s k starts first now is un =
    let more : count_by (is_start_of s k) now.started ≡ count_by (is_start_of s k) (starts ++ first.started) = ap (count_by (is_start_of s k)) is in
    let same : count_by (is_start_of s k) now.started ≡ count_by (is_start_of s k) first.started = un in
    omega (arith, more, same, start_append s k starts first.started)

pub unstarted_next : (C : Config) (seed : List ℕ) (first : Family) (J : List (Entry LauncherEvent)) (s k : ℕ) (c : CrewIs) → begun J s < k → AreKin C seed first J c → Unstarted s k first c.family
unstarted_next C seed first J s k c below kin =
    let more : count_by (is_start_of s k) c.family.started ≡ count_by (is_start_of s k) (kin.starts ++ first.started) = ap (count_by (is_start_of s k)) kin.started_is in
    omega (arith, more, start_append s k kin.starts first.started, kin.begun_are s k below)

pub unstarted_same : (s k : ℕ) (first f g : Family) → g.started ≡ f.started → Unstarted s k first f → Unstarted s k first g
unstarted_same s k first f g is un = ap (count_by (is_start_of s k)) is ∙ un

only : (b : Bool) (n : ℕ) → (b ≡ true → n ≡ 0) → n ≤ 1 → cond b 1 0 + n ≤ 1
only true n none most = omega (arith, none refl)
only false n none most = omega (arith, most)

never : (b : Bool) (n : ℕ) → (b ≡ true → ⊥) → n ≡ 0 → cond b 1 0 + n ≡ 0
never true n other none = absurd (other refl)
never false n other none = omega (arith, none)

pub some_or : (b c : Bool) (n : ℕ) → (c ≡ true → 0 < n) → (b || c) ≡ true → 0 < cond b 1 0 + n
some_or true c n h is = omega arith
some_or false c n h is = let more : 0 < n = h is in omega (arith, more)

-- one child more
module _ (s k : ℕ) (start : ChildStart) (is_service : start.service ≡ s) (is_incarnation : start.incarnation ≡ k) (starts : List ChildStart) (fresh : count_by (is_start_of s k) starts ≡ 0) where
  mine : (t j : ℕ) → is_start_of t j start ≡ true → (s ≡ t) × (k ≡ j)
  mine t j is =
      let both = and_parts (start.service == t) (start.incarnation == j) is in
      (sym is_service ∙ eqb-true start.service t both.0, sym is_incarnation ∙ eqb-true start.incarnation j both.1)

  pub one_once : (t j : ℕ) → count_by (is_start_of t j) starts ≤ 1 → count_by (is_start_of t j) (start ∷ starts) ≤ 1
  one_once t j most =
      let x : cond (is_start_of t j start) 1 0 + count_by (is_start_of t j) starts ≤ 1 = only (is_start_of t j start) (count_by (is_start_of t j) starts) (λ is. (λ i. count_by (is_start_of (sym (mine t j is).0 i) (sym (mine t j is).1 i)) starts) ∙ fresh) most in
      omega (arith, start_cons t j start starts, x)

  pub one_begun : (J : List (Entry LauncherEvent)) (t j : ℕ) → k ≤ begun J s → begun J t < j → count_by (is_start_of t j) starts ≡ 0 → count_by (is_start_of t j) (start ∷ starts) ≡ 0
  one_begun J t j most below none =
      let x : cond (is_start_of t j start) 1 0 + count_by (is_start_of t j) starts ≡ 0 = never (is_start_of t j start) (count_by (is_start_of t j) starts) (λ is. omega (arith, ap (begun J) (mine t j is).0, (mine t j is).1, most, below)) none in
      omega (arith, start_cons t j start starts, x)

-- ---- the same children

pub ends_go : (C : Config) (seed : List ℕ) (w v : CellsSeen) (e : ChildEnd) → CellsGo w v → EndsAt C seed w e → EndsAt C seed v e
ends_go C seed w v e go h = record {
  events = h.events;
  behind = (
    (go e.service).0 ++ h.behind.0,
    (go e.service).1 ∙ ap (λ (J : List CellEvent). (go e.service).0 ++ J) h.behind.1 ∙ sym (append_assoc (go e.service).0 h.behind.0 h.events),
  );
  empty = h.empty;
  last = h.last;
  whose = h.whose;
  given = h.given;
  taken = h.taken;
  faults = h.faults;
}

end_goes : (C : Config) (seed : List ℕ) (w v : CellsSeen) (xs ys : List Own) (e : ChildEnd) → CellsGo w v → BootsSame xs ys → IsEnd C seed w xs e → IsEnd C seed v ys e
end_goes C seed w v xs ys e go same (inl h) = inl (ends_go C seed w v e go h)
end_goes C seed w v xs ys e go same (inr h) = inr (record { given = h.given; whose = h.whose; untaken = h.untaken; unbooted = same e.service e.incarnation ∙ h.unbooted })

pub each_goes : (C : Config) (seed : List ℕ) (w v : CellsSeen) (xs ys : List Own) (es : List ChildEnd) → CellsGo w v → BootsSame xs ys → Each (IsEnd C seed w xs) es → Each (IsEnd C seed v ys) es
each_goes C seed w v xs ys [] go same h = tt
each_goes C seed w v xs ys (e ∷ es) go same h = (end_goes C seed w v xs ys e go same h.0, each_goes C seed w v xs ys es go same h.1)

pub kin_moved : (C : Config) (seed : List ℕ) (first : Family) (J : List (Entry LauncherEvent)) (c d : CrewIs) → d.running ≡ c.running → d.family.started ≡ c.family.started → d.family.finished ≡ c.family.finished → CellsGo c.watch d.watch → BootsSame c.own d.own →
    AreKin C seed first J c → AreKin C seed first J d
kin_moved C seed first J c d running started finished go same kin = record {
  starts = kin.starts;
  started_is = started ∙ kin.started_is;
  starts_are = kin.starts_are;
  ends = kin.ends;
  finished_is = finished ∙ kin.finished_is;
  ends_are = each_goes C seed c.watch d.watch c.own d.own kin.ends go same kin.ends_are;
  all = λ s k. kin.all s k ∙ ap (λ (n : ℕ). count_by (is_end_of s k) kin.ends + n) (sym (runs_same (running_at c.running s) (running_at d.running s) k (ap (λ (lives : List (Option Life)). running_at lives s) running)));
  once = kin.once;
  alone = kin.alone;
  begun_are = kin.begun_are;
  booted = λ s k is. kin.booted s k (sym (same s k) ∙ is);
}

pub kin_stays : (C : Config) (seed : List ℕ) (first : Family) (J : List (Entry LauncherEvent)) (c d : CrewIs) → d.running ≡ c.running → d.family ≡ c.family → CellsGo c.watch d.watch → BootsSame c.own d.own → AreKin C seed first J c → AreKin C seed first J d
kin_stays C seed first J c d running family go same kin = kin_moved C seed first J c d running (ap (λ (f : Family). f.started) family) (ap (λ (f : Family). f.finished) family) go same kin

-- more was entered
pub kin_entered : (C : Config) (seed : List ℕ) (first : Family) (J K : List (Entry LauncherEvent)) (c : CrewIs) → ((t : ℕ) → begun J t ≤ begun K t) → AreKin C seed first J c → AreKin C seed first K c
kin_entered C seed first J K c more kin = record {
  starts = kin.starts;
  started_is = kin.started_is;
  starts_are = kin.starts_are;
  ends = kin.ends;
  finished_is = kin.finished_is;
  ends_are = kin.ends_are;
  all = kin.all;
  once = kin.once;
  alone = kin.alone;
  begun_are = λ s k below. kin.begun_are s k (omega (arith, more s, below));
  booted = kin.booted;
}

-- none was started yet
pub kin_none : (C : Config) (seed : List ℕ) (first : Family) (J : List (Entry LauncherEvent)) (c : CrewIs) → J ≡ [] → c.family ≡ first → ((s : ℕ) → child_of c s ≡ None) → c.own ≡ [] → AreKin C seed first J c
kin_none C seed first J c past is none own_is = record {
  starts = [];
  started_is = ap (λ (f : Family). f.started) is;
  starts_are = tt;
  ends = [];
  finished_is = ap (λ (f : Family). f.finished) is;
  ends_are = tt;
  all = λ s k.
      let idle : runs_as (running_at c.running s) k ≡ 0 = runs_same None (running_at c.running s) k (none s) in
      omega (arith, idle);
  once = λ s k. omega arith;
  alone = tt;
  begun_are = λ s k below. refl;
  booted = λ s k is. absurd (false≢true (sym (ap (list_any (is_boot s k)) own_is) ∙ is));
}
