-- For each Failed, and for each dialog that ended by a fault of a link that is out, a fault was told.
use Rattle.std.proofs.Common.{◌≡◌, ◌∙◌, ⊎_elim, ℕ, zero, suc, ◌+◌, ◌-◌, ◌^◌, ◌<◌, ◌≤◌, Bool, true, false, cond, List, [], ◌∷◌, ◌++◌, Option, Some, None, refl, sym, ap, subst, arith}
use Rattle.std.specs.Prelude.{count_by, min}
use Rattle.std.proofs.lemmas.Bool.{false≢true, lt-ltb}
use Rattle.std.proofs.lemmas.List.Sums.{sum_by-append, sum_by-cons}
use Rattle.okws_base.specs.declared.journal.Entry.{Entry}
use Rattle.okws_outer.specs.Families.{Family}
use Rattle.okws_outer.specs.Lives.{Life}
use Rattle.okws_outer.specs.Streams.{Rose, counted}
use Rattle.okws_outer.specs.declared.child.Ended.{Ended}
use Rattle.okws_outer.specs.declared.children.ChildEnd.{ChildEnd}
use Rattle.okws_plan.specs.declared.configuration.Config.{Config}
use Rattle.okws_plan.specs.declared.event.LauncherEvent.{LauncherEvent}
use Rattle.okws_plan.specs.declared.event.LauncherEvent.TheVariants as event
use Rattle.monitor_model.specs.declared.record.CellEvent.{CellEvent}
use Rattle.monitor_model.specs.Launches.{is_failed}
use Rattle.site_cells.specs.Row.{CellsSeen, IsNew, link_at, seen_at}
use Rattle.site_cells.proofs.Onlys.{new_at}
use Rattle.launch_journal.specs.Launches.{Launches, entered}
use Rattle.launch_crew.specs.Crews.{CrewIs, StaffIs, child_of, crew_of}
use Rattle.launch_crew.specs.Ended.{Attended, Attends}
use Rattle.launch_crew.specs.Finished.{EndsAll, EndsOf, all_out, faults_out, has_fault, one_if, out_at}
use Rattle.launch_crew.specs.Recorded.{Recorded}
use Rattle.launch_crew.specs.Steps.{AsksLife, Tries}
use Rattle.launch_crew.specs.Told.{FailsBy, FinishesFaulty, TellsMore}
use Rattle.monitor_model.specs.Cell.{last_booted}
use Rattle.okld_launch.specs.Failures.{FaultsAreTold}

-- ---- how many there are

abbrev failures_in : List (Entry LauncherEvent) → ℕ
failures_in J = count_by (λ (e : Entry LauncherEvent). is_failed e.event) J

abbrev faulty : List ChildEnd → ℕ
faulty es = count_by has_fault es

one_failed : (w s k : ℕ) (J : List (Entry LauncherEvent)) → failures_in (record { worker = w; event = event.Failed s k } ∷ J) ≤ suc (failures_in J)
one_failed w s k J =
    let more : failures_in (record { worker = w; event = event.Failed s k } ∷ J) ≡ 1 + failures_in J = sum_by-cons (λ (e : Entry LauncherEvent). cond (is_failed e.event) 1 0) (record { worker = w; event = event.Failed s k }) J in
    omega (arith, more)

one_or_none : (b : Bool) → ◌≡◌ {A = ℕ} (cond b 1 0) (one_if b)
one_or_none true = refl
one_or_none false = refl

fault_cons : (e : ChildEnd) (es : List ChildEnd) → faulty (e ∷ es) ≡ one_if (has_fault e) + faulty es
fault_cons e es = sum_by-cons (λ (x : ChildEnd). cond (has_fault x) 1 0) e es ∙ ap (λ (n : ℕ). n + faulty es) (one_or_none (has_fault e))

fault_append : (es more : List ChildEnd) → faulty (es ++ more) ≡ faulty es + faulty more
fault_append es more = sum_by-append (λ (x : ChildEnd). cond (has_fault x) 1 0) es more

more_faulty : (f g : Family) → TellsMore f g → faulty f.finished ≤ faulty g.finished
more_faulty f g m = omega (arith, ap faulty m.finished_is, fault_append m.ends f.finished)

-- ---- the counts

still_counted : (a n f g : ℕ) → f ≤ g → counted a n ≤ f → counted a n ≤ g
still_counted a n f g later h = let x : min (a + n) (2 ^ 64 - 1) ≤ f = h in omega (arith, later, x)

one_counted : (a n f g : ℕ) → Rose f g → counted a n ≤ f → counted a (suc n) ≤ g
one_counted a n f g rose h =
    let r : min (f + 1) (2 ^ 64 - 1) ≤ g = rose in
    let x : min (a + n) (2 ^ 64 - 1) ≤ f = h in
    omega (arith, r, x)

still_within : (a j o p b e f : ℕ) → p ≤ o → e ≤ f → a + (j + o) ≤ b + e → a + (j + p) ≤ b + f
still_within a j o p b e f out more h = omega (arith, out, more, h)

start_within : (a j i o p b e f : ℕ) → i ≤ suc j → p ≤ o → e ≤ f → a + (j + o) ≤ b + e → a + (i + p) ≤ suc b + f
start_within a j i o p b e f one out more h = omega (arith, one, out, more, h)

end_within : (a j i o p b e f : ℕ) → i ≤ suc j → p ≤ o → suc e ≤ f → a + (j + o) ≤ b + e → a + (i + p) ≤ b + f
end_within a j i o p b e f one out more h = omega (arith, one, out, more, h)

one_within : (a j o p b e f x : ℕ) → p ≤ o + x → f ≡ x + e → a + (j + o) ≤ b + e → a + (j + p) ≤ b + f
one_within a j o p b e f x out more h = omega (arith, out, more, h)

nothing_within : (a o e : ℕ) → o ≡ 0 → e ≡ a → a + (0 + o) ≤ 0 + e
nothing_within a o e none same = omega (arith, none, same)

none_counted : (a b : ℕ) → b ≡ a → counted a 0 ≤ b
none_counted a b is = omega (arith, is)

-- ---- nothing was seen yet

out_new : (link : Bool) (J : List CellEvent) → link ≡ false → J ≡ [] → faults_out link J ≡ 0
out_new link J unlinked none = ap (λ (b : Bool). faults_out b J) unlinked ∙ ap (faults_out false) none

no_more : (a b : ℕ) → a ≡ 0 → b ≡ 0 → a + b ≡ 0
no_more a b p q = omega (arith, p, q)

all_new : (cells number : ℕ) (w : CellsSeen) → IsNew cells number w → (n : ℕ) → all_out w n ≡ 0
all_new cells number w h zero = refl
all_new cells number w h (suc n) = no_more (out_at w n) (all_out w n) (out_new (link_at w n) (seen_at w n) (h.unlinked n) (new_at cells number n w h)) (all_new cells number w h n)

module _ (first : Family) where
  pub no_faults : (J : List (Entry LauncherEvent)) (cells number : ℕ) (c : CrewIs) → J ≡ [] → c.family ≡ first → IsNew cells number c.watch → FaultsAreTold first J c
  no_faults J cells number c none is new = subst (λ (I : List (Entry LauncherEvent)). FaultsAreTold first I c) (sym none) (record {
    by_starts = 0;
    starts = none_counted first.faults c.family.faults (ap (λ (f : Family). f.faults) is);
    all = λ n. nothing_within (faulty first.finished) (all_out c.watch n) (faulty c.family.finished) (all_new cells number c.watch new n) (ap (λ (f : Family). faulty f.finished) is);
  })

  -- ---- the journal

  pub faults_past : (J K : List (Entry LauncherEvent)) (c : CrewIs) → K ≡ J → FaultsAreTold first J c → FaultsAreTold first K c
  faults_past J K c is h = subst (λ (I : List (Entry LauncherEvent)). FaultsAreTold first I c) (sym is) h

  other : (w : ℕ) (e : LauncherEvent) (J : List (Entry LauncherEvent)) (c : CrewIs) → is_failed e ≡ false → FaultsAreTold first J c → FaultsAreTold first (record { worker = w; event = e } ∷ J) c
  other w (event.Begun s k) J c none h = record { by_starts = h.by_starts; starts = h.starts; all = h.all }
  other w (event.Failed s k) J c none h = absurd (false≢true (sym none))
  other w (event.Crashed s k) J c none h = record { by_starts = h.by_starts; starts = h.starts; all = h.all }
  other w (event.Dead s n) J c none h = record { by_starts = h.by_starts; starts = h.starts; all = h.all }
  other w (event.Asked s) J c none h = record { by_starts = h.by_starts; starts = h.starts; all = h.all }

  -- an event that is no Failed
  pub faults_entered : (e : LauncherEvent) (j i : Launches) (c : CrewIs) → is_failed e ≡ false → i ≡ entered j e → FaultsAreTold first j.past c → FaultsAreTold first i.past c
  faults_entered e j i c none is h = subst (λ (x : Launches). FaultsAreTold first x.past c) (sym is) (other j.holder e j.past c none h)

  -- ---- the crew

  -- nothing more was told of the children, and no link is out that wasn't
  pub faults_seen : (J : List (Entry LauncherEvent)) (c d : CrewIs) → d.family ≡ c.family → ((n : ℕ) → all_out d.watch n ≤ all_out c.watch n) → FaultsAreTold first J c → FaultsAreTold first J d
  faults_seen J c d family out h = record {
    by_starts = h.by_starts;
    starts = subst (λ (f : Family). counted first.faults h.by_starts ≤ f.faults) (sym family) h.starts;
    all = λ n. subst (λ (f : Family). faulty first.finished + (failures_in J + all_out d.watch n) ≤ h.by_starts + faulty f.finished) (sym family)
        (still_within (faulty first.finished) (failures_in J) (all_out c.watch n) (all_out d.watch n) h.by_starts (faulty c.family.finished) (faulty c.family.finished) (out n) (omega arith) (h.all n));
  }

  -- the cells are as they were
  pub faults_kept : (J : List (Entry LauncherEvent)) (c d : CrewIs) → d.family ≡ c.family → d.watch ≡ c.watch → FaultsAreTold first J c → FaultsAreTold first J d
  faults_kept J c d family watch h = faults_seen J c d family (λ n. subst (λ (w : CellsSeen). all_out w n ≤ all_out c.watch n) (sym watch) (omega arith)) h

  -- a child was asked whether it has ended
  pub faults_asked : (J : List (Entry LauncherEvent)) (s : ℕ) (r : Recorded) (a : StaffIs) (answer : Ended) (b : StaffIs) → AsksLife s a answer b → FaultsAreTold first J (crew_of r a) → FaultsAreTold first J (crew_of r b)
  faults_asked J s r a answer b asks h = faults_kept J (crew_of r a) (crew_of r b) (ap (λ (x : StaffIs). x.family) asks.is) refl h

  -- a cell was emptied, and its child finished
  pub faults_emptied : (C : Config) (seed : List ℕ) (J : List (Entry LauncherEvent)) (c d : CrewIs) (child : Option Life) → EndsOf C seed c.watch d.watch child c.family d.family → FaultsAreTold first J c → FaultsAreTold first J d
  faults_emptied C seed J c d None e h = faults_seen J c d e.0 e.1 h
  faults_emptied C seed J c d (Some life) e h = record {
    by_starts = h.by_starts;
    starts = subst (λ (f : Family). counted first.faults h.by_starts ≤ f.faults) (sym e.is) h.starts;
    all = λ n. subst (λ (f : Family). faulty first.finished + (failures_in J + all_out d.watch n) ≤ h.by_starts + faulty f.finished) (sym e.is)
        (one_within (faulty first.finished) (failures_in J) (all_out c.watch n) (all_out d.watch n) h.by_starts (faulty c.family.finished) (faulty (e.child ∷ c.family.finished)) (one_if (has_fault e.child)) (e.out n) (fault_cons e.child c.family.finished) (h.all n));
  }

  -- all children were finished
  pub faults_ended : (C : Config) (seed : List ℕ) (J : List (Entry LauncherEvent)) (c d : CrewIs) → EndsAll C seed d.watch c d.family → FaultsAreTold first J c → FaultsAreTold first J d
  faults_ended C seed J c d e h = record {
    by_starts = h.by_starts;
    starts = subst (λ (f : Family). counted first.faults h.by_starts ≤ f.faults) (sym e.is) h.starts;
    all = λ n. subst (λ (f : Family). faulty first.finished + (failures_in J + all_out d.watch n) ≤ h.by_starts + faulty f.finished) (sym e.is)
        (one_within (faulty first.finished) (failures_in J) (all_out c.watch n) (all_out d.watch n) h.by_starts (faulty c.family.finished) (faulty (e.ends ++ c.family.finished)) (faulty e.ends) (e.out n) (fault_append e.ends c.family.finished) (h.all n));
  }

  -- ---- a start

  -- whatever it answered
  pub faults_tried : (J : List (Entry LauncherEvent)) (s k : ℕ) (c d : CrewIs) → link_at c.watch s ≡ false → Tries s k c d → FaultsAreTold first J c → FaultsAreTold first J d
  faults_tried J s k c d unlinked t h = record {
    by_starts = h.by_starts;
    starts = still_counted first.faults h.by_starts c.family.faults d.family.faults t.told.faults h.starts;
    all = λ n. still_within (faulty first.finished) (failures_in J) (all_out c.watch n) (all_out d.watch n) h.by_starts (faulty c.family.finished) (faulty d.family.finished) (t.out unlinked n) (more_faulty c.family d.family t.told) (h.all n);
  }

  started_fault : (w s k : ℕ) (J : List (Entry LauncherEvent)) (c d : CrewIs) → link_at c.watch s ≡ false → Tries s k c d → Rose c.family.faults d.family.faults → FaultsAreTold first J c → FaultsAreTold first (record { worker = w; event = event.Failed s k } ∷ J) d
  started_fault w s k J c d unlinked t rose h = record {
    by_starts = suc h.by_starts;
    starts = one_counted first.faults h.by_starts c.family.faults d.family.faults rose h.starts;
    all = λ n. start_within (faulty first.finished) (failures_in J) (failures_in (record { worker = w; event = event.Failed s k } ∷ J)) (all_out c.watch n) (all_out d.watch n) h.by_starts (faulty c.family.finished) (faulty d.family.finished)
        (one_failed w s k J) (t.out unlinked n) (more_faulty c.family d.family t.told) (h.all n);
  }

  one_faulty : (e : ChildEnd) (es more : List ChildEnd) → 0 < e.faults → suc (faulty more) ≤ faulty (e ∷ (es ++ more))
  one_faulty e es more faults =
      let here : 1 ≤ one_if (has_fault e) = subst (λ (b : Bool). 1 ≤ one_if b) (sym (lt-ltb 0 e.faults faults)) (omega arith) in
      omega (arith, here, fault_cons e (es ++ more), fault_append es more)

  ended_fault : (w s k : ℕ) (J : List (Entry LauncherEvent)) (c d : CrewIs) → link_at c.watch s ≡ false → Tries s k c d → FinishesFaulty s k c.family d.family → FaultsAreTold first J c → FaultsAreTold first (record { worker = w; event = event.Failed s k } ∷ J) d
  ended_fault w s k J c d unlinked t y h = record {
    by_starts = h.by_starts;
    starts = still_counted first.faults h.by_starts c.family.faults d.family.faults t.told.faults h.starts;
    all = λ n. end_within (faulty first.finished) (failures_in J) (failures_in (record { worker = w; event = event.Failed s k } ∷ J)) (all_out c.watch n) (all_out d.watch n) h.by_starts (faulty c.family.finished) (faulty d.family.finished)
        (one_failed w s k J) (t.out unlinked n) (subst (λ (es : List ChildEnd). suc (faulty c.family.finished) ≤ faulty es) (sym y.finished_is) (one_faulty y.child y.before c.family.finished y.faults)) (h.all n);
  }

  -- it failed, which may be entered
  pub faults_failed : (w s k : ℕ) (J : List (Entry LauncherEvent)) (c d : CrewIs) → link_at c.watch s ≡ false → Tries s k c d → FailsBy s k c.family d.family → FaultsAreTold first J c → FaultsAreTold first (record { worker = w; event = event.Failed s k } ∷ J) d
  faults_failed w s k J c d unlinked t fails h = ⊎_elim (λ (r : Rose c.family.faults d.family.faults). started_fault w s k J c d unlinked t r h) (λ (y : FinishesFaulty s k c.family d.family). ended_fault w s k J c d unlinked t y h) fails

-- where no child of a service runs, its cell has no link
pub unlinked_at : (c : CrewIs) (s : ℕ) → child_of c s ≡ None → Attended c → link_at c.watch s ≡ false
unlinked_at c s none at = subst (λ (x : Option Life). Attends s x (link_at c.watch s) (last_booted (seen_at c.watch s))) none (at s)
