-- The children of an incarnation as they change: one is started, or one is finished.
use Rattle.std.proofs.Common.{◌≡◌, ◌∙◌, ℕ, zero, suc, ◌+◌, ◌<◌, ◌≤◌, Bool, true, false, cond, List, [], ◌∷◌, ◌++◌, Option, Some, None, Result, Ok, Err, length, get_or, refl, sym, ap, subst, arith, eq-eqb, inl, inr}
use Rattle.std.specs.Prelude.{◌==◌, ◌&&◌, if◌then◌else◌, count_by, slice_get, slice_set, IfSome, OnErr, OnOk}
use Rattle.std.specs.List.{list_any}
use Rattle.std.proofs.lemmas.Bool.{and_parts, eqb-true, false≢true}
use Rattle.std.proofs.lemmas.List.{append_assoc}
use mathlib.Core.Logic.{dite}
use native.Mathlib.Decide.{ℕ_discrete}
use Rattle.okws_base.specs.Runs.{Each}
use Rattle.okws_base.specs.declared.journal.Entry.{Entry}
use Rattle.okws_plan.specs.declared.configuration.Config.{Config}
use Rattle.okws_plan.specs.declared.configuration.ServicePlan.{ServicePlan}
use Rattle.okws_plan.specs.declared.event.LauncherEvent.{LauncherEvent}
use Rattle.okws_outer.specs.Families.{Family}
use Rattle.okws_outer.specs.Lives.{Life, new_life}
use Rattle.okws_outer.specs.declared.child.Ended.{Ended}
use Rattle.okws_outer.specs.declared.children.ChildEnd.{ChildEnd}
use Rattle.okws_outer.specs.declared.children.ChildStart.{ChildStart}
use Rattle.monitor_model.specs.declared.record.Own.{Own}
use Rattle.monitor_model.specs.declared.record.Own.TheVariants as own
use Rattle.monitor_model.specs.Cell.{last_booted}
use Rattle.monitor_model.specs.Launcher.{begun}
use Rattle.site_cells.specs.Row.{CellsSeen, link_at, seen_at}
use Rattle.launch_crew.specs.Crews.{CrewIs, StaffIs, child_of, crew_of, running_at}
use Rattle.launch_crew.specs.Ended.{Attended, Attends}
use Rattle.launch_crew.specs.Listed.{CellsGo, of_cells}
use Rattle.launch_crew.specs.Recorded.{AreOwn, Recorded}
use Rattle.launch_crew.specs.Steps.{AsksLife, Empties, Misses, Starts}
use Rattle.launch_crew.proofs.Ended.{none_here}
use Rattle.launch_crew.specs.Finished.{EndsAll, EndsAt, EndsOf, StartsChild, StartsInVain, StartsNone, is_end_of, runs_as}
use Rattle.okld_launch.proofs.Alone.{alone_more, alone_next}
use Rattle.okld_launch.proofs.Boots.{BootsSame, boots_kept, retired_same}
use Rattle.okld_launch.specs.Kin.{AreKin, IsEnd, Unstarted, is_boot, is_start_of, words_in, words_of}
use Rattle.okld_launch.proofs.Kin.{some_here, here_else, start_cons, end_cons, end_append, if_one, here, elsewhere, runs_same, no_boot, by_bool, none_above, none_started, one_once, one_begun, some_or, ends_go, each_goes, kin_moved}

-- ---- a child was started

not_boot : (e : ChildEnd) (s k : ℕ) → is_end_of s k e ≡ false → is_boot e.service e.incarnation (own.Boot s k) ≡ false
not_boot e s k other = by_bool ((s == e.service) && (k == e.incarnation)) (λ is.
    let both = and_parts (s == e.service) (k == e.incarnation) is in
    false≢true (sym other ∙ (λ i. eq-eqb e.service s (sym (eqb-true s e.service both.0)) i && eq-eqb e.incarnation k (sym (eqb-true k e.incarnation both.1)) i)))

end_other : (b : Bool) (n : ℕ) → cond b 1 0 + n ≡ 0 → b ≡ false
end_other true n none = absurd (omega (arith, none))
end_other false n none = refl

end_booted : (C : Config) (seed : List ℕ) (w v : CellsSeen) (s k : ℕ) (xs : List Own) (e : ChildEnd) → CellsGo w v → is_end_of s k e ≡ false → IsEnd C seed w xs e → IsEnd C seed v (own.Boot s k ∷ xs) e
end_booted C seed w v s k xs e go other (inl h) = inl (ends_go C seed w v e go h)
end_booted C seed w v s k xs e go other (inr h) = inr (record { given = h.given; whose = h.whose; untaken = h.untaken; unbooted = no_boot (is_boot e.service e.incarnation (own.Boot s k)) (list_any (is_boot e.service e.incarnation) xs) (not_boot e s k other) ∙ h.unbooted })

each_booted : (C : Config) (seed : List ℕ) (w v : CellsSeen) (s k : ℕ) (xs : List Own) (es : List ChildEnd) → CellsGo w v → count_by (is_end_of s k) es ≡ 0 → Each (IsEnd C seed w xs) es → Each (IsEnd C seed v (own.Boot s k ∷ xs)) es
each_booted C seed w v s k xs [] go none h = tt
each_booted C seed w v s k xs (e ∷ es) go none h =
    let parts : cond (is_end_of s k e) 1 0 + count_by (is_end_of s k) es ≡ 0 = sym (end_cons s k e es) ∙ none in (
      end_booted C seed w v s k xs e go (end_other (is_end_of s k e) (count_by (is_end_of s k) es) parts) h.0,
      each_booted C seed w v s k xs es go (omega (arith, parts)) h.1,
    )

-- where no child of s runs, as many of each of its incarnations were finished as were started
alone_before : (C : Config) (seed : List ℕ) (first : Family) (J : List (Entry LauncherEvent)) (s : ℕ) (c : CrewIs) → child_of c s ≡ None → (kin : AreKin C seed first J c) → (k : ℕ) → count_by (is_start_of s k) kin.starts ≡ count_by (is_end_of s k) kin.ends
alone_before C seed first J s c none kin k =
    let idle : runs_as (running_at c.running s) k ≡ 0 = runs_same None (running_at c.running s) k none in
    omega (arith, kin.all s k, idle)

pub kin_started : (C : Config) (seed : List ℕ) (first : Family) (J : List (Entry LauncherEvent)) (s k : ℕ) (words : List (List ℕ)) (c d : CrewIs) → s < length C.services → 0 < k → k ≤ begun J s → words ≡ words_of C s → child_of c s ≡ None → Unstarted s k first c.family →
    Starts s k c d → StartsChild s k words c.family d.family → AreKin C seed first J c → AreKin C seed first J d
kin_started C seed first J s k words c d within counted most told none un h started kin =
    let start : ChildStart = record { service = s; incarnation = k; words = words; says = (started.0).left; after = length c.family.finished } in
    let fresh : count_by (is_start_of s k) kin.starts ≡ 0 = none_started s k kin.starts first c.family kin.started_is un in
    record {
      starts = start ∷ kin.starts;
      started_is = ap (λ (f : Family). f.started) started.1 ∙ ap (λ (xs : List ChildStart). start ∷ xs) kin.started_is;
      starts_are = (record { service_is = within; counted = counted; words_are = told }, kin.starts_are);
      ends = kin.ends;
      finished_is = ap (λ (f : Family). f.finished) started.1 ∙ kin.finished_is;
      ends_are = subst (λ (xs : List Own). Each (IsEnd C seed d.watch xs) kin.ends) (sym h.own_is) (each_booted C seed c.watch d.watch s k c.own kin.ends h.tries.behind (omega (arith, kin.all s k, fresh)) kin.ends_are);
      all = λ t j. dite (ℕ_discrete t s)
          (λ is.
          let before : runs_as (running_at c.running t) j ≡ 0 = runs_same None (running_at c.running t) j (ap (λ (n : ℕ). running_at c.running n) is ∙ none) in
          let after : runs_as (running_at d.running t) j ≡ (if k == j then 1 else 0) = runs_same (Some (new_life s k)) (running_at d.running t) j (ap (λ (n : ℕ). running_at d.running n) is ∙ h.child) in
          omega (arith, start_cons t j start kin.starts, here s t k j is, kin.all t j, before, after))
          (λ apart.
          let same : runs_as (running_at d.running t) j ≡ runs_as (running_at c.running t) j = runs_same (running_at c.running t) (running_at d.running t) j (ap (λ (lives : List (Option Life)). running_at lives t) h.running_is ∙ here_else c.running s t (Some (new_life s k)) apart) in
          omega (arith, start_cons t j start kin.starts, elsewhere s t k j apart, kin.all t j, same));
      once = λ t j. one_once s k start refl refl kin.starts fresh t j (kin.once t j);
      alone = alone_next first c.family start kin.starts kin.ends kin.finished_is refl (alone_before C seed first J s c none kin) kin.alone;
      begun_are = λ t j below. one_begun s k start refl refl kin.starts fresh J t j most below (kin.begun_are t j below);
      booted = λ t j is.
          let x : 0 < cond ((s == t) && (k == j)) 1 0 + count_by (is_start_of t j) kin.starts = some_or ((s == t) && (k == j)) (list_any (is_boot t j) c.own) (count_by (is_start_of t j) kin.starts) (λ was. kin.booted t j was) (sym (ap (list_any (is_boot t j)) h.own_is) ∙ is) in
          omega (arith, start_cons t j start kin.starts, x);
    }

-- no child was started, or one in vain
kin_vain : (C : Config) (seed : List ℕ) (first : Family) (J : List (Entry LauncherEvent)) (s k : ℕ) (words : List (List ℕ)) (c d : CrewIs) → s < length C.services → 0 < k → k ≤ begun J s → words ≡ words_of C s → child_of c s ≡ None → Unstarted s k first c.family →
    list_any (is_boot s k) c.own ≡ false → Misses s k c d → StartsInVain C seed s k words c.family d.family → AreKin C seed first J c → AreKin C seed first J d
kin_vain C seed first J s k words c d within counted most told none un lacks h v kin =
    let start : ChildStart = record { service = s; incarnation = k; words = words; says = (v.first).left; after = length c.family.finished } in
    let end : ChildEnd = record { service = s; incarnation = k; ended = false; whose = (v.last).whose; came = (v.last).came; left = (v.last).left; given = (v.last).given; faults = (v.last).faults } in
    let fresh : count_by (is_start_of s k) kin.starts ≡ 0 = none_started s k kin.starts first c.family kin.started_is un in
    record {
      starts = start ∷ kin.starts;
      started_is = ap (λ (x : Family). x.started) v.is ∙ ap (λ (xs : List ChildStart). start ∷ xs) kin.started_is;
      starts_are = (record { service_is = within; counted = counted; words_are = told }, kin.starts_are);
      ends = end ∷ kin.ends;
      finished_is = ap (λ (x : Family). x.finished) v.is ∙ ap (λ (xs : List ChildEnd). end ∷ xs) kin.finished_is;
      ends_are = (
        inr (record { given = v.front; whose = v.whose; untaken = v.untaken; unbooted = boots_kept c.own d.own h.own_is s k ∙ lacks }),
        each_goes C seed c.watch d.watch c.own d.own kin.ends h.tries.behind (boots_kept c.own d.own h.own_is) kin.ends_are,
      );
      all = λ t j.
          let same : runs_as (running_at d.running t) j ≡ runs_as (running_at c.running t) j = runs_same (running_at c.running t) (running_at d.running t) j (ap (λ (lives : List (Option Life)). running_at lives t) h.running_is) in
          omega (arith, start_cons t j start kin.starts, end_cons t j end kin.ends, kin.all t j, same);
      once = λ t j. one_once s k start refl refl kin.starts fresh t j (kin.once t j);
      alone = alone_more (length first.finished) (end ∷ []) (start ∷ kin.starts) kin.ends (alone_next first c.family start kin.starts kin.ends kin.finished_is refl (alone_before C seed first J s c none kin) kin.alone);
      begun_are = λ t j below. one_begun s k start refl refl kin.starts fresh J t j most below (kin.begun_are t j below);
      booted = λ t j is. omega (arith, start_cons t j start kin.starts, kin.booted t j (sym (boots_kept c.own d.own h.own_is t j) ∙ is));
    }

pub kin_missed : (C : Config) (seed : List ℕ) (first : Family) (J : List (Entry LauncherEvent)) (s k : ℕ) (words : List (List ℕ)) (c d : CrewIs) → s < length C.services → 0 < k → k ≤ begun J s → words ≡ words_of C s → child_of c s ≡ None → Unstarted s k first c.family →
    list_any (is_boot s k) c.own ≡ false → Misses s k c d → StartsNone C seed s k words c.family d.family → AreKin C seed first J c → AreKin C seed first J d
kin_missed C seed first J s k words c d within counted most told none un lacks h (inl is) kin =
    kin_moved C seed first J c d h.running_is (ap (λ (x : Family). x.started) is) (ap (λ (x : Family). x.finished) is) h.tries.behind (boots_kept c.own d.own h.own_is) kin
kin_missed C seed first J s k words c d within counted most told none un lacks h (inr v) kin = kin_vain C seed first J s k words c d within counted most told none un lacks h v kin

-- ---- a cell was emptied, and its child finished

emptied : (C : Config) (seed : List ℕ) (first : Family) (J : List (Entry LauncherEvent)) (s : ℕ) (c d : CrewIs) (child : Option Life) → child_of c s ≡ child → IfSome child (λ (life : Life). life.service ≡ s) → Empties s c d → BootsSame c.own d.own →
    EndsOf C seed c.watch d.watch child c.family d.family → AreKin C seed first J c → AreKin C seed first J d
emptied C seed first J s c d None is named h same_boots e kin = record {
  starts = kin.starts;
  started_is = ap (λ (f : Family). f.started) e.0 ∙ kin.started_is;
  starts_are = kin.starts_are;
  ends = kin.ends;
  finished_is = ap (λ (f : Family). f.finished) e.0 ∙ kin.finished_is;
  ends_are = each_goes C seed c.watch d.watch c.own d.own kin.ends h.behind same_boots kin.ends_are;
  all = λ t j. kin.all t j ∙ ap (λ (n : ℕ). count_by (is_end_of t j) kin.ends + n) (dite (ℕ_discrete t s)
      (λ at. runs_same (running_at d.running t) (running_at c.running t) j (ap (λ (n : ℕ). running_at c.running n) at ∙ (is ∙ sym (ap (λ (n : ℕ). running_at d.running n) at ∙ (ap (λ (lives : List (Option Life)). running_at lives s) h.running_is ∙ none_here c.running s)))))
      (λ apart. sym (runs_same (running_at c.running t) (running_at d.running t) j (ap (λ (lives : List (Option Life)). running_at lives t) h.running_is ∙ here_else c.running s t None apart))));
  once = kin.once;
  alone = kin.alone;
  begun_are = kin.begun_are;
  booted = λ t j was. kin.booted t j (sym (same_boots t j) ∙ was);
}
emptied C seed first J s c d (Some life) is named h same_boots e kin =
    let mine : e.child.service ≡ s = e.service_is ∙ named in
    record {
      starts = kin.starts;
      started_is = ap (λ (f : Family). f.started) e.is ∙ kin.started_is;
      starts_are = kin.starts_are;
      ends = e.child ∷ kin.ends;
      finished_is = ap (λ (f : Family). f.finished) e.is ∙ ap (λ (xs : List ChildEnd). e.child ∷ xs) kin.finished_is;
      ends_are = (inl e.at, each_goes C seed c.watch d.watch c.own d.own kin.ends h.behind same_boots kin.ends_are);
      all = λ t j. dite (ℕ_discrete t s)
          (λ at.
          let before : runs_as (running_at c.running t) j ≡ (if life.incarnation == j then 1 else 0) = runs_same (Some life) (running_at c.running t) j (ap (λ (n : ℕ). running_at c.running n) at ∙ is) in
          let after : runs_as (running_at d.running t) j ≡ 0 = runs_same None (running_at d.running t) j (ap (λ (n : ℕ). running_at d.running n) at ∙ (ap (λ (lives : List (Option Life)). running_at lives s) h.running_is ∙ none_here c.running s)) in
          let one : ◌≡◌ {A = ℕ} (cond (is_end_of t j e.child) 1 0) (if life.incarnation == j then 1 else 0) = here e.child.service t e.child.incarnation j (at ∙ sym mine) ∙ ap (λ (n : ℕ). if_one n j) e.incarnation_is in
          omega (arith, end_cons t j e.child kin.ends, one, kin.all t j, before, after))
          (λ apart.
          let same : runs_as (running_at d.running t) j ≡ runs_as (running_at c.running t) j = runs_same (running_at c.running t) (running_at d.running t) j (ap (λ (lives : List (Option Life)). running_at lives t) h.running_is ∙ here_else c.running s t None apart) in
          let none : ◌≡◌ {A = ℕ} (cond (is_end_of t j e.child) 1 0) 0 = elsewhere e.child.service t e.child.incarnation j (λ at. apart (at ∙ mine)) in
          omega (arith, end_cons t j e.child kin.ends, none, kin.all t j, same));
      once = kin.once;
      alone = alone_more (length first.finished) (e.child ∷ []) kin.starts kin.ends kin.alone;
      begun_are = kin.begun_are;
      booted = λ t j was. kin.booted t j (sym (same_boots t j) ∙ was);
    }

pub kin_emptied : (C : Config) (seed : List ℕ) (first : Family) (J : List (Entry LauncherEvent)) (s : ℕ) (c d : CrewIs) → IfSome (child_of c s) (λ (life : Life). life.service ≡ s) → Empties s c d → EndsOf C seed c.watch d.watch (child_of c s) c.family d.family →
    AreKin C seed first J c → AreKin C seed first J d
kin_emptied C seed first J s c d named h e kin = emptied C seed first J s c d (child_of c s) refl named h (λ t j. ap (list_any (is_boot t j)) h.own_is ∙ retired_same (of_cells d.watch.cells) s c.own t j) e kin

-- ---- a child was asked whether it has ended

pub kin_asked : (C : Config) (seed : List ℕ) (first : Family) (J : List (Entry LauncherEvent)) (s : ℕ) (r : Recorded) (a : StaffIs) (answer : Ended) (b : StaffIs) → AsksLife s a answer b → AreKin C seed first J (crew_of r a) → AreKin C seed first J (crew_of r b)
kin_asked C seed first J s r a answer b h kin =
    let running : b.running ≡ slice_set a.running s (Some h.after) = ap (λ (x : StaffIs). x.running) h.is in
    let family : b.family ≡ a.family = ap (λ (x : StaffIs). x.family) h.is in
    record {
      starts = kin.starts;
      started_is = ap (λ (f : Family). f.started) family ∙ kin.started_is;
      starts_are = kin.starts_are;
      ends = kin.ends;
      finished_is = ap (λ (f : Family). f.finished) family ∙ kin.finished_is;
      ends_are = kin.ends_are;
      all = λ t j. kin.all t j ∙ ap (λ (n : ℕ). count_by (is_end_of t j) kin.ends + n) (dite (ℕ_discrete t s)
          (λ at.
          runs_same (Some h.before) (running_at a.running t) j (ap (λ (n : ℕ). running_at a.running n) at ∙ h.was)
          ∙ (ap (λ (n : ℕ). if_one n j) (sym (ap (λ (life : Life). life.incarnation) h.asks.life))
          ∙ sym (runs_same (Some h.after) (running_at b.running t) j (ap (λ (n : ℕ). running_at b.running n) at ∙ (ap (λ (lives : List (Option Life)). running_at lives s) running ∙ some_here a.running s h.before h.after h.was)))))
          (λ apart. sym (runs_same (running_at a.running t) (running_at b.running t) j (ap (λ (lives : List (Option Life)). running_at lives t) running ∙ here_else a.running s t (Some h.after) apart))));
      once = kin.once;
      alone = kin.alone;
      begun_are = kin.begun_are;
      booted = kin.booted;
    }

-- ---- all were finished

each_append : (C : Config) (seed : List ℕ) (w : CellsSeen) (xs : List Own) (es more : List ChildEnd) → Each (EndsAt C seed w) es → Each (IsEnd C seed w xs) more → Each (IsEnd C seed w xs) (es ++ more)
each_append C seed w xs [] more h rest = rest
each_append C seed w xs (e ∷ es) more h rest = (inl h.0, each_append C seed w xs es more h.1 rest)

pub kin_ended : (C : Config) (seed : List ℕ) (first : Family) (J : List (Entry LauncherEvent)) (c d : CrewIs) → CellsGo c.watch d.watch → EndsAll C seed d.watch c d.family → ((s : ℕ) → child_of d s ≡ None) → BootsSame c.own d.own →
    AreKin C seed first J c → AreKin C seed first J d
kin_ended C seed first J c d go h none same kin = record {
  starts = kin.starts;
  started_is = ap (λ (f : Family). f.started) h.is ∙ kin.started_is;
  starts_are = kin.starts_are;
  ends = h.ends ++ kin.ends;
  finished_is = ap (λ (f : Family). f.finished) h.is ∙ (ap (λ (xs : List ChildEnd). h.ends ++ xs) kin.finished_is ∙ sym (append_assoc h.ends kin.ends first.finished));
  ends_are = each_append C seed d.watch d.own h.ends kin.ends h.each (each_goes C seed c.watch d.watch c.own d.own kin.ends go same kin.ends_are);
  all = λ s k.
      let over : runs_as (running_at d.running s) k ≡ 0 = runs_same None (running_at d.running s) k (none s) in
      omega (arith, end_append s k h.ends kin.ends, h.all s k, kin.all s k, over);
  once = kin.once;
  alone = alone_more (length first.finished) h.ends kin.starts kin.ends kin.alone;
  begun_are = kin.begun_are;
  booted = λ t j was. kin.booted t j (sym (same t j) ∙ was);
}

-- ---- in the words of the calls

-- a start, whatever it answered
pub kin_tried : {T E : Type 0} (r : Result T E) (C : Config) (seed : List ℕ) (first : Family) (J : List (Entry LauncherEvent)) (s k : ℕ) (words : List (List ℕ)) (c d : CrewIs) (n : ℕ) → s < length C.services → 0 < k → k ≤ begun J s → words ≡ words_of C s →
    child_of c s ≡ None → Unstarted s k first c.family → AreOwn n c.sat c.watch c.own → last_booted (seen_at c.watch s) < k →
    OnOk r (Starts s k c d) → OnErr r (Misses s k c d) → OnOk r (StartsChild s k words c.family d.family) → OnErr r (StartsNone C seed s k words c.family d.family) →
    AreKin C seed first J c → AreKin C seed first J d
kin_tried (Ok x) C seed first J s k words c d n within counted most told none un did later ok err started vain kin = kin_started C seed first J s k words c d within counted most told none un ok started kin
kin_tried (Err e) C seed first J s k words c d n within counted most told none un did later ok err started vain kin =
    kin_missed C seed first J s k words c d within counted most told none un (none_above n c.sat c.watch c.own s k did later) err vain kin

-- the words of a service's program
plan_at : (plans : List ServicePlan) (s : ℕ) (plan d : ServicePlan) → s < length plans → plan ≡ get_or plans s d → slice_get plans s ≡ Some plan
plan_at [] s plan d below is = absurd (omega (arith, below))
plan_at (x ∷ plans) zero plan d below is = ap Some (sym is)
plan_at (x ∷ plans) (suc s) plan d below is = plan_at plans s plan d (omega (arith, below)) is

pub words_at : (C : Config) (s : ℕ) (plans : List ServicePlan) (plan d : ServicePlan) (words : List (List ℕ)) → s < length C.services → plans ≡ C.services → plan ≡ get_or plans s d → words ≡ plan.words → words ≡ words_of C s
words_at C s plans plan d words below same is told =
    told ∙ ap words_in (sym (plan_at C.services s plan d below (subst (λ (xs : List ServicePlan). plan ≡ get_or xs s d) same is)))

named_of : (child : Option Life) (s : ℕ) (link : Bool) (last : ℕ) → Attends s child link last → IfSome child (λ (life : Life). life.service ≡ s)
named_of None s link last h = tt
named_of (Some life) s link last h = h.0

-- a child is of its service
pub named_at : (c : CrewIs) (s : ℕ) → Attended c → IfSome (child_of c s) (λ (life : Life). life.service ≡ s)
named_at c s at = named_of (child_of c s) s (link_at c.watch s) (last_booted (seen_at c.watch s)) (at s)

none_linked : (child : Option Life) (s : ℕ) (link : Bool) (last : ℕ) → Attends s child link last → link ≡ false → child ≡ None
none_linked None s link last h out = refl
none_linked (Some life) s link last h out = absurd (false≢true (sym out ∙ h.1))

-- where no cell has a link, no child runs
pub idle_of : (c : CrewIs) → ((s : ℕ) → link_at c.watch s ≡ false) → Attended c → (s : ℕ) → child_of c s ≡ None
idle_of c out at s = none_linked (child_of c s) s (link_at c.watch s) (last_booted (seen_at c.watch s)) (at s) (out s)
