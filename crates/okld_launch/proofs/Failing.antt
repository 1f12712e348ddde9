-- For each Failed that is entered a fault was told.
use Rattle.std.proofs.Common.{◌≡◌, ◌∙◌, ⊎_elim, ℕ, suc, ◌+◌, ◌-◌, ◌^◌, ◌<◌, ◌≤◌, Bool, true, false, cond, List, [], ◌∷◌, ◌++◌, refl, sym, ap, subst, arith, eq-eqb}
use Rattle.std.specs.Prelude.{◌||◌, ◌&&◌, min, not, count_by}
use Rattle.std.specs.List.{list_any}
use Rattle.std.proofs.lemmas.Bool.{lt-ltb}
use Rattle.std.proofs.lemmas.List.{append_assoc}
use Rattle.std.proofs.lemmas.List.Folds.{list_any-append}
use Rattle.std.proofs.lemmas.List.Sums.{sum_by-append, sum_by-cons, sum_by-le-sum_by}
use Rattle.okws_base.specs.declared.journal.Entry.{Entry}
use Rattle.okws_outer.specs.Families.{Family}
use Rattle.okws_outer.specs.Streams.{Rose, counted}
use Rattle.okws_outer.specs.declared.children.ChildEnd.{ChildEnd}
use Rattle.okws_outer.specs.declared.children.ChildStart.{ChildStart}
use Rattle.okws_plan.specs.declared.event.LauncherEvent.{LauncherEvent}
use Rattle.okws_plan.specs.declared.event.LauncherEvent.TheVariants as event
use Rattle.monitor_model.specs.Launches.{is_failed}
use Rattle.launch_journal.specs.Launches.{Launches, entered}
use Rattle.launch_crew.specs.Finished.{has_fault}
use Rattle.launch_crew.specs.Told.{TellsMore, FinishesFaulty, FailsBy}
use Rattle.okld_launch.specs.Failures.{is_faulty, is_failed_start, FailuresAreTold}

-- ---- how many they are

abbrev failures_in : List (Entry LauncherEvent) → ℕ
failures_in J = count_by (λ (e : Entry LauncherEvent). is_failed e.event) J

one_failed : (w s k : ℕ) (J : List (Entry LauncherEvent)) → failures_in (record { worker = w; event = event.Failed s k } ∷ J) ≤ suc (failures_in J)
one_failed w s k J =
    let more : failures_in (record { worker = w; event = event.Failed s k } ∷ J) ≡ 1 + failures_in J = sum_by-cons (λ (e : Entry LauncherEvent). cond (is_failed e.event) 1 0) (record { worker = w; event = event.Failed s k }) J in
    omega (arith, more)

false_true : false ≡ true → ⊥
false_true h = absurd (cc)

cond_less : (a b : Bool) → (a ≡ true → b ≡ true) → cond a 1 0 ≤ cond b 1 0
cond_less false true h = omega arith
cond_less false false h = omega arith
cond_less true true h = omega arith
cond_less true false h = absurd (false_true (h refl))

right_off : (a b : Bool) → not (a || b) ≡ true → not b ≡ true
right_off false b h = h
right_off true b h = absurd (false_true h)

start_before : (es ends : List ChildEnd) (e : LauncherEvent) → is_failed_start (es ++ ends) e ≡ true → is_failed_start ends e ≡ true
start_before es ends (event.Begun s k) h = h
start_before es ends (event.Failed s k) h = right_off (list_any (is_faulty s k) es) (list_any (is_faulty s k) ends) (ap not (sym (list_any-append (is_faulty s k) es ends)) ∙ h)
start_before es ends (event.Crashed s k) h = h
start_before es ends (event.Dead s n) h = h
start_before es ends (event.Asked s) h = h

fewer_starts : (es ends : List ChildEnd) (J : List (Entry LauncherEvent)) → count_by (λ (e : Entry LauncherEvent). is_failed_start (es ++ ends) e.event) J ≤ count_by (λ (e : Entry LauncherEvent). is_failed_start ends e.event) J
fewer_starts es ends J = sum_by-le-sum_by (λ (e : Entry LauncherEvent). cond (is_failed_start (es ++ ends) e.event) 1 0) (λ (e : Entry LauncherEvent). cond (is_failed_start ends e.event) 1 0) J
    (λ e. cond_less (is_failed_start (es ++ ends) e.event) (is_failed_start ends e.event) (start_before es ends e.event))

more_ends : (es ends : List ChildEnd) → count_by has_fault ends ≤ count_by has_fault (es ++ ends)
more_ends es ends = omega (arith, sum_by-append (λ (e : ChildEnd). cond (has_fault e) 1 0) es ends)

-- ---- the counts, which stay at their last value

still_within : (a n n' m m' : ℕ) → n' ≤ n → m ≤ m' → counted a n ≤ m → counted a n' ≤ m'
still_within a n n' m m' fewer later h = let x : min (a + n) (2 ^ 64 - 1) ≤ m = h in omega (arith, fewer, later, x)

one_rose : (a n n' f g d e : ℕ) → Rose f g → f ≤ g → d ≤ e → n' ≤ suc n → counted a n ≤ f + d → counted a n' ≤ g + e
one_rose a n n' f g d e rose later more fewer h =
    let r : min (f + 1) (2 ^ 64 - 1) ≤ g = rose in
    let x : min (a + n) (2 ^ 64 - 1) ≤ f + d = h in
    omega (arith, r, later, more, fewer, x)

one_start : (a n n' f g : ℕ) → Rose f g → n' ≤ suc n → counted a n ≤ f → counted a n' ≤ g
one_start a n n' f g rose fewer h =
    let r : min (f + 1) (2 ^ 64 - 1) ≤ g = rose in
    let x : min (a + n) (2 ^ 64 - 1) ≤ f = h in
    omega (arith, r, fewer, x)

one_ended : (a n n' f g d e : ℕ) → f ≤ g → suc d ≤ e → n' ≤ suc n → counted a n ≤ f + d → counted a n' ≤ g + e
one_ended a n n' f g d e later more fewer h = let x : min (a + n) (2 ^ 64 - 1) ≤ f + d = h in omega (arith, later, more, fewer, x)

none_yet : (a b : ℕ) → a ≤ b → counted a 0 ≤ b
none_yet a b later = omega (arith, later)

-- ---- nothing was entered yet

pub none_failed : (first now : Family) (J : List (Entry LauncherEvent)) → J ≡ [] → now ≡ first → FailuresAreTold first J now
none_failed first now J none is = subst (λ (I : List (Entry LauncherEvent)). FailuresAreTold first I now) (sym none) (subst (FailuresAreTold first []) (sym is) (record {
  more = record { starts = []; ends = []; started_is = refl; finished_is = refl; faults = omega arith };
  all = none_yet first.faults (first.faults + 0) (omega arith);
  starts = none_yet first.faults first.faults (omega arith);
}))

-- ---- what else is entered

told_other : (first f : Family) (w : ℕ) (e : LauncherEvent) (J : List (Entry LauncherEvent)) → is_failed e ≡ false → FailuresAreTold first J f → FailuresAreTold first (record { worker = w; event = e } ∷ J) f
told_other first f w (event.Begun s k) J other h = record { more = h.more; all = h.all; starts = h.starts }
told_other first f w (event.Failed s k) J other h = absurd (false_true (sym other))
told_other first f w (event.Crashed s k) J other h = record { more = h.more; all = h.all; starts = h.starts }
told_other first f w (event.Dead s n) J other h = record { more = h.more; all = h.all; starts = h.starts }
told_other first f w (event.Asked s) J other h = record { more = h.more; all = h.all; starts = h.starts }

pub told_entered : (first f : Family) (e : LauncherEvent) (j i : Launches) → is_failed e ≡ false → i ≡ entered j e → FailuresAreTold first j.past f → FailuresAreTold first i.past f
told_entered first f e j i other is h = subst (λ (x : Launches). FailuresAreTold first x.past f) (sym is) (told_other first f j.holder e j.past other h)

-- ---- more was told of the children

pub told_more : (first f g : Family) (J : List (Entry LauncherEvent)) → TellsMore f g → FailuresAreTold first J f → FailuresAreTold first J g
told_more first f g J m h = record {
  more = record {
    starts = m.starts ++ h.more.starts;
    ends = m.ends ++ h.more.ends;
    started_is = m.started_is ∙ (ap (λ (xs : List ChildStart). m.starts ++ xs) h.more.started_is ∙ sym (append_assoc m.starts h.more.starts first.started));
    finished_is = m.finished_is ∙ (ap (λ (xs : List ChildEnd). m.ends ++ xs) h.more.finished_is ∙ sym (append_assoc m.ends h.more.ends first.finished));
    faults = omega (arith, m.faults, h.more.faults);
  };
  all = still_within first.faults (failures_in J) (failures_in J) (f.faults + count_by has_fault h.more.ends) (g.faults + count_by has_fault (m.ends ++ h.more.ends)) (omega arith) (omega (arith, m.faults, more_ends m.ends h.more.ends)) h.all;
  starts = still_within first.faults (count_by (λ (e : Entry LauncherEvent). is_failed_start h.more.ends e.event) J) (count_by (λ (e : Entry LauncherEvent). is_failed_start (m.ends ++ h.more.ends) e.event) J) f.faults g.faults (fewer_starts m.ends h.more.ends J) m.faults h.starts;
}

-- ---- a Failed

at_most_one : (b : Bool) → cond b 1 0 ≤ 1
at_most_one true = omega arith
at_most_one false = omega arith

one_start_more : (w s k : ℕ) (ends es : List ChildEnd) (J : List (Entry LauncherEvent))
    → count_by (λ (e : Entry LauncherEvent). is_failed_start (es ++ ends) e.event) (record { worker = w; event = event.Failed s k } ∷ J) ≤ suc (count_by (λ (e : Entry LauncherEvent). is_failed_start ends e.event) J)
one_start_more w s k ends es J = omega (
  arith,
  sum_by-cons (λ (e : Entry LauncherEvent). cond (is_failed_start (es ++ ends) e.event) 1 0) (record { worker = w; event = event.Failed s k }) J,
  at_most_one (is_failed_start (es ++ ends) (event.Failed s k)),
  fewer_starts es ends J,
)

-- a start failed
told_start : (first f g : Family) (w s k : ℕ) (J : List (Entry LauncherEvent)) → TellsMore f g → Rose f.faults g.faults → FailuresAreTold first J f → FailuresAreTold first (record { worker = w; event = event.Failed s k } ∷ J) g
told_start first f g w s k J m rose h = record {
  more = record {
    starts = m.starts ++ h.more.starts;
    ends = m.ends ++ h.more.ends;
    started_is = m.started_is ∙ (ap (λ (xs : List ChildStart). m.starts ++ xs) h.more.started_is ∙ sym (append_assoc m.starts h.more.starts first.started));
    finished_is = m.finished_is ∙ (ap (λ (xs : List ChildEnd). m.ends ++ xs) h.more.finished_is ∙ sym (append_assoc m.ends h.more.ends first.finished));
    faults = omega (arith, m.faults, h.more.faults);
  };
  all = one_rose first.faults (failures_in J) (failures_in (record { worker = w; event = event.Failed s k } ∷ J)) f.faults g.faults (count_by has_fault h.more.ends) (count_by has_fault (m.ends ++ h.more.ends))
      rose m.faults (more_ends m.ends h.more.ends) (one_failed w s k J) h.all;
  starts = one_start first.faults (count_by (λ (e : Entry LauncherEvent). is_failed_start h.more.ends e.event) J) (count_by (λ (e : Entry LauncherEvent). is_failed_start (m.ends ++ h.more.ends) e.event) (record { worker = w; event = event.Failed s k } ∷ J)) f.faults g.faults rose
      (one_start_more w s k h.more.ends m.ends J) h.starts;
}

-- its child was finished
faulty_here : (s k : ℕ) (child : ChildEnd) → child.service ≡ s → child.incarnation ≡ k → 0 < child.faults → is_faulty s k child ≡ true
faulty_here s k child service incarnation faults = λ i. eq-eqb child.service s service i && (eq-eqb child.incarnation k incarnation i && lt-ltb 0 child.faults faults i)

one_more_end : (child : ChildEnd) (es : List ChildEnd) (d : ℕ) → 0 < child.faults → d ≤ count_by has_fault es → suc d ≤ count_by has_fault (child ∷ es)
one_more_end child es d faults more =
    let here : 1 ≤ cond (has_fault child) 1 0 = subst (λ (b : Bool). 1 ≤ cond b 1 0) (sym (lt-ltb 0 child.faults faults)) (omega arith) in
    omega (arith, more, here, sum_by-cons (λ (e : ChildEnd). cond (has_fault e) 1 0) child es)

no_start : (s k w : ℕ) (child : ChildEnd) (es ends : List ChildEnd) (J : List (Entry LauncherEvent)) → is_faulty s k child ≡ true
    → count_by (λ (e : Entry LauncherEvent). is_failed_start (child ∷ (es ++ ends)) e.event) (record { worker = w; event = event.Failed s k } ∷ J) ≤ count_by (λ (e : Entry LauncherEvent). is_failed_start ends e.event) J
no_start s k w child es ends J faulty =
    let here : cond (is_failed_start (child ∷ (es ++ ends)) (event.Failed s k)) 1 0 ≤ 0 = subst (λ (b : Bool). cond (not (b || list_any (is_faulty s k) (es ++ ends))) 1 0 ≤ 0) (sym faulty) (omega arith) in
    omega (
      arith,
      here,
      sum_by-cons (λ (e : Entry LauncherEvent). cond (is_failed_start (child ∷ (es ++ ends)) e.event) 1 0) (record { worker = w; event = event.Failed s k }) J,
      fewer_starts (child ∷ es) ends J,
    )

told_end : (first f g : Family) (w s k : ℕ) (J : List (Entry LauncherEvent)) → TellsMore f g → FinishesFaulty s k f g → FailuresAreTold first J f → FailuresAreTold first (record { worker = w; event = event.Failed s k } ∷ J) g
told_end first f g w s k J m y h = record {
  more = record {
    starts = m.starts ++ h.more.starts;
    ends = y.child ∷ (y.before ++ h.more.ends);
    started_is = m.started_is ∙ (ap (λ (xs : List ChildStart). m.starts ++ xs) h.more.started_is ∙ sym (append_assoc m.starts h.more.starts first.started));
    finished_is = y.finished_is ∙ ap (λ (xs : List ChildEnd). y.child ∷ xs) (ap (λ (xs : List ChildEnd). y.before ++ xs) h.more.finished_is ∙ sym (append_assoc y.before h.more.ends first.finished));
    faults = omega (arith, m.faults, h.more.faults);
  };
  all = one_ended first.faults (failures_in J) (failures_in (record { worker = w; event = event.Failed s k } ∷ J)) f.faults g.faults (count_by has_fault h.more.ends) (count_by has_fault (y.child ∷ (y.before ++ h.more.ends))) m.faults
      (one_more_end y.child (y.before ++ h.more.ends) (count_by has_fault h.more.ends) y.faults (more_ends y.before h.more.ends)) (one_failed w s k J) h.all;
  starts = still_within first.faults (count_by (λ (e : Entry LauncherEvent). is_failed_start h.more.ends e.event) J) (count_by (λ (e : Entry LauncherEvent). is_failed_start (y.child ∷ (y.before ++ h.more.ends)) e.event) (record { worker = w; event = event.Failed s k } ∷ J)) f.faults g.faults
      (no_start s k w y.child y.before h.more.ends J (faulty_here s k y.child y.service_is y.incarnation_is y.faults)) m.faults h.starts;
}

pub told_failed : (first f g : Family) (w s k : ℕ) (J : List (Entry LauncherEvent)) → TellsMore f g → FailsBy s k f g → FailuresAreTold first J f → FailuresAreTold first (record { worker = w; event = event.Failed s k } ∷ J) g
told_failed first f g w s k J m fails h = ⊎_elim (λ (r : Rose f.faults g.faults). told_start first f g w s k J m r h) (λ (y : FinishesFaulty s k f g). told_end first f g w s k J m y h) fails
