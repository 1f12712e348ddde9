-- What is known of a crew's children through its steps: those that run have their links, and those that have ended are known to have.
use Rattle.std.proofs.Common.{◌≡◌, ◌≢◌, ◌∙◌, ⊎_elim, ℕ, zero, suc, ◌+◌, ◌<◌, ◌≤◌, Bool, true, false, List, [], ◌∷◌, ◌++◌, Option, Some, None, length, refl, sym, ap, subst, arith, eq-eqb}
use Rattle.std.specs.Prelude.{IsTrue, ◌==◌, ◌&&◌, ◌||◌, is_some, nat_le, option_map, replicate, slice_set}
use Rattle.std.proofs.lemmas.Bool.{and_from, and_parts, cases_lt, false≢true, le-leb, or_cases, or_left, or_right}
use mathlib.Core.Logic.{dite}
use native.Mathlib.Decide.{ℕ_discrete}
use Rattle.okws_outer.specs.Families.{Family}
use Rattle.okws_outer.specs.Lives.{Life, ended_after, new_life}
use Rattle.okws_outer.specs.Wire.{Wire}
use Rattle.okws_outer.specs.declared.child.Ended.{Ended}
use Rattle.okws_outer.specs.declared.child.Ended.TheVariants.{Yes, No, Failed}
use Rattle.okws_outer.specs.declared.children.ChildEnd.{ChildEnd}
use Rattle.monitor_model.specs.Cell.{last_booted}
use Rattle.site_cells.proofs.Onlys.{link_else, only_else}
use Rattle.site_cells.specs.Row.{OnlyAt, link_at, seen_at}
use Rattle.launch_crew.specs.Crews.{CrewIs, StaffIs, child_of, crew_of, running_at}
use Rattle.launch_crew.specs.Ended.{Attended, Attends, StaysEnded, ended_at, ended_since, family_ended, life_ended, tells_ended}
use Rattle.launch_crew.specs.Recorded.{Recorded}
use Rattle.launch_crew.specs.Steps.{AsksLife, Empties, Misses, Starts}
use Rattle.launch_crew.specs.Told.{TellsMore, with_end_of}
use Rattle.launch_crew.proofs.Children.{more_emptied, more_same}

-- ---- one child was put in the place of another

pub none_here : (lives : List (Option Life)) (s : ℕ) → running_at (slice_set lives s None) s ≡ None
none_here [] s = refl
none_here (x ∷ lives) zero = refl
none_here (x ∷ lives) (suc s) = none_here lives s

pub some_here : (lives : List (Option Life)) (s : ℕ) (before after : Life) → running_at lives s ≡ Some before → running_at (slice_set lives s (Some after)) s ≡ Some after
some_here [] s before after is = absurd (cc)
some_here (x ∷ lives) zero before after is = refl
some_here (x ∷ lives) (suc s) before after is = some_here lives s before after is

here_else : (lives : List (Option Life)) (s t : ℕ) (x : Option Life) → t ≢ s → running_at (slice_set lives s x) t ≡ running_at lives t
here_else [] s t x apart = refl
here_else (y ∷ lives) zero zero x apart = absurd (apart refl)
here_else (y ∷ lives) zero (suc t) x apart = refl
here_else (y ∷ lives) (suc s) zero x apart = refl
here_else (y ∷ lives) (suc s) (suc t) x apart = here_else lives s t x (λ is. apart (ap suc is))

-- none was started yet
pub none_yet : (n s : ℕ) → running_at (replicate n None) s ≡ None
none_yet zero s = refl
none_yet (suc n) zero = refl
none_yet (suc n) (suc s) = none_yet n s

-- none runs of a service that isn't there
pub none_beyond : (lives : List (Option Life)) (s : ℕ) → length lives ≤ s → running_at lives s ≡ None
none_beyond [] s long = refl
none_beyond (x ∷ lives) zero long = absurd (omega (arith, long))
none_beyond (x ∷ lives) (suc s) long = none_beyond lives s (omega (arith, long))

pub child_else : (s t : ℕ) (x : Option Life) (c d : CrewIs) → d.running ≡ slice_set c.running s x → t ≢ s → child_of d t ≡ child_of c t
child_else s t x c d is apart = ap (λ lives. running_at lives t) is ∙ here_else c.running s t x apart

-- ---- each child that runs has its link

-- what is said of the child of service s
abbrev AttendsAt : CrewIs → ℕ → Type 0
AttendsAt c s = Attends s (child_of c s) (link_at c.watch s) (last_booted (seen_at c.watch s))

attends_as : (s : ℕ) (a b : Option Life) (l m : Bool) (j k : ℕ) → b ≡ a → m ≡ l → k ≡ j → Attends s a l j → Attends s b m k
attends_as s a b l m j k child link last h = subst (λ (n : ℕ). Attends s b m n) (sym last) (subst (λ (x : Bool). Attends s b x j) (sym link) (subst (λ (x : Option Life). Attends s x l j) (sym child) h))

-- the same child, at a service whose cell was seen as before
attends_still : (s : ℕ) (c d : CrewIs) → child_of d s ≡ child_of c s → link_at d.watch s ≡ link_at c.watch s → last_booted (seen_at d.watch s) ≡ last_booted (seen_at c.watch s) → AttendsAt c s → AttendsAt d s
attends_still s c d child link last h = attends_as s (child_of c s) (child_of d s) (link_at c.watch s) (link_at d.watch s) (last_booted (seen_at c.watch s)) (last_booted (seen_at d.watch s)) child link last h

pub attended_none : (c : CrewIs) → ((s : ℕ) → child_of c s ≡ None) → ((s : ℕ) → link_at c.watch s ≡ false) → Attended c
attended_none c none out s = subst (λ (x : Option Life). Attends s x (link_at c.watch s) (last_booted (seen_at c.watch s))) (sym (none s)) (out s)

pub attended_same : (c d : CrewIs) → d.watch ≡ c.watch → d.running ≡ c.running → Attended c → Attended d
attended_same c d watch running h s = attends_still s c d (ap (λ lives. running_at lives s) running) (ap (λ w. link_at w s) watch) (ap (λ w. last_booted (seen_at w s)) watch) (h s)

-- what a step at one cell leaves
attended_at : (u : ℕ) (x : Option Life) (c d : CrewIs) → OnlyAt u c.watch d.watch → d.running ≡ slice_set c.running u x → AttendsAt d u → Attended c → Attended d
attended_at u x c d only running here h s = dite (ℕ_discrete s u)
    (λ is. subst (AttendsAt d) (sym is) here)
    (λ apart. attends_still s c d (child_else u s x c d running apart) (link_else u s c.watch d.watch apart only) (ap last_booted (only_else u s c.watch d.watch apart only)) (h s))

-- a child that isn't there
attends_none : (s : ℕ) (d : CrewIs) → child_of d s ≡ None → link_at d.watch s ≡ false → AttendsAt d s
attends_none s d none out = subst (λ (x : Option Life). Attends s x (link_at d.watch s) (last_booted (seen_at d.watch s))) (sym none) out

pub attended_emptied : (s : ℕ) (c d : CrewIs) → Empties s c d → Attended c → Attended d
attended_emptied s c d h = attended_at s None c d h.only h.running_is (attends_none s d (ap (λ lives. running_at lives s) h.running_is ∙ none_here c.running s) h.unlinked)

pub attended_started : (s k : ℕ) (c d : CrewIs) → Starts s k c d → Attended c → Attended d
attended_started s k c d h = attended_at s (Some (new_life s k)) c d h.tries.only h.running_is
    (subst (λ (x : Option Life). Attends s x (link_at d.watch s) (last_booted (seen_at d.watch s))) (sym h.child) (refl, h.linked, sym h.last))

pub attended_missed : (s k : ℕ) (c d : CrewIs) → child_of c s ≡ None → Misses s k c d → Attended c → Attended d
attended_missed s k c d none m h t = dite (ℕ_discrete t s)
    (λ is. subst (AttendsAt d) (sym is) (attends_none s d (ap (λ lives. running_at lives s) m.running_is ∙ none) (m.unlinked (subst (λ (x : Option Life). Attends s x (link_at c.watch s) (last_booted (seen_at c.watch s))) none (h s)))))
    (λ apart. attends_still t c d (ap (λ lives. running_at lives t) m.running_is) (link_else s t c.watch d.watch apart m.tries.only) (ap last_booted (only_else s t c.watch d.watch apart m.tries.only)) (h t))

pub attended_met : (u : ℕ) (c d : CrewIs) → OnlyAt u c.watch d.watch → link_at d.watch u ≡ link_at c.watch u → last_booted (seen_at d.watch u) ≡ last_booted (seen_at c.watch u) → d.running ≡ c.running → Attended c → Attended d
attended_met u c d only link last running h t =
    let child = ap (λ lives. running_at lives t) running in
    dite (ℕ_discrete t u)
    (λ is. attends_still t c d child (ap (link_at d.watch) is ∙ (link ∙ sym (ap (link_at c.watch) is))) (ap (λ n. last_booted (seen_at d.watch n)) is ∙ (last ∙ sym (ap (λ n. last_booted (seen_at c.watch n)) is))) (h t))
    (λ apart. attends_still t c d child (link_else u t c.watch d.watch apart only) (ap last_booted (only_else u t c.watch d.watch apart only)) (h t))

pub attended_asked : (s : ℕ) (r : Recorded) (a : StaffIs) (answer : Ended) (b : StaffIs) → AsksLife s a answer b → Attended (crew_of r a) → Attended (crew_of r b)
attended_asked s r a answer b asks h t =
    let running = ap (λ (x : StaffIs). x.running) asks.is in
    dite (ℕ_discrete t s)
    (λ is. subst (AttendsAt (crew_of r b)) (sym is)
    (let was = subst (λ (x : Option Life). Attends s x (link_at r.watch s) (last_booted (seen_at r.watch s))) asks.was (h s) in
    subst (λ (x : Option Life). Attends s x (link_at r.watch s) (last_booted (seen_at r.watch s))) (sym (ap (λ lives. running_at lives s) running ∙ some_here a.running s asks.before asks.after asks.was))
    (ap (λ (x : Life). x.service) asks.asks.life ∙ was.0, was.1, ap (λ (x : Life). x.incarnation) asks.asks.life ∙ was.2)))
    (λ apart. attends_still t (crew_of r a) (crew_of r b) (ap (λ lives. running_at lives t) running ∙ here_else a.running s t (Some asks.after) apart) refl refl (h t))

-- ---- what was known of ended children still is

since_behind : (old s k : ℕ) (more before : List ChildEnd) → ended_since old s k before ≡ true → ended_since old s k (more ++ before) ≡ true
since_behind old s k [] before h = h
since_behind old s k (e ∷ more) before h = or_right (nat_le old (length (more ++ before)) && ended_at s k e) (ended_since old s k (more ++ before)) (since_behind old s k more before h)

longer_behind : (more before : List ChildEnd) → length before ≤ length (more ++ before)
longer_behind [] before = omega arith
longer_behind (e ∷ more) before = let rest = longer_behind more before in omega (arith, rest)

-- the children that were finished are as many, or more
pub more_finished_now : (f g : Family) → TellsMore f g → length f.finished ≤ length g.finished
more_finished_now f g more = subst (λ (ends : List ChildEnd). length f.finished ≤ length ends) (sym more.finished_is) (longer_behind more.ends f.finished)

pub family_stays : (old : ℕ) (f g : Family) (s k : ℕ) → TellsMore f g → IsTrue (family_ended old f s k) → IsTrue (family_ended old g s k)
family_stays old f g s k more h = subst (λ ends. ended_since old s k ends ≡ true) (sym more.finished_is) (since_behind old s k more.ends f.finished h)

-- a child still runs, or is told of by what was finished
still_told : (old : ℕ) (c d : CrewIs) (s k : ℕ) → TellsMore c.family d.family → (IsTrue (life_ended (child_of c s) k) → IsTrue (tells_ended old d s k)) → IsTrue (tells_ended old c s k) → IsTrue (tells_ended old d s k)
still_told old c d s k more lives told =
    ⊎_elim lives (λ (h : family_ended old c.family s k ≡ true). or_right (life_ended (child_of d s) k) (family_ended old d.family s k) (family_stays old c.family d.family s k more h))
    (or_cases (life_ended (child_of c s) k) (family_ended old c.family s k) told)

still_runs : (old : ℕ) (c d : CrewIs) (s k : ℕ) → child_of d s ≡ child_of c s → IsTrue (life_ended (child_of c s) k) → IsTrue (tells_ended old d s k)
still_runs old c d s k same h = or_left (life_ended (child_of d s) k) (family_ended old d.family s k) (ap (λ (x : Option Life). life_ended x k) same ∙ h)

none_ended : (child : Option Life) (k : ℕ) → child ≡ None → IsTrue (life_ended child k) → ⊥
none_ended child k none h = false≢true (sym (ap (λ (x : Option Life). life_ended x k) none) ∙ h)

-- a child that has ended was finished with its link
ended_finished : (old s k last : ℕ) (child : Option Life) (link : Option Wire) (f g : Family) → g ≡ with_end_of child link f → old ≤ length f.finished → Attends s child (is_some link) last → IsTrue (life_ended child k) → IsTrue (family_ended old g s k)
ended_finished old s k last None link f g is since attends h = absurd (false≢true h)
ended_finished old s k last (Some life) None f g is since attends h = absurd (false≢true attends.1)
ended_finished old s k last (Some life) (Some wire) f g is since attends h =
    let ends = (life.service == s) && ((life.incarnation == k) && life.ended) in
    subst (λ (x : Family). ended_since old s k x.finished ≡ true) (sym is)
    (or_left (nat_le old (length f.finished) && ends) (ended_since old s k f.finished)
    (and_from (nat_le old (length f.finished)) ends (le-leb old (length f.finished) since)
    (and_from (life.service == s) ((life.incarnation == k) && life.ended) (eq-eqb life.service s attends.0) h)))

pub stays_emptied : (s : ℕ) (c d : CrewIs) → Attended c → Empties s c d → StaysEnded c d
stays_emptied s c d a h = record {
  more = more_finished_now c.family d.family (more_emptied s c d h);
  told = λ old t k since. still_told old c d t k (more_emptied s c d h) (λ lives. dite (ℕ_discrete t s)
      (λ is. or_right (life_ended (child_of d t) k) (family_ended old d.family t k)
      (subst (λ n. family_ended old d.family n k ≡ true) (sym is)
      (ended_finished old s k (last_booted (seen_at c.watch s)) (child_of c s) h.link c.family d.family h.family_is since
      (subst (λ (x : Bool). Attends s (child_of c s) x (last_booted (seen_at c.watch s))) (sym h.link_is) (a s))
      (subst (λ n. life_ended (child_of c n) k ≡ true) is lives))))
      (λ apart. still_runs old c d t k (child_else s t None c d h.running_is apart) lives));
}

pub stays_started : (s k : ℕ) (c d : CrewIs) → child_of c s ≡ None → Starts s k c d → StaysEnded c d
stays_started s i c d none h = record {
  more = more_finished_now c.family d.family h.tries.told;
  told = λ old t k since. still_told old c d t k h.tries.told (λ lives. dite (ℕ_discrete t s)
      (λ is. absurd (none_ended (child_of c t) k (ap (child_of c) is ∙ none) lives))
      (λ apart. still_runs old c d t k (child_else s t (Some (new_life s i)) c d h.running_is apart) lives));
}

pub stays_missed : (s k : ℕ) (c d : CrewIs) → Misses s k c d → StaysEnded c d
stays_missed s i c d h = record {
  more = more_finished_now c.family d.family h.tries.told;
  told = λ old t k since. still_told old c d t k h.tries.told (still_runs old c d t k (ap (λ lives. running_at lives t) h.running_is));
}

pub stays_same : (c d : CrewIs) → d.running ≡ c.running → d.family ≡ c.family → StaysEnded c d
stays_same c d running family = record {
  more = more_finished_now c.family d.family (more_same c.family d.family family);
  told = λ old s k since h.
      ap (λ (f : Family). life_ended (child_of d s) k || family_ended old f s k) family
      ∙ (ap (λ lives. life_ended (running_at lives s) k || family_ended old c.family s k) running ∙ h);
}

pub stays_on : (a b c : CrewIs) → StaysEnded a b → StaysEnded b c → StaysEnded a c
stays_on a b c h i = record {
  more = omega (arith, h.more, i.more);
  told = λ old s k since told. i.told old s k (omega (arith, since, h.more)) (h.told old s k since told);
}

-- nothing happened yet
pub stays_here : (c : CrewIs) → StaysEnded c c
stays_here c = stays_same c c refl refl

-- ---- a child was asked

yes_stays : (stopped : Bool) (answer : Ended) (ended : Bool) → ended ≡ true → ended_after stopped answer ended ≡ true
yes_stays true Yes ended h = h
yes_stays false Yes ended h = refl
yes_stays stopped No ended h = h
yes_stays stopped Failed ended h = h

pub stays_asked : (s : ℕ) (r : Recorded) (a : StaffIs) (answer : Ended) (b : StaffIs) → AsksLife s a answer b → StaysEnded (crew_of r a) (crew_of r b)
stays_asked s r a answer b asks =
    let running = ap (λ (x : StaffIs). x.running) asks.is in
    let family = ap (λ (x : StaffIs). x.family) asks.is in
    let same = more_same a.family b.family family in
    record {
      more = more_finished_now a.family b.family same;
      told = λ old t k since. still_told old (crew_of r a) (crew_of r b) t k same
          (λ lives. dite (ℕ_discrete t s)
          (λ is.
          let before = asks.before in
          let h = and_parts (before.incarnation == k) before.ended (sym (ap (λ (x : Option Life). life_ended x k) (ap (running_at a.running) is ∙ asks.was)) ∙ lives) in
          or_left (life_ended (running_at b.running t) k) (family_ended old b.family t k)
          (ap (λ (x : Option Life). life_ended x k) (ap (running_at b.running) is ∙ (ap (λ lives. running_at lives s) running ∙ some_here a.running s before asks.after asks.was))
          ∙ (ap (λ (x : Life). (x.incarnation == k) && x.ended) asks.asks.life ∙ and_from (before.incarnation == k) (ended_after before.stopped answer before.ended) h.0 (yes_stays before.stopped answer before.ended h.1))))
          (λ apart. still_runs old (crew_of r a) (crew_of r b) t k (ap (λ lives. running_at lives t) running ∙ here_else a.running s t (Some asks.after) apart) lives));
    }

-- ---- no child runs any more

pub idle_so_far : (u : ℕ) (c d : CrewIs) → Empties u c d → ((s : ℕ) → s < u → child_of c s ≡ None) → (s : ℕ) → s < u + 1 → child_of d s ≡ None
idle_so_far u c d h before s within = dite (ℕ_discrete s u)
    (λ is. ap (child_of d) is ∙ (ap (λ lives. running_at lives u) h.running_is ∙ none_here c.running u))
    (λ apart. child_else u s None c d h.running_is apart ∙ before s (omega (arith, within, apart)))

pub all_idle : (n : ℕ) (lives : List (Option Life)) → length lives ≤ n → ((s : ℕ) → s < n → running_at lives s ≡ None) → (s : ℕ) → running_at lives s ≡ None
all_idle n lives long idle s = ⊎_elim (λ (h : s < n). idle s h) (λ (h : n ≤ s). none_beyond lives s (omega (arith, long, h))) (cases_lt s n)

pub family_tells : (old : ℕ) (c : CrewIs) → ((s : ℕ) → child_of c s ≡ None) → (s k : ℕ) → IsTrue (tells_ended old c s k) → IsTrue (family_ended old c.family s k)
family_tells old c idle s k told =
    ⊎_elim (λ (h : life_ended (child_of c s) k ≡ true). absurd (none_ended (child_of c s) k (idle s) h)) (λ (h : family_ended old c.family s k ≡ true). h)
    (or_cases (life_ended (child_of c s) k) (family_ended old c.family s k) told)

-- whether the link is there, by what it tells
pub linked_map : {L : Type 0} (f : L → Wire) (link : Option L) → is_some (option_map f link) ≡ is_some link
linked_map f None = refl
linked_map f (Some x) = refl
