-- The children that are finished, against what was seen of their cells.
use Rattle.std.proofs.Common.{if◌then◌else◌, ◌≡◌, ◌≢◌, ◌∙◌, ℕ, ◌+◌, ◌≤◌, Bool, true, false, List, [], ◌∷◌, Option, Some, None, refl, sym, ap, subst, arith, eq-eqb, ne_eqb}
use Rattle.std.specs.Prelude.{IfSome, ◌==◌, ◌&&◌, count_by, is_some, nat_lt, slice_set}
use Rattle.std.proofs.lemmas.Bool.{false≢true, lt-ltb}
use mathlib.Core.Logic.{dite}
use native.Mathlib.Decide.{ℕ_discrete}
use Rattle.okws_base.specs.Runs.{Each}
use Rattle.okws_plan.specs.declared.configuration.Config.{Config}
use Rattle.okws_outer.specs.Families.{Family, child_named}
use Rattle.okws_outer.specs.Lives.{Life}
use Rattle.okws_outer.specs.Wire.{Wire}
use Rattle.okws_outer.specs.declared.children.ChildEnd.{ChildEnd}
use Rattle.monitor_model.specs.Cell.{heard, incarnation, last_booted}
use Rattle.monitor_model.specs.Sent.{IsGiven, broken_in}
use Rattle.site_cells.specs.Held.{CountsFaults, IsLinkOf, is_broken}
use Rattle.site_cells.specs.Row.{CellsSeen, link_at, seen_at}
use Rattle.launch_crew.specs.Crews.{CrewIs, child_of, running_at}
use Rattle.launch_crew.specs.Ended.{Attended, Attends}
use Rattle.launch_crew.specs.Finished.{EndsAll, EndsAt, EndsOf, all_out, has_fault, is_end_of, one_if, runs_as}
use Rattle.launch_crew.specs.Listed.{CellsGo}
use Rattle.launch_crew.specs.Steps.{Empties}
use Rattle.launch_crew.specs.Told.{Finishes, with_end_of}
use Rattle.launch_crew.proofs.Children.{end_of}
use Rattle.launch_crew.proofs.Ended.{child_else, none_here}
use Rattle.launch_crew.proofs.Found.{behind_on, counted_not, counted_one}

-- ---- the child of a cell that is left empty

none_less : (n : ℕ) → 0 ≤ n
none_less n = omega arith

same_most : (n : ℕ) → n ≤ n
same_most n = omega arith

fault_shown : (linked broken : Bool) (faults : ℕ) → CountsFaults broken faults → one_if (linked && broken) ≤ one_if (nat_lt 0 faults)
fault_shown false broken faults told = none_less (one_if (nat_lt 0 faults))
fault_shown true false faults told = none_less (one_if (nat_lt 0 faults))
fault_shown true true faults told = subst (λ (b : Bool). 1 ≤ one_if b) (sym (lt-ltb 0 faults told)) (same_most 1)

wider : (a b c d : ℕ) → a ≤ b + c → c ≤ d → a ≤ b + d
wider a b c d less more = omega (arith, less, more)

no_more : (a b : ℕ) → a ≤ b + 0 → a ≤ b
no_more a b less = omega (arith, less)

module _ (C : Config) (seed : List ℕ) (s : ℕ) (w v : CellsSeen) (f g : Family) where
  pub ends_of_child : (child : Option Life) (link : Option Wire) (linked : Bool) → g ≡ with_end_of child link f → is_some link ≡ linked → Attends s child linked (last_booted (seen_at w s))
      → last_booted (seen_at v s) ≡ last_booted (seen_at w s) → incarnation (seen_at v s) ≡ 0 → IfSome link (IsLinkOf C seed s (seen_at v s))
      → ((n : ℕ) → all_out v n ≤ all_out w n + one_if (linked && is_broken (seen_at v s))) → EndsOf C seed w v child f g
  ends_of_child None link linked is there attends last empty holds out =
      (is, λ n. no_more (all_out v n) (all_out w n) (subst (λ (b : Bool). all_out v n ≤ all_out w n + one_if (b && is_broken (seen_at v s))) attends (out n)))
  ends_of_child (Some life) None linked is there attends last empty holds out = absurd (false≢true (there ∙ attends.1))
  ends_of_child (Some life) (Some wire) linked is there attends last empty holds out = record {
    child = end_of life wire;
    is = is;
    service_is = refl;
    incarnation_is = refl;
    at = record {
      events = seen_at v s;
      behind = ([], ap (seen_at v) attends.0);
      empty = empty;
      last = attends.2 ∙ sym last;
      whose = holds.whose ∙ (ap (λ n. Some (child_named n (last_booted (seen_at v s)))) (sym attends.0) ∙ ap (λ n. Some (child_named life.service n)) (sym (attends.2 ∙ sym last)));
      given = subst (λ n. IsGiven (heard C seed n (last_booted (seen_at v s)) (seen_at v s)) (broken_in (last_booted (seen_at v s)) (seen_at v s)) wire.given) (sym attends.0) holds.given;
      taken = holds.taken;
      faults = holds.faults;
    };
    out = λ n. wider (all_out v n) (all_out w n) (one_if (linked && is_broken (seen_at v s))) (one_if (nat_lt 0 wire.faults)) (out n) (fault_shown linked (is_broken (seen_at v s)) wire.faults holds.faults);
  }

-- ---- what is known of an end stays known

pub ends_still : (C : Config) (seed : List ℕ) (w v : CellsSeen) (e : ChildEnd) → CellsGo w v → EndsAt C seed w e → EndsAt C seed v e
ends_still C seed w v e goes h = record {
  events = h.events;
  behind = behind_on h.events (seen_at w e.service) (seen_at v e.service) h.behind (goes e.service);
  empty = h.empty;
  last = h.last;
  whose = h.whose;
  given = h.given;
  taken = h.taken;
  faults = h.faults;
}

pub all_still : (C : Config) (seed : List ℕ) (w v : CellsSeen) (ends : List ChildEnd) → CellsGo w v → Each (EndsAt C seed w) ends → Each (EndsAt C seed v) ends
all_still C seed w v [] goes h = tt
all_still C seed w v (e ∷ ends) goes h = (ends_still C seed w v e goes h.0, all_still C seed w v ends goes h.1)

-- ---- one service after the other

-- Of the children that ran some were finished, and the others run.
pub record EndsSome (C : Config) (seed : List ℕ) (c d : CrewIs) : Type 0 where
  pub ends : List ChildEnd
  pub is : Finishes ends c.family d.family
  pub each : Each (EndsAt C seed d.watch) ends
  pub so_far : (s k : ℕ) → count_by (is_end_of s k) ends + runs_as (child_of d s) k ≡ runs_as (child_of c s) k
  pub out : (n : ℕ) → all_out d.watch n ≤ all_out c.watch n + count_by has_fault ends

none_first : (n : ℕ) → 0 + n ≡ n
none_first n = omega arith

nothing_more : (n : ℕ) → n ≤ n + 0
nothing_more n = omega arith

pub ends_none : (C : Config) (seed : List ℕ) (c : CrewIs) → EndsSome C seed c c
ends_none C seed c = record { ends = []; is = refl; each = tt; so_far = λ s k. none_first (runs_as (child_of c s) k); out = λ n. nothing_more (all_out c.watch n) }

turned_round : (n : ℕ) → 1 + n ≡ n + 1
turned_round n = omega arith

and_none : (n : ℕ) → n ≡ n + 0
and_none n = omega arith

-- one end more, by whether it is that of incarnation k of s
one_more : (b : Bool) (s k : ℕ) (e : ChildEnd) (ends : List ChildEnd) → is_end_of s k e ≡ b → count_by (is_end_of s k) (e ∷ ends) ≡ count_by (is_end_of s k) ends + (if b then 1 else 0)
one_more true s k e ends is = counted_one (is_end_of s k) e ends is ∙ turned_round (count_by (is_end_of s k) ends)
one_more false s k e ends is = counted_not (is_end_of s k) e ends is ∙ and_none (count_by (is_end_of s k) ends)

-- whether the last one had a fault
fault_more : (b : Bool) (e : ChildEnd) (ends : List ChildEnd) → has_fault e ≡ b → count_by has_fault (e ∷ ends) ≡ count_by has_fault ends + one_if b
fault_more true e ends is = counted_one has_fault e ends is ∙ turned_round (count_by has_fault ends)
fault_more false e ends is = counted_not has_fault e ends is ∙ and_none (count_by has_fault ends)

through : (a b c n : ℕ) → a ≤ b → b ≤ c + n → a ≤ c + n
through a b c n first then' = omega (arith, first, then')

with_one : (a b c n m k : ℕ) → a ≤ b + k → b ≤ c + n → m ≡ n + k → a ≤ c + m
with_one a b c n m k first then' is = omega (arith, first, then', is)

moved : (a b n m : ℕ) → a ≡ n + m → n + m ≡ b → a + 0 ≡ b
moved a b n m p q = omega (arith, p, q)

module _ (C : Config) (seed : List ℕ) (u : ℕ) (a c d : CrewIs) (running : d.running ≡ slice_set c.running u None) (goes : CellsGo c.watch d.watch) (at : Attended c) (h : EndsSome C seed a c) where
  none_now : child_of d u ≡ None
  none_now = ap (λ lives. running_at lives u) running ∙ none_here c.running u

  others : (s k : ℕ) → s ≢ u → runs_as (child_of d s) k ≡ runs_as (child_of c s) k
  others s k apart = ap (λ (x : Option Life). runs_as x k) (child_else u s None c d running apart)

  next_by : (child : Option Life) → child_of c u ≡ child → EndsOf C seed c.watch d.watch child c.family d.family → EndsSome C seed a d
  next_by None is e = record {
    ends = h.ends;
    is = e.0 ∙ h.is;
    each = all_still C seed c.watch d.watch h.ends goes h.each;
    so_far = λ s k. ap (λ n. count_by (is_end_of s k) h.ends + n) (dite (ℕ_discrete s u)
        (λ here. ap (λ (x : Option Life). runs_as x k) (ap (child_of d) here ∙ (none_now ∙ sym (ap (child_of c) here ∙ is))))
        (others s k)) ∙ h.so_far s k;
    out = λ n. through (all_out d.watch n) (all_out c.watch n) (all_out a.watch n) (count_by has_fault h.ends) (e.1 n) (h.out n);
  }
  next_by (Some life) is e =
      let life_at = subst (λ (x : Option Life). Attends u x (link_at c.watch u) (last_booted (seen_at c.watch u))) is (at u) in
      record {
        ends = e.child ∷ h.ends;
        is = e.is ∙ ap (λ (x : Family). record x { finished = e.child ∷ x.finished }) h.is;
        each = (e.at, all_still C seed c.watch d.watch h.ends goes h.each);
        so_far = λ s k. dite (ℕ_discrete s u)
            (λ here. subst (λ n. count_by (is_end_of n k) (e.child ∷ h.ends) + runs_as (child_of d n) k ≡ runs_as (child_of a n) k) (sym here)
            (let told : is_end_of u k e.child ≡ (life.incarnation == k) =
            ap (λ n. (n == u) && (e.child.incarnation == k)) (e.service_is ∙ life_at.0)
            ∙ (ap (λ b. b && (e.child.incarnation == k)) (eq-eqb u u refl) ∙ ap (λ n. n == k) e.incarnation_is) in
            ap (λ n. count_by (is_end_of u k) (e.child ∷ h.ends) + n) (ap (λ (x : Option Life). runs_as x k) none_now)
            ∙ moved (count_by (is_end_of u k) (e.child ∷ h.ends)) (runs_as (child_of a u) k) (count_by (is_end_of u k) h.ends) (if life.incarnation == k then 1 else 0)
            (one_more (life.incarnation == k) u k e.child h.ends told)
            (ap (λ (x : Option Life). count_by (is_end_of u k) h.ends + runs_as x k) (sym is) ∙ h.so_far u k)))
            (λ apart.
            let other : is_end_of s k e.child ≡ false =
            ap (λ n. (n == s) && (e.child.incarnation == k)) (e.service_is ∙ life_at.0) ∙ ap (λ b. b && (e.child.incarnation == k)) (ne_eqb u s (λ same. apart (sym same))) in
            ap (λ n. n + runs_as (child_of d s) k) (counted_not (is_end_of s k) e.child h.ends other)
            ∙ (ap (λ n. count_by (is_end_of s k) h.ends + n) (others s k apart) ∙ h.so_far s k));
        out = λ n. with_one (all_out d.watch n) (all_out c.watch n) (all_out a.watch n) (count_by has_fault h.ends) (count_by has_fault (e.child ∷ h.ends)) (one_if (has_fault e.child)) (e.out n) (h.out n) (fault_more (has_fault e.child) e.child h.ends refl);
      }

pub ends_next : (C : Config) (seed : List ℕ) (u : ℕ) (a c d : CrewIs) → Empties u c d → Attended c → EndsOf C seed c.watch d.watch (child_of c u) c.family d.family → EndsSome C seed a c → EndsSome C seed a d
ends_next C seed u a c d h at e so_far = next_by C seed u a c d h.running_is h.behind at so_far (child_of c u) refl e

nothing_left : (a b c : ℕ) → a + b ≡ c → b ≡ 0 → a ≡ c
nothing_left a b c is none = omega (arith, is, none)

pub ends_all : (C : Config) (seed : List ℕ) (c d : CrewIs) → ((s : ℕ) → child_of d s ≡ None) → Attended d → EndsSome C seed c d → EndsAll C seed d.watch c d.family
ends_all C seed c d idle at h = record {
  ends = h.ends;
  is = h.is;
  each = h.each;
  all = λ s k. nothing_left (count_by (is_end_of s k) h.ends) (runs_as (child_of d s) k) (runs_as (child_of c s) k) (h.so_far s k) (ap (λ (x : Option Life). runs_as x k) (idle s));
  out = h.out;
  unlinked = λ s. subst (λ (x : Option Life). Attends s x (link_at d.watch s) (last_booted (seen_at d.watch s))) (idle s) (at s);
}
