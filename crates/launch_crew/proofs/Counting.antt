-- How many dialogs ended by faults of links that are out, while others go on at the cells.
use Rattle.std.proofs.Common.{if◌then◌else◌, ◌≡◌, ◌≢◌, ◌∙◌, ℕ, zero, suc, ◌+◌, ◌<◌, ◌≤◌, Bool, true, false, List, [], ◌∷◌, ◌++◌, Option, Some, None, refl, sym, ap, subst, arith, eq-eqb, ne_eqb}
use Rattle.std.specs.Prelude.{◌==◌, ◌&&◌, is_some, max, not}
use Rattle.std.proofs.lemmas.Bool.{false≢true}
use mathlib.Core.Logic.{dite}
use native.Mathlib.Decide.{ℕ_discrete}
use Rattle.okws_base.specs.Turns.{of, GrowsBy}
use Rattle.okws_outer.specs.Wire.{Wire}
use Rattle.monitor_model.specs.declared.record.CellEvent.{CellEvent}
use Rattle.monitor_model.specs.declared.record.CellEvent.TheVariants as cell
use Rattle.monitor_model.specs.declared.record.Dialog.{Dialog}
use Rattle.monitor_model.specs.declared.record.End.{End}
use Rattle.monitor_model.specs.declared.record.End.TheVariants as end
use Rattle.monitor_model.specs.Cell.{CellLaw, after_end, incarnation, last_booted}
use Rattle.monitor_model.specs.Sent.{broken_in, is_link_fault, or_else}
use Rattle.service_cell.proofs.Hearing.{was_there}
use Rattle.service_cell.proofs.Sending.{unbroken}
use Rattle.site_cells.specs.Held.{by_event, is_broken}
use Rattle.site_cells.proofs.Onlys.{link_else, only_else}
use Rattle.site_cells.proofs.Stays.{empty_stays, tail_none}
use Rattle.site_cells.specs.Row.{CellsSeen, OnlyAt, link_at, seen_at}
use Rattle.site_cells.specs.Turns.{HasRetired}
use Rattle.launch_crew.specs.Finished.{all_out, faults_before, faults_in, faults_out, one_if, out_at}

-- ---- what others enter

skipped : (b t : Bool) (m : ℕ) → t ≡ true → (if b && not t then 1 + m else m) ≡ m
skipped true t m is = ap (λ x. if true && not x then 1 + m else m) is
skipped false t m is = refl

in_grown : (n : ℕ) (more J : List CellEvent) → of (by_event n) n more ≡ [] → incarnation J ≡ 0 → faults_in (more ++ J) ≡ faults_in J
in_grown n [] J none empty = refl
in_grown n (cell.Boot k ∷ more) J none empty = absurd ((tail_none n (cell.Boot k) more none).0 refl)
in_grown n (cell.Retired ∷ more) J none empty = absurd ((tail_none n cell.Retired more none).0 refl)
in_grown n (cell.Missed worker wanted is ∷ more) J none empty = in_grown n more J (tail_none n (cell.Missed worker wanted is) more none).1 empty
in_grown n (cell.Dialog d ∷ more) J none empty =
    let rest = (tail_none n (cell.Dialog d) more none).1 in
    skipped (is_link_fault d.end) (incarnation (more ++ J) == 0) (faults_in (more ++ J)) (eq-eqb (incarnation (more ++ J)) 0 (empty_stays n more J rest empty)) ∙ in_grown n more J rest empty
in_grown n (cell.Speaking worker items ∷ more) J none empty = in_grown n more J (tail_none n (cell.Speaking worker items) more none).1 empty

before_grown : (n : ℕ) (more J : List CellEvent) → of (by_event n) n more ≡ [] → faults_before (more ++ J) ≡ faults_before J
before_grown n [] J none = refl
before_grown n (cell.Boot k ∷ more) J none = absurd ((tail_none n (cell.Boot k) more none).0 refl)
before_grown n (cell.Retired ∷ more) J none = absurd ((tail_none n cell.Retired more none).0 refl)
before_grown n (cell.Missed worker wanted is ∷ more) J none = before_grown n more J (tail_none n (cell.Missed worker wanted is) more none).1
before_grown n (cell.Dialog d ∷ more) J none = before_grown n more J (tail_none n (cell.Dialog d) more none).1
before_grown n (cell.Speaking worker items ∷ more) J none = before_grown n more J (tail_none n (cell.Speaking worker items) more none).1

module _ (n : ℕ) (I J : List CellEvent) (g : GrowsBy (by_event n) n I J) where
  pub in_same : incarnation I ≡ 0 → faults_in J ≡ faults_in I
  in_same empty = ap faults_in g.2 ∙ in_grown n g.0 I g.1 empty

  pub before_same : faults_before J ≡ faults_before I
  before_same = ap faults_before g.2 ∙ before_grown n g.0 I g.1

  pub out_same : (b : Bool) → (b ≡ false → incarnation I ≡ 0) → faults_out b J ≡ faults_out b I
  out_same true empty = before_same
  out_same false empty = in_same (empty refl)

-- ---- since the last Boot one dialog at most ended so

is_last : (J : List CellEvent) → CellLaw J → incarnation J ≢ 0 → incarnation J ≡ last_booted J
is_last [] law there = absurd (there refl)
is_last (cell.Boot k ∷ J) law there = let above : last_booted J < k = law.2.1 in omega (arith, above)
is_last (cell.Retired ∷ J) law there = absurd (there refl)
is_last (cell.Missed worker wanted is ∷ J) law there = is_last J law.0 there
is_last (cell.Dialog d ∷ J) law there = let stays = was_there d.end (incarnation J) there in stays.1 ∙ is_last J law.0 stays.0
is_last (cell.Speaking worker items ∷ J) law there = is_last J law.0 there

fault_empties : (how : End) (k : ℕ) → is_link_fault how ≡ true → after_end how k ≡ 0
fault_empties end.Reply k is = absurd (false≢true is)
fault_empties (end.Superseded shown) k is = absurd (false≢true is)
fault_empties end.BadFrame k is = refl
fault_empties end.Ended k is = refl
fault_empties end.LinkFault k is = refl
fault_empties end.FrameLimit k is = refl
fault_empties end.Starved k is = refl

-- what is known of a lawful cell
pub record AtMostOne (J : List CellEvent) : Type 0 where
  pub counts : faults_in J ≡ faults_before J + one_if (is_broken J)
  pub whole : incarnation J ≢ 0 → is_broken J ≡ false

plus_none : (n : ℕ) → n ≡ n + 0
plus_none n = omega arith

one_first : (a b : ℕ) → a ≡ b + 0 → 1 + a ≡ b + 1
one_first a b is = omega (arith, is)

module _ (d : Dialog) (J : List CellEvent) (there : incarnation J ≢ 0) (last : incarnation J ≡ last_booted J) (one : AtMostOne J) where
  broken_then : (b : Bool) → is_link_fault d.end ≡ b → is_broken (cell.Dialog d ∷ J) ≡ is_some (or_else (if b then Some d.due else None) (broken_in (last_booted J) J))
  broken_then b is =
      ap (λ (x : Bool). is_some (if x then or_else (if is_link_fault d.end then Some d.due else None) (broken_in (last_booted J) J) else broken_in (last_booted J) J)) (eq-eqb (incarnation J) (last_booted J) last)
      ∙ ap (λ (x : Bool). is_some (or_else (if x then Some d.due else None) (broken_in (last_booted J) J))) is

  counts_then : (b : Bool) → is_link_fault d.end ≡ b → faults_in (cell.Dialog d ∷ J) ≡ (if b then 1 + faults_in J else faults_in J)
  counts_then true is = ap (λ (x : Bool). if x && not (incarnation J == 0) then 1 + faults_in J else faults_in J) is ∙ ap (λ (x : Bool). if true && not x then 1 + faults_in J else faults_in J) (ne_eqb (incarnation J) 0 there)
  counts_then false is = ap (λ (x : Bool). if x && not (incarnation J == 0) then 1 + faults_in J else faults_in J) is

  one_by : (b : Bool) → is_link_fault d.end ≡ b → AtMostOne (cell.Dialog d ∷ J)
  one_by true is = record {
    counts = counts_then true is ∙ (one_first (faults_in J) (faults_before J) (one.counts ∙ ap (λ (x : Bool). faults_before J + one_if x) (one.whole there)) ∙ ap (λ (x : Bool). faults_before J + one_if x) (sym (broken_then true is)));
    whole = λ still. absurd (still (fault_empties d.end (incarnation J) is));
  }
  one_by false is = record {
    counts = counts_then false is ∙ (one.counts ∙ ap (λ (x : Bool). faults_before J + one_if x) (sym (broken_then false is)));
    whole = λ still. broken_then false is ∙ one.whole there;
  }

pub at_most_one : (J : List CellEvent) → CellLaw J → AtMostOne J
at_most_one [] law = record { counts = refl; whole = λ there. refl }
at_most_one (cell.Boot k ∷ J) law =
    let unbroken_yet = ap is_some (unbroken (max k (last_booted J)) J (omega (arith, law.2.1))) in
    record { counts = plus_none (faults_in J) ∙ ap (λ (x : Bool). faults_in J + one_if x) (sym unbroken_yet); whole = λ there. unbroken_yet }
at_most_one (cell.Retired ∷ J) law = record { counts = (at_most_one J law.0).counts; whole = λ there. absurd (there refl) }
at_most_one (cell.Missed worker wanted is ∷ J) law = let h = at_most_one J law.0 in record { counts = h.counts; whole = h.whole }
at_most_one (cell.Dialog d ∷ J) law = one_by d J law.2.0 (is_last J law.0 law.2.0) (at_most_one J law.0) (is_link_fault d.end) refl
at_most_one (cell.Speaking worker items ∷ J) law = let h = at_most_one J law.0 in record { counts = h.counts; whole = h.whole }

-- ---- a cell that is left empty

in_retired : (b : Bool) (J : List CellEvent) → faults_in (if b then J else cell.Retired ∷ J) ≡ faults_in J
in_retired true J = refl
in_retired false J = refl

before_retired : (b : Bool) (J : List CellEvent) → faults_before (if b then J else cell.Retired ∷ J) ≡ faults_before J
before_retired true J = refl
before_retired false J = refl

at_most : (a b c d : ℕ) → a ≡ b + c → b ≡ d → a ≤ d + c
at_most a b c d is same = omega (arith, is, same)

as_before : (a b : ℕ) → a ≡ b → a ≤ b + 0
as_before a b is = omega (arith, is)

module _ {L : Type 0} (wire : L → Wire) (n s : ℕ) (old : List CellEvent) (was : ℕ) (link : Option L) (new : List CellEvent) (h : HasRetired wire n s old was link new) (law : CellLaw new) where
  pub out_retired : (linked : Bool) → (linked ≡ false → incarnation old ≡ 0) → faults_in new ≤ faults_out linked old + one_if (linked && is_broken new)
  out_retired true empty =
      at_most (faults_in new) (faults_before new) (one_if (is_broken new)) (faults_before old) (at_most_one new law).counts
      (ap faults_before h.seen_is ∙ (before_retired (incarnation h.before.past == 0) h.before.past ∙ before_same n old h.before.past h.found.grows))
  out_retired false empty =
      as_before (faults_in new) (faults_in old) (ap faults_in h.seen_is ∙ (in_retired (incarnation h.before.past == 0) h.before.past ∙ in_same n old h.before.past h.found.grows (empty refl)))

-- ---- the cells together

same_sum : (a b c d x : ℕ) → a ≡ b → c ≤ d + x → a + c ≤ (b + d) + x
same_sum a b c d x is less = omega (arith, is, less)

here_sum : (a b c d x : ℕ) → a ≤ b + x → c ≡ d → a + c ≤ (b + d) + x
here_sum a b c d x less is = omega (arith, is, less)

just_less : (a b x : ℕ) → a ≡ b → a ≤ b + x
just_less a b x is = omega (arith, is)

not_yet : (n s : ℕ) → suc n ≤ s → s ≡ n → ⊥
not_yet n s less is = omega (arith, less, is)

less_still : (n s : ℕ) → suc n ≤ s → n ≤ s
less_still n s less = omega (arith, less)

same_end : (n s : ℕ) → s ≡ n → n ≤ s
same_end n s is = omega (arith, is)

module _ (s : ℕ) (w v : CellsSeen) (only : OnlyAt s w v) where
  else_out : (r : ℕ) → r ≢ s → out_at v r ≡ out_at w r
  else_out r apart i = faults_out (link_else s r w v apart only i) (only_else s r w v apart only i)

  all_below : (n : ℕ) → n ≤ s → all_out v n ≡ all_out w n
  all_below zero less = refl
  all_below (suc n) less = λ i. else_out n (λ is. not_yet n s less (sym is)) i + all_below n (less_still n s less) i

  pub all_at : (x : ℕ) → out_at v s ≤ out_at w s + x → (n : ℕ) → all_out v n ≤ all_out w n + x
  all_at x here zero = just_less 0 0 x refl
  all_at x here (suc n) = dite (ℕ_discrete s n)
      (λ is. here_sum (out_at v n) (out_at w n) (all_out v n) (all_out w n) x (subst (λ m. out_at v m ≤ out_at w m + x) is here) (all_below n (same_end n s is)))
      (λ apart. same_sum (out_at v n) (out_at w n) (all_out v n) (all_out w n) x (else_out n (λ is. apart (sym is))) (all_at x here n))

no_more : (a b : ℕ) → a ≤ b + 0 → a ≤ b
no_more a b less = omega (arith, less)

pub all_kept : (s : ℕ) (w v : CellsSeen) → OnlyAt s w v → out_at v s ≡ out_at w s → (n : ℕ) → all_out v n ≤ all_out w n
all_kept s w v only same n = no_more (all_out v n) (all_out w n) (all_at s w v only 0 (just_less (out_at v s) (out_at w s) 0 same) n)

pub all_still : (w : CellsSeen) (n : ℕ) → all_out w n ≤ all_out w n
all_still w n = omega arith

-- ---- each turn

module _ {L : Type 0} (wire : L → Wire) (n s : ℕ) (w v : CellsSeen) (was : ℕ) (link : Option L) (only : OnlyAt s w v) (h : HasRetired wire n s (seen_at w s) was link (seen_at v s)) (law : CellLaw (seen_at v s)) where
  pub all_emptied : link_at v s ≡ false → (link_at w s ≡ false → incarnation (seen_at w s) ≡ 0) → (m : ℕ) → all_out v m ≤ all_out w m + one_if (link_at w s && is_broken (seen_at v s))
  all_emptied out empty = all_at s w v only (one_if (link_at w s && is_broken (seen_at v s)))
      (subst (λ (b : Bool). faults_out b (seen_at v s) ≤ out_at w s + one_if (link_at w s && is_broken (seen_at v s))) (sym out)
      (out_retired wire n s (seen_at w s) was link (seen_at v s) h law (link_at w s) empty))

-- a cell that was left empty was booted, or was not
pub all_booted : (n s k : ℕ) (w v : CellsSeen) (before : List CellEvent) → OnlyAt s w v → GrowsBy (by_event n) n (seen_at w s) before → incarnation (seen_at w s) ≡ 0
    → seen_at v s ≡ cell.Boot k ∷ before → link_at v s ≡ true → link_at w s ≡ false → (m : ℕ) → all_out v m ≤ all_out w m
all_booted n s k w v before only grows empty seen linked out =
    all_kept s w v only
    (ap (λ (b : Bool). faults_out b (seen_at v s)) linked ∙ (ap faults_before seen ∙ (in_same n (seen_at w s) before grows empty ∙ ap (λ (b : Bool). faults_out b (seen_at w s)) (sym out))))

pub all_unbooted : (n s : ℕ) (w v : CellsSeen) (before : List CellEvent) → OnlyAt s w v → GrowsBy (by_event n) n (seen_at w s) before → incarnation (seen_at w s) ≡ 0
    → seen_at v s ≡ before → link_at v s ≡ false → link_at w s ≡ false → (m : ℕ) → all_out v m ≤ all_out w m
all_unbooted n s w v before only grows empty seen unlinked out =
    all_kept s w v only
    (ap (λ (b : Bool). faults_out b (seen_at v s)) unlinked ∙ (ap faults_in seen ∙ (in_same n (seen_at w s) before grows empty ∙ ap (λ (b : Bool). faults_out b (seen_at w s)) (sym out))))

pub all_met : (n s : ℕ) (w v : CellsSeen) → OnlyAt s w v → GrowsBy (by_event n) n (seen_at w s) (seen_at v s) → link_at v s ≡ link_at w s → (link_at w s ≡ false → incarnation (seen_at w s) ≡ 0) → (m : ℕ) → all_out v m ≤ all_out w m
all_met n s w v only grows link empty =
    all_kept s w v only (ap (λ (b : Bool). faults_out b (seen_at v s)) link ∙ out_same n (seen_at w s) (seen_at v s) grows (link_at w s) empty)
