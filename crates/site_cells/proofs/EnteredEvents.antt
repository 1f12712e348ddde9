-- What is entered at a cell's lock, and the events of the cell in it.
use Rattle.std.proofs.Common.{if◌then◌else◌, ◌≡◌, ◌≢◌, ℕ, Bool, true, false, List, [], ◌∷◌, ◌++◌, refl, sym, ap, ◌∙◌, subst, append-nil, eq-eqb, ne_eqb}
use Rattle.std.specs.Prelude.{◌==◌}
use Rattle.std.proofs.lemmas.Bool.{true≢false}
use mathlib.Core.Logic.{dite}
use native.Mathlib.Decide.{ℕ_discrete}
use Rattle.okws_base.specs.Turns.{of, GrowsBy, Behind}
use Rattle.monitor_model.specs.declared.record.CellEvent.{CellEvent}
use Rattle.monitor_model.specs.declared.record.CellEvent.TheVariants as cell
use Rattle.monitor_model.specs.Cell.{incarnation}
use Rattle.service_cell.specs.declared.answer.Booting.{Booting}
use Rattle.service_cell.specs.declared.answer.Booting.TheVariants as booting
use Rattle.site_cells.specs.Held.{by_event, events_in, has_booted, is_booted, with_boot}
use Rattle.site_cells.proofs.Stays.{cons_nil, ends_empty, retired_none, tail_none}

-- ---- the events among what was entered later, on the events J

abbrev pub events_on : List CellEvent → List CellEvent → List CellEvent
events_on [] J = []
events_on (cell.Boot k ∷ more) J = cell.Boot k ∷ events_on more J
events_on (cell.Retired ∷ more) J = if incarnation (events_on more J ++ J) == 0 then events_on more J else cell.Retired ∷ events_on more J
events_on (cell.Missed worker wanted is ∷ more) J = cell.Missed worker wanted is ∷ events_on more J
events_on (cell.Dialog d ∷ more) J = cell.Dialog d ∷ events_on more J
events_on (cell.Speaking worker items ∷ more) J = cell.Speaking worker items ∷ events_on more J

retired_on : (b : Bool) (K J : List CellEvent) → (if b then K ++ J else cell.Retired ∷ (K ++ J)) ≡ (if b then K else cell.Retired ∷ K) ++ J
retired_on true K J = refl
retired_on false K J = refl

events_more : (more E : List CellEvent) → events_in (more ++ E) ≡ events_on more (events_in E) ++ events_in E
events_more [] E = refl
events_more (cell.Boot k ∷ more) E = ap (λ J. cell.Boot k ∷ J) (events_more more E)
events_more (cell.Retired ∷ more) E =
    ap (λ (J : List CellEvent). if incarnation J == 0 then J else cell.Retired ∷ J) (events_more more E)
    ∙ retired_on (incarnation (events_on more (events_in E) ++ events_in E) == 0) (events_on more (events_in E)) (events_in E)
events_more (cell.Missed worker wanted is ∷ more) E = ap (λ J. cell.Missed worker wanted is ∷ J) (events_more more E)
events_more (cell.Dialog d ∷ more) E = ap (λ J. cell.Dialog d ∷ J) (events_more more E)
events_more (cell.Speaking worker items ∷ more) E = ap (λ J. cell.Speaking worker items ∷ J) (events_more more E)

-- ---- none of them names a number where none of what was entered does

module _ (by : CellEvent → ℕ) (n : ℕ) where
  apart : (e : CellEvent) (more : List CellEvent) → of by n (e ∷ more) ≡ [] → (by e ≢ n) × (of by n more ≡ [])
  apart e more none = dite (ℕ_discrete (by e) n)
      (λ is. absurd (cons_nil e (of by n more) (subst (λ (b : Bool). (if b then e ∷ of by n more else of by n more) ≡ []) (eq-eqb (by e) n is) none)))
      (λ not. (not, subst (λ (b : Bool). (if b then e ∷ of by n more else of by n more) ≡ []) (ne_eqb (by e) n not) none))

  others : (e : CellEvent) (more : List CellEvent) → by e ≢ n → of by n more ≡ [] → of by n (e ∷ more) ≡ []
  others e more not none = subst (λ (b : Bool). (if b then e ∷ of by n more else of by n more) ≡ []) (sym (ne_eqb (by e) n not)) none

  either : (b : Bool) (K L : List CellEvent) → of by n K ≡ [] → of by n L ≡ [] → of by n (if b then K else L) ≡ []
  either true K L k l = k
  either false K L k l = l

  none_on : (more J : List CellEvent) → of by n more ≡ [] → of by n (events_on more J) ≡ []
  none_on [] J none = refl
  none_on (cell.Boot k ∷ more) J none = let h = apart (cell.Boot k) more none in others (cell.Boot k) (events_on more J) h.0 (none_on more J h.1)
  none_on (cell.Retired ∷ more) J none =
      let h = apart cell.Retired more none in
      let rest = none_on more J h.1 in
      either (incarnation (events_on more J ++ J) == 0) (events_on more J) (cell.Retired ∷ events_on more J) rest (others cell.Retired (events_on more J) h.0 rest)
  none_on (cell.Missed worker wanted is ∷ more) J none =
      let h = apart (cell.Missed worker wanted is) more none in
      others (cell.Missed worker wanted is) (events_on more J) h.0 (none_on more J h.1)
  none_on (cell.Dialog d ∷ more) J none = let h = apart (cell.Dialog d) more none in others (cell.Dialog d) (events_on more J) h.0 (none_on more J h.1)
  none_on (cell.Speaking worker items ∷ more) J none =
      let h = apart (cell.Speaking worker items) more none in
      others (cell.Speaking worker items) (events_on more J) h.0 (none_on more J h.1)

  pub events_grow : (E F : List CellEvent) → GrowsBy by n E F → GrowsBy by n (events_in E) (events_in F)
  events_grow E F g = (events_on g.0 (events_in E), none_on g.0 (events_in E) g.1, ap events_in g.2 ∙ events_more g.0 E)

  pub events_none : (E : List CellEvent) → of by n E ≡ [] → of by n (events_in E) ≡ []
  events_none E none =
      let same : events_in E ≡ events_on E [] = ap events_in (sym (append-nil E)) ∙ (events_more E [] ∙ append-nil (events_on E [])) in
      ap (of by n) same ∙ none_on E [] none

-- a cell goes on by what others entered
pub found_on : (n m : ℕ) (E F J : List CellEvent) → J ≡ events_in F → GrowsBy (by_event n) m E F → GrowsBy (by_event n) m (events_in E) J
found_on n m E F J is g = subst (GrowsBy (by_event n) m (events_in E)) (sym is) (events_grow (by_event n) m E F g)

pub events_behind : (E F : List CellEvent) → Behind E F → Behind (events_in E) (events_in F)
events_behind E F h = (events_on h.0 (events_in E), ap events_in h.1 ∙ events_more h.0 E)

-- ---- others neither boot nor retire

booted_stays : (n : ℕ) (more E : List CellEvent) → of (by_event n) n more ≡ [] → is_booted (more ++ E) ≡ is_booted E
booted_stays n [] E none = refl
booted_stays n (cell.Boot k ∷ more) E none = absurd ((tail_none n (cell.Boot k) more none).0 refl)
booted_stays n (cell.Retired ∷ more) E none = absurd ((tail_none n cell.Retired more none).0 refl)
booted_stays n (cell.Missed worker wanted is ∷ more) E none = booted_stays n more E (tail_none n (cell.Missed worker wanted is) more none).1
booted_stays n (cell.Dialog d ∷ more) E none = booted_stays n more E (tail_none n (cell.Dialog d) more none).1
booted_stays n (cell.Speaking worker items ∷ more) E none = booted_stays n more E (tail_none n (cell.Speaking worker items) more none).1

pub booted_grown : (n : ℕ) (E F : List CellEvent) → GrowsBy (by_event n) n E F → is_booted F ≡ is_booted E
booted_grown n E F g = ap is_booted g.2 ∙ booted_stays n g.0 E g.1

-- the same of a number that launches
pub booted_if : (n m : ℕ) (E F : List CellEvent) → GrowsBy (by_event n) m E F → m ≡ n → is_booted F ≡ is_booted E
booted_if n m E F g is = booted_grown n E F (subst (λ x. GrowsBy (by_event n) x E F) is g)

-- a cell that was retired has its link where it was booted then
pub booted_then : {L : Type 0} (answer : Booting L) (k : ℕ) (E : List CellEvent) → is_booted (with_boot answer k (cell.Retired ∷ E)) ≡ has_booted answer
booted_then booting.Booted k E = refl
booted_then (booting.LinkFault link) k E = refl
booted_then (booting.NoMemory link) k E = refl

-- a cell whose link is out has no incarnation
pub none_linked : (E : List CellEvent) → is_booted E ≡ false → incarnation (events_in E) ≡ 0
none_linked [] out = refl
none_linked (cell.Boot k ∷ E) out = absurd (true≢false out)
none_linked (cell.Retired ∷ E) out = retired_none (events_in E)
none_linked (cell.Missed worker wanted is ∷ E) out = none_linked E out
none_linked (cell.Dialog d ∷ E) out = ends_empty d.end (incarnation (events_in E)) (none_linked E out)
none_linked (cell.Speaking worker items ∷ E) out = none_linked E out
