-- What a start makes of the crew, where a child was started first, or was not.
use Rattle.std.proofs.Common.{◌≡◌, ◌∙◌, ℕ, zero, suc, ◌+◌, ◌≤◌, false, List, [], ◌∷◌, Some, refl, sym, ap, arith}
use Rattle.std.specs.Prelude.{slice_index_or, slice_set}
use Rattle.okws_outer.specs.Lives.{new_life}
use Rattle.monitor_model.specs.Cell.{incarnation}
use Rattle.site_cells.specs.Row.{CellsSeen, OnlyAt, seen_at}
use Rattle.launch_crew.specs.Crews.{CrewIs, StaffIs, crew_of}
use Rattle.launch_crew.specs.Recorded.{Recorded}
use Rattle.launch_crew.specs.Steps.{Tries, Starts, Misses}
use Rattle.launch_crew.specs.Told.{TellsMore}
use Rattle.launch_crew.proofs.Children.{more_on}
use Rattle.launch_crew.proofs.Counting.{all_still}
use Rattle.launch_crew.proofs.Retiring.{go_same}

set_self : {A : Type 0} (xs : List A) (i : ℕ) (d : A) → slice_set xs i (slice_index_or xs i d) ≡ xs
set_self [] i d = refl
set_self (x ∷ xs) zero d = refl
set_self (x ∷ xs) (suc i) d = ap (λ l. x ∷ l) (set_self xs i d)

only_same : (s : ℕ) (w : CellsSeen) → OnlyAt s w w
only_same s w = λ i. record { number = w.number; cells = sym (set_self w.cells s []) i; links = sym (set_self w.links s false) i }

-- ---- a child was started before

tries_on : (s k : ℕ) (r : Recorded) (a b : StaffIs) (d : CrewIs) → TellsMore a.family b.family → Tries s k (crew_of r b) d → Tries s k (crew_of r a) d
tries_on s k r a b d more h = record {
  sat_is = h.sat_is;
  only = h.only;
  most = h.most;
  told = more_on a.family b.family d.family more h.told;
  behind = h.behind;
  room = h.room;
  out = h.out;
}

pub starts_on : (s k : ℕ) (r : Recorded) (a b : StaffIs) (d : CrewIs) → b.running ≡ a.running → TellsMore a.family b.family → Starts s k (crew_of r b) d → Starts s k (crew_of r a) d
starts_on s k r a b d same more h = record {
  tries = tries_on s k r a b d more h.tries;
  running_is = h.running_is ∙ ap (λ lives. slice_set lives s (Some (new_life s k))) same;
  child = h.child;
  cell = h.cell;
  own_is = h.own_is;
  linked = h.linked;
  last = h.last;
}

pub misses_on : (s k : ℕ) (r : Recorded) (a b : StaffIs) (d : CrewIs) → b.running ≡ a.running → TellsMore a.family b.family → Misses s k (crew_of r b) d → Misses s k (crew_of r a) d
misses_on s k r a b d same more h = record { tries = tries_on s k r a b d more h.tries; running_is = h.running_is ∙ same; cell = h.cell; own_is = h.own_is; unlinked = h.unlinked }

-- ---- none was

one_less : (n : ℕ) → n ≤ n + 1
one_less n = omega arith

pub misses_none : (s k : ℕ) (r : Recorded) (a b : StaffIs) → b.running ≡ a.running → TellsMore a.family b.family → incarnation (seen_at r.watch s) ≡ 0 → Misses s k (crew_of r a) (crew_of r b)
misses_none s k r a b same more none = record {
  tries = record { sat_is = refl; only = only_same s r.watch; most = λ j least before. before; told = more; behind = go_same r.watch; room = one_less r.room; out = λ unlinked n. all_still r.watch n };
  running_is = same;
  cell = none;
  own_is = refl;
  unlinked = λ out. out;
}
