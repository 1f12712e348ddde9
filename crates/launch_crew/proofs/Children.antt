-- What each step makes of what is told of the children.
use Rattle.std.proofs.Common.{◌≡◌, ◌∙◌, inl, inr, ⊎_elim, ℕ, ◌+◌, ◌-◌, ◌^◌, ◌<◌, ◌≤◌, List, [], ◌∷◌, ◌++◌, Option, Some, None, length, sym, ap, arith}
use Rattle.std.specs.Prelude.{min}
use Rattle.std.proofs.lemmas.List.{append_assoc}
use Rattle.okws_outer.specs.Families.{Family, with_start, with_end}
use Rattle.okws_outer.specs.Lives.{Life}
use Rattle.okws_outer.specs.Streams.{Rose}
use Rattle.okws_outer.specs.Wire.{Wire}
use Rattle.okws_outer.specs.declared.children.ChildEnd.{ChildEnd}
use Rattle.okws_outer.specs.declared.children.ChildStart.{ChildStart}
use Rattle.launch_crew.specs.Crews.{CrewIs, child_of}
use Rattle.launch_crew.specs.Steps.{Empties}
use Rattle.launch_crew.specs.Told.{TellsMore, Finishes, FinishesFaulty, FailsBy, with_end_of}

-- ---- nothing is forgotten

pub more_same : (f g : Family) → g ≡ f → TellsMore f g
more_same f g is = record {
  starts = [];
  ends = [];
  started_is = ap (λ (x : Family). x.started) is;
  finished_is = ap (λ (x : Family). x.finished) is;
  faults = let same : g.faults ≡ f.faults = ap (λ (x : Family). x.faults) is in omega (arith, same);
}

pub more_on : (f g h : Family) → TellsMore f g → TellsMore g h → TellsMore f h
more_on f g h a b = record {
  starts = b.starts ++ a.starts;
  ends = b.ends ++ a.ends;
  started_is = b.started_is ∙ (ap (λ (xs : List ChildStart). b.starts ++ xs) a.started_is ∙ sym (append_assoc b.starts a.starts f.started));
  finished_is = b.finished_is ∙ (ap (λ (xs : List ChildEnd). b.ends ++ xs) a.finished_is ∙ sym (append_assoc b.ends a.ends f.finished));
  faults = omega (arith, a.faults, b.faults);
}

pub more_started : (s k : ℕ) (words : List (List ℕ)) (wire : Wire) (f g : Family) → g ≡ with_start s k words wire f → TellsMore f g
more_started s k words wire f g is = record {
  starts = record { service = s; incarnation = k; words = words; says = wire.left; after = length f.finished } ∷ [];
  ends = [];
  started_is = ap (λ (x : Family). x.started) is;
  finished_is = ap (λ (x : Family). x.finished) is;
  faults = let same : g.faults ≡ f.faults = ap (λ (x : Family). x.faults) is in omega (arith, same);
}

pub more_refused : (f g : Family) → g ≡ record f { faults = g.faults } → f.faults ≤ g.faults → TellsMore f g
more_refused f g is later = record {
  starts = [];
  ends = [];
  started_is = ap (λ (x : Family). x.started) is;
  finished_is = ap (λ (x : Family). x.finished) is;
  faults = later;
}

pub more_finished : (ends : List ChildEnd) (f g : Family) → Finishes ends f g → TellsMore f g
more_finished ends f g is = record {
  starts = [];
  ends = ends;
  started_is = ap (λ (x : Family). x.started) is;
  finished_is = ap (λ (x : Family). x.finished) is;
  faults = let same : g.faults ≡ f.faults = ap (λ (x : Family). x.faults) is in omega (arith, same);
}

-- ---- children are finished

abbrev pub end_of : Life → Wire → ChildEnd
end_of life wire = record { service = life.service; incarnation = life.incarnation; ended = life.ended; whose = wire.whose; came = wire.came; left = wire.left; given = wire.given; faults = wire.faults }

pub ends_of : (child : Option Life) (link : Option Wire) (f g : Family) → g ≡ with_end_of child link f → (ends : List ChildEnd) × Finishes ends f g
ends_of None link f g is = ([], is)
ends_of (Some life) None f g is = ([], is)
ends_of (Some life) (Some wire) f g is = (end_of life wire ∷ [], is)

pub more_ended : (child : Option Life) (link : Option Wire) (f g : Family) → g ≡ with_end_of child link f → TellsMore f g
more_ended child link f g is = let ends = ends_of child link f g is in more_finished ends.0 f g ends.1

pub more_emptied : (s : ℕ) (c d : CrewIs) → Empties s c d → TellsMore c.family d.family
more_emptied s c d h = more_ended (child_of c s) h.link c.family d.family h.family_is

pub emptied_finishes : (s : ℕ) (c d : CrewIs) → Empties s c d → (ends : List ChildEnd) × Finishes ends c.family d.family
emptied_finishes s c d h = ends_of (child_of c s) h.link c.family d.family h.family_is

pub finishes_on : (f g h : Family) → (ends : List ChildEnd) × Finishes ends f g → (ends : List ChildEnd) × Finishes ends g h → (ends : List ChildEnd) × Finishes ends f h
finishes_on f g h a b = (
  b.0 ++ a.0,
  b.1 ∙ (ap (λ (x : Family). record x { finished = b.0 ++ x.finished }) a.1 ∙ ap (λ (xs : List ChildEnd). record f { finished = xs }) (sym (append_assoc b.0 a.0 f.finished))),
)

-- ---- a fault is counted

pub faulty_finished : (s k : ℕ) (life : Life) (wire : Wire) (f g : Family) → g ≡ with_end life wire f → life.service ≡ s → life.incarnation ≡ k → 0 < wire.faults → FinishesFaulty s k f g
faulty_finished s k life wire f g is service incarnation faults = record {
  child = end_of life wire;
  before = [];
  finished_is = ap (λ (x : Family). x.finished) is;
  service_is = service;
  incarnation_is = incarnation;
  faults = faults;
}

faulty_on : (s k : ℕ) (f g h : Family) → TellsMore f g → FinishesFaulty s k g h → FinishesFaulty s k f h
faulty_on s k f g h more x = record {
  child = x.child;
  before = x.before ++ more.ends;
  finished_is = x.finished_is ∙ ap (λ (xs : List ChildEnd). x.child ∷ xs) (ap (λ (xs : List ChildEnd). x.before ++ xs) more.finished_is ∙ sym (append_assoc x.before more.ends f.finished));
  service_is = x.service_is;
  incarnation_is = x.incarnation_is;
  faults = x.faults;
}

rose_on : (a b c : ℕ) → a ≤ b → Rose b c → Rose a c
rose_on a b c later rose = let h : min (b + 1) (2 ^ 64 - 1) ≤ c = rose in omega (arith, later, h)

pub fails_on : (s k : ℕ) (f g h : Family) → TellsMore f g → FailsBy s k g h → FailsBy s k f h
fails_on s k f g h more x = ⊎_elim (λ (r : Rose g.faults h.faults). inl (rose_on f.faults g.faults h.faults more.faults r)) (λ (y : FinishesFaulty s k g h). inr (faulty_on s k f g h more y)) x
