-- How what is told of a run's children goes on.
use Rattle.std.specs.Prelude.{◌≡◌, ◌⊎◌, ◌<◌, ◌≤◌, ℕ, List, ◌∷◌, ◌++◌, Option, Some, None}
use Rattle.okws_outer.specs.Families.{Family, with_end}
use Rattle.okws_outer.specs.Lives.{Life}
use Rattle.okws_outer.specs.Streams.{Rose}
use Rattle.okws_outer.specs.Wire.{Wire}
use Rattle.okws_outer.specs.declared.children.ChildEnd.{ChildEnd}
use Rattle.okws_outer.specs.declared.children.ChildStart.{ChildStart}

-- Nothing that was told is forgotten: children may have been started and finished, the last one first, and the count of failed starts did not fall.
pub record TellsMore (f g : Family) : Type 0 where
  pub starts : List ChildStart
  pub ends : List ChildEnd
  pub started_is : g.started ≡ starts ++ f.started
  pub finished_is : g.finished ≡ ends ++ f.finished
  pub faults : f.faults ≤ g.faults

-- These children were finished, the last one first, and no other call was made.
abbrev pub Finishes : List ChildEnd → Family → Family → Type 0
Finishes ends f g = g ≡ record f { finished = ends ++ f.finished }

-- The child was finished with its link, where there are both.
abbrev pub with_end_of : Option Life → Option Wire → Family → Family
with_end_of None link f = f
with_end_of (Some life) None f = f
with_end_of (Some life) (Some wire) f = with_end life wire f

-- The child of incarnation k of s was finished, the last one since f, and a call of its link had failed.
pub record FinishesFaulty (s k : ℕ) (f g : Family) : Type 0 where
  pub child : ChildEnd
  pub before : List ChildEnd
  pub finished_is : g.finished ≡ child ∷ (before ++ f.finished)
  pub service_is : child.service ≡ s
  pub incarnation_is : child.incarnation ≡ k
  pub faults : 0 < child.faults

-- A start failed and was counted, or the child of incarnation k of s was finished, of whose link a call had failed.
abbrev pub FailsBy : ℕ → ℕ → Family → Family → Type 0
FailsBy s k f g = Rose f.faults g.faults ⊎ FinishesFaulty s k f g
