-- The children of a run as contracts see them.
use Rattle.std.specs.Prelude.{◌≡◌, ℕ, List, [], ◌∷◌, Some, IfSome, length}
use Rattle.okws_outer.specs.declared.children.ChildStart.{ChildStart}
use Rattle.okws_outer.specs.declared.children.ChildEnd.{ChildEnd}
use Rattle.okws_outer.specs.declared.children.ChildName.{ChildName}
use Rattle.okws_outer.specs.Lives.{Life, new_life}
use Rattle.okws_outer.specs.Wire.{Wire}

-- The children as contracts see them: those that were started and those that were finished, the last one first; how many starts failed.
pub record Family : Type 0 where
  pub started : List ChildStart
  pub finished : List ChildEnd
  pub faults : ℕ

-- This is a child of this service and incarnation of which nothing was asked yet.
abbrev pub IsNewChild : ℕ → ℕ → Life → Type 0
IsNewChild service incarnation life = life ≡ new_life service incarnation

-- The child that is this incarnation of this service.
abbrev pub child_named : ℕ → ℕ → ChildName
child_named service incarnation = record { service = service; incarnation = incarnation }

-- This link leads to the child of this service and incarnation, nothing came or went over it, and no call of it failed.
pub record IsNewLink (service incarnation : ℕ) (wire : Wire) : Type 0 where
  pub whose : wire.whose ≡ Some (child_named service incarnation)
  pub came : wire.came ≡ wire.left
  pub given : IfSome wire.given (λ given. given ≡ [])
  pub faults : wire.faults ≡ 0

-- A child was started with this link, after those that were finished.
abbrev pub with_start : ℕ → ℕ → List (List ℕ) → Wire → Family → Family
with_start service incarnation words wire family = record family {
  started = record { service = service; incarnation = incarnation; words = words; says = wire.left; after = length family.finished } ∷ family.started;
}

-- A child that stands so was finished, with its link.
abbrev pub with_end : Life → Wire → Family → Family
with_end life wire family = record family {
  finished = record {
    service = life.service;
    incarnation = life.incarnation;
    ended = life.ended;
    whose = wire.whose;
    came = wire.came;
    left = wire.left;
    given = wire.given;
    faults = wire.faults;
  } ∷ family.finished;
}
