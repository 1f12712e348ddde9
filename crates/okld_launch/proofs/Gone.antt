-- What later events of a cell leave of an incarnation that is behind it.
use Rattle.std.proofs.Common.{◌≡◌, ◌∙◌, ℕ, ◌+◌, ◌<◌, List, [], ◌∷◌, ◌++◌, refl, arith, append-nil, ne_eqb}
use Rattle.okws_plan.specs.declared.configuration.Config.{Config}
use Rattle.monitor_model.specs.declared.record.CellEvent.{CellEvent}
use Rattle.monitor_model.specs.declared.record.CellEvent.TheVariants as cell
use Rattle.monitor_model.specs.declared.record.End.{End}
use Rattle.monitor_model.specs.declared.record.End.TheVariants as end
use Rattle.monitor_model.specs.Cell.{CellLaw, MayStand, after_end, heard, incarnation, said}
use Rattle.monitor_model.specs.Sent.{broken_in}
use Rattle.site_cells.specs.Taken.{last_end}
use Rattle.okld_launch.specs.Heard.{IsBehind}

-- ---- an incarnation that is behind

after_other : (how : End) (n k : ℕ) → 0 < k → (n ≡ k → ⊥) → after_end how n ≡ k → ⊥
after_other end.Reply n k first other = other
after_other (end.Superseded shown) n k first other = other
after_other end.BadFrame n k first other = λ is. omega (arith, first, is)
after_other end.Ended n k first other = λ is. omega (arith, first, is)
after_other end.LinkFault n k first other = λ is. omega (arith, first, is)
after_other end.FrameLimit n k first other = λ is. omega (arith, first, is)
after_other end.Starved n k first other = λ is. omega (arith, first, is)

pub behind_next : (k : ℕ) (e : CellEvent) (J : List CellEvent) → MayStand J e → IsBehind k J → IsBehind k (e ∷ J)
behind_next k (cell.Boot j) J may h = record { first = h.first; below = omega (arith, h.below); gone = λ is. omega (arith, may.1, h.below, is) }
behind_next k cell.Retired J may h = record { first = h.first; below = h.below; gone = λ is. omega (arith, h.first, is) }
behind_next k (cell.Missed worker wanted there) J may h = record { first = h.first; below = h.below; gone = h.gone }
behind_next k (cell.Dialog d) J may h = record { first = h.first; below = h.below; gone = after_other d.end (incarnation J) k h.first h.gone }
behind_next k (cell.Speaking worker items) J may h = record { first = h.first; below = h.below; gone = h.gone }

heard_next : (C : Config) (seed : List ℕ) (s k : ℕ) (e : CellEvent) (J : List CellEvent) → MayStand J e → IsBehind k J → heard C seed s k (e ∷ J) ≡ heard C seed s k J
heard_next C seed s k (cell.Boot j) J may h = rw (ne_eqb j k (omega (arith, may.1, h.below))) (append-nil (heard C seed s k J))
heard_next C seed s k cell.Retired J may h = append-nil (heard C seed s k J)
heard_next C seed s k (cell.Missed worker wanted there) J may h = append-nil (heard C seed s k J)
heard_next C seed s k (cell.Dialog d) J may h = rw (ne_eqb (incarnation J) k h.gone) (append-nil (heard C seed s k J))
heard_next C seed s k (cell.Speaking worker items) J may h = rw (ne_eqb (incarnation J) k h.gone) (append-nil (heard C seed s k J))

broken_next : (k : ℕ) (e : CellEvent) (J : List CellEvent) → IsBehind k J → broken_in k (e ∷ J) ≡ broken_in k J
broken_next k (cell.Boot j) J h = refl
broken_next k cell.Retired J h = refl
broken_next k (cell.Missed worker wanted there) J h = refl
broken_next k (cell.Dialog d) J h = rw (ne_eqb (incarnation J) k h.gone) refl
broken_next k (cell.Speaking worker items) J h = refl

said_next : (k : ℕ) (e : CellEvent) (J : List CellEvent) → IsBehind k J → said k (e ∷ J) ≡ said k J
said_next k (cell.Boot j) J h = append-nil (said k J)
said_next k cell.Retired J h = append-nil (said k J)
said_next k (cell.Missed worker wanted there) J h = append-nil (said k J)
said_next k (cell.Dialog d) J h = rw (ne_eqb (incarnation J) k h.gone) (append-nil (said k J))
said_next k (cell.Speaking worker items) J h = rw (ne_eqb (incarnation J) k h.gone) (append-nil (said k J))

end_next : (k : ℕ) (e : CellEvent) (J : List CellEvent) → IsBehind k J → last_end k (e ∷ J) ≡ last_end k J
end_next k (cell.Boot j) J h = refl
end_next k cell.Retired J h = refl
end_next k (cell.Missed worker wanted there) J h = refl
end_next k (cell.Dialog d) J h = rw (ne_eqb (incarnation J) k h.gone) refl
end_next k (cell.Speaking worker items) J h = refl

-- What was heard and said by incarnation k, whether its link broke, and how its last dialog ended, stays.
pub record Stays (C : Config) (seed : List ℕ) (s k : ℕ) (J K : List CellEvent) : Type 0 where
  pub behind : IsBehind k K
  pub heard_is : heard C seed s k K ≡ heard C seed s k J
  pub broken_is : broken_in k K ≡ broken_in k J
  pub said_is : said k K ≡ said k J
  pub end_is : last_end k K ≡ last_end k J

pub heard_later : (C : Config) (seed : List ℕ) (s k : ℕ) (more J : List CellEvent) → CellLaw (more ++ J) → IsBehind k J → Stays C seed s k J (more ++ J)
heard_later C seed s k [] J law h = record { behind = h; heard_is = refl; broken_is = refl; said_is = refl; end_is = refl }
heard_later C seed s k (e ∷ more) J law h =
    let was : Stays C seed s k J (more ++ J) = heard_later C seed s k more J law.0 h in
    record {
      behind = behind_next k e (more ++ J) law.2 was.behind;
      heard_is = heard_next C seed s k e (more ++ J) law.2 was.behind ∙ was.heard_is;
      broken_is = broken_next k e (more ++ J) was.behind ∙ was.broken_is;
      said_is = said_next k e (more ++ J) was.behind ∙ was.said_is;
      end_is = end_next k e (more ++ J) was.behind ∙ was.end_is;
    }
