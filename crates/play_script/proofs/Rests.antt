-- Services at rest, and what the lines of one service leave of the other one.
use Rattle.std.proofs.Common.{◌≡◌, ◌≢◌, ◌∙◌, ℕ, ◌+◌, ◌<◌, ◌≤◌, false, List, [], length, Some, None, refl, sym, ap, subst, arith, get_or-set_other, get_or-set_same}
use Rattle.std.proofs.lemmas.List.{length-set}
use Rattle.monitor_model.specs.declared.record.Own.{Own}
use Rattle.monitor_model.specs.Cell.{incarnation}
use Rattle.monitor_model.specs.Course.{said_count}
use Rattle.monitor_model.specs.Pubd.{edition}
use Rattle.monitor_model.specs.Script.{greatest}
use Rattle.monitor_model.specs.Stage.{Opened, Stage, Stand, empty_stand, stand, with_item, with_stand}
use Rattle.monitor_model.specs.Standing.{up_at_okd}

-- Incarnation k of s is the greatest begun, it is at the cell and up, these bytes are left on its link, and more may come.
pub record Calm (S : Stage) (s k : ℕ) (left : List ℕ) : Type 0 where
  pub first : 0 < k
  pub greatest_is : greatest S s ≡ k
  pub there : incarnation (stand S s).past ≡ k
  pub up : up_at_okd S.seen.okd s ≡ Some k
  pub left_is : (stand S s).left ≡ left
  pub goes_on : (stand S s).has_ended ≡ false
  pub within : s < length S.stands

-- No dialog of it is open, and nothing is left on its link.
pub record Rests (S : Stage) (s k : ℕ) : Type 0 where
  pub calm : Calm S s k []
  pub shut : (stand S s).open_dialog ≡ None

-- A dialog of it is open, in which so many frames were said.
pub record Speaks (S : Stage) (s k n : ℕ) (left : List ℕ) : Type 0 where
  pub calm : Calm S s k left
  pub opened : Opened
  pub open_is : (stand S s).open_dialog ≡ Some opened
  pub said_is : said_count opened.items ≡ n

-- Nothing of a service but s changed; there are m requests more, and at most n editions of the first template.
pub record Beside (s m n : ℕ) (S T : Stage) : Type 0 where
  pub begun_is : (t : ℕ) → t ≢ s → greatest T t ≡ greatest S t
  pub up_is : (t : ℕ) → t ≢ s → up_at_okd T.seen.okd t ≡ up_at_okd S.seen.okd t
  pub stand_is : (t : ℕ) → t ≢ s → stand T t ≡ stand S t
  pub cells_are : length T.stands ≡ length S.stands
  pub requests_are : length T.requests ≡ length S.requests + m
  pub editions : edition T.seen.pubd 0 ≤ edition S.seen.pubd 0 + n

pub beside_then : (s m n m' n' : ℕ) (S mid T : Stage) → Beside s m n S mid → Beside s m' n' mid T → Beside s (m + m') (n + n') S T
beside_then s m n m' n' S mid T h k = record {
  begun_is = λ t apart. k.begun_is t apart ∙ h.begun_is t apart;
  up_is = λ t apart. k.up_is t apart ∙ h.up_is t apart;
  stand_is = λ t apart. k.stand_is t apart ∙ h.stand_is t apart;
  cells_are = k.cells_are ∙ h.cells_are;
  requests_are = omega (arith, h.requests_are, k.requests_are);
  editions = omega (arith, h.editions, k.editions);
}

pub beside_none : (s : ℕ) (S : Stage) → Beside s 0 0 S S
beside_none s S = record { begun_is = λ t apart. refl; up_is = λ t apart. refl; stand_is = λ t apart. refl; cells_are = refl; requests_are = omega arith; editions = omega arith }

-- the cell of s changes
pub beside_stand : (s : ℕ) (S : Stage) (there : Stand) → Beside s 0 0 S (with_stand S s there)
beside_stand s S there = record {
  begun_is = λ t apart. refl;
  up_is = λ t apart. refl;
  stand_is = λ t apart. get_or-set_other S.stands s t there empty_stand apart;
  cells_are = length-set S.stands s there;
  requests_are = omega arith;
  editions = omega arith;
}

-- an item of the run's list is more
pub beside_item : (s : ℕ) (S T : Stage) (item : Own) → Beside s 0 0 S T → Beside s 0 0 S (with_item T item)
beside_item s S T item h = record { begun_is = h.begun_is; up_is = h.up_is; stand_is = h.stand_is; cells_are = h.cells_are; requests_are = h.requests_are; editions = h.editions }

-- what changed at the cell of s
pub stand_here : (S : Stage) (s : ℕ) (there : Stand) → s < length S.stands → stand (with_stand S s there) s ≡ there
stand_here S s there within = get_or-set_same S.stands s there empty_stand within

-- another service rests as before
pub rests_beside : (s t m n k : ℕ) (S T : Stage) → t ≢ s → Beside s m n S T → Rests S t k → Rests T t k
rests_beside s t m n k S T apart h r =
    let is : stand T t ≡ stand S t = h.stand_is t apart in
    record {
      calm = record {
        first = r.calm.first;
        greatest_is = h.begun_is t apart ∙ r.calm.greatest_is;
        there = ap (λ (x : Stand). incarnation x.past) is ∙ r.calm.there;
        up = h.up_is t apart ∙ r.calm.up;
        left_is = ap (λ (x : Stand). x.left) is ∙ r.calm.left_is;
        goes_on = ap (λ (x : Stand). x.has_ended) is ∙ r.calm.goes_on;
        within = subst (λ (n : ℕ). t < n) (sym h.cells_are) r.calm.within;
      };
      shut = ap (λ (x : Stand). x.open_dialog) is ∙ r.shut;
    }
