use Rattle.std.proofs.Common.{◌≡◌, ◌∙◌, ℕ, zero, suc, ◌+◌, ◌*◌, ◌<◌, ◌≤◌, List, [], length, replicate, refl, arith, None, Option}
use Rattle.okws_base.specs.declared.limit.TheConstants.{MOST_TEMPLATES}
use Rattle.okws_plan.specs.declared.configuration.Config.{Config}
use Rattle.grant_column.specs.Granted.{Granted, IsNew}
use Rattle.pubd_core.specs.Kept.{current_in, total}
use Rattle.pubd_core.specs.Tied.{Tied}
use Rattle.pubd_core.specs.declared.kept.Edition.{Edition}

-- none of so many templates has an edition
pub none_in : (n t : ℕ) → current_in (replicate n None) t ≡ None
none_in zero t = refl
none_in (suc n) zero = refl
none_in (suc n) (suc t) = none_in n t

pub total_none : (n : ℕ) → total (replicate n None) ≡ 0
total_none zero = refl
total_none (suc n) = rw (total_none n) refl

-- a column with no entry
pub tied_new : (C : Config) (n : ℕ) (g : Granted) (currents : List (Option Edition)) → length C.templates ≤ MOST_TEMPLATES → IsNew n g → n ≡ length C.services
    → length currents ≡ length C.templates → ((t : ℕ) → current_in currents t ≡ None) → total currents ≡ 0 → Tied C [] g currents 0 [] []
tied_new C n g currents few fresh services templates none nothing = record {
  few = few;
  services = fresh.services_are ∙ services;
  templates = templates;
  law = tt;
  edition_is = λ t. rw (none t) refl;
  text_is = λ t. rw (none t) refl;
  counted = λ t e is. let no = none t in cc;
  most = λ t. rw (none t) (omega arith);
  count_is = rw nothing refl;
  below = tt;
  wanted_are = tt;
  readers_may = λ s k m e. cc;
  drained_is = λ s k may. refl;
  heard_are = λ s k m e. cc;
  news_is = λ s k m may e. refl;
}
