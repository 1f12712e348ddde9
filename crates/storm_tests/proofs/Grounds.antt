-- What a storm is over is as its run wants it.
use Rattle.std.proofs.Common.{◌≡◌, ◌∙◌, ℕ, ◌<◌, List, [], ◌∷◌, ◌++◌, length, map, refl, sym, ap, subst, Some}
use Rattle.std.specs.Prelude.{All, IsNone}
use Rattle.std.proofs.lemmas.List.Elements.{All-head, All-tail}
use Rattle.std.specs.declared.option.Option.{Option}
use Rattle.okws_base.specs.declared.value.Value.{Value}
use Rattle.okws_outer.specs.Doors.{Entrance, new_entrance}
use Rattle.okws_plan.specs.Configuration.{tables, template_name}
use Rattle.okws_plan.specs.Sound.{IsSound}
use Rattle.okws_plan.specs.declared.configuration.Config.{Config}
use Rattle.okws_plan.specs.declared.configuration.Table.{Table}
use Rattle.config_reader.specs.Ruled.{AreRuled}
use Rattle.site_making.specs.Keepers.{KeeperIs, IsKeeper, AreKeepers}
use Rattle.site_making.specs.Making.{IsServable}
use Rattle.site_run.specs.Places.{AllIdle}

-- a keeper that has the tables and the rows of one that was made for the tables of a proxy
pub keeper_over : (f : KeeperIs) (C : Config) (p : ℕ) (ts us : List Table) (told : Option (List (List (List Value)))) → ts ≡ tables C p → us ≡ ts → told ≡ Some (map (λ (t : Table). t.first) ts) → f.tables ≡ us → f.told ≡ told → IsKeeper C p f
keeper_over f C p ts us told e t u a b = record { tables_are = a ∙ (t ∙ e); told_are = b ∙ (u ∙ ap (λ (x : List Table). Some (map (λ (t : Table). t.first) x)) e) }

-- one keeper, of a site of one proxy
pub keepers_are : {K : Type 0} (f : K → KeeperIs) (C D : Config) (ks before : List K) (k : K) → ks ≡ before ++ k ∷ [] → before ≡ [] → D ≡ C → IsKeeper C 0 (f k) →
    AreKeepers D 0 (map f ks)
keepers_are {K} f C D ks before k e none d h =
    subst (λ x. AreKeepers D 0 (map f x)) (sym (e ∙ ap (λ (x : List K). x ++ k ∷ []) none)) (subst (λ x. IsKeeper x 0 (f k)) (sym d) h, tt)

-- a site that was read can be served
pub servable_by : (C D : Config) → D ≡ C → IsSound C → AreRuled C → ((t : ℕ) → length (template_name C t) < 256) → IsServable D
servable_by C D e sound rules names = subst IsServable (sym e) (record {
  rules = record { queries = rules; names = names; owners = sound.owners };
  services = sound.few_services;
  retry = sound.low_retry;
  templates = sound.few_templates;
  proxies = sound.few_proxies;
})

-- doors at which nothing came yet
pub idle_all : {D : Type 0} (entrance : D → Entrance) (ds : List D) → All (λ d. entrance d ≡ new_entrance) ds → AllIdle (map entrance ds)
idle_all entrance [] h = tt
idle_all entrance (d ∷ ds) h =
    (subst (λ (e : Entrance). IsNone e.out) (sym (All-head (λ x. entrance x ≡ new_entrance) d ds h)) refl, idle_all entrance ds (All-tail (λ x. entrance x ≡ new_entrance) d ds h))
