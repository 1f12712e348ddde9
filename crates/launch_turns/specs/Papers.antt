-- What a launcher takes that did nothing yet.
use Rattle.std.specs.Prelude.{◌≡◌, ℕ, List, []}
use Rattle.okws_plan.specs.declared.configuration.Config.{Config}
use Rattle.launch_journal.specs.Launches.{Launches}

-- What a launcher of this site and this seed takes, which did nothing yet.
pub record ArePapers (C : Config) (seed : List ℕ) (journal : Launches) (site : Config) (own_seed : List ℕ) : Type 0 where
  pub config_is : journal.config ≡ C
  pub none : journal.past ≡ []
  pub site_is : site ≡ C
  pub seed_is : own_seed ≡ seed
