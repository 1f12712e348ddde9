-- What the log column keeps is what its past says.
use Rattle.std.specs.Prelude.{◌≡◌, ℕ, Bool, true, false, List, [], ◌++◌, Option, IfSome, length}
use Rattle.okws_base.specs.declared.journal.Entry.{Entry}
use Rattle.okws_plan.specs.declared.configuration.Config.{Config}
use Rattle.okws_plan.specs.declared.event.LogEvent.{LogEvent}
use Rattle.grant_column.specs.Granted.{Granted, service_count}
use Rattle.monitor_model.specs.Columns.{LogLaw}
use Rattle.monitor_model.specs.Logd.{log_text}
use Rattle.log_daemon.specs.Seen.{IsFront}

-- What was given and what is due make the text; once a write has failed, what was given is a front of it.
abbrev pub Owes : Bool → List ℕ → List ℕ → List ℕ → Type 0
Owes false given due text = given ++ due ≡ text
Owes true given due text = IsFront given text

-- What the log column keeps beside its head is what its past says, each entry fits those before it, and what its sink was given and what is due are as owed; once a write has failed, nothing is kept for another.
pub record Tied (C : Config) (J : List (Entry LogEvent)) (g : Granted) (given : Option (List ℕ)) (due : List ℕ) (stopped : Bool) : Type 0 where
  pub services : service_count g ≡ length C.services
  pub law : LogLaw J
  pub owes : IfSome given (λ text. Owes stopped text due (log_text C J))
  pub spent : stopped ≡ true → due ≡ []
