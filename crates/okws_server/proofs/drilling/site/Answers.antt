use Rattle.std.proofs.Common.{subst}
use Rattle.config_reader.specs.Answers.{Fails}
use Rattle.config_reader.specs.Meaning.{meaning}
use Rattle.config_reader.specs.declared.error.ConfigError.{ConfigError}
use Rattle.play_script.specs.declared.site.TheConstants.{SITE}
use Rattle.okws_server.proofs.Sited.{site_drilled, site_not_refused}
use Rattle.okws_server.proofs.drilling.site.Goals as goal

pub returns-in-Ok-clause-drilled : goal.returns-in-Ok-clause-drilled
returns-in-Ok-clause-drilled c = site_drilled c.in-Ok.config c.in-Ok.ensures.is

pub unreachable-requires : goal.unreachable-requires
unreachable-requires c =
    site_not_refused c.in-Err-Refused.field-0-0 (subst (λ (e : ConfigError). Fails e (meaning SITE.now)) c.in-Err-Refused.field-0-is c.in-Err-Refused.ensures.is)
