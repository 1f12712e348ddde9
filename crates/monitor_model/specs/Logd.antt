-- The verdicts of oklogd, looking back along its past J, and the text of the log.
use Rattle.std.specs.Prelude.{ℕ, List, [], ◌∷◌, ◌++◌, nat_le, not, if◌then◌else◌, length, decimal}
use Rattle.okws_base.specs.declared.limit.TheConstants.{LONGEST_LOG}
use Rattle.okws_base.specs.declared.journal.Entry.{Entry}
use Rattle.okws_base.specs.declared.denial.Rule.TheVariants as rule
use Rattle.plain_text.specs.Hexadecimal.{escaped}
use Rattle.okws_plan.specs.Configuration.{in_force, logs, service_name}
use Rattle.okws_plan.specs.declared.configuration.Config.{Config}
use Rattle.okws_plan.specs.declared.event.LogEvent.{LogEvent}
use Rattle.okws_plan.specs.declared.event.LogEvent.TheVariants as event
use Rattle.monitor_model.specs.declared.verdict.Noted.{Noted}
use Rattle.monitor_model.specs.declared.verdict.Noted.TheVariants.{Logged, Denied}
use Rattle.monitor_model.specs.Standing.{live_at_log}

-- A Log is denied by the first rule that it breaks, stale, not granted, over 1,024 bytes; else Logged.
abbrev pub log_verdict : Config → List (Entry LogEvent) → ℕ → ℕ → List ℕ → Noted
log_verdict C J s k text =
    if not (live_at_log J s k) then Denied rule.StaleAtLog
    else if not (logs (in_force C J) s) then Denied rule.LogNotGranted
    else if not (nat_le (length text) LONGEST_LOG) then Denied rule.LogTooLong
    else Logged

-- A line of the log: `SERVICE K TEXT` and LF, the service by name.
unfoldable pub log_line : List ℕ → ℕ → List ℕ → List ℕ
log_line name k text = name ++ 32 ∷ [] ++ decimal k ++ 32 ∷ [] ++ escaped text ++ 10 ∷ []

-- The line of a text that was logged, and nothing for one that was denied.
abbrev pub line_if : Noted → List ℕ → List ℕ
line_if Logged line = line
line_if (Denied rule) line = []

-- The line that one event adds to the log's text, on the entries J before it.
abbrev pub line_of : Config → List (Entry LogEvent) → LogEvent → List ℕ
line_of C J (event.Log s k text) = line_if (log_verdict C J s k text) (log_line (service_name C s) k text)
line_of C J (event.Install s k) = []
line_of C J (event.Revoke s k) = []

-- The log's text is one line for each Log that was answered Logged, in order.
abbrev pub log_text : Config → List (Entry LogEvent) → List ℕ
log_text C [] = []
log_text C (e ∷ J) = log_text C J ++ line_of C J e.event
