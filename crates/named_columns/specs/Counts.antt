-- What is counted of a journal. A count of 64 bits stays at its last value.
use Rattle.std.specs.Prelude.{ℕ, ◌+◌, ◌-◌, ◌^◌, min, List, [], ◌∷◌}
use Rattle.okws_base.specs.declared.journal.Entry.{Entry}
use Rattle.okws_plan.specs.declared.configuration.Config.{Config}
use Rattle.okws_plan.specs.declared.event.OkdEvent.{OkdEvent}
use Rattle.okws_plan.specs.declared.event.OkdEvent.TheVariants as okd
use Rattle.okws_plan.specs.declared.event.PubdEvent.{PubdEvent}
use Rattle.okws_plan.specs.declared.event.PubdEvent.TheVariants as pubd
use Rattle.okws_plan.specs.declared.event.LogEvent.{LogEvent}
use Rattle.okws_plan.specs.declared.event.LogEvent.TheVariants as oklogd
use Rattle.monitor_model.specs.declared.verdict.Noted.{Noted}
use Rattle.monitor_model.specs.declared.verdict.Noted.TheVariants.{Logged, Denied}
use Rattle.monitor_model.specs.Logd.{log_verdict}

-- A count as 64 bits have it: the number itself, or the last value where it is above that.
abbrev pub capped : ℕ → ℕ
capped n = min n (2 ^ 64 - 1)

-- An Accept is one.
abbrev pub accepts_of : OkdEvent → ℕ
accepts_of (okd.Accept path) = 1
accepts_of (okd.Up s k) = 0
accepts_of (okd.Down s k) = 0

-- How many requests were accepted.
abbrev pub accepts : List (Entry OkdEvent) → ℕ
accepts [] = 0
accepts (e ∷ J) = accepts J + accepts_of e.event

-- An Up is one.
abbrev pub ups_of : OkdEvent → ℕ
ups_of (okd.Up s k) = 1
ups_of (okd.Down s k) = 0
ups_of (okd.Accept path) = 0

-- How many incarnations came up.
abbrev pub ups : List (Entry OkdEvent) → ℕ
ups [] = 0
ups (e ∷ J) = ups J + ups_of e.event

-- A Publish is one.
abbrev pub publications_of : PubdEvent → ℕ
publications_of (pubd.Publish t content) = 1
publications_of (pubd.Install s k) = 0
publications_of (pubd.Revoke s k) = 0
publications_of (pubd.Drain s k) = 0
publications_of (pubd.Get s k name) = 0

-- How many editions were published.
abbrev pub publications : List (Entry PubdEvent) → ℕ
publications [] = 0
publications (e ∷ J) = publications J + publications_of e.event

-- A text that was logged is one.
abbrev pub logged_as : Noted → ℕ
logged_as Logged = 1
logged_as (Denied rule) = 0

-- A Log that was answered Logged is one, on the entries J before it.
abbrev pub logged_of : Config → List (Entry LogEvent) → LogEvent → ℕ
logged_of C J (oklogd.Log s k text) = logged_as (log_verdict C J s k text)
logged_of C J (oklogd.Install s k) = 0
logged_of C J (oklogd.Revoke s k) = 0

-- How many texts were logged.
abbrev pub logged : Config → List (Entry LogEvent) → ℕ
logged C [] = 0
logged C (e ∷ J) = logged C J + logged_of C J e.event
