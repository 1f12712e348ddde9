-- What each column's journal may hold.
use Rattle.std.specs.Prelude.{◌≡◌, ℕ, ◌+◌, ◌<◌, ◌≤◌, List, [], ◌∷◌, Option, length, IsTrue, IfSome}
use Rattle.okws_base.specs.declared.limit.TheConstants.{LONGEST_TEMPLATE, MOST_EDITIONS}
use Rattle.okws_base.specs.Past.{last_by, is_just}
use Rattle.okws_base.specs.declared.journal.Entry.{Entry}
use Rattle.token_core.specs.Token.{token_of}
use Rattle.okws_plan.specs.declared.event.Mark.{Mark}
use Rattle.okws_plan.specs.declared.event.Mark.TheVariants.{Done, Fault}
use Rattle.okws_plan.specs.Configuration.{in_force}
use Rattle.okws_plan.specs.declared.configuration.Config.{Config}
use Rattle.okws_plan.specs.declared.event.Call.{Call}
use Rattle.okws_plan.specs.declared.event.OkdEvent.{OkdEvent}
use Rattle.okws_plan.specs.declared.event.OkdEvent.TheVariants as okd
use Rattle.okws_plan.specs.declared.event.ProxyEvent.{ProxyEvent}
use Rattle.okws_plan.specs.declared.event.ProxyEvent.TheVariants as proxy
use Rattle.okws_plan.specs.declared.event.PubdEvent.{PubdEvent}
use Rattle.okws_plan.specs.declared.event.PubdEvent.TheVariants as pubd
use Rattle.okws_plan.specs.declared.event.LogEvent.{LogEvent}
use Rattle.okws_plan.specs.declared.event.LogEvent.TheVariants as oklogd
use Rattle.monitor_model.specs.Standing.{proxy_grant, pubd_grant, log_grant, live_at_proxy, live_at_pubd, live_at_log, up_at_okd}
use Rattle.monitor_model.specs.Proxy.{allowed}
use Rattle.monitor_model.specs.Pubd.{edition}

-- A mark fits its call: a Fault stands on an allowed Call alone.
abbrev pub MarkFits : Config → ℕ → List (Entry ProxyEvent) → Call → Mark → Type 0
MarkFits C p J call Done = Unit {0}
MarkFits C p J call Fault = IsTrue (allowed C p J call)

-- At a proxy an Install of s is above those of s before it and carries the token of the run's seed; a Revoke is of what stands; a Fault stands on an allowed Call alone.
abbrev pub MayEnterProxy : Config → List ℕ → ℕ → List (Entry ProxyEvent) → ProxyEvent → Type 0
MayEnterProxy C seed p J (proxy.Install s k shown) = (last_by proxy_grant J s < k) × (shown ≡ token_of seed s k p)
MayEnterProxy C seed p J (proxy.Revoke s k) = IsTrue (live_at_proxy J s k)
MayEnterProxy C seed p J (proxy.Open s k shown) = Unit {0}
MayEnterProxy C seed p J (proxy.Call call mark) = MarkFits C p J call mark

-- Each entry of a proxy fits the entries before it.
abbrev pub ProxyLaw : Config → List ℕ → ℕ → List (Entry ProxyEvent) → Type 0
ProxyLaw C seed p [] = Unit {0}
ProxyLaw C seed p (e ∷ J) = ProxyLaw C seed p J × MayEnterProxy C seed p J e.event

-- At pubd an Install of s is above those of s before it; a Revoke is of what stands; a Publish is of a declared template, of at most 262,144 bytes, and at most the 1,000,000th of it.
abbrev pub MayEnterPubd : Config → List (Entry PubdEvent) → PubdEvent → Type 0
MayEnterPubd C J (pubd.Install s k) = last_by pubd_grant J s < k
MayEnterPubd C J (pubd.Revoke s k) = IsTrue (live_at_pubd J s k)
MayEnterPubd C J (pubd.Publish t content) = (t < length C.templates) × (length content ≤ LONGEST_TEMPLATE) × (edition J t < MOST_EDITIONS)
MayEnterPubd C J (pubd.Drain s k) = Unit {0}
MayEnterPubd C J (pubd.Get s k name) = Unit {0}

-- Each entry of pubd fits the entries before it.
abbrev pub PubdLaw : Config → List (Entry PubdEvent) → Type 0
PubdLaw C [] = Unit {0}
PubdLaw C (e ∷ J) = PubdLaw C J × MayEnterPubd (in_force C J) J e.event

-- At oklogd an Install of s is above those of s before it; a Revoke is of what stands.
abbrev pub MayEnterLog : List (Entry LogEvent) → LogEvent → Type 0
MayEnterLog J (oklogd.Install s k) = last_by log_grant J s < k
MayEnterLog J (oklogd.Revoke s k) = IsTrue (live_at_log J s k)
MayEnterLog J (oklogd.Log s k text) = Unit {0}

-- Each entry of oklogd fits the entries before it.
abbrev pub LogLaw : List (Entry LogEvent) → Type 0
LogLaw [] = Unit {0}
LogLaw (e ∷ J) = LogLaw J × MayEnterLog J e.event

-- At okd a Down is of what is up.
abbrev pub MayEnterOkd : List (Entry OkdEvent) → OkdEvent → Type 0
MayEnterOkd J (okd.Up s k) = 0 < k
MayEnterOkd J (okd.Down s k) = IsTrue (is_just k (up_at_okd J s))
MayEnterOkd J (okd.Accept path) = Unit {0}

-- Each entry of okd fits the entries before it.
abbrev pub OkdLaw : List (Entry OkdEvent) → Type 0
OkdLaw [] = Unit {0}
OkdLaw (e ∷ J) = OkdLaw J × MayEnterOkd J e.event

-- A Fault is one fault.
abbrev pub faults_of_mark : Mark → ℕ
faults_of_mark Done = 0
faults_of_mark Fault = 1

-- How many Calls are marked Fault after an event.
abbrev pub faults_after : ProxyEvent → ℕ → ℕ
faults_after (proxy.Install s k shown) before = before
faults_after (proxy.Revoke s k) before = before
faults_after (proxy.Open s k shown) before = before
faults_after (proxy.Call call mark) before = before + faults_of_mark mark

-- How many Calls are marked Fault.
abbrev pub faults : List (Entry ProxyEvent) → ℕ
faults [] = 0
faults (e ∷ J) = faults_after e.event (faults J)

-- At most as many as a count rose, of which nothing is said where it stands at its last value.
abbrev pub WithinCount : Option ℕ → ℕ → Type 0
WithinCount rose n = IfSome rose (λ m. n ≤ m)
