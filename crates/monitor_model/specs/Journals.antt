-- Events as a past.
use Rattle.std.specs.Prelude.{ℕ, List, [], ◌∷◌, map, reverse, take}
use Rattle.okws_base.specs.declared.journal.Entry.{Entry}
use Rattle.okws_base.specs.declared.value.Token.{Token}
use Rattle.okws_base.specs.declared.value.Value.{Value}
use Rattle.okws_plan.specs.declared.event.Mark.TheVariants.{Done}
use Rattle.okws_plan.specs.declared.event.Call.{Call}
use Rattle.okws_plan.specs.declared.event.LauncherEvent.{LauncherEvent}
use Rattle.okws_plan.specs.declared.event.LauncherEvent.TheVariants as launcher
use Rattle.okws_plan.specs.declared.event.ProxyEvent.{ProxyEvent}
use Rattle.okws_plan.specs.declared.event.ProxyEvent.TheVariants as proxy

-- The past of these events, the oldest first, all of worker 0.
abbrev pub past : {E : Type 0} → List E → List (Entry E)
past {E} events = reverse (map (λ (e : E). record { worker = 0; event = e }) events)

-- The token of guest's first incarnation at the first proxy under the zero seed, and others.
abbrev pub first_token : Token
first_token = record { bytes = 0 ∷ 0 ∷ 0 ∷ 0 ∷ 0 ∷ 0 ∷ 0 ∷ 1 ∷ 0xad ∷ 0xe0 ∷ 0xb8 ∷ 0x76 ∷ 0x90 ∷ 0x3d ∷ 0xf1 ∷ 0xa0 ∷ 0xe5 ∷ 0x6a ∷ 0x5d ∷ 0x40 ∷ [] }

-- A token that nobody was issued.
abbrev pub invented_token : Token
invented_token = record { bytes = 0 ∷ 0 ∷ 0 ∷ 0 ∷ 0 ∷ 0 ∷ 0 ∷ 1 ∷ 0xad ∷ 0xe0 ∷ 0xb8 ∷ 0x76 ∷ 0x90 ∷ 0x3d ∷ 0xf1 ∷ 0xa0 ∷ 0xe5 ∷ 0x6a ∷ 0x5d ∷ 0x41 ∷ [] }

-- A token for guest's second incarnation.
abbrev pub second_token : Token
second_token = record { bytes = 0 ∷ 0 ∷ 0 ∷ 0 ∷ 0 ∷ 0 ∷ 0 ∷ 2 ∷ [] }

-- A token for other's first incarnation.
abbrev pub others_token : Token
others_token = record { bytes = 0 ∷ 1 ∷ 0 ∷ 0 ∷ 0 ∷ 0 ∷ 0 ∷ 1 ∷ [] }

-- A call of guest's first incarnation on its first session, of query q with these arguments.
abbrev pub call : ℕ → List Value → Call
call q args = record { service = 0; incarnation = 1; session = 0; query = q; args = args }

-- A call of guest's first incarnation on its first session.
abbrev pub calls : ℕ → List Value → ProxyEvent
calls q args = proxy.Call (call q args) Done

-- Guest's first incarnation with a session.
abbrev pub session : List ProxyEvent
session = proxy.Install 0 1 first_token ∷ proxy.Open 0 1 first_token ∷ []

-- What befalls guest's first three incarnations, after which it is given up, and then asked for again.
abbrev pub three_tries : List LauncherEvent
three_tries =
    launcher.Begun 0 1 ∷ launcher.Crashed 0 1 ∷ launcher.Crashed 0 1 ∷ launcher.Begun 0 2 ∷ launcher.Crashed 0 1 ∷ launcher.Failed 0 2
    ∷ launcher.Begun 0 3 ∷ launcher.Crashed 0 3 ∷ launcher.Dead 0 3 ∷ launcher.Asked 0 ∷ []

-- The launcher's past after the first n of these events.
abbrev pub tried_so_far : ℕ → List (Entry LauncherEvent)
tried_so_far n = past (take n three_tries)
