-- What the launcher's past says, and what it may enter.
use Rattle.std.specs.Prelude.{ℕ, ◌+◌, Bool, true, false, List, [], ◌∷◌, ◌==◌, ◌&&◌, ◌||◌, nat_lt, nat_le, not, max, if◌then◌else◌, IsTrue}
use Rattle.okws_base.specs.declared.journal.Entry.{Entry}
use Rattle.okws_plan.specs.Configuration.{in_force}
use Rattle.okws_plan.specs.declared.configuration.Config.{Config}
use Rattle.okws_plan.specs.declared.event.LauncherEvent.{LauncherEvent}
use Rattle.okws_plan.specs.declared.event.LauncherEvent.TheVariants.{Begun, Failed, Crashed, Dead, Asked}

-- The greatest incarnation of s begun after an event, from that before it.
abbrev pub begun_after : LauncherEvent → ℕ → ℕ → ℕ
begun_after (Begun t k) s before = if t == s then max k before else before
begun_after (Failed t k) s before = before
begun_after (Crashed t k) s before = before
begun_after (Dead t n) s before = before
begun_after (Asked t) s before = before

-- The greatest incarnation of s that was begun, 0 for none.
abbrev pub begun : List (Entry LauncherEvent) → ℕ → ℕ
begun [] s = 0
begun (e ∷ J) s = begun_after e.event s (begun J s)

-- Whether incarnation k of s was tried after an event, where `greatest` was begun before it.
abbrev pub tried_after : LauncherEvent → ℕ → ℕ → ℕ → Bool → Bool
tried_after (Begun t j) greatest s k before = before
tried_after (Failed t j) greatest s k before = if (t == s) && (j == k) then true else before
tried_after (Crashed t j) greatest s k before = if (t == s) && ((j == k) && (j == greatest)) then true else before
tried_after (Dead t n) greatest s k before = before
tried_after (Asked t) greatest s k before = if t == s then false else before

-- Since the last Asked of s, incarnation k has a Failed, or a Crashed that came while it was the greatest begun.
abbrev pub tried : List (Entry LauncherEvent) → ℕ → ℕ → Bool
tried [] s k = false
tried (e ∷ J) s k = tried_after e.event (begun J s) s k (tried J s k)

-- The event is a try of s, of an incarnation that was not tried before: a Failed, or a Crashed of the greatest begun.
abbrev pub is_new_try : LauncherEvent → ℕ → (ℕ → Bool) → ℕ → Bool
is_new_try (Begun t j) greatest tried s = false
is_new_try (Failed t j) greatest tried s = (t == s) && not (tried j)
is_new_try (Crashed t j) greatest tried s = (t == s) && ((j == greatest) && not (tried j))
is_new_try (Dead t n) greatest tried s = false
is_new_try (Asked t) greatest tried s = false

-- The event is an Asked of s.
abbrev pub is_asked_of : LauncherEvent → ℕ → Bool
is_asked_of (Asked t) s = t == s
is_asked_of (Begun t j) s = false
is_asked_of (Failed t j) s = false
is_asked_of (Crashed t j) s = false
is_asked_of (Dead t n) s = false

-- How many incarnations were tried after an event.
abbrev pub tries_after : LauncherEvent → ℕ → (ℕ → Bool) → ℕ → ℕ → ℕ
tries_after event greatest tried s before =
    if is_asked_of event s then 0
    else if is_new_try event greatest tried s then before + 1
    else before

-- How many incarnations were tried since the last Asked of s; each counts once.
abbrev pub tries : List (Entry LauncherEvent) → ℕ → ℕ
tries [] s = 0
tries (e ∷ J) s = tries_after e.event (begun J s) (tried J s) s (tries J s)

-- Whether a Dead of s stands after an event.
abbrev pub dead_after : LauncherEvent → ℕ → Bool → Bool
dead_after (Begun t j) s before = before
dead_after (Failed t j) s before = before
dead_after (Crashed t j) s before = before
dead_after (Dead t n) s before = if t == s then true else before
dead_after (Asked t) s before = if t == s then false else before

-- A Dead of s stands since the last Asked of s.
abbrev pub is_dead : List (Entry LauncherEvent) → ℕ → Bool
is_dead [] s = false
is_dead (e ∷ J) s = dead_after e.event s (is_dead J s)

-- Whether the greatest begun has fallen after an event.
abbrev pub fell_after : LauncherEvent → ℕ → ℕ → Bool → Bool
fell_after (Begun t j) greatest s before = if t == s then false else before
fell_after (Failed t j) greatest s before = if (t == s) && (j == greatest) then true else before
fell_after (Crashed t j) greatest s before = if (t == s) && (j == greatest) then true else before
fell_after (Dead t n) greatest s before = before
fell_after (Asked t) greatest s before = if t == s then false else before

-- Since the last Begun and the last Asked of s stands a Failed or Crashed of the greatest begun.
abbrev pub fell : List (Entry LauncherEvent) → ℕ → Bool
fell [] s = false
fell (e ∷ J) s = fell_after e.event (begun J s) s (fell J s)

-- A Begun of s may stand where it is of the next incarnation, tries are 0 or below the limit, and no Dead of s stands since the last Asked.
abbrev pub may_begin : Config → List (Entry LauncherEvent) → ℕ → ℕ → Bool
may_begin C J s k = (k == begun J s + 1) && (((tries J s == 0) || nat_lt (tries J s) C.retry) && not (is_dead J s))

-- A Dead of s may stand where it carries the tries, these are at the limit, and the greatest begun failed or crashed since.
abbrev pub may_give_up : Config → List (Entry LauncherEvent) → ℕ → ℕ → Bool
may_give_up C J s n = (n == tries J s) && (nat_le C.retry n && fell J s)

-- A Failed may stand of the greatest incarnation that was begun, while it is that.
abbrev pub may_fail : List (Entry LauncherEvent) → ℕ → ℕ → Bool
may_fail J s k = nat_lt 0 k && (k == begun J s)

-- A Crashed may stand of an incarnation that was begun.
abbrev pub may_crash : List (Entry LauncherEvent) → ℕ → ℕ → Bool
may_crash J s k = nat_lt 0 k && nat_le k (begun J s)

-- The entry fits those before it.
abbrev pub may_enter : Config → List (Entry LauncherEvent) → LauncherEvent → Bool
may_enter C J (Begun s k) = may_begin C J s k
may_enter C J (Dead s n) = may_give_up C J s n
may_enter C J (Failed s k) = may_fail J s k
may_enter C J (Crashed s k) = may_crash J s k
may_enter C J (Asked s) = true

-- The launcher's law: each entry fits the entries before it.
abbrev pub LauncherLaw : Config → List (Entry LauncherEvent) → Type 0
LauncherLaw C [] = Unit {0}
LauncherLaw C (e ∷ J) = LauncherLaw C J × IsTrue (may_enter (in_force C J) J e.event)
