-- When two answers to the same bytes agree.
use Rattle.std.specs.Prelude.{◌≡◌, ◌⊎◌, ℕ}
use Rattle.http_front.specs.Requests.{path_text}
use Rattle.http_front.specs.declared.reading.Incoming.{Incoming}
use Rattle.http_front.specs.declared.reading.Incoming.TheVariants.{Request, Refused, ConnFault, NoMemory}

-- Bytes of which no head can become are refused by 400; or by 431, where too many came before the reading stopped.
abbrev pub AreOfOneHead : ℕ → ℕ → Type 0
AreOfOneHead one other = (one ≡ 400) × (other ≡ 431)

-- Two statuses of the same bytes: they are the same, or the bytes are no head and the pieces decided which.
abbrev pub AgreeStatuses : ℕ → ℕ → Type 0
AgreeStatuses one other = (one ≡ other) ⊎ (AreOfOneHead one other ⊎ AreOfOneHead other one)

-- Two answers to the same bytes: both are the same request, or both refuse it. A fault or want of memory agrees with each.
abbrev pub Agree : Incoming → Incoming → Type 0
Agree (Request one) (Request other) = (one.method.now ≡ other.method.now) × (path_text one ≡ path_text other) × (one.head ≡ other.head) × (one.content ≡ other.content)
Agree (Request one) (Refused status) = ⊥
Agree (Request one) ConnFault = Unit {0}
Agree (Request one) NoMemory = Unit {0}
Agree (Refused status) (Request other) = ⊥
Agree (Refused one) (Refused other) = AgreeStatuses one other
Agree (Refused status) ConnFault = Unit {0}
Agree (Refused status) NoMemory = Unit {0}
Agree ConnFault other = Unit {0}
Agree NoMemory other = Unit {0}
