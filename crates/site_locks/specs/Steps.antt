-- What one call of a number does to what it has seen.
use Rattle.std.specs.Prelude.{◌≡◌, ◌+◌, ℕ, List, ◌∷◌, Option, Some, None, slice_set}
use Rattle.okws_base.specs.Turns.{GrowsBy}
use Rattle.okws_base.specs.declared.journal.Entry.{Entry}
use Rattle.okws_plan.specs.declared.event.OkdEvent.{OkdEvent}
use Rattle.okws_plan.specs.declared.event.ProxyEvent.{ProxyEvent}
use Rattle.okws_plan.specs.declared.event.PubdEvent.{PubdEvent}
use Rattle.okws_plan.specs.declared.event.LogEvent.{LogEvent}
use Rattle.monitor_model.specs.declared.record.Own.{Own}
use Rattle.monitor_model.specs.declared.record.Own.TheVariants as own
use Rattle.monitor_model.specs.Seen.{proxy_past}
use Rattle.named_columns.specs.Launched.{by_entry}
use Rattle.site_locks.specs.Sat.{Sat}

-- An item of the number's that is no entry.
abbrev pub noted : Sat → Own → Sat
noted s item = record s { own = item ∷ s.own }

-- Such an item is noted in a spare place.
abbrev pub NotesSpare : Own → Sat → Sat → Type 0
NotesSpare item s now = (now ≡ record (noted s item) { spare = now.spare }) × (now.spare + 1 ≡ s.spare)

-- The number entered an event at okd, on `before`, which is what it had seen and what others entered since. Everything else stays.
pub record EntersOkd (event : OkdEvent) (before : List (Entry OkdEvent)) (s now : Sat) : Type 0 where
  pub grows : GrowsBy by_entry s.number s.okd before
  pub is : now ≡ record s { okd = record { worker = s.number; event = event } ∷ before }

-- The number entered nothing at okd, and saw what others had entered.
pub record SeesOkd (before : List (Entry OkdEvent)) (s now : Sat) : Type 0 where
  pub grows : GrowsBy by_entry s.number s.okd before
  pub is : now ≡ record s { okd = before }

-- The same at proxy p.
pub record EntersProxy (p : ℕ) (event : ProxyEvent) (before : List (Entry ProxyEvent)) (s now : Sat) : Type 0 where
  pub grows : GrowsBy by_entry s.number (proxy_past s.proxies p) before
  pub is : now ≡ record s { proxies = slice_set s.proxies p (record { worker = s.number; event = event } ∷ before) }

-- The number entered nothing at proxy p, and saw what others had entered.
pub record SeesProxy (p : ℕ) (before : List (Entry ProxyEvent)) (s now : Sat) : Type 0 where
  pub grows : GrowsBy by_entry s.number (proxy_past s.proxies p) before
  pub is : now ≡ record s { proxies = slice_set s.proxies p before }

-- The same at pubd.
pub record EntersPubd (event : PubdEvent) (before : List (Entry PubdEvent)) (s now : Sat) : Type 0 where
  pub grows : GrowsBy by_entry s.number s.pubd before
  pub is : now ≡ record s { pubd = record { worker = s.number; event = event } ∷ before }

-- The number entered nothing at pubd, and saw what others had entered.
pub record SeesPubd (before : List (Entry PubdEvent)) (s now : Sat) : Type 0 where
  pub grows : GrowsBy by_entry s.number s.pubd before
  pub is : now ≡ record s { pubd = before }

-- The same at oklogd.
pub record EntersLog (event : LogEvent) (before : List (Entry LogEvent)) (s now : Sat) : Type 0 where
  pub grows : GrowsBy by_entry s.number s.oklogd before
  pub is : now ≡ record s { oklogd = record { worker = s.number; event = event } ∷ before }

-- The number entered nothing at oklogd, and saw what others had entered.
pub record SeesLog (before : List (Entry LogEvent)) (s now : Sat) : Type 0 where
  pub grows : GrowsBy by_entry s.number s.oklogd before
  pub is : now ≡ record s { oklogd = before }

-- The number entered an event at okd, and noted it.
abbrev pub NotesOkd : OkdEvent → List (Entry OkdEvent) → Sat → Sat → Type 0
NotesOkd event before s now = EntersOkd event before (noted s (own.Okd event)) now

-- The same at proxy p.
abbrev pub NotesProxy : ℕ → ProxyEvent → List (Entry ProxyEvent) → Sat → Sat → Type 0
NotesProxy p event before s now = EntersProxy p event before (noted s (own.Proxy p event)) now

-- The same at pubd.
abbrev pub NotesPubd : PubdEvent → List (Entry PubdEvent) → Sat → Sat → Type 0
NotesPubd event before s now = EntersPubd event before (noted s (own.Pubd event)) now

-- The same at oklogd.
abbrev pub NotesLog : LogEvent → List (Entry LogEvent) → Sat → Sat → Type 0
NotesLog event before s now = EntersLog event before (noted s (own.Oklogd event)) now

-- The number had okd say that what was up is down, if anything was.
abbrev pub DownsOkd : (ℕ → OkdEvent) → Option ℕ → List (Entry OkdEvent) → Sat → Sat → Type 0
DownsOkd event None before s now = SeesOkd before s now
DownsOkd event (Some k) before s now = EntersOkd (event k) before s now

-- The number revoked what stood at proxy p, if anything did.
abbrev pub RevokesProxy : ℕ → (ℕ → ProxyEvent) → Option ℕ → List (Entry ProxyEvent) → Sat → Sat → Type 0
RevokesProxy p event None before s now = SeesProxy p before s now
RevokesProxy p event (Some k) before s now = EntersProxy p (event k) before s now

-- The same at pubd.
abbrev pub RevokesPubd : (ℕ → PubdEvent) → Option ℕ → List (Entry PubdEvent) → Sat → Sat → Type 0
RevokesPubd event None before s now = SeesPubd before s now
RevokesPubd event (Some k) before s now = EntersPubd (event k) before s now

-- The same at oklogd.
abbrev pub RevokesLog : (ℕ → LogEvent) → Option ℕ → List (Entry LogEvent) → Sat → Sat → Type 0
RevokesLog event None before s now = SeesLog before s now
RevokesLog event (Some k) before s now = EntersLog (event k) before s now
