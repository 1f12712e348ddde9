-- A number's seat at one proxy, which took a turn.
use Rattle.std.proofs.Common.{◌≡◌, ℕ, ◌<◌, List, map, length, get_or, set, refl}
use Rattle.std.specs.Prelude.{Result, Ok, Err, OnOk, OnErr}
use Rattle.okws_base.specs.declared.journal.Entry.{Entry}
use Rattle.okws_plan.specs.declared.event.OkdEvent.{OkdEvent}
use Rattle.okws_plan.specs.declared.event.ProxyEvent.{ProxyEvent}
use Rattle.okws_plan.specs.declared.event.PubdEvent.{PubdEvent}
use Rattle.okws_plan.specs.declared.event.LogEvent.{LogEvent}
use Rattle.monitor_model.specs.declared.record.Own.{Own}
use Rattle.monitor_model.specs.Seen.{proxy_past}
use Rattle.turn_lock.specs.BoardSeats.{SeatIs as BoardSeat}
use Rattle.turn_lock.specs.Seats.{TurnIs, SeatIs}
use Rattle.site_locks.specs.Sat.{LockIds, AreSeats, sat_of}
use Rattle.site_locks.specs.Steps.{EntersProxy, SeesProxy, RevokesProxy}
use Rattle.named_columns.specs.Turns.{Enters, Sees, EntersAny}
use Rattle.site_locks.proofs.Rows.{Placed, placed, within_row, row_still, seen_at}
use Rattle.site_locks.proofs.Sitting.{proxy_enters, proxy_sees}
use Rattle.std.specs.Prelude.{Option, Some, None, ◌∷◌}

-- the seat has seen more, and nothing else of it changed
abbrev pub Moved : {E : Type 0} → SeatIs (Entry E) → SeatIs (Entry E) → Type 0
Moved {E} a d = (K : List (Entry E)) × (d ≡ record { lock = a.lock; number = a.number; seen = K; held = a.held; label = a.label; olds = a.olds })

pub entered_moves : {E : Type 0} (event : E) (before : List (Entry E)) (a d : SeatIs (Entry E)) → Enters event before a d → Moved a d
entered_moves event before a d h = (record { worker = a.number; event = event } ∷ before, h.is)

pub seen_moves : {E : Type 0} (before : List (Entry E)) (a d : SeatIs (Entry E)) → Sees before a d → Moved a d
seen_moves before a d h = (before, h.is)

pub any_moves : {E : Type 0} (event : ℕ → E) (o : Option ℕ) (before : List (Entry E)) (a d : SeatIs (Entry E)) → EntersAny event o before a d → Moved a d
any_moves event None before a d h = (before, h.is)
any_moves event (Some k) before a d h = (record { worker = a.number; event = event k } ∷ before, h.is)

-- what follows of each outcome
pub of_outcome : {A X : Type 0} (r : Result A X) (P Q Z : Type 0) → OnOk r P → OnErr r Q → (P → Z) → (Q → Z) → Z
of_outcome (Ok v) P Q Z ok err f g = f ok
of_outcome (Err x) P Q Z ok err f g = g err

module _ (z : LockIds) (n : ℕ) (okd : SeatIs (Entry OkdEvent)) (ps : List (SeatIs (Entry ProxyEvent))) (pubd : SeatIs (Entry PubdEvent)) (log : SeatIs (Entry LogEvent)) (board : BoardSeat) (mine : List Own) (spare : ℕ) (inv : AreSeats z n okd ps pubd log board) (ts : List TurnIs) (count : ℕ) (ids : map (λ (t : TurnIs). t.id) ts ≡ z.proxies) (counts : length ts ≡ count) (p : ℕ) (lt : p < count) where
  pub within : p < length ps
  within = (within_row z.proxies ps ts n p count inv.proxies_at ids counts lt).0

  pub there : (c : SeatIs (Entry ProxyEvent)) (t : TurnIs) → c ≡ get_or ps p c → t ≡ get_or ts p t → Placed z.proxies n p c t
  there c t e f = placed z.proxies ps ts n p count c t inv.proxies_at ids counts lt e f

  pub seen_there : (c : SeatIs (Entry ProxyEvent)) → c ≡ get_or ps p c → proxy_past (map (λ (a : SeatIs (Entry ProxyEvent)). a.seen) ps) p ≡ c.seen
  seen_there c e = seen_at ps p c within e

  pub moved_there : (c d : SeatIs (Entry ProxyEvent)) (t : TurnIs) → c ≡ get_or ps p c → t ≡ get_or ts p t → Moved c d → AreSeats z n okd (set ps p d) pubd log board
  moved_there c d t e f m = record {
    okd_at = inv.okd_at;
    proxies_at = row_still z.proxies ps ts n p count c d t m.0 inv.proxies_at ids counts lt (there c t e f) m.1;
    pubd_at = inv.pubd_at;
    oklogd_at = inv.oklogd_at;
    board_at = inv.board_at;
  }

  pub enters_there : (c d : SeatIs (Entry ProxyEvent)) (t : TurnIs) (event : ProxyEvent) (before : List (Entry ProxyEvent)) (now : List Own) → c ≡ get_or ps p c → t ≡ get_or ts p t → Enters event before c d → now ≡ mine
      → EntersProxy p event before (sat_of n okd ps pubd log board mine spare) (sat_of n okd (set ps p d) pubd log board now spare)
  enters_there c d t event before now e f h same = proxy_enters z n okd ps pubd log board mine spare inv p c d event before now within e (there c t e f).at.number_is h same

  pub sees_there : (c d : SeatIs (Entry ProxyEvent)) (t : TurnIs) (before : List (Entry ProxyEvent)) (now : List Own) → c ≡ get_or ps p c → t ≡ get_or ts p t → Sees before c d → now ≡ mine
      → SeesProxy p before (sat_of n okd ps pubd log board mine spare) (sat_of n okd (set ps p d) pubd log board now spare)
  sees_there c d t before now e f h same = proxy_sees z n okd ps pubd log board mine spare inv p c d before now within e (there c t e f).at.number_is h same

  pub revokes_there : (c d : SeatIs (Entry ProxyEvent)) (t : TurnIs) (event : ℕ → ProxyEvent) (o : Option ℕ) (before : List (Entry ProxyEvent)) → c ≡ get_or ps p c → t ≡ get_or ts p t → EntersAny event o before c d
      → RevokesProxy p event o before (sat_of n okd ps pubd log board mine spare) (sat_of n okd (set ps p d) pubd log board mine spare)
  revokes_there c d t event None before e f h = sees_there c d t before mine e f h refl
  revokes_there c d t event (Some k) before e f h = enters_there c d t (event k) before mine e f h refl

  pub turned_there : {A X : Type 0} (r : Result A X) (c d : SeatIs (Entry ProxyEvent)) (t : TurnIs) (before : List (Entry ProxyEvent)) (now : List Own) → c ≡ get_or ps p c → t ≡ get_or ts p t → Sees before c d → now ≡ mine
      → OnErr r ((before : List (Entry ProxyEvent)) × SeesProxy p before (sat_of n okd ps pubd log board mine spare) (sat_of n okd (set ps p d) pubd log board now spare))
  turned_there (Ok v) c d t before now e f h same = tt
  turned_there (Err x) c d t before now e f h same = (before, sees_there c d t before now e f h same)
