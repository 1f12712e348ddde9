-- What a turn of one seat makes of what a number has seen.
use Rattle.std.proofs.Common.{◌≡◌, ◌∙◌, ℕ, zero, suc, ◌<◌, List, [], ◌∷◌, map, length, get_or, set, refl, sym, ap, subst}
use Rattle.std.specs.Prelude.{Result, Ok, Err, OnErr}
use Rattle.okws_base.specs.Turns.{GrowsBy}
use Rattle.okws_base.specs.declared.journal.Entry.{Entry}
use Rattle.okws_plan.specs.declared.event.OkdEvent.{OkdEvent}
use Rattle.okws_plan.specs.declared.event.ProxyEvent.{ProxyEvent}
use Rattle.okws_plan.specs.declared.event.PubdEvent.{PubdEvent}
use Rattle.okws_plan.specs.declared.event.LogEvent.{LogEvent}
use Rattle.monitor_model.specs.declared.record.Own.{Own}
use Rattle.monitor_model.specs.Seen.{proxy_past}
use Rattle.turn_lock.specs.BoardSeats.{SeatIs as BoardSeat}
use Rattle.named_columns.specs.Launched.{by_entry}
use Rattle.turn_lock.specs.Seats.{SeatIs}
use Rattle.site_locks.specs.Sat.{LockIds, AreSeats, sat_of}
use Rattle.site_locks.specs.Steps.{EntersOkd, SeesOkd, EntersProxy, SeesProxy, EntersPubd, SeesPubd, EntersLog, SeesLog}
use Rattle.named_columns.specs.Turns.{Enters, Sees}
use Rattle.site_locks.proofs.Rows.{still, seen_at, map_set}

set_same : {A : Type 0} (xs : List A) (i : ℕ) (d : A) → set xs i (get_or xs i d) ≡ xs
set_same [] i d = refl
set_same (x ∷ xs) zero d = refl
set_same (x ∷ xs) (suc i) d = ap (λ l. x ∷ l) (set_same xs i d)

-- the entry of a turn, under the number itself
entry_is : {E : Type 0} (n : ℕ) (event : E) (before : List (Entry E)) (a d : SeatIs (Entry E)) → a.number ≡ n → Enters event before a d → d.seen ≡ record { worker = n; event = event } ∷ before
entry_is n event before a d number h = ap (λ (x : SeatIs (Entry _)). x.seen) h.is ∙ ap (λ m. record { worker = m; event = event } ∷ before) number

sight_is : {E : Type 0} (before : List (Entry E)) (a d : SeatIs (Entry E)) → Sees before a d → d.seen ≡ before
sight_is before a d h = ap (λ (x : SeatIs (Entry _)). x.seen) h.is

module _ (z : LockIds) (n : ℕ) (okd : SeatIs (Entry OkdEvent)) (ps : List (SeatIs (Entry ProxyEvent))) (pubd : SeatIs (Entry PubdEvent)) (log : SeatIs (Entry LogEvent)) (board : BoardSeat) (mine : List Own) (spare : ℕ) (h : AreSeats z n okd ps pubd log board) where
  pub okd_enters : (event : OkdEvent) (before : List (Entry OkdEvent)) (d : SeatIs (Entry OkdEvent)) (now : List Own) → Enters event before okd d → now ≡ mine
      → EntersOkd event before (sat_of n okd ps pubd log board mine spare) (sat_of n d ps pubd log board now spare)
  okd_enters event before d now t more =
      let entry : d.seen ≡ record { worker = n; event = event } ∷ before = entry_is n event before okd d h.okd_at.number_is t in record {
        grows = subst (λ k. GrowsBy by_entry k okd.seen before) h.okd_at.number_is t.grows;
        is = λ k. record { number = n; okd = entry k; proxies = map (λ (a : SeatIs (Entry ProxyEvent)). a.seen) ps; pubd = pubd.seen; oklogd = log.seen; board = board.seen; drawn = board.drawn; own = more k; spare = spare };
      }

  pub okd_sees : (before : List (Entry OkdEvent)) (d : SeatIs (Entry OkdEvent)) (now : List Own) → Sees before okd d → now ≡ mine → SeesOkd before (sat_of n okd ps pubd log board mine spare) (sat_of n d ps pubd log board now spare)
  okd_sees before d now t same =
      let sight : d.seen ≡ before = sight_is before okd d t in record {
        grows = subst (λ k. GrowsBy by_entry k okd.seen before) h.okd_at.number_is t.grows;
        is = λ k. record { number = n; okd = sight k; proxies = map (λ (a : SeatIs (Entry ProxyEvent)). a.seen) ps; pubd = pubd.seen; oklogd = log.seen; board = board.seen; drawn = board.drawn; own = same k; spare = spare };
      }

  pub okd_entered : (event : OkdEvent) (before : List (Entry OkdEvent)) (d : SeatIs (Entry OkdEvent)) → Enters event before okd d → AreSeats z n d ps pubd log board
  okd_entered event before d t = record { okd_at = still z.okd 0 n (record { worker = okd.number; event = event } ∷ before) okd d h.okd_at t.is; proxies_at = h.proxies_at; pubd_at = h.pubd_at; oklogd_at = h.oklogd_at; board_at = h.board_at }

  pub okd_seen : (before : List (Entry OkdEvent)) (d : SeatIs (Entry OkdEvent)) → Sees before okd d → AreSeats z n d ps pubd log board
  okd_seen before d t = record { okd_at = still z.okd 0 n before okd d h.okd_at t.is; proxies_at = h.proxies_at; pubd_at = h.pubd_at; oklogd_at = h.oklogd_at; board_at = h.board_at }

  pub pubd_enters : (event : PubdEvent) (before : List (Entry PubdEvent)) (d : SeatIs (Entry PubdEvent)) (now : List Own) → Enters event before pubd d → now ≡ mine
      → EntersPubd event before (sat_of n okd ps pubd log board mine spare) (sat_of n okd ps d log board now spare)
  pubd_enters event before d now t more =
      let entry : d.seen ≡ record { worker = n; event = event } ∷ before = entry_is n event before pubd d h.pubd_at.number_is t in record {
        grows = subst (λ k. GrowsBy by_entry k pubd.seen before) h.pubd_at.number_is t.grows;
        is = λ k. record { number = n; okd = okd.seen; proxies = map (λ (a : SeatIs (Entry ProxyEvent)). a.seen) ps; pubd = entry k; oklogd = log.seen; board = board.seen; drawn = board.drawn; own = more k; spare = spare };
      }

  pub pubd_sees : (before : List (Entry PubdEvent)) (d : SeatIs (Entry PubdEvent)) (now : List Own) → Sees before pubd d → now ≡ mine → SeesPubd before (sat_of n okd ps pubd log board mine spare) (sat_of n okd ps d log board now spare)
  pubd_sees before d now t same =
      let sight : d.seen ≡ before = sight_is before pubd d t in record {
        grows = subst (λ k. GrowsBy by_entry k pubd.seen before) h.pubd_at.number_is t.grows;
        is = λ k. record { number = n; okd = okd.seen; proxies = map (λ (a : SeatIs (Entry ProxyEvent)). a.seen) ps; pubd = sight k; oklogd = log.seen; board = board.seen; drawn = board.drawn; own = same k; spare = spare };
      }

  pub pubd_entered : (event : PubdEvent) (before : List (Entry PubdEvent)) (d : SeatIs (Entry PubdEvent)) → Enters event before pubd d → AreSeats z n okd ps d log board
  pubd_entered event before d t = record { okd_at = h.okd_at; proxies_at = h.proxies_at; pubd_at = still z.pubd 0 n (record { worker = pubd.number; event = event } ∷ before) pubd d h.pubd_at t.is; oklogd_at = h.oklogd_at; board_at = h.board_at }

  pub pubd_seen : (before : List (Entry PubdEvent)) (d : SeatIs (Entry PubdEvent)) → Sees before pubd d → AreSeats z n okd ps d log board
  pubd_seen before d t = record { okd_at = h.okd_at; proxies_at = h.proxies_at; pubd_at = still z.pubd 0 n before pubd d h.pubd_at t.is; oklogd_at = h.oklogd_at; board_at = h.board_at }

  pub log_enters : (event : LogEvent) (before : List (Entry LogEvent)) (d : SeatIs (Entry LogEvent)) (now : List Own) → Enters event before log d → now ≡ mine
      → EntersLog event before (sat_of n okd ps pubd log board mine spare) (sat_of n okd ps pubd d board now spare)
  log_enters event before d now t more =
      let entry : d.seen ≡ record { worker = n; event = event } ∷ before = entry_is n event before log d h.oklogd_at.number_is t in record {
        grows = subst (λ k. GrowsBy by_entry k log.seen before) h.oklogd_at.number_is t.grows;
        is = λ k. record { number = n; okd = okd.seen; proxies = map (λ (a : SeatIs (Entry ProxyEvent)). a.seen) ps; pubd = pubd.seen; oklogd = entry k; board = board.seen; drawn = board.drawn; own = more k; spare = spare };
      }

  pub log_sees : (before : List (Entry LogEvent)) (d : SeatIs (Entry LogEvent)) (now : List Own) → Sees before log d → now ≡ mine → SeesLog before (sat_of n okd ps pubd log board mine spare) (sat_of n okd ps pubd d board now spare)
  log_sees before d now t same =
      let sight : d.seen ≡ before = sight_is before log d t in record {
        grows = subst (λ k. GrowsBy by_entry k log.seen before) h.oklogd_at.number_is t.grows;
        is = λ k. record { number = n; okd = okd.seen; proxies = map (λ (a : SeatIs (Entry ProxyEvent)). a.seen) ps; pubd = pubd.seen; oklogd = sight k; board = board.seen; drawn = board.drawn; own = same k; spare = spare };
      }

  pub log_entered : (event : LogEvent) (before : List (Entry LogEvent)) (d : SeatIs (Entry LogEvent)) → Enters event before log d → AreSeats z n okd ps pubd d board
  log_entered event before d t = record { okd_at = h.okd_at; proxies_at = h.proxies_at; pubd_at = h.pubd_at; oklogd_at = still z.oklogd 0 n (record { worker = log.number; event = event } ∷ before) log d h.oklogd_at t.is; board_at = h.board_at }

  pub log_seen : (before : List (Entry LogEvent)) (d : SeatIs (Entry LogEvent)) → Sees before log d → AreSeats z n okd ps pubd d board
  log_seen before d t = record { okd_at = h.okd_at; proxies_at = h.proxies_at; pubd_at = h.pubd_at; oklogd_at = still z.oklogd 0 n before log d h.oklogd_at t.is; board_at = h.board_at }

  -- seat c is that of proxy p
  pub proxy_enters : (p : ℕ) (c d : SeatIs (Entry ProxyEvent)) (event : ProxyEvent) (before : List (Entry ProxyEvent)) (now : List Own) → p < length ps → c ≡ get_or ps p c → c.number ≡ n → Enters event before c d
      → now ≡ mine → EntersProxy p event before (sat_of n okd ps pubd log board mine spare) (sat_of n okd (set ps p d) pubd log board now spare)
  proxy_enters p c d event before now lt is number t more =
      let entry : d.seen ≡ record { worker = n; event = event } ∷ before = entry_is n event before c d number t in
      let row : map (λ (a : SeatIs (Entry ProxyEvent)). a.seen) (set ps p d) ≡ set (map (λ (a : SeatIs (Entry ProxyEvent)). a.seen) ps) p (record { worker = n; event = event } ∷ before) = map_set (λ (a : SeatIs (Entry ProxyEvent)). a.seen) ps p d ∙ ap (set (map (λ (a : SeatIs (Entry ProxyEvent)). a.seen) ps) p) entry in record {
        grows = subst (λ J. GrowsBy by_entry n J before) (sym (seen_at ps p c lt is)) (subst (λ k. GrowsBy by_entry k c.seen before) number t.grows);
        is = λ k. record { number = n; okd = okd.seen; proxies = row k; pubd = pubd.seen; oklogd = log.seen; board = board.seen; drawn = board.drawn; own = more k; spare = spare };
      }

  pub proxy_sees : (p : ℕ) (c d : SeatIs (Entry ProxyEvent)) (before : List (Entry ProxyEvent)) (now : List Own) → p < length ps → c ≡ get_or ps p c → c.number ≡ n → Sees before c d → now ≡ mine
      → SeesProxy p before (sat_of n okd ps pubd log board mine spare) (sat_of n okd (set ps p d) pubd log board now spare)
  proxy_sees p c d before now lt is number t same =
      let sight : d.seen ≡ before = sight_is before c d t in
      let row : map (λ (a : SeatIs (Entry ProxyEvent)). a.seen) (set ps p d) ≡ set (map (λ (a : SeatIs (Entry ProxyEvent)). a.seen) ps) p before = map_set (λ (a : SeatIs (Entry ProxyEvent)). a.seen) ps p d ∙ ap (set (map (λ (a : SeatIs (Entry ProxyEvent)). a.seen) ps) p) sight in record {
        grows = subst (λ J. GrowsBy by_entry n J before) (sym (seen_at ps p c lt is)) (subst (λ k. GrowsBy by_entry k c.seen before) number t.grows);
        is = λ k. record { number = n; okd = okd.seen; proxies = row k; pubd = pubd.seen; oklogd = log.seen; board = board.seen; drawn = board.drawn; own = same k; spare = spare };
      }

  -- nothing was entered, and nothing was seen
  pub okd_rests : (now : List Own) → now ≡ mine → SeesOkd okd.seen (sat_of n okd ps pubd log board mine spare) (sat_of n okd ps pubd log board now spare)
  okd_rests now same = record {
    grows = ([], refl, refl);
    is = λ k. record { number = n; okd = okd.seen; proxies = map (λ (a : SeatIs (Entry ProxyEvent)). a.seen) ps; pubd = pubd.seen; oklogd = log.seen; board = board.seen; drawn = board.drawn; own = same k; spare = spare };
  }

  pub proxy_rests : (p : ℕ) (now : List Own) → now ≡ mine → SeesProxy p (proxy_past (map (λ (a : SeatIs (Entry ProxyEvent)). a.seen) ps) p) (sat_of n okd ps pubd log board mine spare) (sat_of n okd ps pubd log board now spare)
  proxy_rests p now same =
      let row : map (λ (a : SeatIs (Entry ProxyEvent)). a.seen) ps ≡ set (map (λ (a : SeatIs (Entry ProxyEvent)). a.seen) ps) p (get_or (map (λ (a : SeatIs (Entry ProxyEvent)). a.seen) ps) p []) = sym (set_same (map (λ (a : SeatIs (Entry ProxyEvent)). a.seen) ps) p []) in record {
        grows = ([], refl, refl);
        is = λ k. record { number = n; okd = okd.seen; proxies = row k; pubd = pubd.seen; oklogd = log.seen; board = board.seen; drawn = board.drawn; own = same k; spare = spare };
      }

  pub pubd_rests : (now : List Own) → now ≡ mine → SeesPubd pubd.seen (sat_of n okd ps pubd log board mine spare) (sat_of n okd ps pubd log board now spare)
  pubd_rests now same = record {
    grows = ([], refl, refl);
    is = λ k. record { number = n; okd = okd.seen; proxies = map (λ (a : SeatIs (Entry ProxyEvent)). a.seen) ps; pubd = pubd.seen; oklogd = log.seen; board = board.seen; drawn = board.drawn; own = same k; spare = spare };
  }

  pub log_rests : (now : List Own) → now ≡ mine → SeesLog log.seen (sat_of n okd ps pubd log board mine spare) (sat_of n okd ps pubd log board now spare)
  log_rests now same = record {
    grows = ([], refl, refl);
    is = λ k. record { number = n; okd = okd.seen; proxies = map (λ (a : SeatIs (Entry ProxyEvent)). a.seen) ps; pubd = pubd.seen; oklogd = log.seen; board = board.seen; drawn = board.drawn; own = same k; spare = spare };
  }

  -- the same where a call is refused memory before its turn, or in it
  pub okd_unturned : {A X : Type 0} (r : Result A X) (now : List Own) → now ≡ mine → OnErr r ((before : List (Entry OkdEvent)) × SeesOkd before (sat_of n okd ps pubd log board mine spare) (sat_of n okd ps pubd log board now spare))
  okd_unturned (Ok v) now same = tt
  okd_unturned (Err x) now same = (okd.seen, okd_rests now same)

  pub okd_turned : {A X : Type 0} (r : Result A X) (before : List (Entry OkdEvent)) (d : SeatIs (Entry OkdEvent)) (now : List Own) → Sees before okd d → now ≡ mine → OnErr r ((before : List (Entry OkdEvent)) × SeesOkd before (sat_of n okd ps pubd log board mine spare) (sat_of n d ps pubd log board now spare))
  okd_turned (Ok v) before d now t same = tt
  okd_turned (Err x) before d now t same = (before, okd_sees before d now t same)

  pub pubd_unturned : {A X : Type 0} (r : Result A X) (now : List Own) → now ≡ mine → OnErr r ((before : List (Entry PubdEvent)) × SeesPubd before (sat_of n okd ps pubd log board mine spare) (sat_of n okd ps pubd log board now spare))
  pubd_unturned (Ok v) now same = tt
  pubd_unturned (Err x) now same = (pubd.seen, pubd_rests now same)

  pub pubd_turned : {A X : Type 0} (r : Result A X) (before : List (Entry PubdEvent)) (d : SeatIs (Entry PubdEvent)) (now : List Own) → Sees before pubd d → now ≡ mine → OnErr r ((before : List (Entry PubdEvent)) × SeesPubd before (sat_of n okd ps pubd log board mine spare) (sat_of n okd ps d log board now spare))
  pubd_turned (Ok v) before d now t same = tt
  pubd_turned (Err x) before d now t same = (before, pubd_sees before d now t same)

  pub log_unturned : {A X : Type 0} (r : Result A X) (now : List Own) → now ≡ mine → OnErr r ((before : List (Entry LogEvent)) × SeesLog before (sat_of n okd ps pubd log board mine spare) (sat_of n okd ps pubd log board now spare))
  log_unturned (Ok v) now same = tt
  log_unturned (Err x) now same = (log.seen, log_rests now same)

  pub log_turned : {A X : Type 0} (r : Result A X) (before : List (Entry LogEvent)) (d : SeatIs (Entry LogEvent)) (now : List Own) → Sees before log d → now ≡ mine → OnErr r ((before : List (Entry LogEvent)) × SeesLog before (sat_of n okd ps pubd log board mine spare) (sat_of n okd ps pubd d board now spare))
  log_turned (Ok v) before d now t same = tt
  log_turned (Err x) before d now t same = (before, log_sees before d now t same)

  pub proxy_unturned : {A X : Type 0} (r : Result A X) (p : ℕ) (now : List Own) → now ≡ mine → OnErr r ((before : List (Entry ProxyEvent)) × SeesProxy p before (sat_of n okd ps pubd log board mine spare) (sat_of n okd ps pubd log board now spare))
  proxy_unturned (Ok v) p now same = tt
  proxy_unturned (Err x) p now same = (proxy_past (map (λ (a : SeatIs (Entry ProxyEvent)). a.seen) ps) p, proxy_rests p now same)
