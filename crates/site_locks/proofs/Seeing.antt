-- What one call makes of what a number has seen up to its own last entries.
use Rattle.std.proofs.Common.{◌≡◌, ◌∙◌, ℕ, List, [], ◌∷◌, map, get_or, set, refl, sym, ap, subst}
use Rattle.okws_base.specs.Past.{AllForeign, Grows}
use Rattle.okws_base.specs.Turns.{of, GrowsBy, up_to_own}
use Rattle.okws_base.specs.declared.journal.Entry.{Entry}
use Rattle.okws_plan.specs.declared.event.OkdEvent.{OkdEvent}
use Rattle.okws_plan.specs.declared.event.ProxyEvent.{ProxyEvent}
use Rattle.okws_plan.specs.declared.event.PubdEvent.{PubdEvent}
use Rattle.okws_plan.specs.declared.event.LogEvent.{LogEvent}
use Rattle.monitor_model.specs.declared.record.Own.TheVariants as own
use Rattle.monitor_model.specs.Seen.{AtOkd, AtProxy, AtPubd, AtLog}
use Rattle.named_columns.specs.Launched.{by_entry}
use Rattle.turn_lock.proofs.Grows.{own-entry, own-on, own-same, owns-at, owns-set, owns-same}
use Rattle.site_locks.specs.Sat.{Sat, seen_of}
use Rattle.site_locks.specs.Steps.{NotesOkd, SeesOkd, NotesProxy, SeesProxy, NotesPubd, SeesPubd, NotesLog, SeesLog}
use Rattle.named_columns.proofs.Stays.{Foreign, foreign}

all_foreign : {E : Type 0} (n : ℕ) (more : List (Entry E)) → of by_entry n more ≡ [] → AllForeign n more
all_foreign n [] none = tt
all_foreign n (e ∷ more) none = let f : Foreign n e more = foreign n e more none in (f.not_own, all_foreign n more f.rest)

-- others' entries are those that don't name the number
pub grows_foreign : {E : Type 0} (n : ℕ) (J K : List (Entry E)) → GrowsBy by_entry n J K → Grows n J K
grows_foreign n J K g = (g.0, all_foreign n g.0 g.1, g.2)

since_own : {E : Type 0} (n : ℕ) (J K : List (Entry E)) → GrowsBy by_entry n J K → Grows n (up_to_own by_entry n J) K
since_own n J K g = grows_foreign n (up_to_own by_entry n J) K (own-on by_entry n J K g)

pub at_okd : (s now : Sat) (event : OkdEvent) (before : List (Entry OkdEvent)) → NotesOkd event before s now → AtOkd s.number event (seen_of s) before (seen_of now)
at_okd s now event before h = (
  since_own s.number s.okd before h.grows,
  ap seen_of h.is ∙ ap (λ J. record (seen_of s) { okd = J; own = own.Okd event ∷ s.own }) (own-entry by_entry s.number (record { worker = s.number; event = event }) before refl),
)

pub okd_same : (s now : Sat) (before : List (Entry OkdEvent)) → SeesOkd before s now → seen_of now ≡ seen_of s
okd_same s now before h = ap seen_of h.is ∙ ap (λ J. record (seen_of s) { okd = J }) (own-same by_entry s.number s.okd before h.grows)

pub at_proxy : (s now : Sat) (p : ℕ) (event : ProxyEvent) (before : List (Entry ProxyEvent)) → NotesProxy p event before s now → AtProxy s.number p event (seen_of s) before (seen_of now)
at_proxy s now p event before h = (
  subst (λ J. Grows s.number J before) (sym (owns-at by_entry s.number p s.proxies)) (since_own s.number (get_or s.proxies p []) before h.grows),
  ap seen_of h.is ∙ ap (λ ps. record (seen_of s) { proxies = ps; own = own.Proxy p event ∷ s.own })
      (owns-set by_entry s.number p s.proxies (record { worker = s.number; event = event } ∷ before)
      ∙ ap (set (map (up_to_own by_entry s.number) s.proxies) p) (own-entry by_entry s.number (record { worker = s.number; event = event }) before refl)),
)

pub proxy_same : (s now : Sat) (p : ℕ) (before : List (Entry ProxyEvent)) → SeesProxy p before s now → seen_of now ≡ seen_of s
proxy_same s now p before h = ap seen_of h.is ∙ ap (λ ps. record (seen_of s) { proxies = ps }) (owns-same by_entry s.number p s.proxies before h.grows)

pub at_pubd : (s now : Sat) (event : PubdEvent) (before : List (Entry PubdEvent)) → NotesPubd event before s now → AtPubd s.number event (seen_of s) before (seen_of now)
at_pubd s now event before h = (
  since_own s.number s.pubd before h.grows,
  ap seen_of h.is ∙ ap (λ J. record (seen_of s) { pubd = J; own = own.Pubd event ∷ s.own }) (own-entry by_entry s.number (record { worker = s.number; event = event }) before refl),
)

pub pubd_same : (s now : Sat) (before : List (Entry PubdEvent)) → SeesPubd before s now → seen_of now ≡ seen_of s
pubd_same s now before h = ap seen_of h.is ∙ ap (λ J. record (seen_of s) { pubd = J }) (own-same by_entry s.number s.pubd before h.grows)

pub at_log : (s now : Sat) (event : LogEvent) (before : List (Entry LogEvent)) → NotesLog event before s now → AtLog s.number event (seen_of s) before (seen_of now)
at_log s now event before h = (
  since_own s.number s.oklogd before h.grows,
  ap seen_of h.is ∙ ap (λ J. record (seen_of s) { oklogd = J; own = own.Oklogd event ∷ s.own }) (own-entry by_entry s.number (record { worker = s.number; event = event }) before refl),
)

pub log_same : (s now : Sat) (before : List (Entry LogEvent)) → SeesLog before s now → seen_of now ≡ seen_of s
log_same s now before h = ap seen_of h.is ∙ ap (λ J. record (seen_of s) { oklogd = J }) (own-same by_entry s.number s.oklogd before h.grows)
