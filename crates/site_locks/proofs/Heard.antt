-- What was installed stays so, and what a note has seen is seen where it is met.
use Rattle.std.proofs.Common.{◌≡◌, ◌⊎◌, inl, inr, ◌∙◌, ℕ, zero, suc, ◌+◌, ◌<◌, ◌≤◌, List, [], ◌∷◌, ◌++◌, map, length, get_or, set, refl, sym, ap, subst, arith, append_assoc}
use Rattle.std.specs.Prelude.{take}
use Rattle.std.proofs.lemmas.Bool.{cases_lt}
use Rattle.std.proofs.lemmas.List.{get_or-set_same, length-map, length-set, map_push, take_more}
use Rattle.atomic_table.specs.Seated.{TableId}
use Rattle.okws_base.specs.Turns.{GrowsBy, Behind}
use Rattle.okws_base.specs.declared.journal.Entry.{Entry}
use Rattle.okws_plan.specs.declared.configuration.Config.{Config}
use Rattle.okws_plan.specs.declared.event.LogEvent.{LogEvent}
use Rattle.okws_plan.specs.declared.event.ProxyEvent.{ProxyEvent}
use Rattle.okws_plan.specs.declared.event.PubdEvent.{PubdEvent}
use Rattle.monitor_model.specs.Seen.{proxy_past}
use Rattle.monitor_model.specs.Standing.{log_grant, pubd_grant}
use Rattle.named_columns.specs.Launched.{by_entry}
use Rattle.turn_lock.specs.Seats.{NoteIs, SeatIs, TurnIs}
use Rattle.site_locks.specs.Heard.{AreBehind, AreInstalled, ColumnsBehind, ColumnsSeen, HasHeard, SeesColumns, SeesProxies, columns_of}
use Rattle.site_locks.specs.Sat.{Sat}
use Rattle.site_locks.specs.Steps.{EntersLog, EntersProxy, EntersPubd, SeesLog, SeesProxy, SeesPubd}
use Rattle.named_columns.specs.Turns.{Sees}
use Rattle.named_columns.proofs.Asked.{installed_behind, stood_behind}
use Rattle.site_locks.proofs.Rows.{lock_at}
use Rattle.site_locks.proofs.Seeing.{log_same, proxy_same, pubd_same}

-- what was installed stays so
pub installed_on : (C : Config) (s k : ℕ) (a b : ColumnsSeen) → ColumnsBehind a b → AreInstalled C s k a → AreInstalled C s k b
installed_on C s k a b on h = record {
  proxies = λ p lt. installed_behind C p s k (proxy_past a.proxies p) (proxy_past b.proxies p) (on.proxies p) (h.proxies p lt);
  pubd = stood_behind pubd_grant s k a.pubd b.pubd on.pubd h.pubd;
  oklogd = stood_behind log_grant s k a.oklogd b.oklogd on.oklogd h.oklogd;
}

-- pasts that go on
pub behind_same : {E : Type 0} (J : List E) → Behind J J
behind_same J = ([], refl)

pub behind_then : {E : Type 0} (I J K : List E) → Behind I J → Behind J K → Behind I K
behind_then I J K a b = (b.0 ++ a.0, b.1 ∙ ap (λ l. b.0 ++ l) a.1 ∙ sym (append_assoc b.0 a.0 I))

pub all_same : (Js Ks : List (List (Entry ProxyEvent))) → Ks ≡ Js → AreBehind Js Ks
all_same Js Ks is = λ p. subst (λ (l : List (List (Entry ProxyEvent))). Behind (proxy_past Js p) (proxy_past l p)) (sym is) (behind_same (proxy_past Js p))

pub all_then : (Is Js Ks : List (List (Entry ProxyEvent))) → AreBehind Is Js → AreBehind Js Ks → AreBehind Is Ks
all_then Is Js Ks a b = λ p. behind_then (proxy_past Is p) (proxy_past Js p) (proxy_past Ks p) (a p) (b p)

behind_set : (Js : List (List (Entry ProxyEvent))) (p : ℕ) (K : List (Entry ProxyEvent)) → Behind (get_or Js p []) K → (q : ℕ) → Behind (get_or Js q []) (get_or (set Js p K) q [])
behind_set [] p K b q = behind_same []
behind_set (J ∷ Js) zero K b zero = b
behind_set (J ∷ Js) zero K b (suc q) = behind_same (get_or Js q [])
behind_set (J ∷ Js) (suc p) K b zero = behind_same J
behind_set (J ∷ Js) (suc p) K b (suc q) = behind_set Js p K b q

pub enters_behind : (p : ℕ) (event : ProxyEvent) (before : List (Entry ProxyEvent)) (s now : Sat) → EntersProxy p event before s now → AreBehind s.proxies now.proxies
enters_behind p event before s now h =
    let e : Entry ProxyEvent = record { worker = s.number; event = event } in
    let on : Behind (proxy_past s.proxies p) (e ∷ before) = (e ∷ h.grows.0, ap (λ l. e ∷ l) h.grows.2) in
    λ q. subst (λ (x : Sat). Behind (proxy_past s.proxies q) (proxy_past x.proxies q)) (sym h.is) (behind_set s.proxies p (e ∷ before) on q)

pub sees_behind : (p : ℕ) (before : List (Entry ProxyEvent)) (s now : Sat) → SeesProxy p before s now → AreBehind s.proxies now.proxies
sees_behind p before s now h =
    λ q. subst (λ (x : Sat). Behind (proxy_past s.proxies q) (proxy_past x.proxies q)) (sym h.is) (behind_set s.proxies p before (h.grows.0, h.grows.2) q)

-- the past that was set is there
pub sees_there : (p : ℕ) (before : List (Entry ProxyEvent)) (s now : Sat) → p < length s.proxies → SeesProxy p before s now → proxy_past now.proxies p ≡ before
sees_there p before s now lt h = ap (λ (x : Sat). proxy_past x.proxies p) h.is ∙ get_or-set_same s.proxies p before [] lt

-- a number that saw more at one proxy after the other
pub sees_none : (s : Sat) → SeesProxies s s
sees_none s = record { is = refl; seen = refl; many = refl; behind = λ p. behind_same (proxy_past s.proxies p) }

pub sees_one : (p : ℕ) (before : List (Entry ProxyEvent)) (s mid now : Sat) → SeesProxies s mid → SeesProxy p before mid now → SeesProxies s now
sees_one p before s mid now a b = record {
  is = let there : now.proxies ≡ set mid.proxies p before = ap (λ (x : Sat). x.proxies) b.is in
      b.is ∙ ap (λ (x : Sat). record x { proxies = set mid.proxies p before }) a.is ∙ ap (λ (l : List (List (Entry ProxyEvent))). record s { proxies = l }) (sym there);
  seen = proxy_same mid now p before b ∙ a.seen;
  many = ap (λ (x : Sat). length x.proxies) b.is ∙ (length-set mid.proxies p before ∙ a.many);
  behind = all_then s.proxies mid.proxies now.proxies a.behind (sees_behind p before mid now b);
}

below_or_same : (q p : ℕ) → (q < p) ⊎ (p ≤ q) → q < p + 1 → (q < p) ⊎ (q ≡ p)
below_or_same q p (inl low) less = inl low
below_or_same q p (inr high) less = inr (omega (arith, high, less))

-- the notes of the first proxies were met: one more is
pub heard_one : (notes : List (List (Entry ProxyEvent))) (p : ℕ) (before : List (Entry ProxyEvent)) (mid now : Sat) → p < length mid.proxies → SeesProxy p before mid now → Behind (proxy_past notes p) before
    → ((q : ℕ) → q < p → Behind (proxy_past notes q) (proxy_past mid.proxies q)) → (q : ℕ) → q < p + 1 → Behind (proxy_past notes q) (proxy_past now.proxies q)
heard_one notes p before mid now lt h met rest q less = by (below_or_same q p (cases_lt q p) less) where
  by : (q < p) ⊎ (q ≡ p) → Behind (proxy_past notes q) (proxy_past now.proxies q)
  by (inl low) = behind_then (proxy_past notes q) (proxy_past mid.proxies q) (proxy_past now.proxies q) (rest q low) (sees_behind p before mid now h q)
  by (inr same) = subst (λ (i : ℕ). Behind (proxy_past notes i) (proxy_past now.proxies i)) (sym same) (subst (Behind (proxy_past notes p)) (sym (sees_there p before mid now lt h)) met)

-- all that the notes tell was installed
pub told_installed : (C : Config) (s k : ℕ) (notes a : ColumnsSeen) → HasHeard C notes a → AreInstalled C s k notes → AreInstalled C s k a
told_installed C s k notes a b h = record {
  proxies = λ p lt. installed_behind C p s k (proxy_past notes.proxies p) (proxy_past a.proxies p) (b.proxies p lt) (h.proxies p lt);
  pubd = stood_behind pubd_grant s k notes.pubd a.pubd b.pubd h.pubd;
  oklogd = stood_behind log_grant s k notes.oklogd a.oklogd b.oklogd h.oklogd;
}

-- what was seen of the columns is seen still
pub columns_same : (s now : Sat) → columns_of now ≡ columns_of s → ColumnsBehind (columns_of s) (columns_of now)
columns_same s now is = record {
  proxies = all_same s.proxies now.proxies (ap (λ (a : ColumnsSeen). a.proxies) is);
  pubd = subst (Behind s.pubd) (sym (ap (λ (a : ColumnsSeen). a.pubd) is)) (behind_same s.pubd);
  oklogd = subst (Behind s.oklogd) (sym (ap (λ (a : ColumnsSeen). a.oklogd) is)) (behind_same s.oklogd);
}

at_one_proxy : (s now : Sat) → AreBehind s.proxies now.proxies → now.pubd ≡ s.pubd → now.oklogd ≡ s.oklogd → ColumnsBehind (columns_of s) (columns_of now)
at_one_proxy s now on pubd oklogd = record { proxies = on; pubd = subst (Behind s.pubd) (sym pubd) (behind_same s.pubd); oklogd = subst (Behind s.oklogd) (sym oklogd) (behind_same s.oklogd) }

at_pubd_alone : (s now : Sat) → Behind s.pubd now.pubd → now.proxies ≡ s.proxies → now.oklogd ≡ s.oklogd → ColumnsBehind (columns_of s) (columns_of now)
at_pubd_alone s now on proxies oklogd = record { proxies = all_same s.proxies now.proxies proxies; pubd = on; oklogd = subst (Behind s.oklogd) (sym oklogd) (behind_same s.oklogd) }

at_log_alone : (s now : Sat) → Behind s.oklogd now.oklogd → now.proxies ≡ s.proxies → now.pubd ≡ s.pubd → ColumnsBehind (columns_of s) (columns_of now)
at_log_alone s now on proxies pubd = record { proxies = all_same s.proxies now.proxies proxies; pubd = subst (Behind s.pubd) (sym pubd) (behind_same s.pubd); oklogd = on }

pub proxy_entered_behind : (p : ℕ) (event : ProxyEvent) (before : List (Entry ProxyEvent)) (s now : Sat) → EntersProxy p event before s now → ColumnsBehind (columns_of s) (columns_of now)
proxy_entered_behind p event before s now h = at_one_proxy s now (enters_behind p event before s now h) (ap (λ (x : Sat). x.pubd) h.is) (ap (λ (x : Sat). x.oklogd) h.is)

pub proxy_seen_behind : (p : ℕ) (before : List (Entry ProxyEvent)) (s now : Sat) → SeesProxy p before s now → ColumnsBehind (columns_of s) (columns_of now)
proxy_seen_behind p before s now h = at_one_proxy s now (sees_behind p before s now h) (ap (λ (x : Sat). x.pubd) h.is) (ap (λ (x : Sat). x.oklogd) h.is)

pub pubd_entered_behind : (event : PubdEvent) (before : List (Entry PubdEvent)) (s now : Sat) → EntersPubd event before s now → ColumnsBehind (columns_of s) (columns_of now)
pubd_entered_behind event before s now h =
    let e : Entry PubdEvent = record { worker = s.number; event = event } in
    at_pubd_alone s now (subst (Behind s.pubd) (sym (ap (λ (x : Sat). x.pubd) h.is)) (e ∷ h.grows.0, ap (λ l. e ∷ l) h.grows.2)) (ap (λ (x : Sat). x.proxies) h.is) (ap (λ (x : Sat). x.oklogd) h.is)

pub pubd_seen_behind : (before : List (Entry PubdEvent)) (s now : Sat) → SeesPubd before s now → ColumnsBehind (columns_of s) (columns_of now)
pubd_seen_behind before s now h = at_pubd_alone s now (subst (Behind s.pubd) (sym (ap (λ (x : Sat). x.pubd) h.is)) (h.grows.0, h.grows.2)) (ap (λ (x : Sat). x.proxies) h.is) (ap (λ (x : Sat). x.oklogd) h.is)

pub log_entered_behind : (event : LogEvent) (before : List (Entry LogEvent)) (s now : Sat) → EntersLog event before s now → ColumnsBehind (columns_of s) (columns_of now)
log_entered_behind event before s now h =
    let e : Entry LogEvent = record { worker = s.number; event = event } in
    at_log_alone s now (subst (Behind s.oklogd) (sym (ap (λ (x : Sat). x.oklogd) h.is)) (e ∷ h.grows.0, ap (λ l. e ∷ l) h.grows.2)) (ap (λ (x : Sat). x.proxies) h.is) (ap (λ (x : Sat). x.pubd) h.is)

pub log_seen_behind : (before : List (Entry LogEvent)) (s now : Sat) → SeesLog before s now → ColumnsBehind (columns_of s) (columns_of now)
log_seen_behind before s now h = at_log_alone s now (subst (Behind s.oklogd) (sym (ap (λ (x : Sat). x.oklogd) h.is)) (h.grows.0, h.grows.2)) (ap (λ (x : Sat). x.proxies) h.is) (ap (λ (x : Sat). x.pubd) h.is)

-- a number that took in notes of the proxies, of pubd and of oklogd
pub sees_columns : (s a b now : Sat) → SeesProxies s a → SeesPubd b.pubd a b → SeesLog now.oklogd b now → SeesColumns s now
sees_columns s a b now ps pubd log =
    let proxies : now.proxies ≡ a.proxies = ap (λ (x : Sat). x.proxies) log.is ∙ ap (λ (x : Sat). x.proxies) pubd.is in
    let same : now.pubd ≡ b.pubd = ap (λ (x : Sat). x.pubd) log.is in
    let before : b.oklogd ≡ s.oklogd = ap (λ (x : Sat). x.oklogd) pubd.is ∙ ap (λ (x : Sat). x.oklogd) ps.is in
    let first : a.pubd ≡ s.pubd = ap (λ (x : Sat). x.pubd) ps.is in
    record {
      is = log.is ∙ (ap (λ (x : Sat). record x { oklogd = now.oklogd }) pubd.is ∙ (ap (λ (x : Sat). record x { pubd = b.pubd; oklogd = now.oklogd }) ps.is
          ∙ (ap (λ (l : List (List (Entry ProxyEvent))). record s { proxies = l; pubd = b.pubd; oklogd = now.oklogd }) (sym proxies)
          ∙ ap (λ (l : List (Entry PubdEvent)). record s { proxies = now.proxies; pubd = l; oklogd = now.oklogd }) (sym same))));
      seen = log_same b now now.oklogd log ∙ (pubd_same a b b.pubd pubd ∙ ps.seen);
      behind = record {
        proxies = subst (AreBehind s.proxies) (sym proxies) ps.behind;
        pubd = subst (λ J. Behind J now.pubd) first (subst (Behind a.pubd) (sym same) (pubd.grows.0, pubd.grows.2));
        oklogd = subst (λ J. Behind J now.oklogd) before (log.grows.0, log.grows.2);
      };
    }

pub has_heard : (C : Config) (notes : ColumnsSeen) (a b now : Sat) → SeesPubd b.pubd a b → SeesLog now.oklogd b now → ((p : ℕ) → p < length C.proxies → Behind (proxy_past notes.proxies p) (proxy_past a.proxies p)) → Behind notes.pubd b.pubd → Behind notes.oklogd now.oklogd
    → HasHeard C notes (columns_of now)
has_heard C notes a b now pubd log told told_pubd told_log = record {
  proxies = λ p lt. subst (λ (l : List (List (Entry ProxyEvent))). Behind (proxy_past notes.proxies p) (proxy_past l p)) (sym (ap (λ (x : Sat). x.proxies) log.is ∙ ap (λ (x : Sat). x.proxies) pubd.is)) (told p lt);
  pubd = subst (Behind notes.pubd) (sym (ap (λ (x : Sat). x.pubd) log.is)) told_pubd;
  oklogd = told_log;
}

-- notes at the locks of a row
module _ {E : Type 0} where
  pub notes_many : (ns : List (NoteIs E)) (ts : List TurnIs) → map (λ (a : NoteIs E). a.lock) ns ≡ map (λ (t : TurnIs). t.id) ts → length ns ≡ length ts
  notes_many ns ts is = sym (length-map ns (λ (a : NoteIs E). a.lock)) ∙ (ap length is ∙ length-map ts (λ (t : TurnIs). t.id))

  pub note_at : (ns : List (NoteIs E)) (ts : List TurnIs) (i : ℕ) (n : NoteIs E) (t : TurnIs) → map (λ (a : NoteIs E). a.lock) ns ≡ map (λ (t : TurnIs). t.id) ts → i < length ts → n ≡ get_or ns i n → t ≡ get_or ts i t → n.lock ≡ t.id
  note_at ns ts i n t is lt e f =
      let many : length ns ≡ length ts = notes_many ns ts is in
      sym (lock_at (λ (a : NoteIs E). a.lock) n.lock ns i n (omega (arith, lt, many)) e) ∙ (ap (λ (l : List TableId). get_or l i n.lock) is ∙ lock_at (λ (t : TurnIs). t.id) n.lock ts i t lt f)

  -- a note that is the same again
  pub note_kept : (ns : List (NoteIs E)) (i : ℕ) (n now : NoteIs E) → i < length ns → n ≡ get_or ns i n → now ≡ n → set ns i now ≡ ns
  note_kept [] i n now lt e is = refl
  note_kept (x ∷ ns) zero n now lt e is = ap (λ (y : NoteIs E). y ∷ ns) (is ∙ e)
  note_kept (x ∷ ns) (suc i) n now lt e is = ap (λ (l : List (NoteIs E)). x ∷ l) (note_kept ns i n now (omega (arith, lt)) e is)

  pub note_seen : (ns : List (NoteIs E)) (i : ℕ) (n : NoteIs E) → i < length ns → n ≡ get_or ns i n → get_or (map (λ (a : NoteIs E). a.seen) ns) i [] ≡ n.seen
  note_seen [] i n lt e = absurd (omega (arith, lt))
  note_seen (x ∷ ns) zero n lt e = ap (λ (a : NoteIs E). a.seen) (sym e)
  note_seen (x ∷ ns) (suc i) n lt e = note_seen ns i n (omega (arith, lt)) e

-- the first so many and one more
pub map_taken : {A B : Type 0} (f : A → B) (xs now : List A) (x : A) (zs : List B) (i : ℕ) → now ≡ xs ++ x ∷ [] → map f xs ≡ take i zs → f x ≡ get_or zs i (f x) → i < length zs → map f now ≡ take (i + 1) zs
map_taken f xs now x zs i is taken at lt =
    ap (map f) is ∙ (map_push f xs x ∙ (ap (λ l. l ++ f x ∷ []) taken ∙ (ap (λ y. take i zs ++ y ∷ []) at ∙ sym (take_more zs i (f x) lt))))

-- within a list it is one which other value stands behind it
pub get_same : {A : Type 0} (xs : List (List A)) (i : ℕ) (d : List A) → i < length xs → get_or xs i [] ≡ get_or xs i d
get_same [] i d lt = absurd (omega (arith, lt))
get_same (x ∷ xs) zero d lt = refl
get_same (x ∷ xs) (suc i) d lt = get_same xs i d (omega (arith, lt))

-- a seat that is the same again
pub seat_kept : {E : Type 0} (cs : List (SeatIs E)) (i : ℕ) (c now : SeatIs E) → i < length cs → c ≡ get_or cs i c → now ≡ c → set cs i now ≡ cs
seat_kept [] i c now lt e is = refl
seat_kept (x ∷ cs) zero c now lt e is = ap (λ y. y ∷ cs) (is ∙ e)
seat_kept (x ∷ cs) (suc i) c now lt e is = ap (λ l. x ∷ l) (seat_kept cs i c now (omega (arith, lt)) e is)

-- a seat that met a note saw what others had entered
pub met_sees : {E : Type 0} (a d : SeatIs (Entry E)) → d ≡ record a { seen = d.seen } → GrowsBy by_entry a.number a.seen d.seen → Sees d.seen a d
met_sees a d is grows = record { grows = grows; is = is }
