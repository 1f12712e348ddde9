-- A worker that took turns at the launcher before it did anything else lived by these.
use Rattle.std.proofs.Common.{◌≡◌, inl, inr, ℕ, ◌==◌, Bool, true, false, cond, List, [], ◌∷◌, ◌++◌, length, map, filter_map, refl, sym, ap, ◌∙◌, subst, eqb-true, Option, Some, None}
use Rattle.std.specs.List.{list_all}
use Rattle.okws_base.specs.Past.{events_of}
use Rattle.okws_base.specs.Turns.{up_to_own}
use Rattle.okws_base.specs.declared.journal.Entry.{Entry}
use Rattle.okws_plan.specs.declared.configuration.Config.{Config}
use Rattle.okws_plan.specs.declared.event.LauncherEvent.{LauncherEvent}
use Rattle.monitor_model.specs.declared.record.CellEvent.{CellEvent}
use Rattle.monitor_model.specs.declared.record.Own.{Own}
use Rattle.monitor_model.specs.declared.record.Own.TheVariants as own
use Rattle.monitor_model.specs.Cell.{dialogs_of}
use Rattle.monitor_model.specs.Merged.{launcher_item}
use Rattle.monitor_model.specs.Seen.{Seen}
use Rattle.monitor_model.specs.Worker.{Piece, Launched, Wants, nothing_seen}
use Rattle.worker_lives.specs.Beginning.{IsOfTurn, turned_alone}
use Rattle.worker_lives.specs.Going.{GoesOn, cell_seen}
use Rattle.worker_lives.specs.Leading.{Leads, spoken_in}
use Rattle.worker_lives.specs.Listing.{are_told, first_item}
use Rattle.worker_lives.proofs.Found.{both_true}
use Rattle.worker_lives.proofs.Others.{grows_from_own}

-- ---- what was seen up to the own last entry

-- none of one's own
none_own : (w : ℕ) (J : List (Entry LauncherEvent)) → events_of w J ≡ [] → up_to_own (λ (e : Entry LauncherEvent). e.worker) w J ≡ []
none_own w [] is = refl
none_own w (e ∷ J) is = at (e.worker == w) refl is (none_own w J)
  where
    at : (b : Bool) → (e.worker == w) ≡ b → events_of w (e ∷ J) ≡ [] → (events_of w J ≡ [] → up_to_own (λ (x : Entry LauncherEvent). x.worker) w J ≡ []) → cond b (e ∷ J) (up_to_own (λ (x : Entry LauncherEvent). x.worker) w J) ≡ []
    at true mine is rest = let bad : e.event ∷ events_of w J ≡ [] = sym (own_first mine) ∙ is in let never : ⊥ = cc in absurd never
      where
        own_first : (e.worker == w) ≡ true → events_of w (e ∷ J) ≡ e.event ∷ events_of w J
        own_first m = rw (m) refl
    at false other is rest = rest (sym (others_first other) ∙ is)
      where
        others_first : (e.worker == w) ≡ false → events_of w (e ∷ J) ≡ events_of w J
        others_first m = rw (m) refl

-- the own last one, and what stood before it
record LastOwn (w : ℕ) (event : LauncherEvent) (events : List LauncherEvent) (J : List (Entry LauncherEvent)) : Type 0 where
  before : List (Entry LauncherEvent)
  up_to : up_to_own (λ (e : Entry LauncherEvent). e.worker) w J ≡ record { worker = w; event = event } ∷ before
  rest : events_of w before ≡ events

heads : (a b : LauncherEvent) (xs ys : List LauncherEvent) → a ∷ xs ≡ b ∷ ys → (a ≡ b) × (xs ≡ ys)
heads a b xs ys is = (ap (λ (zs : List LauncherEvent). first a zs) is, ap (λ (zs : List LauncherEvent). others zs) is)
  where
    first : LauncherEvent → List LauncherEvent → LauncherEvent
    first d [] = d
    first d (z ∷ zs) = z

    others : List LauncherEvent → List LauncherEvent
    others [] = []
    others (z ∷ zs) = zs

last_own : (w : ℕ) (event : LauncherEvent) (events : List LauncherEvent) (J : List (Entry LauncherEvent)) → events_of w J ≡ event ∷ events → LastOwn w event events J
last_own w event events [] is = let bad : [] ≡ event ∷ events = is in let never : ⊥ = cc in absurd never
last_own w event events (e ∷ J) is = at (e.worker == w) refl (last_own w event events J)
  where
    mine_first : (e.worker == w) ≡ true → events_of w (e ∷ J) ≡ e.event ∷ events_of w J
    mine_first m = rw (m) refl

    others_first : (e.worker == w) ≡ false → events_of w (e ∷ J) ≡ events_of w J
    others_first m = rw (m) refl

    up_mine : (e.worker == w) ≡ true → up_to_own (λ (x : Entry LauncherEvent). x.worker) w (e ∷ J) ≡ e ∷ J
    up_mine m = rw (m) refl

    up_others : (e.worker == w) ≡ false → up_to_own (λ (x : Entry LauncherEvent). x.worker) w (e ∷ J) ≡ up_to_own (λ (x : Entry LauncherEvent). x.worker) w J
    up_others m = rw (m) refl

    at : (b : Bool) → (e.worker == w) ≡ b → (events_of w J ≡ event ∷ events → LastOwn w event events J) → LastOwn w event events (e ∷ J)
    at true mine rest =
        let both : (e.event ≡ event) × (events_of w J ≡ events) = heads e.event event (events_of w J) events (sym (mine_first mine) ∙ is) in
        let whose : e.worker ≡ w = eqb-true e.worker w mine in
        let it : e ≡ record { worker = w; event = event }
        = ap (λ (v : ℕ). record { worker = v; event = e.event }) whose ∙ ap (λ (x : LauncherEvent). record { worker = w; event = x }) both.0 in
        record { before = J; up_to = up_mine mine ∙ ap (λ (x : Entry LauncherEvent). x ∷ J) it; rest = both.1 }
    at false other rest =
        let it : LastOwn w event events J = rest (sym (others_first other) ∙ is) in
        record { before = it.before; up_to = up_others other ∙ it.up_to; rest = it.rest }

-- ---- the pieces

-- the piece that begins with such an item
abbrev pub to_piece : Own → Piece
to_piece (own.Launcher event) = Launched event
to_piece _ = Wants

-- what was seen then
abbrev alone : ℕ → List Own → List (Entry LauncherEvent) → Seen
alone m items launcher = record (nothing_seen m) { own = items; launcher = launcher }

leads_alone : (passes : Own → Bool) → ((item : Own) → passes item ≡ true → IsOfTurn item) → (C : Config) (w m : ℕ) (items : List Own) (seen : List (Entry LauncherEvent)) → list_all passes items ≡ true
    → events_of w seen ≡ filter_map launcher_item items → Leads C w (map to_piece items) (nothing_seen m) (alone m items (up_to_own (λ (e : Entry LauncherEvent). e.worker) w seen))
leads_alone passes turns C w m [] seen all is = ap (λ (L : List (Entry LauncherEvent)). alone m [] L) (none_own w seen is)
leads_alone passes turns C w m (item ∷ items) seen all is =
    let both : (passes item ≡ true) × (list_all passes items ≡ true) = both_true (passes item) (list_all passes items) all in
    at (turns item both.0) (λ (J : List (Entry LauncherEvent)). leads_alone passes turns C w m items J both.1)
  where
    at : IsOfTurn item
        → ((J : List (Entry LauncherEvent)) → events_of w J ≡ filter_map launcher_item items → Leads C w (map to_piece items) (nothing_seen m) (alone m items (up_to_own (λ (e : Entry LauncherEvent). e.worker) w J)))
        → Leads C w (map to_piece (item ∷ items)) (nothing_seen m) (alone m (item ∷ items) (up_to_own (λ (e : Entry LauncherEvent). e.worker) w seen))
    at (inl want) before =
        let events : events_of w seen ≡ filter_map launcher_item items = is ∙ ap (λ (x : Own). filter_map launcher_item (x ∷ items)) want in
        subst (λ (x : Own). Leads C w (map to_piece (x ∷ items)) (nothing_seen m) (alone m (x ∷ items) (up_to_own (λ (e : Entry LauncherEvent). e.worker) w seen))) (sym want)
        (alone m items (up_to_own (λ (e : Entry LauncherEvent). e.worker) w seen), before seen events, refl)
    at (inr turn) before =
        let events : events_of w seen ≡ turn.0 ∷ filter_map launcher_item items = is ∙ ap (λ (x : Own). filter_map launcher_item (x ∷ items)) turn.1 in
        let last : LastOwn w turn.0 (filter_map launcher_item items) seen = last_own w turn.0 (filter_map launcher_item items) seen events in
        subst (λ (x : Own). Leads C w (map to_piece (x ∷ items)) (nothing_seen m) (alone m (x ∷ items) (up_to_own (λ (e : Entry LauncherEvent). e.worker) w seen))) (sym turn.1) (
          alone m items (up_to_own (λ (e : Entry LauncherEvent). e.worker) w last.before),
          before last.before last.rest,
          (
            last.before,
            (grows_from_own w last.before, ap (λ (L : List (Entry LauncherEvent)). alone m (own.Launcher turn.0 ∷ items) L) last.up_to),
          ),
        )

none_spoken : (s : ℕ) (items : List Own) → spoken_in s (map to_piece items) ≡ []
none_spoken s [] = refl
none_spoken s (own.Launcher e ∷ items) = none_spoken s items
none_spoken s (own.Okd e ∷ items) = none_spoken s items
none_spoken s (own.Proxy p e ∷ items) = none_spoken s items
none_spoken s (own.Pubd e ∷ items) = none_spoken s items
none_spoken s (own.Oklogd e ∷ items) = none_spoken s items
none_spoken s (own.Dialog t ∷ items) = none_spoken s items
none_spoken s (own.Missed t wanted is ∷ items) = none_spoken s items
none_spoken s (own.NoMemory ∷ items) = none_spoken s items
none_spoken s (own.Boot t k ∷ items) = none_spoken s items
none_spoken s (own.Retired t ∷ items) = none_spoken s items

all_told : (next : Option Piece) (items : List Own) → are_told next (map to_piece items) ≡ true
all_told next [] = refl
all_told next (own.Launcher e ∷ items) = all_told (Some (Launched e)) items
all_told next (own.Okd e ∷ items) = all_told (Some Wants) items
all_told next (own.Proxy p e ∷ items) = all_told (Some Wants) items
all_told next (own.Pubd e ∷ items) = all_told (Some Wants) items
all_told next (own.Oklogd e ∷ items) = all_told (Some Wants) items
all_told next (own.Dialog t ∷ items) = all_told (Some Wants) items
all_told next (own.Missed t wanted is ∷ items) = all_told (Some Wants) items
all_told next (own.NoMemory ∷ items) = all_told (Some Wants) items
all_told next (own.Boot t k ∷ items) = all_told (Some Wants) items
all_told next (own.Retired t ∷ items) = all_told (Some Wants) items

back_again : (item : Own) → IsOfTurn item → first_item (to_piece item) ≡ item
back_again item (inl want) = ap (λ (x : Own). first_item (to_piece x)) want ∙ sym want
back_again item (inr turn) = ap (λ (x : Own). first_item (to_piece x)) turn.1 ∙ sym turn.1

all_back : (passes : Own → Bool) → ((item : Own) → passes item ≡ true → IsOfTurn item) → (items : List Own) → list_all passes items ≡ true → map first_item (map to_piece items) ≡ items
all_back passes turns [] all = refl
all_back passes turns (item ∷ items) all =
    let both : (passes item ≡ true) × (list_all passes items ≡ true) = both_true (passes item) (list_all passes items) all in
    ap (λ (x : Own). x ∷ map first_item (map to_piece items)) (back_again item (turns item both.0)) ∙ ap (λ (rest : List Own). item ∷ rest) (all_back passes turns items both.1)

pub turns_alone_are_lives : (passes : Own → Bool) (C : Config) (w : ℕ) (items : List Own) (seen : List (Entry LauncherEvent)) (cells : List (List CellEvent)) → ((item : Own) → passes item ≡ true → IsOfTurn item)
    → list_all passes items ≡ true → events_of w seen ≡ filter_map launcher_item items
    → (pieces : List Piece) × GoesOn C w pieces (turned_alone (length C.proxies) [] [] cells) (turned_alone (length C.proxies) items seen cells) × (map first_item pieces ≡ items) × (are_told None pieces ≡ true)
turns_alone_are_lives passes C w items seen cells turns all is = (
  map to_piece items,
  record {
    leads = leads_alone passes turns C w (length C.proxies) items seen all is;
    dialogs = λ s. ap (λ (first : _). first ++ dialogs_of w (cell_seen (turned_alone (length C.proxies) [] [] cells) s)) (sym (none_spoken s items));
  },
  all_back passes turns items all,
  all_told None items,
)
