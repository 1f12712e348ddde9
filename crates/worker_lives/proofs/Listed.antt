-- The pieces of a worker's list say what stands in it.
use Rattle.std.proofs.Common.{◌≡◌, ℕ, Bool, true, false, List, [], ◌∷◌, ◌++◌, refl, sym, ap, ◌∙◌, subst, length, map, filter_map, Option, None, inl, inr}
use Rattle.std.proofs.lemmas.List.Elements.{filter_map-append}
use Rattle.std.proofs.lemmas.List.Folds.{list_any-append}
use Rattle.std.specs.List.{list_all, list_any}
use Rattle.std.specs.Prelude.{◌||◌}
use Rattle.okws_base.specs.Runs.{Each}
use Rattle.okws_plan.specs.declared.configuration.Config.{Config}
use Rattle.okws_plan.specs.declared.event.LauncherEvent.{LauncherEvent}
use Rattle.okws_plan.specs.declared.event.OkdEvent.TheVariants as okd
use Rattle.okws_plan.specs.declared.event.PubdEvent.{PubdEvent}
use Rattle.okws_plan.specs.declared.event.PubdEvent.TheVariants as pubd
use Rattle.monitor_model.specs.declared.record.Own.{Own}
use Rattle.monitor_model.specs.declared.record.Own.TheVariants as own
use Rattle.monitor_model.specs.declared.record.Record.{Record}
use Rattle.monitor_model.specs.declared.verdict.Way.{Way}
use Rattle.monitor_model.specs.declared.verdict.Way.TheVariants as way
use Rattle.monitor_model.specs.Connections.{Visit, AreVisits}
use Rattle.monitor_model.specs.Connections as visit
use Rattle.monitor_model.specs.Okd.{accept_verdict}
use Rattle.monitor_model.specs.Outside.{item_order}
use Rattle.monitor_model.specs.Pieces.{is_accept_item, is_entry_of, is_ordered}
use Rattle.monitor_model.specs.Seen.{Seen}
use Rattle.monitor_model.specs.Tied.{piece_visit, piece_visits}
use Rattle.monitor_model.specs.Worker.{Outcome, Unowned, IsDown, IsMissed, WantsMemory, Spoke, Piece, Accepted, Published, Launched, Wants, WentTo, Follows, IsPiece, Lives, IsWorker}
use Rattle.monitor_model.proofs.Lives.{Kept, lives_kept, went_of}
use Rattle.monitor_model.proofs.Went.{Steps, Went, okd_steps}
use Rattle.worker_lives.specs.Listing.{first_item}
use Rattle.worker_lives.proofs.Found.{joined, both_true}

-- ---- the items of a piece behind its first

-- the event may stand in a dialog
abbrev pub is_pubd_extra : PubdEvent → Bool
is_pubd_extra (pubd.Install t k) = false
is_pubd_extra (pubd.Revoke t k) = false
is_pubd_extra (pubd.Publish t content) = false
is_pubd_extra (pubd.Drain t k) = true
is_pubd_extra (pubd.Get t k name) = true

-- the item may stand in a piece behind the first one
abbrev pub is_extra : Own → Bool
is_extra (own.Proxy p e) = true
is_extra (own.Pubd e) = is_pubd_extra e
is_extra (own.Oklogd e) = true
is_extra (own.Dialog s) = true
is_extra (own.Missed s wanted is) = true
is_extra own.NoMemory = true
is_extra (own.Okd e) = false
is_extra (own.Launcher e) = false
is_extra (own.Boot s k) = false
is_extra (own.Retired s) = false

entry_is_extra : (s : ℕ) (item : Own) → is_entry_of s item ≡ true → is_extra item ≡ true
entry_is_extra s (own.Proxy p e) is = refl
entry_is_extra s (own.Pubd (pubd.Install t k)) is = is
entry_is_extra s (own.Pubd (pubd.Revoke t k)) is = is
entry_is_extra s (own.Pubd (pubd.Publish t content)) is = is
entry_is_extra s (own.Pubd (pubd.Drain t k)) is = refl
entry_is_extra s (own.Pubd (pubd.Get t k name)) is = refl
entry_is_extra s (own.Oklogd e) is = refl
entry_is_extra s (own.Okd e) is = is
entry_is_extra s (own.Launcher e) is = is
entry_is_extra s (own.Dialog t) is = refl
entry_is_extra s (own.Missed t wanted other) is = refl
entry_is_extra s own.NoMemory is = refl
entry_is_extra s (own.Boot t k) is = is
entry_is_extra s (own.Retired t) is = is

-- each of these may
abbrev pub AllExtra : List Own → Type 0
AllExtra items = Each (λ (item : Own). is_extra item ≡ true) items

entries_are_extra : (s : ℕ) (taken items : List Own) → list_all (is_entry_of s) taken ≡ true → AllExtra items → AllExtra (taken ++ items)
entries_are_extra s [] items entries rest = rest
entries_are_extra s (item ∷ taken) items entries rest =
    let both : (is_entry_of s item ≡ true) × (list_all (is_entry_of s) taken ≡ true) = both_true (is_entry_of s item) (list_all (is_entry_of s) taken) entries in
    (entry_is_extra s item both.0, entries_are_extra s taken items both.1 rest)

-- a piece adds its first item, and such items behind it
pub record Adds (first : Own) (mid now : Seen) : Type 0 where
  pub behind : List Own
  pub own_is : now.own ≡ behind ++ first ∷ mid.own
  pub extra : AllExtra behind

own_of : (J K : Seen) → J ≡ K → J.own ≡ K.own
own_of J K is = ap (λ (x : Seen). x.own) is

one_more : (first item : Own) (mid S now : Seen) → S.own ≡ first ∷ mid.own → now.own ≡ item ∷ S.own → is_extra item ≡ true → Adds first mid now
one_more first item mid S now own_is more_is extra =
    record { behind = item ∷ []; own_is = more_is ∙ ap (λ (items : List Own). item ∷ items) own_is; extra = (extra, tt) }

none_more : (first : Own) (mid now : Seen) → now.own ≡ first ∷ mid.own → Adds first mid now
none_more first mid now own_is = record { behind = []; own_is = own_is; extra = tt }

to_adds : (C : Config) (R : Record) (w s k : ℕ) (head content : List ℕ) (first : Own) (mid S : Seen) (outcome : Outcome) (now : Seen) → Kept C w S → S.own ≡ first ∷ mid.own
    → WentTo C R w s k head content S outcome now → Adds first mid now
to_adds C R w s k head content first mid S Unowned now kept own_is f = absurd f
to_adds C R w s k head content first mid S IsDown now kept own_is f = absurd f
to_adds C R w s k head content first mid S IsMissed now kept own_is f = one_more first (own.Missed s k f.0) mid S now own_is (own_of now _ f.1) refl
to_adds C R w s k head content first mid S WantsMemory now kept own_is f = one_more first own.NoMemory mid S now own_is (own_of now _ f) refl
to_adds C R w s k head content first mid S (Spoke t j d) now kept own_is f =
    let went : Went C (record { worker = w; service = s; incarnation = k }) _ now = went_of C w s k f.3 f.4 d.due head content S now d kept.owns f.5 in
    record {
      behind = went.taken ++ own.Dialog s ∷ [];
      own_is = went.taken_is ∙ ap (λ (items : List Own). went.taken ++ own.Dialog s ∷ items) own_is ∙ joined went.taken (own.Dialog s ∷ []) (first ∷ mid.own);
      extra = entries_are_extra s went.taken (own.Dialog s ∷ []) went.entries (refl, tt);
    }

follows_adds : (C : Config) (R : Record) (w : ℕ) (v : Way) (head content : List ℕ) (first : Own) (mid S : Seen) (outcome : Outcome) (now : Seen) → Kept C w S → S.own ≡ first ∷ mid.own
    → Follows C R w v head content S outcome now → Adds first mid now
follows_adds C R w way.NotOwned head content first mid S outcome now kept own_is f = none_more first mid now (own_of now S f.1 ∙ own_is)
follows_adds C R w (way.Down s) head content first mid S outcome now kept own_is f = none_more first mid now (own_of now S f.1 ∙ own_is)
follows_adds C R w (way.To s k) head content first mid S outcome now kept own_is f = to_adds C R w s k head content first mid S outcome now kept own_is f

pub piece_adds : (C : Config) (R : Record) (w : ℕ) (piece : Piece) (mid now : Seen) → Kept C w mid → IsPiece C R w piece mid now → Adds (first_item piece) mid now
piece_adds C R w (Accepted path head content outcome) mid now kept f =
    let first : Steps (length C.proxies) w mid f.1 = okd_steps (length C.proxies) w (okd.Accept path) mid f.0 f.1 f.2 in
    let then : Kept C w f.1 = record { owns = first.owns kept.owns; trimmed = first.trimmed kept.trimmed } in
    follows_adds C R w (accept_verdict C f.0 path) head content (own.Okd (okd.Accept path)) mid f.1 outcome now then (own_of f.1 _ f.2.1) f.3
piece_adds C R w (Published t content) mid now kept f = none_more (own.Pubd (pubd.Publish t content)) mid now (own_of now _ f.1.1)
piece_adds C R w (Launched event) mid now kept f = none_more (own.Launcher event) mid now (own_of now _ f.1.1)
piece_adds C R w Wants mid now kept f = none_more own.NoMemory mid now (own_of now _ f)

-- ---- what is asked of the first items alone

extra_filter : {X : Type 0} (f : Own → Option X) → ((item : Own) → is_extra item ≡ true → f item ≡ None) → (items : List Own) → AllExtra items → filter_map f items ≡ []
extra_filter f passes [] rest = refl
extra_filter f passes (item ∷ items) rest = rw (passes item rest.0) (extra_filter f passes items rest.1)

filters : {X : Type 0} (f : Own → Option X) → ((item : Own) → is_extra item ≡ true → f item ≡ None) → (C : Config) (R : Record) (w : ℕ) → length R.proxies ≡ length C.proxies
    → (pieces : List Piece) (now : Seen) → Lives C R w pieces now → filter_map f now.own ≡ filter_map (λ (piece : Piece). f (first_item piece)) pieces
filters f passes C R w many [] now l = ap (λ (x : Seen). filter_map f x.own) l
filters {X} f passes C R w many (piece ∷ pieces) now l =
    let adds : Adds (first_item piece) l.0 now = piece_adds C R w piece l.0 now (lives_kept C R w many pieces l.0 l.1) l.2 in
    ap (filter_map f) adds.own_is
    ∙ filter_map-append f adds.behind (first_item piece ∷ l.0.own)
    ∙ ap (λ (xs : List X). xs ++ filter_map f (first_item piece ∷ l.0.own)) (extra_filter f passes adds.behind adds.extra)
    ∙ filter_map-append f (first_item piece ∷ []) l.0.own
    ∙ ap (λ (xs : List X). filter_map f (first_item piece ∷ []) ++ xs) (filters f passes C R w many pieces l.0 l.1)
    ∙ sym (filter_map-append (λ (p : Piece). f (first_item p)) (piece ∷ []) pieces)

extra_any : (p : Own → Bool) → ((item : Own) → is_extra item ≡ true → p item ≡ false) → (items : List Own) → AllExtra items → list_any p items ≡ false
extra_any p passes [] rest = refl
extra_any p passes (item ∷ items) rest = rw (passes item rest.0) (extra_any p passes items rest.1)

anys : (p : Own → Bool) → ((item : Own) → is_extra item ≡ true → p item ≡ false) → (C : Config) (R : Record) (w : ℕ) → length R.proxies ≡ length C.proxies
    → (pieces : List Piece) (now : Seen) → Lives C R w pieces now → list_any p now.own ≡ list_any (λ (piece : Piece). p (first_item piece)) pieces
anys p passes C R w many [] now l = ap (λ (x : Seen). list_any p x.own) l
anys p passes C R w many (piece ∷ pieces) now l =
    let adds : Adds (first_item piece) l.0 now = piece_adds C R w piece l.0 now (lives_kept C R w many pieces l.0 l.1) l.2 in
    ap (list_any p) adds.own_is
    ∙ list_any-append p adds.behind (first_item piece ∷ l.0.own)
    ∙ ap (λ (b : Bool). b || list_any p (first_item piece ∷ l.0.own)) (extra_any p passes adds.behind adds.extra)
    ∙ ap (λ (b : Bool). p (first_item piece) || b) (anys p passes C R w many pieces l.0 l.1)

extra_orders : (item : Own) → is_extra item ≡ true → item_order item ≡ None
extra_orders (own.Proxy p e) is = refl
extra_orders (own.Pubd (pubd.Install t k)) is = refl
extra_orders (own.Pubd (pubd.Revoke t k)) is = refl
extra_orders (own.Pubd (pubd.Publish t content)) is = let bad : false ≡ true = is in let never : ⊥ = cc in absurd never
extra_orders (own.Pubd (pubd.Drain t k)) is = refl
extra_orders (own.Pubd (pubd.Get t k name)) is = refl
extra_orders (own.Oklogd e) is = refl
extra_orders (own.Okd e) is = refl
extra_orders (own.Launcher e) is = let bad : false ≡ true = is in let never : ⊥ = cc in absurd never
extra_orders (own.Dialog t) is = refl
extra_orders (own.Missed t wanted other) is = refl
extra_orders own.NoMemory is = refl
extra_orders (own.Boot t k) is = refl
extra_orders (own.Retired t) is = refl

extra_is_unordered : (item : Own) → is_extra item ≡ true → is_ordered item ≡ false
extra_is_unordered item is = rw (extra_orders item is) refl

extra_accepts : (item : Own) → is_extra item ≡ true → is_accept_item item ≡ false
extra_accepts (own.Proxy p e) is = refl
extra_accepts (own.Pubd e) is = refl
extra_accepts (own.Oklogd e) is = refl
extra_accepts (own.Okd e) is = let bad : false ≡ true = is in let never : ⊥ = cc in absurd never
extra_accepts (own.Launcher e) is = refl
extra_accepts (own.Dialog t) is = refl
extra_accepts (own.Missed t wanted other) is = refl
extra_accepts own.NoMemory is = refl
extra_accepts (own.Boot t k) is = refl
extra_accepts (own.Retired t) is = refl

pub orders_are_of_pieces : (C : Config) (R : Record) (w : ℕ) (pieces : List Piece) (items : List Own) → length R.proxies ≡ length C.proxies → IsWorker C R w pieces items
    → filter_map item_order items ≡ filter_map (λ (piece : Piece). item_order (first_item piece)) pieces
orders_are_of_pieces C R w pieces items many x = ap (filter_map item_order) x.items_are ∙ filters item_order extra_orders C R w many pieces x.seen x.lives

pub items_are_of_pieces : (C : Config) (R : Record) (w : ℕ) (pieces : List Piece) (items : List Own) → length R.proxies ≡ length C.proxies → IsWorker C R w pieces items
    → (list_any is_ordered items ≡ list_any (λ (piece : Piece). is_ordered (first_item piece)) pieces)
    × (list_any is_accept_item items ≡ list_any (λ (piece : Piece). is_accept_item (first_item piece)) pieces)
items_are_of_pieces C R w pieces items many x = (
  ap (list_any is_ordered) x.items_are ∙ anys is_ordered extra_is_unordered C R w many pieces x.seen x.lives,
  ap (list_any is_accept_item) x.items_are ∙ anys is_accept_item extra_accepts C R w many pieces x.seen x.lives,
)

-- ---- visits

visits_behind : (before behind first then : List Visit) → AreVisits before first → AreVisits behind then → AreVisits (behind ++ before) (then ++ first)
visits_behind before behind first [] f h = subst (λ (v : List Visit). AreVisits (v ++ before) first) (sym h) f
visits_behind before behind first (visit.Starved ∷ then) f (inl h) = inl (visits_behind before behind first then f h)
visits_behind before behind first (visit.Starved ∷ then) f (inr h) =
    inr (h.0 ++ before, ap (λ (v : List Visit). v ++ before) h.1, visits_behind before h.0 first then f h.2)
visits_behind before behind first (visit.Accepted path outcome ∷ then) f h =
    (h.0 ++ before, ap (λ (v : List Visit). v ++ before) h.1, visits_behind before h.0 first then f h.2)

visits_both : (then first : List Piece) → piece_visits (then ++ first) ≡ piece_visits then ++ piece_visits first
visits_both [] first = refl
visits_both (piece ∷ then) first = ap (λ (rest : List Visit). piece_visit piece ++ rest) (visits_both then first) ∙ joined (piece_visit piece) (piece_visits then) (piece_visits first)

pub visits_join : (before behind : List Visit) (first then : List Piece) → AreVisits before (piece_visits first) → AreVisits behind (piece_visits then) → AreVisits (behind ++ before) (piece_visits (then ++ first))
visits_join before behind first then f h = subst (AreVisits (behind ++ before)) (sym (visits_both then first)) (visits_behind before behind (piece_visits first) (piece_visits then) f h)

pub turns_are_no_visits : (events : List LauncherEvent) → piece_visits (map Launched events) ≡ []
turns_are_no_visits [] = refl
turns_are_no_visits (event ∷ events) = turns_are_no_visits events
