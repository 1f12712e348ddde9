-- Of which pieces a worker's list is made.
use Rattle.std.specs.Prelude.{◌≡◌, ℕ, suc, Bool, true, false, List, [], ◌∷◌, ◌==◌, ◌&&◌, Option, filter_map, length, reverse, if◌then◌else◌, slice_index_or, option_map, IsTrue, IsFalse, IfSome, is_some}
use Rattle.std.specs.List.{list_any}
use Rattle.okws_base.specs.Past.{is_just}
use Rattle.okws_plan.specs.declared.configuration.Config.{Config}
use Rattle.okws_plan.specs.declared.event.OkdEvent.{OkdEvent}
use Rattle.okws_plan.specs.declared.event.OkdEvent.TheVariants as okd
use Rattle.okws_plan.specs.declared.event.ProxyEvent.{ProxyEvent}
use Rattle.okws_plan.specs.declared.event.ProxyEvent.TheVariants as proxy
use Rattle.okws_plan.specs.declared.event.PubdEvent.{PubdEvent}
use Rattle.okws_plan.specs.declared.event.PubdEvent.TheVariants as pubd
use Rattle.okws_plan.specs.declared.event.LogEvent.{LogEvent}
use Rattle.okws_plan.specs.declared.event.LogEvent.TheVariants as oklogd
use Rattle.monitor_model.specs.declared.verdict.Way.{Way}
use Rattle.monitor_model.specs.declared.verdict.Way.TheVariants as way
use Rattle.monitor_model.specs.declared.record.Own.{Own}
use Rattle.monitor_model.specs.declared.record.Own.TheVariants as own
use Rattle.monitor_model.specs.declared.record.Dialog.{Dialog}
use Rattle.monitor_model.specs.declared.record.Record.{Record}
use Rattle.monitor_model.specs.Merged.{okd_item}
use Rattle.monitor_model.specs.Okd.{accept_verdict}
use Rattle.monitor_model.specs.Outside.{Outside, item_order, come_of}
use Rattle.monitor_model.specs.Placed.{EachFrom, before_nth}
use Rattle.monitor_model.specs.Worker.{next_dialog}

-- Where a worker is after some items of its list: no piece is open; okd answered an Accept To(s, k), and nothing followed yet; a dialog at cell s was begun, and its entries may follow; or the items are no pieces.
pub data Mode : Type 0 where
  Free : Mode
  Due : (s k : ℕ) → Mode
  Speaking : (s : ℕ) → Mode
  Broken : Mode

-- A proxy's event is one that a dialog at cell s may make: an Open or a Call of s.
abbrev pub is_proxy_entry_of : ℕ → ProxyEvent → Bool
is_proxy_entry_of s (proxy.Install t k token) = false
is_proxy_entry_of s (proxy.Revoke t k) = false
is_proxy_entry_of s (proxy.Open t k shown) = t == s
is_proxy_entry_of s (proxy.Call call mark) = call.service == s

-- pubd's event is one that a dialog at cell s may make: a Drain or a Get of s.
abbrev pub is_pubd_entry_of : ℕ → PubdEvent → Bool
is_pubd_entry_of s (pubd.Install t k) = false
is_pubd_entry_of s (pubd.Revoke t k) = false
is_pubd_entry_of s (pubd.Publish t content) = false
is_pubd_entry_of s (pubd.Drain t k) = t == s
is_pubd_entry_of s (pubd.Get t k name) = t == s

-- oklogd's event is one that a dialog at cell s may make: a Log of s.
abbrev pub is_log_entry_of : ℕ → LogEvent → Bool
is_log_entry_of s (oklogd.Install t k) = false
is_log_entry_of s (oklogd.Revoke t k) = false
is_log_entry_of s (oklogd.Log t k text) = t == s

-- The item is an entry that a dialog at cell s may make.
abbrev pub is_entry_of : ℕ → Own → Bool
is_entry_of s (own.Proxy p e) = is_proxy_entry_of s e
is_entry_of s (own.Pubd e) = is_pubd_entry_of s e
is_entry_of s (own.Oklogd e) = is_log_entry_of s e
is_entry_of s _ = false

-- What okd answered to the Accept of this path that worker w made behind these items.
abbrev pub way_at : Config → Record → ℕ → List Own → List ℕ → Way
way_at C R w items path = accept_verdict C (before_nth w (length (filter_map okd_item items)) R.okd) path

-- After an Accept nothing is due, unless okd answered To(s, k).
abbrev pub accepted : Way → Mode
accepted way.NotOwned = Free
accepted (way.Down s) = Free
accepted (way.To s k) = Due s k

-- An Accept begins a piece; okd's other events are the launcher's.
abbrev pub after_okd : Config → Record → ℕ → List Own → OkdEvent → Mode
after_okd C R w items (okd.Accept path) = accepted (way_at C R w items path)
after_okd C R w items (okd.Up s k) = Broken
after_okd C R w items (okd.Down s k) = Broken

-- A Publish is a piece; pubd's other events are a dialog's or the launcher's.
abbrev pub after_pubd : PubdEvent → Mode
after_pubd (pubd.Publish t content) = Free
after_pubd _ = Broken

-- Where no piece is open, an Accept, Publish, Begun, Failed, Asked, Crashed, Dead or NoMemory may follow.
abbrev pub after_free : Config → Record → ℕ → List Own → Own → Mode
after_free C R w items (own.Okd e) = after_okd C R w items e
after_free C R w items (own.Pubd e) = after_pubd e
after_free C R w items (own.Launcher e) = Free
after_free C R w items own.NoMemory = Free
after_free C R w items _ = Broken

-- The incarnation of the dialog that worker w begins at cell s behind these items, if there is one.
abbrev pub next_incarnation : Record → ℕ → ℕ → List Own → Option ℕ
next_incarnation R w s items = option_map (λ (at : ℕ × Dialog). at.0) (next_dialog R w s items)

-- After To(s, k) follows at once a Missed of cell s that wanted k, NoMemory, or a dialog at cell s, whose incarnation is k.
abbrev pub after_due : Record → ℕ → List Own → ℕ → ℕ → Own → Mode
after_due R w items s k (own.Missed t wanted is) = if (t == s) && (wanted == k) then Free else Broken
after_due R w items s k own.NoMemory = Free
after_due R w items s k (own.Dialog t) = if (t == s) && is_just k (next_incarnation R w s items) then Speaking s else Broken
after_due R w items s k _ = Broken

-- Where the worker is after one item more.
abbrev pub next_mode : Config → Record → ℕ → List Own → Own → Mode → Mode
next_mode C R w items item Free = after_free C R w items item
next_mode C R w items item (Due s k) = after_due R w items s k item
next_mode C R w items item (Speaking s) = if is_entry_of s item then Speaking s else after_free C R w items item
next_mode C R w items item Broken = Broken

-- Where the worker is after these items, the newest first.
abbrev pub mode : Config → Record → ℕ → List Own → Mode
mode C R w [] = Free
mode C R w (item ∷ items) = next_mode C R w items item (mode C R w items)

-- The items are whole pieces, and nothing is due.
abbrev pub is_whole : Mode → Bool
is_whole Free = true
is_whole (Due s k) = false
is_whole (Speaking s) = true
is_whole Broken = false

-- The item carries out an order: it is a Publish or an Asked.
abbrev pub is_ordered : Own → Bool
is_ordered item = is_some (item_order item)

-- okd's event is an Accept.
abbrev pub is_accept : OkdEvent → Bool
is_accept (okd.Accept path) = true
is_accept (okd.Up s k) = false
is_accept (okd.Down s k) = false

-- The item is an Accept.
abbrev pub is_accept_item : Own → Bool
is_accept_item (own.Okd e) = is_accept e
is_accept_item _ = false

-- The list of worker w.
abbrev pub worker_list : Record → ℕ → List Own
worker_list R w = slice_index_or R.workers w []

-- The list of the console's worker, whose number is that of the doors.
abbrev pub console_list : Record → List Own
console_list R = worker_list R (length R.doors)

-- A worker's list is made of Accept pieces, Publish, Begun, Failed, Asked, Crashed, Dead and NoMemory, and of nothing else. There is a worker for each door, who publishes nothing and asks for no relaunch, and one for the console, who accepts nothing; what the latter carries out comes of what was ordered there.
pub record ListsArePieces (C : Config) (T : Outside) (R : Record) : Type 0 where
  pub workers_are : length R.workers ≡ suc (length R.doors)
  pub pieces : EachFrom (λ w items. IsTrue (is_whole (mode C R w items))) 0 R.workers
  pub doors : EachFrom (λ w connections. IsFalse (list_any is_ordered (worker_list R w))) 0 R.doors
  pub console : IsFalse (list_any is_accept_item (console_list R))
  pub orders : IfSome T.orders (λ orders. IsTrue (come_of T.console_failed orders (filter_map item_order (reverse (console_list R)))))
