-- The dialogs of a worker's list, with the entries that each made.
use Rattle.std.specs.Prelude.{ℕ, List, [], ◌∷◌, Option, Some, None, unwrap_or}
use Rattle.okws_plan.specs.declared.event.ProxyEvent.{ProxyEvent}
use Rattle.okws_plan.specs.declared.event.ProxyEvent.TheVariants as proxy
use Rattle.okws_plan.specs.declared.event.PubdEvent.{PubdEvent}
use Rattle.okws_plan.specs.declared.event.PubdEvent.TheVariants as pubd
use Rattle.okws_plan.specs.declared.event.LogEvent.{LogEvent}
use Rattle.okws_plan.specs.declared.event.LogEvent.TheVariants as oklogd
use Rattle.monitor_model.specs.declared.record.Own.{Own}
use Rattle.monitor_model.specs.declared.record.Own.TheVariants as own

-- A dialog at a cell, in its worker's list, the newest first: the items before it, the items up to the last of its entries, and the item that came next, if one did.
pub record Talk : Type 0 where
  pub service : ℕ
  pub earlier : List Own
  pub until : List Own
  pub next : Option Own

-- What an item is to a dialog: it begins one at cell s, it is an entry that one may make, or neither.
pub data Kind : Type 0 where
  Begins : (s : ℕ) → Kind
  Enters : Kind
  Other : Kind

-- An Open and a Call are entries that a dialog may make.
abbrev pub proxy_kind : ProxyEvent → Kind
proxy_kind (proxy.Install t k token) = Other
proxy_kind (proxy.Revoke t k) = Other
proxy_kind (proxy.Open t k shown) = Enters
proxy_kind (proxy.Call call mark) = Enters

-- A Drain and a Get are.
abbrev pub pubd_kind : PubdEvent → Kind
pubd_kind (pubd.Install t k) = Other
pubd_kind (pubd.Revoke t k) = Other
pubd_kind (pubd.Publish t content) = Other
pubd_kind (pubd.Drain t k) = Enters
pubd_kind (pubd.Get t k name) = Enters

-- A Log is.
abbrev pub log_kind : LogEvent → Kind
log_kind (oklogd.Install t k) = Other
log_kind (oklogd.Revoke t k) = Other
log_kind (oklogd.Log t k text) = Enters

-- What an item is to a dialog.
abbrev pub kind_of : Own → Kind
kind_of (own.Proxy p e) = proxy_kind e
kind_of (own.Pubd e) = pubd_kind e
kind_of (own.Oklogd e) = log_kind e
kind_of (own.Dialog s) = Begins s
kind_of _ = Other

-- Entries of a dialog that stand directly behind the items in question: the items up to the last of them, and what came next; none where no entry stands there.
pub record Block : Type 0 where
  pub until : List Own
  pub next : Option Own

-- The dialog of these items, the last of which begins it, with its entries.
abbrev pub talk_of : ℕ → List Own → List Own → Option Block → Option Own → Talk
talk_of s earlier items None next = record { service = s; earlier = earlier; until = items; next = next }
talk_of s earlier items (Some block) next = record { service = s; earlier = earlier; until = block.until; next = block.next }

-- The entries that stand directly behind the items before one of this kind, which is the last of `items`.
abbrev pub next_block : Kind → List Own → Option Block → Option Own → Option Block
next_block (Begins s) items block next = None
next_block Enters items block next = Some (unwrap_or block (record { until = items; next = next }))
next_block Other items block next = None

-- An item adds a dialog where it begins one.
abbrev pub with_talk : Kind → (ℕ → Talk) → List Talk → List Talk
with_talk (Begins s) talk more = talk s ∷ more
with_talk Enters talk more = more
with_talk Other talk more = more

-- The dialogs of a list, the newest first. The entries of a dialog are those that follow it at once. `block` are the entries directly behind the items, and `next` is the item behind them.
abbrev pub talks_to : Option Block → Option Own → List Own → List Talk
talks_to block next [] = []
talks_to block next (item ∷ items) =
    with_talk (kind_of item) (λ (s : ℕ). talk_of s items (item ∷ items) block next) (talks_to (next_block (kind_of item) (item ∷ items) block next) (Some item) items)

-- The dialogs of a whole list, the newest first.
abbrev pub talks : List Own → List Talk
talks items = talks_to None None items
