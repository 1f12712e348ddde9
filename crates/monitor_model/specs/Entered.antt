-- What an incarnation's entries at a column ask and are answered, beside what it said and heard.
use Rattle.std.specs.Prelude.{ℕ, Bool, true, false, List, [], ◌∷◌, ◌++◌, ◌==◌, ◌&&◌, Option, Some, None, if◌then◌else◌}
use Rattle.std.specs.List.{cons_option}
use Rattle.okws_base.specs.declared.journal.Entry.{Entry}
use Rattle.okws_plan.specs.declared.configuration.Config.{Config}
use Rattle.okws_plan.specs.declared.event.LogEvent.{LogEvent}
use Rattle.okws_plan.specs.declared.event.LogEvent.TheVariants as oklogd
use Rattle.okws_plan.specs.declared.event.ProxyEvent.{ProxyEvent}
use Rattle.okws_plan.specs.declared.event.ProxyEvent.TheVariants as proxy
use Rattle.okws_plan.specs.declared.event.PubdEvent.{PubdEvent}
use Rattle.okws_plan.specs.declared.event.PubdEvent.TheVariants as pubd
use Rattle.okws_plan.specs.declared.script.Place.{Place}
use Rattle.okws_plan.specs.declared.script.Place.TheVariants.{Proxy, Pubd, Oklogd}
use Rattle.frame_codec.specs.declared.frame.ServerFrame.{ServerFrame}
use Rattle.frame_codec.specs.declared.frame.ServerFrame.TheVariants as frame
use Rattle.frame_codec.specs.declared.frame.ServiceFrame.{ServiceFrame}
use Rattle.frame_codec.specs.declared.frame.ServiceFrame.TheVariants.{Open, Call, Get, Log, Reply}
use Rattle.monitor_model.specs.declared.record.CellEvent.{CellEvent}
use Rattle.monitor_model.specs.declared.record.CellEvent.TheVariants as cell
use Rattle.monitor_model.specs.declared.record.Item.{Item}
use Rattle.monitor_model.specs.declared.record.Item.TheVariants.{Heard, Said}
use Rattle.monitor_model.specs.declared.record.Record.{Record}
use Rattle.monitor_model.specs.Cell.{incarnation}
use Rattle.monitor_model.specs.Course.{got_frame, noted_frame, verdict_frame}
use Rattle.monitor_model.specs.Logd.{log_verdict}
use Rattle.monitor_model.specs.Proxy.{call_verdict, open_verdict}
use Rattle.monitor_model.specs.Pubd.{get_verdict}
use Rattle.monitor_model.specs.Seen.{proxy_past}

-- A frame that was said, and the frame that answers it.
pub record Exchange : Type 0 where
  pub said : ServiceFrame
  pub heard : ServerFrame

-- The frame that asks for a proxy's entry, and that of its verdict on the entries J before it, where incarnation k of s made it.
abbrev pub proxy_exchange : Config → ℕ → ℕ → ℕ → List (Entry ProxyEvent) → ProxyEvent → Option Exchange
proxy_exchange C p s k J (proxy.Open t j shown) = if (t == s) && (j == k) then Some (record { said = Open p shown; heard = verdict_frame (open_verdict J t j shown) }) else None
proxy_exchange C p s k J (proxy.Call call mark) =
    if (call.service == s) && (call.incarnation == k) then Some (record { said = Call p call.session call.query call.args; heard = verdict_frame (call_verdict C p J call mark) }) else None
proxy_exchange C p s k J (proxy.Install t j token) = None
proxy_exchange C p s k J (proxy.Revoke t j) = None

-- The same of pubd's entry, where it is a Get.
abbrev pub pubd_exchange : Config → ℕ → ℕ → List (Entry PubdEvent) → PubdEvent → Option Exchange
pubd_exchange C s k J (pubd.Get t j name) = if (t == s) && (j == k) then Some (record { said = Get name; heard = got_frame (get_verdict C J t j name) }) else None
pubd_exchange C s k J (pubd.Install t j) = None
pubd_exchange C s k J (pubd.Revoke t j) = None
pubd_exchange C s k J (pubd.Publish t content) = None
pubd_exchange C s k J (pubd.Drain t j) = None

-- The same of oklogd's entry.
abbrev pub log_exchange : Config → ℕ → ℕ → List (Entry LogEvent) → LogEvent → Option Exchange
log_exchange C s k J (oklogd.Log t j text) = if (t == s) && (j == k) then Some (record { said = Log text; heard = noted_frame (log_verdict C J t j text) }) else None
log_exchange C s k J (oklogd.Install t j) = None
log_exchange C s k J (oklogd.Revoke t j) = None

-- The exchanges of the entries, each on those before it, the newest first.
abbrev pub exchanges : {E : Type 0} → (List (Entry E) → E → Option Exchange) → List (Entry E) → List Exchange
exchanges exchange [] = []
exchanges exchange (e ∷ J) = cons_option (exchange J e.event) (exchanges exchange J)

-- What the entries of incarnation k of s at a column ask, and what their verdicts are, the newest first.
abbrev pub exchanges_at : Config → Place → ℕ → ℕ → Record → List Exchange
exchanges_at C (Proxy p) s k R = exchanges (proxy_exchange C p s k) (proxy_past R.proxies p)
exchanges_at C Pubd s k R = exchanges (pubd_exchange C s k) R.pubd
exchanges_at C Oklogd s k R = exchanges (log_exchange C s k) R.oklogd

-- A frame is said to this column.
abbrev pub is_for : Place → ServiceFrame → Bool
is_for (Proxy p) (Open q shown) = q == p
is_for (Proxy p) (Call q n query args) = q == p
is_for (Proxy p) (Get name) = false
is_for (Proxy p) (Log text) = false
is_for (Proxy p) (Reply status content_type location content) = false
is_for Pubd (Open q shown) = false
is_for Pubd (Call q n query args) = false
is_for Pubd (Get name) = true
is_for Pubd (Log text) = false
is_for Pubd (Reply status content_type location content) = false
is_for Oklogd (Open q shown) = false
is_for Oklogd (Call q n query args) = false
is_for Oklogd (Get name) = false
is_for Oklogd (Log text) = true
is_for Oklogd (Reply status content_type location content) = false

-- An answer tells of an entry, unless it is NoMemory.
abbrev pub tells_entry : ServerFrame → Bool
tells_entry frame.NoMemory = false
tells_entry _ = true

-- What a dialog, its items the newest first, said to a column and heard, where the answer tells of an entry.
abbrev pub entered : Place → List Item → List Exchange
entered at [] = []
entered at (Heard heard ∷ []) = []
entered at (Heard heard ∷ Heard other ∷ items) = []
entered at (Heard heard ∷ Said said ∷ items) = if is_for at said && tells_entry heard then record { said = said; heard = heard } ∷ entered at items else entered at items
entered at (Said said ∷ items) = entered at items

-- The same of one event of a cell, on the events J before it, where incarnation k has the dialog.
abbrev pub entered_at : Place → ℕ → List CellEvent → CellEvent → List Exchange
entered_at at k J (cell.Dialog d) = if incarnation J == k then entered at d.items else []
entered_at at k J (cell.Speaking worker items) = if incarnation J == k then entered at items else []
entered_at at k J (cell.Boot j) = []
entered_at at k J cell.Retired = []
entered_at at k J (cell.Missed worker wanted is) = []

-- What incarnation k said to a column and heard, where the answer tells of an entry, the newest first.
abbrev pub entered_by : Place → ℕ → List CellEvent → List Exchange
entered_by at k [] = []
entered_by at k (e ∷ J) = entered_at at k J e ++ entered_by at k J
