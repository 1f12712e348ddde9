-- What a number had seen where it made the items of its list, by the record: an item is placed by how many of its kind the number made before.
use Rattle.std.specs.Prelude.{ℕ, suc, ◌+◌, List, [], ◌∷◌, ◌==◌, ◌&&◌, filter_map, length, if◌then◌else◌}
use Rattle.okws_base.specs.Past.{events_of}
use Rattle.okws_base.specs.declared.journal.Entry.{Entry}
use Rattle.okws_plan.specs.declared.event.ProxyEvent.{ProxyEvent}
use Rattle.monitor_model.specs.declared.record.Own.{Own}
use Rattle.monitor_model.specs.declared.record.Record.{Record}
use Rattle.monitor_model.specs.Merged.{okd_item, proxy_item, pubd_item, log_item, launcher_item}
use Rattle.monitor_model.specs.Seen.{Seen}

-- What holds of each member of a list with its number, where the first has number n.
abbrev pub EachFrom : {A : Type 0} → (ℕ → A → Type 0) → ℕ → List A → Type 0
EachFrom P n [] = Unit {0}
EachFrom P n (a ∷ more) = P n a × EachFrom P (suc n) more

-- How many entries of a journal name number w.
abbrev pub count_of : {E : Type 0} → ℕ → List (Entry E) → ℕ
count_of w J = length (events_of w J)

-- The journal up to that entry of w with which it has made n of them; nothing where n is 0.
abbrev pub up_to_nth : {E : Type 0} → ℕ → ℕ → List (Entry E) → List (Entry E)
up_to_nth w n [] = []
up_to_nth w n (e ∷ J) = if (e.worker == w) && (count_of w J + 1 == n) then e ∷ J else up_to_nth w n J

-- The entries before that entry of w before which it has made n of them.
abbrev pub before_nth : {E : Type 0} → ℕ → ℕ → List (Entry E) → List (Entry E)
before_nth w n [] = []
before_nth w n (e ∷ J) = if (e.worker == w) && (count_of w J == n) then J else before_nth w n J

-- The same as `up_to_nth` at each proxy, where the first has number p and w has made these items.
abbrev pub up_to_each : ℕ → List Own → ℕ → List (List (Entry ProxyEvent)) → List (List (Entry ProxyEvent))
up_to_each w items p [] = []
up_to_each w items p (J ∷ more) = up_to_nth w (length (filter_map (proxy_item p) items)) J ∷ up_to_each w items (suc p) more

-- What number w had seen when it had just made these items: each column, and the launcher's journal, up to its own last entry there.
abbrev pub seen_after : Record → ℕ → List Own → Seen
seen_after R w items = record {
  okd = up_to_nth w (length (filter_map okd_item items)) R.okd;
  proxies = up_to_each w items 0 R.proxies;
  pubd = up_to_nth w (length (filter_map pubd_item items)) R.pubd;
  oklogd = up_to_nth w (length (filter_map log_item items)) R.oklogd;
  launcher = up_to_nth w (length (filter_map launcher_item items)) R.launcher;
  own = items;
}
