-- What stands at each column. J is a past: the entries before the one in question, the newest first.
use Rattle.std.specs.Prelude.{ℕ, Bool, List, [], ◌∷◌, Option, Some, None, ◌==◌, ◌&&◌, if◌then◌else◌}
use Rattle.okws_base.specs.Past.{Grant, Installs, Revokes, Leaves, standing_by, is_just}
use Rattle.okws_base.specs.Value.{same_token}
use Rattle.okws_base.specs.declared.journal.Entry.{Entry}
use Rattle.okws_base.specs.declared.value.Token.{Token}
use Rattle.okws_plan.specs.declared.event.ProxyEvent.{ProxyEvent}
use Rattle.okws_plan.specs.declared.event.ProxyEvent.TheVariants as proxy
use Rattle.okws_plan.specs.declared.event.PubdEvent.{PubdEvent}
use Rattle.okws_plan.specs.declared.event.PubdEvent.TheVariants as pubd
use Rattle.okws_plan.specs.declared.event.LogEvent.{LogEvent}
use Rattle.okws_plan.specs.declared.event.LogEvent.TheVariants as oklogd
use Rattle.okws_plan.specs.declared.event.OkdEvent.{OkdEvent}
use Rattle.okws_plan.specs.declared.event.OkdEvent.TheVariants as okd

-- What a proxy's event does to what stands.
abbrev pub proxy_grant : ProxyEvent → Grant
proxy_grant (proxy.Install s k token) = Installs s k
proxy_grant (proxy.Revoke s k) = Revokes s
proxy_grant (proxy.Open s k shown) = Leaves
proxy_grant (proxy.Call call mark) = Leaves

-- What pubd's event does to what stands.
abbrev pub pubd_grant : PubdEvent → Grant
pubd_grant (pubd.Install s k) = Installs s k
pubd_grant (pubd.Revoke s k) = Revokes s
pubd_grant (pubd.Publish t content) = Leaves
pubd_grant (pubd.Drain s k) = Leaves
pubd_grant (pubd.Get s k name) = Leaves

-- What oklogd's event does to what stands.
abbrev pub log_grant : LogEvent → Grant
log_grant (oklogd.Install s k) = Installs s k
log_grant (oklogd.Revoke s k) = Revokes s
log_grant (oklogd.Log s k text) = Leaves

-- At okd an Up stands as an Install does, and a Down as a Revoke.
abbrev pub okd_grant : OkdEvent → Grant
okd_grant (okd.Up s k) = Installs s k
okd_grant (okd.Down s k) = Revokes s
okd_grant (okd.Accept path) = Leaves

-- Incarnation k of s is live at a column: the last Install or Revoke of s there is Install of k.
abbrev pub live_at_proxy : List (Entry ProxyEvent) → ℕ → ℕ → Bool
live_at_proxy J s k = is_just k (standing_by proxy_grant J s)

-- The same at pubd.
abbrev pub live_at_pubd : List (Entry PubdEvent) → ℕ → ℕ → Bool
live_at_pubd J s k = is_just k (standing_by pubd_grant J s)

-- The same at oklogd.
abbrev pub live_at_log : List (Entry LogEvent) → ℕ → ℕ → Bool
live_at_log J s k = is_just k (standing_by log_grant J s)

-- The incarnation of s that is up: that of okd's last Up or Down of s, where this is an Up.
abbrev pub up_at_okd : List (Entry OkdEvent) → ℕ → Option ℕ
up_at_okd J s = standing_by okd_grant J s

-- To which incarnation of s the token t was issued after an event.
abbrev pub issued_after : ProxyEvent → ℕ → Token → Option ℕ → Option ℕ
issued_after (proxy.Install u k token) s t before = if (u == s) && same_token token t then Some k else before
issued_after (proxy.Revoke u k) s t before = before
issued_after (proxy.Open u k shown) s t before = before
issued_after (proxy.Call call mark) s t before = before

-- The incarnation of the Install of s with token t, if there is one.
abbrev pub issued : List (Entry ProxyEvent) → ℕ → Token → Option ℕ
issued [] s t = None
issued (e ∷ J) s t = issued_after e.event s t (issued J s t)
