-- The record of a short run of a server over the same small site: a page is published; a request has a session opened, a query called, and is replied to; the next one finds that the service ends, which is a crash, and it is launched again; and records that differ from it a little.
use Rattle.std.specs.Prelude.{ℕ, List, [], ◌∷◌, ◌++◌, Some, codes}
use Rattle.okws_base.specs.declared.value.Token.{Token}
use Rattle.token_core.specs.Token.{token_of}
use Rattle.okws_plan.specs.declared.event.Call.{Call}
use Rattle.okws_plan.specs.declared.event.Mark.TheVariants.{Done}
use Rattle.okws_plan.specs.declared.event.LauncherEvent.TheVariants as launcher
use Rattle.okws_plan.specs.declared.event.LogEvent.TheVariants as oklogd
use Rattle.okws_plan.specs.declared.event.OkdEvent.TheVariants as okd
use Rattle.okws_plan.specs.declared.event.ProxyEvent.TheVariants as proxy
use Rattle.okws_plan.specs.declared.event.PubdEvent.TheVariants as pubd
use Rattle.http_text.specs.Response.{response, own_response}
use Rattle.frame_codec.specs.declared.frame.ServiceFrame.TheVariants as said
use Rattle.frame_codec.specs.declared.frame.ServerFrame.TheVariants as heard
use Rattle.monitor_model.specs.declared.record.CellEvent.TheVariants as cell
use Rattle.monitor_model.specs.declared.record.Connection.{Connection}
use Rattle.monitor_model.specs.declared.record.Dialog.{Dialog}
use Rattle.monitor_model.specs.declared.record.End.TheVariants as end
use Rattle.monitor_model.specs.declared.record.Item.TheVariants.{Heard, Said}
use Rattle.monitor_model.specs.declared.record.Own.{Own}
use Rattle.monitor_model.specs.declared.record.Own.TheVariants as own
use Rattle.monitor_model.specs.declared.record.Record.{Record}
use Rattle.monitor_model.specs.Example.{int}
use Rattle.monitor_model.specs.Outside.{Outside, Publishes, Obeyed}
use Rattle.monitor_model.specs.SmallRuns.{quiet, idle, by}

-- A request for `/guest`, all of which is its head.
abbrev pub guest_request : List ℕ
guest_request = codes "GET /guest HTTP/1.0" ++ 13 ∷ 10 ∷ 13 ∷ 10 ∷ []

-- The tokens of the first and the second incarnation.
abbrev pub token_one : List ℕ → Token
token_one seed = token_of seed 0 1 0

-- That of the second.
abbrev pub token_two : List ℕ → Token
token_two seed = token_of seed 0 2 0

-- A call of the first incarnation in its first session: the row with key 1 is deleted.
abbrev pub deletion : Call
deletion = record { service = 0; incarnation = 1; session = 0; query = 3; args = int 1 ∷ [] }

-- The first dialog, in which the session that was opened is heard to have this number: the page is pushed, the request put, a session opened, the query called, and the Reply ends it.
abbrev pub first_dialog : List ℕ → ℕ → Dialog
first_dialog seed n = record {
  worker = 0;
  items = Said (said.Reply 200 (codes "text/plain") [] (codes "ok")) ∷ Heard (heard.Changed 1) ∷ Said (said.Call 0 0 3 (int 1 ∷ [])) ∷ Heard (heard.Opened n) ∷ Said (said.Open 0 (token_one seed))
      ∷ Heard (heard.Request guest_request []) ∷ Heard (heard.Push (codes "page") 1 (codes "hi")) ∷ [];
  end = end.Reply;
  due = [];
}

-- The second dialog, in which the service ends.
abbrev pub second_dialog : Dialog
second_dialog = record { worker = 0; items = Heard (heard.Request guest_request []) ∷ []; end = end.Ended; due = [] }

-- What the door's worker did.
abbrev pub door_list : List ℕ → List Own
door_list seed =
    own.Launcher (launcher.Begun 0 2) ∷ own.Launcher (launcher.Crashed 0 1)
    ∷ own.Pubd (pubd.Drain 0 1) ∷ own.Dialog 0 ∷ own.Okd (okd.Accept (codes "/guest"))
    ∷ own.Proxy 0 (proxy.Call deletion Done) ∷ own.Proxy 0 (proxy.Open 0 1 (token_one seed)) ∷ own.Pubd (pubd.Drain 0 1) ∷ own.Dialog 0 ∷ own.Okd (okd.Accept (codes "/guest"))
    ∷ own.Launcher (launcher.Begun 0 1) ∷ []

-- What the launcher did.
abbrev pub launcher_list : List ℕ → List Own
launcher_list seed =
    own.Retired 0
    ∷ own.Okd (okd.Up 0 2) ∷ own.Boot 0 2 ∷ own.Oklogd (oklogd.Install 0 2) ∷ own.Pubd (pubd.Install 0 2) ∷ own.Proxy 0 (proxy.Install 0 2 (token_two seed))
    ∷ own.Oklogd (oklogd.Revoke 0 1) ∷ own.Pubd (pubd.Revoke 0 1) ∷ own.Proxy 0 (proxy.Revoke 0 1) ∷ own.Okd (okd.Down 0 1)
    ∷ own.Okd (okd.Up 0 1) ∷ own.Boot 0 1 ∷ own.Oklogd (oklogd.Install 0 1) ∷ own.Pubd (pubd.Install 0 1) ∷ own.Proxy 0 (proxy.Install 0 1 (token_one seed)) ∷ []

-- The connections of the door.
abbrev pub two_connections : List Connection
two_connections =
    record { read = guest_request; written = own_response 502 (codes "GET") }
    ∷ record { read = guest_request; written = response 200 (codes "text/plain") [] (codes "ok") (codes "GET") } ∷ []

-- The record, where the session that was opened is heard to have this number.
abbrev pub run_where : List ℕ → ℕ → Record
run_where seed n = record {
  okd = by 2 (okd.Up 0 2) ∷ by 2 (okd.Down 0 1) ∷ by 0 (okd.Accept (codes "/guest")) ∷ by 0 (okd.Accept (codes "/guest")) ∷ by 2 (okd.Up 0 1) ∷ [];
  proxies = (by 2 (proxy.Install 0 2 (token_two seed)) ∷ by 2 (proxy.Revoke 0 1) ∷ by 0 (proxy.Call deletion Done) ∷ by 0 (proxy.Open 0 1 (token_one seed))
      ∷ by 2 (proxy.Install 0 1 (token_one seed)) ∷ []) ∷ [];
  pubd = by 2 (pubd.Install 0 2) ∷ by 2 (pubd.Revoke 0 1) ∷ by 0 (pubd.Drain 0 1) ∷ by 0 (pubd.Drain 0 1) ∷ by 1 (pubd.Publish 0 (codes "hi")) ∷ by 2 (pubd.Install 0 1) ∷ [];
  oklogd = by 2 (oklogd.Install 0 2) ∷ by 2 (oklogd.Revoke 0 1) ∷ by 2 (oklogd.Install 0 1) ∷ [];
  launcher = by 0 (launcher.Begun 0 2) ∷ by 0 (launcher.Crashed 0 1) ∷ by 0 (launcher.Begun 0 1) ∷ [];
  cells = (cell.Retired ∷ cell.Boot 2 ∷ cell.Dialog second_dialog ∷ cell.Dialog (first_dialog seed n) ∷ cell.Boot 1 ∷ []) ∷ [];
  sents = [];
  doors = two_connections ∷ [];
  workers = door_list seed ∷ (own.Pubd (pubd.Publish 0 (codes "hi")) ∷ []) ∷ [];
  launches = launcher_list seed;
}

-- The record of the run: sessions count from 0.
abbrev pub short_run : List ℕ → Record
short_run seed = run_where seed 0

-- The same, but that the service heard of another session than the one that the monitor's verdict tells.
abbrev pub wrong_answer : List ℕ → Record
wrong_answer seed = run_where seed 7

-- The same, but that what the worker entered at the proxy isn't in the proxy's journal: it answered from a copy of its own.
abbrev pub private_copy : List ℕ → Record
private_copy seed = record (short_run seed) {
  proxies = (by 2 (proxy.Install 0 2 (token_two seed)) ∷ by 2 (proxy.Revoke 0 1) ∷ by 2 (proxy.Install 0 1 (token_one seed)) ∷ []) ∷ [];
}

-- What is told of the run: the page was ordered at the console.
abbrev pub one_order : Outside
one_order = record quiet { orders = Some (record { order = Publishes 0 (codes "hi"); became = Obeyed } ∷ []) }

-- The run in which no connection came, but for one whose request found no incarnation that it wanted; the cell says that another was there than was.
abbrev pub untrue_miss : List ℕ → Record
untrue_miss seed = record (idle seed) {
  okd = by 0 (okd.Accept (codes "/guest")) ∷ by 2 (okd.Up 0 1) ∷ [];
  cells = (cell.Retired ∷ cell.Missed 0 1 7 ∷ cell.Boot 1 ∷ []) ∷ [];
  doors = (record { read = guest_request; written = own_response 503 (codes "GET") } ∷ []) ∷ [];
  workers = (own.Missed 0 1 7 ∷ own.Okd (okd.Accept (codes "/guest")) ∷ own.Launcher (launcher.Begun 0 1) ∷ []) ∷ [] ∷ [];
}
