-- Records of small runs of a server: a site with one service, one door and the console, whose number is 1; number 2 launches.
use Rattle.std.specs.Prelude.{ℕ, true, false, List, [], ◌∷◌, Some, None, codes}
use Rattle.okws_base.specs.declared.journal.Entry.{Entry}
use Rattle.token_core.specs.Token.{token_of}
use Rattle.okws_plan.specs.declared.configuration.Config.{Config}
use Rattle.okws_plan.specs.declared.event.LauncherEvent.TheVariants as launcher
use Rattle.okws_plan.specs.declared.event.LogEvent.TheVariants as oklogd
use Rattle.okws_plan.specs.declared.event.OkdEvent.TheVariants as okd
use Rattle.okws_plan.specs.declared.event.ProxyEvent.TheVariants as proxy
use Rattle.okws_plan.specs.declared.event.PubdEvent.TheVariants as pubd
use Rattle.monitor_model.specs.declared.record.CellEvent.TheVariants as cell
use Rattle.monitor_model.specs.declared.record.Own.TheVariants as own
use Rattle.monitor_model.specs.declared.record.Record.{Record}
use Rattle.monitor_model.specs.Example.{main_proxy}
use Rattle.monitor_model.specs.Outside.{Outside}

-- One service, which may call query 3 of the proxy, reads the one template, and logs.
abbrev pub one : Config
one = record {
  proxies = main_proxy ∷ [];
  services = record { name = codes "guest"; words = codes "./svc_guest" ∷ [] } ∷ [];
  templates = codes "page" ∷ [];
  retry = 3;
  paths = record { path = codes "/guest"; service = 0 } ∷ [];
  grants = record { service = 0; proxy = 0; query = 3 } ∷ [];
  readables = record { service = 0; template = 0 } ∷ [];
  loggers = 0 ∷ [];
}

-- Nothing failed, no child ended, and nothing was ordered.
abbrev pub quiet : Outside
quiet = record { doors = λ w. Some 0; keepers = λ p. Some 0; children = Some 0; ended = λ s k. false; orders = Some []; console_failed = false }

-- An entry of a worker's.
abbrev pub by : {E : Type 0} → ℕ → E → Entry E
by w event = record { worker = w; event = event }

-- The service was launched, and retired at the end. No connection came.
abbrev pub idle : List ℕ → Record
idle seed = record {
  okd = by 2 (okd.Up 0 1) ∷ [];
  proxies = (by 2 (proxy.Install 0 1 (token_of seed 0 1 0)) ∷ []) ∷ [];
  pubd = by 2 (pubd.Install 0 1) ∷ [];
  oklogd = by 2 (oklogd.Install 0 1) ∷ [];
  launcher = by 0 (launcher.Begun 0 1) ∷ [];
  cells = (cell.Retired ∷ cell.Boot 1 ∷ []) ∷ [];
  sents = [];
  doors = [] ∷ [];
  workers = (own.Launcher (launcher.Begun 0 1) ∷ []) ∷ [] ∷ [];
  launches = own.Retired 0 ∷ own.Okd (okd.Up 0 1) ∷ own.Boot 0 1 ∷ own.Oklogd (oklogd.Install 0 1) ∷ own.Pubd (pubd.Install 0 1)
      ∷ own.Proxy 0 (proxy.Install 0 1 (token_of seed 0 1 0)) ∷ [];
}

-- The same, but that a Log stands in oklogd's journal which the worker that it names didn't make.
abbrev pub invented_call : List ℕ → Record
invented_call seed = record (idle seed) { oklogd = by 0 (oklogd.Log 0 1 (codes "hi")) ∷ by 2 (oklogd.Install 0 1) ∷ [] }

-- The same, but that the door's worker published.
abbrev pub unordered_publication : List ℕ → Record
unordered_publication seed = record (idle seed) {
  pubd = by 0 (pubd.Publish 0 (codes "hi")) ∷ by 2 (pubd.Install 0 1) ∷ [];
  workers = (own.Pubd (pubd.Publish 0 (codes "hi")) ∷ own.Launcher (launcher.Begun 0 1) ∷ []) ∷ [] ∷ [];
}

-- The same, but that the console's worker published a template that isn't declared.
abbrev pub undeclared_publication : List ℕ → Record
undeclared_publication seed = record (idle seed) {
  pubd = by 1 (pubd.Publish 9 (codes "hi")) ∷ by 2 (pubd.Install 0 1) ∷ [];
  workers = (own.Launcher (launcher.Begun 0 1) ∷ []) ∷ (own.Pubd (pubd.Publish 9 (codes "hi")) ∷ []) ∷ [];
}

-- What is told of that run: it isn't told what was ordered at the console.
abbrev pub silent_console : Outside
silent_console = record quiet { orders = None }

-- The same, but that a request was accepted which came on no connection.
abbrev pub unasked_accept : List ℕ → Record
unasked_accept seed = record (idle seed) {
  okd = by 0 (okd.Accept (codes "/x")) ∷ by 2 (okd.Up 0 1) ∷ [];
  workers = (own.Okd (okd.Accept (codes "/x")) ∷ own.Launcher (launcher.Begun 0 1) ∷ []) ∷ [] ∷ [];
}

-- The same, but that the launch skipped the proxy.
abbrev pub skipped_column : List ℕ → Record
skipped_column seed = record (idle seed) {
  proxies = [] ∷ [];
  launches = own.Retired 0 ∷ own.Okd (okd.Up 0 1) ∷ own.Boot 0 1 ∷ own.Oklogd (oklogd.Install 0 1) ∷ own.Pubd (pubd.Install 0 1) ∷ [];
}

-- The same, but that the child ended, which was entered as a crash and led to nothing.
abbrev pub forgotten_crash : List ℕ → Record
forgotten_crash seed = record (idle seed) {
  launcher = by 0 (launcher.Crashed 0 1) ∷ by 0 (launcher.Begun 0 1) ∷ [];
  workers = (own.Launcher (launcher.Crashed 0 1) ∷ own.Launcher (launcher.Begun 0 1) ∷ []) ∷ [] ∷ [];
}

-- What is told of that run: the child has ended.
abbrev pub ended_child : Outside
ended_child = record quiet { ended = λ s k. true }

-- The same, but that the console's worker launched the service.
abbrev pub late_launch : List ℕ → Record
late_launch seed = record (idle seed) {
  launcher = by 1 (launcher.Begun 0 1) ∷ [];
  workers = [] ∷ (own.Launcher (launcher.Begun 0 1) ∷ []) ∷ [];
}
