-- The numbers of the statuses.
use Rattle.std.specs.Prelude.{ℕ}
use Rattle.okws_server.specs.declared.status.Status.{Status}
use Rattle.okws_server.specs.declared.status.Status.TheVariants as status

-- The exit status of a run that ended so.
abbrev pub status_number : Status → ℕ
status_number status.Ok = 0
status_number status.Usage = 2
status_number status.ReadFault = 3
status_number status.ConfigRefused = 4
status_number status.NetFault = 5
status_number status.StoreFault = 6
status_number status.LogFault = 7
status_number status.OutFault = 8
status_number status.ScriptRefused = 9
status_number status.ConsoleFault = 10
status_number status.NoMemory = 11
