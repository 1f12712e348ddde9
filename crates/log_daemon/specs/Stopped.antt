-- When a log stops.
use Rattle.std.specs.Prelude.{Bool, true, false}
use Rattle.log_daemon.specs.declared.daemon.WriteOut.{WriteOut}
use Rattle.log_daemon.specs.declared.daemon.WriteOut.TheVariants.{Written, LogFault, Stopped}

-- The log has stopped, unless all was written.
abbrev pub is_stopped : WriteOut → Bool
is_stopped Written = false
is_stopped LogFault = true
is_stopped Stopped = true
