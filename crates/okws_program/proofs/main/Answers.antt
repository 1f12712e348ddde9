use denote.Exit.{yes}
use denote.Param.Send.{arg_send, param_send}
use Rattle.okws_program.proofs.main.Goals as goal
use Rattle.real_stores.proofs.FileCrosses.{FileKeeper-send}

-- the stores' keepers go to the worker threads
pub okws-status-requires-send-W-Equipment-Stores-Keeper : goal.okws-status-requires-send-W-Equipment-Stores-Keeper
okws-status-requires-send-W-Equipment-Stores-Keeper c κs _ _ = param_send _ _ (arg_send _ yes _ FileKeeper-send)
