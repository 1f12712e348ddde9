-- A frame that was taken, and its answer.
use Rattle.std.proofs.Common.{ℕ, List, [], inr}
use Rattle.okws_base.specs.declared.crash.Cause.TheVariants as cause
use Rattle.okws_plan.specs.declared.configuration.Config.{Config}
use Rattle.frame_codec.specs.Spelling.{Spells, server_spelling}
use Rattle.frame_codec.specs.declared.frame.ServiceFrame.{ServiceFrame}
use Rattle.okws_outer.specs.Wire.{Wire}
use Rattle.monitor_model.specs.declared.record.Item.{Item}
use Rattle.monitor_model.specs.Course.{Speaker}
use Rattle.monitor_model.specs.Seen.{Seen}
use Rattle.service_cell.specs.Standing.{Moves}
use Rattle.service_cell.specs.Exchange.{Exchanges, AnswersFrame}
use Rattle.service_cell.specs.declared.exchange.Exchanged.{Exchanged}
use Rattle.service_cell.specs.declared.exchange.Exchanged.TheVariants.{Goes, Reply, Crashed}
use Rattle.service_cell.proofs.Wires.{took_then_put, took_then_broke}

pub exchanged : (C : Config) (w : Speaker) (old mid new : Wire) (items : List Item) (said : ServiceFrame) (taken : List ℕ) (J : Seen) (result : Exchanged) (items' : List Item) (due : List ℕ) (now : Seen)
    → Spells taken said → Moves old mid taken [] → AnswersFrame C w mid items said J result new items' due now → Exchanges C w old items J result new items' due now
exchanged C w old mid new items said taken J Goes items' due now spells before a =
    (said, a.1, taken, (spells, a.0), a.2, a.3, took_then_put old mid new taken (server_spelling a.1) before a.4)
exchanged C w old mid new items said taken J Reply items' due now spells before a =
    (said, taken, (spells, a.0), a.1, a.2, a.3, took_then_put old mid new taken [] before a.4)
exchanged C w old mid new items said taken J (Crashed cause.LinkFault) items' due now spells before a =
    inr (said, a.1, taken, (spells, a.0), took_then_broke old mid new taken (server_spelling a.1) before a.4, a.2, a.3, a.5)
exchanged C w old mid new items said taken J (Crashed cause.FrameLimit) items' due now spells before a =
    (said, taken, spells, a.0, took_then_put old mid new taken [] before a.3, a.2, a.1, a.4)
exchanged C w old mid new items said taken J (Crashed cause.BadFrame) items' due now spells before a = absurd a
exchanged C w old mid new items said taken J (Crashed cause.Ended) items' due now spells before a = absurd a
exchanged C w old mid new items said taken J (Crashed cause.Starved) items' due now spells before a =
    inr (said, taken, (spells, a.0), took_then_put old mid new taken [] before a.3, a.1, a.2, a.4)
