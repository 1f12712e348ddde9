use Rattle.std.proofs.Common.{ap}
use Rattle.std.specs.Arc.{arc_value}
use Rattle.index_keeper.specs.contracts.keeper.IndexKeeperKeeper.TheImpl as row
use Rattle.site_making.specs.Keepers.{keeper_of}
use Rattle.store_keeper.specs.Sites.{AllTell}
use Rattle.okws_server.specs.Ending.{RoseWhere}
use Rattle.okws_server.specs.Served.{serving_of}
use Rattle.okws_server.specs.Views.{Gear, gear_of}
use Rattle.okws_server.proofs.Answered.{memory_at, memory_starved, none_parted}
use Rattle.okws_server.proofs.Grounds.{stock_at}
use Rattle.okws_server.proofs.server.serve_in_memory.Goals as goal

pub serve_stock-ended-requires-clause-stock : goal.serve_stock-ended-requires-clause-stock
serve_stock-ended-requires-clause-stock g c κs within = stock_at _ _ _ c.in-Ok.ensures.site c.in-Ok.ensures.stock

pub returns : goal.returns
returns g c =
    let before : Gear = gear_of g.E.Network.Network.net g.E.Children.Children.family g.E.Console.Conn.wire g.E.Stores.Stores.depot g.E.Sinks.Sinks.rack c.args.things in
    let after : Gear = gear_of g.E.Network.Network.net g.E.Children.Children.family g.E.Console.Conn.wire g.E.Stores.Stores.depot g.E.Sinks.Sinks.rack c.serve_stock-ended.result.0.2 in
    memory_at g.E.Network.Door.Conn.Conn.wire (AllTell g.E.Stores.Keeper.Keeper.told) (serving_of c.args.server.now) c.args.config (arc_value c.in-Ok.stock.site) c.args.seed before after (keeper_of row.tables-value.it row.told-value.it row.faults-value.it row.steady-value.it) row.parted-value.it
    c.in-Ok.stock.keepers.items c.serve_stock-ended.result.1.items (g.O.Sink.given c.args.out.now) (g.O.Sink.given c.serve_stock-ended.new.out) (RoseWhere (g.O.Sink.faults c.args.out.now) (g.O.Sink.faults c.serve_stock-ended.new.out)) c.serve_stock-ended.result.0.1
    c.serve_stock-ended.result.0.0 c.in-Ok.ensures.site c.requires.memory (none_parted c.serve_stock-ended.result.1.items) (record { sound = c.requires.sound; rules = c.requires.rules }) c.serve_stock-ended.ensures

pub returns-in_default : goal.returns-in_default
returns-in_default g c =
    let before : Gear = gear_of g.E.Network.Network.net g.E.Children.Children.family g.E.Console.Conn.wire g.E.Stores.Stores.depot g.E.Sinks.Sinks.rack c.args.things in
    let after : Gear = gear_of g.E.Network.Network.net g.E.Children.Children.family g.E.Console.Conn.wire g.E.Stores.Stores.depot g.E.Sinks.Sinks.rack c.refused.result.2 in
    memory_starved g.E.Network.Door.Conn.Conn.wire (AllTell g.E.Stores.Keeper.Keeper.told) (serving_of c.args.server.now) c.args.config c.args.seed before after (g.O.Sink.given c.args.out.now) (g.O.Sink.given c.refused.new.out)
    (RoseWhere (g.O.Sink.faults c.args.out.now) (g.O.Sink.faults c.refused.new.out)) c.refused.result.1 c.refused.result.0 c.refused.ensures.status c.requires.memory
    (ap (λ o. gear_of g.E.Network.Network.net g.E.Children.Children.family g.E.Console.Conn.wire g.E.Stores.Stores.depot g.E.Sinks.Sinks.rack o) c.refused.ensures.things) c.refused.ensures.tells
