use Rattle.std.proofs.Common.{◌∙◌, Err, ap}
use Rattle.std.specs.Arc.{arc_value}
use Rattle.okws_outer.specs.Networks.{Net}
use Rattle.site_making.specs.Keepers.{keeper_of}
use Rattle.okws_server.specs.Ending.{RoseWhere}
use Rattle.okws_server.specs.Served.{serving_of}
use Rattle.okws_server.specs.Views.{Gear, gear_of}
use Rattle.okws_server.proofs.Answered.{listened_starved, listens_on, open_over, starved_over}
use Rattle.okws_server.proofs.Grounds.{entrances_new}
use Rattle.okws_server.proofs.server.serve_stock.Goals as goal

pub serve_open-requires-after_bounds : goal.serve_open-requires-after_bounds
serve_open-requires-after_bounds g c κs within = record {
  stock = c.requires.stock;
  steady = c.requires.steady;
  words = c.requires.words;
  new = entrances_new g.E.Network.Door.Door.entrance c.in-Ok.doors.items c.args.server.now.doors c.in-Ok.ensures.count c.in-Ok.ensures.doors;
}

pub returns-in-Ok : goal.returns-in-Ok
returns-in-Ok g c =
    let before : Gear = gear_of g.E.Network.Network.net g.E.Children.Children.family g.E.Console.Conn.wire g.E.Stores.Stores.depot g.E.Sinks.Sinks.rack c.args.things in
    let middle : Gear = record before { net = g.E.Network.Network.net c.listen.new.self } in
    let after : Gear = gear_of g.E.Network.Network.net g.E.Children.Children.family g.E.Console.Conn.wire g.E.Stores.Stores.depot g.E.Sinks.Sinks.rack c.serve_open.result.0.2 in
    open_over g.E.Network.Door.Conn.Conn.wire (serving_of c.args.server.now) (arc_value c.args.stock.site) c.args.seed before middle after (keeper_of g.K.Keeper.tables g.K.Keeper.told g.K.Keeper.faults g.K.Keeper.steady) g.K.Keeper.parted c.args.stock.keepers.items c.serve_open.result.1.items (g.O.Sink.given c.args.out.now) (g.O.Sink.given c.serve_open.new.out)
    (RoseWhere (g.O.Sink.faults c.args.out.now) (g.O.Sink.faults c.serve_open.new.out)) c.serve_open.result.0.1 c.serve_open.result.0.0
    (ap {A = Net} (λ (n : Net). record before { net = n }) (listens_on (serving_of c.args.server.now) before.net middle.net c.in-Ok.ensures.net.net c.in-Ok.ensures.net.faults)) c.serve_open.ensures

pub returns : goal.returns
returns g c =
    let before : Gear = gear_of g.E.Network.Network.net g.E.Children.Children.family g.E.Console.Conn.wire g.E.Stores.Stores.depot g.E.Sinks.Sinks.rack c.args.things in
    let middle : Gear = record before { net = g.E.Network.Network.net c.listen.new.self } in
    let after : Gear = gear_of g.E.Network.Network.net g.E.Children.Children.family g.E.Console.Conn.wire g.E.Stores.Stores.depot g.E.Sinks.Sinks.rack c.refused-ended-in-Err-NoMemory.result.2 in
    starved_over g.E.Network.Door.Conn.Conn.wire (serving_of c.args.server.now) (arc_value c.args.stock.site) c.args.seed before middle after (keeper_of g.K.Keeper.tables g.K.Keeper.told g.K.Keeper.faults g.K.Keeper.steady) g.K.Keeper.parted c.args.stock.keepers.items (g.O.Sink.given c.args.out.now) (g.O.Sink.given c.refused-ended-in-Err-NoMemory.new.out)
    (RoseWhere (g.O.Sink.faults c.args.out.now) (g.O.Sink.faults c.refused-ended-in-Err-NoMemory.new.out)) c.refused-ended-in-Err-NoMemory.result.1 c.refused-ended-in-Err-NoMemory.result.0 c.refused-ended-in-Err-NoMemory.ensures.status
    (ap {A = Net} (λ (n : Net). record before { net = n }) (listens_on (serving_of c.args.server.now) before.net middle.net c.listen.ensures.net.net (listened_starved c.listen.result before.net.faults middle.net.faults (c.in-Err-NoMemory.is ∙ ap Err c.in-Err-NoMemory.field-0-is) c.listen.ensures.net.faults)))
    (ap (λ o. gear_of g.E.Network.Network.net g.E.Children.Children.family g.E.Console.Conn.wire g.E.Stores.Stores.depot g.E.Sinks.Sinks.rack o) c.refused-ended-in-Err-NoMemory.ensures.things) c.refused-ended-in-Err-NoMemory.ensures.tells
