use Rattle.std.proofs.Common.{List, map, refl, subst}
use Rattle.std.specs.Prelude.{IfSome}
use Rattle.std.specs.Arc.{arc_value}
use Rattle.std.specs.declared.option.Option.{Option}
use Rattle.site_making.specs.Keepers.{KeeperIs, keeper_of}
use Rattle.okws_serve.specs.declared.outfit.Ran.{Ran}
use Rattle.okws_server.specs.Served.{RanLogged, serving_of}
use Rattle.okws_server.specs.Views.{Gear, gear_of}
use Rattle.okws_server.proofs.Over.{ran_logged, ran_lost}
use Rattle.okws_server.proofs.serving.serve_logged.Goals as goal

pub returns-in-Some-log-clause-ran : goal.returns-in-Some-log-clause-ran
returns-in-Some-log-clause-ran g c =
    let before : Gear = gear_of g.E.Network.Network.net g.E.Children.Children.family g.E.Console.Conn.wire g.E.Stores.Stores.depot g.E.Sinks.Sinks.rack c.args.things in
    let over : Gear = gear_of g.E.Network.Network.net g.E.Children.Children.family g.E.Console.Conn.wire g.E.Stores.Stores.depot g.E.Sinks.Sinks.rack c.serve_over-things.result.0 in
    let after : Gear = record over { rack = g.E.Sinks.Sinks.rack c.close.new.self } in
    let left : List KeeperIs = map (keeper_of g.K.Keeper.tables g.K.Keeper.told g.K.Keeper.faults g.K.Keeper.steady) c.serve_over-things.result.3.items in
    subst (λ (o : Option Ran). IfSome o (RanLogged g.E.Network.Door.Conn.Conn.wire (serving_of c.args.server.now) (arc_value c.args.ground.stock.site) c.args.ground.seed c.args.path.now before after left)) c.in-Some.is
    (ran_logged g.E.Network.Door.Conn.Conn.wire (serving_of c.args.server.now) (arc_value c.args.ground.stock.site) c.args.ground.seed c.args.path.now before over after left
    c.serve_over-things.result.2 c.serve_over-things.result.1 c.in-Some-log.sink g.E.Sinks.Sink.Sink.given g.E.Sinks.Sink.Sink.faults c.in-Some-log.is refl c.serve_over-things.ensures.sinks c.close.ensures c.serve_over-things.ensures.ran)

pub returns-in-None-clause-ran : goal.returns-in-None-clause-ran
returns-in-None-clause-ran g c =
    let before : Gear = gear_of g.E.Network.Network.net g.E.Children.Children.family g.E.Console.Conn.wire g.E.Stores.Stores.depot g.E.Sinks.Sinks.rack c.args.things in
    let over : Gear = gear_of g.E.Network.Network.net g.E.Children.Children.family g.E.Console.Conn.wire g.E.Stores.Stores.depot g.E.Sinks.Sinks.rack c.serve_over-things.result.0 in
    let left : List KeeperIs = map (keeper_of g.K.Keeper.tables g.K.Keeper.told g.K.Keeper.faults g.K.Keeper.steady) c.serve_over-things.result.3.items in
    let P = RanLogged g.E.Network.Door.Conn.Conn.wire (serving_of c.args.server.now) (arc_value c.args.ground.stock.site) c.args.ground.seed c.args.path.now before over left in
    subst (λ (o : Option Ran). IfSome o P) c.in-Some.is (ran_lost P c.serve_over-things.result.2 c.serve_over-things.result.1 c.in-None.is c.serve_over-things.ensures.both)
