use Rattle.std.proofs.Common.{List, arith, map, refl}
use Rattle.std.specs.Prelude.{vec_len}
use Rattle.std.specs.Arc.{arc_value}
use Rattle.site_making.specs.Keepers.{KeeperIs, are_steady, faults_at, keeper_of}
use Rattle.okws_server.specs.Served.{serving_of}
use Rattle.okws_server.specs.Views.{Gear, gear_of}
use Rattle.okws_server.proofs.Grounds.{doors_many, new_idle, none_failed}
use Rattle.okws_server.proofs.Over.{ran_over, unran_by}
use Rattle.okws_server.proofs.serving.serve_over.Goals as goal

pub serve_site-left-requires-clause-idle : goal.serve_site-left-requires-clause-idle
serve_site-left-requires-clause-idle g c κs within = new_idle _ c.args.server.now.doors c.requires.ground.new

pub returns-clause-ran : goal.returns-clause-ran
returns-clause-ran g c =
    let before : Gear = gear_of g.E.Network.Network.net g.E.Children.Children.family g.E.Console.Conn.wire g.E.Stores.Stores.depot g.E.Sinks.Sinks.rack c.args.things in
    let after : Gear = record {
      net = g.E.Network.Network.net c.close.new.self;
      family = g.E.Children.Children.family c.serve_site-left.result.children;
      console = g.E.Console.Conn.wire c.serve_site-left.result.console;
      depot = before.depot;
      rack = before.rack;
    } in
    let keepers : List KeeperIs = map (keeper_of g.K.Keeper.tables g.K.Keeper.told g.K.Keeper.faults g.K.Keeper.steady) c.args.ground.stock.keepers.items in
    let left : List KeeperIs = map (keeper_of g.K.Keeper.tables g.K.Keeper.told g.K.Keeper.faults g.K.Keeper.steady) c.serve_site-left.result.keepers.items in
    ran_over g.E.Network.Door.Conn.Conn.wire (serving_of c.args.server.now) (arc_value c.args.ground.stock.site) c.args.ground.seed before after c.serve_site-left.result.ran c.serve_site-left.result.log g.S.Sink.given g.S.Sink.faults
    (vec_len c.args.ground.doors) (record { steady = are_steady keepers; keeper_faults = faults_at keepers; sink_faults = g.S.Sink.faults c.args.log; children = before.family }) (map g.E.Network.Door.Door.entrance c.args.ground.doors.items)
    (map g.E.Network.Door.Door.entrance c.serve_site-left.result.doors.items) left c.requires.ground.new
    (omega (arith, c.args.ground.doors.ok.0, doors_many g.E.Network.Door.Door.entrance c.args.ground.doors.items c.args.server.now.doors c.requires.ground.new))
    c.requires.ground.steady (none_failed keepers c.requires.ground.stock.fresh) c.requires.log.faults refl c.close.ensures refl c.limit_of.result c.limit_of.ensures c.serve_site-left.ensures.ran

pub returns-clause-unran : goal.returns-clause-unran
returns-clause-unran g c = λ none.
    let before : Gear = gear_of g.E.Network.Network.net g.E.Children.Children.family g.E.Console.Conn.wire g.E.Stores.Stores.depot g.E.Sinks.Sinks.rack c.args.things in
    unran_by (serving_of c.args.server.now) before (g.E.Network.Network.net c.close.new.self) (g.E.Children.Children.family c.serve_site-left.result.children) (g.E.Console.Conn.wire c.serve_site-left.result.console) c.serve_site-left.result.ran
    (map g.E.Network.Door.Door.entrance c.args.ground.doors.items) (map g.E.Network.Door.Door.entrance c.serve_site-left.result.doors.items) c.requires.ground.new c.close.ensures c.serve_site-left.ensures.unserved none
