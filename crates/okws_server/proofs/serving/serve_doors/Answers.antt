use Rattle.std.proofs.Common.{rules, ◌≡◌, None, ap, map, refl}
use Rattle.std.specs.Prelude.{option_map}
use Rattle.std.specs.Arc.{arc_value}
use Rattle.site_making.specs.Keepers.{keeper_of}
use Rattle.okws_server.specs.Served.{serving_of}
use Rattle.okws_server.specs.Views.{Gear, gear_of}
use Rattle.okws_server.proofs.Over.{at_logged, at_missed, at_none, untouched_logged, untouched_missed, untouched_none}
use Rattle.okws_server.proofs.serving.serve_doors.Goals as goal

pub returns-in-Err-clause-ran : goal.returns-in-Err-clause-ran
returns-in-Err-clause-ran g c =
    let before : Gear = gear_of g.E.Network.Network.net g.E.Children.Children.family g.E.Console.Conn.wire g.E.Stores.Stores.depot g.E.Sinks.Sinks.rack c.args.things in
    let missed : Gear = record before { rack = g.E.Sinks.Sinks.rack c.open.new.self } in
    let after : Gear = gear_of g.E.Network.Network.net g.E.Children.Children.family g.E.Console.Conn.wire g.E.Stores.Stores.depot g.E.Sinks.Sinks.rack c.serve_unlogged-things-in-Err.result.0 in
    at_missed g.E.Network.Door.Conn.Conn.wire (serving_of c.args.server.now) (arc_value c.args.ground.stock.site) c.args.ground.seed c.in-Some.path.now before missed after (map (keeper_of g.K.Keeper.tables g.K.Keeper.told g.K.Keeper.faults g.K.Keeper.steady) c.serve_unlogged-things-in-Err.result.2.items) c.serve_unlogged-things-in-Err.result.1
    (ap (option_map (λ p. p.now)) c.in-Some.is) refl c.in-Err.ensures.failed c.serve_unlogged-things-in-Err.ensures.ran

pub returns-in-Ok-clause-ran : goal.returns-in-Ok-clause-ran
returns-in-Ok-clause-ran g c =
    let before : Gear = gear_of g.E.Network.Network.net g.E.Children.Children.family g.E.Console.Conn.wire g.E.Stores.Stores.depot g.E.Sinks.Sinks.rack c.args.things in
    let opened : Gear = record before { rack = g.E.Sinks.Sinks.rack c.open.new.self } in
    let after : Gear = gear_of g.E.Network.Network.net g.E.Children.Children.family g.E.Console.Conn.wire g.E.Stores.Stores.depot g.E.Sinks.Sinks.rack c.serve_logged-things.result.0 in
    at_logged g.E.Network.Door.Conn.Conn.wire (serving_of c.args.server.now) (arc_value c.args.ground.stock.site) c.args.ground.seed c.in-Some.path.now before opened after (map (keeper_of g.K.Keeper.tables g.K.Keeper.told g.K.Keeper.faults g.K.Keeper.steady) c.serve_logged-things.result.2.items) c.serve_logged-things.result.1
    (ap (option_map (λ p. p.now)) c.in-Some.is) (ap (λ r. record before { rack = r }) c.in-Ok.ensures.opened) c.serve_logged-things.ensures.ran

pub returns-in_default-clause-ran : goal.returns-in_default-clause-ran
returns-in_default-clause-ran g c =
    let before : Gear = gear_of g.E.Network.Network.net g.E.Children.Children.family g.E.Console.Conn.wire g.E.Stores.Stores.depot g.E.Sinks.Sinks.rack c.args.things in
    let after : Gear = gear_of g.E.Network.Network.net g.E.Children.Children.family g.E.Console.Conn.wire g.E.Stores.Stores.depot g.E.Sinks.Sinks.rack c.serve_unlogged-things.result.0 in
    let none : (serving_of c.args.server.now).log ≡ None = search rules in
    at_none g.E.Network.Door.Conn.Conn.wire (serving_of c.args.server.now) (arc_value c.args.ground.stock.site) c.args.ground.seed before after (map (keeper_of g.K.Keeper.tables g.K.Keeper.told g.K.Keeper.faults g.K.Keeper.steady) c.serve_unlogged-things.result.2.items) c.serve_unlogged-things.result.1
    none c.serve_unlogged-things.ensures.ran

pub returns-in-Err-clause-unran : goal.returns-in-Err-clause-unran
returns-in-Err-clause-unran g c = λ unran.
    let before : Gear = gear_of g.E.Network.Network.net g.E.Children.Children.family g.E.Console.Conn.wire g.E.Stores.Stores.depot g.E.Sinks.Sinks.rack c.args.things in
    let missed : Gear = record before { rack = g.E.Sinks.Sinks.rack c.open.new.self } in
    let after : Gear = gear_of g.E.Network.Network.net g.E.Children.Children.family g.E.Console.Conn.wire g.E.Stores.Stores.depot g.E.Sinks.Sinks.rack c.serve_unlogged-things-in-Err.result.0 in
    untouched_missed (serving_of c.args.server.now) c.in-Some.path.now before missed after (ap (option_map (λ p. p.now)) c.in-Some.is) refl c.in-Err.ensures.failed (c.serve_unlogged-things-in-Err.ensures.unran unran)

pub returns-in-Ok-clause-unran : goal.returns-in-Ok-clause-unran
returns-in-Ok-clause-unran g c = λ unran.
    let before : Gear = gear_of g.E.Network.Network.net g.E.Children.Children.family g.E.Console.Conn.wire g.E.Stores.Stores.depot g.E.Sinks.Sinks.rack c.args.things in
    let opened : Gear = record before { rack = g.E.Sinks.Sinks.rack c.open.new.self } in
    let after : Gear = gear_of g.E.Network.Network.net g.E.Children.Children.family g.E.Console.Conn.wire g.E.Stores.Stores.depot g.E.Sinks.Sinks.rack c.serve_logged-things.result.0 in
    untouched_logged (serving_of c.args.server.now) c.in-Some.path.now before opened after (ap (option_map (λ p. p.now)) c.in-Some.is) (ap (λ r. record before { rack = r }) c.in-Ok.ensures.opened) (c.serve_logged-things.ensures.unran unran)

pub returns-in_default-clause-unran : goal.returns-in_default-clause-unran
returns-in_default-clause-unran g c = λ unran.
    let before : Gear = gear_of g.E.Network.Network.net g.E.Children.Children.family g.E.Console.Conn.wire g.E.Stores.Stores.depot g.E.Sinks.Sinks.rack c.args.things in
    let after : Gear = gear_of g.E.Network.Network.net g.E.Children.Children.family g.E.Console.Conn.wire g.E.Stores.Stores.depot g.E.Sinks.Sinks.rack c.serve_unlogged-things.result.0 in
    let none : (serving_of c.args.server.now).log ≡ None = search rules in
    untouched_none (serving_of c.args.server.now) before after none (c.serve_unlogged-things.ensures.unran unran)
