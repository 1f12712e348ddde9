use Rattle.std.proofs.Common.{◌∙◌, ◌≤◌, Err, ap, arith, length, refl}
use Rattle.std.specs.Arc.{arc_value}
use Rattle.std.proofs.lemmas.List.{length-map}
use Rattle.okws_base.specs.declared.limit.TheConstants.{MOST_PROXIES}
use Rattle.site_making.specs.Keepers.{keeper_of}
use Rattle.store_keeper.specs.contracts.stored.StoredKeeperKeeper.TheImpl as stored
use Rattle.store_keeper.specs.Depots.{beside_of}
use Rattle.store_keeper.specs.Sites.{AllTell}
use Rattle.okws_server.specs.Ending.{RoseWhere}
use Rattle.okws_server.specs.Served.{serving_of}
use Rattle.okws_server.specs.Views.{Gear, gear_of}
use Rattle.okws_server.proofs.Answered.{are_beside, err_holds, few_left, lost_beside, missed_config, stored_config, stored_starved}
use Rattle.okws_server.proofs.server.serve_stored.Goals as goal

pub give_back-requires-after_bounds : goal.give_back-requires-after_bounds
give_back-requires-after_bounds g c κs within =
    let before : Gear = gear_of g.E.Network.Network.net g.E.Children.Children.family g.E.Console.Conn.wire g.E.Stores.Stores.depot g.E.Sinks.Sinks.rack c.args.things in
    let middle : Gear = record before { depot = g.E.Stores.Stores.depot c.stored_stock.new.stores } in
    let after : Gear = gear_of g.E.Network.Network.net g.E.Children.Children.family g.E.Console.Conn.wire g.E.Stores.Stores.depot g.E.Sinks.Sinks.rack c.serve_beside-ended.result.0.2 in
    let many : length c.in-Ok.stock.keepers.items ≤ MOST_PROXIES = omega (arith, c.in-Ok.ensures.stock.many, c.in-Ok.ensures.stock.servable.proxies, length-map c.in-Ok.stock.keepers.items (keeper_of (stored.tables-value g.row.E-Stores-Keeper g.row.E-Stores-Keeper-Pin g.E.Stores.Keeper.Keeper g.E.Stores.Keeper.Keeper-dict g.E.Stores.Keeper.Pin.Pinned g.E.Stores.Keeper.Pin.Pinned-dict g.E.Stores.Keeper.Pin.Destruct-dict).it (stored.told-value g.row.E-Stores-Keeper g.row.E-Stores-Keeper-Pin g.E.Stores.Keeper.Keeper g.E.Stores.Keeper.Keeper-dict g.E.Stores.Keeper.Pin.Pinned g.E.Stores.Keeper.Pin.Pinned-dict g.E.Stores.Keeper.Pin.Destruct-dict).it (stored.faults-value g.row.E-Stores-Keeper g.row.E-Stores-Keeper-Pin g.E.Stores.Keeper.Keeper g.E.Stores.Keeper.Keeper-dict g.E.Stores.Keeper.Pin.Pinned g.E.Stores.Keeper.Pin.Pinned-dict g.E.Stores.Keeper.Pin.Destruct-dict).it (stored.steady-value g.row.E-Stores-Keeper g.row.E-Stores-Keeper-Pin g.E.Stores.Keeper.Keeper g.E.Stores.Keeper.Keeper-dict g.E.Stores.Keeper.Pin.Pinned g.E.Stores.Keeper.Pin.Pinned-dict g.E.Stores.Keeper.Pin.Destruct-dict).it)) in
    let few = few_left g.E.Network.Door.Conn.Conn.wire (serving_of c.args.server.now) (arc_value c.in-Ok.stock.site) c.args.seed middle after (keeper_of (stored.tables-value g.row.E-Stores-Keeper g.row.E-Stores-Keeper-Pin g.E.Stores.Keeper.Keeper g.E.Stores.Keeper.Keeper-dict g.E.Stores.Keeper.Pin.Pinned g.E.Stores.Keeper.Pin.Pinned-dict g.E.Stores.Keeper.Pin.Destruct-dict).it (stored.told-value g.row.E-Stores-Keeper g.row.E-Stores-Keeper-Pin g.E.Stores.Keeper.Keeper g.E.Stores.Keeper.Keeper-dict g.E.Stores.Keeper.Pin.Pinned g.E.Stores.Keeper.Pin.Pinned-dict g.E.Stores.Keeper.Pin.Destruct-dict).it (stored.faults-value g.row.E-Stores-Keeper g.row.E-Stores-Keeper-Pin g.E.Stores.Keeper.Keeper g.E.Stores.Keeper.Keeper-dict g.E.Stores.Keeper.Pin.Pinned g.E.Stores.Keeper.Pin.Pinned-dict g.E.Stores.Keeper.Pin.Destruct-dict).it (stored.steady-value g.row.E-Stores-Keeper g.row.E-Stores-Keeper-Pin g.E.Stores.Keeper.Keeper g.E.Stores.Keeper.Keeper-dict g.E.Stores.Keeper.Pin.Pinned g.E.Stores.Keeper.Pin.Pinned-dict g.E.Stores.Keeper.Pin.Destruct-dict).it) (stored.parted-value g.row.E-Stores-Keeper g.row.E-Stores-Keeper-Pin g.E.Stores.Keeper.Keeper g.E.Stores.Keeper.Keeper-dict g.E.Stores.Keeper.Pin.Pinned g.E.Stores.Keeper.Pin.Pinned-dict g.E.Stores.Keeper.Pin.Destruct-dict).it c.in-Ok.stock.keepers.items c.serve_beside-ended.result.1.items (g.O.Sink.given c.args.out.now)
    (g.O.Sink.given c.serve_beside-ended.new.out) (RoseWhere (g.O.Sink.faults c.args.out.now) (g.O.Sink.faults c.serve_beside-ended.new.out)) c.serve_beside-ended.result.0.1 c.serve_beside-ended.result.0.0 MOST_PROXIES many c.in-Ok.ensures.stock.servable.proxies
    c.serve_beside-ended.ensures in
    omega (arith, few, c.serve_beside-ended.result.1.ok.0)

pub returns-in-Ok : goal.returns-in-Ok
returns-in-Ok g c =
    let before : Gear = gear_of g.E.Network.Network.net g.E.Children.Children.family g.E.Console.Conn.wire g.E.Stores.Stores.depot g.E.Sinks.Sinks.rack c.args.things in
    let middle : Gear = record before { depot = g.E.Stores.Stores.depot c.stored_stock.new.stores } in
    let after : Gear = gear_of g.E.Network.Network.net g.E.Children.Children.family g.E.Console.Conn.wire g.E.Stores.Stores.depot g.E.Sinks.Sinks.rack c.serve_beside-ended.result.0.2 in
    let end : Gear = record after { depot = g.E.Stores.Stores.depot c.give_back.new.stores } in
    stored_config g.E.Network.Door.Conn.Conn.wire (AllTell g.E.Stores.Keeper.Keeper.told) (serving_of c.args.server.now) c.args.file.now c.args.config (arc_value c.in-Ok.stock.site) c.args.seed before middle after end (keeper_of (stored.tables-value g.row.E-Stores-Keeper g.row.E-Stores-Keeper-Pin g.E.Stores.Keeper.Keeper g.E.Stores.Keeper.Keeper-dict g.E.Stores.Keeper.Pin.Pinned g.E.Stores.Keeper.Pin.Pinned-dict g.E.Stores.Keeper.Pin.Destruct-dict).it (stored.told-value g.row.E-Stores-Keeper g.row.E-Stores-Keeper-Pin g.E.Stores.Keeper.Keeper g.E.Stores.Keeper.Keeper-dict g.E.Stores.Keeper.Pin.Pinned g.E.Stores.Keeper.Pin.Pinned-dict g.E.Stores.Keeper.Pin.Destruct-dict).it (stored.faults-value g.row.E-Stores-Keeper g.row.E-Stores-Keeper-Pin g.E.Stores.Keeper.Keeper g.E.Stores.Keeper.Keeper-dict g.E.Stores.Keeper.Pin.Pinned g.E.Stores.Keeper.Pin.Pinned-dict g.E.Stores.Keeper.Pin.Destruct-dict).it (stored.steady-value g.row.E-Stores-Keeper g.row.E-Stores-Keeper-Pin g.E.Stores.Keeper.Keeper g.E.Stores.Keeper.Keeper-dict g.E.Stores.Keeper.Pin.Pinned g.E.Stores.Keeper.Pin.Pinned-dict g.E.Stores.Keeper.Pin.Destruct-dict).it) (stored.parted-value g.row.E-Stores-Keeper g.row.E-Stores-Keeper-Pin g.E.Stores.Keeper.Keeper g.E.Stores.Keeper.Keeper-dict g.E.Stores.Keeper.Pin.Pinned g.E.Stores.Keeper.Pin.Pinned-dict g.E.Stores.Keeper.Pin.Destruct-dict).it
    (beside_of (stored.faults-value g.row.E-Stores-Keeper g.row.E-Stores-Keeper-Pin g.E.Stores.Keeper.Keeper g.E.Stores.Keeper.Keeper-dict g.E.Stores.Keeper.Pin.Pinned g.E.Stores.Keeper.Pin.Pinned-dict g.E.Stores.Keeper.Pin.Destruct-dict).it (stored.told-value g.row.E-Stores-Keeper g.row.E-Stores-Keeper-Pin g.E.Stores.Keeper.Keeper g.E.Stores.Keeper.Keeper-dict g.E.Stores.Keeper.Pin.Pinned g.E.Stores.Keeper.Pin.Pinned-dict g.E.Stores.Keeper.Pin.Destruct-dict).it (λ k. k.parted) (λ k. g.E.Stores.Keeper.Keeper.told k.store)) c.in-Ok.stock.keepers.items c.serve_beside-ended.result.1.items
    (g.O.Sink.given c.args.out.now) (g.O.Sink.given c.serve_beside-ended.new.out) (RoseWhere (g.O.Sink.faults c.args.out.now) (g.O.Sink.faults c.serve_beside-ended.new.out)) c.serve_beside-ended.result.0.1 c.serve_beside-ended.result.0.0 c.in-Ok.ensures.alike c.in-Ok.ensures.same (record { sound = c.in-Ok.ensures.sound; rules = c.in-Ok.ensures.stock.servable.rules.queries })
    (record {
      wanted = c.requires.stores;
      before = refl;
      opened = c.in-Ok.ensures.made;
      held = c.in-Ok.ensures.held;
      after = refl;
      beside_is = are_beside (stored.tables-value g.row.E-Stores-Keeper g.row.E-Stores-Keeper-Pin g.E.Stores.Keeper.Keeper g.E.Stores.Keeper.Keeper-dict g.E.Stores.Keeper.Pin.Pinned g.E.Stores.Keeper.Pin.Pinned-dict g.E.Stores.Keeper.Pin.Destruct-dict).it (stored.told-value g.row.E-Stores-Keeper g.row.E-Stores-Keeper-Pin g.E.Stores.Keeper.Keeper g.E.Stores.Keeper.Keeper-dict g.E.Stores.Keeper.Pin.Pinned g.E.Stores.Keeper.Pin.Pinned-dict g.E.Stores.Keeper.Pin.Destruct-dict).it (stored.faults-value g.row.E-Stores-Keeper g.row.E-Stores-Keeper-Pin g.E.Stores.Keeper.Keeper g.E.Stores.Keeper.Keeper-dict g.E.Stores.Keeper.Pin.Pinned g.E.Stores.Keeper.Pin.Pinned-dict g.E.Stores.Keeper.Pin.Destruct-dict).it (stored.steady-value g.row.E-Stores-Keeper g.row.E-Stores-Keeper-Pin g.E.Stores.Keeper.Keeper g.E.Stores.Keeper.Keeper-dict g.E.Stores.Keeper.Pin.Pinned g.E.Stores.Keeper.Pin.Pinned-dict g.E.Stores.Keeper.Pin.Destruct-dict).it (λ k. k.parted) (λ k. g.E.Stores.Keeper.Keeper.told k.store) c.serve_beside-ended.result.1.items;
      lost = lost_beside (stored.told-value g.row.E-Stores-Keeper g.row.E-Stores-Keeper-Pin g.E.Stores.Keeper.Keeper g.E.Stores.Keeper.Keeper-dict g.E.Stores.Keeper.Pin.Pinned g.E.Stores.Keeper.Pin.Pinned-dict g.E.Stores.Keeper.Pin.Destruct-dict).it (stored.faults-value g.row.E-Stores-Keeper g.row.E-Stores-Keeper-Pin g.E.Stores.Keeper.Keeper g.E.Stores.Keeper.Keeper-dict g.E.Stores.Keeper.Pin.Pinned g.E.Stores.Keeper.Pin.Pinned-dict g.E.Stores.Keeper.Pin.Destruct-dict).it (λ k. k.parted) (λ k. g.E.Stores.Keeper.Keeper.told k.store) c.serve_beside-ended.result.1.items;
      closed = c.give_back.ensures;
    }) c.serve_beside-ended.ensures

pub returns-in-Err-Failed : goal.returns-in-Err-Failed
returns-in-Err-Failed g c =
    let before : Gear = gear_of g.E.Network.Network.net g.E.Children.Children.family g.E.Console.Conn.wire g.E.Stores.Stores.depot g.E.Sinks.Sinks.rack c.args.things in
    let middle : Gear = record before { depot = g.E.Stores.Stores.depot c.stored_stock.new.stores } in
    let after : Gear = gear_of g.E.Network.Network.net g.E.Children.Children.family g.E.Console.Conn.wire g.E.Stores.Stores.depot g.E.Sinks.Sinks.rack c.refused.result.2 in
    missed_config g.E.Network.Door.Conn.Conn.wire (AllTell g.E.Stores.Keeper.Keeper.told) (serving_of c.args.server.now) c.args.file.now c.args.config c.args.seed before middle after (g.O.Sink.given c.args.out.now) (g.O.Sink.given c.refused.new.out)
    (RoseWhere (g.O.Sink.faults c.args.out.now) (g.O.Sink.faults c.refused.new.out)) c.refused.result.1 c.refused.result.0 c.refused.ensures.status c.requires.stores refl
    (ap (λ o. gear_of g.E.Network.Network.net g.E.Children.Children.family g.E.Console.Conn.wire g.E.Stores.Stores.depot g.E.Sinks.Sinks.rack o) c.refused.ensures.things) (err_holds c.stored_stock.result _ _ c.in-Err-Failed.is c.stored_stock.ensures.asked) (c.stored_stock.ensures.failed (c.in-Err-Failed.is ∙ ap Err c.in-Err-Failed.field-0-is)) c.refused.ensures.tells

pub returns-in-Err-NoMemory : goal.returns-in-Err-NoMemory
returns-in-Err-NoMemory g c =
    let before : Gear = gear_of g.E.Network.Network.net g.E.Children.Children.family g.E.Console.Conn.wire g.E.Stores.Stores.depot g.E.Sinks.Sinks.rack c.args.things in
    let middle : Gear = record before { depot = g.E.Stores.Stores.depot c.stored_stock.new.stores } in
    let after : Gear = gear_of g.E.Network.Network.net g.E.Children.Children.family g.E.Console.Conn.wire g.E.Stores.Stores.depot g.E.Sinks.Sinks.rack c.refused-in-Err-NoMemory.result.2 in
    stored_starved g.E.Network.Door.Conn.Conn.wire (AllTell g.E.Stores.Keeper.Keeper.told) (serving_of c.args.server.now) c.args.file.now c.args.config c.args.seed before middle after (g.O.Sink.given c.args.out.now) (g.O.Sink.given c.refused-in-Err-NoMemory.new.out)
    (RoseWhere (g.O.Sink.faults c.args.out.now) (g.O.Sink.faults c.refused-in-Err-NoMemory.new.out)) c.refused-in-Err-NoMemory.result.1 c.refused-in-Err-NoMemory.result.0 c.refused-in-Err-NoMemory.ensures.status c.requires.stores refl
    (ap (λ o. gear_of g.E.Network.Network.net g.E.Children.Children.family g.E.Console.Conn.wire g.E.Stores.Stores.depot g.E.Sinks.Sinks.rack o) c.refused-in-Err-NoMemory.ensures.things) (err_holds c.stored_stock.result _ _ c.in-Err-NoMemory.is c.stored_stock.ensures.asked)
    (c.stored_stock.ensures.spared (c.in-Err-NoMemory.is ∙ ap Err c.in-Err-NoMemory.field-0-is)) c.refused-in-Err-NoMemory.ensures.tells
