use Rattle.std.proofs.Common.{◌∙◌, Bool, List, ap, inr, map, refl, subst}
use Rattle.std.specs.Prelude.{IfSome}
use Rattle.std.specs.Arc.{arc_value}
use Rattle.std.specs.List.{list_any}
use Rattle.std.specs.declared.option.Option.{Option}
use Rattle.site_making.specs.Keepers.{KeeperIs, keeper_of}
use Rattle.okws_serve.specs.declared.outfit.Ran.{Ran}
use Rattle.okws_server.specs.Ending.{RoseWhere}
use Rattle.okws_server.specs.Served.{EndsAs, RanAt, serving_of}
use Rattle.okws_server.specs.Views.{Gear, gear_of}
use Rattle.okws_server.proofs.server.serve_open.Goals as goal

pub returns : goal.returns
returns g c =
    let wire = g.E.Network.Door.Conn.Conn.wire in
    let C = arc_value c.args.ground.stock.site in
    let before : Gear = gear_of g.E.Network.Network.net g.E.Children.Children.family g.E.Console.Conn.wire g.E.Stores.Stores.depot g.E.Sinks.Sinks.rack c.args.things in
    let after : Gear = gear_of g.E.Network.Network.net g.E.Children.Children.family g.E.Console.Conn.wire g.E.Stores.Stores.depot g.E.Sinks.Sinks.rack c.serve_doors-things.result.0 in
    let left : List KeeperIs = map (keeper_of g.K.Keeper.tables g.K.Keeper.told g.K.Keeper.faults g.K.Keeper.steady) c.serve_doors-things.result.3.items in
    inr (
      c.in-Some.ran,
      c.serve_doors-things.result.2,
      subst (λ (o : Option Ran). IfSome o (λ ran. RanAt wire (serving_of c.args.server.now) C c.args.ground.seed before after left ran c.serve_doors-things.result.2)) c.in-Some.is c.serve_doors-things.ensures.ran,
      refl,
      subst (λ (lost : Bool). EndsAs c.in-Some.ran c.serve_doors-things.result.2 lost (g.O.Sink.given c.args.out.now) (g.O.Sink.given c.print_end-status.new.out) (RoseWhere (g.O.Sink.faults c.args.out.now) (g.O.Sink.faults c.print_end-status.new.out)) c.print_end-status.result)
          (c.has_lost.ensures ∙ ap (list_any g.K.Keeper.parted) c.deref.ensures.value) c.print_end-status.ensures,
    )
