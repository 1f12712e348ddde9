use Rattle.std.proofs.Common.{rules}
use Rattle.store_keeper.specs.Sites.{AllTell}
use Rattle.okws_server.specs.Served.{serving_of}
use Rattle.okws_server.specs.Views.{View, gear_of, view_of}
use Rattle.okws_server.proofs.Files.{reads_still}
use Rattle.okws_server.proofs.Obeyed.{file_served}
use Rattle.okws_server.proofs.server.serve.Goals as goal

pub returns-in-Ok : goal.returns-in-Ok
returns-in-Ok g c =
    let before : View = view_of g.F.Files.shelf g.O.Sink.given g.O.Sink.faults c.args.files.now c.args.out.now (gear_of g.E.Network.Network.net g.E.Children.Children.family g.E.Console.Conn.wire g.E.Stores.Stores.depot g.E.Sinks.Sinks.rack c.args.things) c.args.seed in
    let after : View = view_of g.F.Files.shelf g.O.Sink.given g.O.Sink.faults c.read_config.new.files c.serve_config.new.out (gear_of g.E.Network.Network.net g.E.Children.Children.family g.E.Console.Conn.wire g.E.Stores.Stores.depot g.E.Sinks.Sinks.rack c.serve_config.result.2) c.args.seed in
    record {
      served = file_served g.E.Network.Door.Conn.Conn.wire (AllTell g.E.Stores.Keeper.Keeper.told) (serving_of c.args.server.now) before after c.in-Ok.config c.serve_config.result.1 c.serve_config.result.0 c.in-Ok.ensures.is
          (reads_still before.shelf after.shelf _ _ c.in-Ok.ensures.reads (λ fault. cc)) c.serve_config.ensures;
      files = search rules;
    }
