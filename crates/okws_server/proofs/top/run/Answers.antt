use Rattle.std.proofs.Common.{◌∙◌, ap, map, refl, sym}
use Rattle.std.specs.Prelude.{option_map, string_bytes}
use Rattle.command_line.specs.Asked.{asked}
use Rattle.command_line.specs.Meant.{meant}
use Rattle.store_keeper.specs.Sites.{AllTell}
use Rattle.okws_server.specs.Views.{View, gear_of, view_of}
use Rattle.okws_server.proofs.Obeyed.{does_obey, says_obeys, words_within}
use Rattle.okws_server.proofs.top.run.Goals as goal

pub obey-requires-after_bounds : goal.obey-requires-after_bounds
obey-requires-after_bounds g c κs within = words_within (map string_bytes c.args.words.now) (meant c.in-Ok-Some.command) (sym (ap (option_map meant) c.in-Ok-Some.field-0-is) ∙ c.in-Ok-Some.ensures)

pub returns-in-Ok-Some : goal.returns-in-Ok-Some
returns-in-Ok-Some g c =
    let before : View = view_of g.F.Files.shelf g.O.Sink.given g.O.Sink.faults c.args.files.now c.args.out.now (gear_of g.E.Network.Network.net g.E.Children.Children.family g.E.Console.Conn.wire g.E.Stores.Stores.depot g.E.Sinks.Sinks.rack c.args.things) c.args.seed in
    let after : View = view_of g.F.Files.shelf g.O.Sink.given g.O.Sink.faults c.obey.new.files c.obey.new.out (gear_of g.E.Network.Network.net g.E.Children.Children.family g.E.Console.Conn.wire g.E.Stores.Stores.depot g.E.Sinks.Sinks.rack c.obey.result.2) c.args.seed in
    does_obey g.E.Network.Door.Conn.Conn.wire (AllTell g.E.Stores.Keeper.Keeper.told) (asked (map string_bytes c.args.words.now)) (meant c.in-Ok-Some.command) before after c.obey.result.1 c.obey.result.0
    (sym (ap (option_map meant) c.in-Ok-Some.field-0-is) ∙ c.in-Ok-Some.ensures) refl c.obey.ensures

pub returns-in-Ok-None : goal.returns-in-Ok-None
returns-in-Ok-None g c =
    let before : View = view_of g.F.Files.shelf g.O.Sink.given g.O.Sink.faults c.args.files.now c.args.out.now (gear_of g.E.Network.Network.net g.E.Children.Children.family g.E.Console.Conn.wire g.E.Stores.Stores.depot g.E.Sinks.Sinks.rack c.args.things) c.args.seed in
    let after : View = view_of g.F.Files.shelf g.O.Sink.given g.O.Sink.faults c.args.files.now c.answer_words.new.out (gear_of g.E.Network.Network.net g.E.Children.Children.family g.E.Console.Conn.wire g.E.Stores.Stores.depot g.E.Sinks.Sinks.rack c.args.things) c.args.seed in
    says_obeys g.E.Network.Door.Conn.Conn.wire (AllTell g.E.Stores.Keeper.Keeper.told) (asked (map string_bytes c.args.words.now)) before after c.empty_record.result c.answer_words.result
    (sym (ap (option_map meant) c.in-Ok-None.field-0-is) ∙ c.in-Ok-None.ensures) refl c.empty_record.ensures refl refl c.answer_words.ensures
