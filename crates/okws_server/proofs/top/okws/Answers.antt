use Rattle.std.proofs.Common.{◌≡◌, ◌∙◌, Some, map, sym}
use Rattle.std.specs.Prelude.{string_bytes}
use Rattle.std.specs.declared.option.Option.{Option}
use Rattle.command_line.specs.Asked.{asked}
use Rattle.okws_outer.specs.declared.world.Outside.{Outside}
use Rattle.okws_world.specs.declared.equipment.Objects.{Objects}
use Rattle.store_keeper.specs.Sites.{AllTell}
use Rattle.okws_server.specs.Commands.{Obeys}
use Rattle.okws_server.specs.Views.{gear_of, view_of}
use Rattle.okws_server.proofs.Ended.{over_objects}
use Rattle.okws_server.proofs.top.okws.Goals as goal

-- both kinds of objects that a run was given and gave back
over_both : {A B : Type 0} (P : A → A → B → B → Type 0) (o p : Option A) (q r : Option B) (a b x y : A) (s t u v : B) → o ≡ Some a → p ≡ Some b → q ≡ Some s → r ≡ Some t → o ≡ Some x → p ≡ Some y → q ≡ Some u → r ≡ Some v →
    P a b s t → P x y u v
over_both {A} {B} P o p q r a b x y s t u v oa pb qs rt ox py qu rv h =
    over_objects (λ (k l : A). P k l u v) o p a b x y oa pb ox py (over_objects (λ (k l : B). P a b k l) q r s t u v qs rt qu rv h)

pub returns-clause-runs : goal.returns-clause-runs
returns-clause-runs g c a b s t old fitted new kept =
    over_both
    (λ (k l : Outside g.row.W-Files.Denot g.row.W-Out.Denot)
    (m n : Objects g.row.W-Equipment-Network.Denot g.row.W-Equipment-Children.Denot g.row.W-Equipment-Console.Denot g.row.W-Equipment-Stores.Denot g.row.W-Equipment-Sinks.Denot g.row.W-Equipment-Gate.Denot).
    Obeys g.W.Equipment.Network.Door.Conn.Conn.wire (AllTell g.W.Equipment.Stores.Keeper.Keeper.told) (asked (map string_bytes c.args.words.now)) (view_of g.W.Files.Files.shelf g.W.Out.Sink.given g.W.Out.Sink.faults k.files k.out (gear_of g.W.Equipment.Network.Network.net g.W.Equipment.Children.Children.family g.W.Equipment.Console.Conn.wire g.W.Equipment.Stores.Stores.depot g.W.Equipment.Sinks.Sinks.rack m) k.seed) (view_of g.W.Files.Files.shelf g.W.Out.Sink.given g.W.Out.Sink.faults l.files l.out (gear_of g.W.Equipment.Network.Network.net g.W.Equipment.Children.Children.family g.W.Equipment.Console.Conn.wire g.W.Equipment.Stores.Stores.depot g.W.Equipment.Sinks.Sinks.rack n) l.seed) c.run-ended.result.1 c.run-ended.result.0)
    _ _ _ _ _ _ a b _ _ s t (sym c.equip-things.ensures.others ∙ c.open-files.ensures) (c.unequip.ensures.others ∙ c.close.ensures) c.equip-things.ensures.given c.unequip.ensures.taken old new fitted kept c.run-ended.ensures
