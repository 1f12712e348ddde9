-- What is done of the words of a run, from what its parts do.
use Rattle.std.proofs.Common.{◌≡◌, ℕ, List, [], ◌∷◌, refl, sym, subst, inl, inr, Some, None}
use Rattle.std.specs.declared.option.Option.{Option}
use Rattle.command_line.specs.Asked.{Asked, Serving, asked}
use Rattle.okws_outer.specs.Conns.{ConnWire}
use Rattle.okws_outer.specs.Shelf.{Reads}
use Rattle.okws_plan.specs.declared.configuration.Config.{Config}
use Rattle.config_reader.specs.declared.error.Refusal.{Refusal}
use Rattle.monitor_model.specs.declared.record.Record.{Record}
use Rattle.okws_server.specs.Ending.{RoseWhere}
use Rattle.okws_server.specs.Commands.{Does, Obeys, Says, IsWithin}
use Rattle.okws_server.specs.Headline.{IsEmptyRecord}
use Rattle.okws_server.specs.Ran.{GivesConfig, IsRefusedBy, TellsRefusal}
use Rattle.okws_server.specs.Served.{Served, ServesConfig, ServesFile}
use Rattle.okws_server.specs.Views.{View}
use Rattle.okws_server.specs.declared.status.Status.{Status}
use Rattle.okws_server.specs.declared.status.Status.TheVariants as status
use Rattle.okws_server.proofs.Commands.{asked_within}

-- ---- a server

file_by : {X : Type 0} (wire : X → ConnWire) (tells : Type 0) (server : Serving) (a b : View) (C : Config) (R : Record) (how : Status) → GivesConfig ((a.shelf).held server.config) C → Reads a.shelf b.shelf (server.config ∷ []) ⊥ →
    ServesConfig wire tells server C a.seed a.gear b.gear a.given b.given (RoseWhere a.faults b.faults) R how → ServesFile wire tells server a b R how
file_by wire tells server a b C R how m reads h = record { config = C; gives = m; reads = reads; serves = h }

-- a configuration that was read and served
pub file_served : {X : Type 0} (wire : X → ConnWire) (tells : Type 0) (server : Serving) (a b : View) (C : Config) (R : Record) (how : Status) → GivesConfig ((a.shelf).held server.config) C → Reads a.shelf b.shelf (server.config ∷ []) ⊥ →
    ServesConfig wire tells server C a.seed a.gear b.gear a.given b.given (RoseWhere a.faults b.faults) R how → Served wire tells server a b R how
file_served wire tells server a b C R status.Ok m reads h = file_by wire tells server a b C R status.Ok m reads h
file_served wire tells server a b C R status.OutFault m reads h = file_by wire tells server a b C R status.OutFault m reads h
file_served wire tells server a b C R status.LogFault m reads h = file_by wire tells server a b C R status.LogFault m reads h
file_served wire tells server a b C R status.ConsoleFault m reads h = file_by wire tells server a b C R status.ConsoleFault m reads h
file_served wire tells server a b C R status.StoreFault m reads h = file_by wire tells server a b C R status.StoreFault m reads h
file_served wire tells server a b C R status.NetFault m reads h = file_by wire tells server a b C R status.NetFault m reads h
file_served wire tells server a b C R status.NoMemory m reads h = inr (file_by wire tells server a b C R status.NoMemory m reads h)
file_served wire tells server a b C R status.Usage m reads h = absurd h.ends
file_served wire tells server a b C R status.ReadFault m reads h = absurd h.ends
file_served wire tells server a b C R status.ConfigRefused m reads h = absurd h.ends
file_served wire tells server a b C R _ m reads h = absurd h.ends

-- ---- the words

says_none : {X : Type 0} (wire : X → ConnWire) (tells : Type 0) (a b : View) (R : Record) (how : Status) → b.seed ≡ a.seed → IsEmptyRecord R → b.shelf ≡ a.shelf → b.gear ≡ a.gear → Says a.given b.given (RoseWhere a.faults b.faults) how →
    Obeys wire tells None a b R how
says_none wire tells a b R status.Usage seed empty shelf gear h = (seed, inr (refl, empty, shelf, gear, h.0, h.1, h.2))
says_none wire tells a b R status.NoMemory seed empty shelf gear h = (seed, inl (refl, empty, shelf, gear, h))
says_none wire tells a b R _ seed empty shelf gear h = absurd h

-- words that are no command are answered
pub says_obeys : {X : Type 0} (wire : X → ConnWire) (tells : Type 0) (o : Option Asked) (a b : View) (R : Record) (how : Status) → None ≡ o → b.seed ≡ a.seed → IsEmptyRecord R → b.shelf ≡ a.shelf → b.gear ≡ a.gear →
    Says a.given b.given (RoseWhere a.faults b.faults) how → Obeys wire tells o a b R how
says_obeys wire tells o a b R how e seed empty shelf gear h = subst (λ x. Obeys wire tells x a b R how) e (says_none wire tells a b R how seed empty shelf gear h)

-- what they ask for is done
pub does_obey : {X : Type 0} (wire : X → ConnWire) (tells : Type 0) (o : Option Asked) (asks : Asked) (a b : View) (R : Record) (how : Status) → Some asks ≡ o → b.seed ≡ a.seed → Does wire tells (Some asks) a b R how → Obeys wire tells o a b R how
does_obey wire tells o asks a b R how e seed h = subst (λ x. Obeys wire tells x a b R how) e (seed, inr h)

-- what they ask for is within what may be
pub words_within : (words : List (List ℕ)) (asks : Asked) → Some asks ≡ asked words → IsWithin asks
words_within words asks e = asked_within words asks (sym e)
