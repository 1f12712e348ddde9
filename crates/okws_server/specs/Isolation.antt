-- What two runs have in common for a service for which they agree.
use Rattle.std.specs.Prelude.{◌≡◌, ◌<◌, ℕ, List, length, Option}
use Rattle.okws_plan.specs.declared.configuration.Config.{Config}
use Rattle.okws_plan.specs.declared.script.Line.{Line}
use Rattle.monitor_model.specs.Cell.{heard}
use Rattle.monitor_model.specs.Legality.{IsLegal}
use Rattle.monitor_model.specs.Merged.{cell_past}
use Rattle.monitor_model.specs.Outside.{Outside}
use Rattle.monitor_model.specs.Sent.{broken_in, sents_of}
use Rattle.monitor_model.specs.declared.record.Connection.{Connection}
use Rattle.monitor_model.specs.declared.record.Record.{Record}
use Rattle.two_worlds.specs.Agreement.{LawfulConfig}
use Rattle.two_worlds.specs.Story.{RecordsAgree}
use Rattle.site_run.specs.Journals.{KeepLaws}
use Rattle.okws_server.specs.Headline.{IsMonitored}
use Rattle.okws_server.specs.Ran.{GivesConfig, zero_seed}

-- Two runs of `play`, over configurations that files give, whose records agree for a service: the links of its incarnations were given the same, byte by byte.
abbrev pub AgreeingRunsGiveTheSame : Type 0
AgreeingRunsGiveTheSame = (told other : Option (List ℕ)) (C D : Config) (lines more : List Line) (R Q : Record) (printed text : List ℕ) (s : ℕ)
    → GivesConfig told C → GivesConfig other D → IsMonitored C zero_seed lines R printed → IsMonitored D zero_seed more Q text
    → RecordsAgree C D R Q s → s < length C.services → s < length D.services → sents_of R s ≡ sents_of Q s

-- Two records of servers' runs, over lawful configurations and with tokens of one seed, that keep their laws and are legal with the connections of their doors, and agree for a service: each incarnation of it heard the same bytes in both, and the same was due where its link failed. So what its link was given is in both a front of one text.
abbrev pub AgreeingServersGiveTheSame : Type 0
AgreeingServersGiveTheSame = (C D : Config) (seed : List ℕ) (n m : ℕ) (T U : Outside) (R Q : Record) (connections others : List (List Connection)) (s : ℕ)
    → LawfulConfig C → LawfulConfig D → KeepLaws C seed n R → KeepLaws D seed m Q → IsLegal C seed T (record R { doors = connections }) → IsLegal D seed U (record Q { doors = others })
    → RecordsAgree C D R Q s → (k : ℕ) → (heard C seed s k (cell_past R s) ≡ heard D seed s k (cell_past Q s)) × (broken_in k (cell_past R s) ≡ broken_in k (cell_past Q s))
