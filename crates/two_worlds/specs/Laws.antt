-- Isolation between two runs, and the laws that it rests on.
use Rattle.std.specs.Prelude.{◌≡◌, ℕ, List, ◌∷◌, Option, Some, map, IsFalse}
use Rattle.okws_base.specs.declared.journal.Entry.{Entry}
use Rattle.okws_base.specs.declared.value.Token.{Token}
use Rattle.okws_base.specs.declared.value.Value.{Value}
use Rattle.okws_plan.specs.Configuration.{tables}
use Rattle.okws_plan.specs.Meaning.{mean}
use Rattle.okws_plan.specs.declared.configuration.Config.{Config}
use Rattle.okws_plan.specs.declared.configuration.Query.{Query}
use Rattle.okws_plan.specs.declared.event.LogEvent.{LogEvent}
use Rattle.okws_plan.specs.declared.event.ProxyEvent.{ProxyEvent}
use Rattle.okws_plan.specs.declared.event.PubdEvent.{PubdEvent}
use Rattle.monitor_model.specs.Answered.{AreEventsIn}
use Rattle.monitor_model.specs.Cell.{heard}
use Rattle.monitor_model.specs.Legal.{IsLawful}
use Rattle.monitor_model.specs.Merged.{LaunchesAlone, cell_past}
use Rattle.monitor_model.specs.Own.{names, own_of}
use Rattle.monitor_model.specs.Played.{OfEachRun, record_of}
use Rattle.monitor_model.specs.Told.{TellsAll, told_to}
use Rattle.monitor_model.specs.Proxy.{granted, open_verdict, rows}
use Rattle.monitor_model.specs.Worker.{AreWorkers}
use Rattle.monitor_model.specs.declared.record.Record.{Record}
use Rattle.monitor_model.specs.Sent.{broken_in}
use Rattle.two_worlds.specs.Agreement.{LawfulConfig, ConfigsAgree, right}
use Rattle.two_worlds.specs.LogSight.{log_sight, log_verdicts}
use Rattle.two_worlds.specs.PubdSight.{pubd_sight, pubd_verdicts}
use Rattle.two_worlds.specs.Sight.{proxy_sight, proxy_verdicts}
use Rattle.two_worlds.specs.Sound.{AreSound}
use Rattle.two_worlds.specs.Story.{StoryEvent, IsStory, RecordsAgree}
use Rattle.two_worlds.specs.View.{view}

-- Along every journal each row has a value for each column, and no two rows of a table have one KEY value.
abbrev pub RowsStaySound : Type 0
RowsStaySound = (C : Config) (p : ℕ) (J : List (Entry ProxyEvent)) → LawfulConfig C → AreSound (tables C p) (rows C p J)

-- What holds of a query that two configurations grant to s alike, on tables of which s sees the same.
abbrev pub OfGrantedQuery : (Config → Config → ℕ → ℕ → Query → Query → List Value → List (List (List Value)) → List (List (List Value)) → Type 0) → Type 0
OfGrantedQuery P = (C D : Config) (s p q : ℕ) (x y : Query) (args : List Value) (T U : List (List (List Value))) → LawfulConfig C → LawfulConfig D → ((n : ℕ) → right C s p n ≡ right D s p n)
    → granted C p s q ≡ Some x → granted D p s q ≡ Some y → AreSound (tables C p) T → AreSound (tables D p) U → view C s p T ≡ view D s p U → P C D s p x y args T U

-- The answer is told by the view.
abbrev pub AnswersByView : Type 0
AnswersByView = OfGrantedQuery (λ C D s p x y args T U. (mean (tables C p) x.statement args T).0 ≡ (mean (tables D p) y.statement args U).0)

-- The view that it leaves is told by the view before: rows that leave it and rows that enter it, keys taken and keys freed.
abbrev pub ViewsByView : Type 0
ViewsByView = OfGrantedQuery (λ C D s p x y args T U. view C s p (mean (tables C p) x.statement args T).1 ≡ view D s p (mean (tables D p) y.statement args U).1)

-- Opens are answered by own events alone, whoever entered them.
abbrev pub OpensByOwn : Type 0
OpensByOwn = (J K : List (Entry ProxyEvent)) (s k : ℕ) (shown : Token) → map (λ (e : Entry ProxyEvent). e.event) (own_of s J) ≡ map (λ (e : Entry ProxyEvent). e.event) (own_of s K)
    → open_verdict J s k shown ≡ open_verdict K s k shown

-- A foreign entry is not seen, and is no verdict of s. It is told only by the view that a later own Call carries.
abbrev pub ForeignIsUnseen : Type 0
ForeignIsUnseen = (C : Config) (s p : ℕ) (e : Entry ProxyEvent) (J : List (Entry ProxyEvent)) → IsFalse (names s e.event)
    → (proxy_sight C s p (e ∷ J) ≡ proxy_sight C s p J) × (proxy_verdicts C s p (e ∷ J) ≡ proxy_verdicts C s p J)

-- Where two journals of a proxy look the same to s, its entries are answered the same.
abbrev pub IsolatedAtProxy : Type 0
IsolatedAtProxy = (C D : Config) (s p : ℕ) (J K : List (Entry ProxyEvent)) → LawfulConfig C → LawfulConfig D → ConfigsAgree C D s → proxy_sight C s p J ≡ proxy_sight D s p K
    → proxy_verdicts C s p J ≡ proxy_verdicts D s p K

-- The same at pubd.
abbrev pub IsolatedAtPubd : Type 0
IsolatedAtPubd = (C D : Config) (s : ℕ) (J K : List (Entry PubdEvent)) → LawfulConfig C → LawfulConfig D → ConfigsAgree C D s → pubd_sight C s J ≡ pubd_sight D s K → pubd_verdicts C s J ≡ pubd_verdicts D s K

-- The same at oklogd.
abbrev pub IsolatedAtLog : Type 0
IsolatedAtLog = (C D : Config) (s : ℕ) (J K : List (Entry LogEvent)) → ConfigsAgree C D s → log_sight s J ≡ log_sight s K → log_verdicts C s J ≡ log_verdicts D s K

-- In two lawful records that agree for s, of runs with one seed, each incarnation of s heard the same bytes.
abbrev pub HearsTheSame : Type 0
HearsTheSame = (C D : Config) (seed : List ℕ) (keepers others : ℕ → Option ℕ) (launcher other : ℕ) (R Q : Record) (s : ℕ) → LawfulConfig C → LawfulConfig D
    → IsLawful C seed keepers launcher R → IsLawful D seed others other Q → RecordsAgree C D R Q s → (k : ℕ) → heard C seed s k (cell_past R s) ≡ heard D seed s k (cell_past Q s)

-- And where its link failed the same was due: what the link was given is in both records a front of one text, what was heard and what was due.
abbrev pub IsDueTheSame : Type 0
IsDueTheSame = (C D : Config) (seed : List ℕ) (keepers others : ℕ → Option ℕ) (launcher other : ℕ) (R Q : Record) (s : ℕ) → LawfulConfig C → LawfulConfig D
    → IsLawful C seed keepers launcher R → IsLawful D seed others other Q → RecordsAgree C D R Q s → (k : ℕ) → broken_in k (cell_past R s) ≡ broken_in k (cell_past Q s)

-- So what two such runs print tells the same of each incarnation of s.
abbrev pub TellsTheSame : Type 0
TellsTheSame = (C D : Config) (seed : List ℕ) (keepers others : ℕ → Option ℕ) (launcher other : ℕ) (R Q : Record) (s : ℕ) (printed text : List ℕ) → LawfulConfig C → LawfulConfig D
    → IsLawful C seed keepers launcher R → IsLawful D seed others other Q → RecordsAgree C D R Q s → (one : TellsAll C seed R printed) → (two : TellsAll D seed Q text)
    → (k : ℕ) → told_to s k one.lines ≡ told_to s k two.lines

-- A record whose dialogs of s fit its journals has a story of s.
abbrev pub HaveStories : Type 0
HaveStories = (C : Config) (R : Record) (s : ℕ) → AreEventsIn C R s (cell_past R s) → (story : List StoryEvent) × IsStory C R s (cell_past R s) story

-- A script's run, whose lines name what is declared, has a story of each service.
abbrev pub RunsHaveStories : Type 0
RunsHaveStories = OfEachRun (λ C seed lines printed stage. (s : ℕ) → (story : List StoryEvent) × IsStory C (record_of stage) s (cell_past (record_of stage) s) story)

-- A lawful record whose workers' lists are made of their pieces, and where launches are the launcher's alone, has a story of each service.
abbrev pub ServersHaveStories : Type 0
ServersHaveStories = (C : Config) (seed : List ℕ) (keepers : ℕ → Option ℕ) (launcher : ℕ) (R : Record) → IsLawful C seed keepers launcher R → LaunchesAlone R → AreWorkers C R → (s : ℕ)
    → (story : List StoryEvent) × IsStory C R s (cell_past R s) story
