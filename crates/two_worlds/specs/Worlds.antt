-- Three worlds of one small site: in the second only others do more, in the third another writes a row that guest sees.
use Rattle.std.specs.Prelude.{false, List, [], ◌∷◌, ◌++◌, None, codes, map, reverse}
use Rattle.okws_base.specs.declared.journal.Entry.{Entry}
use Rattle.okws_base.specs.declared.value.Value.TheVariants as value
use Rattle.okws_base.specs.declared.value.Kind.TheVariants as kind
use Rattle.okws_plan.specs.declared.configuration.Config.{Config}
use Rattle.okws_plan.specs.declared.configuration.Query.{Query}
use Rattle.okws_plan.specs.declared.statement.Action.TheVariants.{Select}
use Rattle.okws_plan.specs.declared.event.Mark.TheVariants.{Done}
use Rattle.okws_plan.specs.declared.event.ProxyEvent.{ProxyEvent}
use Rattle.okws_plan.specs.declared.event.ProxyEvent.TheVariants as proxy
use Rattle.okws_plan.specs.declared.event.PubdEvent.{PubdEvent}
use Rattle.okws_plan.specs.declared.event.PubdEvent.TheVariants as pubd
use Rattle.monitor_model.specs.Example.{A, int, main_proxy, msgs, queries}
use Rattle.monitor_model.specs.Journals.{past, second_token, others_token, session, calls}

-- What guest does before others come: it selects the notes `hi`.
abbrev pub first_call : List ProxyEvent
first_call = calls 5 [] ∷ []

-- What it does after: it renames the notes `hi`, and selects all.
abbrev pub later_calls : List ProxyEvent
later_calls = calls 4 (value.Text (codes "x") ∷ []) ∷ calls 1 [] ∷ []

-- Guest alone.
abbrev pub alone : List (Entry ProxyEvent)
alone = past (session ++ first_call ++ later_calls)

-- Meanwhile `other` is launched, launched again, opens and selects.
abbrev pub beside_other : List (Entry ProxyEvent)
beside_other = past (session ++ first_call ++ proxy.Install 1 1 others_token ∷ proxy.Revoke 1 1 ∷ proxy.Install 1 2 second_token ∷ proxy.Open 1 2 second_token
    ∷ proxy.Call (record { service = 1; incarnation = 2; session = 0; query = 1; args = [] }) Done ∷ [] ++ later_calls)

-- The same entries, all of them another worker's.
abbrev pub by_another : {E : Type 0} → List (Entry E) → List (Entry E)
by_another {E} J = map (λ (e : Entry E). record e { worker = 1 }) J

-- The site where `other` may only select the notes `hi`.
abbrev pub with_notes : Config
with_notes = record A { grants = record { service = 1; proxy = 0; query = 5 } ∷ [] }

-- A site with a third service that may insert.
abbrev pub with_third : Config
with_third = record A {
  services = A.services ++ record { name = codes "third"; words = codes "w" ∷ [] } ∷ [];
  grants = A.grants ++ record { service = 2; proxy = 0; query = 2 } ∷ [];
}

-- Meanwhile it inserts a row with the note `hi`.
abbrev pub beside_third : List (Entry ProxyEvent)
beside_third = past (session ++ first_call ++ proxy.Install 2 1 others_token ∷ proxy.Open 2 1 others_token
    ∷ proxy.Call (record { service = 2; incarnation = 1; session = 0; query = 2; args = int 9 ∷ value.Text (codes "z") ∷ value.Text (codes "hi") ∷ [] }) Done ∷ [] ++ later_calls)

-- The same statement over table 1.
abbrev pub moved : Query → Query
moved x = record x { statement = record x.statement { table = 1 } }

-- The site with a table above that nobody is granted, its queries in the other order, and a query more that nobody is granted.
abbrev pub with_more : Config
with_more = record A {
  proxies = record main_proxy {
    tables = record { name = codes "aside"; columns = record { name = codes "n"; kind = kind.Int; key = false } ∷ []; first = (int 7 ∷ []) ∷ [] } ∷ msgs ∷ [];
    queries = reverse (map moved queries) ++ record { number = 9; statement = record { table = 0; parameters = []; action = Select (record { join = None; columns = 0 ∷ []; conditions = []; order = None; limit = None }) } } ∷ [];
  } ∷ [];
}

-- Guest at pubd, alone.
abbrev pub drains : List (Entry PubdEvent)
drains = past (pubd.Install 0 1 ∷ pubd.Publish 0 (codes "a") ∷ pubd.Drain 0 1 ∷ [])

-- Guest at pubd, beside another's drain and the publication of a template that it doesn't read.
abbrev pub drains_beside : List (Entry PubdEvent)
drains_beside = past (pubd.Install 1 1 ∷ pubd.Install 0 1 ∷ pubd.Publish 1 (codes "s") ∷ pubd.Publish 0 (codes "a") ∷ pubd.Drain 1 1 ∷ pubd.Drain 0 1 ∷ [])
