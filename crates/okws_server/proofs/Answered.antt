-- What a server answers, from what its parts answer.
use Rattle.std.proofs.Common.{◌≡◌, ◌∙◌, ℕ, ◌≤◌, ◌⊎◌, Bool, List, [], ◌∷◌, ◌++◌, length, map, refl, sym, ap, subst, arith, inl, inr, Result, Ok, Err, Some, None}
use Rattle.std.specs.Prelude.{IsSome, OnErr, false, ◌||◌}
use Rattle.std.specs.List.{list_any}
use Rattle.std.proofs.lemmas.List.{length-map}
use Rattle.std.specs.declared.option.Option.{Option}
use Rattle.command_line.specs.Asked.{Serving}
use Rattle.okws_outer.specs.Conns.{ConnWire}
use Rattle.okws_outer.specs.Depots.{Depot}
use Rattle.okws_outer.specs.Making.{CountsMade}
use Rattle.okws_outer.specs.Networks.{Net}
use Rattle.okws_outer.specs.declared.error.MakeError.{MakeError}
use Rattle.okws_outer.specs.declared.error.MakeError.TheVariants as make
use Rattle.okws_outer.specs.declared.stores.KeeperEnd.{KeeperEnd}
use Rattle.okws_outer.specs.declared.stores.KeeperStart.{KeeperStart}
use Rattle.okws_base.specs.declared.value.Value.{Value}
use Rattle.okws_plan.specs.declared.configuration.Config.{Config}
use Rattle.okws_plan.specs.declared.configuration.Table.{Table}
use Rattle.monitor_model.specs.declared.record.Record.{Record}
use Rattle.two_worlds.specs.Agreement.{LawfulConfig}
use Rattle.site_making.specs.Keepers.{KeeperIs, keeper_of}
use Rattle.store_keeper.specs.Depots.{AreEnds, Beside, GivesBack, GivesKept, HasAsked, LacksStore, beside_of, with_starts}
use Rattle.store_keeper.proofs.Given.{asked_all, gives_kept}
use Rattle.store_keeper.specs.Sites.{HaveFirstRows, SitesAreAlike}
use Rattle.okws_serve.specs.declared.outfit.Ran.{Ran}
use Rattle.okws_server.specs.Served.{AreBeside, EndsAs, IsSpared, IsUntouched, LosesKeepers, MissesDoors, MissesPort, NeverRan, RanAt, RanFrom, ServesConfig, ServesFrom, ServesOpen, ServesOver, ServesSite, Tells, listened, store_fault_line, with_listened}
use Rattle.okws_server.specs.Ending.{no_memory_line}
use Rattle.okws_server.specs.Views.{Gear}
use Rattle.okws_server.specs.declared.status.Status.{Status}
use Rattle.okws_server.specs.declared.status.Status.TheVariants as status
use Rattle.okws_server.proofs.Over.{keepers_left}

-- the network that opened doors
pub listens_on : (server : Serving) (old new : Net) → new ≡ record (with_listened server old) { faults = new.faults } → new.faults ≡ old.faults → new ≡ with_listened server old
listens_on server old new e f = e ∙ ap (λ x. record (with_listened server old) { faults = x }) f

-- a site was served over doors that are open
from_by : {X : Type 0} (wire : X → ConnWire) (server : Serving) (C : Config) (seed : List ℕ) (a m b : Gear) (left : List KeeperIs) (lost : Bool) (old new : Option (List ℕ)) (rose : Bool → Type 0) (R : Record) (how : Status) → m ≡ record a { net = with_listened server a.net } →
    (ran : Ran) × (missed : Bool) × RanAt wire server C seed m b left ran missed × (R ≡ ran.record) × EndsAs ran missed lost old new rose how → ServesFrom wire server C seed a b left lost old new rose R how
from_by wire server C seed a m b left lost old new rose R how e h = record {
  ran = h.0;
  missed = h.1;
  from = record { at = subst (λ x. RanAt wire server C seed x b left h.0 h.1) e h.2 };
  record_is = h.3;
  ends = h.4;
}

ends_over : {X K : Type 0} (wire : X → ConnWire) (server : Serving) (C : Config) (seed : List ℕ) (a b : Gear) (what : K → KeeperIs) (parted : K → Bool) (keepers left : List K) (old new : Option (List ℕ)) (rose : Bool → Type 0) (R : Record) (how : Status) →
    ServesFrom wire server C seed a b (map what left) (list_any parted left) old new rose R how → ServesOver wire server C seed a b what parted keepers left old new rose R how
ends_over wire server C seed a b what parted keepers left old new rose R status.NetFault h = absurd h.ends
ends_over wire server C seed a b what parted keepers left old new rose R status.NoMemory h = inr h
ends_over wire server C seed a b what parted keepers left old new rose R _ h = h

-- a site whose doors are open was served, or memory was refused before
pub open_over : {X K : Type 0} (wire : X → ConnWire) (server : Serving) (C : Config) (seed : List ℕ) (a m b : Gear) (what : K → KeeperIs) (parted : K → Bool) (keepers left : List K) (old new : Option (List ℕ)) (rose : Bool → Type 0) (R : Record) (how : Status) →
    m ≡ record a { net = with_listened server a.net } → ServesOpen wire server C seed m b what parted left old new rose R how → ServesOver wire server C seed a b what parted keepers left old new rose R how
open_over wire server C seed a m b what parted keepers left old new rose R how e (inl h) =
    let never : NeverRan server a b keepers left = inr (subst (λ (x : Gear). IsUntouched server x b) e h.1, h.2) in
    subst (λ s. ServesOver wire server C seed a b what parted keepers left old new rose R s) (sym h.0) (inl (never, h.3))
open_over wire server C seed a m b what parted keepers left old new rose R how e (inr h) =
    ends_over wire server C seed a b what parted keepers left old new rose R how (from_by wire server C seed a m b (map what left) (list_any parted left) old new rose R how e h)

-- no more keepers are left than there may be proxies
few_from : {X K : Type 0} (wire : X → ConnWire) (server : Serving) (C : Config) (seed : List ℕ) (a b : Gear) (what : K → KeeperIs) (parted : K → Bool) (left : List K) (old new : Option (List ℕ)) (rose : Bool → Type 0) (R : Record) (how : Status) (most : ℕ) → length C.proxies ≤ most →
    ServesFrom wire server C seed a b (map what left) (list_any parted left) old new rose R how → length left ≤ most
few_from wire server C seed a b what parted left old new rose R how most few h =
    omega (arith, few, length-map left what, keepers_left wire server C seed _ b (map what left) h.ran h.from.at.given h.from.at.faults h.from.at.over)

few_never : {K : Type 0} (server : Serving) (a b : Gear) (keepers left : List K) (most : ℕ) → length keepers ≤ most → NeverRan server a b keepers left → length left ≤ most
few_never server a b keepers left most few (inl h) = omega (arith, few, ap (λ (xs : List _). length xs) h.1)
few_never server a b keepers left most few (inr h) = omega (arith, ap (λ (xs : List _). length xs) h.1)

pub few_left : {X K : Type 0} (wire : X → ConnWire) (server : Serving) (C : Config) (seed : List ℕ) (a b : Gear) (what : K → KeeperIs) (parted : K → Bool) (keepers left : List K) (old new : Option (List ℕ)) (rose : Bool → Type 0) (R : Record) (how : Status) (most : ℕ) →
    length keepers ≤ most → length C.proxies ≤ most → ServesOver wire server C seed a b what parted keepers left old new rose R how → length left ≤ most
few_left wire server C seed a b what parted keepers left old new rose R status.NetFault most few many h = omega (arith, few, ap (λ (xs : List _). length xs) h.1)
few_left wire server C seed a b what parted keepers left old new rose R status.NoMemory most few many (inl h) = few_never server a b keepers left most few h.0
few_left wire server C seed a b what parted keepers left old new rose R status.NoMemory most few many (inr h) = few_from wire server C seed a b what parted left old new rose R status.NoMemory most many h
few_left wire server C seed a b what parted keepers left old new rose R how most few many h = few_from wire server C seed a b what parted left old new rose R how most many h

-- ---- no run began

-- the stores were not touched
untouched_depot : (server : Serving) (a b : Gear) → IsUntouched server (listened server a) b → b.depot ≡ a.depot
untouched_depot server a b h = ap (λ (x : Gear). x.depot) h.gear

-- whatever they are
untouched_beside : (server : Serving) (depot : Depot) (a b : Gear) → IsUntouched server a b → IsUntouched server (record a { depot = depot }) (record b { depot = depot })
untouched_beside server depot a b h = record { gear = ap {A = Gear} (λ (x : Gear). record x { depot = depot }) h.gear; log = h.log }

-- a listen to which memory was refused counted nothing
pub listened_starved : {V : Type 0} (result : Result V MakeError) (before now : ℕ) → result ≡ Err make.NoMemory → CountsMade before now result → now ≡ before
listened_starved {V} result before now is counts = subst (λ (r : Result V MakeError). CountsMade before now r) is counts

-- what holds of a call that was refused
pub err_holds : {T E : Type 0} (result : Result T E) (e : E) (P : Type 0) → result ≡ Err e → OnErr result P → P
err_holds (Ok x) e P is h = cc
err_holds (Err y) e P is h = h

-- the doors could not be had for want of memory
pub starved_over : {X K : Type 0} (wire : X → ConnWire) (server : Serving) (C : Config) (seed : List ℕ) (a m b : Gear) (what : K → KeeperIs) (parted : K → Bool) (keepers : List K) (old new : Option (List ℕ)) (rose : Bool → Type 0) (R : Record) (how : Status) →
    how ≡ status.NoMemory → m ≡ listened server a → b ≡ m → Tells old new no_memory_line rose R → ServesOver wire server C seed a b what parted keepers keepers old new rose R how
starved_over wire server C seed a m b what parted keepers old new rose R how is listen same told =
    subst (λ s. ServesOver wire server C seed a b what parted keepers keepers old new rose R s) (sym is) (inl (inl (same ∙ listen, refl), told))

-- ---- with rows in memory

memory_site : {X : Type 0} (wire : X → ConnWire) (tells : Type 0) (server : Serving) (C : Config) (seed : List ℕ) (a b : Gear) (left : List KeeperIs) (lost : Bool) (old new : Option (List ℕ)) (rose : Bool → Type 0) (R : Record) (how : Status) → server.store ≡ None →
    lost ≡ false → LawfulConfig C → ServesFrom wire server C seed a b left lost old new rose R how → ServesSite wire tells server C seed a b old new rose R how
memory_site wire tells server C seed a b left lost old new rose R how memory none lawful h =
    let depot : b.depot ≡ a.depot = h.from.at.over.depot in
    record {
      ran = h.ran;
      missed = h.missed;
      lost = lost;
      served = record {
        site = C;
        sited = rw memory refl;
        lawful = lawful;
        depot = a.depot;
        opened = rw memory refl;
        keepers = left;
        from = subst (λ (x : Gear). RanFrom wire server C seed a x left h.ran h.missed) (ap (λ (d : Depot). record b { depot = d }) depot) h.from;
        closed = rw memory (none, depot);
      };
      record_is = h.record_is;
      ends = h.ends;
    }

memory_port : (server : Serving) (C : Config) (a b : Gear) → server.store ≡ None → MissesDoors server a b → MissesPort server C a b
memory_port server C a b memory h =
    let depot : b.depot ≡ a.depot = ap (λ (x : Gear). x.depot) h.gear in
    record {
      depot = a.depot;
      opened = rw memory refl;
      doors = subst (λ (x : Gear). MissesDoors server a x) (ap (λ (d : Depot). record b { depot = d }) depot) h;
      closed = rw memory depot;
    }

memory_never : {K : Type 0} (server : Serving) (C : Config) (a b : Gear) (keepers left : List K) → server.store ≡ None → NeverRan server a b keepers left → IsSpared server C a b ⊎ LosesKeepers server C a b
memory_never server C a b keepers left memory (inl h) =
    let depot : b.depot ≡ a.depot = ap (λ (x : Gear). x.depot) h.0 in
    inl (record {
      gear = inr (h.0 ∙ ap (λ (d : Depot). record (listened server a) { depot = d }) (sym depot));
      depot = record { asks = rw memory depot; faults = ap (λ (d : Depot). d.faults) depot };
    })
memory_never server C a b keepers left memory (inr h) =
    let depot : b.depot ≡ a.depot = untouched_depot server a b h.0 in
    inr (record {
      gear = subst (λ (x : Gear). IsUntouched server (listened server a) x) (ap (λ (d : Depot). record b { depot = d }) depot) h.0;
      depot = rw memory depot;
    })

-- keepers in memory have no stores
pub none_parted : {K : Type 0} (ks : List K) → list_any (λ k. false) ks ≡ false
none_parted [] = refl
none_parted (k ∷ ks) = none_parted ks

-- memory was refused to the keepers
pub memory_starved : {X : Type 0} (wire : X → ConnWire) (tells : Type 0) (server : Serving) (C : Config) (seed : List ℕ) (a b : Gear) (old new : Option (List ℕ)) (rose : Bool → Type 0) (R : Record) (how : Status) →
    how ≡ status.NoMemory → server.store ≡ None → b ≡ a → Tells old new no_memory_line rose R → ServesConfig wire tells server C seed a b old new rose R how
memory_starved wire tells server C seed a b old new rose R how is memory same told =
    let depot : b.depot ≡ a.depot = ap (λ (x : Gear). x.depot) same in
    subst (λ s. ServesConfig wire tells server C seed a b old new rose R s) (sym is) (inl (
      inl (record {
        gear = inl (same ∙ ap (λ (d : Depot). record a { depot = d }) (sym depot));
        depot = record { asks = rw memory depot; faults = ap (λ (d : Depot). d.faults) depot };
      }),
      told,
    ))

pub memory_config : {X K : Type 0} (wire : X → ConnWire) (tells : Type 0) (server : Serving) (C : Config) (seed : List ℕ) (a b : Gear) (what : K → KeeperIs) (parted : K → Bool) (keepers left : List K) (old new : Option (List ℕ)) (rose : Bool → Type 0) (R : Record) (how : Status) →
    server.store ≡ None → list_any parted left ≡ false → LawfulConfig C → ServesOver wire server C seed a b what parted keepers left old new rose R how → ServesConfig wire tells server C seed a b old new rose R how
memory_config wire tells server C seed a b what parted keepers left old new rose R status.NetFault memory none lawful h = (memory_port server C a b memory h.0, h.2)
memory_config wire tells server C seed a b what parted keepers left old new rose R status.NoMemory memory none lawful (inl h) = inl (memory_never server C a b keepers left memory h.0, h.1)
memory_config wire tells server C seed a b what parted keepers left old new rose R status.NoMemory memory none lawful (inr h) = inr (memory_site wire tells server C seed a b (map what left) (list_any parted left) old new rose R status.NoMemory memory none lawful h)
memory_config wire tells server C seed a b what parted keepers left old new rose R status.StoreFault memory none lawful h = absurd h.ends
memory_config wire tells server C seed a b what parted keepers left old new rose R how memory none lawful h = memory_site wire tells server C seed a b (map what left) (list_any parted left) old new rose R how memory none lawful h

-- the same of the site that was shared
pub memory_at : {X K : Type 0} (wire : X → ConnWire) (tells : Type 0) (server : Serving) (C D : Config) (seed : List ℕ) (a b : Gear) (what : K → KeeperIs) (parted : K → Bool) (keepers left : List K) (old new : Option (List ℕ)) (rose : Bool → Type 0) (R : Record) (how : Status) →
    D ≡ C → server.store ≡ None → list_any parted left ≡ false → LawfulConfig C → ServesOver wire server D seed a b what parted keepers left old new rose R how → ServesConfig wire tells server C seed a b old new rose R how
memory_at wire tells server C D seed a b what parted keepers left old new rose R how same memory none lawful h =
    memory_config wire tells server C seed a b what parted keepers left old new rose R how memory none lawful (subst (λ x. ServesOver wire server x seed a b what parted keepers left old new rose R how) same h)

-- ---- with rows in files

-- The stores were opened before what was done of a site, and given back after it.
pub record IsStored {K : Type 0} (server : Serving) (file : List ℕ) (C : Config) (a m b e : Gear) (what : K → KeeperIs) (parted : K → Bool) (beside : K → Beside) (keepers left : List K) : Type 0 where
  pub wanted : server.store ≡ Some file
  pub before : m ≡ record a { depot = m.depot }
  pub opened : m.depot ≡ with_starts file C.proxies a.depot
  pub held : HaveFirstRows C.proxies (map (λ k. (beside k).held) keepers)
  pub after : e ≡ record b { depot = e.depot }
  pub beside_is : AreBeside (map what left) (map beside left)
  pub lost : list_any parted left ≡ list_any (λ (x : Beside). x.parted) (map beside left)
  pub closed : GivesBack (map beside left) b.depot e.depot

-- but for the stores all is left as what was done left it
as_left : (m b e : Gear) → e ≡ record b { depot = e.depot } → b.depot ≡ m.depot → b ≡ record e { depot = m.depot }
as_left m b e after kept = ap (λ (d : Depot). record b { depot = d }) kept ∙ ap (λ (x : Gear). record x { depot = m.depot }) (sym after)

stored_served : {X K : Type 0} (wire : X → ConnWire) (tells : Type 0) (server : Serving) (file : List ℕ) (C D : Config) (seed : List ℕ) (a m b e : Gear) (what : K → KeeperIs) (parted : K → Bool) (beside : K → Beside) (keepers left : List K) (old new : Option (List ℕ)) (rose : Bool → Type 0) (R : Record)
    (how : Status) → SitesAreAlike D C → (tells → D ≡ C) → LawfulConfig D → IsStored server file C a m b e what parted beside keepers left → ServesFrom wire server D seed m b (map what left) (list_any parted left) old new rose R how → ServesSite wire tells server C seed a e old new rose R how
stored_served wire tells server file C D seed a m b e what parted beside keepers left old new rose R how alike same lawful is h =
    let kept : b.depot ≡ m.depot = h.from.at.over.depot in
    record {
      ran = h.ran;
      missed = h.missed;
      lost = list_any parted left;
      served = record {
        site = D;
        sited = rw is.wanted (alike, same);
        lawful = lawful;
        depot = m.depot;
        opened = rw is.wanted is.opened;
        keepers = map what left;
        from = subst (λ (x : Gear). RanFrom wire server D seed x (record e { depot = m.depot }) (map what left) h.ran h.missed) is.before
            (subst (λ (x : Gear). RanFrom wire server D seed m x (map what left) h.ran h.missed) (as_left m b e is.after kept) h.from);
        closed = rw is.wanted (map beside left, is.beside_is, is.lost, subst (λ (d : Depot). GivesBack (map beside left) d e.depot) kept is.closed);
      };
      record_is = h.record_is;
      ends = h.ends;
    }

-- the stores of keepers that are left as they were made are given back so
stored_kept : {K : Type 0} (server : Serving) (file : List ℕ) (C : Config) (a m b e : Gear) (what : K → KeeperIs) (parted : K → Bool) (beside : K → Beside) (keepers left : List K) → IsStored server file C a m b e what parted beside keepers left → b.depot ≡ m.depot → left ≡ keepers →
    GivesKept C.proxies m.depot e.depot
stored_kept server file C a m b e what parted beside keepers left is kept all =
    gives_kept beside C.proxies left m.depot e.depot (subst (λ (ks : List _). HaveFirstRows C.proxies (map (λ k. (beside k).held) ks)) (sym all) is.held) (subst (λ (d : Depot). GivesBack (map beside left) d e.depot) kept is.closed)

stored_port : {K : Type 0} (server : Serving) (file : List ℕ) (C : Config) (a m b e : Gear) (what : K → KeeperIs) (parted : K → Bool) (beside : K → Beside) (keepers left : List K) → left ≡ keepers → IsStored server file C a m b e what parted beside keepers left → MissesDoors server m b →
    MissesPort server C a e
stored_port server file C a m b e what parted beside keepers left all is h =
    let kept : b.depot ≡ m.depot = ap (λ (x : Gear). x.depot) h.gear in
    record {
      depot = m.depot;
      opened = rw is.wanted is.opened;
      doors = subst (λ (x : Gear). MissesDoors server x (record e { depot = m.depot })) is.before (subst (λ (x : Gear). MissesDoors server m x) (as_left m b e is.after kept) h);
      closed = rw is.wanted (stored_kept server file C a m b e what parted beside keepers left is kept all);
    }

-- of no keepers no store is given back
ends_none : (p : ℕ) (es : List KeeperEnd) → AreEnds p [] es → es ≡ []
ends_none p [] h = refl
ends_none p (e ∷ es) h = absurd h

none_back : {K : Type 0} (beside : K → Beside) (left : List K) (a b : Depot) → left ≡ [] → GivesBack (map beside left) a b → b ≡ a
none_back beside left a b none h =
    let ends : h.ends ≡ [] = ends_none 0 h.ends (subst (λ (ks : List _). AreEnds 0 (map beside ks) h.ends) none h.whose) in
    ap (λ (xs : List KeeperStart). record b { made = xs }) h.made
    ∙ ap (λ (xs : List KeeperEnd). record b { made = a.made; finished = xs }) (h.finished ∙ ap (λ (xs : List KeeperEnd). xs ++ a.finished) ends)
    ∙ ap (λ (n : ℕ). record a { faults = n }) h.faults

stored_never : {K : Type 0} (server : Serving) (file : List ℕ) (C : Config) (a m b e : Gear) (what : K → KeeperIs) (parted : K → Bool) (beside : K → Beside) (keepers left : List K) → IsStored server file C a m b e what parted beside keepers left → NeverRan server m b keepers left →
    IsSpared server C a e ⊎ LosesKeepers server C a e
stored_never server file C a m b e what parted beside keepers left is (inl h) =
    let kept : b.depot ≡ m.depot = ap (λ (x : Gear). x.depot) h.0 in
    let back : GivesKept C.proxies m.depot e.depot = stored_kept server file C a m b e what parted beside keepers left is kept h.1 in
    let gear : e ≡ record (listened server m) { depot = e.depot } = is.after ∙ ap {A = Gear} (λ (x : Gear). record x { depot = e.depot }) h.0 in
    inl (record {
      gear = inr (gear ∙ ap {A = Gear} (λ (x : Gear). record (listened server x) { depot = e.depot }) is.before);
      depot = record { asks = rw is.wanted (asked_all file C.proxies a.depot m.depot e.depot is.opened back); faults = back.faults ∙ ap (λ (d : Depot). d.faults) is.opened };
    })
stored_never server file C a m b e what parted beside keepers left is (inr h) =
    let kept : b.depot ≡ m.depot = untouched_depot server m b h.0 in
    let none : e.depot ≡ b.depot = none_back beside left b.depot e.depot h.1 is.closed in
    inr (record {
      gear = subst (λ (x : Gear). IsUntouched server (listened server x) (record e { depot = a.depot })) (ap {A = Gear} (λ (x : Gear). record x { depot = a.depot }) is.before)
          (subst (λ (x : Gear). IsUntouched server (listened server (record m { depot = a.depot })) x) (sym (ap {A = Gear} (λ (x : Gear). record x { depot = a.depot }) is.after)) (untouched_beside server a.depot (listened server m) b h.0));
      depot = rw is.wanted (none ∙ kept ∙ is.opened);
    })

pub stored_config : {X K : Type 0} (wire : X → ConnWire) (tells : Type 0) (server : Serving) (file : List ℕ) (C D : Config) (seed : List ℕ) (a m b e : Gear) (what : K → KeeperIs) (parted : K → Bool) (beside : K → Beside) (keepers left : List K) (old new : Option (List ℕ)) (rose : Bool → Type 0)
    (R : Record) (how : Status) → SitesAreAlike D C → (tells → D ≡ C) → LawfulConfig D → IsStored server file C a m b e what parted beside keepers left → ServesOver wire server D seed m b what parted keepers left old new rose R how → ServesConfig wire tells server C seed a e old new rose R how
stored_config wire tells server file C D seed a m b e what parted beside keepers left old new rose R status.NetFault alike same lawful is h = (stored_port server file C a m b e what parted beside keepers left h.1 is h.0, h.2)
stored_config wire tells server file C D seed a m b e what parted beside keepers left old new rose R status.NoMemory alike same lawful is (inl h) = inl (stored_never server file C a m b e what parted beside keepers left is h.0, h.1)
stored_config wire tells server file C D seed a m b e what parted beside keepers left old new rose R status.NoMemory alike same lawful is (inr h) =
    inr (stored_served wire tells server file C D seed a m b e what parted beside keepers left old new rose R status.NoMemory alike same lawful is h)
stored_config wire tells server file C D seed a m b e what parted beside keepers left old new rose R status.StoreFault alike same lawful is h = absurd h.ends
stored_config wire tells server file C D seed a m b e what parted beside keepers left old new rose R how alike same lawful is h =
    stored_served wire tells server file C D seed a m b e what parted beside keepers left old new rose R how alike same lawful is h

-- a store could not be made
pub missed_config : {X : Type 0} (wire : X → ConnWire) (tells : Type 0) (server : Serving) (file : List ℕ) (C : Config) (seed : List ℕ) (a m b : Gear) (old new : Option (List ℕ)) (rose : Bool → Type 0) (R : Record) (how : Status) → how ≡ status.StoreFault →
    server.store ≡ Some file → m ≡ record a { depot = m.depot } → b ≡ m → HasAsked file C.proxies a.depot m.depot → LacksStore C.proxies a.depot m.depot → Tells old new store_fault_line rose R → ServesConfig wire tells server C seed a b old new rose R how
missed_config wire tells server file C seed a m b old new rose R how is wanted gear same asked failed told =
    subst (λ s. ServesConfig wire tells server C seed a b old new rose R s) (sym is) (
      record {
        wanted = subst (λ (o : Option (List ℕ)). IsSome o) (sym wanted) refl;
        gear = subst (λ (x : Gear). x ≡ record a { depot = x.depot }) (sym same) gear;
        asked = rw wanted (subst (λ (x : Gear). HasAsked file C.proxies a.depot x.depot) (sym same) asked);
        failed = subst (λ (x : Gear). LacksStore C.proxies a.depot x.depot) (sym same) failed;
      },
      told,
    )

-- memory was refused as the stores were made
pub stored_starved : {X : Type 0} (wire : X → ConnWire) (tells : Type 0) (server : Serving) (file : List ℕ) (C : Config) (seed : List ℕ) (a m b : Gear) (old new : Option (List ℕ)) (rose : Bool → Type 0) (R : Record) (how : Status) → how ≡ status.NoMemory →
    server.store ≡ Some file → m ≡ record a { depot = m.depot } → b ≡ m → HasAsked file C.proxies a.depot m.depot → (m.depot).faults ≡ (a.depot).faults → Tells old new no_memory_line rose R → ServesConfig wire tells server C seed a b old new rose R how
stored_starved wire tells server file C seed a m b old new rose R how is wanted gear same asked spared told =
    subst (λ s. ServesConfig wire tells server C seed a b old new rose R s) (sym is) (inl (
      inl (record {
        gear = inl (subst (λ (x : Gear). x ≡ record a { depot = x.depot }) (sym same) gear);
        depot = record {
          asks = rw wanted (subst (λ (x : Gear). HasAsked file C.proxies a.depot x.depot) (sym same) asked);
          faults = ap (λ (x : Gear). (x.depot).faults) same ∙ spared;
        };
      }),
      told,
    ))

-- keepers as they are given back
pub are_beside : {K : Type 0} (tables : K → List Table) (told : K → Option (List (List (List Value)))) (faults : K → ℕ) (steady parted : K → Bool) (held : K → Option (List (List (List Value)))) (ks : List K) →
    AreBeside (map (keeper_of tables told faults steady) ks) (map (beside_of faults told parted held) ks)
are_beside tables told faults steady parted held [] = tt
are_beside tables told faults steady parted held (k ∷ ks) = (refl, refl, are_beside tables told faults steady parted held ks)

-- one of them has parted from its store
pub lost_beside : {K : Type 0} (told : K → Option (List (List (List Value)))) (faults : K → ℕ) (parted : K → Bool) (held : K → Option (List (List (List Value)))) (ks : List K) →
    list_any parted ks ≡ list_any (λ (x : Beside). x.parted) (map (beside_of faults told parted held) ks)
lost_beside told faults parted held [] = refl
lost_beside told faults parted held (k ∷ ks) = ap (λ b. parted k || b) (lost_beside told faults parted held ks)
