-- What a run did, from its own contract to that of the server.
use Rattle.std.proofs.Common.{◌≡◌, ◌∙◌, ℕ, suc, ◌+◌, true, false, Bool, List, [], ◌∷◌, length, replicate, refl, sym, ap, subst, inl, inr, Some, None}
use Rattle.std.specs.Prelude.{IfSome, IfNone, IsSome, IsNone, is_some}
use Rattle.std.specs.declared.option.Option.{Option}
use Rattle.std.proofs.lemmas.Bool.{false≢true}
use Rattle.std.proofs.lemmas.Option.{none-some, same_Some}
use Rattle.okws_base.specs.declared.journal.Entry.{Entry}
use Rattle.command_line.specs.Asked.{Serving}
use Rattle.okws_outer.specs.Conns.{ConnWire}
use Rattle.okws_outer.specs.Doors.{Entrance, new_entrance}
use Rattle.okws_outer.specs.Families.{Family}
use Rattle.okws_outer.specs.Networks.{Net}
use Rattle.okws_outer.specs.Racks.{Misses, Rack, with_opened, with_closed}
use Rattle.okws_plan.specs.declared.configuration.Config.{Config}
use Rattle.okws_plan.specs.declared.event.ProxyEvent.{ProxyEvent}
use Rattle.site_run.specs.Closing.{AllKept}
use Rattle.site_making.specs.Keepers.{KeeperIs}
use Rattle.okws_serve.specs.Runs.{Runs, StartIs}
use Rattle.okws_serve.specs.declared.outfit.Ran.{Ran}
use Rattle.okws_server.specs.Served.{IsUntouched, RanAt, RanLogged, RanOver, RanUnlogged, limit_of, shut}
use Rattle.okws_server.specs.Views.{Gear}

over_by : {X : Type 0} (wire : X → ConnWire) (server : Serving) (C : Config) (seed : List ℕ) (a b : Gear) (ran : Ran) (given : Option (List ℕ)) (faults m : ℕ) (start : StartIs) (old new : List Entrance) (keepers : List KeeperIs) →
    old ≡ replicate server.doors new_entrance → m ≡ server.doors → (server.store ≡ None → start.steady ≡ true) → ((p : ℕ) → start.keeper_faults p ≡ 0) → start.sink_faults ≡ 0 → start.children ≡ a.family → b.net ≡ record (a.net) { doors = new } → b.depot ≡ a.depot →
    Runs wire C seed (m + 1) (limit_of server.connections) start old a.console ran (record { entrances = new; console = b.console; children = b.family; keepers = keepers; given = given; faults = faults }) →
    RanOver wire server C seed a b keepers ran given faults
over_by wire server C seed a b ran given faults m start old new keepers o many steady fresh none family net depot h =
    let doors : (b.net).doors ≡ new = ap (λ n. n.doors) net in
    record {
      start = start;
      steady = steady;
      fresh = fresh;
      sink = none;
      children = family;
      runs = subst (λ x. Runs wire C seed (server.doors + 1) (limit_of server.connections) start (replicate server.doors new_entrance) a.console ran (record { entrances = x; console = b.console; children = b.family; keepers = keepers; given = given; faults = faults })) (sym doors)
          (subst (λ x. Runs wire C seed (server.doors + 1) (limit_of server.connections) start x a.console ran (record { entrances = new; console = b.console; children = b.family; keepers = keepers; given = given; faults = faults })) o
          (subst (λ x. Runs wire C seed (x + 1) (limit_of server.connections) start old a.console ran (record { entrances = new; console = b.console; children = b.family; keepers = keepers; given = given; faults = faults })) many h));
      net = subst (λ x. b.net ≡ record (a.net) { doors = x }) (sym doors) net;
      depot = depot;
    }

-- a run over doors that were open
pub ran_over : {X S : Type 0} (wire : X → ConnWire) (server : Serving) (C : Config) (seed : List ℕ) (a b : Gear) (ran : Option Ran) (log : Option S) (given : S → Option (List ℕ)) (faults : S → ℕ) (m : ℕ) (start : StartIs)
    (old new : List Entrance) (keepers : List KeeperIs) → old ≡ replicate server.doors new_entrance → m ≡ server.doors → (server.store ≡ None → start.steady ≡ true) → ((p : ℕ) → start.keeper_faults p ≡ 0) → start.sink_faults ≡ 0 → start.children ≡ a.family → b.net ≡ record (a.net) { doors = new } →
    b.depot ≡ a.depot → (most : ℕ) → most ≡ limit_of server.connections →
    IfSome ran (λ r. IfSome log (λ l. Runs wire C seed (m + 1) most start old a.console r (record { entrances = new; console = b.console; children = b.family; keepers = keepers; given = given l; faults = faults l }))) →
    IfSome ran (λ r. IfSome log (λ l. RanOver wire server C seed a b keepers r (given l) (faults l)))
ran_over wire server C seed a b None log given faults m start old new keepers o many steady fresh none family net depot most limit h = tt
ran_over wire server C seed a b (Some r) None given faults m start old new keepers o many steady fresh none family net depot most limit h = tt
ran_over wire server C seed a b (Some r) (Some l) given faults m start old new keepers o many steady fresh none family net depot most limit h =
    over_by wire server C seed a b r (given l) (faults l) m start old new keepers o many steady fresh none family net depot
    (subst (λ (k : ℕ). Runs wire C seed (m + 1) k start old a.console r (record { entrances = new; console = b.console; children = b.family; keepers = keepers; given = given l; faults = faults l })) limit h)

-- ---- a run that never began

-- its doors were closed
pub unran_by : (server : Serving) (a : Gear) (net : Net) (family : Family) (console : ConnWire) (ran : Option Ran) (old new : List Entrance) → old ≡ replicate server.doors new_entrance → net ≡ record (a.net) { doors = new } →
    IfNone ran ((new ≡ old) × (console ≡ a.console) × (family ≡ a.family)) → IsNone ran → record a { net = net; family = family; console = console } ≡ shut server a
unran_by server a net family console None old new o is h none =
    let closed : net ≡ record (a.net) { doors = replicate server.doors new_entrance } = is ∙ ap {A = List Entrance} (λ (doors : List Entrance). record (a.net) { doors = doors }) (h.0 ∙ o) in
    ap {A = Net} (λ (x : Net). record a { net = x; family = family; console = console }) closed
    ∙ ap {A = Family} (λ (x : Family). record (shut server a) { family = x; console = console }) h.2
    ∙ ap {A = ConnWire} (λ (x : ConnWire). record (shut server a) { console = x }) h.1
unran_by server a net family console (Some r) old new o is h none = cc

-- no log was wanted
pub untouched_none : (server : Serving) (a b : Gear) → server.log ≡ None → b ≡ shut server a → IsUntouched server a b
untouched_none server a b none is =
    let kept : b.rack ≡ a.rack = ap (λ (x : Gear). x.rack) is in
    record { gear = is ∙ ap {A = Rack} (λ (x : Rack). record (shut server a) { rack = x }) (sym kept); log = rw none kept }

-- no sink could be opened for it
pub untouched_missed : (server : Serving) (path : List ℕ) (a m b : Gear) → server.log ≡ Some path → m ≡ record a { rack = m.rack } → Misses a.rack m.rack path → b ≡ shut server m → IsUntouched server a b
untouched_missed server path a m b wanted opened missed is =
    let kept : b.rack ≡ m.rack = ap (λ (x : Gear). x.rack) is in
    record {
      gear = is ∙ ap {A = Gear} (λ (x : Gear). shut server x) opened ∙ ap {A = Rack} (λ (x : Rack). record (shut server a) { rack = x }) (sym kept);
      log = rw wanted (inr (subst (λ (x : Rack). Misses a.rack x path) (sym kept) missed));
    }

-- its sink was opened
pub untouched_logged : (server : Serving) (path : List ℕ) (a m b : Gear) → server.log ≡ Some path → m ≡ record a { rack = with_opened path true a.rack } → b ≡ shut server m → IsUntouched server a b
untouched_logged server path a m b wanted opened is =
    let kept : b.rack ≡ with_opened path true a.rack = ap (λ (x : Gear). x.rack) is ∙ ap (λ (x : Gear). x.rack) opened in
    record {
      gear = is ∙ ap {A = Gear} (λ (x : Gear). shut server x) opened ∙ ap {A = Rack} (λ (x : Rack). record (shut server a) { rack = x }) (sym kept);
      log = rw wanted (inl kept);
    }

-- ---- a run

-- what a run is over begins and ends as other objects, but for their sinks
over_alike : {X : Type 0} (wire : X → ConnWire) (server : Serving) (C : Config) (seed : List ℕ) (a b c d : Gear) (keepers : List KeeperIs) (ran : Ran) (given : Option (List ℕ)) (faults : ℕ) →
    c ≡ record a { rack = c.rack } → d ≡ record b { rack = d.rack } → RanOver wire server C seed a b keepers ran given faults → RanOver wire server C seed c d keepers ran given faults
over_alike wire server C seed a b c d keepers ran given faults e f h =
    let made : RanOver wire server C seed (record a { rack = c.rack }) (record b { rack = d.rack }) keepers ran given faults =
    record { start = h.start; steady = h.steady; fresh = h.fresh; sink = h.sink; children = h.children; runs = h.runs; net = h.net; depot = h.depot } in
    subst (λ x. RanOver wire server C seed x d keepers ran given faults) (sym e) (subst (λ x. RanOver wire server C seed (record a { rack = c.rack }) x keepers ran given faults) (sym f) made)

-- its log's sink is closed
pub ran_logged : {X S : Type 0} (wire : X → ConnWire) (server : Serving) (C : Config) (seed path : List ℕ) (a b d : Gear) (keepers : List KeeperIs) (ran : Option Ran) (log : Option S) (sink : S) (given : S → Option (List ℕ)) (faults : S → ℕ) →
    log ≡ Some sink → d ≡ record b { rack = d.rack } → b.rack ≡ a.rack → d.rack ≡ with_closed path (given sink) (faults sink) b.rack →
    IfSome ran (λ r. IfSome log (λ l. RanOver wire server C seed a b keepers r (given l) (faults l))) → IfSome ran (RanLogged wire server C seed path a d keepers)
ran_logged wire server C seed path a b d keepers None log sink given faults e f kept closed h = tt
ran_logged wire server C seed path a b d keepers (Some r) None sink given faults e f kept closed h = absurd (none-some sink e)
ran_logged wire server C seed path a b d keepers (Some r) (Some l) sink given faults e f kept closed h =
    let there : RanOver wire server C seed a b keepers r (given sink) (faults sink) = subst (λ x. RanOver wire server C seed a b keepers r (given x) (faults x)) (same_Some l sink e) h in
    record {
      given = given sink;
      faults = faults sink;
      over = over_alike wire server C seed a b a d keepers r (given sink) (faults sink) refl f there;
      closed = closed ∙ ap (with_closed path (given sink) (faults sink)) kept;
    }

-- no sink came back, so it never began
pub ran_lost : {S : Type 0} (P : Ran → Type 0) (ran : Option Ran) (log : Option S) → log ≡ None → (IsSome ran → IsSome log) → IfSome ran P
ran_lost P None log e h = tt
ran_lost P (Some r) log e h = let there : is_some log ≡ true = h refl in absurd (false≢true (sym (ap is_some e) ∙ there))

-- no log was wanted
pub at_none : {X : Type 0} (wire : X → ConnWire) (server : Serving) (C : Config) (seed : List ℕ) (a b : Gear) (keepers : List KeeperIs) (ran : Option Ran) → server.log ≡ None → IfSome ran (RanUnlogged wire server C seed a b keepers) →
    IfSome ran (λ r. RanAt wire server C seed a b keepers r false)
at_none wire server C seed a b keepers None e h = tt
at_none wire server C seed a b keepers (Some r) e h = record { given = None; faults = 0; over = h.over; log = rw e (h.rack, refl, refl) }

-- no sink could be opened for it
pub at_missed : {X : Type 0} (wire : X → ConnWire) (server : Serving) (C : Config) (seed path : List ℕ) (a m b : Gear) (keepers : List KeeperIs) (ran : Option Ran) → server.log ≡ Some path → m ≡ record a { rack = m.rack } → Misses a.rack m.rack path →
    IfSome ran (RanUnlogged wire server C seed m b keepers) → IfSome ran (λ r. RanAt wire server C seed a b keepers r true)
at_missed wire server C seed path a m b keepers None e f missed h = tt
at_missed wire server C seed path a m b keepers (Some r) e f missed h =
    let back : a ≡ record m { rack = a.rack } = ap {A = Gear} (λ (x : Gear). record x { rack = a.rack }) (sym f) in
    record { given = None; faults = 0; over = over_alike wire server C seed m b a b keepers r None 0 back refl h.over; log = rw e (subst (λ x. Misses a.rack x path) (sym h.rack) missed) }

-- its sink was opened and closed
pub at_logged : {X : Type 0} (wire : X → ConnWire) (server : Serving) (C : Config) (seed path : List ℕ) (a m b : Gear) (keepers : List KeeperIs) (ran : Option Ran) → server.log ≡ Some path → m ≡ record a { rack = with_opened path true a.rack } →
    IfSome ran (RanLogged wire server C seed path m b keepers) → IfSome ran (λ r. RanAt wire server C seed a b keepers r false)
at_logged wire server C seed path a m b keepers None e f h = tt
at_logged wire server C seed path a m b keepers (Some r) e f h =
    let back : a ≡ record m { rack = a.rack } = ap {A = Gear} (λ (x : Gear). record x { rack = a.rack }) (sym f) in
    record {
      given = h.given;
      faults = h.faults;
      over = over_alike wire server C seed m b a b keepers r h.given h.faults back refl h.over;
      log = rw e (h.closed ∙ ap (λ x. with_closed path h.given h.faults x.rack) f);
    }

-- as many keepers are left as there are proxies
all_kept : (C : Config) (steady : Bool) (first : ℕ → ℕ) (p : ℕ) (ks : List KeeperIs) (Js : List (List (Entry ProxyEvent))) → AllKept C true steady first p ks Js → length ks ≡ length Js
all_kept C steady first p [] [] h = refl
all_kept C steady first p [] (J ∷ Js) h = absurd h
all_kept C steady first p (k ∷ ks) [] h = absurd h
all_kept C steady first p (k ∷ ks) (J ∷ Js) h = ap suc (all_kept C steady first (suc p) ks Js h.1)

pub keepers_left : {X : Type 0} (wire : X → ConnWire) (server : Serving) (C : Config) (seed : List ℕ) (a b : Gear) (keepers : List KeeperIs) (ran : Ran) (given : Option (List ℕ)) (faults : ℕ) → RanOver wire server C seed a b keepers ran given faults →
    length keepers ≡ length C.proxies
keepers_left wire server C seed a b keepers ran given faults h = all_kept C h.start.steady h.start.keeper_faults 0 keepers ran.record.proxies h.runs.kept ∙ h.runs.laws.proxies_are
