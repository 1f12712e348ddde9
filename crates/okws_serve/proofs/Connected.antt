-- The connections of a run's doors were answered by their workers' pieces.
use Rattle.std.proofs.Common.{◌≡◌, ◌≤◌, ◌<◌, ◌+◌, ◌-◌, ◌^◌, inl, ℕ, suc, Bool, true, false, cond, List, [], ◌∷◌, ◌++◌, length, map, refl, sym, ap, ◌∙◌, subst, arith, append-nil, eq-eqb, filter_map, Option, Some, None}
use Rattle.std.proofs.lemmas.Bool.{ne_eqb, true≢false}
use Rattle.std.proofs.lemmas.List.{get_or_append_left}
use Rattle.std.specs.Prelude.{nat_le}
use Rattle.std.specs.List.{list_all}
use Rattle.okws_outer.specs.Conns.{ConnWire}
use Rattle.okws_outer.specs.Doors.{Entrance}
use Rattle.okws_outer.specs.Streams.{counted}
use Rattle.okws_plan.specs.declared.configuration.Config.{Config}
use Rattle.monitor_model.specs.declared.record.Connection.{Connection}
use Rattle.monitor_model.specs.declared.record.Own.{Own}
use Rattle.monitor_model.specs.declared.record.Record.{Record}
use Rattle.monitor_model.specs.Columns.{WithinCount}
use Rattle.monitor_model.specs.Connections.{AreVisits, ConnectionsAreServed, DoorIsServed, Share, Visit, visits_to}
use Rattle.monitor_model.specs.Merged.{list_of}
use Rattle.monitor_model.specs.Outside.{Outside}
use Rattle.monitor_model.specs.Pieces.{worker_list}
use Rattle.monitor_model.specs.Placed.{EachFrom}
use Rattle.monitor_model.specs.Tied.{piece_visits}
use Rattle.monitor_model.specs.Worker.{Piece, Accepted, Published, Launched, Wants}
use Rattle.monitor_model.proofs.Visits.{lives_are_visits}
use Rattle.worker_lives.specs.Listing.{first_item}
use Rattle.worker_lives.proofs.Listed.{visits_join}
use Rattle.round_lives.specs.Laws.{is_order}
use Rattle.round_lives.specs.Serving.{Finishes, ServesAll}
use Rattle.round_lives.proofs.Rounded.{doors_are_served}
use Rattle.site_worker.specs.declared.door.Attended.{Attended}
use Rattle.site_run.specs.Tied.{is_launching}
use Rattle.okws_serve.specs.Connected.{AllFinish, rise}
use Rattle.okws_serve.specs.Told.{door_rise}
use Rattle.okws_serve.specs.Doors.{AllAttend, AttendsAt}
use Rattle.okws_serve.proofs.Pieces.{Listed, both_of, first_is, listed}

-- ---- what no connection had

-- what number 0 noted before the workers began
launched_had : (pieces : List Piece) → list_all is_launching (map first_item pieces) ≡ true → AreVisits [] (piece_visits pieces)
launched_had [] h = refl
launched_had (Accepted path head content outcome ∷ pieces) h = absurd (true≢false (sym h))
launched_had (Published t content ∷ pieces) h = absurd (true≢false (sym h))
launched_had (Launched event ∷ pieces) h = launched_had pieces (both_of (is_launching (first_item (Launched event))) (list_all is_launching (map first_item pieces)) h).1
launched_had (Wants ∷ pieces) h = inl (launched_had pieces h)

-- ---- the counts

-- it is told of each door, the first of which has number w, how much its count rose
abbrev pub TellsRises : (ℕ → Option ℕ) → ℕ → List Entrance → List Entrance → Type 0
TellsRises told w [] [] = Unit {0}
TellsRises told w [] (f ∷ fs) = ⊥
TellsRises told w (e ∷ es) [] = ⊥
TellsRises told w (e ∷ es) (f ∷ fs) = (told w ≡ rise e.faults f.faults) × TellsRises told (suc w) es fs

-- connections are told of each door
pub finish_all : {X : Type 0} (wire : X → ConnWire) (es fs : List Entrance) (cs : List (List Connection)) → AllFinish wire es fs cs → length cs ≡ length es
finish_all wire [] [] [] a = refl
finish_all wire [] [] (c ∷ cs) a = absurd a
finish_all wire [] (f ∷ fs) cs a = absurd a
finish_all wire (e ∷ es) [] cs a = absurd a
finish_all wire (e ∷ es) (f ∷ fs) [] a = absurd a
finish_all wire (e ∷ es) (f ∷ fs) (c ∷ cs) a = ap suc (finish_all wire es fs cs a.1)

-- what is told of the doors by their numbers is told of each
pub doors_told : {X : Type 0} (wire : X → ConnWire) (told : ℕ → Option ℕ) (n : ℕ) (es fs : List Entrance) (cs : List (List Connection)) → AllFinish wire es fs cs → ((w : ℕ) → n ≤ w → told w ≡ door_rise n es fs w) → TellsRises told n es fs
doors_told wire told n [] [] cs a h = tt
doors_told wire told n [] (f ∷ fs) cs a h = absurd a
doors_told wire told n (e ∷ es) [] cs a h = absurd a
doors_told wire told n (e ∷ es) (f ∷ fs) [] a h = absurd a
doors_told wire told n (e ∷ es) (f ∷ fs) (c ∷ cs) a h =
    (h n (omega arith) ∙ rw (eq-eqb n n refl) refl, doors_told wire told (suc n) es fs cs a.1 (λ w l. h w (omega arith) ∙ rw (ne_eqb w n (later w l)) refl))
  where
    later : (w : ℕ) → suc n ≤ w → w ≡ n → ⊥
    later w l is = omega (arith, is, l)

pub within_rise : (e f m : ℕ) → counted e m ≤ f → WithinCount (rise e f) m
within_rise e f m l = by (nat_le (2 ^ 64 - 1) f) refl
  where
    by : (b : Bool) → nat_le (2 ^ 64 - 1) f ≡ b → WithinCount (cond b None (Some (f - e))) m
    by true is = tt
    by false is = let below : f < 2 ^ 64 - 1 = grind (arith, is) in omega arith

-- ---- one door

-- the record of which the connections are told says the same of a worker's visits
same_visits : (C : Config) (R : Record) (connections : List (List Connection)) (w : ℕ) (items : List Own) → visits_to C (record R { doors = connections }) w None items ≡ visits_to C R w None items
same_visits C R connections w items = refl

worker_is : (R : Record) (w : ℕ) → w < length R.workers → worker_list R w ≡ list_of R w
worker_is R w l = sym (get_or_append_left R.workers (R.launches ∷ []) [] w l)

module _ {X : Type 0} (wire : X → ConnWire) (C : Config) (n most : ℕ) (R : Record) (ended : ℕ → ℕ → Bool) (many : length R.proxies ≡ length C.proxies) where
  -- all that a worker did at its door
  pub record Connects (w : ℕ) (e f : Entrance) : Type 0 where
    pub connections : List Connection
    pub finishes : Finishes wire e f connections
    pub served : (all : List (List Connection)) → DoorIsServed C (record R { doors = all }) (rise e.faults f.faults) w connections

  door_connects : (w : ℕ) (e f : Entrance) (a : Attended) → w < length R.workers → AttendsAt wire C n most R ended w e f a → Connects w e f
  door_connects w e f a l h =
      let all : ServesAll wire C w e f h.before h.after
      = doors_are_served C n w wire most h.seen e f h.before h.after [] h.drawn a (first_is C n R ended w h.before h.after many h.begins h.left) h.attends in
      let pieces = all.lives.lives.pieces in
      let made : Listed C n R ended w h.before h.after many h.begins h.left is_order all.lives.lives = listed C n R ended w h.before h.after many h.begins h.left is_order all.lives.lives in
      let given : List Visit = filter_map (λ (share : Share). share.visit) all.shares in
      let before : AreVisits [] (piece_visits made.before)
      = launched_had made.before (subst (λ (items : List Own). list_all is_launching items ≡ true) (sym made.first) h.begins.launches.only) in
      let had : AreVisits (given ++ []) (piece_visits (pieces ++ made.before)) = visits_join [] given made.before pieces before all.lives.had in
      let listed : visits_to C R w None (worker_list R w) ≡ piece_visits (pieces ++ made.before)
      = ap (visits_to C R w None) (worker_is R w l) ∙ lives_are_visits C R w (pieces ++ made.before) (list_of R w) many made.worker in
      record {
        connections = all.connections;
        finishes = all.finishes;
        served = λ connections. record {
          shares = all.shares;
          served = all.served;
          visits = subst (AreVisits given) (sym (same_visits C R connections w (worker_list R w) ∙ listed))
              (subst (λ (v : List Visit). AreVisits v (piece_visits (pieces ++ made.before))) (append-nil given) had);
          cut = within_rise e.faults f.faults _ all.cut;
        };
      }

  -- ---- all doors

  -- The connections that the doors of a run finished were served by its workers, as the record of the run says with these connections: each was answered by the piece of its worker's list that it had. At most as many were cut at a door as its count rose.
  pub record ServesConnections (old new : List Entrance) : Type 0 where
    pub connections : List (List Connection)
    pub finish : AllFinish wire old new connections
    pub served : (T : Outside) → TellsRises T.doors 0 old new → ConnectionsAreServed C T (record R { doors = connections })

  pub record AllConnect (w : ℕ) (es fs : List Entrance) : Type 0 where
    pub connections : List (List Connection)
    pub finish : AllFinish wire es fs connections
    pub served : (all : List (List Connection)) (T : Outside) → TellsRises T.doors w es fs → EachFrom (λ v cs. DoorIsServed C (record R { doors = all }) (T.doors v) v cs) w connections

  doors_connect : (w : ℕ) (es fs : List Entrance) (as' : List Attended) → length es + w ≤ length R.workers → AllAttend wire C n most R ended w es fs as' → AllConnect w es fs
  doors_connect w [] [] [] l h = record { connections = []; finish = tt; served = λ all T tells. tt }
  doors_connect w [] [] (a ∷ as') l h = absurd h
  doors_connect w [] (f ∷ fs) as' l h = absurd h
  doors_connect w (e ∷ es) [] as' l h = absurd h
  doors_connect w (e ∷ es) (f ∷ fs) [] l h = absurd h
  doors_connect w (e ∷ es) (f ∷ fs) (a ∷ as') l h =
      let here : Connects w e f = door_connects w e f a (omega arith) h.0 in
      let rest : AllConnect (suc w) es fs = doors_connect (suc w) es fs as' (omega arith) h.1 in
      record {
        connections = here.connections ∷ rest.connections;
        finish = (here.finishes, rest.finish);
        served = λ all T tells. (
          subst (λ (rose : Option ℕ). DoorIsServed C (record R { doors = all }) rose w here.connections) (sym tells.0) (here.served all),
          rest.served all T tells.1,
        );
      }

  pub connects_doors : (es fs : List Entrance) (as' : List Attended) → length es ≤ length R.workers → AllAttend wire C n most R ended 0 es fs as' → ServesConnections es fs
  connects_doors es fs as' l h =
      let all : AllConnect 0 es fs = doors_connect 0 es fs as' (omega arith) h in
      record { connections = all.connections; finish = all.finish; served = all.served all.connections }
