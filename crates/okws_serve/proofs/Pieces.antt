-- The lists of a run's workers are made of whole pieces.
use Rattle.std.proofs.Common.{◌≡◌, ◌≤◌, ◌<◌, ◌+◌, inl, inr, ℕ, suc, Bool, true, false, List, [], ◌∷◌, ◌++◌, length, map, filter_map, reverse, get_or, refl, sym, ap, ◌∙◌, subst, append-nil, arith}
use Rattle.std.proofs.lemmas.Bool.{true≢false}
use Rattle.std.proofs.lemmas.List.{map-append}
use Rattle.std.proofs.lemmas.List.Folds.{list_any-append}
use Rattle.std.specs.Prelude.{◌&&◌, ◌||◌, None}
use Rattle.std.specs.List.{list_all, list_any}
use mathlib.Core.Logic.{dite}
use native.Mathlib.Decide.{ℕ_discrete}
use Rattle.okws_outer.specs.Conns.{ConnWire}
use Rattle.okws_outer.specs.Doors.{Entrance}
use Rattle.okws_plan.specs.declared.configuration.Config.{Config}
use Rattle.okws_plan.specs.declared.event.LauncherEvent.TheVariants as event
use Rattle.monitor_model.specs.declared.record.Own.{Own}
use Rattle.monitor_model.specs.declared.record.Own.TheVariants as own
use Rattle.monitor_model.specs.declared.record.Record.{Record}
use Rattle.monitor_model.specs.Causes.{has_up}
use Rattle.monitor_model.specs.Merged.{list_of}
use Rattle.monitor_model.specs.Outside.{Order, Ordered, come_of, item_order}
use Rattle.monitor_model.specs.Pieces.{is_accept_item, is_ordered}
use Rattle.monitor_model.specs.Seen.{Seen}
use Rattle.monitor_model.specs.Worker.{IsWorker, Piece, Accepted, Published, Launched, Wants}
use Rattle.monitor_model.proofs.Lived.{lives_are_pieces}
use Rattle.site_cells.specs.Held.{by_event}
use Rattle.launch_turns.specs.Deeds.{ended_in, entries, up_in}
use Rattle.worker_lives.specs.Beginning.{IsOfTurn, turned_alone}
use Rattle.worker_lives.specs.Ending.{crashes_came, launches_end}
use Rattle.worker_lives.specs.Going.{GoesOn, IsBlank, Sights}
use Rattle.worker_lives.specs.Leading.{spoken_in}
use Rattle.worker_lives.specs.Listing.{are_told, first_item}
use Rattle.worker_lives.specs.Waiting.{LeadsSo}
use Rattle.worker_lives.proofs.Begun.{turns_alone_are_lives}
use Rattle.worker_lives.proofs.Endings.{crashes_had_causes, launches_ended}
use Rattle.worker_lives.proofs.Listed.{items_are_of_pieces, orders_are_of_pieces}
use Rattle.worker_lives.proofs.Others.{others_leave_dialogs}
use Rattle.worker_lives.proofs.Steps.{goings_are_lives, goings_join, lives_end_in_records}
use Rattle.worker_lives.proofs.Told.{crashes_told, told_both}
use Rattle.worker_lives.proofs.Waited.{pieces_lead}
use Rattle.round_lives.specs.Laws.{is_accepted}
use Rattle.round_lives.specs.Living.{EndsWell, IsOf, LivesOn, sights_of}
use Rattle.round_lives.specs.Orders.{Steers, carried_out}
use Rattle.round_lives.proofs.Coming.{filter_map-both, filter_map-reverse}
use Rattle.round_lives.proofs.Ended.{ends_both, ends_then}
use Rattle.round_lives.proofs.Obeyed.{consoles_are_obeyed, nothing_carried}
use Rattle.round_lives.proofs.Rounded.{consoles_are_lived, doors_are_lived}
use Rattle.site_worker.specs.Lives.{Life}
use Rattle.site_worker.specs.declared.door.Attended.{Attended}
use Rattle.site_run.specs.Tied.{LifeBegins, LifeEnds, is_launching}
use Rattle.site_run.proofs.Leaving.{cell_at}
use Rattle.site_run.proofs.Once.{up_begun}
use Rattle.okws_serve.specs.declared.outfit.Ending.{Ending}
use Rattle.okws_serve.specs.Doors.{AllAttend, AttendsAt, ServesConsole}
use Rattle.okws_serve.specs.Lived.{ListIsPieces, OrdersAreObeyed}

-- ---- what number 0 noted before the workers began

of_turn : (item : Own) → is_launching item ≡ true → IsOfTurn item
of_turn (own.Launcher e) h = inr (e, refl)
of_turn own.NoMemory h = inl refl
of_turn (own.Okd e) h = absurd (true≢false (sym h))
of_turn (own.Proxy p e) h = absurd (true≢false (sym h))
of_turn (own.Pubd e) h = absurd (true≢false (sym h))
of_turn (own.Oklogd e) h = absurd (true≢false (sym h))
of_turn (own.Dialog s) h = absurd (true≢false (sym h))
of_turn (own.Missed s k is) h = absurd (true≢false (sym h))
of_turn (own.Boot s k) h = absurd (true≢false (sym h))
of_turn (own.Retired s) h = absurd (true≢false (sym h))

pub both_of : (a b : Bool) → (a && b) ≡ true → (a ≡ true) × (b ≡ true)
both_of true b h = (refl, h)
both_of false b h = absurd (true≢false (sym h))

-- what forbids nothing that is launched
module _ (forbidden : Own → Bool) (few : (item : Own) → is_launching item ≡ true → forbidden item ≡ false) where
  launches_allowed : (items : List Own) → list_all is_launching items ≡ true → list_any forbidden items ≡ false
  launches_allowed [] h = refl
  launches_allowed (item ∷ items) h = let b = both_of (is_launching item) (list_all is_launching items) h in rw (few item b.0) (launches_allowed items b.1)

few_ordered : (item : Own) → is_launching item ≡ true → is_ordered item ≡ false
few_ordered (own.Launcher (event.Begun s k)) h = refl
few_ordered (own.Launcher (event.Failed s k)) h = refl
few_ordered (own.Launcher (event.Dead s n)) h = refl
few_ordered (own.Launcher (event.Crashed s k)) h = absurd (true≢false (sym h))
few_ordered (own.Launcher (event.Asked s)) h = absurd (true≢false (sym h))
few_ordered own.NoMemory h = refl
few_ordered (own.Okd e) h = absurd (true≢false (sym h))
few_ordered (own.Proxy p e) h = absurd (true≢false (sym h))
few_ordered (own.Pubd e) h = absurd (true≢false (sym h))
few_ordered (own.Oklogd e) h = absurd (true≢false (sym h))
few_ordered (own.Dialog s) h = absurd (true≢false (sym h))
few_ordered (own.Missed s k is) h = absurd (true≢false (sym h))
few_ordered (own.Boot s k) h = absurd (true≢false (sym h))
few_ordered (own.Retired s) h = absurd (true≢false (sym h))

few_accepted : (item : Own) → is_launching item ≡ true → is_accept_item item ≡ false
few_accepted (own.Launcher e) h = refl
few_accepted own.NoMemory h = refl
few_accepted (own.Okd e) h = absurd (true≢false (sym h))
few_accepted (own.Proxy p e) h = absurd (true≢false (sym h))
few_accepted (own.Pubd e) h = absurd (true≢false (sym h))
few_accepted (own.Oklogd e) h = absurd (true≢false (sym h))
few_accepted (own.Dialog s) h = absurd (true≢false (sym h))
few_accepted (own.Missed s k is) h = absurd (true≢false (sym h))
few_accepted (own.Boot s k) h = absurd (true≢false (sym h))
few_accepted (own.Retired s) h = absurd (true≢false (sym h))

any_first : (forbidden : Own → Bool) (pieces : List Piece) → list_any (λ (piece : Piece). forbidden (first_item piece)) pieces ≡ list_any forbidden (map first_item pieces)
any_first forbidden [] = refl
any_first forbidden (piece ∷ pieces) = ap (λ (b : Bool). forbidden (first_item piece) || b) (any_first forbidden pieces)

-- nothing that is launched is a crash
launched_came : (ended : ℕ → ℕ → Bool) (pieces : List Piece) → list_all is_launching (map first_item pieces) ≡ true → crashes_came ended pieces ≡ true
launched_came ended [] h = refl
launched_came ended (Accepted path head content outcome ∷ pieces) h = absurd (true≢false (sym h))
launched_came ended (Published t content ∷ pieces) h = absurd (true≢false (sym h))
launched_came ended (Launched (event.Begun s k) ∷ pieces) h = launched_came ended pieces h
launched_came ended (Launched (event.Failed s k) ∷ pieces) h = launched_came ended pieces h
launched_came ended (Launched (event.Dead s n) ∷ pieces) h = launched_came ended pieces h
launched_came ended (Launched (event.Crashed s k) ∷ pieces) h = absurd (true≢false (sym h))
launched_came ended (Launched (event.Asked s) ∷ pieces) h = absurd (true≢false (sym h))
launched_came ended (Wants ∷ pieces) h = launched_came ended pieces h

-- ---- a worker's list

module _ (C : Config) (n : ℕ) (R : Record) (ended : ℕ → ℕ → Bool) (w : ℕ) (J K : Life) (many : length R.proxies ≡ length C.proxies) (begins : LifeBegins C n w J) (ends : LifeEnds n w K R ended) where
  pub first_is : IsOf w J
  first_is = record { number_is = begins.cells.number_is; seat_is = begins.seat }

  -- the pieces of its whole list: those by which it lived, and before them what it noted before it began
  pub record Listed (forbidden : Piece → Bool) (lives : LivesOn C w forbidden J K) : Type 0 where
    pub before : List Piece
    pub first : map first_item before ≡ J.seen.own
    pub told : are_told None before ≡ true
    pub worker : IsWorker C R w (lives.pieces ++ before) (list_of R w)

  pub listed : (forbidden : Piece → Bool) (lives : LivesOn C w forbidden J K) → Listed forbidden lives
  listed forbidden lives =
      let items = J.seen.own in
      let m = length C.proxies in
      let seen = entries J.launcher.seen in
      let blank : Sights = turned_alone m [] [] J.cells.cells in
      let turned : Sights = turned_alone m items seen J.cells.cells in
      let at = turns_alone_are_lives is_launching C w items seen J.cells.cells of_turn begins.launches.only begins.launches.entered in
      let there : sights_of J ≡ turned = ap (λ (S : Seen). record { columns = S; launcher = seen; cells = J.cells.cells }) begins.seen_is in
      let goes : GoesOn C w lives.pieces turned (sights_of K) = subst (λ (X : Sights). GoesOn C w lives.pieces X (sights_of K)) there lives.goes in
      let all = lives.pieces ++ at.0 in
      let joined : GoesOn C w all blank (sights_of K) = goings_join C w at.0 lives.pieces blank turned (sights_of K) at.1 goes in
      let empty : Sights = turned_alone m [] [] [] in
      let silent = λ (s : ℕ). others_leave_dialogs (by_event n) w [] (get_or J.cells.cells s []) (λ d. refl) (get_or J.cells.cells s [], begins.cells.none s, sym (append-nil (get_or J.cells.cells s []))) in
      let since : GoesOn C w all empty (sights_of K) = record { leads = joined.leads; dialogs = λ s. joined.dialogs s ∙ ap (λ ds. spoken_in s all ++ ds) (silent s) } in
      let begun : IsBlank m empty = record { columns = refl; launcher = refl; cells = λ s. refl } in
      let lived = goings_are_lives C w all empty (sights_of K) begun since in
      let dialogs = λ (s : ℕ). others_leave_dialogs (by_event n) w (get_or K.cells.cells s []) (get_or R.cells s []) (λ d. refl) (cell_at n w K.cells.cells R.cells ends.cells s) in
      record {
        before = at.0;
        first = at.2;
        told = at.3;
        worker = subst (IsWorker C R w all) ends.own_is (lives_end_in_records C R w all (sights_of K) many lived ends.columns ends.launcher dialogs);
      }

  -- nothing that it noted before it began is forbidden, where no launch is
  before_allowed : (forbidden : Own → Bool) → ((item : Own) → is_launching item ≡ true → forbidden item ≡ false) → (before : List Piece) → map first_item before ≡ J.seen.own
      → list_any (λ (piece : Piece). forbidden (first_item piece)) before ≡ false
  before_allowed forbidden few before first = any_first forbidden before ∙ (ap (list_any forbidden) first ∙ launches_allowed forbidden few J.seen.own begins.launches.only)

  -- the first items of all pieces lead on
  lead_on : (forbidden : Piece → Bool) (lives : LivesOn C w forbidden J K) (before : List Piece) → map first_item before ≡ J.seen.own → LeadsSo w false (map first_item (lives.pieces ++ before)) (entries K.launcher.seen)
  lead_on forbidden lives before first =
      subst (λ (items : List Own). LeadsSo w false items (entries K.launcher.seen)) (ap (λ (items : List Own). map first_item lives.pieces ++ items) (sym first) ∙ sym (map-append first_item lives.pieces before)) (lives.leads J.seen.own begins.launches.lead)

  -- each launch that they begin ended, and each crash that they enter had its cause
  all_well : (forbidden : Piece → Bool) (lives : LivesOn C w forbidden J K) (before : List Piece) → map first_item before ≡ J.seen.own → EndsWell [] K.launcher.seen (lives.pieces ++ before)
  all_well forbidden lives before first = ends_then [] J.launcher.seen K.launcher.seen before lives.pieces
      (record {
        deeds = (J.launcher.seen, sym (append-nil J.launcher.seen));
        launches = subst (λ (items : List Own). launches_end (up_in J.launcher.seen) None items ≡ true) (sym first) begins.launches.ends;
        crashes = launched_came (ended_in J.launcher.seen) before (subst (λ (items : List Own). list_all is_launching items ≡ true) (sym first) begins.launches.only);
      })
      lives.ends

  pub list_is : (forbidden : Own → Bool) → ((item : Own) → is_launching item ≡ true → forbidden item ≡ false)
      → ((pieces : List Piece) (items : List Own) → IsWorker C R w pieces items → list_any forbidden items ≡ list_any (λ (piece : Piece). forbidden (first_item piece)) pieces)
      → LivesOn C w (λ (piece : Piece). forbidden (first_item piece)) J K → ListIsPieces C R ended forbidden w
  list_is forbidden few link lives =
      let l = listed (λ (piece : Piece). forbidden (first_item piece)) lives in
      let all = lives.pieces ++ l.before in
      let pieced = lives_are_pieces C R w all (list_of R w) many l.worker in
      let told : are_told None all ≡ true = told_both None l.before lives.pieces l.told lives.told in
      let well = all_well (λ (piece : Piece). forbidden (first_item piece)) lives l.before l.first in
      record {
        whole = pieced.0;
        allowed = link all (list_of R w) l.worker
            ∙ (list_any-append (λ (piece : Piece). forbidden (first_item piece)) lives.pieces l.before
            ∙ (ap (λ (b : Bool). b || list_any (λ (piece : Piece). forbidden (first_item piece)) l.before) lives.allowed ∙ before_allowed forbidden few l.before l.first));
        fits = pieced.1;
        told = crashes_told C R w all (list_of R w) many l.worker told;
        lead = pieces_lead C R w all (list_of R w) (entries K.launcher.seen) many l.worker (lead_on (λ (piece : Piece). forbidden (first_item piece)) lives l.before l.first) ends.launcher;
        launches = launches_ended C R w (has_up R) all (list_of R w) many l.worker (ends_both (up_in K.launcher.seen) (has_up R) (λ s k up. ends.ups s k (up_begun s k K.launcher.seen up) ∙ up) None (map first_item all) [] well.launches refl);
        crashed = λ T tells. crashes_had_causes C T R w (ended_in K.launcher.seen) all (list_of R w) many l.worker (λ s k over. tells s k (ends.ends s k over)) well.crashes;
      }

  -- what it carried out comes of the orders of which its life's pieces do
  pub list_obeys : (orders : List Ordered) → Steers C w orders J K → come_of false orders (filter_map item_order (reverse (list_of R w))) ≡ true
  list_obeys orders steers =
      let l = listed is_accepted steers.lives in
      let pieces = steers.lives.pieces in
      let all = pieces ++ l.before in
      let order_of = λ (piece : Piece). item_order (first_item piece) in
      let before : carried_out l.before ≡ [] = nothing_carried l.before (before_allowed is_ordered few_ordered l.before l.first) in
      let is : filter_map item_order (reverse (list_of R w)) ≡ carried_out pieces
      = filter_map-reverse item_order (list_of R w) ∙ ap reverse (orders_are_of_pieces C R w all (list_of R w) many l.worker) ∙ sym (filter_map-reverse order_of all)
      ∙ filter_map-both order_of l.before pieces ∙ ap (λ (first : List Order). first ++ carried_out pieces) before in
      subst (λ (done : List Order). come_of false orders done ≡ true) (sym is) steers.comes

-- of a worker at a door: it carries out no order
pub door_is : {X : Type 0} (wire : X → ConnWire) (C : Config) (n most : ℕ) (R : Record) (ended : ℕ → ℕ → Bool) (w : ℕ) (e f : Entrance) (a : Attended) → length R.proxies ≡ length C.proxies → AttendsAt wire C n most R ended w e f a
    → ListIsPieces C R ended is_ordered w
door_is wire C n most R ended w e f a many h =
    list_is C n R ended w h.before h.after many h.begins h.left is_ordered few_ordered (λ pieces items worker. (items_are_of_pieces C R w pieces items many worker).0)
    (doors_are_lived C n w wire most h.seen e f h.before h.after [] h.drawn a (first_is C n R ended w h.before h.after many h.begins h.left) h.attends)

-- of all workers at doors
pub doors_are : {X : Type 0} (wire : X → ConnWire) (C : Config) (n most : ℕ) (R : Record) (ended : ℕ → ℕ → Bool) (k w : ℕ) (es fs : List Entrance) (as' : List Attended) → length R.proxies ≡ length C.proxies
    → AllAttend wire C n most R ended k es fs as' → k ≤ w → w < length es + k → ListIsPieces C R ended is_ordered w
doors_are wire C n most R ended k w [] fs as' many h l u = absurd (omega arith)
doors_are wire C n most R ended k w (e ∷ es) [] as' many h l u = absurd h
doors_are wire C n most R ended k w (e ∷ es) (f ∷ fs) [] many h l u = absurd h
doors_are wire C n most R ended k w (e ∷ es) (f ∷ fs) (a ∷ as') many h l u = dite (ℕ_discrete k w)
    (λ is. subst (ListIsPieces C R ended is_ordered) is (door_is wire C n most R ended k e f a many h.0))
    (λ not. doors_are wire C n most R ended (suc k) w es fs as' many h.1 (omega arith) (omega arith))

-- of the console's worker: it accepts no connection
pub console_is : (C : Config) (n : ℕ) (R : Record) (ended : ℕ → ℕ → Bool) (w : ℕ) (x y : ConnWire) (e : Ending) → length R.proxies ≡ length C.proxies → ServesConsole C n R ended w x y e → ListIsPieces C R ended is_accept_item w
console_is C n R ended w x y e many h =
    list_is C n R ended w h.before h.after many h.begins h.left is_accept_item few_accepted (λ pieces items worker. (items_are_of_pieces C R w pieces items many worker).1)
    (consoles_are_lived C w x h.mid 0 h.lines h.before h.after h.how (first_is C n R ended w h.before h.after many h.begins h.left) h.oversees)

-- and what it carried out comes of what was ordered there
pub console_obeys : (C : Config) (n : ℕ) (R : Record) (ended : ℕ → ℕ → Bool) (w : ℕ) (x y : ConnWire) (e : Ending) → length R.proxies ≡ length C.proxies → ServesConsole C n R ended w x y e → OrdersAreObeyed C R w x y e
console_obeys C n R ended w x y e many h =
    let it = consoles_are_obeyed C w x h.mid 0 h.lines h.before h.after h.how (first_is C n R ended w h.before h.after many h.begins h.left) h.oversees in
    record {
      lines = h.lines;
      mid = h.mid;
      how = h.how;
      goes_out = h.goes_out;
      orders = it.0;
      reads = it.1;
      comes = list_obeys C n R ended w h.before h.after many h.begins h.left it.0 it.2;
    }
