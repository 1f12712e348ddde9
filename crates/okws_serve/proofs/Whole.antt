-- The lists of a run's workers are made of pieces, as a legal record's are.
use Rattle.std.proofs.Common.{◌≡◌, ◌<◌, ◌+◌, ℕ, suc, Bool, true, false, List, [], ◌∷◌, length, filter_map, reverse, get_or, sym, ap, ◌∙◌, subst, arith}
use Rattle.std.proofs.lemmas.List.{get_or_append_left}
use Rattle.std.specs.List.{list_any}
use Rattle.std.specs.Prelude.{IfSome, Some, None}
use Rattle.std.specs.declared.option.Option.{Option}
use mathlib.Core.Logic.{dite}
use native.Mathlib.Decide.{ℕ_discrete}
use Rattle.okws_plan.specs.declared.configuration.Config.{Config}
use Rattle.monitor_model.specs.declared.record.Connection.{Connection}
use Rattle.monitor_model.specs.declared.record.Own.{Own}
use Rattle.monitor_model.specs.declared.record.Record.{Record}
use Rattle.monitor_model.specs.Merged.{list_of}
use Rattle.monitor_model.specs.Outside.{Ordered, Outside, come_of, item_order}
use Rattle.monitor_model.specs.Pieces.{ListsArePieces, is_accept_item, is_ordered, is_whole, mode, worker_list}
use Rattle.monitor_model.specs.Placed.{EachFrom}
use Rattle.round_lives.proofs.Coming.{come_anyway}
use Rattle.okws_serve.specs.Lived.{ListIsPieces}

pub each_from : {A : Type 0} (P : ℕ → A → Type 0) (k : ℕ) (xs : List A) (d : A) → ((s m : ℕ) → s < length xs → m ≡ s + k → P m (get_or xs s d)) → EachFrom P k xs
each_from P k [] d h = tt
each_from P k (x ∷ xs) d h = (h 0 k (omega arith) (omega arith), each_from P (suc k) xs d (λ s m l e. h (suc s) m (omega arith) (omega arith)))

-- a worker's list is the list of its number
pub list_is : (R : Record) (w : ℕ) → w < length R.workers → list_of R w ≡ worker_list R w
list_is R w l = get_or_append_left R.workers (R.launches ∷ []) [] w l

-- whether or not the outside tells of these orders at the console: with the connections of so many doors, whatever they were, the lists of a record's workers are made of pieces.
abbrev AreAllPieces : Config → Record → ℕ → List Ordered → Bool → Type 0
AreAllPieces C R doors orders failed =
    (T : Outside) (connections : List (List Connection)) → IfSome T.orders (λ told. told ≡ orders) → T.console_failed ≡ failed → length connections ≡ doors → ListsArePieces C T (record R { doors = connections })

come_told : (failed : Bool) (orders : List Ordered) (done : List _) (told : Option (List Ordered)) → come_of false orders done ≡ true → IfSome told (λ os. os ≡ orders) → IfSome told (λ os. come_of failed os done ≡ true)
come_told failed orders done None comes is = is
come_told failed orders done (Some os) comes is = subst (λ xs. come_of failed xs done ≡ true) (sym is) (come_anyway failed orders done comes)

pub all_pieces : (C : Config) (R : Record) (ended : ℕ → ℕ → Bool) (doors : ℕ) (failed : Bool) (orders : List Ordered) → length R.workers ≡ suc doors → ((w : ℕ) → w < doors → ListIsPieces C R ended is_ordered w) → ListIsPieces C R ended is_accept_item doors
    → come_of false orders (filter_map item_order (reverse (list_of R doors))) ≡ true → AreAllPieces C R doors orders failed
all_pieces C R ended doors failed orders many at console comes T connections told fails as_many =
    let here : list_of R doors ≡ worker_list R doors = list_is R doors (omega arith) in
    let done : come_of false orders (filter_map item_order (reverse (worker_list R doors))) ≡ true = subst (λ (items : List Own). come_of false orders (filter_map item_order (reverse items)) ≡ true) here comes in
    let accepts : list_any is_accept_item (worker_list R doors) ≡ false = subst (λ (items : List Own). list_any is_accept_item items ≡ false) here console.allowed in
    record {
      workers_are = many ∙ ap suc (sym as_many);
      pieces = each_from (λ (w : ℕ) (items : List Own). is_whole (mode C R w items) ≡ true) 0 R.workers []
          (λ s m l e. let same : m ≡ s = omega arith in subst (λ (w : ℕ). is_whole (mode C R w (worker_list R s)) ≡ true) (sym same) (subst (λ (items : List Own). is_whole (mode C R s items) ≡ true) (list_is R s l) (whole s l)));
      doors = each_from (λ (w : ℕ) (c : List Connection). list_any is_ordered (worker_list R w) ≡ false) 0 connections []
          (λ s m l e. let same : m ≡ s = omega arith in subst (λ (w : ℕ). list_any is_ordered (worker_list R w) ≡ false) (sym same) (unordered s (omega arith)));
      console = subst (λ (k : ℕ). list_any is_accept_item (worker_list R k) ≡ false) (sym as_many) accepts;
      orders = subst (λ (b : Bool). IfSome T.orders (λ os. come_of b os (filter_map item_order (reverse (worker_list R (length connections)))) ≡ true)) (sym fails)
          (subst (λ (k : ℕ). IfSome T.orders (λ os. come_of failed os (filter_map item_order (reverse (worker_list R k))) ≡ true)) (sym as_many)
          (come_told failed orders (filter_map item_order (reverse (worker_list R doors))) T.orders done told));
    }
  where
    whole : (w : ℕ) → w < length R.workers → is_whole (mode C R w (list_of R w)) ≡ true
    whole w l = dite (ℕ_discrete w doors)
        (λ is. subst (λ (k : ℕ). is_whole (mode C R k (list_of R k)) ≡ true) (sym is) console.whole)
        (λ not. (at w (omega arith)).whole)

    unordered : (w : ℕ) → w < doors → list_any is_ordered (worker_list R w) ≡ false
    unordered w l = subst (λ (items : List Own). list_any is_ordered items ≡ false) (list_is R w (omega arith)) (at w l).allowed
