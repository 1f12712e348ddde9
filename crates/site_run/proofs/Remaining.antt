-- What a worker has seen of a cell stays at the beginning of what it has seen there.
use Rattle.std.proofs.Common.{◌≡◌, ◌∙◌, inl, inr, ℕ, Bool, List, [], ◌∷◌, ◌++◌, sym, ap, subst}
use Rattle.std.proofs.lemmas.List.{append_assoc}
use mathlib.Core.Logic.{dite}
use native.Mathlib.Decide.{ℕ_discrete}
use Rattle.okws_base.specs.Turns.{Behind, GrowsBy}
use Rattle.okws_plan.specs.declared.configuration.Config.{Config}
use Rattle.okws_plan.specs.declared.event.LauncherEvent.{LauncherEvent}
use Rattle.monitor_model.specs.declared.record.CellEvent.{CellEvent}
use Rattle.monitor_model.specs.declared.record.End.{End}
use Rattle.monitor_model.specs.declared.record.Item.{Item}
use Rattle.monitor_model.specs.declared.record.Record.{Record}
use Rattle.monitor_model.specs.declared.verdict.Way.{Way}
use Rattle.monitor_model.specs.Merged.{cell_past}
use Rattle.service_cell.specs.Dialogs.{HasDialog}
use Rattle.service_cell.specs.Standing.{Standing}
use Rattle.service_cell.specs.declared.answer.Spoken.{Spoken}
use Rattle.service_cell.specs.declared.answer.Spoken.TheVariants as spoken
use Rattle.site_cells.specs.Held.{by_event}
use Rattle.site_cells.proofs.Onlys.{only_else}
use Rattle.site_cells.specs.Row.{CellsSeen, OnlyAt, seen_at}
use Rattle.door_worker.specs.Asking.{Asked}
use Rattle.admin_console.specs.declared.controls.Publishing.{Publishing}
use Rattle.admin_console.specs.declared.controls.Publishing.TheVariants as publishing
use Rattle.site_worker.specs.Handling.{Accepts, Talks, asker_of}
use Rattle.site_worker.specs.Launching.{TakesTurn}
use Rattle.site_worker.specs.Lives.{Life, Sees, Starves, number_of}
use Rattle.site_worker.specs.Steering.{Publishes}
use Rattle.site_run.proofs.Leaving.{cell_at}
use Rattle.site_run.proofs.Rounding.{IsKept}
use Rattle.site_run.specs.Tied.{LifeEnds}

behind_on : (I J K : List CellEvent) → Behind I J → Behind J K → Behind I K
behind_on I J K h g = (g.0 ++ h.0, g.1 ∙ (ap (λ l. g.0 ++ l) h.1 ∙ sym (append_assoc g.0 h.0 I)))

one_more : (e : CellEvent) (J K : List CellEvent) → K ≡ e ∷ J → Behind J K
one_more e J K is = (e ∷ [], is)

module _ (C : Config) (n r : ℕ) (I : List CellEvent) where
  -- these events of the cell of r were seen
  abbrev pub Remains : Life → Type 0
  Remains J = Behind I (seen_at J.cells r)

  same_cells : (J K : Life) → K.cells ≡ J.cells → Remains J → Remains K
  same_cells J K is h = subst (λ (c : CellsSeen). Behind I (seen_at c r)) (sym is) h

  starves_remains : (J K : Life) → Starves J K → Remains J → Remains K
  starves_remains J K h o = same_cells J K h.cells_is o

  sees_remains : (J K : Life) → Sees J.seen J K → Remains J → Remains K
  sees_remains J K h o = same_cells J K h.cells_is o

  turns_remains : (events : List LauncherEvent) (J K : Life) → TakesTurn events J K → Remains J → Remains K
  turns_remains events J K h o = same_cells J K (ap (λ (L : Life). L.cells) h.only) o

  accepts_remains : (path : List ℕ) (goes : Way) (J K : Life) → Accepts C path goes J K → Remains J → Remains K
  accepts_remains path goes J K h o = same_cells J K h.rest.cells_is o

  publishes_remains : (J : Life) (t : ℕ) (content : List ℕ) (p : Publishing) (K : Life) → Publishes J t content p K → Remains J → Remains K
  publishes_remains J t content (publishing.Edition m) K h o = same_cells J K h.3.cells_is o
  publishes_remains J t content publishing.EditionsSpent K h o = same_cells J K h.1.cells_is o
  publishes_remains J t content publishing.NoMemory K (inl h) o = starves_remains J K h o
  publishes_remains J t content publishing.NoMemory K (inr h) o = subst Remains (sym h) o

  turn_remains : (s : ℕ) (J K : Life) (b a : Standing) → OnlyAt s J.cells K.cells → GrowsBy (by_event n) (number_of J) (seen_at J.cells s) b.past → seen_at K.cells s ≡ a.past → Behind b.past a.past → Remains J → Remains K
  turn_remains s J K b a only grows seen_is new o = dite (ℕ_discrete r s)
      (λ same.
      let here : Behind I (seen_at J.cells s) = subst (λ q. Behind I (seen_at J.cells q)) same o in
      subst (λ q. Behind I (seen_at K.cells q)) (sym same)
      (subst (Behind I) (sym seen_is) (behind_on I b.past a.past (behind_on I (seen_at J.cells s) b.past here (grows.0, grows.2)) new)))
      (λ apart. subst (Behind I) (sym (only_else s r J.cells K.cells apart only)) o)

  dialog_new : (J K : Life) (b a : Standing) (head content : List ℕ) (items : List Item) (how : End) → HasDialog (asker_of C J) head content b J.seen items how a K.seen → Behind b.past a.past
  dialog_new J K b a head content items how h = one_more _ b.past a.past (ap (λ (x : Standing). x.past) h.entered)

  talks_remains : (asked : Asked) (s k : ℕ) (answer : Spoken) (J K : Life) → Talks C n asked s k answer J K → Remains J → Remains K
  talks_remains asked s k spoken.Reply J K h o =
      let t = h.talked in turn_remains s J K t.before t.after h.only t.found.grows t.seen_is (dialog_new J K t.before t.after asked.head asked.content _ _ t.talks.1.6) o
  talks_remains asked s k (spoken.Crashed why) J K h o =
      let t = h.talked in turn_remains s J K t.before t.after h.only t.found.grows t.seen_is (dialog_new J K t.before t.after asked.head asked.content _ _ t.talks.1.2) o
  talks_remains asked s k (spoken.Missed wanted is) J K h o =
      let t = h.talked in turn_remains s J K t.before t.after h.only t.found.grows t.seen_is (one_more _ t.before.past t.after.past (ap (λ (x : Standing). x.past) t.talks.3)) o
  talks_remains asked s k (spoken.Superseded i shown) J K h o =
      let t = h.talked in turn_remains s J K t.before t.after h.only t.found.grows t.seen_is (dialog_new J K t.before t.after asked.head asked.content _ _ t.talks.1.4) o
  talks_remains asked s k spoken.NoMemory J K h o =
      let t = h.talked in turn_remains s J K t.before t.after h.only t.found.grows t.seen_is ([], ap (λ (x : Standing). x.past) t.talks.0) o

  -- each thing that a worker does keeps it so
  pub remains_kept : IsKept C n Remains
  remains_kept = record { starves = starves_remains; sees = sees_remains; turns = turns_remains; accepts = accepts_remains; talks = talks_remains; publishes = publishes_remains }

-- and so it stands in the record
pub remained : (n w r : ℕ) (I : List CellEvent) (J : Life) (R : Record) (ended : ℕ → ℕ → Bool) → Behind I (seen_at J.cells r) → LifeEnds n w J R ended → Behind I (cell_past R r)
remained n w r I J R ended h l = let grows = cell_at n w J.cells.cells R.cells l.cells r in behind_on I (seen_at J.cells r) (cell_past R r) h (grows.0, grows.2)
