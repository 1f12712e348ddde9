-- What a worker's dialogs were shown on the board is no more than the worker has seen there; and none of its dialogs lacks its end.
use Rattle.std.proofs.Common.{◌≡◌, inl, inr, ℕ, ◌≤◌, List, [], ◌∷◌, ◌++◌, length, sym, ap, ◌∙◌, subst, append-nil, arith}
use Rattle.std.specs.Prelude.{slice_index}
use mathlib.Core.Logic.{dite}
use native.Mathlib.Decide.{ℕ_discrete}
use Rattle.okws_base.specs.Runs.{Each}
use Rattle.okws_base.specs.Turns.{of, GrowsBy}
use Rattle.okws_base.specs.declared.crash.Cause.{Cause}
use Rattle.okws_base.specs.declared.crash.Cause.TheVariants as cause
use Rattle.okws_plan.specs.declared.configuration.Config.{Config}
use Rattle.okws_plan.specs.declared.event.LauncherEvent.{LauncherEvent}
use Rattle.monitor_model.specs.declared.record.CellEvent.{CellEvent}
use Rattle.monitor_model.specs.declared.record.CellEvent.TheVariants as cell
use Rattle.monitor_model.specs.declared.record.Dialog.{Dialog}
use Rattle.monitor_model.specs.declared.record.End.{End}
use Rattle.monitor_model.specs.declared.record.End.TheVariants as end
use Rattle.monitor_model.specs.declared.record.Item.{Item}
use Rattle.monitor_model.specs.declared.record.Own.TheVariants as own
use Rattle.monitor_model.specs.declared.verdict.Way.{Way}
use Rattle.monitor_model.specs.Legal.{ShownFits}
use Rattle.monitor_model.specs.Seen.{Seen, noted}
use Rattle.service_cell.specs.Dialogs.{HasDialog}
use Rattle.service_cell.specs.Standing.{Standing}
use Rattle.service_cell.specs.Steps.{crash_end}
use Rattle.site_cells.specs.Held.{by_event}
use Rattle.admin_console.specs.declared.controls.Publishing.{Publishing}
use Rattle.admin_console.specs.declared.controls.Publishing.TheVariants as publishing
use Rattle.site_cells.proofs.Onlys.{only_else}
use Rattle.site_cells.specs.Row.{CellsSeen, OnlyAt, seen_at}
use Rattle.service_cell.specs.declared.answer.Spoken.{Spoken}
use Rattle.service_cell.specs.declared.answer.Spoken.TheVariants as spoken
use Rattle.door_worker.specs.Asking.{Asked}
use Rattle.site_worker.specs.Handling.{Accepts, Talks, asker_of}
use Rattle.site_worker.specs.Launching.{TakesTurn}
use Rattle.site_worker.specs.Lives.{Life, Rises, Sees, Starves, number_of}
use Rattle.site_worker.specs.Steering.{Publishes}
use Rattle.site_run.proofs.Leaving.{tail_none}
use Rattle.site_run.proofs.Rounding.{IsKept}
use Rattle.site_run.specs.Tied.{LifeBegins}

-- What number w did at a cell: a dialog that was superseded was shown no more than this, and no dialog lacks its end.
abbrev pub OwnShown : ℕ → ℕ → CellEvent → Type 0
OwnShown w top (cell.Boot k) = Unit {0}
OwnShown w top cell.Retired = Unit {0}
OwnShown w top (cell.Missed v wanted is) = Unit {0}
OwnShown w top (cell.Dialog d) = d.worker ≡ w → ShownFits top d.end
OwnShown w top (cell.Speaking v items) = v ≡ w → ⊥

-- So it is of all that a life of number w has seen of the cells, by what it has seen of the board.
pub record Shows (w : ℕ) (J : Life) : Type 0 where
  pub number_is : number_of J ≡ w
  pub shown : (s : ℕ) → Each (OwnShown w (slice_index J.board s)) (seen_at J.cells s)

-- ---- more may be shown

fits_more : (a b : ℕ) (how : End) → a ≤ b → ShownFits a how → ShownFits b how
fits_more a b (end.Superseded shown) l h = omega arith
fits_more a b end.Reply l h = tt
fits_more a b end.BadFrame l h = tt
fits_more a b end.Ended l h = tt
fits_more a b end.LinkFault l h = tt
fits_more a b end.FrameLimit l h = tt
fits_more a b end.Starved l h = tt

shown_more : (w a b : ℕ) (e : CellEvent) → a ≤ b → OwnShown w a e → OwnShown w b e
shown_more w a b (cell.Boot k) l h = tt
shown_more w a b cell.Retired l h = tt
shown_more w a b (cell.Missed v wanted is) l h = tt
shown_more w a b (cell.Dialog d) l h = λ is. fits_more a b d.end l (h is)
shown_more w a b (cell.Speaking v items) l h = h

pub each_more : (w a b : ℕ) (J : List CellEvent) → a ≤ b → Each (OwnShown w a) J → Each (OwnShown w b) J
each_more w a b [] l h = tt
each_more w a b (e ∷ J) l h = (shown_more w a b e l h.0, each_more w a b J l h.1)

-- what others do
other_shown : (n w top : ℕ) (e : CellEvent) → (by_event n e ≡ w → ⊥) → OwnShown w top e
other_shown n w top (cell.Boot k) h = tt
other_shown n w top cell.Retired h = tt
other_shown n w top (cell.Missed v wanted is) h = tt
other_shown n w top (cell.Dialog d) h = λ is. absurd (h is)
other_shown n w top (cell.Speaking v items) h = h

others_shown : (n w top : ℕ) (more J : List CellEvent) → of (by_event n) w more ≡ [] → Each (OwnShown w top) J → Each (OwnShown w top) (more ++ J)
others_shown n w top [] J none h = h
others_shown n w top (e ∷ more) J none h = let t = tail_none n w e more none in (other_shown n w top e t.0, others_shown n w top more J t.1 h)

pub grown_shown : (n w top : ℕ) (I J : List CellEvent) → GrowsBy (by_event n) w I J → Each (OwnShown w top) I → Each (OwnShown w top) J
grown_shown n w top I J g h = subst (Each (OwnShown w top)) (sym g.2) (others_shown n w top g.0 I g.1 h)

-- ---- a life

pub shows_nothing : (C : Config) (n w : ℕ) (J : Life) → LifeBegins C n w J → Shows w J
shows_nothing C n w J h = record {
  number_is = h.cells.number_is;
  shown = λ s. grown_shown n w (slice_index J.board s) [] (seen_at J.cells s) (seen_at J.cells s, h.cells.none s, sym (append-nil (seen_at J.cells s))) tt;
}

rises_at : (old new : List ℕ) (s : ℕ) → Rises old new → slice_index old s ≤ slice_index new s
rises_at old new s h = h s (slice_index old s) (omega arith)

module _ (C : Config) (n w : ℕ) where
  sees_shown : (J K : Life) (now : Seen) → Sees now J K → Shows w J → Shows w K
  sees_shown J K now h o = record {
    number_is = ap (λ (x : CellsSeen). x.number) h.cells_is ∙ o.number_is;
    shown = λ s. subst (λ (x : CellsSeen). Each (OwnShown w (slice_index K.board s)) (seen_at x s)) (sym h.cells_is) (each_more w (slice_index J.board s) (slice_index K.board s) (seen_at J.cells s) (rises_at J.board K.board s h.board) (o.shown s));
  }

  starves_shown : (J K : Life) → Starves J K → Shows w J → Shows w K
  starves_shown J K h o = sees_shown J K (noted J.seen own.NoMemory) h o

  turns_shown : (events : List LauncherEvent) (J K : Life) → TakesTurn events J K → Shows w J → Shows w K
  turns_shown events J K h o = subst (Shows w) (sym h.only) (record { number_is = o.number_is; shown = o.shown })

  accepts_shown : (path : List ℕ) (goes : Way) (J K : Life) → Accepts C path goes J K → Shows w J → Shows w K
  accepts_shown path goes J K h o = sees_shown J K K.seen h.rest o

  publishes_shown : (J : Life) (t : ℕ) (content : List ℕ) (p : Publishing) (K : Life) → Publishes J t content p K → Shows w J → Shows w K
  publishes_shown J t content (publishing.Edition m) K h o = sees_shown J K K.seen h.3 o
  publishes_shown J t content publishing.EditionsSpent K h o = sees_shown J K J.seen h.1 o
  publishes_shown J t content publishing.NoMemory K (inl h) o = starves_shown J K h o
  publishes_shown J t content publishing.NoMemory K (inr h) o = subst (Shows w) (sym h) o

  module _ (s : ℕ) (J K : Life) (b a : Standing) (only : OnlyAt s J.cells K.cells) (grows : GrowsBy (by_event n) (number_of J) (seen_at J.cells s) b.past) (board : Rises J.board K.board) (seen_is : seen_at K.cells s ≡ a.past) (o : Shows w J) where
    number_then : number_of K ≡ w
    number_then = ap (λ (x : CellsSeen). x.number) only ∙ o.number_is

    -- at this cell before the turn's own event, and at the others
    before_shown : Each (OwnShown w (slice_index K.board s)) b.past
    before_shown = each_more w (slice_index J.board s) (slice_index K.board s) b.past (rises_at J.board K.board s board)
        (grown_shown n w (slice_index J.board s) (seen_at J.cells s) b.past (subst (λ v. GrowsBy (by_event n) v (seen_at J.cells s) b.past) o.number_is grows) (o.shown s))

    turn_shown : Each (OwnShown w (slice_index K.board s)) a.past → Shows w K
    turn_shown h = record {
      number_is = number_then;
      shown = λ q. dite (ℕ_discrete q s)
          (λ same. subst (λ r. Each (OwnShown w (slice_index K.board r)) (seen_at K.cells r)) (sym same) (subst (Each (OwnShown w (slice_index K.board s))) (sym seen_is) h))
          (λ apart. subst (Each (OwnShown w (slice_index K.board q))) (sym (only_else s q J.cells K.cells apart only))
          (each_more w (slice_index J.board q) (slice_index K.board q) (seen_at J.cells q) (rises_at J.board K.board q board) (o.shown q)));
    }

    dialog_shown : (head content : List ℕ) (items : List Item) (how : End) → ShownFits (slice_index K.board s) how → HasDialog (asker_of C J) head content b J.seen items how a K.seen → Shows w K
    dialog_shown head content items how fits h =
        turn_shown (subst (Each (OwnShown w (slice_index K.board s))) (sym (ap (λ (x : Standing). x.past) h.entered)) ((λ is. fits), before_shown))

  crash_fits : (top : ℕ) (why : Cause) → ShownFits top (crash_end why)
  crash_fits top cause.BadFrame = tt
  crash_fits top cause.Ended = tt
  crash_fits top cause.LinkFault = tt
  crash_fits top cause.FrameLimit = tt
  crash_fits top cause.Starved = tt

  talks_shown : (asked : Asked) (s k : ℕ) (answer : Spoken) (J K : Life) → Talks C n asked s k answer J K → Shows w J → Shows w K
  talks_shown asked s k spoken.Reply J K h o =
      let t = h.talked in
      dialog_shown s J K t.before t.after h.only t.found.grows h.board t.seen_is o asked.head asked.content _ _ tt t.talks.1.6
  talks_shown asked s k (spoken.Crashed why) J K h o =
      let t = h.talked in
      dialog_shown s J K t.before t.after h.only t.found.grows h.board t.seen_is o asked.head asked.content _ (crash_end why) (crash_fits (slice_index K.board s) why) t.talks.1.2
  talks_shown asked s k (spoken.Missed wanted is) J K h o =
      let t = h.talked in
      turn_shown s J K t.before t.after h.only t.found.grows h.board t.seen_is o
      (subst (Each (OwnShown w (slice_index K.board s))) (sym (ap (λ (x : Standing). x.past) t.talks.3)) (tt, before_shown s J K t.before t.after h.only t.found.grows h.board t.seen_is o))
  talks_shown asked s k (spoken.Superseded i shown) J K h o =
      let t = h.talked in
      dialog_shown s J K t.before t.after h.only t.found.grows h.board t.seen_is o asked.head asked.content _ (end.Superseded shown) t.talks.1.2 t.talks.1.4
  talks_shown asked s k spoken.NoMemory J K h o =
      let t = h.talked in
      turn_shown s J K t.before t.after h.only t.found.grows h.board t.seen_is o
      (subst (Each (OwnShown w (slice_index K.board s))) (sym (ap (λ (x : Standing). x.past) t.talks.0)) (before_shown s J K t.before t.after h.only t.found.grows h.board t.seen_is o))

  -- each thing that a worker does keeps it so
  pub shows_kept : IsKept C n (Shows w)
  shows_kept = record { starves = starves_shown; sees = λ J K h o. sees_shown J K J.seen h o; turns = turns_shown; accepts = accepts_shown; talks = talks_shown; publishes = publishes_shown }
