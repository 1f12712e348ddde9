-- A turn at a cell is what became of an Accept.
use Rattle.std.proofs.Common.{◌≡◌, ◌≢◌, ℕ, Bool, true, false, cond, List, [], ◌∷◌, ◌++◌, ◌==◌, refl, sym, ap, ◌∙◌, subst, eq-eqb, eqb-true, get_or-set_other}
use Rattle.std.proofs.lemmas.Bool.{eqb-false}
use Rattle.std.specs.Prelude.{slice_set, slice_index_or}
use Rattle.okws_base.specs.declared.journal.Entry.{Entry}
use Rattle.okws_plan.specs.declared.configuration.Config.{Config}
use Rattle.okws_plan.specs.declared.event.OkdEvent.{OkdEvent}
use Rattle.okws_plan.specs.declared.event.OkdEvent.TheVariants as okd
use Rattle.monitor_model.specs.declared.record.CellEvent.{CellEvent}
use Rattle.monitor_model.specs.declared.record.CellEvent.TheVariants as cell
use Rattle.monitor_model.specs.declared.record.Dialog.{Dialog}
use Rattle.monitor_model.specs.declared.record.End.{End}
use Rattle.monitor_model.specs.declared.record.End.TheVariants as end
use Rattle.monitor_model.specs.declared.record.Item.{Item}
use Rattle.monitor_model.specs.declared.record.Own.TheVariants as own
use Rattle.monitor_model.specs.declared.verdict.Way.{Way}
use Rattle.monitor_model.specs.declared.verdict.Way.TheVariants as way
use Rattle.monitor_model.specs.Cell.{dialogs_of, incarnation}
use Rattle.monitor_model.specs.Connections.{OutcomeCarries}
use Rattle.monitor_model.specs.Course.{IsDialog}
use Rattle.monitor_model.specs.Okd.{accept_verdict}
use Rattle.monitor_model.specs.Seen.{Seen, AtOkd, noted}
use Rattle.monitor_model.specs.Worker.{Outcome, Unowned, IsDown, IsMissed, WantsMemory, Spoke, Accepted}
use Rattle.monitor_model.proofs.Carried.{dialogs_carry_requests}
use Rattle.service_cell.specs.Asking.{Asker}
use Rattle.service_cell.specs.Dialogs.{Dialogs, EndsAs, HasDialog}
use Rattle.service_cell.specs.Standing.{Standing}
use Rattle.service_cell.specs.Steps.{crash_end}
use Rattle.service_cell.specs.declared.answer.Spoken.{Spoken}
use Rattle.service_cell.specs.declared.answer.Spoken.TheVariants as spoken
use Rattle.worker_lives.specs.Going.{Sights, GoesOn, cell_seen}
use Rattle.worker_lives.specs.Leading.{Goes, GoesBy, spoken as spoken_at}
use Rattle.worker_lives.specs.Talking.{Had, SpokeLast, with_want}
use Rattle.worker_lives.proofs.Others.{one_more_dialog}
use Rattle.worker_lives.proofs.Steps.{accepts_are_pieces}

-- ---- a dialog

-- what a dialog of the worker's is to it
record Dialogued (who : Asker) (s k : ℕ) (head content : List ℕ) (J : Seen) (old : List CellEvent) (how : End) (now : Seen) (new : List CellEvent) (outcome : Outcome) : Type 0 where
  last : SpokeLast s k how outcome new
  goes : Goes who.config who.worker s k head content J outcome now
  dialogs : dialogs_of who.worker new ≡ spoken_at s outcome ++ dialogs_of who.worker old

dialogued : (who : Asker) (head content : List ℕ) (k s : ℕ) (old : List CellEvent) (c : Standing) (J : Seen) (items : List Item) (how : End) (d : Standing) (now : Seen)
    → c.service ≡ s → k ≡ incarnation c.past → dialogs_of who.worker c.past ≡ dialogs_of who.worker old → (has : HasDialog who head content c J items how d now)
    → Dialogued who s k head content J old how now d.past (Spoke s k (record { worker = who.worker; items = items; end = how; due = has.due }))
dialogued who head content k s old c J items how d now service wanted same has =
    let it : Dialog = record { worker = who.worker; items = items; end = how; due = has.due } in
    let past_is : d.past ≡ cell.Dialog it ∷ c.past = ap (λ (x : Standing). x.past) has.entered in
    let here : spoken_at s (Spoke s k it) ≡ (k, it) ∷ [] = rw (eq-eqb s s refl) refl in
    let at_service : IsDialog who.config (record { worker = who.worker; service = s; incarnation = incarnation c.past }) has.since has.left has.due head content (noted J (own.Dialog s)) items how now
    = subst (λ (t : ℕ). IsDialog who.config (record { worker = who.worker; service = t; incarnation = incarnation c.past }) has.since has.left has.due head content (noted J (own.Dialog t)) items how now) service has.follows in
    let at_wanted : IsDialog who.config (record { worker = who.worker; service = s; incarnation = k }) has.since has.left has.due head content (noted J (own.Dialog s)) items how now
    = subst (λ (i : ℕ). IsDialog who.config (record { worker = who.worker; service = s; incarnation = i }) has.since has.left has.due head content (noted J (own.Dialog s)) items how now) (sym wanted) at_service in
    record {
      last = (it, refl, refl, c.past, past_is);
      goes = (refl, refl, has.since, has.left, at_wanted);
      dialogs = ap (dialogs_of who.worker) past_is
          ∙ one_more_dialog who.worker it c.past refl
          ∙ ap (λ (i : ℕ). (i, it) ∷ dialogs_of who.worker c.past) (sym wanted)
          ∙ ap (λ (rest : List (ℕ × Dialog)). (k, it) ∷ rest) same
          ∙ ap (λ (first : List (ℕ × Dialog)). first ++ dialogs_of who.worker old) (sym here);
    }

pub dialogs_are_outcomes : (who : Asker) (shows : ℕ → Type 0) (head content : List ℕ) (k s : ℕ) (old : List CellEvent) (before after : Standing) (J now : Seen) (answer : Spoken)
    → before.service ≡ s → dialogs_of who.worker before.past ≡ dialogs_of who.worker old → Dialogs who shows head content k before J answer after now
    → (outcome : Outcome) × Had who.config who.worker s k head content J old answer now after.past outcome
dialogs_are_outcomes who shows head content k s old before after J now spoken.Reply service same h =
    let ends : EndsAs who shows head content before J spoken.Reply after now = h.1 in
    let d = dialogued who head content k s old before J _ end.Reply after now service h.0 same ends.6 in
    (_, record { tells = d.last; goes = d.goes; dialogs = d.dialogs })
dialogs_are_outcomes who shows head content k s old before after J now (spoken.Crashed why) service same h =
    let ends : EndsAs who shows head content before J (spoken.Crashed why) after now = h.1 in
    let d = dialogued who head content k s old before J ends.1 (crash_end why) after now service h.0 same ends.2 in
    (_, record { tells = d.last; goes = d.goes; dialogs = d.dialogs })
dialogs_are_outcomes who shows head content k s old before after J now (spoken.Superseded i shown) service same h =
    let ends : EndsAs who shows head content before J (spoken.Superseded i shown) after now = h.1 in
    let d = dialogued who head content k s old before J ends.3 (end.Superseded shown) after now service h.0 same ends.4 in
    (_, record { tells = d.last; goes = d.goes; dialogs = d.dialogs })
dialogs_are_outcomes who shows head content k s old before after J now (spoken.Missed asked is) service same h = (
  IsMissed,
  record {
    tells = refl;
    goes = (is, h.4 ∙ ap (λ (t : ℕ). noted J (own.Missed t k is)) service);
    dialogs = ap (λ (x : Standing). dialogs_of who.worker x.past) h.3 ∙ same;
  },
)
dialogs_are_outcomes who shows head content k s old before after J now spoken.NoMemory service same h = (
  WantsMemory,
  record {
    tells = refl;
    goes = ap (λ (x : Seen). noted x own.NoMemory) h.1;
    dialogs = ap (λ (x : Standing). dialogs_of who.worker x.past) h.0 ∙ same;
  },
)

-- ---- with the Accept

-- what became of an Accept is no dialog of another cell
none_elsewhere : (C : Config) (w s k : ℕ) (head content : List ℕ) (J : Seen) (outcome : Outcome) (now : Seen) (t : ℕ) → (s == t) ≡ false → Goes C w s k head content J outcome now → spoken_at t outcome ≡ []
none_elsewhere C w s k head content J Unowned now t other g = absurd g
none_elsewhere C w s k head content J IsDown now t other g = absurd g
none_elsewhere C w s k head content J IsMissed now t other g = refl
none_elsewhere C w s k head content J WantsMemory now t other g = refl
none_elsewhere C w s k head content J (Spoke u j d) now t other g = ap (λ (v : ℕ). spoken_at t (Spoke v j d)) g.0 ∙ ap (λ (b : Bool). cond {A = List (ℕ × Dialog)} b ((j, d) ∷ []) []) other

pub visits_are_pieces : (C : Config) (w : ℕ) (path head content : List ℕ) (s k : ℕ) (before : List (Entry OkdEvent)) (mid now : Seen) (answer : Spoken) (outcome : Outcome) (J K : Sights)
    → AtOkd w (okd.Accept path) J.columns before mid → accept_verdict C before path ≡ way.To s k
    → Had C w s k head content mid (cell_seen J s) answer now (cell_seen K s) outcome
    → K.columns ≡ with_want answer now → K.launcher ≡ J.launcher → K.cells ≡ slice_set J.cells s (cell_seen K s)
    → GoesOn C w (Accepted path head content outcome ∷ []) J K
visits_are_pieces C w path head content s k before mid now answer outcome J K at goes had columns launcher cells =
    accepts_are_pieces C w path head content outcome J K before mid at by launcher (λ t. dialogs t (s == t) refl)
  where
    by : GoesBy C w (accept_verdict C before path) head content mid outcome K.columns
    by = subst (λ (v : Way). GoesBy C w v head content mid outcome K.columns) (sym goes) (subst (λ (S : Seen). Goes C w s k head content mid outcome S) (sym columns) had.goes)

    dialogs : (t : ℕ) (b : Bool) → (s == t) ≡ b → dialogs_of w (cell_seen K t) ≡ spoken_at t outcome ++ dialogs_of w (cell_seen J t)
    dialogs t true here = subst (λ (u : ℕ). dialogs_of w (cell_seen K u) ≡ spoken_at u outcome ++ dialogs_of w (cell_seen J u)) (eqb-true s t here) had.dialogs
    dialogs t false there =
        let away : t ≢ s = (λ (is : t ≡ s). eqb-false s t there (sym is)) in
        let seen : cell_seen K t ≡ cell_seen J t
        = ap (λ (rows : List (List CellEvent)). slice_index_or rows t []) cells ∙ get_or-set_other J.cells s t (cell_seen K s) [] away in
        ap (dialogs_of w) seen ∙ ap (λ (first : List (ℕ × Dialog)). first ++ dialogs_of w (cell_seen J t)) (sym (none_elsewhere C w s k head content mid outcome (with_want answer now) t there had.goes))

pub outcomes_carry_requests : (C : Config) (w s k : ℕ) (head content : List ℕ) (J : Seen) (outcome : Outcome) (now : Seen) → Goes C w s k head content J outcome now → OutcomeCarries head content outcome
outcomes_carry_requests C w s k head content J Unowned now g = tt
outcomes_carry_requests C w s k head content J IsDown now g = tt
outcomes_carry_requests C w s k head content J IsMissed now g = tt
outcomes_carry_requests C w s k head content J WantsMemory now g = tt
outcomes_carry_requests C w s k head content J (Spoke t j d) now g =
    dialogs_carry_requests C (record { worker = w; service = s; incarnation = k }) g.2 g.3 d.due head content (noted J (own.Dialog s)) now d.items d.end g.4
