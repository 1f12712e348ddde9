-- What a request had of its worker is a visit, and the response that goes by what became of it is due to that.
use Rattle.std.proofs.Common.{◌≡◌, inl, inr, ℕ, true, List, [], ◌∷◌, ◌++◌, refl, sym, ap, ◌∙◌, subst, Some, None}
use Rattle.http_text.specs.Reading.{Asks, IsInterim, IsMethod, IsReading}
use Rattle.okws_base.specs.declared.crash.Cause.{Cause}
use Rattle.okws_base.specs.declared.crash.Cause.TheVariants as cause
use Rattle.okws_plan.specs.declared.configuration.Config.{Config}
use Rattle.monitor_model.specs.declared.record.CellEvent.{CellEvent}
use Rattle.monitor_model.specs.declared.record.CellEvent.TheVariants as cell
use Rattle.monitor_model.specs.declared.record.Dialog.{Dialog}
use Rattle.monitor_model.specs.declared.record.End.{End}
use Rattle.monitor_model.specs.declared.record.End.TheVariants as end
use Rattle.monitor_model.specs.declared.record.Item.{Item}
use Rattle.monitor_model.specs.declared.record.Item.TheVariants.{Said}
use Rattle.monitor_model.specs.declared.verdict.Way.{Way}
use Rattle.monitor_model.specs.declared.verdict.Way.TheVariants as way
use Rattle.monitor_model.specs.Answering.{end_response}
use Rattle.monitor_model.specs.Causes.{is_crash}
use Rattle.monitor_model.specs.Connections.{IsDue, OutcomeCarries, Visit, outcome_text}
use Rattle.monitor_model.specs.Connections as visit
use Rattle.monitor_model.specs.Seen.{noted}
use Rattle.monitor_model.specs.declared.record.Own.TheVariants as own
use Rattle.monitor_model.specs.Worker.{Outcome, Unowned, IsDown}
use Rattle.service_cell.specs.Steps.{crash_end}
use Rattle.service_cell.specs.declared.answer.Spoken.{Spoken}
use Rattle.service_cell.specs.declared.answer.Spoken.TheVariants as spoken
use Rattle.site_cells.specs.Row.{seen_at}
use Rattle.site_cells.specs.Turns.{EndsInReply, reply_frame}
use Rattle.http_front.specs.Replies.{Replied}
use Rattle.door_worker.specs.Asking.{Asked}
use Rattle.door_worker.specs.Responses.{outcome_response}
use Rattle.door_worker.specs.declared.handler.Outcome.{Outcome as Told}
use Rattle.door_worker.specs.declared.handler.Outcome.TheVariants as became
use Rattle.site_worker.specs.Handling.{Accepts, Follows, Goes, Handles, Talks}
use Rattle.site_worker.specs.Lives.{Life, Starves}
use Rattle.worker_lives.specs.Listing.{outcome_is_told}
use Rattle.worker_lives.specs.Talking.{SpokeLast, with_want}
use Rattle.worker_lives.proofs.Talked.{outcomes_carry_requests}
use Rattle.round_lives.specs.Living.{IsOf}
use Rattle.round_lives.specs.Serving.{LivesFor}
use Rattle.round_lives.proofs.Stepped.{HadThere, had_there, sees_of, talks_of, told_last, visited}
use Rattle.round_lives.proofs.Visiting.{crash_visits, passes_visits, starves_visits, visits_by}

-- ---- the response to a dialog

-- a response that doesn't go by the items of the dialog
abbrev pub EndsAlike : End → List ℕ → Type 0
EndsAlike how method = (items others : List Item) → end_response how items method ≡ end_response how others method

crash_alike : (why : Cause) (method : List ℕ) → EndsAlike (crash_end why) method
crash_alike cause.BadFrame method items others = refl
crash_alike cause.Ended method items others = refl
crash_alike cause.LinkFault method items others = refl
crash_alike cause.FrameLimit method items others = refl
crash_alike cause.Starved method items others = refl

crash_crashes : (why : Cause) → is_crash (crash_end why) ≡ true
crash_crashes cause.BadFrame = refl
crash_crashes cause.Ended = refl
crash_crashes cause.LinkFault = refl
crash_crashes cause.FrameLimit = refl
crash_crashes cause.Starved = refl

spoke_text : (s k : ℕ) (how : End) (outcome : Outcome) (new : List CellEvent) (reply : Replied) (method : List ℕ) → EndsAlike how method → SpokeLast s k how outcome new
    → outcome_response (became.Ended how) reply method ≡ outcome_text outcome method
spoke_text s k how outcome new reply method alike last =
    alike (Said (reply_frame reply) ∷ []) last.0.items
    ∙ ap (λ (e : End). end_response e last.0.items method) (sym last.2)
    ∙ ap (λ (x : Outcome). outcome_text x method) (sym last.1)

-- the last dialog of these events, if the last event is one
last_dialog : Dialog → List CellEvent → Dialog
last_dialog other [] = other
last_dialog other (cell.Boot k ∷ J) = other
last_dialog other (cell.Retired ∷ J) = other
last_dialog other (cell.Missed worker wanted is ∷ J) = other
last_dialog other (cell.Dialog d ∷ J) = d
last_dialog other (cell.Speaking worker items ∷ J) = other

same_dialog : (d e : Dialog) (before others : List CellEvent) → cell.Dialog d ∷ before ≡ cell.Dialog e ∷ others → d ≡ e
unfolding last_dialog
same_dialog d e before others is = ap (last_dialog d) is

-- the Reply that is at hand is that of the dialog
reply_text : (s k : ℕ) (outcome : Outcome) (new : List CellEvent) (reply : Replied) (method : List ℕ) → SpokeLast s k end.Reply outcome new → EndsInReply reply new
    → outcome_response (became.Ended end.Reply) reply method ≡ outcome_text outcome method
reply_text s k outcome new reply method last ends =
    let one : last.0 ≡ ends.0 = same_dialog last.0 ends.0 last.3 ends.1 (sym last.4 ∙ ends.2) in
    let items : last.0.items ≡ Said (reply_frame reply) ∷ ends.3.2 = ap (λ (d : Dialog). d.items) one ∙ ends.3.3 in
    ap (λ (x : List Item). end_response end.Reply x method) (sym items)
    ∙ ap (λ (e : End). end_response e last.0.items method) (sym last.2)
    ∙ ap (λ (x : Outcome). outcome_text x method) (sym last.1)

-- ---- a request

-- the visit is what a request had: no memory was there for it, or its path was accepted and its dialog carries it; and the response that goes by what became of it is that of the visit
abbrev pub FitsVisit : Asked → Told → Replied → Visit → Type 0
FitsVisit asked told reply visit.Starved = told ≡ became.NoMemory
FitsVisit asked told reply (visit.Accepted path outcome) =
    (path ≡ asked.path) × OutcomeCarries asked.head asked.content outcome × ((method : List ℕ) → outcome_response told reply method ≡ outcome_text outcome method)

-- the worker lived on for one visit, which fits
pub record Answers (C : Config) (w : ℕ) (asked : Asked) (told : Told) (reply : Replied) (J K : Life) : Type 0 where
  pub visit_is : Visit
  pub lives : LivesFor C w (visit_is ∷ []) J K
  pub fits : FitsVisit asked told reply visit_is

-- to a request that the bytes read as, the response is due
pub due_by : (asked : Asked) (told : Told) (reply : Replied) (v : Visit) (read interim method : List ℕ) → FitsVisit asked told reply v → IsReading read (Asks asked.method asked.path asked.head asked.content)
    → IsInterim read interim → IsMethod read method → IsDue read (Some v) (interim ++ outcome_response told reply method)
due_by asked told reply visit.Starved read interim method fits is i m = record {
  interim = interim;
  method = method;
  interim_is = inl i;
  method_is = m;
  text_is = ap (λ (t : Told). interim ++ outcome_response t reply method) fits;
}
due_by asked told reply (visit.Accepted path outcome) read interim method fits is i m = record {
  asked = asked.method;
  head = asked.head;
  content = asked.content;
  interim = interim;
  method = method;
  is = subst (λ (p : List ℕ). IsReading read (Asks asked.method p asked.head asked.content)) (sym fits.0) is;
  carries = fits.1;
  interim_is = i;
  method_is = m;
  text_is = ap (λ (text : List ℕ). interim ++ text) (fits.2 method);
}

module _ (C : Config) (n w : ℕ) (asked : Asked) (told : Told) (reply : Replied) where
  -- a request that went nowhere
  passes : (outcome : Outcome) (J K : Life) → LivesFor C w (visit.Accepted asked.path outcome ∷ []) J K → OutcomeCarries asked.head asked.content outcome
      → ((method : List ℕ) → outcome_response told reply method ≡ outcome_text outcome method) → Answers C w asked told reply J K
  passes outcome J K lives carries text = record { visit_is = visit.Accepted asked.path outcome; lives = lives; fits = (refl, carries, text) }

  -- one that went to incarnation k of s, where this was had
  module _ (s k : ℕ) where
    went : (answer : Spoken) (J M N K : Life) (h : HadThere C w s k asked answer M N) → LivesFor C w (visit.Accepted asked.path h.outcome ∷ []) J K
        → ((method : List ℕ) → outcome_response told reply method ≡ outcome_text h.outcome method) → Answers C w asked told reply J K
    went answer J M N K h lives text = record {
      visit_is = visit.Accepted asked.path h.outcome;
      lives = lives;
      fits = (refl, outcomes_carry_requests C w s k asked.head asked.content M.seen h.outcome (with_want answer N.seen) h.had.goes, text);
    }

    follows_answers : (answer : Spoken) (J M N K : Life) → IsOf w J → Accepts C asked.path (way.To s k) J M → Talks C n asked s k answer M N → HadThere C w s k asked answer M N → IsOf w N
        → Follows C s k answer told reply N K → Answers C w asked told reply J K
    follows_answers spoken.Reply J M N K of a t h then f =
        let here : LivesFor C w (visit.Accepted asked.path h.outcome ∷ []) J N
        = visits_by C w asked.path asked.head asked.content h.outcome J N (visited C n w s k asked spoken.Reply J M N N of a t h refl refl refl) (t.launcher_is ∙ a.rest.launcher_is) then (told_last s k end.Reply h.outcome (seen_at N.cells s) refl h.had.tells) in
        went spoken.Reply J M N K h (subst (LivesFor C w (visit.Accepted asked.path h.outcome ∷ []) J) (sym f.2) here)
        (λ method. ap (λ (x : Told). outcome_response x reply method) f.0 ∙ reply_text s k h.outcome (seen_at N.cells s) reply method h.had.tells f.1)
    follows_answers (spoken.Crashed why) J M N K of a t h then f =
        let last : SpokeLast s k (crash_end why) h.outcome (seen_at N.cells s) = h.had.tells in
        went (spoken.Crashed why) J M N K h
        (crash_visits C w s k asked.path asked.head asked.content h.outcome last.0 J N K last.1 (ap is_crash last.2 ∙ crash_crashes why) (visited C n w s k asked (spoken.Crashed why) J M N N of a t h refl refl refl) (t.launcher_is ∙ a.rest.launcher_is) then f.1)
        (λ method. ap (λ (x : Told). outcome_response x reply method) f.0 ∙ spoke_text s k (crash_end why) h.outcome (seen_at N.cells s) reply method (crash_alike why method) last)
    follows_answers (spoken.Missed wanted is) J M N K of a t h then f =
        let here : LivesFor C w (visit.Accepted asked.path h.outcome ∷ []) J N
        = visits_by C w asked.path asked.head asked.content h.outcome J N (visited C n w s k asked (spoken.Missed wanted is) J M N N of a t h refl refl refl) (t.launcher_is ∙ a.rest.launcher_is) then (ap (λ (x : Outcome). outcome_is_told x None) h.had.tells) in
        went (spoken.Missed wanted is) J M N K h (subst (LivesFor C w (visit.Accepted asked.path h.outcome ∷ []) J) (sym f.1) here)
        (λ method. ap (λ (x : Told). outcome_response x reply method) f.0 ∙ ap (λ (x : Outcome). outcome_text x method) (sym h.had.tells))
    follows_answers (spoken.Superseded i shown) J M N K of a t h then f =
        let last : SpokeLast s k (end.Superseded shown) h.outcome (seen_at N.cells s) = h.had.tells in
        let here : LivesFor C w (visit.Accepted asked.path h.outcome ∷ []) J N
        = visits_by C w asked.path asked.head asked.content h.outcome J N (visited C n w s k asked (spoken.Superseded i shown) J M N N of a t h refl refl refl) (t.launcher_is ∙ a.rest.launcher_is) then
        (told_last s k (end.Superseded shown) h.outcome (seen_at N.cells s) refl last) in
        went (spoken.Superseded i shown) J M N K h (subst (LivesFor C w (visit.Accepted asked.path h.outcome ∷ []) J) (sym f.1) here)
        (λ method. ap (λ (x : Told). outcome_response x reply method) f.0 ∙ spoke_text s k (end.Superseded shown) h.outcome (seen_at N.cells s) reply method (λ items others. refl) last)
    follows_answers spoken.NoMemory J M N K of a t h then f =
        let sees : Starves N K = f.1 in
        went spoken.NoMemory J M N K h
        (visits_by C w asked.path asked.head asked.content h.outcome J K (visited C n w s k asked spoken.NoMemory J M N K of a t h sees.seen_is sees.launcher_is sees.cells_is) (sees.launcher_is ∙ (t.launcher_is ∙ a.rest.launcher_is))
        (sees_of w N K (noted N.seen own.NoMemory) sees then) (ap (λ (x : Outcome). outcome_is_told x None) h.had.tells))
        (λ method. ap (λ (x : Told). outcome_response x reply method) f.0 ∙ ap (λ (x : Outcome). outcome_text x method) (sym h.had.tells))

  goes_answers : (goes : Way) (J M K : Life) → IsOf w J → Accepts C asked.path goes J M → Goes C n asked goes told reply M K → Answers C w asked told reply J K
  goes_answers way.NotOwned J M K of a h =
      passes Unowned J K (passes_visits C w asked way.NotOwned Unowned J M K of a (λ S. (refl, refl)) (λ s. refl) refl h.1) tt (λ method. ap (λ (x : Told). outcome_response x reply method) h.0)
  goes_answers (way.Down s) J M K of a h =
      passes IsDown J K (passes_visits C w asked (way.Down s) IsDown J M K of a (λ S. (refl, refl)) (λ t. refl) refl h.1) tt (λ method. ap (λ (x : Told). outcome_response x reply method) h.0)
  goes_answers (way.To s k) J M K of a h =
      let then : IsOf w M = sees_of w J M M.seen a.rest of in
      follows_answers s k h.0 J M h.1 K of a h.2 (had_there C n w s k asked h.0 M h.1 then.number_is h.2) (talks_of C n w s k asked h.0 M h.1 then h.2) h.3

  pub handles_answers : (J K : Life) → IsOf w J → Handles C n J asked told reply K → Answers C w asked told reply J K
  handles_answers J K of (inl h) = record { visit_is = visit.Starved; lives = starves_visits C w (visit.Starved ∷ []) J K (inr ([], refl, refl)) of h.1; fits = h.0 }
  handles_answers J K of (inr h) = goes_answers h.0 J h.1 K of h.2 h.3
