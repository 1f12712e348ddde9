-- How the dialog of a request begins, in a script's state.
use Rattle.std.proofs.Common.{◌≡◌, ◌≢◌, ◌≤◌, ◌<◌, ℕ, Bool, true, false, List, [], ◌∷◌, ◌++◌, Option, Some, None, refl, sym, ap, subst, ◌∙◌, arith, inl, inr, map, reverse}
use Rattle.std.specs.Prelude.{slice_get, slice_set, IsSome, IfSome}
use Rattle.std.proofs.lemmas.List.{append-nil, reverse-append, reverse-reverse}
use Rattle.std.proofs.lemmas.List.Concat.{flat_map-append}
use Rattle.okws_plan.specs.declared.configuration.Config.{Config}
use Rattle.okws_plan.specs.declared.event.PubdEvent.TheVariants as pubd
use Rattle.frame_codec.specs.declared.frame.ServerFrame.{ServerFrame}
use Rattle.frame_codec.specs.declared.frame.ServerFrame.TheVariants as frame
use Rattle.http_text.specs.Response.{own_response}
use Rattle.monitor_model.specs.declared.record.CellEvent.TheVariants as cell
use Rattle.monitor_model.specs.declared.record.End.TheVariants as end
use Rattle.monitor_model.specs.declared.record.Item.{Item}
use Rattle.monitor_model.specs.declared.record.Item.TheVariants.{Heard, Said}
use Rattle.monitor_model.specs.declared.record.Own.TheVariants as own
use Rattle.monitor_model.specs.declared.verdict.Push.{Push}
use Rattle.monitor_model.specs.Cell.{incarnation}
use Rattle.monitor_model.specs.Course.{opening, push_frame}
use Rattle.monitor_model.specs.Launcher.{begun}
use Rattle.monitor_model.specs.Pubd.{drain_verdict}
use Rattle.monitor_model.specs.Script.{Begun, GoesOn, greatest, missed, closed, dialog_opened, opening_text, pushes_text, request_method, at_pubd}
use Rattle.monitor_model.specs.Seen.{Seen, noted}
use Rattle.monitor_model.specs.Stage.{Stage, Stand, Opened, Asked, stand, with_item, method_text, heard_line, answer_line}
use Rattle.service_cell.specs.Standing.{Standing, finished}
use Rattle.service_cell.specs.Steps.{Begins as CellBegins}
use Rattle.service_cell.specs.declared.answer.Begun.TheVariants as begun_is
use Rattle.okws_play.specs.Cells.{stand_by, left_on, opened_by, closed_stand, IsSeat}
use Rattle.okws_play.specs.Printed.{newest_text, items_text, item_text}
use Rattle.okws_play.proofs.Cells.{plain, stand_plain, passed}
use Rattle.okws_play.proofs.Steps.{asker, shown_in, after, finished_is, begin_launcher}

heard_pushes : (C : Config) (s k : ℕ) (pushes : List Push) → items_text C s k (map (λ (push : Push). Heard (push_frame push)) pushes) ≡ pushes_text C s k pushes
heard_pushes C s k [] = refl
heard_pushes C s k (push ∷ more) = ap (λ (t : List ℕ). heard_line C s k (push_frame push) ++ t) (heard_pushes C s k more)

-- what an opening prints
opening_lines : (C : Config) (s k : ℕ) (pushes : List Push) (request : ServerFrame) → items_text C s k (reverse (opening pushes request)) ≡ pushes_text C s k pushes ++ heard_line C s k request
opening_lines C s k pushes request =
    let heard : List Item = map (λ (push : Push). Heard (push_frame push)) pushes in
    ap (items_text C s k) (reverse-append (Heard request ∷ []) (reverse heard) ∙ ap (λ (t : List Item). t ++ Heard request ∷ []) (reverse-reverse heard))
    ∙ flat_map-append (item_text C s k) heard (Heard request ∷ []) ∙ ap (λ (t : List ℕ). t ++ (heard_line C s k request ++ [])) (heard_pushes C s k pushes) ∙ ap (λ (t : List ℕ). pushes_text C s k pushes ++ t) (append-nil (heard_line C s k request))

-- the cell of s before the dialog of request n begins
pub record IsIdleAt (C : Config) (seed : List ℕ) (s : ℕ) (S : Stage) (c : Standing) : Type 0 where
  pub seat : IsSeat C seed s c
  pub stand_is : stand S s ≡ stand_by c
  pub idle : c.open_dialog ≡ None

past_is : (C : Config) (seed : List ℕ) (s : ℕ) (S : Stage) (c : Standing) → IsIdleAt C seed s S c → (stand S s).past ≡ c.past
past_is C seed s S c at = ap (λ (t : Stand). t.past) at.stand_is

-- another incarnation is there
pub begin_missed : (C : Config) (seed : List ℕ) (s n k asks is : ℕ) (asked : Asked) (S : Stage) (c d : Standing) (K : Seen) (text : List ℕ) → IsIdleAt C seed s S c
    → CellBegins (asker C) (shown_in K s) n (frame.Request asked.head asked.content) k c S.seen (begun_is.Missed asks is) d K → text ≡ answer_line n (own_response 503 (method_text asked.method))
    → Begun C n s k asked S text (after S s (stand_by d) K)
begin_missed C seed s n k asks is asked S c d K text at a said =
    let past : (stand S s).past ≡ c.past = past_is C seed s S c at in
    let there : incarnation (stand S s).past ≡ is = ap incarnation past ∙ sym a.1 in
    let moved : stand_by d ≡ record (stand_by c) { past = cell.Missed 0 k is ∷ c.past } = rw a.3 refl in
    inl (λ same. a.2 (sym same ∙ there), rw (moved, a.4, at.stand_is, a.1, at.seat.service_is) refl, said)

-- a greater one was begun
pub begin_superseded : (C : Config) (seed : List ℕ) (s n k j shown : ℕ) (asked : Asked) (S : Stage) (c d : Standing) (K : Seen) (text : List ℕ) → IsIdleAt C seed s S c
    → 0 < k → CellBegins (asker C) (shown_in K s) n (frame.Request asked.head asked.content) k c S.seen (begun_is.Superseded j shown) d K → text ≡ answer_line n (own_response 503 (method_text asked.method))
    → Begun C n s k asked S text (after S s (stand_by d) K)
begin_superseded C seed s n k j shown asked S c d K text at first a said =
    let last : Opened = record { request = n; items = [] } in
    let same : shown ≡ greatest S s = a.3 ∙ ap (λ v. begun v s) (begin_launcher C (shown_in K s) n k (frame.Request asked.head asked.content) c d S.seen K (begun_is.Superseded j shown) a) in
    let there : stand S s ≡ plain c = at.stand_is ∙ stand_plain c (λ none. omega (arith, first, a.0, none)) in
    let moved : stand_by d ≡ closed_stand (stand S s) last (end.Superseded shown) = finished_is c d [] (end.Superseded shown) (opened_by c.open_dialog) last c.link a.4 refl ∙ rw there refl in
    inr (inl (ap incarnation (past_is C seed s S c at) ∙ sym a.0, omega (arith, a.1, a.2, same), rw (moved, a.5, ← same, at.seat.service_is) refl, said))

-- it is is_open
pub begin_started : (C : Config) (seed : List ℕ) (s n k : ℕ) (asked : Asked) (S : Stage) (c d : Standing) (K : Seen) → IsIdleAt C seed s S c
    → 0 < k → CellBegins (asker C) (shown_in K s) n (frame.Request asked.head asked.content) k c S.seen begun_is.Started d K
    → (incarnation (stand S s).past ≡ k) × (greatest S s ≤ k) × (after S s (stand_by d) K ≡ dialog_opened C n s k asked S) × (newest_text C d ≡ opening_text C s k asked S)
begin_started C seed s n k asked S c d K at first a =
    let request : ServerFrame = frame.Request asked.head asked.content in
    let opens = a.2 in
    let p = passed c.link d.link [] _ opens.3 at.seat.linked in
    let before : opens.1.0 ≡ S.seen.pubd = opens.1.2 refl in
    let pushes : opens.0 ≡ drain_verdict C S.seen.pubd s k = opens.1.3 ∙ rw (before, at.seat.service_is, a.0) refl in
    let some : incarnation c.past ≢ 0 = λ none. omega (arith, first, a.0, none) in
    let same : incarnation d.past ≡ k = ap (λ (x : Standing). incarnation x.past) opens.2 ∙ sym a.0 in
    let there : stand S s ≡ plain c = at.stand_is ∙ stand_plain c some in
    let moved : stand_by d ≡ record (stand S s) { open_dialog = Some (record { request = n; items = opening (drain_verdict C S.seen.pubd s k) request }) } =
    stand_plain d (λ none. omega (arith, first, same, none)) ∙ rw (ap (λ (x : Standing). x.past) opens.2, ap (λ (x : Standing). x.open_dialog) opens.2, p.ended, ← p.left, pushes, there) refl in
    let seen : K ≡ at_pubd (pubd.Drain s k) (noted S.seen (own.Dialog s)) = opens.1.1.1 ∙ rw (before, at.seat.service_is, a.0) refl in
    let launcher : K.launcher ≡ S.seen.launcher = begin_launcher C (shown_in K s) n k request c d S.seen K begun_is.Started a in
    let text : newest_text C d ≡ opening_text C s k asked S = rw (opens.2, at.seat.service_is, ← a.0, pushes) (opening_lines C s k (drain_verdict C S.seen.pubd s k) request) in
    (ap incarnation (past_is C seed s S c at) ∙ sym a.0, omega (arith, a.1.1, a.1.2, ap (λ v. begun v s) launcher), rw (moved, seen) refl, text)
