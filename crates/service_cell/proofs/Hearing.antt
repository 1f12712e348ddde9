-- What the links of a cell are given is what its incarnations hear.
use Rattle.std.proofs.Common.{◌≡◌, ◌≢◌, ◌∙◌, ℕ, ◌<◌, max, List, [], ◌∷◌, ◌++◌, Option, Some, None, refl, sym, ap, subst, arith, append-nil, append_assoc, inl, inr}
use Rattle.std.specs.Prelude.{◌⊎◌, IfSome, option_map}
use Rattle.std.specs.Io.KnownBytes.{Appends}
use Rattle.std.specs.declared.result.Result.{Result}
use Rattle.std.specs.declared.result.Result.TheVariants.{Ok, Err}
use Rattle.okws_base.specs.declared.crash.Cause.{Cause}
use Rattle.okws_base.specs.declared.crash.Cause.TheVariants as cause
use Rattle.okws_plan.specs.declared.configuration.Config.{Config}
use Rattle.okws_outer.specs.Wire.{Wire}
use Rattle.frame_codec.specs.Spelling.{server_spelling}
use Rattle.frame_codec.specs.declared.frame.ServerFrame.{ServerFrame}
use Rattle.frame_codec.specs.declared.frame.ServerFrame.TheVariants as frame
use Rattle.monitor_model.specs.declared.record.CellEvent.{CellEvent}
use Rattle.monitor_model.specs.declared.record.CellEvent.TheVariants as cell
use Rattle.monitor_model.specs.declared.record.End.{End}
use Rattle.monitor_model.specs.declared.record.End.TheVariants as end
use Rattle.monitor_model.specs.declared.record.Item.{Item}
use Rattle.monitor_model.specs.declared.record.Item.TheVariants.{Said}
use Rattle.monitor_model.specs.declared.sent.Sent.{Sent}
use Rattle.monitor_model.specs.declared.verdict.Push.{Push}
use Rattle.monitor_model.specs.Cell.{incarnation, last_booted, after_end, heard}
use Rattle.monitor_model.specs.Course.{Speaker, heard_text, opening}
use Rattle.monitor_model.specs.Seen.{Seen}
use Rattle.monitor_model.specs.Sent.{cut_due, IsGiven}
use Rattle.service_cell.specs.Exchange.{Opens, Exchanges}
use Rattle.service_cell.specs.Hearing.{Hearing, heard_more, hearings, AreGiven, AreHeard}
use Rattle.service_cell.specs.Standing.{Open, all_sent, IsFresh, Moves, Breaks}
use Rattle.service_cell.specs.Tied.{opened}
use Rattle.service_cell.specs.declared.dialog.Speaking.{Speaking}
use Rattle.service_cell.specs.Steps.{crash_end}
use Rattle.service_cell.specs.declared.exchange.Exchanged.{Exchanged}
use Rattle.service_cell.specs.declared.exchange.Exchanged.TheVariants as exchanged

-- ---- the last link

-- The last incarnation's link didn't fail.
abbrev pub IsWhole : List Hearing → Type 0
IsWhole [] = Unit {0}
IsWhole (last ∷ before) = last.broken ≡ None

whole_more : (text : List ℕ) (failed : Option (List ℕ)) (heard : List Hearing) → failed ≡ None → IsWhole heard → IsWhole (heard_more text failed heard)
whole_more text failed [] is whole = tt
whole_more text failed (last ∷ before) is whole = rw (is, whole) refl

unfailed : (how : End) (k : ℕ) (due : List ℕ) → after_end how k ≢ 0 → cut_due how due ≡ None
unfailed end.Reply k items there = refl
unfailed (end.Superseded shown) k items there = refl
unfailed end.BadFrame k items there = refl
unfailed end.Ended k items there = refl
unfailed end.LinkFault k items there = absurd (there refl)
unfailed end.FrameLimit k items there = refl
unfailed end.Starved k items there = refl

pub was_there : (how : End) (k : ℕ) → after_end how k ≢ 0 → (k ≢ 0) × (after_end how k ≡ k)
was_there end.Reply k there = (there, refl)
was_there (end.Superseded shown) k there = (there, refl)
was_there end.BadFrame k there = absurd (there refl)
was_there end.Ended k there = absurd (there refl)
was_there end.LinkFault k there = absurd (there refl)
was_there end.FrameLimit k there = absurd (there refl)
was_there end.Starved k there = absurd (there refl)

pub whole_there : (C : Config) (seed : List ℕ) (s : ℕ) (J : List CellEvent) → incarnation J ≢ 0 → IsWhole (hearings C seed s J)
whole_there C seed s [] there = tt
whole_there C seed s (cell.Boot k ∷ J) there = refl
whole_there C seed s (cell.Retired ∷ J) there = absurd (there refl)
whole_there C seed s (cell.Missed worker wanted is ∷ J) there = whole_there C seed s J there
whole_there C seed s (cell.Dialog d ∷ J) there =
    whole_more (heard_text d.items) (cut_due d.end d.due) (hearings C seed s J) (unfailed d.end (incarnation J) d.due there) (whole_there C seed s J (was_there d.end (incarnation J) there).0)
whole_there C seed s (cell.Speaking worker items ∷ J) there = whole_more (heard_text items) None (hearings C seed s J) refl (whole_there C seed s J there)

-- ---- what one link was given

given_then : (old new : Option (List ℕ)) (text put : List ℕ) → Appends old new put → (old ≡ None → new ≡ None) → IsGiven text None old → IsGiven (text ++ put) None new
given_then None None text put a untold g = tt
given_then None (Some y) text put a untold g = let none : Some y ≡ None = untold refl in cc
given_then (Some x) None text put a untold g = absurd a
given_then (Some x) (Some y) text put a untold g =
    ([], a ∙ ap (λ (t : List ℕ). t ++ put) (g.1 ∙ ap (λ (t : List ℕ). text ++ t) g.2 ∙ append-nil text) ∙ sym (append-nil (text ++ put)), refl)

given_cut : (old new : Option (List ℕ)) (text put front rest due : List ℕ) → Appends old new (put ++ front) → (old ≡ None → new ≡ None) → front ++ rest ≡ due
    → IsGiven text None old → IsGiven (text ++ put) (Some due) new
given_cut None None text put front rest due a untold cut g = tt
given_cut None (Some y) text put front rest due a untold cut g = let none : Some y ≡ None = untold refl in cc
given_cut (Some x) None text put front rest due a untold cut g = absurd a
given_cut (Some x) (Some y) text put front rest due a untold cut g =
    (front, a ∙ ap (λ (t : List ℕ). t ++ (put ++ front)) (g.1 ∙ ap (λ (t : List ℕ). text ++ t) g.2 ∙ append-nil text) ∙ sym (append_assoc text put front), (rest, cut))

-- ---- a cell's links

-- nothing more was heard
pub heard_none : (heard : List Hearing) (sent : List Sent) → AreGiven heard sent → AreGiven (heard_more [] None heard) sent
heard_none [] sent g = g
heard_none (last ∷ before) [] g = absurd g
heard_none (last ∷ before) (x ∷ sent) g = (g.0, rw (append-nil last.text) g.1, g.2)

pub moves_heard : (heard : List Hearing) (k : ℕ) (a put taken : List ℕ) (old new : Wire) (sent : List Sent) → IsWhole heard → Moves old new taken put
    → AreGiven (heard_more a None heard) (all_sent k (Some old) sent) → AreGiven (heard_more (a ++ put) None heard) (all_sent k (Some new) sent)
moves_heard [] k a put taken old new sent whole m g = absurd g
moves_heard (last ∷ before) k a put taken old new sent whole m g =
    let was : IsGiven (last.text ++ a) None old.given = subst (λ (b : Option (List ℕ)). IsGiven (last.text ++ a) b old.given) whole g.1 in (
      g.0,
      subst (λ (b : Option (List ℕ)). IsGiven (last.text ++ (a ++ put)) b new.given) (sym whole)
          (subst (λ (t : List ℕ). IsGiven t None new.given) (append_assoc last.text a put) (given_then old.given new.given (last.text ++ a) put m.puts m.untold was)),
      g.2,
    )

pub silent_heard : (heard : List Hearing) (k : ℕ) (a taken : List ℕ) (old new : Wire) (sent : List Sent) → IsWhole heard → Moves old new taken []
    → AreGiven (heard_more a None heard) (all_sent k (Some old) sent) → AreGiven (heard_more a None heard) (all_sent k (Some new) sent)
silent_heard heard k a taken old new sent whole m g =
    subst (λ (t : List ℕ). AreGiven (heard_more t None heard) (all_sent k (Some new) sent)) (append-nil a) (moves_heard heard k a [] taken old new sent whole m g)

breaks_heard : (heard : List Hearing) (k : ℕ) (a put taken due : List ℕ) (old new : Wire) (sent : List Sent) → IsWhole heard → Breaks old new taken put due
    → AreGiven (heard_more a None heard) (all_sent k (Some old) sent) → AreGiven (heard_more (a ++ put) (Some due) heard) (all_sent k (Some new) sent)
breaks_heard [] k a put taken due old new sent whole b g = absurd g
breaks_heard (last ∷ before) k a put taken due old new sent whole b g =
    let was : IsGiven (last.text ++ a) None old.given = subst (λ (b : Option (List ℕ)). IsGiven (last.text ++ a) b old.given) whole g.1 in (
      g.0,
      subst (λ (t : List ℕ). IsGiven t (Some due) new.given) (append_assoc last.text a put)
          (given_cut old.given new.given (last.text ++ a) put b.front b.rest due b.puts b.untold b.cut was),
      g.2,
    )

broken_heard : (heard : List Hearing) (k : ℕ) (a taken due : List ℕ) (old new : Wire) (sent : List Sent) → IsWhole heard → Breaks old new taken [] due
    → AreGiven (heard_more a None heard) (all_sent k (Some old) sent) → AreGiven (heard_more a (Some due) heard) (all_sent k (Some new) sent)
broken_heard heard k a taken due old new sent whole b g =
    subst (λ (t : List ℕ). AreGiven (heard_more t (Some due) heard) (all_sent k (Some new) sent)) (append-nil a) (breaks_heard heard k a [] taken due old new sent whole b g)

-- The same, where this is what was due.
due_heard : (heard : List Hearing) (k : ℕ) (a due other : List ℕ) (sent : List Sent) → due ≡ other → AreGiven (heard_more a (Some other) heard) sent → AreGiven (heard_more a (Some due) heard) sent
due_heard heard k a due other sent is g = subst (λ (b : List ℕ). AreGiven (heard_more a (Some b) heard) sent) (sym is) g

-- ---- what the steps of a dialog leave

-- What was due in an opening in which the link failed.
abbrev pub opening_failed : Result (Unit {0}) Cause → List ℕ → Option (List ℕ)
opening_failed (Ok done) due = None
opening_failed (Err why) due = cut_due (crash_end why) due

pub opening_heard : (heard : List Hearing) (k : ℕ) (old new : Wire) (sent : List Sent) (pushes : List Push) (head content : List ℕ) (items : List Item) (due : List ℕ) (result : Result (Unit {0}) Cause) → IsWhole heard
    → Opens old (opening pushes (frame.Request head content)) result new items due
    → AreGiven heard (all_sent k (Some old) sent) → AreGiven (heard_more (heard_text items) (opening_failed result due) heard) (all_sent k (Some new) sent)
opening_heard heard k old new sent pushes head content items due (Ok done) whole o g =
    subst (λ (t : List Item). AreGiven (heard_more (heard_text t) None heard) (all_sent k (Some new) sent)) (sym o.1)
    (moves_heard heard k [] (heard_text (opening pushes (frame.Request head content))) [] old new sent whole o.0 (heard_none heard (all_sent k (Some old) sent) g))
opening_heard heard k old new sent pushes head content items due (Err cause.LinkFault) whole o g =
    due_heard heard k (heard_text items) due (server_spelling o.1) (all_sent k (Some new) sent) o.4
    (breaks_heard heard k [] (heard_text items) [] (server_spelling o.1) old new sent whole o.3 (heard_none heard (all_sent k (Some old) sent) g))
opening_heard heard k old new sent pushes head content items due (Err cause.Starved) whole o g =
    moves_heard heard k [] (heard_text items) [] old new sent whole o.2 (heard_none heard (all_sent k (Some old) sent) g)
opening_heard heard k old new sent pushes head content items due (Err cause.BadFrame) whole o g = absurd o
opening_heard heard k old new sent pushes head content items due (Err cause.Ended) whole o g = absurd o
opening_heard heard k old new sent pushes head content items due (Err cause.FrameLimit) whole o g = absurd o

-- What was due where the link failed in this exchange.
abbrev pub exchange_failed : Exchanged → List ℕ → Option (List ℕ)
exchange_failed exchanged.Goes due = None
exchange_failed exchanged.Reply due = None
exchange_failed (exchanged.Crashed why) due = cut_due (crash_end why) due

same_heard : (heard : List Hearing) (failed : Option (List ℕ)) (sent : List Sent) (items items' : List Item) → items' ≡ items → AreGiven (heard_more (heard_text items) failed heard) sent
    → AreGiven (heard_more (heard_text items') failed heard) sent
same_heard heard failed sent items items' is g = subst (λ (t : List Item). AreGiven (heard_more (heard_text t) failed heard) sent) (sym is) g

pub exchange_heard : (heard : List Hearing) (k : ℕ) (C : Config) (w : Speaker) (old new : Wire) (sent : List Sent) (items items' : List Item) (due : List ℕ) (J now : Seen) (result : Exchanged) → IsWhole heard
    → Exchanges C w old items J result new items' due now → AreGiven (heard_more (heard_text items) None heard) (all_sent k (Some old) sent)
    → AreGiven (heard_more (heard_text items') (exchange_failed result due) heard) (all_sent k (Some new) sent)
exchange_heard heard k C w old new sent items items' due J now exchanged.Goes whole e g =
    same_heard heard None (all_sent k (Some new) sent) _ items' e.5 (moves_heard heard k (heard_text items) (server_spelling e.1) e.2 old new sent whole e.6 g)
exchange_heard heard k C w old new sent items items' due J now exchanged.Reply whole e g =
    same_heard heard None (all_sent k (Some new) sent) _ items' e.5 (silent_heard heard k (heard_text items) e.1 old new sent whole e.6 g)
exchange_heard heard k C w old new sent items items' due J now (exchanged.Crashed cause.BadFrame) whole e g =
    same_heard heard None (all_sent k (Some new) sent) items items' e.6 (silent_heard heard k (heard_text items) e.0 old new sent whole e.2 g)
exchange_heard heard k C w old new sent items items' due J now (exchanged.Crashed cause.Ended) whole e g =
    same_heard heard None (all_sent k (Some new) sent) items items' e.2 (silent_heard heard k (heard_text items) [] old new sent whole e.0 g)
exchange_heard heard k C w old new sent items items' due J now (exchanged.Crashed cause.LinkFault) whole (inl e) g =
    due_heard heard k (heard_text items') due [] (all_sent k (Some new) sent) e.4
    (same_heard heard (Some []) (all_sent k (Some new) sent) items items' e.2 (broken_heard heard k (heard_text items) e.0 [] old new sent whole e.1 g))
exchange_heard heard k C w old new sent items items' due J now (exchanged.Crashed cause.LinkFault) whole (inr e) g =
    due_heard heard k (heard_text items') due (server_spelling e.1) (all_sent k (Some new) sent) e.7
    (same_heard heard (Some (server_spelling e.1)) (all_sent k (Some new) sent) (Said e.0 ∷ items) items' e.6 (broken_heard heard k (heard_text items) e.2 (server_spelling e.1) old new sent whole e.4 g))
exchange_heard heard k C w old new sent items items' due J now (exchanged.Crashed cause.FrameLimit) whole e g =
    same_heard heard None (all_sent k (Some new) sent) _ items' e.5 (silent_heard heard k (heard_text items) e.1 old new sent whole e.4 g)
exchange_heard heard k C w old new sent items items' due J now (exchanged.Crashed cause.Starved) whole (inl e) g =
    same_heard heard None (all_sent k (Some new) sent) items items' e.2 (silent_heard heard k (heard_text items) e.0 old new sent whole e.1 g)
exchange_heard heard k C w old new sent items items' due J now (exchanged.Crashed cause.Starved) whole (inr e) g =
    same_heard heard None (all_sent k (Some new) sent) _ items' e.5 (silent_heard heard k (heard_text items) e.1 old new sent whole e.3 g)

-- ---- what a cell's calls leave

-- after an exchange of the open dialog
pub exchanged_heard : {L : Type 0} (wire : L → Wire) (C : Config) (seed : List ℕ) (s : ℕ) (J : List CellEvent) (speaking : Option Speaking) (o : Speaking) (inside : Option L) (l : L) (new : Wire) (sent : List Sent)
    (config : Config) (w : Speaker) (items' : List Item) (due : List ℕ) (seen now : Seen) (result : Exchanged) → incarnation J ≢ 0 → speaking ≡ Some o → inside ≡ Some l → AreHeard C seed s J (opened speaking) (option_map wire inside) sent
    → Exchanges config w (wire l) o.items.past seen result new items' due now
    → AreGiven (heard_more (heard_text items') (exchange_failed result due) (hearings C seed s J)) (all_sent (last_booted J) (Some new) sent)
exchanged_heard wire C seed s J speaking o inside l new sent config w items' due seen now result there is linked h e =
    exchange_heard (hearings C seed s J) (last_booted J) config w (wire l) new sent o.items.past items' due seen now result (whole_there C seed s J there) e
    (subst (λ x. AreHeard C seed s J (opened (Some o)) (option_map wire x) sent) linked
    (subst (λ (x : Option Speaking). AreHeard C seed s J (opened x) (option_map wire inside) sent) is h))

-- after the opening of a dialog
pub opening_is_heard : {L : Type 0} (wire : L → Wire) (C : Config) (seed : List ℕ) (s : ℕ) (J : List CellEvent) (o : Option Open) (inside : Option L) (l : L) (new : Wire) (sent : List Sent)
    (pushes : List Push) (head content : List ℕ) (items : List Item) (due : List ℕ) (result : Result (Unit {0}) Cause) → incarnation J ≢ 0 → o ≡ None → inside ≡ Some l → AreHeard C seed s J o (option_map wire inside) sent → Opens (wire l) (opening pushes (frame.Request head content)) result new items due
    → AreGiven (heard_more (heard_text items) (opening_failed result due) (hearings C seed s J)) (all_sent (last_booted J) (Some new) sent)
opening_is_heard wire C seed s J o inside l new sent pushes head content items due result there shut linked h opens =
    opening_heard (hearings C seed s J) (last_booted J) (wire l) new sent pushes head content items due result (whole_there C seed s J there) opens
    (subst (λ x. AreHeard C seed s J None (option_map wire x) sent) linked
    (subst (λ (x : Option Open). AreHeard C seed s J x (option_map wire inside) sent) shut h))

-- a dialog was entered
pub ended_heard : (C : Config) (seed : List ℕ) (s : ℕ) (J K : List CellEvent) (worker : ℕ) (items : List Item) (due : List ℕ) (how why : End) (o : Option Open) (link : Option Wire) (sent : List Sent)
    → K ≡ cell.Dialog (record { worker = worker; items = items; end = how; due = due }) ∷ J → how ≡ why → o ≡ None
    → AreGiven (heard_more (heard_text items) (cut_due why due) (hearings C seed s J)) (all_sent (last_booted J) link sent) → AreHeard C seed s K o link sent
ended_heard C seed s J K worker items due how why o link sent is same shut g =
    subst (λ (x : Option Open). AreHeard C seed s K x link sent) (sym shut) (subst (λ (x : List CellEvent). AreHeard C seed s x None link sent) (sym is)
    (subst (λ (e : End). AreGiven (heard_more (heard_text items) (cut_due e due) (hearings C seed s J)) (all_sent (last_booted J) link sent)) (sym same) g))

-- a dialog without items was entered
pub at_once_heard : (C : Config) (seed : List ℕ) (s : ℕ) (J K : List CellEvent) (worker shown : ℕ) (items : List Item) (o : Option Open) (link : Option Wire) (sent : List Sent)
    → K ≡ cell.Dialog (record { worker = worker; items = items; end = end.Superseded shown; due = [] }) ∷ J → items ≡ [] → o ≡ None → AreHeard C seed s J o link sent → AreHeard C seed s K o link sent
at_once_heard C seed s J K worker shown items o link sent is none shut h =
    ended_heard C seed s J K worker items [] (end.Superseded shown) (end.Superseded shown) o link sent is refl shut
    (subst (λ (t : List Item). AreGiven (heard_more (heard_text t) None (hearings C seed s J)) (all_sent (last_booted J) link sent)) (sym none)
    (heard_none (hearings C seed s J) (all_sent (last_booted J) link sent) (subst (λ (x : Option Open). AreHeard C seed s J x link sent) shut h)))

-- an incarnation that is there isn't 0
pub there_is : (J P : List CellEvent) → J ≡ P → 0 < incarnation P → incarnation J ≢ 0
there_is J P is above = rw is (omega (arith, above))
