-- A record with what the links were given keeps the laws of the record without it, and each link was given just what its incarnation heard.
use Rattle.std.proofs.Common.{◌≡◌, ◌∙◌, ℕ, Bool, true, false, cond, ◌==◌, List, [], ◌∷◌, ◌++◌, Option, Some, None, refl, ap, inl, inr, append-nil}
use Rattle.std.specs.Prelude.{IsFalse, IsSome}
use Rattle.okws_base.specs.Runs.{Each}
use Rattle.okws_plan.specs.declared.configuration.Config.{Config}
use Rattle.okws_plan.specs.declared.script.Place.{Place}
use Rattle.okws_plan.specs.declared.script.Place.TheVariants.{Proxy, Pubd, Oklogd}
use Rattle.frame_codec.specs.declared.frame.ServiceFrame.{ServiceFrame}
use Rattle.frame_codec.specs.declared.frame.ServiceFrame.TheVariants.{Open, Call, Get, Log, Reply}
use Rattle.frame_codec.specs.declared.frame.ServerFrame.{ServerFrame}
use Rattle.monitor_model.specs.declared.record.CellEvent.{CellEvent}
use Rattle.monitor_model.specs.declared.record.CellEvent.TheVariants as cell
use Rattle.monitor_model.specs.declared.record.End.{End}
use Rattle.monitor_model.specs.declared.record.End.TheVariants as end
use Rattle.monitor_model.specs.declared.record.Item.{Item}
use Rattle.monitor_model.specs.declared.record.Item.TheVariants.{Heard, Said}
use Rattle.monitor_model.specs.declared.record.Own.{Own}
use Rattle.monitor_model.specs.declared.record.Record.{Record}
use Rattle.monitor_model.specs.declared.sent.Sent.{Sent}
use Rattle.monitor_model.specs.Answered.{AnswersIn, AreAnsweredIn, EndsIn, IsDialogIn, IsEventIn, AreEventsIn, speaker_of}
use Rattle.monitor_model.specs.Cell.{incarnation, heard}
use Rattle.monitor_model.specs.Course.{Speaker}
use Rattle.monitor_model.specs.Entered.{exchanges_at, entered_by}
use Rattle.monitor_model.specs.Legal.{IsLawful}
use Rattle.monitor_model.specs.Merged.{IsOwn, list_of, cell_past}
use Rattle.monitor_model.specs.Sent.{or_else, cut_due, broken_in, IsGiven, IsSent, AreSent, IsToldOf, IsGivenAll, AreGivenAll, sents_of}
use Rattle.monitor_model.specs.Told.{TellsAll}
use Rattle.monitor_model.specs.Unharmed.{is_harm, IsHarmless, IsUnharmed}

-- the record with these links
abbrev pub with_sents : List (List Sent) → Record → Record
with_sents sents R = record R { sents = sents }

-- ---- the laws that read the journals

answers_with : (x : List (List Sent)) (C : Config) (R : Record) (w : Speaker) (said : ServiceFrame) (heard : ServerFrame) → AnswersIn C R w said heard → AnswersIn C (with_sents x R) w said heard
answers_with x C R w (Open p shown) heard h = h
answers_with x C R w (Call p n q args) heard h = h
answers_with x C R w (Get name) heard h = h
answers_with x C R w (Log text) heard h = h
answers_with x C R w (Reply status content_type location content) heard h = h

answered_with : (x : List (List Sent)) (C : Config) (R : Record) (w : Speaker) (opened items : List Item) → AreAnsweredIn C R w opened items → AreAnsweredIn C (with_sents x R) w opened items
answered_with x C R w opened [] h = h
answered_with x C R w opened (Heard heard ∷ []) h = h
answered_with x C R w opened (Heard heard ∷ Heard other ∷ items) h = h
answered_with x C R w opened (Heard heard ∷ Said said ∷ items) h = (answered_with x C R w opened items h.0, answers_with x C R w said heard h.1)
answered_with x C R w opened (Said said ∷ items) h = h

ends_with : (x : List (List Sent)) (C : Config) (R : Record) (w : Speaker) (due : List ℕ) (opened items : List Item) (how : End) → EndsIn C R w due opened items how → EndsIn C (with_sents x R) w due opened items how
ends_with x C R w due opened items end.Reply h = (h.0, h.1, answered_with x C R w opened h.0 h.2, h.3)
ends_with x C R w due opened items (end.Superseded shown) h = (h.0, answered_with x C R w opened items h.1, h.2)
ends_with x C R w due opened items end.BadFrame h = (answered_with x C R w opened items h.0, h.1)
ends_with x C R w due opened items end.Ended h = (answered_with x C R w opened items h.0, h.1)
ends_with x C R w due opened items end.FrameLimit h = (h.0, h.1, h.2, answered_with x C R w opened h.1 h.3, h.4)
ends_with x C R w due opened items end.LinkFault h = (
  h.0,
  elim h.1 [
    | inl front ↦ inl front
    | inr (inl all) ↦ inr (inl (answered_with x C R w opened items all.0, all.1))
    | inr (inr last) ↦ inr (inr (last.0, last.1, last.2, last.3, answered_with x C R w opened last.2 last.4, answers_with x C R w last.0 last.1 last.5, last.6))
  ],
)
ends_with x C R w due opened items end.Starved h = (
  h.0,
  elim h.1 [
    | inl front ↦ inl front
    | inr (inl all) ↦ inr (inl (answered_with x C R w opened items all))
    | inr (inr last) ↦ inr (inr (last.0, last.1, last.2, answered_with x C R w opened last.1 last.3))
  ],
)

dialog_with : (x : List (List Sent)) (C : Config) (R : Record) (w : Speaker) (due : List ℕ) (items : List Item) (how : End) → IsDialogIn C R w due items how → IsDialogIn C (with_sents x R) w due items how
dialog_with x C R w due items how (inl h) = inl h
dialog_with x C R w due items how (inr h) = inr (h.0, h.1, ends_with x C R w due h.0 items how h.2)

event_with : (x : List (List Sent)) (C : Config) (R : Record) (s : ℕ) (J : List CellEvent) (e : CellEvent) → IsEventIn C R s J e → IsEventIn C (with_sents x R) s J e
event_with x C R s J (cell.Dialog d) h = dialog_with x C R (speaker_of d.worker s J) d.due d.items d.end h
event_with x C R s J (cell.Speaking worker items) h = (h.0, h.1, answered_with x C R (speaker_of worker s J) h.0 items h.2, h.3)
event_with x C R s J (cell.Boot k) h = h
event_with x C R s J cell.Retired h = h
event_with x C R s J (cell.Missed worker wanted is) h = h

events_with : (x : List (List Sent)) (C : Config) (R : Record) (s : ℕ) (J : List CellEvent) → AreEventsIn C R s J → AreEventsIn C (with_sents x R) s J
events_with x C R s [] h = h
events_with x C R s (e ∷ J) h = (events_with x C R s J h.0, event_with x C R s J e h.1)

pub answered_still : (x : List (List Sent)) (C : Config) (R : Record) → ((s : ℕ) → AreEventsIn C R s (cell_past R s)) → (s : ℕ) → AreEventsIn C (with_sents x R) s (cell_past (with_sents x R) s)
answered_still x C R h s = events_with x C R s (cell_past R s) (h s)

pub entered_still : (x : List (List Sent)) (C : Config) (R : Record) (s k : ℕ) (at : Place) → exchanges_at C at s k R ≡ entered_by at k (cell_past R s) →
    exchanges_at C at s k (with_sents x R) ≡ entered_by at k (cell_past (with_sents x R) s)
entered_still x C R s k (Proxy p) h = h
entered_still x C R s k Pubd h = h
entered_still x C R s k Oklogd h = h

-- ---- the laws that are records

pub unharmed_still : (x : List (List Sent)) (R : Record) → IsUnharmed R → IsUnharmed (with_sents x R)
unharmed_still x R h = record { cells = h.cells; workers = h.workers }

pub told_still : (x : List (List Sent)) (C : Config) (seed : List ℕ) (R : Record) (printed : List ℕ) → TellsAll C seed R printed → TellsAll C seed (with_sents x R) printed
told_still x C seed R printed h = record { lines = h.lines; text_is = h.text_is; heard_is = h.heard_is }

own_still : (x : List (List Sent)) (R : Record) (launcher w : ℕ) (items : List Own) → IsOwn R launcher w items → IsOwn (with_sents x R) launcher w items
own_still x R launcher w items h = record { okd = h.okd; proxies = h.proxies; pubd = h.pubd; oklogd = h.oklogd; launchers = h.launchers; cells = h.cells }

pub lawful_still : (x : List (List Sent)) (C : Config) (seed : List ℕ) (keepers : ℕ → Option ℕ) (launcher : ℕ) (R : Record) →
    IsLawful C seed keepers launcher R → IsLawful C seed keepers launcher (with_sents x R)
lawful_still x C seed keepers launcher R h = record {
  merged = record { own = λ w lt. own_still x R launcher w (list_of R w) (h.merged.own w lt); below = h.merged.below };
  proxies_are = h.proxies_are;
  cells_are = h.cells_are;
  cells = h.cells;
  shown = h.shown;
  launchers = h.launchers;
  okd = h.okd;
  proxies = h.proxies;
  pubd = h.pubd;
  oklogd = h.oklogd;
  faults_are = h.faults_are;
}

-- ---- what the links were given

no_fault : (e : End) (due : List ℕ) → IsFalse (is_harm e) → cut_due e due ≡ None
no_fault end.LinkFault due h = absurd (cc)
no_fault end.Reply due h = refl
no_fault (end.Superseded shown) due h = refl
no_fault end.BadFrame due h = refl
no_fault end.Ended due h = refl
no_fault end.FrameLimit due h = refl
no_fault end.Starved due h = refl

neither : (a : Bool) (b c : Option (List ℕ)) → b ≡ None → c ≡ None → cond a (or_else b c) c ≡ None
neither true b c h k = rw (h, k) refl
neither false b c h k = k

-- where no dialog ended by a fault of its link, none is broken
unbroken : (k : ℕ) (J : List CellEvent) → Each IsHarmless J → broken_in k J ≡ None
unbroken k [] h = refl
unbroken k (cell.Boot j ∷ J) h = unbroken k J h.1
unbroken k (cell.Retired ∷ J) h = unbroken k J h.1
unbroken k (cell.Missed worker wanted is ∷ J) h = unbroken k J h.1
unbroken k (cell.Dialog d ∷ J) h = neither (incarnation J == k) (cut_due d.end d.due) (broken_in k J) (no_fault d.end d.due h.0) (unbroken k J h.1)
unbroken k (cell.Speaking worker items ∷ J) h = unbroken k J h.1

given_all : (text : List ℕ) (o : Option (List ℕ)) → IsGiven text None o → IsSome o → o ≡ Some text
given_all text None h told = absurd (cc)
given_all text (Some given) h told = ap Some (h.1 ∙ ap (λ (l : List ℕ). text ++ l) h.2 ∙ append-nil text)

given_whole : (text : List ℕ) (broken : Option (List ℕ)) (o : Option (List ℕ)) → broken ≡ None → IsGiven text broken o → IsSome o → o ≡ Some text
given_whole text (Some due) o e h told = absurd (cc)
given_whole text None o e h told = given_all text o h told

each_given : (C : Config) (seed : List ℕ) (s : ℕ) (J : List CellEvent) (sent : List Sent) → Each IsHarmless J → Each (IsSent C seed s J) sent → Each IsToldOf sent → Each (IsGivenAll C seed s J) sent
each_given C seed s J [] whole h told = tt
each_given C seed s J (x ∷ more) whole h told =
    (given_whole (heard C seed s x.incarnation J) (broken_in x.incarnation J) x.given (unbroken x.incarnation J whole) h.0 told.0, each_given C seed s J more whole h.1 told.1)

-- in a run that no link broke, each link that tells was given just what its incarnation heard
pub links_given : (C : Config) (seed : List ℕ) (s : ℕ) (R : Record) → IsUnharmed R → AreSent C seed s (cell_past R s) (sents_of R s) → Each IsToldOf (sents_of R s) →
    AreGivenAll C seed s (cell_past R s) (sents_of R s)
links_given C seed s R whole h told = record { all = h.all; each = each_given C seed s (cell_past R s) (sents_of R s) (whole.cells s) h.each told }
