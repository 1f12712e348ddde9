-- Of a cell's whole journal: each link was given what its incarnation heard.
use Rattle.std.proofs.Common.{◌≡◌, ◌≢◌, ◌∙◌, ℕ, ◌<◌, ◌≤◌, List, [], ◌∷◌, ◌++◌, map, refl, sym, ap, subst, arith, eq-eqb, ne_eqb, append-nil}
use Rattle.std.specs.Prelude.{Option, None}
use Rattle.okws_base.specs.Runs.{Each}
use Rattle.okws_plan.specs.declared.configuration.Config.{Config}
use Rattle.frame_codec.specs.Spelling.{server_spelling}
use Rattle.monitor_model.specs.declared.record.CellEvent.{CellEvent}
use Rattle.monitor_model.specs.declared.record.CellEvent.TheVariants as cell
use Rattle.monitor_model.specs.declared.record.End.{End}
use Rattle.monitor_model.specs.declared.record.End.TheVariants as end
use Rattle.monitor_model.specs.declared.sent.Sent.{Sent}
use Rattle.monitor_model.specs.Cell.{CellLaw, incarnation, last_booted, after_end, boot_frame, heard}
use Rattle.monitor_model.specs.Course.{heard_text}
use Rattle.monitor_model.specs.Sent.{or_else, cut_due, broken_in, all_booted, IsGiven, IsSent, AreSent}
use Rattle.okws_outer.specs.Wire.{Wire}
use Rattle.service_cell.specs.Hearing.{Hearing, heard_more, hearings, AreGiven, AreHeard}
use Rattle.service_cell.specs.Standing.{Open, all_sent, with_open}
use Rattle.service_cell.proofs.Hearing.{was_there}

-- ---- incarnations

after_low : (how : End) (k n : ℕ) → k ≤ n → after_end how k ≤ n
after_low end.Reply k n le = le
after_low (end.Superseded shown) k n le = le
after_low end.BadFrame k n le = omega arith
after_low end.Ended k n le = omega arith
after_low end.LinkFault k n le = omega arith
after_low end.FrameLimit k n le = omega arith
after_low end.Starved k n le = omega arith

pub low : (J : List CellEvent) → incarnation J ≤ last_booted J
low [] = omega arith
low (cell.Boot k ∷ J) = omega arith
low (cell.Retired ∷ J) = omega arith
low (cell.Missed worker wanted is ∷ J) = low J
low (cell.Dialog d ∷ J) = after_low d.end (incarnation J) (last_booted J) (low J)
low (cell.Speaking worker items ∷ J) = low J

pub is_last : (J : List CellEvent) → CellLaw J → incarnation J ≢ 0 → incarnation J ≡ last_booted J
is_last [] law there = absurd (there refl)
is_last (cell.Boot k ∷ J) law there = let above : last_booted J < k = law.2.1 in omega arith
is_last (cell.Retired ∷ J) law there = absurd (there refl)
is_last (cell.Missed worker wanted is ∷ J) law there = is_last J law.0 there
is_last (cell.Dialog d ∷ J) law there =
    let stays : (incarnation J ≢ 0) × (after_end d.end (incarnation J) ≡ incarnation J) = was_there d.end (incarnation J) there in
    stays.1 ∙ is_last J law.0 stays.0
is_last (cell.Speaking worker items ∷ J) law there = is_last J law.0 there

-- nothing was heard by an incarnation above all that were booted
unheard : (C : Config) (seed : List ℕ) (s k : ℕ) (J : List CellEvent) → last_booted J < k → heard C seed s k J ≡ []
unheard C seed s k [] below = refl
unheard C seed s k (cell.Boot j ∷ J) below = rw (unheard C seed s k J (omega (arith, below)), ne_eqb j k (omega (arith, below))) refl
unheard C seed s k (cell.Retired ∷ J) below = rw (unheard C seed s k J below) refl
unheard C seed s k (cell.Missed worker wanted is ∷ J) below = rw (unheard C seed s k J below) refl
unheard C seed s k (cell.Dialog d ∷ J) below = rw (unheard C seed s k J below, ne_eqb (incarnation J) k (omega (arith, below, low J))) refl
unheard C seed s k (cell.Speaking worker items ∷ J) below = rw (unheard C seed s k J below, ne_eqb (incarnation J) k (omega (arith, below, low J))) refl

pub unbroken : (k : ℕ) (J : List CellEvent) → last_booted J < k → broken_in k J ≡ None
unbroken k [] below = refl
unbroken k (cell.Boot j ∷ J) below = unbroken k J (omega (arith, below))
unbroken k (cell.Retired ∷ J) below = unbroken k J below
unbroken k (cell.Missed worker wanted is ∷ J) below = unbroken k J below
unbroken k (cell.Dialog d ∷ J) below = rw (unbroken k J below, ne_eqb (incarnation J) k (omega (arith, below, low J))) refl
unbroken k (cell.Speaking worker items ∷ J) below = unbroken k J below

-- ---- what each heard

-- What an incarnation heard, and whether its link failed, is what the journal says of it.
record IsTold (C : Config) (seed : List ℕ) (s : ℕ) (J : List CellEvent) (h : Hearing) : Type 0 where
  text : h.text ≡ heard C seed s h.incarnation J
  broken : h.broken ≡ broken_in h.incarnation J

-- An incarnation below the last one.
record IsBefore (C : Config) (seed : List ℕ) (s : ℕ) (J : List CellEvent) (h : Hearing) : Type 0 where
  below : h.incarnation < last_booted J
  told : IsTold C seed s J h

-- The last incarnation that was booted, and those before it.
abbrev AreTold : Config → List ℕ → ℕ → List CellEvent → List Hearing → Type 0
AreTold C seed s J [] = Unit {0}
AreTold C seed s J (last ∷ before) = (last.incarnation ≡ last_booted J) × IsTold C seed s J last × Each (IsBefore C seed s J) before

each_then : {X : Type 0} (P Q : X → Type 0) → ((x : X) → P x → Q x) → (xs : List X) → Each P xs → Each Q xs
each_then P Q then [] each = tt
each_then P Q then (x ∷ xs) each = (then x each.0, each_then P Q then xs each.1)

-- an incarnation before a Boot
told_boot : (C : Config) (seed : List ℕ) (s k : ℕ) (J : List CellEvent) (h : Hearing) → h.incarnation ≤ last_booted J → last_booted J < k → IsTold C seed s J h → IsTold C seed s (cell.Boot k ∷ J) h
told_boot C seed s k J h low above t = record {
  text = rw (ne_eqb k h.incarnation (omega (arith, low, above)), append-nil (heard C seed s h.incarnation J)) t.text;
  broken = t.broken;
}

before_boot : (C : Config) (seed : List ℕ) (s k : ℕ) (J : List CellEvent) (h : Hearing) → h.incarnation ≤ last_booted J → last_booted J < k → IsTold C seed s J h → IsBefore C seed s (cell.Boot k ∷ J) h
before_boot C seed s k J h low above t = record { below = omega (arith, low, above); told = told_boot C seed s k J h low above t }

all_before_boot : (C : Config) (seed : List ℕ) (s k : ℕ) (J : List CellEvent) (heard : List Hearing) → last_booted J < k → AreTold C seed s J heard → Each (IsBefore C seed s (cell.Boot k ∷ J)) heard
all_before_boot C seed s k J [] above t = tt
all_before_boot C seed s k J (last ∷ before) above t = (
  before_boot C seed s k J last (omega (arith, t.0)) above t.1,
  each_then (IsBefore C seed s J) (IsBefore C seed s (cell.Boot k ∷ J)) (λ (h : Hearing) (b : IsBefore C seed s J h). before_boot C seed s k J h (omega (arith, b.below)) above b.told) before t.2,
)

boot_told : (C : Config) (seed : List ℕ) (s k : ℕ) (J : List CellEvent) → last_booted J < k → IsTold C seed s (cell.Boot k ∷ J) (record { incarnation = k; text = server_spelling (boot_frame C seed s k); broken = None })
boot_told C seed s k J above = record {
  text = rw (unheard C seed s k J above, eq-eqb k k refl) refl;
  broken = sym (unbroken k J above);
}

-- after what adds nothing
quiet_before : (C : Config) (seed : List ℕ) (s : ℕ) (e : CellEvent) (J : List CellEvent) (h : Hearing) → last_booted (e ∷ J) ≡ last_booted J → heard C seed s h.incarnation (e ∷ J) ≡ heard C seed s h.incarnation J
    → broken_in h.incarnation (e ∷ J) ≡ broken_in h.incarnation J → IsBefore C seed s J h → IsBefore C seed s (e ∷ J) h
quiet_before C seed s e J h booted text broken b = record {
  below = omega (arith, booted, b.below);
  told = record { text = b.told.text ∙ sym text; broken = b.told.broken ∙ sym broken };
}

-- after a dialog of the last incarnation, of which these before it heard nothing
spoken_before : (C : Config) (seed : List ℕ) (s : ℕ) (e : CellEvent) (J : List CellEvent) → last_booted (e ∷ J) ≡ last_booted J
    → ((k : ℕ) → k < last_booted J → (heard C seed s k (e ∷ J) ≡ heard C seed s k J) × (broken_in k (e ∷ J) ≡ broken_in k J))
    → (hs : List Hearing) → Each (IsBefore C seed s J) hs → Each (IsBefore C seed s (e ∷ J)) hs
spoken_before C seed s e J booted same hs each =
    each_then (IsBefore C seed s J) (IsBefore C seed s (e ∷ J)) (λ (h : Hearing) (b : IsBefore C seed s J h). quiet_before C seed s e J h booted (same h.incarnation b.below).0 (same h.incarnation b.below).1 b) hs each

retired_same : (C : Config) (seed : List ℕ) (s k : ℕ) (J : List CellEvent) → heard C seed s k (cell.Retired ∷ J) ≡ heard C seed s k J
retired_same C seed s k J = append-nil (heard C seed s k J)

missed_same : (C : Config) (seed : List ℕ) (s k worker wanted is : ℕ) (J : List CellEvent) → heard C seed s k (cell.Missed worker wanted is ∷ J) ≡ heard C seed s k J
missed_same C seed s k worker wanted is J = append-nil (heard C seed s k J)

retired_told : (C : Config) (seed : List ℕ) (s : ℕ) (J : List CellEvent) (heard : List Hearing) → AreTold C seed s J heard → AreTold C seed s (cell.Retired ∷ J) heard
retired_told C seed s J [] t = tt
retired_told C seed s J (last ∷ before) t = (
  t.0,
  record { text = t.1.text ∙ sym (retired_same C seed s last.incarnation J); broken = t.1.broken },
  spoken_before C seed s cell.Retired J refl (λ (k : ℕ) (below : k < last_booted J). (retired_same C seed s k J, refl)) before t.2,
)

missed_told : (C : Config) (seed : List ℕ) (s worker wanted is : ℕ) (J : List CellEvent) (heard : List Hearing) → AreTold C seed s J heard → AreTold C seed s (cell.Missed worker wanted is ∷ J) heard
missed_told C seed s worker wanted is J [] t = tt
missed_told C seed s worker wanted is J (last ∷ before) t = (
  t.0,
  record { text = t.1.text ∙ sym (missed_same C seed s last.incarnation worker wanted is J); broken = t.1.broken },
  spoken_before C seed s (cell.Missed worker wanted is) J refl (λ (k : ℕ) (below : k < last_booted J). (missed_same C seed s k worker wanted is J, refl)) before t.2,
)

dialog_told : (C : Config) (seed : List ℕ) (s : ℕ) (e : CellEvent) (text : List ℕ) (failed : Option (List ℕ)) (J : List CellEvent) (hs : List Hearing) → last_booted (e ∷ J) ≡ last_booted J
    → ((h : Hearing) → h.incarnation ≡ last_booted J → IsTold C seed s J h → IsTold C seed s (e ∷ J) (record h { text = h.text ++ text; broken = or_else failed h.broken }))
    → ((k : ℕ) → k < last_booted J → (heard C seed s k (e ∷ J) ≡ heard C seed s k J) × (broken_in k (e ∷ J) ≡ broken_in k J))
    → AreTold C seed s J hs → AreTold C seed s (e ∷ J) (heard_more text failed hs)
dialog_told C seed s e text failed J [] booted more same t = tt
dialog_told C seed s e text failed J (last ∷ before) booted more same t = (t.0 ∙ sym booted, more last t.0 t.1, spoken_before C seed s e J booted same before t.2)

told : (C : Config) (seed : List ℕ) (s : ℕ) (J : List CellEvent) → CellLaw J → AreTold C seed s J (hearings C seed s J)
told C seed s [] law = tt
told C seed s (cell.Boot k ∷ J) law =
    let above : last_booted J < k = law.2.1 in
    (omega (arith, above), boot_told C seed s k J above, all_before_boot C seed s k J (hearings C seed s J) above (told C seed s J law.0))
told C seed s (cell.Retired ∷ J) law = retired_told C seed s J (hearings C seed s J) (told C seed s J law.0)
told C seed s (cell.Missed worker wanted is ∷ J) law = missed_told C seed s worker wanted is J (hearings C seed s J) (told C seed s J law.0)
told C seed s (cell.Dialog d ∷ J) law =
    let last : incarnation J ≡ last_booted J = is_last J law.0 law.2.0 in
    dialog_told C seed s (cell.Dialog d) (heard_text d.items) (cut_due d.end d.due) J (hearings C seed s J) refl
    (λ (h : Hearing) (at : h.incarnation ≡ last_booted J) (t : IsTold C seed s J h). record {
      text = rw (eq-eqb (incarnation J) h.incarnation (last ∙ sym at)) (ap (λ (x : List ℕ). x ++ heard_text d.items) t.text);
      broken = rw (eq-eqb (incarnation J) h.incarnation (last ∙ sym at)) (ap (λ (b : Option (List ℕ)). or_else (cut_due d.end d.due) b) t.broken);
    })
    (λ (k : ℕ) (below : k < last_booted J). (
      rw (ne_eqb (incarnation J) k (omega (arith, last, below))) (append-nil (heard C seed s k J)),
      rw (ne_eqb (incarnation J) k (omega (arith, last, below))) refl,
    ))
    (told C seed s J law.0)
told C seed s (cell.Speaking worker items ∷ J) law =
    let last : incarnation J ≡ last_booted J = is_last J law.0 law.2 in
    dialog_told C seed s (cell.Speaking worker items) (heard_text items) None J (hearings C seed s J) refl
    (λ (h : Hearing) (at : h.incarnation ≡ last_booted J) (t : IsTold C seed s J h). record {
      text = rw (eq-eqb (incarnation J) h.incarnation (last ∙ sym at)) (ap (λ (x : List ℕ). x ++ heard_text items) t.text);
      broken = t.broken;
    })
    (λ (k : ℕ) (below : k < last_booted J). (rw (ne_eqb (incarnation J) k (omega (arith, last, below))) (append-nil (heard C seed s k J)), refl))
    (told C seed s J law.0)

-- ---- and was given

given_numbers : (heard : List Hearing) (sent : List Sent) → AreGiven heard sent → map (λ (x : Sent). x.incarnation) sent ≡ map (λ (h : Hearing). h.incarnation) heard
given_numbers [] [] g = refl
given_numbers [] (x ∷ sent) g = absurd g
given_numbers (h ∷ heard) [] g = absurd g
given_numbers (h ∷ heard) (x ∷ sent) g = rw (g.0, given_numbers heard sent g.2) refl

more_numbers : (text : List ℕ) (failed : Option (List ℕ)) (heard : List Hearing) → map (λ (h : Hearing). h.incarnation) (heard_more text failed heard) ≡ map (λ (h : Hearing). h.incarnation) heard
more_numbers text failed [] = refl
more_numbers text failed (h ∷ heard) = refl

all_numbers : (C : Config) (seed : List ℕ) (s : ℕ) (J : List CellEvent) → map (λ (h : Hearing). h.incarnation) (hearings C seed s J) ≡ all_booted J
all_numbers C seed s [] = refl
all_numbers C seed s (cell.Boot k ∷ J) = ap (λ (ks : List ℕ). k ∷ ks) (all_numbers C seed s J)
all_numbers C seed s (cell.Retired ∷ J) = all_numbers C seed s J
all_numbers C seed s (cell.Missed worker wanted is ∷ J) = all_numbers C seed s J
all_numbers C seed s (cell.Dialog d ∷ J) = more_numbers (heard_text d.items) (cut_due d.end d.due) (hearings C seed s J) ∙ all_numbers C seed s J
all_numbers C seed s (cell.Speaking worker items ∷ J) = more_numbers (heard_text items) None (hearings C seed s J) ∙ all_numbers C seed s J

given_one : (C : Config) (seed : List ℕ) (s : ℕ) (J : List CellEvent) (h : Hearing) (x : Sent) → IsTold C seed s J h → h.incarnation ≡ x.incarnation → IsGiven h.text h.broken x.given → IsSent C seed s J x
given_one C seed s J h x t same g =
    subst (λ (k : ℕ). IsGiven (heard C seed s k J) (broken_in k J) x.given) same
    (subst (λ (b : Option (List ℕ)). IsGiven (heard C seed s h.incarnation J) b x.given) t.broken (subst (λ (text : List ℕ). IsGiven text h.broken x.given) t.text g))

given_before : (C : Config) (seed : List ℕ) (s : ℕ) (J : List CellEvent) (heard : List Hearing) (sent : List Sent) → Each (IsBefore C seed s J) heard → AreGiven heard sent → Each (IsSent C seed s J) sent
given_before C seed s J [] [] t g = tt
given_before C seed s J [] (x ∷ sent) t g = absurd g
given_before C seed s J (h ∷ heard) [] t g = absurd g
given_before C seed s J (h ∷ heard) (x ∷ sent) t g = (given_one C seed s J h x t.0.told g.0 g.1, given_before C seed s J heard sent t.1 g.2)

given_each : (C : Config) (seed : List ℕ) (s : ℕ) (J : List CellEvent) (heard : List Hearing) (sent : List Sent) → AreTold C seed s J heard → AreGiven heard sent → Each (IsSent C seed s J) sent
given_each C seed s J [] [] t g = tt
given_each C seed s J [] (x ∷ sent) t g = absurd g
given_each C seed s J (h ∷ heard) [] t g = absurd g
given_each C seed s J (h ∷ heard) (x ∷ sent) t g = (given_one C seed s J h x t.1 g.0 g.1, given_before C seed s J heard sent t.2 g.2)

pub are_sent : (C : Config) (seed : List ℕ) (s : ℕ) (J : List CellEvent) (sent : List Sent) → CellLaw J → AreGiven (hearings C seed s J) sent → AreSent C seed s J sent
are_sent C seed s J sent law g = record {
  all = given_numbers (hearings C seed s J) sent g ∙ all_numbers C seed s J;
  each = given_each C seed s J (hearings C seed s J) sent (told C seed s J law) g;
}

-- of a cell at which no dialog is open
pub closed_sent : (C : Config) (seed : List ℕ) (s : ℕ) (J : List CellEvent) (o : Option Open) (link : Option Wire) (sent : List Sent) → o ≡ None → CellLaw J → AreHeard C seed s J o link sent → AreSent C seed s J (all_sent (last_booted J) link sent)
closed_sent C seed s J o link sent closed law heard =
    are_sent C seed s J (all_sent (last_booted J) link sent) law
    (subst (λ (x : Option Open). AreGiven (hearings C seed s (with_open x J)) (all_sent (last_booted J) link sent)) closed heard)
