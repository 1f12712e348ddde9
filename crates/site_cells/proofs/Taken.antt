-- What each call leaves of what was taken from a cell's link.
use Rattle.std.proofs.Common.{◌≡◌, ◌≢◌, inl, inr, ℕ, ◌<◌, ◌≤◌, Bool, true, List, [], ◌∷◌, ◌++◌, Option, Some, None, refl, ap, sym, ◌∙◌, subst, arith, append-nil, append_assoc, eq-eqb, ne_eqb}
use Rattle.std.specs.Prelude.{IfSome, if◌then◌else◌, ◌==◌, max}
use Rattle.std.specs.Io.KnownBytes.{Consumes, IsAtEnd}
use Rattle.std.proofs.KnownBytes.{Consumes-trans, Consumes-nil}
use Rattle.frame_codec.specs.Stream.{IsBadStop}
use Rattle.frame_link.specs.Next.{AreLeft}
use Rattle.okws_plan.specs.declared.configuration.Config.{Config}
use Rattle.okws_outer.specs.Wire.{Wire}
use Rattle.monitor_model.specs.declared.record.CellEvent.{CellEvent}
use Rattle.monitor_model.specs.declared.record.CellEvent.TheVariants as cell
use Rattle.monitor_model.specs.declared.record.End.{End}
use Rattle.monitor_model.specs.declared.record.End.TheVariants as end
use Rattle.monitor_model.specs.declared.record.Item.{Item}
use Rattle.monitor_model.specs.Cell.{CellLaw, after_end, incarnation, last_booted, said}
use Rattle.monitor_model.specs.Course.{IsDialog, Speaker, said_text}
use Rattle.monitor_model.specs.Seen.{Seen}
use Rattle.service_cell.specs.Dialogs.{GoesOver}
use Rattle.service_cell.specs.Standing.{Passes, Fails, left_of}
use Rattle.service_cell.proofs.Hearing.{was_there}
use Rattle.service_cell.proofs.Sending.{is_last, low}
use Rattle.site_cells.specs.Taken.{HasTaken, IsTaken, Leaves, LeavesBy, last_end}

-- ---- an incarnation that was not booted

unsaid : (k : ℕ) (J : List CellEvent) → last_booted J < k → said k J ≡ []
unsaid k [] below = refl
unsaid k (cell.Boot j ∷ J) below = rw (unsaid k J (omega (arith, below))) refl
unsaid k (cell.Retired ∷ J) below = rw (unsaid k J below) refl
unsaid k (cell.Missed worker wanted is ∷ J) below = rw (unsaid k J below) refl
unsaid k (cell.Dialog d ∷ J) below = rw (unsaid k J below, ne_eqb (incarnation J) k (omega (arith, below, low J))) refl
unsaid k (cell.Speaking worker items ∷ J) below = rw (unsaid k J below, ne_eqb (incarnation J) k (omega (arith, below, low J))) refl

unended : (k : ℕ) (J : List CellEvent) → last_booted J < k → last_end k J ≡ None
unended k [] below = refl
unended k (cell.Boot j ∷ J) below = unended k J (omega (arith, below))
unended k (cell.Retired ∷ J) below = unended k J below
unended k (cell.Missed worker wanted is ∷ J) below = unended k J below
unended k (cell.Dialog d ∷ J) below = rw (unended k J below, ne_eqb (incarnation J) k (omega (arith, below, low J))) refl
unended k (cell.Speaking worker items ∷ J) below = unended k J below

-- ---- an incarnation that is there

none_left : (how : End) (k : ℕ) (rest : List ℕ) (left : Option (List ℕ)) → after_end how k ≢ 0 → Leaves how rest left → rest ≡ []
none_left end.Reply k rest left there h = h
none_left (end.Superseded shown) k rest left there h = h
none_left end.BadFrame k rest left there h = absurd (there refl)
none_left end.Ended k rest left there h = absurd (there refl)
none_left end.LinkFault k rest left there h = absurd (there refl)
none_left end.FrameLimit k rest left there h = absurd (there refl)
none_left end.Starved k rest left there h = absurd (there refl)

-- all that was taken is what it said
all_said : (k : ℕ) (J : List CellEvent) (rest : List ℕ) (left : Option (List ℕ)) → CellLaw J → incarnation J ≢ 0 → k ≡ last_booted J → LeavesBy (last_end k J) rest left → rest ≡ []
all_said k [] rest left law there is h = absurd (there refl)
all_said k (cell.Boot j ∷ J) rest left law there is h =
    let above : last_booted J < j = law.2.1 in subst (λ (o : Option End). LeavesBy o rest left) (unended k J (omega (arith, above, is))) h
all_said k (cell.Retired ∷ J) rest left law there is h = absurd (there refl)
all_said k (cell.Missed worker wanted was ∷ J) rest left law there is h = all_said k J rest left law.0 there is h
all_said k (cell.Dialog d ∷ J) rest left law there is h =
    let stays : (incarnation J ≢ 0) × (after_end d.end (incarnation J) ≡ incarnation J) = was_there d.end (incarnation J) there in
    let here : (incarnation J == k) ≡ true = eq-eqb (incarnation J) k (is_last J law.0 stays.0 ∙ sym is) in
    none_left d.end (incarnation J) rest left there (subst (λ (b : Bool). LeavesBy (if b then Some d.end else last_end k J) rest left) here h)
all_said k (cell.Speaking worker items ∷ J) rest left law there is h = all_said k J rest left law.0 there is h

-- ---- what is taken in a dialog

-- more was taken, where nothing but what was said had been
took_more : (came left now : Option (List ℕ)) (text rest more : List ℕ) → rest ≡ [] → Consumes came left (text ++ rest) → Consumes left now more → Consumes came now (text ++ more)
took_more came left now text rest more none a b =
    Consumes-trans came left now text more (subst (λ (t : List ℕ). Consumes came left t) (ap (λ (t : List ℕ). text ++ t) none ∙ append-nil text) a) b

module _ (J : List CellEvent) (w : ℕ) (items : List Item) (due : List ℕ) (law : CellLaw J) (there : incarnation J ≢ 0) where
  -- the events with the dialog
  abbrev ended_so : End → List CellEvent
  ended_so how = cell.Dialog (record { worker = w; items = items; end = how; due = due }) ∷ J

  one_taken : (how : End) (old new : Wire) (rest : List ℕ) → new.came ≡ old.came → Consumes old.left new.left (said_text items ++ rest) → Leaves how rest new.left
      → HasTaken (last_booted J) J old.came old.left → HasTaken (last_booted J) (ended_so how) new.came new.left
  one_taken how old new rest same more leaves h =
      let k : ℕ = last_booted J in
      let here : (incarnation J == k) ≡ true = eq-eqb (incarnation J) k (is_last J law there) in
      let whole : Consumes old.came new.left (said k J ++ (said_text items ++ rest)) =
      took_more old.came old.left new.left (said k J) h.rest (said_text items ++ rest) (all_said k J h.rest old.left law there refl h.rest_is) h.taken more in
      let text : Consumes new.came new.left ((said k J ++ said_text items) ++ rest) =
      subst (λ (t : List ℕ). Consumes new.came new.left t) (sym (append_assoc (said k J) (said_text items) rest))
      (subst (λ (o : Option (List ℕ)). Consumes o new.left (said k J ++ (said_text items ++ rest))) (sym same) whole) in
      record {
        rest = rest;
        taken = subst (λ (b : Bool). Consumes new.came new.left ((said k J ++ (if b then said_text items else [])) ++ rest)) (sym here) text;
        rest_is = subst (λ (b : Bool). LeavesBy (if b then Some how else last_end k J) rest new.left) (sym here) leaves;
      }

  passes_taken : (how : End) (old new : Option Wire) (rest put : List ℕ) → Passes old new (said_text items ++ rest) put → Leaves how rest (left_of new) → IsTaken J old → IsTaken (ended_so how) new
  passes_taken how None new rest put h leaves taken = absurd h
  passes_taken how (Some old) None rest put h leaves taken = absurd h
  passes_taken how (Some old) (Some new) rest put h leaves taken = one_taken how old new rest h.came h.takes leaves taken

  fails_taken : (how : End) (old new : Option Wire) (rest put cut : List ℕ) → Fails old new (said_text items ++ rest) put cut → Leaves how rest (left_of new) → IsTaken J old → IsTaken (ended_so how) new
  fails_taken how None new rest put cut h leaves taken = absurd h
  fails_taken how (Some old) None rest put cut h leaves taken = absurd h
  fails_taken how (Some old) (Some new) rest put cut h leaves taken = one_taken how old new rest h.came h.takes leaves taken

  -- nothing was taken but what was said
  said_taken : (how : End) (old new : Option Wire) (put : List ℕ) → Passes old new (said_text items) put → Leaves how [] (left_of new) → IsTaken J old → IsTaken (ended_so how) new
  said_taken how old new put h leaves taken = passes_taken how old new [] put (subst (λ (t : List ℕ). Passes old new t put) (sym (append-nil (said_text items))) h) leaves taken

  -- nothing was said or taken
  same_taken : (how : End) (old : Option Wire) → items ≡ [] → ((left : Option (List ℕ)) → Leaves how [] left) → IsTaken J old → IsTaken (ended_so how) old
  same_taken how None none leaves taken = tt
  same_taken how (Some old) none leaves taken =
      one_taken how old old [] refl (subst (λ (xs : List Item). Consumes old.left old.left (said_text xs ++ [])) (sym none) (Consumes-nil old.left)) (leaves old.left) taken

  bad_left : (left : Option (List ℕ)) (since bytes : List ℕ) → AreLeft left bytes → IsBadStop since bytes → IfSome left (IsBadStop since)
  bad_left None since bytes is stop = tt
  bad_left (Some now) since bytes is stop = subst (IsBadStop since) (sym is) stop

  pub goes_taken : (how : End) (old new : Option Wire) (since left : List ℕ) → GoesOver old new since left due items how → (how ≡ end.BadFrame → IsBadStop since left) → IsTaken J old → IsTaken (ended_so how) new
  goes_taken end.Reply old new since left h stops taken = said_taken end.Reply old new _ h refl taken
  goes_taken (end.Superseded shown) old new since left (inl h) stops taken =
      subst (IsTaken (ended_so (end.Superseded shown))) (sym h.1) (same_taken (end.Superseded shown) old h.0 (λ o. refl) taken)
  goes_taken (end.Superseded shown) old new since left (inr h) stops taken = said_taken (end.Superseded shown) old new _ h refl taken
  goes_taken end.BadFrame old new since left h stops taken = passes_taken end.BadFrame old new since _ h.0 (bad_left (left_of new) since left h.1 (stops refl)) taken
  goes_taken end.Ended old new since left h stops taken = said_taken end.Ended old new _ h.0 (refl, h.1) taken
  goes_taken end.LinkFault old new since left h stops taken = fails_taken end.LinkFault old new h.0 _ due h.1 tt taken
  goes_taken end.FrameLimit old new since left h stops taken = said_taken end.FrameLimit old new _ h refl taken
  goes_taken end.Starved old new since left h stops taken = passes_taken end.Starved old new h.0 _ h.1 tt taken

-- what a bad frame leaves
pub bad_stop : (C : Config) (w : Speaker) (since left due head content : List ℕ) (J now : Seen) (items : List Item) (how : End) → IsDialog C w since left due head content J items how now → how ≡ end.BadFrame → IsBadStop since left
bad_stop C w since left due head content J now items how d is = by (subst (λ (e : End). IsDialog C w since left due head content J items e now) is d)
  where
    by : IsDialog C w since left due head content J items end.BadFrame now → IsBadStop since left
    by (inl h) = let other : end.BadFrame ≡ end.Superseded h.0 = h.1 in absurd (cc)
    by (inr h) = h.3.2

-- ---- what is taken elsewhere

-- events that neither say nor end anything
pub quiet_taken : (k : ℕ) (J K : List CellEvent) (came left : Option (List ℕ)) → said k K ≡ said k J → last_end k K ≡ last_end k J → HasTaken k J came left → HasTaken k K came left
quiet_taken k J K came left says ends h = record {
  rest = h.rest;
  taken = subst (λ (t : List ℕ). Consumes came left (t ++ h.rest)) (sym says) h.taken;
  rest_is = subst (λ (o : Option End). LeavesBy o h.rest left) (sym ends) h.rest_is;
}

pub missed_taken : (J : List CellEvent) (w wanted is : ℕ) (link : Option Wire) → IsTaken J link → IsTaken (cell.Missed w wanted is ∷ J) link
missed_taken J w wanted is None taken = tt
missed_taken J w wanted is (Some wire) taken = quiet_taken (last_booted J) J (cell.Missed w wanted is ∷ J) wire.came wire.left (append-nil (said (last_booted J) J)) refl taken

-- a Boot frame was put on a link from which nothing was taken
pub boot_taken : (k : ℕ) (J : List CellEvent) (old : Wire) (new : Option Wire) (put : List ℕ) → last_booted J < k → old.came ≡ old.left → Passes (Some old) new [] put → IsTaken (cell.Boot k ∷ J) new
boot_taken k J old None put above untaken h = absurd h
boot_taken k J old (Some new) put above untaken h =
    let j : ℕ = max k (last_booted J) in
    let below : last_booted J < j = omega (arith, above) in
    record {
      rest = [];
      taken = rw (unsaid j J below) (subst (λ (o : Option (List ℕ)). Consumes o new.left []) (sym (h.came ∙ untaken)) h.takes);
      rest_is = subst (λ (o : Option End). LeavesBy o [] new.left) (sym (unended j J below)) refl;
    }
