-- In a record whose workers' lists are made of their pieces, each dialog of a cell fits the journals.
use Rattle.std.proofs.Common.{◌≡◌, ℕ, suc, zero, ◌+◌, ◌<◌, ◌≤◌, ◌⊎◌, inl, inr, Bool, true, false, cond, List, [], ◌∷◌, ◌++◌, reverse, length, filter, count_by, Some, None, refl, sym, ap, subst, ◌∙◌, arith}
use Rattle.std.specs.Prelude.{◌==◌, slice_get, slice_index_or, nat_lt}
use Rattle.std.specs.List.{list_all, sum_by}
use Rattle.std.proofs.lemmas.Bool.{false≢true, and_parts, eqb-true, eq-eqb, ltb-true, cases_lt}
use Rattle.std.proofs.lemmas.List.{length-replicate, length-reverse, length_push, get_or_push, get_or_append_left}
use Rattle.std.proofs.lemmas.List.Sums.{sum_by-cons}
use mathlib.Core.List.{reverse-cons}
use Rattle.okws_base.specs.Runs.{Each}
use Rattle.okws_plan.specs.declared.configuration.Config.{Config}
use Rattle.okws_plan.specs.declared.event.PubdEvent.TheVariants as pubd
use Rattle.monitor_model.specs.declared.record.CellEvent.{CellEvent}
use Rattle.monitor_model.specs.declared.record.CellEvent.TheVariants as cell
use Rattle.monitor_model.specs.declared.record.Dialog.{Dialog}
use Rattle.monitor_model.specs.declared.record.Own.{Own}
use Rattle.monitor_model.specs.declared.record.Own.TheVariants as own
use Rattle.monitor_model.specs.declared.record.Record.{Record}
use Rattle.monitor_model.specs.Answered.{IsDialogIn, AreEventsIn, speaker_of}
use Rattle.monitor_model.specs.Cell.{incarnation, dialogs_of}
use Rattle.monitor_model.specs.Seen.{Seen, noted}
use Rattle.monitor_model.specs.declared.verdict.Way.{Way}
use Rattle.monitor_model.specs.declared.verdict.Way.TheVariants as way
use Rattle.okws_plan.specs.declared.event.OkdEvent.TheVariants as okd
use Rattle.monitor_model.specs.Okd.{accept_verdict}
use Rattle.monitor_model.specs.Merged.{cell_past, cell_items, is_at_cell, is_cell_below, are_all_below, are_below, is_launch, IsOwn, IsMerged, LaunchesAlone, lists, list_of}
use Rattle.monitor_model.specs.Worker.{is_dialog_at, next_dialog, Outcome, Unowned, IsDown, IsMissed, WantsMemory, Spoke, Piece, Accepted, Published, Launched, Wants, WentTo, Follows, IsPiece, Lives, IsLeft, IsWorker, AreWorkers}
use Rattle.two_worlds.proofs.Growing.{Quiet, Ext, quiet_same, quiet_pubd, quiet_dialog, ext_same, ext_pubd, dialog_fits, quiet_okd, ext_okd, quiet_launcher, ext_launcher, ext_noted}

-- a dialog of the worker at cell s, by its number: it is the cell's, and it fits
abbrev pub Fits : Config → Record → ℕ → ℕ → ℕ → Type 0
Fits C R w s n = (k : ℕ) × (d : Dialog) × (slice_get (reverse (dialogs_of w (cell_past R s))) n ≡ Some (k, d)) × IsDialogIn C R (record { worker = w; service = s; incarnation = k }) d.due d.items d.end

-- all dialogs of the own list fit
abbrev AllFit : Config → Record → ℕ → Seen → Type 0
AllFit C R w J = (s n : ℕ) → n < count_by (is_dialog_at s) J.own → Fits C R w s n

all_quiet : (C : Config) (R : Record) (w : ℕ) (J now : Seen) → Quiet J now → AllFit C R w J → AllFit C R w now
all_quiet C R w J now quiet all s n below = let same : count_by (is_dialog_at s) now.own ≡ count_by (is_dialog_at s) J.own = quiet.same s in all s n (omega arith)

-- a dialog more
all_one_more : (C : Config) (R : Record) (w t k : ℕ) (d : Dialog) (J : Seen) → next_dialog R w t J.own ≡ Some (k, d) → IsDialogIn C R (record { worker = w; service = t; incarnation = k }) d.due d.items d.end → AllFit C R w J
    → AllFit C R w (noted J (own.Dialog t))
all_one_more C R w t k d J is fits all s n below = by (t == s) refl below
  where
    count : ℕ
    count = count_by (is_dialog_at s) J.own

    by : (b : Bool) → (t == s) ≡ b → n < sum_by (λ (x : Own). cond (is_dialog_at s x) 1 0) (own.Dialog t ∷ J.own) → Fits C R w s n
    by true e below = here (cases_lt n count)
      where
        size : sum_by (λ (x : Own). cond (is_dialog_at s x) 1 0) (own.Dialog t ∷ J.own) ≡ suc count
        size = sum_by-cons (λ (x : Own). cond (is_dialog_at s x) 1 0) (own.Dialog t) J.own ∙ rw e (omega arith)

        same : t ≡ s
        same = eqb-true t s e

        here : (n < count) ⊎ (count ≤ n) → Fits C R w s n
        here (inl low) = all s n low
        here (inr high) =
            let last : n ≡ count = (let z : sum_by (λ (x : Own). cond (is_dialog_at s x) 1 0) (own.Dialog t ∷ J.own) ≡ suc count = size in omega arith) in (
              k,
              d,
              ap (slice_get (reverse (dialogs_of w (cell_past R s)))) last ∙ subst (λ (u : ℕ). slice_get (reverse (dialogs_of w (cell_past R u))) (count_by (is_dialog_at u) J.own) ≡ Some (k, d)) same is,
              subst (λ (u : ℕ). IsDialogIn C R (record { worker = w; service = u; incarnation = k }) d.due d.items d.end) same fits,
            )
    by false e below =
        let size : sum_by (λ (x : Own). cond (is_dialog_at s x) 1 0) (own.Dialog t ∷ J.own) ≡ count = sum_by-cons (λ (x : Own). cond (is_dialog_at s x) 1 0) (own.Dialog t) J.own ∙ rw e (omega arith) in
        all s n (omega arith)

-- one step of the walk: what grew from later grew from earlier, and dialogs fit then if they did before
record Walk (C : Config) (R : Record) (w : ℕ) (J now : Seen) : Type 0 where
  many : length now.proxies ≡ length J.proxies
  back : Ext R now → Ext R J
  on : Ext R now → AllFit C R w J → AllFit C R w now

walk_quiet : (C : Config) (R : Record) (w : ℕ) (J now : Seen) → Quiet J now → (Ext R now → Ext R J) → Walk C R w J now
walk_quiet C R w J now quiet back = record { many = quiet.many; back = back; on = λ x all. all_quiet C R w J now quiet all }

walk_then : (C : Config) (R : Record) (w : ℕ) (J mid now : Seen) → Walk C R w J mid → Walk C R w mid now → Walk C R w J now
walk_then C R w J mid now first next = record { many = next.many ∙ first.many; back = λ x. first.back (next.back x); on = λ x all. next.on x (first.on (next.back x) all) }

walk_went : (C : Config) (R : Record) (w s k : ℕ) (head content : List ℕ) (J : Seen) (outcome : Outcome) (now : Seen) → length R.proxies ≡ length C.proxies → WentTo C R w s k head content J outcome now → Walk C R w J now
walk_went C R w s k head content J Unowned now many h = absurd h
walk_went C R w s k head content J IsDown now many h = absurd h
walk_went C R w s k head content J IsMissed now many h =
    walk_quiet C R w J now (record { many = ap (λ (K : Seen). length K.proxies) h.1; same = λ t. ap (λ (K : Seen). count_by (is_dialog_at t) K.own) h.1 ∙ omega arith }) (ext_noted R J (own.Missed s k h.0) now h.1)
walk_went C R w s k head content J WantsMemory now many h =
    walk_quiet C R w J now (record { many = ap (λ (K : Seen). length K.proxies) h; same = λ t. ap (λ (K : Seen). count_by (is_dialog_at t) K.own) h ∙ omega arith }) (ext_noted R J own.NoMemory now h)
walk_went C R w s k head content J (Spoke t j d) now many h = record {
  many = quiet.many;
  back = λ x. ext_noted R J (own.Dialog s) (noted J (own.Dialog s)) refl (dialog x).1;
  on = λ x all. all_quiet C R w (noted J (own.Dialog s)) now quiet (all_one_more C R w s k d J h.2 (dialog x).0 all);
}
  where
    quiet : Quiet (noted J (own.Dialog s)) now
    quiet = quiet_dialog C (record { worker = w; service = s; incarnation = k }) h.3 h.4 d.due head content (noted J (own.Dialog s)) d.items d.end now h.5

    dialog : Ext R now → IsDialogIn C R (record { worker = w; service = s; incarnation = k }) d.due d.items d.end × Ext R (noted J (own.Dialog s))
    dialog x = dialog_fits C R (record { worker = w; service = s; incarnation = k }) h.3 h.4 d.due head content (noted J (own.Dialog s)) d.items d.end now many h.5 x

walk_follows : (C : Config) (R : Record) (w : ℕ) (to : Way) (head content : List ℕ) (J : Seen) (outcome : Outcome) (now : Seen) → length R.proxies ≡ length C.proxies → Follows C R w to head content J outcome now → Walk C R w J now
walk_follows C R w way.NotOwned head content J outcome now many h = walk_quiet C R w J now (quiet_same J now h.1) (ext_same R J now h.1)
walk_follows C R w (way.Down s) head content J outcome now many h = walk_quiet C R w J now (quiet_same J now h.1) (ext_same R J now h.1)
walk_follows C R w (way.To s k) head content J outcome now many h = walk_went C R w s k head content J outcome now many h

walk_piece : (C : Config) (R : Record) (w : ℕ) (piece : Piece) (J now : Seen) → length R.proxies ≡ length C.proxies → IsPiece C R w piece J now → Walk C R w J now
walk_piece C R w (Accepted path head content outcome) J now many h =
    walk_then C R w J h.1 now (walk_quiet C R w J h.1 (quiet_okd w (okd.Accept path) J h.0 h.1 h.2) (ext_okd R w (okd.Accept path) J h.0 h.1 h.2))
    (walk_follows C R w (accept_verdict C h.0 path) head content h.1 outcome now many h.3)
walk_piece C R w (Published t content) J now many h = walk_quiet C R w J now (quiet_pubd w (pubd.Publish t content) J h.0 now h.1) (λ x. (ext_pubd R w (pubd.Publish t content) J h.0 now h.1 x).0)
walk_piece C R w (Launched event) J now many h = walk_quiet C R w J now (quiet_launcher w event J h.0 now h.1) (ext_launcher R w event J h.0 now h.1)
walk_piece C R w Wants J now many h =
    walk_quiet C R w J now (record { many = ap (λ (K : Seen). length K.proxies) h; same = λ t. ap (λ (K : Seen). count_by (is_dialog_at t) K.own) h ∙ omega arith }) (ext_noted R J own.NoMemory now h)

lives_many : (C : Config) (R : Record) (w : ℕ) (pieces : List Piece) (now : Seen) → length R.proxies ≡ length C.proxies → Lives C R w pieces now → length now.proxies ≡ length R.proxies
lives_many C R w [] now many h = ap (λ (K : Seen). length K.proxies) h ∙ length-replicate (length R.proxies) []
lives_many C R w (piece ∷ pieces) now many h = (walk_piece C R w piece h.0 now many h.2).many ∙ lives_many C R w pieces h.0 many h.1

lives_fit : (C : Config) (R : Record) (w : ℕ) (pieces : List Piece) (now : Seen) → length R.proxies ≡ length C.proxies → Lives C R w pieces now → Ext R now → AllFit C R w now
lives_fit C R w [] now many h x = λ s n below. absurd (let none : count_by (is_dialog_at s) now.own ≡ 0 = ap (λ (K : Seen). count_by (is_dialog_at s) K.own) h in omega arith)
lives_fit C R w (piece ∷ pieces) now many h x =
    let step = walk_piece C R w piece h.0 now many h.2 in
    step.on x (lives_fit C R w pieces h.0 many h.1 (step.back x))

left_ext : (R : Record) (w : ℕ) (now : Seen) → length now.proxies ≡ length R.proxies → IsLeft R w now → Ext R now
left_ext R w now many left = record {
  many = many;
  proxies = λ p below. ((left.proxies p below).0, (left.proxies p below).2);
  pubd = (left.pubd.0, left.pubd.2);
  oklogd = (left.oklogd.0, left.oklogd.2);
}

-- all dialogs of a worker's list fit
worker_fits : (C : Config) (R : Record) (w : ℕ) (pieces : List Piece) (items : List Own) → length R.proxies ≡ length C.proxies → IsWorker C R w pieces items → (s n : ℕ) → n < count_by (is_dialog_at s) items → Fits C R w s n
worker_fits C R w pieces items many is s n below =
    let ext = left_ext R w is.seen (lives_many C R w pieces is.seen many is.lives) is.left in
    let same : count_by (is_dialog_at s) items ≡ count_by (is_dialog_at s) is.seen.own = ap (count_by (is_dialog_at s)) is.items_are in
    lives_fit C R w pieces is.seen many is.lives ext s n (omega arith)

-- counting

count_filter : {A : Type 0} (p q : A → Bool) → ((a : A) → q a ≡ false → p a ≡ false) → (xs : List A) → count_by p (filter q xs) ≡ count_by p xs
count_filter p q inside [] = refl
count_filter {A} p q inside (x ∷ xs) = by (q x) refl (count_filter p q inside xs) ∙ sym (sum_by-cons (λ (a : A). cond (p a) 1 0) x xs)
  where
    by : (b : Bool) → q x ≡ b → count_by p (filter q xs) ≡ count_by p xs → count_by p (cond b (x ∷ filter q xs) (filter q xs)) ≡ cond (p x) 1 0 + count_by p xs
    by true is more = sum_by-cons (λ (a : A). cond (p a) 1 0) x (filter q xs) ∙ ap (λ (n : ℕ). cond (p x) 1 0 + n) more
    by false is more = more ∙ rw (inside x is) (omega arith)

dialogs_at_cell : (s : ℕ) (x : Own) → is_at_cell s x ≡ false → is_dialog_at s x ≡ false
dialogs_at_cell s (own.Dialog t) h = h
dialogs_at_cell s (own.Okd e) h = refl
dialogs_at_cell s (own.Proxy p e) h = refl
dialogs_at_cell s (own.Pubd e) h = refl
dialogs_at_cell s (own.Oklogd e) h = refl
dialogs_at_cell s (own.Launcher e) h = refl
dialogs_at_cell s (own.Missed t wanted is) h = refl
dialogs_at_cell s own.NoMemory h = refl
dialogs_at_cell s (own.Boot t k) h = refl
dialogs_at_cell s (own.Retired t) h = refl

-- the open dialogs of worker w at the cell
abbrev open_of : ℕ → List CellEvent → ℕ
open_of w [] = 0
open_of w (cell.Boot k ∷ J) = open_of w J
open_of w (cell.Retired ∷ J) = open_of w J
open_of w (cell.Missed worker wanted is ∷ J) = open_of w J
open_of w (cell.Dialog d ∷ J) = open_of w J
open_of w (cell.Speaking worker items ∷ J) = cond (worker == w) (suc (open_of w J)) (open_of w J)

cell_counts : (launcher w s : ℕ) (J : List CellEvent) → count_by (is_dialog_at s) (cell_items launcher w s J) ≡ length (dialogs_of w J) + open_of w J
cell_counts launcher w s [] = refl
cell_counts launcher w s (cell.Boot k ∷ J) = by (w == launcher) (cell_counts launcher w s J)
  where
    by : (b : Bool) → count_by (is_dialog_at s) (cell_items launcher w s J) ≡ length (dialogs_of w J) + open_of w J
        → count_by (is_dialog_at s) (cond b (own.Boot s k ∷ cell_items launcher w s J) (cell_items launcher w s J)) ≡ length (dialogs_of w J) + open_of w J
    by true more = sum_by-cons (λ (a : Own). cond (is_dialog_at s a) 1 0) (own.Boot s k) (cell_items launcher w s J) ∙ omega arith
    by false more = more
cell_counts launcher w s (cell.Retired ∷ J) = by (w == launcher) (cell_counts launcher w s J)
  where
    by : (b : Bool) → count_by (is_dialog_at s) (cell_items launcher w s J) ≡ length (dialogs_of w J) + open_of w J
        → count_by (is_dialog_at s) (cond b (own.Retired s ∷ cell_items launcher w s J) (cell_items launcher w s J)) ≡ length (dialogs_of w J) + open_of w J
    by true more = sum_by-cons (λ (a : Own). cond (is_dialog_at s a) 1 0) (own.Retired s) (cell_items launcher w s J) ∙ omega arith
    by false more = more
cell_counts launcher w s (cell.Missed v wanted is ∷ J) = by (v == w) (cell_counts launcher w s J)
  where
    by : (b : Bool) → count_by (is_dialog_at s) (cell_items launcher w s J) ≡ length (dialogs_of w J) + open_of w J
        → count_by (is_dialog_at s) (cond b (own.Missed s wanted is ∷ cell_items launcher w s J) (cell_items launcher w s J)) ≡ length (dialogs_of w J) + open_of w J
    by true more = sum_by-cons (λ (a : Own). cond (is_dialog_at s a) 1 0) (own.Missed s wanted is) (cell_items launcher w s J) ∙ omega arith
    by false more = more
cell_counts launcher w s (cell.Dialog d ∷ J) = by (d.worker == w) (cell_counts launcher w s J)
  where
    one : (s == s) ≡ true
    one = eq-eqb s s refl

    by : (b : Bool) → count_by (is_dialog_at s) (cell_items launcher w s J) ≡ length (dialogs_of w J) + open_of w J
        → count_by (is_dialog_at s) (cond b (own.Dialog s ∷ cell_items launcher w s J) (cell_items launcher w s J)) ≡ length (cond b ((incarnation J, d) ∷ dialogs_of w J) (dialogs_of w J)) + open_of w J
    by true more = sum_by-cons (λ (a : Own). cond (is_dialog_at s a) 1 0) (own.Dialog s) (cell_items launcher w s J) ∙ rw one (omega arith)
    by false more = more
cell_counts launcher w s (cell.Speaking v items ∷ J) = by (v == w) (cell_counts launcher w s J)
  where
    one : (s == s) ≡ true
    one = eq-eqb s s refl

    by : (b : Bool) → count_by (is_dialog_at s) (cell_items launcher w s J) ≡ length (dialogs_of w J) + open_of w J
        → count_by (is_dialog_at s) (cond b (own.Dialog s ∷ cell_items launcher w s J) (cell_items launcher w s J)) ≡ length (dialogs_of w J) + cond b (suc (open_of w J)) (open_of w J)
    by true more = sum_by-cons (λ (a : Own). cond (is_dialog_at s a) 1 0) (own.Dialog s) (cell_items launcher w s J) ∙ rw one (omega arith)
    by false more = more

own_counts : (R : Record) (launcher w s : ℕ) (items : List Own) → IsOwn R launcher w items → count_by (is_dialog_at s) items ≡ length (dialogs_of w (cell_past R s)) + open_of w (cell_past R s)
own_counts R launcher w s items is =
    sym (count_filter (is_dialog_at s) (is_at_cell s) (dialogs_at_cell s) items) ∙ sym (ap (count_by (is_dialog_at s)) (is.cells s)) ∙ cell_counts launcher w s (cell_past R s)

-- what holds at each number of the reversed list holds of each item

get_left : {A : Type 0} (xs ys : List A) (n : ℕ) → n < length xs → slice_get (xs ++ ys) n ≡ slice_get xs n
get_left [] ys n below = absurd (omega arith)
get_left (x ∷ xs) ys zero below = refl
get_left (x ∷ xs) ys (suc n) below = get_left xs ys n (omega arith)

get_last : {A : Type 0} (xs : List A) (x : A) (n : ℕ) → n ≡ length xs → slice_get (xs ++ x ∷ []) n ≡ Some x
get_last [] x n e = rw e refl
get_last (y ∷ xs) x zero e = absurd (omega arith)
get_last (y ∷ xs) x (suc n) e = get_last xs x n (omega arith)

each_reversed : {A : Type 0} (P : A → Type 0) (xs : List A) → ((n : ℕ) → n < length xs → (x : A) × (slice_get (reverse xs) n ≡ Some x) × P x) → Each P xs
each_reversed P [] at = tt
each_reversed {A} P (x ∷ xs) at = (
  let z = at (length xs) (omega arith) in
      let here : slice_get (reverse (x ∷ xs)) (length xs) ≡ Some x = ap (λ (l : List A). slice_get l (length xs)) (reverse-cons x xs) ∙ get_last (reverse xs) x (length xs) (sym (length-reverse xs)) in
      let same : z.0 ≡ x = (let both : Some z.0 ≡ Some x = sym z.1 ∙ here in cc) in
      subst P same z.2,
  each_reversed P xs (λ n below.
      let z = at n (omega arith) in
      let size : length (reverse xs) ≡ length xs = length-reverse xs in
      let there : slice_get (reverse (x ∷ xs)) n ≡ slice_get (reverse xs) n = ap (λ (l : List A). slice_get l n) (reverse-cons x xs) ∙ get_left (reverse xs) (x ∷ []) n (omega arith) in
      (z.0, sym there ∙ z.1, z.2)),
)

get_none : {A : Type 0} (xs : List A) (n : ℕ) → length xs ≤ n → slice_get xs n ≡ None
get_none [] n past = refl
get_none (x ∷ xs) zero past = absurd (omega arith)
get_none (x ∷ xs) (suc n) past = get_none xs n (omega arith)

-- a cell's dialogs of worker w fit, and none of w's is open
record Settled (C : Config) (R : Record) (s w : ℕ) (J : List CellEvent) : Type 0 where
  fit : Each (λ (x : ℕ × Dialog). IsDialogIn C R (record { worker = w; service = s; incarnation = x.0 }) x.1.due x.1.items x.1.end) (dialogs_of w J)
  shut : open_of w J ≡ 0

settled_by : (C : Config) (R : Record) (launcher s w : ℕ) (items : List Own) → IsOwn R launcher w items → ((n : ℕ) → n < count_by (is_dialog_at s) items → Fits C R w s n) → Settled C R s w (cell_past R s)
settled_by C R launcher s w items is all = record {
  fit = each_reversed (λ (x : ℕ × Dialog). IsDialogIn C R (record { worker = w; service = s; incarnation = x.0 }) x.1.due x.1.items x.1.end) L (λ n below. let z = all n (more n below) in ((z.0, z.1), z.2, z.3));
  shut = none (open_of w (cell_past R s)) refl;
}
  where
    L : List (ℕ × Dialog)
    L = dialogs_of w (cell_past R s)

    counts : count_by (is_dialog_at s) items ≡ length L + open_of w (cell_past R s)
    counts = own_counts R launcher w s items is

    more : (n : ℕ) → n < length L → n < count_by (is_dialog_at s) items
    more n below = let c : count_by (is_dialog_at s) items ≡ length L + open_of w (cell_past R s) = counts in omega arith

    none : (m : ℕ) → open_of w (cell_past R s) ≡ m → m ≡ 0
    none zero e = refl
    none (suc m) e =
        let c : count_by (is_dialog_at s) items ≡ length L + open_of w (cell_past R s) = counts in
        let z = all (length L) (omega arith) in
        let past : length (reverse L) ≤ length L = (let r : length (reverse L) ≡ length L = length-reverse L in omega arith) in
        absurd (let no : None ≡ Some (z.0, z.1) = sym (get_none (reverse L) (length L) past) ∙ z.2 in cc)

-- cells

settled_events : (C : Config) (R : Record) (s n : ℕ) (J : List CellEvent) → list_all (is_cell_below n) J ≡ true → ((w : ℕ) → w < n → Settled C R s w J) → AreEventsIn C R s J
settled_events C R s n [] below all = tt
settled_events C R s n (cell.Boot k ∷ J) below all = (settled_events C R s n J below (λ w b. record { fit = (all w b).fit; shut = (all w b).shut }), tt)
settled_events C R s n (cell.Retired ∷ J) below all = (settled_events C R s n J below (λ w b. record { fit = (all w b).fit; shut = (all w b).shut }), tt)
settled_events C R s n (cell.Missed v wanted is ∷ J) below all =
    (settled_events C R s n J (and_parts (nat_lt v n) (list_all (is_cell_below n) J) below).1 (λ w b. record { fit = (all w b).fit; shut = (all w b).shut }), tt)
settled_events C R s n (cell.Dialog d ∷ J) below all =
    (settled_events C R s n J parts.1 (λ w b. record { fit = rest w (d.worker == w) (all w b).fit; shut = (all w b).shut }), here (all d.worker (ltb-true d.worker n parts.0)).fit)
  where
    parts : (nat_lt d.worker n ≡ true) × (list_all (is_cell_below n) J ≡ true)
    parts = and_parts (nat_lt d.worker n) (list_all (is_cell_below n) J) below

    P : ℕ → ℕ × Dialog → Type 0
    P w x = IsDialogIn C R (record { worker = w; service = s; incarnation = x.0 }) x.1.due x.1.items x.1.end

    rest : (w : ℕ) (b : Bool) → Each (P w) (cond b ((incarnation J, d) ∷ dialogs_of w J) (dialogs_of w J)) → Each (P w) (dialogs_of w J)
    rest w true h = h.1
    rest w false h = h

    here : Each (P d.worker) (cond (d.worker == d.worker) ((incarnation J, d) ∷ dialogs_of d.worker J) (dialogs_of d.worker J)) → IsDialogIn C R (speaker_of d.worker s J) d.due d.items d.end
    here h = first (d.worker == d.worker) (eq-eqb d.worker d.worker refl) h
      where
        first : (b : Bool) → b ≡ true → Each (P d.worker) (cond b ((incarnation J, d) ∷ dialogs_of d.worker J) (dialogs_of d.worker J)) → P d.worker (incarnation J, d)
        first true e h = h.0
        first false e h = absurd (false≢true e)
settled_events C R s n (cell.Speaking v items ∷ J) below all =
    absurd (by (v == v) (eq-eqb v v refl) (all v (ltb-true v n (and_parts (nat_lt v n) (list_all (is_cell_below n) J) below).0)).shut)
  where
    by : (b : Bool) → b ≡ true → cond b (suc (open_of v J)) (open_of v J) ≡ 0 → ⊥
    by true e h = omega arith
    by false e h = false≢true e

-- the launcher's list has no dialogs
no_dialogs : (s : ℕ) (items : List Own) → list_all is_launch items ≡ true → count_by (is_dialog_at s) items ≡ 0
no_dialogs s [] h = refl
no_dialogs s (x ∷ items) h =
    let both = and_parts (is_launch x) (list_all is_launch items) h in
    sum_by-cons (λ (a : Own). cond (is_dialog_at s a) 1 0) x items ∙ rw (by x both.0, no_dialogs s items both.1) refl
  where
    by : (x : Own) → is_launch x ≡ true → is_dialog_at s x ≡ false
    by (own.Dialog t) e = absurd (false≢true e)
    by (own.Okd e) h = refl
    by (own.Proxy p e) h = refl
    by (own.Pubd e) h = refl
    by (own.Oklogd e) h = refl
    by (own.Launcher e) h = refl
    by (own.Missed t wanted is) h = refl
    by own.NoMemory h = refl
    by (own.Boot t k) h = refl
    by (own.Retired t) h = refl

all_or : {A : Type 0} (f : A → Bool) (xs : List A) (i : ℕ) (d : A) → list_all f xs ≡ true → f d ≡ true → f (slice_index_or xs i d) ≡ true
all_or f [] i d h k = k
all_or f (x ∷ xs) zero d h k = (and_parts (f x) (list_all f xs) h).0
all_or f (x ∷ xs) (suc i) d h k = all_or f xs i d (and_parts (f x) (list_all f xs) h).1 k

cells_below : (R : Record) (n s : ℕ) → are_all_below n R ≡ true → list_all (is_cell_below n) (cell_past R s) ≡ true
cells_below R n s h =
    let one = and_parts (are_below n R.okd) _ h in
    let two = and_parts (list_all (are_below n) R.proxies) _ one.1 in
    let three = and_parts (are_below n R.pubd) _ two.1 in
    let four = and_parts (are_below n R.oklogd) _ three.1 in
    let five = and_parts (are_below n R.launcher) _ four.1 in
    all_or (λ (J : List CellEvent). list_all (is_cell_below n) J) R.cells s [] five.1 refl

-- each dialog of each cell fits the journals
pub served_events : (C : Config) (R : Record) (launcher : ℕ) → length R.proxies ≡ length C.proxies → IsMerged R launcher → LaunchesAlone R → AreWorkers C R → (s : ℕ) → AreEventsIn C R s (cell_past R s)
served_events C R launcher many merged alone are s = settled_events C R s (length (lists R)) (cell_past R s) (cells_below R (length (lists R)) s merged.below) settled
  where
    size : length (lists R) ≡ length R.workers + 1
    size = length_push R.workers R.launches

    settled : (w : ℕ) → w < length (lists R) → Settled C R s w (cell_past R s)
    settled w below = by (cases_lt w (length R.workers))
      where
        is : IsOwn R launcher w (list_of R w)
        is = merged.own w below

        by : (w < length R.workers) ⊎ (length R.workers ≤ w) → Settled C R s w (cell_past R s)
        by (inl low) =
            let list : list_of R w ≡ slice_index_or R.workers w [] = get_or_append_left R.workers (R.launches ∷ []) [] w low in
            settled_by C R launcher s w (list_of R w) is (λ n b. worker_fits C R w (are.pieces w) (slice_index_or R.workers w []) many (are.workers w low) s n (subst (λ (l : List Own). n < count_by (is_dialog_at s) l) list b))
        by (inr high) =
            let z : length (lists R) ≡ length R.workers + 1 = size in
            let last : length R.workers ≡ w = omega arith in
            let list : list_of R w ≡ R.launches = get_or_push R.workers R.launches [] w last in
            let none : count_by (is_dialog_at s) (list_of R w) ≡ 0 = ap (count_by (is_dialog_at s)) list ∙ no_dialogs s R.launches alone.launches in
            settled_by C R launcher s w (list_of R w) is (λ n b. absurd (omega arith))
