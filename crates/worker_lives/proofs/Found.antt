-- A worker that lived by pieces that tell their dialogs lived by the record that has these dialogs.
use Rattle.std.proofs.Common.{◌≡◌, ℕ, suc, ◌+◌, ◌-◌, ◌<◌, Bool, true, false, cond, List, [], ◌∷◌, ◌++◌, ◌==◌, refl, sym, ap, ◌∙◌, arith, length, reverse, get_or, eq-eqb, Some}
use Rattle.std.proofs.lemmas.List.{get_or-reverse, length-reverse}
use Rattle.std.proofs.lemmas.List.Sums.{sum_by-append}
use Rattle.std.proofs.lemmas.Option.{slice_get-get_or}
use Rattle.std.specs.List.{list_all, count_by}
use Rattle.std.specs.Prelude.{slice_get, ◌&&◌}
use Rattle.okws_plan.specs.declared.configuration.Config.{Config}
use Rattle.okws_plan.specs.declared.event.OkdEvent.TheVariants as okd
use Rattle.okws_plan.specs.declared.event.PubdEvent.TheVariants as pubd
use Rattle.monitor_model.specs.declared.record.Dialog.{Dialog}
use Rattle.monitor_model.specs.declared.record.Own.{Own}
use Rattle.monitor_model.specs.declared.record.Own.TheVariants as own
use Rattle.monitor_model.specs.declared.record.Record.{Record}
use Rattle.monitor_model.specs.declared.verdict.Way.{Way}
use Rattle.monitor_model.specs.declared.verdict.Way.TheVariants as way
use Rattle.monitor_model.specs.Cell.{dialogs_of}
use Rattle.monitor_model.specs.Merged.{cell_past}
use Rattle.monitor_model.specs.Okd.{accept_verdict}
use Rattle.monitor_model.specs.Pieces.{is_entry_of}
use Rattle.monitor_model.specs.Seen.{Seen, noted}
use Rattle.monitor_model.specs.Worker.{Outcome, Unowned, IsDown, IsMissed, WantsMemory, Spoke, Piece, Accepted, Published, Launched, Wants, Follows, Lives, is_dialog_at, next_dialog, nothing_seen}
use Rattle.monitor_model.proofs.Lives.{Kept, lives_kept, went_of}
use Rattle.monitor_model.proofs.Went.{Steps, Went, okd_steps}
use Rattle.worker_lives.specs.Leading.{Goes, GoesBy, LeadsBy, Leads, LivesWith, spoken, spoken_by, spoken_in}

-- ---- lists

pub joined : {A : Type 0} (xs ys zs : List A) → xs ++ (ys ++ zs) ≡ (xs ++ ys) ++ zs
joined [] ys zs = refl
joined {A} (x ∷ xs) ys zs = ap (λ (rest : List A). x ∷ rest) (joined xs ys zs)

length_both : {A : Type 0} (xs ys : List A) → length (xs ++ ys) ≡ length xs + length ys
length_both [] ys = omega arith
length_both (x ∷ xs) ys = let rest : length (xs ++ ys) ≡ length xs + length ys = length_both xs ys in omega (arith, rest)

at_middle : {A : Type 0} (xs : List A) (y : A) (ys : List A) (d : A) → get_or (xs ++ y ∷ ys) (length xs) d ≡ y
at_middle [] y ys d = refl
at_middle (x ∷ xs) y ys d = at_middle xs y ys d

-- behind so many, counted from the last
pub counted_back : {A : Type 0} (xs : List A) (y : A) (ys : List A) → slice_get (reverse (xs ++ y ∷ ys)) (length ys) ≡ Some y
counted_back {A} xs y ys =
    let all : length (xs ++ y ∷ ys) ≡ length xs + suc (length ys) = length_both xs (y ∷ ys) in
    let turned : length (reverse (xs ++ y ∷ ys)) ≡ length (xs ++ y ∷ ys) = length-reverse (xs ++ y ∷ ys) in
    let within : length ys < length (xs ++ y ∷ ys) = omega (arith, all) in
    let within_turned : length ys < length (reverse (xs ++ y ∷ ys)) = omega (arith, turned, within) in
    let place : length (xs ++ y ∷ ys) - 1 - length ys ≡ length xs = omega (arith, all) in
    slice_get-get_or (reverse (xs ++ y ∷ ys)) (length ys) y within_turned
    ∙ ap (λ (a : A). Some a) (get_or-reverse (xs ++ y ∷ ys) (length ys) y within ∙ ap (λ (i : ℕ). get_or (xs ++ y ∷ ys) i y) place ∙ at_middle xs y ys y)

-- ---- how many dialogs a list has at a cell

pub both_true : (a b : Bool) → (a && b) ≡ true → (a ≡ true) × (b ≡ true)
both_true true b is = (refl, is)
both_true false b is = let bad : false ≡ true = is in let never : ⊥ = cc in absurd never

-- the first one and the rest
first_counts : (s : ℕ) (item : Own) (items : List Own) → count_by (is_dialog_at s) (item ∷ items) ≡ (0 + cond (is_dialog_at s item) 1 0) + count_by (is_dialog_at s) items
first_counts s item items = sum_by-append (λ (x : Own). cond (is_dialog_at s x) 1 0) (item ∷ []) items

-- an item that is none
none_counts : (s : ℕ) (item : Own) (items : List Own) → is_dialog_at s item ≡ false → count_by (is_dialog_at s) (item ∷ items) ≡ count_by (is_dialog_at s) items
none_counts s item items is = first_counts s item items ∙ ap (λ (b : Bool). (0 + cond b 1 0) + count_by (is_dialog_at s) items) is ∙ nothing_more (count_by (is_dialog_at s) items)
  where
    nothing_more : (n : ℕ) → 0 + n ≡ n
    nothing_more n = omega arith

-- what a dialog enters is none
entry_is_none : (s t : ℕ) (item : Own) → is_entry_of t item ≡ true → is_dialog_at s item ≡ false
entry_is_none s t (own.Proxy p e) is = refl
entry_is_none s t (own.Pubd e) is = refl
entry_is_none s t (own.Oklogd e) is = refl
entry_is_none s t (own.Okd e) is = refl
entry_is_none s t (own.Launcher e) is = refl
entry_is_none s t (own.Dialog u) is = let bad : false ≡ true = is in let never : ⊥ = cc in absurd never
entry_is_none s t (own.Missed u wanted other) is = refl
entry_is_none s t own.NoMemory is = refl
entry_is_none s t (own.Boot u k) is = refl
entry_is_none s t (own.Retired u) is = refl

entries_are_none : (s t : ℕ) (taken items : List Own) → list_all (is_entry_of t) taken ≡ true → count_by (is_dialog_at s) (taken ++ items) ≡ count_by (is_dialog_at s) items
entries_are_none s t [] items is = refl
entries_are_none s t (item ∷ taken) items is =
    let both : (is_entry_of t item ≡ true) × (list_all (is_entry_of t) taken ≡ true) = both_true (is_entry_of t item) (list_all (is_entry_of t) taken) is in
    none_counts s item (taken ++ items) (entry_is_none s t item both.0) ∙ entries_are_none s t taken items both.1

-- what is known along the pieces
record IsFound (C : Config) (R : Record) (w : ℕ) (pieces : List Piece) (now : Seen) : Type 0 where
  lives : Lives C R w pieces now
  counts : (s : ℕ) → count_by (is_dialog_at s) now.own ≡ length (spoken_in s pieces)

-- the dialogs of the record at each cell are those of these pieces, and more
abbrev AreThere : Record → ℕ → List Piece → Type 0
AreThere R w pieces = (s : ℕ) → (more : List (ℕ × Dialog)) × (dialogs_of w (cell_past R s) ≡ more ++ spoken_in s pieces)

there_before : (R : Record) (w : ℕ) (piece : Piece) (pieces : List Piece) → AreThere R w (piece ∷ pieces) → AreThere R w pieces
there_before R w piece pieces all s = ((all s).0 ++ spoken_by s piece, (all s).1 ∙ joined (all s).0 (spoken_by s piece) (spoken_in s pieces))

-- ---- one piece

record WasFound (C : Config) (R : Record) (w : ℕ) (v : Way) (head content : List ℕ) (mid : Seen) (outcome : Outcome) (now : Seen) (dialogs : ℕ → List (ℕ × Dialog)) : Type 0 where
  follows : Follows C R w v head content mid outcome now
  counts : (s : ℕ) → count_by (is_dialog_at s) now.own ≡ length (spoken s outcome ++ dialogs s)

own_of : (J K : Seen) → J ≡ K → J.own ≡ K.own
own_of J K is = ap (λ (x : Seen). x.own) is

spoke_counts : (s t : ℕ) (k : ℕ) (d : Dialog) (dialogs : List (ℕ × Dialog)) (items : List Own) → count_by (is_dialog_at s) items ≡ length dialogs
    → count_by (is_dialog_at s) (own.Dialog t ∷ items) ≡ length (spoken s (Spoke t k d) ++ dialogs)
spoke_counts s t k d dialogs items counts = first_counts s (own.Dialog t) items ∙ by (t == s)
  where
    by : (b : Bool) → (0 + cond b 1 0) + count_by (is_dialog_at s) items ≡ length (cond {A = List (ℕ × Dialog)} b ((k, d) ∷ []) [] ++ dialogs)
    by true = omega (arith, counts)
    by false = omega (arith, counts)

-- the record has the dialog that is told
spoke_there : (R : Record) (w s k : ℕ) (d : Dialog) (dialogs : List (ℕ × Dialog)) (items : List Own) → count_by (is_dialog_at s) items ≡ length dialogs
    → (more : List (ℕ × Dialog)) → dialogs_of w (cell_past R s) ≡ more ++ (spoken s (Spoke s k d) ++ dialogs) → next_dialog R w s items ≡ Some (k, d)
spoke_there R w s k d dialogs items counts more there =
    let here : spoken s (Spoke s k d) ≡ (k, d) ∷ [] = rw (eq-eqb s s refl) refl in
    let all : dialogs_of w (cell_past R s) ≡ more ++ (k, d) ∷ dialogs = there ∙ ap (λ (first : List (ℕ × Dialog)). more ++ (first ++ dialogs)) here in
    ap (λ (many : List (ℕ × Dialog)). slice_get (reverse many) (count_by (is_dialog_at s) items)) all
    ∙ ap (λ (n : ℕ). slice_get (reverse (more ++ (k, d) ∷ dialogs)) n) counts
    ∙ counted_back more (k, d) dialogs

goes_found : (C : Config) (R : Record) (w s k : ℕ) (head content : List ℕ) (mid : Seen) (outcome : Outcome) (now : Seen) (dialogs : ℕ → List (ℕ × Dialog)) → Kept C w mid
    → ((t : ℕ) → count_by (is_dialog_at t) mid.own ≡ length (dialogs t))
    → ((t : ℕ) → (more : List (ℕ × Dialog)) × (dialogs_of w (cell_past R t) ≡ more ++ (spoken t outcome ++ dialogs t)))
    → Goes C w s k head content mid outcome now → WasFound C R w (way.To s k) head content mid outcome now dialogs
goes_found C R w s k head content mid Unowned now dialogs kept counts there f = absurd f
goes_found C R w s k head content mid IsDown now dialogs kept counts there f = absurd f
goes_found C R w s k head content mid IsMissed now dialogs kept counts there f =
    record { follows = f; counts = λ t. ap (λ (items : List Own). count_by (is_dialog_at t) items) (own_of now (noted mid (own.Missed s k f.0)) f.1) ∙ none_counts t (own.Missed s k f.0) mid.own refl ∙ counts t }
goes_found C R w s k head content mid WantsMemory now dialogs kept counts there f =
    record { follows = f; counts = λ t. ap (λ (items : List Own). count_by (is_dialog_at t) items) (own_of now (noted mid own.NoMemory) f) ∙ none_counts t own.NoMemory mid.own refl ∙ counts t }
goes_found C R w s k head content mid (Spoke t j d) now dialogs kept counts there f =
    let went : Went C (record { worker = w; service = s; incarnation = k }) (noted mid (own.Dialog s)) now = went_of C w s k f.2 f.3 d.due head content mid now d kept.owns f.4 in
    let named : Spoke t j d ≡ Spoke s k d = ap (λ (u : ℕ). Spoke u j d) f.0 ∙ ap (λ (i : ℕ). Spoke s i d) f.1 in
    let at_s : dialogs_of w (cell_past R s) ≡ (there s).0 ++ (spoken s (Spoke s k d) ++ dialogs s)
    = (there s).1 ∙ ap (λ (x : Outcome). (there s).0 ++ (spoken s x ++ dialogs s)) named in
    record {
      follows = (f.0, f.1, spoke_there R w s k d (dialogs s) mid.own (counts s) (there s).0 at_s, f.2, f.3, f.4);
      counts = λ u. ap (λ (items : List Own). count_by (is_dialog_at u) items) went.taken_is
          ∙ entries_are_none u s went.taken (own.Dialog s ∷ mid.own) went.entries
          ∙ spoke_counts u s k d (dialogs u) mid.own (counts u)
          ∙ ap (λ (x : Outcome). length (spoken u x ++ dialogs u)) (sym named);
    }

by_found : (C : Config) (R : Record) (w : ℕ) (v : Way) (head content : List ℕ) (mid : Seen) (outcome : Outcome) (now : Seen) (dialogs : ℕ → List (ℕ × Dialog)) → Kept C w mid
    → ((t : ℕ) → count_by (is_dialog_at t) mid.own ≡ length (dialogs t))
    → ((t : ℕ) → (more : List (ℕ × Dialog)) × (dialogs_of w (cell_past R t) ≡ more ++ (spoken t outcome ++ dialogs t)))
    → GoesBy C w v head content mid outcome now → WasFound C R w v head content mid outcome now dialogs
by_found C R w way.NotOwned head content mid outcome now dialogs kept counts there f = record {
  follows = f;
  counts = λ t. ap (λ (items : List Own). count_by (is_dialog_at t) items) (own_of now mid f.1) ∙ counts t ∙ ap (λ (x : Outcome). length (spoken t x ++ dialogs t)) (sym f.0);
}
by_found C R w (way.Down s) head content mid outcome now dialogs kept counts there f = record {
  follows = f;
  counts = λ t. ap (λ (items : List Own). count_by (is_dialog_at t) items) (own_of now mid f.1) ∙ counts t ∙ ap (λ (x : Outcome). length (spoken t x ++ dialogs t)) (sym f.0);
}
by_found C R w (way.To s k) head content mid outcome now dialogs kept counts there f = goes_found C R w s k head content mid outcome now dialogs kept counts there f

-- ---- all of them

accepted_found : (C : Config) (R : Record) (w : ℕ) (path head content : List ℕ) (outcome : Outcome) (pieces : List Piece) (mid now : Seen) → length R.proxies ≡ length C.proxies
    → AreThere R w (Accepted path head content outcome ∷ pieces) → IsFound C R w pieces mid → LeadsBy C w (Accepted path head content outcome) mid now
    → IsFound C R w (Accepted path head content outcome ∷ pieces) now
accepted_found C R w path head content outcome pieces mid now many there before f =
    let kept : Kept C w mid = lives_kept C R w many pieces mid before.lives in
    let first : Steps (length C.proxies) w mid f.1 = okd_steps (length C.proxies) w (okd.Accept path) mid f.0 f.1 f.2 in
    let then : Kept C w f.1 = record { owns = first.owns kept.owns; trimmed = first.trimmed kept.trimmed } in
    let counts : (s : ℕ) → count_by (is_dialog_at s) f.1.own ≡ length (spoken_in s pieces)
    = (λ (s : ℕ). ap (λ (x : Seen). count_by (is_dialog_at s) x.own) f.2.1 ∙ none_counts s (own.Okd (okd.Accept path)) mid.own refl ∙ before.counts s) in
    let found : WasFound C R w (accept_verdict C f.0 path) head content f.1 outcome now (λ (s : ℕ). spoken_in s pieces)
    = by_found C R w (accept_verdict C f.0 path) head content f.1 outcome now (λ (s : ℕ). spoken_in s pieces) then counts there f.3 in
    record {
      lives = (mid, before.lives, (f.0, f.1, f.2, found.follows));
      counts = found.counts;
    }

found : (C : Config) (R : Record) (w : ℕ) → length R.proxies ≡ length C.proxies → (pieces : List Piece) (now : Seen) → AreThere R w pieces → Leads C w pieces (nothing_seen (length C.proxies)) now → IsFound C R w pieces now
found C R w many [] now there l = record {
  lives = l ∙ ap nothing_seen (sym many);
  counts = λ s. ap (λ (x : Seen). count_by (is_dialog_at s) x.own) l;
}
found C R w many (Accepted path head content outcome ∷ pieces) now there l =
    accepted_found C R w path head content outcome pieces l.0 now many there (found C R w many pieces l.0 (there_before R w (Accepted path head content outcome) pieces there) l.1) l.2
found C R w many (Published t content ∷ pieces) now there l =
    let before : IsFound C R w pieces l.0 = found C R w many pieces l.0 (there_before R w (Published t content) pieces there) l.1 in
    record { lives = (l.0, before.lives, l.2); counts = λ s. ap (λ (x : Seen). count_by (is_dialog_at s) x.own) l.2.1.1 ∙ none_counts s (own.Pubd (pubd.Publish t content)) l.0.own refl ∙ before.counts s }
found C R w many (Launched event ∷ pieces) now there l =
    let before : IsFound C R w pieces l.0 = found C R w many pieces l.0 (there_before R w (Launched event) pieces there) l.1 in
    record { lives = (l.0, before.lives, l.2); counts = λ s. ap (λ (x : Seen). count_by (is_dialog_at s) x.own) l.2.1.1 ∙ none_counts s (own.Launcher event) l.0.own refl ∙ before.counts s }
found C R w many (Wants ∷ pieces) now there l =
    let before : IsFound C R w pieces l.0 = found C R w many pieces l.0 (there_before R w Wants pieces there) l.1 in
    record { lives = (l.0, before.lives, l.2); counts = λ s. ap (λ (x : Seen). count_by (is_dialog_at s) x.own) l.2 ∙ none_counts s own.NoMemory l.0.own refl ∙ before.counts s }

pub lives_are_found : (C : Config) (R : Record) (w : ℕ) (pieces : List Piece) (now : Seen) → length R.proxies ≡ length C.proxies
    → LivesWith (λ s. dialogs_of w (cell_past R s)) C w pieces now → Lives C R w pieces now
lives_are_found C R w pieces now many x = (found C R w many pieces now (λ s. ([], x.dialogs_are s)) x.leads).lives
