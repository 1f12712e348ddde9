-- What came up in the first launches stands before every Accept at okd, and before every dialog and Missed in its cell, where it stands in what was seen there when no worker had entered anything.
use Rattle.std.proofs.Common.{◌≡◌, ◌∙◌, ⊎_elim, ℕ, suc, ◌+◌, ◌<◌, ◌≤◌, Bool, true, false, List, [], ◌∷◌, ◌++◌, length, filter_map, refl, sym, ap, subst, arith, eq-eqb, ne_eqb}
use Rattle.std.proofs.lemmas.Bool.{and_from, and_parts, cases_lt, false≢true, or_from, or_left, or_right}
use Rattle.std.proofs.lemmas.List.Folds.{list_any-append}
use Rattle.std.specs.Prelude.{◌==◌, ◌&&◌, ◌||◌, if◌then◌else◌, filter, map}
use Rattle.std.specs.List.{AllByRecursion, list_all, list_any}
use mathlib.Core.Logic.{dite}
use native.Mathlib.Decide.{ℕ_discrete}
use Rattle.okws_base.specs.Past.{events_of}
use Rattle.okws_base.specs.Runs.{Each}
use Rattle.okws_base.specs.Turns.{Behind, of}
use Rattle.okws_base.specs.declared.journal.Entry.{Entry}
use Rattle.okws_plan.specs.declared.event.OkdEvent.{OkdEvent}
use Rattle.okws_plan.specs.declared.event.OkdEvent.TheVariants as okd
use Rattle.monitor_model.specs.declared.record.CellEvent.{CellEvent}
use Rattle.monitor_model.specs.declared.record.CellEvent.TheVariants as cell
use Rattle.monitor_model.specs.declared.record.Own.{Own}
use Rattle.monitor_model.specs.declared.record.Own.TheVariants as own
use Rattle.monitor_model.specs.First.{Came, before_any, is_talk}
use Rattle.monitor_model.specs.Merged.{cell_items, is_at_cell, is_launch, is_okd_launch, okd_item}
use Rattle.monitor_model.specs.Pieces.{is_accept}
use Rattle.named_columns.specs.Launched.{by_entry}
use Rattle.site_cells.specs.Held.{by_event}
use Rattle.site_run.specs.Opening.{Opening, is_up, ups_of}
use Rattle.okws_serve.specs.Opened.{came_in}

-- ---- what stands before the first that passes a test

module _ {E : Type 0} (test p : E → Bool) where
  before_by : (b : Bool) (e : E) (J : List E) → list_any p (before_any test J) ≡ true → list_any p J ≡ true → list_any p (if b then before_any test J else e ∷ J) ≡ true
  before_by true e J there has = there
  before_by false e J there has = or_right (p e) (list_any p J) has

  last_has : (N : List E) → list_any test N ≡ false → list_any p N ≡ true → list_any p (before_any test N) ≡ true
  last_has [] none has = has
  last_has (e ∷ N) none has = subst (λ (b : Bool). list_any p (if b then before_any test N else e ∷ N) ≡ true) (sym none) has

  pub before_has : (more N : List E) → list_any test N ≡ false → list_any p N ≡ true → list_any p (before_any test (more ++ N)) ≡ true
  before_has [] N none has = last_has N none has
  before_has (e ∷ more) N none has =
      before_by (list_any test (e ∷ (more ++ N))) e (more ++ N) (before_has more N none has) (list_any-append p more N ∙ or_right (list_any p more) (list_any p N) has)

-- ---- who entered what

cons_nil : {A : Type 0} (x : A) (xs : List A) → x ∷ xs ≡ [] → ⊥
cons_nil x xs is = absurd (cc)

module _ {E : Type 0} (by : E → ℕ) (test : E → Bool) (n : ℕ) where
  none_first : (w : ℕ) (e : E) (J : List E) → of by w (e ∷ J) ≡ [] → by e ≡ w → ⊥
  none_first w e J none is = cons_nil e (of by w J) (subst (λ (b : Bool). (if b then e ∷ of by w J else of by w J) ≡ []) (eq-eqb (by e) w is) none)

  none_later : (w : ℕ) (e : E) (J : List E) → of by w (e ∷ J) ≡ [] → of by w J ≡ []
  none_later w e J none = subst (λ (b : Bool). (if b then e ∷ of by w J else of by w J) ≡ []) (ne_eqb (by e) w (none_first w e J none)) none

  -- no entry passes, where none of another number than n stands there, and none of n's does
  pub none_passes : (J : List E) → ((w : ℕ) → w < n → of by w J ≡ []) → ((w : ℕ) → n + 1 ≤ w → of by w J ≡ []) → AllByRecursion (λ (e : E). by e ≡ n → test e ≡ false) J → list_any test J ≡ false
  none_passes [] below above own = refl
  none_passes (e ∷ J) below above own =
      or_from (test e) (list_any test J)
      (⊎_elim (λ less. absurd (none_first (by e) e J (below (by e) less) refl)) (λ least. dite (ℕ_discrete (by e) n) own.0 (λ other. absurd (none_first (by e) e J (above (by e) (omega (arith, least, other))) refl))) (cases_lt (by e) n))
      (none_passes J (λ w l. none_later w e J (below w l)) (λ w l. none_later w e J (above w l)) own.1)

  pub last_all : (P : E → Type 0) (more N : List E) → AllByRecursion P (more ++ N) → AllByRecursion P N
  last_all P [] N h = h
  last_all P (e ∷ more) N h = last_all P more N h.1

-- ---- okd

all_by : {E : Type 0} (p : E → Bool) (n : ℕ) (e : Entry E) (J : List (Entry E)) → list_all p (map (λ (x : Entry E). x.event) (if e.worker == n then e ∷ filter (λ (x : Entry E). x.worker == n) J else filter (λ (x : Entry E). x.worker == n) J)) ≡ true
    → (e.worker ≡ n → p e.event ≡ true) × (list_all p (events_of n J) ≡ true)
all_by {E} p n e J h = dite (ℕ_discrete e.worker n)
    (λ is. let both = and_parts (p e.event) (list_all p (events_of n J)) (at (e.worker == n) (eq-eqb e.worker n is) h) in (λ same. both.0, both.1))
    (λ other. (λ same. absurd (other same), past (e.worker == n) (ne_eqb e.worker n other) h))
  where
    first : Bool → List E
    first b = map (λ (x : Entry E). x.event) (if b then e ∷ filter (λ (x : Entry E). x.worker == n) J else filter (λ (x : Entry E). x.worker == n) J)

    at : (b : Bool) → b ≡ true → list_all p (first b) ≡ true → (p e.event && list_all p (events_of n J)) ≡ true
    at true is it = it
    at false is it = absurd (false≢true is)

    past : (b : Bool) → b ≡ false → list_all p (first b) ≡ true → list_all p (events_of n J) ≡ true
    past true is it = absurd (false≢true (sym is))
    past false is it = it

events_all : {E : Type 0} (p : E → Bool) (n : ℕ) (J : List (Entry E)) → list_all p (events_of n J) ≡ true → AllByRecursion (λ (e : Entry E). e.worker ≡ n → p e.event ≡ true) J
events_all p n [] h = tt
events_all p n (e ∷ J) h = let both = all_by p n e J h in (both.0, events_all p n J both.1)

okd_launches : (items : List Own) → list_all is_launch items ≡ true → list_all is_okd_launch (filter_map okd_item items) ≡ true
okd_launches [] h = refl
okd_launches (own.Okd e ∷ items) h = let both = and_parts (is_okd_launch e) (list_all is_launch items) h in and_from (is_okd_launch e) (list_all is_okd_launch (filter_map okd_item items)) both.0 (okd_launches items both.1)
okd_launches (own.Proxy p e ∷ items) h = okd_launches items (and_parts (is_launch (own.Proxy p e)) (list_all is_launch items) h).1
okd_launches (own.Pubd e ∷ items) h = okd_launches items (and_parts (is_launch (own.Pubd e)) (list_all is_launch items) h).1
okd_launches (own.Oklogd e ∷ items) h = okd_launches items (and_parts (is_launch (own.Oklogd e)) (list_all is_launch items) h).1
okd_launches (own.Launcher e ∷ items) h = okd_launches items (and_parts (is_launch (own.Launcher e)) (list_all is_launch items) h).1
okd_launches (own.Dialog t ∷ items) h = okd_launches items (and_parts (is_launch (own.Dialog t)) (list_all is_launch items) h).1
okd_launches (own.Missed t wanted is ∷ items) h = okd_launches items (and_parts (is_launch (own.Missed t wanted is)) (list_all is_launch items) h).1
okd_launches (own.NoMemory ∷ items) h = okd_launches items (and_parts (is_launch own.NoMemory) (list_all is_launch items) h).1
okd_launches (own.Boot t k ∷ items) h = okd_launches items (and_parts (is_launch (own.Boot t k)) (list_all is_launch items) h).1
okd_launches (own.Retired t ∷ items) h = okd_launches items (and_parts (is_launch (own.Retired t)) (list_all is_launch items) h).1

launch_accepts : (e : OkdEvent) → is_okd_launch e ≡ true → is_accept e ≡ false
launch_accepts (okd.Up s k) h = refl
launch_accepts (okd.Down s k) h = refl
launch_accepts (okd.Accept path) h = absurd (false≢true h)

all_calm : (n : ℕ) (J : List (Entry OkdEvent)) → AllByRecursion (λ (e : Entry OkdEvent). e.worker ≡ n → is_okd_launch e.event ≡ true) J → AllByRecursion (λ (e : Entry OkdEvent). e.worker ≡ n → is_accept e.event ≡ false) J
all_calm n [] h = tt
all_calm n (e ∷ J) h = (λ is. launch_accepts e.event (h.0 is), all_calm n J h.1)

-- the launcher accepted nothing
pub okd_calm : (n : ℕ) (J : List (Entry OkdEvent)) (items : List Own) → events_of n J ≡ filter_map okd_item items → list_all is_launch items ≡ true → AllByRecursion (λ (e : Entry OkdEvent). e.worker ≡ n → is_accept e.event ≡ false) J
okd_calm n J items own launches = all_calm n J (events_all is_okd_launch n J (subst (λ (es : List OkdEvent). list_all is_okd_launch es ≡ true) (sym own) (okd_launches items launches)))

-- ---- a cell

all_rest : (b : Bool) (item : Own) (items : List Own) → list_all is_launch (if b then item ∷ items else items) ≡ true → list_all is_launch items ≡ true
all_rest true item items h = (and_parts (is_launch item) (list_all is_launch items) h).1
all_rest false item items h = h

all_filtered : (p : Own → Bool) (items : List Own) → list_all is_launch items ≡ true → list_all is_launch (filter p items) ≡ true
all_filtered p [] h = refl
all_filtered p (item ∷ items) h = let both = and_parts (is_launch item) (list_all is_launch items) h in kept (p item) item items both.0 (all_filtered p items both.1)
  where
    kept : (b : Bool) (item : Own) (items : List Own) → is_launch item ≡ true → list_all is_launch (filter p items) ≡ true → list_all is_launch (if b then item ∷ filter p items else filter p items) ≡ true
    kept true item items now later = and_from (is_launch item) (list_all is_launch (filter p items)) now later
    kept false item items now later = later

never_talks : (b : Bool) (item : Own) (items : List Own) → is_launch item ≡ false → b ≡ true → list_all is_launch (if b then item ∷ items else items) ≡ true → ⊥
never_talks true item items none is h = false≢true (sym none ∙ (and_parts (is_launch item) (list_all is_launch items) h).0)
never_talks false item items none is h = false≢true is

cell_calm : (n s : ℕ) (J : List CellEvent) → list_all is_launch (cell_items n n s J) ≡ true → AllByRecursion (λ (e : CellEvent). by_event n e ≡ n → is_talk e ≡ false) J
cell_calm n s [] h = tt
cell_calm n s (cell.Boot k ∷ J) h = (λ is. refl, cell_calm n s J (all_rest (n == n) (own.Boot s k) (cell_items n n s J) h))
cell_calm n s (cell.Retired ∷ J) h = (λ is. refl, cell_calm n s J (all_rest (n == n) (own.Retired s) (cell_items n n s J) h))
cell_calm n s (cell.Missed v wanted is ∷ J) h = (
  λ same. absurd (never_talks (v == n) (own.Missed s wanted is) (cell_items n n s J) refl (eq-eqb v n same) h),
  cell_calm n s J (all_rest (v == n) (own.Missed s wanted is) (cell_items n n s J) h),
)
cell_calm n s (cell.Dialog d ∷ J) h = (
  λ same. absurd (never_talks (d.worker == n) (own.Dialog s) (cell_items n n s J) refl (eq-eqb d.worker n same) h),
  cell_calm n s J (all_rest (d.worker == n) (own.Dialog s) (cell_items n n s J) h),
)
cell_calm n s (cell.Speaking v items ∷ J) h = (
  λ same. absurd (never_talks (v == n) (own.Dialog s) (cell_items n n s J) refl (eq-eqb v n same) h),
  cell_calm n s J (all_rest (v == n) (own.Dialog s) (cell_items n n s J) h),
)

-- the launcher talked to nobody
pub cells_calm : (n s : ℕ) (J : List CellEvent) (items : List Own) → cell_items n n s J ≡ filter (is_at_cell s) items → list_all is_launch items ≡ true → AllByRecursion (λ (e : CellEvent). by_event n e ≡ n → is_talk e ≡ false) J
cells_calm n s J items own launches = cell_calm n s J (subst (λ (xs : List Own). list_all is_launch xs ≡ true) (sym own) (all_filtered (is_at_cell s) items launches))

-- ---- the first launches

each_both : (P : Came → Type 0) (xs ys : List Came) → Each P xs → Each P ys → Each P (xs ++ ys)
each_both P [] ys h i = i
each_both P (x ∷ xs) ys h i = (h.0, each_both P xs ys h.1 i)

this_came : (P : Came → Type 0) (b : Bool) (c : Came) → (b ≡ true → P c) → Each P (if b then c ∷ [] else [])
this_came P true c h = (h refl, tt)
this_came P false c h = tt

pub each_came : (P : Came → Type 0) (os : List Opening) → ((s k : ℕ) → ups_of os s k ≡ true → P (record { service = s; incarnation = k })) → Each P (came_in os)
each_came P [] h = tt
each_came P (o ∷ os) h =
    let s = length os in
    let k = o.failed + 1 in
    each_both P (came_in os) (if is_up o.outcome then record { service = s; incarnation = k } ∷ [] else [])
    (each_came P os (λ t j up. h t j (or_right (is_up o.outcome && ((s == t) && (k == j))) (ups_of os t j) up)))
    (this_came P (is_up o.outcome) (record { service = s; incarnation = k })
    (λ up. h s k (or_left (is_up o.outcome && ((s == s) && (k == k))) (ups_of os s k) (and_from (is_up o.outcome) ((s == s) && (k == k)) up (and_from (s == s) (k == k) (eq-eqb s s refl) (eq-eqb k k refl))))))
