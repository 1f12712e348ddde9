-- What the launcher finds at a cell stays what it found, while others go on there.
use Rattle.std.proofs.Common.{◌≡◌, ◌≢◌, ◌∙◌, ⊎_elim, ℕ, zero, suc, ◌+◌, ◌<◌, ◌≤◌, Bool, true, false, cond, List, [], ◌∷◌, ◌++◌, Option, Some, None, length, refl, sym, ap, subst, arith, eq-eqb, ne_eqb}
use Rattle.std.specs.Prelude.{◌==◌, if◌then◌else◌, filter, count_by, nat_le, nat_lt, take}
use Rattle.std.proofs.lemmas.Bool.{cases_lt, le-leb, lt-leb, leb-true, eqb-true, false≢true}
use Rattle.std.proofs.lemmas.List.{append_assoc}
use Rattle.std.proofs.lemmas.List.Sums.{sum_by-cons, sum_by-append}
use Rattle.okws_base.specs.Turns.{Behind}
use Rattle.okws_plan.specs.Configuration.{cols}
use Rattle.okws_plan.specs.declared.configuration.Config.{Config}
use Rattle.okws_plan.specs.declared.script.Place.{Place}
use Rattle.okws_plan.specs.declared.event.OkdEvent.TheVariants as okd
use Rattle.monitor_model.specs.declared.record.CellEvent.{CellEvent}
use Rattle.monitor_model.specs.declared.record.CellEvent.TheVariants as cell
use Rattle.monitor_model.specs.declared.record.End.{End}
use Rattle.monitor_model.specs.declared.record.End.TheVariants as end
use Rattle.monitor_model.specs.declared.record.Own.{Own}
use Rattle.monitor_model.specs.declared.record.Own.TheVariants as own
use Rattle.monitor_model.specs.declared.record.Record.{Record}
use Rattle.monitor_model.specs.Cell.{incarnation, after_end}
use Rattle.monitor_model.specs.Launches.{with_standing, with_down, with_revokes_from, with_revoke_pubd, with_revokes, is_launch_event, is_launch_at, until_launch, found_at, with_retired, with_cleared, install_at, with_installs, with_boot_if, with_piece, all_pieces, Fate, CameUp, Failed, BrokeOff, Attempt}
use Rattle.monitor_model.specs.Merged.{is_at_cell, cell_items, cell_past}
use Rattle.launch_crew.specs.Listed.{stepped}

-- ---- counts

pub counted_cons : {X : Type 0} (p : X → Bool) (x : X) (xs : List X) → count_by p (x ∷ xs) ≡ cond (p x) 1 0 + count_by p xs
counted_cons p x xs = sum_by-cons (λ y. cond (p y) 1 0) x xs

pub counted_append : {X : Type 0} (p : X → Bool) (xs ys : List X) → count_by p (xs ++ ys) ≡ count_by p xs + count_by p ys
counted_append p xs ys = sum_by-append (λ y. cond (p y) 1 0) xs ys

nothing_more : (n : ℕ) → 0 + n ≡ n
nothing_more n = omega arith

pub counted_not : {X : Type 0} (p : X → Bool) (x : X) (xs : List X) → p x ≡ false → count_by p (x ∷ xs) ≡ count_by p xs
counted_not p x xs off = counted_cons p x xs ∙ (ap (λ b. cond b 1 0 + count_by p xs) off ∙ nothing_more (count_by p xs))

pub counted_one : {X : Type 0} (p : X → Bool) (x : X) (xs : List X) → p x ≡ true → count_by p (x ∷ xs) ≡ 1 + count_by p xs
counted_one p x xs on = counted_cons p x xs ∙ ap (λ b. cond b 1 0 + count_by p xs) on

pub counted_less : {X : Type 0} (p : X → Bool) (x : X) (xs : List X) → count_by p xs ≤ count_by p (x ∷ xs)
counted_less p x xs = omega (arith, counted_cons p x xs)

pub counted_behind : {X : Type 0} (p : X → Bool) (xs ys : List X) → Behind xs ys → count_by p xs ≤ count_by p ys
counted_behind p xs ys h = subst (λ zs. count_by p xs ≤ count_by p zs) (sym h.1) (omega (arith, counted_append p h.0 xs))

-- ---- the launcher's events of a cell are as many as its items there

not_more : (s : ℕ) (b : Bool) (item : Own) (items : List Own) → is_launch_at s item ≡ false → count_by (is_launch_at s) (if b then item ∷ items else items) ≡ count_by (is_launch_at s) items
not_more s true item items off = counted_not (is_launch_at s) item items off
not_more s false item items off = refl

one_more : (s : ℕ) (b : Bool) (item : Own) (items : List Own) → b ≡ true → is_launch_at s item ≡ true → count_by (is_launch_at s) (if b then item ∷ items else items) ≡ 1 + count_by (is_launch_at s) items
one_more s b item items here on = ap (λ x. count_by (is_launch_at s) (if x then item ∷ items else items)) here ∙ counted_one (is_launch_at s) item items on

cell_counts : (n s : ℕ) (J : List CellEvent) → count_by (is_launch_at s) (cell_items n n s J) ≡ count_by is_launch_event J
cell_counts n s [] = refl
cell_counts n s (cell.Boot k ∷ J) = one_more s (n == n) (own.Boot s k) (cell_items n n s J) (eq-eqb n n refl) (eq-eqb s s refl) ∙ (ap (λ m. 1 + m) (cell_counts n s J) ∙ sym (counted_one is_launch_event (cell.Boot k) J refl))
cell_counts n s (cell.Retired ∷ J) = one_more s (n == n) (own.Retired s) (cell_items n n s J) (eq-eqb n n refl) (eq-eqb s s refl) ∙ (ap (λ m. 1 + m) (cell_counts n s J) ∙ sym (counted_one is_launch_event cell.Retired J refl))
cell_counts n s (cell.Missed v wanted is ∷ J) = not_more s (v == n) (own.Missed s wanted is) (cell_items n n s J) refl ∙ (cell_counts n s J ∙ sym (counted_not is_launch_event (cell.Missed v wanted is) J refl))
cell_counts n s (cell.Dialog d ∷ J) = not_more s (d.worker == n) (own.Dialog s) (cell_items n n s J) refl ∙ (cell_counts n s J ∙ sym (counted_not is_launch_event (cell.Dialog d) J refl))
cell_counts n s (cell.Speaking v spoken ∷ J) = not_more s (v == n) (own.Dialog s) (cell_items n n s J) refl ∙ (cell_counts n s J ∙ sym (counted_not is_launch_event (cell.Speaking v spoken) J refl))

module _ {X : Type 0} (p q : X → Bool) where
  filtered_one : (x : X) (xs : List X) (b d : Bool) → p x ≡ b → q x ≡ d → (p x ≡ true → q x ≡ true) → count_by p (filter q xs) ≡ count_by p xs → count_by p (filter q (x ∷ xs)) ≡ count_by p (x ∷ xs)
  filtered_one x xs b true pb qd h before = ap (λ e. count_by p (cond e (x ∷ filter q xs) (filter q xs))) qd ∙ (counted_cons p x (filter q xs) ∙ (ap (λ m. cond (p x) 1 0 + m) before ∙ sym (counted_cons p x xs)))
  filtered_one x xs true false pb qd h before = absurd (false≢true (sym qd ∙ h pb))
  filtered_one x xs false false pb qd h before = ap (λ e. count_by p (cond e (x ∷ filter q xs) (filter q xs))) qd ∙ (before ∙ sym (counted_not p x xs pb))

  filtered : ((x : X) → p x ≡ true → q x ≡ true) → (xs : List X) → count_by p (filter q xs) ≡ count_by p xs
  filtered h [] = refl
  filtered h (x ∷ xs) = filtered_one x xs (p x) (q x) refl refl (h x) (filtered h xs)

launch_at_cell : (s : ℕ) (item : Own) → is_launch_at s item ≡ true → is_at_cell s item ≡ true
launch_at_cell s (own.Okd e) h = absurd (false≢true h)
launch_at_cell s (own.Proxy p e) h = absurd (false≢true h)
launch_at_cell s (own.Pubd e) h = absurd (false≢true h)
launch_at_cell s (own.Oklogd e) h = absurd (false≢true h)
launch_at_cell s (own.Launcher e) h = absurd (false≢true h)
launch_at_cell s (own.Dialog t) h = absurd (false≢true h)
launch_at_cell s (own.Missed t wanted is) h = absurd (false≢true h)
launch_at_cell s own.NoMemory h = absurd (false≢true h)
launch_at_cell s (own.Boot t k) h = h
launch_at_cell s (own.Retired t) h = h

pub launches_counted : (n s : ℕ) (J : List CellEvent) (items : List Own) → cell_items n n s J ≡ filter (is_at_cell s) items → count_by (is_launch_at s) items ≡ count_by is_launch_event J
launches_counted n s J items is = sym (filtered (is_launch_at s) (is_at_cell s) (launch_at_cell s) items) ∙ (ap (count_by (is_launch_at s)) (sym is) ∙ cell_counts n s J)

-- ---- a cell up to the launcher's next event

launched : List CellEvent → ℕ
launched J = count_by is_launch_event J

pub until_all : (n : ℕ) (J : List CellEvent) → count_by is_launch_event J ≤ n → until_launch n J ≡ J
until_all n [] h = refl
until_all n (e ∷ J) h = ap (λ b. if b then e ∷ J else until_launch n J) (le-leb (count_by is_launch_event (e ∷ J)) n h)

pub until_less : (n : ℕ) (e : CellEvent) (J : List CellEvent) → n < count_by is_launch_event (e ∷ J) → until_launch n (e ∷ J) ≡ until_launch n J
until_less n e J h = ap (λ b. if b then e ∷ J else until_launch n J) (lt-leb (count_by is_launch_event (e ∷ J)) n h)

above : (n a b c d : ℕ) → n < a → b ≡ c + a → b ≤ d → n < d
above n a b c d h is less = omega (arith, h, is, less)

until_skip : (n : ℕ) (more J : List CellEvent) → n < count_by is_launch_event J → until_launch n (more ++ J) ≡ until_launch n J
until_skip n [] J h = refl
until_skip n (e ∷ more) J h = until_less n e (more ++ J)
    (above n (count_by is_launch_event J) (count_by is_launch_event (more ++ J)) (count_by is_launch_event more) (count_by is_launch_event (e ∷ (more ++ J))) h (counted_append is_launch_event more J) (counted_less is_launch_event e (more ++ J)))
    ∙ until_skip n more J h

left_empty : (how : End) → after_end how 0 ≡ 0
left_empty end.Reply = refl
left_empty (end.Superseded shown) = refl
left_empty end.BadFrame = refl
left_empty end.Ended = refl
left_empty end.LinkFault = refl
left_empty end.FrameLimit = refl
left_empty end.Starved = refl

some_none : (n : ℕ) → 1 + n ≡ 0 → ⊥
some_none n h = omega (arith, h)

others_none : (more J : List CellEvent) → count_by is_launch_event more ≡ 0 → incarnation J ≡ 0 → incarnation (more ++ J) ≡ 0
others_none [] J none z = z
others_none (cell.Boot k ∷ more) J none z = absurd (some_none (count_by is_launch_event more) (sym (counted_one is_launch_event (cell.Boot k) more refl) ∙ none))
others_none (cell.Retired ∷ more) J none z = refl
others_none (cell.Missed v wanted is ∷ more) J none z = others_none more J (sym (counted_not is_launch_event (cell.Missed v wanted is) more refl) ∙ none) z
others_none (cell.Dialog d ∷ more) J none z = ap (after_end d.end) (others_none more J (sym (counted_not is_launch_event (cell.Dialog d) more refl) ∙ none) z) ∙ left_empty d.end
others_none (cell.Speaking v spoken ∷ more) J none z = others_none more J (sym (counted_not is_launch_event (cell.Speaking v spoken) more refl) ∙ none) z

no_more : (n a b c : ℕ) → b ≡ c + a → b ≤ n → a ≡ n → c ≡ 0
no_more n a b c is less here = omega (arith, is, less, here)

not_over : (n a : ℕ) → a ≡ n → a ≤ n
not_over n a is = omega (arith, is)

-- it is known whether the next event is there
module _ (n : ℕ) (e : CellEvent) (more J : List CellEvent) (here : count_by is_launch_event J ≡ n) (z : incarnation J ≡ 0) where
  none_by : (b : Bool) → nat_le (count_by is_launch_event (e ∷ (more ++ J))) n ≡ b → incarnation (until_launch n (more ++ J)) ≡ 0 → incarnation (until_launch n (e ∷ (more ++ J))) ≡ 0
  none_by true is before =
      let within : count_by is_launch_event ((e ∷ more) ++ J) ≤ n = leb-true (count_by is_launch_event (e ∷ (more ++ J))) n is in
      ap (λ b. incarnation (if b then e ∷ (more ++ J) else until_launch n (more ++ J))) is
      ∙ others_none (e ∷ more) J (no_more n (count_by is_launch_event J) (count_by is_launch_event ((e ∷ more) ++ J)) (count_by is_launch_event (e ∷ more)) (counted_append is_launch_event (e ∷ more) J) within here) z
  none_by false is before = ap (λ b. incarnation (if b then e ∷ (more ++ J) else until_launch n (more ++ J))) is ∙ before

until_none : (n : ℕ) (more J : List CellEvent) → count_by is_launch_event J ≡ n → incarnation J ≡ 0 → incarnation (until_launch n (more ++ J)) ≡ 0
until_none n [] J here z = ap incarnation (until_all n J (not_over n (count_by is_launch_event J) here)) ∙ z
until_none n (e ∷ more) J here z = none_by n e more J here z (nat_le (count_by is_launch_event (e ∷ (more ++ J))) n) refl (until_none n more J here z)

-- ---- of two records the cells of one went on in the other

abbrev pub Goes : Record → Record → Type 0
Goes R S = (s : ℕ) → Behind (cell_past R s) (cell_past S s)

-- the launcher has made these items at each cell, or more
abbrev pub Within : Record → List Own → Type 0
Within R items = (t : ℕ) → count_by (is_launch_at t) items ≤ count_by is_launch_event (cell_past R t)

both : (a b : ℕ) → b ≤ a → a ≤ b → b ≡ a
both a b x y = omega (arith, x, y)

pub found_none : (R S : Record) (s : ℕ) (items : List Own) → Behind (cell_past R s) (cell_past S s) → count_by (is_launch_at s) items ≤ count_by is_launch_event (cell_past R s) → found_at R s items ≡ 0 → found_at S s items ≡ 0
found_none R S s items goes within z =
    let n = count_by (is_launch_at s) items in
    let J = cell_past R s in
    subst (λ K. incarnation (until_launch n K) ≡ 0) (sym goes.1) (⊎_elim
    (λ less. ap incarnation (until_skip n goes.0 J less) ∙ z)
    (λ least. until_none n goes.0 J (both n (count_by is_launch_event J) least within) (sym (ap incarnation (until_all n J least)) ∙ z))
    (cases_lt n (count_by is_launch_event J)))

pub found_same : (R S : Record) (s : ℕ) (items : List Own) → Behind (cell_past R s) (cell_past S s) → count_by (is_launch_at s) items < count_by is_launch_event (cell_past R s) → found_at S s items ≡ found_at R s items
found_same R S s items goes less = subst (λ K. incarnation (until_launch (count_by (is_launch_at s) items) K) ≡ found_at R s items) (sym goes.1) (ap incarnation (until_skip (count_by (is_launch_at s) items) goes.0 (cell_past R s) less))

one_above : (a b c : ℕ) → b ≡ 1 + a → b ≤ c → a < c
one_above a b c is within = omega (arith, is, within)

module _ (R S : Record) (s : ℕ) (items : List Own) (goes : Behind (cell_past R s) (cell_past S s)) where
  retired_by : (b : Bool) → (found_at R s items == 0) ≡ b → count_by (is_launch_at s) (if b then items else own.Retired s ∷ items) ≤ count_by is_launch_event (cell_past R s) → (if found_at S s items == 0 then items else own.Retired s ∷ items) ≡ (if b then items else own.Retired s ∷ items)
  retired_by true is within = ap (λ b. if b then items else own.Retired s ∷ items) (eq-eqb (found_at S s items) 0 (found_none R S s items goes within (eqb-true (found_at R s items) 0 is)))
  retired_by false is within =
      let less = one_above (count_by (is_launch_at s) items) (count_by (is_launch_at s) (own.Retired s ∷ items)) (count_by is_launch_event (cell_past R s)) (counted_one (is_launch_at s) (own.Retired s) items (eq-eqb s s refl)) within in
      ap (λ k. if k == 0 then items else own.Retired s ∷ items) (found_same R S s items goes less) ∙ ap (λ b. if b then items else own.Retired s ∷ items) is

  pub retired_stays : Within R (with_retired R s items) → with_retired S s items ≡ with_retired R s items
  retired_stays within = retired_by (found_at R s items == 0) refl (within s)

-- ---- each step leaves what was there

pub behind_same : {A : Type 0} (xs : List A) → Behind xs xs
behind_same xs = ([], refl)

pub behind_cons : {A : Type 0} (x : A) (xs ys : List A) → Behind xs ys → Behind xs (x ∷ ys)
behind_cons x xs ys h = (x ∷ h.0, ap (λ zs. x ∷ zs) h.1)

pub behind_on : {A : Type 0} (xs ys zs : List A) → Behind xs ys → Behind ys zs → Behind xs zs
behind_on xs ys zs h g = (g.0 ++ h.0, g.1 ∙ (ap (λ l. g.0 ++ l) h.1 ∙ sym (append_assoc g.0 h.0 xs)))

behind_standing : (item : ℕ → Own) (o : Option ℕ) (items : List Own) → Behind items (with_standing item o items)
behind_standing item None items = behind_same items
behind_standing item (Some k) items = behind_cons (item k) items items (behind_same items)

pub behind_down : (s : ℕ) (items : List Own) → Behind items (with_down s items)
behind_down s items = behind_standing _ _ items

behind_revokes_from : (s p n : ℕ) (items : List Own) → Behind items (with_revokes_from s p n items)
behind_revokes_from s p zero items = behind_same items
behind_revokes_from s p (suc n) items = behind_on items _ (with_revokes_from s p (suc n) items) (behind_standing _ _ items) (behind_revokes_from s (suc p) n _)

pub behind_revokes : (C : Config) (s : ℕ) (items : List Own) → Behind items (with_revokes C s items)
behind_revokes C s items =
    let a = with_revokes_from s 0 (length C.proxies) items in
    let b = with_revoke_pubd s a in
    behind_on items a (with_revokes C s items) (behind_revokes_from s 0 (length C.proxies) items) (behind_on a b (with_revokes C s items) (behind_standing _ _ a) (behind_standing _ _ b))

behind_if : (b : Bool) (s : ℕ) (items : List Own) → Behind items (if b then items else own.Retired s ∷ items)
behind_if true s items = behind_same items
behind_if false s items = behind_cons (own.Retired s) items items (behind_same items)

pub behind_retired : (R : Record) (s : ℕ) (items : List Own) → Behind items (with_retired R s items)
behind_retired R s items = behind_if (found_at R s items == 0) s items

pub behind_cleared : (C : Config) (R : Record) (s : ℕ) (items : List Own) → Behind items (with_cleared C R s items)
behind_cleared C R s items =
    let a = with_down s items in
    let b = with_revokes C s a in
    behind_on items a (with_cleared C R s items) (behind_down s items) (behind_on a b (with_cleared C R s items) (behind_revokes C s a) (behind_retired R s b))

pub behind_installs : (seed : List ℕ) (s k : ℕ) (places : List Place) (items : List Own) → Behind items (with_installs seed s k places items)
behind_installs seed s k [] items = behind_same items
behind_installs seed s k (at ∷ places) items =
    behind_on items (install_at seed s k at ∷ items) (with_installs seed s k (at ∷ places) items) (behind_cons (install_at seed s k at) items items (behind_same items)) (behind_installs seed s k places (install_at seed s k at ∷ items))

behind_boot_if : (b : Bool) (s k : ℕ) (items : List Own) → Behind items (with_boot_if b s k items)
behind_boot_if true s k items = behind_cons (own.Boot s k) items items (behind_same items)
behind_boot_if false s k items = behind_same items

cleared_stepped : (C : Config) (seed : List ℕ) (R : Record) (s k n : ℕ) (items : List Own) → Behind (with_cleared C R s items) (stepped C seed R s k n items)
cleared_stepped C seed R s k n items =
    let a = with_cleared C R s items in
    let b = with_installs seed s k (take n (cols C s)) a in
    behind_on a b (stepped C seed R s k n items) (behind_installs seed s k (take n (cols C s)) a) (behind_boot_if (nat_lt (length (cols C s)) n) s k b)

cleared_piece : (C : Config) (seed : List ℕ) (R : Record) (s k : ℕ) (fate : Fate) (items : List Own) → Behind (with_cleared C R s items) (with_piece C seed R s k fate items)
cleared_piece C seed R s k CameUp items =
    let a = with_cleared C R s items in
    let b = with_installs seed s k (cols C s) a in
    behind_cons (own.Okd (okd.Up s k)) a (own.Boot s k ∷ b) (behind_cons (own.Boot s k) a b (behind_installs seed s k (cols C s) a))
cleared_piece C seed R s k Failed items = behind_installs seed s k (cols C s) (with_cleared C R s items)
cleared_piece C seed R s k (BrokeOff n) items =
    behind_on (with_cleared C R s items) (stepped C seed R s k n items) (with_piece C seed R s k (BrokeOff n) items) (cleared_stepped C seed R s k n items) (behind_revokes C s (stepped C seed R s k n items))

-- ---- a list that was made stays what it is, while others go on

within_less : (R : Record) (xs ys : List Own) → Behind xs ys → Within R ys → Within R xs
within_less R xs ys h within t = omega (arith, counted_behind (is_launch_at t) xs ys h, within t)

module _ (C : Config) (seed : List ℕ) (R S : Record) (goes : Goes R S) where
  cleared_stays : (s : ℕ) (items : List Own) → Within R (with_cleared C R s items) → with_cleared C S s items ≡ with_cleared C R s items
  cleared_stays s items within = retired_stays R S s (with_revokes C s (with_down s items)) (goes s) within

  pub stepped_stays : (s k n : ℕ) (items : List Own) → Within R (stepped C seed R s k n items) → stepped C seed S s k n items ≡ stepped C seed R s k n items
  stepped_stays s k n items within = ap (λ (xs : List Own). with_boot_if (nat_lt (length (cols C s)) n) s k (with_installs seed s k (take n (cols C s)) xs))
      (cleared_stays s items (within_less R (with_cleared C R s items) (stepped C seed R s k n items) (cleared_stepped C seed R s k n items) within))

  piece_stays : (s k : ℕ) (fate : Fate) (items : List Own) → Within R (with_piece C seed R s k fate items) → with_piece C seed S s k fate items ≡ with_piece C seed R s k fate items
  piece_stays s k CameUp items within = ap (λ (xs : List Own). own.Okd (okd.Up s k) ∷ own.Boot s k ∷ with_installs seed s k (cols C s) xs)
      (cleared_stays s items (within_less R (with_cleared C R s items) (with_piece C seed R s k CameUp items) (cleared_piece C seed R s k CameUp items) within))
  piece_stays s k Failed items within = ap (λ (xs : List Own). with_installs seed s k (cols C s) xs)
      (cleared_stays s items (within_less R (with_cleared C R s items) (with_piece C seed R s k Failed items) (cleared_piece C seed R s k Failed items) within))
  piece_stays s k (BrokeOff n) items within = ap (λ (xs : List Own). with_revokes C s (with_boot_if (nat_lt (length (cols C s)) n) s k (with_installs seed s k (take n (cols C s)) xs)))
      (cleared_stays s items (within_less R (with_cleared C R s items) (with_piece C seed R s k (BrokeOff n) items) (cleared_piece C seed R s k (BrokeOff n) items) within))

  pub pieces_stay : (made : List Attempt) (fates : List Fate) → Within R (all_pieces C seed R made fates) → all_pieces C seed S made fates ≡ all_pieces C seed R made fates
  pieces_stay [] fates within = refl
  pieces_stay (a ∷ more) [] within = refl
  pieces_stay (a ∷ more) (fate ∷ fates) within =
      let items = all_pieces C seed R more fates in
      let before = behind_on items (with_cleared C R a.service items) (with_piece C seed R a.service a.incarnation fate items) (behind_cleared C R a.service items) (cleared_piece C seed R a.service a.incarnation fate items) in
      ap (λ (xs : List Own). with_piece C seed S a.service a.incarnation fate xs) (pieces_stay more fates (within_less R items (with_piece C seed R a.service a.incarnation fate items) before within))
      ∙ piece_stays a.service a.incarnation fate items within

  -- and what was stepped on it
  pub stepped_all_stays : (s k n : ℕ) (made : List Attempt) (fates : List Fate) → Within R (stepped C seed R s k n (all_pieces C seed R made fates)) → stepped C seed S s k n (all_pieces C seed S made fates) ≡ stepped C seed R s k n (all_pieces C seed R made fates)
  stepped_all_stays s k n made fates within =
      let items = all_pieces C seed R made fates in
      let before = behind_on items (with_cleared C R s items) (stepped C seed R s k n items) (behind_cleared C R s items) (cleared_stepped C seed R s k n items) in
      ap (λ (xs : List Own). stepped C seed S s k n xs) (pieces_stay made fates (within_less R items (stepped C seed R s k n items) before within)) ∙ stepped_stays s k n items within

-- ---- what a number leaves at a cell that it retires, by what it had seen there at last

module _ (R : Record) (s : ℕ) (items : List Own) (J : List CellEvent) (counted : count_by (is_launch_at s) items ≡ count_by is_launch_event J) where
  pub found_empty : cell_past R s ≡ J → incarnation J ≡ 0 → with_retired R s items ≡ items
  found_empty now none =
      let n = count_by (is_launch_at s) items in
      let found : found_at R s items ≡ 0 = ap (λ K. incarnation (until_launch n K)) now ∙ (ap incarnation (until_all n J (not_over n (count_by is_launch_event J) (sym counted))) ∙ none) in
      ap (λ b. if b then items else own.Retired s ∷ items) (eq-eqb (found_at R s items) 0 found)

  pub found_there : cell_past R s ≡ cell.Retired ∷ J → incarnation J ≢ 0 → with_retired R s items ≡ own.Retired s ∷ items
  found_there now some =
      let n = count_by (is_launch_at s) items in
      let less = one_above n (count_by is_launch_event (cell.Retired ∷ J)) (count_by is_launch_event (cell.Retired ∷ J)) (counted_one is_launch_event cell.Retired J refl ∙ ap (λ m. 1 + m) (sym counted)) (not_over (count_by is_launch_event (cell.Retired ∷ J)) (count_by is_launch_event (cell.Retired ∷ J)) refl) in
      let found : found_at R s items ≡ incarnation J = ap (λ K. incarnation (until_launch n K)) now ∙ (ap incarnation (until_less n cell.Retired J less) ∙ ap incarnation (until_all n J (not_over n (count_by is_launch_event J) (sym counted)))) in
      ap (λ b. if b then items else own.Retired s ∷ items) (ne_eqb (found_at R s items) 0 (λ e. some (sym found ∙ e)))
