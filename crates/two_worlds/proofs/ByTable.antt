-- A right at each table that it reads: a join has one at both of its tables.
use Rattle.std.proofs.Common.{◌≡◌, ℕ, zero, suc, ◌-◌, ◌+◌, ◌<◌, ◌≤◌, Bool, true, false, not, ◌&&◌, ◌||◌, cond, List, [], ◌∷◌, ◌++◌, map, length, Option, Some, None, refl, sym, ap, ◌∙◌, ◌⊎◌, inl, inr, arith, ⊎_elim}
use Rattle.std.specs.Prelude.{◌==◌, nat_lt, slice_get}
use Rattle.std.specs.List.{filter, list_all}
use Rattle.std.proofs.lemmas.Bool.{true≢false, false≢true, and_parts, and_from, or_cases, or_left, or_right, eqb-true, eq-eqb, lt-ltb, ltb-true}
use Rattle.std.proofs.lemmas.List.{length-append}
use Rattle.okws_base.specs.declared.value.Kind.{Kind}
use Rattle.okws_base.specs.declared.value.Value.{Value}
use Rattle.okws_plan.specs.Rules.{order_fits, condition_fits, fits_column, selection_fits, are_of_kind, join_of}
use Rattle.okws_plan.specs.declared.configuration.Column.{Column}
use Rattle.okws_plan.specs.declared.configuration.Table.{Table}
use Rattle.okws_plan.specs.declared.statement.Condition.{Condition}
use Rattle.okws_plan.specs.declared.statement.Join.{Join}
use Rattle.okws_plan.specs.declared.statement.Selection.{Selection}
use Rattle.okws_plan.specs.declared.statement.Action.{Action}
use Rattle.okws_plan.specs.declared.statement.Action.TheVariants.{Select, Insert, Update, Delete}
use Rattle.two_worlds.specs.View.{Right, has, tests, is_shown, shown_columns, unnumbered_join, unnumbered, first_columns, second_columns, first_conditions, second_conditions, ordering, joined_mentions, first_read, second_read, read_rights, rights_by_table, by_table}
use Rattle.two_worlds.proofs.Seeing as seeing
use Rattle.two_worlds.proofs.Seeing.{RightsFit, Holds, mentions_fit, has_filter}
use Rattle.two_worlds.proofs.Joining.{first_met, second_met, not_below, Seen, HitsSeen}

-- a right that joins no table is at its own alone

plain_by_table : (r : Right) (a : Action) → join_of a ≡ None → rights_by_table r a ≡ r ∷ []
plain_by_table r (Select s) h = ap (λ (o : Option Join). read_rights r o s) h
plain_by_table r (Insert values) h = refl
plain_by_table r (Update assignments conditions) h = refl
plain_by_table r (Delete conditions) h = refl

pub unnumbered_plain : (a : Action) → join_of a ≡ None → unnumbered a ≡ a
unnumbered_plain (Select s) h = λ i. Select (record s { join = (ap unnumbered_join h ∙ sym h) i })
unnumbered_plain (Insert values) h = refl
unnumbered_plain (Update assignments conditions) h = refl
unnumbered_plain (Delete conditions) h = refl

pub joins_unnumbered : (a : Action) → join_of (unnumbered a) ≡ unnumbered_join (join_of a)
joins_unnumbered (Select s) = refl
joins_unnumbered (Insert values) = refl
joins_unnumbered (Update assignments conditions) = refl
joins_unnumbered (Delete conditions) = refl

pub by_one : (r : Right) → join_of r.action ≡ None → by_table r ≡ r ∷ []
by_one r h = plain_by_table r r.action h

-- a right that joins a table is at both

abbrev pub first_right : Right → Join → Selection → Right
first_right r join s = record { number = r.number; table = r.table; columns = r.columns; second = []; others = []; parameters = r.parameters; action = Select (first_read (length r.columns) join s) }

abbrev pub second_right : Right → Join → Selection → Right
second_right r join s = record { number = r.number; table = r.second; columns = r.others; second = []; others = []; parameters = r.parameters; action = Select (second_read (length r.columns) join s) }

-- the action of a join
pub record Selecting (a : Action) (join : Join) : Type 0 where
  pub selection : Selection
  pub is : a ≡ Select selection
  pub joins : selection.join ≡ Some join

pub selecting : (a : Action) (join : Join) → join_of a ≡ Some join → Selecting a join
selecting (Select s) join h = record { selection = s; is = refl; joins = h }
selecting (Insert values) join h = absurd (let no : None ≡ Some join = h in cc)
selecting (Update assignments conditions) join h = absurd (let no : None ≡ Some join = h in cc)
selecting (Delete conditions) join h = absurd (let no : None ≡ Some join = h in cc)

-- the right of an action that joins, at both tables
pub by_both : (r : Right) (a : Action) (join : Join) (x : Selecting a join) → r.action ≡ unnumbered a → by_table r ≡ first_right r join x.selection ∷ second_right r join x.selection ∷ []
by_both r a join x is =
    ap (rights_by_table r) (is ∙ ap unnumbered x.is)
    ∙ ap (λ (o : Option Join). read_rights r (unnumbered_join o) (record x.selection { join = unnumbered_join o })) x.joins

-- what a join reads of each table are columns of it

low_listed : (n : ℕ) (cs : List ℕ) → list_all (λ (c : ℕ). nat_lt c n) (first_columns n cs) ≡ true
low_listed n [] = refl
low_listed n (c ∷ cs) = by (nat_lt c n) refl (low_listed n cs)
  where
    by : (b : Bool) → nat_lt c n ≡ b → list_all (λ (d : ℕ). nat_lt d n) (first_columns n cs) ≡ true → list_all (λ (d : ℕ). nat_lt d n) (cond b (c ∷ first_columns n cs) (first_columns n cs)) ≡ true
    by true e more = rw e more
    by false e more = more

low_tested : (n : ℕ) (xs : List Condition) → list_all (λ (x : Condition). nat_lt x.column n) (first_conditions n xs) ≡ true
low_tested n [] = refl
low_tested n (x ∷ xs) = by (nat_lt x.column n) refl (low_tested n xs)
  where
    by : (b : Bool) → nat_lt x.column n ≡ b → list_all (λ (y : Condition). nat_lt y.column n) (first_conditions n xs) ≡ true
        → list_all (λ (y : Condition). nat_lt y.column n) (cond b (x ∷ first_conditions n xs) (first_conditions n xs)) ≡ true
    by true e more = rw e more
    by false e more = more

pub first_fits : (columns : List Column) (join : Join) (s : Selection) → mentions_fit columns (Select (first_read (length columns) join s)) ≡ true
first_fits columns join s = and_from _ _ (low_listed (length columns) (joined_mentions join s)) (low_tested (length columns) s.conditions)

high_listed : (n m : ℕ) (cs : List ℕ) → list_all (λ (c : ℕ). nat_lt c (n + m)) cs ≡ true → list_all (λ (c : ℕ). nat_lt c m) (second_columns n cs) ≡ true
high_listed n m [] h = refl
high_listed n m (c ∷ cs) h = by (nat_lt c n) refl (high_listed n m cs both.1)
  where
    both : (nat_lt c (n + m) ≡ true) × (list_all (λ (c : ℕ). nat_lt c (n + m)) cs ≡ true)
    both = and_parts (nat_lt c (n + m)) (list_all (λ (c : ℕ). nat_lt c (n + m)) cs) h

    by : (b : Bool) → nat_lt c n ≡ b → list_all (λ (d : ℕ). nat_lt d m) (second_columns n cs) ≡ true
        → list_all (λ (d : ℕ). nat_lt d m) (map (λ (d : ℕ). d - n) (cond (not b) (c ∷ filter (λ (d : ℕ). not (nat_lt d n)) cs) (filter (λ (d : ℕ). not (nat_lt d n)) cs))) ≡ true
    by true e more = more
    by false e more =
        let high : n ≤ c = not_below c n e in
        let low : c < n + m = ltb-true c (n + m) both.0 in
        rw (lt-ltb (c - n) m (omega (arith, high, low))) more

high_tested : (n m : ℕ) (xs : List Condition) → list_all (λ (x : Condition). nat_lt x.column (n + m)) xs ≡ true → list_all (λ (x : Condition). nat_lt x.column m) (second_conditions n xs) ≡ true
high_tested n m [] h = refl
high_tested n m (x ∷ xs) h = by (nat_lt x.column n) refl (high_tested n m xs both.1)
  where
    both : (nat_lt x.column (n + m) ≡ true) × (list_all (λ (y : Condition). nat_lt y.column (n + m)) xs ≡ true)
    both = and_parts (nat_lt x.column (n + m)) (list_all (λ (y : Condition). nat_lt y.column (n + m)) xs) h

    by : (b : Bool) → nat_lt x.column n ≡ b → list_all (λ (y : Condition). nat_lt y.column m) (second_conditions n xs) ≡ true
        → list_all (λ (y : Condition). nat_lt y.column m) (map (λ (y : Condition). record y { column = y.column - n }) (cond (not b) (x ∷ filter (λ (y : Condition). not (nat_lt y.column n)) xs) (filter (λ (y : Condition). not (nat_lt y.column n)) xs))) ≡ true
    by true e more = more
    by false e more =
        let high : n ≤ x.column = not_below x.column n e in
        let low : x.column < n + m = ltb-true x.column (n + m) both.0 in
        rw (lt-ltb (x.column - n) m (omega (arith, high, low))) more

-- what a join that keeps the rules mentions

column_below : (columns : List Column) (c : ℕ) (f : Option Column → Bool) → f None ≡ false → f (slice_get columns c) ≡ true → c < length columns
column_below [] c f none h = absurd (true≢false (sym h ∙ none))
column_below (x ∷ columns) zero f none h = omega arith
column_below (x ∷ columns) (suc c) f none h = let below = column_below columns c f none h in omega arith

conditions_below : (columns : List Column) (kinds : List Kind) (n : ℕ) → length columns ≡ n → (xs : List Condition) → list_all (λ (x : Condition). condition_fits columns kinds x) xs ≡ true → list_all (λ (x : Condition). nat_lt x.column n) xs ≡ true
conditions_below columns kinds n long [] h = refl
conditions_below columns kinds n long (x ∷ xs) h =
    let both = and_parts (condition_fits columns kinds x) (list_all (λ (y : Condition). condition_fits columns kinds y) xs) h in
    let there : x.column < length columns = column_below columns x.column (λ o. fits_column kinds o x.operand) refl both.0 in
    rw (lt-ltb x.column n (omega (arith, there, long))) (conditions_below columns kinds n long xs both.1)

appended : (f : ℕ → Bool) (xs ys : List ℕ) → list_all f xs ≡ true → list_all f ys ≡ true → list_all f (xs ++ ys) ≡ true
appended f [] ys h k = k
appended f (x ∷ xs) ys h k =
    let both = and_parts (f x) (list_all f xs) h in
    rw both.0 (appended f xs ys both.1 k)

ordered_below : (n : ℕ) (o : Option ℕ) (columns : List Column) → length columns ≡ n → order_fits columns o ≡ true → list_all (λ (c : ℕ). nat_lt c n) (ordering o) ≡ true
ordered_below n None columns long h = refl
ordered_below n (Some c) columns long h = let here : nat_lt c n ≡ true = ap (nat_lt c) (sym long) ∙ h in rw here refl

pub second_fits : (columns others : List Column) (kinds : List Kind) (join : Join) (s : Selection) → selection_fits (columns ++ others) kinds s ≡ true
    → are_of_kind (slice_get (columns ++ others) join.left) (slice_get (columns ++ others) join.right) ≡ true → mentions_fit others (Select (second_read (length columns) join s)) ≡ true
second_fits columns others kinds join s fit kind =
    let n : ℕ = length columns + length others in
    let long : length (columns ++ others) ≡ n = length-append columns others in
    let one = and_parts _ _ (and_parts _ _ fit).1 in
    let two = and_parts _ _ one.1 in
    let three = and_parts _ _ two.1 in
    let four = and_parts _ _ three.1 in
    let listed : list_all (λ (c : ℕ). nat_lt c n) s.columns ≡ true = ap (λ (k : ℕ). list_all (λ (c : ℕ). nat_lt c k) s.columns) (sym long) ∙ two.0 in
    let left : join.left < length (columns ++ others) = column_below (columns ++ others) join.left (λ o. are_of_kind o (slice_get (columns ++ others) join.right)) refl kind in
    let right : join.right < length (columns ++ others) = column_below (columns ++ others) join.right (λ o. are_of_kind (slice_get (columns ++ others) join.left) o) (no_kind (slice_get (columns ++ others) join.left)) kind in
    let all : list_all (λ (c : ℕ). nat_lt c n) (joined_mentions join s) ≡ true =
    rw (lt-ltb join.left n (omega (arith, left, long)), lt-ltb join.right n (omega (arith, right, long))) (appended (λ (c : ℕ). nat_lt c n) s.columns (ordering s.order) listed (ordered_below n s.order (columns ++ others) long four.0)) in
    and_from _ _ (high_listed (length columns) (length others) (joined_mentions join s) all)
    (high_tested (length columns) (length others) s.conditions (conditions_below (columns ++ others) kinds n long s.conditions (and_parts _ _ three.0).1))
  where
    no_kind : (o : Option Column) → are_of_kind o None ≡ false
    no_kind None = refl
    no_kind (Some c) = refl

-- what a join mentions is shown at its tables

has_cases : (xs ys : List ℕ) (c : ℕ) → has (xs ++ ys) c ≡ true → (has xs c ≡ true) ⊎ (has ys c ≡ true)
has_cases [] ys c h = inr h
has_cases (x ∷ xs) ys c h =
    ⊎_elim (λ (e : (x == c) ≡ true). inl (or_left (x == c) (has xs c) e))
    (λ (e : has (xs ++ ys) c ≡ true). ⊎_elim (λ (k : has xs c ≡ true). inl (or_right (x == c) (has xs c) k)) (λ (k : has ys c ≡ true). inr k) (has_cases xs ys c e)) (or_cases (x == c) (has (xs ++ ys) c) h)

has_moved : (n : ℕ) (cs : List ℕ) (c : ℕ) → has cs c ≡ true → has (map (λ (d : ℕ). d - n) cs) (c - n) ≡ true
has_moved n [] c h = absurd (false≢true h)
has_moved n (d ∷ cs) c h =
    ⊎_elim (λ (e : (d == c) ≡ true). or_left (d - n == c - n) _ (eq-eqb (d - n) (c - n) (ap (λ (k : ℕ). k - n) (eqb-true d c e))))
    (λ (e : has cs c ≡ true). or_right (d - n == c - n) _ (has_moved n cs c e)) (or_cases (d == c) (has cs c) h)

has_second : (n : ℕ) (cs : List ℕ) (c : ℕ) → n ≤ c → has cs c ≡ true → has (second_columns n cs) (c - n) ≡ true
has_second n cs c high h = has_moved n (filter (λ (d : ℕ). not (nat_lt d n)) cs) c (has_filter (λ (d : ℕ). not (nat_lt d n)) cs c h (ap not (above c n high)))
  where
    above : (a b : ℕ) → b ≤ a → nat_lt a b ≡ false
    above a b h = by (nat_lt a b) refl
      where
        by : (s : Bool) → nat_lt a b ≡ s → nat_lt a b ≡ false
        by true e = let low : a < b = ltb-true a b e in absurd (omega (arith, h, low))
        by false e = e

tests_first : (n : ℕ) (xs : List Condition) (c : ℕ) → c < n → has (map (λ (x : Condition). x.column) xs) c ≡ true → tests (first_conditions n xs) c ≡ true
tests_first n [] c low h = absurd (false≢true h)
tests_first n (x ∷ xs) c low h = by (nat_lt x.column n) refl (tests_first n xs c low) (or_cases (x.column == c) (has (map (λ (y : Condition). y.column) xs) c) h)
  where
    by : (b : Bool) → nat_lt x.column n ≡ b → (has (map (λ (y : Condition). y.column) xs) c ≡ true → tests (first_conditions n xs) c ≡ true)
        → ((x.column == c) ≡ true) ⊎ (has (map (λ (y : Condition). y.column) xs) c ≡ true) → tests (cond b (x ∷ first_conditions n xs) (first_conditions n xs)) c ≡ true
    by true e more k = ⊎_elim (λ (k : (x.column == c) ≡ true). or_left (x.column == c) _ k) (λ (k : has (map (λ (y : Condition). y.column) xs) c ≡ true). or_right (x.column == c) _ (more k)) k
    by false e more k =
        ⊎_elim (λ (k : (x.column == c) ≡ true). absurd (true≢false (sym (lt-ltb c n low) ∙ ap (λ (d : ℕ). nat_lt d n) (sym (eqb-true x.column c k)) ∙ e)))
        (λ (k : has (map (λ (y : Condition). y.column) xs) c ≡ true). more k) k

tests_second : (n : ℕ) (xs : List Condition) (c : ℕ) → n ≤ c → has (map (λ (x : Condition). x.column) xs) c ≡ true → tests (second_conditions n xs) (c - n) ≡ true
tests_second n [] c high h = absurd (false≢true h)
tests_second n (x ∷ xs) c high h = by (nat_lt x.column n) refl (tests_second n xs c high) (or_cases (x.column == c) (has (map (λ (y : Condition). y.column) xs) c) h)
  where
    by : (b : Bool) → nat_lt x.column n ≡ b → (has (map (λ (y : Condition). y.column) xs) c ≡ true → tests (second_conditions n xs) (c - n) ≡ true)
        → ((x.column == c) ≡ true) ⊎ (has (map (λ (y : Condition). y.column) xs) c ≡ true) → tests (map (λ (y : Condition). record y { column = y.column - n }) (cond (not b) (x ∷ filter (λ (y : Condition). not (nat_lt y.column n)) xs) (filter (λ (y : Condition). not (nat_lt y.column n)) xs))) (c - n) ≡ true
    by true e more k =
        ⊎_elim (λ (k : (x.column == c) ≡ true). let low : x.column < n = ltb-true x.column n e in let same : x.column ≡ c = eqb-true x.column c k in absurd (omega (arith, low, same, high)))
        (λ (k : has (map (λ (y : Condition). y.column) xs) c ≡ true). more k) k
    by false e more k =
        ⊎_elim (λ (k : (x.column == c) ≡ true). or_left (x.column - n == c - n) _ (eq-eqb (x.column - n) (c - n) (ap (λ (d : ℕ). d - n) (eqb-true x.column c k))))
        (λ (k : has (map (λ (y : Condition). y.column) xs) c ≡ true). or_right (x.column - n == c - n) _ (more k)) k

pub seen_at_both : (R : List Right) (t u : Table) (n : ℕ) (join : Join) (s : Selection) → RightsFit R t → RightsFit R u → Holds R t.name (Select (first_read n join s)) → Holds R u.name (Select (second_read n join s))
    → Seen n (shown_columns R t) (shown_columns R u) join s
seen_at_both R t u n join s fit_t fit_u first second c h = (
  λ low. seeing.is_mentioned_shown R t (Select (first_read n join s)) fit_t first c
      (⊎_elim (λ (e : has (joined_mentions join s) c ≡ true). or_left (has (first_columns n (joined_mentions join s)) c) _ (has_filter (λ (d : ℕ). nat_lt d n) (joined_mentions join s) c e (lt-ltb c n low)))
      (λ (e : has (map (λ (x : Condition). x.column) s.conditions) c ≡ true). or_right (has (first_columns n (joined_mentions join s)) c) _ (tests_first n s.conditions c low e))
      (has_cases (joined_mentions join s) (map (λ (x : Condition). x.column) s.conditions) c h)),
  λ high. seeing.is_mentioned_shown R u (Select (second_read n join s)) fit_u second (c - n)
      (⊎_elim (λ (e : has (joined_mentions join s) c ≡ true). or_left (has (second_columns n (joined_mentions join s)) (c - n)) _ (has_second n (joined_mentions join s) c high e))
      (λ (e : has (map (λ (x : Condition). x.column) s.conditions) c ≡ true). or_right (has (second_columns n (joined_mentions join s)) (c - n)) _ (tests_second n s.conditions c high e))
      (has_cases (joined_mentions join s) (map (λ (x : Condition). x.column) s.conditions) c h)),
)

pub hits_seen_at_both : (R : List Right) (t u : Table) (args : List Value) (n : ℕ) (join : Join) (s : Selection) → Holds R t.name (Select (first_read n join s)) → Holds R u.name (Select (second_read n join s))
    → HitsSeen args n join s (is_shown R t.name) (is_shown R u.name)
hits_seen_at_both R t u args n join s first second a b h =
    (seeing.hits_are_shown R t.name (Select (first_read n join s)) first refl args a (first_met args n a b s.conditions h), seeing.hits_are_shown R u.name (Select (second_read n join s)) second refl args b (second_met args n a b s.conditions h))
