-- A SELECT from two tables answers the same where what it reads of each is alike.
use Rattle.std.proofs.Common.{◌≡◌, ℕ, ◌-◌, ◌+◌, ◌<◌, ◌≤◌, Bool, true, false, not, ◌&&◌, ◌||◌, cond, List, [], ◌∷◌, ◌++◌, map, length, Option, Some, None, refl, sym, ap, ◌∙◌, ⊎_elim}
use Rattle.std.specs.Prelude.{◌==◌, nat_lt}
use Rattle.std.specs.List.{AllZip, filter}
use Rattle.std.proofs.lemmas.Bool.{true≢false, false≢true, and_parts, or_cases, or_left, or_right, eq-eqb, lt-ltb, ltb-true, cases_lt}
use Rattle.okws_base.specs.Past.{is_just}
use Rattle.okws_base.specs.Value.{value_cmp, value_eq}
use Rattle.okws_base.specs.declared.value.Value.{Value}
use Rattle.okws_plan.specs.Comparing.{passes}
use Rattle.okws_plan.specs.Meaning.{at_column, operand, meets, meets_all, hits, ordered, limited, cut, cut_all, laid, is_joined, joined_to, joined_rows, selection_answer}
use Rattle.okws_plan.proofs.Laid.{laid_first, laid_second, laid_size}
use Rattle.okws_plan.specs.declared.statement.Condition.{Condition}
use Rattle.okws_plan.specs.declared.statement.Join.{Join}
use Rattle.okws_plan.specs.declared.statement.Selection.{Selection}
use Rattle.okws_plan.specs.declared.statement.Answer.{Answer}
use Rattle.okws_plan.specs.declared.statement.Answer.TheVariants as answer
use Rattle.two_worlds.specs.View.{has, tests, first_conditions, second_conditions, ordering, joined_mentions}
use Rattle.two_worlds.proofs.Zips as zips
use Rattle.two_worlds.proofs.Pairs as pairs
use Rattle.two_worlds.proofs.Rows as rows
use Rattle.two_worlds.proofs.Rows.{Alike, Within}
use Rattle.two_worlds.proofs.OneTable as one

-- the conditions on each table are met

pub first_met : (args : List Value) (n : ℕ) (a b : List Value) (conditions : List Condition) → meets_all args conditions (laid n a b) ≡ true → meets_all args (first_conditions n conditions) a ≡ true
first_met args n a b [] h = refl
first_met args n a b (x ∷ xs) h = by (nat_lt x.column n) refl (first_met args n a b xs both.1)
  where
    both : (meets args x (laid n a b) ≡ true) × (meets_all args xs (laid n a b) ≡ true)
    both = and_parts (meets args x (laid n a b)) (meets_all args xs (laid n a b)) h

    by : (s : Bool) → nat_lt x.column n ≡ s → meets_all args (first_conditions n xs) a ≡ true → meets_all args (cond s (x ∷ first_conditions n xs) (first_conditions n xs)) a ≡ true
    by true e more =
        let here : meets args x a ≡ true = ap (λ (v : Value). passes x.comparison (value_cmp v (operand args x.operand))) (sym (laid_first n a b x.column (ltb-true x.column n e))) ∙ both.0 in
        rw here more
    by false e more = more

pub not_below : (c n : ℕ) → nat_lt c n ≡ false → n ≤ c
not_below c n e = ⊎_elim (λ (k : c < n). absurd (true≢false (sym (lt-ltb c n k) ∙ e))) (λ (k : n ≤ c). k) (cases_lt c n)

pub second_met : (args : List Value) (n : ℕ) (a b : List Value) (conditions : List Condition) → meets_all args conditions (laid n a b) ≡ true → meets_all args (second_conditions n conditions) b ≡ true
second_met args n a b [] h = refl
second_met args n a b (x ∷ xs) h = by (nat_lt x.column n) refl (second_met args n a b xs both.1)
  where
    both : (meets args x (laid n a b) ≡ true) × (meets_all args xs (laid n a b) ≡ true)
    both = and_parts (meets args x (laid n a b)) (meets_all args xs (laid n a b)) h

    by : (s : Bool) → nat_lt x.column n ≡ s → meets_all args (second_conditions n xs) b ≡ true
        → meets_all args (map (λ (y : Condition). record y { column = y.column - n }) (cond (not s) (x ∷ filter (λ (y : Condition). not (nat_lt y.column n)) xs) (filter (λ (y : Condition). not (nat_lt y.column n)) xs))) b ≡ true
    by true e more = more
    by false e more =
        let here : meets args (record x { column = x.column - n }) b ≡ true =
        ap (λ (v : Value). passes x.comparison (value_cmp v (operand args x.operand))) (sym (laid_second n a b x.column (not_below x.column n e))) ∙ both.0 in
        rw here more

-- the columns of joined rows that a join mentions
abbrev pub named : Join → Selection → List ℕ
named join s = joined_mentions join s ++ map (λ (x : Condition). x.column) s.conditions

-- of those of the first table each is among some, and of those of the second among others
abbrev pub Seen : ℕ → List ℕ → List ℕ → Join → Selection → Type 0
Seen n cs ds join s = (c : ℕ) → has (named join s) c ≡ true → (c < n → has cs c ≡ true) × (n ≤ c → has ds (c - n) ≡ true)

has_front : (xs ys : List ℕ) (c : ℕ) → has xs c ≡ true → has (xs ++ ys) c ≡ true
has_front [] ys c h = absurd (false≢true h)
has_front (x ∷ xs) ys c h = ⊎_elim (λ (e : (x == c) ≡ true). or_left (x == c) (has (xs ++ ys) c) e) (λ (e : has xs c ≡ true). or_right (x == c) (has (xs ++ ys) c) (has_front xs ys c e)) (or_cases (x == c) (has xs c) h)

has_behind : (xs ys : List ℕ) (c : ℕ) → has ys c ≡ true → has (xs ++ ys) c ≡ true
has_behind [] ys c h = h
has_behind (x ∷ xs) ys c h = or_right (x == c) (has (xs ++ ys) c) (has_behind xs ys c h)

mentioned_named : (join : Join) (s : Selection) → Within (has (joined_mentions join s)) (named join s)
mentioned_named join s c h = has_front (joined_mentions join s) (map (λ (x : Condition). x.column) s.conditions) c h

listed_named : (join : Join) (s : Selection) → Within (has s.columns) (named join s)
listed_named join s c h =
    mentioned_named join s c (or_right (join.left == c) _ (or_right (join.right == c) _ (has_front s.columns (ordering s.order) c h)))

order_named : (join : Join) (s : Selection) → Within (λ c. is_just c s.order) (named join s)
order_named join s c h =
    mentioned_named join s c (or_right (join.left == c) _ (or_right (join.right == c) _ (has_behind s.columns (ordering s.order) c (by s.order h))))
  where
    by : (o : Option ℕ) → is_just c o ≡ true → has (ordering o) c ≡ true
    by None h = h
    by (Some d) h = or_left (d == c) false h

tested_named : (join : Join) (s : Selection) → Within (tests s.conditions) (named join s)
tested_named join s c h =
    has_behind (joined_mentions join s) (map (λ (x : Condition). x.column) s.conditions) c (sym (zips.any_map (λ (d : ℕ). d == c) (λ (x : Condition). x.column) s.conditions) ∙ h)

-- rows that are laid before others are alike where these are

cut_from : (cs : List ℕ) (x y : List Value) → ((c : ℕ) → has cs c ≡ true → at_column x c ≡ at_column y c) → cut cs x ≡ cut cs y
cut_from [] x y h = refl
cut_from (c ∷ cs) x y h =
    rw (h c (or_left (c == c) (has cs c) (eq-eqb c c refl)), cut_from cs x y (λ d k. h d (or_right (c == d) (has cs d) k))) refl

laid_alike : (n : ℕ) (cs ds : List ℕ) (join : Join) (s : Selection) → Seen n cs ds join s → (a b x y : List Value) → Alike cs a b → Alike ds x y → Alike (named join s) (laid n a x) (laid n b y)
laid_alike n cs ds join s seen a b x y r k =
    (laid_size n a x ∙ ap (λ (m : ℕ). n + m) k.0 ∙ sym (laid_size n b y), cut_from (named join s) (laid n a x) (laid n b y) (λ c h. ⊎_elim (first c h) (second c h) (cases_lt c n)))
  where
    first : (c : ℕ) → has (named join s) c ≡ true → c < n → at_column (laid n a x) c ≡ at_column (laid n b y) c
    first c h below = laid_first n a x c below ∙ rows.same_at cs a b c ((seen c h).0 below) r.1 ∙ sym (laid_first n b y c below)

    second : (c : ℕ) → has (named join s) c ≡ true → n ≤ c → at_column (laid n a x) c ≡ at_column (laid n b y) c
    second c h high = laid_second n a x c high ∙ rows.same_at ds x y (c - n) ((seen c h).1 high) k.1 ∙ sym (laid_second n b y c high)

joined_alike : (join : Join) (s : Selection) (x y : List Value) → Alike (named join s) x y → is_joined join x ≡ is_joined join y
joined_alike join s x y r =
    let left : at_column x join.left ≡ at_column y join.left =
    rows.same_at (named join s) x y join.left (mentioned_named join s join.left (or_left (join.left == join.left) _ (eq-eqb join.left join.left refl))) r.1 in
    let right : at_column x join.right ≡ at_column y join.right =
    rows.same_at (named join s) x y join.right (mentioned_named join s join.right (or_right (join.left == join.right) _ (or_left (join.right == join.right) _ (eq-eqb join.right join.right refl)))) r.1 in
    λ i. value_eq (left i) (right i)

zip_joined : (n : ℕ) (cs ds : List ℕ) (join : Join) (s : Selection) → Seen n cs ds join s → (X Y Z W : List (List Value)) → AllZip (Alike cs) X Y → AllZip (Alike ds) Z W
    → AllZip (Alike (named join s)) (joined_rows n join X Z) (joined_rows n join Y W)
zip_joined n cs ds join s seen X Y Z W h k =
    pairs.zip_flat_map (Alike cs) (Alike (named join s)) (joined_to n join Z) (joined_to n join W)
    (λ a b r. zips.zip_filter (Alike (named join s)) (is_joined join) (is_joined join) (λ x y e. joined_alike join s x y e) (map (laid n a) Z) (map (laid n b) W)
    (zips.zip_map (Alike ds) (Alike (named join s)) (laid n a) (laid n b) (λ x y e. laid_alike n cs ds join s seen a b x y r e) Z W k)) X Y h

-- the joined rows that are hit are made of shown rows

abbrev passing : List Value → Join → Selection → List Value → Bool
passing args join s row = is_joined join row && meets_all args s.conditions row

joined_hits : (args : List Value) (n : ℕ) (join : Join) (s : Selection) (X Z : List (List Value)) → hits args s.conditions (joined_rows n join X Z) ≡ filter (passing args join s) (pairs.pairs (laid n) X Z)
joined_hits args n join s X Z = pairs.joined_filtered (is_joined join) (meets_all args s.conditions) (λ (a : List Value). map (laid n a) Z) X

-- each row of either table that is part of a hit is shown
abbrev pub HitsSeen : List Value → ℕ → Join → Selection → (List Value → Bool) → (List Value → Bool) → Type 0
HitsSeen args n join s shown other = (a b : List Value) → meets_all args s.conditions (laid n a b) ≡ true → (shown a ≡ true) × (other b ≡ true)

shown_hits : (args : List Value) (n : ℕ) (join : Join) (s : Selection) (shown other : List Value → Bool) → HitsSeen args n join s shown other → (X Z : List (List Value))
    → hits args s.conditions (joined_rows n join X Z) ≡ hits args s.conditions (joined_rows n join (filter shown X) (filter other Z))
shown_hits args n join s shown other seen X Z =
    joined_hits args n join s X Z
    ∙ pairs.pairs_within (laid n) (passing args join s) shown other
    (λ a b h. (seen a b (and_parts (is_joined join (laid n a b)) (meets_all args s.conditions (laid n a b)) h).1).0)
    (λ a b h. (seen a b (and_parts (is_joined join (laid n a b)) (meets_all args s.conditions (laid n a b)) h).1).1) X Z
    ∙ sym (joined_hits args n join s (filter shown X) (filter other Z))

pub join_same : (args : List Value) (n : ℕ) (cs ds : List ℕ) (join : Join) (s : Selection) (shown other : List Value → Bool) → Seen n cs ds join s → HitsSeen args n join s shown other → (X Y Z W : List (List Value))
    → AllZip (Alike cs) (filter shown X) (filter shown Y) → AllZip (Alike ds) (filter other Z) (filter other W)
    → selection_answer args s (joined_rows n join X Z) ≡ selection_answer args s (joined_rows n join Y W)
join_same args n cs ds join s shown other seen inside X Y Z W h k =
    let A : List (List Value) = joined_rows n join (filter shown X) (filter other Z) in
    let B : List (List Value) = joined_rows n join (filter shown Y) (filter other W) in
    let listed : List (List Value) → Answer = λ (found : List (List Value)). answer.Rows (length s.columns) (cut_all s.columns (limited s.limit (ordered s.order found))) in
    let zip : AllZip (Alike (named join s)) A B = zip_joined n cs ds join s seen (filter shown X) (filter shown Y) (filter other Z) (filter other W) h k in
    let all : AllZip (Alike (named join s)) (filter (λ (row : List Value). true) A) (filter (λ (row : List Value). true) B) =
    zips.zip_filter (Alike (named join s)) (λ (row : List Value). true) (λ (row : List Value). true) (λ a b r. refl) A B zip in
    ap listed (shown_hits args n join s shown other inside X Z)
    ∙ one.select_same (λ (row : List Value). true) (named join s) s (λ args row h. refl) (tested_named join s) (listed_named join s) (order_named join s) args A B all
    ∙ sym (ap listed (shown_hits args n join s shown other inside Y W))
