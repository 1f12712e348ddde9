-- What came up by the first launches that a record tells of is what came up in those with which worker 0's list begins.
use Rattle.std.proofs.Common.{◌≡◌, ◌∙◌, ℕ, zero, suc, ◌+◌, ◌<◌, ◌≤◌, Bool, true, false, List, [], ◌∷◌, ◌++◌, Option, Some, None, length, map, reverse, refl, sym, ap, arith, eq-eqb, eqb-true, ne_eqb}
use Rattle.std.proofs.lemmas.Bool.{and_from, eqb-false, or_left, or_right}
use Rattle.std.proofs.lemmas.List.{append_assoc, reverse-append}
use Rattle.std.proofs.lemmas.List.Folds.{list_any-append}
use Rattle.std.specs.Prelude.{◌==◌, ◌&&◌, ◌||◌, if◌then◌else◌, option_map}
use Rattle.std.specs.List.{list_any}
use Rattle.okws_plan.specs.declared.event.LauncherEvent.{LauncherEvent}
use Rattle.okws_plan.specs.declared.event.LauncherEvent.TheVariants as event
use Rattle.monitor_model.specs.declared.record.Own.{Own}
use Rattle.monitor_model.specs.declared.record.Own.TheVariants as own
use Rattle.monitor_model.specs.declared.record.Record.{Record}
use Rattle.monitor_model.specs.Causes.{has_up}
use Rattle.monitor_model.specs.First.{Came, Part, Goes, Ups, Gives, Strays, came_by, first_came, part, service_after}
use Rattle.monitor_model.specs.Launches.{is_begun_of}
use Rattle.okld_launch.specs.Entering.{failed_from}
use Rattle.site_run.specs.Opening.{Outcome, CameUp, Died, Waited, BrokeOff, Opening, all_events, all_items, end_events, end_items, is_up, opening_events, opening_items, ups_of}
use Rattle.okws_serve.specs.Opened.{came_in}

-- ---- what came up of each service

-- just the last incarnation of each came up, where the launches tell it
abbrev AreUp : Record → List Opening → Type 0
AreUp R [] = Unit {0}
AreUp R (o ∷ os) = ((k : ℕ) → list_any (is_begun_of (length os) k) (opening_events (length os) o) ≡ true → has_up R (length os) k ≡ (is_up o.outcome && (o.failed + 1 == k))) × AreUp R os

below_apart : (n s : ℕ) → suc n ≤ s → n ≡ s → ⊥
below_apart n s least is = omega (arith, least, is)

next_below : (n s : ℕ) → suc n ≤ s → n ≤ s
next_below n s least = omega (arith, least)

not_there : (a b c : Bool) → b ≡ false → (a && (b && c)) ≡ false
not_there true b c off = ap (λ x. x && c) off
not_there false b c off = refl

-- of a service behind them nothing did
pub ups_below : (os : List Opening) (s k : ℕ) → length os ≤ s → ups_of os s k ≡ false
ups_below [] s k least = refl
ups_below (o ∷ os) s k least =
    ap (λ b. b || ups_of os s k) (not_there (is_up o.outcome) (length os == s) (o.failed + 1 == k) (ne_eqb (length os) s (below_apart (length os) s least)))
    ∙ ups_below os s k (next_below (length os) s least)

longer : (more : List Opening) (m : ℕ) (os : List Opening) → m < length os → m < length (more ++ os)
longer [] m os less = less
longer (o ∷ more) m os less = let l : m < length (more ++ os) = longer more m os less in omega (arith, l)

other_length : (n s : ℕ) → s < n → n ≡ s → ⊥
other_length n s less is = omega (arith, less, is)

-- of a service among them nothing did behind them
ups_behind : (more os : List Opening) (s k : ℕ) → s < length os → ups_of (more ++ os) s k ≡ ups_of os s k
ups_behind [] os s k less = refl
ups_behind (o ∷ more) os s k less =
    ap (λ b. b || ups_of (more ++ os) s k) (not_there (is_up o.outcome) (length (more ++ os) == s) (o.failed + 1 == k) (ne_eqb (length (more ++ os)) s (other_length (length (more ++ os)) s (longer more s os less))))
    ∙ ups_behind more os s k less

begun_behind : (p : LauncherEvent → Bool) (more os : List Opening) → list_any p (all_events os) ≡ true → list_any p (all_events (more ++ os)) ≡ true
begun_behind p [] os h = h
begun_behind p (o ∷ more) os h =
    let s = length (more ++ os) in
    list_any-append p (opening_events s o) (all_events (more ++ os)) ∙ or_right (list_any p (opening_events s o)) (list_any p (all_events (more ++ os))) (begun_behind p more os h)

this_one : (a b : Bool) (s : ℕ) → (a && ((s == s) && b)) ≡ (a && b)
this_one a b s = ap (λ x. a && (x && b)) (eq-eqb s s refl)

or_nothing : (a b : Bool) → b ≡ false → (a || b) ≡ a
or_nothing true b off = refl
or_nothing false b off = off

one_less : (n : ℕ) → n < suc n
one_less n = omega arith

least_same : (n : ℕ) → n ≤ n
least_same n = omega arith

module _ (R : Record) (all : List Opening) (ups : (s k : ℕ) → list_any (is_begun_of s k) (all_events all) ≡ true → has_up R s k ≡ ups_of all s k) where
  pub are_up : (more os : List Opening) → all ≡ more ++ os → AreUp R os
  are_up more [] is = tt
  are_up more (o ∷ os) is = (
    λ k begun.
        let s = length os in
        let there : list_any (is_begun_of s k) (all_events all) ≡ true
        = ap (λ l. list_any (is_begun_of s k) (all_events l)) is ∙ begun_behind (is_begun_of s k) more (o ∷ os)
        (list_any-append (is_begun_of s k) (opening_events s o) (all_events os) ∙ or_left (list_any (is_begun_of s k) (opening_events s o)) (list_any (is_begun_of s k) (all_events os)) begun) in
        ups s k there ∙ (ap (λ l. ups_of l s k) is ∙ (ups_behind more (o ∷ os) s k (one_less s)
        ∙ (or_nothing (is_up o.outcome && ((s == s) && (o.failed + 1 == k))) (ups_of os s k) (ups_below os s k (least_same s)) ∙ this_one (is_up o.outcome) (o.failed + 1 == k) s))),
    are_up (more ++ o ∷ []) os (is ∙ sym (append_assoc more (o ∷ []) os)),
  )

-- ---- the launches of one service

-- the list goes on behind one item, by what that is
steps : (R : Record) (n s : ℕ) (item : Own) (items : List Own) (is : Part) → (s == n) ≡ false → part R s item ≡ is → first_came R n s (item ∷ items) ≡ came_by s is (first_came R n (service_after s is) items)
steps R n s item items is other same =
    ap (λ (b : Bool). if b then Some [] else came_by s (part R s item) (first_came R n (service_after s (part R s item)) items)) other
    ∙ ap (λ (p : Part). came_by s p (first_came R n (service_after s p) items)) same

here : (s : ℕ) (p : Part) → (if s == s then p else Strays) ≡ p
here s p = ap (λ (b : Bool). if b then p else Strays) (eq-eqb s s refl)

begun_goes : (R : Record) (n s k : ℕ) (items : List Own) → (s == n) ≡ false → has_up R s k ≡ false → first_came R n s (own.Launcher (event.Begun s k) ∷ items) ≡ first_came R n s items
begun_goes R n s k items other down =
    steps R n s (own.Launcher (event.Begun s k)) items Goes other (here s (if has_up R s k then Ups k else Goes) ∙ ap (λ (b : Bool). if b then Ups k else Goes) down)

begun_ups : (R : Record) (n s k : ℕ) (items : List Own) → (s == n) ≡ false → has_up R s k ≡ true
    → first_came R n s (own.Launcher (event.Begun s k) ∷ items) ≡ option_map (λ (others : List Came). record { service = s; incarnation = k } ∷ others) (first_came R n (s + 1) items)
begun_ups R n s k items other up =
    steps R n s (own.Launcher (event.Begun s k)) items (Ups k) other (here s (if has_up R s k then Ups k else Goes) ∙ ap (λ (b : Bool). if b then Ups k else Goes) up)

failed_goes : (R : Record) (n s k : ℕ) (items : List Own) → (s == n) ≡ false → first_came R n s (own.Launcher (event.Failed s k) ∷ items) ≡ first_came R n s items
failed_goes R n s k items other = steps R n s (own.Launcher (event.Failed s k)) items Goes other (here s Goes)

dead_gives : (R : Record) (n s m : ℕ) (items : List Own) → (s == n) ≡ false → first_came R n s (own.Launcher (event.Dead s m) ∷ items) ≡ first_came R n (s + 1) items
dead_gives R n s m items other = steps R n s (own.Launcher (event.Dead s m)) items Gives other (here s Gives)

want_gives : (R : Record) (n s : ℕ) (items : List Own) → (s == n) ≡ false → first_came R n s (own.NoMemory ∷ items) ≡ first_came R n (s + 1) items
want_gives R n s items other = steps R n s own.NoMemory items Gives other refl

-- two items come last
last_two : (x y : Own) (xs rest : List Own) → reverse (x ∷ (y ∷ xs)) ++ rest ≡ reverse xs ++ (y ∷ (x ∷ rest))
last_two x y xs rest =
    ap (λ l. l ++ rest) (reverse-append (x ∷ []) (y ∷ xs) ∙ ap (λ l. l ++ x ∷ []) (reverse-append (y ∷ []) xs))
    ∙ (append_assoc (reverse xs ++ y ∷ []) (x ∷ []) rest ∙ append_assoc (reverse xs) (y ∷ []) (x ∷ rest))

-- attempts that failed
fails_go : (R : Record) (n s j m : ℕ) (rest : List Own) → (s == n) ≡ false → ((i : ℕ) → i < m → has_up R s (j + i) ≡ false) → first_came R n s (reverse (map own.Launcher (failed_from s j m)) ++ rest) ≡ first_came R n s rest
fails_go R n s j zero rest other down = refl
fails_go R n s j (suc m) rest other down =
    ap (first_came R n s) (last_two (own.Launcher (event.Failed s (j + m))) (own.Launcher (event.Begun s (j + m))) (map own.Launcher (failed_from s j m)) rest)
    ∙ (fails_go R n s j m (own.Launcher (event.Begun s (j + m)) ∷ own.Launcher (event.Failed s (j + m)) ∷ rest) other (λ i l. down i (omega (arith, l)))
    ∙ (begun_goes R n s (j + m) (own.Launcher (event.Failed s (j + m)) ∷ rest) other (down m (one_less m)) ∙ failed_goes R n s (j + m) rest other))

less_than : (i m : ℕ) → i < suc m → (i ≡ m → ⊥) → i < m
less_than i m l apart = omega (arith, l, apart)

-- each was begun
failed_begun : (s j m i : ℕ) → i < m → list_any (is_begun_of s (j + i)) (failed_from s j m) ≡ true
failed_begun s j zero i l = let never : ⊥ = omega (arith, l) in absurd never
failed_begun s j (suc m) i l = at (i == m) refl (failed_begun s j m i)
  where
    this : i ≡ m → ((s == s) && ((j + m) == (j + i))) ≡ true
    this is = and_from (s == s) ((j + m) == (j + i)) (eq-eqb s s refl) (eq-eqb (j + m) (j + i) (omega (arith, is)))

    at : (b : Bool) → (i == m) ≡ b → (i < m → list_any (is_begun_of s (j + i)) (failed_from s j m) ≡ true) → list_any (is_begun_of s (j + i)) (failed_from s j (suc m)) ≡ true
    at true is later = or_left ((s == s) && ((j + m) == (j + i))) (list_any (is_begun_of s (j + i)) (failed_from s j m)) (this (eqb-true i m is))
    at false is later = or_right ((s == s) && ((j + m) == (j + i))) (list_any (is_begun_of s (j + i)) (failed_from s j m)) (later (less_than i m l (eqb-false i m is)))

-- what came up of one service
abbrev came_here : ℕ → Opening → List Came
came_here s o = if is_up o.outcome then record { service = s; incarnation = o.failed + 1 } ∷ [] else []

same_option : (x : Option (List Came)) → x ≡ option_map (λ (others : List Came). [] ++ others) x
same_option (Some xs) = refl
same_option None = refl

-- how its launch ended
ends_come : (R : Record) (n s k : ℕ) (outcome : Outcome) (rest : List Own) → (s == n) ≡ false → (list_any (is_begun_of s k) (end_events s k outcome) ≡ true → has_up R s k ≡ is_up outcome)
    → first_came R n s (reverse (end_items s k outcome) ++ rest) ≡ option_map (λ (others : List Came). (if is_up outcome then record { service = s; incarnation = k } ∷ [] else []) ++ others) (first_came R n (s + 1) rest)
ends_come R n s k CameUp rest other up = begun_ups R n s k rest other (up (or_left ((s == s) && (k == k)) false (and_from (s == s) (k == k) (eq-eqb s s refl) (eq-eqb k k refl))))
ends_come R n s k (Died m) rest other up = dead_gives R n s m rest other ∙ same_option (first_came R n (s + 1) rest)
ends_come R n s k Waited rest other up = want_gives R n s rest other ∙ same_option (first_came R n (s + 1) rest)
ends_come R n s k BrokeOff rest other up =
    begun_goes R n s k (own.NoMemory ∷ rest) other (up (or_left ((s == s) && (k == k)) false (and_from (s == s) (k == k) (eq-eqb s s refl) (eq-eqb k k refl))))
    ∙ (want_gives R n s rest other ∙ same_option (first_came R n (s + 1) rest))

not_last : (m i : ℕ) → i < m → m + 1 ≡ 1 + i → ⊥
not_last m i l is = omega (arith, l, is)

off_there : (a b : Bool) → b ≡ false → (a && b) ≡ false
off_there true b off = off
off_there false b off = refl

on_here : (a b : Bool) → b ≡ true → (a && b) ≡ a
on_here true b on = on
on_here false b on = refl

opening_comes : (R : Record) (n s : ℕ) (o : Opening) (rest : List Own) → (s == n) ≡ false → ((k : ℕ) → list_any (is_begun_of s k) (opening_events s o) ≡ true → has_up R s k ≡ (is_up o.outcome && (o.failed + 1 == k)))
    → first_came R n s (reverse (opening_items s o) ++ rest) ≡ option_map (λ (others : List Came). came_here s o ++ others) (first_came R n (s + 1) rest)
opening_comes R n s o rest other up =
    let k = o.failed + 1 in
    let ends = end_items s k o.outcome in
    let fails = map own.Launcher (failed_from s 1 o.failed) in
    ap (λ l. first_came R n s (l ++ rest)) (reverse-append ends fails)
    ∙ (ap (first_came R n s) (append_assoc (reverse fails) (reverse ends) rest)
    ∙ (fails_go R n s 1 o.failed (reverse ends ++ rest) other (λ i l.
    up (1 + i) (list_any-append (is_begun_of s (1 + i)) (end_events s k o.outcome) (failed_from s 1 o.failed)
    ∙ or_right (list_any (is_begun_of s (1 + i)) (end_events s k o.outcome)) (list_any (is_begun_of s (1 + i)) (failed_from s 1 o.failed)) (failed_begun s 1 o.failed i l))
    ∙ off_there (is_up o.outcome) (k == 1 + i) (ne_eqb k (1 + i) (not_last o.failed i l)))
    ∙ ends_come R n s k o.outcome rest other (λ begun.
    up k (list_any-append (is_begun_of s k) (end_events s k o.outcome) (failed_from s 1 o.failed) ∙ or_left (list_any (is_begun_of s k) (end_events s k o.outcome)) (list_any (is_begun_of s k) (failed_from s 1 o.failed)) begun)
    ∙ on_here (is_up o.outcome) (k == k) (eq-eqb k k refl))))

-- ---- all of them

both_maps : (xs ys : List Came) (x : Option (List Came)) → option_map (λ (others : List Came). xs ++ others) (option_map (λ (others : List Came). ys ++ others) x) ≡ option_map (λ (others : List Came). (xs ++ ys) ++ others) x
both_maps xs ys (Some zs) = ap Some (sym (append_assoc xs ys zs))
both_maps xs ys None = refl

one_more : (m : ℕ) → m + 1 ≡ suc m
one_more m = omega arith

apart : (m n : ℕ) → suc m ≤ n → m ≡ n → ⊥
apart m n least is = omega (arith, least, is)

openings_come : (R : Record) (n : ℕ) (os : List Opening) (rest : List Own) → length os ≤ n → AreUp R os → first_came R n 0 (reverse (all_items os) ++ rest) ≡ option_map (λ (others : List Came). came_in os ++ others) (first_came R n (length os) rest)
openings_come R n [] rest least up = same_option (first_came R n 0 rest)
openings_come R n (o ∷ os) rest least up =
    let s = length os in
    ap (λ l. first_came R n 0 (l ++ rest)) (reverse-append (opening_items s o) (all_items os))
    ∙ (ap (first_came R n 0) (append_assoc (reverse (all_items os)) (reverse (opening_items s o)) rest)
    ∙ (openings_come R n os (reverse (opening_items s o) ++ rest) (next_below s n least) up.1
    ∙ (ap (option_map (λ (others : List Came). came_in os ++ others)) (opening_comes R n s o rest (ne_eqb s n (apart s n least)) up.0)
    ∙ (both_maps (came_in os) (came_here s o) (first_came R n (s + 1) rest)
    ∙ ap (λ (m : ℕ). option_map (λ (others : List Came). came_in (o ∷ os) ++ others) (first_came R n m rest)) (one_more s)))))

ends_there : (R : Record) (n : ℕ) (items : List Own) → first_came R n n items ≡ Some []
ends_there R n [] = ap (λ (b : Bool). if b then Some [] else None) (eq-eqb n n refl)
ends_there R n (item ∷ items) = ap (λ (b : Bool). if b then Some [] else came_by n (part R n item) (first_came R n (service_after n (part R n item)) items)) (eq-eqb n n refl)

no_more : (xs : List Came) → xs ++ [] ≡ xs
no_more [] = refl
no_more (x ∷ xs) = ap (λ l. x ∷ l) (no_more xs)

-- of a list that begins with them
pub launches_come : (R : Record) (os : List Opening) (items later : List Own) → items ≡ later ++ all_items os → ((s k : ℕ) → list_any (is_begun_of s k) (all_events os) ≡ true → has_up R s k ≡ ups_of os s k)
    → first_came R (length os) 0 (reverse items) ≡ Some (came_in os)
launches_come R os items later is ups =
    let n = length os in
    ap (λ l. first_came R n 0 (reverse l)) is
    ∙ (ap (first_came R n 0) (reverse-append later (all_items os))
    ∙ (openings_come R n os (reverse later) (least_same n) (are_up R os ups [] os refl)
    ∙ (ap (option_map (λ (others : List Came). came_in os ++ others)) (ends_there R n (reverse later)) ∙ ap Some (no_more (came_in os)))))
