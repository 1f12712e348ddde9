-- What a worker entered at the launcher leads on, whatever it and others do then.
use Rattle.std.proofs.Common.{◌≡◌, ℕ, suc, ◌+◌, ◌≤◌, ◌<◌, ◌==◌, Bool, true, false, cond, List, [], ◌∷◌, ◌++◌, map, refl, sym, ◌∙◌, subst, length, Option, Some, None, eq-eqb, ne_eqb, eqb-true, le-leb, arith}
use Rattle.std.proofs.lemmas.Bool.{leb-true}
use Rattle.std.specs.Prelude.{◌&&◌, ◌||◌, not, nat_le, max}
use Rattle.okws_base.specs.Past.{AllForeign}
use Rattle.okws_base.specs.declared.journal.Entry.{Entry}
use Rattle.okws_base.specs.declared.limit.TheConstants.{MOST_INCARNATIONS}
use Rattle.okws_plan.specs.declared.event.LauncherEvent.{LauncherEvent}
use Rattle.okws_plan.specs.declared.event.LauncherEvent.TheVariants as event
use Rattle.monitor_model.specs.declared.record.Own.{Own}
use Rattle.monitor_model.specs.declared.record.Own.TheVariants as own
use Rattle.monitor_model.specs.declared.record.Record.{Record}
use Rattle.monitor_model.specs.Causes.{all_lead_on, is_launcher_item, is_settled, item_after_nth, launcher_count, leads_on, others_settle, settles, settles_next, wants_next}
use Rattle.monitor_model.specs.Launcher.{begun}
use Rattle.monitor_model.specs.Launches.{is_want}
use Rattle.monitor_model.specs.Pieces.{worker_list}
use Rattle.monitor_model.specs.Placed.{count_of}
use Rattle.worker_lives.specs.Going.{entries_by}
use Rattle.worker_lives.specs.Waiting.{LeadsSo, ends_in_launch, is_served, leads_in, leads_to, own_lead, owes, settled_by, turn_leads}
use Rattle.worker_lives.proofs.Found.{both_true}

-- ---- truth

-- the one gives the other
abbrev pub Gives : Bool → Bool → Type 0
Gives a b = a ≡ true → b ≡ true

pub false_gives : (a : Bool) → Gives false a
false_gives a h = let bad : false ≡ true = h in let never : ⊥ = cc in absurd never

or_true : (a b : Bool) → b ≡ true → (a || b) ≡ true
or_true true b h = refl
or_true false b h = h

true_or : (a b : Bool) → a ≡ true → (a || b) ≡ true
true_or a b h = rw (h) refl

or_gives : (a x b y : Bool) → Gives a x → Gives b y → Gives (a || b) (x || y)
or_gives true x b y f g h = true_or x y (f refl)
or_gives false x b y f g h = or_true x y (g h)

pub and_both : (a b : Bool) → a ≡ true → b ≡ true → (a && b) ≡ true
and_both a b f g = rw (f) g

-- ---- what waits no longer

le_more : (m a b : ℕ) → a ≤ b → Gives (nat_le m a) (nat_le m b)
le_more m a b more h = let low : m ≤ a = leb-true m a h in le-leb m b (omega arith)

served_more : (m n : ℕ → ℕ) (o p : Bool) (x y : Option LauncherEvent) (s : ℕ) → m s ≤ n s → Gives o p → Gives (settled_by s x) (settled_by s y) → Gives (is_served m o x s) (is_served n p y s)
served_more m n o p x y s more given settled =
    or_gives (settled_by s x) (settled_by s y) (o || nat_le MOST_INCARNATIONS (m s)) (p || nat_le MOST_INCARNATIONS (n s)) settled
    (or_gives o p (nat_le MOST_INCARNATIONS (m s)) (nat_le MOST_INCARNATIONS (n s)) given (le_more MOST_INCARNATIONS (m s) (n s) more))

leads_more : (m n : ℕ → ℕ) (o p : Bool) (x y : Option LauncherEvent) (J : List (Entry LauncherEvent)) (e : LauncherEvent) → ((s : ℕ) → m s ≤ n s) → Gives o p → ((s : ℕ) → Gives (settled_by s x) (settled_by s y)) → Gives (leads_to m o x J e) (leads_to n p y J e)
leads_more m n o p x y J (event.Asked s) more given settled = served_more m n o p x y s (more s) given (settled s)
leads_more m n o p x y J (event.Failed s k) more given settled =
    or_gives (not (k == begun J s)) (not (k == begun J s)) (is_served m o x s) (is_served n p y s) (λ h. h) (served_more m n o p x y s (more s) given (settled s))
leads_more m n o p x y J (event.Crashed s k) more given settled =
    or_gives (not (k == begun J s)) (not (k == begun J s)) (is_served m o x s) (is_served n p y s) (λ h. h) (served_more m n o p x y s (more s) given (settled s))
leads_more m n o p x y J (event.Begun s k) more given settled = λ h. refl
leads_more m n o p x y J (event.Dead s k) more given settled = λ h. refl

-- what is given an end waits no longer
served_ended : (m : ℕ → ℕ) (x : Option LauncherEvent) (s : ℕ) → is_served m true x s ≡ true
served_ended m x s = or_true (settled_by s x) true refl

leads_ended : (m : ℕ → ℕ) (o : Bool) (x : Option LauncherEvent) (J : List (Entry LauncherEvent)) (e : LauncherEvent) → o ≡ true → leads_to m o x J e ≡ true
leads_ended m o x J (event.Asked s) given = rw (given) (served_ended m x s)
leads_ended m o x J (event.Failed s k) given = rw (given) (or_true (not (k == begun J s)) (is_served m true x s) (served_ended m x s))
leads_ended m o x J (event.Crashed s k) given = rw (given) (or_true (not (k == begun J s)) (is_served m true x s) (served_ended m x s))
leads_ended m o x J (event.Begun s k) given = refl
leads_ended m o x J (event.Dead s k) given = refl

-- ---- the item behind an event

-- want of memory stands behind the event before which there are n, in one list and in the other
abbrev pub WantsIn : List Own → List Own → Type 0
WantsIn I K = (n : ℕ) → Gives (is_want (item_after_nth n None I)) (is_want (item_after_nth n None K))

found_below : (n : ℕ) (x : Option Own) (I : List Own) → is_want (item_after_nth n x I) ≡ true → n < launcher_count I
found_below n x [] h = absurd (let bad : false ≡ true = h in let never : ⊥ = cc in never)
found_below n x (i ∷ I) h = at ((is_launcher_item i == 1) && (launcher_count I == n)) refl (found_below n (Some i) I) h
  where
    at : (b : Bool) → ((is_launcher_item i == 1) && (launcher_count I == n)) ≡ b → (is_want (item_after_nth n (Some i) I) ≡ true → n < launcher_count I) → is_want (cond b x (item_after_nth n (Some i) I)) ≡ true
        → n < launcher_count (i ∷ I)
    at true is below want =
        let both = both_true (is_launcher_item i == 1) (launcher_count I == n) is in
        let one : is_launcher_item i ≡ 1 = eqb-true (is_launcher_item i) 1 both.0 in
        let here : launcher_count I ≡ n = eqb-true (launcher_count I) n both.1 in
        omega (arith, one, here)
    at false is below want = let rest : n < launcher_count I = below want in omega (arith, rest)

want_whatever : (n : ℕ) (y : Option Own) (I : List Own) → Gives (is_want (item_after_nth n None I)) (is_want (item_after_nth n y I))
want_whatever n y [] h = h
want_whatever n y (i ∷ I) h = at ((is_launcher_item i == 1) && (launcher_count I == n)) h
  where
    at : (b : Bool) → is_want (cond b None (item_after_nth n (Some i) I)) ≡ true → is_want (cond b y (item_after_nth n (Some i) I)) ≡ true
    at true want = false_gives (is_want y) want
    at false want = want

never_here : (n m : ℕ) → n < m → m ≡ n → ⊥
never_here n m less is = omega (arith, less, is)

-- it does where an item comes on top
pub wants_on : (i : Own) (I : List Own) → WantsIn I (i ∷ I)
wants_on i I n h = at ((is_launcher_item i == 1) && (launcher_count I == n)) refl
  where
    at : (b : Bool) → ((is_launcher_item i == 1) && (launcher_count I == n)) ≡ b → is_want (cond b None (item_after_nth n (Some i) I)) ≡ true
    at true is =
        let both = both_true (is_launcher_item i == 1) (launcher_count I == n) is in
        absurd (never_here n (launcher_count I) (found_below n None I h) (eqb-true (launcher_count I) n both.1))
    at false is = want_whatever n (Some i) I h

pub wants_all : (more I : List Own) → WantsIn I (more ++ I)
wants_all [] I n h = h
wants_all (i ∷ more) I n h = wants_on i (more ++ I) n (wants_all more I n h)

-- ---- entries of a worker

pub own_more : (w : ℕ) (m n : ℕ → ℕ) (o p : Bool) (I K : List Own) (x y : Option LauncherEvent) (J : List (Entry LauncherEvent)) → ((s : ℕ) → m s ≤ n s) → Gives o p → WantsIn I K → ((s : ℕ) → Gives (settled_by s x) (settled_by s y))
    → Gives (own_lead w m o I x J) (own_lead w n p K y J)
own_more w m n o p I K x y [] more given wants settled = λ h. refl
own_more w m n o p I K x y (e ∷ J) more given wants settled =
    at (e.worker == w) (own_more w m n false false I K (Some e.event) (Some e.event) J more (λ g. g) wants (λ s g. g)) (own_more w m n o p I K x y J more given wants settled)
  where
    at : (b : Bool) → Gives (own_lead w m false I (Some e.event) J) (own_lead w n false K (Some e.event) J) → Gives (own_lead w m o I x J) (own_lead w n p K y J)
        → Gives (cond b (leads_to m (o || is_want (item_after_nth (count_of w J) None I)) x J e.event && own_lead w m false I (Some e.event) J) (own_lead w m o I x J))
        (cond b (leads_to n (p || is_want (item_after_nth (count_of w J) None K)) y J e.event && own_lead w n false K (Some e.event) J) (own_lead w n p K y J))
    at true mine rest h =
        let old = is_want (item_after_nth (count_of w J) None I) in
        let new = is_want (item_after_nth (count_of w J) None K) in
        let both = both_true (leads_to m (o || old) x J e.event) (own_lead w m false I (Some e.event) J) h in
        and_both (leads_to n (p || new) y J e.event) (own_lead w n false K (Some e.event) J)
        (leads_more m n (o || old) (p || new) x y J e.event more (or_gives o p old new given (wants (count_of w J))) settled both.0)
        (mine both.1)
    at false mine rest h = rest h

-- others' entries
pub own_beside : (w : ℕ) (m : ℕ → ℕ) (o : Bool) (I : List Own) (x : Option LauncherEvent) (more J : List (Entry LauncherEvent)) → AllForeign w more → own_lead w m o I x (more ++ J) ≡ own_lead w m o I x J
own_beside w m o I x [] J foreign = refl
own_beside w m o I x (e ∷ more) J foreign = rw (ne_eqb e.worker w foreign.0) (own_beside w m o I x more J foreign.1)

pub count_beside : (w : ℕ) (more J : List (Entry LauncherEvent)) → AllForeign w more → count_of w (more ++ J) ≡ count_of w J
count_beside w [] J foreign = refl
count_beside w (e ∷ more) J foreign = rw (ne_eqb e.worker w foreign.0) (count_beside w more J foreign.1)

-- one's own
count_own : (w : ℕ) (e : LauncherEvent) (J : List (Entry LauncherEvent)) → count_of w (record { worker = w; event = e } ∷ J) ≡ suc (count_of w J)
count_own w e J = rw (eq-eqb w w refl) refl

count_turn : (w : ℕ) (events : List LauncherEvent) (J : List (Entry LauncherEvent)) → count_of w (entries_by w events ++ J) ≡ length events + count_of w J
count_turn w [] J = omega arith
count_turn w (e ∷ events) J =
    let rest : count_of w (entries_by w events ++ J) ≡ length events + count_of w J = count_turn w events J in
    let here : count_of w (entries_by w (e ∷ events) ++ J) ≡ suc (count_of w (entries_by w events ++ J)) = count_own w e (entries_by w events ++ J) in
    omega (arith, rest, here)

items_turn : (events : List LauncherEvent) (I : List Own) → launcher_count (map own.Launcher events ++ I) ≡ length events + launcher_count I
items_turn [] I = omega arith
items_turn (e ∷ events) I = let rest : launcher_count (map own.Launcher events ++ I) ≡ length events + launcher_count I = items_turn events I in omega (arith, rest)

-- what was begun
at_least : (b : Bool) (k g : ℕ) → g ≤ cond b (max k g) g
at_least true k g = omega arith
at_least false k g = omega arith

begun_after_one : (e : Entry LauncherEvent) (J : List (Entry LauncherEvent)) (s : ℕ) → begun J s ≤ begun (e ∷ J) s
begun_after_one e J s = by e.event
  where
    by : (v : LauncherEvent) → begun J s ≤ begun (record { worker = e.worker; event = v } ∷ J) s
    by (event.Begun t k) = at_least (t == s) k (begun J s)
    by (event.Failed t k) = omega arith
    by (event.Crashed t k) = omega arith
    by (event.Dead t n) = omega arith
    by (event.Asked t) = omega arith

pub begun_more : (more J : List (Entry LauncherEvent)) (s : ℕ) → begun J s ≤ begun (more ++ J) s
begun_more [] J s = omega arith
begun_more (e ∷ more) J s = let rest : begun J s ≤ begun (more ++ J) s = begun_more more J s in let here : begun (more ++ J) s ≤ begun (e ∷ (more ++ J)) s = begun_after_one e (more ++ J) s in omega arith

-- ---- what a worker does

-- others enter
pub leads_beside : (w : ℕ) (o : Bool) (I : List Own) (more S : List (Entry LauncherEvent)) → AllForeign w more → LeadsSo w o I S → LeadsSo w o I (more ++ S)
leads_beside w o I more S foreign h = record {
  counted = h.counted ∙ sym (count_beside w more S foreign);
  lead = own_beside w (begun (more ++ S)) o I None more S foreign ∙ own_more w (begun S) (begun (more ++ S)) o o I I None None S (begun_more more S) (λ g. g) (λ n g. g) (λ s g. g) h.lead;
  last = h.last;
}

-- it notes what is no event at the launcher
pub leads_item : (w : ℕ) (i : Own) (I : List Own) (S : List (Entry LauncherEvent)) → is_launcher_item i ≡ 0 → LeadsSo w false I S → LeadsSo w false (i ∷ I) S
leads_item w i I S none h = record {
  counted = let c : launcher_count I ≡ count_of w S = h.counted in omega (arith, c, none);
  lead = own_more w (begun S) (begun S) false false I (i ∷ I) None None S (λ s. omega arith) (λ g. g) (wants_on i I) (λ s g. g) h.lead;
  last = λ bad. false_gives (ends_in_launch (i ∷ I)) bad;
}

-- it notes want of memory, which ends what was owed
want_here : (i : Own) (I : List Own) (n : ℕ) → (is_launcher_item i == 1) ≡ true → launcher_count I ≡ n → is_want (item_after_nth n None (own.NoMemory ∷ i ∷ I)) ≡ true
want_here i I n is here = rw (is, eq-eqb (launcher_count I) n here) refl

noted_lead : (w : ℕ) (m : ℕ → ℕ) (i : Own) (I : List Own) (S : List (Entry LauncherEvent)) → (is_launcher_item i == 1) ≡ true → launcher_count (i ∷ I) ≡ count_of w S → own_lead w m true (i ∷ I) None S ≡ true
    → own_lead w m false (own.NoMemory ∷ i ∷ I) None S ≡ true
noted_lead w m i I [] is counted h = refl
noted_lead w m i I (e ∷ S) is counted h = at (e.worker == w) refl (noted_lead w m i I S is) h
  where
    at : (b : Bool) → (e.worker == w) ≡ b → (launcher_count (i ∷ I) ≡ count_of w S → own_lead w m true (i ∷ I) None S ≡ true → own_lead w m false (own.NoMemory ∷ i ∷ I) None S ≡ true)
        → cond b (leads_to m true None S e.event && own_lead w m false (i ∷ I) (Some e.event) S) (own_lead w m true (i ∷ I) None S) ≡ true
        → cond b (leads_to m (is_want (item_after_nth (count_of w S) None (own.NoMemory ∷ i ∷ I))) None S e.event && own_lead w m false (own.NoMemory ∷ i ∷ I) (Some e.event) S) (own_lead w m false (own.NoMemory ∷ i ∷ I) None S) ≡ true
    at true mine rest lead =
        let all : count_of w (e ∷ S) ≡ suc (count_of w S) = rw (mine) refl in
        let one : is_launcher_item i ≡ 1 = eqb-true (is_launcher_item i) 1 is in
        let here : launcher_count I ≡ count_of w S = omega (arith, counted, all, one) in
        let both = both_true (leads_to m true None S e.event) (own_lead w m false (i ∷ I) (Some e.event) S) lead in
        and_both (leads_to m (is_want (item_after_nth (count_of w S) None (own.NoMemory ∷ i ∷ I))) None S e.event) (own_lead w m false (own.NoMemory ∷ i ∷ I) (Some e.event) S)
        (leads_ended m (is_want (item_after_nth (count_of w S) None (own.NoMemory ∷ i ∷ I))) None S e.event (want_here i I (count_of w S) is here))
        (own_more w m m false false (i ∷ I) (own.NoMemory ∷ i ∷ I) (Some e.event) (Some e.event) S (λ s. omega arith) (λ g. g) (wants_on own.NoMemory (i ∷ I)) (λ s g. g) both.1)
    at false other rest lead =
        let all : count_of w (e ∷ S) ≡ count_of w S = rw (other) refl in
        rest (counted ∙ all) lead

want_lead : (w : ℕ) (o : Bool) (I : List Own) (S : List (Entry LauncherEvent)) → LeadsSo w o I S → own_lead w (begun S) false (own.NoMemory ∷ I) None S ≡ true
want_lead w false I S h = own_more w (begun S) (begun S) false false I (own.NoMemory ∷ I) None None S (λ s. omega arith) (λ g. g) (wants_on own.NoMemory I) (λ s g. g) h.lead
want_lead w true [] S h = absurd (let bad : false ≡ true = h.last refl in let never : ⊥ = cc in never)
want_lead w true (i ∷ I) S h = noted_lead w (begun S) i I S (h.last refl) h.counted h.lead

pub leads_want : (w : ℕ) (o : Bool) (I : List Own) (S : List (Entry LauncherEvent)) → LeadsSo w o I S → LeadsSo w false (own.NoMemory ∷ I) S
leads_want w o I S h = record {
  counted = let c : launcher_count I ≡ count_of w S = h.counted in omega (arith, c);
  lead = want_lead w o I S h;
  last = λ bad. false_gives (ends_in_launch (own.NoMemory ∷ I)) bad;
}

-- it takes a turn
turn_lead : (w : ℕ) (m : ℕ → ℕ) (o : Bool) (x : Option LauncherEvent) (events : List LauncherEvent) (I : List Own) (B : List (Entry LauncherEvent)) → own_lead w m false I None B ≡ true → turn_leads w m o x events B ≡ true
    → own_lead w m o I x (entries_by w events ++ B) ≡ true
turn_lead w m o x [] I B before h = own_more w m m false o I I None x B (λ s. omega arith) (false_gives o) (λ n g. g) (λ s. false_gives (settled_by s x)) before
turn_lead w m o x (e ∷ events) I B before h =
    let both = both_true (leads_to m o x (entries_by w events ++ B) e) (turn_leads w m false (Some e) events B) h in
    let want = is_want (item_after_nth (count_of w (entries_by w events ++ B)) None I) in
    rw (eq-eqb w w refl)
    (and_both (leads_to m (o || want) x (entries_by w events ++ B) e) (own_lead w m false I (Some e) (entries_by w events ++ B))
    (leads_more m m o (o || want) x x (entries_by w events ++ B) e (λ s. omega arith) (λ g. true_or o want g) (λ s g. g) both.0)
    (turn_lead w m false (Some e) events I B before both.1))

ends_turn : (starved : Bool) (events : List LauncherEvent) (I : List Own) → owes starved events ≡ true → ends_in_launch (map own.Launcher events ++ I) ≡ true
ends_turn starved [] I h = false_gives (ends_in_launch I) h
ends_turn starved (e ∷ events) I h = refl

pub leads_turn : (w : ℕ) (starved : Bool) (events : List LauncherEvent) (I : List Own) (more S now : List (Entry LauncherEvent)) → AllForeign w more → now ≡ entries_by w events ++ (more ++ S)
    → turn_leads w (begun now) (owes starved events) None events (more ++ S) ≡ true → LeadsSo w false I S → LeadsSo w (owes starved events) (map own.Launcher events ++ I) now
leads_turn w starved events I more S now foreign is turn h = subst (λ (K : List (Entry LauncherEvent)). LeadsSo w (owes starved events) (map own.Launcher events ++ I) K) (sym is) (record {
  counted = let c : launcher_count I ≡ count_of w S = h.counted in omega (arith, c, items_turn events I, count_turn w events (more ++ S), count_beside w more S foreign);
  lead = turn_lead w m (owes starved events) None events (map own.Launcher events ++ I) (more ++ S) before turned;
  last = ends_turn starved events I;
})
  where
    m : ℕ → ℕ
    m = begun (entries_by w events ++ (more ++ S))

    turned : turn_leads w m (owes starved events) None events (more ++ S) ≡ true
    turned = subst (λ (K : List (Entry LauncherEvent)). turn_leads w (begun K) (owes starved events) None events (more ++ S) ≡ true) is turn

    most : (s : ℕ) → begun S s ≤ m s
    most s =
        let a : begun S s ≤ begun (more ++ S) s = begun_more more S s in
        let b : begun (more ++ S) s ≤ begun (entries_by w events ++ (more ++ S)) s = begun_more (entries_by w events) (more ++ S) s in
        omega arith

    before : own_lead w m false (map own.Launcher events ++ I) None (more ++ S) ≡ true
    before = own_beside w m false (map own.Launcher events ++ I) None more S foreign
        ∙ own_more w (begun S) m false false I (map own.Launcher events ++ I) None None S most (λ g. g) (wants_all (map own.Launcher events) I) (λ s g. g) h.lead

-- nothing was entered or noted
pub leads_blank : (w : ℕ) → LeadsSo w false [] []
leads_blank w = record { counted = refl; lead = refl; last = λ bad. false_gives false bad }

-- ---- all workers

-- the first event of w among these entries
first_own : ℕ → List (Entry LauncherEvent) → Option LauncherEvent
first_own w [] = None
first_own w (e ∷ later) = cond (e.worker == w) (Some e.event) (first_own w later)

settled_first : (w s : ℕ) (later : List (Entry LauncherEvent)) → settled_by s (first_own w later) ≡ settles_next w s later
unfolding first_own
settled_first w s [] = refl
settled_first w s (e ∷ later) = at (e.worker == w) (settled_first w s later)
  where
    at : (b : Bool) → settled_by s (first_own w later) ≡ settles_next w s later → settled_by s (cond b (Some e.event) (first_own w later)) ≡ cond b (settles s e.event) (settles_next w s later)
    at true rest = refl
    at false rest = rest

served_settled : (R : Record) (w s : ℕ) (later J : List (Entry LauncherEvent)) → is_served (begun R.launcher) (wants_next R w J) (first_own w later) s ≡ true → is_settled R w s later J ≡ true
served_settled R w s later J h =
    or_gives (settled_by s (first_own w later)) (settles_next w s later) (wants_next R w J || nat_le MOST_INCARNATIONS (begun R.launcher s)) (others_settle w s later || (wants_next R w J || nat_le MOST_INCARNATIONS (begun R.launcher s)))
    (λ g. sym (settled_first w s later) ∙ g) (λ g. or_true (others_settle w s later) (wants_next R w J || nat_le MOST_INCARNATIONS (begun R.launcher s)) g) h

one_leads : (R : Record) (w : ℕ) (later J : List (Entry LauncherEvent)) (e : LauncherEvent) → leads_to (begun R.launcher) (wants_next R w J) (first_own w later) J e ≡ true → leads_on R w later J e ≡ true
one_leads R w later J (event.Asked s) h = served_settled R w s later J h
one_leads R w later J (event.Failed s k) h =
    or_gives (not (k == begun J s)) (not (k == begun J s)) (is_served (begun R.launcher) (wants_next R w J) (first_own w later) s) (is_settled R w s later J) (λ g. g) (served_settled R w s later J) h
one_leads R w later J (event.Crashed s k) h =
    or_gives (not (k == begun J s)) (not (k == begun J s)) (is_served (begun R.launcher) (wants_next R w J) (first_own w later) s) (is_settled R w s later J) (λ g. g) (served_settled R w s later J) h
one_leads R w later J (event.Begun s k) h = refl
one_leads R w later J (event.Dead s n) h = refl

all_lead : (R : Record) (later J : List (Entry LauncherEvent)) → ((w : ℕ) → own_lead w (begun R.launcher) false (worker_list R w) (first_own w later) J ≡ true) → all_lead_on R later J ≡ true
unfolding first_own
all_lead R later [] h = refl
all_lead R later (e ∷ J) h = and_both (leads_on R e.worker later J e.event) (all_lead_on R (e ∷ later) J) (one_leads R e.worker later J e.event here.0) (all_lead R (e ∷ later) J rest)
  where
    here : (leads_to (begun R.launcher) (wants_next R e.worker J) (first_own e.worker later) J e.event ≡ true) × (own_lead e.worker (begun R.launcher) false (worker_list R e.worker) (Some e.event) J ≡ true)
    here =
        let own : cond (e.worker == e.worker) (leads_to (begun R.launcher) (wants_next R e.worker J) (first_own e.worker later) J e.event && own_lead e.worker (begun R.launcher) false (worker_list R e.worker) (Some e.event) J)
        (own_lead e.worker (begun R.launcher) false (worker_list R e.worker) (first_own e.worker later) J) ≡ true = h e.worker in
        both_true (leads_to (begun R.launcher) (wants_next R e.worker J) (first_own e.worker later) J e.event) (own_lead e.worker (begun R.launcher) false (worker_list R e.worker) (Some e.event) J)
        (subst (λ (b : Bool). cond b (leads_to (begun R.launcher) (wants_next R e.worker J) (first_own e.worker later) J e.event && own_lead e.worker (begun R.launcher) false (worker_list R e.worker) (Some e.event) J)
        (own_lead e.worker (begun R.launcher) false (worker_list R e.worker) (first_own e.worker later) J) ≡ true) (eq-eqb e.worker e.worker refl) own)

    rest : (w : ℕ) → own_lead w (begun R.launcher) false (worker_list R w) (first_own w (e ∷ later)) J ≡ true
    rest w = at (e.worker == w) (h w)
      where
        at : (b : Bool) → cond b (leads_to (begun R.launcher) (wants_next R w J) (first_own w later) J e.event && own_lead w (begun R.launcher) false (worker_list R w) (Some e.event) J)
            (own_lead w (begun R.launcher) false (worker_list R w) (first_own w later) J) ≡ true
            → own_lead w (begun R.launcher) false (worker_list R w) (cond b (Some e.event) (first_own w later)) J ≡ true
        at true g = (both_true (leads_to (begun R.launcher) (wants_next R w J) (first_own w later) J e.event) (own_lead w (begun R.launcher) false (worker_list R w) (Some e.event) J) g).1
        at false g = g

pub workers_lead : (R : Record) → ((w : ℕ) → leads_in R w (worker_list R w) ≡ true) → all_lead_on R [] R.launcher ≡ true
unfolding first_own
workers_lead R h = all_lead R [] R.launcher h
