-- How a run's cell goes on step by step, and what that prints.
use Rattle.std.proofs.Common.{◌≡◌, ◌≢◌, ◌∙◌, ◌<◌, ℕ, zero, suc, ◌+◌, ◌-◌, Bool, true, false, List, [], ◌∷◌, ◌++◌, Option, Some, None, ◌≤◌, length, get_or, take, drop, reverse, refl, sym, ap, subst, arith, inl, inr, append_assoc, append-nil, take-append-drop}
use Rattle.std.specs.Prelude.{◌==◌, ◌||◌, ◌&&◌, not, ◌↔◌, slice_set, slice_get, is_some, IsTrue, IsSome, IfSome, Result, Ok, Err}
use Rattle.std.specs.declared.alloc.AllocError.{AllocError}
use Rattle.std.proofs.lemmas.Bool.{eqb-false}
use Rattle.std.proofs.lemmas.Option.{slice_get_within, get_or_from_slice_get, same_Some}
use Rattle.std.proofs.lemmas.List.{length-set, take_more, reverse-append, reverse-reverse}
use Rattle.std.proofs.lemmas.List.Concat.{flat_map-append}
use Rattle.okws_base.specs.Runs.{Each}
use Rattle.okws_plan.specs.declared.configuration.Config.{Config}
use Rattle.okws_plan.specs.declared.script.Line.TheVariants as line
use Rattle.okws_outer.specs.Printing.{Printer, PrintsOn, PrintsFront, PrintsAs}
use Rattle.okws_outer.proofs.Printed.{nothing_on, then_on, no_front, front_before, front_then}
use Rattle.monitor_model.specs.declared.record.CellEvent.{CellEvent}
use Rattle.monitor_model.specs.declared.record.CellEvent.TheVariants as cell
use Rattle.monitor_model.specs.declared.record.Dialog.{Dialog}
use Rattle.monitor_model.specs.declared.record.Item.{Item}
use Rattle.monitor_model.specs.Answering.{end_response}
use Rattle.monitor_model.specs.Cell.{incarnation}
use Rattle.monitor_model.specs.Script.{Advances, Begun, GoesOn, IsReady, broken, given, has_ended, greatest, opening_text, dialog_opened, is_pending, is_busy_at, is_busy_request, marked}
use Rattle.monitor_model.specs.Stage.{Stage, Stand, Opened, Asked, stand, marked_begun}
use Rattle.service_cell.specs.Ending.{EndsOtherwise, IsLast}
use Rattle.service_cell.specs.Exchange.{IsSpelled}
use Rattle.okws_play.specs.Cells.{AreBytes, left_to_do}
use Rattle.okws_play.specs.Printed.{last_response, item_text, items_text, newest_of, newest_text, RunsAs, StepsAs, BeginsAs, DoesAs}
use Rattle.okws_play.specs.Run.{Run, at_stage}
use Rattle.service_cell.specs.Standing.{Open, Standing}
use Rattle.okws_play.proofs.Printing.{same_front, same_as}
use Rattle.okws_play.proofs.Cells.{bytes_both, stand_set}
use Rattle.okws_play.proofs.Lawful.{SomeSteps, SomeBegin, some_steps, some_begin, opened_steps, advances_less}

-- ---- a step

-- a step whose text is printed, or a front of it
pub stepped : (r : Result (Unit {0}) AllocError) (s : ℕ) (R now : Run) (o : Opened) (text : List ℕ) (a b : Printer) → s < length R.stage.stands → AreBytes (stand R.stage s).left → (stand R.stage s).open_dialog ≡ Some o → IsReady (stand R.stage s)
    → Advances R.config s o R.stage text now.stage → now ≡ at_stage R now.stage → PrintsAs r a b text → StepsAs s R a b r now
stepped (Ok done) s R now o text a b below bytes is_open ready step is printed = (o, text, is_open, ready, step, is, printed)
stepped (Err e) s R now o text a b below bytes is_open ready step is printed =
    let less = advances_less R.config s o R.stage now.stage text below bytes is_open step in
    let rest = some_steps R.config s now.stage (omega (arith, below, less.long)) less.bytes in
    (suc rest.steps, text ++ rest.text, rest.now, (o, now.stage, text, rest.text, is_open, ready, step, rest.goes, refl), front_before a b text rest.text printed)

-- before anything was printed
pub starved : (e : AllocError) (s : ℕ) (R now : Run) (a : Printer) → s < length R.stage.stands → AreBytes (stand R.stage s).left → RunsAs s R a a (Err e) now
starved e s R now a below bytes =
    let rest = some_steps R.config s R.stage below bytes in
    (rest.steps, rest.text, rest.now, rest.goes, no_front a rest.text)

-- ---- steps

-- steps of the is_open dialog of s, so many, that led from one state to another and printed this
abbrev pub Went : Config → ℕ → ℕ → Stage → List ℕ → Stage → Type 0
Went C s zero S text now = (text ≡ []) × (now ≡ S)
Went C s (suc steps) S text now =
    (opened : Opened) × (mid : Stage) × (before more : List ℕ) × Went C s steps S before mid × ((stand mid s).open_dialog ≡ Some opened) × IsReady (stand mid s)
    × Advances C s opened mid more now × (text ≡ before ++ more)

-- steps that led to a state from which the cell goes on
went_on : (C : Config) (s steps more : ℕ) (S mid now : Stage) (before after : List ℕ) → Went C s steps S before mid → GoesOn C s more mid after now → (all : ℕ) × GoesOn C s all S (before ++ after) now
went_on C s zero more S mid now before after went goes = (more, rw (went.0, sym went.1) goes)
went_on C s (suc steps) more S mid now before after went goes =
    let rest = went_on C s steps (suc more) S went.1 now went.2 (went.3 ++ after) went.4 (went.0, mid, went.3, after, went.5, went.6, went.7, goes, refl) in
    (rest.0, rw (went.8, append_assoc went.2 went.3 after) rest.1)

-- so far the cell went on
abbrev pub HasGone : ℕ → Run → Printer → Printer → Run → Type 0
HasGone s R a b now = (steps : ℕ) × (text : List ℕ) × Went R.config s steps R.stage text now.stage × (now ≡ at_stage R now.stage) × PrintsOn a b text

pub gone_none : (s : ℕ) (R : Run) (a : Printer) → HasGone s R a a R
gone_none s R a = (0, [], (refl, refl), refl, nothing_on a)

pub gone_more : (done : Unit {0}) (s : ℕ) (R mid now : Run) (a b c : Printer) → HasGone s R a b mid → StepsAs s mid b c (Ok done) now → HasGone s R a c now
gone_more done s R mid now a b c gone h =
    let config : mid.config ≡ R.config = ap (λ (x : Run). x.config) gone.3 in
    let advances : Advances R.config s h.0 mid.stage h.1 now.stage = subst (λ (C : Config). Advances C s h.0 mid.stage h.1 now.stage) config h.4 in (
      suc gone.0,
      gone.1 ++ h.1,
      (h.0, mid.stage, gone.1, h.1, gone.2, h.2, h.3, advances, refl),
      h.5 ∙ ap (λ (x : Run). at_stage x now.stage) gone.3,
      then_on a b c gone.1 h.1 gone.4 h.6,
    )

pub gone_off : (done : Unit {0}) (s : ℕ) (R now : Run) (a b : Printer) → HasGone s R a b now → ((opened : Opened) → (stand now.stage s).open_dialog ≡ Some opened → IsReady (stand now.stage s) → ⊥) → RunsAs s R a b (Ok done) now
gone_off done s R now a b gone ends =
    let all = went_on R.config s gone.0 0 R.stage now.stage now.stage gone.1 [] gone.2 (refl, refl, ends) in
    (all.0, gone.1, rw (append-nil gone.1) at all.1, gone.3, gone.4)

pub gone_stopped : (e : AllocError) (s : ℕ) (R mid now last : Run) (a b c : Printer) → HasGone s R a b mid → RunsAs s mid b c (Err e) now → RunsAs s R a c (Err e) last
gone_stopped e s R mid now last a b c gone h =
    let config : mid.config ≡ R.config = ap (λ (x : Run). x.config) gone.3 in
    let goes : GoesOn R.config s h.0 mid.stage h.1 h.2 = subst (λ (C : Config). GoesOn C s h.0 mid.stage h.1 h.2) config h.3 in
    let all = went_on R.config s gone.0 h.0 R.stage mid.stage h.2 gone.1 h.1 gone.2 goes in
    (all.0, gone.1 ++ h.1, h.2, all.1, front_then a b c gone.1 h.1 gone.4 h.4)

-- ---- the response of the last event

pub last_other : (J : List CellEvent) (method : List ℕ) → EndsOtherwise J → last_response J method ≡ []
last_other [] method h = refl
last_other (cell.Boot k ∷ J) method h = refl
last_other (cell.Retired ∷ J) method h = refl
last_other (cell.Missed worker wanted is ∷ J) method h = refl
last_other (cell.Dialog d ∷ J) method h = absurd h
last_other (cell.Speaking worker items ∷ J) method h = refl

pub last_dialog : (d : Dialog) (J : List CellEvent) (method : List ℕ) → IsLast (Some d) J → end_response d.end d.items method ≡ last_response J method
last_dialog d J method h = rw h.1 refl

-- ---- items one after the other

pub each_at : {A : Type 0} (P : A → Type 0) (xs : List A) (i : ℕ) (d : A) → Each P xs → i < length xs → P (get_or xs i d)
each_at P [] i d h below = absurd (omega (arith, below))
each_at P (x ∷ xs) zero d h below = h.0
each_at P (x ∷ xs) (suc i) d h below = each_at P xs i d h.1 (omega (arith, below))

pub items_more : (C : Config) (s k i : ℕ) (xs : List Item) (x : Item) → x ≡ get_or xs i x → i < length xs → items_text C s k (take i xs) ++ item_text C s k x ≡ items_text C s k (take (i + 1) xs)
items_more C s k i xs x is below =
    sym (ap (λ (t : List Item). items_text C s k t) (take_more xs i x below) ∙ flat_map-append (item_text C s k) (take i xs) (get_or xs i x ∷ []) ∙ rw (append-nil (item_text C s k (get_or xs i x)), ← is) refl)

-- what is printed of a front of the items is a front of what is printed of all
pub items_front : (C : Config) (s k i : ℕ) (xs : List Item) → items_text C s k (take i xs) ++ items_text C s k (drop i xs) ≡ items_text C s k xs
items_front C s k i xs = sym (flat_map-append (item_text C s k) (take i xs) (drop i xs)) ∙ ap (items_text C s k) (take-append-drop i xs)

-- memory was refused at an item
pub items_cut : (C : Config) (s k i : ℕ) (xs : List Item) (x : Item) (a m b : Printer) → x ≡ get_or xs i x → i < length xs → PrintsOn a m (items_text C s k (take i xs)) → PrintsFront m b (item_text C s k x) → PrintsFront a b (items_text C s k xs)
items_cut C s k i xs x a m b is below before here =
    let rest : List ℕ = items_text C s k (drop (i + 1) xs) in
    same_front a b ((items_text C s k (take i xs) ++ item_text C s k x) ++ rest) (items_text C s k xs) (ap (λ (t : List ℕ). t ++ rest) (items_more C s k i xs x is below) ∙ items_front C s k (i + 1) xs)
    (front_before a b (items_text C s k (take i xs) ++ item_text C s k x) rest (front_then a m b (items_text C s k (take i xs)) (item_text C s k x) before here))

each_front : {A : Type 0} (P : A → Type 0) (xs ys : List A) → Each P (xs ++ ys) → Each P xs
each_front P [] ys h = tt
each_front P (x ∷ xs) ys h = (h.0, each_front P xs ys h.1)

each_back : {A : Type 0} (P : A → Type 0) (xs ys : List A) → Each P (xs ++ ys) → Each P ys
each_back P [] ys h = h
each_back P (x ∷ xs) ys h = each_back P xs ys h.1

each_reversed : {A : Type 0} (P : A → Type 0) (xs : List A) → Each P (reverse xs) → Each P xs
each_reversed P [] h = tt
each_reversed {A} P (x ∷ xs) h =
    let e : Each P (reverse xs ++ x ∷ []) = subst (λ (t : List A). Each P t) (reverse-append (x ∷ []) xs) h in
    ((each_back P (reverse xs) (x ∷ []) e).0, each_reversed P xs (each_front P (reverse xs) (x ∷ []) e))

-- the items of the last step
pub newest_spelled : (o : Option Open) (xs : List Item) → IsSome o → Each IsSpelled (newest_of o) → IfSome o (λ (x : Open). reverse xs ≡ x.newest) → Each IsSpelled xs
newest_spelled None xs some h is = absurd cc
newest_spelled (Some o) xs some h is = each_reversed IsSpelled xs (subst (λ (t : List Item). Each IsSpelled t) (sym is) h)

newest_is : (o : Option Open) (xs : List Item) → IsSome o → IfSome o (λ (x : Open). reverse xs ≡ x.newest) → xs ≡ reverse (newest_of o)
newest_is None xs some is = absurd cc
newest_is (Some o) xs some is = sym (reverse-reverse xs) ∙ ap reverse is

pub newest_printed : (r : Result (Unit {0}) AllocError) (C : Config) (c : Standing) (s k : ℕ) (xs : List Item) (a b : Printer) → s ≡ c.service → k ≡ incarnation c.past → IsSome c.open_dialog → IfSome c.open_dialog (λ (x : Open). reverse xs ≡ x.newest)
    → PrintsAs r a b (items_text C s k xs) → PrintsAs r a b (newest_text C c)
newest_printed r C c s k xs a b e f some is printed = same_as r a b (items_text C s k xs) (newest_text C c) (rw (e, f) (ap (items_text C c.service (incarnation c.past)) (newest_is c.open_dialog xs some is))) printed

-- ---- when a cell goes on no longer

pub not_ready : (test : Bool) (o : Option Opened) (ready : Type 0) → (IsTrue test ↔ (IsSome o × ready)) → test ≡ false → (opened : Opened) → o ≡ Some opened → ready → ⊥
not_ready test o ready means off opened is can =
    let some : IsSome o = ap (λ (x : Option Opened). is_some x) is in
    let on : test ≡ true = means.1 (some, can) in
    cc

-- ---- what a service says

by_feed : (k : ℕ) (over test : Bool) → (k == 0) ≡ test → broken (test || over) 7 None ≡ None → k ≢ 0
by_feed k over true is e = absurd cc
by_feed k over false is e = eqb-false k 0 is

pub may_feed : (k : ℕ) (over : Bool) → broken ((k == 0) || over) 7 None ≡ None → k ≢ 0
may_feed k over e = by_feed k over (k == 0) refl e

pub bytes_on : (r : Result (Unit {0}) AllocError) (R fed now : Run) (s : ℕ) (bytes : List ℕ) (a b : Printer) → fed ≡ at_stage R (given s bytes R.stage) → RunsAs s fed a b r now → DoesAs (line.Bytes s bytes) R a b r now
bytes_on (Ok done) R fed now s bytes a b is h =
    let went : RunsAs s (at_stage R (given s bytes R.stage)) a b (Ok done) now = subst (λ (x : Run). RunsAs s x a b (Ok done) now) is h in
    (went.1, (went.0, went.2), went.3, went.4)
bytes_on (Err e) R fed now s bytes a b is h =
    let went : RunsAs s (at_stage R (given s bytes R.stage)) a b (Err e) now = subst (λ (x : Run). RunsAs s x a b (Err e) now) is h in
    (went.1, went.2, (went.0, went.3), went.4)

pub end_on : (r : Result (Unit {0}) AllocError) (R fed now : Run) (s : ℕ) (a b : Printer) → fed ≡ at_stage R (has_ended s R.stage) → RunsAs s fed a b r now → DoesAs (line.End s) R a b r now
end_on (Ok done) R fed now s a b is h =
    let went : RunsAs s (at_stage R (has_ended s R.stage)) a b (Ok done) now = subst (λ (x : Run). RunsAs s x a b (Ok done) now) is h in
    (went.1, (went.0, went.2), went.3, went.4)
end_on (Err e) R fed now s a b is h =
    let went : RunsAs s (at_stage R (has_ended s R.stage)) a b (Err e) now = subst (λ (x : Run). RunsAs s x a b (Err e) now) is h in
    (went.1, went.2, (went.0, went.3), went.4)

-- ---- a dialog begins

-- the request of a dialog, with this head and content
pub record IsAskedAs (requests : List Asked) (n : ℕ) (head content : List ℕ) : Type 0 where
  pub asked : Asked
  pub there : slice_get requests n ≡ Some asked
  pub head_is : asked.head ≡ head
  pub content_is : asked.content ≡ content

asked_by : (o : Option Asked) (head content : List ℕ) → IsSome o → IfSome o (λ (asked : Asked). (asked.head ≡ head) × (asked.content ≡ content)) → (asked : Asked) × (o ≡ Some asked) × (asked.head ≡ head) × (asked.content ≡ content)
asked_by None head content some h = absurd cc
asked_by (Some asked) head content some h = (asked, refl, h.0, h.1)

pub asked_as : (requests : List Asked) (n : ℕ) (head content : List ℕ) → IsSome (slice_get requests n) → IfSome (slice_get requests n) (λ (asked : Asked). (asked.head ≡ head) × (asked.content ≡ content)) → IsAskedAs requests n head content
asked_as requests n head content some h =
    let x = asked_by (slice_get requests n) head content some h in
    record { asked = x.0; there = x.1; head_is = x.2; content_is = x.3 }

-- a dialog that ended as it began
pub begun_as : (r : Result (Unit {0}) AllocError) (n s k : ℕ) (R now : Run) (asked : Asked) (text : List ℕ) (a b : Printer) → slice_get R.stage.requests n ≡ Some asked → Begun R.config n s k asked R.stage text now.stage → now ≡ at_stage R now.stage
    → PrintsAs r a b text → BeginsAs n s k R a b r now
begun_as (Ok done) n s k R now asked text a b there begins is printed = (asked, text, there, begins, is, printed)
begun_as (Err e) n s k R now asked text a b there begins is printed = (asked, text, now.stage, there, begins, printed)

-- before anything was printed
pub begun_none : (e : AllocError) (n s k : ℕ) (R now : Run) (asked : Asked) (a : Printer) → slice_get R.stage.requests n ≡ Some asked → s < length R.stage.stands → AreBytes (stand R.stage s).left → BeginsAs n s k R a a (Err e) now
begun_none e n s k R now asked a there below bytes =
    let some = some_begin R.config n s k asked R.stage below bytes in
    (asked, some.text, some.now, there, some.begins, no_front a some.text)

-- a dialog that is is_open
pub record IsBegun (n s k : ℕ) (R mid : Run) (asked : Asked) : Type 0 where
  pub there : slice_get R.stage.requests n ≡ Some asked
  pub is : incarnation (stand R.stage s).past ≡ k
  pub current : greatest R.stage s ≤ k
  pub state : mid ≡ at_stage R (dialog_opened R.config n s k asked R.stage)

pub begun_cut : (f : AllocError) (n s k : ℕ) (R mid now : Run) (asked : Asked) (a b : Printer) → IsBegun n s k R mid asked → s < length R.stage.stands → AreBytes (stand R.stage s).left
    → PrintsFront a b (opening_text R.config s k asked R.stage) → BeginsAs n s k R a b (Err f) now
begun_cut f n s k R mid now asked a b h below bytes printed =
    let rest = opened_steps R.config n s k asked R.stage below bytes in
    (asked, opening_text R.config s k asked R.stage ++ rest.text, rest.now, h.there, inr (inr (h.is, h.current, rest.steps, rest.text, rest.goes, refl)), front_before a b (opening_text R.config s k asked R.stage) rest.text printed)

pub begun_on : (r : Result (Unit {0}) AllocError) (n s k : ℕ) (R mid now : Run) (asked : Asked) (a b c : Printer) → IsBegun n s k R mid asked → PrintsOn a b (opening_text R.config s k asked R.stage) → RunsAs s mid b c r now → BeginsAs n s k R a c r now
begun_on (Ok done) n s k R mid now asked a b c h printed ran =
    let went : RunsAs s (at_stage R (dialog_opened R.config n s k asked R.stage)) b c (Ok done) now = subst (λ (x : Run). RunsAs s x b c (Ok done) now) h.state ran in
    (asked, opening_text R.config s k asked R.stage ++ went.1, h.there, inr (inr (h.is, h.current, went.0, went.1, went.2, refl)), went.3, then_on a b c (opening_text R.config s k asked R.stage) went.1 printed went.4)
begun_on (Err e) n s k R mid now asked a b c h printed ran =
    let went : RunsAs s (at_stage R (dialog_opened R.config n s k asked R.stage)) b c (Err e) now = subst (λ (x : Run). RunsAs s x b c (Err e) now) h.state ran in
    (asked, opening_text R.config s k asked R.stage ++ went.1, went.2, h.there, inr (inr (h.is, h.current, went.0, went.1, went.3, refl)), front_then a b c (opening_text R.config s k asked R.stage) went.1 printed went.4)

-- ---- a request that is pending

set_marked : (n : ℕ) (requests : List Asked) (a : Asked) → slice_get requests n ≡ Some a → slice_set requests n (record a { has_begun = true }) ≡ marked_begun n requests
set_marked n [] a e = absurd cc
set_marked zero (x ∷ more) a e = let same : x ≡ a = same_Some x a e in rw same refl
set_marked (suc n) (x ∷ more) a e = ap (λ (t : List Asked). x ∷ t) (set_marked n more a e)

pub get_set : (n : ℕ) (requests : List Asked) (a b : Asked) → slice_get requests n ≡ Some a → slice_get (slice_set requests n b) n ≡ Some b
get_set n [] a b e = absurd cc
get_set zero (x ∷ more) a b e = refl
get_set (suc n) (x ∷ more) a b e = get_set n more a b e

-- what is known of a request whose dialog may begin
pub record IsPending (S : Stage) (n : ℕ) : Type 0 where
  pub asked : Asked
  pub there : slice_get S.requests n ≡ Some asked
  pub service : ℕ
  pub incarnation : ℕ
  pub goes : asked.goes ≡ Some (service, incarnation)
  pub closed : (stand S service).open_dialog ≡ None

not_busy : (o : Option Opened) → is_some o ≡ false → o ≡ None
not_busy None e = refl
not_busy (Some o) e = absurd cc

second_rule : (test : Bool) (more : Option ℕ) → broken test 5 more ≡ None → (test ≡ false) × (more ≡ None)
second_rule true more e = absurd cc
second_rule false more e = (refl, e)

last_rule : (test : Bool) → broken test 6 None ≡ None → test ≡ false
last_rule true e = absurd cc
last_rule false e = refl

pub is_pending_at : (S : Stage) (n : ℕ) → broken (not (is_pending (slice_get S.requests n))) 5 (broken (is_busy_request (slice_get S.requests n) S) 6 None) ≡ None → IsPending S n
is_pending_at S n e = by (slice_get S.requests n) refl (second_rule (not (is_pending (slice_get S.requests n))) _ e)
  where
    by_goes : (a : Asked) (goes : Option (ℕ × ℕ)) → slice_get S.requests n ≡ Some a → a.goes ≡ goes → not (is_some goes && not a.has_begun) ≡ false → broken (is_busy_at goes S) 6 None ≡ None → IsPending S n
    by_goes a None there is pending rest = absurd cc
    by_goes a (Some at) there is pending rest = record { asked = a; there = there; service = at.0; incarnation = at.1; goes = is; closed = not_busy (stand S at.0).open_dialog (last_rule (is_some (stand S at.0).open_dialog) rest) }

    by : (o : Option Asked) → slice_get S.requests n ≡ o → (not (is_pending o) ≡ false) × (broken (is_busy_request o S) 6 None ≡ None) → IsPending S n
    by None there h = absurd cc
    by (Some a) there h = by_goes a a.goes there refl h.0 h.1

-- the state once the request's dialog has begun
pub marked_is : (S : Stage) (marks : List Asked) (n : ℕ) (a : Asked) → slice_get S.requests n ≡ Some a → marks ≡ slice_set S.requests n (record a { has_begun = true }) → record S { requests = marks } ≡ marked n S
marked_is S marks n a there set = rw (set ∙ set_marked n S.requests a there) refl

pub dialog_on : (r : Result (Unit {0}) AllocError) (R mid now : Run) (n s k : ℕ) (a : Asked) (x y : Printer) → slice_get R.stage.requests n ≡ Some a → a.goes ≡ Some (s, k) → mid ≡ at_stage R (marked n R.stage) → BeginsAs n s k mid x y r now → DoesAs (line.Dialog n) R x y r now
dialog_on r R mid now n s k a x y there goes is h = by r (subst (λ (m : Run). BeginsAs n s k m x y r now) is h)
  where
    found : slice_get (marked_begun n R.stage.requests) n ≡ Some (record a { has_begun = true })
    found = ap (λ (t : List Asked). slice_get t n) (sym (set_marked n R.stage.requests a there)) ∙ get_set n R.stage.requests a (record a { has_begun = true }) there

    same : (asked : Asked) → slice_get (marked_begun n R.stage.requests) n ≡ Some asked → asked ≡ record a { has_begun = true }
    same asked at = same_Some asked (record a { has_begun = true }) (sym at ∙ found)

    by : (v : Result (Unit {0}) AllocError) → BeginsAs n s k (at_stage R (marked n R.stage)) x y v now → DoesAs (line.Dialog n) R x y v now
    by (Ok done) b = (b.1, (a, s, k, there, goes, subst (λ (asked : Asked). Begun R.config n s k asked (marked n R.stage) b.1 now.stage) (same b.0 b.2) b.3), b.4, b.5)
    by (Err e) b = (b.1, b.2, (a, s, k, there, goes, subst (λ (asked : Asked). Begun R.config n s k asked (marked n R.stage) b.1 b.2) (same b.0 b.3) b.4), b.5)

-- memory was refused before anything was printed
pub dialog_none : (e : AllocError) (R now : Run) (n s k : ℕ) (a : Asked) (x : Printer) → slice_get R.stage.requests n ≡ Some a → a.goes ≡ Some (s, k) → s < length R.stage.stands → AreBytes (stand R.stage s).left → DoesAs (line.Dialog n) R x x (Err e) now
dialog_none e R now n s k a x there goes below bytes =
    let some = some_begin R.config n s k a (marked n R.stage) below bytes in
    (some.text, some.now, (a, s, k, there, goes, some.begins), no_front x some.text)

pub bytes_none : (e : AllocError) (R now : Run) (s : ℕ) (bytes : List ℕ) (x : Printer) → s < length R.stage.stands → AreBytes (stand R.stage s).left → AreBytes bytes → DoesAs (line.Bytes s bytes) R x x (Err e) now
bytes_none e R now s bytes x below left more =
    let X : Stand = record (stand R.stage s) { left = (stand R.stage s).left ++ bytes } in
    let there : stand (given s bytes R.stage) s ≡ X = stand_set R.stage.stands s X below in
    let rest = some_steps R.config s (given s bytes R.stage) (omega (arith, below, length-set R.stage.stands s X)) (rw there (bytes_both (stand R.stage s).left bytes left more)) in
    (rest.text, rest.now, (rest.steps, rest.goes), no_front x rest.text)
