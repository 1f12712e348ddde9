-- What a step of a cell is in a script's state.
use Rattle.std.proofs.Common.{◌≡◌, ◌≢◌, ◌≤◌, ◌<◌, ℕ, ◌+◌, Bool, true, false, List, [], ◌∷◌, ◌++◌, Option, Some, None, length, refl, sym, ap, subst, ◌∙◌, arith, inl, inr, ◌⊎◌}
use Rattle.std.specs.Prelude.{◌==◌, nat_lt, if◌then◌else◌, slice_set, slice_get, IsTrue, IsFalse, IsSome, option_map, unwrap_or}
use Rattle.std.proofs.lemmas.Bool.{ltb-true}
use Rattle.std.proofs.lemmas.List.{append-nil, length-append, set-set}
use Rattle.std.specs.Io.KnownBytes.{IsAtEnd}
use Rattle.okws_base.specs.declared.limit.TheConstants.{MOST_FRAMES}
use Rattle.okws_base.specs.declared.crash.Cause.{Cause}
use Rattle.okws_base.specs.declared.crash.Cause.TheVariants as cause
use Rattle.okws_plan.specs.declared.configuration.Config.{Config}
use Rattle.frame_codec.specs.Spelling.{Spells, server_spelling}
use Rattle.frame_codec.specs.Stream.{Begins, BeginsNone, IsBad, IsShort}
use Rattle.frame_codec.specs.declared.frame.ServiceFrame.{ServiceFrame}
use Rattle.frame_codec.specs.declared.frame.ServiceFrame.TheVariants as said
use Rattle.frame_codec.specs.declared.frame.ServerFrame.{ServerFrame}
use Rattle.frame_codec.proofs.Apart.{short_begins_none}
use Rattle.okws_outer.specs.Wire.{Wire}
use Rattle.frame_link.specs.Next.{IsBadFront}
use Rattle.monitor_model.specs.declared.record.CellEvent.{CellEvent}
use Rattle.monitor_model.specs.declared.record.CellEvent.TheVariants as cell
use Rattle.monitor_model.specs.declared.record.End.{End}
use Rattle.monitor_model.specs.declared.record.End.TheVariants as end
use Rattle.monitor_model.specs.declared.record.Item.{Item}
use Rattle.monitor_model.specs.declared.record.Item.TheVariants.{Heard, Said}
use Rattle.monitor_model.specs.declared.verdict.Push.{Push}
use Rattle.monitor_model.specs.Answering.{end_response}
use Rattle.monitor_model.specs.Cell.{incarnation, last_booted, after_end}
use Rattle.monitor_model.specs.Course.{Speaker, Answers, said_count, opening, heard_text}
use Rattle.monitor_model.specs.Launcher.{begun}
use Rattle.monitor_model.specs.Script.{IsReady, settled, reply_end, said_end, heard_said, Advances, Takes, closed, closing_text, request_method}
use Rattle.monitor_model.specs.Seen.{Seen}
use Rattle.monitor_model.specs.Stage.{Stage, Stand, Opened, stand, with_stand, answer_line, heard_line}
use Rattle.service_cell.specs.Asking.{Asker, IsNextBy, Drains}
use Rattle.service_cell.specs.Standing.{Open, Standing, Passes, Fails, left_of, ended_of, finished}
use Rattle.service_cell.specs.Steps.{Advances as CellAdvances, AdvancesOpen, Begins as CellBegins, IsSpeaking, OpensCell, OpeningBreaks, Crashes, IsCurrent, crash_end}
use Rattle.service_cell.specs.declared.answer.Advanced.{Advanced}
use Rattle.service_cell.specs.declared.answer.Advanced.TheVariants as advanced
use Rattle.service_cell.specs.declared.answer.Begun.{Begun}
use Rattle.service_cell.specs.declared.answer.Begun.TheVariants as begun_is
use Rattle.okws_play.specs.Cells.{stand_by, left_on, opened_by, closed_stand, IsLinked, IsOwn, IsSeat}
use Rattle.okws_play.specs.Printed.{closes, last_response, newest_text, items_text}
use Rattle.okws_play.proofs.Cells.{plain, stand_plain, stand_empty, stand_set, not_zero, passed, seat_on}

-- ---- links

never_fails : (old new : Option Wire) (taken put due : List ℕ) → Fails old new taken put due → IsLinked old → ⊥
never_fails None new taken put due f w = f
never_fails (Some a) None taken put due f w = f
never_fails (Some a) (Some b) taken put due f w = let e : true ≡ false = sym w.steady ∙ f.unsteady in cc

-- ---- a run's cell as its steps find it

-- a run asks as number 0, and nobody else enters anything
abbrev pub asker : Config → Asker
asker C = record { config = C; worker = 0; alone = true }

-- what may be shown as the greatest that was begun
abbrev pub shown_in : Seen → ℕ → ℕ → Type 0
shown_in K s k = k ≡ begun K.launcher s

own_worker : (c : Standing) (o : Open) → IsOwn c.open_dialog → c.open_dialog ≡ Some o → o.worker ≡ 0
own_worker c o own there = subst IsOwn there own

no_fault : (C : Config) (w : Speaker) (old new : Option Wire) (J K : Seen) (before items : List Item) (due : List ℕ) → IsLinked old → Crashes C w old new before J cause.LinkFault items due K → ⊥
no_fault C w old new J K before items due linked (inl crash) = never_fails old new crash.0 [] [] crash.1 linked
no_fault C w old new J K before items due linked (inr crash) = never_fails old new crash.2 [] _ crash.4 linked

crash_linked : (C : Config) (w : Speaker) (old new : Option Wire) (J K : Seen) (why : Cause) (before items : List Item) (due : List ℕ) → IsLinked old → Crashes C w old new before J why items due K → IsLinked new
crash_linked C w old new J K cause.BadFrame before items due linked crash = (passed old new crash.0 [] crash.2 linked).linked
crash_linked C w old new J K cause.Ended before items due linked crash = (passed old new [] [] crash.0 linked).linked
crash_linked C w old new J K cause.LinkFault before items due linked crash = absurd (no_fault C w old new J K before items due linked crash)
crash_linked C w old new J K cause.FrameLimit before items due linked crash = (passed old new crash.1 [] crash.4 linked).linked
crash_linked C w old new J K cause.Starved before items due linked (inl crash) = (passed old new crash.0 [] crash.1 linked).linked
crash_linked C w old new J K cause.Starved before items due linked (inr crash) = (passed old new crash.1 [] crash.3 linked).linked

crash_empties : (why : Cause) (k : ℕ) → after_end (crash_end why) k ≡ 0
crash_empties cause.BadFrame k = refl
crash_empties cause.Ended k = refl
crash_empties cause.LinkFault k = refl
crash_empties cause.FrameLimit k = refl
crash_empties cause.Starved k = refl

-- the cell stays one of the run's
pub advance_seat : (C D : Config) (shows : ℕ → Type 0) (seed : List ℕ) (s : ℕ) (c d : Standing) (J K : Seen) (o : Open) (answer : Advanced) → IsSeat C seed s c → c.open_dialog ≡ Some o → incarnation c.past ≢ 0
    → CellAdvances (asker D) shows c o J answer d K → IsSeat C seed s d
advance_seat C D shows seed s c d J K o advanced.Goes h there some a =
    let p = passed c.link d.link a.1.2 _ a.1.6 h.linked in
    seat_on C seed s c d _ _ d.link h a.1.5 (λ _. p.there) p.linked (own_worker c o h.own there)
advance_seat C D shows seed s c d J K o advanced.Reply h there some a =
    let p = passed c.link d.link a.1.4 [] a.1.8 h.linked in
    seat_on C seed s c d _ None d.link h a.1.7 (λ _. p.there) p.linked tt
advance_seat C D shows seed s c d J K o (advanced.Superseded k shown) h there some a = seat_on C seed s c d _ None c.link h a.4 (λ _. h.there some) h.linked tt
advance_seat C D shows seed s c d J K o (advanced.Crashed why) h there some a =
    seat_on C seed s c d _ None d.link h a.1.3 (λ left. absurd (left (crash_empties why (incarnation c.past)))) (crash_linked D _ c.link d.link J K why o.items a.1.0 a.1.1 h.linked a.1.2) tt

pub advance_booted : (D : Config) (shows : ℕ → Type 0) (c d : Standing) (J K : Seen) (o : Open) (answer : Advanced) → CellAdvances (asker D) shows c o J answer d K → last_booted d.past ≡ last_booted c.past
advance_booted D shows c d J K o advanced.Goes a = ap (λ (x : Standing). last_booted x.past) a.1.5
advance_booted D shows c d J K o advanced.Reply a = ap (λ (x : Standing). last_booted x.past) a.1.7
advance_booted D shows c d J K o (advanced.Superseded k shown) a = ap (λ (x : Standing). last_booted x.past) a.4
advance_booted D shows c d J K o (advanced.Crashed why) a = ap (λ (x : Standing). last_booted x.past) a.1.3

pub same_launcher : (w : ℕ) (J K : Seen) → IsNextBy w J K → K.launcher ≡ J.launcher
same_launcher w J K (inl is) = ap (λ (x : Seen). x.launcher) is
same_launcher w J K (inr (inl next)) = ap (λ (x : Seen). x.launcher) next.2
same_launcher w J K (inr (inr (inl next))) = ap (λ (x : Seen). x.launcher) next.1
same_launcher w J K (inr (inr (inr next))) = ap (λ (x : Seen). x.launcher) next.1

-- ---- how a dialog begins

opening_linked : (why : Cause) (opened items : List Item) (due : List ℕ) (old new : Option Wire) → IsLinked old → OpeningBreaks why opened items due old new → IsLinked new
opening_linked cause.LinkFault opened items due old new linked b = absurd (never_fails old new [] _ _ b.3 linked)
opening_linked cause.Starved opened items due old new linked b = (passed old new [] _ b.2 linked).linked
opening_linked cause.BadFrame opened items due old new linked b = absurd b
opening_linked cause.Ended opened items due old new linked b = absurd b
opening_linked cause.FrameLimit opened items due old new linked b = absurd b

pub begin_seat : (C D : Config) (shows : ℕ → Type 0) (seed : List ℕ) (s n wanted : ℕ) (request : ServerFrame) (c d : Standing) (J K : Seen) (answer : Begun) → IsSeat C seed s c → 0 < wanted
    → CellBegins (asker D) shows n request wanted c J answer d K → IsSeat C seed s d
begin_seat C D shows seed s n wanted request c d J K begun_is.Started h first a =
    let p = passed c.link d.link [] _ a.2.3 h.linked in
    seat_on C seed s c d c.past _ d.link h a.2.2 (λ _. p.there) p.linked refl
begin_seat C D shows seed s n wanted request c d J K (begun_is.Missed asked is) h first a = seat_on C seed s c d _ c.open_dialog c.link h a.3 h.there h.linked h.own
begin_seat C D shows seed s n wanted request c d J K (begun_is.Superseded k shown) h first a = seat_on C seed s c d _ None c.link h a.4 h.there h.linked tt
begin_seat C D shows seed s n wanted request c d J K (begun_is.Crashed why) h first a =
    seat_on C seed s c d _ None d.link h a.2.5 (λ left. absurd (left (crash_empties why (incarnation c.past)))) (opening_linked why _ a.2.2 a.2.3 c.link d.link h.linked a.2.4) tt
begin_seat C D shows seed s n wanted request c d J K begun_is.NoMemory h first a = subst (IsSeat C seed s) (sym a.0) h

pub begin_booted : (D : Config) (shows : ℕ → Type 0) (n wanted : ℕ) (request : ServerFrame) (c d : Standing) (J K : Seen) (answer : Begun) → CellBegins (asker D) shows n request wanted c J answer d K → last_booted d.past ≡ last_booted c.past
begin_booted D shows n wanted request c d J K begun_is.Started a = ap (λ (x : Standing). last_booted x.past) a.2.2
begin_booted D shows n wanted request c d J K (begun_is.Missed asked is) a = ap (λ (x : Standing). last_booted x.past) a.3
begin_booted D shows n wanted request c d J K (begun_is.Superseded k shown) a = ap (λ (x : Standing). last_booted x.past) a.4
begin_booted D shows n wanted request c d J K (begun_is.Crashed why) a = ap (λ (x : Standing). last_booted x.past) a.2.5
begin_booted D shows n wanted request c d J K begun_is.NoMemory a = ap (λ (x : Standing). last_booted x.past) a.0

drains_launcher : (who : Asker) (s k : ℕ) (J K : Seen) (pushes : List Push) → Drains who s k J pushes K → K.launcher ≡ J.launcher
drains_launcher who s k J K pushes h = ap (λ (x : Seen). x.launcher) h.1.1

pub begin_launcher : (D : Config) (shows : ℕ → Type 0) (n wanted : ℕ) (request : ServerFrame) (c d : Standing) (J K : Seen) (answer : Begun) → CellBegins (asker D) shows n request wanted c J answer d K → K.launcher ≡ J.launcher
begin_launcher D shows n wanted request c d J K begun_is.Started a = drains_launcher (asker D) c.service (incarnation c.past) J K a.2.0 a.2.1
begin_launcher D shows n wanted request c d J K (begun_is.Missed asked is) a = ap (λ (x : Seen). x.launcher) a.4
begin_launcher D shows n wanted request c d J K (begun_is.Superseded k shown) a = ap (λ (x : Seen). x.launcher) a.5
begin_launcher D shows n wanted request c d J K (begun_is.Crashed why) a = drains_launcher (asker D) c.service (incarnation c.past) J K a.2.0 a.2.1
begin_launcher D shows n wanted request c d J K begun_is.NoMemory a = ap (λ (x : Seen). x.launcher) a.1

-- ---- dialogs that end

settled_plain : (c : Standing) → settled (plain c) ≡ stand_by c
settled_plain c = by (incarnation c.past == 0)
  where
    by : (test : Bool) → (if test then record (plain c) { left = []; has_ended = false } else plain c)
        ≡ record { past = c.past; left = if test then [] else left_on c.link; has_ended = if test then false else ended_of c.link; open_dialog = opened_by c.open_dialog }
    by true = refl
    by false = refl

-- a dialog that ended, seen with what is left
pub finished_is : (c d : Standing) (items : List Item) (how : End) (o : Option Opened) (last : Opened) (link : Option Wire) → d ≡ finished c 0 items how [] link → items ≡ last.items
    → stand_by d ≡ closed_stand (record { past = c.past; left = left_on link; has_ended = ended_of link; open_dialog = o }) last how
finished_is c d items how o last link is same = rw (is, same) (sym (settled_plain (finished c 0 last.items how [] link)))

-- and where the cell loses its incarnation
crashed_is : (c d : Standing) (items : List Item) (how : End) (there : Stand) (last : Opened) (link : Option Wire) → d ≡ finished c 0 items how [] link → ((k : ℕ) → after_end how k ≡ 0) → there.past ≡ c.past → items ≡ last.items
    → stand_by d ≡ closed_stand there last how
crashed_is c d items how there last link is none past same =
    let J : List CellEvent = cell.Dialog (record { worker = 0; items = last.items; end = how; due = [] }) ∷ c.past in
    let now : Stand = record there { past = J; open_dialog = None } in
    rw (is, same, past) (stand_empty (finished c 0 last.items how [] link) (none (incarnation c.past))
    ∙ sym (ap (λ (test : Bool). if test then record now { left = []; has_ended = false } else now) (ap (λ (k : ℕ). k == 0) (none (incarnation c.past)))))

-- ---- frames

not_below : (a b : ℕ) → b ≤ a → nat_lt a b ≡ false
not_below a b le = by (nat_lt a b) refl
  where
    by : (test : Bool) → nat_lt a b ≡ test → nat_lt a b ≡ false
    by true is = absurd (omega (arith, ltb-true a b is, le))
    by false is = is

is_below : (a b : ℕ) → a < b → nat_lt a b ≡ true
is_below a b lt = grind arith

reply_none : (C : Config) (w : Speaker) (frame : ServiceFrame) (J K : Seen) (heard : ServerFrame) → Answers C w frame J heard K → reply_end frame ≡ None
reply_none C w (said.Open p shown) J K heard a = refl
reply_none C w (said.Call p n q args) J K heard a = refl
reply_none C w (said.Get name) J K heard a = refl
reply_none C w (said.Log text) J K heard a = refl
reply_none C w (said.Reply status content_type location content) J K heard a = absurd a

few_said : (n : ℕ) (frame : ServiceFrame) → n < MOST_FRAMES → said_end (n + 1) frame ≡ reply_end frame
few_said n frame few = ap (λ (test : Bool). if test then Some end.FrameLimit else reply_end frame) (not_below MOST_FRAMES (n + 1) (omega (arith, few)))

many_said : (n : ℕ) (frame : ServiceFrame) → n ≡ MOST_FRAMES → said_end (n + 1) frame ≡ Some end.FrameLimit
many_said n frame most = ap (λ (test : Bool). if test then Some end.FrameLimit else reply_end frame) (is_below MOST_FRAMES (n + 1) (omega (arith, most)))

none_left : (left : List ℕ) → left ≡ [] → BeginsNone left × (IsBad left → ⊥)
none_left left e =
    let short : IsShort left = inl (omega (arith, ap length e)) in
    (short_begins_none left short, λ bad. bad.1 short)

fronted : (a b : Option (List ℕ)) → IsBadFront a b → IsSome a → BeginsNone (unwrap_or a []) × (IsBad (unwrap_or a []) ⊎ (unwrap_or a [] ≢ []))
fronted None b h some = absurd cc
fronted (Some l) b h some = (h.0, by h.1)
  where
    by : IsBad l ⊎ (IsShort l × (l ≢ []) × IsAtEnd b) → IsBad l ⊎ (l ≢ [])
    by (inl bad) = inl bad
    by (inr short) = inr short.1

fronted_on : (old new : Option Wire) → IsBadFront (left_of old) (left_of new) → IsSome old → IsLinked old → BeginsNone (left_on old) × (IsBad (left_on old) ⊎ (left_on old ≢ []))
fronted_on None new h some w = absurd cc
fronted_on (Some a) new h some w = fronted a.left (left_of new) h w.left

at_end : (b : Option (List ℕ)) → IsAtEnd b → unwrap_or b [] ≡ []
at_end None e = refl
at_end (Some l) e = e

at_end_on : (link : Option Wire) → IsAtEnd (left_of link) → left_on link ≡ []
at_end_on None e = refl
at_end_on (Some wire) e = at_end wire.left e

-- ---- a step in a script's state

-- the state after the cell of s changed, and what was made
abbrev pub after : Stage → ℕ → Stand → Seen → Stage
after S s now K = record S { seen = K; stands = slice_set S.stands s now }

-- the is_open dialog as a script's state has it
abbrev pub opened : Open → Opened
opened o = record { request = o.request; items = o.items }

-- the answer to the request of a dialog that ended as the last event
abbrev pub answer_of : ℕ → List CellEvent → Stage → List ℕ
answer_of n past S = answer_line n (last_response past (request_method (slice_get S.requests n)))

-- the cell of s before a step
pub record IsOpenAt (C : Config) (seed : List ℕ) (s : ℕ) (S : Stage) (c : Standing) (o : Open) : Type 0 where
  pub seat : IsSeat C seed s c
  pub stand_is : stand S s ≡ stand_by c
  pub below : s < length S.stands
  pub open_is : c.open_dialog ≡ Some o
  pub some : incarnation c.past ≢ 0

plain_at : (C : Config) (seed : List ℕ) (s : ℕ) (S : Stage) (c : Standing) (o : Open) → IsOpenAt C seed s S c o → stand S s ≡ plain c
plain_at C seed s S c o at = at.stand_is ∙ stand_plain c at.some

current : (J K : Seen) (s k : ℕ) → K.launcher ≡ J.launcher → IsCurrent (shown_in K s) k → IsFalse (nat_lt k (begun J.launcher s))
current J K s k same cur = not_below k (begun J.launcher s) (omega (arith, cur.1, cur.2, ap (λ v. begun v s) same))

past_finished : (c d : Standing) (w : ℕ) (items : List Item) (how : End) (link : Option Wire) → d ≡ finished c w items how [] link → (method : List ℕ) → last_response d.past method ≡ end_response how items method
past_finished c d w items how link is method = ap (λ (x : Standing). last_response x.past method) is

-- the last frame of a dialog was taken
closed_by_frame : (C : Config) (seed : List ℕ) (s : ℕ) (S : Stage) (c d : Standing) (K : Seen) (o : Open) (frame : ServiceFrame) (taken : List ℕ) (how : End) → IsOpenAt C seed s S c o
    → IsFalse (nat_lt (incarnation c.past) (begun S.seen.launcher s)) → Spells taken frame → Passes c.link d.link taken [] → said_end (said_count o.items + 1) frame ≡ Some how → K ≡ S.seen
    → d ≡ finished c o.worker (Said frame ∷ o.items) how [] d.link → Advances C s (opened o) S (answer_of o.request d.past S) (after S s (stand_by d) K)
closed_by_frame C seed s S c d K o frame taken how at cur spells pass ends same is =
    let there : stand S s ≡ plain c = plain_at C seed s S c o at in
    let p = passed c.link d.link taken [] pass at.seat.linked in
    let last : Opened = heard_said (opened o) frame in
    let X : Stand = record (plain c) { left = left_on d.link; open_dialog = Some (opened o) } in
    let moved : stand_by d ≡ closed_stand X last how = finished_is c d (Said frame ∷ o.items) how (Some (opened o)) last d.link (rw (own_worker c o at.seat.own at.open_is) at is) refl ∙ rw p.ended refl in
    let set : with_stand (with_stand S s X) s (closed_stand (stand (with_stand S s X) s) last how) ≡ with_stand S s (closed_stand X last how) = rw (stand_set S.stands s X at.below, set-set S.stands s X (closed_stand X last how)) refl in
    let state : after S s (stand_by d) K ≡ closed s last how (with_stand S s (record (stand S s) { left = left_on d.link; open_dialog = Some (opened o) })) = rw (moved, same, there) (sym set) in
    let text : answer_of o.request d.past S ≡ closing_text last how S = ap (answer_line o.request) (past_finished c d o.worker (Said frame ∷ o.items) how d.link is (request_method (slice_get S.requests o.request))) in
    let takes : Takes C s (opened o) frame (left_on d.link) (Some how) S (answer_of o.request d.past S) (after S s (stand_by d) K) = (state, text) in
    inr (inl (
      rw there cur,
      frame,
      left_on d.link,
      rw there (taken, spells, p.left),
      subst (λ (e : Option End). Takes C s (opened o) frame (left_on d.link) e S (answer_of o.request d.past S) (after S s (stand_by d) K)) (sym ends) takes,
    ))

-- a dialog that ended where it stands
closed_there : (s : ℕ) (S : Stage) (c d : Standing) (K : Seen) (o : Open) (items : List Item) (how : End) (link : Option Wire) → stand_by d ≡ closed_stand (stand S s) (opened o) how → K ≡ S.seen → d ≡ finished c o.worker items how [] link → items ≡ o.items
    → (after S s (stand_by d) K ≡ closed s (opened o) how S) × (answer_of o.request d.past S ≡ closing_text (opened o) how S)
closed_there s S c d K o items how link moved same is kept =
    (rw (moved, same) refl, ap (answer_line o.request) (past_finished c d o.worker items how link is (request_method (slice_get S.requests o.request)) ∙ ap (λ (xs : List Item). end_response how xs (request_method (slice_get S.requests o.request))) kept))

bad_closes : (C : Config) (s : ℕ) (S now : Stage) (o : Opened) (text : List ℕ) → IsFalse (nat_lt (incarnation (stand S s).past) (begun S.seen.launcher s)) → IsReady (stand S s) → BeginsNone (stand S s).left → IsBad (stand S s).left ⊎ ((stand S s).left ≢ [])
    → now ≡ closed s o end.BadFrame S → text ≡ closing_text o end.BadFrame S → Advances C s o S text now
bad_closes C s S now o text cur ready none (inl bad) state said = inr (inr (inl (cur, bad, state, said)))
bad_closes C s S now o text cur (inl whole) none (inr some) state said = absurd (none whole.0 whole.1 whole.2)
bad_closes C s S now o text cur (inr (inl bad)) none (inr some) state said = inr (inr (inl (cur, bad, state, said)))
bad_closes C s S now o text cur (inr (inr ended)) none (inr some) state said = inr (inr (inr (inr (cur, ended, some, none, state, said))))

ended_closes : (C : Config) (s : ℕ) (S now : Stage) (o : Opened) (text : List ℕ) → IsFalse (nat_lt (incarnation (stand S s).past) (begun S.seen.launcher s)) → IsReady (stand S s) → (stand S s).left ≡ []
    → now ≡ closed s o end.Ended S → text ≡ closing_text o end.Ended S → Advances C s o S text now
ended_closes C s S now o text cur (inl whole) empty state said = absurd ((none_left (stand S s).left empty).0 whole.0 whole.1 whole.2)
ended_closes C s S now o text cur (inr (inl bad)) empty state said = absurd ((none_left (stand S s).left empty).1 bad)
ended_closes C s S now o text cur (inr (inr ended)) empty state said = inr (inr (inr (inl (cur, ended, empty, state, said))))

-- a frame was taken and answered
pub step_goes : (C : Config) (seed : List ℕ) (s : ℕ) (S : Stage) (c d : Standing) (K : Seen) (o : Open) → IsOpenAt C seed s S c o → IsNextBy 0 S.seen K → CellAdvances (asker C) (shown_in K s) c o S.seen advanced.Goes d K
    → Advances C s (opened o) S (newest_text C d) (after S s (stand_by d) K)
step_goes C seed s S c d K o at next a =
    let there : stand S s ≡ plain c = plain_at C seed s S c o at in
    let p = passed c.link d.link a.1.2 _ a.1.6 at.seat.linked in
    let cur = current S.seen K s (incarnation c.past) (same_launcher 0 S.seen K next) a.0 in
    let items : List Item = Heard a.1.1 ∷ Said a.1.0 ∷ o.items in
    let same : incarnation d.past ≡ incarnation c.past = ap (λ (x : Standing). incarnation x.past) a.1.5 in
    let some : incarnation d.past ≢ 0 = λ none. at.some (sym same ∙ none) in
    let moved : stand_by d ≡ record (plain c) { left = left_on d.link; open_dialog = Some (record { request = o.request; items = items }) } =
    stand_plain d some ∙ rw (ap (λ (x : Standing). x.past) a.1.5, ap (λ (x : Standing). x.open_dialog) a.1.5, p.ended) refl in
    let answers : Answers C (record { worker = 0; service = s; incarnation = incarnation c.past }) a.1.0 S.seen a.1.1 K =
    subst (λ (n : ℕ). Answers C (record { worker = 0; service = n; incarnation = incarnation c.past }) a.1.0 S.seen a.1.1 K) at.seat.service_is
    (subst (λ (w : ℕ). Answers C (record { worker = w; service = c.service; incarnation = incarnation c.past }) a.1.0 S.seen a.1.1 K) (own_worker c o at.seat.own at.open_is) a.1.4) in
    let ends : said_end (said_count o.items + 1) a.1.0 ≡ None = few_said (said_count o.items) a.1.0 a.1.3.1 ∙ reply_none C (record { worker = 0; service = s; incarnation = incarnation c.past }) a.1.0 S.seen K a.1.1 answers in
    let text : newest_text C d ≡ heard_line C s (incarnation c.past) a.1.1 = rw (a.1.5, at.seat.service_is) (append-nil (heard_line C s (incarnation c.past) a.1.1)) in
    let takes : Takes C s (opened o) a.1.0 (left_on d.link) None S (newest_text C d) (after S s (stand_by d) K) = (a.1.1, K, rw there answers, next, rw (moved, there) refl, rw there text) in
    inr (inl (
      rw there cur,
      a.1.0,
      left_on d.link,
      rw there (a.1.2, a.1.3.0, p.left),
      subst (λ (e : Option End). Takes C s (opened o) a.1.0 (left_on d.link) e S (newest_text C d) (after S s (stand_by d) K)) (sym ends) takes,
    ))

pub step_closes : (C : Config) (seed : List ℕ) (s : ℕ) (S : Stage) (c d : Standing) (K : Seen) (o : Open) (answer : Advanced) → closes answer ≡ true → IsOpenAt C seed s S c o → IsReady (stand S s) → IsNextBy 0 S.seen K
    → CellAdvances (asker C) (shown_in K s) c o S.seen answer d K → Advances C s (opened o) S (answer_of o.request d.past S) (after S s (stand_by d) K)
step_closes C seed s S c d K o advanced.Goes ends at ready next a = absurd cc
step_closes C seed s S c d K o advanced.Reply ends at ready next a =
    let cur = current S.seen K s (incarnation c.past) (same_launcher 0 S.seen K next) a.0 in
    let frame : ServiceFrame = said.Reply a.1.0 a.1.1 a.1.2 a.1.3 in
    closed_by_frame C seed s S c d K o frame a.1.4 end.Reply at cur a.1.5.0 a.1.8 (few_said (said_count o.items) frame a.1.5.1) a.1.6 a.1.7
step_closes C seed s S c d K o (advanced.Superseded k shown) ends at ready next a =
    let there : stand S s ≡ plain c = plain_at C seed s S c o at in
    let same : shown ≡ begun S.seen.launcher s = a.2 ∙ ap (λ v. begun v s) (same_launcher 0 S.seen K next) in
    let how : end.Superseded shown ≡ end.Superseded (begun S.seen.launcher s) = ap end.Superseded same in
    let is : d ≡ finished c o.worker o.items (end.Superseded (begun S.seen.launcher s)) [] c.link = rw how at a.4 in
    let moved : stand_by d ≡ closed_stand (stand S s) (opened o) (end.Superseded (begun S.seen.launcher s)) =
    finished_is c d o.items (end.Superseded (begun S.seen.launcher s)) (opened_by c.open_dialog) (opened o) c.link (rw (own_worker c o at.seat.own at.open_is) at is) refl ∙ rw there refl in
    let both = closed_there s S c d K o o.items (end.Superseded (begun S.seen.launcher s)) c.link moved a.3 is refl in
    let is_open : (stand S s).open_dialog ≡ Some (opened o) = rw there (ap opened_by at.open_is) in
    inl (rw there (is_below (incarnation c.past) (begun S.seen.launcher s) (omega (arith, a.0, a.1, same))), both.0 ∙ rw is_open refl, both.1)
step_closes C seed s S c d K o (advanced.Crashed cause.BadFrame) ends at ready next a =
    let there : stand S s ≡ plain c = plain_at C seed s S c o at in
    let cur = current S.seen K s (incarnation c.past) (same_launcher 0 S.seen K next) a.0 in
    let crash = a.1.2 in
    let is : d ≡ finished c o.worker a.1.0 end.BadFrame [] d.link = rw crash.8 at a.1.3 in
    let front = fronted_on c.link d.link crash.5 (at.seat.there at.some) at.seat.linked in
    let moved : stand_by d ≡ closed_stand (stand S s) (opened o) end.BadFrame = crashed_is c d a.1.0 end.BadFrame (stand S s) (opened o) d.link (rw (own_worker c o at.seat.own at.open_is) at is) (λ k. refl) (rw there refl) crash.6 in
    let both = closed_there s S c d K o a.1.0 end.BadFrame d.link moved crash.7 is crash.6 in
    bad_closes C s S (after S s (stand_by d) K) (opened o) (answer_of o.request d.past S) (rw there cur) ready (rw there front.0) (rw there front.1) both.0 both.1
step_closes C seed s S c d K o (advanced.Crashed cause.Ended) ends at ready next a =
    let there : stand S s ≡ plain c = plain_at C seed s S c o at in
    let cur = current S.seen K s (incarnation c.past) (same_launcher 0 S.seen K next) a.0 in
    let crash = a.1.2 in
    let is : d ≡ finished c o.worker a.1.0 end.Ended [] d.link = rw crash.4 at a.1.3 in
    let p = passed c.link d.link [] [] crash.0 at.seat.linked in
    let moved : stand_by d ≡ closed_stand (stand S s) (opened o) end.Ended = crashed_is c d a.1.0 end.Ended (stand S s) (opened o) d.link (rw (own_worker c o at.seat.own at.open_is) at is) (λ k. refl) (rw there refl) crash.2 in
    let both = closed_there s S c d K o a.1.0 end.Ended d.link moved crash.3 is crash.2 in
    ended_closes C s S (after S s (stand_by d) K) (opened o) (answer_of o.request d.past S) (rw there cur) ready (rw there (p.left ∙ at_end_on d.link crash.1)) both.0 both.1
step_closes C seed s S c d K o (advanced.Crashed cause.LinkFault) ends at ready next a = absurd (no_fault C _ c.link d.link S.seen K o.items a.1.0 a.1.1 at.seat.linked a.1.2)
step_closes C seed s S c d K o (advanced.Crashed cause.FrameLimit) ends at ready next a =
    let cur = current S.seen K s (incarnation c.past) (same_launcher 0 S.seen K next) a.0 in
    let crash = a.1.2 in
    let is : d ≡ finished c o.worker (Said crash.0 ∷ o.items) end.FrameLimit [] d.link = rw (crash.5, crash.7) at a.1.3 in
    closed_by_frame C seed s S c d K o crash.0 crash.1 end.FrameLimit at cur crash.2 crash.4 (many_said (said_count o.items) crash.0 crash.3) crash.6 is
step_closes C seed s S c d K o (advanced.Crashed cause.Starved) ends at ready next a = absurd cc

-- ---- a step as the call that makes it tells

abbrev asker_by : Config → ℕ → Asker
asker_by D w = record { config = D; worker = w; alone = true }

-- the step that a call made of the cell of s
pub record IsStep (C : Config) (s : ℕ) (J K : Seen) (c d : Standing) (answer : Advanced) : Type 0 where
  pub dialog : Open
  pub open_is : c.open_dialog ≡ Some dialog
  pub advances : CellAdvances (asker C) (shown_in K s) c dialog J answer d K
  pub next : IsNextBy 0 J K

pub step_of : (C D : Config) (w s : ℕ) (J K : Seen) (c d : Standing) (n : Option ℕ) (answer : Advanced) → D ≡ C → w ≡ 0 → c.service ≡ s → n ≡ option_map (λ (x : Open). x.request) c.open_dialog → IsSome n
    → AdvancesOpen (asker_by D w) (shown_in K c.service) c c.open_dialog J answer d K → (true ≡ true → IsNextBy w J K) → IsStep C s J K c d answer
step_of C D w s J K c d n answer config worker service asked some a next = by c.open_dialog refl a
  where
    by : (o : Option Open) → c.open_dialog ≡ o → AdvancesOpen (asker_by D w) (shown_in K c.service) c o J answer d K → IsStep C s J K c d answer
    by None e b = absurd b
    by (Some o) e b = record {
      dialog = o;
      open_is = e;
      advances = subst (λ (n : ℕ). CellAdvances (asker C) (shown_in K n) c o J answer d K) service
          (subst (λ (x : ℕ). CellAdvances (asker_by C x) (shown_in K c.service) c o J answer d K) worker (subst (λ (x : Config). CellAdvances (asker_by x w) (shown_in K c.service) c o J answer d K) config b));
      next = subst (λ (x : ℕ). IsNextBy x J K) worker (next refl);
    }

pub none_some : (n : Option ℕ) → n ≡ None → IsSome n → ⊥
none_some None e some = absurd cc
none_some (Some v) e some = absurd cc

pub speaking : (w : ℕ) (c : Standing) (n : Option ℕ) → w ≡ 0 → IsOwn c.open_dialog → n ≡ option_map (λ (x : Open). x.request) c.open_dialog → IsSome n → IsSpeaking w c.open_dialog
speaking w c n worker own asked some = by c.open_dialog own asked
  where
    by : (o : Option Open) → IsOwn o → n ≡ option_map (λ (x : Open). x.request) o → IsSpeaking w o
    by None h e = absurd (none_some n e some)
    by (Some o) h e = h ∙ sym worker
