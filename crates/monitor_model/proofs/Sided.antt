-- Two runs of the same lines are alike, whichever frames were 0B, and so a line is refused in both or in none.
use Rattle.std.proofs.Common.{◌≡◌, ◌≢◌, inl, inr, ℕ, zero, suc, ◌+◌, Bool, true, false, not, List, [], ◌∷◌, ◌++◌, Option, Some, None, refl, sym, ap, ◌∙◌, subst, arith, length, map, reverse, ◌==◌}
use Rattle.std.specs.Prelude.{slice_get, IsTrue, nat_lt, nat_le, is_some}
use Rattle.okws_base.specs.declared.journal.Entry.{Entry}
use Rattle.okws_plan.specs.declared.configuration.Config.{Config}
use Rattle.okws_plan.specs.declared.script.Line.{Line}
use Rattle.okws_plan.specs.declared.script.Line.TheVariants as line
use Rattle.okws_plan.specs.declared.event.OkdEvent.{OkdEvent}
use Rattle.okws_plan.specs.declared.event.OkdEvent.TheVariants as okd
use Rattle.okws_plan.specs.declared.event.PubdEvent.TheVariants as pubd
use Rattle.frame_codec.specs.Stream.{Begins, BeginsNone, IsBad}
use Rattle.frame_codec.specs.declared.frame.ServiceFrame.{ServiceFrame}
use Rattle.frame_codec.specs.declared.frame.ServerFrame.{ServerFrame}
use Rattle.frame_codec.specs.declared.frame.ServerFrame.TheVariants as frame
use Rattle.frame_codec.proofs.Apart.{one_begins, short_begins_none}
use Rattle.http_text.specs.Target.{path}
use Rattle.monitor_model.specs.declared.record.CellEvent.TheVariants as cell
use Rattle.monitor_model.specs.declared.record.End.TheVariants as end
use Rattle.monitor_model.specs.declared.record.Item.TheVariants.{Heard}
use Rattle.monitor_model.specs.declared.record.Own.TheVariants as own
use Rattle.monitor_model.specs.declared.verdict.Push.{Push}
use Rattle.monitor_model.specs.Okd.{accept_verdict}
use Rattle.monitor_model.specs.Pubd.{drain_verdict}
use Rattle.monitor_model.specs.Cell.{incarnation, last_booted}
use Rattle.monitor_model.specs.Course.{opening, push_frame, said_count}
use Rattle.monitor_model.specs.Seen.{Seen, noted}
use Rattle.monitor_model.specs.Played.{IsRefusedAt}
use Rattle.monitor_model.specs.Stage.{Stage, Stand, Opened, Asked, first_stage, stand, with_stand, with_seen, with_item, request_head, marked_begun}
use Rattle.monitor_model.specs.Script
use Rattle.monitor_model.specs.Script.{entry, at_okd, at_proxy, at_pubd, at_log, greatest, begins, install_place, installed, stands_of, revoke_place, revoked, down_okd, downed, upped, closed, superseded_if, superseded, retired, freshly_booted, booted, installed_all, revoked_all, launched_rest, launched, taken_down, relaunched, marked, missed, dialog_opened, said_end, continued, heard_said, IsNext, Takes, Advances, IsReady, GoesOn, Begun, given, has_ended, accepted, Does, last_at, is_pending, is_busy_at, is_busy_request, broken, no_cell, refusal, Plays, PlaysAll}
use Rattle.monitor_model.proofs.Alike.{AlikeSeen, okd_more, pubd_more, noted_more, brief, AlikeStand, Alike, alike_itself, alike_sym, alike_at, alike_stand, alike_seen}
use Rattle.monitor_model.proofs.Lawful.Given.{bad_is_some}
use Rattle.monitor_model.proofs.Lawful.Answered.{IsHeard, all_heard, none_said}
use Rattle.monitor_model.proofs.Lawful.Plain.{each_reverse}
use Rattle.monitor_model.proofs.Stepping.{greatest_alike, alike_begins, alike_installed, last_alike, alike_revoked, alike_downed, alike_upped, alike_item, alike_closed, alike_superseded, alike_booted, alike_launched_rest, alike_relaunched, alike_takes}

-- the dialog's next step is the same in both
clash : (b : Bool) → b ≡ true → b ≡ false → ⊥
clash b one other = cc

lt_alike : (s : ℕ) (S T : Stage) → Alike S T → nat_lt (incarnation (stand S s).past) (greatest S s) ≡ nat_lt (incarnation (stand T s).past) (greatest T s)
lt_alike s S T a = ap (λ (n : ℕ). nat_lt n (greatest S s)) (alike_at s S T a).here ∙ ap (nat_lt (incarnation (stand T s).past)) (greatest_alike s S T a)

begins_some : (left : List ℕ) (said : ServiceFrame) (rest : List ℕ) → left ≡ [] → Begins left said rest → ⊥
begins_some left said rest none begins = short_begins_none left (inl (omega (arith, ap length none))) said rest begins

-- How an open dialog goes on: it is superseded; a frame is taken; what is left begins none; nothing is left.
pub data Going (C : Config) (s : ℕ) (opened : Opened) (S now : Stage) (text : List ℕ) : Type 0 where
  Supersedes : nat_lt (incarnation (stand S s).past) (greatest S s) ≡ true → now ≡ superseded s S → Going C s opened S now text
  TakesOne : nat_lt (incarnation (stand S s).past) (greatest S s) ≡ false → (said : ServiceFrame) → (left : List ℕ) → Begins (stand S s).left said left
      → Takes C s opened said left (said_end (said_count opened.items + 1) said) S text now → Going C s opened S now text
  Spoils : nat_lt (incarnation (stand S s).past) (greatest S s) ≡ false → BeginsNone (stand S s).left → (stand S s).left ≢ [] → now ≡ closed s opened end.BadFrame S → Going C s opened S now text
  Ends : nat_lt (incarnation (stand S s).past) (greatest S s) ≡ false → (stand S s).left ≡ [] → now ≡ closed s opened end.Ended S → Going C s opened S now text

going : (C : Config) (s : ℕ) (opened : Opened) (S now : Stage) (text : List ℕ) → Advances C s opened S text now → Going C s opened S now text
going C s opened S now text (inl ends) = Supersedes ends.0 ends.1
going C s opened S now text (inr (inl takes)) = TakesOne takes.0 takes.1 takes.2 takes.3 takes.4
going C s opened S now text (inr (inr (inl bad))) = Spoils bad.0 bad.1.0 (bad_is_some (stand S s).left bad.1) bad.2
going C s opened S now text (inr (inr (inr (inl ended)))) = Ends ended.0 ended.2 ended.3
going C s opened S now text (inr (inr (inr (inr cut)))) = Spoils cut.0 cut.3 cut.2 cut.4

module _ (C : Config) (s : ℕ) (opened opened' : Opened) (S T now now' : Stage) (text text' : List ℕ) (is : said_count opened.items ≡ said_count opened'.items) (a : Alike S T) where
  lt_is : nat_lt (incarnation (stand S s).past) (greatest S s) ≡ nat_lt (incarnation (stand T s).past) (greatest T s)
  lt_is = lt_alike s S T a

  left_is : (stand S s).left ≡ (stand T s).left
  left_is = (alike_at s S T a).left

  takes_both : (said said' : ServiceFrame) (left left' : List ℕ) → Begins (stand S s).left said left → Begins (stand T s).left said' left'
      → Takes C s opened said left (said_end (said_count opened.items + 1) said) S text now → Takes C s opened' said' left' (said_end (said_count opened'.items + 1) said') T text' now' → Alike now now'
  takes_both said said' left left' begins begins' one two =
      let here : Begins (stand S s).left said' left' = subst (λ (bytes : List ℕ). Begins bytes said' left') (sym left_is) begins' in
      let same : (said ≡ said') × (left ≡ left') = one_begins (stand S s).left said said' left left' begins here in
      let first : Takes C s opened' said left' (said_end (said_count opened'.items + 1) said) T text' now'
      = subst (λ (x : ServiceFrame). Takes C s opened' x left' (said_end (said_count opened'.items + 1) x) T text' now') (sym same.0) two in
      let second : Takes C s opened' said left (said_end (said_count opened'.items + 1) said) T text' now'
      = subst (λ (x : List ℕ). Takes C s opened' said x (said_end (said_count opened'.items + 1) said) T text' now') (sym same.1) first in
      let third : Takes C s opened' said left (said_end (said_count opened.items + 1) said) T text' now'
      = subst (λ (n : ℕ). Takes C s opened' said left (said_end (n + 1) said) T text' now') (sym is) second in
      alike_takes C s opened opened' said left (said_end (said_count opened.items + 1) said) S T now now' text text' is a one third

  pub both_going : Going C s opened S now text → Going C s opened' T now' text' → Alike now now'
  both_going (Supersedes lt one) (Supersedes lt' two) = rw (one, two) (alike_superseded s S T a)
  both_going (TakesOne lt said left begins one) (TakesOne lt' said' left' begins' two) = takes_both said said' left left' begins begins' one two
  both_going (Spoils lt none some one) (Spoils lt' none' some' two) = rw (one, two) (alike_closed s opened opened' end.BadFrame end.BadFrame S T refl a)
  both_going (Ends lt none one) (Ends lt' none' two) = rw (one, two) (alike_closed s opened opened' end.Ended end.Ended S T refl a)
  both_going (Supersedes lt one) (TakesOne lt' said' left' begins' two) = absurd (clash _ lt (lt_is ∙ lt'))
  both_going (Supersedes lt one) (Spoils lt' none' some' two) = absurd (clash _ lt (lt_is ∙ lt'))
  both_going (Supersedes lt one) (Ends lt' none' two) = absurd (clash _ lt (lt_is ∙ lt'))
  both_going (TakesOne lt said left begins one) (Supersedes lt' two) = absurd (clash _ (lt_is ∙ lt') lt)
  both_going (Spoils lt none some one) (Supersedes lt' two) = absurd (clash _ (lt_is ∙ lt') lt)
  both_going (Ends lt none one) (Supersedes lt' two) = absurd (clash _ (lt_is ∙ lt') lt)
  both_going (TakesOne lt said left begins one) (Spoils lt' none' some' two) = absurd (none' said left (subst (λ (bytes : List ℕ). Begins bytes said left) left_is begins))
  both_going (Spoils lt none some one) (TakesOne lt' said' left' begins' two) = absurd (none said' left' (subst (λ (bytes : List ℕ). Begins bytes said' left') (sym left_is) begins'))
  both_going (TakesOne lt said left begins one) (Ends lt' none' two) = absurd (begins_some (stand S s).left said left (left_is ∙ none') begins)
  both_going (Ends lt none one) (TakesOne lt' said' left' begins' two) = absurd (begins_some (stand T s).left said' left' (sym left_is ∙ none) begins')
  both_going (Spoils lt none some one) (Ends lt' none' two) = absurd (some (left_is ∙ none'))
  both_going (Ends lt none one) (Spoils lt' none' some' two) = absurd (some' (sym left_is ∙ none))

open_both : (o o' : Option Opened) (opened : Opened) → brief o ≡ brief o' → o ≡ Some opened → (opened' : Opened) × (o' ≡ Some opened')
open_both None o' opened is here = let never : ⊥ = cc in absurd never
open_both (Some one) None opened is here = let never : ⊥ = cc in absurd never
open_both (Some one) (Some other) opened is here = (other, refl)

count_both : (o o' : Option Opened) (opened opened' : Opened) → brief o ≡ brief o' → o ≡ Some opened → o' ≡ Some opened' → said_count opened.items ≡ said_count opened'.items
count_both o o' opened opened' is here there =
    let counts : Some (said_count opened.items) ≡ Some (said_count opened'.items) = sym (ap brief here) ∙ is ∙ ap brief there in
    cc

ready_both : (x y : Stand) → AlikeStand x y → IsReady x → IsReady y
ready_both x y a (inl begins) = inl (begins.0, begins.1, subst (λ (bytes : List ℕ). Begins bytes begins.0 begins.1) a.left begins.2)
ready_both x y a (inr (inl bad)) = inr (inl (subst IsBad a.left bad))
ready_both x y a (inr (inr ended)) = inr (inr (subst IsTrue a.ended ended))

-- one goes on, and the other doesn't
one_stops : (s : ℕ) (S T : Stage) (opened : Opened) → Alike S T → (stand S s).open_dialog ≡ Some opened → IsReady (stand S s)
    → ((other : Opened) → (stand T s).open_dialog ≡ Some other → IsReady (stand T s) → ⊥) → ⊥
one_stops s S T opened a is ready stops =
    let there : AlikeStand (stand S s) (stand T s) = alike_at s S T a in
    let other : (opened' : Opened) × ((stand T s).open_dialog ≡ Some opened') = open_both (stand S s).open_dialog (stand T s).open_dialog opened there.open_is is in
    stops other.0 other.1 (ready_both (stand S s) (stand T s) there ready)

alike_goes_on : (C : Config) (s n m : ℕ) (S T now now' : Stage) (text text' : List ℕ) → Alike S T → GoesOn C s n S text now → GoesOn C s m T text' now' → Alike now now'
alike_goes_on C s zero zero S T now now' text text' a one two = rw (one.1, two.1) a
alike_goes_on C s (suc n) zero S T now now' text text' a one two = absurd (one_stops s S T one.0 a one.4 one.5 two.2)
alike_goes_on C s zero (suc m) S T now now' text text' a one two = absurd (one_stops s T S two.0 (alike_sym S T a) two.4 two.5 one.2)
alike_goes_on C s (suc n) (suc m) S T now now' text text' a one two =
    let is : said_count one.0.items ≡ said_count two.0.items = count_both (stand S s).open_dialog (stand T s).open_dialog one.0 two.0 (alike_at s S T a).open_is one.4 two.4 in
    let next : Alike one.1 two.1
    = both_going C s one.0 two.0 S T one.1 two.1 one.2 two.2 is a (going C s one.0 S one.1 one.2 one.6) (going C s two.0 T two.1 two.2 two.6) in
    alike_goes_on C s n m one.1 two.1 now now' one.3 two.3 next one.7 two.7

-- a dialog begins
opening_said : (pushes : List Push) (request : ServerFrame) → said_count (opening pushes request) ≡ 0
opening_said pushes request = none_said (reverse (map (λ (push : Push). Heard (push_frame push)) pushes)) (each_reverse IsHeard (map (λ (push : Push). Heard (push_frame push)) pushes) (all_heard pushes))

alike_missed : (s k : ℕ) (S T : Stage) → Alike S T → Alike (missed s k S) (missed s k T)
alike_missed s k S T a =
    let there : AlikeStand (stand S s) (stand T s) = alike_at s S T a in
    let x : Stand = record (stand S s) { past = cell.Missed 0 k (incarnation (stand S s).past) ∷ (stand S s).past } in
    let y : Stand = record (stand T s) { past = cell.Missed 0 k (incarnation (stand T s).past) ∷ (stand T s).past } in
    alike_item (own.Missed s k (incarnation (stand S s).past)) (own.Missed s k (incarnation (stand T s).past)) (with_stand S s x) (with_stand T s y)
    (alike_stand s x y S T (record { here = there.here; last = there.last; left = there.left; ended = there.ended; open_is = there.open_is }) a)

alike_opened : (C : Config) (n s k : ℕ) (asked : Asked) (S T : Stage) → Alike S T → Alike (dialog_opened C n s k asked S) (dialog_opened C n s k asked T)
alike_opened C n s k asked S T a =
    let there : AlikeStand (stand S s) (stand T s) = alike_at s S T a in
    let request : ServerFrame = frame.Request asked.head asked.content in
    let said : said_count (opening (drain_verdict C S.seen.pubd s k) request) ≡ said_count (opening (drain_verdict C T.seen.pubd s k) request)
    = opening_said (drain_verdict C S.seen.pubd s k) request ∙ sym (opening_said (drain_verdict C T.seen.pubd s k) request) in
    let J : Seen = noted S.seen (own.Dialog s) in
    let K : Seen = noted T.seen (own.Dialog s) in
    let x : Stand = record (stand S s) { open_dialog = Some (record { request = n; items = opening (drain_verdict C S.seen.pubd s k) request }) } in
    let y : Stand = record (stand T s) { open_dialog = Some (record { request = n; items = opening (drain_verdict C T.seen.pubd s k) request }) } in
    let seen : AlikeSeen (at_pubd (pubd.Drain s k) J) (at_pubd (pubd.Drain s k) K) = pubd_more (pubd.Drain s k) J K (noted_more (own.Dialog s) (own.Dialog s) S.seen T.seen a.seen) in
    alike_stand s x y (with_seen S (at_pubd (pubd.Drain s k) J)) (with_seen T (at_pubd (pubd.Drain s k) K))
    (record { here = there.here; last = there.last; left = there.left; ended = there.ended; open_is = ap Some said })
    (alike_seen (at_pubd (pubd.Drain s k) J) (at_pubd (pubd.Drain s k) K) S T seen a)

alike_begun : (C : Config) (n s k : ℕ) (asked : Asked) (S T now now' : Stage) (text text' : List ℕ) → Alike S T → Begun C n s k asked S text now → Begun C n s k asked T text' now' → Alike now now'
alike_begun C n s k asked S T now now' text text' a (inl one) (inl two) = rw (one.1, two.1) (alike_missed s k S T a)
alike_begun C n s k asked S T now now' text text' a (inr (inl one)) (inr (inl two)) =
    let none : Opened = record { request = n; items = [] } in
    rw (one.2, two.2)
    (alike_closed s none none (end.Superseded (greatest S s)) (end.Superseded (greatest T s)) (with_item S (own.Dialog s)) (with_item T (own.Dialog s)) (ap end.Superseded (greatest_alike s S T a))
    (alike_item (own.Dialog s) (own.Dialog s) S T a))
alike_begun C n s k asked S T now now' text text' a (inr (inr one)) (inr (inr two)) =
    alike_goes_on C s one.2 two.2 (dialog_opened C n s k asked S) (dialog_opened C n s k asked T) now now' one.3 two.3 (alike_opened C n s k asked S T a) one.4 two.4
alike_begun C n s k asked S T now now' text text' a (inl one) (inr (inl two)) = absurd (one.0 ((alike_at s S T a).here ∙ two.0))
alike_begun C n s k asked S T now now' text text' a (inl one) (inr (inr two)) = absurd (one.0 ((alike_at s S T a).here ∙ two.0))
alike_begun C n s k asked S T now now' text text' a (inr (inl one)) (inl two) = absurd (two.0 (sym (alike_at s S T a).here ∙ one.0))
alike_begun C n s k asked S T now now' text text' a (inr (inr one)) (inl two) = absurd (two.0 (sym (alike_at s S T a).here ∙ one.0))
alike_begun C n s k asked S T now now' text text' a (inr (inl one)) (inr (inr two)) = absurd (omega (arith, one.1, two.1, greatest_alike s S T a))
alike_begun C n s k asked S T now now' text text' a (inr (inr one)) (inr (inl two)) = absurd (omega (arith, one.1, two.1, greatest_alike s S T a))

same_some : {A : Type 0} (x y : A) (o o' : Option A) → o ≡ o' → o ≡ Some x → o' ≡ Some y → x ≡ y
same_some x y o o' is here there = cc

alike_marked : (n : ℕ) (S T : Stage) → Alike S T → Alike (marked n S) (marked n T)
alike_marked n S T a = record { seen = a.seen; stands = a.stands; requests = ap (marked_begun n) a.requests }

alike_dialog : (C : Config) (seed : List ℕ) (n : ℕ) (S T now now' : Stage) (text text' : List ℕ) → Alike S T → Does C seed (line.Dialog n) S text now → Does C seed (line.Dialog n) T text' now' → Alike now now'
alike_dialog C seed n S T now now' text text' a one two =
    let asked : one.0 ≡ two.0 = same_some one.0 two.0 (slice_get S.requests n) (slice_get T.requests n) (ap (λ (xs : List Asked). slice_get xs n) a.requests) one.3 two.3 in
    let here : ℕ × ℕ = (one.1, one.2) in
    let there : ℕ × ℕ = (two.1, two.2) in
    let goes : here ≡ there = same_some {A = ℕ × ℕ} here there one.0.goes two.0.goes (ap (λ (x : Asked). x.goes) asked) one.4 two.4 in
    let first : Begun C n two.1 two.2 one.0 (marked n T) text' now' = subst (λ (x : Asked). Begun C n two.1 two.2 x (marked n T) text' now') (sym asked) two.5 in
    let second : Begun C n one.1 one.2 one.0 (marked n T) text' now' = subst (λ (x : ℕ × ℕ). Begun C n x.0 x.1 one.0 (marked n T) text' now') (sym goes) first in
    alike_begun C n one.1 one.2 one.0 (marked n S) (marked n T) now now' text text' (alike_marked n S T a) one.5 second

-- bytes come, or end
alike_given : (s : ℕ) (bytes : List ℕ) (S T : Stage) → Alike S T → Alike (given s bytes S) (given s bytes T)
alike_given s bytes S T a =
    let there : AlikeStand (stand S s) (stand T s) = alike_at s S T a in
    let x : Stand = record (stand S s) { left = (stand S s).left ++ bytes } in
    let y : Stand = record (stand T s) { left = (stand T s).left ++ bytes } in
    alike_stand s x y S T (record { here = there.here; last = there.last; left = ap (λ (xs : List ℕ). xs ++ bytes) there.left; ended = there.ended; open_is = there.open_is }) a

alike_has_ended : (s : ℕ) (S T : Stage) → Alike S T → Alike (has_ended s S) (has_ended s T)
alike_has_ended s S T a =
    let there : AlikeStand (stand S s) (stand T s) = alike_at s S T a in
    let x : Stand = record (stand S s) { has_ended = true } in
    let y : Stand = record (stand T s) { has_ended = true } in
    alike_stand s x y S T (record { here = there.here; last = there.last; left = there.left; ended = refl; open_is = there.open_is }) a

alike_accepted : (C : Config) (target : List ℕ) (asked : Asked) (S T : Stage) → Alike S T
    → Alike (accepted (accept_verdict C S.seen.okd target) asked (with_seen S (at_okd (okd.Accept target) S.seen))) (accepted (accept_verdict C T.seen.okd target) asked (with_seen T (at_okd (okd.Accept target) T.seen)))
alike_accepted C target asked S T a = record {
  seen = okd_more (okd.Accept target) (okd.Accept target) S.seen T.seen refl a.seen;
  stands = a.stands;
  requests =
      ap (λ (xs : List Asked). xs ++ record asked { goes = Script.goes_of (accept_verdict C S.seen.okd target) } ∷ []) a.requests
      ∙ ap (λ (J : List (Entry OkdEvent)). T.requests ++ record asked { goes = Script.goes_of (accept_verdict C J target) } ∷ []) a.seen.okd;
}

-- each line
alike_line : (C : Config) (seed : List ℕ) (line : Line) (S T now now' : Stage) (text text' : List ℕ) → Alike S T → Does C seed line S text now → Does C seed line T text' now' → Alike now now'
alike_line C seed (line.Begin s) S T now now' text text' a one two = rw (one.0, two.0) (alike_begins s S T a)
alike_line C seed (line.Install s at) S T now now' text text' a one two = rw (one.0, two.0) (alike_installed seed s at S T a)
alike_line C seed (line.Revoke s at) S T now now' text text' a one two = rw (one.0, two.0) (alike_revoked s at S T a)
alike_line C seed (line.Boot s) S T now now' text text' a one two = rw (one.0, two.0) (alike_booted s S T a)
alike_line C seed (line.Up s) S T now now' text text' a one two = rw (one.0, two.0) (alike_upped s S T a)
alike_line C seed (line.Down s) S T now now' text text' a one two = rw (one.0, two.0) (alike_downed s S T a)
alike_line C seed (line.Launch s) S T now now' text text' a one two = rw (one.0, two.0) (alike_launched_rest C seed s (begins s S) (begins s T) (alike_begins s S T a))
alike_line C seed (line.Relaunch s) S T now now' text text' a one two = rw (one.0, two.0) (alike_relaunched C seed s S T a)
alike_line C seed (line.Accept method target content) S T now now' text text' a one two =
    rw (one.0, two.0) (alike_accepted C (path target) (record { method = method; head = request_head method target content; content = content; goes = None; has_begun = false }) S T a)
alike_line C seed (line.Dialog n) S T now now' text text' a one two = alike_dialog C seed n S T now now' text text' a one two
alike_line C seed (line.Bytes s bytes) S T now now' text text' a one two = alike_goes_on C s one.0 two.0 (given s bytes S) (given s bytes T) now now' text text' (alike_given s bytes S T a) one.1 two.1
alike_line C seed (line.End s) S T now now' text text' a one two = alike_goes_on C s one.0 two.0 (has_ended s S) (has_ended s T) now now' text text' (alike_has_ended s S T a) one.1 two.1
alike_line C seed (line.Publish t content) S T now now' text text' a one two =
    rw (one.0, two.0) (alike_seen (at_pubd (pubd.Publish t content) S.seen) (at_pubd (pubd.Publish t content) T.seen) S T (pubd_more (pubd.Publish t content) S.seen T.seen a.seen) a)

-- the rule that a line breaks is the same in both
busy_brief : (o o' : Option Opened) → brief o ≡ brief o' → is_some o ≡ is_some o'
busy_brief None None is = refl
busy_brief (Some x) (Some y) is = refl
busy_brief None (Some y) is = let never : ⊥ = cc in absurd never
busy_brief (Some x) None is = let never : ⊥ = cc in absurd never

busy_at : (o : Option (ℕ × ℕ)) (S T : Stage) → Alike S T → is_busy_at o S ≡ is_busy_at o T
busy_at None S T a = refl
busy_at (Some at) S T a = busy_brief (stand S at.0).open_dialog (stand T at.0).open_dialog (alike_at at.0 S T a).open_is

busy_request : (o : Option Asked) (S T : Stage) → Alike S T → is_busy_request o S ≡ is_busy_request o T
busy_request None S T a = refl
busy_request (Some asked) S T a = busy_at asked.goes S T a

install_same : (k k' last last' : ℕ) → k ≡ k' → last ≡ last' → broken (k == 0) 3 (broken (nat_le k last) 4 None) ≡ broken (k' == 0) 3 (broken (nat_le k' last') 4 None)
install_same k k' last last' is at = rw (is, at) refl

dialog_same : (o o' : Option Asked) (busy busy' : Bool) → o ≡ o' → busy ≡ busy' → broken (not (is_pending o)) 5 (broken busy 6 None) ≡ broken (not (is_pending o')) 5 (broken busy' 6 None)
dialog_same o o' busy busy' is at = rw (is, at) refl

refused_same : (line : Line) (S T : Stage) → Alike S T → refusal line S ≡ refusal line T
refused_same (line.Begin s) S T a = rw a.seen.launcher refl
refused_same (line.Install s at) S T a =
    install_same (greatest S s) (greatest T s) (last_at s at S.seen) (last_at s at T.seen) (greatest_alike s S T a) (last_alike s at S.seen T.seen a.seen)
refused_same (line.Revoke s at) S T a = refl
refused_same (line.Boot s) S T a =
    install_same (greatest S s) (greatest T s) (last_booted (stand S s).past) (last_booted (stand T s).past) (greatest_alike s S T a) (alike_at s S T a).last
refused_same (line.Up s) S T a = rw (a.seen.okd, (alike_at s S T a).here) refl
refused_same (line.Down s) S T a = refl
refused_same (line.Launch s) S T a = rw a.seen.launcher refl
refused_same (line.Relaunch s) S T a = rw a.seen.launcher refl
refused_same (line.Accept method target content) S T a = refl
refused_same (line.Dialog n) S T a =
    let same : slice_get S.requests n ≡ slice_get T.requests n = ap (λ (xs : List Asked). slice_get xs n) a.requests in
    dialog_same (slice_get S.requests n) (slice_get T.requests n) (is_busy_request (slice_get S.requests n) S) (is_busy_request (slice_get T.requests n) T) same
    (ap (λ (o : Option Asked). is_busy_request o S) same ∙ busy_request (slice_get T.requests n) S T a)
refused_same (line.Bytes s bytes) S T a = rw ((alike_at s S T a).here, (alike_at s S T a).ended) refl
refused_same (line.End s) S T a = rw ((alike_at s S T a).here, (alike_at s S T a).ended) refl
refused_same (line.Publish t content) S T a = rw (a.seen.editions t) refl

-- two runs of the same lines
alike_runs : (C : Config) (seed : List ℕ) (lines : List Line) (printed text : List ℕ) (S T : Stage) → PlaysAll C seed lines printed S → PlaysAll C seed lines text T → Alike S T
alike_runs C seed [] printed text S T one two = rw (one.1, two.1) (alike_itself (first_stage C))
alike_runs C seed (line ∷ lines) printed text S T one two =
    alike_line C seed line one.0 two.0 S T one.2 two.2 (alike_runs C seed lines one.1 two.1 one.0 two.0 one.3 two.3) one.4.1 two.4.1

none_some : {A : Type 0} (x : A) (o o' : Option A) → o ≡ o' → o ≡ None → o' ≡ Some x → ⊥
none_some x o o' is none some = cc

pub whole_runs_are_not_refused : (C : Config) (seed : List ℕ) (later lines : List Line) (line : Line) (rule : ℕ) (printed text : List ℕ) (whole stopped : Stage)
    → PlaysAll C seed (later ++ line ∷ lines) printed whole → IsRefusedAt C seed lines line rule text stopped → ⊥
whole_runs_are_not_refused C seed [] lines line rule printed text whole stopped plays refused =
    none_some rule (refusal line plays.0) (refusal line stopped) (refused_same line plays.0 stopped (alike_runs C seed lines plays.1 text plays.0 stopped plays.3 refused.0)) plays.4.0 refused.1
whole_runs_are_not_refused C seed (next ∷ later) lines line rule printed text whole stopped plays refused =
    whole_runs_are_not_refused C seed later lines line rule plays.1 text plays.0 stopped plays.3 refused
