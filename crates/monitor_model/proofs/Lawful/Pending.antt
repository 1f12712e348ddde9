-- What the steps of a run answer, and which request waits.
use Rattle.std.proofs.Common.{◌≡◌, ◌≢◌, inl, inr, ℕ, zero, suc, ◌+◌, ◌<◌, Bool, true, false, cond, List, [], ◌∷◌, ◌++◌, Option, Some, None, refl, ap, sym, ◌∙◌, arith, length, ◌==◌, eqb-true, append-nil, get_or-set_same, get_or-set_other, subst}
use Rattle.std.specs.Prelude.{slice_get, slice_set, slice_index_or}
use Rattle.std.proofs.lemmas.Bool.{eqb-false}
use Rattle.okws_plan.specs.Configuration.{cols, all_places}
use Rattle.okws_plan.specs.declared.configuration.Config.{Config}
use Rattle.okws_plan.specs.declared.script.Place.{Place}
use Rattle.frame_codec.specs.declared.frame.ServiceFrame.{ServiceFrame}
use Rattle.monitor_model.specs.declared.record.CellEvent.{CellEvent}
use Rattle.monitor_model.specs.declared.record.CellEvent.TheVariants as cell
use Rattle.monitor_model.specs.declared.record.End.{End}
use Rattle.monitor_model.specs.declared.record.End.TheVariants as end
use Rattle.monitor_model.specs.declared.record.Item.TheVariants.{Heard, Said}
use Rattle.monitor_model.specs.Answering.{end_response}
use Rattle.monitor_model.specs.Cell.{boot_frame, incarnation}
use Rattle.monitor_model.specs.Course.{said_count}
use Rattle.monitor_model.specs.Launcher.{begun}
use Rattle.monitor_model.specs.Replied.{asking, replies, request_of}
use Rattle.monitor_model.specs.Stage.{Stage, Stand, Opened, Asked, answer_line, empty_stand, heard_line, stand, with_seen, marked_begun}
use Rattle.monitor_model.specs.Standing.{up_at_okd}
use Rattle.monitor_model.specs.Script.{begins, booted, booting_text, closed, closing_text, continued, downed, freshly_booted, greatest, heard_said, installed, installed_all, launched, relaunched, request_method, retired, revoked, revoked_all, said_end, superseded, superseded_if, superseded_text, taken_down, upped, Advances, GoesOn, Takes, settled}
use Rattle.monitor_model.specs.Told.{ToldAnswer}
use Rattle.monitor_model.proofs.Lawful.Kept.{IsGood}
use Rattle.monitor_model.proofs.Lawful.Settled.{closed_there, retired_there, settled_keeps}
use Rattle.monitor_model.proofs.Lawful.Stages.{open_is_declared, IsBootable, IsEmpty, superseded_is_shut, retired_is_empty, retired_stage}
use Rattle.monitor_model.proofs.Lawful.Launches.{begins_is_launchable, installed_is_bootable, revoked_is_launchable, taken_down_is_launchable}
use Rattle.monitor_model.proofs.Lawful.Hearing.{stand_when}
use Rattle.monitor_model.proofs.Lawful.Telling.{stands_installed_all, stands_revoked_all, launcher_emptied, launcher_installed_all, launcher_revoked_all, launcher_downed, open_is}
use Rattle.monitor_model.proofs.Lawful.Replying.{AreAsking, IsBegunAt, Replies, replies_then, replies_nothing, replies_frame, replies_closed, same_of}

-- what is asked at a cell, where one changes
pub ask_here : (s : ℕ) (stands : List Stand) (there : Stand) → s < length stands → request_of (slice_index_or (slice_set stands s there) s empty_stand).open_dialog ≡ request_of there.open_dialog
ask_here s stands there declared = ap (λ (x : Stand). request_of x.open_dialog) (get_or-set_same stands s there empty_stand declared)

pub ask_other : (s t : ℕ) (stands : List Stand) (there : Stand) → s ≢ t → request_of (slice_index_or (slice_set stands s there) t empty_stand).open_dialog ≡ request_of (slice_index_or stands t empty_stand).open_dialog
ask_other s t stands there apart = ap (λ (x : Stand). request_of x.open_dialog) (get_or-set_other stands s t there empty_stand (λ same. apart (sym same)))

pub ask_same : (s : ℕ) (stands : List Stand) (there : Stand) → s < length stands → request_of there.open_dialog ≡ request_of (slice_index_or stands s empty_stand).open_dialog
    → (t : ℕ) → request_of (slice_index_or (slice_set stands s there) t empty_stand).open_dialog ≡ request_of (slice_index_or stands t empty_stand).open_dialog
ask_same s stands there declared same t =
    stand_when (λ (r : ℕ) (x : Stand). request_of x.open_dialog ≡ request_of (slice_index_or stands r empty_stand).open_dialog) s t stands there declared same (λ apart. refl) (s == t) refl

pub ask_stands : (S now : Stage) → now.stands ≡ S.stands → (t : ℕ) → asking now t ≡ asking S t
ask_stands S now same t = ap (λ (stands : List Stand). request_of (slice_index_or stands t empty_stand).open_dialog) same

pub replies_columns : (C : Config) (S now : Stage) → AreAsking S → now.requests ≡ S.requests → now.stands ≡ S.stands → Replies C S [] now
replies_columns C S now all requests same = replies_nothing C S now all requests (ask_stands S now same)

-- a dialog ends
replies_ended : (C : Config) (s : ℕ) (was opened : Opened) (how : End) (text : List ℕ) (S : Stage) → AreAsking S → (stand S s).open_dialog ≡ Some was → Replies C S (answer_line was.request text) (closed s opened how S)
replies_ended C s was opened how text S all is =
    let ended : Stand = closed_there opened.items how (stand S s) in
    let there : Stand = settled ended in
    let none : request_of there.open_dialog ≡ None = settled_keeps (λ (J : List CellEvent) (o : Option Opened). request_of o ≡ None) ended refl in
    replies_closed C S (closed s opened how S) s was.request text all refl (ap request_of is) (ask_here s S.stands there (open_is_declared s S.stands was is) ∙ none) (λ t apart. ask_other s t S.stands there apart)

replies_superseded_if : (C : Config) (s : ℕ) (o : Option Opened) (S other : Stage) → AreAsking S → (stand S s).open_dialog ≡ o → Replies C S (superseded_text s o other) (superseded_if s o S)
replies_superseded_if C s None S other all is = replies_columns C S S all refl refl
replies_superseded_if C s (Some opened) S other all is =
    replies_ended C s opened opened (end.Superseded (greatest S s)) (end_response (end.Superseded (greatest other s)) opened.items (request_method (slice_get other.requests opened.request))) S all is

replies_superseded : (C : Config) (s : ℕ) (o : Option Opened) (S other : Stage) → AreAsking S → (stand S s).open_dialog ≡ o → Replies C S (superseded_text s o other) (superseded s S)
replies_superseded C s o S other all is = rw is (replies_superseded_if C s o S other all is)

-- a cell is retired, and booted
replies_retired_when : (C : Config) (s : ℕ) (S : Stage) (b : Bool) → AreAsking S → s < length S.stands → Replies C S [] (cond b S (retired_stage s S))
replies_retired_when C s S true all declared = replies_columns C S S all refl refl
replies_retired_when C s S false all declared =
    replies_nothing C S (retired_stage s S) all refl (ask_same s S.stands (retired_there (stand S s)) declared refl)

replies_emptied : (C : Config) (seed : List ℕ) (s : ℕ) (o : Option Opened) (S other : Stage) → IsBootable C seed s S → AreAsking S → (stand S s).open_dialog ≡ o
    → Replies C S (superseded_text s o other) (retired s (superseded s S))
replies_emptied C seed s o S other b all is =
    let first : Replies C S (superseded_text s o other) (superseded s S) = replies_superseded C s o S other all is in
    rw append-nil at
    (replies_then C S (superseded s S) (retired s (superseded s S)) (superseded_text s o other) [] first
    (replies_retired_when C s (superseded s S) (incarnation (stand (superseded s S) s).past == 0) first.asks (superseded_is_shut C seed s S b).bootable.declared))

replies_fresh : (C : Config) (seed : List ℕ) (s g : ℕ) (S : Stage) → IsEmpty C seed s S → AreAsking S → greatest S s ≡ g → Replies C S (heard_line C s g (boot_frame C seed s g)) (freshly_booted s S)
replies_fresh C seed s g S b all is =
    replies_frame C S (freshly_booted s S) s g (boot_frame C seed s g) all refl
    (ask_same s S.stands (record { past = cell.Boot (greatest S s) ∷ (stand S s).past; left = []; has_ended = false; open_dialog = None }) b.bootable.declared (rw b.shut refl))

pub replies_booted : (C : Config) (seed : List ℕ) (s g : ℕ) (o : Option Opened) (S other : Stage) → IsBootable C seed s S → AreAsking S → (stand S s).open_dialog ≡ o → greatest S s ≡ g
    → Replies C S (superseded_text s o other ++ heard_line C s g (boot_frame C seed s g)) (booted s S)
replies_booted C seed s g o S other b all is begun_is =
    let first : Replies C S (superseded_text s o other) (retired s (superseded s S)) = replies_emptied C seed s o S other b all is in
    replies_then C S (retired s (superseded s S)) (booted s S) (superseded_text s o other) (heard_line C s g (boot_frame C seed s g)) first
    (replies_fresh C seed s g (retired s (superseded s S)) (retired_is_empty C seed s (superseded s S) (superseded_is_shut C seed s S b)) first.asks (ap (λ J. begun J s) (launcher_emptied s S) ∙ begun_is))

-- launches
requests_installed_all : (seed : List ℕ) (s : ℕ) (places : List Place) (S : Stage) → (installed_all seed s places S).requests ≡ S.requests
requests_installed_all seed s [] S = refl
requests_installed_all seed s (at ∷ more) S = requests_installed_all seed s more (installed seed s at S)

requests_revoked_all : (s : ℕ) (places : List Place) (S : Stage) → (revoked_all s places S).requests ≡ S.requests
requests_revoked_all s [] S = refl
requests_revoked_all s (at ∷ more) S = requests_revoked_all s more (revoked s at S)

replies_upped : (C : Config) (s : ℕ) (S T : Stage) (text : List ℕ) → Replies C S text T → Replies C S text (upped s T)
replies_upped C s S T text r =
    rw append-nil at (replies_then C S T (upped s T) text [] r (replies_columns C T (upped s T) r.asks refl refl))

pub replies_launched : (C : Config) (seed : List ℕ) (s : ℕ) (S : Stage) → IsGood C seed S → s < length C.services → AreAsking S → Replies C S (booting_text C seed s (begins s S)) (launched C seed s S)
replies_launched C seed s S g declared all =
    let T : Stage = installed_all seed s (cols C s) (begins s S) in
    let stands_are : T.stands ≡ S.stands = stands_installed_all seed s (cols C s) (begins s S) in
    let first : Replies C S [] T = replies_columns C S T all (requests_installed_all seed s (cols C s) (begins s S)) stands_are in
    replies_upped C s S (booted s T) (booting_text C seed s (begins s S))
    (replies_then C S T (booted s T) [] (booting_text C seed s (begins s S)) first
    (replies_booted C seed s (greatest (begins s S) s) (stand S s).open_dialog T (begins s S) (installed_is_bootable C seed s (begins s S) (begins_is_launchable C seed s S g declared)) first.asks
    (open_is s T S stands_are) (ap (λ J. begun J s) (launcher_installed_all seed s (cols C s) (begins s S)))))

pub replies_relaunched : (C : Config) (seed : List ℕ) (s : ℕ) (S : Stage) → IsGood C seed S → s < length C.services → AreAsking S → Replies C S (booting_text C seed s (begins s S)) (relaunched C seed s S)
replies_relaunched C seed s S g declared all =
    let R : Stage = revoked_all s (all_places C) (downed s (begins s S)) in
    let D : Stage = taken_down C s S in
    let T : Stage = installed_all seed s (cols C s) D in
    let number : ℕ = greatest (begins s S) s in
    let ends : List ℕ = superseded_text s (stand S s).open_dialog (begins s S) in
    let boots : List ℕ = heard_line C s number (boot_frame C seed s number) in
    let stands_before : R.stands ≡ S.stands = stands_revoked_all s (all_places C) (downed s (begins s S)) in
    let stands_after : T.stands ≡ D.stands = stands_installed_all seed s (cols C s) D in
    let launchable = revoked_is_launchable C seed s S g declared in
    let emptied : IsEmpty C seed s D = retired_is_empty C seed s (superseded s R) (superseded_is_shut C seed s R launchable.bootable) in
    let first : Replies C S [] R = replies_columns C S R all (requests_revoked_all s (all_places C) (downed s (begins s S))) stands_before in
    let second : Replies C R ends D = replies_emptied C seed s (stand S s).open_dialog R (begins s S) launchable.bootable first.asks (open_is s R S stands_before) in
    let third : Replies C D [] T = replies_columns C D T second.asks (requests_installed_all seed s (cols C s) D) stands_after in
    let begun_is : T.seen.launcher ≡ (begins s S).seen.launcher
    = launcher_installed_all seed s (cols C s) D ∙ (launcher_emptied s R ∙ (launcher_revoked_all s (all_places C) (downed s (begins s S)) ∙ launcher_downed s (up_at_okd S.seen.okd s) (begins s S).seen)) in
    let fourth : Replies C T boots (booted s T)
    = replies_booted C seed s number None T S (installed_is_bootable C seed s D (taken_down_is_launchable C seed s S g declared)) third.asks (open_is s T D stands_after ∙ emptied.shut) (ap (λ J. begun J s) begun_is) in
    replies_upped C s S (booted s T) (ends ++ boots)
    (replies_then C S D (booted s T) ends boots (replies_then C S R D [] ends first second) (replies_then C D T (booted s T) [] boots third fourth))

-- a dialog goes on
replies_takes : (C : Config) (s : ℕ) (opened : Opened) (said : ServiceFrame) (left : List ℕ) (o : Option End) (S : Stage) (text : List ℕ) (now : Stage) → AreAsking S → (stand S s).open_dialog ≡ Some opened
    → Takes C s opened said left o S text now → Replies C S text now
replies_takes C s opened said left (Some how) S text now all is takes =
    let mid : Stage = continued s opened left S in
    let declared : s < length S.stands = open_is_declared s S.stands opened is in
    let there : Stand = record (stand S s) { left = left; open_dialog = Some opened } in
    let first : Replies C S [] mid = replies_nothing C S mid all refl (ask_same s S.stands there declared (rw is refl)) in
    let here : (stand mid s).open_dialog ≡ Some opened = ap (λ (x : Stand). x.open_dialog) (get_or-set_same S.stands s there empty_stand declared) in
    rw (takes.0, takes.1)
    (replies_then C S mid (closed s (heard_said opened said) how mid) [] (closing_text (heard_said opened said) how S) first
    (replies_ended C s opened (heard_said opened said) how (end_response how (Said said ∷ opened.items) (request_method (slice_get S.requests opened.request))) mid first.asks here))
replies_takes C s opened said left None S text now all is takes =
    let there : Stand = record (stand S s) { left = left; open_dialog = Some (record opened { items = Heard takes.0 ∷ Said said ∷ opened.items }) } in
    rw (takes.4, takes.5)
    (replies_frame C S (with_seen (continued s (record opened { items = Heard takes.0 ∷ Said said ∷ opened.items }) left S) takes.1) s (incarnation (stand S s).past) takes.0 all refl
    (ask_same s S.stands there (open_is_declared s S.stands opened is) (rw is refl)))

replies_cut : (C : Config) (s : ℕ) (opened : Opened) (how : End) (S : Stage) → AreAsking S → (stand S s).open_dialog ≡ Some opened → Replies C S (closing_text opened how S) (closed s opened how S)
replies_cut C s opened how S all is = replies_ended C s opened opened how (end_response how opened.items (request_method (slice_get S.requests opened.request))) S all is

replies_advances : (C : Config) (s : ℕ) (opened : Opened) (S : Stage) (text : List ℕ) (now : Stage) → AreAsking S → (stand S s).open_dialog ≡ Some opened → Advances C s opened S text now → Replies C S text now
replies_advances C s opened S text now all is (inl ends) = rw (ends.1, ends.2) (replies_superseded C s (Some opened) S S all is)
replies_advances C s opened S text now all is (inr (inl takes)) = replies_takes C s opened takes.1 takes.2 (said_end (said_count opened.items + 1) takes.1) S text now all is takes.4
replies_advances C s opened S text now all is (inr (inr (inl bad))) = rw (bad.2, bad.3) (replies_cut C s opened end.BadFrame S all is)
replies_advances C s opened S text now all is (inr (inr (inr (inl ended)))) = rw (ended.3, ended.4) (replies_cut C s opened end.Ended S all is)
replies_advances C s opened S text now all is (inr (inr (inr (inr cut)))) = rw (cut.4, cut.5) (replies_cut C s opened end.BadFrame S all is)

pub replies_goes_on : (C : Config) (s steps : ℕ) (S : Stage) (text : List ℕ) (now : Stage) → AreAsking S → GoesOn C s steps S text now → Replies C S text now
replies_goes_on C s zero S text now all on = rw (on.0, on.1) (replies_columns C S S all refl refl)
replies_goes_on C s (suc steps) S text now all on =
    let first : Replies C S on.2 on.1 = replies_advances C s on.0 S on.2 on.1 all on.4 on.6 in
    rw on.8 (replies_then C S on.1 now on.2 on.3 first (replies_goes_on C s steps on.1 on.3 now first.asks on.7))

-- the requests, with one marked as begun
pub marked_here : (n : ℕ) (requests : List Asked) (asked : Asked) → slice_get requests n ≡ Some asked → slice_get (marked_begun n requests) n ≡ Some (record asked { has_begun = true })
marked_here n [] asked found = let never : ⊥ = cc in absurd never
marked_here zero (one ∷ more) asked found = let same : one ≡ asked = cc in ap (λ (a : Asked). Some (record a { has_begun = true })) same
marked_here (suc n) (one ∷ more) asked found = marked_here n more asked found

pub marked_other : (n m : ℕ) (requests : List Asked) → n ≢ m → slice_get (marked_begun n requests) m ≡ slice_get requests m
marked_other n m [] apart = refl
marked_other zero zero (one ∷ more) apart = absurd (apart refl)
marked_other zero (suc m) (one ∷ more) apart = refl
marked_other (suc n) zero (one ∷ more) apart = refl
marked_other (suc n) (suc m) (one ∷ more) apart = marked_other n m more (λ same. apart (ap suc same))

pub begun_marked : (n r t : ℕ) (requests : List Asked) → IsBegunAt (slice_get requests r) t → IsBegunAt (slice_get (marked_begun n requests) r) t
begun_marked n r t [] begun = absurd begun
begun_marked zero zero t (one ∷ more) begun = (refl, begun.1, begun.2)
begun_marked zero (suc r) t (one ∷ more) begun = begun
begun_marked (suc n) zero t (one ∷ more) begun = begun
begun_marked (suc n) (suc r) t (one ∷ more) begun = begun_marked n r t more begun

-- The request whose dialog may begin: it goes to the cell of s, and wasn't begun.
pub record IsPending (n s k : ℕ) (asked : Asked) (S : Stage) : Type 0 where
  pub found : slice_get S.requests n ≡ Some asked
  pub goes : asked.goes ≡ Some (s, k)
  pub waits : asked.has_begun ≡ false
  pub shut : asking S s ≡ None

pub pending_before : (n s k : ℕ) (asked : Asked) (S : Stage) → IsPending n s k asked S → replies S n ≡ 0
pending_before n s k asked S p = rw (p.found, p.goes, p.waits) refl

-- it is answered at once
answered_count : (n s k m : ℕ) (asked : Asked) (S now : Stage) → IsPending n s k asked S → now.requests ≡ marked_begun n S.requests → ((t : ℕ) → asking now t ≡ asking S t) → (b : Bool) → (n == m) ≡ b
    → replies S m + (cond b 1 0 + 0) ≡ replies now m
answered_count n s k m asked S now p requests same true is =
    let one : n ≡ m = eqb-true n m is in
    let found : slice_get now.requests n ≡ Some (record asked { has_begun = true }) = ap (λ (xs : List Asked). slice_get xs n) requests ∙ marked_here n S.requests asked p.found in
    let shut : asking now s ≡ None = same s ∙ p.shut in
    let after : replies now n ≡ 1 = rw (found, p.goes, shut) refl in
    subst (λ (r : ℕ). replies S r + 1 ≡ replies now r) one (rw (pending_before n s k asked S p, after) refl)
answered_count n s k m asked S now p requests same false is =
    let found : slice_get now.requests m ≡ slice_get S.requests m = ap (λ (xs : List Asked). slice_get xs m) requests ∙ marked_other n m S.requests (eqb-false n m is) in
    let after : replies now m ≡ replies S m = rw found (same_of m (slice_get S.requests m) (asking S) (asking now) same) in
    omega arith

pub replies_at_once : (C : Config) (n s k : ℕ) (asked : Asked) (text : List ℕ) (S now : Stage) → AreAsking S → IsPending n s k asked S → now.requests ≡ marked_begun n S.requests → ((t : ℕ) → asking now t ≡ asking S t)
    → Replies C S (answer_line n text) now
replies_at_once C n s k asked text S now all p requests same = record {
  more = ToldAnswer n text ∷ [];
  text_is = sym (append-nil (answer_line n text));
  count = λ m. answered_count n s k m asked S now p requests same (n == m) refl;
  asks = λ t r is. rw requests (begun_marked n r t S.requests (all t r (sym (same t) ∙ is)));
}
