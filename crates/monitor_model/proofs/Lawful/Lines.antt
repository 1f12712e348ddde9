-- What each line of a script keeps.
use Rattle.std.proofs.Common.{◌≡◌, ◌≢◌, ℕ, zero, suc, ◌<◌, Bool, true, false, not, ◌&&◌, List, [], ◌∷◌, ◌++◌, Option, Some, None, refl, ap, arith, length, ◌==◌, nat_lt, nat_le, is_some, ltb-false, leb-false}
use Rattle.std.specs.Prelude.{slice_get}
use Rattle.std.proofs.lemmas.Bool.{eqb-false}
use Rattle.okws_base.specs.declared.limit.TheConstants.{MOST_EDITIONS, LONGEST_TEMPLATE}
use Rattle.okws_base.specs.Past.{is_just}
use Rattle.okws_base.specs.Runs.{Each}
use Rattle.okws_base.specs.declared.journal.Entry.{Entry}
use Rattle.okws_plan.specs.Configuration.{in_force, owner}
use Rattle.okws_plan.specs.declared.configuration.Config.{Config}
use Rattle.okws_plan.specs.declared.script.Line.{Line}
use Rattle.okws_plan.specs.declared.script.Line.TheVariants as line
use Rattle.okws_plan.specs.declared.event.OkdEvent.{OkdEvent}
use Rattle.okws_plan.specs.declared.event.OkdEvent.TheVariants as okd
use Rattle.okws_plan.specs.declared.event.PubdEvent.TheVariants as pubd
use Rattle.http_text.specs.Target.{path}
use Rattle.monitor_model.specs.Standing.{up_at_okd}
use Rattle.monitor_model.specs.Okd.{accept_verdict, way_of, way_up}
use Rattle.monitor_model.specs.Pubd.{edition}
use Rattle.monitor_model.specs.Cell.{incarnation, last_booted}
use Rattle.okws_plan.specs.Lines.{LineFits}
use Rattle.monitor_model.specs.Stage.{Stage, Opened, Asked, stand, with_seen, request_head, marked_begun}
use Rattle.monitor_model.specs.Script.{at_okd, greatest, goes_of, accepted, broken, refusal, no_cell, is_pending, is_busy_at, is_busy_request, last_at, marked, given, has_ended, Does}
use Rattle.monitor_model.proofs.Lawful.Plain.{each_get, each_push}
use Rattle.monitor_model.proofs.Lawful.Kept.{OkdKept, IsGood, GoesFits}
use Rattle.monitor_model.proofs.Lawful.Stages.{good_begins, good_okd, good_pubd, good_stand, good_upped, good_downed, booted_is_there}
use Rattle.monitor_model.proofs.Lawful.Launches.{good_installed, good_revoked, good_launched, good_relaunched}
use Rattle.monitor_model.proofs.Lawful.Dialogs.{good_goes_on, good_begun}

-- a rule that isn't broken
pub unbroken : (test : Bool) (rule : ℕ) (more : Option ℕ) → broken test rule more ≡ None → (test ≡ false) × (more ≡ None)
unbroken true rule more is = let never : ⊥ = cc in absurd never
unbroken false rule more is = (refl, is)

-- where a request goes
goes_up : (C : Config) (J : List (Entry OkdEvent)) (items : List OkdEvent) (t : ℕ) (up : Option ℕ) (s k : ℕ) → OkdKept C J items → up_at_okd J t ≡ up → goes_of (way_up t up) ≡ Some (s, k)
    → (s < length C.services) × (0 < k)
goes_up C J items t None s k kept is goes = let never : ⊥ = cc in absurd never
goes_up C J items t (Some j) s k kept is goes =
    let here : ℕ × ℕ = (t, j) in
    let there : ℕ × ℕ = (s, k) in
    let pair : here ≡ there = cc in
    let fits : (t < length C.services) × (0 < j) = kept.up t j is in
    (rw (ap (λ (x : ℕ × ℕ). x.0) pair) at fits.0, rw (ap (λ (x : ℕ × ℕ). x.1) pair) at fits.1)

goes_fits : (C : Config) (J : List (Entry OkdEvent)) (items : List OkdEvent) (who : Option ℕ) (s k : ℕ) → OkdKept C J items → goes_of (way_of J who) ≡ Some (s, k)
    → (s < length C.services) × (0 < k)
goes_fits C J items None s k kept goes = let never : ⊥ = cc in absurd never
goes_fits C J items (Some t) s k kept goes = goes_up C J items t (up_at_okd J t) s k kept refl goes

good_accepted : (C : Config) (seed : List ℕ) (target : List ℕ) (asked : Asked) (S : Stage) → IsGood C seed S
    → IsGood C seed (accepted (accept_verdict C S.seen.okd target) asked (with_seen S (at_okd (okd.Accept target) S.seen)))
good_accepted C seed target asked S g =
    let entered : IsGood C seed (with_seen S (at_okd (okd.Accept target) S.seen)) = good_okd C seed (okd.Accept target) S g tt tt in
    record {
      seen = entered.seen;
      stands_are = entered.stands_are;
      cells = entered.cells;
      requests = each_push (GoesFits C) S.requests (record asked { goes = goes_of (accept_verdict C S.seen.okd target) }) g.requests
          (λ s k goes. goes_fits C S.seen.okd _ (owner (in_force C S.seen.okd) target) s k g.seen.okd goes);
    }

-- a request whose dialog was begun goes where it went
marked_fits : (C : Config) (n : ℕ) (asked : List Asked) → Each (GoesFits C) asked → Each (GoesFits C) (marked_begun n asked)
marked_fits C n [] all = tt
marked_fits C zero (asked ∷ more) all = (all.0, all.1)
marked_fits C (suc n) (asked ∷ more) all = (all.0, marked_fits C n more all.1)

pub good_marked : (C : Config) (seed : List ℕ) (n : ℕ) (S : Stage) → IsGood C seed S → IsGood C seed (marked n S)
good_marked C seed n S g = record { seen = g.seen; stands_are = g.stands_are; cells = g.cells; requests = marked_fits C n S.requests g.requests }

shut_when : (o : Option Opened) → is_some o ≡ false → o ≡ None
shut_when None is = refl
shut_when (Some opened) is = let never : ⊥ = cc in absurd never

-- The cell to which a request goes whose dialog may begin: it is declared, no dialog is open there, and it goes to an incarnation.
pub record MayBegin (s k : ℕ) (S : Stage) : Type 0 where
  pub declared : s < length S.stands
  pub shut : (stand S s).open_dialog ≡ None
  pub above : 0 < k

pub dialog_may_begin : (C : Config) (seed : List ℕ) (n : ℕ) (S : Stage) (text : List ℕ) (now : Stage) → IsGood C seed S → refusal (line.Dialog n) S ≡ None
    → (does : Does C seed (line.Dialog n) S text now) → MayBegin does.1 does.2 S
dialog_may_begin C seed n S text now g unrefused does =
    let fits : (does.1 < length C.services) × (0 < does.2) = each_get (GoesFits C) S.requests n does.0 g.requests does.3 does.1 does.2 does.4 in
    let pending : (not (is_pending (slice_get S.requests n)) ≡ false) × (broken (is_busy_request (slice_get S.requests n) S) 6 None ≡ None)
    = unbroken (not (is_pending (slice_get S.requests n))) 5 (broken (is_busy_request (slice_get S.requests n) S) 6 None) unrefused in
    let idle : is_busy_request (slice_get S.requests n) S ≡ false = (unbroken (is_busy_request (slice_get S.requests n) S) 6 None pending.1).0 in
    let idle_there : is_busy_at does.0.goes S ≡ false = rw does.3 at idle in
    let idle_here : is_busy_at (Some (does.1, does.2)) S ≡ false = rw does.4 at idle_there in
    record { declared = rw g.stands_are fits.0; shut = shut_when (stand S does.1).open_dialog idle_here; above = fits.1 }

good_dialog : (C : Config) (seed : List ℕ) (n : ℕ) (S : Stage) (text : List ℕ) (now : Stage) → IsGood C seed S → refusal (line.Dialog n) S ≡ None → Does C seed (line.Dialog n) S text now → IsGood C seed now
good_dialog C seed n S text now g unrefused does =
    let may : MayBegin does.1 does.2 S = dialog_may_begin C seed n S text now g unrefused does in
    good_begun C seed n does.1 does.2 does.0 (marked n S) text now (good_marked C seed n S g) may.declared may.shut may.above does.5

-- a template is published
good_published : (C : Config) (seed : List ℕ) (t : ℕ) (content : List ℕ) (S : Stage) (text : List ℕ) (now : Stage) → IsGood C seed S → t < length C.templates
    → refusal (line.Publish t content) S ≡ None → Does C seed (line.Publish t content) S text now → IsGood C seed now
good_published C seed t content S text now g declared unrefused does =
    let spent : (nat_le MOST_EDITIONS (edition S.seen.pubd t) ≡ false) × (broken (nat_lt LONGEST_TEMPLATE (length content)) 9 None ≡ None)
    = unbroken (nat_le MOST_EDITIONS (edition S.seen.pubd t)) 8 (broken (nat_lt LONGEST_TEMPLATE (length content)) 9 None) unrefused in
    let long : nat_lt LONGEST_TEMPLATE (length content) ≡ false = (unbroken (nat_lt LONGEST_TEMPLATE (length content)) 9 None spent.1).0 in
    rw does.0
    (good_pubd C seed (pubd.Publish t content) S g
    (declared, ltb-false LONGEST_TEMPLATE (length content) long, leb-false MOST_EDITIONS (edition S.seen.pubd t) spent.0) tt)

-- an install, a boot and an up
pub good_install : (C : Config) (seed : List ℕ) (s : ℕ) (S : Stage) (last : ℕ) → broken (greatest S s == 0) 3 (broken (nat_le (greatest S s) last) 4 None) ≡ None → last < greatest S s
good_install C seed s S last unrefused =
    leb-false (greatest S s) last (unbroken (nat_le (greatest S s) last) 4 None (unbroken (greatest S s == 0) 3 (broken (nat_le (greatest S s) last) 4 None) unrefused).1).0

above_zero : (n : ℕ) → n ≢ 0 → 0 < n
above_zero n apart = omega arith

has_cell : (s : ℕ) (S : Stage) → refusal (line.Up s) S ≡ None → 0 < incarnation (stand S s).past
has_cell s S unrefused =
    above_zero (incarnation (stand S s).past)
    (eqb-false (incarnation (stand S s).past) 0
    (unbroken (no_cell S s) 7 None (unbroken (not (no_cell S s) && is_just (incarnation (stand S s).past) (up_at_okd S.seen.okd s)) 4 (broken (no_cell S s) 7 None) unrefused).1).0)

-- bytes come, or end
pub good_given : (C : Config) (seed : List ℕ) (s : ℕ) (bytes : List ℕ) (S : Stage) → IsGood C seed S → s < length C.services → IsGood C seed (given s bytes S)
good_given C seed s bytes S g declared = good_stand C seed s (record (stand S s) { left = (stand S s).left ++ bytes }) S g (rw g.stands_are declared) (g.cells s)

pub good_has_ended : (C : Config) (seed : List ℕ) (s : ℕ) (S : Stage) → IsGood C seed S → s < length C.services → IsGood C seed (has_ended s S)
good_has_ended C seed s S g declared = good_stand C seed s (record (stand S s) { has_ended = true }) S g (rw g.stands_are declared) (g.cells s)

-- each line
pub good_line : (C : Config) (seed : List ℕ) (line : Line) (S : Stage) (text : List ℕ) (now : Stage) → IsGood C seed S → LineFits C line → refusal line S ≡ None → Does C seed line S text now → IsGood C seed now
good_line C seed (line.Begin s) S text now g fits unrefused does = rw does.0 (good_begins C seed s S g)
good_line C seed (line.Install s at) S text now g fits unrefused does = rw does.0 (good_installed C seed s at S g fits.1 (good_install C seed s S (last_at s at S.seen) unrefused))
good_line C seed (line.Revoke s at) S text now g fits unrefused does = rw does.0 (good_revoked C seed s at S g fits.1)
good_line C seed (line.Boot s) S text now g fits unrefused does =
    rw does.0
    (booted_is_there C seed s S (record { good = g; declared = rw g.stands_are fits; fresh = good_install C seed s S (last_booted (stand S s).past) unrefused })).good
good_line C seed (line.Up s) S text now g fits unrefused does = rw does.0 (good_upped C seed s S g fits (has_cell s S unrefused))
good_line C seed (line.Down s) S text now g fits unrefused does = rw does.0 (good_downed C seed s S g)
good_line C seed (line.Launch s) S text now g fits unrefused does = rw does.0 (good_launched C seed s S g fits)
good_line C seed (line.Relaunch s) S text now g fits unrefused does = rw does.0 (good_relaunched C seed s S g fits)
good_line C seed (line.Accept method target content) S text now g fits unrefused does =
    rw does.0 (good_accepted C seed (path target) (record { method = method; head = request_head method target content; content = content; goes = None; has_begun = false }) S g)
good_line C seed (line.Dialog n) S text now g fits unrefused does = good_dialog C seed n S text now g unrefused does
good_line C seed (line.Bytes s bytes) S text now g fits unrefused does = good_goes_on C seed s does.0 (given s bytes S) text now (good_given C seed s bytes S g fits) does.1
good_line C seed (line.End s) S text now g fits unrefused does = good_goes_on C seed s does.0 (has_ended s S) text now (good_has_ended C seed s S g fits) does.1
good_line C seed (line.Publish t content) S text now g fits unrefused does = good_published C seed t content S text now g fits unrefused does
