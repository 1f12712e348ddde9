-- An allowed line of a script does something from each state.
use Rattle.std.proofs.Common.{◌≡◌, ◌≢◌, ◌≤◌, ◌<◌, ℕ, zero, suc, ◌+◌, Bool, true, false, List, [], ◌∷◌, ◌++◌, Option, Some, None, length, refl, sym, ap, subst, ◌∙◌, arith, inl, inr, ◌⊎◌}
use Rattle.std.specs.Prelude.{◌==◌, nat_lt, slice_get, slice_set, IsTrue, IsFalse, is_some, if◌then◌else◌}
use Rattle.std.proofs.lemmas.Bool.{ltb-true, ltb-false, eqb-true, eqb-false}
use Rattle.std.proofs.lemmas.List.{length-append, length-set}
use Rattle.okws_base.specs.Denial.{rule_number}
use Rattle.okws_base.specs.declared.denial.Rule.TheVariants as rule
use Rattle.okws_base.specs.declared.limit.TheConstants.{MOST_FRAMES}
use Rattle.http_text.specs.Response.{own_response}
use Rattle.okws_plan.specs.declared.configuration.Config.{Config}
use Rattle.okws_plan.specs.declared.script.Line.{Line}
use Rattle.okws_plan.specs.declared.script.Line.TheVariants as line
use Rattle.frame_codec.specs.Spelling.{Spells}
use Rattle.frame_codec.specs.Stream.{Begins, BeginsNone, IsBad, IsShort}
use Rattle.frame_codec.specs.declared.frame.ServiceFrame.{ServiceFrame}
use Rattle.frame_codec.specs.declared.frame.ServiceFrame.TheVariants as said
use Rattle.frame_codec.specs.declared.frame.ServerFrame.{ServerFrame}
use Rattle.frame_codec.specs.declared.frame.ServerFrame.TheVariants as frame
use Rattle.frame_codec.proofs.Apart.{short_begins_none}
use Rattle.frame_codec.proofs.Stops.{front_of}
use Rattle.monitor_model.specs.declared.record.CellEvent.TheVariants as cell
use Rattle.monitor_model.specs.declared.record.End.{End}
use Rattle.monitor_model.specs.declared.record.End.TheVariants as end
use Rattle.monitor_model.specs.declared.record.Item.TheVariants.{Heard, Said}
use Rattle.monitor_model.specs.declared.record.Own.TheVariants as own
use Rattle.monitor_model.specs.Cell.{incarnation}
use Rattle.monitor_model.specs.Course.{Speaker, Answers, is_declared, said_count, opening}
use Rattle.monitor_model.specs.Pubd.{drain_verdict}
use Rattle.monitor_model.specs.Script.{Advances, Takes, GoesOn, Begun, Does, IsReady, refusal, reply_end, said_end, heard_said, closed, closing_text, greatest, superseded, superseded_text, speaker, continued, marked, missed, settled, dialog_opened, opening_text}
use Rattle.monitor_model.specs.Seen.{Seen}
use Rattle.monitor_model.specs.Stage.{Stage, Stand, Opened, Asked, stand, with_seen, with_item, heard_line, answer_line, method_text}
use Rattle.okws_play.specs.Cells.{AreBytes, closed_stand, left_to_do}
use Rattle.okws_play.proofs.Cells.{bytes_behind, stand_set}

-- ---- what is left of a cell

settled_left : (there : Stand) → AreBytes there.left → AreBytes (settled there).left
settled_left there h = by (incarnation there.past == 0)
  where
    by : (test : Bool) → AreBytes (if test then record there { left = []; has_ended = false } else there).left
    by true = λ i. none i
      where
        none : AreBytes []
        none zero = omega arith
        none (suc i) = omega arith
    by false = h

settled_open : (there : Stand) → (settled there).open_dialog ≡ there.open_dialog
settled_open there = by (incarnation there.past == 0)
  where
    by : (test : Bool) → (if test then record there { left = []; has_ended = false } else there).open_dialog ≡ there.open_dialog
    by true = refl
    by false = refl

left_none : (there : Stand) → there.open_dialog ≡ None → left_to_do there ≡ 0
left_none there e = rw e refl

left_some : (there : Stand) (o : Opened) → there.open_dialog ≡ Some o → left_to_do there ≡ length there.left + 1
left_some there o e = rw e refl

-- a state in which less is left to do at the cell of s
pub record IsLess (s : ℕ) (S now : Stage) : Type 0 where
  pub less : left_to_do (stand now s) < left_to_do (stand S s)
  pub bytes : AreBytes (stand now s).left
  pub long : length now.stands ≡ length S.stands

closed_less : (s : ℕ) (S T : Stage) (o last : Opened) (how : End) → s < length S.stands → (stand S s).open_dialog ≡ Some o → length T.stands ≡ length S.stands → AreBytes (stand T s).left → IsLess s S (closed s last how T)
closed_less s S T o last how below is_open long bytes =
    let now : Stand = closed_stand (stand T s) last how in
    let ended : Stand = record (stand T s) { past = cell.Dialog (record { worker = 0; items = last.items; end = how; due = [] }) ∷ (stand T s).past; open_dialog = None } in
    let there : stand (closed s last how T) s ≡ now = stand_set T.stands s now (omega (arith, below, long)) in
    let none : left_to_do now ≡ 0 = left_none now (settled_open ended) in record {
      less = rw there (omega (arith, none, left_some (stand S s) o is_open));
      bytes = rw there (settled_left ended bytes);
      long = length-set T.stands s now ∙ long;
    }

-- ---- each step of a ready dialog

some_answer : (C : Config) (w : Speaker) (frame : ServiceFrame) (J : Seen) → reply_end frame ≡ None → (heard : ServerFrame) × Answers C w frame J heard J
some_answer C w (said.Open p shown) J e = by (is_declared C p) refl
  where
    by : (test : Bool) → is_declared C p ≡ test → (heard : ServerFrame) × Answers C w (said.Open p shown) J heard J
    by true is = (frame.NoMemory, inr (inl (is, refl, refl)))
    by false is = (frame.Denied (rule_number rule.NoSuchProxy), inl (is, refl, refl))
some_answer C w (said.Call p n q args) J e = by (is_declared C p) refl
  where
    by : (test : Bool) → is_declared C p ≡ test → (heard : ServerFrame) × Answers C w (said.Call p n q args) J heard J
    by true is = (frame.NoMemory, inr (inl (is, refl, refl)))
    by false is = (frame.Denied (rule_number rule.NoSuchProxy), inl (is, refl, refl))
some_answer C w (said.Get name) J e = (frame.NoMemory, inl (refl, refl))
some_answer C w (said.Log text) J e = (frame.NoMemory, inl (refl, refl))
some_answer C w (said.Reply status content_type location content) J e = absurd cc

no_reply : (n : ℕ) (frame : ServiceFrame) → said_end n frame ≡ None → reply_end frame ≡ None
no_reply n frame e = by (nat_lt MOST_FRAMES n) e
  where
    by : (test : Bool) → (if test then Some end.FrameLimit else reply_end frame) ≡ None → reply_end frame ≡ None
    by true e = absurd cc
    by false e = e

-- a step of the is_open dialog of s
pub record SomeStep (C : Config) (s : ℕ) (o : Opened) (S : Stage) : Type 0 where
  pub text : List ℕ
  pub now : Stage
  pub advances : Advances C s o S text now

takes_some : (taken left : List ℕ) (frame : ServiceFrame) → Spells taken frame → length left < length (taken ++ left)
takes_some [] left frame spells = absurd (short_begins_none [] (inl (omega arith)) frame [] ([], spells, refl))
takes_some (b ∷ taken) left frame spells = omega (arith, length-append (b ∷ taken) left)

-- each step leaves less to do

takes_less : (C : Config) (s : ℕ) (o : Opened) (S now : Stage) (frame : ServiceFrame) (left text : List ℕ) (e : Option End) → s < length S.stands → AreBytes (stand S s).left → (stand S s).open_dialog ≡ Some o → Begins (stand S s).left frame left
    → Takes C s o frame left e S text now → IsLess s S now
takes_less C s o S now frame left text (Some how) below bytes is_open begins takes =
    let X : Stand = record (stand S s) { left = left; open_dialog = Some o } in
    let there : stand (continued s o left S) s ≡ X = stand_set S.stands s X below in
    let rest : AreBytes left = bytes_behind begins.0 left (subst AreBytes begins.2 bytes) in
    subst (IsLess s S) (sym takes.0) (closed_less s S (continued s o left S) o (heard_said o frame) how below is_open (length-set S.stands s X) (rw there rest))
takes_less C s o S now frame left text None below bytes is_open begins takes =
    let next : Opened = record o { items = Heard takes.0 ∷ Said frame ∷ o.items } in
    let X : Stand = record (stand S s) { left = left; open_dialog = Some next } in
    let there : stand (with_seen (continued s next left S) takes.1) s ≡ X = stand_set S.stands s X below in
    let rest : AreBytes left = bytes_behind begins.0 left (subst AreBytes begins.2 bytes) in
    subst (IsLess s S) (sym takes.4) (record {
      less = rw there (omega (arith, left_some (stand S s) o is_open, takes_some begins.0 left frame begins.1, ap length begins.2));
      bytes = rw there rest;
      long = length-set S.stands s X;
    })

pub advances_less : (C : Config) (s : ℕ) (o : Opened) (S now : Stage) (text : List ℕ) → s < length S.stands → AreBytes (stand S s).left → (stand S s).open_dialog ≡ Some o → Advances C s o S text now → IsLess s S now
advances_less C s o S now text below bytes is_open (inl a) =
    let same : closed s o (end.Superseded (greatest S s)) S ≡ superseded s S = rw is_open refl in
    subst (IsLess s S) (same ∙ sym a.1) (closed_less s S S o o (end.Superseded (greatest S s)) below is_open refl bytes)
advances_less C s o S now text below bytes is_open (inr (inl a)) = takes_less C s o S now a.1 a.2 text (said_end (said_count o.items + 1) a.1) below bytes is_open a.3 a.4
advances_less C s o S now text below bytes is_open (inr (inr (inl a))) = subst (IsLess s S) (sym a.2) (closed_less s S S o o end.BadFrame below is_open refl bytes)
advances_less C s o S now text below bytes is_open (inr (inr (inr (inl a)))) = subst (IsLess s S) (sym a.3) (closed_less s S S o o end.Ended below is_open refl bytes)
advances_less C s o S now text below bytes is_open (inr (inr (inr (inr a)))) = subst (IsLess s S) (sym a.4) (closed_less s S S o o end.BadFrame below is_open refl bytes)

by_frame : (C : Config) (s : ℕ) (o : Opened) (S : Stage) (frame : ServiceFrame) (left : List ℕ) → IsFalse (nat_lt (incarnation (stand S s).past) (greatest S s)) → Begins (stand S s).left frame left → SomeStep C s o S
by_frame C s o S frame left cur begins = by_end (said_end (said_count o.items + 1) frame) refl
  where
    by_takes : (e : Option End) (text : List ℕ) (now : Stage) → said_end (said_count o.items + 1) frame ≡ e → Takes C s o frame left e S text now → SomeStep C s o S
    by_takes e text now is takes = record { text = text; now = now; advances = inr (inl (cur, frame, left, begins, subst (λ (x : Option End). Takes C s o frame left x S text now) (sym is) takes)) }

    by_end : (e : Option End) → said_end (said_count o.items + 1) frame ≡ e → SomeStep C s o S
    by_end (Some how) e = by_takes (Some how) (closing_text (heard_said o frame) how S) (closed s (heard_said o frame) how (continued s o left S)) e (refl, refl)
    by_end None e =
        let answer = some_answer C (speaker S s) frame S.seen (no_reply (said_count o.items + 1) frame e) in
        by_takes None (heard_line C s (incarnation (stand S s).past) answer.0) (with_seen (continued s (record o { items = Heard answer.0 ∷ Said frame ∷ o.items }) left S) S.seen) e (answer.0, S.seen, answer.1, inl refl, refl, refl)

by_bad : (C : Config) (s : ℕ) (o : Opened) (S : Stage) → IsFalse (nat_lt (incarnation (stand S s).past) (greatest S s)) → IsBad (stand S s).left → SomeStep C s o S
by_bad C s o S cur bad = record { text = closing_text o end.BadFrame S; now = closed s o end.BadFrame S; advances = inr (inr (inl (cur, bad, refl, refl))) }

cons_some : (y : ℕ) (ys : List ℕ) → y ∷ ys ≡ [] → ⊥
cons_some y ys e = absurd (omega (arith, ap length e))

by_over : (C : Config) (s : ℕ) (o : Opened) (S : Stage) → IsFalse (nat_lt (incarnation (stand S s).past) (greatest S s)) → IsTrue (stand S s).has_ended → BeginsNone (stand S s).left → SomeStep C s o S
by_over C s o S cur ended none = by (stand S s).left refl
  where
    by : (left : List ℕ) → (stand S s).left ≡ left → SomeStep C s o S
    by [] e = record { text = closing_text o end.Ended S; now = closed s o end.Ended S; advances = inr (inr (inr (inl (cur, ended, e, refl, refl)))) }
    by (x ∷ xs) e = record { text = closing_text o end.BadFrame S; now = closed s o end.BadFrame S; advances = inr (inr (inr (inr (cur, ended, λ empty. cons_some x xs (sym e ∙ empty), none, refl, refl)))) }

by_front : (C : Config) (s : ℕ) (o : Opened) (S : Stage) → IsFalse (nat_lt (incarnation (stand S s).past) (greatest S s)) → IsTrue (stand S s).has_ended
    → ((frame : ServiceFrame) × (rest : List ℕ) × Begins (stand S s).left frame rest) ⊎ (IsBad (stand S s).left ⊎ IsShort (stand S s).left) → SomeStep C s o S
by_front C s o S cur ended (inl whole) = by_frame C s o S whole.0 whole.1 cur whole.2
by_front C s o S cur ended (inr (inl bad)) = by_bad C s o S cur bad
by_front C s o S cur ended (inr (inr short)) = by_over C s o S cur ended (short_begins_none (stand S s).left short)

by_ready : (C : Config) (s : ℕ) (o : Opened) (S : Stage) → AreBytes (stand S s).left → IsFalse (nat_lt (incarnation (stand S s).past) (greatest S s)) → IsReady (stand S s) → SomeStep C s o S
by_ready C s o S bytes cur (inl whole) = by_frame C s o S whole.0 whole.1 cur whole.2
by_ready C s o S bytes cur (inr (inl bad)) = by_bad C s o S cur bad
by_ready C s o S bytes cur (inr (inr ended)) = by_front C s o S cur ended (front_of (stand S s).left bytes)

pub some_step : (C : Config) (s : ℕ) (o : Opened) (S : Stage) → AreBytes (stand S s).left → IsReady (stand S s) → SomeStep C s o S
some_step C s o S bytes ready = by_board (nat_lt (incarnation (stand S s).past) (greatest S s)) refl
  where
    by_board : (test : Bool) → nat_lt (incarnation (stand S s).past) (greatest S s) ≡ test → SomeStep C s o S
    by_board false is = by_ready C s o S bytes is ready
    by_board true is = record { text = superseded_text s (Some o) S; now = superseded s S; advances = inl (is, refl, refl) }

-- ---- each cell goes on

ready_or : (there : Stand) → AreBytes there.left → IsReady there ⊎ (IsReady there → ⊥)
ready_or there bytes = by there.has_ended refl
  where
    by_front : there.has_ended ≡ false → ((frame : ServiceFrame) × (rest : List ℕ) × Begins there.left frame rest) ⊎ (IsBad there.left ⊎ IsShort there.left) → IsReady there ⊎ (IsReady there → ⊥)
    by_front on (inl whole) = inl (inl whole)
    by_front on (inr (inl bad)) = inl (inr (inl bad))
    by_front on (inr (inr short)) = inr never
      where
        never : IsReady there → ⊥
        never (inl whole) = short_begins_none there.left short whole.0 whole.1 whole.2
        never (inr (inl bad)) = bad.1 short
        never (inr (inr ended)) = let e : true ≡ false = sym ended ∙ on in cc

    by : (over : Bool) → there.has_ended ≡ over → IsReady there ⊎ (IsReady there → ⊥)
    by true e = inl (inr (inr e))
    by false e = by_front e (front_of there.left bytes)

-- the steps of a cell that goes on
pub record SomeSteps (C : Config) (s : ℕ) (S : Stage) : Type 0 where
  pub steps : ℕ
  pub text : List ℕ
  pub now : Stage
  pub goes : GoesOn C s steps S text now

within : (C : Config) (s n : ℕ) (S : Stage) → left_to_do (stand S s) ≤ n → s < length S.stands → AreBytes (stand S s).left → SomeSteps C s S
within C s zero S few below bytes = record { steps = 0; text = []; now = S; goes = (refl, refl, λ o is_open ready. omega (arith, few, left_some (stand S s) o is_open)) }
within C s (suc n) S few below bytes = by_open (stand S s).open_dialog refl (λ T least inside told. within C s n T least inside told)
  where
    by_ready : (o : Opened) → (stand S s).open_dialog ≡ Some o → IsReady (stand S s) ⊎ (IsReady (stand S s) → ⊥) → ((T : Stage) → left_to_do (stand T s) ≤ n → s < length T.stands → AreBytes (stand T s).left → SomeSteps C s T) → SomeSteps C s S
    by_ready o is (inl ready) more =
        let step = some_step C s o S bytes ready in
        let less = advances_less C s o S step.now step.text below bytes is step.advances in
        let rest = more step.now (omega (arith, few, less.less)) (omega (arith, below, less.long)) less.bytes in record {
          steps = suc rest.steps;
          text = step.text ++ rest.text;
          now = rest.now;
          goes = (o, step.now, step.text, rest.text, is, ready, step.advances, rest.goes, refl);
        }
    by_ready o is (inr never) more = record { steps = 0; text = []; now = S; goes = (refl, refl, λ p at ready. never ready) }

    by_open : (dialog : Option Opened) → (stand S s).open_dialog ≡ dialog → ((T : Stage) → left_to_do (stand T s) ≤ n → s < length T.stands → AreBytes (stand T s).left → SomeSteps C s T) → SomeSteps C s S
    by_open None is more = record { steps = 0; text = []; now = S; goes = (refl, refl, λ o at ready. let e : Some o ≡ None = sym at ∙ is in cc) }
    by_open (Some o) is more = by_ready o is (ready_or (stand S s) bytes) more

pub some_steps : (C : Config) (s : ℕ) (S : Stage) → s < length S.stands → AreBytes (stand S s).left → SomeSteps C s S
some_steps C s S below bytes = within C s (left_to_do (stand S s)) S (omega arith) below bytes

-- ---- each dialog begins

pub record SomeBegin (C : Config) (n s k : ℕ) (asked : Asked) (S : Stage) : Type 0 where
  pub text : List ℕ
  pub now : Stage
  pub begins : Begun C n s k asked S text now

-- a dialog that is is_open goes on
pub opened_steps : (C : Config) (n s k : ℕ) (asked : Asked) (S : Stage) → s < length S.stands → AreBytes (stand S s).left → SomeSteps C s (dialog_opened C n s k asked S)
opened_steps C n s k asked S below bytes =
    let X : Stand = record (stand S s) { open_dialog = Some (record { request = n; items = opening (drain_verdict C S.seen.pubd s k) (frame.Request asked.head asked.content) }) } in
    let there : stand (dialog_opened C n s k asked S) s ≡ X = stand_set S.stands s X below in
    some_steps C s (dialog_opened C n s k asked S) (omega (arith, below, length-set S.stands s X)) (rw there bytes)

pub some_begin : (C : Config) (n s k : ℕ) (asked : Asked) (S : Stage) → s < length S.stands → AreBytes (stand S s).left → SomeBegin C n s k asked S
some_begin C n s k asked S below bytes = by_there (incarnation (stand S s).past == k) refl
  where
    refused : List ℕ
    refused = answer_line n (own_response 503 (method_text asked.method))

    by_board : incarnation (stand S s).past ≡ k → (test : Bool) → nat_lt k (greatest S s) ≡ test → SomeBegin C n s k asked S
    by_board there true is = record {
      text = refused;
      now = closed s (record { request = n; items = [] }) (end.Superseded (greatest S s)) (with_item S (own.Dialog s));
      begins = inr (inl (there, ltb-true k (greatest S s) is, refl, refl));
    }
    by_board there false is =
        let rest = opened_steps C n s k asked S below bytes in
        record { text = opening_text C s k asked S ++ rest.text; now = rest.now; begins = inr (inr (there, ltb-false k (greatest S s) is, rest.steps, rest.text, rest.goes, refl)) }

    by_there : (test : Bool) → (incarnation (stand S s).past == k) ≡ test → SomeBegin C n s k asked S
    by_there true is = by_board (eqb-true (incarnation (stand S s).past) k is) (nat_lt k (greatest S s)) refl
    by_there false is = record { text = refused; now = missed s k S; begins = inl (eqb-false (incarnation (stand S s).past) k is, refl, refl) }
