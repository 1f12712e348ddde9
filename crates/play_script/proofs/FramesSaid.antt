-- The dialog of a service takes what a drill has it say, frame by frame.
use Rattle.std.proofs.Common.{◌≡◌, ◌∙◌, ℕ, zero, suc, ◌+◌, ◌<◌, ◌≤◌, Bool, true, false, cond, List, [], ◌∷◌, ◌++◌, Option, Some, None, refl, sym, ap, subst, arith, inl, inr, ◌==◌, ◌||◌, append-nil}
use Rattle.std.specs.Prelude.{nat_lt}
use Rattle.std.proofs.lemmas.Bool.{le-ltb, ne_eqb}
use Rattle.std.proofs.lemmas.List.{length-set}
use Rattle.std.proofs.lemmas.Option.{same_Some}
use Rattle.okws_base.specs.declared.limit.TheConstants.{MOST_FRAMES}
use Rattle.okws_plan.specs.declared.configuration.Config.{Config}
use Rattle.okws_plan.specs.declared.script.Line.TheVariants as line
use Rattle.okws_plan.specs.declared.event.PubdEvent.{PubdEvent}
use Rattle.okws_plan.specs.declared.event.PubdEvent.TheVariants as pubd
use Rattle.frame_codec.specs.Spelling.{ServiceHasSpelling, service_spelling}
use Rattle.frame_codec.specs.Stream.{Begins}
use Rattle.frame_codec.specs.declared.frame.ServiceFrame.{ServiceFrame}
use Rattle.frame_codec.proofs.Apart.{one_begins}
use Rattle.monitor_model.specs.declared.record.CellEvent.TheVariants as cell
use Rattle.monitor_model.specs.declared.record.End.{End}
use Rattle.monitor_model.specs.declared.record.End.TheVariants as end
use Rattle.monitor_model.specs.declared.record.Item.TheVariants.{Heard, Said}
use Rattle.monitor_model.specs.Cell.{incarnation}
use Rattle.monitor_model.specs.Course.{said_count}
use Rattle.monitor_model.specs.Launcher.{begun}
use Rattle.monitor_model.specs.Pubd.{edition, edition_after}
use Rattle.monitor_model.specs.Script.{Advances, Does, GoesOn, IsNext, Takes, at_log, at_proxy, at_pubd, broken, closed, continued, given, greatest, heard_said, no_cell, refusal, reply_end, said_end, settled}
use Rattle.monitor_model.specs.Seen.{Seen}
use Rattle.monitor_model.specs.Stage.{Opened, Stage, Stand, stand, with_seen, with_stand}
use Rattle.monitor_model.specs.Standing.{up_at_okd}
use Rattle.play_script.proofs.Rests.{Beside, Rests, Speaks, beside_stand, beside_then, stand_here}
use Rattle.play_script.proofs.Speaking.{waits, Talks}

-- ---- a frame is said

not_zero : (n : ℕ) → 0 < n → (n == 0) ≡ false
not_zero n above = ne_eqb n 0 (λ e. omega (arith, e))

pub bytes_allowed : (s k n : ℕ) (bytes : List ℕ) (S : Stage) → Speaks S s k n [] → refusal (line.Bytes s bytes) S ≡ None
bytes_allowed s k n bytes S h = refused_unless (no_cell S s) (stand S s).has_ended (ap (λ (m : ℕ). m == 0) h.calm.there ∙ not_zero k h.calm.first) h.calm.goes_on
  where
    refused_unless : (a b : Bool) → a ≡ false → b ≡ false → broken (a || b) 7 None ≡ None
    refused_unless a b e f = rw (e, f) refl

-- its bytes stand on the link
speaks_given : (s k n : ℕ) (bytes : List ℕ) (S : Stage) → Speaks S s k n [] → Speaks (given s bytes S) s k n bytes
speaks_given s k n bytes S h =
    let there : Stand = record (stand S s) { left = (stand S s).left ++ bytes } in
    let here : stand (with_stand S s there) s ≡ there = stand_here S s there h.calm.within in
    record {
      calm = record {
        first = h.calm.first;
        greatest_is = h.calm.greatest_is;
        there = ap (λ (x : Stand). incarnation x.past) here ∙ h.calm.there;
        up = h.calm.up;
        left_is = ap (λ (x : Stand). x.left) here ∙ ap (λ (left : List ℕ). left ++ bytes) h.calm.left_is;
        goes_on = ap (λ (x : Stand). x.has_ended) here ∙ h.calm.goes_on;
        within = subst (λ (n : ℕ). s < n) (sym (length-set S.stands s there)) h.calm.within;
      };
      opened = h.opened;
      open_is = ap (λ (x : Stand). x.open_dialog) here ∙ h.open_is;
      said_is = h.said_is;
    }

beside_given : (s : ℕ) (bytes : List ℕ) (S : Stage) → Beside s 0 0 S (given s bytes S)
beside_given s bytes S = beside_stand s S (record (stand S s) { left = (stand S s).left ++ bytes })

-- the spelling of a frame begins with it
spelling_begins : (bytes : List ℕ) (said : ServiceFrame) → ServiceHasSpelling said → bytes ≡ service_spelling said → Begins bytes said []
spelling_begins bytes said has is = (service_spelling said, record { fits = has.0; lawful = has.1; spelled = refl }, is ∙ sym (append-nil (service_spelling said)))

clash : (b : Bool) → b ≡ true → b ≡ false → ⊥
clash b one other = cc

-- the open dialog takes a frame that stands alone on its link
advances_by : (C : Config) (s k n : ℕ) (opened : Opened) (said : ServiceFrame) (S now : Stage) (text : List ℕ) → nat_lt (incarnation (stand S s).past) (greatest S s) ≡ false → (stand S s).has_ended ≡ false
    → Begins (stand S s).left said [] → Advances C s opened S text now → Takes C s opened said [] (said_end (said_count opened.items + 1) said) S text now
advances_by C s k n opened said S now text least goes_on begins (inl above) = absurd (clash _ above.0 least)
advances_by C s k n opened said S now text least goes_on begins (inr (inl takes)) =
    let same : (said ≡ takes.1) × ([] ≡ takes.2) = one_begins (stand S s).left said takes.1 [] takes.2 begins takes.3 in
    subst (λ (left : List ℕ). Takes C s opened said left (said_end (said_count opened.items + 1) said) S text now) (sym same.1)
    (subst (λ (x : ServiceFrame). Takes C s opened x takes.2 (said_end (said_count opened.items + 1) x) S text now) (sym same.0) takes.4)
advances_by C s k n opened said S now text least goes_on begins (inr (inr (inl bad))) = absurd (bad.1.0 said [] begins)
advances_by C s k n opened said S now text least goes_on begins (inr (inr (inr (inl ended)))) = absurd (clash _ ended.1 goes_on)
advances_by C s k n opened said S now text least goes_on begins (inr (inr (inr (inr ended)))) = absurd (clash _ ended.1 goes_on)

least_is : (n m k : ℕ) → n ≡ k → m ≡ k → nat_lt n m ≡ false
least_is n m k e f = le-ltb n m (omega (arith, e, f))

said_end_is : (n m : ℕ) (said : ServiceFrame) → n ≡ m → m < MOST_FRAMES → said_end (n + 1) said ≡ reply_end said
said_end_is n m said e few = ap (λ (b : Bool). cond b (Some end.FrameLimit) (reply_end said)) (le-ltb MOST_FRAMES (n + 1) (omega (arith, e, few)))

-- What the cell made of a frame, and how it went on.
record Took (C : Config) (s : ℕ) (opened : Opened) (said : ServiceFrame) (how : Option End) (S now : Stage) : Type 0 where
  pub mid : Stage
  pub before : List ℕ
  pub takes : Takes C s opened said [] how S before mid
  pub steps : ℕ
  pub more : List ℕ
  pub goes : GoesOn C s steps mid more now

took_one : (C : Config) (s k n steps : ℕ) (said : ServiceFrame) (S now : Stage) (text : List ℕ) (h : Speaks S s k n (service_spelling said)) → ServiceHasSpelling said → n < MOST_FRAMES
    → GoesOn C s steps S text now → Took C s h.opened said (reply_end said) S now
took_one C s k n zero said S now text h has few goes =
    absurd (goes.2 h.opened h.open_is (inl (said, [], spelling_begins (stand S s).left said has h.calm.left_is)))
took_one C s k n (suc steps) said S now text h has few goes =
    let begins : Begins (stand S s).left said [] = spelling_begins (stand S s).left said has h.calm.left_is in
    let same : goes.0 ≡ h.opened = same_Some goes.0 h.opened (sym goes.4 ∙ h.open_is) in
    let advances : Advances C s h.opened S goes.2 goes.1 = subst (λ (opened : Opened). Advances C s opened S goes.2 goes.1) same goes.6 in
    let least : nat_lt (incarnation (stand S s).past) (greatest S s) ≡ false = least_is (incarnation (stand S s).past) (greatest S s) k h.calm.there h.calm.greatest_is in
    record {
      mid = goes.1;
      before = goes.2;
      takes = subst (λ (how : Option End). Takes C s h.opened said [] how S goes.2 goes.1) (said_end_is (said_count h.opened.items) n said h.said_is few)
          (advances_by C s k n h.opened said S goes.1 goes.2 least h.calm.goes_on begins advances);
      steps = steps;
      more = goes.3;
      goes = goes.7;
    }

-- ---- it is answered

edition_more : (e : PubdEvent) (n : ℕ) → edition_after e 0 n ≤ n + 1
edition_more (pubd.Publish t content) n = by_test (t == 0)
  where
    by_test : (b : Bool) → cond b (n + 1) n ≤ n + 1
    by_test true = omega arith
    by_test false = omega arith
edition_more (pubd.Install s k) n = omega arith
edition_more (pubd.Revoke s k) n = omega arith
edition_more (pubd.Drain s k) n = omega arith
edition_more (pubd.Get s k name) n = omega arith

-- What an answer leaves of what was made.
record Answered (J now : Seen) : Type 0 where
  pub launcher_is : now.launcher ≡ J.launcher
  pub okd_is : now.okd ≡ J.okd
  pub editions : edition now.pubd 0 ≤ edition J.pubd 0 + 1

answered_by : (J now then : Seen) → now ≡ then → Answered J then → Answered J now
answered_by J now then e h = subst (λ (x : Seen). Answered J x) (sym e) h

next_leaves : (J now : Seen) → IsNext J now → Answered J now
next_leaves J now (inl same) = answered_by J now J same (record { launcher_is = refl; okd_is = refl; editions = omega arith })
next_leaves J now (inr (inl at)) = answered_by J now (at_proxy at.0 at.1 J) at.2 (record { launcher_is = refl; okd_is = refl; editions = omega arith })
next_leaves J now (inr (inr (inl at))) = answered_by J now (at_pubd at.0 J) at.1 (record { launcher_is = refl; okd_is = refl; editions = edition_more at.0 (edition J.pubd 0) })
next_leaves J now (inr (inr (inr at))) = answered_by J now (at_log at.0 J) at.1 (record { launcher_is = refl; okd_is = refl; editions = omega arith })

-- the cell while its dialog goes on
abbrev going_there : ℕ → Opened → Stage → Stand
going_there s opened S = record (stand S s) { left = []; open_dialog = Some opened }

speaks_on : (s k n m : ℕ) (opened : Opened) (left : List ℕ) (S : Stage) (now : Seen) → Speaks S s k n left → said_count opened.items ≡ m → Answered S.seen now
    → Speaks (with_seen (continued s opened [] S) now) s k m []
speaks_on s k n m opened left S now h said_is a =
    let there : Stand = going_there s opened S in
    let here : stand (with_stand S s there) s ≡ there = stand_here S s there h.calm.within in
    record {
      calm = record {
        first = h.calm.first;
        greatest_is = ap (λ J. begun J s) a.launcher_is ∙ h.calm.greatest_is;
        there = ap (λ (x : Stand). incarnation x.past) here ∙ h.calm.there;
        up = ap (λ J. up_at_okd J s) a.okd_is ∙ h.calm.up;
        left_is = ap (λ (x : Stand). x.left) here;
        goes_on = ap (λ (x : Stand). x.has_ended) here ∙ h.calm.goes_on;
        within = subst (λ (n : ℕ). s < n) (sym (length-set S.stands s there)) h.calm.within;
      };
      opened = opened;
      open_is = ap (λ (x : Stand). x.open_dialog) here;
      said_is = said_is;
    }

beside_on : (s : ℕ) (opened : Opened) (S : Stage) (now : Seen) → Answered S.seen now → Beside s 0 1 S (with_seen (continued s opened [] S) now)
beside_on s opened S now a =
    let h : Beside s 0 0 S (continued s opened [] S) = beside_stand s S (going_there s opened S) in
    record {
      begun_is = λ t apart. ap (λ J. begun J t) a.launcher_is;
      up_is = λ t apart. ap (λ J. up_at_okd J t) a.okd_is;
      stand_is = h.stand_is;
      cells_are = h.cells_are;
      requests_are = h.requests_are;
      editions = a.editions;
    }

-- a frame that is answered
answered : (C : Config) (s k n : ℕ) (opened : Opened) (said : ServiceFrame) (left : List ℕ) (S now : Stage) (text : List ℕ) → Speaks S s k n left → said_count opened.items ≡ n
    → Takes C s opened said [] None S text now → Talks s k (n + 1) 0 1 S now
answered C s k n opened said left S now text h said_is takes =
    let more : Opened = record opened { items = Heard takes.0 ∷ Said said ∷ opened.items } in
    let leaves : Answered S.seen takes.1 = next_leaves S.seen takes.1 takes.3 in
    subst (λ (T : Stage). Talks s k (n + 1) 0 1 S T) (sym takes.4)
    (speaks_on s k n (n + 1) more left S takes.1 h (ap (λ (m : ℕ). m + 1) said_is) leaves, beside_on s more S takes.1 leaves)

pub frame_is_answered : (C : Config) (seed : List ℕ) (s k n : ℕ) (said : ServiceFrame) (S now : Stage) (text : List ℕ) → Speaks S s k n [] → ServiceHasSpelling said → reply_end said ≡ None → n < MOST_FRAMES
    → Does C seed (line.Bytes s (service_spelling said)) S text now → Talks s k (n + 1) 0 1 S now
frame_is_answered C seed s k n said S now text h has goes_on few does =
    let G : Stage = given s (service_spelling said) S in
    let speaks : Speaks G s k n (service_spelling said) = speaks_given s k n (service_spelling said) S h in
    let took : Took C s speaks.opened said (reply_end said) G now = took_one C s k n does.0 said G now text speaks has few does.1 in
    let takes : Takes C s speaks.opened said [] None G took.before took.mid = subst (λ (how : Option End). Takes C s speaks.opened said [] how G took.before took.mid) goes_on took.takes in
    let talks : Talks s k (n + 1) 0 1 G took.mid = answered C s k n speaks.opened said (service_spelling said) G took.mid took.before speaks speaks.said_is takes in
    let is : now ≡ took.mid = waits C s took.steps took.mid now took.more talks.0.calm.left_is talks.0.calm.goes_on took.goes in
    subst (λ (T : Stage). Talks s k (n + 1) 0 1 S T) (sym is)
    (talks.0, beside_then s 0 0 0 1 S G took.mid (beside_given s (service_spelling said) S) talks.1)

-- ---- a Reply ends the dialog

-- What holds once s rests again as incarnation k.
abbrev pub Settles : ℕ → ℕ → Stage → Stage → Type 0
Settles s k S T = Rests T s k × Beside s 0 0 S T

settled_is : (there : Stand) (k : ℕ) → incarnation there.past ≡ k → 0 < k → settled there ≡ there
settled_is there k is above = ap (λ (b : Bool). cond b (record there { left = []; has_ended = false }) there) (ap (λ (m : ℕ). m == 0) is ∙ not_zero k above)

-- the cell once a Reply ended its dialog
abbrev replied_there : Opened → Stand → Stand
replied_there opened there = record there { past = cell.Dialog (record { worker = 0; items = opened.items; end = end.Reply; due = [] }) ∷ there.past; open_dialog = None }

closes : (s k n : ℕ) (opened : Opened) (S : Stage) → Speaks S s k n [] → Settles s k S (closed s opened end.Reply S)
closes s k n opened S h =
    let there : Stand = replied_there opened (stand S s) in
    let here : stand (with_stand S s there) s ≡ there = stand_here S s there h.calm.within in
    let rests : Rests (with_stand S s there) s k = record {
      calm = record {
        first = h.calm.first;
        greatest_is = h.calm.greatest_is;
        there = ap (λ (x : Stand). incarnation x.past) here ∙ h.calm.there;
        up = h.calm.up;
        left_is = ap (λ (x : Stand). x.left) here ∙ h.calm.left_is;
        goes_on = ap (λ (x : Stand). x.has_ended) here ∙ h.calm.goes_on;
        within = subst (λ (n : ℕ). s < n) (sym (length-set S.stands s there)) h.calm.within;
      };
      shut = ap (λ (x : Stand). x.open_dialog) here;
    } in
    subst (λ (x : Stand). Settles s k S (with_stand S s x)) (sym (settled_is there k h.calm.there h.calm.first)) (rests, beside_stand s S there)

replied : (C : Config) (s k n : ℕ) (opened : Opened) (said : ServiceFrame) (left : List ℕ) (S now : Stage) (text : List ℕ) → Speaks S s k n left → said_count opened.items ≡ n
    → Takes C s opened said [] (Some end.Reply) S text now → Settles s k S now
replied C s k n opened said left S now text h said_is takes =
    let U : Stage = continued s opened [] S in
    let speaks : Speaks U s k n []
    = speaks_on s k n n opened left S S.seen h said_is (record { launcher_is = refl; okd_is = refl; editions = omega arith }) in
    let ends : Settles s k U (closed s (heard_said opened said) end.Reply U) = closes s k n (heard_said opened said) U speaks in
    subst (λ (T : Stage). Settles s k S T) (sym takes.0)
    (ends.0, beside_then s 0 0 0 0 S U (closed s (heard_said opened said) end.Reply U) (beside_stand s S (going_there s opened S)) ends.1)

pub frame_is_last : (C : Config) (seed : List ℕ) (s k n : ℕ) (said : ServiceFrame) (S now : Stage) (text : List ℕ) → Speaks S s k n [] → ServiceHasSpelling said → reply_end said ≡ Some end.Reply
    → n < MOST_FRAMES → Does C seed (line.Bytes s (service_spelling said)) S text now → Settles s k S now
frame_is_last C seed s k n said S now text h has ends few does =
    let G : Stage = given s (service_spelling said) S in
    let speaks : Speaks G s k n (service_spelling said) = speaks_given s k n (service_spelling said) S h in
    let took : Took C s speaks.opened said (reply_end said) G now = took_one C s k n does.0 said G now text speaks has few does.1 in
    let takes : Takes C s speaks.opened said [] (Some end.Reply) G took.before took.mid
    = subst (λ (how : Option End). Takes C s speaks.opened said [] how G took.before took.mid) ends took.takes in
    let settles : Settles s k G took.mid = replied C s k n speaks.opened said (service_spelling said) G took.mid took.before speaks speaks.said_is takes in
    let is : now ≡ took.mid = waits C s took.steps took.mid now took.more settles.0.calm.left_is settles.0.calm.goes_on took.goes in
    subst (λ (T : Stage). Settles s k S T) (sym is)
    (settles.0, beside_then s 0 0 0 0 S G took.mid (beside_given s (service_spelling said) S) settles.1)
