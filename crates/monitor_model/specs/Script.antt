-- A script's run: what each kind of line makes of the state, with the events that it enters, and what it prints.
use Rattle.std.specs.Prelude.{◌≡◌, ◌≢◌, ℕ, ◌+◌, ◌<◌, ◌≤◌, zero, suc, Bool, true, false, List, [], ◌∷◌, ◌++◌, ◌==◌, ◌&&◌, ◌||◌, not, nat_lt, nat_le, Option, Some, None, ◌⊎◌, length, flat_map, slice_get, slice_set, is_some, IsTrue, IsFalse, if◌then◌else◌}
use Rattle.okws_base.specs.declared.limit.TheConstants.{MOST_INCARNATIONS, MOST_EDITIONS, LONGEST_TEMPLATE, MOST_FRAMES}
use Rattle.okws_base.specs.Past.{standing_by, last_by, is_just}
use Rattle.okws_base.specs.Runs.{Runs}
use Rattle.token_core.specs.Token.{token_of}
use Rattle.okws_base.specs.declared.journal.Entry.{Entry}
use Rattle.okws_plan.specs.Configuration.{cols, all_places}
use Rattle.okws_plan.specs.declared.configuration.Config.{Config}
use Rattle.okws_plan.specs.declared.script.Place.{Place}
use Rattle.okws_plan.specs.declared.script.Place.TheVariants.{Proxy, Pubd, Oklogd}
use Rattle.okws_plan.specs.declared.script.Line.{Line}
use Rattle.okws_plan.specs.declared.script.Line.TheVariants as line
use Rattle.okws_plan.specs.declared.event.OkdEvent.{OkdEvent}
use Rattle.okws_plan.specs.declared.event.OkdEvent.TheVariants as okd
use Rattle.okws_plan.specs.declared.event.ProxyEvent.{ProxyEvent}
use Rattle.okws_plan.specs.declared.event.ProxyEvent.TheVariants as proxy
use Rattle.okws_plan.specs.declared.event.PubdEvent.{PubdEvent}
use Rattle.okws_plan.specs.declared.event.PubdEvent.TheVariants as pubd
use Rattle.okws_plan.specs.declared.event.LogEvent.{LogEvent}
use Rattle.okws_plan.specs.declared.event.LogEvent.TheVariants as oklogd
use Rattle.okws_plan.specs.declared.event.LauncherEvent.{LauncherEvent}
use Rattle.okws_plan.specs.declared.event.LauncherEvent.TheVariants as launcher
use Rattle.frame_codec.specs.Stream.{Begins, IsBad}
use Rattle.frame_codec.specs.declared.frame.ServiceFrame.{ServiceFrame}
use Rattle.frame_codec.specs.declared.frame.ServiceFrame.TheVariants as said
use Rattle.frame_codec.specs.declared.frame.ServerFrame.{ServerFrame}
use Rattle.frame_codec.specs.declared.frame.ServerFrame.TheVariants as frame
use Rattle.http_text.specs.Response.{own_response}
use Rattle.http_text.specs.Target.{path}
use Rattle.monitor_model.specs.declared.verdict.Push.{Push}
use Rattle.monitor_model.specs.declared.verdict.Way.{Way}
use Rattle.monitor_model.specs.declared.verdict.Way.TheVariants as way
use Rattle.monitor_model.specs.declared.record.Item.TheVariants.{Heard, Said}
use Rattle.monitor_model.specs.declared.record.End.{End}
use Rattle.monitor_model.specs.declared.record.End.TheVariants as end
use Rattle.monitor_model.specs.declared.record.CellEvent.TheVariants as cell
use Rattle.monitor_model.specs.declared.record.Own.TheVariants as own
use Rattle.monitor_model.specs.Standing.{proxy_grant, pubd_grant, log_grant, up_at_okd}
use Rattle.monitor_model.specs.Okd.{accept_verdict}
use Rattle.monitor_model.specs.Pubd.{drain_verdict, edition}
use Rattle.monitor_model.specs.Launcher.{begun}
use Rattle.monitor_model.specs.Cell.{incarnation, last_booted, boot_frame}
use Rattle.monitor_model.specs.Course.{Answers, Speaker, opening, push_frame, said_count}
use Rattle.monitor_model.specs.Answering.{end_response}
use Rattle.monitor_model.specs.Seen.{Seen, proxy_past}
use Rattle.monitor_model.specs.Stage.{Stage, Stand, Opened, Asked, first_stage, stand, with_stand, with_seen, with_item, marked_begun, method_text, request_head, heard_line, answer_line}

-- One entry of the run's only number.
abbrev pub entry : {E : Type 0} → E → Entry E
entry event = record { worker = 0; event = event }

-- The run's only number enters an event at okd.
abbrev pub at_okd : OkdEvent → Seen → Seen
at_okd e J = record J { okd = entry e ∷ J.okd; own = own.Okd e ∷ J.own }

-- The run's only number enters an event at proxy p.
abbrev pub at_proxy : ℕ → ProxyEvent → Seen → Seen
at_proxy p e J = record J { proxies = slice_set J.proxies p (entry e ∷ proxy_past J.proxies p); own = own.Proxy p e ∷ J.own }

-- The run's only number enters an event at pubd.
abbrev pub at_pubd : PubdEvent → Seen → Seen
at_pubd e J = record J { pubd = entry e ∷ J.pubd; own = own.Pubd e ∷ J.own }

-- The run's only number enters an event at oklogd.
abbrev pub at_log : LogEvent → Seen → Seen
at_log e J = record J { oklogd = entry e ∷ J.oklogd; own = own.Oklogd e ∷ J.own }

-- The run's only number enters an event at the launcher.
abbrev pub at_launcher : LauncherEvent → Seen → Seen
at_launcher e J = record J { launcher = entry e ∷ J.launcher; own = own.Launcher e ∷ J.own }

-- The greatest incarnation of s that was begun.
abbrev pub greatest : Stage → ℕ → ℕ
greatest S s = begun S.seen.launcher s

-- `begin`: the next incarnation of s begins.
abbrev pub begins : ℕ → Stage → Stage
begins s S = with_seen S (at_launcher (launcher.Begun s (greatest S s + 1)) S.seen)

-- Incarnation k of s is installed at a column.
abbrev pub install_place : List ℕ → ℕ → ℕ → Place → Seen → Seen
install_place seed s k (Proxy p) J = at_proxy p (proxy.Install s k (token_of seed s k p)) J
install_place seed s k Pubd J = at_pubd (pubd.Install s k) J
install_place seed s k Oklogd J = at_log (oklogd.Install s k) J

-- `install`: the greatest incarnation begun is installed at a column.
abbrev pub installed : List ℕ → ℕ → Place → Stage → Stage
installed seed s at S = with_seen S (install_place seed s (greatest S s) at S.seen)

-- The incarnation of s that stands at a column.
abbrev pub stands_of : ℕ → Place → Seen → Option ℕ
stands_of s (Proxy p) J = standing_by proxy_grant (proxy_past J.proxies p) s
stands_of s Pubd J = standing_by pubd_grant J.pubd s
stands_of s Oklogd J = standing_by log_grant J.oklogd s

-- What stands of s at a column is revoked, if anything does.
abbrev pub revoke_place : ℕ → Place → Option ℕ → Seen → Seen
revoke_place s at None J = J
revoke_place s (Proxy p) (Some k) J = at_proxy p (proxy.Revoke s k) J
revoke_place s Pubd (Some k) J = at_pubd (pubd.Revoke s k) J
revoke_place s Oklogd (Some k) J = at_log (oklogd.Revoke s k) J

-- `revoke`: the standing incarnation at a column, if any, is revoked.
abbrev pub revoked : ℕ → Place → Stage → Stage
revoked s at S = with_seen S (revoke_place s at (stands_of s at S.seen) S.seen)

-- What is up of s is down, if anything is.
abbrev pub down_okd : ℕ → Option ℕ → Seen → Seen
down_okd s None J = J
down_okd s (Some k) J = at_okd (okd.Down s k) J

-- `down`: okd's Down of the incarnation that is up, if any.
abbrev pub downed : ℕ → Stage → Stage
downed s S = with_seen S (down_okd s (up_at_okd S.seen.okd s) S.seen)

-- `up`: okd's Up of the cell's incarnation.
abbrev pub upped : ℕ → Stage → Stage
upped s S = with_seen S (at_okd (okd.Up s (incarnation (stand S s).past)) S.seen)

-- The method of a request that may not be there.
abbrev pub request_method : Option Asked → List ℕ
request_method None = []
request_method (Some asked) = method_text asked.method

-- Where a cell has no incarnation, nothing is left on its link, and no end stands there.
abbrev pub settled : Stand → Stand
settled there = if incarnation there.past == 0 then record there { left = []; has_ended = false } else there

-- The open dialog of s ends, and its request is answered.
abbrev pub closed : ℕ → Opened → End → Stage → Stage
closed s opened how S =
    with_stand S s (settled (record (stand S s) { past = cell.Dialog (record { worker = 0; items = opened.items; end = how; due = [] }) ∷ (stand S s).past; open_dialog = None }))

-- What is printed where an open dialog ends: the answer to its request.
abbrev pub closing_text : Opened → End → Stage → List ℕ
closing_text opened how S = answer_line opened.request (end_response how opened.items (request_method (slice_get S.requests opened.request)))

-- An open dialog of s, if any, ends as superseded by the greatest incarnation begun.
abbrev pub superseded_if : ℕ → Option Opened → Stage → Stage
superseded_if s None S = S
superseded_if s (Some opened) S = closed s opened (end.Superseded (greatest S s)) S

-- What is printed where an open dialog, if any, is superseded.
abbrev pub superseded_text : ℕ → Option Opened → Stage → List ℕ
superseded_text s None S = []
superseded_text s (Some opened) S = closing_text opened (end.Superseded (greatest S s)) S

-- An open dialog of s, if any, ends as superseded.
abbrev pub superseded : ℕ → Stage → Stage
superseded s S = superseded_if s (stand S s).open_dialog S

-- The cell is retired, where it has an incarnation.
abbrev pub retired : ℕ → Stage → Stage
retired s S =
    if incarnation (stand S s).past == 0 then S
    else with_item (with_stand S s (settled (record (stand S s) { past = cell.Retired ∷ (stand S s).past }))) (own.Retired s)

-- A fresh link gets Boot of the greatest incarnation begun.
abbrev pub freshly_booted : ℕ → Stage → Stage
freshly_booted s S =
    with_item (with_stand S s (record { past = cell.Boot (greatest S s) ∷ (stand S s).past; left = []; has_ended = false; open_dialog = None }))
    (own.Boot s (greatest S s))

-- What is printed for the Boot frame.
abbrev pub boot_text : Config → List ℕ → ℕ → Stage → List ℕ
boot_text C seed s S = heard_line C s (greatest S s) (boot_frame C seed s (greatest S s))

-- `boot`: an open dialog ends as superseded; the cell is retired; a fresh link gets Boot of the greatest incarnation begun.
abbrev pub booted : ℕ → Stage → Stage
booted s S = freshly_booted s (retired s (superseded s S))

-- The greatest incarnation begun is installed at each of the columns, in order.
abbrev pub installed_all : List ℕ → ℕ → List Place → Stage → Stage
installed_all seed s [] S = S
installed_all seed s (at ∷ more) S = installed_all seed s more (installed seed s at S)

-- What stands of s at each of the columns is revoked, in order.
abbrev pub revoked_all : ℕ → List Place → Stage → Stage
revoked_all s [] S = S
revoked_all s (at ∷ more) S = revoked_all s more (revoked s at S)

-- The rest of a launch: install along the service's columns, boot, up.
abbrev pub launched_rest : Config → List ℕ → ℕ → Stage → Stage
launched_rest C seed s S = upped s (booted s (installed_all seed s (cols C s) S))

-- `launch`: begin, install along the service's columns, boot, up.
abbrev pub launched : Config → List ℕ → ℕ → Stage → Stage
launched C seed s S = launched_rest C seed s (begins s S)

-- `relaunch`: begin, down, revoke at each proxy in order, at pubd and at oklogd, the cell retired, then the rest of a launch.
abbrev pub taken_down : Config → ℕ → Stage → Stage
taken_down C s S = retired s (superseded s (revoked_all s (all_places C) (downed s (begins s S))))

-- `relaunch`: all that stands is taken down, and then the rest of a launch.
abbrev pub relaunched : Config → List ℕ → ℕ → Stage → Stage
relaunched C seed s S = launched_rest C seed s (taken_down C s S)

-- What a boot prints: the answer of a dialog that it ends, then the Boot frame.
abbrev pub booting_text : Config → List ℕ → ℕ → Stage → List ℕ
booting_text C seed s S = superseded_text s (stand S s).open_dialog S ++ boot_text C seed s S

-- To which incarnation of which service a request goes, if to any.
abbrev pub goes_of : Way → Option (ℕ × ℕ)
goes_of way.NotOwned = None
goes_of (way.Down s) = None
goes_of (way.To s k) = Some (s, k)

-- What is printed at once for a request that goes to nobody.
abbrev pub way_text : ℕ → Way → List ℕ → List ℕ
way_text n way.NotOwned method = answer_line n (own_response 404 method)
way_text n (way.Down s) method = answer_line n (own_response 503 method)
way_text n (way.To s k) method = []

-- Who speaks at the cell of s.
abbrev pub speaker : Stage → ℕ → Speaker
speaker S s = record { worker = 0; service = s; incarnation = incarnation (stand S s).past }

-- The dialog of request n was begun.
abbrev pub marked : ℕ → Stage → Stage
marked n S = record S { requests = marked_begun n S.requests }

-- Where another incarnation than the accepted one is there, the request is Missed, and answered with 503.
abbrev pub missed : ℕ → ℕ → Stage → Stage
missed s k S =
    with_item (with_stand S s (record (stand S s) { past = cell.Missed 0 k (incarnation (stand S s).past) ∷ (stand S s).past })) (own.Missed s k (incarnation (stand S s).past))

-- What is printed for the pushes of a dialog.
abbrev pub pushes_text : Config → ℕ → ℕ → List Push → List ℕ
pushes_text C s k pushes = flat_map (λ (push : Push). heard_line C s k (push_frame push)) pushes

-- A dialog opens: its Drain is entered, and its pushes and its Request are heard.
abbrev pub dialog_opened : Config → ℕ → ℕ → ℕ → Asked → Stage → Stage
dialog_opened C n s k asked S =
    with_stand (with_seen S (at_pubd (pubd.Drain s k) (with_item S (own.Dialog s)).seen)) s
    (record (stand S s) { open_dialog = Some (record { request = n; items = opening (drain_verdict C S.seen.pubd s k) (frame.Request asked.head asked.content) }) })

-- What is printed for the pushes and the Request of a dialog.
abbrev pub opening_text : Config → ℕ → ℕ → Asked → Stage → List ℕ
opening_text C s k asked S = pushes_text C s k (drain_verdict C S.seen.pubd s k) ++ heard_line C s k (frame.Request asked.head asked.content)

-- A Reply ends its dialog.
abbrev pub reply_end : ServiceFrame → Option End
reply_end (said.Reply status content_type location content) = Some end.Reply
reply_end (said.Open p shown) = None
reply_end (said.Call p n q args) = None
reply_end (said.Get name) = None
reply_end (said.Log text) = None

-- How a dialog ends at a frame that was said as the n-th: at a Reply, and at the 4,097th frame.
abbrev pub said_end : ℕ → ServiceFrame → Option End
said_end n frame = if nat_lt MOST_FRAMES n then Some end.FrameLimit else reply_end frame

-- What is left on the link, and the items of the open dialog.
abbrev pub continued : ℕ → Opened → List ℕ → Stage → Stage
continued s opened left S = with_stand S s (record (stand S s) { left = left; open_dialog = Some opened })

-- The open dialog with a frame that was said.
abbrev pub heard_said : Opened → ServiceFrame → Opened
heard_said opened frame = record opened { items = Said frame ∷ opened.items }

-- What answers a frame enters nothing, or one entry of the run's only number on what stands.
abbrev pub IsNext : Seen → Seen → Type 0
IsNext J now =
    (now ≡ J)
    ⊎ ((p : ℕ) × (event : ProxyEvent) × (now ≡ at_proxy p event J))
    ⊎ ((event : PubdEvent) × (now ≡ at_pubd event J))
    ⊎ ((event : LogEvent) × (now ≡ at_log event J))

-- A frame was said as the dialog's n-th: it ends the dialog, or is answered by one frame; nobody else made an entry.
abbrev pub Takes : Config → ℕ → Opened → ServiceFrame → List ℕ → Option End → Stage → List ℕ → Stage → Type 0
Takes C s opened frame left (Some how) S text now =
    (now ≡ closed s (heard_said opened frame) how (continued s opened left S)) × (text ≡ closing_text (heard_said opened frame) how S)
Takes C s opened frame left None S text now =
    (heard : ServerFrame) × (seen : Seen) × Answers C (speaker S s) frame S.seen heard seen × IsNext S.seen seen
    × (now ≡ with_seen (continued s (record opened { items = Heard heard ∷ Said frame ∷ opened.items }) left S) seen)
    × (text ≡ heard_line C s (incarnation (stand S s).past) heard)

-- One step of the open dialog of s: it is superseded where a greater incarnation was begun; else a whole frame is taken; else the bytes are BadFrame; else they ended, inside a frame or between frames.
abbrev pub Advances : Config → ℕ → Opened → Stage → List ℕ → Stage → Type 0
Advances C s opened S text now =
    (IsTrue (nat_lt (incarnation (stand S s).past) (greatest S s)) × (now ≡ superseded s S) × (text ≡ superseded_text s (Some opened) S))
    ⊎ (IsFalse (nat_lt (incarnation (stand S s).past) (greatest S s)) × (said : ServiceFrame) × (left : List ℕ) × Begins (stand S s).left said left
    × Takes C s opened said left (said_end (said_count opened.items + 1) said) S text now)
    ⊎ (IsFalse (nat_lt (incarnation (stand S s).past) (greatest S s)) × IsBad (stand S s).left
    × (now ≡ closed s opened end.BadFrame S) × (text ≡ closing_text opened end.BadFrame S))
    ⊎ (IsFalse (nat_lt (incarnation (stand S s).past) (greatest S s)) × IsTrue (stand S s).has_ended × ((stand S s).left ≡ [])
    × (now ≡ closed s opened end.Ended S) × (text ≡ closing_text opened end.Ended S))
    ⊎ (IsFalse (nat_lt (incarnation (stand S s).past) (greatest S s)) × IsTrue (stand S s).has_ended × ((stand S s).left ≢ [])
    × ((said : ServiceFrame) (left : List ℕ) → Begins (stand S s).left said left → ⊥)
    × (now ≡ closed s opened end.BadFrame S) × (text ≡ closing_text opened end.BadFrame S))

-- The link of an open dialog holds a whole frame, bytes that are BadFrame, or its end.
abbrev pub IsReady : Stand → Type 0
IsReady there = ((said : ServiceFrame) × (left : List ℕ) × Begins there.left said left) ⊎ IsBad there.left ⊎ IsTrue there.has_ended

-- The cell goes on while its dialog is open and its link is ready: after so many steps it isn't.
abbrev pub GoesOn : Config → ℕ → ℕ → Stage → List ℕ → Stage → Type 0
GoesOn C s zero S text now =
    (text ≡ []) × (now ≡ S) × ((opened : Opened) → (stand S s).open_dialog ≡ Some opened → IsReady (stand S s) → ⊥)
GoesOn C s (suc steps) S text now =
    (opened : Opened) × (mid : Stage) × (before more : List ℕ) × ((stand S s).open_dialog ≡ Some opened) × IsReady (stand S s)
    × Advances C s opened S before mid × GoesOn C s steps mid more now × (text ≡ before ++ more)

-- A dialog begins: its request is Missed, or superseded at once, or it opens and the cell goes on.
abbrev pub Begun : Config → ℕ → ℕ → ℕ → Asked → Stage → List ℕ → Stage → Type 0
Begun C n s k asked S text now =
    ((incarnation (stand S s).past ≢ k) × (now ≡ missed s k S) × (text ≡ answer_line n (own_response 503 (method_text asked.method))))
    ⊎ ((incarnation (stand S s).past ≡ k) × (k < greatest S s)
    × (now ≡ closed s (record { request = n; items = [] }) (end.Superseded (greatest S s)) (with_item S (own.Dialog s)))
    × (text ≡ answer_line n (own_response 503 (method_text asked.method))))
    ⊎ ((incarnation (stand S s).past ≡ k) × (greatest S s ≤ k) × (steps : ℕ) × (more : List ℕ)
    × GoesOn C s steps (dialog_opened C n s k asked S) more now × (text ≡ opening_text C s k asked S ++ more))

-- Bytes come, or the service's bytes end.
abbrev pub given : ℕ → List ℕ → Stage → Stage
given s bytes S = with_stand S s (record (stand S s) { left = (stand S s).left ++ bytes })

-- The service's bytes end.
abbrev pub has_ended : ℕ → Stage → Stage
has_ended s S = with_stand S s (record (stand S s) { has_ended = true })

-- The request that an `accept` line adds.
abbrev pub accepted : Way → Asked → Stage → Stage
accepted goes asked S = record S { requests = S.requests ++ record asked { goes = goes_of goes } ∷ [] }

-- What a line makes of the state, and what it prints.
abbrev pub Does : Config → List ℕ → Line → Stage → List ℕ → Stage → Type 0
Does C seed (line.Begin s) S text now = (now ≡ begins s S) × (text ≡ [])
Does C seed (line.Install s at) S text now = (now ≡ installed seed s at S) × (text ≡ [])
Does C seed (line.Revoke s at) S text now = (now ≡ revoked s at S) × (text ≡ [])
Does C seed (line.Boot s) S text now = (now ≡ booted s S) × (text ≡ booting_text C seed s S)
Does C seed (line.Up s) S text now = (now ≡ upped s S) × (text ≡ [])
Does C seed (line.Down s) S text now = (now ≡ downed s S) × (text ≡ [])
Does C seed (line.Launch s) S text now = (now ≡ launched C seed s S) × (text ≡ booting_text C seed s (begins s S))
Does C seed (line.Relaunch s) S text now = (now ≡ relaunched C seed s S) × (text ≡ booting_text C seed s (begins s S))
Does C seed (line.Accept method target content) S text now =
    (now ≡ accepted (accept_verdict C S.seen.okd (path target)) (record { method = method; head = request_head method target content; content = content; goes = None; has_begun = false })
    (with_seen S (at_okd (okd.Accept (path target)) S.seen)))
    × (text ≡ way_text (length S.requests) (accept_verdict C S.seen.okd (path target)) (method_text method))
Does C seed (line.Dialog n) S text now =
    (asked : Asked) × (s k : ℕ) × (slice_get S.requests n ≡ Some asked) × (asked.goes ≡ Some (s, k)) × Begun C n s k asked (marked n S) text now
Does C seed (line.Bytes s bytes) S text now = (steps : ℕ) × GoesOn C s steps (given s bytes S) text now
Does C seed (line.End s) S text now = (steps : ℕ) × GoesOn C s steps (has_ended s S) text now
Does C seed (line.Publish t content) S text now = (now ≡ with_seen S (at_pubd (pubd.Publish t content) S.seen)) × (text ≡ [])

-- The greatest incarnation of s that was installed at a column.
abbrev pub last_at : ℕ → Place → Seen → ℕ
last_at s (Proxy p) J = last_by proxy_grant (proxy_past J.proxies p) s
last_at s Pubd J = last_by pubd_grant J.pubd s
last_at s Oklogd J = last_by log_grant J.oklogd s

-- The request goes to an incarnation, and its dialog was not begun.
abbrev pub is_pending : Option Asked → Bool
is_pending None = false
is_pending (Some asked) = is_some asked.goes && not asked.has_begun

-- A dialog is open at the cell to which a request goes.
abbrev pub is_busy_at : Option (ℕ × ℕ) → Stage → Bool
is_busy_at None S = false
is_busy_at (Some at) S = is_some (stand S at.0).open_dialog

-- A dialog is open at the cell of this request.
abbrev pub is_busy_request : Option Asked → Stage → Bool
is_busy_request None S = false
is_busy_request (Some asked) S = is_busy_at asked.goes S

-- A rule where it is broken, else the next.
abbrev pub broken : Bool → ℕ → Option ℕ → Option ℕ
broken test rule more = if test then Some rule else more

-- The cell of s has no incarnation.
abbrev pub no_cell : Stage → ℕ → Bool
no_cell S s = incarnation (stand S s).past == 0

-- The lowest rule, from 3 on, that a line breaks where it stands; rules 1 and 2 are the reader's. 3: no incarnation begun. 4: installed, booted or up already. 5: no such request. 6: the cell is busy. 7: an empty cell, or an end before. 8: all incarnations or editions spent. 9: too long.
abbrev pub refusal : Line → Stage → Option ℕ
refusal (line.Begin s) S = broken (nat_le MOST_INCARNATIONS (greatest S s)) 8 None
refusal (line.Install s at) S = broken (greatest S s == 0) 3 (broken (nat_le (greatest S s) (last_at s at S.seen)) 4 None)
refusal (line.Revoke s at) S = None
refusal (line.Boot s) S = broken (greatest S s == 0) 3 (broken (nat_le (greatest S s) (last_booted (stand S s).past)) 4 None)
refusal (line.Up s) S = broken (not (no_cell S s) && is_just (incarnation (stand S s).past) (up_at_okd S.seen.okd s)) 4 (broken (no_cell S s) 7 None)
refusal (line.Down s) S = None
refusal (line.Launch s) S = broken (nat_le MOST_INCARNATIONS (greatest S s)) 8 None
refusal (line.Relaunch s) S = broken (nat_le MOST_INCARNATIONS (greatest S s)) 8 None
refusal (line.Accept method target content) S = None
refusal (line.Dialog n) S = broken (not (is_pending (slice_get S.requests n))) 5 (broken (is_busy_request (slice_get S.requests n) S) 6 None)
refusal (line.Bytes s bytes) S = broken (no_cell S s || (stand S s).has_ended) 7 None
refusal (line.End s) S = broken (no_cell S s || (stand S s).has_ended) 7 None
refusal (line.Publish t content) S = broken (nat_le MOST_EDITIONS (edition S.seen.pubd t)) 8 (broken (nat_lt LONGEST_TEMPLATE (length content)) 9 None)

-- A line that breaks no rule does what it does.
abbrev pub Plays : Config → List ℕ → Line → Stage → List ℕ → Stage → Type 0
Plays C seed line S text now = (refusal line S ≡ None) × Does C seed line S text now

-- The lines of a script, the newest first, lead from nothing to a state, and print this.
abbrev pub PlaysAll : Config → List ℕ → List Line → List ℕ → Stage → Type 0
PlaysAll C seed lines printed now = Runs (Plays C seed) (first_stage C) lines printed now
