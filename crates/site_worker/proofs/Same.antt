-- A worker stays the same whatever it does.
use Rattle.std.proofs.Common.{◌≡◌, inl, inr, ℕ, Bool, true, false, List, [], Option, Some, None, sym, ap, ◌∙◌}
use Rattle.okws_plan.specs.declared.configuration.Config.{Config}
use Rattle.okws_plan.specs.declared.event.LauncherEvent.{LauncherEvent}
use Rattle.okws_plan.specs.declared.event.LauncherEvent.{LauncherEvent}
use Rattle.turn_lock.specs.Seats.{SeatIs}
use Rattle.okws_outer.specs.Conns.{ConnWire}
use Rattle.okws_outer.specs.Doors.{Entrance}
use Rattle.monitor_model.specs.Seen.{Seen}
use Rattle.monitor_model.specs.declared.verdict.Way.{Way}
use Rattle.monitor_model.specs.declared.verdict.Way.TheVariants as way
use Rattle.site_cells.specs.Row.{CellsSeen}
use Rattle.service_cell.specs.declared.answer.Spoken.{Spoken}
use Rattle.service_cell.specs.declared.answer.Spoken.TheVariants as spoken
use Rattle.http_front.specs.declared.kept.Kept.{Kept}
use Rattle.door_worker.specs.Asking.{Asked}
use Rattle.http_front.specs.Replies.{Replied}
use Rattle.door_worker.specs.Serving.{Course, IsHandled, Serves, Handled, Refused, Starved, Broken}
use Rattle.door_worker.specs.declared.handler.Outcome.{Outcome}
use Rattle.door_worker.specs.declared.serving.Serving.{Serving}
use Rattle.door_worker.specs.declared.serving.Serving.TheVariants as serving
use Rattle.admin_console.specs.Steps.{IsDone, IsPublished}
use Rattle.admin_console.specs.Orders.{order_of}
use Rattle.admin_console.specs.declared.answer.Answer.{Answer}
use Rattle.admin_console.specs.declared.controls.Publishing.{Publishing}
use Rattle.admin_console.specs.declared.controls.Publishing.TheVariants as publishing
use Rattle.admin_console.specs.declared.controls.Status.{Status}
use Rattle.admin_console.specs.declared.order.Order.{Order}
use Rattle.admin_console.specs.declared.order.Order.TheVariants as order
use Rattle.admin_console.specs.declared.step.Stepped.{Stepped}
use Rattle.admin_console.specs.declared.step.Stepped.TheVariants as stepped
use Rattle.launch_turns.specs.declared.deed.Deed.{Deed}
use Rattle.site_worker.specs.Lives.{Life, number_of, Sees, Starves, StarvesWhere, SameWorker}
use Rattle.site_worker.specs.Launching.{OnlyLauncher, Reports, Tends}
use Rattle.site_worker.specs.Handling.{Talks, Follows, Goes, Handles}
use Rattle.site_worker.specs.Steering.{Publishes, Relaunches, Surveys}
use Rattle.site_worker.specs.Rounds.{GoesRound, TendsNext, TendsAfter, Round}
use Rattle.site_worker.specs.Commands.{StepsAt}

-- the same seat, which has seen other entries
same_seat : (J K : Life) → K.launcher ≡ J.launcher → K.launcher ≡ record J.launcher { seen = K.launcher.seen }
same_seat J K e = e ∙ ap (λ (l : SeatIs Deed). record J.launcher { seen = l.seen }) (sym e)

pub same_at_once : (J K : Life) → K ≡ J → SameWorker J K
same_at_once J K e = record { number_is = ap (λ (x : Life). number_of x) e; launcher_is = same_seat J K (ap (λ (x : Life). x.launcher) e) }

pub same_on : (J M K : Life) → SameWorker J M → SameWorker M K → SameWorker J K
same_on J M K a b = record {
  number_is = b.number_is ∙ a.number_is;
  launcher_is = b.launcher_is ∙ ap (λ (l : SeatIs Deed). record l { seen = K.launcher.seen }) a.launcher_is;
}

same_sees : (now : Seen) (J K : Life) → Sees now J K → SameWorker J K
same_sees now J K h = record { number_is = ap (λ (x : CellsSeen). x.number) h.cells_is; launcher_is = same_seat J K h.launcher_is }

same_starves : (J K : Life) → Starves J K → SameWorker J K
same_starves J K h = same_sees _ J K h

same_where : (b : Bool) (J K : Life) → StarvesWhere b J K → SameWorker J K
same_where true J K h = same_starves J K h
same_where false J K h = same_at_once J K h

same_launcher : (events : List LauncherEvent) (J K : Life) → OnlyLauncher events J K → SameWorker J K
same_launcher events J K e = record { number_is = ap (λ (x : Life). number_of x) e; launcher_is = ap (λ (x : Life). x.launcher) e }

same_reports : (C : Config) (s k : ℕ) (J K : Life) → Reports C s k J K → SameWorker J K
same_reports C s k J K h = same_on J h.mid K (same_launcher h.events J h.mid h.only) (same_where _ h.mid K h.notes)

same_tends : (C : Config) (s : ℕ) (J K : Life) → Tends C s J K → SameWorker J K
same_tends C s J K h = same_on J h.mid K (same_launcher h.events J h.mid h.only) (same_where _ h.mid K h.notes)

same_talks : (C : Config) (n : ℕ) (asked : Asked) (s k : ℕ) (answer : Spoken) (J K : Life) → Talks C n asked s k answer J K → SameWorker J K
same_talks C n asked s k answer J K h = record { number_is = ap (λ (x : CellsSeen). x.number) h.only; launcher_is = same_seat J K h.launcher_is }

same_follows : (C : Config) (s k : ℕ) (answer : Spoken) (became : Outcome) (reply : Replied) (J K : Life) → Follows C s k answer became reply J K → SameWorker J K
same_follows C s k spoken.Reply became reply J K h = same_at_once J K h.2
same_follows C s k (spoken.Crashed why) became reply J K h = same_reports C s k J K h.1
same_follows C s k (spoken.Missed wanted is) became reply J K h = same_at_once J K h.1
same_follows C s k (spoken.Superseded i shown) became reply J K h = same_at_once J K h.1
same_follows C s k spoken.NoMemory became reply J K h = same_starves J K h.1

same_goes : (C : Config) (n : ℕ) (asked : Asked) (goes : Way) (became : Outcome) (reply : Replied) (J K : Life) → Goes C n asked goes became reply J K → SameWorker J K
same_goes C n asked way.NotOwned became reply J K h = same_at_once J K h.1
same_goes C n asked (way.Down s) became reply J K h = same_at_once J K h.1
same_goes C n asked (way.To s k) became reply J K h = same_on J h.1 K (same_talks C n asked s k h.0 J h.1 h.2) (same_follows C s k h.0 became reply h.1 K h.3)

same_handles : (C : Config) (n : ℕ) (J : Life) (asked : Asked) (became : Outcome) (reply : Replied) (K : Life) → Handles C n J asked became reply K → SameWorker J K
same_handles C n J asked became reply K (inl h) = same_starves J K h.1
same_handles C n J asked became reply K (inr h) = same_on J h.1 K (same_sees _ J h.1 h.2.rest) (same_goes C n asked h.0 became reply h.1 K h.3)

same_handled : (C : Config) (n : ℕ) (J : Life) (course : Course) (reply : Replied) (K : Life) → IsHandled (Handles C n) Starves J course reply K → SameWorker J K
same_handled C n J (Handled asked became) reply K h = same_handles C n J asked became reply K h
same_handled C n J (Refused status) reply K h = same_at_once J K h
same_handled C n J Starved reply K h = same_starves J K h
same_handled C n J Broken reply K h = same_at_once J K h

same_serves : {X : Type 0} (wire : X → ConnWire) (C : Config) (n : ℕ) (e f : Entrance) (J K : Life) (kept : Kept) (reply : Replied) (what : Serving)
    → Serves wire (Handles C n) Starves e f J K kept reply what → SameWorker J K
same_serves wire C n e f J K kept reply (serving.Served a) h = same_handled C n J h.attends.course reply K h.attends.handled
same_serves wire C n e f J K kept reply (serving.ConnFault a) h = same_handled C n J h.attends.course reply K h.attends.handled
same_serves wire C n e f J K kept reply serving.NoConn h = same_at_once J K h.1
same_serves wire C n e f J K kept reply serving.NoneCame h = same_at_once J K h.1
same_serves wire C n e f J K kept reply serving.NoMemory h = same_at_once J K h.1

same_next : (C : Config) (c : ℕ) (J K : Life) → TendsNext C c J K → SameWorker J K
same_next C c J K (inl h) = same_at_once J K h.1
same_next C c J K (inr h) = same_tends C _ J K h.1

same_goes_round : (C : Config) (c : ℕ) (J K : Life) → GoesRound C c J K → SameWorker J K
same_goes_round C c J K h = same_on J h.0 K (same_next C c J h.0 h.1) (same_sees _ h.0 K h.2)

same_after : (C : Config) (c : ℕ) (what : Serving) (J K : Life) → TendsAfter C c what J K → SameWorker J K
same_after C c (serving.Served a) J K h = same_goes_round C c J K h
same_after C c (serving.ConnFault a) J K h = same_goes_round C c J K h
same_after C c serving.NoConn J K h = same_goes_round C c J K h
same_after C c serving.NoneCame J K h = same_at_once J K h
same_after C c serving.NoMemory J K h = same_at_once J K h

pub same_round : {X : Type 0} (wire : X → ConnWire) (C : Config) (n number : ℕ) (e f : Entrance) (J K : Life) (what : Serving) → Round wire C n number e f J K what → SameWorker J K
same_round wire C n number e f J K what h = same_on J h.mid K (same_serves wire C n e f J h.mid h.kept h.reply what h.serves) (same_after C number what h.mid K h.tends)

same_publishes : (J : Life) (t : ℕ) (content : List ℕ) (p : Publishing) (K : Life) → Publishes J t content p K → SameWorker J K
same_publishes J t content (publishing.Edition n) K h = same_sees _ J K h.3
same_publishes J t content publishing.EditionsSpent K h = same_sees _ J K h.1
same_publishes J t content publishing.NoMemory K (inl h) = same_starves J K h
same_publishes J t content publishing.NoMemory K (inr h) = same_at_once J K h

same_asks : (C : Config) (J : Life) (s : ℕ) (r : _) (K : Life) → Relaunches C J s r K → SameWorker J K
same_asks C J s r K (inl h) = same_on J h.2.mid K (same_launcher h.2.events J h.2.mid h.2.only) (same_where _ h.2.mid K h.2.notes)
same_asks C J s r K (inr h) = same_at_once J K h.1

same_published : (line t size : ℕ) (bytes : List ℕ) (left : Option (List ℕ)) (J : Life) (a : Answer) (K : Life) → IsPublished Publishes line t size bytes left J a K → SameWorker J K
same_published line t size bytes left J a K (inl h) = same_publishes J t bytes h.1 K h.2
same_published line t size bytes left J a K (inr (inl h)) = same_at_once J K h.3
same_published line t size bytes left J a K (inr (inr h)) = same_at_once J K h.2

same_surveys : (C : Config) (J : Life) (told : Status) (K : Life) → Surveys C J told K → SameWorker J K
same_surveys C J told K h = same_on J h.mid K (same_launcher [] J h.mid h.only) (same_sees _ h.mid K h.counts.sees)

same_done : (C : Config) (line : ℕ) (o : Order) (bytes : List ℕ) (left : Option (List ℕ)) (J : Life) (a : Answer) (K : Life) → IsDone Publishes (Relaunches C) (Surveys C) line o bytes left J a K → SameWorker J K
same_done C line (order.Publish t size) bytes left J a K h = same_published line t size bytes left J a K h
same_done C line (order.Relaunch s) bytes left J a K h = same_asks C J s h.1 K h.2
same_done C line order.Status bytes left J a K h = same_surveys C J h.1 K h.2
same_done C line order.End bytes left J a K h = absurd h
same_done C line order.Stop bytes left J a K h = absurd h
same_done C line (order.Refused broken size) bytes left J a K h = same_at_once J K h.2

pub same_step : (C : Config) (w x : ConnWire) (before after : ℕ) (J K : Life) (what : Stepped) → StepsAt C w x before after J K what → SameWorker J K
same_step C w x before after J K (stepped.Answered a) h = same_done C after (order_of C h.0.line) h.0.bytes x.left J a K h.0.is
same_step C w x before after J K stepped.Finished h = same_at_once J K h.2
same_step C w x before after J K stepped.Stop h = same_at_once J K h.2
same_step C w x before after J K (stepped.ConsoleFault (Some a)) h = same_done C after (order_of C h.0.line) h.0.bytes x.left J a K h.0.is
same_step C w x before after J K (stepped.ConsoleFault None) h = same_at_once J K h.3
