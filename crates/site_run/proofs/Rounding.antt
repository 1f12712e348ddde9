-- What holds of a worker's life at first and is kept by each thing that a worker does holds of it at last: in all rounds at its door, and in all commands at the console.
use Rattle.std.proofs.Common.{◌≡◌, ◌∙◌, ap, inl, inr, ℕ, ◌%◌, Bool, true, false, List, [], ◌∷◌, length, sym, subst}
use Rattle.std.specs.Prelude.{Some, None}
use Rattle.std.specs.declared.option.Option.{Option}
use Rattle.okws_plan.specs.declared.configuration.Config.{Config}
use Rattle.okws_plan.specs.declared.event.LauncherEvent.{LauncherEvent}
use Rattle.okws_outer.specs.Conns.{ConnWire}
use Rattle.okws_outer.specs.Doors.{Entrance}
use Rattle.monitor_model.specs.declared.verdict.Way.{Way}
use Rattle.monitor_model.specs.declared.verdict.Way.TheVariants as way
use Rattle.http_front.specs.declared.kept.Kept.{Kept as KeptHead}
use Rattle.door_worker.specs.Asking.{Asked}
use Rattle.http_front.specs.Replies.{Replied}
use Rattle.door_worker.specs.Serving.{Course, IsHandled, Serves}
use Rattle.door_worker.specs.Serving.{Handled, Refused, Starved, Broken}
use Rattle.door_worker.specs.declared.handler.Outcome.{Outcome}
use Rattle.door_worker.specs.declared.serving.Serving.{Serving}
use Rattle.door_worker.specs.declared.serving.Serving.TheVariants as serving
use Rattle.admin_console.specs.Steps.{IsDone}
use Rattle.admin_console.specs.declared.answer.Answer.{Answer}
use Rattle.admin_console.specs.declared.controls.Publishing.{Publishing}
use Rattle.admin_console.specs.declared.controls.Status.{Status}
use Rattle.admin_console.specs.declared.order.Order.{Order}
use Rattle.admin_console.specs.declared.order.Order.TheVariants as order
use Rattle.admin_console.specs.declared.step.Stepped.{Stepped}
use Rattle.admin_console.specs.declared.step.Stepped.TheVariants as stepped
use Rattle.service_cell.specs.declared.answer.Spoken.{Spoken}
use Rattle.service_cell.specs.declared.answer.Spoken.TheVariants as spoken
use Rattle.launch_turns.specs.Deeds.{entries}
use Rattle.okld_launch.specs.Launchers.{LauncherIs}
use Rattle.launch_turns.specs.Turns.{InTurn}
use Rattle.okld_launch.specs.declared.answer.Launched.{Launched}
use Rattle.launch_turns.proofs.Deeds.{entries_grow}
use Rattle.site_worker.specs.Commands.{Commands, Oversees, StepsAt}
use Rattle.site_worker.specs.Handling.{Accepts, Follows, Goes, Handles, Talks}
use Rattle.site_worker.specs.Launching.{Asks, OnlyLauncher, Reports, TakesTurn, Tends}
use Rattle.site_worker.specs.Lives.{Life, Sees, Starves, StarvesWhere}
use Rattle.site_worker.specs.Rounds.{Attends, GoesRound, Rounds, TendsAfter, TendsNext}
use Rattle.site_worker.specs.Steering.{Publishes, Relaunches, Surveys}
use Rattle.site_worker.specs.declared.console.Overseen.{Overseen}
use Rattle.site_worker.specs.declared.door.Attended.{Attended}

-- Each thing that a worker does keeps this of its life.
pub record IsKept (C : Config) (n : ℕ) (P : Life → Type 0) : Type 0 where
  pub starves : (J K : Life) → Starves J K → P J → P K
  pub sees : (J K : Life) → Sees J.seen J K → P J → P K
  pub turns : (events : List LauncherEvent) (J K : Life) → TakesTurn events J K → P J → P K
  pub accepts : (path : List ℕ) (goes : Way) (J K : Life) → Accepts C path goes J K → P J → P K
  pub talks : (asked : Asked) (s k : ℕ) (answer : Spoken) (J K : Life) → Talks C n asked s k answer J K → P J → P K
  pub publishes : (J : Life) (t : ℕ) (content : List ℕ) (p : Publishing) (K : Life) → Publishes J t content p K → P J → P K

module _ (C : Config) (n : ℕ) (P : Life → Type 0) (kept : IsKept C n P) where
  same : (J K : Life) → K ≡ J → P J → P K
  same J K e p = subst P (sym e) p

  where_starved : (starved : Bool) (J K : Life) → StarvesWhere starved J K → P J → P K
  where_starved true J K h p = kept.starves J K h p
  where_starved false J K h p = same J K h p

  -- ---- the launcher's turns

  turned : (up tended : Bool) (events : List LauncherEvent) (J K : Life) (b a : LauncherIs) → OnlyLauncher events J K → InTurn C J.launcher.number J.launcher.seen b up tended events a K.launcher.seen → TakesTurn events J K
  turned up tended events J K b a only t = record {
    before = entries t.deeds;
    grows = entries_grow J.launcher.number J.launcher.seen t.deeds t.grows;
    enters = ap entries t.seen_is;
    only = only;
    up = up;
    tended = tended;
    deeds = t.deeds;
    others = t.grows;
    did = t.seen_is;
  }

  reports : (s k : ℕ) (J K : Life) → Reports C s k J K → P J → P K
  reports s k J K h p = let t = h.reports in where_starved _ h.mid K h.notes (kept.turns h.events J h.mid (turned _ _ h.events J h.mid t.before t.after h.only t.turn) p)

  tends : (s : ℕ) (J K : Life) → Tends C s J K → P J → P K
  tends s J K h p = let t = h.tends in where_starved _ h.mid K h.notes (kept.turns h.events J h.mid (turned _ _ h.events J h.mid t.before t.after h.only t.turn) p)

  asks : (s : ℕ) (answer : Launched) (J K : Life) → Asks C s answer J K → P J → P K
  asks s answer J K h p = let t = h.relaunches in where_starved _ h.mid K h.notes (kept.turns h.events J h.mid (turned _ _ h.events J h.mid t.before t.after h.only t.turn) p)

  surveys : (told : Status) (J K : Life) → Surveys C J told K → P J → P K
  surveys told J K h p = kept.sees h.mid K h.counts.sees (kept.turns [] J h.mid (turned false false [] J h.mid h.looks.before h.looks.before h.only h.looks.turn) p)

  -- ---- a request

  follows : (s k : ℕ) (answer : Spoken) (became : Outcome) (reply : Replied) (J K : Life) → Follows C s k answer became reply J K → P J → P K
  follows s k spoken.Reply became reply J K h p = same J K h.2 p
  follows s k (spoken.Crashed why) became reply J K h p = reports s k J K h.1 p
  follows s k (spoken.Missed wanted is) became reply J K h p = same J K h.1 p
  follows s k (spoken.Superseded i shown) became reply J K h p = same J K h.1 p
  follows s k spoken.NoMemory became reply J K h p = kept.starves J K h.1 p

  goes_on : (asked : Asked) (goes : Way) (became : Outcome) (reply : Replied) (J K : Life) → Goes C n asked goes became reply J K → P J → P K
  goes_on asked way.NotOwned became reply J K h p = same J K h.1 p
  goes_on asked (way.Down s) became reply J K h p = same J K h.1 p
  goes_on asked (way.To s k) became reply J K h p = follows s k h.0 became reply h.1 K h.3 (kept.talks asked s k h.0 J h.1 h.2 p)

  handles : (J : Life) (asked : Asked) (became : Outcome) (reply : Replied) (K : Life) → Handles C n J asked became reply K → P J → P K
  handles J asked became reply K (inl h) p = kept.starves J K h.1 p
  handles J asked became reply K (inr h) p = goes_on asked h.0 became reply h.1 K h.3 (kept.accepts asked.path h.0 J h.1 h.2 p)

  -- ---- at a door

  handled : (J K : Life) (course : Course) (reply : Replied) → IsHandled (Handles C n) Starves J course reply K → P J → P K
  handled J K (Handled asked became) reply h p = handles J asked became reply K h p
  handled J K (Refused status) reply h p = same J K h p
  handled J K Starved reply h p = kept.starves J K h p
  handled J K Broken reply h p = same J K h p

  tends_next : (c : ℕ) (J K : Life) → TendsNext C c J K → P J → P K
  tends_next c J K (inl h) p = same J K h.1 p
  tends_next c J K (inr h) p = tends (c % length C.services) J K h.1 p

  goes_round : (c : ℕ) (J K : Life) → GoesRound C c J K → P J → P K
  goes_round c J K h p = kept.sees h.0 K h.2 (tends_next c J h.0 h.1 p)

  tends_after : (c : ℕ) (what : Serving) (J K : Life) → TendsAfter C c what J K → P J → P K
  tends_after c (serving.Served a) J K h p = goes_round c J K h p
  tends_after c (serving.ConnFault a) J K h p = goes_round c J K h p
  tends_after c serving.NoConn J K h p = goes_round c J K h p
  tends_after c serving.NoneCame J K h p = same J K h p
  tends_after c serving.NoMemory J K h p = same J K h p

  module _ {X : Type 0} (wire : X → ConnWire) where
    serves : (e f : Entrance) (J K : Life) (head : KeptHead) (reply : Replied) (what : Serving) → Serves wire (Handles C n) Starves e f J K head reply what → P J → P K
    serves e f J K head reply (serving.Served a) h p = handled J K h.attends.course reply h.attends.handled p
    serves e f J K head reply (serving.ConnFault a) h p = handled J K h.attends.course reply h.attends.handled p
    serves e f J K head reply serving.NoConn h p = same J K h.1 p
    serves e f J K head reply serving.NoneCame h p = same J K h.1 p
    serves e f J K head reply serving.NoMemory h p = same J K h.1 p

    rounds : (seen : ℕ) (numbers : List ℕ) (e f : Entrance) (J K : Life) → Rounds wire C n seen numbers e f J K → P J → P K
    rounds seen [] e f J K h p = same J K h.1 p
    rounds seen (number ∷ numbers) e f J K h p =
        let round = h.5 in
        tends_after number h.3 round.mid K round.tends
        (serves h.0 f h.1 round.mid round.kept round.reply h.3 round.serves (rounds seen numbers e h.0 J h.1 h.2 p))

    pub attends_kept : (most seen : ℕ) (e f : Entrance) (J K : Life) (drawn now : List ℕ) (a : Attended) → Attends wire C n most seen e f J K drawn now a → P J → P K
    attends_kept most seen e f J K drawn now a h p = rounds seen h.numbers e f J K h.rounds p

  -- ---- at the console

  relaunches : (s : ℕ) (r : _) (J K : Life) → Relaunches C J s r K → P J → P K
  relaunches s r J K (inl h) p = asks s h.0 J K h.2 p
  relaunches s r J K (inr h) p = same J K h.1 p

  done : (line : ℕ) (o : Order) (bytes : List ℕ) (left : Option (List ℕ)) (J : Life) (a : Answer) (K : Life) → IsDone Publishes (Relaunches C) (Surveys C) line o bytes left J a K → P J → P K
  done line (order.Publish t size) bytes left J a K (inl h) p = kept.publishes J t bytes h.1 K h.2 p
  done line (order.Publish t size) bytes left J a K (inr (inl h)) p = same J K h.3 p
  done line (order.Publish t size) bytes left J a K (inr (inr h)) p = same J K h.2 p
  done line (order.Relaunch s) bytes left J a K h p = relaunches s h.1 J K h.2 p
  done line order.Status bytes left J a K h p = surveys h.1 J K h.2 p
  done line order.End bytes left J a K h p = absurd h
  done line order.Stop bytes left J a K h p = absurd h
  done line (order.Refused broken size) bytes left J a K h p = same J K h.2 p

  steps : (x y : ConnWire) (before after : ℕ) (J K : Life) (what : Stepped) → StepsAt C x y before after J K what → P J → P K
  steps x y before after J K (stepped.Answered a) h p = done after _ h.0.bytes y.left J a K h.0.is p
  steps x y before after J K stepped.Finished h p = same J K h.2 p
  steps x y before after J K stepped.Stop h p = same J K h.2 p
  steps x y before after J K (stepped.ConsoleFault (Some a)) h p = done after _ h.0.bytes y.left J a K h.0.is p
  steps x y before after J K (stepped.ConsoleFault None) h p = same J K h.3 p

  commands : (answers : List Answer) (x y : ConnWire) (before after : ℕ) (J K : Life) → Commands C answers x y before after J K → P J → P K
  commands [] x y before after J K h p = same J K h.2 p
  commands (answer ∷ answers) x y before after J K h p =
      steps h.0 y h.1 after h.2 K (stepped.Answered answer) h.4 (commands answers x h.0 before h.1 J h.2 h.3 p)

  pub oversees_kept : (x y : ConnWire) (before after : ℕ) (J K : Life) (how : Overseen) → Oversees C x y before after J K how → P J → P K
  oversees_kept x y before after J K how h p = steps h.mid y h.lines after h.life K h.last h.steps (commands h.answers x h.mid before h.lines J h.life h.commands p)
