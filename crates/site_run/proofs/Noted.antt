-- What a turn in which a service is launched does to what number 0 did.
use Rattle.std.proofs.Common.{◌≡◌, ◌∙◌, ℕ, Bool, true, false, List, [], ◌∷◌, ◌++◌, Some, None, map, refl, sym, ap, subst}
use Rattle.std.specs.Prelude.{filter_map}
use Rattle.std.specs.List.{list_all}
use Rattle.std.specs.declared.option.Option.{Option}
use Rattle.std.proofs.lemmas.Bool.{or_right}
use Rattle.okws_base.specs.Past.{events_of}
use Rattle.okws_base.specs.Turns.{GrowsBy}
use Rattle.okws_base.specs.declared.journal.Entry.{Entry}
use Rattle.okws_plan.specs.declared.configuration.Config.{Config}
use Rattle.okws_plan.specs.declared.event.LauncherEvent.{LauncherEvent}
use Rattle.monitor_model.specs.declared.record.Own.{Own}
use Rattle.monitor_model.specs.declared.record.Own.TheVariants as own
use Rattle.monitor_model.specs.Launcher.{begun}
use Rattle.monitor_model.specs.Merged.{launcher_item}
use Rattle.named_columns.specs.Launched.{by_entry}
use Rattle.launch_turns.specs.Deeds.{entries, up_in}
use Rattle.okld_launch.specs.Ups.{launch_up_if, ups_after}
use Rattle.okld_launch.specs.Entering.{entries_of}
use Rattle.okld_launch.specs.Launchers.{LauncherIs}
use Rattle.launch_turns.specs.Turns.{InTurn}
use Rattle.okld_launch.specs.Going.{GoesIf}
use Rattle.okld_launch.specs.declared.answer.Launched.{Launched}
use Rattle.launch_turns.specs.declared.deed.Deed.{Deed}
use Rattle.launch_turns.proofs.Deeds.{up_stays}
use Rattle.worker_lives.specs.Ending.{launches_end}
use Rattle.worker_lives.specs.Waiting.{LeadsSo, owes, turn_leads}
use Rattle.worker_lives.proofs.Others.{foreign_of}
use Rattle.worker_lives.proofs.Waiting.{leads_turn, leads_want}
use Rattle.round_lives.specs.Living.{starved_if}
use Rattle.round_lives.proofs.Closing.{launch_ends}
use Rattle.round_lives.proofs.Ended.{ends_both, turn_enters, turn_grows, turn_past, wanted}
use Rattle.round_lives.proofs.Entered.{Adds, calm_of, goes_adds, none, unasked_of}
use Rattle.round_lives.proofs.Led.{launch_led}
use Rattle.site_run.specs.Tied.{IsNotedWhere, OnlyLaunches, is_launching}
use Rattle.site_run.proofs.Launched.{all_launching, entries_own, launches_taken}
use Rattle.site_run.proofs.Leaving.{went}

-- want of memory where there was any
where_led : (w : ℕ) (starved : Bool) (events : List LauncherEvent) (items now : List Own) (seen : List (Entry LauncherEvent)) → IsNotedWhere starved items now → LeadsSo w (owes starved events) items seen → LeadsSo w false now seen
where_led w true events items now seen e h = subst (λ l. LeadsSo w false l seen) (sym e) (leads_want w (owes true events) items seen h)
where_led w false [] items now seen e h = subst (λ l. LeadsSo w false l seen) (sym e) h
where_led w false (v ∷ events) items now seen e h = subst (λ l. LeadsSo w false l seen) (sym e) h

where_taken : (starved : Bool) (items now : List Own) → IsNotedWhere starved items now → filter_map launcher_item now ≡ filter_map launcher_item items
where_taken true items now e = ap (filter_map launcher_item) e
where_taken false items now e = ap (filter_map launcher_item) e

where_launching : (starved : Bool) (items now : List Own) → IsNotedWhere starved items now → list_all is_launching items ≡ true → list_all is_launching now ≡ true
where_launching true items now e h = subst (λ l. list_all is_launching l ≡ true) (sym e) h
where_launching false items now e h = subst (λ l. list_all is_launching l ≡ true) (sym e) h

where_ended : (up : ℕ → ℕ → Bool) (starved : Bool) (items now : List Own) → IsNotedWhere starved items now → launches_end up (wanted starved) items ≡ true → launches_end up None now ≡ true
where_ended up true items now e h = subst (λ l. launches_end up None l ≡ true) (sym e) h
where_ended up false items now e h = subst (λ l. launches_end up None l ≡ true) (sym e) h

-- what a launch enters
launch_adds : (C : Config) (n s : ℕ) (l : LauncherIs) (answer : Option Launched) (after : LauncherIs) → GoesIf C n s l answer after → Adds n l.journal.past after.journal.past
launch_adds C n s l None after h = none n l.journal.past after.journal.past (ap (λ (x : LauncherIs). x.journal.past) h.1)
launch_adds C n s l (Some answer) after h = goes_adds C n s l.journal.past l.crew.family answer after h.1

-- what it entered was noted, and want of memory where there was any
pub launch_noted : (C : Config) (w s : ℕ) (answer : Option Launched) (events : List LauncherEvent) (items mid now : List Own) (seen : List Deed) (before after : LauncherIs) (last : List Deed)
    → InTurn C w seen before (launch_up_if answer) false events after last → GoesIf C w s before answer after → mid ≡ map own.Launcher events ++ items → IsNotedWhere (starved_if answer) mid now → OnlyLaunches w items seen → OnlyLaunches w now last
launch_noted C w s answer events items mid now seen before after last t goes e n h =
    let starved = starved_if answer in
    let J = before.journal.past in
    let up = ups_after (launch_up_if answer) events (up_in t.deeds) in
    let grows : GrowsBy by_entry w (entries seen) J = turn_grows t in
    let enters : entries last ≡ entries_of w events ++ J = turn_enters t in
    let led : turn_leads w (begun (entries last)) (owes starved events) None events J ≡ true
    = subst (λ (K : List (Entry LauncherEvent)). turn_leads w (begun K) (owes starved events) None events J ≡ true) (sym (turn_past t)) (launch_led C w s events before answer after t.enters goes) in
    let adds = launch_adds C w s before answer after goes in
    let more : (s k : ℕ) → up_in seen s k ≡ true → up s k ≡ true
    = λ s k was. or_right _ (up_in t.deeds s k) (subst (λ (deeds : List Deed). up_in deeds s k ≡ true) (sym t.grows.2) (up_stays t.grows.0 seen s k was)) in
    record {
      entered = ap (events_of w) enters ∙ (entries_own w w events J refl ∙ (ap (λ l. events ++ l) (went w (entries seen) J grows ∙ h.entered) ∙ (sym (launches_taken events items) ∙ (ap (filter_map launcher_item) (sym e) ∙ sym (where_taken starved mid now n)))));
      only = where_launching starved mid now n
          (subst (λ l. list_all is_launching l ≡ true) (sym e) (all_launching events items (unasked_of w J after.journal.past events t.enters adds) (calm_of w J after.journal.past events t.enters adds) h.only));
      lead = where_led w starved events mid now (entries last) n (subst (λ l. LeadsSo w (owes starved events) l (entries last)) (sym e)
          (leads_turn w starved events items grows.0 (entries seen) (entries last) (foreign_of w grows.0 grows.1) (enters ∙ ap (λ (B : List (Entry LauncherEvent)). entries_of w events ++ B) grows.2)
          (subst (λ (B : List (Entry LauncherEvent)). turn_leads w (begun (entries last)) (owes starved events) None events B ≡ true) grows.2 led) h.lead));
      ends = where_ended (up_in last) starved mid now n
          (subst (λ (deeds : List Deed). launches_end (up_in deeds) (wanted starved) mid ≡ true) (sym t.seen_is) (subst (λ l. launches_end up (wanted starved) l ≡ true) (sym e)
          (ends_both (up_in seen) up more (wanted starved) items (map own.Launcher events) h.ends (launch_ends C w s events before answer after t.enters goes (up_in t.deeds)))));
    }
