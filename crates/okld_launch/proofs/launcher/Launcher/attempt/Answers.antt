use Rattle.std.proofs.Common.{sym, ap, subst, inl, ◌≡◌, ◌∙◌, ◌+◌, ◌∷◌, ℕ, List}
use Rattle.launch_journal.specs.Launches.{Allows, Launches}
use Rattle.launch_journal.specs.declared.next.Next.TheVariants as next
use Rattle.okld_launch.specs.Launchers.{LauncherIs}
use Rattle.okld_launch.proofs.Caused.{kept_may}
use Rattle.okld_launch.proofs.Stating.{still, launch_of}
use Rattle.okld_launch.proofs.OnWay.{way_opens, closed_roomier}
use Rattle.okws_base.specs.declared.journal.Entry.{Entry}
use Rattle.okws_plan.specs.declared.event.LauncherEvent.{LauncherEvent}
use Rattle.okws_plan.specs.declared.event.LauncherEvent.TheVariants as event
use Rattle.monitor_model.specs.Launcher.{begun}
use Rattle.okld_launch.specs.Going.{Closes}
use Rattle.okld_launch.proofs.Told.{attempts_as}
use Rattle.okld_launch.proofs.launcher.Launcher.attempt.Goals as goal

pub invariant_of-quiet : goal.invariant_of-quiet
invariant_of-quiet g c =
    let may = subst (λ (x : LauncherIs). Allows g.N.Numbered.site x.journal.past c.args.service next.Begin) (sym c.reserve.ensures.same) c.requires.may in
    still g.N.Numbered.site g.N.Staffed.children c.args.service c.begin-incarnation.result c.reserve.new.self c.begin-incarnation.new.self c.requires.service may c.begin-incarnation.ensures.is c.begin-incarnation.ensures.journal
    c.in-Ok.ensures.entries c.in-Ok.ensures.items c.begin-incarnation.ensures.room c.begin-incarnation.ensures.under c.begin-incarnation.ensures.fresh c.begin-incarnation.ensures.unstarted

pub begin-incarnation-requires-clause-cause : goal.begin-incarnation-requires-clause-cause
begin-incarnation-requires-clause-cause g c =
    kept_may c.args.self c.reserve.new.self c.args.service (ap (λ (x : LauncherIs). x.journal.past) c.reserve.ensures.same) (ap (λ (x : LauncherIs). x.crew.sat) c.reserve.ensures.same) c.requires.cause

pub returns-in_default : goal.returns-in_default
returns-in_default g c = record {
  attempts = inl (ap (λ (x : LauncherIs). x.journal.past) c.reserve.ensures.same);
  whole = λ up ended whole. closed_roomier g.N.Numbered.site g.N.Numbered.run_seed g.N.Staffed.children up ended c.args.self c.reserve.new.self c.reserve.new.self.journal.room c.reserve.new.self.crew.room c.reserve.ensures.same whole;
  holder = ap (λ (x : LauncherIs). x.journal.holder) c.reserve.ensures.same;
}

pub returns : goal.returns
returns g c =
    let C = g.N.Numbered.site in
    let s = c.args.service in
    let old = c.args.self in
    let r = c.reserve.new.self in
    let m = c.begin-incarnation.new.self in
    let k = c.begin-incarnation.result in
    let w = old.journal.holder in
    let J = old.journal.past in
    let roomier : r ≡ record old { journal = record old.journal { room = r.journal.room }; crew = record old.crew { room = r.crew.room } } = c.reserve.ensures.same in
    let past = ap (λ (x : LauncherIs). x.journal.past) roomier in
    let holds = ap (λ (x : LauncherIs). x.journal.holder) roomier in
    let opened = c.begin-incarnation.ensures.journal in
    let next = c.begin-incarnation.ensures.is ∙ ap (λ (K : List (Entry LauncherEvent)). begun K s + 1) past in
    let here = ap (λ (j : Launches). j.holder) opened ∙ holds in
    record {
      attempts = attempts_as C w s k J old.crew.family m c.close.result.1 c.close.result.0 next
          (ap (λ (j : Launches). j.past) opened ∙ (λ i. record { worker = holds i; event = event.Begun s (next i) } ∷ past i)) (c.begin-incarnation.ensures.family ∙ ap (λ (x : LauncherIs). x.crew.family) roomier)
          (subst (λ (n : ℕ). Closes C n (launch_of m s k) c.close.result.1 c.close.result.0) here c.close.ensures.closes);
      whole = λ up ended whole.
          let m = c.begin-incarnation.new.self in
          let reserved = closed_roomier g.N.Numbered.site g.N.Numbered.run_seed g.N.Staffed.children up ended c.args.self c.reserve.new.self c.reserve.new.self.journal.room c.reserve.new.self.crew.room c.reserve.ensures.same whole in
          c.close.ensures.whole up ended (way_opens g.N.Numbered.site g.N.Numbered.run_seed g.N.Staffed.children up ended c.reserve.new.self m c.args.service c.begin-incarnation.result c.begin-incarnation.ensures.is c.begin-incarnation.ensures.journal c.begin-incarnation.ensures.list.0
          (record { watch_is = c.begin-incarnation.ensures.list.1; running_is = c.begin-incarnation.ensures.running; family_is = c.begin-incarnation.ensures.family }) reserved);
      holder = c.close.ensures.holder ∙ here;
    }
