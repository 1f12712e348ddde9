-- A launcher in which a crash was entered.
use Rattle.std.proofs.Common.{◌≡◌, ◌∙◌, ℕ, ◌≤◌, List, ap, arith}
use Rattle.okws_base.specs.declared.journal.Entry.{Entry}
use Rattle.okws_plan.specs.declared.event.LauncherEvent.{LauncherEvent}
use Rattle.okws_plan.specs.declared.event.LauncherEvent.TheVariants as event
use Rattle.monitor_model.specs.Launcher.{begun}
use Rattle.launch_journal.specs.Launches.{entered}
use Rattle.okld_launch.specs.Going.{with_entry}
use Rattle.okld_launch.specs.Launchers.{LauncherIs}

-- the crash of incarnation k of s was entered
pub record CrashOpens (s k : ℕ) (old opened : LauncherIs) : Type 0 where
  pub holder : opened.journal.holder ≡ old.journal.holder
  pub past : opened.journal.past ≡ with_entry old.journal.holder (event.Crashed s k) old.journal.past
  pub family : opened.crew.family ≡ old.crew.family

pub crash_opens : (s k : ℕ) (old roomy opened : LauncherIs) → roomy ≡ record old { journal = record old.journal { room = roomy.journal.room } } → opened ≡ record roomy { journal = entered roomy.journal (event.Crashed s k) } → CrashOpens s k old opened
crash_opens s k old roomy opened rooms opens =
    let number : roomy.journal.holder ≡ old.journal.holder = ap (λ (l : LauncherIs). l.journal.holder) rooms in
    let before : roomy.journal.past ≡ old.journal.past = ap (λ (l : LauncherIs). l.journal.past) rooms in
    record {
      holder = ap (λ (l : LauncherIs). l.journal.holder) opens ∙ number;
      past = ap (λ (l : LauncherIs). l.journal.past) opens ∙ λ i. with_entry (number i) (event.Crashed s k) (before i);
      family = ap (λ (l : LauncherIs). l.crew.family) opens ∙ ap (λ (l : LauncherIs). l.crew.family) rooms;
    }

-- it is the greatest, where it isn't below that
pub greatest_here : (s k greatest : ℕ) (old opened : LauncherIs) → CrashOpens s k old opened → k ≤ begun old.journal.past s → greatest ≡ begun opened.journal.past s → greatest ≤ k → k ≡ begun old.journal.past s
greatest_here s k greatest old opened o most is low =
    let here : greatest ≡ begun old.journal.past s = is ∙ ap (λ (J : List (Entry LauncherEvent)). begun J s) o.past in
    omega (arith, here, low, most)
