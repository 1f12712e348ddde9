-- What a turn enters that one entry opened before its launch.
use Rattle.std.proofs.Common.{◌≡◌, ◌∙◌, ℕ, List, Some, sym, ap, subst}
use Rattle.std.specs.Prelude.{option_to_list}
use Rattle.okws_base.specs.declared.journal.Entry.{Entry}
use Rattle.okws_plan.specs.declared.event.LauncherEvent.{LauncherEvent}
use Rattle.launch_journal.specs.Launches.{entered}
use Rattle.okld_launch.specs.Launchers.{LauncherIs}
use Rattle.okld_launch.specs.Going.{with_entry}
use Rattle.okld_launch.specs.Entering.{Enters}

-- the launcher m, with the journal J of number w, entered e and became n
pub opens : (e x : LauncherEvent) (w : ℕ) (J : List (Entry LauncherEvent)) (m n : LauncherIs) (events : List LauncherEvent) (K : List (Entry LauncherEvent))
    → m.journal.holder ≡ w → m.journal.past ≡ J → x ≡ e → n ≡ record m { journal = entered m.journal e }
    → ((I : List (Entry LauncherEvent)) → Enters n.journal.holder (option_to_list (Some x)) I n.journal.past → Enters n.journal.holder events I K) → Enters w events J K
opens e x w J m n events K holder past is becomes tells =
    let number : n.journal.holder ≡ w = ap (λ (l : LauncherIs). l.journal.holder) becomes ∙ holder in
    let now : n.journal.past ≡ with_entry w e J = ap (λ (l : LauncherIs). l.journal.past) becomes ∙ λ i. with_entry (holder i) e (past i) in
    subst (λ (v : ℕ). Enters v events J K) number (tells J (now ∙ λ i. with_entry (sym number i) (sym is i) J))
