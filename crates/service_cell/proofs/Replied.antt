-- A dialog that has its Reply beside its items ended in it.
use Rattle.std.proofs.Common.{◌≡◌, ℕ, List, Option, Some, None, refl, sym, subst, option_copied, MatchOption, Bor}
use Rattle.frame_codec.specs.declared.frame.ServiceFrame.{ServiceFrame}
use Rattle.monitor_model.specs.declared.record.Dialog.{Dialog}
use Rattle.monitor_model.specs.declared.record.End.{End}
use Rattle.monitor_model.specs.declared.record.Item.{Item}
use Rattle.service_cell.specs.Ending.{EndsIn, FitsEnd, HasNoReply, with_reply}

pub ends_so : (worker room : ℕ) (beside : Option ServiceFrame) (shown : Option (Bor ServiceFrame)) (items : List Item) (how : End) (due : List ℕ) (d : Dialog) → option_copied shown ≡ beside → FitsEnd beside room how
    → record { worker = worker; items = with_reply beside items; end = how; due = due } ≡ d → MatchOption shown (HasNoReply d.end) (λ reply. EndsIn reply.now d)
ends_so worker room beside None items how due d is fits seen =
    subst (λ (x : Dialog). HasNoReply x.end) seen (subst (λ (o : Option ServiceFrame). FitsEnd o room how) (sym is) fits)
ends_so worker room beside (Some reply) items how due d is fits seen =
    let there : FitsEnd (Some reply.now) room how = subst (λ (o : Option ServiceFrame). FitsEnd o room how) (sym is) fits in
    subst (λ (x : Dialog). EndsIn reply.now x) seen
    (subst (λ (o : Option ServiceFrame). EndsIn reply.now (record { worker = worker; items = with_reply o items; end = how; due = due })) is (there.0, there.2, items, refl))
