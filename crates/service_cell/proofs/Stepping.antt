-- A step of a cell, from the exchange that it made.
use Rattle.std.proofs.Common.{◌≡◌, ℕ, List, Option, Some, sym, ap, subst}
use Rattle.okws_base.specs.declared.crash.Cause.{Cause}
use Rattle.okws_outer.specs.Wire.{Wire}
use Rattle.monitor_model.specs.declared.record.Item.{Item}
use Rattle.monitor_model.specs.Course.{Speaker}
use Rattle.monitor_model.specs.Seen.{Seen}
use Rattle.std.specs.Prelude.{IsTrue}
use Rattle.service_cell.specs.Asking.{Asker, Drains, IsNextBy}
use Rattle.service_cell.specs.Standing.{Open, Standing, speaker, finished}
use Rattle.std.specs.declared.result.Result.TheVariants.{Err}
use Rattle.okws_base.specs.declared.crash.Cause.TheVariants as cause
use Rattle.frame_codec.specs.declared.frame.ServerFrame.{ServerFrame}
use Rattle.monitor_model.specs.declared.verdict.Push.{Push}
use Rattle.monitor_model.specs.Cell.{incarnation}
use Rattle.monitor_model.specs.Course.{opening}
use Rattle.service_cell.specs.Exchange.{Opens}
use Rattle.service_cell.specs.declared.answer.Begun.TheVariants as begun
use Rattle.service_cell.specs.Steps.{crash_end, Crashes, Steps, StepsOpen, OpeningBreaks, OpensCell}
use Rattle.service_cell.specs.declared.exchange.Exchanged.{Exchanged}
use Rattle.service_cell.specs.declared.exchange.Exchanged.TheVariants as exchanged

steps_open : (who : Asker) (c d : Standing) (o : Open) (dialog : Option Open) (seen now : Seen) (answer : Exchanged) → dialog ≡ Some o → Steps who c o seen answer d now → StepsOpen who c dialog seen answer d now
steps_open who c d o dialog seen now answer is steps = subst (λ (x : Option Open). StepsOpen who c x seen answer d now) (sym is) steps

pub crashed : (who : Asker) (c d : Standing) (n worker : ℕ) (before newest items : List Item) (due : List ℕ) (seen now : Seen) (why : Cause) (old new : Wire) (w : Speaker)
    → c.open_dialog ≡ Some (record { request = n; worker = worker; items = before; newest = newest }) → c.link ≡ Some old → w ≡ speaker c worker → d ≡ finished c worker items (crash_end why) due (Some new)
    → Crashes who.config w (Some old) (Some new) before seen why items due now → StepsOpen who c c.open_dialog seen (exchanged.Crashed why) d now
crashed who c d n worker before newest items due seen now why old new w there link speaks is crashes =
    let o : Open = record { request = n; worker = worker; items = before; newest = newest } in
    let last : d.link ≡ Some new = ap (λ (x : Standing). x.link) is in
    steps_open who c d o c.open_dialog seen now (exchanged.Crashed why) there (items, due, rw (link, last, sym speaks) crashes, subst (λ (l : Option Wire). d ≡ finished c worker items (crash_end why) due l) (sym last) is)

-- what was entered since the board was read
pub next_since : (who asked : Asker) (seen before now : Seen) → asked ≡ who → before ≡ seen → (IsTrue asked.alone → IsNextBy asked.worker before now) → IsTrue who.alone → IsNextBy who.worker seen now
next_since who asked seen before now same stays next = rw (← same, ← stays) next

-- an opening that broke off
pub opening_crashed : (who : Asker) (n : ℕ) (request : ServerFrame) (c d : Standing) (seen now : Seen) (pushes : List Push) (why : Cause) (old new : Wire) (items : List Item) (due : List ℕ)
    → Drains who c.service (incarnation c.past) seen pushes now → c.link ≡ Some old → d ≡ finished c who.worker items (crash_end why) due (Some new) → Opens old (opening pushes request) (Err why) new items due
    → OpensCell who n request c seen (begun.Crashed why) d now
opening_crashed who n request c d seen now pushes why old new items due drains there is opens =
    let last : d.link ≡ Some new = ap (λ (x : Standing). x.link) is in (
      pushes,
      drains,
      items,
      due,
      subst (λ (l : Option Wire). OpeningBreaks why (opening pushes request) items due c.link l) (sym last)
          (subst (λ (l : Option Wire). OpeningBreaks why (opening pushes request) items due l (Some new)) (sym there) (breaks why opens)),
      subst (λ (l : Option Wire). d ≡ finished c who.worker items (crash_end why) due l) (sym last) is,
    )
  where
    breaks : (why : Cause) → Opens old (opening pushes request) (Err why) new items due → OpeningBreaks why (opening pushes request) items due (Some old) (Some new)
    breaks cause.LinkFault opens = opens
    breaks cause.Starved opens = opens
    breaks cause.BadFrame opens = opens
    breaks cause.Ended opens = opens
    breaks cause.FrameLimit opens = opens
