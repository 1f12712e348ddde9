-- What a worker does at its post, once.
use Rattle.std.proofs.Common.{◌≡◌, ℕ, List, sym, subst}
use Rattle.std.proofs.lemmas.Bool.{true≢false}
use Rattle.std.specs.Prelude.{Some, None, IsSome, IsNone, slice_index}
use Rattle.std.specs.declared.option.Option.{Option}
use Rattle.turn_lock.specs.BoardSeats.{MayDraw}
use Rattle.okws_outer.specs.Conns.{ConnWire}
use Rattle.okws_plan.specs.declared.configuration.Config.{Config}
use Rattle.site_worker.specs.declared.door.Attended.{Attended}
use Rattle.okws_serve.specs.Posts.{DoorIs, ConsoleIs, IsCalm, IsFresh, AttendedBy, AttendedIf, OverseenBy, OverseenIf}
use Rattle.okws_serve.specs.declared.outfit.Ending.{Ending}
use Rattle.site_worker.specs.declared.door.TheConstants.{STOPPED}

-- before a door is attended, its worker may draw
pub may_draw : (o : Option Attended) (drawn : List ℕ) → IsNone o → IsFresh o drawn → MayDraw drawn
may_draw None drawn i f = subst MayDraw (sym f) tt
may_draw (Some a) drawn i f = absurd (true≢false i)

-- and no stop is shown before the console is overseen
pub is_calm : (o : Option Ending) (seen : List ℕ) → IsNone o → IsCalm o seen → slice_index seen STOPPED ≡ 0
is_calm None seen i h = h
is_calm (Some e) seen i h = absurd (true≢false i)
