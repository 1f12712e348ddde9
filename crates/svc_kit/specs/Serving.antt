-- What the calls of a service do to its link.
use Rattle.std.specs.Prelude.{◌≡◌, ℕ, List, [], ◌∷◌, ◌==◌, if◌then◌else◌}
use Rattle.std.specs.declared.option.Option.{Option}
use Rattle.std.specs.declared.option.Option.TheVariants.{Some, None}
use Rattle.std.specs.declared.result.Result.{Result}
use Rattle.std.specs.declared.result.Result.TheVariants.{Ok, Err}
use Rattle.okws_base.specs.declared.value.Token.{Token}
use Rattle.okws_outer.specs.Wire.{Wire}
use Rattle.frame_codec.specs.declared.frame.Issued.{Issued}
use Rattle.frame_codec.specs.declared.frame.ServerFrame.{ServerFrame}
use Rattle.frame_codec.specs.declared.frame.ServerFrame.TheVariants as server
use Rattle.frame_codec.specs.declared.frame.ServiceFrame.{ServiceFrame}
use Rattle.frame_codec.specs.declared.frame.ServiceFrame.TheVariants.{Open}
use Rattle.svc_kit.specs.declared.answer.Answer.{Answer}
use Rattle.svc_kit.specs.declared.answer.Session.{Session}
use Rattle.svc_kit.specs.declared.calling.Event.{Event}
use Rattle.svc_kit.specs.declared.service.Booting.{Booting}
use Rattle.svc_kit.specs.declared.service.Booting.TheVariants.{Booted, Stopped}
use Rattle.svc_kit.specs.declared.stop.Stop.{Stop}
use Rattle.svc_kit.specs.Asking.{IsHeard, Asks}
use Rattle.svc_kit.specs.Telling.{IsSeen, IsEvent, IsTold, IsAt, opened_frame}

-- The first token that was issued for the proxy.
abbrev pub token_of : ℕ → List Issued → Option Token
token_of proxy [] = None
token_of proxy (issued ∷ more) = if issued.proxy == proxy then Some issued.token else token_of proxy more

-- The frame was put, its one answer was taken, and the answer is told.
pub record Calls {T : Type 0} (given : T → ServerFrame) (old : Wire) (frame : ServiceFrame) (result : Result (Answer T) Stop) (new : Wire) : Type 0 where
  pub heard : Result ServerFrame Stop
  pub asks : Asks old frame heard new
  pub told : IsTold given heard result

-- The answer, where there is one.
abbrev pub answered : Result (Answer Session) Stop → Result (Option (Answer Session)) Stop
answered (Ok answer) = Ok (Some answer)
answered (Err stop) = Err stop

-- Where there is a token the proxy was asked for a session by it, and else nothing was put or taken.
abbrev pub Opens : Wire → ℕ → Option Token → Result (Option (Answer Session)) Stop → Wire → Type 0
Opens old proxy None result new = (result ≡ Ok None) × (new ≡ old)
Opens old proxy (Some token) result new = (answer : Result (Answer Session) Stop) × Calls opened_frame old (Open proxy token) answer new × IsAt proxy answer × (result ≡ answered answer)

-- The next frame was taken, and the event is that frame.
pub record Waits (old : Wire) (result : Result Event Stop) (new : Wire) : Type 0 where
  pub heard : Result ServerFrame Stop
  pub hears : IsHeard old heard new
  pub told : IsEvent heard result

-- The link that is left.
abbrev pub link_of : {L : Type 0} → Booting L → L
link_of (Booted service) = service.link
link_of (Stopped stop link) = link

-- What a Boot tells.
pub record Told : Type 0 where
  pub service : ℕ
  pub incarnation : ℕ
  pub tokens : List Issued

-- The Boot that tells it.
abbrev pub told_frame : Told → ServerFrame
told_frame told = server.Boot told.service told.incarnation told.tokens

-- What booting told.
abbrev pub told_by : {L : Type 0} → Booting L → Result Told Stop
told_by (Booted service) = Ok (record { service = service.number; incarnation = service.incarnation; tokens = service.tokens })
told_by (Stopped stop link) = Err stop

-- The next frame was taken; it is the Boot that the service knows, or the service stopped.
pub record Boots {L : Type 0} (wire : L → Wire) (old : Wire) (booting : Booting L) : Type 0 where
  pub heard : Result ServerFrame Stop
  pub hears : IsHeard old heard (wire (link_of booting))
  pub told : IsSeen told_frame heard (told_by booting)
