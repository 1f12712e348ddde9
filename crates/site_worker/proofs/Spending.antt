-- What a worker does at a door: to its life, and to its spare places.
use Rattle.std.proofs.Common.{◌≡◌, ℕ, ◌≤◌, ◌+◌, true, false, ap, arith}
use Rattle.std.specs.Prelude.{Result, Ok, Err, OnOk, OnErr}
use Rattle.std.specs.Result.{is_err}
use Rattle.okws_plan.specs.declared.configuration.Config.{Config}
use Rattle.okws_outer.specs.Conns.{ConnWire}
use Rattle.okws_outer.specs.Doors.{Entrance}
use Rattle.http_front.specs.declared.kept.Kept.{Kept}
use Rattle.http_front.specs.Replies.{Replied}
use Rattle.door_worker.specs.Serving.{Course, Attends, IsHandled, Serves, ServesOne, Handled, Refused, Starved, Broken}
use Rattle.door_worker.specs.declared.serving.Serving.{Serving}
use Rattle.door_worker.specs.declared.serving.Serving.TheVariants as serving
use Rattle.site_worker.specs.Lives.{Working, Starves}
use Rattle.site_worker.specs.Handling.{Handles, HandlesBy, StarvesBy}
use Rattle.site_worker.specs.declared.worker.TheConstants.{TURN_ITEMS, ROUND_ITEMS}

-- what holds after an outcome that is known
pub ok_of : {A X : Type 0} (r : Result A X) (P : Type 0) → is_err r ≡ false → OnOk r P → P
ok_of (Ok v) P e h = h
ok_of (Err x) P e h = absurd (let no : true ≡ false = e in cc)

pub err_of : {A X : Type 0} (r : Result A X) (P : Type 0) → is_err r ≡ true → OnErr r P → P
err_of (Ok v) P e h = absurd (let no : false ≡ true = e in cc)
err_of (Err x) P e h = h

module _ (C : Config) (n : ℕ) (J K : Working) where
  life_same : K ≡ J → K.life ≡ J.life
  life_same e = ap (λ (x : Working). x.life) e

  handled_life : (course : Course) (reply : Replied) → IsHandled (HandlesBy C n) StarvesBy J course reply K → IsHandled (Handles C n) Starves J.life course reply K.life
  handled_life (Handled asked became) reply h = h.0
  handled_life (Refused status) reply h = life_same h
  handled_life Starved reply h = h.0
  handled_life Broken reply h = life_same h

  spends_none : K ≡ J → J.spare ≤ K.spare + TURN_ITEMS
  spends_none e = let same : K.spare ≡ J.spare = ap (λ (x : Working). x.spare) e in omega arith

  handled_spends : (course : Course) (reply : Replied) → IsHandled (HandlesBy C n) StarvesBy J course reply K → J.spare ≤ K.spare + TURN_ITEMS
  handled_spends (Handled asked became) reply h = h.1
  handled_spends (Refused status) reply h = spends_none h
  handled_spends Starved reply h = h.1
  handled_spends Broken reply h = spends_none h

  attends_life : (begun ended : ConnWire) (kept : Kept) (reply : Replied) (what : Serving) → Attends (HandlesBy C n) StarvesBy begun ended J K kept reply what → Attends (Handles C n) Starves begun ended J.life K.life kept reply what
  attends_life begun ended kept reply what h = record {
    course = h.course;
    interim = h.interim;
    method = h.method;
    written = h.written;
    taken = h.taken;
    prompt = h.prompt;
    given = h.given;
    is = h.is;
    handled = handled_life h.course reply h.handled;
    interim_is = h.interim_is;
    method_is = h.method_is;
    written_is = h.written_is;
    told = h.told;
  }

  module _ {X : Type 0} (wire : X → ConnWire) (e f : Entrance) (kept : Kept) (reply : Replied) where
    one_life : (what : Serving) → ServesOne wire (HandlesBy C n) StarvesBy e f J K kept reply what → ServesOne wire (Handles C n) Starves e f J.life K.life kept reply what
    one_life what h = record { begun = h.begun; ended = h.ended; finishes = h.finishes; attends = attends_life h.begun h.ended kept reply what h.attends; rose = h.rose }

    -- to its life
    pub serves_life : (what : Serving) → Serves wire (HandlesBy C n) StarvesBy e f J K kept reply what → Serves wire (Handles C n) Starves e f J.life K.life kept reply what
    serves_life (serving.Served a) h = one_life (serving.Served a) h
    serves_life (serving.ConnFault a) h = one_life (serving.ConnFault a) h
    serves_life serving.NoConn h = (h.0, life_same h.1)
    serves_life serving.NoneCame h = (h.0, life_same h.1)
    serves_life serving.NoMemory h = (h.0, life_same h.1)

    serves_spends : (what : Serving) → Serves wire (HandlesBy C n) StarvesBy e f J K kept reply what → J.spare ≤ K.spare + TURN_ITEMS
    serves_spends (serving.Served a) h = handled_spends h.attends.course reply h.attends.handled
    serves_spends (serving.ConnFault a) h = handled_spends h.attends.course reply h.attends.handled
    serves_spends serving.NoConn h = spends_none h.1
    serves_spends serving.NoneCame h = spends_none h.1
    serves_spends serving.NoMemory h = spends_none h.1

    -- of a round's places those of a turn are left
    pub serves_leaves : (what : Serving) → J.spare ≡ ROUND_ITEMS → Serves wire (HandlesBy C n) StarvesBy e f J K kept reply what → TURN_ITEMS ≤ K.spare
    serves_leaves what places h = let most = serves_spends what h in omega arith
