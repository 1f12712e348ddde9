-- How a response goes out, part by part.
use Rattle.std.specs.Prelude.{◌≡◌, ◌≤◌, ℕ, ◌-◌, ◌^◌, min, List, ◌++◌, length, Result, Ok, Err}
use Rattle.std.specs.declared.option.Option.{Option}
use Rattle.std.specs.Io.KnownBytes.{Appends}
use Rattle.okws_outer.specs.Streams.{Rose, AppendsPrefix}
use Rattle.okws_outer.specs.Conns.{ConnWire}
use Rattle.http_front.specs.declared.kept.Kept.{Kept}
use Rattle.http_front.specs.declared.writing.Cut.{Cut}
use Rattle.http_front.specs.declared.writing.Responded.{Responded}
use Rattle.http_front.specs.declared.writing.Responded.TheVariants.{Sent, ConnFault}

-- Nothing was read since the start, and what is kept of the request stays.
pub record Stays (start now : ConnWire) (before kept : Kept) : Type 0 where
  pub left : now.left ≡ start.left
  pub last : now.last ≡ start.last
  pub later : start.faults ≤ now.faults
  pub bytes : kept.bytes.items ≡ before.bytes.items
  pub interim : kept.interim ≡ before.interim
  pub to_head : kept.to_head ≡ before.to_head

-- What is kept of the request is the same.
pub record SameRequest (kept after : Kept) : Type 0 where
  pub bytes : after.bytes.items ≡ kept.bytes.items
  pub interim : after.interim ≡ kept.interim
  pub to_head : after.to_head ≡ kept.to_head

-- A part waits behind what waits.
pub record LetsWait (kept after : Kept) (part : List ℕ) : Type 0 where
  pub waiting : after.waiting.items ≡ kept.waiting.items ++ part
  pub response : after.response ≡ kept.response
  pub request : SameRequest kept after

-- Of the text so far a front was given, whose bytes are counted, and the rest waits. The count stays at its last value once it is there.
pub record Gathered (start now : Option (List ℕ)) (text : List ℕ) (kept : Kept) : Type 0 where
  pub gone : List ℕ
  pub together : text ≡ gone ++ kept.waiting.items
  pub given : Appends start now gone
  pub count : kept.response ≡ min (length gone) (2 ^ 64 - 1)

-- A put failed: a front of the text was given, whose bytes are counted, and the count of faults rose.
pub record IsCut (start now : ConnWire) (text : List ℕ) (written : ℕ) : Type 0 where
  pub part : AppendsPrefix start.given now.given text
  pub count : written ≡ min part.taken (2 ^ 64 - 1)
  pub rose : Rose start.faults now.faults

-- The text so far was given or waits, and no fault was counted; or a front of it was given.
abbrev pub Writes : ConnWire → Kept → List ℕ → ConnWire → Kept → Result (Unit {0}) Cut → Type 0
Writes start before text now kept (Ok done) = Stays start now before kept × Gathered start.given now.given text kept × (now.faults ≡ start.faults)
Writes start before text now kept (Err cut) = Stays start now before kept × IsCut start now text kept.response

-- All of the text was given, and no fault was counted; or, where the connection failed, a front of it.
abbrev pub Given : ConnWire → ConnWire → List ℕ → ℕ → Responded → Type 0
Given start now text written Sent = Appends start.given now.given text × (written ≡ min (length text) (2 ^ 64 - 1)) × (now.faults ≡ start.faults)
Given start now text written ConnFault = IsCut start now text written

-- What a response does.
pub record Responds (start now : ConnWire) (before kept : Kept) (text : List ℕ) (responded : Responded) : Type 0 where
  pub stays : Stays start now before kept
  pub given : Given start now text kept.response responded
