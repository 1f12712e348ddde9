-- What a service replied.
use Rattle.std.specs.Prelude.{◌≤◌, ℕ, List, [], IsSome}
use Rattle.okws_base.specs.declared.limit.TheConstants.{LONGEST_FRAME}
use Rattle.http_text.specs.Status.{phrase}

-- The parts of a Reply; an empty Location is none.
pub record Replied : Type 0 where
  pub status : ℕ
  pub content_type : List ℕ
  pub location : List ℕ
  pub content : List ℕ

-- Nothing was replied yet.
abbrev pub no_reply : Replied
no_reply = record { status = 200; content_type = []; location = []; content = [] }

-- The status has a phrase, and there is room for the longest parts that a Reply may have.
pub record IsRoomy (status content_type location content : ℕ) : Type 0 where
  pub phrased : IsSome (phrase status)
  pub content_type_room : 255 ≤ content_type
  pub location_room : 255 ≤ location
  pub content_room : LONGEST_FRAME ≤ content
