-- What is kept of a connection.
use Rattle.std.specs.Prelude.{◌≡◌, ℕ, Bool, false, List, [], codes, if◌then◌else◌}
use Rattle.http_front.specs.declared.kept.Kept.{Kept}

-- The method by which a response goes.
abbrev pub method_text : Bool → List ℕ
method_text to_head = if to_head then codes "HEAD" else codes "GET"

-- Nothing was read or written.
pub record IsFresh (kept : Kept) : Type 0 where
  pub bytes : kept.bytes.items ≡ []
  pub interim : kept.interim ≡ 0
  pub response : kept.response ≡ 0
  pub to_head : kept.to_head ≡ false
  pub waiting : kept.waiting.items ≡ []
