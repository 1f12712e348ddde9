-- A request, as it is handed to what stands behind a door.
use Rattle.std.specs.Prelude.{ℕ, List}
use Rattle.http_front.specs.Requests.{path_text}
use Rattle.http_front.specs.declared.reading.Request.{Request}

-- A request: its method, the path of its target, its head with the empty line, and its content.
pub record Asked : Type 0 where
  pub method : List ℕ
  pub path : List ℕ
  pub head : List ℕ
  pub content : List ℕ

-- What a request asks.
abbrev pub asked_by : Request → Asked
asked_by r = record { method = r.method.now; path = path_text r; head = r.head; content = r.content }
