-- The state of a script's run: what the one thread has made, its cells with their links, and its requests.
use Rattle.std.specs.Prelude.{ℕ, zero, suc, Bool, true, false, List, [], ◌∷◌, ◌++◌, Option, None, length, replicate, slice_index_or, slice_set, codes, decimal}
use Rattle.okws_plan.specs.Configuration.{service_name}
use Rattle.okws_plan.specs.declared.configuration.Config.{Config}
use Rattle.okws_plan.specs.declared.script.Method.{Method}
use Rattle.okws_plan.specs.declared.script.Method.TheVariants.{Get, Head, Post}
use Rattle.frame_codec.specs.Spelling.{server_spelling}
use Rattle.frame_codec.specs.declared.frame.ServerFrame.{ServerFrame}
use Rattle.monitor_model.specs.declared.record.CellEvent.{CellEvent}
use Rattle.monitor_model.specs.declared.record.Item.{Item}
use Rattle.monitor_model.specs.declared.record.Own.{Own}
use Rattle.plain_text.specs.Hexadecimal.{hex, escaped}
use Rattle.monitor_model.specs.Seen.{Seen, noted}

-- A dialog that is open: the request's number, and the items so far, the newest first.
pub record Opened : Type 0 where
  pub request : ℕ
  pub items : List Item

-- A cell: its journal, the bytes left on its link, whether the service's bytes ended, and its open dialog.
pub record Stand : Type 0 where
  pub past : List CellEvent
  pub left : List ℕ
  pub has_ended : Bool
  pub open_dialog : Option Opened

-- A request: its method, head and content, to which incarnation it goes, if to any, and whether its dialog was begun.
pub record Asked : Type 0 where
  pub method : Method
  pub head : List ℕ
  pub content : List ℕ
  pub goes : Option (ℕ × ℕ)
  pub has_begun : Bool

-- What was made so far, each cell, and the requests, the oldest first.
pub record Stage : Type 0 where
  pub seen : Seen
  pub stands : List Stand
  pub requests : List Asked

-- A cell at which nothing happened.
abbrev pub empty_stand : Stand
empty_stand = record { past = []; left = []; has_ended = false; open_dialog = None }

-- Before the first line nothing was made.
abbrev pub first_stage : Config → Stage
first_stage C = record {
  seen = record { okd = []; proxies = replicate (length C.proxies) []; pubd = []; oklogd = []; launcher = []; own = [] };
  stands = replicate (length C.services) empty_stand;
  requests = [];
}

-- The cell of s.
abbrev pub stand : Stage → ℕ → Stand
stand S s = slice_index_or S.stands s empty_stand

-- The cell of s changes, with an item of the run's list.
abbrev pub with_stand : Stage → ℕ → Stand → Stage
with_stand S s now = record S { stands = slice_set S.stands s now }

-- What was made changes.
abbrev pub with_seen : Stage → Seen → Stage
with_seen S now = record S { seen = now }

-- An item of the run's list that is no entry.
abbrev pub with_item : Stage → Own → Stage
with_item S item = record S { seen = noted S.seen item }

-- The requests, with request n marked as begun.
abbrev pub marked_begun : ℕ → List Asked → List Asked
marked_begun n [] = []
marked_begun zero (asked ∷ more) = record asked { has_begun = true } ∷ more
marked_begun (suc n) (asked ∷ more) = asked ∷ marked_begun n more

-- The word of a method.
abbrev pub method_text : Method → List ℕ
method_text Get = codes "GET"
method_text Head = codes "HEAD"
method_text Post = codes "POST"

-- The field that tells the length of a content, where it has one.
abbrev pub length_line : List ℕ → List ℕ
length_line [] = []
length_line (b ∷ more) = codes "Content-Length: " ++ decimal (length (b ∷ more)) ++ 13 ∷ 10 ∷ []

-- The head of a request: `METHOD TARGET HTTP/1.1`, `Host: localhost`, and `Content-Length: N` where N is above 0, each ended by CR LF, then an empty line.
unfoldable pub request_head : Method → List ℕ → List ℕ → List ℕ
request_head method target content =
    method_text method ++ 32 ∷ target ++ codes " HTTP/1.1" ++ 13 ∷ 10 ∷ codes "Host: localhost" ++ 13 ∷ 10 ∷ length_line content ++ 13 ∷ 10 ∷ []

-- `heard SERVICE K HEX` and LF, for a frame put on a link.
abbrev pub heard_line : Config → ℕ → ℕ → ServerFrame → List ℕ
heard_line C s k frame = codes "heard " ++ service_name C s ++ 32 ∷ decimal k ++ 32 ∷ hex (server_spelling frame) ++ 10 ∷ []

-- `answer N TEXT` and LF, for a response, escaped.
abbrev pub answer_line : ℕ → List ℕ → List ℕ
answer_line n text = codes "answer " ++ decimal n ++ 32 ∷ escaped text ++ 10 ∷ []
