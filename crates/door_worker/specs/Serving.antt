-- What is done for one connection of a door.
use Rattle.std.specs.Prelude.{◌≡◌, ◌⊎◌, ℕ, ◌^◌, ◌-◌, min, List, [], ◌∷◌, ◌++◌, length, take, Option, Some, None}
use Rattle.std.specs.Io.KnownBytes.{Appends, Consumes, IsAtEnd}
use Rattle.okws_outer.specs.Streams.{Rose, counted}
use Rattle.okws_outer.specs.Conns.{ConnWire}
use Rattle.okws_outer.specs.Doors.{Entrance, Accepts, Refuses as RefusesEntry}
use Rattle.http_text.specs.Response.{own_response}
use Rattle.http_text.specs.Reading.{IsReading, IsInterim, IsMethod}
use Rattle.http_text.specs.Reading.{Asks, Refuses, Unsettled}
use Rattle.http_front.specs.Kept.{method_text}
use Rattle.http_front.specs.Pulling.{IsReadPromptly}
use Rattle.http_front.specs.Writing.{Responds}
use Rattle.http_front.specs.declared.kept.Kept.{Kept}
use Rattle.http_front.specs.declared.writing.Responded.TheVariants as responded
use Rattle.http_front.specs.Replies.{Replied}
use Rattle.door_worker.specs.Asking.{Asked}
use Rattle.door_worker.specs.Responses.{outcome_response, answer_response, answer_of}
use Rattle.door_worker.specs.declared.handler.Outcome.{Outcome}
use Rattle.door_worker.specs.declared.answer.Answer.{Answer}
use Rattle.door_worker.specs.declared.answer.Answer.TheVariants as answer
use Rattle.door_worker.specs.declared.serving.Serving.{Serving}
use Rattle.door_worker.specs.declared.serving.Serving.TheVariants.{Served, ConnFault, NoConn, NoneCame, NoMemory}

-- What came of a connection: a request that was handled, of which this became; a status that refuses its bytes; memory was refused before a request was whole; or the connection failed before.
pub data Course : Type 0 where
  Handled : (asked : Asked) → (outcome : Outcome) → Course
  Refused : (status : ℕ) → Course
  Starved : Course
  Broken : Course

-- That the bytes that were read tell so, and these are left: a request or a status is their reading, and what they don't settle is refused by 400 where no more come.
abbrev pub IsRead : List ℕ → Option (List ℕ) → Course → Type 0
IsRead read left (Handled asked outcome) = IsReading read (Asks asked.method asked.path asked.head asked.content)
IsRead read left (Refused status) = IsReading read (Refuses status) ⊎ (IsReading read Unsettled × IsAtEnd left × (status ≡ 400))
IsRead read left Starved = Unit {0}
IsRead read left Broken = Unit {0}

-- What was done behind the door for a connection: a request was handled, want of memory was noted, else nothing.
abbrev pub IsHandled : {S : Type 0} → (S → Asked → Outcome → Replied → S → Type 0) → (S → S → Type 0) → S → Course → Replied → S → Type 0
IsHandled handles starves J (Handled asked outcome) reply now = handles J asked outcome reply now
IsHandled handles starves J (Refused status) reply now = now ≡ J
IsHandled handles starves J Starved reply now = starves J now
IsHandled handles starves J Broken reply now = now ≡ J

-- The response that is due: to a request that of what became of it; of a status its own; 507 where memory was refused; and none where the connection failed before.
abbrev pub due_response : Course → Replied → List ℕ → List ℕ
due_response (Handled asked outcome) reply method = outcome_response outcome reply method
due_response (Refused status) reply method = own_response status method
due_response Starved reply method = own_response 507 method
due_response Broken reply method = []

-- The answer that is due, if any.
abbrev pub due_answer : Course → Option Answer
due_answer (Handled asked outcome) = Some (answer_of outcome)
due_answer (Refused status) = Some (answer.Own status)
due_answer Starved = Some (answer.Own 507)
due_answer Broken = None

-- What is told of a connection: what was answered, if anything; that it was cut exactly where its count of faults rose.
abbrev pub IsTold : Course → ℕ → ℕ → Serving → Type 0
IsTold course before now (Served a) = (due_answer course ≡ Some a) × (now ≡ before)
IsTold course before now (ConnFault a) = (due_answer course ≡ a) × Rose before now
IsTold course before now NoConn = ⊥
IsTold course before now NoneCame = ⊥
IsTold course before now NoMemory = ⊥

-- All of it was written, unless the connection was cut.
abbrev pub IsWhole : List ℕ → Serving → Type 0
IsWhole rest (Served a) = rest ≡ []
IsWhole rest (ConnFault a) = Unit {0}
IsWhole rest NoConn = ⊥
IsWhole rest NoneCame = ⊥
IsWhole rest NoMemory = ⊥

-- An answer was written, and this is told of it.
abbrev pub IsAnswered : ConnWire → ConnWire → Kept → Kept → Replied → Answer → Serving → Type 0
IsAnswered old new before kept reply a (Served b) = (b ≡ a) × Responds old new before kept (answer_response a reply (method_text before.to_head)) responded.Sent
IsAnswered old new before kept reply a (ConnFault b) = (b ≡ Some a) × Responds old new before kept (answer_response a reply (method_text before.to_head)) responded.ConnFault
IsAnswered old new before kept reply a NoConn = ⊥
IsAnswered old new before kept reply a NoneCame = ⊥
IsAnswered old new before kept reply a NoMemory = ⊥

-- What was written on a connection: the interim response and the response, or a front of them; and how many bytes of each, as it is kept. The count of the response stays at its last value once it is there.
pub record IsWritten (kept : Kept) (interim text written : List ℕ) (serving : Serving) : Type 0 where
  pub front : List ℕ
  pub rest : List ℕ
  pub written_is : written ≡ take kept.interim interim ++ front
  pub due : interim ++ text ≡ written ++ rest
  pub whole : IsWhole rest serving
  pub count : kept.response ≡ min (length front) (2 ^ 64 - 1)

-- What became of a connection from its beginning to its end: by its bytes that were read, what came of it; what was done behind the door, from what was done before to what was done then; and what was written on it. What was read and how much was written is kept; nothing was read once the bytes were settled.
pub record Attends {S : Type 0} (handles : S → Asked → Outcome → Replied → S → Type 0) (starves : S → S → Type 0) (begun ended : ConnWire) (J now : S) (kept : Kept) (reply : Replied) (serving : Serving) : Type 0 where
  pub course : Course
  pub interim : List ℕ
  pub method : List ℕ
  pub written : List ℕ
  pub taken : Consumes begun.left ended.left kept.bytes.items
  pub prompt : IsReadPromptly kept.bytes.items
  pub given : Appends begun.given ended.given written
  pub is : IsRead kept.bytes.items ended.left course
  pub handled : IsHandled handles starves J course reply now
  pub interim_is : IsInterim kept.bytes.items interim
  pub method_is : IsMethod kept.bytes.items method
  pub written_is : IsWritten kept interim (due_response course reply method) written serving
  pub told : IsTold course begun.faults ended.faults serving

-- One connection was accepted and is finished, whose faults the door's count takes in; and nothing else happened at the door.
pub record Finishes {C : Type 0} (wire : C → ConnWire) (old new : Entrance) (begun ended : ConnWire) : Type 0 where
  pub conn : C
  pub conn_is : begun ≡ wire conn
  pub accepted : Accepts old (record old { out = Some begun.left }) begun
  pub finished : new ≡ record {
    out = None;
    finished = record { came = begun.left; left = ended.left; given = ended.given; faults = ended.faults } ∷ old.finished;
    faults = counted old.faults ended.faults;
  }

-- This holds where the connection was cut.
abbrev pub WhereCut : Serving → Type 0 → Type 0
WhereCut (Served a) fact = Unit {0}
WhereCut (ConnFault a) fact = fact
WhereCut NoConn fact = Unit {0}
WhereCut NoneCame fact = Unit {0}
WhereCut NoMemory fact = Unit {0}

-- One connection of the door, whole or cut; the door's count rose where it was cut.
pub record ServesOne {C S : Type 0} (wire : C → ConnWire) (handles : S → Asked → Outcome → Replied → S → Type 0) (starves : S → S → Type 0) (old new : Entrance) (J now : S) (kept : Kept) (reply : Replied) (serving : Serving) : Type 0 where
  pub begun : ConnWire
  pub ended : ConnWire
  pub finishes : Finishes wire old new begun ended
  pub attends : Attends handles starves begun ended J now kept reply serving
  pub rose : WhereCut serving (Rose old.faults new.faults)

-- What serving a door answers. NoConn: the accept failed and was counted. NoneCame and NoMemory: nothing changed, and no connection was accepted.
abbrev pub Serves : {C S : Type 0} → (C → ConnWire) → (S → Asked → Outcome → Replied → S → Type 0) → (S → S → Type 0) → Entrance → Entrance → S → S → Kept → Replied → Serving → Type 0
Serves wire handles starves old new J now kept reply (Served a) = ServesOne wire handles starves old new J now kept reply (Served a)
Serves wire handles starves old new J now kept reply (ConnFault a) = ServesOne wire handles starves old new J now kept reply (ConnFault a)
Serves wire handles starves old new J now kept reply NoConn = RefusesEntry old new × (now ≡ J)
Serves wire handles starves old new J now kept reply NoneCame = (new ≡ old) × (now ≡ J)
Serves wire handles starves old new J now kept reply NoMemory = (new ≡ old) × (now ≡ J)
