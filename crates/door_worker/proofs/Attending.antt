-- How what was read and what was written of a connection become what came of it.
use Rattle.std.proofs.Common.{◌≡◌, ◌≤◌, ℕ, ◌^◌, ◌-◌, min, List, [], ◌++◌, length, take, drop, refl, sym, ap, ◌∙◌, subst, arith, append_assoc, append-nil, Some, None}
use Rattle.std.specs.declared.option.Option.{Option}
use Rattle.std.specs.Io.KnownBytes.{Appends, Consumes}
use Rattle.std.proofs.KnownBytes.{Appends-trans}
use Rattle.std.proofs.Math.Seq.{take-length}
use Rattle.std.proofs.lemmas.List.{length-take-le, take-append-drop}
use Rattle.okws_outer.specs.Streams.{Rose, counted}
use Rattle.okws_outer.specs.Conns.{ConnWire}
use Rattle.okws_outer.specs.Doors.{Entrance, Accepts, with_finished}
use Rattle.http_text.specs.Reading.{IsInterim, IsMethod}
use Rattle.http_front.specs.Kept.{method_text}
use Rattle.http_front.specs.Pulling.{IsReadPromptly}
use Rattle.http_front.specs.Requests.{Receives}
use Rattle.http_front.specs.Writing.{Responds}
use Rattle.http_front.specs.declared.kept.Kept.{Kept}
use Rattle.http_front.specs.declared.reading.Incoming.{Incoming}
use Rattle.http_front.specs.declared.reading.Incoming.TheVariants as incoming
use Rattle.http_front.specs.declared.writing.Responded.TheVariants as responded
use Rattle.http_front.specs.Replies.{Replied}
use Rattle.door_worker.specs.Asking.{Asked}
use Rattle.door_worker.specs.Responses.{answer_response}
use Rattle.door_worker.specs.Serving.{Course, Broken, IsRead, IsHandled, IsAnswered, IsWritten, due_response, due_answer, Attends, Finishes, Serves}
use Rattle.door_worker.specs.declared.handler.Outcome.{Outcome}
use Rattle.door_worker.specs.declared.answer.Answer.{Answer}
use Rattle.door_worker.specs.declared.serving.Serving.{Serving}
use Rattle.door_worker.specs.declared.serving.Serving.TheVariants.{Served, ConnFault, NoConn, NoneCame, NoMemory}

-- What a reading leaves that didn't fail: the interim response was given whole.
pub record Ready (begun mid : ConnWire) (kept : Kept) : Type 0 where
  pub interim : List ℕ
  pub is : IsInterim kept.bytes.items interim
  pub method : IsMethod kept.bytes.items (method_text kept.to_head)
  pub taken : Consumes begun.left mid.left kept.bytes.items
  pub prompt : IsReadPromptly kept.bytes.items
  pub given : Appends begun.given mid.given interim
  pub count : kept.interim ≡ length interim
  pub later : begun.faults ≤ mid.faults
  pub still : mid.faults ≡ begun.faults

pub ready : (begun mid : ConnWire) (kept : Kept) (came : Incoming) → Receives begun mid kept came → (came ≡ incoming.ConnFault → ⊥) → Ready begun mid kept
ready begun mid kept came r sound =
    let whole : kept.interim ≡ length r.interim.text = r.interim.whole sound in
    let all : take kept.interim r.interim.text ≡ r.interim.text = ap (λ (n : ℕ). take n r.interim.text) whole ∙ take-length r.interim.text in
    record {
      interim = r.interim.text;
      is = r.interim.is;
      method = r.method;
      taken = r.reads.taken;
      prompt = λ some. let p = r.reads.prompt some in (p.0, p.2);
      given = subst (λ (t : List ℕ). Appends begun.given mid.given t) all r.interim.given;
      count = whole;
      later = r.reads.later;
      still = r.still sound;
    }

-- ---- what was written

written_whole : (kept after : Kept) (interim text : List ℕ) (a : Answer) → kept.interim ≡ length interim → after.interim ≡ kept.interim → after.response ≡ min (length text) (2 ^ 64 - 1) → IsWritten after interim text (interim ++ text) (Served a)
written_whole kept after interim text a count same response =
    let all : take after.interim interim ≡ interim = ap (λ (n : ℕ). take n interim) (same ∙ count) ∙ take-length interim in
    record {
      front = text;
      rest = [];
      written_is = sym (ap (λ (t : List ℕ). t ++ text) all);
      due = sym (append-nil (interim ++ text));
      whole = refl;
      count = response;
    }

written_cut : (kept after : Kept) (interim text : List ℕ) (n : ℕ) (a : Option Answer) → kept.interim ≡ length interim → after.interim ≡ kept.interim → n ≤ length text → after.response ≡ min n (2 ^ 64 - 1) → IsWritten after interim text (interim ++ take n text) (ConnFault a)
written_cut kept after interim text n a count same le response =
    let all : take after.interim interim ≡ interim = ap (λ (m : ℕ). take m interim) (same ∙ count) ∙ take-length interim in
    record {
      front = take n text;
      rest = drop n text;
      written_is = sym (ap (λ (t : List ℕ). t ++ take n text) all);
      due = ap (λ (t : List ℕ). interim ++ t) (sym (take-append-drop n text)) ∙ sym (append_assoc interim (take n text) (drop n text));
      whole = tt;
      count = response ∙ ap (λ (m : ℕ). min m (2 ^ 64 - 1)) (sym (length-take-le n text le));
    }

rose_later : (a b c : ℕ) → a ≤ b → Rose b c → Rose a c
rose_later a b c le rose = omega (arith, rose)

-- ---- a connection that was read

module _ (S : Type 0) (handles : S → Asked → Outcome → Replied → S → Type 0) (starves : S → S → Type 0) where
  sent : (begun mid ended : ConnWire) (J now : S) (kept after : Kept) (reply : Replied) (course : Course) (a b : Answer) → Ready begun mid kept → IsRead kept.bytes.items mid.left course → IsHandled handles starves J course reply now → due_answer course ≡ Some a → b ≡ a
      → Responds mid ended kept after (due_response course reply (method_text kept.to_head)) responded.Sent → Attends handles starves begun ended J now after reply (Served b)
  sent begun mid ended J now kept after reply course a b was is done answer same r =
      let text = due_response course reply (method_text kept.to_head) in
      record {
        course = course;
        interim = was.interim;
        method = method_text kept.to_head;
        written = was.interim ++ text;
        taken = rw (r.stays.left, r.stays.bytes) was.taken;
        prompt = rw r.stays.bytes was.prompt;
        given = Appends-trans begun.given mid.given ended.given was.interim text was.given r.given.0;
        is = rw (r.stays.left, r.stays.bytes) is;
        handled = done;
        interim_is = rw r.stays.bytes was.is;
        method_is = rw r.stays.bytes was.method;
        written_is = written_whole kept after was.interim text b was.count r.stays.interim r.given.1;
        told = (answer ∙ ap (λ (x : Answer). Some x) (sym same), r.given.2 ∙ was.still);
      }

  cut : (begun mid ended : ConnWire) (J now : S) (kept after : Kept) (reply : Replied) (course : Course) (a : Answer) (b : Option Answer) → Ready begun mid kept → IsRead kept.bytes.items mid.left course → IsHandled handles starves J course reply now → due_answer course ≡ Some a → b ≡ Some a
      → Responds mid ended kept after (due_response course reply (method_text kept.to_head)) responded.ConnFault → Attends handles starves begun ended J now after reply (ConnFault b)
  cut begun mid ended J now kept after reply course a b was is done answer same r =
      let text = due_response course reply (method_text kept.to_head) in
      let part = r.given.part in
      record {
        course = course;
        interim = was.interim;
        method = method_text kept.to_head;
        written = was.interim ++ take part.taken text;
        taken = rw (r.stays.left, r.stays.bytes) was.taken;
        prompt = rw r.stays.bytes was.prompt;
        given = Appends-trans begun.given mid.given ended.given was.interim (take part.taken text) was.given part.given;
        is = rw (r.stays.left, r.stays.bytes) is;
        handled = done;
        interim_is = rw r.stays.bytes was.is;
        method_is = rw r.stays.bytes was.method;
        written_is = written_cut kept after was.interim text part.taken b was.count r.stays.interim part.within r.given.count;
        told = (answer ∙ sym same, rose_later begun.faults mid.faults ended.faults was.later r.given.rose);
      }

  pub answered : (begun mid ended : ConnWire) (J now : S) (kept after : Kept) (reply : Replied) (course : Course) (a : Answer) (serving : Serving) → Ready begun mid kept → IsRead kept.bytes.items mid.left course → IsHandled handles starves J course reply now → due_answer course ≡ Some a
      → answer_response a reply (method_text kept.to_head) ≡ due_response course reply (method_text kept.to_head) → IsAnswered mid ended kept after reply a serving → Attends handles starves begun ended J now after reply serving
  answered begun mid ended J now kept after reply course a (Served b) was is done answer due w =
      sent begun mid ended J now kept after reply course a b was is done answer w.0 (subst (λ (t : List ℕ). Responds mid ended kept after t responded.Sent) due w.1)
  answered begun mid ended J now kept after reply course a (ConnFault b) was is done answer due w =
      cut begun mid ended J now kept after reply course a b was is done answer w.0 (subst (λ (t : List ℕ). Responds mid ended kept after t responded.ConnFault) due w.1)
  answered begun mid ended J now kept after reply course a NoConn was is done answer due w = absurd w
  answered begun mid ended J now kept after reply course a NoneCame was is done answer due w = absurd w
  answered begun mid ended J now kept after reply course a NoMemory was is done answer due w = absurd w

  -- ---- a connection that failed before

  pub lost : (begun ended : ConnWire) (J : S) (kept : Kept) (reply : Replied) → Receives begun ended kept incoming.ConnFault → Attends handles starves begun ended J J kept reply (ConnFault None)
  lost begun ended J kept reply r =
      let text = r.interim.text in
      record {
        course = Broken;
        interim = text;
        method = method_text kept.to_head;
        written = take kept.interim text;
        taken = r.reads.taken;
        prompt = λ some. let p = r.reads.prompt some in (p.0, p.2);
        given = r.interim.given;
        is = tt;
        handled = refl;
        interim_is = r.interim.is;
        method_is = r.method;
        written_is = record {
          front = [];
          rest = drop kept.interim text;
          written_is = sym (append-nil (take kept.interim text));
          due = append-nil text ∙ sym (take-append-drop kept.interim text);
          whole = tt;
          count = r.response ∙ omega arith;
        };
        told = (refl, r.rose refl);
      }

  -- ---- a connection that was accepted, and is finished

  accepted_one : (C : Type 0) (wire : C → ConnWire) (old mid new : Entrance) (conn : C) (ended : ConnWire) → Accepts old mid (wire conn) → new ≡ with_finished ended mid → Finishes wire old new (wire conn) ended
  accepted_one C wire old mid new conn ended came is = record {
    conn = conn;
    conn_is = refl;
    accepted = subst (λ (m : Entrance). Accepts old m (wire conn)) came.out came;
    finished = is ∙ ap (λ (m : Entrance). with_finished ended m) came.out;
  }

  cut_counts : (begun ended old new : ℕ) → begun ≡ 0 → Rose begun ended → new ≡ counted old ended → Rose old new
  cut_counts begun ended old new none rose is = omega (arith, none, rose, is)

  pub serves : (C : Type 0) (wire : C → ConnWire) (old mid new : Entrance) (conn : C) (ended : ConnWire) (J K now : S) (kept : Kept) (reply : Replied) (serving : Serving) → Accepts old mid (wire conn) → K ≡ J → Attends handles starves (wire conn) ended K now kept reply serving
      → new ≡ with_finished ended mid → Serves wire handles starves old new J now kept reply serving
  serves C wire old mid new conn ended J K now kept reply (Served a) came same attends is = record {
    begun = wire conn;
    ended = ended;
    finishes = accepted_one C wire old mid new conn ended came is;
    attends = subst (λ (j : S). Attends handles starves (wire conn) ended j now kept reply (Served a)) same attends;
    rose = tt;
  }
  serves C wire old mid new conn ended J K now kept reply (ConnFault a) came same attends is =
      let f = accepted_one C wire old mid new conn ended came is in
      record {
        begun = wire conn;
        ended = ended;
        finishes = f;
        attends = subst (λ (j : S). Attends handles starves (wire conn) ended j now kept reply (ConnFault a)) same attends;
        rose = cut_counts (wire conn).faults ended.faults old.faults new.faults came.faults attends.told.1 (ap (λ (e : Entrance). e.faults) f.finished);
      }
  serves C wire old mid new conn ended J K now kept reply NoConn came same attends is = absurd attends.told
  serves C wire old mid new conn ended J K now kept reply NoneCame came same attends is = absurd attends.told
  serves C wire old mid new conn ended J K now kept reply NoMemory came same attends is = absurd attends.told
