use Rattle.std.proofs.Common.{refl, sym, inl, inr}
use Rattle.http_text.specs.Reading.{Unfinished}
use Rattle.http_front.proofs.Asking.{headless, receive_headless, refused_is_no_fault, want_is_no_fault}
use Rattle.http_front.proofs.reading.read_request.Goals as goal

pub read_rest-requires-clause-stands : goal.read_rest-requires-clause-stands
read_rest-requires-clause-stands g c = let ends = c.in-Whole.ensures.ends in record { head = ends.0; rest = ends.1; is = ends.2; told = ends.3 }

pub returns-in-Whole : goal.returns-in-Whole
returns-in-Whole g c =
    let read = c.in-Whole.ensures in
    c.read_rest.ensures (g.C.Conn.wire c.args.conn.now) read.reads read.given (read.still (λ e. cc)) (record { interim = c.begin.ensures.interim; response = c.begin.ensures.response; to_head = refl })

pub returns-in-Refused : goal.returns-in-Refused
returns-in-Refused g c =
    let read = c.in-Refused.ensures in
    let front = read.ends in
    let quiet = headless _ front.front front.has front.none in
    receive_headless _ _ _ front.front _ (read.reads _) front.has quiet.0 quiet.1 read.given c.begin.ensures.interim c.begin.ensures.response c.begin.ensures.to_head
    (inl (front.front, front.has, sym front.refuses)) (λ e. absurd (refused_is_no_fault _ e)) (λ _. read.still (λ e. cc))

pub returns-in-Ended : goal.returns-in-Ended
returns-in-Ended g c =
    let read = c.in-Ended.ensures in
    receive_headless _ _ _ Unfinished _ (read.reads _) read.ends.0 refl refl read.given c.begin.ensures.interim c.begin.ensures.response c.begin.ensures.to_head
    (inr ((Unfinished, read.ends.0, refl), read.ends.1, refl)) (λ e. absurd (refused_is_no_fault _ e)) (λ _. read.still (λ e. cc))

pub returns-in-Failed : goal.returns-in-Failed
returns-in-Failed g c =
    let read = c.in-Failed.ensures in
    receive_headless _ _ _ Unfinished _ (read.reads _) read.ends refl refl read.given c.begin.ensures.interim c.begin.ensures.response c.begin.ensures.to_head
    tt (λ _. read.faults.cause refl) (λ fine. absurd (fine refl))

pub returns-in-NoMemory : goal.returns-in-NoMemory
returns-in-NoMemory g c =
    let read = c.in-NoMemory.ensures in
    receive_headless _ _ _ Unfinished _ (read.reads _) read.ends refl refl read.given c.begin.ensures.interim c.begin.ensures.response c.begin.ensures.to_head
    tt (λ e. absurd (want_is_no_fault e)) (λ _. read.still (λ e. cc))
