use Rattle.std.proofs.Common.{◌≢◌, ℕ, ◌<◌}
use Rattle.turn_lock.specs.Tickets.{Rests, HasNumber, note_number, number_of, parts_of}
use Rattle.turn_lock.proofs.Closes.{ends, ends_full}
use Rattle.turn_lock.proofs.queue.Queue.end.Goals as goal

pub unreachable-requires : goal.unreachable-requires
unreachable-requires g c =
    let rests : Rests c.into_place.result = rw c.into_place.ensures c.requires.rest.0 in
    let number : number_of c.into_place.result ≢ note_number = rw c.into_place.ensures c.requires.rest.1 in
    let all : (k : ℕ) → k < c.args.self.table.shared.key.0 → HasNumber k (parts_of c.into_place.result.me.0) = rw c.into_place.ensures c.requires.all in
    ends_full _ _ _ _ _ _ _ _ rests.0 number all c.close_with-closed.ensures.values.2 _ c.take-slot.ensures.value c.in-None.is

pub returns-clause-told : goal.returns-clause-told
returns-clause-told g c =
    let rests : Rests c.into_place.result = rw c.into_place.ensures c.requires.rest.0 in
    let number : number_of c.into_place.result ≢ note_number = rw c.into_place.ensures c.requires.rest.1 in
    let all : (k : ℕ) → k < c.args.self.table.shared.key.0 → HasNumber k (parts_of c.into_place.result.me.0) = rw c.into_place.ensures c.requires.all in
    rw (← c.into_place.ensures) (ends _ _ _ _ _ _ _ _ rests.0 number all c.close_with-closed.ensures.values.2 _ c.take-slot.ensures.value _ c.in-Some.is).0

pub returns-clause-none : goal.returns-clause-none
returns-clause-none g c =
    let rests : Rests c.into_place.result = rw c.into_place.ensures c.requires.rest.0 in
    let number : number_of c.into_place.result ≢ note_number = rw c.into_place.ensures c.requires.rest.1 in
    let all : (k : ℕ) → k < c.args.self.table.shared.key.0 → HasNumber k (parts_of c.into_place.result.me.0) = rw c.into_place.ensures c.requires.all in
    (ends _ _ _ _ _ _ _ _ rests.0 number all c.close_with-closed.ensures.values.2 _ c.take-slot.ensures.value _ c.in-Some.is).1

pub returns-clause-label : goal.returns-clause-label
returns-clause-label g c =
    let rests : Rests c.into_place.result = rw c.into_place.ensures c.requires.rest.0 in
    let number : number_of c.into_place.result ≢ note_number = rw c.into_place.ensures c.requires.rest.1 in
    let all : (k : ℕ) → k < c.args.self.table.shared.key.0 → HasNumber k (parts_of c.into_place.result.me.0) = rw c.into_place.ensures c.requires.all in
    rw (← c.into_place.ensures) (ends _ _ _ _ _ _ _ _ rests.0 number all c.close_with-closed.ensures.values.2 _ c.take-slot.ensures.value _ c.in-Some.is).2
