use Rattle.std.proofs.Common.{refl}
use Rattle.http_front.proofs.Asking.{receive_refused, receive_cut, answered_due}
use Rattle.http_front.proofs.reading.read_rest.Goals as goal

pub returns-in-Err : goal.returns-in-Err
returns-in-Err g c = λ start reads given still begun.
    let stands = c.requires.stands in
    receive_refused start _ _ c.args.head.now stands.head stands.rest _ stands.is stands.told c.in-Err.is reads given still begun

pub returns-then-not-put_due : goal.returns-then-not-put_due
returns-then-not-put_due g c = λ start reads given still begun.
    let stands = c.requires.stands in
    receive_cut start _ _ c.args.kept.now _ c.args.head.now stands.head stands.rest stands.is stands.told reads given begun (rw c.if-not-put_due.true at c.put_due.ensures) refl refl refl

pub returns : goal.returns
returns g c = λ start reads given still begun.
    c.read_content.ensures start (answered_due start _ _ c.args.kept.now _ c.args.head.now reads given still begun (rw c.if-not-put_due.false at c.put_due.ensures) refl refl refl)
