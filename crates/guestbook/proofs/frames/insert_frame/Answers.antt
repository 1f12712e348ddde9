use Rattle.std.proofs.Common.{◌≡◌, arith, subst, sym, rules}
use Rattle.std.specs.Prelude.{IsUtf8}
use Rattle.frame_codec.specs.declared.frame.ServiceFrame.TheVariants.{Call}
use Rattle.frame_codec.specs.Spelling.{ServiceHasSpelling}
use Rattle.guestbook.specs.declared.request.Entry.{Entry}
use Rattle.guestbook.specs.Frames.{insert_frame}
use Rattle.guestbook.proofs.Sayable.{insert_has}
use Rattle.guestbook.proofs.frames.insert_frame.Goals as goal

pub returns-clause-spelling : goal.returns-clause-spelling
returns-clause-spelling c =
    let entry : Entry = record { id = c.args.id; who = c.args.who; note = c.args.note } in
    let is : Call 0 c.args.session 2 c.of.result ≡ insert_frame c.args.session entry = search rules in
    subst ServiceHasSpelling (sym is) (insert_has c.args.session entry (omega arith) c.ranges.id (subst IsUtf8 c.as_str.ensures c.as_str.utf8) (subst IsUtf8 c.as_str-2.ensures c.as_str-2.utf8) c.requires)
