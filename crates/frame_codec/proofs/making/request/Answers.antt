use Rattle.frame_codec.proofs.Bounded.{request_has}
use Rattle.frame_codec.proofs.making.request.Goals as goal

pub returns-clause-spelling : goal.returns-clause-spelling
returns-clause-spelling c = request_has c.args.head c.args.content (rw c.as_slice.ensures at c.len.ensures.fits) (rw c.as_slice-2.ensures at c.len-2.ensures.fits) c.requires
