use Rattle.std.proofs.Common.{◌≡◌, [], ◌∙◌, rules}
use Rattle.frame_link.proofs.Sends.{gathers_alone}
use Rattle.frame_link.proofs.sending.SendingTaker.take.Goals as goal

pub returns-then-is_err : goal.returns-then-is_err
returns-then-is_err g c = λ start text before.
    let same : c.try_extend_from_slice.new.self.items ≡ c.args.self.now.gathered.items = search rules in
    let none : c.try_extend_from_slice-2.new.self.items ≡ [] = search rules in
    let flushed = c.flush.ensures.puts (g.L.Link.wire start.link.now) text (rw same before.1) in
    let put = c.put_after-self.ensures _ _ (gathers_alone _ _ text c.args.bytes.now _ flushed) in
    (c.flush.ensures.link ∙ before.0, rw none put)
