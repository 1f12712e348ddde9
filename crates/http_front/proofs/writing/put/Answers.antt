use Rattle.std.proofs.Common.{refl}
use Rattle.http_front.proofs.Gathering.{part_put, part_cut}
use Rattle.http_front.proofs.writing.put.Goals as goal

pub returns-in-Done : goal.returns-in-Done
returns-in-Done g c = λ start before text w.
    part_put start _ _ before c.args.kept.now _ text c.args.bytes.now c.requires w c.in-Done.ensures refl c.saturating_add-kept.ensures (record { bytes = refl; interim = refl; to_head = refl })

pub returns-in-Stopped : goal.returns-in-Stopped
returns-in-Stopped g c = λ start before text w.
    part_cut start _ _ before c.args.kept.now _ text c.args.bytes.now c.in-Stopped.count _ c.requires w c.in-Stopped.ensures c.saturating_add-kept-in-Stopped.ensures (record { bytes = refl; interim = refl; to_head = refl })
