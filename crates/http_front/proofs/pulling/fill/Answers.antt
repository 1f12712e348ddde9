use Rattle.http_front.proofs.Progress.{fill_done}
use Rattle.std.proofs.Common.{[], refl, sym, append-nil, arith}
use Rattle.http_front.proofs.pulling.fill.Goals as goal

pub returns-then-len-total-clause-content : goal.returns-then-len-total-clause-content
returns-then-len-total-clause-content g c = λ start h rest written content whole is read. fill_done start _ _ h rest _ written _ whole read refl refl (omega arith)

pub returns-then-len-total-clause-grown : goal.returns-then-len-total-clause-grown
returns-then-len-total-clause-grown g c = ([], sym (append-nil _))
