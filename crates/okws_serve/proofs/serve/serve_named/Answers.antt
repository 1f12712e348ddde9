use Rattle.std.proofs.Common.{List, map, sym, ap, subst}
use Rattle.site_run.specs.Places.{AllIdle}
use Rattle.okws_serve.proofs.Surviving.{always_none, none_some, none_then}
use Rattle.okws_serve.proofs.serve.serve_named.Goals as goal

pub returns-in-Err-clause-idle : goal.returns-in-Err-clause-idle
returns-in-Err-clause-idle g c = subst AllIdle (sym (ap (λ (ds : List g.row.D.Denot). map g.D.Door.entrance ds) c.unused.ensures.0)) c.requires.idle

pub returns-in-Err-clause-ran : goal.returns-in-Err-clause-ran
returns-in-Err-clause-ran g c = none_some c.unused.result.ran _ c.unused.ensures.3

pub returns-in-Err-clause-log : goal.returns-in-Err-clause-log
returns-in-Err-clause-log g c = none_then c.unused.result.ran _ c.unused.ensures.3

pub returns-in-Err-clause-unserved : goal.returns-in-Err-clause-unserved
returns-in-Err-clause-unserved g c = always_none c.unused.result.ran _ (ap (λ (ds : List g.row.D.Denot). map g.D.Door.entrance ds) c.unused.ensures.0, ap g.O.Conn.wire c.unused.ensures.1, ap g.F.Children.family c.unused.ensures.2)

pub returns-in-Ok-clause-idle : goal.returns-in-Ok-clause-idle
returns-in-Ok-clause-idle g c = c.serve_locked.ensures.idle

pub returns-in-Ok-clause-ran : goal.returns-in-Ok-clause-ran
returns-in-Ok-clause-ran g c = c.serve_locked.ensures.ran

pub returns-in-Ok-clause-log : goal.returns-in-Ok-clause-log
returns-in-Ok-clause-log g c = c.serve_locked.ensures.log

pub returns-in-Ok-clause-unserved : goal.returns-in-Ok-clause-unserved
returns-in-Ok-clause-unserved g c = c.serve_locked.ensures.unserved
