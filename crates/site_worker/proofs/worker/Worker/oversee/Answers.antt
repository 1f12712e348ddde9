use Rattle.std.proofs.Common.{refl}
use Rattle.admin_console.specs.declared.step.Stepped.TheVariants as stepped
use Rattle.site_worker.specs.declared.console.Overseen.TheVariants as overseen
use Rattle.site_worker.proofs.Commands.{step_here, overseeing_first, overseeing_next, overseeing_last, overseeing_same}
use Rattle.site_worker.proofs.worker.Worker.oversee.Goals as goal

pub loop-init : goal.loop-init
loop-init g c = overseeing_first g.N.Numbered.site (g.O.Conn.wire c.args.console.now) c.args.reader.now c.args.self.now.life

pub loop-preserved : goal.loop-preserved
loop-preserved g c =
    let C = g.N.Numbered.site in
    let w = g.O.Conn.wire c.args.console.now in
    let y = g.O.Conn.wire c.loop.console in
    let x = g.O.Conn.wire c.step.new.console in
    let s = step_here C c.args.site.now y x c.loop.reader c.step.new.reader c.loop.self.life c.step.new.controls.life (stepped.Answered c.in-Answered.field-0) c.requires.config c.in-Answered.ensures.step in
    overseeing_next C w c.args.reader.now c.args.self.now.life y x c.loop.reader c.step.new.reader c.loop.self.life c.step.new.controls.life c.loop.invariant c.in-Answered.field-0 s

pub returns-in-Finished-clause-oversees : goal.returns-in-Finished-clause-oversees
returns-in-Finished-clause-oversees g c =
    let C = g.N.Numbered.site in
    let w = g.O.Conn.wire c.args.console.now in
    let y = g.O.Conn.wire c.loop.console in
    let x = g.O.Conn.wire c.step.new.console in
    let s = step_here C c.args.site.now y x c.loop.reader c.step.new.reader c.loop.self.life c.step.new.controls.life (stepped.Finished) c.requires.config c.in-Finished.ensures.step in
    overseeing_last C w c.args.reader.now c.args.self.now.life y x c.loop.reader c.step.new.reader c.loop.self.life c.step.new.controls.life c.loop.invariant stepped.Finished overseen.Finished refl s

pub returns-in-Finished-clause-same : goal.returns-in-Finished-clause-same
returns-in-Finished-clause-same g c =
    let C = g.N.Numbered.site in
    let w = g.O.Conn.wire c.args.console.now in
    let y = g.O.Conn.wire c.loop.console in
    let x = g.O.Conn.wire c.step.new.console in
    let s = step_here C c.args.site.now y x c.loop.reader c.step.new.reader c.loop.self.life c.step.new.controls.life (stepped.Finished) c.requires.config c.in-Finished.ensures.step in
    overseeing_same C w c.args.reader.now c.args.self.now.life y x c.loop.reader c.step.new.reader c.loop.self.life c.step.new.controls.life c.loop.invariant stepped.Finished s

pub returns-in-ConsoleFault-clause-oversees : goal.returns-in-ConsoleFault-clause-oversees
returns-in-ConsoleFault-clause-oversees g c =
    let C = g.N.Numbered.site in
    let w = g.O.Conn.wire c.args.console.now in
    let y = g.O.Conn.wire c.loop.console in
    let x = g.O.Conn.wire c.step.new.console in
    let s = step_here C c.args.site.now y x c.loop.reader c.step.new.reader c.loop.self.life c.step.new.controls.life (stepped.ConsoleFault c.in-ConsoleFault.field-0) c.requires.config c.in-ConsoleFault.ensures.step in
    overseeing_last C w c.args.reader.now c.args.self.now.life y x c.loop.reader c.step.new.reader c.loop.self.life c.step.new.controls.life c.loop.invariant (stepped.ConsoleFault c.in-ConsoleFault.field-0) overseen.ConsoleFault refl s

pub returns-in-ConsoleFault-clause-same : goal.returns-in-ConsoleFault-clause-same
returns-in-ConsoleFault-clause-same g c =
    let C = g.N.Numbered.site in
    let w = g.O.Conn.wire c.args.console.now in
    let y = g.O.Conn.wire c.loop.console in
    let x = g.O.Conn.wire c.step.new.console in
    let s = step_here C c.args.site.now y x c.loop.reader c.step.new.reader c.loop.self.life c.step.new.controls.life (stepped.ConsoleFault c.in-ConsoleFault.field-0) c.requires.config c.in-ConsoleFault.ensures.step in
    overseeing_same C w c.args.reader.now c.args.self.now.life y x c.loop.reader c.step.new.reader c.loop.self.life c.step.new.controls.life c.loop.invariant (stepped.ConsoleFault c.in-ConsoleFault.field-0) s
