use Rattle.std.proofs.Common.{refl}
use Rattle.okws_play.proofs.Playing.{quiet, loud}
use Rattle.okws_play.proofs.play.run.Play.do_line.Goals as goal

pub returns-in-Begin : goal.returns-in-Begin
returns-in-Begin g c = quiet c.begin.result c.args.self.now c.begin.new.self c.args.line _ _ (rw c.in-Begin.is (refl, refl)) c.begin.ensures.state

pub returns-in-Install : goal.returns-in-Install
returns-in-Install g c = quiet c.install.result c.args.self.now c.install.new.self c.args.line _ _ (rw c.in-Install.is (refl, refl)) c.install.ensures

pub returns-in-Revoke : goal.returns-in-Revoke
returns-in-Revoke g c = quiet c.revoke.result c.args.self.now c.revoke.new.self c.args.line _ _ (rw c.in-Revoke.is (refl, refl)) c.revoke.ensures.state

pub returns-in-Up : goal.returns-in-Up
returns-in-Up g c = quiet c.up.result c.args.self.now c.up.new.self c.args.line _ _ (rw c.in-Up.is (refl, refl)) c.up.ensures

pub returns-in-Down : goal.returns-in-Down
returns-in-Down g c = quiet c.down.result c.args.self.now c.down.new.self c.args.line _ _ (rw c.in-Down.is (refl, refl)) c.down.ensures.state

pub returns-in-Publish : goal.returns-in-Publish
returns-in-Publish g c = quiet c.publish.result c.args.self.now c.publish.new.self c.args.line _ _ (rw c.in-Publish.is (refl, refl)) c.publish.ensures

pub returns-in-Boot : goal.returns-in-Boot
returns-in-Boot g c = loud c.boot.result c.args.self.now c.boot.new.self c.args.line _ _ _ _ (rw c.in-Boot.is (refl, refl)) c.boot.ensures.state c.boot.ensures.printed

pub returns-in-Launch : goal.returns-in-Launch
returns-in-Launch g c = loud c.launch.result c.args.self.now c.launch.new.self c.args.line _ _ _ _ (rw c.in-Launch.is (refl, refl)) c.launch.ensures.state c.launch.ensures.printed

pub returns-in-Relaunch : goal.returns-in-Relaunch
returns-in-Relaunch g c = loud c.relaunch.result c.args.self.now c.relaunch.new.self c.args.line _ _ _ _ (rw c.in-Relaunch.is (refl, refl)) c.relaunch.ensures.state c.relaunch.ensures.printed

pub returns-in-Accept : goal.returns-in-Accept
returns-in-Accept g c = loud c.accept.result c.args.self.now c.accept.new.self c.args.line _ _ _ _ (rw c.in-Accept.is (refl, refl)) c.accept.ensures.state c.accept.ensures.printed
