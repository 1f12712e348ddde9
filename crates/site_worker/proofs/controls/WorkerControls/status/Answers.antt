use Rattle.std.proofs.Common.{refl}
use Rattle.site_worker.proofs.Turns.{only_looked}
use Rattle.site_worker.proofs.controls.WorkerControls.status.Goals as goal

pub returns-clause-surveys : goal.returns-clause-surveys
returns-clause-surveys g c =
    let look = c.look_turn-connections in
    record {
      mid = look.new.self.life;
      standing = look.result.1;
      shown = look.result.2;
      counted = c.count-counted.result;
      only = only_looked c.args.self.now.life look.new.self.life look.ensures.only;
      looks = look.ensures.looks;
      counts = c.count-counted.ensures;
      columns_are = (refl, refl, refl, refl);
      standing_is = (refl, refl, refl);
    }
