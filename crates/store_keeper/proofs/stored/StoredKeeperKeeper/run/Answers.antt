use Rattle.std.proofs.Common.{◌∙◌, ap, arith, refl, subst}
use Rattle.std.specs.Prelude.{Err}
use Rattle.okws_outer.specs.Keeping.{Runs}
use Rattle.store_keeper.proofs.Alike.{rules_alike, same_failed, same_ok, still_alike}
use Rattle.store_keeper.proofs.stored.StoredKeeperKeeper.run.Goals as goal

pub run-requires-2 : goal.run-requires-2
run-requires-2 g c = record { fits = c.requires.fits; rules = rules_alike (g.K.Keeper.tables c.args.self.now.store) _ c.args.statement.now c.args.self.now.alike c.requires.rules }

pub invariant_of-self-in-Ok : goal.invariant_of-self-in-Ok
invariant_of-self-in-Ok g c = record {
  alike = still_alike (g.K.Keeper.tables c.args.self.now.store) _ _ _ c.run-2.ensures.tables c.run-answer.ensures.tables c.args.self.now.alike;
  same = λ off. same_ok (g.K.Keeper.tables c.args.self.now.store) _ c.args.statement.now c.args.args.now (g.K.Keeper.told c.args.self.now.store) (g.K.Keeper.told c.run-2.new.self) _ _ c.in-Ok.told c.run-answer.result c.agree.result off
      c.agree.ensures.answered c.args.self.now.alike (c.args.self.now.same c.if-self.false)
      (subst (λ r. Runs (g.K.Keeper.tables c.args.self.now.store) c.args.statement.now c.args.args.now (g.K.Keeper.told c.args.self.now.store) (g.K.Keeper.told c.run-2.new.self) r) c.in-Ok.is c.run-2.ensures.rows)
      c.run-answer.ensures.rows;
  counted = omega (arith, c.args.self.now.counted, c.run-2.ensures.faults.later);
}

pub invariant_of-self-in-Err-Failed : goal.invariant_of-self-in-Err-Failed
invariant_of-self-in-Err-Failed g c = record {
  alike = still_alike (g.K.Keeper.tables c.args.self.now.store) _ _ _ c.run-2.ensures.tables refl c.args.self.now.alike;
  same = λ on. same_failed (g.K.Keeper.tables c.args.self.now.store) c.args.statement.now c.args.args.now (g.K.Keeper.told c.args.self.now.store) (g.K.Keeper.told c.run-2.new.self) _ c.in-Err-Failed.field-0 (c.args.self.now.same on)
      (subst (λ r. Runs (g.K.Keeper.tables c.args.self.now.store) c.args.statement.now c.args.args.now (g.K.Keeper.told c.args.self.now.store) (g.K.Keeper.told c.run-2.new.self) r) c.in-Err-Failed.is c.run-2.ensures.rows);
  counted = omega (arith, c.failed.ensures.one, c.args.self.now.counted, c.run-2.ensures.faults.cause (c.in-Err-Failed.is ∙ ap Err c.in-Err-Failed.field-0-is));
}
