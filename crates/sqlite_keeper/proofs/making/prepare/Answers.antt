use Rattle.std.proofs.Common.{◌≡◌, ◌∙◌, false, Err, ap, inl, inr, sym, subst, rules, arith}
use Rattle.std.specs.Prelude.{IfErr}
use Rattle.sqlite.specs.Held.{state}
use Rattle.sqlite.specs.State.{HasCleanDisk, Shows}
use Rattle.sqlite_keeper.specs.Making.{PreparesAll, IsUnmade, IsMade}
use Rattle.sqlite_keeper.proofs.Turns.{done}
use Rattle.sqlite_keeper.proofs.making.prepare.Goals as goal

pub returns-in_err-prepare_all-clause-unmade : goal.returns-in_err-prepare_all-clause-unmade
returns-in_err-prepare_all-clause-unmade g c clean =
    let last = c.prepare_all.new.tx.conn.now in
    let end = c.drop-tx.new.self.0 in
    let why = c.in_err-prepare_all.field-0.0 in
    let same : c.from_residual.result ≡ Err why = search rules in
    let ended : end ≡ c.conn-1.given.0 = search rules in
    let late : HasCleanDisk (state g.S.Store end) = subst (λ h. HasCleanDisk (state g.S.Store h)) (sym ended) clean in
    let early : HasCleanDisk (state g.S.Store last) = omega (arith, late, c.drop-tx.ensures.survives.clean) in
    let prepared : PreparesAll g.S.Store c.args.tables.now c.args.conn.now last (Err why) = rw c.transaction-tx.ensures.begun at (c.in_err-prepare_all.ensures.steps.did early) in
    rw same (inr (last, inl prepared))

pub returns-in-Ok-clause-made : goal.returns-in-Ok-clause-made
returns-in-Ok-clause-made g c clean =
    let last = c.prepare_all.new.tx.conn.now in
    let end = c.commit.new.self.0 in
    let ended : end ≡ c.conn-2-1.given.0 = search rules in
    let late : HasCleanDisk (state g.S.Store end) = subst (λ h. HasCleanDisk (state g.S.Store h)) (sym ended) clean in
    let early : HasCleanDisk (state g.S.Store last) = omega (arith, late, c.commit.ensures.survives.clean) in
    let prepared : PreparesAll g.S.Store c.args.tables.now c.args.conn.now last done = rw c.transaction-tx.ensures.begun at (c.in_ok-prepare_all.ensures.steps.did early) in
    (last, prepared, subst (λ h. Shows (state g.S.Store last) (state g.S.Store h) (state g.S.Store last).now (state g.S.Store last).now false) ended (c.in-Ok.ensures.ok late).1)

pub returns-in-Err-clause-unmade : goal.returns-in-Err-clause-unmade
returns-in-Err-clause-unmade g c clean =
    let last = c.prepare_all.new.tx.conn.now in
    let end = c.commit.new.self.0 in
    let ended : end ≡ c.conn-2-1.given.0 = search rules in
    let late : HasCleanDisk (state g.S.Store end) = subst (λ h. HasCleanDisk (state g.S.Store h)) (sym ended) clean in
    let early : HasCleanDisk (state g.S.Store last) = omega (arith, late, c.commit.ensures.survives.clean) in
    let prepared : PreparesAll g.S.Store c.args.tables.now c.args.conn.now last done = rw c.transaction-tx.ensures.begun at (c.in_ok-prepare_all.ensures.steps.did early) in
    subst (λ h. IsUnmade g.S.Store c.args.tables.now c.args.conn.now h c.make_reason.result) ended
    (inr (last, inr (prepared, c.in-Err.error, c.in-Err.ensures.err late, c.make_reason.ensures)))

pub returns-in_err-prepare_all-clause-limit : goal.returns-in_err-prepare_all-clause-limit
returns-in_err-prepare_all-clause-limit g c =
    let ended : c.drop-tx.new.self.0 ≡ c.conn-1.given.0 = search rules in
    subst (λ h. h.step_limit ≡ c.args.conn.now.step_limit) ended
    (c.drop-tx.ensures.survives.limit ∙ c.in_err-prepare_all.ensures.steps.limit ∙ ap (λ h. h.step_limit) c.transaction-tx.ensures.begun)

pub returns-in-Ok-clause-limit : goal.returns-in-Ok-clause-limit
returns-in-Ok-clause-limit g c =
    let ended : c.commit.new.self.0 ≡ c.conn-2-1.given.0 = search rules in
    subst (λ h. h.step_limit ≡ c.args.conn.now.step_limit) ended
    (c.commit.ensures.survives.limit ∙ c.in_ok-prepare_all.ensures.steps.limit ∙ ap (λ h. h.step_limit) c.transaction-tx.ensures.begun)

pub returns-in-Err-clause-limit : goal.returns-in-Err-clause-limit
returns-in-Err-clause-limit g c =
    let ended : c.commit.new.self.0 ≡ c.conn-2-1.given.0 = search rules in
    subst (λ h. h.step_limit ≡ c.args.conn.now.step_limit) ended
    (c.commit.ensures.survives.limit ∙ c.in_ok-prepare_all.ensures.steps.limit ∙ ap (λ h. h.step_limit) c.transaction-tx.ensures.begun)
