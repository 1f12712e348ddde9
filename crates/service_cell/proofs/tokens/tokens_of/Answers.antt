use Rattle.std.proofs.Common.{◌≡◌, ◌<◌, length, ap, arith}
use Rattle.service_cell.specs.Issuing.{issued}
use Rattle.service_cell.proofs.Granted.{more_granted, more_few}
use Rattle.service_cell.proofs.tokens.tokens_of.Goals as goal

pub loop-i-preserved : goal.loop-i-preserved
loop-i-preserved c =
    let same : length c.as_slice-i-end.result.now ≡ length c.args.config.now.proxies = ap length c.as_slice-i-end.ensures in
    let below : c.loop-i.i < length c.args.config.now.proxies = omega (arith, same, c.loop-i-test.true) in record {
      all = more_granted (issued c.args.seed.now c.args.service c.args.incarnation) c.args.config.now c.args.service c.loop-i.i (length c.args.config.now.proxies) _ _ _ below c.in_ok-tokens.ensures c.loop-i.invariant.all;
      few = more_few _ _ _ _ _ c.in_ok-tokens.ensures c.loop-i.invariant.few;
    }
