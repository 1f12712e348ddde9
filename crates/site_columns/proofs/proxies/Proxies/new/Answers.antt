use Rattle.std.proofs.Common.{arith}
use Rattle.std.specs.Arc.{arc_value}
use Rattle.site_columns.proofs.Rows.{column_more, count_more, pasts_more}
use Rattle.site_columns.proofs.proxies.Proxies.new.Goals as goal

pub loop-i-preserved : goal.loop-i-preserved
loop-i-preserved c =
    let before = c.loop-i.invariant in record {
      count = rw c.in_ok-push.ensures.items (count_more _ _ _ before.count);
      are = rw c.in_ok-push.ensures.items (column_more (arc_value c.args.config.now) c.args.seed 0 c.loop-i.i c.loop-i.columns.items _ before.are (omega (arith, before.count)) c.in_ok-proxy_column.ensures.is);
      pasts = rw c.in_ok-push.ensures.items (pasts_more _ _ _ before.pasts c.in_ok-proxy_column.ensures.past);
    }
