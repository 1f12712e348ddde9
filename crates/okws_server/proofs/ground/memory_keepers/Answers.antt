use Rattle.std.proofs.Common.{◌∙◌, arith}
use Rattle.okws_server.proofs.Grounds.{fresh_push, keepers_push, steady_push}
use Rattle.okws_server.proofs.ground.memory_keepers.Goals as goal

pub push_reserved-requires : goal.push_reserved-requires
push_reserved-requires c = omega (arith, c.loop-proxy-test.true, c.loop-proxy.invariant.many, c.loop-proxy.invariant.room)

pub loop-proxy-preserved : goal.loop-proxy-preserved
loop-proxy-preserved c = record {
  many = omega (arith, c.push_reserved.ensures.len, c.loop-proxy.invariant.many);
  room = c.push_reserved.ensures.capacity ∙ c.loop-proxy.invariant.room;
  keepers = keepers_push _ _ 0 c.loop-proxy.proxy c.loop-proxy.keepers.items _ c.in_ok-keeper.keeper c.push_reserved.ensures.items (omega (arith, c.loop-proxy.invariant.many, c.loop-proxy.keepers.ok.0)) c.loop-proxy.invariant.keepers c.in_ok-keeper.ensures.is;
  steady = steady_push _ c.loop-proxy.keepers.items _ c.in_ok-keeper.keeper c.push_reserved.ensures.items c.loop-proxy.invariant.steady c.in_ok-keeper.ensures.steady;
  fresh = fresh_push _ c.loop-proxy.keepers.items _ c.in_ok-keeper.keeper c.push_reserved.ensures.items c.loop-proxy.invariant.fresh c.in_ok-keeper.ensures.fresh;
}
