use Rattle.std.proofs.Common.{◌≡◌, ℕ, ◌+◌, List, ◌++◌, map, reverse, length}
use Rattle.std.specs.Prelude.{vec_len, vec_capacity}
use Rattle.okws_base.specs.declared.journal.Entry.{Entry}
use Rattle.okws_plan.specs.declared.event.ProxyEvent.{ProxyEvent}
use Rattle.monitor_model.specs.Booting.{AllFollow}
use Rattle.monitor_model.specs.Placed.{EachFrom}
use Rattle.named_columns.specs.Held.{HeldProxy}
use Rattle.site_locks.specs.Sat.{RiseFrom}
use Rattle.site_run.specs.Journals.{AllProxies}
use Rattle.site_making.specs.Keepers.{keeper_of}
use Rattle.site_run.specs.Closing.{AllKept}
use Rattle.site_run.proofs.closing.end_proxies.Given as goal

abbrev pub invariant-loop-proxy : goal.invariant-loop-proxy
invariant-loop-proxy g l = record {
  pasts : l.end.pasts.items ++ reverse (map (λ (x : HeldProxy). x.past) l.proxies.items) ≡ reverse (map (λ (x : HeldProxy). x.past) l.fn.proxies.items);
  numbered : RiseFrom (length l.end.pasts.items) (reverse (map (λ (x : HeldProxy). x.number) l.proxies.items));
  laws : AllProxies g.N.Numbered.site g.N.Numbered.run_seed g.N.Numbered.launcher 0 l.end.pasts.items;
  follows : EachFrom (λ (p : ℕ) (J : List (Entry ProxyEvent)). AllFollow g.N.Numbered.site p J) 0 l.end.pasts.items;
  kept : AllKept g.N.Numbered.site g.N.Backed.tells g.N.Backed.steady g.N.Backed.keeper_faults 0 (map (keeper_of g.K.Keeper.tables g.K.Keeper.told g.K.Keeper.faults g.K.Keeper.steady) l.end.keepers.items) l.end.pasts.items;
  many : vec_len l.proxies + vec_len l.end.pasts ≡ vec_len l.fn.proxies;
  alike : vec_len l.end.keepers ≡ vec_len l.end.pasts;
  pasts_room : vec_capacity l.end.pasts ≡ vec_capacity l.fn.room.pasts;
  keepers_room : vec_capacity l.end.keepers ≡ vec_capacity l.fn.room.keepers;
}

abbrev pub decreases-loop-proxy : goal.decreases-loop-proxy
decreases-loop-proxy g l = length l.proxies.items
