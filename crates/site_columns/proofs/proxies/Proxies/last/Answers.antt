use Rattle.site_columns.proofs.Rows.{column_of}
use Rattle.site_columns.proofs.proxies.Proxies.last.Goals as goal

pub last-requires : goal.last-requires
last-requires c = rw (column_of _ _ _ _ _ _ _ (record { view_is = c.self.view_is; all = c.self.invariant; within = c.requires.proxy; is = c.index-column.ensures })).config_is c.requires.service

pub returns : goal.returns
returns c = rw (← (column_of _ _ _ _ _ _ _ (record { view_is = c.self.view_is; all = c.self.invariant; within = c.requires.proxy; is = c.index-column.ensures })).past_is) c.last.ensures
