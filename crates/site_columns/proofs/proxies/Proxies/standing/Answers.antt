use Rattle.site_columns.proofs.Rows.{column_of}
use Rattle.site_columns.proofs.proxies.Proxies.standing.Goals as goal

pub standing-requires : goal.standing-requires
standing-requires c = rw (column_of _ _ _ _ _ _ _ (record { view_is = c.self.view_is; all = c.self.invariant; within = c.requires.proxy; is = c.index-column.ensures })).config_is c.requires.service

pub returns : goal.returns
returns c = rw (← (column_of _ _ _ _ _ _ _ (record { view_is = c.self.view_is; all = c.self.invariant; within = c.requires.proxy; is = c.index-column.ensures })).past_is) c.standing.ensures
