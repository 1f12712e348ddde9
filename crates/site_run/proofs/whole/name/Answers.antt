use Rattle.std.proofs.Common.{rules, ◌≡◌, ◌+◌, length, sym, ap, ◌∙◌, subst}
use Rattle.site_cells.specs.Row.{AreNew}
use Rattle.turn_lock.specs.Rows.{AllCount}
use Rattle.site_run.specs.Whole.{AreNewFrom}
use Rattle.site_run.proofs.Holding.{new_turned}
use Rattle.site_run.proofs.whole.name.Goals as goal

pub returns : goal.returns
returns g c =
    let n = g.N.Numbered.launcher in
    let shared = c.in_ok-locks.ensures in
    let named = c.in_ok-cells.ensures in
    let rows = c.in_ok-cells.at_cells.items in
    let made : length c.in_ok-cells.cells ≡ length g.N.Numbered.site.services = ap length named.locks ∙ c.requires.services in
    let new = new_turned (length g.N.Numbered.site.services) 0 rows (subst (λ m. AreNew m 0 rows) c.requires.services named.seats) in
    let turned = c.turned.ensures.items in
    record {
      seats_fresh = shared.seats;
      seats_many = search rules;
      seats_roomy = search rules;
      cells_new = subst (AreNewFrom (length g.N.Numbered.site.services) 0) (sym turned) new;
      cells_many = search rules;
      cells_roomy = search rules;
      counts = subst (AllCount (n + 1)) (sym named.locks) c.requires.counts.1;
      services = made;
    }
