use Rattle.site_cells.proofs.Leads.{leads_here}
use Rattle.site_cells.proofs.cell.prepare.Goals as goal

pub returns-then-incarnation-wanted-clause-may : goal.returns-then-incarnation-wanted-clause-may
returns-then-incarnation-wanted-clause-may g c = λ same.
    let heard = c.lend.ensures.may in
    heard.2 c.args.cell.now.service c.args.wanted (leads_here c.args.cell.now.service c.args.cell.now.past c.args.cell.now.link heard.0 c.args.wanted c.keeps.ensures.law heard.1 c.requires.leads same c.requires.wanted)
