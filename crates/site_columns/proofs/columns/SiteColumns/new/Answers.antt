use Rattle.std.proofs.Common.{rules}
use Rattle.std.specs.Arc.{arc_value}
use Rattle.site_columns.proofs.Sites.{new_site, names_same, launched_same}
use Rattle.site_columns.proofs.columns.SiteColumns.new.Goals as goal

pub invariant_of-result : goal.invariant_of-result
invariant_of-result c =
    new_site _ (arc_value c.args.config.now) _ _ _ _ _ _ c.args.keeps (search rules) (search rules) (search rules) (search rules) (search rules) (search rules)
    (launched_same _ _ _ c.deref-2.ensures (search rules)) (record {
      queries = c.requires.rules;
      names = names_same _ _ c.deref.ensures c.read_names.ensures;
      owners = c.requires.sound.owners;
    })
