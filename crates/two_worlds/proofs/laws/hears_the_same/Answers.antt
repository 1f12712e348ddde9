use Rattle.std.proofs.Common.{sym, ◌∙◌}
use Rattle.two_worlds.proofs.Hearing.{heard_same, broken_same}
use Rattle.two_worlds.proofs.laws.hears_the_same.Goals as goal

pub returns : goal.returns
returns c = record {
  heard = λ C D seed keepers others launcher other R Q s lawful_c lawful_d law_r law_q agree k. heard_same C D R Q seed s lawful_c lawful_d (law_r.cells s) (law_q.cells s) agree k;
  due = λ C D seed keepers others launcher other R Q s lawful_c lawful_d law_r law_q agree k. broken_same C D R Q s lawful_c lawful_d (law_r.cells s) (law_q.cells s) agree k;
  told = λ C D seed keepers others launcher other R Q s printed text lawful_c lawful_d law_r law_q agree one two k.
      one.heard_is s k ∙ heard_same C D R Q seed s lawful_c lawful_d (law_r.cells s) (law_q.cells s) agree k ∙ sym (two.heard_is s k);
}
