use Rattle.two_worlds.proofs.SoundJournals.{granted_is}
use Rattle.two_worlds.proofs.Statements.{query_same}
use Rattle.two_worlds.proofs.laws.queries_go_by_views.Goals as goal

pub returns : goal.returns
returns c = record {
  answers = λ C D s p q x y args T U lawful_c lawful_d same gc gd st su e. (query_same C D s p q x y args T U lawful_c lawful_d same (granted_is C p s q x gc).0 (granted_is C p s q x gc).1 (granted_is D p s q y gd).0 (granted_is D p s q y gd).1 st su e).answer;
  views = λ C D s p q x y args T U lawful_c lawful_d same gc gd st su e. (query_same C D s p q x y args T U lawful_c lawful_d same (granted_is C p s q x gc).0 (granted_is C p s q x gc).1 (granted_is D p s q y gd).0 (granted_is D p s q y gd).1 st su e).view;
}
