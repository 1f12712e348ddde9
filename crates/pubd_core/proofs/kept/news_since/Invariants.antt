use Rattle.std.proofs.Common.{◌≡◌, ◌++◌, drop}
use Rattle.pubd_core.specs.Readers.{news_in}
use Rattle.pubd_core.proofs.kept.news_since.Given as goal

abbrev pub invariant-loop-published : goal.invariant-loop-published
invariant-loop-published l = l.found.items ++ news_in l.config l.service l.heard (drop l.published-index l.publications) ≡ news_in l.config l.service l.heard l.publications
