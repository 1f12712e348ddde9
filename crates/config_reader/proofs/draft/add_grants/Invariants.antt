use Rattle.std.proofs.Common.{◌≡◌, ◌++◌, take, drop}
use Rattle.config_reader.specs.Broken.{regrants}
use Rattle.config_reader.specs.After.{granted_of}
use Rattle.config_reader.proofs.draft.add_grants.Given as goal

abbrev pub invariant-loop-query : goal.invariant-loop-query
invariant-loop-query l = record {
  made : l.grants ≡ l.initial.grants ++ granted_of l.service l.proxy (take l.query-index l.queries);
  free : regrants l.grants l.service l.proxy (drop l.query-index l.queries) ≡ regrants l.initial.grants l.service l.proxy l.queries;
}
