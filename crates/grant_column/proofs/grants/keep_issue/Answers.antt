use Rattle.grant_column.proofs.grants.keep_issue.Goals as goal

pub returns-in-Ok-clause-ok : goal.returns-in-Ok-clause-ok
returns-in-Ok-clause-ok c = λ s t. rw c.in-Some.is (c.in-Ok.ensures.updates.0 (record { service = s; bytes = t.bytes }))
