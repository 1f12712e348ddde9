use Rattle.std.proofs.Common.{◌≡◌, drop}
use Rattle.svc_kit.specs.Serving.{token_of}
use Rattle.svc_kit.proofs.service.token_in.Given as goal

abbrev pub invariant-loop-issued : goal.invariant-loop-issued
invariant-loop-issued l = token_of l.proxy (drop l.issued-index l.tokens) ≡ token_of l.proxy l.tokens
