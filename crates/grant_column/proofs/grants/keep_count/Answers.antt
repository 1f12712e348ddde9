use Rattle.std.proofs.Common.{◌≡◌, ◌==◌, ◌&&◌, ℕ, Option, Some, if◌then◌else◌, Bool, true, false, unwrap_or, refl}
use Rattle.grant_column.proofs.grants.keep_count.Goals as goal

unwrapped : (b : Bool) (v : ℕ) (o : Option ℕ) → unwrap_or (if b then Some v else o) 0 ≡ (if b then v else unwrap_or o 0)
unwrapped true v o = refl
unwrapped false v o = refl

pub returns-in-Ok-clause-ok : goal.returns-in-Ok-clause-ok
returns-in-Ok-clause-ok c = λ s k.
    rw (c.in-Ok.ensures.updates.0 (record { service = s; number = k })) (unwrapped ((c.args.service == s) && (c.args.number == k)) c.args.opened _)
