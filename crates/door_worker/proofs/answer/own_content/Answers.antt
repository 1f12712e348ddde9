use Rattle.std.proofs.Common.{◌≡◌, refl}
use Rattle.std.specs.Fmt.{digits}
use Rattle.http_text.specs.Status.{status_text}
use Rattle.door_worker.proofs.answer.own_content.Goals as goal

pub returns-in-400 : goal.returns-in-400
unfolding status_text digits
returns-in-400 c = let e : c.args.status ≡ 400 = cc in rw e refl

pub returns-in-404 : goal.returns-in-404
unfolding status_text digits
returns-in-404 c = let e : c.args.status ≡ 404 = cc in rw e refl

pub returns-in-413 : goal.returns-in-413
unfolding status_text digits
returns-in-413 c = let e : c.args.status ≡ 413 = cc in rw e refl

pub returns-in-431 : goal.returns-in-431
unfolding status_text digits
returns-in-431 c = let e : c.args.status ≡ 431 = cc in rw e refl

pub returns-in-501 : goal.returns-in-501
unfolding status_text digits
returns-in-501 c = let e : c.args.status ≡ 501 = cc in rw e refl

pub returns-in-502 : goal.returns-in-502
unfolding status_text digits
returns-in-502 c = let e : c.args.status ≡ 502 = cc in rw e refl

pub returns-in-503 : goal.returns-in-503
unfolding status_text digits
returns-in-503 c = let e : c.args.status ≡ 503 = cc in rw e refl

pub returns-in-507 : goal.returns-in-507
unfolding status_text digits
returns-in-507 c = let e : c.args.status ≡ 507 = cc in rw e refl
