use Rattle.std.proofs.Common.{rules, ◌≡◌, length, sym, subst}
use Rattle.okws_serve.specs.Manned.{AllWork}
use Rattle.okws_serve.proofs.Posting.{put_back}
use Rattle.okws_serve.proofs.Running.{works_many}
use Rattle.okws_serve.proofs.scope.work_posts.Goals as goal

pub returns : goal.returns
returns g c =
    let old = c.args.posts.now.items in
    let now = c.work_all.new.posts in
    let same : c.as_mut_slice.result.now ≡ old = search rules in
    let work = subst (λ r. AllWork g.D.Conn.Conn.wire g.N.Numbered.site g.N.Numbered.launcher r now) same c.work_all.ensures in
    let size : length now ≡ length old = works_many g.D.Conn.Conn.wire g.N.Numbered.site g.N.Numbered.launcher old now work in
    subst (λ r. AllWork g.D.Conn.Conn.wire g.N.Numbered.site g.N.Numbered.launcher old r) (sym (put_back c.args.posts.now.len now old size (search rules))) work
