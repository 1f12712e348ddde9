use Rattle.std.proofs.Common.{◌∙◌, sym, ap, option_copied}
use Rattle.http_text.specs.Target.{is_target, path}
use Rattle.okws_play.proofs.Accepting.{path_is}
use Rattle.okws_play.proofs.play.accepting.path_in.Goals as goal

pub returns : goal.returns
returns c = path_is (is_target c.args.target.now) c.unwrap.result.now (path c.args.target.now) (sym (ap option_copied c.unwrap.ensures) ∙ c.path_of.ensures)
