use Rattle.std.proofs.Common.{[], ap, refl, inl}
use Rattle.okws_outer.proofs.Printed.{no_front}
use Rattle.okws_server.specs.Ran.{zero_seed}
use Rattle.okws_play.specs.Run.{Run}
use Rattle.okws_server.proofs.Monitored.{played_to}
use Rattle.okws_server.proofs.Off.{fails_text, due_here}
use Rattle.okws_server.proofs.ScriptLines.{due_played}
use Rattle.okws_server.proofs.script_run.play_fitting.Goals as goal

pub returns : goal.returns
returns g c =
    played_to (record {
      lawful = c.script_runs_are_lawful.ensures.lawful;
      unharmed = c.script_runs_are_lawful.ensures.unharmed;
      answered = c.script_runs_are_answered.ensures;
      entered = c.script_runs_enter_all.ensures;
      taken = c.script_runs_take_all.ensures;
      told = c.script_runs_tell_all.ensures;
      replied = c.script_runs_answer_once.ensures;
    }) _ zero_seed c.args.text.now c.in_ok-broken.broken _ _ c.in_ok-play.play c.play_lines.new.play c.in_ok-record.record
    (ap (λ (r : Run). r.config) c.in_ok-play.ensures) (ap (λ (r : Run). r.seed) c.in_ok-play.ensures) c.requires.fits c.in_ok-broken.ensures c.into_record.ensures.faultless c.in_ok-record.ensures.record
    (record { many = c.in_ok-record.ensures.many; sent = c.in_ok-record.ensures.sent; told = c.in_ok-record.ensures.told })

pub returns-in_err-shared : goal.returns-in_err-shared
returns-in_err-shared g c = fails_text _ _ _ _ c.from_residual.result c.from_residual.ensures.0 ([], inl refl, no_front _ _)

pub returns-in_err-play : goal.returns-in_err-play
returns-in_err-play g c = fails_text _ _ _ _ c.from_residual-in_err-play.result c.from_residual-in_err-play.ensures.0 ([], inl refl, no_front _ _)

pub returns-in_err-broken : goal.returns-in_err-broken
returns-in_err-broken g c =
    fails_text _ _ _ _ c.from_residual-in_err-broken.result c.from_residual-in_err-broken.ensures.0
    (due_here _ zero_seed c.args.text.now c.in_ok-play.play _ _ (ap (λ (r : Run). r.config) c.in_ok-play.ensures) (ap (λ (r : Run). r.seed) c.in_ok-play.ensures) c.requires.fits c.in_err-broken.ensures)

pub returns-in_err-record : goal.returns-in_err-record
returns-in_err-record g c =
    fails_text _ _ _ _ c.from_residual-in_err-record.result c.from_residual-in_err-record.ensures.0
    (due_here _ zero_seed c.args.text.now c.in_ok-play.play _ _ (ap (λ (r : Run). r.config) c.in_ok-play.ensures) (ap (λ (r : Run). r.seed) c.in_ok-play.ensures) c.requires.fits
    (due_played c.in_ok-play.play c.play_lines.new.play c.args.text.now c.in_ok-broken.broken _ _ c.in_ok-broken.ensures))
