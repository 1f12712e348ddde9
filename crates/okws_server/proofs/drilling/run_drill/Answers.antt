use Rattle.std.proofs.Common.{◌≡◌, ◌∙◌, ap, refl, subst, sym}
use Rattle.monitor_model.specs.Stage.{first_stage}
use Rattle.play_script.specs.Site.{is_drilled_site}
use Rattle.okws_play.specs.Run.{Run}
use Rattle.okws_server.proofs.Drilled.{drill_start, drilled_by}
use Rattle.okws_server.proofs.Off.{fails_any}
use Rattle.okws_server.proofs.drilling.run_drill.Goals as goal

pub play_drill-requires : goal.play_drill-requires
play_drill-requires c =
    let is : c.in_ok-play.play ≡ drill_start c.in_ok-site.field-0 = c.in_ok-play.ensures ∙ ap drill_start c.in_ok-config.ensures.ok in
    record {
      few = c.requires;
      site = ap (λ (r : Run). is_drilled_site r.config) is ∙ c.in_ok-site.ensures.drilled;
      seed = ap (λ (r : Run). r.seed) is;
      first = subst (λ (r : Run). r.stage ≡ first_stage r.config) (sym is) refl;
    }

pub returns : goal.returns
returns c =
    drilled_by (record {
      lawful = c.script_runs_are_lawful.ensures.lawful;
      unharmed = c.script_runs_are_lawful.ensures.unharmed;
      answered = c.script_runs_are_answered.ensures;
      entered = c.script_runs_enter_all.ensures;
      taken = c.script_runs_take_all.ensures;
      told = c.script_runs_tell_all.ensures;
      replied = c.script_runs_answer_once.ensures;
    }) c.tallies_count.ensures c.in_ok-site.field-0 c.args.number c.args.events c.in_ok-play.play c.play_drill.new.play c.in_ok-tally.tally _ _ c.in_ok-record.record
    c.in_ok-site.ensures.means c.in_ok-site.ensures.drilled (c.in_ok-play.ensures ∙ ap drill_start c.in_ok-config.ensures.ok) c.in_ok-tally.ensures c.in_ok-play_drill.ensures
    c.into_record.ensures.faultless c.in_ok-record.ensures.record
    (record { many = c.in_ok-record.ensures.many; sent = c.in_ok-record.ensures.sent; told = c.in_ok-record.ensures.told }) c.in_ok-text.ensures

pub returns-in_err-record : goal.returns-in_err-record
returns-in_err-record c = fails_any c.from_residual-in_err-record.result _ c.from_residual-in_err-record.ensures.0
