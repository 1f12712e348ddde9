use Rattle.std.proofs.Common.{arith}
use Rattle.play_script.specs.Summary.{denied_line, rules_of}
use Rattle.play_script.specs.Tally.{tally_of}
use Rattle.play_script.proofs.Rules.{rules_done, rules_step}
use Rattle.play_script.proofs.summary.push_rules.Goals as goal

pub loop-rule-preserved : goal.loop-rule-preserved
loop-rule-preserved c =
    rules_step (denied_line (rules_of (tally_of c.args.tally.now))) c.loop-rule.rule _ c.loop-rule.text.items _ (omega arith) c.loop-rule.invariant c.in_ok-push_rule.ensures

pub returns : goal.returns
returns c = rules_done (denied_line (rules_of (tally_of c.args.tally.now))) c.loop-rule.rule _ c.loop-rule.text.items (omega arith) c.loop-rule.invariant
