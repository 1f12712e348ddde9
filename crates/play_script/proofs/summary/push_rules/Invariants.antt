use Rattle.std.proofs.Common.{◌≡◌, ◌++◌}
use Rattle.play_script.specs.Summary.{denied_line, rule_lines, rules_of}
use Rattle.play_script.specs.Tally.{tally_of}
use Rattle.play_script.proofs.Rules.{lines_from}
use Rattle.play_script.proofs.summary.push_rules.Given as goal

abbrev pub invariant-loop-rule : goal.invariant-loop-rule
invariant-loop-rule l = l.fn.text.items ++ rule_lines (rules_of (tally_of l.tally)) ≡ l.text.items ++ lines_from (denied_line (rules_of (tally_of l.tally))) l.rule
