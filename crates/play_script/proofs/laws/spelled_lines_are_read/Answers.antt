use Rattle.play_script.proofs.Spelled as spelled
use Rattle.play_script.proofs.laws.spelled_lines_are_read.Goals as goal

pub returns-clause-line : goal.returns-clause-line
returns-clause-line c = spelled.spelled_lines_are_read

pub returns-clause-script : goal.returns-clause-script
returns-clause-script c = spelled.spelled_scripts_are_read
