use Rattle.command_line.proofs.Plainly.{check_is_read, play_is_read, drill_is_read, serve_is_read, always_is_read, version_is_read}
use Rattle.command_line.proofs.laws.plain_words_are_read.Goals as goal

pub returns-clause-check : goal.returns-clause-check
returns-clause-check c = check_is_read

pub returns-clause-play : goal.returns-clause-play
returns-clause-play c = play_is_read

pub returns-clause-drill : goal.returns-clause-drill
returns-clause-drill c = drill_is_read

pub returns-clause-serve : goal.returns-clause-serve
returns-clause-serve c = serve_is_read

pub returns-clause-always : goal.returns-clause-always
returns-clause-always c = always_is_read

pub returns-clause-version : goal.returns-clause-version
returns-clause-version c = version_is_read
