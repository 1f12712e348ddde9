use Rattle.frame_codec.proofs.Apart.{one_spelling, one_frame, one_server_frame, none_is_prefix, none_is_server_prefix}
use Rattle.frame_codec.proofs.laws.spellings_are_apart.Goals as goal

pub returns-clause-one : goal.returns-clause-one
returns-clause-one c = one_spelling

pub returns-clause-frame : goal.returns-clause-frame
returns-clause-frame c = one_frame

pub returns-clause-server_frame : goal.returns-clause-server_frame
returns-clause-server_frame c = one_server_frame

pub returns-clause-prefix : goal.returns-clause-prefix
returns-clause-prefix c = none_is_prefix

pub returns-clause-server : goal.returns-clause-server
returns-clause-server c = none_is_server_prefix
