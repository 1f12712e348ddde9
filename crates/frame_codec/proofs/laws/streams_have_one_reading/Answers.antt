use Rattle.frame_codec.proofs.Apart.{one_begins, one_server_begins, short_begins_none, short_server_begins_none, one_stream, one_server_stream}
use Rattle.frame_codec.proofs.laws.streams_have_one_reading.Goals as goal

pub returns-clause-one : goal.returns-clause-one
returns-clause-one c = one_begins

pub returns-clause-server_one : goal.returns-clause-server_one
returns-clause-server_one c = one_server_begins

pub returns-clause-short : goal.returns-clause-short
returns-clause-short c = short_begins_none

pub returns-clause-server_short : goal.returns-clause-server_short
returns-clause-server_short c = short_server_begins_none

pub returns-clause-stream : goal.returns-clause-stream
returns-clause-stream c = one_stream

pub returns-clause-server_stream : goal.returns-clause-server_stream
returns-clause-server_stream c = one_server_stream
