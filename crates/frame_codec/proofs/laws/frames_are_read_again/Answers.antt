use Rattle.frame_codec.proofs.Apart.{is_read_again, is_service_read_again}
use Rattle.frame_codec.proofs.laws.frames_are_read_again.Goals as goal

pub returns-clause-server : goal.returns-clause-server
returns-clause-server c = is_read_again

pub returns-clause-service : goal.returns-clause-service
returns-clause-service c = is_service_read_again
