use Rattle.config_reader.proofs.SoundMeaning.{sound_read, ruled_read}
use Rattle.config_reader.proofs.reader.read.Goals as goal

pub returns-clause-sound : goal.returns-clause-sound
returns-clause-sound c = sound_read c.args.bytes.now c.read_file.result c.read_file.ensures

pub returns-clause-ruled : goal.returns-clause-ruled
returns-clause-ruled c = ruled_read c.args.bytes.now c.read_file.result c.read_file.ensures
