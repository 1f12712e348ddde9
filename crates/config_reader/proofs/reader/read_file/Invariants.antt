use Rattle.std.proofs.Common.{◌≡◌, ◌+◌, ◌≤◌, length}
use Rattle.okws_base.specs.declared.limit.TheConstants.{LONGEST_CONFIGURATION}
use Rattle.std.specs.Str.Lines.{lines}
use Rattle.config_reader.specs.Meaning.{meaning, read_from}
use Rattle.config_reader.proofs.reader.read_file.Given as goal

abbrev pub invariant-loop-rest : goal.invariant-loop-rest
invariant-loop-rest l = record {
  same : read_from (l.number + 1) l.draft (lines l.rest) ≡ meaning l.bytes;
  small : l.number + length l.rest ≤ LONGEST_CONFIGURATION;
}

abbrev pub decreases-loop-rest : goal.decreases-loop-rest
decreases-loop-rest l = length l.rest
