use Rattle.std.proofs.Common.{[], refl, arith}
use Rattle.okws_outer.proofs.Printed.{nothing_on}
use Rattle.play_script.specs.Reading.{script_reads}
use Rattle.okws_server.proofs.Off.{fails_lines}
use Rattle.okws_server.proofs.Said.{said_short}
use Rattle.okws_server.proofs.ScriptLines.{played_none, read_on, lines_more, breaks_within, lines_broken, reads_on}
use Rattle.okws_server.proofs.script.play_lines.Goals as goal

pub loop-rest-init : goal.loop-rest-init
loop-rest-init g c = record {
  so_far = record {
    reads = [];
    printed = [];
    parts = refl;
    number = refl;
    played = rw c.requires.first (played_none _ _);
    same = refl;
    on = nothing_on _;
  };
  short = omega arith;
}

pub play_read-requires-clause-short : goal.play_read-requires-clause-short
play_read-requires-clause-short g c = said_short c.args.config.now c.loop-rest.rest.now c.in_ok-read.read (script_reads c.args.config.now c.in_ok-read.behind.now) c.in_ok-read.ensures.is

pub loop-rest-preserved : goal.loop-rest-preserved
loop-rest-preserved g c = record {
  so_far = lines_more c.args.config.now c.args.play.now c.loop-rest.play c.play_read.new.play _ _ c.in_ok-read.read _ _ _ _ c.requires.config (reads_on _ _ _ _ _ _ _ _ _ c.in_ok-read.ensures.is c.loop-rest.invariant.so_far) c.in_ok-read.ensures.fits (read_on c.loop-rest.play _ c.in_ok-read.read _ _ _ c.in-None.is c.in_ok-broken.ensures);
  short = omega (arith, c.loop-rest.invariant.short, c.in_ok-read.ensures.shorter);
}

pub returns-in_err-broken : goal.returns-in_err-broken
returns-in_err-broken g c =
    fails_lines c.args.play.now c.play_read.new.play c.args.text.now _ _ c.from_residual-in_err-broken.result c.from_residual-in_err-broken.ensures.0
    (breaks_within c.args.config.now c.args.play.now c.loop-rest.play c.play_read.new.play c.args.text.now _ c.in_ok-read.read _ _ _ _ _ c.requires.config (reads_on _ _ _ _ _ _ _ _ _ c.in_ok-read.ensures.is c.loop-rest.invariant.so_far) c.in_err-broken.ensures)

pub returns-in-Some : goal.returns-in-Some
returns-in-Some g c =
    lines_broken c.args.config.now c.args.play.now c.loop-rest.play c.play_read.new.play c.args.text.now _ c.in_ok-read.read _ c.in-Some.rule _ _ _ _ c.requires.config c.in-Some.is (reads_on _ _ _ _ _ _ _ _ _ c.in_ok-read.ensures.is c.loop-rest.invariant.so_far) c.in_ok-broken.ensures
