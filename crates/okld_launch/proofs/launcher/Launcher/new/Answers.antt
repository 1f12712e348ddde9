use Rattle.std.proofs.Common.{◌∙◌, length, refl, ap, false}
use Rattle.std.specs.Prelude.{replicate}
use Rattle.okld_launch.proofs.Begins.{launcher_of, unused_kept}
use Rattle.okld_launch.proofs.Failing.{none_failed}
use Rattle.okld_launch.proofs.Kin.{kin_none}
use Rattle.okld_launch.proofs.KinChange.{idle_of}
use Rattle.okld_launch.proofs.Caused.{unused_caused}
use Rattle.okld_launch.proofs.OnWay.{told_first}
use Rattle.okld_launch.proofs.Pieces.{whole_none}
use Rattle.launch_crew.specs.Crews.{crew_of}
use Rattle.okld_launch.proofs.Faults.{no_faults}
use Rattle.okld_launch.proofs.launcher.Launcher.new.Goals as goal

pub invariant_of-result : goal.invariant_of-result
invariant_of-result g c = record {
  site_is = c.requires.site;
  seed_is = c.requires.seed;
  few = c.requires.few;
  failed = none_failed g.N.Staffed.children c.args.crew.staff.family c.args.journal.past c.requires.none c.requires.children;
  keeps = unused_kept g.N.Numbered.site g.N.Numbered.launcher (launcher_of c.args.journal c.args.crew.recorder c.args.crew.staff c.in-Ok.ups.items) c.args.crew.recorder c.args.crew.staff
      c.requires.config c.requires.none refl c.requires.unused c.requires.spare (c.in-Ok.ensures.items_if_clones_equal (λ y h. h) ∙ ap (λ n. replicate n 0) c.services-services.ensures.is);
  caused = unused_caused g.N.Numbered.site g.N.Numbered.launcher (launcher_of c.args.journal c.args.crew.recorder c.args.crew.staff c.in-Ok.ups.items) c.args.crew.recorder c.requires.none refl c.requires.unused (c.in-Ok.ensures.items_if_clones_equal (λ y h. h) ∙ ap (λ n. replicate n 0) c.services-services.ensures.is);
  attended = c.requires.attended;
  kin = kin_none g.N.Numbered.site g.N.Numbered.run_seed g.N.Staffed.children c.args.journal.past (crew_of c.args.crew.recorder c.args.crew.staff) c.requires.none c.requires.children (idle_of (crew_of c.args.crew.recorder c.args.crew.staff) c.requires.unused.watch_is.unlinked c.requires.attended) c.requires.unused.none;
  faults = no_faults g.N.Staffed.children c.args.journal.past (length g.N.Numbered.site.services) g.N.Numbered.launcher (crew_of c.args.crew.recorder c.args.crew.staff) c.requires.none c.requires.children c.requires.unused.watch_is;
}

pub returns-clause-closed : goal.returns-clause-closed
returns-clause-closed g c = record {
  whole = whole_none g.N.Numbered.site g.N.Numbered.run_seed (λ s k. false) c.args.journal.past c.args.crew.recorder.watch.cells c.args.crew.recorder.own c.requires.none c.requires.unused.none (λ s k. refl);
  attended = c.requires.attended;
  told = told_first g.N.Staffed.children (crew_of c.args.crew.recorder c.args.crew.staff) c.requires.children;
}
