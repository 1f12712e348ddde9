use Rattle.std.proofs.Common.{◌+◌, true, map}
use Rattle.std.specs.Prelude.{vec_len}
use Rattle.std.specs.Arc.{arc_value}
use Rattle.site_making.specs.Keepers.{are_steady, faults_at, keeper_of}
use Rattle.okws_serve.proofs.serve.serve_site.Given as goal

abbrev pub ghosts-serve_numbered-N-Numbered : goal.ghosts-serve_numbered-N-Numbered
ghosts-serve_numbered-N-Numbered g a = record { launcher = vec_len a.outfit.doors + 1; site = arc_value a.site.now; run_seed = a.seed.now }

abbrev pub ghosts-serve_numbered-N-Backed : goal.ghosts-serve_numbered-N-Backed
ghosts-serve_numbered-N-Backed g a = record {
  tells = true;
  steady = are_steady (map (keeper_of g.K.Keeper.tables g.K.Keeper.told g.K.Keeper.faults g.K.Keeper.steady) a.outfit.keepers.items);
  keeper_faults = faults_at (map (keeper_of g.K.Keeper.tables g.K.Keeper.told g.K.Keeper.faults g.K.Keeper.steady) a.outfit.keepers.items);
  sink_faults = g.S.Sink.faults a.outfit.log;
}

abbrev pub ghosts-serve_numbered-N-Staffed : goal.ghosts-serve_numbered-N-Staffed
ghosts-serve_numbered-N-Staffed g a = record { children = g.F.Children.family a.outfit.children }
