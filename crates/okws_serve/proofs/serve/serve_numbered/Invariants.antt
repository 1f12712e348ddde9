use Rattle.site_locks.specs.Sat.{ids_of}
use Rattle.okws_serve.proofs.serve.serve_numbered.Given as goal

abbrev pub ghosts-serve_named : goal.ghosts-serve_named
ghosts-serve_named g a = record { ids = ids_of a.columns }
