-- The site of a drill.
use Rattle.std.specs.Prelude.{◌&&◌, ◌==◌, Bool, codes, length}
use Rattle.std.specs.List.{list_all}
use Rattle.okws_base.specs.Names.{is_name}
use Rattle.okws_base.specs.Past.{is_just}
use Rattle.okws_plan.specs.Configuration.{owner}
use Rattle.okws_plan.specs.Lines.{service_names}
use Rattle.okws_plan.specs.declared.configuration.Config.{Config}

-- The path of each of the two services is its own.
abbrev pub are_paths_owned : Config → Bool
are_paths_owned C = is_just 0 (owner C (codes "/guest")) && is_just 1 (owner C (codes "/other"))

-- Two services and two templates are declared, the services have names, and each has its path.
abbrev pub is_drilled_site : Config → Bool
is_drilled_site C = (length C.services == 2) && ((length C.templates == 2) && (list_all is_name (service_names C) && are_paths_owned C))
