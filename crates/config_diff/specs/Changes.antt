-- In what a configuration differs from another one, but for what services may do.
use Rattle.std.specs.Prelude.{◌≡◌, ℕ, not, ◌==◌, if◌then◌else◌, List, Option, Some, None, Result, Ok, Err}
use Rattle.std.specs.Cmp.Lexicographic.{pointwise}
use Rattle.okws_base.specs.Value.{same_bytes}
use Rattle.config_reader.specs.Meaning.{meaning}
use Rattle.config_reader.specs.declared.error.Refusal.{Refusal}
use Rattle.okws_plan.specs.declared.configuration.Config.{Config}
use Rattle.config_diff.specs.Access.{access_of}
use Rattle.config_diff.specs.Sameness.{same_service, same_part, same_paths}
use Rattle.config_diff.specs.declared.access.Access.{Access}
use Rattle.config_diff.specs.declared.change.ChangeError.{ChangeError}
use Rattle.config_diff.specs.declared.change.ChangeError.TheVariants as change
use Rattle.config_diff.specs.declared.site.ProxyPart.TheVariants as part
use Rattle.config_diff.specs.declared.comparing.Difference.{Difference}
use Rattle.config_diff.specs.declared.comparing.Difference.TheVariants.{Services, Proxies, Tables, FirstRows, Queries, Templates, Retry, Paths}
use Rattle.config_diff.specs.declared.comparing.Regranted.{Regranted}
use Rattle.config_diff.specs.declared.comparing.Regranted.TheVariants.{Grants, Differs}

-- The first of the eight parts in which D differs from C, if any does.
abbrev pub first_difference : Config → Config → Option Difference
first_difference C D =
    if not (pointwise same_service C.services D.services) then Some Services
    else if not (pointwise (same_part part.Name) C.proxies D.proxies) then Some Proxies
    else if not (pointwise (same_part part.Tables) C.proxies D.proxies) then Some Tables
    else if not (pointwise (same_part part.FirstRows) C.proxies D.proxies) then Some FirstRows
    else if not (pointwise (same_part part.Queries) C.proxies D.proxies) then Some Queries
    else if not (pointwise same_bytes C.templates D.templates) then Some Templates
    else if not (C.retry == D.retry) then Some Retry
    else if not (same_paths C.paths D.paths) then Some Paths
    else None

-- What comes of a difference, if there is one, and of an access.
abbrev pub regranted_by : Option Difference → Access → Regranted
regranted_by None access = Grants access
regranted_by (Some what) access = Differs what

-- What D gives where C is in force: what services may do by it, or the first that differs.
abbrev pub regranted : Config → Config → Regranted
regranted C D = regranted_by (first_difference C D) (access_of D)

-- The access that comes of it, or that the site differs.
abbrev pub change_of : Regranted → Result Access ChangeError
change_of (Grants access) = Ok access
change_of (Differs what) = Err (change.Differs what)

-- The same by what a text means.
abbrev pub changed_by : Config → Result Config Refusal → Result Access ChangeError
changed_by C (Ok D) = change_of (regranted C D)
changed_by C (Err refusal) = Err (change.Refused refusal)

-- What services may do by a text where C is in force, or why it changes nothing.
abbrev pub changed : Config → List ℕ → Result Access ChangeError
changed C text = changed_by C (meaning text)

-- Why a text changed nothing: what is expected, or memory.
abbrev pub FailsChange : ChangeError → Result Access ChangeError → Type 0
FailsChange change.NoMemory expected = Unit {0}
FailsChange (change.Refused refusal) expected = expected ≡ Err (change.Refused refusal)
FailsChange (change.Differs what) expected = expected ≡ Err (change.Differs what)

-- What a reader of a change returned is what is expected, unless memory ran out.
abbrev pub GivesChange : Result Access ChangeError → Result Access ChangeError → Type 0
GivesChange (Ok access) expected = expected ≡ Ok access
GivesChange (Err error) expected = FailsChange error expected
