-- The verdicts of okd, looking back along its past J.
use Rattle.std.specs.Prelude.{ℕ, List, Option, Some, None}
use Rattle.okws_base.specs.declared.journal.Entry.{Entry}
use Rattle.okws_plan.specs.Configuration.{in_force, owner}
use Rattle.okws_plan.specs.declared.configuration.Config.{Config}
use Rattle.okws_plan.specs.declared.event.OkdEvent.{OkdEvent}
use Rattle.monitor_model.specs.declared.verdict.Way.{Way}
use Rattle.monitor_model.specs.declared.verdict.Way.TheVariants.{NotOwned, To, Down}
use Rattle.monitor_model.specs.Standing.{up_at_okd}

-- Where a request for s goes, by the incarnation that is up, if any.
abbrev pub way_up : ℕ → Option ℕ → Way
way_up s None = Down s
way_up s (Some k) = To s k

-- Where a request goes, by the owner of its path, if any.
abbrev pub way_of : List (Entry OkdEvent) → Option ℕ → Way
way_of J None = NotOwned
way_of J (Some s) = way_up s (up_at_okd J s)

-- An Accept is NotOwned where its path has no owner; To(s, k) where the owner's last Up or Down is Up(k); else Down(s).
abbrev pub accept_verdict : Config → List (Entry OkdEvent) → List ℕ → Way
accept_verdict C J path = way_of J (owner (in_force C J) path)
