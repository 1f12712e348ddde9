-- What is known in each state of a launch.
use Rattle.std.proofs.Common.{◌≡◌, ◌∙◌, ℕ, ◌+◌, ◌<◌, ◌≤◌, length, refl, sym, ap, subst, arith}
use Rattle.okws_base.specs.declared.limit.TheConstants.{MOST_INCARNATIONS, MOST_PROXIES}
use Rattle.okws_plan.specs.declared.configuration.Config.{Config}
use Rattle.okws_plan.specs.declared.event.LauncherEvent.TheVariants as event
use Rattle.monitor_model.specs.Launcher.{begun}
use Rattle.launch_journal.specs.Launches.{Launches, Allows, entered}
use Rattle.launch_journal.specs.declared.next.Next.TheVariants as next
use Rattle.launch_crew.specs.Coming.{came_up}
use Rattle.launch_crew.specs.Crews.{Under}
use Rattle.launch_crew.specs.Told.{TellsMore}
use Rattle.okld_launch.specs.Causing.{BrokeOff}
use Rattle.okld_launch.specs.Launchers.{LauncherIs}
use Rattle.okws_outer.specs.Families.{Family}
use Rattle.okld_launch.specs.Kin.{Unstarted}
use Rattle.okld_launch.specs.States.{LaunchIs, IsBegun, IsStill, GoesOn}
use Rattle.okld_launch.proofs.Begins.{begun_here}

-- the launch of s as incarnation k
abbrev pub launch_of : LauncherIs → ℕ → ℕ → LaunchIs
launch_of l s k = record { launcher = l; service = s; incarnation = k }

-- a step that took so many items of the room
pub begins_on : (C : Config) (m n : ℕ) (l l' : LauncherIs) (s k : ℕ) → IsBegun C m (launch_of l s k) → l'.journal ≡ l.journal → l.crew.room + n ≤ l'.crew.room + m → IsBegun C n (launch_of l' s k)
begins_on C m n l l' s k h journal room = record {
  service_is = h.service_is;
  counted = h.counted;
  most = h.most;
  begun_is = h.begun_is ∙ sym (ap (λ (j : Launches). begun j.past s) journal);
  entry = subst (λ (j : Launches). 0 < j.room) (sym journal) h.entry;
  room = omega (arith, h.room, room);
}

one_more : (a b : ℕ) → a ≡ b + 1 → 0 < a
one_more a b is = omega (arith, is)

at_most : (a b c : ℕ) → a ≡ b + 1 → b < c → a ≤ c
at_most a b c is less = omega (arith, is, less)

pub still : (C : Config) (first : Family) (s k : ℕ) (m l : LauncherIs) → s < length C.services → Allows C m.journal.past s next.Begin → k ≡ begun m.journal.past s + 1 → l.journal ≡ entered m.journal (event.Begun s k)
    → 2 ≤ m.journal.room → MOST_PROXIES + 4 + (MOST_PROXIES + 2 + (MOST_PROXIES + 4)) + length C.services ≤ m.crew.room → l.crew.room ≡ m.crew.room → Under s k l.crew
    → BrokeOff (came_up l.crew.sat) l.journal.past s k → Unstarted s k first l.crew.family → IsStill C first (launch_of l s k)
still C first s k m l within allows is journal entries items room under fresh unstarted = record {
  begins = record {
    service_is = within;
    counted = one_more k (begun m.journal.past s) is;
    most = at_most k (begun m.journal.past s) MOST_INCARNATIONS is allows.0;
    begun_is = sym (ap (λ (j : Launches). begun j.past s) journal ∙ begun_here m.journal.holder s k m.journal.past is);
    entry = subst (λ (j : Launches). 0 < j.room) (sym journal) (omega (arith, entries));
    room = omega (arith, items, room);
  };
  under = under;
  fresh = fresh;
  unstarted = unstarted;
}

-- nothing more was entered, and no less is told of the children
pub goes_on : (l l' : LauncherIs) (s k : ℕ) → l'.journal ≡ l.journal → TellsMore l.crew.family l'.crew.family → GoesOn (launch_of l s k) (launch_of l' s k)
goes_on l l' s k journal told = record { service_is = refl; incarnation_is = refl; journal_is = journal; told = told }
