-- What a worker does for an operator.
use Rattle.std.specs.Prelude.{◌≡◌, ◌⊎◌, ℕ, List, [], Some}
use Rattle.okws_base.specs.Turns.{Behind}
use Rattle.okws_base.specs.declared.journal.Entry.{Entry}
use Rattle.okws_plan.specs.declared.configuration.Config.{Config}
use Rattle.okws_plan.specs.declared.event.OkdEvent.{OkdEvent}
use Rattle.okws_plan.specs.declared.event.PubdEvent.{PubdEvent}
use Rattle.okws_plan.specs.declared.event.PubdEvent.TheVariants as pubd
use Rattle.monitor_model.specs.declared.verdict.Published.TheVariants as published
use Rattle.monitor_model.specs.Pubd.{publish_at}
use Rattle.monitor_model.specs.Seen.{AtPubd}
use Rattle.admin_console.specs.declared.controls.Publishing.{Publishing}
use Rattle.admin_console.specs.declared.controls.Publishing.TheVariants as publishing
use Rattle.admin_console.specs.declared.controls.Relaunching.{Relaunching}
use Rattle.admin_console.specs.declared.controls.Relaunching.TheVariants as relaunching
use Rattle.admin_console.specs.declared.controls.Status.{Status}
use Rattle.named_columns.specs.Counts.{accepts, capped, logged, publications, ups}
use Rattle.launch_turns.specs.Looking.{LooksBy}
use Rattle.launch_turns.specs.declared.looking.Standing.{Standing}
use Rattle.okld_launch.specs.declared.answer.Launched.{Launched}
use Rattle.okld_launch.specs.declared.answer.Launched.TheVariants as launched
use Rattle.site_worker.specs.Lives.{Life, number_of, Sees, Starves}
use Rattle.site_worker.specs.Launching.{Asks, OnlyLauncher}
use Rattle.site_worker.specs.declared.hands.Counted.{Counted}

-- A publication of template t: an edition is entered at pubd, and is the next one there; where all are spent in what the worker then has seen of pubd, nothing is. Want of memory is noted, or there was none even for that, and nothing was done.
abbrev pub Publishes : Life → ℕ → List ℕ → Publishing → Life → Type 0
Publishes J t content (publishing.Edition n) K =
    (before : List (Entry PubdEvent)) × (published.Edition n ≡ publish_at before (Some t) content)
    × AtPubd (number_of J) (pubd.Publish t content) J.seen before K.seen × Sees K.seen J K
Publishes J t content publishing.EditionsSpent K =
    (published.EditionsSpent ≡ publish_at K.pubd (Some t) content) × Sees J.seen J K
Publishes J t content publishing.NoMemory K = Starves J K ⊎ (K ≡ J)

-- What an operator is told of a launch.
abbrev pub told_of : Launched → Relaunching
told_of (launched.Up k) = relaunching.Up k
told_of (launched.Dead n) = relaunching.Dead n
told_of launched.Spent = relaunching.Spent
told_of launched.NoMemory = relaunching.NoMemory

-- A relaunch of service s; or memory was refused for what it would note, and nothing was done.
abbrev pub Relaunches : Config → Life → ℕ → Relaunching → Life → Type 0
Relaunches C J s told K =
    ((answer : Launched) × (told ≡ told_of answer) × Asks C s answer J K)
    ⊎ ((told ≡ relaunching.NoMemory) × (K ≡ J))

-- What is counted of the journals of okd, pubd and oklogd, each as the worker has seen it then; at okd it has seen what it was shown. Nothing was entered.
pub record Counts (C : Config) (shown : List (Entry OkdEvent)) (t : Counted) (J K : Life) : Type 0 where
  pub accepts_are : t.accepts ≡ capped (accepts K.okd)
  pub launches_are : t.launches ≡ capped (ups K.okd)
  pub publications_are : t.publications ≡ capped (publications K.pubd)
  pub logged_are : t.logged ≡ capped (logged C K.oklogd)
  pub met : Behind shown K.okd
  pub sees : Sees J.seen J K

-- What is told of the site: in a turn at the launcher how many connections were looked behind, and how the services stand by what the launcher had seen at okd and by its journal; and then the counts of the columns' journals. Nothing was entered.
pub record Surveys (C : Config) (J : Life) (told : Status) (K : Life) : Type 0 where
  pub mid : Life
  pub standing : Standing
  pub shown : List (Entry OkdEvent)
  pub counted : Counted
  pub only : OnlyLauncher [] J mid
  pub looks : LooksBy C J.launcher told.connections standing shown mid.launcher
  pub counts : Counts C shown counted mid K
  pub columns_are : (told.accepts ≡ counted.accepts) × (told.launches ≡ counted.launches) × (told.publications ≡ counted.publications) × (told.logged ≡ counted.logged)
  pub standing_is : (told.up ≡ standing.up) × (told.down ≡ standing.down) × (told.dead ≡ standing.dead)
