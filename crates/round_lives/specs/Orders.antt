-- What was ordered at a console, and what became of it: the commands that were taken there, and what each was answered.
use Rattle.std.specs.Prelude.{◌≡◌, ◌⊎◌, ◌==◌, ℕ, Bool, false, List, [], ◌∷◌, ◌++◌, length, filter_map, reverse, if◌then◌else◌, Some, None, option_map, IsTrue}
use Rattle.std.specs.declared.option.Option.{Option}
use Rattle.std.specs.Io.KnownBytes.{Appends, Consumes}
use Rattle.okws_plan.specs.declared.configuration.Config.{Config}
use Rattle.okws_outer.specs.Conns.{ConnWire}
use Rattle.okws_outer.specs.Streams.{AppendsPrefix, Rose}
use Rattle.monitor_model.specs.Outside.{Order, Publishes, Relaunches, Became, Obeyed, Refused, Starved, Ordered, come_of, item_order}
use Rattle.monitor_model.specs.Worker.{Piece}
use Rattle.worker_lives.specs.Listing.{first_item}
use Rattle.admin_console.specs.Answers.{answer_text}
use Rattle.admin_console.specs.Orders.{order_of}
use Rattle.admin_console.specs.Steps.{AreFollowing, Command, Ends, IsCut, RunsOut, Stops}
use Rattle.admin_console.specs.declared.answer.Answer.{Answer}
use Rattle.admin_console.specs.declared.answer.Answer.TheVariants as answer
use Rattle.admin_console.specs.declared.order.Order.{Order as Said}
use Rattle.admin_console.specs.declared.order.Order.TheVariants as said
use Rattle.site_worker.specs.Commands.{Oversees}
use Rattle.site_worker.specs.Lives.{Life}
use Rattle.site_worker.specs.declared.console.Overseen.{Overseen}
use Rattle.site_worker.specs.declared.console.Overseen.TheVariants as overseen
use Rattle.round_lives.specs.Living.{IsOf, LivesOn}
use Rattle.round_lives.specs.Laws.{is_accepted}

-- A command that was taken from a console: its line, the bytes that follow it, and what it was answered.
pub record Taken : Type 0 where
  pub line : List ℕ
  pub bytes : List ℕ
  pub answer : Answer

-- What a line that says this orders, with the bytes that follow it: nothing where it asks how the site stands, ends the console or the run, is refused by its words, or fewer bytes follow than it says.
abbrev pub ordered_by : Said → List ℕ → Option Order
ordered_by (said.Publish t size) bytes = if length bytes == size then Some (Publishes t bytes) else None
ordered_by (said.Relaunch s) bytes = Some (Relaunches s)
ordered_by said.Status bytes = None
ordered_by said.End bytes = None
ordered_by said.Stop bytes = None
ordered_by (said.Refused rule size) bytes = None

-- What became of an order that was answered so.
abbrev pub became_of : Answer → Became
became_of (answer.Published n) = Obeyed
became_of (answer.Relaunched k) = Obeyed
became_of (answer.Dead tries) = Obeyed
became_of (answer.Refused line rule) = Refused
became_of answer.NoMemory = Starved
became_of (answer.Status t) = Obeyed
became_of (answer.Stopping n) = Obeyed

-- The order of a command whose line says this, with what became of it, if it is one.
abbrev pub order_by : Said → Taken → Option Ordered
order_by says one = option_map (λ (order : Order). record { order = order; became = became_of one.answer }) (ordered_by says one.bytes)

-- The same of a command, by what its line says.
abbrev pub order_in : Config → Taken → Option Ordered
order_in C one = order_by (order_of C one.line) one

-- The orders among these commands, the last one first, in order.
abbrev pub orders_in : Config → List Taken → List Ordered
orders_in C commands = filter_map (order_in C) (reverse commands)

-- Of the bytes that follow a line as many were taken as it says, or all that were left.
abbrev pub AreBehind : Said → List ℕ → Option (List ℕ) → Type 0
AreBehind (said.Publish t size) bytes left = AreFollowing size bytes left
AreBehind (said.Relaunch s) bytes left = bytes ≡ []
AreBehind said.Status bytes left = bytes ≡ []
AreBehind said.End bytes left = ⊥
AreBehind said.Stop bytes left = ⊥
AreBehind (said.Refused rule size) bytes left = AreFollowing size bytes left

-- The next command, which is neither `end` nor `stop`, was taken from a console.
pub record Takes (C : Config) (old new : ConnWire) (before after : ℕ) (one : Taken) : Type 0 where
  pub command : Command old new before after one.line one.bytes
  pub behind : AreBehind (order_of C one.line) one.bytes new.left

-- Commands, the last one first, were taken from a console, each of which was answered by its line.
abbrev pub AreAnswered : Config → List Taken → ConnWire → ConnWire → ℕ → ℕ → Type 0
AreAnswered C [] w x before after = (x ≡ w) × (after ≡ before)
AreAnswered C (one ∷ more) w x before after =
    (y : ConnWire) × (mid : ℕ) × AreAnswered C more w y before mid × Takes C y x mid after one × Appends y.given x.given (answer_text one.answer)

-- How a console ended behind these commands: by `end` or the end of its input; or by `stop`, which is not answered yet; or a call of it failed and was counted, behind a command of whose answer just a front was given, or where the bytes that were taken are no whole command.
abbrev pub EndsBehind : Config → List Taken → ConnWire → ConnWire → ℕ → ℕ → Overseen → Type 0
EndsBehind C [] w x before after overseen.Finished = (Ends C w x before after ⊎ RunsOut w x before after) × (x.given ≡ w.given)
EndsBehind C (one ∷ more) w x before after overseen.Finished = ⊥
EndsBehind C [] w x before after overseen.Stop = Stops C w x before after × (x.given ≡ w.given)
EndsBehind C (one ∷ more) w x before after overseen.Stop = ⊥
EndsBehind C [] w x before after overseen.ConsoleFault = (bytes : List ℕ) × Consumes w.left x.left bytes × IsCut C bytes × (x.given ≡ w.given) × Rose w.faults x.faults
EndsBehind C (one ∷ []) w x before after overseen.ConsoleFault = Takes C w x before after one × AppendsPrefix w.given x.given (answer_text one.answer) × Rose w.faults x.faults
EndsBehind C (one ∷ next ∷ more) w x before after overseen.ConsoleFault = ⊥

-- These are the orders that were taken from a console, in order, with what became of each by its answer, where the console ended so; the lines that were read before are counted, and those after it.
pub record Reads (C : Config) (w x : ConnWire) (before after : ℕ) (how : Overseen) (orders : List Ordered) : Type 0 where
  pub answered : List Taken
  pub last : List Taken
  pub mid : ConnWire
  pub lines : ℕ
  pub commands : AreAnswered C answered w mid before lines
  pub ends : EndsBehind C last mid x lines after how
  pub orders_are : orders ≡ orders_in C (last ++ answered)

-- The orders that these pieces of a list carried out, the newest piece first, in order.
abbrev pub carried_out : List Piece → List Order
carried_out pieces = filter_map (λ (piece : Piece). item_order (first_item piece)) (reverse pieces)

-- The life of worker w went on by pieces none of which is an Accept, and what they carried out comes of these orders.
pub record Steers (C : Config) (w : ℕ) (orders : List Ordered) (J K : Life) : Type 0 where
  pub lives : LivesOn C w is_accepted J K
  pub comes : IsTrue (come_of false orders (carried_out lives.pieces))

-- What a worker that oversaw a console carried out comes of the orders that were taken from it.
abbrev pub ConsolesAreObeyed : Type 0
ConsolesAreObeyed = (C : Config) (w : ℕ) (x y : ConnWire) (before after : ℕ) (J K : Life) (how : Overseen) → IsOf w J → Oversees C x y before after J K how
    → (orders : List Ordered) × Reads C x y before after how orders × Steers C w orders J K

-- What comes of orders comes of them also where the console failed, when the last ones may have come to nothing.
abbrev pub OrdersComeAnyway : Type 0
OrdersComeAnyway = (failed : Bool) (orders : List Ordered) (done : List Order) → IsTrue (come_of false orders done) → IsTrue (come_of failed orders done)
