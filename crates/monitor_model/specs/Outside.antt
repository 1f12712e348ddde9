-- What the outside tells of a server's run: how often its calls failed, which children ended, and what was ordered at the console.
use Rattle.std.specs.Prelude.{ℕ, Bool, true, false, List, [], ◌∷◌, ◌==◌, ◌&&◌, ◌||◌, Option, Some, None}
use Rattle.okws_base.specs.Value.{same_bytes}
use Rattle.okws_plan.specs.declared.event.PubdEvent.{PubdEvent}
use Rattle.okws_plan.specs.declared.event.PubdEvent.TheVariants as pubd
use Rattle.okws_plan.specs.declared.event.LauncherEvent.{LauncherEvent}
use Rattle.okws_plan.specs.declared.event.LauncherEvent.TheVariants as launcher
use Rattle.monitor_model.specs.declared.record.Own.{Own}
use Rattle.monitor_model.specs.declared.record.Own.TheVariants as own

-- What the operator orders: that a template has this content from now on, or that a service is launched anew.
pub data Order : Type 0 where
  Publishes : (t : ℕ) → (content : List ℕ) → Order
  Relaunches : (s : ℕ) → Order

-- What became of an order: it was carried out; it was refused since all editions of the template or all incarnations of the service are spent; or memory was refused.
pub data Became : Type 0 where
  Obeyed : Became
  Refused : Became
  Starved : Became

-- An order, and what became of it.
pub record Ordered : Type 0 where
  pub order : Order
  pub became : Became

-- What the outside tells of a run. `doors w`, `keepers p` and `children` are how much the count of door w rose, that of the keeper of proxy p, and those of the children and of their links together; none where a count stands at its last value. `ended s k` says that the child of incarnation k of s was asked, and has ended. `orders` are the whole commands that were taken from the console before its `end`, but for those that are refused by their words, in order; none where the console doesn't tell. `console_failed` says that the console's count rose.
pub record Outside : Type 0 where
  pub doors : ℕ → Option ℕ
  pub keepers : ℕ → Option ℕ
  pub children : Option ℕ
  pub ended : ℕ → ℕ → Bool
  pub orders : Option (List Ordered)
  pub console_failed : Bool

-- Two orders are the same.
abbrev pub same_order : Order → Order → Bool
same_order (Publishes t content) (Publishes u other) = (t == u) && same_bytes content other
same_order (Relaunches s) (Relaunches t) = s == t
same_order _ _ = false

-- The order is a relaunch.
abbrev pub is_relaunch : Order → Bool
is_relaunch (Publishes t content) = false
is_relaunch (Relaunches s) = true

-- The order that pubd's event carries out, if it does.
abbrev pub pubd_order : PubdEvent → Option Order
pubd_order (pubd.Publish t content) = Some (Publishes t content)
pubd_order _ = None

-- The order that the launcher's event carries out, if it does.
abbrev pub launcher_order : LauncherEvent → Option Order
launcher_order (launcher.Asked s) = Some (Relaunches s)
launcher_order _ = None

-- The order that an item carries out: a Publish or an Asked.
abbrev pub item_order : Own → Option Order
item_order (own.Pubd e) = pubd_order e
item_order (own.Launcher e) = launcher_order e
item_order _ = None

-- The first of these is this order, and the rest passes the test.
abbrev pub begins_with : Order → (List Order → Bool) → List Order → Bool
begins_with order rest [] = false
begins_with order rest (done ∷ more) = same_order order done && rest more

-- What was carried out may begin with the order, by what became of it: it does where it was obeyed; a relaunch that was refused may have been entered before, and where memory was refused there may be an entry or none.
abbrev pub may_begin_with : Order → Became → (List Order → Bool) → List Order → Bool
may_begin_with order Obeyed rest done = begins_with order rest done
may_begin_with order Refused rest done = rest done || (is_relaunch order && begins_with order rest done)
may_begin_with order Starved rest done = rest done || begins_with order rest done

-- Nothing more was carried out.
abbrev pub is_nothing : List Order → Bool
is_nothing [] = true
is_nothing (done ∷ more) = false

-- What was carried out comes of the orders, in order; a front of it where the console failed.
abbrev pub come_of : Bool → List Ordered → List Order → Bool
come_of failed [] done = is_nothing done
come_of failed (one ∷ more) done = (failed && is_nothing done) || may_begin_with one.order one.became (come_of failed more) done
