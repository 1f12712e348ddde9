-- The texts of commands.
use Rattle.std.specs.Prelude.{◌≡◌, ◌<◌, ◌^◌, ℕ, true, List, [], ◌∷◌, codes, decimal}
use Rattle.std.specs.List.{join_with_byte}
use Rattle.okws_base.specs.Names.{is_name}
use Rattle.okws_plan.specs.Lines.{service_named}
use Rattle.okws_plan.specs.declared.configuration.Config.{Config}
use Rattle.admin_console.specs.Orders.{order_of, sized_order, relaunch_declared}
use Rattle.admin_console.specs.declared.order.Order.TheVariants.{Status, End, Stop}

-- `publish NAME LENGTH`, the number without leading zeros.
abbrev pub publish_text : List ℕ → ℕ → List ℕ
publish_text name size = join_with_byte 32 (codes "publish" ∷ name ∷ decimal size ∷ [])

-- `relaunch NAME`.
abbrev pub relaunch_text : List ℕ → List ℕ
relaunch_text name = join_with_byte 32 (codes "relaunch" ∷ name ∷ [])

-- Whatever is declared, commands with names are read as such: a publication of so many bytes under the name, a relaunch of the service with the name, the status, the end, and the stop.
pub record CommandsAreRead : Type 0 where
  pub publishes : (C : Config) (name : List ℕ) (size : ℕ) → is_name name ≡ true → size < 10 ^ 9 → order_of C (publish_text name size) ≡ sized_order C name size
  pub relaunches : (C : Config) (name : List ℕ) → is_name name ≡ true → order_of C (relaunch_text name) ≡ relaunch_declared (service_named C name)
  pub surveys : (C : Config) → order_of C (codes "status") ≡ Status
  pub ends : (C : Config) → order_of C (codes "end") ≡ End
  pub stops : (C : Config) → order_of C (codes "stop") ≡ Stop
