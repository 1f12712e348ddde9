-- What a line of the console says.
use Rattle.std.specs.Prelude.{◌<◌, ◌≤◌, ℕ, nat_le, nat_lt, List, [], ◌∷◌, length, codes, Option, Some, None, ⊤, if◌then◌else◌}
use Rattle.okws_base.specs.Value.{same_bytes}
use Rattle.okws_base.specs.declared.limit.TheConstants.{LONGEST_TEMPLATE}
use Rattle.okws_plan.specs.Configuration.{template_named}
use Rattle.okws_plan.specs.Lines.{service_named}
use Rattle.okws_plan.specs.declared.configuration.Config.{Config}
use Rattle.plain_text.specs.Words.{words, one_word, two_words}
use Rattle.plain_text.specs.Decimals.{number}
use Rattle.admin_console.specs.declared.order.TheConstants.{LONGEST_COMMAND}
use Rattle.admin_console.specs.declared.order.Order.{Order}
use Rattle.admin_console.specs.declared.order.Order.TheVariants.{Publish, Relaunch, Status, End, Stop, Refused}
use Rattle.admin_console.specs.declared.rule.Rule.{Rule}
use Rattle.admin_console.specs.declared.rule.Rule.TheVariants.{NoCommand, Undeclared, TooLong, CutShort, EditionsSpent, IncarnationsSpent}

-- The numbers of the rules.
abbrev pub rule_number : Rule → ℕ
rule_number NoCommand = 1
rule_number Undeclared = 2
rule_number TooLong = 3
rule_number CutShort = 4
rule_number EditionsSpent = 5
rule_number IncarnationsSpent = 6

-- A line that is no command; no bytes follow it.
abbrev pub no_command : Order
no_command = Refused NoCommand 0

-- A command that has no further word.
abbrev pub alone_order : Order → List (List ℕ) → Order
alone_order order [] = order
alone_order order (word ∷ more) = no_command

-- A relaunch of the service, where it is declared.
abbrev pub relaunch_declared : Option ℕ → Order
relaunch_declared None = Refused Undeclared 0
relaunch_declared (Some s) = Relaunch s

-- `relaunch`, with the name of a service.
abbrev pub relaunch_order : Config → Option (List ℕ) → Order
relaunch_order C None = no_command
relaunch_order C (Some name) = relaunch_declared (service_named C name)

-- So many bytes for the template, where it is declared and they aren't too many. The bytes of a publication that is refused are dropped.
abbrev pub publish_declared : Option ℕ → ℕ → Order
publish_declared None size = Refused Undeclared size
publish_declared (Some t) size = if nat_le size LONGEST_TEMPLATE then Publish t size else Refused TooLong size

-- A publication of so many bytes under a name.
abbrev pub sized_order : Config → List ℕ → ℕ → Order
sized_order C name size = publish_declared (template_named C name) size

-- A publication of so many bytes, where their number is one.
abbrev pub publish_sized : Config → List ℕ → Option ℕ → Order
publish_sized C name None = no_command
publish_sized C name (Some size) = sized_order C name size

-- `publish`, with the name of a template and a number of 1 to 9 digits.
abbrev pub publish_order : Config → Option (List ℕ × List ℕ) → Order
publish_order C None = no_command
publish_order C (Some parts) = publish_sized C parts.0 (number parts.1)

-- The words of a line.
abbrev pub words_order : Config → List (List ℕ) → Order
words_order C [] = no_command
words_order C (word ∷ parts) =
    if same_bytes word (codes "publish") then publish_order C (two_words parts)
    else if same_bytes word (codes "relaunch") then relaunch_order C (one_word parts)
    else if same_bytes word (codes "status") then alone_order Status parts
    else if same_bytes word (codes "end") then alone_order End parts
    else if same_bytes word (codes "stop") then alone_order Stop parts
    else no_command

-- What a line says, which has neither its LF nor the CR before that: a line over 256 bytes is no command.
unfoldable pub order_of : Config → List ℕ → Order
order_of C line = if nat_lt LONGEST_COMMAND (length line) then no_command else words_order C (words line)

-- What a line says names what is declared, and no publication is longer than a template may be.
abbrev pub OrderFits : Config → Order → Type 0
OrderFits C (Publish t size) = (t < length C.templates) × (size ≤ LONGEST_TEMPLATE)
OrderFits C (Relaunch s) = s < length C.services
OrderFits C Status = ⊤
OrderFits C End = ⊤
OrderFits C Stop = ⊤
OrderFits C (Refused rule size) = ⊤
