-- What a search that found an order says.
use Rattle.std.specs.Prelude.{List}
use Rattle.hg_calls.specs.declared.call.Call.{Call}
use Rattle.hg_order.specs.declared.found.Found.{Found}
use Rattle.hg_order.specs.declared.found.Found.TheVariants as found
use Rattle.hg_machine.specs.Policy.{Policy}
use Rattle.hg_order.specs.Orders.{Explains}

-- an order that is found explains the calls
abbrev pub IsRight : Policy → List Call → Found → Type 0
IsRight policy calls (found.Order order) = Explains policy calls order.items
IsRight policy calls (found.Nothing front) = Unit {0}
IsRight policy calls found.GivenUp = Unit {0}
