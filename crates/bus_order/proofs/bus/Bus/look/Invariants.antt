use Rattle.std.proofs.Common.{◌≡◌}
use Rattle.bus_order.specs.View.{IsLawful, looks}
use Rattle.bus_order.proofs.bus.Bus.look.Given as goal

abbrev pub invariant-loop : goal.invariant-loop
invariant-loop l = (l.self ≡ looks l.counter l.fn.self) × IsLawful l.self
