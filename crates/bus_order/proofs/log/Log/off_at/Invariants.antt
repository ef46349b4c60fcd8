use Rattle.std.proofs.Common.{◌≡◌, take}
use Rattle.bus_order.specs.Script.{off_at}
use Rattle.bus_order.proofs.log.Log.off_at.Given as goal

abbrev pub invariant-loop-place : goal.invariant-loop-place
invariant-loop-place l = l.off ≡ off_at (take l.place l.self) l.k
