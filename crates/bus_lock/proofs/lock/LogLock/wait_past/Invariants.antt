use Rattle.std.proofs.Common.{◌≡◌, ◌≤◌}
use Rattle.bus_lock.specs.Views.{retold}
use Rattle.bus_lock.specs.Seats.{view_of, told}
use Rattle.bus_lock.proofs.lock.LogLock.wait_past.Given as goal

abbrev pub invariant-loop : goal.invariant-loop
invariant-loop g l = (l.seat.seat.table_id ≡ l.initial.seat.seat.table_id) × (told l.initial.seat ≤ told l.seat) × (view_of l.seat ≡ retold (view_of l.initial.seat) (told l.seat))
