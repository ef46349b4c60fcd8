use Rattle.std.proofs.Common.{◌≡◌}
use Rattle.bus_lock.specs.Seats.{IsOf, told, view_of}
use Rattle.bus_lock.specs.Views.{retold}
use Rattle.cluster_threads.proofs.following.sleep.Given as goal

abbrev pub invariant-loop : goal.invariant-loop
invariant-loop g l =
    (goal.iterator-loop g).can_next l.iterator' × (goal.iterator-loop g).is_finite l.iterator' × IsOf l.fn.lock l.seat × (view_of l.seat ≡ retold (view_of l.fn.seat) (told l.seat))
