use Rattle.std.proofs.Common.{◌≡◌, ◌-◌, vec_len}
use Rattle.bus_lock.specs.Views.{new_view}
use Rattle.bus_lock.specs.Seats.{AllFresh, view_of, seat_origin, IsOf}
use Rattle.bus_lock.proofs.lock.LogLock.deal.Given as goal

abbrev pub invariant-loop-name : goal.invariant-loop-name
invariant-loop-name g l =
    IsOf l.self l.rest × (view_of l.rest ≡ new_view l._name (l.seats - l._name) (seat_origin l.fn.first)) × (vec_len l.given ≡ l._name)
    × AllFresh l.self (seat_origin l.fn.first) l.given.items
