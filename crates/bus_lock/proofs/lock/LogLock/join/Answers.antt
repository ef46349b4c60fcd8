use Rattle.std.proofs.Common.{rules, ap, ◌∙◌}
use Rattle.bus_lock.proofs.Joins.{joins}
use Rattle.bus_lock.proofs.lock.LogLock.join.Goals as goal

pub join_seat-requires : goal.join_seat-requires
join_seat-requires g c = (
  search rules,
  search rules,
  search rules,
  search rules,
  joins _ _ _ _ _ _ _ _ _ c.args.seat.now.live c.requires.out.0 c.into_place.ensures.live (ap (λ p. p.me.0.inside) c.into_place.ensures.place ∙ c.requires.out.1),
)
