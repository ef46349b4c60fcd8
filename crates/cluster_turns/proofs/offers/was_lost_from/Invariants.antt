use Rattle.std.proofs.Common.{◌≡◌, drop}
use Rattle.cert_sched.specs.Losses.{was_lost_in}
use Rattle.cluster_turns.proofs.offers.was_lost_from.Given as goal

-- none before the place loses it
abbrev pub invariant-loop-place : goal.invariant-loop-place
invariant-loop-place l = was_lost_in (drop l.place (l.bus).log) l.number ≡ was_lost_in (drop l.from (l.bus).log) l.number
