use Rattle.std.proofs.Common.{◌≡◌, ◌≤◌, ◌<◌, ◌⊎◌, ◌-◌, ◌^◌, length, true, is_some}
use Rattle.cluster_core.specs.View.{head_of}
use Rattle.cluster_turns.specs.Along.{IsPosting, IsSame, StaysAlive}
use Rattle.cluster_turns.specs.Offers.{HasGrown}
use Rattle.cluster_turns.specs.Turns.{GoesOwn, SendsOwn}
use Rattle.cluster_turns.proofs.turn.send.Given as goal

abbrev pub invariant-posts : goal.invariant-posts
invariant-posts g l = record {
  root : g.P.Port.root l.port ≡ g.P.Port.root l.fn.port;
  sits : g.P.Port.sits l.fn.cluster.number l.port;
  posting : IsPosting (g.P.Port.shows l.port) (g.P.Port.from l.port) (g.P.Port.bus l.port) l.cluster;
  same : IsSame l.fn.cluster l.cluster;
  order : length (g.P.Port.bus l.fn.port).log ≤ length (g.P.Port.bus l.port).log;
  some : is_some (head_of l.fn.cluster.queue) ≡ true → (is_some (head_of l.cluster.queue) ≡ true) ⊎ (length (g.P.Port.bus l.fn.port).log < length (g.P.Port.bus l.port).log);
  grows : HasGrown (g.P.Port.bus l.fn.port) (g.P.Port.bus l.port);
  life : StaysAlive l.fn.cluster.number (g.P.Port.bus l.port).log l.fn.cluster.cursor l.cluster.cursor;
  own : g.P.Port.alone ≡ true → GoesOwn (g.P.Port.bus l.fn.port) → SendsOwn l.fn.cluster.number (g.P.Port.bus l.fn.port) (g.P.Port.bus l.port);
}

-- each attempt finds a longer log
abbrev pub decreases-posts : goal.decreases-posts
decreases-posts g l = 2 ^ 64 - length (g.P.Port.bus l.port).log
