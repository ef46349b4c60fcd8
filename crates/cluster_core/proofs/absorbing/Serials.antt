-- The pid of the next child of a cluster fits 32 bits.
use Rattle.std.proofs.Common.{◌≡◌, ◌^◌, ◌<◌, subst, sym, arith, true}
use Rattle.sys_text.specs.Valid.{is_system}
use Rattle.sys_text.proofs.Bounds.{system_bounds}
use Rattle.number_laws.proofs.NextPids.{pid_fits}
use Rattle.cluster_core.specs.View.{ClusterView}
use Rattle.cluster_core.specs.Work.{next_pid}
use Rattle.cluster_core.specs.Calls.{FollowsSome}

pub next_fits : (c : ClusterView) → is_system c.system ≡ true → (c.number).0 < (c.system).clusters → FollowsSome c → next_pid c.number c.places < 2 ^ 32
next_fits c valid has s =
    subst (λ places. next_pid c.number places < 2 ^ 32) (sym ((s.follows).log).places)
    (pid_fits c.system s.log c.number valid (s.open_log).0 (omega (arith, has, (system_bounds c.system valid).clusters)))
