use Rattle.std.proofs.Common.{arith, ap, ◌∙◌, length}
use Rattle.plain_kernel.proofs.Roots.{few_roots}
use Rattle.channel_table.specs.Changes.{pids_differ}
use Rattle.cert_sched.proofs.RootPids.{root_pids_differ, roots_of-length}
use Rattle.cert_sched.proofs.start.placement_at_boot.Goals as goal

pub boot-requires-clause-serials : goal.boot-requires-clause-serials
boot-requires-clause-serials c =
    let are = c.deref.ensures.value ∙ c.in_ok-placed.ensures in
    omega (arith, ap length are, roots_of-length c.args.system.now, few_roots c.args.system.now c.requires.valid)

pub boot-requires-clause-pids : goal.boot-requires-clause-pids
boot-requires-clause-pids c =
    ap pids_differ (c.deref.ensures.value ∙ c.in_ok-placed.ensures) ∙ root_pids_differ c.args.system.now c.requires.valid
