use Rattle.std.proofs.Common.{ap, arith, ◌∙◌, ◌+◌, ℕ}
use Rattle.t32_base.specs.declared.process.Pid.{Pid}
use Rattle.plain_kernel.proofs.Forked.{highest_key}
use Rattle.plain_kernel.proofs.births.child_after.Goals as goal

pub overflow_add-result : goal.overflow_add-result
overflow_add-result c = omega (arith, c.highest_of-highest.ensures, highest_key c.args.pid c.args.pid c.args.processes.now.entries, c.requires)

pub returns : goal.returns
returns c =
    let highest = c.highest_of-highest.ensures ∙ highest_key c.args.pid c.args.pid c.args.processes.now.entries in
    let next : ℕ → Pid = λ n. record { 0 = n + 16 } in
    ap next highest
