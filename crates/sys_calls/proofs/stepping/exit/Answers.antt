use Rattle.std.proofs.Common.{◌∙◌, ap}
use Rattle.proc_state.specs.declared.process.Process.{Process}
use Rattle.proc_state.specs.State.{state_of}
use Rattle.sys_calls.proofs.Ending.{exit_closes}
use Rattle.sys_calls.proofs.stepping.exit.Goals as goal

pub unreachable-requires : goal.unreachable-requires
unreachable-requires c =
    let closes = exit_closes (state_of c.args.p.now) c.requires in
    c.in_default.not-Closing closes.0 (ap (λ (p : Process). p.small.status) c.p.view_is ∙ closes.1)
