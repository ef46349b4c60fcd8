use Rattle.std.proofs.Common.{sym, ◌∙◌, subst}
use Rattle.rv_cpu.specs.Exec.{Calls, Traps, exec}
use Rattle.proc_state.specs.State.{state_of}
use Rattle.sys_calls.specs.Steps.{Marks}
use Rattle.sys_calls.proofs.Calling.{calls, marks_as, traps}
use Rattle.sys_calls.proofs.stepping.stopped.Goals as goal

pub returns-in-Trap-clause-marks : goal.returns-in-Trap-clause-marks
returns-in-Trap-clause-marks c =
    let is = traps (exec c.args.p.now.small.regs c.args.p.now.ram.bytes) c.in-Trap.code (sym c.in-Trap.is ∙ c.requires.stops.0) in
    sym (marks_as (state_of c.args.p.now) c.args.p.now.ram.dirty c.args.did (Traps c.in-Trap.code) c.requires.stops is)

pub returns-in-Call-clause-marks : goal.returns-in-Call-clause-marks
returns-in-Call-clause-marks c =
    let is = calls (exec c.args.p.now.small.regs c.args.p.now.ram.bytes) (sym c.in-Call.is ∙ c.requires.stops.0) in
    subst (λ m. Marks c.call.result m c.args.p.now.ram.dirty c.call.new.p.ram.dirty) (sym (marks_as (state_of c.args.p.now) c.args.p.now.ram.dirty c.args.did Calls c.requires.stops is)) c.call.ensures.marks
