use Rattle.std.proofs.Common.{sym, ◌∙◌, ap, arith, Some}
use Rattle.proc_state.specs.State.{state_of}
use Rattle.rv_cpu.specs.Run.{machine_of}
use Rattle.sys_calls.proofs.Running.{ran_silently, none_made}
use Rattle.sys_calls.proofs.Passing.{stands_within}
use Rattle.proc_state.specs.declared.process.Process.{Process}
use Rattle.sys_calls.proofs.stepping.run_to_call.Goals as goal

pub returns-then-not-is_live-clause-silent : goal.returns-then-not-is_live-clause-silent
returns-then-not-is_live-clause-silent c = none_made _

pub returns-clause-silent : goal.returns-clause-silent
returns-clause-silent c =
    ran_silently c.instructions-made.result.0 (state_of c.args.p.now) c.args.p.now.ram.dirty (machine_of c.instructions-made.new.small.regs c.instructions-made.new.ram) (c.is_live.ensures.0 c.if-not-is_live.false) (omega (arith, c.at_most-most.ensures, c.instructions-made.ensures.made)) c.instructions-made.ensures.ran
    ∙ ap (λ s. Some (record { state = record (state_of c.args.p.now) { small = s; memory = c.instructions-made.new.ram.bytes }; marks = c.instructions-made.new.ram.dirty })) (sym c.instructions-made.ensures.small)

pub returns-clause-calls : goal.returns-clause-calls
returns-clause-calls c = λ is.
    let ran = c.instructions-made in
    let p : Process = c.args.p.now in
    let mid : Process = record { small = ran.new.small; ram = ran.new.ram; mail = p.mail; read = p.read; since = p.since } in
    stands_within p mid ran.result.0 c.at_most-most.result ran.result.1 (c.is_live.ensures.0 c.if-not-is_live.false) ran.ensures.made (omega (arith, c.at_most-most.ensures)) ran.ensures.small ran.ensures.stops ran.ensures.all (c.is_call.ensures is)
