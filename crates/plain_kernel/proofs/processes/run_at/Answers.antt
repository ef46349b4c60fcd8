use Rattle.std.proofs.Common.{arith, ap, sym}
use Rattle.proc_state.specs.Mail.{MailState}
use Rattle.proc_state.specs.State.{state_of}
use Rattle.sys_calls.specs.Steps.{marked}
use Rattle.sys_calls.proofs.Bearing.{silently_lightens}
use Rattle.sys_calls.proofs.Running.{silently-marked}
use Rattle.plain_kernel.proofs.processes.run_at.Goals as goal

pub returns-clause-runs : goal.returns-clause-runs
returns-clause-runs c =
    let h = c.get_mut.follows.holds c.run_instructions.new.p in
    let silent = silently-marked c.run_instructions.result (marked c.in-Some.process.now) (marked c.run_instructions.new.p) c.run_instructions.ensures.silent in
    record {
      was = c.in-Some.process.now;
      now = c.run_instructions.new.p;
      changes = record { found = sym c.in-Some.ensures.value; entries = h.0; ordered = c.get_mut.ensures.ordered };
      silent = silent;
      lighter = omega (arith, silently_lightens c.run_instructions.result (state_of c.in-Some.process.now) (state_of c.run_instructions.new.p) silent, ap (λ (m : MailState). m.next) c.run_instructions.ensures.mail);
    }
