use Rattle.std.proofs.Common.{ap, sym, ◌∙◌, option_map}
use Rattle.proc_state.specs.State.{state_of}
use Rattle.plain_kernel.specs.Kernel.{process_at}
use Rattle.plain_kernel.proofs.Entries.{lookup_state}
use Rattle.plain_kernel.proofs.plain.Plain.process.Goals as goal

pub returns : goal.returns
returns c = ap (option_map state_of) c.get.ensures.value ∙ sym (lookup_state c.args.pid.0 c.self.inside.processes.entries) ∙ ap (λ k. process_at k c.args.pid) c.self.view_is
