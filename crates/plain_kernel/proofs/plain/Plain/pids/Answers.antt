use Rattle.std.proofs.Common.{◌≡◌, ◌∙◌, ap, subst, map, List}
use Rattle.std.specs.Prelude.{IfOk}
use Rattle.t32_base.specs.declared.process.Pid.{Pid}
use Rattle.plain_kernel.specs.Kernel.{Kernel}
use Rattle.plain_kernel.proofs.Turns.{pids_are}
use Rattle.plain_kernel.proofs.plain.Plain.pids.Goals as goal

pub returns : goal.returns
returns c =
    let family : List Pid → Type 0 = λ l. IfOk c.pids_of.result (λ pids. pids ≡ l) in
    subst family (pids_are c.self.inside.processes.entries ∙ ap (λ (k : Kernel). map (λ e. e.0) k.processes) c.self.view_is) c.pids_of.ensures
