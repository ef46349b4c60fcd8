use Rattle.std.proofs.Common.{◌∙◌, ap, subst}
use Rattle.plain_kernel.specs.Kernel.{Kernel}
use Rattle.plain_kernel.specs.Still.{Reaches}
use Rattle.plain_kernel.specs.Maps.{booted_ttys, kernel_of}
use Rattle.plain_kernel.proofs.PidRoom.{boot_fits}
use Rattle.plain_kernel.proofs.Roots.{booted}
use Rattle.plain_kernel.proofs.Takers.{none_fresh}
use Rattle.plain_kernel.proofs.plain.default_run.Goals as goal

pub run_to_end-requires-clause-fits : goal.run_to_end-requires-clause-fits
run_to_end-requires-clause-fits c = boot_fits c.args.system.now c.in_ok-processes.processes.entries c.requires c.in_ok-processes.ensures.states c.in_ok-processes.ensures.room

pub run_to_end-requires-clause-none_takes : goal.run_to_end-requires-clause-none_takes
run_to_end-requires-clause-none_takes c = none_fresh c.in_ok-processes.processes.entries c.in_ok-processes.ensures.fresh

pub returns : goal.returns
returns c =
    let family : Kernel → Type 0 = λ k. Reaches k (kernel_of c.run_to_end.new.processes.entries c.run_to_end.new.ttys.entries) in
    subst family (booted c.args.system.now _ _ c.in_ok-processes.ensures.states (c.in_ok-ttys.ensures ∙ ap booted_ttys c.as_slice.ensures)) c.in_ok-run_to_end.ensures.reaches
