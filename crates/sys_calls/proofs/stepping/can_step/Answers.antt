use Rattle.std.proofs.Common.{◌≡◌, ◌∙◌, ap, eqb, not, sym}
use Rattle.t32_base.specs.declared.process.Status.TheVariants.{Live}
use Rattle.proc_state.specs.declared.process.Process.{Process}
use Rattle.proc_state.specs.State.{state_of}
use Rattle.sys_calls.specs.Next.{has_step, step_by}
use Rattle.sys_calls.proofs.Ending.{live_steps}
use Rattle.sys_calls.proofs.stepping.can_step.Goals as goal

pub returns-in-Live : goal.returns-in-Live
returns-in-Live c =
    let live : Live ≡ c.args.p.now.small.status = sym c.in-Live.is ∙ ap (λ (p : Process). p.small.status) c.p.view_is in
    ap not c.waits_next.ensures ∙ live_steps (state_of c.args.p.now) (eqb c.args.p.now.small.left 0) ∙ ap (λ s. has_step (step_by s (state_of c.args.p.now))) live
