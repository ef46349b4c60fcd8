use Rattle.std.proofs.Common.{◌≡◌, ◌∙◌, ap, eqb, sym}
use Rattle.t32_base.specs.declared.process.Status.TheVariants.{Live}
use Rattle.proc_state.specs.declared.process.Process.{Process}
use Rattle.proc_state.specs.State.{state_of}
use Rattle.sys_calls.specs.Next.{is_exit, step_by}
use Rattle.sys_calls.proofs.Ending.{live_stays}
use Rattle.sys_calls.proofs.stepping.exits_next.Goals as goal

pub returns-in-Live : goal.returns-in-Live
returns-in-Live c =
    let live : Live ≡ c.args.p.now.small.status = sym c.in-Live.is ∙ ap (λ (p : Process). p.small.status) c.p.view_is in
    sym (live_stays (state_of c.args.p.now) (eqb c.args.p.now.small.left 0)) ∙ ap (λ s. is_exit (step_by s (state_of c.args.p.now))) live
