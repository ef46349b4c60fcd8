-- A count that is raised.
use Rattle.std.proofs.Common.{ap, ◌∙◌, nat_cmp}
use Rattle.std.specs.Prelude.{max}
use Rattle.std.specs.FinMap.{put}
use Rattle.plain_kernel.proofs.Roots.{insert_put}
use Rattle.cert_sched.proofs.cert.raise.Goals as goal

-- src/cert.rt:207:1
pub returns-clause-ok : goal.returns-clause-ok
returns-clause-ok c =
    c.in_ok-insert.ensures.entries
    ∙ insert_put c.args.pid.0 c.max-steps.result c.args.done.now.entries
    ∙ ap (λ n. put nat_cmp c.args.pid.0 n c.args.done.now.entries) (c.max-steps.ensures ∙ ap (max c.args.at) c.steps_so_far.ensures)
