use Rattle.std.proofs.Common.{List, subst, sym}
use Rattle.t32_base.specs.declared.process.Pid.{Pid}
use Rattle.log_processes.specs.Families.{KeepsFamily}
use Rattle.log_processes.proofs.Children.{family_follows, where_ok}
use Rattle.log_processes.proofs.families.follow.Goals as goal

pub returns-clause-keeps : goal.returns-clause-keeps
returns-clause-keeps c =
    where_ok c.take.result
    (λ after. subst (λ (births : List (Pid × Pid)). KeepsFamily c.args.family.now births c.args.entry.now) (sym after) (family_follows c.args.family.now c.args.entry.now)) c.take.ensures.ok
