use Rattle.std.proofs.Common.{Bool, subst, sym}
use Rattle.counted_steps.specs.Counted.{ComesToFork, MakesSilently}
use Rattle.counted_steps.proofs.Marked.{comes}
use Rattle.counted_steps.proofs.counted.come_to_fork.Goals as goal

pub returns-then-branch : goal.returns-then-branch
returns-then-branch c =
    subst (λ (b : Bool). ComesToFork c.args.steps c.args.p.now b c.make_silent_steps.new.p) (sym c.forks_next.ensures)
    (comes c.args.steps c.args.p.now c.make_silent_steps.new.p (subst (λ (b : Bool). MakesSilently c.args.steps c.args.p.now b c.make_silent_steps.new.p) c.if-branch.true c.in_ok-make_silent_steps.ensures))
