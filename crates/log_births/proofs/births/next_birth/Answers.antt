use Rattle.std.proofs.Common.{ℕ, ◌∙◌, Bool, Option, Some, subst, sym}
use Rattle.proc_state.specs.declared.process.Process.{Process}
use Rattle.proc_state.specs.State.{state_of}
use Rattle.bus_msg.specs.declared.entry.Entry.{Entry}
use Rattle.log_births.specs.Births.{AnswersBirth, Bears, ForksBy}
use Rattle.log_births.proofs.Bearing.{birth_answered, birth_borne, birth_unborne, birth_unmade, birth_unnamed, birth_unsent}
use Rattle.log_births.proofs.births.next_birth.Goals as goal

pub returns-in_default-clause-decides : goal.returns-in_default-clause-decides
returns-in_default-clause-decides c = birth_unsent c.args.front.now c.args.limits c.args.head c.args.kept (state_of c.args.process.now) c.args.told (sym c.home_may.ensures ∙ c.in_default.is)

pub returns-in_default-child_may-clause-decides : goal.returns-in_default-child_may-clause-decides
returns-in_default-child_may-clause-decides c =
    birth_unnamed c.args.front.now c.args.limits c.args.head c.args.kept (state_of c.args.process.now) c.args.told c.in-Some.home (sym c.home_may.ensures ∙ c.in-Some.is) (sym c.child_may.ensures ∙ c.in_default-child_may.is)

pub returns-then-not-branch-clause-decides : goal.returns-then-not-branch-clause-decides
returns-then-not-branch-clause-decides c =
    birth_unmade c.args.front.now c.args.limits c.args.head c.args.kept (state_of c.args.process.now) c.args.told (state_of c.forks_by.new.process)
    (subst (λ (b : Bool). ForksBy c.args.head.at (state_of c.args.process.now) b (state_of c.forks_by.new.process)) c.if-not-branch.true c.in_ok-forks_by.ensures.by)

pub returns-in-Some-2-clause-decides : goal.returns-in-Some-2-clause-decides
returns-in-Some-2-clause-decides c =
    subst (λ (e : Entry). AnswersBirth c.args.front.now c.args.limits c.args.head c.args.kept (state_of c.args.process.now) c.args.told (Some e)) (sym c.birth.ensures)
    (birth_answered c.args.front.now c.args.limits c.args.head c.args.kept (state_of c.args.process.now) c.args.told c.in-Some.home c.in-Some-child_may.child (state_of c.forks_by.new.process)
    (sym c.home_may.ensures ∙ c.in-Some.is) (sym c.child_may.ensures ∙ c.in-Some-child_may.is)
    (subst (λ (b : Bool). ForksBy c.args.head.at (state_of c.args.process.now) b (state_of c.forks_by.new.process)) c.if-not-branch.false c.in_ok-forks_by.ensures.by) c.in-Some-2.end c.in-Some-2.born (state_of c.bear.new.process)
    (subst (λ (o : Option (ℕ × Process)). Bears c.args.limits c.args.kept c.in-Some-child_may.child c.args.told.end (state_of c.forks_by.new.process) o (state_of c.bear.new.process)) c.in-Some-2.is c.in_ok-end.ensures.bears))

pub returns-in-Some-2-clause-bears : goal.returns-in-Some-2-clause-bears
returns-in-Some-2-clause-bears c =
    birth_borne c.args.front.now c.args.limits c.args.head c.args.kept (state_of c.args.process.now) c.args.told c.in-Some.home c.in-Some-child_may.child (state_of c.forks_by.new.process)
    (sym c.home_may.ensures ∙ c.in-Some.is) (sym c.child_may.ensures ∙ c.in-Some-child_may.is)
    (subst (λ (b : Bool). ForksBy c.args.head.at (state_of c.args.process.now) b (state_of c.forks_by.new.process)) c.if-not-branch.false c.in_ok-forks_by.ensures.by) c.in-Some-2.end c.in-Some-2.born (state_of c.bear.new.process) c.birth.result
    (subst (λ (o : Option (ℕ × Process)). Bears c.args.limits c.args.kept c.in-Some-child_may.child c.args.told.end (state_of c.forks_by.new.process) o (state_of c.bear.new.process)) c.in-Some-2.is c.in_ok-end.ensures.bears)
    c.birth.ensures

pub returns-in-None-clause-decides : goal.returns-in-None-clause-decides
returns-in-None-clause-decides c =
    birth_unborne c.args.front.now c.args.limits c.args.head c.args.kept (state_of c.args.process.now) c.args.told c.in-Some.home c.in-Some-child_may.child (state_of c.forks_by.new.process)
    (sym c.home_may.ensures ∙ c.in-Some.is) (sym c.child_may.ensures ∙ c.in-Some-child_may.is)
    (subst (λ (b : Bool). ForksBy c.args.head.at (state_of c.args.process.now) b (state_of c.forks_by.new.process)) c.if-not-branch.false c.in_ok-forks_by.ensures.by) (state_of c.bear.new.process)
    (subst (λ (o : Option (ℕ × Process)). Bears c.args.limits c.args.kept c.in-Some-child_may.child c.args.told.end (state_of c.forks_by.new.process) o (state_of c.bear.new.process)) c.in-None.is c.in_ok-end.ensures.bears)
